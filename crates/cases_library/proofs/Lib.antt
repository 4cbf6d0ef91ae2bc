pub mod LoadLemmas
pub mod PaymentLemmas
