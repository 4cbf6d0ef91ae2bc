pub mod Marks
pub mod Settled
pub mod Swept
