pub mod Payments
