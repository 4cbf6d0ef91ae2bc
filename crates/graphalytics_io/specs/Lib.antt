pub mod Fields
pub mod FieldLines
pub mod Numbers
pub mod Load
pub mod Appends
