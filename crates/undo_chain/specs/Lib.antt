pub mod Records
pub mod Chains
pub mod States
pub mod Links
pub mod Walks
pub mod Laws
pub mod Packed
pub mod Slots
