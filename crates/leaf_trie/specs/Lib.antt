pub mod Path
pub mod Starts
pub mod Subtree
pub mod Nodes
pub mod Falls
pub mod Leaves
