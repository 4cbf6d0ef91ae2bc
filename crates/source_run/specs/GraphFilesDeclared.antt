-- Modules of graph_files that crates above name.
pub use Rattle.graph_files.specs.declared.refusal
