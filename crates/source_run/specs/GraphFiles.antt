-- Modules of graph_files that crates above name.
pub use Rattle.graph_files.specs.EdgeFiles
pub use Rattle.graph_files.specs.Faults
pub use Rattle.graph_files.specs.Laws
pub use Rattle.graph_files.specs.Load
pub use Rattle.graph_files.specs.VertexFiles
