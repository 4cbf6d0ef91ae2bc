pub mod Making
pub mod PassCells
pub mod PassCellsDeclared
pub mod PassSweeps
pub mod PassWrites
pub mod PassWritesDeclared
