pub mod SharedStore
