pub mod App
pub mod Numbers
pub mod Words
pub mod Laws
pub mod Views
