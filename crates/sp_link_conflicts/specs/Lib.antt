pub mod Conflicts
pub mod Declarations
pub mod Earlier
pub mod Laws
pub mod Views
