pub mod Canonical
pub mod Laws
pub mod Numbers
pub mod Pieces
pub mod Printable
pub mod WithoutPlaces
