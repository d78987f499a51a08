pub mod PlaceWalks
