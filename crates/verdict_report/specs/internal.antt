pub mod Listings
