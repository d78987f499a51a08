pub mod Callees
pub mod MarkedNumbers
pub mod CallWalk
