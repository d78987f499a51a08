pub mod SearchMemory
