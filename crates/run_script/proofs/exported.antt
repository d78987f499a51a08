pub mod PlainReader
pub mod StartStates
pub mod UniqueScripts
