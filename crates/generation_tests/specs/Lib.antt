pub mod BooleanActs
