pub mod GuardedGoals
