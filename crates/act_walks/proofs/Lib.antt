mod GatheredActs
mod FoundLoops
