mod NumberLists
mod Heads
mod Texts
mod Examples
mod StateTexts
