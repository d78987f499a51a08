mod ClapWords
mod Examples
mod GenWords
mod Words
