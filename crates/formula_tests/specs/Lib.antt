pub mod PlainFormulas
