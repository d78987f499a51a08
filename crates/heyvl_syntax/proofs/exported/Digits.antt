-- For the proofs of other crates: the digits of numbers.
pub use Rattle.heyvl_syntax.proofs.Digits.{other_stays}
