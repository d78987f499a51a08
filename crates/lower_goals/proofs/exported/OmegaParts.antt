-- For other crates: the static rules on the parts of an omega pair.
pub use Rattle.lower_goals.proofs.OmegaParts.{body_acts, formula_over, formula_plain, guard_over, guard_plain}
