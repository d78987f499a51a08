use Rattle.std.proofs.Common.{◌≡◌, ℕ, Bool, true, false, ◌==◌, arith, refl}
use Rattle.heylo_formula.specs.Formula.{Form}
use Rattle.heylo_formula.specs.Variables.{is_free}
use Rattle.heylo_formula.specs.Substitution.{renamed}
use Rattle.heylo_formula.proofs.exported.Agreement.{clash}
use Rattle.heylo_formula.proofs.exported.BinderNames.{names_renamed}
use Rattle.heylo_formula.proofs.exported.Growth.{same_nodes, same_depth}
use Rattle.heylo_formula.proofs.exported.Substitutions.{renamed_free, renamed_type, renamed_truth, renamed_binder, renamed_directed}
use Rattle.heylo_formula.proofs.laws.what_renaming_keeps.Goals as goal

differs : (y z : ℕ) → (y ≡ z → ⊥) → (y == z) ≡ false
differs y z n = go (y == z) refl
  where
    go : (b : Bool) → (y == z) ≡ b → b ≡ false
    go true e = absurd (n (grind arith))
    go false e = refl

apart : (y w : ℕ) → (y == w) ≡ false → y ≡ w → ⊥
apart y w e p = let k : (y == w) ≡ true = grind arith in clash (y == w) k e

free : (y w z : ℕ) (f : Form) → is_free y (renamed w z f) ≡ true → ((y ≡ z → ⊥) → (is_free y f ≡ true) × (y ≡ w → ⊥))
free y w z f h n = let p = renamed_free y w z (differs y z n) f h in (p.0, apart y w p.1)

pub returns : goal.returns
returns c = record {
  types = renamed_type;
  conditions = renamed_truth;
  sizes = λ y z f. (same_nodes y z f, same_depth y z f);
  binders = λ y z f. (renamed_binder y z f, names_renamed y z f);
  directions = renamed_directed;
  variables = free;
}
