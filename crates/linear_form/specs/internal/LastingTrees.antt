-- Trees that surely ask a number of comparisons of numbers.
use Prim.Native.Nat.{zero, suc}
use Rattle.std.specs.Prelude.{ℕ}
use Rattle.linear_form.specs.Query.{Query, Atom}

-- `Lasts k t`: each way to a result of the tree `t` passes at least `k` comparisons of numbers.
-- Booleans do not count, because they may be decided already.
unfoldable pub Lasts : {A : Type 0} → ℕ → Query A → Type 0
Lasts zero t = Unit {0}
Lasts (suc k) (Query.done a) = ⊥
Lasts (suc k) Query.bits = Unit {0}
Lasts (suc k) (Query.ask (Atom.row a strict) y n) = Lasts k y × Lasts k n
Lasts (suc k) (Query.ask (Atom.truth x) y n) = Lasts (suc k) y × Lasts (suc k) n

-- `IsComparison q`: the comparison `q` is one of numbers.
abbrev pub IsComparison : Atom → Type 0
IsComparison (Atom.row a strict) = Unit {0}
IsComparison (Atom.truth x) = ⊥
