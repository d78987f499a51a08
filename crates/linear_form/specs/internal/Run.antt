-- The evaluation of a tree along a path, from an index of the path on: the result of the program at
-- each node. The trees themselves do not mention indexes.
use Rattle.std.specs.Prelude.{ℕ, ◌+◌, List, [], ◌∷◌, Bool, true, false, take, drop, Option, Some}
use Rattle.std.specs.Prelude.{None, if◌then◌else◌}
use Rattle.linear_form.specs.Query.{Query, Atom, Taken, known}

-- The result of an evaluation: a value and the index of the next answer of the path, or what stops
-- the evaluation.
pub data Evaluation (A : Type 0) : Type 0 where
  value : A → ℕ → Evaluation A
  decide : Atom → Evaluation A
  bits : Evaluation A

-- `turned ps q y n`: `y` or `n` by the first answer of `ps`, or, if there is none, a stop at the
-- comparison `q`.
abbrev pub turned : {A : Type 0} → List Taken → Atom → Evaluation A → Evaluation A → Evaluation A
turned [] q y n = Evaluation.decide q
turned (p ∷ ps) q y n = if p.held then y else n

abbrev pub heard : {A : Type 0} → Option Bool → Evaluation A → Evaluation A → Evaluation A
    → Evaluation A
heard (Some true) y n o = y
heard (Some false) y n o = n
heard None y n o = o

unfoldable pub along : {A : Type 0} → List Taken → Query A → ℕ → Evaluation A
along ps (Query.done a) i = Evaluation.value a i
along ps Query.bits i = Evaluation.bits
along ps (Query.ask (Atom.row a strict) y n) i =
    turned (drop i ps) (Atom.row a strict) (along ps y (i + 1)) (along ps n (i + 1))
along ps (Query.ask (Atom.truth x) y n) i = heard (known x (take i ps)) (along ps y i)
    (along ps n i) (turned (drop i ps) (Atom.truth x) (along ps y (i + 1)) (along ps n (i + 1)))

abbrev pub onward : {A B : Type 0} → Evaluation A → (A → ℕ → Evaluation B) → Evaluation B
onward (Evaluation.value a i) f = f a i
onward (Evaluation.decide q) f = Evaluation.decide q
onward Evaluation.bits f = Evaluation.bits
