-- Trees of comparisons about a state: a result, an overflow, or a comparison with the subtrees of
-- both answers. This project's own.
use Rattle.std.specs.Prelude.{ℕ, List, [], ◌∷◌, ◌++◌, Bool, true, false, ◌==◌, Option, Some, None}
use Rattle.std.specs.Prelude.{if◌then◌else◌}
use Rattle.heylo_formula.specs.State.{Env, truth_of}
use Rattle.linear_values.specs.Lin.{Lin, at}
use Rattle.linear_rows.specs.Numbers.{is_negative}

-- A comparison: `truth x`, whether the Boolean `x` is true, or `row a strict`, whether the linear
-- value `a` is at most 0 or, if `strict`, below 0.
pub data Atom : Type 0 where
  truth : ℕ → Atom
  row : Lin → Bool → Atom

-- A tree of comparisons: `done a` has the result `a`, `bits` is an overflow, and `ask q y n` is the
-- comparison `q` with the subtree `y` if it holds and `n` if it does not.
pub data Query (A : Type 0) : Type 0 where
  done : A → Query A
  bits : Query A
  ask : Atom → Query A → Query A → Query A

-- `next t f`: the tree `t` with each result `a` replaced by the tree `f a`.
abbrev pub next : {A B : Type 0} → Query A → (A → Query B) → Query B
next (Query.done a) f = f a
next Query.bits f = Query.bits
next (Query.ask q y n) f = Query.ask q (next y f) (next n f)

-- `holds_at q s`: the answer of the state `s` to the comparison `q`.
abbrev pub holds_at : Atom → Env → Bool
holds_at (Atom.truth x) s = truth_of (s x)
holds_at (Atom.row a strict) s = is_negative (at a s) strict

-- An answered comparison.
pub record Taken : Type 0 where
  pub atom : Atom
  pub held : Bool

-- `known_by x q held other`: the truth of the Boolean `x` after the comparison `q` is answered with
-- `held`: this answer if `q` is about `x`, otherwise `other`.
abbrev pub known_by : ℕ → Atom → Bool → Option Bool → Option Bool
known_by x (Atom.truth y) held other = if x == y then Some held else other
known_by x (Atom.row a strict) held other = other

-- `known x ps`: the truth of the Boolean `x` if the path `ps` has decided it.
abbrev pub known : ℕ → List Taken → Option Bool
known x [] = None
known x (p ∷ ps) = known_by x p.atom p.held (known x ps)

-- `onto ps q held`: the path `ps` with one more answer, `held`, to the comparison `q`.
abbrev pub onto : List Taken → Atom → Bool → List Taken
onto ps q held = ps ++ (record { atom = q; held = held } ∷ [])

-- `unless_known b y n asked`: `y` or `n` if the truth `b` is known, otherwise `asked`.
abbrev pub unless_known : {A : Type 0} → Option Bool → Query A → Query A → Query A → Query A
unless_known (Some true) y n asked = y
unless_known (Some false) y n asked = n
unless_known None y n asked = asked

-- `once ps t`: the tree `t` after the path `ps`, in which a Boolean that is decided is not asked
-- again. A comparison of numbers is asked again.
abbrev pub once : {A : Type 0} → List Taken → Query A → Query A
once ps (Query.done a) = Query.done a
once ps Query.bits = Query.bits
once ps (Query.ask (Atom.row a strict) y n) = Query.ask (Atom.row a strict)
    (once (onto ps (Atom.row a strict) true) y) (once (onto ps (Atom.row a strict) false) n)
once ps (Query.ask (Atom.truth x) y n) = unless_known (known x ps) (once ps y) (once ps n)
    (Query.ask (Atom.truth x) (once (onto ps (Atom.truth x) true) y)
    (once (onto ps (Atom.truth x) false) n))
