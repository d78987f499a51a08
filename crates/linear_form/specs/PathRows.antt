-- The rows of a path: the claims of its answers, the denied goal if it is asked for, and that no
-- unsigned variable is negative. This project's own.
use Rattle.std.specs.Prelude.{◌≡◌, ℕ, List, [], ◌∷◌, ◌++◌, length, Bool, true, false, not, ◌==◌}
use Rattle.std.specs.Prelude.{◌&&◌, ◌||◌, Option, Some, None, if◌then◌else◌}
use Prim.Native.Nat.{zero, suc}
use Rattle.heylo_formula.specs.Goals.{Goal}
use Rattle.heylo_formula.specs.Typing.{Types, types_in}
use Rattle.heylo_formula.specs.declared.types.Ty.{Ty}
use Rattle.linear_rows.specs.Row.{Row}
use Rattle.linear_values.specs.Lin.{Lin, Terms, constant, variable, minus, scaled, Linear}
use Rattle.linear_rows.specs.Numbers.{minus_oneʳ}
use Rattle.linear_form.specs.Query.{Query, Atom, Taken}
use Rattle.linear_form.specs.Questions.{Ends}
use Rattle.linear_form.specs.Paths.{end_at}
use Rattle.linear_values.specs.Tightening.{Claim, all_tightened}

-- `claim a strict`: the claim that the linear value `a` is at most 0 or, if `strict`, below 0.
abbrev pub claim : Lin → Bool → Claim
claim a strict = record { left = a; strict = strict }

-- `negated a`: the linear value `-a`.
abbrev pub negated : Lin → Lin
negated a = scaled minus_oneʳ a

-- `answer_claims q held`: the claim of the answer `held` to a comparison `q` of numbers. The
-- negation is strict if the comparison is not: `x - 3 <= 0` answered with no claims `3 - x < 0`.
-- The truth of a Boolean claims nothing about numbers.
abbrev pub answer_claims : Atom → Bool → List Claim
answer_claims (Atom.truth x) held = []
answer_claims (Atom.row a strict) held =
    (if held then claim a strict else claim (negated a) (not strict)) ∷ []

-- `path_claims ps`: the claims of all answers of the path `ps`, in order.
abbrev pub path_claims : List Taken → List Claim
path_claims [] = []
path_claims (p ∷ ps) = answer_claims p.atom p.held ++ path_claims ps

-- `below_claim x y`: the claim that the value `x` is below the value `y`. If only `y` is infinity,
-- this is the true claim `-1 < 0`; if `x` is infinity, there is no claim, because nothing is above
-- infinity.
abbrev pub below_claim : Linear → Linear → Option Claim
below_claim (Some a) (Some b) = Some (claim (minus a b) true)
below_claim (Some a) None = Some (claim (constant minus_oneʳ) true)
below_claim None y = None

-- `denial upper e`: the denied goal: the stated value is below the computed one or, in a lower
-- goal, the computed value is below the stated one. It is `None` if the goal holds trivially.
abbrev pub denial : Bool → Ends → Option Claim
denial upper e = if upper then below_claim e.0 e.1 else below_claim e.1 e.0

-- `listed k`: the list of the claim `k`, empty if there is none.
abbrev pub listed : Option Claim → List Claim
listed (Some k) = k ∷ []
listed None = []

-- `denial_at upper t`: the denied goal at the end `t` of a path. It is `None` if a comparison is
-- left, a number overflows, or the goal holds trivially.
abbrev pub denial_at : Bool → Query Ends → Option Claim
denial_at upper (Query.done e) = denial upper e
denial_at upper Query.bits = None
denial_at upper (Query.ask q y n) = None

-- `IsPlainAt g ps`: the path `ps` is at an end at which the goal `g` holds trivially.
pub record IsPlainAt (g : Goal) (ps : List Taken) : Type 0 where
  pub ends : Ends
  pub at_end : end_at g ps ≡ Query.done ends
  pub plain : denial g.upper ends ≡ None

-- `occurs_in_terms x ts`: the variable `x` has a term in `ts`.
abbrev pub occurs_in_terms : ℕ → Terms → Bool
occurs_in_terms x [] = false
occurs_in_terms x (t ∷ ts) = (x == t.0) || occurs_in_terms x ts

-- `occurs_in_claims x ks`: the variable `x` has a term in one of the claims `ks`.
abbrev pub occurs_in_claims : ℕ → List Claim → Bool
occurs_in_claims x [] = false
occurs_in_claims x (k ∷ ks) = occurs_in_terms x k.left.terms || occurs_in_claims x ks

-- `is_unsigned_type ty`: `ty` is a type of nonnegative numbers, `UInt` or `UReal`.
abbrev pub is_unsigned_type : Ty → Bool
is_unsigned_type Ty.Bool = false
is_unsigned_type Ty.Int = false
is_unsigned_type Ty.UInt = true
is_unsigned_type Ty.UReal = true

-- `sign_claims types ks n`: for each unsigned variable `x` below `n` that occurs in the claims
-- `ks`, in order, the claim `-x <= 0`.
abbrev pub sign_claims : Types → List Claim → ℕ → List Claim
sign_claims types ks zero = []
sign_claims types ks (suc n) = sign_claims types ks n
    ++ (if is_unsigned_type (types n) && occurs_in_claims n ks
    then claim (negated (variable n)) false ∷ [] else [])

-- `with_signs g ks`: the claims `ks`, followed by the claim `-x <= 0` for each unsigned variable
-- `x` that occurs in them.
abbrev pub with_signs : Goal → List Claim → List Claim
with_signs g ks = ks ++ sign_claims (types_in g.types) ks (length g.types)

-- `claims_of g ps denied`: the claims of the path `ps`, with the denied goal if `denied`, and with
-- the signs of unsigned variables.
abbrev pub claims_of : Goal → List Taken → Bool → List Claim
claims_of g ps denied = with_signs g
    (path_claims ps ++ (if denied then listed (denial_at g.upper (end_at g ps)) else []))

-- `rows_of g ps denied`: the claims of the path, each tightened to a row of integers; `None` if a
-- number of one of them overflows.
abbrev pub rows_of : Goal → List Taken → Bool → Option (List Row)
rows_of g ps denied = all_tightened (types_in g.types) (claims_of g ps denied)
