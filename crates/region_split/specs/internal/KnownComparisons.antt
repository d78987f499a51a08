-- Comparisons whose rows for both answers are known.
use Rattle.std.specs.Prelude.{◌≡◌, ℕ, ◌<◌, List, [], ◌∷◌, length, Bool, true, false, not, Some}
use Rattle.std.specs.Prelude.{get_or}
use Rattle.std.specs.List.{All}
use Rattle.heylo_formula.specs.Typing.{types_in}
use Rattle.heylo_formula.specs.declared.types.Ty.{Ty}
use Rattle.linear_form.specs.Query.{Atom}
use Rattle.linear_values.specs.Tightening.{all_tightened}
use Rattle.linear_form.specs.PathRows.{answer_claims}
use Rattle.linear_values.specs.PlainValues.{lin_of}
use Rattle.linear_rows.specs.Row.{Row}
use Rattle.linear_rows.specs.Combination.{row_at}
use Rattle.region_split.specs.internal.Clashes.{Clash}
use Rattle.region_split.specs.declared.known_comparisons.Known.{Known}
use Rattle.region_split.specs.declared.known_comparisons.Recalled.{Recalled}

abbrev pub question_of : Known → Atom
question_of k = Atom.row (lin_of k.left) k.strict

-- `IsRowOf types q held r`: `r` is the row of the answer `held` to the comparison `q`.
abbrev pub IsRowOf : List Ty → Atom → Bool → Row → Type 0
IsRowOf types q held r = all_tightened (types_in types) (answer_claims q held) ≡ Some (r ∷ [])

-- `IsKnownQuestion types k`: the rows of `k` are those of the two answers to its comparison, and
-- they exclude each other.
pub record IsKnownQuestion (types : List Ty) (k : Known) : Type 0 where
  pub yes : IsRowOf types (question_of k) true k.yes
  pub no : IsRowOf types (question_of k) false k.no
  pub clash : Clash k.yes k.no
  pub other_clash : Clash k.no k.yes

abbrev pub AreKnown : List Ty → List Known → Type 0
AreKnown types ks = All (IsKnownQuestion types) ks

-- `IsNumber ks q n`: number `n` of `ks` is the comparison `q`.
abbrev pub IsNumber : List Known → Atom → ℕ → Type 0
IsNumber ks q n = (d : Known) → question_of (get_or ks n d) ≡ q

-- `IsRecalled types rows q r`: the row at the index of `r` is that of its answer to the comparison
-- `q`, and it excludes the row of the opposite answer.
pub record IsRecalled (types : List Ty) (rows : List Row) (q : Atom) (r : Recalled) : Type 0 where
  pub inside : r.index < length rows
  pub own : IsRowOf types q r.held (row_at rows r.index)
  pub other : Row
  pub others : IsRowOf types q (not r.held) other
  pub clash : Clash (row_at rows r.index) other
