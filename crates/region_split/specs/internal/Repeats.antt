-- Comparisons that the path has answered before.
use Rattle.std.specs.Prelude.{◌≡◌, List, [], ◌∷◌, ◌++◌, Bool, true, false, None}
use Rattle.heylo_formula.specs.Goals.{Goal}
use Rattle.heylo_formula.specs.Typing.{types_in}
use Rattle.linear_form.specs.Query.{Atom, Taken, onto}
use Rattle.linear_rows.specs.Row.{Row}
use Rattle.linear_values.specs.Tightening.{all_tightened}
use Rattle.linear_form.specs.PathRows.{path_claims}
use Rattle.linear_form.specs.PlainPaths.{path_of, taken_of, atom_of}
use Rattle.linear_form.specs.RowLists.{ArePathRows}
use Rattle.linear_form.specs.LastingPaths.{IsNoEnd}
use Rattle.linear_form.specs.Cells.{IsKeptPath, GoesOn}
use Rattle.linear_form.specs.declared.paths.Taken as T
use Rattle.region_split.specs.internal.Trails.{StandsAt, IsDroppedBy}
use Rattle.region_split.specs.internal.PathFindings.{EndsWalk}
use Rattle.region_split.specs.declared.trail.Trail.{Trail}
use Rattle.region_split.specs.declared.answer_rows.Answered.{Answered}
use Rattle.region_split.specs.declared.answer_rows.Answered.TheVariants as A
use Rattle.region_split.specs.declared.answer_rows.AnswerRows.{AnswerRows}
use Rattle.region_split.specs.declared.answer_rows.Both.{Both}
use Rattle.region_split.specs.declared.answer_rows.Both.TheVariants as B
use Rattle.region_split.specs.declared.repeats.Repeat.{Repeat}
use Rattle.region_split.specs.declared.repeats.Repeat.TheVariants.{New, Yes, No, Unknown}

-- `HasAnswerRow`: the path and its rows are unchanged, and `row` is the row of `answer`.
pub record HasAnswerRow (g : Goal) (path : List T.Taken) (rows : List Row) (answer : T.Taken)
    (path_after : List T.Taken) (rows_after : List Row) (row : Row) : Type 0 where
  pub same_path : path_after ≡ path
  pub same_rows : rows_after ≡ rows
  pub are_rows : ArePathRows g (path_of path ++ (taken_of answer ∷ [])) (rows ++ (row ∷ []))

-- `LacksAnswerRow`: the path is unchanged, and the row of `answer` overflows.
pub record LacksAnswerRow (g : Goal) (path : List T.Taken) (answer : T.Taken)
    (path_after : List T.Taken) : Type 0 where
  pub same_path : path_after ≡ path
  pub no_rows : all_tightened (types_in g.types)
      (path_claims (path_of path ++ (taken_of answer ∷ []))) ≡ None

abbrev pub IsRowAnswer : Goal → List T.Taken → List Row → T.Taken → List T.Taken → List Row
    → Answered → Type 0
IsRowAnswer g path rows answer path_after rows_after (A.Row q r) =
    (q ≡ answer.atom) × HasAnswerRow g path rows answer path_after rows_after r
IsRowAnswer g path rows answer path_after rows_after (A.Bits q) =
    (q ≡ answer.atom) × LacksAnswerRow g path answer path_after

-- `AreAnswerRows g ps q t rows`: the trail `t` is at the path `ps`, and `rows` are those of the two
-- answers to its comparison `q`.
pub record AreAnswerRows (g : Goal) (ps : List Taken) (q : Atom) (t : Trail) (rows : AnswerRows)
    : Type 0 where
  pub at : StandsAt g ps t
  pub yes : ArePathRows g (onto ps q true) (t.rows.items ++ (rows.yes ∷ []))
  pub no : ArePathRows g (onto ps q false) (t.rows.items ++ (rows.no ∷ []))

abbrev pub IsBoth : Goal → List Taken → Atom → Trail → Both → Type 0
IsBoth g ps q t (B.Rows a rows) = (atom_of a ≡ q) × AreAnswerRows g ps q t rows
IsBoth g ps q t (B.Lost a) = (atom_of a ≡ q) × StandsAt g ps t
IsBoth g ps q t (B.Unknown cause) = EndsWalk g ps false cause

-- `IsAsked g ps q`: `q` is the next comparison of the kept path `ps`, and the path is not at an end
-- after either answer.
pub record IsAsked (g : Goal) (ps : List Taken) (q : Atom) : Type 0 where
  pub goes_on : GoesOn g ps q
  pub lasts : (held : Bool) → IsNoEnd g (onto ps q held)

-- `IsRepeat g ps q t r`: the comparison `q` may be new; or the path is kept with one answer and
-- dropped with the other; or the walk ends.
abbrev pub IsRepeat : Goal → List Taken → Atom → Trail → Repeat → Type 0
IsRepeat g ps q t (New a) = (atom_of a ≡ q) × StandsAt g ps t
IsRepeat g ps q t Yes = StandsAt g (onto ps q true) t × IsKeptPath g (onto ps q true)
IsRepeat g ps q t (No ms) = StandsAt g (onto ps q false) t
    × (IsKeptPath g (onto ps q false) × IsDroppedBy g (onto ps q true) ms.items)
IsRepeat g ps q t (Unknown cause) = EndsWalk g ps false cause
