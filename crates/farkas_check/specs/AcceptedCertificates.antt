-- Accepted certificates, and the node at which another tree is refused. This project's own;
-- contradictions are those of Farkas (1902).
use Rattle.std.specs.Prelude.{◌≡◌, ℕ, ℤ, List, [], Bool, true, false, Some, None, is_some, map}
use Rattle.heyvl_places.specs.declared.spans.Span.{Span}
use Rattle.heylo_formula.specs.Goals.{Goal}
use Rattle.heylo_formula.specs.Typing.{types_in}
use Rattle.linear_form.specs.Query.{Query, Atom, Taken, onto}
use Rattle.linear_form.specs.Questions.{Ends}
use Rattle.linear_form.specs.Splits.{split_at}
use Rattle.linear_form.specs.Paths.{Asks, end_at}
use Rattle.linear_rows.specs.Row.{Row}
use Rattle.linear_rows.specs.VariableTypes.{is_integral}
use Rattle.linear_rows.specs.Combination.{IsContradiction}
use Rattle.linear_form.specs.PathRows.{rows_of, denial_at, IsPlainAt}
use Rattle.linear_form.specs.Nonlinear.{nonlinear_product}
use Rattle.goal_answers.specs.Trees.{Tree}

-- `has_denied g ps`: the denied goal is among the rows of a certificate at the path `ps`: at an end
-- at which the goal does not hold trivially, and nowhere else.
abbrev pub has_denied : Goal → List Taken → Bool
has_denied g ps = is_some (denial_at g.upper (end_at g ps))

-- `IsRefutedWith g ps denied ms`: the multipliers `ms` combine the rows of the path `ps`, with the
-- denied goal if `denied`, to a contradiction.
pub record IsRefutedWith (g : Goal) (ps : List Taken) (denied : Bool) (ms : List (ℕ × ℕ))
    : Type 0 where
  pub rows : List Row
  pub are_rows : rows_of g ps denied ≡ Some rows
  pub contradiction : IsContradiction ms rows

-- `IsRefuted g ps ms`: the multipliers `ms` combine the rows of a certificate at the path `ps` to a
-- contradiction.
abbrev pub IsRefuted : Goal → List Taken → List (ℕ × ℕ) → Type 0
IsRefuted g ps ms = IsRefutedWith g ps (has_denied g ps) ms

-- `CanSplit g ps x`: the path `ps` is at an end at which the goal does not hold trivially, and `x`
-- is an `Int` or `UInt` of the goal.
pub record CanSplit (g : Goal) (ps : List Taken) (x : ℕ) : Type 0 where
  pub ends : Ends
  pub at_end : end_at g ps ≡ Query.done ends
  pub not_plain : IsPlainAt g ps → ⊥
  pub whole_type : is_integral (types_in g.types x) ≡ true

-- `IsAccepted g ps t`: the tree `t` is accepted at the end of the path `ps`.
pub data IsAccepted (g : Goal) : List Taken → Tree → Type 0 where
  split : (ps : List Taken) (q : Atom) (t u : Tree) → Asks g ps q → IsAccepted g (onto ps q true) t
      → IsAccepted g (onto ps q false) u → IsAccepted g ps (Tree.split t u)
  farkas : (ps : List Taken) (ms : List (ℕ × ℕ)) → IsRefuted g ps ms
      → IsAccepted g ps (Tree.farkas ms)
  plain : (ps : List Taken) → IsPlainAt g ps → IsAccepted g ps Tree.plain
  whole : (ps : List Taken) (x : ℕ) (m : ℤ) (t u : Tree) → CanSplit g ps x
      → IsAccepted g (onto ps (split_at x m) true) t → IsAccepted g (onto ps (split_at x m) false) u
      → IsAccepted g ps (Tree.whole x m t u)

-- `answers ps`: the answers of the path `ps`.
abbrev pub answers : List Taken → List Bool
answers ps = map (λ p. p.held) ps

-- `IsRefused g ps t place`: the tree `t` is refused at the end of the path `ps`. `place` are the
-- answers, to comparisons and splits, that lead to the first node, in the order of the text, that
-- the goal does not allow.
pub data IsRefused (g : Goal) : List Taken → Tree → List Bool → Type 0 where
  no_question : (ps : List Taken) (t u : Tree) → ((q : Atom) → Asks g ps q → ⊥)
      → IsRefused g ps (Tree.split t u) (answers ps)
  no_contradiction : (ps : List Taken) (ms : List (ℕ × ℕ)) → (IsRefuted g ps ms → ⊥)
      → IsRefused g ps (Tree.farkas ms) (answers ps)
  not_plain : (ps : List Taken) → (IsPlainAt g ps → ⊥) → IsRefused g ps Tree.plain (answers ps)
  first : (ps : List Taken) (q : Atom) (t u : Tree) (place : List Bool) → Asks g ps q
      → IsRefused g (onto ps q true) t place → IsRefused g ps (Tree.split t u) place
  second : (ps : List Taken) (q : Atom) (t u : Tree) (place : List Bool) → Asks g ps q
      → IsAccepted g (onto ps q true) t → IsRefused g (onto ps q false) u place
      → IsRefused g ps (Tree.split t u) place
  no_split : (ps : List Taken) (x : ℕ) (m : ℤ) (t u : Tree) → (CanSplit g ps x → ⊥)
      → IsRefused g ps (Tree.whole x m t u) (answers ps)
  first_half : (ps : List Taken) (x : ℕ) (m : ℤ) (t u : Tree) (place : List Bool) → CanSplit g ps x
      → IsRefused g (onto ps (split_at x m) true) t place
      → IsRefused g ps (Tree.whole x m t u) place
  second_half : (ps : List Taken) (x : ℕ) (m : ℤ) (t u : Tree) (place : List Bool) → CanSplit g ps x
      → IsAccepted g (onto ps (split_at x m) true) t
      → IsRefused g (onto ps (split_at x m) false) u place
      → IsRefused g ps (Tree.whole x m t u) place

-- `IsCertificate g t`: the tree `t` is a certificate of the goal `g`. A goal with a nonlinear
-- product has none.
pub record IsCertificate (g : Goal) (t : Tree) : Type 0 where
  pub linear : nonlinear_product g ≡ None
  pub accepted : IsAccepted g [] t

-- `IsNoCertificate g t place`: the tree `t` is no certificate of the goal `g`, and is refused first
-- at `place`.
pub data IsNoCertificate (g : Goal) (t : Tree) : List Bool → Type 0 where
  product : (span : Span) → nonlinear_product g ≡ Some span → IsNoCertificate g t []
  at_node : (place : List Bool) → nonlinear_product g ≡ None → IsRefused g [] t place
      → IsNoCertificate g t place
