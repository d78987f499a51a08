-- Paths: answered comparisons of the tree of a goal, then splits of integer variables, and the
-- states that agree with them.
use Rattle.std.specs.Prelude.{◌≡◌, ◌⊎◌, List, [], ◌∷◌, ◌++◌, true, false, if◌then◌else◌}
use Rattle.std.specs.List.{All}
use Rattle.heylo_formula.specs.Goals.{Goal}
use Rattle.heylo_formula.specs.State.{Env}
use Rattle.linear_form.specs.Query.{Query, Atom, Taken, holds_at}
use Rattle.linear_form.specs.Query.Query.{ask}
use Rattle.linear_form.specs.Questions.{Ends, questions}
use Rattle.linear_form.specs.Splits.{IsSplit}

-- `walk t ps`: the subtree of `t` after the answers `ps`. A result has no comparisons left, so
-- further answers do not change it.
abbrev pub walk : {A : Type 0} → Query A → List Taken → Query A
walk (Query.done a) ps = Query.done a
walk Query.bits ps = Query.bits
walk (Query.ask q y n) [] = Query.ask q y n
walk (Query.ask q y n) (p ∷ ps) = if p.held then walk y ps else walk n ps

-- `Path t ps`: the answers `ps` answer comparisons of the tree `t`, in order from its root.
pub data Path {A : Type 0} : Query A → List Taken → Type 0 where
  start : (t : Query A) → Path t []
  yes : (q : Atom) (y n : Query A) (ps : List Taken) → Path y ps
      → Path (Query.ask q y n) (record { atom = q; held = true } ∷ ps)
  no : (q : Atom) (y n : Query A) (ps : List Taken) → Path n ps
      → Path (Query.ask q y n) (record { atom = q; held = false } ∷ ps)

-- `IsQuestionPath g ps`: the path `ps` answers comparisons of the goal `g`, and has no splits.
abbrev pub IsQuestionPath : Goal → List Taken → Type 0
IsQuestionPath g ps = Path (questions g) ps

-- `end_at g ps`: what is at the end of the path `ps`: the next comparison, the two values, or an
-- overflow.
abbrev pub end_at : Goal → List Taken → Query Ends
end_at g ps = walk (questions g) ps

-- `IsPath g ps`: the path `ps` answers comparisons of the goal `g`, and then, if these have led to
-- an end, splits.
pub record IsPath (g : Goal) (ps : List Taken) : Type 0 where
  pub asked : List Taken
  pub splits : List Taken
  pub parts : ps ≡ asked ++ splits
  pub is_asked : IsQuestionPath g asked
  pub are_splits : All (IsSplit g.types) splits
  pub at_end : (splits ≡ []) ⊎ ((e : Ends) × (end_at g asked ≡ Query.done e))

-- `Agrees s ps`: the state `s` answers each comparison as the path `ps` does.
abbrev pub Agrees : Env → List Taken → Type 0
Agrees s [] = Unit {0}
Agrees s (p ∷ ps) = (holds_at p.atom s ≡ p.held) × Agrees s ps

-- `Asks g ps q`: the next comparison of the goal `g` after the path `ps` is `q`.
pub record Asks (g : Goal) (ps : List Taken) (q : Atom) : Type 0 where
  pub yes : Query Ends
  pub no : Query Ends
  pub question : end_at g ps ≡ ask q yes no

-- `Ended t`: no comparison is left.
pub data Ended {A : Type 0} : Query A → Type 0 where
  result : (a : A) → Ended (Query.done a)
  large : Ended Query.bits

-- `IsPathOf g s ps`: the path `ps` of the state `s`: to an end, answered as `s` does.
pub record IsPathOf (g : Goal) (s : Env) (ps : List Taken) : Type 0 where
  pub is_path : IsQuestionPath g ps
  pub agrees : Agrees s ps
  pub ended : Ended (end_at g ps)
