-- The goals of a file, and whether a list of certificates proves them. This project's own.
use Rattle.std.specs.Prelude.{◌≡◌, ℕ, Bool, List, [], Option, Some, None}
use Rattle.std.specs.List.{Contains}
use Rattle.farkas_check.specs.AcceptedCertificates.{IsCertificate, IsNoCertificate}
use Rattle.goal_answers.specs.Trees.{Tree, tree_of}
use Rattle.goal_answers.specs.declared.misses.Miss.{Miss}
use Rattle.goal_answers.specs.declared.misses.Miss.TheVariants.{Absent, Place}
use Rattle.goal_answers.specs.declared.named_goals.NamedGoal.{NamedGoal}
use Rattle.goal_answers.specs.declared.trees.GoalCert.{GoalCert}
use Rattle.heylo_formula.specs.Goals.{goal_of}
use Rattle.heylo_formula.specs.declared.goals.GoalId.{GoalId}
use Rattle.heylo_formula.specs.declared.goals.Made.{Made}
use Rattle.heylo_formula.specs.declared.goals.Made.TheVariants as made
use Rattle.heyvl_acts.specs.Acts.{TypedProcedure}
use Rattle.verify_core.specs.Tables.{AreBoundsFound, AreRankingsFound, GoalWith}
use Rattle.verify_core.specs.declared.outcomes.Outcome.{Outcome}
use Rattle.verify_core.specs.declared.outcomes.Outcome.TheVariants.{Proved, Missed}

-- `certs` has a certificate with `tree` for the goal `id` of the procedure with the number `proc`.
pub record HasTree (certs : List GoalCert) (proc : ℕ) (id : GoalId) (tree : Tree) : Type 0 where
  pub cert : GoalCert
  pub listed : Contains certs cert
  pub of_procedure : cert.proc ≡ proc
  pub of_goal : cert.id ≡ id
  pub its_tree : tree_of cert.tree ≡ tree

-- `Certifies made t`: `t` is a certificate of the goal `made`. A form that passes a limit has no
-- goal, and so no certificate.
abbrev pub Certifies : Made → Tree → Type 0
Certifies (made.Goal g) t = IsCertificate (goal_of g) t
Certifies made.Depth t = ⊥
Certifies made.Nodes t = ⊥

-- `IsRefusedAt made t place`: `t` is no certificate of the goal `made`, and `place` is the first
-- place at which it is refused. If there is no goal, this is the root.
abbrev pub IsRefusedAt : Made → Tree → List Bool → Type 0
IsRefusedAt (made.Goal g) t place = IsNoCertificate (goal_of g) t place
IsRefusedAt made.Depth t place = place ≡ []
IsRefusedAt made.Nodes t place = place ≡ []

-- `certs` has a certificate of the goal `g`.
pub record IsGoalAccepted (certs : List GoalCert) (g : NamedGoal) : Type 0 where
  pub tree : Tree
  pub has : HasTree certs g.proc g.id tree
  pub certifies : Certifies g.made tree

-- `certs` has a tree for the goal `g`, and `place` is the first place at which it is refused.
pub record IsGoalRefused (certs : List GoalCert) (g : NamedGoal) (place : List Bool) : Type 0 where
  pub tree : Tree
  pub has : HasTree certs g.proc g.id tree
  pub refused : IsRefusedAt g.made tree place

-- `IsMissOf certs g miss`: why `certs` does not prove the goal `g`. `Absent`: it has no tree for
-- `g`; `Place`: its tree is refused there; `None`: its tree is a certificate of `g`.
abbrev pub IsMissOf : List GoalCert → NamedGoal → Option Miss → Type 0
IsMissOf certs g None = IsGoalAccepted certs g
IsMissOf certs g (Some Absent) = (t : Tree) → HasTree certs g.proc g.id t → ⊥
IsMissOf certs g (Some (Place way)) = IsGoalRefused certs g way.items

-- A goal, and why the certificates do not prove it, or `None` if they do.
abbrev pub CheckedGoal : Type 0
CheckedGoal = GoalWith (Option Miss)

-- `IsCheckedTable ps certs p qs table`: `table` has for each of the procedures `qs`, numbered from
-- `p` on, the goals of its bound, checked by `certs`.
abbrev pub IsCheckedTable : List TypedProcedure → List GoalCert → ℕ → List TypedProcedure
    → List (List CheckedGoal) → Type 0
IsCheckedTable ps certs p qs table = AreBoundsFound (IsMissOf certs) ps p qs table

-- `IsCheckedRankTable ps certs p qs table`: `table` has for each of the procedures `qs`, numbered
-- from `p` on, the goals of its rankings, checked by `certs`.
abbrev pub IsCheckedRankTable : List TypedProcedure → List GoalCert → ℕ → List TypedProcedure
    → List (List CheckedGoal) → Type 0
IsCheckedRankTable ps certs p qs table = AreRankingsFound (IsMissOf certs) ps p qs table

-- The outcome of a goal that is checked by certificates.
abbrev pub outcome_of : Option Miss → Outcome
outcome_of None = Proved
outcome_of (Some m) = Missed m
