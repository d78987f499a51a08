-- The search for the certificate of a goal in a sorted list, and the result of its check.
use Rattle.std.specs.Prelude.{◌≡◌, ◌<◌, ◌≤◌, ℕ, true, false, List, Option, Some, None, length}
use Rattle.std.specs.Prelude.{slice_index_or}
use Rattle.cert_text.specs.Certificates.{precedes}
use Rattle.cert_text.specs.declared.goal_names.GoalName.{GoalName}
use Rattle.goal_answers.specs.Trees.{Tree}
use Rattle.goal_answers.specs.declared.misses.Miss.{Miss}
use Rattle.goal_answers.specs.declared.misses.Miss.TheVariants.{Absent, Place}
use Rattle.goal_answers.specs.declared.trees.GoalCert.{GoalCert}
use Rattle.heylo_formula.specs.declared.goals.Made.{Made}
use Rattle.verify_core.specs.CertifiedGoals.{Certifies, IsRefusedAt}

abbrev pub name_of : GoalCert → GoalName
name_of c = record { proc = c.proc; id = c.id }

-- The certificates before `place` are those of goals that precede `n`.
pub record IsPlaceOf (certs : List GoalCert) (n : GoalName) (place : ℕ) : Type 0 where
  pub within : place ≤ length certs
  pub before : (k : ℕ) (d : GoalCert) → k < place
      → precedes (name_of (slice_index_or certs k d)) n ≡ true
  pub behind : (k : ℕ) (d : GoalCert) → place ≤ k → k < length certs
      → precedes (name_of (slice_index_or certs k d)) n ≡ false

-- `IsFound m t miss`: the result of the check of `t` as a certificate of `m`. `None`: it is one;
-- `Place`: the first place at which it is refused.
abbrev pub IsFound : Made → Tree → Option Miss → Type 0
IsFound m t None = Certifies m t
IsFound m t (Some Absent) = ⊥
IsFound m t (Some (Place way)) = IsRefusedAt m t way.items
