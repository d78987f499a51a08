-- Laws of certificates.
use Rattle.std.specs.Prelude.{◌≡◌, List, Bool}
use Rattle.heylo_formula.specs.Goals.{Goal, Holds}
use Rattle.heylo_formula.specs.TypedGoals.{IsTypedGoal}
use Rattle.goal_answers.specs.Trees.{Tree}
use Rattle.farkas_check.specs.AcceptedCertificates.{IsCertificate, IsNoCertificate}

-- No tree is both accepted and refused.
abbrev pub NeverBoth : Type 0
NeverBoth = (g : Goal) (t : Tree) (place : List Bool) → IsCertificate g t
    → IsNoCertificate g t place → ⊥

-- A tree is refused at one place.
abbrev pub OnePlace : Type 0
OnePlace = (g : Goal) (t : Tree) (p r : List Bool) → IsNoCertificate g t p → IsNoCertificate g t r
    → p ≡ r

-- A goal with a certificate holds in each state.
abbrev pub CertifiedGoalsHold : Type 0
CertifiedGoalsHold = (g : Goal) (t : Tree) → IsTypedGoal g → IsCertificate g t → Holds g
