-- Without findings, no part has findings, and no rule is broken.
use Rattle.heyvl_acts.specs.Rules.{Each}
use Rattle.heyvl_places.specs.declared.spans.Span.{Span}
use Rattle.std.proofs.Common.{Bool, List, [], false, refl, true, ◌∷◌, ◌++◌, ◌≡◌, ℕ}
use Rattle.std.specs.Prelude.{if◌then◌else◌}
use Rattle.typed_expressions.specs.Findings.{at}

pub front_none : {A : Type 0} (xs ys : List A) → xs ++ ys ≡ [] → xs ≡ []
front_none [] ys e = refl
front_none (x ∷ xs) ys e = absurd (cc)

pub back_none : {A : Type 0} (xs ys : List A) → xs ++ ys ≡ [] → ys ≡ []
back_none [] ys e = e
back_none (x ∷ xs) ys e = absurd (cc)

-- A rule of a node that is not broken.
abbrev pub IsKeptFinding : ℕ × Bool → Type 0
IsKeptFinding rule = rule.1 ≡ false

-- No rule of the node is broken.
pub all_kept : (s : Span) (rules : List (ℕ × Bool)) → at s rules ≡ [] → Each IsKeptFinding rules
all_kept s [] e = tt
all_kept s (rule ∷ rules) e = go rule.1 refl e (all_kept s rules)
  where
    go : (b : Bool) → rule.1 ≡ b → (if b then (rule.0, s) ∷ at s rules else at s rules) ≡ [] → (at s rules ≡ [] → Each IsKeptFinding rules) → Each IsKeptFinding (rule ∷ rules)
    go true h i more = absurd (cc)
    go false h i more = (h, more i)
