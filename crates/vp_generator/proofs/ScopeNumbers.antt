-- The numbers of variables in a scope, by its innermost binder.
use Rattle.std.proofs.Common.{◌≡◌, ℕ, ap, ◌∙◌, refl, List, [], ◌∷◌, ◌++◌}
use Rattle.vp_generator.specs.PrenexedForms.{Numbering, renumbered}
use Rattle.vp_generator.specs.internal.Lookup.{numbered_under, number_in}

pub innermost : (m : Numbering) (ps : List (ℕ × ℕ)) (p : ℕ × ℕ) → numbered_under m (ps ++ p ∷ []) ≡ renumbered p.0 p.1 (numbered_under m ps)
innermost m [] p = refl
innermost m (q ∷ ps) p = innermost (renumbered q.0 q.1 m) ps p

pub looked_up : (scope rest outer : List (ℕ × ℕ)) (p : ℕ × ℕ) (x : ℕ) → number_in scope x ≡ number_in rest x → rest ≡ outer ++ p ∷ [] → number_in scope x ≡ renumbered p.0 p.1 (number_in outer) x
looked_up scope rest outer p x i e = i ∙ ap (λ ps. number_in ps x) e ∙ ap (λ m. m x) (innermost (λ y. y) outer p)
