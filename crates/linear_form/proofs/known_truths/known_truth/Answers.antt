use Rattle.std.proofs.Common.{◌≡◌, ◌∙◌, ap, arith, rules, List, ◌∷◌, refl, ℕ, ◌-◌, take, Bool}
use Rattle.std.specs.Prelude.{Option}
use Prim.Native.Nat.{zero, suc}
use Rattle.linear_form.specs.Query.{known, known_by}
use Rattle.linear_form.specs.PlainPaths.{path_of, atom_of}
use Rattle.linear_form.specs.declared.paths.Taken.{Taken}
use Rattle.linear_form.proofs.known_truths.known_truth.Goals as goal

step : (x left : ℕ) (p : Taken) (others rest : List Taken) → rest ≡ p ∷ others → (left ≡ 0 → ⊥) → ((held : Bool) (other : Option Bool) → known_by x (atom_of p.atom) held other ≡ other) → known x (take left (path_of rest)) ≡ known x (take (left - 1) (path_of others))
step x zero p others rest e h k = absurd (h refl)
step x (suc n) p others rest e h k = ap (λ r. known x (take (suc n) (path_of r))) e ∙ k p.held _ ∙ ap (λ m. known x (take m (path_of others))) (omega arith)

pub search-preserved : goal.search-preserved
search-preserved c = c.search.invariant ∙ step c.args.x c.search.left c.in-Some.taken.now c.in-Some.others.now c.search.rest.now (search rules) (λ e. omega arith) c.if-asks_truth.ensures
