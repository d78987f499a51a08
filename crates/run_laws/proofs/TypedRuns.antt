-- The value of a post in a state with the right types.
use Rattle.std.proofs.Common.{◌≡◌, ◌<◌, ℕ, refl, sym, subst, false, arith, List, [], ◌∷◌, ◌++◌, length, get_or, take}
use Prim.Native.Nat.{zero, suc}
use Rattle.heyvl_num.specs.Value.{zeroᵛ, ◌≤ᵛ◌}
use Rattle.heyvl_num.proofs.exported.Values.{zero-≤ᵛ-zero}
use Rattle.heylo_formula.specs.Choices.{Choices}
use Rattle.heylo_formula.specs.Meaning.{value}
use Rattle.heylo_formula.specs.State.{environment, IsTyped}
use Rattle.heylo_formula.specs.Typing.{types_in}
use Rattle.heylo_formula.specs.declared.values.Val.{Val}
use Rattle.heylo_formula.specs.declared.values.Val.TheVariants.{Truth}
use Rattle.heylo_formula.proofs.exported.Agreement.{same_on}
use Rattle.heylo_formula.proofs.exported.States.{env_typed}
use Rattle.heylo_formula.proofs.exported.TypedTerms.{nonnegative_value}
use Rattle.heyvl_acts.specs.Acts.{Variable, TypedProcedure, procedure_at, type_list}
use Rattle.heyvl_acts.specs.Rules.{Each, MeetsRules}
use Rattle.run_machine.specs.Bound.{IsState}

get_take : (n y : ℕ) (s : List Val) → y < n → get_or (take n s) y (Truth false) ≡ get_or s y (Truth false)
get_take zero y s h = absurd (omega (arith, h))
get_take (suc n) y [] h = refl
get_take (suc n) zero (w ∷ s) h = refl
get_take (suc n) (suc y) (w ∷ s) h = get_take n y s (omega (arith, h))

first_typed : (xs ys zs : List Variable) (s : List Val) → IsTyped (type_list (xs ++ (ys ++ zs))) s → IsTyped (type_list (xs ++ ys)) (take (length (xs ++ ys)) s)
first_typed [] [] zs s h = refl
first_typed [] (y ∷ ys) zs [] h = absurd h
first_typed [] (y ∷ ys) zs (v ∷ s) h = (h.0, first_typed [] ys zs s h.1)
first_typed (x ∷ xs) ys zs [] h = absurd h
first_typed (x ∷ xs) ys zs (v ∷ s) h = (h.0, first_typed xs ys zs s h.1)

post_held : (ps : List TypedProcedure) (p : TypedProcedure) → MeetsRules ps p → (s : List Val) → IsState p s → zeroᵛ ≤ᵛ value p.post (environment s) Choices.stop
post_held ps p rules s h = subst (λ v. zeroᵛ ≤ᵛ v) (sym (same_on p.post (environment s) (environment (take (length (p.inputs ++ p.outputs)) s)) Choices.stop (λ y k. sym (get_take (length (p.inputs ++ p.outputs)) y s (rules.post_over y k))))) (nonnegative_value (types_in (type_list (p.inputs ++ p.outputs))) p.post _ Choices.stop rules.post (env_typed (type_list (p.inputs ++ p.outputs)) _ (first_typed p.inputs p.outputs p.locals s h)))

pub posts_held : (ps qs : List TypedProcedure) → Each (MeetsRules ps) qs → (p : ℕ) (s : List Val) → IsState (procedure_at qs p) s → zeroᵛ ≤ᵛ value (procedure_at qs p).post (environment s) Choices.stop
posts_held ps [] h p s st = zero-≤ᵛ-zero
posts_held ps (q ∷ qs) h zero s st = post_held ps q h.0 s st
posts_held ps (q ∷ qs) h (suc p) s st = posts_held ps qs h.1 p s st
