-- In a state in which a prenexed goal fails, the inequality fails for the choices that are the
-- values of the new variables.
use Rattle.std.proofs.Common.{◌≡◌, ◌<◌, ◌+◌, ℕ, refl, sym, ◌∙◌, subst, arith, false, List, [], ◌∷◌, ◌++◌, length, get_or, take}
use Prim.Native.Nat.{zero, suc}
use Rattle.heylo_formula.proofs.exported.Agreement.{same_on}
use Rattle.heylo_formula.specs.BinderNames.{Binder, binders}
use Rattle.heylo_formula.specs.Choices.{Choices}
use Rattle.heylo_formula.specs.Formula.{Form}
use Rattle.heylo_formula.specs.Goals.{Compares}
use Rattle.heylo_formula.specs.Meaning.{value}
use Rattle.heylo_formula.specs.State.{IsTyped, environment}
use Rattle.heylo_formula.specs.Variables.{IsOver}
use Rattle.heylo_formula.specs.declared.types.Ty.{Ty}
use Rattle.heylo_formula.specs.declared.values.Val.{Val}
use Rattle.heylo_formula.specs.declared.values.Val.TheVariants.{Truth}
use Rattle.vp_generator.specs.PrenexLaws.{TypedFrom, ValuesAreChoices}
use Rattle.vp_generator.specs.PrenexedForms.{new_types, prenexed}
use Rattle.vp_generator.specs.PrenexedGoals.{PrenexedGoalsFailByChoices}

shifted_types : (n : ℕ) (bs : List Binder) (u : Val) (s : List Val) → TypedFrom n bs (environment s) → TypedFrom (suc n) bs (environment (u ∷ s))
shifted_types n [] u s h = tt
shifted_types n (b ∷ bs) u s h = (h.0, shifted_types (suc n) bs u s h.1)

zero_types : (bs : List Binder) (ws : List Val) → IsTyped (new_types bs) ws → TypedFrom 0 bs (environment ws)
zero_types [] ws h = tt
zero_types (b ∷ bs) [] h = absurd h
zero_types (b ∷ bs) (w ∷ ws) h = (h.0, shifted_types 0 bs w ws (zero_types bs ws h.1))

end_types : (tys : List Ty) (bs : List Binder) (r : List Val) → IsTyped (tys ++ new_types bs) r → TypedFrom (length tys) bs (environment r)
end_types [] bs r h = zero_types bs r h
end_types (t ∷ tys) bs [] h = absurd h
end_types (t ∷ tys) bs (u ∷ r) h = shifted_types (length tys) bs u r (end_types tys bs r h.1)

take_none : {A : Type 0} (xs : List A) → take 0 xs ≡ []
take_none [] = refl
take_none (x ∷ xs) = refl

first_typed : (tys us : List Ty) (r : List Val) → IsTyped (tys ++ us) r → IsTyped tys (take (length tys) r)
first_typed [] us r h = take_none r
first_typed (t ∷ tys) us [] h = absurd h
first_typed (t ∷ tys) us (u ∷ r) h = (h.0, first_typed tys us r h.1)

first_same : (n : ℕ) (r : List Val) (y : ℕ) → y < n → get_or r y (Truth false) ≡ get_or (take n r) y (Truth false)
first_same zero r y l = absurd (omega arith)
first_same (suc n) [] y l = refl
first_same (suc n) (u ∷ r) zero l = refl
first_same (suc n) (u ∷ r) (suc y) l = first_same n r y (omega arith)

first_value : (n : ℕ) (f : Form) (r : List Val) (c : Choices) → IsOver n f → value f (environment r) c ≡ value f (environment (take n r)) c
first_value n f r c o = same_on f (environment r) (environment (take n r)) c (λ y k. first_same n r y (o y k))

pub goals_fail : ValuesAreChoices → PrenexedGoalsFailByChoices
goals_fail law up tys names stated found o q r typed fails =
    let n = length tys in
    let f = law found (λ x. x) n (environment r) (end_types tys (binders found) r typed) in
    let there : value (prenexed n found) (environment r) Choices.stop ≡ value found (environment (take n r)) f.choices = f.same ∙ first_value n found r f.choices q in
    record {
      choices = f.choices;
      state = first_typed tys (new_types (binders found)) r typed;
      fails = λ k. fails (subst (λ v. Compares up v (value (prenexed n found) (environment r) Choices.stop)) (sym (first_value n stated r Choices.stop o)) (subst (λ v. Compares up (value stated (environment (take n r)) Choices.stop) v) (sym there) k));
    }
