-- An inequality over choices holds exactly if the goal without binders does; and this goal is one.
use Rattle.std.proofs.Common.{◌≡◌, ◌↔◌, ℕ, ◌<◌, ◌≤◌, ◌+◌, refl, sym, ap, ◌∙◌, subst, arith, Bool, true, false, cond, ◌==◌, ◌||◌, List, [], ◌∷◌, ◌++◌}
use Rattle.std.proofs.Math.ListN.{length, get_or-append}
use Rattle.std.proofs.lemmas.List.{length-append}
use Prim.Native.Nat.{suc}
use Rattle.heylo_formula.specs.State.{environment, IsTyped}
use Rattle.heylo_formula.specs.Choices.{Choices}
use Rattle.heylo_formula.specs.Formula.{Form, Cond}
use Rattle.heylo_formula.specs.Meaning.{value}
use Rattle.heylo_formula.specs.Binders.{has_binder}
use Rattle.heylo_formula.specs.BinderNames.{Binder, binders, binders_in}
use Rattle.heylo_formula.specs.Goals.{Compares, Holds}
use Rattle.heylo_formula.specs.TypedGoals.{IsGoal}
use Rattle.heylo_formula.specs.Typing.{Types, types_in, type_of, is_unsigned, IsFormula}
use Rattle.heylo_formula.specs.Variables.{is_free, is_free_in, IsOver}
use Rattle.heylo_formula.specs.declared.types.Ty.{Ty}
use Rattle.heylo_formula.specs.declared.values.Val.{Val}
use Rattle.heylo_formula.specs.declared.values.Val.TheVariants.{Truth}
use Rattle.heylo_formula.proofs.exported.Agreement.{same_on, same_types}
use Rattle.heylo_formula.proofs.exported.States.{types_first}
use Rattle.vp_generator.specs.PrenexedForms.{prenexed, chosen, new_types}
use Rattle.vp_generator.specs.PrenexedGoals.{HoldsByChoices, prenexed_goal}
use Rattle.vp_generator.specs.PrenexLaws.{IsFrom, TypedFrom, TypesFrom}
use Rattle.vp_generator.proofs.PrenexedValues.{given_value, found_value, chosen_typed}
use Rattle.vp_generator.proofs.PrenexedTypes.{unbound_formula}
use Rattle.vp_generator.proofs.PrenexedPlain.{unbound_plain}
use Rattle.vp_generator.proofs.PrenexedOver.{unbound_over}

-- ---- Lists of values

shifted : (n : ℕ) (ws : List Val) (u : Val) (s : List Val) → IsFrom n ws (environment s) → IsFrom (suc n) ws (environment (u ∷ s))
shifted n [] u s h = tt
shifted n (w ∷ ws) u s h = (h.0, shifted (suc n) ws u s h.1)

from_zero : (ws : List Val) → IsFrom 0 ws (environment ws)
from_zero [] = tt
from_zero (w ∷ ws) = (refl, shifted 0 ws w ws (from_zero ws))

from_end : (s ws : List Val) → IsFrom (length s) ws (environment (s ++ ws))
from_end [] ws = from_zero ws
from_end (u ∷ s) ws = shifted (length s) ws u (s ++ ws) (from_end s ws)

shifted_types : (n : ℕ) (bs : List Binder) (u : Val) (s : List Val) → TypedFrom n bs (environment s) → TypedFrom (suc n) bs (environment (u ∷ s))
shifted_types n [] u s h = tt
shifted_types n (b ∷ bs) u s h = (h.0, shifted_types (suc n) bs u s h.1)

zero_types : (bs : List Binder) (ws : List Val) → IsTyped (new_types bs) ws → TypedFrom 0 bs (environment ws)
zero_types [] ws h = tt
zero_types (b ∷ bs) [] h = absurd h
zero_types (b ∷ bs) (w ∷ ws) h = (h.0, shifted_types 0 bs w ws (zero_types bs ws h.1))

end_types : (tys : List Ty) (bs : List Binder) (r : List Val) → IsTyped (tys ++ new_types bs) r → TypedFrom (length tys) bs (environment r)
end_types [] bs r h = zero_types bs r h
end_types (t ∷ tys) bs [] h = absurd h
end_types (t ∷ tys) bs (u ∷ r) h = shifted_types (length tys) bs u r (end_types tys bs r h.1)

-- A list of values with the types `tys ++ us` splits into one of each.
record Front (tys us : List Ty) (r : List Val) : Type 0 where
  pub front : List Val
  pub back : List Val
  pub whole : r ≡ front ++ back
  pub typed : IsTyped tys front

front_of : (tys us : List Ty) (r : List Val) → IsTyped (tys ++ us) r → Front tys us r
front_of [] us r h = record { front = []; back = r; whole = refl; typed = refl }
front_of (t ∷ tys) us [] h = absurd h
front_of (t ∷ tys) us (u ∷ r) h = let k = front_of tys us r h.1 in record { front = u ∷ k.front; back = k.back; whole = ap (λ l. u ∷ l) k.whole; typed = (h.0, k.typed) }

typed_both : (tys : List Ty) (bs : List Binder) (s ws : List Val) → IsTyped tys s → IsTyped (new_types bs) ws → IsTyped (tys ++ new_types bs) (s ++ ws)
typed_both [] bs s ws h k = subst (λ l. IsTyped (new_types bs) (l ++ ws)) (sym h) k
typed_both (t ∷ tys) bs [] ws h k = absurd h
typed_both (t ∷ tys) bs (u ∷ s) ws h k = (h.0, typed_both tys bs s ws h.1 k)

as_long : (tys : List Ty) (s : List Val) → IsTyped tys s → length s ≡ length tys
as_long [] s h = ap length h
as_long (t ∷ tys) [] h = absurd h
as_long (t ∷ tys) (u ∷ s) h = ap suc (as_long tys s h.1)

-- ---- Both directions

own_value : (n : ℕ) (f : Form) (s ws : List Val) (c : Choices) → length s ≡ n → IsOver n f → value f (environment (s ++ ws)) c ≡ value f (environment s) c
own_value n f s ws c e o = same_on f (environment (s ++ ws)) (environment s) c (λ y k. get_or-append s ws (Truth false) y (subst (λ m. y < m) (sym e) (o y k)))

module _ (up : Bool) (tys : List Ty) (names : List (List ℕ)) (stated found : Form) (over : IsOver (length tys) stated) (over_found : IsOver (length tys) found) where
  to_goal : HoldsByChoices up tys stated found → Holds (prenexed_goal up tys names stated found)
  to_goal m r h =
      let k = front_of tys (new_types (binders found)) r h in
      let e = as_long tys k.front k.typed in
      let f = found_value found (λ x. x) (length tys) (environment r) (end_types tys (binders found) r h) in
      let there : value (prenexed (length tys) found) (environment r) Choices.stop ≡ value found (environment k.front) f.choices = f.same ∙ ap (λ l. value found (environment l) f.choices) k.whole ∙ own_value (length tys) found k.front k.back f.choices e over_found in
      let here : value stated (environment r) Choices.stop ≡ value stated (environment k.front) Choices.stop = ap (λ l. value stated (environment l) Choices.stop) k.whole ∙ own_value (length tys) stated k.front k.back Choices.stop e over in
      subst (λ v. Compares up v (value (prenexed (length tys) found) (environment r) Choices.stop)) (sym here) (subst (λ v. Compares up (value stated (environment k.front) Choices.stop) v) (sym there) (m k.front f.choices k.typed))

  to_choices : Holds (prenexed_goal up tys names stated found) → HoldsByChoices up tys stated found
  to_choices g s c h =
      let ws = chosen found c in
      let e = as_long tys s h in
      let there : value (prenexed (length tys) found) (environment (s ++ ws)) Choices.stop ≡ value found (environment s) c = given_value found (λ x. x) (length tys) (environment (s ++ ws)) c (subst (λ n. IsFrom n ws (environment (s ++ ws))) e (from_end s ws)) ∙ own_value (length tys) found s ws c e over_found in
      let here = own_value (length tys) stated s ws Choices.stop e over in
      subst (λ v. Compares up v (value found (environment s) c)) here (subst (λ v. Compares up (value stated (environment (s ++ ws)) Choices.stop) v) there (g (s ++ ws) (typed_both tys (binders found) s ws h (chosen_typed found c))))

pub goals_of_choices : (up : Bool) (tys : List Ty) (names : List (List ℕ)) (stated found : Form) → IsOver (length tys) stated → IsOver (length tys) found → HoldsByChoices up tys stated found ↔ Holds (prenexed_goal up tys names stated found)
goals_of_choices up tys names stated found over over_found = (to_goal up tys names stated found over over_found, to_choices up tys names stated found over over_found)

-- ---- The goal is a goal

length_types : (bs : List Binder) → length (new_types bs) ≡ length bs
length_types [] = refl
length_types (b ∷ bs) = ap suc (length_types bs)

shifted_list : (n : ℕ) (bs : List Binder) (t : Ty) (ts : List Ty) → TypesFrom n bs (types_in ts) → TypesFrom (suc n) bs (types_in (t ∷ ts))
shifted_list n [] t ts h = tt
shifted_list n (b ∷ bs) t ts h = (h.0, shifted_list (suc n) bs t ts h.1)

zero_list : (bs : List Binder) → TypesFrom 0 bs (types_in (new_types bs))
zero_list [] = tt
zero_list (b ∷ bs) = (refl, shifted_list 0 bs b.1 (new_types bs) (zero_list bs))

end_list : (tys : List Ty) (bs : List Binder) → TypesFrom (length tys) bs (types_in (tys ++ new_types bs))
end_list [] bs = zero_list bs
end_list (t ∷ tys) bs = shifted_list (length tys) bs t (tys ++ new_types bs) (end_list tys bs)

more_types : (tys us : List Ty) (f : Form) → IsOver (length tys) f → IsFormula (types_in tys) f → IsFormula (types_in (tys ++ us)) f
more_types tys us f o h = subst (λ t. is_unsigned t ≡ true) (sym (same_types f (types_in (tys ++ us)) (types_in tys) (λ y k. types_first tys us y (o y k)))) h

all_long : (tys : List Ty) (bs : List Binder) → length (tys ++ new_types bs) ≡ length tys + length bs
all_long tys bs = length-append tys (new_types bs) ∙ ap (λ n. length tys + n) (length_types bs)

pub goals_are_goals : (up : Bool) (tys : List Ty) (names : List (List ℕ)) (stated found : Form) → IsFormula (types_in tys) stated → IsFormula (types_in tys) found → IsOver (length tys) stated → IsOver (length tys) found → has_binder stated ≡ false → length names ≡ length tys + length (binders found) → IsGoal (prenexed_goal up tys names stated found)
goals_are_goals up tys names stated found h k o q b l =
    let e = all_long tys (binders found) in
    record {
      typed = record {
        stated = more_types tys (new_types (binders found)) stated o h;
        found = unbound_formula found (λ x. x) (length tys) (types_in (tys ++ new_types (binders found))) (end_list tys (binders found)) (more_types tys (new_types (binders found)) found q k);
      };
      over = record {
        stated = λ x f. let m = o x f in omega (arith, m, e);
        found = subst (λ n. IsOver n (prenexed (length tys) found)) (sym e) (unbound_over found (λ x. x) (length tys) (length tys + length (binders found)) (omega arith) (λ y f. let m = q y f in omega (arith, m)));
      };
      unbound = record { stated = b; found = unbound_plain found (λ x. x) (length tys) };
      named = l ∙ sym e;
      owned = omega (arith, e);
    }
