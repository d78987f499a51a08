-- The variables of the goals of an omega pair: the first procedure's, then one of type UInt.
use Rattle.std.proofs.Common.{◌≡◌, ◌∙◌, ◌<◌, ◌≤◌, ◌+◌, ℕ, refl, sym, ap, subst, arith, List, [], ◌∷◌, ◌++◌, map, length, drop, get_or}
use Rattle.std.proofs.lemmas.List.{length-append, length-map}
use Prim.Native.Nat.{zero, suc}
use Rattle.heylo_formula.specs.Typing.{types_in}
use Rattle.heylo_formula.specs.declared.types.Ty.{Ty}
use Rattle.heylo_formula.proofs.exported.States.{types_first, types_second}
use Rattle.heyvl_acts.specs.Acts.{Head, TypedProcedure, Variable, type_list, types_of, variables}
use Rattle.heyvl_acts.specs.Rules.{Each, GrowBelow}
use Rattle.lower_goals.specs.OmegaGoals.{goal_variables}
use Rattle.lower_goals.specs.OmegaPairs.{IsOmegaPair, by_position, places}

-- ---- Lists of variables

pub types_append : (us vs : List Variable) → type_list (us ++ vs) ≡ type_list us ++ type_list vs
types_append [] vs = refl
types_append (u ∷ us) vs = ap (λ l. u.ty ∷ l) (types_append us vs)

abbrev behind_first : List Ty → List Ty
behind_first [] = []
behind_first (t ∷ ts) = ts

tail_types : (scope : List ℕ) (g : ℕ → Ty) (us : List Variable) → type_list us ≡ map g scope ++ Ty.UInt ∷ [] → type_list (drop (length scope) us) ≡ Ty.UInt ∷ []
tail_types [] g us e = e
tail_types (x ∷ scope) g [] e = absurd (cc)
tail_types (x ∷ scope) g (u ∷ us) e = tail_types scope g us (ap behind_first e)

pub as_many : (p : TypedProcedure) → length (type_list (variables p)) ≡ length (variables p)
as_many p = length-map (variables p) (λ (v : Variable). v.ty)

pub goal_types : (p : TypedProcedure) (h : Head) (q : TypedProcedure) → IsOmegaPair p h q → type_list (goal_variables p h q) ≡ type_list (variables p) ++ Ty.UInt ∷ []
goal_types p h q pair = types_append (variables p) (drop (length h.scope) q.inputs) ∙ ap (λ l. type_list (variables p) ++ l) (tail_types h.scope (types_of p) q.inputs pair.inputs)

pub inputs_length : (p : TypedProcedure) (h : Head) (q : TypedProcedure) → IsOmegaPair p h q → length q.inputs ≡ suc (length h.scope)
inputs_length p h q pair =
    let a = length-map q.inputs (λ (v : Variable). v.ty) in
    let b = ap (λ (l : List Ty). length l) pair.inputs in
    let c = length-append (map (types_of p) h.scope) (Ty.UInt ∷ []) in
    let d = length-map h.scope (types_of p) in
    omega (arith, a, b, c, d)

-- ---- Types

module _ (p : TypedProcedure) (tys : List Ty) (are : tys ≡ type_list (variables p) ++ Ty.UInt ∷ []) where
  pub types_length : length tys ≡ suc (length (variables p))
  types_length =
      let a = ap (λ (l : List Ty). length l) are in
      let b = length-append (type_list (variables p)) (Ty.UInt ∷ []) in
      let c = as_many p in
      omega (arith, a, b, c)

  pub own_types : (y : ℕ) → y < length (variables p) → types_in tys y ≡ types_of p y
  own_types y l = ap (λ ts. types_in ts y) are ∙ types_first (type_list (variables p)) (Ty.UInt ∷ []) y (subst (λ n. y < n) (sym (as_many p)) l)

  pub turn_type : types_in tys (length (variables p)) ≡ Ty.UInt
  turn_type = ap (λ ts. types_in ts (length (variables p))) are ∙ (ap (λ n. types_in (type_list (variables p) ++ Ty.UInt ∷ []) n) (let c = as_many p in let e : length (variables p) ≡ length (type_list (variables p)) + 0 = omega (arith, c) in e) ∙ types_second (type_list (variables p)) (Ty.UInt ∷ []) 0)

-- ---- Positions

pub below_each : (from below : ℕ) (xs : List ℕ) → GrowBelow from below xs → Each (λ x. x < below) xs
below_each from below [] g = tt
below_each from below (x ∷ xs) g = (g.0.1, below_each (suc x) below xs g.1)

pub each_less : (n m : ℕ) (xs : List ℕ) → n ≤ m → Each (λ x. x < n) xs → Each (λ x. x < m) xs
each_less n m [] l h = tt
each_less n m (x ∷ xs) l h = ((let k = h.0 in omega (arith, k, l)), each_less n m xs l h.1)

pub each_place : (n m : ℕ) (xs : List ℕ) → n < m → Each (λ x. x < n) xs → Each (λ x. x < m) (xs ++ n ∷ [])
each_place n m [] l h = (l, tt)
each_place n m (x ∷ xs) l h = ((let k = h.0 in omega (arith, k, l)), each_place n m xs l h.1)

place_below : (n : ℕ) (xs : List ℕ) (y : ℕ) → Each (λ x. x < n) xs → get_or (xs ++ n ∷ []) y 0 < suc n
place_below n [] zero h = omega arith
place_below n [] (suc y) h = omega arith
place_below n (x ∷ xs) zero h = let k = h.0 in omega (arith, k)
place_below n (x ∷ xs) (suc y) h = place_below n xs y h.1

pub position_below : (p : TypedProcedure) (h : Head) (y : ℕ) → Each (λ x. x < length (variables p)) h.scope → by_position (places p h) y < suc (length (variables p))
position_below p h y e = place_below (length (variables p)) h.scope y e

place_type : (f g : ℕ → Ty) (n : ℕ) (xs : List ℕ) (y : ℕ) → Each (λ x. x < n) xs → ((x : ℕ) → x < n → f x ≡ g x) → f n ≡ Ty.UInt → y < suc (length xs) → f (get_or (xs ++ n ∷ []) y 0) ≡ types_in (map g xs ++ Ty.UInt ∷ []) y
place_type f g n [] zero h a t l = t
place_type f g n [] (suc y) h a t l = absurd (omega (arith, l))
place_type f g n (x ∷ xs) zero h a t l = a x h.0
place_type f g n (x ∷ xs) (suc y) h a t l = place_type f g n xs y h.1 a t (omega (arith, l))

pub position_type : (p : TypedProcedure) (h : Head) (q : TypedProcedure) (tys : List Ty) → IsOmegaPair p h q → tys ≡ type_list (variables p) ++ Ty.UInt ∷ [] → Each (λ x. x < length (variables p)) h.scope → (y : ℕ) → y < length q.inputs → types_in tys (by_position (places p h) y) ≡ types_in (type_list q.inputs) y
position_type p h q tys pair are e y l = place_type (types_in tys) (types_of p) (length (variables p)) h.scope y e (own_types p tys are) (turn_type p tys are) (subst (λ n. y < n) (inputs_length p h q pair) l) ∙ ap (λ ts. types_in ts y) (sym pair.inputs)
