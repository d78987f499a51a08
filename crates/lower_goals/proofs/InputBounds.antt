-- The test whether a procedure gives a bound over the inputs of another one.
use Rattle.std.proofs.Common.{◌≡◌, ◌∙◌, ◌≤◌, ◌<◌, ◌+◌, ℕ, refl, sym, ap, ap₂, arith, true, List, [], ◌∷◌, length, get_or, take, drop, map}
use Rattle.std.proofs.lemmas.List.{at_drop_more, drop_all, length-map, length-drop}
use Rattle.std.specs.List.{take-map}
use Rattle.std.specs.Prelude.{Option, None, Some, Vec}
use Rattle.std.specs.declared.alloc.Global.{Global}
use Prim.Native.Nat.{zero, suc}
use Rattle.heylo_formula.specs.declared.types.Ty.{Ty}
use Rattle.heyvl_acts.specs.Acts.{Variable, type_list}
use Rattle.heyvl_acts.specs.PlainActs.{body_of, procedure_of, variable_of}
use Rattle.heyvl_acts.specs.Rules.{IsCounted}
use Rattle.heyvl_acts.specs.declared.acts.Act as A
use Rattle.heyvl_acts.specs.declared.typed_trees.TProc.{TProc}
use Rattle.heyvl_acts.specs.declared.typed_trees.VarInfo.{VarInfo}
use Rattle.lower_goals.specs.RemainderPairs.{IsInputBound}

-- ---- The inputs

pub inputs_are : (n : ℕ) (l m : List VarInfo) → m ≡ l → map variable_of (take n m) ≡ take n (map variable_of l)
inputs_are n l m e = ap (λ x. map variable_of (take n x)) e ∙ sym (take-map variable_of n l)

-- ---- Types in order

-- The types of the variables from index `k` on.
abbrev pub types_from : List VarInfo → ℕ → List Ty
types_from vs k = type_list (map variable_of (drop k vs))

abbrev pub Same : List VarInfo → List VarInfo → ℕ → Type 0
Same xs ys k = types_from ys k ≡ types_from xs k

type_at : (xs : List VarInfo) (k : ℕ) (x : VarInfo) → k < length xs → x ≡ get_or xs k x → types_from xs k ≡ x.ty ∷ types_from xs (k + 1)
type_at xs k x lt is = at_drop_more (λ l. type_list (map variable_of l)) xs k x lt ∙ ap (λ (z : VarInfo). z.ty ∷ types_from xs (k + 1)) (sym is)

first_type : (a b : Ty) (xs ys : List Ty) → a ∷ xs ≡ b ∷ ys → a ≡ b
first_type a b xs ys e = cc

other_types : (a b : Ty) (xs ys : List Ty) → a ∷ xs ≡ b ∷ ys → xs ≡ ys
other_types a b xs ys e = cc

module _ (xs ys : List VarInfo) (k : ℕ) (x y : VarInfo) (lx : k < length xs) (ly : k < length ys) (x_is : x ≡ get_or xs k x) (y_is : y ≡ get_or ys k y) where
  both_from : Same xs ys k → y.ty ∷ types_from ys (k + 1) ≡ x.ty ∷ types_from xs (k + 1)
  both_from h = sym (type_at ys k y ly y_is) ∙ (h ∙ type_at xs k x lx x_is)

  pub differ_there : (x.ty ≡ y.ty → ⊥) → (Same xs ys 0 → Same xs ys k) → Same xs ys 0 → ⊥
  differ_there d to h = d (sym (first_type y.ty x.ty (types_from ys (k + 1)) (types_from xs (k + 1)) (both_from (to h))))

  pub agree_there : x.ty ≡ y.ty → (Same xs ys k → Same xs ys 0) → Same xs ys (k + 1) → Same xs ys 0
  agree_there e from h = from (type_at ys k y ly y_is ∙ (ap₂ (λ a b. a ∷ b) (sym e) h ∙ sym (type_at xs k x lx x_is)))

  pub agree_behind : (Same xs ys 0 → Same xs ys k) → Same xs ys 0 → Same xs ys (k + 1)
  agree_behind to h = other_types y.ty x.ty (types_from ys (k + 1)) (types_from xs (k + 1)) (both_from (to h))

pub nothing_left : (xs ys : List VarInfo) (k : ℕ) → length xs ≡ length ys → length xs ≤ k → Same xs ys k
nothing_left xs ys k e l = ap (λ r. type_list (map variable_of r)) (drop_all k ys (omega (arith, e, l)) ∙ sym (drop_all k xs l))

pub as_many : (xs ys : List VarInfo) → type_list (map variable_of ys) ≡ type_list (map variable_of xs) → length xs ≡ length ys
as_many xs ys e =
    let a = length-map (map variable_of xs) (λ (v : Variable). v.ty) in
    let b = length-map xs variable_of in
    let c = length-map (map variable_of ys) (λ (v : Variable). v.ty) in
    let d = length-map ys variable_of in
    let f = ap (λ (l : List Ty). length l) e in
    omega (arith, a, b, c, d, f)

-- ---- Coprocs without body and outputs

body_none : (o : Option (Vec A.Act Global)) → o ≡ None → body_of o ≡ None
body_none o e = ap body_of e

none_body : (o : Option (Vec A.Act Global)) → body_of o ≡ None → o ≡ None
none_body None e = refl
none_body (Some acts) e = absurd (cc)

take_nothing : {X : Type 0} (l : List X) → take 0 l ≡ []
take_nothing [] = refl
take_nothing (x ∷ l) = refl

empty_list : {X : Type 0} (l : List X) → length l ≡ 0 → l ≡ []
empty_list [] e = refl
empty_list (x ∷ l) e = absurd (omega (arith, e))

taken_nothing : {X : Type 0} (n : ℕ) (l : List X) → n ≤ length l → take n l ≡ [] → n ≡ 0
taken_nothing zero l h e = refl
taken_nothing (suc n) [] h e = absurd (omega (arith, h))
taken_nothing (suc n) (x ∷ l) h e = absurd (cc)

module _ (x y : TProc) (counted : IsCounted y) where
  pub outputs_none : y.outputs ≡ 0 → (procedure_of y).outputs ≡ []
  outputs_none e = ap (λ n. take n (drop y.inputs (map variable_of y.vars.items))) e ∙ take_nothing (drop y.inputs (map variable_of y.vars.items))

  none_outputs : (procedure_of y).outputs ≡ [] → y.outputs ≡ 0
  none_outputs e = taken_nothing y.outputs (drop y.inputs (map variable_of y.vars.items)) (let a = length-drop y.inputs (map variable_of y.vars.items) in let b = length-map y.vars.items variable_of in let c = counted in omega (arith, a, b, c)) e

  pub is_bound : (y.co ≡ true) × ((y.body ≡ None) × (y.outputs ≡ 0)) → type_list (procedure_of y).inputs ≡ type_list (procedure_of x).inputs → IsInputBound (procedure_of x) (procedure_of y)
  is_bound h e = record { upper = h.0; no_body = body_none y.body h.1.0; no_output = outputs_none h.1.1; inputs = e }

  pub bound_bare : IsInputBound (procedure_of x) (procedure_of y) → (y.co ≡ true) × ((y.body ≡ None) × (y.outputs ≡ 0))
  bound_bare h = (h.upper, (none_body y.body h.no_body, none_outputs h.no_output))
