-- The outputs of a procedure are its own variables.
use Rattle.std.proofs.Common.{◌≡◌, ◌≤◌, ◌<◌, ℕ, refl, arith, List, [], ◌∷◌, ◌++◌, length}
use Prim.Native.Nat.{suc}
use Rattle.heylo_formula.specs.Typing.{types_in}
use Rattle.heylo_formula.specs.declared.types.Ty.{Ty}
use Rattle.heyvl_acts.specs.Acts.{Variable, TypedProcedure, type_list, types_of, variables}
use Rattle.heyvl_acts.specs.Rules.{IsOwn}

abbrev pub OutsOwn : TypedProcedure → ℕ → List Ty → Type 0
OutsOwn p n [] = Unit {0}
OutsOwn p n (t ∷ ts) = (IsOwn p n × (types_of p n ≡ t)) × OutsOwn p (suc n) ts

abbrev TypesAt : List Variable → ℕ → List Ty → Type 0
TypesAt vs n [] = Unit {0}
TypesAt vs n (t ∷ ts) = ((n < length vs) × (types_in (type_list vs) n ≡ t)) × TypesAt vs (suc n) ts

types_shift : (u : Variable) (vs : List Variable) (n : ℕ) (ts : List Ty) → TypesAt vs n ts → TypesAt (u ∷ vs) (suc n) ts
types_shift u vs n [] h = tt
types_shift u vs n (t ∷ ts) h = ((omega (arith, h.0.0), h.0.1), types_shift u vs (suc n) ts h.1)

types_here : (xs ys : List Variable) → TypesAt (xs ++ ys) 0 (type_list xs)
types_here [] ys = tt
types_here (x ∷ xs) ys = ((omega arith, refl), types_shift x (xs ++ ys) 0 (type_list xs) (types_here xs ys))

types_after : (is xs ys : List Variable) → TypesAt (is ++ (xs ++ ys)) (length is) (type_list xs)
types_after [] xs ys = types_here xs ys
types_after (i ∷ is) xs ys = types_shift i _ (length is) (type_list xs) (types_after is xs ys)

outs_own : (p : TypedProcedure) (n : ℕ) (ts : List Ty) → length p.inputs ≤ n → TypesAt (variables p) n ts → OutsOwn p n ts
outs_own p n [] l h = tt
outs_own p n (t ∷ ts) l h = ((record { no_input = l; below = h.0.0 }, h.0.1), outs_own p (suc n) ts (omega arith) h.1)

pub outputs_own : (p : TypedProcedure) → OutsOwn p (length p.inputs) (type_list p.outputs)
outputs_own p = outs_own p (length p.inputs) (type_list p.outputs) (omega arith) (types_after p.inputs p.outputs p.locals)
