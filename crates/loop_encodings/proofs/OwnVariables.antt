-- The variables of a procedure, by their parts.
use Rattle.std.proofs.Common.{◌≡◌, ◌<◌, ◌≤◌, ◌+◌, ◌-◌, ℕ, sym, ap, ◌∙◌, arith, List, [], ◌∷◌, ◌++◌, length, get_or, drop, take, map, zero-add}
use Rattle.std.proofs.lemmas.List.{take_all, drop_all, take-append-drop, length-drop, length-take-le, length-map}
use Rattle.std.specs.List.{take-map, drop-map}
use Prim.Native.Nat.{zero, suc}
use Rattle.heylo_formula.specs.Typing.{types_in}
use Rattle.heyvl_acts.specs.Acts.{Variable, variables, type_list, types_of}
use Rattle.heyvl_acts.specs.PlainActs.{procedure_of, variable_of}
use Rattle.heyvl_acts.specs.Rules.{GrowBelow}
use Rattle.heyvl_acts.specs.declared.typed_trees.TProc.{TProc}
use Rattle.heyvl_acts.specs.declared.typed_trees.VarInfo.{VarInfo}
use Rattle.loop_encodings.specs.internal.Ready.{plain_variables}

take_none : {X : Type 0} → (n : ℕ) (none : List X) → length none ≤ 0 → take n none ≡ none
take_none n none h = take_all n none (omega (arith, h))

drop_none : {X : Type 0} → (n : ℕ) (none : List X) → length none ≤ 0 → drop n none ≡ []
drop_none n none h = drop_all n none (omega (arith, h))

pub three_parts : {X : Type 0} → (a b : ℕ) (l : List X) → take a l ++ (take b (drop a l) ++ drop (a + b) l) ≡ l
three_parts zero b l = ap (λ n. take b l ++ drop n l) (zero-add b) ∙ take-append-drop b l
three_parts (suc a) b [] = ap (λ x. x ++ drop (suc a + b) []) (take_none b [] (omega arith)) ∙ drop_none (suc a + b) [] (omega arith)
three_parts (suc a) b (x ∷ l) = ap (λ n. x ∷ (take a l ++ (take b (drop a l) ++ drop n (x ∷ l)))) (more a b) ∙ ap (λ r. x ∷ r) (three_parts a b l)
  where
    more : (a b : ℕ) → suc a + b ≡ suc (a + b)
    more a b = omega arith

pub two_parts : {X : Type 0} → (a b : ℕ) (l : List X) → take (a + b) l ≡ take a l ++ take b (drop a l)
two_parts zero b l = ap (λ n. take n l) (zero-add b)
two_parts (suc a) b [] = take_none (suc a + b) [] (omega arith) ∙ sym (take_none b [] (omega arith))
two_parts (suc a) b (x ∷ l) = ap (λ n. take n (x ∷ l)) (more a b) ∙ ap (λ r. x ∷ r) (two_parts a b l)
  where
    more : (a b : ℕ) → suc a + b ≡ suc (a + b)
    more a b = omega arith

pub own_variables : (p : TProc) → variables (procedure_of p) ≡ plain_variables p.vars.items
own_variables p = three_parts p.inputs p.outputs (map variable_of p.vars.items)

pub own_type : (p : TProc) (x : ℕ) (v : VarInfo) → x < length p.vars.items → v ≡ get_or p.vars.items x v → types_of (procedure_of p) x ≡ v.ty
own_type p x v lt is = ap (λ l. types_in (type_list l) x) (own_variables p) ∙ at p.vars.items x v lt is
  where
    at : (l : List VarInfo) (x : ℕ) (v : VarInfo) → x < length l → v ≡ get_or l x v → types_in (type_list (plain_variables l)) x ≡ v.ty
    at [] x v lt is = absurd (omega (arith, lt))
    at (w ∷ l) zero v lt is = ap (λ (u : VarInfo). u.ty) (sym is)
    at (w ∷ l) (suc x) v lt is = at l x v (omega (arith, lt)) is

pub interface_parts : (a b : ℕ) (l m : List VarInfo) → m ≡ l → plain_variables (take (a + b) m) ≡ take a (plain_variables l) ++ take b (drop a (plain_variables l))
interface_parts a b l m e = ap (λ x. plain_variables (take (a + b) x)) e ∙ (sym (take-map variable_of (a + b) l) ∙ two_parts a b (plain_variables l))

pub output_part : (a b : ℕ) (l m : List VarInfo) → m ≡ l → plain_variables (take (a + b - a) (drop a m)) ≡ take b (drop a (plain_variables l))
output_part a b l m e = ap (λ x. plain_variables (take (a + b - a) (drop a x))) e ∙ (ap (λ n. plain_variables (take n (drop a l))) (less a b) ∙ (sym (take-map variable_of b (drop a l)) ∙ ap (λ x. take b x) (sym (drop-map variable_of a l))))
  where
    less : (a b : ℕ) → a + b - a ≡ b
    less a b = omega arith

pub grow_below : (from below : ℕ) (xs : List ℕ) (i x : ℕ) → GrowBelow from below xs → i < length xs → x ≡ get_or xs i 0 → x < below
grow_below from below [] i x g lt is = absurd (omega (arith, lt))
grow_below from below (y ∷ xs) zero x g lt is = let b = g.0.1 in omega (arith, b, is)
grow_below from below (y ∷ xs) (suc i) x g lt is = grow_below (suc y) below xs i x g.1 (omega (arith, lt)) is

pub inputs_length : (p : TProc) → p.inputs + p.outputs ≤ length p.vars.items → length (procedure_of p).inputs ≡ p.inputs
inputs_length p h = length-take-le p.inputs (plain_variables p.vars.items) (let e = length-map p.vars.items variable_of in omega (arith, e, h))

pub outputs_length : (p : TProc) → p.inputs + p.outputs ≤ length p.vars.items → length (procedure_of p).outputs ≡ p.outputs
outputs_length p h = length-take-le p.outputs (drop p.inputs (plain_variables p.vars.items)) (let d = length-drop p.inputs (plain_variables p.vars.items) in let e = length-map p.vars.items variable_of in omega (arith, d, e, h))

pub own_length : (p : TProc) → length (variables (procedure_of p)) ≡ length p.vars.items
own_length p = ap (λ (l : List Variable). length l) (own_variables p) ∙ length-map p.vars.items variable_of
