-- The variables of a procedure, by their parts.
use Rattle.std.proofs.Common.{◌≡◌, ◌≤◌, ◌+◌, ℕ, ap, ◌∙◌, arith, List, [], ◌∷◌, ◌++◌, length, drop, take, map, zero-add}
use Rattle.std.proofs.lemmas.List.{take_all, drop_all, take-append-drop}
use Prim.Native.Nat.{zero, suc}
use Rattle.heyvl_acts.specs.Acts.{variables}
use Rattle.heyvl_acts.specs.PlainActs.{procedure_of, variable_of}
use Rattle.heyvl_acts.specs.declared.typed_trees.TProc.{TProc}

take_none : {X : Type 0} → (n : ℕ) (none : List X) → length none ≤ 0 → take n none ≡ none
take_none n none h = take_all n none (omega (arith, h))

drop_none : {X : Type 0} → (n : ℕ) (none : List X) → length none ≤ 0 → drop n none ≡ []
drop_none n none h = drop_all n none (omega (arith, h))

three_parts : {X : Type 0} → (a b : ℕ) (l : List X) → take a l ++ (take b (drop a l) ++ drop (a + b) l) ≡ l
three_parts zero b l = ap (λ n. take b l ++ drop n l) (zero-add b) ∙ take-append-drop b l
three_parts (suc a) b [] = ap (λ x. x ++ drop (suc a + b) []) (take_none b [] (omega arith)) ∙ drop_none (suc a + b) [] (omega arith)
three_parts (suc a) b (x ∷ l) = ap (λ n. x ∷ (take a l ++ (take b (drop a l) ++ drop n (x ∷ l)))) (more a b) ∙ ap (λ r. x ∷ r) (three_parts a b l)
  where
    more : (a b : ℕ) → suc a + b ≡ suc (a + b)
    more a b = omega arith

pub own_variables : (p : TProc) → variables (procedure_of p) ≡ map variable_of p.vars.items
own_variables p = three_parts p.inputs p.outputs (map variable_of p.vars.items)
