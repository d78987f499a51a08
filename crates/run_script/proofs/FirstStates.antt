-- The first state of a procedure that the program holds.
use Rattle.heylo_formula.specs.State.{default}
use Rattle.heyvl_acts.specs.Acts.{variables}
use Rattle.heyvl_acts.specs.PlainActs.{procedure_of, variable_of}
use Rattle.heyvl_acts.specs.declared.typed_trees.TProc.{TProc}
use Rattle.heyvl_acts.specs.declared.typed_trees.VarInfo.{VarInfo}
use Rattle.run_script.specs.Starts.{start_state, start_value}
use Rattle.run_script.specs.declared.scripts.Setting.{Setting}
use Rattle.std.proofs.Common.{List, [], ap, ap₂, append_assoc, drop, map, refl, sym, take, take-add, ◌+◌, ◌++◌, ◌∙◌, ◌∷◌, ◌≡◌, ℕ}
use Rattle.std.proofs.lemmas.List.{drop-map, take-append-drop, take-map}

pub known_front : (i o : ℕ) (vars : List VarInfo) → map variable_of (take (i + o) vars) ≡ take i (map variable_of vars) ++ take o (drop i (map variable_of vars))
known_front i o vars = sym (take-map variable_of (i + o) vars) ∙ take-add i o (map variable_of vars)

map_twice : {A B C : Type 0} (g : B → C) (f : A → B) (xs : List A) → map (λ x. g (f x)) xs ≡ map g (map f xs)
map_twice g f [] = refl
map_twice g f (x ∷ xs) = ap (λ r. g (f x) ∷ r) (map_twice g f xs)

pub state_made : (p : TProc) (settings : List Setting) → map (λ x. start_value settings (variable_of x)) (take (p.inputs + p.outputs) p.vars.items) ++ map (λ x. default x.ty) (drop (p.inputs + p.outputs) p.vars.items) ≡ start_state (procedure_of p) settings
state_made p settings =
    let known = map_twice (start_value settings) variable_of (take (p.inputs + p.outputs) p.vars.items) ∙ ap (map (start_value settings)) (known_front p.inputs p.outputs p.vars.items) in
    let others = map_twice (λ x. default x.ty) variable_of (drop (p.inputs + p.outputs) p.vars.items) ∙ ap (map (λ x. default x.ty)) (sym (drop-map variable_of (p.inputs + p.outputs) p.vars.items)) in
    ap₂ (λ a b. a ++ b) known others

pub variables_held : (p : TProc) → variables (procedure_of p) ≡ map variable_of p.vars.items
variables_held p =
    let held = map variable_of p.vars.items in
    sym (append_assoc (take p.inputs held) (take p.outputs (drop p.inputs held)) (drop (p.inputs + p.outputs) held))
    ∙ ap (λ r. r ++ drop (p.inputs + p.outputs) held) (sym (take-add p.inputs p.outputs held))
    ∙ take-append-drop (p.inputs + p.outputs) held
