-- The first state of a run under a script. This project's own.
use Rattle.heylo_formula.specs.State.{default, fit}
use Rattle.heylo_formula.specs.declared.values.Val.{Val}
use Rattle.heylo_formula.specs.declared.types.Ty.{Ty}
use Rattle.heyvl_acts.specs.Acts.{TypedProcedure, Variable, variables}
use Rattle.run_script.specs.declared.scripts.Setting.{Setting}
use Rattle.std.specs.List.{find}
use Rattle.std.specs.Option.{option_map_or}
use Rattle.std.specs.Prelude.{List, None, Option, Some, [], map, ◌++◌, ◌∷◌}
use Rattle.std.specs.Str.{bytes_eq}

-- The variables of a procedure that a script may set: its inputs and outputs.
abbrev pub known_of : TypedProcedure → List Variable
known_of p = p.inputs ++ p.outputs

-- The initial value of `x`: the one that is set for its name, if it has the type of `x`; otherwise
-- false or 0.
abbrev pub start_value : List Setting → Variable → Val
start_value settings x = option_map_or (λ s. fit x.ty s.value)
    (find (λ s. bytes_eq x.name s.name) settings) (default x.ty)

-- The first state: inputs and outputs have the values that are set, every other variable is false
-- or 0.
abbrev pub start_state : TypedProcedure → List Setting → List Val
start_state p settings = map (start_value settings) (known_of p) ++ map (λ x. default x.ty) p.locals

-- The value, if there is one and it has the type; otherwise false or 0.
abbrev pub value_or : Ty → Option Val → Val
value_or ty (Some v) = fit ty v
value_or ty None = default ty

-- The initial value of `x`: the one that is set for its name; if there is none, the shown one;
-- otherwise false or 0. A value that has another type becomes false or 0.
abbrev pub start_value_over : List Setting → Variable → Option Val → Val
start_value_over settings x shown = option_map_or (λ s. fit x.ty s.value)
    (find (λ s. bytes_eq x.name s.name) settings) (value_or x.ty shown)

-- The initial values of the variables, where `shown` has values of the first ones.
abbrev pub start_values : List Setting → List Variable → List Val → List Val
start_values settings [] shown = []
start_values settings (x ∷ xs) [] = start_value_over settings x None ∷ start_values settings xs []
start_values settings (x ∷ xs) (v ∷ vs) =
    start_value_over settings x (Some v) ∷ start_values settings xs vs

-- The first state if the values of a state are shown: each value is the one that is set, otherwise
-- the shown one, otherwise false or 0.
abbrev pub start_state_over : TypedProcedure → List Setting → List Val → List Val
start_state_over p settings shown = start_values settings (variables p) shown
