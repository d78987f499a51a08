-- Goals of two formulas over variables, and the names of their variables. This project's own.
use Rattle.std.specs.Prelude.{ℕ, Bool, List, [], ◌++◌, map, get_or}
use Rattle.heylo_formula.specs.BinderNames.{binders}
use Rattle.heylo_formula.specs.Formula.{Form}
use Rattle.heylo_formula.specs.Goals.{Goal}
use Rattle.heyvl_acts.specs.Acts.{Variable, type_list}
use Rattle.vp_generator.specs.PrenexedGoals.{prenexed_goal}

-- The names of variables, in their order.
abbrev pub names : List Variable → List (List ℕ)
names vs = map (λ v. v.name) vs

-- The names of the variables, and for each binder of `f` the name of the variable after which it is
-- named.
abbrev pub all_names : List Variable → Form → List (List ℕ)
all_names vs f = names vs ++ map (λ b. get_or (names vs) b.0 []) (binders f)

-- The goal of the bound `stated` and the computed form `found`. Each binder of `found` gets a
-- separate variable.
abbrev pub goal_over : Bool → List Variable → Form → Form → Goal
goal_over up vs stated found = prenexed_goal up (type_list vs) (all_names vs found) stated found
