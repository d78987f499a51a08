-- Upper goals whose stated bound has binders. This project's own.
use Rattle.std.specs.Prelude.{true, List, ◌++◌, length}
use Rattle.heylo_formula.specs.BinderNames.{binders}
use Rattle.heylo_formula.specs.Formula.{Form}
use Rattle.heylo_formula.specs.Goals.{Goal}
use Rattle.heyvl_acts.specs.Acts.{Variable, type_list}
use Rattle.made_goals.specs.MadeGoals.{all_names}
use Rattle.vp_generator.specs.PrenexedForms.{new_types, prenexed}

-- `upper_goal vs stated found`: the goal over the variables `vs` that `stated` is at least `found`.
-- Each binder of `stated` gets a separate variable, and `found` has no binders.
abbrev pub upper_goal : List Variable → Form → Form → Goal
upper_goal vs stated found = record {
  upper = true;
  stated = prenexed (length (type_list vs)) stated;
  found = found;
  types = type_list vs ++ new_types (binders stated);
  names = all_names vs stated;
  own = length (type_list vs);
}
