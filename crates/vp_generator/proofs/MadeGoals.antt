-- The goal that the program builds is the prenexed goal.
use Rattle.std.proofs.Common.{◌≡◌, ℕ, sym, ap, ◌∙◌, Bool, List, ◌++◌}
use Rattle.std.proofs.Math.ListN.{length}
use Rattle.heylo_formula.specs.BinderNames.{binders}
use Rattle.heylo_formula.specs.Formula.{Form}
use Rattle.heylo_formula.specs.Goals.{Goal}
use Rattle.heylo_formula.specs.declared.types.Ty.{Ty}
use Rattle.heyvl_acts.specs.declared.typed_trees.VarInfo.{VarInfo}
use Rattle.vp_generator.specs.PrenexedForms.{prenexed, new_types}
use Rattle.vp_generator.specs.PrenexedGoals.{prenexed_goal, types_of_variables, names_of_variables}
use Rattle.vp_generator.specs.Scopes.{named}
use Rattle.vp_generator.proofs.BinderCounts.{named_types, same_length}

abbrev made : Bool → Form → Form → List Ty → List (List ℕ) → ℕ → Goal
made up stated f types names own = record { upper = up; stated = stated; found = f; types = types; names = names; own = own }

pub made_goal : (up : Bool) (stated found f : Form) (vs all : List VarInfo) (types : List Ty) (names : List (List ℕ)) (own : ℕ) → f ≡ prenexed (length vs) found → all ≡ named vs (binders found) → types ≡ types_of_variables all → names ≡ names_of_variables all → own ≡ length vs → made up stated f types names own ≡ prenexed_goal up (types_of_variables vs) (names_of_variables (named vs (binders found))) stated found
made_goal up stated found f vs all types names own h i j k l =
    let e = same_length vs in
    ap (λ g. made up stated g types names own) (h ∙ ap (λ n. prenexed n found) (sym e))
    ∙ ap (λ t. made up stated (prenexed (length (types_of_variables vs)) found) t names own) (j ∙ ap types_of_variables i ∙ named_types vs (binders found))
    ∙ ap (λ n. made up stated (prenexed (length (types_of_variables vs)) found) (types_of_variables vs ++ new_types (binders found)) n own) (k ∙ ap names_of_variables i)
    ∙ ap (λ o. made up stated (prenexed (length (types_of_variables vs)) found) (types_of_variables vs ++ new_types (binders found)) (names_of_variables (named vs (binders found))) o) (l ∙ sym e)
