-- Fresh variables in a procedure's main goal. The encoding of a call assigns each fresh variable
-- before it reads it. So the generated form has only the procedure's variables free: in a main goal
-- the fresh variables count as variables of the goal, and occur in neither form. This project's
-- own.
use Rattle.std.specs.Prelude.{◌≡◌, ◌≤◌, ◌<◌, ◌+◌, ℕ, false, List, length}
use Rattle.heylo_formula.specs.Formula.{Form}
use Rattle.heylo_formula.specs.Goals.{Goal}
use Rattle.heylo_formula.specs.Variables.{is_free, occurs, IsOver}
use Rattle.heyvl_acts.specs.Acts.{TypedProcedure, acts_in, procedure_at, type_list, variables}
use Rattle.heyvl_acts.specs.Rules.{Each, MeetsRules}
use Rattle.vp_generator.specs.GeneratedForms.{vp}
use Rattle.vp_generator.specs.PrenexedGoals.{prenexed_goal}
use Rattle.loop_encodings.specs.Encoding.{all_variables, encoding}
use Rattle.loop_encodings.specs.Fresh.{fresh}

-- The form that is generated from a procedure's encoding, before its post.
abbrev pub generated_form : List TypedProcedure → TypedProcedure → Form
generated_form ps p = vp (encoding ps p) p.post

-- `main_goal ps p names`: the main goal of the procedure `p`, whose variables have the names
-- `names`. The pre is the stated bound, the prenexed generated form the computed form.
abbrev pub main_goal : List TypedProcedure → TypedProcedure → List (List ℕ) → Goal
main_goal ps p names = prenexed_goal p.co (type_list (all_variables ps p)) names p.pre
    (generated_form ps p)

-- `x` is the number of a fresh variable: it follows those of the procedure's variables.
pub record IsFreshNumber (ps : List TypedProcedure) (p : TypedProcedure) (x : ℕ) : Type 0 where
  pub after_own : length (variables p) ≤ x
  pub below_all : x < length (all_variables ps p)

-- The main goal counts the procedure's variables and the fresh ones as its own; those of binders
-- follow.
abbrev pub MainGoalsCountFreshVariables : Type 0
MainGoalsCountFreshVariables = (ps : List TypedProcedure) (p : TypedProcedure)
    (names : List (List ℕ))
    → (main_goal ps p names).own ≡ length (variables p) + length (fresh ps (acts_in p.body))

-- In a file that satisfies the static rules, the pre and the generated form have free only
-- variables of the procedure.
abbrev pub MainFormsAreOverOwnVariables : Type 0
MainFormsAreOverOwnVariables = (ps : List TypedProcedure) (p : ℕ) → Each (MeetsRules ps) ps
    → p < length ps → IsOver (length (variables (procedure_at ps p))) (procedure_at ps p).pre
    × IsOver (length (variables (procedure_at ps p))) (generated_form ps (procedure_at ps p))

-- A fresh variable is free neither in the pre nor in the generated form.
abbrev pub FreshVariablesAreNotFree : Type 0
FreshVariablesAreNotFree = (ps : List TypedProcedure) (p : ℕ) (x : ℕ) → Each (MeetsRules ps) ps
    → p < length ps → IsFreshNumber ps (procedure_at ps p) x
    → (is_free x (procedure_at ps p).pre ≡ false)
    × (is_free x (generated_form ps (procedure_at ps p)) ≡ false)

-- A fresh variable occurs in neither form of the main goal. These have no binders, and the
-- variables of binders follow the fresh ones.
abbrev pub MainGoalsLackFreshVariables : Type 0
MainGoalsLackFreshVariables = (ps : List TypedProcedure) (p : ℕ) (names : List (List ℕ)) (x : ℕ)
    → Each (MeetsRules ps) ps → p < length ps → IsFreshNumber ps (procedure_at ps p) x
    → (occurs x (main_goal ps (procedure_at ps p) names).stated ≡ false)
    × (occurs x (main_goal ps (procedure_at ps p) names).found ≡ false)
