-- Shapes of the procedures of an omega pair, and intermediate results for its goals.
use Rattle.std.specs.Prelude.{◌≡◌, ℕ, false, List, ◌∷◌, [], ◌++◌, None, map}
use Rattle.heylo_formula.specs.Binders.{has_binder}
use Rattle.heylo_formula.specs.Formula.{Form}
use Rattle.heylo_formula.specs.Typing.{types_in}
use Rattle.heylo_formula.specs.Variables.{IsOver}
use Rattle.heylo_formula.specs.declared.goals.Made.{Made}
use Rattle.heylo_formula.specs.declared.goals.Made.TheVariants as made
use Rattle.heylo_formula.specs.declared.types.Ty.{Ty}
use Rattle.heyvl_acts.specs.declared.typed_trees.TProc.{TProc}
use Rattle.heyvl_acts.specs.declared.typed_trees.VarInfo.{VarInfo}
use Rattle.vp_generator.specs.Limits.{IsSmall}
use Rattle.vp_generator.specs.declared.stops.VpStop.{VpStop}
use Rattle.vp_generator.specs.declared.stops.VpStop.TheVariants as stop
use Rattle.vp_generator.specs.PrenexedGoals.{types_of_variables}
use Rattle.lower_goals.specs.OmegaGoals.{after_body}
use Rattle.lower_goals.specs.OmegaPairs.{formula_of}
use Rattle.lower_goals.specs.declared.pairs.Pair.{Pair}
use Rattle.lower_goals.specs.LentOmegaPairs.{first, head, body, second}

-- A proc without body and outputs.
pub record IsBare (x : TProc) : Type 0 where
  pub proc : x.co ≡ false
  pub bodiless : x.body ≡ None
  pub no_outputs : x.outputs ≡ 0

-- The types of the variables of the scope, then UInt.
abbrev pub wanted : List VarInfo → List ℕ → List Ty
wanted own scope = map (types_in (types_of_variables own)) scope ++ Ty.UInt ∷ []

-- A formula without binders over `n` variables.
pub record IsPlainOver (n : ℕ) (f : Form) : Type 0 where
  pub plain : has_binder f ≡ false
  pub over : IsOver n f

-- The result for the limit that a form exceeds. Out of memory is no limit.
abbrev pub IsLimitBy : VpStop → Made → Type 0
IsLimitBy stop.Depth m = m ≡ made.Depth
IsLimitBy stop.Nodes m = m ≡ made.Nodes
IsLimitBy (stop.Memory e) m = ⊥

-- The form is the pre-expectation of the pair's formula over the loop's body, and it is within the
-- limits.
pub record IsTurnOf (x : Pair) (f : Form) : Type 0 where
  pub form : f ≡ after_body (body x) (formula_of (first x) (head x) (second x))
  pub small : IsSmall f
