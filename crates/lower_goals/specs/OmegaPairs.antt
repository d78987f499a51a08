-- Omega pairs of procedures, and the formula that the second procedure gives. This project's own.
use Rattle.std.specs.Prelude.{◌≡◌, ℕ, false, List, [], ◌∷◌, ◌++◌, None, length, map, get_or}
use Rattle.heylo_formula.specs.Formula.{Form}
use Rattle.heylo_formula.specs.declared.types.Ty.{Ty}
use Rattle.heyvl_acts.specs.Acts.{Head, TypedProcedure, type_list, types_of, variables}
use Rattle.vp_generator.specs.PrenexedForms.{Numbering, unbound}
use Rattle.lower_goals.specs.OneLoop.{OneLoop}

-- `places p h`: for each input of the second procedure, in order, the variable of `p` that it
-- means. These are the variables of the scope of the loop `h`, and then the number of iterations, a
-- variable whose number follows those of `p`.
abbrev pub places : TypedProcedure → Head → List ℕ
places p h = h.scope ++ length (variables p) ∷ []

-- The number at a position of a list.
abbrev pub by_position : List ℕ → Numbering
by_position xs y = get_or xs y 0

-- `formula_of p h q`: the pre of `q`, the second procedure, as a formula over the variables of `p`
-- and the number of iterations.
abbrev pub formula_of : TypedProcedure → Head → TypedProcedure → Form
formula_of p h q = unbound (by_position (places p h)) 0 q.pre

-- `IsOmegaPair p h q`: `q` is a proc without body and outputs. Its inputs have the types of the
-- variables in the scope of the loop `h` of `p`, in order, and then `UInt`.
pub record IsOmegaPair (p : TypedProcedure) (h : Head) (q : TypedProcedure) : Type 0 where
  pub proc : q.co ≡ false
  pub bodiless : q.body ≡ None
  pub no_outputs : q.outputs ≡ []
  pub inputs : type_list q.inputs ≡ map (types_of p) h.scope ++ Ty.UInt ∷ []

-- `OmegaPair p q`: the procedure `p` has one loop, and `q` gives a formula for it.
pub record OmegaPair (p q : TypedProcedure) : Type 0 where
  pub loop : OneLoop p
  pub pair : IsOmegaPair p loop.head q
