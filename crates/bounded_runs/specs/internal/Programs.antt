-- The requirements of the induction over runs on a procedure: the static rules of a program along
-- its acts, and the bound goals by the meaning of its body. This project's own.
use Rattle.std.specs.Prelude.{◌≡◌, ◌⊎◌, ◌≤◌, ℕ, Bool, true, false, List, [], ◌∷◌, ◌++◌, length}
use Rattle.heyvl_num.specs.Rational.{oneʳ}
use Rattle.heyvl_num.specs.Value.{oneᵛ, ◌≤ᵛ◌}
use Rattle.heyvl_num.specs.WeightedSums.{total_weight}
use Rattle.heylo_formula.specs.State.{Env, environment, IsTyped}
use Rattle.heylo_formula.specs.Choices.{Choices}
use Rattle.heylo_formula.specs.Formula.{Form}
use Rattle.heylo_formula.specs.Meaning.{value}
use Rattle.heylo_formula.specs.Goals.{Compares}
use Rattle.heylo_formula.specs.Typing.{types_in, is_well_typed, TermFits, HasTypes}
use Rattle.heylo_formula.specs.Variables.{IsOver}
use Rattle.heylo_formula.specs.declared.types.Ty.{Ty}
use Rattle.heylo_formula.specs.declared.values.Val.{Val}
use Rattle.heyvl_acts.specs.Acts.{Head, Act, Acts, Arms, TypedProcedure, variables, type_list}
use Rattle.heyvl_acts.specs.Acts.{types_of, acts_in, procedure_at}
use Rattle.heyvl_acts.specs.ModifiedVariables.{modified}
use Rattle.heyvl_acts.specs.Rules.{IsOwn, widens_to, ArgumentsFit}
use Rattle.heyvl_acts.specs.Visible.{Visible, among, interface, Scoped}
use Rattle.heyvl_acts.specs.WellTypedActs.{IsHeld, IsProbability, PartsFit}
use Rattle.bounded_runs.specs.internal.Contracts.{meaning}

-- ---- The acts change only these of the visible variables

abbrev pub In : ℕ → List ℕ → Type 0
In x [] = ⊥
In x (m ∷ ms) = (m ≡ x) ⊎ In x ms

abbrev pub AllIn : Visible → List ℕ → List ℕ → Type 0
AllIn v ms [] = Unit {0}
AllIn v ms (x ∷ xs) = (v x ≡ true → In x ms) × AllIn v ms xs

abbrev mutual
  pub WithinAct : Visible → List ℕ → Act → Type 0
  WithinAct v ms (Act.set x t span) = v x ≡ true → In x ms
  WithinAct v ms (Act.draw x qs span) = v x ≡ true → In x ms
  WithinAct v ms (Act.toss x f span) = v x ≡ true → In x ms
  WithinAct v ms (Act.any x up ty span) = v x ≡ true → In x ms
  WithinAct v ms (Act.reward f span) = Unit {0}
  WithinAct v ms (Act.ifs arms e span) = WithinArms v ms arms × Within v ms e
  WithinAct v ms (Act.pick up a b span) = Within v ms a × Within v ms b
  WithinAct v ms (Act.check kind f span) = Unit {0}
  WithinAct v ms (Act.validate co span) = Unit {0}
  WithinAct v ms (Act.loop h b) = AllIn v ms (modified h.scope b) × Within v ms b
  WithinAct v ms (Act.call xs p es span) = AllIn v ms xs

  pub Within : Visible → List ℕ → Acts → Type 0
  Within v ms Acts.done = Unit {0}
  Within v ms (Acts.next a rest) = WithinAct v ms a × Within v ms rest

  pub WithinArms : Visible → List ℕ → Arms → Type 0
  WithinArms v ms Arms.no_arm = Unit {0}
  WithinArms v ms (Arms.arm g b more) = Within v ms b × WithinArms v ms more

-- ---- Programs

-- The targets of a call are no inputs, and their types include those of the outputs.
abbrev pub Owns : TypedProcedure → List ℕ → List Ty → Type 0
Owns p [] [] = Unit {0}
Owns p [] (t ∷ ts) = ⊥
Owns p (x ∷ xs) [] = ⊥
Owns p (x ∷ xs) (t ∷ ts) = (IsOwn p x × (widens_to t (types_of p x) ≡ true)) × Owns p xs ts

-- The formula is at most 1 in every state of these types.
abbrev pub IsSmall : List Ty → Form → Type 0
IsSmall tys f = (s : List Val) → IsTyped tys s → value f (environment s) Choices.stop ≤ᵛ oneᵛ

-- A loop of a program, with the direction `up`. In a proc with `@wlp` its invariant is at most 1.
pub record IsLoop (up : Bool) (p : TypedProcedure) (h : Head) (b : Acts) : Type 0 where
  pub some_copy : 1 ≤ h.k
  pub inv : IsHeld (types_of p) h.inv
  pub over : IsOver (length (variables p)) h.inv
  pub guard : is_well_typed (types_of p) h.guard ≡ true
  pub small : up ≡ false → IsSmall (type_list (variables p)) h.inv
  pub within : Within (among h.scope) (modified h.scope b) b

-- The acts of a program with the direction `up`, whose calls are of procedures that satisfy `R`.
-- Without `up`, there are no rewards.
abbrev mutual
  pub ProgramAct : Bool → List TypedProcedure → (ℕ → Type 0) → TypedProcedure → Act → Type 0
  ProgramAct up ps R p (Act.set x t span) = IsOwn p x × TermFits (types_of p) (types_of p x) t
  ProgramAct up ps R p (Act.draw x qs span) =
      IsOwn p x × (PartsFit (types_of p) x qs × (total_weight qs ≡ oneʳ))
  ProgramAct up ps R p (Act.toss x f span) =
      IsOwn p x × ((types_of p x ≡ Ty.Bool) × IsProbability (types_of p) f)
  ProgramAct up ps R p (Act.any x d ty span) = IsOwn p x × ((types_of p x ≡ ty) × (d ≡ up))
  ProgramAct up ps R p (Act.reward f span) = (up ≡ true) × IsHeld (types_of p) f
  ProgramAct up ps R p (Act.ifs arms e span) = ProgramArms up ps R p arms × Program up ps R p e
  ProgramAct up ps R p (Act.pick d a b span) =
      (d ≡ up) × (Program up ps R p a × Program up ps R p b)
  ProgramAct up ps R p (Act.check kind f span) = ⊥
  ProgramAct up ps R p (Act.validate co span) = ⊥
  ProgramAct up ps R p (Act.loop h b) = IsLoop up p h b × Program up ps R p b
  ProgramAct up ps R p (Act.call xs q es span) = R q
      × (Owns p xs (type_list (procedure_at ps q).outputs)
      × ArgumentsFit p (type_list (procedure_at ps q).inputs) es)

  pub Program : Bool → List TypedProcedure → (ℕ → Type 0) → TypedProcedure → Acts → Type 0
  Program up ps R p Acts.done = Unit {0}
  Program up ps R p (Acts.next a rest) = ProgramAct up ps R p a × Program up ps R p rest

  pub ProgramArms : Bool → List TypedProcedure → (ℕ → Type 0) → TypedProcedure → Arms → Type 0
  ProgramArms up ps R p Arms.no_arm = Unit {0}
  ProgramArms up ps R p (Arms.arm g b more) =
      (is_well_typed (types_of p) g ≡ true) × (Program up ps R p b × ProgramArms up ps R p more)

-- The pre and the post of a procedure are formulas over its interface.
pub record HasFormulas (p : TypedProcedure) : Type 0 where
  pub pre : IsHeld (types_in (type_list p.inputs)) p.pre
  pub post : IsHeld (types_in (type_list (p.inputs ++ p.outputs))) p.post
  pub pre_over : IsOver (length p.inputs) p.pre
  pub post_over : IsOver (length (p.inputs ++ p.outputs)) p.post

-- The bound holds by the meaning of the body.
abbrev pub IsMeantWithin : Bool → List TypedProcedure → TypedProcedure → Type 0
IsMeantWithin up ps p = (s : Env) (c : Choices) → HasTypes (types_of p) s
    → Compares up (value p.pre s Choices.stop)
    (meaning up (types_of p) ps (acts_in p.body) (λ t d. value p.post t Choices.stop) s c)

-- A program whose bound holds by the meaning of its body.
pub record IsBoundedProgram (up : Bool) (ps : List TypedProcedure) (R : ℕ
    → Type 0) (p : TypedProcedure) : Type 0 where
  pub formulas : HasFormulas p
  pub program : Program up ps R p (acts_in p.body)
  pub scoped : Scoped (interface p) (acts_in p.body)
  pub bound : IsMeantWithin up ps p
  pub small_pre : up ≡ false → IsSmall (type_list p.inputs) p.pre
  pub small_post : up ≡ false → IsSmall (type_list (p.inputs ++ p.outputs)) p.post
