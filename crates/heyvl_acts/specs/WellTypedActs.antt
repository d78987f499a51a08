-- Well-typed acts without loops and calls, which the law of the generated form requires.
use Rattle.std.specs.Prelude.{◌≡◌, ℕ, true, false, List, [], ◌∷◌}
use Rattle.heyvl_num.specs.Rational.{Rational, zeroʳ, ◌≤ʳ◌}
use Rattle.heylo_formula.specs.Formula.{Form, Term}
use Rattle.heylo_formula.specs.declared.types.Ty.{Ty}
use Rattle.heylo_formula.specs.Binders.{has_binder}
use Rattle.heylo_formula.specs.NumericVariables.{has_variable}
use Rattle.heylo_formula.specs.Typing.{Types, type_of, is_finite_type, is_well_typed, IsFormula}
use Rattle.heylo_formula.specs.Typing.{TermFits}
use Rattle.heyvl_acts.specs.Acts.{Act, Acts, Arms}

-- The form is a formula without binders, as in acts.
abbrev pub IsHeld : Types → Form → Type 0
IsHeld types f = IsFormula types f × (has_binder f ≡ false)

-- The form may weigh a toss: it is a UInt or UReal without binders.
abbrev pub IsWeight : Types → Form → Type 0
IsWeight types f = IsHeld types f × (is_finite_type (type_of types f) ≡ true)

-- The form may weigh a toss by the rules of the language: in addition, no numeric variable occurs
-- in it outside conditions.
abbrev pub IsProbability : Types → Form → Type 0
IsProbability types f = IsHeld types f
    × ((is_finite_type (type_of types f) ≡ true) × (has_variable f ≡ false))

-- Each alternative has a nonnegative weight, and its term fits the variable.
abbrev pub PartsFit : Types → ℕ → List (Rational × Term) → Type 0
PartsFit types x [] = Unit {0}
PartsFit types x (p ∷ ps) = ((zeroʳ ≤ʳ p.0) × TermFits types (types x) p.1) × PartsFit types x ps

-- A draw has at least one alternative, and its alternatives fit the variable.
abbrev pub DrawFits : Types → ℕ → List (Rational × Term) → Type 0
DrawFits types x [] = ⊥
DrawFits types x (p ∷ ps) = PartsFit types x (p ∷ ps)

abbrev mutual
  -- The act is well typed for the types of the variables.
  pub ActFits : Types → Act → Type 0
  ActFits types (Act.set x t span) = TermFits types (types x) t
  ActFits types (Act.draw x ps span) = DrawFits types x ps
  ActFits types (Act.toss x f span) = (types x ≡ Ty.Bool) × IsWeight types f
  ActFits types (Act.any x up ty span) = types x ≡ ty
  ActFits types (Act.reward f span) = IsHeld types f
  ActFits types (Act.ifs arms e span) = ArmsFit types arms × ActsFit types e
  ActFits types (Act.pick up a b span) = ActsFit types a × ActsFit types b
  ActFits types (Act.check kind f span) = IsHeld types f
  ActFits types (Act.validate co span) = Unit {0}
  ActFits types (Act.loop h b) = ⊥
  ActFits types (Act.call xs p es span) = ⊥

  -- The acts are well typed for the types of the variables.
  pub ActsFit : Types → Acts → Type 0
  ActsFit types Acts.done = Unit {0}
  ActsFit types (Acts.next a rest) = ActFits types a × ActsFit types rest

  -- The guards and the acts of the arms are well typed for the types of the variables.
  pub ArmsFit : Types → Arms → Type 0
  ArmsFit types Arms.no_arm = Unit {0}
  ArmsFit types (Arms.arm g b more) = (is_well_typed types g ≡ true)
      × (ActsFit types b × ArmsFit types more)
