-- Laws of typed forms and terms: integer values, binders, and values of a type.
use Rattle.std.specs.Prelude.{◌≡◌, true, false, Option}
use Rattle.heyvl_num.specs.WholeNumbers.{IsWhole}
use Rattle.heylo_formula.specs.Formula.{Form, Cond, Term}
use Rattle.heylo_formula.specs.State.{Env, has, fit}
use Rattle.heylo_formula.specs.Choices.{Choices}
use Rattle.heylo_formula.specs.Meaning.{value, term_value}
use Rattle.heylo_formula.specs.Binders.{has_binder, has_binder_in, IsPlain}
use Rattle.heylo_formula.specs.Typing.{NumberType, Types, type_of, is_well_typed, is_finite_type}
use Rattle.heylo_formula.specs.Typing.{is_whole_type, is_unsigned, joined, HasTypes, TermFits}
use Rattle.heylo_formula.specs.declared.types.Ty.{Ty}
use Rattle.heylo_formula.specs.declared.values.Val.{Val}

-- The value of a form of Int or UInt is an integer if the variables have values of their types.
abbrev pub WholeTypesAreWhole : Type 0
WholeTypesAreWhole = (types : Types) (f : Form) (s : Env) (c : Choices) → HasTypes types s
    → is_whole_type (type_of types f) ≡ true → IsWhole (value f s c)

-- A term that fits a type has a value of the type.
abbrev pub TermsHaveValuesOfTheirTypes : Type 0
TermsHaveValuesOfTheirTypes = (types : Types) (ty : Ty) (t : Term) (s : Env) → TermFits types ty t
    → HasTypes types s → has ty (term_value t s) ≡ true

-- A form of Int, UInt or UReal has no binder.
abbrev pub FiniteTypesHaveNoBinder : Type 0
FiniteTypesHaveNoBinder = (types : Types) (f : Form) → is_finite_type (type_of types f) ≡ true
    → has_binder f ≡ false

-- A well-typed condition has no binder.
abbrev pub TypedConditionsHaveNoBinder : Type 0
TypedConditionsHaveNoBinder = (types : Types) (g : Cond) → is_well_typed types g ≡ true
    → has_binder_in g ≡ false

-- A term that fits a type is plain.
abbrev pub TermsThatFitArePlain : Type 0
TermsThatFitArePlain = (types : Types) (ty : Ty) (t : Term) → TermFits types ty t → IsPlain t

-- `fit` yields a value of the type.
abbrev pub FitIsTyped : Type 0
FitIsTyped = (ty : Ty) (v : Val) → has ty (fit ty v) ≡ true

-- `fit` keeps a value of the type.
abbrev pub FitKeeps : Type 0
FitKeeps = (ty : Ty) (v : Val) → has ty v ≡ true → fit ty v ≡ v

-- The join of two unsigned types is unsigned.
abbrev pub JoinsOfUnsigned : Type 0
JoinsOfUnsigned = (t u : Option NumberType) → is_unsigned t ≡ true → is_unsigned u ≡ true
    → is_unsigned (joined t u) ≡ true
