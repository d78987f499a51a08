-- Well-typed forms. UInt widens to Int and to UReal, UReal widens to EUReal, and hence UInt to
-- EUReal too. The join of two types is the least type to which both widen; Int has no join with
-- UReal and EUReal. A formula is a form of UInt, UReal or EUReal.
use Rattle.std.specs.Prelude.{◌≡◌, ℕ, Bool, true, false, ◌==◌, ◌&&◌, Option, Some, None, List}
use Rattle.std.specs.Prelude.{get_or, if◌then◌else◌}
use Rattle.heyvl_num.specs.Rational.{zeroʳ, leqʳ}
use Rattle.heyvl_num.specs.Value.{Value}
use Rattle.heyvl_num.specs.Value.Value.{finite, infinite}
use Rattle.heylo_formula.specs.Formula.{Form, Cond, Term}
use Rattle.heylo_formula.specs.State.{Env, has}
use Rattle.heylo_formula.specs.declared.types.Ty.{Ty}

-- The types of forms. EUReal is UReal with infinity.
pub data NumberType : Type 0 where
  int : NumberType
  uint : NumberType
  ureal : NumberType
  eureal : NumberType

-- The type of each variable.
abbrev pub Types : Type 0
Types = ℕ → Ty

-- The types of a list; Bool for a variable beyond the list.
abbrev pub types_in : List Ty → Types
types_in tys x = get_or tys x Ty.Bool

-- `retyped x ty types`: `types` with the type `ty` for the variable `x`.
abbrev pub retyped : ℕ → Ty → Types → Types
retyped x ty types y = if x == y then ty else types y

-- The type of a variable as a type of forms; none for Bool.
abbrev pub number_type : Ty → Option NumberType
number_type Ty.Bool = None
number_type Ty.Int = Some NumberType.int
number_type Ty.UInt = Some NumberType.uint
number_type Ty.UReal = Some NumberType.ureal

-- The type is Bool.
abbrev pub is_bool : Ty → Bool
is_bool Ty.Bool = true
is_bool Ty.Int = false
is_bool Ty.UInt = false
is_bool Ty.UReal = false

-- The join of two types, if it exists.
abbrev pub join : NumberType → NumberType → Option NumberType
join NumberType.int NumberType.int = Some NumberType.int
join NumberType.int NumberType.uint = Some NumberType.int
join NumberType.int NumberType.ureal = None
join NumberType.int NumberType.eureal = None
join NumberType.uint t = Some t
join NumberType.ureal NumberType.int = None
join NumberType.ureal NumberType.uint = Some NumberType.ureal
join NumberType.ureal NumberType.ureal = Some NumberType.ureal
join NumberType.ureal NumberType.eureal = Some NumberType.eureal
join NumberType.eureal NumberType.int = None
join NumberType.eureal NumberType.uint = Some NumberType.eureal
join NumberType.eureal NumberType.ureal = Some NumberType.eureal
join NumberType.eureal NumberType.eureal = Some NumberType.eureal

-- The first type widens to the second.
abbrev pub widens : NumberType → NumberType → Bool
widens NumberType.int NumberType.int = true
widens NumberType.int NumberType.uint = false
widens NumberType.int NumberType.ureal = false
widens NumberType.int NumberType.eureal = false
widens NumberType.uint t = true
widens NumberType.ureal NumberType.int = false
widens NumberType.ureal NumberType.uint = false
widens NumberType.ureal NumberType.ureal = true
widens NumberType.ureal NumberType.eureal = true
widens NumberType.eureal NumberType.int = false
widens NumberType.eureal NumberType.uint = false
widens NumberType.eureal NumberType.ureal = false
widens NumberType.eureal NumberType.eureal = true

-- `has_type_within u t`: the type `t` exists, and it widens to `u`.
abbrev pub has_type_within : NumberType → Option NumberType → Bool
has_type_within u (Some t) = widens t u
has_type_within u None = false

-- `fits t u`: the type `t` exists and widens to the type `u`, or `u` does not exist. UInt fits
-- UReal, and UReal does not fit Int.
abbrev pub fits : Option NumberType → Option NumberType → Bool
fits t (Some u) = has_type_within u t
fits t None = true

-- The join of two types, if both types and the join exist.
abbrev pub joined : Option NumberType → Option NumberType → Option NumberType
joined (Some t) (Some u) = join t u
joined (Some t) None = None
joined None t = None

-- The type is Int, UInt or UReal.
abbrev pub is_finite_type : Option NumberType → Bool
is_finite_type (Some NumberType.int) = true
is_finite_type (Some NumberType.uint) = true
is_finite_type (Some NumberType.ureal) = true
is_finite_type (Some NumberType.eureal) = false
is_finite_type None = false

-- The type is Int or UInt.
abbrev pub is_whole_type : Option NumberType → Bool
is_whole_type (Some NumberType.int) = true
is_whole_type (Some NumberType.uint) = true
is_whole_type (Some NumberType.ureal) = false
is_whole_type (Some NumberType.eureal) = false
is_whole_type None = false

-- The type is UInt, UReal or EUReal.
abbrev pub is_unsigned : Option NumberType → Bool
is_unsigned (Some NumberType.int) = false
is_unsigned (Some NumberType.uint) = true
is_unsigned (Some NumberType.ureal) = true
is_unsigned (Some NumberType.eureal) = true
is_unsigned None = false

-- The type if the flag is true, otherwise none.
abbrev pub only_if : Bool → Option NumberType → Option NumberType
only_if true t = t
only_if false t = None

-- The type of a constant: UInt for a nonnegative integer, UReal for another nonnegative fraction,
-- Int for a negative integer, EUReal for infinity, and none for another negative fraction.
abbrev pub constant_type : Value → Option NumberType
constant_type (finite x) = if leqʳ zeroʳ x
    then Some (if x.den == 1 then NumberType.uint else NumberType.ureal)
    else only_if (x.den == 1) (Some NumberType.int)
constant_type infinite = Some NumberType.eureal

-- The type of a difference, from the join of its operands: Int for integers, otherwise none.
abbrev pub difference_type : Option NumberType → Option NumberType
difference_type (Some NumberType.int) = Some NumberType.int
difference_type (Some NumberType.uint) = Some NumberType.int
difference_type (Some NumberType.ureal) = None
difference_type (Some NumberType.eureal) = None
difference_type None = None

-- The type of a truncated difference, from the join of its operands, which has to be UInt or UReal.
abbrev pub cut_type : Option NumberType → Option NumberType
cut_type t = only_if (is_unsigned t && is_finite_type t) t

-- The type of a multiple of an unsigned form; a multiple of a UInt is a UReal.
abbrev pub scale_type : Option NumberType → Option NumberType
scale_type (Some NumberType.int) = None
scale_type (Some NumberType.uint) = Some NumberType.ureal
scale_type (Some NumberType.ureal) = Some NumberType.ureal
scale_type (Some NumberType.eureal) = Some NumberType.eureal
scale_type None = None

abbrev mutual
  -- The type of a form, if all its nodes are well typed; otherwise none. The sum of a UInt and a
  -- UReal is a UReal; that of an Int and a UReal has no type.
  pub type_of : Types → Form → Option NumberType
  type_of types (Form.number v) = constant_type v
  type_of types (Form.variable x) = number_type (types x)
  type_of types (Form.sum a b) = joined (type_of types a) (type_of types b)
  type_of types (Form.difference a b) = difference_type (joined (type_of types a) (type_of types b))
  type_of types (Form.cut a b) = cut_type (joined (type_of types a) (type_of types b))
  type_of types (Form.scale w a) = only_if (leqʳ zeroʳ w) (scale_type (type_of types a))
  type_of types (Form.product a b span) = joined (type_of types a) (type_of types b)
  type_of types (Form.min a b) = joined (type_of types a) (type_of types b)
  type_of types (Form.max a b) = joined (type_of types a) (type_of types b)
  type_of types (Form.imply a b) = only_if
      (is_unsigned (type_of types a) && is_unsigned (type_of types b)) (Some NumberType.eureal)
  type_of types (Form.co_imply a b) = only_if
      (is_unsigned (type_of types a) && is_unsigned (type_of types b)) (Some NumberType.eureal)
  type_of types (Form.validate a) = only_if (is_unsigned (type_of types a)) (Some NumberType.eureal)
  type_of types (Form.co_validate a) =
      only_if (is_unsigned (type_of types a)) (Some NumberType.eureal)
  type_of types (Form.embed g) = only_if (is_well_typed types g) (Some NumberType.eureal)
  type_of types (Form.iverson g) = only_if (is_well_typed types g) (Some NumberType.uint)
  type_of types (Form.select g a b) =
      only_if (is_well_typed types g) (joined (type_of types a) (type_of types b))
  type_of types (Form.bind up x name ty a) =
      only_if (is_unsigned (type_of (retyped x ty types) a)) (Some NumberType.eureal)

  -- The parts of a condition are well typed for the types of the variables.
  pub is_well_typed : Types → Cond → Bool
  is_well_typed types (Cond.constant b) = true
  is_well_typed types (Cond.flag x) = is_bool (types x)
  is_well_typed types (Cond.not g) = is_well_typed types g
  is_well_typed types (Cond.and g h) = is_well_typed types g && is_well_typed types h
  is_well_typed types (Cond.or g h) = is_well_typed types g && is_well_typed types h
  is_well_typed types (Cond.same g h) = is_well_typed types g && is_well_typed types h
  is_well_typed types (Cond.le a b) = is_finite_type (joined (type_of types a) (type_of types b))
  is_well_typed types (Cond.lt a b) = is_finite_type (joined (type_of types a) (type_of types b))
  is_well_typed types (Cond.equal a b) = is_finite_type (joined (type_of types a) (type_of types b))
  is_well_typed types (Cond.ite g h k) =
      is_well_typed types g && (is_well_typed types h && is_well_typed types k)

-- The form is a formula: its type is UInt, UReal or EUReal.
abbrev pub IsFormula : Types → Form → Type 0
IsFormula types f = is_unsigned (type_of types f) ≡ true

-- The term may be substituted for a variable of the type: a well-typed condition for Bool,
-- otherwise a form whose type widens to it.
abbrev pub TermFits : Types → Ty → Term → Type 0
TermFits types ty (Term.truth g) = (ty ≡ Ty.Bool) × (is_well_typed types g ≡ true)
TermFits types ty (Term.number f) =
    (is_bool ty ≡ false) × (fits (type_of types f) (number_type ty) ≡ true)

-- Each variable has a value of its type.
pub record HasTypes (types : Types) (s : Env) : Type 0 where
  pub typed : (x : ℕ) → has (types x) (s x) ≡ true
