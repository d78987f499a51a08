-- Right sides: the findings in their parts, and what they break in a statement that assigns them.
-- This project's own.
use Rattle.heylo_formula.specs.NumericVariables.{has_variable}
use Rattle.heylo_formula.specs.Operators.{agree}
use Rattle.heylo_formula.specs.Typing.NumberType.{eureal, int, uint, ureal}
use Rattle.heylo_formula.specs.Typing.{NumberType, is_finite_type, join, widens}
use Rattle.heyvl_syntax.specs.Expressions.{Expression}
use Rattle.heyvl_syntax.specs.Statements.{RightSide}
use Rattle.heyvl_syntax.specs.declared.types.TypeName.{TypeName}
use Rattle.static_rules.specs.Literals.{ends_wrong, integer, is_negative, is_over_zero}
use Rattle.static_rules.specs.Literals.{is_probability, is_weight_literal, weigh_wrong, weight}
use Rattle.static_rules.specs.declared.weights.Weight.{Weight}
use Rattle.std.specs.List.{list_any}
use Rattle.std.specs.Option.{is_none}
use Rattle.std.specs.Prelude.{Bool, List, None, Option, Some, [], false, if◌then◌else◌, length, map}
use Rattle.std.specs.Prelude.{not, option_map, true, ◌&&◌, ◌++◌, ◌==◌, ◌||◌, ◌∷◌, ℕ}
use Rattle.typed_expressions.specs.Findings.{Finding}
use Rattle.typed_expressions.specs.Scopes.{Scope}
use Rattle.typed_expressions.specs.Signatures.{Called, Signature, find_call}
use Rattle.typed_expressions.specs.Table.{Meaning, given}
use Rattle.typed_expressions.specs.TypedExpressions.{closed_findings, elaborate}
use Rattle.typed_expressions.specs.Values.{form}
use Rattle.typed_expressions.specs.declared.demands.Demand.{Demand}

-- ---- Parts

-- The findings in a weight: none in a weight literal, whose divisor is a matter of its statement.
abbrev pub weight_findings : ℕ → Scope → Expression → List Finding
weight_findings n sc e = if is_weight_literal (weight e) then []
    else closed_findings Demand.Any n sc e

-- The findings in expressions of any type without quantifiers, one after the other.
abbrev pub all_findings : ℕ → Scope → List Expression → List Finding
all_findings n sc [] = []
all_findings n sc (e ∷ es) = closed_findings Demand.Any n sc e ++ all_findings n sc es

-- The findings in the parts of a `choose`: in each weight, then in its value.
abbrev pub choices_findings : ℕ → Scope → List (Expression × Expression) → List Finding
choices_findings n sc [] = []
choices_findings n sc (p ∷ ps) =
    weight_findings n sc p.0 ++ closed_findings Demand.Any n sc p.1 ++ choices_findings n sc ps

-- The findings in the parts of a right side, in their order.
abbrev pub right_findings : ℕ → Scope → RightSide → List Finding
right_findings n sc (RightSide.plain e) = closed_findings Demand.Any n sc e
right_findings n sc (RightSide.flip p) = weight_findings n sc p
right_findings n sc (RightSide.unif a b) =
    closed_findings Demand.Any n sc a ++ closed_findings Demand.Any n sc b
right_findings n sc (RightSide.choose parts) = choices_findings n sc parts
right_findings n sc (RightSide.call p arguments) = all_findings n sc arguments

-- ---- Types

-- The type of a value that a variable may be assigned.
pub data ValueType : Type 0 where
  truth : ValueType
  number : NumberType → ValueType

-- The type of an elaborated expression; nothing for a variable of type `Real`.
abbrev pub type_of_meaning : Meaning → Option ValueType
type_of_meaning (Meaning.truth g) = Some ValueType.truth
type_of_meaning (Meaning.number t a) = Some (ValueType.number t)
type_of_meaning Meaning.real = None

-- The type of an expression; nothing if it is ill typed, or a variable of type `Real`.
abbrev pub type_of_expression : ℕ → Scope → Expression → Option ValueType
type_of_expression n sc e = given (elaborate n sc e) type_of_meaning

-- The type of the values that a type name denotes; nothing for `Real`.
abbrev pub type_of_name : TypeName → Option ValueType
type_of_name TypeName.Bool = Some ValueType.truth
type_of_name TypeName.Int = Some (ValueType.number int)
type_of_name TypeName.UInt = Some (ValueType.number uint)
type_of_name TypeName.UReal = Some (ValueType.number ureal)
type_of_name TypeName.EUReal = Some (ValueType.number eureal)
type_of_name TypeName.Real = None

-- The common type of two types, if there is one.
abbrev pub join_types : ValueType → ValueType → Option ValueType
join_types ValueType.truth ValueType.truth = Some ValueType.truth
join_types ValueType.truth (ValueType.number u) = None
join_types (ValueType.number t) ValueType.truth = None
join_types (ValueType.number t) (ValueType.number u) = option_map ValueType.number (join t u)

-- The common type of a first type and those of the values `ps`.
abbrev pub join_with : ℕ → Scope → Option ValueType → List (Expression × Expression)
    → Option ValueType
join_with n sc t [] = t
join_with n sc t (p ∷ ps) =
    join_with n sc (given t (λ t. given (type_of_expression n sc p.1) (join_types t))) ps

-- The common type of all values of a `choose`; nothing if a value has no type, if they have no
-- common type, or without values.
abbrev pub type_of_choices : ℕ → Scope → List (Expression × Expression) → Option ValueType
type_of_choices n sc [] = None
type_of_choices n sc (p ∷ ps) = join_with n sc (type_of_expression n sc p.1) ps

-- The type of the integers of a `unif`.
abbrev pub type_of_integers : Bool → ValueType
type_of_integers negative = ValueType.number (if negative then int else uint)

-- Whether a probability that is not a weight literal has the type `UInt` or `UReal`.
abbrev pub is_probability_type : Option ValueType → Bool
is_probability_type (Some (ValueType.number uint)) = true
is_probability_type (Some (ValueType.number ureal)) = true
is_probability_type (Some (ValueType.number int)) = false
is_probability_type (Some (ValueType.number eureal)) = false
is_probability_type (Some ValueType.truth) = false
is_probability_type None = false

-- The type of a `flip`, whose probability is a weight literal or has the type `t`.
abbrev pub flip_type : Bool → Option ValueType → Option ValueType
flip_type literal t = if literal || is_probability_type t then Some ValueType.truth else None

-- The type of a right side other than a call.
abbrev pub right_type : ℕ → Scope → RightSide → Option ValueType
right_type n sc (RightSide.plain e) = type_of_expression n sc e
right_type n sc (RightSide.flip p) =
    flip_type (is_weight_literal (weight p)) (type_of_expression n sc p)
right_type n sc (RightSide.unif a b) = Some (type_of_integers (is_negative (integer a)))
right_type n sc (RightSide.choose parts) = type_of_choices n sc parts
right_type n sc (RightSide.call p arguments) = None

-- Whether a value of the first type may be assigned to a variable of the second type. A value of
-- type `EUReal` may not be assigned.
abbrev pub value_widens_to : ValueType → ValueType → Bool
value_widens_to ValueType.truth ValueType.truth = true
value_widens_to ValueType.truth (ValueType.number u) = false
value_widens_to (ValueType.number t) ValueType.truth = false
value_widens_to (ValueType.number t) (ValueType.number u) = is_finite_type (Some t) && widens t u

-- `mismatches v t`: a value of the type `v` may not be assigned to a variable of the declared type
-- `t`. Nothing may be assigned to a `Real`, and a value without a type to no variable.
abbrev pub mismatches : Option ValueType → TypeName → Bool
mismatches None t = true
mismatches (Some v) t = misses v (type_of_name t)
  where
    misses : ValueType → Option ValueType → Bool
    misses v None = true
    misses v (Some u) = not (value_widens_to v u)

-- `mismatches_target v t`: a value of the type `v` may not be assigned to a target of the declared
-- type `t`; false for a target that is not visible.
abbrev pub mismatches_target : Option ValueType → Option TypeName → Bool
mismatches_target v None = false
mismatches_target v (Some t) = mismatches v t

-- Whether the type of an argument does not match that of its input. Surplus arguments or inputs are
-- ignored.
abbrev pub any_argument_mismatches : ℕ → Scope → List Expression → List TypeName → Bool
any_argument_mismatches n sc [] ts = false
any_argument_mismatches n sc (e ∷ es) [] = false
any_argument_mismatches n sc (e ∷ es) (t ∷ ts) =
    mismatches (type_of_expression n sc e) t || any_argument_mismatches n sc es ts

-- Whether the type of an output does not match that of its target. Surplus outputs or targets are
-- ignored.
abbrev pub any_output_mismatches : List TypeName → List (Option TypeName) → Bool
any_output_mismatches [] ts = false
any_output_mismatches (o ∷ os) [] = false
any_output_mismatches (o ∷ os) (t ∷ ts) =
    mismatches_target (type_of_name o) t || any_output_mismatches os ts

-- ---- Rules, where `targets` are the declared types of the targets

-- Whether a right side calls a procedure that is not in the file.
abbrev pub calls_unknown : Called → RightSide → Bool
calls_unknown called (RightSide.call p arguments) = is_none (find_call called p)
calls_unknown called (RightSide.plain e) = false
calls_unknown called (RightSide.flip p) = false
calls_unknown called (RightSide.unif a b) = false
calls_unknown called (RightSide.choose parts) = false

-- Whether the type of an argument does not match that of its input, or that of an output does not
-- match its target. False for a procedure that is not in the file.
abbrev pub call_mismatches : ℕ → Scope → Option Signature → List Expression → List (Option TypeName)
    → Bool
call_mismatches n sc None arguments targets = false
call_mismatches n sc (Some p) arguments targets =
    any_argument_mismatches n sc arguments p.inputs || any_output_mismatches p.outputs targets

-- `first_mismatches v targets`: a value of the type `v` may not be assigned to the first target;
-- false without a target.
abbrev pub first_mismatches : Option ValueType → List (Option TypeName) → Bool
first_mismatches v [] = false
first_mismatches v (t ∷ ts) = mismatches_target v t

-- Whether types do not agree: in a call those of arguments and inputs or of outputs and targets,
-- otherwise those of the right side and the first target.
abbrev pub right_mismatches : Called → ℕ → Scope → RightSide → List (Option TypeName) → Bool
right_mismatches called n sc (RightSide.call p arguments) targets =
    call_mismatches n sc (find_call called p) arguments targets
right_mismatches called n sc (RightSide.plain e) targets =
    first_mismatches (right_type n sc (RightSide.plain e)) targets
right_mismatches called n sc (RightSide.flip p) targets =
    first_mismatches (right_type n sc (RightSide.flip p)) targets
right_mismatches called n sc (RightSide.unif a b) targets =
    first_mismatches (right_type n sc (RightSide.unif a b)) targets
right_mismatches called n sc (RightSide.choose parts) targets =
    first_mismatches (right_type n sc (RightSide.choose parts)) targets

-- Whether the number of arguments is not that of the inputs, or the number of targets not that of
-- the outputs. False for a procedure that is not in the file.
abbrev pub call_counts_wrong : Option Signature → List Expression → List (Option TypeName) → Bool
call_counts_wrong None arguments targets = false
call_counts_wrong (Some p) arguments targets =
    not ((length arguments == length p.inputs) && (length targets == length p.outputs))

-- Whether a call has a wrong number of arguments or targets, or another right side has not exactly
-- one target.
abbrev pub counts_wrong : Called → RightSide → List (Option TypeName) → Bool
counts_wrong called (RightSide.call p arguments) targets =
    call_counts_wrong (find_call called p) arguments targets
counts_wrong called (RightSide.plain e) targets = not (length targets == 1)
counts_wrong called (RightSide.flip p) targets = not (length targets == 1)
counts_wrong called (RightSide.unif a b) targets = not (length targets == 1)
counts_wrong called (RightSide.choose parts) targets = not (length targets == 1)

-- The weights of a `choose`, in their order.
abbrev pub weights : List (Expression × Expression) → List Weight
weights parts = map (λ p. weight p.0) parts

-- Whether the probability of a `flip` is out of range: a weight literal that is not `within` range,
-- or another expression that `varies`, that is, has a numeric variable outside conditions.
abbrev pub flip_wrong : Bool → Bool → Bool → Bool
flip_wrong literal within varies = if literal then not within else varies

-- Whether a literal of a right side is out of range.
abbrev pub literal_wrong : ℕ → Scope → RightSide → Bool
literal_wrong n sc (RightSide.plain e) = false
literal_wrong n sc (RightSide.flip p) = flip_wrong (is_weight_literal (weight p))
    (is_probability (weight p)) (has_variable (form (elaborate n sc p)))
literal_wrong n sc (RightSide.unif a b) = ends_wrong (integer a) (integer b)
literal_wrong n sc (RightSide.choose parts) = weigh_wrong (weights parts)
literal_wrong n sc (RightSide.call p arguments) = false

-- Whether a weight literal of a right side has the divisor 0.
abbrev pub has_over_zero : RightSide → Bool
has_over_zero (RightSide.plain e) = false
has_over_zero (RightSide.flip p) = is_over_zero (weight p)
has_over_zero (RightSide.unif a b) = false
has_over_zero (RightSide.choose parts) = list_any is_over_zero (weights parts)
has_over_zero (RightSide.call p arguments) = false

-- Whether one of caller and called procedure is a coproc and the other a proc. False for a
-- procedure that is not in the file.
abbrev pub is_of_other_direction : Bool → Option Signature → Bool
is_of_other_direction co None = false
is_of_other_direction co (Some p) = not (agree co p.co)

-- Whether a post clause of the called procedure has a quantifier. False for a procedure that is not
-- in the file.
abbrev pub is_quantified : Option Signature → Bool
is_quantified None = false
is_quantified (Some p) = p.quantified

-- Whether a proc calls a coproc, or a coproc a proc.
abbrev pub calls_against : Bool → Called → RightSide → Bool
calls_against co called (RightSide.call p arguments) = is_of_other_direction co (find_call called p)
calls_against co called (RightSide.plain e) = false
calls_against co called (RightSide.flip p) = false
calls_against co called (RightSide.unif a b) = false
calls_against co called (RightSide.choose parts) = false

-- Whether a procedure is called that has a quantifier in a post clause.
abbrev pub calls_quantified : Called → RightSide → Bool
calls_quantified called (RightSide.call p arguments) = is_quantified (find_call called p)
calls_quantified called (RightSide.plain e) = false
calls_quantified called (RightSide.flip p) = false
calls_quantified called (RightSide.unif a b) = false
calls_quantified called (RightSide.choose parts) = false

-- The rules of a statement that assigns a right side. `unknown` says that a target is not visible,
-- `twice` that a name is given twice, `undeclarable` that a variable may not have its type, and
-- `input` that a target is an input.
abbrev pub right_rules : Bool → Called → ℕ → Scope → Bool → Bool → Bool → Bool
    → List (Option TypeName) → RightSide → List (ℕ × Bool)
right_rules co called n sc unknown twice undeclarable input targets r =
    ((10, unknown || calls_unknown called r)
    ∷ (11, twice)
    ∷ (12, undeclarable || right_mismatches called n sc r targets)
    ∷ (13, input)
    ∷ (14, counts_wrong called r targets)
    ∷ (15, literal_wrong n sc r)
    ∷ (16, has_over_zero r)
    ∷ (21, calls_against co called r)
    ∷ (23, calls_quantified called r)
    ∷ [])
