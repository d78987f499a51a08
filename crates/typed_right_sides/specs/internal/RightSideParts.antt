-- The results of reading the parts of right sides.
use Rattle.heylo_formula.specs.Formula.{Term}
use Rattle.heylo_formula.specs.PlainTrees.{term_of}
use Rattle.heyvl_num.specs.Rational.{Rational}
use Rattle.heyvl_syntax.specs.Expressions.{Expression}
use Rattle.typed_right_sides.specs.Views.{value_type}
use Rattle.heyvl_acts.specs.PlainActs.{parts_of, terms_of}
use Rattle.static_rules.specs.RightSides.{ValueType, join_types, type_of_expression}
use Rattle.typed_expressions.specs.Scopes.{Scope}
use Rattle.typed_expressions.specs.Table.{given}
use Rattle.typed_right_sides.specs.declared.choices.Choices.{Choices}
use Rattle.typed_right_sides.specs.declared.typed_values.Value.{Value}
use Rattle.typed_right_sides.specs.declared.typed_values.Values.{Values}
use Rattle.std.specs.Prelude.{List, None, Option, [], map, option_map, ◌∷◌, ℕ}

-- The types of values; nothing for a value that no variable may be assigned.
abbrev pub Types : Type 0
Types = List (Option ValueType)

-- The plain term and type of a value, the terms and types of values, and the weighted terms and the
-- types of the values of a `choose`.
abbrev pub value_of : Value → Term × Option ValueType
value_of v = (term_of v.term, option_map value_type v.ty)

abbrev pub values_of : Values → List Term × Types
values_of v = (terms_of v.terms.items, map (option_map value_type) v.types.items)

abbrev pub choices_of : Choices → List (Rational × Term) × Types
choices_of c = (parts_of c.parts.items, map (option_map value_type) c.types.items)

-- The types of expressions, and of the values of a `choose`.
abbrev pub types_of : ℕ → Scope → List Expression → Types
types_of n sc es = map (type_of_expression n sc) es

abbrev pub types_of_choices : ℕ → Scope → List (Expression × Expression) → Types
types_of_choices n sc ps = map (λ p. type_of_expression n sc p.1) ps

-- The common type of a first type and others.
abbrev pub join_more : Option ValueType → Types → Option ValueType
join_more t [] = t
join_more t (u ∷ us) = join_more (given t (λ t. given u (join_types t))) us

abbrev pub join_all : Types → Option ValueType
join_all [] = None
join_all (t ∷ ts) = join_more t ts
