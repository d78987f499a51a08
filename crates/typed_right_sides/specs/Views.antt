-- The plain values of the program's types.
use Rattle.heylo_formula.specs.declared.forms.Cond as C
use Rattle.heyvl_acts.specs.Acts.{Acts, Arms}
use Rattle.heyvl_acts.specs.PlainActs.{acts_of, arms_of}
use Rattle.heyvl_acts.specs.declared.acts.Act as A
use Rattle.static_rules.specs.RightSides.{ValueType}
use Rattle.typed_right_sides.specs.declared.value_types.ValueType as V
use Rattle.std.specs.Prelude.{Vec}
use Rattle.std.specs.declared.alloc.Global.{Global}
use Rattle.typed_expressions.specs.Views.{kind_of}

-- The plain value of a type.
abbrev pub value_type : V.ValueType → ValueType
value_type V.TheVariants.Truth = ValueType.truth
value_type (V.TheVariants.Number t) = ValueType.number (kind_of t)

-- The plain acts of acts in memory.
abbrev pub acts_view : Vec A.Act Global → Acts
acts_view acts = acts_of acts.items

-- The plain arms of arms in memory.
abbrev pub arms_view : Vec (C.Cond × Vec A.Act Global) Global → Arms
arms_view arms = arms_of arms.items
