-- The rules of a statement whose right side has been read.
use Rattle.heyvl_syntax.specs.declared.types.TypeName.{TypeName}
use Rattle.static_rules.specs.RightSides.{ValueType, any_output_mismatches, first_mismatches}
use Rattle.static_rules.specs.RightSides.{is_of_other_direction, is_quantified, mismatches}
use Rattle.typed_right_sides.specs.declared.right_sides.Targets.{Targets}
use Rattle.typed_right_sides.specs.internal.RightSideParts.{Types}
use Rattle.std.specs.Option.{is_none}
use Rattle.std.specs.Prelude.{Bool, List, None, Option, Some, [], false, length, not, ◌&&◌, ◌==◌}
use Rattle.std.specs.Prelude.{◌||◌, ◌∷◌, ℕ}
use Rattle.typed_expressions.specs.Signatures.{Signature}

-- Whether the type of an argument does not match that of its input.
abbrev pub any_mismatches : Types → List TypeName → Bool
any_mismatches [] ts = false
any_mismatches (v ∷ vs) [] = false
any_mismatches (v ∷ vs) (t ∷ ts) = mismatches v t || any_mismatches vs ts

-- The rules of a right side other than a call, which has the type `v`. `literal` says that a
-- literal is out of range, and `zero` that a divisor is 0.
abbrev pub value_rules : Targets → Option ValueType → Bool → Bool → List (ℕ × Bool)
value_rules t v literal zero =
    ((10, t.unknown)
    ∷ (11, t.twice)
    ∷ (12, t.undeclarable || first_mismatches v t.types.items)
    ∷ (13, t.input)
    ∷ (14, not (length t.types.items == 1))
    ∷ (15, literal)
    ∷ (16, zero)
    ∷ [])

-- Whether the type of an argument does not match that of its input, or that of an output does not
-- match its target. False without a called procedure.
abbrev pub arguments_mismatch : Option Signature → Types → List (Option TypeName) → Bool
arguments_mismatch None arguments targets = false
arguments_mismatch (Some p) arguments targets =
    any_mismatches arguments p.inputs || any_output_mismatches p.outputs targets

-- Whether the number of arguments is not that of the inputs, or the number of targets not that of
-- the outputs. False without a called procedure.
abbrev pub counts_differ : Option Signature → Types → List (Option TypeName) → Bool
counts_differ None arguments targets = false
counts_differ (Some p) arguments targets =
    not ((length arguments == length p.inputs) && (length targets == length p.outputs))

-- The rules of a call of the procedure `p` with arguments of these types.
abbrev pub call_rules : Bool → Targets → Option Signature → Types → List (ℕ × Bool)
call_rules co t p arguments =
    ((10, t.unknown || is_none p)
    ∷ (11, t.twice)
    ∷ (12, t.undeclarable || arguments_mismatch p arguments t.types.items)
    ∷ (13, t.input)
    ∷ (14, counts_differ p arguments t.types.items)
    ∷ (21, is_of_other_direction co p)
    ∷ (23, is_quantified p)
    ∷ [])
