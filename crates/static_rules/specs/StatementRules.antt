-- Statements: the rules of each, and the findings in them. This project's own.
use Rattle.heylo_formula.specs.Operators.{agree}
use Rattle.heyvl_places.specs.declared.checks.CheckKind.{CheckKind}
use Rattle.heyvl_syntax.specs.Statements.{Arms, Block, RightSide, Statement}
use Rattle.heyvl_syntax.specs.declared.types.TypeName.{TypeName}
use Rattle.static_rules.specs.LoopRules.{loop_rules, rules_findings}
use Rattle.static_rules.specs.RightSides.{right_findings, right_rules}
use Rattle.static_rules.specs.Variables.{behind, locals, locals_of_arms, locals_of_block}
use Rattle.static_rules.specs.declared.settings.Setting.{Setting}
use Rattle.std.specs.Option.{is_none}
use Rattle.std.specs.Prelude.{Bool, List, None, Option, Some, [], false, length, not, true, ◌&&◌}
use Rattle.std.specs.Prelude.{◌++◌, ◌+◌, ◌||◌, ◌∷◌, ℕ}
use Rattle.typed_expressions.specs.Findings.{Finding, at}
use Rattle.typed_expressions.specs.Names.{any_twice}
use Rattle.typed_expressions.specs.Scopes.{Scope, any_input, any_unknown, is_visible}
use Rattle.typed_expressions.specs.Scopes.{types_of_names}
use Rattle.typed_expressions.specs.Signatures.{Called}
use Rattle.typed_expressions.specs.Table.{declarable}
use Rattle.typed_expressions.specs.TypedExpressions.{closed_findings}
use Rattle.typed_expressions.specs.declared.demands.Demand.{Demand}

-- ---- What occurs in blocks

-- Whether a right side is a call.
abbrev pub is_call : RightSide → Bool
is_call (RightSide.call p arguments) = true
is_call (RightSide.plain e) = false
is_call (RightSide.flip p) = false
is_call (RightSide.unif a b) = false
is_call (RightSide.choose parts) = false

-- Whether a declaration chooses an arbitrary value: it has no right side, or a call.
abbrev pub binds_value : Option RightSide → Bool
binds_value None = true
binds_value (Some r) = is_call r

-- Whether the right side of a declaration is a call.
abbrev pub calls_value : Option RightSide → Bool
calls_value None = false
calls_value (Some r) = is_call r

-- Whether a statement has a havoc, a declaration without a value, a loop or a call in it.
abbrev mutual
  pub binds : Statement → Bool
  binds (Statement.var x t r s) = binds_value r
  binds (Statement.assign xs r s) = is_call r
  binds (Statement.check kind a s) = false
  binds (Statement.validate co s) = false
  binds (Statement.havoc co xs s) = true
  binds (Statement.reward a s) = false
  binds (Statement.branch arms other s) = arms_bind arms || block_binds other
  binds (Statement.pick up a b s) = block_binds a || block_binds b
  binds (Statement.loop rules g b s) = true

  -- Whether a block has a statement that `binds`.
  pub block_binds : Block → Bool
  block_binds Block.done = false
  block_binds (Block.next s b) = binds s || block_binds b

  -- Whether the blocks of arms have a statement that `binds`.
  pub arms_bind : Arms → Bool
  arms_bind Arms.no_arm = false
  arms_bind (Arms.arm g b more) = block_binds b || arms_bind more

-- Whether a statement has no loop, call, check or validation in it, so that a loop with a ranking
-- may have it in its body.
abbrev mutual
  pub is_rankable : Statement → Bool
  is_rankable (Statement.var x t r s) = not (calls_value r)
  is_rankable (Statement.assign xs r s) = not (is_call r)
  is_rankable (Statement.check kind a s) = false
  is_rankable (Statement.validate co s) = false
  is_rankable (Statement.havoc co xs s) = true
  is_rankable (Statement.reward a s) = true
  is_rankable (Statement.branch arms other s) = arms_are_rankable arms && block_is_rankable other
  is_rankable (Statement.pick up a b s) = block_is_rankable a && block_is_rankable b
  is_rankable (Statement.loop rules g b s) = false

  -- Whether all statements of a block are rankable.
  pub block_is_rankable : Block → Bool
  block_is_rankable Block.done = true
  block_is_rankable (Block.next s b) = is_rankable s && block_is_rankable b

  -- Whether all statements of the blocks of arms are rankable.
  pub arms_are_rankable : Arms → Bool
  arms_are_rankable Arms.no_arm = true
  arms_are_rankable (Arms.arm g b more) = block_is_rankable b && arms_are_rankable more

-- ---- The rules of one node

-- Whether a check is against the direction: an `assume` in a coproc, or a `coassume` in a proc.
abbrev pub checks_against : Bool → CheckKind → Bool
checks_against co CheckKind.Assert = false
checks_against co CheckKind.Assume = co
checks_against co CheckKind.CoAssert = false
checks_against co CheckKind.CoAssume = not co

-- Whether a validation is against the direction: a `validate` in a coproc, or a `covalidate` in a
-- proc.
abbrev pub validates_against : Bool → Bool → Bool
validates_against co covalidate = not (agree co covalidate)

-- Whether a havoc is against the direction: a `havoc` in a coproc, or a `cohavoc` in a proc.
abbrev pub havocs_against : Bool → Bool → Bool
havocs_against co cohavoc = not (agree co cohavoc)

-- The rule of a check. `bound` says that one against the direction may not occur at this place.
abbrev pub check_rules : Setting → Bool → CheckKind → List (ℕ × Bool)
check_rules h bound kind = (17, checks_against h.co kind && bound) ∷ []

-- The rule of a validation. `bound` says that one against the direction may not occur at this
-- place.
abbrev pub validate_rules : Setting → Bool → Bool → List (ℕ × Bool)
validate_rules h bound co = (17, validates_against h.co co && bound) ∷ []

-- The rules of a havoc: those on its names, and the one on its direction.
abbrev pub havoc_rules : Setting → Scope → Bool → List (List ℕ) → List (ℕ × Bool)
havoc_rules h sc co xs =
    ((10, any_unknown sc xs)
    ∷ (11, any_twice xs)
    ∷ (13, any_input h.inputs sc xs)
    ∷ (17, havocs_against h.co co)
    ∷ [])

-- The rule of a reward: a proc with `@wlp` may have none.
abbrev pub reward_rules : Setting → List (ℕ × Bool)
reward_rules h = (20, h.weak) ∷ []

-- The rules of an assignment.
abbrev pub assign_rules : Setting → Called → ℕ → Scope → List (List ℕ) → RightSide → List (ℕ × Bool)
assign_rules h called n sc xs r = right_rules h.co called n sc (any_unknown sc xs)
    (any_twice xs) false (any_input h.inputs sc xs) (types_of_names sc xs) r

-- The rules of a declaration: those on its name and its type, and with a right side those of an
-- assignment.
abbrev pub var_rules : Setting → Called → ℕ → Scope → List ℕ → TypeName → Option RightSide
    → List (ℕ × Bool)
var_rules h called n sc x t None = (11, is_visible sc x) ∷ (12, is_none (declarable t)) ∷ []
var_rules h called n sc x t (Some r) = right_rules h.co called n sc false (is_visible sc x)
    (is_none (declarable t)) false (Some t ∷ []) r

-- The findings in the right side of a declaration; none without one.
abbrev pub value_findings : ℕ → Scope → Option RightSide → List Finding
value_findings n sc None = []
value_findings n sc (Some r) = right_findings n sc r

-- ---- All nodes

-- The findings in a statement. `bound` says that a check against the direction may not occur at
-- this place: the place is in a loop, the post has a quantifier, or a statement that `binds`
-- follows in the text of the procedure.
abbrev mutual
  pub statement_findings : Setting → Called → Bool → ℕ → Scope → Statement → List Finding
  statement_findings h called bound n sc (Statement.var x t r s) =
      value_findings n sc r ++ at s (var_rules h called n sc x t r)
  statement_findings h called bound n sc (Statement.assign xs r s) =
      right_findings n sc r ++ at s (assign_rules h called n sc xs r)
  statement_findings h called bound n sc (Statement.check kind a s) =
      closed_findings Demand.Formula n sc a ++ at s (check_rules h bound kind)
  statement_findings h called bound n sc (Statement.validate co s) =
      at s (validate_rules h bound co)
  statement_findings h called bound n sc (Statement.havoc co xs s) = at s (havoc_rules h sc co xs)
  statement_findings h called bound n sc (Statement.reward a s) =
      closed_findings Demand.Formula n sc a ++ at s (reward_rules h)
  statement_findings h called bound n sc (Statement.branch arms other s) = arms_findings h called
      (bound || block_binds other) n sc arms
      ++ block_findings h called bound (n + length (locals_of_arms arms)) sc other
  statement_findings h called bound n sc (Statement.pick up a b s) = block_findings h called
      (bound || block_binds b) n sc a
      ++ block_findings h called bound (n + length (locals_of_block a)) sc b
  statement_findings h called bound n sc (Statement.loop rules g b s) = rules_findings n sc rules
      ++ closed_findings Demand.Truth n sc g ++ block_findings h called true n sc b
      ++ at s (loop_rules n sc rules (block_is_rankable b))

  -- The findings in a block, in the order of the text.
  pub block_findings : Setting → Called → Bool → ℕ → Scope → Block → List Finding
  block_findings h called bound n sc Block.done = []
  block_findings h called bound n sc (Block.next s b) = statement_findings h called
      (bound || block_binds b) n sc s
      ++ block_findings h called bound (n + length (locals s)) (behind n sc s) b

  -- The findings in arms, in the order of the text.
  pub arms_findings : Setting → Called → Bool → ℕ → Scope → Arms → List Finding
  arms_findings h called bound n sc Arms.no_arm = []
  arms_findings h called bound n sc (Arms.arm g b more) = closed_findings Demand.Truth n sc g
      ++ block_findings h called (bound || arms_bind more) n sc b
      ++ arms_findings h called bound (n + length (locals_of_block b)) sc more
