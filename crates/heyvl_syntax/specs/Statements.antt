-- Statements as plain trees, and the plain tree of a statement of the code.
use Rattle.heyvl_places.specs.declared.checks.CheckKind.{CheckKind}
use Rattle.heyvl_places.specs.declared.spans.Span.{Span}
use Rattle.heyvl_syntax.specs.Expressions.{Expression, expression, expressions}
use Rattle.heyvl_syntax.specs.declared.expressions.Expr.{Expr}
use Rattle.heyvl_syntax.specs.declared.statements.Arm.{Arm}
use Rattle.heyvl_syntax.specs.declared.statements.Right.TheVariants as rights
use Rattle.heyvl_syntax.specs.declared.statements.Right.{Right}
use Rattle.heyvl_syntax.specs.declared.statements.Rule.TheVariants as rules
use Rattle.heyvl_syntax.specs.declared.statements.Rule.{Rule}
use Rattle.heyvl_syntax.specs.declared.statements.Stmt.TheFolds.{fold-Arm, fold-Stmt}
use Rattle.heyvl_syntax.specs.declared.statements.Stmt.TheOpen.{Arm-F as ArmLayer, Stmt-F as Layer}
use Rattle.heyvl_syntax.specs.declared.statements.Stmt.{Stmt}
use Rattle.heyvl_syntax.specs.declared.types.TypeName.{TypeName}
use Rattle.std.specs.Prelude.{Bool, List, None, Option, Some, [], map, ◌∷◌, ℕ}

-- The right side of an assignment or a declaration.
pub data RightSide : Type 0 where
  plain : Expression → RightSide
  flip : Expression → RightSide
  unif : Expression → Expression → RightSide
  choose : List (Expression × Expression) → RightSide
  call : List ℕ → List Expression → RightSide

-- An annotation of a loop.
pub data LoopRule : Type 0 where
  invariant : Expression → Span → LoopRule
  k_induction : Expression → Expression → Span → LoopRule
  ranking : Expression → Expression → Span → LoopRule

-- A statement. The flags of `validate`, `havoc` and `pick` are true for `covalidate`, `cohavoc` and
-- `\cup`.
mutual
  pub data Statement : Type 0 where
    var : List ℕ → TypeName → Option RightSide → Span → Statement
    assign : List (List ℕ) → RightSide → Span → Statement
    check : CheckKind → Expression → Span → Statement
    validate : Bool → Span → Statement
    havoc : Bool → List (List ℕ) → Span → Statement
    reward : Expression → Span → Statement
    branch : Arms → Block → Span → Statement
    pick : Bool → Block → Block → Span → Statement
    loop : List LoopRule → Expression → Block → Span → Statement

  -- A sequence of statements.
  pub data Block : Type 0 where
    done : Block
    next : Statement → Block → Block

  -- The arms of an `if`, each with its guard and its block.
  pub data Arms : Type 0 where
    no_arm : Arms
    arm : Expression → Block → Arms → Arms

-- The plain trees of the alternatives of a `choose`, each with its weight and its value.
abbrev pub choices : List (Expr × Expr) → List (Expression × Expression)
choices = map (λ part. (expression part.0, expression part.1))

-- The plain tree of a right side.
abbrev pub right_side : Right → RightSide
right_side (rights.Plain a) = RightSide.plain (expression a)
right_side (rights.Flip p) = RightSide.flip (expression p)
right_side (rights.Unif a b) = RightSide.unif (expression a) (expression b)
right_side (rights.Choose parts) = RightSide.choose (choices parts.items)
right_side (rights.Call f arguments) = RightSide.call f (expressions arguments.items)

-- The plain tree of a loop annotation.
abbrev pub loop_rule : Rule → LoopRule
loop_rule (rules.Invariant i s) = LoopRule.invariant (expression i) s
loop_rule (rules.KInduction k i s) = LoopRule.k_induction (expression k) (expression i) s
loop_rule (rules.Ranking e r s) = LoopRule.ranking (expression e) (expression r) s

-- The plain trees of loop annotations, in their order.
abbrev pub loop_rules : List Rule → List LoopRule
loop_rules = map loop_rule

-- The plain tree of a right side, if there is one.
abbrev pub optional_right : Option Right → Option RightSide
optional_right None = None
optional_right (Some r) = Some (right_side r)

-- The block of a list of statements.
abbrev pub block_of : List Statement → Block
block_of [] = Block.done
block_of (s ∷ ss) = Block.next s (block_of ss)

-- The arms of a list of guards and blocks.
abbrev pub arms_of : List (Expression × Block) → Arms
arms_of [] = Arms.no_arm
arms_of (x ∷ xs) = Arms.arm x.0 x.1 (arms_of xs)

-- The plain tree of a statement whose substatements are plain trees already.
abbrev pub statement_layer : Layer Statement (Expression × Block) → Statement
statement_layer (Layer.Var x t r s) = Statement.var x t (optional_right r) s
statement_layer (Layer.Assign xs r s) = Statement.assign xs.items (right_side r) s
statement_layer (Layer.Check kind a s) = Statement.check kind (expression a) s
statement_layer (Layer.Validate co s) = Statement.validate co s
statement_layer (Layer.Havoc co xs s) = Statement.havoc co xs.items s
statement_layer (Layer.Reward a s) = Statement.reward (expression a) s
statement_layer (Layer.If arms other s) =
    Statement.branch (arms_of arms.items) (block_of other.items) s
statement_layer (Layer.Pick up a b s) = Statement.pick up (block_of a.items) (block_of b.items) s
statement_layer (Layer.While rs g b s) =
    Statement.loop (loop_rules rs.items) (expression g) (block_of b.items) s

-- The guard and the block of an arm whose statements are plain trees already.
abbrev pub arm_layer : ArmLayer Statement (Expression × Block) → Expression × Block
arm_layer a = (expression a.guard, block_of a.body.items)

-- The plain tree of a statement.
abbrev pub statement : Stmt → Statement
statement = fold-Stmt Statement (Expression × Block) statement_layer arm_layer

-- The plain tree of a list of statements.
abbrev pub block : List Stmt → Block
block ss = block_of (map statement ss)

-- The guard and the block of an arm.
abbrev pub guarded : Arm → Expression × Block
guarded = fold-Arm Statement (Expression × Block) statement_layer arm_layer

-- The plain tree of a list of arms.
abbrev pub arms : List Arm → Arms
arms xs = arms_of (map guarded xs)
