-- Trees without the places of their nodes. This project's own.
use Rattle.heyvl_places.specs.declared.spans.Span.{Span}
use Rattle.heyvl_syntax.specs.Expressions.{Expression}
use Rattle.heyvl_syntax.specs.Procedures.{Procedure}
use Rattle.heyvl_syntax.specs.Statements.{Arms, Block, LoopRule, RightSide, Statement}
use Rattle.heyvl_syntax.specs.declared.procedures.Param.{Param}
use Rattle.std.specs.Prelude.{List, None, Option, Some, map, ◌≡◌}

-- The place 0 to 0, which replaces all places.
abbrev pub no_place : Span
no_place = record { from = 0; to = 0 }

-- An expression without places: each node has the place `no_place`.
abbrev pub bare_expression : Expression → Expression
bare_expression (Expression.number n s) = Expression.number n no_place
bare_expression (Expression.truth b s) = Expression.truth b no_place
bare_expression (Expression.infinity s) = Expression.infinity no_place
bare_expression (Expression.name x s) = Expression.name x no_place
bare_expression (Expression.group a s) = Expression.group (bare_expression a) no_place
bare_expression (Expression.bracket a s) = Expression.bracket (bare_expression a) no_place
bare_expression (Expression.embed a s) = Expression.embed (bare_expression a) no_place
bare_expression (Expression.unary op a s) = Expression.unary op (bare_expression a) no_place
bare_expression (Expression.binary op a b s) =
    Expression.binary op (bare_expression a) (bare_expression b) no_place
bare_expression (Expression.choice a b c s) =
    Expression.choice (bare_expression a) (bare_expression b) (bare_expression c) no_place
bare_expression (Expression.bound up x t a s) = Expression.bound up x t (bare_expression a) no_place

-- Expressions without places.
abbrev pub bare_expressions : List Expression → List Expression
bare_expressions = map bare_expression

-- A weighted value of a `choose` without places.
abbrev pub bare_part : Expression × Expression → Expression × Expression
bare_part part = (bare_expression part.0, bare_expression part.1)

-- A right side without places.
abbrev pub bare_right : RightSide → RightSide
bare_right (RightSide.plain a) = RightSide.plain (bare_expression a)
bare_right (RightSide.flip p) = RightSide.flip (bare_expression p)
bare_right (RightSide.unif a b) = RightSide.unif (bare_expression a) (bare_expression b)
bare_right (RightSide.choose parts) = RightSide.choose (map bare_part parts)
bare_right (RightSide.call f arguments) = RightSide.call f (bare_expressions arguments)

-- An optional right side without places.
abbrev pub bare_given : Option RightSide → Option RightSide
bare_given None = None
bare_given (Some r) = Some (bare_right r)

-- A rule of a loop without places.
abbrev pub bare_rule : LoopRule → LoopRule
bare_rule (LoopRule.invariant i s) = LoopRule.invariant (bare_expression i) no_place
bare_rule (LoopRule.k_induction k i s) =
    LoopRule.k_induction (bare_expression k) (bare_expression i) no_place
bare_rule (LoopRule.ranking e r s) =
    LoopRule.ranking (bare_expression e) (bare_expression r) no_place

abbrev mutual
  -- A statement without places.
  pub bare_statement : Statement → Statement
  bare_statement (Statement.var x t r s) = Statement.var x t (bare_given r) no_place
  bare_statement (Statement.assign xs r s) = Statement.assign xs (bare_right r) no_place
  bare_statement (Statement.check kind a s) = Statement.check kind (bare_expression a) no_place
  bare_statement (Statement.validate co s) = Statement.validate co no_place
  bare_statement (Statement.havoc co xs s) = Statement.havoc co xs no_place
  bare_statement (Statement.reward a s) = Statement.reward (bare_expression a) no_place
  bare_statement (Statement.branch arms other s) =
      Statement.branch (bare_arms arms) (bare_block other) no_place
  bare_statement (Statement.pick up a b s) =
      Statement.pick up (bare_block a) (bare_block b) no_place
  bare_statement (Statement.loop rules g b s) =
      Statement.loop (map bare_rule rules) (bare_expression g) (bare_block b) no_place

  -- A block without places.
  pub bare_block : Block → Block
  bare_block Block.done = Block.done
  bare_block (Block.next x xs) = Block.next (bare_statement x) (bare_block xs)

  -- The arms of an `if` without places.
  pub bare_arms : Arms → Arms
  bare_arms Arms.no_arm = Arms.no_arm
  bare_arms (Arms.arm g b more) = Arms.arm (bare_expression g) (bare_block b) (bare_arms more)

-- An optional body without places.
abbrev pub bare_body : Option Block → Option Block
bare_body None = None
bare_body (Some b) = Some (bare_block b)

-- A parameter without its place.
abbrev pub bare_param : Param → Param
bare_param p = record { name = p.name; ty = p.ty; span = no_place }

-- A procedure without places.
abbrev pub bare_procedure : Procedure → Procedure
bare_procedure p = record {
  co = p.co;
  note = p.note;
  name = p.name;
  inputs = map bare_param p.inputs;
  outputs = map bare_param p.outputs;
  pres = bare_expressions p.pres;
  posts = bare_expressions p.posts;
  body = bare_body p.body;
  span = no_place;
}

-- A file without places.
abbrev pub without_places : List Procedure → List Procedure
without_places = map bare_procedure

-- `SameButPlaces file other`: the two files differ in places alone.
abbrev pub SameButPlaces : List Procedure → List Procedure → Type 0
SameButPlaces file other = without_places file ≡ without_places other
