-- The variables of a procedure: its parameters, those of its body in the order of the text, and
-- those of the leading quantifiers of its post clauses. The number of a variable is its index among
-- them. This project's own.
use Rattle.heyvl_acts.specs.Acts.{Variable}
use Rattle.heyvl_syntax.specs.Statements.{Arms, Block, Statement}
use Rattle.heyvl_syntax.specs.declared.procedures.Param.{Param}
use Rattle.std.specs.Prelude.{List, None, Option, Some, [], map, suc, ◌++◌, ◌∷◌, ℕ}
use Rattle.typed_expressions.specs.DeclaredVariables.{declared}
use Rattle.typed_expressions.specs.Scopes.{Scope, with_local}

-- The variables of parameters, in their order.
abbrev pub parameters : List Param → List Variable
parameters ps = map (λ p. declared p.name p.ty) ps

abbrev mutual
  -- The variables that a statement declares, also in its blocks, in the order of the text.
  pub locals : Statement → List Variable
  locals (Statement.var x t r s) = declared x t ∷ []
  locals (Statement.assign xs r s) = []
  locals (Statement.check kind a s) = []
  locals (Statement.validate co s) = []
  locals (Statement.havoc co xs s) = []
  locals (Statement.reward a s) = []
  locals (Statement.branch arms other s) = locals_of_arms arms ++ locals_of_block other
  locals (Statement.pick up a b s) = locals_of_block a ++ locals_of_block b
  locals (Statement.loop rules g b s) = locals_of_block b

  -- The variables that a block declares.
  pub locals_of_block : Block → List Variable
  locals_of_block Block.done = []
  locals_of_block (Block.next s b) = locals s ++ locals_of_block b

  -- The variables that the blocks of arms declare.
  pub locals_of_arms : Arms → List Variable
  locals_of_arms Arms.no_arm = []
  locals_of_arms (Arms.arm g b more) = locals_of_block b ++ locals_of_arms more

-- The variables that a body declares; none without a body.
abbrev pub locals_of_body : Option Block → List Variable
locals_of_body None = []
locals_of_body (Some b) = locals_of_block b

-- The scope after a statement: `sc`, and the variable that the statement declares, which has the
-- number `n`.
abbrev pub behind : ℕ → Scope → Statement → Scope
behind n sc (Statement.var x t r s) = with_local x (record { number = n; ty = t }) sc
behind n sc (Statement.assign xs r s) = sc
behind n sc (Statement.check kind a s) = sc
behind n sc (Statement.validate co s) = sc
behind n sc (Statement.havoc co xs s) = sc
behind n sc (Statement.reward a s) = sc
behind n sc (Statement.branch arms other s) = sc
behind n sc (Statement.pick up a b s) = sc
behind n sc (Statement.loop rules g b s) = sc

-- The scope after parameters, of which the first has the number `n`.
abbrev pub behind_parameters : ℕ → Scope → List Param → Scope
behind_parameters n sc [] = sc
behind_parameters n sc (p ∷ ps) =
    behind_parameters (suc n) (with_local p.name (record { number = n; ty = p.ty }) sc) ps
