-- Files in which each `if` has an arm, as it has in each file that tokens spell. This project's
-- own.
use Rattle.heyvl_acts.specs.Rules.{Each}
use Rattle.heyvl_syntax.specs.Procedures.{Procedure}
use Rattle.heyvl_syntax.specs.Statements.{Arms, Block, Statement}
use Rattle.std.specs.Prelude.{List, None, Option, Some}

-- There is at least one arm.
abbrev pub HasArm : Arms → Type 0
HasArm Arms.no_arm = ⊥
HasArm (Arms.arm g b more) = Unit {0}

-- Each `if` of a statement has an arm.
abbrev mutual
  pub IsArmed : Statement → Type 0
  IsArmed (Statement.branch arms other s) = HasArm arms × (AreArmsArmed arms × IsBlockArmed other)
  IsArmed (Statement.pick up a b s) = IsBlockArmed a × IsBlockArmed b
  IsArmed (Statement.loop rules g b s) = IsBlockArmed b
  IsArmed (Statement.var x t r s) = Unit {0}
  IsArmed (Statement.assign xs r s) = Unit {0}
  IsArmed (Statement.check kind a s) = Unit {0}
  IsArmed (Statement.validate co s) = Unit {0}
  IsArmed (Statement.havoc co xs s) = Unit {0}
  IsArmed (Statement.reward a s) = Unit {0}

  -- Each `if` of a block has an arm.
  pub IsBlockArmed : Block → Type 0
  IsBlockArmed Block.done = Unit {0}
  IsBlockArmed (Block.next s b) = IsArmed s × IsBlockArmed b

  -- Each `if` of the blocks of arms has an arm.
  pub AreArmsArmed : Arms → Type 0
  AreArmsArmed Arms.no_arm = Unit {0}
  AreArmsArmed (Arms.arm g b more) = IsBlockArmed b × AreArmsArmed more

-- Each `if` of a body has an arm.
abbrev pub IsBodyArmed : Option Block → Type 0
IsBodyArmed None = Unit {0}
IsBodyArmed (Some b) = IsBlockArmed b

-- Each `if` of a file has an arm.
abbrev pub HasArms : List Procedure → Type 0
HasArms ps = Each (λ p. IsBodyArmed p.body) ps
