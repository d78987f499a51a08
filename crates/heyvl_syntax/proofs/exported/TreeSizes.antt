-- For the proofs of other crates: the measures of recursion over arms and statements, in the form
-- that the kit uses.
use Rattle.heyvl_syntax.proofs.statements.Arm.TheLaws as arm_laws
use Rattle.heyvl_syntax.proofs.statements.Stmt.TheLaws as statement_laws
use Rattle.heyvl_syntax.specs.declared.statements.Arm.{Arm}
use Rattle.heyvl_syntax.specs.declared.statements.Stmt.{Stmt}
use Rattle.std.specs.Prelude.{ℕ}

-- The size of an arm.
abbrev pub arm_size : Arm → ℕ
arm_size = arm_laws.the_size

-- The size of a statement.
abbrev pub statement_size : Stmt → ℕ
statement_size = statement_laws.the_size
