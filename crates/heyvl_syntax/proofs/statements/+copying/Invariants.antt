use Rattle.heyvl_syntax.proofs.statements.+copying.Given as goal
use Rattle.heyvl_syntax.specs.Statements.{guarded, statement}
use Rattle.std.proofs.Common.{map, take, ◌≡◌}

-- The copied elements are equal to the visited ones.
abbrev pub invariant-Arm::copy_all-loop-one : goal.invariant-Arm::copy_all-loop-one
invariant-Arm::copy_all-loop-one l = map guarded l.copied.items ≡ map guarded (take l.one-index l.all)

abbrev pub invariant-Stmt::copy_all-loop-one : goal.invariant-Stmt::copy_all-loop-one
invariant-Stmt::copy_all-loop-one l = map statement l.copied.items ≡ map statement (take l.one-index l.all)
