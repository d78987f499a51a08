use Rattle.heyvl_parse.proofs.RankClimbs.{Leads}
use Rattle.heyvl_parse.proofs.expressions.+expressions.Given as goal
use Rattle.heyvl_syntax.specs.Expressions.{expression}
use Rattle.heyvl_syntax.specs.declared.expressions.Expr.{Expr}
use Rattle.heyvl_syntax.specs.declared.tokens.Token.{Token}
use Rattle.std.proofs.Common.{Bor, Box, Global, List, length, suc, ◌*◌, ◌+◌, ◌≤◌}

abbrev pub decreases-boxed : goal.decreases-boxed
decreases-boxed l = 20 * length l.tokens.now + 12

abbrev pub decreases-bound : goal.decreases-bound
decreases-bound l = 20 * length l.tokens.now + 13

abbrev pub decreases-full : goal.decreases-full
decreases-full l = 20 * length l.tokens.now + 11

abbrev pub decreases-climbed : goal.decreases-climbed
decreases-climbed l = 20 * length l.tokens.now + 12

abbrev pub invariant-climbed-operators : goal.invariant-climbed-operators
invariant-climbed-operators l = record {
  shorter : length l.rest ≤ length l.tokens;
  level : l.level ≤ suc l.rank;
  leads : Leads (λ (x : Box Expr Global × Bor (List Token)). expression x.0.value) (λ x. x.1.now) l.rank (expression l.fn.first.value) l.tokens l.level (expression l.left.value) l.rest;
}

abbrev pub decreases-climbed-operators : goal.decreases-climbed-operators
decreases-climbed-operators l = length l.rest

abbrev pub decreases-operand : goal.decreases-operand
decreases-operand l = 20 * length l.tokens.now + 1

abbrev pub decreases-started : goal.decreases-started
decreases-started l = 20 * length l.tokens.now + 14

abbrev pub decreases-enclosed : goal.decreases-enclosed
decreases-enclosed l = 20 * length l.tokens.now + 13

abbrev pub decreases-prefixed : goal.decreases-prefixed
decreases-prefixed l = 20 * length l.tokens.now + 13

abbrev pub decreases-choice : goal.decreases-choice
decreases-choice l = 20 * length l.tokens.now + 13
