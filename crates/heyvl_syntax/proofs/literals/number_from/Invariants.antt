use Rattle.heyvl_syntax.proofs.literals.number_from.Given as goal
use Rattle.heyvl_syntax.specs.Literals.{with_digit}
use Rattle.std.proofs.Common.{drop, fold, ◌<◌, ◌^◌, ◌≡◌}

abbrev pub invariant-loop-digit : goal.invariant-loop-digit
invariant-loop-digit l = record {
  small : l.number < 2 ^ 127;
  same : fold with_digit l.start l.digits ≡ fold with_digit l.number (drop l.digit-index l.digits);
}
