use Rattle.heyvl_syntax.specs.Literals.{with_digit}
use Rattle.run_script.proofs.lines.number.Given as goal
use Rattle.std.proofs.Common.{drop, fold, ◌<◌, ◌≡◌}

abbrev pub invariant-loop-digit : goal.invariant-loop-digit
invariant-loop-digit l = record {
  small : l.number < l.limit;
  same : fold with_digit 0 l.digits ≡ fold with_digit l.number (drop l.digit-index l.digits);
}
