use Rattle.heyvl_num.specs.Rational.{zeroʳ}
use Rattle.heyvl_syntax.specs.Statements.{choices}
use Rattle.typed_right_sides.proofs.choices.sums_wrong.Given as goal
use Rattle.static_rules.specs.Literals.{is_too_wide, sums_wrong}
use Rattle.static_rules.specs.RightSides.{weights}
use Rattle.std.proofs.Common.{drop, false, ◌≡◌}

-- The sum so far is not too wide, and the remaining weights decide.
abbrev pub invariant-loop-likely : goal.invariant-loop-likely
invariant-loop-likely l = record {
  same : sums_wrong l.total (weights (choices (drop l.likely-index l.all))) ≡ sums_wrong zeroʳ (weights (choices l.all));
  narrow : is_too_wide l.total ≡ false;
}
