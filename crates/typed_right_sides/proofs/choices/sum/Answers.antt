use Rattle.heyvl_num.specs.Rational.{◌+ʳ◌}
use Rattle.typed_right_sides.proofs.WeightSums.{sum_is}
use Rattle.typed_right_sides.proofs.choices.sum.Goals as goal
use Rattle.static_rules.specs.Literals.{is_too_wide}
use Rattle.std.proofs.Common.{Some, ap, false, refl, sym, true, ◌∙◌, ◌≡◌}
use Rattle.typed_expressions.proofs.exported.LiteralFractions.{some_is}

pub returns-in_err-sum : goal.returns-in_err-sum
returns-in_err-sum c =
    let s = sum_is c.args.left c.args.right c.requires.left c.requires.right in
    let e = c.in_err-sum.ensures in
    absurd (cc (s, e))

pub returns-then-is_too_wide : goal.returns-then-is_too_wide
returns-then-is_too_wide c =
    let s : c.in_ok-sum.sum ≡ c.args.left +ʳ c.args.right = some_is _ _ (c.in_ok-sum.ensures ∙ sum_is c.args.left c.args.right c.requires.left c.requires.right) in
    let h : is_too_wide (c.args.left +ʳ c.args.right) ≡ true = ap is_too_wide (sym s) ∙ sym c.is_too_wide.ensures ∙ c.if-is_too_wide.true in
    rw h refl

pub returns-else-is_too_wide : goal.returns-else-is_too_wide
returns-else-is_too_wide c =
    let s : c.in_ok-sum.sum ≡ c.args.left +ʳ c.args.right = some_is _ _ (c.in_ok-sum.ensures ∙ sum_is c.args.left c.args.right c.requires.left c.requires.right) in
    let h : is_too_wide (c.args.left +ʳ c.args.right) ≡ false = ap is_too_wide (sym s) ∙ sym c.is_too_wide.ensures ∙ c.if-is_too_wide.false in
    rw h (ap Some s)
