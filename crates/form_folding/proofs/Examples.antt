-- Forms that are folded by hand.
use Rattle.std.proofs.Common.{◌≡◌, refl, subst, true}
use Rattle.std.specs.Prelude.{pos}
use Rattle.heyvl_num.specs.Gcd.{gcd, gcd_steps}
use Rattle.heyvl_num.specs.Rational.{Rational, ratio, ◌+ʳ◌}
use Rattle.heyvl_num.specs.Value.Value.{finite, infinite}
use Rattle.heylo_formula.specs.Formula.{Form, Cond}
use Rattle.form_folding.specs.Foldings.{FoldsTo, TestFoldsTo}
use Rattle.linear_rows.specs.Numbers.{fits}

two : Rational
two = ratio (pos 2) 1

three : Rational
three = ratio (pos 3) 1

half : Rational
half = ratio (pos 1) 2

number : Rational → Form
number x = Form.number (finite x)

small : (fits two ≡ true) × (fits three ≡ true)
unfolding two three ratio gcd gcd_steps fits
small = (refl, refl)

two_and_three : two +ʳ three ≡ ratio (pos 5) 1
unfolding two three ratio gcd gcd_steps ◌+ʳ◌
two_and_three = refl

-- `2 + 3` folds to 5.
five : FoldsTo (Form.sum (number two) (number three)) (number (ratio (pos 5) 1))
unfolding number
five = subst (λ x. FoldsTo (Form.sum (number two) (number three)) (number x)) two_and_three (FoldsTo.numbers (number two) (number three) two three (FoldsTo.same (number two)) (FoldsTo.same (number three)) small.0 small.1)

-- `1/2 * [2 + 3 <= x]` folds to `1/2 * [5 <= x]`.
under_threshold : FoldsTo (Form.scale half (Form.iverson (Cond.le (Form.sum (number two) (number three)) (Form.variable 0)))) (Form.scale half (Form.iverson (Cond.le (number (ratio (pos 5) 1)) (Form.variable 0))))
under_threshold = FoldsTo.scale half _ _ (FoldsTo.iverson _ _ (TestFoldsTo.at_most _ _ _ _ five (FoldsTo.same (Form.variable 0))))

-- Infinity + 2 remains.
stays : FoldsTo (Form.sum (Form.number infinite) (number two)) (Form.sum (Form.number infinite) (number two))
stays = FoldsTo.same _
