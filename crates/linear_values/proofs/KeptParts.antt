-- The parts of linear values.
use Rattle.std.proofs.Common.{◌≡◌, refl, Bool, true, false, ◌&&◌}
use Rattle.linear_values.specs.Lin.{Lin, all_fit, is_sized}
use Rattle.linear_rows.specs.Numbers.{fits}
use Rattle.linear_values.specs.Kept.{IsKept}

and_left : (a b : Bool) → (a && b) ≡ true → a ≡ true
and_left true b e = refl
and_left false b e = absurd (cc)

and_right : (a b : Bool) → (a && b) ≡ true → b ≡ true
and_right true b e = e
and_right false b e = absurd (cc)

pub rest_fits : (a : Lin) → IsKept a → fits a.rest ≡ true
unfolding is_sized
rest_fits a h = and_left _ _ h.sized

pub terms_fit : (a : Lin) → IsKept a → all_fit a.terms ≡ true
unfolding is_sized
terms_fit a h = and_right (fits a.rest) _ h.sized
