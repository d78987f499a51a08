-- Worked first states: the values that are set, those that are shown, and false or 0.
use Rattle.heylo_formula.specs.Formula.{Form}
use Rattle.heylo_formula.specs.declared.types.Ty.{Ty}
use Rattle.heylo_formula.specs.declared.values.Val.TheVariants.{Num, Truth}
use Rattle.heylo_formula.specs.declared.values.Val.{Val}
use Rattle.heyvl_acts.specs.Acts.{TypedProcedure}
use Rattle.heyvl_num.specs.Gcd.{gcd, gcd_steps}
use Rattle.heyvl_num.specs.Rational.{leqʳ, ratio, zeroʳ}
use Rattle.heyvl_num.specs.Value.{zeroᵛ}
use Rattle.run_script.specs.Starts.{start_state, start_state_over}
use Rattle.run_script.specs.declared.scripts.Setting.{Setting}
use Rattle.std.proofs.Common.{List, None, [], codes, false, neg_ℤ, pos, refl, true, ◌∷◌, ◌≡◌, ℕ}

-- `coproc a(n: UInt) -> (x: UInt)`, with a local variable t of Bool.
abbrev worked : TypedProcedure
worked = record {
  name = codes "a";
  co = true;
  weak = false;
  inputs = record { name = codes "n"; ty = Ty.UInt } ∷ [];
  outputs = record { name = codes "x"; ty = Ty.UInt } ∷ [];
  locals = record { name = codes "t"; ty = Ty.Bool } ∷ [];
  pre = Form.number zeroᵛ;
  post = Form.number zeroᵛ;
  body = None;
  loops = 0;
  span = record { from = 0; to = 0 };
}

abbrev number : ℕ → Val
number n = Num (ratio (pos n) 1)

abbrev setting : List ℕ → Val → Setting
setting name value = record { name = name; value = value }

abbrev zeros : List Val
zeros = Num zeroʳ ∷ Num zeroʳ ∷ Truth false ∷ []

-- A value that is set precedes one that is shown. The other variables, also local ones, have the
-- values that are shown.
set_before_shown : start_state_over worked (setting (codes "x") (number 3) ∷ []) (number 2 ∷ number 5 ∷ Truth true ∷ []) ≡ number 2 ∷ number 3 ∷ Truth true ∷ []
unfolding ratio gcd gcd_steps leqʳ zeroʳ
set_before_shown = refl

few_shown : start_state_over worked [] (number 2 ∷ []) ≡ number 2 ∷ Num zeroʳ ∷ Truth false ∷ []
unfolding ratio gcd gcd_steps leqʳ zeroʳ
few_shown = refl

none_shown : (start_state_over worked [] [] ≡ zeros) × (start_state worked [] ≡ zeros)
none_shown = (refl, refl)

-- A value of another type is not taken.
another_type : start_state_over worked [] (Truth true ∷ Num (ratio (neg_ℤ (pos 1)) 1) ∷ []) ≡ zeros
unfolding ratio gcd gcd_steps leqʳ zeroʳ
another_type = refl
