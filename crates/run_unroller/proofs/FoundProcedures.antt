-- Procedures by number, and counts of iterations.
use Rattle.std.proofs.Common.{◌≡◌, ℕ, ◌<◌, ◌≤◌, ◌^◌, refl, ap, sym, arith, List, [], ◌∷◌, length, map, get_or, true, ◌&&◌}
use Rattle.std.specs.Prelude.{Some, None, pos, nat_lt, if◌then◌else◌}
use Prim.Native.Nat.{zero, suc}
use Rattle.heyvl_num.specs.Rational.{Rational, ratio, zeroʳ}
use Rattle.heyvl_num.specs.Value.{zeroᵛ}
use Rattle.heyvl_num.specs.Value.Value.{finite}
use Rattle.heyvl_num.specs.Exact.{exact_quotient, quotient_fits, quotient}
use Rattle.heyvl_acts.specs.declared.typed_trees.TProc.{TProc}
use Rattle.heyvl_acts.specs.Acts.{nobody, procedure_at}
use Rattle.heyvl_acts.specs.PlainActs.{procedure_of}

pub found_at : (xs : List TProc) (p : ℕ) (x : TProc) → p < length xs → x ≡ get_or xs p x → procedure_at (map procedure_of xs) p ≡ procedure_of x
found_at [] p x lt is = absurd (omega (arith, lt))
found_at (y ∷ xs) zero x lt is = ap procedure_of (sym is)
found_at (y ∷ xs) (suc p) x lt is = found_at xs p x (omega (arith, lt)) is

pub past_all : (xs : List TProc) (p : ℕ) → length xs ≤ p → procedure_at (map procedure_of xs) p ≡ nobody
past_all [] p over = refl
past_all (y ∷ xs) zero over = absurd (omega (arith, over))
past_all (y ∷ xs) (suc p) over = past_all xs p (omega (arith, over))

pub whole_quotient : (n : ℕ) → nat_lt n (2 ^ 127) ≡ true → exact_quotient (pos n) (pos 1) ≡ Some (ratio (pos n) 1)
unfolding exact_quotient quotient_fits quotient
whole_quotient n l = ap (λ b. if (true && b && nat_lt 1 (2 ^ 127)) then Some (ratio (pos n) 1) else None) l

pub same_some : {A : Type 0} (x y : A) → Some x ≡ Some y → x ≡ y
same_some x y e = cc

pub zero_value : (x : Rational) → x ≡ zeroʳ → zeroᵛ ≡ finite x
unfolding zeroᵛ
zero_value x e = ap finite (sym e)
