-- The states of the goals of an omega pair: one of the first procedure, then a number of
-- iterations.
use Rattle.std.proofs.Common.{◌≡◌, ◌∙◌, ◌<◌, ◌+◌, ◌==◌, ℕ, refl, sym, ap, subst, arith, Bool, true, false, ◌&&◌, cond, List, [], ◌∷◌, ◌++◌, length}
use Prim.Native.Nat.{zero, suc}
use Rattle.heyvl_num.specs.Rational.{Rational, ratio, zeroʳ, oneʳ, leqʳ, ◌+ʳ◌}
use Rattle.heyvl_num.proofs.exported.Rationals.{ratio-+, ratio_nonnegative}
use Rattle.heyvl_num.proofs.exported.WholeNumbers.{one_whole, sum_whole, zero_whole}
use borrow.Author.Differences.{ints}
use Rattle.std.specs.Prelude.{pos}
use Rattle.heylo_formula.specs.State.{put, has, environment, IsTyped}
use Rattle.heylo_formula.specs.declared.types.Ty.{Ty}
use Rattle.heylo_formula.specs.declared.values.Val.{Val}
use Rattle.heylo_formula.proofs.exported.States.{append_first, append_second, length-typed, typed_append}
use Rattle.heyvl_acts.specs.Acts.{TypedProcedure, type_list, variables}
use Rattle.run_machine.specs.Bound.{IsState}
use Rattle.lower_rules.specs.Omega.{turns_value, with_turns}
use Rattle.lower_goals.proofs.exported.GoalVariables.{as_many}

both_true : (a b : Bool) → a ≡ true → b ≡ true → (a && b) ≡ true
both_true true b h k = k
both_true false b h k = absurd (cc)

same_number : (x y : ℕ) → x ≡ y → (x == y) ≡ true
same_number x y e = grind arith

pub turns_more : (m : ℕ) → ratio (pos m) 1 +ʳ oneʳ ≡ ratio (pos (suc m)) 1
unfolding oneʳ
turns_more m = ratio-+ (pos m) 1 (pos 1) 1 (omega arith) (omega arith) ∙ ap (λ z. ratio z 1) (omega (arith, ints))

no_turns : (ratio (pos 0) 1).den ≡ 1
unfolding zeroʳ
no_turns = zero_whole

turns_whole : (m : ℕ) → (ratio (pos m) 1).den ≡ 1
turns_whole zero = no_turns
turns_whole (suc m) = subst (λ (x : Rational). x.den ≡ 1) (turns_more m) (sum_whole (ratio (pos m) 1) oneʳ (turns_whole m) one_whole)

pub turns_has : (m : ℕ) → has Ty.UInt (turns_value m) ≡ true
turns_has m = both_true ((ratio (pos m) 1).den == 1) (leqʳ zeroʳ (ratio (pos m) 1)) (same_number (ratio (pos m) 1).den 1 (turns_whole m)) (ratio_nonnegative (pos m) 1 (omega arith) (omega (arith, ints))).holds

module _ (p : TypedProcedure) (s : List Val) (typed : IsState p s) (m : ℕ) where
  -- The state followed by a number of iterations.
  abbrev pub more_state : List Val
  more_state = s ++ turns_value m ∷ []

  pub more_typed : (tys : List Ty) → tys ≡ type_list (variables p) ++ Ty.UInt ∷ [] → IsTyped tys more_state
  more_typed tys are = subst (λ ts. IsTyped ts more_state) (sym are) (typed_append (type_list (variables p)) (Ty.UInt ∷ []) s (turns_value m ∷ []) typed (turns_has m, refl))

  state_length : length s ≡ length (variables p)
  state_length = length-typed (type_list (variables p)) s typed ∙ as_many p

  pub more_first : (y : ℕ) → y < length (variables p) → environment more_state y ≡ environment s y
  more_first y l = append_first s (turns_value m ∷ []) y (subst (λ n. y < n) (sym state_length) l)

  pub more_last : environment more_state (length (variables p)) ≡ turns_value m
  more_last = ap (λ n. environment more_state n) (let e = state_length in let f : length (variables p) ≡ length s + 0 = omega (arith, e) in f) ∙ append_second s (turns_value m ∷ []) 0

  put_first : (k y : ℕ) (v : Val) → y < suc k → (y < k → environment more_state y ≡ environment s y) → put k v (environment more_state) y ≡ put k v (environment s) y
  put_first k y v l h = go (k == y) refl
    where
      go : (b : Bool) → (k == y) ≡ b → cond b v (environment more_state y) ≡ cond b v (environment s y)
      go true e = refl
      go false e = h (below e)
        where
          below : (k == y) ≡ false → y < k
          below f = grind (arith, f, l)

  pub put_more : (v : Val) (y : ℕ) → y < suc (length (variables p)) → put (length (variables p)) v (environment more_state) y ≡ put (length (variables p)) v (environment s) y
  put_more v y l = put_first (length (variables p)) y v l (more_first y)

  pub more_is : (y : ℕ) → y < suc (length (variables p)) → environment more_state y ≡ with_turns (length (variables p)) m (environment s) y
  more_is y l = sym (at (length (variables p)) y more_last) ∙ put_more (turns_value m) y l
    where
      at : (k y : ℕ) → environment more_state k ≡ turns_value m → put k (turns_value m) (environment more_state) y ≡ environment more_state y
      at k y e = go (k == y) refl
        where
          go : (b : Bool) → (k == y) ≡ b → cond b (turns_value m) (environment more_state y) ≡ environment more_state y
          go true f = let i : k ≡ y = grind arith in sym e ∙ ap (λ n. environment more_state n) i
          go false f = refl
