-- Loops over the values chosen, over a row's terms, and over the rows of a step.
use Rattle.std.proofs.Common.{◌≡◌, ℕ, ◌+◌, ◌<◌, ◌≤◌, List, [], ◌∷◌, ◌++◌, length, take, drop, get_or, refl, sym, ap, ap₂, ◌∙◌, ◌↔◌, subst, arith, Bool, true, false, cond, eqb, ◌&&◌, not}
use Prim.Native.Nat.{zero, suc}
use Rattle.std.specs.Prelude.{ℤ, Option, Some, None, is_some}
use Rattle.std.specs.declared.cmp.Ordering.{Ordering}
use Rattle.std.specs.declared.cmp.Ordering.TheVariants.{Less, Equal, Greater}
use Rattle.std.proofs.Math.Seq.{drop-cons}
use Rattle.std.proofs.lemmas.List.{take_more}
use Rattle.std.proofs.lemmas.List.Elements.{All-nil, All-cons, All-head, All-append}
use Rattle.heyvl_num.specs.Rational.{Rational, zeroʳ, compareʳ, ◌<ʳ◌}
use Rattle.heyvl_num.specs.Rounding.{whole}
use Rattle.heyvl_num.specs.Exact.{exact_sum, exact_product, exact_quotient}
use Rattle.linear_rows.specs.Numbers.{fits}
use Rattle.linear_rows.specs.Row.{Row}
use Rattle.linear_rows.specs.Terms.{coefficient}
use Rattle.linear_rows.specs.GreedyPoint.{End, chosen_value}
use Rattle.linear_elim.specs.Joins.{Derived}
use Rattle.linear_elim.specs.ChoiceNumbers.{added, sum_without, divided_by, end_of}
use Rattle.interval_choice.specs.Sides.{IsWithin}
use Rattle.linear_elim.specs.internal.ChoiceSteps.{bounded, narrow_end, IsTightest}
use Rattle.interval_choice.specs.declared.sides.Side.{Side}
use Rattle.interval_choice.specs.declared.sides.Side.TheVariants.{Low, High}
use Rattle.linear_elim.proofs.JoinSequences.{rest_item}
use Rattle.linear_elim.proofs.Solutions.{all_append-left, all_append-right}
use Rattle.interval_choice.proofs.exported.BoundedFractions.{ranks_less, ranks_equal, ranks_greater, stronger_low, stronger_high, low_same, high_same}

same_var : (n : ℕ) → eqb n n ≡ true
same_var n = grind arith

other_var : (m n : ℕ) → (m ≡ n → ⊥) → eqb m n ≡ false
other_var m n h = grind arith

eqb_from : (m n : ℕ) → m ≡ n → eqb m n ≡ true
eqb_from m n e = ap (λ k. eqb k n) e ∙ same_var n

-- ---- The values chosen

pub this_value : (x : ℕ) (cs : List (ℕ × Rational)) (i : ℕ) (c : ℕ × Rational) (r : Rational) → i < length cs → c ≡ get_or cs i c → c.0 ≡ x → chosen_value x (drop i cs) ≡ r → c.1 ≡ r
this_value x cs i c r l e h k = sym (ap (λ b. cond b c.1 (chosen_value x (drop (i + 1) cs))) (eqb_from c.0 x h)) ∙ ap (chosen_value x) (sym (rest_item cs i c l e)) ∙ k

pub next_value : (x : ℕ) (cs : List (ℕ × Rational)) (i : ℕ) (c : ℕ × Rational) (r : Rational) → i < length cs → c ≡ get_or cs i c → (c.0 ≡ x → ⊥) → chosen_value x (drop i cs) ≡ r → chosen_value x (drop (i + 1) cs) ≡ r
next_value x cs i c r l e h k = sym (ap (λ b. cond b c.1 (chosen_value x (drop (i + 1) cs))) (other_var c.0 x h)) ∙ ap (chosen_value x) (sym (rest_item cs i c l e)) ∙ k

none_left : {A : Type 0} (xs : List A) (i : ℕ) → length xs ≤ i → drop i xs ≡ []
none_left [] i l = go i
  where
    go : {A : Type 0} (i : ℕ) → drop {A = A} i [] ≡ []
    go zero = refl
    go (suc i) = refl
none_left (x ∷ xs) zero l = absurd (omega (arith, l))
none_left (x ∷ xs) (suc i) l = none_left xs i (omega (arith, l))

pub no_value : (x : ℕ) (cs : List (ℕ × Rational)) (i : ℕ) (z r : Rational) → length cs ≤ i → z ≡ zeroʳ → chosen_value x (drop i cs) ≡ r → z ≡ r
no_value x cs i z r l e k = e ∙ ap (chosen_value x) (sym (none_left cs i l)) ∙ k

-- ---- The terms of a row

pub sum_none_is : (x : ℕ) (cs : List (ℕ × Rational)) (ts : List (ℕ × ℤ)) → sum_without x cs ts None ≡ None
unfolding sum_without
sum_none_is x cs [] = refl
sum_none_is x cs (t ∷ ts) = ap (sum_without x cs ts) (same (eqb t.0 x) (exact_product (whole t.1) (chosen_value t.0 cs))) ∙ sum_none_is x cs ts
  where
    same : (b : Bool) (p : Option Rational) → cond b None (added None p) ≡ None
    same true p = refl
    same false p = refl

pub term_at : (ts : List (ℕ × ℤ)) (i : ℕ) (d : ℕ × ℤ) → i < length ts → drop i ts ≡ get_or ts i d ∷ drop (i + 1) ts
term_at ts i d l = drop-cons ts i d l ∙ ap (λ n. get_or ts i d ∷ drop n ts) (next i)
  where
    next : (i : ℕ) → suc i ≡ i + 1
    next i = omega arith

pub term_skipped : (x : ℕ) (cs : List (ℕ × Rational)) (ts : List (ℕ × ℤ)) (i : ℕ) (t : ℕ × ℤ) (s : Rational) (r : Option Rational) → drop i ts ≡ t ∷ drop (i + 1) ts → t.0 ≡ x → sum_without x cs (drop i ts) (Some s) ≡ r → sum_without x cs (drop (i + 1) ts) (Some s) ≡ r
unfolding sum_without
term_skipped x cs ts i t s r e h k = ap (sum_without x cs (drop (i + 1) ts)) (sym (ap (λ b. cond b (Some s) (added (Some s) (exact_product (whole t.1) (chosen_value t.0 cs)))) (eqb_from t.0 x h))) ∙ ap (λ us. sum_without x cs us (Some s)) (sym e) ∙ k

pub term_added : (x : ℕ) (cs : List (ℕ × Rational)) (ts : List (ℕ × ℤ)) (i : ℕ) (t : ℕ × ℤ) (s : Rational) (r q : Option Rational) → drop i ts ≡ t ∷ drop (i + 1) ts → (t.0 ≡ x → ⊥) → q ≡ added (Some s) (exact_product (whole t.1) (chosen_value t.0 cs)) → sum_without x cs (drop i ts) (Some s) ≡ r → sum_without x cs (drop (i + 1) ts) q ≡ r
unfolding sum_without
term_added x cs ts i t s r q e h m k = ap (sum_without x cs (drop (i + 1) ts)) (m ∙ sym (ap (λ b. cond b (Some s) (added (Some s) (exact_product (whole t.1) (chosen_value t.0 cs)))) (other_var t.0 x h))) ∙ ap (λ us. sum_without x cs us (Some s)) (sym e) ∙ k

pub product_none : (s a b : Rational) → exact_product a b ≡ None → None ≡ added (Some s) (exact_product a b)
product_none s a b e = sym (ap (added (Some s)) e)

pub product_some : (s a b p : Rational) (q : Option Rational) → exact_product a b ≡ Some p → q ≡ exact_sum s p → q ≡ added (Some s) (exact_product a b)
product_some s a b p q e h = h ∙ sym (ap (added (Some s)) e)

pub sum_end : (x : ℕ) (cs : List (ℕ × Rational)) (ts : List (ℕ × ℤ)) (i : ℕ) (s : Rational) (r : Option Rational) → length ts ≤ i → sum_without x cs (drop i ts) (Some s) ≡ r → Some s ≡ r
unfolding sum_without
sum_end x cs ts i s r l k = ap (λ us. sum_without x cs us (Some s)) (sym (none_left ts i l)) ∙ k

-- ---- The end of a row

pub end_sum_none : (x : ℕ) (cs : List (ℕ × Rational)) (r : Row) → sum_without x cs r.terms (Some (whole r.rest)) ≡ None → None ≡ end_of x cs r
unfolding end_of
end_sum_none x cs r e = sym (ap (λ o. divided_by o (exact_quotient (ℤ.negsuc 0) (coefficient x r.terms))) e)

pub end_factor_none : (x : ℕ) (cs : List (ℕ × Rational)) (r : Row) (s : Rational) → sum_without x cs r.terms (Some (whole r.rest)) ≡ Some s → exact_quotient (ℤ.negsuc 0) (coefficient x r.terms) ≡ None → None ≡ end_of x cs r
unfolding end_of
end_factor_none x cs r s e h = sym (ap₂ divided_by e h)

pub end_product : (x : ℕ) (cs : List (ℕ × Rational)) (r : Row) (s k : Rational) → sum_without x cs r.terms (Some (whole r.rest)) ≡ Some s → exact_quotient (ℤ.negsuc 0) (coefficient x r.terms) ≡ Some k → exact_product s k ≡ end_of x cs r
unfolding end_of
end_product x cs r s k e h = sym (ap₂ divided_by e h)

-- ---- The tighter of two ends

abbrev pub Tighter : Side → End → End → End → Type 0
Tighter side a b e = (v : Rational) → IsWithin side e v ↔ (IsWithin side a v × IsWithin side b v)

pub less_low : (side : Side) (a b : End) → side ≡ Low → a.place <ʳ b.place → Tighter side a b b
less_low Low a b s l v = (λ h. (stronger_low a b v l h, h), λ k. k.1)
less_low High a b s l v = absurd (cc)

pub less_high : (side : Side) (a b : End) → side ≡ High → a.place <ʳ b.place → Tighter side a b a
less_high Low a b s l v = absurd (cc)
less_high High a b s l v = (λ h. (h, stronger_high b a v l h), λ k. k.0)

pub greater_low : (side : Side) (a b : End) → side ≡ Low → b.place <ʳ a.place → Tighter side a b a
greater_low Low a b s l v = (λ h. (h, stronger_low b a v l h), λ k. k.0)
greater_low High a b s l v = absurd (cc)

pub greater_high : (side : Side) (a b : End) → side ≡ High → b.place <ʳ a.place → Tighter side a b b
greater_high Low a b s l v = absurd (cc)
greater_high High a b s l v = (λ h. (stronger_high a b v l h, h), λ k. k.1)

pub equal_ends : (side : Side) (a b : End) → a.place ≡ b.place → Tighter side a b (record { place = a.place; inside = a.inside && b.inside })
equal_ends Low a b e v = low_same a.inside b.inside a.place b.place v e
equal_ends High a b e v = high_same a.inside b.inside a.place b.place v e

pub equal_made : (side : Side) (a b : End) (p : Rational) (i : Bool) → p ≡ a.place → i ≡ (a.inside && b.inside) → a.place ≡ b.place → Tighter side a b (record { place = p; inside = i })
equal_made side a b p i e f h = subst (λ q. Tighter side a b (record { place = q; inside = i })) (sym e) (subst (λ j. Tighter side a b (record { place = a.place; inside = j })) (sym f) (equal_ends side a b h))

pub places_less : (a b : End) (p q : Rational) (o : Ordering) → p ≡ a.place → q ≡ b.place → o ≡ compareʳ p q → o ≡ Less → a.place <ʳ b.place
places_less a b p q o e f h k = ranks_less a.place b.place o (h ∙ ap₂ compareʳ e f) k

pub places_equal : (a b : End) (p q : Rational) (o : Ordering) → p ≡ a.place → q ≡ b.place → o ≡ compareʳ p q → o ≡ Equal → a.place ≡ b.place
places_equal a b p q o e f h k = ranks_equal a.place b.place o (h ∙ ap₂ compareʳ e f) k

pub places_greater : (a b : End) (p q : Rational) (o : Ordering) → p ≡ a.place → q ≡ b.place → o ≡ compareʳ p q → o ≡ Greater → b.place <ʳ a.place
places_greater a b p q o e f h k = ranks_greater a.place b.place o (h ∙ ap₂ compareʳ e f) k

-- ---- The tightest of all ends

pub bounded_fits : (strict : Bool) (o : Option Rational) (e : End) → bounded strict o ≡ Some e → fits e.place ≡ true
bounded_fits strict None e h = absurd (cc)
bounded_fits strict (Some p) e h = go (fits p) refl h
  where
    go : (b : Bool) → fits p ≡ b → cond b (Some (record { place = p; inside = not strict })) None ≡ Some e → fits e.place ≡ true
    go true k h = let s : record { place = p; inside = not strict } ≡ e = cc in subst (λ z. fits z.place ≡ true) s k
    go false k h = absurd (cc)

pub tight_none : (side : Side) (x : ℕ) (cs : List (ℕ × Rational)) (rows : List Derived) → IsTightest side x cs (take 0 rows) None
tight_none side x cs rows = record { each = All-nil _; narrow = tt; values = λ v. (λ h. All-nil _, λ h. tt) }

pub take_item : {A : Type 0} (xs : List A) (i : ℕ) (x : A) → i < length xs → x ≡ get_or xs i x → take (i + 1) xs ≡ take i xs ++ (x ∷ [])
take_item xs i x l e = take_more xs i x l ∙ ap (λ y. take i xs ++ (y ∷ [])) (sym e)

abbrev pub IsPastRow : Side → ℕ → List (ℕ × Rational) → Rational → Derived → Type 0
IsPastRow side x cs v r = (e : End) → narrow_end x cs r.row ≡ Some e → IsWithin side e v

pub tight_first : (side : Side) (x : ℕ) (cs : List (ℕ × Rational)) (rows : List Derived) (r : Derived) (e : End) → IsTightest side x cs rows None → narrow_end x cs r.row ≡ Some e → IsTightest side x cs (rows ++ (r ∷ [])) (Some e)
tight_first side x cs rows r e t h = record {
  each = All-append (λ r. is_some (narrow_end x cs r.row) ≡ true) rows (r ∷ []) t.each (All-cons (λ r. is_some (narrow_end x cs r.row) ≡ true) r [] (ap is_some h) (All-nil _));
  narrow = bounded_fits r.row.strict (end_of x cs r.row) e h;
  values = λ v. (
    λ w. All-append (IsPastRow side x cs v) rows (r ∷ []) ((t.values v).0 tt) (All-cons (IsPastRow side x cs v) r [] (λ f k. let s : e ≡ f = cc in subst (λ z. IsWithin side z v) s w) (All-nil _)),
    λ a. All-head (IsPastRow side x cs v) r [] (all_append-right (IsPastRow side x cs v) rows (r ∷ []) a) e h,
  );
}

pub tight_more : (side : Side) (x : ℕ) (cs : List (ℕ × Rational)) (rows : List Derived) (r : Derived) (b e f : End) → IsTightest side x cs rows (Some b) → narrow_end x cs r.row ≡ Some e → fits f.place ≡ true → Tighter side b e f → IsTightest side x cs (rows ++ (r ∷ [])) (Some f)
tight_more side x cs rows r b e f t h n m = record {
  each = All-append (λ r. is_some (narrow_end x cs r.row) ≡ true) rows (r ∷ []) t.each (All-cons (λ r. is_some (narrow_end x cs r.row) ≡ true) r [] (ap is_some h) (All-nil _));
  narrow = n;
  values = λ v. (
    λ w. All-append (IsPastRow side x cs v) rows (r ∷ []) ((t.values v).0 ((m v).0 w).0) (All-cons (IsPastRow side x cs v) r [] (λ g k. let s : e ≡ g = cc in subst (λ z. IsWithin side z v) s ((m v).0 w).1) (All-nil _)),
    λ a. (m v).1 ((t.values v).1 (all_append-left (IsPastRow side x cs v) rows (r ∷ []) a), All-head (IsPastRow side x cs v) r [] (all_append-right (IsPastRow side x cs v) rows (r ∷ []) a) e h),
  );
}

pub tight_item : (side : Side) (x : ℕ) (cs : List (ℕ × Rational)) (rows : List Derived) (i : ℕ) (r : Derived) (o : Option End) → i < length rows → r ≡ get_or rows i r → IsTightest side x cs (take i rows ++ (r ∷ [])) o → IsTightest side x cs (take (i + 1) rows) o
tight_item side x cs rows i r o l e t = subst (λ rs. IsTightest side x cs rs o) (sym (take_item rows i r l e)) t

pub tight_end : (side : Side) (x : ℕ) (cs : List (ℕ × Rational)) (rows : List Derived) (i : ℕ) (o : Option End) → length rows ≤ i → IsTightest side x cs (take i rows) o → IsTightest side x cs rows o
tight_end side x cs rows i o l t = subst (λ rs. IsTightest side x cs rs o) (all_taken rows i l) t
  where
    all_taken : {A : Type 0} (xs : List A) (i : ℕ) → length xs ≤ i → take i xs ≡ xs
    all_taken [] zero l = refl
    all_taken [] (suc i) l = refl
    all_taken (x ∷ xs) zero l = absurd (omega (arith, l))
    all_taken (x ∷ xs) (suc i) l = ap (λ ys. x ∷ ys) (all_taken xs i (omega (arith, l)))
