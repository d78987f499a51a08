-- The fingerprint and the divisor of a sum, computed term by term.
use Rattle.std.proofs.Common.{◌≡◌, ℕ, ◌≤◌, List, [], ◌∷◌, ◌++◌, length, drop, refl, sym, ap, ap₂, ◌∙◌}
use Rattle.std.specs.Prelude.{ℤ, pos, negsuc, unsigned_abs}
use Rattle.std.specs.Int.{w64, cast_unsigned}
use Rattle.std.specs.Int.RustNames.{int_div}
use Rattle.std.proofs.lemmas.Nat.Gcd.{dvd_antisymm, dvd_trans}
use Rattle.std.proofs.Math.Nat.{zero-mod}
use Prim.Native.Nat.{zero, suc, ◌∣◌}
use Rattle.heyvl_num.specs.Gcd.{gcd}
use Rattle.heyvl_num.specs.GcdLaws.{gcd-is, gcd-mod, gcd-zero}
use Rattle.linear_rows.specs.Divisors.{common, or_one, divisor, divided_terms}
use Rattle.linear_rows.specs.TermResults.{mixed_terms}
use Rattle.linear_rows.specs.Terms.{put_term}
use Rattle.linear_elim.specs.internal.Fingerprints.{hashed, hashed_all}
use Rattle.linear_elim.proofs.MixedTerms.{put_append, put_nonzero, drop_end, mixed-none}

-- ---- Divisors

gcd_swap : (a b c : ℕ) → gcd a (gcd b c) ≡ gcd b (gcd a c)
gcd_swap a b c = dvd_antisymm (half a b c) (half b a c)
  where
    half : (a b c : ℕ) → gcd a (gcd b c) ∣ gcd b (gcd a c)
    half a b c =
        let g = gcd-is a (gcd b c) in
        let h = gcd-is b c in
        (gcd-is b (gcd a c)).2 _ (dvd_trans _ g.1 h.0) ((gcd-is a c).2 _ g.0 (dvd_trans _ g.1 h.1))

pub gcd_none : (d : ℕ) → gcd 0 d ≡ d
gcd_none d = gcd-mod 0 d ∙ ap (gcd d) (zero-mod d) ∙ gcd-zero d

common_moves : (ts : List (ℕ × ℤ)) (m d : ℕ) → common ts (gcd m d) ≡ gcd m (common ts d)
unfolding common
common_moves [] m d = refl
common_moves (t ∷ ts) m d = ap (gcd (unsigned_abs t.1)) (common_moves ts m d) ∙ gcd_swap (unsigned_abs t.1) m (common ts d)

common_put : (v : ℕ) (c : ℤ) (ts : List (ℕ × ℤ)) (d : ℕ) → common (put_term v c ts) d ≡ common ts (gcd (unsigned_abs c) d)
unfolding common
common_put v (pos zero) ts d = ap (common ts) (sym (gcd_none d))
common_put v (pos (suc n)) ts d = sym (common_moves ts (suc n) d)
common_put v (negsuc n) ts d = sym (common_moves ts (suc n) d)

pub divisor_more : (m k : List (ℕ × ℤ)) (v : ℕ) (c : ℤ) (d a g f : ℕ) → m ≡ put_term v c k → a ≡ unsigned_abs c → g ≡ gcd a d → common m d ≡ f → common k g ≡ f
divisor_more m k v c d a g f e h n p = ap (common k) (n ∙ ap (λ z. gcd z d) h) ∙ sym (common_put v c k d) ∙ ap (λ xs. common xs d) (sym e) ∙ p

-- ---- Fingerprints

hashed_append : (xs ys : List (ℕ × ℤ)) (a : ℕ) → hashed_all a (xs ++ ys) ≡ hashed_all (hashed_all a xs) ys
unfolding hashed_all
hashed_append [] ys a = refl
hashed_append (x ∷ xs) ys a = hashed_append xs ys _

divided_append : (g : ℕ) (xs ys : List (ℕ × ℤ)) → divided_terms g (xs ++ ys) ≡ divided_terms g xs ++ divided_terms g ys
divided_append g [] ys = refl
divided_append g (x ∷ xs) ys = ap (λ zs. (x.0, int_div x.1 (pos g)) ∷ zs) (divided_append g xs ys)

pub hashed_none : (a v : ℕ) (c : ℤ) → c ≡ pos 0 → a ≡ hashed_all a (put_term v c [])
unfolding hashed_all
hashed_none a v c e = ap (λ z. hashed_all a (put_term v z [])) (sym e)

pub hashed_one : (a v : ℕ) (c : ℤ) (h n : ℕ) → (c ≡ pos 0 → ⊥) → h ≡ hashed a v → n ≡ hashed h (cast_unsigned w64 c) → n ≡ hashed_all a (put_term v c [])
unfolding hashed_all
hashed_one a v c h n z e k = k ∙ ap (λ m. hashed m (cast_unsigned w64 c)) e ∙ ap (hashed_all a) (sym (put_nonzero v c [] z))

pub quotient_none : (g a v : ℕ) (c : ℤ) → c ≡ pos 0 → a ≡ hashed_all a (divided_terms g (put_term v c []))
unfolding hashed_all
quotient_none g a v c e = ap (λ z. hashed_all a (divided_terms g (put_term v z []))) (sym e)

pub quotient_hashed : (g a v : ℕ) (c d : ℤ) (h n : ℕ) → (c ≡ pos 0 → ⊥) → d ≡ int_div c (pos g) → h ≡ hashed a v → n ≡ hashed h (cast_unsigned w64 d) → n ≡ hashed_all a (divided_terms g (put_term v c []))
unfolding hashed_all
quotient_hashed g a v c d h n z q e k = k ∙ ap₂ (λ m y. hashed m (cast_unsigned w64 y)) e q ∙ ap (λ xs. hashed_all a (divided_terms g xs)) (sym (put_nonzero v c [] z))

pub number_more : (m k : List (ℕ × ℤ)) (v : ℕ) (c : ℤ) (a n f : ℕ) → m ≡ put_term v c k → n ≡ hashed_all a (put_term v c []) → hashed_all a m ≡ f → hashed_all n k ≡ f
number_more m k v c a n f e h p = ap (λ z. hashed_all z k) h ∙ sym (hashed_append (put_term v c []) k a) ∙ ap (hashed_all a) (put_append v c k ∙ sym e) ∙ p

pub quotient_more : (g : ℕ) (m k : List (ℕ × ℤ)) (v : ℕ) (c : ℤ) (a n f : ℕ) → m ≡ put_term v c k → n ≡ hashed_all a (divided_terms g (put_term v c [])) → hashed_all a (divided_terms g m) ≡ f → hashed_all n (divided_terms g k) ≡ f
quotient_more g m k v c a n f e h p = ap (λ z. hashed_all z (divided_terms g k)) h ∙ sym (hashed_append (divided_terms g (put_term v c [])) (divided_terms g k) a) ∙ ap (hashed_all a) (sym (divided_append g (put_term v c []) k) ∙ ap (divided_terms g) (put_append v c k ∙ sym e)) ∙ p

-- ---- At the end

pub none_left : (p : ℕ) (ts : List (ℕ × ℤ)) (i q : ℕ) (us : List (ℕ × ℤ)) (j : ℕ) → length ts ≤ i → length us ≤ j → mixed_terms (pos p) (drop i ts) (pos q) (drop j us) ≡ []
none_left p ts i q us j l m = ap₂ (λ xs ys. mixed_terms (pos p) xs (pos q) ys) (drop_end ts i l) (drop_end us j m) ∙ mixed-none (pos p) (pos q)

pub divisor_end : (m : List (ℕ × ℤ)) (d f : ℕ) → m ≡ [] → common m d ≡ f → d ≡ f
unfolding common
divisor_end m d f e h = sym (ap (λ xs. common xs d) e) ∙ h

pub number_end : (m : List (ℕ × ℤ)) (a f : ℕ) → m ≡ [] → hashed_all a m ≡ f → a ≡ f
unfolding hashed_all
number_end m a f e h = sym (ap (hashed_all a) e) ∙ h

pub quotient_end : (g : ℕ) (m : List (ℕ × ℤ)) (a f : ℕ) → m ≡ [] → hashed_all a (divided_terms g m) ≡ f → a ≡ f
unfolding hashed_all
quotient_end g m a f e h = sym (ap (λ xs. hashed_all a (divided_terms g xs)) e) ∙ h

pub divisor_some : (ts : List (ℕ × ℤ)) (n g : ℕ) → g ≡ common ts n → (g ≡ 0 → ⊥) → g ≡ divisor ts n
divisor_some ts n g e h = go (common ts n) e
  where
    go : (c : ℕ) → g ≡ c → g ≡ or_one c
    go zero e = absurd (h e)
    go (suc c) e = e
