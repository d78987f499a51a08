-- Sums that are scaled and then merged.
use Rattle.std.proofs.Common.{◌≡◌, ℕ, ◌*◌, ◌<◌, List, [], ◌∷◌, refl, sym, ap, ap₂, ◌∙◌, arith}
use Rattle.std.specs.Prelude.{ℤ, pos, negsuc, ◌*ℤ◌, ◌<ℤ◌}
use borrow.Author.Differences.{ints}
use Prim.Native.Nat.{zero, suc}
use Rattle.std.proofs.Math.Nat.{mul-pos}
use Rattle.std.proofs.lemmas.List.Elements.{All-nil, All-map}
use Rattle.heyvl_num.proofs.exported.Integers.{one-*ℤ}
use Rattle.linear_rows.specs.Terms.{IsNormal, put_term, add_term, add_terms}
use Rattle.linear_rows.specs.TermResults.{scaled_terms, merged_terms, mixed_terms}
use Rattle.linear_rows.proofs.Normal.{take_first}

pub product_nonzero : (p c : ℤ) → pos 0 <ℤ p → (c ≡ pos 0 → ⊥) → p *ℤ c ≡ pos 0 → ⊥
product_nonzero (pos zero) c h n e = absurd (omega (arith, ints, h))
product_nonzero (pos (suc a)) (pos zero) h n e = n refl
product_nonzero (pos (suc a)) (pos (suc b)) h n e = let m : 0 < suc a * suc b = mul-pos (omega arith) (omega arith) in omega (arith, ints, m, e)
product_nonzero (pos (suc a)) (negsuc b) h n e = omega (arith, ints, e)
product_nonzero (negsuc a) c h n e = absurd (omega (arith, ints, h))

pub scaled-normal : (p : ℤ) (ts : List (ℕ × ℤ)) → pos 0 <ℤ p → IsNormal ts → IsNormal (scaled_terms p ts)
scaled-normal p [] h k = tt
scaled-normal p (t ∷ ts) h k = (product_nonzero p t.1 h k.0, (All-map (λ (u : ℕ × ℤ). t.0 < u.0) (λ (u : ℕ × ℤ). (u.0, p *ℤ u.1)) ts k.1.0, scaled-normal p ts h k.1.1))

put_nonzero : (v : ℕ) (c : ℤ) (ts : List (ℕ × ℤ)) → (c ≡ pos 0 → ⊥) → put_term v c ts ≡ (v, c) ∷ ts
put_nonzero v (pos zero) ts n = absurd (n refl)
put_nonzero v (pos (suc a)) ts n = refl
put_nonzero v (negsuc a) ts n = refl

pub scaled-is : (p : ℤ) (ts : List (ℕ × ℤ)) → pos 0 <ℤ p → IsNormal ts → add_terms p ts [] ≡ scaled_terms p ts
unfolding add_terms
scaled-is p [] h k = refl
scaled-is p (t ∷ ts) h k = take_first p t ts [] k tt (All-nil _) ∙ put_nonzero t.0 (p *ℤ t.1) (add_terms p ts []) (product_nonzero p t.1 h k.0) ∙ ap (λ us. (t.0, p *ℤ t.1) ∷ us) (scaled-is p ts h k.1.1)

merged-scaled : (p : ℤ) (ts us : List (ℕ × ℤ)) → merged_terms (scaled_terms p ts) us ≡ add_terms p ts us
unfolding add_terms
merged-scaled p [] us = refl
merged-scaled p (t ∷ ts) us = ap₂ (λ c vs. add_term t.0 c vs) (one-*ℤ (p *ℤ t.1)) (merged-scaled p ts us)

pub mixed-is : (p : ℤ) (ts : List (ℕ × ℤ)) (q : ℤ) (us : List (ℕ × ℤ)) → pos 0 <ℤ q → IsNormal us → merged_terms (scaled_terms p ts) (scaled_terms q us) ≡ mixed_terms p ts q us
mixed-is p ts q us h k = merged-scaled p ts (scaled_terms q us) ∙ ap (add_terms p ts) (sym (scaled-is q us h k))
