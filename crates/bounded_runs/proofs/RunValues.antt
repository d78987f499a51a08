-- The operators in both directions at once.
use Rattle.std.proofs.Common.{◌≡◌, refl, sym, ap, ◌∙◌, subst, Bool, true, false, cond, ◌⊎◌, inl, inr}
use Rattle.heyvl_num.specs.Rational.{Rational, zeroʳ, oneʳ, ◌+ʳ◌, ◌≤ʳ◌}
use Rattle.heyvl_num.specs.Value.{Value, zeroᵛ, leqᵛ, ◌+ᵛ◌, ◌*ᵛ◌, ◌≤ᵛ◌}
use Rattle.heyvl_num.specs.Value.Value.{finite, infinite}
use Rattle.heyvl_num.specs.ValueOperators.{minᵛ, maxᵛ, impliesᵛ, coimpliesᵛ}
use Rattle.heyvl_num.proofs.exported.Values.{+ᵛ_comm, +ᵛ_assoc, zero-+ᵛ, scale-+ᵛ, weights-*, ≤ᵛ_refl, ≤ᵛ_infinite, ≤ᵛ_trans, ≤ᵛ_antisym, +ᵛ_mono, scale_mono, +ᵛ-infinite}
use Rattle.heyvl_num.proofs.exported.Operators.{order_cases, coimplies_up, coimplies_from, min_below_left, min_below_right, min_greatest, min_mono, max_above_left, max_above_right, max_least, max_mono, implies_top, implies_mono, coimplies_zero}
use Rattle.heyvl_places.specs.declared.checks.CheckKind.{CheckKind}
use Rattle.heylo_formula.specs.Operators.{validateᵛ, covalidateᵛ}
use Rattle.heylo_formula.specs.Goals.{Compares}
use Rattle.heylo_formula.proofs.exported.Operators.{covalidate_two, covalidate_zero, covalidate_up, validate_two, validate_infinite, validate_up}
use Rattle.heyvl_acts.specs.Forward.{picked, checked, validated}
use Rattle.k_induction.specs.Copies.{must, may, meets}
use Rattle.run_machine.specs.Sums.{begun}
use Rattle.run_machine.proofs.exported.Equations.{one_times}
use Rattle.bounded_runs.specs.internal.Contracts.{worst}

-- The first value is on the safe side of the second: at most if true, at least if false.
abbrev pub Safe : Bool → Value → Value → Type 0
Safe true x y = x ≤ᵛ y
Safe false x y = y ≤ᵛ x

pub safe_refl : (up : Bool) (x : Value) → Safe up x x
safe_refl true x = ≤ᵛ_refl x
safe_refl false x = ≤ᵛ_refl x

pub safe_trans : (up : Bool) (x y z : Value) → Safe up x y → Safe up y z → Safe up x z
safe_trans true x y z h k = ≤ᵛ_trans x y z h k
safe_trans false x y z h k = ≤ᵛ_trans z y x k h

pub safe_sum : (up : Bool) (x x' y y' : Value) → Safe up x x' → Safe up y y' → Safe up (x +ᵛ y) (x' +ᵛ y')
safe_sum true x x' y y' h k = +ᵛ_mono x x' y y' h k
safe_sum false x x' y y' h k = +ᵛ_mono x' x y' y h k

pub safe_scale : (up : Bool) (w : Rational) (x y : Value) → zeroʳ ≤ʳ w → Safe up x y → Safe up (finite w *ᵛ x) (finite w *ᵛ y)
safe_scale true w x y p h = scale_mono w x y p h
safe_scale false w x y p h = scale_mono w y x p h

pub safe_picked : (up d : Bool) (x x' y y' : Value) → Safe up x x' → Safe up y y' → Safe up (picked d x y) (picked d x' y')
safe_picked true true x x' y y' h k = max_mono x x' y y' h k
safe_picked true false x x' y y' h k = min_mono x x' y y' h k
safe_picked false true x x' y y' h k = max_mono x' x y' y h k
safe_picked false false x x' y y' h k = min_mono x' x y' y h k

pub pick_side : (up : Bool) (a b : Value) → Safe up a (picked up a b) × Safe up b (picked up a b)
pick_side true a b = (max_above_left a b, max_above_right a b)
pick_side false a b = (min_below_left a b, min_below_right a b)

pub safe_compares : (up : Bool) (x y : Value) → Safe up x y → Compares up y x
safe_compares true x y h = h
safe_compares false x y h = h

pub compares_safe : (up : Bool) (x y : Value) → Compares up y x → Safe up x y
compares_safe true x y h = h
compares_safe false x y h = h

-- ---- Checks of a value that is not negative

pub safe_checked : (up : Bool) (kind : CheckKind) (f x y : Value) → zeroᵛ ≤ᵛ f → Safe up x y → Safe up (checked kind f x) (checked kind f y)
safe_checked true CheckKind.Assert f x y p h = min_mono f f x y (≤ᵛ_refl f) h
safe_checked true CheckKind.Assume f x y p h = implies_mono f f x y (≤ᵛ_refl f) h
safe_checked true CheckKind.CoAssert f x y p h = max_mono f f x y (≤ᵛ_refl f) h
safe_checked true CheckKind.CoAssume f x y p h = coimplies_up f x y p h
safe_checked false CheckKind.Assert f x y p h = min_mono f f y x (≤ᵛ_refl f) h
safe_checked false CheckKind.Assume f x y p h = implies_mono f f y x (≤ᵛ_refl f) h
safe_checked false CheckKind.CoAssert f x y p h = max_mono f f y x (≤ᵛ_refl f) h
safe_checked false CheckKind.CoAssume f x y p h = coimplies_up f y x p h

-- ---- The second half of a contract

abbrev pub blamed : Bool → Value → Value → Value
blamed up i y = validated up (checked (may up) i y)

pub safe_blamed : (up : Bool) (i x y : Value) → zeroᵛ ≤ᵛ i → Safe up x y → Safe up (blamed up i x) (blamed up i y)
safe_blamed true i x y p h = covalidate_up (coimpliesᵛ i x) (coimpliesᵛ i y) (coimplies_from i x p) (coimplies_up i x y p h)
safe_blamed false i x y p h = validate_up (impliesᵛ i y) (impliesᵛ i x) (implies_mono i i y x (≤ᵛ_refl i) h)

-- Either `y` is on the safe side of `i`, and its assumption adds nothing to an assertion, or the
-- assumption has the worst value.
abbrev pub Decided : Bool → Value → Value → Type 0
Decided up i y = (Safe up y i × ((x : Value) → Safe up (begun up) x → checked (must up) x (blamed up i y) ≡ x)) ⊎ (blamed up i y ≡ worst up)

implies_other : (x y : Value) → leqᵛ x y ≡ false → impliesᵛ x y ≡ y
unfolding impliesᵛ
implies_other x y e = rw e

coimplies_other : (x y : Value) → leqᵛ y x ≡ false → coimpliesᵛ x y ≡ y
unfolding coimpliesᵛ
coimplies_other x y e = rw e

max_zero : (x : Value) → zeroᵛ ≤ᵛ x → maxᵛ x zeroᵛ ≡ x
max_zero x h = ≤ᵛ_antisym (maxᵛ x zeroᵛ) x (max_least x zeroᵛ x (≤ᵛ_refl x) h) (max_above_left x zeroᵛ)

min_infinite : (x : Value) → minᵛ x infinite ≡ x
min_infinite x = ≤ᵛ_antisym (minᵛ x infinite) x (min_below_left x infinite) (min_greatest x infinite x (≤ᵛ_refl x) (≤ᵛ_infinite x))

pub decide : (up : Bool) (i y : Value) → zeroᵛ ≤ᵛ i → Decided up i y
decide true i y p = go (order_cases y i)
  where
    at : (y ≡ zeroᵛ) ⊎ (covalidateᵛ y ≡ infinite) → leqᵛ y i ≡ false → Decided true i y
    at (inl e) f = absurd (let k : leqᵛ y i ≡ true = subst (λ u. leqᵛ u i ≡ true) (sym e) p.holds in cc)
    at (inr e) f = inr (ap covalidateᵛ (coimplies_other i y f) ∙ e)

    go : ((leqᵛ y i ≡ true) × (y ≤ᵛ i)) ⊎ ((leqᵛ y i ≡ false) × (i ≤ᵛ y)) → Decided true i y
    go (inl k) = inl (k.1, λ x h. ap (λ u. maxᵛ x u) (ap covalidateᵛ (coimplies_zero i y k.1) ∙ covalidate_zero) ∙ max_zero x h)
    go (inr k) = at (covalidate_two y) k.0
decide false i y p = go (order_cases i y)
  where
    at : (y ≡ infinite) ⊎ (validateᵛ y ≡ zeroᵛ) → leqᵛ i y ≡ false → Decided false i y
    at (inl e) f = absurd (let k : leqᵛ i y ≡ true = subst (λ u. leqᵛ i u ≡ true) (sym e) (≤ᵛ_infinite i).holds in cc)
    at (inr e) f = inr (ap validateᵛ (implies_other i y f) ∙ e)

    go : ((leqᵛ i y ≡ true) × (i ≤ᵛ y)) ⊎ ((leqᵛ i y ≡ false) × (y ≤ᵛ i)) → Decided false i y
    go (inl k) = inl (k.1, λ x h. ap (λ u. minᵛ x u) (ap validateᵛ (implies_top i y k.1) ∙ validate_infinite) ∙ min_infinite x)
    go (inr k) = at (validate_two y) k.0

pub must_left : (up : Bool) (x y : Value) → Safe up x (checked (must up) x y)
must_left true x y = max_above_left x y
must_left false x y = min_below_left x y

pub must_right : (up : Bool) (x y : Value) → Safe up y (checked (must up) x y)
must_right true x y = max_above_right x y
must_right false x y = min_below_right x y

pub meets_least : (up : Bool) (b x y : Value) → Safe up b x → Safe up b y → Safe up b (checked (meets up) x y)
meets_least true b x y h k = min_greatest x y b h k
meets_least false b x y h k = max_least x y b h k

min_two : (x y : Value) → (minᵛ x y ≡ x) ⊎ (minᵛ x y ≡ y)
unfolding minᵛ
min_two x y = go (leqᵛ x y)
  where
    go : (t : Bool) → (cond t x y ≡ x) ⊎ (cond t x y ≡ y)
    go true = inl refl
    go false = inr refl

max_two : (x y : Value) → (maxᵛ x y ≡ x) ⊎ (maxᵛ x y ≡ y)
unfolding maxᵛ
max_two x y = go (leqᵛ x y)
  where
    go : (t : Bool) → (cond t y x ≡ x) ⊎ (cond t y x ≡ y)
    go true = inr refl
    go false = inl refl

pub meets_two : (up : Bool) (x y : Value) → (checked (meets up) x y ≡ x) ⊎ (checked (meets up) x y ≡ y)
meets_two true x y = min_two x y
meets_two false x y = max_two x y

-- ---- Sums and the values that cover them

-- The sum is at most the reward so far plus the value if true, at least the value if false.
abbrev pub Covered : Bool → Value → Value → Value → Type 0
Covered true x r v = x ≤ᵛ r +ᵛ v
Covered false x r v = v ≤ᵛ x

pub covered_more : (up : Bool) (x r v w : Value) → Safe up v w → Covered up x r v → Covered up x r w
covered_more true x r v w h k = ≤ᵛ_trans x (r +ᵛ v) (r +ᵛ w) k (+ᵛ_mono r r v w (≤ᵛ_refl r) h)
covered_more false x r v w h k = ≤ᵛ_trans w v x h k

pub covered_worst : (up : Bool) (x r : Value) → (up ≡ false → zeroᵛ ≤ᵛ x) → Covered up x r (worst up)
covered_worst true x r h = subst (λ u. x ≤ᵛ u) (sym (+ᵛ-infinite r)) (≤ᵛ_infinite x)
covered_worst false x r h = h refl

pub covered_reward : (up : Bool) → up ≡ true → (x r a v : Value) → Covered up x (r +ᵛ a) v → Covered up x r (v +ᵛ a)
covered_reward true e x r a v h = subst (λ u. x ≤ᵛ u) (+ᵛ_assoc r a v ∙ ap (λ u. r +ᵛ u) (+ᵛ_comm a v)) h
covered_reward false e x r a v h = absurd (cc)

pub covered_start : (up : Bool) (x v : Value) → Covered up x zeroᵛ v → Safe up x v
covered_start true x v h = subst (λ u. x ≤ᵛ u) (zero-+ᵛ v) h
covered_start false x v h = h

-- Parts of a draw, with the sum of their weights.
abbrev pub CoveredPart : Bool → Value → Rational → Value → Value → Type 0
CoveredPart true y w r d = y ≤ᵛ (finite w *ᵛ r) +ᵛ d
CoveredPart false y w r d = d ≤ᵛ y

four : (a b c d : Value) → (a +ᵛ b) +ᵛ (c +ᵛ d) ≡ (a +ᵛ c) +ᵛ (b +ᵛ d)
four a b c d = +ᵛ_assoc a b (c +ᵛ d) ∙ ap (λ u. a +ᵛ u) (sym (+ᵛ_assoc b c d) ∙ ap (λ u. u +ᵛ d) (+ᵛ_comm b c) ∙ +ᵛ_assoc c b d) ∙ sym (+ᵛ_assoc a c (b +ᵛ d))

pub part_first : (up : Bool) (w : Rational) (x r k : Value) → zeroʳ ≤ʳ w → Covered up x r k → CoveredPart up (finite w *ᵛ x) w r (finite w *ᵛ k)
part_first true w x r k p h = subst (λ u. finite w *ᵛ x ≤ᵛ u) (scale-+ᵛ w r k) (scale_mono w x (r +ᵛ k) p h)
part_first false w x r k p h = scale_mono w k x p h

pub part_add : (up : Bool) (u w : Rational) (y x r d k : Value) → zeroʳ ≤ʳ u → zeroʳ ≤ʳ w → CoveredPart up y u r d → Covered up x r k → CoveredPart up (y +ᵛ (finite w *ᵛ x)) (u +ʳ w) r (d +ᵛ (finite w *ᵛ k))
part_add true u w y x r d k p q g h = subst (λ v. y +ᵛ (finite w *ᵛ x) ≤ᵛ v) (four (finite u *ᵛ r) d (finite w *ᵛ r) (finite w *ᵛ k) ∙ ap (λ v. v +ᵛ (d +ᵛ (finite w *ᵛ k))) (sym (weights-* u w r p q))) (+ᵛ_mono y ((finite u *ᵛ r) +ᵛ d) (finite w *ᵛ x) ((finite w *ᵛ r) +ᵛ (finite w *ᵛ k)) g (part_first true w x r k q h))
part_add false u w y x r d k p q g h = +ᵛ_mono d y (finite w *ᵛ k) (finite w *ᵛ x) g (scale_mono w k x q h)

pub part_all : (up : Bool) (y r d : Value) → CoveredPart up y oneʳ r d → Covered up y r d
part_all true y r d g = subst (λ u. y ≤ᵛ u +ᵛ d) (one_times r) g
part_all false y r d g = g

pub begun_part : (up : Bool) (u w : Rational) (d k : Value) → zeroʳ ≤ʳ u → zeroʳ ≤ʳ w → Safe up (finite u *ᵛ begun up) d → Safe up (begun up) k → Safe up (finite (u +ʳ w) *ᵛ begun up) (d +ᵛ (finite w *ᵛ k))
begun_part up u w d k p q g h = subst (λ v. Safe up v (d +ᵛ (finite w *ᵛ k))) (sym (weights-* u w (begun up) p q)) (safe_sum up (finite u *ᵛ begun up) d (finite w *ᵛ begun up) (finite w *ᵛ k) g (safe_scale up w (begun up) k q h))
