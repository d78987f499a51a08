-- Differences of linear values, one of which holds no variable.
use Rattle.std.proofs.Common.{◌≡◌, [], ◌∷◌, refl, sym, ap, ap₂, ◌∙◌, ℕ, List, Bool, true, false, ◌&&◌, ◌||◌, ◌<◌, ◌+◌, length, get_or, cond}
use Rattle.heyvl_num.specs.Rational.{Rational, ◌+ʳ◌, ◌*ʳ◌}
use Rattle.linear_values.specs.Lin.{Lin, Terms, AreNormal, merged, times, minus, all_fit, is_sized}
use Rattle.linear_rows.specs.Numbers.{minus_oneʳ, fits, is_negative}
use Rattle.linear_form.specs.PlainPaths.{path_of}
use Rattle.linear_form.specs.Query.{Taken}
use Rattle.linear_form.specs.Questions as q
use Rattle.linear_values.specs.Operator.{has_no_terms}
use Rattle.linear_form.specs.internal.Run.{Evaluation, along}
use Rattle.linear_values.specs.Kept.{IsKept}
use Rattle.linear_form.specs.internal.Run.Evaluation.{value}
use Rattle.linear_form.specs.declared.paths.Taken as T
use Rattle.linear_form.proofs.OperatorRuns.{run_below_large, run_below_known, run_below_asked}
use Rattle.linear_form.proofs.Runs.{turned_at}
use Rattle.linear_values.proofs.exported.Nothing.{alone}
use Rattle.linear_values.proofs.exported.KeptParts.{terms_fit}
use Rattle.linear_values.proofs.exported.KeptTerms.{times_normal}
use Rattle.linear_values.proofs.exported.MergedTerms.{minus_one_nonzero, difference_made}
use Rattle.linear_rows.proofs.exported.Narrow.{fits_negated}

minus_is : (a b : Lin) → minus a b ≡ record { terms = merged (times minus_oneʳ b.terms) a.terms; rest = a.rest +ʳ (minus_oneʳ *ʳ b.rest) }
minus_is a b = sym (difference_made a b _ _ _ refl refl refl)

-- ---- A comparison with a number

times_fit : (us : Terms) → all_fit (times minus_oneʳ us) ≡ all_fit us
times_fit [] = refl
times_fit (u ∷ us) = ap₂ (λ a b. a && b) (fits_negated u.1) (times_fit us)

and_true : (b : Bool) → (b && true) ≡ b
and_true true = refl
and_true false = refl

difference_terms : (ts us : Terms) → AreNormal us → (has_no_terms ts || has_no_terms us) ≡ true → all_fit ts ≡ true → all_fit us ≡ true → (all_fit (merged (times minus_oneʳ us) ts) ≡ true) × (has_no_terms (merged (times minus_oneʳ us) ts) ≡ (has_no_terms ts && has_no_terms us))
difference_terms ts [] n e f g = (f, sym (and_true (has_no_terms ts)))
difference_terms [] (u ∷ us) n e f g = let k = alone (times minus_oneʳ (u ∷ us)) (times_normal minus_oneʳ (u ∷ us) minus_one_nonzero n) in (ap all_fit k ∙ times_fit (u ∷ us) ∙ g, ap has_no_terms k)
difference_terms (t ∷ ts) (u ∷ us) n e f g = absurd (cc)

either : (b : Bool) (i : ℕ) → cond b (value true i) (value false i) ≡ value b i
either true i = refl
either false i = refl

module _ (a b : Lin) (s r : Rational) (h : IsKept a) (k : IsKept b) (e : (has_no_terms a.terms || has_no_terms b.terms) ≡ true) (g : s ≡ minus_oneʳ *ʳ b.rest) (f : r ≡ a.rest +ʳ s) where
  terms : (all_fit (merged (times minus_oneʳ b.terms) a.terms) ≡ true) × (has_no_terms (merged (times minus_oneʳ b.terms) a.terms) ≡ (has_no_terms a.terms && has_no_terms b.terms))
  terms = difference_terms a.terms b.terms k.normal e (terms_fit a h) (terms_fit b k)

  rest_is : (minus a b).rest ≡ r
  rest_is = ap (λ (l : Lin). l.rest) (minus_is a b) ∙ sym (f ∙ ap (λ s. a.rest +ʳ s) g)

  sized_is : is_sized (minus a b) ≡ fits r
  unfolding is_sized
  sized_is = ap₂ (λ x y. fits x && y) rest_is (ap (λ (l : Lin). all_fit l.terms) (minus_is a b) ∙ terms.0) ∙ and_true (fits r)

  constant_is : has_no_terms (minus a b).terms ≡ (has_no_terms a.terms && has_no_terms b.terms)
  constant_is = ap (λ (l : Lin). has_no_terms l.terms) (minus_is a b) ∙ terms.1

  pub difference_large : (ps : List Taken) (strict : Bool) (i : ℕ) → fits r ≡ false → along ps (q.is_below (minus a b) strict) i ≡ Evaluation.bits
  difference_large ps strict i z = run_below_large ps (minus a b) strict i (sized_is ∙ z)

  pub difference_known : (ps : List Taken) (strict : Bool) (i : ℕ) → fits r ≡ true → (has_no_terms a.terms && has_no_terms b.terms) ≡ true → along ps (q.is_below (minus a b) strict) i ≡ value (is_negative r strict) i
  difference_known ps strict i z n = run_below_known ps (minus a b) strict i (sized_is ∙ z) (constant_is ∙ n) ∙ ap (λ x. value (is_negative x strict) i) rest_is

  pub difference_told : (ps : List T.Taken) (strict : Bool) (i : ℕ) (p : T.Taken) → fits r ≡ true → (has_no_terms a.terms && has_no_terms b.terms) ≡ false → i < length ps → p ≡ get_or ps i p → along (path_of ps) (q.is_below (minus a b) strict) i ≡ value (get_or ps i p).held (i + 1)
  difference_told ps strict i p z n l m = run_below_asked (path_of ps) (minus a b) strict i (sized_is ∙ z) (constant_is ∙ n) ∙ turned_at ps i p _ _ _ l m ∙ either p.held (i + 1) ∙ ap (λ (p : T.Taken). value p.held (i + 1)) m
