-- The rows of claims in order.
use Rattle.std.proofs.Common.{◌≡◌, List, [], ◌∷◌, ◌++◌, refl, sym, ap, ap₂, ◌∙◌, subst, append_assoc, Bool, false, cond, ◌&&◌}
use Rattle.std.specs.Prelude.{Option, Some, None}
use Rattle.heylo_formula.specs.Typing.{Types}
use Rattle.linear_rows.specs.Row.{Row}
use Rattle.linear_values.specs.Lin.{Lin, Terms, constant, times, scaled, all_fit, is_sized}
use Rattle.linear_rows.specs.Numbers.{minus_oneʳ, fits}
use Rattle.heyvl_num.specs.Gcd.{gcd, gcd_steps}
use Rattle.heyvl_num.specs.Rational.{ratio, zeroʳ, ◌*ʳ◌}
use Rattle.heyvl_num.specs.Value.{is_zeroʳ}
use Rattle.linear_form.specs.Query.{Query}
use Rattle.linear_form.specs.Questions.{Ends}
use Rattle.linear_values.specs.Tightening.{Claim, tightened, with_row, all_tightened}
use Rattle.linear_form.specs.PathRows.{claim, negated}
use Rattle.linear_form.specs.internal.FurtherRows.{followed_by, rows_with}
use Rattle.linear_values.specs.PlainValues.{linear_of}
use Rattle.linear_form.specs.QuestionLaws.{EachResult}
use Rattle.linear_values.specs.Kept.{IsKeptValue}
use Rattle.linear_form.specs.AskAnswers.{Answers}
use Rattle.linear_values.specs.declared.lin.Lin as L
use Rattle.linear_form.specs.declared.questions.Ask as K
use Rattle.linear_rows.proofs.exported.Narrow.{fits_negated}
use Rattle.linear_values.proofs.exported.RowParts.{too_large}
use Rattle.linear_form.proofs.NormalClaims.{AreKept}

-- ---- One list of claims after another

abbrev pub joined : Option (List Row) → Option (List Row) → Option (List Row)
joined (Some rows) o = followed_by rows o
joined None o = None

pub none_before : (o : Option (List Row)) → followed_by [] o ≡ o
none_before (Some rows) = refl
none_before None = refl

put : (o : Option Row) (p q : Option (List Row)) → with_row o (joined p q) ≡ joined (with_row o p) q
put (Some r) (Some a) (Some b) = refl
put (Some r) (Some a) None = refl
put (Some r) None q = refl
put None p q = refl

pub tightened_append : (types : Types) (ks ls : List Claim) → all_tightened types (ks ++ ls) ≡ joined (all_tightened types ks) (all_tightened types ls)
tightened_append types [] ls = sym (none_before (all_tightened types ls))
tightened_append types (k ∷ ks) ls = ap (with_row (tightened types k)) (tightened_append types ks ls) ∙ put (tightened types k) (all_tightened types ks) (all_tightened types ls)

follows : (rows made : List Row) (o q : Option (List Row)) → followed_by rows o ≡ Some made → followed_by rows (joined o q) ≡ followed_by made q
follows rows made (Some a) (Some b) e = let k : rows ++ a ≡ made = cc in ap Some (sym (append_assoc rows a b)) ∙ ap (λ z. Some (z ++ b)) k
follows rows made (Some a) None e = refl
follows rows made None q e = absurd (cc)

pub then_more : (types : Types) (rows made : List Row) (ks ls : List Claim) → rows_with types rows ks ≡ Some made → rows_with types rows (ks ++ ls) ≡ rows_with types made ls
then_more types rows made ks ls e = ap (followed_by rows) (tightened_append types ks ls) ∙ follows rows made (all_tightened types ks) (all_tightened types ls) e

-- ---- Negation preserves sizes

negated_terms_fit : (ts : Terms) → all_fit (times minus_oneʳ ts) ≡ all_fit ts
negated_terms_fit [] = refl
negated_terms_fit (t ∷ ts) = ap₂ (λ a b. a && b) (fits_negated t.1) (negated_terms_fit ts)

pub not_zero : is_zeroʳ minus_oneʳ ≡ false
unfolding is_zeroʳ minus_oneʳ ratio gcd gcd_steps
not_zero = refl

negated_sized : (a : Lin) → is_sized (negated a) ≡ is_sized a
unfolding is_sized scaled
negated_sized a = ap (λ b. fits (cond b (constant zeroʳ) (record { terms = times minus_oneʳ a.terms; rest = minus_oneʳ *ʳ a.rest })).rest && all_fit (cond b (constant zeroʳ) (record { terms = times minus_oneʳ a.terms; rest = minus_oneʳ *ʳ a.rest })).terms) not_zero ∙ ap₂ (λ a b. a && b) (fits_negated a.rest) (negated_terms_fit a.terms)

pub negated_large : (types : Types) (rows : List Row) (a : Lin) (strict : Bool) → is_sized a ≡ false → rows_with types rows (claim (negated a) strict ∷ []) ≡ None
negated_large types rows a strict e = ap (λ o. followed_by rows (with_row o (Some []))) (sym (too_large types (negated a) strict (negated_sized a ∙ e)))

-- ---- The values at an end

pub ended : (x z : Option L.Lin) (t : Query Ends) → Answers (K.TheVariants.End x z) t → EachResult AreKept t → IsKeptValue (linear_of x) × IsKeptValue (linear_of z)
ended x z (Query.done e) h k = subst AreKept (sym h) k
ended x z Query.bits h k = absurd h
ended x z (Query.ask q y n) h k = absurd h
