-- The step of a toss: its weight is the smaller of a value and 1. The step overflows only if the
-- weight or its difference to 1 does.
use Rattle.std.proofs.Common.{◌≡◌, ℕ, refl, sym, ap, ap₂, ◌∙◌, subst, true, false, cond, List, [], ◌∷◌}
use Rattle.std.specs.Prelude.{Some, None, is_some, option_map}
use Rattle.std.specs.declared.cmp.Ordering.{Ordering}
use Rattle.std.specs.declared.cmp.Ordering.TheVariants.{Less, Equal, Greater}
use Rattle.heyvl_num.specs.Exact.{exact_difference}
use Rattle.heyvl_num.specs.ExactValues.{exact_orderᵛ}
use Rattle.heyvl_num.specs.Rational.{Rational, oneʳ}
use Rattle.heyvl_num.specs.Value.{Value, oneᵛ}
use Rattle.heyvl_num.specs.ValueOperators.{minᵛ}
use Rattle.heyvl_num.proofs.exported.Exactness.{exact_difference_some, orderᵛ_at_most_less, orderᵛ_at_most_equal, orderᵛ_greater}
use Rattle.heylo_formula.specs.Formula.{Form, Cond, Term}
use Rattle.heylo_formula.specs.Operators.{finite_part}
use Rattle.heylo_formula.specs.State.{environment}
use Rattle.heylo_formula.specs.declared.values.Val.{Val}
use Rattle.heyvl_acts.specs.Tosses.{flip_parts, toss_parts, toss_weight}
use Rattle.quant_algebra.specs.ExactOperators.{and_then, at_most_or, exact_minᵛ}
use Rattle.run_machine.specs.BoundedStep.{exact_weight, toss_fits}
use Rattle.run_machine.specs.Names.{Stored}
use Rattle.run_machine.specs.Replies.{Reply, StoredOutcomes, replied}
use Rattle.run_machine.specs.StoredMoves.{stored_branches}

pub smaller_is : (v : Value) (o : Ordering) → Some o ≡ exact_orderᵛ v oneᵛ → at_most_or o v oneᵛ ≡ minᵛ v oneᵛ
unfolding minᵛ
smaller_is v Less h = sym (ap (λ b. cond b v oneᵛ) (orderᵛ_at_most_less v oneᵛ Less h refl))
smaller_is v Equal h = sym (ap (λ b. cond b v oneᵛ) (orderᵛ_at_most_equal v oneᵛ Equal h refl))
smaller_is v Greater h = sym (ap (λ b. cond b v oneᵛ) (orderᵛ_greater v oneᵛ Greater h refl))

order_is : (v u : Value) (o p : Ordering) → u ≡ oneᵛ → Some o ≡ exact_orderᵛ v u → o ≡ p → Some p ≡ exact_orderᵛ v oneᵛ
order_is v u o p e h i = ap Some (sym i) ∙ (h ∙ ap (λ x. exact_orderᵛ v x) e)

pub weight_is : (v u : Value) (o p : Ordering) → u ≡ oneᵛ → Some o ≡ exact_orderᵛ v u → o ≡ p → finite_part (at_most_or p v oneᵛ) ≡ finite_part (minᵛ v oneᵛ)
weight_is v u o p e h i = ap finite_part (smaller_is v p (order_is v u o p e h i))

pub exact_is : (v u : Value) (o p : Ordering) → u ≡ oneᵛ → Some o ≡ exact_orderᵛ v u → o ≡ p → Some (finite_part (at_most_or p v oneᵛ)) ≡ option_map finite_part (exact_minᵛ v oneᵛ)
exact_is v u o p e h i = ap (λ q. option_map finite_part (option_map (λ r. at_most_or r v oneᵛ) q)) (order_is v u o p e h i)

pub part_of_one : oneʳ ≡ finite_part oneᵛ
unfolding oneᵛ
part_of_one = refl

pub no_weight : (f : Form) (s : List Val) (xs : StoredOutcomes) → None ≡ exact_weight f s → Reply.bits ≡ replied (toss_fits f s) xs
no_weight f s xs h = subst (λ o. Reply.bits ≡ replied (is_some (and_then o (λ w. exact_difference oneʳ w))) xs) h refl

pub no_rest : (f : Form) (s : List Val) (xs : StoredOutcomes) (w : Rational) → Some w ≡ exact_weight f s → None ≡ exact_difference oneʳ w → Reply.bits ≡ replied (toss_fits f s) xs
no_rest f s xs w h k = subst (λ o. Reply.bits ≡ replied (is_some (and_then o (λ u. exact_difference oneʳ u))) xs) h (subst (λ o. Reply.bits ≡ replied (is_some o) xs) k refl)

pub both_fit : (c : Stored) (x : ℕ) (f : Form) (s : List Val) (w r : Rational) → Some w ≡ exact_weight f s → w ≡ toss_weight f (environment s) → Some r ≡ exact_difference oneʳ w → replied true (stored_branches c x ((w, Term.truth (Cond.constant true)) ∷ (r, Term.truth (Cond.constant false)) ∷ [])) ≡ replied (toss_fits f s) (stored_branches c x (toss_parts f (environment s)))
both_fit c x f s w r h m k = ap₂ (λ fits qs. replied fits (stored_branches c x qs)) fits parts
  where
    fits : true ≡ toss_fits f s
    fits = subst (λ o. true ≡ is_some (and_then o (λ u. exact_difference oneʳ u))) h (subst (λ o. true ≡ is_some o) k refl)

    parts : (w, Term.truth (Cond.constant true)) ∷ (r, Term.truth (Cond.constant false)) ∷ [] ≡ toss_parts f (environment s)
    parts = ap (λ q. (w, Term.truth (Cond.constant true)) ∷ (q, Term.truth (Cond.constant false)) ∷ []) (exact_difference_some oneʳ w r k) ∙ ap flip_parts m
