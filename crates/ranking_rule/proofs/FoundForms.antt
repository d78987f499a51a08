-- The computed form of a ranking's goal without binders: only the generated form has binders.
use Rattle.std.proofs.Common.{◌≡◌, ◌∙◌, ℕ, ◌+◌, ap, sym, arith, true, false, List, [], ◌++◌, append-nil}
use Rattle.std.proofs.Math.ListN.{length}
use Rattle.heyvl_num.specs.Rational.{Rational}
use Rattle.heyvl_num.specs.Value.{zeroᵛ}
use Rattle.heyvl_num.specs.Value.Value.{finite}
use Rattle.heylo_formula.specs.BinderNames.{Binder, binders, binders_in}
use Rattle.heylo_formula.specs.Binders.{has_binder_in}
use Rattle.heylo_formula.specs.Formula.{Form}
use Rattle.heylo_formula.specs.Goals.{Goal}
use Rattle.heylo_formula.specs.declared.types.Ty.{Ty}
use Rattle.heylo_formula.proofs.exported.BinderNames.{unnamed_in}
use Rattle.heyvl_acts.specs.Acts.{Head, Acts}
use Rattle.vp_generator.specs.PrenexedForms.{prenexed, unbound, new_types}
use Rattle.vp_generator.specs.PrenexedGoals.{prenexed_goal}
use Rattle.ranking_rule.specs.RankingGoals.{found, generated, tested}
use Rattle.ranking_rule.specs.internal.GuardedGoals.{with_test}
use Rattle.ranking_rule.proofs.BinderFree.{kept_in}

module _ (h : Head) (b : Acts) (r : Rational × Form) (plain : has_binder_in h.guard ≡ false) where
  abbrev behind : List Binder
  behind = binders (generated b r) ++ []

  pub found_binders : binders (found h b r) ≡ binders (generated b r)
  found_binders = ap (λ (bs : List Binder). bs ++ behind) (unnamed_in h.guard plain) ∙ append-nil (binders (generated b r))

  pub found_prenexed : (n : ℕ) → prenexed n (found h b r) ≡ tested h.guard r.0 (prenexed n (generated b r))
  found_prenexed n = ap (λ g. Form.select g (Form.sum (Form.number (finite r.0)) (unbound (λ x. x) (n + length (binders_in h.guard) + 0) (generated b r))) (Form.number zeroᵛ)) (kept_in n h.guard plain) ∙ ap (λ m. tested h.guard r.0 (unbound (λ x. x) m (generated b r))) (ap (λ (bs : List Binder). n + length bs + 0) (unnamed_in h.guard plain) ∙ nothing n)
    where
      nothing : (n : ℕ) → n + 0 + 0 ≡ n
      nothing n = omega arith

  abbrev the_goal : Form → List Ty → List (List ℕ) → ℕ → Goal
  the_goal f tys names own = record { upper = true; stated = r.1; found = f; types = tys; names = names; own = own }

  pub goal_found : (tys : List Ty) (names : List (List ℕ)) → with_test h.guard r.0 (prenexed_goal true tys names r.1 (generated b r)) ≡ prenexed_goal true tys names r.1 (found h b r)
  goal_found tys names = ap (λ (f : Form). the_goal f (tys ++ new_types (binders (generated b r))) names (length tys)) (sym (found_prenexed (length tys))) ∙ ap (λ (bs : List Binder). the_goal (prenexed (length tys) (found h b r)) (tys ++ new_types bs) names (length tys)) (sym found_binders)
