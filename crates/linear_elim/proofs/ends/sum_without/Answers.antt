use Rattle.std.proofs.Common.{rules, ap, ap₂, sym, ◌∙◌, ◌+◌, get_or, drop, FitsSigned}
use Rattle.std.proofs.lemmas.Int.{to_z-of_z}
use mir.Syntax.{w64}
use Rattle.std.specs.Prelude.{pos, Some, None}
use Rattle.heyvl_num.specs.Rounding.{whole}
use Rattle.heyvl_num.specs.Exact.{exact_product}
use Rattle.linear_elim.specs.ChoiceNumbers.{added, sum_without}
use Rattle.linear_elim.proofs.EndRuns.{sum_none_is, term_at, term_skipped, term_added, sum_end}
use Rattle.linear_elim.proofs.ends.sum_without.Goals as goal
use Rattle.linear_elim.proofs.ends.sum_without.Goals.{then-v-x+in_ok-sum, else-v-x}

pub loop-v-init : goal.loop-v-init
loop-v-init c =
    let f : FitsSigned w64 c.row.inside.rest = search rules in
    ap₂ (λ ts s. sum_without c.args.x c.args.chosen.now ts (Some s)) (c.deref-v-items.ensures.value ∙ ap (λ r. r.terms) c.row.view_is) (c.whole_of-sum.ensures ∙ ap whole (to_z-of_z w64 c.row.inside.rest f ∙ ap (λ r. r.rest) c.row.view_is))

pub returns-in_err-sum : goal.returns-in_err-sum
returns-in_err-sum c =
    let f : FitsSigned w64 (get_or c.deref-v-items.result.now c.loop-v.v-index (0, pos 0)).1 = search rules in
    c.from_residual.ensures ∙ sym (sum_none_is c.args.x c.args.chosen.now _) ∙ term_added c.args.x c.args.chosen.now c.deref-v-items.result.now c.loop-v.v-index _ c.loop-v.sum _ None (term_at _ _ (0, pos 0) c.loop-v-test.true) c.if-v-x.true (sym c.in_err-sum.was ∙ c.with_term.ensures ∙ ap₂ (λ a b. added (Some c.loop-v.sum) (exact_product a b)) (ap whole (to_z-of_z w64 _ f)) c.value_of-value.ensures) c.loop-v.invariant

pub loop-v-preserved : goal.loop-v-preserved
loop-v-preserved c =
    elim c.if-v-x.branch [
      | then-v-x+in_ok-sum w ↦
          let f : FitsSigned w64 (get_or c.deref-v-items.result.now c.loop-v.v-index (0, pos 0)).1 = search rules in
          term_added c.args.x c.args.chosen.now c.deref-v-items.result.now c.loop-v.v-index _ c.loop-v.sum _ (Some c.if-v-x.sum) (term_at _ _ (0, pos 0) c.loop-v-test.true) w.if-v-x.true (ap (λ s. Some s) w.sum-is ∙ sym w.in_ok-sum.was ∙ w.with_term.ensures ∙ ap₂ (λ a b. added (Some c.loop-v.sum) (exact_product a b)) (ap whole (to_z-of_z w64 _ f)) w.value_of-value.ensures) c.loop-v.invariant
      | else-v-x w ↦ ap (λ s. sum_without c.args.x c.args.chosen.now (drop (c.loop-v.v-index + 1) c.deref-v-items.result.now) (Some s)) w.sum-is ∙ term_skipped c.args.x c.args.chosen.now c.deref-v-items.result.now c.loop-v.v-index _ c.loop-v.sum _ (term_at _ _ (0, pos 0) c.loop-v-test.true) w.if-v-x.false c.loop-v.invariant
    ]

pub returns : goal.returns
returns c = sum_end c.args.x c.args.chosen.now c.deref-v-items.result.now c.loop-v.v-index c.loop-v.sum _ c.loop-v-test.false c.loop-v.invariant
