use Rattle.std.proofs.Common.{sym, ap, ◌∙◌}
use Rattle.linear_elim.specs.internal.CountedRows.{print_of, terms_at}
use Rattle.linear_elim.proofs.CountedTerms.{taken_at, other_at, others_more}
use Rattle.linear_elim.proofs.tables.place_of.Goals as goal
use Rattle.linear_elim.proofs.tables.place_of.Goals.{then-found-print+else-place-names-2+in_ok-name_alike+in-Some-false, else-found-print}

pub returns-in-Some-true : goal.returns-in-Some-true
returns-in-Some-true c =
    let k = rw c.in-Some-true.is at c.in_ok-name_alike.ensures in
    taken_at (terms_at c.args.step.now c.args.kept.now) c.args.table.now _ _ _ c.loop-place.place _ _ c.deref-prints.ensures.value c.deref-names.ensures.value c.if-place-names-2.false c.if-found-eq0.false k c.in-Some-true.field-0-test

pub loop-place-preserved : goal.loop-place-preserved
loop-place-preserved c = elim c.if-found-print.branch [
  | then-found-print+else-place-names-2+in_ok-name_alike+in-Some-false w ↦
      let k = rw w.in-Some-false.is at w.in_ok-name_alike.ensures in
      others_more (terms_at c.args.step.now c.args.kept.now) c.deref-prints.result.now c.deref-names.result.now (terms_at c.args.step.now c.args.kept.now c.args.name) _ c.loop-place.place c.loop-place.invariant (other_at (terms_at c.args.step.now c.args.kept.now) c.deref-prints.result.now c.deref-names.result.now _ c.loop-place.place _ _ w.if-place-names-2.false c.if-found-eq0.false k w.in-Some-false.field-0-test)
  | else-found-print w ↦ others_more (terms_at c.args.step.now c.args.kept.now) c.deref-prints.result.now c.deref-names.result.now (terms_at c.args.step.now c.args.kept.now c.args.name) _ c.loop-place.place c.loop-place.invariant (c.if-found-eq0.false, λ q m. w.if-found-print.false (q ∙ sym (c.print_of-print.ensures ∙ ap print_of c.requires.number)))
]
