use Rattle.std.proofs.Common.{◌++◌, [], ◌∷◌, ap, ◌∙◌, rules}
use Rattle.heyvl_num.specs.Rational.{◌+ʳ◌}
use Rattle.linear_values.specs.Lin.{unless_zero}
use Rattle.linear_rows.specs.Numbers.{fits}
use Rattle.linear_values.proofs.MergedTerms.{first_fits, signed_fits, right_first, left_first, both_first, left_alone}
use Rattle.linear_values.proofs.linear_terms.merged.Goals as goal

pub terms-preserved-in-None : goal.terms-preserved-in-None
terms-preserved-in-None c = left_alone c.args.downward c.args.from.now c.args.into.now c.terms.made.items c.push.new.self.items c.terms.left.now c.in-Some.others.now c.terms.right.now c.in-Some.term.now (search rules) c.terms.invariant c.in-None.ensures.cases (c.in_ok-push-in-None.ensures.items ∙ ap (λ s. c.terms.made.items ++ ((c.in-Some.term.now.0, s) ∷ [])) c.signed-new.ensures)

pub terms-preserved-then-old-x : goal.terms-preserved-then-old-x
terms-preserved-then-old-x c = right_first c.args.downward c.args.from.now c.args.into.now c.terms.made.items c.push-then-old-x.new.self.items c.terms.left.now c.in-Some.others.now c.terms.right.now c.in-Some.term.now (search rules) c.terms.invariant c.in-Some-split_first.further.now c.in-Some-split_first.old.now (search rules) c.if-old-x.true c.in_ok-push-in-Some-split_first.ensures.items

pub terms-preserved-then-x-old : goal.terms-preserved-then-x-old
terms-preserved-then-x-old c = left_first c.args.downward c.args.from.now c.args.into.now c.terms.made.items c.push-then-x-old.new.self.items c.terms.left.now c.in-Some.others.now c.terms.right.now c.in-Some.term.now (search rules) c.terms.invariant c.in-Some-split_first.further.now c.in-Some-split_first.old.now (search rules) c.if-x-old.true (c.in_ok-push-in-Some-split_first-2.ensures.items ∙ ap (λ s. c.terms.made.items ++ ((c.in-Some.term.now.0, s) ∷ [])) c.signed-new.ensures)

pub sum-requires-clause-right : goal.sum-requires-clause-right
sum-requires-clause-right c = ap fits c.signed-new.ensures ∙ signed_fits c.args.downward c.in-Some.term.now.1 (first_fits c.args.downward c.args.from.now c.args.into.now c.terms.made.items c.terms.made.items c.terms.left.now c.in-Some.others.now c.terms.right.now c.in-Some.term.now (search rules) c.terms.invariant)

pub terms-preserved : goal.terms-preserved
terms-preserved c = both_first c.args.downward c.args.from.now c.args.into.now c.terms.made.items c.push_term.new.made.items c.terms.left.now c.in-Some.others.now c.terms.right.now c.in-Some.term.now (search rules) c.terms.invariant c.in-Some-split_first.further.now c.in-Some-split_first.old.now (search rules) c.if-old-x.false c.if-x-old.false (c.in_ok-push_term-in-Some-split_first.ensures ∙ ap (λ s. c.terms.made.items ++ unless_zero c.in-Some.term.now.0 s []) (c.sum.ensures ∙ ap (λ s. c.in-Some-split_first.old.now.1 +ʳ s) c.signed-new.ensures))
