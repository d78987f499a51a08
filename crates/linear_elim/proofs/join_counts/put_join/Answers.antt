use Rattle.std.proofs.Common.{◌≡◌, sym, ap, subst, ◌∙◌}
use Rattle.std.specs.Prelude.{IfOk, IfSome, true}
use Rattle.linear_elim.specs.internal.CountedRows.{terms_at, Puts}
use Rattle.linear_elim.specs.internal.Fingerprints.{fingerprint}
use Rattle.linear_elim.proofs.CountedTerms.{join_named}
use Rattle.linear_elim.proofs.join_counts.put_join.Goals as goal

pub put-requires-clause-number : goal.put-requires-clause-number
put-requires-clause-number c = c.requires.number ∙ ap fingerprint (join_named c.args.step.now c.args.kept.now c.in-Some.name c.args.i c.args.j c.in-Some.ensures.low c.in-Some.ensures.up c.requires.low_within)

pub put-requires-clause-terms : goal.put-requires-clause-terms
put-requires-clause-terms c = subst (λ t. IfSome c.args.terms (λ ts. ts.now ≡ t)) (join_named c.args.step.now c.args.kept.now c.in-Some.name c.args.i c.args.j c.in-Some.ensures.low c.in-Some.ensures.up c.requires.low_within) c.requires.terms

pub returns : goal.returns
returns c = subst (λ t. IfOk c.put.result (λ b. b ≡ true → Puts (terms_at c.args.step.now c.args.kept.now) c.args.table.now c.put.new.table t)) (sym (join_named c.args.step.now c.args.kept.now c.in-Some.name c.args.i c.args.j c.in-Some.ensures.low c.in-Some.ensures.up c.requires.low_within)) c.put.ensures
