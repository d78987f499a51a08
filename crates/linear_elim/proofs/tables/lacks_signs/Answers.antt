use Rattle.std.proofs.Common.{subst, sym, drop}
use Rattle.std.specs.List.{All}
use Rattle.std.proofs.lemmas.List.{drop_more}
use Rattle.std.proofs.lemmas.List.Elements.{All-nil, All-cons}
use Rattle.linear_elim.specs.internal.CountedRows.{Lacks}
use Rattle.linear_elim.specs.internal.Signless.{sign_terms}
use Rattle.linear_elim.proofs.JoinSequences.{rest_end}
use Rattle.linear_elim.proofs.tables.lacks_signs.Goals as goal

pub loop-i-preserved : goal.loop-i-preserved
loop-i-preserved c = λ f h. c.loop-i.invariant f (subst (All (λ x. Lacks f c.args.table.now (sign_terms x))) (sym (drop_more c.args.variables.now c.loop-i.i _ c.loop-i-test.true)) (All-cons (λ x. Lacks f c.args.table.now (sign_terms x)) _ (drop _ c.args.variables.now) (c.lacks.ensures c.if-not-lacks.false f _ c.sign_number.ensures) h))

pub returns : goal.returns
returns c = λ e f. c.loop-i.invariant f (subst (All (λ x. Lacks f c.args.table.now (sign_terms x))) (sym (rest_end c.args.variables.now c.loop-i.i c.loop-i-test.false)) (All-nil _))
