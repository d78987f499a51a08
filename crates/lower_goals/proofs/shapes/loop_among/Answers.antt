use Rattle.std.proofs.Common.{◌∙◌, subst}
use Rattle.std.proofs.lemmas.List.{take_all}
use Rattle.heyvl_acts.proofs.exported.PlainActsAre.{head_of}
use Rattle.heyvl_acts.specs.PlainActs.{acts_of}
use Rattle.lower_goals.specs.internal.Shapes.{HasNoLoop}
use Rattle.lower_goals.proofs.LentLoops.{none_at_all, none_before, lent_loop}
use Rattle.lower_goals.proofs.shapes.loop_among.Goals as goal

pub loop-place-preserved : goal.loop-place-preserved
loop-place-preserved c = none_before c.args.acts.now c.loop-place.place c.index-acts-place.result c.loop-place-test.true c.index-acts-place.is c.loop-place.invariant c.in_default.ensures

pub returns-in-Some : goal.returns-in-Some
returns-in-Some c = λ p e w program. c.straight_parts.ensures p (e ∙ lent_loop c.args.acts.now c.loop-place.place c.index-acts-place.result (head_of c.in-Some.one.now) (acts_of c.in-Some.one.now.body.items) c.loop-place-test.true c.index-acts-place.is c.in-Some.ensures) c.loop-place.invariant w program

pub returns : goal.returns
returns c = λ p e w program l. none_at_all p (acts_of c.args.acts.now) e (subst (λ x. HasNoLoop (acts_of x)) (take_all c.loop-place.place c.args.acts.now c.loop-place-test.false) c.loop-place.invariant) l
