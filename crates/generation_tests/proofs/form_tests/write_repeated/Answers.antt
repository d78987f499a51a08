use Rattle.std.proofs.Common.{sym, subst}
use Rattle.heyvl_acts.specs.PlainActs.{acts_of}
use Rattle.heyvl_acts.specs.WellTypedActs.{ActsFit}
use Rattle.vp_generator.specs.GraphAnswers.{HaveNoAny}
use Rattle.generation_tests.specs.BooleanActs.{bools}
use Rattle.generation_tests.proofs.BooleanForms.{follows, no_binder}
use Rattle.generation_tests.proofs.form_tests.write_repeated.Goals as goal

pub write_form-requires-clause-post : goal.write_form-requires-clause-post
write_form-requires-clause-post c = follows (acts_of c.deref.result.now) c.holds.new.graph c.in_ok-post.post (subst (λ l. ActsFit bools (acts_of l)) (sym c.deref.ensures.value) c.in_ok-acts.ensures.fit) c.in_ok-post.ensures

pub write_form-requires-clause-plain : goal.write_form-requires-clause-plain
write_form-requires-clause-plain c = λ h. no_binder (acts_of c.deref.result.now) c.holds.new.graph c.in_ok-post.post (subst (λ l. HaveNoAny (acts_of l)) (sym c.deref.ensures.value) c.in_ok-acts.ensures.calm) c.in_ok-post.ensures
