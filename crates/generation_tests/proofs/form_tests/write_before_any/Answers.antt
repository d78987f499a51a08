use Rattle.std.proofs.Common.{arith, sym, subst}
use Rattle.heyvl_acts.specs.PlainActs.{acts_of}
use Rattle.heyvl_acts.specs.WellTypedActs.{ActsFit}
use Rattle.generation_tests.specs.BooleanActs.{bools}
use Rattle.generation_tests.proofs.BooleanForms.{follows}
use Rattle.generation_tests.proofs.form_tests.write_before_any.Goals as goal

pub write_form-requires-clause-post : goal.write_form-requires-clause-post
write_form-requires-clause-post c = follows (acts_of c.deref.result.now) c.same.new.graph c.in_ok-post.post (subst (λ l. ActsFit bools (acts_of l)) (sym c.deref.ensures.value) c.in_ok-acts.ensures) c.in_ok-post.ensures

pub write_form-requires-clause-plain : goal.write_form-requires-clause-plain
write_form-requires-clause-plain c = λ h. absurd (omega (arith, h))
