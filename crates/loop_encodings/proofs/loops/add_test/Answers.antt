use Rattle.std.proofs.Common.{ap, ◌∙◌}
use Rattle.heylo_formula.specs.PlainTrees.{cond_of, form_of}
use Rattle.heyvl_acts.specs.Acts.{Act}
use Rattle.heyvl_acts.proofs.exported.PlainActsAre.{validate_act}
use Rattle.k_induction.specs.Copies.{if_holds}
use Rattle.loop_encodings.proofs.CallSteps.{three_made}
use Rattle.loop_encodings.proofs.loops.add_test.Goals as goal

pub returns : goal.returns
returns c = three_made c.args.made.now.items _ _ _ _ _ _ _ _ _ c.in_ok-push.ensures.items c.in_ok-push-2.ensures.items c.in_ok-push-3.ensures.items (validate_act _ _) (c.in_ok-stated.ensures ∙ ap (λ kind. Act.check kind (form_of c.args.one.now.inv) c.args.one.now.span) c.may.ensures) (c.in_ok-if_holds.ensures ∙ ap (λ acts. if_holds c.args.one.now.span (cond_of c.args.one.now.guard) acts) c.in_ok-copies.ensures)
