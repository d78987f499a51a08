use Rattle.heylo_formula.specs.PlainTrees.{form_of}
use Rattle.heylo_formula.specs.Shifts.{shifted}
use Rattle.heyvl_acts.specs.Acts.{Act, Acts}
use Rattle.k_induction.specs.Copies.{must}
use Rattle.loop_encodings.proofs.AppendedActs.{one_more}
use Rattle.loop_encodings.proofs.CallSteps.{check_made}
use Rattle.loop_encodings.proofs.calls.add_entry.Goals as goal
use Rattle.std.proofs.Common.{◌∙◌}

pub returns : goal.returns
returns c = λ rest. one_more _ c.push.new.self.items _ (Act.check (must c.args.up) (shifted c.args.first (form_of c.args.callee.now.pre)) c.args.span) rest c.in_ok-push.ensures.items (check_made _ _ _ _ _ c.must.ensures c.in_ok-pre.ensures) ∙ c.in_ok-add_sets.ensures (Acts.next (Act.check (must c.args.up) (shifted c.args.first (form_of c.args.callee.now.pre)) c.args.span) rest)
