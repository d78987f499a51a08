use Rattle.std.proofs.Common.{ap, arith, refl, sym, ◌∙◌}
use Rattle.heyvl_acts.specs.declared.typed_trees.VarInfo.{VarInfo}
use Rattle.loop_encodings.specs.Encoding.{read}
use Rattle.loop_encodings.proofs.CallSteps.{gets_step, gets_end}
use Rattle.loop_encodings.proofs.calls.add_gets.Goals as goal

pub loop-i-preserved : goal.loop-i-preserved
loop-i-preserved c = (omega arith, gets_step c.args.span c.args.first c.args.targets.now c.args.all.now c.loop-i.i c.loop-i.x _ c.index-all-i.result c.read.result c.args.made.now.items c.loop-i.made.items c.push.new.self.items c.loop-i.invariant.1 c.in_ok-push.ensures.items (c.read.ensures ∙ sym (ap (λ (v : VarInfo). read c.loop-i.x v.ty) c.index-all-i.is)) c.loop-i-test.true (omega arith) refl c.index-all-i.is)

pub returns : goal.returns
returns c = gets_end c.args.span c.args.first c.args.targets.now c.args.all.now c.loop-i.i c.loop-i.x c.args.made.now.items c.loop-i.made.items c.loop-i.invariant.1 c.loop-i-test.false
