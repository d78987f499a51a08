use Rattle.std.proofs.Common.{refl, subst, sym, length, get_or, ◌<◌}
use Rattle.heyvl_acts.specs.Acts.{types_of}
use Rattle.heyvl_acts.specs.PlainActs.{procedure_of}
use Rattle.loop_encodings.proofs.CallSteps.{havocs_step, havocs_end}
use Rattle.loop_encodings.proofs.OwnVariables.{grow_below, own_type}
use Rattle.loop_encodings.proofs.loops.add_havocs.Goals as goal

pub index-requires : goal.index-requires
index-requires c = subst (λ n. get_or c.args.found.now c.loop-x.x-index 0 < n) (sym c.args.procedure.now.vars.ok.0) (grow_below 0 (length c.args.procedure.now.vars.items) c.args.found.now c.loop-x.x-index _ c.requires c.loop-x-test.true refl)

pub loop-x-preserved : goal.loop-x-preserved
loop-x-preserved c = havocs_step c.args.procedure.now.co c.args.span (types_of (procedure_of c.args.procedure.now)) c.args.found.now c.loop-x.x-index _ c.index.result.now.ty c.args.made.now.items c.loop-x.made.items c.push.new.self.items c.loop-x.invariant c.in_ok-push.ensures.items (own_type c.args.procedure.now _ c.index.result.now (grow_below 0 _ c.args.found.now c.loop-x.x-index _ c.requires c.loop-x-test.true refl) c.index.ensures) c.loop-x-test.true refl

pub returns : goal.returns
returns c = havocs_end c.args.procedure.now.co c.args.span (types_of (procedure_of c.args.procedure.now)) c.args.found.now c.loop-x.x-index c.args.made.now.items c.loop-x.made.items c.loop-x.invariant c.loop-x-test.false
