use Rattle.std.proofs.lemmas.Result.{IfOk-weaker}
use Rattle.linear_form.proofs.NodeWorks.{part_read, part_missing}
use Rattle.linear_form.proofs.node_work.part_at.Goals as goal

pub returns-in_ok-clone-in-Some : goal.returns-in_ok-clone-in-Some
returns-in_ok-clone-in-Some c = λ ns i t h e. part_read ns t c.args.parts.now c.map_or-index.result i c.in-Some.part.now c.in_ok-clone-in-Some.field-0.value (rw e at c.map_or-index.ensures) c.in-Some.ensures.lookup.3.0 c.in-Some.ensures.lookup.1 c.in_ok-clone-in-Some.ensures.cases h

pub returns-in-None : goal.returns-in-None
returns-in-None c = IfOk-weaker c.unsure.result _ _ (λ p m ns i t h e. part_missing ns t c.args.parts.now c.map_or-index.result i p.value (rw e at c.map_or-index.ensures) c.in-None.ensures.lookup.3 h) c.unsure.ensures
