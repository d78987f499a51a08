use Rattle.std.proofs.Common.{ap, rules, ◌∙◌}
use Rattle.linear_form.specs.internal.PlainParts.{outcome_of, part_of, work_of}
use Rattle.linear_form.proofs.PlainPartsAre.{known_work}
use Rattle.linear_form.proofs.ReadyParts.{came_tells, known_asks, known_kept, stop_tells, tells_stopped}
use Rattle.linear_form.proofs.ready_parts.both.Goals as goal

pub returns-in_err-outcome-in-Known-Known : goal.returns-in_err-outcome-in-Known-Known
returns-in_err-outcome-in-Known-Known c =
    let e = ap work_of c.in-Known-Known.is-0 ∙ known_work c.in-Known-Known.x in
    let f = ap work_of c.in-Known-Known.is-1 ∙ known_work c.in-Known-Known.y in
    tells_stopped c.args.operation.now (part_of c.args.first.now) (part_of c.args.second.now) c.from_residual.result _ (search rules) (stop_tells c.args.operation.now (part_of c.args.first.now) (part_of c.args.second.now) (outcome_of c.in-Known-Known.x) (outcome_of c.in-Known-Known.y) c.in_err-outcome-in-Known-Known.field-0.0 (known_asks c.args.first.now _ e) (known_asks c.args.second.now _ f) c.in_err-outcome-in-Known-Known.ensures)

pub returns-then-has_room : goal.returns-then-has_room
returns-then-has_room c =
    let e = ap work_of c.in-Known-Known.is-0 ∙ known_work c.in-Known-Known.x in
    let f = ap work_of c.in-Known-Known.is-1 ∙ known_work c.in-Known-Known.y in
    came_tells c.args.operation.now (part_of c.args.first.now) (part_of c.args.second.now) (outcome_of c.in-Known-Known.x) (outcome_of c.in-Known-Known.y) c.in_ok-outcome-in-Known-Known.field-0 (known_asks c.args.first.now _ e) (known_asks c.args.second.now _ f) (known_kept c.args.first.now _ e c.requires.first) (known_kept c.args.second.now _ f c.requires.second) c.in_ok-outcome-in-Known-Known.ensures
