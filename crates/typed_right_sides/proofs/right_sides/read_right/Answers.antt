use Rattle.typed_right_sides.proofs.RightRules.{call_gives, choose_gives}
use Rattle.typed_right_sides.proofs.right_sides.read_right.Goals as goal

pub returns-in-Choose : goal.returns-in-Choose
returns-in-Choose c = choose_gives c.read_choose.result c.args.co c.args.calls.now c.args.next c.args.scope.now c.args.targets c.args.right.now c.deref.result.now c.in-Choose.all c.args.span c.in-Choose.is c.deref.ensures.value c.read_choose.ensures

pub returns-in-Call : goal.returns-in-Call
returns-in-Call c = call_gives c.read_call.result c.args.co c.args.calls.now c.args.next c.args.scope.now c.args.targets c.args.right.now c.in-Call.name c.deref-in-Call.result.now c.in-Call.arguments c.args.span c.in-Call.is c.deref-in-Call.ensures.value c.read_call.ensures
