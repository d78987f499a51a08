use Rattle.heylo_formula.specs.Typing.{types_in}
use Rattle.linear_form.proofs.SignClaims.{sign_passed, sign_step}
use Rattle.linear_form.proofs.signs.with_noted_signs.Goals as goal
use Rattle.linear_form.proofs.signs.with_noted_signs.Goals.{in-None, in-Some+in_ok-sign_row-in-Some+in_ok-push-in-Some}

pub loop-x-preserved : goal.loop-x-preserved
loop-x-preserved c = elim c.match-unsigned_variable.branch [
  | in-None w ↦ rw w.made-is (sign_passed (types_in c.args.types.now) c.args.rows.items c.loop-x.made.items c.loop-x.x c.loop-x.invariant (w.in-None.ensures c.args.rows.items c.requires c.loop-x-test.true))
  | in-Some+in_ok-sign_row-in-Some+in_ok-push-in-Some w ↦ rw w.made-is (sign_step (types_in c.args.types.now) c.args.rows.items c.loop-x.made.items w.push.new.self.items _ c.loop-x.x w.in-Some.variable c.loop-x.invariant (w.in-Some.ensures c.args.rows.items c.requires c.loop-x-test.true) w.in_ok-sign_row-in-Some.ensures w.in_ok-push-in-Some.ensures.items)
]
