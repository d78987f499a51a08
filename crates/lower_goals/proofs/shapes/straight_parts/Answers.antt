use Rattle.std.proofs.Common.{◌∙◌, ◌&&◌, sym, ap}
use Rattle.heyvl_acts.proofs.exported.PlainActsAre.{head_of}
use Rattle.heyvl_acts.specs.Places.{in_order}
use Rattle.heyvl_acts.specs.PlainActs.{acts_of}
use Rattle.lower_goals.specs.internal.Shapes.{all_straight}
use Rattle.lower_goals.proofs.LentLoops.{is_no_loop, is_one_loop}
use Rattle.lower_goals.proofs.shapes.straight_parts.Goals as goal

pub returns-then-three_straight : goal.returns-then-three_straight
returns-then-three_straight c = λ p e n w program. is_one_loop p (acts_of c.args.front.now) (head_of c.args.one.now) (acts_of c.args.one.now.body.items) (acts_of c.args.behind.now) e n w program (sym (c.three_straight.ensures ∙ ap (λ l. all_straight (in_order (acts_of c.args.front.now)) && (all_straight (in_order (acts_of l)) && all_straight (in_order (acts_of c.args.behind.now)))) c.deref.ensures.value) ∙ c.if-three_straight.true)

pub returns-else-three_straight : goal.returns-else-three_straight
returns-else-three_straight c = λ p e n w program. is_no_loop p (acts_of c.args.front.now) (head_of c.args.one.now) (acts_of c.args.one.now.body.items) (acts_of c.args.behind.now) e n w program (sym (c.three_straight.ensures ∙ ap (λ l. all_straight (in_order (acts_of c.args.front.now)) && (all_straight (in_order (acts_of l)) && all_straight (in_order (acts_of c.args.behind.now)))) c.deref.ensures.value) ∙ c.if-three_straight.false)
