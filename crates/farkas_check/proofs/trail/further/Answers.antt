use Rattle.std.proofs.Common.{refl, ◌∙◌}
use Rattle.heylo_formula.specs.Goals.{goal_of}
use Rattle.farkas_check.proofs.TrailSteps.{longer_path, still_lost, lost_now, more_stated}
use Rattle.farkas_check.proofs.trail.further.Goals as goal

pub last_rows-requires : goal.last_rows-requires
last_rows-requires c = longer_path (goal_of c.args.goal.now) c.args.trail c.deref.result.now c.args.answer (c.deref.ensures.value ∙ c.in_ok-push.ensures.items) c.requires.path

pub returns-then-not-trail : goal.returns-then-not-trail
returns-then-not-trail c = still_lost (goal_of c.args.goal.now) c.args.trail _ c.args.answer c.requires.rows c.if-not-trail.true c.in_ok-push.ensures.items refl refl

pub returns-in_ok-append-in-Rows : goal.returns-in_ok-append-in-Rows
returns-in_ok-append-in-Rows c = more_stated (goal_of c.args.goal.now) c.args.trail _ c.deref.result.now c.args.answer _ c.in-Rows.more c.requires.rows c.if-not-trail.false c.in_ok-more.ensures (c.deref.ensures.value ∙ c.in_ok-push.ensures.items) c.in-Rows.is c.in_ok-push.ensures.items c.in_ok-append-in-Rows.ensures.items c.if-not-trail.false

pub returns-in-Bits : goal.returns-in-Bits
returns-in-Bits c = lost_now (goal_of c.args.goal.now) c.args.trail _ c.deref.result.now c.args.answer _ c.requires.rows c.if-not-trail.false c.in_ok-more.ensures (c.deref.ensures.value ∙ c.in_ok-push.ensures.items) c.in-Bits.is c.in_ok-push.ensures.items refl refl
