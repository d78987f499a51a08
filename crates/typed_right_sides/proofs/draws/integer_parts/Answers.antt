use Rattle.heylo_formula.specs.PlainTrees.{term_of}
use Rattle.typed_right_sides.proofs.IntegerParts.{parts_next}
use Rattle.typed_right_sides.proofs.draws.integer_parts.Goals as goal
use Rattle.static_rules.specs.StatementActs.{whole_term}
use Rattle.std.proofs.Common.{ap, arith, of_z, pos, to_z, ◌∙◌, ◌<◌, ◌≡◌}
use Rattle.std.proofs.lemmas.Int.{ints}
use Rattle.std.specs.Int.{w128}
use Rattle.std.specs.Prelude.{◌+ℤ◌}

pub loop-step-preserved : goal.loop-step-preserved
loop-step-preserved c =
    let lt : c.loop-step.step < c.args.count = omega arith in
    let i : term_of c.whole_term.result ≡ whole_term (to_z w128 (of_z w128 c.args.low) +ℤ pos c.loop-step.step) = c.whole_term.ensures ∙ ap whole_term (omega (arith, ints)) in
    parts_next _ _ c.args.weight (to_z w128 (of_z w128 c.args.low)) c.loop-step.step c.args.count c.whole_term.result _ lt c.loop-step.invariant i c.in_ok-push.ensures.items
