use Rattle.std.proofs.Common.{rules, ◌∙◌, get_or, FitsSigned}
use Rattle.std.proofs.lemmas.Int.{to_z-of_z}
use mir.Syntax.{w64, w128}
use Rattle.std.specs.Prelude.{pos}
use Rattle.linear_guess.specs.Spots.{top_at}
use Rattle.linear_guess.proofs.SpotRows.{terms_start, terms_next, terms_end}
use Rattle.linear_guess.proofs.spots.terms_at.Goals as goal

pub loop-x-init : goal.loop-x-init
loop-x-init c = terms_start (top_at c.args.tops.now) c.args.terms.now

pub loop-x-preserved : goal.loop-x-preserved
loop-x-preserved c =
    let f : FitsSigned w64 (get_or c.args.terms.now c.loop-x.x-index (0, pos 0)).1 = search rules in
    let g : FitsSigned w128 c.in-Some.next = search rules in
    terms_next (top_at c.args.tops.now) c.args.terms.now c.loop-x.x-index (0, pos 0) _ _ _ c.loop-x-test.true c.loop-x.invariant (to_z-of_z w64 _ f) (to_z-of_z w128 c.in-Some.next g ∙ c.in-Some.ensures)

pub returns : goal.returns
returns c = terms_end (top_at c.args.tops.now) c.args.terms.now c.loop-x.x-index _ c.loop-x-test.false c.loop-x.invariant
