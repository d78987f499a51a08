use Rattle.std.proofs.Common.{◌∙◌, refl, arith, length}
use Rattle.heylo_formula.specs.PlainTrees.{form_of}
use Rattle.heylo_formula.proofs.exported.Shifts.{extent_over}
use Rattle.lower_goals.proofs.PlacedForms.{shifted_is}
use Rattle.lower_goals.proofs.Positions.{all_moved, move_more}
use Rattle.lower_goals.proofs.placed_forms.placed.Goals as goal

pub shifted-requires : goal.shifted-requires
shifted-requires c = let e = extent_over (length c.args.places.now) (form_of c.args.form.now) c.requires.plain c.requires.over in let f = c.requires.few in omega (arith, e, f)

pub loop-position-init : goal.loop-position-init
loop-position-init c = c.in_ok-made.ensures ∙ shifted_is 1000 0 (form_of c.args.form.now) c.requires.plain

pub loop-position-preserved : goal.loop-position-preserved
loop-position-preserved c = move_more 1000 c.args.places.now c.loop-position.position _ _ (form_of c.args.form.now) _ _ c.requires.plain c.requires.near c.loop-position-test.true refl refl c.loop-position.invariant c.in_ok-made-2.ensures

pub returns : goal.returns
returns c = all_moved 1000 c.args.places.now c.loop-position.position (form_of c.args.form.now) _ c.requires.plain c.requires.over c.loop-position-test.false c.loop-position.invariant
