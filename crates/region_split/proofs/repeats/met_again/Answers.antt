use Rattle.std.proofs.Common.{◌≡◌, length, refl, subst, arith}
use Rattle.std.proofs.lemmas.List.{length-map}
use Rattle.heylo_formula.specs.Goals.{goal_of}
use Rattle.linear_form.specs.PlainPaths.{path_of, atom_of, taken_of}
use Rattle.region_split.specs.internal.KnownComparisons.{IsRecalled}
use Rattle.region_split.specs.internal.Repeats.{IsAsked}
use Rattle.region_split.proofs.Trails.{stands_still}
use Rattle.region_split.proofs.WalkMoves.{taken}
use Rattle.region_split.proofs.AnsweredBefore.{rows_few, question_path}
use Rattle.region_split.proofs.repeats.met_again.Goals as goal

pub again-requires-clause-few : goal.again-requires-clause-few
again-requires-clause-few c =
    let b = rows_few (goal_of c.args.goal.now) (path_of c.args.trail.now.path.items) c.args.trail.now.rows.items c.requires.stands.rows in
    let e = length-map c.args.trail.now.path.items taken_of in
    let s = c.requires.short in
    omega (arith, b, e, s)

pub again-requires-clause-inside : goal.again-requires-clause-inside
again-requires-clause-inside c =
    let g = goal_of c.args.goal.now in
    let r = rw c.in-Some.is at (c.recall.ensures.recalled g.types (atom_of c.args.atom) c.requires.stands.known c.requires.number) in
    (subst (λ rows. IsRecalled g.types rows (atom_of c.args.atom) c.in-Some.recalled) c.deref.ensures.value r).inside

pub returns-in-Some : goal.returns-in-Some
returns-in-Some c =
    let g = goal_of c.args.goal.now in
    let ps = path_of c.args.trail.now.path.items in
    let q = atom_of c.args.atom in
    let m = c.len.ensures in
    let o = c.args.trail.now.path.ok.0 in
    let e = length-map c.args.trail.now.path.items taken_of in
    let n : length ps ≡ c.len.result = omega (arith, m, o, e) in
    let t = c.if-lasts.true in
    let f : IsAsked g ps q = record {
      goes_on = c.requires.goes_on;
      lasts = λ held. c.asks_on-lasts.ensures g ps (taken q held) t n c.requires.on (question_path g ps q held c.requires.path c.requires.goes_on);
    } in
    let r = rw c.in-Some.is at (c.recall.ensures.recalled g.types q c.requires.stands.known c.requires.number) in
    c.again.ensures g ps f (stands_still g c.args.trail.now _ c.requires.stands refl refl refl refl refl (c.recall.ensures.known g.types c.requires.stands.known)) (subst (λ rows. IsRecalled g.types rows q c.in-Some.recalled) c.deref.ensures.value r)

pub returns-in_default : goal.returns-in_default
returns-in_default c = let g = goal_of c.args.goal.now in (refl, stands_still g c.args.trail.now _ c.requires.stands refl refl refl refl refl (c.recall.ensures.known g.types c.requires.stands.known))
