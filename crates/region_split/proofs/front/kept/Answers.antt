use Rattle.std.proofs.Common.{sym, subst}
use Rattle.heylo_formula.specs.Goals.{goal_of}
use Rattle.linear_form.specs.AskAnswers.{Answers}
use Rattle.linear_form.specs.Paths.{IsPath, end_at}
use Rattle.linear_form.specs.PlainPaths.{path_of}
use Rattle.linear_form.specs.Places.{IsOn}
use Rattle.region_split.specs.internal.Trails.{ArePlaces}
use Rattle.region_split.proofs.PathAnswers.{bits_there, question_there}
use Rattle.region_split.proofs.Steps.{here}
use Rattle.region_split.proofs.front.kept.Goals as goal

pub reached-requires-clause-path : goal.reached-requires-clause-path
reached-requires-clause-path c = subst (λ xs. IsPath (goal_of c.args.goal.now) (path_of xs)) (sym c.deref.ensures.value) c.requires.path

pub reached-requires-clause-places : goal.reached-requires-clause-places
reached-requires-clause-places c = subst (λ xs. ArePlaces (goal_of c.args.goal.now) (path_of xs) c.deref-2.result.now) (sym c.deref.ensures.value) (subst (λ ys. ArePlaces (goal_of c.args.goal.now) (path_of c.args.trail.now.path.items) ys) (sym c.deref-2.ensures.value) c.requires.stands.places)

pub returns-in-Bits : goal.returns-in-Bits
returns-in-Bits c k =
    let g = goal_of c.args.goal.now in
    let a = subst (λ xs. Answers c.in_ok-ask.field-0.ask (end_at g (path_of xs))) c.deref.ensures.value c.in_ok-ask.ensures.asked in
    bits_there g (path_of c.args.trail.now.path.items) k (rw c.in-Bits.is at a)

pub returns-in-Decide : goal.returns-in-Decide
returns-in-Decide c k =
    let g = goal_of c.args.goal.now in
    let a = subst (λ xs. Answers c.in_ok-ask.field-0.ask (end_at g (path_of xs))) c.deref.ensures.value c.in_ok-ask.ensures.asked in
    let o = subst (λ xs. IsOn g (path_of xs) c.in_ok-ask.field-0.place) c.deref.ensures.value c.in_ok-ask.ensures.on in
    (here g c.args.trail.now c.requires.stands, (question_there g (path_of c.args.trail.now.path.items) c.in-Decide.atom k (rw c.in-Decide.is at a), o))

pub returns-in-End : goal.returns-in-End
returns-in-End c k =
    let g = goal_of c.args.goal.now in
    let a = subst (λ xs. Answers c.in_ok-ask.field-0.ask (end_at g (path_of xs))) c.deref.ensures.value c.in_ok-ask.ensures.asked in
    (here g c.args.trail.now c.requires.stands, c.end_of.ensures (path_of c.args.trail.now.path.items) k (rw c.in-End.is at a))
