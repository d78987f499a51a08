use Rattle.std.proofs.Common.{sym, subst}
use Rattle.heylo_formula.specs.Goals.{goal_of}
use Rattle.linear_form.specs.AskAnswers.{Answers}
use Rattle.linear_form.specs.LastingPaths.{IsNoEnd}
use Rattle.linear_form.specs.Paths.{IsPath, end_at}
use Rattle.linear_form.specs.PlainPaths.{path_of}
use Rattle.region_split.specs.internal.Trails.{ArePlaces}
use Rattle.region_split.proofs.Steps.{here}
use Rattle.region_split.proofs.PathAnswers.{dropped_by, bits_undenied, unended_undenied, question_undenied, end_undenied, end_denied}
use Rattle.region_split.proofs.front.dropped.Goals as goal

pub reached-requires-clause-path : goal.reached-requires-clause-path
reached-requires-clause-path c = subst (λ xs. IsPath (goal_of c.args.goal.now) (path_of xs)) (sym c.deref-3.ensures.value) c.requires.path

pub reached-requires-clause-places : goal.reached-requires-clause-places
reached-requires-clause-places c = subst (λ xs. ArePlaces (goal_of c.args.goal.now) (path_of xs) c.deref-4.result.now) (sym c.deref-3.ensures.value) (subst (λ ys. ArePlaces (goal_of c.args.goal.now) (path_of c.args.trail.now.path.items) ys) (sym c.deref-4.ensures.value) c.requires.stands.places)

pub returns-then-surely_lasts : goal.returns-then-surely_lasts
returns-then-surely_lasts c =
    let g = goal_of c.args.goal.now in
    let ps = path_of c.args.trail.now.path.items in
    let a = subst (λ xs. ArePlaces g (path_of xs) c.deref-2.result.now) (sym c.deref.ensures.value) (subst (λ ys. ArePlaces g ps ys) (sym c.deref-2.ensures.value) c.requires.stands.places) in
    let n = c.surely_lasts.ensures g c.if-surely_lasts.true (subst (λ xs. IsPath g (path_of xs)) (sym c.deref.ensures.value) c.requires.path) a in
    (here g c.args.trail.now c.requires.stands, dropped_by g ps _ _ _ (unended_undenied g ps (subst (λ xs. IsNoEnd g (path_of xs)) c.deref.ensures.value n)) c.requires.refuted c.requires.refuted)

pub returns-in-Decide : goal.returns-in-Decide
returns-in-Decide c =
    let g = goal_of c.args.goal.now in
    let ps = path_of c.args.trail.now.path.items in
    let a = subst (λ xs. Answers c.in_ok-ask.field-0.ask (end_at g (path_of xs))) c.deref-3.ensures.value c.in_ok-ask.ensures.asked in
    (here g c.args.trail.now c.requires.stands, dropped_by g ps _ _ _ (question_undenied g ps _ (rw c.in-Decide.is at a)) c.requires.refuted c.requires.refuted)

pub returns-in-Bits : goal.returns-in-Bits
returns-in-Bits c =
    let g = goal_of c.args.goal.now in
    let ps = path_of c.args.trail.now.path.items in
    let a = subst (λ xs. Answers c.in_ok-ask.field-0.ask (end_at g (path_of xs))) c.deref-3.ensures.value c.in_ok-ask.ensures.asked in
    (here g c.args.trail.now c.requires.stands, dropped_by g ps _ _ _ (bits_undenied g ps (rw c.in-Bits.is at a)) c.requires.refuted c.requires.refuted)

pub returns-then-holds_plainly : goal.returns-then-holds_plainly
returns-then-holds_plainly c =
    let g = goal_of c.args.goal.now in
    let ps = path_of c.args.trail.now.path.items in
    let a = subst (λ xs. Answers c.in_ok-ask.field-0.ask (end_at g (path_of xs))) c.deref-3.ensures.value c.in_ok-ask.ensures.asked in
    (here g c.args.trail.now c.requires.stands, dropped_by g ps _ _ _ (end_undenied g ps c.in-End.stated c.in-End.found _ (rw c.in-End.is at a) c.holds_plainly.ensures c.if-holds_plainly.true) c.requires.refuted c.requires.refuted)

pub dropped_end-requires-clause-ends : goal.dropped_end-requires-clause-ends
dropped_end-requires-clause-ends c =
    let g = goal_of c.args.goal.now in
    let a = subst (λ xs. Answers c.in_ok-ask.field-0.ask (end_at g (path_of xs))) c.deref-3.ensures.value c.in_ok-ask.ensures.asked in
    rw c.in-End.is at a

pub dropped_end-requires-clause-denied : goal.dropped_end-requires-clause-denied
dropped_end-requires-clause-denied c =
    let g = goal_of c.args.goal.now in
    let ps = path_of c.args.trail.now.path.items in
    let a = subst (λ xs. Answers c.in_ok-ask.field-0.ask (end_at g (path_of xs))) c.deref-3.ensures.value c.in_ok-ask.ensures.asked in
    end_denied g ps c.in-End.stated c.in-End.found _ (rw c.in-End.is at a) c.holds_plainly.ensures c.if-holds_plainly.false
