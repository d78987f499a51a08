use Rattle.std.proofs.Common.{ap, ap₂, refl, rules, subst, sym, length, true, false, cond, [], ◌∷◌, ◌++◌, ◌-◌, ◌≡◌, ◌∙◌}
use Rattle.std.specs.Prelude.{take}
use Rattle.linear_form.specs.PlainPaths.{atom_of, path_of}
use Rattle.linear_form.specs.Query.Query.{ask, done}
use Rattle.linear_form.specs.internal.EvaluationResults.{Stops}
use Rattle.linear_form.specs.internal.Evaluations.{asked_by, left_at, resumed, weight}
use Rattle.linear_form.specs.internal.Parts.{after_first, after_second, asked}
use Rattle.linear_form.specs.internal.PlainParts.{outcome_of, part_of, work_of}
use Rattle.linear_form.specs.internal.Run.{along}
use Rattle.linear_form.specs.internal.Steps.{IsEnd}
use Rattle.linear_form.specs.internal.Run.Evaluation.{value}
use Rattle.linear_values.specs.PlainValues.{linear_of}
use Rattle.linear_form.specs.declared.places.Focus.TheVariants.{Part}
use Rattle.linear_form.specs.declared.places.Frame.TheVariants.{First, Second}
use Rattle.linear_form.specs.declared.parts.Part as P
use Rattle.linear_form.specs.declared.cursor.Stop.TheVariants.{Bits}
use Rattle.linear_form.proofs.Clones.{same_outcome}
use Rattle.linear_form.proofs.EvaluationRuns.{at_both, at_end, both_ends, here, no_ends, none_last, at_choice, at_first, at_question, at_second, first_done, last_is, left_at_focus, left_popped, ready_pop, stopped, stops_there}
use Rattle.linear_form.proofs.PartsThatWait.{no_first, no_second, no_truth}
use Rattle.linear_form.proofs.PlainPartsAre.{asks_by, asks_work, choice_work, does, large_work, two_work}
use Rattle.linear_form.proofs.Runs.{run_bits, stops_first}
use Rattle.linear_form.proofs.steps.advance.Goals.{then-tested, else-tested, then-holds, else-holds}
use Rattle.linear_form.proofs.steps.advance.Goals as goal

pub returns-in-Large : goal.returns-in-Large
returns-in-Large c = stops_there Bits (path_of c.args.path.now) (asked_by (Part c.in-Part.part)) c.args.place.now.frames.items c.args.place.now c.args.place.now (left_at_focus c.args.place.now (Part c.in-Part.part) c.in-Part.is) (ap (λ q. along (path_of c.args.path.now) q c.args.place.now.at) (asks_by c.in-Part.part.value _ (does c.in-Part.part.value c.deref.result.now _ c.deref.ensures c.in-Large.is ∙ large_work)) ∙ run_bits _ _) refl refl c.requires

pub returns-in_err-tested-in-Asks : goal.returns-in_err-tested-in-Asks
returns-in_err-tested-in-Asks c =
    let e = does c.in-Part.part.value c.deref.result.now _ c.deref.ensures c.in-Asks.is ∙ asks_work c.in-Asks.atom c.in-Asks.yes c.in-Asks.no in
    let k = stops_first c.in_err-tested-in-Asks.field-0.0 (path_of c.args.path.now) (ask (atom_of c.in-Asks.atom.value) (done true) (done false)) (λ b. cond b (asked (part_of c.in-Asks.yes.value)) (asked (part_of c.in-Asks.no.value))) c.args.place.now.at c.in_err-tested-in-Asks.ensures in
    stopped (path_of c.args.path.now) (left_at c.args.place.now) c.args.place.now.at (weight c.args.place.now) c.args.place.now c.from_residual-in_err-tested-in-Asks.result c.in_err-tested-in-Asks.field-0.0 (search rules) (stops_there c.in_err-tested-in-Asks.field-0.0 (path_of c.args.path.now) (asked_by (Part c.in-Part.part)) c.args.place.now.frames.items c.args.place.now c.args.place.now (left_at_focus c.args.place.now (Part c.in-Part.part) c.in-Part.is) (subst (λ q. Stops c.in_err-tested-in-Asks.field-0.0 (along (path_of c.args.path.now) q c.args.place.now.at)) (sym (asks_by c.in-Part.part.value _ e)) k) refl refl c.requires)

pub returns-in_ok-clone-in-Asks : goal.returns-in_ok-clone-in-Asks
returns-in_ok-clone-in-Asks c =
    let e = does c.in-Part.part.value c.deref.result.now _ c.deref.ensures c.in-Asks.is ∙ asks_work c.in-Asks.atom c.in-Asks.yes c.in-Asks.no in
    let r : c.in_ok-clone-in-Asks.field-0.value ≡ cond c.in_ok-tested-in-Asks.tested.holds c.in-Asks.yes.value c.in-Asks.no.value = elim c.if-tested.branch [ then-tested w ↦ c.in_ok-clone-in-Asks.ensures.cases ∙ ap (λ b. b.now.value) w.clone-is ∙ ap (λ b. cond b c.in-Asks.yes.value c.in-Asks.no.value) (sym w.if-tested.true) | else-tested w ↦ c.in_ok-clone-in-Asks.ensures.cases ∙ ap (λ b. b.now.value) w.clone-is ∙ ap (λ b. cond b c.in-Asks.yes.value c.in-Asks.no.value) (sym w.if-tested.false) ] in
    at_question (path_of c.args.path.now) c.args.place.now _ c.in-Part.part (atom_of c.in-Asks.atom.value) c.in-Asks.yes c.in-Asks.no c.in_ok-clone-in-Asks.field-0 c.in_ok-tested-in-Asks.tested.holds c.in_ok-tested-in-Asks.tested.next c.in-Part.is e c.in_ok-tested-in-Asks.ensures r refl refl refl c.requires

pub returns-in_ok-push-in-Two : goal.returns-in_ok-push-in-Two
returns-in_ok-push-in-Two c = at_first (path_of c.args.path.now) c.args.place.now _ c.in-Part.part c.in_ok-clone-in-Two.field-0 c.in-Two.first c.in_ok-next-in-Two.next c.in-Part.is (first_done c.in-Part.part.value c.deref.result.now c.in-Two.first c.deref.ensures c.in-Two.is) c.in_ok-clone-in-Two.ensures.cases c.in_ok-next-in-Two.ensures.cases refl c.in_ok-push-in-Two.ensures.items refl c.requires

pub returns-in_ok-push-in-Two-work : goal.returns-in_ok-push-in-Two-work
returns-in_ok-push-in-Two-work c =
    let l = (last_is c.args.place.now c.deref-in-Came.result.now (First c.in-Some-First.part) c.in-Some-First.field-0.now c.deref-in-Came.ensures.value c.in-Some-First.ensures.value c.in-Some-First.field-0-is) in
    at_second (path_of c.args.path.now) c.args.place.now _ c.in-Came.outcome c.in_ok-clone-in-Two-work-2.field-0 (take (length c.args.place.now.frames.items - 1) c.args.place.now.frames.items) c.in-Some-First.part c.in_ok-clone-in-Two-work.field-0 c.in-Two-work.second c.in_ok-next-in-Two-work.next c.in-Two-work.field-0 c.in-Two-work.field-1 c.in-Came.is l (ap (λ (p : P.Part). p.work) (sym c.deref-in-Some-First.ensures) ∙ c.in-Two-work.is) c.in_ok-clone-in-Two-work.ensures.cases (same_outcome _ _ c.in_ok-clone-in-Two-work-2.ensures.cases) c.in_ok-next-in-Two-work.ensures.cases refl (c.in_ok-push-in-Two-work.ensures.items ∙ ap (λ fs. fs ++ (Second c.in_ok-clone-in-Two-work.field-0 c.in_ok-clone-in-Two-work-2.field-0 ∷ [])) (c.pop.ensures.rest ∙ ap (λ n. take (n - 1) c.args.place.now.frames.items) (sym c.deref-in-Came.ensures.len ∙ ap length c.deref-in-Came.ensures.value))) refl c.requires

pub returns-in_ok-clone-in-Choice : goal.returns-in_ok-clone-in-Choice
returns-in_ok-clone-in-Choice c =
    let l = (last_is c.args.place.now c.deref-in-Came.result.now (First c.in-Some-First.part) c.in-Some-First.field-0.now c.deref-in-Came.ensures.value c.in-Some-First.ensures.value c.in-Some-First.field-0-is) in
    let r : c.in_ok-clone-in-Choice.field-0.value ≡ cond c.in-Truth.holds c.in-Choice.yes.value c.in-Choice.no.value = elim c.if-holds.branch [ then-holds w ↦ c.in_ok-clone-in-Choice.ensures.cases ∙ ap (λ b. b.now.value) w.clone-is ∙ ap (λ b. cond b c.in-Choice.yes.value c.in-Choice.no.value) (sym w.if-holds.true) | else-holds w ↦ c.in_ok-clone-in-Choice.ensures.cases ∙ ap (λ b. b.now.value) w.clone-is ∙ ap (λ b. cond b c.in-Choice.yes.value c.in-Choice.no.value) (sym w.if-holds.false) ] in
    at_choice (path_of c.args.path.now) c.args.place.now _ c.in-Came.outcome c.in-Truth.holds (take (length c.args.place.now.frames.items - 1) c.args.place.now.frames.items) c.in-Some-First.part c.in-Choice.field-0 c.in-Choice.yes c.in-Choice.no c.in_ok-clone-in-Choice.field-0 c.in-Came.is c.in-Truth.is l (ap (λ (p : P.Part). p.work) (sym c.deref-in-Some-First.ensures) ∙ c.in-Choice.is) r refl (c.pop-in-Choice.ensures.rest ∙ ap (λ n. take (n - 1) c.args.place.now.frames.items) (sym c.deref-in-Came.ensures.len ∙ ap length c.deref-in-Came.ensures.value)) refl c.requires

pub returns-in_default-outcome : goal.returns-in_default-outcome
returns-in_default-outcome c = stops_there Bits (path_of c.args.path.now) (resumed (First c.in-Some-First.part) (outcome_of c.in-Came.outcome)) (take (length c.args.place.now.frames.items - 1) c.args.place.now.frames.items) c.args.place.now c.args.place.now (left_popped c.args.place.now c.in-Came.outcome (take (length c.args.place.now.frames.items - 1) c.args.place.now.frames.items) (First c.in-Some-First.part) c.in-Came.is (last_is c.args.place.now c.deref-in-Came.result.now (First c.in-Some-First.part) c.in-Some-First.field-0.now c.deref-in-Came.ensures.value c.in-Some-First.ensures.value c.in-Some-First.field-0-is)) (ap (λ w. along (path_of c.args.path.now) (after_first w (outcome_of c.in-Came.outcome)) c.args.place.now.at) (does c.in-Some-First.part.value c.deref-in-Some-First.result.now _ c.deref-in-Some-First.ensures c.in-Choice.is ∙ choice_work c.in-Choice.field-0 c.in-Choice.yes c.in-Choice.no) ∙ ap (λ q. along (path_of c.args.path.now) q c.args.place.now.at) (no_truth c.in-Came.outcome _ c.in_default-outcome.not-Truth) ∙ run_bits _ _) refl refl c.requires

pub returns-in_ok-new-in-Ends : goal.returns-in_ok-new-in-Ends
returns-in_ok-new-in-Ends c = (subst (λ a. IsEnd a (along (path_of c.args.path.now) (left_at c.args.place.now) c.args.place.now.at)) (sym c.in_ok-new-in-Ends.ensures.ok) (c.args.place.now.at, at_end (path_of c.args.path.now) c.args.place.now c.in-Came.outcome (none_last c.deref-in-Came.result.now c.args.place.now.frames.items c.deref-in-Came.ensures.value c.in-None.ensures.value) c.in-Came.is ∙ both_ends (path_of c.args.path.now) c.in-Came.outcome c.args.place.now.at c.in-Ends.x c.in-Ends.y c.in-Ends.is ∙ ap₂ (λ x y. value (x, y) c.args.place.now.at) (ap linear_of (sym c.deref-in-Ends.ensures) ∙ sym c.in_ok-copy_value-in-Ends.ensures) (ap linear_of (sym c.deref-in-Ends-2.ensures) ∙ sym c.in_ok-copy_value-in-Ends-2.ensures)), here (path_of c.args.path.now) c.args.place.now c.requires)

pub returns-in_default : goal.returns-in_default
returns-in_default c = (at_end (path_of c.args.path.now) c.args.place.now c.in-Came.outcome (none_last c.deref-in-Came.result.now c.args.place.now.frames.items c.deref-in-Came.ensures.value c.in-None.ensures.value) c.in-Came.is ∙ no_ends (path_of c.args.path.now) c.in-Came.outcome c.args.place.now.at c.in_default.not-Ends, here (path_of c.args.path.now) c.args.place.now c.requires)

pub returns-in_default-work : goal.returns-in_default-work
returns-in_default-work c = stops_there Bits (path_of c.args.path.now) (resumed (First c.in-Some-First.part) (outcome_of c.in-Came.outcome)) (take (length c.args.place.now.frames.items - 1) c.args.place.now.frames.items) c.args.place.now c.args.place.now (left_popped c.args.place.now c.in-Came.outcome (take (length c.args.place.now.frames.items - 1) c.args.place.now.frames.items) (First c.in-Some-First.part) c.in-Came.is (last_is c.args.place.now c.deref-in-Came.result.now (First c.in-Some-First.part) c.in-Some-First.field-0.now c.deref-in-Came.ensures.value c.in-Some-First.ensures.value c.in-Some-First.field-0-is)) (ap (λ q. along (path_of c.args.path.now) q c.args.place.now.at) (ap (λ (p : P.Part). after_first (work_of p.work) (outcome_of c.in-Came.outcome)) (sym c.deref-in-Some-First.ensures) ∙ no_first c.deref-in-Some-First.result.now.work _ c.in_default-work.not-Two c.in_default-work.not-Choice) ∙ run_bits _ _) refl refl c.requires

pub returns-in_default-work-2 : goal.returns-in_default-work-2
returns-in_default-work-2 c = stops_there Bits (path_of c.args.path.now) (resumed (Second c.in-Some-Second.part c.in-Some-Second.first) (outcome_of c.in-Came.outcome)) (take (length c.args.place.now.frames.items - 1) c.args.place.now.frames.items) c.args.place.now c.args.place.now (left_popped c.args.place.now c.in-Came.outcome (take (length c.args.place.now.frames.items - 1) c.args.place.now.frames.items) (Second c.in-Some-Second.part c.in-Some-Second.first) c.in-Came.is (last_is c.args.place.now c.deref-in-Came.result.now (Second c.in-Some-Second.part c.in-Some-Second.first) c.in-Some-Second.field-0.now c.deref-in-Came.ensures.value c.in-Some-Second.ensures.value c.in-Some-Second.field-0-is)) (ap (λ q. along (path_of c.args.path.now) q c.args.place.now.at) (ap (λ (p : P.Part). after_second (work_of p.work) (outcome_of c.in-Some-Second.first) (outcome_of c.in-Came.outcome)) (sym c.deref-in-Some-Second.ensures) ∙ no_second c.deref-in-Some-Second.result.now.work _ _ c.in_default-work-2.not-Two) ∙ run_bits _ _) refl refl c.requires

pub operated-requires-clause-first : goal.operated-requires-clause-first
operated-requires-clause-first c = (ready_pop c.args.place.now.frames.items (take (length c.args.place.now.frames.items - 1) c.args.place.now.frames.items) (Second c.in-Some-Second.part c.in-Some-Second.first) (last_is c.args.place.now c.deref-in-Came.result.now (Second c.in-Some-Second.part c.in-Some-Second.first) c.in-Some-Second.field-0.now c.deref-in-Came.ensures.value c.in-Some-Second.ensures.value c.in-Some-Second.field-0-is) c.requires.1).1.1

pub returns-in_err-came-in-Some-Second : goal.returns-in_err-came-in-Some-Second
returns-in_err-came-in-Some-Second c = stopped (path_of c.args.path.now) (left_at c.args.place.now) c.args.place.now.at (weight c.args.place.now) c.args.place.now c.from_residual-in_err-came-in-Some-Second.result c.in_err-came-in-Some-Second.field-0.0 (search rules) (stops_there c.in_err-came-in-Some-Second.field-0.0 (path_of c.args.path.now) (resumed (Second c.in-Some-Second.part c.in-Some-Second.first) (outcome_of c.in-Came.outcome)) (take (length c.args.place.now.frames.items - 1) c.args.place.now.frames.items) c.args.place.now c.args.place.now (left_popped c.args.place.now c.in-Came.outcome (take (length c.args.place.now.frames.items - 1) c.args.place.now.frames.items) (Second c.in-Some-Second.part c.in-Some-Second.first) c.in-Came.is (last_is c.args.place.now c.deref-in-Came.result.now (Second c.in-Some-Second.part c.in-Some-Second.first) c.in-Some-Second.field-0.now c.deref-in-Came.ensures.value c.in-Some-Second.ensures.value c.in-Some-Second.field-0-is)) (subst (λ w. Stops c.in_err-came-in-Some-Second.field-0.0 (along (path_of c.args.path.now) (after_second w (outcome_of c.in-Some-Second.first) (outcome_of c.in-Came.outcome)) c.args.place.now.at)) (sym (does c.in-Some-Second.part.value c.deref-in-Some-Second.result.now _ c.deref-in-Some-Second.ensures c.in-Two-work-2.is ∙ two_work c.in-Two-work-2.operation c.in-Two-work-2.field-1 c.in-Two-work-2.field-2)) c.in_err-came-in-Some-Second.ensures) refl refl c.requires)

pub returns-in_ok-came-in-Some-Second : goal.returns-in_ok-came-in-Some-Second
returns-in_ok-came-in-Some-Second c = at_both (path_of c.args.path.now) c.args.place.now _ c.in-Came.outcome c.in-Some-Second.first (take (length c.args.place.now.frames.items - 1) c.args.place.now.frames.items) c.in-Some-Second.part c.in-Two-work-2.field-1 c.in-Two-work-2.field-2 c.in-Two-work-2.operation c.in_ok-came-in-Some-Second.came c.in-Came.is (last_is c.args.place.now c.deref-in-Came.result.now (Second c.in-Some-Second.part c.in-Some-Second.first) c.in-Some-Second.field-0.now c.deref-in-Came.ensures.value c.in-Some-Second.ensures.value c.in-Some-Second.field-0-is) (ap (λ (p : P.Part). p.work) (sym c.deref-in-Some-Second.ensures) ∙ c.in-Two-work-2.is) c.in_ok-came-in-Some-Second.ensures refl (c.pop-in-Some-Second.ensures.rest ∙ ap (λ n. take (n - 1) c.args.place.now.frames.items) (sym c.deref-in-Came.ensures.len ∙ ap length c.deref-in-Came.ensures.value)) refl c.requires
