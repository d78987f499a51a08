use mir.Syntax.{w64}
use Rattle.std.proofs.Common.{refl, sym, ap, length, inl, inr, ◌∙◌, true, FitsSigned, rules}
use Rattle.std.proofs.lemmas.Int.{to_z-of_z}
use Rattle.heylo_formula.specs.Goals.{goal_of}
use Rattle.linear_form.specs.Splits.{split_at}
use Rattle.goal_answers.specs.Trees.{tree_of}
use Rattle.farkas_check.specs.AcceptedCertificates.{IsAccepted, IsRefused}
use Rattle.farkas_check.proofs.TrailSteps.{path_here, place_here, place_back, split_here, again_onto, longer_trail, longer_place, restored, same_again, same_stated, same_place, behind, behind_again}
use Rattle.farkas_check.proofs.Judgements.{asked, ended_unasked, bits_unasked, question_onto, halves_onto, no_question_here, no_split_here, not_plain_here, split_found, whole_found, plain_found, multipliers_found, same_trail, lower_split, lower_whole, lower_first, lower_second}
use Rattle.farkas_check.proofs.checker.+judging.Goals as goal

-- ---- A comparison, and the results after its answers

pub judge-go_on-requires-clause-path : goal.judge-go_on-requires-clause-path
judge-go_on-requires-clause-path t c = path_here (goal_of c.args.goal.now) c.deref.result.now c.args.trail c.deref.ensures.value c.requires.trail

pub judge-go_on-requires-clause-on : goal.judge-go_on-requires-clause-on
judge-go_on-requires-clause-on t c = place_here (goal_of c.args.goal.now) c.deref.result.now c.args.trail c.args.place.now c.deref.ensures.value c.requires.on

pub judge-judge_both-requires : goal.judge-judge_both-requires
judge-judge_both-requires t c =
    let a = asked (goal_of c.args.goal.now) c.deref.result.now c.args.trail.path.items c.in-Decide.atom _ c.in_ok-ask-in-Split.ensures.asked c.deref.ensures.value c.in-Decide.is in
    (lower_split _ _ _ c.in-Split.holds c.in-Split.fails _ c.in-Split.is c.deref-in-Decide.ensures c.deref-in-Decide-2.ensures c.decreases, (c.requires.trail, (place_back (goal_of c.args.goal.now) c.deref.result.now c.args.trail _ c.deref.ensures.value c.in_ok-ask-in-Split.ensures.on, question_onto (goal_of c.args.goal.now) c.args.trail.path.items c.in-Decide.atom c.requires.trail.path a)))

pub judge-returns-in-Decide : goal.judge-returns-in-Decide
judge-returns-in-Decide t c =
    let a = asked (goal_of c.args.goal.now) c.deref.result.now c.args.trail.path.items c.in-Decide.atom _ c.in_ok-ask-in-Split.ensures.asked c.deref.ensures.value c.in-Decide.is in
    split_found c.judge_both.result (goal_of c.args.goal.now) c.args.trail _ _ _ c.in-Split.holds c.in-Split.fails c.in-Decide.atom c.in-Split.is a c.deref-in-Decide.ensures c.deref-in-Decide-2.ensures c.judge_both.ensures

pub judge-returns-in-End : goal.judge-returns-in-End
judge-returns-in-End t c = no_question_here c.refused_at.result (goal_of c.args.goal.now) c.deref-in-End.result.now c.args.trail _ c.in-Split.holds c.in-Split.fails c.in-Split.is (ended_unasked (goal_of c.args.goal.now) c.deref.result.now c.args.trail.path.items _ _ _ c.in_ok-ask-in-Split.ensures.asked c.deref.ensures.value c.in-End.is) c.deref-in-End.ensures.value c.refused_at.ensures

pub judge-returns-in-Bits : goal.judge-returns-in-Bits
judge-returns-in-Bits t c = no_question_here c.refused_at-in-Bits.result (goal_of c.args.goal.now) c.deref-in-Bits.result.now c.args.trail _ c.in-Split.holds c.in-Split.fails c.in-Split.is (bits_unasked (goal_of c.args.goal.now) c.deref.result.now c.args.trail.path.items _ c.in_ok-ask-in-Split.ensures.asked c.deref.ensures.value c.in-Bits.is) c.deref-in-Bits.ensures.value c.refused_at-in-Bits.ensures

-- ---- A split, and its halves

pub judge-judge_both-requires-then-branch : goal.judge-judge_both-requires-then-branch
judge-judge_both-requires-then-branch t c =
    let s = split_here (goal_of c.args.goal.now) c.deref-in-Whole.result.now c.args.trail c.in-Whole.variable c.deref-in-Whole.ensures.value (c.in_ok-can_split-in-Whole.ensures.0 c.if-branch.true) in
    (lower_whole _ _ _ _ _ c.in-Whole.below c.in-Whole.above _ c.in-Whole.is c.deref-then-branch.ensures c.deref-then-branch-2.ensures c.decreases, (c.requires.trail, (c.requires.on, halves_onto (goal_of c.args.goal.now) c.args.trail.path.items _ _ c.in_ok-atom-in-Whole.atom c.requires.trail.path s c.in_ok-atom-in-Whole.ensures)))

pub judge-returns-in_ok-atom-in-Whole : goal.judge-returns-in_ok-atom-in-Whole
judge-returns-in_ok-atom-in-Whole t c =
    let f : FitsSigned w64 c.in-Whole.bound = search rules in
    whole_found c.judge_both-then-branch.result (goal_of c.args.goal.now) c.deref-in-Whole.result.now c.args.trail _ _ _ _ _ c.in-Whole.below c.in-Whole.above c.in_ok-atom-in-Whole.atom c.in-Whole.is (c.in_ok-can_split-in-Whole.ensures.0 c.if-branch.true) c.deref-in-Whole.ensures.value (c.in_ok-atom-in-Whole.ensures ∙ ap (split_at c.in-Whole.variable) (to_z-of_z w64 c.in-Whole.bound f)) c.deref-then-branch.ensures c.deref-then-branch-2.ensures c.judge_both-then-branch.ensures

pub judge-returns-else-branch : goal.judge-returns-else-branch
judge-returns-else-branch t c = no_split_here c.refused_at-else-branch.result (goal_of c.args.goal.now) c.deref-in-Whole.result.now c.deref-else-branch.result.now c.args.trail _ _ _ c.in-Whole.below c.in-Whole.above c.in-Whole.is (λ k. let e = c.in_ok-can_split-in-Whole.ensures.1 k in let f = c.if-branch.false in absurd (cc)) c.deref-in-Whole.ensures.value c.deref-else-branch.ensures.value c.refused_at-else-branch.ensures

-- ---- Leaves

pub judge-returns-in-Farkas : goal.judge-returns-in-Farkas
judge-returns-in-Farkas t c = multipliers_found c.judge_multipliers.result (goal_of c.args.goal.now) c.args.trail _ c.in-Farkas.multipliers c.deref-in-Farkas.result.now c.in-Farkas.is c.deref-in-Farkas.ensures.value c.judge_multipliers.ensures

pub judge-returns-then-branch-2 : goal.judge-returns-then-branch-2
judge-returns-then-branch-2 t c = plain_found (goal_of c.args.goal.now) c.deref-in-Plain.result.now c.args.trail _ c.in-Plain.is (c.in_ok-is_plain_at-in-Plain.ensures.0 c.if-branch-2.true) c.deref-in-Plain.ensures.value

pub judge-returns-else-branch-2 : goal.judge-returns-else-branch-2
judge-returns-else-branch-2 t c = not_plain_here c.refused_at-else-branch-2.result (goal_of c.args.goal.now) c.deref-in-Plain.result.now c.deref-else-branch-2.result.now c.args.trail _ c.in-Plain.is (λ k. let e = c.in_ok-is_plain_at-in-Plain.ensures.1 k in let f = c.if-branch-2.false in absurd (cc)) c.deref-in-Plain.ensures.value c.deref-else-branch-2.ensures.value c.refused_at-else-branch-2.ensures

-- ---- The two parts of a node

pub judge_both-further-requires-clause-path : goal.judge_both-further-requires-clause-path
judge_both-further-requires-clause-path t c = c.requires.answers true

pub judge_both-further-requires-clause-rows : goal.judge_both-further-requires-clause-rows
judge_both-further-requires-clause-rows t c = c.requires.trail.rows

pub judge_both-judge-requires : goal.judge_both-judge-requires
judge_both-judge-requires t c = (lower_first _ _ _ c.decreases, (longer_trail (goal_of c.args.goal.now) c.args.trail c.in_ok-yes.yes _ c.in_ok-yes.ensures (c.requires.answers true), longer_place (goal_of c.args.goal.now) c.args.trail c.in_ok-yes.yes _ c.args.place.now c.in_ok-yes.ensures c.requires.on))

pub judge_both-returns-in-Refused : goal.judge_both-returns-in-Refused
judge_both-returns-in-Refused t c = inl (behind (λ ps. IsRefused (goal_of c.args.goal.now) ps (tree_of c.args.first.now) c.in-Refused.refused.items) c.args.trail c.args.trail c.in_ok-yes.yes (goal_of c.args.goal.now) _ c.in_ok-yes.ensures (same_trail c.args.trail) (rw c.in-Refused.is at c.in_ok-refused.ensures))

pub judge_both-further-requires-in-Accepted-clause-path : goal.judge_both-further-requires-in-Accepted-clause-path
judge_both-further-requires-in-Accepted-clause-path t c =
    let j = rw c.in-Accepted.is at c.in_ok-refused.ensures in
    let h = restored (goal_of c.args.goal.now) c.args.trail c.in_ok-yes.yes c.in-Accepted.back c.shorter-here.result _ c.len-count.result c.args.trail.stated c.in_ok-yes.ensures j.0 (c.len-count.ensures ∙ c.args.trail.rows.ok.0) refl c.shorter-here.ensures.path c.shorter-here.ensures.rows c.shorter-here.ensures.stated in
    again_onto (goal_of c.args.goal.now) c.args.trail c.shorter-here.result c.args.atom c.in_ok-again.again h c.in_ok-again.ensures c.requires.answers

pub judge_both-further-requires-in-Accepted-clause-rows : goal.judge_both-further-requires-in-Accepted-clause-rows
judge_both-further-requires-in-Accepted-clause-rows t c =
    let j = rw c.in-Accepted.is at c.in_ok-refused.ensures in
    let h = restored (goal_of c.args.goal.now) c.args.trail c.in_ok-yes.yes c.in-Accepted.back c.shorter-here.result _ c.len-count.result c.args.trail.stated c.in_ok-yes.ensures j.0 (c.len-count.ensures ∙ c.args.trail.rows.ok.0) refl c.shorter-here.ensures.path c.shorter-here.ensures.rows c.shorter-here.ensures.stated in
    same_stated (goal_of c.args.goal.now) c.args.trail c.shorter-here.result h c.requires.trail.rows

pub judge_both-judge-requires-in-Accepted : goal.judge_both-judge-requires-in-Accepted
judge_both-judge-requires-in-Accepted t c =
    let j = rw c.in-Accepted.is at c.in_ok-refused.ensures in
    let h = restored (goal_of c.args.goal.now) c.args.trail c.in_ok-yes.yes c.in-Accepted.back c.shorter-here.result _ c.len-count.result c.args.trail.stated c.in_ok-yes.ensures j.0 (c.len-count.ensures ∙ c.args.trail.rows.ok.0) refl c.shorter-here.ensures.path c.shorter-here.ensures.rows c.shorter-here.ensures.stated in
    (lower_second _ _ _ c.decreases, (longer_trail (goal_of c.args.goal.now) c.shorter-here.result c.in_ok-no-in-Accepted.no _ c.in_ok-no-in-Accepted.ensures (again_onto (goal_of c.args.goal.now) c.args.trail c.shorter-here.result c.args.atom c.in_ok-again.again h c.in_ok-again.ensures c.requires.answers), longer_place (goal_of c.args.goal.now) c.shorter-here.result c.in_ok-no-in-Accepted.no _ c.args.place.now c.in_ok-no-in-Accepted.ensures (same_place (goal_of c.args.goal.now) c.args.trail c.shorter-here.result c.args.place.now h c.requires.on)))

pub judge_both-returns-in-Refused-2 : goal.judge_both-returns-in-Refused-2
judge_both-returns-in-Refused-2 t c =
    let j = rw c.in-Accepted.is at c.in_ok-refused.ensures in
    let h = restored (goal_of c.args.goal.now) c.args.trail c.in_ok-yes.yes c.in-Accepted.back c.shorter-here.result _ c.len-count.result c.args.trail.stated c.in_ok-yes.ensures j.0 (c.len-count.ensures ∙ c.args.trail.rows.ok.0) refl c.shorter-here.ensures.path c.shorter-here.ensures.rows c.shorter-here.ensures.stated in
    inr (behind (λ ps. IsAccepted (goal_of c.args.goal.now) ps (tree_of c.args.first.now)) c.args.trail c.args.trail c.in_ok-yes.yes (goal_of c.args.goal.now) _ c.in_ok-yes.ensures (same_trail c.args.trail) j.1, behind_again (λ ps. IsRefused (goal_of c.args.goal.now) ps (tree_of c.args.second.now) c.in-Refused-2.refused.items) c.args.trail c.shorter-here.result c.in_ok-no-in-Accepted.no (goal_of c.args.goal.now) c.args.atom c.in_ok-again.again c.in_ok-no-in-Accepted.ensures h c.in_ok-again.ensures (rw c.in-Refused-2.is at c.in_ok-refused-in-Accepted.ensures))

pub judge_both-returns-in-Accepted-2 : goal.judge_both-returns-in-Accepted-2
judge_both-returns-in-Accepted-2 t c =
    let j = rw c.in-Accepted.is at c.in_ok-refused.ensures in
    let h = restored (goal_of c.args.goal.now) c.args.trail c.in_ok-yes.yes c.in-Accepted.back c.shorter-here.result _ c.len-count.result c.args.trail.stated c.in_ok-yes.ensures j.0 (c.len-count.ensures ∙ c.args.trail.rows.ok.0) refl c.shorter-here.ensures.path c.shorter-here.ensures.rows c.shorter-here.ensures.stated in
    let k = rw c.in-Accepted-2.is at c.in_ok-refused-in-Accepted.ensures in (
      same_again c.args.trail c.shorter-here.result c.shorter.result h (restored (goal_of c.args.goal.now) c.shorter-here.result c.in_ok-no-in-Accepted.no c.in-Accepted-2.back c.shorter.result _ c.len-count.result c.args.trail.stated c.in_ok-no-in-Accepted.ensures k.0 (c.len-count.ensures ∙ c.args.trail.rows.ok.0 ∙ ap length (sym h.rows)) (sym h.stated) c.shorter.ensures.path c.shorter.ensures.rows c.shorter.ensures.stated),
      behind (λ ps. IsAccepted (goal_of c.args.goal.now) ps (tree_of c.args.first.now)) c.args.trail c.args.trail c.in_ok-yes.yes (goal_of c.args.goal.now) _ c.in_ok-yes.ensures (same_trail c.args.trail) j.1,
      behind_again (λ ps. IsAccepted (goal_of c.args.goal.now) ps (tree_of c.args.second.now)) c.args.trail c.shorter-here.result c.in_ok-no-in-Accepted.no (goal_of c.args.goal.now) c.args.atom c.in_ok-again.again c.in_ok-no-in-Accepted.ensures h c.in_ok-again.ensures k.1,
    )
