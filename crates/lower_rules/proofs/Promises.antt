-- The answer on a remainder pair, and its promise.
use Rattle.std.proofs.Common.{◌≡◌, ◌∙◌, ◌<◌, ℕ, refl, sym, ap, subst, List, [], ◌∷◌, ◌++◌, length}
use Rattle.std.specs.Prelude.{Some, if◌then◌else◌}
use Rattle.heyvl_num.specs.Rational.{Rational, zeroʳ, ◌<ʳ◌}
use Rattle.heylo_formula.specs.Choices.{Choices}
use Rattle.heylo_formula.specs.Formula.{Form}
use Rattle.heylo_formula.specs.Meaning.{value}
use Rattle.heylo_formula.specs.State.{environment}
use Rattle.heylo_formula.specs.declared.values.Val.{Val}
use Rattle.goal_answers.specs.declared.decisions.Decision.{Decision}
use Rattle.goal_answers.specs.declared.decisions.Decision.TheVariants as decision
use Rattle.heyvl_acts.specs.Acts.{Head, Act, Acts, TypedProcedure, acts_in, procedure_at}
use Rattle.heyvl_acts.specs.Places.{in_order}
use Rattle.heyvl_acts.specs.Rules.{Each, MeetsRules}
use Rattle.heyvl_acts.specs.Straight.{IsStraight}
use Rattle.heyvl_acts.proofs.exported.Each.{each_at}
use Rattle.act_walks.specs.Loops.{loop_in}
use Rattle.run_machine.specs.Bound.{IsState, RankedBy}
use Rattle.verdict_report.specs.declared.answers.Answer.{Answer}
use Rattle.verdict_report.specs.declared.answers.RankVerdict.TheVariants.{Ranked}
use Rattle.verdict_report.specs.declared.answers.Verdict.TheVariants.{Verified}
use Rattle.lower_goals.specs.OneLoop.{OneLoop}
use Rattle.lower_rules.specs.Remainder.{BoundsWithRemainder}
use Rattle.lower_rules.specs.RemainderAnswers.{HasBoundedTurns, HasSmallBound, IsPromised, IsRemainderAnswer}
use Rattle.lower_goals.specs.RemainderPairs.{RemainderPair}
use Rattle.lower_goals.specs.StartGoals.{StartHolds}
use Rattle.verdict_report.specs.VerdictsOn.{IsVerdictOn, IsVerdictOnLoop}
use Rattle.lower_rules.specs.internal.StartDecisions.{IsStarted, answer_by}
use Rattle.lower_goals.proofs.exported.LoopParts.{body_in_order}
use Rattle.lower_rules.proofs.OmegaBounds.{alike}
use Rattle.lower_rules.proofs.RemainderBounds.{remainder_bounds}
use Rattle.lower_goals.proofs.exported.StartParts.{is_start}

-- ---- The loop's iterations are bounded

past_straight : (n : ℕ) (xs ys : List Act) → Each IsStraight xs → loop_in n (xs ++ ys) ≡ loop_in n ys
past_straight n [] ys s = refl
past_straight n (Act.loop h b ∷ xs) ys s = absurd s.0
past_straight n (Act.call zs q es span ∷ xs) ys s = absurd s.0
past_straight n (Act.set x t span ∷ xs) ys s = past_straight n xs ys s.1
past_straight n (Act.draw x qs span ∷ xs) ys s = past_straight n xs ys s.1
past_straight n (Act.toss x f span ∷ xs) ys s = past_straight n xs ys s.1
past_straight n (Act.any x up ty span ∷ xs) ys s = past_straight n xs ys s.1
past_straight n (Act.reward f span ∷ xs) ys s = past_straight n xs ys s.1
past_straight n (Act.ifs arms e span ∷ xs) ys s = past_straight n xs ys s.1
past_straight n (Act.pick up a b span ∷ xs) ys s = past_straight n xs ys s.1
past_straight n (Act.check kind f span ∷ xs) ys s = past_straight n xs ys s.1
past_straight n (Act.validate co span ∷ xs) ys s = past_straight n xs ys s.1

this_loop : (h : Head) (b : Acts) (rest : List Act) → loop_in h.number (Act.loop h b ∷ rest) ≡ Some (h, b)
this_loop h b rest = ap (λ t. if t then Some (h, b) else loop_in h.number rest) (alike h.number)

named_loop : (p : TypedProcedure) (l : OneLoop p) → loop_in l.head.number (in_order (acts_in p.body)) ≡ Some (l.head, l.body)
named_loop p l =
    ap (loop_in l.head.number) (body_in_order p l)
    ∙ (past_straight l.head.number (in_order l.front) (Act.loop l.head l.body ∷ (in_order l.body ++ in_order l.behind)) l.is.plain_front
    ∙ this_loop l.head l.body (in_order l.body ++ in_order l.behind))

some_some : {A : Type 0} (a b : A) → Some a ≡ Some b → a ≡ b
some_some a b e = cc

abbrev pair_of : Head → Acts → Head × Acts
pair_of h b = (h, b)

bounded_turns : (ps : List TypedProcedure) (p : ℕ) (l : OneLoop (procedure_at ps p)) (r : Rational × Form) → l.head.rank ≡ Some r → HasBoundedTurns ps p l.head.number → RankedBy ps p l.head l.body r
bounded_turns ps p l r ranked h = subst (λ x. RankedBy ps p l.head l.body x) rank (subst (λ (x : Head × Acts). RankedBy ps p x.0 x.1 h.loop.rank) loops h.turns)
  where
    loops : pair_of h.loop.head h.loop.body ≡ pair_of l.head l.body
    loops = some_some (pair_of h.loop.head h.loop.body) (pair_of l.head l.body) (sym h.loop.named ∙ named_loop (procedure_at ps p) l)

    rank : h.loop.rank ≡ r
    rank = some_some h.loop.rank r (sym h.loop.ranked ∙ (ap (λ (x : Head × Acts). x.0.rank) loops ∙ ranked))

-- ---- The answers

module _ (ps : List TypedProcedure) (answers : List Answer) (p q : ℕ) (pair : RemainderPair (procedure_at ps p) (procedure_at ps q)) (verified : IsVerdictOn answers p Verified) (ranked : IsVerdictOnLoop answers p pair.loop.head.number Ranked) where
  pub is_answer : (e : Rational) → pair.rank.0 ≡ e → (d : Decision) → IsStarted (procedure_at ps p) (procedure_at ps q) pair.loop.front pair.rank d → IsRemainderAnswer ps answers p q (answer_by e d)
  is_answer e step (decision.Proved tree) h = record { tree = tree; so = record { pair = pair; verified = verified; ranked = ranked; decided = h.decided }; step = step }
  is_answer e step (decision.Falsified s) h = record { pair = pair; verified = verified; ranked = ranked; decided = h.decided }
  is_answer e step (decision.Unknown cause) h = record { pair = pair; verified = verified; ranked = ranked; decided = h.decided }

-- ---- The promises

module _ (ps : List TypedProcedure) (p q : ℕ) (rules : Each (MeetsRules ps) ps) (there : p < length ps) (pair : RemainderPair (procedure_at ps p) (procedure_at ps q)) (small : HasSmallBound ps p) (turns : HasBoundedTurns ps p pair.loop.head.number) where
  positive : zeroʳ <ʳ pair.rank.0
  positive = (is_start ps (procedure_at ps p) (procedure_at ps q) (each_at (MeetsRules ps) ps p rules there) pair).fits.0

  bounds : StartHolds (procedure_at ps p) pair.loop.front pair.rank (procedure_at ps q).pre → (s : List Val) → IsState (procedure_at ps p) s → BoundsWithRemainder ps p pair.loop.front pair.loop.body pair.loop.behind pair.loop.head pair.rank.0 (value (procedure_at ps q).pre (environment s) Choices.stop) s
  bounds h s st = remainder_bounds ps p rules there pair.loop pair.rank positive small.bound (λ s st. small.post s Choices.stop st) (bounded_turns ps p pair.loop pair.rank pair.ranked turns) s st (value (procedure_at ps q).pre (environment s) Choices.stop) (λ c. h s c st)

  pub is_promised : (e : Rational) → pair.rank.0 ≡ e → (d : Decision) → IsStarted (procedure_at ps p) (procedure_at ps q) pair.loop.front pair.rank d → IsPromised ps p q (answer_by e d)
  is_promised e step (decision.Proved tree) h = record {
    pair = pair;
    step = step;
    positive = subst (λ x. zeroʳ <ʳ x) step positive;
    bounds = λ s st. subst (λ x. BoundsWithRemainder ps p pair.loop.front pair.loop.body pair.loop.behind pair.loop.head x (value (procedure_at ps q).pre (environment s) Choices.stop) s) step (bounds h.tells s st);
  }
  is_promised e step (decision.Falsified s) h = record { pair = pair; fails = h.tells.0; as_shown = h.tells.1 }
  is_promised e step (decision.Unknown cause) h = tt
