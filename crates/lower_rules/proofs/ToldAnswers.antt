-- The answer for the decisions of a pair's goals is the answer on the pair, and keeps its promise.
use Rattle.std.proofs.Common.{◌≡◌, ◌∙◌, ◌<◌, ℕ, refl, sym, subst, arith, List, length}
use Rattle.std.proofs.lemmas.List.{length-map}
use Rattle.std.specs.Prelude.{Vec}
use Rattle.std.specs.declared.alloc.Global.{Global}
use Rattle.goal_answers.specs.declared.decisions.Decision.{Decision}
use Rattle.goal_answers.specs.declared.decisions.Decision.TheVariants as decision
use Rattle.heylo_formula.specs.Goals.{Goal, Holds}
use Rattle.heylo_formula.specs.declared.values.Val.{Val}
use Rattle.heyvl_acts.specs.Acts.{TypedProcedure, procedure_at}
use Rattle.heyvl_acts.specs.PlainActs.{procedure_of, procedures_of}
use Rattle.heyvl_acts.specs.Rules.{MeetsAllRules, MeetsRules}
use Rattle.heyvl_acts.specs.declared.typed_trees.Typed.{Typed}
use Rattle.heyvl_acts.proofs.exported.Each.{each_at}
use Rattle.region_split.specs.Meanings.{Fails, Tells}
use Rattle.vp_generator.specs.Laws.{GeneratedFormMeansActs}
use Rattle.vp_generator.specs.Over.{GeneratedFormIsOver}
use Rattle.vp_generator.specs.PrenexedGoals.{PrenexedGoalsFailByChoices, PrenexedGoalsSpeakOfChoices}
use Rattle.vp_generator.specs.PrenexLaws.{PrenexedFormHasNoBinder}
use Rattle.lower_rules.specs.Omega.{OmegaBoundsRuns}
use Rattle.lower_rules.specs.OmegaAnswers.{IsOmegaAnswer, IsStepDecided, IsTold, OmegaHolds, ShownStateFails, told}
use Rattle.lower_goals.specs.OmegaGoals.{step_goal}
use Rattle.lower_goals.specs.OmegaPairs.{OmegaPair, formula_of}
use Rattle.lower_goals.specs.declared.answers.Omega.{Omega}
use Rattle.lower_goals.specs.declared.answers.Omega.TheVariants as reply
use Rattle.lower_goals.specs.declared.answers.Step.{Step}
use Rattle.lower_goals.specs.declared.answers.Step.TheVariants.{One, Base, Turn}
use Rattle.lower_goals.specs.declared.pairs.Pair.{Pair}
use Rattle.lower_goals.specs.LentOmegaPairs.{IsPairAt, IsReady, first, second}
use Rattle.lower_rules.specs.internal.PairDecisions.{IsToldOf}
use Rattle.lower_rules.specs.internal.PairAnswers.{answer_of, both}
use Rattle.lower_rules.proofs.MeantGoals.{goal_fails, goals_say_omega}
use Rattle.lower_goals.proofs.exported.ReadyPairs.{the_loop}

-- ---- Goal by goal

pub told_by_goals : (one base turn : Decision) → both (answer_of One one) (both (answer_of Base base) (answer_of Turn turn)) ≡ told one base turn
told_by_goals (decision.Proved a) (decision.Proved b) (decision.Proved c) = refl
told_by_goals (decision.Proved a) (decision.Proved b) (decision.Falsified c) = refl
told_by_goals (decision.Proved a) (decision.Proved b) (decision.Unknown c) = refl
told_by_goals (decision.Proved a) (decision.Falsified b) c = refl
told_by_goals (decision.Proved a) (decision.Unknown b) (decision.Proved c) = refl
told_by_goals (decision.Proved a) (decision.Unknown b) (decision.Falsified c) = refl
told_by_goals (decision.Proved a) (decision.Unknown b) (decision.Unknown c) = refl
told_by_goals (decision.Falsified a) b c = refl
told_by_goals (decision.Unknown a) (decision.Proved b) (decision.Proved c) = refl
told_by_goals (decision.Unknown a) (decision.Proved b) (decision.Falsified c) = refl
told_by_goals (decision.Unknown a) (decision.Proved b) (decision.Unknown c) = refl
told_by_goals (decision.Unknown a) (decision.Falsified b) c = refl
told_by_goals (decision.Unknown a) (decision.Unknown b) (decision.Proved c) = refl
told_by_goals (decision.Unknown a) (decision.Unknown b) (decision.Falsified c) = refl
told_by_goals (decision.Unknown a) (decision.Unknown b) (decision.Unknown c) = refl

-- ---- Conditions on a pair

-- The procedures are an omega pair, and the answer is that for the decisions of its goals, with
-- their meaning over states.
record AreDecided (p q : TypedProcedure) (answer : Omega) : Type 0 where
  pub pair : OmegaPair p q
  pub one : Decision
  pub base : Decision
  pub turn : Decision
  pub one_is : IsStepDecided p q pair One one
  pub base_is : IsStepDecided p q pair Base base
  pub turn_is : IsStepDecided p q pair Turn turn
  pub one_tells : Tells (step_goal p pair.loop.head pair.loop.body pair.loop.behind q One) one
  pub base_tells : Tells (step_goal p pair.loop.head pair.loop.body pair.loop.behind q Base) base
  pub turn_tells : Tells (step_goal p pair.loop.head pair.loop.body pair.loop.behind q Turn) turn
  pub is_told : answer ≡ told one base turn

of_pair : (x : Pair) (r : IsReady x) (answer : Omega) → IsToldOf x answer → AreDecided (first x) (second x) answer
of_pair x r answer t = record {
  pair = record { loop = the_loop x r; pair = r.pair };
  one = t.one;
  base = t.base;
  turn = t.turn;
  one_is = t.one_is.decided;
  base_is = t.base_is.decided;
  turn_is = t.turn_is.decided;
  one_tells = t.one_is.tells;
  base_tells = t.base_is.tells;
  turn_tells = t.turn_is.tells;
  is_told = t.is_told;
}

at_numbers : (ps : List TypedProcedure) (p q : ℕ) (x : Pair) (answer : Omega) → procedure_at ps p ≡ first x → procedure_at ps q ≡ second x → AreDecided (first x) (second x) answer → AreDecided (procedure_at ps p) (procedure_at ps q) answer
at_numbers ps p q x answer e f d = subst (λ (a : TypedProcedure). AreDecided a (procedure_at ps q) answer) (sym e) (subst (λ (b : TypedProcedure). AreDecided (first x) b answer) (sym f) d)

-- ---- The answer

is_told : (p q : TypedProcedure) (answer : Omega) → AreDecided p q answer → IsTold p q answer
is_told p q answer d = record { pair = d.pair; one = d.one; base = d.base; turn = d.turn; one_is = d.one_is; base_is = d.base_is; turn_is = d.turn_is; is_told = d.is_told }

not_shape : (one base turn : Decision) → reply.Shape ≡ told one base turn → ⊥
not_shape one base turn e = go (both (answer_of One one) (both (answer_of Base base) (answer_of Turn turn))) (told_by_goals one base turn) (shaped one base turn)
  where
    IsAnswer : Omega → Type 0
    IsAnswer reply.Shape = ⊥
    IsAnswer reply.Holds = Unit {0}
    IsAnswer (reply.Fails s v) = Unit {0}
    IsAnswer (reply.Unknown s c) = Unit {0}

    go : (a : Omega) → a ≡ told one base turn → IsAnswer a → ⊥
    go a f i = subst IsAnswer (f ∙ sym e) i

    shaped : (one base turn : Decision) → IsAnswer (both (answer_of One one) (both (answer_of Base base) (answer_of Turn turn)))
    shaped (decision.Proved a) (decision.Proved b) (decision.Proved c) = tt
    shaped (decision.Proved a) (decision.Proved b) (decision.Falsified c) = tt
    shaped (decision.Proved a) (decision.Proved b) (decision.Unknown c) = tt
    shaped (decision.Proved a) (decision.Falsified b) c = tt
    shaped (decision.Proved a) (decision.Unknown b) (decision.Proved c) = tt
    shaped (decision.Proved a) (decision.Unknown b) (decision.Falsified c) = tt
    shaped (decision.Proved a) (decision.Unknown b) (decision.Unknown c) = tt
    shaped (decision.Falsified a) b c = tt
    shaped (decision.Unknown a) (decision.Proved b) (decision.Proved c) = tt
    shaped (decision.Unknown a) (decision.Proved b) (decision.Falsified c) = tt
    shaped (decision.Unknown a) (decision.Proved b) (decision.Unknown c) = tt
    shaped (decision.Unknown a) (decision.Falsified b) c = tt
    shaped (decision.Unknown a) (decision.Unknown b) (decision.Proved c) = tt
    shaped (decision.Unknown a) (decision.Unknown b) (decision.Falsified c) = tt
    shaped (decision.Unknown a) (decision.Unknown b) (decision.Unknown c) = tt

module _ (typed : Typed) (p q : ℕ) (x : Pair) (at : IsPairAt typed p q x) where
  abbrev ps : List TypedProcedure
  ps = procedures_of typed

  decided : (answer : Omega) → IsToldOf x answer → AreDecided (procedure_at (procedures_of typed) p) (procedure_at (procedures_of typed) q) answer
  decided answer t = at_numbers (procedures_of typed) p q x answer at.first_is at.second_is (of_pair x at.ready answer t)

  pub is_answer : (answer : Omega) → IsToldOf x answer → IsOmegaAnswer (procedures_of typed) p q answer
  is_answer reply.Holds t = is_told (procedure_at (procedures_of typed) p) (procedure_at (procedures_of typed) q) reply.Holds (decided reply.Holds t)
  is_answer (reply.Fails step s) t = is_told (procedure_at (procedures_of typed) p) (procedure_at (procedures_of typed) q) (reply.Fails step s) (decided (reply.Fails step s) t)
  is_answer (reply.Unknown step c) t = is_told (procedure_at (procedures_of typed) p) (procedure_at (procedures_of typed) q) (reply.Unknown step c) (decided (reply.Unknown step c) t)
  is_answer reply.Shape t = absurd (not_shape t.one t.base t.turn t.is_told)

  module _ (rules : MeetsAllRules typed) (here : p < length typed.procs.items) (there : q < length typed.procs.items) where
    count : length (procedures_of typed) ≡ length typed.procs.items
    count = length-map typed.procs.items procedure_of

    first_there : p < length (procedures_of typed)
    first_there = let c = count in omega (arith, c, here)

    first_rules : MeetsRules (procedures_of typed) (procedure_at (procedures_of typed) p)
    first_rules = each_at (MeetsRules (procedures_of typed)) (procedures_of typed) p rules.each first_there

    second_rules : MeetsRules (procedures_of typed) (procedure_at (procedures_of typed) q)
    second_rules = each_at (MeetsRules (procedures_of typed)) (procedures_of typed) q rules.each (let c = count in omega (arith, c, there))

    proved : (one base turn : Decision) → reply.Holds ≡ told one base turn → (a b : Goal) → Tells a base → Tells b turn → Holds a × Holds b
    proved (decision.Proved x) (decision.Proved y) (decision.Proved z) e a b f g = (f, g)
    proved (decision.Proved x) (decision.Proved y) (decision.Falsified z) e a b f g = absurd (cc)
    proved (decision.Proved x) (decision.Proved y) (decision.Unknown z) e a b f g = absurd (cc)
    proved (decision.Proved x) (decision.Falsified y) z e a b f g = absurd (cc)
    proved (decision.Proved x) (decision.Unknown y) (decision.Proved z) e a b f g = absurd (cc)
    proved (decision.Proved x) (decision.Unknown y) (decision.Falsified z) e a b f g = absurd (cc)
    proved (decision.Proved x) (decision.Unknown y) (decision.Unknown z) e a b f g = absurd (cc)
    proved (decision.Falsified x) y z e a b f g = absurd (cc)
    proved (decision.Unknown x) (decision.Proved y) (decision.Proved z) e a b f g = absurd (cc)
    proved (decision.Unknown x) (decision.Proved y) (decision.Falsified z) e a b f g = absurd (cc)
    proved (decision.Unknown x) (decision.Proved y) (decision.Unknown z) e a b f g = absurd (cc)
    proved (decision.Unknown x) (decision.Falsified y) z e a b f g = absurd (cc)
    proved (decision.Unknown x) (decision.Unknown y) (decision.Proved z) e a b f g = absurd (cc)
    proved (decision.Unknown x) (decision.Unknown y) (decision.Falsified z) e a b f g = absurd (cc)
    proved (decision.Unknown x) (decision.Unknown y) (decision.Unknown z) e a b f g = absurd (cc)

    pub bound : GeneratedFormMeansActs → GeneratedFormIsOver → PrenexedFormHasNoBinder → PrenexedGoalsSpeakOfChoices → OmegaBoundsRuns → (answer : Omega) → IsToldOf x answer → answer ≡ reply.Holds → OmegaHolds (procedures_of typed) p q
    bound means over plain speak law answer t e =
        let d = decided answer t in
        let l = d.pair.loop in
        let g = proved d.one d.base d.turn (sym e ∙ d.is_told) (step_goal (procedure_at (procedures_of typed) p) l.head l.body l.behind (procedure_at (procedures_of typed) q) Base) (step_goal (procedure_at (procedures_of typed) p) l.head l.body l.behind (procedure_at (procedures_of typed) q) Turn) d.base_tells d.turn_tells in
        record {
          pair = d.pair;
          bounds = λ s st. law (procedures_of typed) p rules.each first_there l (formula_of (procedure_at (procedures_of typed) p) l.head (procedure_at (procedures_of typed) q)) (goals_say_omega (procedures_of typed) (procedure_at (procedures_of typed) p) first_rules l (procedure_at (procedures_of typed) q) second_rules d.pair.pair means over plain speak g.0 g.1) s st;
        }

    same : (k step : Step) (a s : Vec Val Global) → reply.Fails k a ≡ reply.Fails step s → (g : Step → Goal) → Fails (g k) a.items → Fails (g step) s.items
    same k step a s e g f = subst (λ (o : Omega). in_answer o) e f
      where
        in_answer : Omega → Type 0
        in_answer (reply.Fails j v) = Fails (g j) v.items
        in_answer reply.Holds = Unit {0}
        in_answer reply.Shape = Unit {0}
        in_answer (reply.Unknown j c) = Unit {0}

    failing : (one base turn : Decision) (step : Step) (s : Vec Val Global) → reply.Fails step s ≡ told one base turn → (g : Step → Goal) → Tells (g One) one → Tells (g Base) base → Tells (g Turn) turn → Fails (g step) s.items
    failing (decision.Falsified a) b c step s e g f h i = same One step a s (sym e) g f
    failing (decision.Proved a) (decision.Falsified b) c step s e g f h i = same Base step b s (sym e) g h
    failing (decision.Unknown a) (decision.Falsified b) c step s e g f h i = same Base step b s (sym e) g h
    failing (decision.Proved a) (decision.Proved b) (decision.Falsified c) step s e g f h i = same Turn step c s (sym e) g i
    failing (decision.Proved a) (decision.Unknown b) (decision.Falsified c) step s e g f h i = same Turn step c s (sym e) g i
    failing (decision.Unknown a) (decision.Proved b) (decision.Falsified c) step s e g f h i = same Turn step c s (sym e) g i
    failing (decision.Unknown a) (decision.Unknown b) (decision.Falsified c) step s e g f h i = same Turn step c s (sym e) g i
    failing (decision.Proved a) (decision.Proved b) (decision.Proved c) step s e g f h i = absurd (cc)
    failing (decision.Proved a) (decision.Proved b) (decision.Unknown c) step s e g f h i = absurd (cc)
    failing (decision.Proved a) (decision.Unknown b) (decision.Proved c) step s e g f h i = absurd (cc)
    failing (decision.Proved a) (decision.Unknown b) (decision.Unknown c) step s e g f h i = absurd (cc)
    failing (decision.Unknown a) (decision.Proved b) (decision.Proved c) step s e g f h i = absurd (cc)
    failing (decision.Unknown a) (decision.Proved b) (decision.Unknown c) step s e g f h i = absurd (cc)
    failing (decision.Unknown a) (decision.Unknown b) (decision.Proved c) step s e g f h i = absurd (cc)
    failing (decision.Unknown a) (decision.Unknown b) (decision.Unknown c) step s e g f h i = absurd (cc)

    pub shown : GeneratedFormIsOver → PrenexedGoalsFailByChoices → (answer : Omega) → IsToldOf x answer → ShownStateFails (procedures_of typed) p q answer
    shown over law reply.Holds t = tt
    shown over law reply.Shape t = tt
    shown over law (reply.Unknown step c) t = tt
    shown over law (reply.Fails step s) t =
        let d = decided (reply.Fails step s) t in
        let l = d.pair.loop in
        let f = failing d.one d.base d.turn step s d.is_told (λ k. step_goal (procedure_at (procedures_of typed) p) l.head l.body l.behind (procedure_at (procedures_of typed) q) k) d.one_tells d.base_tells d.turn_tells in
        record {
          pair = d.pair;
          fails = goal_fails (procedures_of typed) (procedure_at (procedures_of typed) p) first_rules l (procedure_at (procedures_of typed) q) second_rules d.pair.pair over law step s.items f;
          as_shown = f;
        }
