-- Laws of unrolled runs. This project's own.
use Rattle.std.specs.Prelude.{◌≡◌, ℕ, true, false, List, [], ◌∷◌, length, Some}
use Prim.Native.Nat.{suc}
use Rattle.heyvl_num.specs.Rational.{Rational}
use Rattle.heyvl_num.specs.Value.{Value, zeroᵛ, oneᵛ, ◌+ᵛ◌}
use Rattle.heyvl_num.specs.Value.Value.{finite}
use Rattle.heyvl_num.specs.WeightedSums.{weighted_sum}
use Rattle.heylo_formula.specs.declared.values.Val.{Val}
use Rattle.heyvl_acts.specs.Acts.{TypedProcedure, procedure_at}
use Rattle.heyvl_acts.specs.Rules.{Each, MeetsRules}
use Rattle.run_machine.specs.declared.configurations.Decide.{Decide}
use Rattle.run_machine.specs.Bound.{IsState}
use Rattle.run_machine.specs.ConfigConditions.{IsConfig, ReachesPrograms}
use Rattle.run_machine.specs.Configurations.{Config, Item, Outcomes, begin}
use Rattle.run_machine.specs.Names.{Stored, config_of}
use Rattle.run_machine.specs.Runs.{runs}
use Rattle.run_machine.specs.StoredStep.{stored_begin}
use Rattle.run_machine.specs.Sums.{ended, sum_of, turns_sum}
use Rattle.run_unroller.specs.RunLists.{RunList, after, begun, outcomes}
use Rattle.run_unroller.specs.ScriptTrees.{scripted}
use Rattle.run_unroller.specs.Totals.{Totals, totals}
use Rattle.run_unroller.specs.Unrolling.{Unrolling, unrolled}

-- In a file that satisfies the static rules, a weighted sum over the list after `n` steps is that
-- over the runs of `n` steps under the script's scheduler, for every value `f` of configurations.
-- No weight of the list is negative.
abbrev pub ListsAreRuns : Type 0
ListsAreRuns = (ps : List TypedProcedure) → Each (MeetsRules ps) ps
    → (script : List Decide) (n : ℕ) (c : Stored) → IsConfig ps c → (f : Config → Value)
    → weighted_sum f (outcomes ps (after ps script n (begun c)))
    ≡ weighted_sum f (runs ps n (config_of ps c) (scripted ps script n c.made (config_of ps c)))

-- The fractions are the expected iterations of the loops from `number` on.
abbrev pub AreTurns : ℕ → List Rational → Outcomes → Type 0
AreTurns number [] cs = Unit {0}
AreTurns number (t ∷ ts) cs = (turns_sum number cs ≡ finite t) × AreTurns (suc number) ts cs

-- The mass of a run not yet terminated: 1 if it has items left, otherwise 0.
abbrev pub unfinished : List Item → Value
unfinished [] = zeroᵛ
unfinished (i ∷ is) = oneᵛ

-- `t` are the weighted sums over the runs `cs` of the procedure `p`: the post of the terminated
-- runs, the reward of all runs, the mass not yet terminated, and the iterations of each loop. So
-- the upper sum is the reward plus the post, and the weak sum the post plus the mass not yet
-- terminated.
pub record AreSums (p : TypedProcedure) (cs : Outcomes) (t : Totals) : Type 0 where
  pub post : weighted_sum (λ (c : Config). ended true p.post c.items c.state) cs ≡ t.post
  pub reward : weighted_sum (λ (c : Config). c.reward) cs ≡ t.reward
  pub running : weighted_sum (λ (c : Config). unfinished c.items) cs ≡ finite t.running
  pub upper : sum_of true p.post cs ≡ t.reward +ᵛ t.post
  pub weak : sum_of false p.post cs ≡ t.post +ᵛ finite t.running
  pub turns : AreTurns 1 t.turns cs
  pub loops : length t.turns ≡ p.loops

-- If no number overflows, the totals of a list are the sums over its runs.
abbrev pub TotalsAreSums : Type 0
TotalsAreSums = (ps : List TypedProcedure) (p : TypedProcedure) (rs : RunList) (t : Totals)
    → totals p rs ≡ Some t → AreSums p (outcomes ps rs) t

-- In a file that satisfies the static rules, for a procedure that reaches only programs, from a
-- state with values of the right types: if nothing stops the runs, the totals are the sums over the
-- runs under the script's scheduler.
abbrev pub UnrolledSumsAreMeant : Type 0
UnrolledSumsAreMeant = (ps : List TypedProcedure) (p : ℕ) → Each (MeetsRules ps) ps
    → ReachesPrograms ps p → (s : List Val) → IsState (procedure_at ps p) s
    → (script : List Decide) (n : ℕ) (t : Totals)
    → unrolled ps p script n (begun (stored_begin ps p s)) ≡ Unrolling.sums t
    → AreSums (procedure_at ps p) (runs ps n (begin ps p s) (scripted ps script n 0 (begin ps p s)))
    t
