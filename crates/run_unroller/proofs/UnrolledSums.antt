-- The sums of unrolling are those over the runs.
use Rattle.std.proofs.Common.{◌≡◌, ℕ, ◌+◌, ap, sym, subst, ◌∙◌, List, [], ◌∷◌}
use Prim.Native.Nat.{suc}
use Rattle.std.specs.Prelude.{Option, Some, None}
use Rattle.heyvl_num.specs.Rational.{Rational}
use Rattle.heyvl_num.specs.Value.{Value}
use Rattle.heyvl_num.specs.WeightedSums.{weighted_sum}
use Rattle.heyvl_acts.specs.Acts.{TypedProcedure, procedure_at}
use Rattle.run_machine.specs.Configurations.{Config, Outcomes, begin}
use Rattle.run_machine.specs.Names.{config_of}
use Rattle.run_machine.specs.Runs.{runs}
use Rattle.run_machine.specs.StoredStep.{stored_begin}
use Rattle.run_machine.specs.Sums.{turns_in}
use Rattle.run_machine.proofs.exported.StoredSteps.{stored_begun, stored_config}
use Rattle.run_unroller.specs.declared.causes.Cause.{Cause}
use Rattle.run_unroller.specs.Causes.{first_stop}
use Rattle.run_unroller.specs.RunLists.{after, begun, outcomes}
use Rattle.run_unroller.specs.ScriptTrees.{scripted}
use Rattle.run_unroller.specs.Totals.{Totals, totals}
use Rattle.run_unroller.specs.Unrolling.{Unrolling, stop_or, sums_or}
use Rattle.run_unroller.specs.UnrollLaws.{AreSums, AreTurns, TotalsAreSums, UnrolledSumsAreMeant}
use Rattle.run_unroller.proofs.ListsOfRuns.{lists_are_runs}

-- Outcomes with the same sums have the same totals.
module _ (xs ys : Outcomes) (same : (f : Config → Value) → weighted_sum f xs ≡ weighted_sum f ys) where
  turns_same : (number : ℕ) (ts : List Rational) → AreTurns number ts xs → AreTurns number ts ys
  turns_same number [] h = tt
  turns_same number (t ∷ ts) h = (sym (same (turns_in number)) ∙ h.0, turns_same (suc number) ts h.1)

  sums_same : (p : TypedProcedure) (t : Totals) → AreSums p xs t → AreSums p ys t
  sums_same p t h = record {
    post = sym (same _) ∙ h.post;
    reward = sym (same _) ∙ h.reward;
    running = sym (same _) ∙ h.running;
    upper = sym (same _) ∙ h.upper;
    weak = sym (same _) ∙ h.weak;
    turns = turns_same 1 t.turns h.turns;
    loops = h.loops;
  }

sums_given : (o : Option (Cause × ℕ)) (q : Option Totals) (n : ℕ) (t : Totals) → stop_or o (sums_or n q) ≡ Unrolling.sums t → q ≡ Some t
sums_given (Some stop) q n t e = absurd (cc)
sums_given None (Some u) n t e = cc
sums_given None None n t e = absurd (cc)

pub unrolled_are : TotalsAreSums → UnrolledSumsAreMeant
unrolled_are m ps p rules programs s typed script n t e =
    let c = stored_begin ps p s in
    let list = after ps script n (begun c) in
    let given = sums_given (first_stop ps script n (begun c)) (totals (procedure_at ps p) list) (n + 1) t e in
    let read : runs ps n (config_of ps c) (scripted ps script n 0 (config_of ps c)) ≡ runs ps n (begin ps p s) (scripted ps script n 0 (begin ps p s)) = ap (λ d. runs ps n d (scripted ps script n 0 d)) (stored_begun ps p s) in
    subst (λ l. AreSums (procedure_at ps p) l t) read (sums_same (outcomes ps list) _ (lists_are_runs ps rules script n c (stored_config ps p s programs typed)) (procedure_at ps p) t (m ps (procedure_at ps p) list t given))
