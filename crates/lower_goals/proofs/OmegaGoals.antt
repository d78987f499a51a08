-- The goals of an omega pair do not depend on how its first procedure is taken apart.
use Rattle.std.proofs.Common.{◌≡◌, sym, subst, ℕ}
use Rattle.heylo_formula.specs.declared.goals.Made.{Made}
use Rattle.heyvl_acts.specs.Acts.{Acts, Head, TypedProcedure, procedure_at}
use Rattle.heyvl_acts.specs.PlainActs.{procedures_of}
use Rattle.heyvl_acts.specs.declared.typed_trees.Typed.{Typed}
use Rattle.lower_goals.specs.OmegaGoals.{limited, step_goal}
use Rattle.lower_goals.specs.OmegaPairs.{OmegaPair, formula_of}
use Rattle.lower_goals.specs.OneLoop.{OneLoop}
use Rattle.lower_goals.specs.LimitedGoals.{IsMadeFor}
use Rattle.lower_goals.specs.declared.answers.Step.{Step}
use Rattle.lower_goals.specs.declared.pairs.Pair.{Pair}
use Rattle.lower_goals.specs.LentOmegaPairs.{IsMadeStep, IsPairAt, behind, body, first, head, second}
use Rattle.lower_goals.proofs.ReadyPairs.{the_loop}
use Rattle.lower_goals.proofs.UniqueLoops.{unique_loops}

-- The result for the goal of a step of two procedures, where the first one has this loop, and these
-- acts after it.
abbrev IsMadeOf : TypedProcedure → TypedProcedure → Head → Acts → Acts → Step → Made → Type 0
IsMadeOf p q h b after step m = IsMadeFor (step_goal p h b after q step) (limited p b after (formula_of p h q) step) m

of_parts : (p q : TypedProcedure) (l k : OneLoop p) (step : Step) (m : Made) → IsMadeOf p q l.head l.body l.behind step m → IsMadeOf p q k.head k.body k.behind step m
of_parts p q l k step m h =
    let same = unique_loops p l k in
    subst (λ b. IsMadeOf p q k.head k.body b step m) same.behind_is (subst (λ b. IsMadeOf p q k.head b l.behind step m) same.body_is (subst (λ (g : Head). IsMadeOf p q g l.body l.behind step m) same.head_is h))

module _ (typed : Typed) (p q : ℕ) (x : Pair) (is : IsPairAt typed p q x) (step : Step) (m : Made) (made : IsMadeStep x step m) where
  at_first : (l : OmegaPair (first x) (second x)) → IsMadeOf (first x) (second x) l.loop.head l.loop.body l.loop.behind step m
  at_first l = of_parts (first x) (second x) (the_loop x is.ready) l.loop step m made

  moved : (a b : TypedProcedure) → a ≡ first x → b ≡ second x → (l : OmegaPair a b) → IsMadeOf a b l.loop.head l.loop.body l.loop.behind step m
  moved a b e f = subst (λ (d : TypedProcedure). (l : OmegaPair a d) → IsMadeOf a d l.loop.head l.loop.body l.loop.behind step m) (sym f) (subst (λ (d : TypedProcedure). (l : OmegaPair d (second x)) → IsMadeOf d (second x) l.loop.head l.loop.body l.loop.behind step m) (sym e) at_first)

  pub pair_goal : (l : OmegaPair (procedure_at (procedures_of typed) p) (procedure_at (procedures_of typed) q)) → IsMadeOf (procedure_at (procedures_of typed) p) (procedure_at (procedures_of typed) q) l.loop.head l.loop.body l.loop.behind step m
  pair_goal l = moved (procedure_at (procedures_of typed) p) (procedure_at (procedures_of typed) q) is.first_is is.second_is l
