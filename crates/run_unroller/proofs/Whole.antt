-- The result after the steps of the first list of runs.
use Rattle.std.proofs.Common.{◌≡◌, ℕ, ◌+◌, ap, sym, ◌∙◌, List}
use Rattle.std.specs.Prelude.{None}
use Rattle.heyvl_acts.specs.Acts.{TypedProcedure, procedure_at}
use Rattle.run_machine.specs.declared.configurations.Decide.{Decide}
use Rattle.run_unroller.specs.Causes.{first_stop}
use Rattle.run_unroller.specs.RunLists.{RunList, after}
use Rattle.run_unroller.specs.Totals.{totals}
use Rattle.run_unroller.specs.Unrolling.{Unrolling, stop_or, sums_or, unrolled}

pub summed_answer : (ps : List TypedProcedure) (p : ℕ) (script : List Decide) (n : ℕ) (rs bs list : RunList) (u : Unrolling) → rs ≡ bs → first_stop ps script n rs ≡ None → list ≡ after ps script n rs → u ≡ sums_or (n + 1) (totals (procedure_at ps p) list) → u ≡ unrolled ps p script n bs
summed_answer ps p script n rs bs list u b e l h =
    h ∙ ap (λ xs. sums_or (n + 1) (totals (procedure_at ps p) xs)) (l ∙ ap (after ps script n) b)
    ∙ ap (λ o. stop_or o (sums_or (n + 1) (totals (procedure_at ps p) (after ps script n bs)))) (sym e ∙ ap (first_stop ps script n) b)
