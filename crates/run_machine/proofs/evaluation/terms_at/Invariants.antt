use Rattle.std.proofs.Common.{◌≡◌, ◌++◌, drop}
use Rattle.heyvl_acts.specs.PlainActs.{terms_of}
use Rattle.heylo_formula.specs.State.{environment}
use Rattle.run_machine.specs.BoundedStep.{terms_fit}
use Rattle.run_machine.specs.Configurations.{evaluate}
use Rattle.run_machine.proofs.evaluation.terms_at.Given as goal

-- The terms that are left determine whether all have values; their values follow those so far.
abbrev pub invariant-loop-term : goal.invariant-loop-term
invariant-loop-term l = record {
  fits : terms_fit (terms_of l.terms) l.state ≡ terms_fit (terms_of (drop l.term-index l.terms)) l.state;
  values : evaluate (terms_of l.terms) (environment l.state) ≡ l.values.items ++ evaluate (terms_of (drop l.term-index l.terms)) (environment l.state);
}
