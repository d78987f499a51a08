-- Runs of files that differ only in the rules of loops and in places, and violations of a bound by
-- runs. This project's own.
use Rattle.std.specs.Prelude.{◌≡◌, ℕ, Bool, true, List}
use Rattle.heyvl_num.specs.Value.{◌<ᵛ◌}
use Rattle.heylo_formula.specs.Choices.{Choices}
use Rattle.heylo_formula.specs.Meaning.{value}
use Rattle.heylo_formula.specs.State.{environment}
use Rattle.heylo_formula.specs.declared.values.Val.{Val}
use Rattle.heyvl_acts.specs.Acts.{TypedProcedure, procedure_at}
use Rattle.run_machine.specs.Bound.{Bound, IsState}
use Rattle.run_machine.specs.Configurations.{begin}
use Rattle.run_machine.specs.Runs.{runs}
use Rattle.run_machine.specs.Scheduler.{Tree}
use Rattle.run_machine.specs.Sums.{sum_of}
use Rattle.run_laws.specs.Bare.{bare_procedures}

-- The sums over the runs of a file are those of the bare file, which has neither rules of loops nor
-- places.
abbrev pub SumsAreBare : Type 0
SumsAreBare = (ps : List TypedProcedure) (up : Bool) (p n : ℕ) (s : List Val) (t : Tree)
    → sum_of up (procedure_at ps p).post (runs ps n (begin ps p s) t)
    ≡ sum_of up (procedure_at (bare_procedures ps) p).post
    (runs (bare_procedures ps) n (begin (bare_procedures ps) p s) t)

-- If a bound holds in a file, it holds in each file with the same bare file, since the runs are the
-- same.
abbrev pub RulesDoNotRun : Type 0
RulesDoNotRun = (ps qs : List TypedProcedure) → bare_procedures ps ≡ bare_procedures qs → (p : ℕ)
    → Bound qs p → Bound ps p

-- If a sum over the runs of a coproc is above its pre, its bound holds in no file with the same
-- bare file.
abbrev pub ViolationsRefute : Type 0
ViolationsRefute = (ps qs : List TypedProcedure) → bare_procedures ps ≡ bare_procedures qs → (p : ℕ)
    → (procedure_at ps p).co ≡ true → (s : List Val) → IsState (procedure_at ps p) s
    → (n : ℕ) (t : Tree)
    → value (procedure_at ps p).pre (environment s) Choices.stop <ᵛ sum_of true
    (procedure_at ps p).post (runs ps n (begin ps p s) t) → Bound qs p → ⊥
