-- Lower bounds with a remainder: on the expected post of the runs that terminate within m
-- iterations, up to one part in m of a bound on the expected iterations. This project's own.
use Rattle.std.specs.Int.RustNames.{unsigned_abs}
use Rattle.std.specs.Prelude.{◌≤◌, ◌<◌, ◌*◌, ℕ, List, length, pos}
use Rattle.heyvl_num.specs.Rational.{Rational, ratio, zeroʳ, ◌<ʳ◌}
use Rattle.heyvl_num.specs.Value.{Value, oneᵛ, ◌+ᵛ◌, ◌*ᵛ◌, ◌≤ᵛ◌}
use Rattle.heyvl_num.specs.Value.Value.{finite}
use Rattle.heylo_formula.specs.Choices.{Choices}
use Rattle.heylo_formula.specs.Formula.{Form}
use Rattle.heylo_formula.specs.Meaning.{value}
use Rattle.heylo_formula.specs.State.{environment}
use Rattle.heylo_formula.specs.declared.values.Val.{Val}
use Rattle.heyvl_acts.specs.Acts.{Head, Acts, TypedProcedure, procedure_at}
use Rattle.heyvl_acts.specs.Forward.{forward}
use Rattle.heyvl_acts.specs.Rules.{Each, MeetsRules}
use Rattle.heyvl_acts.specs.Upward.{upward}
use Rattle.run_machine.specs.Bound.{IsState, Bound, RankedBy}
use Rattle.run_machine.specs.Configurations.{begin}
use Rattle.run_machine.specs.Runs.{runs}
use Rattle.run_machine.specs.Scheduler.{Tree}
use Rattle.lower_rules.specs.CollectedSums.{collected}
use Rattle.lower_goals.specs.OneLoop.{OneLoop, steps}

-- The post is at most 1 in each state of the procedure.
abbrev pub HasSmallPost : TypedProcedure → Type 0
HasSmallPost p = (s : List Val) → IsState p s → value p.post (environment s) Choices.stop ≤ᵛ oneᵛ

-- The fraction 1/(e*m), for `e` above 0.
abbrev pub one_part : Rational → ℕ → Rational
one_part e m = ratio (pos e.den) (unsigned_abs e.num * m)

-- From the state `s`, for every `m` above 0, every `n` from `steps`(m) on and every scheduler: the
-- expected post of the runs that terminate within `m` iterations, plus u/(e*m), is at least the
-- pre.
abbrev pub BoundsWithRemainder : List TypedProcedure → (p : ℕ) → (front body behind : Acts) → Head
    → Rational → Value → List Val → Type 0
BoundsWithRemainder ps p front body behind h e u s = (m n : ℕ) → 0 < m
    → steps front body behind m ≤ n → (t : Tree)
    → value (procedure_at ps p).pre (environment s) Choices.stop
    ≤ᵛ collected m h.number (procedure_at ps p).post (runs ps n (begin ps p s) t)
    +ᵛ (finite (one_part e m) *ᵛ u)

-- Let the bound of a proc with `@wlp` hold for its weak sums, let its post be at most 1, and let
-- its loop have a ranking that bounds its iterations, with a step above 0. If `u` is at least the
-- expected value of the ranking after the acts before the loop, taken upward, for all choices, the
-- expected post of the runs that terminate within m iterations is at least the pre less u/(step*m).
abbrev pub RemainderBoundsRuns : Type 0
RemainderBoundsRuns = (ps : List TypedProcedure) (p : ℕ) → Each (MeetsRules ps) ps → p < length ps
    → (l : OneLoop (procedure_at ps p)) (r : Rational × Form) → zeroʳ <ʳ r.0 → Bound ps p
    → HasSmallPost (procedure_at ps p) → RankedBy ps p l.head l.body r → (s : List Val)
    → IsState (procedure_at ps p) s → (u : Value)
    → ((c : Choices) → forward (upward l.front) (value r.1) (environment s) c ≤ᵛ u)
    → BoundsWithRemainder ps p l.front l.body l.behind l.head r.0 u s
