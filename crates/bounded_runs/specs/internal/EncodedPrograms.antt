-- Programs whose main goal holds, from which the bound by the meaning of the body follows. This
-- project's own.
use Rattle.std.specs.Prelude.{ℕ, List}
use Rattle.heyvl_acts.specs.Acts.{TypedProcedure, acts_in, procedure_at}
use Rattle.heyvl_acts.specs.Visible.{interface, Scoped}
use Rattle.loop_encodings.specs.BoundGoals.{IsBounded}
use Rattle.bounded_runs.specs.internal.Programs.{HasFormulas, IsMeantWithin, Program}

-- The procedure `p` is a program whose main goal holds, and each procedure that it calls satisfies
-- `R`.
pub record IsEncodedProgram (ps : List TypedProcedure) (R : ℕ → Type 0) (p : TypedProcedure)
    : Type 0 where
  pub callees : (n : ℕ) → R n → HasFormulas (procedure_at ps n)
  pub formulas : HasFormulas p
  pub program : Program p.co ps R p (acts_in p.body)
  pub scoped : Scoped (interface p) (acts_in p.body)
  pub bounded : IsBounded ps p

-- If `p` is an encoded program, its bound holds by the meaning of its body.
abbrev pub EncodedBoundHolds : List TypedProcedure → (ℕ → Type 0) → TypedProcedure → Type 0
EncodedBoundHolds ps R p = IsEncodedProgram ps R p → IsMeantWithin p.co ps p
