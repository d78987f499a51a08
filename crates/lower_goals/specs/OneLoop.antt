-- Procs with `@wlp` and one loop, and the number of steps of their runs with few iterations. This
-- project's own.
use Rattle.std.specs.Prelude.{◌≡◌, ◌+◌, ◌*◌, ℕ, true}
use Rattle.heyvl_acts.specs.Acts.{Head, Act, Acts, TypedProcedure, acts_in, join}
use Rattle.heyvl_acts.specs.Length.{length_of}
use Rattle.heyvl_acts.specs.Places.{in_order}
use Rattle.heyvl_acts.specs.Program.{IsProgram}
use Rattle.heyvl_acts.specs.Rules.{Each}
use Rattle.heyvl_acts.specs.Straight.{IsStraight}

-- The procedure `p` has `@wlp` and is a program. Its body is the acts `front`, one loop, and the
-- acts `behind`. Neither these nor the loop's body contain a loop or a call.
pub record IsOneLoop (p : TypedProcedure) (front : Acts) (head : Head) (body behind : Acts)
    : Type 0 where
  pub whole : acts_in p.body ≡ join front (Acts.next (Act.loop head body) behind)
  pub plain_front : Each IsStraight (in_order front)
  pub plain_body : Each IsStraight (in_order body)
  pub plain_behind : Each IsStraight (in_order behind)
  pub weak : p.weak ≡ true
  pub program : IsProgram p

-- A procedure with one loop: the acts before the loop, the loop, and the acts after it.
pub record OneLoop (p : TypedProcedure) : Type 0 where
  pub front : Acts
  pub head : Head
  pub body : Acts
  pub behind : Acts
  pub is : IsOneLoop p front head body behind

-- The largest number of steps of a run with at most `m` iterations, from the loop's test on.
abbrev pub steps_from_test : Acts → Acts → ℕ → ℕ
steps_from_test body behind m = m * (1 + length_of body) + (1 + length_of behind)

-- The largest number of steps of a run with at most `m` iterations, from the start of the
-- procedure.
abbrev pub steps : Acts → Acts → Acts → ℕ → ℕ
steps front body behind m = length_of front + steps_from_test body behind m
