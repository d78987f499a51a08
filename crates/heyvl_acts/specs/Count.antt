-- The number of statements in the encoding of acts, computed without it.
--
-- An act counts 1, but an `if` counts 1 for each arm, plus the acts in its blocks; a pick counts 1
-- plus the acts in its blocks. A call becomes its assignments, two checks, a validation and a havoc
-- for each output. A loop becomes two checks, a havoc for each modified variable, a validation, and
-- the copies of its body, each in an `if` of one arm and followed by a check; the last copy ends in
-- one more check. Source: the encodings are this project's own, in the manner of latticed
-- k-induction (Batz et al., CAV 2021).
use Rattle.std.specs.Prelude.{ℕ, ◌+◌, ◌*◌, length}
use Rattle.heyvl_acts.specs.Acts.{Act, Acts, Arms}
use Rattle.heyvl_acts.specs.ModifiedVariables.{modified}

-- The number of statements of `k` copies of a body of `n` statements, with their ifs and checks.
abbrev pub count_of_copies : ℕ → ℕ → ℕ
count_of_copies k n = k * (n + 2)

abbrev mutual
  -- The number of statements in the encoding of an act, nested ones included. A call with 2
  -- arguments and 1 target counts 7.
  pub count_of_act : Act → ℕ
  count_of_act (Act.set x t span) = 1
  count_of_act (Act.draw x ps span) = 1
  count_of_act (Act.toss x p span) = 1
  count_of_act (Act.any x up ty span) = 1
  count_of_act (Act.reward f span) = 1
  count_of_act (Act.ifs arms e span) = count_of_arms arms + count_of e
  count_of_act (Act.pick up a b span) = 1 + (count_of a + count_of b)
  count_of_act (Act.check kind f span) = 1
  count_of_act (Act.validate co span) = 1
  count_of_act (Act.loop h b) = 4 + (length (modified h.scope b) + count_of_copies h.k (count_of b))
  count_of_act (Act.call xs p es span) = 3 + (length es + (length xs + length xs))

  -- The number of statements in the encoding of a sequence of acts.
  pub count_of : Acts → ℕ
  count_of Acts.done = 0
  count_of (Acts.next a rest) = count_of_act a + count_of rest

  -- The number of statements in the encoding of arms. Each arm counts as one more.
  pub count_of_arms : Arms → ℕ
  count_of_arms Arms.no_arm = 0
  count_of_arms (Arms.arm g b more) = 1 + (count_of b + count_of_arms more)
