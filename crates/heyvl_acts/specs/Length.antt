-- The length of acts without loops and calls: the largest number of steps of a run.
use Rattle.std.specs.Prelude.{ℕ, ◌+◌, if◌then◌else◌, leb}
use Rattle.heyvl_acts.specs.Acts.{Act, Acts, Arms}

-- The larger of two lengths.
abbrev pub longer : ℕ → ℕ → ℕ
longer m n = if leb m n then n else m

abbrev mutual
  -- The length of an act: 1, plus the largest length of a block for an `if` or a pick.
  pub length_of_act : Act → ℕ
  length_of_act (Act.set x t span) = 1
  length_of_act (Act.draw x ps span) = 1
  length_of_act (Act.toss x p span) = 1
  length_of_act (Act.any x up ty span) = 1
  length_of_act (Act.reward f span) = 1
  length_of_act (Act.ifs arms e span) = 1 + longer (longest arms) (length_of e)
  length_of_act (Act.pick up a b span) = 1 + longer (length_of a) (length_of b)
  length_of_act (Act.check kind f span) = 1
  length_of_act (Act.validate co span) = 1
  length_of_act (Act.loop h b) = 1
  length_of_act (Act.call xs p es span) = 1

  -- The length of a sequence of acts.
  pub length_of : Acts → ℕ
  length_of Acts.done = 0
  length_of (Acts.next a rest) = length_of_act a + length_of rest

  -- The largest length of an arm.
  pub longest : Arms → ℕ
  longest Arms.no_arm = 0
  longest (Arms.arm g b more) = longer (length_of b) (longest more)
