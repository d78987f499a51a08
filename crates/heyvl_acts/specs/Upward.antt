-- Acts as a ranking counts them: rewards are left out, and every havoc and every pick is upward, so
-- that the ranking bounds all choices of a scheduler. This project's own.
use Rattle.std.specs.Prelude.{true}
use Rattle.heyvl_acts.specs.Acts.{Act, Acts, Arms}

abbrev mutual
  -- A sequence of acts as a ranking counts it.
  pub upward : Acts → Acts
  upward Acts.done = Acts.done
  upward (Acts.next a rest) = upward_next a (upward rest)

  -- An act, followed by acts that are counted already.
  pub upward_next : Act → Acts → Acts
  upward_next (Act.set x t span) rest = Acts.next (Act.set x t span) rest
  upward_next (Act.draw x ps span) rest = Acts.next (Act.draw x ps span) rest
  upward_next (Act.toss x f span) rest = Acts.next (Act.toss x f span) rest
  upward_next (Act.any x up ty span) rest = Acts.next (Act.any x true ty span) rest
  upward_next (Act.reward f span) rest = rest
  upward_next (Act.ifs arms e span) rest =
      Acts.next (Act.ifs (upward_arms arms) (upward e) span) rest
  upward_next (Act.pick up a b span) rest =
      Acts.next (Act.pick true (upward a) (upward b) span) rest
  upward_next (Act.check kind f span) rest = Acts.next (Act.check kind f span) rest
  upward_next (Act.validate co span) rest = Acts.next (Act.validate co span) rest
  upward_next (Act.loop h b) rest = Acts.next (Act.loop h b) rest
  upward_next (Act.call xs p es span) rest = Acts.next (Act.call xs p es span) rest

  -- Arms as a ranking counts them.
  pub upward_arms : Arms → Arms
  upward_arms Arms.no_arm = Arms.no_arm
  upward_arms (Arms.arm g b more) = Arms.arm g (upward b) (upward_arms more)
