-- Acts that are neither loops nor calls.
use Rattle.heyvl_acts.specs.Acts.{Act}

-- The act is neither a loop nor a call. The acts in its blocks do not count: an `if` with a loop in
-- it is straight.
abbrev pub IsStraight : Act → Type 0
IsStraight (Act.loop h b) = ⊥
IsStraight (Act.call xs q es span) = ⊥
IsStraight (Act.set x t span) = Unit {0}
IsStraight (Act.draw x qs span) = Unit {0}
IsStraight (Act.toss x f span) = Unit {0}
IsStraight (Act.any x up ty span) = Unit {0}
IsStraight (Act.reward f span) = Unit {0}
IsStraight (Act.ifs arms e span) = Unit {0}
IsStraight (Act.pick up a b span) = Unit {0}
IsStraight (Act.check kind f span) = Unit {0}
IsStraight (Act.validate co span) = Unit {0}
