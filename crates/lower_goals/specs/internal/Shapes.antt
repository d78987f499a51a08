-- The one loop of a procedure as the program borrows it.
use Rattle.std.specs.Prelude.{◌≡◌, Bool, true, false, ◌&&◌, List, [], ◌∷◌, Option, Some, None}
use Rattle.std.specs.Borrow.{Bor}
use Rattle.heyvl_acts.proofs.exported.PlainActsAre.{head_of}
use Rattle.heyvl_acts.specs.Acts.{Act, Acts, TypedProcedure}
use Rattle.heyvl_acts.specs.PlainActs.{acts_of}
use Rattle.heyvl_acts.specs.declared.acts.LoopAct.{LoopAct}
use Rattle.lower_goals.specs.OneLoop.{IsOneLoop, OneLoop}
use Rattle.lower_goals.specs.declared.shapes.LoopParts.{LoopParts}

-- The result is the parts of a procedure with one loop; it is nothing if the procedure is none.
abbrev pub IsLoopOf : TypedProcedure → Option LoopParts → Type 0
IsLoopOf p (Some l) = IsOneLoop p (acts_of l.front.now) (head_of l.one.now)
    (acts_of l.one.now.body.items) (acts_of l.behind.now)
IsLoopOf p None = OneLoop p → ⊥

-- Whether the act is neither loop nor call.
abbrev pub is_straight : Act → Bool
is_straight (Act.loop h b) = false
is_straight (Act.call xs q es span) = false
is_straight (Act.set x t span) = true
is_straight (Act.draw x qs span) = true
is_straight (Act.toss x f span) = true
is_straight (Act.any x up ty span) = true
is_straight (Act.reward f span) = true
is_straight (Act.ifs arms e span) = true
is_straight (Act.pick up a b span) = true
is_straight (Act.check kind f span) = true
is_straight (Act.validate co span) = true

abbrev pub all_straight : List Act → Bool
all_straight [] = true
all_straight (a ∷ rest) = is_straight a && all_straight rest

-- The act is no loop, and none of the acts of a sequence is one. The acts in them do not count.
abbrev pub IsNoLoop : Act → Type 0
IsNoLoop (Act.loop h b) = ⊥
IsNoLoop (Act.call xs q es span) = Unit {0}
IsNoLoop (Act.set x t span) = Unit {0}
IsNoLoop (Act.draw x qs span) = Unit {0}
IsNoLoop (Act.toss x f span) = Unit {0}
IsNoLoop (Act.any x up ty span) = Unit {0}
IsNoLoop (Act.reward f span) = Unit {0}
IsNoLoop (Act.ifs arms e span) = Unit {0}
IsNoLoop (Act.pick up a b span) = Unit {0}
IsNoLoop (Act.check kind f span) = Unit {0}
IsNoLoop (Act.validate co span) = Unit {0}

abbrev pub HasNoLoop : Acts → Type 0
HasNoLoop Acts.done = Unit {0}
HasNoLoop (Acts.next a rest) = IsNoLoop a × HasNoLoop rest

-- The result is the loop that the act is; it is nothing if the act is no loop.
abbrev pub IsLoopIn : Act → Option (Bor LoopAct) → Type 0
IsLoopIn a (Some l) = a ≡ Act.loop (head_of l.now) (acts_of l.now.body.items)
IsLoopIn a None = IsNoLoop a
