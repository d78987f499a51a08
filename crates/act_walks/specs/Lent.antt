-- The plain trees of borrowed acts and loops.
use Rattle.std.specs.Prelude.{Option, Some, None}
use Rattle.std.specs.Borrow.{Bor}
use Rattle.heyvl_acts.proofs.exported.PlainActsAre.{head_of}
use Rattle.heyvl_acts.specs.Acts.{Head, Act, Acts}
use Rattle.heyvl_acts.specs.PlainActs.{act_of, acts_of}
use Rattle.heyvl_acts.specs.declared.acts.Act as A
use Rattle.heyvl_acts.specs.declared.acts.LoopAct.{LoopAct}

-- The plain tree of a borrowed act.
abbrev pub lent : Bor A.Act → Act
lent a = act_of a.now

-- The head and the body of a loop, as plain trees.
abbrev pub parts_of : LoopAct → Head × Acts
parts_of l = (head_of l, acts_of l.body.items)

-- The head and the body of a borrowed loop, if there is one.
abbrev pub lent_loop : Option (Bor LoopAct) → Option (Head × Acts)
lent_loop (Some l) = Some (parts_of l.now)
lent_loop None = None
