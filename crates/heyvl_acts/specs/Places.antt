-- The place of an act: its index in the text of its procedure's body, counted from 0. An act
-- precedes the acts in it.
use Rattle.std.specs.Prelude.{ℕ, List, [], ◌∷◌, ◌++◌, Option, Some, None}
use Rattle.std.specs.Borrow.{Bor}
use Prim.Native.Nat.{zero, suc}
use Rattle.heyvl_acts.specs.Acts.{Act, Acts, Arms, TypedProcedure, acts_in}
use Rattle.heyvl_acts.specs.PlainActs.{act_of}
use Rattle.heyvl_acts.specs.declared.acts.Act as A

abbrev mutual
  -- The acts of a sequence and the acts in them, in the order of the text.
  pub in_order : Acts → List Act
  in_order Acts.done = []
  in_order (Acts.next a rest) = a ∷ (inside a ++ in_order rest)

  -- The acts in an act, in the order of the text.
  pub inside : Act → List Act
  inside (Act.set x t span) = []
  inside (Act.draw x ps span) = []
  inside (Act.toss x p span) = []
  inside (Act.any x up ty span) = []
  inside (Act.reward f span) = []
  inside (Act.ifs arms e span) = inside_arms arms ++ in_order e
  inside (Act.pick up a b span) = in_order a ++ in_order b
  inside (Act.check kind f span) = []
  inside (Act.validate co span) = []
  inside (Act.loop h b) = in_order b
  inside (Act.call xs p es span) = []

  -- The acts in the arms, in the order of the text.
  pub inside_arms : Arms → List Act
  inside_arms Arms.no_arm = []
  inside_arms (Arms.arm g b more) = in_order b ++ inside_arms more

-- The element with the index `n`, if the list is long enough.
abbrev pub nth : {A : Type 0} → List A → ℕ → Option A
nth [] n = None
nth (x ∷ xs) zero = Some x
nth (x ∷ xs) (suc n) = nth xs n

-- The acts of a procedure's body and the acts in them, in the order of the text; none if there is
-- no procedure.
abbrev pub acts_of_procedure : Option TypedProcedure → List Act
acts_of_procedure (Some p) = in_order (acts_in p.body)
acts_of_procedure None = []

-- The act at a place of a procedure's body.
abbrev pub act_named : List TypedProcedure → ℕ → ℕ → Option Act
act_named ps p place = nth (acts_of_procedure (nth ps p)) place

-- The plain tree of a borrowed act, if there is one.
abbrev pub held : Option (Bor A.Act) → Option Act
held (Some a) = Some (act_of a.now)
held None = None
