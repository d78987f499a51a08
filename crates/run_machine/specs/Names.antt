-- The configurations of the program, which name acts by their places, and the configurations of the
-- definition of runs (`Configurations`) that they represent. This project's own.
use Rattle.std.specs.Prelude.{◌≡◌, ◌+◌, ℕ, true, false, List, [], ◌∷◌, Option, Some, None, map}
use Rattle.std.specs.Prelude.{length, reverse, get_or}
use Rattle.std.specs.Borrow.{Bor}
use Prim.Native.Nat.{zero, suc}
use Rattle.heyvl_num.specs.Value.{Value}
use Rattle.heyvl_num.specs.ExtendedNumbers as extended
use Rattle.heylo_formula.specs.declared.values.Val.{Val}
use Rattle.heyvl_acts.specs.Acts.{Act, Acts, TypedProcedure, types_of, procedure_at}
use Rattle.heyvl_acts.specs.Places.{act_named, inside}
use Rattle.run_machine.specs.declared.configurations.Item as I
use Rattle.run_machine.specs.declared.configurations.Item.TheVariants.{Do, Turn, Out, Back}
use Rattle.run_machine.specs.declared.configurations.Frame as F
use Rattle.run_machine.specs.declared.configurations.Config as C
use Rattle.run_machine.specs.declared.configurations.Decide.{Decide}
use Rattle.run_machine.specs.declared.configurations.Decide.TheVariants.{Left, Right, Give}
use Rattle.run_machine.specs.Configurations.{Item, Frame, Config}
use Rattle.run_machine.specs.Step.{Decision}

-- `Names ps p place a`: `a` is the act at `place` in the text of the body of procedure `p`.
abbrev pub Names : List TypedProcedure → ℕ → ℕ → Act → Type 0
Names ps p place a = act_named ps p place ≡ Some a

-- An item of the program, by numbers of procedures and places.
abbrev pub Numbered : Type 0
Numbered = I.Item

-- The item of an act; a return if there is no act.
abbrev pub act_item : Option Act → Item
act_item (Some a) = Item.act a
act_item None = Item.back

-- The item of a loop's test; a return if there is no loop.
abbrev pub turn_item : Option Act → Item
turn_item (Some (Act.loop h b)) = Item.turn h b
turn_item other = Item.back

-- The item of a run that an item of the program represents.
abbrev pub item_of : List TypedProcedure → Numbered → Item
item_of ps (Do p place) = act_item (act_named ps p place)
item_of ps (Turn p place) = turn_item (act_named ps p place)
item_of ps (Out p x) = Item.out x (types_of (procedure_at ps p) x)
item_of ps (Back p place) = Item.back

-- The items of a run that the items of the program represent, in their order.
abbrev pub items_of : List TypedProcedure → List Numbered → List Item
items_of ps is = map (item_of ps) is

-- The targets and the procedure of a call; no targets and the procedure 0 if the act is no call.
abbrev pub call_parts : Option Act → List ℕ × ℕ
call_parts (Some (Act.call xs p es span)) = (xs, p)
call_parts other = ([], 0)

-- The targets and the procedure of the call to which an item returns.
abbrev pub call_of : List TypedProcedure → Numbered → List ℕ × ℕ
call_of ps (Back p place) = call_parts (act_named ps p place)
call_of ps (Do p place) = ([], 0)
call_of ps (Turn p place) = ([], 0)
call_of ps (Out p x) = ([], 0)

-- The targets and the procedure of the call to which the last of the items returns.
abbrev pub last_call : List TypedProcedure → List Numbered → List ℕ × ℕ
last_call ps [] = ([], 0)
last_call ps (i ∷ []) = call_of ps i
last_call ps (i ∷ (j ∷ is)) = last_call ps (j ∷ is)

-- The items and the state of a frame.
abbrev pub Lists : Type 0
Lists = List Numbered × List Val

-- A frame of the program, with lists for vectors.
abbrev pub lists_of : F.Frame → Lists
lists_of f = (f.items.items, f.state.items)

-- A stored configuration: one of the program, with lists for vectors. Its frames begin with the
-- first caller, and `made` is the number of decisions asked for so far.
pub record Stored : Type 0 where
  pub procedure : ℕ
  pub items : List Numbered
  pub state : List Val
  pub frames : List Lists
  pub reward : Value
  pub turns : List ℕ
  pub made : ℕ

-- A configuration of the program as a stored configuration.
abbrev pub stored : C.Config → Stored
stored c = record {
  procedure = c.proc;
  items = c.items.items;
  state = c.state.items;
  frames = map lists_of c.frames.items;
  reward = extended.value_of c.reward;
  turns = c.turns.items;
  made = c.made;
}

-- The callers, the last one first. `above` are the items of the procedure called last; their last
-- item names the call.
abbrev pub callers : List TypedProcedure → List Numbered → List Lists → List Frame
callers ps above [] = []
callers ps above (f ∷ fs) = record {
  items = items_of ps f.0;
  state = f.1;
  targets = (last_call ps above).0;
  callee = (last_call ps above).1;
} ∷ callers ps f.0 fs

-- The iterations of a loop by its number. The loops are numbered from 1.
abbrev pub turns_of : List ℕ → ℕ → ℕ
turns_of ts zero = 0
turns_of ts (suc n) = get_or ts n 0

-- The configuration of a run that a stored configuration represents.
abbrev pub config_of : List TypedProcedure → Stored → Config
config_of ps c = record {
  procedure = c.procedure;
  items = items_of ps c.items;
  frames = callers ps c.items (reverse c.frames);
  state = c.state;
  reward = c.reward;
  turns = turns_of c.turns;
}

-- The decision of a scheduler that a decision of the program represents.
abbrev pub decision_of : Option (Bor Decide) → Decision
decision_of None = Decision.none
decision_of (Some d) = decided d.now
  where
    decided : Decide → Decision
    decided Left = Decision.side true
    decided Right = Decision.side false
    decided (Give v) = Decision.given v

-- `numbered p place acts`: the items of `acts` in the procedure `p`, the first of which is at
-- `place`. An act is followed by the acts in it, so the second item has the place `place` + 1 only
-- if the first act has no acts in it.
abbrev pub numbered : ℕ → ℕ → Acts → List Numbered
numbered p place Acts.done = []
numbered p place (Acts.next a rest) = Do p place ∷ numbered p (place + suc (length (inside a))) rest
