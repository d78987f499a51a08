-- The condition on the program's configurations: their items name acts and outputs of the
-- procedures that run, and their states have values of the right types. Each step preserves it.
-- This project's own.
use Rattle.std.specs.Prelude.{◌≡◌, ◌≤◌, ◌<◌, ◌^◌, ℕ, List, [], ◌∷◌, ◌++◌, length, reverse}
use Rattle.heyvl_places.specs.declared.spans.Span.{Span}
use Rattle.heylo_formula.specs.Formula.{Term}
use Rattle.heylo_formula.specs.declared.values.Val.{Val}
use Rattle.heyvl_acts.specs.Acts.{Head, Act, Acts, TypedProcedure, procedure_at}
use Rattle.heyvl_acts.specs.Places.{in_order, inside}
use Rattle.heyvl_acts.specs.Program.{IsProgram, Reaches}
use Rattle.heyvl_acts.specs.Rules.{Each}
use Rattle.run_machine.specs.declared.configurations.Item.TheVariants.{Do, Turn, Out, Back}
use Rattle.run_machine.specs.Bound.{IsState}
use Rattle.run_machine.specs.Names.{Names, Numbered, Lists, Stored}

-- The procedure `q` is a program, and so is each procedure that it reaches by calls.
pub record ReachesPrograms (ps : List TypedProcedure) (q : ℕ) : Type 0 where
  pub itself : IsProgram (procedure_at ps q)
  pub reached : (r : ℕ) → Reaches ps q r → IsProgram (procedure_at ps r)

-- A run may take the act: it is no check and no validation, and a procedure that it calls is a
-- program and reaches only programs.
abbrev pub CanRun : List TypedProcedure → Act → Type 0
CanRun ps (Act.check kind f span) = ⊥
CanRun ps (Act.validate co span) = ⊥
CanRun ps (Act.call xs q es span) = ReachesPrograms ps q
CanRun ps (Act.set x t span) = Unit {0}
CanRun ps (Act.draw x qs span) = Unit {0}
CanRun ps (Act.toss x f span) = Unit {0}
CanRun ps (Act.any x up ty span) = Unit {0}
CanRun ps (Act.reward f span) = Unit {0}
CanRun ps (Act.ifs arms e span) = Unit {0}
CanRun ps (Act.pick up a b span) = Unit {0}
CanRun ps (Act.loop h b) = Unit {0}

-- `place` names an act of the procedure `n`, and a run may take this act and each act in it.
pub record NamesAct (ps : List TypedProcedure) (n place : ℕ) : Type 0 where
  pub act : Act
  pub named : Names ps n place act
  pub runs : Each (CanRun ps) (act ∷ inside act)

-- `place` names a loop of the procedure `n`, and a run may take each act of its body.
pub record NamesLoop (ps : List TypedProcedure) (n place : ℕ) : Type 0 where
  pub head : Head
  pub body : Acts
  pub named : Names ps n place (Act.loop head body)
  pub runs : Each (CanRun ps) (in_order body)

-- `x` is the number of an output of `p`.
pub record IsOutput (p : TypedProcedure) (x : ℕ) : Type 0 where
  pub no_input : length p.inputs ≤ x
  pub below : x < length (p.inputs ++ p.outputs)

-- The item names an act, a loop or an output of the procedure `n`. It is no return.
abbrev pub IsItemOf : List TypedProcedure → ℕ → Numbered → Type 0
IsItemOf ps n (Do p place) = (p ≡ n) × NamesAct ps n place
IsItemOf ps n (Turn p place) = (p ≡ n) × NamesLoop ps n place
IsItemOf ps n (Out p x) = (p ≡ n) × IsOutput (procedure_at ps n) x
IsItemOf ps n (Back p place) = ⊥

-- `items` are the items of the procedure `n`, which `m` called: the last one is the return to the
-- call in `m`, and there is no other return.
pub record IsCalled (ps : List TypedProcedure) (m n : ℕ) (items : List Numbered) : Type 0 where
  pub front : List Numbered
  pub place : ℕ
  pub targets : List ℕ
  pub arguments : List Term
  pub span : Span
  pub ends : items ≡ front ++ (Back m place ∷ [])
  pub names : Names ps m place (Act.call targets n arguments span)
  pub runs : ReachesPrograms ps n
  pub belong : Each (IsItemOf ps n) front

-- `AreLists ps start n items s frames`: `items` and `s` are items and a state of the running
-- procedure `n`. So are those of each caller in `frames`, the last caller first; the first caller
-- runs the procedure `start`. Without callers, `n` is `start`.
abbrev pub AreLists : List TypedProcedure → ℕ → ℕ → List Numbered → List Val → List Lists → Type 0
AreLists ps start n items s [] =
    (n ≡ start) × (Each (IsItemOf ps n) items × IsState (procedure_at ps n) s)
AreLists ps start n items s (f ∷ fs) = (m : ℕ)
    × (IsCalled ps m n items × (IsState (procedure_at ps n) s × AreLists ps start m f.0 f.1 fs))

-- The condition on a configuration: its items and states are those of the procedure that was
-- started and of the procedures called since, and it counts the iterations of each loop.
pub record IsConfig (ps : List TypedProcedure) (c : Stored) : Type 0 where
  -- The procedure that runs.
  pub running : ℕ
  pub lists : AreLists ps c.procedure running c.items c.state (reverse c.frames)
  -- One count for each loop of the procedure that was started.
  pub turns : length c.turns ≡ (procedure_at ps c.procedure).loops

-- The counts of iterations and of decisions are below 2^31, so that a step does not overflow them.
pub record HasRoom (c : Stored) : Type 0 where
  pub turns : Each (λ t. t < 2 ^ 31) c.turns
  pub made : c.made < 2 ^ 31
