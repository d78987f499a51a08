-- Requirements of the functions that encode, and plain views of their results.
use Rattle.std.specs.Prelude.{◌≡◌, ◌≤◌, ◌<◌, ◌+◌, ℕ, Bool, List, map, length}
use Rattle.heyvl_places.specs.declared.spans.Span.{Span}
use Rattle.heylo_formula.specs.Formula.{Term}
use Rattle.heylo_formula.specs.PlainTrees.{form_of}
use Rattle.heylo_formula.specs.Shifts.{extent, shifted}
use Rattle.heyvl_acts.specs.declared.typed_trees.TProc.{TProc}
use Rattle.heyvl_acts.specs.declared.typed_trees.VarInfo.{VarInfo}
use Rattle.heyvl_acts.specs.Acts.{Act, Acts, Arms, TypedProcedure, Variable, procedure_at}
use Rattle.heyvl_acts.specs.Acts.{type_list, variables}
use Rattle.heyvl_acts.specs.PlainActs.{variable_of}
use Rattle.heyvl_acts.specs.Rules.{GrowBelow}
use Rattle.k_induction.specs.Copies.{may}
use Rattle.loop_encodings.specs.Encoding.{any_block, gets}

abbrev pub plain_variables : List VarInfo → List Variable
plain_variables vs = map variable_of vs

-- The procedure, which may be called, has at most 16 inputs and outputs, and its pre and post are
-- over them.
pub record IsCallee (q : TProc) : Type 0 where
  pub few : q.inputs + q.outputs ≤ 16
  pub counted : q.inputs + q.outputs ≤ length q.vars.items
  pub pre : extent (form_of q.pre) ≤ 16
  pub post : extent (form_of q.post) ≤ 16

-- The call names a procedure of the file, with an argument for each input and a target for each
-- output. The procedure has at most 16 of these, and its pre and post are over them.
pub record IsCall (ps : List TypedProcedure) (xs : List ℕ) (q : ℕ) (es : List Term) : Type 0 where
  pub there : q < length ps
  pub arguments : length es ≡ length (procedure_at ps q).inputs
  pub targets : length xs ≡ length (procedure_at ps q).outputs
  pub few : length (procedure_at ps q).inputs + length (procedure_at ps q).outputs ≤ 16
  pub pre : extent (procedure_at ps q).pre ≤ 16
  pub post : extent (procedure_at ps q).post ≤ 16

-- The calls of the acts satisfy `IsCall`, and their loops have at least one copy and a scope in
-- increasing order.
abbrev mutual
  pub IsReady : List TypedProcedure → TypedProcedure → Act → Type 0
  IsReady ps p (Act.set x t span) = Unit {0}
  IsReady ps p (Act.draw x qs span) = Unit {0}
  IsReady ps p (Act.toss x f span) = Unit {0}
  IsReady ps p (Act.any x up ty span) = Unit {0}
  IsReady ps p (Act.reward f span) = Unit {0}
  IsReady ps p (Act.ifs arms e span) = AreReadyArms ps p arms × AreReady ps p e
  IsReady ps p (Act.pick up a b span) = AreReady ps p a × AreReady ps p b
  IsReady ps p (Act.check kind f span) = Unit {0}
  IsReady ps p (Act.validate co span) = Unit {0}
  IsReady ps p (Act.loop h b) = ((1 ≤ h.k) × GrowBelow 0 (length (variables p)) h.scope)
      × AreReady ps p b
  IsReady ps p (Act.call xs q es span) = IsCall ps xs q es

  pub AreReady : List TypedProcedure → TypedProcedure → Acts → Type 0
  AreReady ps p Acts.done = Unit {0}
  AreReady ps p (Acts.next a rest) = IsReady ps p a × AreReady ps p rest

  pub AreReadyArms : List TypedProcedure → TypedProcedure → Arms → Type 0
  AreReadyArms ps p Arms.no_arm = Unit {0}
  AreReadyArms ps p (Arms.arm g b more) = AreReady ps p b × AreReadyArms ps p more

-- The end of a call's encoding: the fresh outputs take any values, the post is assumed of them, and
-- the targets are assigned the outputs.
abbrev pub returned : Bool → Span → ℕ → List ℕ → TypedProcedure → Acts
returned up span m xs q =
    any_block up span (m + length q.inputs) (type_list q.outputs) (
    Acts.next (Act.validate up span) (
    Acts.next (Act.check (may up) (shifted m q.post) span) (
    gets span xs (type_list q.outputs) (m + length q.inputs))))
