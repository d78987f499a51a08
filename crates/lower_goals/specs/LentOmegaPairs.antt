-- Omega pairs as the program borrows them, and the results for their goals. An omega pair is a proc
-- with `@wlp` and one loop, and a second procedure whose pre is a formula over the loop's variables
-- and the number of iterations. This project's own.
use Rattle.std.specs.Prelude.{◌≡◌, ◌^◌, ℕ, List, Option, Some, None}
use Rattle.heylo_formula.specs.PlainTrees.{form_of}
use Rattle.heylo_formula.specs.declared.goals.Made.{Made}
use Rattle.heyvl_acts.proofs.exported.PlainActsAre.{head_of}
use Rattle.heyvl_acts.specs.Acts.{Acts, Head, TypedProcedure, procedure_at}
use Rattle.heyvl_acts.specs.FormSizes.{FormsWithin}
use Rattle.heyvl_acts.specs.PlainActs.{acts_of, procedure_of, procedures_of}
use Rattle.heyvl_acts.specs.Rules.{MeetsRules}
use Rattle.heyvl_acts.specs.declared.typed_trees.Typed.{Typed}
use Rattle.lower_goals.specs.OmegaGoals.{limited, step_goal}
use Rattle.lower_goals.specs.OmegaPairs.{IsOmegaPair, OmegaPair, formula_of}
use Rattle.lower_goals.specs.OneLoop.{IsOneLoop}
use Rattle.lower_goals.specs.LimitedGoals.{IsMadeFor}
use Rattle.lower_goals.specs.declared.answers.Step.{Step}
use Rattle.lower_goals.specs.declared.pairs.Pair.{Pair}

-- The first procedure of the pair, which has the loop.
abbrev pub first : Pair → TypedProcedure
first x = procedure_of x.procedure.now

-- The head of the first procedure's loop.
abbrev pub head : Pair → Head
head x = head_of x.one.now

-- The body of the first procedure's loop.
abbrev pub body : Pair → Acts
body x = acts_of x.one.now.body.items

-- The acts of the first procedure after its loop.
abbrev pub behind : Pair → Acts
behind x = acts_of x.behind.now

-- The second procedure of the pair, whose pre is the formula.
abbrev pub second : Pair → TypedProcedure
second x = procedure_of x.other.now

-- `IsReady x`: the two procedures of `x` satisfy the static rules of some file, their forms have at
-- most 2^27 nodes, they are an omega pair, and `x.formula` is its formula.
pub record IsReady (x : Pair) : Type 0 where
  pub file : List TypedProcedure
  pub rules : MeetsRules file (first x)
  pub other_rules : MeetsRules file (second x)
  pub within : FormsWithin (2 ^ 27) (first x)
  pub other_within : FormsWithin (2 ^ 27) (second x)
  pub front : Acts
  pub is : IsOneLoop (first x) front (head x) (body x) (behind x)
  pub pair : IsOmegaPair (first x) (head x) (second x)
  pub formula : form_of x.formula ≡ formula_of (first x) (head x) (second x)

-- `IsPairAt typed p q x`: `x` is the omega pair of the procedures with the numbers `p` and `q`.
pub record IsPairAt (typed : Typed) (p q : ℕ) (x : Pair) : Type 0 where
  pub ready : IsReady x
  pub first_is : procedure_at (procedures_of typed) p ≡ first x
  pub second_is : procedure_at (procedures_of typed) q ≡ second x

-- `IsPairOf typed p q result`: `result` is the omega pair of the procedures with the numbers `p`
-- and `q`, or `None` if they are no omega pair.
abbrev pub IsPairOf : Typed → ℕ → ℕ → Option Pair → Type 0
IsPairOf typed p q (Some x) = IsPairAt typed p q x
IsPairOf typed p q None =
    OmegaPair (procedure_at (procedures_of typed) p) (procedure_at (procedures_of typed) q) → ⊥

-- `IsMadeStep x step m`: `m` is the goal of `step` for the pair `x`, or a limit that one of its
-- forms exceeds.
abbrev pub IsMadeStep : Pair → Step → Made → Type 0
IsMadeStep x step m = IsMadeFor (step_goal (first x) (head x) (body x) (behind x) (second x) step)
    (limited (first x) (body x) (behind x) (formula_of (first x) (head x) (second x)) step) m
