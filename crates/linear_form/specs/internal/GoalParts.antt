-- The parts of a goal, which have the same comparisons as the trees of its graph.
use Rattle.std.specs.Prelude.{◌≡◌, ℕ, true, false, List, [], Result, Ok, Err, slice_get, Some}
use Rattle.heylo_formula.specs.Goals.{Goal}
use Rattle.heylo_graph.specs.Trees.{Tree}
use Rattle.heylo_graph.specs.Nodes.{tree_at}
use Rattle.heylo_graph.specs.declared.nodes.Node.{Node}
use Rattle.linear_form.specs.Query.{Query, Atom, next}
use Rattle.linear_form.specs.Query.Query.{done, ask}
use Rattle.linear_form.specs.Questions as q
use Rattle.linear_form.specs.PlainPaths.{atom_of}
use Rattle.linear_form.specs.internal.Run.{Evaluation, along}
use Rattle.linear_form.specs.internal.Outcomes as outcomes
use Rattle.linear_form.specs.internal.Outcomes.{IsKeptResult, valued, told}
use Rattle.linear_form.specs.internal.Parts as parts
use Rattle.linear_form.specs.internal.Parts.{Work, asked, asked_by_work, IsReady, IsReadyWork}
use Rattle.linear_form.specs.internal.PlainParts.{outcome_of, part_of, work_of}
use Rattle.linear_form.specs.internal.Evaluations.{ended}
use Rattle.linear_form.specs.declared.parts.Operation.{Operation}
use Rattle.linear_form.specs.declared.parts.Part.{Part}
use Rattle.linear_form.specs.declared.parts.Work as W
use Rattle.linear_form.specs.declared.cursor.Stop as S
use Rattle.linear_form.specs.declared.parts.Outcome as O

-- `asked_of t`: the comparisons of the tree `t`: those for the value of a formula, or for the truth
-- of a condition.
abbrev pub asked_of : Tree → Query outcomes.Result
asked_of (Tree.formula f) = valued (q.evaluate f)
asked_of (Tree.condition g) = told (q.test g)

-- `IsPartOf t p`: the part `p` has the comparisons of the tree `t`.
pub record IsPartOf (t : Tree) (p : Part) : Type 0 where
  pub asks : asked (part_of p) ≡ asked_of t
  pub ready : IsReady (part_of p)

-- `IsWorkOf t w`: the work `w` has the comparisons of the tree `t`.
pub record IsWorkOf (t : Tree) (w : W.Work) : Type 0 where
  pub asks : asked_by_work (work_of w) ≡ asked_of t
  pub ready : IsReadyWork (work_of w)

-- `HasPart ps i t`: the list `ps` has at index `i` a part for the tree `t`.
pub record HasPart (ps : List Part) (i : ℕ) (t : Tree) : Type 0 where
  pub part : Part
  pub there : slice_get ps i ≡ Some part
  pub is_part : IsPartOf t part

-- `AreParts ns ps`: the list `ps` has a part for the tree of each node of `ns`, at the number of
-- the node.
pub record AreParts (ns : List Node) (ps : List Part) : Type 0 where
  pub each : (i : ℕ) (t : Tree) → tree_at ns i ≡ Some t → HasPart ps i t

-- `IsGoalPart g p`: the part `p` has the comparisons of the goal `g`, and its results are the
-- values of both forms.
pub record IsGoalPart (g : Goal) (p : Part) : Type 0 where
  pub asks : next (asked (part_of p)) ended ≡ q.all_questions g
  pub ready : IsReady (part_of p)

-- `IsReadyAs w p`: the part `p` has the comparisons of the work `w`, and its records are right.
pub record IsReadyAs (w : Work) (p : Part) : Type 0 where
  pub asks : asked (part_of p) ≡ asked_by_work w
  pub ready : IsReady (part_of p)

-- ---- Evaluation in advance

-- `Compares o`: the operation `o` is a comparison of two values.
pub data Compares : Operation → Type 0 where
  at_most : (a b : ℕ) → Compares (Operation.Of (Node.Le a b))
  less : (a b : ℕ) → Compares (Operation.Of (Node.Lt a b))

-- `answer_of a`: the tree whose result is the answer to the comparison `a`.
abbrev pub answer_of : Atom → Query outcomes.Result
answer_of a = ask a (done (outcomes.Result.truth true)) (done (outcomes.Result.truth false))

-- `IsFirst o p u a`: the operation `o` on the parts `p` and `u` asks the comparison `a` first; if
-- `o` is itself a comparison, the answer to `a` is its result.
pub record IsFirst (o : Operation) (p u : parts.Part) (a : Atom) : Type 0 where
  pub first : along [] (asked_by_work (Work.two o p u)) 0 ≡ Evaluation.decide a
  pub alone : Compares o → asked_by_work (Work.two o p u) ≡ answer_of a

-- `TellsAtOnce o p u r`: `r` is a result of the operation `o` on the parts `p` and `u` that needs
-- no answer, or the comparison that it asks first. An overflow says nothing.
abbrev pub TellsAtOnce : Operation → parts.Part → parts.Part → Result O.Outcome S.Stop → Type 0
TellsAtOnce o p u (Ok x) = (asked_by_work (Work.two o p u) ≡ done (outcome_of x))
    × IsKeptResult (outcome_of x)
TellsAtOnce o p u (Err (S.TheVariants.Decide a)) = IsFirst o p u (atom_of a.value)
TellsAtOnce o p u (Err S.TheVariants.Bits) = Unit {0}
TellsAtOnce o p u (Err (S.TheVariants.Memory e)) = Unit {0}

-- `with_operand w p`: the work `w` with the part `p` in place of its last operand or of its test.
abbrev pub with_operand : Work → parts.Part → Work
with_operand (Work.known r) p = Work.known r
with_operand Work.large p = Work.large
with_operand (Work.asks a y n) p = Work.asks a y n
with_operand (Work.two o f s) p = Work.two o f p
with_operand (Work.choice g y n) p = Work.choice p y n

-- `IsKnownBefore w`: the work `w` has a last operand or a test, and what is evaluated before that
-- is known.
abbrev pub IsKnownBefore : Work → Type 0
IsKnownBefore (Work.known r) = ⊥
IsKnownBefore Work.large = ⊥
IsKnownBefore (Work.asks a y n) = ⊥
IsKnownBefore (Work.two o f s) = (x : outcomes.Result) × (asked f ≡ done x)
IsKnownBefore (Work.choice g y n) = Unit {0}

-- `IsOver w p u`: the part `u` has the comparisons of the work `w` with the part `p` in place of
-- its last operand or of its test.
pub record IsOver (w : Work) (p u : parts.Part) : Type 0 where
  pub before : IsKnownBefore w
  pub asks : asked u ≡ asked_by_work (with_operand w p)
  pub ready : IsReady u
