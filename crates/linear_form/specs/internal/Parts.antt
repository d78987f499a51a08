-- Parts of goals, prepared for evaluation: the trees of their comparisons, and bounds on the steps
-- of their evaluation.
use Rattle.std.specs.Prelude.{◌≡◌, ℕ, ◌+◌, ◌&&◌, Bool, true, false, if◌then◌else◌}
use Rattle.heylo_graph.specs.declared.nodes.Node.{Node}
use Rattle.linear_form.specs.Query.{Query, Atom, next}
use Rattle.linear_form.specs.Query.Query.{done, bits, ask}
use Rattle.linear_form.specs.Questions as q
use Rattle.linear_values.specs.Lin.{Linear}
use Rattle.linear_form.specs.internal.LastingTrees.{Lasts}
use Rattle.linear_form.specs.internal.Outcomes.{Result, valued, told, of_number, of_bool}
use Rattle.linear_form.specs.internal.Outcomes.{IsKeptResult}
use Rattle.linear_form.specs.declared.parts.Operation.{Operation}

mutual
  -- A part: its work, and a flag that is true only if each evaluation asks a comparison of numbers.
  pub data Part : Type 0 where
    part : Work → Bool → Part

  -- The work of a part: a known result, an overflow, a comparison with a part for each answer, an
  -- operation on two parts, or a choice by the truth of the first part.
  pub data Work : Type 0 where
    known : Result → Work
    large : Work
    asks : Atom → Part → Part → Work
    two : Operation → Part → Part → Work
    choice : Part → Part → Part → Work

-- `operator n x y`: the comparisons of the operator of the node `n` on the values `x` and `y`. A
-- unary operator uses only `y`.
abbrev pub operator : Node → Linear → Linear → Query Result
operator (Node.Sum a b) x y = valued (q.sum x y)
operator (Node.Diff a b) x y = valued (q.difference x y)
operator (Node.Cut a b) x y = valued (q.cut x y)
operator (Node.Scale w a) x y = valued (q.scale w y)
operator (Node.Product a b span) x y = valued (q.product x y)
operator (Node.Min a b) x y = valued (q.min x y)
operator (Node.Max a b) x y = valued (q.max x y)
operator (Node.Imply a b) x y = valued (q.imply x y)
operator (Node.CoImply a b) x y = valued (q.co_imply x y)
operator (Node.Validate a) x y = valued (done (q.validate y))
operator (Node.CoValidate a) x y = valued (q.co_validate y)
operator (Node.Le a b) x y = told (q.at_most x y)
operator (Node.Lt a b) x y = told (q.less x y)
operator (Node.EqNum a b) x y = told (q.equal x y)
operator (Node.Const v) x y = bits
operator (Node.Var w) x y = bits
operator (Node.Embed a) x y = bits
operator (Node.Iverson a) x y = bits
operator (Node.Select a b c) x y = bits
operator (Node.Bind up w name ty a) x y = bits
operator (Node.Truth v) x y = bits
operator (Node.Flag w) x y = bits
operator (Node.Not a) x y = bits
operator (Node.And a b) x y = bits
operator (Node.Or a b) x y = bits
operator (Node.Same a b) x y = bits
operator (Node.Ite a b c) x y = bits

-- `operation o x y`: the comparisons of the operation `o` on the values `x` and `y`.
abbrev pub operation : Operation → Linear → Linear → Query Result
operation (Operation.Of n) x y = operator n x y
operation Operation.Ends x y = done (Result.ends (x, y))

-- `operated o r s`: the comparisons of the operation `o` on the results `r` and `s`, which have to
-- be values.
abbrev pub operated : Operation → Result → Result → Query Result
operated o r s = of_number (λ x. of_number (λ y. operation o x y) s) r

abbrev mutual
  -- `asked p`: the comparisons of the part `p`, and its result after each answer.
  pub asked : Part → Query Result
  asked (Part.part w b) = asked_by_work w

  -- `asked_by_work w`: the comparisons of the work `w`.
  pub asked_by_work : Work → Query Result
  asked_by_work (Work.known r) = done r
  asked_by_work Work.large = bits
  asked_by_work (Work.asks a p u) = ask a (asked p) (asked u)
  asked_by_work (Work.two o p u) = next (asked p) (λ r. next (asked u) (λ s. operated o r s))
  asked_by_work (Work.choice g p u) = next (asked g) (of_bool (λ t. if t then asked p else asked u))

-- `known_part r`: the part with the known result `r`.
abbrev pub known_part : Result → Part
known_part r = Part.part (Work.known r) false

-- `after_first w s`: the remaining comparisons of the work `w` after its first part has the result
-- `s`. Work without parts to wait for never gets here.
abbrev pub after_first : Work → Result → Query Result
after_first (Work.known r) s = bits
after_first Work.large s = bits
after_first (Work.asks a p u) s = bits
after_first (Work.two o p u) s = next (asked u) (λ r. operated o s r)
after_first (Work.choice g p u) s = of_bool (λ t. if t then asked p else asked u) s

-- `after_second w s t`: the remaining comparisons of the work `w` after its two parts have the
-- results `s` and `t`.
abbrev pub after_second : Work → Result → Result → Query Result
after_second (Work.known r) s t = bits
after_second Work.large s t = bits
after_second (Work.asks a p u) s t = bits
after_second (Work.two o p u) s t = operated o s t
after_second (Work.choice g p u) s t = bits

-- ---- A bound on the steps

abbrev mutual
  -- `part_weight p`: a bound on the steps of the part `p`, above the bounds for its parts and for
  -- what follows them.
  pub part_weight : Part → ℕ
  part_weight (Part.part w b) = work_weight w

  -- `work_weight w`: the bound for the work `w`.
  pub work_weight : Work → ℕ
  work_weight (Work.known r) = 1
  work_weight Work.large = 1
  work_weight (Work.asks a p u) = 1 + (part_weight p + part_weight u)
  work_weight (Work.two o p u) = 3 + (part_weight p + part_weight u)
  work_weight (Work.choice g p u) = 2 + (part_weight g + (part_weight p + part_weight u))

-- `later_weight w`: the bound for the work `w` after its first part has a result.
abbrev pub later_weight : Work → ℕ
later_weight (Work.known r) = 1
later_weight Work.large = 1
later_weight (Work.asks a p u) = 1
later_weight (Work.two o p u) = 2 + part_weight u
later_weight (Work.choice g p u) = 1 + (part_weight p + part_weight u)

-- ---- What is recorded of parts

-- `notes p`: it is recorded that the part `p` surely asks a comparison of numbers.
abbrev pub notes : Part → Bool
notes (Part.part w b) = b

-- `notes_later w`: it is recorded that the work `w` surely asks a comparison of numbers after its
-- first part has a result.
abbrev pub notes_later : Work → Bool
notes_later (Work.known r) = false
notes_later Work.large = false
notes_later (Work.asks a p u) = false
notes_later (Work.two o p u) = notes u
notes_later (Work.choice g p u) = notes p && notes u

-- `IsSure b t`: if `b` is true, the tree `t` surely asks a comparison of numbers.
abbrev pub IsSure : Bool → Query Result → Type 0
IsSure b t = b ≡ true → Lasts 1 t

abbrev mutual
  -- `IsReady p`: what is recorded of the part `p`, and of its parts, is right; known values have
  -- increasing terms and numbers that fit.
  pub IsReady : Part → Type 0
  IsReady (Part.part w b) = IsSure b (asked_by_work w) × IsReadyWork w

  -- `IsReadyWork w`: what is recorded of the parts of the work `w` is right.
  pub IsReadyWork : Work → Type 0
  IsReadyWork (Work.known r) = IsKeptResult r
  IsReadyWork Work.large = Unit {0}
  IsReadyWork (Work.asks a p u) = IsReady p × IsReady u
  IsReadyWork (Work.two o p u) = IsReady p × IsReady u
  IsReadyWork (Work.choice g p u) = IsReady g × (IsReady p × IsReady u)
