-- The operators of nodes preserve the invariant of linear values.
use Rattle.std.proofs.Common.{◌≡◌, ℕ, List, sym, subst}
use Rattle.std.specs.Prelude as M
use Rattle.std.specs.Prelude.{Bool}
use Rattle.linear_values.specs.Lin.{Linear}
use Rattle.linear_values.specs.Kept.{IsKeptValue}
use Rattle.heylo_graph.specs.declared.nodes.Node.{Node}
use Rattle.linear_form.specs.Query.{Query, Taken}
use Rattle.linear_form.specs.Questions as q
use Rattle.linear_form.specs.QuestionLaws.{EachResult}
use Rattle.linear_form.specs.internal.Run.{along}
use Rattle.linear_form.specs.internal.Run.Evaluation.{value}
use Rattle.linear_form.specs.internal.Outcomes.{Result, IsKeptResult, valued, told}
use Rattle.linear_form.specs.internal.Parts.{operated, operation, operator}
use Rattle.linear_form.specs.internal.PlainParts.{outcome_of}
use Rattle.linear_form.specs.internal.Steps.{Comes}
use Rattle.linear_form.specs.declared.parts.Operation.{Operation}
use Rattle.linear_form.specs.declared.operations.Came.{Came}
use Rattle.linear_form.specs.declared.cursor.Stop.{Stop}
use Rattle.linear_form.proofs.EachResults.{each_next, each_after}
use Rattle.linear_form.proofs.Runs.{run_result}
use Rattle.linear_form.proofs.KeptValues.{sum_kept, difference_kept, cut_kept, scale_kept, product_kept, min_kept, max_kept, imply_kept, co_imply_kept, validate_kept, co_validate_kept}

pub valued_kept : (t : Query Linear) → EachResult IsKeptValue t → EachResult IsKeptResult (valued t)
valued_kept t h = each_next t _ IsKeptValue IsKeptResult h (λ x k. k)

pub told_kept : (t : Query Bool) → EachResult IsKeptResult (told t)
told_kept t = each_after t _ IsKeptResult (λ b. tt)

operator_kept : (n : Node) (x y : Linear) → IsKeptValue x → IsKeptValue y → EachResult IsKeptResult (operator n x y)
operator_kept (Node.Sum a b) x y h k = valued_kept (q.sum x y) (sum_kept x y h k)
operator_kept (Node.Diff a b) x y h k = valued_kept (q.difference x y) (difference_kept x y h k)
operator_kept (Node.Cut a b) x y h k = valued_kept (q.cut x y) (cut_kept x y h k)
operator_kept (Node.Scale w a) x y h k = valued_kept (q.scale w y) (scale_kept w y k)
operator_kept (Node.Product a b span) x y h k = valued_kept (q.product x y) (product_kept x y h k)
operator_kept (Node.Min a b) x y h k = valued_kept (q.min x y) (min_kept x y h k)
operator_kept (Node.Max a b) x y h k = valued_kept (q.max x y) (max_kept x y h k)
operator_kept (Node.Imply a b) x y h k = valued_kept (q.imply x y) (imply_kept x y h k)
operator_kept (Node.CoImply a b) x y h k = valued_kept (q.co_imply x y) (co_imply_kept x y h k)
operator_kept (Node.Validate a) x y h k = validate_kept y k
operator_kept (Node.CoValidate a) x y h k = valued_kept (q.co_validate y) (co_validate_kept y k)
operator_kept (Node.Le a b) x y h k = told_kept (q.at_most x y)
operator_kept (Node.Lt a b) x y h k = told_kept (q.less x y)
operator_kept (Node.EqNum a b) x y h k = told_kept (q.equal x y)
operator_kept (Node.Const v) x y h k = tt
operator_kept (Node.Var w) x y h k = tt
operator_kept (Node.Embed a) x y h k = tt
operator_kept (Node.Iverson a) x y h k = tt
operator_kept (Node.Select a b c) x y h k = tt
operator_kept (Node.Bind up w name ty a) x y h k = tt
operator_kept (Node.Truth v) x y h k = tt
operator_kept (Node.Flag w) x y h k = tt
operator_kept (Node.Not a) x y h k = tt
operator_kept (Node.And a b) x y h k = tt
operator_kept (Node.Or a b) x y h k = tt
operator_kept (Node.Same a b) x y h k = tt
operator_kept (Node.Ite a b c) x y h k = tt

operation_kept : (o : Operation) (x y : Linear) → IsKeptValue x → IsKeptValue y → EachResult IsKeptResult (operation o x y)
operation_kept (Operation.Of n) x y h k = operator_kept n x y h k
operation_kept Operation.Ends x y h k = tt

pub operated_kept : (o : Operation) (r s : Result) → IsKeptResult r → IsKeptResult s → EachResult IsKeptResult (operated o r s)
operated_kept o (Result.number x) (Result.number y) h k = operation_kept o x y h k
operated_kept o (Result.number x) (Result.truth t) h k = tt
operated_kept o (Result.number x) (Result.ends e) h k = tt
operated_kept o (Result.truth t) s h k = tt
operated_kept o (Result.ends e) s h k = tt

pub came_kept : (ps : List Taken) (t : Query Result) (i : ℕ) (c : Came) → EachResult IsKeptResult t → along ps t i ≡ value (outcome_of c.outcome) c.next → IsKeptResult (outcome_of c.outcome)
came_kept ps t i c h g = run_result ps t IsKeptResult i (outcome_of c.outcome) c.next h g

pub operator_arm : (r : M.Result Came Stop) (ps : List Taken) (n n' : Node) (x y : Linear) (i : ℕ) → n ≡ n' → Comes r (along ps (operator n' x y) i) → Comes r (along ps (operator n x y) i)
operator_arm r ps n n' x y i e h = subst (λ n. Comes r (along ps (operator n x y) i)) (sym e) h
