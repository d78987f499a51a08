use Rattle.std.proofs.Common.{ap, ap₂, sym, subst, ◌∙◌}
use Rattle.linear_form.specs.PlainPaths.{path_of}
use Rattle.linear_values.specs.PlainValues.{linear_of}
use Rattle.linear_form.specs.Query.Query.{done}
use Rattle.linear_form.specs.Questions.{validate}
use Rattle.linear_form.specs.internal.Run.{along}
use Rattle.linear_form.specs.internal.Run.Evaluation.{value}
use Rattle.linear_form.specs.internal.Outcomes.{IsKeptResult, Result}
use Rattle.linear_form.specs.internal.Parts.{operated}
use Rattle.linear_form.specs.internal.PlainParts.{outcome_of}
use Rattle.linear_form.specs.internal.Steps.{Comes}
use Rattle.linear_form.specs.declared.parts.Operation.{Operation}
use Rattle.linear_values.proofs.exported.Nothing.{nothing_is}
use Rattle.linear_form.proofs.KeptOperations.{operator_arm}
use Rattle.linear_form.proofs.OperatedOutcomes.{first_other, no_operator, nothing_added, second_other, over_values}
use Rattle.linear_form.proofs.Clones.{same_outcome}
use Rattle.linear_form.proofs.Runs.{run_done}
use Rattle.linear_form.proofs.operations.operated.Goals as goal

pub returns-in_default : goal.returns-in_default
returns-in_default c = first_other (path_of c.args.path.now) c.args.operation.now c.args.first.now (outcome_of c.args.second.now) c.args.at c.in_default.not-Number

pub returns-in_default-second : goal.returns-in_default-second
returns-in_default-second c = ap (λ o. along (path_of c.args.path.now) (operated c.args.operation.now (outcome_of o) (outcome_of c.args.second.now)) c.args.at) c.in-Number.is ∙ second_other (path_of c.args.path.now) c.args.operation.now (linear_of c.in-Number.x.value) c.args.second.now c.args.at c.in_default-second.not-Number

pub returns-in_default-operation : goal.returns-in_default-operation
returns-in_default-operation c = ap (λ q. along (path_of c.args.path.now) q c.args.at) (over_values c.args.operation.now Operation.Ends c.args.first.now c.args.second.now c.in-Number.x c.in-Number-second.y c.in_default-operation.is c.in-Number.is c.in-Number-second.is) ∙ run_done _ _ _ ∙ ap₂ (λ v u. value (Result.ends (linear_of v, linear_of u)) c.args.at) (sym c.in_ok-clone.ensures.cases) (sym c.in_ok-clone-2.ensures.cases)

pub returns-in-Validate : goal.returns-in-Validate
returns-in-Validate c = subst (λ q. Comes c.number_came-in-Validate.result (along (path_of c.args.path.now) q c.args.at)) (sym (over_values c.args.operation.now _ c.args.first.now c.args.second.now c.in-Number.x c.in-Number-second.y c.in-Of.is c.in-Number.is c.in-Number-second.is)) (operator_arm c.number_came-in-Validate.result (path_of c.args.path.now) c.in-Of.node _ (linear_of c.in-Number.x.value) (linear_of c.in-Number-second.y.value) c.args.at c.in-Validate.is (c.number_came-in-Validate.ensures (path_of c.args.path.now) (done (validate (linear_of c.in-Number-second.y.value))) c.args.at (run_done _ _ _ ∙ ap₂ value (ap (λ v. validate (linear_of v)) (sym c.deref-in-Validate.ensures) ∙ sym c.validate.ensures.value) (sym c.validate.ensures.next))))

pub returns-in_default-node : goal.returns-in_default-node
returns-in_default-node c = ap (λ q. along (path_of c.args.path.now) q c.args.at) (over_values c.args.operation.now _ c.args.first.now c.args.second.now c.in-Number.x c.in-Number-second.y c.in-Of.is c.in-Number.is c.in-Number-second.is) ∙ no_operator (path_of c.args.path.now) c.in-Of.node _ _ c.args.at c.in_default-node.not-Sum c.in_default-node.not-Diff c.in_default-node.not-Cut c.in_default-node.not-Scale c.in_default-node.not-Product c.in_default-node.not-Min c.in_default-node.not-Max c.in_default-node.not-Imply c.in_default-node.not-CoImply c.in_default-node.not-Validate c.in_default-node.not-CoValidate c.in_default-node.not-Le c.in_default-node.not-Lt c.in_default-node.not-EqNum

pub returns-in_ok-outcome-in-Sum : goal.returns-in_ok-outcome-in-Sum
returns-in_ok-outcome-in-Sum c =
    let x = ap linear_of c.deref.ensures in
    let k = subst IsKeptResult (ap outcome_of c.in-Number-second.is) c.requires.second in
    let n = nothing_added c.in-Of.node c.in-Sum.field-0 c.in-Sum.field-1 (linear_of c.in-Number.x.value) (linear_of c.in-Number-second.y.value) c.in-Sum.is (sym x ∙ nothing_is (linear_of c.deref.result.now) (sym c.is_nothing.ensures ∙ c.if-is_nothing.true)) k in
    ap (λ q. along (path_of c.args.path.now) q c.args.at) (over_values c.args.operation.now _ c.args.first.now c.args.second.now c.in-Number.x c.in-Number-second.y c.in-Of.is c.in-Number.is c.in-Number-second.is ∙ n) ∙ run_done _ _ _ ∙ ap (λ r. value r c.args.at) (sym (same_outcome _ _ c.in_ok-outcome-in-Sum.ensures.cases ∙ ap outcome_of c.in-Number-second.is))
