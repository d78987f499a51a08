use Rattle.std.proofs.Common.{map}
use Rattle.std.specs.Rc.{rc_value}
use Rattle.std.proofs.lemmas.Result.{IfOk-weaker}
use Rattle.linear_values.specs.PlainValues.{linear_of}
use Rattle.linear_form.proofs.PlainPartsAre.{choice_work, two_work}
use Rattle.linear_form.proofs.NodeWorks as is
use Rattle.linear_form.proofs.node_work.work_of_node.Goals as goal

pub returns-in_ok-variable-in-Var : goal.returns-in_ok-variable-in-Var
returns-in_ok-variable-in-Var c = IfOk-weaker c.value_work.result _ _ (λ w k. is.variable_node c.args.node.now (map rc_value c.args.parts.now) c.in-Var.x c.in_ok-variable-in-Var.field-0 w c.in-Var.is c.in_ok-variable-in-Var.ensures k) c.value_work.ensures

pub returns-in-Embed : goal.returns-in-Embed
returns-in-Embed c = IfOk-weaker c.picked.result _ _ (λ w k. is.embed_node c.args.node.now (map rc_value c.args.parts.now) c.in-Embed.field-0 c.in_ok-first.first.value w (linear_of c.nothing.result) c.in-Embed.is c.nothing.ensures (is.at_id (map rc_value c.args.parts.now) _ _ c.in_ok-first.first.value c.first.ensures c.in_ok-first.ensures) k) c.picked.ensures

pub returns-in-Iverson : goal.returns-in-Iverson
returns-in-Iverson c = IfOk-weaker c.picked-in-Iverson.result _ _ (λ w k. is.iverson_node c.args.node.now (map rc_value c.args.parts.now) c.in-Iverson.field-0 c.in_ok-first.first.value w (linear_of c.unit.result) (linear_of c.nothing-in-Iverson.result) c.in-Iverson.is c.unit.ensures c.nothing-in-Iverson.ensures (is.at_id (map rc_value c.args.parts.now) _ _ c.in_ok-first.first.value c.first.ensures c.in_ok-first.ensures) k) c.picked-in-Iverson.ensures

pub returns-in-Not : goal.returns-in-Not
returns-in-Not c = IfOk-weaker c.denied.result _ _ (λ w k. is.not_node c.args.node.now (map rc_value c.args.parts.now) c.in-Not.field-0 c.in_ok-first.first.value w c.in-Not.is (is.at_id (map rc_value c.args.parts.now) _ _ c.in_ok-first.first.value c.first.ensures c.in_ok-first.ensures) k) c.denied.ensures

pub returns-in_ok-truth-in-And : goal.returns-in_ok-truth-in-And
returns-in_ok-truth-in-And c = is.and_node c.args.node.now (map rc_value c.args.parts.now) c.in-And.field-0 c.in-And.field-1 c.in_ok-first.first.value c.in_ok-second.second.value c.in_ok-truth-in-And.field-0.value _ c.in-And.is (is.at_id (map rc_value c.args.parts.now) _ _ c.in_ok-first.first.value c.first.ensures c.in_ok-first.ensures) (is.at_id (map rc_value c.args.parts.now) _ _ c.in_ok-second.second.value c.second.ensures c.in_ok-second.ensures) c.in_ok-truth-in-And.ensures (choice_work c.in_ok-first.first c.in_ok-second.second c.in_ok-truth-in-And.field-0)

pub returns-in_ok-truth-in-Or : goal.returns-in_ok-truth-in-Or
returns-in_ok-truth-in-Or c = is.or_node c.args.node.now (map rc_value c.args.parts.now) c.in-Or.field-0 c.in-Or.field-1 c.in_ok-first.first.value c.in_ok-truth-in-Or.field-0.value c.in_ok-second.second.value _ c.in-Or.is (is.at_id (map rc_value c.args.parts.now) _ _ c.in_ok-first.first.value c.first.ensures c.in_ok-first.ensures) c.in_ok-truth-in-Or.ensures (is.at_id (map rc_value c.args.parts.now) _ _ c.in_ok-second.second.value c.second.ensures c.in_ok-second.ensures) (choice_work c.in_ok-first.first c.in_ok-truth-in-Or.field-0 c.in_ok-second.second)

pub returns-in_ok-other-in-Same : goal.returns-in_ok-other-in-Same
returns-in_ok-other-in-Same c = is.same_node c.args.node.now (map rc_value c.args.parts.now) c.in-Same.field-0 c.in-Same.field-1 c.in_ok-first.first.value c.in_ok-second.second.value c.in_ok-other-in-Same.other.value c.in_ok-clone-in-Same.field-0.value c.in_ok-denied-in-Same.field-0 _ c.in-Same.is (is.at_id (map rc_value c.args.parts.now) _ _ c.in_ok-first.first.value c.first.ensures c.in_ok-first.ensures) (is.at_id (map rc_value c.args.parts.now) _ _ c.in_ok-second.second.value c.second.ensures c.in_ok-second.ensures) c.in_ok-clone-in-Same.ensures.cases c.in_ok-denied-in-Same.ensures c.in_ok-other-in-Same.ensures (choice_work c.in_ok-first.first c.in_ok-second.second c.in_ok-other-in-Same.other)

pub returns-in_default : goal.returns-in_default
returns-in_default c = is.two_node c.args.node.now (map rc_value c.args.parts.now) c.in_ok-first.first.value c.in_ok-second.second.value _ (is.at_id (map rc_value c.args.parts.now) _ _ c.in_ok-first.first.value c.first.ensures c.in_ok-first.ensures) (is.at_id (map rc_value c.args.parts.now) _ _ c.in_ok-second.second.value c.second.ensures c.in_ok-second.ensures) (two_work _ c.in_ok-first.first c.in_ok-second.second) c.in_default.not-Const c.in_default.not-Var c.in_default.not-Embed c.in_default.not-Iverson c.in_default.not-Select c.in_default.not-Ite c.in_default.not-Bind c.in_default.not-Truth c.in_default.not-Flag c.in_default.not-Not c.in_default.not-And c.in_default.not-Or c.in_default.not-Same c.in_default.not-Scale c.in_default.not-Validate c.in_default.not-CoValidate

pub returns-in_ok-unread-in-Scale : goal.returns-in_ok-unread-in-Scale
returns-in_ok-unread-in-Scale c = is.one_node c.args.node.now (map rc_value c.args.parts.now) c.in_ok-unread-in-Scale.unread.value c.in_ok-first.first.value _ c.in-Scale.is (is.value_known c.in_ok-unread-in-Scale.unread.value c.in_ok-value_work-in-Scale.field-0 c.nothing-in-Scale.result c.in_ok-unread-in-Scale.ensures c.in_ok-value_work-in-Scale.ensures c.nothing-in-Scale.ensures) (is.at_id (map rc_value c.args.parts.now) _ _ c.in_ok-first.first.value c.first.ensures c.in_ok-first.ensures) (two_work _ c.in_ok-unread-in-Scale.unread c.in_ok-first.first)

pub returns-in-Select : goal.returns-in-Select
returns-in-Select c = is.picked_node c.args.node.now (map rc_value c.args.parts.now) c.in_ok-first.first.value c.in_ok-second.second.value c.in_ok-third.third.value _ c.in-Select.is (is.at_id (map rc_value c.args.parts.now) _ _ c.in_ok-first.first.value c.first.ensures c.in_ok-first.ensures) (is.at_id (map rc_value c.args.parts.now) _ _ c.in_ok-second.second.value c.second.ensures c.in_ok-second.ensures) (is.at_id (map rc_value c.args.parts.now) _ _ c.in_ok-third.third.value c.third.ensures c.in_ok-third.ensures) (choice_work c.in_ok-first.first c.in_ok-second.second c.in_ok-third.third)
