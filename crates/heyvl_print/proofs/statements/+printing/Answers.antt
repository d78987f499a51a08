use Rattle.heyvl_print.proofs.BlockTexts.{arm_next, arm_text, arms_done, braced_text, branch_text, check_text, guarded_text, loop_text, pick_text, reward_text, statement_next, validate_text}
use Rattle.heyvl_print.proofs.statements.+printing.Goals as goal
use Rattle.heyvl_print.specs.Canonical.{block_lines}
use Rattle.heyvl_syntax.proofs.exported.PlainTreesAre.{plain_statements}
use Rattle.heyvl_syntax.specs.Expressions.{expression}
use Rattle.heyvl_syntax.specs.Statements.{arms, block, guarded, loop_rules, statement}
use Rattle.std.proofs.Common.{◌+◌}

pub print_arm-returns : goal.print_arm-returns
print_arm-returns t c =
    let b = rw c.deref.ensures.value at c.in_ok-print_braced.ensures in
    arm_text c.args.margin (expression c.args.arm.now.guard) (block_lines (c.args.margin + 2) (block c.args.arm.now.body.items)) _ _ _ _ c.in_ok-write.ensures c.in_ok-print_expression.ensures b

pub print_block-loop-one-preserved : goal.print_block-loop-one-preserved
print_block-loop-one-preserved t c = statement_next statement c.args.margin c.args.statements.now c.loop-one.one-index c.one-item.result _ _ _ c.loop-one-test.true c.one-item.is c.loop-one.invariant c.in_ok-print_statement.ensures

pub print_arms-loop-other-preserved : goal.print_arms-loop-other-preserved
print_arms-loop-other-preserved t c =
    arm_next guarded c.args.margin c.in-Some.others.now c.loop-other.other-index c.other-item.result _ _ _ _ c.loop-other-test.true c.other-item.is c.loop-other.invariant c.in_ok-write.ensures (guarded_text c.args.margin c.other-item.result _ _ c.in_ok-print_arm-2.ensures)

pub print_arms-returns : goal.print_arms-returns
print_arms-returns t c = arms_done guarded c.args.margin c.in-Some.first.now c.in-Some.others.now c.args.all.now c.loop-other.other-index _ _ _ c.in-Some.ensures.cases.0 c.loop-other-test.false (guarded_text c.args.margin c.in-Some.first.now _ _ c.in_ok-print_arm.ensures) c.loop-other.invariant

pub print_braced-returns : goal.print_braced-returns
print_braced-returns t c =
    let b = rw c.deeper-inner.ensures at c.in_ok-print_block.ensures in
    braced_text c.args.margin (block_lines (c.args.margin + 2) (block c.args.statements.now)) _ _ _ _ _ c.in_ok-write.ensures b c.in_ok-write_repeated.ensures c.in_ok-write-2.ensures

pub print_statement-returns-in_ok-print_claim-in-Check : goal.print_statement-returns-in_ok-print_claim-in-Check
print_statement-returns-in_ok-print_claim-in-Check t c =
    let k = rw c.check_text.ensures at c.in_ok-print_claim-in-Check.ensures in
    rw (c.in-Check.is, plain_statements.check) (check_text c.args.margin c.in-Check.kind (expression c.in-Check.claim) c.in-Check.field-2 _ _ k)

pub print_statement-returns-in_ok-print_word-in-Validate : goal.print_statement-returns-in_ok-print_word-in-Validate
print_statement-returns-in_ok-print_word-in-Validate t c =
    let k = rw c.validate_text.ensures at c.in_ok-print_word-in-Validate.ensures in
    rw (c.in-Validate.is, plain_statements.validate) (validate_text c.args.margin c.in-Validate.co c.in-Validate.field-1 _ _ k)

pub print_statement-returns-in_ok-print_claim-in-Reward : goal.print_statement-returns-in_ok-print_claim-in-Reward
print_statement-returns-in_ok-print_claim-in-Reward t c =
    rw (c.in-Reward.is, plain_statements.reward) (reward_text c.args.margin (expression c.in-Reward.amount) c.in-Reward.field-1 _ _ c.in_ok-print_claim-in-Reward.ensures)

pub print_statement-returns-in_ok-write-in-If : goal.print_statement-returns-in_ok-write-in-If
print_statement-returns-in_ok-write-in-If t c =
    let a = rw c.deref-in-If.ensures.value at c.in_ok-print_arms-in-If.ensures in
    let b = rw c.deref-in-If-2.ensures.value at c.in_ok-print_else-in-If.ensures in
    rw (c.in-If.is, plain_statements.branch) (branch_text c.args.margin (arms c.in-If.all.items) (block c.in-If.other.items) c.in-If.field-2 _ _ _ _ _ c.in_ok-write_repeated-in-If.ensures a b c.in_ok-write-in-If.ensures)

pub print_statement-returns-in_ok-write-in-Pick-3 : goal.print_statement-returns-in_ok-write-in-Pick-3
print_statement-returns-in_ok-write-in-Pick-3 t c =
    let k = rw c.pick_text.ensures at c.in_ok-write-in-Pick-2.ensures in
    let a = rw c.deref-in-Pick.ensures.value at c.in_ok-print_braced-in-Pick.ensures in
    let b = rw c.deref-in-Pick-2.ensures.value at c.in_ok-print_else-in-Pick.ensures in
    rw (c.in-Pick.is, plain_statements.pick) (pick_text c.args.margin c.in-Pick.up (block c.in-Pick.left.items) (block c.in-Pick.right.items) c.in-Pick.field-3 _ _ _ _ _ _ _ c.in_ok-write_repeated-in-Pick.ensures c.in_ok-write-in-Pick.ensures k a b c.in_ok-write-in-Pick-3.ensures)

pub print_statement-returns-in_ok-write-in-While-2 : goal.print_statement-returns-in_ok-write-in-While-2
print_statement-returns-in_ok-write-in-While-2 t c =
    let r = rw c.deref-in-While.ensures.value at c.in_ok-print_rules-in-While.ensures in
    let b = rw c.deref-in-While-2.ensures.value at c.in_ok-print_braced-in-While.ensures in
    rw (c.in-While.is, plain_statements.loop) (loop_text c.args.margin (loop_rules c.in-While.rules.items) (expression c.in-While.guard) (block c.in-While.body.items) c.in-While.field-3 _ _ _ _ _ _ _ r c.in_ok-write_repeated-in-While.ensures c.in_ok-write-in-While.ensures c.in_ok-print_expression-in-While.ensures b c.in_ok-write-in-While-2.ensures)
