use Rattle.heyvl_syntax.proofs.exported.PlainTreesAre.{plain_statements}
use Rattle.heyvl_syntax.proofs.exported.TreeSizes.{arm_size, statement_size}
use Rattle.heyvl_syntax.specs.Expressions.{expression}
use Rattle.heyvl_syntax.specs.Statements.{Statement, arms, block, loop_rules, statement}
use Rattle.heyvl_types.proofs.NestedStatements.{bound_by_first, bound_by_rest, if_gives, listed_both, loop_stops_body, pick_gives}
use Rattle.heyvl_types.proofs.ReadRests.{arm_in_range, arms_end_read, arms_give, arms_more, arms_stop, block_ends, block_gives, block_more, statement_in_range}
use Rattle.heyvl_types.proofs.blocks.+reading.Goals as goal
use Rattle.heyvl_types.proofs.blocks.+reading.Goals.{read_arms-else-bound, read_arms-then-bound, read_block-else-bound, read_block-then-bound, read_statement-else-bound, read_statement-else-bound-2, read_statement-then-bound, read_statement-then-bound-2}
use Rattle.heyvl_acts.proofs.exported.PlainActsAre.{if_act, pick_act}
use Rattle.heyvl_acts.specs.Acts.{Acts}
use Rattle.typed_expressions.specs.Answers.{Gives}
use Rattle.typed_right_sides.specs.Views.{acts_view, arms_view}
use Rattle.heyvl_acts.specs.PlainActs.{acts_of, arm_of, variable_of}
use Rattle.static_rules.specs.StatementActs.{arms_acts, statement_acts}
use Rattle.static_rules.specs.StatementRules.{arms_bind, arms_findings, block_binds, statement_findings}
use Rattle.static_rules.specs.Variables.{locals, locals_of_arms, locals_of_block}
use Rattle.std.proofs.Common.{Err, [], ap, arith, drop, length, map, rules, subst, sym, ◌++◌, ◌+◌, ◌||◌, ◌∙◌, ◌≡◌}
use denote.Param.Weighed.{at_most}

pub read_arms-read_arm-requires : goal.read_arms-read_arm-requires
read_arms-read_arm-requires t c =
    let deeper = at_most arm_size c.args.all.now c.loop-i.i c.index-all-i.result c.loop-i-test.true in
    let same = ap arm_size c.index-all-i.is in
    let depth = c.decreases in
    (omega (arith, deeper, same, depth), arm_in_range c.args.setting c.args.calls.now c.args.bound c.args.vars.now.items c.args.loops.now c.args.scope.now c.args.all.now (map arm_of c.loop-i.made.items) c.loop-i.vars.items c.loop-i.loops c.loop-i.i c.index-all-i.result c.loop-i.invariant.read c.loop-i-test.true c.index-all-i.is c.requires.variables c.requires.loops)

pub read_arms-returns-in_err-read_arm-clause-gives : goal.read_arms-returns-in_err-read_arm-clause-gives
read_arms-returns-in_err-read_arm-clause-gives t c =
    let rest = arms_bind (arms (drop (c.loop-i.i + 1) c.args.all.now)) in
    let inner : c.if-bound.arm_bound ≡ (c.args.bound || rest) =
    elim c.if-bound.branch [ read_arms-then-bound w ↦ bound_by_first c.args.bound c.if-bound.arm_bound rest w.if-bound.true w.arm_bound-is | read_arms-else-bound w ↦ bound_by_rest c.args.bound c.if-bound.arm_bound rest w.if-bound.false (w.arm_bound-is ∙ sym (c.binding_arms-binding.ensures (c.loop-i.i + 1))) ] in
    let given = rw c.loop-i.invariant.kept at c.in_err-read_arm.ensures.gives in
    let stop : Gives arms_view (Err c.in_err-read_arm.field-0.0) (arms_findings c.args.setting c.args.calls.now c.args.bound (length c.args.vars.now.items) c.args.scope.now (arms c.args.all.now)) (arms_acts c.args.setting c.args.calls.now (length c.args.vars.now.items) c.args.loops.now c.args.scope.now (arms c.args.all.now)) =
    arms_stop c.args.setting c.args.calls.now c.args.bound c.args.vars.now.items c.args.loops.now c.args.scope.now c.args.all.now (map arm_of c.loop-i.made.items) c.loop-i.vars.items c.loop-i.loops c.loop-i.i c.index-all-i.result c.if-bound.arm_bound c.in_err-read_arm.field-0.0 _ _ c.loop-i.invariant.read c.loop-i-test.true c.index-all-i.is inner given in
    search rules

pub read_arms-loop-i-preserved : goal.read_arms-loop-i-preserved
read_arms-loop-i-preserved t c =
    let i = c.loop-i.i in
    let rest = arms_bind (arms (drop (i + 1) c.args.all.now)) in
    let inner : c.if-bound.arm_bound ≡ (c.args.bound || rest) =
    elim c.if-bound.branch [ read_arms-then-bound w ↦ bound_by_first c.args.bound c.if-bound.arm_bound rest w.if-bound.true w.arm_bound-is | read_arms-else-bound w ↦ bound_by_rest c.args.bound c.if-bound.arm_bound rest w.if-bound.false (w.arm_bound-is ∙ sym (c.binding_arms-binding.ensures (i + 1))) ] in
    let given = rw c.loop-i.invariant.kept at c.in_ok-read_arm.ensures.gives in
    record {
      read = rw c.in_ok-push.ensures.items
          (arms_more c.args.setting c.args.calls.now c.args.bound c.args.vars.now.items c.args.loops.now c.args.scope.now c.args.all.now c.loop-i.made.items c.in_ok-read_arm.field-0 c.loop-i.vars.items c.loop-i.loops i c.index-all-i.result c.if-bound.arm_bound c.read_arm.new.vars.items c.read_arm.new.loops c.loop-i.invariant.read c.loop-i-test.true c.index-all-i.is inner given c.in_ok-read_arm.ensures.listed c.in_ok-read_arm.ensures.numbered);
      kept = c.in_ok-read_arm.ensures.kept ∙ c.loop-i.invariant.kept;
    }

pub read_arms-returns-clause-gives : goal.read_arms-returns-clause-gives
read_arms-returns-clause-gives t c =
    arms_give c.args.setting c.args.calls.now c.args.bound c.args.vars.now.items c.args.loops.now c.args.scope.now (arms c.args.all.now) (map arm_of c.loop-i.made.items) c.loop-i.vars.items c.loop-i.loops
    (arms_end_read c.args.setting c.args.calls.now c.args.bound c.args.vars.now.items c.args.loops.now c.args.scope.now c.args.all.now (map arm_of c.loop-i.made.items) c.loop-i.vars.items c.loop-i.loops c.loop-i.i c.loop-i.invariant.read c.loop-i-test.false)

pub read_block-read_statement-requires : goal.read_block-read_statement-requires
read_block-read_statement-requires t c =
    let deeper = at_most statement_size c.args.statements.now c.loop-i.i c.index-statements-i.result c.loop-i-test.true in
    let same = ap statement_size c.index-statements-i.is in
    let depth = c.decreases in
    (omega (arith, deeper, same, depth), statement_in_range c.args.setting c.args.calls.now c.args.bound c.args.vars.now.items c.args.loops.now c.args.scope.now c.args.statements.now (acts_of c.loop-i.acts.items) c.loop-i.vars.items c.loop-i.loops c.loop-i.scope c.loop-i.i c.index-statements-i.result c.loop-i.invariant c.loop-i-test.true c.index-statements-i.is c.requires.variables c.requires.loops)

pub read_block-loop-i-preserved : goal.read_block-loop-i-preserved
read_block-loop-i-preserved t c =
    let i = c.loop-i.i in
    let rest = block_binds (block (drop (i + 1) c.args.statements.now)) in
    let inner : c.if-bound.one_bound ≡ (c.args.bound || rest) =
    elim c.if-bound.branch [ read_block-then-bound w ↦ bound_by_first c.args.bound c.if-bound.one_bound rest w.if-bound.true w.one_bound-is | read_block-else-bound w ↦ bound_by_rest c.args.bound c.if-bound.one_bound rest w.if-bound.false (w.one_bound-is ∙ sym (c.binding_statements-binding.ensures (i + 1))) ] in
    rw c.in_ok-append.ensures.items
    (block_more c.args.setting c.args.calls.now c.args.bound c.args.vars.now.items c.args.loops.now c.args.scope.now c.args.statements.now c.loop-i.acts.items c.in_ok-made.made.items c.loop-i.vars.items c.loop-i.loops c.loop-i.scope i c.index-statements-i.result c.if-bound.one_bound c.read_statement.new.vars.items c.read_statement.new.loops c.read_statement.new.scope c.loop-i.invariant c.loop-i-test.true c.index-statements-i.is inner c.in_ok-made.ensures.gives c.in_ok-made.ensures.shown c.in_ok-made.ensures.kept c.in_ok-made.ensures.listed c.in_ok-made.ensures.numbered)

pub read_block-returns-clause-gives : goal.read_block-returns-clause-gives
read_block-returns-clause-gives t c =
    block_gives c.args.setting c.args.calls.now c.args.bound c.args.vars.now.items c.args.loops.now c.args.scope.now (block c.args.statements.now) (acts_of c.loop-i.acts.items) c.loop-i.vars.items c.loop-i.loops c.loop-i.scope
    (block_ends c.args.setting c.args.calls.now c.args.bound c.args.vars.now.items c.args.loops.now c.args.scope.now c.args.statements.now (acts_of c.loop-i.acts.items) c.loop-i.vars.items c.loop-i.loops c.loop-i.scope c.loop-i.i c.loop-i.invariant c.loop-i-test.false)

pub read_statement-returns-in_ok-single-in-If-clause-gives : goal.read_statement-returns-in_ok-single-in-If-clause-gives
read_statement-returns-in_ok-single-in-If-clause-gives t c =
    let rest = block_binds (block c.in-If.other.items) in
    let inner : c.if-bound.arms_bound ≡ (c.args.bound || rest) =
    elim c.if-bound.branch [ read_statement-then-bound w ↦ bound_by_first c.args.bound c.if-bound.arms_bound rest w.if-bound.true w.arms_bound-is | read_statement-else-bound w ↦ bound_by_rest c.args.bound c.if-bound.arms_bound rest w.if-bound.false (w.arms_bound-is ∙ (w.block_binds-arms_bound.ensures ∙ ap (λ l. block_binds (block l)) w.deref-else-bound.ensures.value)) ] in
    let given = rw c.deref-in-If.ensures.value at c.in_ok-made-in-If.ensures.gives in
    let listed = rw c.deref-in-If.ensures.value at c.in_ok-made-in-If.ensures.listed in
    let numbered = rw c.deref-in-If.ensures.value at c.in_ok-made-in-If.ensures.numbered in
    let other = rw c.deref-in-If-2.ensures.value at c.in_ok-other-in-If.ensures.gives in
    let g = if_gives c.args.setting c.args.calls.now c.args.bound c.if-bound.arms_bound c.args.vars.now.items c.read_arms.new.vars.items c.args.loops.now c.read_arms.new.loops c.args.scope.now c.read_arms.new.scope (arms c.in-If.all.items) (block c.in-If.other.items) c.in-If.span (arms_view c.in_ok-made-in-If.made) (acts_view c.in_ok-other-in-If.other) inner given listed c.in_ok-made-in-If.ensures.kept numbered other in
    subst (λ x. (statement_findings c.args.setting c.args.calls.now c.args.bound (length c.args.vars.now.items) c.args.scope.now x ≡ []) × (acts_view c.in_ok-single-in-If.field-0 ≡ statement_acts c.args.setting c.args.calls.now (length c.args.vars.now.items) c.args.loops.now c.args.scope.now x))
    (sym (ap statement c.in-If.is ∙ plain_statements.branch c.in-If.all c.in-If.other c.in-If.span))
    (g.0, c.in_ok-single-in-If.ensures ∙ (ap (λ a. Acts.next a Acts.done) (if_act c.in_ok-made-in-If.made c.in_ok-other-in-If.other c.in-If.span) ∙ g.1))

pub read_statement-returns-in_ok-single-in-If-clause-listed : goal.read_statement-returns-in_ok-single-in-If-clause-listed
read_statement-returns-in_ok-single-in-If-clause-listed t c =
    let first = rw c.deref-in-If.ensures.value at c.in_ok-made-in-If.ensures.listed in
    let second = rw c.deref-in-If-2.ensures.value at c.in_ok-other-in-If.ensures.declared in
    subst (λ x. map variable_of c.read_block.new.vars.items ≡ map variable_of c.args.vars.now.items ++ locals x)
    (sym (ap statement c.in-If.is ∙ plain_statements.branch c.in-If.all c.in-If.other c.in-If.span))
    (listed_both (map variable_of c.args.vars.now.items) (map variable_of c.read_arms.new.vars.items) (map variable_of c.read_block.new.vars.items) (locals_of_arms (arms c.in-If.all.items)) (locals_of_block (block c.in-If.other.items)) first second)

pub read_statement-returns-in_ok-single-in-Pick-clause-gives : goal.read_statement-returns-in_ok-single-in-Pick-clause-gives
read_statement-returns-in_ok-single-in-Pick-clause-gives t c =
    let rest = block_binds (block c.in-Pick.right.items) in
    let inner : c.if-bound-2.left_bound ≡ (c.args.bound || rest) =
    elim c.if-bound-2.branch [ read_statement-then-bound-2 w ↦ bound_by_first c.args.bound c.if-bound-2.left_bound rest w.if-bound-2.true w.left_bound-is | read_statement-else-bound-2 w ↦ bound_by_rest c.args.bound c.if-bound-2.left_bound rest w.if-bound-2.false (w.left_bound-is ∙ (w.block_binds-left_bound.ensures ∙ ap (λ l. block_binds (block l)) w.deref-else-bound-2.ensures.value)) ] in
    let given = rw c.deref-in-Pick.ensures.value at c.in_ok-left-in-Pick.ensures.gives in
    let listed = rw c.deref-in-Pick.ensures.value at c.in_ok-left-in-Pick.ensures.declared in
    let numbered = rw c.deref-in-Pick.ensures.value at c.in_ok-left-in-Pick.ensures.numbered in
    let other = rw c.deref-in-Pick-2.ensures.value at c.in_ok-right-in-Pick.ensures.gives in
    let g = pick_gives c.args.setting c.args.calls.now c.args.bound c.if-bound-2.left_bound c.args.vars.now.items c.read_block-in-Pick.new.vars.items c.args.loops.now c.read_block-in-Pick.new.loops c.args.scope.now c.read_block-in-Pick.new.scope c.in-Pick.up (block c.in-Pick.left.items) (block c.in-Pick.right.items) c.in-Pick.span (acts_view c.in_ok-left-in-Pick.left) (acts_view c.in_ok-right-in-Pick.right) inner given listed c.in_ok-left-in-Pick.ensures.kept numbered other in
    subst (λ x. (statement_findings c.args.setting c.args.calls.now c.args.bound (length c.args.vars.now.items) c.args.scope.now x ≡ []) × (acts_view c.in_ok-single-in-Pick.field-0 ≡ statement_acts c.args.setting c.args.calls.now (length c.args.vars.now.items) c.args.loops.now c.args.scope.now x))
    (sym (ap statement c.in-Pick.is ∙ plain_statements.pick c.in-Pick.up c.in-Pick.left c.in-Pick.right c.in-Pick.span))
    (g.0, c.in_ok-single-in-Pick.ensures ∙ (ap (λ a. Acts.next a Acts.done) (pick_act c.in-Pick.up c.in_ok-left-in-Pick.left c.in_ok-right-in-Pick.right c.in-Pick.span) ∙ g.1))

pub read_statement-returns-in_ok-single-in-Pick-clause-listed : goal.read_statement-returns-in_ok-single-in-Pick-clause-listed
read_statement-returns-in_ok-single-in-Pick-clause-listed t c =
    let first = rw c.deref-in-Pick.ensures.value at c.in_ok-left-in-Pick.ensures.declared in
    let second = rw c.deref-in-Pick-2.ensures.value at c.in_ok-right-in-Pick.ensures.declared in
    subst (λ x. map variable_of c.read_block-in-Pick-2.new.vars.items ≡ map variable_of c.args.vars.now.items ++ locals x)
    (sym (ap statement c.in-Pick.is ∙ plain_statements.pick c.in-Pick.up c.in-Pick.left c.in-Pick.right c.in-Pick.span))
    (listed_both (map variable_of c.args.vars.now.items) (map variable_of c.read_block-in-Pick.new.vars.items) (map variable_of c.read_block-in-Pick-2.new.vars.items) (locals_of_block (block c.in-Pick.left.items)) (locals_of_block (block c.in-Pick.right.items)) first second)

pub read_statement-returns-in_err-made-in-While-clause-gives : goal.read_statement-returns-in_err-made-in-While-clause-gives
read_statement-returns-in_err-made-in-While-clause-gives t c =
    let n = length c.args.vars.now.items in
    let e = c.in_err-made-in-While.field-0.0 in
    let rs = loop_rules c.in-While.rules.items in
    let g = expression c.in-While.guard in
    let b = block c.in-While.body.items in
    let head_vars = rw c.deref-in-While.ensures.value at c.in_ok-found-in-While.ensures in
    let head = rw c.deref-in-While-2.ensures.value at head_vars in
    let body = rw c.deref-in-While-3.ensures.value at c.in_err-made-in-While.ensures.gives in
    let stop : Gives acts_view (Err e) (statement_findings c.args.setting c.args.calls.now c.args.bound n c.args.scope.now (statement c.args.one.now)) (statement_acts c.args.setting c.args.calls.now n c.args.loops.now c.args.scope.now (statement c.args.one.now)) =
    subst (λ x. Gives acts_view (Err e) (statement_findings c.args.setting c.args.calls.now c.args.bound n c.args.scope.now x) (statement_acts c.args.setting c.args.calls.now n c.args.loops.now c.args.scope.now x))
    (sym (ap statement c.in-While.is ∙ plain_statements.loop c.in-While.rules c.in-While.guard c.in-While.body c.in-While.span))
    (loop_stops_body c.args.setting c.args.calls.now c.args.bound n c.args.scope.now rs g b c.in-While.span e _ (statement_acts c.args.setting c.args.calls.now n c.args.loops.now c.args.scope.now (Statement.loop rs g b c.in-While.span)) head.0 body) in
    search rules
