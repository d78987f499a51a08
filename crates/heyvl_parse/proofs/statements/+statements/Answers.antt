use Rattle.heyvl_parse.proofs.ChainLoop.{chain_done, chain_fails, chain_first, chain_more}
use Rattle.heyvl_parse.proofs.EachLoop.{added_fails, loop_added, loop_done, loop_fails, loop_init}
use Rattle.heyvl_parse.proofs.SequelLaws.{beside_gives, both}
use Rattle.heyvl_parse.proofs.Fuel.{by_fuel}
use Rattle.heyvl_parse.proofs.statements.+statements.Goals as goal
use Rattle.heyvl_parse.specs.readers.Combinators.{added, each}
use Rattle.heyvl_parse.specs.readers.ReadParts.{Bad, Got, Out, Read, ◌>>=◌}
use Rattle.heyvl_parse.specs.readers.Results.{Fails, Gives}
use Rattle.heyvl_parse.specs.internal.Statements.{braced, branched, entry, is_opening, next_of, skip, stmt, stmts}
use Rattle.heyvl_parse.specs.declared.stops.PartStop.TheVariants.{Fault, Memory}
use Rattle.heyvl_parse.specs.declared.stops.PartStop.{PartStop}
use Rattle.heyvl_syntax.proofs.exported.PlainTreesAre.{plain_statements}
use Rattle.heyvl_syntax.specs.Expressions.{Expression, expression}
use Rattle.heyvl_syntax.specs.Statements.{Block, Statement, block, block_of, guarded, statement}
use Rattle.heyvl_syntax.specs.declared.expressions.Expr.{Expr}
use Rattle.heyvl_syntax.specs.declared.statements.Stmt.{Stmt}
use Rattle.heyvl_syntax.specs.declared.tokens.Token.{Token}
use Rattle.std.proofs.Common.{Bor, Err, Global, List, Ok, Vec, ap, arith, length, map, refl, suc, sym, ◌<◌, ◌∙◌, ◌≡◌, ℕ}
use Rattle.std.proofs.lemmas.Grind.{common_steps}
use Rattle.std.proofs.lemmas.List.{map-append}

pub block-returns-in_err-inner-clause-value : goal.block-returns-in_err-inner-clause-value
block-returns-in_err-inner-clause-value t c = λ n h. rw (c.in_ok-rest.ensures.value) (grind (arith, common_steps, c.in_err-inner.ensures.value n (omega (arith, c.in_ok-rest.ensures.shorter))))

pub block-returns-in_err-rest-2-clause-value : goal.block-returns-in_err-rest-2-clause-value
block-returns-in_err-rest-2-clause-value t c = λ n h. rw (c.in_ok-rest.ensures.value, c.in_ok-inner.ensures.value n (omega (arith, c.in_ok-rest.ensures.shorter))) (grind (arith, common_steps, c.in_err-rest-2.ensures.value))

pub block-returns-clause-value : goal.block-returns-clause-value
block-returns-clause-value t c = λ n h. rw (c.in_ok-rest.ensures.value, c.in_ok-inner.ensures.value n (omega (arith, c.in_ok-rest.ensures.shorter)), c.in_ok-rest-2.ensures.value) refl

pub looped-returns-in_err-rest-clause-value : goal.looped-returns-in_err-rest-clause-value
looped-returns-in_err-rest-clause-value t c = λ n h. rw (c.in_ok-rules.ensures.value (suc n) (omega arith)) (grind (arith, common_steps, c.in_err-rest.ensures.value))

pub looped-returns-in_err-arm-clause-value : goal.looped-returns-in_err-arm-clause-value
looped-returns-in_err-arm-clause-value t c = λ n h. rw (c.in_ok-rules.ensures.value (suc n) (omega arith), c.in_ok-rest.ensures.value) (grind (arith, common_steps, c.in_err-arm.ensures.value n (omega (arith, c.in_ok-rules.ensures.shorter, c.in_ok-rest.ensures.shorter))))

pub looped-returns-clause-value : goal.looped-returns-clause-value
looped-returns-clause-value t c = λ n h. rw (c.in_ok-rules.ensures.value (suc n) (omega arith), c.in_ok-rest.ensures.value, c.in_ok-arm.ensures.value n (omega (arith, c.in_ok-rules.ensures.shorter, c.in_ok-rest.ensures.shorter)), c.put_while.ensures, c.in_ok-reserve.ensures.items, c.span_between.ensures) refl

pub picked-returns-in_err-left-clause-value : goal.picked-returns-in_err-left-clause-value
picked-returns-in_err-left-clause-value t c = λ n h. rw (c.in_ok-up.ensures.value) (grind (arith, common_steps, c.in_err-left.ensures.value n (omega (arith, c.in_ok-up.ensures.shorter))))

pub picked-returns-in_err-right-clause-value : goal.picked-returns-in_err-right-clause-value
picked-returns-in_err-right-clause-value t c = λ n h. rw (c.in_ok-up.ensures.value, c.in_ok-left.ensures.value n (omega (arith, c.in_ok-up.ensures.shorter))) (grind (arith, common_steps, c.in_err-right.ensures.value n (omega (arith, c.in_ok-up.ensures.shorter, c.in_ok-left.ensures.shorter))))

pub picked-returns-clause-value : goal.picked-returns-clause-value
picked-returns-clause-value t c = λ n h. rw (c.in_ok-up.ensures.value, c.in_ok-left.ensures.value n (omega (arith, c.in_ok-up.ensures.shorter)), c.in_ok-right.ensures.value n (omega (arith, c.in_ok-up.ensures.shorter, c.in_ok-left.ensures.shorter))) refl

pub arm-returns-in_err-parts-clause-value : goal.arm-returns-in_err-parts-clause-value
arm-returns-in_err-parts-clause-value t c = λ n h.
    let fails : Gives {Y = Expression × Block} (λ (x : (Expr × Vec Stmt Global) × Bor (List Token)). (expression x.0.0, block x.0.1.items)) (λ x. x.1.now) (Err c.in_err-parts.field-0.0) (braced (stmts n) c.in_ok-guard.rest.now >>= λ y r. both (expression c.in_ok-guard.guard) y r)
    = beside_gives expression (λ (x : Vec Stmt Global). block x.items) c.in_ok-guard.guard c.block.result (Err c.in_err-parts.field-0.0) (braced (stmts n) c.in_ok-guard.rest.now) c.in_err-parts.ensures (c.block.ensures.value n (omega (arith, c.in_ok-guard.ensures.shorter))) in
    rw (c.in_ok-guard.ensures.value (suc n) (omega arith)) (grind (arith, common_steps, fails))

pub arm-returns-clause-value : goal.arm-returns-clause-value
arm-returns-clause-value t c = λ n h. rw (c.in_ok-guard.ensures.value (suc n) (omega arith), beside_gives expression (λ (x : Vec Stmt Global). block x.items) c.in_ok-guard.guard c.block.result (Ok (c.in_ok-parts.parts, c.in_ok-parts.rest)) (braced (stmts n) c.in_ok-guard.rest.now) c.in_ok-parts.ensures (c.block.ensures.value n (omega (arith, c.in_ok-guard.ensures.shorter)))) (rw plain_statements.guarded refl)

added_skip : (before : List Statement) (s : Read Statement) → added before (s >>= λ x r. Got x (skip r)) ≡ (added before s >>= λ xs r. Got xs (skip r))
added_skip before (Got x r) = refl
added_skip before (Bad r) = refl
added_skip before Out = refl

entry_added : (n : ℕ) (ts r : List Token) (before after : List Statement) → added before (stmt (suc n) (braced (stmts n)) ts) ≡ Got after r → added before (entry (suc n) (braced (stmts n)) ts) ≡ Got after (skip r)
entry_added n ts r before after e = added_skip before (stmt (suc n) (braced (stmts n)) ts) ∙ ap (λ z. z >>= λ xs r. Got xs (skip r)) e

entry_fails : (e : PartStop) (n : ℕ) (ts : List Token) → Fails e (stmt (suc n) (braced (stmts n)) ts) → Fails e (entry (suc n) (braced (stmts n)) ts)
entry_fails (Memory error) n ts f = tt
entry_fails (Fault left) n ts (r, bad, len) = (r, ap (λ z. z >>= λ x r. Got x (skip r)) bad, len)

made : (n : ℕ) (ts r : List Token) (xs : List Statement) → each is_opening (entry (suc n) (braced (stmts n))) (suc n) ts ≡ Got xs r → stmts (suc n) ts ≡ Got (block_of xs) r
made n ts r xs e = ap (λ z. z >>= λ x r. Got (block_of x) r) e

made_fails : (e : PartStop) (n : ℕ) (ts : List Token) → Fails e (each is_opening (entry (suc n) (braced (stmts n))) (suc n) ts) → Fails e (stmts (suc n) ts)
made_fails (Memory error) n ts f = tt
made_fails (Fault left) n ts (r, bad, len) = (r, ap (λ z. z >>= λ x r. Got (block_of x) r) bad, len)

pub statements-items-init : goal.statements-items-init
statements-items-init t c = record { shorter = omega arith; same = λ n h. rw c.new-found.ensures.items (loop_init is_opening (entry (suc n) (braced (stmts n))) (suc n) c.args.tokens.now (omega arith)) }

pub statements-items-preserved : goal.statements-items-preserved
statements-items-preserved t c = record {
  shorter = omega (arith, c.in_ok-behind.ensures.shorter, c.skip-rest.ensures.shorter, c.items.invariant.shorter);
  same = λ n h. rw c.skip-rest.ensures.value (loop_added is_opening (entry (suc n) (braced (stmts n))) (each is_opening (entry (suc n) (braced (stmts n))) (suc n) c.args.tokens.now) c.items.rest.now (skip c.in_ok-behind.behind.now) (map statement c.items.found.items) _ (c.items.invariant.same n h) (sym c.items-test.ensures) (entry_added n c.items.rest.now c.in_ok-behind.behind.now (map statement c.items.found.items) _ (c.in_ok-behind.ensures.value n (omega (arith, c.items.invariant.shorter)))) (rw (← c.skip-rest.ensures.value) (omega (arith, c.in_ok-behind.ensures.shorter, c.skip-rest.ensures.shorter))));
}

pub statements-returns-in_err-behind-clause-value : goal.statements-returns-in_err-behind-clause-value
statements-returns-in_err-behind-clause-value t c = by_fuel _ _ (λ n h.
    grind (arith, common_steps, made_fails c.in_err-behind.field-0.0 n c.args.tokens.now (loop_fails is_opening (entry (suc n) (braced (stmts n))) (each is_opening (entry (suc n) (braced (stmts n))) (suc n) c.args.tokens.now) c.in_err-behind.field-0.0 c.items.rest.now (map statement c.items.found.items) (c.items.invariant.same n h) (sym c.items-test.ensures) (entry_fails c.in_err-behind.field-0.0 n c.items.rest.now (added_fails c.in_err-behind.field-0.0 (map statement c.items.found.items) _ (c.in_err-behind.ensures.value n (omega (arith, c.items.invariant.shorter))))))))

pub statements-returns-clause-value : goal.statements-returns-clause-value
statements-returns-clause-value t c = by_fuel _ _ (λ n h.
    made n c.args.tokens.now c.items.rest.now (map statement c.items.found.items) (loop_done is_opening (entry (suc n) (braced (stmts n))) (each is_opening (entry (suc n) (braced (stmts n))) (suc n) c.args.tokens.now) c.items.rest.now (map statement c.items.found.items) (c.items.invariant.same n h) (sym c.items-test.ensures)))

pub branched-arms-init : goal.branched-arms-init
branched-arms-init t c = record {
  shorter = omega (arith, c.in_ok-first.ensures.shorter);
  same = λ n h. rw c.in_ok-found.ensures (chain_first (suc n) (braced (stmts n)) c.args.tokens.now c.in_ok-first.rest.now (guarded c.in_ok-first.first) (omega (arith, c.in_ok-first.ensures.shorter)) (c.in_ok-first.ensures.value n h));
}

pub branched-arms-preserved : goal.branched-arms-preserved
branched-arms-preserved t c =
    let less : length c.in_ok-one.behind.now < length c.arms.rest.now = rw c.in-Again.is at c.in_ok-one.ensures.shorter in
    record {
      shorter = omega (arith, c.arms.invariant.shorter);
      same = λ n h. rw (c.in_ok-put-in-Again.ensures, map-append guarded) (chain_more (suc n) (braced (stmts n)) (branched (suc n) (braced (stmts n)) c.args.tokens.now) c.arms.rest.now c.in_ok-one.behind.now (map guarded c.arms.found.items) (guarded c.in-Again.arm) (c.arms.invariant.same n h) (c.in_ok-one.ensures.value n (omega (arith, c.arms.invariant.shorter)) ∙ ap (λ x. Got (next_of x) c.in_ok-one.behind.now) c.in-Again.is) less);
    }

pub branched-returns-in_err-one-clause-value : goal.branched-returns-in_err-one-clause-value
branched-returns-in_err-one-clause-value t c = λ n h.
    grind (arith, common_steps, chain_fails (suc n) (braced (stmts n)) (branched (suc n) (braced (stmts n)) c.args.tokens.now) c.in_err-one.field-0.0 c.arms.rest.now (map guarded c.arms.found.items) (c.arms.invariant.same n h) (c.in_err-one.ensures.value n (omega (arith, c.arms.invariant.shorter))))

pub branched-returns-in-Last-clause-value : goal.branched-returns-in-Last-clause-value
branched-returns-in-Last-clause-value t c = λ n h.
    chain_done (suc n) (braced (stmts n)) (branched (suc n) (braced (stmts n)) c.args.tokens.now) c.arms.rest.now c.in_ok-one.behind.now (map guarded c.arms.found.items) (block c.in-Last.last.items) (c.arms.invariant.same n h) (c.in_ok-one.ensures.value n (omega (arith, c.arms.invariant.shorter)) ∙ ap (λ x. Got (next_of x) c.in_ok-one.behind.now) c.in-Last.is)

pub stmt-returns-in-Var-clause-value : goal.stmt-returns-in-Var-clause-value
stmt-returns-in-Var-clause-value t c = λ n h. rw (← c.in-Var.ensures) (c.var.ensures.value (suc n) (omega arith))

pub stmt-returns-in-Assign-clause-value : goal.stmt-returns-in-Assign-clause-value
stmt-returns-in-Assign-clause-value t c = λ n h. rw (← c.in-Assign.ensures) (c.assign.ensures.value (suc n) (omega arith))

pub stmt-returns-in-Check-clause-value : goal.stmt-returns-in-Check-clause-value
stmt-returns-in-Check-clause-value t c = λ n h. rw (← c.in-Check.ensures) (c.check.ensures.value (suc n) (omega arith))

pub stmt-returns-in-Validate-clause-value : goal.stmt-returns-in-Validate-clause-value
stmt-returns-in-Validate-clause-value t c = λ n h. rw (← c.in-Validate.ensures) c.validate.ensures.value

pub stmt-returns-in-Havoc-clause-value : goal.stmt-returns-in-Havoc-clause-value
stmt-returns-in-Havoc-clause-value t c = λ n h. rw (← c.in-Havoc.ensures) (c.havoc.ensures.value (suc n) (omega arith))

pub stmt-returns-in-Reward-clause-value : goal.stmt-returns-in-Reward-clause-value
stmt-returns-in-Reward-clause-value t c = λ n h. rw (← c.in-Reward.ensures) (c.reward.ensures.value (suc n) (omega arith))

pub stmt-returns-in-If-clause-value : goal.stmt-returns-in-If-clause-value
stmt-returns-in-If-clause-value t c = λ n h. rw (← c.in-If.ensures) (c.if_at.ensures.value n h)

pub stmt-returns-in-Loop-clause-value : goal.stmt-returns-in-Loop-clause-value
stmt-returns-in-Loop-clause-value t c = λ n h. rw (← c.in-Loop.ensures) (c.looped.ensures.value n h)

pub stmt-returns-in-Other-clause-value : goal.stmt-returns-in-Other-clause-value
stmt-returns-in-Other-clause-value t c = λ n h. (c.args.tokens.now, rw (← c.in-Other.ensures) refl, refl)

pub if_at-returns-in_err-parts-clause-value : goal.if_at-returns-in_err-parts-clause-value
if_at-returns-in_err-parts-clause-value t c = λ n h.
    rw (c.in_ok-rest.ensures.value, ← c.if-starts_pick.ensures) (grind (arith, common_steps, c.in_err-parts.ensures.value n (omega (arith, c.in_ok-rest.ensures.shorter))))

pub if_at-returns-then-starts_pick-clause-value : goal.if_at-returns-then-starts_pick-clause-value
if_at-returns-then-starts_pick-clause-value t c = λ n h.
    rw (c.in_ok-rest.ensures.value, ← c.if-starts_pick.ensures, c.in_ok-parts.ensures.value n (omega (arith, c.in_ok-rest.ensures.shorter)), c.put_pick.ensures, c.in_ok-reserve.ensures.items, c.span_between.ensures) refl

pub if_at-returns-clause-value : goal.if_at-returns-clause-value
if_at-returns-clause-value t c = λ n h.
    rw (c.in_ok-rest.ensures.value, ← c.if-starts_pick.ensures, c.in_ok-parts-2.ensures.value n (omega (arith, c.in_ok-rest.ensures.shorter)), c.put_if.ensures, c.in_ok-reserve.ensures.items, c.span_between-2.ensures) refl

pub arm-returns-in_err-guard-clause-value : goal.arm-returns-in_err-guard-clause-value
arm-returns-in_err-guard-clause-value t c = λ n h. grind (arith, common_steps, c.in_err-guard.ensures.value (suc n) (omega arith))

pub looped-returns-in_err-rules-clause-value : goal.looped-returns-in_err-rules-clause-value
looped-returns-in_err-rules-clause-value t c = λ n h. grind (arith, common_steps, c.in_err-rules.ensures.value (suc n) (omega arith))

pub link_at-returns-in_err-rest-clause-value : goal.link_at-returns-in_err-rest-clause-value
link_at-returns-in_err-rest-clause-value t c = λ n h. rw (← c.if-not-starts_key.ensures) (grind (arith, common_steps, c.in_err-rest.ensures.value))

pub link_at-returns-in_err-last-clause-value : goal.link_at-returns-in_err-last-clause-value
link_at-returns-in_err-last-clause-value t c = λ n h. rw (← c.if-not-starts_key.ensures, c.in_ok-rest.ensures.value, ← c.if-not-starts_key-2.ensures) (grind (arith, common_steps, c.in_err-last.ensures.value n (omega (arith, c.in_ok-rest.ensures.shorter))))

pub link_at-returns-then-not-starts_key-2-clause-value : goal.link_at-returns-then-not-starts_key-2-clause-value
link_at-returns-then-not-starts_key-2-clause-value t c = λ n h. rw (← c.if-not-starts_key.ensures, c.in_ok-rest.ensures.value, ← c.if-not-starts_key-2.ensures, c.in_ok-last.ensures.value n (omega (arith, c.in_ok-rest.ensures.shorter))) refl

pub link_at-returns-in_err-rest-2-clause-value : goal.link_at-returns-in_err-rest-2-clause-value
link_at-returns-in_err-rest-2-clause-value t c = λ n h. rw (← c.if-not-starts_key.ensures, c.in_ok-rest.ensures.value, ← c.if-not-starts_key-2.ensures) (grind (arith, common_steps, c.in_err-rest-2.ensures.value))

pub link_at-returns-in_err-one-clause-value : goal.link_at-returns-in_err-one-clause-value
link_at-returns-in_err-one-clause-value t c = λ n h. rw (← c.if-not-starts_key.ensures, c.in_ok-rest.ensures.value, ← c.if-not-starts_key-2.ensures, c.in_ok-rest-2.ensures.value) (grind (arith, common_steps, c.in_err-one.ensures.value n (omega (arith, c.in_ok-rest.ensures.shorter, c.in_ok-rest-2.ensures.shorter))))

pub link_at-returns-clause-value : goal.link_at-returns-clause-value
link_at-returns-clause-value t c = λ n h. rw (← c.if-not-starts_key.ensures, c.in_ok-rest.ensures.value, ← c.if-not-starts_key-2.ensures, c.in_ok-rest-2.ensures.value, c.in_ok-one.ensures.value n (omega (arith, c.in_ok-rest.ensures.shorter, c.in_ok-rest-2.ensures.shorter))) refl

pub otherwise-returns-in_err-rest-clause-value : goal.otherwise-returns-in_err-rest-clause-value
otherwise-returns-in_err-rest-clause-value t c = λ n h. rw (← c.if-starts_key.ensures) (grind (arith, common_steps, c.in_err-rest.ensures.value))

pub otherwise-returns-then-starts_key-clause-value : goal.otherwise-returns-then-starts_key-clause-value
otherwise-returns-then-starts_key-clause-value t c = λ n h. rw (← c.if-starts_key.ensures, c.in_ok-rest.ensures.value) (c.block.ensures.value n (omega (arith, c.in_ok-rest.ensures.shorter)))

pub if_at-returns-in_err-parts-2-clause-value : goal.if_at-returns-in_err-parts-2-clause-value
if_at-returns-in_err-parts-2-clause-value t c = λ n h. rw (c.in_ok-rest.ensures.value, ← c.if-starts_pick.ensures) (grind (arith, common_steps, c.in_err-parts-2.ensures.value n (omega (arith, c.in_ok-rest.ensures.shorter))))
