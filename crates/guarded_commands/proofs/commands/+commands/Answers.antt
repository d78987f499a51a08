use Rattle.guarded_commands.proofs.PlainCommandsAre.{plain_commands}
use Rattle.heyvl_parse.proofs.exported.Loops.{by_fuel, loop_done, loop_fails, loop_init, loop_more}
use Rattle.heyvl_parse.specs.declared.stops.PartStop.TheVariants.{Fault, Memory}
use Rattle.heyvl_parse.specs.declared.stops.PartStop.{PartStop}
use Rattle.heyvl_parse.specs.readers.Combinators.{each}
use Rattle.heyvl_parse.specs.readers.ReadParts.{Got, ◌>>=◌}
use Rattle.heyvl_parse.specs.readers.Results.{Fails}
use Rattle.heyvl_syntax.specs.declared.tokens.Token.{Token}
use Rattle.guarded_commands.proofs.commands.+commands.Goals as goal
use Rattle.guarded_commands.specs.Programs.{CommandTree, block_of, command_tree}
use Rattle.guarded_commands.specs.internal.Commands.{braced, command, commands, is_opening}
use Rattle.std.proofs.Common.{List, ap, arith, map, refl, suc, sym, ◌≡◌, ℕ}
use Rattle.std.proofs.lemmas.Grind.{common_steps}
use Rattle.std.proofs.lemmas.List.{map-append}

made : (n : ℕ) (ts r : List Token) (xs : List CommandTree) → each is_opening (command (suc n) (braced (commands n))) (suc n) ts ≡ Got xs r → commands (suc n) ts ≡ Got (block_of xs) r
made n ts r xs e = ap (λ z. z >>= λ x r. Got (block_of x) r) e

made_fails : (e : PartStop) (n : ℕ) (ts : List Token) → Fails e (each is_opening (command (suc n) (braced (commands n))) (suc n) ts) → Fails e (commands (suc n) ts)
made_fails (Memory error) n ts f = tt
made_fails (Fault left) n ts (r, bad, len) = (r, ap (λ z. z >>= λ x r. Got (block_of x) r) bad, len)

pub block-returns-in_err-rest-clause-value : goal.block-returns-in_err-rest-clause-value
block-returns-in_err-rest-clause-value t c = λ n h. grind (arith, common_steps, c.in_err-rest.ensures.value)

pub block-returns-in_err-inner-clause-value : goal.block-returns-in_err-inner-clause-value
block-returns-in_err-inner-clause-value t c = λ n h. rw (c.in_ok-rest.ensures.value) (grind (arith, common_steps, c.in_err-inner.ensures.value n (omega (arith, c.in_ok-rest.ensures.shorter))))

pub block-returns-in_err-rest-2-clause-value : goal.block-returns-in_err-rest-2-clause-value
block-returns-in_err-rest-2-clause-value t c = λ n h. rw (c.in_ok-rest.ensures.value, c.in_ok-inner.ensures.value n (omega (arith, c.in_ok-rest.ensures.shorter))) (grind (arith, common_steps, c.in_err-rest-2.ensures.value))

pub block-returns-clause-value : goal.block-returns-clause-value
block-returns-clause-value t c = λ n h. rw (c.in_ok-rest.ensures.value, c.in_ok-inner.ensures.value n (omega (arith, c.in_ok-rest.ensures.shorter)), c.in_ok-rest-2.ensures.value) (refl)

pub commands-items-init : goal.commands-items-init
commands-items-init t c = record { shorter = omega arith; same = λ n h. rw c.new-found.ensures.items (loop_init is_opening (command (suc n) (braced (commands n))) (suc n) c.args.tokens.now (omega arith)) }

pub commands-items-preserved : goal.commands-items-preserved
commands-items-preserved t c = record {
  shorter = omega (arith, c.in_ok-one.ensures.shorter, c.items.invariant.shorter);
  same = λ n h. rw (c.in_ok-push.ensures.items, map-append command_tree) (loop_more is_opening (command (suc n) (braced (commands n))) (each is_opening (command (suc n) (braced (commands n))) (suc n) c.args.tokens.now) c.items.rest.now c.in_ok-one.behind.now (map command_tree c.items.found.items) (command_tree c.in_ok-one.one) (c.items.invariant.same n h) (sym c.items-test.ensures) (c.in_ok-one.ensures.value n (omega (arith, c.items.invariant.shorter))) c.in_ok-one.ensures.shorter);
}

pub commands-returns-in_err-one-clause-value : goal.commands-returns-in_err-one-clause-value
commands-returns-in_err-one-clause-value t c = by_fuel _ _ (λ n h.
    grind (arith, common_steps, made_fails c.in_err-one.field-0.0 n c.args.tokens.now (loop_fails is_opening (command (suc n) (braced (commands n))) (each is_opening (command (suc n) (braced (commands n))) (suc n) c.args.tokens.now) c.in_err-one.field-0.0 c.items.rest.now (map command_tree c.items.found.items) (c.items.invariant.same n h) (sym c.items-test.ensures) (c.in_err-one.ensures.value n (omega (arith, c.items.invariant.shorter))))))

pub commands-returns-clause-value : goal.commands-returns-clause-value
commands-returns-clause-value t c = by_fuel _ _ (λ n h.
    made n c.args.tokens.now c.items.rest.now (map command_tree c.items.found.items) (loop_done is_opening (command (suc n) (braced (commands n))) (each is_opening (command (suc n) (braced (commands n))) (suc n) c.args.tokens.now) c.items.rest.now (map command_tree c.items.found.items) (c.items.invariant.same n h) (sym c.items-test.ensures)))

pub command-returns-in-Word-clause-value : goal.command-returns-in-Word-clause-value
command-returns-in-Word-clause-value t c = λ n h. rw (← c.in-Word.ensures) (c.named.ensures.value (suc n) (omega arith))

pub command-returns-in-Tick-clause-value : goal.command-returns-in-Tick-clause-value
command-returns-in-Tick-clause-value t c = λ n h. rw (← c.in-Tick.ensures) (c.ticked.ensures.value (suc n) (omega arith))

pub command-returns-in-If-clause-value : goal.command-returns-in-If-clause-value
command-returns-in-If-clause-value t c = λ n h. rw (← c.in-If.ensures) (c.branched.ensures.value n h)

pub command-returns-in-Block-clause-value : goal.command-returns-in-Block-clause-value
command-returns-in-Block-clause-value t c = λ n h. rw (← c.in-Block.ensures) (c.forked.ensures.value n h)

pub command-returns-in-While-clause-value : goal.command-returns-in-While-clause-value
command-returns-in-While-clause-value t c = λ n h. rw (← c.in-While.ensures) (c.repeated.ensures.value n h)

pub command-returns-in-Other-clause-value : goal.command-returns-in-Other-clause-value
command-returns-in-Other-clause-value t c = λ n h. (c.args.tokens.now, rw (← c.in-Other.ensures) refl, refl)

pub branched-returns-in_err-rest-clause-value : goal.branched-returns-in_err-rest-clause-value
branched-returns-in_err-rest-clause-value t c = λ n h. grind (arith, common_steps, c.in_err-rest.ensures.value)

pub branched-returns-in_err-guard-clause-value : goal.branched-returns-in_err-guard-clause-value
branched-returns-in_err-guard-clause-value t c = λ n h. rw (c.in_ok-rest.ensures.value) (grind (arith, common_steps, c.in_err-guard.ensures.value (suc n) (omega (arith, c.in_ok-rest.ensures.shorter))))

pub branched-returns-in_err-left-clause-value : goal.branched-returns-in_err-left-clause-value
branched-returns-in_err-left-clause-value t c = λ n h. rw (c.in_ok-rest.ensures.value, c.in_ok-guard.ensures.value (suc n) (omega (arith, c.in_ok-rest.ensures.shorter))) (grind (arith, common_steps, c.in_err-left.ensures.value n (omega (arith, c.in_ok-rest.ensures.shorter, c.in_ok-guard.ensures.shorter))))

pub branched-returns-in_err-rest-2-clause-value : goal.branched-returns-in_err-rest-2-clause-value
branched-returns-in_err-rest-2-clause-value t c = λ n h. rw (c.in_ok-rest.ensures.value, c.in_ok-guard.ensures.value (suc n) (omega (arith, c.in_ok-rest.ensures.shorter)), c.in_ok-left.ensures.value n (omega (arith, c.in_ok-rest.ensures.shorter, c.in_ok-guard.ensures.shorter))) (grind (arith, common_steps, c.in_err-rest-2.ensures.value))

pub branched-returns-in_err-right-clause-value : goal.branched-returns-in_err-right-clause-value
branched-returns-in_err-right-clause-value t c = λ n h. rw (c.in_ok-rest.ensures.value, c.in_ok-guard.ensures.value (suc n) (omega (arith, c.in_ok-rest.ensures.shorter)), c.in_ok-left.ensures.value n (omega (arith, c.in_ok-rest.ensures.shorter, c.in_ok-guard.ensures.shorter)), c.in_ok-rest-2.ensures.value) (grind (arith, common_steps, c.in_err-right.ensures.value n (omega (arith, c.in_ok-rest.ensures.shorter, c.in_ok-guard.ensures.shorter, c.in_ok-left.ensures.shorter, c.in_ok-rest-2.ensures.shorter))))

pub branched-returns-clause-value : goal.branched-returns-clause-value
branched-returns-clause-value t c = λ n h. rw (c.in_ok-rest.ensures.value, c.in_ok-guard.ensures.value (suc n) (omega (arith, c.in_ok-rest.ensures.shorter)), c.in_ok-left.ensures.value n (omega (arith, c.in_ok-rest.ensures.shorter, c.in_ok-guard.ensures.shorter)), c.in_ok-rest-2.ensures.value, c.in_ok-right.ensures.value n (omega (arith, c.in_ok-rest.ensures.shorter, c.in_ok-guard.ensures.shorter, c.in_ok-left.ensures.shorter, c.in_ok-rest-2.ensures.shorter))) (rw (plain_commands.branch c.in_ok-guard.guard c.in_ok-left.left c.in_ok-right.right c.span_between.result, c.span_between.ensures) refl)

pub bracketed-returns-in_err-found-clause-value : goal.bracketed-returns-in_err-found-clause-value
bracketed-returns-in_err-found-clause-value t c = λ n h. grind (arith, common_steps, c.in_err-found.ensures.value (suc n) (omega arith))

pub bracketed-returns-in_err-rest-clause-value : goal.bracketed-returns-in_err-rest-clause-value
bracketed-returns-in_err-rest-clause-value t c = λ n h. rw (c.in_ok-found.ensures.value (suc n) (omega arith)) (grind (arith, common_steps, c.in_err-rest.ensures.value))

pub bracketed-returns-in_err-body-clause-value : goal.bracketed-returns-in_err-body-clause-value
bracketed-returns-in_err-body-clause-value t c = λ n h. rw (c.in_ok-found.ensures.value (suc n) (omega arith), c.in_ok-rest.ensures.value) (grind (arith, common_steps, c.in_err-body.ensures.value n (omega (arith, c.in_ok-found.ensures.shorter, c.in_ok-rest.ensures.shorter))))

pub bracketed-returns-clause-value : goal.bracketed-returns-clause-value
bracketed-returns-clause-value t c = λ n h. rw (c.in_ok-found.ensures.value (suc n) (omega arith), c.in_ok-rest.ensures.value, c.in_ok-body.ensures.value n (omega (arith, c.in_ok-found.ensures.shorter, c.in_ok-rest.ensures.shorter))) (refl)

pub forked-returns-in_err-left-clause-value : goal.forked-returns-in_err-left-clause-value
forked-returns-in_err-left-clause-value t c = λ n h. grind (arith, common_steps, c.in_err-left.ensures.value n h)

pub forked-returns-in_err-rest-clause-value : goal.forked-returns-in_err-rest-clause-value
forked-returns-in_err-rest-clause-value t c = λ n h. rw (c.in_ok-left.ensures.value n h) (grind (arith, common_steps, c.in_err-rest.ensures.value))

pub forked-returns-in_err-rest-2-clause-value : goal.forked-returns-in_err-rest-2-clause-value
forked-returns-in_err-rest-2-clause-value t c = λ n h. rw (c.in_ok-left.ensures.value n h, c.in_ok-rest.ensures.value, ← c.if-starts_mark.ensures) (grind (arith, common_steps, c.in_err-rest-2.ensures.value))

pub forked-returns-in_err-right-clause-value : goal.forked-returns-in_err-right-clause-value
forked-returns-in_err-right-clause-value t c = λ n h. rw (c.in_ok-left.ensures.value n h, c.in_ok-rest.ensures.value, ← c.if-starts_mark.ensures, c.in_ok-rest-2.ensures.value) (grind (arith, common_steps, c.in_err-right.ensures.value n (omega (arith, c.in_ok-left.ensures.shorter, c.in_ok-rest.ensures.shorter, c.in_ok-rest-2.ensures.shorter))))

pub forked-returns-then-starts_mark-clause-value : goal.forked-returns-then-starts_mark-clause-value
forked-returns-then-starts_mark-clause-value t c = λ n h. rw (c.in_ok-left.ensures.value n h, c.in_ok-rest.ensures.value, ← c.if-starts_mark.ensures, c.in_ok-rest-2.ensures.value, c.in_ok-right.ensures.value n (omega (arith, c.in_ok-left.ensures.shorter, c.in_ok-rest.ensures.shorter, c.in_ok-rest-2.ensures.shorter))) (rw (plain_commands.choice c.in_ok-left.left c.in_ok-right.right c.span_between.result, c.span_between.ensures) refl)

pub forked-returns-in_err-parts-clause-value : goal.forked-returns-in_err-parts-clause-value
forked-returns-in_err-parts-clause-value t c = λ n h. rw (c.in_ok-left.ensures.value n h, c.in_ok-rest.ensures.value, ← c.if-starts_mark.ensures) (grind (arith, common_steps, c.in_err-parts.ensures.value n (omega (arith, c.in_ok-left.ensures.shorter, c.in_ok-rest.ensures.shorter))))

pub forked-returns-clause-value : goal.forked-returns-clause-value
forked-returns-clause-value t c = λ n h. rw (c.in_ok-left.ensures.value n h, c.in_ok-rest.ensures.value, ← c.if-starts_mark.ensures, c.in_ok-parts.ensures.value n (omega (arith, c.in_ok-left.ensures.shorter, c.in_ok-rest.ensures.shorter))) (rw (plain_commands.mix c.in_ok-parts.parts.0 c.in_ok-left.left c.in_ok-parts.parts.1 c.span_between-2.result, c.span_between-2.ensures) refl)

pub repeated-returns-in_err-rest-clause-value : goal.repeated-returns-in_err-rest-clause-value
repeated-returns-in_err-rest-clause-value t c = λ n h. grind (arith, common_steps, c.in_err-rest.ensures.value)

pub repeated-returns-in_err-guard-clause-value : goal.repeated-returns-in_err-guard-clause-value
repeated-returns-in_err-guard-clause-value t c = λ n h. rw (c.in_ok-rest.ensures.value) (grind (arith, common_steps, c.in_err-guard.ensures.value (suc n) (omega (arith, c.in_ok-rest.ensures.shorter))))

pub repeated-returns-in_err-rest-2-clause-value : goal.repeated-returns-in_err-rest-2-clause-value
repeated-returns-in_err-rest-2-clause-value t c = λ n h. rw (c.in_ok-rest.ensures.value, c.in_ok-guard.ensures.value (suc n) (omega (arith, c.in_ok-rest.ensures.shorter))) (grind (arith, common_steps, c.in_err-rest-2.ensures.value))

pub repeated-returns-in_err-parts-clause-value : goal.repeated-returns-in_err-parts-clause-value
repeated-returns-in_err-parts-clause-value t c = λ n h. rw (c.in_ok-rest.ensures.value, c.in_ok-guard.ensures.value (suc n) (omega (arith, c.in_ok-rest.ensures.shorter)), c.in_ok-rest-2.ensures.value) (grind (arith, common_steps, c.in_err-parts.ensures.value n (omega (arith, c.in_ok-rest.ensures.shorter, c.in_ok-guard.ensures.shorter, c.in_ok-rest-2.ensures.shorter))))

pub repeated-returns-clause-value : goal.repeated-returns-clause-value
repeated-returns-clause-value t c = λ n h. rw (c.in_ok-rest.ensures.value, c.in_ok-guard.ensures.value (suc n) (omega (arith, c.in_ok-rest.ensures.shorter)), c.in_ok-rest-2.ensures.value, c.in_ok-parts.ensures.value n (omega (arith, c.in_ok-rest.ensures.shorter, c.in_ok-guard.ensures.shorter, c.in_ok-rest-2.ensures.shorter))) (rw (plain_commands.repeat c.in_ok-guard.guard c.in_ok-parts.parts.0 c.in_ok-parts.parts.1 c.span_between.result, c.span_between.ensures) refl)
