use Rattle.heyvl_parse.proofs.exported.Loops.{loop_done, loop_fails, loop_init, loop_more}
use Rattle.heyvl_parse.specs.readers.Combinators.{each}
use Rattle.guarded_commands.proofs.declarations.declarations.Goals as goal
use Rattle.guarded_commands.specs.internal.Programs.{declaration, is_type}
use Rattle.std.proofs.Common.{arith, sym}
use Rattle.std.proofs.lemmas.Grind.{common_steps}

pub items-init : goal.items-init
items-init c = record { shorter = omega arith; same = λ n h. rw c.new-found.ensures.items (loop_init is_type declaration n c.args.tokens.now h) }

pub items-preserved : goal.items-preserved
items-preserved c = record {
  shorter = omega (arith, c.in_ok-one.ensures.shorter, c.items.invariant.shorter);
  same = λ n h. rw c.in_ok-push.ensures.items (loop_more is_type declaration (each is_type declaration n c.args.tokens.now) c.items.rest.now c.in_ok-one.behind.now c.items.found.items c.in_ok-one.one (c.items.invariant.same n h) (sym c.items-test.ensures) c.in_ok-one.ensures.value c.in_ok-one.ensures.shorter);
}

pub returns-in_err-one-clause-value : goal.returns-in_err-one-clause-value
returns-in_err-one-clause-value c = λ n h.
    grind (arith, common_steps, loop_fails is_type declaration (each is_type declaration n c.args.tokens.now) c.in_err-one.field-0.0 c.items.rest.now c.items.found.items (c.items.invariant.same n h) (sym c.items-test.ensures) c.in_err-one.ensures.value)

pub returns-clause-value : goal.returns-clause-value
returns-clause-value c = λ n h. loop_done is_type declaration (each is_type declaration n c.args.tokens.now) c.items.rest.now c.items.found.items (c.items.invariant.same n h) (sym c.items-test.ensures)
