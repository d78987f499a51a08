use Rattle.heyvl_parse.proofs.EachLoop.{loop_done, loop_fails, loop_first, loop_more}
use Rattle.heyvl_parse.proofs.lists.names.Goals as goal
use Rattle.heyvl_parse.specs.readers.Combinators.{lead, list}
use Rattle.heyvl_parse.specs.readers.ReadParts.{is_mark, word}
use Rattle.heyvl_syntax.specs.declared.marks.Mark.TheVariants as marks
use Rattle.std.proofs.Common.{arith, sym}
use Rattle.std.proofs.lemmas.Grind.{common_steps}

pub items-init : goal.items-init
items-init c = record {
  shorter = omega (arith, c.in_ok-first.ensures.shorter);
  same = λ n h. rw c.in_ok-found.ensures (loop_first (is_mark marks.Comma) (lead (is_mark marks.Comma) word) (word) n c.args.tokens.now c.in_ok-first.rest.now (c.in_ok-first.first) (omega (arith, c.in_ok-first.ensures.shorter)) (c.in_ok-first.ensures.value));
}

pub items-preserved : goal.items-preserved
items-preserved c = record {
  shorter = omega (arith, c.in_ok-one.ensures.shorter, c.items.invariant.shorter);
  same = λ n h. rw (c.in_ok-push.ensures.items) (loop_more (is_mark marks.Comma) (lead (is_mark marks.Comma) word) (list word n c.args.tokens.now) c.items.rest.now c.in_ok-one.behind.now (c.items.found.items) (c.in_ok-one.one) (c.items.invariant.same n h) (sym c.items-test.ensures) (c.in_ok-one.ensures.value) c.in_ok-one.ensures.shorter);
}

pub returns-in_err-one-clause-value : goal.returns-in_err-one-clause-value
returns-in_err-one-clause-value c = λ n h.
    grind (arith, common_steps, loop_fails (is_mark marks.Comma) (lead (is_mark marks.Comma) word) (list word n c.args.tokens.now) c.in_err-one.field-0.0 c.items.rest.now (c.items.found.items) (c.items.invariant.same n h) (sym c.items-test.ensures) (c.in_err-one.ensures.value))

pub returns-clause-value : goal.returns-clause-value
returns-clause-value c = λ n h. loop_done (is_mark marks.Comma) (lead (is_mark marks.Comma) word) (list word n c.args.tokens.now) c.items.rest.now (c.items.found.items) (c.items.invariant.same n h) (sym c.items-test.ensures)
