use Rattle.heyvl_parse.proofs.EachLoop.{loop_done, loop_fails, loop_first, loop_more}
use Rattle.heyvl_parse.proofs.rights.all_weighted.Goals as goal
use Rattle.heyvl_parse.specs.readers.Combinators.{lead, list}
use Rattle.heyvl_parse.specs.readers.ReadParts.{is_mark}
use Rattle.heyvl_parse.specs.internal.Rights.{weighted}
use Rattle.heyvl_syntax.specs.Expressions.{expression}
use Rattle.heyvl_syntax.specs.Statements.{choices}
use Rattle.heyvl_syntax.specs.declared.marks.Mark.TheVariants as marks
use Rattle.std.proofs.Common.{arith, sym}
use Rattle.std.proofs.lemmas.Grind.{common_steps}
use Rattle.std.proofs.lemmas.List.{map-append}

pub items-init : goal.items-init
items-init c = record {
  shorter = omega (arith, c.in_ok-first.ensures.shorter);
  same = λ n h. rw (c.in_ok-push.ensures.items, c.new-found.ensures.items) (loop_first (is_mark marks.Comma) (lead (is_mark marks.Comma) (weighted n)) (weighted n) n c.args.tokens.now c.in_ok-first.rest.now ((expression c.in_ok-first.first.0, expression c.in_ok-first.first.1)) (omega (arith, c.in_ok-first.ensures.shorter)) (c.in_ok-first.ensures.value n h));
}

pub items-preserved : goal.items-preserved
items-preserved c = record {
  shorter = omega (arith, c.in_ok-one.ensures.shorter, c.items.invariant.shorter);
  same = λ n h. rw (c.in_ok-push-2.ensures.items, map-append) (loop_more (is_mark marks.Comma) (lead (is_mark marks.Comma) (weighted n)) (list (weighted n) n c.args.tokens.now) c.items.rest.now c.in_ok-one.behind.now (choices c.items.found.items) ((expression c.in_ok-one.one.0, expression c.in_ok-one.one.1)) (c.items.invariant.same n h) (sym c.items-test.ensures) (c.in_ok-one.ensures.value n (omega (arith, c.items.invariant.shorter))) c.in_ok-one.ensures.shorter);
}

pub returns-in_err-one-clause-value : goal.returns-in_err-one-clause-value
returns-in_err-one-clause-value c = λ n h.
    grind (arith, common_steps, loop_fails (is_mark marks.Comma) (lead (is_mark marks.Comma) (weighted n)) (list (weighted n) n c.args.tokens.now) c.in_err-one.field-0.0 c.items.rest.now (choices c.items.found.items) (c.items.invariant.same n h) (sym c.items-test.ensures) (c.in_err-one.ensures.value n (omega (arith, c.items.invariant.shorter))))

pub returns-clause-value : goal.returns-clause-value
returns-clause-value c = λ n h. loop_done (is_mark marks.Comma) (lead (is_mark marks.Comma) (weighted n)) (list (weighted n) n c.args.tokens.now) c.items.rest.now (choices c.items.found.items) (c.items.invariant.same n h) (sym c.items-test.ensures)
