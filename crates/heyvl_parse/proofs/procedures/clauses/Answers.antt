use Rattle.heyvl_parse.proofs.ClauseLoop.{clauses_done, clauses_fail, clauses_init, clauses_post, clauses_pre}
use Rattle.heyvl_parse.proofs.procedures.clauses.Goals as goal
use Rattle.heyvl_parse.specs.readers.ReadParts.{Got}
use Rattle.heyvl_syntax.specs.Expressions.{expression, expressions}
use Rattle.std.proofs.Common.{ap, arith, sym, ◌∙◌}
use Rattle.std.proofs.lemmas.Grind.{common_steps}
use Rattle.std.proofs.lemmas.List.{map-append}

pub items-init : goal.items-init
items-init c = record { shorter = omega arith; same = λ n h. rw (c.new-pres.ensures.items, c.new-posts.ensures.items) (clauses_init n c.args.tokens.now h) }

pub returns-in_err-one-clause-value : goal.returns-in_err-one-clause-value
returns-in_err-one-clause-value c = λ n h. grind (arith, common_steps, clauses_fail n c.args.tokens.now c.items.rest.now (expressions c.items.pres.items) (expressions c.items.posts.items) c.in_err-one.field-0.0 (c.items.invariant.same n h) (sym c.items-test.ensures) (c.in_err-one.ensures.value n (omega (arith, c.items.invariant.shorter))))

pub items-preserved-in_ok-push : goal.items-preserved-in_ok-push
items-preserved-in_ok-push c = record {
  shorter = omega (arith, c.in_ok-one.ensures.shorter, c.items.invariant.shorter);
  same = λ n h. rw (c.in_ok-push.ensures.items, map-append expression) (clauses_post n c.args.tokens.now c.items.rest.now c.in_ok-one.behind.now (expressions c.items.pres.items) (expressions c.items.posts.items) (expression c.in_ok-one.one.1) (c.items.invariant.same n h) (sym c.items-test.ensures) (c.in_ok-one.ensures.value n (omega (arith, c.items.invariant.shorter)) ∙ ap (λ b. Got (b, expression c.in_ok-one.one.1) c.in_ok-one.behind.now) c.if-one.true) c.in_ok-one.ensures.shorter);
}

pub items-preserved : goal.items-preserved
items-preserved c = record {
  shorter = omega (arith, c.in_ok-one.ensures.shorter, c.items.invariant.shorter);
  same = λ n h. rw (c.in_ok-push-2.ensures.items, map-append expression) (clauses_pre n c.args.tokens.now c.items.rest.now c.in_ok-one.behind.now (expressions c.items.pres.items) (expressions c.items.posts.items) (expression c.in_ok-one.one.1) (c.items.invariant.same n h) (sym c.items-test.ensures) (c.in_ok-one.ensures.value n (omega (arith, c.items.invariant.shorter)) ∙ ap (λ b. Got (b, expression c.in_ok-one.one.1) c.in_ok-one.behind.now) c.if-one.false) c.in_ok-one.ensures.shorter);
}

pub returns-clause-value : goal.returns-clause-value
returns-clause-value c = λ n h. clauses_done n c.args.tokens.now c.items.rest.now (expressions c.items.pres.items) (expressions c.items.posts.items) (c.items.invariant.same n h) (sym c.items-test.ensures)
