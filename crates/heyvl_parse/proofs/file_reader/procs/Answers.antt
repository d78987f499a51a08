use Rattle.heyvl_parse.proofs.EachLoop.{loop_done, loop_fails, loop_init, loop_more}
use Rattle.heyvl_parse.proofs.file_reader.procs.Goals as goal
use Rattle.heyvl_parse.specs.internal.Statements.{braced, stmts}
use Rattle.heyvl_parse.specs.internal.FileReaders.{begins, procs}
use Rattle.heyvl_parse.specs.internal.Procedures.{procedure}
use Rattle.heyvl_syntax.specs.Procedures.{procedure as tree_of}
use Rattle.std.proofs.Common.{arith, map, sym}
use Rattle.std.proofs.lemmas.Grind.{common_steps}
use Rattle.std.proofs.lemmas.List.{map-append}

pub items-init : goal.items-init
items-init c = record { shorter = omega arith; same = λ n h. rw c.new-found.ensures.items (loop_init begins (procedure (braced (stmts n)) n) n c.args.tokens.now h) }

pub items-preserved : goal.items-preserved
items-preserved c = record {
  shorter = omega (arith, c.in_ok-one.ensures.shorter, c.items.invariant.shorter);
  same = λ n h. rw (c.in_ok-push.ensures.items, map-append tree_of) (loop_more begins (procedure (braced (stmts n)) n) (procs (braced (stmts n)) n c.args.tokens.now) c.items.rest.now c.in_ok-one.behind.now (map tree_of c.items.found.items) (tree_of c.in_ok-one.one) (c.items.invariant.same n h) (sym c.items-test.ensures) (c.in_ok-one.ensures.value n (omega (arith, c.items.invariant.shorter))) c.in_ok-one.ensures.shorter);
}

pub returns-in_err-one-clause-value : goal.returns-in_err-one-clause-value
returns-in_err-one-clause-value c = λ n h.
    grind (arith, common_steps, loop_fails begins (procedure (braced (stmts n)) n) (procs (braced (stmts n)) n c.args.tokens.now) c.in_err-one.field-0.0 c.items.rest.now (map tree_of c.items.found.items) (c.items.invariant.same n h) (sym c.items-test.ensures) (c.in_err-one.ensures.value n (omega (arith, c.items.invariant.shorter))))

pub returns-clause-value : goal.returns-clause-value
returns-clause-value c = λ n h. loop_done begins (procedure (braced (stmts n)) n) (procs (braced (stmts n)) n c.args.tokens.now) c.items.rest.now (map tree_of c.items.found.items) (c.items.invariant.same n h) (sym c.items-test.ensures)
