use Rattle.heyvl_parse.proofs.WholeLaws.{ended_bad, ended_fails, ended_good}
use Rattle.heyvl_parse.proofs.file_reader.file.Goals as goal
use Rattle.heyvl_parse.specs.internal.FileReaders.{procs}
use Rattle.heyvl_parse.specs.internal.Statements.{braced, stmts}
use Rattle.heyvl_syntax.specs.Procedures.{procedure as tree_of}
use Rattle.std.proofs.Common.{arith, map, refl}
use Rattle.std.proofs.lemmas.Grind.{common_steps}

pub returns-in_err-procs : goal.returns-in_err-procs
returns-in_err-procs c = record {
  value = λ n h. grind (arith, common_steps, ended_fails c.in_err-procs.field-0.0 (procs (braced (stmts n)) n) c.args.tokens.now (c.in_err-procs.ensures.value n h));
}

pub returns-in-None : goal.returns-in-None
returns-in-None c = record {
  value = λ n h. ended_good (procs (braced (stmts n)) n) c.args.tokens.now c.in_ok-procs.rest.now (map tree_of c.in_ok-procs.procs.items) (c.in_ok-procs.ensures.value n h) c.in-None.ensures.cases;
}

pub returns-in-Some : goal.returns-in-Some
returns-in-Some c = record {
  value = λ n h.
      (c.in_ok-procs.rest.now, ended_bad (procs (braced (stmts n)) n) c.args.tokens.now c.in_ok-procs.rest.now _ _ (map tree_of c.in_ok-procs.procs.items) (c.in_ok-procs.ensures.value n h) c.in-Some.ensures.cases.0, refl);
}
