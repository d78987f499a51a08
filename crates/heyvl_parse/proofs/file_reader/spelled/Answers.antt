use Rattle.heyvl_parse.proofs.BlockLaws.{block_laws}
use Rattle.heyvl_parse.proofs.FileLaws.{file_laws}
use Rattle.heyvl_parse.proofs.WholeLaws.{fault_clause, found_clause}
use Rattle.heyvl_parse.proofs.file_reader.spelled.Goals as goal
use Rattle.heyvl_parse.specs.internal.Statements.{braced, stmts}
use Rattle.heyvl_parse.specs.internal.FileReaders.{file}
use Rattle.heyvl_syntax.specs.Grammar.{IsFile}
use Rattle.heyvl_syntax.specs.Procedures.{procedures}

pub returns-clause-found : goal.returns-clause-found
returns-clause-found c = found_clause IsFile (λ n. file (braced (stmts n)) n) (λ n. file_laws (block_laws n)) procedures c.args.tokens.now c.file.result c.file.ensures.value

pub returns-clause-fault : goal.returns-clause-fault
returns-clause-fault c = fault_clause IsFile (λ n. file (braced (stmts n)) n) (λ n. file_laws (block_laws n)) procedures c.args.tokens.now c.file.result c.file.ensures.value
