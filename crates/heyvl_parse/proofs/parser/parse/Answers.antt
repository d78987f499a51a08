use Rattle.heyvl_parse.proofs.BlockLaws.{block_laws}
use Rattle.heyvl_parse.proofs.FileLaws.{file_laws}
use Rattle.heyvl_parse.proofs.ParseClauses.{few, only_fault, only_file}
use Rattle.heyvl_parse.proofs.WholeLaws.{read_unique}
use Rattle.heyvl_parse.proofs.parser.parse.Goals as goal
use Rattle.heyvl_parse.specs.internal.Statements.{braced, stmts}
use Rattle.heyvl_parse.specs.internal.FileReaders.{file}
use Rattle.heyvl_syntax.specs.Grammar.{IsFile}

pub returns-clause-only : goal.returns-clause-only
returns-clause-only c = only_file c.args.tokens.now (read_unique IsFile (λ n. file (braced (stmts n)) n) (λ n. file_laws (block_laws n))) c.file_or_fault.result c.file_or_fault.ensures.found c.file_or_fault.ensures.fault

pub returns-clause-only_fault : goal.returns-clause-only_fault
returns-clause-only_fault c = only_fault c.args.tokens.now c.file_or_fault.result c.file_or_fault.ensures.found c.file_or_fault.ensures.fault

pub returns-clause-few : goal.returns-clause-few
returns-clause-few c = few c.args.tokens.now c.file_or_fault.result c.file_or_fault.ensures.found
