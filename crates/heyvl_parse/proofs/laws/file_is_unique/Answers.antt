use Rattle.heyvl_parse.proofs.BlockLaws.{block_laws}
use Rattle.heyvl_parse.proofs.FileLaws.{file_laws}
use Rattle.heyvl_parse.proofs.WholeLaws.{read_unique}
use Rattle.heyvl_parse.proofs.laws.file_is_unique.Goals as goal
use Rattle.heyvl_parse.specs.internal.Statements.{braced, stmts}
use Rattle.heyvl_parse.specs.internal.FileReaders.{file}
use Rattle.heyvl_syntax.specs.Grammar.{IsFile}

pub returns : goal.returns
returns c = read_unique IsFile (λ n. file (braced (stmts n)) n) (λ n. file_laws (block_laws n))
