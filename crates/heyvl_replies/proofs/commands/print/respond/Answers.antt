use Rattle.heyvl_syntax.specs.Procedures.{procedures}
use Rattle.heyvl_replies.proofs.FileLemmas.{spelled_refused, spelled_said}
use Rattle.heyvl_replies.proofs.commands.print.respond.Goals as goal
use Rattle.command_rules.specs.commands.Print.{printed}
use Rattle.std.proofs.Common.{◌≡◌}

pub returns-in-Ok : goal.returns-in-Ok
returns-in-Ok c = spelled_said (λ file r. r ≡ printed file) c.args.bytes.now (procedures c.in-Ok.file) _ c.in-Ok.ensures c.print_file.ensures

pub returns-in-Err : goal.returns-in-Err
returns-in-Err c = spelled_refused (λ file r. r ≡ printed file) c.args.bytes.now c.in-Err.stop _ c.in-Err.ensures c.refused.ensures
