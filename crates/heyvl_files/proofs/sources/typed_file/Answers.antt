use Rattle.heyvl_syntax.specs.Procedures.{procedures}
use Rattle.heyvl_files.proofs.ReadyFiles.{is_ready}
use Rattle.heyvl_files.proofs.sources.typed_file.Goals as goal

pub returns-clause-ready : goal.returns-clause-ready
returns-clause-ready c = is_ready c.files_have_small_forms.ensures c.files_stand_within.ensures (procedures c.args.file.now) c.resolve.result c.resolve.ensures.gives c.resolve.ensures.rules
