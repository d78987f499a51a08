use Rattle.heyvl_syntax.specs.Procedures.{procedures}
use Rattle.heyvl_types.proofs.files.resolve.Goals as goal

pub returns-clause-rules : goal.returns-clause-rules
returns-clause-rules c = c.resolved_trees_meet_the_rules.ensures (procedures c.args.file.now) c.read_procedures.result c.requires.armed c.read_procedures.ensures.gives c.read_procedures.ensures.counted
