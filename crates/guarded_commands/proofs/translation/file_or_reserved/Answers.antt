use Rattle.heyvl_syntax.specs.Procedures.{procedures}
use Rattle.guarded_commands.proofs.FewPicks.{few_picks}
use Rattle.guarded_commands.proofs.TranslationClauses.{is_translation}
use Rattle.guarded_commands.proofs.translation.file_or_reserved.Goals as goal
use Rattle.guarded_commands.specs.Programs.{program_tree}
use Rattle.std.proofs.Common.{ap, arith, length}

pub file_of-requires : goal.file_of-requires
file_of-requires c = let few = few_picks (program_tree c.args.program.now) c.args.tokens.now c.requires.spelled.1 in omega (arith, few, c.requires.short)

pub returns-in_ok-file_of-in-None-clause-found : goal.returns-in_ok-file_of-in-None-clause-found
returns-in_ok-file_of-in-None-clause-found c =
    is_translation c.args.tokens.now (program_tree c.args.program.now) (procedures c.in_ok-file_of-in-None.field-0) _ c.first_place.result (ap length c.as_slice.ensures.value) c.requires.spelled.0 c.requires.spelled.1 c.in-None.ensures c.first_place.ensures c.in_ok-file_of-in-None.ensures
