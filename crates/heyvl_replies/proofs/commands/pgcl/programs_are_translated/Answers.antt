use Rattle.heyvl_replies.proofs.ProgramReplies.{told, translated}
use Rattle.heyvl_replies.proofs.commands.pgcl.programs_are_translated.Goals as goal

pub returns-clause-translated : goal.returns-clause-translated
returns-clause-translated c =
    translated c.program_files_are_unique.ensures.file c.program_files_are_unique.ensures.fault c.program_files_are_unique.ensures.either c.program_files_are_unique.ensures.spelled

pub returns-clause-told : goal.returns-clause-told
returns-clause-told c = told c.program_files_are_unique.ensures.file c.program_files_are_unique.ensures.fault c.program_files_are_unique.ensures.either
