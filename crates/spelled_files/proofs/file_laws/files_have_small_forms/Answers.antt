use Rattle.spelled_files.proofs.SmallForms.{small_forms}
use Rattle.spelled_files.proofs.file_laws.files_have_small_forms.Goals as goal

pub returns : goal.returns
returns c = small_forms c.resolved_forms_are_small.ensures
