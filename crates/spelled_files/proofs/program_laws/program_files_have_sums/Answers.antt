use Rattle.spelled_files.proofs.ProgramSums.{has_sums}
use Rattle.spelled_files.proofs.program_laws.program_files_have_sums.Goals as goal

pub returns : goal.returns
returns c =
    let places = c.places_do_not_run.ensures in
    has_sums c.sums_are_equal.ensures c.bounds_carry_over.ensures places.states places.sums places.bounds c.program_files_are_unique.ensures.spelled c.spelling_is_unique.ensures
