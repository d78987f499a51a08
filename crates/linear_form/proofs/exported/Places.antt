-- For the proofs of other crates: places on a path, and the rows of its comparisons.
pub use Rattle.linear_form.proofs.PlaceRuns.{place_stays}
pub use Rattle.linear_form.proofs.PathRowSteps.{rows_counted, path_rows_first, claims_counted, claims_onto}
