-- For the proofs of other crates: the rows of a path without the denied goal are among those with
-- it.
pub use Rattle.linear_form.proofs.DeniedRows.{denied_stronger}
