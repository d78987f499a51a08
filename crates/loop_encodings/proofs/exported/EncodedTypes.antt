-- For other crates: the visible variables at an act are among the procedure's, and the encoding of
-- a body and the post are well typed over the variables of the encoding.
pub use Rattle.loop_encodings.proofs.EncodedTypes.{Bounded, front_same, after_bounded, interface_bounded, shown_bounded, shown_all_bounded, encoding_fits, post_fits}
