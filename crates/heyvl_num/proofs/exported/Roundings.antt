-- For the proofs of other crates: floors and ceilings.
pub use Rattle.heyvl_num.proofs.Roundings.{floor-is, ceil-is, floor_made, neg_small, turned, ceil_made}
