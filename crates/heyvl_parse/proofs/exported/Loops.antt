-- For other crates: the loop over items, and reading one thing after another.
pub use Rattle.heyvl_parse.proofs.EachLoop.{Rest, loop_done, loop_fails, loop_init, loop_more}
pub use Rattle.heyvl_parse.proofs.SequelLaws.{beside_gives, closed_gives}
pub use Rattle.heyvl_parse.proofs.Fuel.{by_fuel}
