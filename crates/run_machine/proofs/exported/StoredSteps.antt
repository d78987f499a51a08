-- Steps of stored configurations are those of the definition.
pub use Rattle.run_machine.proofs.FirstConfigs.{stored_config}
pub use Rattle.run_machine.proofs.Procedures.{stored_begun}
pub use Rattle.run_machine.proofs.Steps.{stored_steps_are_meant}
