use Rattle.std.proofs.Common.{inl, inr, refl, rules, arith}
use Rattle.std.proofs.lemmas.Grind.{common_steps}
use Rattle.std.specs.List.{Contains}
use Rattle.heyvl_io.proofs.Held.{held_at}
use Rattle.heyvl_io.proofs.mem_sources.MemSourceSource.start.Goals as goal
use Rattle.heyvl_io.proofs.mem_sources.MemSourceSource.start.Goals.{then-fails-via-then-fails, then-fails-via-else-fails+then-is_none}

pub returns-then-fails-clause-fails : goal.returns-then-fails-clause-fails
returns-then-fails-clause-fails c = (
  λ _. elim c.then-fails.branch [
    | then-fails-via-then-fails w ↦ let listed : Contains c.args.self.now.fail.items c.args.self.now.calls = search rules in inl listed
    | then-fails-via-else-fails+then-is_none w ↦ inr (grind (arith, common_steps, held_at))
  ],
  λ _. refl,
)
