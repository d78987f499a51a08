use Rattle.std.proofs.Common.{inl, inr, ◌<◌, ◌+◌, length, min, vec_len, vec_capacity, rules, arith}
use Rattle.std.proofs.lemmas.Grind.{common_steps}
use Rattle.std.specs.List.{Contains}
use Rattle.heyvl_io.proofs.mem_sinks.MemSinkSink.write.Goals as goal
use Rattle.heyvl_io.proofs.mem_sinks.MemSinkSink.write.Goals.{then-fails-via-then-fails, then-fails-via-else-fails+then-is_err}

pub returns-then-fails-clause-refused : goal.returns-then-fails-clause-refused
returns-then-fails-clause-refused c = λ _. elim c.then-fails.branch [
  | then-fails-via-then-fails w ↦ let listed : Contains c.args.self.now.fail.items c.args.self.now.calls = search (rules, w.if-fails.ensures.cases) in inl listed
  | then-fails-via-else-fails+then-is_err w ↦ let full : vec_capacity c.args.self.now.bytes < vec_len c.args.self.now.bytes + min (length c.args.piece.now) c.args.self.now.most = grind (arith, common_steps) in inr full
]
