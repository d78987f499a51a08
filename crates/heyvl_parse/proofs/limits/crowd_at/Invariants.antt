use Rattle.heyvl_parse.proofs.limits.crowd_at.Given as goal
use Rattle.heyvl_syntax.specs.SourceFaults.{procedure_count}
use Rattle.std.proofs.Common.{take, ◌≡◌, ◌≤◌}

abbrev pub invariant-tokens : goal.invariant-tokens
invariant-tokens l = record { counted : l.procedures ≡ procedure_count (take l.index l.tokens); few : l.procedures ≤ 1024 }
