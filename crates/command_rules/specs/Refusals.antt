-- Replies to refused files, for the causes that the program holds. This project's own.
use Rattle.spelled_files.specs.declared.stops.SourceStop.TheVariants as sources
use Rattle.spelled_files.specs.declared.stops.SourceStop.{SourceStop}
use Rattle.command_rules.specs.Messages.{Reply, source_fault}
use Rattle.std.specs.Prelude.{List, ◌≡◌, ℕ}

-- `IsRefusal bytes stop reply`: `reply` reports the error in `stop` of a file with these bytes.
-- There is no reply if memory ran out.
abbrev pub IsRefusal : List ℕ → SourceStop → Reply → Type 0
IsRefusal bytes (sources.Fault number place) reply = reply ≡ source_fault bytes number place
IsRefusal bytes (sources.Memory error) reply = ⊥
