-- Replies if a file is not read to its end, for the causes that the program holds. This project's
-- own.
use Rattle.heyvl_io.specs.declared.reader.ReadStop.TheVariants as reads
use Rattle.heyvl_io.specs.declared.reader.ReadStop.{ReadStop}
use Rattle.command_rules.specs.Messages.{Reply}
use Rattle.tool_laws.specs.Calls.{file_too_long, read_fault}
use Rattle.std.specs.Prelude.{◌≡◌, ℕ}

-- `IsUnread k stop reply`: `reply` reports why the file with the number `k` was not read. There is
-- no reply if memory ran out.
abbrev pub IsUnread : ℕ → ReadStop → Reply → Type 0
IsUnread k reads.Failed reply = reply ≡ read_fault k
IsUnread k reads.TooLong reply = reply ≡ file_too_long k
IsUnread k (reads.Memory error) reply = ⊥
