-- Errors of reading scripts. This project's own.
use Rattle.run_script.specs.Scripts.{IsFirstFault, Known}
use Rattle.run_script.specs.declared.stops.ScriptStop.TheVariants.{Fault, Memory}
use Rattle.run_script.specs.declared.stops.ScriptStop.{ScriptStop}
use Rattle.std.specs.Prelude.{List, ◌≡◌, ℕ, ⊤}

-- The error is that memory ran out.
abbrev pub IsMemory : ScriptStop → Type 0
IsMemory (Fault line) = ⊥
IsMemory (Memory error) = ⊤

-- `IsScriptStop known bytes stop`: a `Fault` is the first invalid line of `bytes`. Memory may run
-- out for any text.
abbrev pub IsScriptStop : Known → List ℕ → ScriptStop → Type 0
IsScriptStop known bytes (Fault line) = IsFirstFault known bytes line
IsScriptStop known bytes (Memory error) = ⊤

-- The error is the fault `line`, or memory ran out.
abbrev pub IsFaultOrMemory : ℕ → ScriptStop → Type 0
IsFaultOrMemory line (Fault found) = found ≡ line
IsFaultOrMemory line (Memory error) = ⊤
