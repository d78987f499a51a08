-- Reading a script line by line.
use Rattle.run_script.specs.Lines as lines
use Rattle.run_script.specs.Scripts.{IsFirstFaultOf, Known, Script, takes}
use Rattle.run_script.specs.declared.lines.Line.TheVariants.{Decide, Set, Steps}
use Rattle.run_script.specs.declared.lines.Line.{Line}
use Rattle.run_script.specs.declared.scripts.Setting.{Setting}
use Rattle.run_script.specs.declared.stops.ScriptStop.TheVariants.{Fault, Memory}
use Rattle.run_script.specs.declared.stops.ScriptStop.{ScriptStop}
use Rattle.std.specs.Borrow.{Bor}
use Rattle.std.specs.List.{list_any}
use Rattle.std.specs.Prelude.{Bool, List, None, Option, Some, [], false, if◌then◌else◌, length, map}
use Rattle.std.specs.Prelude.{not, true, ⊤, ◌&&◌, ◌++◌, ◌==◌, ◌∷◌, ℕ}
use Rattle.std.specs.Str.{bytes_eq}

-- A line that the program holds, read as plain data.
abbrev pub line_of : Line → lines.Line
line_of (Steps n) = lines.Line.steps n
line_of (Set name value) = lines.Line.set (record { name = name.now; value = value })
line_of (Decide d) = lines.Line.decide d

-- Whether one of the settings is of the variable `name`.
abbrev pub is_set : List ℕ → List Setting → Bool
is_set name settings = list_any (λ s. bytes_eq s.name name) settings

-- Whether the setting may follow `settings`.
abbrev pub may_set : Known → List Setting → Setting → Bool
may_set None settings s = not (length s.name == 0)
may_set (Some variables) settings s = list_any (takes s) variables && not (is_set s.name settings)

-- Whether the line may follow those of the script.
abbrev pub may_follow : Known → Script → lines.Line → Bool
may_follow known s (lines.Line.steps n) = false
may_follow known s (lines.Line.set setting) =
    (length s.decisions == 0) && may_set known s.settings setting
may_follow known s (lines.Line.decide d) = true

-- The script with one more line.
abbrev pub with_line : Script → lines.Line → Script
with_line s (lines.Line.steps n) = record s { steps = n }
with_line s (lines.Line.set setting) = record s { settings = s.settings ++ setting ∷ [] }
with_line s (lines.Line.decide d) = record s { decisions = s.decisions ++ d ∷ [] }

-- The script with one more line, or `None` if the line may not follow.
abbrev pub gone_on : Known → Script → Option lines.Line → Option Script
gone_on known s None = None
gone_on known s (Some line) = if may_follow known s line then Some (with_line s line) else None

-- The script that starts with this line, if it is `steps N`.
abbrev pub begun : Option lines.Line → Option Script
begun None = None
begun (Some (lines.Line.steps n)) = Some (record { steps = n; settings = []; decisions = [] })
begun (Some (lines.Line.set setting)) = None
begun (Some (lines.Line.decide d)) = None

-- The bytes of lines that the program holds.
abbrev pub bytes_of : List (Bor (List ℕ)) → List (List ℕ)
bytes_of held = map (λ line. line.now) held

-- A `Fault` is the first invalid line of `lines`. Memory may run out for any lines.
abbrev pub IsStopOf : Known → List (List ℕ) → ScriptStop → Type 0
IsStopOf known lines (Fault line) = IsFirstFaultOf known lines line
IsStopOf known lines (Memory error) = ⊤
