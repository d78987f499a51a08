-- Scripts of runs: the texts that spell one, and the first invalid line of a text. This project's
-- own.
use Rattle.heylo_formula.specs.State.{has}
use Rattle.heyvl_acts.specs.Acts.{Variable}
use Rattle.heyvl_acts.specs.Rules.{Each}
use Rattle.run_machine.specs.declared.configurations.Decide.{Decide}
use Rattle.run_script.specs.Lines.{Line, said, text_lines}
use Rattle.run_script.specs.declared.scripts.Setting.{Setting}
use Rattle.std.specs.List.{IsDistinct, list_any}
use Rattle.std.specs.Prelude.{Bool, List, None, Option, Some, [], length, map, true, ◌&&◌, ◌+◌}
use Rattle.std.specs.Prelude.{◌++◌, ◌∷◌, ◌≡◌, ◌≢◌, ◌≤◌, ℕ}
use Rattle.std.specs.Str.{bytes_eq}

-- A script: the number of steps of the run, the values that are set, and the decisions, in order.
pub record Script : Type 0 where
  pub steps : ℕ
  pub settings : List Setting
  pub decisions : List Decide

-- The lines of a script: one `steps`, then a `set` for each setting, then a `decide` for each
-- decision.
abbrev pub lines_of : Script → List Line
lines_of s = Line.steps s.steps ∷ (map Line.set s.settings ++ map Line.decide s.decisions)

-- ---- Valid scripts

-- The variables that may be set, or `None` if there is no procedure to run.
abbrev pub Known : Type 0
Known = Option (List Variable)

-- Whether the variable has the name of the setting, and its value the variable's type.
abbrev pub takes : Setting → Variable → Bool
takes s x = bytes_eq s.name x.name && has x.ty s.value

-- The settings are of different variables in `known`, with values of their types. If `known` is
-- `None`, any names are allowed that are not empty.
abbrev pub AreSettings : Known → List Setting → Type 0
AreSettings None settings = Each (λ s. s.name ≢ []) settings
AreSettings (Some variables) settings = Each (λ s. list_any (takes s) variables ≡ true) settings
    × IsDistinct bytes_eq (map (λ s. s.name) settings)

-- `IsScript known s`: `s` is a script for the variables `known`: it has at most 10,000 steps, and
-- its settings are allowed.
pub record IsScript (known : Known) (s : Script) : Type 0 where
  pub steps : s.steps ≤ 10000
  pub settings : AreSettings known s.settings

-- ---- Texts

-- `AreLinesOf known s lines`: `lines` are, one by one, the lines of the script `s`, which is a
-- script for the variables `known`.
pub record AreLinesOf (known : Known) (s : Script) (lines : List (List ℕ)) : Type 0 where
  pub allowed : IsScript known s
  pub one_by_one : map said lines ≡ map Some (lines_of s)

-- `Spells known s bytes`: the lines of `bytes` are those of the script `s`, which is a script for
-- the variables `known`.
abbrev pub Spells : Known → Script → List ℕ → Type 0
Spells known s bytes = AreLinesOf known s (text_lines bytes)

-- `AreFirstLines known lines`: `lines` are the first lines of some script for the variables
-- `known`.
pub record AreFirstLines (known : Known) (lines : List (List ℕ)) : Type 0 where
  pub script : Script
  pub others : List (List ℕ)
  pub whole : AreLinesOf known script (lines ++ others)

-- `IsFirstFaultOf known lines line`: `line` is the number, from 1, of the first invalid line. The
-- lines before it are the first lines of some script for the variables `known`, but no script has
-- this line after them.
pub record IsFirstFaultOf (known : Known) (lines : List (List ℕ)) (line : ℕ) : Type 0 where
  pub before : List (List ℕ)
  pub next : List ℕ
  pub behind : List (List ℕ)
  pub parts : lines ≡ before ++ next ∷ behind
  pub place : line ≡ length before + 1
  pub allowed : AreFirstLines known before
  pub refused : AreFirstLines known (before ++ next ∷ []) → ⊥

-- `IsFirstFault known bytes line`: `line` is the number, from 1, of the first invalid line of
-- `bytes`. For the text `go` it is 1, since the first line of a script is a `steps` line.
abbrev pub IsFirstFault : Known → List ℕ → ℕ → Type 0
IsFirstFault known bytes line = IsFirstFaultOf known (text_lines bytes) line
