-- Settings that are listed in two parts.
use Rattle.heylo_formula.specs.declared.values.Val.{Val}
use Rattle.std.specs.Prelude.{Bool, List, [], false, true, ◌∷◌, ℕ}
use Rattle.verdict_report.specs.Settings.{Names, more_settings_text, settings_text}

-- Whether there is a setting.
abbrev pub is_some_setting : List (ℕ × Val) → Bool
is_some_setting [] = false
is_some_setting (p ∷ ps) = true

-- The settings after others if there are any (`true`), or alone (`false`).
abbrev pub behind_text : Bool → Names → List (ℕ × Val) → List ℕ
behind_text true n ps = more_settings_text n ps
behind_text false n ps = settings_text n ps
