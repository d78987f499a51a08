-- Variables and their values in a report. This project's own.
use Rattle.heylo_formula.specs.declared.values.Val.{Val}
use Rattle.number_texts.specs.ValueTexts.{value_text}
use Rattle.std.specs.Prelude.{List, [], codes, decimal, get_or, if◌then◌else◌, nat_lt, ◌++◌, ◌-◌}
use Rattle.std.specs.Prelude.{◌∷◌, ℕ}
use Prim.Native.Nat.{suc}

-- The names of a goal's variables, by number. Each binder of the goal's forms is replaced by a
-- variable; the first `own` variables are those that do not replace a binder.
pub record Names : Type 0 where
  pub all : List (List ℕ)
  pub own : ℕ

-- The names `all`, where the first `own` variables do not replace a binder.
abbrev pub named_by : List (List ℕ) → ℕ → Names
named_by all own = record { all = all; own = own }

-- The mark of the variable `x`: an apostrophe and its number among the variables that replace a
-- binder, from 1. One of the first `own` variables has none.
abbrev pub mark_text : ℕ → ℕ → List ℕ
mark_text own x = if nat_lt x own then [] else codes "'" ++ decimal (suc (x - own))

-- The name of a variable, with its mark if it replaces a binder, for example `x'1`.
abbrev pub variable_text : Names → ℕ → List ℕ
variable_text n x = get_or n.all x [] ++ mark_text n.own x

-- `name = value`
abbrev pub setting_text : Names → ℕ × Val → List ℕ
setting_text n p = variable_text n p.0 ++ codes " = " ++ value_text p.1

-- The settings, a comma before each.
abbrev pub more_settings_text : Names → List (ℕ × Val) → List ℕ
more_settings_text n [] = []
more_settings_text n (p ∷ ps) = codes ", " ++ setting_text n p ++ more_settings_text n ps

-- `settings_text n ps`: the variables of `ps` with their values, with commas between them, for
-- example `x = 3, x'1 = 1/2`.
abbrev pub settings_text : Names → List (ℕ × Val) → List ℕ
settings_text n [] = []
settings_text n (p ∷ ps) = setting_text n p ++ more_settings_text n ps
