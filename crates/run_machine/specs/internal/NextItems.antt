-- Conditions on a configuration whose first item is an act, the test of a loop or a return.
use Rattle.std.specs.Prelude.{◌≡◌, ℕ, ◌⊎◌, List, ◌∷◌, drop}
use Rattle.heyvl_acts.specs.Acts.{Act, TypedProcedure}
use Rattle.heyvl_acts.specs.Rules.{Each, MeetsRules}
use Rattle.run_machine.specs.declared.configurations.Item.TheVariants.{Do, Turn, Back}
use Rattle.run_machine.specs.ConfigConditions.{IsConfig}
use Rattle.run_machine.specs.Names.{Names, Numbered, Stored}

-- The first item is the act, or the test of the loop, at `place`.
abbrev pub IsAt : ℕ → ℕ → List Numbered → Type 0
IsAt p place is = (is ≡ Do p place ∷ drop 1 is) ⊎ (is ≡ Turn p place ∷ drop 1 is)

-- The first item of `c` is the act `a`, or the test of the loop `a`, at `place` of the procedure
-- `p`.
pub record ComesNext (ps : List TypedProcedure) (c : Stored) (p place : ℕ) (a : Act) : Type 0 where
  pub rules : Each (MeetsRules ps) ps
  pub config : IsConfig ps c
  pub first : IsAt p place c.items
  pub names : Names ps p place a

-- The first item of `c` is the return to the act `a`.
pub record ReturnsNext (ps : List TypedProcedure) (c : Stored) (a : Act) : Type 0 where
  pub p : ℕ
  pub place : ℕ
  pub rules : Each (MeetsRules ps) ps
  pub config : IsConfig ps c
  pub first : c.items ≡ Back p place ∷ drop 1 c.items
  pub names : Names ps p place a
