-- Files whose procedures have few variables and few loops, as in each file that tokens spell. This
-- project's own.
use Rattle.heyvl_acts.specs.Rules.{Each}
use Rattle.heyvl_syntax.specs.Procedures.{Procedure}
use Rattle.static_rules.specs.Files.{loops_of_body, variable_count}
use Rattle.std.specs.Prelude.{List, ◌<◌, ◌^◌}

-- The procedure has fewer than 2^31 variables, and its body has fewer than 2^31 loops.
pub record HasFewParts (p : Procedure) : Type 0 where
  pub variables : variable_count p < 2 ^ 31
  pub loops : loops_of_body p.body < 2 ^ 31

-- Each procedure of a file has few parts.
abbrev pub HaveFewParts : List Procedure → Type 0
HaveFewParts ps = Each HasFewParts ps
