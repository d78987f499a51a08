use Rattle.std.proofs.Common.{length, ◌+◌, ◌++◌, ◌≡◌}
use Rattle.std.specs.Prelude.{◌||◌}
use Rattle.verdict_report.specs.Settings.{named_by}
use Rattle.verdict_report.specs.States.{telling}
use Rattle.verdict_report.specs.internal.Listings.{behind_text, is_some_setting}
use Rattle.verdict_report.proofs.states.write_telling.Given as goal

-- -
abbrev pub invariant-values : goal.invariant-values
invariant-values l = record {
  text : l.text.items ++ behind_text l.stands (named_by l.fn.names l.fn.own) (telling l.var l.rest) ≡ l.fn.text.items ++ behind_text l.fn.begun (named_by l.fn.names l.fn.own) (telling l.fn.own l.fn.values);
  range : l.var + length l.rest ≡ l.fn.own + length l.fn.values;
  stands : (l.stands || is_some_setting (telling l.var l.rest)) ≡ (l.fn.begun || is_some_setting (telling l.fn.own l.fn.values));
}

abbrev pub decreases-values : goal.decreases-values
decreases-values l = length l.rest
