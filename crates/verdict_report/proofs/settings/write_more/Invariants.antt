use Rattle.std.proofs.Common.{length, ◌++◌, ◌≡◌}
use Rattle.verdict_report.specs.Settings.{more_settings_text, named_by}
use Rattle.verdict_report.proofs.settings.write_more.Given as goal

abbrev pub invariant-settings : goal.invariant-settings
invariant-settings l = l.text.items ++ more_settings_text (named_by l.fn.names l.fn.own) l.rest ≡ l.fn.text.items ++ more_settings_text (named_by l.fn.names l.fn.own) l.fn.settings

abbrev pub decreases-settings : goal.decreases-settings
decreases-settings l = length l.rest
