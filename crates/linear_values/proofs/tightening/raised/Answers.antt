use Rattle.std.proofs.Common.{ap, ◌∙◌, rules, FitsSigned}
use Rattle.std.proofs.lemmas.Int.{to_z-of_z}
use mir.Syntax.{w64}
use Rattle.std.specs.Int.{w128}
use Rattle.linear_values.specs.Operator.{narrow_value}
use Rattle.linear_rows.proofs.exported.Narrow.{seen}
use Rattle.linear_values.proofs.UnitRows.{above_seen, rounded_up, rounded_above}
use Rattle.linear_values.proofs.tightening.raised.Goals as goal

pub returns-then-strict : goal.returns-then-strict
returns-then-strict c = let f : FitsSigned w128 c.from.result = search rules in let h : FitsSigned w64 c.args.k = search rules in rw c.if-strict.true (c.narrow.ensures ∙ ap narrow_value (above_seen c.args.k c.from.result (c.from.ensures ∙ to_z-of_z w64 c.args.k h) h f ∙ rounded_above c.args.k))

pub returns-else-strict : goal.returns-else-strict
returns-else-strict c = let f : FitsSigned w128 c.from-else-strict.result = search rules in let h : FitsSigned w64 c.args.k = search rules in rw c.if-strict.false (c.narrow-else-strict.ensures ∙ ap narrow_value (seen c.from-else-strict.result c.args.k (c.from-else-strict.ensures ∙ to_z-of_z w64 c.args.k h) f ∙ rounded_up c.args.k))
