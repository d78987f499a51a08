use Rattle.std.proofs.Common.{sym, ◌∙◌, rules, FitsSigned}
use Rattle.std.proofs.lemmas.Int.{to_z-of_z}
use mir.Syntax.{w64}
use Rattle.std.specs.Int.{w128}
use Rattle.linear_rows.proofs.exported.Narrow.{same}
use Rattle.linear_values.proofs.WholeFractions.{word_found}
use Rattle.linear_values.proofs.numbers.whole.Goals as goal

pub unwrap-requires : goal.unwrap-requires
unwrap-requires c = let f : FitsSigned w128 c.from.result = search rules in let h : FitsSigned w64 c.args.n = search rules in let e = c.new.ensures ∙ word_found c.args.n c.from.result (c.from.ensures ∙ to_z-of_z w64 c.args.n h) h f in rw e (search rules)

pub returns : goal.returns
returns c = let f : FitsSigned w128 c.from.result = search rules in let h : FitsSigned w64 c.args.n = search rules in same c.unwrap.result _ (sym c.unwrap.ensures ∙ c.new.ensures ∙ word_found c.args.n c.from.result (c.from.ensures ∙ to_z-of_z w64 c.args.n h) h f)
