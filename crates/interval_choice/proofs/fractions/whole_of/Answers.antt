use Rattle.std.proofs.Common.{rules, ap, ◌∙◌, FitsSigned}
use Rattle.std.proofs.lemmas.Int.{to_z-of_z}
use mir.Syntax.{w64, w128}
use Rattle.heyvl_num.specs.Rounding.{whole}
use Rattle.interval_choice.proofs.fractions.whole_of.Goals as goal

pub returns : goal.returns
returns c =
    let f : FitsSigned w64 c.args.n = search rules in
    let g : FitsSigned w128 c.from.result = search rules in
    c.whole_number.ensures ∙ ap whole (to_z-of_z w128 c.from.result g ∙ c.from.ensures ∙ to_z-of_z w64 c.args.n f)
