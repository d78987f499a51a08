use Rattle.std.proofs.Common.{rules, ap, ◌∙◌, FitsSigned}
use Rattle.std.proofs.lemmas.Int.{to_z-of_z}
use mir.Syntax.{w64, w128}
use Rattle.std.specs.Prelude.{negsuc}
use Rattle.heyvl_num.specs.Exact.{exact_quotient}
use Rattle.linear_elim.proofs.ends.minus_one_over.Goals as goal

pub returns : goal.returns
returns c =
    let f : FitsSigned w64 c.args.c = search rules in
    let g : FitsSigned w128 c.from.result = search rules in
    c.new.ensures ∙ ap (exact_quotient (negsuc 0)) (to_z-of_z w128 c.from.result g ∙ c.from.ensures ∙ to_z-of_z w64 c.args.c f)
