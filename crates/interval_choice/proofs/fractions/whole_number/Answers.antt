use Rattle.std.proofs.Common.{◌≡◌, sym, ap, ◌∙◌, rules, FitsSigned}
use Rattle.std.specs.Prelude.{Some, pos}
use Rattle.std.specs.Int.{w128}
use Rattle.std.proofs.lemmas.Int.{to_z-of_z}
use Rattle.heyvl_num.specs.Rounding.{whole}
use Rattle.heyvl_num.specs.Exact.{exact_quotient}
use Rattle.linear_rows.proofs.exported.Narrow.{same}
use Rattle.interval_choice.proofs.BoundedFractions.{the_whole}
use Rattle.interval_choice.proofs.fractions.whole_number.Goals as goal

pub unwrap-requires : goal.unwrap-requires
unwrap-requires c = let f : FitsSigned w128 c.args.n = search rules in let e : c.new.result ≡ Some (whole c.args.n) = c.new.ensures ∙ ap (λ z. exact_quotient z (pos 1)) (to_z-of_z w128 c.args.n f) ∙ the_whole c.args.n c.requires in rw e (search rules)

pub returns : goal.returns
returns c = let f : FitsSigned w128 c.args.n = search rules in same c.unwrap.result _ (sym c.unwrap.ensures ∙ c.new.ensures ∙ ap (λ z. exact_quotient z (pos 1)) (to_z-of_z w128 c.args.n f) ∙ the_whole c.args.n c.requires)
