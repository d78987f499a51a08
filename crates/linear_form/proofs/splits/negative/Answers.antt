use Rattle.std.proofs.Common.{sym, ap, ap₂, ◌∙◌, rules, FitsSigned}
use Rattle.std.proofs.lemmas.Int.{to_z-of_z}
use mir.Syntax.{w64}
use Rattle.heyvl_num.specs.Exact.{exact_product}
use Rattle.heyvl_num.specs.Rounding.{whole}
use Rattle.linear_rows.proofs.exported.Narrow.{same}
use Rattle.linear_form.proofs.SplitAtoms.{negative_found}
use Rattle.linear_form.proofs.splits.negative.Goals as goal

pub unwrap-requires : goal.unwrap-requires
unwrap-requires c = let h : FitsSigned w64 c.args.n = search rules in let e = c.mul.ensures ∙ ap₂ exact_product c.minus_one.ensures (c.whole.ensures ∙ ap whole (to_z-of_z w64 c.args.n h)) ∙ negative_found c.args.n h in rw e (search rules)

pub returns : goal.returns
returns c = let h : FitsSigned w64 c.args.n = search rules in same c.unwrap.result _ (sym c.unwrap.ensures ∙ c.mul.ensures ∙ ap₂ exact_product c.minus_one.ensures (c.whole.ensures ∙ ap whole (to_z-of_z w64 c.args.n h)) ∙ negative_found c.args.n h)
