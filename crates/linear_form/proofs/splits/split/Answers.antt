use Rattle.std.proofs.Common.{ap, ap₂, ◌∙◌, [], ◌∷◌, ◌++◌, false, rules, FitsSigned}
use Rattle.std.proofs.lemmas.Int.{to_z-of_z}
use mir.Syntax.{w64}
use Rattle.heyvl_num.specs.Rational.{◌*ʳ◌}
use Rattle.heyvl_num.specs.Rounding.{whole}
use Rattle.linear_rows.specs.Numbers.{minus_oneʳ}
use Rattle.linear_form.specs.Query.{Atom}
use Rattle.linear_form.proofs.SplitAtoms.{split_parts}
use Rattle.linear_form.proofs.splits.split.Goals as goal

pub returns : goal.returns
returns c = let h : FitsSigned w64 c.args.bound = search rules in ap₂ (λ ts r. Atom.row (record { terms = ts; rest = r }) false) (c.in_ok-push.ensures.items ∙ ap₂ (λ ts w. ts ++ ((c.args.variable, w) ∷ [])) c.in_ok-terms.ensures.items c.one.ensures) (c.negative.ensures ∙ ap (λ m. minus_oneʳ *ʳ whole m) (to_z-of_z w64 c.args.bound h)) ∙ split_parts c.args.variable c.args.bound
