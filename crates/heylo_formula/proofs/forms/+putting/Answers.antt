use Rattle.std.proofs.Common.{sym, ap, ◌∙◌, arith, ◌&&◌}
use Rattle.heylo_formula.specs.Variables.{is_free, occurs_in_term}
use Rattle.heylo_formula.specs.PlainTrees.{form_of, term_of}
use Rattle.heylo_formula.proofs.SubstitutionTrees.{number_put, variable_put, constant_put, flag_put, sum_put, difference_put, cut_put, scale_put, product_put, min_put, max_put, imply_put, co_imply_put, validate_put, co_validate_put, embed_put, iverson_put, select_put, not_in_put, and_in_put, or_in_put, same_in_put, le_in_put, lt_in_put, equal_in_put, ite_in_put, bind_left, bind_renamed, bind_kept, nodes_below}
use Rattle.heylo_formula.proofs.forms.+putting.Goals as goal

pub Cond::with_term-returns-in-Const : goal.Cond::with_term-returns-in-Const
Cond::with_term-returns-in-Const t c = constant_put _ (term_of c.args.with.now) _ _ c.in-Const.is

pub Cond::with_term-returns-in-Var : goal.Cond::with_term-returns-in-Var
Cond::with_term-returns-in-Var t c = flag_put _ (term_of c.args.with.now) _ _ c.in-Var.is c.cond_for.result c.cond_for.ensures

pub Cond::with_term-returns-in_ok-with_term_boxed-in-Not : goal.Cond::with_term-returns-in_ok-with_term_boxed-in-Not
Cond::with_term-returns-in_ok-with_term_boxed-in-Not t c = not_in_put _ (term_of c.args.with.now) _ c.in-Not.g c.in_ok-with_term_boxed-in-Not.field-0 _ c.in-Not.is c.deref.ensures c.in_ok-with_term_boxed-in-Not.ensures

pub Cond::with_term-returns-in_ok-left-in-And : goal.Cond::with_term-returns-in_ok-left-in-And
Cond::with_term-returns-in_ok-left-in-And t c = and_in_put _ (term_of c.args.with.now) _ c.in-And.g c.in-And.h c.in_ok-left-in-And.left c.in_ok-left-in-And.right _ _ c.in-And.is c.deref-in-And.ensures c.deref-in-And-2.ensures c.in_ok-left-in-And.ensures.0 c.in_ok-left-in-And.ensures.1

pub Cond::with_term-returns-in_ok-left-in-Or : goal.Cond::with_term-returns-in_ok-left-in-Or
Cond::with_term-returns-in_ok-left-in-Or t c = or_in_put _ (term_of c.args.with.now) _ c.in-Or.g c.in-Or.h c.in_ok-left-in-Or.left c.in_ok-left-in-Or.right _ _ c.in-Or.is c.deref-in-Or.ensures c.deref-in-Or-2.ensures c.in_ok-left-in-Or.ensures.0 c.in_ok-left-in-Or.ensures.1

pub Cond::with_term-returns-in_ok-left-in-Same : goal.Cond::with_term-returns-in_ok-left-in-Same
Cond::with_term-returns-in_ok-left-in-Same t c = same_in_put _ (term_of c.args.with.now) _ c.in-Same.g c.in-Same.h c.in_ok-left-in-Same.left c.in_ok-left-in-Same.right _ _ c.in-Same.is c.deref-in-Same.ensures c.deref-in-Same-2.ensures c.in_ok-left-in-Same.ensures.0 c.in_ok-left-in-Same.ensures.1

pub Cond::with_term-returns-in_ok-left-in-Le : goal.Cond::with_term-returns-in_ok-left-in-Le
Cond::with_term-returns-in_ok-left-in-Le t c = le_in_put _ (term_of c.args.with.now) _ c.in-Le.a c.in-Le.b c.in_ok-left-in-Le.left c.in_ok-left-in-Le.right _ _ c.in-Le.is c.deref-in-Le.ensures c.deref-in-Le-2.ensures c.in_ok-left-in-Le.ensures.0 c.in_ok-left-in-Le.ensures.1

pub Cond::with_term-returns-in_ok-left-in-Lt : goal.Cond::with_term-returns-in_ok-left-in-Lt
Cond::with_term-returns-in_ok-left-in-Lt t c = lt_in_put _ (term_of c.args.with.now) _ c.in-Lt.a c.in-Lt.b c.in_ok-left-in-Lt.left c.in_ok-left-in-Lt.right _ _ c.in-Lt.is c.deref-in-Lt.ensures c.deref-in-Lt-2.ensures c.in_ok-left-in-Lt.ensures.0 c.in_ok-left-in-Lt.ensures.1

pub Cond::with_term-returns-in_ok-left-in-EqNum : goal.Cond::with_term-returns-in_ok-left-in-EqNum
Cond::with_term-returns-in_ok-left-in-EqNum t c = equal_in_put _ (term_of c.args.with.now) _ c.in-EqNum.a c.in-EqNum.b c.in_ok-left-in-EqNum.left c.in_ok-left-in-EqNum.right _ _ c.in-EqNum.is c.deref-in-EqNum.ensures c.deref-in-EqNum-2.ensures c.in_ok-left-in-EqNum.ensures.0 c.in_ok-left-in-EqNum.ensures.1

pub Cond::with_term-returns-in_ok-left-in-Ite : goal.Cond::with_term-returns-in_ok-left-in-Ite
Cond::with_term-returns-in_ok-left-in-Ite t c = ite_in_put _ (term_of c.args.with.now) _ c.in-Ite.g c.in-Ite.h c.in-Ite.k c.in_ok-test-in-Ite.test c.in_ok-left-in-Ite.left c.in_ok-left-in-Ite.right _ _ _ c.in-Ite.is c.deref-in-Ite.ensures c.deref-in-Ite-2.ensures c.deref-in-Ite-3.ensures c.in_ok-test-in-Ite.ensures c.in_ok-left-in-Ite.ensures.0 c.in_ok-left-in-Ite.ensures.1

pub Form::with_term-returns-in-Const : goal.Form::with_term-returns-in-Const
Form::with_term-returns-in-Const t c = number_put _ (term_of c.args.with.now) _ _ c.in-Const.is

pub Form::with_term-returns-in-Var : goal.Form::with_term-returns-in-Var
Form::with_term-returns-in-Var t c = variable_put _ (term_of c.args.with.now) _ _ c.in-Var.is c.form_for.result c.form_for.ensures

pub Form::with_term-returns-in_ok-left-in-Sum : goal.Form::with_term-returns-in_ok-left-in-Sum
Form::with_term-returns-in_ok-left-in-Sum t c = sum_put _ (term_of c.args.with.now) _ c.in-Sum.a c.in-Sum.b c.in_ok-left-in-Sum.left c.in_ok-left-in-Sum.right _ _ c.in-Sum.is c.deref.ensures c.deref-in-Sum.ensures c.in_ok-left-in-Sum.ensures.0 c.in_ok-left-in-Sum.ensures.1

pub Form::with_term-returns-in_ok-left-in-Diff : goal.Form::with_term-returns-in_ok-left-in-Diff
Form::with_term-returns-in_ok-left-in-Diff t c = difference_put _ (term_of c.args.with.now) _ c.in-Diff.a c.in-Diff.b c.in_ok-left-in-Diff.left c.in_ok-left-in-Diff.right _ _ c.in-Diff.is c.deref-in-Diff.ensures c.deref-in-Diff-2.ensures c.in_ok-left-in-Diff.ensures.0 c.in_ok-left-in-Diff.ensures.1

pub Form::with_term-returns-in_ok-left-in-Cut : goal.Form::with_term-returns-in_ok-left-in-Cut
Form::with_term-returns-in_ok-left-in-Cut t c = cut_put _ (term_of c.args.with.now) _ c.in-Cut.a c.in-Cut.b c.in_ok-left-in-Cut.left c.in_ok-left-in-Cut.right _ _ c.in-Cut.is c.deref-in-Cut.ensures c.deref-in-Cut-2.ensures c.in_ok-left-in-Cut.ensures.0 c.in_ok-left-in-Cut.ensures.1

pub Form::with_term-returns-in_ok-with_term_boxed-in-Scale : goal.Form::with_term-returns-in_ok-with_term_boxed-in-Scale
Form::with_term-returns-in_ok-with_term_boxed-in-Scale t c = scale_put _ (term_of c.args.with.now) _ c.in-Scale.w c.in-Scale.a c.in_ok-with_term_boxed-in-Scale.field-0 _ c.in-Scale.is c.deref-in-Scale.ensures c.in_ok-with_term_boxed-in-Scale.ensures

pub Form::with_term-returns-in_ok-left-in-Product : goal.Form::with_term-returns-in_ok-left-in-Product
Form::with_term-returns-in_ok-left-in-Product t c = product_put _ (term_of c.args.with.now) _ c.in-Product.a c.in-Product.b c.in-Product.span c.in_ok-left-in-Product.left c.in_ok-left-in-Product.right _ _ c.in-Product.is c.deref-in-Product.ensures c.deref-in-Product-2.ensures c.in_ok-left-in-Product.ensures.0 c.in_ok-left-in-Product.ensures.1

pub Form::with_term-returns-in_ok-left-in-Min : goal.Form::with_term-returns-in_ok-left-in-Min
Form::with_term-returns-in_ok-left-in-Min t c = min_put _ (term_of c.args.with.now) _ c.in-Min.a c.in-Min.b c.in_ok-left-in-Min.left c.in_ok-left-in-Min.right _ _ c.in-Min.is c.deref-in-Min.ensures c.deref-in-Min-2.ensures c.in_ok-left-in-Min.ensures.0 c.in_ok-left-in-Min.ensures.1

pub Form::with_term-returns-in_ok-left-in-Max : goal.Form::with_term-returns-in_ok-left-in-Max
Form::with_term-returns-in_ok-left-in-Max t c = max_put _ (term_of c.args.with.now) _ c.in-Max.a c.in-Max.b c.in_ok-left-in-Max.left c.in_ok-left-in-Max.right _ _ c.in-Max.is c.deref-in-Max.ensures c.deref-in-Max-2.ensures c.in_ok-left-in-Max.ensures.0 c.in_ok-left-in-Max.ensures.1

pub Form::with_term-returns-in_ok-left-in-Imply : goal.Form::with_term-returns-in_ok-left-in-Imply
Form::with_term-returns-in_ok-left-in-Imply t c = imply_put _ (term_of c.args.with.now) _ c.in-Imply.a c.in-Imply.b c.in_ok-left-in-Imply.left c.in_ok-left-in-Imply.right _ _ c.in-Imply.is c.deref-in-Imply.ensures c.deref-in-Imply-2.ensures c.in_ok-left-in-Imply.ensures.0 c.in_ok-left-in-Imply.ensures.1

pub Form::with_term-returns-in_ok-left-in-CoImply : goal.Form::with_term-returns-in_ok-left-in-CoImply
Form::with_term-returns-in_ok-left-in-CoImply t c = co_imply_put _ (term_of c.args.with.now) _ c.in-CoImply.a c.in-CoImply.b c.in_ok-left-in-CoImply.left c.in_ok-left-in-CoImply.right _ _ c.in-CoImply.is c.deref-in-CoImply.ensures c.deref-in-CoImply-2.ensures c.in_ok-left-in-CoImply.ensures.0 c.in_ok-left-in-CoImply.ensures.1

pub Form::with_term-returns-in_ok-with_term_boxed-in-Validate : goal.Form::with_term-returns-in_ok-with_term_boxed-in-Validate
Form::with_term-returns-in_ok-with_term_boxed-in-Validate t c = validate_put _ (term_of c.args.with.now) _ c.in-Validate.a c.in_ok-with_term_boxed-in-Validate.field-0 _ c.in-Validate.is c.deref-in-Validate.ensures c.in_ok-with_term_boxed-in-Validate.ensures

pub Form::with_term-returns-in_ok-with_term_boxed-in-CoValidate : goal.Form::with_term-returns-in_ok-with_term_boxed-in-CoValidate
Form::with_term-returns-in_ok-with_term_boxed-in-CoValidate t c = co_validate_put _ (term_of c.args.with.now) _ c.in-CoValidate.a c.in_ok-with_term_boxed-in-CoValidate.field-0 _ c.in-CoValidate.is c.deref-in-CoValidate.ensures c.in_ok-with_term_boxed-in-CoValidate.ensures

pub Form::with_term-returns-in_ok-with_term_boxed-in-Embed : goal.Form::with_term-returns-in_ok-with_term_boxed-in-Embed
Form::with_term-returns-in_ok-with_term_boxed-in-Embed t c = embed_put _ (term_of c.args.with.now) _ c.in-Embed.g c.in_ok-with_term_boxed-in-Embed.field-0 _ c.in-Embed.is c.deref-in-Embed.ensures c.in_ok-with_term_boxed-in-Embed.ensures

pub Form::with_term-returns-in_ok-with_term_boxed-in-Iverson : goal.Form::with_term-returns-in_ok-with_term_boxed-in-Iverson
Form::with_term-returns-in_ok-with_term_boxed-in-Iverson t c = iverson_put _ (term_of c.args.with.now) _ c.in-Iverson.g c.in_ok-with_term_boxed-in-Iverson.field-0 _ c.in-Iverson.is c.deref-in-Iverson.ensures c.in_ok-with_term_boxed-in-Iverson.ensures

pub Form::with_term-returns-in_ok-left-in-Select : goal.Form::with_term-returns-in_ok-left-in-Select
Form::with_term-returns-in_ok-left-in-Select t c = select_put _ (term_of c.args.with.now) _ c.in-Select.g c.in-Select.a c.in-Select.b c.in_ok-test-in-Select.test c.in_ok-left-in-Select.left c.in_ok-left-in-Select.right _ _ _ c.in-Select.is c.deref-in-Select.ensures c.deref-in-Select-2.ensures c.deref-in-Select-3.ensures c.in_ok-test-in-Select.ensures c.in_ok-left-in-Select.ensures.0 c.in_ok-left-in-Select.ensures.1

pub Form::with_term-returns-then-var-y : goal.Form::with_term-returns-then-var-y
Form::with_term-returns-then-var-y t c = bind_left c.args.var (term_of c.args.with.now) _ c.in-Bind.up c.in-Bind.y c.in-Bind.name c.in-Bind.ty c.in-Bind.a c.in_ok-copy_boxed-in-Bind.field-0 c.deref-then-var-y.result.now c.in-Bind.is c.if-var-y.true c.deref-then-var-y.ensures c.in_ok-copy_boxed-in-Bind.ensures

pub Form::with_term-with_term_boxed-requires-then-captures : goal.Form::with_term-with_term_boxed-requires-then-captures
Form::with_term-with_term_boxed-requires-then-captures t c = let h = nodes_below c.args.self.now c.in-Bind.up c.in-Bind.y c.in-Bind.name c.in-Bind.ty c.in-Bind.a c.fresh_number-number.result c.deref-then-captures-3.result.now c.deref-then-captures-2.result.now c.in-Bind.is c.deref-then-captures-2.ensures (ap form_of c.deref-then-captures-3.ensures ∙ c.in_ok-body-in-Bind.ensures) in let k = c.decreases in let r = c.requires in (omega (arith, h, k), omega (arith, h, r))

pub Form::with_term-returns-in_ok-with_term_boxed-in-Bind : goal.Form::with_term-returns-in_ok-with_term_boxed-in-Bind
Form::with_term-returns-in_ok-with_term_boxed-in-Bind t c = bind_renamed c.args.var (term_of c.args.with.now) _ c.in-Bind.up c.in-Bind.y c.in-Bind.name c.in-Bind.ty c.in-Bind.a c.fresh_number-number.result c.in_ok-with_term_boxed-in-Bind.field-0 c.deref-then-captures.result.now c.deref-then-captures-2.result.now c.deref-then-captures-3.result.now c.in-Bind.is c.if-var-y.false (ap (λ g. occurs_in_term c.in-Bind.y (term_of c.args.with.now) && is_free c.args.var (form_of g)) (sym c.deref-in-Bind.ensures) ∙ sym c.captures-2.ensures ∙ c.if-captures.true) c.deref-then-captures.ensures c.deref-then-captures-2.ensures c.fresh_number-number.ensures (ap form_of c.deref-then-captures-3.ensures ∙ c.in_ok-body-in-Bind.ensures) c.in_ok-with_term_boxed-in-Bind.ensures

pub Form::with_term-returns-in_ok-with_term_boxed-in-Bind-2 : goal.Form::with_term-returns-in_ok-with_term_boxed-in-Bind-2
Form::with_term-returns-in_ok-with_term_boxed-in-Bind-2 t c = bind_kept c.args.var (term_of c.args.with.now) _ c.in-Bind.up c.in-Bind.y c.in-Bind.name c.in-Bind.ty c.in-Bind.a c.in_ok-with_term_boxed-in-Bind-2.field-0 c.deref-else-captures.result.now c.in-Bind.is c.if-var-y.false (ap (λ g. occurs_in_term c.in-Bind.y (term_of c.args.with.now) && is_free c.args.var (form_of g)) (sym c.deref-in-Bind.ensures) ∙ sym c.captures-2.ensures ∙ c.if-captures.false) c.deref-else-captures.ensures c.in_ok-with_term_boxed-in-Bind-2.ensures
