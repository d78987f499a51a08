use Rattle.std.proofs.Common.{◌≡◌, Some, sym, ap, subst, ◌∙◌}
use Rattle.heylo_formula.specs.declared.forms.Form as F
use Rattle.heylo_formula.specs.declared.forms.Cond as C
use Rattle.heylo_formula.specs.PlainTrees.{form_of, cond_of}
use Rattle.heylo_formula.proofs.exported.Mirrors.{sum_form, difference_form, cut_form, scale_form, product_form, min_form, max_form, imply_form, co_imply_form, validate_form, co_validate_form, embed_form, iverson_form, select_form, bind_form, not_cond, and_cond, or_cond, same_cond, le_cond, lt_cond, equal_cond, ite_cond}
use Rattle.heylo_graph.specs.Trees.{Tree}
use Rattle.heylo_graph.specs.Nodes.{HasTree}
use Rattle.heylo_graph.proofs.SameTrees.{has_first, has_second, has_third}
use Rattle.heylo_graph.proofs.Trees.{stands_longer}
use Rattle.heylo_graph.proofs.graphs.Graph.+putting.Goals as goal

-- The tree of a child that is reached through its box.
form_there : (x y : F.Form) → x ≡ y → Some (Tree.formula (form_of y)) ≡ Some (Tree.formula (form_of x))
form_there x y e = ap (λ z. Some (Tree.formula (form_of z))) (sym e)

cond_there : (x y : C.Cond) → x ≡ y → Some (Tree.condition (cond_of y)) ≡ Some (Tree.condition (cond_of x))
cond_there x y e = ap (λ z. Some (Tree.condition (cond_of z))) (sym e)

pub put_both-returns-clause-left : goal.put_both-returns-clause-left
put_both-returns-clause-left t c = stands_longer _ _ _ _ c.in_ok-right.ensures.begins c.in_ok-left.ensures.tree

pub put_conds-returns-clause-left : goal.put_conds-returns-clause-left
put_conds-returns-clause-left t c = stands_longer _ _ _ _ c.in_ok-right.ensures.begins c.in_ok-left.ensures.tree

pub put_select-returns-clause-test : goal.put_select-returns-clause-test
put_select-returns-clause-test t c = stands_longer _ _ _ _ c.in_ok-left.ensures.begins c.in_ok-test.ensures.tree

pub put_ite-returns-clause-test : goal.put_ite-returns-clause-test
put_ite-returns-clause-test t c = stands_longer _ _ _ _ c.in_ok-left.ensures.begins c.in_ok-test.ensures.tree

pub formula_node-returns-in_ok-left-in-Sum-clause-present : goal.formula_node-returns-in_ok-left-in-Sum-clause-present
formula_node-returns-in_ok-left-in-Sum-clause-present t c = λ h. let s = subst (HasTree c.args.self.now) (ap Tree.formula (ap form_of c.in-Sum.is ∙ sum_form c.in-Sum.a c.in-Sum.b)) h in c.in_ok-left-in-Sum.ensures.present (has_first _ _ _ s (form_there _ _ c.deref.ensures)) (has_second _ _ _ s (form_there _ _ c.deref-in-Sum.ensures))

pub formula_node-returns-in_ok-left-in-Diff-clause-present : goal.formula_node-returns-in_ok-left-in-Diff-clause-present
formula_node-returns-in_ok-left-in-Diff-clause-present t c = λ h. let s = subst (HasTree c.args.self.now) (ap Tree.formula (ap form_of c.in-Diff.is ∙ difference_form c.in-Diff.a c.in-Diff.b)) h in c.in_ok-left-in-Diff.ensures.present (has_first _ _ _ s (form_there _ _ c.deref-in-Diff.ensures)) (has_second _ _ _ s (form_there _ _ c.deref-in-Diff-2.ensures))

pub formula_node-returns-in_ok-left-in-Cut-clause-present : goal.formula_node-returns-in_ok-left-in-Cut-clause-present
formula_node-returns-in_ok-left-in-Cut-clause-present t c = λ h. let s = subst (HasTree c.args.self.now) (ap Tree.formula (ap form_of c.in-Cut.is ∙ cut_form c.in-Cut.a c.in-Cut.b)) h in c.in_ok-left-in-Cut.ensures.present (has_first _ _ _ s (form_there _ _ c.deref-in-Cut.ensures)) (has_second _ _ _ s (form_there _ _ c.deref-in-Cut-2.ensures))

pub formula_node-returns-in_ok-part-in-Scale-clause-present : goal.formula_node-returns-in_ok-part-in-Scale-clause-present
formula_node-returns-in_ok-part-in-Scale-clause-present t c = λ h. let s = subst (HasTree c.args.self.now) (ap Tree.formula (ap form_of c.in-Scale.is ∙ scale_form c.in-Scale.w c.in-Scale.a)) h in c.in_ok-part-in-Scale.ensures.present (has_first _ _ _ s (form_there _ _ c.deref-in-Scale.ensures))

pub formula_node-returns-in_ok-left-in-Product-clause-present : goal.formula_node-returns-in_ok-left-in-Product-clause-present
formula_node-returns-in_ok-left-in-Product-clause-present t c = λ h. let s = subst (HasTree c.args.self.now) (ap Tree.formula (ap form_of c.in-Product.is ∙ product_form c.in-Product.a c.in-Product.b c.in-Product.span)) h in c.in_ok-left-in-Product.ensures.present (has_first _ _ _ s (form_there _ _ c.deref-in-Product.ensures)) (has_second _ _ _ s (form_there _ _ c.deref-in-Product-2.ensures))

pub formula_node-returns-in_ok-left-in-Min-clause-present : goal.formula_node-returns-in_ok-left-in-Min-clause-present
formula_node-returns-in_ok-left-in-Min-clause-present t c = λ h. let s = subst (HasTree c.args.self.now) (ap Tree.formula (ap form_of c.in-Min.is ∙ min_form c.in-Min.a c.in-Min.b)) h in c.in_ok-left-in-Min.ensures.present (has_first _ _ _ s (form_there _ _ c.deref-in-Min.ensures)) (has_second _ _ _ s (form_there _ _ c.deref-in-Min-2.ensures))

pub formula_node-returns-in_ok-left-in-Max-clause-present : goal.formula_node-returns-in_ok-left-in-Max-clause-present
formula_node-returns-in_ok-left-in-Max-clause-present t c = λ h. let s = subst (HasTree c.args.self.now) (ap Tree.formula (ap form_of c.in-Max.is ∙ max_form c.in-Max.a c.in-Max.b)) h in c.in_ok-left-in-Max.ensures.present (has_first _ _ _ s (form_there _ _ c.deref-in-Max.ensures)) (has_second _ _ _ s (form_there _ _ c.deref-in-Max-2.ensures))

pub formula_node-returns-in_ok-left-in-Imply-clause-present : goal.formula_node-returns-in_ok-left-in-Imply-clause-present
formula_node-returns-in_ok-left-in-Imply-clause-present t c = λ h. let s = subst (HasTree c.args.self.now) (ap Tree.formula (ap form_of c.in-Imply.is ∙ imply_form c.in-Imply.a c.in-Imply.b)) h in c.in_ok-left-in-Imply.ensures.present (has_first _ _ _ s (form_there _ _ c.deref-in-Imply.ensures)) (has_second _ _ _ s (form_there _ _ c.deref-in-Imply-2.ensures))

pub formula_node-returns-in_ok-left-in-CoImply-clause-present : goal.formula_node-returns-in_ok-left-in-CoImply-clause-present
formula_node-returns-in_ok-left-in-CoImply-clause-present t c = λ h. let s = subst (HasTree c.args.self.now) (ap Tree.formula (ap form_of c.in-CoImply.is ∙ co_imply_form c.in-CoImply.a c.in-CoImply.b)) h in c.in_ok-left-in-CoImply.ensures.present (has_first _ _ _ s (form_there _ _ c.deref-in-CoImply.ensures)) (has_second _ _ _ s (form_there _ _ c.deref-in-CoImply-2.ensures))

pub formula_node-returns-in_ok-part-in-Validate-clause-present : goal.formula_node-returns-in_ok-part-in-Validate-clause-present
formula_node-returns-in_ok-part-in-Validate-clause-present t c = λ h. let s = subst (HasTree c.args.self.now) (ap Tree.formula (ap form_of c.in-Validate.is ∙ validate_form c.in-Validate.a)) h in c.in_ok-part-in-Validate.ensures.present (has_first _ _ _ s (form_there _ _ c.deref-in-Validate.ensures))

pub formula_node-returns-in_ok-part-in-CoValidate-clause-present : goal.formula_node-returns-in_ok-part-in-CoValidate-clause-present
formula_node-returns-in_ok-part-in-CoValidate-clause-present t c = λ h. let s = subst (HasTree c.args.self.now) (ap Tree.formula (ap form_of c.in-CoValidate.is ∙ co_validate_form c.in-CoValidate.a)) h in c.in_ok-part-in-CoValidate.ensures.present (has_first _ _ _ s (form_there _ _ c.deref-in-CoValidate.ensures))

pub formula_node-returns-in_ok-part-in-Embed-clause-present : goal.formula_node-returns-in_ok-part-in-Embed-clause-present
formula_node-returns-in_ok-part-in-Embed-clause-present t c = λ h. let s = subst (HasTree c.args.self.now) (ap Tree.formula (ap form_of c.in-Embed.is ∙ embed_form c.in-Embed.g)) h in c.in_ok-part-in-Embed.ensures.present (has_first _ _ _ s (cond_there _ _ c.deref-in-Embed.ensures))

pub formula_node-returns-in_ok-part-in-Iverson-clause-present : goal.formula_node-returns-in_ok-part-in-Iverson-clause-present
formula_node-returns-in_ok-part-in-Iverson-clause-present t c = λ h. let s = subst (HasTree c.args.self.now) (ap Tree.formula (ap form_of c.in-Iverson.is ∙ iverson_form c.in-Iverson.g)) h in c.in_ok-part-in-Iverson.ensures.present (has_first _ _ _ s (cond_there _ _ c.deref-in-Iverson.ensures))

pub formula_node-returns-in_ok-test-in-Select-clause-present : goal.formula_node-returns-in_ok-test-in-Select-clause-present
formula_node-returns-in_ok-test-in-Select-clause-present t c = λ h. let s = subst (HasTree c.args.self.now) (ap Tree.formula (ap form_of c.in-Select.is ∙ select_form c.in-Select.g c.in-Select.a c.in-Select.b)) h in c.in_ok-test-in-Select.ensures.present (has_first _ _ _ s (cond_there _ _ c.deref-in-Select.ensures)) (has_second _ _ _ s (form_there _ _ c.deref-in-Select-2.ensures)) (has_third _ _ _ s (form_there _ _ c.deref-in-Select-3.ensures))

pub formula_node-returns-in_ok-part-in-Bind-clause-present : goal.formula_node-returns-in_ok-part-in-Bind-clause-present
formula_node-returns-in_ok-part-in-Bind-clause-present t c = λ h. let s = subst (HasTree c.args.self.now) (ap Tree.formula (ap form_of c.in-Bind.is ∙ bind_form c.in-Bind.up c.in-Bind.y c.in-Bind.name c.in-Bind.ty c.in-Bind.a)) h in c.in_ok-part-in-Bind.ensures.present (has_first _ _ _ s (form_there _ _ c.deref-in-Bind.ensures))

pub condition_node-returns-in_ok-part-in-Not-clause-present : goal.condition_node-returns-in_ok-part-in-Not-clause-present
condition_node-returns-in_ok-part-in-Not-clause-present t c = λ h. let s = subst (HasTree c.args.self.now) (ap Tree.condition (ap cond_of c.in-Not.is ∙ not_cond c.in-Not.g)) h in c.in_ok-part-in-Not.ensures.present (has_first _ _ _ s (cond_there _ _ c.deref.ensures))

pub condition_node-returns-in_ok-left-in-And-clause-present : goal.condition_node-returns-in_ok-left-in-And-clause-present
condition_node-returns-in_ok-left-in-And-clause-present t c = λ h. let s = subst (HasTree c.args.self.now) (ap Tree.condition (ap cond_of c.in-And.is ∙ and_cond c.in-And.g c.in-And.h)) h in c.in_ok-left-in-And.ensures.present (has_first _ _ _ s (cond_there _ _ c.deref-in-And.ensures)) (has_second _ _ _ s (cond_there _ _ c.deref-in-And-2.ensures))

pub condition_node-returns-in_ok-left-in-Or-clause-present : goal.condition_node-returns-in_ok-left-in-Or-clause-present
condition_node-returns-in_ok-left-in-Or-clause-present t c = λ h. let s = subst (HasTree c.args.self.now) (ap Tree.condition (ap cond_of c.in-Or.is ∙ or_cond c.in-Or.g c.in-Or.h)) h in c.in_ok-left-in-Or.ensures.present (has_first _ _ _ s (cond_there _ _ c.deref-in-Or.ensures)) (has_second _ _ _ s (cond_there _ _ c.deref-in-Or-2.ensures))

pub condition_node-returns-in_ok-left-in-Same-clause-present : goal.condition_node-returns-in_ok-left-in-Same-clause-present
condition_node-returns-in_ok-left-in-Same-clause-present t c = λ h. let s = subst (HasTree c.args.self.now) (ap Tree.condition (ap cond_of c.in-Same.is ∙ same_cond c.in-Same.g c.in-Same.h)) h in c.in_ok-left-in-Same.ensures.present (has_first _ _ _ s (cond_there _ _ c.deref-in-Same.ensures)) (has_second _ _ _ s (cond_there _ _ c.deref-in-Same-2.ensures))

pub condition_node-returns-in_ok-left-in-Le-clause-present : goal.condition_node-returns-in_ok-left-in-Le-clause-present
condition_node-returns-in_ok-left-in-Le-clause-present t c = λ h. let s = subst (HasTree c.args.self.now) (ap Tree.condition (ap cond_of c.in-Le.is ∙ le_cond c.in-Le.a c.in-Le.b)) h in c.in_ok-left-in-Le.ensures.present (has_first _ _ _ s (form_there _ _ c.deref-in-Le.ensures)) (has_second _ _ _ s (form_there _ _ c.deref-in-Le-2.ensures))

pub condition_node-returns-in_ok-left-in-Lt-clause-present : goal.condition_node-returns-in_ok-left-in-Lt-clause-present
condition_node-returns-in_ok-left-in-Lt-clause-present t c = λ h. let s = subst (HasTree c.args.self.now) (ap Tree.condition (ap cond_of c.in-Lt.is ∙ lt_cond c.in-Lt.a c.in-Lt.b)) h in c.in_ok-left-in-Lt.ensures.present (has_first _ _ _ s (form_there _ _ c.deref-in-Lt.ensures)) (has_second _ _ _ s (form_there _ _ c.deref-in-Lt-2.ensures))

pub condition_node-returns-in_ok-left-in-EqNum-clause-present : goal.condition_node-returns-in_ok-left-in-EqNum-clause-present
condition_node-returns-in_ok-left-in-EqNum-clause-present t c = λ h. let s = subst (HasTree c.args.self.now) (ap Tree.condition (ap cond_of c.in-EqNum.is ∙ equal_cond c.in-EqNum.a c.in-EqNum.b)) h in c.in_ok-left-in-EqNum.ensures.present (has_first _ _ _ s (form_there _ _ c.deref-in-EqNum.ensures)) (has_second _ _ _ s (form_there _ _ c.deref-in-EqNum-2.ensures))

pub condition_node-returns-in_ok-test-in-Ite-clause-present : goal.condition_node-returns-in_ok-test-in-Ite-clause-present
condition_node-returns-in_ok-test-in-Ite-clause-present t c = λ h. let s = subst (HasTree c.args.self.now) (ap Tree.condition (ap cond_of c.in-Ite.is ∙ ite_cond c.in-Ite.g c.in-Ite.h c.in-Ite.k)) h in c.in_ok-test-in-Ite.ensures.present (has_first _ _ _ s (cond_there _ _ c.deref-in-Ite.ensures)) (has_second _ _ _ s (cond_there _ _ c.deref-in-Ite-2.ensures)) (has_third _ _ _ s (cond_there _ _ c.deref-in-Ite-3.ensures))
