use Rattle.std.proofs.Common.{Some, sym, ap, subst, ◌∙◌}
use Rattle.heylo_formula.specs.PlainTrees.{form_of, cond_of}
use Rattle.heylo_formula.proofs.exported.Mirrors.{number_form, variable_form, sum_form, difference_form, cut_form, scale_form, product_form, min_form, max_form, imply_form, co_imply_form, validate_form, co_validate_form, embed_form, iverson_form, select_form, bind_form, constant_cond, flag_cond, not_cond, and_cond, or_cond, same_cond, le_cond, lt_cond, equal_cond, ite_cond}
use Rattle.heylo_graph.specs.Trees.{Tree}
use Rattle.heylo_graph.specs.internal.Tables.{Reads}
use Rattle.heylo_graph.proofs.Readings.{const_reads, var_reads, sum_reads, diff_reads, cut_reads, scale_reads, product_reads, min_reads, max_reads, imply_reads, co_imply_reads, validate_reads, co_validate_reads, embed_reads, iverson_reads, select_reads, bind_reads, truth_reads, flag_reads, not_reads, and_reads, or_reads, same_reads, le_reads, lt_reads, equal_reads, ite_reads}
use Rattle.heylo_graph.proofs.graphs.Graph.+reading.Goals as goal

pub read-returns-in-Const : goal.read-returns-in-Const
read-returns-in-Const t c = subst (λ d. Reads c.args.self.now c.args.id (Tree.formula d)) (sym (number_form c.in-Const.v)) (const_reads c.args.self.now c.args.id c.in-Const.v (c.node_before.ensures.node ∙ ap Some c.in-Const.is))

pub read-returns-in-Var : goal.read-returns-in-Var
read-returns-in-Var t c = subst (λ d. Reads c.args.self.now c.args.id (Tree.formula d)) (sym (variable_form c.in-Var.x)) (var_reads c.args.self.now c.args.id c.in-Var.x (c.node_before.ensures.node ∙ ap Some c.in-Var.is))

pub read-returns-in_ok-left-in-Sum : goal.read-returns-in_ok-left-in-Sum
read-returns-in_ok-left-in-Sum t c = subst (λ d. Reads c.args.self.now c.args.id (Tree.formula d)) (sym (sum_form c.in_ok-left-in-Sum.left c.in_ok-left-in-Sum.right)) (sum_reads c.args.self.now c.args.id c.in-Sum.a c.in-Sum.b (form_of c.in_ok-left-in-Sum.left.value) (form_of c.in_ok-left-in-Sum.right.value) (c.node_before.ensures.node ∙ ap Some c.in-Sum.is) c.in_ok-left-in-Sum.ensures.left c.in_ok-left-in-Sum.ensures.right)

pub read-returns-in_ok-left-in-Diff : goal.read-returns-in_ok-left-in-Diff
read-returns-in_ok-left-in-Diff t c = subst (λ d. Reads c.args.self.now c.args.id (Tree.formula d)) (sym (difference_form c.in_ok-left-in-Diff.left c.in_ok-left-in-Diff.right)) (diff_reads c.args.self.now c.args.id c.in-Diff.a c.in-Diff.b (form_of c.in_ok-left-in-Diff.left.value) (form_of c.in_ok-left-in-Diff.right.value) (c.node_before.ensures.node ∙ ap Some c.in-Diff.is) c.in_ok-left-in-Diff.ensures.left c.in_ok-left-in-Diff.ensures.right)

pub read-returns-in_ok-left-in-Cut : goal.read-returns-in_ok-left-in-Cut
read-returns-in_ok-left-in-Cut t c = subst (λ d. Reads c.args.self.now c.args.id (Tree.formula d)) (sym (cut_form c.in_ok-left-in-Cut.left c.in_ok-left-in-Cut.right)) (cut_reads c.args.self.now c.args.id c.in-Cut.a c.in-Cut.b (form_of c.in_ok-left-in-Cut.left.value) (form_of c.in_ok-left-in-Cut.right.value) (c.node_before.ensures.node ∙ ap Some c.in-Cut.is) c.in_ok-left-in-Cut.ensures.left c.in_ok-left-in-Cut.ensures.right)

pub read-returns-in_ok-form_boxed-in-Scale : goal.read-returns-in_ok-form_boxed-in-Scale
read-returns-in_ok-form_boxed-in-Scale t c = subst (λ d. Reads c.args.self.now c.args.id (Tree.formula d)) (sym (scale_form c.in-Scale.w c.in_ok-form_boxed-in-Scale.field-0)) (scale_reads c.args.self.now c.args.id c.in-Scale.w c.in-Scale.a (form_of c.in_ok-form_boxed-in-Scale.field-0.value) (c.node_before.ensures.node ∙ ap Some c.in-Scale.is) c.in_ok-form_boxed-in-Scale.ensures)

pub read-returns-in_ok-left-in-Product : goal.read-returns-in_ok-left-in-Product
read-returns-in_ok-left-in-Product t c = subst (λ d. Reads c.args.self.now c.args.id (Tree.formula d)) (sym (product_form c.in_ok-left-in-Product.left c.in_ok-left-in-Product.right c.in-Product.span)) (product_reads c.args.self.now c.args.id c.in-Product.a c.in-Product.b c.in-Product.span (form_of c.in_ok-left-in-Product.left.value) (form_of c.in_ok-left-in-Product.right.value) (c.node_before.ensures.node ∙ ap Some c.in-Product.is) c.in_ok-left-in-Product.ensures.left c.in_ok-left-in-Product.ensures.right)

pub read-returns-in_ok-left-in-Min : goal.read-returns-in_ok-left-in-Min
read-returns-in_ok-left-in-Min t c = subst (λ d. Reads c.args.self.now c.args.id (Tree.formula d)) (sym (min_form c.in_ok-left-in-Min.left c.in_ok-left-in-Min.right)) (min_reads c.args.self.now c.args.id c.in-Min.a c.in-Min.b (form_of c.in_ok-left-in-Min.left.value) (form_of c.in_ok-left-in-Min.right.value) (c.node_before.ensures.node ∙ ap Some c.in-Min.is) c.in_ok-left-in-Min.ensures.left c.in_ok-left-in-Min.ensures.right)

pub read-returns-in_ok-left-in-Max : goal.read-returns-in_ok-left-in-Max
read-returns-in_ok-left-in-Max t c = subst (λ d. Reads c.args.self.now c.args.id (Tree.formula d)) (sym (max_form c.in_ok-left-in-Max.left c.in_ok-left-in-Max.right)) (max_reads c.args.self.now c.args.id c.in-Max.a c.in-Max.b (form_of c.in_ok-left-in-Max.left.value) (form_of c.in_ok-left-in-Max.right.value) (c.node_before.ensures.node ∙ ap Some c.in-Max.is) c.in_ok-left-in-Max.ensures.left c.in_ok-left-in-Max.ensures.right)

pub read-returns-in_ok-left-in-Imply : goal.read-returns-in_ok-left-in-Imply
read-returns-in_ok-left-in-Imply t c = subst (λ d. Reads c.args.self.now c.args.id (Tree.formula d)) (sym (imply_form c.in_ok-left-in-Imply.left c.in_ok-left-in-Imply.right)) (imply_reads c.args.self.now c.args.id c.in-Imply.a c.in-Imply.b (form_of c.in_ok-left-in-Imply.left.value) (form_of c.in_ok-left-in-Imply.right.value) (c.node_before.ensures.node ∙ ap Some c.in-Imply.is) c.in_ok-left-in-Imply.ensures.left c.in_ok-left-in-Imply.ensures.right)

pub read-returns-in_ok-left-in-CoImply : goal.read-returns-in_ok-left-in-CoImply
read-returns-in_ok-left-in-CoImply t c = subst (λ d. Reads c.args.self.now c.args.id (Tree.formula d)) (sym (co_imply_form c.in_ok-left-in-CoImply.left c.in_ok-left-in-CoImply.right)) (co_imply_reads c.args.self.now c.args.id c.in-CoImply.a c.in-CoImply.b (form_of c.in_ok-left-in-CoImply.left.value) (form_of c.in_ok-left-in-CoImply.right.value) (c.node_before.ensures.node ∙ ap Some c.in-CoImply.is) c.in_ok-left-in-CoImply.ensures.left c.in_ok-left-in-CoImply.ensures.right)

pub read-returns-in_ok-form_boxed-in-Validate : goal.read-returns-in_ok-form_boxed-in-Validate
read-returns-in_ok-form_boxed-in-Validate t c = subst (λ d. Reads c.args.self.now c.args.id (Tree.formula d)) (sym (validate_form c.in_ok-form_boxed-in-Validate.field-0)) (validate_reads c.args.self.now c.args.id c.in-Validate.a (form_of c.in_ok-form_boxed-in-Validate.field-0.value) (c.node_before.ensures.node ∙ ap Some c.in-Validate.is) c.in_ok-form_boxed-in-Validate.ensures)

pub read-returns-in_ok-form_boxed-in-CoValidate : goal.read-returns-in_ok-form_boxed-in-CoValidate
read-returns-in_ok-form_boxed-in-CoValidate t c = subst (λ d. Reads c.args.self.now c.args.id (Tree.formula d)) (sym (co_validate_form c.in_ok-form_boxed-in-CoValidate.field-0)) (co_validate_reads c.args.self.now c.args.id c.in-CoValidate.a (form_of c.in_ok-form_boxed-in-CoValidate.field-0.value) (c.node_before.ensures.node ∙ ap Some c.in-CoValidate.is) c.in_ok-form_boxed-in-CoValidate.ensures)

pub read-returns-in_ok-cond_boxed-in-Embed : goal.read-returns-in_ok-cond_boxed-in-Embed
read-returns-in_ok-cond_boxed-in-Embed t c = subst (λ d. Reads c.args.self.now c.args.id (Tree.formula d)) (sym (embed_form c.in_ok-cond_boxed-in-Embed.field-0)) (embed_reads c.args.self.now c.args.id c.in-Embed.g (cond_of c.in_ok-cond_boxed-in-Embed.field-0.value) (c.node_before.ensures.node ∙ ap Some c.in-Embed.is) c.in_ok-cond_boxed-in-Embed.ensures)

pub read-returns-in_ok-cond_boxed-in-Iverson : goal.read-returns-in_ok-cond_boxed-in-Iverson
read-returns-in_ok-cond_boxed-in-Iverson t c = subst (λ d. Reads c.args.self.now c.args.id (Tree.formula d)) (sym (iverson_form c.in_ok-cond_boxed-in-Iverson.field-0)) (iverson_reads c.args.self.now c.args.id c.in-Iverson.g (cond_of c.in_ok-cond_boxed-in-Iverson.field-0.value) (c.node_before.ensures.node ∙ ap Some c.in-Iverson.is) c.in_ok-cond_boxed-in-Iverson.ensures)

pub read-returns-in_ok-left-in-Select : goal.read-returns-in_ok-left-in-Select
read-returns-in_ok-left-in-Select t c = subst (λ d. Reads c.args.self.now c.args.id (Tree.formula d)) (sym (select_form c.in_ok-test-in-Select.test c.in_ok-left-in-Select.left c.in_ok-left-in-Select.right)) (select_reads c.args.self.now c.args.id c.in-Select.g c.in-Select.a c.in-Select.b (cond_of c.in_ok-test-in-Select.test.value) (form_of c.in_ok-left-in-Select.left.value) (form_of c.in_ok-left-in-Select.right.value) (c.node_before.ensures.node ∙ ap Some c.in-Select.is) c.in_ok-test-in-Select.ensures c.in_ok-left-in-Select.ensures.left c.in_ok-left-in-Select.ensures.right)

pub read-returns-in_ok-form_boxed-in-Bind : goal.read-returns-in_ok-form_boxed-in-Bind
read-returns-in_ok-form_boxed-in-Bind t c = subst (λ d. Reads c.args.self.now c.args.id (Tree.formula d)) (sym (bind_form c.in-Bind.up c.in-Bind.y c.in-Bind.name c.in-Bind.ty c.in_ok-form_boxed-in-Bind.field-0)) (bind_reads c.args.self.now c.args.id c.in-Bind.up c.in-Bind.y c.in-Bind.name c.in-Bind.ty c.in-Bind.a (form_of c.in_ok-form_boxed-in-Bind.field-0.value) (c.node_before.ensures.node ∙ ap Some c.in-Bind.is) c.in_ok-form_boxed-in-Bind.ensures)

pub read-returns-in-Truth : goal.read-returns-in-Truth
read-returns-in-Truth t c = subst (λ d. Reads c.args.self.now c.args.id (Tree.condition d)) (sym (constant_cond c.in-Truth.b)) (truth_reads c.args.self.now c.args.id c.in-Truth.b (c.node_before.ensures.node ∙ ap Some c.in-Truth.is))

pub read-returns-in-Flag : goal.read-returns-in-Flag
read-returns-in-Flag t c = subst (λ d. Reads c.args.self.now c.args.id (Tree.condition d)) (sym (flag_cond c.in-Flag.x)) (flag_reads c.args.self.now c.args.id c.in-Flag.x (c.node_before.ensures.node ∙ ap Some c.in-Flag.is))

pub read-returns-in_ok-cond_boxed-in-Not : goal.read-returns-in_ok-cond_boxed-in-Not
read-returns-in_ok-cond_boxed-in-Not t c = subst (λ d. Reads c.args.self.now c.args.id (Tree.condition d)) (sym (not_cond c.in_ok-cond_boxed-in-Not.field-0)) (not_reads c.args.self.now c.args.id c.in-Not.g (cond_of c.in_ok-cond_boxed-in-Not.field-0.value) (c.node_before.ensures.node ∙ ap Some c.in-Not.is) c.in_ok-cond_boxed-in-Not.ensures)

pub read-returns-in_ok-left-in-And : goal.read-returns-in_ok-left-in-And
read-returns-in_ok-left-in-And t c = subst (λ d. Reads c.args.self.now c.args.id (Tree.condition d)) (sym (and_cond c.in_ok-left-in-And.left c.in_ok-left-in-And.right)) (and_reads c.args.self.now c.args.id c.in-And.g c.in-And.h (cond_of c.in_ok-left-in-And.left.value) (cond_of c.in_ok-left-in-And.right.value) (c.node_before.ensures.node ∙ ap Some c.in-And.is) c.in_ok-left-in-And.ensures.left c.in_ok-left-in-And.ensures.right)

pub read-returns-in_ok-left-in-Or : goal.read-returns-in_ok-left-in-Or
read-returns-in_ok-left-in-Or t c = subst (λ d. Reads c.args.self.now c.args.id (Tree.condition d)) (sym (or_cond c.in_ok-left-in-Or.left c.in_ok-left-in-Or.right)) (or_reads c.args.self.now c.args.id c.in-Or.g c.in-Or.h (cond_of c.in_ok-left-in-Or.left.value) (cond_of c.in_ok-left-in-Or.right.value) (c.node_before.ensures.node ∙ ap Some c.in-Or.is) c.in_ok-left-in-Or.ensures.left c.in_ok-left-in-Or.ensures.right)

pub read-returns-in_ok-left-in-Same : goal.read-returns-in_ok-left-in-Same
read-returns-in_ok-left-in-Same t c = subst (λ d. Reads c.args.self.now c.args.id (Tree.condition d)) (sym (same_cond c.in_ok-left-in-Same.left c.in_ok-left-in-Same.right)) (same_reads c.args.self.now c.args.id c.in-Same.g c.in-Same.h (cond_of c.in_ok-left-in-Same.left.value) (cond_of c.in_ok-left-in-Same.right.value) (c.node_before.ensures.node ∙ ap Some c.in-Same.is) c.in_ok-left-in-Same.ensures.left c.in_ok-left-in-Same.ensures.right)

pub read-returns-in_ok-left-in-Le : goal.read-returns-in_ok-left-in-Le
read-returns-in_ok-left-in-Le t c = subst (λ d. Reads c.args.self.now c.args.id (Tree.condition d)) (sym (le_cond c.in_ok-left-in-Le.left c.in_ok-left-in-Le.right)) (le_reads c.args.self.now c.args.id c.in-Le.a c.in-Le.b (form_of c.in_ok-left-in-Le.left.value) (form_of c.in_ok-left-in-Le.right.value) (c.node_before.ensures.node ∙ ap Some c.in-Le.is) c.in_ok-left-in-Le.ensures.left c.in_ok-left-in-Le.ensures.right)

pub read-returns-in_ok-left-in-Lt : goal.read-returns-in_ok-left-in-Lt
read-returns-in_ok-left-in-Lt t c = subst (λ d. Reads c.args.self.now c.args.id (Tree.condition d)) (sym (lt_cond c.in_ok-left-in-Lt.left c.in_ok-left-in-Lt.right)) (lt_reads c.args.self.now c.args.id c.in-Lt.a c.in-Lt.b (form_of c.in_ok-left-in-Lt.left.value) (form_of c.in_ok-left-in-Lt.right.value) (c.node_before.ensures.node ∙ ap Some c.in-Lt.is) c.in_ok-left-in-Lt.ensures.left c.in_ok-left-in-Lt.ensures.right)

pub read-returns-in_ok-left-in-EqNum : goal.read-returns-in_ok-left-in-EqNum
read-returns-in_ok-left-in-EqNum t c = subst (λ d. Reads c.args.self.now c.args.id (Tree.condition d)) (sym (equal_cond c.in_ok-left-in-EqNum.left c.in_ok-left-in-EqNum.right)) (equal_reads c.args.self.now c.args.id c.in-EqNum.a c.in-EqNum.b (form_of c.in_ok-left-in-EqNum.left.value) (form_of c.in_ok-left-in-EqNum.right.value) (c.node_before.ensures.node ∙ ap Some c.in-EqNum.is) c.in_ok-left-in-EqNum.ensures.left c.in_ok-left-in-EqNum.ensures.right)

pub read-returns-in_ok-left-in-Ite : goal.read-returns-in_ok-left-in-Ite
read-returns-in_ok-left-in-Ite t c = subst (λ d. Reads c.args.self.now c.args.id (Tree.condition d)) (sym (ite_cond c.in_ok-test-in-Ite.test c.in_ok-left-in-Ite.left c.in_ok-left-in-Ite.right)) (ite_reads c.args.self.now c.args.id c.in-Ite.g c.in-Ite.h c.in-Ite.k (cond_of c.in_ok-test-in-Ite.test.value) (cond_of c.in_ok-left-in-Ite.left.value) (cond_of c.in_ok-left-in-Ite.right.value) (c.node_before.ensures.node ∙ ap Some c.in-Ite.is) c.in_ok-test-in-Ite.ensures c.in_ok-left-in-Ite.ensures.left c.in_ok-left-in-Ite.ensures.right)
