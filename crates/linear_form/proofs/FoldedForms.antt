-- A form has the comparisons of the form to which it folds.
use Rattle.std.proofs.Common.{◌≡◌, Some, true, refl, sym, ap, ap₂, ◌∙◌, cond, ◌&&◌}
use Rattle.heyvl_num.specs.Rational.{Rational, ◌+ʳ◌}
use Rattle.heyvl_num.specs.Value.Value.{finite}
use Rattle.heylo_formula.specs.Formula.{Form, Cond}
use Rattle.heylo_graph.specs.Trees.{Tree}
use Rattle.form_folding.specs.Foldings.{FoldsTo, TestFoldsTo}
use Rattle.linear_rows.specs.Numbers.{fits}
use Rattle.linear_values.specs.Lin.{constant, is_sized, plus}
use Rattle.linear_form.specs.Query.{next}
use Rattle.linear_form.specs.Query.Query.{bits, done}
use Rattle.linear_form.specs.Questions as q
use Rattle.linear_form.specs.Questions.{both, evaluate, test, with}
use Rattle.linear_form.specs.internal.GoalParts.{IsPartOf}
use Rattle.linear_form.specs.internal.Outcomes.{valued}
use Rattle.linear_form.specs.declared.parts.Part.{Part}

number_is : (x : Rational) → fits x ≡ true → evaluate (Form.number (finite x)) ≡ done (Some (constant x))
unfolding is_sized
number_is x h = ap (λ b. cond (b && true) (done (Some (constant x))) bits) h

numbers_are : (x y : Rational) → fits x ≡ true → fits y ≡ true → both (evaluate (Form.number (finite x))) (evaluate (Form.number (finite y))) q.sum ≡ evaluate (Form.number (finite (x +ʳ y)))
unfolding plus
numbers_are x y h k = ap₂ (λ s t. both s t q.sum) (number_is x h) (number_is y k)

mutual
  folded_asks : (f h : Form) → FoldsTo f h → evaluate h ≡ evaluate f
  folded_asks _ _ (FoldsTo.same f) = refl
  folded_asks _ _ (FoldsTo.numbers a b x y d e k g) = sym (numbers_are x y k g) ∙ ap₂ (λ s t. both s t q.sum) (folded_asks a (Form.number (finite x)) d) (folded_asks b (Form.number (finite y)) e)
  folded_asks _ _ (FoldsTo.sum a b c d k g) = ap₂ (λ s t. both s t q.sum) (folded_asks a c k) (folded_asks b d g)
  folded_asks _ _ (FoldsTo.scale w a b k) = ap (λ s. with s (q.scale w)) (folded_asks a b k)
  folded_asks _ _ (FoldsTo.iverson t u k) = ap (λ s. next s (λ b. done (cond b q.one q.zero))) (folded_tests t u k)
  folded_asks _ _ (FoldsTo.select t u a b c d k g e) = ap (λ m. next m (λ b. cond b (evaluate c) (evaluate d))) (folded_tests t u k) ∙ ap₂ (λ y n. next (test t) (λ b. cond b y n)) (folded_asks a c g) (folded_asks b d e)

  folded_tests : (t u : Cond) → TestFoldsTo t u → test u ≡ test t
  folded_tests _ _ (TestFoldsTo.same_test t) = refl
  folded_tests _ _ (TestFoldsTo.at_most a b c d k g) = ap₂ (λ s t. both s t q.at_most) (folded_asks a c k) (folded_asks b d g)
  folded_tests _ _ (TestFoldsTo.less a b c d k g) = ap₂ (λ s t. both s t q.less) (folded_asks a c k) (folded_asks b d g)

pub part_folded : (f h : Form) (p : Part) → FoldsTo f h → IsPartOf (Tree.formula h) p → IsPartOf (Tree.formula f) p
part_folded f h p k i = record { asks = i.asks ∙ ap valued (folded_asks f h k); ready = i.ready }
