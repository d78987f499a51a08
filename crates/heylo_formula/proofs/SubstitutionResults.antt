-- The result of a successful substitution has the value of the form in the changed state.
use Rattle.std.proofs.Common.{◌≡◌, ℕ, ap, ◌∙◌}
use Rattle.std.specs.Prelude.{Result, Ok, Err, IfOk}
use Rattle.std.specs.declared.alloc.AllocError.{AllocError}
use Rattle.heylo_formula.specs.declared.forms.Form as F
use Rattle.heylo_formula.specs.declared.forms.Cond as C
use Rattle.heylo_formula.specs.Formula.{Form, Cond, Term}
use Rattle.heylo_formula.specs.PlainTrees.{form_of, cond_of}
use Rattle.heylo_formula.specs.State.{Env, put}
use Rattle.heylo_formula.specs.Choices.{Choices}
use Rattle.heylo_formula.specs.Meaning.{value, holds, term_value}
use Rattle.heylo_formula.specs.Binders.{IsPlain}
use Rattle.heylo_formula.specs.Substitution.{subst, subst_in}
use Rattle.heylo_formula.proofs.SubstitutionValues.{subst_value, subst_value_in}

pub given_value : (x : ℕ) (t : Term) (f : Form) (r : Result F.Form AllocError) → IfOk r (λ z. form_of z ≡ subst x t f) → IfOk r (λ z. IsPlain t → (s : Env) (c : Choices) → value (form_of z) s c ≡ value f (put x (term_value t s) s) c)
given_value x t f (Ok z) h = λ p s c. ap (λ g. value g s c) h ∙ subst_value x t f s c p
given_value x t f (Err e) h = h

pub given_truth : (x : ℕ) (t : Term) (f : Cond) (r : Result C.Cond AllocError) → IfOk r (λ z. cond_of z ≡ subst_in x t f) → IfOk r (λ z. IsPlain t → (s : Env) (c : Choices) → holds (cond_of z) s c ≡ holds f (put x (term_value t s) s) c)
given_truth x t f (Ok z) h = λ p s c. ap (λ g. holds g s c) h ∙ subst_value_in x t f s c p
given_truth x t f (Err e) h = h
