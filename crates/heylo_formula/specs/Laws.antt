-- Laws of forms: what a value depends on, and that renaming and substitution are changes of the
-- state.
use Rattle.std.specs.Prelude.{◌≡◌, ℕ, false}
use Rattle.heylo_formula.specs.Formula.{Form, Cond, Term}
use Rattle.heylo_formula.specs.Variables.{is_free, is_free_in, occurs, occurs_in}
use Rattle.heylo_formula.specs.State.{Env, put}
use Rattle.heylo_formula.specs.Choices.{Choices}
use Rattle.heylo_formula.specs.Meaning.{value, holds, term_value}
use Rattle.heylo_formula.specs.Binders.{has_binder, has_binder_in, IsPlain}
use Rattle.heylo_formula.specs.Substitution.{renamed, renamed_in, subst, subst_in, fresh, IsFresh}
use Rattle.heylo_formula.specs.declared.values.Val.{Val}

-- The value of a form does not depend on a variable that is not free in it.
abbrev pub ValuesIgnoreOthers : Type 0
ValuesIgnoreOthers = (x : ℕ) (f : Form) (v : Val) (s : Env) (c : Choices) → is_free x f ≡ false
    → value f (put x v s) c ≡ value f s c

-- Whether a condition holds does not depend on a variable that is not free in it.
abbrev pub TruthIgnoresOthers : Type 0
TruthIgnoresOthers = (x : ℕ) (g : Cond) (v : Val) (s : Env) (c : Choices) → is_free_in x g ≡ false
    → holds g (put x v s) c ≡ holds g s c

-- The value of a form without binders does not depend on choices.
abbrev pub ValuesIgnoreChoices : Type 0
ValuesIgnoreChoices = (f : Form) (s : Env) (c : Choices) → has_binder f ≡ false
    → value f s c ≡ value f s Choices.stop

-- Whether a condition without binders holds does not depend on choices.
abbrev pub TruthIgnoresChoices : Type 0
TruthIgnoresChoices = (g : Cond) (s : Env) (c : Choices) → has_binder_in g ≡ false
    → holds g s c ≡ holds g s Choices.stop

-- A form in which `y` is renamed to a variable `z` that does not occur in it has the value of the
-- form in the state in which `y` has the value of `z`.
abbrev pub RenamingKeepsValues : Type 0
RenamingKeepsValues = (y z : ℕ) (f : Form) (s : Env) (c : Choices) → occurs z f ≡ false
    → value (renamed y z f) s c ≡ value f (put y (s z) s) c

-- A condition in which `y` is renamed to a variable `z` that does not occur in it holds if and only
-- if the condition holds in the state in which `y` has the value of `z`.
abbrev pub RenamingKeepsTruth : Type 0
RenamingKeepsTruth = (y z : ℕ) (g : Cond) (s : Env) (c : Choices) → occurs_in z g ≡ false
    → holds (renamed_in y z g) s c ≡ holds g (put y (s z) s) c

-- The variable that a binder takes is the least unused one.
abbrev pub FreshIsLeast : Type 0
FreshIsLeast = (a : Form) (t : Term) → IsFresh a t (fresh a t)

-- After a plain term is substituted for a variable, a form has its value in the state in which the
-- variable has the value of the term, for all choices.
abbrev pub SubstitutionChangesState : Type 0
SubstitutionChangesState = (x : ℕ) (t : Term) (f : Form) (s : Env) (c : Choices) → IsPlain t
    → value (subst x t f) s c ≡ value f (put x (term_value t s) s) c

-- After a plain term is substituted for a variable, a condition holds if and only if it holds in
-- the state in which the variable has the value of the term, for all choices.
abbrev pub SubstitutionChangesStateOfTruth : Type 0
SubstitutionChangesStateOfTruth = (x : ℕ) (t : Term) (g : Cond) (s : Env) (c : Choices) → IsPlain t
    → holds (subst_in x t g) s c ≡ holds g (put x (term_value t s) s) c
