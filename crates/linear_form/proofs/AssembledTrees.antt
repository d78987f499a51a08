-- Trees of comparisons, assembled part by part.
use Rattle.std.proofs.Common.{◌≡◌, refl, sym, ap, ap₂, ◌∙◌, Bool}
use Rattle.linear_form.specs.Query.{Query, next}
use Rattle.linear_form.specs.Query.Query.{done, bits, ask}
use Rattle.linear_values.specs.Lin.{Linear}
use Rattle.linear_form.specs.Questions.{both}
use Rattle.linear_form.specs.internal.Outcomes.{Result, valued, told, of_number, of_bool}
use Rattle.linear_form.specs.internal.Evaluations.{ended}

pub next_cong : {A B : Type 0} (q : Query A) (f g : A → Query B) → ((a : A) → f a ≡ g a) → next q f ≡ next q g
next_cong (done a) f g h = h a
next_cong bits f g h = refl
next_cong (ask q y n) f g h = ap₂ (ask q) (next_cong y f g h) (next_cong n f g h)

pub next_assoc : {A B C : Type 0} (q : Query A) (f : A → Query B) (g : B → Query C) → next (next q f) g ≡ next q (λ a. next (f a) g)
next_assoc (done a) f g = refl
next_assoc bits f g = refl
next_assoc (ask q y n) f g = ap₂ (ask q) (next_assoc y f g) (next_assoc n f g)

pub of_values : (q r : Query Linear) (f : Linear → Linear → Query Result) → next (valued q) (λ x. next (valued r) (λ y. of_number (λ a. of_number (f a) y) x)) ≡ both q r f
of_values q r f = next_assoc q _ _ ∙ next_cong q _ _ (λ x. next_assoc r _ _)

pub one_valued : (q : Query Linear) (f : Linear → Query Linear) → valued (next q f) ≡ next (valued q) (of_number (λ x. valued (f x)))
one_valued q f = next_assoc q f _ ∙ sym (next_assoc q _ _)

pub two_valued : (q r : Query Linear) (f : Linear → Linear → Query Linear) → valued (both q r f) ≡ next (valued q) (λ x. next (valued r) (λ y. of_number (λ a. of_number (λ b. valued (f a b)) y) x))
two_valued q r f = next_assoc q _ _ ∙ next_cong q _ _ (λ x. next_assoc r (f x) _) ∙ sym (of_values q r (λ x y. valued (f x y)))

pub two_told : (q r : Query Linear) (f : Linear → Linear → Query Bool) → told (both q r f) ≡ next (valued q) (λ x. next (valued r) (λ y. of_number (λ a. of_number (λ b. told (f a b)) y) x))
two_told q r f = next_assoc q _ _ ∙ next_cong q _ _ (λ x. next_assoc r (f x) _) ∙ sym (of_values q r (λ x y. told (f x y)))

pub truth_valued : (q : Query Bool) (f : Bool → Query Linear) → valued (next q f) ≡ next (told q) (of_bool (λ t. valued (f t)))
truth_valued q f = next_assoc q f _ ∙ sym (next_assoc q _ _)

pub truth_told : (q : Query Bool) (f : Bool → Query Bool) → told (next q f) ≡ next (told q) (of_bool (λ t. told (f t)))
truth_told q f = next_assoc q f _ ∙ sym (next_assoc q _ _)

pub all_asked : (q r : Query Linear) → next (next (valued q) (λ x. next (valued r) (λ y. of_number (λ a. of_number (λ b. done (Result.ends (a, b))) y) x))) ended ≡ both q r (λ x y. done (x, y))
all_asked q r = ap (λ t. next t ended) (of_values q r (λ x y. done (Result.ends (x, y)))) ∙ next_assoc q _ ended ∙ next_cong q _ _ (λ x. next_assoc r _ ended)
