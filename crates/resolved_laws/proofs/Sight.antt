-- The formulas, conditions and terms of expressions read only visible variables.
use Rattle.heylo_formula.specs.Variables.{is_free, is_free_in}
use Rattle.heyvl_acts.specs.Visible.{Sees, SeesCond, SeesTerm, Visible, among}
use Rattle.heyvl_syntax.specs.Expressions.{Expression}
use Rattle.std.proofs.Common.{Bool, List, None, Option, Some, [], ap, arith, false, refl, true, ◌==◌, ◌∙◌, ◌≡◌, ◌∷◌, ℕ}
use Rattle.std.proofs.lemmas.Bool.{ne_eqb, or_left, or_right}
use Rattle.std.specs.Prelude.{if◌then◌else◌, ◌||◌}
use Rattle.std.specs.Str.{bytes_eq}
use Rattle.typed_expressions.proofs.exported.Free.{IsHidden, IsWithout, becomes_without}
use Rattle.typed_expressions.proofs.exported.TypedMeanings.{some_is}
use Rattle.typed_expressions.specs.Scopes.{Scope, find, numbers}
use Rattle.typed_expressions.specs.Table.{Meaning}
use Rattle.typed_expressions.specs.TypedExpressions.{elaborate}
use Rattle.typed_expressions.specs.Values.{condition, form, term}
use Rattle.typed_expressions.specs.declared.scopes.Local.{Local}

same_number : (n : ℕ) → (n == n) ≡ true
same_number n = grind arith

pub found_among : (sc : Scope) (x : List ℕ) (l : Local) → find sc x ≡ Some l → among (numbers sc) l.number ≡ true
found_among [] x l e = absurd (cc)
found_among (f ∷ fs) x l e = go (bytes_eq x f.0) (found_among fs x l) e
  where
    go : (b : Bool) → (find fs x ≡ Some l → among (numbers fs) l.number ≡ true) → (if b then Some f.1 else find fs x) ≡ Some l → ((f.1.number == l.number) || among (numbers fs) l.number) ≡ true
    go true r h = or_left _ _ (ap (λ k. k.number == l.number) (some_is f.1 l h) ∙ same_number l.number)
    go false r h = or_right _ _ (r h)

-- No name finds a variable that is not in the scope.
hidden : (sc : Scope) (y : ℕ) → among (numbers sc) y ≡ false → IsHidden y sc
hidden sc y h x l i = ne_eqb y l.number (λ e. let f = found_among sc x l i in let g = ap (λ k. among (numbers sc) k) e in absurd (cc))

module _ (sc : Scope) (v : Visible) (p : (y : ℕ) → among (numbers sc) y ≡ true → v y ≡ true) where
  seen : (y : ℕ) (free : Bool) → (among (numbers sc) y ≡ false → free ≡ false) → free ≡ true → v y ≡ true
  seen y free q i = go (among (numbers sc) y) refl
    where
      go : (b : Bool) → among (numbers sc) y ≡ b → v y ≡ true
      go true j = p y j
      go false j = let k = q j in absurd (cc)

  -- All free variables of the elaborated expression are in the scope.
  abbrev Within : Option Meaning → Type 0
  Within o = (m : Meaning) → o ≡ Some m → (y : ℕ) → among (numbers sc) y ≡ false → IsWithout y m

  within : (n : ℕ) (e : Expression) → Within (elaborate n sc e)
  within n e m i y h = becomes_without y n sc (hidden sc y h) e m i

  form_seen : (o : Option Meaning) → Within o → Sees v (form o)
  form_seen None q = λ y i. absurd (cc)
  form_seen (Some (Meaning.truth g)) q = λ y i. absurd (cc)
  form_seen (Some (Meaning.number t a)) q = λ y i. seen y (is_free y a) (q (Meaning.number t a) refl y) i
  form_seen (Some Meaning.real) q = λ y i. absurd (cc)

  condition_seen : (o : Option Meaning) → Within o → SeesCond v (condition o)
  condition_seen None q = λ y i. absurd (cc)
  condition_seen (Some (Meaning.truth g)) q = λ y i. seen y (is_free_in y g) (q (Meaning.truth g) refl y) i
  condition_seen (Some (Meaning.number t a)) q = λ y i. absurd (cc)
  condition_seen (Some Meaning.real) q = λ y i. absurd (cc)

  term_seen : (o : Option Meaning) → Within o → SeesTerm v (term o)
  term_seen None q = λ y i. absurd (cc)
  term_seen (Some (Meaning.truth g)) q = λ y i. seen y (is_free_in y g) (q (Meaning.truth g) refl y) i
  term_seen (Some (Meaning.number t a)) q = λ y i. seen y (is_free y a) (q (Meaning.number t a) refl y) i
  term_seen (Some Meaning.real) q = λ y i. absurd (cc)

  pub sees_form : (n : ℕ) (e : Expression) → Sees v (form (elaborate n sc e))
  sees_form n e = form_seen (elaborate n sc e) (within n e)

  pub sees_condition : (n : ℕ) (e : Expression) → SeesCond v (condition (elaborate n sc e))
  sees_condition n e = condition_seen (elaborate n sc e) (within n e)

  pub sees_term : (n : ℕ) (e : Expression) → SeesTerm v (term (elaborate n sc e))
  sees_term n e = term_seen (elaborate n sc e) (within n e)
