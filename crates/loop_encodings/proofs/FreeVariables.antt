-- A property of the free variables of the parts of a generated form holds of those of the form.
use Rattle.std.proofs.Common.{◌≡◌, ◌⊎◌, inl, inr, refl, ℕ, Bool, true, false, cond, ◌==◌, ◌||◌}
use Rattle.heyvl_places.specs.declared.checks.CheckKind.{CheckKind}
use Rattle.heylo_formula.specs.Formula.{Form, Cond, Term}
use Rattle.heylo_formula.specs.Substitution as Replaced
use Rattle.heylo_formula.specs.Variables.{is_free, is_free_in, occurs_in_term}
use Rattle.heylo_formula.specs.declared.types.Ty.{Ty}
use Rattle.vp_generator.specs.GeneratedForms.{check_form, pick_form, validate_form}
use Rattle.loop_encodings.proofs.SubstitutedVariables.{left_free}

-- `P` holds of each free variable.
abbrev pub AllFree : (ℕ → Type 0) → Form → Type 0
AllFree P f = (x : ℕ) → is_free x f ≡ true → P x

abbrev pub AllFreeIn : (ℕ → Type 0) → Cond → Type 0
AllFreeIn P g = (x : ℕ) → is_free_in x g ≡ true → P x

either : {A : Type 0} → (a b : Bool) → (a ≡ true → A) → (b ≡ true → A) → (a || b) ≡ true → A
either true b f g h = f refl
either false b f g h = g h

under : (b free : Bool) → cond b false free ≡ true → (b ≡ false) × (free ≡ true)
under true free h = absurd (cc)
under false free h = (refl, h)

module _ (P : ℕ → Type 0) where
  pub two_free : (a b : Form) → AllFree P a → AllFree P b → AllFree P (Form.sum a b)
  two_free a b h k x i = either (is_free x a) (is_free x b) (h x) (k x) i

  pub select_free : (g : Cond) (a b : Form) → AllFreeIn P g → AllFree P a → AllFree P b → AllFree P (Form.select g a b)
  select_free g a b o h k x i = either (is_free_in x g) (is_free x a || is_free x b) (o x) (two_free a b h k x) i

  pub pick_free : (up : Bool) (a b : Form) → AllFree P a → AllFree P b → AllFree P (pick_form up a b)
  pick_free true a b h k = two_free a b h k
  pick_free false a b h k = two_free a b h k

  pub check_free : (kind : CheckKind) (f k : Form) → AllFree P f → AllFree P k → AllFree P (check_form kind f k)
  check_free CheckKind.Assert f k h i = two_free f k h i
  check_free CheckKind.Assume f k h i = two_free f k h i
  check_free CheckKind.CoAssert f k h i = two_free f k h i
  check_free CheckKind.CoAssume f k h i = two_free f k h i

  pub validate_free : (up : Bool) (k : Form) → AllFree P k → AllFree P (validate_form up k)
  validate_free true k h = h
  validate_free false k h = h

  pub bind_free : (up : Bool) (y name : ℕ) (ty : Ty) (k : Form) → ((x : ℕ) → (x == y) ≡ false → is_free x k ≡ true → P x) → AllFree P (Form.bind up y name ty k)
  bind_free up y name ty k h x i = let p = under (x == y) (is_free x k) i in h x p.0 p.1

  pub subst_free : (y : ℕ) (t : Term) (k : Form) → ((x : ℕ) → (x == y) ≡ false → is_free x k ≡ true → P x) → ((x : ℕ) → occurs_in_term x t ≡ true → P x) → AllFree P (Replaced.subst y t k)
  subst_free y t k h o x i = go (left_free y x t k i)
    where
      go : ((is_free x k ≡ true) × ((x == y) ≡ false)) ⊎ (occurs_in_term x t ≡ true) → P x
      go (inl p) = h x p.1 p.0
      go (inr e) = o x e
