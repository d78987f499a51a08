-- The free variables of an elaborated expression are visible.
use Rattle.heylo_formula.specs.Formula.{Form}
use Rattle.heylo_formula.specs.Typing.{is_unsigned}
use Rattle.heylo_formula.specs.Variables.{IsOver, IsOverIn, is_free, is_free_in}
use Rattle.heylo_formula.specs.declared.types.Ty.{Ty}
use Rattle.heyvl_syntax.specs.Expressions.{Expression}
use Rattle.heyvl_syntax.specs.declared.types.TypeName.{TypeName}
use Rattle.std.proofs.Common.{Bool, List, Some, arith, false, inl, inr, refl, suc, true, ap, ◌<◌, ◌==◌, ◌≡◌, ◌≤◌, ◌⊎◌, ◌∙◌, sym, ℕ}
use Rattle.std.proofs.lemmas.Bool.{cases_lt, ne_eqb}
use Rattle.std.specs.Prelude.{if◌then◌else◌}
use Rattle.typed_expressions.proofs.exported.PartTests.{Fails, Spreads, fails_bracket, fails_choice, fails_embedding, fails_extended, fails_literal, fails_operated, fails_unary}
use Rattle.typed_expressions.proofs.exported.TypedMeanings.{become, found_with, given_some, map_some, never}
use Rattle.typed_expressions.specs.Scopes.{Scope, find, with_local}
use Rattle.typed_expressions.specs.Table.{Meaning, bound, bracket, choice, declarable, embedding, given, quantified, unary, variable, variable_of}
use Rattle.typed_expressions.specs.TypedExpressions.{elaborate, operated}
use Rattle.typed_expressions.specs.declared.scopes.Local.{Local}

module _ (y : ℕ) where
  free_spreads : Spreads (is_free y) (is_free_in y)
  free_spreads = record {
    number = λ v. refl;
    sum = λ a b p q. rw (p, q) refl;
    difference = λ a b p q. rw (p, q) refl;
    cut = λ a b p q. rw (p, q) refl;
    scale = λ w a p. p;
    product = λ a b s p q. rw (p, q) refl;
    min = λ a b p q. rw (p, q) refl;
    max = λ a b p q. rw (p, q) refl;
    imply = λ a b p q. rw (p, q) refl;
    co_imply = λ a b p q. rw (p, q) refl;
    embed = λ g p. p;
    iverson = λ g p. p;
    select = λ g a b p q r. rw (p, q, r) refl;
    constant = λ b. refl;
    not = λ g p. p;
    and = λ g h p q. rw (p, q) refl;
    or = λ g h p q. rw (p, q) refl;
    same = λ g h p q. rw (p, q) refl;
    le = λ a b p q. rw (p, q) refl;
    lt = λ a b p q. rw (p, q) refl;
    equal = λ a b p q. rw (p, q) refl;
    ite = λ g h k p q r. rw (p, q, r) refl;
  }

  -- The variable is not free in the elaborated expression.
  abbrev pub IsWithout : Meaning → Type 0
  IsWithout m = Fails (is_free y) (is_free_in y) m

  -- The variable is not visible.
  abbrev pub IsHidden : Scope → Type 0
  IsHidden sc = (x : List ℕ) (l : Local) → find sc x ≡ Some l → (y == l.number) ≡ false

  without_variable : (t : TypeName) (x : ℕ) → (y == x) ≡ false → IsWithout (variable_of t x)
  without_variable TypeName.Bool x h = h
  without_variable TypeName.Int x h = h
  without_variable TypeName.UInt x h = h
  without_variable TypeName.UReal x h = h
  without_variable TypeName.EUReal x h = h
  without_variable TypeName.Real x h = tt

  without_bound : (n : ℕ) (up : Bool) (ty : Ty) (x m : Meaning) → ((y == n) ≡ false → IsWithout x) → bound up n ty x ≡ Some m → IsWithout m
  without_bound n up ty (Meaning.number t a) m h e = fails_extended (is_free y) (is_free_in y) free_spreads (is_unsigned (Some t)) (Form.bind up n n ty a) (go (y == n) refl) m e
    where
      go : (b : Bool) → (y == n) ≡ b → (if b then false else is_free y a) ≡ false
      go true i = refl
      go false i = h i
  without_bound n up ty (Meaning.truth g) m h e = never m e
  without_bound n up ty Meaning.real m h e = never m e

  hidden_inside : (n : ℕ) (sc : Scope) (x : List ℕ) (t : TypeName) → (y == n) ≡ false → IsHidden sc → IsHidden (with_local x (record { number = n; ty = t }) sc)
  hidden_inside n sc x t i h z l e = go (found_with x _ sc z l e)
    where
      go : (record { number = n; ty = t } ≡ l) ⊎ (find sc z ≡ Some l) → (y == l.number) ≡ false
      go (inl j) = ap (λ l. y == l.number) (sym j) ∙ i
      go (inr j) = h z l j

  pub becomes_without : (n : ℕ) (sc : Scope) → IsHidden sc → (e : Expression) (m : Meaning) → elaborate n sc e ≡ Some m → IsWithout m
  becomes_without n sc h (Expression.number v s) m e = fails_literal (is_free y) (is_free_in y) free_spreads v m e
  becomes_without n sc h (Expression.truth b s) m e = become IsWithout _ m e refl
  becomes_without n sc h (Expression.infinity s) m e = become IsWithout _ m e refl
  becomes_without n sc h (Expression.name x s) m e = let l = map_some (find sc x) variable m e in become IsWithout _ m l.2 (without_variable l.0.ty l.0.number (h x l.0 l.1))
  becomes_without n sc h (Expression.group a s) m e = becomes_without n sc h a m e
  becomes_without n sc h (Expression.bracket a s) m e =
      let x = given_some (elaborate n sc a) bracket m e in fails_bracket (is_free y) (is_free_in y) free_spreads x.0 m (becomes_without n sc h a x.0 x.1) x.2
  becomes_without n sc h (Expression.embed a s) m e =
      let x = given_some (elaborate n sc a) embedding m e in fails_embedding (is_free y) (is_free_in y) free_spreads x.0 m (becomes_without n sc h a x.0 x.1) x.2
  becomes_without n sc h (Expression.unary op a s) m e =
      let x = given_some (elaborate n sc a) (unary op) m e in fails_unary (is_free y) (is_free_in y) free_spreads op x.0 m (becomes_without n sc h a x.0 x.1) x.2
  becomes_without n sc h (Expression.binary op a b s) m e =
      let x = given_some (elaborate n sc a) (λ x. given (elaborate n sc b) (operated op s b x)) m e in
      let z = given_some (elaborate n sc b) (operated op s b x.0) m x.2 in
      fails_operated (is_free y) (is_free_in y) free_spreads op s b x.0 z.0 m (becomes_without n sc h a x.0 x.1) (becomes_without n sc h b z.0 z.1) z.2
  becomes_without n sc h (Expression.choice a b c s) m e =
      let x = given_some (elaborate n sc a) (λ x. given (elaborate n sc b) (λ y. given (elaborate n sc c) (choice x y))) m e in
      let z = given_some (elaborate n sc b) (λ y. given (elaborate n sc c) (choice x.0 y)) m x.2 in
      let w = given_some (elaborate n sc c) (choice x.0 z.0) m z.2 in
      fails_choice (is_free y) (is_free_in y) free_spreads x.0 z.0 w.0 m (becomes_without n sc h a x.0 x.1) (becomes_without n sc h b z.0 z.1) (becomes_without n sc h c w.0 w.1) w.2
  becomes_without n sc h (Expression.bound up x t a s) m e =
      let i = given_some (elaborate (suc n) (with_local x (record { number = n; ty = t }) sc) a) (quantified up n t) m e in
      let d = given_some (declarable t) (λ ty. bound up n ty i.0) m i.2 in
      without_bound n up d.0 i.0 m (λ j. becomes_without (suc n) _ (hidden_inside n sc x t j h) a i.0 i.1) d.2

-- Each visible variable is one of the first `k`.
pub record IsBelow (k : ℕ) (sc : Scope) : Type 0 where
  pub below : (x : List ℕ) (l : Local) → find sc x ≡ Some l → l.number < k

-- Each free variable of the elaborated expression is one of the first `k`.
abbrev pub IsOverMeaning : ℕ → Meaning → Type 0
IsOverMeaning k (Meaning.truth g) = IsOverIn k g
IsOverMeaning k (Meaning.number t a) = IsOver k a
IsOverMeaning k Meaning.real = Unit {0}

pub becomes_over : (k n : ℕ) (sc : Scope) → IsBelow k sc → (e : Expression) (m : Meaning) → elaborate n sc e ≡ Some m → IsOverMeaning k m
becomes_over k n sc h e m i = over m i
  where
    hidden : (y : ℕ) → k ≤ y → IsHidden y sc
    hidden y g x l j = ne_eqb y l.number (λ q. let b = h.below x l j in omega (arith, q))

    over : (m : Meaning) → elaborate n sc e ≡ Some m → IsOverMeaning k m
    over (Meaning.truth g) i = λ y f. go y f (cases_lt y k)
      where
        go : (y : ℕ) → is_free_in y g ≡ true → (y < k) ⊎ (k ≤ y) → y < k
        go y f (inl b) = b
        go y f (inr b) = let w : is_free_in y g ≡ false = becomes_without y n sc (hidden y b) e (Meaning.truth g) i in absurd (cc)
    over (Meaning.number t a) i = λ y f. go y f (cases_lt y k)
      where
        go : (y : ℕ) → is_free y a ≡ true → (y < k) ⊎ (k ≤ y) → y < k
        go y f (inl b) = b
        go y f (inr b) = let w : is_free y a ≡ false = becomes_without y n sc (hidden y b) e (Meaning.number t a) i in absurd (cc)
    over Meaning.real i = tt
