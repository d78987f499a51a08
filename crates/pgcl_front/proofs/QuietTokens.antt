-- The tokens of a program without reserved names and quantifiers, and the expressions that they
-- spell.
use Rattle.heyvl_syntax.specs.Expressions.{Expression}
use Rattle.heyvl_syntax.specs.Grammar.{IsExpr, IsType, operator, prefix, quantifier_key, ranks}
use Rattle.heyvl_syntax.specs.Productions.{IsAt, IsKey, IsMark, IsName, ◌then◌}
use Rattle.heyvl_syntax.specs.declared.keys.Key.TheVariants as keys
use Rattle.heyvl_syntax.specs.declared.marks.Mark.TheVariants as marks
use Rattle.heyvl_syntax.specs.declared.tokens.Token.{Token}
use Rattle.heyvl_syntax.specs.declared.tokens.TokenKind.TheVariants as kinds
use Rattle.guarded_commands.specs.Grammar.{is_quantifier, quantifier_count}
use Rattle.guarded_commands.specs.ReservedNames.{IsReservedAt, is_made}
use Rattle.std.proofs.Common.{Bool, List, [], ap, arith, cond, false, refl, subst, suc, sym, true, ◌++◌, ◌+◌, ◌∙◌, ◌∷◌, ◌≡◌, ℕ}
use Rattle.std.proofs.lemmas.List.Sums.{sum_by-cons}
use Rattle.std.proofs.lemmas.List.{drop-drop}
use Rattle.std.specs.Prelude.{drop}

-- The name does not begin like the names that the translation makes.
abbrev pub IsPlain : List ℕ → Type 0
IsPlain x = is_made (kinds.Word x) ≡ false

-- The expression has no quantifier, and its names are plain.
abbrev pub IsQuiet : Expression → Type 0
IsQuiet (Expression.number n s) = Unit {0}
IsQuiet (Expression.truth b s) = Unit {0}
IsQuiet (Expression.infinity s) = Unit {0}
IsQuiet (Expression.name x s) = IsPlain x
IsQuiet (Expression.group a s) = IsQuiet a
IsQuiet (Expression.bracket a s) = IsQuiet a
IsQuiet (Expression.embed a s) = IsQuiet a
IsQuiet (Expression.unary op a s) = IsQuiet a
IsQuiet (Expression.binary op a b s) = IsQuiet a × IsQuiet b
IsQuiet (Expression.choice a b c s) = IsQuiet a × (IsQuiet b × IsQuiet c)
IsQuiet (Expression.bound up x t a s) = ⊥

-- No token is a quantifier or a name like those of the translation.
abbrev pub AreQuiet : List Token → Type 0
AreQuiet [] = Unit {0}
AreQuiet (t ∷ ts) = ((is_made t.kind ≡ false) × (is_quantifier t.kind ≡ false)) × AreQuiet ts

quiet_parts : (xs ys : List Token) → AreQuiet (xs ++ ys) → AreQuiet xs × AreQuiet ys
quiet_parts [] ys q = (tt, q)
quiet_parts (x ∷ xs) ys q = let more = quiet_parts xs ys q.1 in ((q.0, more.0), more.1)

pub record Quiet (P : List Token → Type 0) : Type 0 where
  pub text : List Token
  pub is : P text
  pub quiet : AreQuiet text

pub front_of : (P Q : List Token → Type 0) (ts : List Token) → (P then Q) ts → AreQuiet ts → Quiet P
front_of P Q ts h q = record { text = h.0; is = h.2; quiet = (quiet_parts h.0 h.1 (subst (λ (z : List Token). AreQuiet z) h.4 q)).0 }

pub back_of : (P Q : List Token → Type 0) (ts : List Token) → (P then Q) ts → AreQuiet ts → Quiet Q
back_of P Q ts h q = record { text = h.1; is = h.3; quiet = (quiet_parts h.0 h.1 (subst (λ (z : List Token). AreQuiet z) h.4 q)).1 }

pub plain_name : (x : List ℕ) (ts : List Token) → IsName x ts → AreQuiet ts → IsPlain x
plain_name x ts h q = (subst (λ (z : List Token). AreQuiet z) h.1 q).0.0

no_quantifier : (up : Bool) (ts : List Token) → IsKey (quantifier_key up) ts → AreQuiet ts → ⊥
no_quantifier true ts h q = let e = (subst (λ (z : List Token). AreQuiet z) h.1 q).0.1 in absurd (cc)
no_quantifier false ts h q = let e = (subst (λ (z : List Token). AreQuiet z) h.1 q).0.1 in absurd (cc)

pub quiet_expression : (e : Expression) (k : ℕ) (ts : List Token) → IsExpr e k ts → AreQuiet ts → IsQuiet e
quiet_expression (Expression.number n s) k ts h q = tt
quiet_expression (Expression.truth b s) k ts h q = tt
quiet_expression (Expression.infinity s) k ts h q = tt
quiet_expression (Expression.name x s) k ts h q = plain_name x ts h.0 q
quiet_expression (Expression.group a s) k ts h q =
    let rest = back_of (IsMark marks.ParenLeft) (IsExpr a 9 then IsMark marks.ParenRight) ts h.0 q in
    let inner = front_of (IsExpr a 9) (IsMark marks.ParenRight) rest.text rest.is rest.quiet in
    quiet_expression a 9 inner.text inner.is inner.quiet
quiet_expression (Expression.bracket a s) k ts h q =
    let rest = back_of (IsMark marks.BracketLeft) (IsExpr a 9 then IsMark marks.BracketRight) ts h.0 q in
    let inner = front_of (IsExpr a 9) (IsMark marks.BracketRight) rest.text rest.is rest.quiet in
    quiet_expression a 9 inner.text inner.is inner.quiet
quiet_expression (Expression.embed a s) k ts h q =
    let behind = back_of (IsMark marks.Question) (IsMark marks.ParenLeft then IsExpr a 9 then IsMark marks.ParenRight) ts h.0 q in
    let rest = back_of (IsMark marks.ParenLeft) (IsExpr a 9 then IsMark marks.ParenRight) behind.text behind.is behind.quiet in
    let inner = front_of (IsExpr a 9) (IsMark marks.ParenRight) rest.text rest.is rest.quiet in
    quiet_expression a 9 inner.text inner.is inner.quiet
quiet_expression (Expression.unary op a s) k ts h q =
    let inner = back_of (IsMark (prefix op)) (IsExpr a 0) ts h.0 q in
    quiet_expression a 0 inner.text inner.is inner.quiet
quiet_expression (Expression.binary op a b s) k ts h q =
    let left = front_of (IsExpr a (ranks op).left) (IsAt (operator op) s then IsExpr b (ranks op).right) ts h.1 q in
    let rest = back_of (IsExpr a (ranks op).left) (IsAt (operator op) s then IsExpr b (ranks op).right) ts h.1 q in
    let right = back_of (IsAt (operator op) s) (IsExpr b (ranks op).right) rest.text rest.is rest.quiet in
    (quiet_expression a (ranks op).left left.text left.is left.quiet, quiet_expression b (ranks op).right right.text right.is right.quiet)
quiet_expression (Expression.choice a b c s) k ts h q =
    let r1 = back_of (IsKey keys.Ite) (IsMark marks.ParenLeft then IsExpr a 9 then IsMark marks.Comma then IsExpr b 9 then IsMark marks.Comma then IsExpr c 9 then IsMark marks.ParenRight) ts h.0 q in
    let r2 = back_of (IsMark marks.ParenLeft) (IsExpr a 9 then IsMark marks.Comma then IsExpr b 9 then IsMark marks.Comma then IsExpr c 9 then IsMark marks.ParenRight) r1.text r1.is r1.quiet in
    let first = front_of (IsExpr a 9) (IsMark marks.Comma then IsExpr b 9 then IsMark marks.Comma then IsExpr c 9 then IsMark marks.ParenRight) r2.text r2.is r2.quiet in
    let r3 = back_of (IsExpr a 9) (IsMark marks.Comma then IsExpr b 9 then IsMark marks.Comma then IsExpr c 9 then IsMark marks.ParenRight) r2.text r2.is r2.quiet in
    let r4 = back_of (IsMark marks.Comma) (IsExpr b 9 then IsMark marks.Comma then IsExpr c 9 then IsMark marks.ParenRight) r3.text r3.is r3.quiet in
    let second = front_of (IsExpr b 9) (IsMark marks.Comma then IsExpr c 9 then IsMark marks.ParenRight) r4.text r4.is r4.quiet in
    let r5 = back_of (IsExpr b 9) (IsMark marks.Comma then IsExpr c 9 then IsMark marks.ParenRight) r4.text r4.is r4.quiet in
    let r6 = back_of (IsMark marks.Comma) (IsExpr c 9 then IsMark marks.ParenRight) r5.text r5.is r5.quiet in
    let third = front_of (IsExpr c 9) (IsMark marks.ParenRight) r6.text r6.is r6.quiet in
    (quiet_expression a 9 first.text first.is first.quiet, (quiet_expression b 9 second.text second.is second.quiet, quiet_expression c 9 third.text third.is third.quiet))
quiet_expression (Expression.bound up x ty a s) k ts h q =
    let key = front_of (IsKey (quantifier_key up)) (IsName x then IsMark marks.Colon then IsType ty then IsMark marks.Dot then IsExpr a 9) ts h.1 q in
    absurd (no_quantifier up key.text key.is key.quiet)

-- ---- Tokens that are not reserved

one_more : (n : ℕ) → suc n ≡ n + 1
one_more n = omega arith

both_none : (b : Bool) (n : ℕ) → cond b 1 0 + n ≡ 0 → (b ≡ false) × (n ≡ 0)
both_none true n e = absurd (omega (arith, e))
both_none false n e = (refl, omega (arith, e))

module _ (n : ℕ) (all : List Token) (unreserved : (i : ℕ) → IsReservedAt n all i → ⊥) where
  not_made : (b : Bool) (t : Token) (more : List Token) (k : ℕ) → is_made t.kind ≡ b → drop k all ≡ t ∷ more → is_made t.kind ≡ false
  not_made true t more k m e = absurd (unreserved k (record { token = t; more = more; stands = e; reserved = rw m refl }))
  not_made false t more k m e = m

  pub quiet_from : (ts : List Token) (k : ℕ) → drop k all ≡ ts → quantifier_count ts ≡ 0 → AreQuiet ts
  quiet_from [] k e none = tt
  quiet_from (t ∷ ts) k e none =
      let c = both_none (is_quantifier t.kind) (quantifier_count ts) (sym (sum_by-cons (λ (u : Token). cond (is_quantifier u.kind) 1 0) t ts) ∙ none) in
      ((not_made (is_made t.kind) t ts k refl e, c.0), quiet_from ts (suc k) (ap (λ (n : ℕ). drop n all) (one_more k) ∙ (sym (drop-drop 1 k all) ∙ ap (λ (z : List Token). drop 1 z) e)) c.1)
