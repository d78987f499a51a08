-- Laws of sequences of productions: how a text is taken apart from its first token on.
use Rattle.heyvl_syntax.specs.Productions.{AreSemis, IsNothing, IsOne, at, ◌or◌, ◌then◌}
use Rattle.heyvl_syntax.specs.declared.marks.Mark.TheVariants as marks
use Rattle.heyvl_syntax.specs.declared.tokens.Token.{Token}
use Rattle.heyvl_syntax.specs.declared.tokens.TokenKind.TheVariants as kinds
use Rattle.heyvl_syntax.specs.declared.tokens.TokenKind.{TokenKind}
use Rattle.std.proofs.Common.{List, [], ap, inl, inr, refl, subst, sym, ◌++◌, ◌∙◌, ◌∷◌, ◌≡◌, ◌⊎◌}
use Rattle.std.proofs.lemmas.List.{append_assoc}

-- Productions are replaced by weaker ones.
pub then_map : (P P' Q Q' : List Token → Type 0) (ts : List Token) → ((xs : List Token) → P xs → P' xs) → ((xs : List Token) → Q xs → Q' xs) →
    (P then Q) ts → (P' then Q') ts
then_map P P' Q Q' ts left right (xs, ys, p, q, e) = (xs, ys, left xs p, right ys q, e)

pub then_assoc : (P Q R : List Token → Type 0) (ts : List Token) → ((P then Q) then R) ts → (P then Q then R) ts
then_assoc P Q R ts (xs, ys, (us, vs, p, q, d), r, e) = (us, vs ++ ys, p, (vs, ys, q, r, refl), e ∙ ap (λ z. z ++ ys) d ∙ append_assoc us vs ys)

pub nothing_then : (P : List Token → Type 0) (ts : List Token) → (IsNothing then P) ts → P ts
nothing_then P ts (xs, ys, n, p, e) = subst P (sym (e ∙ ap (λ z. z ++ ys) n)) p

rest : List Token → List Token
rest [] = []
rest (t ∷ ts) = ts

first : Token → List Token → Token
first t [] = t
first t (u ∷ us) = u

-- The first token has the given kind, and the other tokens spell the rest.
pub one_then : (kind : TokenKind) (P : List Token → Type 0) (t : Token) (ts : List Token) → (IsOne kind then P) (t ∷ ts) → (t.kind ≡ kind) × P ts
unfolding first rest
one_then kind P t ts (xs, ys, (s, one), p, e) =
    let all : t ∷ ts ≡ at kind s ∷ ys = e ∙ ap (λ z. z ++ ys) one in
    (ap (λ z. (first t z).kind) all, subst P (sym (ap rest all)) p)

-- The first token is a semicolon, or the tokens spell the rest.
pub semis_then : (P : List Token → Type 0) (t : Token) (ts : List Token) → (AreSemis then P) (t ∷ ts) → (t.kind ≡ kinds.Mark marks.Semi) ⊎ P (t ∷ ts)
unfolding first
semis_then P t ts ([], ys, semis, p, e) = inr (subst P (sym e) p)
semis_then P t ts (x ∷ xs, ys, semis, p, e) = inl (ap (λ z. (first t z).kind) e ∙ semis.0)

pub or_then : (P Q R : List Token → Type 0) (ts : List Token) → ((P or Q) then R) ts → (P then R) ts ⊎ (Q then R) ts
or_then P Q R ts (xs, ys, inl p, r, e) = inl (xs, ys, p, r, e)
or_then P Q R ts (xs, ys, inr q, r, e) = inr (xs, ys, q, r, e)
