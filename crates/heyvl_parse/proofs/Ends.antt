-- The end of the last token of a text.
use Rattle.heyvl_parse.specs.readers.ReadParts.{end_of}
use Rattle.heyvl_places.specs.declared.spans.Span.{Span}
use Rattle.heyvl_syntax.specs.Expressions.{Expression}
use Rattle.heyvl_syntax.specs.Grammar.{IsExpr}
use Rattle.heyvl_syntax.specs.Productions.{IsAt, IsOne, extent, last_end, ◌then◌}
use Rattle.heyvl_syntax.specs.declared.tokens.Token.{Token}
use Rattle.heyvl_syntax.specs.declared.tokens.TokenKind.{TokenKind}
use Rattle.std.proofs.Common.{List, [], ap, arith, length, length-append, refl, sym, ◌++◌, ◌<◌, ◌∙◌, ◌∷◌, ◌≡◌, ℕ}

abbrev pub LastIs : List Token → ℕ → Type 0
LastIs ts end = (0 < length ts) × (last_end ts ≡ end)

last_append : (front back : List Token) → 0 < length back → last_end (front ++ back) ≡ last_end back
last_append [] back h = refl
last_append (t ∷ []) [] h = absurd (omega arith)
last_append (t ∷ []) (u ∷ back) h = refl
last_append (t ∷ u ∷ front) back h = last_append (u ∷ front) back h

pub last_then : (ts front back : List Token) (end : ℕ) → ts ≡ front ++ back → LastIs back end → LastIs ts end
last_then ts front back end e (some, last) =
    (omega (arith, ap length e, length-append front back), ap last_end e ∙ last_append front back some ∙ last)

pub last_one : (kind : TokenKind) (s : Span) (ts : List Token) → IsAt kind s ts → LastIs ts s.to
last_one kind s ts e = (omega (arith, ap length e), ap last_end e)

some_one : (kind : TokenKind) (ts : List Token) → IsOne kind ts → 0 < length ts
some_one kind ts (s, e) = omega (arith, ap length e)

some_then : (kind : TokenKind) (Q : List Token → Type 0) (ts : List Token) → (IsOne kind then Q) ts → 0 < length ts
some_then kind Q ts (front, back, (s, h), q, e) = omega (arith, ap length e, ap length h, length-append front back)

whole_end : (s : Span) (ts : List Token) → 0 < length ts → s ≡ extent ts → LastIs ts s.to
whole_end s ts some e = (some, sym (ap (λ z. z.to) e))

-- The last token of an expression ends at the `end_of` of its tree.
pub last_of : (t : Expression) (k : ℕ) (ts : List Token) → IsExpr t k ts → LastIs ts (end_of t)
last_of (Expression.number n s) k ts (h, e) = whole_end s ts (some_one _ ts h) e
last_of (Expression.truth b s) k ts (h, e) = whole_end s ts (some_one _ ts h) e
last_of (Expression.infinity s) k ts (h, e) = whole_end s ts (some_one _ ts h) e
last_of (Expression.name x s) k ts (h, e) = whole_end s ts (some_one _ ts h) e
last_of (Expression.group a s) k ts (h, e) = whole_end s ts (some_then _ _ ts h) e
last_of (Expression.bracket a s) k ts (h, e) = whole_end s ts (some_then _ _ ts h) e
last_of (Expression.embed a s) k ts (h, e) = whole_end s ts (some_then _ _ ts h) e
last_of (Expression.unary op a s) k ts (h, e) = whole_end s ts (some_then _ _ ts h) e
last_of (Expression.choice a b c s) k ts (h, e) = whole_end s ts (some_then _ _ ts h) e
last_of (Expression.bound up x t a s) k ts (within, h, e) = whole_end s ts (some_then _ _ ts h) e
last_of (Expression.binary op a b s) k ts (within, (left, behind, ha, (sign, right, hs, hb, e2), e)) =
    last_then ts left behind _ e (last_then behind sign right _ e2 (last_of b _ right hb))

pub ends_with : (ts rest : List Token) (t : Token) → ts ≡ rest ++ (t ∷ []) → last_end ts ≡ t.span.to
ends_with ts rest t e = ap last_end e ∙ last_append rest (t ∷ []) (omega arith)

pub ends_nowhere : (ts : List Token) → length ts ≡ 0 → last_end ts ≡ 0
ends_nowhere [] e = refl
ends_nowhere (t ∷ ts) e = absurd (omega arith)
