-- Tokens are in order without overlap, and the bytes of their spans spell them.
use Rattle.heyvl_syntax.proofs.FrontIs.{front-inside, longest_some}
use Rattle.heyvl_syntax.proofs.SmallLiterals.{literal_in_limits}
use Rattle.heyvl_syntax.specs.Literals.{IsInLimits}
use Rattle.heyvl_syntax.specs.TokenLaws.{HasSmallLiteral, StandInOrder}
use Rattle.heyvl_syntax.specs.Tokens.{IsPart, IsToken, Lexes, Part, Splits, comment, is_beyond_limits, token, tokens_of, white}
use Rattle.heyvl_syntax.specs.internal.Found as fronts
use Rattle.heyvl_syntax.specs.declared.literals.Lit.{Lit}
use Rattle.heyvl_places.specs.declared.spans.Span.{Span}
use Rattle.heyvl_syntax.specs.declared.tokens.Token.{Token}
use Rattle.heyvl_syntax.specs.declared.tokens.TokenKind.TheVariants as kinds
use Rattle.heyvl_syntax.specs.declared.tokens.TokenKind.{TokenKind}
use Rattle.std.proofs.Common.{List, [], arith, drop, false, inl, inr, length, slice_range, subst, sym, take, ◌+◌, ◌-◌, ◌<◌, ◌∷◌, ◌≡◌, ◌≤◌, ℕ}
use Rattle.std.proofs.lemmas.List.{drop-drop, length-drop}

-- From the place of any part on.
small_literal : (kind : TokenKind) (text rest : List ℕ) → IsToken kind text rest → is_beyond_limits kind text ≡ false → HasSmallLiteral kind
small_literal (kinds.Word name) text rest t h = tt
small_literal (kinds.Number lit) text rest t h = subst (λ (l : Lit). IsInLimits l) (sym t.0) (literal_in_limits text t.1 h)
small_literal (kinds.Key key) text rest t h = tt
small_literal (kinds.Mark mark) text rest t h = tt

stand_later : (early late : ℕ) (bytes : List ℕ) (tokens : List Token) → early ≤ late → StandInOrder late bytes tokens → StandInOrder early bytes tokens
stand_later early late bytes [] h s = omega (arith, s)
stand_later early late bytes (t ∷ ts) h (place, some, is, small, rest) = (omega (arith, place), some, is, small, rest)

token_stands : (place n : ℕ) (bytes : List ℕ) (t : Token) (ts : List Token) → IsPart place (drop place bytes) (token t) n → StandInOrder (place + n) bytes ts → StandInOrder place bytes (t ∷ ts)
token_stands place n bytes t ts (c, longest, limits, span) rest =
    let width : place + n - place ≡ n = omega arith in
    let behind : drop n (drop place bytes) ≡ drop (place + n) bytes = drop-drop n place bytes in
    let some = longest_some (drop place bytes) t.kind n longest in
    let is : IsToken t.kind (slice_range bytes place (place + n)) (drop (place + n) bytes) = rw (width, ← behind) longest.token.1 in
    let small = small_literal t.kind (take n (drop place bytes)) (drop n (drop place bytes)) longest.token.1 limits in
    subst (λ (s : Span). (place ≤ s.from) × (s.from < s.to) × IsToken t.kind (slice_range bytes s.from s.to) (drop s.to bytes) × HasSmallLiteral t.kind × StandInOrder s.to bytes ts) (sym span) (omega arith, omega arith, is, small, rest)

pub part_le : (place : ℕ) (bytes : List ℕ) (p : Part) (n : ℕ) → IsPart place bytes p n → n ≤ length bytes
part_le place bytes white n s = (front-inside bytes (fronts.Blank n) (inl s)).1
part_le place bytes comment n s = (front-inside bytes (fronts.Blank n) (inr s)).1
part_le place bytes (token t) n s = s.1.token.0

part_stands : (place n : ℕ) (bytes : List ℕ) (p : Part) (ps : List Part) → IsPart place (drop place bytes) p n → StandInOrder (place + n) bytes (tokens_of ps) → StandInOrder place bytes (tokens_of (p ∷ ps))
part_stands place n bytes white ps here rest = stand_later place (place + n) bytes (tokens_of ps) (omega arith) rest
part_stands place n bytes comment ps here rest = stand_later place (place + n) bytes (tokens_of ps) (omega arith) rest
part_stands place n bytes (token t) ps here rest = token_stands place n bytes t (tokens_of ps) here rest

in_order : (place : ℕ) (bytes : List ℕ) (parts : List Part) → place ≤ length bytes → Splits place (drop place bytes) parts → StandInOrder place bytes (tokens_of parts)
in_order place bytes [] h s = h
in_order place bytes (p ∷ ps) h (n, here, later) =
    let le = part_le place (drop place bytes) p n here in
    let within : place + n ≤ length bytes = omega (arith, length-drop place bytes) in
    let behind : Splits (place + n) (drop (place + n) bytes) ps = subst (λ (z : List ℕ). Splits (place + n) z ps) (drop-drop n place bytes) later in
    part_stands place n bytes p ps here (in_order (place + n) bytes ps within behind)

pub stand_in_order : (bytes : List ℕ) (tokens : List Token) → Lexes 0 bytes tokens → StandInOrder 0 bytes tokens
stand_in_order bytes tokens lexes = subst (λ (ts : List Token). StandInOrder 0 bytes ts) lexes.are_tokens (in_order 0 bytes lexes.parts (omega arith) lexes.splits)

few : (place : ℕ) (bytes : List ℕ) (tokens : List Token) → StandInOrder place bytes tokens → place + length tokens ≤ length bytes
few place bytes [] s = omega (arith, s)
few place bytes (t ∷ ts) (at, some, is, small, rest) = omega (arith, at, some, few t.span.to bytes ts rest)

pub tokens_few : (bytes : List ℕ) (tokens : List Token) → Lexes 0 bytes tokens → length tokens ≤ length bytes
tokens_few bytes tokens lexes = omega (arith, few 0 bytes tokens (stand_in_order bytes tokens lexes))
