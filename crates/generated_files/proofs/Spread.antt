-- Tokens of given kinds, with places by their index.
use Rattle.heyvl_places.specs.declared.spans.Span.{Span}
use Rattle.heyvl_syntax.specs.Productions.{at}
use Rattle.heyvl_syntax.specs.declared.tokens.Token.{Token}
use Rattle.heyvl_syntax.specs.declared.tokens.TokenKind.{TokenKind}
use Rattle.std.proofs.Common.{List, [], ap, length, map, refl, suc, zero, ◌++◌, ◌∷◌, ◌≡◌, ℕ}

-- The place of each token of a text, by its index.
abbrev pub Spots : Type 0
Spots = ℕ → Span

-- The places after a number of tokens.
abbrev pub behind : ℕ → Spots → Spots
behind zero s = s
behind (suc n) s = behind n (λ j. s (suc j))

-- Tokens of these kinds at these places.
abbrev pub spread : Spots → List TokenKind → List Token
spread s [] = []
spread s (k ∷ ks) = at k (s zero) ∷ spread (λ j. s (suc j)) ks

-- The places of tokens.
abbrev pub spots_of : List Token → Spots
spots_of [] j = record { from = 0; to = 0 }
spots_of (t ∷ ts) zero = t.span
spots_of (t ∷ ts) (suc j) = spots_of ts j

pub spread_all : (ts : List Token) → spread (spots_of ts) (map (λ t. t.kind) ts) ≡ ts
spread_all [] = refl
spread_all (t ∷ ts) = ap (λ (z : List Token). t ∷ z) (spread_all ts)

pub spread_append : (s : Spots) (ks ls : List TokenKind) → spread s (ks ++ ls) ≡ spread s ks ++ spread (behind (length ks) s) ls
spread_append s [] ls = refl
spread_append s (k ∷ ks) ls = ap (λ (z : List Token). at k (s zero) ∷ z) (spread_append (λ j. s (suc j)) ks ls)

-- The place from one token to the end of another.
abbrev pub over : Spots → ℕ → ℕ → Span
over s i j = record { from = (s i).from; to = (s j).to }
