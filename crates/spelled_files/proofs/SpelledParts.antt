-- Consequences of a text of a production whose tokens begin within `n` bytes, from its parts.
use Rattle.heyvl_syntax.specs.Productions.{IsAt, IsEach, IsList, IsList0, IsMore, extent, ◌then◌}
use Rattle.heyvl_syntax.specs.TokenLaws.{StandInOrder}
use Rattle.heyvl_places.specs.declared.spans.Span.{Span}
use Rattle.heyvl_syntax.specs.declared.tokens.Token.{Token}
use Rattle.heyvl_syntax.specs.declared.tokens.TokenKind.{TokenKind}
use Rattle.heyvl_acts.specs.Rules.{Each}
use Rattle.spelled_files.proofs.EachOf.{each_back, each_front}
use Rattle.std.proofs.Common.{List, [], ap, arith, length, subst, ◌++◌, ◌∷◌, ◌≡◌, ◌≤◌, ℕ}

-- ---- Tokens

-- Each token begins within `n` bytes.
abbrev pub ArePlaced : ℕ → List Token → Type 0
ArePlaced n = Each (λ t. t.span.from ≤ n)

pub begins : (n : ℕ) (ts : List Token) → ArePlaced n ts → (s : Span) → s ≡ extent ts → s.from ≤ n
begins n [] h s e = let f = ap (λ (s : Span). s.from) e in omega (arith, f)
begins n (t ∷ ts) h s e = let f = ap (λ (s : Span). s.from) e in omega (arith, f, h.0)

inside : (place : ℕ) (bytes : List ℕ) (ts : List Token) → StandInOrder place bytes ts → (place ≤ length bytes) × ArePlaced (length bytes) ts
inside place bytes [] h = (h, tt)
inside place bytes (t ∷ ts) (before, some, is, small, rest) =
    let further = inside t.span.to bytes ts rest in
    (omega (arith, before, some, further.0), (omega (arith, some, further.0), further.1))

pub tokens_inside : (bytes : List ℕ) (ts : List Token) → StandInOrder 0 bytes ts → ArePlaced (length bytes) ts
tokens_inside bytes ts h = (inside 0 bytes ts h).1

-- ---- Productions

-- `Q` follows if some tokens that begin within `n` bytes are a text of the production `P`.
pub record Gives (n : ℕ) (P : List Token → Type 0) (Q : Type 0) : Type 0 where
  pub reads : (ts : List Token) → ArePlaced n ts → P ts → Q

pub within : {n : ℕ} {P : List Token → Type 0} {Q : Type 0} → Gives n P Q → (ts : List Token) → ArePlaced n ts → P ts → Q
within g ts h p = g.reads ts h p

pub any : {n : ℕ} (P : List Token → Type 0) → Gives n P (Unit {0})
any P = record { reads = λ ts h p. tt }

pub here : {n : ℕ} (kind : TokenKind) (s : Span) → Gives n (IsAt kind s) (s.from ≤ n)
here {n} kind s = record { reads = λ ts h e. (subst (ArePlaced n) e h).0 }

infixr 30 ◌before◌
pub ◌before◌ : {n : ℕ} {P R : List Token → Type 0} {A B : Type 0} → Gives n P A → Gives n R B → Gives n (P then R) (A × B)
◌before◌ {n} {P} {R} {A} {B} p r = record { reads = parts }
  where
    parts : (ts : List Token) → ArePlaced n ts → (P then R) ts → A × B
    parts ts h (front, back, first, second, e) =
        let both : ArePlaced n (front ++ back) = subst (ArePlaced n) e h in
        (p.reads front (each_front (λ t. t.span.from ≤ n) front back both) first, r.reads back (each_back (λ t. t.span.from ≤ n) front back both) second)

pub each : {n : ℕ} {A : Type 0} (P : A → List Token → Type 0) (Q : A → Type 0) → ((x : A) → Gives n (P x) (Q x)) → (xs : List A) → Gives n (IsEach P xs) (Each Q xs)
each P Q item [] = record { reads = λ ts h p. tt }
each P Q item (x ∷ xs) = item x before each P Q item xs

more : {n : ℕ} {A : Type 0} (P : A → List Token → Type 0) (Q : A → Type 0) → ((x : A) → Gives n (P x) (Q x)) → (xs : List A) → Gives n (IsMore P xs) (Each Q xs)
more P Q item [] = record { reads = λ ts h p. tt }
more P Q item (x ∷ xs) = record { reads = λ ts h p. (within (any _ before item x before more P Q item xs) ts h p).1 }

pub items : {n : ℕ} {A : Type 0} (P : A → List Token → Type 0) (Q : A → Type 0) → ((x : A) → Gives n (P x) (Q x)) → (xs : List A) → Gives n (IsList P xs) (Each Q xs)
items P Q item [] = record { reads = λ ts h p. absurd p }
items P Q item (x ∷ xs) = item x before more P Q item xs

pub items0 : {n : ℕ} {A : Type 0} (P : A → List Token → Type 0) (Q : A → Type 0) → ((x : A) → Gives n (P x) (Q x)) → (xs : List A) → Gives n (IsList0 P xs) (Each Q xs)
items0 P Q item [] = record { reads = λ ts h p. tt }
items0 P Q item (x ∷ xs) = items P Q item (x ∷ xs)
