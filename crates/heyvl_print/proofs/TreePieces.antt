-- Combining pieces so that their tokens spell the same tree again.
use Rattle.heyvl_print.proofs.LexedPieces.{Sound}
use Rattle.heyvl_print.specs.Pieces.{Piece, blank, feed, line_feed, margin, text_of, token, token_text}
use Rattle.heyvl_print.specs.Printable.{ArePrintable, IsPrintable}
use Rattle.heyvl_syntax.proofs.exported.TokenReads.{Reads}
use Rattle.heyvl_syntax.specs.Productions.{IsOne, at, ◌then◌}
use Rattle.heyvl_syntax.specs.declared.tokens.Token.{Token}
use Rattle.heyvl_syntax.specs.declared.tokens.TokenKind.{TokenKind}
use Rattle.std.proofs.Common.{Bool, List, [], ap, append_assoc, map, refl, subst, suc, sym, true, zero, ◌++◌, ◌∙◌, ◌∷◌, ◌≡◌, ℕ}
use Rattle.std.proofs.lemmas.List.{append-nil}

-- The kinds of the tokens among pieces, and of tokens.
abbrev pub kinds_of : List Piece → List TokenKind
kinds_of [] = []
kinds_of (blank ∷ ps) = kinds_of ps
kinds_of (line_feed ∷ ps) = kinds_of ps
kinds_of (token kind ∷ ps) = kind ∷ kinds_of ps

abbrev pub token_kinds : List Token → List TokenKind
token_kinds = map (λ t. t.kind)

-- `Prints test e P x ps`: before bytes that pass `test`, the lexer splits the pieces `ps` into
-- their tokens, and tokens of these kinds spell an item that is `x` up to what `e` drops.
pub record Prints {A B : Type 0} (test : List ℕ → Bool) (e : A → B) (P : A → List Token → Type 0) (x : A) (ps : List Piece) : Type 0 where
  pub flows : (rest : List Piece) → test (text_of rest) ≡ true → Sound rest → Sound (ps ++ rest)
  pub again : (us : List Token) → token_kinds us ≡ kinds_of ps → (y : A) × (e x ≡ e y) × P y us

-- `Reprints test e P x ps`: `Prints test e P x ps` holds if printable tokens spell `x`.
pub record Reprints {A B : Type 0} (test : List ℕ → Bool) (e : A → B) (P : A → List Token → Type 0) (x : A) (ps : List Piece) : Type 0 where
  pub from : (ts : List Token) → P x ts → ArePrintable ts → Prints test e P x ps

abbrev pub any : List ℕ → Bool
any rest = true

kinds_append : (ps qs : List Piece) → kinds_of (ps ++ qs) ≡ kinds_of ps ++ kinds_of qs
kinds_append [] qs = refl
kinds_append (blank ∷ ps) qs = kinds_append ps qs
kinds_append (line_feed ∷ ps) qs = kinds_append ps qs
kinds_append (token kind ∷ ps) qs = ap (λ (z : List TokenKind). kind ∷ z) (kinds_append ps qs)

printable_left : (xs ys : List Token) → ArePrintable (xs ++ ys) → ArePrintable xs
printable_left [] ys h = tt
printable_left (x ∷ xs) ys h = (h.0, printable_left xs ys h.1)

printable_right : (xs ys : List Token) → ArePrintable (xs ++ ys) → ArePrintable ys
printable_right [] ys h = h
printable_right (x ∷ xs) ys h = printable_right xs ys h.1

pub printable_front : (ts xs ys : List Token) → ts ≡ xs ++ ys → ArePrintable ts → ArePrintable xs
printable_front ts xs ys e h = printable_left xs ys (subst (λ (z : List Token). ArePrintable z) e h)

pub printable_back : (ts xs ys : List Token) → ts ≡ xs ++ ys → ArePrintable ts → ArePrintable ys
printable_back ts xs ys e h = printable_right xs ys (subst (λ (z : List Token). ArePrintable z) e h)

pub printable_append : (xs ys : List Token) → ArePrintable xs → ArePrintable ys → ArePrintable (xs ++ ys)
printable_append [] ys h k = k
printable_append (x ∷ xs) ys h k = (h.0, printable_append xs ys h.1 k)

-- Tokens whose kinds are two lists, split in the same way.
pub record Halves (us : List Token) (ks ls : List TokenKind) : Type 0 where
  pub front : List Token
  pub back : List Token
  pub same : us ≡ front ++ back
  pub fronts : token_kinds front ≡ ks
  pub backs : token_kinds back ≡ ls

abbrev first_kind : TokenKind → List TokenKind → TokenKind
first_kind k [] = k
first_kind k (x ∷ xs) = x

abbrev other_kinds : List TokenKind → List TokenKind
other_kinds [] = []
other_kinds (x ∷ xs) = xs

both_same : {k l : TokenKind} {ks ls : List TokenKind} → k ≡ l → ks ≡ ls → k ∷ ks ≡ l ∷ ls
both_same {k} {l} {ks} {ls} e f = ap (λ (z : TokenKind). z ∷ ks) e ∙ ap (λ (z : List TokenKind). l ∷ z) f

pub halves : (us : List Token) (ks ls : List TokenKind) → token_kinds us ≡ ks ++ ls → Halves us ks ls
halves us [] ls h = record { front = []; back = us; same = refl; fronts = refl; backs = h }
halves [] (k ∷ ks) ls h = absurd (cc)
halves (u ∷ us) (k ∷ ks) ls h =
    let rest = halves us ks ls (ap other_kinds h) in
    record {
      front = u ∷ rest.front;
      back = rest.back;
      same = ap (λ (z : List Token). u ∷ z) rest.same;
      fronts = both_same (ap (first_kind k) h) rest.fronts;
      backs = rest.backs;
    }

pair_same : {A B : Type 0} {a b : A} {c d : B} → a ≡ b → c ≡ d → Path (A × B) (a, c) (b, d)
pair_same {a = a} {b} {c} {d} e f = ap (λ z. (z, c)) e ∙ ap (λ z. (b, z)) f

-- One item after another.
pub both : {A A' B B' : Type 0} {test test' : List ℕ → Bool} {e : A → A'} {f : B → B'} {P : A → List Token → Type 0} {Q : B → List Token → Type 0} {x : A} {z : B} {ps qs : List Piece} →
    Prints test e P x ps → Prints test' f Q z qs → ((rest : List Piece) → test' (text_of rest) ≡ true → test (text_of (qs ++ rest)) ≡ true) →
    Prints {A = A × B} {B = A' × B'} test' (λ p. (e p.0, f p.1)) (λ p. P p.0 then Q p.1) (x, z) (ps ++ qs)
both {e = e} {f} {P} {Q} {x} {z} {ps} {qs} one other starts = record {
  flows = λ rest passes sound. subst (λ (rs : List Piece). Sound rs) (sym (append_assoc ps qs rest)) (one.flows (qs ++ rest) (starts rest passes) (other.flows rest passes sound));
  again = λ us h.
      let parts = halves us (kinds_of ps) (kinds_of qs) (h ∙ kinds_append ps qs) in
      let left = one.again parts.front parts.fronts in
      let right = other.again parts.back parts.backs in
      ((left.0, right.0), pair_same left.1 right.1, (parts.front, parts.back, left.2, right.2, parts.same));
}

-- A token before an item.
pub token_then : {A B : Type 0} {test : List ℕ → Bool} {e : A → B} {P : A → List Token → Type 0} {x : A} {ps : List Piece} (kind : TokenKind) →
    ((rest : List Piece) → test (text_of rest) ≡ true → Reads kind (token_text kind) (text_of (ps ++ rest))) →
    Prints test e P x ps → Prints test e (λ y. IsOne kind then P y) x (token kind ∷ ps)
token_then {A} {e = e} {P = P} {x = x} {ps = ps} kind stands one = record {
  flows = λ rest passes sound. (stands rest passes, one.flows rest passes sound);
  again = λ us h. first us h;
}
  where
    first : (us : List Token) → token_kinds us ≡ kind ∷ kinds_of ps → (y : A) × (e x ≡ e y) × (IsOne kind then P y) us
    first [] h = absurd (cc)
    first (u ∷ us) h =
        let made = one.again us (ap other_kinds h) in
        (made.0, made.1, (u ∷ [], us, (u.span, ap (λ (k : TokenKind). at k u.span ∷ []) (ap (first_kind kind) h)), made.2, refl))

-- White space before an item.
pub blank_then : {A B : Type 0} {test : List ℕ → Bool} {e : A → B} {P : A → List Token → Type 0} {x : A} {ps : List Piece} → Prints test e P x ps → Prints test e P x (blank ∷ ps)
blank_then one = record { flows = one.flows; again = one.again }

pub feed_then : {A B : Type 0} {test : List ℕ → Bool} {e : A → B} {P : A → List Token → Type 0} {x : A} {ps : List Piece} → Prints test e P x ps → Prints test e P x (line_feed ∷ ps)
feed_then one = record { flows = one.flows; again = one.again }

pub margin_then : {A B : Type 0} {test : List ℕ → Bool} {e : A → B} {P : A → List Token → Type 0} {x : A} {ps : List Piece} (n : ℕ) → Prints test e P x ps → Prints test e P x (margin n ++ ps)
margin_then zero one = one
margin_then (suc n) one = blank_then (margin_then n one)

-- A line feed after an item.
pub ends_line : {A B : Type 0} {test : List ℕ → Bool} {e : A → B} {P : A → List Token → Type 0} {x : A} {ps : List Piece} → ((rest : List Piece) → test (10 ∷ text_of rest) ≡ true) →
    Prints test e P x ps → Prints any e P x (ps ++ feed)
ends_line {ps = ps} line one = record {
  flows = λ rest passes sound. subst (λ (rs : List Piece). Sound rs) (sym (append_assoc ps feed rest)) (one.flows (line_feed ∷ rest) (line rest) sound);
  again = λ us h. one.again us (h ∙ kinds_append ps feed ∙ append-nil (kinds_of ps));
}

-- A token alone.
pub one_token : {test : List ℕ → Bool} (kind : TokenKind) → ((rest : List Piece) → test (text_of rest) ≡ true → Reads kind (token_text kind) (text_of rest)) →
    Prints {A = Unit {0}} {B = Unit {0}} test (λ y. y) (λ y. IsOne kind) tt (token kind ∷ [])
one_token kind stands = record {
  flows = λ rest passes sound. (stands rest passes, sound);
  again = λ us h. single us h;
}
  where
    single : (us : List Token) → token_kinds us ≡ kind ∷ [] → (y : Unit {0}) × (tt ≡ y) × IsOne kind us
    single [] h = absurd (cc)
    single (u ∷ []) h = (tt, refl, (u.span, ap (λ (k : TokenKind). at k u.span ∷ []) (ap (first_kind kind) h)))
    single (u ∷ v ∷ us) h = let no = ap other_kinds h in absurd (cc)

-- An item that is made of another one.
pub remade : {A A' B B' : Type 0} {test : List ℕ → Bool} {e : A → A'} {f : B → B'} {P : A → List Token → Type 0} {Q : B → List Token → Type 0} {x : A} {z : B} {ps : List Piece}
    (made : A → List Token → B) → ((y : A) (us : List Token) → P y us → Q (made y us) us) → ((y : A) (us : List Token) → e x ≡ e y → f z ≡ f (made y us)) →
    Prints test e P x ps → Prints test f Q z ps
remade made spells keeps one = record {
  flows = one.flows;
  again = λ us h. let y = one.again us h in (made y.0 us, keeps y.0 us y.1, spells y.0 us y.2);
}

-- One spelled item after another.
pub r_both : {A A' B B' : Type 0} {test test' : List ℕ → Bool} {e : A → A'} {f : B → B'} {P : A → List Token → Type 0} {Q : B → List Token → Type 0} {x : A} {z : B} {ps qs : List Piece} →
    Reprints test e P x ps → ((rest : List Piece) → test' (text_of rest) ≡ true → test (text_of (qs ++ rest)) ≡ true) → Reprints test' f Q z qs →
    Reprints {A = A × B} {B = A' × B'} test' (λ p. (e p.0, f p.1)) (λ p. P p.0 then Q p.1) (x, z) (ps ++ qs)
r_both one starts other = record {
  from = λ ts h printable. both (one.from h.0 h.2 (printable_front ts h.0 h.1 h.4 printable)) (other.from h.1 h.3 (printable_back ts h.0 h.1 h.4 printable)) starts;
}

one_printable : (kind : TokenKind) (ts : List Token) → IsOne kind ts → ArePrintable ts → IsPrintable kind
one_printable kind ts one h = (subst (λ (z : List Token). ArePrintable z) one.1 h).0

pub r_token : {A B : Type 0} {test : List ℕ → Bool} {e : A → B} {P : A → List Token → Type 0} {x : A} {ps : List Piece} (kind : TokenKind) →
    (IsPrintable kind → (rest : List Piece) → test (text_of rest) ≡ true → Reads kind (token_text kind) (text_of (ps ++ rest))) →
    Reprints test e P x ps → Reprints test e (λ y. IsOne kind then P y) x (token kind ∷ ps)
r_token kind stands one = record {
  from = λ ts h printable. token_then kind (stands (one_printable kind h.0 h.2 (printable_front ts h.0 h.1 h.4 printable))) (one.from h.1 h.3 (printable_back ts h.0 h.1 h.4 printable));
}

pub r_one : {test : List ℕ → Bool} (kind : TokenKind) → (IsPrintable kind → (rest : List Piece) → test (text_of rest) ≡ true → Reads kind (token_text kind) (text_of rest)) →
    Reprints {A = Unit {0}} {B = Unit {0}} test (λ y. y) (λ y. IsOne kind) tt (token kind ∷ [])
r_one kind stands = record { from = λ ts h printable. one_token kind (stands (one_printable kind ts h printable)) }

pub r_blank : {A B : Type 0} {test : List ℕ → Bool} {e : A → B} {P : A → List Token → Type 0} {x : A} {ps : List Piece} → Reprints test e P x ps → Reprints test e P x (blank ∷ ps)
r_blank one = record { from = λ ts h printable. blank_then (one.from ts h printable) }

pub r_feed : {A B : Type 0} {test : List ℕ → Bool} {e : A → B} {P : A → List Token → Type 0} {x : A} {ps : List Piece} → Reprints test e P x ps → Reprints test e P x (line_feed ∷ ps)
r_feed one = record { from = λ ts h printable. feed_then (one.from ts h printable) }

pub r_margin : {A B : Type 0} {test : List ℕ → Bool} {e : A → B} {P : A → List Token → Type 0} {x : A} {ps : List Piece} (n : ℕ) → Reprints test e P x ps → Reprints test e P x (margin n ++ ps)
r_margin n one = record { from = λ ts h printable. margin_then n (one.from ts h printable) }

pub r_line : {A B : Type 0} {test : List ℕ → Bool} {e : A → B} {P : A → List Token → Type 0} {x : A} {ps : List Piece} → ((rest : List Piece) → test (10 ∷ text_of rest) ≡ true) →
    Reprints test e P x ps → Reprints any e P x (ps ++ feed)
r_line line one = record { from = λ ts h printable. ends_line line (one.from ts h printable) }

pub r_made : {A A' B B' : Type 0} {test : List ℕ → Bool} {e : A → A'} {f : B → B'} {P : A → List Token → Type 0} {Q : B → List Token → Type 0} {x : A} {z : B} {ps : List Piece}
    (made : A → List Token → B) → ((y : A) (us : List Token) → P y us → Q (made y us) us) → ((y : A) (us : List Token) → e x ≡ e y → f z ≡ f (made y us)) →
    ((ts : List Token) → Q z ts → P x ts) → Reprints test e P x ps → Reprints test f Q z ps
r_made made spells keeps parts one = record { from = λ ts h printable. remade made spells keeps (one.from ts (parts ts h) printable) }

-- A token after an item.
pub r_closed : {A B : Type 0} {test test' : List ℕ → Bool} {e : A → B} {P : A → List Token → Type 0} {x : A} {ps : List Piece} (kind : TokenKind) →
    (IsPrintable kind → (rest : List Piece) → test' (text_of rest) ≡ true → Reads kind (token_text kind) (text_of rest)) →
    ((rest : List Piece) → test (text_of (token kind ∷ rest)) ≡ true) →
    Reprints test e P x ps → Reprints test' e (λ y. P y then IsOne kind) x (ps ++ token kind ∷ [])
r_closed {x = x} kind stands starts one =
    r_made (λ p us. p.0) (λ p us h. h) (λ p us h. ap (λ z. z.0) h) (λ ts h. h) (r_both {x = x} one (λ rest passes. starts rest) (r_one kind stands))
