-- A text as pieces that the lexer separates, and their tokens.
use Rattle.heyvl_syntax.proofs.exported.Steps.{made}
use Rattle.heyvl_syntax.proofs.exported.TokenReads.{Reads, ends_number, free_reads, is_free, key_reads, lexes_read, number_reads, spaced_reads, word_reads}
use Rattle.heyvl_syntax.specs.Bytes.{ends_word, is_white}
use Rattle.heyvl_syntax.specs.Keys.{key_text}
use Rattle.heyvl_syntax.specs.Literals.{IsNumber, is_too_large, literal}
use Rattle.heyvl_syntax.specs.Marks.{mark_text}
use Rattle.heyvl_syntax.specs.Tokens.{IsWord, Lexes, white}
use Rattle.heyvl_syntax.specs.declared.keys.Key.{Key}
use Rattle.heyvl_syntax.specs.declared.marks.Mark.TheVariants as marks
use Rattle.heyvl_syntax.specs.declared.marks.Mark.{Mark}
use Rattle.heyvl_syntax.specs.declared.tokens.Token.{Token}
use Rattle.heyvl_syntax.specs.declared.tokens.TokenKind.TheVariants as kinds
use Rattle.heyvl_syntax.specs.declared.tokens.TokenKind.{TokenKind}
use Rattle.heyvl_syntax.proofs.exported.Runs.{and_left, and_right}
use Rattle.std.proofs.lemmas.Bool.Decides.{nat_tests}
use Rattle.std.proofs.Common.{Bool, List, [], ap, arith, false, inl, inr, length, map, refl, subst, sym, true, ◌&&◌, ◌++◌, ◌+◌, ◌==◌, ◌||◌, ◌⊎◌, ◌∷◌, ◌≡◌, ℕ}

-- An identifier, which is not a keyword.
pub record IsPlain (x : List ℕ) : Type 0 where
  pub word : IsWord x
  pub other : (key : Key) → key_text key ≡ x → ⊥

-- A number within the limits.
pub record IsShort (text : List ℕ) : Type 0 where
  pub number : IsNumber text
  pub small : is_too_large text ≡ false

pub data Piece : Type 0 where
  blank : Piece
  feed : Piece
  key : Key → Piece
  mark : Mark → Piece
  slash : Piece
  word : (x : List ℕ) → IsPlain x → Piece
  number : (text : List ℕ) → IsShort text → Piece

-- The bytes of pieces, then the bytes `rest`.
abbrev pub bytes : List Piece → List ℕ → List ℕ
bytes [] rest = rest
bytes (blank ∷ ps) rest = 32 ∷ bytes ps rest
bytes (feed ∷ ps) rest = 10 ∷ bytes ps rest
bytes (key k ∷ ps) rest = key_text k ++ bytes ps rest
bytes (mark m ∷ ps) rest = mark_text m ++ bytes ps rest
bytes (slash ∷ ps) rest = mark_text marks.Slash ++ bytes ps rest
bytes (word x plain ∷ ps) rest = x ++ bytes ps rest
bytes (number text short ∷ ps) rest = text ++ bytes ps rest

abbrev blank_next : List ℕ → Bool
blank_next [] = false
blank_next (b ∷ bs) = b == 32

abbrev digit_next : List ℕ → Bool
digit_next [] = false
digit_next (b ∷ bs) = b == 50 || b == 51

-- No piece is extended by the bytes after it.
abbrev pub flows : List Piece → List ℕ → Bool
flows [] rest = true
flows (blank ∷ ps) rest = flows ps rest
flows (feed ∷ ps) rest = flows ps rest
flows (key k ∷ ps) rest = ends_word (bytes ps rest) && flows ps rest
flows (mark m ∷ ps) rest = (is_free m || blank_next (bytes ps rest)) && flows ps rest
flows (slash ∷ ps) rest = digit_next (bytes ps rest) && flows ps rest
flows (word x plain ∷ ps) rest = ends_word (bytes ps rest) && flows ps rest
flows (number text short ∷ ps) rest = ends_number (bytes ps rest) && flows ps rest

-- The kinds of the tokens among the pieces.
abbrev pub kinds_of : List Piece → List TokenKind
kinds_of [] = []
kinds_of (blank ∷ ps) = kinds_of ps
kinds_of (feed ∷ ps) = kinds_of ps
kinds_of (key k ∷ ps) = kinds.Key k ∷ kinds_of ps
kinds_of (mark m ∷ ps) = kinds.Mark m ∷ kinds_of ps
kinds_of (slash ∷ ps) = kinds.Mark marks.Slash ∷ kinds_of ps
kinds_of (word x plain ∷ ps) = kinds.Word x ∷ kinds_of ps
kinds_of (number text short ∷ ps) = kinds.Number (literal text) ∷ kinds_of ps

-- The lexer splits bytes that begin at `place` into tokens of these kinds.
pub record Split (place : ℕ) (all : List ℕ) (expected : List TokenKind) : Type 0 where
  pub tokens : List Token
  pub are : map (λ t. t.kind) tokens ≡ expected
  pub lexes : Lexes place all tokens

-- `Split` at every place.
abbrev pub Splits : List ℕ → List TokenKind → Type 0
Splits all expected = (place : ℕ) → Split place all expected

pub splits_none : Splits [] []
splits_none place = record { tokens = []; are = refl; lexes = record { parts = []; splits = refl; are_tokens = refl } }

is_blank : (b : ℕ) → b == 32 ≡ true → b ≡ 32
is_blank b h = grind (arith, nat_tests)

blank_reads : (m : Mark) (rest : List ℕ) → blank_next rest ≡ true → Reads (kinds.Mark m) (mark_text m) rest
blank_reads m [] h = absurd (cc)
blank_reads m (b ∷ bs) h = subst (λ (z : ℕ). Reads (kinds.Mark m) (mark_text m) (z ∷ bs)) (sym (is_blank b h)) (spaced_reads m bs)

mark_reads : (m : Mark) (rest : List ℕ) (free : Bool) → is_free m ≡ free → free || blank_next rest ≡ true → Reads (kinds.Mark m) (mark_text m) rest
mark_reads m rest true e h = free_reads m rest e
mark_reads m rest false e h = blank_reads m rest h

is_digit : (b : ℕ) → b == 50 || b == 51 ≡ true → (b ≡ 50) ⊎ (b ≡ 51)
is_digit b h = pick (b == 50) refl
  where
    pick : (x : Bool) → b == 50 ≡ x → (b ≡ 50) ⊎ (b ≡ 51)
    pick true e = inl (grind (arith, nat_tests))
    pick false e = inr (grind (arith, nat_tests))

slash_reads : (rest : List ℕ) → digit_next rest ≡ true → Reads (kinds.Mark marks.Slash) (mark_text marks.Slash) rest
slash_reads [] h = absurd (cc)
slash_reads (b ∷ bs) h = pick (is_digit b h)
  where
    pick : (b ≡ 50) ⊎ (b ≡ 51) → Reads (kinds.Mark marks.Slash) (mark_text marks.Slash) (b ∷ bs)
    pick (inl e) = subst (λ (z : ℕ). Reads (kinds.Mark marks.Slash) (mark_text marks.Slash) (z ∷ bs)) (sym e) refl
    pick (inr e) = subst (λ (z : ℕ). Reads (kinds.Mark marks.Slash) (mark_text marks.Slash) (z ∷ bs)) (sym e) refl

one_more : (kind : TokenKind) (text rest : List ℕ) (expected : List TokenKind) → Reads kind text rest → Splits rest expected → Splits (text ++ rest) (kind ∷ expected)
one_more kind text rest expected reads more place =
    let behind = more (place + length text) in
    record {
      tokens = made kind place (length text) ∷ behind.tokens;
      are = ap (λ (z : List TokenKind). kind ∷ z) behind.are;
      lexes = lexes_read place kind text rest reads behind.tokens behind.lexes;
    }

white_more : (b : ℕ) (rest : List ℕ) (expected : List TokenKind) → is_white b ≡ true → Splits rest expected → Splits (b ∷ rest) expected
white_more b rest expected is more place =
    let behind = more (place + 1) in
    record {
      tokens = behind.tokens;
      are = behind.are;
      lexes = record { parts = white ∷ behind.lexes.parts; splits = (1, (is, refl), behind.lexes.splits); are_tokens = behind.lexes.are_tokens };
    }

-- The lexer splits pieces that nothing extends into their tokens.
pub splits_pieces : (ps : List Piece) (rest : List ℕ) (expected : List TokenKind) → flows ps rest ≡ true → Splits rest expected → Splits (bytes ps rest) (kinds_of ps ++ expected)
splits_pieces [] rest expected h more = more
splits_pieces (blank ∷ ps) rest expected h more = white_more 32 (bytes ps rest) (kinds_of ps ++ expected) refl (splits_pieces ps rest expected h more)
splits_pieces (feed ∷ ps) rest expected h more = white_more 10 (bytes ps rest) (kinds_of ps ++ expected) refl (splits_pieces ps rest expected h more)
splits_pieces (key k ∷ ps) rest expected h more =
    one_more (kinds.Key k) (key_text k) (bytes ps rest) (kinds_of ps ++ expected) (key_reads k (bytes ps rest) (and_left (ends_word (bytes ps rest)) (flows ps rest) h))
    (splits_pieces ps rest expected (and_right (ends_word (bytes ps rest)) (flows ps rest) h) more)
splits_pieces (mark m ∷ ps) rest expected h more =
    let stands = is_free m || blank_next (bytes ps rest) in
    one_more (kinds.Mark m) (mark_text m) (bytes ps rest) (kinds_of ps ++ expected) (mark_reads m (bytes ps rest) (is_free m) refl (and_left stands (flows ps rest) h))
    (splits_pieces ps rest expected (and_right stands (flows ps rest) h) more)
splits_pieces (slash ∷ ps) rest expected h more =
    one_more (kinds.Mark marks.Slash) (mark_text marks.Slash) (bytes ps rest) (kinds_of ps ++ expected) (slash_reads (bytes ps rest) (and_left (digit_next (bytes ps rest)) (flows ps rest) h))
    (splits_pieces ps rest expected (and_right (digit_next (bytes ps rest)) (flows ps rest) h) more)
splits_pieces (word x plain ∷ ps) rest expected h more =
    one_more (kinds.Word x) x (bytes ps rest) (kinds_of ps ++ expected) (word_reads x (bytes ps rest) plain.word plain.other (and_left (ends_word (bytes ps rest)) (flows ps rest) h))
    (splits_pieces ps rest expected (and_right (ends_word (bytes ps rest)) (flows ps rest) h) more)
splits_pieces (number text short ∷ ps) rest expected h more =
    one_more (kinds.Number (literal text)) text (bytes ps rest) (kinds_of ps ++ expected) (number_reads text (bytes ps rest) short.number short.small (and_left (ends_number (bytes ps rest)) (flows ps rest) h))
    (splits_pieces ps rest expected (and_right (ends_number (bytes ps rest)) (flows ps rest) h) more)
