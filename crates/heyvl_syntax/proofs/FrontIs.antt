-- The computation of what bytes begin with agrees with the definition of tokens.
use Rattle.heyvl_syntax.proofs.CommentEnds.{closes_first, never_closes}
use Rattle.heyvl_syntax.proofs.Longest.{digit_number, mark_token, number-le, number_len-le, number_read, same_first, starts, word_le}
use Rattle.heyvl_syntax.proofs.Runs.{and_left, not_true, run_passes, word_run_ends, word_run_stops}
use Rattle.heyvl_syntax.proofs.Starts.{BeginsBy, digit_opens_no_word, opens_word, token_begins, word_no_white}
use Rattle.heyvl_syntax.proofs.Tables.{key_text_of, mark_longest, mark_starts, no_key_text, no_mark_starts}
use Rattle.heyvl_syntax.specs.Bytes.{is_letter, is_white, is_word_byte}
use Rattle.heyvl_places.specs.Places.{is_line_feed}
use Rattle.heyvl_syntax.specs.Comments.{IsBlockComment, IsLineComment, closes_at, opens_block, opens_comment, opens_line}
use Rattle.heyvl_syntax.specs.internal.Fronts.{IsInside, block_front, first_close, front_of, key_of, mark_front, mark_of, number_front, number_len, number_text, word_front, word_text}
use Rattle.heyvl_syntax.specs.Literals.{is_too_large, literal}
use Rattle.heyvl_syntax.specs.Marks.{mark_text}
use Rattle.heyvl_syntax.specs.Tokens.{IsFault, IsLongest, IsToken, IsTokenOf, IsWhite, is_beyond_limits}
use Rattle.heyvl_syntax.specs.internal.Found as fronts
use Rattle.heyvl_syntax.specs.internal.Found.{Found}
use Rattle.heyvl_syntax.specs.declared.keys.Key.{Key}
use Rattle.heyvl_syntax.specs.declared.marks.Mark.{Mark}
use Rattle.heyvl_syntax.specs.declared.tokens.TokenKind.TheVariants as kinds
use Rattle.heyvl_syntax.specs.declared.tokens.TokenKind.{TokenKind}
use Rattle.std.proofs.Common.{Bool, List, None, Option, Some, [], ap, arith, cond, drop, false, inl, inr, length, nat_eq, not, refl, subst, suc, sym, take, true, zero, ◌&&◌, ◌++◌, ◌+◌, ◌<◌, ◌∙◌, ◌∷◌, ◌≡◌, ◌≤◌, ◌⊎◌, ℕ}
use Rattle.std.proofs.Math.Seq.{take-append_seam}
use Rattle.std.proofs.lemmas.Bool.Decides.{nat_tests}
use Rattle.std.proofs.lemmas.List.Sums.{prefix_len-le-length}
use Rattle.std.proofs.lemmas.List.{length-drop, length-take, length-take-le, take-append-drop}
use Rattle.std.specs.Char.{is_ascii_digit}
use Rattle.std.specs.Cmp.Lexicographic.{pointwise, same_text}
use Rattle.std.specs.List.{position_or_len, prefix_len, starts_with}

-- `IsFront bytes found`: `found` is what `bytes` begin with.
abbrev pub IsFront : List ℕ → Found → Type 0
IsFront bytes fronts.End = bytes ≡ []
IsFront bytes (fronts.Blank n) = (IsWhite bytes × (n ≡ 1)) ⊎ (IsLineComment bytes n ⊎ IsBlockComment bytes n)
IsFront bytes (fronts.Token kind n) =
    (opens_comment bytes ≡ false) × IsLongest bytes kind n × (is_beyond_limits kind (take n bytes) ≡ false)
IsFront bytes (fronts.Fault number n) = IsFault bytes number n

-- No token with which the bytes begin has more than `n` bytes.
abbrev BoundsTokens : List ℕ → ℕ → Type 0
BoundsTokens bytes n = (kind : TokenKind) (text rest : List ℕ) → IsToken kind text rest → text ++ rest ≡ bytes → length text ≤ n

longest_from : (bytes : List ℕ) (kind : TokenKind) (n : ℕ) → IsTokenOf bytes kind n → BoundsTokens bytes n → IsLongest bytes kind n
longest_from bytes kind n token bound = record {
  token = token;
  longest = λ other m less longer.
      let le = bound other (take m bytes) (drop m bytes) longer.1 (take-append-drop m bytes) in
      let len = length-take-le m bytes longer.0 in
      omega arith;
}

starts_text : (bytes text : List ℕ) → starts_with nat_eq bytes text ≡ true → text ≡ take (length text) bytes
starts_text bytes text h = same_text text (take (length text) bytes) (sym h)

pub starts_len : (bytes text : List ℕ) → starts_with nat_eq bytes text ≡ true → length text ≤ length bytes
starts_len bytes text h =
    let len : length text ≡ length (take (length text) bytes) = ap length (starts_text bytes text h) in
    omega (arith, len, length-take (length text) bytes)

-- White space and comments.
block-is : (bytes : List ℕ) (found : Option ℕ) → opens_block bytes ≡ true → first_close (drop 2 bytes) ≡ found → IsFront bytes (block_front found)
block-is bytes None o h = inr (inl (refl, refl, record { opens = o; never = never_closes 0 (drop 2 bytes) h }))
block-is bytes (Some place) o h =
    let (inner, same, first) = closes_first 0 (drop 2 bytes) place h in
    inr (inr (record { opens = o; inner = inner; closes = first.closes; first = first.first; ends = omega (arith, same) }))

-- Identifiers and keywords.
no_backslash : (kind : TokenKind) (text rest : List ℕ) (b : ℕ) (cs bs : List ℕ) → is_letter b ≡ false → opens_word b ≡ true → key_of (word_text (b ∷ bs)) ≡ None → IsToken kind text rest → text ≡ b ∷ cs → cs ++ rest ≡ bs → BeginsBy kind b cs → ⊥
no_backslash (kinds.Word name) text rest b cs bs l o none token same later by = let yes = by.0 in cc
no_backslash (kinds.Number lit) text rest b cs bs l o none token same later by = let no = digit_opens_no_word b by in cc
no_backslash (kinds.Key key) text rest b cs bs l o none token same later by =
    let run : prefix_len is_word_byte (cs ++ rest) ≡ length cs = word_run_stops cs rest by.1 token.1 in
    let n : prefix_len is_word_byte bs ≡ length cs = subst (λ (z : List ℕ). prefix_len is_word_byte z ≡ length cs) later run in
    let front : take (length cs) bs ≡ cs = subst (λ (z : List ℕ). take (length cs) z ≡ cs) later (take-append_seam cs rest) in
    let all : word_text (b ∷ bs) ≡ text = rw n (ap (λ (z : List ℕ). b ∷ z) front ∙ sym same) in
    no_key_text (word_text (b ∷ bs)) none key (sym (all ∙ token.0))
no_backslash (kinds.Mark mark) text rest b cs bs l o none token same later by =
    let no = not_true (opens_word b) (and_left (not (opens_word b)) (not (is_ascii_digit b) && not (is_white b)) by) in
    cc

-- No token begins.
no_token_from : (bytes : List ℕ) → ((kind : TokenKind) (text rest : List ℕ) → IsToken kind text rest → text ++ rest ≡ bytes → ⊥) → (kind : TokenKind) (n : ℕ) → IsTokenOf bytes kind n → ⊥
no_token_from bytes none kind n (within, token) = none kind (take n bytes) (drop n bytes) token (take-append-drop n bytes)

nothing_at : (b : ℕ) (bs : List ℕ) → is_white b ≡ false → opens_comment (b ∷ bs) ≡ false → ((kind : TokenKind) (text rest : List ℕ) → IsToken kind text rest → text ++ rest ≡ b ∷ bs → ⊥) → IsFault (b ∷ bs) 1 1
nothing_at b bs w c none = inl (
  refl,
  refl,
  record {
    more = omega arith;
    no_white = λ (yes : is_white b ≡ true). cc;
    no_comment = c;
    no_token = no_token_from (b ∷ bs) none;
  },
)

word_len-is : (b : ℕ) (bs : List ℕ) → length (word_text (b ∷ bs)) ≡ suc (prefix_len is_word_byte bs)
word_len-is b bs = length-take-le (suc (prefix_len is_word_byte bs)) (b ∷ bs) (omega (arith, prefix_len-le-length is_word_byte bs))

word_longest : (b : ℕ) (bs : List ℕ) (kind : TokenKind) → opens_word b ≡ true → IsToken kind (word_text (b ∷ bs)) (drop (prefix_len is_word_byte bs) bs) → IsLongest (b ∷ bs) kind (length (word_text (b ∷ bs)))
word_longest b bs kind o token =
    let longest : IsLongest (b ∷ bs) kind (suc (prefix_len is_word_byte bs)) = longest_from (b ∷ bs) kind (suc (prefix_len is_word_byte bs)) (omega (arith, prefix_len-le-length is_word_byte bs), token) (λ other text rest t all. word_le other text rest b bs o t all) in
    subst (λ (n : ℕ). IsLongest (b ∷ bs) kind n) (sym (word_len-is b bs)) longest

word-is : (b : ℕ) (bs : List ℕ) (begins : Bool) (key : Option Key) → is_letter b ≡ begins → opens_word b ≡ true → opens_comment (b ∷ bs) ≡ false → key_of (word_text (b ∷ bs)) ≡ key → IsFront (b ∷ bs) (word_front begins (word_text (b ∷ bs)) key)
word-is b bs begins (Some key) l o c k = (c, word_longest b bs (kinds.Key key) o (key_text_of (word_text (b ∷ bs)) key k, word_run_ends bs), refl)
word-is b bs true None l o c k = (c, word_longest b bs (kinds.Word (word_text (b ∷ bs))) o (refl, (l, run_passes is_word_byte bs), no_key_text (word_text (b ∷ bs)) k), refl)
word-is b bs false None l o c k = nothing_at b bs (word_no_white b o) c none
  where
    none : (kind : TokenKind) (text rest : List ℕ) → IsToken kind text rest → text ++ rest ≡ b ∷ bs → ⊥
    none kind text rest token all =
        let (cs, same, by) = same_first kind text rest b bs token all in
        let joined : b ∷ (cs ++ rest) ≡ b ∷ bs = subst (λ (z : List ℕ). z ++ rest ≡ b ∷ bs) same all in
        let later : cs ++ rest ≡ bs = cc in
        no_backslash kind text rest b cs bs l o k token same later by

-- Numbers.
number_longest : (b : ℕ) (bs : List ℕ) → is_ascii_digit b ≡ true → IsLongest (b ∷ bs) (kinds.Number (literal (number_text (b ∷ bs)))) (number_len (b ∷ bs))
number_longest b bs d = longest_from (b ∷ bs) (kinds.Number (literal (number_text (b ∷ bs)))) (number_len (b ∷ bs)) (number_len-le (b ∷ bs), (refl, number_read b bs d)) bound
  where
    bound : BoundsTokens (b ∷ bs) (number_len (b ∷ bs))
    bound other text rest token all =
        let number = digit_number other text rest b bs d token all in
        subst (λ (z : List ℕ). length text ≤ number_len z) all (number-le text rest number)

number-is : (b : ℕ) (bs : List ℕ) (large : Bool) → is_ascii_digit b ≡ true → opens_comment (b ∷ bs) ≡ false → is_too_large (number_text (b ∷ bs)) ≡ large → IsFront (b ∷ bs) (cond large (fronts.Fault 3 (length (number_text (b ∷ bs)))) (fronts.Token (kinds.Number (literal (number_text (b ∷ bs)))) (length (number_text (b ∷ bs)))))
number-is b bs large d c h =
    let len : number_len (b ∷ bs) ≡ length (number_text (b ∷ bs)) = sym (length-take-le (number_len (b ∷ bs)) (b ∷ bs) (number_len-le (b ∷ bs))) in
    subst (λ (n : ℕ). IsFront (b ∷ bs) (cond large (fronts.Fault 3 n) (fronts.Token (kinds.Number (literal (number_text (b ∷ bs)))) n))) len (pick large h)
  where
    pick : (x : Bool) → is_too_large (number_text (b ∷ bs)) ≡ x → IsFront (b ∷ bs) (cond x (fronts.Fault 3 (number_len (b ∷ bs))) (fronts.Token (kinds.Number (literal (number_text (b ∷ bs)))) (number_len (b ∷ bs))))
    pick true h = inr (inr (refl, record { kind = kinds.Number (literal (number_text (b ∷ bs))); no_comment = c; longest = number_longest b bs d; beyond = h }))
    pick false h = (c, number_longest b bs d, h)

-- Symbols.
mark-is : (b : ℕ) (bs : List ℕ) (found : Option Mark) → opens_word b ≡ false → is_ascii_digit b ≡ false → is_white b ≡ false → opens_comment (b ∷ bs) ≡ false → mark_of (b ∷ bs) ≡ found → IsFront (b ∷ bs) (mark_front found)
mark-is b bs (Some mark) o d w c h = (c, longest_from (b ∷ bs) (kinds.Mark mark) (length (mark_text mark)) token bound, refl)
  where
    token : IsTokenOf (b ∷ bs) (kinds.Mark mark) (length (mark_text mark))
    token = (starts_len (b ∷ bs) (mark_text mark) (mark_starts (b ∷ bs) mark h), sym (starts_text (b ∷ bs) (mark_text mark) (mark_starts (b ∷ bs) mark h)))

    bound : BoundsTokens (b ∷ bs) (length (mark_text mark))
    bound kind text rest token all =
        let (other, is, same) = mark_token kind text rest b bs o d token all in
        let front = subst (λ (z : List ℕ). starts_with nat_eq (b ∷ bs) z ≡ true) same (starts text rest (b ∷ bs) all) in
        subst (λ (z : List ℕ). length z ≤ length (mark_text mark)) (sym same) (mark_longest (b ∷ bs) mark other h front)
mark-is b bs None o d w c h = nothing_at b bs w c none
  where
    none : (kind : TokenKind) (text rest : List ℕ) → IsToken kind text rest → text ++ rest ≡ b ∷ bs → ⊥
    none kind text rest token all =
        let (other, is, same) = mark_token kind text rest b bs o d token all in
        let front = subst (λ (z : List ℕ). starts_with nat_eq (b ∷ bs) z ≡ true) same (starts text rest (b ∷ bs) all) in
        let no = no_mark_starts (b ∷ bs) h other in
        cc

-- By the first byte.
abbrev front_by : Bool → Bool → Bool → Bool → Bool → ℕ → List ℕ → Found
front_by white line block word digit b bs =
    cond white (fronts.Blank 1)
    (cond line (fronts.Blank (position_or_len is_line_feed (b ∷ bs)))
    (cond block (block_front (first_close (drop 2 (b ∷ bs))))
    (cond word (word_front (is_letter b) (word_text (b ∷ bs)) (key_of (word_text (b ∷ bs))))
    (cond digit (number_front (number_text (b ∷ bs))) (mark_front (mark_of (b ∷ bs)))))))

by_first : (white line block word digit : Bool) (b : ℕ) (bs : List ℕ) → is_white b ≡ white → opens_line (b ∷ bs) ≡ line → opens_block (b ∷ bs) ≡ block → opens_word b ≡ word → is_ascii_digit b ≡ digit → IsFront (b ∷ bs) (front_by white line block word digit b bs)
by_first true line block word digit b bs w l k o d = inl (w, refl)
by_first false true block word digit b bs w l k o d = inr (inl (record { opens = l; ends = refl }))
by_first false false true word digit b bs w l k o d = block-is (b ∷ bs) (first_close (drop 2 (b ∷ bs))) k refl
by_first false false false true digit b bs w l k o d = word-is b bs (is_letter b) (key_of (word_text (b ∷ bs))) refl o (rw (l, k) refl) refl
by_first false false false false true b bs w l k o d = number-is b bs (is_too_large (number_text (b ∷ bs))) d (rw (l, k) refl) refl
by_first false false false false false b bs w l k o d = mark-is b bs (mark_of (b ∷ bs)) o d w (rw (l, k) refl) refl

pub front-is : (bytes : List ℕ) → IsFront bytes (front_of bytes)
front-is [] = refl
front-is (b ∷ bs) = by_first (is_white b) (opens_line (b ∷ bs)) (opens_block (b ∷ bs)) (opens_word b) (is_ascii_digit b) b bs refl refl refl refl refl

-- What is found is not empty, and is within the bytes.
pub closes_len : (bytes : List ℕ) (k : ℕ) → closes_at bytes k ≡ true → k + 2 ≤ length bytes
closes_len bytes k h = omega (arith, starts_len (drop k bytes) (42 ∷ 47 ∷ []) h, length-drop k bytes)

pub line_first : (b : ℕ) (bs : List ℕ) → opens_line (b ∷ bs) ≡ true → b ≡ 47
line_first b bs h = let e = and_left (nat_eq 47 b) (pointwise nat_eq (47 ∷ []) (take 1 bs)) h in grind (arith, nat_tests)

pub block_first : (b : ℕ) (bs : List ℕ) → opens_block (b ∷ bs) ≡ true → b ≡ 47
block_first b bs h = let e = and_left (nat_eq 47 b) (pointwise nat_eq (42 ∷ []) (take 1 bs)) h in grind (arith, nat_tests)

line_some : (bytes : List ℕ) → opens_line bytes ≡ true → 0 < position_or_len is_line_feed bytes
line_some [] h = absurd (cc)
line_some (b ∷ bs) h = rw (line_first b bs h) (omega arith)

pub longest_some : (bytes : List ℕ) (kind : TokenKind) (n : ℕ) → IsLongest bytes kind n → 0 < n
longest_some bytes kind zero longest = let begins = token_begins kind [] bytes longest.token.1 in let no = begins.same in absurd (cc)
longest_some bytes kind (suc n) longest = omega arith

pub front-inside : (bytes : List ℕ) (front : Found) → IsFront bytes front → IsInside (length bytes) front
front-inside bytes fronts.End h = tt
front-inside [] (fronts.Blank n) (inl (white, one)) = absurd white
front-inside (b ∷ bs) (fronts.Blank n) (inl (white, one)) = (omega (arith, one), omega (arith, one))
front-inside bytes (fronts.Blank n) (inr (inl line)) = (omega (arith, line.ends, line_some bytes line.opens), omega (arith, line.ends, prefix_len-le-length (λ b. not (is_line_feed b)) bytes))
front-inside bytes (fronts.Blank n) (inr (inr block)) = (omega (arith, block.ends), omega (arith, block.ends, closes_len (drop 2 bytes) block.inner block.closes, length-drop 2 bytes))
front-inside bytes (fronts.Token kind n) (c, longest, limits) = (longest_some bytes kind n longest, longest.token.0)
front-inside bytes (fronts.Fault number n) (inl (one, len, none)) = (omega (arith, len), omega (arith, len, none.more))
front-inside bytes (fronts.Fault number n) (inr (inl (two, len, block))) = (omega (arith, len), omega (arith, len, starts_len bytes (47 ∷ 42 ∷ []) block.opens))
front-inside bytes (fronts.Fault number n) (inr (inr (three, large))) = (longest_some bytes large.kind n large.longest, large.longest.token.0)
