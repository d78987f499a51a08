-- Bytes are split in at most one way, up to their end or to the leftmost error.
use Rattle.heyvl_places.specs.declared.spans.Span.{Span}
use Rattle.heyvl_syntax.proofs.FrontIs.{block_first, line_first}
use Rattle.heyvl_syntax.proofs.Longest.{same_first, token_no_white}
use Rattle.heyvl_syntax.proofs.Runs.{and_left, and_right, not_true}
use Rattle.heyvl_syntax.proofs.Starts.{BeginsBy, digit_opens_no_word, letter_opens_word, opens_word, token_begins}
use Rattle.heyvl_syntax.proofs.Tables.{same_key, same_mark}
use Rattle.heyvl_syntax.specs.Bytes.{is_white}
use Rattle.heyvl_syntax.specs.Comments.{IsBlockComment, IsLineComment, opens_block, opens_comment, opens_line}
use Rattle.heyvl_syntax.specs.Tokens.{IsFault, IsLongest, IsPart, IsToken, IsWhite, Lexes, Part, Splits, Stops, StopsAfter, comment, is_beyond_limits, span_of, token, tokens_of, white}
use Rattle.heyvl_syntax.specs.declared.tokens.Token.{Token}
use Rattle.heyvl_syntax.specs.declared.tokens.TokenKind.TheVariants as kinds
use Rattle.heyvl_syntax.specs.declared.tokens.TokenKind.{TokenKind}
use Rattle.std.proofs.Common.{Bool, List, [], ap, ap₂, arith, drop, false, inl, inr, not, refl, subst, sym, take, true, ◌&&◌, ◌++◌, ◌+◌, ◌<◌, ◌||◌, ◌∙◌, ◌∷◌, ◌≡◌, ◌⊎◌, ℕ}
use Rattle.std.proofs.lemmas.Bool.{cases_order}
use Rattle.std.proofs.lemmas.List.{take-append-drop}
use Rattle.std.specs.Char.{is_ascii_digit}
use Rattle.std.specs.Cmp.Lexicographic.{same_text}

-- No symbol begins with a first byte of an identifier or a keyword, or with a digit.
mark_no_word : (b : ℕ) → not (opens_word b) && (not (is_ascii_digit b) && not (is_white b)) ≡ true → opens_word b ≡ false
mark_no_word b h = not_true (opens_word b) (and_left (not (opens_word b)) (not (is_ascii_digit b) && not (is_white b)) h)

mark_no_digit : (b : ℕ) → not (opens_word b) && (not (is_ascii_digit b) && not (is_white b)) ≡ true → is_ascii_digit b ≡ false
mark_no_digit b h =
    not_true (is_ascii_digit b) (and_left (not (is_ascii_digit b)) (not (is_white b)) (and_right (not (opens_word b)) (not (is_ascii_digit b) && not (is_white b)) h))

by_first : (k j : TokenKind) (text rest : List ℕ) (b : ℕ) (cs ds : List ℕ) → BeginsBy k b cs → BeginsBy j b ds → IsToken k text rest → IsToken j text rest → k ≡ j
by_first (kinds.Word n) (kinds.Word m) text rest b cs ds f g s t = ap kinds.Word (s.0 ∙ sym t.0)
by_first (kinds.Word n) (kinds.Number m) text rest b cs ds f g s t = let yes = letter_opens_word b f.0 in let no = digit_opens_no_word b g in absurd (cc)
by_first (kinds.Word n) (kinds.Key m) text rest b cs ds f g s t = absurd (s.2 m (sym t.0))
by_first (kinds.Word n) (kinds.Mark m) text rest b cs ds f g s t = let yes = letter_opens_word b f.0 in let no = mark_no_word b g in absurd (cc)
by_first (kinds.Number n) (kinds.Word m) text rest b cs ds f g s t = let yes = letter_opens_word b g.0 in let no = digit_opens_no_word b f in absurd (cc)
by_first (kinds.Number n) (kinds.Number m) text rest b cs ds f g s t = ap kinds.Number (s.0 ∙ sym t.0)
by_first (kinds.Number n) (kinds.Key m) text rest b cs ds f g s t = let yes = g.0 in let no = digit_opens_no_word b f in absurd (cc)
by_first (kinds.Number n) (kinds.Mark m) text rest b cs ds f g s t = let no = mark_no_digit b g in absurd (cc)
by_first (kinds.Key n) (kinds.Word m) text rest b cs ds f g s t = absurd (t.2 n (sym s.0))
by_first (kinds.Key n) (kinds.Number m) text rest b cs ds f g s t = let yes = f.0 in let no = digit_opens_no_word b g in absurd (cc)
by_first (kinds.Key n) (kinds.Key m) text rest b cs ds f g s t = ap kinds.Key (same_key n m (sym s.0 ∙ t.0))
by_first (kinds.Key n) (kinds.Mark m) text rest b cs ds f g s t = let yes = f.0 in let no = mark_no_word b g in absurd (cc)
by_first (kinds.Mark n) (kinds.Word m) text rest b cs ds f g s t = let yes = letter_opens_word b g.0 in let no = mark_no_word b f in absurd (cc)
by_first (kinds.Mark n) (kinds.Number m) text rest b cs ds f g s t = let no = mark_no_digit b f in absurd (cc)
by_first (kinds.Mark n) (kinds.Key m) text rest b cs ds f g s t = let yes = g.0 in let no = mark_no_word b f in absurd (cc)
by_first (kinds.Mark n) (kinds.Mark m) text rest b cs ds f g s t = ap kinds.Mark (same_mark n m (sym s ∙ t))

-- A text that is followed by a given rest is at most one token.
pub token_unique : (k j : TokenKind) (text rest : List ℕ) → IsToken k text rest → IsToken j text rest → k ≡ j
token_unique k j text rest s t =
    let begins = token_begins k text rest s in
    let all : text ++ rest ≡ begins.byte ∷ (begins.behind ++ rest) = ap (λ (z : List ℕ). z ++ rest) begins.same in
    let (ds, same, by) = same_first j text rest begins.byte (begins.behind ++ rest) t all in
    by_first k j text rest begins.byte begins.behind ds begins.by_kind by s t

pub longest_unique : (bytes : List ℕ) (k j : TokenKind) (n m : ℕ) → IsLongest bytes k n → IsLongest bytes j m → (n ≡ m) × (k ≡ j)
longest_unique bytes k j n m s t = pick (cases_order n m)
  where
    pick : (n ≡ m) ⊎ ((n < m) ⊎ (m < n)) → (n ≡ m) × (k ≡ j)
    pick (inl e) =
        let other : IsToken j (take n bytes) (drop n bytes) = subst (λ (z : ℕ). IsToken j (take z bytes) (drop z bytes)) (sym e) t.token.1 in
        (e, token_unique k j (take n bytes) (drop n bytes) s.token.1 other)
    pick (inr (inl less)) = absurd (s.longest j m less t.token)
    pick (inr (inr less)) = absurd (t.longest k n less s.token)

-- White space, comments and tokens exclude each other.
line_opens : (bytes : List ℕ) → opens_line bytes ≡ true → opens_comment bytes ≡ true
line_opens bytes h = rw h refl

or_right : (x y : Bool) → y ≡ true → x || y ≡ true
or_right true y h = refl
or_right false y h = h

block_opens : (bytes : List ℕ) → opens_block bytes ≡ true → opens_comment bytes ≡ true
block_opens bytes h = or_right (opens_line bytes) (opens_block bytes) h

line_no_block : (bytes : List ℕ) → opens_line bytes ≡ true → opens_block bytes ≡ true → ⊥
line_no_block bytes l b =
    let line : 47 ∷ 47 ∷ [] ≡ take 2 bytes = same_text (47 ∷ 47 ∷ []) (take 2 bytes) (sym l) in
    let block : 47 ∷ 42 ∷ [] ≡ take 2 bytes = same_text (47 ∷ 42 ∷ []) (take 2 bytes) (sym b) in
    let no : ◌≡◌ {A = ℕ} 47 42 = cc in
    omega arith

block_unique : (bytes : List ℕ) (n m : ℕ) → IsBlockComment bytes n → IsBlockComment bytes m → n ≡ m
block_unique bytes n m s t = pick (cases_order s.inner t.inner)
  where
    pick : (s.inner ≡ t.inner) ⊎ ((s.inner < t.inner) ⊎ (t.inner < s.inner)) → n ≡ m
    pick (inl e) = omega (arith, e, s.ends, t.ends)
    pick (inr (inl less)) = let no = t.first s.inner less in let yes = s.closes in absurd (cc)
    pick (inr (inr less)) = let no = s.first t.inner less in let yes = t.closes in absurd (cc)

comment_unique : (bytes : List ℕ) (n m : ℕ) → IsLineComment bytes n ⊎ IsBlockComment bytes n → IsLineComment bytes m ⊎ IsBlockComment bytes m → n ≡ m
comment_unique bytes n m (inl s) (inl t) = s.ends ∙ sym t.ends
comment_unique bytes n m (inl s) (inr t) = absurd (line_no_block bytes s.opens t.opens)
comment_unique bytes n m (inr s) (inl t) = absurd (line_no_block bytes t.opens s.opens)
comment_unique bytes n m (inr s) (inr t) = block_unique bytes n m s t

comment_opens : (bytes : List ℕ) (n : ℕ) → IsLineComment bytes n ⊎ IsBlockComment bytes n → opens_comment bytes ≡ true
comment_opens bytes n (inl s) = line_opens bytes s.opens
comment_opens bytes n (inr s) = block_opens bytes s.opens

slash_no_white : (b : ℕ) → b ≡ 47 → is_white b ≡ true → ⊥
slash_no_white b e h = let yes : is_white 47 ≡ true = subst (λ (z : ℕ). is_white z ≡ true) e h in cc

white_no_line : (bytes : List ℕ) → IsWhite bytes → opens_line bytes ≡ true → ⊥
white_no_line [] w h = w
white_no_line (b ∷ bs) w h = slash_no_white b (line_first b bs h) w

white_no_block : (bytes : List ℕ) → IsWhite bytes → opens_block bytes ≡ true → ⊥
white_no_block [] w h = w
white_no_block (b ∷ bs) w h = slash_no_white b (block_first b bs h) w

white_no_comment : (bytes : List ℕ) (n : ℕ) → IsWhite bytes → IsLineComment bytes n ⊎ IsBlockComment bytes n → ⊥
white_no_comment bytes n w (inl s) = white_no_line bytes w s.opens
white_no_comment bytes n w (inr s) = white_no_block bytes w s.opens

white_no_token : (bytes : List ℕ) (kind : TokenKind) (n : ℕ) → IsWhite bytes → IsLongest bytes kind n → ⊥
white_no_token [] kind n w s = w
white_no_token (b ∷ bs) kind n w s =
    let no = token_no_white kind (take n (b ∷ bs)) (drop n (b ∷ bs)) b bs s.token.1 (take-append-drop n (b ∷ bs)) in
    let yes : is_white b ≡ true = w in
    cc

comment_no_token : (bytes : List ℕ) (n : ℕ) → IsLineComment bytes n ⊎ IsBlockComment bytes n → opens_comment bytes ≡ false → ⊥
comment_no_token bytes n s h = let yes = comment_opens bytes n s in cc

-- The parts `p` and `q` are equal, and have the same length.
pub record IsSamePart (p q : Part) (n m : ℕ) : Type 0 where
  pub part : p ≡ q
  pub len : n ≡ m

token_same : (place : ℕ) (t u : Token) (n m : ℕ) → t.kind ≡ u.kind → t.span ≡ span_of place n → u.span ≡ span_of place m → n ≡ m → t ≡ u
token_same place t u n m kind first second len =
    let spans : t.span ≡ u.span = first ∙ ap (span_of place) len ∙ sym second in
    let join : TokenKind → Span → Token = λ k s. record { kind = k; span = s } in
    ap₂ join kind spans

pub part_unique : (place : ℕ) (bytes : List ℕ) (p q : Part) (n m : ℕ) → IsPart place bytes p n → IsPart place bytes q m → IsSamePart p q n m
part_unique place bytes white white n m s t = record { part = refl; len = s.1 ∙ sym t.1 }
part_unique place bytes white comment n m s t = absurd (white_no_comment bytes m s.0 t)
part_unique place bytes white (token u) n m s t = absurd (white_no_token bytes u.kind m s.0 t.1)
part_unique place bytes comment white n m s t = absurd (white_no_comment bytes n t.0 s)
part_unique place bytes comment comment n m s t = record { part = refl; len = comment_unique bytes n m s t }
part_unique place bytes comment (token u) n m s t = absurd (comment_no_token bytes n s t.0)
part_unique place bytes (token u) white n m s t = absurd (white_no_token bytes u.kind n t.0 s.1)
part_unique place bytes (token u) comment n m s t = absurd (comment_no_token bytes m t s.0)
part_unique place bytes (token u) (token v) n m s t =
    let same = longest_unique bytes u.kind v.kind n m s.1 t.1 in
    record { part = ap token (token_same place u v n m same.1 s.3 t.3 same.0); len = same.0 }

-- No part begins where an error is.
pub fault_no_part : (place : ℕ) (bytes : List ℕ) (p : Part) (number n m : ℕ) → IsFault bytes number n → IsPart place bytes p m → ⊥
fault_no_part place bytes white number n m (inl (one, len, none)) s = none.no_white s.0
fault_no_part place bytes comment number n m (inl (one, len, none)) s = comment_no_token bytes m s none.no_comment
fault_no_part place bytes (token u) number n m (inl (one, len, none)) s = none.no_token u.kind m s.1.token
fault_no_part place bytes white number n m (inr (inl (two, len, f))) s = white_no_block bytes s.0 f.opens
fault_no_part place bytes comment number n m (inr (inl (two, len, f))) (inl s) = line_no_block bytes s.opens f.opens
fault_no_part place bytes comment number n m (inr (inl (two, len, f))) (inr s) = let no = f.never s.inner in let yes = s.closes in cc
fault_no_part place bytes (token u) number n m (inr (inl (two, len, f))) s = let yes = block_opens bytes f.opens in let no = s.0 in cc
fault_no_part place bytes white number n m (inr (inr (three, f))) s = white_no_token bytes f.kind n s.0 f.longest
fault_no_part place bytes comment number n m (inr (inr (three, f))) s = comment_no_token bytes m s f.no_comment
fault_no_part place bytes (token u) number n m (inr (inr (three, f))) s =
    let same = longest_unique bytes f.kind u.kind n m f.longest s.1 in
    let beyond : is_beyond_limits u.kind (take m bytes) ≡ true = subst (λ (k : TokenKind). is_beyond_limits k (take m bytes) ≡ true) same.1 (subst (λ (z : ℕ). is_beyond_limits f.kind (take z bytes) ≡ true) same.0 f.beyond) in
    let within = s.2 in
    cc

pub fault_unique : (bytes : List ℕ) (number other n m : ℕ) → IsFault bytes number n → IsFault bytes other m → (number ≡ other) × (n ≡ m)
fault_unique bytes number other n m (inl (one, len, f)) (inl (two, width, g)) = (one ∙ sym two, len ∙ sym width)
fault_unique bytes number other n m (inl (one, len, f)) (inr (inl (two, width, g))) = let yes = block_opens bytes g.opens in let no = f.no_comment in absurd (cc)
fault_unique bytes number other n m (inl (one, len, f)) (inr (inr (two, g))) = absurd (f.no_token g.kind m g.longest.token)
fault_unique bytes number other n m (inr (inl (one, len, f))) (inl (two, width, g)) = let yes = block_opens bytes f.opens in let no = g.no_comment in absurd (cc)
fault_unique bytes number other n m (inr (inl (one, len, f))) (inr (inl (two, width, g))) = (one ∙ sym two, len ∙ sym width)
fault_unique bytes number other n m (inr (inl (one, len, f))) (inr (inr (two, g))) = let yes = block_opens bytes f.opens in let no = g.no_comment in absurd (cc)
fault_unique bytes number other n m (inr (inr (one, f))) (inl (two, width, g)) = absurd (g.no_token f.kind n f.longest.token)
fault_unique bytes number other n m (inr (inr (one, f))) (inr (inl (two, width, g))) = let yes = block_opens bytes g.opens in let no = f.no_comment in absurd (cc)
fault_unique bytes number other n m (inr (inr (one, f))) (inr (inr (two, g))) = (one ∙ sym two, (longest_unique bytes f.kind g.kind n m f.longest g.longest).0)

-- Neither a part nor an error is at the end.
no_part_at_end : (place : ℕ) (p : Part) (n : ℕ) → IsPart place [] p n → ⊥
no_part_at_end place white n s = s.0
no_part_at_end place comment n (inl s) = let h = s.opens in cc
no_part_at_end place comment n (inr s) = let h = s.opens in cc
no_part_at_end place (token t) n s =
    let begins = token_begins t.kind (take n []) (drop n []) s.1.token.1 in
    let all : begins.byte ∷ (begins.behind ++ drop n []) ≡ [] = subst (λ (z : List ℕ). z ++ drop n [] ≡ []) begins.same (take-append-drop n []) in
    cc

no_fault_at_end : (number n : ℕ) → IsFault [] number n → ⊥
no_fault_at_end number n (inl (one, len, f)) = omega (arith, f.more)
no_fault_at_end number n (inr (inl (two, len, f))) = let h = f.opens in cc
no_fault_at_end number n (inr (inr (three, f))) =
    let begins = token_begins f.kind (take n []) (drop n []) f.longest.token.1 in
    let all : begins.byte ∷ (begins.behind ++ drop n []) ≡ [] = subst (λ (z : List ℕ). z ++ drop n [] ≡ []) begins.same (take-append-drop n []) in
    cc

-- The parts are unique, and so are the tokens.
splits_unique : (place : ℕ) (bytes : List ℕ) (ps qs : List Part) → Splits place bytes ps → Splits place bytes qs → ps ≡ qs
splits_unique place bytes [] [] s t = refl
splits_unique place bytes [] (q ∷ qs) s t = absurd (no_part_at_end place q t.0 (subst (λ (z : List ℕ). IsPart place z q t.0) s t.1))
splits_unique place bytes (p ∷ ps) [] s t = absurd (no_part_at_end place p s.0 (subst (λ (z : List ℕ). IsPart place z p s.0) t s.1))
splits_unique place bytes (p ∷ ps) (q ∷ qs) (n, here, later) (m, other, rest) =
    let same = part_unique place bytes p q n m here other in
    let aligned : Splits (place + n) (drop n bytes) qs = subst (λ (z : ℕ). Splits (place + z) (drop z bytes) qs) (sym same.len) rest in
    let tail = splits_unique (place + n) (drop n bytes) ps qs later aligned in
    ap₂ (λ (x : Part) (xs : List Part). x ∷ xs) same.part tail

pub lexes_unique : (place : ℕ) (bytes : List ℕ) (tokens others : List Token) → Lexes place bytes tokens → Lexes place bytes others → tokens ≡ others
lexes_unique place bytes tokens others s t =
    sym s.are_tokens ∙ ap tokens_of (splits_unique place bytes s.parts t.parts s.splits t.splits) ∙ t.are_tokens

split_no_stop : (place : ℕ) (bytes : List ℕ) (ps qs : List Part) (number : ℕ) (span : Span) → Splits place bytes ps → StopsAfter place bytes qs number span → ⊥
split_no_stop place bytes [] [] number span s (n, fault, at) = no_fault_at_end number n (subst (λ (z : List ℕ). IsFault z number n) s fault)
split_no_stop place bytes [] (q ∷ qs) number span s (m, here, rest) = no_part_at_end place q m (subst (λ (z : List ℕ). IsPart place z q m) s here)
split_no_stop place bytes (p ∷ ps) [] number span (n, here, later) (m, fault, at) = fault_no_part place bytes p number m n fault here
split_no_stop place bytes (p ∷ ps) (q ∷ qs) number span (n, here, later) (m, other, rest) =
    let same = part_unique place bytes p q n m here other in
    let aligned : StopsAfter (place + n) (drop n bytes) qs number span = subst (λ (z : ℕ). StopsAfter (place + z) (drop z bytes) qs number span) (sym same.len) rest in
    split_no_stop (place + n) (drop n bytes) ps qs number span later aligned

pub lexes_no_stop : (place : ℕ) (bytes : List ℕ) (tokens : List Token) (number : ℕ) (span : Span) → Lexes place bytes tokens → Stops place bytes number span → ⊥
lexes_no_stop place bytes tokens number span s t = split_no_stop place bytes s.parts t.parts number span s.splits t.stops

stop_unique : (place : ℕ) (bytes : List ℕ) (ps qs : List Part) (number other : ℕ) (span at : Span) → StopsAfter place bytes ps number span → StopsAfter place bytes qs other at → (number ≡ other) × (span ≡ at)
stop_unique place bytes [] [] number other span at (n, fault, is) (m, second, was) =
    let same = fault_unique bytes number other n m fault second in
    (same.0, is ∙ ap (span_of place) same.1 ∙ sym was)
stop_unique place bytes [] (q ∷ qs) number other span at (n, fault, is) (m, here, rest) = absurd (fault_no_part place bytes q number n m fault here)
stop_unique place bytes (p ∷ ps) [] number other span at (n, here, later) (m, fault, was) = absurd (fault_no_part place bytes p other m n fault here)
stop_unique place bytes (p ∷ ps) (q ∷ qs) number other span at (n, here, later) (m, second, rest) =
    let same = part_unique place bytes p q n m here second in
    let aligned : StopsAfter (place + n) (drop n bytes) qs other at = subst (λ (z : ℕ). StopsAfter (place + z) (drop z bytes) qs other at) (sym same.len) rest in
    stop_unique (place + n) (drop n bytes) ps qs number other span at later aligned

pub stops_unique : (place : ℕ) (bytes : List ℕ) (number other : ℕ) (span at : Span) → Stops place bytes number span → Stops place bytes other at → (number ≡ other) × (span ≡ at)
stops_unique place bytes number other span at s t = stop_unique place bytes s.parts t.parts number other span at s.stops t.stops
