-- The results of searching the lists of keywords and symbols.
use Rattle.heyvl_syntax.proofs.Runs.{and_left, and_right}
use Rattle.heyvl_syntax.specs.internal.Fronts.{all_keys, key_of, keys_from, mark_of, marks_by_length, marks_from}
use Rattle.heyvl_syntax.specs.Keys.{key_text}
use Rattle.heyvl_syntax.specs.Marks.{mark_text}
use Rattle.heyvl_syntax.specs.declared.keys.Key.TheVariants as keys
use Rattle.heyvl_syntax.specs.declared.keys.Key.{Key}
use Rattle.heyvl_syntax.specs.declared.marks.Mark.TheVariants as marks
use Rattle.heyvl_syntax.specs.declared.marks.Mark.{Mark}
use Rattle.std.proofs.Common.{Bool, List, None, Option, Some, [], ap, arith, cond, false, filter, length, nat_eq, nat_le, not, refl, subst, suc, sym, true, zero, ◌&&◌, ◌∙◌, ◌∷◌, ◌≡◌, ◌≤◌, ℕ}
use Rattle.std.proofs.lemmas.Bool.Decides.{nat_tests}
use Rattle.std.specs.Cmp.Lexicographic.{pointwise, same_text}
use Rattle.std.specs.List.{find, list_all, position_or_len, starts_with}

pub find_passes : {X : Type 0} (p : X → Bool) (xs : List X) (x : X) → find p xs ≡ Some x → p x ≡ true
find_passes p [] x h = cc
find_passes {X} p (y ∷ ys) x h = pick (p y) refl h (find_passes p ys x)
  where
    pick : (passes : Bool) → p y ≡ passes → cond passes (Some y) (find p ys) ≡ Some x → (find p ys ≡ Some x → p x ≡ true) → p x ≡ true
    pick true e h later = let same : y ≡ x = cc in subst (λ (z : X). p z ≡ true) same e
    pick false e h later = later h

-- The element at an index.
abbrev pub at : {X : Type 0} → List X → ℕ → Option X
at [] k = None
at (x ∷ xs) zero = Some x
at (x ∷ xs) (suc k) = at xs k

none_passes : {X : Type 0} (p : X → Bool) (xs : List X) (k : ℕ) (y : X) → find p xs ≡ None → at xs k ≡ Some y → p y ≡ false
none_passes p [] k y h e = cc
none_passes {X} p (x ∷ xs) k y h e = pick (p x) refl h (λ j. none_passes p xs j y) k e
  where
    pick : (passes : Bool) → p x ≡ passes → cond passes (Some x) (find p xs) ≡ None → ((j : ℕ) → find p xs ≡ None → at xs j ≡ Some y → p y ≡ false) → (k : ℕ) → at (x ∷ xs) k ≡ Some y → p y ≡ false
    pick true f h later k e = cc
    pick false f h later zero e = let same : x ≡ y = cc in subst (λ (z : X). p z ≡ false) same f
    pick false f h later (suc k) e = later k h e

-- No element is longer than one before it.
abbrev pub falls : {X : Type 0} → (X → ℕ) → List X → Bool
falls len [] = true
falls len (x ∷ xs) = list_all (λ y. nat_le (len y) (len x)) xs && falls len xs

all_at : {X : Type 0} (p : X → Bool) (xs : List X) (k : ℕ) (y : X) → list_all p xs ≡ true → at xs k ≡ Some y → p y ≡ true
all_at p [] k y h e = cc
all_at {X} p (x ∷ xs) zero y h e = let same : x ≡ y = cc in subst (λ (z : X). p z ≡ true) same (and_left (p x) (list_all p xs) h)
all_at p (x ∷ xs) (suc k) y h e = all_at p xs k y (and_right (p x) (list_all p xs) h) e

le_of : (m n : ℕ) → nat_le m n ≡ true → m ≤ n
le_of m n h = grind (arith, nat_tests)

first_is_longest : {X : Type 0} (len : X → ℕ) (p : X → Bool) (xs : List X) (x y : X) (k : ℕ) → falls len xs ≡ true → find p xs ≡ Some x → at xs k ≡ Some y → p y ≡ true → len y ≤ len x
first_is_longest len p [] x y k f h e t = cc
first_is_longest {X} len p (z ∷ zs) x y k f h e t = pick (p z) refl h (λ j. first_is_longest len p zs x y j (and_right (list_all (λ w. nat_le (len w) (len z)) zs) (falls len zs) f)) k e
  where
    pick : (passes : Bool) → p z ≡ passes → cond passes (Some z) (find p zs) ≡ Some x → ((j : ℕ) → find p zs ≡ Some x → at zs j ≡ Some y → p y ≡ true → len y ≤ len x) → (k : ℕ) → at (z ∷ zs) k ≡ Some y → len y ≤ len x
    pick true g h later zero e = let same : y ≡ x = cc in subst (λ (w : X). len y ≤ len w) same (omega arith)
    pick true g h later (suc k) e =
        let same : z ≡ x = cc in
        let below = all_at (λ w. nat_le (len w) (len z)) zs k y (and_left (list_all (λ w. nat_le (len w) (len z)) zs) (falls len zs) f) e in
        subst (λ (w : X). len y ≤ len w) same (le_of (len y) (len z) below)
    pick false g h later zero e =
        let same : z ≡ y = cc in
        let fails : p y ≡ false = subst (λ (w : X). p w ≡ false) same g in
        absurd (cc)
    pick false g h later (suc k) e = later k h e t

pub none_kept : {X : Type 0} (p : X → Bool) (xs : List X) → list_all (λ x. not (p x)) xs ≡ true → filter p xs ≡ []
none_kept p [] h = refl
none_kept {X} p (x ∷ xs) h = pick (p x) refl h (none_kept p xs)
  where
    pick : (passes : Bool) → p x ≡ passes → not passes && list_all (λ y. not (p y)) xs ≡ true → (list_all (λ y. not (p y)) xs ≡ true → filter p xs ≡ []) → cond passes (x ∷ filter p xs) (filter p xs) ≡ []
    pick true e h later = cc
    pick false e h later = later h

-- A search among the filtered elements has the same result, if the filter keeps every element that
-- is searched for.
find_kept : {X : Type 0} (p q : X → Bool) (xs : List X) → ((x : X) → p x ≡ true → q x ≡ true) → find p (filter q xs) ≡ find p xs
find_kept p q [] kept = refl
find_kept {X} p q (x ∷ xs) kept = pick (q x) refl (p x) refl (find_kept p q xs kept)
  where
    pick : (keeps : Bool) → q x ≡ keeps → (passes : Bool) → p x ≡ passes → find p (filter q xs) ≡ find p xs → find p (cond keeps (x ∷ filter q xs) (filter q xs)) ≡ cond (p x) (Some x) (find p xs)
    pick true k passes e later = ap (λ (o : Option X). cond (p x) (Some x) o) later
    pick false k true e later = let no = kept x e in cc
    pick false k false e later = rw e later

-- The text of each keyword yields the keyword.
pub key_read : (key : Key) → key_of (key_text key) ≡ Some key
key_read keys.Proc = refl
key_read _ = refl

pub key_text_of : (text : List ℕ) (key : Key) → key_of text ≡ Some key → text ≡ key_text key
key_text_of text key h = same_text text (key_text key) (sym (find_passes (λ k. pointwise nat_eq text (key_text k)) all_keys key h))

pub no_key_text : (text : List ℕ) → key_of text ≡ None → (key : Key) → key_text key ≡ text → ⊥
no_key_text text h key e =
    let found : key_of text ≡ Some key = subst (λ (t : List ℕ). key_of t ≡ Some key) e (key_read key) in
    cc

pub same_key : (a b : Key) → key_text a ≡ key_text b → a ≡ b
same_key a b e =
    let found : key_of (key_text b) ≡ Some a = subst (λ (t : List ℕ). key_of t ≡ Some a) e (key_read a) in
    let other = key_read b in
    cc

-- The index of each symbol in the list.
mark_place : Mark → ℕ
mark_place mark = position_or_len (λ other. pointwise nat_eq (mark_text other) (mark_text mark)) marks_by_length

mark_at : (mark : Mark) → at marks_by_length (mark_place mark) ≡ Some mark
unfolding mark_place
mark_at marks.ParenLeft = refl
mark_at _ = refl

pub same_mark : (a b : Mark) → mark_text a ≡ mark_text b → a ≡ b
unfolding mark_place
same_mark a b e =
    let place : mark_place a ≡ mark_place b = ap (λ t. position_or_len (λ other. pointwise nat_eq (mark_text other) t) marks_by_length) e in
    let first = mark_at a in
    let second = mark_at b in
    let found : at marks_by_length (mark_place b) ≡ Some a = subst (λ (k : ℕ). at marks_by_length k ≡ Some a) place first in
    cc

pub mark_starts : (bytes : List ℕ) (mark : Mark) → mark_of bytes ≡ Some mark → starts_with nat_eq bytes (mark_text mark) ≡ true
mark_starts bytes mark h = find_passes (λ m. starts_with nat_eq bytes (mark_text m)) marks_by_length mark h

pub mark_longest : (bytes : List ℕ) (mark other : Mark) → mark_of bytes ≡ Some mark → starts_with nat_eq bytes (mark_text other) ≡ true → length (mark_text other) ≤ length (mark_text mark)
mark_longest bytes mark other h t = first_is_longest (λ m. length (mark_text m)) (λ m. starts_with nat_eq bytes (mark_text m)) marks_by_length mark other (mark_place other) refl h (mark_at other) t

pub no_mark_starts : (bytes : List ℕ) → mark_of bytes ≡ None → (mark : Mark) → starts_with nat_eq bytes (mark_text mark) ≡ false
no_mark_starts bytes h mark = none_passes (λ m. starts_with nat_eq bytes (mark_text m)) marks_by_length (mark_place mark) mark h (mark_at mark)

-- If two texts are equal, one begins with the first byte of the other.
starts_alike : (b : ℕ) (bs text : List ℕ) → pointwise nat_eq (b ∷ bs) text ≡ true → starts_with nat_eq text (b ∷ []) ≡ true
starts_alike b bs [] h = cc
starts_alike b bs (c ∷ cs) h =
    let same : nat_eq b c ≡ true = and_left (nat_eq b c) (pointwise nat_eq bs cs) h in
    rw same refl

-- It suffices to search the keywords that begin with the first byte.
key_kept : (b : ℕ) (bs : List ℕ) → find (λ key. pointwise nat_eq (b ∷ bs) (key_text key)) (keys_from b) ≡ key_of (b ∷ bs)
key_kept b bs =
    find_kept (λ key. pointwise nat_eq (b ∷ bs) (key_text key)) (λ key. starts_with nat_eq (key_text key) (b ∷ [])) all_keys
    (λ key. starts_alike b bs (key_text key))

pub key_found : (text : List ℕ) (b : ℕ) (bs : List ℕ) (among : List Key) (found : Option Key) → text ≡ b ∷ bs → among ≡ keys_from b → found ≡ find (λ key. pointwise nat_eq text (key_text key)) among → found ≡ key_of text
key_found text b bs among found is from by =
    let all : found ≡ find (λ key. pointwise nat_eq text (key_text key)) (keys_from b) = subst (λ (keys : List Key). found ≡ find (λ key. pointwise nat_eq text (key_text key)) keys) from by in
    all ∙ subst (λ (s : List ℕ). find (λ key. pointwise nat_eq s (key_text key)) (keys_from b) ≡ key_of s) (sym is) (key_kept b bs)

-- If bytes begin with a nonempty text, the text begins with their first byte.
begins_alike : (b : ℕ) (bs text : List ℕ) → nat_le 1 (length text) ≡ true → starts_with nat_eq (b ∷ bs) text ≡ true → starts_with nat_eq text (b ∷ []) ≡ true
begins_alike b bs [] some h = cc
begins_alike b bs (c ∷ cs) some h =
    let same : nat_eq c b ≡ true = and_left (nat_eq c b) (starts_with nat_eq bs cs) h in
    let turned : nat_eq b c ≡ true = grind (arith, nat_tests) in
    rw turned refl

mark_has_a_byte : (mark : Mark) → nat_le 1 (length (mark_text mark)) ≡ true
mark_has_a_byte marks.ParenLeft = refl
mark_has_a_byte _ = refl

-- It suffices to search the symbols that begin with the first byte.
mark_kept : (b : ℕ) (bs : List ℕ) → find (λ mark. starts_with nat_eq (b ∷ bs) (mark_text mark)) (marks_from b) ≡ mark_of (b ∷ bs)
mark_kept b bs =
    find_kept (λ mark. starts_with nat_eq (b ∷ bs) (mark_text mark)) (λ mark. starts_with nat_eq (mark_text mark) (b ∷ [])) marks_by_length
    (λ mark. begins_alike b bs (mark_text mark) (mark_has_a_byte mark))

pub mark_found : (bytes : List ℕ) (b : ℕ) (bs : List ℕ) (among : List Mark) (found : Option Mark) → bytes ≡ b ∷ bs → among ≡ marks_from b → found ≡ find (λ mark. starts_with nat_eq bytes (mark_text mark)) among → found ≡ mark_of bytes
mark_found bytes b bs among found is from by =
    let all : found ≡ find (λ mark. starts_with nat_eq bytes (mark_text mark)) (marks_from b) = subst (λ (marks : List Mark). found ≡ find (λ mark. starts_with nat_eq bytes (mark_text mark)) marks) from by in
    all ∙ subst (λ (s : List ℕ). find (λ mark. starts_with nat_eq s (mark_text mark)) (marks_from b) ≡ mark_of s) (sym is) (mark_kept b bs)
