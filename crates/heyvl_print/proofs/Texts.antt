-- The bytes of combined pieces.
use Rattle.heyvl_print.specs.Pieces.{Piece, comma, each, margin, piece_text, separated, text_of, token, token_text, word}
use Rattle.heyvl_syntax.specs.declared.tokens.TokenKind.{TokenKind}
use Rattle.std.proofs.Common.{List, [], ap, append_assoc, arith, codes, get_or, length, map, refl, replicate, subst, suc, sym, take, zero, ◌++◌, ◌+◌, ◌<◌, ◌≤◌, ◌∙◌, ◌∷◌, ◌≡◌, ℕ}
use Rattle.std.proofs.Math.Seq.{take-suc}
use Rattle.std.proofs.lemmas.List.{append-nil, map-append, take_all}

pub text_append : (xs ys : List Piece) → text_of (xs ++ ys) ≡ text_of xs ++ text_of ys
text_append [] ys = refl
text_append (x ∷ xs) ys = ap (λ (z : List ℕ). piece_text x ++ z) (text_append xs ys) ∙ sym (append_assoc (piece_text x) (text_of xs) (text_of ys))

pub text_margin : (n : ℕ) → text_of (margin n) ≡ replicate n 32
text_margin zero = refl
text_margin (suc n) = ap (λ (z : List ℕ). 32 ∷ z) (text_margin n)

pub each_append : {A : Type 0} (f : A → List Piece) (xs ys : List A) → text_of (each f (xs ++ ys)) ≡ text_of (each f xs) ++ text_of (each f ys)
each_append f [] ys = refl
each_append f (x ∷ xs) ys =
    rw (text_append (f x) (each f (xs ++ ys)), each_append f xs ys, text_append (f x) (each f xs)) (sym (append_assoc (text_of (f x)) (text_of (each f xs)) (text_of (each f ys))))

-- One more item, at the index `k` of a mapped list.
pub item_next : {A B : Type 0} (g : B → A) (f : A → List Piece) (xs : List B) (k : ℕ) (x : B) (t0 t1 t2 : List ℕ) → k < length xs → x ≡ get_or xs k x →
    t1 ≡ t0 ++ text_of (each f (map g (take k xs))) → t2 ≡ t1 ++ text_of (f (g x)) → t2 ≡ t0 ++ text_of (each f (map g (take (k + 1) xs)))
item_next {B = B} g f xs k x t0 t1 t2 less is e h =
    let one : k + 1 ≡ suc k = omega arith in
    let more : take (suc k) xs ≡ take k xs ++ (x ∷ []) = subst (λ (y : B). take (suc k) xs ≡ take k xs ++ (y ∷ [])) (sym is) (take-suc xs k x less) in
    rw (one, more, map-append g (take k xs) (x ∷ []), each_append f (map g (take k xs)) (g x ∷ []), append-nil (f (g x)), h, e) (append_assoc t0 (text_of (each f (map g (take k xs)))) (text_of (f (g x))))

pub plain_item_next : {A : Type 0} (f : A → List Piece) (xs : List A) (k : ℕ) (x : A) (t0 t1 t2 : List ℕ) → k < length xs → x ≡ get_or xs k x →
    t1 ≡ t0 ++ text_of (each f (take k xs)) → t2 ≡ t1 ++ text_of (f x) → t2 ≡ t0 ++ text_of (each f (take (k + 1) xs))
plain_item_next {A} f xs k x t0 t1 t2 less is e h =
    let one : k + 1 ≡ suc k = omega arith in
    let more : take (suc k) xs ≡ take k xs ++ (x ∷ []) = subst (λ (y : A). take (suc k) xs ≡ take k xs ++ (y ∷ [])) (sym is) (take-suc xs k x less) in
    rw (one, more, each_append f (take k xs) (x ∷ []), append-nil (f x), h, e) (append_assoc t0 (text_of (each f (take k xs))) (text_of (f x)))

pub after_comma : (ps : List Piece) (t0 t1 t2 : List ℕ) → t1 ≡ t0 ++ codes ", " → t2 ≡ t1 ++ text_of ps → t2 ≡ t0 ++ text_of (comma ++ ps)
after_comma ps t0 t1 t2 e f = rw (f, e) (append_assoc t0 (codes ", ") (text_of ps))

-- A nonempty list, printed with a separator.
pub separated_text : {A B : Type 0} (g : B → A) (separator : List Piece) (f : A → List Piece) (x : B) (xs all : List B) (t0 t1 t2 : List ℕ) → all ≡ x ∷ xs →
    t1 ≡ t0 ++ text_of (f (g x)) → t2 ≡ t1 ++ text_of (each (λ y. separator ++ f y) (map g xs)) → t2 ≡ t0 ++ text_of (separated separator f (map g all))
separated_text g separator f x xs all t0 t1 t2 is e h =
    rw (is, h, e, text_append (f (g x)) (each (λ y. separator ++ f y) (map g xs))) (append_assoc t0 (text_of (f (g x))) (text_of (each (λ y. separator ++ f y) (map g xs))))

pub name_text : (x t0 t1 : List ℕ) → t1 ≡ t0 ++ x → t1 ≡ t0 ++ text_of (word x)
name_text x t0 t1 e = rw (append-nil x) e

-- A nonempty list, printed with a separator, after the loop over its other items.
pub separated_done : {A B : Type 0} (g : B → A) (separator : List Piece) (f : A → List Piece) (x : B) (xs all : List B) (k : ℕ) (t0 t1 t2 : List ℕ) → all ≡ x ∷ xs → length xs ≤ k →
    t1 ≡ t0 ++ text_of (f (g x)) → t2 ≡ t1 ++ text_of (each (λ y. separator ++ f y) (map g (take k xs))) → t2 ≡ t0 ++ text_of (separated separator f (map g all))
separated_done g separator f x xs all k t0 t1 t2 is over e h = separated_text g separator f x xs all t0 t1 t2 is e (rw (← take_all k xs over) h)

pub each_done : {A B : Type 0} (g : B → A) (f : A → List Piece) (xs : List B) (k : ℕ) (t0 t1 : List ℕ) → length xs ≤ k → t1 ≡ t0 ++ text_of (each f (map g (take k xs))) → t1 ≡ t0 ++ text_of (each f (map g xs))
each_done g f xs k t0 t1 over h = rw (← take_all k xs over) h

-- One list of pieces after another.
pub after : (ps qs : List Piece) (t0 t1 t2 : List ℕ) → t1 ≡ t0 ++ text_of ps → t2 ≡ t1 ++ text_of qs → t2 ≡ t0 ++ text_of (ps ++ qs)
after ps qs t0 t1 t2 e f = f ∙ ap (λ (z : List ℕ). z ++ text_of qs) e ∙ append_assoc t0 (text_of ps) (text_of qs) ∙ ap (λ (z : List ℕ). t0 ++ z) (sym (text_append ps qs))

pub margin_after : (n : ℕ) (t0 t1 : List ℕ) → t1 ≡ t0 ++ replicate n 32 → t1 ≡ t0 ++ text_of (margin n)
margin_after n t0 t1 e = e ∙ ap (λ (z : List ℕ). t0 ++ z) (sym (text_margin n))

pub token_after : (kind : TokenKind) (t0 t1 : List ℕ) → t1 ≡ t0 ++ token_text kind → t1 ≡ t0 ++ text_of (token kind ∷ [])
token_after kind t0 t1 e = e ∙ ap (λ (z : List ℕ). t0 ++ z) (sym (append-nil (token_text kind)))
