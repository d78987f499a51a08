-- The variables that are chosen are those that occur in the rows.
use Rattle.std.proofs.Common.{◌≡◌, ℕ, ◌<◌, List, [], ◌∷◌, ◌++◌, refl, sym, ap, ◌∙◌, subst, arith, Bool, true, false, cond, ◌||◌, eqb, ltb}
use Rattle.std.specs.Prelude.{reverse}
use Prim.Native.Nat.{zero, suc}
use Rattle.std.specs.List.{All, list_any}
use Rattle.std.proofs.lemmas.List.{reverse-append}
use Rattle.std.proofs.lemmas.List.Elements.{All-nil, All-cons, All-head, All-tail, All-append, All-push}
use Rattle.std.proofs.lemmas.List.Folds.{list_any-append}
use Rattle.std.proofs.lemmas.Bool.Decides.{nat_tests}
use Rattle.heyvl_num.specs.Rational.{Rational}
use Rattle.heylo_formula.specs.declared.types.Ty.{Ty}
use Rattle.linear_rows.specs.Row.{Row}
use Rattle.linear_rows.specs.VariableOrder.{occurrences, put_variable, order_of}
use Rattle.linear_rows.specs.GreedyPoint.{Greedy, Chooses}

-- ---- The order has the variables that occur

or_swap : (a b c : Bool) → (a || (b || c)) ≡ (b || (a || c))
or_swap true true c = refl
or_swap true false c = refl
or_swap false b c = refl

put_any : (p : ℕ → Bool) (rows : List Row) (x : ℕ) (ys : List ℕ) → list_any p (put_variable rows x ys) ≡ (p x || list_any p ys)
unfolding put_variable
put_any p rows x [] = refl
put_any p rows x (y ∷ ys) = go (ltb (occurrences x rows) (occurrences y rows)) (put_any p rows x ys)
  where
    go : (b : Bool) → list_any p (put_variable rows x ys) ≡ (p x || list_any p ys) → list_any p (cond b (x ∷ y ∷ ys) (y ∷ put_variable rows x ys)) ≡ (p x || (p y || list_any p ys))
    go true ih = refl
    go false ih = ap (λ b. p y || b) ih ∙ or_swap (p y) (p x) (list_any p ys)

put_all : (P : ℕ → Type 0) (rows : List Row) (x : ℕ) (ys : List ℕ) → P x → All P ys → All P (put_variable rows x ys)
unfolding put_variable
put_all P rows x [] h k = All-cons P x [] h k
put_all P rows x (y ∷ ys) h k = go (ltb (occurrences x rows) (occurrences y rows)) (put_all P rows x ys h (All-tail P y ys k))
  where
    go : (b : Bool) → All P (put_variable rows x ys) → All P (cond b (x ∷ y ∷ ys) (y ∷ put_variable rows x ys))
    go true ih = All-cons P x (y ∷ ys) h k
    go false ih = All-cons P y _ (All-head P y ys k) ih

order_occurs : (rows : List Row) (n : ℕ) → All (λ x. 0 < occurrences x rows) (order_of rows n)
unfolding order_of
order_occurs rows zero = All-nil _
order_occurs rows (suc n) = go (ltb 0 (occurrences n rows)) refl (order_occurs rows n)
  where
    go : (b : Bool) → ltb 0 (occurrences n rows) ≡ b → All (λ x. 0 < occurrences x rows) (order_of rows n) → All (λ x. 0 < occurrences x rows) (cond b (put_variable rows n (order_of rows n)) (order_of rows n))
    go true e ih = put_all (λ x. 0 < occurrences x rows) rows n (order_of rows n) (grind (arith, nat_tests)) ih
    go false e ih = ih

in_order : (rows : List Row) (n x : ℕ) → x < n → 0 < occurrences x rows → list_any (λ y. eqb y x) (order_of rows n) ≡ true
unfolding order_of
in_order rows zero x l o = absurd (omega (arith, l))
in_order rows (suc n) x l o = go (eqb n x) refl (ltb 0 (occurrences n rows)) refl (in_order rows n x)
  where
    go : (a : Bool) → eqb n x ≡ a → (b : Bool) → ltb 0 (occurrences n rows) ≡ b → (x < n → 0 < occurrences x rows → list_any (λ y. eqb y x) (order_of rows n) ≡ true) → list_any (λ y. eqb y x) (cond b (put_variable rows n (order_of rows n)) (order_of rows n)) ≡ true
    go true e true f ih = put_any (λ y. eqb y x) rows n (order_of rows n) ∙ ap (λ b. b || list_any (λ y. eqb y x) (order_of rows n)) e
    go true e false f ih = absurd (let i : n ≡ x = grind arith in let j : 0 < occurrences n rows = subst (λ y. 0 < occurrences y rows) (sym i) o in grind (arith, nat_tests))
    go false e true f ih = put_any (λ y. eqb y x) rows n (order_of rows n) ∙ ap (λ b. b || list_any (λ y. eqb y x) (order_of rows n)) e ∙ ih (grind (arith, l)) o
    go false e false f ih = ih (grind (arith, l)) o

-- ---- The converse

or_comm : (a b : Bool) → (a || (b || false)) ≡ (b || a)
or_comm true true = refl
or_comm true false = refl
or_comm false true = refl
or_comm false false = refl

reverse_any : (p : ℕ → Bool) (xs : List ℕ) → list_any p (reverse xs) ≡ list_any p xs
reverse_any p [] = refl
reverse_any p (x ∷ xs) = ap (list_any p) (reverse-append (x ∷ []) xs) ∙ list_any-append p (reverse xs) (x ∷ []) ∙ ap (λ b. b || (p x || false)) (reverse_any p xs) ∙ or_comm (list_any p xs) (p x)

reverse_all : (P : ℕ → Type 0) (xs : List ℕ) → All P xs → All P (reverse xs)
reverse_all P [] h = h
reverse_all P (x ∷ xs) h = subst (All P) (sym (reverse-append (x ∷ []) xs)) (All-append P (reverse xs) (x ∷ []) (reverse_all P xs (All-tail P x xs h)) (All-cons P x [] (All-head P x xs h) (All-nil P)))

pub turned_order : (rows : List Row) (n x : ℕ) → x < n → 0 < occurrences x rows → list_any (λ y. eqb y x) (reverse (order_of rows n)) ≡ true
turned_order rows n x l o = reverse_any (λ y. eqb y x) (order_of rows n) ∙ in_order rows n x l o

pub turned_occurs : (rows : List Row) (n : ℕ) → All (λ x. 0 < occurrences x rows) (reverse (order_of rows n))
turned_occurs rows n = reverse_all (λ x. 0 < occurrences x rows) (order_of rows n) (order_occurs rows n)

-- ---- Chosen variables

moved : (a b c : Bool) → ((a || b) || c) ≡ (b || (c || (a || false)))
moved true true c = refl
moved true false true = refl
moved true false false = refl
moved false true c = refl
moved false false true = refl
moved false false false = refl

pub chosen_any : (rows : List Row) (vars : List Ty) (x : ℕ) (xs : List ℕ) (cs ds : List (ℕ × Rational)) → Chooses rows vars xs cs (Greedy.chose ds) → (list_any (λ y. eqb y x) xs || list_any (λ c. eqb c.0 x) cs) ≡ true → list_any (λ c. eqb c.0 x) ds ≡ true
chosen_any rows vars x _ _ ds (Chooses.ends _) h = h
chosen_any rows vars x _ cs ds (Chooses.takes y ys _ i v _ a c r) h = chosen_any rows vars x ys (cs ++ (y, v) ∷ []) ds r (ap (λ b. list_any (λ z. eqb z x) ys || b) (list_any-append (λ c. eqb c.0 x) cs ((y, v) ∷ [])) ∙ sym (moved (eqb y x) (list_any (λ z. eqb z x) ys) (list_any (λ c. eqb c.0 x) cs)) ∙ h)

pub chosen_all : (P : ℕ → Type 0) (rows : List Row) (vars : List Ty) (xs : List ℕ) (cs ds : List (ℕ × Rational)) → Chooses rows vars xs cs (Greedy.chose ds) → All P xs → All (λ c. P c.0) cs → All (λ c. P c.0) ds
chosen_all P rows vars _ _ ds (Chooses.ends _) h k = k
chosen_all P rows vars _ cs ds (Chooses.takes y ys _ i v _ a c r) h k = chosen_all P rows vars ys (cs ++ (y, v) ∷ []) ds r (All-tail P y ys h) (All-push (λ c. P c.0) cs (y, v) k (All-head P y ys h))
