-- The lines of a text: their number, and that there is one.
use Rattle.run_script.specs.Lines.{without_last_feed}
use Rattle.std.proofs.Common.{Bool, List, [], ap, arith, cond, false, if◌then◌else◌, length, map, refl, sym, true, ◌+◌, ◌++◌, ◌<◌, ◌==◌, ◌||◌, ◌∙◌, ◌∷◌, ◌≡◌, ◌≤◌, ℕ}
use Rattle.std.proofs.lemmas.List.Splits.{length-slice_split}
use Rattle.std.proofs.lemmas.List.Sums.{count_by-le-length}
use Rattle.std.proofs.lemmas.List.{length-map}
use Rattle.std.specs.List.{list_any, slice_split}

pub any_map : {A B : Type 0} (p : B → Bool) (f : A → B) (xs : List A) → list_any (λ x. p (f x)) xs ≡ list_any p (map f xs)
any_map p f [] = refl
any_map p f (x ∷ xs) = ap (λ rest. p (f x) || rest) (any_map p f xs)

cons_if : (c : Bool) (a : ℕ) (front : List ℕ) (b : ℕ) → a ∷ cond c front (front ++ b ∷ []) ≡ cond c (a ∷ front) (a ∷ (front ++ b ∷ []))
cons_if true a front b = refl
cons_if false a front b = refl

feed_behind : (front : List ℕ) (b : ℕ) → without_last_feed (front ++ b ∷ []) ≡ (if b == 10 then front else front ++ b ∷ [])
feed_behind [] b = refl
feed_behind (a ∷ []) b = cons_if (b == 10) a [] b
feed_behind (a ∷ (c ∷ more)) b = ap (λ rest. a ∷ rest) (feed_behind (c ∷ more) b) ∙ cons_if (b == 10) a (c ∷ more) b

pub last_feed : (text front : List ℕ) (b : ℕ) → text ≡ front ++ b ∷ [] → b ≡ 10 → without_last_feed text ≡ front
last_feed text front b e same = rw (e, same) (feed_behind front 10)

pub no_last_feed : (text front : List ℕ) (b : ℕ) → text ≡ front ++ b ∷ [] → (b == 10) ≡ false → without_last_feed text ≡ text
no_last_feed text front b e other = rw e (feed_behind front b ∙ kept)
  where
    kept : (if b == 10 then front else front ++ b ∷ []) ≡ front ++ b ∷ []
    kept = rw other refl

pub few_parts : {A : Type 0} (f : A → List ℕ) (p : ℕ → Bool) (parts : List A) (text whole : List ℕ) → map f parts ≡ slice_split p text → length text ≤ length whole → length parts ≤ length whole + 1
few_parts f p parts text whole e shorter =
    let same : length parts ≡ length (slice_split p text) = sym (length-map parts f) ∙ ap length e in
    omega (arith, same, length-slice_split p text, count_by-le-length p text, shorter)

pub some_part : {A : Type 0} (f : A → List ℕ) (p : ℕ → Bool) (parts : List A) (text : List ℕ) → map f parts ≡ slice_split p text → 0 < length parts
some_part f p parts text e =
    let same : length parts ≡ length (slice_split p text) = sym (length-map parts f) ∙ ap length e in
    omega (arith, same, length-slice_split p text)
