-- Multipliers of a line that are read one by one.
use Prim.Native.Nat.{suc, zero}
use Rattle.std.proofs.Common.{◌≡◌, ℕ, ◌+◌, ◌<◌, ◌≤◌, ◌^◌, List, [], ◌∷◌, ◌++◌, length, get_or, refl, sym, ap, ◌∙◌, subst, arith, append_assoc}
use Rattle.std.proofs.lemmas.List.{append-nil}
use Rattle.std.specs.List.{All}
use Rattle.goal_answers.specs.Multipliers.{IsGrowing}
use Rattle.cert_text.specs.Certificates.{AreMultipliers}
use Rattle.cert_text.specs.Lines.{multiplier_text, multipliers_text}
use Rattle.cert_text.specs.internal.ReadStates.{IsMultiplier, IsRising, index_after}

rising_above : (least : ℕ) (ms : List (ℕ × ℕ)) (low : ℕ) → low ≤ least → IsRising least ms → All (λ m. low ≤ m.0) ms
rising_above least [] low le r = λ k d l. absurd (omega arith)
rising_above least (m ∷ ms) low le r = λ k d l. above m ms low k d l (let a = r.0 in omega arith) (rising_above (m.0 + 1) ms low (let a = r.0 in omega arith) r.2)
  where
    above : (m : ℕ × ℕ) (ms : List (ℕ × ℕ)) (low : ℕ) (k : ℕ) (d : ℕ × ℕ) → k < length (m ∷ ms) → low ≤ m.0 → All (λ n. low ≤ n.0) ms → low ≤ (get_or (m ∷ ms) k d).0
    above m ms low zero d l h rest = h
    above m ms low (suc k) d l h rest = rest k d (omega arith)

all_cons : (P : ℕ × ℕ → Type 0) (m : ℕ × ℕ) (ms : List (ℕ × ℕ)) → P m → All P ms → All P (m ∷ ms)
all_cons P m ms h rest zero d l = h
all_cons P m ms h rest (suc k) d l = rest k d (omega arith)

all_nil : (P : ℕ × ℕ → Type 0) → All P []
all_nil P k d l = absurd (omega arith)

all_tail : (P : ℕ × ℕ → Type 0) (m : ℕ × ℕ) (ms : List (ℕ × ℕ)) → All P (m ∷ ms) → All P ms
all_tail P m ms h k d l = h (suc k) d (omega arith)

rising_growing : (least : ℕ) (ms : List (ℕ × ℕ)) → IsRising least ms → IsGrowing ms
rising_growing least [] r = tt
rising_growing least (m ∷ ms) r = (λ k d l. let a = rising_above (m.0 + 1) ms (m.0 + 1) (omega arith) r.2 k d l in omega arith, rising_growing (m.0 + 1) ms r.2)

rising_within : (least : ℕ) (ms : List (ℕ × ℕ)) → IsRising least ms → All (λ m. m.0 < 2 ^ 32) ms
rising_within least [] r = all_nil (λ m. m.0 < 2 ^ 32)
rising_within least (m ∷ ms) r = all_cons (λ m. m.0 < 2 ^ 32) m ms r.1.within (rising_within (m.0 + 1) ms r.2)

rising_positive : (least : ℕ) (ms : List (ℕ × ℕ)) → IsRising least ms → All (λ m. 0 < m.1) ms
rising_positive least [] r = all_nil (λ m. 0 < m.1)
rising_positive least (m ∷ ms) r = all_cons (λ m. 0 < m.1) m ms r.1.positive (rising_positive (m.0 + 1) ms r.2)

rising_narrow : (least : ℕ) (ms : List (ℕ × ℕ)) → IsRising least ms → All (λ m. m.1 < 2 ^ 62) ms
rising_narrow least [] r = all_nil (λ m. m.1 < 2 ^ 62)
rising_narrow least (m ∷ ms) r = all_cons (λ m. m.1 < 2 ^ 62) m ms r.1.narrow (rising_narrow (m.0 + 1) ms r.2)

pub multipliers_from_rising : (ms : List (ℕ × ℕ)) → 0 < length ms → IsRising 0 ms → AreMultipliers ms
multipliers_from_rising ms some r = record { some = some; growing = rising_growing 0 ms r; within = rising_within 0 ms r; positive = rising_positive 0 ms r; narrow = rising_narrow 0 ms r }

rising_from : (least : ℕ) (ms : List (ℕ × ℕ)) → All (λ m. least ≤ m.0) ms → IsGrowing ms → All (λ m. m.0 < 2 ^ 32) ms → All (λ m. 0 < m.1) ms → All (λ m. m.1 < 2 ^ 62) ms → IsRising least ms
rising_from least [] low g a b c = tt
rising_from least (m ∷ ms) low g a b c =
    let z : 0 < length (m ∷ ms) = omega arith in (
      low 0 m z,
      record { within = a 0 m z; positive = b 0 m z; narrow = c 0 m z },
      rising_from (m.0 + 1) ms (λ k d l. let h = g.0 k d l in omega arith) g.1 (all_tail (λ m. m.0 < 2 ^ 32) m ms a) (all_tail (λ m. 0 < m.1) m ms b) (all_tail (λ m. m.1 < 2 ^ 62) m ms c),
    )

pub rising_from_multipliers : (ms : List (ℕ × ℕ)) → AreMultipliers ms → IsRising 0 ms
rising_from_multipliers ms a = rising_from 0 ms (λ k d l. omega arith) a.growing a.within a.positive a.narrow

pub IsRising_push : (least : ℕ) (ms : List (ℕ × ℕ)) (m : ℕ × ℕ) → IsRising least ms → index_after least ms ≤ m.0 → IsMultiplier m → IsRising least (ms ++ m ∷ [])
IsRising_push least [] m r le k = (le, k, tt)
IsRising_push least (n ∷ ms) m r le k = (r.0, r.1, IsRising_push (n.0 + 1) ms m r.2 le k)

pub index_after_push : (least : ℕ) (ms : List (ℕ × ℕ)) (m : ℕ × ℕ) → index_after least (ms ++ m ∷ []) ≡ m.0 + 1
index_after_push least [] m = refl
index_after_push least (n ∷ ms) m = index_after_push (n.0 + 1) ms m

pub multipliers_text_push : (ms : List (ℕ × ℕ)) (m : ℕ × ℕ) → multipliers_text (ms ++ m ∷ []) ≡ multipliers_text ms ++ multiplier_text m
multipliers_text_push [] m = append-nil (multiplier_text m)
multipliers_text_push (n ∷ ms) m = ap (λ (bs : List ℕ). multiplier_text n ++ bs) (multipliers_text_push ms m) ∙ sym (append_assoc (multiplier_text n) (multipliers_text ms) (multiplier_text m))

-- The multipliers `ms` of the text begin with those read, `found`.
pub record GoesOn (ms found : List (ℕ × ℕ)) (least : ℕ) (rest : List ℕ) : Type 0 where
  pub more : List (ℕ × ℕ)
  pub all : ms ≡ found ++ more
  pub rising : IsRising least more
  pub text : rest ≡ multipliers_text more

-- `found` was read of `text`, and `rest` is left. Each list of multipliers with this text begins
-- with `found`.
pub record IsRead (text rest : List ℕ) (found : List (ℕ × ℕ)) (least : ℕ) : Type 0 where
  pub parts : text ≡ multipliers_text found ++ rest
  pub rising : IsRising 0 found
  pub next : least ≡ index_after 0 found
  pub only : (ms : List (ℕ × ℕ)) → IsRising 0 ms → text ≡ multipliers_text ms → GoesOn ms found least rest

pub read_none : (text : List ℕ) → IsRead text text [] 0
read_none text = record { parts = refl; rising = tt; next = refl; only = λ ms r e. record { more = ms; all = refl; rising = r; text = e } }

abbrev pub IsOnlyFirst : List ℕ → ℕ → ℕ × ℕ → List ℕ → Type 0
IsOnlyFirst rest least m behind = (n : ℕ × ℕ) (ms : List (ℕ × ℕ)) → IsMultiplier n → least ≤ n.0 → rest ≡ multipliers_text (n ∷ ms) → (m ≡ n) × (behind ≡ multipliers_text ms)

goes_on_more : (rest behind : List ℕ) (found : List (ℕ × ℕ)) (least : ℕ) (m : ℕ × ℕ) (ms : List (ℕ × ℕ)) → 0 < length rest → IsOnlyFirst rest least m behind
    → (more : List (ℕ × ℕ)) → ms ≡ found ++ more → IsRising least more → rest ≡ multipliers_text more → GoesOn ms (found ++ m ∷ []) (m.0 + 1) behind
goes_on_more rest behind found least m ms some only [] all r e = let h = ap (λ (bs : List ℕ). length bs) e in absurd (omega arith)
goes_on_more rest behind found least m ms some only (n ∷ more) all r e =
    let o = only n more r.1 r.0 e in
    let P : ℕ × ℕ → Type 0 = λ k. ms ≡ found ++ k ∷ more in
    let Q : ℕ × ℕ → Type 0 = λ k. IsRising (k.0 + 1) more in
    record { more = more; all = subst P (sym o.0) all ∙ sym (append_assoc found (m ∷ []) more); rising = subst Q (sym o.0) r.2; text = o.1 }

pub read_more : (text rest behind : List ℕ) (found found' : List (ℕ × ℕ)) (least least' : ℕ) (m : ℕ × ℕ) → IsRead text rest found least → IsMultiplier m → least ≤ m.0
    → rest ≡ multiplier_text m ++ behind → 0 < length rest → IsOnlyFirst rest least m behind → found' ≡ found ++ m ∷ [] → least' ≡ m.0 + 1 → IsRead text behind found' least'
read_more text rest behind found found' least least' m r k le e some only f l =
    let P : List (ℕ × ℕ) → Type 0 = λ ms. IsRead text behind ms least' in
    let Q : ℕ → Type 0 = λ n. IsRead text behind (found ++ m ∷ []) n in
    let x = r.next in
    subst P (sym f) (subst Q (sym l) (record {
      parts = r.parts ∙ ap (λ (bs : List ℕ). multipliers_text found ++ bs) e ∙ sym (append_assoc (multipliers_text found) (multiplier_text m) behind) ∙ ap (λ (bs : List ℕ). bs ++ behind) (sym (multipliers_text_push found m));
      rising = IsRising_push 0 found m r.rising (omega arith) k;
      next = sym (index_after_push 0 found m);
      only = λ ms rising text'. let g = r.only ms rising text' in goes_on_more rest behind found least m ms some only g.more g.all g.rising g.text;
    }))

pub no_more : (rest : List ℕ) (least : ℕ) → 0 < length rest → ((n : ℕ × ℕ) (ms : List (ℕ × ℕ)) → IsMultiplier n → least ≤ n.0 → rest ≡ multipliers_text (n ∷ ms) → ⊥)
    → (more : List (ℕ × ℕ)) → IsRising least more → rest ≡ multipliers_text more → ⊥
no_more rest least some none [] r e = let h = ap (λ (bs : List ℕ). length bs) e in absurd (omega arith)
no_more rest least some none (n ∷ more) r e = none n more r.1 r.0 e

pub stopped : (text rest : List ℕ) (found : List (ℕ × ℕ)) (least : ℕ) → IsRead text rest found least → 0 < length rest
    → ((n : ℕ × ℕ) (ms : List (ℕ × ℕ)) → IsMultiplier n → least ≤ n.0 → rest ≡ multipliers_text (n ∷ ms) → ⊥)
    → (ms : List (ℕ × ℕ)) → AreMultipliers ms → text ≡ multipliers_text ms → ⊥
stopped text rest found least r some none ms a e = let g = r.only ms (rising_from_multipliers ms a) e in no_more rest least some none g.more g.rising g.text

nothing_more : (more : List (ℕ × ℕ)) (rest : List ℕ) → length rest ≡ 0 → rest ≡ multipliers_text more → more ≡ []
nothing_more [] rest none e = refl
nothing_more (m ∷ more) rest none e = let h = ap (λ (bs : List ℕ). length bs) e in absurd (omega arith)

length_zero : (bs : List ℕ) → length bs ≡ 0 → bs ≡ []
length_zero [] e = refl
length_zero (b ∷ bs) e = absurd (omega arith)

pub all_found : (text rest : List ℕ) (found : List (ℕ × ℕ)) (least : ℕ) → IsRead text rest found least → length rest ≡ 0 → text ≡ multipliers_text found
all_found text rest found least r none = r.parts ∙ ap (λ (bs : List ℕ). multipliers_text found ++ bs) (length_zero rest none) ∙ append-nil (multipliers_text found)

pub only_found : (text rest : List ℕ) (found : List (ℕ × ℕ)) (least : ℕ) → IsRead text rest found least → length rest ≡ 0
    → (ms : List (ℕ × ℕ)) → AreMultipliers ms → text ≡ multipliers_text ms → found ≡ ms
only_found text rest found least r none ms a e =
    let g = r.only ms (rising_from_multipliers ms a) e in
    sym (g.all ∙ ap (λ (xs : List (ℕ × ℕ)). found ++ xs) (nothing_more g.more rest none g.text) ∙ append-nil found)
