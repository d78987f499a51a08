-- The loop over items of any kind.
use Rattle.heyvl_parse.specs.readers.Combinators.{added, cons, each, starts, with_front}
use Rattle.heyvl_parse.specs.readers.ReadParts.{Bad, Got, Out, Read}
use Rattle.heyvl_parse.specs.readers.Results.{Fails}
use Rattle.heyvl_parse.specs.declared.stops.PartStop.TheVariants.{Fault, Memory}
use Rattle.heyvl_parse.specs.declared.stops.PartStop.{PartStop}
use Rattle.heyvl_syntax.specs.declared.tokens.Token.{Token}
use Rattle.heyvl_syntax.specs.declared.tokens.TokenKind.{TokenKind}
use Rattle.std.proofs.Common.{Bool, List, [], ap, append_assoc, arith, false, length, refl, suc, sym, true, zero, ◌++◌, ◌<◌, ◌∙◌, ◌∷◌, ◌≡◌, ℕ}
use Rattle.std.proofs.lemmas.List.{append-nil}

front_front : {A : Type 0} (a b : List A) (res : Read (List A)) → with_front a (with_front b res) ≡ with_front (a ++ b) res
front_front a b (Got xs r) = ap (λ z. Got z r) (sym (append_assoc a b xs))
front_front a b (Bad r) = refl
front_front a b Out = refl

front_nil : {A : Type 0} (res : Read (List A)) → with_front [] res ≡ res
front_nil (Got xs r) = refl
front_nil (Bad r) = refl
front_nil Out = refl

-- The items `before` and those of `ts` are all items.
abbrev pub Rest : {A : Type 0} → (TokenKind → Bool) → (List Token → Read A) → Read (List A) → List A → List Token → Type 0
Rest test f all before ts = (k : ℕ) × (length ts < k) × (all ≡ with_front before (each test f k ts))

pub loop_init : {A : Type 0} (test : TokenKind → Bool) (f : List Token → Read A) (n : ℕ) (ts : List Token) → length ts < n → Rest test f (each test f n ts) [] ts
loop_init test f n ts h = (n, h, sym (front_nil (each test f n ts)))

pub loop_first : {A : Type 0} (test : TokenKind → Bool) (f g : List Token → Read A) (n : ℕ) (ts r : List Token) (x : A) → length r < n → g ts ≡ Got x r → Rest test f (cons g (each test f n) ts) (x ∷ []) r
loop_first test f g n ts r x h e = (n, h, rw e refl)

pub loop_more : {A : Type 0} (test : TokenKind → Bool) (f : List Token → Read A) (all : Read (List A)) (ts r : List Token) (before : List A) (x : A) → Rest test f all before ts → starts test ts ≡ true → f ts ≡ Got x r → length r < length ts → Rest test f all (before ++ (x ∷ [])) r
loop_more test f all ts r before x (zero, lt, same) on e short = absurd (omega arith)
loop_more test f all ts r before x (suc k, lt, same) on e short = (k, omega arith, same ∙ rw (on, e) (front_front before (x ∷ []) (each test f k r)))

pub loop_added : {A : Type 0} (test : TokenKind → Bool) (f : List Token → Read A) (all : Read (List A)) (ts r : List Token) (before after : List A) → Rest test f all before ts → starts test ts ≡ true → added before (f ts) ≡ Got after r → length r < length ts → Rest test f all after r
loop_added {A} test f all ts r before after rest on e short = go (f ts) refl e
  where
    go : (found : Read A) → f ts ≡ found → added before found ≡ Got after r → Rest test f all after r
    go (Got x r') is same =
        let items : before ++ (x ∷ []) ≡ after = cc in
        let left : r' ≡ r = cc in
        rw (← items) (loop_more test f all ts r before x rest on (rw left at is) short)
    go (Bad r') is same = absurd (cc)
    go Out is same = absurd (cc)

pub loop_done : {A : Type 0} (test : TokenKind → Bool) (f : List Token → Read A) (all : Read (List A)) (ts : List Token) (before : List A) → Rest test f all before ts → starts test ts ≡ false → all ≡ Got before ts
loop_done test f all ts before (zero, lt, same) off = absurd (omega arith)
loop_done test f all ts before (suc k, lt, same) off = same ∙ rw (off, append-nil before) refl

pub loop_fails : {A : Type 0} (test : TokenKind → Bool) (f : List Token → Read A) (all : Read (List A)) (e : PartStop) (ts : List Token) (before : List A) → Rest test f all before ts → starts test ts ≡ true → Fails e (f ts) → Fails e all
loop_fails test f all (Memory error) ts before rest on fails = tt
loop_fails test f all (Fault left) ts before (zero, lt, same) on fails = absurd (omega arith)
loop_fails test f all (Fault left) ts before (suc k, lt, same) on (r, bad, len) = (r, same ∙ rw (on, bad) refl, len)

pub added_fails : {A : Type 0} (e : PartStop) (before : List A) (found : Read A) → Fails e (added before found) → Fails e found
added_fails (Memory error) before found f = tt
added_fails (Fault left) before (Got x r) (rest, same, len) = absurd (cc)
added_fails (Fault left) before (Bad r) (rest, same, len) = let left : r ≡ rest = cc in (rest, ap Bad left, len)
added_fails (Fault left) before Out (rest, same, len) = absurd (cc)
