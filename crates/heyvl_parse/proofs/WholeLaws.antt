-- Readers of all tokens, for all fuel: they give all that is spelled, and refuse tokens where
-- nothing goes on.
use Rattle.heyvl_parse.proofs.Lawful.{Laws}
use Rattle.heyvl_parse.proofs.Local.{Local, LocalAt, local_bind}
use Rattle.heyvl_parse.proofs.Right.{Right, RightAt, right_bind}
use Rattle.heyvl_parse.specs.declared.stops.PartStop.TheVariants.{Fault, Memory}
use Rattle.heyvl_parse.specs.declared.stops.PartStop.{PartStop}
use Rattle.heyvl_parse.specs.readers.Combinators.{ended, starts}
use Rattle.heyvl_parse.specs.readers.PartStops.{IsPartStop}
use Rattle.heyvl_parse.specs.readers.ReadParts.{Bad, Got, Read, ◌>>=◌}
use Rattle.heyvl_parse.specs.readers.Results.{Fails, Gives}
use Rattle.heyvl_syntax.specs.Beginnings.{IsBeginning, IsUnexpected}
use Rattle.heyvl_syntax.specs.declared.tokens.Token.{Token}
use Rattle.heyvl_syntax.specs.declared.tokens.TokenKind.{TokenKind}
use Rattle.std.proofs.Common.{Bool, Err, IfErr, IfOk, List, Ok, Result, [], ap, append_assoc, arith, false, length, length-append, refl, subst, suc, sym, take, true, ◌++◌, ◌+◌, ◌-◌, ◌<◌, ◌∙◌, ◌∷◌, ◌≡◌, ◌≤◌, ℕ}
use Rattle.std.proofs.Math.Seq.{take-append-add, take-append_seam}
use Rattle.std.proofs.lemmas.List.{append-nil}

abbrev pub every_kind : TokenKind → Bool
every_kind kind = true

ended_local : {A : Type 0} (x : A) → Local (ended x)
ended_local x [] = ([], refl, λ t r0 r' eq. cc)
ended_local x (t ∷ ts) = ([], refl, λ u r0 r' eq. refl)

pub ended_laws : {A : Type 0} {n : ℕ} {P : A → List Token → Type 0} {stop : TokenKind → Bool} {f : List Token → Read A} → Laws n P stop f → Laws n P every_kind (λ ts. f ts >>= ended)
ended_laws {A} {n} {P} {stop} {f} lf = record { right = rights; local = local_bind f ended lf.local ended_local; complete = done }
  where
    behind : (x : A) (text r : List Token) → P x text → Right (λ y t. P y (text ++ t)) r (ended x r)
    behind x text [] h = ([], refl, rw (append-nil text) h)
    behind x text (t ∷ ts) h = ([], [], x, refl, rw (append-nil text) h)

    rights : RightAt P (λ ts. f ts >>= ended)
    rights ts = right_bind P P ts (f ts) ended (lf.right ts) behind (λ x text h. ([], x, rw (append-nil text) h))

    done : (x : A) (text rest : List Token) → P x text → length (text ++ rest) < n → starts every_kind rest ≡ false → (f (text ++ rest) >>= ended) ≡ Got x rest
    done x text [] h len quiet = rw (lf.complete x text [] h len refl) refl
    done x text (t ∷ ts) h len quiet = cc

pub ended_bad : {A : Type 0} (f : List Token → Read A) (ts r rs : List Token) (t : Token) (x : A) → f ts ≡ Got x r → r ≡ t ∷ rs → (f ts >>= ended) ≡ Bad r
ended_bad f ts r rs t x e same = rw (e, same) refl

pub ended_good : {A : Type 0} (f : List Token → Read A) (ts r : List Token) (x : A) → f ts ≡ Got x r → length r ≡ 0 → (f ts >>= ended) ≡ Got x []
ended_good f ts [] x e none = rw e refl
ended_good f ts (t ∷ rs) x e none = absurd (omega arith)

pub ended_fails : {A : Type 0} (e : PartStop) (f : List Token → Read A) (ts : List Token) → Fails e (f ts) → Fails e (f ts >>= ended)
ended_fails (Memory error) f ts fails = tt
ended_fails (Fault left) f ts (r, bad, len) = (r, rw bad refl, len)

begun : {A : Type 0} (P : A → List Token → Type 0) (ts r : List Token) (i : ℕ) → i + length r ≡ length ts → Right P ts (Bad r) → IsBeginning P (take i ts)
begun P ts r i sum (text, more, x, whole, h) =
    let at_text : i ≡ length text = omega (arith, ap length whole, length-append text r) in
    record { whole = x; more = more; spelled = rw (at_text, whole, take-append_seam text r) h }

module _ {A : Type 0} (P : A → List Token → Type 0) (f : ℕ → List Token → Read A) (laws : (n : ℕ) → Laws n P every_kind (f n)) where
  pub read_all : (n : ℕ) (x : A) (text : List Token) → P x text → length text < n → f n text ≡ Got x []
  read_all n x text h len =
      subst (λ z. f n z ≡ Got x []) (append-nil text) ((laws n).complete x text [] h (let e = ap length (append-nil text) in omega arith) refl)

  pub read_unique : (text : List Token) (x y : A) → P x text → P y text → x ≡ y
  read_unique text x y h k =
      let n : ℕ = suc (length text) in
      let one : f n text ≡ Got x [] = read_all n x text h (omega arith) in
      let two : f n text ≡ Got y [] = read_all n y text k (omega arith) in
      let both : Got x [] ≡ Got y [] = sym one ∙ two in
      cc

  pub found_all : (n : ℕ) (ts : List Token) (x : A) → f n ts ≡ Got x [] → P x ts
  found_all n ts x e =
      let (text, whole, h) = subst (λ z. Right P ts z) e ((laws n).right ts) in
      subst (P x) (sym (whole ∙ append-nil text)) h

  pub found_clause : {X : Type 0} (view : X → A) (ts : List Token) (result : Result X PartStop) → ((n : ℕ) → length ts < n → Gives view (λ x. []) result (f n ts)) → IfOk result (λ x. P (view x) ts)
  found_clause view ts (Ok x) h = found_all (suc (length ts)) ts (view x) (h (suc (length ts)) (omega arith))
  found_clause view ts (Err e) h = tt

  module _ (ts : List Token) (i left : ℕ) (sum : i + left ≡ length ts) (bad : (n : ℕ) → length ts < n → (r : List Token) × (f n ts ≡ Bad r) × (length r ≡ left)) where
    not_spelled : (x : A) → P x ts → ⊥
    not_spelled x h =
        let (r, e, len) = bad (suc (length ts)) (omega arith) in
        let got : f (suc (length ts)) ts ≡ Got x [] = read_all (suc (length ts)) x ts h (omega arith) in
        cc

    completed : IsBeginning P (take i ts)
    completed =
        let (r, e, len) = bad (suc (length ts)) (omega arith) in
        begun P ts r i (omega arith) (subst (λ z. Right P ts z) e ((laws (suc (length ts))).right ts))

    at_token : (n : ℕ) (r : List Token) → length r ≡ left → LocalAt (f n) ts (Bad r) → i < length ts → (x : A) (more : List Token) → P x (take (i + 1) ts ++ more) → length (take (i + 1) ts ++ more) < n → ⊥
    at_token n [] len moves inside x more h short = absurd (omega (arith, len, sum))
    at_token n (t ∷ r0) len (text, whole, move) inside x more h short =
        let at_text : i ≡ length text = omega (arith, ap length whole, length-append text (t ∷ r0)) in
        let cut : take (i + 1) ts ++ more ≡ text ++ (t ∷ more) = rw (at_text, whole, take-append-add text (t ∷ r0) 1) (append_assoc text (t ∷ []) more) in
        let got : f n (take (i + 1) ts ++ more) ≡ Got x [] = read_all n x (take (i + 1) ts ++ more) h short in
        let stop : f n (text ++ (t ∷ more)) ≡ Bad (t ∷ more) = move t r0 more refl in
        let both : Got x [] ≡ Bad (t ∷ more) = sym got ∙ ap (f n) cut ∙ stop in
        cc

    here : i < length ts → IsBeginning P (take (i + 1) ts) → ⊥
    here inside beginning =
        let n : ℕ = suc (length ts + length (take (i + 1) ts ++ beginning.more)) in
        let (r, e, len) = bad n (omega arith) in
        at_token n r len (subst (λ z. LocalAt (f n) ts z) e ((laws n).local ts)) inside beginning.whole beginning.more beginning.spelled (omega arith)

    pub unexpected : IsUnexpected P ts i
    unexpected = record { inside = omega (arith, sum); none = not_spelled; before = completed; here = here }

  rest_inside : (n : ℕ) (ts r : List Token) → f n ts ≡ Bad r → length r ≤ length ts
  rest_inside n ts r e =
      let (text, more, x, whole, h) = subst (λ z. Right P ts z) e ((laws n).right ts) in
      omega (arith, ap length whole, length-append text r)

  pub fault_clause : {X : Type 0} (view : X → A) (ts : List Token) (result : Result X PartStop) → ((n : ℕ) → length ts < n → Gives view (λ x. []) result (f n ts)) → IfErr result (λ stop. IsPartStop P ts stop)
  fault_clause view ts (Ok x) h = tt
  fault_clause view ts (Err (Memory error)) h = tt
  fault_clause view ts (Err (Fault left)) h =
      let n : ℕ = suc (length ts) in
      let (r, e, len) = h n (omega arith) in
      let inside : left ≤ length ts = subst (λ z. z ≤ length ts) len (rest_inside n ts r e) in
      (inside, unexpected ts (length ts - left) left (omega (arith, inside)) h)
