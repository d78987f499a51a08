-- The laws of a reader, and of the readers that combinators make of others.
use Rattle.heyvl_parse.proofs.Local.{Local, LocalAt, Moves, local_bind, local_got, local_mapped, local_one, local_pair}
use Rattle.heyvl_parse.proofs.Right.{Holds, Pair, Right, RightAt, Some_text, is_mark_true, nowhere, right_as, right_bind, right_map, right_one, right_pair}
use Rattle.heyvl_parse.specs.readers.Combinators.{cons, each, each_if, either, lead, list, list0, list_if, no_kind, optional, refuse, sign, some_if, spanned, starts, taken, trail, with_front}
use Rattle.heyvl_parse.specs.readers.ReadParts.{Bad, Got, Out, Read, is_mark, mapped, one, pair, ◌>>=◌}
use Rattle.heyvl_places.specs.declared.spans.Span.{Span}
use Rattle.heyvl_syntax.proofs.exported.Sequences.{then_assoc}
use Rattle.heyvl_syntax.specs.Productions.{IsAt, IsEach, IsList, IsList0, IsMark, IsMore, IsOne, IsOptional, at, extent, ◌then◌}
use Rattle.heyvl_syntax.specs.declared.marks.Mark.TheVariants as marks
use Rattle.heyvl_syntax.specs.declared.marks.Mark.{Mark}
use Rattle.heyvl_syntax.specs.declared.tokens.Token.{Token}
use Rattle.heyvl_syntax.specs.declared.tokens.TokenKind.TheVariants as kinds
use Rattle.heyvl_syntax.specs.declared.tokens.TokenKind.{TokenKind}
use Rattle.std.proofs.Common.{Bool, List, None, Option, Some, [], ap, append_assoc, arith, cond, false, length, length-append, refl, subst, suc, sym, true, zero, ◌++◌, ◌-◌, ◌<◌, ◌∙◌, ◌∷◌, ◌≡◌, ◌≤◌, ℕ}
use Rattle.std.proofs.Math.Seq.{take-append_seam}
use Rattle.std.proofs.lemmas.List.{append-nil}

-- The laws of `f`. It gives what the tokens that it takes spell, and the tokens before an error can
-- be completed. It looks at no token after the first one that it leaves. It reads each text of
-- fewer than `n` tokens, if the next token does not satisfy `stop`.
pub record Laws {A : Type 0} (n : ℕ) (Is : A → List Token → Type 0) (stop : TokenKind → Bool) (f : List Token → Read A) : Type 0 where
  pub right : RightAt Is f
  pub local : Local f
  pub complete : (x : A) (text rest : List Token) → Is x text → length (text ++ rest) < n → starts stop rest ≡ false → f (text ++ rest) ≡ Got x rest

pub right_same : {A : Type 0} (Is : A → List Token → Type 0) (f g : List Token → Read A) → ((ts : List Token) → f ts ≡ g ts) → RightAt Is g → RightAt Is f
right_same Is f g same r ts = subst (λ z. Right Is ts z) (sym (same ts)) (r ts)

local_as : {A : Type 0} (f g : List Token → Read A) → ((ts : List Token) → f ts ≡ g ts) → (ts : List Token) (res : Read A) → LocalAt g ts res → LocalAt f ts res
local_as f g same ts (Got x r) (text, e, move) = (text, e, λ t r0 r' eq. same (text ++ (t ∷ r')) ∙ move t r0 r' eq)
local_as f g same ts (Bad r) (text, e, move) = (text, e, λ t r0 r' eq. same (text ++ (t ∷ r')) ∙ move t r0 r' eq)
local_as f g same ts Out h = tt

pub local_same : {A : Type 0} (f g : List Token → Read A) → ((ts : List Token) → f ts ≡ g ts) → Local g → Local f
local_same f g same l ts = local_as f g same ts (f ts) (subst (λ z. LocalAt g ts z) (sym (same ts)) (l ts))

pub laws_same : {A : Type 0} {n : ℕ} {Is : A → List Token → Type 0} {stop : TokenKind → Bool} {g : List Token → Read A} (f : List Token → Read A) → ((ts : List Token) → f ts ≡ g ts) → Laws n Is stop g → Laws n Is stop f
laws_same {Is = Is} {g = g} f same l = record {
  right = right_same Is f g same l.right;
  local = local_same f g same l.local;
  complete = λ x text rest h len quiet. same (text ++ rest) ∙ l.complete x text rest h len quiet;
}

pub laws_less : {A : Type 0} {n : ℕ} {Is : A → List Token → Type 0} {stop : TokenKind → Bool} {f : List Token → Read A} (m : ℕ) → m ≤ n → Laws n Is stop f → Laws m Is stop f
laws_less m le l = record { right = l.right; local = l.local; complete = λ x text rest h len quiet. l.complete x text rest h (omega arith) quiet }

pub laws_stop : {A : Type 0} {n : ℕ} {Is : A → List Token → Type 0} {stop : TokenKind → Bool} {f : List Token → Read A} (wide : TokenKind → Bool) → ((k : TokenKind) → wide k ≡ false → stop k ≡ false) → Laws n Is stop f → Laws n Is wide f
laws_stop {stop = stop} wide le l = record { right = l.right; local = l.local; complete = λ x text rest h len quiet. l.complete x text rest h len (narrow rest quiet) }
  where
    narrow : (rest : List Token) → starts wide rest ≡ false → starts stop rest ≡ false
    narrow [] e = refl
    narrow (t ∷ ts) e = le t.kind e

-- A test that one kind alone satisfies.
pub record IsTest (kind : TokenKind) (test : TokenKind → Bool) : Type 0 where
  pub only : (k : TokenKind) → test k ≡ true → k ≡ kind
  pub holds : test kind ≡ true

pub sign_laws : {kind : TokenKind} {test : TokenKind → Bool} (n : ℕ) → IsTest kind test → Laws n (λ (s : Span). IsAt kind s) no_kind (sign test)
sign_laws {kind} {test} n is = record {
  right = right_one (λ (s : Span). IsAt kind s) (λ t. cond (test t.kind) (Some t.span) None) holds (nowhere, at kind nowhere ∷ [], refl);
  local = local_one (λ t. cond (test t.kind) (Some t.span) None);
  complete = λ s text rest h len quiet. rw (h, is.holds) refl;
}
  where
    holds : (t : Token) → Holds (λ (s : Span). IsAt kind s) t (cond (test t.kind) (Some t.span) None)
    holds t = pick (test t.kind) refl
      where
        pick : (b : Bool) → test t.kind ≡ b → Holds (λ (s : Span). IsAt kind s) t (cond b (Some t.span) None)
        pick true e = ap (λ k. at k t.span ∷ []) (is.only t.kind e)
        pick false e = tt

abbrev pub Both : {A B : Type 0} → (A → List Token → Type 0) → (B → List Token → Type 0) → A × B → List Token → Type 0
Both P Q p = P p.0 then Q p.1

pub some_both : {A B : Type 0} {P : A → List Token → Type 0} {Q : B → List Token → Type 0} → Some_text P → Some_text Q → Some_text (Both P Q)
some_both (x, one, p) (y, two, q) = ((x, y), one ++ two, (one, two, p, q, refl))

shorter_back : (n : ℕ) (text one two rest : List Token) → text ≡ one ++ two → length (text ++ rest) < n → length (one ++ (two ++ rest)) < n
shorter_back n text one two rest e len = omega (arith, ap (λ z. length (z ++ rest)) e, ap length (append_assoc one two rest))

back_shorter : (n : ℕ) (one two rest : List Token) → length (one ++ (two ++ rest)) < n → length (two ++ rest) < n
back_shorter n one two rest len = omega (arith, length-append one (two ++ rest))

-- `f` and then `g`, where no text of `g` and no rest continues a text of `f`.
pub pair_laws : {A B : Type 0} {n : ℕ} {P : A → List Token → Type 0} {Q : B → List Token → Type 0} {s t : TokenKind → Bool} {f : List Token → Read A} {g : List Token → Read B} → Laws n P s f → Laws n Q t g → Some_text Q → ((y : B) (text rest : List Token) → Q y text → starts t rest ≡ false → starts s (text ++ rest) ≡ false) → Laws n (Both P Q) t (pair f g)
pair_laws {A} {B} {n} {P} {Q} {s} {t} {f} {g} lf lg some fits = record {
  right = λ ts. right_as (Pair P Q) (Both P Q) ts (pair f g ts) (λ p text h. same_both p text h) (right_pair P Q f g lf.right lg.right some ts);
  local = local_pair f g lf.local lg.local;
  complete = done;
}
  where
    same_both : (p : A × B) (text : List Token) → Pair P Q p text → Both P Q p text
    same_both (x, y) text h = h

    done : (p : A × B) (text rest : List Token) → Both P Q p text → length (text ++ rest) < n → starts t rest ≡ false → pair f g (text ++ rest) ≡ Got p rest
    done (x, y) text rest (one, two, hp, hq, e) len quiet =
        let cut : text ++ rest ≡ one ++ (two ++ rest) = ap (λ z. z ++ rest) e ∙ append_assoc one two rest in
        let long : length (one ++ (two ++ rest)) < n = shorter_back n text one two rest e len in
        rw (cut, lf.complete x one (two ++ rest) hp long (fits y two rest hq quiet), lg.complete y two rest hq (back_shorter n one two rest long) quiet) refl

-- `f` and then `g`, where nothing continues a text of `f`.
pub pair_free : {A B : Type 0} {n : ℕ} {P : A → List Token → Type 0} {Q : B → List Token → Type 0} {t : TokenKind → Bool} {f : List Token → Read A} {g : List Token → Read B} → Laws n P no_kind f → Laws n Q t g → Some_text Q → Laws n (Both P Q) t (pair f g)
pair_free lf lg some = pair_laws lf lg some (λ y text rest h quiet. free (text ++ rest))
  where
    free : (ts : List Token) → starts no_kind ts ≡ false
    free [] = refl
    free (t ∷ ts) = refl

pub mapped_laws : {A B : Type 0} {n : ℕ} {P : A → List Token → Type 0} {s : TokenKind → Bool} {f : List Token → Read A} (h : A → B) (R : B → List Token → Type 0) → Laws n P s f → ((x : A) (text : List Token) → P x text → R (h x) text) → ((y : B) (text : List Token) → R y text → (x : A) × (y ≡ h x) × P x text) → Laws n R s (mapped h f)
mapped_laws {A} {B} {n} {P} {s} {f} h R lf into out = record {
  right = λ ts. right_map P R h ts (f ts) into (lf.right ts);
  local = local_mapped h f lf.local;
  complete = λ y text rest r len quiet. let (x, same, p) = out y text r in rw (lf.complete x text rest p len quiet) (ap (λ z. Got z rest) (sym same));
}

pub lead_is : {A : Type 0} (test : TokenKind → Bool) (f : List Token → Read A) (ts : List Token) → lead test f ts ≡ mapped (λ p. p.1) (pair (sign test) f) ts
lead_is {A} test f ts = go (sign test ts)
  where
    last : (s : Span) (res : Read A) → res ≡ (let w : Read (Span × A) = res >>= λ y r'. Got (s, y) r' in w >>= λ p r. Got p.1 r)
    last s (Got y r) = refl
    last s (Bad r) = refl
    last s Out = refl

    go : (res : Read Span) → (res >>= λ s r. f r) ≡ (let w : Read (Span × A) = res >>= λ s r. f r >>= λ y r'. Got (s, y) r' in w >>= λ p r. Got p.1 r)
    go (Got s r) = last s (f r)
    go (Bad r) = refl
    go Out = refl

pub lead_laws : {A : Type 0} {n : ℕ} {P : A → List Token → Type 0} {s : TokenKind → Bool} {f : List Token → Read A} {kind : TokenKind} {test : TokenKind → Bool} → IsTest kind test → Laws n P s f → Some_text P → Laws n (λ x. IsOne kind then P x) s (lead test f)
lead_laws {A} {n} {P} {s} {f} {kind} {test} is lf some =
    laws_same (lead test f) (lead_is test f)
    (mapped_laws (λ p. p.1) (λ x. IsOne kind then P x) (pair_free (sign_laws n is) lf some) (λ p text (one, two, h, q, e). (one, two, (p.0, h), q, e)) (λ x text (one, two, (s, h), q, e). ((s, x), refl, (one, two, h, q, e))))

-- A token before the text gives fuel for one more step.
pub lead_more : {A : Type 0} {n : ℕ} {P : A → List Token → Type 0} {s : TokenKind → Bool} {f : List Token → Read A} {kind : TokenKind} {test : TokenKind → Bool} → IsTest kind test → Laws n P s f → Some_text P → Laws (suc n) (λ x. IsOne kind then P x) s (lead test f)
lead_more {A} {n} {P} {s} {f} {kind} {test} is lf some = let lower = lead_laws is lf some in record {
  right = lower.right;
  local = lower.local;
  complete = λ x text rest (one, two, (p, h), q, e) len quiet.
      let all : text ++ rest ≡ at kind p ∷ (two ++ rest) = ap (λ z. z ++ rest) (e ∙ ap (λ z. z ++ two) h) in
      let short : length (two ++ rest) < n = omega (arith, ap length all) in
      rw (all, is.holds) (lf.complete x two rest q short quiet);
}

trail_is : {A : Type 0} (test : TokenKind → Bool) (f : List Token → Read A) (ts : List Token) → trail f test ts ≡ mapped (λ p. p.0) (pair f (sign test)) ts
trail_is {A} test f ts = go (f ts)
  where
    last : (x : A) (res : Read Span) → (res >>= λ s r'. Got x r') ≡ (let w : Read (A × Span) = res >>= λ y r'. Got (x, y) r' in w >>= λ p r. Got p.0 r)
    last x (Got y r) = refl
    last x (Bad r) = refl
    last x Out = refl

    go : (res : Read A) → (res >>= λ x r. sign test r >>= λ s r'. Got x r') ≡ (let w : Read (A × Span) = res >>= λ x r. sign test r >>= λ y r'. Got (x, y) r' in w >>= λ p r. Got p.0 r)
    go (Got x r) = last x (sign test r)
    go (Bad r) = refl
    go Out = refl

pub trail_laws : {A : Type 0} {n : ℕ} {P : A → List Token → Type 0} {s : TokenKind → Bool} {f : List Token → Read A} {kind : TokenKind} {test : TokenKind → Bool} → IsTest kind test → Laws n P s f → s kind ≡ false → Laws n (λ x. P x then IsOne kind) no_kind (trail f test)
trail_laws {A} {n} {P} {s} {f} {kind} {test} is lf ends =
    laws_same (trail f test) (trail_is test f)
    (mapped_laws (λ p. p.0) (λ x. P x then IsOne kind) (pair_laws lf (sign_laws n is) (nowhere, at kind nowhere ∷ [], refl) (λ p text rest h quiet. rw h ends)) (λ p text (one, two, q, h, e). (one, two, q, (p.1, h), e)) (λ x text (one, two, q, (s, h), e). ((x, s), refl, (one, two, q, h, e))))

taken_is : (ts text r : List Token) → ts ≡ text ++ r → taken ts r ≡ text
taken_is ts text r e = let len : length ts - length r ≡ length text = omega (arith, ap length e, length-append text r) in rw (len, e) (take-append_seam text r)

pub spanned_laws : {A B : Type 0} {n : ℕ} {P : A → List Token → Type 0} {s : TokenKind → Bool} {f : List Token → Read A} (h : A → Span → B) (R : B → List Token → Type 0) → Laws n P s f → ((x : A) (text : List Token) → P x text → R (h x (extent text)) text) → ((y : B) (text : List Token) → R y text → (x : A) × (y ≡ h x (extent text)) × P x text) → Laws n R s (spanned h f)
spanned_laws {A} {B} {n} {P} {s} {f} h R lf into out = record {
  right = λ ts. rights ts (f ts) (lf.right ts);
  local = λ ts. locals ts (f ts) (lf.local ts);
  complete = λ y text rest r len quiet.
      let (x, same, p) = out y text r in
      rw (lf.complete x text rest p len quiet, taken_is (text ++ rest) text rest refl) (ap (λ z. Got z rest) (sym same));
}
  where
    rights : (ts : List Token) (res : Read A) → Right P ts res → Right R ts (res >>= λ x r. Got (h x (extent (taken ts r))) r)
    rights ts (Got x r) (text, e, p) = (text, e, rw (taken_is ts text r e) (into x text p))
    rights ts (Bad r) (text, more, x, e, p) = (text, more, h x (extent (text ++ more)), e, into x (text ++ more) p)
    rights ts Out p = tt

    locals : (ts : List Token) (res : Read A) → LocalAt f ts res → LocalAt (spanned h f) ts (res >>= λ x r. Got (h x (extent (taken ts r))) r)
    locals ts (Got x r) (text, e, move) = (text, e, λ t r0 r' eq. rw (move t r0 r' eq, taken_is (text ++ (t ∷ r')) text (t ∷ r') refl, taken_is ts text r e) refl)
    locals ts (Bad r) (text, e, move) = (text, e, λ t r0 r' eq. rw (move t r0 r' eq) refl)
    locals ts Out m = tt

-- The reader that the first token chooses.
pub chosen_local : {A C : Type 0} (of : List Token → C) (f : C → List Token → Read A) (g : List Token → Read A) → ((ts : List Token) → g ts ≡ f (of ts) ts) → ((t : Token) (r r' : List Token) → of (t ∷ r) ≡ of (t ∷ r')) → ((c : C) → Local (f c)) → Local g
chosen_local {A} {C} of f g is same l = local_same g (λ ts. f (of ts) ts) is go
  where
    moved : (u : Token) (us : List Token) (put : List Token → Read A) (r : List Token) → Moves (f (of (u ∷ us))) put (u ∷ us) r → Moves (λ ts. f (of ts) ts) put (u ∷ us) r
    moved u us put r ([], h, move) = ([], h, λ t r0 r' eq. let both : u ∷ us ≡ t ∷ r0 = h ∙ eq in let head : u ≡ t = cc in let class : of (t ∷ r') ≡ of (u ∷ us) = subst (λ (z : Token). of (z ∷ r') ≡ of (u ∷ us)) head (same u r' us) in rw class (move t r0 r' eq))
    moved u us put r (v ∷ text, h, move) = (v ∷ text, h, λ t r0 r' eq. let head : u ≡ v = cc in let class : of (v ∷ (text ++ (t ∷ r'))) ≡ of (u ∷ us) = subst (λ (z : Token). of (z ∷ (text ++ (t ∷ r'))) ≡ of (u ∷ us)) head (same u (text ++ (t ∷ r')) us) in rw class (move t r0 r' eq))

    at_end : (put : List Token → Read A) (r : List Token) → Moves (f (of [])) put [] r → Moves (λ ts. f (of ts) ts) put [] r
    at_end put r ([], h, move) = ([], h, λ t r0 r' eq. let both : [] ≡ t ∷ r0 = h ∙ eq in cc)
    at_end put r (v ∷ text, h, move) = cc

    by : (u : Token) (us : List Token) (res : Read A) → LocalAt (f (of (u ∷ us))) (u ∷ us) res → LocalAt (λ ts. f (of ts) ts) (u ∷ us) res
    by u us (Got x r) h = moved u us (λ z. Got x z) r h
    by u us (Bad r) h = moved u us (λ z. Bad z) r h
    by u us Out h = tt

    by_end : (res : Read A) → LocalAt (f (of [])) [] res → LocalAt (λ ts. f (of ts) ts) [] res
    by_end (Got x r) h = at_end (λ z. Got x z) r h
    by_end (Bad r) h = at_end (λ z. Bad z) r h
    by_end Out h = tt

    go : Local (λ ts. f (of ts) ts)
    go [] = by_end (f (of []) []) (l (of []) [])
    go (u ∷ us) = by u us (f (of (u ∷ us)) (u ∷ us)) (l (of (u ∷ us)) (u ∷ us))

pub starts_same : (test : TokenKind → Bool) (t : Token) (r r' : List Token) → starts test (t ∷ r) ≡ starts test (t ∷ r')
starts_same test t r r' = refl

pub starts_front : (test : TokenKind → Bool) (text rest : List Token) → starts test text ≡ true → starts test (text ++ rest) ≡ true
starts_front test [] rest e = cc
starts_front test (t ∷ ts) rest e = e

pub apart : (test stop : TokenKind → Bool) → ((k : TokenKind) → test k ≡ true → stop k ≡ false) → (ts : List Token) → starts test ts ≡ true → starts stop ts ≡ false
apart test stop free [] e = refl
apart test stop free (t ∷ ts) e = free t.kind e

pub either_first : (one two : TokenKind → Bool) (k : TokenKind) → either one two k ≡ false → one k ≡ false
either_first one two k e = pick (one k) refl
  where
    pick : (b : Bool) → one k ≡ b → one k ≡ false
    pick false h = h
    pick true h = let never : true ≡ false = rw h at e in cc

pub either_second : (one two : TokenKind → Bool) (k : TokenKind) → either one two k ≡ false → two k ≡ false
either_second one two k e = rw (either_first one two k e) at e

pub starts_first : (one two : TokenKind → Bool) (ts : List Token) → starts (either one two) ts ≡ false → starts one ts ≡ false
starts_first one two [] e = refl
starts_first one two (t ∷ ts) e = either_first one two t.kind e

pub starts_second : (one two : TokenKind → Bool) (ts : List Token) → starts (either one two) ts ≡ false → starts two ts ≡ false
starts_second one two [] e = refl
starts_second one two (t ∷ ts) e = either_second one two t.kind e

-- An optional item. Its texts begin with a token that satisfies `test`, and no such token continues
-- the text without it.
pub optional_laws : {A : Type 0} {n : ℕ} {P : A → List Token → Type 0} {s : TokenKind → Bool} {f : List Token → Read A} (test : TokenKind → Bool) → Laws n P s f → ((x : A) (text : List Token) → P x text → starts test text ≡ true) → Laws n (IsOptional P) (either s test) (optional test f)
optional_laws {A} {n} {P} {s} {f} test lf begins = record {
  right = λ ts. rights (starts test ts) ts;
  local = chosen_local (starts test) (some_if f) (optional test f) (λ ts. refl) (starts_same test) locals;
  complete = done;
}
  where
    rights : (b : Bool) (ts : List Token) → Right (IsOptional P) ts (some_if f b ts)
    rights false ts = ([], refl, refl)
    rights true ts = right_map P (IsOptional P) Some ts (f ts) (λ x text h. h) (lf.right ts)

    locals : (b : Bool) → Local (some_if f b)
    locals false = local_got None
    locals true = local_mapped Some f lf.local

    done : (o : Option A) (text rest : List Token) → IsOptional P o text → length (text ++ rest) < n → starts (either s test) rest ≡ false → optional test f (text ++ rest) ≡ Got o rest
    done None text rest h len quiet = rw (h, starts_second s test rest quiet) refl
    done (Some x) text rest h len quiet =
        rw (starts_front test text rest (begins x text h), lf.complete x text rest h len (starts_first s test rest quiet)) refl

pub local_front : {A : Type 0} (before : List A) (g : List Token → Read (List A)) → Local g → Local (λ ts. with_front before (g ts))
local_front {A} before g l ts = go (g ts) (l ts)
  where
    go : (res : Read (List A)) → LocalAt g ts res → LocalAt (λ ts. with_front before (g ts)) ts (with_front before res)
    go (Got xs r) (text, h, move) = (text, h, λ t r0 r' eq. rw (move t r0 r' eq) refl)
    go (Bad r) (text, h, move) = (text, h, λ t r0 r' eq. rw (move t r0 r' eq) refl)
    go Out h = tt

local_cons : {A : Type 0} (f : List Token → Read A) (g : List Token → Read (List A)) → Local f → Local g → Local (cons f g)
local_cons f g lf lg = local_bind f (λ x r. with_front (x ∷ []) (g r)) lf (λ x. local_front (x ∷ []) g lg)

right_cons : {A : Type 0} (P : A → List Token → Type 0) (Q R : List A → List Token → Type 0) (f : List Token → Read A) (g : List Token → Read (List A)) → RightAt P f → RightAt Q g → Some_text Q → ((x : A) (xs : List A) (one two : List Token) → P x one → Q xs two → R (x ∷ xs) (one ++ two)) → RightAt R (cons f g)
right_cons {A} P Q R f g rf rg (ys, t, q) into ts =
    right_bind P R ts (f ts) (λ x r. with_front (x ∷ []) (g r)) (rf ts) (λ x text r p. behind x text r p (g r) (rg r)) (λ x text p. (t, x ∷ ys, into x ys text t p q))
  where
    behind : (x : A) (text r : List Token) → P x text → (res : Read (List A)) → Right Q r res → Right (λ y z. R y (text ++ z)) r (with_front (x ∷ []) res)
    behind x text r p (Got xs r') (z, e, h) = (z, e, into x xs text z p h)
    behind x text r p (Bad r') (z, more, xs, e, h) = (z, more, x ∷ xs, e, into x xs text (z ++ more) p h)
    behind x text r p Out h = tt

pub some_each : {A : Type 0} (P : A → List Token → Type 0) → Some_text (IsEach P)
some_each P = ([], [], refl)

-- Items in sequence. A token that satisfies `test` begins each, and continues none.
pub each_laws : {A : Type 0} {n : ℕ} {P : A → List Token → Type 0} {s : TokenKind → Bool} {f : List Token → Read A} (test : TokenKind → Bool) → Laws n P s f → ((x : A) (text : List Token) → P x text → starts test text ≡ true) → ((k : TokenKind) → test k ≡ true → s k ≡ false) → (m : ℕ) → m ≤ n → Laws m (IsEach P) (either s test) (each test f m)
each_laws {A} {n} {P} {s} {f} test lf begins free = go
  where
    start : (xs : List A) (text rest : List Token) → IsEach P xs text → starts (either s test) rest ≡ false → starts s (text ++ rest) ≡ false
    start [] text rest h quiet = rw h (starts_first s test rest quiet)
    start (x ∷ xs) text rest (one, two, p, q, e) quiet =
        apart test s free (text ++ rest) (rw e (starts_front test (one ++ two) rest (starts_front test one two (begins x one p))))

    some : (text : List Token) → starts test text ≡ true → 0 < length text
    some [] e = cc
    some (t ∷ ts) e = omega arith

    rights : (m : ℕ) → RightAt (IsEach P) (each test f m) → (b : Bool) → RightAt (IsEach P) (each_if f (each test f m) b)
    rights m r false ts = ([], refl, refl)
    rights m r true ts = right_cons P (IsEach P) (IsEach P) f (each test f m) lf.right r (some_each P) (λ x xs one two p q. (one, two, p, q, refl)) ts

    locals : (m : ℕ) → Local (each test f m) → (b : Bool) → Local (each_if f (each test f m) b)
    locals m l false = local_got []
    locals m l true = local_cons f (each test f m) lf.local l

    done : (m : ℕ) → suc m ≤ n → Laws m (IsEach P) (either s test) (each test f m) → (xs : List A) (text rest : List Token) → IsEach P xs text → length (text ++ rest) < suc m → starts (either s test) rest ≡ false → each test f (suc m) (text ++ rest) ≡ Got xs rest
    done m le l [] text rest h len quiet = rw (h, starts_second s test rest quiet) refl
    done m le l (x ∷ xs) text rest (one, two, p, q, e) len quiet =
        let begun : starts test (text ++ rest) ≡ true = rw e (starts_front test (one ++ two) rest (starts_front test one two (begins x one p))) in
        let cut : text ++ rest ≡ one ++ (two ++ rest) = ap (λ z. z ++ rest) e ∙ append_assoc one two rest in
        let long : length (one ++ (two ++ rest)) < suc m = shorter_back (suc m) text one two rest e len in
        let nonempty : 0 < length one = some one (begins x one p) in
        let short : length (two ++ rest) < m = omega (arith, length-append one (two ++ rest)) in
        rw begun (rw (cut, lf.complete x one (two ++ rest) p (omega arith) (start xs two rest q quiet), l.complete xs two rest q short quiet) refl)

    go : (m : ℕ) → m ≤ n → Laws m (IsEach P) (either s test) (each test f m)
    go zero le = record { right = λ ts. tt; local = λ ts. tt; complete = λ x text rest h len quiet. absurd (omega arith) }
    go (suc m) le = let l = go m (omega arith) in record {
      right = λ ts. rights m l.right (starts test ts) ts;
      local = chosen_local (starts test) (each_if f (each test f m)) (each test f (suc m)) (λ ts. refl) (starts_same test) (locals m l.local);
      complete = done m le l;
    }

then_unassoc : (P Q R : List Token → Type 0) (ts : List Token) → (P then Q then R) ts → ((P then Q) then R) ts
then_unassoc P Q R ts (us, back, p, (vs, ys, q, r, d), e) = (us ++ vs, ys, (us, vs, p, q, refl), r, e ∙ ap (λ z. us ++ z) d ∙ sym (append_assoc us vs ys))

-- An item after a comma.
abbrev pub Next_item : {A : Type 0} → (A → List Token → Type 0) → A → List Token → Type 0
Next_item P x = IsMark marks.Comma then P x

each_more : {A : Type 0} (P : A → List Token → Type 0) (xs : List A) (text : List Token) → IsEach (Next_item P) xs text → IsMore P xs text
each_more P [] text h = h
each_more P (x ∷ xs) text (one, two, p, q, e) = then_assoc (IsMark marks.Comma) (P x) (IsMore P xs) text (one, two, p, each_more P xs two q, e)

more_each : {A : Type 0} (P : A → List Token → Type 0) (xs : List A) (text : List Token) → IsMore P xs text → IsEach (Next_item P) xs text
more_each P [] text h = h
more_each P (x ∷ xs) text h = let (one, two, p, q, e) = then_unassoc (IsMark marks.Comma) (P x) (IsMore P xs) text h in (one, two, p, more_each P xs two q, e)

pub some_list : {A : Type 0} {P : A → List Token → Type 0} → Some_text P → Some_text (IsList P)
some_list (x, text, p) = (x ∷ [], text, (text, [], p, refl, sym (append-nil text)))

pub comma_test : IsTest (kinds.Mark marks.Comma) (is_mark marks.Comma)
comma_test = record { only = is_mark_true marks.Comma; holds = refl }

mark_starts : {A : Type 0} (m : Mark) (P : A → List Token → Type 0) → is_mark m (kinds.Mark m) ≡ true → (x : A) (text : List Token) → (IsMark m then P x) text → starts (is_mark m) text ≡ true
mark_starts m P same x text (one, two, (s, h), p, e) = rw (e, h) same

-- `list(x)`: a comma continues it.
pub list_laws : {A : Type 0} {n : ℕ} {P : A → List Token → Type 0} {s : TokenKind → Bool} {f : List Token → Read A} → Laws n P s f → Some_text P → s (kinds.Mark marks.Comma) ≡ false → Laws n (IsList P) (either s (is_mark marks.Comma)) (list f n)
list_laws {A} {n} {P} {s} {f} lf some free = record {
  right = right_cons P (IsEach (Next_item P)) (IsList P) f (each (is_mark marks.Comma) (lead (is_mark marks.Comma) f) n) lf.right more.right (some_each (Next_item P)) (λ x xs one two p q. (one, two, p, each_more P xs two q, refl));
  local = local_cons f (each (is_mark marks.Comma) (lead (is_mark marks.Comma) f) n) lf.local more.local;
  complete = done;
}
  where
    only : (k : TokenKind) → is_mark marks.Comma k ≡ true → s k ≡ false
    only k e = rw (is_mark_true marks.Comma k e) free

    more : Laws n (IsEach (Next_item P)) (either s (is_mark marks.Comma)) (each (is_mark marks.Comma) (lead (is_mark marks.Comma) f) n)
    more = each_laws (is_mark marks.Comma) (lead_laws comma_test lf some) (mark_starts marks.Comma P refl) only n (omega arith)

    start : (xs : List A) (text rest : List Token) → IsMore P xs text → starts (either s (is_mark marks.Comma)) rest ≡ false → starts s (text ++ rest) ≡ false
    start [] text rest h quiet = rw h (starts_first s (is_mark marks.Comma) rest quiet)
    start (x ∷ xs) text rest (one, two, (p, h), q, e) quiet = rw (e, h) free

    done : (xs : List A) (text rest : List Token) → IsList P xs text → length (text ++ rest) < n → starts (either s (is_mark marks.Comma)) rest ≡ false → list f n (text ++ rest) ≡ Got xs rest
    done [] text rest h len quiet = absurd h
    done (x ∷ xs) text rest (one, two, p, q, e) len quiet =
        let cut : text ++ rest ≡ one ++ (two ++ rest) = ap (λ z. z ++ rest) e ∙ append_assoc one two rest in
        let long : length (one ++ (two ++ rest)) < n = shorter_back n text one two rest e len in
        rw (cut, lf.complete x one (two ++ rest) p long (start xs two rest q quiet), more.complete xs two rest (more_each P xs two q) (back_shorter n one two rest long) quiet) refl

pub some_list0 : {A : Type 0} (P : A → List Token → Type 0) → Some_text (IsList0 P)
some_list0 P = ([], [], refl)

-- `list0(x)` and `)`, which begins no item.
pub list0_laws : {A : Type 0} {n : ℕ} {P : A → List Token → Type 0} {s : TokenKind → Bool} {f : List Token → Read A} → Laws n P s f → Some_text P → s (kinds.Mark marks.Comma) ≡ false → s (kinds.Mark marks.ParenRight) ≡ false → ((x : A) (text rest : List Token) → P x text → starts (is_mark marks.ParenRight) (text ++ rest) ≡ false) → Laws n (λ xs. IsList0 P xs then IsMark marks.ParenRight) no_kind (trail (list0 f n) (is_mark marks.ParenRight))
list0_laws {A} {n} {P} {s} {f} lf some free close begins = record {
  right = right_same _ (trail (list0 f n) (is_mark marks.ParenRight)) _ (trail_is (is_mark marks.ParenRight) (list0 f n)) (λ ts. right_map _ _ (λ p. p.0) ts _ (λ p text h. into p text h) (right_pair (IsList0 P) (λ (s : Span). IsAt (kinds.Mark marks.ParenRight) s) (list0 f n) (sign (is_mark marks.ParenRight)) (λ ts. rights (starts (is_mark marks.ParenRight) ts) ts) (sign_laws n close_test).right (nowhere, at (kinds.Mark marks.ParenRight) nowhere ∷ [], refl) ts));
  local = local_same (trail (list0 f n) (is_mark marks.ParenRight)) _ (trail_is (is_mark marks.ParenRight) (list0 f n)) (local_mapped _ _ (local_pair (list0 f n) (sign (is_mark marks.ParenRight)) (chosen_local (starts (is_mark marks.ParenRight)) (list_if f n) (list0 f n) (λ ts. refl) (starts_same (is_mark marks.ParenRight)) locals) (sign_laws n close_test).local));
  complete = done;
}
  where
    close_test : IsTest (kinds.Mark marks.ParenRight) (is_mark marks.ParenRight)
    close_test = record { only = is_mark_true marks.ParenRight; holds = refl }

    items : Laws n (IsList P) (either s (is_mark marks.Comma)) (list f n)
    items = list_laws lf some free

    listed : (xs : List A) (text : List Token) → IsList P xs text → IsList0 P xs text
    listed [] text h = absurd h
    listed (x ∷ xs) text h = h

    into : (p : List A × Span) (text : List Token) → Pair (IsList0 P) (λ (s : Span). IsAt (kinds.Mark marks.ParenRight) s) p text → (IsList0 P p.0 then IsMark marks.ParenRight) text
    into (xs, s) text (one, two, h, c, e) = (one, two, h, (s, c), e)

    rights : (b : Bool) → RightAt (IsList0 P) (list_if f n b)
    rights true ts = ([], refl, refl)
    rights false ts = right_as (IsList P) (IsList0 P) ts (list f n ts) listed (items.right ts)

    locals : (b : Bool) → Local (list_if f n b)
    locals true = local_got []
    locals false = items.local

    before : (x : A) (xs : List A) (text rest : List Token) → IsList P (x ∷ xs) text → starts (is_mark marks.ParenRight) (text ++ rest) ≡ false
    before x xs text rest (one, two, p, q, e) = rw (e, append_assoc one two rest) (begins x one (two ++ rest) p)

    done : (xs : List A) (text rest : List Token) → (IsList0 P xs then IsMark marks.ParenRight) text → length (text ++ rest) < n → starts no_kind rest ≡ false → trail (list0 f n) (is_mark marks.ParenRight) (text ++ rest) ≡ Got xs rest
    done [] text rest (one, two, h, (c, hc), e) len quiet = rw (e, h, hc) refl
    done (x ∷ xs) text rest (one, two, h, (c, hc), e) len quiet =
        let cut : text ++ rest ≡ one ++ (two ++ rest) = ap (λ z. z ++ rest) e ∙ append_assoc one two rest in
        let long : length (one ++ (two ++ rest)) < n = shorter_back n text one two rest e len in
        let ends : starts (either s (is_mark marks.Comma)) (two ++ rest) ≡ false = rw (hc, close) refl in
        rw (cut, before x xs one (two ++ rest) h, items.complete (x ∷ xs) one (two ++ rest) h long ends, hc) refl

pub local_refuse : {A : Type 0} → Local {A = A} refuse
local_refuse ts = ([], refl, λ t r0 r' eq. refl)
