-- Evaluation along a path, operator by operator.
use Rattle.std.proofs.Common.{◌≡◌, ℕ, ◌+◌, ◌<◌, List, [], ◌∷◌, refl, sym, ap, ◌∙◌, subst, arith, Bool, true, false, cond, take, drop, length, get_or}
use Prim.Native.Nat.{zero, suc}
use Rattle.std.specs.Prelude.{Option, Some, None, Result, Err}
use Rattle.linear_form.specs.Query.{Query, Atom, Taken, next, known}
use Rattle.linear_form.specs.Query.Query.{done, bits, ask}
use Rattle.linear_values.specs.Lin.{Lin, Linear}
use Rattle.linear_form.specs.QuestionLaws.{EachResult}
use Rattle.linear_form.specs.internal.Run.{Evaluation, along, turned, heard, onward}
use Rattle.linear_form.specs.internal.Run.Evaluation.{value, decide}
use Rattle.linear_form.specs.PlainPaths.{path_of}
use Rattle.linear_form.specs.internal.EvaluationResults.{Stops, Gives}
use Rattle.linear_form.specs.internal.Outcomes as outcomes
use Rattle.linear_form.specs.internal.Outcomes.{valued, told}
use Rattle.linear_form.specs.declared.paths.Taken as T
use Rattle.linear_form.specs.declared.cursor.Stop as S
use Rattle.linear_form.specs.declared.cursor.Stop.{Stop}
use Rattle.linear_form.specs.declared.cursor.Found.{Found}

turned_onward : {A B : Type 0} (ps : List Taken) (q : Atom) (y n : Evaluation A) (y' n' : Evaluation B) (f : A → ℕ → Evaluation B) → y' ≡ onward y f → n' ≡ onward n f → turned ps q y' n' ≡ onward (turned ps q y n) f
turned_onward [] q y n y' n' f h k = refl
turned_onward (p ∷ ps) q y n y' n' f h k = go p.held
  where
    go : (b : Bool) → cond b y' n' ≡ onward (cond b y n) f
    go true = h
    go false = k

heard_onward : {A B : Type 0} (h : Option Bool) (y n o : Evaluation A) (y' n' o' : Evaluation B) (f : A → ℕ → Evaluation B) → y' ≡ onward y f → n' ≡ onward n f → o' ≡ onward o f → heard h y' n' o' ≡ onward (heard h y n o) f
heard_onward (Some true) y n o y' n' o' f e g k = e
heard_onward (Some false) y n o y' n' o' f e g k = g
heard_onward None y n o y' n' o' f e g k = k

pub run_next : {A B : Type 0} (ps : List Taken) (t : Query A) (f : A → Query B) (i : ℕ) → along ps (next t f) i ≡ onward (along ps t i) (λ a j. along ps (f a) j)
unfolding along
run_next ps (done a) f i = refl
run_next ps bits f i = refl
run_next ps (ask (Atom.row a strict) y n) f i = turned_onward (drop i ps) _ _ _ _ _ _ (run_next ps y f (i + 1)) (run_next ps n f (i + 1))
run_next ps (ask (Atom.truth x) y n) f i = heard_onward (known x (take i ps)) _ _ _ _ _ _ _ (run_next ps y f i) (run_next ps n f i) (turned_onward (drop i ps) _ _ _ _ _ _ (run_next ps y f (i + 1)) (run_next ps n f (i + 1)))

pub run_done : {A : Type 0} (ps : List Taken) (a : A) (i : ℕ) → along ps (done a) i ≡ value a i
unfolding along
run_done ps a i = refl

pub run_bits : {A : Type 0} (ps : List Taken) (i : ℕ) → along {A = A} ps bits i ≡ Evaluation.bits
unfolding along
run_bits ps i = refl

pub run_after : {A C : Type 0} (ps : List Taken) (t : Query A) (f : A → Query C) (i j : ℕ) (x : A) → along ps t i ≡ value x j → along ps (next t f) i ≡ along ps (f x) j
run_after ps t f i j x h = run_next ps t f i ∙ ap (λ z. onward z (λ x j. along ps (f x) j)) h

pub stops_first : {A C : Type 0} (e : Stop) (ps : List Taken) (t : Query A) (f : A → Query C) (i : ℕ) → Stops e (along ps t i) → Stops e (along ps (next t f) i)
stops_first (S.TheVariants.Decide q) ps t f i h = run_next ps t f i ∙ ap (λ z. onward z (λ x j. along ps (f x) j)) h
stops_first S.TheVariants.Bits ps t f i h = run_next ps t f i ∙ ap (λ z. onward z (λ x j. along ps (f x) j)) h
stops_first (S.TheVariants.Memory e) ps t f i h = tt

pub run_known : (ps : List Taken) (x i : ℕ) (b : Bool) → known x (take i ps) ≡ Some b → along ps (ask (Atom.truth x) (done true) (done false)) i ≡ value b i
unfolding along
run_known ps x i true e = rw e
run_known ps x i false e = rw e

pub run_new : (ps : List Taken) (x i : ℕ) → known x (take i ps) ≡ None → along ps (ask (Atom.truth x) (done true) (done false)) i ≡ turned (drop i ps) (Atom.truth x) (value true (i + 1)) (value false (i + 1))
unfolding along
run_new ps x i e = rw e

pub run_row : (ps : List Taken) (a : Lin) (strict : Bool) (i : ℕ) → along ps (ask (Atom.row a strict) (done true) (done false)) i ≡ turned (drop i ps) (Atom.row a strict) (value true (i + 1)) (value false (i + 1))
unfolding along
run_row ps a strict i = refl

pub turned_at : {A : Type 0} (ps : List T.Taken) (i : ℕ) (p : T.Taken) (q : Atom) (y n : Evaluation A) → i < length ps → p ≡ get_or ps i p → turned (drop i (path_of ps)) q y n ≡ cond p.held y n
turned_at [] i p q y n h e = absurd (omega arith)
turned_at (x ∷ ps) zero p q y n h e = ap (λ (z : T.Taken). cond z.held y n) (sym e)
turned_at (x ∷ ps) (suc i) p q y n h e = turned_at ps i p q y n (omega arith) e

turned_result : {A : Type 0} (ps : List Taken) (q : Atom) (o p : Evaluation A) (P : A → Type 0) (a : A) (j : ℕ) → (o ≡ value a j → P a) → (p ≡ value a j → P a) → turned ps q o p ≡ value a j → P a
turned_result [] q o p P a j f g e = absurd (cc)
turned_result (t ∷ ps) q o p P a j f g e = go t.held e
  where
    go : (b : Bool) → cond b o p ≡ value a j → P a
    go true e = f e
    go false e = g e

heard_result : {A : Type 0} (h : Option Bool) (y n o : Evaluation A) (P : A → Type 0) (a : A) (j : ℕ) → (y ≡ value a j → P a) → (n ≡ value a j → P a) → (o ≡ value a j → P a) → heard h y n o ≡ value a j → P a
heard_result (Some true) y n o P a j f g k e = f e
heard_result (Some false) y n o P a j f g k e = g e
heard_result None y n o P a j f g k e = k e

abbrev value_or : {A : Type 0} → A → Evaluation A → A
value_or d (value a i) = a
value_or d (decide q) = d
value_or d Evaluation.bits = d

pub run_result : {A : Type 0} (ps : List Taken) (t : Query A) (P : A → Type 0) (i : ℕ) (a : A) (j : ℕ) → EachResult P t → along ps t i ≡ value a j → P a
unfolding along
run_result ps (done b) P i a j h e = subst P (ap (value_or b) e) h
run_result ps bits P i a j h e = absurd (cc)
run_result ps (ask (Atom.row l strict) y n) P i a j h e = turned_result (drop i ps) (Atom.row l strict) _ _ P a j (run_result ps y P (i + 1) a j h.0) (run_result ps n P (i + 1) a j h.1) e
run_result ps (ask (Atom.truth x) y n) P i a j h e = heard_result (known x (take i ps)) _ _ _ P a j (run_result ps y P i a j h.0) (run_result ps n P i a j h.1) (turned_result (drop i ps) (Atom.truth x) _ _ P a j (run_result ps y P (i + 1) a j h.0) (run_result ps n P (i + 1) a j h.1)) e

pub gives_first : {A : Type 0} (r : Result Found Stop) (e : Stop) (ps : List Taken) (q : Query Linear) (t : Query A) (f : A → Query Linear) (i : ℕ) → r ≡ Err e → q ≡ next t f → Stops e (along ps t i) → Gives r (along ps q i)
gives_first r e ps q t f i h k g = rw (h, k) (stops_first e ps t f i g)

pub run_decide : {A B : Type 0} (ps : List Taken) (q : Query A) (f : A → Query B) (i : ℕ) (a : Atom) → along ps q i ≡ decide a → along ps (next q f) i ≡ decide a
run_decide ps q f i a e = run_next ps q f i ∙ ap (λ z. onward z (λ a k. along ps (f a) k)) e

pub run_large : {A B : Type 0} (ps : List Taken) (q : Query A) (f : A → Query B) (i : ℕ) → along ps q i ≡ Evaluation.bits → along ps (next q f) i ≡ Evaluation.bits
run_large ps q f i e = run_next ps q f i ∙ ap (λ z. onward z (λ a k. along ps (f a) k)) e

pub stops_valued : (e : Stop) (ps : List Taken) (t t' : Query Linear) (i : ℕ) → t ≡ t' → Stops e (along ps t' i) → Stops e (along ps (valued t) i)
stops_valued e ps t t' i k h = stops_first e ps t _ i (subst (λ t. Stops e (along ps t i)) (sym k) h)

pub stops_told : (e : Stop) (ps : List Taken) (t t' : Query Bool) (i : ℕ) → t ≡ t' → Stops e (along ps t' i) → Stops e (along ps (told t) i)
stops_told e ps t t' i k h = stops_first e ps t _ i (subst (λ t. Stops e (along ps t i)) (sym k) h)

pub valued_run : (ps : List Taken) (t : Query Linear) (i j : ℕ) (x : Linear) → along ps t i ≡ value x j → along ps (valued t) i ≡ value (outcomes.Result.number x) j
valued_run ps t i j x e = run_after ps t _ i j x e ∙ run_done ps _ j

pub told_run : (ps : List Taken) (t : Query Bool) (i j : ℕ) (b : Bool) → along ps t i ≡ value b j → along ps (told t) i ≡ value (outcomes.Result.truth b) j
told_run ps t i j b e = run_after ps t _ i j b e ∙ run_done ps _ j
