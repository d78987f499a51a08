-- The meaning of acts is on the safe side of the forward meaning of their encoding, for all values
-- of the fresh variables and the same choices.
use Rattle.std.proofs.Common.{◌≡◌, ◌≢◌, ◌≤◌, ◌<◌, ◌+◌, ◌==◌, ℕ, refl, sym, ap, ap₂, ◌∙◌, subst, arith, Bool, true, false, cond, List, [], ◌∷◌, ◌++◌, ◌⊎◌, inl, inr, length}
use Rattle.std.specs.Prelude.{eqb}
use Rattle.std.proofs.lemmas.Bool.Decides.{eqb_tells}
use Rattle.std.proofs.lemmas.List.{length-append, length-map}
use Prim.Native.Nat.{zero, suc}
use Rattle.heyvl_num.specs.Rational.{Rational}
use Rattle.heyvl_num.specs.Value.{Value, oneᵛ, zeroᵛ, ◌+ᵛ◌}
use Rattle.heyvl_places.specs.declared.spans.Span.{Span}
use Rattle.heyvl_places.specs.declared.checks.CheckKind.{CheckKind}
use Rattle.heylo_formula.specs.Operators.{finite_part}
use Rattle.heylo_formula.specs.State.{Env, put, fit, has, truth_of, number_of, environment, IsTyped}
use Rattle.heylo_formula.specs.Choices.{Choices, here, left, right}
use Rattle.heylo_formula.specs.Formula.{Form, Cond, Term}
use Rattle.heylo_formula.specs.Meaning.{value, holds, term_value}
use Rattle.heylo_formula.specs.Shifts.{shifted}
use Rattle.heylo_formula.specs.Typing.{Types, HasTypes}
use Rattle.heylo_formula.specs.declared.types.Ty.{Ty}
use Rattle.heylo_formula.specs.declared.values.Val.{Val}
use Rattle.heylo_formula.specs.declared.values.Val.TheVariants.{Truth, Num}
use Rattle.heylo_formula.proofs.exported.Agreement.{same_on, same_on_in}
use Rattle.heylo_formula.proofs.exported.Shifts.{shifted_value}
use Rattle.heylo_formula.proofs.exported.States.{fit_has, length-typed, put_keeps}
use Rattle.heylo_formula.proofs.exported.TypedTerms.{term_typed}
use Rattle.heyvl_num.specs.ValueOperators.{minᵛ}
use Rattle.heyvl_acts.specs.Tosses.{toss_parts, flip_parts}
use Rattle.heyvl_acts.proofs.exported.Tosses.{toss_fit}
use Rattle.heyvl_acts.specs.Acts.{Head, Act, Acts, Arms, TypedProcedure, Variable, join, procedure_at, type_list, types_of, variables}
use Rattle.heyvl_acts.specs.Forward.{Post, OfLoops, OfCalls, checked, validated, past_products, part, parts, drawn, meant, meant_act, meant_arms, no_loops, no_calls, forward}
use Rattle.heyvl_acts.specs.ModifiedVariables.{modified}
use Rattle.heyvl_acts.specs.Rules.{Each, IsOwn}
use Rattle.heyvl_acts.specs.Visible.{Scoped, ScopedAct, ScopedArms, Sees, SeesCond, SeesParts, SeesTerm, SeesTerms, Visible, shown_by}
use Rattle.heyvl_acts.specs.WellTypedActs.{PartsFit}
use Rattle.k_induction.specs.Copies.{must, may, meets, copies, if_holds, no_more}
use Rattle.run_machine.specs.Configurations.{evaluate}
use Rattle.loop_encodings.specs.Encoding.{sets, any_block, read, gets, encoded_call, havocs, tested, encoded_loop, encoded_act, encoded, encoded_arms}
use Rattle.loop_encodings.specs.Fresh.{fresh, fresh_of_act, fresh_of_arms}
use Rattle.bounded_runs.specs.internal.Contracts.{havoc, after, picks, past_picks, put_all, given, more, once, way, blame, loop_value, call_blame, call_value, meaning, meaning_act}
use Rattle.bounded_runs.specs.internal.Programs.{HasFormulas, IsLoop, Owns, Program, ProgramAct, ProgramArms}
use Rattle.loop_encodings.proofs.exported.EncodedTypes.{Bounded, shown_bounded, shown_all_bounded}
use Rattle.bounded_runs.proofs.Monotone.{args_typed, held_value, given_pre, given_post}
use Rattle.bounded_runs.proofs.ProgramStates.{havoc_keeps, calls_keep, picks_typed}
use Rattle.bounded_runs.proofs.RunValues.{Safe, safe_refl, safe_sum, safe_scale, safe_picked, safe_checked, safe_blamed, must_left}

-- ---- Environments with the same first variables

-- The first `n` variables have the same values.
abbrev pub Agree : ℕ → Env → Env → Type 0
Agree n u s = (y : ℕ) → y < n → u y ≡ s y

put_same : (x : ℕ) (v : Val) (u : Env) → put x v u x ≡ v
put_same x v u = go (eqb_tells x x)
  where
    go : ((eqb x x ≡ true) × (x ≡ x)) ⊎ ((eqb x x ≡ false) × (x ≢ x)) → cond (x == x) v (u x) ≡ v
    go (inl e) = rw e.0 refl
    go (inr e) = absurd (e.1 refl)

put_other : (x y : ℕ) (v : Val) (u : Env) → x ≢ y → put x v u y ≡ u y
put_other x y v u n = go (eqb_tells x y)
  where
    go : ((eqb x y ≡ true) × (x ≡ y)) ⊎ ((eqb x y ≡ false) × (x ≢ y)) → cond (x == y) v (u y) ≡ u y
    go (inl e) = absurd (n e.1)
    go (inr e) = rw e.0 refl

agree_put : (n x : ℕ) (v : Val) (u s : Env) → Agree n u s → Agree n (put x v u) (put x v s)
agree_put n x v u s g y h = ap (λ w. cond (x == y) v w) (g y h)

agree_put_all : (n : ℕ) (xs : List ℕ) (vs : List Val) (u s : Env) → Agree n u s → Agree n (put_all xs vs u) (put_all xs vs s)
agree_put_all n [] vs u s g = g
agree_put_all n (x ∷ xs) [] u s g = g
agree_put_all n (x ∷ xs) (v ∷ vs) u s g = agree_put_all n xs vs (put x v u) (put x v s) (agree_put n x v u s g)

agree_havoc : (n : ℕ) (types : Types) (xs : List ℕ) (u s : Env) (c : Choices) → Agree n u s → Agree n (havoc types xs u c) (havoc types xs s c)
agree_havoc n types [] u s c g = g
agree_havoc n types (x ∷ xs) u s c g = agree_havoc n types xs _ _ (left c) (agree_put n x (fit (types x) (here c)) u s g)

-- A formula that sees only the first variables has the same value in both environments.
module _ (n : ℕ) (v : Visible) (b : Bounded n v) (u s : Env) (g : Agree n u s) where
  value_same : (f : Form) → Sees v f → value f u Choices.stop ≡ value f s Choices.stop
  value_same f o = same_on f u s Choices.stop (λ y h. g y (b y (o y h)))

  holds_same : (k : Cond) → SeesCond v k → holds k u Choices.stop ≡ holds k s Choices.stop
  holds_same k o = same_on_in k u s Choices.stop (λ y h. g y (b y (o y h)))

  term_same : (t : Term) → SeesTerm v t → term_value t u ≡ term_value t s
  term_same (Term.truth k) o = ap Truth (holds_same k o)
  term_same (Term.number f) o = ap (λ w. Num (finite_part w)) (value_same f o)

-- ---- Values of consecutive variables

-- The variables from a number on have these values, in order.
abbrev write : ℕ → List Val → Env → Env
write m [] u = u
write m (v ∷ vs) u = write (suc m) vs (put m v u)

write_other : (m : ℕ) (vs : List Val) (u : Env) (y : ℕ) → y < m → write m vs u y ≡ u y
write_other m [] u y h = refl
write_other m (v ∷ vs) u y h = write_other (suc m) vs (put m v u) y (omega arith) ∙ put_other m y v u (λ e. absurd (omega (arith, e)))

agree_write : (n m : ℕ) (vs : List Val) (u s : Env) → n ≤ m → Agree n u s → Agree n (write m vs u) s
agree_write n m vs u s l g y h = write_other m vs u y (omega arith) ∙ g y h

write_at : (m : ℕ) (vs : List Val) (u : Env) (y : ℕ) → y < length vs → write m vs u (m + y) ≡ environment vs y
write_at m [] u y h = absurd (omega arith)
write_at m (v ∷ vs) u zero h = ap (write (suc m) vs (put m v u)) (plain m) ∙ write_other (suc m) vs (put m v u) m (omega arith) ∙ put_same m v u
  where
    plain : (m : ℕ) → m + zero ≡ m
    plain m = omega arith
write_at m (v ∷ vs) u (suc y) h = ap (write (suc m) vs (put m v u)) (step m y) ∙ write_at (suc m) vs (put m v u) y (omega arith)
  where
    step : (m y : ℕ) → m + suc y ≡ suc m + y
    step m y = omega arith

write_append : (m k : ℕ) (vs ws : List Val) (u : Env) → length vs ≡ k → write m (vs ++ ws) u ≡ write (m + k) ws (write m vs u)
write_append m k [] ws u e = ap (λ i. write i ws u) (at m k e)
  where
    at : (m k : ℕ) → 0 ≡ k → m ≡ m + k
    at m k e = omega (arith, e)
write_append m zero (v ∷ vs) ws u e = absurd (omega (arith, e))
write_append m (suc k) (v ∷ vs) ws u e = write_append (suc m) k vs ws (put m v u) (omega (arith, e)) ∙ ap (λ i. write i ws (write (suc m) vs (put m v u))) (at m k)
  where
    at : (m k : ℕ) → suc m + k ≡ m + suc k
    at m k = omega arith

-- ---- The parts of an encoding

joined : (l : OfLoops) (q : OfCalls) (a b : Acts) (k : Post) → meant l q (join a b) k ≡ meant l q a (meant l q b k)
joined l q Acts.done b k = refl
joined l q (Acts.next a rest) b k = ap (λ (p : Post). meant_act l q a p) (joined l q rest b k)

havocs_value : (up : Bool) (span : Span) (types : Types) (xs : List ℕ) (r : Acts) (k : Post) (u : Env) (c : Choices) → forward (havocs up span types xs r) k u c ≡ forward r k (havoc types xs u c) (after xs c)
havocs_value up span types [] r k u c = refl
havocs_value up span types (x ∷ xs) r k u c = havocs_value up span types xs r k (put x (fit (types x) (here c)) u) (left c)

sets_value : (n : ℕ) (v : Visible) (b : Bounded n v) (span : Span) (m : ℕ) (es : List Term) (r : Acts) (k : Post) (u s : Env) (c : Choices) → n ≤ m → SeesTerms v es → Agree n u s → forward (sets span m es r) k u c ≡ forward r k (write m (evaluate es s) u) c
sets_value n v b span m [] r k u s c l o g = refl
sets_value n v b span m (e ∷ es) r k u s c l o g = sets_value n v b span (suc m) es r k (put m (term_value e u) u) s c (omega arith) o.1 (λ y h. put_other m y (term_value e u) u (λ q. absurd (omega (arith, q))) ∙ g y h) ∙ ap (λ w. forward r k (write (suc m) (evaluate es s) (put m w u)) c) (term_same n v b u s g e o.0)

any_value : (up : Bool) (span : Span) (m : ℕ) (ts : List Ty) (r : Acts) (k : Post) (u : Env) (c : Choices) → forward (any_block up span m ts r) k u c ≡ forward r k (write m (picks ts c) u) (past_picks ts c)
any_value up span m [] r k u c = refl
any_value up span m (t ∷ ts) r k u c = any_value up span (suc m) ts r k (put m (fit t (here c)) u) (left c)

read_value : (t : Ty) (m : ℕ) (u : Env) (v : Val) → u m ≡ v → has t v ≡ true → term_value (read m t) u ≡ v
read_value Ty.Bool m u (Truth b) e h = ap (λ w. Truth (truth_of w)) e
read_value Ty.Bool m u (Num x) e h = absurd (cc)
read_value Ty.Int m u (Truth b) e h = absurd (cc)
read_value Ty.Int m u (Num x) e h = ap (λ w. Num (number_of w)) e
read_value Ty.UInt m u (Truth b) e h = absurd (cc)
read_value Ty.UInt m u (Num x) e h = ap (λ w. Num (number_of w)) e
read_value Ty.UReal m u (Truth b) e h = absurd (cc)
read_value Ty.UReal m u (Num x) e h = ap (λ w. Num (number_of w)) e

gets_value : (p : TypedProcedure) (span : Span) (xs : List ℕ) (ts : List Ty) (m : ℕ) (vs : List Val) (k : Post) (u : Env) (c : Choices) → length (variables p) ≤ m → Owns p xs ts → IsTyped ts vs → ((y : ℕ) → y < length vs → u (m + y) ≡ environment vs y) → forward (gets span xs ts m) k u c ≡ k (put_all xs vs u) c
gets_value p span [] ts m vs k u c l o t h = refl
gets_value p span (x ∷ xs) [] m vs k u c l o t h = absurd o
gets_value p span (x ∷ xs) (ty ∷ ts) m [] k u c l o t h = absurd t
gets_value p span (x ∷ xs) (ty ∷ ts) m (v ∷ vs) k u c l o t h =
    ap (λ w. forward (gets span xs ts (suc m)) k (put x w u) c) (read_value ty m u v (ap u (plain m) ∙ h 0 (omega arith)) t.0)
    ∙ gets_value p span xs ts (suc m) vs k (put x v u) c (omega arith) o.1 t.1 (λ y q. put_other x (suc m + y) v u (λ e. absurd (omega (arith, e, o.0.0.below, l))) ∙ ap u (step m y) ∙ h (suc y) (omega arith))
  where
    plain : (m : ℕ) → m ≡ m + zero
    plain m = omega arith

    step : (m y : ℕ) → suc m + y ≡ m + suc y
    step m y = omega arith

some_more : (h : Head) → 1 ≤ h.k → h.k ≡ suc (more h)
some_more h l = go h.k l
  where
    go : (n : ℕ) → 1 ≤ n → n ≡ suc (more (record { number = h.number; k = n; inv = h.inv; guard = h.guard; rank = h.rank; scope = h.scope; span = h.span }))
    go zero l = absurd (omega (arith, l))
    go (suc n) l = refl

-- ---- The meaning is on the safe side

-- The post `j` after the acts is on the safe side of the post `k` after their encoding, for all
-- values of the fresh variables.
abbrev pub Below : TypedProcedure → (k j : Post) → Type 0
Below p k j = (u s : Env) (c : Choices) → Agree (length (variables p)) u s → HasTypes (types_of p) s → Safe p.co (j s c) (k u c)

safe_cond : (up t : Bool) (x y z w : Value) → Safe up x z → Safe up y w → Safe up (cond t x y) (cond t z w)
safe_cond up true x y z w e f = e
safe_cond up false x y z w e f = f

all_own : (p : TypedProcedure) (xs : List ℕ) (ts : List Ty) → Owns p xs ts → Each (IsOwn p) xs
all_own p [] ts o = tt
all_own p (x ∷ xs) [] o = absurd o
all_own p (x ∷ xs) (t ∷ ts) o = (o.0.0, all_own p xs ts o.1)

module _ (ps : List TypedProcedure) (R : ℕ → Type 0) (callees : (n : ℕ) → R n → HasFormulas (procedure_at ps n)) (p : TypedProcedure) where
  -- Acts that see only the procedure's variables.
  module _ (v : Visible) (b : Bounded (length (variables p)) v) where
    part_below : (x : ℕ) (q : Rational × Term) (qs : List (Rational × Term)) → PartsFit (types_of p) x (q ∷ qs) → SeesTerm v q.1 → (k j : Post) → Below p k j → Below p (part x q k) (part x q j)
    part_below x q qs f o k j r u s c g h = safe_scale p.co q.0 _ _ f.0.0 (subst (λ w. Safe p.co (j (put x (term_value q.1 s) s) c) (k (put x w u) c)) (sym (term_same _ v b u s g q.1 o)) (r (put x (term_value q.1 s) u) (put x (term_value q.1 s) s) c (agree_put _ x _ u s g) (put_keeps (types_of p) s x _ h (term_typed (types_of p) (types_of p x) q.1 s f.0.1 h))))

    parts_below : (x : ℕ) (qs : List (Rational × Term)) → PartsFit (types_of p) x qs → SeesParts v qs → (k j : Post) → Below p k j → (total more : Post) → Below p total more → Below p (parts x qs k total) (parts x qs j more)
    parts_below x [] f o k j r total more t u s c g h = t u s c g h
    parts_below x (q ∷ qs) f o k j r total more t u s c g h = parts_below x qs f.1 o.1 k j r (λ r d. total r (left d) +ᵛ part x q k r (right d)) (λ r d. more r (left d) +ᵛ part x q j r (right d)) (λ u s c g h. safe_sum p.co _ _ _ _ (t u s (left c) g h) (part_below x q qs f o.0 k j r u s (right c) g h)) u s c g h

    drawn_below : (x : ℕ) (qs : List (Rational × Term)) → PartsFit (types_of p) x qs → SeesParts v qs → (k j : Post) → Below p k j → Below p (drawn x qs k) (drawn x qs j)
    drawn_below x [] f o k j r u s c g h = safe_refl p.co zeroᵛ
    drawn_below x (q ∷ qs) f o k j r u s c g h = parts_below x qs f.1 o.1 k j r (part x q k) (part x q j) (part_below x q qs f o.0 k j r) u s c g h

    -- A loop with its encoded body `e` and the meaning of its body.
    module _ (h : Head) (source : Acts) (f : IsLoop p.co p h source) (oi : Sees v h.inv) (og : SeesCond v h.guard) (e : Acts) (body : Post → Post) (car : (k j : Post) → Below p k j → Below p (forward e k) (body j)) (k j : Post) (mt : Below p k j) where
      abbrev copied : ℕ → Acts
      copied i = copies p.co h.span h.guard h.inv e i

      inv_same : (u s : Env) → Agree (length (variables p)) u s → value h.inv u Choices.stop ≡ value h.inv s Choices.stop
      inv_same u s g = value_same _ v b u s g h.inv oi

      checks : (kind : CheckKind) (u s : Env) (x y : Value) → Agree (length (variables p)) u s → HasTypes (types_of p) s → Safe p.co x y → Safe p.co (checked kind (value h.inv s Choices.stop) x) (checked kind (value h.inv u Choices.stop) y)
      checks kind u s x y g t q = subst (λ i. Safe p.co (checked kind (value h.inv s Choices.stop) x) (checked kind i y)) (sym (inv_same u s g)) (safe_checked p.co kind _ x y (held_value (types_of p) h.inv s f.inv t) q)

      once_below : (d : Acts) (z : Post) → Below p (forward d k) (body z) → Below p (forward (Acts.next (if_holds h.span h.guard d) Acts.done) k) (once body h j z)
      once_below d z r u s c g t = subst (λ w. Safe p.co (once body h j z s c) (cond w (forward d k u (right c)) (k u (right c)))) (sym (holds_same _ v b u s g h.guard og)) (safe_cond p.co (holds h.guard s Choices.stop) _ _ _ _ (r u s (right c) g t) (mt u s (right c) g t))

      body_then : (r : Acts) (z : Post) → Below p (forward r k) z → Below p (forward (join e r) k) (body z)
      body_then r z m = subst (λ (y : Post). Below p y (body z)) (sym (joined no_loops no_calls e r k)) (car _ _ m)

      abbrev at_last : Acts
      at_last = Acts.next (Act.check (must p.co) h.inv h.span) (Acts.next (no_more p.co h.span) Acts.done)

      copies_below : (i : ℕ) → Below p (forward (copied (suc i)) k) (body (way p.co body h j i))
      copies_below zero = body_then at_last (way p.co body h j zero) (λ u s c g t. subst (λ w. Safe p.co w (forward at_last k u c)) (inv_same u s g) (must_left p.co _ _))
      copies_below (suc i) = body_then (Acts.next (Act.check (meets p.co) h.inv h.span) (Acts.next (if_holds h.span h.guard (copied (suc i))) Acts.done)) (way p.co body h j (suc i)) (λ u s c g t. checks (meets p.co) u s _ _ g t (once_below (copied (suc i)) (way p.co body h j i) (copies_below i) u s (right c) g t))

      all_copies_below : Below p (forward (copied h.k) k) (body (way p.co body h j (more h)))
      all_copies_below = subst (λ i. Below p (forward (copied i) k) (body (way p.co body h j (more h)))) (sym (some_more h f.some_copy)) (copies_below (more h))

      tested_below : (u s : Env) (c : Choices) → Agree (length (variables p)) u s → HasTypes (types_of p) s → Safe p.co (validated p.co (checked (may p.co) (value h.inv s Choices.stop) (once body h j (way p.co body h j (more h)) s (right c)))) (forward (tested p.co h e) k u c)
      tested_below u s c g t = subst (λ i. Safe p.co (validated p.co (checked (may p.co) (value h.inv s Choices.stop) (once body h j (way p.co body h j (more h)) s (right c)))) (validated p.co (checked (may p.co) i (forward (Acts.next (if_holds h.span h.guard (copied h.k)) Acts.done) k u (right c))))) (sym (inv_same u s g)) (safe_blamed p.co _ _ _ (held_value (types_of p) h.inv s f.inv t) (once_below (copied h.k) (way p.co body h j (more h)) all_copies_below u s (right c) g t))

      abbrev ms : List ℕ
      ms = modified h.scope source

      loop_below : Below p (forward (encoded_loop p.co (types_of p) h ms e) k) (loop_value p.co (types_of p) h source body j)
      loop_below u s c g t = checks (must p.co) u s _ _ g t (subst (λ w. Safe p.co (blame p.co (types_of p) ms body h j s (right c)) w) (sym (havocs_value p.co h.span (types_of p) ms (tested p.co h e) k u (right c))) (tested_below (havoc (types_of p) ms u (right c)) (havoc (types_of p) ms s (right c)) (after ms (right c)) (agree_havoc _ (types_of p) ms u s (right c) g) (havoc_keeps (types_of p) ms s (right c) t)))

    -- A call: first the fresh inputs are written, then the fresh outputs after them.
    module _ (span : Span) (xs : List ℕ) (n : ℕ) (es : List Term) (w : ProgramAct p.co ps R p (Act.call xs n es span)) (o : SeesTerms v es) (m : ℕ) (l : length (variables p) ≤ m) (k j : Post) (r : Below p k j) (u s : Env) (c : Choices) (g : Agree (length (variables p)) u s) (h : HasTypes (types_of p) s) where
      abbrev q : TypedProcedure
      q = procedure_at ps n

      abbrev inputs : List Ty
      inputs = type_list (procedure_at ps n).inputs

      abbrev outputs : List Ty
      outputs = type_list (procedure_at ps n).outputs

      abbrev first : ℕ
      first = m + length (procedure_at ps n).inputs

      abbrev vs : List Val
      vs = evaluate es s

      abbrev ws : List Val
      ws = picks outputs (right c)

      abbrev u1 : Env
      u1 = write m vs u

      abbrev u2 : Env
      u2 = write first ws u1

      abbrev c2 : Choices
      c2 = past_picks outputs (right c)

      abbrev target : Acts
      target = gets span xs outputs first

      abbrev tail : Acts
      tail = Acts.next (Act.validate p.co span) (Acts.next (Act.check (may p.co) (shifted m q.post) span) target)

      vt : IsTyped inputs vs
      vt = args_typed p inputs es s w.1.1 h

      wt : IsTyped outputs ws
      wt = picks_typed outputs (right c)

      lv : length vs ≡ length q.inputs
      lv = length-typed inputs vs vt ∙ length-map q.inputs (λ (x : Variable). x.ty)

      lw : length ws ≡ length q.outputs
      lw = length-typed outputs ws wt ∙ length-map q.outputs (λ (x : Variable). x.ty)

      pre : value (shifted m q.pre) u1 Choices.stop ≡ given q.pre vs
      pre = shifted_value m q.pre u1 Choices.stop ∙ same_on q.pre _ (environment vs) Choices.stop (λ y i. write_at m vs u y (subst (λ a. y < a) (sym lv) ((callees n w.0).pre_over y i)))

      whole : write m (vs ++ ws) u ≡ u2
      whole = write_append m (length q.inputs) vs ws u lv

      long : length (vs ++ ws) ≡ length (q.inputs ++ q.outputs)
      long = length-append vs ws ∙ (ap₂ (λ a b. a + b) lv lw ∙ sym (length-append q.inputs q.outputs))

      post : value (shifted m q.post) u2 Choices.stop ≡ given q.post (vs ++ ws)
      post = shifted_value m q.post u2 Choices.stop ∙ same_on q.post _ (environment (vs ++ ws)) Choices.stop (λ y i. ap (λ (e : Env). e (m + y)) (sym whole) ∙ write_at m (vs ++ ws) u y (subst (λ a. y < a) (sym long) ((callees n w.0).post_over y i)))

      agree2 : Agree (length (variables p)) u2 s
      agree2 = agree_write _ first ws u1 s (omega (arith, l)) (agree_write _ m vs u s l g)

      targets : forward target k u2 (right c2) ≡ k (put_all xs ws u2) (right c2)
      targets = gets_value p span xs outputs first ws k u2 (right c2) (omega (arith, l)) w.1.0 wt (λ y i. write_at first ws u1 y i)

      last : Safe p.co (j (put_all xs ws s) (right c2)) (forward target k u2 (right c2))
      last = subst (λ x. Safe p.co (j (put_all xs ws s) (right c2)) x) (sym targets) (r (put_all xs ws u2) (put_all xs ws s) (right c2) (agree_put_all _ xs ws u2 s agree2) (calls_keep p xs outputs (right c) s w.1.0 h))

      blamed_below : Safe p.co (call_blame p.co q xs vs j s (right c)) (forward (any_block p.co span first outputs tail) k u1 (right c))
      blamed_below = subst (λ x. Safe p.co (call_blame p.co q xs vs j s (right c)) x) (sym (any_value p.co span first outputs tail k u1 (right c))) (subst (λ i. Safe p.co (call_blame p.co q xs vs j s (right c)) (validated p.co (checked (may p.co) i (forward target k u2 (right c2))))) (sym post) (safe_blamed p.co _ _ _ (given_post q (callees n w.0) vs ws vt wt) last))

      call_below : Safe p.co (call_value p.co ps xs n es j s c) (forward (encoded_call p.co span m xs q es) k u c)
      call_below = subst (λ x. Safe p.co (call_value p.co ps xs n es j s c) x) (sym (sets_value _ v b span m es _ k u s c l o g)) (subst (λ i. Safe p.co (call_value p.co ps xs n es j s c) (checked (must p.co) i (forward (any_block p.co span first outputs tail) k u1 (right c)))) (sym pre) (safe_checked p.co (must p.co) _ _ _ (given_pre q (callees n w.0) vs vt) blamed_below))

  after_bounded : (a : Act) (v : Visible) → ProgramAct p.co ps R p a → Bounded (length (variables p)) v → Bounded (length (variables p)) (shown_by a v)
  after_bounded (Act.set x t span) v w b = shown_bounded (length (variables p)) x v w.0.below b
  after_bounded (Act.draw x qs span) v w b = shown_bounded (length (variables p)) x v w.0.below b
  after_bounded (Act.toss x f span) v w b = shown_bounded (length (variables p)) x v w.0.below b
  after_bounded (Act.any x d ty span) v w b = shown_bounded (length (variables p)) x v w.0.below b
  after_bounded (Act.reward f span) v w b = b
  after_bounded (Act.ifs arms e span) v w b = b
  after_bounded (Act.pick d x y span) v w b = b
  after_bounded (Act.check kind f span) v w b = b
  after_bounded (Act.validate co span) v w b = b
  after_bounded (Act.loop h c) v w b = b
  after_bounded (Act.call xs n es span) v w b = shown_all_bounded p xs v (all_own p xs (type_list (procedure_at ps n).outputs) w.1.0) b

  mutual
    below_act : (a : Act) (v : Visible) → ProgramAct p.co ps R p a → Bounded (length (variables p)) v → ScopedAct v a → (m : ℕ) → length (variables p) ≤ m → (k j : Post) → Below p k j → Below p (forward (encoded_act ps p m a) k) (meaning_act p.co (types_of p) ps a j)
    below_act (Act.set x t span) v w b o m l k j r u s c g h = subst (λ i. Safe p.co (j (put x (term_value t s) s) c) (k (put x i u) c)) (sym (term_same _ v b u s g t o)) (r _ _ c (agree_put _ x _ u s g) (put_keeps (types_of p) s x _ h (term_typed (types_of p) (types_of p x) t s w.1 h)))
    below_act (Act.draw x qs span) v w b o m l k j r u s c g h = drawn_below v b x qs w.1.0 o k j r u s c g h
    below_act (Act.toss x f span) v w b o m l k j r u s c g h = subst (λ z. Safe p.co (drawn x (toss_parts f s) j s (past_products c)) (drawn x (flip_parts (finite_part (minᵛ z oneᵛ))) k u (past_products c))) (sym (value_same _ v b u s g f o)) (drawn_below v b x (toss_parts f s) (toss_fit (types_of p) x f s w.1.0 w.1.1 h) ((λ y e. absurd (cc)), ((λ y e. absurd (cc)), tt)) k j r u s (past_products c) g h)
    below_act (Act.any x d ty span) v w b o m l k j r u s c g h = r _ _ (left c) (agree_put _ x _ u s g) (put_keeps (types_of p) s x _ h (subst (λ t. has t (fit ty (here c)) ≡ true) (sym w.1.0) (fit_has ty (here c))))
    below_act (Act.reward f span) v w b o m l k j r u s c g h = subst (λ i. Safe p.co (j s (left c) +ᵛ value f s Choices.stop) (k u (left c) +ᵛ i)) (sym (value_same _ v b u s g f o)) (safe_sum p.co _ _ _ _ (r u s (left c) g h) (safe_refl p.co _))
    below_act (Act.ifs arms e span) v w b o m l k j r u s c g h = below_arms arms v w.0 b o.0 m l k j r (forward (encoded ps p (m + length (fresh_of_arms ps arms)) e) k) (meaning p.co (types_of p) ps e j) (below_acts e v w.1 b o.1 _ (omega (arith, l)) k j r) u s c g h
    below_act (Act.pick d x y span) v w b o m l k j r u s c g h = safe_picked p.co d _ _ _ _ (below_acts x v w.1.0 b o.0 m l k j r u s (left c) g h) (below_acts y v w.1.1 b o.1 _ (omega (arith, l)) k j r u s (right c) g h)
    below_act (Act.check kind f span) v w b o m l k j r u s c g h = absurd w
    below_act (Act.validate co span) v w b o m l k j r u s c g h = absurd w
    below_act (Act.loop i d) v w b o m l k j r u s c g h = loop_below v b i d w.0 o.1.0.0 o.1.0.1.0 (encoded ps p m d) (meaning p.co (types_of p) ps d) (λ k j r. below_acts d v w.1 b o.1.1 m l k j r) k j r u s c g h
    below_act (Act.call xs n es span) v w b o m l k j r u s c g h = call_below v b span xs n es w o m l k j r u s c g h

    pub below_acts : (acts : Acts) (v : Visible) → Program p.co ps R p acts → Bounded (length (variables p)) v → Scoped v acts → (m : ℕ) → length (variables p) ≤ m → (k j : Post) → Below p k j → Below p (forward (encoded ps p m acts) k) (meaning p.co (types_of p) ps acts j)
    below_acts Acts.done v w b o m l k j r u s c g h = r u s c g h
    below_acts (Acts.next a rest) v w b o m l k j r u s c g h = subst (λ (y : Post). Safe p.co (meaning p.co (types_of p) ps (Acts.next a rest) j s c) (y u c)) (sym (joined no_loops no_calls (encoded_act ps p m a) (encoded ps p (m + length (fresh_of_act ps a)) rest) k)) (below_act a v w.0 b o.0 m l _ _ (below_acts rest (shown_by a v) w.1 (after_bounded a v w.0 b) o.1 _ (omega (arith, l)) k j r) u s c g h)

    below_arms : (arms : Arms) (v : Visible) → ProgramArms p.co ps R p arms → Bounded (length (variables p)) v → ScopedArms v arms → (m : ℕ) → length (variables p) ≤ m → (k j : Post) → Below p k j → (y z : Post) → Below p y z → Below p (meant_arms no_loops no_calls (encoded_arms ps p m arms) k y) (meant_arms (loop_value p.co (types_of p)) (call_value p.co ps) arms j z)
    below_arms Arms.no_arm v w b o m l k j r y z d u s c g h = d u s c g h
    below_arms (Arms.arm e x rest) v w b o m l k j r y z d u s c g h = subst (λ t. Safe p.co (meant_arms (loop_value p.co (types_of p)) (call_value p.co ps) (Arms.arm e x rest) j z s c) (cond t (forward (encoded ps p m x) k u (right c)) (meant_arms no_loops no_calls (encoded_arms ps p (m + length (fresh ps x)) rest) k y u (right c)))) (sym (holds_same _ v b u s g e o.0)) (safe_cond p.co (holds e s Choices.stop) _ _ _ _ (below_acts x v w.1.0 b o.1.0 m l k j r u s (right c) g h) (below_arms rest v w.1.1 b o.1.1 _ (omega (arith, l)) k j r y z d u s (right c) g h))
