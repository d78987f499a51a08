-- Stored configurations with other items and another state: they change as those of the definition
-- do.
use Rattle.std.proofs.Common.{◌≡◌, ℕ, ◌+◌, ◌<◌, ◌≤◌, ◌==◌, ◌≢◌, ◌⊎◌, inl, inr, refl, ap, ap₂, sym, subst, ◌∙◌, arith, append_assoc, Bool, true, false, List, [], ◌∷◌, ◌++◌, length, reverse, drop, get_or}
use Rattle.std.proofs.lemmas.Bool.Decides.{eqb_tells}
use Rattle.std.specs.Prelude.{eqb, set, if◌then◌else◌, Option, Some, is_some, Result, Ok, Err, IfOk}
use Prim.Native.Nat.{zero, suc}
use Rattle.heyvl_num.specs.Rational.{Rational}
use Rattle.heyvl_num.proofs.exported.Exactness.{exact_sumᵛ_some}
use Rattle.heyvl_num.specs.ExactValues.{exact_sumᵛ}
use Rattle.heyvl_num.specs.Value.{Value, ◌+ᵛ◌}
use Rattle.heylo_formula.specs.Formula.{Term}
use Rattle.heylo_formula.specs.declared.values.Val.{Val}
use Rattle.heyvl_acts.specs.Acts.{Act, Acts, Head, TypedProcedure}
use Rattle.heyvl_acts.specs.Places.{in_order}
use Rattle.quant_algebra.specs.ExactOperators.{and_then}
use Rattle.run_machine.specs.declared.configurations.Item.TheVariants.{Turn}
use Rattle.run_machine.specs.Configurations.{Item, push, running}
use Rattle.run_machine.specs.Step.{moved, rewarded, branches, turned, one_more}
use Rattle.run_machine.specs.Names.{Numbered, Lists, Stored, turn_item, items_of, last_call, callers, turns_of, config_of, numbered, Names}
use Rattle.run_machine.specs.internal.Places.{Continues, GoesOn, Stands, text}
use Rattle.run_machine.specs.Replies.{named, replied, surely}
use Rattle.run_machine.specs.StoredMoves.{behind, going, stored_branches, collected, opened, more_turns, turned_at}
use Rattle.run_machine.proofs.Places.{named_push}

last_same : (ps : List TypedProcedure) (xs : List Numbered) (j : Numbered) (is : List Numbered) → last_call ps (xs ++ (j ∷ is)) ≡ last_call ps (j ∷ is)
last_same ps [] j is = refl
last_same ps (x ∷ []) j is = refl
last_same ps (x ∷ (y ∷ xs)) j is = last_same ps (y ∷ xs) j is

abbrev Behind : List Numbered → List Lists → Type 0
Behind is [] = Unit {0}
Behind [] (f ∷ fs) = ⊥
Behind (i ∷ is) (f ∷ fs) = Unit {0}

callers_same : (ps : List TypedProcedure) (xs ys is : List Numbered) (fs : List Lists) → Behind is fs → callers ps (xs ++ is) fs ≡ callers ps (ys ++ is) fs
callers_same ps xs ys is [] g = refl
callers_same ps xs ys [] (f ∷ fs) g = absurd g
callers_same ps xs ys (j ∷ is) (f ∷ fs) g = ap (λ l. record { items = items_of ps f.0; state = f.1; targets = l.0; callee = l.1 } ∷ callers ps f.0 fs) (last_same ps xs j is ∙ sym (last_same ps ys j is))

pub frames_kept : (ps : List TypedProcedure) (items front : List Numbered) (fs : List Lists) → GoesOn items fs → callers ps (front ++ drop 1 items) fs ≡ callers ps items fs
frames_kept ps items front [] g = refl
frames_kept ps [] front (f ∷ fs) g = absurd g
frames_kept ps (i ∷ []) front (f ∷ fs) g = absurd g
frames_kept ps (i ∷ (j ∷ is)) front (f ∷ fs) g = callers_same ps front (i ∷ []) (j ∷ is) (f ∷ fs) tt

pub moves : (ps : List TypedProcedure) (c : Stored) (front : List Numbered) (s : List Val) → Continues c → config_of ps (going c (front ++ behind c) s) ≡ moved (config_of ps c) (items_of ps (front ++ behind c)) s
moves ps c front s g = λ i. record { procedure = c.procedure; items = items_of ps (front ++ drop 1 c.items); frames = frames_kept ps c.items front (reverse c.frames) g i; state = s; reward = c.reward; turns = turns_of c.turns }

pub passes : (ps : List TypedProcedure) (c : Stored) (s : List Val) → Continues c → config_of ps (going c (behind c) s) ≡ moved (config_of ps c) (items_of ps (behind c)) s
passes ps c s g = moves ps c [] s g

pub collects : (ps : List TypedProcedure) (c : Stored) (v : Value) → Continues c → config_of ps (collected c v) ≡ rewarded (config_of ps c) (items_of ps (behind c)) v
collects ps c v g = λ i. record { procedure = c.procedure; items = items_of ps (drop 1 c.items); frames = frames_kept ps c.items [] (reverse c.frames) g i; state = c.state; reward = c.reward +ᵛ v; turns = turns_of c.turns }

pub opens : (ps : List TypedProcedure) (c : Stored) (p place : ℕ) (acts : Acts) → Continues c → Stands (text ps p) place (in_order acts) → config_of ps (opened c p place acts) ≡ moved (config_of ps c) (push acts (items_of ps (behind c))) c.state
opens ps c p place acts g s = moves ps c (numbered p place acts) c.state g ∙ ap (λ l. moved (config_of ps c) l c.state) (named_push ps p place acts (behind c) s)

pub draws : (ps : List TypedProcedure) (c : Stored) (x : ℕ) (qs : List (Rational × Term)) → Continues c → named ps (stored_branches c x qs) ≡ branches (config_of ps c) (items_of ps (behind c)) x qs
draws ps c x [] g = refl
draws ps c x (q ∷ qs) g = ap₂ (λ e l. (q.0, e) ∷ l) (passes ps c _ g) (draws ps c x qs g)

-- ---- Iterations

two_equal : (m n : ℕ) → m ≡ n → (m == n) ≡ true
two_equal m n e = go (eqb_tells m n)
  where
    go : ((eqb m n ≡ true) × (m ≡ n)) ⊎ ((eqb m n ≡ false) × (m ≢ n)) → (m == n) ≡ true
    go (inl k) = k.0
    go (inr k) = absurd (k.1 e)

two_apart : (m n : ℕ) → (m ≡ n → ⊥) → (m == n) ≡ false
two_apart m n e = go (eqb_tells m n)
  where
    go : ((eqb m n ≡ true) × (m ≡ n)) ⊎ ((eqb m n ≡ false) × (m ≢ n)) → (m == n) ≡ false
    go (inl k) = absurd (e k.1)
    go (inr k) = k.0

are_equal : (m n : ℕ) → (m == n) ≡ true → m ≡ n
are_equal m n e = go (eqb_tells m n)
  where
    go : ((eqb m n ≡ true) × (m ≡ n)) ⊎ ((eqb m n ≡ false) × (m ≢ n)) → m ≡ n
    go (inl k) = k.1
    go (inr k) = absurd (let f = sym e ∙ k.0 in cc)

read_same : (ts : List ℕ) (n v : ℕ) → n < length ts → get_or (set ts n v) n 0 ≡ v
read_same [] n v h = absurd (omega (arith, h))
read_same (t ∷ ts) zero v h = refl
read_same (t ∷ ts) (suc n) v h = read_same ts n v (omega (arith, h))

read_other : (ts : List ℕ) (n m v : ℕ) → (m ≡ n → ⊥) → get_or (set ts n v) m 0 ≡ get_or ts m 0
read_other [] n m v h = refl
read_other (t ∷ ts) zero zero v h = absurd (h refl)
read_other (t ∷ ts) zero (suc m) v h = refl
read_other (t ∷ ts) (suc n) zero v h = refl
read_other (t ∷ ts) (suc n) (suc m) v h = read_other ts n m v (λ e. h (ap suc e))

turn_more : (ts : List ℕ) (n m : ℕ) → n < length ts → get_or (set ts n (get_or ts n 0 + 1)) m 0 ≡ (if m == n then 1 + get_or ts m 0 else get_or ts m 0)
turn_more ts n m h = go (eqb_tells m n)
  where
    go : ((eqb m n ≡ true) × (m ≡ n)) ⊎ ((eqb m n ≡ false) × (m ≢ n)) → get_or (set ts n (get_or ts n 0 + 1)) m 0 ≡ (if m == n then 1 + get_or ts m 0 else get_or ts m 0)
    go (inl k) = subst (λ j. get_or (set ts n (get_or ts n 0 + 1)) j 0 ≡ (if j == n then 1 + get_or ts j 0 else get_or ts j 0)) (sym k.1) (read_same ts n (get_or ts n 0 + 1) h ∙ (let r : get_or ts n 0 + 1 ≡ 1 + get_or ts n 0 = omega arith in r) ∙ ap (λ b. if b then 1 + get_or ts n 0 else get_or ts n 0) (sym (two_equal n n refl)))
    go (inr k) = read_other ts n m (get_or ts n 0 + 1) k.1 ∙ ap (λ b. if b then 1 + get_or ts m 0 else get_or ts m 0) (sym k.0)

same_after : (m n : ℕ) → (suc m == suc n) ≡ (m == n)
same_after m n = go (eqb_tells m n)
  where
    go : ((eqb m n ≡ true) × (m ≡ n)) ⊎ ((eqb m n ≡ false) × (m ≢ n)) → (suc m == suc n) ≡ (m == n)
    go (inl k) = two_equal (suc m) (suc n) (ap suc k.1) ∙ sym k.0
    go (inr k) = two_apart (suc m) (suc n) (λ e. k.1 (before e)) ∙ sym k.0
      where
        before : suc m ≡ suc n → m ≡ n
        before e = omega (arith, e)

pub turns_more : (ts : List ℕ) (number m : ℕ) → 1 ≤ number → number ≤ length ts → turns_of (more_turns number ts) m ≡ one_more number (turns_of ts) m
turns_more ts zero m one h = absurd (omega (arith, one))
turns_more ts (suc n) zero one h = ap (λ b. if b then 1 + 0 else 0) (sym (two_apart 0 (suc n) (λ e. omega (arith, e))))
turns_more ts (suc n) (suc m) one h = turn_more ts n m (omega (arith, h)) ∙ ap (λ b. if b then 1 + get_or ts m 0 else get_or ts m 0) (sym (same_after m n))

turn_counted : (ts : List ℕ) (n m p start : ℕ) → (p ≡ start → (1 ≤ n) × (n ≤ length ts)) → turns_of (if p == start then more_turns n ts else ts) m ≡ (if p == start then one_more n (turns_of ts) else turns_of ts) m
turn_counted ts n m p start h = go (p == start) refl
  where
    go : (b : Bool) → (p == start) ≡ b → turns_of (if b then more_turns n ts else ts) m ≡ (if b then one_more n (turns_of ts) else turns_of ts) m
    go true e = let k = h (are_equal p start e) in turns_more ts n m k.0 k.1
    go false e = refl

pub turns_round : (ps : List TypedProcedure) (c : Stored) (p place : ℕ) (h : Head) (b : Acts) → Continues c → Names ps p place (Act.loop h b) → Stands (text ps p) (place + 1) (in_order b) → running c.procedure (callers ps c.items (reverse c.frames)) ≡ p → (p ≡ c.procedure → (1 ≤ h.number) × (h.number ≤ length c.turns)) → config_of ps (turned_at c p place h.number b) ≡ turned (config_of ps c) (push b (Item.turn h b ∷ items_of ps (behind c))) h.number
turns_round ps c p place h b g n s r k =
    let block = numbered p (place + 1) b in
    let items : items_of ps (block ++ (Turn p place ∷ behind c)) ≡ push b (Item.turn h b ∷ items_of ps (behind c)) = named_push ps p (place + 1) b (Turn p place ∷ behind c) s ∙ ap (λ o. push b (turn_item o ∷ items_of ps (behind c))) n in
    let frames : callers ps (block ++ (Turn p place ∷ behind c)) (reverse c.frames) ≡ callers ps c.items (reverse c.frames) = ap (λ l. callers ps l (reverse c.frames)) (sym (append_assoc block (Turn p place ∷ []) (behind c))) ∙ frames_kept ps c.items (block ++ (Turn p place ∷ [])) (reverse c.frames) g in
    λ i. record { procedure = c.procedure; items = items i; frames = frames i; state = c.state; reward = c.reward; turns = λ m. (turn_counted c.turns h.number m p c.procedure k ∙ ap (λ q. (if q == c.procedure then one_more h.number (turns_of c.turns) else turns_of c.turns) m) (sym r)) i }

-- ---- Replies

pub if_ok : {A E : Type 0} (r : Result A E) (P Q : A → Type 0) → ((x : A) → P x → Q x) → IfOk r P → IfOk r Q
if_ok (Ok x) P Q f h = f x h
if_ok (Err e) P Q f h = tt

pub all_fits : (fits : Bool) (x y : Stored) → true ≡ fits → x ≡ y → replied true (surely x) ≡ replied fits (surely y)
all_fits true x y h e = ap (λ z. replied true (surely z)) e
all_fits false x y h e = cc

pub reward_fits : (o : Option Value) (r v w : Value) → Some v ≡ o → Some w ≡ exact_sumᵛ r v → true ≡ is_some (and_then o (λ u. exact_sumᵛ r u))
reward_fits o r v w h k = subst (λ p. true ≡ is_some (and_then p (λ u. exact_sumᵛ r u))) h (subst (λ q. true ≡ is_some q) k refl)

pub reward_is : (c d : Stored) (v w : Value) → Some w ≡ exact_sumᵛ c.reward v → d ≡ going c (behind c) c.state → record { procedure = d.procedure; items = d.items; state = d.state; frames = d.frames; reward = w; turns = d.turns; made = d.made } ≡ collected c v
reward_is c d v w h e = ap (λ x. record { procedure = x.procedure; items = x.items; state = x.state; frames = x.frames; reward = w; turns = x.turns; made = x.made }) e ∙ ap (λ r. record { procedure = c.procedure; items = behind c; state = c.state; frames = c.frames; reward = r; turns = c.turns; made = c.made }) (exact_sumᵛ_some c.reward v w h)
