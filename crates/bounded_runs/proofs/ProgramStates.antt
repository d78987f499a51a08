-- States of a procedure keep their types when one of its variables takes a value, when a call
-- begins and returns, and when variables take any values. Environments are also compared that
-- differ only in some of the visible variables.
use Rattle.std.proofs.Common.{◌≡◌, ◌≢◌, ◌≤◌, ◌<◌, ℕ, refl, sym, ap, ap₂, ◌∙◌, subst, arith, Bool, true, false, cond, ◌==◌, ◌⊎◌, inl, inr, List, [], ◌∷◌, ◌++◌}
use Rattle.std.specs.Prelude.{length, get_or, set, take, drop, eqb}
use Rattle.std.proofs.lemmas.Bool.Decides.{eqb_tells}
use mathlib.Core.Path.{fun_ext}
use Prim.Native.Nat.{zero, suc}
use Rattle.heylo_formula.specs.State.{Env, put, has, fit, environment, listed, IsTyped}
use Rattle.heylo_formula.specs.Choices.{Choices, here, left}
use Rattle.heylo_formula.specs.Typing.{Types, types_in, HasTypes}
use Rattle.heylo_formula.specs.declared.types.Ty.{Ty}
use Rattle.heylo_formula.specs.declared.values.Val.{Val}
use Rattle.heylo_formula.specs.declared.values.Val.TheVariants.{Truth}
use Rattle.heylo_formula.proofs.exported.Agreement.{clash}
use Rattle.heylo_formula.proofs.exported.States.{set_is_put, set_typed, put_keeps, put_again, put_commute, fit_has, fit_same}
use Rattle.heyvl_acts.specs.Acts.{Variable, TypedProcedure, type_list, types_of, variables}
use Rattle.heyvl_acts.specs.Rules.{IsOwn}
use Rattle.heyvl_acts.specs.Visible.{Visible}
use Rattle.run_machine.specs.Bound.{IsState}
use Rattle.run_machine.specs.Configurations.{set_all, first_state, outputs_of}
use Rattle.run_machine.proofs.exported.TypedStates.{types_length, widened, defaults_typed}
use Rattle.bounded_runs.specs.internal.Contracts.{havoc, after, picks, past_picks, put_all}
use Rattle.bounded_runs.specs.internal.Programs.{In, AllIn, Owns}

-- ---- Lists of variables and states with the right types

pub as_long : (xs : List Variable) (s : List Val) → IsTyped (type_list xs) s → length s ≡ length xs
as_long [] s h = ap length h
as_long (x ∷ xs) [] h = absurd h
as_long (x ∷ xs) (v ∷ s) h = ap suc (as_long xs s h.1)

abbrev pub TypedBelow : List Variable → Env → Type 0
TypedBelow xs s = (y : ℕ) → y < length xs → has (types_in (type_list xs) y) (s y) ≡ true

pub listed_state : (xs : List Variable) (s : Env) → TypedBelow xs s → IsTyped (type_list xs) (listed (length xs) s)
listed_state [] s h = refl
listed_state (x ∷ xs) s h = (h 0 (omega arith), listed_state xs (λ y. s (suc y)) (λ y k. h (suc y) (omega arith)))

pub append_typed : (xs ys : List Variable) (vs ws : List Val) → IsTyped (type_list xs) vs → IsTyped (type_list ys) ws → IsTyped (type_list (xs ++ ys)) (vs ++ ws)
append_typed [] ys vs ws h k = subst (λ l. IsTyped (type_list ys) (l ++ ws)) (sym h) k
append_typed (x ∷ xs) ys [] ws h k = absurd h
append_typed (x ∷ xs) ys (v ∷ vs) ws h k = (h.0, append_typed xs ys vs ws h.1 k)

pub take_typed : (xs ys : List Variable) (s : List Val) → IsTyped (type_list (xs ++ ys)) s → IsTyped (type_list xs) (take (length xs) s)
take_typed [] ys s h = refl
take_typed (x ∷ xs) ys [] h = absurd h
take_typed (x ∷ xs) ys (v ∷ s) h = (h.0, take_typed xs ys s h.1)

-- ---- A variable that is the procedure's own

pub own_set : (p : TypedProcedure) (x : ℕ) (v : Val) (s : List Val) → IsOwn p x → has (types_of p x) v ≡ true → IsState p s → IsState p (set s x v)
own_set p x v s o e h = set_typed (type_list (variables p)) s x v h (subst (λ n. x < n) (sym (types_length (variables p))) o.below) e

pub own_put : (p : TypedProcedure) (x : ℕ) (v : Val) (s : List Val) → IsOwn p x → IsState p s → environment (set s x v) ≡ put x v (environment s)
own_put p x v s o h = set_is_put s x v (subst (λ n. x < n) (sym (as_long (variables p) s h)) o.below)

take_set : (n x : ℕ) (v : Val) (s : List Val) → n ≤ x → take n (set s x v) ≡ take n s
take_set zero x v s h = refl
take_set (suc n) x v [] h = refl
take_set (suc n) zero v (w ∷ s) h = absurd (omega arith)
take_set (suc n) (suc x) v (w ∷ s) h = ap (λ t. w ∷ t) (take_set n x v s (omega arith))

abbrev pub inputs_of : TypedProcedure → List Val → List Val
inputs_of p s = take (length p.inputs) s

pub inputs_set : (p : TypedProcedure) (x : ℕ) (v : Val) (s : List Val) → IsOwn p x → inputs_of p (set s x v) ≡ inputs_of p s
inputs_set p x v s o = take_set (length p.inputs) x v s o.no_input

-- A caller's state after a call's return.
pub record Assigned (p : TypedProcedure) (xs : List ℕ) (vs : List Val) (s : List Val) : Type 0 where
  pub typed : IsState p (set_all xs vs s)
  pub inputs : inputs_of p (set_all xs vs s) ≡ inputs_of p s
  pub same : environment (set_all xs vs s) ≡ put_all xs vs (environment s)

pub own_set_all : (p : TypedProcedure) (xs : List ℕ) (ts : List Ty) (vs : List Val) (s : List Val) → Owns p xs ts → IsTyped ts vs → IsState p s → Assigned p xs vs s
own_set_all p [] ts vs s o f h = record { typed = h; inputs = refl; same = refl }
own_set_all p (x ∷ xs) [] vs s o f h = absurd o
own_set_all p (x ∷ xs) (t ∷ ts) [] s o f h = absurd f
own_set_all p (x ∷ xs) (t ∷ ts) (v ∷ vs) s o f h =
    let k = own_set_all p xs ts vs (set s x v) o.1 f.1 (own_set p x v s o.0.0 (widened t (types_of p x) v o.0.1 f.0) h) in
    record { typed = k.typed; inputs = k.inputs ∙ inputs_set p x v s o.0.0; same = k.same ∙ ap (put_all xs vs) (own_put p x v s o.0.0 h) }

put_all_keeps : (p : TypedProcedure) (xs : List ℕ) (ts : List Ty) (vs : List Val) (s : Env) → Owns p xs ts → IsTyped ts vs → HasTypes (types_of p) s → HasTypes (types_of p) (put_all xs vs s)
put_all_keeps p [] ts vs s o f h = h
put_all_keeps p (x ∷ xs) [] vs s o f h = absurd o
put_all_keeps p (x ∷ xs) (t ∷ ts) [] s o f h = absurd f
put_all_keeps p (x ∷ xs) (t ∷ ts) (v ∷ vs) s o f h = put_all_keeps p xs ts vs (put x v s) o.1 f.1 (put_keeps (types_of p) s x v h (widened t (types_of p x) v o.0.1 f.0))

-- ---- The first state of a call, its inputs and its outputs

pub start_typed : (p : TypedProcedure) (vs : List Val) → IsTyped (type_list p.inputs) vs → IsState p (first_state p vs)
start_typed p vs h = append_typed p.inputs (p.outputs ++ p.locals) vs _ h (defaults_typed (type_list (p.outputs ++ p.locals)))

take_append : (xs : List Variable) (vs ws : List Val) → IsTyped (type_list xs) vs → take (length xs) (vs ++ ws) ≡ vs
take_append [] vs ws h = sym h
take_append (x ∷ xs) [] ws h = absurd h
take_append (x ∷ xs) (v ∷ vs) ws h = ap (λ u. v ∷ u) (take_append xs vs ws h.1)

pub inputs_start : (p : TypedProcedure) (vs : List Val) → IsTyped (type_list p.inputs) vs → inputs_of p (first_state p vs) ≡ vs
inputs_start p vs h = take_append p.inputs vs _ h

get_take : (n y : ℕ) (s : List Val) → y < n → get_or (take n s) y (Truth false) ≡ get_or s y (Truth false)
get_take zero y s h = absurd (omega arith)
get_take (suc n) y [] h = refl
get_take (suc n) zero (w ∷ s) h = refl
get_take (suc n) (suc y) (w ∷ s) h = get_take n y s (omega arith)

pub front_same : (n y : ℕ) (s : List Val) → y < n → environment s y ≡ environment (take n s) y
front_same n y s h = sym (get_take n y s h)

take_none : (n : ℕ) → take {A = Val} n [] ≡ []
take_none zero = refl
take_none (suc n) = refl

take_both : (xs ys : List Variable) (s : List Val) → take (length xs) s ++ take (length ys) (drop (length xs) s) ≡ take (length (xs ++ ys)) s
take_both [] ys s = refl
take_both (x ∷ xs) ys [] = take_none (length ys)
take_both (x ∷ xs) ys (v ∷ s) = ap (λ l. v ∷ l) (take_both xs ys s)

pub results : (p : TypedProcedure) (s : List Val) → inputs_of p s ++ outputs_of p s ≡ take (length (p.inputs ++ p.outputs)) s
results p s = take_both p.inputs p.outputs s

-- ---- Choices that keep the variables, that give values, or that repeat the first choices

abbrev pub keep : List ℕ → Env → Choices → Choices
keep [] s c = c
keep (x ∷ xs) s c = Choices.choose (s x) (keep xs s c) Choices.stop

put_self : (x : ℕ) (s : Env) → put x (s x) s ≡ s
put_self x s = fun_ext (λ y. go y (eqb_tells x y))
  where
    go : (y : ℕ) → ((eqb x y ≡ true) × (x ≡ y)) ⊎ ((eqb x y ≡ false) × (x ≢ y)) → cond (x == y) (s x) (s y) ≡ s y
    go y (inl e) = rw e.0 (ap s e.1)
    go y (inr e) = rw e.0

pub havoc-keep : (p : TypedProcedure) (xs : List ℕ) (s : Env) (c : Choices) → HasTypes (types_of p) s → havoc (types_of p) xs s (keep xs s c) ≡ s
havoc-keep p [] s c h = refl
havoc-keep p (x ∷ xs) s c h = ap (λ t. havoc (types_of p) xs t (keep xs s c)) (ap (λ v. put x v s) (fit_same (types_of p x) (s x) (h.typed x)) ∙ put_self x s) ∙ havoc-keep p xs s c h

pub after-keep : (xs : List ℕ) (s : Env) (c : Choices) → after xs (keep xs s c) ≡ c
after-keep [] s c = refl
after-keep (x ∷ xs) s c = after-keep xs s c

abbrev pub again : List ℕ → Choices → Choices → Choices
again [] c d = d
again (x ∷ xs) c d = Choices.choose (here c) (again xs (left c) d) Choices.stop

pub havoc-again : (types : Types) (xs : List ℕ) (s : Env) (c d : Choices) → havoc types xs s (again xs c d) ≡ havoc types xs s c
havoc-again types [] s c d = refl
havoc-again types (x ∷ xs) s c d = havoc-again types xs (put x (fit (types x) (here c)) s) (left c) d

pub after-again : (xs : List ℕ) (c d : Choices) → after xs (again xs c d) ≡ d
after-again [] c d = refl
after-again (x ∷ xs) c d = after-again xs (left c) d

abbrev pub give : List Val → Choices → Choices
give [] d = d
give (v ∷ vs) d = Choices.choose v (give vs d) Choices.stop

pub picks-give : (ts : List Ty) (vs : List Val) (d : Choices) → IsTyped ts vs → picks ts (give vs d) ≡ vs
picks-give [] vs d h = sym h
picks-give (t ∷ ts) [] d h = absurd h
picks-give (t ∷ ts) (v ∷ vs) d h = ap₂ (λ (x : Val) (xs : List Val). x ∷ xs) (fit_same t v h.0) (picks-give ts vs d h.1)

pub past-give : (ts : List Ty) (vs : List Val) (d : Choices) → IsTyped ts vs → past_picks ts (give vs d) ≡ d
past-give [] vs d h = subst (λ l. give l d ≡ d) (sym h) refl
past-give (t ∷ ts) [] d h = absurd h
past-give (t ∷ ts) (v ∷ vs) d h = past-give ts vs d h.1

abbrev pub repick : List Ty → Choices → Choices → Choices
repick [] c d = d
repick (t ∷ ts) c d = Choices.choose (here c) (repick ts (left c) d) Choices.stop

pub picks-repick : (ts : List Ty) (c d : Choices) → picks ts (repick ts c d) ≡ picks ts c
picks-repick [] c d = refl
picks-repick (t ∷ ts) c d = ap (λ (xs : List Val). fit t (here c) ∷ xs) (picks-repick ts (left c) d)

pub past-repick : (ts : List Ty) (c d : Choices) → past_picks ts (repick ts c d) ≡ d
past-repick [] c d = refl
past-repick (t ∷ ts) c d = past-repick ts (left c) d

pub picks_typed : (ts : List Ty) (c : Choices) → IsTyped ts (picks ts c)
picks_typed [] c = refl
picks_typed (t ∷ ts) c = (fit_has t (here c), picks_typed ts (left c))

-- ---- Two environments that differ only in these of the visible variables, the second one with the
-- right types

pub record Same (p : TypedProcedure) (v : Visible) (ms : List ℕ) (s t : Env) : Type 0 where
  pub same : (c : Choices) (y : ℕ) → v y ≡ true → havoc (types_of p) ms s c y ≡ havoc (types_of p) ms t c y
  pub typed : HasTypes (types_of p) t

pub havoc-at : (types : Types) (ms : List ℕ) (s t : Env) (c : Choices) (y : ℕ) → s y ≡ t y → havoc types ms s c y ≡ havoc types ms t c y
havoc-at types [] s t c y e = e
havoc-at types (m ∷ ms) s t c y e = havoc-at types ms _ _ (left c) y (ap (λ w. cond (m == y) (fit (types m) (here c)) w) e)

alike : (x y : ℕ) → x ≡ y → (x == y) ≡ true
alike x y h = grind arith

havoc-put : (types : Types) (ms : List ℕ) (x : ℕ) (a : Val) (s : Env) → In x ms → (c : Choices) → havoc types ms s c ≡ havoc types ms (put x a s) c
havoc-put types [] x a s h c = absurd h
havoc-put types (m ∷ ms) x a s (inl h) c = ap (λ t. havoc types ms t (left c)) (sym (put_again x m (fit (types m) (here c)) a s (alike x m (sym h))))
havoc-put types (m ∷ ms) x a s (inr h) c = go (eqb_tells x m) (havoc-put types ms x a (put m (fit (types m) (here c)) s) h (left c))
  where
    go : ((eqb x m ≡ true) × (x ≡ m)) ⊎ ((eqb x m ≡ false) × (x ≢ m)) → havoc types ms (put m (fit (types m) (here c)) s) (left c) ≡ havoc types ms (put x a (put m (fit (types m) (here c)) s)) (left c) → havoc types ms (put m (fit (types m) (here c)) s) (left c) ≡ havoc types ms (put m (fit (types m) (here c)) (put x a s)) (left c)
    go (inl e) ih = ap (λ t. havoc types ms t (left c)) (sym (put_again x m (fit (types m) (here c)) a s e.0))
    go (inr e) ih = ih ∙ ap (λ t. havoc types ms t (left c)) (put_commute x m (fit (types m) (here c)) a s e.0)

pub same_refl : (p : TypedProcedure) (v : Visible) (ms : List ℕ) (s : Env) → HasTypes (types_of p) s → Same p v ms s s
same_refl p v ms s h = record { same = λ c y e. refl; typed = h }

hidden_put : (types : Types) (v : Visible) (ms : List ℕ) (x : ℕ) (a : Val) (t : Env) (c : Choices) (y : ℕ) → v x ≡ false → v y ≡ true → havoc types ms t c y ≡ havoc types ms (put x a t) c y
hidden_put types v ms x a t c y h e = havoc-at types ms t (put x a t) c y (go (eqb_tells x y))
  where
    go : ((eqb x y ≡ true) × (x ≡ y)) ⊎ ((eqb x y ≡ false) × (x ≢ y)) → t y ≡ cond (x == y) a (t y)
    go (inl k) = absurd (clash (v y) e (subst (λ z. v z ≡ false) k.1 h))
    go (inr k) = rw k.0 refl

pub same_put : (p : TypedProcedure) (v : Visible) (ms : List ℕ) (x : ℕ) (a : Val) (s t : Env) → (v x ≡ true → In x ms) → has (types_of p x) a ≡ true → Same p v ms s t → Same p v ms s (put x a t)
same_put p v ms x a s t h e k = record { same = λ c y i. k.same c y i ∙ go c y i (v x) refl; typed = put_keeps (types_of p) t x a k.typed e }
  where
    go : (c : Choices) (y : ℕ) → v y ≡ true → (b : Bool) → v x ≡ b → havoc (types_of p) ms t c y ≡ havoc (types_of p) ms (put x a t) c y
    go c y i true q = ap (λ (r : Env). r y) (havoc-put (types_of p) ms x a t (h q) c)
    go c y i false q = hidden_put (types_of p) v ms x a t c y q i

pub same_put_all : (p : TypedProcedure) (v : Visible) (ms : List ℕ) (xs : List ℕ) (ts : List Ty) (vs : List Val) (s t : Env) → AllIn v ms xs → Owns p xs ts → IsTyped ts vs → Same p v ms s t → Same p v ms s (put_all xs vs t)
same_put_all p v ms [] ts vs s t h o f k = k
same_put_all p v ms (x ∷ xs) [] vs s t h o f k = absurd o
same_put_all p v ms (x ∷ xs) (u ∷ ts) [] s t h o f k = absurd f
same_put_all p v ms (x ∷ xs) (u ∷ ts) (w ∷ vs) s t h o f k = same_put_all p v ms xs ts vs s (put x w t) h.1 o.1 f.1 (same_put p v ms x w s t h.0 (widened u (types_of p x) w o.0.1 f.0) k)

pub same_havoc : (p : TypedProcedure) (v : Visible) (ms ns : List ℕ) (s t : Env) (c : Choices) → AllIn v ms ns → Same p v ms s t → Same p v ms s (havoc (types_of p) ns t c)
same_havoc p v ms [] s t c h k = k
same_havoc p v ms (n ∷ ns) s t c h k = same_havoc p v ms ns s (put n (fit (types_of p n) (here c)) t) (left c) h.1 (same_put p v ms n (fit (types_of p n) (here c)) s t h.0 (fit_has (types_of p n) (here c)) k)

pub havoc_keeps : (types : Types) (ns : List ℕ) (t : Env) (c : Choices) → HasTypes types t → HasTypes types (havoc types ns t c)
havoc_keeps types [] t c h = h
havoc_keeps types (n ∷ ns) t c h = havoc_keeps types ns (put n (fit (types n) (here c)) t) (left c) (put_keeps types t n (fit (types n) (here c)) h (fit_has (types n) (here c)))

pub calls_keep : (p : TypedProcedure) (xs : List ℕ) (ts : List Ty) (c : Choices) (s : Env) → Owns p xs ts → HasTypes (types_of p) s → HasTypes (types_of p) (put_all xs (picks ts c) s)
calls_keep p xs ts c s o h = put_all_keeps p xs ts (picks ts c) s o (picks_typed ts c) h
