-- For the proofs of other crates: typed states, which are lists of values, their environments, and
-- values that fit a type.
use Rattle.std.proofs.Common.{◌≡◌, ◌≢◌, ◌<◌, ◌+◌, ℕ, refl, sym, ap, ◌∙◌, subst, arith, true, false, cond, ◌==◌, ◌⊎◌, inl, inr, List, [], ◌∷◌, ◌++◌}
use Rattle.std.specs.Prelude.{length, get_or, set, eqb}
use Rattle.std.proofs.lemmas.Bool.Decides.{eqb_tells}
use Rattle.std.proofs.lemmas.Grind.{get_or-set_at}
use Rattle.std.proofs.lemmas.List.{get_or-set_other}
use mathlib.Core.Path.{fun_ext}
use Prim.Native.Nat.{zero, suc}
use Rattle.heylo_formula.specs.State.{Env, put, has, environment, IsTyped, listed}
use Rattle.heylo_formula.specs.Typing.{Types, types_in, HasTypes}
use Rattle.heylo_formula.specs.declared.types.Ty.{Ty}
use Rattle.heylo_formula.specs.declared.values.Val.{Val}
use Rattle.heylo_formula.specs.declared.values.Val.TheVariants.{Truth}
pub use Rattle.heylo_formula.proofs.Dependence.{put_again, put_commute}
pub use Rattle.heylo_formula.proofs.TypedValues.{fit_has, fit_same, put_typed}

pub length-typed : (tys : List Ty) (s : List Val) → IsTyped tys s → length s ≡ length tys
length-typed [] s h = ap length h
length-typed (t ∷ tys) [] h = absurd h
length-typed (t ∷ tys) (v ∷ s) h = ap suc (length-typed tys s h.1)

pub set_is_put : (s : List Val) (x : ℕ) (v : Val) → x < length s → environment (set s x v) ≡ put x v (environment s)
set_is_put s x v h = fun_ext (λ y. go y (eqb_tells x y))
  where
    go : (y : ℕ) → ((eqb x y ≡ true) × (x ≡ y)) ⊎ ((eqb x y ≡ false) × (x ≢ y)) → get_or (set s x v) y (Truth false) ≡ cond (x == y) v (get_or s y (Truth false))
    go y (inl e) = rw e.0 (get_or-set_at s x y v (Truth false) (sym e.1) h)
    go y (inr e) = rw e.0 (get_or-set_other s x y v (Truth false) (λ p. e.1 (sym p)))

env_at : (tys : List Ty) (s : List Val) → IsTyped tys s → (y : ℕ) → has (types_in tys y) (environment s y) ≡ true
env_at [] s h y = subst (λ l. has Ty.Bool (get_or l y (Truth false)) ≡ true) (sym h) refl
env_at (t ∷ tys) [] h y = absurd h
env_at (t ∷ tys) (v ∷ s) h zero = h.0
env_at (t ∷ tys) (v ∷ s) h (suc y) = env_at tys s h.1 y

pub env_typed : (tys : List Ty) (s : List Val) → IsTyped tys s → HasTypes (types_in tys) (environment s)
env_typed tys s h = record { typed = env_at tys s h }

pub set_typed : (tys : List Ty) (s : List Val) (x : ℕ) (v : Val) → IsTyped tys s → x < length tys → has (types_in tys x) v ≡ true → IsTyped tys (set s x v)
set_typed [] s x v h l e = absurd (omega arith)
set_typed (t ∷ tys) [] x v h l e = absurd h
set_typed (t ∷ tys) (w ∷ s) zero v h l e = (e, h.1)
set_typed (t ∷ tys) (w ∷ s) (suc x) v h l e = (h.0, set_typed tys s x v h.1 (omega arith) e)

pub put_keeps : (types : Types) (s : Env) (x : ℕ) (v : Val) → HasTypes types s → has (types x) v ≡ true → HasTypes types (put x v s)
put_keeps types s x v h e = record { typed = λ y. go y (eqb_tells x y) }
  where
    go : (y : ℕ) → ((eqb x y ≡ true) × (x ≡ y)) ⊎ ((eqb x y ≡ false) × (x ≢ y)) → has (types y) (cond (x == y) v (s y)) ≡ true
    go y (inl k) = rw k.0 (subst (λ z. has (types z) v ≡ true) k.1 e)
    go y (inr k) = rw k.0 (h.typed y)

pub listed_same : (n : ℕ) (s : Env) (y : ℕ) → y < n → s y ≡ environment (listed n s) y
listed_same zero s y h = absurd (omega arith)
listed_same (suc n) s zero h = refl
listed_same (suc n) s (suc y) h = listed_same n (λ y. s (suc y)) y (omega arith)

pub listed_typed : (tys : List Ty) (s : Env) → ((y : ℕ) → y < length tys → has (types_in tys y) (s y) ≡ true) → IsTyped tys (listed (length tys) s)
listed_typed [] s h = refl
listed_typed (t ∷ tys) s h = (h 0 (omega arith), listed_typed tys (λ y. s (suc y)) (λ y k. h (suc y) (omega arith)))

pub typed_append : (tys us : List Ty) (s t : List Val) → IsTyped tys s → IsTyped us t → IsTyped (tys ++ us) (s ++ t)
typed_append [] us s t h k = subst (λ l. IsTyped us (l ++ t)) (sym h) k
typed_append (ty ∷ tys) us [] t h k = absurd h
typed_append (ty ∷ tys) us (v ∷ s) t h k = (h.0, typed_append tys us s t h.1 k)

pub append_first : (s t : List Val) (y : ℕ) → y < length s → environment (s ++ t) y ≡ environment s y
append_first [] t y h = absurd (omega arith)
append_first (v ∷ s) t zero h = refl
append_first (v ∷ s) t (suc y) h = append_first s t y (omega arith)

pub append_second : (s t : List Val) (y : ℕ) → environment (s ++ t) (length s + y) ≡ environment t y
append_second [] t y = ap (λ z. environment t z) (zero_plus y)
  where
    zero_plus : (n : ℕ) → 0 + n ≡ n
    zero_plus n = omega arith
append_second (v ∷ s) t y = ap (λ z. environment (v ∷ (s ++ t)) z) (next (length s) y) ∙ append_second s t y
  where
    next : (n m : ℕ) → suc n + m ≡ suc (n + m)
    next n m = omega arith

pub types_first : (tys us : List Ty) (y : ℕ) → y < length tys → types_in (tys ++ us) y ≡ types_in tys y
types_first [] us y h = absurd (omega arith)
types_first (t ∷ tys) us zero h = refl
types_first (t ∷ tys) us (suc y) h = types_first tys us y (omega arith)

pub types_second : (tys us : List Ty) (y : ℕ) → types_in (tys ++ us) (length tys + y) ≡ types_in us y
types_second [] us y = ap (λ z. types_in us z) (zero_plus y)
  where
    zero_plus : (n : ℕ) → 0 + n ≡ n
    zero_plus n = omega arith
types_second (t ∷ tys) us y = ap (λ z. types_in (t ∷ (tys ++ us)) z) (next (length tys) y) ∙ types_second tys us y
  where
    next : (n m : ℕ) → suc n + m ≡ suc (n + m)
    next n m = omega arith
