-- States keep their types: in an assignment, in the first state of a call, and in its outputs.
use Rattle.std.proofs.Common.{◌≡◌, ℕ, ◌≤◌, ◌<◌, ◌+◌, ◌==◌, ◌&&◌, refl, ap, sym, subst, ◌∙◌, arith, Bool, true, false, List, [], ◌∷◌, ◌++◌, length, map, take, drop}
use Rattle.std.proofs.lemmas.List.{length-append}
use Rattle.std.specs.Prelude.{set}
use Prim.Native.Nat.{suc}
use Rattle.heyvl_num.specs.Rational.{zeroʳ, leqʳ}
use Rattle.heylo_formula.specs.Formula.{Term}
use Rattle.heylo_formula.specs.Meaning.{term_value}
use Rattle.heylo_formula.specs.State.{has, default, environment, IsTyped}
use Rattle.heylo_formula.specs.Typing.{TermFits}
use Rattle.heylo_formula.specs.declared.types.Ty.{Ty}
use Rattle.heylo_formula.specs.declared.values.Val.{Val}
use Rattle.heylo_formula.specs.declared.values.Val.TheVariants.{Truth, Num}
use Rattle.heylo_formula.proofs.exported.States.{length-typed, fit_has, env_typed, set_typed, typed_append}
use Rattle.heylo_formula.proofs.exported.TypedTerms.{term_typed}
use Rattle.heyvl_acts.specs.Acts.{Variable, TypedProcedure, type_list, types_of, variables}
use Rattle.heyvl_acts.specs.Rules.{Each, IsOwn, widens_to, ArgumentsFit, TargetsFit}
use Rattle.run_machine.specs.Bound.{IsState}
use Rattle.run_machine.specs.Configurations.{evaluate, first_state, outputs_of, set_all}

pub types_append : (xs ys : List Variable) → type_list (xs ++ ys) ≡ type_list xs ++ type_list ys
types_append [] ys = refl
types_append (x ∷ xs) ys = ap (λ l. x.ty ∷ l) (types_append xs ys)

pub types_length : (xs : List Variable) → length (type_list xs) ≡ length xs
types_length [] = refl
types_length (x ∷ xs) = ap suc (types_length xs)

pub own_set : (p : TypedProcedure) (s : List Val) (x : ℕ) (v : Val) → IsState p s → IsOwn p x → has (types_of p x) v ≡ true → IsState p (set s x v)
own_set p s x v h o e = set_typed (type_list (variables p)) s x v h (subst (λ n. x < n) (sym (types_length (variables p))) o.below) e

pub term_has : (p : TypedProcedure) (s : List Val) (ty : Ty) (t : Term) → IsState p s → TermFits (types_of p) ty t → has ty (term_value t (environment s)) ≡ true
term_has p s ty t h f = term_typed (types_of p) ty t (environment s) f (env_typed (type_list (variables p)) s h)

-- ---- The first state of a call

default_has : (ty : Ty) → has ty (default ty) ≡ true
default_has Ty.Bool = fit_has Ty.Bool (Num zeroʳ)
default_has Ty.Int = fit_has Ty.Int (Truth false)
default_has Ty.UInt = fit_has Ty.UInt (Truth false)
default_has Ty.UReal = fit_has Ty.UReal (Truth false)

pub defaults_typed : (tys : List Ty) → IsTyped tys (map default tys)
defaults_typed [] = refl
defaults_typed (ty ∷ tys) = (default_has ty, defaults_typed tys)

arguments_typed : (p : TypedProcedure) (s : List Val) (tys : List Ty) (es : List Term) → IsState p s → ArgumentsFit p tys es → IsTyped tys (evaluate es (environment s))
arguments_typed p s [] [] h f = refl
arguments_typed p s [] (e ∷ es) h f = absurd f
arguments_typed p s (ty ∷ tys) [] h f = absurd f
arguments_typed p s (ty ∷ tys) (e ∷ es) h f = (term_has p s ty e h f.0, arguments_typed p s tys es h f.1)

pub first_typed : (p q : TypedProcedure) (s : List Val) (es : List Term) → IsState p s → ArgumentsFit p (type_list q.inputs) es → IsState q (first_state q (evaluate es (environment s)))
first_typed p q s es h f = subst (λ tys. IsTyped tys (first_state q (evaluate es (environment s)))) (sym (types_append q.inputs (q.outputs ++ q.locals))) (typed_append (type_list q.inputs) (type_list (q.outputs ++ q.locals)) _ _ (arguments_typed p s (type_list q.inputs) es h f) (defaults_typed (type_list (q.outputs ++ q.locals))))

-- ---- The outputs of a call

both : (a b : Bool) → (a && b) ≡ true → (a ≡ true) × (b ≡ true)
both true b h = (refl, h)
both false b h = absurd (cc)

pub widened : (t u : Ty) (v : Val) → widens_to t u ≡ true → has t v ≡ true → has u v ≡ true
widened Ty.Bool Ty.Bool v w h = h
widened Ty.Bool Ty.Int v w h = absurd (cc)
widened Ty.Bool Ty.UInt v w h = absurd (cc)
widened Ty.Bool Ty.UReal v w h = absurd (cc)
widened Ty.Int Ty.Bool v w h = absurd (cc)
widened Ty.Int Ty.Int v w h = h
widened Ty.Int Ty.UInt v w h = absurd (cc)
widened Ty.Int Ty.UReal v w h = absurd (cc)
widened Ty.UInt Ty.Bool v w h = absurd (cc)
widened Ty.UInt Ty.Int (Truth b) w h = absurd (cc)
widened Ty.UInt Ty.Int (Num x) w h = (both (x.den == 1) (leqʳ zeroʳ x) h).0
widened Ty.UInt Ty.UInt v w h = h
widened Ty.UInt Ty.UReal (Truth b) w h = absurd (cc)
widened Ty.UInt Ty.UReal (Num x) w h = (both (x.den == 1) (leqʳ zeroʳ x) h).1
widened Ty.UReal Ty.Bool v w h = absurd (cc)
widened Ty.UReal Ty.Int v w h = absurd (cc)
widened Ty.UReal Ty.UInt v w h = absurd (cc)
widened Ty.UReal Ty.UReal v w h = h

typed_first : (tys us : List Ty) (s : List Val) → IsTyped (tys ++ us) s → IsTyped tys (take (length tys) s)
typed_first [] us s h = refl
typed_first (ty ∷ tys) us [] h = absurd h
typed_first (ty ∷ tys) us (v ∷ s) h = (h.0, typed_first tys us s h.1)

typed_second : (tys us : List Ty) (s : List Val) → IsTyped (tys ++ us) s → IsTyped us (drop (length tys) s)
typed_second [] us s h = h
typed_second (ty ∷ tys) us [] h = absurd h
typed_second (ty ∷ tys) us (v ∷ s) h = typed_second tys us s h.1

pub outputs_typed : (q : TypedProcedure) (s : List Val) → IsState q s → IsTyped (type_list q.outputs) (outputs_of q s)
outputs_typed q s h =
    let all = subst (λ tys. IsTyped tys s) (types_append q.inputs (q.outputs ++ q.locals) ∙ ap (λ l. type_list q.inputs ++ l) (types_append q.outputs q.locals)) h in
    let behind = typed_second (type_list q.inputs) (type_list q.outputs ++ type_list q.locals) s all in
    subst (λ n. IsTyped (type_list q.outputs) (take n (drop (length q.inputs) s))) (types_length q.outputs) (typed_first (type_list q.outputs) (type_list q.locals) (drop (length q.inputs) s) (subst (λ n. IsTyped (type_list q.outputs ++ type_list q.locals) (drop n s)) (types_length q.inputs) behind))

all_set : (p : TypedProcedure) (xs : List ℕ) (tys : List Ty) (vs s : List Val) → Each (IsOwn p) xs → TargetsFit p xs tys → IsTyped tys vs → IsState p s → IsState p (set_all xs vs s)
all_set p [] tys vs s o f t h = h
all_set p (x ∷ xs) [] vs s o f t h = absurd f
all_set p (x ∷ xs) (ty ∷ tys) [] s o f t h = absurd t
all_set p (x ∷ xs) (ty ∷ tys) (v ∷ vs) s o f t h = all_set p xs tys vs (set s x v) o.1 f.1 t.1 (own_set p s x v h o.0 (widened ty (types_of p x) v f.0 t.0))

pub resumed_typed : (p q : TypedProcedure) (xs : List ℕ) (last s : List Val) → Each (IsOwn p) xs → TargetsFit p xs (type_list q.outputs) → IsState q last → IsState p s → IsState p (set_all xs (outputs_of q last) s)
resumed_typed p q xs last s o f l h = all_set p xs (type_list q.outputs) (outputs_of q last) s o f (outputs_typed q last l) h

pub state_long : (q : TypedProcedure) (s : List Val) → IsState q s → length q.inputs + length q.outputs ≤ length s
state_long q s h = let a = length-typed (type_list (variables q)) s h in let b = types_length (variables q) in let d = length-append q.inputs (q.outputs ++ q.locals) in let e = length-append q.outputs q.locals in omega (arith, a, b, d, e)
