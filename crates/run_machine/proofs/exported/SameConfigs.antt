-- The derived comparison of configurations is that of the stored configurations.
use Rattle.std.proofs.Common.{arith, rules, ◌≡◌, ◌<◌, ◌&&◌, ◌==◌, ℕ, Bool, true, false, List, [], ◌∷◌, map, refl, ap, ap₂, subst}
use Rattle.std.proofs.lemmas.Bool.Decides.{Decides-eqb, Decides-int_eq, same_from_decides}
use Rattle.std.proofs.Math.Bridge.{le_prop}
use Rattle.std.proofs.Math.Dec.{compare_is_eq}
use Rattle.std.proofs.Math.Nat.{ℕ_set}
use Rattle.std.specs.Bool.{Decides}
use Rattle.std.specs.Cmp.Lexicographic.{pointwise, pointwise_decides}
use Rattle.std.specs.Int.RustNames.{unsigned_abs}
use Rattle.std.specs.Prelude.{pos}
use Prim.Native.Nat.{compare}
use mathlib.Core.HLevel.{is_prop→PathP}
use Rattle.heyvl_num.specs.ExtendedNumbers.{value_of}
use Rattle.heyvl_num.specs.Gcd.{gcd}
use Rattle.heyvl_num.specs.Rational.{Rational}
use Rattle.heyvl_num.specs.Value.{Value}
use Rattle.heyvl_num.specs.Value.Value.{finite, infinite}
use Rattle.heyvl_num.specs.declared.extended_numbers.Ext.{Ext}
use Rattle.heyvl_num.specs.contracts.fractions.FracPartialEq.TheImpl as fraction
use Rattle.heyvl_num.specs.contracts.extended_numbers.ExtPartialEq.TheImpl as ext
use Rattle.heylo_formula.specs.declared.values.Val.{Val}
use Rattle.heylo_formula.specs.contracts.values.ValPartialEq.TheImpl as val
use Rattle.run_machine.specs.declared.configurations.Config as C
use Rattle.run_machine.specs.declared.configurations.Frame as F
use Rattle.run_machine.specs.contracts.configurations.ConfigPartialEq.TheImpl as config
use Rattle.run_machine.specs.contracts.configurations.FramePartialEq.TheImpl as frame
use Rattle.run_machine.specs.contracts.configurations.ItemPartialEq.TheImpl as item
use Rattle.run_machine.specs.Names.{Lists, Numbered, lists_of, stored}
use Rattle.run_machine.specs.SameConfigurations.{SameIsEqual, same_lists, same_stored, same_value}

-- ---- The derived tests decide equality

both_are : (a b : Bool) → (a && b) ≡ true → (a ≡ true) × (b ≡ true)
both_are true b e = (refl, e)
both_are false b e = absurd (cc)

both_true : (a b : Bool) → a ≡ true → b ≡ true → (a && b) ≡ true
both_true true b p q = q
both_true false b p q = absurd (cc)

same_number : (x y : Rational) → x.num ≡ y.num → x.den ≡ y.den → x ≡ y
same_number x y p q = λ i. record { num = p i; den = q i; positive = is_prop→PathP (λ i. 0 < q i) (λ i. le_prop) x.positive y.positive i; lowest = is_prop→PathP (λ i. gcd (unsigned_abs (p i)) (q i) ≡ 1) (λ i. ℕ_set _ _) x.lowest y.lowest i }

fraction_is : (x y : Rational) → fraction.ghosts.eq x y ≡ true → x ≡ y
fraction_is x y e =
    let p = both_are _ _ e in
    let d : pos x.den ≡ pos y.den = (Decides-int_eq (pos x.den) (pos y.den)).0 p.1 in
    same_number x y ((Decides-int_eq x.num y.num).0 p.0) (cc)

fraction_itself : (x : Rational) → fraction.ghosts.eq x x ≡ true
fraction_itself x = both_true _ _ ((Decides-int_eq x.num x.num).1 refl) ((Decides-int_eq (pos x.den) (pos x.den)).1 refl)

fraction_decides : (x y : Rational) → Decides (fraction.ghosts.eq x y) (x ≡ y)
fraction_decides x y = (fraction_is x y, λ e. subst (λ z. fraction.ghosts.eq x z ≡ true) e (fraction_itself x))

item_decides : (a b : Numbered) → Decides (item.ghosts.eq a b) (a ≡ b)
item_decides a b = (is a b, λ e. subst (λ c. item.ghosts.eq a c ≡ true) e (itself a))
  where
    is : (a b : Numbered) → item.ghosts.eq a b ≡ true → a ≡ b
    is a b e = search rules

    itself : (a : Numbered) → item.ghosts.eq a a ≡ true
    itself a = search rules

val_is : (a b : Val) → val.ghosts.eq a b ≡ true → a ≡ b
val_is (Val.Truth x) (Val.Truth y) e = search rules
val_is (Val.Truth x) (Val.Num y) e = absurd (cc)
val_is (Val.Num x) (Val.Truth y) e = absurd (cc)
val_is (Val.Num x) (Val.Num y) e = ap Val.Num (fraction_is x y e)

val_itself : (a : Val) → val.ghosts.eq a a ≡ true
val_itself (Val.Truth x) = search rules
val_itself (Val.Num x) = fraction_itself x

val_decides : (a b : Val) → Decides (val.ghosts.eq a b) (a ≡ b)
val_decides a b = (val_is a b, λ e. subst (λ c. val.ghosts.eq a c ≡ true) e (val_itself a))

value_is : (v w : Value) → same_value v w ≡ true → v ≡ w
value_is (finite x) (finite y) e = ap finite (fraction_is x y e)
value_is (finite x) infinite e = absurd (cc)
value_is infinite (finite y) e = absurd (cc)
value_is infinite infinite e = refl

value_itself : (v : Value) → same_value v v ≡ true
value_itself (finite x) = fraction_itself x
value_itself infinite = refl

lists_decide : (a b : Lists) → Decides (same_lists a b) (a ≡ b)
lists_decide a b = (is, λ e. both_true _ _ ((pointwise_decides item_decides a.0 b.0).1 (ap (λ l. l.0) e)) ((pointwise_decides val_decides a.1 b.1).1 (ap (λ l. l.1) e)))
  where
    is : same_lists a b ≡ true → a ≡ b
    is e = let p = both_are _ _ e in ap₂ (λ i s. (i, s)) ((pointwise_decides item_decides a.0 b.0).0 p.0) ((pointwise_decides val_decides a.1 b.1).0 p.1)

number_decides : (m n : ℕ) → Decides (m == n) (m ≡ n)
number_decides m n = Decides-eqb m n

pub same_is_equal : SameIsEqual
same_is_equal c d = (is, same)
  where
    is : same_stored c d ≡ true → c ≡ d
    is e =
        let p = both_are _ _ e in
        let q = both_are _ _ p.1 in
        let r = both_are _ _ q.1 in
        let s = both_are _ _ r.1 in
        let t = both_are _ _ s.1 in
        let u = both_are _ _ t.1 in
        let one = (number_decides c.procedure d.procedure).0 p.0 in
        let two = (pointwise_decides item_decides c.items d.items).0 q.0 in
        let three = (pointwise_decides val_decides c.state d.state).0 r.0 in
        let four = (pointwise_decides lists_decide c.frames d.frames).0 s.0 in
        let five = value_is c.reward d.reward t.0 in
        let six = (pointwise_decides number_decides c.turns d.turns).0 u.0 in
        let seven = (number_decides c.made d.made).0 u.1 in
        λ i. record { procedure = one i; items = two i; state = three i; frames = four i; reward = five i; turns = six i; made = seven i }

    same : c ≡ d → same_stored c d ≡ true
    same e =
        both_true _ _ ((number_decides c.procedure d.procedure).1 (ap (λ z. z.procedure) e))
        (both_true _ _ ((pointwise_decides item_decides c.items d.items).1 (ap (λ z. z.items) e))
        (both_true _ _ ((pointwise_decides val_decides c.state d.state).1 (ap (λ z. z.state) e))
        (both_true _ _ ((pointwise_decides lists_decide c.frames d.frames).1 (ap (λ z. z.frames) e))
        (both_true _ _ (subst (λ v. same_value c.reward v ≡ true) (ap (λ z. z.reward) e) (value_itself c.reward))
        (both_true _ _ ((pointwise_decides number_decides c.turns d.turns).1 (ap (λ z. z.turns) e))
        ((number_decides c.made d.made).1 (ap (λ z. z.made) e)))))))

-- ---- The derived tests

derived_number : (m n : ℕ) → compare_is_eq (compare m n) ≡ (m == n)
derived_number m n = same_from_decides (compare_is_eq (compare m n)) (m == n) (is, same) (number_decides m n)
  where
    is : compare_is_eq (compare m n) ≡ true → m ≡ n
    is e = search (rules, arith)

    same : m ≡ n → compare_is_eq (compare m n) ≡ true
    same e = search (rules, arith)

derived_frames : (xs ys : List F.Frame) → pointwise (λ x y. frame.ghosts.eq x y) xs ys ≡ pointwise same_lists (map lists_of xs) (map lists_of ys)
derived_frames [] [] = refl
derived_frames [] (y ∷ ys) = refl
derived_frames (x ∷ xs) [] = refl
derived_frames (x ∷ xs) (y ∷ ys) = ap (λ b. same_lists (lists_of x) (lists_of y) && b) (derived_frames xs ys)

derived_reward : (v w : Ext) → ext.ghosts.eq v w ≡ same_value (value_of v) (value_of w)
derived_reward (Ext.Fin x) (Ext.Fin y) = refl
derived_reward (Ext.Fin x) Ext.Inf = refl
derived_reward Ext.Inf (Ext.Fin y) = refl
derived_reward Ext.Inf Ext.Inf = refl

pub compares_stored : (a b : C.Config) → config.ghosts.eq a b ≡ same_stored (stored a) (stored b)
compares_stored a b =
    λ i. derived_number a.proc b.proc i && (pointwise item.ghosts.eq a.items.items b.items.items && (pointwise val.ghosts.eq a.state.items b.state.items && (derived_frames a.frames.items b.frames.items i && (derived_reward a.reward b.reward i && (pointwise (λ m n. derived_number m n i) a.turns.items b.turns.items && derived_number a.made b.made i)))))
