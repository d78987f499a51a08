-- The last element of a list that passes a test.
use Rattle.heyvl_syntax.specs.Statements.{arms, block, guarded, statement}
use Rattle.heyvl_syntax.specs.declared.statements.Arm.{Arm}
use Rattle.heyvl_syntax.specs.declared.statements.Stmt.{Stmt}
use Rattle.static_rules.specs.StatementRules.{arms_bind, binds, block_binds}
use Rattle.std.proofs.Common.{Bool, List, [], ap, append_assoc, append-nil, drop, false, length, refl, arith, sym, true, ◌++◌, ◌+◌, ◌∙◌, ◌||◌, ◌≡◌, ◌∷◌, ℕ}
use Rattle.std.proofs.lemmas.Bool.{le-ltb, lt-ltb, ltb-false, ltb-true}
use Rattle.std.specs.List.{list_any}
use Rattle.std.specs.Prelude.{nat_lt}
use Prim.Native.Nat.{zero, suc}

abbrev pub binds_one : Stmt → Bool
binds_one s = binds (statement s)

abbrev pub binds_arm : Arm → Bool
binds_arm a = block_binds (guarded a).1

pub block_any : (xs : List Stmt) → block_binds (block xs) ≡ list_any binds_one xs
block_any [] = refl
block_any (x ∷ xs) = ap (λ r. binds_one x || r) (block_any xs)

pub arms_any : (xs : List Arm) → arms_bind (arms xs) ≡ list_any binds_arm xs
arms_any [] = refl
arms_any (x ∷ xs) = ap (λ r. binds_arm x || r) (arms_any xs)

-- `rest` is the beginning of the list, and no element after it passes the test.
pub record FreeBehind {X : Type 0} (p : X → Bool) (all rest : List X) : Type 0 where
  pub behind : List X
  pub whole : all ≡ rest ++ behind
  pub free : list_any p behind ≡ false

pub free_start : {X : Type 0} (p : X → Bool) (all : List X) → FreeBehind p all all
free_start p all = record { behind = []; whole = sym (append-nil all); free = refl }

or_false : (a b : Bool) → a ≡ false → b ≡ false → (a || b) ≡ false
or_false a b h k = ap (λ r. r || b) h ∙ k

pub free_step : {X : Type 0} (p : X → Bool) (all rest front : List X) (last : X) → FreeBehind p all rest → rest ≡ front ++ last ∷ [] → p last ≡ false → FreeBehind p all front
free_step p all rest front last f e h = record {
  behind = last ∷ f.behind;
  whole = f.whole ∙ (ap (λ r. r ++ f.behind) e ∙ append_assoc front (last ∷ []) f.behind);
  free = or_false (p last) (list_any p f.behind) h f.free;
}

second_false : (a b : Bool) → (a || b) ≡ false → b ≡ false
second_false true b h = absurd (cc)
second_false false b h = h

none_further : {X : Type 0} (p : X → Bool) (xs : List X) (i : ℕ) → list_any p xs ≡ false → list_any p (drop i xs) ≡ false
none_further p xs zero h = h
none_further p [] (suc i) h = refl
none_further p (x ∷ xs) (suc i) h = none_further p xs i (second_false (p x) (list_any p xs) h)

or_true : (a b : Bool) → b ≡ true → (a || b) ≡ true
or_true true b h = refl
or_true false b h = h

same_truth : (a b : Bool) → (a ≡ true → b ≡ true) → (a ≡ false → b ≡ false) → a ≡ b
same_truth true b f g = sym (f refl)
same_truth false b f g = sym (g refl)

less_more : (i n : ℕ) → nat_lt i n ≡ nat_lt (suc i) (suc n)
less_more i n = same_truth (nat_lt i n) (nat_lt (suc i) (suc n)) (λ e. lt-ltb (suc i) (suc n) (omega (arith, ltb-true i n e))) (λ e. le-ltb (suc i) (suc n) (omega (arith, ltb-false i n e)))

upto : {X : Type 0} (p : X → Bool) (front : List X) (last : X) (behind : List X) (i : ℕ) → p last ≡ true → list_any p behind ≡ false → list_any p (drop i (front ++ last ∷ behind)) ≡ nat_lt i (suc (length front))
upto p [] last behind zero h k = ap (λ r. r || list_any p behind) h
upto p [] last behind (suc i) h k = none_further p behind i k ∙ sym (le-ltb (suc i) 1 (omega arith))
upto p (x ∷ front) last behind zero h k = or_true (p x) _ (upto p front last behind zero h k ∙ lt-ltb zero (suc (length front)) (omega arith)) ∙ sym (lt-ltb zero (suc (suc (length front))) (omega arith))
upto p (x ∷ front) last behind (suc i) h k = upto p front last behind i h k ∙ less_more i (suc (length front))

pub last_passes : {X : Type 0} (p : X → Bool) (all rest front : List X) (last : X) (i : ℕ) → FreeBehind p all rest → (rest ≡ front ++ last ∷ []) × (length front + 1 ≡ length rest) → p last ≡ true → list_any p (drop i all) ≡ nat_lt i (length rest)
last_passes p all rest front last i f e h =
    let n : suc (length front) ≡ length rest = let k = e.1 in omega (arith, k) in
    ap (λ r. list_any p (drop i r)) (f.whole ∙ (ap (λ r. r ++ f.behind) e.0 ∙ append_assoc front (last ∷ []) f.behind)) ∙ (upto p front last f.behind i h f.free ∙ ap (λ m. nat_lt i m) n)

pub none_passes : {X : Type 0} (p : X → Bool) (all rest : List X) (i : ℕ) → FreeBehind p all rest → length rest ≡ 0 → list_any p (drop i all) ≡ nat_lt i 0
none_passes p all [] i f e = ap (λ r. list_any p (drop i r)) f.whole ∙ (none_further p f.behind i f.free ∙ sym (le-ltb i 0 (omega arith)))
none_passes p all (x ∷ rest) i f e = absurd (omega arith)
