-- Adding a run to a list is adding an entry to the map, or the weight to an entry.
use Rattle.std.proofs.Common.{◌≡◌, ◌<◌, ◌≤◌, ℕ, arith, cond, if◌then◌else◌, nat_lt, List, [], ◌∷◌, Bool, true, false, Option, Some, None, length, refl, sym, ap, ◌∙◌}
use Rattle.std.specs.Prelude.{is_some}
use Prim.Native.Nat.{suc}
use Rattle.std.specs.Map.{lookup}
use Rattle.std.proofs.lemmas.Bool.Decides.{nat_tests}
use Rattle.indexmap.specs.IndexMap.{insert_entry}
use Rattle.heyvl_num.specs.Exact.{exact_sum}
use Rattle.heyvl_num.specs.Rational.{Rational, ◌+ʳ◌}
use Rattle.run_machine.specs.declared.configurations.Config as C
use Rattle.run_machine.specs.Names.{stored}
use Rattle.run_machine.specs.SameConfigurations.{same_stored}
use Rattle.run_machine.specs.contracts.configurations.ConfigPartialEq.TheImpl as config
use Rattle.run_machine.proofs.exported.SameConfigs.{compares_stored}
use Rattle.run_unroller.specs.declared.causes.Cause.TheVariants.{Bits, Full}
use Rattle.run_unroller.specs.Causes.{put_cause}
use Rattle.run_unroller.specs.MergedLists.{held, put}
use Rattle.run_unroller.specs.internal.RunViews.{run_of, runs_of}

abbrev Entries : Type 0
Entries = List (C.Config × Rational)

abbrev equal : C.Config → C.Config → Bool
equal a b = config.ghosts.eq a b

some_is : {X : Type 0} (x y : X) → Some x ≡ Some y → x ≡ y
some_is x y e = cc

pub held_is : (k : C.Config) (es : Entries) → held same_stored (stored k) (runs_of es) ≡ lookup (equal k) es
held_is k [] = refl
held_is k (e ∷ es) = ap (λ b. if b then Some e.1 else held same_stored (stored k) (runs_of es)) (sym (compares_stored k e.0)) ∙ ap (λ o. if equal k e.0 then Some e.1 else o) (held_is k es)

put_entry : (k : C.Config) (w n : Rational) (e : C.Config × Rational) (es : Entries) (b : Bool) → same_stored (stored k) (stored e.0) ≡ b → (b ≡ true → e.1 +ʳ w ≡ n) → (b ≡ false → put same_stored (w, stored k) (runs_of es) ≡ runs_of (insert_entry equal es k n)) → put same_stored (w, stored k) (runs_of (e ∷ es)) ≡ runs_of (insert_entry equal (e ∷ es) k n)
put_entry k w n e es b h sum later =
    ap (λ t. if t then (e.1 +ʳ w, stored e.0) ∷ runs_of es else run_of e ∷ put same_stored (w, stored k) (runs_of es)) h
    ∙ go b refl
    ∙ sym (ap (λ t. runs_of (if t then (e.0, n) ∷ es else e ∷ insert_entry equal es k n)) (compares_stored k e.0 ∙ h))
  where
    go : (t : Bool) → b ≡ t → (if t then (e.1 +ʳ w, stored e.0) ∷ runs_of es else run_of e ∷ put same_stored (w, stored k) (runs_of es)) ≡ runs_of (if t then (e.0, n) ∷ es else e ∷ insert_entry equal es k n)
    go true q = ap (λ v. (v, stored e.0) ∷ runs_of es) (sum q)
    go false q = ap (λ l. run_of e ∷ l) (later q)

pub put_found : (k : C.Config) (w v n : Rational) (es : Entries) → lookup (equal k) es ≡ Some v → v +ʳ w ≡ n → put same_stored (w, stored k) (runs_of es) ≡ runs_of (insert_entry equal es k n)
put_found k w v n [] h s = absurd (cc)
put_found k w v n (e ∷ es) h s = put_entry k w n e es (same_stored (stored k) (stored e.0)) refl (λ t. ap (λ u. u +ʳ w) (here t) ∙ s) (λ f. put_found k w v n es (there f) s)
  where
    here : same_stored (stored k) (stored e.0) ≡ true → e.1 ≡ v
    here t = some_is e.1 v (sym (ap (λ b. cond b (Some e.1) (lookup (equal k) es)) (compares_stored k e.0 ∙ t)) ∙ h)

    there : same_stored (stored k) (stored e.0) ≡ false → lookup (equal k) es ≡ Some v
    there f = sym (ap (λ b. cond b (Some e.1) (lookup (equal k) es)) (compares_stored k e.0 ∙ f)) ∙ h

pub put_new : (k : C.Config) (w n : Rational) (es : Entries) → lookup (equal k) es ≡ None → w ≡ n → put same_stored (w, stored k) (runs_of es) ≡ runs_of (insert_entry equal es k n)
put_new k w n [] h s = ap (λ v. (v, stored k) ∷ []) s
put_new k w n (e ∷ es) h s = put_entry k w n e es (same_stored (stored k) (stored e.0)) refl (λ t. absurd (here t)) (λ f. put_new k w n es (there f) s)
  where
    here : same_stored (stored k) (stored e.0) ≡ true → ⊥
    here t = let z : Some e.1 ≡ None = sym (ap (λ b. cond b (Some e.1) (lookup (equal k) es)) (compares_stored k e.0 ∙ t)) ∙ h in cc

    there : same_stored (stored k) (stored e.0) ≡ false → lookup (equal k) es ≡ None
    there f = sym (ap (λ b. cond b (Some e.1) (lookup (equal k) es)) (compares_stored k e.0 ∙ f)) ∙ h

-- ---- Causes that stop a run

pub length_runs : (es : Entries) → length (runs_of es) ≡ length es
length_runs [] = refl
length_runs (e ∷ es) = ap suc (length_runs es)

pub cause_found : (n : ℕ) (k : C.Config) (w v : Rational) (es : Entries) (o : Option Rational) → lookup (equal k) es ≡ Some v → o ≡ exact_sum v w → put_cause n w (held same_stored (stored k) (runs_of es)) ≡ (if is_some o then None else Some Bits)
cause_found n k w v es o h e = ap (put_cause n w) (held_is k es ∙ h) ∙ ap (λ p. if is_some p then None else Some Bits) (sym e)

pub cause_new : (k : C.Config) (w : Rational) (es : Entries) (b : Bool) → lookup (equal k) es ≡ None → nat_lt (length es) 65536 ≡ b → put_cause (length (runs_of es)) w (held same_stored (stored k) (runs_of es)) ≡ (if b then None else Some Full)
cause_new k w es b h e = ap (put_cause (length (runs_of es)) w) (held_is k es ∙ h) ∙ ap (λ p. if p then None else Some Full) (ap (λ m. nat_lt m 65536) (length_runs es) ∙ e)

pub room : (n : ℕ) (es : Entries) → n ≡ length es → n < 65536 → nat_lt (length es) 65536 ≡ true
room n es e h = grind (arith, nat_tests)

pub no_room : (n : ℕ) (es : Entries) → n ≡ length es → 65536 ≤ n → nat_lt (length es) 65536 ≡ false
no_room n es e h = grind (arith, nat_tests)
