-- Rows made of terms with growing variables.
use Rattle.std.proofs.Common.{◌≡◌, ℕ, ◌+◌, ◌<◌, ◌≤◌, ◌^◌, List, [], ◌∷◌, ◌++◌, sym, ap, ◌∙◌, arith, subst, length, take, true}
use Rattle.std.specs.Prelude.{ℤ, pos, unsigned_abs}
use Rattle.std.specs.List.{All}
use Rattle.std.proofs.lemmas.List.Elements.{All-nil, All-cons, All-head, All-tail, All-append, All-weaker}
use Rattle.std.proofs.lemmas.List.{take_all}
use Rattle.heylo_formula.specs.declared.types.Ty.{Ty}
use Rattle.linear_rows.specs.Terms.{IsNormal}
use Rattle.linear_rows.specs.Row.{Row}
use Rattle.linear_rows.specs.VariableTypes.{is_numeric, IsNumericRow}
use Rattle.heylo_formula.specs.Typing.{types_in}

pub record IsPart (least : ℕ) (ts : List (ℕ × ℤ)) : Type 0 where
  pub normal : IsNormal ts
  pub narrow : All (λ t. unsigned_abs t.1 < 2 ^ 62) ts
  pub below : All (λ t. t.0 < least) ts

pub part_start : (ts : List (ℕ × ℤ)) → ts ≡ [] → IsPart 0 ts
part_start ts e = subst (IsPart 0) (sym e) (record { normal = tt; narrow = All-nil _; below = All-nil _ })

normal_last : (v : ℕ) (c : ℤ) (ts : List (ℕ × ℤ)) → (c ≡ pos 0 → ⊥) → IsNormal ts → All (λ t. t.0 < v) ts → IsNormal (ts ++ (v, c) ∷ [])
normal_last v c [] n h b = (n, (All-nil _, tt))
normal_last v c (t ∷ ts) n h b = (h.0, (All-append (λ (u : ℕ × ℤ). t.0 < u.0) ts ((v, c) ∷ []) h.1.0 (All-cons (λ (u : ℕ × ℤ). t.0 < u.0) (v, c) [] (All-head (λ t. t.0 < v) t ts b) (All-nil _)), normal_last v c ts n h.1.1 (All-tail (λ t. t.0 < v) t ts b)))

pub part_more : (least next v : ℕ) (c : ℤ) (ts now : List (ℕ × ℤ)) → IsPart least ts → least ≤ v → (unsigned_abs c ≡ 0 → ⊥) → unsigned_abs c < 2 ^ 62 → next ≡ v + 1 → now ≡ ts ++ (v, c) ∷ [] → IsPart next now
part_more least next v c ts now p l n b e h = subst (IsPart next) (sym h) (record {
  normal = normal_last v c ts (λ k. n (ap unsigned_abs k)) p.normal (All-weaker (λ t. t.0 < least) (λ t. t.0 < v) (λ t k. omega (arith, k, l)) ts p.below);
  narrow = All-append (λ (t : ℕ × ℤ). unsigned_abs t.1 < 2 ^ 62) ts ((v, c) ∷ []) p.narrow (All-cons (λ (t : ℕ × ℤ). unsigned_abs t.1 < 2 ^ 62) (v, c) [] b (All-nil _));
  below = All-append (λ (t : ℕ × ℤ). t.0 < next) ts ((v, c) ∷ []) (All-weaker (λ t. t.0 < least) (λ t. t.0 < next) (λ t k. omega (arith, k, l, e)) ts p.below) (All-cons (λ (t : ℕ × ℤ). t.0 < next) (v, c) [] (omega (arith, e)) (All-nil _));
})

pub over_all : (vars : List Ty) (r : Row) (ts : List (ℕ × ℤ)) (i : ℕ) → ts ≡ r.terms → length ts ≤ i → All (λ t. is_numeric (types_in vars t.0) ≡ true) (take i ts) → IsNumericRow vars r
over_all vars r ts i e l h = record { numeric = subst (All (λ t. is_numeric (types_in vars t.0) ≡ true)) (take_all i ts l ∙ e) h }
