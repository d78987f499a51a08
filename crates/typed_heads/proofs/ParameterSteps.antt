-- Parameters that are read one after the other.
use Rattle.heyvl_acts.specs.Acts.{Variable}
use Rattle.heyvl_syntax.specs.declared.procedures.Param.{Param}
use Rattle.static_rules.specs.Files.{parameters_findings}
use Rattle.static_rules.specs.Variables.{behind_parameters, parameters}
use Rattle.std.proofs.Common.{Err, List, [], ap, append_assoc, arith, drop, get_or, length, map, refl, sym, ◌+◌, ◌++◌, ◌<◌, ◌^◌, ◌∙◌, ◌≡◌, ◌≤◌, ◌∷◌, ℕ}
use Rattle.std.proofs.lemmas.List.{at_drop_more, drop_all, length-drop}
use Rattle.std.specs.Option.{is_none}
use Rattle.std.specs.Prelude.{suc}
use Rattle.typed_expressions.proofs.exported.Parts.{behind, stops, stops_at}
use Rattle.typed_expressions.specs.Answers.{Gives}
use Rattle.typed_expressions.specs.DeclaredVariables.{declared}
use Rattle.typed_expressions.specs.Findings.{Finding, at}
use Rattle.typed_expressions.specs.Scopes.{Scope, is_visible, with_local}
use Rattle.typed_expressions.specs.Table.{declarable}
use Rattle.typed_expressions.specs.declared.scopes.Local.{Local}
use Rattle.typed_expressions.specs.declared.stops.ResolveStop.{ResolveStop}

abbrev pub rules : Scope → Param → List Finding
rules sc p = at p.span ((11, is_visible sc p.name) ∷ (12, is_none (declarable p.ty)) ∷ [])

abbrev pub shown : ℕ → Param → Scope → Scope
shown n p sc = with_local p.name (record { number = n; ty = p.ty }) sc

-- The parameters before `k` have been read, and the next one has the number `n`.
pub record Reads (all : List Param) (first : ℕ) (outer : Scope) (before : List Variable) (k n : ℕ) (sc : Scope) (vars : List Variable) : Type 0 where
  pub found : parameters_findings first outer all ≡ parameters_findings n sc (drop k all)
  pub seen : behind_parameters first outer all ≡ behind_parameters n sc (drop k all)
  pub listed : before ++ parameters all ≡ vars ++ parameters (drop k all)
  pub numbered : first + length all ≡ n + length (drop k all)

pub starts : (all : List Param) (first : ℕ) (outer : Scope) (before : List Variable) → Reads all first outer before 0 first outer before
starts all first outer before = record { found = refl; seen = refl; listed = refl; numbered = refl }

next_found : (all : List Param) (k n : ℕ) (sc : Scope) (p : Param) → k < length all → p ≡ get_or all k p → parameters_findings n sc (drop k all) ≡ rules sc p ++ parameters_findings (suc n) (shown n p sc) (drop (k + 1) all)
next_found all k n sc p lt is = at_drop_more (parameters_findings n sc) all k p lt ∙ ap (λ q. rules sc q ++ parameters_findings (suc n) (shown n q sc) (drop (k + 1) all)) (sym is)

pub goes_on : (all : List Param) (first : ℕ) (outer : Scope) (before : List Variable) (k n m : ℕ) (sc next : Scope) (vars more : List Variable) (p : Param)
    → Reads all first outer before k n sc vars → k < length all → p ≡ get_or all k p → rules sc p ≡ [] → m ≡ suc n → next ≡ shown n p sc → more ≡ vars ++ declared p.name p.ty ∷ [] → Reads all first outer before (k + 1) m next more
goes_on all first outer before k n m sc next vars more p r lt is none number scope list = record {
  found = r.found ∙ next_found all k n sc p lt is ∙ behind (rules sc p) _ none ∙ ap (λ i. parameters_findings i (shown n p sc) (drop (k + 1) all)) (sym number) ∙ ap (λ s. parameters_findings m s (drop (k + 1) all)) (sym scope);
  seen = r.seen ∙ at_drop_more (behind_parameters n sc) all k p lt ∙ ap (λ q. behind_parameters (suc n) (shown n q sc) (drop (k + 1) all)) (sym is) ∙ ap (λ i. behind_parameters i (shown n p sc) (drop (k + 1) all)) (sym number) ∙ ap (λ s. behind_parameters m s (drop (k + 1) all)) (sym scope);
  listed = r.listed ∙ ap (λ l. vars ++ l) (at_drop_more parameters all k p lt ∙ ap (λ q. declared q.name q.ty ∷ parameters (drop (k + 1) all)) (sym is)) ∙ sym (append_assoc vars (declared p.name p.ty ∷ []) (parameters (drop (k + 1) all))) ∙ ap (λ l. l ++ parameters (drop (k + 1) all)) (sym list);
  numbered = let d = at_drop_more length all k p lt in let e = r.numbered in omega (arith, d, e, number);
}

-- The number after a remaining parameter is in range if the one after all is.
pub in_range : (all : List Param) (first : ℕ) (outer : Scope) (before : List Variable) (k n : ℕ) (sc : Scope) (vars : List Variable) → Reads all first outer before k n sc vars → k < length all → first + length all < 2 ^ 32 → n + 1 < 2 ^ 32
in_range all first outer before k n sc vars r lt few = let d = length-drop k all in let e = r.numbered in omega (arith, d, e, lt, few)

pub fails : {A C : Type 0} (v : A → C) (c d : C) (all : List Param) (first : ℕ) (outer : Scope) (before : List Variable) (k n : ℕ) (sc : Scope) (vars : List Variable) (p : Param) (e : ResolveStop)
    → Reads all first outer before k n sc vars → k < length all → p ≡ get_or all k p → Gives v (Err e) (rules sc p) c → Gives v (Err e) (parameters_findings first outer all) d
fails v c d all first outer before k n sc vars p e r lt is h =
    stops_at v v e (rules sc p ++ parameters_findings (suc n) (shown n p sc) (drop (k + 1) all)) (parameters_findings first outer all) d d (r.found ∙ next_found all k n sc p lt is) (stops v v e (rules sc p) _ c d h)

pub record All (all : List Param) (first : ℕ) (outer : Scope) (before : List Variable) (n : ℕ) (sc : Scope) (vars : List Variable) : Type 0 where
  pub none : parameters_findings first outer all ≡ []
  pub seen : sc ≡ behind_parameters first outer all
  pub listed : vars ≡ before ++ parameters all
  pub numbered : n ≡ first + length all

empty_behind : {A : Type 0} (xs : List A) → xs ++ [] ≡ xs
empty_behind [] = refl
empty_behind (x ∷ xs) = ap (λ ys. x ∷ ys) (empty_behind xs)

pub ends : (all : List Param) (first : ℕ) (outer : Scope) (before : List Variable) (k n : ℕ) (sc : Scope) (vars : List Variable) → Reads all first outer before k n sc vars → length all ≤ k → All all first outer before n sc vars
ends all first outer before k n sc vars r over =
    let d = drop_all k all over in
    record {
      none = r.found ∙ ap (parameters_findings n sc) d;
      seen = sym (r.seen ∙ ap (behind_parameters n sc) d);
      listed = sym (r.listed ∙ ap (λ l. vars ++ parameters l) d ∙ empty_behind vars);
      numbered = let l = ap length d in let e = r.numbered in omega (arith, l, e);
    }
