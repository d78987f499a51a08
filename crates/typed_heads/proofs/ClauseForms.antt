-- Clauses that are read one after the other, each with its findings and its formula.
use Rattle.heylo_formula.specs.Formula.{Form}
use Rattle.heyvl_syntax.specs.declared.expressions.Expr.{Expr}
use Rattle.std.proofs.Common.{Err, List, [], ap, append_assoc, drop, get_or, length, refl, sym, ◌+◌, ◌++◌, ◌<◌, ◌∙◌, ◌≡◌, ◌≤◌, ◌∷◌, ℕ}
use Rattle.std.proofs.lemmas.List.{at_drop_more, drop_all}
use Rattle.typed_expressions.proofs.exported.Parts.{behind, stops, stops_at}
use Rattle.typed_expressions.specs.Answers.{Gives}
use Rattle.typed_expressions.specs.Findings.{Finding}
use Rattle.typed_expressions.specs.declared.stops.ResolveStop.{ResolveStop}

-- The findings and the formula of each clause. Each clause has a number, and gives that of the next
-- one.
pub record Clauses : Type 0 where
  pub found : ℕ → Expr → List Finding
  pub made : ℕ → Expr → Form
  pub after : ℕ → Expr → ℕ
  pub all_found : ℕ → List Expr → List Finding
  pub all_made : ℕ → List Expr → List Form
  pub found_none : (n : ℕ) → all_found n [] ≡ []
  pub found_more : (n : ℕ) (e : Expr) (es : List Expr) → all_found n (e ∷ es) ≡ found n e ++ all_found (after n e) es
  pub made_none : (n : ℕ) → all_made n [] ≡ []
  pub made_more : (n : ℕ) (e : Expr) (es : List Expr) → all_made n (e ∷ es) ≡ made n e ∷ all_made (after n e) es

-- The clauses before `k` have been read, and the next one has the number `n`.
pub record Reads (c : Clauses) (all : List Expr) (first k n : ℕ) (forms : List Form) : Type 0 where
  pub found : c.all_found first all ≡ c.all_found n (drop k all)
  pub made : c.all_made first all ≡ forms ++ c.all_made n (drop k all)

pub starts : (c : Clauses) (all : List Expr) (first : ℕ) → Reads c all first 0 first []
starts c all first = record { found = refl; made = refl }

next_found : (c : Clauses) (all : List Expr) (k n : ℕ) (e : Expr) → k < length all → e ≡ get_or all k e → c.all_found n (drop k all) ≡ c.found n e ++ c.all_found (c.after n e) (drop (k + 1) all)
next_found c all k n e lt is = at_drop_more (c.all_found n) all k e lt ∙ ap (λ x. c.all_found n (x ∷ drop (k + 1) all)) (sym is) ∙ c.found_more n e (drop (k + 1) all)

next_made : (c : Clauses) (all : List Expr) (k n : ℕ) (e : Expr) → k < length all → e ≡ get_or all k e → c.all_made n (drop k all) ≡ c.made n e ∷ c.all_made (c.after n e) (drop (k + 1) all)
next_made c all k n e lt is = at_drop_more (c.all_made n) all k e lt ∙ ap (λ x. c.all_made n (x ∷ drop (k + 1) all)) (sym is) ∙ c.made_more n e (drop (k + 1) all)

pub goes_on : (c : Clauses) (all : List Expr) (first k n m : ℕ) (forms more : List Form) (e : Expr) → Reads c all first k n forms → k < length all → e ≡ get_or all k e → c.found n e ≡ [] → m ≡ c.after n e → more ≡ forms ++ c.made n e ∷ [] → Reads c all first (k + 1) m more
goes_on c all first k n m forms more e r lt is none number list = record {
  found = r.found ∙ next_found c all k n e lt is ∙ behind (c.found n e) _ none ∙ ap (λ i. c.all_found i (drop (k + 1) all)) (sym number);
  made = r.made ∙ ap (λ l. forms ++ l) (next_made c all k n e lt is ∙ ap (λ i. c.made n e ∷ c.all_made i (drop (k + 1) all)) (sym number)) ∙ sym (append_assoc forms (c.made n e ∷ []) (c.all_made m (drop (k + 1) all))) ∙ ap (λ l. l ++ c.all_made m (drop (k + 1) all)) (sym list);
}

pub fails : {A B C D : Type 0} (v : A → B) (w : C → D) (b : B) (d : D) (c : Clauses) (all : List Expr) (first k n : ℕ) (forms : List Form) (e : Expr) (s : ResolveStop) → Reads c all first k n forms → k < length all → e ≡ get_or all k e → Gives v (Err s) (c.found n e) b → Gives w (Err s) (c.all_found first all) d
fails v w b d c all first k n forms e s r lt is h = stops_at w w s (c.found n e ++ c.all_found (c.after n e) (drop (k + 1) all)) (c.all_found first all) d d (r.found ∙ next_found c all k n e lt is) (stops v w s (c.found n e) _ b d h)

nothing_behind : (xs : List Form) → xs ++ [] ≡ xs
nothing_behind [] = refl
nothing_behind (x ∷ xs) = ap (λ ys. x ∷ ys) (nothing_behind xs)

pub ends : (c : Clauses) (all : List Expr) (first k n : ℕ) (forms : List Form) → Reads c all first k n forms → length all ≤ k → (c.all_found first all ≡ []) × (forms ≡ c.all_made first all)
ends c all first k n forms r over = (
  r.found ∙ ap (c.all_found n) (drop_all k all over) ∙ c.found_none n,
  sym (r.made ∙ ap (λ l. forms ++ c.all_made n l) (drop_all k all over) ∙ ap (λ l. forms ++ l) (c.made_none n) ∙ nothing_behind forms),
)
