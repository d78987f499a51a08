-- A search from 1,048,576 on finds the fresh number.
use Rattle.std.proofs.Common.{◌≡◌, ◌⊎◌, inl, inr, ℕ, ◌+◌, ◌≤◌, ◌<◌, ◌^◌, sym, ap, ◌∙◌, arith, Bool, true, false, cond, ◌||◌, List}
use Prim.Native.Nat.{zero, suc}
use Rattle.std.proofs.Math.Nat.{eq-or-lt_of_le}
use Rattle.heylo_formula.specs.Formula.{Form, Term}
use Rattle.heylo_formula.specs.Variables.{occurs, occurs_in_term}
use Rattle.heylo_formula.specs.Sizes.{nodes, nodes_in_term}
use Rattle.heylo_formula.specs.Substitution.{least_unused, fresh}
use Rattle.heylo_formula.proofs.exported.Substitutions.{fresh_is}
use Rattle.heylo_graph.specs.Trees.{Tree, occurs_tree}
use Rattle.std.specs.Prelude.{IfOk, Result, Ok, Err}
use Rattle.heylo_graph.specs.declared.nodes.Node.{Node}
use Rattle.heylo_graph.specs.Nodes.{Stands}

reach : (k n : ℕ) (a : Form) (t : Term) → least_unused k n a t ≤ n + k
unfolding least_unused
reach zero n a t = omega arith
reach (suc k) n a t = go (occurs n a || occurs_in_term n t) (reach k (n + 1) a t)
  where
    go : (b : Bool) → least_unused k (n + 1) a t ≤ (n + 1) + k → cond b (least_unused k (n + 1) a t) n ≤ n + suc k
    go true h = omega (arith, h)
    go false h = omega arith

pub fresh_below : (a : Form) (t : Term) → nodes a + nodes_in_term t < 2 ^ 31 → fresh a t < 2 ^ 31 + 1048576
unfolding fresh
fresh_below a t h = let r = reach (nodes a + nodes_in_term t) 1048576 a t in omega (arith, r, h)

clash : {A : Type 0} (b : Bool) → b ≡ true → b ≡ false → A
clash true h k = absurd (cc)
clash false h k = absurd (cc)

step : (a : Form) (t : Term) (n : ℕ) → n ≤ fresh a t → (occurs n a || occurs_in_term n t) ≡ true → n + 1 ≤ fresh a t
step a t n h e = go (eq-or-lt_of_le h)
  where
    go : (n ≡ fresh a t) ⊎ (n < fresh a t) → n + 1 ≤ fresh a t
    go (inl q) = clash (occurs n a || occurs_in_term n t) e (ap (λ z. occurs z a || occurs_in_term z t) q ∙ (fresh_is a t).unused)
    go (inr l) = omega (arith, l)

over : (a : Form) (t : Term) (n : ℕ) → 1048576 ≤ n → n ≤ fresh a t → (occurs n a || occurs_in_term n t) ≡ false → n ≡ fresh a t
over a t n f h e = go (eq-or-lt_of_le h)
  where
    go : (n ≡ fresh a t) ⊎ (n < fresh a t) → n ≡ fresh a t
    go (inl q) = q
    go (inr l) = clash (occurs n a || occurs_in_term n t) ((fresh_is a t).least n f l) e

-- A search that has reached `n`.
pub record IsSearching (ns : List Node) (body : ℕ) (t : Term) (n : ℕ) : Type 0 where
  pub from : 1048576 ≤ n
  pub below : (f : Form) → Stands ns body (Tree.formula f) → n ≤ fresh f t

pub search_begun : (ns : List Node) (body : ℕ) (t : Term) → IsSearching ns body t 1048576
search_begun ns body t = record { from = omega arith; below = λ f s. (fresh_is f t).from }

pub search_step : (ns : List Node) (body : ℕ) (t : Term) (n : ℕ) (b : Bool) → IsSearching ns body t n → ((f : Form) → Stands ns body (Tree.formula f) → b ≡ (occurs n f || occurs_in_term n t)) → b ≡ true → IsSearching ns body t (n + 1)
search_step ns body t n b h e c = record { from = let k = h.from in omega (arith, k); below = λ f s. step f t n (h.below f s) (sym (e f s) ∙ c) }

pub search_over : (ns : List Node) (body : ℕ) (t : Term) (n : ℕ) (b : Bool) → IsSearching ns body t n → ((f : Form) → Stands ns body (Tree.formula f) → b ≡ (occurs n f || occurs_in_term n t)) → b ≡ false → (f : Form) → Stands ns body (Tree.formula f) → n ≡ fresh f t
search_over ns body t n b h e c f s = over f t n h.from (h.below f s) (sym (e f s) ∙ c)

-- The next number has at most 32 bits.
pub search_fits : (ns : List Node) (body : ℕ) (t : Term) (n : ℕ) (f : Form) → IsSearching ns body t n → Stands ns body (Tree.formula f) → nodes f + nodes_in_term t < 2 ^ 31 → n + 1 < 2 ^ 32
search_fits ns body t n f h s k = let l = h.below f s in let m = fresh_below f t k in omega (arith, l, m)

-- An answer on the tree of a node is an answer on its form.
pub told_of_formula : {E : Type 0} (ns : List Node) (i x : ℕ) (r : Result Bool E) → IfOk r (λ b. (t : Tree) → Stands ns i t → b ≡ occurs_tree x t) → IfOk r (λ b. (f : Form) → Stands ns i (Tree.formula f) → b ≡ occurs x f)
told_of_formula ns i x (Ok b) h = λ f s. h (Tree.formula f) s
told_of_formula ns i x (Err e) h = tt
