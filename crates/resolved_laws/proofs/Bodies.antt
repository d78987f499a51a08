-- The body of a typed procedure without findings: directions, binders, scopes, loops and their
-- numbers.
use Rattle.heylo_formula.specs.Binders.{has_binder}
use Rattle.heyvl_acts.specs.Acts.{Act, TypedProcedure, acts_in, variables}
use Rattle.heyvl_acts.specs.Places.{in_order}
use Rattle.heyvl_acts.specs.Rules.{Each, FollowsDirection, GrowBelow, LoopsMeet, NothingBindsBehind, counted, loop_numbers}
use Rattle.heyvl_acts.specs.Visible.{Scoped, among, interface}
use Rattle.heyvl_syntax.specs.Procedures.{Procedure}
use Rattle.heyvl_syntax.specs.Statements.{Block}
use Rattle.resolved_laws.proofs.Bindings.{nothing_binds_behind}
use Rattle.resolved_laws.proofs.Calls.{AreCallees}
use Rattle.resolved_laws.proofs.Directions.{follows}
use Rattle.resolved_laws.proofs.Growth.{counted_grow, numbers_of_parameters}
use Rattle.resolved_laws.proofs.Heads.{IsClean, body_stands, head_agrees, head_stands, length_parameters}
use Rattle.resolved_laws.proofs.Locals.{Stands}
use Rattle.resolved_laws.proofs.Loops.{meets}
use Rattle.resolved_laws.proofs.Numbers.{counted_more, numbered_body}
use Rattle.resolved_laws.proofs.Posts.{plain_post}
use Rattle.resolved_laws.proofs.Scopes.{Mirrors, reads_body}
use Rattle.resolved_laws.proofs.Walk.{Known, Locally, each_block}
use Rattle.static_rules.specs.Files.{arity, body_acts, body_findings, first_quantified, has_quantified_post, head_scope, input_scope, resolved, setting, typed}
use Rattle.static_rules.specs.Variables.{locals_of_body, parameters}
use Rattle.std.proofs.Common.{Bool, List, None, Option, Some, [], ap, arith, false, inl, inr, refl, subst, suc, sym, true, zero, ◌++◌, ◌+◌, ◌<◌, ◌==◌, ◌∙◌, ◌≡◌, ◌≤◌, ◌⊎◌, ℕ}
use Rattle.std.proofs.lemmas.Bool.{cases_lt, le-leb, lt-leb}
use Rattle.std.proofs.lemmas.List.{length-append}
use Rattle.std.specs.Prelude.{leb, length, ◌||◌}
use Rattle.typed_expressions.specs.Scopes.{numbers}
use Rattle.typed_expressions.specs.Signatures.{called}

-- ---- Consecutive numbers

inside_row : (n k y : ℕ) → n ≤ y → y < n + k → among (counted n k) y ≡ true
inside_row n zero y p q = absurd (omega arith)
inside_row n (suc k) y p q = go (n == y) refl (λ l. inside_row (suc n) k y l (omega arith))
  where
    above : (n y : ℕ) → n ≤ y → (n == y) ≡ false → suc n ≤ y
    above n y p e = grind (arith, p, e)

    go : (b : Bool) → (n == y) ≡ b → (suc n ≤ y → among (counted (suc n) k) y ≡ true) → (b || among (counted (suc n) k) y) ≡ true
    go true e r = refl
    go false e r = r (above n y p e)

outside_row : (n k y : ℕ) → n + k ≤ y → among (counted n k) y ≡ false
outside_row n zero y p = refl
outside_row n (suc k) y p = rw (apart n y (omega arith)) (outside_row (suc n) k y (omega arith))
  where
    apart : (n y : ℕ) → n < y → (n == y) ≡ false
    apart n y l = grind (arith, l)

first_numbers : (k y : ℕ) → leb (suc y) k ≡ among (counted 0 k) y
first_numbers k y = go (cases_lt y k)
  where
    go : (y < k) ⊎ (k ≤ y) → leb (suc y) k ≡ among (counted 0 k) y
    go (inl l) = le-leb (suc y) k l ∙ sym (inside_row 0 k y (omega arith) (omega arith))
    go (inr l) = lt-leb (suc y) k (omega arith) ∙ sym (outside_row 0 k y (omega arith))

from_none : (k : ℕ) → 0 + k ≡ k
from_none k = omega arith

-- ---- Procedures

-- A procedure of a file without findings.
module _ (ps : List Procedure) (p : Procedure) (k : IsClean (called ps) p) where
  abbrev typed_one : TypedProcedure
  typed_one = typed (called ps) p

  head_numbers : numbers (head_scope p) ≡ counted 0 (arity p)
  head_numbers =
      numbers_of_parameters (length p.inputs) (input_scope p) p.outputs k.outputs
      ∙ (ap (λ r. r ++ counted (length p.inputs) (length p.outputs)) (numbers_of_parameters 0 [] p.inputs k.inputs)
      ∙ (ap (λ k. counted 0 (length p.inputs) ++ counted k (length p.outputs)) (sym (from_none (length p.inputs)))
      ∙ sym (counted_more 0 (length p.inputs) (length p.outputs))))

  head_grows : GrowBelow 0 (arity p) (numbers (head_scope p))
  head_grows = subst (GrowBelow 0 (arity p)) (sym head_numbers) (subst (λ k. GrowBelow 0 k (counted 0 (arity p))) (from_none (arity p)) (counted_grow 0 (arity p)))

  head_mirrors : Mirrors (interface typed_one) (head_scope p)
  head_mirrors y = ap (λ k. leb (suc y) k) arity_is ∙ (first_numbers (arity p) y ∙ ap (λ r. among r y) (sym head_numbers))
    where
      arity_is : length (parameters p.inputs ++ parameters p.outputs) ≡ arity p
      arity_is =
          let a = length-append (parameters p.inputs) (parameters p.outputs) in
          let d = length_parameters p.inputs in
          let e = length_parameters p.outputs in
          omega (arith, a, d, e)

  pub head_known : Known (variables typed_one) (setting p) (called ps) (arity p) (head_scope p)
  head_known = record { agrees = head_agrees (called ps) p k (variables typed_one) (head_stands (called ps) p); inputs = omega arith; grows = head_grows }

  -- A property of the acts of each statement alone is one of each act of the body.
  pub each_act : (P : Act → Type 0) → Locally (variables typed_one) (setting p) (called ps) P → Each P (in_order (acts_in typed_one.body))
  each_act P own = go p.body (body_stands (called ps) p) k.body
    where
      go : (b : Option Block) → Stands (variables typed_one) (arity p) (locals_of_body b) → body_findings (setting p) (called ps) (has_quantified_post p) (arity p) (head_scope p) b ≡ [] → Each P (in_order (acts_in (body_acts (setting p) (called ps) (arity p) (head_scope p) b)))
      go None l f = tt
      go (Some b) l f = each_block (variables typed_one) (setting p) (called ps) P own (has_quantified_post p) (arity p) 1 (head_scope p) b head_known l f

  pub directions_kept : AreCallees (called ps) (resolved ps) → Each (FollowsDirection (resolved ps) typed_one) (in_order (acts_in typed_one.body))
  directions_kept callees = each_act (FollowsDirection (resolved ps) typed_one) (follows (resolved ps) typed_one (setting p) (called ps) refl refl callees (variables typed_one))

  pub binders_kept : NothingBindsBehind typed_one.co (has_binder typed_one.post) (in_order (acts_in typed_one.body))
  binders_kept = nothing_binds_behind (setting p) (called ps) (has_binder typed_one.post) (has_quantified_post p) (arity p) (head_scope p) p.body k.body (λ q. plain_post p.co (first_quantified p) (head_scope p) p.posts q)

  pub scopes_kept : Scoped (interface typed_one) (acts_in typed_one.body)
  scopes_kept = reads_body (setting p) (called ps) (has_quantified_post p) (arity p) (head_scope p) (interface typed_one) p.body k.body head_mirrors

  pub loops_kept : Each (LoopsMeet typed_one) (in_order (acts_in typed_one.body))
  loops_kept = each_act (LoopsMeet typed_one) (meets typed_one (setting p) (called ps) refl)

  pub numbers_kept : loop_numbers (in_order (acts_in typed_one.body)) ≡ counted 1 typed_one.loops
  numbers_kept = numbered_body (setting p) (called ps) (arity p) (head_scope p) p.body
