-- Two procedures that are no pair, and goals of a pair that exceed a limit. Each of these holds of
-- one pair at the loop `while !d { d = flip(1/2) }`, and not of another.
use Rattle.std.proofs.Common.{◌≡◌, ◌<◌, ◌+◌, ◌^◌, ℕ, suc, zero, refl, sym, subst, true, false, [], ◌∷◌, arith}
use Rattle.std.specs.List.{Contains}
use Rattle.std.specs.Prelude.{Some, None, slice_index_or}
use Rattle.std.proofs.Math.Nat.{pow-suc}
use Rattle.heyvl_num.specs.Value.{zeroᵛ, oneᵛ}
use Rattle.heylo_formula.specs.Formula.{Form, Cond}
use Rattle.heylo_formula.specs.Goals.{Goal}
use Rattle.heylo_formula.specs.Sizes.{nodes, depth}
use Rattle.heylo_formula.specs.declared.goals.Made.TheVariants as made
use Rattle.heylo_formula.specs.declared.types.Ty.{Ty}
use Rattle.heyvl_acts.specs.Acts.{Head, Act, Acts, TypedProcedure}
use Rattle.lower_goals.specs.LimitedGoals.{IsMadeFor}
use Rattle.lower_goals.specs.LimitedGoals.IsMadeFor.{too_deep, too_many}
use Rattle.lower_goals.specs.OmegaGoals.{limited}
use Rattle.lower_goals.specs.OmegaPairs.{OmegaPair}
use Rattle.lower_goals.specs.OneLoop.{OneLoop}
use Rattle.lower_goals.specs.declared.answers.Step.TheVariants as Step
use Rattle.lower_goals.proofs.Examples as plain

abbrev head : Head
head = record { number = 1; k = 1; inv = Form.number oneᵛ; guard = Cond.not (Cond.flag 0); rank = None; scope = 0 ∷ []; span = plain.nowhere }

-- `d = false`, and then `while !d { d = flip(1/2) }`
abbrev two : TypedProcedure
two = record { name = []; co = false; weak = true; inputs = []; outputs = record { name = []; ty = Ty.Bool } ∷ []; locals = []; pre = Form.number oneᵛ; post = plain.post; body = Some (Acts.next (Act.set 0 plain.set_false plain.nowhere) (Acts.next (Act.loop head plain.body) Acts.done)); loops = 1; span = plain.nowhere }

-- A formula for its loop, over d and the number of iterations.
abbrev formula : Form → TypedProcedure
formula f = record { name = []; co = false; weak = false; inputs = record { name = []; ty = Ty.Bool } ∷ record { name = []; ty = Ty.UInt } ∷ []; outputs = []; locals = []; pre = f; post = Form.number zeroᵛ; body = None; loops = 0; span = plain.nowhere }

-- ---- Shape

abbrev two_has_one_loop : OneLoop two
two_has_one_loop = record { front = plain.front; head = head; body = plain.body; behind = Acts.done; is = record { whole = refl; plain_front = (tt, tt); plain_body = (tt, tt); plain_behind = tt; weak = refl; program = refl } }

-- The loop and a formula for it are an omega pair.
abbrev omega_pair : (f : Form) → OmegaPair two (formula f)
omega_pair f = record { loop = two_has_one_loop; pair = record { proc = refl; bodiless = refl; no_outputs = refl; inputs = refl } }

-- A procedure with a body gives no formula.
no_omega_pair : OmegaPair two two → ⊥
no_omega_pair r = let e = r.pair.bodiless in cc

-- ---- Limits

-- A sum of 0 and `n` zeros.
deep : ℕ → Form
deep zero = Form.number zeroᵛ
deep (suc n) = Form.sum (deep n) (Form.number zeroᵛ)

deep_depth : (n : ℕ) → depth (deep n) ≡ n + 1
unfolding deep
deep_depth zero = refl
deep_depth (suc n) = omega (arith, deep_depth n)

-- Sums of two equal forms, nested `n` times.
large : ℕ → Form
large zero = Form.number zeroᵛ
large (suc n) = Form.sum (large n) (large n)

large_nodes : (n : ℕ) → nodes (large n) + 1 ≡ 2 ^ suc n
unfolding large
large_nodes zero = refl
large_nodes (suc n) = omega (arith, large_nodes n, pow-suc 2 (suc n))

contained : (f g : Form) → Contains (f ∷ []) g → f ≡ g
contained f g c = go c.0 c.1 c.2
  where
    go : (k : ℕ) → k < 1 → slice_index_or (f ∷ []) k g ≡ g → f ≡ g
    go zero l e = e
    go (suc k) l e = absurd (omega arith)

-- A goal with a formula of depth 1,001 is too deep.
goal_is_too_deep : (g : Goal) → IsMadeFor g (limited two plain.body Acts.done (deep 1000) Step.One) made.Depth
goal_is_too_deep g = too_deep (deep 1000) (0, omega arith, refl) (omega (arith, deep_depth 1000))

-- A goal with a formula of depth 1 is not.
goal_is_not_too_deep : (g : Goal) → IsMadeFor g (limited two plain.body Acts.done (Form.variable 1) Step.One) made.Depth → ⊥
goal_is_not_too_deep g (too_deep f c d) = let l = subst (λ h. 1000 < depth h) (sym (contained (Form.variable 1) f c)) d in absurd (omega arith)

-- A goal with a formula of 262,143 nodes exceeds the limit.
goal_is_too_large : (g : Goal) → IsMadeFor g (limited two plain.body Acts.done (large 17) Step.One) made.Nodes
goal_is_too_large g = too_many (large 17) (0, omega arith, refl) (omega (arith, large_nodes 17))

-- A goal with a formula of one node is not.
goal_is_not_too_large : (g : Goal) → IsMadeFor g (limited two plain.body Acts.done (Form.variable 1) Step.One) made.Nodes → ⊥
goal_is_not_too_large g (too_many f c d) = let l = subst (λ h. 200000 < nodes h) (sym (contained (Form.variable 1) f c)) d in absurd (omega arith)
