-- If the goals of a procedure and of all that it reaches hold, it has its bound: the requirements
-- of the induction over runs follow from the static rules and the goals.
use Rattle.std.proofs.Common.{◌≡◌, ◌<◌, ℕ, refl, sym, subst, ◌∙◌, Bool, true, false, ◌||◌, ◌⊎◌, inl, inr, List, length}
use Rattle.heyvl_acts.specs.Acts.{Act, TypedProcedure, acts_in, procedure_at}
use Rattle.heyvl_acts.specs.Places.{in_order}
use Rattle.heyvl_acts.specs.Program.{Calls, Reaches}
use Rattle.heyvl_acts.specs.Rules.{Each, FollowsDirection, IsTypedAct, MeetsRules}
use Rattle.heyvl_acts.specs.Visible.{interface}
use Rattle.bounded_runs.specs.Law.{IsShown, ShownBoundsHold}
use Rattle.bounded_runs.specs.internal.Programs.{HasFormulas, IsBoundedProgram, Program}
use Rattle.bounded_runs.proofs.CalledProcedures.{called, calls_only, reaches_then}
use Rattle.bounded_runs.proofs.Claims.{bounds}
use Rattle.bounded_runs.proofs.EncodedBounds.{bound_is_meant}
use Rattle.loop_encodings.proofs.exported.FromRules.{each_procedure}
use Rattle.bounded_runs.proofs.ProgramReasons.{HasNoReason, no_reason, none_breaks}
use Rattle.bounded_runs.proofs.RuledPrograms.{IsRuled, all_ruled, program_acts}
use Rattle.bounded_runs.proofs.SmallFormulas.{main_goal, small_invariants, small_post, small_pre}

-- ---- The procedures that a procedure reaches

module _ (ps : List TypedProcedure) (rules : Each (MeetsRules ps) ps) where
  rules_of : (n : ℕ) → n < length ps → MeetsRules ps (procedure_at ps n)
  rules_of n lt = each_procedure ps ps n rules lt

  -- A procedure that a procedure of the direction `co` may call.
  record IsLike (co : Bool) (n : ℕ) : Type 0 where
    pub there : n < length ps
    pub direction : (procedure_at ps n).co ≡ co

  call_like : (co : Bool) (n q : ℕ) → IsLike co n → Calls ps n q → IsLike co q
  call_like co n q k c =
      let r = rules_of n k.there in
      let typed = called (IsTypedAct ps (procedure_at ps n)) q (in_order (acts_in (procedure_at ps n).body)) c r.typed in
      let directed = called (FollowsDirection ps (procedure_at ps n)) q (in_order (acts_in (procedure_at ps n).body)) c r.directions in
      record { there = typed.holds.there; direction = directed.holds.direction ∙ k.direction }

  reached_like : (co : Bool) (p n : ℕ) → IsLike co p → Reaches ps p n → IsLike co n
  reached_like co _ _ k (Reaches.directly p n c) = call_like co p n k c
  reached_like co _ _ k (Reaches.onward p m n c w) = reached_like co m n (call_like co p m k c) w

  -- ---- The requirements of the induction over runs on each procedure

  module _ (R : ℕ → Type 0) (closed : (n q : ℕ) → R n → Calls ps n q → R q) (co : Bool) (like : (n : ℕ) → R n → IsLike co n) (shown : (n : ℕ) → R n → IsShown ps n) where
    formulas_of : (n : ℕ) → R n → HasFormulas (procedure_at ps n)
    formulas_of n r =
        let m = rules_of n (like n r).there in
        record { pre = m.pre; post = (m.post, (no_reason (procedure_at ps n) (shown n r).program).plain); pre_over = m.pre_over; post_over = m.post_over }

    module _ (n : ℕ) (r : R n) where
      abbrev q : TypedProcedure
      q = procedure_at ps n

      abbrev acts : List Act
      acts = in_order (acts_in q.body)

      here : MeetsRules ps q
      here = rules_of n (like n r).there

      reason : HasNoReason q
      reason = no_reason q (shown n r).program

      weak : q.co ≡ false → q.weak ≡ true
      weak e = go q.co q.weak e reason.kind
        where
          go : (a b : Bool) → a ≡ false → (a || b) ≡ true → b ≡ true
          go true b e h = absurd (cc)
          go false b e h = h

      ruled : Each (IsRuled ps R q) acts
      ruled = all_ruled ps R q acts here.targets here.typed here.weights here.directions here.loops (none_breaks q.co acts reason.unbroken) (calls_only R acts (λ m c. closed n m r c)) (λ e. small_invariants ps q here (shown n r).program (shown n r).goals (weak e))

      program : Program q.co ps R q (acts_in q.body)
      program = program_acts ps R q reason.kind (interface q) (acts_in q.body) here.scopes ruled

      bounded : IsBoundedProgram q.co ps R q
      bounded = record {
        formulas = formulas_of n r;
        program = program;
        scoped = here.scopes;
        bound = bound_is_meant ps R q (record { callees = formulas_of; formulas = formulas_of n r; program = program; scoped = here.scopes; bounded = main_goal ps q (shown n r).program (shown n r).goals });
        small_pre = λ e. small_pre ps q here (shown n r).program (shown n r).goals (weak e);
        small_post = λ e. small_post ps q here (shown n r).program (shown n r).goals (weak e);
      }

    bounded_so : (n : ℕ) → R n → IsBoundedProgram co ps R (procedure_at ps n)
    bounded_so n r = subst (λ up. IsBoundedProgram up ps R (procedure_at ps n)) (like n r).direction (bounded n r)

-- The procedure and those that it reaches.
abbrev IsReached : List TypedProcedure → ℕ → ℕ → Type 0
IsReached ps p n = (n ≡ p) ⊎ Reaches ps p n

pub shown_bounds : ShownBoundsHold
shown_bounds ps p rules lt shown =
    let each = bounded_so ps rules (IsReached ps p) closed (procedure_at ps p).co like all in
    bounds (procedure_at ps p).co ps (IsReached ps p) each p (each p (inl refl))
  where
    closed : (n q : ℕ) → IsReached ps p n → Calls ps n q → IsReached ps p q
    closed n q (inl e) c = inr (Reaches.directly p q (subst (λ m. Calls ps m q) e c))
    closed n q (inr w) c = inr (reaches_then ps p n q w c)

    like : (n : ℕ) → IsReached ps p n → IsLike ps rules (procedure_at ps p).co n
    like n (inl e) = subst (λ m. IsLike ps rules (procedure_at ps p).co m) (sym e) (record { there = lt; direction = refl })
    like n (inr w) = reached_like ps rules (procedure_at ps p).co p n (record { there = lt; direction = refl }) w

    all : (n : ℕ) → IsReached ps p n → IsShown ps n
    all n (inl e) = subst (λ m. IsShown ps m) (sym e) shown.itself
    all n (inr w) = shown.reached n w
