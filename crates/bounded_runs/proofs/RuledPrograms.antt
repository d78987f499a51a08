-- The static rules of a program, act by act, along its acts.
use Rattle.std.proofs.Common.{◌≡◌, ◌<◌, ℕ, refl, sym, ◌∙◌, arith, Bool, true, false, ◌||◌, ◌==◌, List, [], ◌∷◌, length}
use Rattle.std.specs.Prelude.{if◌then◌else◌, Some, None}
use Prim.Native.Nat.{suc}
use Rattle.heyvl_num.specs.Rational.{Rational}
use Rattle.heyvl_places.specs.declared.spans.Span.{Span}
use Rattle.heylo_formula.specs.Choices.{Choices}
use Rattle.heylo_formula.specs.Formula.{Term}
use Rattle.heylo_formula.specs.Operators.{agree}
use Rattle.heylo_formula.specs.declared.types.Ty.{Ty}
use Rattle.heyvl_acts.specs.Acts.{Act, Acts, Arms, TypedProcedure, procedure_at, type_list, types_of, variables}
use Rattle.heyvl_acts.specs.Places.{in_order, inside, inside_arms}
use Rattle.heyvl_acts.specs.Program.{breaks}
use Rattle.heyvl_acts.specs.Rules.{Each, FollowsDirection, GrowBelow, GuardsFit, HasOwnTargets, IsOwn, IsTypedAct, LoopsMeet, TargetsFit, WeighsOne}
use Rattle.heyvl_acts.specs.Visible.{Visible, Scoped, ScopedAct, ScopedArms, among, shown_by}
use Rattle.heyvl_acts.specs.WellTypedActs.{DrawFits, PartsFit}
use Rattle.loop_encodings.specs.BoundGoals.{IsAtMostOne}
use Rattle.bounded_runs.specs.internal.Programs.{Owns, Program, ProgramAct, ProgramArms}
use Rattle.heyvl_acts.proofs.exported.Each.{each_first, each_second}
use Rattle.bounded_runs.proofs.ModifiedVariables.{modified_within}

-- ---- Conditions on each act

-- A called procedure satisfies `R`.
abbrev pub CallsOnly : (ℕ → Type 0) → Act → Type 0
CallsOnly R (Act.set x t span) = Unit {0}
CallsOnly R (Act.draw x qs span) = Unit {0}
CallsOnly R (Act.toss x f span) = Unit {0}
CallsOnly R (Act.any x up ty span) = Unit {0}
CallsOnly R (Act.reward f span) = Unit {0}
CallsOnly R (Act.ifs arms e span) = Unit {0}
CallsOnly R (Act.pick up a b span) = Unit {0}
CallsOnly R (Act.check kind f span) = Unit {0}
CallsOnly R (Act.validate co span) = Unit {0}
CallsOnly R (Act.loop h b) = Unit {0}
CallsOnly R (Act.call xs q es span) = R q

-- The invariant of a loop is at most 1.
abbrev pub HasSmallInvariant : TypedProcedure → Act → Type 0
HasSmallInvariant p (Act.set x t span) = Unit {0}
HasSmallInvariant p (Act.draw x qs span) = Unit {0}
HasSmallInvariant p (Act.toss x f span) = Unit {0}
HasSmallInvariant p (Act.any x up ty span) = Unit {0}
HasSmallInvariant p (Act.reward f span) = Unit {0}
HasSmallInvariant p (Act.ifs arms e span) = Unit {0}
HasSmallInvariant p (Act.pick up a b span) = Unit {0}
HasSmallInvariant p (Act.check kind f span) = Unit {0}
HasSmallInvariant p (Act.validate co span) = Unit {0}
HasSmallInvariant p (Act.loop h b) = IsAtMostOne (type_list (variables p)) h.inv
HasSmallInvariant p (Act.call xs q es span) = Unit {0}

-- The static rules on an act of a program whose calls are of procedures that satisfy `R`.
pub record IsRuled (ps : List TypedProcedure) (R : ℕ → Type 0) (p : TypedProcedure) (a : Act) : Type 0 where
  pub targets : HasOwnTargets p a
  pub typed : IsTypedAct ps p a
  pub weights : WeighsOne a
  pub directions : FollowsDirection ps p a
  pub loops : LoopsMeet p a
  pub unbroken : breaks p.co a ≡ None
  pub calls : CallsOnly R a
  pub small : p.co ≡ false → HasSmallInvariant p a

pub all_ruled : (ps : List TypedProcedure) (R : ℕ → Type 0) (p : TypedProcedure) (acts : List Act) → Each (HasOwnTargets p) acts → Each (IsTypedAct ps p) acts → Each WeighsOne acts → Each (FollowsDirection ps p) acts → Each (LoopsMeet p) acts → Each (λ a. breaks p.co a ≡ None) acts → Each (CallsOnly R) acts → (p.co ≡ false → Each (HasSmallInvariant p) acts) → Each (IsRuled ps R p) acts
all_ruled ps R p [] a b c d e f g h = tt
all_ruled ps R p (x ∷ rest) a b c d e f g h = (record { targets = a.0; typed = b.0; weights = c.0; directions = d.0; loops = e.0; unbroken = f.0; calls = g.0; small = λ k. (h k).0 }, all_ruled ps R p rest a.1 b.1 c.1 d.1 e.1 f.1 g.1 (λ k. (h k).1))

-- ---- One act

owned : (p : TypedProcedure) (xs : List ℕ) (ts : List Ty) → Each (IsOwn p) xs → TargetsFit p xs ts → Owns p xs ts
owned p [] [] h k = tt
owned p [] (t ∷ ts) h k = absurd k
owned p (x ∷ xs) [] h k = absurd k
owned p (x ∷ xs) (t ∷ ts) h k = ((h.0, k.0), owned p xs ts h.1 k.1)

drawn : (types : ℕ → Ty) (x : ℕ) (qs : List (Rational × Term)) → DrawFits types x qs → PartsFit types x qs
drawn types x [] h = absurd h
drawn types x (q ∷ qs) h = h

below : (from n : ℕ) (xs : List ℕ) (y : ℕ) → GrowBelow from n xs → among xs y ≡ true → y < n
below from n [] y g h = absurd (cc)
below from n (x ∷ xs) y g h = go (x == y) refl (below (suc x) n xs y g.1)
  where
    go : (t : Bool) → (x == y) ≡ t → (among xs y ≡ true → y < n) → y < n
    go true e more = let l = g.0.1 in let s : x ≡ y = grind arith in omega (arith, l, s)
    go false e more = more (let k : among xs y ≡ true = rw e at h in k)

agreed : (co d : Bool) → agree co d ≡ true → d ≡ co
agreed true d h = h
agreed false true h = absurd (cc)
agreed false false h = refl

picked : (co d : Bool) (span : Span) → (if agree co d then None else Some span) ≡ None → d ≡ co
picked co d span h = go (agree co d) refl
  where
    go : (t : Bool) → agree co d ≡ t → d ≡ co
    go true e = agreed co d e
    go false e = let k = rw e at h in absurd (cc)

-- ---- All acts

module _ (ps : List TypedProcedure) (R : ℕ → Type 0) (p : TypedProcedure) (kind : p.co || p.weak ≡ true) where
  upward : p.weak ≡ false → p.co ≡ true
  upward h = go p.co refl
    where
      go : (c : Bool) → p.co ≡ c → p.co ≡ true
      go true e = e
      go false e = let k = rw (e, h) at kind in absurd (cc)

  mutual
    program_act : (v : Visible) (a : Act) → ScopedAct v a → IsRuled ps R p a → Each (IsRuled ps R p) (inside a) → ProgramAct p.co ps R p a
    program_act v (Act.set x t span) s h i = (h.targets, h.typed)
    program_act v (Act.draw x qs span) s h i = (h.targets, (drawn (types_of p) x qs h.typed, h.weights))
    program_act v (Act.toss x f span) s h i = (h.targets, h.typed)
    program_act v (Act.any x d ty span) s h i = (h.targets, (h.typed, h.directions))
    program_act v (Act.reward f span) s h i = (upward h.directions, h.typed)
    program_act v (Act.ifs arms e span) s h i = (program_arms v arms s.0 h.typed (each_first (IsRuled ps R p) (inside_arms arms) (in_order e) i), program_acts v e s.1 (each_second (IsRuled ps R p) (inside_arms arms) (in_order e) i))
    program_act v (Act.pick d a b span) s h i = (picked p.co d span h.unbroken, (program_acts v a s.0 (each_first (IsRuled ps R p) (in_order a) (in_order b) i), program_acts v b s.1 (each_second (IsRuled ps R p) (in_order a) (in_order b) i)))
    program_act v (Act.check kind f span) s h i = absurd (let e = h.unbroken in cc)
    program_act v (Act.validate d span) s h i = absurd (let e = h.unbroken in cc)
    program_act v (Act.loop k b) s h i =
        let body = program_acts v b s.1.1 i in (
          record {
            some_copy = h.loops.some_copy;
            inv = h.typed.inv;
            over = λ y f. below 0 (length (variables p)) k.scope y h.loops.scope (sym (s.0 y) ∙ s.1.0.0 y f);
            guard = h.typed.guard;
            small = λ e s t. h.small e s Choices.stop t;
            within = modified_within k.scope b;
          },
          body,
        )
    program_act v (Act.call xs q es span) s h i = (h.calls, (owned p xs (type_list (procedure_at ps q).outputs) h.targets h.typed.targets, h.typed.arguments))

    pub program_acts : (v : Visible) (acts : Acts) → Scoped v acts → Each (IsRuled ps R p) (in_order acts) → Program p.co ps R p acts
    program_acts v Acts.done s h = tt
    program_acts v (Acts.next a rest) s h = (program_act v a s.0 h.0 (each_first (IsRuled ps R p) (inside a) (in_order rest) h.1), program_acts (shown_by a v) rest s.1 (each_second (IsRuled ps R p) (inside a) (in_order rest) h.1))

    program_arms : (v : Visible) (arms : Arms) → ScopedArms v arms → GuardsFit p arms → Each (IsRuled ps R p) (inside_arms arms) → ProgramArms p.co ps R p arms
    program_arms v Arms.no_arm s g h = tt
    program_arms v (Arms.arm c b more) s g h = (g.0, (program_acts v b s.1.0 (each_first (IsRuled ps R p) (in_order b) (inside_arms more) h), program_arms v more s.1.1 g.1 (each_second (IsRuled ps R p) (in_order b) (inside_arms more) h)))
