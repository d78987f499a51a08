-- The values of a loop under way, by its number of remaining copies.
use Rattle.std.proofs.Common.{◌≡◌, ◌∙◌, ℕ, sym, subst, Bool, true, false, List, ◌⊎◌, inl, inr}
use Prim.Native.Nat.{zero, suc}
use Rattle.heyvl_num.specs.Value.{Value}
use Rattle.heylo_formula.specs.State.{Env}
use Rattle.heylo_formula.specs.Choices.{Choices, left, right}
use Rattle.heylo_formula.specs.Meaning.{value, holds}
use Rattle.heylo_formula.specs.Typing.{Types, HasTypes}
use Rattle.heyvl_acts.specs.Acts.{Head, Acts, TypedProcedure, types_of, procedure_at}
use Rattle.heyvl_acts.specs.Forward.{Post, checked}
use Rattle.heyvl_acts.specs.ModifiedVariables.{modified}
use Rattle.heyvl_acts.specs.Visible.{among, Sees, SeesCond, Scoped}
use Rattle.k_induction.specs.Copies.{must}
use Rattle.bounded_runs.specs.internal.Contracts.{worst, havoc, after, more, once, way, blame, meaning}
use Rattle.bounded_runs.specs.internal.Programs.{IsLoop, Program, IsBoundedProgram}
use Rattle.bounded_runs.proofs.RunValues.{Safe, safe_refl, safe_trans, Decided, decide, must_left, must_right, meets_two}
use Rattle.bounded_runs.proofs.ScopedMeaning.{Respects, blamed_on, acts_on}
use Rattle.bounded_runs.proofs.ProgramStates.{same_refl, keep, havoc-keep, after-keep, havoc_keeps}
use Rattle.bounded_runs.proofs.Monotone.{both, behind, Under, under_acts, Begun, begun_acts, begun_way, held_value}

-- A covering property of values, closed on the safe side.
pub record Cover (up : Bool) (P : Value → Type 0) : Type 0 where
  pub closed : (x y : Value) → Safe up x y → P x → P y
  pub at_worst : P (worst up)

-- `P` holds of the value for some choices.
pub record Some (P : Value → Type 0) (f : Choices → Value) : Type 0 where
  pub choices : Choices
  pub covers : P (f choices)

-- The value at the test of a loop under way: with the given number of copies, or the meaning after
-- the assertion of the invariant.
abbrev pub turn_value : Bool → Types → (Post → Post) → Head → Acts → Post → ℕ → Post
turn_value up types body h b k j s c = checked (must up) (way up body h k j s (left c)) (blame up types (modified h.scope b) body h k s (right c))

-- Choices that show the implication of the invariant to fail in this state.
pub record Fails (up : Bool) (types : Types) (body : Post → Post) (h : Head) (b : Acts) (k : Post) (s : Env) : Type 0 where
  pub choices : Choices
  pub fails : blame up types (modified h.scope b) body h k s choices ≡ worst up

module _ (up : Bool) (ps : List TypedProcedure) (R : ℕ → Type 0) (hold : (n : ℕ) → R n → IsBoundedProgram up ps R (procedure_at ps n)) (p : TypedProcedure) (b : Acts) (h : Head) (fits : IsLoop up p h b) (program : Program up ps R p b) (k : Post) (begun_k : Begun up ps R hold p k) where
  -- The value of the body and the rest at the loop's test, with the most copies.
  abbrev full : Post
  full = once (meaning up (types_of p) ps b) h k (way up (meaning up (types_of p) ps b) h k (more h))

  decided : (s : Env) (c : Choices) → HasTypes (types_of p) s → Decided up (value h.inv s Choices.stop) (full s c)
  decided s c e = decide up (value h.inv s Choices.stop) (full s c) (held_value (types_of p) h.inv s fits.inv e)

  pub begun_turn : (j : ℕ) → Begun up ps R hold p (turn_value up (types_of p) (meaning up (types_of p) ps b) h b k j)
  begun_turn j s c e = safe_trans up _ _ _ (begun_way up ps R hold p (meaning up (types_of p) ps b) (λ l. begun_acts up ps R hold p b program l) h b fits k begun_k j s (left c) e) (must_left up _ _)

  module _ (sees_inv : Sees (among h.scope) h.inv) (sees_guard : SeesCond (among h.scope) h.guard) (scoped : Scoped (among h.scope) b) (respects : Respects (among h.scope) k) where
    strip : (j : ℕ) (s : Env) → Under up p (Fails up (types_of p) (meaning up (types_of p) ps b) h b k s) (among h.scope) (modified h.scope b) s (turn_value up (types_of p) (meaning up (types_of p) ps b) h b k j) (way up (meaning up (types_of p) ps b) h k j)
    strip j s t c q = elim (decided (havoc (types_of p) (modified h.scope b) t (right c)) (right (after (modified h.scope b) (right c))) (havoc_keeps (types_of p) (modified h.scope b) t (right c) q.typed)) [ inl g ↦ inr (record { choices = left c; safe = subst (λ x. Safe up x (way up (meaning up (types_of p) ps b) h k j t (left c))) (sym (g.1 _ (begun_way up ps R hold p (meaning up (types_of p) ps b) (λ l. begun_acts up ps R hold p b program l) h b fits k begun_k j t (left c) q.typed))) (safe_refl up _) }) | inr w ↦ inl (record { choices = right c; fails = blamed_on up (among h.scope) h sees_inv sees_guard (meaning up (types_of p) ps b) (acts_on up ps R p b program (among h.scope) scoped) k respects (havoc (types_of p) (modified h.scope b) s (right c)) (havoc (types_of p) (modified h.scope b) t (right c)) (right (after (modified h.scope b) (right c))) (q.same (right c)) ∙ w }) ]

    module _ (P : Value → Type 0) (cover : Cover up P) (E : Type 0) where
      fails_turn : (j : ℕ) (s : Env) → Fails up (types_of p) (meaning up (types_of p) ps b) h b k s → E ⊎ Some P (turn_value up (types_of p) (meaning up (types_of p) ps b) h b k j s)
      fails_turn j s f = inr (record { choices = both Choices.stop f.choices; covers = cover.closed _ _ (must_right up (way up (meaning up (types_of p) ps b) h k j s Choices.stop) (blame up (types_of p) (modified h.scope b) (meaning up (types_of p) ps b) h k s f.choices)) (subst P (sym f.fails) cover.at_worst) })

      stripped : (j : ℕ) (s : Env) → HasTypes (types_of p) s → Some P (meaning up (types_of p) ps b (turn_value up (types_of p) (meaning up (types_of p) ps b) h b k j) s) → Fails up (types_of p) (meaning up (types_of p) ps b) h b k s ⊎ Some P (meaning up (types_of p) ps b (way up (meaning up (types_of p) ps b) h k j) s)
      stripped j s e f = elim (under_acts up ps R hold p (Fails up (types_of p) (meaning up (types_of p) ps b) h b k s) (among h.scope) (modified h.scope b) s b program fits.within _ _ (strip j s) s f.choices (same_refl p (among h.scope) (modified h.scope b) s e)) [ inl e ↦ inl e | inr g ↦ inr (record { choices = g.choices; covers = cover.closed _ _ g.safe f.covers }) ]

      in_inv : (s : Env) → HasTypes (types_of p) s → Some P (full s) → Fails up (types_of p) (meaning up (types_of p) ps b) h b k s ⊎ P (value h.inv s Choices.stop)
      in_inv s e f = elim (decided s f.choices e) [ inl g ↦ inr (cover.closed _ _ g.0 f.covers) | inr w ↦ inl (record { choices = keep (modified h.scope b) s (behind f.choices); fails = rw (havoc-keep p (modified h.scope b) s (behind f.choices) e, after-keep (modified h.scope b) s (behind f.choices)) w }) ]

      in_way : (j : ℕ) (s : Env) → P (value h.inv s Choices.stop) → Some P (once (meaning up (types_of p) ps b) h k (way up (meaning up (types_of p) ps b) h k j) s) → Some P (way up (meaning up (types_of p) ps b) h k (suc j) s)
      in_way j s q f = record { choices = behind f.choices; covers = elim (meets_two up (value h.inv s Choices.stop) (once (meaning up (types_of p) ps b) h k (way up (meaning up (types_of p) ps b) h k j) s f.choices)) [ inl e ↦ rw e q | inr e ↦ rw e f.covers ] }

      to_turn : (j : ℕ) (s : Env) → Some P (way up (meaning up (types_of p) ps b) h k j s) → E ⊎ Some P (turn_value up (types_of p) (meaning up (types_of p) ps b) h b k j s)
      to_turn j s f = inr (record { choices = both f.choices Choices.stop; covers = cover.closed _ _ (must_left up _ _) f.covers })

      pub turn_on : (s : Env) → HasTypes (types_of p) s → holds h.guard s Choices.stop ≡ true → ((j : ℕ) → E ⊎ Some P (meaning up (types_of p) ps b (turn_value up (types_of p) (meaning up (types_of p) ps b) h b k j) s)) → (j : ℕ) → E ⊎ Some P (turn_value up (types_of p) (meaning up (types_of p) ps b) h b k j s)
      turn_on s t e f j = first j (f (more h))
        where
          onces : (i : ℕ) → Some P (meaning up (types_of p) ps b (way up (meaning up (types_of p) ps b) h k i) s) → Some P (once (meaning up (types_of p) ps b) h k (way up (meaning up (types_of p) ps b) h k i) s)
          onces i g = record { choices = behind g.choices; covers = rw e g.covers }

          last : (j : ℕ) → P (value h.inv s Choices.stop) → Fails up (types_of p) (meaning up (types_of p) ps b) h b k s ⊎ Some P (meaning up (types_of p) ps b (way up (meaning up (types_of p) ps b) h k j) s) → E ⊎ Some P (turn_value up (types_of p) (meaning up (types_of p) ps b) h b k (suc j) s)
          last j p (inl g) = fails_turn (suc j) s g
          last j p (inr g) = to_turn (suc j) s (in_way j s p (onces j g))

          late : (j : ℕ) → P (value h.inv s Choices.stop) → E ⊎ Some P (meaning up (types_of p) ps b (turn_value up (types_of p) (meaning up (types_of p) ps b) h b k j) s) → E ⊎ Some P (turn_value up (types_of p) (meaning up (types_of p) ps b) h b k (suc j) s)
          late j p (inl g) = inl g
          late j p (inr g) = last j p (stripped j s t g)

          mid : (j : ℕ) → Fails up (types_of p) (meaning up (types_of p) ps b) h b k s ⊎ P (value h.inv s Choices.stop) → E ⊎ Some P (turn_value up (types_of p) (meaning up (types_of p) ps b) h b k j s)
          mid j (inl g) = fails_turn j s g
          mid zero (inr p) = to_turn zero s (record { choices = Choices.stop; covers = p })
          mid (suc j) (inr p) = late j p (f j)

          go : (j : ℕ) → Fails up (types_of p) (meaning up (types_of p) ps b) h b k s ⊎ Some P (meaning up (types_of p) ps b (way up (meaning up (types_of p) ps b) h k (more h)) s) → E ⊎ Some P (turn_value up (types_of p) (meaning up (types_of p) ps b) h b k j s)
          go j (inl g) = fails_turn j s g
          go j (inr g) = mid j (in_inv s t (onces (more h) g))

          first : (j : ℕ) → E ⊎ Some P (meaning up (types_of p) ps b (turn_value up (types_of p) (meaning up (types_of p) ps b) h b k (more h)) s) → E ⊎ Some P (turn_value up (types_of p) (meaning up (types_of p) ps b) h b k j s)
          first j (inl g) = inl g
          first j (inr g) = go j (stripped (more h) s t g)

      pub turn_off : (s : Env) → HasTypes (types_of p) s → holds h.guard s Choices.stop ≡ false → E ⊎ Some P (k s) → (j : ℕ) → E ⊎ Some P (turn_value up (types_of p) (meaning up (types_of p) ps b) h b k j s)
      turn_off s t e (inl g) j = inl g
      turn_off s t e (inr f) j = mid j (in_inv s t (onces (more h)))
        where
          onces : (i : ℕ) → Some P (once (meaning up (types_of p) ps b) h k (way up (meaning up (types_of p) ps b) h k i) s)
          onces i = record { choices = behind f.choices; covers = rw e f.covers }

          mid : (j : ℕ) → Fails up (types_of p) (meaning up (types_of p) ps b) h b k s ⊎ P (value h.inv s Choices.stop) → E ⊎ Some P (turn_value up (types_of p) (meaning up (types_of p) ps b) h b k j s)
          mid j (inl g) = fails_turn j s g
          mid zero (inr p) = to_turn zero s (record { choices = Choices.stop; covers = p })
          mid (suc j) (inr p) = to_turn (suc j) s (in_way j s p (onces j))
