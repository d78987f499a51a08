-- The procedures that acts call, and those that a procedure reaches.
use Rattle.std.proofs.Common.{◌≡◌, ℕ, refl, subst, Bool, true, false, ◌==◌, List, [], ◌∷◌}
use Rattle.heyvl_places.specs.declared.spans.Span.{Span}
use Rattle.heylo_formula.specs.Formula.{Term}
use Rattle.heyvl_acts.specs.Acts.{Act, TypedProcedure}
use Rattle.heyvl_acts.specs.Program.{Calls, Reaches, calls}
use Rattle.heyvl_acts.specs.Rules.{Each}
use Rattle.bounded_runs.proofs.ModifiedVariables.{equal_of, or_first, or_second, self}
use Rattle.bounded_runs.proofs.RuledPrograms.{CallsOnly}

-- The acts have a call of the procedure `q` that satisfies `P`.
pub record IsCalled (P : Act → Type 0) (q : ℕ) : Type 0 where
  pub targets : List ℕ
  pub arguments : List Term
  pub span : Span
  pub holds : P (Act.call targets q arguments span)

pub called : (P : Act → Type 0) (q : ℕ) (acts : List Act) → calls q acts ≡ true → Each P acts → IsCalled P q
called P q [] e h = absurd (cc)
called P q (Act.set x t span ∷ rest) e h = called P q rest e h.1
called P q (Act.draw x qs span ∷ rest) e h = called P q rest e h.1
called P q (Act.toss x f span ∷ rest) e h = called P q rest e h.1
called P q (Act.any x up ty span ∷ rest) e h = called P q rest e h.1
called P q (Act.reward f span ∷ rest) e h = called P q rest e h.1
called P q (Act.ifs arms o span ∷ rest) e h = called P q rest e h.1
called P q (Act.pick up a b span ∷ rest) e h = called P q rest e h.1
called P q (Act.check kind f span ∷ rest) e h = called P q rest e h.1
called P q (Act.validate co span ∷ rest) e h = called P q rest e h.1
called P q (Act.loop k b ∷ rest) e h = called P q rest e h.1
called P q (Act.call xs r es span ∷ rest) e h = go (r == q) refl (λ l. called P q rest l h.1)
  where
    go : (t : Bool) → (r == q) ≡ t → (calls q rest ≡ true → IsCalled P q) → IsCalled P q
    go true k more = let same = equal_of r q k in record { targets = xs; arguments = es; span = span; holds = subst (λ n. P (Act.call xs n es span)) same h.0 }
    go false k more = more (let l : calls q rest ≡ true = rw k at e in l)

pub calls_only : (R : ℕ → Type 0) (acts : List Act) → ((q : ℕ) → calls q acts ≡ true → R q) → Each (CallsOnly R) acts
calls_only R [] f = tt
calls_only R (Act.set x t span ∷ rest) f = (tt, calls_only R rest f)
calls_only R (Act.draw x qs span ∷ rest) f = (tt, calls_only R rest f)
calls_only R (Act.toss x w span ∷ rest) f = (tt, calls_only R rest f)
calls_only R (Act.any x up ty span ∷ rest) f = (tt, calls_only R rest f)
calls_only R (Act.reward g span ∷ rest) f = (tt, calls_only R rest f)
calls_only R (Act.ifs arms o span ∷ rest) f = (tt, calls_only R rest f)
calls_only R (Act.pick up a b span ∷ rest) f = (tt, calls_only R rest f)
calls_only R (Act.check kind g span ∷ rest) f = (tt, calls_only R rest f)
calls_only R (Act.validate co span ∷ rest) f = (tt, calls_only R rest f)
calls_only R (Act.loop k b ∷ rest) f = (tt, calls_only R rest f)
calls_only R (Act.call xs q es span ∷ rest) f = (f q (or_first (q == q) (calls q rest) (self q)), calls_only R rest (λ r e. f r (or_second (q == r) (calls r rest) e)))

pub reaches_then : (ps : List TypedProcedure) (p n q : ℕ) → Reaches ps p n → Calls ps n q → Reaches ps p q
reaches_then ps _ _ q (Reaches.directly p n c) d = Reaches.onward p n q c (Reaches.directly n q d)
reaches_then ps _ _ q (Reaches.onward p m n c w) d = Reaches.onward p m q c (reaches_then ps m n q w d)
