-- Conclusions from the fact that a procedure is a program.
use Rattle.std.proofs.Common.{◌≡◌, refl, Bool, true, false, not, ◌||◌, List, [], ◌∷◌}
use Rattle.std.specs.Prelude.{if◌then◌else◌, Option, Some, None}
use Rattle.heyvl_places.specs.declared.spans.Span.{Span}
use Rattle.heylo_formula.specs.Binders.{has_binder}
use Rattle.heyvl_acts.specs.Acts.{Act, Acts, TypedProcedure, acts_in}
use Rattle.heyvl_acts.specs.Places.{in_order}
use Rattle.heyvl_acts.specs.Program.{IsProgram, Reason, breaks, first_break, reason_of_break}
use Rattle.heyvl_acts.specs.Rules.{Each}

-- The procedure is a coproc or has `@wlp`, its post has no binder, and no act breaks the conditions
-- on programs.
pub record HasNoReason (p : TypedProcedure) : Type 0 where
  pub kind : p.co || p.weak ≡ true
  pub plain : has_binder p.post ≡ false
  pub unbroken : first_break p.co (in_order (acts_in p.body)) ≡ None

pub no_reason : (p : TypedProcedure) → IsProgram p → HasNoReason p
no_reason p h = go p.body h
  where
    parts : (acts : Acts) (a b : Bool) (o : Option Span) → p.co || p.weak ≡ a → has_binder p.post ≡ b → first_break p.co (in_order acts) ≡ o → (if not a then Some Reason.no_wlp else (if b then Some Reason.quantifier else reason_of_break o)) ≡ None → HasNoReason (record p { body = Some acts })
    parts acts false b o e f g h = absurd (cc)
    parts acts true true o e f g h = absurd (cc)
    parts acts true false (Some s) e f g h = absurd (cc)
    parts acts true false None e f g h = record { kind = e; plain = f; unbroken = g }

    go : (b : Option Acts) → IsProgram (record p { body = b }) → HasNoReason (record p { body = b })
    go None h = absurd (cc)
    go (Some acts) h = parts acts (p.co || p.weak) (has_binder p.post) (first_break p.co (in_order acts)) refl refl refl h

pub none_breaks : (co : Bool) (acts : List Act) → first_break co acts ≡ None → Each (λ a. breaks co a ≡ None) acts
none_breaks co [] h = tt
none_breaks co (a ∷ rest) h = go (breaks co a) refl (none_breaks co rest)
  where
    go : (o : Option Span) → breaks co a ≡ o → (first_break co rest ≡ None → Each (λ a. breaks co a ≡ None) rest) → Each (λ a. breaks co a ≡ None) (a ∷ rest)
    go (Some s) e more = let k = rw e at h in absurd (cc)
    go None e more = (e, more (let k : first_break co rest ≡ None = rw e at h in k))
