-- Which procedures are programs, and which procedures are reached by calls. Source: a HeyVL program
-- without verification statements (Schroeer, Batz, Kaminski, Katoen, Matheja, OOPSLA 2023); that
-- its choices are in the procedure's direction is this project's own rule.
use Rattle.std.specs.Option.{option_or}
use Rattle.std.specs.Prelude.{◌≡◌, ℕ, ◌==◌, Bool, true, false, not, ◌||◌, List, [], ◌∷◌, Option}
use Rattle.std.specs.Prelude.{Some, None, if◌then◌else◌}
use Rattle.heyvl_places.specs.declared.spans.Span.{Span}
use Rattle.heylo_formula.specs.Binders.{has_binder}
use Rattle.heylo_formula.specs.Operators.{agree}
use Rattle.heyvl_acts.specs.Acts.{Act, Acts, TypedProcedure, acts_in, procedure_at}
use Rattle.heyvl_acts.specs.Places.{in_order}

-- The reason why a procedure is no program.
pub data Reason : Type 0 where
  no_body : Reason
  no_wlp : Reason
  quantifier : Reason
  statement : Span → Reason

-- The place of an act that no program of the given direction has: a check, a validation, or a pick
-- of the other direction.
abbrev pub breaks : Bool → Act → Option Span
breaks co (Act.set x t span) = None
breaks co (Act.draw x ps span) = None
breaks co (Act.toss x p span) = None
breaks co (Act.any x up ty span) = None
breaks co (Act.reward f span) = None
breaks co (Act.ifs arms e span) = None
breaks co (Act.pick up a b span) = if agree co up then None else Some span
breaks co (Act.check kind f span) = Some span
breaks co (Act.validate d span) = Some span
breaks co (Act.loop h b) = None
breaks co (Act.call xs p es span) = None

-- The place of the first act in the list that no program of the given direction has.
abbrev pub first_break : Bool → List Act → Option Span
first_break co [] = None
first_break co (a ∷ rest) = option_or (breaks co a) (first_break co rest)

-- The reason that an act at a place gives, if there is one.
abbrev pub reason_of_break : Option Span → Option Reason
reason_of_break (Some s) = Some (Reason.statement s)
reason_of_break None = None

-- The first reason why a procedure is no program, in the order: no body, a proc without `@wlp`, a
-- quantifier in the post, an act.
abbrev pub why_no_program : TypedProcedure → Option Reason
why_no_program p = why p.body
  where
    why : Option Acts → Option Reason
    why None = Some Reason.no_body
    why (Some acts) = if not (p.co || p.weak) then Some Reason.no_wlp
        else (if has_binder p.post then Some Reason.quantifier
        else reason_of_break (first_break p.co (in_order acts)))

-- The procedure is a program: there is no reason why it is none.
abbrev pub IsProgram : TypedProcedure → Type 0
IsProgram p = why_no_program p ≡ None

-- One of the acts is a call of the procedure `q`.
abbrev pub calls : ℕ → List Act → Bool
calls q [] = false
calls q (a ∷ rest) = is_call a || calls q rest
  where
    is_call : Act → Bool
    is_call (Act.call xs p es span) = p == q
    is_call a = false

-- The body of procedure `p` contains a call of procedure `q`.
abbrev pub Calls : List TypedProcedure → ℕ → ℕ → Type 0
Calls ps p q = calls q (in_order (acts_in (procedure_at ps p).body)) ≡ true

-- Procedure `q` is reached from `p` by one or more calls.
pub data Reaches (ps : List TypedProcedure) : ℕ → ℕ → Type 0 where
  directly : (p q : ℕ) → Calls ps p q → Reaches ps p q
  onward : (p q r : ℕ) → Calls ps p q → Reaches ps q r → Reaches ps p r
