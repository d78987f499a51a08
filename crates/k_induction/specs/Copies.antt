-- The copies of a loop's body in its encoding, each under the loop's guard after the one before. In
-- each definition `up` is true in a coproc and false in a proc. Source: latticed k-induction (Batz
-- et al., CAV 2021), in the statements of HeyVL (Schroeer, Batz, Kaminski, Katoen, Matheja, OOPSLA
-- 2023).
use Rattle.std.specs.Prelude.{ℕ, Bool, true, false}
use Prim.Native.Nat.{zero, suc}
use Rattle.heyvl_places.specs.declared.spans.Span.{Span}
use Rattle.heyvl_places.specs.declared.checks.CheckKind.{CheckKind}
use Rattle.heylo_formula.specs.Formula.{Form, Cond}
use Rattle.heyvl_acts.specs.Acts.{Act, Acts, Arms, join}

-- The check that proves a bound.
abbrev pub must : Bool → CheckKind
must true = CheckKind.CoAssert
must false = CheckKind.Assert

-- The check that takes a bound as given.
abbrev pub may : Bool → CheckKind
may true = CheckKind.CoAssume
may false = CheckKind.Assume

-- The check that takes the better of a bound and what follows: the minimum in a coproc, the maximum
-- in a proc.
abbrev pub meets : Bool → CheckKind
meets true = CheckKind.Assert
meets false = CheckKind.CoAssert

-- The acts if the condition holds, otherwise nothing.
abbrev pub if_holds : Span → Cond → Acts → Act
if_holds span g acts = Act.ifs (Arms.arm g acts Arms.no_arm) Acts.done span

-- The check after which nothing counts: `coassume ?(true)` in a coproc, `assume ?(false)` in a
-- proc.
abbrev pub no_more : Bool → Span → Act
no_more up span = Act.check (may up) (Form.embed (Cond.constant up)) span

-- The last copy: the body, then the check of the invariant, after which nothing counts.
abbrev pub last_copy : Bool → Span → Form → Acts → Acts
last_copy up span inv body =
    join body (Acts.next (Act.check (must up) inv span) (Acts.next (no_more up span) Acts.done))

-- A copy before others: the body, then the better of the invariant and the others.
abbrev pub another_copy : Bool → Span → Form → Acts → Act → Acts
another_copy up span inv body others =
    join body (Acts.next (Act.check (meets up) inv span) (Acts.next others Acts.done))

-- `n` copies, at least one. Each but the last is followed by the others under the guard. Example:
-- in a coproc, two copies of `S` are `S`, `assert I`, `if g { S, coassert I, coassume ?(true) }`.
abbrev pub copies : Bool → Span → Cond → Form → Acts → ℕ → Acts
copies up span g inv body zero = Acts.done
copies up span g inv body (suc zero) = last_copy up span inv body
copies up span g inv body (suc (suc n)) =
    another_copy up span inv body (if_holds span g (copies up span g inv body (suc n)))
