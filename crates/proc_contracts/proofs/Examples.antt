-- Modified variables, reached procedures and programs, worked out by hand on small procedures.
use Rattle.std.proofs.Common.{◌≡◌, refl, ℕ, Bool, true, false, ◌==◌, ◌||◌, List, [], ◌∷◌, sym, subst, arith, ⊎_elim}
use Rattle.std.specs.Prelude.{pos, Some, None}
use Rattle.std.proofs.lemmas.Bool.{eqb-true, or_cases, false≢true}
use Rattle.heyvl_num.specs.Rational.{ratio}
use Rattle.heyvl_num.specs.Value.{oneᵛ, zeroᵛ}
use Rattle.heyvl_places.specs.declared.spans.Span.{Span}
use Rattle.heyvl_places.specs.declared.checks.CheckKind.{CheckKind}
use Rattle.heylo_formula.specs.Formula.{Form, Cond, Term}
use Rattle.heylo_formula.specs.declared.types.Ty.{Ty}
use Rattle.heyvl_acts.specs.Acts.{Act, Acts, Arms, Head, TypedProcedure, nobody}
use Rattle.heyvl_acts.specs.ModifiedVariables.{modified}
use Rattle.heyvl_acts.specs.Program.{Calls, Reaches, Reason, why_no_program}
use Rattle.heyvl_acts.specs.Visible.{among}
use Rattle.proc_contracts.specs.ReachedProcedures.{AreReached}

abbrev nowhere : Span
nowhere = record { from = 0; to = 0 }

abbrev only : Act → Acts
only a = Acts.next a Acts.done

abbrev set : ℕ → Act
set x = Act.set x (Term.number (Form.number oneᵛ)) nowhere

abbrev call : List ℕ → ℕ → Act
call xs p = Act.call xs p [] nowhere

abbrev head : Head
head = record { number = 1; k = 1; inv = Form.number oneᵛ; guard = Cond.flag 0; rank = None; scope = 0 ∷ 1 ∷ 2 ∷ 3 ∷ 4 ∷ 5 ∷ []; span = nowhere }

-- ---- Modified variables

-- An assignment, a draw, a havoc and a call assign the variables 1, 2, 3 and 4; the guard reads 0,
-- and nothing assigns 5.
abbrev each_kind : Acts
each_kind = Acts.next (set 1) (Acts.next (Act.draw 2 ((ratio (pos 1) 1, Term.number (Form.number oneᵛ)) ∷ []) nowhere) (Acts.next (Act.any 3 true Ty.UInt nowhere) (only (call (4 ∷ []) 0))))

a_target_of_each_kind : modified head.scope each_kind ≡ 1 ∷ 2 ∷ 3 ∷ 4 ∷ []
a_target_of_each_kind = refl

-- A flip assigns its target, and no variable of its probability.
a_target_of_a_toss : modified head.scope (only (Act.toss 3 (Form.select (Cond.flag 2) (Form.number oneᵛ) (Form.number zeroᵛ)) nowhere)) ≡ 3 ∷ []
a_target_of_a_toss = refl

-- Targets in a branch, in either block of a choice and in an inner loop count.
abbrev inside_others : Acts
inside_others = Acts.next (Act.ifs (Arms.arm (Cond.flag 0) (only (set 5)) Arms.no_arm) (only (set 4)) nowhere) (Acts.next (Act.pick true (only (set 2)) (only (set 1)) nowhere) (only (Act.loop head (only (set 0)))))

targets_inside_others : modified head.scope inside_others ≡ 0 ∷ 1 ∷ 2 ∷ 4 ∷ 5 ∷ []
targets_inside_others = refl

-- Variable 6 is not in the loop's scope. A check, a reward and a validation have no target.
outside_the_scope : modified head.scope (Acts.next (set 6) (Acts.next (Act.reward (Form.variable 1) nowhere) (only (Act.check CheckKind.Assert (Form.variable 2) nowhere)))) ≡ []
outside_the_scope = refl

-- ---- Reached procedures

abbrev calling : Acts → TypedProcedure
calling acts = record nobody { body = Some acts }

-- Procedure 0 calls 1 in a loop, 1 calls 2 in a branch, and 2 has no body; 3 calls itself; 4 and 5
-- call each other, and 5 calls 2.
abbrev file : List TypedProcedure
file = calling (only (Act.loop head (only (call [] 1)))) ∷ calling (only (Act.ifs Arms.no_arm (only (call [] 2)) nowhere)) ∷ nobody ∷ calling (only (call [] 3)) ∷ calling (only (call [] 5)) ∷ calling (Acts.next (call [] 4) (only (call [] 2))) ∷ []

one_step : Reaches file 0 1
one_step = Reaches.directly 0 1 refl

two_steps : Reaches file 0 2
two_steps = Reaches.onward 0 1 2 refl (Reaches.directly 1 2 refl)

recursion : Reaches file 3 3
recursion = Reaches.directly 3 3 refl

mutual_recursion : Reaches file 4 4 × Reaches file 5 5
mutual_recursion = (Reaches.onward 4 5 4 refl (Reaches.directly 5 4 refl), Reaches.onward 5 4 5 refl (Reaches.directly 4 5 refl))

-- A procedure without a body reaches nothing; 1 reaches 2 alone, and 0 reaches 1 and 2, but not
-- itself.
from_two : (p q : ℕ) → Reaches file p q → p ≡ 2 → ⊥
from_two _ _ (Reaches.directly p q c) e = false≢true (subst (λ y. Calls file y q) e c)
from_two _ _ (Reaches.onward p r q c h) e = false≢true (subst (λ y. Calls file y r) e c)

single : (n q : ℕ) → ((n == q) || false) ≡ true → q ≡ n
single n q h = ⊎_elim (λ same. sym (eqb-true n q same)) (λ no. absurd (false≢true no)) (or_cases (n == q) false h)

from_one : (p q : ℕ) → Reaches file p q → p ≡ 1 → q ≡ 2
from_one _ _ (Reaches.directly p q c) e = single 2 q (subst (λ y. Calls file y q) e c)
from_one _ _ (Reaches.onward p r q c h) e = absurd (from_two r q h (single 2 r (subst (λ y. Calls file y r) e c)))

from_zero : (p q : ℕ) → Reaches file p q → p ≡ 0 → among (1 ∷ 2 ∷ []) q ≡ true
from_zero _ _ (Reaches.directly p q c) e = subst (λ y. among (1 ∷ 2 ∷ []) y ≡ true) (sym (single 1 q (subst (λ y. Calls file y q) e c))) refl
from_zero _ _ (Reaches.onward p r q c h) e = subst (λ y. among (1 ∷ 2 ∷ []) y ≡ true) (sym (from_one r q h (single 1 r (subst (λ y. Calls file y r) e c)))) refl

reached_from_zero : AreReached file 0 (1 ∷ 2 ∷ [])
reached_from_zero = record {
  growing = ((omega arith, omega arith), ((omega arith, omega arith), tt));
  all = λ q h. from_zero 0 q h refl;
  only = λ q h. ⊎_elim (λ one. subst (λ y. Reaches file 0 y) (eqb-true 1 q one) one_step) (λ two. subst (λ y. Reaches file 0 y) (sym (single 2 q two)) two_steps) (or_cases (1 == q) ((2 == q) || false) h);
}

reached_from_two : AreReached file 2 []
reached_from_two = record { growing = tt; all = λ q h. absurd (from_two 2 q h refl); only = λ q h. absurd (false≢true h) }

-- ---- Programs

abbrev somewhere : Span
somewhere = record { from = 3; to = 4 }

abbrev weak_proc : Acts → TypedProcedure
weak_proc acts = record nobody { co = false; weak = true; body = Some acts }

abbrev plain_proc : Acts → TypedProcedure
plain_proc acts = record nobody { co = false; body = Some acts }

abbrev quantified : TypedProcedure → TypedProcedure
quantified p = record p { post = Form.sum (Form.number oneᵛ) (Form.bind true 1 1 Ty.Bool (Form.iverson (Cond.flag 1))) }

abbrev check : CheckKind → Acts
check kind = only (Act.check kind (Form.number oneᵛ) somewhere)

abbrev choice : Bool → Acts → Acts → Acts
choice up a b = only (Act.pick up a b somewhere)

programs : (why_no_program (calling each_kind) ≡ None) × (why_no_program (weak_proc each_kind) ≡ None) × (why_no_program (calling (choice true Acts.done Acts.done)) ≡ None) × (why_no_program (weak_proc (choice false Acts.done Acts.done)) ≡ None)
programs = (refl, refl, refl, refl)

reasons : (why_no_program nobody ≡ Some Reason.no_body) × (why_no_program (plain_proc each_kind) ≡ Some Reason.no_wlp) × (why_no_program (quantified (calling each_kind)) ≡ Some Reason.quantifier) × (why_no_program (quantified (weak_proc each_kind)) ≡ Some Reason.quantifier)
reasons = (refl, refl, refl, refl)

-- Each check, both validations, and a choice of the other direction.
statements : (why_no_program (calling (check CheckKind.Assert)) ≡ Some (Reason.statement somewhere)) × (why_no_program (calling (check CheckKind.Assume)) ≡ Some (Reason.statement somewhere)) × (why_no_program (weak_proc (check CheckKind.CoAssert)) ≡ Some (Reason.statement somewhere)) × (why_no_program (weak_proc (check CheckKind.CoAssume)) ≡ Some (Reason.statement somewhere)) × (why_no_program (calling (only (Act.validate true somewhere))) ≡ Some (Reason.statement somewhere)) × (why_no_program (weak_proc (only (Act.validate false somewhere))) ≡ Some (Reason.statement somewhere))
statements = (refl, refl, refl, refl, refl, refl)

choices : (why_no_program (calling (choice false Acts.done Acts.done)) ≡ Some (Reason.statement somewhere)) × (why_no_program (weak_proc (choice true Acts.done Acts.done)) ≡ Some (Reason.statement somewhere))
choices = (refl, refl)

-- The first of two statements in the text counts: a choice before the statements of its blocks, and
-- the body of a loop before what follows the loop.
first_statements : (why_no_program (calling (choice false (only (Act.validate true nowhere)) Acts.done)) ≡ Some (Reason.statement somewhere)) × (why_no_program (calling (Acts.next (Act.loop head (check CheckKind.Assert)) (only (Act.validate true nowhere)))) ≡ Some (Reason.statement somewhere)) × (why_no_program (calling (only (Act.ifs (Arms.arm (Cond.flag 0) (check CheckKind.Assert) Arms.no_arm) (only (Act.validate true nowhere)) nowhere))) ≡ Some (Reason.statement somewhere))
first_statements = (refl, refl, refl)

-- The first of two reasons counts: no body, no `@wlp`, a quantifier, a statement.
two_reasons : (why_no_program (record nobody { co = false }) ≡ Some Reason.no_body) × (why_no_program (quantified nobody) ≡ Some Reason.no_body) × (why_no_program (quantified (plain_proc each_kind)) ≡ Some Reason.no_wlp) × (why_no_program (plain_proc (check CheckKind.Assert)) ≡ Some Reason.no_wlp) × (why_no_program (quantified (calling (check CheckKind.Assert))) ≡ Some Reason.quantifier)
two_reasons = (refl, refl, refl, refl, refl)
