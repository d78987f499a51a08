-- Encodings of small bodies, written out by hand.
use Rattle.std.proofs.Common.{◌≡◌, refl, ℕ, Bool, true, false, List, [], ◌∷◌, pos}
use Rattle.std.specs.Prelude.{Some, None}
use Rattle.heyvl_num.specs.Rational.{Rational, ratio}
use Rattle.heyvl_num.specs.Value.{oneᵛ}
use Rattle.heyvl_num.specs.Value.Value.{finite}
use Rattle.heyvl_places.specs.declared.spans.Span.{Span}
use Rattle.heyvl_places.specs.declared.checks.CheckKind.{CheckKind}
use Rattle.heylo_formula.specs.Formula.{Form, Cond, Term}
use Rattle.heylo_formula.specs.declared.types.Ty.{Ty}
use Rattle.heyvl_acts.specs.Acts.{Head, Act, Acts, Arms, TypedProcedure, Variable, nobody}
use Rattle.loop_encodings.specs.Encoding.{all_variables, encoding}

abbrev pub here : Span
here = record { from = 3; to = 9 }

abbrev pub at : Span
at = record { from = 1; to = 2 }

abbrev listed : List Act → Acts
listed [] = Acts.done
listed (a ∷ rest) = Acts.next a (listed rest)

abbrev when : Cond → List Act → Act
when g acts = Act.ifs (Arms.arm g (listed acts) Arms.no_arm) Acts.done here

abbrev one : Form
one = Form.number oneᵛ

abbrev pub whole : Rational → Form
whole q = Form.number (finite q)

abbrev pub half : Rational
half = ratio (pos 1) 2

abbrev coassert : Form → Act
coassert f = Act.check CheckKind.CoAssert f here

abbrev coassume : Form → Act
coassume f = Act.check CheckKind.CoAssume f here

abbrev assert : Form → Act
assert f = Act.check CheckKind.Assert f here

abbrev assume : Form → Act
assume f = Act.check CheckKind.Assume f here

-- Assumptions after which nothing counts, upward and downward.
abbrev no_more : Act
no_more = coassume (Form.embed (Cond.constant true))

abbrev no_more_down : Act
no_more_down = assume (Form.embed (Cond.constant false))

abbrev pub named : ℕ → Ty → Variable
named n ty = record { name = n ∷ []; ty = ty }

-- ---- The geometric loop: 0 is init_c, 1 is c, 2 is cont and 3 is stop

abbrev geometric_invariant : Form
geometric_invariant = Form.select (Cond.flag 2) (Form.sum (Form.variable 1) one) (Form.variable 1)

abbrev flip_stop : Act
flip_stop = Act.draw 3 ((half, Term.truth (Cond.constant true)) ∷ (half, Term.truth (Cond.constant false)) ∷ []) at

abbrev stop_or_count : Act
stop_or_count = Act.ifs (Arms.arm (Cond.flag 3) (listed (Act.set 2 (Term.truth (Cond.constant false)) at ∷ [])) Arms.no_arm) (listed (Act.set 1 (Term.number (Form.sum (Form.variable 1) one)) at ∷ [])) at

abbrev geometric : TypedProcedure
geometric = record nobody {
  inputs = named 10 Ty.UInt ∷ [];
  outputs = named 11 Ty.UInt ∷ [];
  locals = named 12 Ty.Bool ∷ named 13 Ty.Bool ∷ [];
  pre = Form.sum (Form.variable 0) one;
  post = Form.variable 1;
  body = Some (listed (Act.set 1 (Term.number (Form.variable 0)) at ∷ Act.set 2 (Term.truth (Cond.constant true)) at ∷ Act.loop (record { number = 1; k = 1; inv = geometric_invariant; guard = Cond.flag 2; rank = None; scope = 0 ∷ 1 ∷ 2 ∷ []; span = here }) (listed (flip_stop ∷ stop_or_count ∷ [])) ∷ []));
}

-- The local of the body is not in the loop's scope, so it takes no value before the test.
geometric_loop : encoding [] geometric ≡ listed (
    Act.set 1 (Term.number (Form.variable 0)) at
    ∷ Act.set 2 (Term.truth (Cond.constant true)) at
    ∷ coassert geometric_invariant
    ∷ Act.any 1 true Ty.UInt here ∷ Act.any 2 true Ty.Bool here
    ∷ Act.validate true here
    ∷ coassume geometric_invariant
    ∷ when (Cond.flag 2) (flip_stop ∷ stop_or_count ∷ coassert geometric_invariant ∷ no_more ∷ [])
    ∷ [])
geometric_loop = refl

-- ---- The hop: 0 is x

abbrev pub x_is : Rational → Cond
x_is q = Cond.equal (Form.variable 0) (whole q)

abbrev pub hop_guard : Cond
hop_guard = Cond.or (x_is (ratio (pos 1) 1)) (x_is (ratio (pos 2) 1))

abbrev pub hop_invariant : Form
hop_invariant = Form.select (x_is (ratio (pos 1) 1)) (whole half) (Form.select (x_is (ratio (pos 2) 1)) one (Form.iverson (x_is (ratio (pos 3) 1))))

abbrev pub hop_step : Act
hop_step = Act.ifs (Arms.arm (x_is (ratio (pos 1) 1)) (listed (Act.set 0 (Term.number (whole (ratio (pos 2) 1))) at ∷ [])) Arms.no_arm) (listed (Act.draw 0 ((half, Term.number (whole (ratio (pos 0) 1))) ∷ (half, Term.number (whole (ratio (pos 3) 1))) ∷ []) at ∷ [])) at

-- The head of the hop with `k` copies.
abbrev pub hop_head : ℕ → Head
hop_head k = record { number = 1; k = k; inv = hop_invariant; guard = hop_guard; rank = None; scope = 0 ∷ []; span = here }

abbrev hop : ℕ → TypedProcedure
hop k = record nobody {
  outputs = named 20 Ty.UInt ∷ [];
  body = Some (listed (Act.loop (hop_head k) (listed (hop_step ∷ [])) ∷ []));
}

abbrev before_hop : Act → Acts
before_hop test = listed (coassert hop_invariant ∷ Act.any 0 true Ty.UInt here ∷ Act.validate true here ∷ coassume hop_invariant ∷ test ∷ [])

abbrev last_hop : List Act
last_hop = hop_step ∷ coassert hop_invariant ∷ no_more ∷ []

hop_with_one_copy : encoding [] (hop 1) ≡ before_hop (when hop_guard last_hop)
hop_with_one_copy = refl

hop_with_two_copies : encoding [] (hop 2) ≡ before_hop (when hop_guard (hop_step ∷ assert hop_invariant ∷ when hop_guard last_hop ∷ []))
hop_with_two_copies = refl

hop_with_three_copies : encoding [] (hop 3) ≡ before_hop (when hop_guard (hop_step ∷ assert hop_invariant ∷ when hop_guard (hop_step ∷ assert hop_invariant ∷ when hop_guard last_hop ∷ []) ∷ []))
hop_with_three_copies = refl

-- ---- A loop in a loop, in a proc, and a loop that modifies nothing: 0 and 1 are flags

abbrev over : ℕ → ℕ → Acts → Act
over k x body = Act.loop (record { number = 1; k = k; inv = one; guard = Cond.flag x; rank = None; scope = 0 ∷ 1 ∷ []; span = here }) body

abbrev procedure : Bool → Acts → TypedProcedure
procedure co acts = record nobody { co = co; outputs = named 30 Ty.Bool ∷ named 31 Ty.UInt ∷ []; body = Some acts }

abbrev lower : ℕ → Act
lower x = Act.set x (Term.truth (Cond.constant false)) at

loop_in_a_loop : encoding [] (procedure false (listed (over 2 0 (listed (over 1 1 Acts.done ∷ lower 0 ∷ [])) ∷ []))) ≡ listed (
    assert one ∷ Act.any 0 false Ty.Bool here ∷ Act.validate false here ∷ assume one
    ∷ when (Cond.flag 0) (
    assert one ∷ Act.validate false here ∷ assume one ∷ when (Cond.flag 1) (assert one ∷ no_more_down ∷ []) ∷ lower 0
    ∷ coassert one
    ∷ when (Cond.flag 0) (
    assert one ∷ Act.validate false here ∷ assume one ∷ when (Cond.flag 1) (assert one ∷ no_more_down ∷ []) ∷ lower 0
    ∷ assert one ∷ no_more_down ∷ []
    ) ∷ []
    ) ∷ [])
loop_in_a_loop = refl

-- ---- Calls

-- Two inputs, of which the first is a flag, and two outputs. The pre and the post are over their
-- numbers.
abbrev callee : Bool → TypedProcedure
callee co = record nobody {
  co = co;
  inputs = named 40 Ty.Bool ∷ named 41 Ty.UInt ∷ [];
  outputs = named 42 Ty.UReal ∷ named 43 Ty.Bool ∷ [];
  locals = named 44 Ty.Int ∷ [];
  pre = Form.select (Cond.flag 0) (Form.variable 1) one;
  post = Form.select (Cond.flag 3) (Form.variable 2) (Form.variable 1);
}

-- The variables 0 and 1 take its outputs.
abbrev caller : Bool → TypedProcedure
caller co = record nobody {
  co = co;
  outputs = named 50 Ty.UReal ∷ named 51 Ty.Bool ∷ [];
  body = Some (listed (Act.call (0 ∷ 1 ∷ []) 0 (Term.truth (Cond.flag 1) ∷ Term.number one ∷ []) here ∷ []));
}

-- The variables 2 and 3 are the fresh inputs, 4 and 5 the fresh outputs.
call_in_a_coproc : encoding (callee true ∷ []) (caller true) ≡ listed (
    Act.set 2 (Term.truth (Cond.flag 1)) here ∷ Act.set 3 (Term.number one) here
    ∷ coassert (Form.select (Cond.flag 2) (Form.variable 3) one)
    ∷ Act.any 4 true Ty.UReal here ∷ Act.any 5 true Ty.Bool here
    ∷ Act.validate true here
    ∷ coassume (Form.select (Cond.flag 5) (Form.variable 4) (Form.variable 3))
    ∷ Act.set 0 (Term.number (Form.variable 4)) here ∷ Act.set 1 (Term.truth (Cond.flag 5)) here ∷ [])
call_in_a_coproc = refl

call_in_a_proc : encoding (callee false ∷ []) (caller false) ≡ listed (
    Act.set 2 (Term.truth (Cond.flag 1)) here ∷ Act.set 3 (Term.number one) here
    ∷ assert (Form.select (Cond.flag 2) (Form.variable 3) one)
    ∷ Act.any 4 false Ty.UReal here ∷ Act.any 5 false Ty.Bool here
    ∷ Act.validate false here
    ∷ assume (Form.select (Cond.flag 5) (Form.variable 4) (Form.variable 3))
    ∷ Act.set 0 (Term.number (Form.variable 4)) here ∷ Act.set 1 (Term.truth (Cond.flag 5)) here ∷ [])
call_in_a_proc = refl

variables_of_a_call : all_variables (callee true ∷ []) (caller true) ≡ named 50 Ty.UReal ∷ named 51 Ty.Bool ∷ named 40 Ty.Bool ∷ named 41 Ty.UInt ∷ named 42 Ty.UReal ∷ named 43 Ty.Bool ∷ []
variables_of_a_call = refl

-- A procedure that gives a number.
abbrev source : TypedProcedure
source = record nobody { outputs = named 60 Ty.UInt ∷ []; pre = one; post = Form.variable 0 }

abbrev draw_from : ℕ → Act
draw_from x = Act.call (x ∷ []) 0 [] here

abbrev given : ℕ → ℕ → List Act → List Act
given x fresh rest = coassert one ∷ Act.any fresh true Ty.UInt here ∷ Act.validate true here ∷ coassume (Form.variable fresh) ∷ Act.set x (Term.number (Form.variable fresh)) here ∷ rest

-- Each of two calls has its own fresh variables.
two_calls : encoding (source ∷ []) (procedure true (listed (draw_from 1 ∷ draw_from 1 ∷ []))) ≡ listed (given 1 2 (given 1 3 []))
two_calls = refl

-- So has each call in the arms of an if, in its last block, and in both sides of a choice.
calls_in_blocks : encoding (source ∷ []) (procedure true (listed (Act.ifs (Arms.arm (Cond.flag 0) (listed (draw_from 1 ∷ [])) Arms.no_arm) (listed (draw_from 1 ∷ [])) at ∷ Act.pick true (listed (draw_from 1 ∷ [])) (listed (draw_from 1 ∷ [])) at ∷ [])))
    ≡ listed (Act.ifs (Arms.arm (Cond.flag 0) (listed (given 1 2 [])) Arms.no_arm) (listed (given 1 3 [])) at ∷ Act.pick true (listed (given 1 4 [])) (listed (given 1 5 [])) at ∷ [])
calls_in_blocks = refl

-- Copies share their calls' fresh variables, and the loop's targets are those of its calls.
call_in_copies : encoding (source ∷ []) (procedure true (listed (over 2 0 (listed (draw_from 1 ∷ [])) ∷ draw_from 1 ∷ []))) ≡ listed (
    coassert one ∷ Act.any 1 true Ty.UInt here ∷ Act.validate true here ∷ coassume one
    ∷ when (Cond.flag 0) (given 1 2 (assert one ∷ when (Cond.flag 0) (given 1 2 (coassert one ∷ no_more ∷ [])) ∷ []))
    ∷ given 1 3 [])
call_in_copies = refl

-- ---- A modified variable of each kind: 0 is assigned, 1 is drawn, 2 takes any value, 3 is a
-- call's target, and 4 is none

modified_variables : encoding (source ∷ []) (record nobody {
  outputs = named 70 Ty.Bool ∷ named 71 Ty.UReal ∷ named 72 Ty.Int ∷ named 73 Ty.UInt ∷ named 74 Ty.Bool ∷ [];
  body = Some (listed (Act.loop (record { number = 1; k = 1; inv = one; guard = Cond.flag 4; rank = None; scope = 0 ∷ 1 ∷ 2 ∷ 3 ∷ 4 ∷ []; span = here }) (listed (lower 0 ∷ Act.draw 1 ((ratio (pos 1) 1, Term.number one) ∷ []) at ∷ Act.any 2 true Ty.Int at ∷ draw_from 3 ∷ [])) ∷ []));
}) ≡ listed (
    coassert one
    ∷ Act.any 0 true Ty.Bool here ∷ Act.any 1 true Ty.UReal here ∷ Act.any 2 true Ty.Int here ∷ Act.any 3 true Ty.UInt here
    ∷ Act.validate true here ∷ coassume one
    ∷ when (Cond.flag 4) (lower 0 ∷ Act.draw 1 ((ratio (pos 1) 1, Term.number one) ∷ []) at ∷ Act.any 2 true Ty.Int at ∷ given 3 5 (coassert one ∷ no_more ∷ [])) ∷ [])
modified_variables = refl
