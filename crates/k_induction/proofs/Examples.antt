-- The copies of small loops, written out by hand.
use Rattle.std.proofs.Common.{◌≡◌, refl, true, false, [], ◌∷◌, pos}
use Rattle.heyvl_num.specs.Rational.{Rational, ratio}
use Rattle.heyvl_num.specs.Value.{oneᵛ}
use Rattle.heyvl_num.specs.Value.Value.{finite}
use Rattle.heyvl_places.specs.declared.spans.Span.{Span}
use Rattle.heyvl_places.specs.declared.checks.CheckKind.{CheckKind}
use Rattle.heylo_formula.specs.Formula.{Form, Cond, Term}
use Rattle.heyvl_acts.specs.Acts.{Act, Acts, Arms}
use Rattle.k_induction.specs.Copies.{copies}

abbrev here : Span
here = record { from = 3; to = 9 }

abbrev at : Span
at = record { from = 1; to = 2 }

-- ---- The geometric loop: 1 is c, 2 is cont and 3 is stop

abbrev half : Rational
half = ratio (pos 1) 2

abbrev one : Form
one = Form.number oneᵛ

abbrev geometric_invariant : Form
geometric_invariant = Form.select (Cond.flag 2) (Form.sum (Form.variable 1) one) (Form.variable 1)

abbrev flip_stop : Act
flip_stop = Act.draw 3 ((half, Term.truth (Cond.constant true)) ∷ (half, Term.truth (Cond.constant false)) ∷ []) at

abbrev stop_or_count : Act
stop_or_count = Act.ifs (Arms.arm (Cond.flag 3) (Acts.next (Act.set 2 (Term.truth (Cond.constant false)) at) Acts.done) Arms.no_arm) (Acts.next (Act.set 1 (Term.number (Form.sum (Form.variable 1) one)) at) Acts.done) at

geometric_one_copy : copies true here (Cond.flag 2) geometric_invariant (Acts.next flip_stop (Acts.next stop_or_count Acts.done)) 1
    ≡ Acts.next flip_stop (Acts.next stop_or_count (Acts.next (Act.check CheckKind.CoAssert geometric_invariant here) (Acts.next (Act.check CheckKind.CoAssume (Form.embed (Cond.constant true)) here) Acts.done)))
geometric_one_copy = refl

-- ---- The hop: 0 is x

abbrev whole : Rational → Form
whole q = Form.number (finite q)

abbrev x_is : Rational → Cond
x_is q = Cond.equal (Form.variable 0) (whole q)

abbrev hop_guard : Cond
hop_guard = Cond.or (x_is (ratio (pos 1) 1)) (x_is (ratio (pos 2) 1))

abbrev hop_invariant : Form
hop_invariant = Form.select (x_is (ratio (pos 1) 1)) (whole half) (Form.select (x_is (ratio (pos 2) 1)) one (Form.iverson (x_is (ratio (pos 3) 1))))

abbrev hop_step : Act
hop_step = Act.ifs (Arms.arm (x_is (ratio (pos 1) 1)) (Acts.next (Act.set 0 (Term.number (whole (ratio (pos 2) 1))) at) Acts.done) Arms.no_arm) (Acts.next (Act.draw 0 ((half, Term.number (whole (ratio (pos 0) 1))) ∷ (half, Term.number (whole (ratio (pos 3) 1))) ∷ []) at) Acts.done) at

abbrev hop_last : Acts
hop_last = Acts.next hop_step (Acts.next (Act.check CheckKind.CoAssert hop_invariant here) (Acts.next (Act.check CheckKind.CoAssume (Form.embed (Cond.constant true)) here) Acts.done))

hop_one_copy : copies true here hop_guard hop_invariant (Acts.next hop_step Acts.done) 1 ≡ hop_last
hop_one_copy = refl

hop_two_copies : copies true here hop_guard hop_invariant (Acts.next hop_step Acts.done) 2
    ≡ Acts.next hop_step (Acts.next (Act.check CheckKind.Assert hop_invariant here) (Acts.next (Act.ifs (Arms.arm hop_guard hop_last Arms.no_arm) Acts.done here) Acts.done))
hop_two_copies = refl

-- ---- Three copies of an empty body in a proc

abbrev while_flag : Acts → Act
while_flag acts = Act.ifs (Arms.arm (Cond.flag 0) acts Arms.no_arm) Acts.done here

three_copies : copies false here (Cond.flag 0) one Acts.done 3
    ≡ Acts.next (Act.check CheckKind.CoAssert one here) (Acts.next (while_flag (
    Acts.next (Act.check CheckKind.CoAssert one here) (Acts.next (while_flag (
    Acts.next (Act.check CheckKind.Assert one here) (Acts.next (Act.check CheckKind.Assume (Form.embed (Cond.constant false)) here) Acts.done)
    )) Acts.done)
    )) Acts.done)
three_copies = refl
