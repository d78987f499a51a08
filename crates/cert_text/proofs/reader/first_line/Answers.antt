use Rattle.std.proofs.Common.{arith, ◌≡◌, ◌<◌, ◌^◌, ◌∷◌, ℤ, Some, None, ap, ◌∙◌, refl, sym, unsigned_abs, to_z, of_z}
use Rattle.std.proofs.lemmas.Grind.{common_steps}
use Rattle.std.specs.Int.{w64}
use Rattle.cert_text.specs.Lines.{split, plain, whole}
use Rattle.cert_text.specs.internal.ReadStates.{state_of, next}
use Rattle.cert_text.proofs.EndAnswers.{stuck_split, stuck_plain, step_whole, stuck_whole}
use Rattle.cert_text.proofs.Decimals.{bits_stand}
use Rattle.cert_text.proofs.reader.first_line.Goals as goal

pub returns-else-branch : goal.returns-else-branch
returns-else-branch c =
    let q : c.args.rest.now ≡ 115 ∷ 10 ∷ c.in-Some.behind.now = grind (arith, common_steps) in
    let none : None ≡ next (state_of c.args.reading.now) split = rw c.if-branch.false at c.in_ok-next_split.ensures in
    stuck_split c.args.rest.now c.in-Some.behind.now (state_of c.args.reading.now) (state_of c.next_split.new.reading) q (sym none)

pub returns-else-branch-2 : goal.returns-else-branch-2
returns-else-branch-2 c =
    let q : c.args.rest.now ≡ 116 ∷ 10 ∷ c.in-Some-strip_prefix.behind.now = grind (arith, common_steps) in
    let none : None ≡ next (state_of c.args.reading.now) plain = rw c.if-branch-2.false at c.in_ok-next_plain.ensures in
    stuck_plain c.args.rest.now c.in-Some-strip_prefix.behind.now (state_of c.args.reading.now) (state_of c.next_plain.new.reading) q (sym none)

pub returns-then-branch-3 : goal.returns-then-branch-3
returns-then-branch-3 c =
    let v = c.in-Some-front_split.ensures.valid in
    let short : unsigned_abs c.in-Some-front_split.bound < 2 ^ 63 = omega (arith, v.number) in
    let some : Some (state_of c.next_whole.new.reading) ≡ next (state_of c.args.reading.now) (whole c.in-Some-front_split.variable (to_z w64 (of_z w64 c.in-Some-front_split.bound))) = rw c.if-branch-3.true at c.in_ok-next_whole.ensures in
    step_whole c.args.rest.now c.in-Some-front_split.behind.now (state_of c.args.reading.now) (state_of c.next_whole.new.reading) c.in-Some-front_split.variable c.in-Some-front_split.bound v c.in-Some-front_split.ensures.text
    (sym (some ∙ ap (λ (z : ℤ). next (state_of c.args.reading.now) (whole c.in-Some-front_split.variable z)) (bits_stand _ c.in-Some-front_split.bound refl short)))

pub returns-else-branch-3 : goal.returns-else-branch-3
returns-else-branch-3 c =
    let v = c.in-Some-front_split.ensures.valid in
    let short : unsigned_abs c.in-Some-front_split.bound < 2 ^ 63 = omega (arith, v.number) in
    let none : None ≡ next (state_of c.args.reading.now) (whole c.in-Some-front_split.variable (to_z w64 (of_z w64 c.in-Some-front_split.bound))) = rw c.if-branch-3.false at c.in_ok-next_whole.ensures in
    stuck_whole c.args.rest.now c.in-Some-front_split.behind.now (state_of c.args.reading.now) (state_of c.next_whole.new.reading) c.in-Some-front_split.variable c.in-Some-front_split.bound v c.in-Some-front_split.ensures.text
    (sym (none ∙ ap (λ (z : ℤ). next (state_of c.args.reading.now) (whole c.in-Some-front_split.variable z)) (bits_stand _ c.in-Some-front_split.bound refl short)))
