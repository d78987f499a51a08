use Rattle.std.proofs.Common.{arith, ◌≡◌, ◌∷◌, Some, None, sym, subst}
use Rattle.std.proofs.lemmas.Grind.{common_steps}
use Rattle.cert_text.specs.Lines.{Line}
use Rattle.cert_text.specs.internal.ReadStates.{state_of, line_of, next}
use Rattle.cert_text.proofs.EndAnswers.{stuck_refused}
use Rattle.cert_text.proofs.reader.longer_line.Goals as goal

pub returns-in_default-2 : goal.returns-in_default-2
returns-in_default-2 c =
    let q : c.cut.result.1.now ≡ c.in-Some.field-0-0.now ∷ c.in-Some.behind.now = grind (arith, common_steps) in
    stuck_refused c.args.rest.now c.cut.result.0.now c.cut.result.1.now c.in-Some.field-0-0.now c.in-Some.behind.now (state_of c.args.reading.now) (state_of c.args.reading.now)
    c.cut.ensures.parts c.cut.ensures.from_mark q c.cut.ensures.before
    (λ l k t. let n : None ≡ Some l = rw c.in_default-2.is at (c.in_ok-line.ensures.only l k t) in absurd (cc))

pub returns-else-branch : goal.returns-else-branch
returns-else-branch c =
    let q : c.cut.result.1.now ≡ c.in-Some.field-0-0.now ∷ c.in-Some.behind.now = grind (arith, common_steps) in
    let none : None ≡ next (state_of c.args.reading.now) (line_of c.in-Some-2.line) = rw c.if-branch.false at c.in_ok-next.ensures in
    stuck_refused c.args.rest.now c.cut.result.0.now c.cut.result.1.now c.in-Some.field-0-0.now c.in-Some.behind.now (state_of c.args.reading.now) (state_of c.next.new.reading)
    c.cut.ensures.parts c.cut.ensures.from_mark q c.cut.ensures.before
    (λ l k t.
    let n : Some (line_of c.in-Some-2.line) ≡ Some l = rw c.in-Some-2.is at (c.in_ok-line.ensures.only l k t) in
    let same : line_of c.in-Some-2.line ≡ l = cc in
    let P : Line → Type 0 = λ m. None ≡ next (state_of c.args.reading.now) m in
    sym (subst P same none))
