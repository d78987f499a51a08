use Rattle.std.proofs.Common.{List, ap, ap₂, codes, ◌∙◌, ℕ}
use Rattle.std.proofs.lemmas.Result.{IfOk-weaker}
use Rattle.lower_texts.proofs.Procedures.{name_is}
use Rattle.lower_texts.proofs.remainder_texts.remainder_text.Goals as goal
use Rattle.lower_texts.specs.RemainderTexts.{bound_text, remainder_line}

pub returns-in-Holds : goal.returns-in-Holds
returns-in-Holds c =
    let first = c.as_bytes-name.ensures ∙ name_is c.args.typed.now c.args.p c.index.result.now c.requires.first c.index.ensures in
    let second = c.as_bytes-other.ensures ∙ name_is c.args.typed.now c.args.q c.index-in-Holds.result.now c.requires.second c.index-in-Holds.ensures in
    rw c.in-Holds.is (IfOk-weaker c.holds_line.result _ _ (λ text e. e ∙ ap₂ (λ (n o : List ℕ). remainder_line n (bound_text o c.in-Holds.step)) first second) c.holds_line.ensures)

pub returns-in-NotVerified : goal.returns-in-NotVerified
returns-in-NotVerified c =
    let first = c.as_bytes-name.ensures ∙ name_is c.args.typed.now c.args.p c.index.result.now c.requires.first c.index.ensures in
    rw c.in-NotVerified.is (IfOk-weaker c.line.result _ _ (λ text e. e ∙ ap (λ (n : List ℕ). remainder_line n (codes "not verified")) first) c.line.ensures)

pub returns-in-NotRanked : goal.returns-in-NotRanked
returns-in-NotRanked c =
    let first = c.as_bytes-name.ensures ∙ name_is c.args.typed.now c.args.p c.index.result.now c.requires.first c.index.ensures in
    rw c.in-NotRanked.is (IfOk-weaker c.line-in-NotRanked.result _ _ (λ text e. e ∙ ap (λ (n : List ℕ). remainder_line n (codes "not ranked")) first) c.line-in-NotRanked.ensures)
