use Rattle.std.proofs.Common.{List, ap, ◌∙◌, ℕ}
use Rattle.std.proofs.lemmas.Result.{IfOk-weaker}
use Rattle.lower_texts.proofs.Procedures.{name_is}
use Rattle.lower_texts.proofs.omega_texts.omega_text.Goals as goal
use Rattle.lower_texts.specs.OmegaTexts.{holds_text}

pub returns-in-Holds : goal.returns-in-Holds
returns-in-Holds c =
    rw c.in-Holds.is (IfOk-weaker c.holds_line.result _ _ (λ text e. e ∙ ap (λ (n : List ℕ). holds_text n) (c.as_bytes.ensures ∙ name_is c.args.typed.now c.args.p c.index.result.now c.requires.first c.index.ensures)) c.holds_line.ensures)
