use Rattle.run_script.proofs.ReaderAnswers.{is_fault, is_script}
use Rattle.run_script.proofs.reader.read_script.Goals as goal
use Rattle.run_script.specs.Lines.{text_lines}
use Rattle.run_script.specs.PlainScripts.{known_in, script_of}
use Rattle.run_script.specs.Scripts.{AreLinesOf}
use Rattle.run_script.specs.internal.ReadLines.{IsStopOf, bytes_of}
use Rattle.std.proofs.Common.{ap, subst, ◌∙◌, ◌≡◌}
use Rattle.std.specs.Prelude.{IfErr, IfOk}

pub returns-clause-only : goal.returns-clause-only
returns-clause-only c =
    let lines : bytes_of c.deref.result.now ≡ text_lines c.args.bytes.now = ap bytes_of c.deref.ensures.value ∙ c.in_ok-lines.ensures.value in
    is_script (known_in c.args.known) (text_lines c.args.bytes.now) c.script_of_lines.result
    (subst (λ ls. IfOk c.script_of_lines.result (λ script. AreLinesOf (known_in c.args.known) (script_of script) ls)) lines c.script_of_lines.ensures.found)
    (subst (λ ls. IfErr c.script_of_lines.result (λ stop. IsStopOf (known_in c.args.known) ls stop)) lines c.script_of_lines.ensures.fault)

pub returns-clause-only_fault : goal.returns-clause-only_fault
returns-clause-only_fault c =
    let lines : bytes_of c.deref.result.now ≡ text_lines c.args.bytes.now = ap bytes_of c.deref.ensures.value ∙ c.in_ok-lines.ensures.value in
    is_fault (known_in c.args.known) (text_lines c.args.bytes.now) c.script_of_lines.result
    (subst (λ ls. IfOk c.script_of_lines.result (λ script. AreLinesOf (known_in c.args.known) (script_of script) ls)) lines c.script_of_lines.ensures.found)
    (subst (λ ls. IfErr c.script_of_lines.result (λ stop. IsStopOf (known_in c.args.known) ls stop)) lines c.script_of_lines.ensures.fault)
