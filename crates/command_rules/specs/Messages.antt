-- Replies to calls, before they are written. This project's own.
use Rattle.heyvl_places.specs.declared.spans.Span.{Span}
use Rattle.spelled_files.specs.FaultTexts.{source_fault_line}
use Rattle.command_rules.specs.Statuses.{answers_status, fault_status}
use Rattle.command_rules.specs.declared.faults.Fault.TheVariants as faults
use Rattle.command_rules.specs.declared.faults.Fault.{Fault}
use Rattle.std.specs.Prelude.{List, [], ℕ}
use Rattle.verdict_report.specs.declared.answers.Answer.{Answer}

-- A reply: its fault or `Nothing`, the answers on the procedures of a file, the text to write, and
-- the exit status.
pub record Reply : Type 0 where
  pub fault : Fault
  pub answers : List Answer
  pub output : List ℕ
  pub status : ℕ

-- The reply with `text` in place of answers, and with the status of `fault`.
abbrev pub message : Fault → List ℕ → Reply
message fault text = record {
  fault = fault;
  answers = [];
  output = text;
  status = fault_status fault;
}

-- The reply with `text` and `answers`, and with the status of the answers.
abbrev pub answered : List Answer → List ℕ → Reply
answered answers text = record {
  fault = faults.Nothing;
  answers = answers;
  output = text;
  status = answers_status answers;
}

-- The reply with `text` and `status`, without answers.
abbrev pub stated : ℕ → List ℕ → Reply
stated status text = record { fault = faults.Nothing; answers = []; output = text; status = status }

-- `source_fault bytes number place`: the reply with the line on the error `number` at `place` of a
-- file with the bytes `bytes`, in place of answers.
abbrev pub source_fault : List ℕ → ℕ → Span → Reply
source_fault bytes number place =
    message (faults.Source number place) (source_fault_line bytes number place)
