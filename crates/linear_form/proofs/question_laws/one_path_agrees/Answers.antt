use Rattle.std.proofs.Common.{sym, ◌∙◌}
use Rattle.linear_form.specs.Questions.{questions}
use Rattle.linear_form.proofs.QueryTrees.{path_in, path_taken, one_path}
use Rattle.linear_form.proofs.AgreedEnds.{ends_are_values}
use Rattle.linear_form.proofs.question_laws.one_path_agrees.Goals as goal

pub returns : goal.returns
returns c = record {
  path = λ g s. let t = path_taken (questions g) s in (path_in (questions g) s, record { is_path = t.is_path; agrees = t.agrees; ended = t.ended });
  unique = λ g s ps qs h k. one_path (questions g) s ps h.is_path h.agrees h.ended ∙ sym (one_path (questions g) s qs k.is_path k.agrees k.ended);
  ends = ends_are_values;
}
