use Rattle.verify_core.proofs.reached_answers.answer.Goals as goal

pub returns : goal.returns
returns c = λ table ranks o m. record {
  name = o.name;
  verdict = c.in_ok-verdict.ensures table o.verdict m;
  loops = o.loops;
}
