use Rattle.heyvl_parse.proofs.SequelLaws.{beside_gives, beside_shorter}
use Rattle.heyvl_parse.proofs.procedures.ends.Goals as goal
use Rattle.heyvl_parse.specs.internal.Procedures.{params}
use Rattle.heyvl_syntax.specs.declared.procedures.Param.{Param}
use Rattle.std.proofs.Common.{Global, Vec, arith, length}
use Rattle.std.proofs.lemmas.Grind.{common_steps}

pub returns-in_err-rest-clause-value : goal.returns-in_err-rest-clause-value
returns-in_err-rest-clause-value c = λ n h. rw (c.in_ok-inputs.ensures.value n h) (grind (arith, common_steps, c.in_err-rest.ensures.value))

pub returns-clause-value : goal.returns-clause-value
returns-clause-value c = λ n h. rw (c.in_ok-inputs.ensures.value n h, c.in_ok-rest.ensures.value) (beside_gives (λ (x : Vec Param Global). x.items) (λ (x : Vec Param Global). x.items) c.in_ok-inputs.inputs c.params-2.result c.beside.result (params n c.in_ok-rest.rest.now) c.beside.ensures (c.params-2.ensures.value n (omega (arith, c.in_ok-inputs.ensures.shorter, c.in_ok-rest.ensures.shorter))))

pub returns-clause-shorter : goal.returns-clause-shorter
returns-clause-shorter c = beside_shorter c.in_ok-inputs.inputs c.params-2.result c.beside.result (length c.args.tokens.now) (length c.in_ok-rest.rest.now) c.beside.ensures (omega (arith, c.in_ok-inputs.ensures.shorter, c.in_ok-rest.ensures.shorter)) c.params-2.ensures.shorter
