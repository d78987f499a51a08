use Rattle.heyvl_acts.specs.PlainActs.{procedures_of}
use Rattle.refute_runs.proofs.OfRuns.{answers, numbers, violation}
use Rattle.refute_runs.proofs.violation_search.refute.Goals as goal
use Rattle.std.proofs.lemmas.Result.{IfOk-weaker}

pub returns-clause-answer : goal.returns-clause-answer
returns-clause-answer c =
    let ps = procedures_of c.args.typed.now in
    IfOk-weaker c.answer.result _ _ (λ r h. answers c.unrolled_sums_are_meant.ensures c.scripted_sums_grow.ensures c.exact_values_are_meant.ensures.value ps c.args.p c.requires.rules.each c.requires.programs c.args.state.now c.requires.state c.args.script.now c.args.n r h.may h.no_pre) c.answer.ensures

pub returns-clause-violation : goal.returns-clause-violation
returns-clause-violation c =
    let ps = procedures_of c.args.typed.now in
    IfOk-weaker c.answer.result _ _ (λ r h. violation c.unrolled_sums_are_meant.ensures c.scripted_sums_grow.ensures c.exact_values_are_meant.ensures.value ps c.args.p c.requires.rules.each c.requires.programs c.args.state.now c.requires.state c.args.script.now c.violations_refute.ensures c.requires.coproc c.args.n r h.may) c.answer.ensures

pub returns-clause-numbers : goal.returns-clause-numbers
returns-clause-numbers c =
    let ps = procedures_of c.args.typed.now in
    IfOk-weaker c.answer.result _ _ (λ r h. numbers c.unrolled_sums_are_meant.ensures c.scripted_sums_grow.ensures c.exact_values_are_meant.ensures.value ps c.args.p c.requires.rules.each c.requires.programs c.args.state.now c.requires.state c.args.script.now c.args.n r h.may) c.answer.ensures
