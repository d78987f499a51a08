use Rattle.heylo_formula.specs.PlainTrees.{form_of}
use Rattle.heyvl_acts.specs.Acts.{procedure_at}
use Rattle.heyvl_acts.specs.PlainActs.{acts_of, procedures_of}
use Rattle.vp_generator.specs.PrenexedGoals.{IsMadeWithin}
use Rattle.ranking_rule.specs.RankingGoals.{generated}
use Rattle.lower_goals.specs.StartGoals.{start_goal}
use Rattle.lower_goals.proofs.MadeStarts.{whole_goal}
use Rattle.std.proofs.lemmas.Result.{IfOk-weaker}
use Rattle.lower_goals.proofs.remainder_goals.remainder_goal.Goals as goal

pub unreachable-requires : goal.unreachable-requires
unreachable-requires c = c.in-None.ensures c.requires.pair

pub returns : goal.returns
returns c = λ l.
    let p = procedure_at (procedures_of c.args.typed.now) c.args.p in
    let q = procedure_at (procedures_of c.args.typed.now) c.args.q in
    let parts = c.in-Some.parts in
    IfOk-weaker c.made_of.result (λ m. IsMadeWithin (generated (acts_of parts.front.now) (parts.step, form_of parts.ranking.now)) (start_goal p (acts_of parts.front.now) (parts.step, form_of parts.ranking.now) q.pre) m) (λ m. IsMadeWithin (generated l.loop.front l.rank) (start_goal p l.loop.front l.rank q.pre) m) (λ m h. whole_goal p q parts c.in-Some.ensures l m h) c.made_of.ensures
