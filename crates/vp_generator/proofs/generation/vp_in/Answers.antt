use Rattle.std.proofs.Common.{rules, ◌≡◌, true, false}
use Rattle.std.specs.Prelude.{is_err}
use Rattle.heyvl_acts.specs.PlainActs.{acts_of}
use Rattle.vp_generator.specs.GeneratedForms.{vp}
use Rattle.vp_generator.proofs.GraphForms.{cut_answer, grown_answer}
use Rattle.vp_generator.proofs.generation.vp_in.Goals as goal

pub returns-then-is_err : goal.returns-then-is_err
returns-then-is_err c = λ k s.
    let e : is_err c.from_post-result.result ≡ true = search rules in
    cut_answer c.args.most c.args.graph.now c.from_post-result.new.graph c.cut.new.self (vp (acts_of c.args.acts.now) k) c.from_post-result.result c.len-len.result e c.len-len.ensures.len c.from_post-result.ensures.begins c.cut.ensures (c.from_post-result.ensures.made k s)

pub returns-else-is_err : goal.returns-else-is_err
returns-else-is_err c = λ k s.
    let e : is_err c.from_post-result.result ≡ false = search rules in
    grown_answer c.args.most c.args.graph.now c.from_post-result.new.graph (vp (acts_of c.args.acts.now) k) c.from_post-result.result e c.from_post-result.ensures.begins (c.from_post-result.ensures.made k s)
