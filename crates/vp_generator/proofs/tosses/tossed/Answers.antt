use Rattle.heylo_formula.specs.Formula.{Form}
use Rattle.heylo_formula.specs.PlainTrees.{form_of}
use Rattle.heylo_graph.specs.Trees.{Tree}
use Rattle.heylo_graph.proofs.exported.LongerLists.{stands_longer}
use Rattle.heyvl_num.specs.Value.{oneᵛ}
use Rattle.vp_generator.proofs.GeneratorSteps.{toss_ready}
use Rattle.vp_generator.proofs.GraphForms.{ready_longer}
use Rattle.vp_generator.proofs.tosses.tossed.Goals as goal

pub both_sides-requires-clause-ready : goal.both_sides-requires-clause-ready
both_sides-requires-clause-ready c = ready_longer c.args.most _ c.at_most_one.new.graph c.rest_of_one.new.graph c.args.form c.in_ok-tails.ensures.begins (ready_longer c.args.most _ c.args.graph.now c.at_most_one.new.graph c.args.form c.in_ok-heads.ensures.begins (toss_ready c.args.most c.args.var (form_of c.args.weight.now) c.args.graph.now c.args.form c.requires.ready))

pub both_sides-requires-clause-heads : goal.both_sides-requires-clause-heads
both_sides-requires-clause-heads c =
    let least = Form.min (form_of c.args.weight.now) (Form.number oneᵛ) in
    record { form = least; stands = stands_longer c.at_most_one.new.graph c.rest_of_one.new.graph c.in_ok-heads.heads (Tree.formula least) c.in_ok-tails.ensures.begins c.in_ok-heads.ensures.tree }

pub returns-clause-made : goal.returns-clause-made
returns-clause-made c = λ k s.
    let least = Form.min (form_of c.args.weight.now) (Form.number oneᵛ) in
    let one = Form.number oneᵛ in
    c.both_sides.ensures.made k least (Form.cut one least) (stands_longer c.at_most_one.new.graph c.rest_of_one.new.graph c.args.form (Tree.formula k) c.in_ok-tails.ensures.begins (stands_longer c.args.graph.now c.at_most_one.new.graph c.args.form (Tree.formula k) c.in_ok-heads.ensures.begins s)) (stands_longer c.at_most_one.new.graph c.rest_of_one.new.graph c.in_ok-heads.heads (Tree.formula least) c.in_ok-tails.ensures.begins c.in_ok-heads.ensures.tree) (c.in_ok-tails.ensures.tree least c.in_ok-heads.ensures.tree)
