use Rattle.std.proofs.Common.{◌+◌, ap, ◌∙◌}
use Rattle.heylo_formula.specs.PlainTrees.{form_of, cond_of}
use Rattle.vp_generator.proofs.NumberedParts.{select_numbered, ite_numbered, body_numbered}
use Rattle.vp_generator.proofs.numbering.+unbinding.Goals as goal

pub choice-returns-clause-tree : goal.choice-returns-clause-tree
choice-returns-clause-tree t c = select_numbered c.args.scope.now.items c.one_in.new.scope.items c.args.first c.args.found.now.items c.one_in.new.found.items (cond_of c.args.g.now) (form_of c.args.a.now) (form_of c.args.b.now) c.in_ok-test.test c.in_ok-left.left c.in_ok-left.right c.in_ok-test.ensures.scope c.in_ok-test.ensures.found c.in_ok-test.ensures.tree c.in_ok-left.ensures.left c.in_ok-left.ensures.right

pub choice_in-returns-clause-tree : goal.choice_in-returns-clause-tree
choice_in-returns-clause-tree t c = ite_numbered c.args.scope.now.items c.one_in.new.scope.items c.args.first c.args.found.now.items c.one_in.new.found.items (cond_of c.args.g.now) (cond_of c.args.h.now) (cond_of c.args.k.now) c.in_ok-test.test c.in_ok-left.left c.in_ok-left.right c.in_ok-test.ensures.scope c.in_ok-test.ensures.found c.in_ok-test.ensures.tree c.in_ok-left.ensures.left c.in_ok-left.ensures.right

pub body-returns-clause-tree : goal.body-returns-clause-tree
body-returns-clause-tree t c = body_numbered c.args.scope.now.items c.push.new.self.items c.args.var c.args.first (c.args.first + c.len.result) c.args.found.now.items c.push-2.new.self.items c.args.binder (form_of c.args.a.now) (form_of c.in_ok-without.without) (ap (λ n. c.args.first + n) (c.len.ensures ∙ c.args.found.now.ok.0)) c.in_ok-push.ensures.items c.in_ok-push-2.ensures.items c.in_ok-without.ensures.tree
