use Rattle.std.proofs.Common.{arith, refl, false}
use Rattle.linear_form.specs.PlainPaths.{path_of}
use Rattle.region_split.proofs.Steps.{path_length, next_branch, question_finished, question_closed, all_finished}
use Rattle.region_split.proofs.ascent.climb.Goals as goal

pub returns-in_default : goal.returns-in_default
returns-in_default c g all h a =
    let r = c.up.invariant g all h a in
    all_finished g all (path_of c.args.trail.now.path.items) c.up.trail c.up.trees.items c.up.tree r (rw c.in_default.is at (c.back.ensures.back g r.rises))

pub returns-in-Open : goal.returns-in-Open
returns-in-Open c g all h a =
    let r = c.up.invariant g all h a in
    let b = rw c.in-Some.is at (c.back.ensures.back g r.rises) in
    next_branch g all (path_of c.args.trail.now.path.items) c.up.trail c.back.new.trail c.onward.new.trail c.up.trees.items c.push.new.self.items c.up.tree c.in-Some.answer (record { atom = c.in-Some.answer.atom; held = false }) r b.path c.if-not-held.false (c.in_ok-onward-in-Open.ensures g b.rises (rw c.in-Open.is at b.asked)) refl refl c.in_ok-push-in-Open.ensures.items

pub up-preserved-then-not-held : goal.up-preserved-then-not-held
up-preserved-then-not-held c g all h a =
    let r = c.up.invariant g all h a in
    let b = rw c.in-Some.is at (c.back.ensures.back g r.rises) in
    question_finished g all (path_of c.args.trail.now.path.items) c.up.trail c.back.new.trail c.up.trees.items c.pop.new.self.items c.up.tree c.in_ok-tree.tree c.pop.result c.flatten.result c.in-Some.answer r b.rises b.path c.if-not-held.true (λ e. let k = rw e at c.pop.ensures.cases in let t = c.up.trees.ok.0 in omega (arith, k, t)) c.pop.ensures.items c.flatten.ensures (λ ps q m x y. c.in_ok-tree.ensures g ps q m x y)

pub up-smaller-then-not-held : goal.up-smaller-then-not-held
up-smaller-then-not-held c = rw c.in-Some.is at c.back.ensures.shorter

pub up-preserved-in_ok-tree-in-Closed : goal.up-preserved-in_ok-tree-in-Closed
up-preserved-in_ok-tree-in-Closed c g all h a =
    let r = c.up.invariant g all h a in
    let b = rw c.in-Some.is at (c.back.ensures.back g r.rises) in
    let m = c.len-answers.ensures in
    let o = c.up.trail.path.ok.0 in
    question_closed g all (path_of c.args.trail.now.path.items) c.up.trail c.back.new.trail c.up.trees.items c.up.tree c.leaf.result c.in_ok-tree-in-Closed.tree c.in-Some.answer c.in-Closed.multipliers c.len-answers.result r b.rises b.path c.if-not-held.false (rw c.in-Closed.is at b.asked) (path_length c.up.trail.path.items c.len-answers.result (omega (arith, m, o))) c.leaf.ensures (λ ps q m x y. c.in_ok-tree-in-Closed.ensures g ps q m x y)

pub up-smaller-in_ok-tree-in-Closed : goal.up-smaller-in_ok-tree-in-Closed
up-smaller-in_ok-tree-in-Closed c = rw c.in-Some.is at c.back.ensures.shorter

pub up-preserved : goal.up-preserved
up-preserved c g all h a =
    let r = c.up.invariant g all h a in
    let b = rw c.in-Some.is at (c.back.ensures.back g r.rises) in
    let m = c.len-answers.ensures in
    let o = c.up.trail.path.ok.0 in
    question_closed g all (path_of c.args.trail.now.path.items) c.up.trail c.back.new.trail c.up.trees.items c.up.tree c.leaf.result c.in_ok-tree-in-Closed.tree c.in-Some.answer c.in-Closed.multipliers c.len-answers.result r b.rises b.path c.if-not-held.false (rw c.in-Closed.is at b.asked) (path_length c.up.trail.path.items c.len-answers.result (omega (arith, m, o))) c.leaf.ensures (λ ps q m x y. c.in_ok-tree-in-Closed.ensures g ps q m x y)

pub up-smaller : goal.up-smaller
up-smaller c = rw c.in-Some.is at c.back.ensures.shorter
