use Rattle.std.proofs.Common.{arith, rules, FitsSigned, get_or}
use Rattle.std.proofs.lemmas.Int.{to_z-of_z}
use mir.Syntax.{w128}
use Rattle.std.specs.Prelude.{pos}
use Rattle.linear_rows.proofs.TermWalks.{first_lower, first_alone, second_lower, second_alone, both_level, wide_sum, read_wide}
use Rattle.linear_rows.proofs.terms.next_term.Goals as goal

pub returns-then-v-w : goal.returns-then-v-w
returns-then-v-w c =
    let x : FitsSigned w128 (get_or c.args.a.now c.args.i (0, pos 0)).1 = search rules in
    record { next = first_lower _ _ _ _ _ _ c.if-i-a.true c.if-j-b.true c.requires.left_normal c.requires.right_normal c.if-v-w.true (to_z-of_z w128 _ x) }

pub returns-then-w-v : goal.returns-then-w-v
returns-then-w-v c =
    let x : FitsSigned w128 (get_or c.args.b.now c.args.j (0, pos 0)).1 = search rules in
    record { next = second_lower _ _ _ _ _ _ c.if-i-a.true c.if-j-b.true c.requires.left_normal c.requires.right_normal c.if-w-v.true (to_z-of_z w128 _ x) }

pub returns-else-w-v : goal.returns-else-w-v
returns-else-w-v c = record { next = both_level _ _ _ _ _ _ c.if-i-a.true c.if-j-b.true c.requires.left_normal c.requires.right_normal (omega arith) (wide_sum (get_or c.args.a.now c.args.i (0, pos 0)).1 (get_or c.args.b.now c.args.j (0, pos 0)).1 (read_wide _ c.args.i (0, pos 0) c.if-i-a.true c.requires.left_wide) (read_wide _ c.args.j (0, pos 0) c.if-j-b.true c.requires.right_wide)) }

pub returns-else-j-b : goal.returns-else-j-b
returns-else-j-b c =
    let x : FitsSigned w128 (get_or c.args.a.now c.args.i (0, pos 0)).1 = search rules in
    record { next = first_alone _ _ _ _ _ _ c.if-i-a.true c.requires.right_within c.if-j-b.false c.requires.left_normal c.requires.right_normal (to_z-of_z w128 _ x) }

pub returns-else-i-a : goal.returns-else-i-a
returns-else-i-a c =
    let x : FitsSigned w128 (get_or c.args.b.now c.args.j (0, pos 0)).1 = search rules in
    record { next = second_alone _ _ _ _ _ _ c.requires.left_within c.if-i-a.false (omega arith) c.requires.left_normal c.requires.right_normal (to_z-of_z w128 _ x) }
