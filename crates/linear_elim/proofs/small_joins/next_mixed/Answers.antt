use Rattle.std.proofs.Common.{arith, rules, FitsSigned, get_or, ◌∙◌}
use Rattle.std.proofs.lemmas.Int.{to_z-of_z}
use mir.Syntax.{w64}
use Rattle.std.specs.Prelude.{pos}
use Rattle.linear_elim.proofs.MixedTerms.{first_lower, first_alone, second_lower, second_alone, both_level}
use Rattle.linear_elim.proofs.small_joins.next_mixed.Goals as goal

pub returns-then-v-w : goal.returns-then-v-w
returns-then-v-w c =
    let x : FitsSigned w64 (get_or c.args.a.now c.args.i (0, pos 0)).1 = search rules in
    let y : FitsSigned w64 c.product.result = search rules in
    let e = simp to_z-of_z at c.product.ensures.value in
    record { next = first_lower _ _ _ _ _ _ _ _ c.if-i-a.true c.if-j-b.true c.requires.left_normal c.requires.right_normal c.if-v-w.true (to_z-of_z w64 _ y ∙ e) }

pub returns-then-w-v : goal.returns-then-w-v
returns-then-w-v c =
    let z : FitsSigned w64 (get_or c.args.b.now c.args.j (0, pos 0)).1 = search rules in
    let y : FitsSigned w64 c.product-then-w-v.result = search rules in
    let e = simp to_z-of_z at c.product-then-w-v.ensures.value in
    record { next = second_lower _ _ _ _ _ _ _ _ c.requires.q_positive c.if-i-a.true c.if-j-b.true c.requires.left_normal c.requires.right_normal c.if-w-v.true (to_z-of_z w64 _ y ∙ e) }

pub returns-else-w-v : goal.returns-else-w-v
returns-else-w-v c =
    let x : FitsSigned w64 (get_or c.args.a.now c.args.i (0, pos 0)).1 = search rules in
    let z : FitsSigned w64 (get_or c.args.b.now c.args.j (0, pos 0)).1 = search rules in
    let y : FitsSigned w64 c.products.result = search rules in
    let e = simp to_z-of_z at c.products.ensures in
    record { next = both_level _ _ _ _ _ _ _ _ c.requires.q_positive c.if-i-a.true c.if-j-b.true c.requires.left_normal c.requires.right_normal (omega arith) (to_z-of_z w64 _ y ∙ e) }

pub returns-else-j-b : goal.returns-else-j-b
returns-else-j-b c =
    let x : FitsSigned w64 (get_or c.args.a.now c.args.i (0, pos 0)).1 = search rules in
    let y : FitsSigned w64 c.product-else-j-b.result = search rules in
    let e = simp to_z-of_z at c.product-else-j-b.ensures.value in
    record { next = first_alone _ _ _ _ _ _ _ _ c.if-i-a.true c.requires.right_within c.if-j-b.false c.requires.left_normal c.requires.right_normal (to_z-of_z w64 _ y ∙ e) }

pub returns-else-i-a : goal.returns-else-i-a
returns-else-i-a c =
    let z : FitsSigned w64 (get_or c.args.b.now c.args.j (0, pos 0)).1 = search rules in
    let y : FitsSigned w64 c.product-else-i-a.result = search rules in
    let e = simp to_z-of_z at c.product-else-i-a.ensures.value in
    record { next = second_alone _ _ _ _ _ _ _ _ c.requires.q_positive c.requires.left_within c.if-i-a.false (omega arith) c.requires.left_normal c.requires.right_normal (to_z-of_z w64 _ y ∙ e) }
