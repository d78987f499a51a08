-- The definitions, computed for small lists.
use Rattle.std.proofs.Common.{◌≡◌, ℕ, [], ◌∷◌, pos, negsuc, true, false, codes, refl}
use Rattle.std.specs.Fmt.{digits}
use Rattle.heylo_formula.specs.declared.goals.GoalId.{GoalId}
use Rattle.heylo_formula.specs.declared.goals.GoalId.TheVariants as ids
use Rattle.goal_answers.specs.Trees.{Tree, depth}
use Rattle.cert_text.specs.declared.goal_names.GoalName.{GoalName}
use Rattle.heylo_formula.specs.GoalOrder.{stands_before}
use Rattle.cert_text.specs.Certificates.{Certificate, precedes}
use Rattle.cert_text.specs.Texts.{text_of}

abbrev named : ℕ → GoalId → Tree → Certificate
named p i t = record { name = record { proc = p; id = i }; tree = t }

no_certificate : text_of [] ≡ codes "caesar certificate 1\nend\n"
no_certificate = refl

a_coin : text_of (named 0 ids.Main (Tree.farkas ((0, 1) ∷ [])) ∷ []) ≡ codes "caesar certificate 1\ngoal 0 main\nf 0:1\nend\n"
unfolding digits
a_coin = refl

a_dropped_front : text_of (named 0 ids.Main (Tree.split (Tree.farkas ((0, 1) ∷ (2, 1) ∷ [])) (Tree.farkas ((1, 1) ∷ []))) ∷ []) ≡ codes "caesar certificate 1\ngoal 0 main\ns\nf 0:1 2:1\nf 1:1\nend\n"
unfolding digits
a_dropped_front = refl

two_goals : text_of (named 3 (ids.Invariant 12) Tree.plain ∷ named 10 (ids.Ranking 1) Tree.plain ∷ []) ≡ codes "caesar certificate 1\ngoal 3 invariant 12\nt\ngoal 10 ranking 1\nt\nend\n"
unfolding digits
two_goals = refl

a_whole_split : text_of (named 0 ids.Main (Tree.whole 0 (pos 0) (Tree.farkas ((0, 1) ∷ (2, 1) ∷ (3, 2) ∷ [])) (Tree.farkas ((1, 1) ∷ (2, 1) ∷ (3, 2) ∷ []))) ∷ [])
    ≡ codes "caesar certificate 2\ngoal 0 main\ni 0 0\nf 0:1 2:1 3:2\nf 1:1 2:1 3:2\nend\n"
unfolding digits
a_whole_split = refl

below_zero : text_of (named 0 ids.Main Tree.plain ∷ named 1 ids.Main (Tree.split Tree.plain (Tree.whole 12 (negsuc 6) Tree.plain Tree.plain)) ∷ [])
    ≡ codes "caesar certificate 2\ngoal 0 main\nt\ngoal 1 main\ns\nt\ni 12 -7\nt\nt\nend\n"
unfolding digits
below_zero = refl

a_leaf : depth Tree.plain ≡ 1
a_leaf = refl

a_question : depth (Tree.split Tree.plain (Tree.split Tree.plain Tree.plain)) ≡ 3
a_question = refl

invariants_by_number : stands_before (ids.Invariant 1) (ids.Invariant 2) ≡ true
invariants_by_number = refl

invariants_before_rankings : stands_before (ids.Invariant 2) (ids.Ranking 1) ≡ true
invariants_before_rankings = refl

pre_not_before_main : stands_before ids.Pre ids.Main ≡ false
pre_not_before_main = refl

not_before_itself : stands_before (ids.Ranking 3) (ids.Ranking 3) ≡ false
not_before_itself = refl

procedures_first : (let m : GoalName = record { proc = 1; id = ids.Main } in let n : GoalName = record { proc = 0; id = ids.Ranking 9 } in precedes n m) ≡ true
procedures_first = refl
