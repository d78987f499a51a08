-- Checks of goals, computed: of three rankings one is accepted, one has no certificate and one is
-- refused; of two goals one is proved.
use Rattle.std.proofs.Common.{◌≡◌, ◌<◌, ℕ, refl, ap, ◌∙◌, arith, Bool, List, [], ◌∷◌, map, slice_index_or}
use Rattle.std.specs.Prelude.{Some, None, Vec}
use Rattle.std.specs.declared.alloc.Global.{Global}
use Prim.Native.Nat.{zero, suc}
use Rattle.heylo_formula.specs.GoalOrder.{loop_of}
use Rattle.cert_text.specs.Certificates.{IsGrowingAfter, certificates_of}
use Rattle.goal_answers.specs.Trees.{Tree, tree_of}
use Rattle.goal_answers.specs.declared.trees.GoalCert.{GoalCert}
use Rattle.goal_answers.specs.declared.trees.Tree as T
use Rattle.heylo_formula.specs.declared.goals.GoalId.TheVariants.{Main, Pre, Ranking}
use Rattle.heylo_formula.specs.declared.goals.Made.{Made}
use Rattle.goal_answers.specs.declared.causes.Cause.TheVariants as cause
use Rattle.goal_answers.specs.declared.decisions.Decision.TheVariants.{Proved, Unknown}
use Rattle.verdict_report.specs.declared.answers.LoopAnswer.{LoopAnswer}
use Rattle.goal_answers.specs.declared.misses.Miss.TheVariants.{Absent, Place}
use Rattle.verdict_report.specs.declared.answers.RankVerdict.TheVariants as rank
use Rattle.verify_core.specs.CertifiedGoals.{Certifies, CheckedGoal, HasTree, IsCheckedRankTable, IsMissOf, IsRefusedAt, outcome_of}
use Rattle.verify_core.specs.CheckedProofs.{AreServed, IsServed}
use Rattle.verify_core.specs.GoalDecisions.{DecidedGoal, certified_in_file}
use Rattle.verify_core.specs.Outcomes.{loop_answer, outcomes}
use Rattle.verify_core.proofs.RankingExamples.{AreMade, first_of, goal_named, nested, none_more, others_of, three_goals}

-- ---- Rankings: the certificates of the loops 1 and 4, where the loops 1, 3 and 4 have a ranking

module _ (t u : T.Tree) (way : Vec Bool Global) (a b c : Made) where
  abbrev certs : List GoalCert
  certs = (record { proc = 0; id = Ranking 1; tree = t }) ∷ ((record { proc = 0; id = Ranking 4; tree = u }) ∷ [])

  -- The first is accepted, the second has no certificate, and the third is refused.
  abbrev row : List CheckedGoal
  row = (record { goal = goal_named (Ranking 1) a; found = None }) ∷ ((record { goal = goal_named (Ranking 3) b; found = Some Absent }) ∷ ((record { goal = goal_named (Ranking 4) c; found = Some (Place way) }) ∷ []))

  first_tree : HasTree certs 0 (Ranking 1) (tree_of t)
  first_tree = record { cert = record { proc = 0; id = Ranking 1; tree = t }; listed = (0, omega arith, refl); of_procedure = refl; of_goal = refl; its_tree = refl }

  third_tree : HasTree certs 0 (Ranking 4) (tree_of u)
  third_tree = record { cert = record { proc = 0; id = Ranking 4; tree = u }; listed = (1, omega arith, refl); of_procedure = refl; of_goal = refl; its_tree = refl }

  not_listed : (k : ℕ) (x : GoalCert) → k < 2 → slice_index_or certs k x ≡ x → x.id ≡ Ranking 3 → ⊥
  not_listed zero x l e i = let n : 1 ≡ 3 = ap loop_of (ap (λ (y : GoalCert). y.id) e ∙ i) in omega (arith, n)
  not_listed (suc zero) x l e i = let n : 4 ≡ 3 = ap loop_of (ap (λ (y : GoalCert). y.id) e ∙ i) in omega (arith, n)
  not_listed (suc (suc k)) x l e i = omega (arith, l)

  no_tree : (s : Tree) → HasTree certs 0 (Ranking 3) s → ⊥
  no_tree s h = not_listed h.listed.0 h.cert h.listed.1 h.listed.2 h.of_goal

  checked : (m : Made) → AreMade m a b c → Certifies a (tree_of t) → IsRefusedAt c (tree_of u) way.items → IsCheckedRankTable (nested ∷ []) certs 0 (nested ∷ []) (row ∷ [])
  checked m made accepted wrong =
      let goals = three_goals m a b c made in (
        (
          record { goal = goals.0; found = record { tree = tree_of t; has = first_tree; certifies = accepted } },
          (
            record { goal = goals.1.0; found = no_tree },
            (record { goal = goals.1.1.0; found = record { tree = tree_of u; has = third_tree; refused = wrong } }, tt),
          ),
        ),
        tt,
      )

  abbrev ranked : LoopAnswer
  ranked = record { number = 1; rank = rank.Ranked }

  abbrev missing : LoopAnswer
  missing = record { number = 3; rank = rank.Unchecked Absent }

  abbrev refused : LoopAnswer
  refused = record { number = 4; rank = rank.Unchecked (Place way) }

  abbrev answers : List LoopAnswer
  answers = map loop_answer (outcomes outcome_of row)

  answered : answers ≡ ranked ∷ (missing ∷ (refused ∷ []))
  answered = refl

  not_accepted : IsMissOf certs (goal_named (Ranking 3) b) None → ⊥
  not_accepted h = no_tree h.tree h.has

  not_ranked : answers ≡ ranked ∷ ((record { number = 3; rank = rank.Ranked }) ∷ (refused ∷ [])) → ⊥
  not_ranked h = let e : rank.Unchecked Absent ≡ rank.Ranked = ap (λ (l : LoopAnswer). l.rank) (first_of missing (record { number = 3; rank = rank.Ranked }) (refused ∷ []) (refused ∷ []) (others_of ranked ranked _ _ h)) in cc

  -- A refused certificate is not an absent one.
  not_missing : answers ≡ ranked ∷ (missing ∷ ((record { number = 4; rank = rank.Unchecked Absent }) ∷ [])) → ⊥
  not_missing h = let e : rank.Unchecked (Place way) ≡ rank.Unchecked Absent = ap (λ (l : LoopAnswer). l.rank) (first_of refused (record { number = 4; rank = rank.Unchecked Absent }) [] [] (others_of missing missing _ _ (others_of ranked ranked _ _ h))) in cc

  -- Loops are not numbered from 0, and each has its answer.
  not_from_0 : (ls : List LoopAnswer) → answers ≡ (record { number = 0; rank = rank.Ranked }) ∷ ls → ⊥
  not_from_0 ls h = let e : 1 ≡ 0 = ap (λ (l : LoopAnswer). l.number) (first_of ranked (record { number = 0; rank = rank.Ranked }) _ ls h) in omega (arith, e)

  not_fewer : answers ≡ ranked ∷ (missing ∷ []) → ⊥
  not_fewer h = none_more refused [] (others_of missing missing _ _ (others_of ranked ranked _ _ h))

-- ---- Two goals: one is proved, the other is unknown

module _ (t : T.Tree) (m n : Made) where
  abbrev proved : DecidedGoal
  proved = record { goal = goal_named Main m; found = Proved (Some t) }

  abbrev unknown : DecidedGoal
  unknown = record { goal = goal_named Pre n; found = Unknown cause.Bits }

  abbrev table : List (List DecidedGoal)
  table = (proved ∷ (unknown ∷ [])) ∷ []

  abbrev certificate : GoalCert
  certificate = record { proc = 0; id = Main; tree = t }

  certified : certified_in_file table ([] ∷ []) ≡ certificate ∷ []
  certified = refl

  served : Certifies m (tree_of t) → AreServed table ([] ∷ [])
  served accepted_tree = record {
    order = (refl, tt);
    accepted = ((proof, (no_proof, tt)), tt);
    ranked = (tt, tt);
  }
    where
      proof : IsServed (certificate ∷ []) proved
      proof s e = record {
        tree = tree_of t;
        has = record { cert = certificate; listed = (0, omega arith, refl); of_procedure = refl; of_goal = refl; its_tree = refl };
        certifies = accepted_tree;
      }

      no_proof : IsServed (certificate ∷ []) unknown
      no_proof s e = absurd (cc)

  not_served : IsServed [] proved → ⊥
  not_served h = let l = (h t refl).has.listed.1 in omega (arith, l)

  -- In another order, the certificates are not those of a text.
  not_in_order : IsGrowingAfter None (certificates_of ((record { proc = 0; id = Ranking 1; tree = t }) ∷ (certificate ∷ []))) → ⊥
  not_in_order h = let e = h.1.0 in cc
