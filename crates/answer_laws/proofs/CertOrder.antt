-- In a list of certificates in the order of their text, a goal has one tree at most.
use Rattle.std.proofs.Common.{◌≡◌, ℕ, Bool, true, ◌||◌, ◌&&◌, ◌==◌, ◌<◌, refl, ap, subst, sym, ◌∙◌, arith, List, [], ◌∷◌, length, slice_index_or, nat_lt, Option, Some, None, ◌⊎◌, inl, inr}
use Prim.Native.Nat.{zero, suc}
use Rattle.std.proofs.lemmas.Bool.{cases_order}
use Rattle.std.proofs.lemmas.Bool.Decides.{nat_tests}
use Rattle.cert_text.specs.Certificates.{IsGrowingAfter, certificates_of, precedes}
use Rattle.cert_text.specs.declared.goal_names.GoalName.{GoalName}
use Rattle.goal_answers.specs.Trees.{Tree, tree_of}
use Rattle.goal_answers.specs.declared.trees.GoalCert.{GoalCert}
use Rattle.heylo_formula.specs.GoalOrder.{kind_rank, loop_of}
use Rattle.heylo_formula.specs.declared.goals.GoalId.{GoalId}
use Rattle.verify_core.specs.CertifiedGoals.{HasTree}

abbrev goal_name : ℕ → GoalId → GoalName
goal_name k id = record { proc = k; id = id }

abbrev name_of : GoalCert → GoalName
name_of c = goal_name c.proc c.id

-- Whether three numbers precede three others in lexicographic order.
abbrev first_of_three : ℕ → ℕ → ℕ → ℕ → ℕ → ℕ → Bool
first_of_three a b c x y z = nat_lt a x || (a == x && (nat_lt b y || (b == y && nat_lt c z)))

onward : (a b c x y z u v w : ℕ) → first_of_three a b c x y z ≡ true → first_of_three x y z u v w ≡ true → first_of_three a b c u v w ≡ true
onward a b c x y z u v w h k = grind (arith, nat_tests)

never : (a b c : ℕ) → first_of_three a b c a b c ≡ true → ⊥
never a b c h = grind (arith, nat_tests)

precedes_onward : (m n o : GoalName) → precedes m n ≡ true → precedes n o ≡ true → precedes m o ≡ true
precedes_onward m n o h k = onward m.proc (kind_rank m.id) (loop_of m.id) n.proc (kind_rank n.id) (loop_of n.id) o.proc (kind_rank o.id) (loop_of o.id) h k

not_before_itself : (m : GoalName) → precedes m m ≡ true → ⊥
not_before_itself m h = never m.proc (kind_rank m.id) (loop_of m.id) h

after_the_first : (n : GoalName) (cs : List GoalCert) (k : ℕ) (d : GoalCert) → IsGrowingAfter (Some n) (certificates_of cs) → k < length cs → precedes n (name_of (slice_index_or cs k d)) ≡ true
after_the_first n [] k d g l = absurd (omega (arith, l))
after_the_first n (c ∷ cs) zero d g l = g.0
after_the_first n (c ∷ cs) (suc k) d g l = precedes_onward n (name_of c) (name_of (slice_index_or cs k d)) g.0 (after_the_first (name_of c) cs k d g.1 (omega (arith, l)))

in_order : (o : Option GoalName) (cs : List GoalCert) (i j : ℕ) (d : GoalCert) → IsGrowingAfter o (certificates_of cs) → i < j → j < length cs → precedes (name_of (slice_index_or cs i d)) (name_of (slice_index_or cs j d)) ≡ true
in_order o [] i j d g h l = absurd (omega (arith, l))
in_order o (c ∷ cs) i zero d g h l = absurd (omega (arith, h))
in_order o (c ∷ cs) zero (suc j) d g h l = after_the_first (name_of c) cs j d g.1 (omega (arith, l))
in_order o (c ∷ cs) (suc i) (suc j) d g h l = in_order (Some (name_of c)) cs i j d g.1 (omega (arith, h)) (omega (arith, l))

any_default : (cs : List GoalCert) (k : ℕ) (d e : GoalCert) → k < length cs → slice_index_or cs k d ≡ slice_index_or cs k e
any_default [] k d e l = absurd (omega (arith, l))
any_default (c ∷ cs) zero d e l = refl
any_default (c ∷ cs) (suc k) d e l = any_default cs k d e (omega (arith, l))

pub one_tree : (cs : List GoalCert) (proc : ℕ) (id : GoalId) (t u : Tree) → IsGrowingAfter None (certificates_of cs) → HasTree cs proc id t → HasTree cs proc id u → t ≡ u
one_tree cs proc id t u g a b = from (cases_order a.listed.0 b.listed.0)
  where
    named : (v : Tree) (h : HasTree cs proc id v) (d : GoalCert) → name_of (slice_index_or cs h.listed.0 d) ≡ goal_name proc id
    named v h d = ap name_of (any_default cs h.listed.0 d h.cert h.listed.1 ∙ h.listed.2) ∙ (ap (λ p. goal_name p h.cert.id) h.of_procedure ∙ ap (λ i. goal_name proc i) h.of_goal)

    never_before : (v w : Tree) (h : HasTree cs proc id v) (k : HasTree cs proc id w) → h.listed.0 < k.listed.0 → ⊥
    never_before v w h k l = not_before_itself (goal_name proc id) (subst (λ m. precedes m (goal_name proc id) ≡ true) (named v h h.cert) (subst (λ m. precedes (name_of (slice_index_or cs h.listed.0 h.cert)) m ≡ true) (named w k h.cert) (in_order None cs h.listed.0 k.listed.0 h.cert g l k.listed.1)))

    from : (a.listed.0 ≡ b.listed.0) ⊎ ((a.listed.0 < b.listed.0) ⊎ (b.listed.0 < a.listed.0)) → t ≡ u
    from (inl e) = sym a.its_tree ∙ (ap (λ c. tree_of c.tree) (sym a.listed.2 ∙ (ap (λ k. slice_index_or cs k a.cert) e ∙ (any_default cs b.listed.0 a.cert b.cert b.listed.1 ∙ b.listed.2))) ∙ b.its_tree)
    from (inr (inl l)) = absurd (never_before t u a b l)
    from (inr (inr l)) = absurd (never_before u t b a l)
