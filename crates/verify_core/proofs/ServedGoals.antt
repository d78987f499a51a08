-- The certificates of decided goals are in order, and each goal proved with a tree has one.
use Rattle.std.proofs.Common.{◌≡◌, ℕ, ◌<◌, ◌≤◌, Bool, true, false, refl, ap, sym, subst, ◌∙◌, append_assoc, append-nil, arith, List, [], ◌∷◌, ◌++◌, length, map, slice_index_or, Option, None, Some, IsTrue, if◌then◌else◌}
use Prim.Native.Nat.{zero, suc}
use Rattle.std.specs.List.{AllZip, Contains}
use Rattle.std.specs.Option.{is_some}
use Rattle.std.proofs.lemmas.Bool.Decides.{nat_tests}
use Rattle.cert_text.specs.Certificates.{IsGrowingAfter, certificates_of, may_follow, precedes}
use Rattle.cert_text.specs.declared.goal_names.GoalName.{GoalName}
use Rattle.goal_answers.specs.Trees.{tree_of}
use Rattle.goal_answers.specs.declared.trees.GoalCert.{GoalCert}
use Rattle.goal_answers.specs.declared.trees.Tree.{Tree}
use Rattle.heylo_formula.specs.Goals.{goal_of}
use Rattle.heylo_formula.specs.declared.goals.GoalId.{GoalId}
use Rattle.heylo_formula.specs.declared.goals.GoalId.TheVariants.{Main, Pre, Post, Invariant, Ranking}
use Rattle.heylo_formula.specs.declared.goals.Made.{Made}
use Rattle.heylo_formula.specs.declared.goals.Made.TheVariants as made
use Rattle.heyvl_acts.specs.Acts.{Act, Acts, TypedProcedure, acts_in}
use Rattle.heyvl_acts.specs.Places.{in_order}
use Rattle.heyvl_acts.specs.Rules.{Each, MeetsRules, counted, loop_numbers}
use Rattle.loop_encodings.specs.BoundGoals.{BoundGoal, bound_goals, goal_id}
use Rattle.loop_encodings.proofs.exported.BoundNames.{invariant_ids}
use Rattle.region_split.specs.DecisionLaws.{TreesCertify}
use Rattle.goal_answers.specs.declared.decisions.Decision.{Decision}
use Rattle.goal_answers.specs.declared.decisions.Decision.TheVariants.{Proved, Falsified, Unknown}
use Rattle.goal_answers.specs.declared.named_goals.NamedGoal.{NamedGoal}
use Rattle.verify_core.specs.CertifiedGoals.{Certifies}
use Rattle.verify_core.specs.CheckedProofs.{IsServed, ProofsAreAccepted}
use Rattle.verify_core.specs.GoalDecisions.{DecidedGoal, Decides, IsDecisionOf, IsRankTable, IsTable, certificate, certificates, certified_in_file}
use Rattle.verify_core.specs.Tables.{AreBoundsFound, AreFound, AreRankingsFound, HasFound}
use Rattle.verify_core.specs.Questions.{IsGoalOf}
use Rattle.verify_core.specs.Rankings.{IsRankingGoal, ranked_in, ranked_loops}
use Rattle.verify_core.proofs.CertOrder.{precedes_onward}
use Rattle.verify_core.proofs.SideBySide.{zip_seconds}

-- ---- The order

abbrev goal_name : ℕ → GoalId → GoalName
goal_name k id = record { proc = k; id = id }

-- The latest goal is of a procedure before `k`.
abbrev IsBelow : ℕ → Option GoalName → Type 0
IsBelow k None = Unit {0}
IsBelow k (Some m) = m.proc < k

-- The goals with these names may follow the latest one in this order.
abbrev IsChain : ℕ → Option GoalName → List GoalId → Type 0
IsChain k o [] = Unit {0}
IsChain k o (id ∷ ids) = IsTrue (may_follow o (goal_name k id)) × IsChain k (Some (goal_name k id)) ids

below_next : (k : ℕ) (o : Option GoalName) → IsBelow k o → IsBelow (suc k) o
below_next k None h = tt
below_next k (Some m) h = omega (arith, h)

follows_onward : (o : Option GoalName) (m n : GoalName) → IsTrue (may_follow o m) → precedes m n ≡ true → IsTrue (may_follow o n)
follows_onward None m n h k = refl
follows_onward (Some l) m n h k = precedes_onward l m n h k

skipped : (k : ℕ) (o : Option GoalName) (m : GoalName) (ids : List GoalId) → IsTrue (may_follow o m) → IsChain k (Some m) ids → IsChain k o ids
skipped k o m [] h c = tt
skipped k o m (id ∷ ids) h c = (follows_onward o m (goal_name k id) h c.0, c.1)

one_goal : (k : ℕ) (id : GoalId) (g : NamedGoal) (d : Decision) (cs : List GoalCert) (rest : List GoalCert) (o : Option GoalName) (ids : List GoalId) → g.proc ≡ k → g.id ≡ id → IsChain k o (id ∷ ids) → IsBelow (suc k) o → ((l : Option GoalName) → IsChain k l ids → IsBelow (suc k) l → IsGrowingAfter l (certificates_of (cs ++ rest))) → IsGrowingAfter o (certificates_of ((certificate (record { goal = g; found = d }) ++ cs) ++ rest))
one_goal k id g (Proved (Some t)) cs rest o ids p i c b f = (subst (λ n. IsTrue (may_follow o n)) (sym named) c.0, subst (λ n. IsGrowingAfter (Some n) (certificates_of (cs ++ rest))) (sym named) (f (Some (goal_name k id)) c.1 (omega arith)))
  where
    named : goal_name g.proc g.id ≡ goal_name k id
    named = ap (λ x. goal_name x g.id) p ∙ ap (λ x. goal_name k x) i
one_goal k id g (Proved None) cs rest o ids p i c b f = f o (skipped k o (goal_name k id) ids c.0 c.1) b
one_goal k id g (Falsified s) cs rest o ids p i c b f = f o (skipped k o (goal_name k id) ids c.0 c.1) b
one_goal k id g (Unknown u) cs rest o ids p i c b f = f o (skipped k o (goal_name k id) ids c.0 c.1) b

abbrev AreNamed : ℕ → List GoalId → List DecidedGoal → Type 0
AreNamed k ids ds = AllZip (λ id (d : DecidedGoal). (d.goal.proc ≡ k) × (d.goal.id ≡ id)) ids ds

bounds_named : (Finds : NamedGoal → Decision → Type 0) (ps : List TypedProcedure) (k : ℕ) (goals : List BoundGoal) (ds : List DecidedGoal) → AreFound (IsGoalOf ps k) Finds goals ds → AreNamed k (map goal_id goals) ds
bounds_named Finds ps k [] [] h = tt
bounds_named Finds ps k [] (d ∷ ds) h = absurd h
bounds_named Finds ps k (b ∷ goals) [] h = absurd h
bounds_named Finds ps k (b ∷ goals) (d ∷ ds) h = ((h.0.goal.proc, h.0.goal.id_of), bounds_named Finds ps k goals ds h.1)

rankings_named : (Finds : NamedGoal → Decision → Type 0) (ps : List TypedProcedure) (k : ℕ) (ns : List ℕ) (ds : List DecidedGoal) → AreFound (IsRankingGoal ps k) Finds ns ds → AreNamed k (map Ranking ns) ds
rankings_named Finds ps k [] [] h = tt
rankings_named Finds ps k [] (d ∷ ds) h = absurd h
rankings_named Finds ps k (n ∷ ns) [] h = absurd h
rankings_named Finds ps k (n ∷ ns) (d ∷ ds) h = ((h.0.goal.proc, h.0.goal.id_of), rankings_named Finds ps k ns ds h.1)

of_goals : (k : ℕ) (ids later : List GoalId) (ds : List DecidedGoal) (rest : List GoalCert) (o : Option GoalName) → AreNamed k ids ds → IsChain k o (ids ++ later) → IsBelow (suc k) o → ((l : Option GoalName) → IsChain k l later → IsBelow (suc k) l → IsGrowingAfter l (certificates_of rest)) → IsGrowingAfter o (certificates_of (certificates ds ++ rest))
of_goals k [] later [] rest o h c b f = f o c b
of_goals k [] later (d ∷ ds) rest o h c b f = absurd h
of_goals k (id ∷ ids) later [] rest o h c b f = absurd h
of_goals k (id ∷ ids) later (d ∷ ds) rest o h c b f = one_goal k id d.goal d.found (certificates ds) rest o (ids ++ later) h.0.0 h.0.1 c b (λ l x y. of_goals k ids later ds rest l h.1 x y f)

of_procedure : (k : ℕ) (ids later : List GoalId) (ds rs : List DecidedGoal) (rest : List GoalCert) (o : Option GoalName) → AreNamed k ids ds → AreNamed k later rs → IsChain k o (ids ++ later) → IsBelow (suc k) o → ((l : Option GoalName) → IsBelow (suc k) l → IsGrowingAfter l (certificates_of rest)) → IsGrowingAfter o (certificates_of ((certificates ds ++ certificates rs) ++ rest))
of_procedure k ids later ds rs rest o h r c b f = subst (λ cs. IsGrowingAfter o (certificates_of cs)) (sym (append_assoc (certificates ds) (certificates rs) rest)) (of_goals k ids later ds (certificates rs ++ rest) o h c b (λ l x y. of_goals k later [] rs rest l r (subst (λ is. IsChain k l is) (sym (append-nil later)) x) y (λ m z w. f m w)))

-- ---- The goals of a procedure grow

follows_later : (k : ℕ) (o : Option GoalName) (id : GoalId) → IsBelow k o → IsTrue (may_follow o (goal_name k id))
follows_later k None id b = refl
follows_later k (Some m) id b = first m.proc b
  where
    first : (n : ℕ) → n < k → precedes (record m { proc = n }) (goal_name k id) ≡ true
    first n l = grind (arith, nat_tests)

later_invariants : (k m n : ℕ) → IsChain k (Some (goal_name k (Invariant m))) (map Invariant (counted (suc m) n))
later_invariants k m zero = tt
later_invariants k m (suc n) = (grind (arith, nat_tests), later_invariants k (suc m) n)

invariants : (k n : ℕ) → IsChain k (Some (goal_name k Post)) (map Invariant (counted 1 n))
invariants k zero = tt
invariants k (suc n) = (grind (arith, nat_tests), later_invariants k 1 n)

chain : (ps : List TypedProcedure) (k : ℕ) (o : Option GoalName) (q : TypedProcedure) → MeetsRules ps q → IsBelow k o → IsChain k o (map goal_id (bound_goals q))
chain ps k o q h b = of_body q.body refl
  where
    weak_ones : (acts : Acts) → loop_numbers (in_order acts) ≡ counted 1 q.loops → IsChain k (Some (goal_name k Main)) (Pre ∷ (Post ∷ map goal_id (map BoundGoal.invariant (loop_numbers (in_order acts)))))
    weak_ones acts e = (grind (arith, nat_tests), (grind (arith, nat_tests), subst (λ l. IsChain k (Some (goal_name k Post)) (map goal_id (map BoundGoal.invariant l))) (sym e) (subst (λ ids. IsChain k (Some (goal_name k Post)) ids) (sym (invariant_ids (counted 1 q.loops))) (invariants k q.loops))))

    of_weak : (acts : Acts) (w : Bool) → loop_numbers (in_order acts) ≡ counted 1 q.loops → IsChain k o (map goal_id (bound_goals (record q { body = Some acts; weak = w })))
    of_weak acts true e = (follows_later k o Main b, weak_ones acts e)
    of_weak acts false e = (follows_later k o Main b, tt)

    of_body : (body : Option Acts) → q.body ≡ body → IsChain k o (map goal_id (bound_goals q))
    of_body None e = subst (λ x. IsChain k o (map goal_id (bound_goals (record q { body = x })))) (sym e) tt
    of_body (Some acts) e = subst (λ x. IsChain k o (map goal_id (bound_goals (record q { body = x })))) (sym e) (of_weak acts q.weak (subst (λ x. loop_numbers (in_order (acts_in x)) ≡ counted 1 q.loops) e h.numbered))

-- ---- The rankings after them

abbrev IsBeforeRankings : ℕ → GoalId → Type 0
IsBeforeRankings k id = (n : ℕ) → IsTrue (may_follow (Some (goal_name k id)) (goal_name k (Ranking n)))

main_before : (k : ℕ) → IsBeforeRankings k Main
main_before k n = grind (arith, nat_tests)

pre_before : (k : ℕ) → IsBeforeRankings k Pre
pre_before k n = grind (arith, nat_tests)

post_before : (k : ℕ) → IsBeforeRankings k Post
post_before k n = grind (arith, nat_tests)

invariant_before : (k m : ℕ) → IsBeforeRankings k (Invariant m)
invariant_before k m n = grind (arith, nat_tests)

invariants_before : (k : ℕ) (ns : List ℕ) → Each (IsBeforeRankings k) (map goal_id (map BoundGoal.invariant ns))
invariants_before k [] = tt
invariants_before k (m ∷ ns) = (invariant_before k m, invariants_before k ns)

bounds_before : (k : ℕ) (q : TypedProcedure) → Each (IsBeforeRankings k) (map goal_id (bound_goals q))
bounds_before k q = of_body q.body refl
  where
    of_weak : (acts : Acts) (w : Bool) → Each (IsBeforeRankings k) (map goal_id (bound_goals (record q { body = Some acts; weak = w })))
    of_weak acts true = (main_before k, (pre_before k, (post_before k, invariants_before k (loop_numbers (in_order acts)))))
    of_weak acts false = (main_before k, tt)

    of_body : (body : Option Acts) → q.body ≡ body → Each (IsBeforeRankings k) (map goal_id (bound_goals q))
    of_body None e = subst (λ x. Each (IsBeforeRankings k) (map goal_id (bound_goals (record q { body = x })))) (sym e) tt
    of_body (Some acts) e = subst (λ x. Each (IsBeforeRankings k) (map goal_id (bound_goals (record q { body = x })))) (sym e) (of_weak acts q.weak)

later_ranking : (k m n : ℕ) → m < n → IsTrue (may_follow (Some (goal_name k (Ranking m))) (goal_name k (Ranking n)))
later_ranking k m n l = grind (arith, nat_tests)

one_loop : (k : ℕ) (o : Option GoalName) (n : ℕ) (ranked : Bool) (ns : List ℕ) → IsTrue (may_follow o (goal_name k (Ranking n))) → IsChain k (Some (goal_name k (Ranking n))) (map Ranking ns) → IsChain k o (map Ranking ns) → IsChain k o (map Ranking (if ranked then n ∷ ns else ns))
one_loop k o n true ns a b c = (a, b)
one_loop k o n false ns a b c = c

first_counted : (x from : ℕ) (xs : List ℕ) (n : ℕ) → x ∷ xs ≡ from ∷ counted (suc from) n → x ≡ from
first_counted x from xs n e = cc

others_counted : (x from : ℕ) (xs : List ℕ) (n : ℕ) → x ∷ xs ≡ from ∷ counted (suc from) n → xs ≡ counted (suc from) n
others_counted x from xs n e = cc

-- The goals of the rankings of acts, whose loops are numbered from `from` on, may follow the latest
-- goal.
rankings : (k : ℕ) (o : Option GoalName) (acts : List Act) (from n : ℕ) → loop_numbers acts ≡ counted from n → ((m : ℕ) → from ≤ m → IsTrue (may_follow o (goal_name k (Ranking m)))) → IsChain k o (map Ranking (ranked_in acts))
rankings k o [] from n e f = tt
rankings k o (Act.loop h b ∷ rest) from zero e f = absurd (cc)
rankings k o (Act.loop h b ∷ rest) from (suc n) e f =
    let first : h.number ≡ from = first_counted h.number from (loop_numbers rest) n e in
    let others : loop_numbers rest ≡ counted (suc from) n = others_counted h.number from (loop_numbers rest) n e in
    one_loop k o h.number (is_some h.rank) (ranked_in rest) (f h.number (omega (arith, first))) (rankings k (Some (goal_name k (Ranking h.number))) rest (suc from) n others (λ m l. later_ranking k h.number m (omega (arith, first, l)))) (rankings k o rest (suc from) n others (λ m l. f m (omega (arith, l))))
rankings k o (Act.set x t span ∷ rest) from n e f = rankings k o rest from n e f
rankings k o (Act.draw x qs span ∷ rest) from n e f = rankings k o rest from n e f
rankings k o (Act.toss x w span ∷ rest) from n e f = rankings k o rest from n e f
rankings k o (Act.any x up ty span ∷ rest) from n e f = rankings k o rest from n e f
rankings k o (Act.reward r span ∷ rest) from n e f = rankings k o rest from n e f
rankings k o (Act.ifs arms x span ∷ rest) from n e f = rankings k o rest from n e f
rankings k o (Act.pick up a b span ∷ rest) from n e f = rankings k o rest from n e f
rankings k o (Act.check kind r span ∷ rest) from n e f = rankings k o rest from n e f
rankings k o (Act.validate co span ∷ rest) from n e f = rankings k o rest from n e f
rankings k o (Act.call xs q es span ∷ rest) from n e f = rankings k o rest from n e f

rankings_behind : (k : ℕ) (o : Option GoalName) (ids : List GoalId) (acts : List Act) (n : ℕ) → loop_numbers acts ≡ counted 1 n → IsChain k o ids → Each (IsBeforeRankings k) ids → ((m : ℕ) → IsTrue (may_follow o (goal_name k (Ranking m)))) → IsChain k o (ids ++ map Ranking (ranked_in acts))
rankings_behind k o [] acts n e c r f = rankings k o acts 1 n e (λ m l. f m)
rankings_behind k o (id ∷ ids) acts n e c r f = (c.0, rankings_behind k (Some (goal_name k id)) ids acts n e c.1 r.1 r.0)

whole_chain : (ps : List TypedProcedure) (k : ℕ) (o : Option GoalName) (q : TypedProcedure) → MeetsRules ps q → IsBelow k o → IsChain k o (map goal_id (bound_goals q) ++ map Ranking (ranked_loops q))
whole_chain ps k o q h b = rankings_behind k o (map goal_id (bound_goals q)) (in_order (acts_in q.body)) q.loops h.numbered (chain ps k o q h b) (bounds_before k q) (λ n. follows_later k o (Ranking n) b)

-- ---- The file

-- For any property of goals and decisions.
pub of_file : (Finds : NamedGoal → Decision → Type 0) (ps : List TypedProcedure) (k : ℕ) (qs : List TypedProcedure) (table ranks : List (List DecidedGoal)) (o : Option GoalName) → Each (MeetsRules ps) qs → AreBoundsFound Finds ps k qs table → AreRankingsFound Finds ps k qs ranks → IsBelow k o → IsGrowingAfter o (certificates_of (certified_in_file table ranks))
of_file Finds ps k [] [] ranks o r h t b = tt
of_file Finds ps k [] (ds ∷ table) ranks o r h t b = absurd h
of_file Finds ps k (q ∷ qs) [] ranks o r h t b = absurd h
of_file Finds ps k (q ∷ qs) (ds ∷ table) [] o r h t b = absurd t
of_file Finds ps k (q ∷ qs) (ds ∷ table) (rs ∷ ranks) o r h t b = of_procedure k (map goal_id (bound_goals q)) (map Ranking (ranked_loops q)) ds rs (certified_in_file table ranks) o (bounds_named Finds ps k (bound_goals q) ds h.0) (rankings_named Finds ps k (ranked_loops q) rs t.0) (whole_chain ps k o q r.0 b) (below_next k o b) (λ l x. of_file Finds ps (suc k) qs table ranks l r.1 h.1 t.1 x)

-- ---- The goals that have a certificate

pub contains_left : (xs ys : List GoalCert) (c : GoalCert) → Contains xs c → Contains (xs ++ ys) c
contains_left xs ys c h = (h.0, below xs h.0 h.1, at xs h.0 h.1 ∙ h.2)
  where
    below : (xs : List GoalCert) (k : ℕ) → k < length xs → k < length (xs ++ ys)
    below [] k l = absurd (omega (arith, l))
    below (x ∷ xs) zero l = omega arith
    below (x ∷ xs) (suc k) l = let h = below xs k (omega (arith, l)) in omega (arith, h)

    at : (xs : List GoalCert) (k : ℕ) → k < length xs → slice_index_or (xs ++ ys) k c ≡ slice_index_or xs k c
    at [] k l = absurd (omega (arith, l))
    at (x ∷ xs) zero l = refl
    at (x ∷ xs) (suc k) l = at xs k (omega (arith, l))

pub contains_behind : (x : GoalCert) (xs : List GoalCert) (c : GoalCert) → Contains xs c → Contains (x ∷ xs) c
contains_behind x xs c h = let l = h.1 in (suc h.0, omega (arith, l), h.2)

pub contains_right : (xs ys : List GoalCert) (c : GoalCert) → Contains ys c → Contains (xs ++ ys) c
contains_right [] ys c h = h
contains_right (x ∷ xs) ys c h = contains_behind x (xs ++ ys) c (contains_right xs ys c h)

certifies : TreesCertify → (m : Made) (t : Tree) → IsDecisionOf m (Proved (Some t)) → Certifies m (tree_of t)
certifies law (made.Goal g) t h = subst (λ x. Certifies (made.Goal g) x) (sym h.1.is_given.0) (law (goal_of g) h.1.tree h.0 h.1.is_tree)
certifies law made.Depth t h = cc
certifies law made.Nodes t h = cc

one_served : TreesCertify → (certs : List GoalCert) (g : NamedGoal) (d : Decision) → IsDecisionOf g.made d → ((c : GoalCert) → Contains (certificate (record { goal = g; found = d })) c → Contains certs c) → IsServed certs (record { goal = g; found = d })
one_served law certs g d h f t e = record {
  tree = tree_of t;
  has = record { cert = cert; listed = f cert (subst (λ x. Contains (certificate (record { goal = g; found = x })) cert) (sym e) (0, omega arith, refl)); of_procedure = refl; of_goal = refl; its_tree = refl };
  certifies = certifies law g.made t (subst (λ x. IsDecisionOf g.made x) e h);
}
  where
    cert : GoalCert
    cert = record { proc = g.proc; id = g.id; tree = t }

abbrev IsDecidedBy : DecidedGoal → Type 0
IsDecidedBy d = IsDecisionOf d.goal.made d.found

all_decided : {I : Type 0} (Is : I → NamedGoal → Type 0) (is : List I) (ds : List DecidedGoal) → AllZip (λ i (d : DecidedGoal). HasFound (Is i) Decides d) is ds → Each IsDecidedBy ds
all_decided Is is ds h = zip_seconds (λ i (d : DecidedGoal). HasFound (Is i) Decides d) IsDecidedBy is ds (λ i d k. k.found) h

all_served : TreesCertify → (certs : List GoalCert) (ds : List DecidedGoal) → Each IsDecidedBy ds → ((c : GoalCert) → Contains (certificates ds) c → Contains certs c) → Each (IsServed certs) ds
all_served law certs [] h f = tt
all_served law certs (d ∷ ds) h f = (one_served law certs d.goal d.found h.0 (λ c x. f c (contains_left (certificate d) (certificates ds) c x)), all_served law certs ds h.1 (λ c x. f c (contains_right (certificate d) (certificates ds) c x)))

tables_served : TreesCertify → (ps : List TypedProcedure) (certs : List GoalCert) (k : ℕ) (qs : List TypedProcedure) (table ranks : List (List DecidedGoal)) → IsTable ps k qs table → IsRankTable ps k qs ranks → ((c : GoalCert) → Contains (certified_in_file table ranks) c → Contains certs c) → Each (Each (IsServed certs)) table × Each (Each (IsServed certs)) ranks
tables_served law ps certs k [] [] [] h t f = (tt, tt)
tables_served law ps certs k [] [] (rs ∷ ranks) h t f = absurd t
tables_served law ps certs k [] (ds ∷ table) ranks h t f = absurd h
tables_served law ps certs k (q ∷ qs) [] ranks h t f = absurd h
tables_served law ps certs k (q ∷ qs) (ds ∷ table) [] h t f = absurd t
tables_served law ps certs k (q ∷ qs) (ds ∷ table) (rs ∷ ranks) h t f =
    let own = certificates ds ++ certificates rs in
    let rest = certified_in_file table ranks in
    let others = tables_served law ps certs (suc k) qs table ranks h.1 t.1 (λ c x. f c (contains_right own rest c x)) in (
      (all_served law certs ds (all_decided (IsGoalOf ps k) (bound_goals q) ds h.0) (λ c x. f c (contains_left own rest c (contains_left (certificates ds) (certificates rs) c x))), others.0),
      (all_served law certs rs (all_decided (IsRankingGoal ps k) (ranked_loops q) rs t.0) (λ c x. f c (contains_left own rest c (contains_right (certificates ds) (certificates rs) c x))), others.1),
    )

pub proofs_are_accepted : TreesCertify → ProofsAreAccepted
proofs_are_accepted law ps table ranks rules h t =
    let served = tables_served law ps (certified_in_file table ranks) 0 ps table ranks h t (λ c x. x) in
    record { order = of_file Decides ps 0 ps table ranks None rules h t tt; accepted = served.0; ranked = served.1 }
