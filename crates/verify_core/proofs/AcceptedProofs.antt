-- The certificates of proved goals are accepted: the one tree for a goal is a certificate, and no
-- tree is both accepted and refused.
use Rattle.std.proofs.Common.{◌≡◌, ℕ, refl, ap, sym, subst, ◌∙◌, List, [], ◌∷◌, None, Some, Option, Bool}
use Prim.Native.Nat.{suc}
use Rattle.std.specs.List.{AllZip}
use Rattle.cert_text.specs.Certificates.{IsGrowingAfter, certificates_of}
use Rattle.farkas_check.specs.AcceptedCertificates.{IsNoCertificate}
use Rattle.farkas_check.specs.CertificateLaws.{NeverBoth}
use Rattle.goal_answers.specs.Trees.{Tree}
use Rattle.goal_answers.specs.declared.trees.GoalCert.{GoalCert}
use Rattle.heylo_formula.specs.Goals.{goal_of}
use Rattle.heylo_formula.specs.declared.goals.GoalId.{GoalId}
use Rattle.heylo_formula.specs.declared.goals.Made.{Made}
use Rattle.heylo_formula.specs.declared.goals.Made.TheVariants as made
use Rattle.heyvl_acts.specs.Acts.{Acts, Head, TypedProcedure, procedure_at}
use Rattle.heyvl_acts.specs.Rules.{Each}
use Rattle.loop_encodings.specs.BoundGoals.{BoundGoal, bound_goals}
use Rattle.ranking_rule.specs.RankingGoals as ranking
use Rattle.ranking_rule.specs.Rankings.{RankedLoop}
use Rattle.region_split.specs.DecisionLaws.{TreesCertify}
use Rattle.goal_answers.specs.declared.misses.Miss.{Miss}
use Rattle.goal_answers.specs.declared.misses.Miss.TheVariants.{Absent, Place}
use Rattle.goal_answers.specs.declared.named_goals.NamedGoal.{NamedGoal}
use Rattle.verify_core.specs.CertifiedGoals.{Certifies, CheckedGoal, HasTree, IsGoalAccepted, IsMissOf, IsRefusedAt}
use Rattle.verify_core.specs.CheckedProofs.{IsServed, NothingIsMissed, NothingIsMissedThroughout, ProvedGoalsAreAccepted, ProvedRankingsAreAccepted}
use Rattle.verify_core.specs.GoalDecisions.{DecidedGoal, Decides, certified_in_file}
use Rattle.verify_core.specs.Tables.{HasFound}
use Rattle.verify_core.specs.NumberedLists.{AllNumbered}
use Rattle.verify_core.specs.Questions.{IsGoalOf, goal, question}
use Rattle.verify_core.specs.Rankings.{IsRankingGoal, ranked_loops}
use Rattle.verify_core.proofs.CertOrder.{one_tree}
use Rattle.verify_core.proofs.MadeGoals.{MadeAlike, made_alike}
use Rattle.verify_core.proofs.ServedGoals.{proofs_are_accepted}

same_some : {A : Type 0} (a b : A) → Some a ≡ Some b → a ≡ b
same_some a b e = cc

same_loop : (p : TypedProcedure) (n : ℕ) (k l : RankedLoop p n) (m : Made) → ranking.IsMadeOf p k.head k.body k.rank m → ranking.IsMadeOf p l.head l.body l.rank m
same_loop p n k l m i =
    let both : ◌≡◌ {A = Head × Acts} (k.head, k.body) (l.head, l.body) = same_some (k.head, k.body) (l.head, l.body) (sym k.named ∙ l.named) in
    let head : k.head ≡ l.head = ap (λ (x : Head × Acts). x.0) both in
    let body : k.body ≡ l.body = ap (λ (x : Head × Acts). x.1) both in
    let rank : k.rank ≡ l.rank = same_some k.rank l.rank (sym k.ranked ∙ (ap (λ (x : Head). x.rank) head ∙ l.ranked)) in
    subst (λ x. ranking.IsMadeOf p x l.body l.rank m) head (subst (λ x. ranking.IsMadeOf p k.head x l.rank m) body (subst (λ x. ranking.IsMadeOf p k.head k.body x m) rank i))

never_refused : NeverBoth → (m n : Made) (t : Tree) (place : List Bool) → MadeAlike m n → Certifies m t → IsRefusedAt n t place → ⊥
never_refused law (made.Goal g) (made.Goal h) t place e c r = law (goal_of g) t place c (subst (λ x. IsNoCertificate x t place) (sym e) r)
never_refused law (made.Goal g) made.Depth t place e c r = e
never_refused law (made.Goal g) made.Nodes t place e c r = e
never_refused law made.Depth n t place e c r = c
never_refused law made.Nodes n t place e c r = c

has_moved : (certs : List GoalCert) (p q : ℕ) (i j : GoalId) (t : Tree) → p ≡ q → i ≡ j → HasTree certs p i t → HasTree certs q j t
has_moved certs p q i j t e f h = subst (λ x. HasTree certs x j t) e (subst (λ x. HasTree certs p x t) f h)

pub record AreOneGoal (g h : NamedGoal) : Type 0 where
  pub proc : g.proc ≡ h.proc
  pub id_of : g.id ≡ h.id
  pub alike : MadeAlike g.made h.made

no_miss : NeverBoth → (certs : List GoalCert) (g : NamedGoal) (c : CheckedGoal) → IsGrowingAfter None (certificates_of certs) → AreOneGoal g c.goal → IsMissOf certs c.goal c.found → IsGoalAccepted certs g → (m : Option Miss) → c.found ≡ m → c.found ≡ None
no_miss law certs g c o x y a None e = e
no_miss law certs g c o x y a (Some Absent) e = absurd (subst (λ m. IsMissOf certs c.goal m) e y a.tree (has_moved certs g.proc c.goal.proc g.id c.goal.id a.tree x.proc x.id_of a.has))
no_miss law certs g c o x y a (Some (Place way)) e =
    let r = subst (λ m. IsMissOf certs c.goal m) e y in
    let has = has_moved certs g.proc c.goal.proc g.id c.goal.id a.tree x.proc x.id_of a.has in
    let same = one_tree certs c.goal.proc c.goal.id r.tree a.tree o r.has has in
    absurd (never_refused law g.made c.goal.made a.tree way.items x.alike a.certifies (subst (λ t. IsRefusedAt c.goal.made t way.items) same r.refused))

pub bound_same : (ps : List TypedProcedure) (k : ℕ) (asked : BoundGoal) (g h : NamedGoal) → IsGoalOf ps k asked g → IsGoalOf ps k asked h → AreOneGoal g h
bound_same ps k asked g h x y =
    let q = question ps (procedure_at ps k) asked in
    record { proc = x.proc ∙ sym y.proc; id_of = x.id_of ∙ sym y.id_of; alike = made_alike q.found (goal q) g.made h.made x.made y.made }

pub ranking_same : (ps : List TypedProcedure) (k n : ℕ) (g h : NamedGoal) → IsRankingGoal ps k n g → IsRankingGoal ps k n h → AreOneGoal g h
ranking_same ps k n g h x y =
    let p = procedure_at ps k in
    let l = x.ranked in
    record { proc = x.proc ∙ sym y.proc; id_of = x.id_of ∙ sym y.id_of; alike = made_alike (ranking.generated l.body l.rank) (ranking.goal p l.head l.body l.rank) g.made h.made x.made (same_loop p n y.ranked l h.made y.made) }

-- ---- The goals of a procedure, and of a file

none_missed : {I : Type 0} (law : NeverBoth) (Is : I → NamedGoal → Type 0) → ((i : I) (g h : NamedGoal) → Is i g → Is i h → AreOneGoal g h) → (certs : List GoalCert) (is : List I) (ds : List DecidedGoal) (cs : List CheckedGoal) → IsGrowingAfter None (certificates_of certs) → AllZip (λ i (d : DecidedGoal). HasFound (Is i) Decides d) is ds → AllZip (λ i (c : CheckedGoal). HasFound (Is i) (IsMissOf certs) c) is cs → Each (IsServed certs) ds → NothingIsMissed ds cs
none_missed law Is same certs [] [] [] g x y s = tt
none_missed law Is same certs [] [] (c ∷ cs) g x y s = absurd y
none_missed law Is same certs [] (d ∷ ds) cs g x y s = absurd x
none_missed law Is same certs (i ∷ is) [] cs g x y s = absurd x
none_missed law Is same certs (i ∷ is) (d ∷ ds) [] g x y s = absurd y
none_missed law Is same certs (i ∷ is) (d ∷ ds) (c ∷ cs) g x y s = ((λ t e. no_miss law certs d.goal c g (same i d.goal c.goal x.0.goal y.0.goal) y.0.found (s.0 t e) c.found refl), none_missed law Is same certs is ds cs g x.1 y.1 s.1)

none_missed_throughout : {I : Type 0} (law : NeverBoth) (Is : ℕ → I → NamedGoal → Type 0) (goals : TypedProcedure → List I) → ((k : ℕ) (i : I) (g h : NamedGoal) → Is k i g → Is k i h → AreOneGoal g h) → (certs : List GoalCert) (k : ℕ) (qs : List TypedProcedure) (table : List (List DecidedGoal)) (checked : List (List CheckedGoal)) → IsGrowingAfter None (certificates_of certs) → AllNumbered (λ n q (ds : List DecidedGoal). AllZip (λ i (d : DecidedGoal). HasFound (Is n i) Decides d) (goals q) ds) k qs table → AllNumbered (λ n q (cs : List CheckedGoal). AllZip (λ i (c : CheckedGoal). HasFound (Is n i) (IsMissOf certs) c) (goals q) cs) k qs checked → Each (Each (IsServed certs)) table → NothingIsMissedThroughout table checked
none_missed_throughout law Is goals same certs k [] [] [] g x y s = tt
none_missed_throughout law Is goals same certs k [] [] (cs ∷ checked) g x y s = absurd y
none_missed_throughout law Is goals same certs k [] (ds ∷ table) checked g x y s = absurd x
none_missed_throughout law Is goals same certs k (q ∷ qs) [] checked g x y s = absurd x
none_missed_throughout law Is goals same certs k (q ∷ qs) (ds ∷ table) [] g x y s = absurd y
none_missed_throughout law Is goals same certs k (q ∷ qs) (ds ∷ table) (cs ∷ checked) g x y s = (none_missed law (Is k) (same k) certs (goals q) ds cs g x.0 y.0 s.0, none_missed_throughout law Is goals same certs (suc k) qs table checked g x.1 y.1 s.1)

pub proved_goals_are_accepted : TreesCertify → NeverBoth → ProvedGoalsAreAccepted
proved_goals_are_accepted trees law ps table ranks checked rules x r y =
    let served = proofs_are_accepted trees ps table ranks rules x r in
    none_missed_throughout law (IsGoalOf ps) bound_goals (bound_same ps) (certified_in_file table ranks) 0 ps table checked served.order x y served.accepted

pub proved_rankings_are_accepted : TreesCertify → NeverBoth → ProvedRankingsAreAccepted
proved_rankings_are_accepted trees law ps table ranks checked rules x r y =
    let served = proofs_are_accepted trees ps table ranks rules x r in
    none_missed_throughout law (IsRankingGoal ps) ranked_loops (ranking_same ps) (certified_in_file table ranks) 0 ps ranks checked served.order r y served.ranked
