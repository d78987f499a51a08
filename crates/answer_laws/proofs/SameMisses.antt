-- Certificates in the order of their text determine verdicts that agree.
use Rattle.std.proofs.Common.{◌≡◌, ℕ, refl, sym, ap, ◌∙◌, subst, arith, Bool, List}
use Rattle.std.specs.Prelude.{Option, Some, None, Vec}
use Rattle.std.specs.declared.alloc.Global.{Global}
use Rattle.cert_text.specs.Certificates.{IsGrowingAfter, certificates_of}
use Rattle.farkas_check.specs.AcceptedCertificates.{IsCertificate, IsNoCertificate}
use Rattle.farkas_check.specs.CertificateLaws.{NeverBoth, OnePlace}
use Rattle.goal_answers.specs.Trees.{Tree}
use Rattle.goal_answers.specs.declared.causes.Cause.{Cause}
use Rattle.goal_answers.specs.declared.decisions.Decision.TheVariants.{Falsified, Unknown}
use Rattle.goal_answers.specs.declared.misses.Miss.{Miss}
use Rattle.goal_answers.specs.declared.misses.Miss.TheVariants.{Absent, Place}
use Rattle.goal_answers.specs.declared.named_goals.NamedGoal.{NamedGoal}
use Rattle.goal_answers.specs.declared.trees.GoalCert.{GoalCert}
use Rattle.heylo_formula.specs.Formula.{Form}
use Rattle.heylo_formula.specs.Goals.{Goal}
use Rattle.heylo_formula.specs.declared.goals.Made.{Made}
use Rattle.heylo_formula.specs.declared.goals.Made.TheVariants as made
use Rattle.heylo_formula.specs.declared.values.Val.{Val}
use Rattle.heyvl_acts.specs.Acts.{TypedProcedure, procedure_at}
use Rattle.loop_encodings.specs.BoundGoals.{BoundGoal, goal_id}
use Rattle.verify_core.specs.CertifiedGoals.{Certifies, CheckedGoal, HasTree, IsMissOf, IsRefusedAt, outcome_of}
use Rattle.verify_core.specs.GoalDecisions as decided
use Rattle.verify_core.specs.Outcomes.{is_falsified, is_open, is_proved}
use Rattle.verify_core.specs.Questions.{IsGoalOf, goal, question}
use Rattle.vp_generator.specs.PrenexedGoals.{IsMadeWithin}
use Rattle.answer_laws.specs.SingleAnswers.{CheckedVerdictsAreUnique, SaySameMiss, SaySameVerdict}
use Rattle.answer_laws.proofs.AlikeVerdicts.{Agree}
use Rattle.answer_laws.proofs.CertOrder.{one_tree}
use Rattle.answer_laws.proofs.SingleTables.{Comes, missed_lawful, two_tables}

-- Both results of checks are a success, or they agree.
abbrev SaySame : Option Miss → Option Miss → Type 0
SaySame None None = Unit {0}
SaySame (Some m) (Some n) = SaySameMiss m n
SaySame None (Some n) = ⊥
SaySame (Some m) None = ⊥

-- ---- One tree

never_both : NeverBoth → (f : Form) (g : Goal) (m n : Made) (t : Tree) (place : List Bool) → IsMadeWithin f g m → IsMadeWithin f g n → Certifies m t → IsRefusedAt n t place → ⊥
never_both law f g (made.Goal x) (made.Goal y) t place a b c r = law g t place (subst (λ z. IsCertificate z t) a.0 c) (subst (λ z. IsNoCertificate z t place) b.0 r)
never_both law f g (made.Goal x) made.Depth t place a b c r = let s = a.1.shallow in omega (arith, s, b)
never_both law f g (made.Goal x) made.Nodes t place a b c r = let s = a.1.few in omega (arith, s, b)
never_both law f g made.Depth n t place a b c r = c
never_both law f g made.Nodes n t place a b c r = c

one_place : OnePlace → (f : Form) (g : Goal) (m n : Made) (t : Tree) (p r : List Bool) → IsMadeWithin f g m → IsMadeWithin f g n → IsRefusedAt m t p → IsRefusedAt n t r → p ≡ r
one_place law f g (made.Goal x) (made.Goal y) t p r a b h k = law g t p r (subst (λ z. IsNoCertificate z t p) a.0 h) (subst (λ z. IsNoCertificate z t r) b.0 k)
one_place law f g (made.Goal x) made.Depth t p r a b h k = absurd (let s = a.1.shallow in omega (arith, s, b))
one_place law f g (made.Goal x) made.Nodes t p r a b h k = absurd (let s = a.1.few in omega (arith, s, b))
one_place law f g made.Depth (made.Goal y) t p r a b h k = absurd (let s = b.1.shallow in omega (arith, s, a))
one_place law f g made.Nodes (made.Goal y) t p r a b h k = absurd (let s = b.1.few in omega (arith, s, a))
one_place law f g made.Depth made.Depth t p r a b h k = h ∙ sym k
one_place law f g made.Depth made.Nodes t p r a b h k = h ∙ sym k
one_place law f g made.Nodes made.Depth t p r a b h k = h ∙ sym k
one_place law f g made.Nodes made.Nodes t p r a b h k = h ∙ sym k

-- ---- One goal

module _ (never : NeverBoth) (place : OnePlace) (certs : List GoalCert) (grows : IsGrowingAfter None (certificates_of certs)) (ps : List TypedProcedure) (k : ℕ) (i : BoundGoal) where
  tree_of_goal : (g : NamedGoal) (t : Tree) → IsGoalOf ps k i g → HasTree certs g.proc g.id t → HasTree certs k (goal_id i) t
  tree_of_goal g t a h = subst (λ j. HasTree certs k j t) a.id_of (subst (λ n. HasTree certs n g.id t) a.proc h)

  tree_for_goal : (g : NamedGoal) (t : Tree) → IsGoalOf ps k i g → HasTree certs k (goal_id i) t → HasTree certs g.proc g.id t
  tree_for_goal g t a h = subst (λ n. HasTree certs n g.id t) (sym a.proc) (subst (λ j. HasTree certs k j t) (sym a.id_of) h)

  same_tree : (g h : NamedGoal) (t u : Tree) → IsGoalOf ps k i g → IsGoalOf ps k i h → HasTree certs g.proc g.id t → HasTree certs h.proc h.id u → t ≡ u
  same_tree g h t u a b c d = one_tree certs k (goal_id i) t u grows (tree_of_goal g t a c) (tree_of_goal h u b d)

  missed_twice : (g h : NamedGoal) (m n : Option Miss) → IsGoalOf ps k i g → IsGoalOf ps k i h → IsMissOf certs g m → IsMissOf certs h n → SaySame m n
  missed_twice g h None None a b c d = tt
  missed_twice g h None (Some Absent) a b c d = d c.tree (tree_for_goal h c.tree b (tree_of_goal g c.tree a c.has))
  missed_twice g h None (Some (Place way)) a b c d =
      let q = question ps (procedure_at ps k) i in
      never_both never q.found (goal q) g.made h.made c.tree way.items a.made b.made c.certifies (subst (λ t. IsRefusedAt h.made t way.items) (sym (same_tree g h c.tree d.tree a b c.has d.has)) d.refused)
  missed_twice g h (Some Absent) None a b c d = c d.tree (tree_for_goal g d.tree a (tree_of_goal h d.tree b d.has))
  missed_twice g h (Some Absent) (Some Absent) a b c d = tt
  missed_twice g h (Some Absent) (Some (Place way)) a b c d = c d.tree (tree_for_goal g d.tree a (tree_of_goal h d.tree b d.has))
  missed_twice g h (Some (Place way)) None a b c d =
      let q = question ps (procedure_at ps k) i in
      never_both never q.found (goal q) h.made g.made d.tree way.items b.made a.made d.certifies (subst (λ t. IsRefusedAt g.made t way.items) (same_tree g h c.tree d.tree a b c.has d.has) c.refused)
  missed_twice g h (Some (Place way)) (Some Absent) a b c d = d c.tree (tree_for_goal h c.tree b (tree_of_goal g c.tree a c.has))
  missed_twice g h (Some (Place way)) (Some (Place other)) a b c d =
      let q = question ps (procedure_at ps k) i in
      one_place place q.found (goal q) g.made h.made c.tree way.items other.items a.made b.made c.refused (subst (λ t. IsRefusedAt h.made t other.items) (sym (same_tree g h c.tree d.tree a b c.has d.has)) d.refused)

-- ---- Outcomes

record HasSameTests (m n : Option Miss) : Type 0 where
  proved : is_proved (outcome_of m) ≡ is_proved (outcome_of n)
  falsified : is_falsified (outcome_of m) ≡ is_falsified (outcome_of n)
  is_open : is_open (outcome_of m) ≡ is_open (outcome_of n)

same_tests : (m n : Option Miss) → SaySame m n → HasSameTests m n
same_tests None None h = record { proved = refl; falsified = refl; is_open = refl }
same_tests None (Some n) h = absurd h
same_tests (Some m) None h = absurd h
same_tests (Some m) (Some n) h = record { proved = refl; falsified = refl; is_open = refl }

missed_by : (m : Option Miss) (n : Miss) → outcome_of m ≡ outcome_of (Some n) → m ≡ Some n
missed_by None n e = cc
missed_by (Some m) n e = cc

not_falsified : (m : Option Miss) (s : Vec Val Global) → outcome_of m ≡ decided.outcome_of (Falsified s) → ⊥
not_falsified None s e = cc
not_falsified (Some m) s e = cc

not_unknown : (m : Option Miss) (c : Cause) → outcome_of m ≡ decided.outcome_of (Unknown c) → ⊥
not_unknown None c e = cc
not_unknown (Some m) c e = cc

agree_missed : Agree (Comes outcome_of SaySame) SaySameVerdict
agree_missed = record {
  proved_test = λ o u r. sym (ap is_proved r.first) ∙ ((same_tests r.a r.b r.same).proved ∙ ap is_proved r.second);
  falsified_test = λ o u r. sym (ap is_falsified r.first) ∙ ((same_tests r.a r.b r.same).falsified ∙ ap is_falsified r.second);
  open_test = λ o u r. sym (ap is_open r.first) ∙ ((same_tests r.a r.b r.same).is_open ∙ ap is_open r.second);
  apart = λ c m r. not_unknown r.a c r.first;
  apart_back = λ m c r. not_unknown r.b c r.second;
  falsified = λ i s q r. absurd (not_falsified r.a s r.first);
  unknown = λ i c d r. absurd (not_unknown r.a c r.first);
  missed = λ i m n r. (refl, subst (λ x. SaySame (Some m) x) (missed_by r.b n r.second) (subst (λ x. SaySame x r.b) (missed_by r.a m r.first) r.same));
  no_body = tt;
  valid = λ why. refl;
  conditional = λ q. refl;
  verified = tt;
}

pub checked_verdicts_unique : NeverBoth → OnePlace → CheckedVerdictsAreUnique
checked_verdicts_unique never place ps certs t u grows a b p v w h k = two_tables outcome_of SaySame (IsMissOf certs) ps (λ n i (x y : CheckedGoal) c d. missed_twice never place certs grows ps n i x.goal y.goal x.found y.found c.goal d.goal c.found d.found) SaySameVerdict agree_missed missed_lawful t u a b p v w h k
