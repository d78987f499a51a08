-- Lists of goals that are settled one after the other.
use Rattle.std.proofs.Common.{◌≡◌, refl, sym, ap, ◌∙◌, subst, append-nil, append_assoc, List, [], ◌∷◌, ◌++◌, map}
use Rattle.std.proofs.lemmas.List.{map-append}
use Rattle.std.specs.Borrow.{Bor}
use Rattle.std.specs.List.{AllZip}
use Rattle.goal_answers.specs.declared.named_goals.NamedGoal.{NamedGoal}
use Rattle.goal_answers.specs.declared.trees.GoalCert.{GoalCert}
use Rattle.heyvl_acts.specs.Rules.{Each}
use Rattle.ranking_rule.proofs.exported.Each.{each_append}
use Rattle.verify_core.specs.GoalDecisions.{DecidedGoal, certificate, certificates}
use Rattle.verify_core.specs.Outcomes.{outcomes}
use Rattle.verify_core.specs.Tables.{AreFound, GoalWith}
use Rattle.verify_core.specs.declared.outcomes.GoalOutcome.{GoalOutcome}
use Rattle.verify_core.specs.declared.outcomes.Outcome.{Outcome}
use Rattle.verify_core.specs.declared.settled_goals.Way.{Way}
use Rattle.verify_core.specs.declared.settled_goals.Way.TheVariants.{Decide, Check}
use Rattle.verify_core.specs.internal.SettledGoals.{AreSettled, Finding, Finds, IsChecked, IsSettled, certificates_by, outcome_by}

-- ---- By certificates

pub checked_settled : (way : Way) (given : Bor (List GoalCert)) (g : NamedGoal) (o : Outcome) (certs : List GoalCert) → way ≡ Check given → IsChecked given.now g o → IsSettled way g o certs certs
checked_settled way given g o certs e h = subst (λ w. IsSettled w g o certs certs) (sym e) (record {
  found = h.miss;
  finds = h.is_miss;
  outcome_is = h.outcome_is;
  certs_are = sym (append-nil certs);
})

-- ---- One after the other

decided_more : (ds : List DecidedGoal) (d : DecidedGoal) → certificates ds ++ certificates (d ∷ []) ≡ certificates (ds ++ d ∷ [])
decided_more [] d = refl
decided_more (x ∷ ds) d = append_assoc (certificate x) (certificates ds) (certificates (d ∷ [])) ∙ ap (λ l. certificate x ++ l) (decided_more ds d)

certificates_more : (way : Way) (gs : List (GoalWith (Finding way))) (g : GoalWith (Finding way)) → certificates_by way gs ++ certificates_by way (g ∷ []) ≡ certificates_by way (gs ++ g ∷ [])
certificates_more Decide ds d = decided_more ds d
certificates_more (Check certs) cs c = refl

no_certificates : (way : Way) → certificates_by way [] ≡ []
no_certificates Decide = refl
no_certificates (Check certs) = refl

pub none_settled : (way : Way) (os : List GoalOutcome) (before after : List GoalCert) → os ≡ [] → after ≡ before → AreSettled way [] os before after
none_settled way os before after e f = record {
  row = [];
  goals_are = refl;
  finds = tt;
  outcomes_are = e;
  certs_are = f ∙ (sym (append-nil before) ∙ ap (λ l. before ++ l) (sym (no_certificates way)));
}

pub one_settled : (way : Way) (gs : List NamedGoal) (os us : List GoalOutcome) (before middle after : List GoalCert) (g : NamedGoal) (o : Outcome) → AreSettled way gs os before middle → IsSettled way g o middle after → us ≡ os ++ (record { goal = g; outcome = o }) ∷ [] → AreSettled way (gs ++ g ∷ []) us before after
one_settled way gs os us before middle after g o h s e = record {
  row = h.row ++ new ∷ [];
  goals_are = map-append (λ (x : GoalWith (Finding way)). x.goal) h.row (new ∷ []) ∙ ap (λ l. l ++ g ∷ []) h.goals_are;
  finds = each_append (λ (x : GoalWith (Finding way)). Finds way x.goal x.found) h.row (new ∷ []) h.finds (s.finds, tt);
  outcomes_are = e ∙ (ap (λ l. l ++ (record { goal = g; outcome = o }) ∷ []) h.outcomes_are ∙ (ap (λ x. outcomes (outcome_by way) h.row ++ (record { goal = g; outcome = x }) ∷ []) s.outcome_is ∙ sym (map-append (λ (x : GoalWith (Finding way)). record { goal = x.goal; outcome = outcome_by way x.found }) h.row (new ∷ []))));
  certs_are = s.certs_are ∙ (ap (λ l. l ++ certificates_by way (new ∷ [])) h.certs_are ∙ (append_assoc before (certificates_by way h.row) (certificates_by way (new ∷ [])) ∙ ap (λ l. before ++ l) (certificates_more way h.row new)));
}
  where
    new : GoalWith (Finding way)
    new = record { goal = g; found = s.found }

-- ---- The goals of a procedure

pub found_row : {I : Type 0} (Is : I → NamedGoal → Type 0) (way : Way) (is : List I) (row : List (GoalWith (Finding way))) → AllZip Is is (map (λ (x : GoalWith (Finding way)). x.goal) row) → Each (λ (x : GoalWith (Finding way)). Finds way x.goal x.found) row → AreFound Is (Finds way) is row
found_row Is way [] [] g f = tt
found_row Is way [] (x ∷ row) g f = g
found_row Is way (i ∷ is) [] g f = g
found_row Is way (i ∷ is) (x ∷ row) g f = (record { goal = g.0; found = f.0 }, found_row Is way is row g.1 f.1)
