-- A stored reply determines the result of a step.
use Rattle.std.proofs.Common.{◌≡◌, ℕ, Bool, true, false, ◌||◌, nat_lt, refl, ap, ap₂, sym, subst, ◌∙◌, List, [], ◌∷◌}
use Rattle.std.specs.Prelude.{if◌then◌else◌}
use Rattle.heyvl_num.specs.Rational.{Rational}
use Rattle.heyvl_acts.specs.Acts.{TypedProcedure}
use Rattle.heyvl_acts.specs.Rules.{Each}
use Rattle.run_machine.specs.declared.configurations.Config as C
use Rattle.run_machine.specs.declared.configurations.Stepped.{Stepped}
use Rattle.run_machine.specs.declared.configurations.Stepped.TheVariants.{Next, Deep, Bits}
use Rattle.run_machine.specs.BoundedStep.{Answer, answer_of, any_deep, bounded, outcomes_of, items_fit}
use Rattle.run_machine.specs.ConfigConditions.{IsConfig}
use Rattle.run_machine.specs.Configurations.{Config}
use Rattle.run_machine.specs.Names.{Stored, stored, config_of, items_of}
use Rattle.run_machine.specs.Step.{Decision}
use Rattle.run_machine.specs.StepAnswers.{EachNext, IsStep}
use Rattle.run_machine.specs.Replies.{StoredOutcomes, Reply, any_large, named, replied, reply_of, stored_outcomes}
use Rattle.run_machine.specs.StoredLaws.{Comes, MeansStep}
use Rattle.run_machine.specs.StoredStep.{stored_reply, stored_step}
use Rattle.run_machine.proofs.Depths.{all_values}

named_stored : (ps : List TypedProcedure) (xs : List (Rational × C.Config)) → outcomes_of ps xs ≡ named ps (stored_outcomes xs)
named_stored ps [] = refl
named_stored ps (x ∷ xs) = ap (λ l. (x.0, config_of ps (stored x.1)) ∷ l) (named_stored ps xs)

deep_named : (ps : List TypedProcedure) (xs : StoredOutcomes) → any_deep (named ps xs) ≡ any_large xs
deep_named ps [] = refl
deep_named ps (x ∷ xs) = ap₂ (λ n b. nat_lt 512 n || b) (all_values ps x.1) (deep_named ps xs)

abbrev answered : List TypedProcedure → Reply → Answer
answered ps (Reply.next xs) = Answer.next (named ps xs)
answered ps Reply.deep = Answer.deep
answered ps Reply.bits = Answer.bits

of_reply : (ps : List TypedProcedure) (r : Stepped) → answer_of ps r ≡ answered ps (reply_of r)
of_reply ps (Next outcomes) = ap Answer.next (named_stored ps outcomes.items)
of_reply ps Deep = refl
of_reply ps Bits = refl

small_or_deep : (ps : List TypedProcedure) (xs : StoredOutcomes) (b : Bool) → answered ps (if b then Reply.deep else Reply.next xs) ≡ (if b then Answer.deep else Answer.next (named ps xs))
small_or_deep ps xs true = refl
small_or_deep ps xs false = refl

of_replied : (ps : List TypedProcedure) (fits : Bool) (xs : StoredOutcomes) → answered ps (replied fits xs) ≡ bounded fits (named ps xs)
of_replied ps true xs = small_or_deep ps xs (any_large xs) ∙ ap (λ b. if b then Answer.deep else Answer.next (named ps xs)) (sym (deep_named ps xs))
of_replied ps false xs = refl

abbrev EachReply : (Stored → Type 0) → Reply → Type 0
EachReply P (Reply.next xs) = Each (λ x. P x.1) xs
EachReply P Reply.deep = Unit {0}
EachReply P Reply.bits = Unit {0}

each_stored : (P : Stored → Type 0) (xs : List (Rational × C.Config)) → Each (λ x. P x.1) (stored_outcomes xs) → Each (λ x. P (stored x.1)) xs
each_stored P [] h = tt
each_stored P (x ∷ xs) h = (h.0, each_stored P xs h.1)

each_next : (P : Stored → Type 0) (r : Stepped) → EachReply P (reply_of r) → EachNext P r
each_next P (Next outcomes) h = each_stored P outcomes.items h
each_next P Deep h = tt
each_next P Bits h = tt

each_small : (P : Stored → Type 0) (xs : StoredOutcomes) (b : Bool) → Each (λ x. P x.1) xs → EachReply P (if b then Reply.deep else Reply.next xs)
each_small P xs true h = tt
each_small P xs false h = h

each_replied : (P : Stored → Type 0) (fits : Bool) (xs : StoredOutcomes) → Each (λ x. P x.1) xs → EachReply P (replied fits xs)
each_replied P true xs h = each_small P xs (any_large xs) h
each_replied P false xs h = tt

all_ask : (ps : List TypedProcedure) (made : ℕ) (xs : StoredOutcomes) → Each (Comes ps made) xs → Each (λ x. x.1.made ≡ made) xs
all_ask ps made [] h = tt
all_ask ps made (x ∷ xs) h = (h.0.asks, all_ask ps made xs h.1)

all_configs : (ps : List TypedProcedure) (made : ℕ) (xs : StoredOutcomes) → Each (Comes ps made) xs → Each (λ x. IsConfig ps x.1) xs
all_configs ps made [] h = tt
all_configs ps made (x ∷ xs) h = (h.0.config, all_configs ps made xs h.1)

pub is_step : (ps : List TypedProcedure) (c : Stored) (d : Decision) (r : Stepped) → MeansStep ps c d → reply_of r ≡ stored_reply ps c d → IsStep ps c d r
is_step ps c d r m e =
    let fits = items_fit (items_of ps c.items) (config_of ps c) in
    let xs = stored_step ps c d in
    record {
      reply = e;
      answer = of_reply ps r ∙ ap (answered ps) e ∙ of_replied ps fits xs ∙ ap (bounded fits) m.steps;
      made = each_next _ r (subst (EachReply _) (sym e) (each_replied _ fits xs (all_ask ps _ xs m.comes)));
      configs = each_next _ r (subst (EachReply _) (sym e) (each_replied _ fits xs (all_configs ps _ xs m.comes)));
    }
