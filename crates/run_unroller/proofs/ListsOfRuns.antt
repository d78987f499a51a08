-- Sums over the list after `n` steps are those over the runs under the script's scheduler.
use Rattle.std.proofs.Common.{◌≡◌, ℕ, ◌+◌, refl, ap, ap₂, sym, ◌∙◌, List, [], ◌∷◌}
use Prim.Native.Nat.{zero, suc}
use Rattle.heyvl_num.specs.Rational.{Rational, oneʳ}
use Rattle.heyvl_num.specs.Value.{Value, ◌+ᵛ◌, ◌*ᵛ◌}
use Rattle.heyvl_num.specs.Value.Value.{finite}
use Rattle.heyvl_num.specs.WeightedSums.{weighted_sum, joined}
use Rattle.heyvl_num.proofs.exported.Rationals.{zero-≤ʳ-one}
use Rattle.heyvl_num.proofs.exported.Values.{+ᵛ-zero}
use Rattle.heyvl_num.proofs.exported.WeightedSums.{weighted_sum-cons, weighted_sum-empty, weighted_sum-joined}
use Rattle.heyvl_acts.specs.Acts.{TypedProcedure}
use Rattle.heyvl_acts.specs.Rules.{Each, MeetsRules}
use Rattle.run_machine.specs.declared.configurations.Decide.{Decide}
use Rattle.run_machine.specs.ConfigConditions.{IsConfig}
use Rattle.run_machine.specs.Configurations.{Config, Outcomes}
use Rattle.run_machine.specs.Names.{Numbered, Stored, item_of, items_of, config_of}
use Rattle.run_machine.specs.Replies.{StoredOutcomes, named}
use Rattle.run_machine.specs.Runs.{onward, runs, spread}
use Rattle.run_machine.specs.SameConfigurations.{same_stored}
use Rattle.run_machine.specs.Scheduler.{Tree}
use Rattle.run_machine.specs.Step.{Decision, step, step_items, sure}
use Rattle.run_machine.specs.StepAnswers.{asked_by}
use Rattle.run_machine.specs.StoredLaws.{Comes, MeansStep}
use Rattle.run_machine.specs.StoredStep.{stored_step}
use Rattle.run_machine.proofs.exported.Equations.{one_times, runs-next, runs-zero, worth-one, worth-spread}
use Rattle.run_machine.proofs.exported.SameConfigs.{same_is_equal}
use Rattle.run_machine.proofs.exported.StoredSteps.{stored_steps_are_meant}
use Rattle.run_laws.specs.EachOutcome.{EachOutcome}
use Rattle.run_unroller.specs.RunLists.{RunList, after, after_step, begun, follow, followed, outcomes}
use Rattle.run_unroller.specs.ScriptTrees.{forest, scripted}
use Rattle.run_unroller.specs.Scripts.{entry}
use Rattle.run_unroller.specs.UnrollLaws.{ListsAreRuns}
use Rattle.run_unroller.proofs.MergedSums.{joined_kept, merged_kept, merged_sum}

one_sum : {A : Type 0} (f : A → Value) (a : A) → weighted_sum f ((oneʳ, a) ∷ []) ≡ f a
one_sum f a = weighted_sum-cons f oneʳ a [] ∙ ap (λ v. (finite oneʳ *ᵛ f a) +ᵛ v) (weighted_sum-empty f) ∙ +ᵛ-zero _ ∙ one_times (f a)

sum_same : {A : Type 0} (P : A → Type 0) (f g : A → Value) → ((a : A) → P a → f a ≡ g a) → (xs : List (Rational × A)) → EachOutcome P xs → weighted_sum f xs ≡ weighted_sum g xs
sum_same P f g h [] q = weighted_sum-empty f ∙ sym (weighted_sum-empty g)
sum_same P f g h (x ∷ xs) q = weighted_sum-cons f x.0 x.1 xs ∙ ap₂ (λ u v. (finite x.0 *ᵛ u) +ᵛ v) (h x.1 q.0.1) (sum_same P f g h xs q.1) ∙ sym (weighted_sum-cons g x.0 x.1 xs)

stays : (ps : List TypedProcedure) (n : ℕ) (c : Config) (t : Tree) → c.items ≡ [] → runs ps n c t ≡ sure c
stays ps zero c t e = runs-zero ps c t
stays ps (suc n) c t e = runs-next ps n c t ∙ ap (λ is. onward ps (runs ps n) is c t) e

configs_come : (ps : List TypedProcedure) (made : ℕ) (xs : StoredOutcomes) → Each (Comes ps made) xs → EachOutcome (IsConfig ps) xs
configs_come ps made [] h = tt
configs_come ps made (x ∷ xs) h = ((h.0.weight, h.0.config), configs_come ps made xs h.1)

module _ (ps : List TypedProcedure) (rules : Each (MeetsRules ps) ps) (script : List Decide) where
  means : (c : Stored) → IsConfig ps c → MeansStep ps c (entry script c.made)
  means c h = stored_steps_are_meant ps rules c h (entry script c.made)

  follow_configs : (c : Stored) → IsConfig ps c → EachOutcome (IsConfig ps) (follow ps script c)
  follow_configs c h = go c.items
    where
      go : (is : List Numbered) → EachOutcome (IsConfig ps) (followed ps script is c)
      go [] = ((zero-≤ʳ-one, h), tt)
      go (i ∷ is) = configs_come ps _ (stored_step ps c (entry script c.made)) (means c h).comes

  joined_configs : (rs : RunList) → EachOutcome (IsConfig ps) rs → EachOutcome (IsConfig ps) (joined (follow ps script) rs)
  joined_configs rs q = joined_kept (IsConfig ps) (IsConfig ps) (follow ps script) follow_configs rs q

  first_step : (n : ℕ) (rs : RunList) → after ps script (suc n) rs ≡ after ps script n (after_step ps script rs)
  first_step zero rs = refl
  first_step (suc n) rs = ap (after_step ps script) (first_step n rs)

  module _ (f : Config → Value) where
    -- The sum over the runs of a configuration.
    abbrev summed : ℕ → Stored → Value
    summed n c = weighted_sum f (runs ps n (config_of ps c) (scripted ps script n c.made (config_of ps c)))

    spreads : (n made : ℕ) (xs : StoredOutcomes) → Each (Comes ps made) xs → weighted_sum f (spread (runs ps n) (named ps xs) (forest (scripted ps script n made) (named ps xs))) ≡ weighted_sum (summed n) xs
    spreads n made [] h = weighted_sum-empty f ∙ sym (weighted_sum-empty (summed n))
    spreads n made (x ∷ xs) h =
        worth-spread f (runs ps n) (x.0, config_of ps x.1) (named ps xs) (forest (scripted ps script n made) (named ps (x ∷ xs)))
        ∙ ap₂ (λ m v. (finite x.0 *ᵛ weighted_sum f (runs ps n (config_of ps x.1) (scripted ps script n m (config_of ps x.1)))) +ᵛ v) (sym h.0.asks) (spreads n made xs h.1)
        ∙ sym (weighted_sum-cons (summed n) x.0 x.1 xs)

    one_more : (n : ℕ) (c : Stored) → IsConfig ps c → weighted_sum (summed n) (follow ps script c) ≡ summed (suc n) c
    one_more n c h = go c.items refl
      where
        d : Decision
        d = entry script c.made

        made : ℕ
        made = c.made + asked_by (items_of ps c.items)

        tree : Tree
        tree = scripted ps script (suc n) c.made (config_of ps c)

        go : (is : List Numbered) → c.items ≡ is → weighted_sum (summed n) (follow ps script c) ≡ summed (suc n) c
        go [] e =
            let none : (config_of ps c).items ≡ [] = ap (items_of ps) e in
            ap (λ is. weighted_sum (summed n) (followed ps script is c)) e
            ∙ one_sum (summed n) c
            ∙ ap (weighted_sum f) (stays ps n (config_of ps c) _ none ∙ sym (stays ps (suc n) (config_of ps c) tree none))
        go (i ∷ is) e =
            let items : (config_of ps c).items ≡ item_of ps i ∷ items_of ps is = ap (items_of ps) e in
            let m = means c h in
            let under : Outcomes → Value = λ l. weighted_sum f (spread (runs ps n) l (forest (scripted ps script n made) (step ps (config_of ps c) d))) in
            let next : weighted_sum f (onward ps (runs ps n) (config_of ps c).items (config_of ps c) tree) ≡ under (step ps (config_of ps c) d) = ap (λ l. weighted_sum f (onward ps (runs ps n) l (config_of ps c) tree)) items ∙ ap under (sym (ap (λ l. step_items ps l (config_of ps c) d) items)) in
            ap (λ l. weighted_sum (summed n) (followed ps script l c)) e
            ∙ sym (spreads n made (stored_step ps c d) m.comes)
            ∙ ap (λ l. weighted_sum f (spread (runs ps n) l (forest (scripted ps script n made) l))) m.steps
            ∙ sym next
            ∙ sym (ap (weighted_sum f) (runs-next ps n (config_of ps c) tree))

    sums_are : (n : ℕ) (rs : RunList) → EachOutcome (IsConfig ps) rs → weighted_sum f (outcomes ps (after ps script n rs)) ≡ weighted_sum (summed n) rs
    sums_are zero rs q = now rs
      where
        now : (xs : RunList) → weighted_sum f (outcomes ps xs) ≡ weighted_sum (summed 0) xs
        now [] = weighted_sum-empty f ∙ sym (weighted_sum-empty (summed 0))
        now (x ∷ xs) =
            weighted_sum-cons f x.0 (config_of ps x.1) (outcomes ps xs)
            ∙ ap₂ (λ u v. (finite x.0 *ᵛ u) +ᵛ v) (sym (ap (weighted_sum f) (runs-zero ps (config_of ps x.1) Tree.leaf) ∙ worth-one f (config_of ps x.1))) (now xs)
            ∙ sym (weighted_sum-cons (summed 0) x.0 x.1 xs)
    sums_are (suc n) rs q =
        ap (λ l. weighted_sum f (outcomes ps l)) (first_step n rs)
        ∙ sums_are n (after_step ps script rs) (merged_kept same_stored (IsConfig ps) (joined (follow ps script) rs) (joined_configs rs q))
        ∙ merged_sum same_stored (λ c d. (same_is_equal c d).0) (IsConfig ps) (summed n) (joined (follow ps script) rs) (joined_configs rs q)
        ∙ weighted_sum-joined (summed n) (follow ps script) rs
        ∙ sum_same (IsConfig ps) (λ c. weighted_sum (summed n) (follow ps script c)) (summed (suc n)) (one_more n) rs q

pub lists_are_runs : ListsAreRuns
lists_are_runs ps rules script n c h f = sums_are ps rules script f n (begun c) ((zero-≤ʳ-one, h), tt) ∙ one_sum (summed ps rules script f n) c
