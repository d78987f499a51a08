-- A step adds at most one iteration of each loop, and asks for at most one decision.
use Rattle.std.proofs.Common.{◌≡◌, ℕ, ◌+◌, ◌≤◌, ◌==◌, refl, ap, sym, subst, arith, Bool, true, false, List, [], ◌∷◌, get_or, replicate}
use Prim.Native.Nat.{zero, suc}
use Rattle.std.specs.Prelude.{if◌then◌else◌}
use Rattle.heyvl_num.specs.Rational.{Rational}
use Rattle.heyvl_num.specs.WeightedSums.{joined}
use Rattle.heyvl_num.proofs.exported.Rationals.{zero-≤ʳ-one}
use Rattle.heylo_formula.specs.Formula.{Term}
use Rattle.heylo_formula.specs.Choices.{Choices}
use Rattle.heylo_formula.specs.Meaning.{holds}
use Rattle.heylo_formula.specs.State.{environment}
use Rattle.heyvl_acts.specs.Acts.{Act, TypedProcedure, procedure_at}
use Rattle.heyvl_acts.specs.Rules.{Each, MeetsRules}
use Rattle.heyvl_acts.specs.Tosses.{toss_parts}
use Rattle.run_machine.specs.declared.configurations.Decide.{Decide}
use Rattle.run_machine.specs.Configurations.{Item, Frame, Config, running}
use Rattle.run_machine.specs.Names.{Numbered, Stored, items_of, turns_of, config_of}
use Rattle.run_machine.specs.Replies.{StoredOutcomes, named}
use Rattle.run_machine.specs.SameConfigurations.{same_stored}
use Rattle.run_machine.specs.Step.{Decision, sure, moved, turned, one_more, branches, step_act, step_back, step_items}
use Rattle.run_machine.specs.StepAnswers.{asked_by}
use Rattle.run_machine.specs.StoredLaws.{Comes, MeansStep}
use Rattle.run_machine.specs.StoredStep.{stored_step}
use Rattle.run_machine.proofs.exported.StoredSteps.{stored_steps_are_meant}
use Rattle.run_unroller.specs.RunLists.{RunList, after_step, begun, follow, followed}
use Rattle.run_unroller.specs.Scripts.{entry}
use Rattle.run_unroller.specs.Unrolling.{Begins}
use Rattle.run_unroller.specs.internal.Growth.{Within, AllWithin}
use Rattle.run_unroller.proofs.MergedSums.{joined_kept, merged_kept}

abbrev Grown : Config → Rational × Config → Type 0
Grown c x = (k : ℕ) → x.1.turns k ≤ c.turns k + 1

one_turn : (b : Bool) (n : ℕ) → (if b then 1 + n else n) ≤ n + 1
one_turn true n = omega arith
one_turn false n = omega arith

counted_turn : (b : Bool) (n : ℕ) (t : ℕ → ℕ) (k : ℕ) → (if b then one_more n t else t) k ≤ t k + 1
counted_turn true n t k = one_turn (k == n) (t k)
counted_turn false n t k = omega arith

same : (c : Config) (k : ℕ) → c.turns k ≤ c.turns k + 1
same c k = omega arith

tested : (b : Bool) (c : Config) (is js : List Item) (n : ℕ) → Each (Grown c) (if b then sure (turned c is n) else sure (moved c js c.state))
tested true c is js n = (λ k. counted_turn (running c.procedure c.frames == c.procedure) n c.turns k, tt)
tested false c is js n = (same c, tt)

branched : (c : Config) (is : List Item) (x : ℕ) (qs : List (Rational × Term)) → Each (Grown c) (branches c is x qs)
branched c is x [] = tt
branched c is x (q ∷ qs) = (same c, branched c is x qs)

acted : (ps : List TypedProcedure) (a : Act) (is : List Item) (c : Config) (d : Decision) → Each (Grown c) (step_act ps a is c d)
acted ps (Act.set x t span) is c d = (same c, tt)
acted ps (Act.draw x qs span) is c d = branched c is x qs
acted ps (Act.toss x f span) is c d = branched c is x (toss_parts f (environment c.state))
acted ps (Act.any x up ty span) is c d = (same c, tt)
acted ps (Act.reward f span) is c d = (same c, tt)
acted ps (Act.ifs arms e span) is c d = (same c, tt)
acted ps (Act.pick up a b span) is c d = (same c, tt)
acted ps (Act.check kind f span) is c d = (same c, tt)
acted ps (Act.validate co span) is c d = (same c, tt)
acted ps (Act.loop h b) is c d = tested (holds h.guard (environment c.state) Choices.stop) c _ is h.number
acted ps (Act.call xs p es span) is c d = (same c, tt)

backed : (ps : List TypedProcedure) (is : List Item) (c : Config) (fs : List Frame) → Each (Grown c) (step_back ps is c fs)
backed ps is c [] = (same c, tt)
backed ps is c (f ∷ fs) = (same c, tt)

stepped : (ps : List TypedProcedure) (is : List Item) (c : Config) (d : Decision) → Each (Grown c) (step_items ps is c d)
stepped ps [] c d = tt
stepped ps (Item.act a ∷ is) c d = acted ps a is c d
stepped ps (Item.turn h b ∷ is) c d = tested (holds h.guard (environment c.state) Choices.stop) c _ is h.number
stepped ps (Item.out x ty ∷ is) c d = (same c, tt)
stepped ps (Item.back ∷ is) c d = backed ps is c c.frames

asked_once : (is : List Item) → asked_by is ≤ 1
asked_once [] = omega arith
asked_once (Item.act (Act.set x t span) ∷ is) = omega arith
asked_once (Item.act (Act.draw x qs span) ∷ is) = omega arith
asked_once (Item.act (Act.toss x f span) ∷ is) = omega arith
asked_once (Item.act (Act.any x up ty span) ∷ is) = omega arith
asked_once (Item.act (Act.reward f span) ∷ is) = omega arith
asked_once (Item.act (Act.ifs arms e span) ∷ is) = omega arith
asked_once (Item.act (Act.pick up a b span) ∷ is) = omega arith
asked_once (Item.act (Act.check kind f span) ∷ is) = omega arith
asked_once (Item.act (Act.validate co span) ∷ is) = omega arith
asked_once (Item.act (Act.loop h b) ∷ is) = omega arith
asked_once (Item.act (Act.call xs p es span) ∷ is) = omega arith
asked_once (Item.turn h b ∷ is) = omega arith
asked_once (Item.out x ty ∷ is) = omega arith
asked_once (Item.back ∷ is) = omega arith

-- ---- Stored configurations

grown_named : (ps : List TypedProcedure) (c : Config) (xs : StoredOutcomes) → Each (Grown c) (named ps xs) → Each (λ x. (k : ℕ) → turns_of x.1.turns k ≤ c.turns k + 1) xs
grown_named ps c [] h = tt
grown_named ps c (x ∷ xs) h = (h.0, grown_named ps c xs h.1)

all_within : (ps : List TypedProcedure) (n made asked : ℕ) (c : Stored) (xs : StoredOutcomes) → Within ps n c → made ≡ c.made + asked → asked ≤ 1 → Each (λ x. (k : ℕ) → turns_of x.1.turns k ≤ turns_of c.turns k + 1) xs → Each (Comes ps made) xs → AllWithin ps (suc n) xs
all_within ps n made asked c [] w e a g h = tt
all_within ps n made asked c (x ∷ xs) w e a g h =
    ((h.0.weight, record { config = h.0.config; turns = λ k. let p = g.0 k in let l = w.turns k in omega (arith, p, l); made = let p = h.0.asks in let l = w.made in omega (arith, p, l, a, e) }), all_within ps n made asked c xs w e a g.1 h.1)

step_within : (ps : List TypedProcedure) (n : ℕ) (c : Stored) (d : Decision) → Within ps n c → MeansStep ps c d → AllWithin ps (suc n) (stored_step ps c d)
step_within ps n c d w m = all_within ps n (c.made + asked_by (items_of ps c.items)) (asked_by (items_of ps c.items)) c (stored_step ps c d) w refl (asked_once (items_of ps c.items)) (grown_named ps (config_of ps c) (stored_step ps c d) (subst (Each (Grown (config_of ps c))) (sym m.steps) (stepped ps (config_of ps c).items (config_of ps c) d))) m.comes

module _ (ps : List TypedProcedure) (rules : Each (MeetsRules ps) ps) (script : List Decide) where
  follow_within : (n : ℕ) (c : Stored) → Within ps n c → AllWithin ps (suc n) (follow ps script c)
  follow_within n c w = go c.items
    where
      go : (is : List Numbered) → AllWithin ps (suc n) (followed ps script is c)
      go [] = ((zero-≤ʳ-one, record { config = w.config; turns = λ k. let l = w.turns k in omega (arith, l); made = let l = w.made in omega (arith, l) }), tt)
      go (i ∷ is) = step_within ps n c (entry script c.made) w (stored_steps_are_meant ps rules c w.config (entry script c.made))

  pub list_within : (n : ℕ) (rs : RunList) → AllWithin ps n rs → AllWithin ps (suc n) (after_step ps script rs)
  list_within n rs h = merged_kept same_stored (Within ps (suc n)) (joined (follow ps script) rs) (joined_kept (Within ps n) (Within ps (suc n)) (follow ps script) (follow_within n) rs h)

no_turns : (k n : ℕ) → turns_of (replicate n 0) k ≤ 0
no_turns zero n = omega arith
no_turns (suc k) n = go k n
  where
    go : (k n : ℕ) → get_or (replicate n 0) k 0 ≤ 0
    go k zero = omega arith
    go zero (suc n) = omega arith
    go (suc k) (suc n) = go k n

pub first_within : (ps : List TypedProcedure) (p : ℕ) (c : Stored) (rs : RunList) → Begins ps p c → rs ≡ begun c → AllWithin ps 0 rs
first_within ps p c rs b e = subst (AllWithin ps 0) (sym e) ((zero-≤ʳ-one, record { config = b.config; turns = λ k. subst (λ ts. turns_of ts k ≤ 0) (sym (ap (λ z. z.turns) b.first)) (no_turns k (procedure_at ps p).loops); made = subst (λ m. m ≤ 0) (sym (ap (λ z. z.made) b.first)) (omega arith) }), tt)
