-- The weights of a step have the sum 1.
use Rattle.std.proofs.Common.{◌≡◌, ℕ, refl, ap, ◌∙◌, Bool, true, false, cond, List, [], ◌∷◌}
use Rattle.heyvl_num.specs.Rational.{Rational, oneʳ, ◌+ʳ◌}
use Rattle.heyvl_num.specs.WeightedSums.{total_weight}
use Rattle.heyvl_num.proofs.exported.Rationals.{+ʳ-zero}
use Rattle.heylo_formula.specs.State.{environment}
use Rattle.heylo_formula.specs.Choices.{Choices}
use Rattle.heylo_formula.specs.Formula.{Term}
use Rattle.heylo_formula.specs.Meaning.{holds}
use Rattle.heyvl_acts.specs.Acts.{Head, Act, Acts, TypedProcedure}
use Rattle.heyvl_acts.specs.Rules.{WeighsOne}
use Rattle.heyvl_acts.specs.Tosses.{toss_weight, toss_parts}
use Rattle.heyvl_acts.proofs.exported.Tosses.{flips_weigh}
use Rattle.run_machine.specs.Configurations.{Item, Frame, Config, push}
use Rattle.run_machine.specs.Step.{Decision, sure, moved, turned, branches, test, step_act, step_back}
use Rattle.run_machine.specs.RunLaws.{StepsWeighOne}

sure_weighs : (c : Config) → total_weight (sure c) ≡ oneʳ
unfolding total_weight
sure_weighs c = +ʳ-zero oneʳ

test_weighs : (c : Config) (is : List Item) (h : Head) (b : Acts) → total_weight (test c is h b) ≡ oneʳ
test_weighs c is h b = go (holds h.guard (environment c.state) Choices.stop)
  where
    go : (g : Bool) → total_weight (cond g (sure (turned c (push b (Item.turn h b ∷ is)) h.number)) (sure (moved c is c.state))) ≡ oneʳ
    go true = sure_weighs _
    go false = sure_weighs _

branches_weigh : (c : Config) (is : List Item) (x : ℕ) (qs : List (Rational × Term)) → total_weight (branches c is x qs) ≡ total_weight qs
unfolding total_weight
branches_weigh c is x [] = refl
branches_weigh c is x (q ∷ qs) = ap (λ w. q.0 +ʳ w) (branches_weigh c is x qs)

act_weighs : (ps : List TypedProcedure) (a : Act) (is : List Item) (c : Config) (d : Decision) → WeighsOne a → total_weight (step_act ps a is c d) ≡ oneʳ
act_weighs ps (Act.set x t span) is c d h = sure_weighs _
act_weighs ps (Act.draw x qs span) is c d h = branches_weigh c is x qs ∙ h
act_weighs ps (Act.toss x f span) is c d h = branches_weigh c is x (toss_parts f (environment c.state)) ∙ flips_weigh (toss_weight f (environment c.state))
act_weighs ps (Act.any x up ty span) is c d h = sure_weighs _
act_weighs ps (Act.reward f span) is c d h = sure_weighs _
act_weighs ps (Act.ifs arms e span) is c d h = sure_weighs _
act_weighs ps (Act.pick up a b span) is c d h = sure_weighs _
act_weighs ps (Act.check kind f span) is c d h = sure_weighs _
act_weighs ps (Act.validate co span) is c d h = sure_weighs _
act_weighs ps (Act.loop h b) is c d k = test_weighs c is h b
act_weighs ps (Act.call xs p es span) is c d h = sure_weighs _

back_weighs : (ps : List TypedProcedure) (is : List Item) (c : Config) (fs : List Frame) → total_weight (step_back ps is c fs) ≡ oneʳ
back_weighs ps is c [] = sure_weighs _
back_weighs ps is c (f ∷ fs) = sure_weighs _

pub steps_weigh_one : StepsWeighOne
steps_weigh_one ps (Item.act a) is c d h = act_weighs ps a is c d h
steps_weigh_one ps (Item.turn k b) is c d h = test_weighs c is k b
steps_weigh_one ps (Item.out x ty) is c d h = sure_weighs _
steps_weigh_one ps Item.back is c d h = back_weighs ps is c c.frames
