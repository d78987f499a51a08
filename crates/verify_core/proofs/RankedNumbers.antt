-- The numbers of the loops with a ranking, and the loops that they name.
use Rattle.std.proofs.Common.{◌≡◌, ℕ, cond, ◌==◌, refl, ap, sym, subst, ◌∙◌, arith, List, [], ◌∷◌, ◌++◌, append_assoc, append-nil}
use Rattle.std.specs.Option.{is_some}
use Rattle.std.specs.Prelude.{Option, Some, None, if◌then◌else◌}
use Prim.Native.Nat.{zero, suc}
use Rattle.heyvl_num.specs.Rational.{Rational}
use Rattle.heylo_formula.specs.Formula.{Form}
use Rattle.heyvl_acts.specs.Acts.{Act, Acts, Head, TypedProcedure, acts_in}
use Rattle.heyvl_acts.specs.Places.{in_order}
use Rattle.heyvl_acts.specs.Rules.{Each, MeetsRules, counted, loop_numbers}
use Rattle.act_walks.specs.Loops.{loop_in}
use Rattle.ranking_rule.specs.Rankings.{RankedLoop}
use Rattle.goal_answers.specs.declared.named_goals.NamedGoal.{NamedGoal}
use Rattle.verify_core.specs.Rankings.{AreRankingGoals, IsRankingGoal, ranked_in, ranked_loops}
use Rattle.verify_core.proofs.FirstFound.{IsFirst, further, other_number, own_number, same_from}

-- ---- The loops that they name

record HasRanking (m : ℕ) (l : Head × Acts) (n : ℕ) : Type 0 where
  pub number : m ≡ n
  pub rank : Rational × Form
  pub ranked : l.0.rank ≡ Some rank

abbrev IsRankedFrom : ℕ → List Act → ℕ → Type 0
IsRankedFrom from acts n = IsFirst loop_in HasRanking from acts n

one_more : (from : ℕ) (h : Head) (b : Acts) (rest : List Act) (o : Option (Rational × Form)) → h.number ≡ from → h.rank ≡ o → Each (IsRankedFrom from (Act.loop h b ∷ rest)) (ranked_in rest) → Each (IsRankedFrom from (Act.loop h b ∷ rest)) (if is_some o then h.number ∷ ranked_in rest else ranked_in rest)
one_more from h b rest None e r k = k
one_more from h b rest (Some x) e r k = (record { number = h.number; item = (h, b); least = omega (arith, e); found = own_number h.number (h, b) (loop_in h.number rest); says = record { number = refl; rank = x; ranked = r } }, k)

ranked_from : (from n : ℕ) (acts : List Act) → loop_numbers acts ≡ counted from n → Each (IsRankedFrom from acts) (ranked_in acts)
ranked_from from n [] e = tt
ranked_from from zero (Act.loop h b ∷ rest) e = absurd (cc)
ranked_from from (suc n) (Act.loop h b ∷ rest) e =
    let k : h.number ≡ from = cc in
    let r : loop_numbers rest ≡ counted (suc from) n = cc in
    one_more from h b rest h.rank k refl (further loop_in HasRanking from rest (Act.loop h b ∷ rest) (ranked_in rest) (λ m l. ap (λ i. cond (i == m) (Some (h, b)) (loop_in m rest)) k ∙ other_number from m (h, b) (loop_in m rest) l) (ranked_from (suc from) n rest r))
ranked_from from n (Act.set x u span ∷ rest) e = same_from loop_in HasRanking from rest (Act.set x u span ∷ rest) (ranked_in rest) (λ m. refl) (ranked_from from n rest e)
ranked_from from n (Act.draw x qs span ∷ rest) e = same_from loop_in HasRanking from rest (Act.draw x qs span ∷ rest) (ranked_in rest) (λ m. refl) (ranked_from from n rest e)
ranked_from from n (Act.toss x f span ∷ rest) e = same_from loop_in HasRanking from rest (Act.toss x f span ∷ rest) (ranked_in rest) (λ m. refl) (ranked_from from n rest e)
ranked_from from n (Act.any x up ty span ∷ rest) e = same_from loop_in HasRanking from rest (Act.any x up ty span ∷ rest) (ranked_in rest) (λ m. refl) (ranked_from from n rest e)
ranked_from from n (Act.reward f span ∷ rest) e = same_from loop_in HasRanking from rest (Act.reward f span ∷ rest) (ranked_in rest) (λ m. refl) (ranked_from from n rest e)
ranked_from from n (Act.ifs arms f span ∷ rest) e = same_from loop_in HasRanking from rest (Act.ifs arms f span ∷ rest) (ranked_in rest) (λ m. refl) (ranked_from from n rest e)
ranked_from from n (Act.pick up a b span ∷ rest) e = same_from loop_in HasRanking from rest (Act.pick up a b span ∷ rest) (ranked_in rest) (λ m. refl) (ranked_from from n rest e)
ranked_from from n (Act.check kind f span ∷ rest) e = same_from loop_in HasRanking from rest (Act.check kind f span ∷ rest) (ranked_in rest) (λ m. refl) (ranked_from from n rest e)
ranked_from from n (Act.validate co span ∷ rest) e = same_from loop_in HasRanking from rest (Act.validate co span ∷ rest) (ranked_in rest) (λ m. refl) (ranked_from from n rest e)
ranked_from from n (Act.call xs q es span ∷ rest) e = same_from loop_in HasRanking from rest (Act.call xs q es span ∷ rest) (ranked_in rest) (λ m. refl) (ranked_from from n rest e)

each_loop : (p : TypedProcedure) (from : ℕ) (ns : List ℕ) → Each (IsRankedFrom from (in_order (acts_in p.body))) ns → Each (RankedLoop p) ns
each_loop p from [] h = tt
each_loop p from (n ∷ ns) h = (record { head = h.0.item.0; body = h.0.item.1; rank = h.0.says.rank; named = subst (λ m. loop_in m (in_order (acts_in p.body)) ≡ Some h.0.item) h.0.says.number h.0.found; ranked = h.0.says.ranked }, each_loop p from ns h.1)

pub each_ranked : (ps : List TypedProcedure) (p : TypedProcedure) → MeetsRules ps p → Each (RankedLoop p) (ranked_loops p)
each_ranked ps p meets = each_loop p 1 (ranked_loops p) (ranked_from 1 p.loops (in_order (acts_in p.body)) meets.numbered)

-- ---- The goals of the rankings

abbrev pub GoalsTo : List TypedProcedure → ℕ → List ℕ → List ℕ → List NamedGoal → Type 0
GoalsTo ps p all left gs = (more : List NamedGoal) → AreRankingGoals ps p left more → AreRankingGoals ps p all (gs ++ more)

pub no_rankings : (ps : List TypedProcedure) (p : ℕ) (all left : List ℕ) (gs : List NamedGoal) → all ≡ left → gs ≡ [] → GoalsTo ps p all left gs
no_rankings ps p all left gs e f more h = subst (λ l. AreRankingGoals ps p all (l ++ more)) (sym f) (subst (λ ns. AreRankingGoals ps p ns more) (sym e) h)

pub next_ranking : (ps : List TypedProcedure) (p : ℕ) (all left rest : List ℕ) (n : ℕ) (gs hs : List NamedGoal) (g : NamedGoal) → left ≡ n ∷ rest → hs ≡ gs ++ (g ∷ []) → IsRankingGoal ps p n g → GoalsTo ps p all left gs → GoalsTo ps p all rest hs
next_ranking ps p all left rest n gs hs g e f k h more m = subst (λ l. AreRankingGoals ps p all (l ++ more)) (sym f) (subst (AreRankingGoals ps p all) (sym (append_assoc gs (g ∷ []) more)) (h (g ∷ more) (subst (λ ns. AreRankingGoals ps p ns (g ∷ more)) (sym e) (k, m))))

pub all_rankings : (ps : List TypedProcedure) (p : ℕ) (all left : List ℕ) (gs : List NamedGoal) → left ≡ [] → GoalsTo ps p all left gs → AreRankingGoals ps p all gs
all_rankings ps p all left gs e h = subst (AreRankingGoals ps p all) (append-nil gs) (h [] (subst (λ ns. AreRankingGoals ps p ns []) (sym e) tt))
