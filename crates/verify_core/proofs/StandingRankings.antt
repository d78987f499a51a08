-- The places of the goal of a ranking are within the text, if those of the procedures are.
use Rattle.std.proofs.Common.{◌≡◌, ◌≤◌, ℕ, subst, List, ◌++◌, length}
use Rattle.std.specs.Prelude.{Option, Some}
use Rattle.heyvl_num.specs.Rational.{Rational}
use Rattle.heyvl_places.specs.declared.spans.Span.{Span}
use Rattle.heylo_formula.specs.Formula.{Form}
use Rattle.heyvl_acts.specs.Acts.{Act, Acts, Arms, TypedProcedure, procedure_at, type_list, variables}
use Rattle.heyvl_acts.specs.Places.{in_order, inside, inside_arms}
use Rattle.heyvl_acts.specs.Rules.{Each}
use Rattle.linear_form.specs.Nonlinear.{first_product, nonlinear_product}
use Rattle.loop_encodings.proofs.exported.FromRules.{each_first, each_second}
use Rattle.ranking_rule.specs.RankingGoals.{found, goal}
use Rattle.ranking_rule.specs.Rankings.{RankedLoop}
use Rattle.heyvl_acts.specs.Upward.{upward, upward_arms, upward_next}
use Rattle.heyvl_acts.specs.StandingParts.{ActStands, FormStands, GuardsStand, RankStands, StandsWithin}
use Rattle.ranking_rule.proofs.exported.Each.{each_append}
use Rattle.ranking_rule.proofs.exported.RankedActs.{of_body, of_head}
use Rattle.verify_core.proofs.StandingActs.{Stand, stands_at}
use Rattle.verify_core.proofs.StandingForms.{or_stands, product_stands, unbound_stands, vp_stands}

-- ---- The acts of a ranking

guards_stand : (n : ℕ) (arms : Arms) → GuardsStand n arms → GuardsStand n (upward_arms arms)
guards_stand n Arms.no_arm h = tt
guards_stand n (Arms.arm g b more) h = (h.0, guards_stand n more h.1)

mutual
  upward_stands : (n : ℕ) (acts : Acts) → Stand n acts → Stand n (upward acts)
  upward_stands n Acts.done h = tt
  upward_stands n (Acts.next a rest) h = next_stands n a (upward rest) h.0 (each_first (ActStands n) (inside a) (in_order rest) h.1) (upward_stands n rest (each_second (ActStands n) (inside a) (in_order rest) h.1))

  next_stands : (n : ℕ) (a : Act) (rest : Acts) → ActStands n a → Each (ActStands n) (inside a) → Stand n rest → Stand n (upward_next a rest)
  next_stands n (Act.set x t span) rest h i k = (h, k)
  next_stands n (Act.draw x qs span) rest h i k = (h, k)
  next_stands n (Act.toss x f span) rest h i k = (h, k)
  next_stands n (Act.any x up ty span) rest h i k = (h, k)
  next_stands n (Act.reward f span) rest h i k = k
  next_stands n (Act.ifs arms e span) rest h i k =
      let one = each_append (ActStands n) (inside_arms (upward_arms arms)) (in_order (upward e)) (arms_stand n arms (each_first (ActStands n) (inside_arms arms) (in_order e) i)) (upward_stands n e (each_second (ActStands n) (inside_arms arms) (in_order e) i)) in
      ((h.0, guards_stand n arms h.1), each_append (ActStands n) (inside_arms (upward_arms arms) ++ in_order (upward e)) (in_order rest) one k)
  next_stands n (Act.pick up a b span) rest h i k =
      let one = each_append (ActStands n) (in_order (upward a)) (in_order (upward b)) (upward_stands n a (each_first (ActStands n) (in_order a) (in_order b) i)) (upward_stands n b (each_second (ActStands n) (in_order a) (in_order b) i)) in
      (h, each_append (ActStands n) (in_order (upward a) ++ in_order (upward b)) (in_order rest) one k)
  next_stands n (Act.check kind f span) rest h i k = (h, k)
  next_stands n (Act.validate co span) rest h i k = (h, k)
  next_stands n (Act.loop g b) rest h i k = (h, each_append (ActStands n) (in_order b) (in_order rest) i k)
  next_stands n (Act.call xs q es span) rest h i k = (h, k)

  arms_stand : (n : ℕ) (arms : Arms) → Each (ActStands n) (inside_arms arms) → Each (ActStands n) (inside_arms (upward_arms arms))
  arms_stand n Arms.no_arm i = tt
  arms_stand n (Arms.arm g b more) i = each_append (ActStands n) (in_order (upward b)) (inside_arms (upward_arms more)) (upward_stands n b (each_first (ActStands n) (in_order b) (inside_arms more) i)) (arms_stand n more (each_second (ActStands n) (in_order b) (inside_arms more) i))

-- ---- The goal

rank_stands : (n : ℕ) (o : Option (Rational × Form)) (r : Rational × Form) → o ≡ Some r → RankStands n o → FormStands n r.1
rank_stands n o r e h = subst (RankStands n) e h

pub ranking_stands : (n : ℕ) (ps : List TypedProcedure) (p k : ℕ) (l : RankedLoop (procedure_at ps p) k) (s : Span) → Each (StandsWithin n) ps → nonlinear_product (goal (procedure_at ps p) l.head l.body l.rank) ≡ Some s → s.from ≤ n
ranking_stands n ps p k l s h e =
    let q = procedure_at ps p in
    let acts = (stands_at n ps p h).acts in
    let head = of_head (ActStands n) q k l acts in
    let ranking : FormStands n l.rank.1 = rank_stands n l.head.rank l.rank l.ranked head.1.1.1 in
    let body : FormStands n (found l.head l.body l.rank) = (head.1.1.0, ((tt, vp_stands n (upward l.body) l.rank.1 (upward_stands n l.body (of_body (ActStands n) q k l acts)) ranking), tt)) in
    let g = goal q l.head l.body l.rank in
    or_stands n (first_product g.stated) (first_product g.found) s (product_stands n g.stated s ranking) (product_stands n g.found s (unbound_stands n (λ x. x) (length (type_list (variables q))) (found l.head l.body l.rank) body)) e
