-- For the proofs of other crates: acts in which each `if` has an arm. There are at most as many of
-- them as statements of their encoding.
use Prim.Native.Nat.{zero, suc}
use Rattle.heyvl_acts.proofs.exported.Each.{each_first, each_second}
use Rattle.heyvl_acts.specs.Acts.{Act, Acts, Arms, TypedProcedure, acts_in, join, procedure_at}
use Rattle.heyvl_acts.specs.Count.{count_of, count_of_act, count_of_arms}
use Rattle.heyvl_acts.specs.Places.{in_order, inside, inside_arms}
use Rattle.heyvl_acts.specs.Rules.{Each, LoopsMeet}
use Rattle.std.proofs.Common.{List, [], arith, length, length-append, ◌*◌, ◌+◌, ◌++◌, ◌<◌, ◌^◌, ◌∷◌, ◌≤◌, ℕ}

abbrev pub HasSomeArm : Arms → Type 0
HasSomeArm Arms.no_arm = ⊥
HasSomeArm (Arms.arm g b more) = Unit {0}

-- Each `if` in an act, in acts and in arms has an arm.
abbrev mutual
  pub IsArmedAct : Act → Type 0
  IsArmedAct (Act.ifs arms e span) = HasSomeArm arms × (AreArmedIn arms × AreArmed e)
  IsArmedAct (Act.pick up a b span) = AreArmed a × AreArmed b
  IsArmedAct (Act.loop h b) = AreArmed b
  IsArmedAct (Act.set x t span) = Unit {0}
  IsArmedAct (Act.draw x ps span) = Unit {0}
  IsArmedAct (Act.toss x f span) = Unit {0}
  IsArmedAct (Act.any x up ty span) = Unit {0}
  IsArmedAct (Act.reward f span) = Unit {0}
  IsArmedAct (Act.check kind f span) = Unit {0}
  IsArmedAct (Act.validate co span) = Unit {0}
  IsArmedAct (Act.call xs q es span) = Unit {0}

  pub AreArmed : Acts → Type 0
  AreArmed Acts.done = Unit {0}
  AreArmed (Acts.next a rest) = IsArmedAct a × AreArmed rest

  pub AreArmedIn : Arms → Type 0
  AreArmedIn Arms.no_arm = Unit {0}
  AreArmedIn (Arms.arm g b more) = AreArmed b × AreArmedIn more

pub armed_join : (a b : Acts) → AreArmed a → AreArmed b → AreArmed (join a b)
armed_join Acts.done b h k = k
armed_join (Acts.next a rest) b h k = (h.0, armed_join rest b h.1 k)

-- The copies of a body have together at least as many statements as the body and two more.
copies_large : (k n : ℕ) → 1 ≤ k → n + 2 ≤ k * (n + 2)
copies_large zero n l = omega (arith, l)
copies_large (suc k) n l = omega arith

module _ (p : TypedProcedure) where
  mutual
    act_counts : (a : Act) → IsArmedAct a → LoopsMeet p a → Each (LoopsMeet p) (inside a) → suc (length (inside a)) ≤ count_of_act a
    act_counts (Act.set x t span) h k ks = omega arith
    act_counts (Act.draw x ps span) h k ks = omega arith
    act_counts (Act.toss x f span) h k ks = omega arith
    act_counts (Act.any x up ty span) h k ks = omega arith
    act_counts (Act.reward f span) h k ks = omega arith
    act_counts (Act.ifs Arms.no_arm e span) h k ks = absurd h.0
    act_counts (Act.ifs (Arms.arm g b more) e span) h k ks =
        let left = each_first (LoopsMeet p) (in_order b ++ inside_arms more) (in_order e) ks in
        let first = acts_count b h.1.0.0 (each_first (LoopsMeet p) (in_order b) (inside_arms more) left) in
        let further = arms_count more h.1.0.1 (each_second (LoopsMeet p) (in_order b) (inside_arms more) left) in
        let other = acts_count e h.1.1 (each_second (LoopsMeet p) (in_order b ++ inside_arms more) (in_order e) ks) in
        omega (arith, first, further, other, length-append (in_order b ++ inside_arms more) (in_order e), length-append (in_order b) (inside_arms more))
    act_counts (Act.pick up a b span) h k ks =
        let left = acts_count a h.0 (each_first (LoopsMeet p) (in_order a) (in_order b) ks) in
        let right = acts_count b h.1 (each_second (LoopsMeet p) (in_order a) (in_order b) ks) in
        omega (arith, left, right, length-append (in_order a) (in_order b))
    act_counts (Act.check kind f span) h k ks = omega arith
    act_counts (Act.validate co span) h k ks = omega arith
    act_counts (Act.loop l b) h k ks =
        let body = acts_count b h ks in
        let copies = copies_large l.k (count_of b) k.some_copy in
        omega (arith, body, copies)
    act_counts (Act.call xs q es span) h k ks = omega arith

    pub acts_count : (acts : Acts) → AreArmed acts → Each (LoopsMeet p) (in_order acts) → length (in_order acts) ≤ count_of acts
    acts_count Acts.done h ks = omega arith
    acts_count (Acts.next a rest) h ks =
        let first = act_counts a h.0 ks.0 (each_first (LoopsMeet p) (inside a) (in_order rest) ks.1) in
        let further = acts_count rest h.1 (each_second (LoopsMeet p) (inside a) (in_order rest) ks.1) in
        omega (arith, first, further, length-append (inside a) (in_order rest))

    arms_count : (arms : Arms) → AreArmedIn arms → Each (LoopsMeet p) (inside_arms arms) → length (inside_arms arms) ≤ count_of_arms arms
    arms_count Arms.no_arm h ks = omega arith
    arms_count (Arms.arm g b more) h ks =
        let first = acts_count b h.0 (each_first (LoopsMeet p) (in_order b) (inside_arms more) ks) in
        let further = arms_count more h.1 (each_second (LoopsMeet p) (in_order b) (inside_arms more) ks) in
        omega (arith, first, further, length-append (in_order b) (inside_arms more))

-- A body has fewer than 2^31 acts.
pub IsFew : TypedProcedure → Type 0
IsFew p = length (in_order (acts_in p.body)) < 2 ^ 31

pub few_armed : (p : TypedProcedure) → AreArmed (acts_in p.body) → Each (LoopsMeet p) (in_order (acts_in p.body)) → count_of (acts_in p.body) ≤ 1024 → IsFew p
unfolding IsFew
few_armed p h ks few = let n = acts_count p (acts_in p.body) h ks in omega (arith, n, few)

pub few_each : (ps : List TypedProcedure) → Each IsFew ps → (n : ℕ) → length (in_order (acts_in (procedure_at ps n).body)) < 2 ^ 31
unfolding IsFew
few_each [] h n = omega arith
few_each (p ∷ ps) h zero = h.0
few_each (p ∷ ps) h (suc n) = few_each ps h.1 n
