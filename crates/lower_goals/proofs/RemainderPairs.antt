-- The borrowed parts are those of a remainder pair.
use Rattle.std.proofs.Common.{◌≡◌, ◌∙◌, refl, sym, ap}
use Rattle.std.specs.Prelude.{Option, Some, None}
use Rattle.heylo_formula.specs.PlainTrees.{form_of}
use Rattle.heyvl_acts.proofs.exported.PlainActsAre.{head_of}
use Rattle.heyvl_acts.specs.Acts.{Head, TypedProcedure}
use Rattle.heyvl_acts.specs.PlainActs.{acts_of}
use Rattle.lower_goals.specs.OneLoop.{OneLoop}
use Rattle.lower_goals.specs.RemainderPairs.{IsInputBound, RemainderPair}
use Rattle.lower_goals.specs.declared.remainder_pairs.RankedParts.{RankedParts}
use Rattle.lower_goals.specs.declared.shapes.LoopParts.{LoopParts}
use Rattle.lower_goals.specs.LentRemainderPairs.{ArePair}
use Rattle.lower_goals.specs.internal.Parts.{IsRankedAs}
use Rattle.lower_goals.specs.internal.Shapes.{IsLoopOf}
use Rattle.lower_goals.proofs.UniqueLoops.{unique_loops}

module _ (p q : TypedProcedure) (bound : IsInputBound p q) (l : LoopParts) (is : IsLoopOf p (Some l)) where
  abbrev lent : OneLoop p
  lent = record { front = acts_of l.front.now; head = head_of l.one.now; body = acts_of l.one.now.body.items; behind = acts_of l.behind.now; is = is }

  no_rank : {A : Type 0} (a b : Option A) (r : A) → a ≡ None → a ≡ b → b ≡ Some r → ⊥
  no_rank a b r e f g = absurd (let h = sym e ∙ (f ∙ g) in cc)

  pub ranked_pair : (o : Option RankedParts) → IsRankedAs l o → ArePair p q o
  ranked_pair (Some parts) h = record {
    pair = record { loop = lent; rank = (parts.step, form_of parts.ranking.now); ranked = h.1.1; bound = bound };
    front = sym (ap acts_of h.0);
    number = sym h.1.0;
    rank = refl;
  }
  ranked_pair None h = λ r. no_rank lent.head.rank r.loop.head.rank r.rank h (ap (λ (x : Head). x.rank) (unique_loops p lent r.loop).head_is) r.ranked

pub no_bound : (p q : TypedProcedure) → (IsInputBound p q → ⊥) → RemainderPair p q → ⊥
no_bound p q n r = n r.bound

pub no_loop : (p q : TypedProcedure) → (OneLoop p → ⊥) → RemainderPair p q → ⊥
no_loop p q n r = n r.loop

-- ---- There is one pair

some_some : {A : Type 0} (a b : A) → Some a ≡ Some b → a ≡ b
some_some a b e = cc

module _ (p q : TypedProcedure) (r s : RemainderPair p q) where
  pub one_front : r.loop.front ≡ s.loop.front
  one_front = (unique_loops p r.loop s.loop).front_is

  pub one_rank : r.rank ≡ s.rank
  one_rank = some_some r.rank s.rank (sym r.ranked ∙ (ap (λ (x : Head). x.rank) (unique_loops p r.loop s.loop).head_is ∙ s.ranked))
