-- Given choices for the post of an act, some choices for the whole yield the same value.
use Rattle.std.proofs.Common.{◌≡◌, ℕ, refl, ap, Bool, true, false, cond, List, [], ◌∷◌}
use Prim.Native.Nat.{suc}
use Rattle.heyvl_num.specs.Rational.{Rational}
use Rattle.heyvl_num.specs.Value.{◌+ᵛ◌}
use Rattle.heylo_formula.specs.State.{Env}
use Rattle.heylo_formula.specs.Choices.{Choices, left, right}
use Rattle.heylo_formula.specs.Formula.{Term}
use Rattle.heylo_formula.specs.Meaning.{holds}
use Rattle.heylo_formula.specs.declared.values.Val.TheVariants.{Truth}
use Rattle.heyvl_acts.specs.Acts.{Act, Acts, Arms, join}
use Rattle.heyvl_acts.specs.Forward.{Post, part, parts, meant, meant_act, meant_arms}
use Rattle.heyvl_acts.specs.Matching.{taken, summed, summed_parts, Reaches, ActsJoin, DrawsMatch, TossesMatch, RewardsMatch, BranchesMatch, AnysMatch, PicksMatch, ChecksMatch}

pub joined : ActsJoin
joined l q a b k = go a
  where
    go : (a : Acts) → meant l q (join a b) k ≡ meant l q a (meant l q b k)
    go Acts.done = refl
    go (Acts.next a more) = ap (λ (p : Post). meant_act l q a p) (go more)

packed : (x : ℕ) (ps : List (Rational × Term)) (k total : Post) (s : Env) (ds : ℕ → Choices) (c : Choices) → Reaches (parts x ps k total s) (summed x ps k s ds (total s c))
packed x [] k total s ds c = record { choices = c; reached = refl }
packed x (p ∷ ps) k total s ds c = let h = packed x ps k (λ r d. total r (left d) +ᵛ part x p k r (right d)) s (λ n. ds (suc n)) (Choices.choose (Truth false) c (ds 0)) in record { choices = h.choices; reached = h.reached }

pub draws : DrawsMatch
draws l q x ps span k s ds = go ps
  where
    go : (ps : List (Rational × Term)) → Reaches (meant_act l q (Act.draw x ps span) k s) (summed_parts x ps k s ds)
    go [] = record { choices = Choices.stop; reached = refl }
    go (p ∷ ps) = let h = packed x ps k (part x p k) s (λ n. ds (suc n)) (ds 0) in record { choices = h.choices; reached = h.reached }

pub tosses : TossesMatch
tosses l q x f span k s d e = record { choices = Choices.choose (Truth false) (Choices.choose (Truth false) Choices.stop d) (Choices.choose (Truth false) Choices.stop e); reached = refl }

pub rewards : RewardsMatch
rewards l q f span k s d = record { choices = Choices.choose (Truth false) d Choices.stop; reached = refl }

pub branches : BranchesMatch
branches l q arms e span k s d = go arms
  where
    here : (g : Bool) (b : Acts) (more : Arms) → Reaches (meant_arms l q more k (meant l q e k) s) (meant l q (taken more e s) k s d) → Reaches (λ c. cond g (meant l q b k s (right c)) (meant_arms l q more k (meant l q e k) s (right c))) (meant l q (cond g b (taken more e s)) k s d)
    here true b more h = record { choices = Choices.choose (Truth false) Choices.stop d; reached = refl }
    here false b more h = record { choices = Choices.choose (Truth false) Choices.stop h.choices; reached = h.reached }

    go : (arms : Arms) → Reaches (meant_arms l q arms k (meant l q e k) s) (meant l q (taken arms e s) k s d)
    go Arms.no_arm = record { choices = d; reached = refl }
    go (Arms.arm g b more) = here (holds g s Choices.stop) b more (go more)

pub anys : AnysMatch
anys l q x up ty span k s v d = record { choices = Choices.choose v d Choices.stop; reached = refl }

pub picks : PicksMatch
picks l q up a b span k s d e = record { choices = Choices.choose (Truth false) d e; reached = refl }

pub checks : ChecksMatch
checks l q kind f span k s d = record { choices = Choices.choose (Truth false) Choices.stop d; reached = refl }
