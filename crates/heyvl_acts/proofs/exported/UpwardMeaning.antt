-- For the proofs of other crates: the forward meaning of acts one after the other and of the block
-- that an `if` takes, also of upward acts.
use Rattle.std.proofs.Common.{◌≡◌, ◌∙◌, refl, ap, subst, Bool, true, false, cond}
use Rattle.heylo_formula.specs.State.{Env}
use Rattle.heylo_formula.specs.Choices.{Choices, right}
use Rattle.heylo_formula.specs.Meaning.{holds}
use Rattle.heylo_formula.specs.declared.values.Val.TheVariants.{Truth}
use Rattle.heyvl_acts.specs.Acts.{Act, Acts, Arms, join}
use Rattle.heyvl_acts.specs.Forward.{Post, meant_arms, no_loops, no_calls, forward, forward_act}
use Rattle.heyvl_acts.specs.Matching.{taken, Reaches}
use Rattle.heyvl_acts.specs.Upward.{upward, upward_next, upward_arms}

-- ---- Acts one after the other

pub next_join : (a : Act) (x y : Acts) → upward_next a (join x y) ≡ join (upward_next a x) y
next_join (Act.set z t span) x y = refl
next_join (Act.draw z qs span) x y = refl
next_join (Act.toss z f span) x y = refl
next_join (Act.any z up ty span) x y = refl
next_join (Act.reward f span) x y = refl
next_join (Act.ifs arms e span) x y = refl
next_join (Act.pick up a b span) x y = refl
next_join (Act.check kind f span) x y = refl
next_join (Act.validate co span) x y = refl
next_join (Act.loop h b) x y = refl
next_join (Act.call xs q es span) x y = refl

pub upward_join : (a b : Acts) → upward (join a b) ≡ join (upward a) (upward b)
upward_join Acts.done b = refl
upward_join (Acts.next a rest) b = ap (upward_next a) (upward_join rest b) ∙ next_join a (upward rest) (upward b)

pub forward_join : (a b : Acts) (k : Post) → forward (join a b) k ≡ forward a (forward b k)
forward_join Acts.done b k = refl
forward_join (Acts.next a rest) b k = ap (λ (j : Post). forward_act a j) (forward_join rest b k)

pub joined_meaning : (a b : Acts) (k : Post) → forward (upward (join a b)) k ≡ forward (upward a) (forward (upward b) k)
joined_meaning a b k = ap (λ (x : Acts). forward x k) (upward_join a b) ∙ forward_join (upward a) (upward b) k

-- ---- The block that an `if` takes

abbrev pub behind : Choices → Choices
behind d = Choices.choose (Truth false) Choices.stop d

pub taken_meaning : (arms : Arms) (e : Acts) (k : Post) (s : Env) (d : Choices) → Reaches (λ c. meant_arms no_loops no_calls arms k (forward e k) s c) (forward (taken arms e s) k s d)
taken_meaning Arms.no_arm e k s d = record { choices = d; reached = refl }
taken_meaning (Arms.arm g b more) e k s d = go (holds g s Choices.stop) (taken_meaning more e k s d)
  where
    go : (t : Bool) → Reaches (λ c. meant_arms no_loops no_calls more k (forward e k) s c) (forward (taken more e s) k s d) → Reaches (λ c. cond t (forward b k s (right c)) (meant_arms no_loops no_calls more k (forward e k) s (right c))) (forward (cond t b (taken more e s)) k s d)
    go true f = record { choices = behind d; reached = refl }
    go false f = record { choices = behind f.choices; reached = f.reached }

pub taken_upward : (arms : Arms) (e : Acts) (s : Env) → taken (upward_arms arms) (upward e) s ≡ upward (taken arms e s)
taken_upward Arms.no_arm e s = refl
taken_upward (Arms.arm g b more) e s = go (holds g s Choices.stop) (taken_upward more e s)
  where
    go : (t : Bool) → taken (upward_arms more) (upward e) s ≡ upward (taken more e s) → cond t (upward b) (taken (upward_arms more) (upward e) s) ≡ upward (cond t b (taken more e s))
    go true h = refl
    go false h = h

pub raised_meaning : (arms : Arms) (e : Acts) (k : Post) (s : Env) (d : Choices) → Reaches (λ c. meant_arms no_loops no_calls (upward_arms arms) k (forward (upward e) k) s c) (forward (upward (taken arms e s)) k s d)
raised_meaning arms e k s d = subst (λ (x : Acts). Reaches (λ c. meant_arms no_loops no_calls (upward_arms arms) k (forward (upward e) k) s c) (forward x k s d)) (taken_upward arms e s) (taken_meaning (upward_arms arms) (upward e) k s d)
