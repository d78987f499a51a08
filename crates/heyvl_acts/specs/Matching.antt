-- Laws of the forward meaning for inductions over runs: for each act, given choices for the post,
-- some choices for the whole yield the same value. Each law holds for all meanings of loops and
-- calls.
use Rattle.std.specs.Prelude.{◌≡◌, ℕ, Bool, true, false, List, [], ◌∷◌, if◌then◌else◌}
use Prim.Native.Nat.{suc}
use Rattle.heyvl_num.specs.Rational.{Rational, oneʳ, ◌-ʳ◌}
use Rattle.heyvl_num.specs.Value.{Value, zeroᵛ, ◌+ᵛ◌, ◌*ᵛ◌}
use Rattle.heyvl_num.specs.Value.Value.{finite}
use Rattle.heyvl_places.specs.declared.spans.Span.{Span}
use Rattle.heyvl_places.specs.declared.checks.CheckKind.{CheckKind}
use Rattle.heylo_formula.specs.State.{Env, put, fit}
use Rattle.heylo_formula.specs.Choices.{Choices}
use Rattle.heylo_formula.specs.Formula.{Form, Term}
use Rattle.heylo_formula.specs.Meaning.{value, holds}
use Rattle.heylo_formula.specs.declared.types.Ty.{Ty}
use Rattle.heylo_formula.specs.declared.values.Val.{Val}
use Rattle.heylo_formula.specs.declared.values.Val.TheVariants.{Truth}
use Rattle.heyvl_acts.specs.Acts.{Act, Acts, Arms, join}
use Rattle.heyvl_acts.specs.Forward.{Post, OfLoops, OfCalls, part, picked, checked, meant}
use Rattle.heyvl_acts.specs.Forward.{meant_act}
use Rattle.heyvl_acts.specs.Tosses.{toss_weight}

-- The block of the first arm whose guard holds, or `e` if no guard holds.
abbrev pub taken : Arms → Acts → Env → Acts
taken Arms.no_arm e s = e
taken (Arms.arm g b more) e s = if holds g s Choices.stop then b else taken more e s

-- The sum from the left over the alternatives, where `ds` gives choices for each of them.
abbrev pub summed : ℕ → List (Rational × Term) → Post → Env → (ℕ → Choices) → Value → Value
summed x [] k s ds v = v
summed x (p ∷ ps) k s ds v = summed x ps k s (λ n. ds (suc n)) (v +ᵛ part x p k s (ds 0))

-- The sum of the alternatives of a draw, where `ds` gives choices for each of them; 0 if there are
-- none.
abbrev pub summed_parts : ℕ → List (Rational × Term) → Post → Env → (ℕ → Choices) → Value
summed_parts x [] k s ds = zeroᵛ
summed_parts x (p ∷ ps) k s ds = summed x ps k s (λ n. ds (suc n)) (part x p k s (ds 0))

-- Some choices yield the value `v`.
pub record Reaches (f : Choices → Value) (v : Value) : Type 0 where
  pub choices : Choices
  pub reached : f choices ≡ v

-- The meaning of two lists of acts, one after the other, is that of the first with the meaning of
-- the second as its post.
abbrev pub ActsJoin : Type 0
ActsJoin = (l : OfLoops) (q : OfCalls) (a b : Acts) (k : Post)
    → meant l q (join a b) k ≡ meant l q a (meant l q b k)

-- The alternatives of a draw may have any choices.
abbrev pub DrawsMatch : Type 0
DrawsMatch = (l : OfLoops) (q : OfCalls) (x : ℕ) (ps : List (Rational × Term)) (span : Span)
    (k : Post) (s : Env) (ds : ℕ → Choices)
    → Reaches (meant_act l q (Act.draw x ps span) k s) (summed_parts x ps k s ds)

-- The two outcomes of a toss may have any choices: true with the smaller of the formula's value and
-- 1, and false with the rest.
abbrev pub TossesMatch : Type 0
TossesMatch = (l : OfLoops) (q : OfCalls) (x : ℕ) (f : Form) (span : Span) (k : Post) (s : Env)
    (d e : Choices)
    → Reaches (meant_act l q (Act.toss x f span) k s)
    ((finite (toss_weight f s) *ᵛ k (put x (Truth true) s) d)
    +ᵛ (finite (oneʳ -ʳ toss_weight f s) *ᵛ k (put x (Truth false) s) e))

-- The post of a reward may have any choices; the reward is added to its value.
abbrev pub RewardsMatch : Type 0
RewardsMatch = (l : OfLoops) (q : OfCalls) (f : Form) (span : Span) (k : Post) (s : Env)
    (d : Choices)
    → Reaches (meant_act l q (Act.reward f span) k s) (k s d +ᵛ value f s Choices.stop)

-- The block that an `if` takes may have any choices, together with the post.
abbrev pub BranchesMatch : Type 0
BranchesMatch = (l : OfLoops) (q : OfCalls) (arms : Arms) (e : Acts) (span : Span) (k : Post)
    (s : Env) (d : Choices)
    → Reaches (meant_act l q (Act.ifs arms e span) k s) (meant l q (taken arms e s) k s d)

-- Any value of the type may be chosen.
abbrev pub AnysMatch : Type 0
AnysMatch = (l : OfLoops) (q : OfCalls) (x : ℕ) (up : Bool) (ty : Ty) (span : Span) (k : Post)
    (s : Env) (v : Val) (d : Choices)
    → Reaches (meant_act l q (Act.any x up ty span) k s) (k (put x (fit ty v) s) d)

-- The two blocks of a pick may have different choices.
abbrev pub PicksMatch : Type 0
PicksMatch = (l : OfLoops) (q : OfCalls) (up : Bool) (a b : Acts) (span : Span) (k : Post) (s : Env)
    (d e : Choices)
    → Reaches (meant_act l q (Act.pick up a b span) k s)
    (picked up (meant l q a k s d) (meant l q b k s e))

-- The post of a check may have any choices.
abbrev pub ChecksMatch : Type 0
ChecksMatch = (l : OfLoops) (q : OfCalls) (kind : CheckKind) (f : Form) (span : Span) (k : Post)
    (s : Env) (d : Choices)
    → Reaches (meant_act l q (Act.check kind f span) k s)
    (checked kind (value f s Choices.stop) (k s d))
