-- For all choices, there is a scheduler whose runs give exactly the forward meaning under these
-- choices.
use Rattle.std.proofs.Common.{◌≡◌, ◌≤◌, ◌+◌, ℕ, refl, sym, ap, ap₂, subst, ◌∙◌, arith, Bool, true, false, cond, List, [], ◌∷◌, ◌⊎◌, inl, inr}
use Rattle.std.specs.Prelude.{set}
use Prim.Native.Nat.{zero, suc}
use Rattle.heyvl_num.specs.Rational.{Rational, oneʳ, zeroʳ, ◌+ʳ◌, ◌≤ʳ◌}
use Rattle.heyvl_num.specs.Value.{Value, zeroᵛ, ◌+ᵛ◌, ◌*ᵛ◌, leqᵛ, is_zeroʳ}
use Rattle.heyvl_num.specs.Value.Value.{finite}
use Rattle.heyvl_num.specs.ValueOperators.{minᵛ, maxᵛ}
use Rattle.heyvl_num.specs.WeightedSums.{total_weight}
use Rattle.heyvl_num.proofs.exported.Values.{+ᵛ_assoc, +ᵛ_comm, +ᵛ_left_comm, +ᵛ-zero, zero-+ᵛ, zero-*ᵛ, scale-+ᵛ, weights-*, is_zero-zero, is_zero-one}
use Rattle.heyvl_num.proofs.exported.WeightedSums.{total_weight-empty, total_weight-cons}
use Rattle.heylo_formula.specs.State.{Env, put, fit, has, environment}
use Rattle.heylo_formula.specs.Choices.{Choices, here, left, right}
use Rattle.heylo_formula.specs.Formula.{Form, Term}
use Rattle.heylo_formula.specs.Meaning.{value, holds, term_value}
use Rattle.heylo_formula.specs.declared.values.Val.{Val}
use Rattle.heyvl_places.specs.declared.spans.Span.{Span}
use Rattle.heylo_formula.proofs.exported.Agreement.{clash}
use Rattle.heylo_formula.proofs.exported.States.{env_typed, fit_has}
use Rattle.heylo_formula.proofs.exported.TypedTerms.{term_typed}
use Rattle.heylo_formula.specs.Typing.{TermFits}
use Rattle.heyvl_acts.specs.WellTypedActs.{PartsFit}
use Rattle.run_machine.specs.Bound.{IsState}
use Rattle.bounded_runs.proofs.ProgramStates.{own_set, own_put}
use Rattle.heyvl_num.proofs.exported.Rationals.{≤ʳ_refl, +ʳ_nonnegative}
use Rattle.heyvl_acts.specs.Tosses.{toss_weight, toss_parts}
use Rattle.heyvl_acts.proofs.exported.Tosses.{toss_fit, flips_weigh}
use Rattle.heyvl_acts.specs.Acts.{Act, Acts, Arms, TypedProcedure, type_list, types_of, variables}
use Rattle.heyvl_acts.specs.Forward.{Post, past_products, picked, part, parts, drawn, meant_arms, no_loops, no_calls, forward, forward_act}
use Rattle.heyvl_acts.specs.Length.{longer, length_of, length_of_act}
use Rattle.heyvl_acts.specs.Matching.{taken}
use Rattle.heyvl_acts.specs.Places.{in_order, inside, inside_arms}
use Rattle.heyvl_acts.specs.Rules.{Each, IsOwn}
use Rattle.run_machine.specs.Configurations.{Item, Config, push}
use Rattle.run_machine.specs.Step.{Decision, sure, branches, step_act}
use Rattle.run_machine.specs.Scheduler.{Tree, Forest}
use Rattle.run_machine.specs.Runs.{spread, runs}
use Rattle.run_machine.specs.Sums.{worth, sum_of}
use Rattle.run_machine.proofs.exported.Equations.{runs-zero, runs-next, one_times, sum-none, sum-one, sum-spread, sum-sure}
use Rattle.heyvl_acts.proofs.exported.Each.{each_first, each_second, each_taken}
use Rattle.heyvl_acts.proofs.exported.Lengths.{longer_left, longer_right, taken_length}
use Rattle.bounded_runs.proofs.ViolationActs.{IsSimple}

-- ---- Blocks

-- The choices that are left for the block that is taken.
abbrev taken_choices : (arms : Arms) (s : Env) → Choices → Choices
taken_choices Arms.no_arm s c = c
taken_choices (Arms.arm g b more) s c = cond (holds g s Choices.stop) (right c) (taken_choices more s (right c))

taken_value : (arms : Arms) (e : Acts) (k : Post) (s : Env) (c : Choices) → meant_arms no_loops no_calls arms k (forward e k) s c ≡ forward (taken arms e s) k s (taken_choices arms s c)
taken_value Arms.no_arm e k s c = refl
taken_value (Arms.arm g b more) e k s c = go (holds g s Choices.stop) (taken_value more e k s (right c))
  where
    go : (t : Bool) → meant_arms no_loops no_calls more k (forward e k) s (right c) ≡ forward (taken more e s) k s (taken_choices more s (right c)) → cond t (forward b k s (right c)) (meant_arms no_loops no_calls more k (forward e k) s (right c)) ≡ forward (cond t b (taken more e s)) k s (cond t (right c) (taken_choices more s (right c)))
    go true h = refl
    go false h = h

picked_two : (up : Bool) (x y : Value) → (picked up x y ≡ x) ⊎ (picked up x y ≡ y)
unfolding maxᵛ minᵛ
picked_two true x y = go (leqᵛ x y)
  where
    go : (t : Bool) → (cond t y x ≡ x) ⊎ (cond t y x ≡ y)
    go true = inr refl
    go false = inl refl
picked_two false x y = go (leqᵛ x y)
  where
    go : (t : Bool) → (cond t x y ≡ x) ⊎ (cond t x y ≡ y)
    go true = inl refl
    go false = inr refl

-- ---- Items

-- The meaning of acts, one item after another.
abbrev pub items_value : Post → List Item → Post
items_value post [] = post
items_value post (Item.act a ∷ is) = forward_act a (items_value post is)
items_value post (Item.turn h b ∷ is) = post
items_value post (Item.out x ty ∷ is) = post
items_value post (Item.back ∷ is) = post

-- Each item is an act that is simple, and so are the acts in it.
abbrev pub AreSimple : Bool → TypedProcedure → List Item → Type 0
AreSimple up n [] = Unit {0}
AreSimple up n (Item.act a ∷ is) = (IsSimple up n a × Each (IsSimple up n) (inside a)) × AreSimple up n is
AreSimple up n (Item.turn h b ∷ is) = ⊥
AreSimple up n (Item.out x ty ∷ is) = ⊥
AreSimple up n (Item.back ∷ is) = ⊥

abbrev pub items_length : List Item → ℕ
items_length [] = 0
items_length (Item.act a ∷ is) = length_of_act a + items_length is
items_length (Item.turn h b ∷ is) = 0
items_length (Item.out x ty ∷ is) = 0
items_length (Item.back ∷ is) = 0

pub push_value : (post : Post) (b : Acts) (is : List Item) → items_value post (push b is) ≡ forward b (items_value post is)
push_value post Acts.done is = refl
push_value post (Acts.next a rest) is = ap (λ (k : Post). forward_act a k) (push_value post rest is)

pub push_simple : (up : Bool) (n : TypedProcedure) (b : Acts) (is : List Item) → Each (IsSimple up n) (in_order b) → AreSimple up n is → AreSimple up n (push b is)
push_simple up n Acts.done is h k = k
push_simple up n (Acts.next a rest) is h k = ((h.0, each_first (IsSimple up n) (inside a) (in_order rest) h.1), push_simple up n rest is (each_second (IsSimple up n) (inside a) (in_order rest) h.1) k)

pub push_length : (b : Acts) (is : List Item) → items_length (push b is) ≡ length_of b + items_length is
push_length Acts.done is = omega arith
push_length (Acts.next a rest) is = let h = push_length rest is in omega (arith, h)

some_length : (a : Act) (m : ℕ) → length_of_act a + m ≤ 0 → ⊥
some_length (Act.set x t span) m h = omega (arith, h)
some_length (Act.draw x qs span) m h = omega (arith, h)
some_length (Act.toss x f span) m h = omega (arith, h)
some_length (Act.any x up ty span) m h = omega (arith, h)
some_length (Act.reward f span) m h = omega (arith, h)
some_length (Act.ifs arms e span) m h = omega (arith, h)
some_length (Act.pick up a b span) m h = omega (arith, h)
some_length (Act.check kind f span) m h = omega (arith, h)
some_length (Act.validate co span) m h = omega (arith, h)
some_length (Act.loop k b) m h = omega (arith, h)
some_length (Act.call xs q es span) m h = omega (arith, h)

-- ---- Values

-- The reward so far counts only in the upper sum.
abbrev pub collected : Bool → Value → Value
collected true r = r
collected false r = zeroᵛ

no_weight : (b : Value) → finite zeroʳ *ᵛ b ≡ zeroᵛ
unfolding zeroᵛ
no_weight b = zero-*ᵛ b

part_more : (w u : Rational) (b k r : Value) → zeroʳ ≤ʳ w → zeroʳ ≤ʳ u → (finite w *ᵛ (b +ᵛ k)) +ᵛ ((finite u *ᵛ b) +ᵛ r) ≡ (finite (w +ʳ u) *ᵛ b) +ᵛ ((finite w *ᵛ k) +ᵛ r)
part_more w u b k r p q = ap (λ v. v +ᵛ ((finite u *ᵛ b) +ᵛ r)) (scale-+ᵛ w b k) ∙ (+ᵛ_assoc (finite w *ᵛ b) (finite w *ᵛ k) ((finite u *ᵛ b) +ᵛ r) ∙ (ap (λ v. (finite w *ᵛ b) +ᵛ v) (+ᵛ_left_comm (finite w *ᵛ k) (finite u *ᵛ b) r) ∙ (sym (+ᵛ_assoc (finite w *ᵛ b) (finite u *ᵛ b) ((finite w *ᵛ k) +ᵛ r)) ∙ ap (λ v. v +ᵛ ((finite w *ᵛ k) +ᵛ r)) (sym (weights-* w u b p q)))))

collected_more : (up : Bool) → up ≡ true → (r v k : Value) → collected up (r +ᵛ v) +ᵛ k ≡ collected up r +ᵛ (k +ᵛ v)
collected_more true h r v k = +ᵛ_assoc r v k ∙ ap (λ u. r +ᵛ u) (+ᵛ_comm v k)
collected_more false h r v k = absurd (cc)

none_one : zeroʳ ≡ oneʳ → ⊥
none_one e = clash (is_zeroʳ zeroʳ) is_zero-zero (ap is_zeroʳ e ∙ is_zero-one)

-- ---- Schedulers

module _ (ps : List TypedProcedure) (p : ℕ) (up : Bool) (post : Form) (plain : (s : Env) (c : Choices) → value post s Choices.stop ≡ value post s c) (size : TypedProcedure) where
  -- A configuration of the procedure that was started, with no iteration so far.
  abbrev pub at : List Item → List Val → Value → Config
  at is s r = record { procedure = p; items = is; frames = []; state = s; reward = r; turns = λ n. 0 }

  -- A scheduler under which the runs of `n` steps have this sum, beside the reward so far.
  pub record Gives (n : ℕ) (c : Config) (v : Value) : Type 0 where
    pub scheduler : Tree
    pub gives : sum_of up post (runs ps n c scheduler) ≡ collected up c.reward +ᵛ v

  -- A decision for a step, and schedulers for its outcomes, with this sum.
  record Leads (n : ℕ) (a : Act) (is : List Item) (s : List Val) (r v : Value) : Type 0 where
    decision : Decision
    schedulers : Forest
    leads : sum_of up post (spread (runs ps n) (step_act ps a is (at (Item.act a ∷ is) s r) decision) schedulers) ≡ collected up r +ᵛ v

  -- The meaning of the items, followed by the post.
  abbrev meant_by : List Item → Post
  meant_by is = items_value (value post) is

  -- For all choices, some scheduler gives the meaning of the items.
  abbrev pub Claim : ℕ → Type 0
  Claim n = (is : List Item) → AreSimple up size is → items_length is ≤ n → (s : List Val) → IsState size s → (r : Value) (c : Choices) → Gives n (at is s r) (items_value (value post) is (environment s) c)

  -- Schedulers for the parts of a draw, with this sum beside the reward so far.
  record Shares (n : ℕ) (x : ℕ) (qs : List (Rational × Term)) (is : List Item) (s : List Val) (r v : Value) : Type 0 where
    schedulers : Forest
    gives : sum_of up post (spread (runs ps n) (branches (at is s r) is x qs) schedulers) ≡ (finite (total_weight qs) *ᵛ collected up r) +ᵛ v

  -- The choices that are left for the sum so far, and the sum of the parts.
  record Summed (n : ℕ) (x : ℕ) (qs : List (Rational × Term)) (is : List Item) (s : List Val) (r : Value) (total : Post) (c : Choices) : Type 0 where
    inner : Choices
    sum : Value
    meant : parts x qs (meant_by is) total (environment s) c ≡ total (environment s) inner +ᵛ sum
    shares : Shares n x qs is s r sum

  module _ (n : ℕ) (claim : Claim n) where
    at_put : (x : ℕ) → IsOwn size x → (is : List Item) → AreSimple up size is → items_length is ≤ n → (s : List Val) → IsState size s → (v : Val) → has (types_of size x) v ≡ true → (r : Value) (c : Choices) → Gives n (at is (set s x v) r) (meant_by is (put x v (environment s)) c)
    at_put x o is g l s e v i r c = subst (λ t. Gives n (at is (set s x v) r) (meant_by is t c)) (own_put size x v s o e) (claim is g l (set s x v) (own_set size x v s o i e) r c)

    term_has : (x : ℕ) (t : Term) (s : List Val) → IsState size s → TermFits (types_of size) (types_of size x) t → has (types_of size x) (term_value t (environment s)) ≡ true
    term_has x t s st f = term_typed (types_of size) (types_of size x) t (environment s) f (env_typed (type_list (variables size)) s st)

    at_push : (b : Acts) → Each (IsSimple up size) (in_order b) → (is : List Item) → AreSimple up size is → length_of b + items_length is ≤ n → (s : List Val) → IsState size s → (r : Value) (c : Choices) → Gives n (at (push b is) s r) (forward b (meant_by is) (environment s) c)
    at_push b h is g l s e r c = subst (λ (k : Post). Gives n (at (push b is) s r) (k (environment s) c)) (push_value (value post) b is) (claim (push b is) (push_simple up size b is h g) (let m = push_length b is in omega (arith, l, m)) s e r c)

    weights_held : (x : ℕ) (qs : List (Rational × Term)) → PartsFit (types_of size) x qs → zeroʳ ≤ʳ total_weight qs
    weights_held x [] f = subst (λ w. zeroʳ ≤ʳ w) (sym (total_weight-empty Term)) (≤ʳ_refl zeroʳ)
    weights_held x (q ∷ qs) f = subst (λ w. zeroʳ ≤ʳ w) (sym (total_weight-cons q.0 q.1 qs)) (+ʳ_nonnegative q.0 (total_weight qs) f.0.0 (weights_held x qs f.1))

    share : (x : ℕ) → IsOwn size x → (q : Rational × Term) (qs : List (Rational × Term)) → PartsFit (types_of size) x (q ∷ qs) → (is : List Item) → AreSimple up size is → items_length is ≤ n → (s : List Val) → IsState size s → (r v : Value) → Shares n x qs is s r v → (c : Choices) → Shares n x (q ∷ qs) is s r (part x q (meant_by is) (environment s) c +ᵛ v)
    share x o q qs w is g l s e r v f c =
        let d = at_put x o is g l s e (term_value q.1 (environment s)) (term_has x q.1 s e w.0.1) r c in
        record {
          schedulers = Forest.trees d.scheduler f.schedulers;
          gives = sum-spread up post (runs ps n) (q.0, at is (set s x (term_value q.1 (environment s))) r) (branches (at is s r) is x qs) (Forest.trees d.scheduler f.schedulers) ∙ (ap₂ (λ a b. (finite q.0 *ᵛ a) +ᵛ b) d.gives f.gives ∙ (part_more q.0 (total_weight qs) (collected up r) _ v w.0.0 (weights_held x qs w.1) ∙ ap (λ u. (finite u *ᵛ collected up r) +ᵛ (part x q (meant_by is) (environment s) c +ᵛ v)) (sym (total_weight-cons q.0 q.1 qs))));
        }

    for_parts : (x : ℕ) → IsOwn size x → (qs : List (Rational × Term)) → PartsFit (types_of size) x qs → (is : List Item) → AreSimple up size is → items_length is ≤ n → (s : List Val) → IsState size s → (r : Value) (total : Post) (c : Choices) → Summed n x qs is s r total c
    for_parts x o [] w is g l s e r total c = record { inner = c; sum = zeroᵛ; meant = sym (+ᵛ-zero _); shares = record { schedulers = Forest.no_trees; gives = sum-none up post ∙ sym (+ᵛ-zero _ ∙ (ap (λ u. finite u *ᵛ collected up r) (total_weight-empty Term) ∙ no_weight (collected up r))) } }
    for_parts x o (q ∷ qs) w is g l s e r total c =
        let f = for_parts x o qs w.1 is g l s e r (λ t d. total t (left d) +ᵛ part x q (meant_by is) t (right d)) c in
        record { inner = left f.inner; sum = part x q (meant_by is) (environment s) (right f.inner) +ᵛ f.sum; meant = f.meant ∙ +ᵛ_assoc _ _ _; shares = share x o q qs w is g l s e r f.sum f.shares (right f.inner) }

    -- Parts of a draw or a toss.
    record Drawn (x : ℕ) (qs : List (Rational × Term)) (is : List Item) (s : List Val) (r v : Value) : Type 0 where
      schedulers : Forest
      drawn_leads : sum_of up post (spread (runs ps n) (branches (at is s r) is x qs) schedulers) ≡ collected up r +ᵛ v

    for_draw : (x : ℕ) → IsOwn size x → (qs : List (Rational × Term)) → PartsFit (types_of size) x qs → total_weight qs ≡ oneʳ → (is : List Item) → AreSimple up size is → items_length is ≤ n → (s : List Val) → IsState size s → (r : Value) (c : Choices) → Drawn x qs is s r (drawn x qs (meant_by is) (environment s) c)
    for_draw x o [] w t is g l s e r c = absurd (none_one (sym (total_weight-empty Term) ∙ t))
    for_draw x o (q ∷ qs) w t is g l s e r c =
        let f = for_parts x o qs w.1 is g l s e r (part x q (meant_by is)) c in
        let d = share x o q qs w is g l s e r f.sum f.shares f.inner in
        record { schedulers = d.schedulers; drawn_leads = d.gives ∙ ap₂ (λ a b. a +ᵛ b) (ap (λ u. finite u *ᵛ collected up r) t ∙ one_times (collected up r)) (sym f.meant) }

    surely : (a : Act) (is : List Item) (s : List Val) (r v : Value) (d : Decision) (c : Config) → step_act ps a is (at (Item.act a ∷ is) s r) d ≡ sure c → collected up c.reward ≡ collected up r → Gives n c v → Leads n a is s r v
    surely a is s r v d c e k f = record { decision = d; schedulers = Forest.trees f.scheduler Forest.no_trees; leads = ap (λ o. sum_of up post (spread (runs ps n) o (Forest.trees f.scheduler Forest.no_trees))) e ∙ (sum-sure up post (runs ps n) c (Forest.trees f.scheduler Forest.no_trees) ∙ (f.gives ∙ ap (λ u. u +ᵛ v) k)) }

    for_pick : (over : Bool) (a b : Acts) (span : Span) → Each (IsSimple up size) (in_order a) → Each (IsSimple up size) (in_order b) → (is : List Item) → AreSimple up size is → longer (length_of a) (length_of b) + items_length is ≤ n → (s : List Val) → IsState size s → (r : Value) (c : Choices) → Leads n (Act.pick over a b span) is s r (picked over (forward a (meant_by is) (environment s) (left c)) (forward b (meant_by is) (environment s) (right c)))
    for_pick over a b span i j is g l s e r c = go (picked_two over (forward a (meant_by is) (environment s) (left c)) (forward b (meant_by is) (environment s) (right c)))
      where
        x : Value
        x = forward a (meant_by is) (environment s) (left c)

        y : Value
        y = forward b (meant_by is) (environment s) (right c)

        go : (picked over x y ≡ x) ⊎ (picked over x y ≡ y) → Leads n (Act.pick over a b span) is s r (picked over x y)
        go (inl k) = subst (λ v. Leads n (Act.pick over a b span) is s r v) (sym k) (surely (Act.pick over a b span) is s r x (Decision.side true) (at (push a is) s r) refl refl (at_push a i is g (let m = longer_left (length_of a) (length_of b) in omega (arith, l, m)) s e r (left c)))
        go (inr k) = subst (λ v. Leads n (Act.pick over a b span) is s r v) (sym k) (surely (Act.pick over a b span) is s r y (Decision.side false) (at (push b is) s r) refl refl (at_push b j is g (let m = longer_right (length_of a) (length_of b) in omega (arith, l, m)) s e r (right c)))

    for_act : (a : Act) → IsSimple up size a → Each (IsSimple up size) (inside a) → (is : List Item) → AreSimple up size is → length_of_act a + items_length is ≤ suc n → (s : List Val) → IsState size s → (r : Value) (c : Choices) → Leads n a is s r (forward_act a (meant_by is) (environment s) c)
    for_act (Act.set x t span) h i is g l s e r c = surely (Act.set x t span) is s r _ Decision.none _ refl refl (at_put x h.0 is g (omega (arith, l)) s e (term_value t (environment s)) (term_has x t s e h.1) r c)
    for_act (Act.draw x qs span) h i is g l s e r c = let d = for_draw x h.0 qs h.1.0 h.1.1 is g (omega (arith, l)) s e r c in record { decision = Decision.none; schedulers = d.schedulers; leads = d.drawn_leads }
    for_act (Act.toss x f span) h i is g l s e r c = let d = for_draw x h.0 (toss_parts f (environment s)) (toss_fit (types_of size) x f (environment s) h.1.0 h.1.1 (env_typed (type_list (variables size)) s e)) (flips_weigh (toss_weight f (environment s))) is g (omega (arith, l)) s e r (past_products c) in record { decision = Decision.none; schedulers = d.schedulers; leads = d.drawn_leads }
    for_act (Act.any x over ty span) h i is g l s e r c = surely (Act.any x over ty span) is s r _ (Decision.given (here c)) _ refl refl (at_put x h.0 is g (omega (arith, l)) s e (fit ty (here c)) (subst (λ u. has u (fit ty (here c)) ≡ true) (sym h.1) (fit_has ty (here c))) r (left c))
    for_act (Act.reward f span) h i is g l s e r c =
        let d = claim is g (omega (arith, l)) s e (r +ᵛ value f (environment s) Choices.stop) (left c) in
        record { decision = Decision.none; schedulers = Forest.trees d.scheduler Forest.no_trees; leads = sum-sure up post (runs ps n) (at is s (r +ᵛ value f (environment s) Choices.stop)) (Forest.trees d.scheduler Forest.no_trees) ∙ (d.gives ∙ collected_more up h r (value f (environment s) Choices.stop) (meant_by is (environment s) (left c))) }
    for_act (Act.ifs arms otherwise span) h i is g l s e r c =
        let b = taken arms otherwise (environment s) in
        let m = taken_length arms otherwise (environment s) in
        let d = at_push b (each_taken (IsSimple up size) arms otherwise (environment s) (each_first (IsSimple up size) (inside_arms arms) (in_order otherwise) i) (each_second (IsSimple up size) (inside_arms arms) (in_order otherwise) i)) is g (omega (arith, l, m)) s e r (taken_choices arms (environment s) c) in
        surely (Act.ifs arms otherwise span) is s r _ Decision.none (at (push b is) s r) refl refl (subst (λ v. Gives n (at (push b is) s r) v) (sym (taken_value arms otherwise (meant_by is) (environment s) c)) d)
    for_act (Act.pick over a b span) h i is g l s e r c = for_pick over a b span (each_first (IsSimple up size) (in_order a) (in_order b) i) (each_second (IsSimple up size) (in_order a) (in_order b) i) is g (omega (arith, l)) s e r c
    for_act (Act.check kind f span) h i is g l s e r c = absurd h
    for_act (Act.validate co span) h i is g l s e r c = absurd h
    for_act (Act.loop k b) h i is g l s e r c = absurd h
    for_act (Act.call xs q es span) h i is g l s e r c = absurd h

  ended : (s : List Val) (r : Value) (c : Choices) → sum_of up post (sure (at [] s r)) ≡ collected up r +ᵛ value post (environment s) c
  ended s r c = sum-one up post (at [] s r) ∙ alone up
    where
      alone : (u : Bool) → worth u post (at [] s r) ≡ collected u r +ᵛ value post (environment s) c
      alone true = ap (λ v. r +ᵛ v) (plain (environment s) c)
      alone false = plain (environment s) c ∙ sym (zero-+ᵛ _)

  pub claims : (n : ℕ) → Claim n
  claims zero [] g l s e r c = record { scheduler = Tree.leaf; gives = ap (λ o. sum_of up post o) (runs-zero ps (at [] s r) Tree.leaf) ∙ ended s r c }
  claims zero (Item.act a ∷ is) g l s e r c = absurd (some_length a _ l)
  claims (suc n) [] g l s e r c = record { scheduler = Tree.leaf; gives = ap (λ o. sum_of up post o) (runs-next ps n (at [] s r) Tree.leaf) ∙ ended s r c }
  claims (suc n) (Item.act a ∷ is) g l s e r c =
      let f = for_act n (claims n) a g.0.0 g.0.1 is g.1 l s e r c in
      record { scheduler = Tree.node f.decision f.schedulers; gives = ap (λ o. sum_of up post o) (runs-next ps n (at (Item.act a ∷ is) s r) (Tree.node f.decision f.schedulers)) ∙ f.leads }
  claims n (Item.turn k b ∷ is) g l s e r c = absurd g
  claims n (Item.out x ty ∷ is) g l s e r c = absurd g
  claims n (Item.back ∷ is) g l s e r c = absurd g
