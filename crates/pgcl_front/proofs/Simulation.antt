-- The runs of a program and those of its acts correspond step by step.
use Prim.Native.Nat.{suc, zero}
use Rattle.pgcl_front.proofs.Equations.{Beside, beside_spread, guarded-next, guarded-one, guarded-zero}
use Rattle.pgcl_front.proofs.Matching.{Matches, MixActs, SameCondition, SameForm, Translates}
use Rattle.pgcl_front.proofs.Scopes.{Agrees}
use Rattle.pgcl_front.specs.GuardedRuns.{at_end, guarded_runs, guarded_sum, guarded_worth, onward}
use Rattle.pgcl_front.specs.GuardedSteps.{GuardedConfig, GuardedOutcomes, does, enters, listed, step_command, surely}
use Rattle.pgcl_front.specs.Readings.{index_in}
use Rattle.heylo_formula.specs.Choices.{Choices}
use Rattle.heylo_formula.specs.Formula.{Cond, Form}
use Rattle.heylo_formula.specs.Meaning.{holds, term_value}
use Rattle.heylo_formula.specs.State.{environment, get, truth_of}
use Rattle.heylo_formula.specs.declared.values.Val.TheVariants.{Truth}
use Rattle.heylo_formula.specs.declared.values.Val.{Val}
use Rattle.heyvl_acts.specs.Acts.{Act, Acts, Arms, Head, TypedProcedure}
use Rattle.heyvl_num.specs.Value.{Value, ◌+ᵛ◌}
use Rattle.heyvl_num.specs.WeightedSums.{weighted_sum}
use Rattle.heyvl_places.specs.declared.spans.Span.{Span}
use Rattle.heyvl_syntax.specs.Expressions.{Expression}
use Rattle.typed_expressions.specs.Scopes.{Scope}
use Rattle.guarded_commands.specs.Programs.{BlockTree, CommandTree}
use Rattle.run_machine.proofs.exported.Equations.{push_join, runs-next, runs-zero, worth-one}
use Rattle.run_machine.specs.Configurations.{Config, Item, push}
use Rattle.run_machine.specs.Runs.{runs}
use Rattle.run_machine.specs.Runs as machine
use Rattle.run_machine.specs.Scheduler.{Tree, decision, under}
use Rattle.run_machine.specs.Step.{Decision, counted, moved, side_of, step_act, step_item, sure, test, turned}
use Rattle.run_machine.specs.Sums.{ended, sum_of, worth}
use Rattle.std.proofs.Common.{Bool, List, [], ap, arith, cond, false, inl, inr, length, refl, subst, sym, true, ◌+◌, ◌<◌, ◌∙◌, ◌∷◌, ◌≡◌, ◌≢◌, ◌≤◌, ◌⊎◌, ℕ}
use Rattle.std.proofs.lemmas.Bool.Decides.{eqb_tells}
use Rattle.std.proofs.lemmas.Grind.{get_or-set_at}
use Rattle.std.proofs.lemmas.List.{get_or-set_other, length-set}
use Rattle.std.specs.Prelude.{None, Option, Some, eqb, if◌then◌else◌, set}

-- ---- States

module _ (v : ℕ) (s t : List Val) (a : Agrees v s t) where
  assigned : (i : ℕ) (w : Val) → i < v → length s ≡ v → v + i < length t → Agrees v (set s i w) (set t (v + i) w)
  assigned i w lt e long j lj = go (eqb_tells i j)
    where
      go : ((eqb i j ≡ true) × (i ≡ j)) ⊎ ((eqb i j ≡ false) × (i ≢ j)) → get j (set s i w) ≡ get (v + j) (set t (v + i) w)
      go (inl k) = get_or-set_at s i j w (Truth false) (sym k.1) (subst (λ m. i < m) (sym e) lt) ∙ sym (get_or-set_at t (v + i) (v + j) w (Truth false) (ap (λ m. v + m) (sym k.1)) long)
      go (inr k) = get_or-set_other s i j w (Truth false) (λ p. k.1 (sym p)) ∙ (a j lj ∙ sym (get_or-set_other t (v + i) (v + j) w (Truth false) (λ p. k.1 (let q = sym p in omega (arith, q)))))

  picked : (x : ℕ) (w : Val) → v + v ≤ x → Agrees v s (set t x w)
  picked x w le j lj = a j lj ∙ sym (get_or-set_other t x (v + j) w (Truth false) (λ p. absurd (let q = p in omega (arith, q, le, lj))))

-- ---- What is left to do

module _ (own : Scope) (ps : List TypedProcedure) (p v size : ℕ) (wide : v + v ≤ size) where
  -- The items for a loop, before other items: the loop as an act, or its next test.
  pub record LoopItems (g : Expression) (b : BlockTree) (is more : List Item) : Type 0 where
    pub head : Head
    pub same : SameCondition own v g head.guard
    pub body : Acts
    pub matches : Matches own v size b body
    pub items : (is ≡ Item.act (Act.loop head body) ∷ more) ⊎ (is ≡ Item.turn head body ∷ more)

  -- The items for a command, before other items.
  pub record ActItems (c : CommandTree) (is more : List Item) : Type 0 where
    pub acts : Acts
    pub translates : Translates own v size c acts
    pub items : is ≡ push acts more

  abbrev pub OneStands : CommandTree → List Item → List Item → Type 0
  OneStands (CommandTree.skip s) is more = ActItems (CommandTree.skip s) is more
  OneStands (CommandTree.assign x e s) is more = ActItems (CommandTree.assign x e s) is more
  OneStands (CommandTree.tick e s) is more = ActItems (CommandTree.tick e s) is more
  OneStands (CommandTree.branch g a b s) is more = ActItems (CommandTree.branch g a b s) is more
  OneStands (CommandTree.mix q a b s) is more = ActItems (CommandTree.mix q a b s) is more
  OneStands (CommandTree.choice a b s) is more = ActItems (CommandTree.choice a b s) is more
  OneStands (CommandTree.repeat g i b s) is more = LoopItems g b is more

  abbrev pub Stands : List CommandTree → List Item → Type 0
  Stands [] is = is ≡ []
  Stands (c ∷ cs) is = (more : List Item) × (Stands cs more × OneStands c is more)

  -- The block `b` is entered next: the variable of its choice has the value for it.
  pub record Enters (b : BlockTree) (cs : List CommandTree) (is : List Item) (t : List Val) : Type 0 where
    pub number : ℕ
    pub left : BlockTree
    pub right : BlockTree
    pub first : Acts
    pub second : Acts
    pub span : Span
    pub more : List Item
    pub items : is ≡ Item.act (Act.ifs (Arms.arm (Cond.flag number) first Arms.no_arm) second span) ∷ more
    pub left_matches : Matches own v size left first
    pub right_matches : Matches own v size right second
    pub told : b ≡ cond (truth_of (get number t)) left right
    pub stands : Stands cs more

  abbrev pub StandsAt : Option BlockTree → List CommandTree → List Item → List Val → Type 0
  StandsAt None cs is t = Stands cs is
  StandsAt (Some b) cs is t = Enters b cs is t

  abbrev pub config : List Item → List Val → Value → (ℕ → ℕ) → Config
  config is t r turns = record { procedure = p; items = is; frames = []; state = t; reward = r; turns = turns }

  pub record Same (c : GuardedConfig) (e : Config) : Type 0 where
    pub items : List Item
    pub values : List Val
    pub turns : ℕ → ℕ
    pub same : e ≡ config items values c.reward turns
    pub long : length values ≡ size
    pub short : length c.state ≡ v
    pub agrees : Agrees v c.state values
    pub stands : StandsAt c.chosen c.todo items values

  one_stands : (c : CommandTree) (front : Acts) (more : List Item) → Translates own v size c front → OneStands c (push front more) more
  one_stands (CommandTree.skip s) front more h = record { acts = front; translates = h; items = refl }
  one_stands (CommandTree.assign x e s) front more h = record { acts = front; translates = h; items = refl }
  one_stands (CommandTree.tick e s) front more h = record { acts = front; translates = h; items = refl }
  one_stands (CommandTree.branch g a b s) front more h = record { acts = front; translates = h; items = refl }
  one_stands (CommandTree.mix q a b s) front more h = record { acts = front; translates = h; items = refl }
  one_stands (CommandTree.choice a b s) front more h = record { acts = front; translates = h; items = refl }
  one_stands (CommandTree.repeat g i b s) front more h = record { head = h.0.head; same = h.0.same; body = h.0.body; matches = h.1; items = inl (ap (λ f. push f more) h.0.are) }

  pub block_stands : (b : BlockTree) (a : Acts) (cs : List CommandTree) (is : List Item) → Matches own v size b a → Stands cs is → Stands (listed b cs) (push a is)
  block_stands BlockTree.done a cs is m h = subst (λ x. Stands cs (push x is)) (sym m) h
  block_stands (BlockTree.next c b) a cs is m h = (push m.1.0 is, (block_stands b m.1.0 cs is m.1.1.0.1 h, subst (λ x. OneStands c x (push m.1.0 is)) (sym (ap (λ x. push x is) m.1.1.1 ∙ push_join m.0 m.1.0 is)) (one_stands c m.0 (push m.1.0 is) m.1.1.0.0)))

  -- ---- One step of both

  pub record Goes (f : Decision → GuardedOutcomes) (is : List Item) (t : List Val) (r : Value) (turns : ℕ → ℕ) : Type 0 where
    pub item : Item
    pub more : List Item
    pub items : is ≡ item ∷ more
    pub beside : (d : Decision) → Beside Same (f d) (step_item ps item more (config is t r turns) d)

  abbrev pub Stepped : Option BlockTree → List CommandTree → List Val → Value → List Item → List Val → (ℕ → ℕ) → Type 0
  Stepped None [] s r is t turns = is ≡ []
  Stepped None (x ∷ cs) s r is t turns = Goes (λ d. step_command own x cs s r d) is t r turns
  Stepped (Some b) cs s r is t turns = Goes (λ d. surely (does (listed b cs) s r)) is t r turns

  module _ (s t : List Val) (r : Value) (turns : ℕ → ℕ) (long : length t ≡ size) (short : length s ≡ v) (a : Agrees v s t) where
    beside_one : (c : GuardedConfig) (e : Config) → Same c e → Beside Same (surely c) (sure e)
    beside_one c e h = ((refl, h), tt)

    on : (cs : List CommandTree) (is : List Item) (turns' : ℕ → ℕ) → Stands cs is → Same (does cs s r) (config is t r turns')
    on cs is turns' h = record { items = is; values = t; turns = turns'; same = refl; long = long; short = short; agrees = a; stands = h }

    one_block : (b : Bool) (pa qa : BlockTree) (x y : Acts) (cs : List CommandTree) (more : List Item) → Matches own v size pa x → Matches own v size qa y → Stands cs more → Same (does (listed (cond b pa qa) cs) s r) (config (push (cond b x y) more) t r turns)
    one_block true pa qa x y cs more m k h = on (listed pa cs) (push x more) turns (block_stands pa x cs more m h)
    one_block false pa qa x y cs more m k h = on (listed qa cs) (push y more) turns (block_stands qa y cs more k h)

    goes_act : (f : Decision → GuardedOutcomes) (act : Act) (is js : List Item) → is ≡ Item.act act ∷ js → ((d : Decision) → Beside Same (f d) (step_act ps act js (config is t r turns) d)) → Goes f is t r turns
    goes_act f act is js e h = record { item = Item.act act; more = js; items = e; beside = h }

    -- ---- The test of a loop

    module _ (g i : Expression) (b : BlockTree) (span : Span) (h : Head) (x : Acts) (cs : List CommandTree) (is more : List Item) (same : SameCondition own v g h.guard) (m : Matches own v size b x) (k : Stands cs more) where
      abbrev again : CommandTree
      again = CommandTree.repeat g i b span

      one_test : (q : Bool) → Beside Same (surely (does (if q then listed b (again ∷ cs) else cs) s r)) (cond q (sure (turned (config is t r turns) (push x (Item.turn h x ∷ more)) h.number)) (sure (moved (config is t r turns) more t)))
      one_test true = beside_one _ _ (on (listed b (again ∷ cs)) (push x (Item.turn h x ∷ more)) (counted (config is t r turns) h.number) (block_stands b x (again ∷ cs) (Item.turn h x ∷ more) m (more, (k, record { head = h; same = same; body = x; matches = m; items = inr refl }))))
      one_test false = beside_one _ _ (on cs more turns k)

      test_goes : (d : Decision) → Beside Same (step_command own again cs s r d) (test (config is t r turns) more h x)
      test_goes d = subst (λ q. Beside Same (surely (does (if q then listed b (again ∷ cs) else cs) s r)) (test (config is t r turns) more h x)) (sym (same s t a)) (one_test (holds h.guard (environment t) Choices.stop))

    -- ---- A probabilistic choice

    chosen : (b : Bool) (x : ℕ) → v + v ≤ x → x < size → (pa qa : BlockTree) (y z : Acts) (span : Span) (cs : List CommandTree) (more : List Item) → Matches own v size pa y → Matches own v size qa z → Stands cs more → Same (enters (cond b pa qa) cs s r) (config (Item.act (Act.ifs (Arms.arm (Cond.flag x) y Arms.no_arm) z span) ∷ more) (set t x (Truth b)) r turns)
    chosen b x le lt pa qa y z span cs more m k h = record {
      items = Item.act (Act.ifs (Arms.arm (Cond.flag x) y Arms.no_arm) z span) ∷ more;
      values = set t x (Truth b);
      turns = turns;
      same = refl;
      long = length-set t x (Truth b) ∙ long;
      short = short;
      agrees = picked v s t a x (Truth b) le;
      stands = record { number = x; left = pa; right = qa; first = y; second = z; span = span; more = more; items = refl; left_matches = m; right_matches = k; told = ap (λ w. cond (truth_of w) pa qa) (sym (get_or-set_at t x x (Truth b) (Truth false) refl (subst (λ n. x < n) (sym long) lt))); stands = h };
    }

    mixes : (q : Expression) (pa qa : BlockTree) (at : Span) (cs : List CommandTree) (is more : List Item) (front : Acts) (m : MixActs own v size q front) → Matches own v size pa m.first → Matches own v size qa m.second → Stands cs more → is ≡ push front more → Goes (λ d. step_command own (CommandTree.mix q pa qa at) cs s r d) is t r turns
    mixes q pa qa at cs is more front m ma mb k e =
        let next = Item.act (Act.ifs (Arms.arm (Cond.flag m.number) m.first Arms.no_arm) m.second m.span) ∷ more in
        goes_act (λ d'. step_command own (CommandTree.mix q pa qa at) cs s r d') m.flip is next (e ∙ ap (λ l. push l more) m.are)
        (λ d. subst (λ ys. Beside Same (step_command own (CommandTree.mix q pa qa at) cs s r d) ys) (sym (m.flips ps next (config is t r turns) d s a))
        ((refl, chosen true m.number m.above m.below pa qa m.first m.second m.span cs more ma mb k), ((refl, chosen false m.number m.above m.below pa qa m.first m.second m.span cs more ma mb k), tt)))

    -- ---- All commands

    command_goes : (c : CommandTree) (cs : List CommandTree) (is more : List Item) → Stands cs more → OneStands c is more → Goes (λ d. step_command own c cs s r d) is t r turns
    command_goes (CommandTree.skip p) cs is more k h = goes_act (λ d'. step_command own (CommandTree.skip p) cs s r d') _ is more (h.items ∙ ap (λ x. push x more) h.translates.are) (λ d. beside_one _ _ (on cs more turns k))
    command_goes (CommandTree.assign x e p) cs is more k h =
        let w = h.translates in
        let lt = w.inside in
        goes_act (λ d'. step_command own (CommandTree.assign x e p) cs s r d') _ is more (h.items ∙ ap (λ x. push x more) w.are) (λ d. beside_one _ _ (record {
          items = more;
          values = set t (v + index_in own x) (term_value w.given (environment t));
          turns = turns;
          same = refl;
          long = length-set t (v + index_in own x) _ ∙ long;
          short = length-set s (index_in own x) _ ∙ short;
          agrees = subst (λ z. Agrees v (set s (index_in own x) z) (set t (v + index_in own x) (term_value w.given (environment t)))) (sym (w.same s t a)) (assigned v s t a (index_in own x) (term_value w.given (environment t)) lt short (subst (λ n. v + index_in own x < n) (sym long) (omega (arith, lt, wide))));
          stands = k;
        }))
    command_goes (CommandTree.tick e p) cs is more k h =
        let w = h.translates in
        goes_act (λ d'. step_command own (CommandTree.tick e p) cs s r d') _ is more (h.items ∙ ap (λ x. push x more) w.are) (λ d. beside_one _ _ (record {
          items = more;
          values = t;
          turns = turns;
          same = ap (λ z. config more t (r +ᵛ z) turns) (sym (w.same s t a));
          long = long;
          short = short;
          agrees = a;
          stands = k;
        }))
    command_goes (CommandTree.branch g pa qa p) cs is more k h =
        let w = h.translates in
        goes_act (λ d'. step_command own (CommandTree.branch g pa qa p) cs s r d') _ is more (h.items ∙ ap (λ x. push x more) w.0.are)
        (λ d. beside_one _ _ (subst (λ b. Same (does (listed (if b then pa else qa) cs) s r) (config (push (if holds w.0.guard (environment t) Choices.stop then w.0.first else w.0.second) more) t r turns)) (sym (w.0.same s t a)) (one_block (holds w.0.guard (environment t) Choices.stop) pa qa w.0.first w.0.second cs more w.1.0 w.1.1 k)))
    command_goes (CommandTree.choice pa qa p) cs is more k h =
        let w = h.translates in
        goes_act (λ d'. step_command own (CommandTree.choice pa qa p) cs s r d') _ is more (h.items ∙ ap (λ x. push x more) w.0.are) (λ d. beside_one _ _ (one_block (side_of d) pa qa w.0.first w.0.second cs more w.1.0 w.1.1 k))
    command_goes (CommandTree.repeat g i b p) cs is more k h = go h.items
      where
        go : (is ≡ Item.act (Act.loop h.head h.body) ∷ more) ⊎ (is ≡ Item.turn h.head h.body ∷ more) → Goes (λ d. step_command own (CommandTree.repeat g i b p) cs s r d) is t r turns
        go (inl e) = record { item = Item.act (Act.loop h.head h.body); more = more; items = e; beside = test_goes g i b p h.head h.body cs is more h.same h.matches k }
        go (inr e) = record { item = Item.turn h.head h.body; more = more; items = e; beside = test_goes g i b p h.head h.body cs is more h.same h.matches k }
    command_goes (CommandTree.mix q pa qa p) cs is more k h = mixes q pa qa p cs is more h.acts h.translates.0 h.translates.1.0 h.translates.1.1 k h.items

    enters_goes : (b : BlockTree) (cs : List CommandTree) (is : List Item) → Enters b cs is t → Goes (λ d. surely (does (listed b cs) s r)) is t r turns
    enters_goes b cs is h = goes_act (λ d'. surely (does (listed b cs) s r)) _ is h.more h.items
        (λ d. beside_one _ _ (subst (λ l. Same (does (listed l cs) s r) (config (push (if truth_of (get h.number t) then h.first else h.second) h.more) t r turns)) (sym h.told) (one_block (truth_of (get h.number t)) h.left h.right h.first h.second cs h.more h.left_matches h.right_matches h.stands)))

    stepped : (e : Option BlockTree) (cs : List CommandTree) (is : List Item) → StandsAt e cs is t → Stepped e cs s r is t turns
    stepped None [] is h = h
    stepped None (x ∷ cs) is h = command_goes x cs is h.0 h.1.0 h.1.1
    stepped (Some b) cs is h = enters_goes b cs is h

  -- ---- Sums

  module _ (post : Expression) (form : Form) (same_post : SameForm own v post form) where
    same_ended : (e : Option BlockTree) (cs : List CommandTree) (s t : List Val) (r : Value) (is : List Item) (turns : ℕ → ℕ) → Agrees v s t → Stepped e cs s r is t turns → at_end own post e cs s ≡ ended true form is t
    same_ended None [] s t r is turns a h = same_post s t a ∙ ap (λ l. ended true form l t) (sym h)
    same_ended None (x ∷ cs) s t r is turns a h = ap (λ l. ended true form l t) (sym h.items)
    same_ended (Some b) cs s t r is turns a h = ap (λ l. ended true form l t) (sym h.items)

    same_worth : (c : GuardedConfig) (e : Config) → Same c e → guarded_worth own post c ≡ worth true form e
    same_worth c e h = ap (λ x. c.reward +ᵛ x) (same_ended c.chosen c.todo c.state h.values c.reward h.items h.turns h.agrees (stepped c.state h.values c.reward h.turns h.long h.short h.agrees c.chosen c.todo h.items h.stands)) ∙ ap (worth true form) (sym h.same)

    pub same_sums : (n : ℕ) (c : GuardedConfig) (e : Config) (t : Tree) → Same c e → guarded_sum own post (guarded_runs own n c t) ≡ sum_of true form (runs ps n e t)
    same_sums zero c e t h = ap (weighted_sum (guarded_worth own post)) (guarded-zero own c t) ∙ (guarded-one (guarded_worth own post) c ∙ (same_worth c e h ∙ sym (ap (weighted_sum (worth true form)) (runs-zero ps e t) ∙ worth-one (worth true form) e)))
    same_sums (suc n) c e t h = ap (weighted_sum (guarded_worth own post)) (guarded-next own n c t) ∙ (go c.chosen c.todo h.items (stepped c.state h.values c.reward h.turns h.long h.short h.agrees c.chosen c.todo h.items h.stands) (same_worth c (config h.items h.values c.reward h.turns) (record { items = h.items; values = h.values; turns = h.turns; same = refl; long = h.long; short = h.short; agrees = h.agrees; stands = h.stands })) (λ c e k i. same_sums n c e k i) ∙ sym (ap (λ x. sum_of true form (runs ps (suc n) x t)) h.same ∙ ap (weighted_sum (worth true form)) (runs-next ps n (config h.items h.values c.reward h.turns) t)))
      where
        go : (o : Option BlockTree) (cs : List CommandTree) (is : List Item) → Stepped o cs c.state c.reward is h.values h.turns → guarded_worth own post c ≡ worth true form (config is h.values c.reward h.turns) → ((c : GuardedConfig) (e : Config) (k : Tree) → Same c e → guarded_sum own post (guarded_runs own n c k) ≡ sum_of true form (runs ps n e k)) → weighted_sum (guarded_worth own post) (onward own (guarded_runs own n) o cs c t) ≡ weighted_sum (worth true form) (machine.onward ps (runs ps n) is (config is h.values c.reward h.turns) t)
        go None [] is i w ih = guarded-one (guarded_worth own post) c ∙ (w ∙ sym (ap (λ l. weighted_sum (worth true form) (machine.onward ps (runs ps n) l (config is h.values c.reward h.turns) t)) i ∙ worth-one (worth true form) (config is h.values c.reward h.turns)))
        go None (x ∷ cs) is i w ih = beside_spread ps own (guarded_worth own post) (worth true form) Same n ih (step_command own x cs c.state c.reward (decision t)) (step_item ps i.item i.more (config is h.values c.reward h.turns) (decision t)) (under t) (i.beside (decision t)) ∙ ap (λ l. weighted_sum (worth true form) (machine.onward ps (runs ps n) l (config is h.values c.reward h.turns) t)) (sym i.items)
        go (Some b) cs is i w ih = beside_spread ps own (guarded_worth own post) (worth true form) Same n ih (surely (does (listed b cs) c.state c.reward)) (step_item ps i.item i.more (config is h.values c.reward h.turns) (decision t)) (under t) (i.beside (decision t)) ∙ ap (λ l. weighted_sum (worth true form) (machine.onward ps (runs ps n) l (config is h.values c.reward h.turns) t)) (sym i.items)
