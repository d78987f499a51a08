-- The step of each act on stored configurations is that of the definition.
use Rattle.std.proofs.Common.{◌≡◌, ℕ, ◌+◌, ◌==◌, ◌<◌, ◌≤◌, inl, inr, append_assoc, refl, ap, sym, subst, ◌∙◌, arith, Bool, true, false, List, [], ◌∷◌, ◌++◌, length, reverse, drop, slice_get}
use Rattle.std.proofs.lemmas.List.{length-append, length-set}
use Rattle.std.specs.Prelude.{if◌then◌else◌, Some, None}
use Prim.Native.Nat.{zero, suc}
use Rattle.std.proofs.lemmas.Option.{none-some}
use Rattle.heyvl_places.specs.declared.spans.Span.{Span}
use Rattle.heyvl_places.specs.declared.checks.CheckKind.{CheckKind}
use Rattle.heyvl_num.specs.Rational.{Rational, oneʳ}
use Rattle.heyvl_num.proofs.exported.Rationals.{zero-≤ʳ-one}
use Rattle.heylo_formula.specs.Choices.{Choices}
use Rattle.heylo_formula.specs.Formula.{Form, Term}
use Rattle.heylo_formula.specs.Meaning.{holds, term_value, value}
use Rattle.heylo_formula.specs.State.{environment, fit, has}
use Rattle.heylo_formula.specs.Typing.{Types}
use Rattle.heylo_formula.specs.declared.types.Ty.{Ty}
use Rattle.heylo_formula.specs.declared.values.Val.{Val}
use Rattle.heylo_formula.proofs.exported.States.{env_typed, fit_has}
use Rattle.heyvl_acts.specs.Acts.{Head, Act, Acts, Arms, TypedProcedure, procedure_at, type_list, types_of, variables}
use Rattle.heyvl_acts.specs.Matching.{taken}
use Rattle.heyvl_acts.specs.Places.{in_order, inside, act_named}
use Rattle.heyvl_acts.specs.Rules.{Each, IsOwn, MeetsRules}
use Rattle.heyvl_acts.specs.Tosses.{toss_parts}
use Rattle.heyvl_acts.specs.WellTypedActs.{DrawFits, PartsFit}
use Rattle.heyvl_acts.proofs.exported.Tosses.{toss_fit}
use Rattle.run_machine.specs.declared.configurations.Item.TheVariants.{Do, Turn, Out, Back}
use Rattle.run_machine.specs.Bound.{IsState}
use Rattle.run_machine.specs.ConfigConditions.{AreLists, CanRun, IsConfig, IsItemOf, IsOutput, NamesLoop}
use Rattle.run_machine.specs.Configurations.{Item, evaluate, push}
use Rattle.run_machine.specs.Names.{Names, call_parts, Numbered, Lists, Stored, act_item, turn_item, item_of, items_of, config_of, numbered}
use Rattle.run_machine.specs.Step.{Decision, sure, moved, turned, test, step, step_item, step_items, value_of, side_of}
use Rattle.run_machine.specs.StepAnswers.{asked_by}
use Rattle.run_machine.specs.internal.NextItems.{ComesNext, IsAt, ReturnsNext}
use Rattle.run_machine.specs.internal.Places.{Stands, text}
use Rattle.run_machine.specs.Replies.{StoredOutcomes, named, surely}
use Rattle.run_machine.specs.StoredLaws.{Comes, MeansStep, StoredStepsAreMeant}
use Rattle.run_machine.specs.StoredStep.{stored_act, stored_item, stored_items, stored_named, stored_return, stored_step}
use Rattle.run_machine.specs.StoredMoves.{asked, assigned, behind, collected, entered, going, more_turns, opened, resumed, stored_branches, taken_place, tested, turned_at}
use Rattle.run_machine.proofs.Calls.{enters, entered_config, resumes, resumed_config, returning, call_names}
use Rattle.run_machine.proofs.Moves.{collects, draws, opens, passes, turns_round}
use Rattle.run_machine.proofs.Places.{inside_stands, part_first, part_second}
use Rattle.run_machine.proofs.Positions.{At, each_append, lists_state, position}
use Rattle.run_machine.proofs.RuledActs.{Ruled, loop_range, ruled}
use Rattle.run_machine.proofs.RunPlaces.{block_belongs, each_first, each_second, taken_runs, taken_stands}
use Rattle.run_machine.proofs.exported.TypedStates.{first_typed, own_set, resumed_typed, term_has}

first_step : (ps : List TypedProcedure) (c : Stored) (d : Decision) (i : Numbered) (j : Item) → c.items ≡ i ∷ drop 1 c.items → item_of ps i ≡ j → step_item ps j (items_of ps (behind c)) (config_of ps c) d ≡ step ps (config_of ps c) d
first_step ps c d i j e n = sym (ap (λ l. step_items ps (items_of ps l) (config_of ps c) d) e ∙ ap (λ k. step_item ps k (items_of ps (behind c)) (config_of ps c) d) n)

first_asks : (ps : List TypedProcedure) (c : Stored) (i : Numbered) (j : Item) (m : ℕ) → c.items ≡ i ∷ drop 1 c.items → item_of ps i ≡ j → m ≡ c.made + asked_by (j ∷ items_of ps (behind c)) → m ≡ c.made + asked_by (items_of ps c.items)
first_asks ps c i j m e n h = h ∙ sym (ap (λ l. c.made + asked_by (items_of ps l)) e ∙ ap (λ k. c.made + asked_by (k ∷ items_of ps (behind c))) n)

pub stored_first : (ps : List TypedProcedure) (c : Stored) (d : Decision) (i : Numbered) (xs : StoredOutcomes) → c.items ≡ i ∷ drop 1 c.items → stored_item ps i c d ≡ xs → stored_step ps c d ≡ xs
stored_first ps c d i xs e w = ap (λ l. stored_items ps l c d) e ∙ w

item_step : (ps : List TypedProcedure) (c : Stored) (d : Decision) (i : Numbered) (j : Item) (xs : StoredOutcomes) → c.items ≡ i ∷ drop 1 c.items → item_of ps i ≡ j → stored_item ps i c d ≡ xs → named ps xs ≡ step_item ps j (items_of ps (behind c)) (config_of ps c) d → Each (Comes ps (c.made + asked_by (j ∷ items_of ps (behind c)))) xs → MeansStep ps c d
item_step ps c d i j xs e n w o k =
    let same = stored_first ps c d i xs e w in
    record {
      steps = ap (named ps) same ∙ o ∙ first_step ps c d i j e n;
      comes = subst (λ m. Each (Comes ps m) (stored_step ps c d)) (first_asks ps c i j _ e n refl) (subst (Each (Comes ps (c.made + asked_by (j ∷ items_of ps (behind c))))) (sym same) k);
    }

one_step : (ps : List TypedProcedure) (c : Stored) (d : Decision) (i : Numbered) (j : Item) (x : Stored) → c.items ≡ i ∷ drop 1 c.items → item_of ps i ≡ j → stored_item ps i c d ≡ surely x → sure (config_of ps x) ≡ step_item ps j (items_of ps (behind c)) (config_of ps c) d → Comes ps (c.made + asked_by (j ∷ items_of ps (behind c))) (oneʳ, x) → MeansStep ps c d
one_step ps c d i j x e n w o k = item_step ps c d i j (surely x) e n w o (k, tt)

pub does : (ps : List TypedProcedure) (c : Stored) (d : Decision) (p place : ℕ) (a : Act) → Names ps p place a → stored_item ps (Do p place) c d ≡ stored_act ps p place a c d
does ps c d p place a n = ap (λ o. stored_named ps p place o c d) n

no_more : (n : ℕ) → n ≡ n + 0
no_more n = omega arith

-- The act is no loop.
abbrev NoLoop : Act → Type 0
NoLoop (Act.loop h b) = ⊥
NoLoop (Act.set x t span) = Unit {0}
NoLoop (Act.draw x qs span) = Unit {0}
NoLoop (Act.toss x f span) = Unit {0}
NoLoop (Act.any x up ty span) = Unit {0}
NoLoop (Act.reward f span) = Unit {0}
NoLoop (Act.ifs arms e span) = Unit {0}
NoLoop (Act.pick up a b span) = Unit {0}
NoLoop (Act.check kind f span) = Unit {0}
NoLoop (Act.validate co span) = Unit {0}
NoLoop (Act.call xs q es span) = Unit {0}

-- What holds if an act comes next: its procedure runs.
record Known (ps : List TypedProcedure) (c : Stored) (p place : ℕ) (a : Act) : Type 0 where
  first : c.items ≡ Do p place ∷ drop 1 c.items
  at : At ps c (Do p place) p
  runs : Each (CanRun ps) (a ∷ inside a)
  stands : Stands (text ps p) (place + 1) (inside a)
  turns : length c.turns ≡ (procedure_at ps c.procedure).loops

same_act : (a b : Act) → Some a ≡ Some b → a ≡ b
same_act a b h = cc

pub inside_at : (ps : List TypedProcedure) (p place : ℕ) (a : Act) → Names ps p place a → Stands (text ps p) (place + 1) (inside a)
inside_at ps p place a n = subst (λ m. Stands (text ps p) m (inside a)) (let k : suc place ≡ place + 1 = omega arith in k) (inside_stands ps p place a n)

known_do : (ps : List TypedProcedure) (c : Stored) (p place : ℕ) (a : Act) → ComesNext ps c p place a → c.items ≡ Do p place ∷ drop 1 c.items → Known ps c p place a
known_do ps c p place a h f =
    let at = position ps c (Do p place) (drop 1 c.items) h.config f tt in
    let there : At ps c (Do p place) p = subst (λ n. At ps c (Do p place) n) (sym at.belongs.0) at in
    record {
      first = f;
      at = there;
      runs = subst (λ b. Each (CanRun ps) (b ∷ inside b)) (same_act there.belongs.1.act a (sym there.belongs.1.named ∙ h.names)) there.belongs.1.runs;
      stands = inside_at ps p place a h.names;
      turns = h.config.turns;
    }

-- The test of a loop comes next.
pub record UnderWay (ps : List TypedProcedure) (c : Stored) (p place : ℕ) (a : Act) : Type 0 where
  pub at : At ps c (Turn p place) p
  pub loop : NamesLoop ps p place
  pub same : Act.loop loop.head loop.body ≡ a

pub under_way : (ps : List TypedProcedure) (c : Stored) (p place : ℕ) (a : Act) → ComesNext ps c p place a → c.items ≡ Turn p place ∷ drop 1 c.items → UnderWay ps c p place a
under_way ps c p place a h f =
    let at = position ps c (Turn p place) (drop 1 c.items) h.config f tt in
    let there : At ps c (Turn p place) p = subst (λ n. At ps c (Turn p place) n) (sym at.belongs.0) at in
    record { at = there; loop = there.belongs.1; same = same_act _ a (sym there.belongs.1.named ∙ h.names) }

known : (ps : List TypedProcedure) (c : Stored) (p place : ℕ) (a : Act) → ComesNext ps c p place a → NoLoop a → Known ps c p place a
known ps c p place a h plain = go h.first
  where
    go : IsAt p place c.items → Known ps c p place a
    go (inl f) = known_do ps c p place a h f
    go (inr f) = absurd (subst NoLoop (sym (under_way ps c p place a h f).same) plain)

goes : (ps : List TypedProcedure) (c : Stored) (p : ℕ) (i : Numbered) (front : List Numbered) (s : List Val) → At ps c i p → length c.turns ≡ (procedure_at ps c.procedure).loops → Each (IsItemOf ps p) front → IsState (procedure_at ps p) s → IsConfig ps (going c (front ++ behind c) s)
goes ps c p i front s at turns each st = record { running = p; lists = at.goes front s each st; turns = turns }

-- ---- Acts that contain no other acts

set_means : (ps : List TypedProcedure) (c : Stored) (d : Decision) (p place x : ℕ) (t : Term) (span : Span) → ComesNext ps c p place (Act.set x t span) → MeansStep ps c d
set_means ps c d p place x t span h =
    let k = known ps c p place (Act.set x t span) h tt in
    let rule = ruled ps p place (Act.set x t span) h.rules h.names in
    let st = own_set (procedure_at ps p) c.state x (term_value t (environment c.state)) k.at.state rule.targets (term_has (procedure_at ps p) c.state (types_of (procedure_at ps p) x) t k.at.state rule.typed) in
    one_step ps c d (Do p place) (Item.act (Act.set x t span)) (assigned c x (term_value t (environment c.state))) k.first (ap act_item h.names) (does ps c d p place (Act.set x t span) h.names) (ap sure (passes ps c _ k.at.continues)) (record { weight = zero-≤ʳ-one; asks = no_more c.made; config = goes ps c p (Do p place) [] _ k.at k.turns tt st })

parts_fit_all : (types : Types) (x : ℕ) (qs : List (Rational × Term)) → DrawFits types x qs → PartsFit types x qs
parts_fit_all types x [] h = tt
parts_fit_all types x (q ∷ qs) h = h

parts_come : (ps : List TypedProcedure) (c : Stored) (p place x : ℕ) (qs : List (Rational × Term)) → At ps c (Do p place) p → length c.turns ≡ (procedure_at ps c.procedure).loops → IsOwn (procedure_at ps p) x → PartsFit (types_of (procedure_at ps p)) x qs → Each (Comes ps (c.made + 0)) (stored_branches c x qs)
parts_come ps c p place x [] at ts o h = tt
parts_come ps c p place x (q ∷ qs) at ts o h = (record { weight = h.0.0; asks = no_more c.made; config = goes ps c p (Do p place) [] _ at ts tt (own_set (procedure_at ps p) c.state x (term_value q.1 (environment c.state)) at.state o (term_has (procedure_at ps p) c.state (types_of (procedure_at ps p) x) q.1 at.state h.0.1)) }, parts_come ps c p place x qs at ts o h.1)

draw_means : (ps : List TypedProcedure) (c : Stored) (d : Decision) (p place x : ℕ) (qs : List (Rational × Term)) (span : Span) → ComesNext ps c p place (Act.draw x qs span) → MeansStep ps c d
draw_means ps c d p place x qs span h =
    let k = known ps c p place (Act.draw x qs span) h tt in
    let rule = ruled ps p place (Act.draw x qs span) h.rules h.names in
    item_step ps c d (Do p place) (Item.act (Act.draw x qs span)) (stored_branches c x qs) k.first (ap act_item h.names) (does ps c d p place (Act.draw x qs span) h.names) (draws ps c x qs k.at.continues) (parts_come ps c p place x qs k.at k.turns rule.targets (parts_fit_all (types_of (procedure_at ps p)) x qs rule.typed))

toss_means : (ps : List TypedProcedure) (c : Stored) (d : Decision) (p place x : ℕ) (f : Form) (span : Span) → ComesNext ps c p place (Act.toss x f span) → MeansStep ps c d
toss_means ps c d p place x f span h =
    let k = known ps c p place (Act.toss x f span) h tt in
    let rule = ruled ps p place (Act.toss x f span) h.rules h.names in
    let qs = toss_parts f (environment c.state) in
    let fit = toss_fit (types_of (procedure_at ps p)) x f (environment c.state) rule.typed.0 rule.typed.1 (env_typed (type_list (variables (procedure_at ps p))) c.state k.at.state) in
    item_step ps c d (Do p place) (Item.act (Act.toss x f span)) (stored_branches c x qs) k.first (ap act_item h.names) (does ps c d p place (Act.toss x f span) h.names) (draws ps c x qs k.at.continues) (parts_come ps c p place x qs k.at k.turns rule.targets fit)

pub asked_config : (ps : List TypedProcedure) (c : Stored) → IsConfig ps c → IsConfig ps (asked c)
asked_config ps c h = record { running = h.running; lists = h.lists; turns = h.turns }

any_means : (ps : List TypedProcedure) (c : Stored) (d : Decision) (p place x : ℕ) (up : Bool) (ty : Ty) (span : Span) → ComesNext ps c p place (Act.any x up ty span) → MeansStep ps c d
any_means ps c d p place x up ty span h =
    let k = known ps c p place (Act.any x up ty span) h tt in
    let rule = ruled ps p place (Act.any x up ty span) h.rules h.names in
    let st = own_set (procedure_at ps p) c.state x (fit ty (value_of d)) k.at.state rule.targets (subst (λ t. has t (fit ty (value_of d)) ≡ true) (sym rule.typed) (fit_has ty (value_of d))) in
    one_step ps c d (Do p place) (Item.act (Act.any x up ty span)) (asked (assigned c x (fit ty (value_of d)))) k.first (ap act_item h.names) (does ps c d p place (Act.any x up ty span) h.names) (ap sure (passes ps c _ k.at.continues)) (record { weight = zero-≤ʳ-one; asks = refl; config = asked_config ps _ (goes ps c p (Do p place) [] _ k.at k.turns tt st) })

reward_means : (ps : List TypedProcedure) (c : Stored) (d : Decision) (p place : ℕ) (f : Form) (span : Span) → ComesNext ps c p place (Act.reward f span) → MeansStep ps c d
reward_means ps c d p place f span h =
    let k = known ps c p place (Act.reward f span) h tt in
    let g = goes ps c p (Do p place) [] c.state k.at k.turns tt k.at.state in
    one_step ps c d (Do p place) (Item.act (Act.reward f span)) (collected c (value f (environment c.state) Choices.stop)) k.first (ap act_item h.names) (does ps c d p place (Act.reward f span) h.names) (ap sure (collects ps c _ k.at.continues)) (record { weight = zero-≤ʳ-one; asks = no_more c.made; config = record { running = g.running; lists = g.lists; turns = g.turns } })

-- ---- Acts that contain blocks

opened_config : (ps : List TypedProcedure) (c : Stored) (p place : ℕ) (i : Numbered) (acts : Acts) → At ps c i p → length c.turns ≡ (procedure_at ps c.procedure).loops → Stands (text ps p) place (in_order acts) → Each (CanRun ps) (in_order acts) → IsConfig ps (opened c p place acts)
opened_config ps c p place i acts at ts s r = goes ps c p i (numbered p place acts) c.state at ts (block_belongs ps p place acts s r) at.state

if_means : (ps : List TypedProcedure) (c : Stored) (d : Decision) (p place : ℕ) (arms : Arms) (other : Acts) (span : Span) → ComesNext ps c p place (Act.ifs arms other span) → MeansStep ps c d
if_means ps c d p place arms other span h =
    let k = known ps c p place (Act.ifs arms other span) h tt in
    let stands = taken_stands (text ps p) (place + 1) arms other (environment c.state) k.stands in
    one_step ps c d (Do p place) (Item.act (Act.ifs arms other span)) (opened c p (taken_place (place + 1) arms (environment c.state)) (taken arms other (environment c.state))) k.first (ap act_item h.names) (does ps c d p place (Act.ifs arms other span) h.names) (ap sure (opens ps c p _ (taken arms other (environment c.state)) k.at.continues stands)) (record { weight = zero-≤ʳ-one; asks = no_more c.made; config = opened_config ps c p _ (Do p place) (taken arms other (environment c.state)) k.at k.turns stands (taken_runs ps arms other (environment c.state) k.runs.1) })

pick_means : (ps : List TypedProcedure) (c : Stored) (d : Decision) (p place : ℕ) (up : Bool) (a b : Acts) (span : Span) → ComesNext ps c p place (Act.pick up a b span) → MeansStep ps c d
pick_means ps c d p place up a b span h =
    one_step ps c d (Do p place) (Item.act (Act.pick up a b span)) (asked (if side_of d then opened c p (place + 1) a else opened c p (place + 1 + length (in_order a)) b)) k.first (ap act_item h.names) (does ps c d p place (Act.pick up a b span) h.names) (ap sure (moves_to (side_of d))) (record { weight = zero-≤ʳ-one; asks = asks (side_of d); config = meets (side_of d) })
  where
    k : Known ps c p place (Act.pick up a b span)
    k = known ps c p place (Act.pick up a b span) h tt

    left : Stands (text ps p) (place + 1) (in_order a)
    left = part_first (text ps p) (place + 1) (in_order a) (in_order b) k.stands

    right : Stands (text ps p) (place + 1 + length (in_order a)) (in_order b)
    right = part_second (text ps p) (place + 1) (in_order a) (in_order b) k.stands

    moves_to : (t : Bool) → config_of ps (asked (if t then opened c p (place + 1) a else opened c p (place + 1 + length (in_order a)) b)) ≡ moved (config_of ps c) (push (if t then a else b) (items_of ps (behind c))) c.state
    moves_to true = opens ps c p (place + 1) a k.at.continues left
    moves_to false = opens ps c p (place + 1 + length (in_order a)) b k.at.continues right

    asks : (t : Bool) → (asked (if t then opened c p (place + 1) a else opened c p (place + 1 + length (in_order a)) b)).made ≡ c.made + 1
    asks true = refl
    asks false = refl

    meets : (t : Bool) → IsConfig ps (asked (if t then opened c p (place + 1) a else opened c p (place + 1 + length (in_order a)) b))
    meets true = asked_config ps _ (opened_config ps c p _ (Do p place) a k.at k.turns left (each_first (CanRun ps) (in_order a) (in_order b) k.runs.1))
    meets false = asked_config ps _ (opened_config ps c p _ (Do p place) b k.at k.turns right (each_second (CanRun ps) (in_order a) (in_order b) k.runs.1))

-- ---- Loops

length_more : (n : ℕ) (ts : List ℕ) → length (more_turns n ts) ≡ length ts
length_more zero ts = refl
length_more (suc n) ts = length-set ts n _

-- What holds if the test of a loop comes next.
record Tests (ps : List TypedProcedure) (c : Stored) (i : Numbered) (p place : ℕ) (h : Head) (b : Acts) : Type 0 where
  at : At ps c i p
  names : Names ps p place (Act.loop h b)
  runs : Each (CanRun ps) (in_order b)
  stands : Stands (text ps p) (place + 1) (in_order b)
  turns : length c.turns ≡ (procedure_at ps c.procedure).loops
  range : (1 ≤ h.number) × (h.number ≤ (procedure_at ps p).loops)

test_named : (ps : List TypedProcedure) (c : Stored) (i : Numbered) (p place : ℕ) (h : Head) (b : Acts) → Tests ps c i p place h b → sure (config_of ps (tested c p place h.guard h.number b)) ≡ test (config_of ps c) (items_of ps (behind c)) h b
test_named ps c i p place h b k = go (holds h.guard (environment c.state) Choices.stop)
  where
    within : p ≡ c.procedure → (1 ≤ h.number) × (h.number ≤ length c.turns)
    within e = (k.range.0, subst (λ n. h.number ≤ n) (sym (k.turns ∙ ap (λ q. (procedure_at ps q).loops) (sym e))) k.range.1)

    go : (t : Bool) → sure (config_of ps (if t then turned_at c p place h.number b else going c (behind c) c.state)) ≡ (if t then sure (turned (config_of ps c) (push b (Item.turn h b ∷ items_of ps (behind c))) h.number) else sure (moved (config_of ps c) (items_of ps (behind c)) c.state))
    go true = ap sure (turns_round ps c p place h b k.at.continues k.names k.stands k.at.runs within)
    go false = ap sure (passes ps c c.state k.at.continues)

turned_length : (p start n : ℕ) (ts : List ℕ) (t : Bool) → length (if t then more_turns n ts else ts) ≡ length ts
turned_length p start n ts true = length_more n ts
turned_length p start n ts false = refl

test_comes : (ps : List TypedProcedure) (c : Stored) (i : Numbered) (p place : ℕ) (h : Head) (b : Acts) → Tests ps c i p place h b → Comes ps (c.made + 0) (oneʳ, tested c p place h.guard h.number b)
test_comes ps c i p place h b k = go (holds h.guard (environment c.state) Choices.stop)
  where
    again : Each (IsItemOf ps p) (Turn p place ∷ [])
    again = ((refl, record { head = h; body = b; named = k.names; runs = k.runs }), tt)

    go : (t : Bool) → Comes ps (c.made + 0) (oneʳ, (if t then turned_at c p place h.number b else going c (behind c) c.state))
    go true = record {
      weight = zero-≤ʳ-one;
      asks = no_more c.made;
      config = record {
        running = p;
        lists = subst (λ l. AreLists ps c.procedure p l c.state (reverse c.frames)) (append_assoc (numbered p (place + 1) b) (Turn p place ∷ []) (behind c)) (k.at.goes (numbered p (place + 1) b ++ (Turn p place ∷ [])) c.state (each_append (IsItemOf ps p) (numbered p (place + 1) b) (Turn p place ∷ []) (block_belongs ps p (place + 1) b k.stands k.runs) again) k.at.state);
        turns = turned_length p c.procedure h.number c.turns (p == c.procedure) ∙ k.turns;
      };
    }
    go false = record { weight = zero-≤ʳ-one; asks = no_more c.made; config = goes ps c p i [] c.state k.at k.turns tt k.at.state }

loop_means : (ps : List TypedProcedure) (c : Stored) (d : Decision) (p place : ℕ) (h : Head) (b : Acts) → ComesNext ps c p place (Act.loop h b) → MeansStep ps c d
loop_means ps c d p place h b n = go n.first
  where
    begins : Known ps c p place (Act.loop h b) → Tests ps c (Do p place) p place h b
    begins k = record { at = k.at; names = n.names; runs = k.runs.1; stands = k.stands; turns = k.turns; range = loop_range ps p place h b n.rules n.names }

    again : UnderWay ps c p place (Act.loop h b) → Tests ps c (Turn p place) p place h b
    again u = record { at = u.at; names = n.names; runs = subst (λ a. Each (CanRun ps) (inside a)) u.same u.loop.runs; stands = inside_at ps p place (Act.loop h b) n.names; turns = n.config.turns; range = loop_range ps p place h b n.rules n.names }

    go : IsAt p place c.items → MeansStep ps c d
    go (inl f) = let k = begins (known_do ps c p place (Act.loop h b) n f) in one_step ps c d (Do p place) (Item.act (Act.loop h b)) (tested c p place h.guard h.number b) f (ap act_item n.names) (does ps c d p place (Act.loop h b) n.names) (test_named ps c (Do p place) p place h b k) (test_comes ps c (Do p place) p place h b k)
    go (inr f) = let k = again (under_way ps c p place (Act.loop h b) n f) in one_step ps c d (Turn p place) (Item.turn h b) (tested c p place h.guard h.number b) f (ap turn_item n.names) (does ps c d p place (Act.loop h b) n.names) (test_named ps c (Turn p place) p place h b k) (test_comes ps c (Turn p place) p place h b k)

-- ---- Calls, outputs and returns

call_means : (ps : List TypedProcedure) (c : Stored) (d : Decision) (p place q : ℕ) (xs : List ℕ) (es : List Term) (span : Span) → ComesNext ps c p place (Act.call xs q es span) → MeansStep ps c d
call_means ps c d p place q xs es span h =
    let k = known ps c p place (Act.call xs q es span) h tt in
    let rule = ruled ps p place (Act.call xs q es span) h.rules h.names in
    let vs = evaluate es (environment c.state) in
    let st = first_typed (procedure_at ps p) (procedure_at ps q) c.state es k.at.state rule.typed.arguments in
    one_step ps c d (Do p place) (Item.act (Act.call xs q es span)) (entered c p place q (procedure_at ps q) (evaluate es (environment c.state))) k.first (ap act_item h.names) (does ps c d p place (Act.call xs q es span) h.names) (ap sure (enters ps c p place q xs es span (evaluate es (environment c.state)) k.at.continues h.names)) (record { weight = zero-≤ʳ-one; asks = no_more c.made; config = entered_config ps c p place q xs es span (evaluate es (environment c.state)) h.names k.runs.0 st (k.at.goes [] c.state tt k.at.state) k.turns })

out_own : (p : TypedProcedure) (x : ℕ) → IsOutput p x → IsOwn p x
out_own p x h = record { no_input = h.no_input; below = let b = h.below in let a = length-append p.inputs p.outputs in let e = length-append p.inputs (p.outputs ++ p.locals) in let f = length-append p.outputs p.locals in omega (arith, a, b, e, f) }

pub out_means : (ps : List TypedProcedure) (c : Stored) (d : Decision) (q x : ℕ) → IsConfig ps c → c.items ≡ Out q x ∷ drop 1 c.items → MeansStep ps c d
out_means ps c d q x h f =
    let at = position ps c (Out q x) (drop 1 c.items) h f tt in
    let there : At ps c (Out q x) q = subst (λ m. At ps c (Out q x) m) (sym at.belongs.0) at in
    let ty = types_of (procedure_at ps q) x in
    let st = own_set (procedure_at ps q) c.state x (fit (types_of (procedure_at ps q) x) (value_of d)) there.state (out_own (procedure_at ps q) x there.belongs.1) (fit_has (types_of (procedure_at ps q) x) (value_of d)) in
    one_step ps c d (Out q x) (Item.out x (types_of (procedure_at ps q) x)) (asked (assigned c x (fit (types_of (procedure_at ps q) x) (value_of d)))) f refl refl (ap sure (passes ps c _ there.continues)) (record { weight = zero-≤ʳ-one; asks = refl; config = asked_config ps _ (goes ps c q (Out q x) [] _ there h.turns tt st) })

pub back_means : (ps : List TypedProcedure) (c : Stored) (d : Decision) (p place q : ℕ) (xs : List ℕ) (es : List Term) (span : Span) → Each (MeetsRules ps) ps → IsConfig ps c → c.items ≡ Back p place ∷ drop 1 c.items → Names ps p place (Act.call xs q es span) → MeansStep ps c d
back_means ps c d p place q xs es span rules h f n = go (reverse c.frames) refl
  where
    lists : AreLists ps c.procedure h.running (Back p place ∷ drop 1 c.items) c.state (reverse c.frames)
    lists = subst (λ l. AreLists ps c.procedure h.running l c.state (reverse c.frames)) f h.lists

    rule : Ruled ps p (Act.call xs q es span)
    rule = ruled ps p place (Act.call xs q es span) rules n

    go : (l : List Lists) → reverse c.frames ≡ l → MeansStep ps c d
    go [] z = absurd (subst (λ l. AreLists ps c.procedure h.running (Back p place ∷ drop 1 c.items) c.state l) z lists).1.0.0
    go (g ∷ gs) z =
        let k = returning ps c.procedure h.running p place q xs es span (drop 1 c.items) c.state g gs n (subst (λ l. AreLists ps c.procedure h.running (Back p place ∷ drop 1 c.items) c.state l) z lists) in
        let st = resumed_typed (procedure_at ps p) (procedure_at ps q) xs c.state g.1 rule.targets rule.typed.targets k.state (lists_state ps c.procedure p g.0 g.1 gs k.waits) in
        one_step ps c d (Back p place) Item.back (resumed c xs (procedure_at ps q) (reverse gs) g) f refl (ap (λ o. stored_return ps (call_parts o) c (reverse c.frames)) n ∙ ap (stored_return ps (xs, q) c) z) (resumes ps c p place q xs es span g gs (items_of ps (behind c)) (f ∙ ap (λ l. Back p place ∷ l) k.alone) n z) (record { weight = zero-≤ʳ-one; asks = no_more c.made; config = resumed_config ps c p q xs g gs k.waits st h.turns })

pub ended_means : (ps : List TypedProcedure) (c : Stored) (d : Decision) → c.items ≡ [] → MeansStep ps c d
ended_means ps c d f =
    let none : stored_step ps c d ≡ [] = ap (λ l. stored_items ps l c d) f in
    record {
      steps = ap (named ps) none ∙ sym (ap (λ l. step_items ps (items_of ps l) (config_of ps c) d) f);
      comes = subst (Each (Comes ps (c.made + asked_by (items_of ps c.items)))) (sym none) tt;
    }

-- A check or a validation never comes next.
check_means : (ps : List TypedProcedure) (c : Stored) (d : Decision) (p place : ℕ) (kind : CheckKind) (f : Form) (span : Span) → ComesNext ps c p place (Act.check kind f span) → MeansStep ps c d
check_means ps c d p place kind f span h = absurd (known ps c p place (Act.check kind f span) h tt).runs.0

validate_means : (ps : List TypedProcedure) (c : Stored) (d : Decision) (p place : ℕ) (co : Bool) (span : Span) → ComesNext ps c p place (Act.validate co span) → MeansStep ps c d
validate_means ps c d p place co span h = absurd (known ps c p place (Act.validate co span) h tt).runs.0

pub act_means : (ps : List TypedProcedure) (c : Stored) (d : Decision) (p place : ℕ) (a : Act) → ComesNext ps c p place a → MeansStep ps c d
act_means ps c d p place (Act.set x t span) h = set_means ps c d p place x t span h
act_means ps c d p place (Act.draw x qs span) h = draw_means ps c d p place x qs span h
act_means ps c d p place (Act.toss x f span) h = toss_means ps c d p place x f span h
act_means ps c d p place (Act.any x up ty span) h = any_means ps c d p place x up ty span h
act_means ps c d p place (Act.reward f span) h = reward_means ps c d p place f span h
act_means ps c d p place (Act.ifs arms e span) h = if_means ps c d p place arms e span h
act_means ps c d p place (Act.pick up a b span) h = pick_means ps c d p place up a b span h
act_means ps c d p place (Act.check kind f span) h = check_means ps c d p place kind f span h
act_means ps c d p place (Act.validate co span) h = validate_means ps c d p place co span h
act_means ps c d p place (Act.loop h b) n = loop_means ps c d p place h b n
act_means ps c d p place (Act.call xs q es span) h = call_means ps c d p place q xs es span h

-- ---- Named acts

pub some_act : (ps : List TypedProcedure) (c : Stored) (p place : ℕ) → IsConfig ps c → IsAt p place c.items → act_named ps p place ≡ None → ⊥
some_act ps c p place h first e = go first
  where
    go : IsAt p place c.items → ⊥
    go (inl f) =
        let at = position ps c (Do p place) (drop 1 c.items) h f tt in
        let there : At ps c (Do p place) p = subst (λ n. At ps c (Do p place) n) (sym at.belongs.0) at in
        elim (none-some there.belongs.1.act (sym e ∙ there.belongs.1.named)) [ ]
    go (inr f) =
        let at = position ps c (Turn p place) (drop 1 c.items) h f tt in
        let there : At ps c (Turn p place) p = subst (λ n. At ps c (Turn p place) n) (sym at.belongs.0) at in
        elim (none-some (Act.loop there.belongs.1.head there.belongs.1.body) (sym e ∙ there.belongs.1.named)) [ ]

-- A return names a call.
pub record Called (ps : List TypedProcedure) (p place : ℕ) : Type 0 where
  pub targets : List ℕ
  pub callee : ℕ
  pub arguments : List Term
  pub span : Span
  pub names : Names ps p place (Act.call targets callee arguments span)

pub back_called : (ps : List TypedProcedure) (c : Stored) (p place : ℕ) → IsConfig ps c → c.items ≡ Back p place ∷ drop 1 c.items → Called ps p place
back_called ps c p place h f = go (reverse c.frames) (subst (λ l. AreLists ps c.procedure h.running l c.state (reverse c.frames)) f h.lists)
  where
    go : (l : List Lists) → AreLists ps c.procedure h.running (Back p place ∷ drop 1 c.items) c.state l → Called ps p place
    go [] k = absurd k.1.0.0
    go (g ∷ gs) k = let n = call_names ps c.procedure h.running p place (drop 1 c.items) c.state g gs k in record { targets = k.1.0.targets; callee = h.running; arguments = k.1.0.arguments; span = k.1.0.span; names = n }

pub some_call : (ps : List TypedProcedure) (c : Stored) (p place : ℕ) → IsConfig ps c → c.items ≡ Back p place ∷ drop 1 c.items → act_named ps p place ≡ None → ⊥
some_call ps c p place h f e = let k = back_called ps c p place h f in elim (none-some (Act.call k.targets k.callee k.arguments k.span) (sym e ∙ k.names)) [ ]

-- The act is no call.
abbrev NoCall : Act → Type 0
NoCall (Act.call xs q es span) = ⊥
NoCall (Act.set x t span) = Unit {0}
NoCall (Act.draw x qs span) = Unit {0}
NoCall (Act.toss x f span) = Unit {0}
NoCall (Act.any x up ty span) = Unit {0}
NoCall (Act.reward f span) = Unit {0}
NoCall (Act.ifs arms e span) = Unit {0}
NoCall (Act.pick up a b span) = Unit {0}
NoCall (Act.check kind f span) = Unit {0}
NoCall (Act.validate co span) = Unit {0}
NoCall (Act.loop h b) = Unit {0}

-- A return comes only to a call.
pub to_no_other : (ps : List TypedProcedure) (c : Stored) (a : Act) → ReturnsNext ps c a → NoCall a → ⊥
to_no_other ps c a h other = let k = back_called ps c h.p h.place h.config h.first in subst NoCall (same_act a (Act.call k.targets k.callee k.arguments k.span) (sym h.names ∙ k.names)) other

pub back_there : (ps : List TypedProcedure) (c : Stored) (q : ℕ) (xs : List ℕ) (es : List Term) (span : Span) → ReturnsNext ps c (Act.call xs q es span) → q < length ps
back_there ps c q xs es span h = (ruled ps h.p h.place (Act.call xs q es span) h.rules h.names).typed.there

pub back_state : (ps : List TypedProcedure) (c : Stored) (q : ℕ) (xs : List ℕ) (es : List Term) (span : Span) → ReturnsNext ps c (Act.call xs q es span) → IsState (procedure_at ps q) c.state
back_state ps c q xs es span h = go (reverse c.frames) (subst (λ l. AreLists ps c.procedure h.config.running l c.state (reverse c.frames)) h.first h.config.lists)
  where
    go : (l : List Lists) → AreLists ps c.procedure h.config.running (Back h.p h.place ∷ drop 1 c.items) c.state l → IsState (procedure_at ps q) c.state
    go [] k = absurd k.1.0.0
    go (g ∷ gs) k = (returning ps c.procedure h.config.running h.p h.place q xs es span (drop 1 c.items) c.state g gs h.names k).state

pub first_item : (is : List Numbered) (i : Numbered) → slice_get is 0 ≡ Some i → is ≡ i ∷ drop 1 is
first_item [] i h = elim (none-some i h) [ ]
first_item (j ∷ is) i h = ap (λ k. k ∷ is) (let e : j ≡ i = cc in e)

-- ---- Any configuration

first_of : (c : Stored) (i : Numbered) (is : List Numbered) → c.items ≡ i ∷ is → c.items ≡ i ∷ drop 1 c.items
first_of c i is e = e ∙ ap (λ l. i ∷ drop 1 l) (sym e)

pub stored_steps_are_meant : StoredStepsAreMeant
stored_steps_are_meant ps rules c h d = go c.items refl
  where
    go : (is : List Numbered) → c.items ≡ is → MeansStep ps c d
    go [] e = ended_means ps c d e
    go (Do p place ∷ is) e =
        let f = first_of c (Do p place) is e in
        let at = position ps c (Do p place) (drop 1 c.items) h f tt in
        let there : At ps c (Do p place) p = subst (λ n. At ps c (Do p place) n) (sym at.belongs.0) at in
        act_means ps c d p place there.belongs.1.act (record { rules = rules; config = h; first = inl f; names = there.belongs.1.named })
    go (Turn p place ∷ is) e =
        let f = first_of c (Turn p place) is e in
        let at = position ps c (Turn p place) (drop 1 c.items) h f tt in
        let there : At ps c (Turn p place) p = subst (λ n. At ps c (Turn p place) n) (sym at.belongs.0) at in
        act_means ps c d p place (Act.loop there.belongs.1.head there.belongs.1.body) (record { rules = rules; config = h; first = inr f; names = there.belongs.1.named })
    go (Out q x ∷ is) e = out_means ps c d q x h (first_of c (Out q x) is e)
    go (Back p place ∷ is) e =
        let f = first_of c (Back p place) is e in
        let k = back_called ps c p place h f in
        back_means ps c d p place k.callee k.targets k.arguments k.span rules h f k.names
