-- The result of the program's step is that of the definition.
use Rattle.std.proofs.Common.{◌≡◌, ℕ, ◌+◌, ◌<◌, ◌≤◌, ◌^◌, inl, inr, refl, ap, ap₂, sym, subst, ◌∙◌, arith, Bool, true, List, [], ◌∷◌, ◌++◌, length, reverse, drop}
use Rattle.std.proofs.lemmas.List.{reverse-append, reverse-reverse}
use Rattle.std.proofs.lemmas.Option.{none-some}
use Rattle.std.specs.Prelude.{Some}
use Prim.Native.Nat.{zero, suc}
use Rattle.heyvl_places.specs.declared.spans.Span.{Span}
use Rattle.heylo_formula.specs.Formula.{Term}
use Rattle.heylo_formula.specs.State.{fit}
use Rattle.heyvl_acts.specs.Acts.{Act, TypedProcedure, procedure_at, types_of}
use Rattle.heyvl_acts.specs.Places.{nth, inside}
use Rattle.heyvl_acts.specs.Rules.{Each, HasFewActs, MeetsRules}
use Rattle.run_machine.specs.declared.configurations.Item.TheVariants.{Do, Turn, Out, Back}
use Rattle.run_machine.specs.declared.configurations.Stepped.{Stepped}
use Rattle.run_machine.specs.BoundedStep.{act_fits, item_fits, items_fit}
use Rattle.run_machine.specs.ConfigConditions.{AreLists, IsConfig}
use Rattle.run_machine.specs.Configurations.{Item}
use Rattle.run_machine.specs.Names.{Names, Numbered, Lists, Stored, act_item, call_parts, turn_item, item_of, items_of, config_of}
use Rattle.run_machine.specs.Replies.{StoredOutcomes, reply_of, replied, surely}
use Rattle.run_machine.specs.Step.{Decision, value_of}
use Rattle.run_machine.specs.StepAnswers.{IsStep}
use Rattle.run_machine.specs.StoredLaws.{MeansStep}
use Rattle.run_machine.specs.StoredMoves.{asked, assigned, resumed}
use Rattle.run_machine.specs.StoredStep.{stored_act, stored_item, stored_items, stored_return}
use Rattle.run_machine.specs.internal.NextItems.{ComesNext, IsAt}
use Rattle.run_machine.specs.internal.Places.{Stands, text}
use Rattle.run_machine.proofs.Places.{part_head, part_rest}
use Rattle.run_machine.proofs.Procedures.{text_is}
use Rattle.run_machine.proofs.Replies.{is_step}
use Rattle.run_machine.proofs.Steps.{act_means, back_means, does, ended_means, inside_at, out_means, stored_first, under_way}

first_fits : (ps : List TypedProcedure) (c : Stored) (i : Numbered) (j : Item) → c.items ≡ i ∷ drop 1 c.items → item_of ps i ≡ j → item_fits j (config_of ps c) ≡ items_fit (items_of ps c.items) (config_of ps c)
first_fits ps c i j e n = sym (ap (λ l. items_fit (items_of ps l) (config_of ps c)) e ∙ ap (λ k. item_fits k (config_of ps c)) n)

-- The program's result is the step, if its overflows are those of the first item.
item_is : (ps : List TypedProcedure) (c : Stored) (d : Decision) (r : Stepped) (i : Numbered) (j : Item) (fits : Bool) (xs : StoredOutcomes) → c.items ≡ i ∷ drop 1 c.items → item_of ps i ≡ j → stored_item ps i c d ≡ xs → reply_of r ≡ replied fits xs → fits ≡ item_fits j (config_of ps c) → MeansStep ps c d → IsStep ps c d r
item_is ps c d r i j fits xs e n w h f m = is_step ps c d r m (h ∙ ap₂ replied (f ∙ first_fits ps c i j e n) (sym (stored_first ps c d i xs e w)))

pub act_is : (ps : List TypedProcedure) (c : Stored) (d : Decision) (r : Stepped) (p place : ℕ) (a : Act) → ComesNext ps c p place a → reply_of r ≡ replied (act_fits a (config_of ps c)) (stored_act ps p place a c d) → IsStep ps c d r
act_is ps c d r p place a h e = go h.first
  where
    go : IsAt p place c.items → IsStep ps c d r
    go (inl f) = item_is ps c d r (Do p place) (Item.act a) (act_fits a (config_of ps c)) (stored_act ps p place a c d) f (ap act_item h.names) (does ps c d p place a h.names) e refl (act_means ps c d p place a h)
    go (inr f) =
        let u = under_way ps c p place a h f in
        let fits : act_fits a (config_of ps c) ≡ item_fits (Item.turn u.loop.head u.loop.body) (config_of ps c) = ap (λ b. act_fits b (config_of ps c)) (sym u.same) in
        item_is ps c d r (Turn p place) (Item.turn u.loop.head u.loop.body) (act_fits a (config_of ps c)) (stored_act ps p place a c d) f (ap turn_item u.loop.named) (does ps c d p place a h.names) e fits (act_means ps c d p place a h)

pub out_is : (ps : List TypedProcedure) (c : Stored) (d : Decision) (r : Stepped) (q x : ℕ) → IsConfig ps c → c.items ≡ Out q x ∷ drop 1 c.items → reply_of r ≡ replied true (surely (asked (assigned c x (fit (types_of (procedure_at ps q) x) (value_of d))))) → IsStep ps c d r
out_is ps c d r q x h f e = item_is ps c d r (Out q x) (Item.out x (types_of (procedure_at ps q) x)) true (surely (asked (assigned c x (fit (types_of (procedure_at ps q) x) (value_of d))))) f refl refl e refl (out_means ps c d q x h f)

pub back_is : (ps : List TypedProcedure) (c : Stored) (d : Decision) (r : Stepped) (p place q : ℕ) (xs : List ℕ) (es : List Term) (span : Span) → Each (MeetsRules ps) ps → IsConfig ps c → c.items ≡ Back p place ∷ drop 1 c.items → Names ps p place (Act.call xs q es span) → ((fs : List Lists) (f : Lists) → c.frames ≡ fs ++ (f ∷ []) → reply_of r ≡ replied true (surely (resumed c xs (procedure_at ps q) fs f))) → IsStep ps c d r
back_is ps c d r p place q xs es span rules h f n e = go (reverse c.frames) refl
  where
    lists : AreLists ps c.procedure h.running (Back p place ∷ drop 1 c.items) c.state (reverse c.frames)
    lists = subst (λ l. AreLists ps c.procedure h.running l c.state (reverse c.frames)) f h.lists

    go : (l : List Lists) → reverse c.frames ≡ l → IsStep ps c d r
    go [] z = absurd (subst (λ l. AreLists ps c.procedure h.running (Back p place ∷ drop 1 c.items) c.state l) z lists).1.0.0
    go (g ∷ gs) z =
        let frames : c.frames ≡ reverse gs ++ (g ∷ []) = sym (reverse-reverse c.frames) ∙ ap reverse z ∙ reverse-append (g ∷ []) gs in
        item_is ps c d r (Back p place) Item.back true (surely (resumed c xs (procedure_at ps q) (reverse gs) g)) f refl (ap (λ o. stored_return ps (call_parts o) c (reverse c.frames)) n ∙ ap (stored_return ps (xs, q) c) z) (e (reverse gs) g frames) refl (back_means ps c d p place q xs es span rules h f n)

pub ended_is : (ps : List TypedProcedure) (c : Stored) (d : Decision) (r : Stepped) → c.items ≡ [] → reply_of r ≡ replied true [] → IsStep ps c d r
ended_is ps c d r f e = is_step ps c d r (ended_means ps c d f) (e ∙ ap₂ replied (sym (ap (λ l. items_fit (items_of ps l) (config_of ps c)) f)) (sym (ap (λ l. stored_items ps l c d) f)))

-- ---- Places do not overflow

nth_below : (xs : List Act) (n : ℕ) (a : Act) → nth xs n ≡ Some a → n < length xs
nth_below [] n a h = elim (none-some a h) [ ]
nth_below (x ∷ xs) zero a h = omega arith
nth_below (x ∷ xs) (suc n) a h = let k = nth_below xs n a h in omega (arith, k)

stands_within : (xs : List Act) (n : ℕ) (ys : List Act) → n ≤ length xs → Stands xs n ys → n + length ys ≤ length xs
stands_within xs n [] l h = omega (arith, l)
stands_within xs n (y ∷ ys) l h = let k = nth_below xs n y (part_head xs n y ys h) in let m = stands_within xs (suc n) ys (omega (arith, k)) (part_rest xs n y ys h) in omega (arith, m)

pub has_room : (ps : List TypedProcedure) (p place : ℕ) (a : Act) → HasFewActs ps → Names ps p place a → place + 1 + length (inside a) < 2 ^ 31
has_room ps p place a few n =
    let k = nth_below (text ps p) place a n in
    let m = stands_within (text ps p) (place + 1) (inside a) (omega (arith, k)) (inside_at ps p place a n) in
    let f = few p in
    let e = ap length (text_is ps p) in
    omega (arith, m, f, e)
