-- Calls and returns of stored configurations are those of the definition.
use Rattle.std.proofs.Common.{◌≡◌, ℕ, ◌+◌, ◌≤◌, append_assoc, refl, ap, ap₂, sym, subst, ◌∙◌, arith, List, [], ◌∷◌, ◌++◌, length, reverse}
use Rattle.std.proofs.lemmas.List.{length-append, reverse-append, reverse-reverse}
use Rattle.std.proofs.lemmas.Option.{none-some}
use Rattle.std.specs.Prelude.{Some}
use Prim.Native.Nat.{zero, suc}
use Rattle.heyvl_places.specs.declared.spans.Span.{Span}
use Rattle.heylo_formula.specs.Formula.{Term}
use Rattle.heylo_formula.specs.Typing.{types_in}
use Rattle.heylo_formula.specs.declared.types.Ty.{Ty}
use Rattle.heylo_formula.specs.declared.values.Val.{Val}
use Rattle.heyvl_acts.specs.Acts.{Act, TypedProcedure, acts_in, procedure_at, type_list, types_of}
use Rattle.heyvl_acts.specs.Places.{nth}
use Rattle.heyvl_acts.specs.Rules.{Each}
use Rattle.run_machine.specs.declared.configurations.Item.TheVariants.{Back}
use Rattle.run_machine.specs.Bound.{IsState}
use Rattle.run_machine.specs.ConfigConditions.{ReachesPrograms, IsItemOf, IsCalled, AreLists, IsConfig}
use Rattle.run_machine.specs.Configurations.{Item, outs, callee_items, first_state, outputs_of, set_all}
use Rattle.run_machine.specs.Names.{Names, Numbered, Lists, Stored, items_of, call_parts, last_call, callers, turns_of, config_of, numbered}
use Rattle.run_machine.specs.Step.{called, returned, step_back, sure}
use Rattle.run_machine.specs.internal.Places.{Continues}
use Rattle.run_machine.specs.StoredMoves.{behind, out_items, entered, resumed}
use Rattle.run_machine.proofs.Moves.{frames_kept}
use Rattle.run_machine.proofs.Positions.{each_append, last_is, lists_restate}
use Rattle.run_machine.proofs.Procedures.{body_named, text_stands}
use Rattle.run_machine.proofs.RuledActs.{program_runs}
use Rattle.run_machine.proofs.RunPlaces.{block_belongs}
use Rattle.run_machine.proofs.exported.TypedStates.{types_append, types_length}

-- ---- Outputs

types_second : (xs ys : List Ty) (j : ℕ) → types_in (xs ++ ys) (length xs + j) ≡ types_in ys j
types_second [] ys j = ap (types_in ys) (omega arith)
types_second (x ∷ xs) ys j = ap (types_in (x ∷ (xs ++ ys))) (let q : suc (length xs) + j ≡ suc (length xs + j) = omega arith in q) ∙ types_second xs ys j

types_first : (ys zs : List Ty) (j : ℕ) (ty : Ty) → nth ys j ≡ Some ty → types_in (ys ++ zs) j ≡ ty
types_first [] zs j ty h = elim (none-some ty h) [ ]
types_first (y ∷ ys) zs zero ty h = same y ty h
  where
    same : (x z : Ty) → Some x ≡ Some z → x ≡ z
    same x z k = cc
types_first (y ∷ ys) zs (suc j) ty h = types_first ys zs j ty h

output_type : (q : TypedProcedure) (j : ℕ) (ty : Ty) → nth (type_list q.outputs) j ≡ Some ty → types_of q (length q.inputs + j) ≡ ty
output_type q j ty h =
    ap (λ l. types_in l (length q.inputs + j)) (types_append q.inputs (q.outputs ++ q.locals))
    ∙ ap (λ n. types_in (type_list q.inputs ++ type_list (q.outputs ++ q.locals)) (n + j)) (sym (types_length q.inputs))
    ∙ types_second (type_list q.inputs) (type_list (q.outputs ++ q.locals)) j
    ∙ ap (λ l. types_in l j) (types_append q.outputs q.locals)
    ∙ types_first (type_list q.outputs) (type_list q.locals) j ty h

outs_named : (ps : List TypedProcedure) (q n : ℕ) (tys : List Ty) (rest : List Numbered) → ((j : ℕ) (ty : Ty) → nth tys j ≡ Some ty → types_of (procedure_at ps q) (n + j) ≡ ty) → items_of ps (out_items q n (length tys) ++ rest) ≡ outs n tys (items_of ps rest)
outs_named ps q n [] rest h = refl
outs_named ps q n (ty ∷ tys) rest h = ap₂ (λ t l. Item.out n t ∷ l) (ap (types_of (procedure_at ps q)) (let k : n ≡ n + 0 = omega arith in k) ∙ h 0 ty refl) (outs_named ps q (suc n) tys rest (λ j t e. ap (types_of (procedure_at ps q)) (let k : suc n + j ≡ n + suc j = omega arith in k) ∙ h (suc j) t e))

outs_belong : (ps : List TypedProcedure) (q n k : ℕ) → length (procedure_at ps q).inputs ≤ n → n + k ≤ length ((procedure_at ps q).inputs ++ (procedure_at ps q).outputs) → Each (IsItemOf ps q) (out_items q n k)
outs_belong ps q n zero h l = tt
outs_belong ps q n (suc k) h l = ((refl, record { no_input = h; below = omega (arith, l) }), outs_belong ps q (suc n) k (omega (arith, h)) (omega (arith, l)))

-- ---- Calls

-- The items of a called procedure.
abbrev callee_list : List TypedProcedure → ℕ → List Numbered
callee_list ps q = out_items q (length (procedure_at ps q).inputs) (length (procedure_at ps q).outputs) ++ numbered q 0 (acts_in (procedure_at ps q).body)

callee_named : (ps : List TypedProcedure) (p place q : ℕ) → items_of ps (out_items q (length (procedure_at ps q).inputs) (length (procedure_at ps q).outputs) ++ (numbered q 0 (acts_in (procedure_at ps q).body) ++ (Back p place ∷ []))) ≡ callee_items (procedure_at ps q)
callee_named ps p place q =
    ap (λ k. items_of ps (out_items q (length (procedure_at ps q).inputs) k ++ (numbered q 0 (acts_in (procedure_at ps q).body) ++ (Back p place ∷ [])))) (sym (types_length (procedure_at ps q).outputs))
    ∙ outs_named ps q (length (procedure_at ps q).inputs) (type_list (procedure_at ps q).outputs) (numbered q 0 (acts_in (procedure_at ps q).body) ++ (Back p place ∷ [])) (λ j ty e. output_type (procedure_at ps q) j ty e)
    ∙ ap (outs (length (procedure_at ps q).inputs) (type_list (procedure_at ps q).outputs)) (body_named ps q (Back p place ∷ []))

callee_ends : (ps : List TypedProcedure) (p place q : ℕ) → out_items q (length (procedure_at ps q).inputs) (length (procedure_at ps q).outputs) ++ (numbered q 0 (acts_in (procedure_at ps q).body) ++ (Back p place ∷ [])) ≡ callee_list ps q ++ (Back p place ∷ [])
callee_ends ps p place q = sym (append_assoc (out_items q (length (procedure_at ps q).inputs) (length (procedure_at ps q).outputs)) (numbered q 0 (acts_in (procedure_at ps q).body)) (Back p place ∷ []))

reverse_more : (fs : List Lists) (f : Lists) → reverse (fs ++ (f ∷ [])) ≡ f ∷ reverse fs
reverse_more fs f = reverse-append fs (f ∷ [])

pub enters : (ps : List TypedProcedure) (c : Stored) (p place q : ℕ) (xs : List ℕ) (es : List Term) (span : Span) (vs : List Val) → Continues c → Names ps p place (Act.call xs q es span) → config_of ps (entered c p place q (procedure_at ps q) vs) ≡ called (config_of ps c) (items_of ps (behind c)) xs q (procedure_at ps q) vs
enters ps c p place q xs es span vs g n =
    let list = out_items q (length (procedure_at ps q).inputs) (length (procedure_at ps q).outputs) ++ (numbered q 0 (acts_in (procedure_at ps q).body) ++ (Back p place ∷ [])) in
    let last : last_call ps list ≡ (xs, q) = ap (last_call ps) (callee_ends ps p place q) ∙ last_is ps (callee_list ps q) (Back p place) ∙ ap call_parts n in
    let frames : callers ps list (reverse (c.frames ++ ((behind c, c.state) ∷ []))) ≡ record { items = items_of ps (behind c); state = c.state; targets = xs; callee = q } ∷ callers ps c.items (reverse c.frames) = ap (callers ps list) (reverse_more c.frames (behind c, c.state)) ∙ ap₂ (λ l fs. record { items = items_of ps (behind c); state = c.state; targets = l.0; callee = l.1 } ∷ fs) last (frames_kept ps c.items [] (reverse c.frames) g) in
    λ i. record { procedure = c.procedure; items = callee_named ps p place q i; frames = frames i; state = first_state (procedure_at ps q) vs; reward = c.reward; turns = turns_of c.turns }

pub entered_config : (ps : List TypedProcedure) (c : Stored) (p place q : ℕ) (xs : List ℕ) (es : List Term) (span : Span) (vs : List Val) → Names ps p place (Act.call xs q es span) → ReachesPrograms ps q → IsState (procedure_at ps q) (first_state (procedure_at ps q) vs) → AreLists ps c.procedure p (behind c) c.state (reverse c.frames) → length c.turns ≡ (procedure_at ps c.procedure).loops → IsConfig ps (entered c p place q (procedure_at ps q) vs)
entered_config ps c p place q xs es span vs n r st lists ts = record {
  running = q;
  lists = subst (λ fs. AreLists ps c.procedure q (out_items q (length (procedure_at ps q).inputs) (length (procedure_at ps q).outputs) ++ (numbered q 0 (acts_in (procedure_at ps q).body) ++ (Back p place ∷ []))) (first_state (procedure_at ps q) vs) fs) (sym (reverse_more c.frames (behind c, c.state))) (
    p,
    (
      record { front = callee_list ps q; place = place; targets = xs; arguments = es; span = span; ends = callee_ends ps p place q; names = n; runs = r; belong = each_append (IsItemOf ps q) _ _ (outs_belong ps q _ _ (omega arith) (let l = length-append (procedure_at ps q).inputs (procedure_at ps q).outputs in omega (arith, l))) (block_belongs ps q 0 (acts_in (procedure_at ps q).body) (text_stands ps q) (program_runs ps q r)) },
      (st, lists),
    ),
  );
  turns = ts;
}

-- ---- Returns

same_item : (i j : Numbered) (is js : List Numbered) → i ∷ is ≡ j ∷ js → i ≡ j
same_item i j is js h = cc

same_rest : (i j : Numbered) (is js : List Numbered) → i ∷ is ≡ j ∷ js → is ≡ js
same_rest i j is js h = cc

-- A return is the last item of a called procedure, and names its call.
record Last (ps : List TypedProcedure) (m n p place : ℕ) (rest : List Numbered) (q : IsCalled ps m n (Back p place ∷ rest)) : Type 0 where
  alone : rest ≡ []
  caller : m ≡ p
  there : q.place ≡ place

last_item : (ps : List TypedProcedure) (m n p place : ℕ) (rest : List Numbered) (q : IsCalled ps m n (Back p place ∷ rest)) → Last ps m n p place rest q
last_item ps m n p place rest q = go q.front refl
  where
    back_caller : (a b i j : ℕ) → Back a i ≡ Back b j → b ≡ a
    back_caller a b i j h = cc

    back_place : (a b i j : ℕ) → Back a i ≡ Back b j → j ≡ i
    back_place a b i j h = cc

    go : (front : List Numbered) → q.front ≡ front → Last ps m n p place rest q
    go [] e =
        let ends : Back p place ∷ rest ≡ Back m q.place ∷ [] = q.ends ∙ ap (λ l. l ++ (Back m q.place ∷ [])) e in
        let same = same_item _ _ rest [] ends in
        record { alone = same_rest _ _ rest [] ends; caller = back_caller p m place q.place same; there = back_place p m place q.place same }
    go (x ∷ front) e =
        let ends : Back p place ∷ rest ≡ x ∷ (front ++ (Back m q.place ∷ [])) = q.ends ∙ ap (λ l. l ++ (Back m q.place ∷ [])) e in
        absurd (subst (IsItemOf ps n) (sym (same_item (Back p place) x rest _ ends)) (subst (Each (IsItemOf ps n)) e q.belong).0)

same_targets : (xs ys : List ℕ) (q r : ℕ) (es fs : List Term) (s t : Span) → Some (Act.call xs q es s) ≡ Some (Act.call ys r fs t) → xs ≡ ys
same_targets xs ys q r es fs s t h = cc

same_callee : (xs ys : List ℕ) (q r : ℕ) (es fs : List Term) (s t : Span) → Some (Act.call xs q es s) ≡ Some (Act.call ys r fs t) → q ≡ r
same_callee xs ys q r es fs s t h = cc

-- What holds at a return from a call of `r`: the procedure `r` runs, and the place is in `p`, whose
-- items are those of the last caller.
pub record Returning (ps : List TypedProcedure) (start p r : ℕ) (rest : List Numbered) (s : List Val) (f : Lists) (fs : List Lists) : Type 0 where
  pub alone : rest ≡ []
  pub state : IsState (procedure_at ps r) s
  pub waits : AreLists ps start p f.0 f.1 fs

pub call_names : (ps : List TypedProcedure) (start n p place : ℕ) (rest : List Numbered) (s : List Val) (f : Lists) (fs : List Lists) (h : AreLists ps start n (Back p place ∷ rest) s (f ∷ fs)) → Names ps p place (Act.call h.1.0.targets n h.1.0.arguments h.1.0.span)
call_names ps start n p place rest s f fs h =
    let q = h.1.0 in
    let l = last_item ps h.0 n p place rest q in
    subst (λ m. Names ps m place (Act.call q.targets n q.arguments q.span)) l.caller (subst (λ k. Names ps h.0 k (Act.call q.targets n q.arguments q.span)) l.there q.names)

pub returning : (ps : List TypedProcedure) (start n p place r : ℕ) (xs : List ℕ) (es : List Term) (span : Span) (rest : List Numbered) (s : List Val) (f : Lists) (fs : List Lists) → Names ps p place (Act.call xs r es span) → AreLists ps start n (Back p place ∷ rest) s (f ∷ fs) → Returning ps start p r rest s f fs
returning ps start n p place r xs es span rest s f fs named h =
    let q = h.1.0 in
    let l = last_item ps h.0 n p place rest q in
    let names : Names ps p place (Act.call q.targets n q.arguments q.span) = call_names ps start n p place rest s f fs h in
    let callee : n ≡ r = same_callee q.targets xs n r q.arguments es q.span span (sym names ∙ named) in
    record { alone = l.alone; state = subst (λ k. IsState (procedure_at ps k) s) callee h.1.1.0; waits = subst (λ m. AreLists ps start m f.0 f.1 fs) l.caller h.1.1.1 }

pub resumes : (ps : List TypedProcedure) (c : Stored) (p place r : ℕ) (xs : List ℕ) (es : List Term) (span : Span) (f : Lists) (gs : List Lists) (is : List Item) → c.items ≡ Back p place ∷ [] → Names ps p place (Act.call xs r es span) → reverse c.frames ≡ f ∷ gs → sure (config_of ps (resumed c xs (procedure_at ps r) (reverse gs) f)) ≡ step_back ps is (config_of ps c) (callers ps c.items (reverse c.frames))
resumes ps c p place r xs es span f gs is e n h =
    (λ i. sure (record { procedure = c.procedure; items = items_of ps f.0; frames = callers ps f.0 (reverse-reverse gs i); state = set_all xs (outputs_of (procedure_at ps r) c.state) f.1; reward = c.reward; turns = turns_of c.turns }))
    ∙ sym (ap₂ (λ l fs. step_back ps is (config_of ps c) (callers ps l fs)) e h ∙ ap (λ t. sure (returned ps (config_of ps c) (record { items = items_of ps f.0; state = f.1; targets = t.0; callee = t.1 }) (callers ps f.0 gs))) (ap call_parts n))

pub resumed_config : (ps : List TypedProcedure) (c : Stored) (p r : ℕ) (xs : List ℕ) (f : Lists) (gs : List Lists) → AreLists ps c.procedure p f.0 f.1 gs → IsState (procedure_at ps p) (set_all xs (outputs_of (procedure_at ps r) c.state) f.1) → length c.turns ≡ (procedure_at ps c.procedure).loops → IsConfig ps (resumed c xs (procedure_at ps r) (reverse gs) f)
resumed_config ps c p r xs f gs lists st ts = record { running = p; lists = subst (λ l. AreLists ps c.procedure p f.0 (set_all xs (outputs_of (procedure_at ps r) c.state) f.1) l) (sym (reverse-reverse gs)) (lists_restate ps c.procedure p f.0 f.1 (set_all xs (outputs_of (procedure_at ps r) c.state) f.1) gs st lists); turns = ts }
