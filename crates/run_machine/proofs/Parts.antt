-- Stored configurations by their parts, for the steps of loops, calls and returns.
use Rattle.std.proofs.Common.{◌≡◌, ℕ, ◌+◌, ◌-◌, ◌<◌, ◌≤◌, ◌==◌, append_assoc, refl, ap, ap₂, sym, subst, ◌∙◌, arith, List, [], ◌∷◌, ◌++◌, length, map, reverse, drop, take, get_or}
use Rattle.std.proofs.lemmas.List.{drop-drop, drop-map, take-append-drop, length-drop, length-map, length-take-le, reverse-append, reverse-reverse}
use Rattle.std.specs.Prelude.{if◌then◌else◌}
use Prim.Native.Nat.{zero, suc}
use Rattle.heylo_formula.specs.State.{default}
use Rattle.heylo_formula.specs.declared.values.Val.{Val}
use Rattle.heyvl_acts.specs.declared.typed_trees.TProc.{TProc}
use Rattle.heyvl_acts.specs.Acts.{Acts, acts_in, procedure_at, type_list}
use Rattle.heyvl_acts.specs.PlainActs.{procedure_of, variable_of}
use Rattle.heyvl_acts.specs.Rules.{Each}
use Rattle.run_machine.specs.declared.configurations.Frame as F
use Rattle.run_machine.specs.declared.configurations.Item.TheVariants.{Turn, Out, Back}
use Rattle.run_machine.specs.Configurations.{first_state, outputs_of, set_all}
use Rattle.run_machine.specs.Names.{Numbered, Lists, Stored, lists_of, numbered}
use Rattle.run_machine.specs.internal.Counts.{IsSmall}
use Rattle.run_machine.specs.StoredMoves.{behind, entered, going, more_turns, out_items, resumed, turned_at}
use Rattle.run_machine.proofs.Procedures.{found_at}

pub turned_is : (c d : Stored) (p place n : ℕ) (b : Acts) (block ones items : List Numbered) (ts : List ℕ) → block ≡ numbered p (place + 1) b → ones ≡ block ++ (Turn p place ∷ []) → items ≡ ones ++ behind c → d ≡ going c items c.state → ts ≡ (if p == c.procedure then more_turns n c.turns else c.turns) → record { procedure = d.procedure; items = d.items; state = d.state; frames = d.frames; reward = d.reward; turns = ts; made = d.made } ≡ turned_at c p place n b
turned_is c d p place n b block ones items ts e f g h t =
    let list : items ≡ numbered p (place + 1) b ++ (Turn p place ∷ behind c) = g ∙ ap (λ l. l ++ behind c) (f ∙ ap (λ l. l ++ (Turn p place ∷ [])) e) ∙ append_assoc (numbered p (place + 1) b) (Turn p place ∷ []) (behind c) in
    ap (λ x. record { procedure = x.procedure; items = x.items; state = x.state; frames = x.frames; reward = x.reward; turns = ts; made = x.made }) h
    ∙ (λ i. record { procedure = c.procedure; items = list i; state = c.state; frames = c.frames; reward = c.reward; turns = t i; made = c.made })

pub outs_next : (old new : List Numbered) (q x end : ℕ) (all : List Numbered) → x < end → new ≡ old ++ (Out q x ∷ []) → old ++ out_items q x (end - x) ≡ all → new ++ out_items q (x + 1) (end - (x + 1)) ≡ all
outs_next old new q x end all lt n h =
    ap (λ l. l ++ out_items q (x + 1) (end - (x + 1))) n
    ∙ append_assoc old (Out q x ∷ []) (out_items q (x + 1) (end - (x + 1)))
    ∙ ap (λ m. old ++ (Out q x ∷ out_items q m (end - (x + 1)))) (let k : x + 1 ≡ suc x = omega arith in k)
    ∙ ap (λ m. old ++ out_items q x m) (let k : suc (end - (x + 1)) ≡ end - x = omega (arith, lt) in k)
    ∙ h

nothing_set : (xs : List ℕ) (s : List Val) → set_all xs [] s ≡ s
nothing_set [] s = refl
nothing_set (x ∷ xs) s = refl

pub nothing_left : (xs : List ℕ) (vs s all : List Val) → length vs ≡ 0 → set_all xs vs s ≡ all → s ≡ all
nothing_left xs [] s all h e = sym (nothing_set xs s) ∙ e
nothing_left xs (v ∷ vs) s all h e = absurd (omega (arith, h))

-- ---- The numbers of a procedure

inputs_are : (x : TProc) → IsSmall x → length (procedure_of x).inputs ≡ x.inputs
inputs_are x h = let a = length-map x.vars.items variable_of in let b = h.counted in length-take-le x.inputs (map variable_of x.vars.items) (omega (arith, a, b))

outputs_are : (x : TProc) → IsSmall x → length (procedure_of x).outputs ≡ x.outputs
outputs_are x h = let a = length-map x.vars.items variable_of in let d = length-drop x.inputs (map variable_of x.vars.items) in let b = h.counted in length-take-le x.outputs (drop x.inputs (map variable_of x.vars.items)) (omega (arith, a, b, d))

each_at : (xs : List TProc) (q : ℕ) (x : TProc) → q < length xs → x ≡ get_or xs q x → Each IsSmall xs → IsSmall x
each_at [] q x lt e h = absurd (omega (arith, lt))
each_at (y ∷ xs) zero x lt e h = subst IsSmall (sym e) h.0
each_at (y ∷ xs) (suc q) x lt e h = each_at xs q x (omega (arith, lt)) e h.1

pub callee_long : (xs : List TProc) (q : ℕ) (x : TProc) (n : ℕ) → q < length xs → x ≡ get_or xs q x → Each IsSmall xs → length (procedure_at (map procedure_of xs) q).inputs + length (procedure_at (map procedure_of xs) q).outputs ≤ n → x.inputs + x.outputs ≤ n
callee_long xs q x n lt e small h =
    let k = each_at xs q x lt e small in
    let a = inputs_are x k in
    let b = outputs_are x k in
    let d : length (procedure_of x).inputs + length (procedure_of x).outputs ≤ n = subst (λ p. length p.inputs + length p.outputs ≤ n) (found_at xs q x lt e) h in
    omega (arith, a, b, d)

-- ---- Returns

same_item : (i j : Lists) (is js : List Lists) → i ∷ is ≡ j ∷ js → i ≡ j
same_item i j is js h = cc

same_rest : (i j : Lists) (is js : List Lists) → i ∷ is ≡ j ∷ js → is ≡ js
same_rest i j is js h = cc

last_first : (xs ys : List Lists) (x y : Lists) → xs ++ (x ∷ []) ≡ ys ++ (y ∷ []) → x ∷ reverse xs ≡ y ∷ reverse ys
last_first xs ys x y h = sym (reverse-append xs (x ∷ [])) ∙ ap reverse h ∙ reverse-append ys (y ∷ [])

lists_append : (xs ys : List F.Frame) → map lists_of (xs ++ ys) ≡ map lists_of xs ++ map lists_of ys
lists_append [] ys = refl
lists_append (x ∷ xs) ys = ap (λ l. lists_of x ∷ l) (lists_append xs ys)

pub resumed_is : (c : Stored) (xs : List ℕ) (procs : List TProc) (q : ℕ) (x : TProc) (fs : List Lists) (f : Lists) (frames copied rest : List F.Frame) (frame : F.Frame) (s : List Val) (ts : List ℕ) → q < length procs → x ≡ get_or procs q x → map lists_of frames ≡ fs ++ (f ∷ []) → map lists_of copied ≡ map lists_of frames → copied ≡ rest ++ (frame ∷ []) → s ≡ set_all xs (outputs_of (procedure_of x) c.state) frame.state.items → ts ≡ c.turns → record { procedure = c.procedure; items = frame.items.items; state = s; frames = map lists_of rest; reward = c.reward; turns = ts; made = c.made } ≡ resumed c xs (procedure_at (map procedure_of procs) q) fs f
resumed_is c xs procs q x fs f frames copied rest frame s ts lt is a b d e g =
    let apart = last_first (map lists_of rest) fs (lists_of frame) f (sym (ap (map lists_of) d ∙ lists_append rest (frame ∷ [])) ∙ b ∙ a) in
    let top : lists_of frame ≡ f = same_item _ _ _ _ apart in
    let below : map lists_of rest ≡ fs = sym (reverse-reverse (map lists_of rest)) ∙ ap reverse (same_rest _ _ _ _ apart) ∙ reverse-reverse fs in
    let state : s ≡ set_all xs (outputs_of (procedure_at (map procedure_of procs) q) c.state) f.1 = e ∙ ap₂ (λ p l. set_all xs (outputs_of p c.state) l.1) (sym (found_at procs q x lt is)) top in
    λ i. record { procedure = c.procedure; items = (top i).0; state = state i; frames = below i; reward = c.reward; turns = g i; made = c.made }

-- ---- Calls

not_inputs : (x : TProc) → map variable_of (drop x.inputs x.vars.items) ≡ (procedure_of x).outputs ++ (procedure_of x).locals
not_inputs x = sym (drop-map variable_of x.inputs x.vars.items) ∙ sym (ap (λ l. take x.outputs (drop x.inputs (map variable_of x.vars.items)) ++ l) (sym (drop-drop x.outputs x.inputs (map variable_of x.vars.items))) ∙ take-append-drop x.outputs (drop x.inputs (map variable_of x.vars.items)))

pub entered_is : (c : Stored) (p place : ℕ) (procs : List TProc) (q : ℕ) (x : TProc) (vs s : List Val) (outs bodies items : List Numbered) (copied all : List F.Frame) (frame : F.Frame) (ts : List ℕ) → q < length procs → x ≡ get_or procs q x → Each IsSmall procs → outs ≡ out_items q x.inputs x.outputs → bodies ≡ outs ++ numbered q 0 (acts_in (procedure_at (map procedure_of procs) q).body) → items ≡ bodies ++ (Back p place ∷ []) → s ≡ vs ++ map default (type_list (map variable_of (drop x.inputs x.vars.items))) → map lists_of copied ≡ c.frames → lists_of frame ≡ (behind c, c.state) → all ≡ copied ++ (frame ∷ []) → ts ≡ c.turns → record { procedure = c.procedure; items = items; state = s; frames = map lists_of all; reward = c.reward; turns = ts; made = c.made } ≡ entered c p place q (procedure_at (map procedure_of procs) q) vs
entered_is c p place procs q x vs s outs bodies items copied all frame ts lt is small e f g h k m n t =
    let one = each_at procs q x lt is small in
    let numbers : out_items q x.inputs x.outputs ≡ out_items q (length (procedure_at (map procedure_of procs) q).inputs) (length (procedure_at (map procedure_of procs) q).outputs) = ap₂ (λ a b. out_items q a b) (sym (inputs_are x one)) (sym (outputs_are x one)) ∙ ap (λ r. out_items q (length r.inputs) (length r.outputs)) (sym (found_at procs q x lt is)) in
    let list : items ≡ out_items q (length (procedure_at (map procedure_of procs) q).inputs) (length (procedure_at (map procedure_of procs) q).outputs) ++ (numbered q 0 (acts_in (procedure_at (map procedure_of procs) q).body) ++ (Back p place ∷ [])) = g ∙ ap (λ l. l ++ (Back p place ∷ [])) (f ∙ ap (λ l. l ++ numbered q 0 (acts_in (procedure_at (map procedure_of procs) q).body)) (e ∙ numbers)) ∙ append_assoc (out_items q (length (procedure_at (map procedure_of procs) q).inputs) (length (procedure_at (map procedure_of procs) q).outputs)) (numbered q 0 (acts_in (procedure_at (map procedure_of procs) q).body)) (Back p place ∷ []) in
    let state : s ≡ first_state (procedure_at (map procedure_of procs) q) vs = h ∙ ap (λ l. vs ++ map default (type_list l)) (not_inputs x) ∙ ap (λ r. first_state r vs) (sym (found_at procs q x lt is)) in
    let frames : map lists_of all ≡ c.frames ++ ((behind c, c.state) ∷ []) = ap (map lists_of) n ∙ lists_append copied (frame ∷ []) ∙ ap₂ (λ l f. l ++ (f ∷ [])) k m in
    λ i. record { procedure = c.procedure; items = list i; state = state i; frames = frames i; reward = c.reward; turns = t i; made = c.made }
