-- The places of the encoding of a procedure are within the text, if those of the procedures are.
use Rattle.std.proofs.Common.{◌≡◌, ◌≤◌, ◌+◌, ◌==◌, ℕ, Bool, true, false, List, [], ◌∷◌, ◌++◌, length}
use Rattle.std.specs.Prelude.{Option, Some, if◌then◌else◌}
use Prim.Native.Nat.{zero, suc}
use Rattle.heyvl_places.specs.declared.spans.Span.{Span}
use Rattle.heylo_formula.specs.Formula.{Form, Cond, Term}
use Rattle.heylo_formula.specs.Shifts.{shifted}
use Rattle.heylo_formula.specs.Typing.{Types}
use Rattle.heylo_formula.specs.declared.types.Ty.{Ty}
use Rattle.heyvl_acts.specs.Acts.{Act, Acts, Arms, Head, TypedProcedure, acts_in, join, procedure_at, type_list, types_of, variables}
use Rattle.heyvl_acts.specs.ModifiedVariables.{modified}
use Rattle.heyvl_acts.specs.Places.{in_order, inside, inside_arms}
use Rattle.heyvl_acts.specs.Rules.{Each}
use Rattle.k_induction.specs.Copies.{copies, if_holds, may, meets, must, no_more}
use Rattle.linear_form.specs.Nonlinear.{first_product, nonlinear_product}
use Rattle.act_walks.specs.Loops.{loop_in}
use Rattle.loop_encodings.specs.BoundGoals.{BoundGoal, invariant_at, invariant_in}
use Rattle.loop_encodings.specs.Encoding.{any_block, encoded, encoded_act, encoded_arms, encoded_call, encoded_loop, encoding, gets, havocs, read, sets, tested}
use Rattle.loop_encodings.specs.Fresh.{fresh, fresh_of_act, fresh_of_arms}
use Rattle.heyvl_acts.specs.StandingParts.{ActStands, CondStands, FormStands, GuardsStand, StandsWithin, TermStands}
use Rattle.verify_core.specs.Questions.{Question, form_or_zero, goal, question}
use Rattle.loop_encodings.proofs.exported.FromRules.{each_first, each_second}
use Rattle.ranking_rule.proofs.exported.Each.{each_append}
use Rattle.verify_core.proofs.StandingForms.{or_stands, product_stands, shifted_stands, unbound_stands, vp_stands}

abbrev pub Stand : ℕ → Acts → Type 0
Stand n acts = Each (ActStands n) (in_order acts)

join_stands : (n : ℕ) (acts more : Acts) → Stand n acts → Stand n more → Stand n (join acts more)
join_stands n Acts.done more h k = k
join_stands n (Acts.next a rest) more h k = (h.0, each_append (ActStands n) (inside a) (in_order (join rest more)) (each_first (ActStands n) (inside a) (in_order rest) h.1) (join_stands n rest more (each_second (ActStands n) (inside a) (in_order rest) h.1) k))

-- ---- Calls

sets_stand : (n : ℕ) (span : Span) (m : ℕ) (es : List Term) (rest : Acts) → span.from ≤ n → Each (TermStands n) es → Stand n rest → Stand n (sets span m es rest)
sets_stand n span m [] rest l h k = k
sets_stand n span m (e ∷ es) rest l h k = ((l, h.0), sets_stand n span (suc m) es rest l h.1 k)

any_stand : (n : ℕ) (up : Bool) (span : Span) (m : ℕ) (ts : List Ty) (rest : Acts) → span.from ≤ n → Stand n rest → Stand n (any_block up span m ts rest)
any_stand n up span m [] rest l k = k
any_stand n up span m (t ∷ ts) rest l k = (l, any_stand n up span (suc m) ts rest l k)

read_stands : (n y : ℕ) (t : Ty) → TermStands n (read y t)
read_stands n y Ty.Bool = tt
read_stands n y Ty.Int = tt
read_stands n y Ty.UInt = tt
read_stands n y Ty.UReal = tt

gets_stand : (n : ℕ) (span : Span) (xs : List ℕ) (ts : List Ty) (m : ℕ) → span.from ≤ n → Stand n (gets span xs ts m)
gets_stand n span [] ts m l = tt
gets_stand n span (x ∷ xs) [] m l = tt
gets_stand n span (x ∷ xs) (t ∷ ts) m l = ((l, read_stands n m t), gets_stand n span xs ts (suc m) l)

call_stands : (n : ℕ) (up : Bool) (span : Span) (m : ℕ) (xs : List ℕ) (q : TypedProcedure) (es : List Term) → span.from ≤ n → StandsWithin n q → Each (TermStands n) es → Stand n (encoded_call up span m xs q es)
call_stands n up span m xs q es l s h =
    let last = gets span xs (type_list q.outputs) (m + length q.inputs) in
    let given = Acts.next (Act.validate up span) (Acts.next (Act.check (may up) (shifted m q.post) span) last) in
    let given_stands : Stand n given = (l, ((l, shifted_stands n m q.post s.post), gets_stand n span xs (type_list q.outputs) (m + length q.inputs) l)) in
    let outputs = any_block up span (m + length q.inputs) (type_list q.outputs) given in
    let outputs_stand : Stand n outputs = any_stand n up span (m + length q.inputs) (type_list q.outputs) given l given_stands in
    sets_stand n span m es (Acts.next (Act.check (must up) (shifted m q.pre) span) outputs) l h ((l, shifted_stands n m q.pre s.pre), outputs_stand)

-- ---- Loops

havocs_stand : (n : ℕ) (up : Bool) (span : Span) (types : Types) (xs : List ℕ) (rest : Acts) → span.from ≤ n → Stand n rest → Stand n (havocs up span types xs rest)
havocs_stand n up span types [] rest l k = k
havocs_stand n up span types (x ∷ xs) rest l k = (l, havocs_stand n up span types xs rest l k)

-- The test of a loop, followed by nothing.
abbrev tested_acts : Span → Cond → Acts → Acts
tested_acts span g acts = Acts.next (if_holds span g acts) Acts.done

if_stands_acts : (n : ℕ) (span : Span) (g : Cond) (acts : Acts) → span.from ≤ n → CondStands n g → Stand n acts → Stand n (tested_acts span g acts)
if_stands_acts n span g acts l h k =
    let one = each_append (ActStands n) (in_order acts) [] k tt in
    let two = each_append (ActStands n) (in_order acts ++ []) [] one tt in
    ((l, (h, tt)), each_append (ActStands n) ((in_order acts ++ []) ++ []) [] two tt)

copies_stand : (n : ℕ) (up : Bool) (span : Span) (g : Cond) (inv : Form) (body : Acts) (k : ℕ) → span.from ≤ n → CondStands n g → FormStands n inv → Stand n body → Stand n (copies up span g inv body k)
copies_stand n up span g inv body zero l h i b = tt
copies_stand n up span g inv body (suc zero) l h i b = join_stands n body (Acts.next (Act.check (must up) inv span) (Acts.next (no_more up span) Acts.done)) b ((l, i), ((l, tt), tt))
copies_stand n up span g inv body (suc (suc k)) l h i b = join_stands n body (Acts.next (Act.check (meets up) inv span) (tested_acts span g (copies up span g inv body (suc k)))) b ((l, i), if_stands_acts n span g (copies up span g inv body (suc k)) l h (copies_stand n up span g inv body (suc k) l h i b))

loop_stands : (n : ℕ) (up : Bool) (types : Types) (h : Head) (ms : List ℕ) (body : Acts) → h.span.from ≤ n → FormStands n h.inv → CondStands n h.guard → Stand n body → Stand n (encoded_loop up types h ms body)
loop_stands n up types h ms body l i g b =
    let inner : Stand n (tested up h body) = (l, ((l, i), if_stands_acts n h.span h.guard (copies up h.span h.guard h.inv body h.k) l g (copies_stand n up h.span h.guard h.inv body h.k l g i b))) in
    ((l, i), havocs_stand n up h.span types ms (tested up h body) l inner)

-- ---- Acts

pub stands_at : (n : ℕ) (ps : List TypedProcedure) (q : ℕ) → Each (StandsWithin n) ps → StandsWithin n (procedure_at ps q)
stands_at n [] q h = record { pre = tt; post = tt; acts = tt }
stands_at n (p ∷ ps) zero h = h.0
stands_at n (p ∷ ps) (suc q) h = stands_at n ps q h.1

guards_stand : (n : ℕ) (ps : List TypedProcedure) (p : TypedProcedure) (m : ℕ) (arms : Arms) → GuardsStand n arms → GuardsStand n (encoded_arms ps p m arms)
guards_stand n ps p m Arms.no_arm h = tt
guards_stand n ps p m (Arms.arm g b more) h = (h.0, guards_stand n ps p (m + length (fresh ps b)) more h.1)

mutual
  encoded_stands : (n : ℕ) (ps : List TypedProcedure) (p : TypedProcedure) → Each (StandsWithin n) ps → (m : ℕ) (acts : Acts) → Stand n acts → Stand n (encoded ps p m acts)
  encoded_stands n ps p s m Acts.done h = tt
  encoded_stands n ps p s m (Acts.next a rest) h = join_stands n (encoded_act ps p m a) (encoded ps p (m + length (fresh_of_act ps a)) rest) (encoded_stands_in n ps p s m a h.0 (each_first (ActStands n) (inside a) (in_order rest) h.1)) (encoded_stands n ps p s (m + length (fresh_of_act ps a)) rest (each_second (ActStands n) (inside a) (in_order rest) h.1))

  encoded_stands_in : (n : ℕ) (ps : List TypedProcedure) (p : TypedProcedure) → Each (StandsWithin n) ps → (m : ℕ) (a : Act) → ActStands n a → Each (ActStands n) (inside a) → Stand n (encoded_act ps p m a)
  encoded_stands_in n ps p s m (Act.set x t span) h k = (h, tt)
  encoded_stands_in n ps p s m (Act.draw x qs span) h k = (h, tt)
  encoded_stands_in n ps p s m (Act.toss x f span) h k = (h, tt)
  encoded_stands_in n ps p s m (Act.any x up ty span) h k = (h, tt)
  encoded_stands_in n ps p s m (Act.reward f span) h k = (h, tt)
  encoded_stands_in n ps p s m (Act.ifs arms e span) h k =
      let one = each_append (ActStands n) (inside_arms (encoded_arms ps p m arms)) (in_order (encoded ps p (m + length (fresh_of_arms ps arms)) e)) (encoded_stands_arms n ps p s m arms (each_first (ActStands n) (inside_arms arms) (in_order e) k)) (encoded_stands n ps p s (m + length (fresh_of_arms ps arms)) e (each_second (ActStands n) (inside_arms arms) (in_order e) k)) in
      ((h.0, guards_stand n ps p m arms h.1), each_append (ActStands n) (inside_arms (encoded_arms ps p m arms) ++ in_order (encoded ps p (m + length (fresh_of_arms ps arms)) e)) [] one tt)
  encoded_stands_in n ps p s m (Act.pick up a b span) h k =
      let one = each_append (ActStands n) (in_order (encoded ps p m a)) (in_order (encoded ps p (m + length (fresh ps a)) b)) (encoded_stands n ps p s m a (each_first (ActStands n) (in_order a) (in_order b) k)) (encoded_stands n ps p s (m + length (fresh ps a)) b (each_second (ActStands n) (in_order a) (in_order b) k)) in
      (h, each_append (ActStands n) (in_order (encoded ps p m a) ++ in_order (encoded ps p (m + length (fresh ps a)) b)) [] one tt)
  encoded_stands_in n ps p s m (Act.check kind f span) h k = (h, tt)
  encoded_stands_in n ps p s m (Act.validate co span) h k = (h, tt)
  encoded_stands_in n ps p s m (Act.loop h b) l k = loop_stands n p.co (types_of p) h (modified h.scope b) (encoded ps p m b) l.0 l.1.0 l.1.1.0 (encoded_stands n ps p s m b k)
  encoded_stands_in n ps p s m (Act.call xs q es span) h k = call_stands n p.co span m xs (procedure_at ps q) es h.0 (stands_at n ps q s) h.1

  encoded_stands_arms : (n : ℕ) (ps : List TypedProcedure) (p : TypedProcedure) → Each (StandsWithin n) ps → (m : ℕ) (arms : Arms) → Each (ActStands n) (inside_arms arms) → Each (ActStands n) (inside_arms (encoded_arms ps p m arms))
  encoded_stands_arms n ps p s m Arms.no_arm k = tt
  encoded_stands_arms n ps p s m (Arms.arm g b more) k = each_append (ActStands n) (in_order (encoded ps p m b)) (inside_arms (encoded_arms ps p (m + length (fresh ps b)) more)) (encoded_stands n ps p s m b (each_first (ActStands n) (in_order b) (inside_arms more) k)) (encoded_stands_arms n ps p s (m + length (fresh ps b)) more (each_second (ActStands n) (in_order b) (inside_arms more) k))

-- ---- Questions

record QuestionStands (n : ℕ) (q : Question) : Type 0 where
  pub stated : FormStands n q.stated
  pub found : FormStands n q.found

or_next_stands : (n : ℕ) (t : Bool) (l : Head × Acts) (o : Option (Head × Acts)) → FormStands n l.0.inv → FormStands n (form_or_zero (invariant_at o)) → FormStands n (form_or_zero (invariant_at (if t then Some l else o)))
or_next_stands n true l o h k = h
or_next_stands n false l o h k = k

invariant_stands : (n k : ℕ) (acts : List Act) → Each (ActStands n) acts → FormStands n (form_or_zero (invariant_in k acts))
invariant_stands n k [] h = tt
invariant_stands n k (Act.loop g b ∷ rest) h = or_next_stands n (g.number == k) (g, b) (loop_in k rest) h.0.1.0 (invariant_stands n k rest h.1)
invariant_stands n k (Act.set x t span ∷ rest) h = invariant_stands n k rest h.1
invariant_stands n k (Act.draw x qs span ∷ rest) h = invariant_stands n k rest h.1
invariant_stands n k (Act.toss x f span ∷ rest) h = invariant_stands n k rest h.1
invariant_stands n k (Act.any x up ty span ∷ rest) h = invariant_stands n k rest h.1
invariant_stands n k (Act.reward f span ∷ rest) h = invariant_stands n k rest h.1
invariant_stands n k (Act.ifs arms e span ∷ rest) h = invariant_stands n k rest h.1
invariant_stands n k (Act.pick up a b span ∷ rest) h = invariant_stands n k rest h.1
invariant_stands n k (Act.check kind f span ∷ rest) h = invariant_stands n k rest h.1
invariant_stands n k (Act.validate co span ∷ rest) h = invariant_stands n k rest h.1
invariant_stands n k (Act.call xs q es span ∷ rest) h = invariant_stands n k rest h.1

question_stands : (n : ℕ) (ps : List TypedProcedure) (p : ℕ) (asked : BoundGoal) → Each (StandsWithin n) ps → QuestionStands n (question ps (procedure_at ps p) asked)
question_stands n ps p BoundGoal.main s =
    let q = procedure_at ps p in
    let h = stands_at n ps p s in
    record { stated = h.pre; found = vp_stands n (encoding ps q) q.post (encoded_stands n ps q s (length (variables q)) (acts_in q.body) h.acts) h.post }
question_stands n ps p BoundGoal.pre s = record { stated = tt; found = (stands_at n ps p s).pre }
question_stands n ps p BoundGoal.post s = record { stated = tt; found = (stands_at n ps p s).post }
question_stands n ps p (BoundGoal.invariant k) s = record { stated = tt; found = invariant_stands n k (in_order (acts_in (procedure_at ps p).body)) (stands_at n ps p s).acts }

-- The first nonlinear product of a goal is within the text.
pub goal_stands : (n : ℕ) (ps : List TypedProcedure) (p : ℕ) (asked : BoundGoal) (s : Span) → Each (StandsWithin n) ps → nonlinear_product (goal (question ps (procedure_at ps p) asked)) ≡ Some s → s.from ≤ n
goal_stands n ps p asked s h e =
    let q = question ps (procedure_at ps p) asked in
    let k = question_stands n ps p asked h in
    let g = goal q in
    or_stands n (first_product g.stated) (first_product g.found) s (product_stands n g.stated s k.stated) (product_stands n g.found s (unbound_stands n (λ x. x) (length (type_list q.variables)) q.found k.found)) e
