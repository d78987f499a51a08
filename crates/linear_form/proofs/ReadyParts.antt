-- Parts that are evaluated in advance: their results, and whether they surely ask a comparison of
-- numbers.
use Rattle.std.proofs.Common.{◌≡◌, ℕ, [], ◌∷◌, refl, sym, ap, ap₂, ◌∙◌, subst, Bool, true, false, cond, ◌⊎◌, inl, inr, Global}
use Prim.Native.Nat.{suc}
use Rattle.std.specs.declared.rc.Rc.{Rc}
use Rattle.std.specs.Prelude as M
use Rattle.std.specs.Prelude.{Some, None, Ok, Err, IsTrue}
use Rattle.linear_values.specs.Lin.{Lin, Terms, Linear, is_sized, minus}
use Rattle.linear_form.specs.Query.{Query, Atom, next}
use Rattle.linear_form.specs.Query.Query.{done, bits, ask}
use Rattle.linear_form.specs.Questions as q
use Rattle.linear_form.specs.PlainPaths.{atom_of}
use Rattle.linear_form.specs.internal.LastingTrees.{Lasts, IsComparison}
use Rattle.linear_form.specs.internal.Outcomes.{Result, IsKeptResult, of_bool, told}
use Rattle.linear_form.specs.internal.Run.{along}
use Rattle.linear_form.specs.internal.Run.Evaluation.{value, decide}
use Rattle.linear_form.specs.internal.EvaluationResults.{Stops}
use Rattle.linear_form.specs.internal.Parts.{Part, Work, asked, asked_by_work, after_first, known_part, operated, operation, IsReady, IsReadyWork}
use Rattle.linear_form.specs.internal.PlainParts.{outcome_of, part_of, work_of}
use Rattle.linear_form.specs.internal.GoalParts.{answer_of, with_operand, Compares, IsFirst, IsOver, IsReadyAs, TellsAtOnce}
use Rattle.heylo_graph.specs.declared.nodes.Node.{Node}
use Rattle.linear_form.specs.declared.parts.Operation.{Operation}
use Rattle.linear_form.specs.declared.parts.Part as P
use Rattle.linear_form.specs.declared.parts.Work as W
use Rattle.linear_form.specs.declared.parts.Outcome as O
use Rattle.linear_form.specs.declared.paths.Atom as A
use Rattle.linear_form.specs.declared.operations.Came.{Came}
use Rattle.linear_form.specs.declared.cursor.Stop.{Stop}
use Rattle.linear_form.specs.declared.cursor.Stop as S
use Rattle.linear_form.proofs.KeptOperations.{operated_kept}
use Rattle.linear_form.proofs.PlainPartsAre.{asked_part, asks_work, choice_work, known_work, noted, part_is, ready_of, two_work}
use Rattle.linear_form.proofs.Runs.{run_result}
use Rattle.linear_form.proofs.SureQuestions.{lasts_bits, lasts_first, chosen_lasts}

-- ---- Results without an answer

asks_nothing : {A : Type 0} (t : Query A) (j : ℕ) (x : A) → along [] t 0 ≡ value x j → t ≡ done x
unfolding along
asks_nothing (done a) j x e = let k : a ≡ x = cc in ap done k
asks_nothing bits j x e = absurd (cc)
asks_nothing (ask (Atom.row a strict) y n) j x e = absurd (cc)
asks_nothing (ask (Atom.truth v) y n) j x e = absurd (cc)

first_asks : (t : Query Result) (a : Atom) → along [] t 0 ≡ decide a → IsComparison a → Lasts 1 t
unfolding along Lasts
first_asks (done r) a e h = absurd (cc)
first_asks bits a e h = tt
first_asks (ask (Atom.row l strict) y n) a e h = (tt, tt)
first_asks (ask (Atom.truth x) y n) (Atom.row l strict) e h = absurd (cc)
first_asks (ask (Atom.truth x) y n) (Atom.truth z) e h = absurd h

-- ---- A comparison of values asks one comparison, and its answer is the result

asked_alone : (ts : Terms) (l : Lin) (strict : Bool) (a : Atom) → along [] (told (q.asked ts l strict)) 0 ≡ decide a → told (q.asked ts l strict) ≡ answer_of a
unfolding along
asked_alone [] l strict a e = absurd (cc)
asked_alone (t ∷ ts) l strict a e = let k : Atom.row l strict ≡ a = cc in ap answer_of k

below_alone : (l : Lin) (strict : Bool) (a : Atom) → along [] (told (q.is_below l strict)) 0 ≡ decide a → told (q.is_below l strict) ≡ answer_of a
unfolding along
below_alone l strict a = go (is_sized l)
  where
    go : (b : Bool) → along [] (told (cond b (q.asked l.terms l strict) bits)) 0 ≡ decide a → told (cond b (q.asked l.terms l strict) bits) ≡ answer_of a
    go true e = asked_alone l.terms l strict a e
    go false e = absurd (cc)

at_most_alone : (x y : Linear) (a : Atom) → along [] (told (q.at_most x y)) 0 ≡ decide a → told (q.at_most x y) ≡ answer_of a
unfolding along
at_most_alone (Some l) (Some m) a e = below_alone (minus l m) false a e
at_most_alone (Some l) None a e = absurd (cc)
at_most_alone None (Some m) a e = absurd (cc)
at_most_alone None None a e = absurd (cc)

less_alone : (x y : Linear) (a : Atom) → along [] (told (q.less x y)) 0 ≡ decide a → told (q.less x y) ≡ answer_of a
unfolding along
less_alone (Some l) (Some m) a e = below_alone (minus l m) true a e
less_alone (Some l) None a e = absurd (cc)
less_alone None y a e = absurd (cc)

over_alone : (o : Operation) (f : Linear → Linear → Query Bool) (r s : Result) (a : Atom) → ((x y : Linear) → operation o x y ≡ told (f x y)) → ((x y : Linear) → along [] (told (f x y)) 0 ≡ decide a → told (f x y) ≡ answer_of a) → along [] (operated o r s) 0 ≡ decide a → operated o r s ≡ answer_of a
unfolding along
over_alone o f (Result.number x) (Result.number y) a e g h = e x y ∙ g x y (ap (λ q. along [] q 0) (sym (e x y)) ∙ h)
over_alone o f (Result.number x) (Result.truth t) a e g h = absurd (cc)
over_alone o f (Result.number x) (Result.ends z) a e g h = absurd (cc)
over_alone o f (Result.truth t) s a e g h = absurd (cc)
over_alone o f (Result.ends z) s a e g h = absurd (cc)

-- ---- Operations on two known parts

pub known_asks : (p : P.Part) (x : Result) → work_of p.work ≡ Work.known x → asked (part_of p) ≡ done x
known_asks p x e = asked_part p ∙ ap asked_by_work e

pub known_kept : (p : P.Part) (x : Result) → work_of p.work ≡ Work.known x → IsReady (part_of p) → IsKeptResult x
known_kept p x e k = subst IsReadyWork e (noted p k).1

two_alone : (o : Operation) (x y : Result) (a : Atom) → along [] (operated o x y) 0 ≡ decide a → Compares o → operated o x y ≡ answer_of a
two_alone o x y a d (Compares.at_most i j) = over_alone o q.at_most x y a (λ x y. refl) (λ x y. at_most_alone x y a) d
two_alone o x y a d (Compares.less i j) = over_alone o q.less x y a (λ x y. refl) (λ x y. less_alone x y a) d

over_known : (o : Operation) (p u : Part) (x y : Result) → asked p ≡ done x → asked u ≡ done y → asked_by_work (Work.two o p u) ≡ operated o x y
over_known o p u x y e f = ap₂ (λ s t. next s (λ a. next t (λ b. operated o a b))) e f

pub came_tells : (o : Operation) (p u : Part) (x y : Result) (c : Came) → asked p ≡ done x → asked u ≡ done y → IsKeptResult x → IsKeptResult y → along [] (operated o x y) 0 ≡ value (outcome_of c.outcome) c.next → TellsAtOnce o p u (Ok c.outcome)
came_tells o p u x y c e f k g h = (over_known o p u x y e f ∙ asks_nothing (operated o x y) c.next (outcome_of c.outcome) h, run_result [] (operated o x y) IsKeptResult 0 (outcome_of c.outcome) c.next (operated_kept o x y k g) h)

pub stop_tells : (o : Operation) (p u : Part) (x y : Result) (e : Stop) → asked p ≡ done x → asked u ≡ done y → Stops e (along [] (operated o x y) 0) → TellsAtOnce o p u (Err e)
stop_tells o p u x y (S.TheVariants.Decide a) e f h = record { first = ap (λ t. along [] t 0) (over_known o p u x y e f) ∙ h; alone = λ c. over_known o p u x y e f ∙ two_alone o x y (atom_of a.value) h c }
stop_tells o p u x y S.TheVariants.Bits e f h = tt
stop_tells o p u x y (S.TheVariants.Memory m) e f h = tt

pub decided : (o : Operation) (p u : Part) (e : Stop) (a : Rc A.Atom Global) → e ≡ S.TheVariants.Decide a → TellsAtOnce o p u (Err e) → IsFirst o p u (atom_of a.value)
decided o p u e a k h = subst (λ e. TellsAtOnce o p u (Err e)) k h

pub tells_stopped : (o : Operation) (p u : Part) (r : M.Result O.Outcome Stop) (e : Stop) → r ≡ Err e → TellsAtOnce o p u (Err e) → TellsAtOnce o p u r
tells_stopped o p u r e k h = subst (TellsAtOnce o p u) (sym k) h

pub compared : (n : Node) → ((a : ℕ) × (b : ℕ) × (n ≡ Node.Le a b)) ⊎ ((a : ℕ) × (b : ℕ) × (n ≡ Node.Lt a b)) → Compares (Operation.Of n)
compared n (inl k) = subst (λ n. Compares (Operation.Of n)) (sym k.2) (Compares.at_most k.0 k.1)
compared n (inr k) = subst (λ n. Compares (Operation.Of n)) (sym k.2) (Compares.less k.0 k.1)

-- ---- Parts that surely ask

pub part_asks : (p q : P.Part) → q ≡ p → IsReady (part_of p) → IsTrue q.asks → Lasts 1 (asked (part_of p))
part_asks p q e h t = subst (Lasts 1) (sym (asked_part p)) ((noted p h).0 (ap (λ (p : P.Part). p.asks) (sym e) ∙ t))

pub two_follows : (o : Operation) (p u : Part) → Lasts 1 (asked u) → (r : Result) → Lasts 1 (after_first (Work.two o p u) r)
two_follows o p u h r = lasts_first 1 (asked u) (λ s. operated o r s) h

pub choice_follows : (g p u : Part) → Lasts 1 (asked p) → Lasts 1 (asked u) → (r : Result) → Lasts 1 (after_first (Work.choice g p u) r)
choice_follows g p u h k (Result.number x) = lasts_bits Result 1
choice_follows g p u h k (Result.truth t) = chosen_lasts 1 t (asked p) (asked u) h k
choice_follows g p u h k (Result.ends e) = lasts_bits Result 1

pub comparison_lasts : (k : ℕ) (a : Atom) (y n : Query Result) → IsComparison a → Lasts k y → Lasts k n → Lasts (suc k) (ask a y n)
unfolding Lasts
comparison_lasts k (Atom.row l strict) y n c h g = (h, g)
comparison_lasts k (Atom.truth x) y n c h g = absurd c

pub none_lasts : (t : Query Result) → Lasts 0 t
unfolding Lasts
none_lasts t = tt

pub arms_last : (a : Atom) (y n : Query Result) → Lasts 1 y → Lasts 1 n → Lasts 1 (ask a y n)
unfolding Lasts
arms_last (Atom.row l strict) y n h g = (tt, tt)
arms_last (Atom.truth x) y n h g = (h, g)

-- ---- The resulting part

as_work : (w : Work) (p : P.Part) → asked_by_work (work_of p.work) ≡ asked_by_work w → (IsTrue p.asks → Lasts 1 (asked_by_work w)) → IsReadyWork (work_of p.work) → IsReadyAs w p
as_work w p e h k = record { asks = asked_part p ∙ e; ready = ready_of p (λ t. subst (Lasts 1) (sym e) (h t)) k }

pub stays_ready : (w : Work) (v : W.Work) (b : Bool) → asked_by_work (work_of v) ≡ asked_by_work w → IsReadyWork (work_of v) → (IsTrue b → Lasts 1 (asked_by_work (work_of v))) → IsReadyAs w (record { work = v; asks = b })
stays_ready w v b e k h = as_work w (record { work = v; asks = b }) e (λ t. subst (Lasts 1) e (h t)) k

pub known_ready : (w : Work) (v : W.Work) (o : O.Outcome) → asked_by_work (work_of v) ≡ asked_by_work w → (asked_by_work (work_of v) ≡ done (outcome_of o)) × IsKeptResult (outcome_of o) → IsReadyAs w (record { work = W.TheVariants.Known o; asks = false })
known_ready w v o e h = as_work w (record { work = W.TheVariants.Known o; asks = false }) (ap asked_by_work (known_work o) ∙ sym h.0 ∙ e) (λ t. absurd (cc)) (subst IsReadyWork (sym (known_work o)) h.1)

pub first_ready : (w : Work) (v : W.Work) (o : Operation) (p u : Part) (a : Atom) (b : Bool) → work_of v ≡ Work.two o p u → asked_by_work (work_of v) ≡ asked_by_work w → IsReadyWork (work_of v) → (IsTrue b → IsComparison a) → IsFirst o p u a → IsReadyAs w (record { work = v; asks = b })
first_ready w v o p u a b d e k h f = stays_ready w v b e k (λ t. subst (Lasts 1) (sym (ap asked_by_work d)) (first_asks (asked_by_work (Work.two o p u)) a f.first (h t)))

pub alone_ready : (w : Work) (v q : W.Work) (o : Operation) (p u : Part) (a : Atom) (b : Bool) → work_of v ≡ Work.two o p u → asked_by_work (work_of v) ≡ asked_by_work w → (IsTrue b → IsComparison a) → IsFirst o p u a → Compares o → work_of q ≡ Work.asks a (known_part (Result.truth true)) (known_part (Result.truth false)) → IsReadyAs w (record { work = q; asks = b })
alone_ready w v q o p u a b d e h f g k =
    let same : asked_by_work (Work.two o p u) ≡ asked_by_work w = sym (ap asked_by_work d) ∙ e in
    as_work w (record { work = q; asks = b }) (ap asked_by_work k ∙ sym (f.alone g) ∙ same) (λ t. subst (Lasts 1) same (first_asks (asked_by_work (Work.two o p u)) a f.first (h t))) (subst IsReadyWork (sym k) (((λ t. absurd (cc)), tt), ((λ t. absurd (cc)), tt)))

-- ---- A comparison, and what follows each answer

pub question_of : (w : Work) (s : Part) (a : Atom) (y n one other : Part) (b : Bool) → s ≡ Part.part (Work.asks a y n) b → w ≡ with_operand w s → IsOver w y one → IsOver w n other → asked_by_work (Work.asks a one other) ≡ asked_by_work w
question_of (Work.known r) s a y n one other b e f h g = absurd h.before
question_of Work.large s a y n one other b e f h g = absurd h.before
question_of (Work.asks c p u) s a y n one other b e f h g = absurd h.before
question_of (Work.two o p u) s a y n one other b e f h g =
    let x = h.before.0 in
    let d = h.before.1 in
    let one_is : asked one ≡ next (asked y) (λ t. operated o x t) = h.asks ∙ ap (λ m. next m (λ r. next (asked y) (λ t. operated o r t))) d in
    let other_is : asked other ≡ next (asked n) (λ t. operated o x t) = g.asks ∙ ap (λ m. next m (λ r. next (asked n) (λ t. operated o r t))) d in
    let whole : asked_by_work (Work.two o p s) ≡ ask a (next (asked y) (λ t. operated o x t)) (next (asked n) (λ t. operated o x t)) = ap₂ (λ m q. next m (λ r. next q (λ t. operated o r t))) d (ap asked e) in
    ap₂ (ask a) one_is other_is ∙ sym whole ∙ sym (ap asked_by_work f)
question_of (Work.choice c p u) s a y n one other b e f h g = ap₂ (ask a) h.asks g.asks ∙ sym (ap (λ q. next q (of_bool (λ t. cond t (asked p) (asked u)))) (ap asked e)) ∙ sym (ap asked_by_work f)

done_first : {A B : Type 0} (q : Query A) (f : A → Query B) (r : B) → next q f ≡ done r → (x : A) × (q ≡ done x)
done_first (done x) f r e = (x, refl)
done_first bits f r e = absurd (cc)
done_first (ask a y n) f r e = absurd (cc)

pub two_over : (w : W.Work) (o : Operation) (f s : Rc P.Part Global) (d q r : P.Part) (y : O.Outcome) → w ≡ W.TheVariants.Two o f s → d ≡ f.value → TellsAtOnce o (part_of d) (part_of q) (Ok y) → part_of r ≡ Part.part (work_of (W.TheVariants.Known y)) false → IsOver (work_of w) (part_of q) (part_of r)
two_over w o f s d q r y e g h k =
    let known : part_of r ≡ known_part (outcome_of y) = k ∙ ap (λ w. Part.part w false) (known_work y) in
    let told : asked_by_work (Work.two o (part_of f.value) (part_of q)) ≡ done (outcome_of y) = ap (λ d. asked_by_work (Work.two o (part_of d) (part_of q))) (sym g) ∙ h.0 in
    subst (λ v. IsOver v (part_of q) (part_of r)) (sym (ap work_of e ∙ two_work o f s)) (record { before = done_first (asked (part_of f.value)) _ (outcome_of y) told; asks = ap asked known ∙ sym told; ready = subst IsReady (sym known) ((λ t. absurd (cc)), h.1) })

pub two_operand : (w : W.Work) (o : Operation) (f s : Rc P.Part Global) (d : P.Part) → w ≡ W.TheVariants.Two o f s → d ≡ s.value → work_of w ≡ with_operand (work_of w) (part_of d)
two_operand w o f s d e g = let is = ap work_of e ∙ two_work o f s in is ∙ ap (λ d. Work.two o (part_of f.value) (part_of d)) (sym g) ∙ sym (ap (λ v. with_operand v (part_of d)) is)

pub choice_operand : (w : W.Work) (g p u : Rc P.Part Global) (d : P.Part) → w ≡ W.TheVariants.Choice g p u → d ≡ g.value → work_of w ≡ with_operand (work_of w) (part_of d)
choice_operand w g p u d e h = let is = ap work_of e ∙ choice_work g p u in is ∙ ap (λ d. Work.choice (part_of d) (part_of p.value) (part_of u.value)) (sym h) ∙ sym (ap (λ v. with_operand v (part_of d)) is)

pub asks_ready : (w : W.Work) (s : P.Part) (a c : Rc A.Atom Global) (y n one other : Rc P.Part Global) → work_of w ≡ with_operand (work_of w) (part_of s) → s.work ≡ W.TheVariants.Asks a y n → c.value ≡ a.value → IsOver (work_of w) (part_of y.value) (part_of one.value) → IsOver (work_of w) (part_of n.value) (part_of other.value) → (asked_by_work (work_of (W.TheVariants.Asks c one other)) ≡ asked_by_work (work_of w)) × IsReadyWork (work_of (W.TheVariants.Asks c one other))
asks_ready w s a c y n one other e g d h k = (
  ap asked_by_work (asks_work c one other) ∙ ap (λ v. ask (atom_of v) (asked (part_of one.value)) (asked (part_of other.value))) d ∙ question_of (work_of w) (part_of s) (atom_of a.value) (part_of y.value) (part_of n.value) (part_of one.value) (part_of other.value) s.asks (part_is s ∙ ap (λ w. Part.part w s.asks) (ap work_of g ∙ asks_work a y n)) e h k,
  subst IsReadyWork (sym (asks_work c one other)) (h.ready, k.ready),
)
