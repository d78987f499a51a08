-- The form that is generated from an encoding has free only variables of the procedure, if the form
-- that follows does.
use Rattle.std.proofs.Common.{◌≡◌, ◌≤◌, ◌<◌, ◌+◌, ◌⊎◌, ◌==◌, inl, inr, ℕ, refl, sym, ap, subst, arith, Bool, true, false, List, [], ◌∷◌, ◌++◌, length}
use Rattle.std.proofs.lemmas.List.{length-append, length-map}
use Prim.Native.Nat.{zero, suc}
use Rattle.heyvl_num.specs.Rational.{Rational}
use Rattle.heyvl_num.specs.Value.{oneᵛ}
use Rattle.heyvl_places.specs.declared.spans.Span.{Span}
use Rattle.heylo_formula.specs.Formula.{Form, Cond, Term}
use Rattle.heylo_formula.specs.Shifts.{shifted}
use Rattle.heylo_formula.specs.Substitution as Replaced
use Rattle.heylo_formula.specs.Typing.{Types}
use Rattle.heylo_formula.specs.Variables.{occurs_in_term, IsOver, IsOverIn}
use Rattle.heylo_formula.specs.declared.types.Ty.{Ty}
use Rattle.heylo_formula.proofs.exported.Shifts.{above_shift, shifted_over}
use Rattle.heyvl_acts.specs.Acts.{Head, Act, Acts, Arms, TypedProcedure, Variable, acts_in, join, procedure_at, type_list, types_of, variables}
use Rattle.heyvl_acts.specs.ModifiedVariables.{modified}
use Rattle.heyvl_acts.specs.Places.{in_order, inside, inside_arms}
use Rattle.heyvl_acts.specs.Rules.{Each, GuardsFit, MeetsRules}
use Rattle.heyvl_acts.specs.Visible.{Scoped, ScopedAct, ScopedArms, Visible, interface, shown_by}
use Rattle.k_induction.specs.Copies.{copies, may, meets, must}
use Rattle.vp_generator.specs.GeneratedForms.{draw_form, part_form, sum_of_parts, toss_form, vp, vp_act, vp_arms}
use Rattle.vp_generator.specs.Over.{PartsAreOver, TermIsOver}
use Rattle.loop_encodings.specs.Encoding.{any_block, encoded, encoded_act, encoded_arms, encoded_call, encoded_loop, gets, havocs, read, sets, tested}
use Rattle.loop_encodings.specs.Fresh.{fresh, fresh_of_act, fresh_of_arms}
use Rattle.loop_encodings.specs.FreshLaws.{generated_form}
use Rattle.loop_encodings.proofs.EncodedOver.{TermsAreOver, draw_over, more_over, sees_over, sees_over_in, term_over, terms_over}
use Rattle.loop_encodings.proofs.EncodedTypes.{Bounded, after_bounded, interface_bounded}
use Rattle.loop_encodings.proofs.FreeVariables.{AllFree, bind_free, check_free, pick_free, select_free, subst_free, two_free, validate_free}
use Rattle.heyvl_acts.proofs.exported.Each.{each_first, each_second}
use Rattle.loop_encodings.proofs.FromRules.{IsFine, all_fine, ready_acts}

pub join_form : (a b : Acts) (k : Form) → vp (join a b) k ≡ vp a (vp b k)
join_form Acts.done b k = refl
join_form (Acts.next a rest) b k = ap (vp_act a) (join_form rest b k)

-- The acts add no variable but the first `n` to the form that follows them.
abbrev Keeps : ℕ → Acts → Type 0
Keeps n acts = (k : Form) → IsOver n k → IsOver n (vp acts k)

-- The variable is one of the first `n`, or lies between two numbers.
abbrev Placed : ℕ → ℕ → ℕ → ℕ → Type 0
Placed n from to x = (x < n) ⊎ ((from ≤ x) × (x < to))

module _ (n : ℕ) where
  keeps_join : (a b : Acts) → Keeps n a → Keeps n b → Keeps n (join a b)
  keeps_join a b h i k o = subst (λ f. IsOver n f) (sym (join_form a b k)) (h (vp b k) (i k o))

  -- ---- Draws

  keeps_part : (x : ℕ) (q : Rational × Term) (k : Form) → TermIsOver n q.1 → IsOver n k → IsOver n (part_form x q k)
  keeps_part x q k h i = subst_free (λ y. y < n) x q.1 k (λ y e j. i y j) h

  keeps_parts : (x : ℕ) (qs : List (Rational × Term)) (k total : Form) → PartsAreOver n qs → IsOver n k → IsOver n total → IsOver n (sum_of_parts x qs k total)
  keeps_parts x [] k total h i j = j
  keeps_parts x (q ∷ qs) k total h i j = keeps_parts x qs k (Form.sum total (part_form x q k)) h.1 i (two_free (λ y. y < n) total (part_form x q k) j (keeps_part x q k h.0 i))

  keeps_draw : (x : ℕ) (qs : List (Rational × Term)) (k : Form) → PartsAreOver n qs → IsOver n k → IsOver n (draw_form x qs k)
  keeps_draw x [] k h i = λ y j. absurd (cc)
  keeps_draw x (q ∷ qs) k h i = keeps_parts x qs k (part_form x q k) h.1 i (keeps_part x q k h.0 i)

  -- ---- Tosses

  keeps_toss : (x : ℕ) (f : Form) (span : Span) (k : Form) → IsOver n f → IsOver n k → IsOver n (toss_form x f span k)
  keeps_toss x f span k h i =
      let none : IsOver n (Form.number oneᵛ) = λ y j. absurd (cc) in
      let w : IsOver n (Form.min f (Form.number oneᵛ)) = two_free (λ y. y < n) f (Form.number oneᵛ) h none in
      let side = λ (b : Bool). subst_free (λ y. y < n) x (Term.truth (Cond.constant b)) k (λ y e j. i y j) (λ y j. absurd (cc)) in
      let put = λ (b : Bool). Replaced.subst x (Term.truth (Cond.constant b)) k in
      two_free (λ y. y < n) (Form.product (Form.min f (Form.number oneᵛ)) (put true) span) (Form.product (Form.cut (Form.number oneᵛ) (Form.min f (Form.number oneᵛ))) (put false) span)
      (two_free (λ y. y < n) (Form.min f (Form.number oneᵛ)) (put true) w (side true))
      (two_free (λ y. y < n) (Form.cut (Form.number oneᵛ) (Form.min f (Form.number oneᵛ))) (put false) (two_free (λ y. y < n) (Form.number oneᵛ) (Form.min f (Form.number oneᵛ)) none w) (side false))

  -- ---- Loops

  keeps_havocs : (up : Bool) (span : Span) (types : Types) (xs : List ℕ) (r : Acts) → Keeps n r → Keeps n (havocs up span types xs r)
  keeps_havocs up span types [] r h k o = h k o
  keeps_havocs up span types (x ∷ xs) r h k o = bind_free (λ y. y < n) up x x (types x) (vp (havocs up span types xs r) k) (λ y e j. keeps_havocs up span types xs r h k o y j)

  module _ (up : Bool) (h : Head) (inv : IsOver n h.inv) (guard : IsOverIn n h.guard) (b : Acts) (body : Keeps n b) where
    keeps_copies : (i : ℕ) → Keeps n (copies up h.span h.guard h.inv b i)
    keeps_copies zero k o = o
    keeps_copies (suc zero) k o = keeps_join b _ body (λ k o. check_free (λ y. y < n) (must up) h.inv _ inv (check_free (λ y. y < n) (may up) (Form.embed (Cond.constant up)) k (λ y j. absurd (cc)) o)) k o
    keeps_copies (suc (suc i)) k o = keeps_join b _ body (λ k o. check_free (λ y. y < n) (meets up) h.inv _ inv (select_free (λ y. y < n) h.guard (vp (copies up h.span h.guard h.inv b (suc i)) k) k guard (keeps_copies (suc i) k o) o)) k o

    keeps_test : Keeps n (tested up h b)
    keeps_test k o = validate_free (λ y. y < n) up _ (check_free (λ y. y < n) (may up) h.inv _ inv (select_free (λ y. y < n) h.guard (vp (copies up h.span h.guard h.inv b h.k) k) k guard (keeps_copies h.k k o) o))

    keeps_loop : (types : Types) (xs : List ℕ) → Keeps n (encoded_loop up types h xs b)
    keeps_loop types xs k o = check_free (λ y. y < n) (must up) h.inv _ inv (keeps_havocs up h.span types xs (tested up h b) keeps_test k o)

  -- ---- Calls: the fresh variables that are read after each part, from the last part to the first

  only : (m y : ℕ) → (y == m) ≡ true → y ≡ m
  only m y e = grind arith

  at_read : (m : ℕ) (t : Ty) (y : ℕ) → occurs_in_term y (read m t) ≡ true → y ≡ m
  at_read m Ty.Bool y e = only m y e
  at_read m Ty.Int y e = only m y e
  at_read m Ty.UInt y e = only m y e
  at_read m Ty.UReal y e = only m y e

  less : (from m x : ℕ) → (x == m) ≡ false → Placed n from (suc m) x → Placed n from m x
  less from m x e (inl p) = inl p
  less from m x e (inr p) = inr (p.0, before (p.1))
    where
      other : x ≡ m → ⊥
      other q = let r : (x == m) ≡ true = grind (arith, q) in absurd (cc)

      before : x < suc m → x < m
      before l = omega (arith, l, other)

  up_to : (from to m x : ℕ) → to ≤ m → Placed n from to x → Placed n from m x
  up_to from to m x l (inl p) = inl p
  up_to from to m x l (inr p) = let q = p.1 in inr (p.0, omega (arith, q, l))

  none_left : (m x : ℕ) → Placed n m m x → x < n
  none_left m x (inl p) = p
  none_left m x (inr p) = let q = p.0 in let r = p.1 in absurd (omega (arith, q, r))

  read_by_gets : (span : Span) (xs : List ℕ) (ts : List Ty) (from m to : ℕ) (k : Form) → from ≤ m → m + length ts ≤ to → IsOver n k → AllFree (Placed n from to) (vp (gets span xs ts m) k)
  read_by_gets span [] ts from m to k l g o = λ x e. inl (o x e)
  read_by_gets span (x ∷ xs) [] from m to k l g o = λ y e. inl (o y e)
  read_by_gets span (x ∷ xs) (t ∷ ts) from m to k l g o =
      subst_free (Placed n from to) x (read m t) (vp (gets span xs ts (suc m)) k)
      (λ y e j. read_by_gets span xs ts from (suc m) to k (omega (arith, l)) (omega (arith, g)) o y j)
      (λ y e. let q = at_read m t y e in inr (omega (arith, l, q), omega (arith, g, q)))

  before_any : (up : Bool) (span : Span) (ts : List Ty) (from m to : ℕ) (r : Acts) (k : Form) → to ≤ m + length ts → AllFree (Placed n from to) (vp r k) → AllFree (Placed n from m) (vp (any_block up span m ts r) k)
  before_any up span [] from m to r k l h = λ x e. up_to from to m x (omega (arith, l)) (h x e)
  before_any up span (t ∷ ts) from m to r k l h = bind_free (Placed n from m) up m m t (vp (any_block up span (suc m) ts r) k) (λ x e j. less from m x e (before_any up span ts from (suc m) to r k (omega (arith, l)) h x j))

  before_sets : (span : Span) (es : List Term) (from m to : ℕ) (r : Acts) (k : Form) → TermsAreOver n es → to ≤ m + length es → AllFree (Placed n from to) (vp r k) → AllFree (Placed n from m) (vp (sets span m es r) k)
  before_sets span [] from m to r k t l h = λ x e. up_to from to m x (omega (arith, l)) (h x e)
  before_sets span (e ∷ es) from m to r k t l h = subst_free (Placed n from m) m e (vp (sets span (suc m) es r) k) (λ x q j. less from m x q (before_sets span es from (suc m) to r k t.1 (omega (arith, l)) h x j)) (λ x q. inl (t.0 x q))

  of_callee : (m i to : ℕ) (f : Form) → m + i ≤ to → IsOver i f → AllFree (Placed n m to) (shifted m f)
  of_callee m i to f l o x e = let q = shifted_over m i f o x e in inr (above_shift m x f e, omega (arith, q, l))

  keeps_call : (up : Bool) (span : Span) (m : ℕ) (xs : List ℕ) (q : TypedProcedure) (es : List Term) → length es ≡ length q.inputs → TermsAreOver n es → IsOver (length q.inputs) q.pre → IsOver (length (q.inputs ++ q.outputs)) q.post → Keeps n (encoded_call up span m xs q es)
  keeps_call up span m xs q es args t pre post k o x e =
      let a = length-append q.inputs q.outputs in
      let b = length-map q.outputs (λ (v : Variable). v.ty) in
      let to = m + length (q.inputs ++ q.outputs) in
      none_left m x (
      before_sets span es m m (m + length q.inputs) _ k t (omega (arith, args))
      (check_free (Placed n m (m + length q.inputs)) (must up) (shifted m q.pre) _ (of_callee m (length q.inputs) (m + length q.inputs) q.pre (omega arith) pre)
      (before_any up span (type_list q.outputs) m (m + length q.inputs) to _ k (omega (arith, a, b))
      (validate_free (Placed n m to) up _
      (check_free (Placed n m to) (may up) (shifted m q.post) _ (of_callee m (length (q.inputs ++ q.outputs)) to q.post (omega arith) post)
      (read_by_gets span xs (type_list q.outputs) m (m + length q.inputs) to k (omega arith) (omega (arith, a, b)) o)))))
      x e)

-- ---- The encoding

module _ (ps : List TypedProcedure) (rules : (q : ℕ) → q < length ps → MeetsRules ps (procedure_at ps q)) (p : TypedProcedure) where
  mutual
    keeps_act : (a : Act) (v : Visible) → IsFine ps p a → Each (IsFine ps p) (inside a) → Bounded (length (variables p)) v → ScopedAct v a → (m : ℕ) → Keeps (length (variables p)) (encoded_act ps p m a)
    keeps_act (Act.set x t span) v f i b o m k h = subst_free (λ y. y < length (variables p)) x t k (λ y e j. h y j) (term_over (length (variables p)) v b (types_of p) (types_of p x) t f.0.1 o)
    keeps_act (Act.draw x qs span) v f i b o m k h = keeps_draw (length (variables p)) x qs k (draw_over (length (variables p)) v b (types_of p) x qs f.0.1 o) h
    keeps_act (Act.toss x g span) v f i b o m k h = keeps_toss (length (variables p)) x g span k (sees_over (length (variables p)) v b g o) h
    keeps_act (Act.any x d ty span) v f i b o m k h = bind_free (λ y. y < length (variables p)) d x x ty k (λ y e j. h y j)
    keeps_act (Act.reward g span) v f i b o m k h = two_free (λ y. y < length (variables p)) k g h (sees_over (length (variables p)) v b g o)
    keeps_act (Act.ifs arms e span) v f i b o m k h =
        keeps_arms arms v f.0.1 (each_first (IsFine ps p) (inside_arms arms) (in_order e) i) b o.0 m k _ h
        (keeps_acts e v (each_second (IsFine ps p) (inside_arms arms) (in_order e) i) b o.1 (m + length (fresh_of_arms ps arms)) k h)
    keeps_act (Act.pick d x y span) v f i b o m k h =
        pick_free (λ z. z < length (variables p)) d _ _
        (keeps_acts x v (each_first (IsFine ps p) (in_order x) (in_order y) i) b o.0 m k h)
        (keeps_acts y v (each_second (IsFine ps p) (in_order x) (in_order y) i) b o.1 (m + length (fresh ps x)) k h)
    keeps_act (Act.check kind g span) v f i b o m k h = check_free (λ y. y < length (variables p)) kind g k (sees_over (length (variables p)) v b g o) h
    keeps_act (Act.validate co span) v f i b o m k h = validate_free (λ y. y < length (variables p)) co k h
    keeps_act (Act.loop l c) v f i b o m k h = keeps_loop (length (variables p)) p.co l (sees_over (length (variables p)) v b l.inv o.1.0.0) (sees_over_in (length (variables p)) v b l.guard o.1.0.1.0) (encoded ps p m c) (keeps_acts c v i b o.1.1 m) (types_of p) (modified l.scope c) k h
    keeps_act (Act.call xs q es span) v f i b o m k h =
        let r = rules q f.0.1.there in
        keeps_call (length (variables p)) p.co span m xs (procedure_at ps q) es (ready_acts ps p rules (Acts.next (Act.call xs q es span) Acts.done) (f, tt)).0.arguments (terms_over (length (variables p)) v b p (type_list (procedure_at ps q).inputs) es f.0.1.arguments o) r.pre_over r.post_over k h

    keeps_acts : (acts : Acts) (v : Visible) → Each (IsFine ps p) (in_order acts) → Bounded (length (variables p)) v → Scoped v acts → (m : ℕ) → Keeps (length (variables p)) (encoded ps p m acts)
    keeps_acts Acts.done v f b o m k h = h
    keeps_acts (Acts.next a rest) v f b o m k h =
        keeps_join (length (variables p)) (encoded_act ps p m a) _
        (keeps_act a v f.0 (each_first (IsFine ps p) (inside a) (in_order rest) f.1) b o.0 m)
        (keeps_acts rest (shown_by a v) (each_second (IsFine ps p) (inside a) (in_order rest) f.1) (after_bounded ps p a v f.0 b) o.1 (m + length (fresh_of_act ps a))) k h

    keeps_arms : (arms : Arms) (v : Visible) → GuardsFit p arms → Each (IsFine ps p) (inside_arms arms) → Bounded (length (variables p)) v → ScopedArms v arms → (m : ℕ) (k otherwise : Form) → IsOver (length (variables p)) k → IsOver (length (variables p)) otherwise → IsOver (length (variables p)) (vp_arms (encoded_arms ps p m arms) k otherwise)
    keeps_arms Arms.no_arm v g f b o m k e h j = j
    keeps_arms (Arms.arm t c more) v g f b o m k e h j =
        select_free (λ y. y < length (variables p)) t (vp (encoded ps p m c) k) (vp_arms (encoded_arms ps p (m + length (fresh ps c)) more) k e) (sees_over_in (length (variables p)) v b t o.0)
        (keeps_acts c v (each_first (IsFine ps p) (in_order c) (inside_arms more) f) b o.1.0 m k h)
        (keeps_arms more v g.1 (each_second (IsFine ps p) (in_order c) (inside_arms more) f) b o.1.1 (m + length (fresh ps c)) k e h j)

pub generated_over : (ps : List TypedProcedure) (p : TypedProcedure) → ((q : ℕ) → q < length ps → MeetsRules ps (procedure_at ps q)) → MeetsRules ps p → IsOver (length (variables p)) (generated_form ps p)
generated_over ps p rules meets =
    let a = length-append p.inputs p.outputs in
    let b = length-append p.inputs (p.outputs ++ p.locals) in
    let c = length-append p.outputs p.locals in
    keeps_acts ps rules p (acts_in p.body) (interface p) (all_fine ps p meets) (interface_bounded p) meets.scopes (length (variables p)) p.post (more_over (length (variables p)) (length (p.inputs ++ p.outputs)) p.post (omega (arith, a, b, c)) meets.post_over)

pub pre_over_own : (ps : List TypedProcedure) (p : TypedProcedure) → MeetsRules ps p → IsOver (length (variables p)) p.pre
pre_over_own ps p meets =
    let b = length-append p.inputs (p.outputs ++ p.locals) in
    more_over (length (variables p)) (length p.inputs) p.pre (omega (arith, b)) meets.pre_over
