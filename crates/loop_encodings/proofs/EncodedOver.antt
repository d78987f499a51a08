-- Encodings read only the procedure's variables and the fresh ones.
use Rattle.std.proofs.Common.{◌≡◌, ◌≤◌, ◌<◌, ◌+◌, ◌==◌, ℕ, sym, ◌∙◌, arith, Bool, true, List, [], ◌∷◌, ◌++◌, length}
use Rattle.std.proofs.lemmas.List.{length-append, length-map}
use Prim.Native.Nat.{zero, suc}
use Rattle.heyvl_num.specs.Rational.{Rational}
use Rattle.heyvl_places.specs.declared.spans.Span.{Span}
use Rattle.heylo_formula.specs.Formula.{Form, Cond, Term}
use Rattle.heylo_formula.specs.Shifts.{shifted}
use Rattle.heylo_formula.specs.Typing.{Types, TermFits}
use Rattle.heylo_formula.specs.Variables.{IsOver, IsOverIn}
use Rattle.heylo_formula.specs.declared.types.Ty.{Ty}
use Rattle.heylo_formula.proofs.exported.Plain.{term_plain}
use Rattle.heylo_formula.proofs.exported.Shifts.{shifted_over}
use Rattle.heyvl_acts.specs.Acts.{Head, Act, Acts, Arms, TypedProcedure, Variable, acts_in, join, procedure_at, type_list, types_of, variables}
use Rattle.heyvl_acts.specs.ModifiedVariables.{modified}
use Rattle.heyvl_acts.specs.Places.{in_order, inside, inside_arms}
use Rattle.heyvl_acts.specs.Rules.{ArgumentsFit, Each, GuardsFit, MeetsRules}
use Rattle.heyvl_acts.specs.Visible.{Scoped, ScopedAct, ScopedArms, Sees, SeesCond, SeesParts, SeesTerm, SeesTerms, Visible, interface, shown_by}
use Rattle.heyvl_acts.specs.WellTypedActs.{DrawFits, PartsFit}
use Rattle.k_induction.specs.Copies.{copies}
use Rattle.vp_generator.specs.Over.{TermIsOver, PartsAreOver, ActsAreOver, ArmsAreOver}
use Rattle.loop_encodings.specs.Encoding.{all_variables, any_block, encoded, encoded_act, encoded_arms, encoded_loop, encoding, gets, havocs, read, sets, tested}
use Rattle.loop_encodings.specs.EncodingLaws.{EncodingIsOver}
use Rattle.loop_encodings.specs.Fresh.{fresh, fresh_of_act, fresh_of_arms}
use Rattle.loop_encodings.proofs.EncodedTypes.{Bounded, after_bounded, interface_bounded}
use Rattle.heyvl_acts.proofs.exported.Each.{each_first, each_second}
use Rattle.loop_encodings.proofs.FromRules.{IsFine, all_fine, each_procedure}
use Rattle.loop_encodings.proofs.PlainOccurrences.{occurs_free, occurs_free_in}

-- Each variable in the terms is below `n`.
abbrev pub TermsAreOver : ℕ → List Term → Type 0
TermsAreOver n [] = Unit {0}
TermsAreOver n (e ∷ es) = TermIsOver n e × TermsAreOver n es

-- ---- Forms that see only the first variables

module _ (n : ℕ) (v : Visible) (b : Bounded n v) where
  pub sees_over : (f : Form) → Sees v f → IsOver n f
  sees_over f o y e = b y (o y e)

  pub sees_over_in : (g : Cond) → SeesCond v g → IsOverIn n g
  sees_over_in g o y e = b y (o y e)

  pub term_over : (types : Types) (ty : Ty) (t : Term) → TermFits types ty t → SeesTerm v t → TermIsOver n t
  term_over types ty (Term.truth g) f o y e = b y (o y (sym (occurs_free_in y g (term_plain types ty (Term.truth g) f)) ∙ e))
  term_over types ty (Term.number a) f o y e = b y (o y (sym (occurs_free y a (term_plain types ty (Term.number a) f).0) ∙ e))

  parts_over : (types : Types) (x : ℕ) (qs : List (Rational × Term)) → PartsFit types x qs → SeesParts v qs → PartsAreOver n qs
  parts_over types x [] f o = tt
  parts_over types x (q ∷ qs) f o = (term_over types (types x) q.1 f.0.1 o.0, parts_over types x qs f.1 o.1)

  pub draw_over : (types : Types) (x : ℕ) (qs : List (Rational × Term)) → DrawFits types x qs → SeesParts v qs → PartsAreOver n qs
  draw_over types x [] f o = absurd f
  draw_over types x (q ∷ qs) f o = parts_over types x (q ∷ qs) f o

  pub terms_over : (p : TypedProcedure) (ts : List Ty) (es : List Term) → ArgumentsFit p ts es → SeesTerms v es → TermsAreOver n es
  terms_over p ts [] f o = tt
  terms_over p [] (e ∷ es) f o = absurd f
  terms_over p (t ∷ ts) (e ∷ es) f o = (term_over (types_of p) t e f.0 o.0, terms_over p ts es f.1 o.1)

-- ---- The parts of an encoding

module _ (n : ℕ) where
  pub more_over : (i : ℕ) (f : Form) → i ≤ n → IsOver i f → IsOver n f
  more_over i f l o y e = let q : y < i = o y e in omega (arith, q, l)

  join_over : (a b : Acts) → ActsAreOver n a → ActsAreOver n b → ActsAreOver n (join a b)
  join_over Acts.done b h k = k
  join_over (Acts.next a rest) b h k = (h.0, join_over rest b h.1 k)

  sets_over : (span : Span) (m : ℕ) (es : List Term) (r : Acts) → TermsAreOver n es → ActsAreOver n r → ActsAreOver n (sets span m es r)
  sets_over span m [] r t h = h
  sets_over span m (e ∷ es) r t h = (t.0, sets_over span (suc m) es r t.1 h)

  any_over : (up : Bool) (span : Span) (m : ℕ) (ts : List Ty) (r : Acts) → ActsAreOver n r → ActsAreOver n (any_block up span m ts r)
  any_over up span m [] r h = h
  any_over up span m (t ∷ ts) r h = (tt, any_over up span (suc m) ts r h)

  havocs_over : (up : Bool) (span : Span) (types : Types) (xs : List ℕ) (r : Acts) → ActsAreOver n r → ActsAreOver n (havocs up span types xs r)
  havocs_over up span types [] r h = h
  havocs_over up span types (x ∷ xs) r h = (tt, havocs_over up span types xs r h)

  only : (m : ℕ) → m < n → (y : ℕ) → (y == m) ≡ true → y < n
  only m l y e = let q : y ≡ m = grind arith in omega (arith, q, l)

  read_over : (m : ℕ) (t : Ty) → m < n → TermIsOver n (read m t)
  read_over m Ty.Bool l = only m l
  read_over m Ty.Int l = only m l
  read_over m Ty.UInt l = only m l
  read_over m Ty.UReal l = only m l

  gets_over : (span : Span) (xs : List ℕ) (ts : List Ty) (m : ℕ) → m + length ts ≤ n → ActsAreOver n (gets span xs ts m)
  gets_over span [] ts m l = tt
  gets_over span (x ∷ xs) [] m l = tt
  gets_over span (x ∷ xs) (t ∷ ts) m l = (read_over m t (omega (arith, l)), gets_over span xs ts (suc m) (omega (arith, l)))

  module _ (up : Bool) (h : Head) (inv : IsOver n h.inv) (guard : IsOverIn n h.guard) (b : Acts) (k : ActsAreOver n b) where
    copies_over : (i : ℕ) → ActsAreOver n (copies up h.span h.guard h.inv b i)
    copies_over zero = tt
    copies_over (suc zero) = join_over b _ k (inv, (λ x q. absurd (cc), tt))
    copies_over (suc (suc i)) = join_over b _ k (inv, (((guard, (copies_over (suc i), tt)), tt), tt))

    loop_over : (types : Types) (xs : List ℕ) → ActsAreOver n (encoded_loop up types h xs b)
    loop_over types xs = (inv, havocs_over up h.span types xs (tested up h b) (tt, (inv, (((guard, (copies_over h.k, tt)), tt), tt))))

-- ---- The encoding

module _ (ps : List TypedProcedure) (rules : (q : ℕ) → q < length ps → MeetsRules ps (procedure_at ps q)) (p : TypedProcedure) (n : ℕ) (own : length (variables p) ≤ n) where
  wider : (v : Visible) → Bounded (length (variables p)) v → Bounded n v
  wider v b y h = let k : y < length (variables p) = b y h in omega (arith, k, own)

  call_over : (span : Span) (v : Visible) (m : ℕ) (xs : List ℕ) (q : ℕ) (es : List Term) → Bounded (length (variables p)) v → IsFine ps p (Act.call xs q es span) → SeesTerms v es → m + length ((procedure_at ps q).inputs ++ (procedure_at ps q).outputs) ≤ n → ActsAreOver n (encoded_act ps p m (Act.call xs q es span))
  call_over span v m xs q es b f o l =
      let r = rules q f.0.1.there in
      let e = length-append (procedure_at ps q).inputs (procedure_at ps q).outputs in
      let g = length-map (procedure_at ps q).outputs (λ (x : Variable). x.ty) in
      sets_over n span m es _ (terms_over n v (wider v b) p (type_list (procedure_at ps q).inputs) es f.0.1.arguments o) (
        more_over n (m + length (procedure_at ps q).inputs) (shifted m (procedure_at ps q).pre) (omega (arith, l, e)) (shifted_over m (length (procedure_at ps q).inputs) (procedure_at ps q).pre r.pre_over),
        any_over n p.co span _ (type_list (procedure_at ps q).outputs) _ (
          tt,
          (
            more_over n (m + length ((procedure_at ps q).inputs ++ (procedure_at ps q).outputs)) (shifted m (procedure_at ps q).post) l (shifted_over m (length ((procedure_at ps q).inputs ++ (procedure_at ps q).outputs)) (procedure_at ps q).post r.post_over),
            gets_over n span xs (type_list (procedure_at ps q).outputs) _ (omega (arith, l, e, g)),
          ),
        ),
      )

  mutual
    over_act : (a : Act) (v : Visible) → IsFine ps p a → Each (IsFine ps p) (inside a) → Bounded (length (variables p)) v → ScopedAct v a → (m : ℕ) → m + length (fresh_of_act ps a) ≤ n → ActsAreOver n (encoded_act ps p m a)
    over_act (Act.set x t span) v f i b o m l = (term_over n v (wider v b) (types_of p) (types_of p x) t f.0.1 o, tt)
    over_act (Act.draw x qs span) v f i b o m l = (draw_over n v (wider v b) (types_of p) x qs f.0.1 o, tt)
    over_act (Act.toss x g span) v f i b o m l = (sees_over n v (wider v b) g o, tt)
    over_act (Act.any x d ty span) v f i b o m l = (tt, tt)
    over_act (Act.reward g span) v f i b o m l = (sees_over n v (wider v b) g o, tt)
    over_act (Act.ifs arms e span) v f i b o m l = (
      (
        over_arms arms v f.0.1 (each_first (IsFine ps p) (inside_arms arms) (in_order e) i) b o.0 m (omega (arith, l, length-append (fresh_of_arms ps arms) (fresh ps e))),
        over_acts e v (each_second (IsFine ps p) (inside_arms arms) (in_order e) i) b o.1 (m + length (fresh_of_arms ps arms)) (omega (arith, l, length-append (fresh_of_arms ps arms) (fresh ps e))),
      ),
      tt,
    )
    over_act (Act.pick d x y span) v f i b o m l = (
      (
        over_acts x v (each_first (IsFine ps p) (in_order x) (in_order y) i) b o.0 m (omega (arith, l, length-append (fresh ps x) (fresh ps y))),
        over_acts y v (each_second (IsFine ps p) (in_order x) (in_order y) i) b o.1 (m + length (fresh ps x)) (omega (arith, l, length-append (fresh ps x) (fresh ps y))),
      ),
      tt,
    )
    over_act (Act.check kind g span) v f i b o m l = (sees_over n v (wider v b) g o, tt)
    over_act (Act.validate co span) v f i b o m l = (tt, tt)
    over_act (Act.loop k c) v f i b o m l = loop_over n p.co k (sees_over n v (wider v b) k.inv o.1.0.0) (sees_over_in n v (wider v b) k.guard o.1.0.1.0) (encoded ps p m c) (over_acts c v i b o.1.1 m l) (types_of p) (modified k.scope c)
    over_act (Act.call xs q es span) v f i b o m l = call_over span v m xs q es b f o l

    over_acts : (acts : Acts) (v : Visible) → Each (IsFine ps p) (in_order acts) → Bounded (length (variables p)) v → Scoped v acts → (m : ℕ) → m + length (fresh ps acts) ≤ n → ActsAreOver n (encoded ps p m acts)
    over_acts Acts.done v f b o m l = tt
    over_acts (Acts.next a rest) v f b o m l =
        join_over n (encoded_act ps p m a) _
        (over_act a v f.0 (each_first (IsFine ps p) (inside a) (in_order rest) f.1) b o.0 m (omega (arith, l, length-append (fresh_of_act ps a) (fresh ps rest))))
        (over_acts rest (shown_by a v) (each_second (IsFine ps p) (inside a) (in_order rest) f.1) (after_bounded ps p a v f.0 b) o.1 (m + length (fresh_of_act ps a)) (omega (arith, l, length-append (fresh_of_act ps a) (fresh ps rest))))

    over_arms : (arms : Arms) (v : Visible) → GuardsFit p arms → Each (IsFine ps p) (inside_arms arms) → Bounded (length (variables p)) v → ScopedArms v arms → (m : ℕ) → m + length (fresh_of_arms ps arms) ≤ n → ArmsAreOver n (encoded_arms ps p m arms)
    over_arms Arms.no_arm v g f b o m l = tt
    over_arms (Arms.arm t c more) v g f b o m l = (
      sees_over_in n v (wider v b) t o.0,
      (
        over_acts c v (each_first (IsFine ps p) (in_order c) (inside_arms more) f) b o.1.0 m (omega (arith, l, length-append (fresh ps c) (fresh_of_arms ps more))),
        over_arms more v g.1 (each_second (IsFine ps p) (in_order c) (inside_arms more) f) b o.1.1 (m + length (fresh ps c)) (omega (arith, l, length-append (fresh ps c) (fresh_of_arms ps more))),
      ),
    )

over : (ps : List TypedProcedure) (p : TypedProcedure) → ((q : ℕ) → q < length ps → MeetsRules ps (procedure_at ps q)) → MeetsRules ps p → ActsAreOver (length (all_variables ps p)) (encoding ps p)
over ps p rules meets = over_acts ps rules p (length (all_variables ps p)) (omega (arith, length-append (variables p) (fresh ps (acts_in p.body)))) (acts_in p.body) (interface p) (all_fine ps p meets) (interface_bounded p) meets.scopes (length (variables p)) (omega (arith, length-append (variables p) (fresh ps (acts_in p.body))))

pub encoding_over : EncodingIsOver
encoding_over ps p each lt = over ps (procedure_at ps p) (λ q l. each_procedure ps ps q each l) (each_procedure ps ps p each lt)
