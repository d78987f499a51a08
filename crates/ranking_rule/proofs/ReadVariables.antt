-- Acts read only variables of the procedure, and so do the body of a loop with a ranking, its guard
-- and its ranking.
use Rattle.std.proofs.Common.{◌≡◌, ◌<◌, ◌==◌, ◌||◌, ℕ, refl, sym, ap₂, ◌∙◌, subst, arith, Bool, true, false, List, [], ◌∷◌, ◌++◌, length, ⊎_elim, leb}
use Rattle.std.proofs.lemmas.Bool.{or_cases}
use Rattle.std.proofs.lemmas.Bool.Decides.{leb_tells}
use Rattle.std.proofs.lemmas.List.{length-append}
use Rattle.std.specs.Prelude.{Option, Some, None}
use Prim.Native.Nat.{suc}
use Rattle.heyvl_num.specs.Rational.{Rational}
use Rattle.heylo_formula.specs.Binders.{has_binder, has_binder_in}
use Rattle.heylo_formula.specs.Formula.{Form, Cond, Term}
use Rattle.heylo_formula.specs.Typing.{Types, TermFits}
use Rattle.heylo_formula.specs.Variables.{is_free, is_free_in, occurs, occurs_in, IsOver, IsOverIn}
use Rattle.heylo_formula.specs.declared.types.Ty.{Ty}
use Rattle.heylo_formula.proofs.exported.Agreement.{or_false}
use Rattle.heylo_formula.proofs.exported.Plain.{term_plain}
use Rattle.heyvl_acts.specs.Acts.{Act, Acts, Arms, TypedProcedure, acts_in, types_of, variables}
use Rattle.heyvl_acts.specs.Places.{in_order, inside, inside_arms}
use Rattle.heyvl_acts.specs.Rules.{Each, HasOwnTargets, IsTypedAct, IsOwn, MeetsRules}
use Rattle.heyvl_acts.specs.Visible.{Scoped, ScopedAct, ScopedArms, Sees, SeesCond, SeesParts, SeesRank, SeesTerm, Visible, interface, shown, shown_all, shown_by}
use Rattle.heyvl_acts.specs.WellTypedActs.{DrawFits, PartsFit}
use Rattle.vp_generator.specs.Over.{TermIsOver, PartsAreOver, ActsAreOver, ArmsAreOver}
use Rattle.ranking_rule.specs.Rankings.{RankedLoop}
use Rattle.heyvl_acts.specs.Upward.{upward, upward_next, upward_arms}
use Rattle.heyvl_acts.proofs.exported.Each.{each_first, each_second, each_append, each_two}
use Rattle.ranking_rule.proofs.RankedActs.{of_body, of_head}

-- ---- Without binders each variable that occurs is free

both : {a b c d : Bool} → a ≡ c → b ≡ d → (a || b) ≡ (c || d)
both e f = ap₂ (λ x y. x || y) e f

mutual
  all_free : (x : ℕ) (f : Form) → has_binder f ≡ false → occurs x f ≡ is_free x f
  all_free x (Form.number v) h = refl
  all_free x (Form.variable y) h = refl
  all_free x (Form.sum a b) h = let p = or_false (has_binder a) (has_binder b) h in both (all_free x a p.0) (all_free x b p.1)
  all_free x (Form.difference a b) h = let p = or_false (has_binder a) (has_binder b) h in both (all_free x a p.0) (all_free x b p.1)
  all_free x (Form.cut a b) h = let p = or_false (has_binder a) (has_binder b) h in both (all_free x a p.0) (all_free x b p.1)
  all_free x (Form.scale w a) h = all_free x a h
  all_free x (Form.product a b span) h = let p = or_false (has_binder a) (has_binder b) h in both (all_free x a p.0) (all_free x b p.1)
  all_free x (Form.min a b) h = let p = or_false (has_binder a) (has_binder b) h in both (all_free x a p.0) (all_free x b p.1)
  all_free x (Form.max a b) h = let p = or_false (has_binder a) (has_binder b) h in both (all_free x a p.0) (all_free x b p.1)
  all_free x (Form.imply a b) h = let p = or_false (has_binder a) (has_binder b) h in both (all_free x a p.0) (all_free x b p.1)
  all_free x (Form.co_imply a b) h = let p = or_false (has_binder a) (has_binder b) h in both (all_free x a p.0) (all_free x b p.1)
  all_free x (Form.validate a) h = all_free x a h
  all_free x (Form.co_validate a) h = all_free x a h
  all_free x (Form.embed g) h = all_free_in x g h
  all_free x (Form.iverson g) h = all_free_in x g h
  all_free x (Form.select g a b) h = let p = or_false (has_binder_in g) (has_binder a || has_binder b) h in let q = or_false (has_binder a) (has_binder b) p.1 in both (all_free_in x g p.0) (both (all_free x a q.0) (all_free x b q.1))
  all_free x (Form.bind up y name ty a) h = absurd (cc)

  all_free_in : (x : ℕ) (g : Cond) → has_binder_in g ≡ false → occurs_in x g ≡ is_free_in x g
  all_free_in x (Cond.constant b) h = refl
  all_free_in x (Cond.flag y) h = refl
  all_free_in x (Cond.not g) h = all_free_in x g h
  all_free_in x (Cond.and a b) h = let p = or_false (has_binder_in a) (has_binder_in b) h in both (all_free_in x a p.0) (all_free_in x b p.1)
  all_free_in x (Cond.or a b) h = let p = or_false (has_binder_in a) (has_binder_in b) h in both (all_free_in x a p.0) (all_free_in x b p.1)
  all_free_in x (Cond.same a b) h = let p = or_false (has_binder_in a) (has_binder_in b) h in both (all_free_in x a p.0) (all_free_in x b p.1)
  all_free_in x (Cond.le a b) h = let p = or_false (has_binder a) (has_binder b) h in both (all_free x a p.0) (all_free x b p.1)
  all_free_in x (Cond.lt a b) h = let p = or_false (has_binder a) (has_binder b) h in both (all_free x a p.0) (all_free x b p.1)
  all_free_in x (Cond.equal a b) h = let p = or_false (has_binder a) (has_binder b) h in both (all_free x a p.0) (all_free x b p.1)
  all_free_in x (Cond.ite g a b) h = let p = or_false (has_binder_in g) (has_binder_in a || has_binder_in b) h in let q = or_false (has_binder_in a) (has_binder_in b) p.1 in both (all_free_in x g p.0) (both (all_free_in x a q.0) (all_free_in x b q.1))

-- ---- Visible variables

-- Each visible variable is below `n`.
abbrev pub Bounded : ℕ → Visible → Type 0
Bounded n v = (y : ℕ) → v y ≡ true → y < n

shown_bounded : (n x : ℕ) (v : Visible) → x < n → Bounded n v → Bounded n (shown x v)
shown_bounded n x v l b y h = ⊎_elim (λ e. let q : x ≡ y = grind arith in subst (λ z. z < n) q l) (λ e. b y e) (or_cases (x == y) (v y) h)

shown_all_bounded : (p : TypedProcedure) (xs : List ℕ) (v : Visible) → Each (IsOwn p) xs → Bounded (length (variables p)) v → Bounded (length (variables p)) (shown_all xs v)
shown_all_bounded p [] v o b = b
shown_all_bounded p (x ∷ xs) v o b = shown_all_bounded p xs (shown x v) o.1 (shown_bounded (length (variables p)) x v o.0.below b)

pub interface_bounded : (p : TypedProcedure) → Bounded (length (variables p)) (interface p)
interface_bounded p y h =
    let a = length-append p.inputs p.outputs in
    let b = length-append p.inputs (p.outputs ++ p.locals) in
    let c = length-append p.outputs p.locals in
    let l : y < length (p.inputs ++ p.outputs) = below y (length (p.inputs ++ p.outputs)) h in
    omega (arith, a, b, c, l)
  where
    below : (y n : ℕ) → leb (suc y) n ≡ true → y < n
    below y n h = grind (arith, leb_tells (suc y) n)

-- ---- The variables that an act reads

abbrev GuardsAreOver : ℕ → Arms → Type 0
GuardsAreOver n Arms.no_arm = Unit {0}
GuardsAreOver n (Arms.arm g b more) = IsOverIn n g × GuardsAreOver n more

abbrev pub RankIsOver : ℕ → Option (Rational × Form) → Type 0
RankIsOver n None = Unit {0}
RankIsOver n (Some r) = IsOver n r.1

-- The act reads only the first `n` variables. The acts in it and the arguments of calls do not
-- count.
abbrev pub ReadsFirst : ℕ → Act → Type 0
ReadsFirst n (Act.set x t span) = TermIsOver n t
ReadsFirst n (Act.draw x qs span) = PartsAreOver n qs
ReadsFirst n (Act.toss x f span) = IsOver n f
ReadsFirst n (Act.any x up ty span) = Unit {0}
ReadsFirst n (Act.reward f span) = IsOver n f
ReadsFirst n (Act.ifs arms e span) = GuardsAreOver n arms
ReadsFirst n (Act.pick up a b span) = Unit {0}
ReadsFirst n (Act.check kind f span) = IsOver n f
ReadsFirst n (Act.validate co span) = Unit {0}
ReadsFirst n (Act.loop h b) = IsOver n h.inv × (IsOverIn n h.guard × RankIsOver n h.rank)
ReadsFirst n (Act.call xs q es span) = Unit {0}

abbrev IsFine : List TypedProcedure → TypedProcedure → Act → Type 0
IsFine ps p a = HasOwnTargets p a × IsTypedAct ps p a

module _ (n : ℕ) (v : Visible) (bounded : Bounded n v) where
  sees_over : (f : Form) → Sees v f → IsOver n f
  sees_over f o y e = bounded y (o y e)

  sees_over_in : (g : Cond) → SeesCond v g → IsOverIn n g
  sees_over_in g o y e = bounded y (o y e)

  term_over : (types : Types) (ty : Ty) (t : Term) → TermFits types ty t → SeesTerm v t → TermIsOver n t
  term_over types ty (Term.truth g) f o y e = sees_over_in g o y (sym (all_free_in y g (term_plain types ty (Term.truth g) f)) ∙ e)
  term_over types ty (Term.number g) f o y e = sees_over g o y (sym (all_free y g (term_plain types ty (Term.number g) f).0) ∙ e)

  parts_over : (types : Types) (x : ℕ) (qs : List (Rational × Term)) → PartsFit types x qs → SeesParts v qs → PartsAreOver n qs
  parts_over types x [] f o = tt
  parts_over types x (q ∷ qs) f o = (term_over types (types x) q.1 f.0.1 o.0, parts_over types x qs f.1 o.1)

  draw_over : (types : Types) (x : ℕ) (qs : List (Rational × Term)) → DrawFits types x qs → SeesParts v qs → PartsAreOver n qs
  draw_over types x [] f o = tt
  draw_over types x (q ∷ qs) f o = parts_over types x (q ∷ qs) f o

  guards_over : (arms : Arms) → ScopedArms v arms → GuardsAreOver n arms
  guards_over Arms.no_arm o = tt
  guards_over (Arms.arm g b more) o = (sees_over_in g o.0, guards_over more o.1.1)

  rank_over : (r : Option (Rational × Form)) → SeesRank v r → RankIsOver n r
  rank_over None o = tt
  rank_over (Some r) o = sees_over r.1 o

module _ (ps : List TypedProcedure) (p : TypedProcedure) where
  abbrev count : ℕ
  count = length (variables p)

  abbrev Fine : Act → Type 0
  Fine a = IsFine ps p a

  abbrev Reads : Act → Type 0
  Reads a = ReadsFirst count a

  after_bounded : (a : Act) (v : Visible) → IsFine ps p a → Bounded count v → Bounded count (shown_by a v)
  after_bounded (Act.set x t span) v f b = shown_bounded count x v f.0.below b
  after_bounded (Act.draw x qs span) v f b = shown_bounded count x v f.0.below b
  after_bounded (Act.toss x w span) v f b = shown_bounded count x v f.0.below b
  after_bounded (Act.any x d ty span) v f b = shown_bounded count x v f.0.below b
  after_bounded (Act.reward g span) v f b = b
  after_bounded (Act.ifs arms e span) v f b = b
  after_bounded (Act.pick d a c span) v f b = b
  after_bounded (Act.check kind g span) v f b = b
  after_bounded (Act.validate co span) v f b = b
  after_bounded (Act.loop k c) v f b = b
  after_bounded (Act.call xs q es span) v f b = shown_all_bounded p xs v f.0 b

  mutual
    reads_act : (a : Act) (v : Visible) → IsFine ps p a → Each Fine (inside a) → Bounded count v → ScopedAct v a → Reads a × Each Reads (inside a)
    reads_act (Act.set x t span) v f i b o = (term_over count v b (types_of p) (types_of p x) t f.1 o, tt)
    reads_act (Act.draw x qs span) v f i b o = (draw_over count v b (types_of p) x qs f.1 o, tt)
    reads_act (Act.toss x g span) v f i b o = (sees_over count v b g o, tt)
    reads_act (Act.any x d ty span) v f i b o = (tt, tt)
    reads_act (Act.reward g span) v f i b o = (sees_over count v b g o, tt)
    reads_act (Act.ifs arms e span) v f i b o = (guards_over count v b arms o.0, each_append Reads (inside_arms arms) (in_order e) (reads_arms arms v (each_first Fine (inside_arms arms) (in_order e) i) b o.0) (reads_acts e v (each_second Fine (inside_arms arms) (in_order e) i) b o.1))
    reads_act (Act.pick d x y span) v f i b o = (tt, each_append Reads (in_order x) (in_order y) (reads_acts x v (each_first Fine (in_order x) (in_order y) i) b o.0) (reads_acts y v (each_second Fine (in_order x) (in_order y) i) b o.1))
    reads_act (Act.check kind g span) v f i b o = (sees_over count v b g o, tt)
    reads_act (Act.validate co span) v f i b o = (tt, tt)
    reads_act (Act.loop k c) v f i b o = ((sees_over count v b k.inv o.1.0.0, (sees_over_in count v b k.guard o.1.0.1.0, rank_over count v b k.rank o.1.0.1.1)), reads_acts c v i b o.1.1)
    reads_act (Act.call xs q es span) v f i b o = (tt, tt)

    reads_acts : (acts : Acts) (v : Visible) → Each Fine (in_order acts) → Bounded count v → Scoped v acts → Each Reads (in_order acts)
    reads_acts Acts.done v f b o = tt
    reads_acts (Acts.next a rest) v f b o =
        let h = reads_act a v f.0 (each_first Fine (inside a) (in_order rest) f.1) b o.0 in
        (h.0, each_append Reads (inside a) (in_order rest) h.1 (reads_acts rest (shown_by a v) (each_second Fine (inside a) (in_order rest) f.1) (after_bounded a v f.0 b) o.1))

    reads_arms : (arms : Arms) (v : Visible) → Each Fine (inside_arms arms) → Bounded count v → ScopedArms v arms → Each Reads (inside_arms arms)
    reads_arms Arms.no_arm v f b o = tt
    reads_arms (Arms.arm t c more) v f b o = each_append Reads (in_order c) (inside_arms more) (reads_acts c v (each_first Fine (in_order c) (inside_arms more) f) b o.1.0) (reads_arms more v (each_second Fine (in_order c) (inside_arms more) f) b o.1.1)

  pub all_read : MeetsRules ps p → Each Reads (in_order (acts_in p.body))
  all_read meets = reads_acts (acts_in p.body) (interface p) (each_two (HasOwnTargets p) (IsTypedAct ps p) (in_order (acts_in p.body)) meets.targets meets.typed) (interface_bounded p) meets.scopes

-- ---- Acts that are taken upward

module _ (n : ℕ) where
  abbrev First : Act → Type 0
  First a = ReadsFirst n a

  mutual
    pub upward_over : (acts : Acts) → Each First (in_order acts) → ActsAreOver n (upward acts)
    upward_over Acts.done h = tt
    upward_over (Acts.next a rest) h = next_over a (upward rest) h.0 (each_first First (inside a) (in_order rest) h.1) (upward_over rest (each_second First (inside a) (in_order rest) h.1))

    next_over : (a : Act) (rest : Acts) → First a → Each First (inside a) → ActsAreOver n rest → ActsAreOver n (upward_next a rest)
    next_over (Act.set x t span) rest h i k = (h, k)
    next_over (Act.draw x qs span) rest h i k = (h, k)
    next_over (Act.toss x f span) rest h i k = (h, k)
    next_over (Act.any x up ty span) rest h i k = (tt, k)
    next_over (Act.reward f span) rest h i k = k
    next_over (Act.ifs arms e span) rest h i k = ((arms_over arms h (each_first First (inside_arms arms) (in_order e) i), upward_over e (each_second First (inside_arms arms) (in_order e) i)), k)
    next_over (Act.pick up a b span) rest h i k = ((upward_over a (each_first First (in_order a) (in_order b) i), upward_over b (each_second First (in_order a) (in_order b) i)), k)
    next_over (Act.check kind f span) rest h i k = (h, k)
    next_over (Act.validate co span) rest h i k = (tt, k)
    next_over (Act.loop g b) rest h i k = (tt, k)
    next_over (Act.call xs q es span) rest h i k = (tt, k)

    arms_over : (arms : Arms) → GuardsAreOver n arms → Each First (inside_arms arms) → ArmsAreOver n (upward_arms arms)
    arms_over Arms.no_arm g i = tt
    arms_over (Arms.arm c b more) g i = (g.0, (upward_over b (each_first First (in_order b) (inside_arms more) i), arms_over more g.1 (each_second First (in_order b) (inside_arms more) i)))

-- ---- A loop with a ranking

pub some_rank : (n : ℕ) (o : Option (Rational × Form)) (r : Rational × Form) → o ≡ Some r → RankIsOver n o → IsOver n r.1
some_rank n o r e h = subst (RankIsOver n) e h

module _ (ps : List TypedProcedure) (p : TypedProcedure) (n : ℕ) (l : RankedLoop p n) (rules : MeetsRules ps p) where
  loop_reads : ReadsFirst (length (variables p)) (Act.loop l.head l.body)
  loop_reads = of_head (ReadsFirst (length (variables p))) p n l (all_read ps p rules)

  pub guard_over : IsOverIn (length (variables p)) l.head.guard
  guard_over = loop_reads.1.0

  pub ranking_over : IsOver (length (variables p)) l.rank.1
  ranking_over = some_rank (length (variables p)) l.head.rank l.rank l.ranked loop_reads.1.1

  pub body_over : ActsAreOver (length (variables p)) (upward l.body)
  body_over = upward_over (length (variables p)) l.body (of_body (ReadsFirst (length (variables p))) p n l (all_read ps p rules))
