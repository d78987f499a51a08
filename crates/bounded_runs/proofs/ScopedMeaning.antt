-- The meaning of acts depends only on the visible variables.
use Rattle.std.proofs.Common.{◌≡◌, ◌∙◌, ℕ, refl, ap, ap₂, Bool, true, false, cond, ◌==◌, ◌||◌, List, [], ◌∷◌, ◌++◌}
use Prim.Native.Nat.{zero, suc}
use Rattle.heyvl_num.specs.Rational.{Rational}
use Rattle.heyvl_num.specs.Value.{Value, oneᵛ, ◌+ᵛ◌, ◌*ᵛ◌}
use Rattle.heyvl_num.specs.Value.Value.{finite}
use Rattle.heylo_formula.specs.Operators.{finite_part}
use Rattle.heylo_formula.specs.State.{Env, put, IsTyped}
use Rattle.heylo_formula.specs.Choices.{Choices, left, right}
use Rattle.heylo_formula.specs.Formula.{Form, Cond, Term}
use Rattle.heylo_formula.specs.Meaning.{value, holds, term_value}
use Rattle.heylo_formula.specs.Typing.{Types}
use Rattle.heylo_formula.specs.declared.types.Ty.{Ty}
use Rattle.heylo_formula.specs.declared.values.Val.{Val}
use Rattle.heylo_formula.specs.declared.values.Val.TheVariants.{Truth, Num}
use Rattle.heylo_formula.proofs.exported.Agreement.{same_on, same_on_in}
use Rattle.heyvl_num.specs.ValueOperators.{minᵛ}
use Rattle.heyvl_acts.specs.Tosses.{toss_parts, flip_parts}
use Rattle.heyvl_acts.specs.Acts.{Head, Act, Acts, Arms, TypedProcedure, type_list, types_of, procedure_at}
use Rattle.heyvl_acts.specs.Forward.{Post, picked, checked, validated, past_products, part, parts, drawn, meant_arms}
use Rattle.heyvl_acts.specs.ModifiedVariables.{modified}
use Rattle.heyvl_acts.specs.Visible.{Visible, shown, shown_all, Sees, SeesCond, SeesTerm, SeesTerms, SeesParts, shown_by, ScopedAct, Scoped, ScopedArms}
use Rattle.k_induction.specs.Copies.{must, may, meets}
use Rattle.run_machine.specs.Configurations.{evaluate}
use Rattle.bounded_runs.specs.internal.Contracts.{havoc, after, picks, put_all, given, more, once, way, blame, loop_value, call_blame, call_value, meaning, meaning_act}
use Rattle.bounded_runs.specs.internal.Programs.{Owns, Program, ProgramAct, ProgramArms}
use Rattle.bounded_runs.proofs.ProgramStates.{havoc-at, picks_typed}

abbrev pub Sub : Visible → Visible → Type 0
Sub v w = (y : ℕ) → v y ≡ true → w y ≡ true

abbrev pub AgreeOn : Visible → Env → Env → Type 0
AgreeOn v s t = (y : ℕ) → v y ≡ true → s y ≡ t y

abbrev pub Respects : Visible → Post → Type 0
Respects v k = (s t : Env) (c : Choices) → AgreeOn v s t → k s c ≡ k t c

pub weaken : (v w : Visible) (k : Post) → Sub v w → Respects v k → Respects w k
weaken v w k h r s t c a = r s t c (λ y e. a y (h y e))

pub sub_shown : (x : ℕ) (v : Visible) → Sub v (shown x v)
sub_shown x v y e = go (x == y)
  where
    go : (b : Bool) → (b || v y) ≡ true
    go true = refl
    go false = e

pub sub_shown_all : (xs : List ℕ) (v : Visible) → Sub v (shown_all xs v)
sub_shown_all [] v y e = e
sub_shown_all (x ∷ xs) v y e = sub_shown_all xs (shown x v) y (sub_shown x v y e)

pub sub_act : (a : Act) (v : Visible) → Sub v (shown_by a v)
sub_act (Act.set x t span) v y e = sub_shown x v y e
sub_act (Act.draw x qs span) v y e = sub_shown x v y e
sub_act (Act.toss x f span) v y e = sub_shown x v y e
sub_act (Act.any x up ty span) v y e = sub_shown x v y e
sub_act (Act.reward f span) v y e = e
sub_act (Act.ifs arms b span) v y e = e
sub_act (Act.pick up a b span) v y e = e
sub_act (Act.check kind f span) v y e = e
sub_act (Act.validate co span) v y e = e
sub_act (Act.loop h b) v y e = e
sub_act (Act.call xs p es span) v y e = sub_shown_all xs v y e

pub put_on : (v : Visible) (x : ℕ) (a : Val) (s t : Env) → AgreeOn v s t → AgreeOn (shown x v) (put x a s) (put x a t)
put_on v x a s t h y e = go (x == y) e
  where
    go : (b : Bool) → (b || v y) ≡ true → cond b a (s y) ≡ cond b a (t y)
    go true k = refl
    go false k = h y k

put_all_on : (p : TypedProcedure) (v : Visible) (xs : List ℕ) (ts : List Ty) (vs : List Val) (s t : Env) → Owns p xs ts → IsTyped ts vs → AgreeOn v s t → AgreeOn (shown_all xs v) (put_all xs vs s) (put_all xs vs t)
put_all_on p v [] ts vs s t o f h = h
put_all_on p v (x ∷ xs) [] vs s t o f h = absurd o
put_all_on p v (x ∷ xs) (u ∷ ts) [] s t o f h = absurd f
put_all_on p v (x ∷ xs) (u ∷ ts) (a ∷ vs) s t o f h = put_all_on p (shown x v) xs ts vs (put x a s) (put x a t) o.1 f.1 (put_on v x a s t h)

pub value_on : (v : Visible) (f : Form) (s t : Env) → Sees v f → AgreeOn v s t → value f s Choices.stop ≡ value f t Choices.stop
value_on v f s t h a = same_on f s t Choices.stop (λ y e. a y (h y e))

holds_on : (v : Visible) (g : Cond) (s t : Env) → SeesCond v g → AgreeOn v s t → holds g s Choices.stop ≡ holds g t Choices.stop
holds_on v g s t h a = same_on_in g s t Choices.stop (λ y e. a y (h y e))

term_on : (v : Visible) (x : Term) (s t : Env) → SeesTerm v x → AgreeOn v s t → term_value x s ≡ term_value x t
term_on v (Term.truth g) s t h a = ap Truth (holds_on v g s t h a)
term_on v (Term.number f) s t h a = ap (λ u. Num (finite_part u)) (value_on v f s t h a)

terms_on : (v : Visible) (es : List Term) (s t : Env) → SeesTerms v es → AgreeOn v s t → evaluate es s ≡ evaluate es t
terms_on v [] s t h a = refl
terms_on v (e ∷ es) s t h a = ap₂ (λ (x : Val) (xs : List Val). x ∷ xs) (term_on v e s t h.0 a) (terms_on v es s t h.1 a)

-- ---- Acts

pub same_cond : (b d : Bool) (x y z w : Value) → b ≡ d → x ≡ z → y ≡ w → cond b x y ≡ cond d z w
same_cond b d x y z w e f g = ap (λ t. cond t x y) e ∙ ap₂ (λ i j. cond d i j) f g

part_on : (v : Visible) (x : ℕ) (q : Rational × Term) (k : Post) → SeesTerm v q.1 → Respects (shown x v) k → Respects v (part x q k)
part_on v x q k h r s t c a = ap (λ u. finite q.0 *ᵛ u) (ap (λ w. k (put x w s) c) (term_on v q.1 s t h a) ∙ r (put x (term_value q.1 t) s) (put x (term_value q.1 t) t) c (put_on v x _ s t a))

parts_on : (v : Visible) (x : ℕ) (qs : List (Rational × Term)) (k : Post) → SeesParts v qs → Respects (shown x v) k → (total : Post) → Respects v total → Respects v (parts x qs k total)
parts_on v x [] k h r total z s t c a = z s t c a
parts_on v x (q ∷ qs) k h r total z s t c a = parts_on v x qs k h.1 r (λ r d. total r (left d) +ᵛ part x q k r (right d)) (λ s t d a. ap₂ (λ i j. i +ᵛ j) (z s t (left d) a) (part_on v x q k h.0 r s t (right d) a)) s t c a

drawn_on : (v : Visible) (x : ℕ) (qs : List (Rational × Term)) (k : Post) → SeesParts v qs → Respects (shown x v) k → Respects v (drawn x qs k)
drawn_on v x [] k h r s t c a = refl
drawn_on v x (q ∷ qs) k h r s t c a = parts_on v x qs k h.1 r (part x q k) (part_on v x q k h.0 r) s t c a

-- A loop whose head sees only visible variables.
module _ (up : Bool) (v : Visible) (h : Head) (si : Sees v h.inv) (sg : SeesCond v h.guard) (body : Post → Post) (car : (k : Post) → Respects v k → Respects v (body k)) (k : Post) (r : Respects v k) where
  once_on : (z : Post) → Respects v (body z) → Respects v (once body h k z)
  once_on z b s t c a = same_cond _ _ _ _ _ _ (holds_on v h.guard s t sg a) (b s t (right c) a) (r s t (right c) a)

  pub way_on : (j : ℕ) → Respects v (way up body h k j)
  way_on zero s t c a = value_on v h.inv s t si a
  way_on (suc j) s t c a = ap₂ (checked (meets up)) (value_on v h.inv s t si a) (once_on (way up body h k j) (car _ (way_on j)) s t (right c) a)

  pub blamed_on : (s t : Env) (c : Choices) → AgreeOn v s t → validated up (checked (may up) (value h.inv s Choices.stop) (once body h k (way up body h k (more h)) s c)) ≡ validated up (checked (may up) (value h.inv t Choices.stop) (once body h k (way up body h k (more h)) t c))
  blamed_on s t c a = ap (validated up) (ap₂ (checked (may up)) (value_on v h.inv s t si a) (once_on (way up body h k (more h)) (car _ (way_on (more h))) s t c a))

  pub blame_on : (types : Types) (xs : List ℕ) → Respects v (blame up types xs body h k)
  blame_on types xs s t c a = blamed_on (havoc types xs s c) (havoc types xs t c) (right (after xs c)) (λ y e. havoc-at types xs s t c y (a y e))

  pub loop_on : (types : Types) (b : Acts) → Respects v (loop_value up types h b body k)
  loop_on types b s t c a = ap₂ (checked (must up)) (value_on v h.inv s t si a) (blame_on types (modified h.scope b) s t (right c) a)

module _ (up : Bool) (ps : List TypedProcedure) (R : ℕ → Type 0) (p : TypedProcedure) where
  call_on : (v : Visible) (xs : List ℕ) (n : ℕ) (es : List Term) (k : Post) → Owns p xs (type_list (procedure_at ps n).outputs) → SeesTerms v es → Respects (shown_all xs v) k → Respects v (call_value up ps xs n es k)
  call_on v xs n es k o h r s t c a = ap (λ vs. checked (must up) (given (procedure_at ps n).pre vs) (call_blame up (procedure_at ps n) xs vs k s (right c))) (terms_on v es s t h a) ∙ ap (λ u. checked (must up) (given (procedure_at ps n).pre (evaluate es t)) (validated up (checked (may up) (given (procedure_at ps n).post (evaluate es t ++ picks (type_list (procedure_at ps n).outputs) (right c))) u))) (r _ _ _ (put_all_on p v xs (type_list (procedure_at ps n).outputs) _ s t o (picks_typed (type_list (procedure_at ps n).outputs) (right c)) a))

  mutual
    pub act_on : (a : Act) → ProgramAct up ps R p a → (v : Visible) → ScopedAct v a → (k : Post) → Respects (shown_by a v) k → Respects v (meaning_act up (types_of p) ps a k)
    act_on (Act.set x e span) w v m k r s t c a = ap (λ u. k (put x u s) c) (term_on v e s t m a) ∙ r (put x (term_value e t) s) (put x (term_value e t) t) c (put_on v x _ s t a)
    act_on (Act.draw x qs span) w v m k r s t c a = drawn_on v x qs k m r s t c a
    act_on (Act.toss x f span) w v m k r s t c a = ap (λ u. drawn x (flip_parts (finite_part (minᵛ u oneᵛ))) k s (past_products c)) (value_on v f s t m a) ∙ drawn_on v x (toss_parts f t) k ((λ y e. absurd (cc)), ((λ y e. absurd (cc)), tt)) r s t (past_products c) a
    act_on (Act.any x d ty span) w v m k r s t c a = r _ _ (left c) (put_on v x _ s t a)
    act_on (Act.reward f span) w v m k r s t c a = ap₂ (λ i j. i +ᵛ j) (r s t (left c) a) (value_on v f s t m a)
    act_on (Act.ifs arms e span) w v m k r s t c a = arms_on arms w.0 v m.0 k r (meaning up (types_of p) ps e k) (acts_on e w.1 v m.1 k r) s t c a
    act_on (Act.pick d x y span) w v m k r s t c a = ap₂ (picked d) (acts_on x w.1.0 v m.0 k r s t (left c) a) (acts_on y w.1.1 v m.1 k r s t (right c) a)
    act_on (Act.check kind f span) w v m k r s t c a = absurd w
    act_on (Act.validate co span) w v m k r s t c a = absurd w
    act_on (Act.loop h b) w v m k r s t c a = loop_on up v h m.1.0.0 m.1.0.1.0 (meaning up (types_of p) ps b) (acts_on b w.1 v m.1.1) k r (types_of p) b s t c a
    act_on (Act.call xs n es span) w v m k r s t c a = call_on v xs n es k w.1.0 m r s t c a

    pub acts_on : (b : Acts) → Program up ps R p b → (v : Visible) → Scoped v b → (k : Post) → Respects v k → Respects v (meaning up (types_of p) ps b k)
    acts_on Acts.done w v m k r s t c a = r s t c a
    acts_on (Acts.next x rest) w v m k r s t c a = act_on x w.0 v m.0 (meaning up (types_of p) ps rest k) (acts_on rest w.1 (shown_by x v) m.1 k (weaken v (shown_by x v) k (sub_act x v) r)) s t c a

    arms_on : (arms : Arms) → ProgramArms up ps R p arms → (v : Visible) → ScopedArms v arms → (k : Post) → Respects v k → (z : Post) → Respects v z → Respects v (meant_arms (loop_value up (types_of p)) (call_value up ps) arms k z)
    arms_on Arms.no_arm w v m k r z q s t c a = q s t c a
    arms_on (Arms.arm g b more) w v m k r z q s t c a = same_cond _ _ _ _ _ _ (holds_on v g s t m.0 a) (acts_on b w.1.0 v m.1.0 k r s t (right c) a) (arms_on more w.1.1 v m.1.1 k r z q s t (right c) a)
