-- Runs depend neither on the rules of loops nor on places.
use Rattle.std.proofs.Common.{◌≡◌, ◌∙◌, ◌==◌, ℕ, refl, sym, ap, ap₂, subst, Bool, true, false, cond, List, [], ◌∷◌, map}
use Rattle.std.specs.Prelude.{Option, Some, None, not, ◌&&◌, ◌||◌, length, set, if◌then◌else◌}
use Prim.Native.Nat.{zero, suc}
use Rattle.heyvl_num.specs.Rational.{Rational}
use Rattle.heyvl_num.specs.Value.{Value, zeroᵛ, oneᵛ, leqᵛ, ◌+ᵛ◌, ◌*ᵛ◌}
use Rattle.heyvl_num.specs.Value.Value.{finite, infinite}
use Rattle.heyvl_num.specs.ValueOperators.{minᵛ, maxᵛ, impliesᵛ, coimpliesᵛ, monusᵛ}
use Rattle.heyvl_num.specs.WeightedSums.{weighted_sum}
use Rattle.heyvl_num.proofs.exported.Values.{<ᵛ-not}
use Rattle.heylo_formula.specs.Choices.{Choices, here, left, right}
use Rattle.heylo_formula.specs.Formula.{Form, Cond, Term}
use Rattle.heylo_formula.specs.Goals.{Compares}
use Rattle.heylo_formula.specs.Meaning.{value, holds, term_value}
use Rattle.heylo_formula.specs.Operators.{differenceᵛ, validateᵛ, covalidateᵛ, lessᵛ, equalᵛ, agree, finite_part}
use Rattle.heylo_formula.specs.State.{Env, put, fit, environment}
use Rattle.heylo_formula.specs.declared.types.Ty.{Ty}
use Rattle.heylo_formula.specs.declared.values.Val.{Val}
use Rattle.heylo_formula.specs.declared.values.Val.TheVariants.{Truth, Num}
use Rattle.heyvl_acts.specs.Acts.{Head, Act, Acts, Arms, TypedProcedure, type_list, acts_in, procedure_at}
use Rattle.heyvl_acts.specs.Matching.{taken}
use Rattle.heyvl_acts.specs.Tosses.{flip_parts, toss_parts}
use Rattle.run_machine.specs.Bound.{Bound, BoundBy, IsState}
use Rattle.run_machine.specs.Configurations.{Item, Frame, Config, running, push, evaluate, set_all, outs, callee_items, first_state, outputs_of, begin}
use Rattle.run_machine.specs.Runs.{runs, onward}
use Rattle.run_machine.specs.Scheduler.{Tree, decision, under}
use Rattle.run_machine.specs.Step.{Decision, side_of, sure, branches, test, one_more, counted, step_act, step_back, step_item, moved, turned, waiting, called}
use Rattle.run_machine.specs.Sums.{ended, worth, sum_of}
use Rattle.run_machine.proofs.exported.Equations.{runs-zero, runs-next, worth-one}
use Rattle.run_laws.specs.Bare.{bare_form, bare_cond, bare_term, bare_part, bare_head, bare_act, bare, bare_arms, bare_body, bare_procedure, bare_procedures}
use Rattle.run_laws.specs.Violations.{SumsAreBare, RulesDoNotRun, ViolationsRefute}
use Rattle.run_laws.proofs.exported.SideBySide.{Both, both_spread}

-- ---- Values

abbrev three : {A : Type 0} (b d : Bool) (x y z w : A) → b ≡ d → x ≡ z → y ≡ w → cond b x y ≡ cond d z w
three b d x y z w e f g = ap (λ u. cond u x y) e ∙ ap₂ (λ u v. cond d u v) f g

mutual
  same_value : (f : Form) (s : Env) (c : Choices) → value (bare_form f) s c ≡ value f s c
  same_value (Form.number v) s c = refl
  same_value (Form.variable x) s c = refl
  same_value (Form.sum a b) s c = ap₂ (λ x y. x +ᵛ y) (same_value a s (left c)) (same_value b s (right c))
  same_value (Form.difference a b) s c = ap₂ differenceᵛ (same_value a s (left c)) (same_value b s (right c))
  same_value (Form.cut a b) s c = ap₂ monusᵛ (same_value a s (left c)) (same_value b s (right c))
  same_value (Form.scale w a) s c = ap (λ x. finite w *ᵛ x) (same_value a s c)
  same_value (Form.product a b span) s c = ap₂ (λ x y. x *ᵛ y) (same_value a s (left c)) (same_value b s (right c))
  same_value (Form.min a b) s c = ap₂ minᵛ (same_value a s (left c)) (same_value b s (right c))
  same_value (Form.max a b) s c = ap₂ maxᵛ (same_value a s (left c)) (same_value b s (right c))
  same_value (Form.imply a b) s c = ap₂ impliesᵛ (same_value a s (left c)) (same_value b s (right c))
  same_value (Form.co_imply a b) s c = ap₂ coimpliesᵛ (same_value a s (left c)) (same_value b s (right c))
  same_value (Form.validate a) s c = ap validateᵛ (same_value a s c)
  same_value (Form.co_validate a) s c = ap covalidateᵛ (same_value a s c)
  same_value (Form.embed g) s c = ap (λ b. cond b infinite zeroᵛ) (same_truth g s c)
  same_value (Form.iverson g) s c = ap (λ b. cond b oneᵛ zeroᵛ) (same_truth g s c)
  same_value (Form.select g a b) s c = three _ _ _ _ _ _ (same_truth g s (left c)) (same_value a s (right c)) (same_value b s (right c))
  same_value (Form.bind up x name ty a) s c = same_value a (put x (fit ty (here c)) s) (left c)

  same_truth : (g : Cond) (s : Env) (c : Choices) → holds (bare_cond g) s c ≡ holds g s c
  same_truth (Cond.constant b) s c = refl
  same_truth (Cond.flag x) s c = refl
  same_truth (Cond.not g) s c = ap not (same_truth g s c)
  same_truth (Cond.and g h) s c = ap₂ (λ x y. x && y) (same_truth g s (left c)) (same_truth h s (right c))
  same_truth (Cond.or g h) s c = ap₂ (λ x y. x || y) (same_truth g s (left c)) (same_truth h s (right c))
  same_truth (Cond.same g h) s c = ap₂ agree (same_truth g s (left c)) (same_truth h s (right c))
  same_truth (Cond.le a b) s c = ap₂ leqᵛ (same_value a s (left c)) (same_value b s (right c))
  same_truth (Cond.lt a b) s c = ap₂ lessᵛ (same_value a s (left c)) (same_value b s (right c))
  same_truth (Cond.equal a b) s c = ap₂ equalᵛ (same_value a s (left c)) (same_value b s (right c))
  same_truth (Cond.ite g h k) s c = three _ _ _ _ _ _ (same_truth g s (left c)) (same_truth h s (right c)) (same_truth k s (right c))

same_term : (t : Term) (s : Env) → term_value (bare_term t) s ≡ term_value t s
same_term (Term.truth g) s = ap Truth (same_truth g s Choices.stop)
same_term (Term.number f) s = ap (λ v. Num (finite_part v)) (same_value f s Choices.stop)

same_arguments : (es : List Term) (s : Env) → evaluate (map bare_term es) s ≡ evaluate es s
same_arguments [] s = refl
same_arguments (e ∷ es) s = ap₂ (λ v vs. v ∷ vs) (same_term e s) (same_arguments es s)

-- ---- Configurations

abbrev bare_item : Item → Item
bare_item (Item.act a) = Item.act (bare_act a)
bare_item (Item.turn h b) = Item.turn (bare_head h) (bare b)
bare_item (Item.out x ty) = Item.out x ty
bare_item Item.back = Item.back

abbrev bare_items : List Item → List Item
bare_items [] = []
bare_items (i ∷ is) = bare_item i ∷ bare_items is

abbrev bare_frame : Frame → Frame
bare_frame f = record { items = bare_items f.items; state = f.state; targets = f.targets; callee = f.callee }

abbrev bare_frames : List Frame → List Frame
bare_frames [] = []
bare_frames (f ∷ fs) = bare_frame f ∷ bare_frames fs

abbrev bare_config : Config → Config
bare_config c = record { procedure = c.procedure; items = bare_items c.items; frames = bare_frames c.frames; state = c.state; reward = c.reward; turns = c.turns }

bare_push : (b : Acts) (is : List Item) → push (bare b) (bare_items is) ≡ bare_items (push b is)
bare_push Acts.done is = refl
bare_push (Acts.next a rest) is = ap (λ js. Item.act (bare_act a) ∷ js) (bare_push rest is)

bare_taken : (arms : Arms) (e : Acts) (s : Env) → taken (bare_arms arms) (bare e) s ≡ bare (taken arms e s)
bare_taken Arms.no_arm e s = refl
bare_taken (Arms.arm g b more) e s = ap (λ t. cond t (bare b) (taken (bare_arms more) (bare e) s)) (same_truth g s Choices.stop) ∙ (ap (λ r. cond (holds g s Choices.stop) (bare b) r) (bare_taken more e s) ∙ either (holds g s Choices.stop))
  where
    either : (t : Bool) → cond t (bare b) (bare (taken more e s)) ≡ bare (cond t b (taken more e s))
    either true = refl
    either false = refl

bare_at : (ps : List TypedProcedure) (n : ℕ) → procedure_at (bare_procedures ps) n ≡ bare_procedure (procedure_at ps n)
bare_at [] n = refl
bare_at (p ∷ ps) zero = refl
bare_at (p ∷ ps) (suc n) = bare_at ps n

bare_running : (p : ℕ) (fs : List Frame) → running p (bare_frames fs) ≡ running p fs
bare_running p [] = refl
bare_running p (f ∷ fs) = refl

bare_acts_in : (o : Option Acts) → acts_in (bare_body o) ≡ bare (acts_in o)
bare_acts_in (Some acts) = refl
bare_acts_in None = refl

bare_outs : (n : ℕ) (tys : List Ty) (is : List Item) → outs n tys (bare_items is) ≡ bare_items (outs n tys is)
bare_outs n [] is = refl
bare_outs n (t ∷ tys) is = ap (λ js. Item.out n t ∷ js) (bare_outs (suc n) tys is)

bare_callee : (p : TypedProcedure) → callee_items (bare_procedure p) ≡ bare_items (callee_items p)
bare_callee p = ap (λ is. outs (length p.inputs) (type_list p.outputs) is) (ap (λ b. push b (Item.back ∷ [])) (bare_acts_in p.body) ∙ bare_push (acts_in p.body) (Item.back ∷ [])) ∙ bare_outs (length p.inputs) (type_list p.outputs) (push (acts_in p.body) (Item.back ∷ []))

module _ (ps : List TypedProcedure) where
  -- The second configuration is the first one without rules and places.
  abbrev IsBare : Config → Config → Type 0
  IsBare c e = e ≡ bare_config c

  one : (c e : Config) → IsBare c e → Both IsBare (sure c) (sure e)
  one c e h = ((refl, h), tt)

  -- The configuration with other items, frames, state and iterations.
  abbrev with : Config → List Item → List Frame → List Val → Value → (ℕ → ℕ) → Config
  with c is fs s v turns = record { procedure = c.procedure; items = is; frames = fs; state = s; reward = v; turns = turns }

  with_items : (c : Config) (is js : List Item) (s : List Val) → is ≡ js → with c is (bare_frames c.frames) s c.reward c.turns ≡ with c js (bare_frames c.frames) s c.reward c.turns
  with_items c is js s e = ap (λ l. with c l (bare_frames c.frames) s c.reward c.turns) e

  module _ (is : List Item) (c : Config) where
    bare_branches : (x : ℕ) (qs : List (Rational × Term)) → Both IsBare (branches c is x qs) (branches (bare_config c) (bare_items is) x (map bare_part qs))
    bare_branches x [] = tt
    bare_branches x (q ∷ qs) = ((refl, ap (λ v. with c (bare_items is) (bare_frames c.frames) (set c.state x v) c.reward c.turns) (same_term q.1 (environment c.state))), bare_branches x qs)

    bare_counted : (n : ℕ) → counted (bare_config c) n ≡ counted c n
    bare_counted n = ap (λ k. if k == c.procedure then one_more n c.turns else c.turns) (bare_running c.procedure c.frames)

    bare_test : (h : Head) (b : Acts) → Both IsBare (test c is h b) (test (bare_config c) (bare_items is) (bare_head h) (bare b))
    bare_test h b = subst (λ t. Both IsBare (test c is h b) (cond t (sure (turned (bare_config c) (push (bare b) (Item.turn (bare_head h) (bare b) ∷ bare_items is)) h.number)) (sure (moved (bare_config c) (bare_items is) c.state)))) (sym (same_truth h.guard (environment c.state) Choices.stop)) (go (holds h.guard (environment c.state) Choices.stop))
      where
        go : (t : Bool) → Both IsBare (cond t (sure (turned c (push b (Item.turn h b ∷ is)) h.number)) (sure (moved c is c.state))) (cond t (sure (turned (bare_config c) (push (bare b) (Item.turn (bare_head h) (bare b) ∷ bare_items is)) h.number)) (sure (moved (bare_config c) (bare_items is) c.state)))
        go true = one _ _ (ap₂ (λ l turns. with c l (bare_frames c.frames) c.state c.reward turns) (bare_push b (Item.turn h b ∷ is)) (bare_counted h.number))
        go false = one _ _ refl

    bare_back : (fs : List Frame) → Both IsBare (step_back ps is c fs) (step_back (bare_procedures ps) (bare_items is) (bare_config c) (bare_frames fs))
    bare_back [] = one _ _ refl
    bare_back (f ∷ fs) = one _ _ (ap (λ (q : TypedProcedure). with c (bare_items f.items) (bare_frames fs) (set_all f.targets (outputs_of q c.state) f.state) c.reward c.turns) (bare_at ps f.callee))

    either_side : (a b : Acts) (t : Bool) → cond t (bare a) (bare b) ≡ bare (cond t a b)
    either_side a b true = refl
    either_side a b false = refl

    bare_called : (xs : List ℕ) (n : ℕ) (es : List Term) → IsBare (called c is xs n (procedure_at ps n) (evaluate es (environment c.state))) (called (bare_config c) (bare_items is) xs n (procedure_at (bare_procedures ps) n) (evaluate (map bare_term es) (environment c.state)))
    bare_called xs n es = ap₂ (λ (q : TypedProcedure) vs. called (bare_config c) (bare_items is) xs n q vs) (bare_at ps n) (same_arguments es (environment c.state)) ∙ ap (λ l. with c l (bare_frame (waiting c is xs n) ∷ bare_frames c.frames) (first_state (procedure_at ps n) (evaluate es (environment c.state))) c.reward c.turns) (bare_callee (procedure_at ps n))

    bare_step : (a : Act) (d : Decision) → Both IsBare (step_act ps a is c d) (step_act (bare_procedures ps) (bare_act a) (bare_items is) (bare_config c) d)
    bare_step (Act.set x t span) d = one _ _ (ap (λ v. with c (bare_items is) (bare_frames c.frames) (set c.state x v) c.reward c.turns) (same_term t (environment c.state)))
    bare_step (Act.draw x qs span) d = bare_branches x qs
    bare_step (Act.toss x f span) d = subst (λ w. Both IsBare (branches c is x (toss_parts f (environment c.state))) (branches (bare_config c) (bare_items is) x (flip_parts w))) (sym (ap (λ v. finite_part (minᵛ v oneᵛ)) (same_value f (environment c.state) Choices.stop))) (bare_branches x (toss_parts f (environment c.state)))
    bare_step (Act.any x up ty span) d = one _ _ refl
    bare_step (Act.reward f span) d = one _ _ (ap (λ v. with c (bare_items is) (bare_frames c.frames) c.state (c.reward +ᵛ v) c.turns) (same_value f (environment c.state) Choices.stop))
    bare_step (Act.ifs arms e span) d = one _ _ (with_items c _ _ c.state (ap (λ b. push b (bare_items is)) (bare_taken arms e (environment c.state)) ∙ bare_push (taken arms e (environment c.state)) is))
    bare_step (Act.pick up a b span) d = one _ _ (with_items c _ _ c.state (ap (λ b. push b (bare_items is)) (either_side a b (side_of d)) ∙ bare_push (cond (side_of d) a b) is))
    bare_step (Act.check kind f span) d = one _ _ refl
    bare_step (Act.validate co span) d = one _ _ refl
    bare_step (Act.loop h b) d = bare_test h b
    bare_step (Act.call xs n es span) d = one (called c is xs n (procedure_at ps n) (evaluate es (environment c.state))) (called (bare_config c) (bare_items is) xs n (procedure_at (bare_procedures ps) n) (evaluate (map bare_term es) (environment c.state))) (bare_called xs n es)

    bare_step_item : (i : Item) (d : Decision) → Both IsBare (step_item ps i is c d) (step_item (bare_procedures ps) (bare_item i) (bare_items is) (bare_config c) d)
    bare_step_item (Item.act a) d = bare_step a d
    bare_step_item (Item.turn h b) d = bare_test h b
    bare_step_item (Item.out x ty) d = one _ _ refl
    bare_step_item Item.back d = bare_back c.frames

  -- ---- Sums

  bare_ended : (up : Bool) (post : Form) (is : List Item) (s : List Val) → ended up post is s ≡ ended up (bare_form post) (bare_items is) s
  bare_ended up post [] s = sym (same_value post (environment s) Choices.stop)
  bare_ended up post (i ∷ is) s = refl

  bare_worth : (up : Bool) (post : Form) (c : Config) → worth up post c ≡ worth up (bare_form post) (bare_config c)
  bare_worth true post c = ap (λ v. c.reward +ᵛ v) (bare_ended true post c.items c.state)
  bare_worth false post c = bare_ended false post c.items c.state

  bare_runs : (up : Bool) (post : Form) (n : ℕ) (c : Config) (t : Tree) → sum_of up post (runs ps n c t) ≡ sum_of up (bare_form post) (runs (bare_procedures ps) n (bare_config c) t)
  bare_runs up post zero c t = ap (weighted_sum (worth up post)) (runs-zero ps c t) ∙ (worth-one (worth up post) c ∙ (bare_worth up post c ∙ sym (ap (weighted_sum (worth up (bare_form post))) (runs-zero (bare_procedures ps) (bare_config c) t) ∙ worth-one (worth up (bare_form post)) (bare_config c))))
  bare_runs up post (suc n) c t = ap (weighted_sum (worth up post)) (runs-next ps n c t) ∙ (go c.items (λ e k. bare_runs up post n e k) ∙ sym (ap (weighted_sum (worth up (bare_form post))) (runs-next (bare_procedures ps) n (bare_config c) t)))
    where
      go : (is : List Item) → ((e : Config) (k : Tree) → sum_of up post (runs ps n e k) ≡ sum_of up (bare_form post) (runs (bare_procedures ps) n (bare_config e) k)) → weighted_sum (worth up post) (onward ps (runs ps n) is c t) ≡ weighted_sum (worth up (bare_form post)) (onward (bare_procedures ps) (runs (bare_procedures ps) n) (bare_items is) (bare_config c) t)
      go [] ih = worth-one (worth up post) c ∙ (bare_worth up post c ∙ sym (worth-one (worth up (bare_form post)) (bare_config c)))
      go (i ∷ is) ih = both_spread ps (bare_procedures ps) (worth up post) (worth up (bare_form post)) IsBare n (λ a e k h. ih a k ∙ ap (λ (x : Config). sum_of up (bare_form post) (runs (bare_procedures ps) n x k)) (sym h)) _ _ (under t) (bare_step_item is c i (decision t))

  bare_begin : (p : ℕ) (s : List Val) → bare_config (begin ps p s) ≡ begin (bare_procedures ps) p s
  bare_begin p s = ap (λ (l : List Item). record { procedure = p; items = l; frames = []; state = s; reward = zeroᵛ; turns = λ k. 0 }) (sym (bare_push (acts_in (procedure_at ps p).body) []) ∙ (ap (λ b. push b []) (sym (bare_acts_in (procedure_at ps p).body)) ∙ ap (λ (q : TypedProcedure). push (acts_in q.body) []) (sym (bare_at ps p))))

  -- The bounds of the procedure and of the bare procedure are the same.
  bare_sums : (up : Bool) (p n : ℕ) (s : List Val) (t : Tree) → sum_of up (procedure_at ps p).post (runs ps n (begin ps p s) t) ≡ sum_of up (procedure_at (bare_procedures ps) p).post (runs (bare_procedures ps) n (begin (bare_procedures ps) p s) t)
  bare_sums up p n s t = bare_runs up (procedure_at ps p).post n (begin ps p s) t ∙ ap₂ (λ f (c : Config). sum_of up f (runs (bare_procedures ps) n c t)) (ap (λ (q : TypedProcedure). q.post) (sym (bare_at ps p))) (bare_begin p s)

  bare_pre : (p : ℕ) (s : List Val) → value (procedure_at ps p).pre (environment s) Choices.stop ≡ value (procedure_at (bare_procedures ps) p).pre (environment s) Choices.stop
  bare_pre p s = sym (same_value (procedure_at ps p).pre (environment s) Choices.stop) ∙ ap (λ (q : TypedProcedure). value q.pre (environment s) Choices.stop) (sym (bare_at ps p))

  bare_compares : (up : Bool) (p n : ℕ) (s : List Val) (t : Tree) → Compares up (value (procedure_at ps p).pre (environment s) Choices.stop) (sum_of up (procedure_at ps p).post (runs ps n (begin ps p s) t)) ≡ Compares up (value (procedure_at (bare_procedures ps) p).pre (environment s) Choices.stop) (sum_of up (procedure_at (bare_procedures ps) p).post (runs (bare_procedures ps) n (begin (bare_procedures ps) p s) t))
  bare_compares up p n s t = ap₂ (λ x y. Compares up x y) (bare_pre p s) (bare_sums up p n s t)

to_bare : (ps : List TypedProcedure) (p : ℕ) → Bound ps p → Bound (bare_procedures ps) p
to_bare ps p h = subst (λ b. BoundBy b (bare_procedures ps) p) (ap (λ (q : TypedProcedure). q.co) (sym (bare_at ps p))) (λ s st n t. subst (λ X. X) (bare_compares ps (procedure_at ps p).co p n s t) (h s (subst (λ (q : TypedProcedure). IsState q s) (bare_at ps p) st) n t))

from_bare : (ps : List TypedProcedure) (p : ℕ) → Bound (bare_procedures ps) p → Bound ps p
from_bare ps p h s st n t = subst (λ X. X) (sym (bare_compares ps (procedure_at ps p).co p n s t)) ((subst (λ b. BoundBy b (bare_procedures ps) p) (ap (λ (q : TypedProcedure). q.co) (bare_at ps p)) h) s (subst (λ (q : TypedProcedure). IsState q s) (sym (bare_at ps p)) st) n t)

pub sums_are_bare : SumsAreBare
sums_are_bare ps up p n s t = bare_sums ps up p n s t

pub rules_do_not_run : RulesDoNotRun
rules_do_not_run ps qs e p h = from_bare ps p (subst (λ rs. Bound rs p) (sym e) (to_bare qs p h))

pub violations_refute : ViolationsRefute
violations_refute ps qs e p co s st n t above h = <ᵛ-not _ _ above ((subst (λ b. BoundBy b ps p) co (rules_do_not_run ps qs e p h)) s st n t)
