-- Intermediate states of the encoding of acts, and of the arms of an if.
use Rattle.std.proofs.Common.{◌≡◌, ◌≤◌, ◌<◌, ◌+◌, ℕ, refl, sym, ap, subst, ◌∙◌, arith, List, [], ◌∷◌, ◌++◌, length, get_or, drop, append_assoc, append-nil}
use Rattle.std.proofs.lemmas.List.{length-append, drop_all}
use Rattle.std.specs.Prelude.{Vec}
use Rattle.std.specs.declared.alloc.Global.{Global}
use Rattle.heylo_formula.specs.declared.forms.Cond as C
use Rattle.heylo_formula.specs.Formula.{Cond}
use Rattle.heylo_formula.specs.PlainTrees.{cond_of}
use Rattle.heyvl_acts.specs.declared.acts.Act as A
use Rattle.heyvl_acts.specs.Acts.{Act, Acts, Arms, TypedProcedure, Variable, join}
use Rattle.heyvl_acts.specs.PlainActs.{act_of, acts_of, arms_of}
use Rattle.loop_encodings.specs.Encoding.{encoded, encoded_act, encoded_arms}
use Rattle.loop_encodings.specs.Fresh.{fresh, fresh_of_act, fresh_of_arms}
use Rattle.loop_encodings.specs.internal.Ready.{AreReady, IsReady, AreReadyArms}
use Rattle.loop_encodings.proofs.AppendedActs.{join_nothing, join_twice, left_over}

-- The arms of one list, then those of another.
abbrev pub then_arms : Arms → Arms → Arms
then_arms Arms.no_arm rest = rest
then_arms (Arms.arm g b more) rest = Arms.arm g b (then_arms more rest)

then_none : (arms : Arms) → then_arms arms Arms.no_arm ≡ arms
then_none Arms.no_arm = refl
then_none (Arms.arm g b more) = ap (λ r. Arms.arm g b r) (then_none more)

then_twice : (a b c : Arms) → then_arms (then_arms a b) c ≡ then_arms a (then_arms b c)
then_twice Arms.no_arm b c = refl
then_twice (Arms.arm g d more) b c = ap (λ r. Arms.arm g d r) (then_twice more b c)

arms_of-append : (xs : List (C.Cond × Vec A.Act Global)) (x : C.Cond × Vec A.Act Global) → arms_of (xs ++ x ∷ []) ≡ then_arms (arms_of xs) (Arms.arm (cond_of x.0) (acts_of x.1.items) Arms.no_arm)
arms_of-append [] x = refl
arms_of-append (y ∷ xs) x = ap (λ r. Arms.arm (cond_of y.0) (acts_of y.1.items) r) (arms_of-append xs x)

-- The encoding so far, from the variables `start` on, and the encodings of the acts that are left
-- make the encoding of all acts.
pub record Acting (ps : List TypedProcedure) (p : TypedProcedure) (start now : List Variable) (all made left : Acts) : Type 0 where
  pub acts : join made (encoded ps p (length now) left) ≡ encoded ps p (length start) all
  pub vars : now ++ fresh ps left ≡ start ++ fresh ps all
  pub ready : AreReady ps p left

pub record Arming (ps : List TypedProcedure) (p : TypedProcedure) (start now : List Variable) (all made left : Arms) : Type 0 where
  pub arms : then_arms made (encoded_arms ps p (length now) left) ≡ encoded_arms ps p (length start) all
  pub vars : now ++ fresh_of_arms ps left ≡ start ++ fresh_of_arms ps all
  pub ready : AreReadyArms ps p left

module _ (ps : List TypedProcedure) (p : TypedProcedure) (start vars : List Variable) where
  same_room : (here all : List Variable) (n : ℕ) → vars ++ here ≡ start ++ all → length start + length all ≤ n → length vars + length here ≤ n
  same_room here all n e room = let a = length-append vars here in let b = length-append start all in let c = ap (λ (l : List Variable). length l) e in omega (arith, a, b, c, room)

  pub acting_room : (all made left : Acts) (n : ℕ) → Acting ps p start vars all made left → length start + length (fresh ps all) ≤ n → length vars + length (fresh ps left) ≤ n
  acting_room all made left n h room = same_room (fresh ps left) (fresh ps all) n h.vars room

  pub arming_room : (all made left : Arms) (n : ℕ) → Arming ps p start vars all made left → length start + length (fresh_of_arms ps all) ≤ n → length vars + length (fresh_of_arms ps left) ≤ n
  arming_room all made left n h room = same_room (fresh_of_arms ps left) (fresh_of_arms ps all) n h.vars room

  pub acting_next : (all made made' rest : Acts) (a : Act) (vars' : List Variable) → Acting ps p start vars all made (Acts.next a rest) → made' ≡ join made (encoded_act ps p (length vars) a) → vars' ≡ vars ++ fresh_of_act ps a → Acting ps p start vars' all made' rest
  acting_next all made made' rest a vars' h e f = record {
    acts = ap (λ m. join m (encoded ps p (length vars') rest)) e ∙ (ap (λ n. join (join made (encoded_act ps p (length vars) a)) (encoded ps p n rest)) (ap (λ (l : List Variable). length l) f ∙ length-append vars (fresh_of_act ps a)) ∙ (join_twice made (encoded_act ps p (length vars) a) (encoded ps p (length vars + length (fresh_of_act ps a)) rest) ∙ h.acts));
    vars = ap (λ l. l ++ fresh ps rest) f ∙ (append_assoc vars (fresh_of_act ps a) (fresh ps rest) ∙ h.vars);
    ready = h.ready.1;
  }

  pub arming_next : (all made made' more : Arms) (g : Cond) (b d : Acts) (vars' : List Variable) → Arming ps p start vars all made (Arms.arm g b more) → made' ≡ then_arms made (Arms.arm g d Arms.no_arm) → d ≡ encoded ps p (length vars) b → vars' ≡ vars ++ fresh ps b → Arming ps p start vars' all made' more
  arming_next all made made' more g b d vars' h e block f = record {
    arms = ap (λ m. then_arms m (encoded_arms ps p (length vars') more)) e
        ∙ (then_twice made (Arms.arm g d Arms.no_arm) (encoded_arms ps p (length vars') more)
        ∙ (ap (λ x. then_arms made (Arms.arm g x (encoded_arms ps p (length vars') more))) block
        ∙ (ap (λ n. then_arms made (Arms.arm g (encoded ps p (length vars) b) (encoded_arms ps p n more))) (ap (λ (l : List Variable). length l) f ∙ length-append vars (fresh ps b))
        ∙ h.arms)));
    vars = ap (λ l. l ++ fresh_of_arms ps more) f ∙ (append_assoc vars (fresh ps b) (fresh_of_arms ps more) ∙ h.vars);
    ready = h.ready.1;
  }

  pub acting_end : (all made : Acts) → Acting ps p start vars all made Acts.done → (made ≡ encoded ps p (length start) all) × (vars ≡ start ++ fresh ps all)
  acting_end all made h = (sym (join_nothing made) ∙ h.acts, sym (append-nil vars) ∙ h.vars)

  pub arming_end : (all made : Arms) → Arming ps p start vars all made Arms.no_arm → (made ≡ encoded_arms ps p (length start) all) × (vars ≡ start ++ fresh_of_arms ps all)
  arming_end all made h = (sym (then_none made) ∙ h.arms, sym (append-nil vars) ∙ h.vars)

-- ---- The lists of the program

abbrev pub Turns : List TypedProcedure → TypedProcedure → List Variable → List Variable → List A.Act → List A.Act → ℕ → Type 0
Turns ps p start vars all made i = Acting ps p start vars (acts_of all) (acts_of made) (acts_of (drop i all))

abbrev pub ArmTurns : List TypedProcedure → TypedProcedure → List Variable → List Variable → List (C.Cond × Vec A.Act Global) → List (C.Cond × Vec A.Act Global) → ℕ → Type 0
ArmTurns ps p start vars all made i = Arming ps p start vars (arms_of all) (arms_of made) (arms_of (drop i all))

module _ (ps : List TypedProcedure) (p : TypedProcedure) (start : List Variable) where
  pub turns_start : (all : List A.Act) (made : List A.Act) → made ≡ [] → AreReady ps p (acts_of all) → Turns ps p start start all made 0
  turns_start all made e ready = record { acts = ap (λ l. join (acts_of l) (encoded ps p (length start) (acts_of all))) e; vars = refl; ready = ready }

  pub arms_start : (all made : List (C.Cond × Vec A.Act Global)) → made ≡ [] → AreReadyArms ps p (arms_of all) → ArmTurns ps p start start all made 0
  arms_start all made e ready = record { arms = ap (λ l. then_arms (arms_of l) (encoded_arms ps p (length start) (arms_of all))) e; vars = refl; ready = ready }

  module _ (vars vars' : List Variable) (i : ℕ) where
    here : (all made : List A.Act) (a : A.Act) → i < length all → a ≡ get_or all i a → Turns ps p start vars all made i → Acting ps p start vars (acts_of all) (acts_of made) (Acts.next (act_of a) (acts_of (drop (i + 1) all)))
    here all made a lt is h = subst (λ l. Acting ps p start vars (acts_of all) (acts_of made) (acts_of l)) (left_over all i a lt is) h

    pub turn_ready : (all made : List A.Act) (a : A.Act) → i < length all → a ≡ get_or all i a → Turns ps p start vars all made i → IsReady ps p (act_of a)
    turn_ready all made a lt is h = (here all made a lt is h).ready.0

    pub turn_room : (all made : List A.Act) (a : A.Act) (n : ℕ) → i < length all → a ≡ get_or all i a → Turns ps p start vars all made i → length start + length (fresh ps (acts_of all)) ≤ n → length vars + length (fresh_of_act ps (act_of a)) ≤ n
    turn_room all made a n lt is h room =
        let r = acting_room ps p start vars (acts_of all) (acts_of made) (Acts.next (act_of a) (acts_of (drop (i + 1) all))) n (here all made a lt is h) room in
        let s = length-append (fresh_of_act ps (act_of a)) (fresh ps (acts_of (drop (i + 1) all))) in
        omega (arith, r, s)

    pub turn_more : (all made made' : List A.Act) (a : A.Act) → i < length all → a ≡ get_or all i a → Turns ps p start vars all made i → acts_of made' ≡ join (acts_of made) (encoded_act ps p (length vars) (act_of a)) → vars' ≡ vars ++ fresh_of_act ps (act_of a) → Turns ps p start vars' all made' (i + 1)
    turn_more all made made' a lt is h e f = acting_next ps p start vars (acts_of all) (acts_of made) (acts_of made') (acts_of (drop (i + 1) all)) (act_of a) vars' (here all made a lt is h) e f

    pub turns_end : (all made : List A.Act) → length all ≤ i → Turns ps p start vars all made i → (acts_of made ≡ encoded ps p (length start) (acts_of all)) × (vars ≡ start ++ fresh ps (acts_of all))
    turns_end all made le h = acting_end ps p start vars (acts_of all) (acts_of made) (subst (λ l. Acting ps p start vars (acts_of all) (acts_of made) (acts_of l)) (drop_all i all le) h)

    at_arm : (all made : List (C.Cond × Vec A.Act Global)) (a : C.Cond × Vec A.Act Global) → i < length all → a ≡ get_or all i a → ArmTurns ps p start vars all made i → Arming ps p start vars (arms_of all) (arms_of made) (Arms.arm (cond_of a.0) (acts_of a.1.items) (arms_of (drop (i + 1) all)))
    at_arm all made a lt is h = subst (λ l. Arming ps p start vars (arms_of all) (arms_of made) (arms_of l)) (left_over all i a lt is) h

    pub arm_ready : (all made : List (C.Cond × Vec A.Act Global)) (a : C.Cond × Vec A.Act Global) → i < length all → a ≡ get_or all i a → ArmTurns ps p start vars all made i → AreReady ps p (acts_of a.1.items)
    arm_ready all made a lt is h = (at_arm all made a lt is h).ready.0

    pub arm_room : (all made : List (C.Cond × Vec A.Act Global)) (a : C.Cond × Vec A.Act Global) (n : ℕ) → i < length all → a ≡ get_or all i a → ArmTurns ps p start vars all made i → length start + length (fresh_of_arms ps (arms_of all)) ≤ n → length vars + length (fresh ps (acts_of a.1.items)) ≤ n
    arm_room all made a n lt is h room =
        let r = arming_room ps p start vars (arms_of all) (arms_of made) (Arms.arm (cond_of a.0) (acts_of a.1.items) (arms_of (drop (i + 1) all))) n (at_arm all made a lt is h) room in
        let s = length-append (fresh ps (acts_of a.1.items)) (fresh_of_arms ps (arms_of (drop (i + 1) all))) in
        omega (arith, r, s)

    pub arm_more : (all made made' : List (C.Cond × Vec A.Act Global)) (a d : C.Cond × Vec A.Act Global) → i < length all → a ≡ get_or all i a → ArmTurns ps p start vars all made i → made' ≡ made ++ d ∷ [] → cond_of d.0 ≡ cond_of a.0 → acts_of d.1.items ≡ encoded ps p (length vars) (acts_of a.1.items) → vars' ≡ vars ++ fresh ps (acts_of a.1.items) → ArmTurns ps p start vars' all made' (i + 1)
    arm_more all made made' a d lt is h e guard block f = arming_next ps p start vars (arms_of all) (arms_of made) (arms_of made') (arms_of (drop (i + 1) all)) (cond_of a.0) (acts_of a.1.items) (acts_of d.1.items) vars' (at_arm all made a lt is h) (ap arms_of e ∙ (arms_of-append made d ∙ ap (λ g. then_arms (arms_of made) (Arms.arm g (acts_of d.1.items) Arms.no_arm)) guard)) block f

    pub arms_end : (all made : List (C.Cond × Vec A.Act Global)) → length all ≤ i → ArmTurns ps p start vars all made i → (arms_of made ≡ encoded_arms ps p (length start) (arms_of all)) × (vars ≡ start ++ fresh_of_arms ps (arms_of all))
    arms_end all made le h = arming_end ps p start vars (arms_of all) (arms_of made) (subst (λ l. Arming ps p start vars (arms_of all) (arms_of made) (arms_of l)) (drop_all i all le) h)
