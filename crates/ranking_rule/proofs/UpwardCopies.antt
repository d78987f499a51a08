-- Intermediate states of the upward copy of acts, and of the arms of an if.
use Rattle.std.proofs.Common.{◌≡◌, ◌≤◌, ◌<◌, ◌+◌, ℕ, refl, sym, ap, ◌∙◌, List, [], ◌∷◌, ◌++◌, length, get_or, drop}
use Rattle.std.proofs.lemmas.List.{at_drop_more, drop_all}
use Rattle.std.specs.Prelude.{Vec}
use Rattle.std.specs.declared.alloc.Global.{Global}
use Rattle.heylo_formula.specs.PlainTrees.{cond_of}
use Rattle.heylo_formula.specs.declared.forms.Cond as C
use Rattle.heyvl_acts.specs.Acts.{Act, Acts, Arms, join}
use Rattle.heyvl_acts.specs.PlainActs.{act_of, acts_of, arms_of}
use Rattle.heyvl_acts.specs.declared.acts.Act as A
use Rattle.heyvl_acts.specs.Upward.{upward, upward_next, upward_arms}
use Rattle.heyvl_acts.proofs.exported.UpwardMeaning.{next_join}

join_nothing : (acts : Acts) → join acts Acts.done ≡ acts
join_nothing Acts.done = refl
join_nothing (Acts.next a rest) = ap (λ r. Acts.next a r) (join_nothing rest)

join_twice : (a b c : Acts) → join (join a b) c ≡ join a (join b c)
join_twice Acts.done b c = refl
join_twice (Acts.next a rest) b c = ap (λ r. Acts.next a r) (join_twice rest b c)

pub one_act : (xs ys : List A.Act) (a : A.Act) (p : Act) → ys ≡ xs ++ a ∷ [] → act_of a ≡ p → acts_of ys ≡ join (acts_of xs) (Acts.next p Acts.done)
one_act xs ys a p e f = ap acts_of e ∙ (shown xs ∙ ap (λ q. join (acts_of xs) (Acts.next q Acts.done)) f)
  where
    shown : (xs : List A.Act) → acts_of (xs ++ a ∷ []) ≡ join (acts_of xs) (Acts.next (act_of a) Acts.done)
    shown [] = refl
    shown (x ∷ xs) = ap (λ r. Acts.next (act_of x) r) (shown xs)

-- The arms of one list, then those of another.
abbrev then_arms : Arms → Arms → Arms
then_arms Arms.no_arm rest = rest
then_arms (Arms.arm g b more) rest = Arms.arm g b (then_arms more rest)

then_none : (arms : Arms) → then_arms arms Arms.no_arm ≡ arms
then_none Arms.no_arm = refl
then_none (Arms.arm g b more) = ap (λ r. Arms.arm g b r) (then_none more)

one_arm : (xs : List (C.Cond × Vec A.Act Global)) (x : C.Cond × Vec A.Act Global) (rest : Arms) → then_arms (arms_of (xs ++ x ∷ [])) rest ≡ then_arms (arms_of xs) (Arms.arm (cond_of x.0) (acts_of x.1.items) rest)
one_arm [] x rest = refl
one_arm (y ∷ xs) x rest = ap (λ r. Arms.arm (cond_of y.0) (acts_of y.1.items) r) (one_arm xs x rest)

left_over : {X : Type 0} → (xs : List X) (i : ℕ) (x : X) → i < length xs → x ≡ get_or xs i x → drop i xs ≡ x ∷ drop (i + 1) xs
left_over xs i x lt is = at_drop_more (λ l. l) xs i x lt ∙ ap (λ y. y ∷ drop (i + 1) xs) (sym is)

-- The copies so far and those of the acts that are left make the copies of all acts.
abbrev pub Turns : List A.Act → List A.Act → ℕ → Type 0
Turns all made i = join (acts_of made) (upward (acts_of (drop i all))) ≡ upward (acts_of all)

abbrev pub ArmTurns : List (C.Cond × Vec A.Act Global) → List (C.Cond × Vec A.Act Global) → ℕ → Type 0
ArmTurns all made i = then_arms (arms_of made) (upward_arms (arms_of (drop i all))) ≡ upward_arms (arms_of all)

pub turn_more : (all made made' : List A.Act) (i : ℕ) (a : A.Act) → i < length all → a ≡ get_or all i a → Turns all made i → acts_of made' ≡ join (acts_of made) (upward_next (act_of a) Acts.done) → Turns all made' (i + 1)
turn_more all made made' i a lt is h e =
    let rest = upward (acts_of (drop (i + 1) all)) in
    ap (λ m. join m rest) e ∙ (join_twice (acts_of made) (upward_next (act_of a) Acts.done) rest ∙ (ap (λ m. join (acts_of made) m) (sym (next_join (act_of a) Acts.done rest)) ∙ (ap (λ l. join (acts_of made) (upward (acts_of l))) (sym (left_over all i a lt is)) ∙ h)))

pub turns_end : (all made : List A.Act) (i : ℕ) → length all ≤ i → Turns all made i → acts_of made ≡ upward (acts_of all)
turns_end all made i le h = sym (join_nothing (acts_of made)) ∙ (ap (λ l. join (acts_of made) (upward (acts_of l))) (sym (drop_all i all le)) ∙ h)

pub arms_start : (all made : List (C.Cond × Vec A.Act Global)) → made ≡ [] → ArmTurns all made 0
arms_start all made e = ap (λ l. then_arms (arms_of l) (upward_arms (arms_of all))) e

pub arm_more : (all made made' : List (C.Cond × Vec A.Act Global)) (i : ℕ) (a d : C.Cond × Vec A.Act Global) → i < length all → a ≡ get_or all i a → ArmTurns all made i → made' ≡ made ++ d ∷ [] → cond_of d.0 ≡ cond_of a.0 → acts_of d.1.items ≡ upward (acts_of a.1.items) → ArmTurns all made' (i + 1)
arm_more all made made' i a d lt is h e guard block =
    let rest = upward_arms (arms_of (drop (i + 1) all)) in
    ap (λ l. then_arms (arms_of l) rest) e ∙ (one_arm made d rest ∙ (ap (λ g. then_arms (arms_of made) (Arms.arm g (acts_of d.1.items) rest)) guard ∙ (ap (λ b. then_arms (arms_of made) (Arms.arm (cond_of a.0) b rest)) block ∙ (ap (λ l. then_arms (arms_of made) (upward_arms (arms_of l))) (sym (left_over all i a lt is)) ∙ h))))

pub arms_end : (all made : List (C.Cond × Vec A.Act Global)) (i : ℕ) → length all ≤ i → ArmTurns all made i → arms_of made ≡ upward_arms (arms_of all)
arms_end all made i le h = sym (then_none (arms_of made)) ∙ (ap (λ l. then_arms (arms_of made) (upward_arms (arms_of l))) (sym (drop_all i all le)) ∙ h)

pub stays : (made new : List A.Act) (a p : Act) → a ≡ p → upward_next p Acts.done ≡ Acts.next p Acts.done → acts_of new ≡ join (acts_of made) (Acts.next a Acts.done) → acts_of new ≡ join (acts_of made) (upward_next a Acts.done)
stays made new a p e f h = h ∙ ap (λ r. join (acts_of made) r) (ap (λ x. Acts.next x Acts.done) e ∙ (sym f ∙ ap (λ x. upward_next x Acts.done) (sym e)))

pub changed : (made new : List A.Act) (d : A.Act) (a p q : Act) → a ≡ p → upward_next p Acts.done ≡ Acts.next q Acts.done → new ≡ made ++ d ∷ [] → act_of d ≡ q → acts_of new ≡ join (acts_of made) (upward_next a Acts.done)
changed made new d a p q e f g h = one_act made new d q g h ∙ ap (λ r. join (acts_of made) r) (sym f ∙ ap (λ x. upward_next x Acts.done) (sym e))

pub left_out : (made : List A.Act) (a p : Act) → a ≡ p → upward_next p Acts.done ≡ Acts.done → acts_of made ≡ join (acts_of made) (upward_next a Acts.done)
left_out made a p e f = sym (join_nothing (acts_of made)) ∙ ap (λ r. join (acts_of made) r) (sym f ∙ ap (λ x. upward_next x Acts.done) (sym e))
