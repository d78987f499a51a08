-- The targets of sequences of acts and of arms.
use Rattle.heylo_formula.specs.declared.forms.Cond as C
use Rattle.heyvl_acts.proofs.exported.PlainActsAre.{if_act}
use Rattle.heyvl_acts.specs.Acts.{Acts}
use Rattle.heyvl_acts.specs.ModifiedVariables.{is_target_of, is_target_of_act, is_target_of_arms, modified}
use Rattle.heyvl_acts.specs.PlainActs.{act_of, acts_of, arms_of}
use Rattle.heyvl_acts.specs.Visible.{among}
use Rattle.heyvl_acts.specs.declared.acts.Act as A
use Rattle.heyvl_places.specs.declared.spans.Span.{Span}
use Rattle.std.proofs.Common.{Bool, List, [], ap, arith, cond, drop, false, get_or, length, refl, sym, true, ◌+◌, ◌<◌, ◌∙◌, ◌≡◌, ◌≤◌, ◌∷◌, ℕ}
use Rattle.std.proofs.lemmas.List.Recursion.{is_count_by}
use Rattle.std.proofs.lemmas.List.{at_drop_more, drop_all}
use Rattle.std.specs.List.{list_any}
use Rattle.std.specs.Prelude.{Vec, count_by, if◌then◌else◌, ◌==◌, ◌||◌}
use Rattle.std.specs.declared.alloc.Global.{Global}

pub next_act : (x : ℕ) (acts : List A.Act) (k : ℕ) (a : A.Act) → k < length acts → a ≡ get_or acts k a → is_target_of x (acts_of (drop k acts)) ≡ (is_target_of_act x (act_of a) || is_target_of x (acts_of (drop (k + 1) acts)))
next_act x acts k a lt is = at_drop_more (λ l. is_target_of x (acts_of l)) acts k a lt ∙ ap (λ y. is_target_of_act x (act_of y) || is_target_of x (acts_of (drop (k + 1) acts))) (sym is)

pub no_act : (x : ℕ) (acts : List A.Act) (k : ℕ) → length acts ≤ k → is_target_of x (acts_of (drop k acts)) ≡ false
no_act x acts k over = ap (λ l. is_target_of x (acts_of l)) (drop_all k acts over)

-- The targets of arms and of the acts after them.
abbrev pub arms_from : ℕ → List (C.Cond × Vec A.Act Global) → ℕ → List A.Act → Bool
arms_from x arms k other = is_target_of_arms x (arms_of (drop k arms)) || is_target_of x (acts_of other)

either : (a b c : Bool) → ((a || b) || c) ≡ (a || (b || c))
either true b c = refl
either false b c = refl

pub next_arm : (x : ℕ) (arms : List (C.Cond × Vec A.Act Global)) (k : ℕ) (other : List A.Act) (a : C.Cond × Vec A.Act Global) → k < length arms → a ≡ get_or arms k a → arms_from x arms k other ≡ (is_target_of x (acts_of a.1.items) || arms_from x arms (k + 1) other)
next_arm x arms k other a lt is =
    at_drop_more (λ l. is_target_of_arms x (arms_of l) || is_target_of x (acts_of other)) arms k a lt
    ∙ ap (λ y. (is_target_of x (acts_of y.1.items) || is_target_of_arms x (arms_of (drop (k + 1) arms))) || is_target_of x (acts_of other)) (sym is)
    ∙ either (is_target_of x (acts_of a.1.items)) _ _

pub no_arm : (x : ℕ) (arms : List (C.Cond × Vec A.Act Global)) (k : ℕ) (other : List A.Act) → length arms ≤ k → arms_from x arms k other ≡ is_target_of x (acts_of other)
no_arm x arms k other over = ap (λ l. is_target_of_arms x (arms_of l) || is_target_of x (acts_of other)) (drop_all k arms over)

pub if_start : (x : ℕ) (a : A.Act) (arms : Vec (C.Cond × Vec A.Act Global) Global) (other : Vec A.Act Global) (span : Span) → a ≡ A.If arms other span → arms_from x arms.items 0 other.items ≡ is_target_of_act x (act_of a)
if_start x a arms other span is = sym (ap (λ y. is_target_of_act x (act_of y)) is ∙ ap (is_target_of_act x) (if_act arms other span))

-- After an act that is no target, and at one that is.
pub past : (all b r : Bool) → (b || r) ≡ all → b ≡ false → r ≡ all
past all true r e h = absurd (cc)
past all false r e h = e

pub hit : (all b r : Bool) → (b || r) ≡ all → b ≡ true → true ≡ all
hit all true r e h = e
hit all false r e h = absurd (cc)

pub among_any : (x : ℕ) (ys : List ℕ) → list_any (λ y. y == x) ys ≡ among ys x
among_any x [] = refl
among_any x (y ∷ ys) = ap (λ r. (y == x) || r) (among_any x ys)

pub modified_count : (xs : List ℕ) (b : Acts) → length (modified xs b) ≡ count_by (λ x. is_target_of x b) xs
modified_count xs b = is_count_by (λ ys. length (modified ys b)) (λ x. is_target_of x b) refl (λ x ys. one_more (is_target_of x b) x (modified ys b)) xs
  where
    one_more : (t : Bool) (x : ℕ) (ys : List ℕ) → length (if t then x ∷ ys else ys) ≡ cond t (1 + length ys) (length ys)
    one_more true x ys = omega arith
    one_more false x ys = refl
