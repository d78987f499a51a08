-- Of a loop's scope, the body changes only the modified variables.
use Rattle.std.proofs.Common.{◌≡◌, ◌∙◌, ℕ, refl, sym, ap, arith, Bool, true, false, cond, ◌==◌, ◌||◌, List, [], ◌∷◌, ◌⊎◌, inl, inr}
use Rattle.heyvl_acts.specs.Acts.{Act, Acts, Arms}
use Rattle.heyvl_acts.specs.ModifiedVariables.{is_target_of, is_target_of_act, is_target_of_arms, modified}
use Rattle.heyvl_acts.specs.Visible.{Visible, among}
use Rattle.bounded_runs.specs.internal.Programs.{In, AllIn, Within, WithinAct, WithinArms}

or_true : (a b : Bool) → (a || b) ≡ true → (a ≡ true) ⊎ (b ≡ true)
or_true true b h = inl refl
or_true false b h = inr h

pub or_first : (a b : Bool) → a ≡ true → (a || b) ≡ true
or_first a b h = rw h

pub or_second : (a b : Bool) → b ≡ true → (a || b) ≡ true
or_second true b h = refl
or_second false b h = h

pub equal_of : (x y : ℕ) → (x == y) ≡ true → x ≡ y
equal_of x y h = grind arith

pub self : (x : ℕ) → (x == x) ≡ true
self x = grind arith

-- ---- The modified variables of a scope

modified_in : (scope : List ℕ) (b : Acts) (x : ℕ) → is_target_of x b ≡ true → among scope x ≡ true → In x (modified scope b)
modified_in [] b x h k = absurd (cc)
modified_in (y ∷ ys) b x h k = go (is_target_of y b) refl (or_true (y == x) (among ys x) k) (modified_in ys b x h)
  where
    go : (t : Bool) → is_target_of y b ≡ t → ((y == x) ≡ true) ⊎ (among ys x ≡ true) → (among ys x ≡ true → In x (modified ys b)) → In x (cond t (y ∷ modified ys b) (modified ys b))
    go true e (inl q) ih = inl (equal_of y x q)
    go true e (inr q) ih = inr (ih q)
    go false e (inl q) ih = absurd (let f : true ≡ false = sym h ∙ ap (λ z. is_target_of z b) (sym (equal_of y x q)) ∙ e in cc)
    go false e (inr q) ih = ih q

-- `P` holds of each variable of the list.
abbrev AllOf : (ℕ → Type 0) → List ℕ → Type 0
AllOf P [] = Unit {0}
AllOf P (m ∷ ms) = P m × AllOf P ms

modified_all : (P : ℕ → Type 0) (b : Acts) → ((x : ℕ) → is_target_of x b ≡ true → P x) → (scope : List ℕ) → AllOf P (modified scope b)
modified_all P b f [] = tt
modified_all P b f (y ∷ ys) = go (is_target_of y b) refl (modified_all P b f ys)
  where
    go : (t : Bool) → is_target_of y b ≡ t → AllOf P (modified ys b) → AllOf P (cond t (y ∷ modified ys b) (modified ys b))
    go true e k = (f y e, k)
    go false e k = k

all_in : (v : Visible) (ms xs : List ℕ) → AllOf (λ m. v m ≡ true → In m ms) xs → AllIn v ms xs
all_in v ms [] h = tt
all_in v ms (x ∷ xs) h = (h.0, all_in v ms xs h.1)

-- ---- Of the scope, a body changes only the modified variables

module _ (scope : List ℕ) (whole : Acts) where
  -- The targets of a part of the body are targets of the whole.
  abbrev Part : (ℕ → Bool) → Type 0
  Part t = (x : ℕ) → t x ≡ true → is_target_of x whole ≡ true

  targets_in : (ys : List ℕ) → Part (λ x. among ys x) → AllIn (among scope) (modified scope whole) ys
  targets_in [] t = tt
  targets_in (y ∷ ys) t = (λ k. modified_in scope whole y (t y (or_first (y == y) (among ys y) (self y))) k, targets_in ys (λ x h. t x (or_second (y == x) (among ys x) h)))

  mutual
    within_act : (a : Act) → Part (λ x. is_target_of_act x a) → WithinAct (among scope) (modified scope whole) a
    within_act (Act.set y e span) t = λ k. modified_in scope whole y (t y (self y)) k
    within_act (Act.draw y qs span) t = λ k. modified_in scope whole y (t y (self y)) k
    within_act (Act.toss y f span) t = λ k. modified_in scope whole y (t y (self y)) k
    within_act (Act.any y up ty span) t = λ k. modified_in scope whole y (t y (self y)) k
    within_act (Act.reward f span) t = tt
    within_act (Act.ifs arms e span) t = (within_arms arms (λ x h. t x (or_first _ _ h)), within_acts e (λ x h. t x (or_second (is_target_of_arms x arms) _ h)))
    within_act (Act.pick up a b span) t = (within_acts a (λ x h. t x (or_first _ _ h)), within_acts b (λ x h. t x (or_second (is_target_of x a) _ h)))
    within_act (Act.check kind f span) t = tt
    within_act (Act.validate co span) t = tt
    within_act (Act.loop h b) t = (all_in (among scope) (modified scope whole) (modified h.scope b) (modified_all _ b (λ x e k. modified_in scope whole x (t x e) k) h.scope), within_acts b t)
    within_act (Act.call ys p es span) t = targets_in ys t

    within_acts : (b : Acts) → Part (λ x. is_target_of x b) → Within (among scope) (modified scope whole) b
    within_acts Acts.done t = tt
    within_acts (Acts.next a rest) t = (within_act a (λ x h. t x (or_first _ _ h)), within_acts rest (λ x h. t x (or_second (is_target_of_act x a) _ h)))

    within_arms : (arms : Arms) → Part (λ x. is_target_of_arms x arms) → WithinArms (among scope) (modified scope whole) arms
    within_arms Arms.no_arm t = tt
    within_arms (Arms.arm g b more) t = (within_acts b (λ x h. t x (or_first _ _ h)), within_arms more (λ x h. t x (or_second (is_target_of x b) _ h)))

pub modified_within : (scope : List ℕ) (b : Acts) → Within (among scope) (modified scope b) b
modified_within scope b = within_acts scope b b (λ x h. h)
