-- The places of acts: those of a block follow each other in the text of its procedure's body.
use Rattle.std.proofs.Common.{◌≡◌, ℕ, ◌+◌, refl, ap, subst, ◌∙◌, arith, ◌⊎◌, inl, inr, List, [], ◌∷◌, ◌++◌, length}
use Rattle.std.proofs.lemmas.Option.{none-some}
use Rattle.std.specs.Prelude.{Option, Some, None}
use Prim.Native.Nat.{zero, suc}
use Rattle.heyvl_acts.specs.Acts.{Act, Acts, Arms, TypedProcedure, acts_in}
use Rattle.heyvl_acts.specs.Places.{nth, in_order, inside, inside_arms, acts_of_procedure, act_named}
use Rattle.run_machine.specs.Configurations.{Item, push}
use Rattle.run_machine.specs.internal.Places.{Stands, text}
use Rattle.run_machine.specs.Names.{Numbered, items_of, act_item, numbered}

nth_first : (xs ys : List Act) (n : ℕ) (a : Act) → nth xs n ≡ Some a → nth (xs ++ ys) n ≡ Some a
nth_first [] ys n a h = elim (none-some a h) [ ]
nth_first (x ∷ xs) ys zero a h = h
nth_first (x ∷ xs) ys (suc n) a h = nth_first xs ys n a h

further : (m n : ℕ) → suc m + n ≡ suc (m + n)
further m n = omega arith

nth_second : (xs ys : List Act) (n : ℕ) → nth (xs ++ ys) (length xs + n) ≡ nth ys n
nth_second [] ys n = ap (λ m. nth ys m) (omega arith)
nth_second (x ∷ xs) ys n = ap (λ m. nth (x ∷ (xs ++ ys)) m) (further (length xs) n) ∙ nth_second xs ys n

-- An act of the second of two lists, in their concatenation.
record InSecond (xs ys : List Act) (n : ℕ) (a : Act) : Type 0 where
  left : ℕ
  behind : n ≡ length xs + left
  there : nth ys left ≡ Some a

nth_either : (xs ys : List Act) (n : ℕ) (a : Act) → nth (xs ++ ys) n ≡ Some a → (nth xs n ≡ Some a) ⊎ InSecond xs ys n a
nth_either [] ys n a h = inr (record { left = n; behind = omega arith; there = h })
nth_either (x ∷ xs) ys zero a h = inl h
nth_either (x ∷ xs) ys (suc n) a h = go (nth_either xs ys n a h)
  where
    go : (nth xs n ≡ Some a) ⊎ InSecond xs ys n a → (nth (x ∷ xs) (suc n) ≡ Some a) ⊎ InSecond (x ∷ xs) ys (suc n) a
    go (inl e) = inl e
    go (inr i) = inr (record { left = i.left; behind = let e = i.behind in omega (arith, e); there = i.there })

stands_first : (xs zs : List Act) (n : ℕ) (ys : List Act) → Stands xs n ys → Stands (xs ++ zs) n ys
stands_first xs zs n ys h k a e = nth_first xs zs (n + k) a (h k a e)

stands_second : (xs zs : List Act) (n : ℕ) (ys : List Act) → Stands zs n ys → Stands (xs ++ zs) (length xs + n) ys
stands_second xs zs n ys h k a e = ap (λ m. nth (xs ++ zs) m) (let q : length xs + n + k ≡ length xs + (n + k) = omega arith in q) ∙ nth_second xs zs (n + k) ∙ h k a e

stands_behind : (x : Act) (xs : List Act) (n : ℕ) (ys : List Act) → Stands xs n ys → Stands (x ∷ xs) (suc n) ys
stands_behind x xs n ys h k a e = ap (λ m. nth (x ∷ xs) m) (further n k) ∙ h k a e

pub part_first : (xs : List Act) (n : ℕ) (ys zs : List Act) → Stands xs n (ys ++ zs) → Stands xs n ys
part_first xs n ys zs h k a e = h k a (nth_first ys zs k a e)

pub part_second : (xs : List Act) (n : ℕ) (ys zs : List Act) → Stands xs n (ys ++ zs) → Stands xs (n + length ys) zs
part_second xs n ys zs h k a e = ap (λ m. nth xs m) (let q : n + length ys + k ≡ n + (length ys + k) = omega arith in q) ∙ h (length ys + k) a (nth_second ys zs k ∙ e)

pub part_rest : (xs : List Act) (n : ℕ) (y : Act) (ys : List Act) → Stands xs n (y ∷ ys) → Stands xs (suc n) ys
part_rest xs n y ys h k a e = ap (λ m. nth xs m) (let q : suc n + k ≡ n + suc k = omega arith in q) ∙ h (suc k) a e

pub part_head : (xs : List Act) (n : ℕ) (y : Act) (ys : List Act) → Stands xs n (y ∷ ys) → nth xs n ≡ Some y
part_head xs n y ys h = ap (λ m. nth xs m) (let q : n ≡ n + 0 = omega arith in q) ∙ h 0 y refl

-- Each act of the list is followed by the acts in it.
abbrev Follows : List Act → Type 0
Follows xs = (n : ℕ) (a : Act) → nth xs n ≡ Some a → Stands xs (suc n) (inside a)

follows_none : Follows []
follows_none n a h = elim (none-some a h) [ ]

follows_both : (xs ys : List Act) → Follows xs → Follows ys → Follows (xs ++ ys)
follows_both xs ys f g n a h = go (nth_either xs ys n a h)
  where
    go : (nth xs n ≡ Some a) ⊎ InSecond xs ys n a → Stands (xs ++ ys) (suc n) (inside a)
    go (inl e) = stands_first xs ys (suc n) (inside a) (f n a e)
    go (inr i) = subst (λ m. Stands (xs ++ ys) m (inside a)) (let e = i.behind in omega (arith, e)) (stands_second xs ys (suc i.left) (inside a) (g i.left a i.there))

some_same : (a b : Act) → Some a ≡ Some b → a ≡ b
some_same a b h = ap (λ o. get o) h
  where
    get : Option Act → Act
    get (Some x) = x
    get None = a

follows_act : (b : Act) (xs : List Act) → Follows (inside b ++ xs) → Follows (b ∷ (inside b ++ xs))
follows_act b xs f zero a h = subst (λ x. Stands (b ∷ (inside b ++ xs)) 1 (inside x)) (some_same b a h) (λ k x e. ap (λ m. nth (b ∷ (inside b ++ xs)) m) (let q : 1 + k ≡ suc k = omega arith in q) ∙ nth_first (inside b) xs k x e)
follows_act b xs f (suc n) a h = stands_behind b (inside b ++ xs) (suc n) (inside a) (f n a h)

mutual
  follows_order : (acts : Acts) → Follows (in_order acts)
  follows_order Acts.done = follows_none
  follows_order (Acts.next b rest) = follows_act b (in_order rest) (follows_both (inside b) (in_order rest) (follows_inside b) (follows_order rest))

  follows_inside : (b : Act) → Follows (inside b)
  follows_inside (Act.set x t span) = follows_none
  follows_inside (Act.draw x ps span) = follows_none
  follows_inside (Act.toss x f span) = follows_none
  follows_inside (Act.any x up ty span) = follows_none
  follows_inside (Act.reward f span) = follows_none
  follows_inside (Act.ifs arms e span) = follows_both (inside_arms arms) (in_order e) (follows_arms arms) (follows_order e)
  follows_inside (Act.pick up a b span) = follows_both (in_order a) (in_order b) (follows_order a) (follows_order b)
  follows_inside (Act.check kind f span) = follows_none
  follows_inside (Act.validate co span) = follows_none
  follows_inside (Act.loop h b) = follows_order b
  follows_inside (Act.call xs p es span) = follows_none

  follows_arms : (arms : Arms) → Follows (inside_arms arms)
  follows_arms Arms.no_arm = follows_none
  follows_arms (Arms.arm g b more) = follows_both (in_order b) (inside_arms more) (follows_order b) (follows_arms more)

follows_procedure : (o : Option TypedProcedure) → Follows (acts_of_procedure o)
follows_procedure None = follows_none
follows_procedure (Some p) = follows_body p.body
  where
    follows_body : (b : Option Acts) → Follows (in_order (acts_in b))
    follows_body (Some acts) = follows_order acts
    follows_body None = follows_none

pub inside_stands : (ps : List TypedProcedure) (p place : ℕ) (a : Act) → act_named ps p place ≡ Some a → Stands (text ps p) (suc place) (inside a)
inside_stands ps p place a h = follows_procedure (nth ps p) place a h

pub named_push : (ps : List TypedProcedure) (p place : ℕ) (acts : Acts) (rest : List Numbered) → Stands (text ps p) place (in_order acts) → items_of ps (numbered p place acts ++ rest) ≡ push acts (items_of ps rest)
named_push ps p place Acts.done rest h = refl
named_push ps p place (Acts.next a more) rest h =
    ap (λ o. act_item o ∷ items_of ps (numbered p (place + suc (length (inside a))) more ++ rest)) (part_head (text ps p) place a (inside a ++ in_order more) h)
    ∙ ap (λ l. Item.act a ∷ l) (named_push ps p (place + suc (length (inside a))) more rest (subst (λ m. Stands (text ps p) m (in_order more)) (omega arith) (part_second (text ps p) (suc place) (inside a) (in_order more) (part_rest (text ps p) place a (inside a ++ in_order more) h))))
