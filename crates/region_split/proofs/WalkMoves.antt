-- The moves of a walk: down to the first branch of a comparison, and up from a finished one.
use Rattle.std.proofs.Common.{◌≡◌, ◌+◌, ◌<◌, ◌≤◌, List, [], ◌∷◌, ◌++◌, refl, sym, ap, ◌∙◌, subst, arith, append_assoc, Bool, true, false}
use Rattle.std.specs.Prelude.{Option, if◌then◌else◌}
use Rattle.std.specs.List.{All}
use Rattle.std.proofs.lemmas.List.{append-nil}
use Rattle.std.proofs.lemmas.List.Elements.{All-nil, All-cons, All-head, All-tail}
use Rattle.heylo_formula.specs.Goals.{Goal}
use Rattle.linear_form.specs.Query.{Query, Atom, Taken, onto}
use Rattle.linear_form.specs.Query.Query.{done, bits, ask}
use Rattle.linear_form.specs.Questions.{questions}
use Rattle.linear_form.specs.Paths.{walk, end_at}
use Rattle.region_split.specs.Walk.{AreCells}
use Rattle.linear_form.specs.Cells.{GoesOn}
use Rattle.region_split.specs.internal.Progress.{HoldsAt, IsBranch, HasBefore, IsAfter, IsGrown, size, rest_of, left_of}
use Rattle.goal_answers.specs.declared.trees.Tree as F

-- ---- A path and its last answer

abbrev pub taken : Atom → Bool → Taken
taken q b = record { atom = q; held = b }

pub snoc_first : {A : Type 0} (ps rs : List A) (p r : A) → ps ++ (p ∷ []) ≡ rs ++ (r ∷ []) → ps ≡ rs
snoc_first [] [] p r e = refl
snoc_first [] (x ∷ []) p r e = let k : p ∷ [] ≡ x ∷ (r ∷ []) = e in absurd (cc)
snoc_first [] (x ∷ (y ∷ rs)) p r e = let k : p ∷ [] ≡ x ∷ (y ∷ (rs ++ (r ∷ []))) = e in absurd (cc)
snoc_first (x ∷ []) [] p r e = let k : x ∷ (p ∷ []) ≡ r ∷ [] = e in absurd (cc)
snoc_first (x ∷ (y ∷ ps)) [] p r e = let k : x ∷ (y ∷ (ps ++ (p ∷ []))) ≡ r ∷ [] = e in absurd (cc)
snoc_first (x ∷ ps) (y ∷ rs) p r e = let k : x ∷ (ps ++ (p ∷ [])) ≡ y ∷ (rs ++ (r ∷ [])) = e in let a : x ≡ y = cc in let b : ps ++ (p ∷ []) ≡ rs ++ (r ∷ []) = cc in let c = snoc_first ps rs p r b in cc

pub snoc_last : {A : Type 0} (ps rs : List A) (p r : A) → ps ++ (p ∷ []) ≡ rs ++ (r ∷ []) → p ≡ r
snoc_last [] [] p r e = let k : p ∷ [] ≡ r ∷ [] = e in cc
snoc_last [] (x ∷ []) p r e = let k : p ∷ [] ≡ x ∷ (r ∷ []) = e in absurd (cc)
snoc_last [] (x ∷ (y ∷ rs)) p r e = let k : p ∷ [] ≡ x ∷ (y ∷ (rs ++ (r ∷ []))) = e in absurd (cc)
snoc_last (x ∷ []) [] p r e = let k : x ∷ (p ∷ []) ≡ r ∷ [] = e in absurd (cc)
snoc_last (x ∷ (y ∷ ps)) [] p r e = let k : x ∷ (y ∷ (ps ++ (p ∷ []))) ≡ r ∷ [] = e in absurd (cc)
snoc_last (x ∷ ps) (y ∷ rs) p r e = let k : x ∷ (ps ++ (p ∷ [])) ≡ y ∷ (rs ++ (r ∷ [])) = e in let b : ps ++ (p ∷ []) ≡ rs ++ (r ∷ []) = cc in snoc_last ps rs p r b

pub snoc_not_empty : {A : Type 0} (ps : List A) (p : A) → [] ≡ ps ++ (p ∷ []) → ⊥
snoc_not_empty [] p e = let k : [] ≡ p ∷ [] = e in absurd (cc)
snoc_not_empty (x ∷ ps) p e = let k : [] ≡ x ∷ (ps ++ (p ∷ [])) = e in absurd (cc)

-- ---- Cases of the position of the walk

-- The walk is in a first branch.
pub record InFirst (g : Goal) (ps : List Taken) (q : Atom) (cells : List (List Taken)) (trees : List (Option F.Tree)) : Type 0 where
  pub goes_on : GoesOn g ps q
  pub stands : HasBefore g ps cells trees

-- The walk is in a second branch.
pub record InSecond (g : Goal) (ps : List Taken) (q : Atom) (cells : List (List Taken)) (trees : List (Option F.Tree)) : Type 0 where
  pub goes_on : GoesOn g ps q
  pub before : List (List Taken)
  pub here : List (List Taken)
  pub others : List (Option F.Tree)
  pub tree : Option F.Tree
  pub whole_cells : before ++ here ≡ cells
  pub whole_trees : others ++ (tree ∷ []) ≡ trees
  pub stands : HasBefore g ps before others
  pub branch : IsBranch g (onto ps q true) here tree

pub in_first : (g : Goal) (rs ps : List Taken) (q : Atom) (cells : List (List Taken)) (trees : List (Option F.Tree)) → rs ≡ onto ps q true → HasBefore g rs cells trees → InFirst g ps q cells trees
in_first g _ ps q _ _ e HasBefore.start = absurd (snoc_not_empty ps (taken q true) e)
in_first g _ ps q _ _ e (HasBefore.first rs r cells trees h b) =
    let a : rs ≡ ps = snoc_first rs ps (taken r true) (taken q true) e in
    let c : r ≡ q = ap (λ p. p.atom) (snoc_last rs ps (taken r true) (taken q true) e) in
    record { goes_on = subst (λ x. GoesOn g x q) a (subst (λ x. GoesOn g rs x) c h); stands = subst (λ x. HasBefore g x cells trees) a b }
in_first g _ ps q _ _ e (HasBefore.second rs r cells here trees tree h b d) = let k : false ≡ true = ap (λ p. p.held) (snoc_last rs ps (taken r false) (taken q true) e) in absurd (cc)

pub in_second : (g : Goal) (rs ps : List Taken) (q : Atom) (cells : List (List Taken)) (trees : List (Option F.Tree)) → rs ≡ onto ps q false → HasBefore g rs cells trees → InSecond g ps q cells trees
in_second g _ ps q _ _ e HasBefore.start = absurd (snoc_not_empty ps (taken q false) e)
in_second g _ ps q _ _ e (HasBefore.first rs r cells trees h b) = let k : true ≡ false = ap (λ p. p.held) (snoc_last rs ps (taken r true) (taken q false) e) in absurd (cc)
in_second g _ ps q _ _ e (HasBefore.second rs r cells here trees tree h b d) =
    let a : rs ≡ ps = snoc_first rs ps (taken r false) (taken q false) e in
    let c : r ≡ q = ap (λ p. p.atom) (snoc_last rs ps (taken r false) (taken q false) e) in
    record {
      goes_on = subst (λ x. GoesOn g x q) a (subst (λ x. GoesOn g rs x) c h);
      before = cells;
      here = here;
      others = trees;
      tree = tree;
      whole_cells = refl;
      whole_trees = refl;
      stands = subst (λ x. HasBefore g x cells trees) a b;
      branch = subst (λ x. IsBranch g (onto x q true) here tree) a (subst (λ x. IsBranch g (onto rs x true) here tree) c d);
    }

-- ---- Going up

pub cells_joined : (g : Goal) (ps : List Taken) (q : Atom) (cells others : List (List Taken)) → GoesOn g ps q → AreCells g (onto ps q true) cells → AreCells g (onto ps q false) others → AreCells g ps (cells ++ others)
cells_joined g ps q cells others h a b = AreCells.question ps q cells others h a b

pub all_first : {A : Type 0} (P : A → Type 0) (xs ys : List A) → All P (xs ++ ys) → All P xs
all_first P [] ys h = All-nil P
all_first P (x ∷ xs) ys h = All-cons P x xs (All-head P x (xs ++ ys) h) (all_first P xs ys (All-tail P x (xs ++ ys) h))

pub all_second : {A : Type 0} (P : A → Type 0) (xs ys : List A) → All P (xs ++ ys) → All P ys
all_second P [] ys h = h
all_second P (x ∷ xs) ys h = all_second P xs ys (All-tail P x (xs ++ ys) h)

pub at_place : {A : Type 0} (P : A → Type 0) (xs : List A) (a : A) (ys : List A) → All P (xs ++ (a ∷ ys)) → P a
at_place P xs a ys h = All-head P a ys (all_second P xs (a ∷ ys) h)

pub after_second : (g : Goal) (ps : List Taken) (q : Atom) (trees others : List (Option F.Tree)) (all : List (List Taken)) (left tree joined : Option F.Tree) → IsAfter g (onto ps q false) trees all tree → trees ≡ others ++ (left ∷ []) → (GoesOn g ps q → IsGrown g (onto ps q true) left → IsGrown g (onto ps q false) tree → IsGrown g ps joined) → IsAfter g ps others all joined
after_second g ps q trees others all left tree joined a e j =
    let s = in_second g (onto ps q false) ps q a.before trees refl a.stands in
    let k : s.others ++ (s.tree ∷ []) ≡ others ++ (left ∷ []) = s.whole_trees ∙ e in
    let m : s.others ≡ others = snoc_first s.others others s.tree left k in
    let n : s.tree ≡ left = snoc_last s.others others s.tree left k in
    record {
      before = s.before;
      here = s.here ++ a.here;
      whole = sym (append_assoc s.before s.here a.here) ∙ ap (λ cs. cs ++ a.here) s.whole_cells ∙ a.whole;
      stands = subst (λ ts. HasBefore g ps s.before ts) m s.stands;
      branch = record {
        are_cells = cells_joined g ps q s.here a.here s.goes_on s.branch.are_cells a.branch.are_cells;
        grown = λ h. j s.goes_on (subst (IsGrown g (onto ps q true)) n (s.branch.grown (all_first (HoldsAt g) s.here a.here h))) (a.branch.grown (all_second (HoldsAt g) s.here a.here h));
      };
    }

pub after_first : (g : Goal) (ps : List Taken) (q : Atom) (trees : List (Option F.Tree)) (all : List (List Taken)) (tree right joined : Option F.Tree) → IsAfter g (onto ps q true) trees all tree → IsBranch g (onto ps q false) [] right → (GoesOn g ps q → IsGrown g (onto ps q true) tree → IsGrown g (onto ps q false) right → IsGrown g ps joined) → IsAfter g ps trees all joined
after_first g ps q trees all tree right joined a b j =
    let s = in_first g (onto ps q true) ps q a.before trees refl a.stands in
    record {
      before = a.before;
      here = a.here ++ [];
      whole = ap (λ cs. a.before ++ cs) (append-nil a.here) ∙ a.whole;
      stands = s.stands;
      branch = record {
        are_cells = cells_joined g ps q a.here [] s.goes_on a.branch.are_cells b.are_cells;
        grown = λ h. j s.goes_on (a.branch.grown (all_first (HoldsAt g) a.here [] h)) (b.grown (All-nil (HoldsAt g)));
      };
    }

pub before_second : (g : Goal) (ps : List Taken) (q : Atom) (trees : List (Option F.Tree)) (all : List (List Taken)) (tree : Option F.Tree) → IsAfter g (onto ps q true) trees all tree → HasBefore g (onto ps q false) all (trees ++ (tree ∷ []))
before_second g ps q trees all tree a =
    let s = in_first g (onto ps q true) ps q a.before trees refl a.stands in
    subst (λ cs. HasBefore g (onto ps q false) cs (trees ++ (tree ∷ []))) a.whole (HasBefore.second ps q a.before a.here trees tree s.goes_on s.stands a.branch)

before_start : (g : Goal) (ps : List Taken) (cells : List (List Taken)) (trees : List (Option F.Tree)) → ps ≡ [] → HasBefore g ps cells trees → cells ≡ []
before_start g _ _ _ e HasBefore.start = refl
before_start g _ _ _ e (HasBefore.first ps q cells trees h b) = absurd (snoc_not_empty ps (taken q true) (sym e))
before_start g _ _ _ e (HasBefore.second ps q cells here trees tree h b d) = absurd (snoc_not_empty ps (taken q false) (sym e))

pub after_start : (g : Goal) (trees : List (Option F.Tree)) (all : List (List Taken)) (tree : Option F.Tree) → IsAfter g [] trees all tree → IsBranch g [] all tree
after_start g trees all tree a =
    let e : a.here ≡ all = ap (λ cs. cs ++ a.here) (sym (before_start g [] a.before trees refl a.stands)) ∙ a.whole in
    subst (λ cs. IsBranch g [] cs tree) e a.branch

-- ---- The bound on what is left

walk_none : {A : Type 0} (t : Query A) → walk t [] ≡ t
walk_none (done a) = refl
walk_none bits = refl
walk_none (ask q y n) = refl

pub size_positive : {A : Type 0} (t : Query A) → 0 < size t
size_positive (done a) = omega arith
size_positive bits = omega arith
size_positive (ask q y n) = omega arith

rest_first : {A : Type 0} (t : Query A) (ps : List Taken) (q : Atom) (y n : Query A) → walk t ps ≡ ask q y n → rest_of t (onto ps q true) ≡ rest_of t ps + size n
rest_first (done a) ps q y n e = absurd (cc)
rest_first bits ps q y n e = absurd (cc)
rest_first (ask r y' n') [] q y n e = let k : n' ≡ n = cc in ap (λ t. 0 + size t) k
rest_first (ask r y' n') (p ∷ ps) q y n e = go p.held e (rest_first y' ps q y n) (rest_first n' ps q y n)
  where
    go : (b : Bool) → (if b then walk y' ps else walk n' ps) ≡ ask q y n → (walk y' ps ≡ ask q y n → rest_of y' (onto ps q true) ≡ rest_of y' ps + size n) → (walk n' ps ≡ ask q y n → rest_of n' (onto ps q true) ≡ rest_of n' ps + size n) → (if b then rest_of y' (onto ps q true) + size n' else rest_of n' (onto ps q true)) ≡ (if b then rest_of y' ps + size n' else rest_of n' ps) + size n
    go true f k l = let h = k f in omega arith
    go false f k l = l f

rest_second : {A : Type 0} (t : Query A) (ps : List Taken) (q : Atom) (y n : Query A) → walk t ps ≡ ask q y n → rest_of t (onto ps q false) ≡ rest_of t ps
rest_second (done a) ps q y n e = absurd (cc)
rest_second bits ps q y n e = absurd (cc)
rest_second (ask r y' n') [] q y n e = refl
rest_second (ask r y' n') (p ∷ ps) q y n e = go p.held e (rest_second y' ps q y n) (rest_second n' ps q y n)
  where
    go : (b : Bool) → (if b then walk y' ps else walk n' ps) ≡ ask q y n → (walk y' ps ≡ ask q y n → rest_of y' (onto ps q false) ≡ rest_of y' ps) → (walk n' ps ≡ ask q y n → rest_of n' (onto ps q false) ≡ rest_of n' ps) → (if b then rest_of y' (onto ps q false) + size n' else rest_of n' (onto ps q false)) ≡ (if b then rest_of y' ps + size n' else rest_of n' ps)
    go true f k l = ap (λ j. j + size n') (k f)
    go false f k l = l f

walk_on : {A : Type 0} (t : Query A) (ps : List Taken) (q : Atom) (y n : Query A) (b : Bool) → walk t ps ≡ ask q y n → walk t (onto ps q b) ≡ (if b then y else n)
walk_on (done a) ps q y n b e = absurd (cc)
walk_on bits ps q y n b e = absurd (cc)
walk_on (ask r y' n') [] q y n true e = walk_none y' ∙ cc
walk_on (ask r y' n') [] q y n false e = walk_none n' ∙ cc
walk_on (ask r y' n') (p ∷ ps) q y n b e = go p.held e (walk_on y' ps q y n b) (walk_on n' ps q y n b)
  where
    go : (h : Bool) → (if h then walk y' ps else walk n' ps) ≡ ask q y n → (walk y' ps ≡ ask q y n → walk y' (onto ps q b) ≡ (if b then y else n)) → (walk n' ps ≡ ask q y n → walk n' (onto ps q b) ≡ (if b then y else n)) → (if h then walk y' (onto ps q b) else walk n' (onto ps q b)) ≡ (if b then y else n)
    go true f k l = k f
    go false f k l = l f

pub rest_up : (g : Goal) (ps : List Taken) (q : Atom) → GoesOn g ps q → rest_of (questions g) (onto ps q false) ≡ rest_of (questions g) ps
rest_up g ps q h = rest_second (questions g) ps q h.asks.yes h.asks.no h.asks.question

pub rest_up_first : (g : Goal) (ps : List Taken) (q : Atom) → GoesOn g ps q → rest_of (questions g) ps ≤ rest_of (questions g) (onto ps q true)
rest_up_first g ps q h = let b = rest_first (questions g) ps q h.asks.yes h.asks.no h.asks.question in omega (arith, b)

pub left_second : (g : Goal) (ps : List Taken) (q : Atom) → GoesOn g ps q → left_of g (onto ps q false) ≡ rest_of (questions g) (onto ps q true)
left_second g ps q h =
    let a = rest_second (questions g) ps q h.asks.yes h.asks.no h.asks.question in
    let b = rest_first (questions g) ps q h.asks.yes h.asks.no h.asks.question in
    let c = ap size (walk_on (questions g) ps q h.asks.yes h.asks.no false h.asks.question) in
    omega (arith, a, b, c)

pub left_first : (g : Goal) (ps : List Taken) (q : Atom) → GoesOn g ps q → left_of g (onto ps q true) < left_of g ps
left_first g ps q h =
    let b = rest_first (questions g) ps q h.asks.yes h.asks.no h.asks.question in
    let c = ap size (walk_on (questions g) ps q h.asks.yes h.asks.no true h.asks.question) in
    let d = ap size h.asks.question in
    omega (arith, b, c, d)

pub rest_below : (g : Goal) (ps : List Taken) → rest_of (questions g) ps < left_of g ps
rest_below g ps = let h = size_positive (end_at g ps) in omega arith

pub left_of_second : (g : Goal) (ps : List Taken) (q : Atom) → GoesOn g ps q → left_of g (onto ps q false) < left_of g ps
left_of_second g ps q h =
    let a = left_second g ps q h in
    let b = rest_below g (onto ps q true) in
    let c = left_first g ps q h in
    omega (arith, a, b, c)
