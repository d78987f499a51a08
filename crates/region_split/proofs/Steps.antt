-- The steps of a walk.
use Rattle.std.proofs.Common.{◌≡◌, ℕ, ◌+◌, ◌<◌, ◌≤◌, ◌^◌, List, [], ◌∷◌, ◌++◌, length, take, refl, sym, ap, ◌∙◌, subst, arith, length-append, Vec, Global, Bool, true, false, inl, inr}
use Rattle.std.specs.Prelude.{Option, Some, None, Result, IfOk, option_to_list}
use Rattle.std.specs.Option.{option_flatten}
use Rattle.std.proofs.lemmas.List.Elements.{All-nil}
use Rattle.std.proofs.lemmas.List.{append-nil, length-map}
use Rattle.heylo_formula.specs.Goals.{Goal}
use Rattle.heylo_formula.specs.declared.values.Val.{Val}
use Rattle.linear_form.specs.Query.{Atom, Taken, onto}
use Rattle.linear_form.specs.Query.Query.{done}
use Rattle.linear_form.specs.Questions.{Ends, questions}
use Rattle.linear_form.specs.Paths.{IsQuestionPath, IsPath, end_at}
use Rattle.linear_form.specs.PathRows.{IsPlainAt}
use Rattle.linear_form.specs.PlainPaths.{path_of, taken_of, atom_of}
use Rattle.linear_form.specs.Cells.{GoesOn, IsCell, IsFront}
use Rattle.linear_form.specs.declared.paths.Taken as T
use Rattle.goal_answers.specs.declared.causes.Broken.{Broken}
use Rattle.farkas_check.specs.AcceptedCertificates.{IsRefutedWith}
use Rattle.goal_answers.specs.declared.trees.Tree as F
use Rattle.linear_form.specs.Nonlinear.{nonlinear_product}
use Rattle.goal_answers.specs.declared.causes.Cause.{Cause}
use Rattle.region_split.specs.Walk.{IsReached}
use Rattle.region_split.specs.Decisions.{HasCells, IsCause}
use Rattle.region_split.specs.Pieces.{HasFirstPoint, IsPieceOf}
use Rattle.linear_form.proofs.exported.PathSteps.{plain_path}
use Rattle.heylo_formula.specs.TypedGoals.{IsTypedGoal}
use Rattle.linear_form.specs.RowLists.{ArePathRows}
use Rattle.linear_rows.specs.Row.{Row}
use Rattle.region_split.specs.internal.PathFindings.{AreRowsAt, EndsWalk, IsEnd, IsEndOf, IsPointAt, IsMetAt}
use Rattle.region_split.specs.declared.front.End as E
use Rattle.region_split.proofs.Trails.{starts_length}
use Rattle.region_split.specs.internal.Trails.{Comes, ComesBy, Rises, Stands, StandsAt, IsDroppedBy}
use Rattle.region_split.specs.internal.Progress.{EndsPiece, HoldsAt, AreShort, IsBroken, IsCellStand, IsClosed, IsGrown, IsLeaf, KnowsPoint, IsBranch, HasBefore, IsAfter, HasRisen, IsNextFront, IsFound, HasCome, IsWalk, IsStandingWalk, IsFinishedWalk, IsBelow, IsStep, IsJudgedCell, rest_of, left_of}
use Rattle.region_split.specs.declared.findings.Found.{Found}
use Rattle.region_split.specs.declared.trail.Trail.{Trail}
use Rattle.region_split.specs.declared.walk.Walk.{Walk}
use Rattle.region_split.specs.declared.walk.Step.{Step}
use Rattle.region_split.proofs.WalkMoves.{taken, in_first, in_second, after_second, before_second, after_start, left_second, left_first, rest_below, rest_up, after_first, rest_up_first}
use Rattle.region_split.proofs.CellOrder.{are_before, front_path, stands_front, reached, cell_here, many_cells}
use Rattle.region_split.proofs.CellsFound.{found_holds, met_is_false, point_longer}
use Rattle.region_split.proofs.Leaves.{broken_branch, closed_branch, closed_leaf, dropped_leaf, further_branch, given_branch, plain_leaf, dropped_finished, cell_finished}

-- ---- The paths of the program

pub path_onto : (xs ys : List Taken) (p : T.Taken) (b : Bool) → ys ≡ xs ++ (taken_of p ∷ []) → p.held ≡ b → ys ≡ onto xs (atom_of p.atom) b
path_onto xs ys p b e h = e ∙ ap (λ c. xs ++ (taken (atom_of p.atom) c ∷ [])) h

pub path_length : (xs : List T.Taken) (n : ℕ) → n ≡ length xs → n ≡ length (path_of xs)
path_length xs n e = let l = length-map xs taken_of in omega (arith, l, e)

-- ---- Going up

pub next_branch : (g : Goal) (all : List (List Taken)) (from : List Taken) (t before next : Trail) (trees more : List (Option F.Tree)) (tree : Option F.Tree) (p q : T.Taken) → HasRisen g all from t trees tree → path_of t.path.items ≡ path_of before.path.items ++ (taken_of p ∷ []) → p.held ≡ true → ComesBy g before q next → q.atom ≡ p.atom → q.held ≡ false → more ≡ trees ++ (tree ∷ []) → Comes g next × IsNextFront g from all (path_of next.path.items) more
next_branch g all from t before next trees more tree p q r e h n k l m =
    let xs = path_of before.path.items in
    let b = path_onto xs (path_of t.path.items) p true e h in
    let c : path_of next.path.items ≡ onto xs (atom_of p.atom) false = path_onto xs (path_of next.path.items) q false n.path l ∙ ap (λ x. onto xs (atom_of x) false) k in
    let d = subst (λ ps. IsAfter g ps trees all tree) b r.after in
    let s = in_first g (onto xs (atom_of p.atom) true) xs (atom_of p.atom) d.before trees refl d.stands in
    let o = left_second g xs (atom_of p.atom) s.goes_on in
    let u = ap (rest_of (questions g)) b in
    let v = rest_below g from in
    let w = ap (left_of g) c in
    let x = r.rest in (
      n.comes,
      record {
        stands = subst (λ ps. HasBefore g ps all more) (sym c) (subst (λ ts. HasBefore g (onto xs (atom_of p.atom) false) all ts) (sym m) (before_second g xs (atom_of p.atom) trees all tree d));
        less = omega (arith, o, u, v, w, x);
      },
    )

last_tree : (trees others : List (Option F.Tree)) (left : Option (Option F.Tree)) (known : List (Option F.Tree)) (tree : Option F.Tree) → known ++ (tree ∷ []) ≡ trees → (left ≡ None → length trees ≡ 0) → trees ≡ others ++ option_to_list left → trees ≡ others ++ (option_flatten left ∷ [])
last_tree trees others (Some t) known tree k n e = e
last_tree trees others None [] tree k n e = let l = n refl in let m = ap length k in absurd (omega (arith, l, m))
last_tree trees others None (x ∷ known) tree k n e = let l = n refl in let m : length (x ∷ (known ++ (tree ∷ []))) ≡ length trees = ap length k in absurd (omega (arith, l, m))

pub question_finished : (g : Goal) (all : List (List Taken)) (from : List Taken) (t before : Trail) (trees others : List (Option F.Tree)) (tree joined : Option F.Tree) (left : Option (Option F.Tree)) (flat : Option F.Tree) (p : T.Taken) → HasRisen g all from t trees tree → Rises g before → path_of t.path.items ≡ path_of before.path.items ++ (taken_of p ∷ []) → p.held ≡ false → (left ≡ None → length trees ≡ 0) → trees ≡ others ++ option_to_list left → flat ≡ option_flatten left → ((ps : List Taken) (q : Atom) → GoesOn g ps q → IsGrown g (onto ps q true) flat → IsGrown g (onto ps q false) tree → IsGrown g ps joined) → HasRisen g all from before others joined
question_finished g all from t before trees others tree joined left flat p r z e h n f k j =
    let xs = path_of before.path.items in
    let b = path_onto xs (path_of t.path.items) p false e h in
    let d = subst (λ ps. IsAfter g ps trees all tree) b r.after in
    let s = in_second g (onto xs (atom_of p.atom) false) xs (atom_of p.atom) d.before trees refl d.stands in
    let u = last_tree trees others left s.others s.tree s.whole_trees n f in
    record {
      rises = z;
      after = after_second g xs (atom_of p.atom) trees others all (option_flatten left) tree joined d u (λ m x y. j xs (atom_of p.atom) m (subst (IsGrown g (onto xs (atom_of p.atom) true)) (sym k) x) y);
      rest = let e = rest_up g xs (atom_of p.atom) s.goes_on in let m = ap (rest_of (questions g)) b in let l = r.rest in omega (arith, e, m, l);
    }

pub question_closed : (g : Goal) (all : List (List Taken)) (from : List Taken) (t before : Trail) (trees : List (Option F.Tree)) (tree right joined : Option F.Tree) (p : T.Taken) (ms : Vec (ℕ × ℕ) Global) (n : ℕ) → HasRisen g all from t trees tree → Rises g before → path_of t.path.items ≡ path_of before.path.items ++ (taken_of p ∷ []) → p.held ≡ true → (p.held ≡ true → IsDroppedBy g (onto (path_of before.path.items) (atom_of p.atom) false) ms.items) → n ≡ length (path_of t.path.items) → IsLeaf n (F.Farkas ms) right → ((ps : List Taken) (q : Atom) → GoesOn g ps q → IsGrown g (onto ps q true) tree → IsGrown g (onto ps q false) right → IsGrown g ps joined) → HasRisen g all from before trees joined
question_closed g all from t before trees tree right joined p ms n r z e h w m k j =
    let xs = path_of before.path.items in
    let b = path_onto xs (path_of t.path.items) p true e h in
    let d = subst (λ ps. IsAfter g ps trees all tree) b r.after in
    let s = in_first g (onto xs (atom_of p.atom) true) xs (atom_of p.atom) d.before trees refl d.stands in
    let l = ap length e in
    let a = length-append xs (taken_of p ∷ []) in
    let c = length-append xs (taken (atom_of p.atom) false ∷ []) in
    let o : n ≡ length (onto xs (atom_of p.atom) false) = omega (arith, m, l, a, c) in
    let f = dropped_leaf g (onto xs (atom_of p.atom) false) ms right (subst (λ i. IsLeaf i (F.Farkas ms) right) o k) (w h) in
    record {
      rises = z;
      after = after_first g xs (atom_of p.atom) trees all tree right joined d f (j xs (atom_of p.atom));
      rest = let u = rest_up_first g xs (atom_of p.atom) s.goes_on in let m = ap (rest_of (questions g)) b in let l = r.rest in omega (arith, u, m, l);
    }

pub all_finished : (g : Goal) (all : List (List Taken)) (from : List Taken) (t : Trail) (trees : List (Option F.Tree)) (tree : Option F.Tree) → HasRisen g all from t trees tree → path_of t.path.items ≡ [] → IsBranch g [] all tree
all_finished g all from t trees tree r e = after_start g trees all tree (subst (λ ps. IsAfter g ps trees all tree) e r.after)

-- ---- Going down

pub deeper_walk : (g : Goal) (w next : Walk) (p : T.Taken) → IsStandingWalk g w → GoesOn g (path_of w.trail.path.items) (atom_of p.atom) → ComesBy g w.trail p next.trail → p.held ≡ true → next.trees ≡ w.trees → next.count ≡ w.count → next.found ≡ w.found → IsWalk g next × (left_of g (path_of next.trail.path.items) < left_of g (path_of w.trail.path.items))
deeper_walk g w next p h k o b t n f =
    let ps = path_of w.trail.path.items in
    let c = path_onto ps (path_of next.trail.path.items) p true o.path b in
    let l = left_first g ps (atom_of p.atom) k in
    let m = ap (left_of g) c in
    let i = h.come in (
      record {
        comes = o.comes;
        come = record {
          before = i.before;
          stands = subst (λ qs. HasBefore g qs i.before next.trees.items) (sym c) (subst (λ ts. HasBefore g (onto ps (atom_of p.atom) true) i.before ts.items) (sym t) (HasBefore.first ps (atom_of p.atom) i.before w.trees.items k i.stands));
          found = subst (IsFound g i.before) (sym f) i.found;
          counted = i.counted ∙ sym n;
          few = let j = i.few in omega (arith, j, n);
        };
      },
      omega (arith, l, m),
    )

pub next_walk : (g : Goal) (w next : Walk) (tree : Option F.Tree) (h : IsFinishedWalk g w tree) → Comes g next.trail → IsNextFront g (path_of w.trail.path.items) h.all (path_of next.trail.path.items) next.trees.items → next.count ≡ w.count → next.found ≡ w.found → IsWalk g next × (left_of g (path_of next.trail.path.items) < left_of g (path_of w.trail.path.items))
next_walk g w next tree h c k n f = (
  record {
    comes = c;
    come = record {
      before = h.all;
      stands = k.stands;
      found = subst (IsFound g h.all) (sym f) h.found;
      counted = h.counted ∙ sym n;
      few = let i = h.few in omega (arith, i, n);
    };
  },
  k.less,
)

-- ---- The position of a walk

pub come_front : (g : Goal) (ps : List Taken) (w : Walk) → HasCome g ps w → IsFront g ps
come_front g ps w h = stands_front g ps h.before w.trees.items h.stands

pub come_asked : (g : Goal) (ps : List Taken) (w : Walk) → HasCome g ps w → IsQuestionPath g ps
come_asked g ps w h = front_path g ps (come_front g ps w h)

pub come_path : (g : Goal) (ps : List Taken) (w : Walk) → HasCome g ps w → IsPath g ps
come_path g ps w h = plain_path g ps (come_asked g ps w h)

come_reached : (g : Goal) (ps : List Taken) (w : Walk) (h : HasCome g ps w) → IsReached g ps h.before
come_reached g ps w h = let c = h.counted in let f = h.few in reached g ps h.before w.trees.items h.stands (omega (arith, c, f))

-- The walk with its trail at the front.
abbrev pub with_trail : Walk → Trail → Walk
with_trail w t = record { trail = t; trees = w.trees; count = w.count; found = w.found }

pub standing : (g : Goal) (w : Walk) (t : Trail) → HasCome g (path_of w.trail.path.items) w → StandsAt g (path_of w.trail.path.items) t → IsStandingWalk g (with_trail w t)
standing g w t i s = record {
  stands = s.stands;
  come = subst (λ ps. HasCome g ps (with_trail w t)) (sym s.path) (record {
    before = i.before;
    stands = i.stands;
    found = i.found;
    counted = i.counted;
    few = i.few;
  });
}

pub standing_first : (g : Goal) (w : Walk) (t : Trail) (q : Atom) → IsStandingWalk g w → GoesOn g (path_of w.trail.path.items) q → StandsAt g (onto (path_of w.trail.path.items) q true) t → IsStandingWalk g (with_trail w t)
standing_first g w t q h k s =
    let i = h.come in
    record {
      stands = s.stands;
      come = subst (λ ps. HasCome g ps (with_trail w t)) (sym s.path) (record {
        before = i.before;
        stands = HasBefore.first (path_of w.trail.path.items) q i.before w.trees.items k i.stands;
        found = i.found;
        counted = i.counted;
        few = i.few;
      });
    }

pub standing_second : (g : Goal) (w next : Walk) (q : Atom) (ms : Vec (ℕ × ℕ) Global) (tree : Option F.Tree) (m : ℕ) → IsStandingWalk g w → GoesOn g (path_of w.trail.path.items) q → StandsAt g (onto (path_of w.trail.path.items) q false) next.trail → IsDroppedBy g (onto (path_of w.trail.path.items) q true) ms.items → m ≡ length (path_of next.trail.path.items) → IsLeaf m (F.Farkas ms) tree → next.trees.items ≡ w.trees.items ++ (tree ∷ []) → next.count ≡ w.count → next.found ≡ w.found → IsStandingWalk g next
standing_second g w next q ms tree m h k s d t e r n f =
    let i = h.come in
    let ps = path_of w.trail.path.items in
    let l = ap length s.path in
    let a = length-append ps (taken q true ∷ []) in
    let c = length-append ps (taken q false ∷ []) in
    let o : m ≡ length (onto ps q true) = omega (arith, t, l, a, c) in
    let b = dropped_leaf g (onto ps q true) ms tree (subst (λ i. IsLeaf i (F.Farkas ms) tree) o e) d in
    record {
      stands = s.stands;
      come = subst (λ qs. HasCome g qs next) (sym s.path) (record {
        before = i.before;
        stands = subst (HasBefore g (onto ps q false) i.before) (sym r) (subst (λ cs. HasBefore g (onto ps q false) cs (w.trees.items ++ (tree ∷ []))) (append-nil i.before) (HasBefore.second ps q i.before [] w.trees.items tree k i.stands b));
        found = subst (IsFound g i.before) (sym f) i.found;
        counted = i.counted ∙ sym n;
        few = let j = i.few in omega (arith, j, n);
      });
    }

below_more : (g : Goal) (n m : ℕ) (w : Walk) (s : Step) → n ≤ m → IsBelow g n w s → IsBelow g m w s
below_more g n m w Step.On l h = (h.0, let k = h.1 in omega (arith, k, l))
below_more g n m w (Step.Asks q p) l h = (h.0, let k = h.1 in omega (arith, k, l))
below_more g n m w (Step.Done d) l h = h

pub step_below : {E : Type 0} (g : Goal) (n m : ℕ) (w : Walk) (r : Result Step E) → n ≤ m → IfOk r (λ s. IsBelow g n w s) → IfOk r (λ s. IsBelow g m w s)
step_below g n m w (Result.Ok s) l h = below_more g n m w s l h
step_below g n m w (Result.Err e) l h = h

pub here : (g : Goal) (t : Trail) → Stands g t → StandsAt g (path_of t.path.items) t
here g t s = record { stands = s; path = refl }

pub step_from : {E : Type 0} (g : Goal) (ps qs : List Taken) (w : Walk) (r : Result Step E) → qs ≡ ps → IfOk r (λ s. IsStep g qs w s) → IfOk r (λ s. IsStep g ps w s)
step_from g ps qs w r e h = subst (λ xs. IfOk r (λ s. IsStep g xs w s)) e h

pub front_ends : (g : Goal) (ps : List Taken) (w : Walk) (cause : Cause) → nonlinear_product g ≡ None → HasCome g ps w → EndsWalk g ps false cause → IsCause g cause
front_ends g ps w cause l h r = r h.before (come_reached g ps w h) l

pub cell_ends : (g : Goal) (ps : List Taken) (w : Walk) (plain : Bool) (cause : Cause) → nonlinear_product g ≡ None → HasCome g ps w → IsEnd g ps plain → w.count < 4096 → (IsPlainAt g ps → ⊥) → EndsPiece g 0 ps cause → IsCause g cause
cell_ends g ps w plain cause l h e f n r = r h.before (record { cell = ps; reached = come_reached g ps w h; few = (let c = h.counted in omega (arith, c, f)); is_cell = cell_here g ps plain (come_front g ps w h) e; not_plain = n; piece = IsPieceOf.whole }) l

pub walk_short : (g : Goal) (ps : List T.Taken) → AreShort g → IsQuestionPath g (path_of ps) → length ps + 1 + length g.types < 2 ^ 32
walk_short g ps s p = let l = length-map ps taken_of in let h = s (path_of ps) p in omega (arith, l, h)

pub dropped_walk : (g : Goal) (w : Walk) (ms : Vec (ℕ × ℕ) Global) (tree : Option F.Tree) (n : ℕ) → n ≡ length (path_of w.trail.path.items) → IsLeaf n (F.Farkas ms) tree → IsStandingWalk g w → IsDroppedBy g (path_of w.trail.path.items) ms.items → IsFinishedWalk g w tree
dropped_walk g w ms tree n e l h d = dropped_finished g w tree h (dropped_leaf g (path_of w.trail.path.items) ms tree (subst (λ i. IsLeaf i (F.Farkas ms) tree) e l) d)

-- ---- Another cell

pub all_counted : (g : Goal) (ps : List Taken) (w : Walk) (plain : Bool) → HasCome g ps w → IsEnd g ps plain → 4096 ≤ w.count → HasCells g 4097
all_counted g ps w plain h e l = let c = h.counted in let f = h.few in many_cells g ps h.before w.trees.items plain h.stands e (omega (arith, c, f))

pub not_plain_there : (g : Goal) (ps : List Taken) (plain : Bool) → IsEnd g ps plain → plain ≡ false → IsPlainAt g ps → ⊥
not_plain_there g ps plain e k p = let m = e.holds_plainly.1 p in let n : true ≡ false = sym m ∙ k in absurd (cc)

judged : (g : Goal) (ps : List Taken) (found next : Found) (tree : Option F.Tree) → IsBranch g ps (ps ∷ []) tree → ((cells : List (List Taken)) → IsFound g cells found → IsFound g (cells ++ (ps ∷ [])) next) → IsJudgedCell g ps found next tree
judged g ps found next tree b f = record { branch = λ _. b; shown = f }

pub plain_cell : (g : Goal) (ps : List Taken) (found : Found) (plain : Bool) (tree : Option F.Tree) (n : ℕ) → n ≡ length ps → IsLeaf n F.Plain tree → IsEnd g ps plain → plain ≡ true → IsJudgedCell g ps found found tree
plain_cell g ps found plain tree n l t e k = let p = e.holds_plainly.0 k in judged g ps found found tree (plain_leaf g ps plain tree (subst (λ i. IsLeaf i F.Plain tree) l t) e p) (λ cells i. found_holds g cells ps found i (inl p))

pub cell_of : (g : Goal) (ps : List Taken) (plain : Bool) → IsFront g ps → IsEnd g ps plain → IsCell g ps
cell_of g ps plain f e = cell_here g ps plain f e

pub closed_cell : (g : Goal) (ps : List Taken) (found : Found) (tree : Option F.Tree) → IsCell g ps → IsClosed g 0 ps tree → IsJudgedCell g ps found found tree
closed_cell g ps found tree c h = judged g ps found found tree (closed_branch g ps tree c h) (λ cells i. found_holds g cells ps found i (inr h.ends))

pub broken_cell : (g : Goal) (ps : List Taken) (found next : Found) (b : Broken) → IsCell g ps → (IsPlainAt g ps → ⊥) → IsBroken g 0 ps b → ((cells : List (List Taken)) (ps : List Taken) → IsFound g cells found → IsBroken g 0 ps b → IsFound g (cells ++ (ps ∷ [])) next) → IsJudgedCell g ps found next None
broken_cell g ps found next b c n k f = judged g ps found next None (broken_branch g ps b c n k) (λ cells i. f cells ps i k)

pub given_cell : (g : Goal) (ps : List Taken) (found next : Found) (p : List Val) → IsCell g ps → HasFirstPoint g 0 ps p → ((cells : List (List Taken)) (ps : List Taken) → IsFound g cells found → IsCell g ps → HasFirstPoint g 0 ps p → IsFound g (cells ++ (ps ∷ [])) next) → IsJudgedCell g ps found next None
given_cell g ps found next p c a f = judged g ps found next None (given_branch g ps p c a) (λ cells i. f cells ps i c a)

-- A further cell after a point is known: its rows are refuted, or it is false.
pub refuted_cell : (g : Goal) (ps : List Taken) (point : Vec Val Global) (e : Ends) (ms : Vec (ℕ × ℕ) Global) (tree : Option F.Tree) (n : ℕ) → n ≡ length ps → IsLeaf n (F.Farkas ms) tree → IsCell g ps → end_at g ps ≡ done e → (IsPlainAt g ps → ⊥) → IsRefutedWith g ps true ms.items → IsJudgedCell g ps (Found.Point point) (Found.Point point) tree
refuted_cell g ps point e ms tree n l t c h k r = closed_cell g ps (Found.Point point) tree c (closed_leaf g 0 ps e ms tree (subst (λ i. IsLeaf i (F.Farkas ms) tree) l t) h k r)

pub further_cell : (g : Goal) (ps : List Taken) (point : Vec Val Global) → IsCell g ps → (IsPlainAt g ps → ⊥) → IsMetAt g ps true → IsJudgedCell g ps (Found.Point point) (Found.Point point) None
further_cell g ps point c k p = record { branch = λ h. further_branch g ps c (met_is_false g ps k p) h; shown = λ cells j. point_longer g cells ps point.items j }

knows_point : (g : Goal) (ps : List Taken) (w : Walk) → HasCome g ps w → KnowsPoint g w.found
knows_point g ps w h = go w.found h.found
  where
    go : (f : Found) → IsFound g h.before f → KnowsPoint g f
    go Found.Nothing i = tt
    go (Found.Break b) i = tt
    go (Found.Point p) i = record { path = ps; before = h.before; are_before = are_before g ps h.before w.trees.items h.stands; point = p.items; first = i }

pub cell_walk : (g : Goal) (w next : Walk) (found : Found) (tree : Option F.Tree) → IsStandingWalk g w → w.count < 4096 → StandsAt g (path_of w.trail.path.items) next.trail → next.count ≡ w.count + 1 → next.trees ≡ w.trees → next.found ≡ found → IsJudgedCell g (path_of w.trail.path.items) w.found found tree → IsFinishedWalk g next tree
cell_walk g w next found tree h l s k t f j = cell_finished g w next tree h l k s t (j.branch (knows_point g (path_of w.trail.path.items) w h.come)) (λ cells i. subst (IsFound g (cells ++ (path_of w.trail.path.items ∷ []))) (sym f) (j.shown cells i))

-- The premises for deciding a cell: its rows with the denied goal, which begin with those of its
-- answers.
pub cell_stands : (g : Goal) (w : Walk) (path : List T.Taken) (list : List Row) (kept : ℕ) (e : E.End) → IsTypedGoal g → AreShort g → IsStandingWalk g w → IsEndOf g (path_of w.trail.path.items) e → e.plain ≡ false → path ≡ w.trail.path.items → AreRowsAt g (path_of w.trail.path.items) true list → kept ≡ length w.trail.rows.items → take (length w.trail.rows.items) list ≡ w.trail.rows.items → IsCellStand g (path_of path) list kept e
cell_stands g w path list kept e t s h a n p r k f =
    let ps = path_of w.trail.path.items in
    subst (λ xs. IsCellStand g (path_of xs) list kept e) (sym p) (record {
      typed = t;
      front = come_front g ps w h.come;
      end = a;
      not_plain = n;
      rows = r;
      path_rows = subst (ArePathRows g ps) (sym (ap (λ m. take m list) k ∙ f)) h.stands.rows;
      kept = starts_length w.trail.rows.items list kept f k;
      short = s ps (come_asked g ps w h.come);
    })

-- ---- The start

pub start_walk : (g : Goal) (w : Walk) → Comes g w.trail → path_of w.trail.path.items ≡ [] → w.trees.items ≡ [] → w.count ≡ 0 → w.found ≡ Found.Nothing → IsWalk g w
start_walk g w c e t n f = record {
  comes = c;
  come = record {
    before = [];
    stands = subst (λ ps. HasBefore g ps [] w.trees.items) (sym e) (subst (HasBefore g [] []) (sym t) HasBefore.start);
    found = subst (IsFound g []) (sym f) (All-nil (HoldsAt g));
    counted = sym n;
    few = omega (arith, n);
  };
}

pub point_length : (g : Goal) (ps : List Taken) (denied : Bool) (point : List Val) → IsPointAt g ps denied point → length point ≡ length g.types
point_length g ps denied point p = p.greedy.state.each
