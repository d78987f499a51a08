-- The progress of a walk: the cells before its path, the trees of the branches to the left, the
-- results of the cells, and a bound on what is left.
use Rattle.std.specs.Prelude.{◌≡◌, ◌⊎◌, ℕ, ◌+◌, ◌≤◌, ◌<◌, ◌^◌, List, [], ◌∷◌, ◌++◌, length, take}
use Rattle.std.specs.Prelude.{true, false, Option, Some, None, if◌then◌else◌}
use Rattle.std.specs.List.{All}
use Rattle.heylo_formula.specs.Goals.{Goal}
use Rattle.heylo_formula.specs.TypedGoals.{IsTypedGoal}
use Rattle.region_split.specs.internal.PathFindings.{AreRowsAt, IsEndOf}
use Rattle.heylo_formula.specs.declared.values.Val.{Val}
use Rattle.linear_form.specs.Query.{Query, Atom, Taken, onto}
use Rattle.linear_form.specs.Query.Query.{done, bits, ask}
use Rattle.linear_form.specs.Questions.{questions}
use Rattle.linear_form.specs.Paths.{IsPath, IsQuestionPath, end_at}
use Rattle.linear_form.specs.PathRows.{IsPlainAt}
use Rattle.linear_form.specs.PlainPaths.{path_of, atom_of}
use Rattle.linear_form.specs.Cells.{GoesOn, IsFront}
use Rattle.linear_form.specs.Places.{IsOn}
use Rattle.linear_form.specs.declared.places.Place.{Place}
use Rattle.linear_form.specs.declared.paths.Atom as A
use Rattle.goal_answers.specs.Trees.{Tree, tree_of, depth}
use Rattle.goal_answers.specs.declared.trees.Tree as T
use Rattle.goal_answers.specs.declared.causes.Broken.{Broken}
use Rattle.goal_answers.specs.declared.causes.Cause.{Cause}
use Rattle.linear_form.specs.AskAnswers.{Answers}
use Rattle.linear_form.specs.declared.questions.Ask as K
use Rattle.linear_form.specs.Nonlinear.{nonlinear_product}
use Rattle.linear_form.specs.RowLists.{ArePathRows}
use Rattle.linear_rows.specs.Row.{Row}
use Rattle.region_split.specs.declared.front.End as E
use Rattle.region_split.specs.declared.pieces.Piece.{Piece}
use Rattle.region_split.specs.declared.pieces.Piece.TheVariants as P
use Rattle.region_split.specs.Pieces.{AreEnds, HasFirstPoint}
use Rattle.region_split.specs.Walk.{AreBefore, AreCells}
use Rattle.region_split.specs.WalkTree.{IsWalkTree, IsPieceTree}
use Rattle.region_split.specs.PathPoints.{Breaks, IsBreakOf}
use Rattle.region_split.specs.Decisions.{IsCause, IsDecision, IsFirstPoint, IsFirstBreak}
use Rattle.region_split.specs.Decisions.{IsLookedAt}
use Rattle.region_split.specs.internal.Trails.{Comes, Rises, Stands}
use Rattle.region_split.specs.declared.findings.Found.{Found}
use Rattle.region_split.specs.declared.findings.Found.TheVariants.{Nothing, Break, Point}
use Rattle.region_split.specs.declared.cell.Cell.{Cell}
use Rattle.region_split.specs.declared.cell.Cell.TheVariants.{Judged, Unknown}
use Rattle.region_split.specs.declared.trail.Trail.{Trail}
use Rattle.region_split.specs.declared.ascent.Up.{Up}
use Rattle.region_split.specs.declared.ascent.Up.TheVariants.{Next, Whole}
use Rattle.region_split.specs.declared.walk.Walk.{Walk}
use Rattle.region_split.specs.declared.walk.Step.{Step}
use Rattle.region_split.specs.declared.walk.Step.TheVariants.{On, Asks, Done}

-- ---- Trees

-- `IsGrownTree g ps t`: `t` is the tree of the branch `ps`, and ends at most 1,000 deep in the
-- whole tree.
pub record IsGrownTree (g : Goal) (ps : List Taken) (t : T.Tree) : Type 0 where
  pub is_tree : IsWalkTree g ps (tree_of t)
  pub shallow : length ps + depth (tree_of t) ≤ 1000

-- `IsDeep g ps`: the branch `ps` has a tree, which ends more than 1,000 deep in the whole tree.
pub record IsDeep (g : Goal) (ps : List Taken) : Type 0 where
  pub tree : Tree
  pub is_tree : IsWalkTree g ps tree
  pub deep : 1000 < length ps + depth tree

-- `HasFalsePoint g`: the walk has found a point before some path, so no tree is needed.
pub record HasFalsePoint (g : Goal) : Type 0 where
  pub path : List Taken
  pub before : List (List Taken)
  pub are_before : AreBefore g path before
  pub point : List Val
  pub first : IsFirstPoint g before point

abbrev pub IsGrown : Goal → List Taken → Option T.Tree → Type 0
IsGrown g ps (Some t) = IsGrownTree g ps t
IsGrown g ps None = IsDeep g ps ⊎ HasFalsePoint g

-- `IsPieceGrownTree g n ps t`: `t` is the tree of the piece `ps` after `n` splits, and ends at most
-- 1,000 deep in the whole tree.
pub record IsPieceGrownTree (g : Goal) (n : ℕ) (ps : List Taken) (t : T.Tree) : Type 0 where
  pub is_tree : IsPieceTree g n ps (tree_of t)
  pub shallow : length ps + depth (tree_of t) ≤ 1000

pub record IsPieceDeep (g : Goal) (n : ℕ) (ps : List Taken) : Type 0 where
  pub tree : Tree
  pub is_tree : IsPieceTree g n ps tree
  pub deep : 1000 < length ps + depth tree

abbrev pub IsPieceGrown : Goal → ℕ → List Taken → Option T.Tree → Type 0
IsPieceGrown g n ps (Some t) = IsPieceGrownTree g n ps t
IsPieceGrown g n ps None = IsPieceDeep g n ps

-- `IsLeaf n t l`: `l` is the leaf `t` after `n` answers, or `None` if it ends more than 1,000 deep.
abbrev pub IsLeaf : ℕ → T.Tree → Option T.Tree → Type 0
IsLeaf n t (Some given) = (given ≡ t) × (n < 1000)
IsLeaf n t None = 1000 ≤ n

-- ---- The results of the cells

-- `HoldsAt g ps`: the goal holds in the cell `ps`, trivially or because the cell has no ends.
abbrev pub HoldsAt : Goal → List Taken → Type 0
HoldsAt g ps = IsPlainAt g ps ⊎ AreEnds g 0 ps []

abbrev pub IsFound : Goal → List (List Taken) → Found → Type 0
IsFound g cells Nothing = All (HoldsAt g) cells
IsFound g cells (Break b) = IsFirstBreak g cells b.value
IsFound g cells (Point point) = IsFirstPoint g cells point.items

-- ---- The results of the pieces

-- `IsClosed g n ps tree`: the piece `ps` has no ends, and has the tree `tree`.
pub record IsClosed (g : Goal) (n : ℕ) (ps : List Taken) (tree : Option T.Tree) : Type 0 where
  pub ends : AreEnds g n ps []
  pub grown : IsPieceGrown g n ps tree

-- `IsBroken g n ps b`: the greedy choice breaks at each end of the piece `ps`, and `b` is the first
-- break.
pub record IsBroken (g : Goal) (n : ℕ) (ps : List Taken) (b : Broken) : Type 0 where
  pub path : List Taken
  pub after : List (List Taken)
  pub ends : AreEnds g n ps (path ∷ after)
  pub breaks_here : IsBreakOf g path b
  pub broken_after : All (Breaks g) after

-- `EndsPiece g n ps cause`: if the walk solves the piece `ps` after `n` splits, `cause` ends it.
abbrev pub EndsPiece : Goal → ℕ → List Taken → Cause → Type 0
EndsPiece g n ps cause = (cells : List (List Taken)) → IsLookedAt g n ps cells
    → nonlinear_product g ≡ None → IsCause g cause

abbrev pub IsPieceShown : Goal → ℕ → List Taken → Piece → Type 0
IsPieceShown g n ps (P.Closed tree) = IsClosed g n ps tree
IsPieceShown g n ps (P.Broke b) = IsBroken g n ps b.value
IsPieceShown g n ps (P.Given point) = HasFirstPoint g n ps point.items
IsPieceShown g n ps (P.Unknown cause) = EndsPiece g n ps cause

-- `IsCellStand g ps list count e`: the goal does not hold trivially at the cell `ps`; `list` are
-- its rows with the denied goal, the first `count` of which are those of its answers.
pub record IsCellStand (g : Goal) (ps : List Taken) (list : List Row) (count : ℕ) (e : E.End)
    : Type 0 where
  pub typed : IsTypedGoal g
  pub front : IsFront g ps
  pub end : IsEndOf g ps e
  pub not_plain : e.plain ≡ false
  pub rows : AreRowsAt g ps true list
  pub path_rows : ArePathRows g ps (take count list)
  pub kept : count ≤ length list
  pub short : length ps + 9 + length g.types < 2 ^ 32

-- `IsPieceStand g n ps list e`: `ps` is a piece after `n` splits, `list` are its rows, and `e` are
-- the values at its end.
pub record IsPieceStand (g : Goal) (n : ℕ) (ps : List Taken) (list : List Row) (e : E.End)
    : Type 0 where
  pub is_path : IsPath g ps
  pub values : Answers (K.TheVariants.End e.stated e.found) (end_at g ps)
  pub not_plain : IsPlainAt g ps → ⊥
  pub rows : ArePathRows g ps list
  pub few : n ≤ 8
  pub short : length ps + 9 + length g.types < 2 ^ 32 + n

-- `IsOpen found`: no point is found.
abbrev pub IsOpen : Found → Type 0
IsOpen Nothing = Unit {0}
IsOpen (Break b) = Unit {0}
IsOpen (Point point) = ⊥

-- ---- The position of the walk

-- `IsBranch g ps cells tree`: `cells` are the cells of the branch `ps`, and `tree` is its tree if
-- the goal holds in each of them.
pub record IsBranch (g : Goal) (ps : List Taken) (cells : List (List Taken)) (tree : Option T.Tree)
    : Type 0 where
  pub are_cells : AreCells g ps cells
  pub grown : All (HoldsAt g) cells → IsGrown g ps tree

-- `KnowsPoint g found`: if a point is found, the walk has found it before some path.
abbrev pub KnowsPoint : Goal → Found → Type 0
KnowsPoint g Nothing = Unit {0}
KnowsPoint g (Break b) = Unit {0}
KnowsPoint g (Point point) = HasFalsePoint g

-- `IsJudgedCell g ps found next tree`: the branch of the cell `ps` has the tree `tree`, and the
-- results of the cells up to it are `next` if those before it are `found`.
pub record IsJudgedCell (g : Goal) (ps : List Taken) (found next : Found) (tree : Option T.Tree)
    : Type 0 where
  pub branch : KnowsPoint g found → IsBranch g ps (ps ∷ []) tree
  pub shown : (cells : List (List Taken)) → IsFound g cells found
      → IsFound g (cells ++ (ps ∷ [])) next

abbrev pub IsJudged : Goal → List Taken → Found → Cell → Type 0
IsJudged g ps found (Judged next tree) = IsJudgedCell g ps found next tree
IsJudged g ps found (Unknown cause) = EndsPiece g 0 ps cause

-- `HasBefore g ps cells trees`: `cells` are the cells before the path `ps`, in order, and `trees`
-- the trees of the branches to its left, from the root on.
pub data HasBefore (g : Goal) : List Taken → List (List Taken) → List (Option T.Tree) → Type 0 where
  start : HasBefore g [] [] []
  first : (ps : List Taken) (q : Atom) (cells : List (List Taken)) (trees : List (Option T.Tree))
      → GoesOn g ps q → HasBefore g ps cells trees → HasBefore g (onto ps q true) cells trees
  second : (ps : List Taken) (q : Atom) (cells here : List (List Taken))
      (trees : List (Option T.Tree)) (tree : Option T.Tree) → GoesOn g ps q
      → HasBefore g ps cells trees → IsBranch g (onto ps q true) here tree
      → HasBefore g (onto ps q false) (cells ++ here) (trees ++ (tree ∷ []))

-- `IsAfter g ps trees all tree`: the branch `ps` is finished too, with the tree `tree`, and `all`
-- are the cells up to its last one.
pub record IsAfter (g : Goal) (ps : List Taken) (trees : List (Option T.Tree))
    (all : List (List Taken)) (tree : Option T.Tree) : Type 0 where
  pub before : List (List Taken)
  pub here : List (List Taken)
  pub whole : before ++ here ≡ all
  pub stands : HasBefore g ps before trees
  pub branch : IsBranch g ps here tree

-- ---- A bound on what is left

-- `size t`: the number of comparisons and results of the tree `t`.
abbrev pub size : {A : Type 0} → Query A → ℕ
size (done a) = 1
size bits = 1
size (ask q y n) = size y + size n + 1

-- `rest_of t ps`: the number of comparisons and results to the right of the path `ps`.
abbrev pub rest_of : {A : Type 0} → Query A → List Taken → ℕ
rest_of t [] = 0
rest_of (done a) (p ∷ ps) = 0
rest_of bits (p ∷ ps) = 0
rest_of (ask q y n) (p ∷ ps) = if p.held then rest_of y ps + size n else rest_of n ps

-- `left_of g ps`: the number of comparisons and results from the path `ps` on.
abbrev pub left_of : Goal → List Taken → ℕ
left_of g ps = rest_of (questions g) ps + size (end_at g ps)

-- ---- Steps

-- `IsNextFront g ps all path trees`: after the branch `ps` the walk continues at `path`, and `all`
-- are the cells before it.
pub record IsNextFront (g : Goal) (ps : List Taken) (all : List (List Taken)) (path : List Taken)
    (trees : List (Option T.Tree)) : Type 0 where
  pub stands : HasBefore g path all trees
  pub less : left_of g path < left_of g ps

abbrev pub IsUp : Goal → List Taken → List (List Taken) → Trail → List (Option T.Tree) → Up → Type 0
IsUp g ps all t trees Next = Comes g t × IsNextFront g ps all (path_of t.path.items) trees
IsUp g ps all t trees (Whole tree) = IsBranch g [] all tree

-- `HasRisen g all from t trees tree`: on the way up from the path `from`, the trail `t` is at a
-- finished branch, `all` are the cells up to it, and no more is left to its right than before.
pub record HasRisen (g : Goal) (all : List (List Taken)) (from : List Taken) (t : Trail)
    (trees : List (Option T.Tree)) (tree : Option T.Tree) : Type 0 where
  pub rises : Rises g t
  pub after : IsAfter g (path_of t.path.items) trees all tree
  pub rest : rest_of (questions g) (path_of t.path.items) ≤ rest_of (questions g) from

-- `AreShort g`: the paths of the goal are so short that their rows can be counted, with eight
-- splits after them.
abbrev pub AreShort : Goal → Type 0
AreShort g = (ps : List Taken) → IsQuestionPath g ps → length ps + 9 + length g.types < 2 ^ 32

-- `HasCome g ps w`: the walk `w` is at the path `ps`, and has recorded what is before it.
pub record HasCome (g : Goal) (ps : List Taken) (w : Walk) : Type 0 where
  pub before : List (List Taken)
  pub stands : HasBefore g ps before w.trees.items
  pub found : IsFound g before w.found
  pub counted : length before ≡ w.count
  pub few : w.count ≤ 4096

-- `IsWalk g w`: the walk `w` is at a front whose last answer has no row yet.
pub record IsWalk (g : Goal) (w : Walk) : Type 0 where
  pub come : HasCome g (path_of w.trail.path.items) w
  pub comes : Comes g w.trail

-- `IsStandingWalk g w`: the walk `w` is at a front, and has the rows of all its answers.
pub record IsStandingWalk (g : Goal) (w : Walk) : Type 0 where
  pub come : HasCome g (path_of w.trail.path.items) w
  pub stands : Stands g w.trail

-- `IsFinishedWalk g w tree`: the last branch of the walk `w` is finished, with the tree `tree`.
pub record IsFinishedWalk (g : Goal) (w : Walk) (tree : Option T.Tree) : Type 0 where
  pub stands : Stands g w.trail
  pub all : List (List Taken)
  pub after : IsAfter g (path_of w.trail.path.items) w.trees.items all tree
  pub found : IsFound g all w.found
  pub counted : length all ≡ w.count
  pub few : w.count ≤ 4096

-- `IsAsking g w q p`: the walk `w` is at a kept front, whose next comparison `q` the evaluation `p`
-- asks.
pub record IsAsking (g : Goal) (w : Walk) (q : A.Atom) (p : Place) : Type 0 where
  pub stands : IsStandingWalk g w
  pub goes_on : GoesOn g (path_of w.trail.path.items) (atom_of q)
  pub on : IsOn g (path_of w.trail.path.items) p

-- `IsBelow g n w s`: after the step `s`, the walk `w` has less than `n` left.
abbrev pub IsBelow : Goal → ℕ → Walk → Step → Type 0
IsBelow g n w On = IsWalk g w × (left_of g (path_of w.trail.path.items) < n)
IsBelow g n w (Asks q p) = IsAsking g w q p × (left_of g (path_of w.trail.path.items) < n)
IsBelow g n w (Done d) = IsDecision g d

abbrev pub IsStep : Goal → List Taken → Walk → Step → Type 0
IsStep g ps w s = IsBelow g (left_of g ps) w s

-- `IsAt g w s`: the position of the walk `w` after the step `s`.
abbrev pub IsAt : Goal → Walk → Step → Type 0
IsAt g w On = IsWalk g w
IsAt g w (Asks q p) = IsAsking g w q p
IsAt g w (Done d) = IsDecision g d

-- `left_after g w s`: the bound on what the walk `w` has left after the step `s`.
abbrev pub left_after : Goal → Walk → Step → ℕ
left_after g w On = left_of g (path_of w.trail.path.items) + 1
left_after g w (Asks q p) = left_of g (path_of w.trail.path.items) + 1
left_after g w (Done d) = 0
