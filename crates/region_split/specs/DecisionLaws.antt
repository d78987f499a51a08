-- Laws of walks and decisions, for the crates above.
use Rattle.std.specs.Prelude.{◌≡◌, ℕ, ℤ, List, [], Option, Some, None, true}
use Rattle.heyvl_num.specs.Rounding.{floorʳ}
use Rattle.heylo_formula.specs.Goals.{Goal}
use Rattle.linear_form.specs.Query.{Taken}
use Rattle.linear_form.specs.Nonlinear.{nonlinear_product}
use Rattle.heylo_formula.specs.TypedGoals.{IsTypedGoal, HasItsVariables}
use Rattle.heylo_formula.specs.declared.types.Ty.{Ty}
use Rattle.linear_elim.specs.Answers.{IsAnswer}
use Rattle.linear_elim.specs.declared.answers.Elim.TheVariants as eliminations
use Rattle.linear_rows.specs.Row.{Row}
use Rattle.linear_rows.specs.Terms.{is_narrow}
use Rattle.goal_answers.specs.declared.causes.Broken.{Broken}
use Rattle.goal_answers.specs.declared.causes.Cause.{Cause}
use Rattle.goal_answers.specs.declared.causes.Cause.TheVariants.{Nonlinear, Cells, Rows, Bits}
use Rattle.goal_answers.specs.declared.causes.Cause.TheVariants.{Fraction}
use Rattle.goal_answers.specs.Trees.{Tree, tree_of, depth}
use Rattle.farkas_check.specs.AcceptedCertificates.{IsCertificate}
use Rattle.goal_answers.specs.declared.trees.Tree as T
use Rattle.region_split.specs.Walk.{AreCells, AreBefore}
use Rattle.region_split.specs.WalkTree.{IsWalkTree}
use Rattle.region_split.specs.Decisions.{IsDecision}
use Rattle.region_split.specs.Meanings.{Tells}
use Rattle.goal_answers.specs.declared.decisions.Decision.{Decision}
use Rattle.goal_answers.specs.declared.decisions.Decision.TheVariants.{Proved, Falsified, Unknown}

-- A typed goal that is proved holds in each state; one that is falsified fails in the state that is
-- shown.
abbrev pub DecisionsTell : Type 0
DecisionsTell = (g : Goal) (d : Decision) → IsTypedGoal g → HasItsVariables g → IsDecision g d
    → Tells g d

-- The tree of the walk through a goal without nonlinear products is a certificate of the goal.
abbrev pub TreesCertify : Type 0
TreesCertify = (g : Goal) (t : Tree) → nonlinear_product g ≡ None → IsWalkTree g [] t
    → IsCertificate g t

-- `AreAlike t u`: the trees `t` and `u` differ only in their multipliers.
pub data AreAlike : Tree → Tree → Type 0 where
  split : (t u v w : Tree) → AreAlike t v → AreAlike u w
      → AreAlike (Tree.split t u) (Tree.split v w)
  farkas : (ms ns : List (ℕ × ℕ)) → AreAlike (Tree.farkas ms) (Tree.farkas ns)
  plain : AreAlike Tree.plain Tree.plain
  whole : (x : ℕ) (m : ℤ) (t u v w : Tree) → AreAlike t v → AreAlike u w
      → AreAlike (Tree.whole x m t u) (Tree.whole x m v w)

-- The tree of the walk from the path `ps` on is unique except for its multipliers.
abbrev pub TreesAreAlike : Type 0
TreesAreAlike = (g : Goal) (ps : List Taken) (t u : Tree) → IsWalkTree g ps t → IsWalkTree g ps u
    → AreAlike t u

-- The depth of the tree of the walk from the path `ps` on is unique.
abbrev pub DepthIsUnique : Type 0
DepthIsUnique = (g : Goal) (ps : List Taken) (t u : Tree) → IsWalkTree g ps t → IsWalkTree g ps u
    → depth t ≡ depth u

-- The cells that begin with the path `ps`, and their order, are unique.
abbrev pub CellsAreUnique : Type 0
CellsAreUnique = (g : Goal) (ps : List Taken) (cs ds : List (List Taken)) → AreCells g ps cs
    → AreCells g ps ds → cs ≡ ds

-- If the walk reaches the front `ps`, the cells before it, and their order, are unique.
abbrev pub CellsBeforeAreUnique : Type 0
CellsBeforeAreUnique = (g : Goal) (ps : List Taken) (cs ds : List (List Taken)) → AreBefore g ps cs
    → AreBefore g ps ds → cs ≡ ds

-- `IsSameBreak b c`: the breaks `b` and `c` are equal.
pub record IsSameBreak (b c : Broken) : Type 0 where
  pub var : b.var ≡ c.var
  pub earlier : b.earlier.items ≡ c.earlier.items
  pub low : b.low ≡ c.low
  pub low_in : b.low_in ≡ c.low_in
  pub high : b.high ≡ c.high
  pub high_in : b.high_in ≡ c.high_in

-- `GiveAlike t u`: both trees exist and differ only in their multipliers, or neither exists.
abbrev pub GiveAlike : Option T.Tree → Option T.Tree → Type 0
GiveAlike (Some t) (Some u) = AreAlike (tree_of t) (tree_of u)
GiveAlike None None = Unit {0}
GiveAlike (Some t) None = ⊥
GiveAlike None (Some u) = ⊥

-- `IsOfLimits d`: the decision `d` is that there are more than 4,096 rows, or an overflow.
abbrev pub IsOfLimits : Decision → Type 0
IsOfLimits (Unknown (Rows steps count)) = Unit {0}
IsOfLimits (Unknown Bits) = Unit {0}
IsOfLimits d = ⊥

-- `IsSameCause b c`: `b` and `c` are the same nonlinear product, the same number of cells, or the
-- same break of the greedy choice. No other cause counts, not even as the same as itself: not
-- `Rows` and `Bits`, and not `Depth` and `Nodes`, which are no causes of a decision.
abbrev pub IsSameCause : Cause → Cause → Type 0
IsSameCause (Nonlinear s) (Nonlinear r) = s ≡ r
IsSameCause (Cells m) (Cells n) = m ≡ n
IsSameCause (Fraction b) (Fraction c) = IsSameBreak b c
IsSameCause b c = ⊥

-- `IsSameDecision d e`: the decisions `d` and `e` are equal, except for the multipliers of a tree.
-- Unknown ones have causes that satisfy `IsSameCause`.
abbrev pub IsSameDecision : Decision → Decision → Type 0
IsSameDecision (Proved t) (Proved u) = GiveAlike t u
IsSameDecision (Falsified p) (Falsified q) = p.items ≡ q.items
IsSameDecision (Unknown c) (Unknown d) = IsSameCause c d
IsSameDecision d e = ⊥

-- If the greedy choice breaks, the low end of its interval rounded down, at which a piece is split,
-- is below 2^62 in absolute value.
abbrev pub SplitsAreNarrow : Type 0
SplitsAreNarrow = (rows : List Row) (types : List Ty) (b : Broken)
    → IsAnswer rows types (eliminations.Fraction b) → is_narrow (floorʳ b.low) ≡ true

-- A goal has one decision, except for the multipliers of its tree, unless there are more than 4,096
-- rows or a number overflows.
abbrev pub DecisionsAreUnique : Type 0
DecisionsAreUnique = (g : Goal) (d e : Decision) → IsDecision g d → IsDecision g e
    → (IsOfLimits d → ⊥) → (IsOfLimits e → ⊥) → IsSameDecision d e
