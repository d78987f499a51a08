-- Reading a text of certificates line by line.
use Rattle.std.specs.Prelude.{ℕ, ◌+◌, ◌<◌, ◌≤◌, ◌^◌, Bool, true, false, cond, ◌&&◌, List, [], ◌∷◌}
use Rattle.std.specs.Prelude.{◌++◌, Option, Some, None, length, map, reverse, nat_lt}
use Rattle.goal_answers.specs.Trees.{Tree, tree_of}
use Rattle.goal_answers.specs.declared.trees.GoalCert.{GoalCert}
use Rattle.goal_answers.specs.declared.trees.Tree as T
use Rattle.cert_text.specs.declared.goal_names.GoalName.{GoalName}
use Rattle.cert_text.specs.declared.lines.Line as D
use Rattle.cert_text.specs.declared.nodes.Node.{Node}
use Rattle.cert_text.specs.declared.nodes.Node.TheVariants.{Question, Whole}
use Rattle.cert_text.specs.declared.nodes.Way as W
use Rattle.cert_text.specs.declared.states.Edition.{Edition}
use Rattle.cert_text.specs.declared.states.Edition.TheVariants as editions
use Rattle.cert_text.specs.declared.states.Place as P
use Rattle.cert_text.specs.declared.states.Reading.{Reading}
use Rattle.cert_text.specs.Certificates.{Certificate, certificates_of, may_follow}
use Rattle.cert_text.specs.Lines.{Line, title, goal, split, whole, farkas, plain, last}
use Rattle.cert_text.specs.declared.versions.Version.{Version}
use Rattle.cert_text.specs.declared.versions.Version.TheVariants as versions

-- A line that the program holds, read as plain data.
abbrev pub line_of : D.Line → Line
line_of (D.TheVariants.Title v) = title v
line_of (D.TheVariants.Goal n) = goal n
line_of D.TheVariants.Split = split
line_of (D.TheVariants.Whole x m) = whole x m
line_of (D.TheVariants.Farkas ms) = farkas ms.items
line_of D.TheVariants.Plain = plain
line_of D.TheVariants.Last = last

-- The node with its two subtrees.
abbrev pub joined : Node → Tree → Tree → Tree
joined Question t u = Tree.split t u
joined (Whole x m) t u = Tree.whole x m t u

-- A node on the path to the open place, which is in its first subtree, or in its second one after
-- the complete first one.
pub data Way : Type 0 where
  first : Node → Way
  second : Node → Tree → Way

-- A tree of which the first lines are read: the nodes from its open place to the root.
abbrev pub Open : Type 0
Open = List Way

-- The result of filling the open place of a tree: a complete tree, or a tree with another open
-- place.
pub data Filled : Type 0 where
  complete : Tree → Filled
  part : Open → Filled

abbrev pub fill : Open → Tree → Filled
fill [] t = complete t
fill (Way.first k ∷ os) t = part (Way.second k t ∷ os)
fill (Way.second k y ∷ os) t = fill os (joined k y t)

-- Whether an integer split is allowed.
abbrev pub may_split : Edition → Bool
may_split editions.One = false
may_split editions.Lacking = true
may_split editions.Two = true

-- Whether the end is allowed.
abbrev pub may_end : Edition → Bool
may_end editions.One = true
may_end editions.Lacking = false
may_end editions.Two = true

-- The edition of a text after its title.
abbrev pub edition_of : Version → Edition
edition_of versions.One = editions.One
edition_of versions.Two = editions.Lacking

-- The state of reading: nothing is read; some certificates are, the latest for this goal; some
-- certificates and the first lines of a tree are; or everything is.
pub data State : Type 0 where
  start : State
  between : Edition → List Certificate → Option GoalName → State
  inside : Edition → List Certificate → GoalName → Open → State
  done : List Certificate → State

abbrev pub filled_state : Edition → List Certificate → GoalName → Filled → State
filled_state e cs n (complete t) = between e (cs ++ (record { name = n; tree = t }) ∷ []) (Some n)
filled_state e cs n (part os) = inside e cs n os

-- The state after one more line, or `None` if the line is not allowed.
abbrev pub next : State → Line → Option State
next start (title v) = Some (between (edition_of v) [] None)
next (between e cs latest) (goal n) = cond (may_follow latest n) (Some (inside e cs n [])) None
next (between e cs latest) last = cond (may_end e) (Some (done cs)) None
next (inside e cs n os) split =
    cond (nat_lt (length os) 999) (Some (inside e cs n (Way.first Question ∷ os))) None
next (inside e cs n os) (whole x m) = cond (may_split e && nat_lt (length os) 999)
    (Some (inside editions.Two cs n (Way.first (Whole x m) ∷ os))) None
next (inside e cs n os) (farkas ms) = Some (filled_state e cs n (fill os (Tree.farkas ms)))
next (inside e cs n os) plain = Some (filled_state e cs n (fill os Tree.plain))
next s l = None

abbrev pub advance : Line → Option State → Option State
advance l None = None
advance l (Some s) = next s l

-- The state after the lines, or `None` if one is not allowed.
abbrev pub run : List Line → Option State → Option State
run [] o = o
run (l ∷ ls) o = run ls (advance l o)

-- A node that the program holds, read as plain data.
abbrev pub way_of : W.Way → Way
way_of (W.TheVariants.First k) = Way.first k
way_of (W.TheVariants.Second k most) = Way.second k (tree_of most.value)

-- The open place that the program holds. Its last node is the innermost one.
abbrev pub open_of : List W.Way → Open
open_of os = reverse (map way_of os)

-- The state that the program holds.
abbrev pub state_at : P.Place → Edition → List GoalCert → List W.Way → State
state_at P.TheVariants.Start e cs os = start
state_at (P.TheVariants.Between latest) e cs os = between e (certificates_of cs) latest
state_at (P.TheVariants.Inside n) e cs os = inside e (certificates_of cs) n (open_of os)
state_at P.TheVariants.Done e cs os = done (certificates_of cs)

abbrev pub state_of : Reading → State
state_of r = state_at r.place r.edition r.certs.items r.way.items

-- The state, or `None` if the line is not allowed.
abbrev pub after : Bool → State → Option State
after allowed s = cond allowed (Some s) None

-- The complete tree, or the open place that is left.
abbrev pub filled_of : Option T.Tree → List W.Way → Filled
filled_of (Some t) os = complete (tree_of t)
filled_of None os = part (open_of os)

-- The row index and the multiplier are within their limits.
pub record IsMultiplier (m : ℕ × ℕ) : Type 0 where
  pub within : m.0 < 2 ^ 32
  pub positive : 0 < m.1
  pub narrow : m.1 < 2 ^ 62

-- The least row index that may follow the multipliers.
abbrev pub index_after : ℕ → List (ℕ × ℕ) → ℕ
index_after least [] = least
index_after least (m ∷ ms) = index_after (m.0 + 1) ms

-- The multipliers are within their limits, and their indexes grow from `least` on.
abbrev pub IsRising : ℕ → List (ℕ × ℕ) → Type 0
IsRising least [] = Unit {0}
IsRising least (m ∷ ms) = (least ≤ m.0) × IsMultiplier m × IsRising (m.0 + 1) ms

-- The line has no numbers.
abbrev pub IsBareLine : Line → Type 0
IsBareLine (title v) = Unit {0}
IsBareLine (goal n) = ⊥
IsBareLine split = Unit {0}
IsBareLine (whole x m) = ⊥
IsBareLine (farkas ms) = ⊥
IsBareLine plain = Unit {0}
IsBareLine last = Unit {0}
