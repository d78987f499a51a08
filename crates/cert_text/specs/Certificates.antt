-- Lists of certificates as plain data, and which of them have a text. This project's own.
use Rattle.std.specs.Prelude.{ℕ, ℤ, ◌<◌, ◌≤◌, ◌^◌, ◌==◌, ◌&&◌, ◌||◌, Bool, true, IsTrue, List, []}
use Rattle.std.specs.Prelude.{◌∷◌, Option, Some, None, length, map, nat_lt, unsigned_abs}
use Rattle.std.specs.List.{All, AllByRecursion}
use Rattle.heylo_formula.specs.GoalOrder.{loop_of, stands_before}
use Rattle.goal_answers.specs.Multipliers.{IsGrowing}
use Rattle.goal_answers.specs.Trees.{Tree, tree_of, depth}
use Rattle.goal_answers.specs.declared.trees.GoalCert.{GoalCert}
use Rattle.cert_text.specs.declared.goal_names.GoalName.{GoalName}

-- A tree for a goal of a file.
pub record Certificate : Type 0 where
  pub name : GoalName
  pub tree : Tree

-- A certificate that the program holds, read as plain data.
abbrev pub certificate_of : GoalCert → Certificate
certificate_of c = record { name = record { proc = c.proc; id = c.id }; tree = tree_of c.tree }

-- A list of certificates that the program holds, read as plain data.
abbrev pub certificates_of : List GoalCert → List Certificate
certificates_of cs = map certificate_of cs

-- Whether the goal `m` precedes the goal `n`: it is of an earlier procedure, or earlier in the same
-- one.
abbrev pub precedes : GoalName → GoalName → Bool
precedes m n = nat_lt m.proc n.proc || (m.proc == n.proc && stands_before m.id n.id)

-- Whether the goal `n` may follow the latest one. Any goal may be the first.
abbrev pub may_follow : Option GoalName → GoalName → Bool
may_follow None n = true
may_follow (Some m) n = precedes m n

-- The goals of the certificates are in strictly growing order, and the first one may follow
-- `latest`.
abbrev pub IsGrowingAfter : Option GoalName → List Certificate → Type 0
IsGrowingAfter latest [] = Unit {0}
IsGrowingAfter latest (c ∷ cs) = IsTrue (may_follow latest c.name) × IsGrowingAfter (Some c.name) cs

-- The numbers of the procedure and of the loop have 32 bits.
pub record IsNumbered (n : GoalName) : Type 0 where
  pub proc : n.proc < 2 ^ 32
  pub loop : loop_of n.id < 2 ^ 32

-- One or more multipliers by row index. The indexes grow and have 32 bits, and the multipliers are
-- from 1 to 2^62 - 1.
pub record AreMultipliers (ms : List (ℕ × ℕ)) : Type 0 where
  pub some : 0 < length ms
  pub growing : IsGrowing ms
  pub within : All (λ m. m.0 < 2 ^ 32) ms
  pub positive : All (λ m. 0 < m.1) ms
  pub narrow : All (λ m. m.1 < 2 ^ 62) ms

-- An integer split of the variable `x` at `m`: `x` has 32 bits, and `m` is below 2^62 without its
-- sign.
pub record IsWholeSplit (x : ℕ) (m : ℤ) : Type 0 where
  pub variable : x < 2 ^ 32
  pub number : unsigned_abs m < 2 ^ 62

-- All multipliers of the tree satisfy `AreMultipliers`, and all its integer splits `IsWholeSplit`.
abbrev pub HasNumbers : Tree → Type 0
HasNumbers (Tree.split t u) = HasNumbers t × HasNumbers u
HasNumbers (Tree.farkas ms) = AreMultipliers ms
HasNumbers Tree.plain = Unit {0}
HasNumbers (Tree.whole x m t u) = IsWholeSplit x m × HasNumbers t × HasNumbers u

-- The certificate has a text: its numbers are within the limits, and its tree is at most 1,000
-- deep.
pub record IsWritable (c : Certificate) : Type 0 where
  pub name : IsNumbered c.name
  pub numbers : HasNumbers c.tree
  pub depth : depth c.tree ≤ 1000

-- The list has a text: each certificate has one, and the goals are in strictly growing order.
pub record AreWritable (cs : List Certificate) : Type 0 where
  pub growing : IsGrowingAfter None cs
  pub each : AllByRecursion IsWritable cs
