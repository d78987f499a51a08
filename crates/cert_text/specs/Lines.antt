-- The lines of a text of certificates. This project's own.
use Rattle.std.specs.Prelude.{ℕ, ℤ, List, [], ◌∷◌, ◌++◌, codes, decimal}
use Rattle.std.specs.Fmt.{signed_decimal}
use Rattle.heylo_formula.specs.declared.goals.GoalId.{GoalId}
use Rattle.heylo_formula.specs.declared.goals.GoalId.TheVariants.{Main, Pre, Post, Invariant}
use Rattle.heylo_formula.specs.declared.goals.GoalId.TheVariants.{Ranking}
use Rattle.cert_text.specs.declared.goal_names.GoalName.{GoalName}
use Rattle.cert_text.specs.declared.versions.Version.{Version}
use Rattle.cert_text.specs.declared.versions.Version.TheVariants.{One, Two}

-- A line: the title; a goal, which its tree follows; a node of a tree, where `whole` is an integer
-- split; or the end.
pub data Line : Type 0 where
  title : Version → Line
  goal : GoalName → Line
  split : Line
  whole : ℕ → ℤ → Line
  farkas : List (ℕ × ℕ) → Line
  plain : Line
  last : Line

-- `main`, `pre`, `post`, `invariant N` or `ranking N`.
abbrev pub id_text : GoalId → List ℕ
id_text Main = codes "main"
id_text Pre = codes "pre"
id_text Post = codes "post"
id_text (Invariant loop) = codes "invariant " ++ decimal loop
id_text (Ranking loop) = codes "ranking " ++ decimal loop

-- ` I:M`
abbrev pub multiplier_text : ℕ × ℕ → List ℕ
multiplier_text m = 32 ∷ (decimal m.0 ++ 58 ∷ decimal m.1)

-- The texts of the multipliers, one after another.
abbrev pub multipliers_text : List (ℕ × ℕ) → List ℕ
multipliers_text [] = []
multipliers_text (m ∷ ms) = multiplier_text m ++ multipliers_text ms

-- The bytes of a line, without its line feed.
abbrev pub line_text : Line → List ℕ
line_text (title One) = codes "caesar certificate 1"
line_text (title Two) = codes "caesar certificate 2"
line_text (goal n) = codes "goal " ++ (decimal n.proc ++ 32 ∷ id_text n.id)
line_text split = codes "s"
line_text (whole x m) = codes "i " ++ (decimal x ++ 32 ∷ signed_decimal m)
line_text (farkas ms) = 102 ∷ multipliers_text ms
line_text plain = codes "t"
line_text last = codes "end"
