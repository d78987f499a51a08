-- The text of a list of certificates, and the first invalid line of a text. This project's own.
use Rattle.std.specs.Prelude.{◌≡◌, ℕ, ◌+◌, Bool, true, false, cond, ◌||◌, List, [], ◌∷◌, ◌++◌}
use Rattle.std.specs.Prelude.{length, map}
use Rattle.goal_answers.specs.Trees.{Tree}
use Rattle.cert_text.specs.Certificates.{Certificate, AreWritable}
use Rattle.cert_text.specs.Lines.{Line, line_text, title, goal, split, whole, farkas, plain, last}
use Rattle.cert_text.specs.declared.versions.Version.{Version}
use Rattle.cert_text.specs.declared.versions.Version.TheVariants.{One, Two}

-- Whether the tree has an integer split.
abbrev pub has_whole : Tree → Bool
has_whole (Tree.split t u) = has_whole t || has_whole u
has_whole (Tree.farkas ms) = false
has_whole Tree.plain = false
has_whole (Tree.whole x m t u) = true

-- Whether one of the trees has an integer split.
abbrev pub have_whole : List Certificate → Bool
have_whole [] = false
have_whole (c ∷ cs) = has_whole c.tree || have_whole cs

-- The version of the text: `Two` if a tree has an integer split, otherwise `One`.
abbrev pub version : List Certificate → Version
version cs = cond (have_whole cs) Two One

-- The lines of a tree in preorder. A comparison is followed by the tree for yes and the tree for
-- no; an integer split by the tree for at most the number and the tree for more.
abbrev pub tree_lines : Tree → List Line
tree_lines (Tree.split t u) = split ∷ (tree_lines t ++ tree_lines u)
tree_lines (Tree.farkas ms) = farkas ms ∷ []
tree_lines Tree.plain = plain ∷ []
tree_lines (Tree.whole x m t u) = whole x m ∷ (tree_lines t ++ tree_lines u)

-- The lines of the goals, each followed by its tree.
abbrev pub goals_lines : List Certificate → List Line
goals_lines [] = []
goals_lines (c ∷ cs) = goal c.name ∷ (tree_lines c.tree ++ goals_lines cs)

-- The lines of a list of certificates: the title, the goals with their trees, and the end.
abbrev pub certificate_lines : List Certificate → List Line
certificate_lines cs = title (version cs) ∷ (goals_lines cs ++ last ∷ [])

-- The bytes of lines, each with its line feed.
abbrev pub closed : List (List ℕ) → List ℕ
closed [] = []
closed (l ∷ ls) = l ++ 10 ∷ closed ls

-- The text of a list of certificates.
abbrev pub text_of : List Certificate → List ℕ
text_of cs = closed (map line_text (certificate_lines cs))

-- `Spells cs bytes`: each certificate of `cs` has a text, and `bytes` are the text of `cs`.
pub record Spells (cs : List Certificate) (bytes : List ℕ) : Type 0 where
  pub writable : AreWritable cs
  pub text : bytes ≡ text_of cs

-- `AreFirstLines lines`: `lines` are the first lines of the text of some list of certificates
-- (`of_text`), or of the title of version 2 and the lines of some goals, without the end
-- (`before_end`). A text of version 2 in which no tree has an integer split is invalid only at its
-- end.
pub data AreFirstLines (lines : List (List ℕ)) : Type 0 where
  of_text : (cs : List Certificate) (others : List (List ℕ)) → AreWritable cs
      → map line_text (certificate_lines cs) ≡ lines ++ others → AreFirstLines lines
  before_end : (cs : List Certificate) (others : List (List ℕ)) → AreWritable cs
      → map line_text (title Two ∷ goals_lines cs) ≡ lines ++ others → AreFirstLines lines

-- `IsFirstFault bytes line`: `line` is the number, from 1, of the first invalid line of `bytes`.
-- The lines before it are the first lines of a text. If a line feed ends the line, no text has it
-- after them. If no line feed ends it, it is the rest of the bytes, which may be empty, and `bytes`
-- are no text: they end too early, or something follows the last line feed. For the empty text
-- `line` is 1.
pub record IsFirstFault (bytes : List ℕ) (line : ℕ) : Type 0 where
  pub before : List (List ℕ)
  pub rest : List ℕ
  pub parts : bytes ≡ closed before ++ rest
  pub place : line ≡ length before + 1
  pub allowed : AreFirstLines before
  pub refused : (next behind : List ℕ) → rest ≡ next ++ 10 ∷ behind
      → AreFirstLines (before ++ next ∷ []) → ⊥
  pub unfinished : (cs : List Certificate) → Spells cs bytes → ⊥
