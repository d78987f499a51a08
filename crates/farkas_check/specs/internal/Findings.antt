-- The results of the walk through a tree.
use Rattle.std.specs.Prelude.{◌≡◌, ◌⊎◌, List, [], map, true, false}
use Rattle.heylo_formula.specs.Goals.{Goal}
use Rattle.linear_form.specs.Query.{Atom, onto}
use Rattle.linear_form.specs.PlainPaths.{path_of}
use Rattle.linear_form.specs.declared.paths.Taken as T
use Rattle.goal_answers.specs.Trees.{Tree}
use Rattle.farkas_check.specs.AcceptedCertificates.{IsAccepted, IsRefused}
use Rattle.farkas_check.specs.internal.Trails.{IsSame}
use Rattle.farkas_check.specs.declared.trail.Trail.{Trail}
use Rattle.farkas_check.specs.declared.checker.Judged as J

-- `IsRefusedAt ps j`: the result `j` is a refusal at the end of the path `ps`.
abbrev pub IsRefusedAt : List T.Taken → J.Judged → Type 0
IsRefusedAt ps (J.TheVariants.Accepted back) = ⊥
IsRefusedAt ps (J.TheVariants.Refused place) = place.items ≡ map (λ p. p.held) ps

-- `IsJudgement g s t j`: `j` is the result on the tree `t` at the end of the trail `s`.
abbrev pub IsJudgement : Goal → Trail → Tree → J.Judged → Type 0
IsJudgement g s t (J.TheVariants.Accepted back) =
    IsSame s back × IsAccepted g (path_of s.path.items) t
IsJudgement g s t (J.TheVariants.Refused place) = IsRefused g (path_of s.path.items) t place.items

-- `IsFindingAtStart g t j`: `j` is the result on the tree `t` before the first comparison.
abbrev pub IsFindingAtStart : Goal → Tree → J.Judged → Type 0
IsFindingAtStart g t (J.TheVariants.Accepted back) = IsAccepted g [] t
IsFindingAtStart g t (J.TheVariants.Refused place) = IsRefused g [] t place.items

-- `AreFindings g s q t u j`: `j` is the result on the trees `t` and `u` after the two answers to
-- `q`.
abbrev pub AreFindings : Goal → Trail → Atom → Tree → Tree → J.Judged → Type 0
AreFindings g s q t u (J.TheVariants.Accepted back) = IsSame s back
    × IsAccepted g (onto (path_of s.path.items) q true) t
    × IsAccepted g (onto (path_of s.path.items) q false) u
AreFindings g s q t u (J.TheVariants.Refused place) = IsRefused g
    (onto (path_of s.path.items) q true) t place.items
    ⊎ (IsAccepted g (onto (path_of s.path.items) q true) t
    × IsRefused g (onto (path_of s.path.items) q false) u place.items)
