-- Places on a path: each is on longer paths, and the first is before all comparisons.
use Rattle.std.proofs.Common.{◌≡◌, List, [], ◌++◌, sym, ap, ◌∙◌, subst, arith}
use Rattle.std.proofs.lemmas.List.{take-append-le, length-append}
use Rattle.heylo_formula.specs.Goals.{Goal}
use Rattle.linear_form.specs.Query.{Taken, once}
use Rattle.linear_form.specs.Paths.{end_at}
use Rattle.linear_form.specs.Questions.{questions}
use Rattle.linear_form.specs.Standings.{Standing}
use Rattle.linear_form.specs.internal.Evaluations.{through}
use Rattle.linear_form.specs.internal.GoalParts.{IsGoalPart}
use Rattle.linear_form.specs.internal.Parts.{asked}
use Rattle.linear_form.specs.internal.PlainParts.{part_of}
use Rattle.linear_form.specs.Places.{IsOn}
use Rattle.linear_form.specs.declared.places.Frame.{Frame}
use Rattle.linear_form.specs.declared.parts.Part.{Part}
use Rattle.linear_form.proofs.SplitPaths.{walk_nil}

pub place_stays : (g : Goal) (ps qs : List Taken) (p : Standing) → IsOn g ps p → IsOn g (ps ++ qs) p
place_stays g ps qs p h = record {
  within = let l = length-append ps qs in let w = h.within in omega (arith, l, w);
  left = subst (λ xs. end_at g xs ≡ once xs p.left) (sym (take-append-le p.at ps qs h.within)) h.left;
}

pub begins : (g : Goal) (p : Part) (fs : List Frame) → IsGoalPart g p → fs ≡ [] → IsOn g [] (record { left = through (asked (part_of p)) fs; at = 0 })
begins g p fs h n = record {
  within = omega arith;
  left = walk_nil (questions g) ∙ ap (once []) (sym (ap (through (asked (part_of p))) n ∙ h.asks));
}
