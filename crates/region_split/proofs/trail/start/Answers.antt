use Rattle.std.proofs.Common.{◌≡◌, [], ◌∷◌, ◌++◌, ap, ◌∙◌, arith, length, sym, subst}
use Rattle.heylo_formula.specs.Goals.{goal_of}
use Rattle.linear_rows.specs.Occurrences.{AreOccurrences}
use Rattle.linear_form.specs.PlainPaths.{path_of}
use Rattle.linear_guess.specs.Searches.{Remembers}
use Rattle.region_split.specs.declared.trail.Way.TheVariants.{Open}
use Rattle.std.proofs.lemmas.List.Elements.{All-nil}
use Rattle.region_split.specs.internal.KnownComparisons.{AreKnown, IsKnownQuestion}
use Rattle.region_split.proofs.Trails.{comes_first}
use Rattle.region_split.proofs.trail.start.Goals as goal

pub returns : goal.returns
returns c =
    let n = c.len.ensures in
    let l = c.args.goal.now.vars.ok.0 in
    let e : c.len.result ≡ length c.args.goal.now.vars.items = omega (arith, n, l) in
    let o = subst (λ count. AreOccurrences count [] c.in_ok-new.field-0) e c.in_ok-new.ensures in
    (comes_first (goal_of c.args.goal.now) _ c.in_ok-begin.field-0 c.in_ok-begin.ensures c.new.ensures.items (c.in_ok-push.ensures.items ∙ ap (λ xs. xs ++ (Open c.in_ok-begin.field-0 ∷ [])) c.new-places.ensures.items) c.new-2.ensures.items o (λ rows. subst (λ s. Remembers s rows) (sym c.in_ok-new-2.ensures.ok) (c.new-5.ensures rows)) (subst (AreKnown (goal_of c.args.goal.now).types) (sym c.new-3.ensures) (All-nil (IsKnownQuestion (goal_of c.args.goal.now).types))), ap path_of c.new.ensures.items)
