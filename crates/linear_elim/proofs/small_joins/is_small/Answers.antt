use Rattle.std.proofs.Common.{rules, FitsSigned, ◌<◌, ◌^◌, ap, subst, ◌∙◌}
use mir.Syntax.{w64}
use Rattle.std.proofs.lemmas.Int.{to_z-of_z}
use Rattle.std.specs.Prelude.{unsigned_abs}
use Rattle.std.specs.List.{All}
use Rattle.linear_rows.specs.Row.{Row}
use Rattle.linear_elim.specs.Joins.{Derived}
use Rattle.linear_elim.proofs.small_joins.is_small.Goals as goal

pub returns : goal.returns
returns c =
    let e = c.deref.ensures.value ∙ ap (λ (x : Row). x.terms) c.row.view_is ∙ ap (λ (x : Derived). x.row.terms) c.r.view_is in
    let f = c.deref-2.ensures.value ∙ ap (λ (x : Derived). x.shares) c.r.view_is in
    let k : FitsSigned w64 c.row.inside.rest = search rules in
    let g = simp to_z-of_z at c.unsigned_abs.ensures.value in
    let h = g ∙ ap (λ (x : Row). unsigned_abs x.rest) c.row.view_is ∙ ap (λ (x : Derived). unsigned_abs x.row.rest) c.r.view_is in
    λ t. record { terms = subst (All (λ t. unsigned_abs t.1 < 2 ^ 20)) e (c.are_small.ensures c.if-not-are_small.false); rest = subst (λ n. n < 2 ^ 20) h c.if-unsigned_abs.false; shares = subst (All (λ t. unsigned_abs t.1 < 2 ^ 20)) f (c.are_small-2.ensures t); over = subst (λ n. n < 2 ^ 20) (ap (λ (x : Derived). x.over) c.r.view_is) c.if-r.false }
