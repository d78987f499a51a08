use Rattle.std.proofs.Common.{subst, sym, ap₂, ◌∙◌}
use Rattle.std.proofs.lemmas.Int.{to_z-of_z}
use Rattle.linear_rows.specs.Terms.{IsNormal}
use Rattle.linear_rows.specs.TermResults.{merged_terms}
use Rattle.linear_rows.proofs.MixedSums.{scaled-normal, mixed-is}
use Rattle.linear_rows.proofs.terms.mixed.Goals as goal

pub merged-requires-clause-left_normal : goal.merged-requires-clause-left_normal
merged-requires-clause-left_normal c =
    let p = c.ranges.p in
    let e = simp to_z-of_z at (rw c.in-Some.is at c.in_ok-left.ensures.terms) in
    subst IsNormal (sym (c.deref.ensures.value ∙ e)) (scaled-normal _ _ c.requires.left_positive c.requires.left_normal)

pub merged-requires-clause-right_normal : goal.merged-requires-clause-right_normal
merged-requires-clause-right_normal c =
    let q = c.ranges.q in
    let e = simp to_z-of_z at (rw c.in-Some-2.is at c.in_ok-right.ensures.terms) in
    subst IsNormal (sym (c.deref-2.ensures.value ∙ e)) (scaled-normal _ _ c.requires.right_positive c.requires.right_normal)

pub returns-clause-terms : goal.returns-clause-terms
returns-clause-terms c =
    let p = c.ranges.p in
    let q = c.ranges.q in
    let e = simp to_z-of_z at (rw c.in-Some.is at c.in_ok-left.ensures.terms) in
    let f = simp to_z-of_z at (rw c.in-Some-2.is at c.in_ok-right.ensures.terms) in
    c.in_ok-merged.ensures ∙ ap₂ merged_terms (c.deref.ensures.value ∙ e) (c.deref-2.ensures.value ∙ f) ∙ mixed-is _ _ _ _ c.requires.right_positive c.requires.right_normal
