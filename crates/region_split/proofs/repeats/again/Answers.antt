use Rattle.std.proofs.Common.{◌≡◌, ◌∷◌, ◌++◌, [], sym, ap, ◌∙◌, subst, arith, length, true, false}
use Rattle.std.proofs.lemmas.List.{get_or_default}
use Rattle.linear_form.specs.Query.{onto}
use Rattle.linear_form.specs.PlainPaths.{atom_of}
use Rattle.linear_form.specs.RowLists.{ArePathRows}
use Rattle.region_split.specs.internal.Trails.{IsDroppedBy}
use Rattle.region_split.proofs.AnsweredBefore.{IsAnsweredBefore, answered}
use Rattle.region_split.proofs.repeats.again.Goals as goal

pub returns-in_ok-further : goal.returns-in_ok-further
returns-in_ok-further c g ps a s r =
    let q = atom_of c.args.atom in
    let rows = c.args.trail.now.rows.items in
    let m = c.len-second.ensures in
    let o = c.args.trail.now.rows.ok.0 in
    let n : c.len-second.result ≡ length rows = omega (arith, m, o) in
    let k = subst (λ held. IsAnsweredBefore g ps q rows held c.args.recalled.index c.len-second.result) c.if-recalled.true (answered g ps q c.args.trail.now c.args.recalled c.len-second.result c.repeated_rows_stand.ensures a s r n) in
    let e = c.in_ok-row.ensures ∙ c.index.ensures ∙ get_or_default rows c.args.recalled.index _ _ r.inside in
    let d = subst (λ xs. IsDroppedBy g (onto xs q false) c.in_ok-multipliers.multipliers.items) (sym s.path) (subst (IsDroppedBy g (onto ps q false)) (sym c.in_ok-multipliers.ensures.items) k.dropped) in
    let b = subst (λ x. ArePathRows g (onto ps q true) (rows ++ (x ∷ []))) (sym e) k.are_rows in
    (c.in_ok-further.ensures g (onto ps q true) s.stands (ap (λ xs. onto xs q true) (sym s.path)) (λ t. d) b, k.kept)

pub returns-in_ok-further-2 : goal.returns-in_ok-further-2
returns-in_ok-further-2 c g ps a s r =
    let q = atom_of c.args.atom in
    let rows = c.args.trail.now.rows.items in
    let m = c.len-second.ensures in
    let o = c.args.trail.now.rows.ok.0 in
    let n : c.len-second.result ≡ length rows = omega (arith, m, o) in
    let k = subst (λ held. IsAnsweredBefore g ps q rows held c.args.recalled.index c.len-second.result) c.if-recalled.false (answered g ps q c.args.trail.now c.args.recalled c.len-second.result c.repeated_rows_stand.ensures a s r n) in
    let e = c.in_ok-row.ensures ∙ c.index.ensures ∙ get_or_default rows c.args.recalled.index _ _ r.inside in
    let d = subst (IsDroppedBy g (onto ps q true)) (sym c.in_ok-multipliers.ensures.items) k.dropped in
    let b = subst (λ x. ArePathRows g (onto ps q false) (rows ++ (x ∷ []))) (sym e) k.are_rows in
    (c.in_ok-further-2.ensures g (onto ps q false) s.stands (ap (λ xs. onto xs q false) (sym s.path)) (λ (t : false ≡ true). absurd (cc)) b, (k.kept, d))
