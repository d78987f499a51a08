use Rattle.std.proofs.Common.{◌++◌, ◌∷◌, [], take, ap, sym, ◌∙◌, subst, arith}
use Rattle.std.proofs.lemmas.List.{take_more, take_all, length-take-le}
use Rattle.linear_rows.specs.Occurrences.{AreOccurrences}
use Rattle.linear_rows.proofs.occurrences.Occurrences.note.Goals as goal

pub loop-i-init : goal.loop-i-init
loop-i-init c = λ count h. h

pub loop-i-preserved : goal.loop-i-preserved
loop-i-preserved c = λ count h.
    let rows = c.args.rows.now in
    let e = take_more rows c.loop-i.i c.index-rows-i.result c.loop-i-test.true ∙ ap (λ r. take c.loop-i.i rows ++ (r ∷ [])) (sym c.index-rows-i.is) in
    subst (λ qs. AreOccurrences count qs c.note_row.new.self) (sym e) (c.note_row.ensures count (take c.loop-i.i rows) (c.loop-i.invariant count h) (length-take-le c.loop-i.i rows (omega arith)))

pub returns : goal.returns
returns c count h = subst (λ qs. AreOccurrences count qs c.loop-i.self) (take_all c.loop-i.i c.args.rows.now (omega arith)) (c.loop-i.invariant count h)
