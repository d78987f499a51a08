use Rattle.command_line.proofs.Words.{parsed, within}
use Rattle.command_line.proofs.line_counts.line_count.Goals as goal
use Rattle.command_line.proofs.line_counts.line_count.Goals.{else-is_plain-via-then-is_plain+then-lines-ge1+else-lines-le-MOST_LINES, else-is_plain-via-then-is_plain+else-lines-ge1, else-is_plain-via-else-is_plain}
use Rattle.std.proofs.lemmas.Slice.Eq.{bytes_eq-Decides}
use Rattle.std.proofs.Common.{arith, ◌≡◌, ap, decimal, sym, ◌∙◌}

pub returns-in_default : goal.returns-in_default
returns-in_default c n asks = let e = parsed n c.args.word.now c.parse.result asks c.parse.ensures.value.0 in let is = c.in_default.is in absurd (cc)

pub returns-else-is_plain : goal.returns-else-is_plain
returns-else-is_plain c n asks =
    let e = parsed n c.args.word.now c.parse.result asks c.parse.ensures.value.0 in
    let is = c.in-Ok.is in
    let same : n ≡ c.in-Ok.lines = cc in
    let bounds = within n asks.fits in
    elim c.else-is_plain.branch [
      | else-is_plain-via-then-is_plain+then-lines-ge1+else-lines-le-MOST_LINES w ↦ omega arith
      | else-is_plain-via-then-is_plain+else-lines-ge1 w ↦ omega arith
      | else-is_plain-via-else-is_plain w ↦
          let text : c.format.result.now ≡ c.args.word.now = c.format.ensures.text ∙ ap decimal (sym same) ∙ sym asks.written in
          let equal = (bytes_eq-Decides c.format.result.now c.args.word.now).1 text in
          let tested = c.eq-is_plain.ensures in
          let no = w.if-is_plain.false in
          absurd (cc)
    ]
