use Rattle.std.proofs.Common.{arith, ◌≡◌, ◌<◌, ◌^◌, Some}
use Rattle.std.proofs.lemmas.Grind.{common_steps}
use Rattle.cert_text.specs.Lines.{id_text}
use Rattle.cert_text.proofs.TextCuts.{cut_after_number, space_is_no_digit, same_name}
use Rattle.cert_text.proofs.lines.goal_name.Goals as goal

pub returns-in_err-id-clause-only : goal.returns-in_err-id-clause-only
returns-in_err-id-clause-only c = λ n k e.
    let small : n.proc < 2 ^ 64 = omega (arith, k.proc) in
    let p = cut_after_number 32 c.args.text.now c.cut.result.0.now c.cut.result.1.now n.proc (id_text n.id) space_is_no_digit c.cut.ensures.parts c.cut.ensures.before c.cut.ensures.from_mark small e in
    grind (arith, common_steps, p.1)

pub returns-in_err-short_number-clause-only : goal.returns-in_err-short_number-clause-only
returns-in_err-short_number-clause-only c = λ n k e.
    let small : n.proc < 2 ^ 64 = omega (arith, k.proc) in
    let p = cut_after_number 32 c.args.text.now c.cut.result.0.now c.cut.result.1.now n.proc (id_text n.id) space_is_no_digit c.cut.ensures.parts c.cut.ensures.before c.cut.ensures.from_mark small e in
    let r : c.short_number.result ≡ Some n.proc = c.short_number.ensures.only n.proc k.proc p.0 in
    grind (arith, common_steps)

pub returns-in_err-goal_id-clause-only : goal.returns-in_err-goal_id-clause-only
returns-in_err-goal_id-clause-only c = λ n k e.
    let small : n.proc < 2 ^ 64 = omega (arith, k.proc) in
    let p = cut_after_number 32 c.args.text.now c.cut.result.0.now c.cut.result.1.now n.proc (id_text n.id) space_is_no_digit c.cut.ensures.parts c.cut.ensures.before c.cut.ensures.from_mark small e in
    let i : c.in_ok-id.id.now ≡ id_text n.id = grind (arith, common_steps, p.1) in
    let r : c.goal_id.result ≡ Some n.id = c.goal_id.ensures.only n.id k.loop i in
    grind (arith, common_steps)

pub returns-clause-only : goal.returns-clause-only
returns-clause-only c = λ n k e.
    let small : n.proc < 2 ^ 64 = omega (arith, k.proc) in
    let p = cut_after_number 32 c.args.text.now c.cut.result.0.now c.cut.result.1.now n.proc (id_text n.id) space_is_no_digit c.cut.ensures.parts c.cut.ensures.before c.cut.ensures.from_mark small e in
    let i : c.in_ok-id.id.now ≡ id_text n.id = grind (arith, common_steps, p.1) in
    let r : c.goal_id.result ≡ Some n.id = c.goal_id.ensures.only n.id k.loop i in
    let q : c.short_number.result ≡ Some n.proc = c.short_number.ensures.only n.proc k.proc p.0 in
    let a : c.in_ok-goal_id.field-0 ≡ n.id = grind (arith, common_steps) in
    let b : c.in_ok-short_number.field-0 ≡ n.proc = grind (arith, common_steps) in
    same_name _ _ _ _ b a
