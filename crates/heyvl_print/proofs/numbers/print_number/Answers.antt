use Rattle.heyvl_print.proofs.NumberTexts.{prints_inner, prints_short, prints_whole}
use Rattle.heyvl_print.proofs.numbers.print_number.Goals as goal
use Rattle.std.proofs.Common.{ap, arith, rules, sym, unsigned_abs, ◌^◌, ◌∙◌, ◌≡◌, ◌≤◌}
use Rattle.std.specs.Fmt.{decimal}

pub returns-in_ok-write : goal.returns-in_ok-write
returns-in_ok-write c =
    let v : c.unsigned_abs.result ≡ unsigned_abs c.args.number.digits = search (rules, c.unsigned_abs.ensures.value) in
    let d : c.as_bytes-digits.result.now ≡ decimal (unsigned_abs c.args.number.digits) = c.as_bytes-digits.ensures.value ∙ c.format.ensures.text ∙ ap decimal v in
    let small : unsigned_abs c.args.number.digits ≤ 2 ^ 127 = omega (arith, v, c.unsigned_abs.ensures.bound) in
    prints_whole c.args.number _ _ _ d small (sym c.from-places.ensures ∙ c.if-places-eq0.true) c.in_ok-write.ensures

pub returns-in_ok-write-4 : goal.returns-in_ok-write-4
returns-in_ok-write-4 c =
    let v : c.unsigned_abs.result ≡ unsigned_abs c.args.number.digits = search (rules, c.unsigned_abs.ensures.value) in
    let d : c.as_bytes-digits.result.now ≡ decimal (unsigned_abs c.args.number.digits) = c.as_bytes-digits.ensures.value ∙ c.format.ensures.text ∙ ap decimal v in
    let front = rw c.from-places.ensures at c.split_at.ensures.front in
    let back = rw c.from-places.ensures at c.split_at.ensures.back in
    let less = rw c.from-places.ensures at c.if-places-digits.true in
    prints_inner c.args.number _ _ _ _ _ _ _ d (omega (arith, c.from-places.ensures, c.if-places-eq0.false)) less front back c.in_ok-write-2.ensures c.in_ok-write-3.ensures c.in_ok-write-4.ensures

pub returns-in_ok-write-6 : goal.returns-in_ok-write-6
returns-in_ok-write-6 c =
    let v : c.unsigned_abs.result ≡ unsigned_abs c.args.number.digits = search (rules, c.unsigned_abs.ensures.value) in
    let d : c.as_bytes-digits.result.now ≡ decimal (unsigned_abs c.args.number.digits) = c.as_bytes-digits.ensures.value ∙ c.format.ensures.text ∙ ap decimal v in
    let more = rw c.from-places.ensures at c.if-places-digits.false in
    let zeros = rw c.from-places.ensures at c.in_ok-write_repeated.ensures in
    prints_short c.args.number _ _ _ _ _ d (omega (arith, c.from-places.ensures, c.if-places-eq0.false)) more c.in_ok-write-5.ensures zeros c.in_ok-write-6.ensures
