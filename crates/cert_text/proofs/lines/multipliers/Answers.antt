use Rattle.std.proofs.Common.{arith, ◌≡◌, ◌<◌, ◌+◌, length, ap, sym, subst, ℕ, List}
use Rattle.std.proofs.lemmas.Grind.{common_steps}
use Rattle.cert_text.proofs.Multipliers.{read_none, read_more, stopped, all_found, only_found, IsRead, multipliers_from_rising}
use Rattle.cert_text.proofs.lines.multipliers.Goals as goal
use Rattle.cert_text.proofs.lines.multipliers.Goals.{then-is_empty, else-is_empty}

pub loop-rest-init : goal.loop-rest-init
loop-rest-init c = let P : List (ℕ × ℕ) → Type 0 = λ xs. IsRead c.args.text.now c.args.text.now xs 0 in subst P (sym c.new-found.ensures.items) (read_none c.args.text.now)

pub returns-in_default-clause-only : goal.returns-in_default-clause-only
returns-in_default-clause-only c = λ ms a e.
    let some : 0 < length c.loop-rest.rest.now = grind (arith, common_steps) in
    stopped c.args.text.now c.loop-rest.rest.now c.loop-rest.found.items c.loop-rest.least c.loop-rest.invariant some
    (λ n ns k l f. rw c.in_default.is at (c.first_multiplier.ensures.only n ns k l f)) ms a e

pub loop-rest-preserved : goal.loop-rest-preserved
loop-rest-preserved c =
    let some : 0 < length c.loop-rest.rest.now = grind (arith, common_steps) in
    let f = c.in-Some.ensures.found in
    read_more _ _ _ _ _ _ _ c.in-Some.multiplier c.loop-rest.invariant f.0 f.1 f.2 some (λ n ns k l e. c.in-Some.ensures.only n ns k l e) c.in_ok-push.ensures.items (ap (λ (x : ℕ). x + 1) c.from-least.ensures)

pub returns-clause-found : goal.returns-clause-found
returns-clause-found c =
    let none : length c.loop-rest.rest.now ≡ 0 = grind (arith, common_steps) in
    elim c.if-is_empty.branch [
      | then-is_empty w ↦ rw w.result-is tt
      | else-is_empty w ↦
          let some : 0 < length c.loop-rest.found.items = grind (arith, common_steps) in
          rw w.result-is (multipliers_from_rising c.loop-rest.found.items some c.loop-rest.invariant.rising, all_found _ _ _ _ c.loop-rest.invariant none)
    ]

pub returns-clause-only : goal.returns-clause-only
returns-clause-only c = λ ms a e.
    let none : length c.loop-rest.rest.now ≡ 0 = grind (arith, common_steps) in
    let same = only_found c.args.text.now c.loop-rest.rest.now c.loop-rest.found.items c.loop-rest.least c.loop-rest.invariant none ms a e in
    let some : 0 < length ms = a.some in
    elim c.if-is_empty.branch [
      | then-is_empty w ↦ absurd (grind (arith, common_steps))
      | else-is_empty w ↦ rw w.result-is same
    ]
