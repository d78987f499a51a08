use Rattle.std.proofs.Common.{◌≡◌, ◌≤◌, ◌+◌, [], ◌∷◌, ◌++◌, ap, ◌∙◌, sym, length, take, rules, arith}
use Rattle.std.proofs.lemmas.Grind.{common_steps}
use Rattle.heyvl_io.specs.History.{handed_out, since_start, with_bytes}
use Rattle.heyvl_io.proofs.exported.Histories.{length-since_start, more_taken}
use Rattle.heyvl_io.proofs.Pieces.{length-more, none_more, taken_more}
use Rattle.heyvl_io.proofs.reader.read_all.Goals as goal

pub returns-then-count-eq0-clause-returned : goal.returns-then-count-eq0-clause-returned
returns-then-count-eq0-clause-returned g c =
    let h = c.in_ok-count.ensures.history in
    let none : g.F.Source.history c.read.new.self ≡ with_bytes (g.F.Source.history c.loop-end.source) (take 0 c.read.new.into) = rw c.if-count-eq0.true at h in
    none_more (g.F.Source.history c.args.source.now) _ _ c.args.name.now c.loop-end.bytes.items c.read.new.into c.loop-end.invariant.history none

pub returns-then-count-eq0-clause-history : goal.returns-then-count-eq0-clause-history
returns-then-count-eq0-clause-history g c =
    taken_more (g.F.Source.history c.args.source.now) _ _ c.args.name.now c.loop-end.bytes.items c.read.new.into c.in_ok-count.count (c.args.limit + 1) c.loop-end.invariant.history c.in_ok-count.ensures.history
    (grind (arith, common_steps))

pub returns-then-count-room-clause-history : goal.returns-then-count-room-clause-history
returns-then-count-room-clause-history g c =
    taken_more (g.F.Source.history c.args.source.now) _ _ c.args.name.now c.loop-end.bytes.items c.read.new.into c.in_ok-count.count (c.args.limit + 1) c.loop-end.invariant.history c.in_ok-count.ensures.history
    (grind (arith, common_steps))

pub loop-end-preserved : goal.loop-end-preserved
loop-end-preserved g c = record {
  within = search rules;
  history =
      more_taken (g.F.Source.history c.args.source.now) _ _ c.args.name.now c.loop-end.bytes.items (take c.in_ok-count.count c.read.new.into) c.loop-end.invariant.history c.in_ok-count.ensures.history
      ∙ sym (ap (λ bytes. g.F.Source.history c.args.source.now ++ handed_out c.args.name.now bytes ∷ []) c.in_ok-extend_from_slice.ensures.items);
  so_far = grind (arith, common_steps);
  order = search rules;
  names = search rules;
  holds = search rules;
  count = grind (arith, common_steps);
}

pub returns-in_err-extend_from_slice-clause-history : goal.returns-in_err-extend_from_slice-clause-history
returns-in_err-extend_from_slice-clause-history g c =
    taken_more (g.F.Source.history c.args.source.now) _ _ c.args.name.now c.loop-end.bytes.items c.read.new.into c.in_ok-count.count (c.args.limit + 1) c.loop-end.invariant.history c.in_ok-count.ensures.history
    (grind (arith, common_steps))

pub returns-in_err-start-clause-too_long : goal.returns-in_err-start-clause-too_long
returns-in_err-start-clause-too_long g c =
    let none : length (since_start (g.F.Source.history c.start.new.self)) ≡ 0 = length-since_start (g.F.Source.history c.args.source.now) _ c.args.name.now [] c.in_err-start.ensures.history in
    search rules

pub returns-in_err-count-clause-too_long : goal.returns-in_err-count-clause-too_long
returns-in_err-count-clause-too_long g c =
    let few : length (since_start (g.F.Source.history c.read.new.self)) ≡ length c.loop-end.bytes.items =
    length-since_start (g.F.Source.history c.args.source.now) _ c.args.name.now c.loop-end.bytes.items (c.in_err-count.ensures.history_kept ∙ c.loop-end.invariant.history) in
    let within : length c.loop-end.bytes.items ≤ c.args.limit = search rules in
    search rules

pub returns-then-count-eq0-clause-too_long : goal.returns-then-count-eq0-clause-too_long
returns-then-count-eq0-clause-too_long g c =
    let more : length (since_start (g.F.Source.history c.read.new.self)) ≡ length c.loop-end.bytes.items + c.in_ok-count.count =
    length-more (g.F.Source.history c.args.source.now) _ _ c.args.name.now c.loop-end.bytes.items c.read.new.into c.in_ok-count.count c.loop-end.invariant.history c.in_ok-count.ensures.history (grind (arith, common_steps)) in
    let within : length c.loop-end.bytes.items ≤ c.args.limit = search rules in
    search rules

pub returns-then-count-room-clause-too_long : goal.returns-then-count-room-clause-too_long
returns-then-count-room-clause-too_long g c =
    let more : length (since_start (g.F.Source.history c.read.new.self)) ≡ length c.loop-end.bytes.items + c.in_ok-count.count =
    length-more (g.F.Source.history c.args.source.now) _ _ c.args.name.now c.loop-end.bytes.items c.read.new.into c.in_ok-count.count c.loop-end.invariant.history c.in_ok-count.ensures.history (grind (arith, common_steps)) in
    let whole : length c.loop-end.bytes.items + c.in_ok-count.count ≡ c.args.limit + 1 = grind (arith, common_steps) in
    search rules

pub returns-in_err-extend_from_slice-clause-too_long : goal.returns-in_err-extend_from_slice-clause-too_long
returns-in_err-extend_from_slice-clause-too_long g c =
    let more : length (since_start (g.F.Source.history c.read.new.self)) ≡ length c.loop-end.bytes.items + c.in_ok-count.count =
    length-more (g.F.Source.history c.args.source.now) _ _ c.args.name.now c.loop-end.bytes.items c.read.new.into c.in_ok-count.count c.loop-end.invariant.history c.in_ok-count.ensures.history (grind (arith, common_steps)) in
    let within : length c.loop-end.bytes.items + c.in_ok-count.count ≤ c.args.limit = grind (arith, common_steps) in
    search rules
