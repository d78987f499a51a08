use Rattle.std.proofs.Common.{◌≡◌, ap, ◌∙◌, length, take, drop, arith, rules}
use Rattle.std.proofs.lemmas.List.{nil_from_length, take_rest}
use Rattle.heyvl_io.proofs.Told.{hands_out_at}
use Rattle.heyvl_io.specs.Files.{started_bytes}
use Rattle.heyvl_io.proofs.mem_sources.MemSourceSource.read.Goals as goal

pub returns-clause-bytes : goal.returns-clause-bytes
returns-clause-bytes c =
    let bytes = started_bytes c.args.self.now.files.items c.args.self.now.started in
    let place = c.args.self.now.place in
    let count = c.copy_front-count.result in
    let same : c.bytes_at-bytes.result.now ≡ bytes = search rules in
    let from = take_rest c.bytes_at-bytes.result.now place ∙ ap (drop place) same in
    hands_out_at bytes c.copy_front-count.new.into place count
    (c.copy_front-count.ensures.front ∙ ap (take count) from)
    (λ none. nil_from_length (drop place bytes) (omega (arith, c.copy_front-count.ensures.count, ap length from)))
