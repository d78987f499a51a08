use Rattle.run_script.proofs.Feeds.{few_parts, some_part}
use Rattle.run_script.proofs.reader.lines.Goals as goal
use Rattle.std.proofs.Common.{Bool, Vec, length, map, ◌+◌, ◌==◌, ◌≡◌, ◌<◌, ◌≤◌, ℕ, List}
use Rattle.std.specs.List.{slice_split}
use Rattle.std.specs.Prelude.{IfOk, Result}

few : {A E Z : Type 0} (f : A → List ℕ) (p : ℕ → Bool) (text whole : List ℕ) (r : Result (Vec A Z) E) → length text ≤ length whole → IfOk r (λ parts. map f parts.items ≡ slice_split p text) → IfOk r (λ parts. length parts.items ≤ length whole + 1)
few f p text whole (Result.Ok parts) shorter e = few_parts f p parts.items text whole e shorter
few f p text whole (Result.Err error) shorter e = tt

pub returns-clause-few : goal.returns-clause-few
returns-clause-few c = few (λ part. part.now) (λ b. b == 10) c.without_last_feed.result.now c.args.bytes.now c.parts.result c.without_last_feed.ensures.shorter c.parts.ensures

some : {A E Z : Type 0} (f : A → List ℕ) (p : ℕ → Bool) (text : List ℕ) (r : Result (Vec A Z) E) → IfOk r (λ parts. map f parts.items ≡ slice_split p text) → IfOk r (λ parts. 0 < length parts.items)
some f p text (Result.Ok parts) e = some_part f p parts.items text e
some f p text (Result.Err error) e = tt

pub returns-clause-some : goal.returns-clause-some
returns-clause-some c = some (λ part. part.now) (λ b. b == 10) c.without_last_feed.result.now c.parts.result c.parts.ensures
