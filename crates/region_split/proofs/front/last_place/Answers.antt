use Rattle.std.specs.Prelude.{Option, Some, None, IfSome}
use Rattle.region_split.proofs.Trails.{last_on, last_asked}
use Rattle.region_split.proofs.front.last_place.Goals as goal

some_then : {A : Type 0} (P Q : A → Type 0) (o : Option A) → ((x : A) → P x → Q x) → IfSome o P → IfSome o Q
some_then P Q (Some x) f h = f x h
some_then P Q None f h = h

pub returns-in-Some-clause-on : goal.returns-in-Some-clause-on
returns-in-Some-clause-on c g ps a = some_then _ _ c.open_place.result (λ p e. last_on g ps c.args.places.now c.in-Some.way.now p.now a (rw c.in-Some.is at c.last.ensures.value) e) c.open_place.ensures

pub returns-in-Some-clause-asked : goal.returns-in-Some-clause-asked
returns-in-Some-clause-asked c g ps t a = some_then _ _ c.open_place.result (λ p e. last_asked g ps t c.args.places.now c.in-Some.way.now p.now a (rw c.in-Some.is at c.last.ensures.value) e) c.open_place.ensures
