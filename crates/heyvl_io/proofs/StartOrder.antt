-- The order after one more start.
use Rattle.std.specs.Prelude.{◌≡◌, ◌≢◌, ℕ, Bool, true, false, List, Option, Some, None, slice_get}
use Rattle.std.proofs.Common.{refl, ap, ◌∙◌, sym}
use Rattle.std.specs.Str.{bytes_eq}
use Rattle.std.specs.Cmp.Lexicographic.{bytes_decides}
use Rattle.std.specs.Option.{option_map_or}
use Rattle.heyvl_io.specs.Order.{is_next}
use Rattle.heyvl_io.specs.OrderLaws.{NextNameCounts, OtherNameEnds}

pub order_after-next : NextNameCounts
order_after-next names k name next =
    let same : bytes_eq name name ≡ true = (bytes_decides name name).1 refl in
    let is : is_next names k name ≡ true = ap (λ (o : Option (List ℕ)). option_map_or (bytes_eq name) o false) next ∙ same in
    rw is refl

not_next : (name : List ℕ) (next : Option (List ℕ)) → next ≢ Some name → option_map_or (bytes_eq name) next false ≡ false
not_next name None differs = refl
not_next name (Some next) differs = by_test (bytes_eq name next) refl
  where
    by_test : (b : Bool) → bytes_eq name next ≡ b → bytes_eq name next ≡ false
    by_test true equal = absurd (differs (ap Some (sym ((bytes_decides name next).0 equal))))
    by_test false unequal = unequal

pub order_after-other : OtherNameEnds
order_after-other names k name differs = let is : is_next names k name ≡ false = not_next name (slice_get names k) differs in rw is refl
