-- The first loop among the acts of a body, as the program looks for it. Loops inside other acts do
-- not count.
use Rattle.heyvl_acts.specs.Acts.{Act, Acts}
use Rattle.std.specs.Borrow.{Bor}
use Rattle.std.specs.Prelude.{List, None, Option, Some, [], ℕ}

-- The numbers of a borrowed list, if there is one.
abbrev pub lent : Option (Bor (List ℕ)) → Option (List ℕ)
lent (Some s) = Some s.now
lent None = None

-- The variables that are visible at the act, if it is a loop.
abbrev pub own_scope : Act → Option (List ℕ)
own_scope (Act.loop h b) = Some h.scope
own_scope a = None

-- The first numbers, or `other` if there are none.
abbrev pub or_scope : Option (List ℕ) → List ℕ → List ℕ
or_scope (Some s) other = s
or_scope None other = other

-- The variables that are visible at the first loop, or no variables if there is no loop.
abbrev pub first_scope : Acts → List ℕ
first_scope Acts.done = []
first_scope (Acts.next a rest) = or_scope (own_scope a) (first_scope rest)
