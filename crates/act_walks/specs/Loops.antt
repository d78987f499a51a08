-- The loop with a given number.
use Rattle.std.specs.Prelude.{◌==◌, ℕ, List, [], ◌∷◌, Option, Some, None, if◌then◌else◌}
use Rattle.heyvl_acts.specs.Acts.{Head, Act, Acts}

-- The head and the body of the first loop with the number `n` among the acts, if there is one.
abbrev pub loop_in : ℕ → List Act → Option (Head × Acts)
loop_in n [] = None
loop_in n (Act.loop h b ∷ rest) = if h.number == n then Some (h, b) else loop_in n rest
loop_in n (a ∷ rest) = loop_in n rest
