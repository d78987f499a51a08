-- The test whether two stored configurations are the same. It compares all their parts, and items
-- by their procedures and places. This project's own.
use Rattle.std.specs.Prelude.{◌≡◌, ◌==◌, ◌&&◌, Bool, true, false}
use Rattle.std.specs.Bool.{Decides}
use Rattle.std.specs.Cmp.Lexicographic.{pointwise}
use Rattle.heyvl_num.specs.Value.{Value}
use Rattle.heyvl_num.specs.Value.Value.{finite, infinite}
use Rattle.heyvl_num.specs.contracts.fractions.FracPartialEq.TheImpl as fraction
use Rattle.heylo_formula.specs.contracts.values.ValPartialEq.TheImpl as val
use Rattle.run_machine.specs.contracts.configurations.ItemPartialEq.TheImpl as item
use Rattle.run_machine.specs.Names.{Lists, Stored}

-- Whether both values are infinity, or both fractions have the same numerator and denominator.
abbrev pub same_value : Value → Value → Bool
same_value (finite x) (finite y) = fraction.ghosts.eq x y
same_value (finite x) infinite = false
same_value infinite (finite y) = false
same_value infinite infinite = true

-- Whether the items and the values of two frames are the same, one by one.
abbrev pub same_lists : Lists → Lists → Bool
same_lists a b = pointwise item.ghosts.eq a.0 b.0 && pointwise val.ghosts.eq a.1 b.1

-- Whether all parts of two stored configurations are the same: the started procedure, the items,
-- the state, the frames, the reward, the iterations and the number of decisions.
abbrev pub same_stored : Stored → Stored → Bool
same_stored c d = (c.procedure == d.procedure)
    && (pointwise item.ghosts.eq c.items d.items
    && (pointwise val.ghosts.eq c.state d.state
    && (pointwise same_lists c.frames d.frames
    && (same_value c.reward d.reward
    && (pointwise (λ m n. m == n) c.turns d.turns && (c.made == d.made))))))

-- The test holds exactly if the configurations are equal.
abbrev pub SameIsEqual : Type 0
SameIsEqual = (c d : Stored) → Decides (same_stored c d) (c ≡ d)
