-- The result of the greedy choice of the program.
use Rattle.std.specs.Prelude.{List}
use Rattle.heylo_formula.specs.declared.types.Ty.{Ty}
use Rattle.linear_rows.specs.Row.{Row}
use Rattle.linear_rows.specs.GreedyPoint.{IsGreedyPoint}
use Rattle.linear_elim.specs.Elimination.{Step}
use Rattle.linear_elim.specs.ChoiceNumbers.{IsChoiceTooGreat}
use Rattle.linear_elim.specs.Answers.{MeetsAll, AreNarrow, IsBreak, HasNarrowEnds}
use Rattle.linear_elim.specs.declared.choices.Choice.{Choice}
use Rattle.linear_elim.specs.declared.choices.Choice.TheVariants.{Point, Break, Great}

abbrev pub IsChosen : List Row → List Ty → List Step → Choice → Type 0
IsChosen rows vars steps (Point point) = IsGreedyPoint rows vars point.items
    × MeetsAll point.items rows × AreNarrow point.items
IsChosen rows vars steps (Break b) = IsBreak rows vars b × HasNarrowEnds b
IsChosen rows vars steps Great = IsChoiceTooGreat rows vars steps
