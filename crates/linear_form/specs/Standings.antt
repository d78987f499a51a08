-- The model of an evaluation of a goal in contracts. This project's own.
use Rattle.std.specs.Prelude.{ℕ}
use Rattle.linear_form.specs.Query.{Query}
use Rattle.linear_form.specs.Questions.{Ends}

-- `left`: the tree of the comparisons that the evaluation has still to ask; `at`: the number of
-- answers of the path that it has used.
pub record Standing : Type 0 where
  pub left : Query Ends
  pub at : ℕ
