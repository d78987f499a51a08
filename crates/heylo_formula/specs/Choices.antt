-- Choice trees: a value for each occurrence of a binder in a form. The two parts of a node have
-- independent choices. This project's own.
use Rattle.std.specs.Prelude.{false}
use Rattle.heylo_formula.specs.declared.values.Val.{Val}
use Rattle.heylo_formula.specs.declared.values.Val.TheVariants.{Truth}

-- A choice tree: empty, or the value that is chosen here, with the choices of the left and of the
-- right part.
pub data Choices : Type 0 where
  stop : Choices
  choose : Val → Choices → Choices → Choices

-- The value that is chosen here. The empty tree chooses false, which is 0 as a number.
abbrev pub here : Choices → Val
here Choices.stop = Truth false
here (Choices.choose v a b) = v

-- The choices of the left part of a node. They are empty for the empty tree.
abbrev pub left : Choices → Choices
left Choices.stop = Choices.stop
left (Choices.choose v a b) = a

-- The choices of the right part of a node. They are empty for the empty tree.
abbrev pub right : Choices → Choices
right Choices.stop = Choices.stop
right (Choices.choose v a b) = b
