-- The results of `ask`.
use Rattle.std.specs.Prelude.{◌≡◌}
use Rattle.linear_form.specs.Query.{Query}
use Rattle.linear_form.specs.Questions.{Ends}
use Rattle.linear_values.specs.PlainValues.{linear_of}
use Rattle.linear_form.specs.PlainPaths.{atom_of}
use Rattle.linear_form.specs.declared.questions.Ask as K

-- `Answers a t`: the result `a` of the program describes the tree `t` at the end of a path: the
-- next comparison, the two values, or an overflow.
abbrev pub Answers : K.Ask → Query Ends → Type 0
Answers (K.TheVariants.Decide q) (Query.ask r y n) = atom_of q ≡ r
Answers (K.TheVariants.Decide q) (Query.done e) = ⊥
Answers (K.TheVariants.Decide q) Query.bits = ⊥
Answers (K.TheVariants.End x z) (Query.done e) = (linear_of x, linear_of z) ≡ e
Answers (K.TheVariants.End x z) (Query.ask r y n) = ⊥
Answers (K.TheVariants.End x z) Query.bits = ⊥
Answers K.TheVariants.Bits (Query.done e) = ⊥
Answers K.TheVariants.Bits (Query.ask r y n) = ⊥
Answers K.TheVariants.Bits Query.bits = Unit {0}
