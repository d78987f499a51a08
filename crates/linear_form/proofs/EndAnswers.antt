-- The end of a path, from the result of an evaluation.
use Rattle.std.proofs.Common.{◌≡◌, ℕ, List, refl, sym, subst}
use Rattle.std.specs.Prelude.{Option}
use Rattle.heylo_formula.specs.Goals.{Goal}
use Rattle.linear_form.specs.Query.{Taken}
use Rattle.linear_form.specs.AskAnswers.{Answers}
use Rattle.linear_form.specs.Paths.{IsPath, end_at}
use Rattle.linear_form.specs.PlainPaths.{atom_of}
use Rattle.linear_form.specs.Places.{IsOn}
use Rattle.linear_form.specs.Standings.{Standing}
use Rattle.linear_values.specs.PlainValues.{linear_of}
use Rattle.linear_values.specs.declared.lin.Lin.{Lin}
use Rattle.linear_form.specs.internal.Run.{Evaluation, along}
use Rattle.linear_form.specs.internal.Steps.{IsEnd}
use Rattle.linear_form.specs.declared.questions.Ask.{Ask}
use Rattle.linear_form.specs.declared.questions.Ask as K
use Rattle.linear_form.specs.declared.paths.Atom as A
use Rattle.linear_form.proofs.PathEnds.{come_on, value_on}

pub on_decides : (g : Goal) (ps : List Taken) (p : Standing) (a : A.Atom) → IsPath g ps → IsOn g ps p → along ps p.left p.at ≡ Evaluation.decide (atom_of a) → Answers (K.TheVariants.Decide a) (end_at g ps)
on_decides g ps p a w h e = let k = come_on g ps p (Evaluation.decide (atom_of a)) w h e in subst (Answers (K.TheVariants.Decide a)) (sym k.1.1) refl

on_ends : (g : Goal) (ps : List Taken) (p : Standing) (x y : Option Lin) (j : ℕ) → IsPath g ps → IsOn g ps p → along ps p.left p.at ≡ Evaluation.value (linear_of x, linear_of y) j → Answers (K.TheVariants.End x y) (end_at g ps)
on_ends g ps p x y j w h e = subst (Answers (K.TheVariants.End x y)) (sym (value_on g ps p (linear_of x, linear_of y) j w h e)) refl

pub on_bits : (g : Goal) (ps : List Taken) (p : Standing) → IsPath g ps → IsOn g ps p → along ps p.left p.at ≡ Evaluation.bits → Answers K.TheVariants.Bits (end_at g ps)
on_bits g ps p w h e = subst (Answers K.TheVariants.Bits) (sym (come_on g ps p Evaluation.bits w h e)) tt

pub on_end : (g : Goal) (ps : List Taken) (p : Standing) (a : Ask) → IsPath g ps → IsOn g ps p → IsEnd a (along ps p.left p.at) → Answers a (end_at g ps)
on_end g ps p (K.TheVariants.Decide q) w h e = absurd e
on_end g ps p (K.TheVariants.End x y) w h e = on_ends g ps p x y e.0 w h e.1
on_end g ps p K.TheVariants.Bits w h e = absurd e
