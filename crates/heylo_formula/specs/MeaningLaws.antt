-- Forms whose meaning with suprema and infima exists.
use Rattle.std.specs.Prelude.{◌≡◌, Bool, true, ◌&&◌}
use Rattle.heyvl_num.specs.Value.{Value}
use Rattle.heylo_formula.specs.Formula.{Form}
use Rattle.heylo_formula.specs.State.{Env}
use Rattle.heylo_formula.specs.Typing.{is_bool}
use Rattle.heylo_formula.specs.Extrema.{Means}

-- `chooses_finitely f`: each binder of the form `f` is over Bool. Binders in conditions are not
-- counted, since a well-typed condition has none.
abbrev pub chooses_finitely : Form → Bool
chooses_finitely (Form.number v) = true
chooses_finitely (Form.variable x) = true
chooses_finitely (Form.sum a b) = chooses_finitely a && chooses_finitely b
chooses_finitely (Form.difference a b) = chooses_finitely a && chooses_finitely b
chooses_finitely (Form.cut a b) = chooses_finitely a && chooses_finitely b
chooses_finitely (Form.scale w a) = chooses_finitely a
chooses_finitely (Form.product a b span) = chooses_finitely a && chooses_finitely b
chooses_finitely (Form.min a b) = chooses_finitely a && chooses_finitely b
chooses_finitely (Form.max a b) = chooses_finitely a && chooses_finitely b
chooses_finitely (Form.imply a b) = chooses_finitely a && chooses_finitely b
chooses_finitely (Form.co_imply a b) = chooses_finitely a && chooses_finitely b
chooses_finitely (Form.validate a) = chooses_finitely a
chooses_finitely (Form.co_validate a) = chooses_finitely a
chooses_finitely (Form.embed g) = true
chooses_finitely (Form.iverson g) = true
chooses_finitely (Form.select g a b) = chooses_finitely a && chooses_finitely b
chooses_finitely (Form.bind up x name ty a) = is_bool ty && chooses_finitely a

-- `HasMeaning f s`: the form `f` has a meaning in the environment `s`.
pub record HasMeaning (f : Form) (s : Env) : Type 0 where
  pub meaning : Value
  pub meant : Means f s meaning

-- A form whose binders are all over Bool has a meaning in each environment.
--
-- A form with a binder over numbers may have no meaning: the supremum of the numbers whose square
-- is at most 2 is no fraction. A form has a meaning if it is linear, its conditions included. No
-- law states this, and no contract needs it, since `BoundsHoldByChoices` reduces a bound to all
-- choices.
abbrev pub FiniteChoicesHaveMeanings : Type 0
FiniteChoicesHaveMeanings = (f : Form) (s : Env) → chooses_finitely f ≡ true → HasMeaning f s
