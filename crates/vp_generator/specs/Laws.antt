-- The laws of the generated form. This project's own.
use Rattle.std.specs.Prelude.{◌≡◌}
use Rattle.heylo_formula.specs.Formula.{Form}
use Rattle.heylo_formula.specs.State.{Env}
use Rattle.heylo_formula.specs.Choices.{Choices}
use Rattle.heylo_formula.specs.Meaning.{value}
use Rattle.heylo_formula.specs.Typing.{Types, IsFormula}
use Rattle.heyvl_acts.specs.Acts.{Acts}
use Rattle.heyvl_acts.specs.Forward.{forward}
use Rattle.vp_generator.specs.GeneratedForms.{vp}
use Rattle.heyvl_acts.specs.WellTypedActs.{ActsFit}

-- The value of the generated form is the forward meaning of the acts, for all choices: the same
-- tree of choices serves both.
abbrev pub GeneratedFormMeansActs : Type 0
GeneratedFormMeansActs = (types : Types) (acts : Acts) (post : Form) (s : Env) (c : Choices)
    → ActsFit types acts → value (vp acts post) s c ≡ forward acts (value post) s c

-- The generated form is a formula if the post is one.
abbrev pub GeneratedFormIsFormula : Type 0
GeneratedFormIsFormula = (types : Types) (acts : Acts) (post : Form) → ActsFit types acts
    → IsFormula types post → IsFormula types (vp acts post)
