-- The requirements on acts and on the form that follows them: for some types of the variables, the
-- acts are well typed, so they contain no loop and no call and each draw has a part, and the form
-- is a formula. This project's own.
use Rattle.heylo_formula.specs.Formula.{Form}
use Rattle.heylo_formula.specs.Typing.{Types, IsFormula}
use Rattle.heyvl_acts.specs.Acts.{Acts}
use Rattle.heyvl_acts.specs.WellTypedActs.{ActsFit}

-- Some types of the variables satisfy `Part`, and `post` is a formula for them.
pub record Fit (Part : Types → Type 0) (post : Form) : Type 0 where
  pub types : Types
  pub fit : Part types
  pub formula : IsFormula types post

-- For some types of the variables, the acts are well typed and `post` is a formula.
abbrev pub AreFit : Acts → Form → Type 0
AreFit acts post = Fit (λ types. ActsFit types acts) post
