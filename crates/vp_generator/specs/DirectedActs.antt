-- Acts whose generated form keeps the best value of what follows: each binder has the procedure's
-- direction, upward in a coproc, and no binder follows a check that does not keep the best value.
-- `is_directed` lists the operators that keep it. This project's own.
use Rattle.std.specs.Prelude.{◌≡◌, Bool, true, List}
use Rattle.heylo_formula.specs.Formula.{Form}
use Rattle.heylo_formula.specs.Binders.{has_binder}
use Rattle.heylo_formula.specs.Extrema.{is_directed}
use Rattle.heylo_formula.specs.Typing.{Types}
use Rattle.heyvl_acts.specs.Acts.{Act, Acts, TypedProcedure, types_of, acts_in}
use Rattle.heyvl_acts.specs.Places.{in_order}
use Rattle.heyvl_acts.specs.Rules.{Each, NothingBindsBehind, MeetsRules}
use Rattle.heyvl_acts.specs.WellTypedActs.{ActsFit}
use Rattle.vp_generator.specs.GeneratedForms.{vp}

-- If the act gives a variable any value, it does so in the direction `co`, upward if true.
abbrev pub ChoosesToward : Bool → Act → Type 0
ChoosesToward co (Act.any x up ty span) = up ≡ co
ChoosesToward co (Act.set x t span) = Unit {0}
ChoosesToward co (Act.draw x ps span) = Unit {0}
ChoosesToward co (Act.toss x f span) = Unit {0}
ChoosesToward co (Act.reward f span) = Unit {0}
ChoosesToward co (Act.ifs arms e span) = Unit {0}
ChoosesToward co (Act.pick up a b span) = Unit {0}
ChoosesToward co (Act.check kind f span) = Unit {0}
ChoosesToward co (Act.validate d span) = Unit {0}
ChoosesToward co (Act.loop h b) = Unit {0}
ChoosesToward co (Act.call xs p es span) = Unit {0}

-- The form of directed acts over a directed post is directed.
abbrev pub GeneratedFormIsDirected : Type 0
GeneratedFormIsDirected = (co : Bool) (types : Types) (acts : Acts) (post : Form)
    → ActsFit types acts → Each (ChoosesToward co) (in_order acts)
    → NothingBindsBehind co (has_binder post) (in_order acts) → is_directed co post ≡ true
    → is_directed co (vp acts post) ≡ true

-- The form of a procedure's body without loops and calls, over its post, has the procedure's
-- direction, if the procedure satisfies the static rules.
abbrev pub FormOfProcedureIsDirected : Type 0
FormOfProcedureIsDirected = (ps : List TypedProcedure) (p : TypedProcedure) → MeetsRules ps p
    → ActsFit (types_of p) (acts_in p.body) → is_directed p.co (vp (acts_in p.body) p.post) ≡ true
