-- Names and numbers of the variables that binders become. This project's own.
use Rattle.std.specs.Prelude.{◌<◌, slice_index_or, ◌++◌, ℕ, List, [], ◌∷◌}
use Rattle.heylo_formula.specs.BinderNames.{Binder, binders}
use Rattle.heyvl_acts.specs.declared.typed_trees.VarInfo.{VarInfo}
use Rattle.heylo_formula.specs.declared.types.Ty.TheVariants.{Bool}
use Rattle.heylo_formula.specs.Formula.{Form}
use Rattle.heylo_formula.specs.Typing.{Types}
use Rattle.heyvl_acts.specs.Acts.{Act, Acts, Arms}
use Rattle.heyvl_acts.specs.Rules.{AreNamed}
use Rattle.vp_generator.specs.GeneratedForms.{vp}
use Rattle.heyvl_acts.specs.WellTypedActs.{ActsFit}

-- The name of the variable `x`; the empty name if there is none.
abbrev pub name_of : List VarInfo → ℕ → List ℕ
name_of vs x = (slice_index_or vs x (record { name = []; ty = Bool })).name

-- The variables `vs`, then one for each binder, with its name and type.
abbrev pub named : List VarInfo → List Binder → List VarInfo
named vs [] = vs
named vs (b ∷ bs) = named (vs ++ (record { name = name_of vs b.0; ty = b.1 } ∷ [])) bs

-- Each variable to which the act gives any value is below `n`.
abbrev mutual
  pub AnyIsBelow : ℕ → Act → Type 0
  AnyIsBelow n (Act.set x t span) = Unit {0}
  AnyIsBelow n (Act.draw x ps span) = Unit {0}
  AnyIsBelow n (Act.toss x f span) = Unit {0}
  AnyIsBelow n (Act.any x up ty span) = x < n
  AnyIsBelow n (Act.reward f span) = Unit {0}
  AnyIsBelow n (Act.ifs arms e span) = AnysAreBelow_in n arms × AnysAreBelow n e
  AnyIsBelow n (Act.pick up a b span) = AnysAreBelow n a × AnysAreBelow n b
  AnyIsBelow n (Act.check kind f span) = Unit {0}
  AnyIsBelow n (Act.validate co span) = Unit {0}
  AnyIsBelow n (Act.loop h b) = Unit {0}
  AnyIsBelow n (Act.call xs p es span) = Unit {0}

  -- Each variable to which an act of the sequence gives any value is below `n`.
  pub AnysAreBelow : ℕ → Acts → Type 0
  AnysAreBelow n Acts.done = Unit {0}
  AnysAreBelow n (Acts.next a rest) = AnyIsBelow n a × AnysAreBelow n rest

  -- Each variable to which an act of the arms gives any value is below `n`.
  pub AnysAreBelow_in : ℕ → Arms → Type 0
  AnysAreBelow_in n Arms.no_arm = Unit {0}
  AnysAreBelow_in n (Arms.arm g b more) = AnysAreBelow n b × AnysAreBelow_in n more

-- The binders of the generated form have names of variables below `n`, if the post's have and the
-- acts give any value only to such variables. `prenex` requires this.
abbrev pub GeneratedFormIsNamed : Type 0
GeneratedFormIsNamed = (n : ℕ) (types : Types) (acts : Acts) (post : Form) → ActsFit types acts
    → AnysAreBelow n acts → AreNamed n (binders post) → AreNamed n (binders (vp acts post))
