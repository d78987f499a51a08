-- Acts that are well typed for some types, by the shape of the acts.
use Rattle.heylo_formula.specs.Formula.{Form, Term}
use Rattle.heylo_formula.specs.Typing.{TermFits}
use Rattle.heylo_formula.specs.declared.types.Ty.{Ty}
use Rattle.heyvl_acts.specs.Acts.{Act, Arms}
use Rattle.heyvl_acts.specs.WellTypedActs.{IsWeight, PartsFit, DrawFits, ActFits, ArmsFit}
use Rattle.heyvl_num.specs.Rational.{Rational}
use Rattle.std.specs.Prelude.{◌≡◌, ℕ, List}
use Rattle.vp_generator.specs.Fit.{Fit}

-- An act, arms, a draw, the parts of a draw and a term, before the formula `post`.
abbrev pub IsFit : Act → Form → Type 0
IsFit a post = Fit (λ types. ActFits types a) post

abbrev pub ArmsAreFit : Arms → Form → Type 0
ArmsAreFit arms post = Fit (λ types. ArmsFit types arms) post

abbrev pub DrawIsFit : ℕ → List (Rational × Term) → Form → Type 0
DrawIsFit x ps post = Fit (λ types. DrawFits types x ps) post

abbrev pub PartsAreFit : ℕ → List (Rational × Term) → Form → Type 0
PartsAreFit x ps post = Fit (λ types. PartsFit types x ps) post

-- A toss, and its variable, before the formula `post`.
abbrev pub TossIsFit : ℕ → Form → Form → Type 0
TossIsFit x f post = Fit (λ types. (types x ≡ Ty.Bool) × IsWeight types f) post

abbrev pub FlagIsFit : ℕ → Form → Type 0
FlagIsFit x post = Fit (λ types. types x ≡ Ty.Bool) post

abbrev pub TermIsFit : ℕ → Term → Form → Type 0
TermIsFit x t post = Fit (λ types. TermFits types (types x) t) post
