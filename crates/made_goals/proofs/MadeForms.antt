-- Goals made of the program's copies are goals of the formulas themselves.
use Rattle.std.proofs.Common.{◌≡◌, ◌∙◌, ℕ, sym, ap, subst, Bool, List, map, length}
use Rattle.std.proofs.lemmas.List.{length-map}
use Rattle.std.proofs.lemmas.Result.{IfOk-weaker}
use Rattle.std.specs.Prelude.{Result, IfOk}
use Rattle.std.specs.declared.alloc.AllocError.{AllocError}
use Rattle.heylo_formula.specs.BinderNames.{binders}
use Rattle.heylo_formula.specs.Formula.{Form}
use Rattle.heylo_formula.specs.declared.goals.Made.{Made}
use Rattle.heyvl_acts.specs.Acts.{Acts, Variable}
use Rattle.heyvl_acts.specs.PlainActs.{variable_of}
use Rattle.heyvl_acts.specs.Rules.{AreNamed}
use Rattle.heyvl_acts.specs.declared.typed_trees.VarInfo.{VarInfo}
use Rattle.vp_generator.specs.Fit.{AreFit}
use Rattle.vp_generator.specs.GeneratedForms.{vp}
use Rattle.vp_generator.specs.Limits.{IsTooDeep, IsTooLarge}
use Rattle.vp_generator.specs.PrenexedGoals.{IsMade, IsMadeWithin}
use Rattle.made_goals.specs.MadeGoals.{goal_over}
use Rattle.made_goals.proofs.MadeGoals.{is_made_within}

pub fit_as : (a b : Acts) (f g : Form) → a ≡ b → f ≡ g → AreFit b g → AreFit a f
fit_as a b f g e i h = subst (λ x. AreFit x f) (sym e) (subst (λ x. AreFit b x) (sym i) h)

pub same_many : (xs ys : List VarInfo) → map variable_of xs ≡ map variable_of ys → length xs ≡ length ys
same_many xs ys e = sym (length-map xs variable_of) ∙ (ap (λ (l : List Variable). length l) e ∙ length-map ys variable_of)

pub named_as : (n m : ℕ) (f g : Form) → n ≡ m → f ≡ g → AreNamed m (binders g) → AreNamed n (binders f)
named_as n m f g e i h = subst (λ x. AreNamed n (binders x)) (sym i) (subst (λ k. AreNamed k (binders g)) (sym e) h)

-- The goal of a formula is that of an equal one.
pub made_as : (up : Bool) (vs : List Variable) (stated f g : Form) (r : Result Made AllocError) → f ≡ g → IfOk r (λ m. IsMadeWithin f (goal_over up vs stated f) m) → IfOk r (λ m. IsMadeWithin g (goal_over up vs stated g) m)
made_as up vs stated f g r e h = subst (λ x. IfOk r (λ m. IsMadeWithin x (goal_over up vs stated x) m)) e h

-- The goal made of copies of the variables and of the stated bound.
pub made_of_copies : (up : Bool) (own vars : List VarInfo) (copy stated found : Form) (r : Result Made AllocError) → map variable_of own ≡ map variable_of vars → copy ≡ stated → AreNamed (length own) (binders found) → IfOk r (λ m. IsMade up copy found own m) → IfOk r (λ m. IsMadeWithin found (goal_over up (map variable_of vars) stated found) m)
made_of_copies up own vars copy stated found r e i n h = IfOk-weaker r (λ m. IsMade up copy found own m) (λ m. IsMadeWithin found (goal_over up (map variable_of vars) stated found) m) (λ m k. subst (λ s. IsMadeWithin found (goal_over up (map variable_of vars) s found) m) i (is_made_within up own (map variable_of vars) copy found m e n k)) h

-- ---- The answer of `vp` on a copy

pub vp_is : (a : Acts) (f g h : Form) → h ≡ vp a f → f ≡ g → h ≡ vp a g
vp_is a f g h e i = e ∙ ap (λ x. vp a x) i

pub too_deep : (a : Acts) (f g : Form) → IsTooDeep (vp a f) → f ≡ g → IsTooDeep (vp a g)
too_deep a f g h i = subst (λ x. IsTooDeep (vp a x)) i h

pub too_large : (a : Acts) (f g : Form) → IsTooLarge (vp a f) → f ≡ g → IsTooLarge (vp a g)
too_large a f g h i = subst (λ x. IsTooLarge (vp a x)) i h
