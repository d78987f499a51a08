-- A substitution keeps forms and conditions well typed.
use Rattle.std.proofs.Common.{◌≡◌, ◌⊎◌, inl, inr, ℕ, ◌<◌, refl, sym, ap, ap₂, ◌∙◌, subst, arith, Bool, true, false, cond, ◌==◌, ◌&&◌, ◌||◌}
use Rattle.std.specs.Prelude.{Option, Some, None}
use Prim.Native.Nat.{zero, suc}
use Rattle.heyvl_num.specs.Rational.{zeroʳ, leqʳ}
use Rattle.heyvl_num.specs.Value.Value.{finite}
use Rattle.heylo_formula.specs.Formula.{Form, Cond, Term}
use Rattle.heylo_formula.specs.Variables.{is_free, is_free_in, occurs, occurs_in, occurs_in_term}
use Rattle.heylo_formula.specs.Sizes.{nodes, nodes_in}
use Rattle.heylo_formula.specs.Substitution as Replaced
use Rattle.heylo_formula.specs.Substitution.{renamed, renamed_in, fresh, as_form, as_cond, subst_within, subst_within_in}
use Rattle.heylo_formula.specs.Typing.{NumberType, Types, retyped, number_type, is_bool, joined, fits, is_finite_type, is_unsigned, only_if, constant_type, difference_type, cut_type, scale_type, type_of, is_well_typed, TermFits}
use Rattle.heylo_formula.specs.declared.types.Ty.{Ty}
use Rattle.heylo_formula.proofs.Dependence.{or_false, unused_free, unused_free_in}
use Rattle.heylo_formula.proofs.RenamedValues.{same_nodes}
use Rattle.heylo_formula.proofs.FreshNumbers.{fresh_is}

clash : (b : Bool) → b ≡ true → b ≡ false → ⊥
clash b h k = let e : true ≡ false = sym h ∙ k in cc

apart : (x z : ℕ) (a : Form) → is_free x a ≡ true → occurs z a ≡ false → (x == z) ≡ false
apart x z a h k = go (x == z) refl
  where
    go : (b : Bool) → (x == z) ≡ b → b ≡ false
    go true q = let p : x ≡ z = grind arith in absurd (clash (is_free x a) h (ap (λ y. is_free y a) p ∙ unused_free z a k))
    go false q = refl

-- ---- Narrower types

fits_refl : (t : Option NumberType) → fits t t ≡ true
fits_refl None = refl
fits_refl (Some NumberType.int) = refl
fits_refl (Some NumberType.uint) = refl
fits_refl (Some NumberType.ureal) = refl
fits_refl (Some NumberType.eureal) = refl

keep_join : (t u t' u' : Option NumberType) → fits t' t ≡ true → fits u' u ≡ true → fits (joined t' u') (joined t u) ≡ true
keep_join None u t' u' h k = refl
keep_join (Some NumberType.int) None t' u' h k = refl
keep_join (Some NumberType.int) (Some NumberType.int) None u' h k = absurd (cc)
keep_join (Some NumberType.int) (Some NumberType.int) (Some NumberType.int) None h k = absurd (cc)
keep_join (Some NumberType.int) (Some NumberType.int) (Some NumberType.int) (Some NumberType.int) h k = refl
keep_join (Some NumberType.int) (Some NumberType.int) (Some NumberType.int) (Some NumberType.uint) h k = refl
keep_join (Some NumberType.int) (Some NumberType.int) (Some NumberType.int) (Some NumberType.ureal) h k = absurd (cc)
keep_join (Some NumberType.int) (Some NumberType.int) (Some NumberType.int) (Some NumberType.eureal) h k = absurd (cc)
keep_join (Some NumberType.int) (Some NumberType.int) (Some NumberType.uint) None h k = absurd (cc)
keep_join (Some NumberType.int) (Some NumberType.int) (Some NumberType.uint) (Some NumberType.int) h k = refl
keep_join (Some NumberType.int) (Some NumberType.int) (Some NumberType.uint) (Some NumberType.uint) h k = refl
keep_join (Some NumberType.int) (Some NumberType.int) (Some NumberType.uint) (Some NumberType.ureal) h k = absurd (cc)
keep_join (Some NumberType.int) (Some NumberType.int) (Some NumberType.uint) (Some NumberType.eureal) h k = absurd (cc)
keep_join (Some NumberType.int) (Some NumberType.int) (Some NumberType.ureal) u' h k = absurd (cc)
keep_join (Some NumberType.int) (Some NumberType.int) (Some NumberType.eureal) u' h k = absurd (cc)
keep_join (Some NumberType.int) (Some NumberType.uint) None u' h k = absurd (cc)
keep_join (Some NumberType.int) (Some NumberType.uint) (Some NumberType.int) None h k = absurd (cc)
keep_join (Some NumberType.int) (Some NumberType.uint) (Some NumberType.int) (Some NumberType.int) h k = absurd (cc)
keep_join (Some NumberType.int) (Some NumberType.uint) (Some NumberType.int) (Some NumberType.uint) h k = refl
keep_join (Some NumberType.int) (Some NumberType.uint) (Some NumberType.int) (Some NumberType.ureal) h k = absurd (cc)
keep_join (Some NumberType.int) (Some NumberType.uint) (Some NumberType.int) (Some NumberType.eureal) h k = absurd (cc)
keep_join (Some NumberType.int) (Some NumberType.uint) (Some NumberType.uint) None h k = absurd (cc)
keep_join (Some NumberType.int) (Some NumberType.uint) (Some NumberType.uint) (Some NumberType.int) h k = absurd (cc)
keep_join (Some NumberType.int) (Some NumberType.uint) (Some NumberType.uint) (Some NumberType.uint) h k = refl
keep_join (Some NumberType.int) (Some NumberType.uint) (Some NumberType.uint) (Some NumberType.ureal) h k = absurd (cc)
keep_join (Some NumberType.int) (Some NumberType.uint) (Some NumberType.uint) (Some NumberType.eureal) h k = absurd (cc)
keep_join (Some NumberType.int) (Some NumberType.uint) (Some NumberType.ureal) u' h k = absurd (cc)
keep_join (Some NumberType.int) (Some NumberType.uint) (Some NumberType.eureal) u' h k = absurd (cc)
keep_join (Some NumberType.int) (Some NumberType.ureal) t' u' h k = refl
keep_join (Some NumberType.int) (Some NumberType.eureal) t' u' h k = refl
keep_join (Some NumberType.uint) None t' u' h k = refl
keep_join (Some NumberType.uint) (Some NumberType.int) None u' h k = absurd (cc)
keep_join (Some NumberType.uint) (Some NumberType.int) (Some NumberType.int) u' h k = absurd (cc)
keep_join (Some NumberType.uint) (Some NumberType.int) (Some NumberType.uint) None h k = absurd (cc)
keep_join (Some NumberType.uint) (Some NumberType.int) (Some NumberType.uint) (Some NumberType.int) h k = refl
keep_join (Some NumberType.uint) (Some NumberType.int) (Some NumberType.uint) (Some NumberType.uint) h k = refl
keep_join (Some NumberType.uint) (Some NumberType.int) (Some NumberType.uint) (Some NumberType.ureal) h k = absurd (cc)
keep_join (Some NumberType.uint) (Some NumberType.int) (Some NumberType.uint) (Some NumberType.eureal) h k = absurd (cc)
keep_join (Some NumberType.uint) (Some NumberType.int) (Some NumberType.ureal) u' h k = absurd (cc)
keep_join (Some NumberType.uint) (Some NumberType.int) (Some NumberType.eureal) u' h k = absurd (cc)
keep_join (Some NumberType.uint) (Some NumberType.uint) None u' h k = absurd (cc)
keep_join (Some NumberType.uint) (Some NumberType.uint) (Some NumberType.int) u' h k = absurd (cc)
keep_join (Some NumberType.uint) (Some NumberType.uint) (Some NumberType.uint) None h k = absurd (cc)
keep_join (Some NumberType.uint) (Some NumberType.uint) (Some NumberType.uint) (Some NumberType.int) h k = absurd (cc)
keep_join (Some NumberType.uint) (Some NumberType.uint) (Some NumberType.uint) (Some NumberType.uint) h k = refl
keep_join (Some NumberType.uint) (Some NumberType.uint) (Some NumberType.uint) (Some NumberType.ureal) h k = absurd (cc)
keep_join (Some NumberType.uint) (Some NumberType.uint) (Some NumberType.uint) (Some NumberType.eureal) h k = absurd (cc)
keep_join (Some NumberType.uint) (Some NumberType.uint) (Some NumberType.ureal) u' h k = absurd (cc)
keep_join (Some NumberType.uint) (Some NumberType.uint) (Some NumberType.eureal) u' h k = absurd (cc)
keep_join (Some NumberType.uint) (Some NumberType.ureal) None u' h k = absurd (cc)
keep_join (Some NumberType.uint) (Some NumberType.ureal) (Some NumberType.int) u' h k = absurd (cc)
keep_join (Some NumberType.uint) (Some NumberType.ureal) (Some NumberType.uint) None h k = absurd (cc)
keep_join (Some NumberType.uint) (Some NumberType.ureal) (Some NumberType.uint) (Some NumberType.int) h k = absurd (cc)
keep_join (Some NumberType.uint) (Some NumberType.ureal) (Some NumberType.uint) (Some NumberType.uint) h k = refl
keep_join (Some NumberType.uint) (Some NumberType.ureal) (Some NumberType.uint) (Some NumberType.ureal) h k = refl
keep_join (Some NumberType.uint) (Some NumberType.ureal) (Some NumberType.uint) (Some NumberType.eureal) h k = absurd (cc)
keep_join (Some NumberType.uint) (Some NumberType.ureal) (Some NumberType.ureal) u' h k = absurd (cc)
keep_join (Some NumberType.uint) (Some NumberType.ureal) (Some NumberType.eureal) u' h k = absurd (cc)
keep_join (Some NumberType.uint) (Some NumberType.eureal) None u' h k = absurd (cc)
keep_join (Some NumberType.uint) (Some NumberType.eureal) (Some NumberType.int) u' h k = absurd (cc)
keep_join (Some NumberType.uint) (Some NumberType.eureal) (Some NumberType.uint) None h k = absurd (cc)
keep_join (Some NumberType.uint) (Some NumberType.eureal) (Some NumberType.uint) (Some NumberType.int) h k = absurd (cc)
keep_join (Some NumberType.uint) (Some NumberType.eureal) (Some NumberType.uint) (Some NumberType.uint) h k = refl
keep_join (Some NumberType.uint) (Some NumberType.eureal) (Some NumberType.uint) (Some NumberType.ureal) h k = refl
keep_join (Some NumberType.uint) (Some NumberType.eureal) (Some NumberType.uint) (Some NumberType.eureal) h k = refl
keep_join (Some NumberType.uint) (Some NumberType.eureal) (Some NumberType.ureal) u' h k = absurd (cc)
keep_join (Some NumberType.uint) (Some NumberType.eureal) (Some NumberType.eureal) u' h k = absurd (cc)
keep_join (Some NumberType.ureal) None t' u' h k = refl
keep_join (Some NumberType.ureal) (Some NumberType.int) t' u' h k = refl
keep_join (Some NumberType.ureal) (Some NumberType.uint) None u' h k = absurd (cc)
keep_join (Some NumberType.ureal) (Some NumberType.uint) (Some NumberType.int) u' h k = absurd (cc)
keep_join (Some NumberType.ureal) (Some NumberType.uint) (Some NumberType.uint) None h k = absurd (cc)
keep_join (Some NumberType.ureal) (Some NumberType.uint) (Some NumberType.uint) (Some NumberType.int) h k = absurd (cc)
keep_join (Some NumberType.ureal) (Some NumberType.uint) (Some NumberType.uint) (Some NumberType.uint) h k = refl
keep_join (Some NumberType.ureal) (Some NumberType.uint) (Some NumberType.uint) (Some NumberType.ureal) h k = absurd (cc)
keep_join (Some NumberType.ureal) (Some NumberType.uint) (Some NumberType.uint) (Some NumberType.eureal) h k = absurd (cc)
keep_join (Some NumberType.ureal) (Some NumberType.uint) (Some NumberType.ureal) None h k = absurd (cc)
keep_join (Some NumberType.ureal) (Some NumberType.uint) (Some NumberType.ureal) (Some NumberType.int) h k = absurd (cc)
keep_join (Some NumberType.ureal) (Some NumberType.uint) (Some NumberType.ureal) (Some NumberType.uint) h k = refl
keep_join (Some NumberType.ureal) (Some NumberType.uint) (Some NumberType.ureal) (Some NumberType.ureal) h k = absurd (cc)
keep_join (Some NumberType.ureal) (Some NumberType.uint) (Some NumberType.ureal) (Some NumberType.eureal) h k = absurd (cc)
keep_join (Some NumberType.ureal) (Some NumberType.uint) (Some NumberType.eureal) u' h k = absurd (cc)
keep_join (Some NumberType.ureal) (Some NumberType.ureal) None u' h k = absurd (cc)
keep_join (Some NumberType.ureal) (Some NumberType.ureal) (Some NumberType.int) u' h k = absurd (cc)
keep_join (Some NumberType.ureal) (Some NumberType.ureal) (Some NumberType.uint) None h k = absurd (cc)
keep_join (Some NumberType.ureal) (Some NumberType.ureal) (Some NumberType.uint) (Some NumberType.int) h k = absurd (cc)
keep_join (Some NumberType.ureal) (Some NumberType.ureal) (Some NumberType.uint) (Some NumberType.uint) h k = refl
keep_join (Some NumberType.ureal) (Some NumberType.ureal) (Some NumberType.uint) (Some NumberType.ureal) h k = refl
keep_join (Some NumberType.ureal) (Some NumberType.ureal) (Some NumberType.uint) (Some NumberType.eureal) h k = absurd (cc)
keep_join (Some NumberType.ureal) (Some NumberType.ureal) (Some NumberType.ureal) None h k = absurd (cc)
keep_join (Some NumberType.ureal) (Some NumberType.ureal) (Some NumberType.ureal) (Some NumberType.int) h k = absurd (cc)
keep_join (Some NumberType.ureal) (Some NumberType.ureal) (Some NumberType.ureal) (Some NumberType.uint) h k = refl
keep_join (Some NumberType.ureal) (Some NumberType.ureal) (Some NumberType.ureal) (Some NumberType.ureal) h k = refl
keep_join (Some NumberType.ureal) (Some NumberType.ureal) (Some NumberType.ureal) (Some NumberType.eureal) h k = absurd (cc)
keep_join (Some NumberType.ureal) (Some NumberType.ureal) (Some NumberType.eureal) u' h k = absurd (cc)
keep_join (Some NumberType.ureal) (Some NumberType.eureal) None u' h k = absurd (cc)
keep_join (Some NumberType.ureal) (Some NumberType.eureal) (Some NumberType.int) u' h k = absurd (cc)
keep_join (Some NumberType.ureal) (Some NumberType.eureal) (Some NumberType.uint) None h k = absurd (cc)
keep_join (Some NumberType.ureal) (Some NumberType.eureal) (Some NumberType.uint) (Some NumberType.int) h k = absurd (cc)
keep_join (Some NumberType.ureal) (Some NumberType.eureal) (Some NumberType.uint) (Some NumberType.uint) h k = refl
keep_join (Some NumberType.ureal) (Some NumberType.eureal) (Some NumberType.uint) (Some NumberType.ureal) h k = refl
keep_join (Some NumberType.ureal) (Some NumberType.eureal) (Some NumberType.uint) (Some NumberType.eureal) h k = refl
keep_join (Some NumberType.ureal) (Some NumberType.eureal) (Some NumberType.ureal) None h k = absurd (cc)
keep_join (Some NumberType.ureal) (Some NumberType.eureal) (Some NumberType.ureal) (Some NumberType.int) h k = absurd (cc)
keep_join (Some NumberType.ureal) (Some NumberType.eureal) (Some NumberType.ureal) (Some NumberType.uint) h k = refl
keep_join (Some NumberType.ureal) (Some NumberType.eureal) (Some NumberType.ureal) (Some NumberType.ureal) h k = refl
keep_join (Some NumberType.ureal) (Some NumberType.eureal) (Some NumberType.ureal) (Some NumberType.eureal) h k = refl
keep_join (Some NumberType.ureal) (Some NumberType.eureal) (Some NumberType.eureal) u' h k = absurd (cc)
keep_join (Some NumberType.eureal) None t' u' h k = refl
keep_join (Some NumberType.eureal) (Some NumberType.int) t' u' h k = refl
keep_join (Some NumberType.eureal) (Some NumberType.uint) None u' h k = absurd (cc)
keep_join (Some NumberType.eureal) (Some NumberType.uint) (Some NumberType.int) u' h k = absurd (cc)
keep_join (Some NumberType.eureal) (Some NumberType.uint) (Some NumberType.uint) None h k = absurd (cc)
keep_join (Some NumberType.eureal) (Some NumberType.uint) (Some NumberType.uint) (Some NumberType.int) h k = absurd (cc)
keep_join (Some NumberType.eureal) (Some NumberType.uint) (Some NumberType.uint) (Some NumberType.uint) h k = refl
keep_join (Some NumberType.eureal) (Some NumberType.uint) (Some NumberType.uint) (Some NumberType.ureal) h k = absurd (cc)
keep_join (Some NumberType.eureal) (Some NumberType.uint) (Some NumberType.uint) (Some NumberType.eureal) h k = absurd (cc)
keep_join (Some NumberType.eureal) (Some NumberType.uint) (Some NumberType.ureal) None h k = absurd (cc)
keep_join (Some NumberType.eureal) (Some NumberType.uint) (Some NumberType.ureal) (Some NumberType.int) h k = absurd (cc)
keep_join (Some NumberType.eureal) (Some NumberType.uint) (Some NumberType.ureal) (Some NumberType.uint) h k = refl
keep_join (Some NumberType.eureal) (Some NumberType.uint) (Some NumberType.ureal) (Some NumberType.ureal) h k = absurd (cc)
keep_join (Some NumberType.eureal) (Some NumberType.uint) (Some NumberType.ureal) (Some NumberType.eureal) h k = absurd (cc)
keep_join (Some NumberType.eureal) (Some NumberType.uint) (Some NumberType.eureal) None h k = absurd (cc)
keep_join (Some NumberType.eureal) (Some NumberType.uint) (Some NumberType.eureal) (Some NumberType.int) h k = absurd (cc)
keep_join (Some NumberType.eureal) (Some NumberType.uint) (Some NumberType.eureal) (Some NumberType.uint) h k = refl
keep_join (Some NumberType.eureal) (Some NumberType.uint) (Some NumberType.eureal) (Some NumberType.ureal) h k = absurd (cc)
keep_join (Some NumberType.eureal) (Some NumberType.uint) (Some NumberType.eureal) (Some NumberType.eureal) h k = absurd (cc)
keep_join (Some NumberType.eureal) (Some NumberType.ureal) None u' h k = absurd (cc)
keep_join (Some NumberType.eureal) (Some NumberType.ureal) (Some NumberType.int) u' h k = absurd (cc)
keep_join (Some NumberType.eureal) (Some NumberType.ureal) (Some NumberType.uint) None h k = absurd (cc)
keep_join (Some NumberType.eureal) (Some NumberType.ureal) (Some NumberType.uint) (Some NumberType.int) h k = absurd (cc)
keep_join (Some NumberType.eureal) (Some NumberType.ureal) (Some NumberType.uint) (Some NumberType.uint) h k = refl
keep_join (Some NumberType.eureal) (Some NumberType.ureal) (Some NumberType.uint) (Some NumberType.ureal) h k = refl
keep_join (Some NumberType.eureal) (Some NumberType.ureal) (Some NumberType.uint) (Some NumberType.eureal) h k = absurd (cc)
keep_join (Some NumberType.eureal) (Some NumberType.ureal) (Some NumberType.ureal) None h k = absurd (cc)
keep_join (Some NumberType.eureal) (Some NumberType.ureal) (Some NumberType.ureal) (Some NumberType.int) h k = absurd (cc)
keep_join (Some NumberType.eureal) (Some NumberType.ureal) (Some NumberType.ureal) (Some NumberType.uint) h k = refl
keep_join (Some NumberType.eureal) (Some NumberType.ureal) (Some NumberType.ureal) (Some NumberType.ureal) h k = refl
keep_join (Some NumberType.eureal) (Some NumberType.ureal) (Some NumberType.ureal) (Some NumberType.eureal) h k = absurd (cc)
keep_join (Some NumberType.eureal) (Some NumberType.ureal) (Some NumberType.eureal) None h k = absurd (cc)
keep_join (Some NumberType.eureal) (Some NumberType.ureal) (Some NumberType.eureal) (Some NumberType.int) h k = absurd (cc)
keep_join (Some NumberType.eureal) (Some NumberType.ureal) (Some NumberType.eureal) (Some NumberType.uint) h k = refl
keep_join (Some NumberType.eureal) (Some NumberType.ureal) (Some NumberType.eureal) (Some NumberType.ureal) h k = refl
keep_join (Some NumberType.eureal) (Some NumberType.ureal) (Some NumberType.eureal) (Some NumberType.eureal) h k = absurd (cc)
keep_join (Some NumberType.eureal) (Some NumberType.eureal) None u' h k = absurd (cc)
keep_join (Some NumberType.eureal) (Some NumberType.eureal) (Some NumberType.int) u' h k = absurd (cc)
keep_join (Some NumberType.eureal) (Some NumberType.eureal) (Some NumberType.uint) None h k = absurd (cc)
keep_join (Some NumberType.eureal) (Some NumberType.eureal) (Some NumberType.uint) (Some NumberType.int) h k = absurd (cc)
keep_join (Some NumberType.eureal) (Some NumberType.eureal) (Some NumberType.uint) (Some NumberType.uint) h k = refl
keep_join (Some NumberType.eureal) (Some NumberType.eureal) (Some NumberType.uint) (Some NumberType.ureal) h k = refl
keep_join (Some NumberType.eureal) (Some NumberType.eureal) (Some NumberType.uint) (Some NumberType.eureal) h k = refl
keep_join (Some NumberType.eureal) (Some NumberType.eureal) (Some NumberType.ureal) None h k = absurd (cc)
keep_join (Some NumberType.eureal) (Some NumberType.eureal) (Some NumberType.ureal) (Some NumberType.int) h k = absurd (cc)
keep_join (Some NumberType.eureal) (Some NumberType.eureal) (Some NumberType.ureal) (Some NumberType.uint) h k = refl
keep_join (Some NumberType.eureal) (Some NumberType.eureal) (Some NumberType.ureal) (Some NumberType.ureal) h k = refl
keep_join (Some NumberType.eureal) (Some NumberType.eureal) (Some NumberType.ureal) (Some NumberType.eureal) h k = refl
keep_join (Some NumberType.eureal) (Some NumberType.eureal) (Some NumberType.eureal) None h k = absurd (cc)
keep_join (Some NumberType.eureal) (Some NumberType.eureal) (Some NumberType.eureal) (Some NumberType.int) h k = absurd (cc)
keep_join (Some NumberType.eureal) (Some NumberType.eureal) (Some NumberType.eureal) (Some NumberType.uint) h k = refl
keep_join (Some NumberType.eureal) (Some NumberType.eureal) (Some NumberType.eureal) (Some NumberType.ureal) h k = refl
keep_join (Some NumberType.eureal) (Some NumberType.eureal) (Some NumberType.eureal) (Some NumberType.eureal) h k = refl

keep_difference : (t t' : Option NumberType) → fits t' t ≡ true → fits (difference_type t') (difference_type t) ≡ true
keep_difference None t' h = refl
keep_difference (Some NumberType.int) None h = absurd (cc)
keep_difference (Some NumberType.int) (Some NumberType.int) h = refl
keep_difference (Some NumberType.int) (Some NumberType.uint) h = refl
keep_difference (Some NumberType.int) (Some NumberType.ureal) h = absurd (cc)
keep_difference (Some NumberType.int) (Some NumberType.eureal) h = absurd (cc)
keep_difference (Some NumberType.uint) None h = absurd (cc)
keep_difference (Some NumberType.uint) (Some NumberType.int) h = absurd (cc)
keep_difference (Some NumberType.uint) (Some NumberType.uint) h = refl
keep_difference (Some NumberType.uint) (Some NumberType.ureal) h = absurd (cc)
keep_difference (Some NumberType.uint) (Some NumberType.eureal) h = absurd (cc)
keep_difference (Some NumberType.ureal) t' h = refl
keep_difference (Some NumberType.eureal) t' h = refl

keep_cut : (t t' : Option NumberType) → fits t' t ≡ true → fits (cut_type t') (cut_type t) ≡ true
keep_cut None t' h = refl
keep_cut (Some NumberType.int) t' h = refl
keep_cut (Some NumberType.uint) None h = absurd (cc)
keep_cut (Some NumberType.uint) (Some NumberType.int) h = absurd (cc)
keep_cut (Some NumberType.uint) (Some NumberType.uint) h = refl
keep_cut (Some NumberType.uint) (Some NumberType.ureal) h = absurd (cc)
keep_cut (Some NumberType.uint) (Some NumberType.eureal) h = absurd (cc)
keep_cut (Some NumberType.ureal) None h = absurd (cc)
keep_cut (Some NumberType.ureal) (Some NumberType.int) h = absurd (cc)
keep_cut (Some NumberType.ureal) (Some NumberType.uint) h = refl
keep_cut (Some NumberType.ureal) (Some NumberType.ureal) h = refl
keep_cut (Some NumberType.ureal) (Some NumberType.eureal) h = absurd (cc)
keep_cut (Some NumberType.eureal) t' h = refl

keep_scale : (t t' : Option NumberType) → fits t' t ≡ true → fits (scale_type t') (scale_type t) ≡ true
keep_scale None t' h = refl
keep_scale (Some NumberType.int) t' h = refl
keep_scale (Some NumberType.uint) None h = absurd (cc)
keep_scale (Some NumberType.uint) (Some NumberType.int) h = absurd (cc)
keep_scale (Some NumberType.uint) (Some NumberType.uint) h = refl
keep_scale (Some NumberType.uint) (Some NumberType.ureal) h = absurd (cc)
keep_scale (Some NumberType.uint) (Some NumberType.eureal) h = absurd (cc)
keep_scale (Some NumberType.ureal) None h = absurd (cc)
keep_scale (Some NumberType.ureal) (Some NumberType.int) h = absurd (cc)
keep_scale (Some NumberType.ureal) (Some NumberType.uint) h = refl
keep_scale (Some NumberType.ureal) (Some NumberType.ureal) h = refl
keep_scale (Some NumberType.ureal) (Some NumberType.eureal) h = absurd (cc)
keep_scale (Some NumberType.eureal) None h = absurd (cc)
keep_scale (Some NumberType.eureal) (Some NumberType.int) h = absurd (cc)
keep_scale (Some NumberType.eureal) (Some NumberType.uint) h = refl
keep_scale (Some NumberType.eureal) (Some NumberType.ureal) h = refl
keep_scale (Some NumberType.eureal) (Some NumberType.eureal) h = refl

pub keep_unsigned : (t t' : Option NumberType) → fits t' t ≡ true → is_unsigned t ≡ true → is_unsigned t' ≡ true
keep_unsigned None t' h k = absurd (cc)
keep_unsigned (Some NumberType.int) t' h k = absurd (cc)
keep_unsigned (Some NumberType.uint) None h k = absurd (cc)
keep_unsigned (Some NumberType.uint) (Some NumberType.int) h k = absurd (cc)
keep_unsigned (Some NumberType.uint) (Some NumberType.uint) h k = refl
keep_unsigned (Some NumberType.uint) (Some NumberType.ureal) h k = absurd (cc)
keep_unsigned (Some NumberType.uint) (Some NumberType.eureal) h k = absurd (cc)
keep_unsigned (Some NumberType.ureal) None h k = absurd (cc)
keep_unsigned (Some NumberType.ureal) (Some NumberType.int) h k = absurd (cc)
keep_unsigned (Some NumberType.ureal) (Some NumberType.uint) h k = refl
keep_unsigned (Some NumberType.ureal) (Some NumberType.ureal) h k = refl
keep_unsigned (Some NumberType.ureal) (Some NumberType.eureal) h k = absurd (cc)
keep_unsigned (Some NumberType.eureal) None h k = absurd (cc)
keep_unsigned (Some NumberType.eureal) (Some NumberType.int) h k = absurd (cc)
keep_unsigned (Some NumberType.eureal) (Some NumberType.uint) h k = refl
keep_unsigned (Some NumberType.eureal) (Some NumberType.ureal) h k = refl
keep_unsigned (Some NumberType.eureal) (Some NumberType.eureal) h k = refl

keep_finite : (t t' : Option NumberType) → fits t' t ≡ true → is_finite_type t ≡ true → is_finite_type t' ≡ true
keep_finite None t' h k = absurd (cc)
keep_finite (Some NumberType.int) None h k = absurd (cc)
keep_finite (Some NumberType.int) (Some NumberType.int) h k = refl
keep_finite (Some NumberType.int) (Some NumberType.uint) h k = refl
keep_finite (Some NumberType.int) (Some NumberType.ureal) h k = absurd (cc)
keep_finite (Some NumberType.int) (Some NumberType.eureal) h k = absurd (cc)
keep_finite (Some NumberType.uint) None h k = absurd (cc)
keep_finite (Some NumberType.uint) (Some NumberType.int) h k = absurd (cc)
keep_finite (Some NumberType.uint) (Some NumberType.uint) h k = refl
keep_finite (Some NumberType.uint) (Some NumberType.ureal) h k = absurd (cc)
keep_finite (Some NumberType.uint) (Some NumberType.eureal) h k = absurd (cc)
keep_finite (Some NumberType.ureal) None h k = absurd (cc)
keep_finite (Some NumberType.ureal) (Some NumberType.int) h k = absurd (cc)
keep_finite (Some NumberType.ureal) (Some NumberType.uint) h k = refl
keep_finite (Some NumberType.ureal) (Some NumberType.ureal) h k = refl
keep_finite (Some NumberType.ureal) (Some NumberType.eureal) h k = absurd (cc)
keep_finite (Some NumberType.eureal) t' h k = absurd (cc)

keep_only : (b b' : Bool) (t t' : Option NumberType) → (b ≡ true → b' ≡ true) → fits t' t ≡ true → fits (only_if b' t') (only_if b t) ≡ true
keep_only true true t t' f h = h
keep_only true false t t' f h = absurd (let e = f refl in cc)
keep_only false b' t t' f h = refl

keep_eureal : (b b' : Bool) → (b ≡ true → b' ≡ true) → fits (only_if b' (Some NumberType.eureal)) (only_if b (Some NumberType.eureal)) ≡ true
keep_eureal b b' f = keep_only b b' (Some NumberType.eureal) (Some NumberType.eureal) f refl

and_true : (a b : Bool) → (a && b) ≡ true → (a ≡ true) × (b ≡ true)
and_true true b h = (refl, h)
and_true false b h = absurd (cc)

both_true : (a b : Bool) → a ≡ true → b ≡ true → (a && b) ≡ true
both_true a b h k = rw (h, k)

keep_and : (a b a' b' : Bool) → (a ≡ true → a' ≡ true) → (b ≡ true → b' ≡ true) → (a && b) ≡ true → (a' && b') ≡ true
keep_and a b a' b' f g h = both_true a' b' (f (and_true a b h).0) (g (and_true a b h).1)

-- ---- The variables on which a type depends

or_left : (a b : Bool) → a ≡ true → (a || b) ≡ true
or_left a b h = rw h

or_right : (a b : Bool) → b ≡ true → (a || b) ≡ true
or_right true b h = refl
or_right false b h = h

same_self : (w : ℕ) → (w == w) ≡ true
same_self w = grind arith

kept_types : (w y : ℕ) (ty : Ty) (m m' : Types) (a : Form) → (cond (y == w) false (is_free y a) ≡ true → m y ≡ m' y) → is_free y a ≡ true → retyped w ty m y ≡ retyped w ty m' y
kept_types w y ty m m' a e k = go (w == y) refl
  where
    go : (t : Bool) → (w == y) ≡ t → cond t ty (m y) ≡ cond t ty (m' y)
    go true q = refl
    go false q = let p : (y == w) ≡ false = grind arith in e (rw p k)

mutual
  pub same_types : (f : Form) (m m' : Types) → ((y : ℕ) → is_free y f ≡ true → m y ≡ m' y) → type_of m f ≡ type_of m' f
  same_types (Form.number v) m m' e = refl
  same_types (Form.variable w) m m' e = ap number_type (e w (same_self w))
  same_types (Form.sum a b) m m' e = ap₂ (λ p q. joined p q) (same_types a m m' (λ y k. e y (or_left (is_free y a) (is_free y b) k))) (same_types b m m' (λ y k. e y (or_right (is_free y a) (is_free y b) k)))
  same_types (Form.difference a b) m m' e = ap₂ (λ p q. difference_type (joined p q)) (same_types a m m' (λ y k. e y (or_left (is_free y a) (is_free y b) k))) (same_types b m m' (λ y k. e y (or_right (is_free y a) (is_free y b) k)))
  same_types (Form.cut a b) m m' e = ap₂ (λ p q. cut_type (joined p q)) (same_types a m m' (λ y k. e y (or_left (is_free y a) (is_free y b) k))) (same_types b m m' (λ y k. e y (or_right (is_free y a) (is_free y b) k)))
  same_types (Form.product a b span) m m' e = ap₂ (λ p q. joined p q) (same_types a m m' (λ y k. e y (or_left (is_free y a) (is_free y b) k))) (same_types b m m' (λ y k. e y (or_right (is_free y a) (is_free y b) k)))
  same_types (Form.min a b) m m' e = ap₂ (λ p q. joined p q) (same_types a m m' (λ y k. e y (or_left (is_free y a) (is_free y b) k))) (same_types b m m' (λ y k. e y (or_right (is_free y a) (is_free y b) k)))
  same_types (Form.max a b) m m' e = ap₂ (λ p q. joined p q) (same_types a m m' (λ y k. e y (or_left (is_free y a) (is_free y b) k))) (same_types b m m' (λ y k. e y (or_right (is_free y a) (is_free y b) k)))
  same_types (Form.imply a b) m m' e = ap₂ (λ p q. only_if (is_unsigned p && is_unsigned q) (Some NumberType.eureal)) (same_types a m m' (λ y k. e y (or_left (is_free y a) (is_free y b) k))) (same_types b m m' (λ y k. e y (or_right (is_free y a) (is_free y b) k)))
  same_types (Form.co_imply a b) m m' e = ap₂ (λ p q. only_if (is_unsigned p && is_unsigned q) (Some NumberType.eureal)) (same_types a m m' (λ y k. e y (or_left (is_free y a) (is_free y b) k))) (same_types b m m' (λ y k. e y (or_right (is_free y a) (is_free y b) k)))
  same_types (Form.scale w a) m m' e = ap (λ p. only_if (leqʳ zeroʳ w) (scale_type p)) (same_types a m m' e)
  same_types (Form.validate a) m m' e = ap (λ p. only_if (is_unsigned p) (Some NumberType.eureal)) (same_types a m m' e)
  same_types (Form.co_validate a) m m' e = ap (λ p. only_if (is_unsigned p) (Some NumberType.eureal)) (same_types a m m' e)
  same_types (Form.embed g) m m' e = ap (λ p. only_if p (Some NumberType.eureal)) (same_truth g m m' e)
  same_types (Form.iverson g) m m' e = ap (λ p. only_if p (Some NumberType.uint)) (same_truth g m m' e)
  same_types (Form.select g a b) m m' e = ap₂ (λ p q. only_if p q) (same_truth g m m' (λ y k. e y (or_left (is_free_in y g) ((is_free y a) || (is_free y b)) k))) (ap₂ (λ p q. joined p q) (same_types a m m' (λ y k. e y (or_right (is_free_in y g) ((is_free y a) || (is_free y b)) (or_left (is_free y a) (is_free y b) k)))) (same_types b m m' (λ y k. e y (or_right (is_free_in y g) ((is_free y a) || (is_free y b)) (or_right (is_free y a) (is_free y b) k)))))
  same_types (Form.bind up w name ty a) m m' e = ap (λ p. only_if (is_unsigned p) (Some NumberType.eureal)) (same_types a (retyped w ty m) (retyped w ty m') (λ y k. kept_types w y ty m m' a (e y) k))

  pub same_truth : (g : Cond) (m m' : Types) → ((y : ℕ) → is_free_in y g ≡ true → m y ≡ m' y) → is_well_typed m g ≡ is_well_typed m' g
  same_truth (Cond.constant b) m m' e = refl
  same_truth (Cond.flag w) m m' e = ap is_bool (e w (same_self w))
  same_truth (Cond.not g) m m' e = same_truth g m m' e
  same_truth (Cond.and g h) m m' e = ap₂ (λ p q. p && q) (same_truth g m m' (λ y k. e y (or_left (is_free_in y g) (is_free_in y h) k))) (same_truth h m m' (λ y k. e y (or_right (is_free_in y g) (is_free_in y h) k)))
  same_truth (Cond.or g h) m m' e = ap₂ (λ p q. p && q) (same_truth g m m' (λ y k. e y (or_left (is_free_in y g) (is_free_in y h) k))) (same_truth h m m' (λ y k. e y (or_right (is_free_in y g) (is_free_in y h) k)))
  same_truth (Cond.same g h) m m' e = ap₂ (λ p q. p && q) (same_truth g m m' (λ y k. e y (or_left (is_free_in y g) (is_free_in y h) k))) (same_truth h m m' (λ y k. e y (or_right (is_free_in y g) (is_free_in y h) k)))
  same_truth (Cond.le a b) m m' e = ap₂ (λ p q. is_finite_type (joined p q)) (same_types a m m' (λ y k. e y (or_left (is_free y a) (is_free y b) k))) (same_types b m m' (λ y k. e y (or_right (is_free y a) (is_free y b) k)))
  same_truth (Cond.lt a b) m m' e = ap₂ (λ p q. is_finite_type (joined p q)) (same_types a m m' (λ y k. e y (or_left (is_free y a) (is_free y b) k))) (same_types b m m' (λ y k. e y (or_right (is_free y a) (is_free y b) k)))
  same_truth (Cond.equal a b) m m' e = ap₂ (λ p q. is_finite_type (joined p q)) (same_types a m m' (λ y k. e y (or_left (is_free y a) (is_free y b) k))) (same_types b m m' (λ y k. e y (or_right (is_free y a) (is_free y b) k)))
  same_truth (Cond.ite g h k1) m m' e = ap₂ (λ p q. p && q) (same_truth g m m' (λ y k. e y (or_left (is_free_in y g) ((is_free_in y h) || (is_free_in y k1)) k))) (ap₂ (λ p q. p && q) (same_truth h m m' (λ y k. e y (or_right (is_free_in y g) ((is_free_in y h) || (is_free_in y k1)) (or_left (is_free_in y h) (is_free_in y k1) k)))) (same_truth k1 m m' (λ y k. e y (or_right (is_free_in y g) ((is_free_in y h) || (is_free_in y k1)) (or_right (is_free_in y h) (is_free_in y k1) k)))))

not_retyped : (x y : ℕ) (ty : Ty) (m : Types) (b : Bool) → b ≡ false → (x ≡ y → b ≡ true) → retyped x ty m y ≡ m y
not_retyped x y ty m b n h = go (x == y) refl
  where
    go : (t : Bool) → (x == y) ≡ t → cond t ty (m y) ≡ m y
    go true q = let p : x ≡ y = grind arith in absurd (clash b (h p) n)
    go false q = refl

unfree_type : (x : ℕ) (f : Form) (ty : Ty) (m : Types) → is_free x f ≡ false → type_of (retyped x ty m) f ≡ type_of m f
unfree_type x f ty m n = same_types f (retyped x ty m) m (λ y k. not_retyped x y ty m (is_free x f) n (λ p. ap (λ z. is_free z f) p ∙ k))

unfree_truth : (x : ℕ) (g : Cond) (ty : Ty) (m : Types) → is_free_in x g ≡ false → is_well_typed (retyped x ty m) g ≡ is_well_typed m g
unfree_truth x g ty m n = same_truth g (retyped x ty m) m (λ y k. not_retyped x y ty m (is_free_in x g) n (λ p. ap (λ z. is_free_in z g) p ∙ k))

-- ---- Renaming

retyped_again : (x y : ℕ) (v w : Ty) (m : Types) (z : ℕ) → (x == y) ≡ true → retyped y v m z ≡ retyped y v (retyped x w m) z
retyped_again x y v w m z e = go (y == z) refl
  where
    go : (t : Bool) → (y == z) ≡ t → cond t v (m z) ≡ cond t v (cond (x == z) w (m z))
    go true f = refl
    go false f = let k : (x == z) ≡ false = grind arith in rw k

both_same : (x y z : ℕ) → (x == z) ≡ true → (y == z) ≡ true → (x == y) ≡ false → ⊥
both_same x y z e f g = grind arith

retyped_commute : (x y : ℕ) (v w : Ty) (m : Types) (z : ℕ) → (x == y) ≡ false → retyped x w (retyped y v m) z ≡ retyped y v (retyped x w m) z
retyped_commute x y v w m z e = go (x == z) (y == z) refl refl
  where
    go : (s t : Bool) → (x == z) ≡ s → (y == z) ≡ t → cond s w (cond t v (m z)) ≡ cond t v (cond s w (m z))
    go true true f g = absurd (both_same x y z f g e)
    go true false f g = refl
    go false true f g = refl
    go false false f g = refl

leaf_type : (y z w : ℕ) (m : Types) → type_of m (cond (y == w) (Form.variable z) (Form.variable w)) ≡ number_type (retyped y (m z) m w)
leaf_type y z w m = go (y == w)
  where
    go : (b : Bool) → type_of m (cond b (Form.variable z) (Form.variable w)) ≡ number_type (cond b (m z) (m w))
    go true = refl
    go false = refl

leaf_truth : (y z w : ℕ) (m : Types) → is_well_typed m (cond (y == w) (Cond.flag z) (Cond.flag w)) ≡ is_bool (retyped y (m z) m w)
leaf_truth y z w m = go (y == w)
  where
    go : (b : Bool) → is_well_typed m (cond b (Cond.flag z) (Cond.flag w)) ≡ is_bool (cond b (m z) (m w))
    go true = refl
    go false = refl

swapped : (y z : ℕ) → (y == z) ≡ false → (z == y) ≡ false
swapped y z e = grind arith

renamed_body : (y z w : ℕ) (ty : Ty) (a : Form) (m : Types) → (z == w) ≡ false → type_of (retyped w ty m) (renamed y z a) ≡ type_of (retyped y (retyped w ty m z) (retyped w ty m)) a → type_of (retyped w ty m) (cond (y == w) a (renamed y z a)) ≡ type_of (retyped w ty (retyped y (m z) m)) a
renamed_body y z w ty a m n h = go (y == w) refl
  where
    go : (b : Bool) → (y == w) ≡ b → type_of (retyped w ty m) (cond b a (renamed y z a)) ≡ type_of (retyped w ty (retyped y (m z) m)) a
    go true e = same_types a (retyped w ty m) (retyped w ty (retyped y (m z) m)) (λ u k. retyped_again y w ty (m z) m u e)
    go false e = h ∙ ap (λ t. type_of (retyped y (cond t ty (m z)) (retyped w ty m)) a) (swapped z w n) ∙ same_types a (retyped y (m z) (retyped w ty m)) (retyped w ty (retyped y (m z) m)) (λ u k. retyped_commute y w ty (m z) m u e)

mutual
  pub renamed_type : (y z : ℕ) (f : Form) (m : Types) → occurs z f ≡ false → type_of m (renamed y z f) ≡ type_of (retyped y (m z) m) f
  renamed_type y z (Form.number v) m h = refl
  renamed_type y z (Form.variable w) m h = leaf_type y z w m
  renamed_type y z (Form.sum a b) m h = ap₂ (λ p q. joined p q) (renamed_type y z a m (or_false (occurs z a) (occurs z b) h).0) (renamed_type y z b m (or_false (occurs z a) (occurs z b) h).1)
  renamed_type y z (Form.difference a b) m h = ap₂ (λ p q. difference_type (joined p q)) (renamed_type y z a m (or_false (occurs z a) (occurs z b) h).0) (renamed_type y z b m (or_false (occurs z a) (occurs z b) h).1)
  renamed_type y z (Form.cut a b) m h = ap₂ (λ p q. cut_type (joined p q)) (renamed_type y z a m (or_false (occurs z a) (occurs z b) h).0) (renamed_type y z b m (or_false (occurs z a) (occurs z b) h).1)
  renamed_type y z (Form.product a b span) m h = ap₂ (λ p q. joined p q) (renamed_type y z a m (or_false (occurs z a) (occurs z b) h).0) (renamed_type y z b m (or_false (occurs z a) (occurs z b) h).1)
  renamed_type y z (Form.min a b) m h = ap₂ (λ p q. joined p q) (renamed_type y z a m (or_false (occurs z a) (occurs z b) h).0) (renamed_type y z b m (or_false (occurs z a) (occurs z b) h).1)
  renamed_type y z (Form.max a b) m h = ap₂ (λ p q. joined p q) (renamed_type y z a m (or_false (occurs z a) (occurs z b) h).0) (renamed_type y z b m (or_false (occurs z a) (occurs z b) h).1)
  renamed_type y z (Form.imply a b) m h = ap₂ (λ p q. only_if (is_unsigned p && is_unsigned q) (Some NumberType.eureal)) (renamed_type y z a m (or_false (occurs z a) (occurs z b) h).0) (renamed_type y z b m (or_false (occurs z a) (occurs z b) h).1)
  renamed_type y z (Form.co_imply a b) m h = ap₂ (λ p q. only_if (is_unsigned p && is_unsigned q) (Some NumberType.eureal)) (renamed_type y z a m (or_false (occurs z a) (occurs z b) h).0) (renamed_type y z b m (or_false (occurs z a) (occurs z b) h).1)
  renamed_type y z (Form.scale w a) m h = ap (λ p. only_if (leqʳ zeroʳ w) (scale_type p)) (renamed_type y z a m h)
  renamed_type y z (Form.validate a) m h = ap (λ p. only_if (is_unsigned p) (Some NumberType.eureal)) (renamed_type y z a m h)
  renamed_type y z (Form.co_validate a) m h = ap (λ p. only_if (is_unsigned p) (Some NumberType.eureal)) (renamed_type y z a m h)
  renamed_type y z (Form.embed g) m h = ap (λ p. only_if p (Some NumberType.eureal)) (renamed_truth y z g m h)
  renamed_type y z (Form.iverson g) m h = ap (λ p. only_if p (Some NumberType.uint)) (renamed_truth y z g m h)
  renamed_type y z (Form.select g a b) m h = let k = or_false (occurs_in z g) ((occurs z a) || (occurs z b)) h in let l = or_false (occurs z a) (occurs z b) k.1 in ap₂ (λ p q. only_if p q) (renamed_truth y z g m k.0) (ap₂ (λ p q. joined p q) (renamed_type y z a m l.0) (renamed_type y z b m l.1))
  renamed_type y z (Form.bind up w name ty a) m h = let k = or_false (z == w) (occurs z a) h in ap (λ p. only_if (is_unsigned p) (Some NumberType.eureal)) (renamed_body y z w ty a m k.0 (renamed_type y z a (retyped w ty m) k.1))

  pub renamed_truth : (y z : ℕ) (g : Cond) (m : Types) → occurs_in z g ≡ false → is_well_typed m (renamed_in y z g) ≡ is_well_typed (retyped y (m z) m) g
  renamed_truth y z (Cond.constant b) m h = refl
  renamed_truth y z (Cond.flag w) m h = leaf_truth y z w m
  renamed_truth y z (Cond.not g) m h = renamed_truth y z g m h
  renamed_truth y z (Cond.and g h1) m h = ap₂ (λ p q. p && q) (renamed_truth y z g m (or_false (occurs_in z g) (occurs_in z h1) h).0) (renamed_truth y z h1 m (or_false (occurs_in z g) (occurs_in z h1) h).1)
  renamed_truth y z (Cond.or g h1) m h = ap₂ (λ p q. p && q) (renamed_truth y z g m (or_false (occurs_in z g) (occurs_in z h1) h).0) (renamed_truth y z h1 m (or_false (occurs_in z g) (occurs_in z h1) h).1)
  renamed_truth y z (Cond.same g h1) m h = ap₂ (λ p q. p && q) (renamed_truth y z g m (or_false (occurs_in z g) (occurs_in z h1) h).0) (renamed_truth y z h1 m (or_false (occurs_in z g) (occurs_in z h1) h).1)
  renamed_truth y z (Cond.le a b) m h = ap₂ (λ p q. is_finite_type (joined p q)) (renamed_type y z a m (or_false (occurs z a) (occurs z b) h).0) (renamed_type y z b m (or_false (occurs z a) (occurs z b) h).1)
  renamed_truth y z (Cond.lt a b) m h = ap₂ (λ p q. is_finite_type (joined p q)) (renamed_type y z a m (or_false (occurs z a) (occurs z b) h).0) (renamed_type y z b m (or_false (occurs z a) (occurs z b) h).1)
  renamed_truth y z (Cond.equal a b) m h = ap₂ (λ p q. is_finite_type (joined p q)) (renamed_type y z a m (or_false (occurs z a) (occurs z b) h).0) (renamed_type y z b m (or_false (occurs z a) (occurs z b) h).1)
  renamed_truth y z (Cond.ite g h1 k1) m h = let k = or_false (occurs_in z g) ((occurs_in z h1) || (occurs_in z k1)) h in let l = or_false (occurs_in z h1) (occurs_in z k1) k.1 in ap₂ (λ p q. p && q) (renamed_truth y z g m k.0) (ap₂ (λ p q. p && q) (renamed_truth y z h1 m l.0) (renamed_truth y z k1 m l.1))

-- ---- Substitutions for a variable that is not free

kept_leaf : (x w : ℕ) (t : Term) → (x == w) ≡ false → cond (x == w) (as_form t) (Form.variable w) ≡ Form.variable w
kept_leaf x w t h = rw h

kept_flag : (x w : ℕ) (t : Term) → (x == w) ≡ false → cond (x == w) (as_cond t) (Cond.flag w) ≡ Cond.flag w
kept_flag x w t h = rw h

no_capture : (a b : Bool) → b ≡ false → (a && b) ≡ false
no_capture true b h = h
no_capture false b h = refl

kept_bind : (n x w : ℕ) (up : Bool) (name : ℕ) (ty : Ty) (a : Form) (t : Term) → cond (x == w) false (is_free x a) ≡ false → (is_free x a ≡ false → subst_within n x t a ≡ a) → cond (x == w) (Form.bind up w name ty a) (cond (occurs_in_term w t && is_free x a) (Form.bind up (fresh a t) name ty (subst_within n x t (renamed w (fresh a t) a))) (Form.bind up w name ty (subst_within n x t a))) ≡ Form.bind up w name ty a
kept_bind n x w up name ty a t h f = go (x == w) h
  where
    go : (b : Bool) → cond b false (is_free x a) ≡ false → cond b (Form.bind up w name ty a) (cond (occurs_in_term w t && is_free x a) (Form.bind up (fresh a t) name ty (subst_within n x t (renamed w (fresh a t) a))) (Form.bind up w name ty (subst_within n x t a))) ≡ Form.bind up w name ty a
    go true k = refl
    go false k = rw (no_capture (occurs_in_term w t) (is_free x a) k) (ap (λ b. Form.bind up w name ty b) (f k))

mutual
  pub kept : (n x : ℕ) (t : Term) (f : Form) → is_free x f ≡ false → subst_within n x t f ≡ f
  kept zero x t f h = refl
  kept (suc n) x t (Form.number v) h = refl
  kept (suc n) x t (Form.variable w) h = kept_leaf x w t h
  kept (suc n) x t (Form.sum a b) h = ap₂ (λ p q. Form.sum p q) (kept n x t a (or_false (is_free x a) (is_free x b) h).0) (kept n x t b (or_false (is_free x a) (is_free x b) h).1)
  kept (suc n) x t (Form.difference a b) h = ap₂ (λ p q. Form.difference p q) (kept n x t a (or_false (is_free x a) (is_free x b) h).0) (kept n x t b (or_false (is_free x a) (is_free x b) h).1)
  kept (suc n) x t (Form.cut a b) h = ap₂ (λ p q. Form.cut p q) (kept n x t a (or_false (is_free x a) (is_free x b) h).0) (kept n x t b (or_false (is_free x a) (is_free x b) h).1)
  kept (suc n) x t (Form.product a b span) h = ap₂ (λ p q. Form.product p q span) (kept n x t a (or_false (is_free x a) (is_free x b) h).0) (kept n x t b (or_false (is_free x a) (is_free x b) h).1)
  kept (suc n) x t (Form.min a b) h = ap₂ (λ p q. Form.min p q) (kept n x t a (or_false (is_free x a) (is_free x b) h).0) (kept n x t b (or_false (is_free x a) (is_free x b) h).1)
  kept (suc n) x t (Form.max a b) h = ap₂ (λ p q. Form.max p q) (kept n x t a (or_false (is_free x a) (is_free x b) h).0) (kept n x t b (or_false (is_free x a) (is_free x b) h).1)
  kept (suc n) x t (Form.imply a b) h = ap₂ (λ p q. Form.imply p q) (kept n x t a (or_false (is_free x a) (is_free x b) h).0) (kept n x t b (or_false (is_free x a) (is_free x b) h).1)
  kept (suc n) x t (Form.co_imply a b) h = ap₂ (λ p q. Form.co_imply p q) (kept n x t a (or_false (is_free x a) (is_free x b) h).0) (kept n x t b (or_false (is_free x a) (is_free x b) h).1)
  kept (suc n) x t (Form.scale w a) h = ap (λ p. Form.scale w p) (kept n x t a h)
  kept (suc n) x t (Form.validate a) h = ap (λ p. Form.validate p) (kept n x t a h)
  kept (suc n) x t (Form.co_validate a) h = ap (λ p. Form.co_validate p) (kept n x t a h)
  kept (suc n) x t (Form.embed g) h = ap (λ p. Form.embed p) (kept_in n x t g h)
  kept (suc n) x t (Form.iverson g) h = ap (λ p. Form.iverson p) (kept_in n x t g h)
  kept (suc n) x t (Form.select g a b) h = let k = or_false (is_free_in x g) ((is_free x a) || (is_free x b)) h in let l = or_false (is_free x a) (is_free x b) k.1 in ap₂ (λ p (q : Form × Form). Form.select p q.0 q.1) (kept_in n x t g k.0) (ap₂ (λ p q. (p, q)) (kept n x t a l.0) (kept n x t b l.1))
  kept (suc n) x t (Form.bind up w name ty a) h = kept_bind n x w up name ty a t h (λ k. kept n x t a k)

  pub kept_in : (n x : ℕ) (t : Term) (g : Cond) → is_free_in x g ≡ false → subst_within_in n x t g ≡ g
  kept_in zero x t g h = refl
  kept_in (suc n) x t (Cond.constant b) h = refl
  kept_in (suc n) x t (Cond.flag w) h = kept_flag x w t h
  kept_in (suc n) x t (Cond.not g) h = ap (λ p. Cond.not p) (kept_in n x t g h)
  kept_in (suc n) x t (Cond.and g h1) h = ap₂ (λ p q. Cond.and p q) (kept_in n x t g (or_false (is_free_in x g) (is_free_in x h1) h).0) (kept_in n x t h1 (or_false (is_free_in x g) (is_free_in x h1) h).1)
  kept_in (suc n) x t (Cond.or g h1) h = ap₂ (λ p q. Cond.or p q) (kept_in n x t g (or_false (is_free_in x g) (is_free_in x h1) h).0) (kept_in n x t h1 (or_false (is_free_in x g) (is_free_in x h1) h).1)
  kept_in (suc n) x t (Cond.same g h1) h = ap₂ (λ p q. Cond.same p q) (kept_in n x t g (or_false (is_free_in x g) (is_free_in x h1) h).0) (kept_in n x t h1 (or_false (is_free_in x g) (is_free_in x h1) h).1)
  kept_in (suc n) x t (Cond.le a b) h = ap₂ (λ p q. Cond.le p q) (kept n x t a (or_false (is_free x a) (is_free x b) h).0) (kept n x t b (or_false (is_free x a) (is_free x b) h).1)
  kept_in (suc n) x t (Cond.lt a b) h = ap₂ (λ p q. Cond.lt p q) (kept n x t a (or_false (is_free x a) (is_free x b) h).0) (kept n x t b (or_false (is_free x a) (is_free x b) h).1)
  kept_in (suc n) x t (Cond.equal a b) h = ap₂ (λ p q. Cond.equal p q) (kept n x t a (or_false (is_free x a) (is_free x b) h).0) (kept n x t b (or_false (is_free x a) (is_free x b) h).1)
  kept_in (suc n) x t (Cond.ite g h1 k1) h = let k = or_false (is_free_in x g) ((is_free_in x h1) || (is_free_in x k1)) h in let l = or_false (is_free_in x h1) (is_free_in x k1) k.1 in ap₂ (λ p (q : Cond × Cond). Cond.ite p q.0 q.1) (kept_in n x t g k.0) (ap₂ (λ p q. (p, q)) (kept_in n x t h1 l.0) (kept_in n x t k1 l.1))

-- ---- Substitution

-- A term fits if its variables have the same types.
term_kept : (z : ℕ) (t : Term) (ty v : Ty) (m : Types) → occurs_in_term z t ≡ false → TermFits m v t → TermFits (retyped z ty m) v t
term_kept z (Term.truth g) ty v m n h = (h.0, unfree_truth z g ty m (unused_free_in z g n) ∙ h.1)
term_kept z (Term.number f) ty v m n h = (h.0, subst (λ u. fits u (number_type v) ≡ true) (sym (unfree_type z f ty m (unused_free z f n))) h.1)

put_form : (x w : ℕ) (t : Term) (m : Types) → TermFits m (m x) t → fits (type_of m (cond (x == w) (as_form t) (Form.variable w))) (number_type (m w)) ≡ true
put_form x w t m h = go (x == w) refl
  where
    here : (t : Term) → TermFits m (m x) t → fits (type_of m (as_form t)) (number_type (m x)) ≡ true
    here (Term.truth g) h = subst (λ v. fits (constant_type (finite zeroʳ)) (number_type v) ≡ true) (sym h.0) refl
    here (Term.number f) h = h.1

    go : (b : Bool) → (x == w) ≡ b → fits (type_of m (cond b (as_form t) (Form.variable w))) (number_type (m w)) ≡ true
    go true e = let p : x ≡ w = grind arith in subst (λ v. fits (type_of m (as_form t)) (number_type (m v)) ≡ true) p (here t h)
    go false e = fits_refl (number_type (m w))

put_cond : (x w : ℕ) (t : Term) (m : Types) → TermFits m (m x) t → is_bool (m w) ≡ true → is_well_typed m (cond (x == w) (as_cond t) (Cond.flag w)) ≡ true
put_cond x w t m h k = go (x == w) refl
  where
    here : (t : Term) → TermFits m (m x) t → is_bool (m x) ≡ true → is_well_typed m (as_cond t) ≡ true
    here (Term.truth g) h k = h.1
    here (Term.number f) h k = refl

    go : (b : Bool) → (x == w) ≡ b → is_well_typed m (cond b (as_cond t) (Cond.flag w)) ≡ true
    go true e = let p : w ≡ x = grind arith in here t h (subst (λ v. is_bool (m v) ≡ true) p k)
    go false e = k

and_false : (a b : Bool) → (a && b) ≡ false → (a ≡ false) ⊎ (b ≡ false)
and_false true b h = inr h
and_false false b h = inl refl

fitting_term : (x z : ℕ) (t : Term) (ty : Ty) (m : Types) → (z == x) ≡ false → occurs_in_term z t ≡ false → TermFits m (m x) t → TermFits (retyped z ty m) (retyped z ty m x) t
fitting_term x z t ty m n o h = subst (λ b. TermFits (retyped z ty m) (cond b ty (m x)) t) (sym n) (term_kept z t ty (m x) m o h)

retyped_here : (z : ℕ) (ty : Ty) (m : Types) → retyped z ty m z ≡ ty
retyped_here z ty m = let k : (z == z) ≡ true = grind arith in rw k

-- The body of a renamed binder.
renamed_fits : (w z : ℕ) (ty : Ty) (a : Form) (m : Types) → occurs z a ≡ false → type_of (retyped z ty m) (renamed w z a) ≡ type_of (retyped w ty m) a
renamed_fits w z ty a m h = renamed_type w z a (retyped z ty m) h ∙ ap (λ v. type_of (retyped w v (retyped z ty m)) a) (retyped_here z ty m) ∙ same_types a (retyped w ty (retyped z ty m)) (retyped w ty m) (λ y k. ap (λ v. cond (w == y) ty v) (not_retyped z y ty m (is_free z a) (unused_free z a h) (λ p. ap (λ u. is_free u a) p ∙ k)))

bound_fits : (n x w : ℕ) (up : Bool) (name : ℕ) (ty : Ty) (a : Form) (t : Term) (m : Types) → TermFits m (m x) t → ((b : Form) (m' : Types) → TermFits m' (m' x) t → nodes b ≡ nodes a → fits (type_of m' (subst_within n x t b)) (type_of m' b) ≡ true) → fits (type_of m (cond (x == w) (Form.bind up w name ty a) (cond (occurs_in_term w t && is_free x a) (Form.bind up (fresh a t) name ty (subst_within n x t (renamed w (fresh a t) a))) (Form.bind up w name ty (subst_within n x t a))))) (only_if (is_unsigned (type_of (retyped w ty m) a)) (Some NumberType.eureal)) ≡ true
bound_fits n x w up name ty a t m h ih = go (x == w) (occurs_in_term w t && is_free x a) refl refl
  where
    stays : (x == w) ≡ false → (occurs_in_term w t ≡ false) ⊎ (is_free x a ≡ false) → fits (type_of (retyped w ty m) (subst_within n x t a)) (type_of (retyped w ty m) a) ≡ true
    stays e (inl o) = ih a (retyped w ty m) (fitting_term x w t ty m (swapped x w e) o h) refl
    stays e (inr o) = subst (λ b. fits (type_of (retyped w ty m) b) (type_of (retyped w ty m) a) ≡ true) (sym (kept n x t a o)) (fits_refl (type_of (retyped w ty m) a))

    go : (p q : Bool) → (x == w) ≡ p → (occurs_in_term w t && is_free x a) ≡ q → fits (type_of m (cond p (Form.bind up w name ty a) (cond q (Form.bind up (fresh a t) name ty (subst_within n x t (renamed w (fresh a t) a))) (Form.bind up w name ty (subst_within n x t a))))) (only_if (is_unsigned (type_of (retyped w ty m) a)) (Some NumberType.eureal)) ≡ true
    go true q e f = fits_refl (only_if (is_unsigned (type_of (retyped w ty m) a)) (Some NumberType.eureal))
    go false true e f =
        let u = or_false (occurs (fresh a t) a) (occurs_in_term (fresh a t) t) (fresh_is a t).unused in
        let d = apart x (fresh a t) a (and_true (occurs_in_term w t) (is_free x a) f).1 u.0 in
        keep_eureal _ _ (keep_unsigned (type_of (retyped w ty m) a) _ (subst (λ v. fits (type_of (retyped (fresh a t) ty m) (subst_within n x t (renamed w (fresh a t) a))) v ≡ true) (renamed_fits w (fresh a t) ty a m u.0) (ih (renamed w (fresh a t) a) (retyped (fresh a t) ty m) (fitting_term x (fresh a t) t ty m (swapped x (fresh a t) d) u.1 h) (same_nodes w (fresh a t) a))))
    go false false e f = keep_eureal _ _ (keep_unsigned (type_of (retyped w ty m) a) _ (stays e (and_false (occurs_in_term w t) (is_free x a) f)))

mutual
  fitted : (n x : ℕ) (t : Term) (f : Form) (m : Types) → TermFits m (m x) t → nodes f < n → fits (type_of m (subst_within n x t f)) (type_of m f) ≡ true
  fitted zero x t f m h l = absurd (omega arith)
  fitted (suc n) x t (Form.number v) m h l = fits_refl (constant_type v)
  fitted (suc n) x t (Form.variable w) m h l = put_form x w t m h
  fitted (suc n) x t (Form.sum a b) m h l = keep_join (type_of m a) (type_of m b) _ _ (fitted n x t a m h (omega arith)) (fitted n x t b m h (omega arith))
  fitted (suc n) x t (Form.difference a b) m h l = keep_difference (joined (type_of m a) (type_of m b)) _ (keep_join (type_of m a) (type_of m b) _ _ (fitted n x t a m h (omega arith)) (fitted n x t b m h (omega arith)))
  fitted (suc n) x t (Form.cut a b) m h l = keep_cut (joined (type_of m a) (type_of m b)) _ (keep_join (type_of m a) (type_of m b) _ _ (fitted n x t a m h (omega arith)) (fitted n x t b m h (omega arith)))
  fitted (suc n) x t (Form.product a b span) m h l = keep_join (type_of m a) (type_of m b) _ _ (fitted n x t a m h (omega arith)) (fitted n x t b m h (omega arith))
  fitted (suc n) x t (Form.min a b) m h l = keep_join (type_of m a) (type_of m b) _ _ (fitted n x t a m h (omega arith)) (fitted n x t b m h (omega arith))
  fitted (suc n) x t (Form.max a b) m h l = keep_join (type_of m a) (type_of m b) _ _ (fitted n x t a m h (omega arith)) (fitted n x t b m h (omega arith))
  fitted (suc n) x t (Form.imply a b) m h l = keep_eureal _ _ (keep_and (is_unsigned (type_of m a)) (is_unsigned (type_of m b)) _ _ (keep_unsigned (type_of m a) _ (fitted n x t a m h (omega arith))) (keep_unsigned (type_of m b) _ (fitted n x t b m h (omega arith))))
  fitted (suc n) x t (Form.co_imply a b) m h l = keep_eureal _ _ (keep_and (is_unsigned (type_of m a)) (is_unsigned (type_of m b)) _ _ (keep_unsigned (type_of m a) _ (fitted n x t a m h (omega arith))) (keep_unsigned (type_of m b) _ (fitted n x t b m h (omega arith))))
  fitted (suc n) x t (Form.scale w a) m h l = keep_only (leqʳ zeroʳ w) (leqʳ zeroʳ w) _ _ (λ e. e) (keep_scale (type_of m a) _ (fitted n x t a m h (omega arith)))
  fitted (suc n) x t (Form.validate a) m h l = keep_eureal _ _ (keep_unsigned (type_of m a) _ (fitted n x t a m h (omega arith)))
  fitted (suc n) x t (Form.co_validate a) m h l = keep_eureal _ _ (keep_unsigned (type_of m a) _ (fitted n x t a m h (omega arith)))
  fitted (suc n) x t (Form.embed g) m h l = keep_eureal _ _ (fitted_in n x t g m h (omega arith))
  fitted (suc n) x t (Form.iverson g) m h l = keep_only (is_well_typed m g) _ (Some NumberType.uint) (Some NumberType.uint) (fitted_in n x t g m h (omega arith)) refl
  fitted (suc n) x t (Form.select g a b) m h l = keep_only (is_well_typed m g) _ (joined (type_of m a) (type_of m b)) _ (fitted_in n x t g m h (omega arith)) (keep_join (type_of m a) (type_of m b) _ _ (fitted n x t a m h (omega arith)) (fitted n x t b m h (omega arith)))
  fitted (suc n) x t (Form.bind up w name ty a) m h l = bound_fits n x w up name ty a t m h (λ b m' k e. fitted n x t b m' k (omega (arith, e)))

  fitted_in : (n x : ℕ) (t : Term) (g : Cond) (m : Types) → TermFits m (m x) t → nodes_in g < n → is_well_typed m g ≡ true → is_well_typed m (subst_within_in n x t g) ≡ true
  fitted_in zero x t g m h l e = absurd (omega arith)
  fitted_in (suc n) x t (Cond.constant b) m h l e = refl
  fitted_in (suc n) x t (Cond.flag w) m h l e = put_cond x w t m h e
  fitted_in (suc n) x t (Cond.not g) m h l e = fitted_in n x t g m h (omega arith) e
  fitted_in (suc n) x t (Cond.and g k) m h l e = keep_and (is_well_typed m g) (is_well_typed m k) _ _ (fitted_in n x t g m h (omega arith)) (fitted_in n x t k m h (omega arith)) e
  fitted_in (suc n) x t (Cond.or g k) m h l e = keep_and (is_well_typed m g) (is_well_typed m k) _ _ (fitted_in n x t g m h (omega arith)) (fitted_in n x t k m h (omega arith)) e
  fitted_in (suc n) x t (Cond.same g k) m h l e = keep_and (is_well_typed m g) (is_well_typed m k) _ _ (fitted_in n x t g m h (omega arith)) (fitted_in n x t k m h (omega arith)) e
  fitted_in (suc n) x t (Cond.le a b) m h l e = keep_finite (joined (type_of m a) (type_of m b)) _ (keep_join (type_of m a) (type_of m b) _ _ (fitted n x t a m h (omega arith)) (fitted n x t b m h (omega arith))) e
  fitted_in (suc n) x t (Cond.lt a b) m h l e = keep_finite (joined (type_of m a) (type_of m b)) _ (keep_join (type_of m a) (type_of m b) _ _ (fitted n x t a m h (omega arith)) (fitted n x t b m h (omega arith))) e
  fitted_in (suc n) x t (Cond.equal a b) m h l e = keep_finite (joined (type_of m a) (type_of m b)) _ (keep_join (type_of m a) (type_of m b) _ _ (fitted n x t a m h (omega arith)) (fitted n x t b m h (omega arith))) e
  fitted_in (suc n) x t (Cond.ite g k k1) m h l e = keep_and (is_well_typed m g) (is_well_typed m k && is_well_typed m k1) _ _ (fitted_in n x t g m h (omega arith)) (keep_and (is_well_typed m k) (is_well_typed m k1) _ _ (fitted_in n x t k m h (omega arith)) (fitted_in n x t k1 m h (omega arith))) e

-- A substitution of a fitting term keeps the type, or narrows it.
pub subst_fits : (types : Types) (x : ℕ) (t : Term) (f : Form) → TermFits types (types x) t → fits (type_of types (Replaced.subst x t f)) (type_of types f) ≡ true
unfolding Replaced.subst
subst_fits types x t f h = fitted (suc (nodes f)) x t f types h (omega arith)

pub subst_well_typed : (types : Types) (x : ℕ) (t : Term) (g : Cond) → TermFits types (types x) t → is_well_typed types g ≡ true → is_well_typed types (Replaced.subst_in x t g) ≡ true
unfolding Replaced.subst_in
subst_well_typed types x t g h e = fitted_in (suc (nodes_in g)) x t g types h (omega arith) e

pub subst_formula : (types : Types) (x : ℕ) (t : Term) (f : Form) → TermFits types (types x) t → is_unsigned (type_of types f) ≡ true → is_unsigned (type_of types (Replaced.subst x t f)) ≡ true
subst_formula types x t f h e = keep_unsigned (type_of types f) (type_of types (Replaced.subst x t f)) (subst_fits types x t f h) e
