-- The encoding of a body is well typed over the procedure's variables and the fresh ones.
use Rattle.std.proofs.Common.{append_assoc, ◌≡◌, ◌<◌, ◌+◌, ◌==◌, ℕ, refl, sym, ap, ◌∙◌, subst, arith, Bool, true, false, List, [], ◌∷◌, ◌++◌, length, ⊎_elim, leb}
use Rattle.std.specs.Prelude.{if◌then◌else◌}
use Rattle.std.proofs.lemmas.List.{length-append}
use Rattle.std.proofs.lemmas.Bool.{or_cases}
use Rattle.std.proofs.lemmas.Bool.Decides.{leb_tells}
use Prim.Native.Nat.{zero, suc}
use Rattle.heyvl_num.specs.Rational.{Rational}
use Rattle.heyvl_places.specs.declared.spans.Span.{Span}
use Rattle.heylo_formula.specs.Formula.{Form, Cond, Term}
use Rattle.heylo_formula.specs.Shifts.{shifted}
use Rattle.heylo_formula.specs.Typing.{IsFormula, Types, types_in, number_type, fits, is_bool, is_unsigned, is_well_typed, TermFits, is_finite_type}
use Rattle.heylo_formula.specs.Variables.{IsOver}
use Rattle.heylo_formula.specs.declared.types.Ty.{Ty}
use Rattle.heylo_formula.proofs.exported.Agreement.{same_types, same_truth}
use Rattle.heylo_formula.proofs.exported.Shifts.{shifted_type, shifted_binders}
use Rattle.heyvl_acts.specs.Acts.{Head, Act, Acts, Arms, TypedProcedure, Variable, acts_in, join, procedure_at, type_list, types_of, variables}
use Rattle.heyvl_acts.specs.ModifiedVariables.{is_target_of, modified}
use Rattle.heyvl_acts.specs.Places.{in_order, inside, inside_arms}
use Rattle.heyvl_acts.specs.Rules.{ArgumentsFit, Each, GrowBelow, GuardsFit, IsOwn, MeetsRules, TargetsFit, widens_to}
use Rattle.heyvl_acts.specs.Visible.{Scoped, ScopedAct, ScopedArms, Sees, SeesCond, SeesParts, SeesTerm, SeesTerms, Visible, interface, shown, shown_all, shown_by}
use Rattle.heyvl_acts.specs.WellTypedActs.{ActsFit, ArmsFit, DrawFits, IsHeld, IsProbability, IsWeight, PartsFit}
use Rattle.k_induction.specs.Copies.{copies}
use Rattle.loop_encodings.specs.Encoding.{all_variables, any_block, encoded, encoded_act, encoded_arms, encoded_loop, encoding, gets, havocs, read, sets, tested}
use Rattle.loop_encodings.specs.Fresh.{fresh, fresh_of_act, fresh_of_arms}
use Rattle.heyvl_acts.proofs.exported.Each.{each_first, each_second}
use Rattle.loop_encodings.proofs.FromRules.{IsFine, all_fine}

-- ---- Types at numbers

-- The variables from `m` on have the types of `vs`.
abbrev pub TypesFrom : ℕ → List Variable → Types → Type 0
TypesFrom m [] types = Unit {0}
TypesFrom m (v ∷ vs) types = (types m ≡ v.ty) × TypesFrom (suc m) vs types

from_at : (m : ℕ) (vs : List Variable) (types : Types) → TypesFrom m vs types → (y : ℕ) → y < length vs → types (m + y) ≡ types_in (type_list vs) y
from_at m [] types h y l = absurd (omega arith)
from_at m (v ∷ vs) types h zero l = ap types (plain m) ∙ h.0
  where
    plain : (m : ℕ) → m + zero ≡ m
    plain m = omega arith
from_at m (v ∷ vs) types h (suc y) l = ap types (step m y) ∙ from_at (suc m) vs types h.1 y (omega arith)
  where
    step : (m y : ℕ) → m + suc y ≡ suc m + y
    step m y = omega arith

from_first : (m : ℕ) (vs us : List Variable) (types : Types) → TypesFrom m (vs ++ us) types → TypesFrom m vs types
from_first m [] us types h = tt
from_first m (v ∷ vs) us types h = (h.0, from_first (suc m) vs us types h.1)

from_second : (m : ℕ) (vs us : List Variable) (types : Types) → TypesFrom m (vs ++ us) types → TypesFrom (m + length vs) us types
from_second m [] us types h = subst (λ i. TypesFrom i us types) (plain m) h
  where
    plain : (m : ℕ) → m ≡ m + zero
    plain m = omega arith
from_second m (v ∷ vs) us types h = subst (λ i. TypesFrom i us types) (step m (length vs)) (from_second (suc m) vs us types h.1)
  where
    step : (m k : ℕ) → suc m + k ≡ m + suc k
    step m k = omega arith

from_shift : (n : ℕ) (vs us : List Variable) (u : Variable) → TypesFrom n vs (types_in (type_list us)) → TypesFrom (suc n) vs (types_in (type_list (u ∷ us)))
from_shift n [] us u h = tt
from_shift n (v ∷ vs) us u h = (h.0, from_shift (suc n) vs us u h.1)

from_zero : (vs : List Variable) → TypesFrom 0 vs (types_in (type_list vs))
from_zero [] = tt
from_zero (v ∷ vs) = (refl, from_shift 0 vs vs v (from_zero vs))

from_end : (us vs : List Variable) → TypesFrom (length us) vs (types_in (type_list (us ++ vs)))
from_end [] vs = from_zero vs
from_end (u ∷ us) vs = from_shift (length us) vs (us ++ vs) u (from_end us vs)

pub front_same : (us vs : List Variable) (y : ℕ) → y < length us → types_in (type_list (us ++ vs)) y ≡ types_in (type_list us) y
front_same [] vs y l = absurd (omega (arith, l))
front_same (u ∷ us) vs zero l = refl
front_same (u ∷ us) vs (suc y) l = front_same us vs y (omega (arith, l))

-- ---- Forms over the first variables

abbrev Front : ℕ → Types → Types → Type 0
Front n types types' = (y : ℕ) → y < n → types y ≡ types' y

-- Each visible variable is below `n`.
abbrev pub Bounded : ℕ → Visible → Type 0
Bounded n v = (y : ℕ) → v y ≡ true → y < n

term_on : (n : ℕ) (v : Visible) (types types' : Types) (ty : Ty) (t : Term) → Front n types types' → Bounded n v → SeesTerm v t → TermFits types' ty t → TermFits types ty t
term_on n v types types' ty (Term.truth g) f b o h = (h.0, same_truth g types types' (λ y e. f y (b y (o y e))) ∙ h.1)
term_on n v types types' ty (Term.number a) f b o h = (h.0, ap (λ t. fits t (number_type ty)) (same_types a types types' (λ y e. f y (b y (o y e)))) ∙ h.1)

held_on : (n : ℕ) (v : Visible) (types types' : Types) (a : Form) → Front n types types' → Bounded n v → Sees v a → IsHeld types' a → IsHeld types a
held_on n v types types' a f b o h = (ap is_unsigned (same_types a types types' (λ y e. f y (b y (o y e)))) ∙ h.0, h.1)

weight_on : (n : ℕ) (v : Visible) (types types' : Types) (a : Form) → Front n types types' → Bounded n v → Sees v a → IsProbability types' a → IsWeight types a
weight_on n v types types' a f b o h = (held_on n v types types' a f b o h.0, ap is_finite_type (same_types a types types' (λ y e. f y (b y (o y e)))) ∙ h.1.0)

cond_on : (n : ℕ) (v : Visible) (types types' : Types) (g : Cond) → Front n types types' → Bounded n v → SeesCond v g → is_well_typed types' g ≡ true → is_well_typed types g ≡ true
cond_on n v types types' g f b o h = same_truth g types types' (λ y e. f y (b y (o y e))) ∙ h

shifted_held : (m : ℕ) (vs : List Variable) (types : Types) (f : Form) → TypesFrom m vs types → IsOver (length vs) f → IsHeld (types_in (type_list vs)) f → IsHeld types (shifted m f)
shifted_held m vs types f a o h = (ap is_unsigned (shifted_type m f types ∙ same_types f (λ y. types (m + y)) (types_in (type_list vs)) (λ y e. from_at m vs types a y (o y e))) ∙ h.0, shifted_binders m f ∙ h.1)

read_fits : (m : ℕ) (t u : Ty) (types : Types) → types m ≡ t → widens_to t u ≡ true → TermFits types u (read m t)
read_fits m Ty.Bool Ty.Bool types e w = (refl, ap is_bool e)
read_fits m Ty.Bool Ty.Int types e w = absurd (cc)
read_fits m Ty.Bool Ty.UInt types e w = absurd (cc)
read_fits m Ty.Bool Ty.UReal types e w = absurd (cc)
read_fits m Ty.Int Ty.Bool types e w = absurd (cc)
read_fits m Ty.Int Ty.Int types e w = (refl, ap (λ t. fits (number_type t) (number_type Ty.Int)) e)
read_fits m Ty.Int Ty.UInt types e w = absurd (cc)
read_fits m Ty.Int Ty.UReal types e w = absurd (cc)
read_fits m Ty.UInt Ty.Bool types e w = absurd (cc)
read_fits m Ty.UInt Ty.Int types e w = (refl, ap (λ t. fits (number_type t) (number_type Ty.Int)) e)
read_fits m Ty.UInt Ty.UInt types e w = (refl, ap (λ t. fits (number_type t) (number_type Ty.UInt)) e)
read_fits m Ty.UInt Ty.UReal types e w = (refl, ap (λ t. fits (number_type t) (number_type Ty.UReal)) e)
read_fits m Ty.UReal Ty.Bool types e w = absurd (cc)
read_fits m Ty.UReal Ty.Int types e w = absurd (cc)
read_fits m Ty.UReal Ty.UInt types e w = absurd (cc)
read_fits m Ty.UReal Ty.UReal types e w = (refl, ap (λ t. fits (number_type t) (number_type Ty.UReal)) e)

-- ---- Visible variables

pub shown_bounded : (n x : ℕ) (v : Visible) → x < n → Bounded n v → Bounded n (shown x v)
shown_bounded n x v l b y h = ⊎_elim (λ e. let q : x ≡ y = grind arith in subst (λ z. z < n) q l) (λ e. b y e) (or_cases (x == y) (v y) h)

pub shown_all_bounded : (p : TypedProcedure) (xs : List ℕ) (v : Visible) → Each (IsOwn p) xs → Bounded (length (variables p)) v → Bounded (length (variables p)) (shown_all xs v)
shown_all_bounded p [] v o b = b
shown_all_bounded p (x ∷ xs) v o b = shown_all_bounded p xs (shown x v) o.1 (shown_bounded (length (variables p)) x v o.0.below b)

pub after_bounded : (ps : List TypedProcedure) (p : TypedProcedure) (a : Act) (v : Visible) → IsFine ps p a → Bounded (length (variables p)) v → Bounded (length (variables p)) (shown_by a v)
after_bounded ps p (Act.set x t span) v f b = shown_bounded (length (variables p)) x v f.0.0.below b
after_bounded ps p (Act.draw x qs span) v f b = shown_bounded (length (variables p)) x v f.0.0.below b
after_bounded ps p (Act.toss x w span) v f b = shown_bounded (length (variables p)) x v f.0.0.below b
after_bounded ps p (Act.any x d ty span) v f b = shown_bounded (length (variables p)) x v f.0.0.below b
after_bounded ps p (Act.reward g span) v f b = b
after_bounded ps p (Act.ifs arms e span) v f b = b
after_bounded ps p (Act.pick d a c span) v f b = b
after_bounded ps p (Act.check kind g span) v f b = b
after_bounded ps p (Act.validate co span) v f b = b
after_bounded ps p (Act.loop k c) v f b = b
after_bounded ps p (Act.call xs q es span) v f b = shown_all_bounded p xs v f.0.0 b

-- ---- The parts of an encoding

join_fits : (types : Types) (a b : Acts) → ActsFit types a → ActsFit types b → ActsFit types (join a b)
join_fits types Acts.done b h k = k
join_fits types (Acts.next a more) b h k = (h.0, join_fits types more b h.1 k)

any_fits : (up : Bool) (span : Span) (m : ℕ) (vs : List Variable) (types : Types) (r : Acts) → TypesFrom m vs types → ActsFit types r → ActsFit types (any_block up span m (type_list vs) r)
any_fits up span m [] types r h k = k
any_fits up span m (v ∷ vs) types r h k = (h.0, any_fits up span (suc m) vs types r h.1 k)

module _ (ps : List TypedProcedure) (rules : (q : ℕ) → q < length ps → MeetsRules ps (procedure_at ps q)) (p : TypedProcedure) (types : Types) (front : Front (length (variables p)) types (types_of p)) where
  sets_fit : (span : Span) (v : Visible) (m : ℕ) (es : List Term) (vs : List Variable) (r : Acts) → Bounded (length (variables p)) v → ArgumentsFit p (type_list vs) es → SeesTerms v es → TypesFrom m vs types → ActsFit types r → ActsFit types (sets span m es r)
  sets_fit span v m [] [] r b f o h k = k
  sets_fit span v m [] (u ∷ vs) r b f o h k = k
  sets_fit span v m (e ∷ es) [] r b f o h k = absurd f
  sets_fit span v m (e ∷ es) (u ∷ vs) r b f o h k = (subst (λ t. TermFits types t e) (sym h.0) (term_on (length (variables p)) v types (types_of p) u.ty e front b o.0 f.0), sets_fit span v (suc m) es vs r b f.1 o.1 h.1 k)

  gets_fit : (span : Span) (xs : List ℕ) (vs : List Variable) (m : ℕ) → Each (IsOwn p) xs → TargetsFit p xs (type_list vs) → TypesFrom m vs types → ActsFit types (gets span xs (type_list vs) m)
  gets_fit span [] vs m o f h = tt
  gets_fit span (x ∷ xs) [] m o f h = absurd f
  gets_fit span (x ∷ xs) (v ∷ vs) m o f h = (read_fits m v.ty (types x) types h.0 (subst (λ u. widens_to v.ty u ≡ true) (sym (front x o.0.below)) f.0), gets_fit span xs vs (suc m) o.1 f.1 h.1)

  havocs_fit : (up : Bool) (span : Span) (from : ℕ) (scope : List ℕ) (b r : Acts) → GrowBelow from (length (variables p)) scope → ActsFit types r → ActsFit types (havocs up span (types_of p) (modified scope b) r)
  havocs_fit up span from [] b r g k = k
  havocs_fit up span from (x ∷ xs) b r g k = elim (is_target_of x b) as (λ t. ActsFit types (havocs up span (types_of p) (if t then x ∷ modified xs b else modified xs b) r)) [ true ↦ (front x g.0.1, havocs_fit up span (suc x) xs b r g.1 k) | false ↦ havocs_fit up span (suc x) xs b r g.1 k ]

  parts_fit : (v : Visible) (x : ℕ) (qs : List (Rational × Term)) → Bounded (length (variables p)) v → IsOwn p x → PartsFit (types_of p) x qs → SeesParts v qs → PartsFit types x qs
  parts_fit v x [] b w f o = tt
  parts_fit v x (q ∷ qs) b w f o = ((f.0.0, subst (λ u. TermFits types u q.1) (sym (front x w.below)) (term_on (length (variables p)) v types (types_of p) (types_of p x) q.1 front b o.0 f.0.1)), parts_fit v x qs b w f.1 o.1)

  draw_fits : (v : Visible) (x : ℕ) (qs : List (Rational × Term)) → Bounded (length (variables p)) v → IsOwn p x → DrawFits (types_of p) x qs → SeesParts v qs → DrawFits types x qs
  draw_fits v x [] b w f o = absurd f
  draw_fits v x (q ∷ qs) b w f o = parts_fit v x (q ∷ qs) b w f o

  module _ (h : Head) (held : IsHeld types h.inv) (guarded : is_well_typed types h.guard ≡ true) (b : Acts) (k : ActsFit types b) where
    embedded : (d : Bool) → IsHeld types (Form.embed (Cond.constant d))
    embedded d = (refl, refl)

    copies_fit : (up : Bool) (i : ℕ) → ActsFit types (copies up h.span h.guard h.inv b i)
    copies_fit up zero = tt
    copies_fit up (suc zero) = join_fits types b _ k (held, (embedded up, tt))
    copies_fit up (suc (suc i)) = join_fits types b _ k (held, (((guarded, (copies_fit up (suc i), tt)), tt), tt))

    loop_fits : (up : Bool) (source : Acts) → GrowBelow 0 (length (variables p)) h.scope → ActsFit types (encoded_loop up (types_of p) h (modified h.scope source) b)
    loop_fits up source g = (held, havocs_fit up h.span 0 h.scope source (tested up h b) g (tt, (held, (((guarded, (copies_fit up h.k, tt)), tt), tt))))

  call_fits : (span : Span) (v : Visible) (m : ℕ) (xs : List ℕ) (q : ℕ) (es : List Term) → Bounded (length (variables p)) v → IsFine ps p (Act.call xs q es span) → SeesTerms v es → TypesFrom m ((procedure_at ps q).inputs ++ (procedure_at ps q).outputs) types → ActsFit types (encoded_act ps p m (Act.call xs q es span))
  call_fits span v m xs q es b f o h =
      let r = rules q f.0.1.there in
      sets_fit span v m es (procedure_at ps q).inputs _ b f.0.1.arguments o (from_first m (procedure_at ps q).inputs (procedure_at ps q).outputs types h) (
        shifted_held m (procedure_at ps q).inputs types (procedure_at ps q).pre (from_first m (procedure_at ps q).inputs (procedure_at ps q).outputs types h) r.pre_over r.pre,
        any_fits p.co span _ (procedure_at ps q).outputs types _ (from_second m (procedure_at ps q).inputs (procedure_at ps q).outputs types h) (
          tt,
          (
            shifted_held m ((procedure_at ps q).inputs ++ (procedure_at ps q).outputs) types (procedure_at ps q).post h r.post_over (r.post, f.1.1.plain),
            gets_fit span xs (procedure_at ps q).outputs _ f.0.0 f.0.1.targets (from_second m (procedure_at ps q).inputs (procedure_at ps q).outputs types h),
          ),
        ),
      )

  mutual
    fits_act : (a : Act) (v : Visible) → IsFine ps p a → Each (IsFine ps p) (inside a) → Bounded (length (variables p)) v → ScopedAct v a → (m : ℕ) → TypesFrom m (fresh_of_act ps a) types → ActsFit types (encoded_act ps p m a)
    fits_act (Act.set x t span) v f i b o m h = (subst (λ u. TermFits types u t) (sym (front x f.0.0.below)) (term_on (length (variables p)) v types (types_of p) (types_of p x) t front b o f.0.1), tt)
    fits_act (Act.draw x qs span) v f i b o m h = (draw_fits v x qs b f.0.0 f.0.1 o, tt)
    fits_act (Act.toss x w span) v f i b o m h = ((front x f.0.0.below ∙ f.0.1.0, weight_on (length (variables p)) v types (types_of p) w front b o f.0.1.1), tt)
    fits_act (Act.any x d ty span) v f i b o m h = (front x f.0.0.below ∙ f.0.1, tt)
    fits_act (Act.reward g span) v f i b o m h = (held_on (length (variables p)) v types (types_of p) g front b o f.0.1, tt)
    fits_act (Act.ifs arms e span) v f i b o m h = (
      (
        fits_arms arms v f.0.1 (each_first (IsFine ps p) (inside_arms arms) (in_order e) i) b o.0 m (from_first m (fresh_of_arms ps arms) (fresh ps e) types h),
        fits_acts e v (each_second (IsFine ps p) (inside_arms arms) (in_order e) i) b o.1 (m + length (fresh_of_arms ps arms)) (from_second m (fresh_of_arms ps arms) (fresh ps e) types h),
      ),
      tt,
    )
    fits_act (Act.pick d x y span) v f i b o m h = (
      (
        fits_acts x v (each_first (IsFine ps p) (in_order x) (in_order y) i) b o.0 m (from_first m (fresh ps x) (fresh ps y) types h),
        fits_acts y v (each_second (IsFine ps p) (in_order x) (in_order y) i) b o.1 (m + length (fresh ps x)) (from_second m (fresh ps x) (fresh ps y) types h),
      ),
      tt,
    )
    fits_act (Act.check kind g span) v f i b o m h = (held_on (length (variables p)) v types (types_of p) g front b o f.0.1, tt)
    fits_act (Act.validate co span) v f i b o m h = (tt, tt)
    fits_act (Act.loop k c) v f i b o m h = loop_fits k (held_on (length (variables p)) v types (types_of p) k.inv front b o.1.0.0 f.0.1.inv) (cond_on (length (variables p)) v types (types_of p) k.guard front b o.1.0.1.0 f.0.1.guard) (encoded ps p m c) (fits_acts c v i b o.1.1 m h) p.co c f.1.0.scope
    fits_act (Act.call xs q es span) v f i b o m h = call_fits span v m xs q es b f o h

    pub fits_acts : (acts : Acts) (v : Visible) → Each (IsFine ps p) (in_order acts) → Bounded (length (variables p)) v → Scoped v acts → (m : ℕ) → TypesFrom m (fresh ps acts) types → ActsFit types (encoded ps p m acts)
    fits_acts Acts.done v f b o m h = tt
    fits_acts (Acts.next a rest) v f b o m h =
        join_fits types (encoded_act ps p m a) _
        (fits_act a v f.0 (each_first (IsFine ps p) (inside a) (in_order rest) f.1) b o.0 m (from_first m (fresh_of_act ps a) (fresh ps rest) types h))
        (fits_acts rest (shown_by a v) (each_second (IsFine ps p) (inside a) (in_order rest) f.1) (after_bounded ps p a v f.0 b) o.1 (m + length (fresh_of_act ps a)) (from_second m (fresh_of_act ps a) (fresh ps rest) types h))

    fits_arms : (arms : Arms) (v : Visible) → GuardsFit p arms → Each (IsFine ps p) (inside_arms arms) → Bounded (length (variables p)) v → ScopedArms v arms → (m : ℕ) → TypesFrom m (fresh_of_arms ps arms) types → ArmsFit types (encoded_arms ps p m arms)
    fits_arms Arms.no_arm v g f b o m h = tt
    fits_arms (Arms.arm t c more) v g f b o m h = (
      cond_on (length (variables p)) v types (types_of p) t front b o.0 g.0,
      (
        fits_acts c v (each_first (IsFine ps p) (in_order c) (inside_arms more) f) b o.1.0 m (from_first m (fresh ps c) (fresh_of_arms ps more) types h),
        fits_arms more v g.1 (each_second (IsFine ps p) (in_order c) (inside_arms more) f) b o.1.1 (m + length (fresh ps c)) (from_second m (fresh ps c) (fresh_of_arms ps more) types h),
      ),
    )

pub interface_bounded : (p : TypedProcedure) → Bounded (length (variables p)) (interface p)
interface_bounded p y h =
    let a = length-append p.inputs p.outputs in
    let b = length-append p.inputs (p.outputs ++ p.locals) in
    let c = length-append p.outputs p.locals in
    let l : y < length (p.inputs ++ p.outputs) = below y (length (p.inputs ++ p.outputs)) h in
    omega (arith, a, b, c, l)
  where
    below : (y n : ℕ) → leb (suc y) n ≡ true → y < n
    below y n h = grind (arith, leb_tells (suc y) n)

pub encoding_fits : (ps : List TypedProcedure) (p : TypedProcedure) → ((q : ℕ) → q < length ps → MeetsRules ps (procedure_at ps q)) → MeetsRules ps p → ActsFit (types_in (type_list (all_variables ps p))) (encoding ps p)
encoding_fits ps p rules meets = fits_acts ps rules p (types_in (type_list (all_variables ps p))) (front_same (variables p) (fresh ps (acts_in p.body))) (acts_in p.body) (interface p) (all_fine ps p meets) (interface_bounded p) meets.scopes (length (variables p)) (from_end (variables p) (fresh ps (acts_in p.body)))

pub post_fits : (ps : List TypedProcedure) (p : TypedProcedure) → MeetsRules ps p → IsFormula (types_in (type_list (all_variables ps p))) p.post
post_fits ps p meets =
    ap is_unsigned (same_types p.post (types_in (type_list (all_variables ps p))) (types_in (type_list (p.inputs ++ p.outputs))) (λ y e. ap (λ l. types_in (type_list l) y) regrouped ∙ front_same (p.inputs ++ p.outputs) (p.locals ++ fresh ps (acts_in p.body)) y (meets.post_over y e)))
    ∙ meets.post
  where
    regrouped : all_variables ps p ≡ (p.inputs ++ p.outputs) ++ (p.locals ++ fresh ps (acts_in p.body))
    regrouped = append_assoc p.inputs (p.outputs ++ p.locals) (fresh ps (acts_in p.body)) ∙ (ap (λ l. p.inputs ++ l) (append_assoc p.outputs p.locals (fresh ps (acts_in p.body))) ∙ sym (append_assoc p.inputs p.outputs (p.locals ++ fresh ps (acts_in p.body))))
