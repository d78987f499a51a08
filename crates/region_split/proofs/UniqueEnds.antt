-- The ends of a piece are unique, and so is its first point.
use Rattle.std.proofs.Common.{◌≡◌, ℕ, ℤ, List, [], ◌++◌, refl, sym, ap, ap₂, ◌∙◌, subst, arith, true, false}
use Prim.Native.Nat.{suc}
use Rattle.std.specs.Prelude.{Option, Some, None}
use Rattle.std.specs.List.{All}
use Rattle.std.proofs.lemmas.List.Elements.{All-head}
use Rattle.heyvl_num.specs.Rational.{Rational, zeroʳ}
use Rattle.heyvl_num.specs.Rounding.{floorʳ}
use Rattle.heylo_formula.specs.Goals.{Goal}
use Rattle.heylo_formula.specs.declared.values.Val.{Val}
use Rattle.linear_form.specs.Query.{Taken}
use Rattle.linear_rows.proofs.exported.GreedyChoices.{choices_unique, points_unique}
use Rattle.linear_rows.specs.GreedyPoint.{End, Interval, Greedy, ChoosesFrom, IsGreedyPoint}
use Rattle.linear_rows.specs.Solutions.{IsSolvable}
use Rattle.region_split.proofs.WalkMoves.{all_first, all_second}
use Rattle.region_split.proofs.PathAnswers.{same_rows}
use Rattle.region_split.specs.PathPoints.{Breaks, IsPointOf, with_truths}
use Rattle.region_split.specs.Pieces.{AreEnds, BreaksAbove, HasFirstPoint, IsSplitAt, first_half, second_half}
use Rattle.region_split.specs.Walk.{IsFalse, IsRefutedCell}

-- ---- The result of the rows of a piece is unique

pub false_or_refuted : (g : Goal) (ps : List Taken) → IsFalse g ps → IsRefutedCell g ps → ⊥
false_or_refuted g ps f r = r.unsolvable (subst IsSolvable (same_rows g ps true f.rows r.rows f.are_rows r.are_rows) f.solvable)

chose_or_broke : (cs ds : List (ℕ × Rational)) (x : ℕ) (i : Interval) → Greedy.chose cs ≡ Greedy.broke x ds i → ⊥
chose_or_broke cs ds x i e = absurd (cc)

pub point_or_break : (g : Goal) (ps : List Taken) (point : List Val) → IsPointOf g ps point → Breaks g ps → ⊥
point_or_break g ps point p b =
    let e = same_rows g ps true b.rows p.rows b.are_rows p.are_rows in
    chose_or_broke p.greedy.chosen b.earlier b.var b.interval (choices_unique p.rows g.types (Greedy.chose p.greedy.chosen) (Greedy.broke b.var b.earlier b.interval) p.greedy.solvable p.greedy.choice (subst (λ rs. ChoosesFrom rs g.types (Greedy.broke b.var b.earlier b.interval)) e b.choice))

pub split_breaks : (g : Goal) (ps : List Taken) (x : ℕ) (m : ℤ) → BreaksAbove g ps x m → Breaks g ps
split_breaks g ps x m b = record { rows = b.rows; are_rows = b.are_rows; solvable = b.solvable; var = x; earlier = b.earlier; interval = b.interval; choice = b.choice }

pub same_point : (g : Goal) (ps : List Taken) (p q : List Val) → IsPointOf g ps p → IsPointOf g ps q → p ≡ q
same_point g ps p q a b =
    let e = same_rows g ps true b.rows a.rows b.are_rows a.are_rows in
    a.truths ∙ ap (with_truths ps 0) (points_unique a.rows g.types a.values b.values a.greedy (subst (λ rs. IsGreedyPoint rs g.types b.values) e b.greedy)) ∙ sym b.truths

abbrev pub the_end : Option End → End
the_end (Some e) = e
the_end None = record { place = zeroʳ; inside = false }

-- A piece is split at one variable and one bound.
pub record SameSplit (x y : ℕ) (m k : ℤ) : Type 0 where
  pub var : x ≡ y
  pub bound : m ≡ k

broke_parts : (x y : ℕ) (ds es : List (ℕ × Rational)) (i j : Interval) (a b : End) (m k : ℤ) → Greedy.broke x ds i ≡ Greedy.broke y es j → i.low ≡ Some a → j.low ≡ Some b → m ≡ floorʳ a.place → k ≡ floorʳ b.place → SameSplit x y m k
broke_parts x y ds es i j a b m k e h l u v =
    let n : i ≡ j = cc in
    let o : a ≡ b = ap the_end (sym h) ∙ ap (λ (w : Interval). the_end w.low) n ∙ ap the_end l in
    record { var = cc; bound = u ∙ ap (λ (w : End). floorʳ w.place) o ∙ sym v }

one_split : (g : Goal) (ps : List Taken) (x y : ℕ) (m k : ℤ) → BreaksAbove g ps x m → BreaksAbove g ps y k → SameSplit x y m k
one_split g ps x y m k a b =
    let e = same_rows g ps true b.rows a.rows b.are_rows a.are_rows in
    broke_parts x y a.earlier b.earlier a.interval b.interval a.low b.low m k (choices_unique a.rows g.types (Greedy.broke x a.earlier a.interval) (Greedy.broke y b.earlier b.interval) a.solvable a.choice (subst (λ rs. ChoosesFrom rs g.types (Greedy.broke y b.earlier b.interval)) e b.choice)) a.has_low b.has_low a.bound b.bound

pub same_split : (g : Goal) (n : ℕ) (ps : List Taken) (x y : ℕ) (m k : ℤ) → IsSplitAt g n ps x m → IsSplitAt g n ps y k → SameSplit y x k m
same_split g n ps x y m k s t = one_split g ps y x k m t.breaks s.breaks

pub at_same : (P : List Taken → Type 0) (half : ℕ → ℤ → List Taken) (x y : ℕ) (m k : ℤ) → SameSplit y x k m → P (half y k) → P (half x m)
at_same P half x y m k e h = subst (λ v. P (half v m)) e.var (subst (λ b. P (half y b)) e.bound h)

-- ---- Ends

pub ends_unique : (g : Goal) (n : ℕ) (ps : List Taken) (es fs : List (List Taken)) → AreEnds g n ps es → AreEnds g n ps fs → es ≡ fs
ends_unique g _ _ _ _ (AreEnds.refuted n ps r) (AreEnds.refuted _ _ s) = refl
ends_unique g _ _ _ _ (AreEnds.refuted n ps r) (AreEnds.whole _ _ p f a) = absurd (false_or_refuted g ps f r)
ends_unique g _ _ _ _ (AreEnds.refuted n ps r) (AreEnds.deepest _ _ l f b) = absurd (false_or_refuted g ps f r)
ends_unique g _ _ _ _ (AreEnds.refuted n ps r) (AreEnds.halves _ _ x m cs ds s a b) = absurd (false_or_refuted g ps s.false_piece r)
ends_unique g _ _ _ _ (AreEnds.whole n ps p f a) (AreEnds.refuted _ _ r) = absurd (false_or_refuted g ps f r)
ends_unique g _ _ _ _ (AreEnds.whole n ps p f a) (AreEnds.whole _ _ q h b) = refl
ends_unique g _ _ _ _ (AreEnds.whole n ps p f a) (AreEnds.deepest _ _ l h b) = refl
ends_unique g _ _ _ _ (AreEnds.whole n ps p f a) (AreEnds.halves _ _ x m cs ds s b c) = absurd (point_or_break g ps p a (split_breaks g ps x m s.breaks))
ends_unique g _ _ _ _ (AreEnds.deepest n ps l f b) (AreEnds.refuted _ _ r) = absurd (false_or_refuted g ps f r)
ends_unique g _ _ _ _ (AreEnds.deepest n ps l f b) (AreEnds.whole _ _ p h a) = refl
ends_unique g _ _ _ _ (AreEnds.deepest n ps l f b) (AreEnds.deepest _ _ k h c) = refl
ends_unique g _ _ _ _ (AreEnds.deepest n ps l f b) (AreEnds.halves _ _ x m cs ds s a c) = let k = s.few in absurd (omega (arith, k, l))
ends_unique g _ _ _ _ (AreEnds.halves n ps x m cs ds s a b) (AreEnds.refuted _ _ r) = absurd (false_or_refuted g ps s.false_piece r)
ends_unique g _ _ _ _ (AreEnds.halves n ps x m cs ds s a b) (AreEnds.whole _ _ p f c) = absurd (point_or_break g ps p c (split_breaks g ps x m s.breaks))
ends_unique g _ _ _ _ (AreEnds.halves n ps x m cs ds s a b) (AreEnds.deepest _ _ l f c) = let k = s.few in absurd (omega (arith, k, l))
ends_unique g _ _ _ _ (AreEnds.halves n ps x m cs ds s a b) (AreEnds.halves _ _ y k es fs t c d) =
    let e = same_split g n ps x y m k s t in
    ap₂ (λ u v. u ++ v) (ends_unique g (suc n) (first_half ps x m) cs es a (at_same (λ qs. AreEnds g (suc n) qs es) (first_half ps) x y m k e c)) (ends_unique g (suc n) (second_half ps x m) ds fs b (at_same (λ qs. AreEnds g (suc n) qs fs) (second_half ps) x y m k e d))

-- ---- The first point

pub point_false : (g : Goal) (n : ℕ) (ps : List Taken) (p : List Val) → HasFirstPoint g n ps p → IsFalse g ps
point_false g _ _ _ (HasFirstPoint.whole n ps p f a) = f
point_false g _ _ _ (HasFirstPoint.first n ps x m p s h) = s.false_piece
point_false g _ _ _ (HasFirstPoint.second n ps x m es p s a b h) = s.false_piece

pub point_not_broken : (g : Goal) (n : ℕ) (ps : List Taken) (p : List Val) (es : List (List Taken)) → HasFirstPoint g n ps p → AreEnds g n ps es → All (Breaks g) es → ⊥
point_not_broken g _ _ _ _ (HasFirstPoint.whole n ps p f a) (AreEnds.refuted _ _ r) h = false_or_refuted g ps f r
point_not_broken g _ _ _ _ (HasFirstPoint.whole n ps p f a) (AreEnds.whole _ _ q k b) h = point_or_break g ps p a (All-head (Breaks g) ps [] h)
point_not_broken g _ _ _ _ (HasFirstPoint.whole n ps p f a) (AreEnds.deepest _ _ l k b) h = point_or_break g ps p a b
point_not_broken g _ _ _ _ (HasFirstPoint.whole n ps p f a) (AreEnds.halves _ _ x m cs ds s c d) h = point_or_break g ps p a (split_breaks g ps x m s.breaks)
point_not_broken g _ _ _ _ (HasFirstPoint.first n ps x m p s i) (AreEnds.refuted _ _ r) h = false_or_refuted g ps s.false_piece r
point_not_broken g _ _ _ _ (HasFirstPoint.first n ps x m p s i) (AreEnds.whole _ _ q f a) h = point_or_break g ps q a (split_breaks g ps x m s.breaks)
point_not_broken g _ _ _ _ (HasFirstPoint.first n ps x m p s i) (AreEnds.deepest _ _ l f b) h = let k = s.few in absurd (omega (arith, k, l))
point_not_broken g _ _ _ _ (HasFirstPoint.first n ps x m p s i) (AreEnds.halves _ _ y k cs ds t c d) h =
    point_not_broken g (suc n) (first_half ps x m) p cs i (at_same (λ qs. AreEnds g (suc n) qs cs) (first_half ps) x y m k (same_split g n ps x y m k s t) c) (all_first (Breaks g) cs ds h)
point_not_broken g _ _ _ _ (HasFirstPoint.second n ps x m es p s u v i) (AreEnds.refuted _ _ r) h = false_or_refuted g ps s.false_piece r
point_not_broken g _ _ _ _ (HasFirstPoint.second n ps x m es p s u v i) (AreEnds.whole _ _ q f a) h = point_or_break g ps q a (split_breaks g ps x m s.breaks)
point_not_broken g _ _ _ _ (HasFirstPoint.second n ps x m es p s u v i) (AreEnds.deepest _ _ l f b) h = let k = s.few in absurd (omega (arith, k, l))
point_not_broken g _ _ _ _ (HasFirstPoint.second n ps x m es p s u v i) (AreEnds.halves _ _ y k cs ds t c d) h =
    point_not_broken g (suc n) (second_half ps x m) p ds i (at_same (λ qs. AreEnds g (suc n) qs ds) (second_half ps) x y m k (same_split g n ps x y m k s t) d) (all_second (Breaks g) cs ds h)

pub point_unique : (g : Goal) (n : ℕ) (ps : List Taken) (p q : List Val) → HasFirstPoint g n ps p → HasFirstPoint g n ps q → p ≡ q
point_unique g _ _ _ _ (HasFirstPoint.whole n ps p f a) (HasFirstPoint.whole _ _ q k b) = same_point g ps p q a b
point_unique g _ _ _ _ (HasFirstPoint.whole n ps p f a) (HasFirstPoint.first _ _ x m q s i) = absurd (point_or_break g ps p a (split_breaks g ps x m s.breaks))
point_unique g _ _ _ _ (HasFirstPoint.whole n ps p f a) (HasFirstPoint.second _ _ x m es q s u v i) = absurd (point_or_break g ps p a (split_breaks g ps x m s.breaks))
point_unique g _ _ _ _ (HasFirstPoint.first n ps x m p s i) (HasFirstPoint.whole _ _ q f a) = absurd (point_or_break g ps q a (split_breaks g ps x m s.breaks))
point_unique g _ _ _ _ (HasFirstPoint.first n ps x m p s i) (HasFirstPoint.first _ _ y k q t j) =
    point_unique g (suc n) (first_half ps x m) p q i (at_same (λ qs. HasFirstPoint g (suc n) qs q) (first_half ps) x y m k (same_split g n ps x y m k s t) j)
point_unique g _ _ _ _ (HasFirstPoint.first n ps x m p s i) (HasFirstPoint.second _ _ y k es q t u v j) =
    absurd (point_not_broken g (suc n) (first_half ps x m) p es i (at_same (λ qs. AreEnds g (suc n) qs es) (first_half ps) x y m k (same_split g n ps x y m k s t) u) v)
point_unique g _ _ _ _ (HasFirstPoint.second n ps x m es p s u v i) (HasFirstPoint.whole _ _ q f a) = absurd (point_or_break g ps q a (split_breaks g ps x m s.breaks))
point_unique g _ _ _ _ (HasFirstPoint.second n ps x m es p s u v i) (HasFirstPoint.first _ _ y k q t j) =
    absurd (point_not_broken g (suc n) (first_half ps x m) q es (at_same (λ qs. HasFirstPoint g (suc n) qs q) (first_half ps) x y m k (same_split g n ps x y m k s t) j) u v)
point_unique g _ _ _ _ (HasFirstPoint.second n ps x m es p s u v i) (HasFirstPoint.second _ _ y k fs q t b c j) =
    point_unique g (suc n) (second_half ps x m) p q i (at_same (λ qs. HasFirstPoint g (suc n) qs q) (second_half ps) x y m k (same_split g n ps x y m k s t) j)
