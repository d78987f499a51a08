-- The results of a walk after one more cell.
use Rattle.std.proofs.Common.{◌≡◌, List, [], ◌∷◌, ◌++◌, refl, sym, ap, ◌∙◌, subst, append_assoc, true, inl, inr}
use Rattle.std.specs.List.{All}
use Rattle.std.proofs.lemmas.List.{append-nil}
use Rattle.std.proofs.lemmas.List.Elements.{All-nil, All-cons, All-append, All-push, All-head, All-tail}
use Rattle.heylo_formula.specs.Goals.{Goal}
use Rattle.heylo_formula.specs.declared.values.Val.{Val}
use Rattle.linear_form.specs.Query.{Taken}
use Rattle.linear_form.specs.PathRows.{IsPlainAt}
use Rattle.linear_form.specs.Cells.{IsCell}
use Rattle.linear_elim.specs.Answers.{ends_of}
use Rattle.goal_answers.specs.declared.causes.Broken.{Broken}
use Rattle.region_split.specs.Decisions.{IsFirstPoint, IsFirstBreak}
use Rattle.region_split.specs.PathPoints.{with_truths, IsPointOf, IsBreakOf, Breaks}
use Rattle.region_split.specs.Pieces.{AreEnds, EndsOf, HasFirstPoint}
use Rattle.region_split.specs.Walk.{IsFalse}
use Rattle.region_split.specs.internal.PathFindings.{IsPointAt, IsBreakAt, IsMetAt}
use Rattle.region_split.specs.internal.Progress.{HoldsAt, IsBroken, IsFound}
use Rattle.region_split.specs.declared.findings.Found.{Found}
use Rattle.region_split.specs.declared.findings.Found.TheVariants.{Nothing, Break, Point}

-- ---- One piece

pub point_is_false : (g : Goal) (ps : List Taken) (point : List Val) → (IsPlainAt g ps → ⊥) → IsPointAt g ps true point → IsFalse g ps
point_is_false g ps point n p = record { not_plain = n; rows = p.rows; are_rows = p.are_rows; solvable = p.solvable }

pub met_is_false : (g : Goal) (ps : List Taken) → (IsPlainAt g ps → ⊥) → IsMetAt g ps true → IsFalse g ps
met_is_false g ps n p = record { not_plain = n; rows = p.rows; are_rows = p.are_rows; solvable = p.solvable }

pub break_is_false : (g : Goal) (ps : List Taken) (b : Broken) → (IsPlainAt g ps → ⊥) → IsBreakAt g ps true b → IsFalse g ps
break_is_false g ps b n p = record { not_plain = n; rows = p.rows; are_rows = p.are_rows; solvable = p.broken.solvable }

pub point_of : (g : Goal) (ps : List Taken) (values point : List Val) → IsPointAt g ps true values → point ≡ with_truths ps 0 values → IsPointOf g ps point
point_of g ps values point p e = record { rows = p.rows; are_rows = p.are_rows; values = values; greedy = p.greedy; truths = e }

pub breaks : (g : Goal) (ps : List Taken) (b : Broken) → IsBreakOf g ps b → Breaks g ps
breaks g ps b p = record { rows = p.rows; are_rows = p.are_rows; solvable = p.broken.solvable; var = b.var; earlier = p.broken.chosen; interval = ends_of b; choice = p.broken.choice }

-- ---- The ends of cells

pub no_ends : (g : Goal) (cells : List (List Taken)) → All (HoldsAt g) cells → EndsOf g cells []
no_ends g [] h = EndsOf.start
no_ends g (ps ∷ cells) h = go (All-head (HoldsAt g) ps cells h) (no_ends g cells (All-tail (HoldsAt g) ps cells h))
  where
    go : HoldsAt g ps → EndsOf g cells [] → EndsOf g (ps ∷ cells) []
    go (inl p) e = EndsOf.plain ps cells [] p e
    go (inr a) e = EndsOf.pieces ps cells [] [] a e

pub ends_longer : (g : Goal) (cells : List (List Taken)) (ps : List Taken) (es fs : List (List Taken)) → EndsOf g cells es → AreEnds g 0 ps fs → EndsOf g (cells ++ (ps ∷ [])) (es ++ fs)
ends_longer g _ ps _ fs EndsOf.start a = subst (EndsOf g (ps ∷ [])) (append-nil fs) (EndsOf.pieces ps [] fs [] a EndsOf.start)
ends_longer g _ ps _ fs (EndsOf.plain qs cells es p h) a = EndsOf.plain qs (cells ++ (ps ∷ [])) (es ++ fs) p (ends_longer g cells ps es fs h a)
ends_longer g _ ps _ fs (EndsOf.pieces qs cells cs es b h) a = subst (EndsOf g (qs ∷ (cells ++ (ps ∷ [])))) (sym (append_assoc cs es fs)) (EndsOf.pieces qs (cells ++ (ps ∷ [])) cs (es ++ fs) b (ends_longer g cells ps es fs h a))

plain_longer : (g : Goal) (cells : List (List Taken)) (ps : List Taken) (es : List (List Taken)) → EndsOf g cells es → IsPlainAt g ps → EndsOf g (cells ++ (ps ∷ [])) es
plain_longer g _ ps _ EndsOf.start p = EndsOf.plain ps [] [] p EndsOf.start
plain_longer g _ ps _ (EndsOf.plain qs cells es q h) p = EndsOf.plain qs (cells ++ (ps ∷ [])) es q (plain_longer g cells ps es h p)
plain_longer g _ ps _ (EndsOf.pieces qs cells cs es b h) p = EndsOf.pieces qs (cells ++ (ps ∷ [])) cs es b (plain_longer g cells ps es h p)

holds_longer : (g : Goal) (cells : List (List Taken)) (ps : List Taken) (es : List (List Taken)) → EndsOf g cells es → HoldsAt g ps → EndsOf g (cells ++ (ps ∷ [])) es
holds_longer g cells ps es h (inl p) = plain_longer g cells ps es h p
holds_longer g cells ps es h (inr a) = subst (EndsOf g (cells ++ (ps ∷ []))) (append-nil es) (ends_longer g cells ps es [] h a)

-- ---- All cells

longer : (before after cells : List (List Taken)) (path ps : List Taken) → before ++ (path ∷ after) ≡ cells → before ++ (path ∷ (after ++ (ps ∷ []))) ≡ cells ++ (ps ∷ [])
longer before after cells path ps e = sym (append_assoc before (path ∷ after) (ps ∷ [])) ∙ ap (λ cs. cs ++ (ps ∷ [])) e

pub point_longer : (g : Goal) (cells : List (List Taken)) (ps : List Taken) (point : List Val) → IsFirstPoint g cells point → IsFirstPoint g (cells ++ (ps ∷ [])) point
point_longer g cells ps point f = record {
  before = f.before;
  cell = f.cell;
  after = f.after ++ (ps ∷ []);
  whole = longer f.before f.after cells f.cell ps f.whole;
  ends = f.ends;
  are_ends = f.are_ends;
  broken = f.broken;
  is_cell = f.is_cell;
  gives = f.gives;
}

pub found_holds : (g : Goal) (cells : List (List Taken)) (ps : List Taken) (found : Found) → IsFound g cells found → HoldsAt g ps → IsFound g (cells ++ (ps ∷ [])) found
found_holds g cells ps Nothing f h = All-push (HoldsAt g) cells ps f h
found_holds g cells ps (Break b) f h = record { path = f.path; after = f.after; are_ends = holds_longer g cells ps (f.path ∷ f.after) f.are_ends h; breaks_here = f.breaks_here; broken_after = f.broken_after }
found_holds g cells ps (Point p) f h = point_longer g cells ps p.items f

pub first_break : (g : Goal) (cells : List (List Taken)) (ps : List Taken) (b : Broken) → All (HoldsAt g) cells → IsBroken g 0 ps b → IsFirstBreak g (cells ++ (ps ∷ [])) b
first_break g cells ps b h k = record { path = k.path; after = k.after; are_ends = ends_longer g cells ps [] (k.path ∷ k.after) (no_ends g cells h) k.ends; breaks_here = k.breaks_here; broken_after = k.broken_after }

pub later_break : (g : Goal) (cells : List (List Taken)) (ps : List Taken) (first b : Broken) → IsFirstBreak g cells first → IsBroken g 0 ps b → IsFirstBreak g (cells ++ (ps ∷ [])) first
later_break g cells ps first b f k = record {
  path = f.path;
  after = f.after ++ (k.path ∷ k.after);
  are_ends = ends_longer g cells ps (f.path ∷ f.after) (k.path ∷ k.after) f.are_ends k.ends;
  breaks_here = f.breaks_here;
  broken_after = All-append (Breaks g) f.after (k.path ∷ k.after) f.broken_after (All-cons (Breaks g) k.path k.after (breaks g k.path b k.breaks_here) k.broken_after);
}

point_after : (g : Goal) (cells : List (List Taken)) (ps : List Taken) (point : List Val) (es : List (List Taken)) → EndsOf g cells es → All (Breaks g) es → IsCell g ps → HasFirstPoint g 0 ps point → IsFirstPoint g (cells ++ (ps ∷ [])) point
point_after g cells ps point es e b c p = record { before = cells; cell = ps; after = []; whole = refl; ends = es; are_ends = e; broken = b; is_cell = c; gives = p }

pub first_point : (g : Goal) (cells : List (List Taken)) (ps : List Taken) (point : List Val) → All (HoldsAt g) cells → IsCell g ps → HasFirstPoint g 0 ps point → IsFirstPoint g (cells ++ (ps ∷ [])) point
first_point g cells ps point h c p = point_after g cells ps point [] (no_ends g cells h) (All-nil (Breaks g)) c p

pub point_after_break : (g : Goal) (cells : List (List Taken)) (ps : List Taken) (b : Broken) (point : List Val) → IsFirstBreak g cells b → IsCell g ps → HasFirstPoint g 0 ps point → IsFirstPoint g (cells ++ (ps ∷ [])) point
point_after_break g cells ps b point k c p = point_after g cells ps point (k.path ∷ k.after) k.are_ends (All-cons (Breaks g) k.path k.after (breaks g k.path b k.breaks_here) k.broken_after) c p
