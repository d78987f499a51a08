-- The result of a piece that is split, from the results of its halves.
use Prim.Native.Nat.{suc}
use Rattle.std.proofs.Common.{◌≡◌, ℕ, ℤ, ◌+◌, ◌<◌, ◌≤◌, ◌^◌, List, [], ◌∷◌, ◌++◌, length, take, refl, sym, ap, ◌∙◌, subst, arith, length-append, Vec, Global, Bool, true, false, pos, unsigned_abs}
use Rattle.std.specs.List.{All}
use Rattle.std.specs.Prelude.{Option, None, Some, cond, is_some, negsuc, Result, IfOk}
use Rattle.std.specs.Int.{int_div_euclid}
use Rattle.std.proofs.Math.Nat.{div-le_self}
use Rattle.std.proofs.lemmas.List.Elements.{All-append, All-cons, All-nil}
use Rattle.heyvl_num.specs.Rational.{Rational}
use Rattle.heyvl_num.specs.Rounding.{floorʳ}
use Rattle.heylo_formula.specs.Goals.{Goal}
use Rattle.heylo_formula.specs.TypedGoals.{IsTypedGoal}
use Rattle.heylo_formula.specs.Typing.{types_in}
use Rattle.heylo_formula.specs.declared.values.Val.{Val}
use Rattle.goal_answers.specs.declared.causes.Broken.{Broken}
use Rattle.goal_answers.specs.declared.causes.Cause.TheVariants.{Bits}
use Rattle.goal_answers.specs.declared.causes.Cause.{Cause}
use Rattle.linear_elim.specs.Answers.{ends_of}
use Rattle.goal_answers.specs.declared.trees.Tree as T
use Rattle.farkas_check.specs.AcceptedCertificates.{IsRefutedWith}
use Rattle.linear_form.proofs.exported.PathSteps.{plain_path}
use Rattle.linear_form.specs.AskAnswers.{Answers}
use Rattle.linear_form.specs.Cells.{IsCell}
use Rattle.linear_form.specs.PathRows.{IsPlainAt, path_claims}
use Rattle.linear_form.specs.PlainPaths.{atom_of, taken_of}
use Rattle.linear_form.specs.declared.paths.Taken as P
use Rattle.linear_values.specs.Operator.{narrow_value}
use Rattle.linear_values.specs.Tightening.{all_tightened}
use Rattle.linear_form.specs.Paths.{IsPath, end_at}
use Rattle.linear_form.specs.Query.Query.{done, bits, ask}
use Rattle.linear_form.specs.Query.{Taken, onto}
use Rattle.linear_form.specs.Questions.{Ends}
use Rattle.linear_form.specs.RowLists.{ArePathRows, LackLastRow}
use Rattle.linear_form.specs.Splits.{split_at}
use Rattle.linear_form.specs.declared.questions.Ask as K
use Rattle.linear_rows.proofs.exported.Narrow.{num_less}
use Rattle.linear_rows.specs.Numbers.{fits}
use Rattle.linear_rows.specs.Row.{Row}
use Rattle.linear_rows.specs.Terms.{is_narrow}
use Rattle.region_split.proofs.CellOrder.{front_path}
use Rattle.region_split.proofs.CellsFound.{break_is_false, breaks, point_is_false, point_of}
use Rattle.region_split.proofs.HalvedPaths.{end_past, half_path, plain_before}
use Rattle.region_split.proofs.Leaves.{closed_leaf}
use Rattle.region_split.proofs.Steps.{cell_of, not_plain_there, path_onto}
use Rattle.region_split.proofs.PathAnswers.{no_rows}
use Rattle.region_split.proofs.Trails.{unstated_denied}
use Rattle.region_split.proofs.TypedBreaks.{break_of}
use Rattle.region_split.specs.DecisionLaws.{SplitsAreNarrow}
use Rattle.region_split.specs.Decisions.{IsLookedAt}
use Rattle.region_split.specs.PathPoints.{Breaks, with_truths}
use Rattle.region_split.specs.Pieces.{AreEnds, BreaksAbove, HasFirstPoint, IsPieceOf, IsSplitAt, first_half, second_half}
use Rattle.region_split.specs.declared.front.End as E
use Rattle.region_split.specs.internal.Progress.{EndsPiece, IsBroken, IsCellStand, IsClosed, IsLeaf, IsPieceShown, IsPieceStand}
use Rattle.region_split.specs.declared.pieces.Piece.{Piece}
use Rattle.region_split.specs.internal.PathFindings.{EndsWalk, IsBreakAt, IsPointAt}

-- ---- The end of a walk

at_first : (g : Goal) (n : ℕ) (ps : List Taken) (x : ℕ) (m : ℤ) (cells : List (List Taken)) → IsSplitAt g n ps x m → IsLookedAt g n ps cells → IsLookedAt g (suc n) (first_half ps x m) cells
at_first g n ps x m cells s h = record { cell = h.cell; reached = h.reached; few = h.few; is_cell = h.is_cell; not_plain = h.not_plain; piece = IsPieceOf.first n ps x m h.piece s }

at_second : (g : Goal) (n : ℕ) (ps : List Taken) (x : ℕ) (m : ℤ) (cells es : List (List Taken)) → IsSplitAt g n ps x m → AreEnds g (suc n) (first_half ps x m) es → All (Breaks g) es → IsLookedAt g n ps cells → IsLookedAt g (suc n) (second_half ps x m) cells
at_second g n ps x m cells es s a b h = record { cell = h.cell; reached = h.reached; few = h.few; is_cell = h.is_cell; not_plain = h.not_plain; piece = IsPieceOf.second n ps x m es h.piece s a b }

pub first_ends : (g : Goal) (n : ℕ) (ps : List Taken) (x : ℕ) (m : ℤ) (cause : Cause) → IsSplitAt g n ps x m → EndsPiece g (suc n) (first_half ps x m) cause → EndsPiece g n ps cause
first_ends g n ps x m cause s h cells l linear = h cells (at_first g n ps x m cells s l) linear

pub second_ends : (g : Goal) (n : ℕ) (ps : List Taken) (x : ℕ) (m : ℤ) (es : List (List Taken)) (cause : Cause) → IsSplitAt g n ps x m → AreEnds g (suc n) (first_half ps x m) es → All (Breaks g) es → EndsPiece g (suc n) (second_half ps x m) cause → EndsPiece g n ps cause
second_ends g n ps x m es cause s a b h cells l linear = h cells (at_second g n ps x m cells es s a b l) linear

pub piece_ends : (g : Goal) (n : ℕ) (ps : List Taken) (cause : Cause) → EndsWalk g ps true cause → EndsPiece g n ps cause
piece_ends g n ps cause h cells l linear = h cells (n, l) linear

-- ---- The results of the halves

pub all_broken : (g : Goal) (n : ℕ) (ps : List Taken) (b : Broken) (k : IsBroken g n ps b) → All (Breaks g) (k.path ∷ k.after)
all_broken g n ps b k = All-cons (Breaks g) k.path k.after (breaks g k.path b k.breaks_here) k.broken_after

pub broken_behind_closed : (g : Goal) (n : ℕ) (ps : List Taken) (x : ℕ) (m : ℤ) (b : Broken) → IsSplitAt g n ps x m → AreEnds g (suc n) (first_half ps x m) [] → IsBroken g (suc n) (second_half ps x m) b → IsBroken g n ps b
broken_behind_closed g n ps x m b s a k = record { path = k.path; after = k.after; ends = AreEnds.halves n ps x m [] (k.path ∷ k.after) s a k.ends; breaks_here = k.breaks_here; broken_after = k.broken_after }

pub behind_broken : (g : Goal) (n : ℕ) (ps : List Taken) (x : ℕ) (m : ℤ) (b : Broken) (es : List (List Taken)) → IsSplitAt g n ps x m → IsBroken g (suc n) (first_half ps x m) b → AreEnds g (suc n) (second_half ps x m) es → All (Breaks g) es → IsBroken g n ps b
behind_broken g n ps x m b es s k a h = record { path = k.path; after = k.after ++ es; ends = AreEnds.halves n ps x m (k.path ∷ k.after) es s k.ends a; breaks_here = k.breaks_here; broken_after = All-append (Breaks g) k.after es k.broken_after h }

pub deepest_breaks : (g : Goal) (n : ℕ) (ps : List Taken) (rows : List Row) (e : E.End) (b : Broken) → IsTypedGoal g → IsPieceStand g n ps rows e → 8 ≤ n → IsBreakAt g ps true b → IsBroken g n ps b
deepest_breaks g n ps rows e b t s l h =
    let k = break_of g ps b t s.is_path h in
    record { path = ps; after = []; ends = AreEnds.deepest n ps l (break_is_false g ps b s.not_plain h) (breaks g ps b k); breaks_here = k; broken_after = All-nil (Breaks g) }

-- ---- The split of a piece

pub breaks_above : (g : Goal) (ps : List Taken) (b : Broken) (m : ℤ) → IsBreakAt g ps true b → m ≡ floorʳ b.low → BreaksAbove g ps b.var m
breaks_above g ps b m h e = record { rows = h.rows; are_rows = h.are_rows; solvable = h.broken.solvable; earlier = h.broken.chosen; interval = ends_of b; choice = h.broken.choice; low = record { place = b.low; inside = b.low_in }; has_low = refl; bound = e }

floor_small : (a : ℤ) (b : ℕ) → 0 < b → unsigned_abs (int_div_euclid a (pos b)) ≤ unsigned_abs a
floor_small (pos a) b p = div-le_self a b
floor_small (negsuc a) b p = omega (arith, div-le_self a b)

floor_narrow : (x : Rational) → fits x ≡ true → is_narrow (floorʳ x) ≡ true
unfolding floorʳ
floor_narrow x h = let s = floor_small x.num x.den x.positive in let n = num_less x h in narrow_where (int_div_euclid x.num (pos x.den)) (omega (arith, s, n))
  where
    narrow_where : (z : ℤ) → unsigned_abs z < 2 ^ 62 → is_narrow z ≡ true
    narrow_where z h = grind arith

pub splits_narrow : SplitsAreNarrow
splits_narrow rows types b h = floor_narrow b.low h.1.low

narrow_found : (z m : ℤ) → Some m ≡ narrow_value z → (is_narrow z ≡ true) × (m ≡ z)
narrow_found z m h = go (is_narrow z) h
  where
    go : (b : Bool) → Some m ≡ cond b (Some z) None → (b ≡ true) × (m ≡ z)
    go true h = (refl, cc)
    go false h = absurd (cc)

pub split_here : (g : Goal) (n : ℕ) (ps : List Taken) (rows : List Row) (e : E.End) (b : Broken) (z m : ℤ) → IsPieceStand g n ps rows e → n < 8 → IsBreakAt g ps true b → z ≡ floorʳ b.low → Some m ≡ narrow_value z → IsSplitAt g n ps b.var m
split_here g n ps rows e b z m s l h f k =
    let o = narrow_found z m k in
    record { few = l; false_piece = break_is_false g ps b s.not_plain h; breaks = breaks_above g ps b m h (o.1 ∙ f); narrow = ap is_narrow o.1 ∙ o.0 }

pub some_split_here : (g : Goal) (ps : List Taken) (b : Broken) (z : ℤ) (o : Option ℤ) → IsBreakAt g ps true b → z ≡ floorʳ b.low → o ≡ narrow_value z → is_some o ≡ true
some_split_here g ps b z o h f k = let n : is_narrow z ≡ true = ap is_narrow f ∙ floor_narrow b.low h.narrow.low in ap is_some k ∙ ap (λ (t : Bool). is_some (cond t (Some z) None)) n

the_ends : (g : Goal) (ps : List Taken) (e : E.End) → Answers (K.TheVariants.End e.stated e.found) (end_at g ps) → (f : Ends) × (end_at g ps ≡ done f)
the_ends g ps e a = go (end_at g ps) a
  where
    go : (t : _) → Answers (K.TheVariants.End e.stated e.found) t → (f : Ends) × (t ≡ done f)
    go (done f) h = (f, refl)
    go bits h = absurd h
    go (ask q y n) h = absurd h

pub half_onto : (ps qs : List Taken) (x : ℕ) (m : ℤ) (t : P.Taken) (held : Bool) → qs ≡ ps ++ (taken_of t ∷ []) → atom_of t.atom ≡ split_at x m → t.held ≡ held → qs ≡ onto ps (split_at x m) held
half_onto ps qs x m t held e a h = path_onto ps qs t held e h ∙ ap (λ q. onto ps q held) a

pub half_is_path : (g : Goal) (n : ℕ) (ps qs : List Taken) (x : ℕ) (m : ℤ) (held : Bool) (rows : List Row) (e : E.End) → IsSplitAt g n ps x m → IsPieceStand g n ps rows e → qs ≡ onto ps (split_at x m) held → IsPath g qs
half_is_path g n ps qs x m held rows e s h k = let f = the_ends g ps e h.values in subst (IsPath g) (sym k) (half_path g n ps x m held f.0 h.is_path f.1 s)

pub half_stands : (g : Goal) (n : ℕ) (ps qs : List Taken) (x : ℕ) (m : ℤ) (held : Bool) (rows more : List Row) (e : E.End) → IsSplitAt g n ps x m → IsPieceStand g n ps rows e → qs ≡ onto ps (split_at x m) held → ArePathRows g qs more → IsPieceStand g (suc n) qs more e
half_stands g n ps qs x m held rows more e s h k r =
    let f = the_ends g ps e h.values in
    subst (λ q. IsPieceStand g (suc n) q more e) (sym k) (record {
      is_path = half_path g n ps x m held f.0 h.is_path f.1 s;
      values = subst (Answers (K.TheVariants.End e.stated e.found)) (f.1 ∙ sym (end_past g ps (split_at x m) held f.0 f.1)) h.values;
      not_plain = λ p. h.not_plain (plain_before g ps (split_at x m) held f.0 f.1 p);
      rows = subst (λ q. ArePathRows g q more) k r;
      few = let l = s.few in omega (arith, l);
      short = let l = length-append ps (record { atom = split_at x m; held = held } ∷ []) in let o = h.short in omega (arith, l, o);
    })

pub lacks_half : (g : Goal) (ps qs : List Taken) (x : ℕ) (m : ℤ) (held : Bool) (rows own : List Row) → ArePathRows g ps rows → own ≡ rows → qs ≡ onto ps (split_at x m) held → LackLastRow g qs own
lacks_half g ps qs x m held rows own r e k = subst (LackLastRow g qs) (sym e) (record { before = ps; last = record { atom = split_at x m; held = held }; split = k; are_rows = r })

pub half_lost : (g : Goal) (n : ℕ) (ps qs : List Taken) → qs ≡ ps → all_tightened (types_in g.types) (path_claims qs) ≡ None → EndsPiece g n ps Bits
half_lost g n ps qs k e = piece_ends g n ps Bits (no_rows g ps true (unstated_denied g ps (subst (λ xs. all_tightened (types_in g.types) (path_claims xs) ≡ None) k e)))

-- ---- The result of a piece by its rows

pub few_rows : (g : Goal) (n : ℕ) (ps : List Taken) (rows : List Row) (e : E.End) (k m : ℕ) → IsPieceStand g n ps rows e → m ≡ length ps → k ≤ m + 1 + length g.types → k < 2 ^ 32
few_rows g n ps rows e k m s l h = let f = s.few in let t = s.short in omega (arith, l, h, f, t)

pub few_variables : (g : Goal) (n : ℕ) (ps : List Taken) (rows : List Row) (e : E.End) → IsPieceStand g n ps rows e → length g.types < 2 ^ 32
few_variables g n ps rows e s = let f = s.few in let t = s.short in omega (arith, f, t)

pub piece_closed : (g : Goal) (n : ℕ) (ps : List Taken) (rows : List Row) (e : E.End) (ms : Vec (ℕ × ℕ) Global) (tree : Option T.Tree) (k : ℕ) → IsPieceStand g n ps rows e → k ≡ length ps → IsLeaf k (T.Farkas ms) tree → IsRefutedWith g ps true ms.items → IsClosed g n ps tree
piece_closed g n ps rows e ms tree k s l t r = let f = the_ends g ps e s.values in closed_leaf g n ps f.0 ms tree (subst (λ i. IsLeaf i (T.Farkas ms) tree) l t) f.1 s.not_plain r

pub piece_given : (g : Goal) (n : ℕ) (ps : List Taken) (rows : List Row) (e : E.End) (values point : List Val) → IsPieceStand g n ps rows e → IsPointAt g ps true values → point ≡ with_truths ps 0 values → HasFirstPoint g n ps point
piece_given g n ps rows e values point s p t = HasFirstPoint.whole n ps point (point_is_false g ps values s.not_plain p) (point_of g ps values point p t)

pub same_shown : {E : Type 0} (g : Goal) (n m : ℕ) (ps qs : List Taken) (r : Result Piece E) → n ≡ m → ps ≡ qs → IfOk r (λ p. IsPieceShown g n ps p) → IfOk r (λ p. IsPieceShown g m qs p)
same_shown g n m ps qs r e k h = subst (λ i. IfOk r (λ p. IsPieceShown g i qs p)) e (subst (λ xs. IfOk r (λ p. IsPieceShown g n xs p)) k h)

-- ---- A cell is the first piece

pub cell_at : (g : Goal) (ps : List Taken) (rows : List Row) (kept : ℕ) (e : E.End) → IsCellStand g ps rows kept e → IsCell g ps
cell_at g ps rows kept e s = cell_of g ps e.plain s.front s.end.is_end

pub unplain_at : (g : Goal) (ps : List Taken) (rows : List Row) (kept : ℕ) (e : E.End) → IsCellStand g ps rows kept e → IsPlainAt g ps → ⊥
unplain_at g ps rows kept e s = not_plain_there g ps e.plain s.end.is_end s.not_plain

pub first_piece : (g : Goal) (ps : List Taken) (rows first : List Row) (kept : ℕ) (e : E.End) → IsCellStand g ps rows kept e → first ≡ take kept rows → IsPieceStand g 0 ps first e
first_piece g ps rows first kept e s f = record {
  is_path = plain_path g ps (front_path g ps s.front);
  values = s.end.values;
  not_plain = unplain_at g ps rows kept e s;
  rows = subst (ArePathRows g ps) (sym f) s.path_rows;
  few = omega arith;
  short = let l = s.short in omega (arith, l);
}
