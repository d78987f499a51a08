-- The halves of a piece: their paths, and the ends of these paths.
use Rattle.std.proofs.Common.{◌≡◌, ℕ, ℤ, List, [], ◌∷◌, ◌++◌, sym, ◌∙◌, Bool, true, false}
use Rattle.std.specs.Prelude.{cond}
use Rattle.heyvl_num.specs.Rational.{Rational}
use Rattle.heylo_formula.specs.Goals.{Goal}
use Rattle.heylo_formula.specs.Typing.{types_in}
use Rattle.heylo_formula.specs.declared.types.Ty.{Ty}
use Rattle.linear_form.proofs.exported.PathSteps.{split_onto}
use Rattle.linear_form.specs.PathRows.{IsPlainAt}
use Rattle.linear_form.specs.Paths.{IsPath, end_at, walk}
use Rattle.linear_form.specs.Query.Query.{done, bits, ask}
use Rattle.linear_form.specs.Query.{Atom, Query, Taken, onto}
use Rattle.linear_form.specs.Questions.{Ends, questions}
use Rattle.linear_form.specs.Splits.{split_at}
use Rattle.linear_rows.specs.GreedyPoint.{Chooses, Greedy, Interval}
use Rattle.linear_rows.specs.Row.{Row}
use Rattle.linear_rows.specs.VariableTypes.{is_integral}
use Rattle.region_split.specs.Pieces.{BreaksAbove, IsSplitAt}

walk_past : {A : Type 0} (t : Query A) (qs ss : List Taken) (a : A) → walk t qs ≡ done a → walk t (qs ++ ss) ≡ done a
walk_past (done b) qs ss a e = e
walk_past bits qs ss a e = absurd (cc)
walk_past (ask q y n) [] ss a e = absurd (cc)
walk_past {A} (ask q y n) (p ∷ qs) ss a e = go p.held e (walk_past y qs ss a) (walk_past n qs ss a)
  where
    go : (b : Bool) → cond b (walk y qs) (walk n qs) ≡ done a → (walk y qs ≡ done a → walk y (qs ++ ss) ≡ done a) → (walk n qs ≡ done a → walk n (qs ++ ss) ≡ done a) → cond b (walk y (qs ++ ss)) (walk n (qs ++ ss)) ≡ done a
    go true k f h = f k
    go false k f h = h k

pub end_past : (g : Goal) (ps : List Taken) (q : Atom) (b : Bool) (e : Ends) → end_at g ps ≡ done e → end_at g (onto ps q b) ≡ done e
end_past g ps q b e h = walk_past (questions g) ps _ e h

pub plain_before : (g : Goal) (ps : List Taken) (q : Atom) (b : Bool) (e : Ends) → end_at g ps ≡ done e → IsPlainAt g (onto ps q b) → IsPlainAt g ps
plain_before g ps q b e h p = record { ends = p.ends; at_end = h ∙ sym (end_past g ps q b e h) ∙ p.at_end; plain = p.plain }

broke_whole : (rows : List Row) (vars : List Ty) (xs : List ℕ) (cs ds : List (ℕ × Rational)) (x : ℕ) (i : Interval) → Chooses rows vars xs cs (Greedy.broke x ds i) → is_integral (types_in vars x) ≡ true
broke_whole rows vars _ cs ds x i (Chooses.takes y ys _ j v _ a c r) = broke_whole rows vars ys (cs ++ (y, v) ∷ []) ds x i r
broke_whole rows vars _ cs ds x i (Chooses.breaks _ ys _ _ a b) = b.whole_type

pub splits_whole : (g : Goal) (ps : List Taken) (x : ℕ) (m : ℤ) → BreaksAbove g ps x m → is_integral (types_in g.types x) ≡ true
splits_whole g ps x m b = broke_whole b.rows g.types _ [] b.earlier x b.interval b.choice

pub half_path : (g : Goal) (n : ℕ) (ps : List Taken) (x : ℕ) (m : ℤ) (b : Bool) (e : Ends) → IsPath g ps → end_at g ps ≡ done e → IsSplitAt g n ps x m → IsPath g (onto ps (split_at x m) b)
half_path g n ps x m b e h k s = split_onto g ps x m b e h k (splits_whole g ps x m s.breaks)
