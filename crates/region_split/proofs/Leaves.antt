-- The trees of finished branches.
use Prim.Native.Nat.{suc}
use Rattle.std.proofs.Common.{◌≡◌, ℕ, ℤ, ◌+◌, ◌<◌, ◌≤◌, max, List, [], ◌∷◌, ◌++◌, length, refl, sym, ap, ◌∙◌, subst, arith, length-append, Vec, Global, Bool, true, false, inl, inr}
use Rattle.std.specs.Prelude.{Option, Some, None, is_some}
use Rattle.std.proofs.lemmas.List.{append-nil}
use Rattle.std.proofs.lemmas.List.Elements.{All-head, All-nil}
use Rattle.std.specs.declared.boxed.Box.{Box}
use Rattle.heylo_formula.specs.Goals.{Goal}
use Rattle.linear_form.specs.Query.{Atom, Taken, onto}
use Rattle.linear_form.specs.Query.Query.{done}
use Rattle.linear_form.specs.Questions.{Ends}
use Rattle.linear_form.specs.Paths.{end_at}
use Rattle.linear_form.specs.PathRows.{IsPlainAt, denial, denial_at}
use Rattle.linear_form.specs.PlainPaths.{path_of}
use Rattle.linear_form.specs.Cells.{GoesOn, IsCell}
use Rattle.linear_form.specs.Splits.{split_at}
use Rattle.linear_rows.proofs.exported.Combinations.{contradiction_unsolvable}
use Rattle.goal_answers.specs.Trees.{Tree, tree_of, tree_layer, depth}
use Rattle.farkas_check.specs.AcceptedCertificates.{IsRefutedWith, has_denied}
use Rattle.goal_answers.specs.declared.trees.Tree as T
use Rattle.goal_answers.specs.declared.trees.Tree.TheOpen.{Tree-F}
use Rattle.goal_answers.specs.declared.trees.Tree.TheFolds.{fold-roll-Tree}
use Rattle.region_split.specs.Walk.{AreCells, IsFalse, IsRefutedCell, IsSettled}
use Rattle.goal_answers.specs.declared.causes.Broken.{Broken}
use Rattle.heylo_formula.specs.declared.values.Val.{Val}
use Rattle.region_split.specs.PathPoints.{Breaks}
use Rattle.region_split.specs.Pieces.{AreEnds, HasFirstPoint, IsSplitAt, first_half, second_half}
use Rattle.region_split.specs.WalkTree.{IsPieceTree, IsWalkTree}
use Rattle.region_split.specs.internal.PathFindings.{IsEnd}
use Rattle.region_split.specs.internal.Trails.{StandsAt, IsDroppedBy}
use Rattle.region_split.specs.internal.Progress.{HasFalsePoint, HoldsAt, IsBroken, IsClosed, IsGrownTree, IsDeep, IsGrown, IsLeaf, IsBranch, IsAfter, IsFound, IsPieceDeep, IsPieceGrown, IsPieceGrownTree, IsStandingWalk, IsFinishedWalk}
use Rattle.region_split.specs.declared.walk.Walk.{Walk}
use Rattle.region_split.proofs.UniqueEnds.{ends_unique, point_false, point_not_broken}

-- ---- The trees of the program as those of the definitions

split_tree : (a b : Box T.Tree Global) → tree_of (T.Split a b) ≡ Tree.split (tree_of a.value) (tree_of b.value)
split_tree a b = ap tree_of (sym (T.TheVariants.rolls-Split a b)) ∙ fold-roll-Tree Tree tree_layer (Tree-F.Split a b) ∙ refl

pub same_split : (a b : Box T.Tree Global) (t u : T.Tree) → a.value ≡ t → b.value ≡ u → tree_of (T.Split a b) ≡ Tree.split (tree_of t) (tree_of u)
same_split a b t u e f = split_tree a b ∙ ap (λ x. Tree.split (tree_of x) (tree_of b.value)) e ∙ ap (λ x. Tree.split (tree_of t) (tree_of x)) f

farkas_tree : (ms : Vec (ℕ × ℕ) Global) → tree_of (T.Farkas ms) ≡ Tree.farkas ms.items
farkas_tree ms = ap tree_of (sym (T.TheVariants.rolls-Farkas ms)) ∙ fold-roll-Tree Tree tree_layer (Tree-F.Farkas ms) ∙ refl

pub plain_tree : tree_of T.Plain ≡ Tree.plain
plain_tree = ap tree_of (sym T.TheVariants.rolls-Plain) ∙ fold-roll-Tree Tree tree_layer Tree-F.Plain ∙ refl

whole_layer : (x : ℕ) (m : ℤ) (a b : Box T.Tree Global) → tree_of (T.Whole x m a b) ≡ Tree.whole x m (tree_of a.value) (tree_of b.value)
whole_layer x m a b = ap tree_of (sym (T.TheVariants.rolls-Whole x m a b)) ∙ fold-roll-Tree Tree tree_layer (Tree-F.Whole x m a b) ∙ refl

pub same_whole : (x : ℕ) (m : ℤ) (a b : Box T.Tree Global) (t u : T.Tree) → a.value ≡ t → b.value ≡ u → tree_of (T.Whole x m a b) ≡ Tree.whole x m (tree_of t) (tree_of u)
same_whole x m a b t u e f = whole_layer x m a b ∙ ap (λ v. Tree.whole x m (tree_of v) (tree_of b.value)) e ∙ ap (λ v. Tree.whole x m (tree_of t) (tree_of v)) f

-- ---- Splits

longer : (ps : List Taken) (q : Atom) (b : Bool) → length (onto ps q b) ≡ length ps + 1
longer ps q b = length-append ps _

joined_depth : (n m k a b c : ℕ) → m ≡ n + 1 → k ≡ n + 1 → m + a ≤ 1000 → k + b ≤ 1000 → c ≡ 1 + max a b → n + c ≤ 1000
joined_depth n m k a b c e f x y d = omega (arith, e, f, x, y, d)

deep_left : (g : Goal) (ps : List Taken) (q : Atom) (u : Tree) → GoesOn g ps q → IsDeep g (onto ps q true) → IsWalkTree g (onto ps q false) u → IsDeep g ps
deep_left g ps q u h a b = record { tree = Tree.split a.tree u; is_tree = IsWalkTree.split ps q a.tree u h a.is_tree b; deep = let d = a.deep in let l = longer ps q true in omega (arith, d, l) }

deep_second : (g : Goal) (ps : List Taken) (q : Atom) (t : Tree) → GoesOn g ps q → IsWalkTree g (onto ps q true) t → IsDeep g (onto ps q false) → IsDeep g ps
deep_second g ps q t h a b = record { tree = Tree.split t b.tree; is_tree = IsWalkTree.split ps q t b.tree h a b.is_tree; deep = let d = b.deep in let l = longer ps q false in omega (arith, d, l) }

pub deep_right : (g : Goal) (ps : List Taken) (q : Atom) (t : Tree) → GoesOn g ps q → IsWalkTree g (onto ps q true) t → IsGrown g (onto ps q false) None → IsGrown g ps None
deep_right g ps q t h a (inl b) = inl (deep_second g ps q t h a b)
deep_right g ps q t h a (inr f) = inr f

pub deep_first : (g : Goal) (ps : List Taken) (q : Atom) (right : Option T.Tree) → GoesOn g ps q → IsGrown g (onto ps q true) None → IsGrown g (onto ps q false) right → IsGrown g ps None
deep_first g ps q right h (inr f) b = inr f
deep_first g ps q (Some t) h (inl a) b = inl (deep_left g ps q (tree_of t) h a b.is_tree)
deep_first g ps q None h (inl a) (inl b) = inl (deep_left g ps q b.tree h a b.is_tree)
deep_first g ps q None h (inl a) (inr f) = inr f

pub grown_split : (g : Goal) (ps : List Taken) (q : Atom) (l r t : T.Tree) → GoesOn g ps q → IsGrownTree g (onto ps q true) l → IsGrownTree g (onto ps q false) r → tree_of t ≡ Tree.split (tree_of l) (tree_of r) → IsGrownTree g ps t
grown_split g ps q l r t h x y e = record {
  is_tree = subst (IsWalkTree g ps) (sym e) (IsWalkTree.split ps q (tree_of l) (tree_of r) h x.is_tree y.is_tree);
  shallow = joined_depth (length ps) (length (onto ps q true)) (length (onto ps q false)) (depth (tree_of l)) (depth (tree_of r)) (depth (tree_of t)) (longer ps q true) (longer ps q false) x.shallow y.shallow (ap depth e);
}

-- ---- Halves of a piece

piece_left : (g : Goal) (n : ℕ) (ps : List Taken) (x : ℕ) (m : ℤ) (u : Tree) → IsSplitAt g n ps x m → IsPieceDeep g (suc n) (first_half ps x m) → IsPieceTree g (suc n) (second_half ps x m) u → IsPieceDeep g n ps
piece_left g n ps x m u h a b = record { tree = Tree.whole x m a.tree u; is_tree = IsPieceTree.halves n ps x m a.tree u h a.is_tree b; deep = let d = a.deep in let l = longer ps (split_at x m) true in omega (arith, d, l) }

pub piece_right : (g : Goal) (n : ℕ) (ps : List Taken) (x : ℕ) (m : ℤ) (t : Tree) → IsSplitAt g n ps x m → IsPieceTree g (suc n) (first_half ps x m) t → IsPieceDeep g (suc n) (second_half ps x m) → IsPieceDeep g n ps
piece_right g n ps x m t h a b = record { tree = Tree.whole x m t b.tree; is_tree = IsPieceTree.halves n ps x m t b.tree h a b.is_tree; deep = let d = b.deep in let l = longer ps (split_at x m) false in omega (arith, d, l) }

pub piece_first : (g : Goal) (n : ℕ) (ps : List Taken) (x : ℕ) (m : ℤ) (right : Option T.Tree) → IsSplitAt g n ps x m → IsPieceDeep g (suc n) (first_half ps x m) → IsPieceGrown g (suc n) (second_half ps x m) right → IsPieceDeep g n ps
piece_first g n ps x m (Some t) h a b = piece_left g n ps x m (tree_of t) h a b.is_tree
piece_first g n ps x m None h a b = piece_left g n ps x m b.tree h a b.is_tree

pub grown_halves : (g : Goal) (n : ℕ) (ps : List Taken) (x : ℕ) (m : ℤ) (l r t : T.Tree) → IsSplitAt g n ps x m → IsPieceGrownTree g (suc n) (first_half ps x m) l → IsPieceGrownTree g (suc n) (second_half ps x m) r → tree_of t ≡ Tree.whole x m (tree_of l) (tree_of r) → IsPieceGrownTree g n ps t
grown_halves g n ps x m l r t h a b e = record {
  is_tree = subst (IsPieceTree g n ps) (sym e) (IsPieceTree.halves n ps x m (tree_of l) (tree_of r) h a.is_tree b.is_tree);
  shallow = joined_depth (length ps) (length (first_half ps x m)) (length (second_half ps x m)) (depth (tree_of l)) (depth (tree_of r)) (depth (tree_of t)) (longer ps (split_at x m) true) (longer ps (split_at x m) false) a.shallow b.shallow (ap depth e);
}

-- ---- Leaves

grown_leaf : (g : Goal) (ps : List Taken) (t : T.Tree) (u : Tree) (r : Option T.Tree) → IsLeaf (length ps) t r → tree_of t ≡ u → depth u ≡ 1 → IsWalkTree g ps u → IsGrown g ps r
grown_leaf g ps t u (Some v) l e d a =
    let k : tree_of v ≡ u = ap tree_of l.0 ∙ e in
    record { is_tree = subst (IsWalkTree g ps) (sym k) a; shallow = let m : depth (tree_of v) ≡ 1 = ap depth k ∙ d in let n = l.1 in omega (arith, m, n) }
grown_leaf g ps t u None l e d a = inl (record { tree = u; is_tree = a; deep = omega (arith, l, d) })

pub dropped_leaf : (g : Goal) (ps : List Taken) (ms : Vec (ℕ × ℕ) Global) (r : Option T.Tree) → IsLeaf (length ps) (T.Farkas ms) r → IsDroppedBy g ps ms.items → IsBranch g ps [] r
dropped_leaf g ps ms r l h = record {
  are_cells = AreCells.dropped ps h.dropped (record { rows = h.refuted.rows; are_rows = h.refuted.are_rows });
  grown = λ _. grown_leaf g ps (T.Farkas ms) (Tree.farkas ms.items) r l (farkas_tree ms) refl (IsWalkTree.dropped ps ms.items h.dropped h.refuted);
}

end_branch : (g : Goal) (ps : List Taken) (plain : Bool) (tree : Option T.Tree) → IsEnd g ps plain → IsSettled g ps → (HoldsAt g ps → IsGrown g ps tree) → IsBranch g ps (ps ∷ []) tree
end_branch g ps plain tree e s h = record { are_cells = AreCells.end ps e.ends e.kept e.at_end s; grown = λ a. h (All-head (HoldsAt g) ps [] a) }

pub plain_leaf : (g : Goal) (ps : List Taken) (plain : Bool) (r : Option T.Tree) → IsLeaf (length ps) T.Plain r → IsEnd g ps plain → IsPlainAt g ps → IsBranch g ps (ps ∷ []) r
plain_leaf g ps plain r l e p = end_branch g ps plain r e (IsSettled.plain p) (λ _. grown_leaf g ps T.Plain Tree.plain r l plain_tree refl (IsWalkTree.plain ps e.kept p))

-- ---- The pieces of a cell

some_denied : (g : Goal) (ps : List Taken) (e : Ends) (o : Bool) → end_at g ps ≡ done e → is_some (denial g.upper e) ≡ o → has_denied g ps ≡ o
some_denied g ps e o h k = ap (λ t. is_some (denial_at g.upper t)) h ∙ k

pub denied_there : (g : Goal) (ps : List Taken) (e : Ends) → end_at g ps ≡ done e → (IsPlainAt g ps → ⊥) → has_denied g ps ≡ true
denied_there g ps e h n = go (denial g.upper e) refl
  where
    go : (o : Option _) → denial g.upper e ≡ o → has_denied g ps ≡ true
    go None k = absurd (n (record { ends = e; at_end = h; plain = k }))
    go (Some c) k = some_denied g ps e true h (ap is_some k)

refuted_there : (g : Goal) (ps : List Taken) (ms : List (ℕ × ℕ)) → IsRefutedWith g ps true ms → IsRefutedCell g ps
refuted_there g ps ms r = record { rows = r.rows; are_rows = r.are_rows; unsolvable = contradiction_unsolvable ms r.rows r.contradiction }

piece_leaf : (g : Goal) (n : ℕ) (ps : List Taken) (ms : Vec (ℕ × ℕ) Global) (r : Option T.Tree) → IsLeaf (length ps) (T.Farkas ms) r → IsPieceTree g n ps (Tree.farkas ms.items) → IsPieceGrown g n ps r
piece_leaf g n ps ms (Some v) l a =
    let k : tree_of v ≡ Tree.farkas ms.items = ap tree_of l.0 ∙ farkas_tree ms in
    record { is_tree = subst (IsPieceTree g n ps) (sym k) a; shallow = let m : depth (tree_of v) ≡ 1 = ap depth k in let o = l.1 in omega (arith, m, o) }
piece_leaf g n ps ms None l a = record { tree = Tree.farkas ms.items; is_tree = a; deep = let d : depth (Tree.farkas ms.items) ≡ 1 = refl in omega (arith, l, d) }

pub closed_leaf : (g : Goal) (n : ℕ) (ps : List Taken) (e : Ends) (ms : Vec (ℕ × ℕ) Global) (t : Option T.Tree) → IsLeaf (length ps) (T.Farkas ms) t → end_at g ps ≡ done e → (IsPlainAt g ps → ⊥) → IsRefutedWith g ps true ms.items → IsClosed g n ps t
closed_leaf g n ps e ms t l h k r = record {
  ends = AreEnds.refuted n ps (refuted_there g ps ms.items r);
  grown = piece_leaf g n ps ms t l (IsPieceTree.refuted n ps ms.items (subst (λ b. IsRefutedWith g ps b ms.items) (sym (denied_there g ps e h k)) r));
}

settled_by_ends : (g : Goal) (n : ℕ) (ps : List Taken) (es : List (List Taken)) → IsCell g ps → AreEnds g n ps es → IsSettled g ps
settled_by_ends g _ _ _ c (AreEnds.refuted n ps r) = IsSettled.refuted r
settled_by_ends g _ _ _ c (AreEnds.whole n ps p f a) = IsSettled.falsified c f
settled_by_ends g _ _ _ c (AreEnds.deepest n ps l f b) = IsSettled.falsified c f
settled_by_ends g _ _ _ c (AreEnds.halves n ps x m es fs s a b) = IsSettled.falsified c s.false_piece

cell_branch : (g : Goal) (ps : List Taken) (c : IsCell g ps) (tree : Option T.Tree) → IsSettled g ps → (HoldsAt g ps → IsGrown g ps tree) → IsBranch g ps (ps ∷ []) tree
cell_branch g ps c tree s h = record { are_cells = AreCells.end ps c.ends c.kept c.at_end s; grown = λ a. h (All-head (HoldsAt g) ps [] a) }

grown_cell : (g : Goal) (ps : List Taken) (c : IsCell g ps) (tree : Option T.Tree) → IsPieceGrown g 0 ps tree → IsGrown g ps tree
grown_cell g ps c (Some t) a = record { is_tree = IsWalkTree.pieces ps c.ends (tree_of t) c.kept c.at_end a.is_tree; shallow = a.shallow }
grown_cell g ps c None a = inl (record { tree = a.tree; is_tree = IsWalkTree.pieces ps c.ends a.tree c.kept c.at_end a.is_tree; deep = a.deep })

pub closed_branch : (g : Goal) (ps : List Taken) (tree : Option T.Tree) → IsCell g ps → IsClosed g 0 ps tree → IsBranch g ps (ps ∷ []) tree
closed_branch g ps tree c h = cell_branch g ps c tree (settled_by_ends g 0 ps [] c h.ends) (λ _. grown_cell g ps c tree h.grown)

has_no_ends : (g : Goal) (ps : List Taken) (q : List Taken) (more : List (List Taken)) → (IsPlainAt g ps → ⊥) → AreEnds g 0 ps (q ∷ more) → HoldsAt g ps → ⊥
has_no_ends g ps q more n a (inl p) = n p
has_no_ends g ps q more n a (inr b) = let e = ends_unique g 0 ps [] (q ∷ more) b a in absurd (cc)

pub broken_branch : (g : Goal) (ps : List Taken) (b : Broken) → IsCell g ps → (IsPlainAt g ps → ⊥) → IsBroken g 0 ps b → IsBranch g ps (ps ∷ []) None
broken_branch g ps b c n k = cell_branch g ps c None (settled_by_ends g 0 ps (k.path ∷ k.after) c k.ends) (λ h. absurd (has_no_ends g ps k.path k.after n k.ends h))

pub point_or_holds : (g : Goal) (ps : List Taken) (p : List Val) → HasFirstPoint g 0 ps p → HoldsAt g ps → ⊥
point_or_holds g ps p a (inl h) = (point_false g 0 ps p a).not_plain h
point_or_holds g ps p a (inr e) = point_not_broken g 0 ps p [] a e (All-nil (Breaks g))

pub given_branch : (g : Goal) (ps : List Taken) (p : List Val) → IsCell g ps → HasFirstPoint g 0 ps p → IsBranch g ps (ps ∷ []) None
given_branch g ps p c a = cell_branch g ps c None (IsSettled.falsified c (point_false g 0 ps p a)) (λ h. absurd (point_or_holds g ps p a h))

pub further_branch : (g : Goal) (ps : List Taken) → IsCell g ps → IsFalse g ps → HasFalsePoint g → IsBranch g ps (ps ∷ []) None
further_branch g ps c f h = cell_branch g ps c None (IsSettled.falsified c f) (λ _. inr h)

-- ---- Finished branches of a walk

pub dropped_finished : (g : Goal) (w : Walk) (tree : Option T.Tree) → IsStandingWalk g w → IsBranch g (path_of w.trail.path.items) [] tree → IsFinishedWalk g w tree
dropped_finished g w tree h b =
    let i = h.come in
    record {
      stands = h.stands;
      all = i.before;
      after = record { before = i.before; here = []; whole = append-nil i.before; stands = i.stands; branch = b };
      found = i.found;
      counted = i.counted;
      few = i.few;
    }

pub cell_finished : (g : Goal) (w next : Walk) (tree : Option T.Tree) → IsStandingWalk g w → w.count < 4096 → next.count ≡ w.count + 1 → StandsAt g (path_of w.trail.path.items) next.trail → next.trees ≡ w.trees → IsBranch g (path_of w.trail.path.items) (path_of w.trail.path.items ∷ []) tree → ((cells : List (List Taken)) → IsFound g cells w.found → IsFound g (cells ++ (path_of w.trail.path.items ∷ [])) next.found) → IsFinishedWalk g next tree
cell_finished g w next tree h l k s t b f =
    let i = h.come in
    let ps = path_of w.trail.path.items in
    record {
      stands = s.stands;
      all = i.before ++ (ps ∷ []);
      after = subst (λ qs. IsAfter g qs next.trees.items (i.before ++ (ps ∷ [])) tree) (sym s.path) (subst (λ v. IsAfter g ps v.items (i.before ++ (ps ∷ [])) tree) (sym t) (record { before = i.before; here = ps ∷ []; whole = refl; stands = i.stands; branch = b }));
      found = f i.before i.found;
      counted = let a = length-append i.before (ps ∷ []) in let c = i.counted in omega (arith, a, c, k);
      few = omega arith;
    }
