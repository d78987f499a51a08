-- Paths with splits after their last comparison.
use Rattle.std.proofs.Common.{◌≡◌, ◌⊎◌, ℕ, List, [], ◌∷◌, ◌++◌, refl, sym, ap, ◌∙◌, subst, Bool, true, false, cond, inl, inr, append_assoc}
use Rattle.std.specs.Prelude.{ℤ}
use Rattle.std.proofs.lemmas.List.{append-nil}
use Rattle.std.proofs.lemmas.List.Elements.{All-nil, All-push}
use Rattle.heylo_formula.specs.Goals.{Goal}
use Rattle.heylo_formula.specs.State.{Env}
use Rattle.heylo_formula.specs.Typing.{types_in}
use Rattle.linear_rows.specs.VariableTypes.{is_integral}
use Rattle.linear_form.specs.Query.{Query, Atom, Taken, onto}
use Rattle.linear_form.specs.Query.Query.{done, bits, ask}
use Rattle.linear_form.specs.Questions.{Ends, questions}
use Rattle.linear_form.specs.Splits.{split_at, IsSplit}
use Rattle.linear_form.specs.Paths.{walk, Path, IsQuestionPath, IsPath, Agrees, end_at, Asks}
use Rattle.linear_form.specs.PlainPaths.{path_of}
use Rattle.linear_form.specs.declared.paths.Taken as T
use Rattle.linear_form.proofs.PathSteps.{path_onto}

pub plain_path : (g : Goal) (ps : List Taken) → IsQuestionPath g ps → IsPath g ps
plain_path g ps h = record { asked = ps; splits = []; parts = sym (append-nil ps); is_asked = h; are_splits = All-nil (IsSplit g.types); at_end = inl refl }

pub empty_path : (g : Goal) (ps : List T.Taken) → ps ≡ [] → IsPath g (path_of ps)
empty_path g ps e = subst (λ (ps : List T.Taken). IsPath g (path_of ps)) (sym e) (plain_path g [] (Path.start (questions g)))

-- ---- The end of a path is that of its comparisons

pub walk_nil : {A : Type 0} (t : Query A) → walk t [] ≡ t
walk_nil (done a) = refl
walk_nil bits = refl
walk_nil (ask q y n) = refl

pub walk_append : {A : Type 0} (t : Query A) (xs ys : List Taken) → walk t (xs ++ ys) ≡ walk (walk t xs) ys
walk_append (done a) xs ys = refl
walk_append bits xs ys = refl
walk_append (ask q y n) [] ys = refl
walk_append {A} (ask q y n) (x ∷ xs) ys = go x.held (walk_append y xs ys) (walk_append n xs ys)
  where
    go : (b : Bool) → walk y (xs ++ ys) ≡ walk (walk y xs) ys → walk n (xs ++ ys) ≡ walk (walk n xs) ys → cond b (walk y (xs ++ ys)) (walk n (xs ++ ys)) ≡ walk (cond b (walk y xs) (walk n xs)) ys
    go true e f = e
    go false e f = f

pub end_same : (g : Goal) (ps : List Taken) (h : IsPath g ps) → end_at g ps ≡ end_at g h.asked
end_same g ps h = go h.at_end
  where
    go : (h.splits ≡ []) ⊎ ((e : Ends) × (end_at g h.asked ≡ done e)) → end_at g ps ≡ end_at g h.asked
    go (inl e) = ap (end_at g) (h.parts ∙ ap (λ ss. h.asked ++ ss) e ∙ append-nil h.asked)
    go (inr k) = ap (end_at g) h.parts ∙ walk_append (questions g) h.asked h.splits ∙ ap (λ t. walk t h.splits) k.1 ∙ sym k.1

pub only_questions : (g : Goal) (ps : List Taken) (q : Atom) → IsPath g ps → Asks g ps q → IsQuestionPath g ps
only_questions g ps q h a = go h.at_end
  where
    go : (h.splits ≡ []) ⊎ ((e : Ends) × (end_at g h.asked ≡ done e)) → IsQuestionPath g ps
    go (inl e) = subst (IsQuestionPath g) (sym (h.parts ∙ ap (λ ss. h.asked ++ ss) e ∙ append-nil h.asked)) h.is_asked
    go (inr k) = let e = sym k.1 ∙ sym (end_same g ps h) ∙ a.question in absurd (cc)

-- ---- One more answer

pub asked_onto : (g : Goal) (ps : List Taken) (q : Atom) (b : Bool) → IsPath g ps → Asks g ps q → IsPath g (onto ps q b)
asked_onto g ps q b h a = plain_path g (onto ps q b) (path_onto (questions g) ps q a.yes a.no b (only_questions g ps q h a) a.question)

pub split_onto : (g : Goal) (ps : List Taken) (x : ℕ) (m : ℤ) (b : Bool) (e : Ends) → IsPath g ps → end_at g ps ≡ done e → is_integral (types_in g.types x) ≡ true → IsPath g (onto ps (split_at x m) b)
split_onto g ps x m b e h k i = record {
  asked = h.asked;
  splits = onto h.splits (split_at x m) b;
  parts = ap (λ qs. onto qs (split_at x m) b) h.parts ∙ append_assoc h.asked h.splits (record { atom = split_at x m; held = b } ∷ []);
  is_asked = h.is_asked;
  are_splits = All-push (IsSplit g.types) h.splits (record { atom = split_at x m; held = b }) h.are_splits (record { var = x; bound = m; whole_type = i; atom = refl });
  at_end = inr (e, sym (end_same g ps h) ∙ k);
}

-- ---- The comparisons of a path

agrees_first : (s : Env) (qs ss : List Taken) → Agrees s (qs ++ ss) → Agrees s qs
agrees_first s [] ss h = tt
agrees_first s (q ∷ qs) ss h = (h.0, agrees_first s qs ss h.1)

pub agrees_asked : (g : Goal) (s : Env) (ps : List Taken) (h : IsPath g ps) → Agrees s ps → Agrees s h.asked
agrees_asked g s ps h a = agrees_first s h.asked h.splits (subst (Agrees s) h.parts a)
