-- The answer on a whole, from the answers on its parts.
use Rattle.heyvl_places.specs.declared.spans.Span.{Span}
use Rattle.std.proofs.Common.{Bool, Err, List, Some, [], ap, false, refl, true, ◌++◌, ◌∙◌, ◌∷◌, ◌≡◌, ℕ}
use Rattle.typed_expressions.specs.Answers.{Gives}
use Rattle.typed_expressions.specs.Findings.{Finding, at, first}
use Rattle.typed_expressions.specs.declared.stops.ResolveStop.{ResolveStop}

-- Two rules of a node, of which the second is the first broken one.
pub second_broken : (s : Span) (m n : ℕ) (a b : Bool) → at s ((m, a) ∷ []) ≡ [] → b ≡ true → first (at s ((m, a) ∷ (n, b) ∷ [])) ≡ Some (n, s)
second_broken s m n true b e h = absurd (cc)
second_broken s m n false true e h = refl
second_broken s m n false false e h = absurd (cc)

-- The first finding is in the first part.
pub first_of_first : (xs ys : List Finding) (f : Finding) → first xs ≡ Some f → first (xs ++ ys) ≡ Some f
first_of_first [] ys f e = absurd (cc)
first_of_first (x ∷ xs) ys f e = e

-- The first part has no findings, and the first one is in the second part.
pub first_of_second : (xs ys : List Finding) (f : Finding) → xs ≡ [] → first ys ≡ Some f → first (xs ++ ys) ≡ Some f
first_of_second xs ys f e h = ap (λ r. first (r ++ ys)) e ∙ h

-- An answer that is an error in the first part, or in the second part if the first has no findings.
pub stops_first : {A B C D : Type 0} (v : A → B) (w : C → D) (e : ResolveStop) (xs ys : List Finding) (b : B) (d : D) → Gives v (Err e) xs b → Gives w (Err e) (xs ++ ys) d
stops_first v w (ResolveStop.Fault n s) xs ys b d h = first_of_first xs ys (n, s) h
stops_first v w (ResolveStop.Memory e) xs ys b d h = tt

pub stops_second : {A B C D : Type 0} (v : A → B) (w : C → D) (e : ResolveStop) (xs ys : List Finding) (b : B) (d : D) → xs ≡ [] → Gives v (Err e) ys b → Gives w (Err e) (xs ++ ys) d
stops_second v w (ResolveStop.Fault n s) xs ys b d none h = first_of_second xs ys (n, s) none h
stops_second v w (ResolveStop.Memory e) xs ys b d none h = tt
