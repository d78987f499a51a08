-- The findings in a whole, from those in its parts.
use Rattle.typed_expressions.specs.Answers.{Gives, TellsFirst}
use Rattle.typed_expressions.specs.Findings.{Finding, first}
use Rattle.typed_expressions.specs.declared.stops.ResolveStop.{ResolveStop}
use Rattle.std.proofs.Common.{Err, List, Some, [], ap, refl, subst, sym, ◌++◌, ◌∙◌, ◌≡◌, ◌∷◌}

pub first_in : (xs ys : List Finding) (f : Finding) → first xs ≡ Some f → first (xs ++ ys) ≡ Some f
first_in [] ys f h = absurd (cc)
first_in (x ∷ xs) ys f h = h

-- The first part has no findings.
pub behind : (xs ys : List Finding) → xs ≡ [] → xs ++ ys ≡ ys
behind xs ys h = ap (λ zs. zs ++ ys) h

-- An error in the first part is one in the whole.
pub stops : {A B C D : Type 0} (v : A → C) (w : B → D) (e : ResolveStop) (xs ys : List Finding) (c : C) (d : D) → Gives v (Err e) xs c → Gives w (Err e) (xs ++ ys) d
stops v w (ResolveStop.Fault n s) xs ys c d h = first_in xs ys (n, s) h
stops v w (ResolveStop.Memory e) xs ys c d h = tt

-- An answer depends on the findings alone.
pub stops_at : {A B C D : Type 0} (v : A → C) (w : B → D) (e : ResolveStop) (xs ys : List Finding) (c : C) (d : D) → ys ≡ xs → Gives v (Err e) xs c → Gives w (Err e) ys d
stops_at v w (ResolveStop.Fault n s) xs ys c d i h = ap first i ∙ h
stops_at v w (ResolveStop.Memory e) xs ys c d i h = tt

pub tells_stop : {B D : Type 0} (w : B → D) (e : ResolveStop) (xs ys : List Finding) (d : D) → TellsFirst (Err e) xs → Gives w (Err e) (xs ++ ys) d
tells_stop w (ResolveStop.Fault n s) xs ys d h = first_in xs ys (n, s) h
tells_stop w (ResolveStop.Memory e) xs ys d h = tt
