-- For the proofs of other crates: predicates on all elements of a list, of acts one after the
-- other, and of the block that an `if` takes.
use Rattle.std.proofs.Common.{◌<◌, ℕ, arith, Bool, true, false, cond, List, [], ◌∷◌, ◌++◌, length}
use Prim.Native.Nat.{zero, suc}
use Rattle.heylo_formula.specs.State.{Env}
use Rattle.heylo_formula.specs.Choices.{Choices}
use Rattle.heylo_formula.specs.Meaning.{holds}
use Rattle.heyvl_acts.specs.Acts.{Act, Acts, Arms, TypedProcedure, join, procedure_at}
use Rattle.heyvl_acts.specs.Matching.{taken}
use Rattle.heyvl_acts.specs.Places.{in_order, inside, inside_arms}
use Rattle.heyvl_acts.specs.Rules.{Each}

pub each_first : {A : Type 0} (P : A → Type 0) (xs ys : List A) → Each P (xs ++ ys) → Each P xs
each_first P [] ys h = tt
each_first P (x ∷ xs) ys h = (h.0, each_first P xs ys h.1)

pub each_second : {A : Type 0} (P : A → Type 0) (xs ys : List A) → Each P (xs ++ ys) → Each P ys
each_second P [] ys h = h
each_second P (x ∷ xs) ys h = each_second P xs ys h.1

pub each_append : {A : Type 0} (P : A → Type 0) (xs ys : List A) → Each P xs → Each P ys → Each P (xs ++ ys)
each_append P [] ys h k = k
each_append P (x ∷ xs) ys h k = (h.0, each_append P xs ys h.1 k)

pub each_two : {A : Type 0} (P Q : A → Type 0) (xs : List A) → Each P xs → Each Q xs → Each (λ x. P x × Q x) xs
each_two P Q [] h k = tt
each_two P Q (x ∷ xs) h k = ((h.0, k.0), each_two P Q xs h.1 k.1)

-- A procedure of the file, by its number.
pub each_at : (P : TypedProcedure → Type 0) (ps : List TypedProcedure) (p : ℕ) → Each P ps → p < length ps → P (procedure_at ps p)
each_at P [] p h lt = absurd (omega (arith, lt))
each_at P (q ∷ ps) zero h lt = h.0
each_at P (q ∷ ps) (suc p) h lt = each_at P ps p h.1 (omega (arith, lt))

pub each_join : (P : Act → Type 0) (a b : Acts) → Each P (in_order a) → Each P (in_order b) → Each P (in_order (join a b))
each_join P Acts.done b h k = k
each_join P (Acts.next a rest) b h k = (h.0, each_append P (inside a) (in_order (join rest b)) (each_first P (inside a) (in_order rest) h.1) (each_join P rest b (each_second P (inside a) (in_order rest) h.1) k))

pub each_taken : (P : Act → Type 0) (arms : Arms) (e : Acts) (s : Env) → Each P (inside_arms arms) → Each P (in_order e) → Each P (in_order (taken arms e s))
each_taken P Arms.no_arm e s h k = k
each_taken P (Arms.arm g b more) e s h k = go (holds g s Choices.stop) (each_taken P more e s (each_second P (in_order b) (inside_arms more) h) k)
  where
    go : (t : Bool) → Each P (in_order (taken more e s)) → Each P (in_order (cond t b (taken more e s)))
    go true i = each_first P (in_order b) (inside_arms more) h
    go false i = i
