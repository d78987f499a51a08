-- A path and one more answer.
use Rattle.std.proofs.Common.{◌≡◌, List, [], ◌∷◌, subst, Bool, true, false}
use Rattle.heylo_formula.specs.State.{Env}
use Rattle.linear_form.specs.Query.{Query, Atom, Taken, holds_at, onto}
use Rattle.linear_form.specs.Query.Query.{done, bits, ask}
use Rattle.linear_form.specs.Paths.{walk, Path, Agrees}

pub path_onto : {A : Type 0} (t : Query A) (ps : List Taken) (q : Atom) (y n : Query A) (b : Bool) → Path t ps → walk t ps ≡ ask q y n → Path t (onto ps q b)
path_onto (done a) _ q y n b (Path.start _) e = absurd (cc)
path_onto bits _ q y n b (Path.start _) e = absurd (cc)
path_onto {A} (ask r y' n') _ q y n b (Path.start _) e = go b
  where
    go : (b : Bool) → Path (ask r y' n') (onto [] q b)
    go true = let k : r ≡ q = cc in subst (λ a. Path (ask r y' n') (onto [] a true)) k (Path.yes r y' n' [] (Path.start y'))
    go false = let k : r ≡ q = cc in subst (λ a. Path (ask r y' n') (onto [] a false)) k (Path.no r y' n' [] (Path.start n'))
path_onto (ask r y' n') _ q y n b (Path.yes _ _ _ ps p) e = Path.yes r y' n' (onto ps q b) (path_onto y' ps q y n b p e)
path_onto (ask r y' n') _ q y n b (Path.no _ _ _ ps p) e = Path.no r y' n' (onto ps q b) (path_onto n' ps q y n b p e)

pub agrees_onto : (s : Env) (ps : List Taken) (q : Atom) (b : Bool) → Agrees s ps → holds_at q s ≡ b → Agrees s (onto ps q b)
agrees_onto s [] q b h e = (e, tt)
agrees_onto s (p ∷ ps) q b h e = (h.0, agrees_onto s ps q b h.1 e)
