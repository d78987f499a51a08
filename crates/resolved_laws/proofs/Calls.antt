-- The callable procedures of a file without findings are procedures of the file.
use Rattle.heyvl_acts.specs.Acts.{TypedProcedure, procedure_at}
use Rattle.heyvl_acts.specs.Rules.{Each}
use Rattle.heyvl_syntax.specs.Procedures.{Procedure}
use Rattle.heyvl_syntax.specs.declared.procedures.Param.{Param}
use Rattle.static_rules.proofs.exported.Findings.{all_kept, back_none, front_none}
use Rattle.resolved_laws.proofs.Heads.{IsClean}
use Rattle.resolved_laws.proofs.InOrder.{each_back}
use Rattle.static_rules.specs.Files.{parameters_findings, typed}
use Rattle.std.proofs.Common.{Bool, List, None, Some, [], ap, append_assoc, arith, false, inl, inr, length, length-append, refl, subst, suc, sym, true, ◌++◌, ◌<◌, ◌∙◌, ◌∷◌, ◌≡◌, ◌⊎◌, ℕ}
use Rattle.std.proofs.lemmas.List.{length-map}
use Rattle.std.specs.Option.{is_none}
use Rattle.std.specs.Prelude.{if◌then◌else◌, map}
use Rattle.std.specs.Str.{bytes_eq}
use Rattle.typed_expressions.proofs.exported.TypedMeanings.{some_is}
use Rattle.typed_expressions.specs.Scopes.{Scope, is_visible}
use Rattle.typed_expressions.specs.Signatures.{Called, Signature, called, find_call, signature, with_signature, with_signatures}
use Rattle.typed_expressions.specs.Table.{declarable}

-- The signature is that of a procedure of the file, by its index.
pub record IsSignature (ps : List Procedure) (t : Signature) : Type 0 where
  pub before : List Procedure
  pub procedure : Procedure
  pub behind : List Procedure
  pub whole : ps ≡ before ++ (procedure ∷ behind)
  pub is : signature (length before) procedure ≡ t

found_with : (x : List ℕ) (s : Signature) (c : Called) (y : List ℕ) (t : Signature) → find_call (with_signature x s c) y ≡ Some t → (s ≡ t) ⊎ (find_call c y ≡ Some t)
found_with x s [] y t e = go (bytes_eq y x) e
  where
    go : (b : Bool) → (if b then Some s else None) ≡ Some t → (s ≡ t) ⊎ (None ≡ Some t)
    go true h = inl (some_is s t h)
    go false h = inr h
found_with x s (f ∷ fs) y t e = go (bytes_eq x f.0) (found_with x s fs y t) e
  where
    later : (b : Bool) → (find_call (with_signature x s fs) y ≡ Some t → (s ≡ t) ⊎ (find_call fs y ≡ Some t)) → (if b then Some f.1 else find_call (with_signature x s fs) y) ≡ Some t → (s ≡ t) ⊎ ((if b then Some f.1 else find_call fs y) ≡ Some t)
    later true r h = inr h
    later false r h = r h

    go : (b : Bool) → (find_call (with_signature x s fs) y ≡ Some t → (s ≡ t) ⊎ (find_call fs y ≡ Some t)) → find_call (if b then f ∷ fs else f ∷ with_signature x s fs) y ≡ Some t → (s ≡ t) ⊎ ((if bytes_eq y f.0 then Some f.1 else find_call fs y) ≡ Some t)
    go true r h = inr h
    go false r h = later (bytes_eq y f.0) r h

-- All callable procedures are procedures of the file.
abbrev AreSignatures : List Procedure → Called → Type 0
AreSignatures ps c = (y : List ℕ) (t : Signature) → find_call c y ≡ Some t → IsSignature ps t

with_signatures_are : (ps before rest : List Procedure) (n : ℕ) (c : Called) → ps ≡ before ++ rest → n ≡ length before → AreSignatures ps c → AreSignatures ps (with_signatures n c rest)
with_signatures_are ps before [] n c w l h = h
with_signatures_are ps before (p ∷ rest) n c w l h =
    with_signatures_are ps (before ++ (p ∷ [])) rest (suc n) (with_signature p.name (signature n p) c) (w ∙ sym (append_assoc before (p ∷ []) rest)) (omega (arith, l, length-append before (p ∷ [])))
    (λ y t e. go y t (found_with p.name (signature n p) c y t e))
  where
    go : (y : List ℕ) (t : Signature) → (signature n p ≡ t) ⊎ (find_call c y ≡ Some t) → IsSignature ps t
    go y t (inl e) = record { before = before; procedure = p; behind = rest; whole = w; is = ap (λ k. signature k p) (sym l) ∙ e }
    go y t (inr e) = h y t e

called_are : (ps : List Procedure) → AreSignatures ps (called ps)
called_are ps = with_signatures_are ps [] ps 0 [] refl refl (λ y t e. absurd (cc))

-- ---- Called procedures

-- The signature is that of a typed procedure without findings.
pub record IsCallee (c : Called) (rs : List TypedProcedure) (t : Signature) : Type 0 where
  pub procedure : Procedure
  pub clean : IsClean c procedure
  pub there : t.number < length rs
  pub typed_is : procedure_at rs t.number ≡ typed c procedure
  pub is : signature t.number procedure ≡ t

abbrev pub AreCallees : Called → List TypedProcedure → Type 0
AreCallees c rs = (y : List ℕ) (t : Signature) → find_call c y ≡ Some t → IsCallee c rs t

procedure_there : (c : Called) (before : List Procedure) (p : Procedure) (behind : List Procedure) → procedure_at (map (typed c) (before ++ (p ∷ behind))) (length before) ≡ typed c p
procedure_there c [] p behind = refl
procedure_there c (q ∷ before) p behind = procedure_there c before p behind

number_is : (n : ℕ) (p : Procedure) (t : Signature) → signature n p ≡ t → n ≡ t.number
number_is n p t e = ap (λ t. t.number) e

callee : (c : Called) (ps : List Procedure) (t : Signature) → Each (IsClean c) ps → IsSignature ps t → IsCallee c (map (typed c) ps) t
callee c ps t k s =
    let n = number_is (length s.before) s.procedure t s.is in
    record {
      procedure = s.procedure;
      clean = (each_back (IsClean c) s.before (s.procedure ∷ s.behind) (subst (Each (IsClean c)) s.whole k)).0;
      there = let w = ap length s.whole in omega (arith, length-map ps (typed c), n, w, length-append s.before (s.procedure ∷ s.behind));
      typed_is = rw (← n, s.whole) (procedure_there c s.before s.procedure s.behind);
      is = ap (λ k. signature k s.procedure) (sym n) ∙ s.is;
    }

pub callees : (ps : List Procedure) → Each (IsClean (called ps)) ps → AreCallees (called ps) (map (typed (called ps)) ps)
callees ps k y t e = callee (called ps) ps t k (called_are ps y t e)

-- ---- Parameters

-- The type of a parameter is one that a variable may have.
abbrev pub IsDeclared : Param → Type 0
IsDeclared q = is_none (declarable q.ty) ≡ false

pub parameters_declared : (n : ℕ) (sc : Scope) (qs : List Param) → parameters_findings n sc qs ≡ [] → Each IsDeclared qs
parameters_declared n sc [] e = tt
parameters_declared n sc (q ∷ qs) e =
    ((all_kept q.span ((11, is_visible sc q.name) ∷ (12, is_none (declarable q.ty)) ∷ []) (front_none _ _ e)).1.0, parameters_declared (suc n) _ qs (back_none _ _ e))
