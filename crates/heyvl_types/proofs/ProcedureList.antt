-- Procedures that are read one after the other.
use Rattle.heyvl_acts.specs.Acts.{TypedProcedure}
use Rattle.heyvl_syntax.specs.Procedures.{Procedure, procedure}
use Rattle.heyvl_syntax.specs.declared.procedures.Proc.{Proc}
use Rattle.heyvl_types.proofs.Earlier.{earlier_named}
use Rattle.static_rules.specs.Files.{file_findings, procedure_findings, procedures_findings, resolved, typed}
use Rattle.static_rules.specs.PartCounts.{HasFewParts, HaveFewParts}
use Rattle.heyvl_types.specs.internal.Earlier.{is_before}
use Rattle.std.proofs.Common.{Bool, Err, List, [], ap, append_assoc, arith, drop, get_or, length, map, refl, subst, suc, sym, take, zero, ◌+◌, ◌++◌, ◌<◌, ◌∙◌, ◌≡◌, ◌≤◌, ◌∷◌, ℕ}
use Rattle.std.proofs.Math.ListN.{get_or-map}
use Rattle.std.proofs.lemmas.List.{at_drop_more, drop_all, length-map, map-append, take_more}
use Rattle.std.specs.List.{list_any}
use Rattle.std.specs.Str.{bytes_eq}
use Rattle.typed_expressions.proofs.exported.Parts.{behind, stops, stops_at}
use Rattle.typed_expressions.specs.Answers.{Gives}
use Rattle.typed_expressions.specs.Findings.{Finding}
use Rattle.typed_expressions.specs.Signatures.{Called, called, find_call}
use Rattle.typed_expressions.specs.declared.stops.ResolveStop.{ResolveStop}

abbrev names : List Procedure → ℕ → List (List ℕ)
names ps k = map (λ p. p.name) (take k ps)

-- The procedures before `k` have been read.
pub record Reads (ps : List Procedure) (k n : ℕ) (made : List TypedProcedure) : Type 0 where
  pub number : n ≡ k
  pub found : file_findings ps ≡ procedures_findings (called ps) (names ps k) (drop k ps)
  pub same : resolved ps ≡ made ++ map (typed (called ps)) (drop k ps)

pub starts : (ps : List Procedure) → Reads ps 0 0 []
starts ps = record { number = refl; found = refl; same = refl }

-- The procedure at the index `k`, and whether an earlier one has its name.
pub record At (ps : List Procedure) (k : ℕ) (p : Procedure) (named : Bool) : Type 0 where
  pub inside : k < length ps
  pub here : p ≡ get_or ps k p
  pub asked : named ≡ list_any (bytes_eq p.name) (names ps k)

pub stands : (all : List Proc) (k n : ℕ) (proc : Proc) (named : Bool) → n ≡ k → k < length all → proc ≡ get_or all k proc → named ≡ is_before n (find_call (called (map procedure all)) proc.name) → At (map procedure all) k (procedure proc) named
stands all k n proc named e lt is h = record {
  inside = rw (length-map all procedure) lt;
  here = ap procedure is ∙ sym (get_or-map procedure all k proc);
  asked = h ∙ ap (λ i. is_before i (find_call (called (map procedure all)) proc.name)) e ∙ earlier_named proc.name k (map procedure all);
}

-- The procedure at an index has few parts if all have.
pub few_parts_at : (all : List Proc) (k : ℕ) (proc : Proc) → k < length all → proc ≡ get_or all k proc → HaveFewParts (map procedure all) → HasFewParts (procedure proc)
few_parts_at [] k proc lt is h = absurd (omega (arith, lt))
few_parts_at (x ∷ xs) zero proc lt is h = subst (λ p. HasFewParts (procedure p)) (sym is) h.0
few_parts_at (x ∷ xs) (suc k) proc lt is h = few_parts_at xs k proc (omega (arith, lt)) is h.1

next_found : (ps : List Procedure) (k : ℕ) (p : Procedure) (named : Bool) → At ps k p named → procedures_findings (called ps) (names ps k) (drop k ps) ≡ procedure_findings (called ps) named p ++ procedures_findings (called ps) (names ps (k + 1)) (drop (k + 1) ps)
next_found ps k p named a =
    at_drop_more (procedures_findings (called ps) (names ps k)) ps k p a.inside
    ∙ ap (λ q. procedure_findings (called ps) (list_any (bytes_eq q.name) (names ps k)) q ++ procedures_findings (called ps) (names ps k ++ q.name ∷ []) (drop (k + 1) ps)) (sym a.here)
    ∙ ap (λ b. procedure_findings (called ps) b p ++ procedures_findings (called ps) (names ps k ++ p.name ∷ []) (drop (k + 1) ps)) (sym a.asked)
    ∙ ap (λ l. procedure_findings (called ps) named p ++ procedures_findings (called ps) l (drop (k + 1) ps)) (sym (ap (map (λ q. q.name)) (take_more ps k p a.inside ∙ ap (λ q. take k ps ++ q ∷ []) (sym a.here)) ∙ map-append (λ q. q.name) (take k ps) (p ∷ [])))

pub goes_on : (ps : List Procedure) (k n m : ℕ) (made more : List TypedProcedure) (p : Procedure) (named : Bool) → Reads ps k n made → At ps k p named → procedure_findings (called ps) named p ≡ [] → m ≡ n + 1 → more ≡ made ++ typed (called ps) p ∷ [] → Reads ps (k + 1) m more
goes_on ps k n m made more p named r a none number list = record {
  number = number ∙ ap (λ i. i + 1) r.number;
  found = r.found ∙ next_found ps k p named a ∙ behind (procedure_findings (called ps) named p) _ none;
  same =
      r.same ∙ ap (λ l. made ++ l) (at_drop_more (map (typed (called ps))) ps k p a.inside ∙ ap (λ q. typed (called ps) q ∷ map (typed (called ps)) (drop (k + 1) ps)) (sym a.here))
      ∙ sym (append_assoc made (typed (called ps) p ∷ []) (map (typed (called ps)) (drop (k + 1) ps))) ∙ ap (λ l. l ++ map (typed (called ps)) (drop (k + 1) ps)) (sym list);
}

pub fails : {A B C D : Type 0} (v : A → B) (w : C → D) (b : B) (d : D) (ps : List Procedure) (k n : ℕ) (made : List TypedProcedure) (p : Procedure) (named : Bool) (s : ResolveStop) → Reads ps k n made → At ps k p named → Gives v (Err s) (procedure_findings (called ps) named p) b → Gives w (Err s) (file_findings ps) d
fails v w b d ps k n made p named s r a h = stops_at w w s (procedure_findings (called ps) named p ++ procedures_findings (called ps) (names ps (k + 1)) (drop (k + 1) ps)) (file_findings ps) d d (r.found ∙ next_found ps k p named a) (stops v w s (procedure_findings (called ps) named p) _ b d h)

nothing_behind : (xs : List TypedProcedure) → xs ++ [] ≡ xs
nothing_behind [] = refl
nothing_behind (x ∷ xs) = ap (λ ys. x ∷ ys) (nothing_behind xs)

pub ends : (ps : List Procedure) (k n : ℕ) (made : List TypedProcedure) → Reads ps k n made → length ps ≤ k → (file_findings ps ≡ []) × (made ≡ resolved ps)
ends ps k n made r over = (
  r.found ∙ ap (procedures_findings (called ps) (names ps k)) (drop_all k ps over),
  sym (r.same ∙ ap (λ l. made ++ map (typed (called ps)) l) (drop_all k ps over) ∙ nothing_behind made),
)
