-- The first configuration of a program satisfies the condition on configurations.
use Rattle.std.proofs.Common.{◌≡◌, ℕ, refl, ap, sym, subst, ◌∙◌, List, [], length, replicate, reverse}
use Rattle.std.proofs.lemmas.List.{length-replicate}
use Rattle.heyvl_num.specs.Value.{Value, zeroᵛ}
use Rattle.heylo_formula.specs.declared.values.Val.{Val}
use Rattle.heyvl_acts.specs.Acts.{TypedProcedure, acts_in, procedure_at}
use Rattle.run_machine.specs.Bound.{IsState}
use Rattle.run_machine.specs.ConfigConditions.{AreLists, IsConfig, ReachesPrograms}
use Rattle.run_machine.specs.Names.{Numbered, Lists, numbered}
use Rattle.run_machine.specs.StoredStep.{stored_begin}
use Rattle.run_machine.proofs.Procedures.{text_stands}
use Rattle.run_machine.proofs.RuledActs.{program_runs}
use Rattle.run_machine.proofs.RunPlaces.{block_belongs}

pub first_config : (ps : List TypedProcedure) (p : ℕ) (s t : List Val) (is : List Numbered) (fs : List Lists) (v : Value) (ts : List ℕ) (made : ℕ) → ReachesPrograms ps p → IsState (procedure_at ps p) s → is ≡ numbered p 0 (acts_in (procedure_at ps p).body) → t ≡ s → fs ≡ [] → ts ≡ replicate (procedure_at ps p).loops 0 → IsConfig ps (record { procedure = p; items = is; state = t; frames = fs; reward = v; turns = ts; made = made })
first_config ps p s t is fs v ts made r st e f g h = record {
  running = p;
  lists = subst (λ l. AreLists ps p p l t (reverse fs)) (sym e) (subst (λ u. AreLists ps p p (numbered p 0 (acts_in (procedure_at ps p).body)) u (reverse fs)) (sym f) (subst (λ gs. AreLists ps p p (numbered p 0 (acts_in (procedure_at ps p).body)) s (reverse gs)) (sym g) (refl, (block_belongs ps p 0 (acts_in (procedure_at ps p).body) (text_stands ps p) (program_runs ps p r), st))));
  turns = ap length h ∙ length-replicate (procedure_at ps p).loops 0;
}

pub stored_config : (ps : List TypedProcedure) (p : ℕ) (s : List Val) → ReachesPrograms ps p → IsState (procedure_at ps p) s → IsConfig ps (stored_begin ps p s)
stored_config ps p s r st = first_config ps p s s (numbered p 0 (acts_in (procedure_at ps p).body)) [] zeroᵛ (replicate (procedure_at ps p).loops 0) 0 r st refl refl refl refl
