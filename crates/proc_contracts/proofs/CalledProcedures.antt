-- The procedures that acts call, and those that the bodies of a file call.
use Rattle.std.proofs.Common.{◌≡◌, ℕ, ◌||◌, ◌<◌, ◌==◌, refl, ap, sym, subst, ◌∙◌, arith, map, List, [], ◌∷◌, length, get_or}
use Prim.Native.Nat.{zero, suc}
use Rattle.std.specs.List.{All}
use Rattle.std.proofs.lemmas.List.{length-map}
use Rattle.std.proofs.lemmas.List.Elements.{All-nil, All-cons}
use Rattle.heyvl_acts.specs.PlainActs.{procedure_of, procedures_of}
use Rattle.heyvl_acts.specs.Acts.{Act, TypedProcedure, acts_in, procedure_at}
use Rattle.heyvl_acts.specs.Places.{in_order}
use Rattle.heyvl_acts.specs.Program.{calls}
use Rattle.heyvl_acts.specs.Rules.{Each, IsTypedAct, MeetsAllRules, MeetsRules}
use Rattle.heyvl_acts.specs.Visible.{among}
use Rattle.heyvl_acts.specs.declared.typed_trees.TProc.{TProc}
use Rattle.heyvl_acts.specs.declared.typed_trees.Typed.{Typed}
use Rattle.proc_contracts.specs.internal.CallWalk.{AreCalled}
use Rattle.proc_contracts.specs.internal.Callees.{callees}

-- `callees` lists what `calls` finds.
pub called_are_calls : (q : ℕ) (acts : List Act) → among (callees acts) q ≡ calls q acts
called_are_calls q [] = refl
called_are_calls q (Act.set x t span ∷ rest) = called_are_calls q rest
called_are_calls q (Act.draw x ps span ∷ rest) = called_are_calls q rest
called_are_calls q (Act.toss x f span ∷ rest) = called_are_calls q rest
called_are_calls q (Act.any x up ty span ∷ rest) = called_are_calls q rest
called_are_calls q (Act.reward f span ∷ rest) = called_are_calls q rest
called_are_calls q (Act.ifs arms e span ∷ rest) = called_are_calls q rest
called_are_calls q (Act.pick up a b span ∷ rest) = called_are_calls q rest
called_are_calls q (Act.check kind f span ∷ rest) = called_are_calls q rest
called_are_calls q (Act.validate co span ∷ rest) = called_are_calls q rest
called_are_calls q (Act.loop h b ∷ rest) = called_are_calls q rest
called_are_calls q (Act.call xs p es span ∷ rest) = ap (λ b. (p == q) || b) (called_are_calls q rest)

-- Well-typed acts call procedures that exist.
pub called_are_there : (ps : List TypedProcedure) (p : TypedProcedure) (acts : List Act) → Each (IsTypedAct ps p) acts → All (λ q. q < length ps) (callees acts)
called_are_there ps p [] h = All-nil (λ q. q < length ps)
called_are_there ps p (Act.set x t span ∷ rest) h = called_are_there ps p rest h.1
called_are_there ps p (Act.draw x qs span ∷ rest) h = called_are_there ps p rest h.1
called_are_there ps p (Act.toss x f span ∷ rest) h = called_are_there ps p rest h.1
called_are_there ps p (Act.any x up ty span ∷ rest) h = called_are_there ps p rest h.1
called_are_there ps p (Act.reward f span ∷ rest) h = called_are_there ps p rest h.1
called_are_there ps p (Act.ifs arms e span ∷ rest) h = called_are_there ps p rest h.1
called_are_there ps p (Act.pick up a b span ∷ rest) h = called_are_there ps p rest h.1
called_are_there ps p (Act.check kind f span ∷ rest) h = called_are_there ps p rest h.1
called_are_there ps p (Act.validate co span ∷ rest) h = called_are_there ps p rest h.1
called_are_there ps p (Act.loop h b ∷ rest) m = called_are_there ps p rest m.1
called_are_there ps p (Act.call xs q es span ∷ rest) h = All-cons (λ q. q < length ps) q (callees rest) h.0.there (called_are_there ps p rest h.1)

-- ---- The procedures of a file

pub procedure_is : (procs : List TProc) (p : ℕ) (x : TProc) → p < length procs → x ≡ get_or procs p x → procedure_at (map procedure_of procs) p ≡ procedure_of x
procedure_is [] p x lt is = absurd (omega (arith, lt))
procedure_is (y ∷ rest) zero x lt is = ap procedure_of (sym is)
procedure_is (y ∷ rest) (suc p) x lt is = procedure_is rest p x (omega (arith, lt)) is

each_procedure : (ps rest : List TypedProcedure) (p : ℕ) → Each (MeetsRules ps) rest → p < length rest → MeetsRules ps (procedure_at rest p)
each_procedure ps [] p h lt = absurd (omega (arith, lt))
each_procedure ps (y ∷ rest) zero h lt = h.0
each_procedure ps (y ∷ rest) (suc p) h lt = each_procedure ps rest p h.1 (omega (arith, lt))

-- The procedures that a body calls, in a file that satisfies the rules.
pub are_called : (typed : Typed) (p : ℕ) (x : TProc) (called : List ℕ) → MeetsAllRules typed → p < length typed.procs.items → x ≡ get_or typed.procs.items p x → called ≡ callees (in_order (acts_in (procedure_of x).body)) → AreCalled (procedures_of typed) p called
are_called typed p x called rules lt is h = record {
  each = λ q. ap (λ l. among l q) here ∙ called_are_calls q (in_order (acts_in (procedure_at (procedures_of typed) p).body));
  below = subst (λ l. All (λ q. q < length (procedures_of typed)) l) (sym here) (called_are_there (procedures_of typed) (procedure_at (procedures_of typed) p) (in_order (acts_in (procedure_at (procedures_of typed) p).body)) (each_procedure (procedures_of typed) (procedures_of typed) p rules.each (subst (λ n. p < n) (sym (length-map typed.procs.items procedure_of)) lt)).typed);
}
  where
    here : called ≡ callees (in_order (acts_in (procedure_at (procedures_of typed) p).body))
    here = h ∙ ap (λ (y : TypedProcedure). callees (in_order (acts_in y.body))) (sym (procedure_is typed.procs.items p x lt is))
