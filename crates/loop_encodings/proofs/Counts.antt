-- The encoding has the counted number of statements, and few fresh variables.
use Rattle.std.proofs.Common.{◌≡◌, ◌≤◌, ◌+◌, ◌*◌, ℕ, refl, sym, ap, ◌∙◌, arith, Bool, List, [], ◌∷◌, length}
use Rattle.std.proofs.lemmas.List.{length-append, length-map}
use Rattle.std.proofs.Math.Nat.{suc-mul}
use Prim.Native.Nat.{zero, suc}
use Rattle.heyvl_places.specs.declared.spans.Span.{Span}
use Rattle.heylo_formula.specs.Formula.{Form, Cond, Term}
use Rattle.heylo_formula.specs.Shifts.{shifted}
use Rattle.heylo_formula.specs.Typing.{Types}
use Rattle.heylo_formula.specs.declared.types.Ty.{Ty}
use Rattle.heyvl_acts.specs.Acts.{Head, Act, Acts, Arms, TypedProcedure, Variable, join, procedure_at, type_list, types_of}
use Rattle.heyvl_acts.specs.Count.{count_of, count_of_act, count_of_arms}
use Rattle.heyvl_acts.specs.ModifiedVariables.{modified}
use Rattle.k_induction.specs.Copies.{copies, may, must}
use Rattle.loop_encodings.specs.Encoding.{any_block, encoded, encoded_act, encoded_arms, encoded_call, encoded_loop, gets, havocs, sets, tested}
use Rattle.loop_encodings.specs.Fresh.{fresh, fresh_of_act, fresh_of_arms}
use Rattle.loop_encodings.specs.internal.Ready.{AreReady, AreReadyArms, IsReady}

count_join : (a b : Acts) → count_of (join a b) ≡ count_of a + count_of b
count_join Acts.done b = omega arith
count_join (Acts.next a more) b = let h = count_join more b in omega (arith, h)

count_sets : (span : Span) (m : ℕ) (es : List Term) (rest : Acts) → count_of (sets span m es rest) ≡ length es + count_of rest
count_sets span m [] rest = omega arith
count_sets span m (e ∷ es) rest = let h = count_sets span (suc m) es rest in omega (arith, h)

count_any : (up : Bool) (span : Span) (m : ℕ) (ts : List Ty) (rest : Acts) → count_of (any_block up span m ts rest) ≡ length ts + count_of rest
count_any up span m [] rest = omega arith
count_any up span m (t ∷ ts) rest = let h = count_any up span (suc m) ts rest in omega (arith, h)

count_gets : (span : Span) (xs : List ℕ) (ts : List Ty) (m : ℕ) → length xs ≡ length ts → count_of (gets span xs ts m) ≡ length xs
count_gets span [] ts m e = refl
count_gets span (x ∷ xs) [] m e = absurd (omega (arith, e))
count_gets span (x ∷ xs) (t ∷ ts) m e = let h = count_gets span xs ts (suc m) (omega (arith, e)) in omega (arith, h)

count_havocs : (up : Bool) (span : Span) (types : Types) (xs : List ℕ) (rest : Acts) → count_of (havocs up span types xs rest) ≡ length xs + count_of rest
count_havocs up span types [] rest = omega arith
count_havocs up span types (x ∷ xs) rest = let h = count_havocs up span types xs rest in omega (arith, h)

count_copies : (up : Bool) (span : Span) (g : Cond) (inv : Form) (b : Acts) (k : ℕ) → 1 ≤ k → count_of (copies up span g inv b k) ≡ k * (count_of b + 2)
count_copies up span g inv b zero le = absurd (omega (arith, le))
count_copies up span g inv b (suc zero) le = count_join b _ ∙ omega arith
count_copies up span g inv b (suc (suc n)) le =
    let h = count_copies up span g inv b (suc n) (omega arith) in
    let j = suc-mul (suc n) (count_of b + 2) in
    count_join b _ ∙ omega (arith, h, j)

count_loop : (up : Bool) (types : Types) (h : Head) (ms : List ℕ) (b : Acts) → 1 ≤ h.k → count_of (encoded_loop up types h ms b) ≡ 4 + (length ms + h.k * (count_of b + 2))
count_loop up types h ms b le = let e = count_havocs up h.span types ms (tested up h b) in let c = count_copies up h.span h.guard h.inv b h.k le in omega (arith, e, c)

count_call : (up : Bool) (span : Span) (m : ℕ) (xs : List ℕ) (q : TypedProcedure) (es : List Term) → length xs ≡ length q.outputs → count_of (encoded_call up span m xs q es) ≡ 3 + (length es + (length xs + length xs))
count_call up span m xs q es e =
    let t : length (type_list q.outputs) ≡ length q.outputs = length-map q.outputs (λ (v : Variable). v.ty) in
    let g = count_gets span xs (type_list q.outputs) (m + length q.inputs) (e ∙ sym t) in
    let a = count_any up span (m + length q.inputs) (type_list q.outputs) (Acts.next (Act.validate up span) (Acts.next (Act.check (may up) (shifted m q.post) span) (gets span xs (type_list q.outputs) (m + length q.inputs)))) in
    let s = count_sets span m es (Acts.next (Act.check (must up) (shifted m q.pre) span) (any_block up span (m + length q.inputs) (type_list q.outputs) (Acts.next (Act.validate up span) (Acts.next (Act.check (may up) (shifted m q.post) span) (gets span xs (type_list q.outputs) (m + length q.inputs)))))) in
    omega (arith, e, t, g, a, s)

module _ (ps : List TypedProcedure) (p : TypedProcedure) where
  mutual
    count_act : (a : Act) (m : ℕ) → IsReady ps p a → count_of (encoded_act ps p m a) ≡ count_of_act a
    count_act (Act.set x t span) m h = refl
    count_act (Act.draw x qs span) m h = refl
    count_act (Act.toss x f span) m h = refl
    count_act (Act.any x up ty span) m h = refl
    count_act (Act.reward f span) m h = refl
    count_act (Act.ifs arms e span) m h = let a = count_arms arms m h.0 in let b = counted e (m + length (fresh_of_arms ps arms)) h.1 in omega (arith, a, b)
    count_act (Act.pick up a b span) m h = let c = counted a m h.0 in let d = counted b (m + length (fresh ps a)) h.1 in omega (arith, c, d)
    count_act (Act.check kind f span) m h = refl
    count_act (Act.validate co span) m h = refl
    count_act (Act.loop k b) m h = count_loop p.co (types_of p) k (modified k.scope b) (encoded ps p m b) h.0.0 ∙ ap (λ n. 4 + (length (modified k.scope b) + k.k * (n + 2))) (counted b m h.1)
    count_act (Act.call xs q es span) m h = count_call p.co span m xs (procedure_at ps q) es h.targets

    pub counted : (acts : Acts) (m : ℕ) → AreReady ps p acts → count_of (encoded ps p m acts) ≡ count_of acts
    counted Acts.done m h = refl
    counted (Acts.next a rest) m h = let c = count_act a m h.0 in let d = counted rest (m + length (fresh_of_act ps a)) h.1 in let j = count_join (encoded_act ps p m a) (encoded ps p (m + length (fresh_of_act ps a)) rest) in omega (arith, c, d, j)

    count_arms : (arms : Arms) (m : ℕ) → AreReadyArms ps p arms → count_of_arms (encoded_arms ps p m arms) ≡ count_of_arms arms
    count_arms Arms.no_arm m h = refl
    count_arms (Arms.arm g b more) m h = let c = counted b m h.0 in let d = count_arms more (m + length (fresh ps b)) h.1 in omega (arith, c, d)

  -- ---- Few fresh variables

  more_copies : (k n : ℕ) → 1 ≤ k → n ≤ k * (n + 2)
  more_copies zero n le = absurd (omega (arith, le))
  more_copies (suc k) n le = let e = suc-mul k (n + 2) in omega (arith, e)

  mutual
    few_act : (a : Act) → IsReady ps p a → length (fresh_of_act ps a) ≤ count_of_act a
    few_act (Act.set x t span) h = omega arith
    few_act (Act.draw x qs span) h = omega arith
    few_act (Act.toss x f span) h = omega arith
    few_act (Act.any x up ty span) h = omega arith
    few_act (Act.reward f span) h = omega arith
    few_act (Act.ifs arms e span) h = let a = few_arms arms h.0 in let b = few e h.1 in let l = length-append (fresh_of_arms ps arms) (fresh ps e) in omega (arith, a, b, l)
    few_act (Act.pick up a b span) h = let c = few a h.0 in let d = few b h.1 in let l = length-append (fresh ps a) (fresh ps b) in omega (arith, c, d, l)
    few_act (Act.check kind f span) h = omega arith
    few_act (Act.validate co span) h = omega arith
    few_act (Act.loop k b) h = let c = few b h.1 in let d = more_copies k.k (count_of b) h.0.0 in omega (arith, c, d)
    few_act (Act.call xs q es span) h = let l = length-append (procedure_at ps q).inputs (procedure_at ps q).outputs in let a = h.arguments in let t = h.targets in omega (arith, l, a, t)

    pub few : (acts : Acts) → AreReady ps p acts → length (fresh ps acts) ≤ count_of acts
    few Acts.done h = omega arith
    few (Acts.next a rest) h = let c = few_act a h.0 in let d = few rest h.1 in let l = length-append (fresh_of_act ps a) (fresh ps rest) in omega (arith, c, d, l)

    few_arms : (arms : Arms) → AreReadyArms ps p arms → length (fresh_of_arms ps arms) ≤ count_of_arms arms
    few_arms Arms.no_arm h = omega arith
    few_arms (Arms.arm g b more) h = let c = few b h.0 in let d = few_arms more h.1 in let l = length-append (fresh ps b) (fresh_of_arms ps more) in omega (arith, c, d, l)
