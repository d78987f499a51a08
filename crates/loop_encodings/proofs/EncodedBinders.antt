-- An encoding gives any value only to the procedure's variables and the fresh ones.
use Rattle.std.proofs.Common.{◌≤◌, ◌<◌, ◌+◌, ℕ, arith, Bool, true, false, List, [], ◌∷◌, ◌++◌, length}
use Rattle.std.specs.Prelude.{if◌then◌else◌}
use Rattle.std.proofs.lemmas.List.{length-append, length-map}
use Prim.Native.Nat.{zero, suc}
use Rattle.heyvl_places.specs.declared.spans.Span.{Span}
use Rattle.heylo_formula.specs.Formula.{Term}
use Rattle.heylo_formula.specs.Typing.{Types}
use Rattle.heylo_formula.specs.declared.types.Ty.{Ty}
use Rattle.heyvl_acts.specs.Acts.{Head, Act, Acts, Arms, TypedProcedure, Variable, acts_in, join, procedure_at, type_list, types_of, variables}
use Rattle.heyvl_acts.specs.ModifiedVariables.{is_target_of, modified}
use Rattle.heyvl_acts.specs.Places.{in_order, inside, inside_arms}
use Rattle.heyvl_acts.specs.Rules.{Each, GrowBelow, MeetsRules}
use Rattle.k_induction.specs.Copies.{copies}
use Rattle.vp_generator.specs.Scopes.{AnysAreBelow, AnysAreBelow_in}
use Rattle.loop_encodings.specs.Encoding.{all_variables, any_block, encoded, encoded_act, encoded_arms, encoding, gets, havocs, sets, tested}
use Rattle.loop_encodings.specs.EncodingLaws.{EncodingBindsItsVariables}
use Rattle.loop_encodings.specs.Fresh.{fresh, fresh_of_act, fresh_of_arms}
use Rattle.heyvl_acts.proofs.exported.Each.{each_first, each_second}
use Rattle.loop_encodings.proofs.FromRules.{IsFine, all_fine, each_procedure}

-- ---- The parts of an encoding

module _ (n : ℕ) where
  join_below : (a b : Acts) → AnysAreBelow n a → AnysAreBelow n b → AnysAreBelow n (join a b)
  join_below Acts.done b h k = k
  join_below (Acts.next a rest) b h k = (h.0, join_below rest b h.1 k)

  sets_below : (span : Span) (m : ℕ) (es : List Term) (r : Acts) → AnysAreBelow n r → AnysAreBelow n (sets span m es r)
  sets_below span m [] r h = h
  sets_below span m (e ∷ es) r h = (tt, sets_below span (suc m) es r h)

  any_below : (up : Bool) (span : Span) (m : ℕ) (ts : List Ty) (r : Acts) → m + length ts ≤ n → AnysAreBelow n r → AnysAreBelow n (any_block up span m ts r)
  any_below up span m [] r l h = h
  any_below up span m (t ∷ ts) r l h = (omega (arith, l), any_below up span (suc m) ts r (omega (arith, l)) h)

  gets_below : (span : Span) (xs : List ℕ) (ts : List Ty) (m : ℕ) → AnysAreBelow n (gets span xs ts m)
  gets_below span [] ts m = tt
  gets_below span (x ∷ xs) [] m = tt
  gets_below span (x ∷ xs) (t ∷ ts) m = (tt, gets_below span xs ts (suc m))

  havocs_below : (up : Bool) (span : Span) (types : Types) (i from : ℕ) (scope : List ℕ) (b r : Acts) → i ≤ n → GrowBelow from i scope → AnysAreBelow n r → AnysAreBelow n (havocs up span types (modified scope b) r)
  havocs_below up span types i from [] b r l g h = h
  havocs_below up span types i from (x ∷ xs) b r l g h = elim (is_target_of x b) as (λ t. AnysAreBelow n (havocs up span types (if t then x ∷ modified xs b else modified xs b) r)) [ true ↦ (let k : x < i = g.0.1 in omega (arith, k, l), havocs_below up span types i (suc x) xs b r l g.1 h) | false ↦ havocs_below up span types i (suc x) xs b r l g.1 h ]

  copies_below : (up : Bool) (h : Head) (b : Acts) → AnysAreBelow n b → (i : ℕ) → AnysAreBelow n (copies up h.span h.guard h.inv b i)
  copies_below up h b k zero = tt
  copies_below up h b k (suc zero) = join_below b _ k (tt, (tt, tt))
  copies_below up h b k (suc (suc i)) = join_below b _ k (tt, (((copies_below up h b k (suc i), tt), tt), tt))

-- ---- The encoding

module _ (ps : List TypedProcedure) (p : TypedProcedure) (n : ℕ) (own : length (variables p) ≤ n) where
  call_below : (span : Span) (m : ℕ) (xs : List ℕ) (q : ℕ) (es : List Term) → m + length ((procedure_at ps q).inputs ++ (procedure_at ps q).outputs) ≤ n → AnysAreBelow n (encoded_act ps p m (Act.call xs q es span))
  call_below span m xs q es l =
      let e = length-append (procedure_at ps q).inputs (procedure_at ps q).outputs in
      let g = length-map (procedure_at ps q).outputs (λ (x : Variable). x.ty) in
      sets_below n span m es _ (tt, any_below n p.co span _ (type_list (procedure_at ps q).outputs) _ (omega (arith, l, e, g)) (tt, (tt, gets_below n span xs (type_list (procedure_at ps q).outputs) _)))

  mutual
    below_act : (a : Act) → IsFine ps p a → Each (IsFine ps p) (inside a) → (m : ℕ) → m + length (fresh_of_act ps a) ≤ n → AnysAreBelow n (encoded_act ps p m a)
    below_act (Act.set x t span) f i m l = (tt, tt)
    below_act (Act.draw x qs span) f i m l = (tt, tt)
    below_act (Act.toss x w span) f i m l = (tt, tt)
    below_act (Act.any x d ty span) f i m l = (let k : x < length (variables p) = f.0.0.below in omega (arith, k, own), tt)
    below_act (Act.reward g span) f i m l = (tt, tt)
    below_act (Act.ifs arms e span) f i m l = (
      (
        below_arms arms (each_first (IsFine ps p) (inside_arms arms) (in_order e) i) m (omega (arith, l, length-append (fresh_of_arms ps arms) (fresh ps e))),
        below_acts e (each_second (IsFine ps p) (inside_arms arms) (in_order e) i) (m + length (fresh_of_arms ps arms)) (omega (arith, l, length-append (fresh_of_arms ps arms) (fresh ps e))),
      ),
      tt,
    )
    below_act (Act.pick d x y span) f i m l = (
      (
        below_acts x (each_first (IsFine ps p) (in_order x) (in_order y) i) m (omega (arith, l, length-append (fresh ps x) (fresh ps y))),
        below_acts y (each_second (IsFine ps p) (in_order x) (in_order y) i) (m + length (fresh ps x)) (omega (arith, l, length-append (fresh ps x) (fresh ps y))),
      ),
      tt,
    )
    below_act (Act.check kind g span) f i m l = (tt, tt)
    below_act (Act.validate co span) f i m l = (tt, tt)
    below_act (Act.loop k c) f i m l = (tt, havocs_below n p.co k.span (types_of p) (length (variables p)) 0 k.scope c (tested p.co k (encoded ps p m c)) own f.1.0.scope (tt, (tt, (((copies_below n p.co k (encoded ps p m c) (below_acts c i m l) k.k, tt), tt), tt))))
    below_act (Act.call xs q es span) f i m l = call_below span m xs q es l

    below_acts : (acts : Acts) → Each (IsFine ps p) (in_order acts) → (m : ℕ) → m + length (fresh ps acts) ≤ n → AnysAreBelow n (encoded ps p m acts)
    below_acts Acts.done f m l = tt
    below_acts (Acts.next a rest) f m l =
        join_below n (encoded_act ps p m a) _
        (below_act a f.0 (each_first (IsFine ps p) (inside a) (in_order rest) f.1) m (omega (arith, l, length-append (fresh_of_act ps a) (fresh ps rest))))
        (below_acts rest (each_second (IsFine ps p) (inside a) (in_order rest) f.1) (m + length (fresh_of_act ps a)) (omega (arith, l, length-append (fresh_of_act ps a) (fresh ps rest))))

    below_arms : (arms : Arms) → Each (IsFine ps p) (inside_arms arms) → (m : ℕ) → m + length (fresh_of_arms ps arms) ≤ n → AnysAreBelow_in n (encoded_arms ps p m arms)
    below_arms Arms.no_arm f m l = tt
    below_arms (Arms.arm t c more) f m l = (
      below_acts c (each_first (IsFine ps p) (in_order c) (inside_arms more) f) m (omega (arith, l, length-append (fresh ps c) (fresh_of_arms ps more))),
      below_arms more (each_second (IsFine ps p) (in_order c) (inside_arms more) f) (m + length (fresh ps c)) (omega (arith, l, length-append (fresh ps c) (fresh_of_arms ps more))),
    )

below : (ps : List TypedProcedure) (p : TypedProcedure) → MeetsRules ps p → AnysAreBelow (length (all_variables ps p)) (encoding ps p)
below ps p meets = below_acts ps p (length (all_variables ps p)) (omega (arith, length-append (variables p) (fresh ps (acts_in p.body)))) (acts_in p.body) (all_fine ps p meets) (length (variables p)) (omega (arith, length-append (variables p) (fresh ps (acts_in p.body))))

pub encoding_binds : EncodingBindsItsVariables
encoding_binds ps p each lt = below ps (procedure_at ps p) (each_procedure ps ps p each lt)
