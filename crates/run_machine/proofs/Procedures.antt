-- Procedures by number.
use Rattle.std.proofs.Common.{◌≡◌, ℕ, ◌<◌, ◌≤◌, refl, ap, sym, subst, ◌∙◌, arith, zero-add, List, [], ◌∷◌, ◌++◌, length, map, slice_get, get_or, replicate}
use Rattle.std.proofs.lemmas.Option.{none-some}
use Rattle.std.specs.Prelude.{Option, Some, None}
use Prim.Native.Nat.{zero, suc}
use Rattle.heyvl_acts.specs.declared.typed_trees.TProc.{TProc}
use Rattle.heyvl_acts.specs.Acts.{Act, Acts, TypedProcedure, acts_in, nobody, procedure_at}
use Rattle.heyvl_acts.specs.PlainActs.{procedure_of}
use Rattle.heyvl_acts.specs.Places.{nth, in_order, acts_of_procedure}
use Rattle.heyvl_num.specs.Rational.{Rational, zeroʳ}
use Rattle.heyvl_num.specs.Value.{zeroᵛ}
use Rattle.heyvl_num.specs.Value.Value.{finite}
use Rattle.heylo_formula.specs.declared.values.Val.{Val}
use Rattle.run_machine.specs.Configurations.{push, begin}
use Rattle.run_machine.specs.Names.{Numbered, Lists, items_of, turns_of, config_of, numbered}
use Rattle.run_machine.specs.StoredStep.{stored_begin}
use Rattle.run_machine.specs.internal.Places.{Stands, text}
use Rattle.run_machine.proofs.Places.{named_push}

pub procedure_there : (xs : List TProc) (p : ℕ) (x : TProc) → slice_get xs p ≡ Some x → procedure_at (map procedure_of xs) p ≡ procedure_of x
procedure_there [] p x h = elim (none-some x h) [ ]
procedure_there (y ∷ xs) zero x h = ap procedure_of (same h)
  where
    same : Some y ≡ Some x → y ≡ x
    same e = cc
procedure_there (y ∷ xs) (suc p) x h = procedure_there xs p x h

pub procedure_missing : (xs : List TProc) (p : ℕ) → slice_get xs p ≡ None → procedure_at (map procedure_of xs) p ≡ nobody
procedure_missing [] p h = refl
procedure_missing (y ∷ xs) zero h = cc
procedure_missing (y ∷ xs) (suc p) h = procedure_missing xs p h

at_start : (acts : List Act) → Stands acts 0 acts
at_start acts k a e = ap (λ m. nth acts m) (zero-add k) ∙ e

pub found : (qs : List TypedProcedure) (n : ℕ) (q : TypedProcedure) → nth qs n ≡ Some q → procedure_at qs n ≡ q
found [] n q h = elim (none-some q h) [ ]
found (r ∷ qs) zero q h = cc
found (r ∷ qs) (suc n) q h = found qs n q h

missing : (qs : List TypedProcedure) (n : ℕ) → nth qs n ≡ None → procedure_at qs n ≡ nobody
missing [] n h = refl
missing (r ∷ qs) zero h = cc
missing (r ∷ qs) (suc n) h = missing qs n h

pub text_is : (ps : List TypedProcedure) (p : ℕ) → text ps p ≡ in_order (acts_in (procedure_at ps p).body)
text_is ps p = go (nth ps p) refl
  where
    go : (o : Option TypedProcedure) → nth ps p ≡ o → text ps p ≡ in_order (acts_in (procedure_at ps p).body)
    go (Some q) e = ap acts_of_procedure e ∙ ap (λ r. in_order (acts_in r.body)) (sym (found ps p q e))
    go None e = ap acts_of_procedure e ∙ ap (λ r. in_order (acts_in r.body)) (sym (missing ps p e))

pub text_stands : (ps : List TypedProcedure) (p : ℕ) → Stands (text ps p) 0 (in_order (acts_in (procedure_at ps p).body))
text_stands ps p = subst (λ l. Stands l 0 (in_order (acts_in (procedure_at ps p).body))) (sym (text_is ps p)) (at_start (in_order (acts_in (procedure_at ps p).body)))

pub body_named : (ps : List TypedProcedure) (p : ℕ) (rest : List Numbered) → items_of ps (numbered p 0 (acts_in (procedure_at ps p).body) ++ rest) ≡ push (acts_in (procedure_at ps p).body) (items_of ps rest)
body_named ps p rest = named_push ps p 0 (acts_in (procedure_at ps p).body) rest (text_stands ps p)

pub found_at : (xs : List TProc) (p : ℕ) (x : TProc) → p < length xs → x ≡ get_or xs p x → procedure_at (map procedure_of xs) p ≡ procedure_of x
found_at [] p x lt is = absurd (omega (arith, lt))
found_at (y ∷ xs) zero x lt is = ap procedure_of (sym is)
found_at (y ∷ xs) (suc p) x lt is = found_at xs p x (omega (arith, lt)) is

pub past_all : (xs : List TProc) (p : ℕ) → length xs ≤ p → procedure_at (map procedure_of xs) p ≡ nobody
past_all [] p over = refl
past_all (y ∷ xs) zero over = absurd (omega (arith, over))
past_all (y ∷ xs) (suc p) over = past_all xs p (omega (arith, over))

pub nothing_more : (xs : List Numbered) (p : ℕ) (b : Option Acts) → b ≡ None → xs ≡ xs ++ numbered p 0 (acts_in b)
nothing_more xs p None e = sym (append_none xs)
  where
    append_none : (l : List Numbered) → l ++ [] ≡ l
    append_none [] = refl
    append_none (x ∷ l) = ap (λ m. x ∷ m) (append_none l)
nothing_more xs p (Some acts) e = cc

append_none : (l : List Numbered) → l ++ [] ≡ l
append_none [] = refl
append_none (x ∷ l) = ap (λ m. x ∷ m) (append_none l)

abbrev nothing : ℕ
nothing = 0

no_turn : (n m : ℕ) → get_or (replicate n nothing) m nothing ≡ nothing
no_turn zero m = refl
no_turn (suc n) zero = refl
no_turn (suc n) (suc m) = no_turn n m

no_turn_yet : (n m : ℕ) → turns_of (replicate n nothing) m ≡ nothing
no_turn_yet n zero = refl
no_turn_yet n (suc m) = no_turn n m

pub first_stored : (ps : List TypedProcedure) (p : ℕ) (s t : List Val) (is : List Numbered) (fs : List Lists) (z : Rational) (ts : List ℕ) → is ≡ numbered p 0 (acts_in (procedure_at ps p).body) → t ≡ s → fs ≡ [] → z ≡ zeroʳ → ts ≡ replicate (procedure_at ps p).loops 0 → record { procedure = p; items = is; state = t; frames = fs; reward = finite z; turns = ts; made = 0 } ≡ stored_begin ps p s
unfolding zeroᵛ
first_stored ps p s t is fs z ts e f g h k = λ i. record { procedure = p; items = e i; state = f i; frames = g i; reward = finite (h i); turns = k i; made = 0 }

pub stored_begun : (ps : List TypedProcedure) (p : ℕ) (s : List Val) → config_of ps (stored_begin ps p s) ≡ begin ps p s
stored_begun ps p s =
    let named : items_of ps (numbered p 0 (acts_in (procedure_at ps p).body)) ≡ push (acts_in (procedure_at ps p).body) [] = ap (items_of ps) (sym (append_none (numbered p 0 (acts_in (procedure_at ps p).body)))) ∙ body_named ps p [] in
    λ i. record { procedure = p; items = named i; frames = []; state = s; reward = zeroᵛ; turns = λ m. no_turn_yet (procedure_at ps p).loops m i }
