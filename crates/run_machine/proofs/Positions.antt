-- Conclusions from the first item of a configuration.
use Rattle.std.proofs.Common.{◌≡◌, ℕ, refl, ap, sym, subst, ◌∙◌, List, [], ◌∷◌, ◌++◌, reverse, drop}
use Rattle.heylo_formula.specs.declared.values.Val.{Val}
use Rattle.heyvl_acts.specs.Acts.{TypedProcedure, procedure_at}
use Rattle.heyvl_acts.specs.Rules.{Each}
use Rattle.run_machine.specs.declared.configurations.Item.TheVariants.{Do, Turn, Out, Back}
use Rattle.run_machine.specs.Bound.{IsState}
use Rattle.run_machine.specs.Configurations.{running}
use Rattle.run_machine.specs.ConfigConditions.{IsItemOf, IsCalled, AreLists, IsConfig}
use Rattle.run_machine.specs.Names.{Numbered, Lists, Stored, call_of, call_parts, last_call, callers}
use Rattle.run_machine.specs.internal.Places.{GoesOn, Continues}
use Rattle.run_machine.specs.StoredMoves.{behind}

-- The item is no return.
abbrev pub NoReturn : Numbered → Type 0
NoReturn (Do p place) = Unit {0}
NoReturn (Turn p place) = Unit {0}
NoReturn (Out p x) = Unit {0}
NoReturn (Back p place) = ⊥

pub each_append : {A : Type 0} (P : A → Type 0) (xs ys : List A) → Each P xs → Each P ys → Each P (xs ++ ys)
each_append P [] ys h k = k
each_append P (x ∷ xs) ys h k = (h.0, each_append P xs ys h.1 k)

-- The first item of a called procedure is no return: it belongs to the procedure, and the rest ends
-- with the same return.
record Opens (ps : List TypedProcedure) (m n : ℕ) (i : Numbered) (rest : List Numbered) : Type 0 where
  belongs : IsItemOf ps n i
  called : IsCalled ps m n rest

opens_list : (ps : List TypedProcedure) (m n : ℕ) (i : Numbered) (rest front : List Numbered) (q : IsCalled ps m n (i ∷ rest)) → NoReturn i → front ≡ q.front → Opens ps m n i rest
opens_list ps m n i rest [] q plain e = absurd (subst NoReturn (first_is i _ rest [] (q.ends ∙ ap (λ l. l ++ (Back m q.place ∷ [])) (sym e))) plain)
  where
    first_is : (x y : Numbered) (xs ys : List Numbered) → x ∷ xs ≡ y ∷ ys → x ≡ y
    first_is x y xs ys h = cc
opens_list ps m n i rest (x ∷ front) q plain e =
    let each = subst (Each (IsItemOf ps n)) (sym e) q.belong in
    let ends = q.ends ∙ ap (λ l. l ++ (Back m q.place ∷ [])) (sym e) in
    record { belongs = subst (IsItemOf ps n) (sym (first_is i x rest _ ends)) each.0; called = record { front = front; place = q.place; targets = q.targets; arguments = q.arguments; span = q.span; ends = rest_is i x rest _ ends; names = q.names; runs = q.runs; belong = each.1 } }
  where
    first_is : (y z : Numbered) (ys zs : List Numbered) → y ∷ ys ≡ z ∷ zs → y ≡ z
    first_is y z ys zs h = cc

    rest_is : (y z : Numbered) (ys zs : List Numbered) → y ∷ ys ≡ z ∷ zs → ys ≡ zs
    rest_is y z ys zs h = cc

called_front : (ps : List TypedProcedure) (m n : ℕ) (front rest : List Numbered) → Each (IsItemOf ps n) front → IsCalled ps m n rest → IsCalled ps m n (front ++ rest)
called_front ps m n [] rest h q = q
called_front ps m n (i ∷ front) rest h q = let k = called_front ps m n front rest h.1 q in record { front = i ∷ k.front; place = k.place; targets = k.targets; arguments = k.arguments; span = k.span; ends = ap (λ l. i ∷ l) k.ends; names = k.names; runs = k.runs; belong = (h.0, k.belong) }

-- ---- Other items and another state

lists_go : (ps : List TypedProcedure) (start n : ℕ) (i : Numbered) (rest front : List Numbered) (s t : List Val) (fs : List Lists) → NoReturn i → Each (IsItemOf ps n) front → IsState (procedure_at ps n) t → AreLists ps start n (i ∷ rest) s fs → AreLists ps start n (front ++ rest) t fs
lists_go ps start n i rest front s t [] plain each st h = (h.0, (each_append (IsItemOf ps n) front rest each h.1.0.1, st))
lists_go ps start n i rest front s t (f ∷ fs) plain each st h = (h.0, (called_front ps h.0 n front rest each (opens_list ps h.0 n i rest h.1.0.front h.1.0 plain refl).called, (st, h.1.1.1)))

pub lists_state : (ps : List TypedProcedure) (start n : ℕ) (is : List Numbered) (s : List Val) (fs : List Lists) → AreLists ps start n is s fs → IsState (procedure_at ps n) s
lists_state ps start n is s [] h = h.1.1
lists_state ps start n is s (f ∷ fs) h = h.1.1.0

lists_first : (ps : List TypedProcedure) (start n : ℕ) (i : Numbered) (rest : List Numbered) (s : List Val) (fs : List Lists) → NoReturn i → AreLists ps start n (i ∷ rest) s fs → IsItemOf ps n i
lists_first ps start n i rest s [] plain h = h.1.0.0
lists_first ps start n i rest s (f ∷ fs) plain h = (opens_list ps h.0 n i rest h.1.0.front h.1.0 plain refl).belongs

goes_on : (front : List Numbered) (i j : Numbered) (rest : List Numbered) (f : Lists) (fs : List Lists) → rest ≡ front ++ (j ∷ []) → GoesOn (i ∷ rest) (f ∷ fs)
goes_on [] i j rest f fs e = subst (λ l. GoesOn (i ∷ l) (f ∷ fs)) (sym e) tt
goes_on (x ∷ front) i j rest f fs e = subst (λ l. GoesOn (i ∷ l) (f ∷ fs)) (sym e) tt

lists_continue : (ps : List TypedProcedure) (start n : ℕ) (i : Numbered) (rest : List Numbered) (s : List Val) (fs : List Lists) → NoReturn i → AreLists ps start n (i ∷ rest) s fs → GoesOn (i ∷ rest) fs
lists_continue ps start n i rest s [] plain h = tt
lists_continue ps start n i rest s (f ∷ fs) plain h = let q = (opens_list ps h.0 n i rest h.1.0.front h.1.0 plain refl).called in goes_on q.front i _ rest f fs q.ends

pub last_is : (ps : List TypedProcedure) (front : List Numbered) (j : Numbered) → last_call ps (front ++ (j ∷ [])) ≡ call_of ps j
last_is ps [] j = refl
last_is ps (x ∷ []) j = refl
last_is ps (x ∷ (y ∷ front)) j = last_is ps (y ∷ front) j

pub called_last : (ps : List TypedProcedure) (m n : ℕ) (is : List Numbered) (q : IsCalled ps m n is) → last_call ps is ≡ (q.targets, n)
called_last ps m n is q = ap (last_call ps) q.ends ∙ last_is ps q.front (Back m q.place) ∙ ap call_parts q.names

lists_running : (ps : List TypedProcedure) (start n : ℕ) (is : List Numbered) (s : List Val) (fs : List Lists) → AreLists ps start n is s fs → running start (callers ps is fs) ≡ n
lists_running ps start n is s [] h = sym h.0
lists_running ps start n is s (f ∷ fs) h = ap (λ l. l.1) (called_last ps h.0 n is h.1.0)

-- What holds if the first item is no return.
pub record At (ps : List TypedProcedure) (c : Stored) (i : Numbered) (n : ℕ) : Type 0 where
  pub continues : Continues c
  pub belongs : IsItemOf ps n i
  pub state : IsState (procedure_at ps n) c.state
  pub runs : running c.procedure (callers ps c.items (reverse c.frames)) ≡ n
  pub goes : (front : List Numbered) (t : List Val) → Each (IsItemOf ps n) front → IsState (procedure_at ps n) t → AreLists ps c.procedure n (front ++ behind c) t (reverse c.frames)

pub position : (ps : List TypedProcedure) (c : Stored) (i : Numbered) (rest : List Numbered) (h : IsConfig ps c) → c.items ≡ i ∷ rest → NoReturn i → At ps c i h.running
position ps c i rest h e plain =
    let lists = subst (λ l. AreLists ps c.procedure h.running l c.state (reverse c.frames)) e h.lists in
    record {
      continues = subst (λ l. GoesOn l (reverse c.frames)) (sym e) (lists_continue ps c.procedure h.running i rest c.state (reverse c.frames) plain lists);
      belongs = lists_first ps c.procedure h.running i rest c.state (reverse c.frames) plain lists;
      state = lists_state ps c.procedure h.running c.items c.state (reverse c.frames) h.lists;
      runs = lists_running ps c.procedure h.running c.items c.state (reverse c.frames) h.lists;
      goes = λ front t each st. subst (λ l. AreLists ps c.procedure h.running (front ++ l) t (reverse c.frames)) (sym (ap (λ l. drop 1 l) e)) (lists_go ps c.procedure h.running i rest front c.state t (reverse c.frames) plain each st lists);
    }

pub lists_restate : (ps : List TypedProcedure) (start n : ℕ) (is : List Numbered) (s t : List Val) (fs : List Lists) → IsState (procedure_at ps n) t → AreLists ps start n is s fs → AreLists ps start n is t fs
lists_restate ps start n is s t [] st h = (h.0, (h.1.0, st))
lists_restate ps start n is s t (f ∷ fs) st h = (h.0, (h.1.0, (st, h.1.1.1)))
