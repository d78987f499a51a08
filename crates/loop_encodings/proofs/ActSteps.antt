-- The encoding of one act, from the encodings of its parts.
use Rattle.std.proofs.Common.{◌≡◌, ◌≤◌, ◌+◌, ℕ, Bool, sym, ap, subst, ◌∙◌, arith, List, [], ◌∷◌, ◌++◌, length, append_assoc, append-nil}
use Rattle.std.proofs.lemmas.List.{length-append}
use Rattle.std.specs.Prelude.{Vec}
use Rattle.std.specs.declared.alloc.Global.{Global}
use Rattle.heyvl_places.specs.declared.spans.Span.{Span}
use Rattle.heylo_formula.specs.declared.forms.Cond as C
use Rattle.heylo_formula.specs.Formula.{Term}
use Rattle.heylo_formula.specs.Shifts.{shifted}
use Rattle.heyvl_acts.proofs.exported.PlainActsAre.{if_act, pick_act}
use Rattle.heyvl_acts.specs.declared.acts.Act as A
use Rattle.heyvl_acts.specs.Acts.{Act, Acts, Arms, Head, TypedProcedure, Variable, join, procedure_at, types_of}
use Rattle.heyvl_acts.specs.ModifiedVariables.{modified}
use Rattle.heyvl_acts.specs.PlainActs.{acts_of, arms_of}
use Rattle.k_induction.specs.Copies.{must}
use Rattle.loop_encodings.specs.Encoding.{encoded, encoded_act, encoded_arms, encoded_call, encoded_loop, sets}
use Rattle.loop_encodings.specs.Fresh.{fresh, fresh_of_act, fresh_of_arms}
use Rattle.loop_encodings.specs.internal.Ready.{AreReady, AreReadyArms, IsReady, returned}
use Rattle.loop_encodings.proofs.AppendedActs.{last_one}

-- The statement on one act: its encoding is appended, and so are its fresh variables.
abbrev pub AppendsAct : List TypedProcedure → TypedProcedure → List Variable → List Variable → Act → List A.Act → List A.Act → Type 0
AppendsAct ps p start vars a xs ys = (acts_of ys ≡ join (acts_of xs) (encoded_act ps p (length start) a)) × (vars ≡ start ++ fresh_of_act ps a)

module _ (ps : List TypedProcedure) (p : TypedProcedure) (start : List Variable) (a : Act) (xs ys : List A.Act) where
  -- ---- An act that stays as it is

  abbrev pub Stays : Act → Type 0
  Stays b = (encoded_act ps p (length start) b ≡ Acts.next b Acts.done) × (fresh_of_act ps b ≡ [])

  pub stay_made : (b : Act) → a ≡ b → Stays b → acts_of ys ≡ join (acts_of xs) (Acts.next a Acts.done) → AppendsAct ps p start start a xs ys
  stay_made b is h e = (e ∙ ap (λ r. join (acts_of xs) r) (sym k.0), sym (append-nil start) ∙ ap (λ l. start ++ l) (sym k.1))
    where
      k : Stays a
      k = subst Stays (sym is) h

  -- ---- An if

  module _ (arms : Arms) (e : Acts) (span : Span) (is : a ≡ Act.ifs arms e span) where
    pub if_ready : IsReady ps p a → AreReadyArms ps p arms × AreReady ps p e
    if_ready h = subst (IsReady ps p) is h

    pub if_room : (n : ℕ) → length start + length (fresh_of_act ps a) ≤ n → length start + length (fresh_of_arms ps arms) ≤ n
    if_room n h = let l = length-append (fresh_of_arms ps arms) (fresh ps e) in let k = ap (λ b. length (fresh_of_act ps b)) is in omega (arith, h, l, k)

    pub last_room : (n : ℕ) (vars : List Variable) → length start + length (fresh_of_act ps a) ≤ n → vars ≡ start ++ fresh_of_arms ps arms → length vars + length (fresh ps e) ≤ n
    last_room n vars h f = let l = length-append (fresh_of_arms ps arms) (fresh ps e) in let k = ap (λ b. length (fresh_of_act ps b)) is in let m = ap (λ (l : List Variable). length l) f ∙ length-append start (fresh_of_arms ps arms) in omega (arith, h, l, k, m)

    pub if_made : (vars vars' : List Variable) (made : Vec (C.Cond × Vec A.Act Global) Global) (last : Vec A.Act Global) → ys ≡ xs ++ A.If made last span ∷ [] → arms_of made.items ≡ encoded_arms ps p (length start) arms → vars ≡ start ++ fresh_of_arms ps arms → acts_of last.items ≡ encoded ps p (length vars) e → vars' ≡ vars ++ fresh ps e → AppendsAct ps p start vars' a xs ys
    if_made vars vars' made last i g f k f' = (
      last_one xs ys (A.If made last span) (Act.ifs (arms_of made.items) (acts_of last.items) span) i (if_act made last span)
          ∙ (ap (λ r. join (acts_of xs) (Acts.next (Act.ifs r (acts_of last.items) span) Acts.done)) g
          ∙ (ap (λ r. join (acts_of xs) (Acts.next (Act.ifs (encoded_arms ps p (length start) arms) r span) Acts.done)) (k ∙ ap (λ n. encoded ps p n e) (ap (λ (l : List Variable). length l) f ∙ length-append start (fresh_of_arms ps arms)))
          ∙ ap (λ b. join (acts_of xs) (encoded_act ps p (length start) b)) (sym is))),
      f' ∙ (ap (λ l. l ++ fresh ps e) f ∙ (append_assoc start (fresh_of_arms ps arms) (fresh ps e) ∙ ap (λ b. start ++ fresh_of_act ps b) (sym is))),
    )

  -- ---- A choice

  module _ (up : Bool) (b d : Acts) (span : Span) (is : a ≡ Act.pick up b d span) where
    pub pick_ready : IsReady ps p a → AreReady ps p b × AreReady ps p d
    pick_ready h = subst (IsReady ps p) is h

    pub pick_room : (n : ℕ) → length start + length (fresh_of_act ps a) ≤ n → length start + length (fresh ps b) ≤ n
    pick_room n h = let l = length-append (fresh ps b) (fresh ps d) in let k = ap (λ x. length (fresh_of_act ps x)) is in omega (arith, h, l, k)

    pub right_room : (n : ℕ) (vars : List Variable) → length start + length (fresh_of_act ps a) ≤ n → vars ≡ start ++ fresh ps b → length vars + length (fresh ps d) ≤ n
    right_room n vars h f = let l = length-append (fresh ps b) (fresh ps d) in let k = ap (λ x. length (fresh_of_act ps x)) is in let m = ap (λ (l : List Variable). length l) f ∙ length-append start (fresh ps b) in omega (arith, h, l, k, m)

    pub pick_made : (vars vars' : List Variable) (first second : Vec A.Act Global) → ys ≡ xs ++ A.Pick up first second span ∷ [] → acts_of first.items ≡ encoded ps p (length start) b → vars ≡ start ++ fresh ps b → acts_of second.items ≡ encoded ps p (length vars) d → vars' ≡ vars ++ fresh ps d → AppendsAct ps p start vars' a xs ys
    pick_made vars vars' first second i g f k f' = (
      last_one xs ys (A.Pick up first second span) (Act.pick up (acts_of first.items) (acts_of second.items) span) i (pick_act up first second span)
          ∙ (ap (λ r. join (acts_of xs) (Acts.next (Act.pick up r (acts_of second.items) span) Acts.done)) g
          ∙ (ap (λ r. join (acts_of xs) (Acts.next (Act.pick up (encoded ps p (length start) b) r span) Acts.done)) (k ∙ ap (λ n. encoded ps p n d) (ap (λ (l : List Variable). length l) f ∙ length-append start (fresh ps b)))
          ∙ ap (λ x. join (acts_of xs) (encoded_act ps p (length start) x)) (sym is))),
      f' ∙ (ap (λ l. l ++ fresh ps d) f ∙ (append_assoc start (fresh ps b) (fresh ps d) ∙ ap (λ x. start ++ fresh_of_act ps x) (sym is))),
    )

  -- ---- A loop

  module _ (h : Head) (b : Acts) (is : a ≡ Act.loop h b) where
    pub loop_ready : IsReady ps p a → IsReady ps p (Act.loop h b)
    loop_ready k = subst (IsReady ps p) is k

    pub loop_room : (n : ℕ) → length start + length (fresh_of_act ps a) ≤ n → length start + length (fresh ps b) ≤ n
    loop_room n k = let l = ap (λ x. length (fresh_of_act ps x)) is in omega (arith, k, l)

    pub loop_made : (vars : List Variable) (body : Acts) → body ≡ encoded ps p (length start) b → vars ≡ start ++ fresh ps b → acts_of ys ≡ join (acts_of xs) (encoded_loop p.co (types_of p) h (modified h.scope b) body) → AppendsAct ps p start vars a xs ys
    loop_made vars body e f k = (
      k ∙ (ap (λ r. join (acts_of xs) (encoded_loop p.co (types_of p) h (modified h.scope b) r)) e ∙ ap (λ x. join (acts_of xs) (encoded_act ps p (length start) x)) (sym is)),
      f ∙ ap (λ x. start ++ fresh_of_act ps x) (sym is),
    )

  -- ---- A call

  module _ (ts : List ℕ) (q : ℕ) (es : List Term) (span : Span) (is : a ≡ Act.call ts q es span) where
    pub call_ready : IsReady ps p a → IsReady ps p (Act.call ts q es span)
    call_ready h = subst (IsReady ps p) is h

    pub call_room : (n : ℕ) → length start + length (fresh_of_act ps a) ≤ n → length start + (length (procedure_at ps q).inputs + length (procedure_at ps q).outputs) ≤ n
    call_room n h = let l = length-append (procedure_at ps q).inputs (procedure_at ps q).outputs in let k = ap (λ x. length (fresh_of_act ps x)) is in omega (arith, h, l, k)

    pub call_made : (vars : List Variable) (callee : TypedProcedure) (first : ℕ) (zs : List A.Act) → procedure_at ps q ≡ callee → first ≡ length start → vars ≡ start ++ (callee.inputs ++ callee.outputs)
        → ((rest : Acts) → join (acts_of zs) rest ≡ join (acts_of xs) (sets span first es (Acts.next (Act.check (must p.co) (shifted first callee.pre) span) rest)))
        → acts_of ys ≡ join (acts_of zs) (returned p.co span first ts callee) → AppendsAct ps p start vars a xs ys
    call_made vars callee first zs there from f entry back = (
      back ∙ (entry (returned p.co span first ts callee)
          ∙ (ap (λ m. join (acts_of xs) (encoded_call p.co span m ts callee es)) from
          ∙ (ap (λ y. join (acts_of xs) (encoded_call p.co span (length start) ts y es)) (sym there)
          ∙ ap (λ x. join (acts_of xs) (encoded_act ps p (length start) x)) (sym is)))),
      f ∙ (ap (λ (y : TypedProcedure). start ++ (y.inputs ++ y.outputs)) (sym there) ∙ ap (λ x. start ++ fresh_of_act ps x) (sym is)),
    )
