-- Parts that wait for a result, and parts that wait for none.
use Rattle.std.proofs.Common.{◌≡◌, Bool, false, refl, ap, Global}
use Rattle.std.specs.declared.rc.Rc.{Rc}
use Rattle.linear_form.specs.Query.{Query}
use Rattle.linear_form.specs.Query.Query.{bits}
use Rattle.linear_form.specs.internal.Outcomes.{Result, of_bool}
use Rattle.linear_form.specs.internal.Parts.{after_first, after_second, notes_later}
use Rattle.linear_form.specs.internal.PlainParts.{outcome_of, work_of}
use Rattle.linear_form.specs.declared.parts.Operation.{Operation}
use Rattle.linear_form.specs.declared.parts.Outcome as O
use Rattle.linear_form.specs.declared.parts.Part as P
use Rattle.linear_form.specs.declared.parts.Work as W
use Rattle.linear_form.proofs.PlainPartsAre.{known_work, asks_work, large_work, choice_work}

pub no_first : (w : W.Work) (s : Result) → ((o : Operation) (p u : Rc P.Part Global) → w ≡ W.TheVariants.Two o p u → ⊥) → ((g p u : Rc P.Part Global) → w ≡ W.TheVariants.Choice g p u → ⊥) → after_first (work_of w) s ≡ bits
no_first (W.Known o) s g h = ap (λ w. after_first w s) (known_work o)
no_first W.Large s g h = ap (λ w. after_first w s) large_work
no_first (W.Asks' a q w b r v c) s g h = ap (λ w. after_first w s) (asks_work a (record { ptr = q.ptr; value = record { work = w; asks = b } }) (record { ptr = r.ptr; value = record { work = v; asks = c } }))
no_first (W.Two' o q w b r v c) s g h = absurd (g o (record { ptr = q.ptr; value = record { work = w; asks = b } }) (record { ptr = r.ptr; value = record { work = v; asks = c } }) refl)
no_first (W.Choice' q w b r v c t u d) s g h = absurd (h (record { ptr = q.ptr; value = record { work = w; asks = b } }) (record { ptr = r.ptr; value = record { work = v; asks = c } }) (record { ptr = t.ptr; value = record { work = u; asks = d } }) refl)

pub no_second : (w : W.Work) (s t : Result) → ((o : Operation) (p u : Rc P.Part Global) → w ≡ W.TheVariants.Two o p u → ⊥) → after_second (work_of w) s t ≡ bits
no_second (W.Known o) s t g = ap (λ w. after_second w s t) (known_work o)
no_second W.Large s t g = ap (λ w. after_second w s t) large_work
no_second (W.Asks' a q w b r v c) s t g = ap (λ w. after_second w s t) (asks_work a (record { ptr = q.ptr; value = record { work = w; asks = b } }) (record { ptr = r.ptr; value = record { work = v; asks = c } }))
no_second (W.Two' o q w b r v c) s t g = absurd (g o (record { ptr = q.ptr; value = record { work = w; asks = b } }) (record { ptr = r.ptr; value = record { work = v; asks = c } }) refl)
no_second (W.Choice' q w b r v c x u d) s t g = ap (λ w. after_second w s t) (choice_work (record { ptr = q.ptr; value = record { work = w; asks = b } }) (record { ptr = r.ptr; value = record { work = v; asks = c } }) (record { ptr = x.ptr; value = record { work = u; asks = d } }))

pub none_later : (w : W.Work) → ((o : Operation) (p u : Rc P.Part Global) → w ≡ W.TheVariants.Two o p u → ⊥) → ((g p u : Rc P.Part Global) → w ≡ W.TheVariants.Choice g p u → ⊥) → notes_later (work_of w) ≡ false
none_later (W.Known o) g h = ap notes_later (known_work o)
none_later W.Large g h = ap notes_later large_work
none_later (W.Asks' a q w b r v c) g h = ap notes_later (asks_work a (record { ptr = q.ptr; value = record { work = w; asks = b } }) (record { ptr = r.ptr; value = record { work = v; asks = c } }))
none_later (W.Two' o q w b r v c) g h = absurd (g o (record { ptr = q.ptr; value = record { work = w; asks = b } }) (record { ptr = r.ptr; value = record { work = v; asks = c } }) refl)
none_later (W.Choice' q w b r v c t u d) g h = absurd (h (record { ptr = q.ptr; value = record { work = w; asks = b } }) (record { ptr = r.ptr; value = record { work = v; asks = c } }) (record { ptr = t.ptr; value = record { work = u; asks = d } }) refl)

pub no_truth : (o : O.Outcome) (f : Bool → Query Result) → ((t : Bool) → o ≡ O.TheVariants.Truth t → ⊥) → of_bool f (outcome_of o) ≡ bits
no_truth (O.TheVariants.Number x) f h = refl
no_truth (O.TheVariants.Truth t) f h = absurd (h t refl)
no_truth (O.TheVariants.Ends x y) f h = refl
