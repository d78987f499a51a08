-- If the body of a program without loops and calls violates the pre, some runs violate its bound.
use Rattle.std.proofs.Common.{◌≡◌, ◌≤◌, sym, ap, subst, ◌∙◌, arith, Bool, true, false, []}
use Rattle.heyvl_num.specs.Value.{Value, zeroᵛ, ◌+ᵛ◌}
use Rattle.heyvl_num.proofs.exported.Values.{zero-+ᵛ}
use Rattle.heylo_formula.specs.Choices.{Choices}
use Rattle.heylo_formula.specs.Goals.{Compares}
use Rattle.heylo_formula.specs.Meaning.{value}
use Rattle.heylo_formula.specs.State.{environment}
use Rattle.heylo_formula.proofs.exported.Agreement.{unchosen}
use Rattle.heyvl_acts.specs.Acts.{Acts, TypedProcedure, acts_in, procedure_at}
use Rattle.heyvl_acts.specs.Forward.{Post}
use Rattle.run_machine.specs.Configurations.{push}
use Rattle.bounded_runs.specs.Law.{BrokenGoalsBreakBounds}
use Rattle.loop_encodings.proofs.exported.FromRules.{each_procedure}
use Rattle.bounded_runs.proofs.ViolationActs.{Plain, plain_program, simple_program}
use Rattle.bounded_runs.proofs.ViolationTrees.{claims, collected, items_length, push_value, push_simple, push_length}

nothing_collected : (up : Bool) (v : Value) → collected up zeroᵛ +ᵛ v ≡ v
nothing_collected true v = zero-+ᵛ v
nothing_collected false v = zero-+ᵛ v

pub broken : BrokenGoalsBreakBounds
broken ps p s c rules there program straight typed breaks n long =
    let g = claims ps p q.co q.post (λ t d. sym (unchosen q.post t d plain.unbound)) q n (push body []) (push_simple q.co q body [] (simple_program ps q (each_procedure ps ps p rules there) plain straight) tt) enough s typed zeroᵛ c in
    record { scheduler = g.scheduler; breaks = λ h. breaks (subst (λ v. Compares q.co (value q.pre (environment s) Choices.stop) v) (g.gives ∙ (nothing_collected q.co _ ∙ ap (λ (k : Post). k (environment s) c) (push_value (value q.post) body []))) h) }
  where
    q : TypedProcedure
    q = procedure_at ps p

    body : Acts
    body = acts_in (procedure_at ps p).body

    plain : Plain (procedure_at ps p)
    plain = plain_program (procedure_at ps p) program

    enough : items_length (push (acts_in (procedure_at ps p).body) []) ≤ n
    enough = let l = push_length (acts_in (procedure_at ps p).body) [] in omega (arith, l, long)
