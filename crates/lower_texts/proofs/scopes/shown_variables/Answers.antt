use Rattle.heyvl_acts.specs.PlainActs.{procedure_of}
use Rattle.lower_texts.proofs.Procedures.{as_many}
use Rattle.lower_texts.proofs.FirstScopes.{one_scope}
use Rattle.lower_texts.proofs.scopes.shown_variables.Goals as goal
use Rattle.std.proofs.Common.{List, [], ap₂, sym, ◌++◌, ◌∙◌, ◌∷◌, ℕ}

pub returns : goal.returns
returns c l =
    c.in_ok-push.ensures.items
    ∙ ap₂ (λ (xs : List ℕ) n. xs ++ n ∷ []) (c.in_ok-shown.ensures.items ∙ (c.scope_of.ensures ∙ one_scope (procedure_of c.args.procedure.now) l)) (c.len.ensures ∙ (c.args.procedure.now.vars.ok.0 ∙ sym (as_many c.args.procedure.now)))
