-- One step of a stored configuration. It names places, since equal acts at two places make two
-- different stored configurations. This project's own; read by the places, it is the step of the
-- definition of runs.
use Rattle.std.specs.Prelude.{◌+◌, ℕ, List, [], ◌∷◌, Option, Some, None, length, replicate, reverse}
use Rattle.std.specs.Prelude.{if◌then◌else◌}
use Rattle.heyvl_num.specs.Value.{zeroᵛ}
use Rattle.heylo_formula.specs.Choices.{Choices}
use Rattle.heylo_formula.specs.Meaning.{term_value, value}
use Rattle.heylo_formula.specs.State.{environment, fit}
use Rattle.heylo_formula.specs.declared.values.Val.{Val}
use Rattle.heyvl_acts.specs.Acts.{Act, TypedProcedure, acts_in, procedure_at, types_of}
use Rattle.heyvl_acts.specs.Matching.{taken}
use Rattle.heyvl_acts.specs.Places.{act_named, in_order}
use Rattle.heyvl_acts.specs.Tosses.{toss_parts}
use Rattle.run_machine.specs.declared.configurations.Item.TheVariants.{Do, Turn, Out, Back}
use Rattle.run_machine.specs.BoundedStep.{items_fit}
use Rattle.run_machine.specs.Configurations.{evaluate}
use Rattle.run_machine.specs.Names.{Lists, Numbered, Stored, call_parts, config_of, items_of}
use Rattle.run_machine.specs.Names.{numbered}
use Rattle.run_machine.specs.Replies.{Reply, StoredOutcomes, replied, surely}
use Rattle.run_machine.specs.Step.{Decision, side_of, value_of}
use Rattle.run_machine.specs.StoredMoves.{asked, assigned, behind, collected, entered, going}
use Rattle.run_machine.specs.StoredMoves.{opened, resumed, stored_branches, taken_place, tested}

-- The first stored configuration of the procedure `p` in the state `s`: one item for each act of
-- the body, no caller, no reward, no iteration and no decision.
abbrev pub stored_begin : List TypedProcedure → ℕ → List Val → Stored
stored_begin ps p s = record {
  procedure = p;
  items = numbered p 0 (acts_in (procedure_at ps p).body);
  state = s;
  frames = [];
  reward = zeroᵛ;
  turns = replicate (procedure_at ps p).loops 0;
  made = 0;
}

-- The step of the act at `place`. A check or a validation, which no program has, is skipped.
abbrev pub stored_act : List TypedProcedure → ℕ → ℕ → Act → Stored → Decision → StoredOutcomes
stored_act ps p place (Act.set x t span) c d =
    surely (assigned c x (term_value t (environment c.state)))
stored_act ps p place (Act.draw x qs span) c d = stored_branches c x qs
stored_act ps p place (Act.toss x f span) c d =
    stored_branches c x (toss_parts f (environment c.state))
stored_act ps p place (Act.any x up ty span) c d =
    surely (asked (assigned c x (fit ty (value_of d))))
stored_act ps p place (Act.reward f span) c d =
    surely (collected c (value f (environment c.state) Choices.stop))
stored_act ps p place (Act.ifs arms e span) c d = surely
    (opened c p (taken_place (place + 1) arms (environment c.state))
    (taken arms e (environment c.state)))
stored_act ps p place (Act.pick up a b span) c d = surely
    (asked (if side_of d then opened c p (place + 1) a
    else opened c p (place + 1 + length (in_order a)) b))
stored_act ps p place (Act.check kind f span) c d = surely (going c (behind c) c.state)
stored_act ps p place (Act.validate co span) c d = surely (going c (behind c) c.state)
stored_act ps p place (Act.loop h b) c d = surely (tested c p place h.guard h.number b)
stored_act ps p place (Act.call xs q es span) c d =
    surely (entered c p place q (procedure_at ps q) (evaluate es (environment c.state)))

-- The step of the act that a place names. If it names none, the first item is skipped.
abbrev pub stored_named : List TypedProcedure → ℕ → ℕ → Option Act → Stored → Decision
    → StoredOutcomes
stored_named ps p place (Some a) c d = stored_act ps p place a c d
stored_named ps p place None c d = surely (going c (behind c) c.state)

-- The step of a return to a call with the given targets and procedure. The callers begin with the
-- last one; if there is none, the item is skipped.
abbrev pub stored_return : List TypedProcedure → List ℕ × ℕ → Stored → List Lists → StoredOutcomes
stored_return ps call c [] = surely (going c (behind c) c.state)
stored_return ps call c (f ∷ fs) = surely (resumed c call.0 (procedure_at ps call.1) (reverse fs) f)

-- The step of the first item. An output takes the decided value if it has the output's type,
-- otherwise false or 0.
abbrev pub stored_item : List TypedProcedure → Numbered → Stored → Decision → StoredOutcomes
stored_item ps (Do p place) c d = stored_named ps p place (act_named ps p place) c d
stored_item ps (Turn p place) c d = stored_named ps p place (act_named ps p place) c d
stored_item ps (Out q x) c d =
    surely (asked (assigned c x (fit (types_of (procedure_at ps q) x) (value_of d))))
stored_item ps (Back p place) c d =
    stored_return ps (call_parts (act_named ps p place)) c (reverse c.frames)

-- The step of the first of the items, with no outcome if there is none.
abbrev pub stored_items : List TypedProcedure → List Numbered → Stored → Decision → StoredOutcomes
stored_items ps [] c d = []
stored_items ps (i ∷ is) c d = stored_item ps i c d

-- `stored_step ps c d`: the outcomes of one step of `c` under the decision `d`. A terminated
-- configuration has none.
abbrev pub stored_step : List TypedProcedure → Stored → Decision → StoredOutcomes
stored_step ps c d = stored_items ps c.items c d

-- The step within both limits. If both are exceeded, the result is `bits`.
abbrev pub stored_reply : List TypedProcedure → Stored → Decision → Reply
stored_reply ps c d = replied (items_fit (items_of ps c.items) (config_of ps c))
    (stored_step ps c d)
