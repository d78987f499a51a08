-- How the steps of acts change a stored configuration, which names acts by their places. This
-- project's own.
use Rattle.std.specs.Prelude.{◌+◌, ◌==◌, ℕ, List, [], ◌∷◌, ◌++◌, set, drop, map, length, get_or}
use Rattle.std.specs.Prelude.{if◌then◌else◌}
use Prim.Native.Nat.{zero, suc}
use Rattle.heyvl_num.specs.Rational.{Rational}
use Rattle.heyvl_num.specs.Value.{Value, ◌+ᵛ◌}
use Rattle.heylo_formula.specs.Choices.{Choices}
use Rattle.heylo_formula.specs.Formula.{Cond, Term}
use Rattle.heylo_formula.specs.Meaning.{holds, term_value}
use Rattle.heylo_formula.specs.State.{Env, environment}
use Rattle.heylo_formula.specs.declared.values.Val.{Val}
use Rattle.heyvl_acts.specs.Acts.{Acts, Arms, TypedProcedure, acts_in}
use Rattle.heyvl_acts.specs.Places.{in_order}
use Rattle.run_machine.specs.declared.configurations.Item.TheVariants.{Turn, Out, Back}
use Rattle.run_machine.specs.Configurations.{first_state, outputs_of, set_all}
use Rattle.run_machine.specs.Names.{Numbered, Lists, Stored, numbered}
use Rattle.run_machine.specs.Replies.{StoredOutcomes}

-- The items after the first.
abbrev pub behind : Stored → List Numbered
behind c = drop 1 c.items

-- `going c is s`: `c` with the items `is` and the state `s`.
abbrev pub going : Stored → List Numbered → List Val → Stored
going c is s = record {
  procedure = c.procedure;
  items = is;
  state = s;
  frames = c.frames;
  reward = c.reward;
  turns = c.turns;
  made = c.made;
}

-- `c` after one more decision was asked for.
abbrev pub asked : Stored → Stored
asked c = record {
  procedure = c.procedure;
  items = c.items;
  state = c.state;
  frames = c.frames;
  reward = c.reward;
  turns = c.turns;
  made = c.made + 1;
}

-- `assigned c x v`: `c` without its first item, in which `x` has the value `v`.
abbrev pub assigned : Stored → ℕ → Val → Stored
assigned c x v = going c (behind c) (set c.state x v)

-- The outcome of one part of a draw.
abbrev pub stored_branch : Stored → ℕ → Rational × Term → Rational × Stored
stored_branch c x q = (q.0, assigned c x (term_value q.1 (environment c.state)))

-- The outcomes of a draw, one for each part, in order.
abbrev pub stored_branches : Stored → ℕ → List (Rational × Term) → StoredOutcomes
stored_branches c x qs = map (stored_branch c x) qs

-- `collected c v`: `c` without its first item, and `v` added to its reward.
abbrev pub collected : Stored → Value → Stored
collected c v = record {
  procedure = c.procedure;
  items = behind c;
  state = c.state;
  frames = c.frames;
  reward = c.reward +ᵛ v;
  turns = c.turns;
  made = c.made;
}

-- `opened c p place acts`: `c` with the items of `acts`, the first of which is at `place`, instead
-- of its first item.
abbrev pub opened : Stored → ℕ → ℕ → Acts → Stored
opened c p place acts = going c (numbered p place acts ++ behind c) c.state

-- The place of the block that an if takes. `n` is the place of its first block.
abbrev pub taken_place : ℕ → Arms → Env → ℕ
taken_place n Arms.no_arm s = n
taken_place n (Arms.arm g b more) s = if holds g s Choices.stop then n
    else taken_place (n + length (in_order b)) more s

-- `more_turns n ts`: the counts `ts` with one more iteration of the loop `n`. The loops are
-- numbered from 1.
abbrev pub more_turns : ℕ → List ℕ → List ℕ
more_turns zero ts = ts
more_turns (suc n) ts = set ts n (get_or ts n 0 + 1)

-- The configuration in which the body of the loop at `place` comes before the next test. The
-- iteration counts only if the loop's procedure is the one that was started.
abbrev pub turned_at : Stored → ℕ → ℕ → ℕ → Acts → Stored
turned_at c p place number b = record {
  procedure = c.procedure;
  items = numbered p (place + 1) b ++ (Turn p place ∷ behind c);
  state = c.state;
  frames = c.frames;
  reward = c.reward;
  turns = if p == c.procedure then more_turns number c.turns
      else c.turns;
  made = c.made;
}

-- The configuration after the test of the loop at `place`.
abbrev pub tested : Stored → ℕ → ℕ → Cond → ℕ → Acts → Stored
tested c p place guard number b = if holds guard (environment c.state) Choices.stop
    then turned_at c p place number b else going c (behind c) c.state

-- `out_items q n k`: items for `k` outputs of the procedure `q`, numbered from `n`.
abbrev pub out_items : ℕ → ℕ → ℕ → List Numbered
out_items q n zero = []
out_items q n (suc k) = Out q n ∷ out_items q (suc n) k

-- The configuration after a call: the callee's outputs take any value, its body runs, and it
-- returns to the call at `place`.
abbrev pub entered : Stored → ℕ → ℕ → ℕ → TypedProcedure → List Val → Stored
entered c p place q callee vs = record {
  procedure = c.procedure;
  items = out_items q (length callee.inputs) (length callee.outputs)
      ++ (numbered q 0 (acts_in callee.body) ++ (Back p place ∷ []));
  state = first_state callee vs;
  frames = c.frames ++ ((behind c, c.state) ∷ []);
  reward = c.reward;
  turns = c.turns;
  made = c.made;
}

-- The configuration after a return to the last caller `f`: the targets `xs` have the values of the
-- outputs.
abbrev pub resumed : Stored → List ℕ → TypedProcedure → List Lists → Lists → Stored
resumed c xs callee fs f = record {
  procedure = c.procedure;
  items = f.0;
  state = set_all xs (outputs_of callee c.state) f.1;
  frames = fs;
  reward = c.reward;
  turns = c.turns;
  made = c.made;
}
