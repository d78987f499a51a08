-- A typed procedure from its parts.
use Rattle.heylo_formula.specs.Formula.{Form}
use Rattle.heyvl_acts.specs.Acts.{Acts, TypedProcedure, Variable, acts_in}
use Rattle.heyvl_acts.specs.Count.{count_of}
use Rattle.heyvl_syntax.specs.Procedures.{Procedure}
use Rattle.static_rules.specs.Files.{is_wlp}
use Rattle.std.specs.Prelude.{Bool, List, Option, drop, length, nat_lt, not, take, ◌&&◌, ◌+◌, ◌||◌}
use Rattle.std.specs.Prelude.{ℕ}

-- Whether a procedure with these numbers of parameters and variables and this body is too large.
abbrev pub is_larger : Procedure → ℕ → ℕ → Option Acts → Bool
is_larger p parameters vars body =
    nat_lt 16 parameters
    || nat_lt 64 (length p.pres)
    || nat_lt 64 (length p.posts)
    || nat_lt 256 vars
    || nat_lt 1024 (count_of (acts_in body))

-- The typed procedure of these parts. Of the variables `vars` the first `inputs` are its inputs,
-- the next `outputs` its outputs, and the others its local variables.
abbrev pub with_parts : Procedure → ℕ → ℕ → List Variable → Form → Form → Option Acts → ℕ
    → TypedProcedure
with_parts p inputs outputs vars pre post body loops = record {
  name = p.name;
  co = p.co;
  weak = is_wlp p.note && not p.co;
  inputs = take inputs vars;
  outputs = take outputs (drop inputs vars);
  locals = drop (inputs + outputs) vars;
  pre = pre;
  post = post;
  body = body;
  loops = loops;
  span = p.span;
}
