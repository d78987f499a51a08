-- The fresh variables of a body's calls: for each call, in the order of the text, the inputs and
-- then the outputs of the called procedure, with their names and types. This project's own.
use Rattle.std.specs.Prelude.{List, [], ◌++◌}
use Rattle.heyvl_acts.specs.Acts.{Act, Acts, Arms, Variable, TypedProcedure, procedure_at}

abbrev mutual
  -- The fresh variables of an act and of the acts in it.
  pub fresh_of_act : List TypedProcedure → Act → List Variable
  fresh_of_act ps (Act.set x t span) = []
  fresh_of_act ps (Act.draw x qs span) = []
  fresh_of_act ps (Act.toss x f span) = []
  fresh_of_act ps (Act.any x up ty span) = []
  fresh_of_act ps (Act.reward f span) = []
  fresh_of_act ps (Act.ifs arms e span) = fresh_of_arms ps arms ++ fresh ps e
  fresh_of_act ps (Act.pick up a b span) = fresh ps a ++ fresh ps b
  fresh_of_act ps (Act.check kind f span) = []
  fresh_of_act ps (Act.validate co span) = []
  fresh_of_act ps (Act.loop h b) = fresh ps b
  fresh_of_act ps (Act.call xs q es span) =
      (procedure_at ps q).inputs ++ (procedure_at ps q).outputs

  -- The fresh variables of acts, in the order of the text.
  pub fresh : List TypedProcedure → Acts → List Variable
  fresh ps Acts.done = []
  fresh ps (Acts.next a rest) = fresh_of_act ps a ++ fresh ps rest

  -- The fresh variables of arms, in the order of the text.
  pub fresh_of_arms : List TypedProcedure → Arms → List Variable
  fresh_of_arms ps Arms.no_arm = []
  fresh_of_arms ps (Arms.arm g b more) = fresh ps b ++ fresh_of_arms ps more
