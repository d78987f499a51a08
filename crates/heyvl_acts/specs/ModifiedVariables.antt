-- The variables that a loop modifies: the variables of its scope that are a target in its body.
use Rattle.std.specs.Prelude.{ℕ, ◌==◌, Bool, false, ◌||◌, List, [], ◌∷◌, if◌then◌else◌}
use Rattle.heyvl_acts.specs.Acts.{Act, Acts, Arms}
use Rattle.heyvl_acts.specs.Visible.{among}

abbrev mutual
  -- The act assigns the variable: by an assignment, a draw, a toss, a havoc or a call, nested acts
  -- included.
  pub is_target_of_act : ℕ → Act → Bool
  is_target_of_act x (Act.set y t span) = y == x
  is_target_of_act x (Act.draw y ps span) = y == x
  is_target_of_act x (Act.toss y p span) = y == x
  is_target_of_act x (Act.any y up ty span) = y == x
  is_target_of_act x (Act.reward f span) = false
  is_target_of_act x (Act.ifs arms e span) = is_target_of_arms x arms || is_target_of x e
  is_target_of_act x (Act.pick up a b span) = is_target_of x a || is_target_of x b
  is_target_of_act x (Act.check kind f span) = false
  is_target_of_act x (Act.validate co span) = false
  is_target_of_act x (Act.loop h b) = is_target_of x b
  is_target_of_act x (Act.call ys p es span) = among ys x

  -- One of the acts assigns the variable.
  pub is_target_of : ℕ → Acts → Bool
  is_target_of x Acts.done = false
  is_target_of x (Acts.next a rest) = is_target_of_act x a || is_target_of x rest

  -- An act of an arm assigns the variable.
  pub is_target_of_arms : ℕ → Arms → Bool
  is_target_of_arms x Arms.no_arm = false
  is_target_of_arms x (Arms.arm g b more) = is_target_of x b || is_target_of_arms x more

-- The variables of a scope that are targets in the body, in the order of the scope.
abbrev pub modified : List ℕ → Acts → List ℕ
modified [] b = []
modified (x ∷ xs) b = if is_target_of x b then x ∷ modified xs b else modified xs b
