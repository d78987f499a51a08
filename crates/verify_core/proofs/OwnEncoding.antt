-- Acts without loops and calls are their own encoding.
use Rattle.std.proofs.Common.{◌≡◌, ◌+◌, ℕ, refl, ap, ◌∙◌, List, [], ◌++◌, length}
use Rattle.heyvl_acts.specs.Acts.{Act, Acts, Arms, TypedProcedure, join}
use Rattle.heyvl_acts.specs.Places.{in_order, inside, inside_arms}
use Rattle.heyvl_acts.specs.Rules.{Each}
use Rattle.heyvl_acts.specs.Straight.{IsStraight}
use Rattle.loop_encodings.specs.Encoding.{encoded, encoded_act, encoded_arms}
use Rattle.loop_encodings.specs.Fresh.{fresh, fresh_of_act, fresh_of_arms}
use Rattle.loop_encodings.proofs.exported.FromRules.{each_first, each_second}

mutual
  pub none_fresh : (ps : List TypedProcedure) (acts : Acts) → Each IsStraight (in_order acts) → fresh ps acts ≡ []
  none_fresh ps Acts.done h = refl
  none_fresh ps (Acts.next a rest) h = ap (λ l. l ++ fresh ps rest) (none_fresh_in ps a h.0 (each_first IsStraight (inside a) (in_order rest) h.1)) ∙ none_fresh ps rest (each_second IsStraight (inside a) (in_order rest) h.1)

  none_fresh_in : (ps : List TypedProcedure) (a : Act) → IsStraight a → Each IsStraight (inside a) → fresh_of_act ps a ≡ []
  none_fresh_in ps (Act.set x t span) h k = refl
  none_fresh_in ps (Act.draw x qs span) h k = refl
  none_fresh_in ps (Act.toss x f span) h k = refl
  none_fresh_in ps (Act.any x up ty span) h k = refl
  none_fresh_in ps (Act.reward f span) h k = refl
  none_fresh_in ps (Act.ifs arms e span) h k = ap (λ l. l ++ fresh ps e) (none_fresh_arms ps arms (each_first IsStraight (inside_arms arms) (in_order e) k)) ∙ none_fresh ps e (each_second IsStraight (inside_arms arms) (in_order e) k)
  none_fresh_in ps (Act.pick up a b span) h k = ap (λ l. l ++ fresh ps b) (none_fresh ps a (each_first IsStraight (in_order a) (in_order b) k)) ∙ none_fresh ps b (each_second IsStraight (in_order a) (in_order b) k)
  none_fresh_in ps (Act.check kind f span) h k = refl
  none_fresh_in ps (Act.validate co span) h k = refl
  none_fresh_in ps (Act.loop g b) h k = absurd h
  none_fresh_in ps (Act.call xs q es span) h k = absurd h

  none_fresh_arms : (ps : List TypedProcedure) (arms : Arms) → Each IsStraight (inside_arms arms) → fresh_of_arms ps arms ≡ []
  none_fresh_arms ps Arms.no_arm h = refl
  none_fresh_arms ps (Arms.arm g b more) h = ap (λ l. l ++ fresh_of_arms ps more) (none_fresh ps b (each_first IsStraight (in_order b) (inside_arms more) h)) ∙ none_fresh_arms ps more (each_second IsStraight (in_order b) (inside_arms more) h)

mutual
  pub itself : (ps : List TypedProcedure) (p : TypedProcedure) (m : ℕ) (acts : Acts) → Each IsStraight (in_order acts) → encoded ps p m acts ≡ acts
  itself ps p m Acts.done h = refl
  itself ps p m (Acts.next a rest) h = ap (λ x. join x (encoded ps p (m + length (fresh_of_act ps a)) rest)) (itself_in ps p m a h.0 (each_first IsStraight (inside a) (in_order rest) h.1)) ∙ ap (λ r. Acts.next a r) (itself ps p (m + length (fresh_of_act ps a)) rest (each_second IsStraight (inside a) (in_order rest) h.1))

  itself_in : (ps : List TypedProcedure) (p : TypedProcedure) (m : ℕ) (a : Act) → IsStraight a → Each IsStraight (inside a) → encoded_act ps p m a ≡ Acts.next a Acts.done
  itself_in ps p m (Act.set x t span) h k = refl
  itself_in ps p m (Act.draw x qs span) h k = refl
  itself_in ps p m (Act.toss x f span) h k = refl
  itself_in ps p m (Act.any x up ty span) h k = refl
  itself_in ps p m (Act.reward f span) h k = refl
  itself_in ps p m (Act.ifs arms e span) h k = ap (λ x. Acts.next (Act.ifs x (encoded ps p (m + length (fresh_of_arms ps arms)) e) span) Acts.done) (itself_arms ps p m arms (each_first IsStraight (inside_arms arms) (in_order e) k)) ∙ ap (λ x. Acts.next (Act.ifs arms x span) Acts.done) (itself ps p (m + length (fresh_of_arms ps arms)) e (each_second IsStraight (inside_arms arms) (in_order e) k))
  itself_in ps p m (Act.pick up a b span) h k = ap (λ x. Acts.next (Act.pick up x (encoded ps p (m + length (fresh ps a)) b) span) Acts.done) (itself ps p m a (each_first IsStraight (in_order a) (in_order b) k)) ∙ ap (λ x. Acts.next (Act.pick up a x span) Acts.done) (itself ps p (m + length (fresh ps a)) b (each_second IsStraight (in_order a) (in_order b) k))
  itself_in ps p m (Act.check kind f span) h k = refl
  itself_in ps p m (Act.validate co span) h k = refl
  itself_in ps p m (Act.loop g b) h k = absurd h
  itself_in ps p m (Act.call xs q es span) h k = absurd h

  itself_arms : (ps : List TypedProcedure) (p : TypedProcedure) (m : ℕ) (arms : Arms) → Each IsStraight (inside_arms arms) → encoded_arms ps p m arms ≡ arms
  itself_arms ps p m Arms.no_arm h = refl
  itself_arms ps p m (Arms.arm g b more) h = ap (λ x. Arms.arm g x (encoded_arms ps p (m + length (fresh ps b)) more)) (itself ps p m b (each_first IsStraight (in_order b) (inside_arms more) h)) ∙ ap (λ x. Arms.arm g b x) (itself_arms ps p (m + length (fresh ps b)) more (each_second IsStraight (in_order b) (inside_arms more) h))
