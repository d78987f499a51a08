-- A property of every result of a tree.
use Rattle.linear_form.specs.Query.{Query, next}
use Rattle.linear_form.specs.Query.Query.{done, bits, ask}
use Rattle.linear_values.specs.Lin.{Linear}
use Rattle.linear_form.specs.Questions.{both}
use Rattle.linear_form.specs.QuestionLaws.{EachResult}

pub each_next : {A B : Type 0} (t : Query A) (f : A → Query B) (P : A → Type 0) (Q : B → Type 0) → EachResult P t → ((a : A) → P a → EachResult Q (f a)) → EachResult Q (next t f)
each_next (done a) f P Q h k = k a h
each_next bits f P Q h k = tt
each_next (ask q y n) f P Q h k = (each_next y f P Q h.0 k, each_next n f P Q h.1 k)

pub each_after : {A B : Type 0} (t : Query A) (f : A → Query B) (Q : B → Type 0) → ((a : A) → EachResult Q (f a)) → EachResult Q (next t f)
each_after (done a) f Q k = k a
each_after bits f Q k = tt
each_after (ask q y n) f Q k = (each_after y f Q k, each_after n f Q k)

pub each_both : {B : Type 0} (t u : Query Linear) (f : Linear → Linear → Query B) (P : Linear → Type 0) (Q : B → Type 0) → EachResult P t → EachResult P u → ((x y : Linear) → P x → P y → EachResult Q (f x y)) → EachResult Q (both t u f)
each_both t u f P Q h k g = each_next t _ P Q h (λ x p. each_next u _ P Q k (λ y r. g x y p r))
