-- The results of the program's evaluation, as those of the definitions.
use Rattle.std.specs.Prelude.{◌≡◌, Bool, Result, Ok, Err}
use Rattle.linear_values.specs.Lin.{Linear}
use Rattle.linear_form.specs.internal.Run.{Evaluation}
use Rattle.linear_values.specs.PlainValues.{linear_of}
use Rattle.linear_form.specs.PlainPaths.{atom_of}
use Rattle.linear_form.specs.declared.cursor.Found as F
use Rattle.linear_form.specs.declared.cursor.Tested as B
use Rattle.linear_form.specs.declared.cursor.Stop as S

abbrev pub Stops : {A : Type 0} → S.Stop → Evaluation A → Type 0
Stops (S.TheVariants.Decide q) o = o ≡ Evaluation.decide (atom_of q.value)
Stops S.TheVariants.Bits o = o ≡ Evaluation.bits
Stops (S.TheVariants.Memory e) o = Unit {0}

-- `Gives r o`: the result `r` of the program is the result `o` of the definition, unless memory ran
-- out.
abbrev pub Gives : Result F.Found S.Stop → Evaluation Linear → Type 0
Gives (Ok r) o = o ≡ Evaluation.value (linear_of r.value) r.next
Gives (Err e) o = Stops e o

abbrev pub GivesTruth : Result B.Tested S.Stop → Evaluation Bool → Type 0
GivesTruth (Ok r) o = o ≡ Evaluation.value r.holds r.next
GivesTruth (Err e) o = Stops e o
