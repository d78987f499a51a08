-- Worked replies of `run`: the cases of its reply in their order, for a file of four procedures.
use Rattle.heylo_formula.specs.Formula.{Form, Term}
use Rattle.heylo_formula.specs.declared.types.Ty.{Ty}
use Rattle.heyvl_num.specs.Exact.{exact_order, exact_product, exact_sum, order_fits, product_fits, sum_fits}
use Rattle.heyvl_num.specs.ExtendedNumbers.{value_of}
use Rattle.heyvl_num.specs.Gcd.{gcd, gcd_steps}
use Rattle.heyvl_num.specs.Rational.{Rational, compareʳ, halfʳ, leqʳ, oneʳ, ratio, zeroʳ, ◌*ʳ◌, ◌+ʳ◌, ◌-ʳ◌}
use Rattle.heyvl_num.specs.Value.Value.{finite, infinite}
use Rattle.heyvl_num.specs.Value.{Value, infinite_times, is_zeroʳ, leqᵛ, oneᵛ, zeroᵛ, ◌*ᵛ◌, ◌+ᵛ◌}
use Rattle.heyvl_num.specs.WeightedSums.{joined, scaled}
use Rattle.heyvl_num.specs.declared.extended_numbers.Ext.{Ext}
use Rattle.heyvl_places.specs.declared.spans.Span.{Span}
use Rattle.command_rules.specs.Messages.{Reply, message}
use Rattle.command_rules.specs.commands.Run.IsRunOf.{by_name, by_program, by_run, by_script}
use Rattle.command_rules.specs.commands.Run.{IsRunOf, TellsRun, no_procedure, no_program, run_reply, runs_by, script_fault}
use Rattle.command_rules.specs.RunStarts.IsFirstNoProgram.{itself, reached}
use Rattle.command_rules.specs.RunStarts.{IsFirstNoProgram, known_at, procedure_named}
use Rattle.command_rules.specs.declared.faults.Fault.TheVariants as faults
use Rattle.heyvl_acts.specs.Acts.{Act, Acts, TypedProcedure, procedure_at}
use Rattle.heyvl_acts.specs.Program.Reaches.{directly, onward}
use Rattle.heyvl_acts.specs.Program.{Calls, IsProgram, Reaches}
use Rattle.run_machine.specs.ConfigConditions.{ReachesPrograms}
use Rattle.run_script.proofs.exported.PlainReader.{read_right}
use Rattle.run_script.proofs.exported.UniqueScripts.{faults_are_unique, scripts_have_no_fault}
use Rattle.run_script.specs.Scripts.{IsFirstFault, Known, Script, Spells}
use Rattle.run_script.specs.Texts.{sums_text}
use Rattle.run_unroller.specs.MergedLists.{merged_onto}
use Rattle.run_unroller.specs.Totals.{Totals}
use Rattle.run_unroller.specs.Unrolling.{Unrolling, unrolling_of}
use Rattle.run_unroller.specs.declared.answers.Unrolled.TheVariants as answers
use Rattle.run_unroller.specs.declared.answers.Unrolled.{Unrolled}
use Rattle.std.proofs.Common.{List, None, Option, Some, [], ap, arith, codes, false, pos, refl, subst, sym, true, ◌<◌, ◌∙◌, ◌∷◌, ◌≡◌, ℕ}
use Rattle.std.proofs.lemmas.Bool.{false≢true}
use Rattle.std.specs.Fmt.{digits}
use Rattle.std.specs.Prelude.{Vec}
use Rattle.std.specs.declared.alloc.Global.{Global}
use Prim.Native.Nat.{suc, zero}

-- ---- The file

abbrev place : Span
place = record { from = 0; to = 0 }

abbrev body : List Act → Option Acts
body acts = Some (listed acts)
  where
    listed : List Act → Acts
    listed [] = Acts.done
    listed (act ∷ rest) = Acts.next act (listed rest)

-- A coproc with one output x of UInt, whose post is x.
abbrev over_x : List ℕ → Option Acts → TypedProcedure
over_x name acts = record { name = name; co = true; weak = false; inputs = []; outputs = record { name = codes "x"; ty = Ty.UInt } ∷ []; locals = []; pre = Form.number zeroᵛ; post = Form.variable 0; body = acts; loops = 0; span = place }

abbrev count : ℕ → Term
count n = Term.number (Form.number (finite (ratio (pos n) 1)))

-- `coin` sets x to 1 or 0 with probability 1/2 each and has the reward 3; `bare` has no body;
-- `caller` calls `bare`, and `late` calls `coin`.
abbrev file : List TypedProcedure
file =
    over_x (codes "coin") (body (Act.draw 0 ((halfʳ, count 1) ∷ (halfʳ, count 0) ∷ []) place ∷ Act.reward (Form.number (finite (ratio (pos 3) 1))) place ∷ []))
    ∷ over_x (codes "bare") None
    ∷ over_x (codes "caller") (body (Act.call (0 ∷ []) 1 [] place ∷ []))
    ∷ over_x (codes "late") (body (Act.call (0 ∷ []) 0 [] place ∷ []))
    ∷ []

abbrev Says : List ℕ → List ℕ → Reply → Type 0
Says name script reply = IsRunOf name script file reply

-- ---- The texts that are read

-- No text is both an invalid script and a script.
never_both : (known : Known) (bytes : List ℕ) (n : ℕ) (s : Script) → IsFirstFault known bytes n → Spells known s bytes → ⊥
never_both known bytes n s fault spells = scripts_have_no_fault known s bytes n spells fault

one_number : (p q : ℕ) → ◌≡◌ {A = Option ℕ} (Some p) (Some q) → p ≡ q
one_number p q e = cc

none_is_some : (p : ℕ) → ◌≡◌ {A = Option ℕ} None (Some p) → ⊥
none_is_some p e = cc

some_is_none : (p : ℕ) → ◌≡◌ {A = Option ℕ} (Some p) None → ⊥
some_is_none p e = cc

-- ---- An invalid script

-- `step` for `steps`.
abbrev misspelled : List ℕ
misspelled = codes "step 1\n"

-- An invalid script is reported for any name, of a procedure or not.
fault_of_script : (Says (codes "coin") misspelled (script_fault 1)) × (Says (codes "caller") misspelled (script_fault 1)) × (Says (codes "nobody") misspelled (script_fault 1))
fault_of_script = (
  by_script 1 (read_right (known_at file (procedure_named (codes "coin") file)) misspelled) refl,
  by_script 1 (read_right (known_at file (procedure_named (codes "caller") file)) misspelled) refl,
  by_script 1 (read_right (known_at file (procedure_named (codes "nobody") file)) misspelled) refl,
)

fault_line : script_fault 1 ≡ message (faults.Script 1) (codes "script line 1: fault\n")
unfolding digits
fault_line = refl

-- Nothing else is reported, even if there is no such procedure or it is no program.
script_only : (name : List ℕ) (reply : Reply) → IsFirstFault (known_at file (procedure_named name file)) misspelled 1 → Says name misspelled reply → reply ≡ script_fault 1
script_only name reply broken (by_script line fault e) = e ∙ ap script_fault (faults_are_unique (known_at file (procedure_named name file)) misspelled line 1 fault broken)
script_only name reply broken (by_name s read none e) = absurd (never_both (known_at file (procedure_named name file)) misspelled 1 s broken read)
script_only name reply broken (by_program s read p named q first e) = absurd (never_both (known_at file (procedure_named name file)) misspelled 1 s broken read)
script_only name reply broken (by_run s read p named programs tells) = absurd (never_both (known_at file (procedure_named name file)) misspelled 1 s broken read)

not_no_procedure : faults.NoProcedure ≡ faults.Script 1 → ⊥
not_no_procedure e = cc

no_name_before_the_script : Says (codes "nobody") misspelled no_procedure → ⊥
no_name_before_the_script said = not_no_procedure (ap (λ (r : Reply). r.fault) (script_only (codes "nobody") no_procedure (read_right (known_at file (procedure_named (codes "nobody") file)) misspelled) said))

not_no_program : (q : ℕ) → faults.NotProgram q ≡ faults.Script 1 → ⊥
not_no_program q e = cc

no_program_before_the_script : Says (codes "bare") misspelled (no_program file 1) → ⊥
no_program_before_the_script said = not_no_program 1 (ap (λ (r : Reply). r.fault) (script_only (codes "bare") (no_program file 1) (read_right (known_at file (procedure_named (codes "bare") file)) misspelled) said))

-- ---- A name that no procedure has

abbrev two_steps : List ℕ
two_steps = codes "steps 2\n"

abbrev said : Script
said = record { steps = 2; settings = []; decisions = [] }

-- The text spells the script for every procedure.
two_spelled : (name : List ℕ) → Spells (known_at file (procedure_named name file)) said two_steps
two_spelled name = by (known_at file (procedure_named name file))
  where
    by : (known : Known) → Spells known said two_steps
    by None = read_right None two_steps
    by (Some variables) = read_right (Some variables) two_steps

no_such_name : Says (codes "nobody") two_steps (message faults.NoProcedure (codes "no such procedure\n"))
no_such_name = by_name said (two_spelled (codes "nobody")) refl refl

no_such_name_only : (reply : Reply) → Says (codes "nobody") two_steps reply → reply ≡ no_procedure
no_such_name_only reply (by_script line fault e) = absurd (never_both (known_at file (procedure_named (codes "nobody") file)) two_steps line said fault (two_spelled (codes "nobody")))
no_such_name_only reply (by_name s read none e) = e
no_such_name_only reply (by_program s read p named q first e) = absurd (none_is_some p named)
no_such_name_only reply (by_run s read p named programs tells) = absurd (none_is_some p named)

-- ---- Procedures that are no programs

bare_is_no_program : IsProgram (procedure_at file 1) → ⊥
bare_is_no_program e = cc

caller_reaches_bare : Reaches file 2 1
caller_reaches_bare = directly 2 1 refl

-- `caller` is a program, and `bare` is the first procedure that it reaches and that is none.
first_of_caller : IsFirstNoProgram file 2 1
first_of_caller = reached 1 refl caller_reaches_bare bare_is_no_program before
  where
    before : (r : ℕ) → r < 1 → Reaches file 2 r → IsProgram (procedure_at file r)
    before zero less reaches = refl
    before (suc r) less reaches = absurd (omega (arith, less))

abbrev bare_told : Reply
bare_told = message (faults.NotProgram 1) (codes "bare is not a program\n")

told_of_itself : Says (codes "bare") two_steps bare_told
told_of_itself = by_program said (two_spelled (codes "bare")) 1 refl 1 (itself bare_is_no_program) refl

told_of_the_reached : Says (codes "caller") two_steps bare_told
told_of_the_reached = by_program said (two_spelled (codes "caller")) 2 refl 1 first_of_caller refl

-- The reported procedure is no program; `caller` is not reported.
one_of_caller : (q : ℕ) → IsFirstNoProgram file 2 q → IsProgram (procedure_at file q) → ⊥
one_of_caller q (itself differs) = differs
one_of_caller q (reached r program reaches differs before) = differs

caller_only : (reply : Reply) → Says (codes "caller") two_steps reply → (reply.fault ≡ faults.Nothing → ⊥) × (reply.fault ≡ faults.NotProgram 2 → ⊥)
caller_only reply (by_script line fault e) = absurd (never_both (known_at file (procedure_named (codes "caller") file)) two_steps line said fault (two_spelled (codes "caller")))
caller_only reply (by_name s read none e) = absurd (some_is_none 2 none)
caller_only reply (by_program s read p named q first e) = (λ done. no_done q (sym (ap (λ (r : Reply). r.fault) e) ∙ done), λ blamed. no_blame (sym (ap (λ (r : Reply). r.fault) e) ∙ blamed))
  where
    no_done : (n : ℕ) → faults.NotProgram n ≡ faults.Nothing → ⊥
    no_done n same = cc

    numbers : (n m : ℕ) → faults.NotProgram n ≡ faults.NotProgram m → n ≡ m
    numbers n m same = cc

    no_blame : faults.NotProgram q ≡ faults.NotProgram 2 → ⊥
    no_blame same = one_of_caller 2 (subst (λ (n : ℕ). IsFirstNoProgram file 2 n) (numbers q 2 same) (subst (λ (n : ℕ). IsFirstNoProgram file n q) (sym (one_number 2 p named)) first)) refl
caller_only reply (by_run s read p named programs tells) = absurd (bare_is_no_program (programs.reached 1 (subst (λ (n : ℕ). Reaches file n 1) (one_number 2 p named) caller_reaches_bare)))

-- ---- Sums

no_calls : (r : ℕ) → Calls file 0 r → ⊥
no_calls r e = false≢true e

coin_reaches_none : (r : ℕ) → Reaches file 0 r → ⊥
coin_reaches_none r (directly p q calls) = no_calls q calls
coin_reaches_none r (onward p q u calls more) = no_calls q calls

coin_is_alone : ReachesPrograms file 0
coin_is_alone = record { itself = refl; reached = λ r reaches. absurd (coin_reaches_none r reaches) }

-- The text of sums, or no text if the runs were stopped.
abbrev text_of : Unrolling → List ℕ
text_of (Unrolling.sums t) = sums_text t
text_of (Unrolling.stopped cause n) = []

-- After two steps both runs have terminated, and each has the reward that it paid before.
two_steps_text : text_of (runs_by file 0 said) ≡ codes "post 1/2\nreward 3\nrunning 0\n"
unfolding digits merged_onto joined scaled halfʳ ratio gcd gcd_steps zeroʳ oneʳ zeroᵛ oneᵛ ◌+ʳ◌ ◌*ʳ◌ ◌-ʳ◌ ◌+ᵛ◌ ◌*ᵛ◌ infinite_times is_zeroʳ leqʳ leqᵛ compareʳ exact_sum sum_fits exact_product product_fits exact_order order_fits
two_steps_text = refl

one_step_text : text_of (runs_by file 0 (record said { steps = 1 })) ≡ codes "post 0\nreward 0\nrunning 1\n"
unfolding digits merged_onto joined scaled halfʳ ratio gcd gcd_steps zeroʳ oneʳ zeroᵛ oneᵛ ◌+ʳ◌ ◌*ʳ◌ ◌-ʳ◌ ◌+ᵛ◌ ◌*ᵛ◌ infinite_times is_zeroʳ leqʳ leqᵛ compareʳ exact_sum sum_fits exact_product product_fits exact_order order_fits
one_step_text = refl

-- A reply that gives the result of `coin` for two steps has these numbers.
coin_only : (reply : Reply) → TellsRun file 0 said reply → reply ≡ message faults.Nothing (codes "post 1/2\nreward 3\nrunning 0\n")
coin_only reply tells = by tells.answer tells.unrolls tells.told
  where
    short : [] ≡ codes "post 1/2\nreward 3\nrunning 0\n" → ⊥
    short e = cc

    by : (u : Unrolled) → unrolling_of u ≡ runs_by file 0 said → reply ≡ run_reply u → reply ≡ message faults.Nothing (codes "post 1/2\nreward 3\nrunning 0\n")
    by (answers.Sums sums) unrolls e = e ∙ ap (message faults.Nothing) (ap text_of unrolls ∙ two_steps_text)
    by (answers.Full step) unrolls e = absurd (short (ap text_of unrolls ∙ two_steps_text))
    by (answers.Deep step) unrolls e = absurd (short (ap text_of unrolls ∙ two_steps_text))
    by (answers.Bits step) unrolls e = absurd (short (ap text_of unrolls ∙ two_steps_text))

-- The sums, if nothing stops the runs.
abbrev totals_in : Unrolling → Totals
totals_in (Unrolling.sums t) = t
totals_in (Unrolling.stopped cause n) = record { post = infinite; reward = infinite; running = zeroʳ; turns = [] }

abbrev coin_totals : Totals
coin_totals = totals_in (runs_by file 0 said)

coin_comes_to : Unrolling.sums coin_totals ≡ runs_by file 0 said
unfolding digits merged_onto joined scaled halfʳ ratio gcd gcd_steps zeroʳ oneʳ zeroᵛ oneᵛ ◌+ʳ◌ ◌*ʳ◌ ◌-ʳ◌ ◌+ᵛ◌ ◌*ᵛ◌ infinite_times is_zeroʳ leqʳ leqᵛ compareʳ exact_sum sum_fits exact_product product_fits exact_order order_fits
coin_comes_to = refl

coin_has_no_loop : coin_totals.turns ≡ []
unfolding digits merged_onto joined scaled halfʳ ratio gcd gcd_steps zeroʳ oneʳ zeroᵛ oneᵛ ◌+ʳ◌ ◌*ʳ◌ ◌-ʳ◌ ◌+ᵛ◌ ◌*ᵛ◌ infinite_times is_zeroʳ leqʳ leqᵛ compareʳ exact_sum sum_fits exact_product product_fits exact_order order_fits
coin_has_no_loop = refl

module _ (none : Vec Rational Global) (no_turns : none.items ≡ []) where
  abbrev extended : Value → Ext
  extended (finite x) = Ext.Fin x
  extended infinite = Ext.Inf

  held : (v : Value) → value_of (extended v) ≡ v
  held (finite x) = refl
  held infinite = refl

  -- The result of the program with these sums, without loops.
  abbrev answer : Totals → Unrolled
  answer t = answers.Sums (record { post = extended t.post; reward = extended t.reward; running = t.running; turns = none })

  abbrev sums_of : Value → Value → Rational → List Rational → Unrolling
  sums_of post reward running turns = Unrolling.sums (record { post = post; reward = reward; running = running; turns = turns })

  answers_it : (t : Totals) → t.turns ≡ [] → unrolling_of (answer t) ≡ Unrolling.sums t
  answers_it t e =
      ap (λ (v : Value). sums_of v (value_of (extended t.reward)) t.running none.items) (held t.post)
      ∙ ap (λ (v : Value). sums_of t.post v t.running none.items) (held t.reward)
      ∙ ap (λ (turns : List Rational). sums_of t.post t.reward t.running turns) (no_turns ∙ sym e)

  coin_is_told : unrolling_of (answer coin_totals) ≡ runs_by file 0 said
  coin_is_told = answers_it coin_totals coin_has_no_loop ∙ coin_comes_to

  told_of_coin : Says (codes "coin") two_steps (message faults.Nothing (codes "post 1/2\nreward 3\nrunning 0\n"))
  told_of_coin = by_run said (two_spelled (codes "coin")) 0 refl coin_is_alone (record { answer = answer coin_totals; unrolls = coin_is_told; told = sym (ap (message faults.Nothing) (ap text_of coin_is_told ∙ two_steps_text)) })

-- ---- Runs that are stopped

stopped : (run_reply (answers.Full 3) ≡ message (faults.Run (answers.Full 3)) (codes "run stopped at step 3: runs\n"))
    × (run_reply (answers.Deep 1) ≡ message (faults.Run (answers.Deep 1)) (codes "run stopped at step 1: values\n"))
    × (run_reply (answers.Bits 10001) ≡ message (faults.Run (answers.Bits 10001)) (codes "run stopped at step 10001: bits\n"))
unfolding digits
stopped = (refl, refl, refl)

stopped_status : ((run_reply (answers.Full 3)).status ≡ 8) × ((run_reply (answers.Bits 1)).status ≡ 8) × ((message faults.Nothing []).status ≡ 0)
stopped_status = (refl, refl, refl)
