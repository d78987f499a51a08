-- The sums of a program are those of its coproc.
use Rattle.pgcl_front.proofs.Beginnings.{begins, begun_sums, from_acts, inputs_typed, starts_are, starts_clean}
use Rattle.pgcl_front.proofs.Matching.{Matches, SameForm}
use Rattle.pgcl_front.proofs.QuietPrograms.{IsQuietProgram, quiet_program}
use Rattle.pgcl_front.proofs.Scopes.{FoundFrom, InScope, found, found_still, head_placed, no_back, no_front}
use Rattle.pgcl_front.proofs.Simulation.{block_stands, same_sums}
use Rattle.pgcl_front.proofs.TranslatedActs.{block_match, count, form_same}
use Rattle.pgcl_front.specs.EqualSums.{GuardedSumsAreEqual, SumsAreEqual, descend}
use Rattle.pgcl_front.specs.GuardedSteps.{does, listed}
use Rattle.pgcl_front.specs.Readings.{own_scope}
use Rattle.heylo_formula.proofs.exported.States.{length-typed}
use Rattle.heylo_formula.specs.Formula.{Form}
use Rattle.heylo_formula.specs.declared.values.Val.TheVariants.{Truth}
use Rattle.heyvl_acts.specs.Acts.{Acts, type_list, variables}
use Rattle.heyvl_num.specs.Value.{zeroᵛ}
use Rattle.heyvl_places.specs.declared.spans.Span.{Span}
use Rattle.heyvl_syntax.specs.Procedures.{Procedure}
use Rattle.heyvl_syntax.specs.Statements as heyvl
use Rattle.static_rules.specs.Files.{arity, file_findings, first_fault, first_quantified, front_of, has_quantified_post, head_scope, input_scope, is_too_large, parameters_findings, posts_findings, pres_findings, procedures_findings, resolved, setting, typed}
use Rattle.typed_expressions.specs.Findings.{Finding, at, first}
use Rattle.typed_expressions.specs.Signatures.{Called, called}
use Rattle.static_rules.specs.StatementActs.{block_acts}
use Rattle.typed_expressions.specs.Values.{form}
use Rattle.static_rules.specs.StatementRules.{block_findings}
use Rattle.typed_expressions.specs.TypedExpressions.{elaborate}
use Rattle.static_rules.specs.Variables.{behind_parameters, locals_of_block, parameters}
use Rattle.typed_expressions.specs.DeclaredVariables.{fronts_variables}
use Rattle.guarded_commands.specs.Programs.{ProgramTree}
use Rattle.guarded_commands.specs.Translation.{first_place, input, output, picks_in, start, statements, translated}
use Rattle.guarded_commands.specs.declared.programs.Declaration.{Declaration}
use Rattle.run_machine.specs.Configurations.{push}
use Rattle.run_machine.specs.Runs.{runs}
use Rattle.run_machine.specs.Sums.{sum_of}
use Rattle.std.proofs.Common.{List, None, [], ap, ap₂, arith, false, length, map, refl, subst, sym, take, true, ◌++◌, ◌+◌, ◌∙◌, ◌∷◌, ◌≡◌, ◌≤◌, ℕ}
use Rattle.std.proofs.lemmas.List.{get_or-take, length-append, length-map, length-take-le}

none_found : (fs : List Finding) → first fs ≡ None → fs ≡ []
none_found [] e = refl
none_found (f ∷ fs) e = absurd (cc)

module _ (place : Span) (program : ProgramTree) where
  abbrev pub main : Procedure
  main = translated place program

  abbrev pub ds : List Declaration
  ds = program.declarations

  abbrev pub v : ℕ
  v = length ds

  abbrev pub names : Called
  names = called (main ∷ [])

  inputs_length : length (map input ds) ≡ v
  inputs_length = length-map ds input

  outputs_length : length (map output ds) ≡ v
  outputs_length = length-map ds output

  -- The coproc has no static error in any of its parts.
  pub record Clean : Type 0 where
    pub inputs : parameters_findings 0 [] (map input ds) ≡ []
    pub outputs : parameters_findings (length (map input ds)) (input_scope main) (map output ds) ≡ []
    pub body : block_findings (setting main) names (has_quantified_post main) (arity main) (head_scope main) (heyvl.block_of (map start ds ++ statements 1 program.body)) ≡ []

  -- The static errors of all parts of the coproc.
  abbrev pub all_parts : List Finding
  all_parts =
      parameters_findings 0 [] (map input ds)
      ++ parameters_findings (length (map input ds)) (input_scope main) (map output ds)
      ++ pres_findings (arity main) (input_scope main) main.pres
      ++ posts_findings (front_of main.co) (first_quantified main) (head_scope main) main.posts
      ++ block_findings (setting main) names (has_quantified_post main) (arity main) (head_scope main) (heyvl.block_of (map start ds ++ statements 1 program.body))
      ++ at main.span ((24, is_too_large names main) ∷ [])

  pub clean : first_fault (main ∷ []) ≡ None → Clean
  clean e =
      let all = no_front all_parts (procedures_findings names (main.name ∷ []) []) (none_found (file_findings (main ∷ [])) e) in
      let to_body = no_front _ _ all in
      let parameters = no_front _ _ (no_front _ _ (no_front _ _ to_body)) in
      record { inputs = no_front _ _ parameters; outputs = no_back _ _ parameters; body = no_back _ _ to_body }

  pub placed : InScope v (own_scope ds) (head_scope main)
  placed = subst (λ n. InScope v (own_scope ds) (behind_parameters n (input_scope main) (map output ds))) (sym inputs_length) (head_placed v ds refl)

  module _ (quiet : IsQuietProgram program) (c : Clean) where
    outputs_found : FoundFrom (v + 0) (map output ds) (head_scope main)
    outputs_found = subst (λ n. FoundFrom n (map output ds) (head_scope main)) (inputs_length ∙ plus_none) (found (length (map input ds)) (map output ds) (input_scope main) c.outputs)
      where
        plus_none : v ≡ v + 0
        plus_none = omega arith

    inputs_found : FoundFrom 0 (map input ds) (head_scope main)
    inputs_found = found_still (length (map input ds)) (map output ds) (input_scope main) c.outputs 0 (map input ds) (found 0 (map input ds) [] c.inputs)

    abbrev pub body_of_commands : Acts
    body_of_commands = block_acts (setting main) names (arity main) 1 (head_scope main) (heyvl.block_of (statements 1 program.body))

    acts_are : block_acts (setting main) names (arity main) 1 (head_scope main) (heyvl.block_of (map start ds ++ statements 1 program.body)) ≡ begins v 0 ds body_of_commands
    acts_are = starts_are main names 1 (head_scope main) (arity main) v 0 ds (statements 1 program.body) outputs_found inputs_found

    -- ---- The number of variables

    starts_declare_none : (xs : List Declaration) → locals_of_block (heyvl.block_of (map start xs ++ statements 1 program.body)) ≡ locals_of_block (heyvl.block_of (statements 1 program.body))
    starts_declare_none [] = refl
    starts_declare_none (x ∷ xs) = starts_declare_none xs

    locals_length : length (locals_of_block (heyvl.block_of (map start ds ++ statements 1 program.body))) ≡ picks_in program.body
    locals_length = ap length (starts_declare_none ds) ∙ count 1 program.body

    abbrev pub size : ℕ
    size = length (variables (typed names main))

    size_is : size ≡ length (map input ds) + (length (map output ds) + (picks_in program.body + length (fronts_variables main.posts)))
    size_is = length-append (parameters (map input ds)) _ ∙ ap₂ (λ x y. x + y) (length-map (map input ds) _)
        (length-append (parameters (map output ds)) _ ∙ ap₂ (λ x y. x + y) (length-map (map output ds) _)
        (length-append (locals_of_block (heyvl.block_of (map start ds ++ statements 1 program.body))) (fronts_variables main.posts) ∙ ap (λ x. x + length (fronts_variables main.posts)) locals_length))

    wide : v + v ≤ size
    wide = omega (arith, size_is, inputs_length, outputs_length)

    arity_is : arity main ≡ v + v
    arity_is = ap₂ (λ x y. x + y) inputs_length outputs_length

    fits : arity main + picks_in program.body ≤ size
    fits = omega (arith, size_is, arity_is, inputs_length, outputs_length)

    -- ---- Sums

    matches : Matches (own_scope ds) v size program.body body_of_commands
    matches = block_match (own_scope ds) v size main names program.body 1 (arity main) 1 (head_scope main) (has_quantified_post main) quiet.body placed (omega (arith, arity_is)) fits (starts_clean main names 1 (head_scope main) (arity main) (has_quantified_post main) ds (statements 1 program.body) c.body)

    abbrev pub post : Form
    post = form (elaborate (first_quantified main) (head_scope main) program.post)

    same_post : SameForm (own_scope ds) v program.post post
    same_post = form_same (own_scope ds) v size main names (first_quantified main) (head_scope main) placed program.post quiet.post

    pub main_sums : GuardedSumsAreEqual program (main ∷ [])
    main_sums begun typed_begun n tree =
        let long : length begun ≡ size = length-typed (type_list (variables (typed names main))) begun typed_begun ∙ length-map (variables (typed names main)) _ in
        let ps = resolved (main ∷ []) in
        let b = begun_sums ps 0 v size wide post begun ds 0 (omega arith) (inputs_typed ds ((typed names main).outputs ++ (typed names main).locals) begun typed_begun) begun long (λ j lj. refl) (λ j lj. absurd (omega (arith, lj))) body_of_commands (λ m. 0) n tree in
        same_sums (own_scope ds) ps 0 v size wide program.post post same_post n (does (listed program.body []) (take v begun) zeroᵛ) (from_acts ps 0 v size wide post begun body_of_commands b.values (λ m. 0)) (descend v tree)
        (record {
          items = push body_of_commands [];
          values = b.values;
          turns = λ m. 0;
          same = refl;
          long = b.long;
          short = length-take-le v begun (omega (arith, long, wide));
          agrees = λ i lt. get_or-take v begun i (Truth false) lt ∙ b.agrees i lt;
          stands = block_stands (own_scope ds) ps 0 v size wide program.body body_of_commands [] [] matches refl;
        })
        ∙ (sym b.sums ∙ ap (λ acts. sum_of true post (runs ps (n + v) (from_acts ps 0 v size wide post begun acts begun (λ m. 0)) tree)) (sym acts_are))

pub sums_are_equal : SumsAreEqual
sums_are_equal tokens file t e =
    let made = translated (first_place tokens) t.program in
    let e' : first_fault (made ∷ []) ≡ None = subst (λ f. first_fault f ≡ None) t.is_file e in
    subst (λ f. GuardedSumsAreEqual t.program f) (sym t.is_file) (main_sums (first_place tokens) t.program (quiet_program t.program tokens t.translatable) (clean (first_place tokens) t.program e'))
