-- Paths that are not at an end. This project's own.
use Rattle.std.specs.Prelude.{◌≡◌, List}
use Rattle.heylo_formula.specs.Goals.{Goal}
use Rattle.linear_form.specs.Query.{Taken}
use Rattle.linear_form.specs.Query.Query.{done}
use Rattle.linear_form.specs.Questions.{Ends}
use Rattle.linear_form.specs.Paths.{end_at}

-- `IsNoEnd g ps`: at the end of the path `ps` there are no values: a comparison is left, or a
-- number overflows.
abbrev pub IsNoEnd : Goal → List Taken → Type 0
IsNoEnd g ps = (e : Ends) → end_at g ps ≡ done e → ⊥
