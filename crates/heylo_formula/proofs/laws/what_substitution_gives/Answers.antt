use Rattle.heylo_formula.proofs.exported.BinderNames.{names_plain, unnamed}
use Rattle.heylo_formula.proofs.exported.Growth.{grow_subst, deepen_subst}
use Rattle.heylo_formula.proofs.exported.Substitutions.{free_subst, subst_over, kept_subst, kept_subst_in, count_subst, count_subst_in}
use Rattle.heylo_formula.proofs.laws.what_substitution_gives.Goals as goal

pub returns : goal.returns
returns c = record {
  variables = free_subst;
  over = subst_over;
  others = kept_subst;
  others_in_conditions = kept_subst_in;
  grows = λ x t f. (grow_subst x t f, deepen_subst x t f);
  counts = count_subst;
  counts_in_conditions = count_subst_in;
  names = names_plain;
  no_names = unnamed;
}
