use Rattle.std.proofs.Common.{◌≡◌, [], ◌∷◌, ◌++◌, sym, ap, ◌∙◌, subst, arith}
use Rattle.std.specs.Prelude.{Some, None}
use Rattle.heylo_formula.specs.Goals.{goal_of}
use Rattle.heylo_formula.specs.Typing.{types_in}
use Rattle.linear_values.specs.Tightening.{all_tightened}
use Rattle.linear_form.specs.PathRows.{path_claims}
use Rattle.linear_form.specs.PlainPaths.{path_of, taken_of}
use Rattle.linear_form.specs.declared.paths.Taken as T
use Rattle.region_split.proofs.WalkMoves.{snoc_first, snoc_last}
use Rattle.region_split.proofs.Trails.{path_split}
use Rattle.region_split.proofs.AnsweredBefore.{last_row, no_last_row, one_more}
use Rattle.region_split.proofs.answer_rows.row_of_answer.Goals as goal

pub unreachable-requires-in-None : goal.unreachable-requires-in-None
unreachable-requires-in-None c =
    let g = goal_of c.args.goal.now in
    let e = c.deref.ensures.value ∙ c.in_ok-push.ensures.items in
    let r = subst (λ xs. all_tightened (types_in g.types) (path_claims xs) ≡ Some c.in-Rows.more.items) (path_split c.deref.result.now c.args.path.now.items c.args.answer e) (rw c.in-Rows.is at c.in_ok-list.ensures) in
    let k = c.in-None.ensures.cases in
    let t = c.in-Rows.more.ok.0 in
    absurd (no_last_row g (path_of c.args.path.now.items) (taken_of c.args.answer) c.in-Rows.more.items (record { are_rows = r }) (one_more (path_of c.args.path.now.items) c.args.answer c.requires.comparison) (omega (arith, k, t)))

pub returns-in-Some-pop : goal.returns-in-Some-pop
returns-in-Some-pop c =
    let g = goal_of c.args.goal.now in
    let ps = path_of c.args.path.now.items in
    let e = c.deref.ensures.value ∙ c.in_ok-push.ensures.items in
    let s = sym c.in-Some.ensures.items ∙ c.in_ok-push.ensures.items in
    let i = snoc_first c.pop.new.self.items c.args.path.now.items c.in-Some.last c.args.answer s in
    let j = snoc_last c.pop.new.self.items c.args.path.now.items c.in-Some.last c.args.answer s in
    let r = subst (λ xs. all_tightened (types_in g.types) (path_claims xs) ≡ Some c.in-Rows.more.items) (path_split c.deref.result.now c.args.path.now.items c.args.answer e) (rw c.in-Rows.is at c.in_ok-list.ensures) in
    let m = last_row g ps (taken_of c.args.answer) c.args.rows.now.items c.in-Rows.more.items c.requires.rows (record { are_rows = r }) (one_more ps c.args.answer c.requires.comparison) c.pop-in-Rows.new.self.items c.in-Some-pop.row c.in-Some-pop.ensures.items in (
      ap (λ (a : T.Taken). a.atom) j,
      record {
        same_path = i;
        same_rows = m;
        are_rows = record { are_rows = r ∙ ap Some (c.in-Some-pop.ensures.items ∙ ap (λ xs. xs ++ (c.in-Some-pop.row ∷ [])) m) };
      },
    )

pub returns-in-Bits : goal.returns-in-Bits
returns-in-Bits c =
    let g = goal_of c.args.goal.now in
    let e = c.deref.ensures.value ∙ c.in_ok-push.ensures.items in
    let s = sym c.in-Some.ensures.items ∙ c.in_ok-push.ensures.items in
    let i = snoc_first c.pop.new.self.items c.args.path.now.items c.in-Some.last c.args.answer s in
    let j = snoc_last c.pop.new.self.items c.args.path.now.items c.in-Some.last c.args.answer s in (
      ap (λ (a : T.Taken). a.atom) j,
      record {
        same_path = i;
        no_rows = subst (λ xs. all_tightened (types_in g.types) (path_claims xs) ≡ None) (path_split c.deref.result.now c.args.path.now.items c.args.answer e) (rw c.in-Bits.is at c.in_ok-list.ensures);
      },
    )
