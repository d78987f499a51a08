use Rattle.std.proofs.Common.{None, Some, refl, sym}
use Rattle.heyvl_num.proofs.exported.Exactness.{exact_sum_some}
use Rattle.run_unroller.proofs.RunEntries.{cause_found, cause_new, put_found, put_new, room, no_room}
use Rattle.run_unroller.proofs.merged_runs.MergedRuns.total.Goals as goal

pub returns-in-Some-add-clause-fits : goal.returns-in-Some-add-clause-fits
returns-in-Some-add-clause-fits c = cause_found _ c.args.config.now c.args.weight.now c.in-Some.held.now c.args.self.now.entries.entries (Some c.in-Some-add.sum) (sym c.in-Some.ensures.value) c.in-Some-add.ensures

pub returns-in-Some-add-clause-sum : goal.returns-in-Some-add-clause-sum
returns-in-Some-add-clause-sum c = put_found c.args.config.now c.args.weight.now c.in-Some.held.now c.in-Some-add.sum c.args.self.now.entries.entries (sym c.in-Some.ensures.value) (sym (exact_sum_some c.in-Some.held.now c.args.weight.now c.in-Some-add.sum c.in-Some-add.ensures))

pub returns-in-None-add-clause-stops : goal.returns-in-None-add-clause-stops
returns-in-None-add-clause-stops c = cause_found _ c.args.config.now c.args.weight.now c.in-Some.held.now c.args.self.now.entries.entries None (sym c.in-Some.ensures.value) c.in-None-add.ensures

pub returns-then-len-lt-MOST_RUNS-clause-fits : goal.returns-then-len-lt-MOST_RUNS-clause-fits
returns-then-len-lt-MOST_RUNS-clause-fits c = cause_new c.args.config.now c.args.weight.now c.args.self.now.entries.entries _ (sym c.in-None.ensures.value) (room c.len.result c.args.self.now.entries.entries c.len.ensures.len c.if-len-lt-MOST_RUNS.true)

pub returns-then-len-lt-MOST_RUNS-clause-sum : goal.returns-then-len-lt-MOST_RUNS-clause-sum
returns-then-len-lt-MOST_RUNS-clause-sum c = put_new c.args.config.now c.args.weight.now c.args.weight.now c.args.self.now.entries.entries (sym c.in-None.ensures.value) refl

pub returns-else-len-lt-MOST_RUNS-clause-stops : goal.returns-else-len-lt-MOST_RUNS-clause-stops
returns-else-len-lt-MOST_RUNS-clause-stops c = cause_new c.args.config.now c.args.weight.now c.args.self.now.entries.entries _ (sym c.in-None.ensures.value) (no_room c.len.result c.args.self.now.entries.entries c.len.ensures.len c.if-len-lt-MOST_RUNS.false)
