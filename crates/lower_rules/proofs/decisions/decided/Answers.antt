use Rattle.std.proofs.lemmas.Result.{IfOk-weaker}
use Rattle.lower_rules.proofs.MadeDecisions.{depth_decided, goal_decided, goal_tells, made_goal, nodes_decided}
use Rattle.lower_rules.proofs.decisions.decided.Goals as goal

pub decide-requires : goal.decide-requires
decide-requires c = let d = made_goal c.args.made.now c.in-Goal.goal c.in-Goal.is c.requires in record { typed = d.typed; own_variables = d.over; stated_small = d.stated; found_small = d.found; few_variables = d.variables }

pub returns-in-Goal-clause-decision : goal.returns-in-Goal-clause-decision
returns-in-Goal-clause-decision c = λ g forms h. IfOk-weaker c.decide.result _ _ (λ d k. goal_decided g forms c.args.made.now c.in-Goal.goal d c.in-Goal.is h k) c.decide.ensures.decision

pub returns-in-Goal-clause-meaning : goal.returns-in-Goal-clause-meaning
returns-in-Goal-clause-meaning c = λ g forms h. IfOk-weaker c.decide.result _ _ (λ d k. goal_tells g forms c.args.made.now c.in-Goal.goal d c.in-Goal.is h k) c.decide.ensures.meaning

pub returns-in-Depth-clause-decision : goal.returns-in-Depth-clause-decision
returns-in-Depth-clause-decision c = λ g forms h. depth_decided g forms c.args.made.now c.in-Depth.is h

pub returns-in-Nodes-clause-decision : goal.returns-in-Nodes-clause-decision
returns-in-Nodes-clause-decision c = λ g forms h. nodes_decided g forms c.args.made.now c.in-Nodes.is h
