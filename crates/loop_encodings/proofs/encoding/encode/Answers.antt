use Rattle.loop_encodings.proofs.Bodies.{begun, body_count, body_encoding, body_post, body_ready, body_room, body_typed, body_variables}
use Rattle.loop_encodings.proofs.encoding.encode.Goals as goal

pub body_acts-requires-clause-ready : goal.body_acts-requires-clause-ready
body_acts-requires-clause-ready c = body_ready c.args.typed.now c.args.p c.index-procedure.result.now c.requires.rules c.requires.there c.index-procedure.ensures

pub body_acts-requires-clause-room : goal.body_acts-requires-clause-room
body_acts-requires-clause-room c = body_room c.args.typed.now c.args.p c.index-procedure.result.now c.requires.rules c.requires.there c.index-procedure.ensures _ (begun _ _ _ _ c.in_ok-add_variables.ensures c.new-vars.ensures.items c.deref.ensures.value)

pub returns-clause-acts : goal.returns-clause-acts
returns-clause-acts c = body_encoding c.args.typed.now c.args.p c.index-procedure.result.now c.requires.rules c.requires.there c.index-procedure.ensures _ _ (begun _ _ _ _ c.in_ok-add_variables.ensures c.new-vars.ensures.items c.deref.ensures.value) c.in_ok-acts.ensures.acts

pub returns-clause-vars : goal.returns-clause-vars
returns-clause-vars c = body_variables c.args.typed.now c.args.p c.index-procedure.result.now c.requires.rules c.requires.there c.index-procedure.ensures _ _ (begun _ _ _ _ c.in_ok-add_variables.ensures c.new-vars.ensures.items c.deref.ensures.value) c.in_ok-acts.ensures.vars

pub returns-clause-typed : goal.returns-clause-typed
returns-clause-typed c = body_typed c.args.typed.now c.args.p c.index-procedure.result.now c.requires.rules c.requires.there c.index-procedure.ensures _ _
    (body_encoding c.args.typed.now c.args.p c.index-procedure.result.now c.requires.rules c.requires.there c.index-procedure.ensures _ _ (begun _ _ _ _ c.in_ok-add_variables.ensures c.new-vars.ensures.items c.deref.ensures.value) c.in_ok-acts.ensures.acts)
    (body_variables c.args.typed.now c.args.p c.index-procedure.result.now c.requires.rules c.requires.there c.index-procedure.ensures _ _ (begun _ _ _ _ c.in_ok-add_variables.ensures c.new-vars.ensures.items c.deref.ensures.value) c.in_ok-acts.ensures.vars)

pub returns-clause-count : goal.returns-clause-count
returns-clause-count c = body_count c.args.typed.now c.args.p c.index-procedure.result.now c.requires.rules c.requires.there c.index-procedure.ensures _ (body_encoding c.args.typed.now c.args.p c.index-procedure.result.now c.requires.rules c.requires.there c.index-procedure.ensures _ _ (begun _ _ _ _ c.in_ok-add_variables.ensures c.new-vars.ensures.items c.deref.ensures.value) c.in_ok-acts.ensures.acts)

pub returns-clause-post : goal.returns-clause-post
returns-clause-post c = body_post c.args.typed.now c.args.p c.index-procedure.result.now c.requires.rules c.requires.there c.index-procedure.ensures _ (body_variables c.args.typed.now c.args.p c.index-procedure.result.now c.requires.rules c.requires.there c.index-procedure.ensures _ _ (begun _ _ _ _ c.in_ok-add_variables.ensures c.new-vars.ensures.items c.deref.ensures.value) c.in_ok-acts.ensures.vars)
