-- A chain of stages may go to another thread.
use denote.Param.Send.{IsSend, sendable}
use Rattle.std.proofs.Crossing.{crosses}
use Rattle.elem_core.proofs.elem.Elem.TheLaws.TheKnot as knot
use Rattle.std.proofs.vec.Vec.TheSendSync as vec
use Rattle.std.proofs.option.Option.TheSendSync as option
use Rattle.std.proofs.boxed.Box.TheSendSync as box
use Rattle.std.proofs.alloc.Global.TheSendSync as global
use Rattle.std.proofs.rt.Memory.TheSendSync as memory
use Rattle.elem_core.proofs.line.Line.TheSendSync as line
use Rattle.elem_core.proofs.line_buf.LineBuf.TheSendSync as line_buf
use Rattle.elem_core.proofs.trace.Trace.TheSendSync as trace
use Rattle.elem_core.proofs.why.Cause.TheSendSync as cause
use Rattle.elem_core.proofs.why.Why.TheSendSync as why
use Rattle.step_work.specs.contracts.task.LinearWork as task
use Rattle.line_chain.specs.contracts.kind.StepKind as step_kind
use Rattle.line_chain.specs.contracts.work.StepWork as step_work
use Rattle.line_chain.specs.contracts.step.LineStep as line_step
use Rattle.line_chain.specs.contracts.line.LineChain as chain

-- what lists, texts, causes and memory keep to
ruleset plain_rules = (tt, trace.the_send, line.the_send, line.the_sync, line_buf.the_send, line_buf.the_sync, cause.the_field_send, cause.the_send, why.the_field_send, why.the_send, vec.the_send, option.the_send, option.the_field_send, box.the_send, global.the_send, global.the_field_send, memory.the_send, memory.the_field_send, memory.the_sync, memory.the_field_sync, crosses, knot.crosses, sendable)

-- the list function of a linear stage too
pub task_send : IsSend (task.the_field).row
task_send = search plain_rules depth 60 fits 20000

kind_send : IsSend (step_kind.the_field).row
kind_send = search (task_send, crosses, knot.crosses, sendable) depth 60 fits 20000

work_send : IsSend (step_work.the_field).row
work_send = search (task_send, crosses, knot.crosses, sendable) depth 60 fits 20000

step_send : IsSend line_step.the_row
step_send = search (kind_send, work_send, crosses, knot.crosses, sendable) depth 60 fits 20000

pub line_send : IsSend chain.the_row
line_send = search (step_send, crosses, knot.crosses, sendable) depth 60 fits 20000
