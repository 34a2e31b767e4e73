-- A body may go to another thread where its source, its drain, its plugs, the handlers of its custom stages and the book may.
use denote.Param.Send.{IsSend, sendable, recorded_send, enum_send, struct_send, view_send}
use denote.Struct.Declared as declared
use denote.Enum.Declared.{shape}
use denote.Param.{param}
use denote.RattleType.{RattleType}
use Rattle.std.specs.Prelude.{ℕ}
use Rattle.std.proofs.Crossing.{crosses}
use Rattle.elem_core.proofs.elem.Elem.TheLaws.TheKnot as knot
use Rattle.elem_core.proofs.elem_type.ElemType.TheLaws.TheKnot as type_knot
use Rattle.std.proofs.vec.Vec.TheSendSync as vec
use Rattle.std.proofs.option.Option.TheSendSync as option
use Rattle.std.proofs.boxed.Box.TheSendSync as box
use Rattle.std.proofs.collections.BTreeMap.TheSendSync as map
use Rattle.std.proofs.alloc.Global.TheSendSync as global
use Rattle.std.proofs.rt.Memory.TheSendSync as memory
use Rattle.elem_core.proofs.line.Line.TheSendSync as line
use Rattle.elem_core.proofs.line_buf.LineBuf.TheSendSync as line_buf
use Rattle.elem_core.proofs.trace.Trace.TheSendSync as trace
use Rattle.elem_core.proofs.why.Cause.TheSendSync as cause
use Rattle.elem_core.proofs.why.Why.TheSendSync as why
use Rattle.stream_model.proofs.outcome.EndState.TheSendSync as end_state
use Rattle.line_chain.proofs.Sending.{task_send, line_send}
use Rattle.nodes.proofs.sink.Writes.TheSendSync as writes
use Rattle.nodes.proofs.source.LinesSource.TheSendSync as lines_source
use Rattle.atomic_table.proofs.shared.Seat.TheSendSync as seat
use Rattle.atomic_table.proofs.shared.Shared.TheSendSync as shared
use Rattle.atomic_table.proofs.owned.Table.TheSendSync as table
use Rattle.atomic_table.proofs.send_lease.SendLease.TheSendSync as lease
use Rattle.island_body.specs.contracts.input.IslandInput as input
use Rattle.island_body.specs.contracts.output.OutputBoundary as output
use Rattle.circular_buffer.proofs.cells.Base.TheSendSync as base
use Rattle.circular_buffer.proofs.cells.Cells.TheSendSync as cells
use Rattle.circular_buffer.proofs.cells.Deed.TheSendSync as deed
use Rattle.circular_buffer.proofs.heap.HeapCircularBuffer.TheSendSync as heap
use Rattle.circular_buffer.proofs.ring.Ring.TheSendSync as ring
use Rattle.stage_switch.proofs.seat.SwitchSeat.TheSendSync as switch_seat
use Rattle.stage_switch.proofs.trip.Trip.TheSendSync as trip
use Rattle.stage_switch.proofs.valve.Valve.TheSendSync as valve
use Rattle.stage_switch.specs.contracts.valve.Valve as valve_row
use Rattle.stage_switch.specs.contracts.trip.Trip as trip_row
use Rattle.stage_dropping.specs.contracts.dropping.Dropping as dropping
use Rattle.stage_dropping.proofs.dropping.After.TheSendSync as after
use Rattle.stage_dropping.specs.contracts.recover.Recovering as recovering
use Rattle.stage_state.specs.contracts.machine.MachineLogic as machine
use Rattle.stage_state.specs.contracts.keep.KeepLogic as keep
use Rattle.stage_state.specs.contracts.buffer.BufferLogic as buffer
use Rattle.stage_state.specs.contracts.logic.StateLogic as state
use Rattle.line_chain.specs.contracts.line.LineChain as chain
use Rattle.line_chain.specs.contracts.line.LineChainChain.TheImpl as chained
use Rattle.stage_sub.specs.contracts.opening.OpenBy as open_by
use Rattle.stage_sub.specs.contracts.last.LastSubstream.TheInside as last_inside
use Rattle.stage_sub.specs.contracts.kept.KeptSubs.TheInside as kept_inside
use Rattle.stage_sub.specs.contracts.state.SubState as sub_state_view
use Rattle.stage_sub.specs.contracts.state.SubState.TheInside as sub_state
use Rattle.stage_sub.specs.contracts.logic.SubLogic as sub
use Rattle.stage_sub.specs.contracts.logic.SubLogic.TheInside as sub_inside
use Rattle.stage_linear.specs.contracts.plug.PlugTask as plug_task
use Rattle.stage_linear.specs.contracts.worker.Worker as worker
use Rattle.stage_linear.specs.contracts.logic.LinearLogic as linear
use Rattle.stage_linear.specs.contracts.logic.LinearLogic.TheInside as linear_inside
use Rattle.stage_in.specs.contracts.logic.InLogic as fan_in
use Rattle.stage_out.specs.contracts.logic.OutLogic as fan_out
use Rattle.graph_stage.specs.contracts.stage.CustomStage as custom
use Rattle.graph_stage.specs.contracts.stage.CustomStage.TheInside as custom_inside
use Rattle.graph_stage.specs.contracts.logic.CustomLogic as custom_logic
use Rattle.graph_stage.specs.contracts.asks.Asks as asks
use Rattle.graph_stage.proofs.sight.Sight.TheSendSync as sight
use Rattle.nodes.specs.contracts.leaving.Leaving as leaving
use Rattle.nodes.specs.contracts.entering.Entering as entering
use Rattle.nodes.specs.contracts.maker.ValueSource as maker
use Rattle.nodes.specs.contracts.ignoring.IgnoreSink as ignorer
use Rattle.nodes.specs.contracts.source.LinesSource as reading
use Rattle.nodes.specs.contracts.sink.FileSink as writing
use Rattle.nodes.specs.contracts.node.IslandNode as node
use Rattle.port_core.specs.contracts.conn.Conn as conn
use Rattle.port_core.specs.contracts.wire.Wire as wire
use Rattle.fused_net.specs.contracts.engine.Engine.TheInside as engine_inside
use Rattle.fused_net.specs.contracts.queue.EventQueue as queue
use Rattle.interpreter.specs.contracts.island.IslandEnd as island_end
use Rattle.interpreter.specs.contracts.island.Island as island
use Rattle.interpreter.specs.contracts.island.Island.TheInside as island_inside
use Rattle.island_body.specs.contracts.body.Body as body
use Rattle.stream_io.specs.declared.outside.Source as source
use Rattle.stream_io.specs.declared.outside.Drain as drain
use Rattle.plug_logic.specs.declared.logic.Logic as logic
use Rattle.plug_logic.specs.declared.book.PlugBook as plug_book
use Rattle.graph_stage.specs.declared.handlers.Handlers as handlers

-- what lists, texts, causes and memory keep to
ruleset plain_rules = (tt, trace.the_send, line.the_send, line.the_sync, line_buf.the_send, line_buf.the_sync, writes.the_field_send, writes.the_send, end_state.the_field_send, end_state.the_send, cause.the_field_send, cause.the_send, why.the_field_send, why.the_send, vec.the_send, option.the_send, option.the_field_send, box.the_send, global.the_send, global.the_field_send, memory.the_send, memory.the_field_send, memory.the_sync, memory.the_field_sync, crosses, knot.crosses, sendable)

plug_send : (L B : RattleType) (l : logic.Ghosts L.Denot) (b : plug_book.Ghosts B.Denot) → IsSend (param 2 L) → IsSend (param 4 B) → IsSend (plug_task.the_row (param 2 L) (param 4 B) l b)
plug_send L B l b p q = search plain_rules depth 60 fits 20000

worker_send : (L B : RattleType) (l : logic.Ghosts L.Denot) (b : plug_book.Ghosts B.Denot) → IsSend (param 2 L) → IsSend (param 4 B) → IsSend (worker.the_field (param 2 L) (param 4 B) l b).row
worker_send L B l b p q =
    let t = worker.the_type (param 2 L) (param 4 B) l b in
    enum_send (shape t) ((task_send, tt), ((plug_send L B l b p q, tt), tt))

linear_send : (L B : RattleType) (l : logic.Ghosts L.Denot) (b : plug_book.Ghosts B.Denot) → IsSend (param 2 L) → IsSend (param 4 B) → IsSend (linear.the_row (param 2 L) (param 4 B) l b)
linear_send L B l b p q =
    let t = linear_inside.the_type (param 2 L) (param 4 B) l b in
    view_send (linear_inside.the_row (param 2 L) (param 4 B) l b) _ _ _ _
    (recorded_send (declared.field t).row _ _ t.to_one
    (struct_send (declared.shape t) (
      search plain_rules depth 60 fits 20000,
      (
        search plain_rules depth 60 fits 20000,
        (
          search plain_rules depth 60 fits 20000,
          (worker_send L B l b p q, (search plain_rules depth 60 fits 20000, (search plain_rules depth 60 fits 20000, (search plain_rules depth 60 fits 20000, tt)))),
        ),
      ),
    )))

keep_send : IsSend keep.the_row
keep_send = search (crosses, knot.crosses, sendable) depth 60 fits 20000

buffer_send : IsSend buffer.the_row
buffer_send = search (heap.the_send, ring.the_field_send, ring.the_send, deed.the_send, cells.the_send, base.the_send, base.the_field_send, crosses, knot.crosses, sendable) depth 60 fits 20000

machine_send : IsSend machine.the_row
machine_send = search (keep_send, buffer_send, crosses, knot.crosses, sendable) depth 60 fits 20000

dropping_send : IsSend dropping.the_row
dropping_send = search (after.the_field_send, heap.the_send, ring.the_field_send, cells.the_send, base.the_field_send, crosses, knot.crosses, sendable) depth 60 fits 20000

recovering_send : IsSend recovering.the_row
recovering_send = search (crosses, knot.crosses, sendable) depth 60 fits 20000

valve_send : IsSend valve_row.the_row
valve_send = valve.the_send

trip_send : IsSend trip_row.the_row
trip_send = trip.the_send

state_send : IsSend (state.the_field).row
state_send = enum_send (shape state.the_type) ((machine_send, tt), ((dropping_send, tt), ((recovering_send, tt), ((valve_send, tt), ((trip_send, tt), tt)))))

-- the stage whose substreams run a chain
last_send : IsSend (last_inside.the_row chain.the_row chained.ghosts)
last_send = search (line_send, crosses, knot.crosses, sendable) depth 60 fits 20000

open_send : IsSend (open_by.the_field).row
open_send = search (crosses, knot.crosses, sendable) depth 60 fits 20000

kept_send : IsSend (kept_inside.the_row chain.the_row chained.ghosts)
kept_send =
    let t = kept_inside.the_type chain.the_row chained.ghosts in
    recorded_send (declared.field t).row _ _ t.to_one
    (struct_send (declared.shape t) (
      search (last_send, crosses, knot.crosses, sendable) depth 60 fits 20000,
      (
        search (map.the_send, global.the_send, crosses, knot.crosses, sendable) depth 60 fits 20000,
        (
          search (line_send, vec.the_send, option.the_send, crosses, knot.crosses, sendable) depth 60 fits 20000,
          (search (crosses, knot.crosses, sendable) depth 60 fits 20000, tt),
        ),
      ),
    ))

sub_state_send : IsSend (sub_state.the_row chain.the_row chained.ghosts)
sub_state_send =
    let t = sub_state.the_type chain.the_row chained.ghosts in
    recorded_send (declared.field t).row _ _ t.to_one
    (struct_send (declared.shape t) (
      search (crosses, knot.crosses, sendable) depth 60 fits 20000,
      (
        search (crosses, knot.crosses, sendable) depth 60 fits 20000,
        (
          open_send,
          (
            line_send,
            (
              view_send (kept_inside.the_row chain.the_row chained.ghosts) _ _ _ _ kept_send,
              (
                search (crosses, knot.crosses, sendable) depth 60 fits 20000,
                (search (crosses, knot.crosses, sendable) depth 60 fits 20000, (search (crosses, knot.crosses, sendable) depth 60 fits 20000, (search (crosses, knot.crosses, sendable) depth 60 fits 20000, tt))),
              ),
            ),
          ),
        ),
      ),
    ))

sub_state_sends : IsSend (sub_state_view.the_row chain.the_row chained.ghosts)
sub_state_sends = view_send (sub_state.the_row chain.the_row chained.ghosts) _ _ _ _ sub_state_send

sub_send : IsSend (sub.the_row chain.the_row chained.ghosts)
sub_send =
    let t = sub_inside.the_type chain.the_row chained.ghosts in
    view_send (sub_inside.the_row chain.the_row chained.ghosts) _ _ _ _
    (recorded_send (declared.field t).row _ _ t.to_one
    (struct_send (declared.shape t) (
      search (sub_state_sends, box.the_send, global.the_send, memory.the_field_send, memory.the_send, crosses, knot.crosses, sendable) depth 60 fits 20000,
      (search (option.the_field_send, vec.the_send, crosses, knot.crosses, sendable) depth 60 fits 20000, tt),
    )))

in_send : IsSend (fan_in.the_field).row
in_send = search (crosses, knot.crosses, sendable) depth 60 fits 20000

out_send : IsSend (fan_out.the_field).row
out_send = search (crosses, knot.crosses, sendable) depth 60 fits 20000

leaving_send : IsSend leaving.the_row
leaving_send = search (line.the_send, trace.the_send, cause.the_field_send, cause.the_send, why.the_field_send, why.the_send, crosses, knot.crosses, sendable) depth 60 fits 20000

entering_send : IsSend entering.the_row
entering_send = search (crosses, knot.crosses, sendable) depth 60 fits 20000

maker_send : IsSend maker.the_row
maker_send = search (crosses, knot.crosses, sendable) depth 60 fits 20000

ignorer_send : IsSend ignorer.the_row
ignorer_send = search (crosses, knot.crosses, sendable) depth 60 fits 20000

reading_send : (S : RattleType) (s : source.Ghosts S.Denot) → IsSend S → IsSend (reading.the_row S s)
reading_send S s p = lines_source.the_send S s p

writing_send : (D : RattleType) (d : drain.Ghosts D.Denot) → IsSend (param 1 D) → IsSend (writing.the_row (param 1 D) d)
writing_send D d p = search (plain_rules) depth 60 fits 20000

-- a stage that a caller handed in
asks_send : IsSend asks.the_row
asks_send = search plain_rules depth 60 fits 20000

logic_send : (H : RattleType) → IsSend (param 3 H) → IsSend (declared.field (custom_logic.the_type (param 3 H))).row
logic_send H p =
    let t = custom_logic.the_type (param 3 H) in
    struct_send (declared.shape t) (
      search plain_rules depth 60 fits 20000,
      (
        search plain_rules depth 60 fits 20000,
        (
          search (type_knot.crosses, plain_rules) depth 60 fits 20000,
          (
            p,
            (
              search (sight.the_send, plain_rules) depth 60 fits 20000,
              (
                search plain_rules depth 60 fits 20000,
                (search plain_rules depth 60 fits 20000, (asks_send, (search plain_rules depth 60 fits 20000, (search plain_rules depth 60 fits 20000, tt)))),
              ),
            ),
          ),
        ),
      ),
    )

custom_send : (H B : RattleType) (h : handlers.Ghosts H.Denot) (b : plug_book.Ghosts B.Denot) → IsSend (param 3 H) → IsSend (param 4 B) → IsSend (custom.the_row (param 3 H) (param 4 B) h b)
custom_send H B h b p q =
    let t = custom_inside.the_type (param 3 H) (param 4 B) h b in
    view_send (custom_inside.the_row (param 3 H) (param 4 B) h b) _ _ _ _
    (recorded_send (declared.field t).row _ _ t.to_one (struct_send (declared.shape t) (logic_send H p, (search plain_rules depth 60 fits 20000, (search (q, plain_rules) depth 60 fits 20000, tt)))))

node_send : (S D L H B : RattleType) (s : source.Ghosts S.Denot) (d : drain.Ghosts D.Denot) (l : logic.Ghosts L.Denot) (h : handlers.Ghosts H.Denot) (b : plug_book.Ghosts B.Denot) → IsSend (param 0 S) → IsSend (param 1 D) → IsSend (param 2 L) → IsSend (param 3 H) → IsSend (param 4 B) → IsSend (node.the_row (param 0 S) (param 1 D) (param 2 L) (param 3 H) (param 4 B) s d l h b)
node_send S D L H B s d l h b p q u x v =
    let t = node.the_type (param 0 S) (param 1 D) (param 2 L) (param 3 H) (param 4 B) s d l h b in
    recorded_send (node.the_field (param 0 S) (param 1 D) (param 2 L) (param 3 H) (param 4 B) s d l h b).row _ _ t.to_one
    (enum_send (shape t) (
      (reading_send (param 0 S) s p, tt),
      (
        (maker_send, tt),
        (
          (linear_send L B l b u v, tt),
          ((state_send, tt), ((sub_send, tt), ((in_send, tt), ((out_send, tt), ((custom_send H B h b x v, tt), ((writing_send D d q, tt), ((ignorer_send, tt), ((entering_send, tt), ((leaving_send, tt), tt))))))))),
        ),
      ),
    ))

-- and ring buffers
ruleset rings = (tt, heap.the_send, ring.the_field_send, ring.the_send, deed.the_send, cells.the_send, base.the_send, base.the_field_send, plain_rules)

conn_send : IsSend conn.the_row
conn_send = search plain_rules depth 60 fits 20000

wire_send : IsSend wire.the_row
wire_send = search (conn_send, plain_rules) depth 60 fits 20000

queue_send : IsSend queue.the_row
queue_send = search rings depth 60 fits 20000

engine_send : (N : RattleType) → IsSend N → IsSend (engine_inside.the_row N)
engine_send N n =
    let t = engine_inside.the_type N in
    recorded_send (declared.field t).row _ _ t.to_one
    (struct_send (declared.shape t) (
      search (n, rings) depth 60 fits 20000,
      (search (wire_send, rings) depth 60 fits 20000, (search rings depth 60 fits 20000, (search rings depth 60 fits 20000, (search (queue_send, rings) depth 60 fits 20000, (search rings depth 60 fits 20000, tt))))),
    ))

end_send : (S D : RattleType) (s : source.Ghosts S.Denot) (d : drain.Ghosts D.Denot) → IsSend S → IsSend D → IsSend (declared.field (island_end.the_type S D)).row
end_send S D s d p q =
    let t = island_end.the_type S D in
    struct_send (declared.shape t) (
      search rings depth 60 fits 20000,
      (
        search rings depth 60 fits 20000,
        (
          search rings depth 60 fits 20000,
          (search rings depth 60 fits 20000, (search (switch_seat.the_send, rings) depth 60 fits 20000, (search (p, rings) depth 60 fits 20000, (search (q, rings) depth 60 fits 20000, tt)))),
        ),
      ),
    )

island_send : (S D L H B : RattleType) (s : source.Ghosts S.Denot) (d : drain.Ghosts D.Denot) (l : logic.Ghosts L.Denot) (h : handlers.Ghosts H.Denot) (b : plug_book.Ghosts B.Denot) → IsSend (param 0 S) → IsSend (param 1 D) → IsSend (param 2 L) → IsSend (param 3 H) → IsSend (param 4 B) → IsSend (island.the_row (param 0 S) (param 1 D) (param 2 L) (param 3 H) (param 4 B) s d l h b)
island_send S D L H B s d l h b p q u x v =
    let t = island_inside.the_type (param 0 S) (param 1 D) (param 2 L) (param 3 H) (param 4 B) s d l h b in
    view_send (island_inside.the_row (param 0 S) (param 1 D) (param 2 L) (param 3 H) (param 4 B) s d l h b) _ _ _ _
    (recorded_send (declared.field t).row _ _ t.to_one
    (struct_send (declared.shape t) (
      view_send (engine_inside.the_row (node.the_row (param 0 S) (param 1 D) (param 2 L) (param 3 H) (param 4 B) s d l h b)) _ _ _ _ (engine_send (node.the_row (param 0 S) (param 1 D) (param 2 L) (param 3 H) (param 4 B) s d l h b) (node_send S D L H B s d l h b p q u x v)),
      (
        search rings depth 60 fits 20000,
        (
          search rings depth 60 fits 20000,
          (search rings depth 60 fits 20000, (search rings depth 60 fits 20000, (search rings depth 60 fits 20000, (search rings depth 60 fits 20000, (search rings depth 60 fits 20000, (end_send (param 0 S) (param 1 D) s d p q, tt)))))),
        ),
      ),
    )))

-- and the ends of lanes
ruleset lanes = (tt, seat.the_send, shared.the_send, shared.the_sync, table.the_send, table.the_sync, lease.the_send, rings)

input_send : IsSend input.the_row
input_send = search lanes depth 60 fits 20000

output_send : IsSend output.the_row
output_send = search lanes depth 60 fits 20000

pub body_send : (S D L H B : RattleType) (s : source.Ghosts S.Denot) (d : drain.Ghosts D.Denot) (l : logic.Ghosts L.Denot) (h : handlers.Ghosts H.Denot) (b : plug_book.Ghosts B.Denot) → IsSend (param 0 S) → IsSend (param 1 D) → IsSend (param 2 L) → IsSend (param 3 H) → IsSend (param 4 B) → IsSend (body.the_row (param 0 S) (param 1 D) (param 2 L) (param 3 H) (param 4 B) s d l h b)
body_send S D L H B s d l h b p q u x v =
    let t = body.the_type (param 0 S) (param 1 D) (param 2 L) (param 3 H) (param 4 B) s d l h b in
    recorded_send (declared.field t).row _ _ t.to_one
    (struct_send (declared.shape t) (
      island_send S D L H B s d l h b p q u x v,
      (
        search (input_send, rings) depth 60 fits 20000,
        (search (output_send, rings) depth 60 fits 20000, (search rings depth 60 fits 20000, (search rings depth 60 fits 20000, (search rings depth 60 fits 20000, tt)))),
      ),
    ))
