use Rattle.std.proofs.Common.{ap, length, arith, length-append}
use Rattle.port_core.specs.ActList.{ActList}
use Rattle.graph_stage.specs.declared.occasion.Occasion.{Occasion}
use Rattle.graph_stage.specs.OwnView.{carried_out}
use Rattle.graph_stage.proofs.Rooms.{most_left, carried_room}
use Rattle.graph_stage.proofs.logic.CustomLogic.settle.Goals as goal

-- two actions for each port
pub answer-requires-clause-room : goal.answer-requires-clause-room
answer-requires-clause-room g c =
    let most = most_left c.args.self.now.sight in
    let none = ap length c.requires.empty in
    omega (arith, most, none, c.requires.room)

pub take_back-requires : goal.take_back-requires
take_back-requires g c =
    let occasion : Occasion = record { node = c.args.self.now.node; taken = c.args.self.now.taken; nth = c.args.nth; failure = c.args.failure } in
    let most = most_left c.args.self.now.sight in
    let carried = carried_room c.args.self.now.types.items occasion c.args.self.now.sight c.args.self.now.asks in
    let all = ap (λ (a : ActList). length a.items) c.answer.ensures.acts in
    let room = ap (λ (a : ActList). a.room) c.answer.ensures.acts in
    let parts = length-append c.args.acts.now.items (carried_out c.args.self.now.types.items occasion c.args.self.now.sight c.args.self.now.asks).acts in
    let empty = ap length c.requires.empty in
    record { room = omega (arith, most, carried, all, room, parts, empty, c.requires.room) }
