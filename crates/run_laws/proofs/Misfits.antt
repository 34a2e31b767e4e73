-- A stage that stopped has the cause of a misfit, over the outlooks of what it took.
use Rattle.std.proofs.Common.{ℕ, List, sym, subst}
use Rattle.elem_core.specs.declared.item.Item.{Item}
use Rattle.port_core.specs.View.{View}
use Rattle.port_core.specs.Picks.{next_move}
use Rattle.stream_model.specs.Outlook.{Outlook}
use Rattle.stream_model.specs.declared.kind.Policy.{Policy}
use Rattle.stage_in.specs.declared.logic.InLogic.{InLogic}
use Rattle.stage_in.specs.Logics.{InLaw, StopsRightly}
use Rattle.stage_in.proofs.Nodes.{stops_rightly}
use Rattle.stage_dropping.specs.Drops.{DropMisfits}
use Rattle.stage_dropping.proofs.DropNodes as drops
use Rattle.stage_dropping.proofs.RecoverNodes as recovers
use Rattle.stage_switch.proofs.Rows as valves
use Rattle.stage_state.specs.declared.logic.StateLogic.{StateLogic}
use Rattle.stage_state.specs.declared.logic.StateLogic.TheVariants.{Machine, Dropping, Recovering, Obeying, Tripping}
use Rattle.stage_state.specs.Handling.{StatePortState, StateLaw}
use Rattle.stage_state.specs.Logics.{StateStopsRightly}
use Rattle.run_laws.specs.Items.{AllMayPass}
use Rattle.run_laws.proofs.StateChoices.{flows_agree}

pub ins_stop : (os : List Outlook) (first now : InLogic) (v : View) (took gave : List (List Item)) → InLaw first now v took gave → AllMayPass os took → StopsRightly os now
ins_stop os first now v took gave law a = stops_rightly os first now v took gave law (flows_agree _ v took gave os law.by a)

pub states_stop : (os : List Outlook) (first now : StateLogic) (v : View) (took gave : List (List Item)) → StatePortState now v → StateLaw first now v took gave → AllMayPass os took → StateStopsRightly os now
states_stop os (Machine first) (Machine now) v took gave r law a = tt
states_stop os (Tripping first) (Tripping now) v took gave r law a = tt
states_stop os (Dropping first) (Dropping now) v took gave r law a = λ stuck.
    let c = drops.has_cause os first now v took gave stuck law (flows_agree _ v took gave os law.by a) in
    let sized = subst (λ (n : ℕ). DropMisfits first.policy n (next_move now.log.left) now.log.moves c.0) (sym law.size) c.1.1 in
    (c.0, (c.1.0, subst (λ (p : Policy). DropMisfits p now.size (next_move now.log.left) now.log.moves c.0) (sym law.policy) sized))
states_stop os (Recovering first) (Recovering now) v took gave r law a = λ stuck. recovers.has_cause_over os first now v took gave stuck r law (flows_agree _ v took gave os law.by a)
states_stop os (Obeying first) (Obeying now) v took gave r law a = λ stuck. valves.valve_cause os first now v took gave stuck law (flows_agree _ v took gave os law.by a)
states_stop os first now v took gave r law a = absurd law
