-- The law by ports, over a history of each port in order.
use Rattle.std.proofs.Common.{List, [], ◌∙◌}
use Rattle.std.specs.Prelude.{slice_index_or}
use Rattle.elem_core.specs.declared.item.Item.{Item}
use Rattle.port_core.specs.declared.act.Act.{Act}
use Rattle.port_core.specs.View.{View, ActsAllowed, acted_all}
use Rattle.port_core.specs.Call.{Call, CallAllowed, seen, given_on}
use Rattle.stage_core.specs.Histories.{given_all, brought_by}
use Rattle.stage_core.specs.Fans.{Fan, FanHeld, FanTurnAt, FanKeeps}
use Rattle.stage_core.specs.Zips.{ZipHeld, ZipTurnAt, ZipKeeps}
use Rattle.stage_core.proofs.FanTurns.{fan_call}
use Rattle.stage_core.proofs.ZipTurns.{zip_call}
use Rattle.stage_core.specs.PortsLaws.{InPortsLaw}
use Rattle.stage_core.proofs.Histories.{in_node, ins_seen, ins_acted}

pub fan_node : {S : Type 0} (k : Fan S) (start : S) (c : Call) (old new : FanHeld S) (v : View) (took gave : List (List Item)) (acts : List Act) → CallAllowed c v → ActsAllowed (seen c v) acts → FanTurnAt k c old (given_on 0 acts) new
    → InPortsLaw (FanKeeps k start old) v took gave → InPortsLaw (FanKeeps k start new) (acted_all (seen c v) acts) (brought_by c took) (given_all acts gave)
fan_node k start c old new v took gave acts may allowed turn law =
    in_node (FanKeeps k start old) (FanKeeps k start new) c v (acted_all (seen c v) acts) took gave acts (ins_acted acts (seen c v) ∙ ins_seen c v)
    (λ given l. fan_call k start c old new v (λ i. slice_index_or took i []) given acts may allowed turn l) law

pub zip_node : (c : Call) (old new : ZipHeld) (v : View) (took gave : List (List Item)) (acts : List Act) → CallAllowed c v → ActsAllowed (seen c v) acts → ZipTurnAt c old (given_on 0 acts) new
    → InPortsLaw (ZipKeeps old) v took gave → InPortsLaw (ZipKeeps new) (acted_all (seen c v) acts) (brought_by c took) (given_all acts gave)
zip_node c old new v took gave acts may allowed turn law =
    in_node (ZipKeeps old) (ZipKeeps new) c v (acted_all (seen c v) acts) took gave acts (ins_acted acts (seen c v) ∙ ins_seen c v)
    (λ given l. zip_call c old new v (λ i. slice_index_or took i []) given acts may allowed turn l) law
