-- A passive stage stays so and appends nothing.
use Rattle.std.proofs.Common.{◌≡◌, true, List, [], refl}
use Rattle.std.specs.Prelude.{Result, Ok, Err, OnOk}
use Rattle.port_core.specs.declared.act.Act.{Act}
use Rattle.stage_core.specs.Handling.{StaysPassive}

pub stays : {T E : Type 0} → (r : Result T E) (acts : List Act) → acts ≡ [] → OnOk r (StaysPassive true true acts)
stays (Ok x) acts e = (refl, e)
stays (Err x) acts e = tt
