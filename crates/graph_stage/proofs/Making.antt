-- A custom stage that was not started sees its ports as they are.
use Rattle.std.specs.Prelude.{replicate}
use Rattle.std.proofs.Common.{◌≡◌, ℕ, zero, suc, ◌≤◌, List, [], ◌∷◌, length, refl, sym, subst, arith}
use Rattle.port_core.specs.declared.view.InView.TheVariants.{Idle}
use Rattle.port_core.specs.declared.view.OutView.TheVariants.{Unpulled}
use Rattle.graph_stage.specs.declared.logic.CustomLogic.{CustomLogic}
use Rattle.graph_stage.specs.declared.sight.InSight.{InSight}
use Rattle.graph_stage.specs.declared.sight.OutSight.{OutSight}
use Rattle.graph_stage.specs.Making.{unpulled_view, quiet_in, quiet_out, IsNewLogic}
use Rattle.graph_stage.specs.Ports.{SeesIns, SeesOuts}

quiet_ins_seen : (n : ℕ) → SeesIns (replicate n Idle) (replicate n quiet_in)
quiet_ins_seen zero = tt
quiet_ins_seen (suc n) = ((refl, refl), quiet_ins_seen n)

quiet_outs_seen : (n : ℕ) → SeesOuts (replicate n Unpulled) (replicate n quiet_out)
quiet_outs_seen zero = tt
quiet_outs_seen (suc n) = ((refl, refl), quiet_outs_seen n)

long : {A : Type 0} (n : ℕ) (x : A) → length (replicate n x) ≡ n
long zero x = refl
long (suc n) x = let r = long n x in omega (arith, r)

pub made_fresh : {H : Type 0} (x : CustomLogic H) (i o : ℕ) → x.sight.ins ≡ replicate i quiet_in → x.sight.outs ≡ replicate o quiet_out → i ≤ 8 → o ≤ 8 → x.asks ≡ [] → x.taken ≡ 0 → x.took.items ≡ [] → x.asked.items ≡ [] → x.done.items ≡ [] → IsNewLogic x (unpulled_view i o)
made_fresh x i o ei eo hi ho no_asks none none_took no_calls none_done = record {
  sees = record { ins = subst (λ (z : List InSight). SeesIns (replicate i Idle) z) (sym ei) (quiet_ins_seen i); outs = subst (λ (z : List OutSight). SeesOuts (replicate o Unpulled) z) (sym eo) (quiet_outs_seen o) };
  ready = record {
    few = record { ins = rw ei (let l = long i quiet_in in omega (arith, l, hi)); outs = rw eo (let l = long o quiet_out in omega (arith, l, ho)) };
    no_asks = no_asks;
  };
  none_taken = none;
  none_took = none_took;
  no_calls = no_calls;
  none_done = none_done;
}
