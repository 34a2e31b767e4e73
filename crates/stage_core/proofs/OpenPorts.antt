-- Where a call may come to a stage with one input and one output, one of the two is open.
use Rattle.std.proofs.Common.{◌≡◌, ◌⊎◌, zero, suc, inl, inr, [], ◌∷◌, refl}
use Rattle.elem_core.specs.declared.item.Item.TheVariants as item
use Rattle.port_core.specs.declared.view.InView.{InView}
use Rattle.port_core.specs.declared.view.InView.TheVariants.{Idle, Pulled, Finished, Cancelled}
use Rattle.port_core.specs.declared.view.OutView.{OutView}
use Rattle.port_core.specs.declared.view.OutView.TheVariants as outlet
use Rattle.port_core.specs.View.{IsInOpen, IsOutOpen}
use Rattle.port_core.specs.Call.{Call, starts, pulls, arrives, cancels, CallAllowed}
use Rattle.stage_core.specs.Row.{BothClosed}

-- not where both are closed
pub closed_ports : (x : InView) (y : OutView) → (IsInOpen x ⊎ IsOutOpen y) → BothClosed x y → ⊥
closed_ports Finished outlet.Closed (inl h) r = h
closed_ports Finished outlet.Closed (inr h) r = h
closed_ports Finished outlet.Cancelled (inl h) r = h
closed_ports Finished outlet.Cancelled (inr h) r = h
closed_ports Cancelled outlet.Closed (inl h) r = h
closed_ports Cancelled outlet.Closed (inr h) r = h
closed_ports Cancelled outlet.Cancelled (inl h) r = h
closed_ports Cancelled outlet.Cancelled (inr h) r = h
closed_ports Finished outlet.Unpulled h r = r
closed_ports Finished outlet.Available h r = r
closed_ports Cancelled outlet.Unpulled h r = r
closed_ports Cancelled outlet.Available h r = r
closed_ports Idle y h r = r
closed_ports Pulled y h r = r

-- some port of a stage with one input and one output is open, where a call may come
pub may_come : (call : Call) (x : InView) (y : OutView) → (call ≡ starts → ⊥) → CallAllowed call (record { ins = x ∷ []; outs = y ∷ [] }) → IsInOpen x ⊎ IsOutOpen y
may_come starts x y n h = absurd (n refl)
may_come (pulls zero) x y n h = inr (rw h tt)
may_come (pulls (suc j)) x y n h = cc
may_come (arrives zero (item.Elem e)) x y n h = inl (rw h tt)
may_come (arrives zero item.Ended) x y n h = inl h
may_come (arrives zero (item.Failed c)) x y n h = inl h
may_come (arrives (suc i) (item.Elem e)) x y n h = cc
may_come (arrives (suc i) item.Ended) x y n h = absurd h
may_come (arrives (suc i) (item.Failed c)) x y n h = absurd h
may_come (cancels zero) x y n h = inr h
may_come (cancels (suc j)) x y n h = absurd h
