-- Where a stage has nothing to do over its own ports.
use Rattle.std.proofs.Common.{◌≡◌, Bool, inl, inr, List, [], ◌++◌, length, refl, sym, ap, ◌∙◌, append-nil}
use Rattle.std.proofs.Math.Seq.{take-length}
use Rattle.elem_core.specs.Tree.{Tree}
use Rattle.elem_core.specs.declared.item.Item.{Item}
use Rattle.port_core.specs.declared.view.InView.{InView}
use Rattle.port_core.specs.declared.view.InView.TheVariants.{Idle, Pulled, Finished, Cancelled}
use Rattle.port_core.specs.declared.view.OutView.{OutView}
use Rattle.port_core.specs.declared.view.OutView.TheVariants as outlet
use Rattle.stream_model.specs.Outlook.{End, unended}
use Rattle.stream_model.specs.Machine.{State, Run, Machine, run}
use Rattle.stage_core.specs.Held.{owing}
use Rattle.stage_core.specs.Law.{ends_by, Law}
use Rattle.stage_core.specs.OwnPorts.{OwnRests}
use Rattle.stage_core.specs.Row.{BothClosed}

module _ {S : Type 0} (m : Machine S Tree) (start : Run S Tree) (holds : Bool) where
  -- it is asked, waits, and holds nothing
  pub waiting_rests : (st : State S) (took gave : List Item) → (law : Law m start (owing (record { gave = []; state = st })) Pulled outlet.Available took gave) → OwnRests m start holds Pulled outlet.Available law.in_list law.out_list
  waiting_rests st took gave law =
      let u : law.in_end ≡ unended = law.took_as in
      let now : run m start law.in_list ≡ record { gave = law.out_list ++ []; state = st } = ap (λ (e : End). ends_by m (run m start law.in_list) e) (sym u) ∙ law.keeps.1.0 in
      let all : (run m start law.in_list).gave ≡ law.out_list = ap (λ (y : Run S Tree). y.gave) now ∙ append-nil law.out_list in
      inr (inl ((refl, refl), (refl, refl), ap length (sym all) ∙ ap (λ (l : List Tree). length (run m start l).gave) (sym (take-length law.in_list))))

  -- nobody asks it, and it has not asked
  pub idle_rests : (l g : List Tree) → OwnRests m start holds Idle outlet.Unpulled l g
  idle_rests l g = inr (inr (inl ((refl, refl), inr (refl, refl))))

  -- it has closed both
  pub closed_rests : (x : InView) (y : OutView) (l g : List Tree) → BothClosed x y → OwnRests m start holds x y l g
  closed_rests Finished outlet.Closed l g h = inl (refl, refl)
  closed_rests Finished outlet.Cancelled l g h = inl (refl, refl)
  closed_rests Cancelled outlet.Closed l g h = inl (refl, refl)
  closed_rests Cancelled outlet.Cancelled l g h = inl (refl, refl)
  closed_rests Idle y l g h = absurd h
  closed_rests Pulled y l g h = absurd h
  closed_rests Finished outlet.Unpulled l g h = absurd h
  closed_rests Finished outlet.Available l g h = absurd h
  closed_rests Cancelled outlet.Unpulled l g h = absurd h
  closed_rests Cancelled outlet.Available l g h = absurd h
