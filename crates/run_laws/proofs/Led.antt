-- What a stage that follows moves tells of a picture: its row of a lawful one; and where no event is left its row by what its next move is to
-- be, or the cause of a misfit.
use Rattle.std.proofs.Common.{◌≡◌, ◌⊎◌, inl, inr, ◌∙◌, ℕ, ◌+◌, ◌≤◌, Bool, true, false, List, [], ◌∷◌, length, Option, Some, None, refl, sym, subst}
use Rattle.elem_core.specs.declared.why.Decider.{Decider}
use Rattle.port_core.specs.Picks.{next_move, plan_of, planned}
use Rattle.stream_io.specs.State.{SourceState, DrainState}
use Rattle.stream_model.specs.declared.kind.Kind.{Kind}
use Rattle.stream_model.specs.declared.kind.Kind.TheVariants.{Merge, MergeHub, Concat, Interleave, MergeSorted, Zip, Balance}
use Rattle.stream_model.specs.Graph.{Graph}
use Rattle.stream_model.specs.Graph as graph
use Rattle.stream_model.specs.Lawful.{RowLawful}
use Rattle.stream_model.specs.Linear.{role_of}
use Rattle.stream_model.specs.Node.{World}
use Rattle.stream_model.specs.Outlook.{Outlook}
use Rattle.stream_model.specs.Rests.{IsShut}
use Rattle.stream_model.specs.View as picture
use Rattle.stream_model.specs.View.{EachWire}
use Rattle.stage_in.specs.declared.logic.InLogic.{InLogic}
use Rattle.stage_in.specs.declared.logic.InLogic.TheVariants as fan_in
use Rattle.stage_in.specs.Logics as in_logics
use Rattle.stage_in.specs.Logics.{TakesAs, InAsking, InPortState, InLaw}
use Rattle.stage_in.specs.Moves as in_moves_of
use Rattle.stage_in.specs.Moves.{in_moves, in_plan}
use Rattle.stage_merge.specs.Rows.{MergeRestsBy, MergeMisfits}
use Rattle.stage_out.specs.declared.logic.OutLogic.{OutLogic}
use Rattle.stage_out.specs.declared.logic.OutLogic.TheVariants as fan_out
use Rattle.stage_out.specs.OutLogics as out_logics
use Rattle.stage_out.specs.OutLogics.{port_state, BeginsBalance, OutAsking, OutLaw}
use Rattle.stage_out.specs.Balancings.{Balancing, BalancesAs}
use Rattle.stage_out.specs.Balancings as balance
use Rattle.stage_out.specs.Moves as out_moves_of
use Rattle.stage_out.specs.Moves.{out_moves, out_plan}
use Rattle.stage_out.specs.BalanceRows.{BalanceRestsBy}
use Rattle.stage_state.specs.declared.logic.StateLogic.{StateLogic}
use Rattle.stage_state.specs.declared.logic.StateLogic.TheVariants.{Machine, Dropping, Recovering, Obeying, Tripping}
use Rattle.stage_state.specs.Handling.{StatePortState, StateLaw}
use Rattle.stage_state.specs.Moves.{state_plan}
use Rattle.nodes.specs.declared.node.IslandNode.{IslandNode}
use Rattle.nodes.specs.declared.node.IslandNode.TheVariants as node
use Rattle.nodes.specs.Nodes.{node_port_state, node_law, node_asking, node_moves}
use Rattle.run_laws.specs.Items.{AllMayPass}
use Rattle.run_laws.specs.KindLaws.{PictureLawsBy}
use Rattle.run_laws.specs.Made.{FirstState}
use Rattle.run_laws.specs.Picture.{sink_ended}
use Rattle.run_laws.specs.Ports.{InPort, OutPort, EachPort, InRests, OutRests, views_of, gots_of, sents_of}
use Rattle.run_laws.specs.Replayed.{Plans, left, BalanceCause, BalanceLawfulBy, FollowedOutputs, RoleLawfulBy, RowRestsBy}
use Rattle.run_laws.specs.Telling.{TellsMoves}
use Rattle.run_laws.specs.Unmoved.{never_ends}
use Rattle.run_laws.proofs.Balances.{BalanceAsking, made}
use Rattle.run_laws.proofs.Balances as balances
use Rattle.run_laws.proofs.Freely.{left_is}
use Rattle.run_laws.proofs.InPictures as ins
use Rattle.run_laws.proofs.InRows.{InView_of}
use Rattle.run_laws.proofs.Orders.{Wires}
use Rattle.run_laws.proofs.OutRows.{OutWires}
use Rattle.run_laws.proofs.OutStages.{balance_moments}
use Rattle.run_laws.proofs.StateRows as states
use Rattle.run_laws.proofs.SwitchRows as switches

-- ---- a merge or a merge hub

module _ (g : Graph) (w : World) (plans : Plans) (k : ℕ) (d : Decider) (is : List InPort) (o : OutPort) where
  -- the row of a lawful picture is its kind's own
  in_lawful : (kd : Kind) (first : InLogic) → TakesAs kd first → RowLawful g w k kd d (Wires is) (o.wire ∷ []) → RoleLawfulBy g w plans k (role_of kd) d (Wires is) (o.wire ∷ [])
  in_lawful (Concat n) (fan_in.Taking f) t h = h
  in_lawful (Interleave n c) (fan_in.Taking f) t h = h
  in_lawful MergeSorted (fan_in.Sorting f) t h = h
  in_lawful Zip (fan_in.Zipping f) t h = h
  in_lawful (Merge n) (fan_in.Merging f) t h = h
  in_lawful (MergeHub c n) (fan_in.Merging f) t h = h
  in_lawful kd first t h = absurd t

  abbrev AllShut : Type 0
  AllShut = EachWire IsShut (Wires is) × EachWire IsShut (o.wire ∷ [])

  -- what is told of it is its row, by whether it gathers
  merge_row : (n : ℕ) (comes : List Outlook) (b : Bool) → b ≡ false → AllShut ⊎ (MergeRestsBy (next_move (left g w plans k)) (w.moves k) (Wires is) o.wire ⊎ MergeMisfits b (next_move (left g w plans k)) (w.moves k) comes)
      → AllShut ⊎ RowRestsBy g w plans k (Merge n) d comes (Wires is) (o.wire ∷ [])
  merge_row n comes b way (inl h) = inl h
  merge_row n comes b way (inr (inl h)) = inr (inl h)
  merge_row n comes b way (inr (inr h)) = inr (inr (subst (λ (c : Bool). MergeMisfits c (next_move (left g w plans k)) (w.moves k) comes) way h))

  hub_row : (c n : ℕ) (comes : List Outlook) (b : Bool) → b ≡ true → AllShut ⊎ (MergeRestsBy (next_move (left g w plans k)) (w.moves k) (Wires is) o.wire ⊎ MergeMisfits b (next_move (left g w plans k)) (w.moves k) comes)
      → AllShut ⊎ RowRestsBy g w plans k (MergeHub c n) d comes (Wires is) (o.wire ∷ [])
  hub_row c n comes b way (inl h) = inl h
  hub_row c n comes b way (inr (inl h)) = inr (inl h)
  hub_row c n comes b way (inr (inr h)) = inr (inr (subst (λ (x : Bool). MergeMisfits x (next_move (left g w plans k)) (w.moves k) comes) way h))

  in_rests : (comes : List Outlook) (kd : Kind) (first now : InLogic) (plan : List ℕ) → TakesAs kd first → in_plan first ≡ Some plan → plans k ≡ in_plan first → in_moves_of.TellsMoves w k now → InPortState now (InView_of is o)
      → InLaw first now (InView_of is o) (gots_of is) (o.sent ∷ []) → EachPort InRests is → OutRests o → AllMayPass comes (gots_of is) → AllShut ⊎ RowRestsBy g w plans k kd d comes (Wires is) (o.wire ∷ [])
  in_rests comes (Merge n) (fan_in.Merging f) (fan_in.Merging l) plan t e follows tells r law ri ro may =
      merge_row n comes l.gathers (law.same.1.0 ∙ t.way) (ins.led_stays g w k d is o ri ro plans comes f l follows tells r law may)
  in_rests comes (MergeHub c n) (fan_in.Merging f) (fan_in.Merging l) plan t e follows tells r law ri ro may =
      hub_row c n comes l.gathers (law.same.1.0 ∙ t.way) (ins.led_stays g w k d is o ri ro plans comes f l follows tells r law may)
  in_rests comes (Concat n) (fan_in.Taking f) now plan t e follows tells r law ri ro may = absurd cc
  in_rests comes (Interleave n c) (fan_in.Taking f) now plan t e follows tells r law ri ro may = absurd cc
  in_rests comes MergeSorted (fan_in.Sorting f) now plan t e follows tells r law ri ro may = absurd cc
  in_rests comes Zip (fan_in.Zipping f) now plan t e follows tells r law ri ro may = absurd cc
  in_rests comes (Merge n) (fan_in.Merging f) now plan t e follows tells r law ri ro may = absurd law.same
  in_rests comes (MergeHub c n) (fan_in.Merging f) now plan t e follows tells r law ri ro may = absurd law.same
  in_rests comes kd first now plan t e follows tells r law ri ro may = absurd t

module _ (g : Graph) (w : World) (plans : Plans) (k : ℕ) (n : graph.Node) where
  pub led_in : (first now : InLogic) (is : List InPort) (os : List OutPort) (plan : List ℕ) → plans k ≡ Some plan → in_logics.Begins k n.kind n.decider first → in_plan first ≡ Some plan → in_moves_of.TellsMoves w k now
      → InPortState now (views_of is os) → InLaw first now (views_of is os) (gots_of is) (sents_of os) → PictureLawsBy InPortState InLaw InAsking in_moves never_ends g w plans k n first now is os
  led_in first now is [] plan follows b e tells r law = let none = law.by.gave_is in absurd cc
  led_in first now is (o ∷ p ∷ os) plan follows b e tells r law = let more = law.by.gave_is in absurd cc
  led_in first now is (o ∷ []) plan follows b e tells r law = record {
    lawful = λ s so m. in_lawful g w plans k n.decider is o n.kind first b.takes (ins.lawful_by g w k n.decider is o n.kind first now b.takes tells law s so.0 m);
    rests = λ comes may s so ri ro. in_rests g w plans k n.decider is o comes n.kind first now plan b.takes e (follows ∙ sym e) tells r law ri ro.0 may;
    matches = λ sink ri. let no = ins.no_sink n.kind first b.takes in let z : true ≡ false = sym sink ∙ no in absurd cc;
  }

-- ---- a balance

module _ (g : Graph) (w : World) (plans : Plans) (k : ℕ) (d : Decider) (i : picture.SeenWire) (os : List picture.SeenWire) where
  out_lawful : (kd : Kind) (l : Balancing) (plan moves : List ℕ) → BeginsBalance kd l → plans k ≡ Some plan → w.moves k ≡ moves → FollowedOutputs moves 0 os × (picture.demand i ≤ length moves + 1) → RoleLawfulBy g w plans k (role_of kd) d (i ∷ []) os
  out_lawful (Balance n) l plan moves b follows same h =
      subst (λ (p : Option (List ℕ)). BalanceLawfulBy p (w.moves k) i os) (sym follows) (subst (λ (ms : List ℕ). FollowedOutputs ms 0 os × (picture.demand i ≤ length ms + 1)) (sym same) h)
  out_lawful kd l plan moves b follows same h = absurd b

  abbrev Shut : Type 0
  Shut = EachWire IsShut (i ∷ []) × EachWire IsShut os

  out_rests : (kd : Kind) (l : Balancing) (comes : List Outlook) → BeginsBalance kd l → Shut ⊎ (BalanceRestsBy (next_move (left g w plans k)) i os ⊎ BalanceCause (next_move (left g w plans k)) (w.moves k) comes) → Shut ⊎ RowRestsBy g w plans k kd d comes (i ∷ []) os
  out_rests (Balance n) l comes b (inl h) = inl h
  out_rests (Balance n) l comes b (inr (inl h)) = inr (inl h)
  out_rests (Balance n) l comes b (inr (inr h)) = inr (inr h)
  out_rests kd l comes b h = absurd b

module _ (g : Graph) (w : World) (plans : Plans) (k : ℕ) (n : graph.Node) where
  led_balance : (first now : Balancing) (is : List InPort) (os : List OutPort) (plan : List ℕ) → plans k ≡ Some plan → BeginsBalance n.kind first → planned first.log ≡ Some plan → w.moves k ≡ now.log.moves → balance.port_state now (views_of is os)
      → BalancesAs first now (views_of is os) (gots_of is) (sents_of os) → PictureLawsBy balance.port_state BalancesAs BalanceAsking made never_ends g w plans k n first now is os
  led_balance first now [] os plan follows b e same r law = let none = law.took_is in absurd cc
  led_balance first now (i ∷ j ∷ is) os plan follows b e same r law = let more = law.took_is in absurd cc
  led_balance first now (i ∷ []) os plan follows b e same r law = record {
    lawful = λ s so m. out_lawful g w plans k n.decider i.wire (OutWires os) n.kind first plan now.log.moves b follows same (balances.led_lawful first now i os law s.0 so r m);
    rests = λ comes may s so ri ro. out_rests g w plans k n.decider i.wire (OutWires os) n.kind first comes b (balances.led_stays g w plans k first now i os law s.0 so ri.0 ro comes (follows ∙ sym e) same r may);
    matches = λ sink ri. let no = balances.no_sink n.kind first b in let z : true ≡ false = sym sink ∙ no in absurd cc;
  }

  pub led_out : (first now : OutLogic) (is : List InPort) (os : List OutPort) (plan : List ℕ) → plans k ≡ Some plan → out_logics.Begins k n.kind first → out_plan first ≡ Some plan → out_moves_of.TellsMoves w k now
      → port_state now (views_of is os) → OutLaw first now (views_of is os) (gots_of is) (sents_of os) → PictureLawsBy port_state OutLaw OutAsking out_moves never_ends g w plans k n first now is os
  led_out (fan_out.Balances f) (fan_out.Balances l) is os plan follows b e tells r law =
      let p = led_balance f l is os plan follows b.as_kind e (tells l.log.moves refl) r law in
      record {
        lawful = λ s so m. p.lawful s so (λ q some. balance_moments f l is os q (m q some));
        rests = p.rests;
        matches = p.matches;
      }
  led_out (fan_out.Machines f) now is os plan follows b e tells r law = absurd cc
  led_out (fan_out.Balances f) (fan_out.Machines l) is os plan follows b e tells r law = absurd law

-- ---- a stage with state

module _ {S D : Type 0} (L H B : Type 0) (sources : S → SourceState) (drains : D → DrainState) (g : Graph) (w : World) (plans : Plans) (k : ℕ) (n : graph.Node) where
  abbrev Tells : StateLogic → StateLogic → List InPort → List OutPort → Type 0
  Tells first x is os = PictureLawsBy {N = IslandNode S D L H B} node_port_state (node_law sources drains w.book) node_asking node_moves sink_ended g w plans k n (node.State first) (node.State x) is os

  -- what is left of its moves in the picture is what it follows still
  rest_is : (now start : Option (List ℕ)) (moves first : List ℕ) (plan : List ℕ) → plans k ≡ Some plan → plan_of first start ≡ Some plan → plan_of moves now ≡ plan_of first start → w.moves k ≡ moves → left g w plans k ≡ now
  rest_is now start moves first plan follows e kept same = left_is (plans k) now moves (w.moves k) (follows ∙ sym e ∙ sym kept) same

  -- behind its moves a log that follows some does so still
  follows_still : (now : Option (List ℕ)) (moves : List ℕ) (plan : List ℕ) → plan_of moves now ≡ Some plan → (rest : List ℕ) × (now ≡ Some rest)
  follows_still None moves plan e = cc
  follows_still (Some rest) moves plan e = (rest, refl)

  led_one : (first x : StateLogic) (i : InPort) (o : OutPort) (plan : List ℕ) → plans k ≡ Some plan → FirstState k n first → state_plan first ≡ Some plan → TellsMoves {S = S} {D = D} {L = L} {H = H} {B = B} w k (node.State x) → StatePortState x (views_of (i ∷ []) (o ∷ []))
      → StateLaw first x (views_of (i ∷ []) (o ∷ [])) (i.got ∷ []) (o.sent ∷ []) → Tells first x (i ∷ []) (o ∷ [])
  led_one (Dropping f) (Dropping l) i o plan follows b e tells r law =
      let rest = follows_still l.log.left l.log.moves plan (law.plan ∙ e) in
      states.drops_led L H B sources drains g w k n f l i o b.begins.as_kind (tells l.log.moves refl) r law plans rest.0
      (rest_is l.log.left f.log.left l.log.moves f.log.moves plan follows e law.plan (tells l.log.moves refl)) rest.1
  led_one (Recovering f) (Recovering l) i o plan follows b e tells r law =
      states.recover_led L H B sources drains g w k n f l i o b.begins.as_kind (tells l.moves refl) r law plans (rest_is l.left f.left l.moves f.moves plan follows e law.plan (tells l.moves refl))
  led_one (Obeying f) (Obeying l) i o plan follows b e tells r law =
      switches.valve_led L H B sources drains g w k n f l i o b.begins.as_kind (tells l.moves refl) r law plans (rest_is l.left f.left l.moves f.moves plan follows e law.plan (tells l.moves refl))
  led_one (Machine f) x i o plan follows b e tells r law = absurd cc
  led_one (Tripping f) x i o plan follows b e tells r law = absurd cc
  led_one first x i o plan follows b e tells r law = absurd law

  pub led_state : (first x : StateLogic) (is : List InPort) (os : List OutPort) (plan : List ℕ) → plans k ≡ Some plan → FirstState k n first → state_plan first ≡ Some plan → TellsMoves {S = S} {D = D} {L = L} {H = H} {B = B} w k (node.State x) → StatePortState x (views_of is os)
      → StateLaw first x (views_of is os) (gots_of is) (sents_of os) → Tells first x is os
  led_state first x (i ∷ []) (o ∷ []) plan follows b e tells r law = led_one first x i o plan follows b e tells r law
  led_state first x [] os plan follows b e tells r law = absurd (states.no_input L H B sources drains g w k n x os r)
  led_state first x (i ∷ []) [] plan follows b e tells r law = absurd (states.no_output L H B sources drains g w k n x i r)
  led_state first x (i ∷ []) (o ∷ p ∷ os) plan follows b e tells r law = absurd (states.two_outputs L H B sources drains g w k n x i o p os r)
  led_state first x (i ∷ j ∷ is) os plan follows b e tells r law = absurd (states.two_inputs L H B sources drains g w k n x i j is os r)
