-- What a node gave agrees with its outlook by a world that has all the moves that it follows, where they fit and nothing fails there.
use Rattle.std.specs.Prelude.{◌==◌, ◌||◌, ◌&&◌, nat_le, slice_get, Option, None, Some}
use Rattle.std.proofs.lemmas.Bool.Decides.{nat_tests}
use Rattle.std.proofs.lemmas.Option.{slice_get_within}
use Rattle.std.proofs.Common.{◌≡◌, ◌≢◌, ℕ, zero, suc, ◌<◌, Bool, List, [], ◌∷◌, length, true, false, refl, sym, ap, ◌∙◌, subst, arith, inl, inr}
use Rattle.elem_core.specs.Tree.{Tree}
use Rattle.elem_core.specs.declared.item.Item.{Item}
use Rattle.port_core.specs.View.{View}
use Rattle.port_core.specs.Picks.{plan_of, planned}
use Rattle.stream_model.specs.declared.kind.Kind.{Kind}
use Rattle.stream_model.specs.declared.kind.Kind.TheVariants as kind
use Rattle.stream_model.specs.declared.kind.Policy.{Policy}
use Rattle.stream_model.specs.declared.kind.Policy.TheVariants.{Backpressure, DropHead, DropTail, DropBuffer, DropNew, Fail}
use Rattle.stream_model.specs.Composed.{inputs_of}
use Rattle.stream_model.specs.FanIn.{Inflow, AllAgree}
use Rattle.stream_model.specs.Fits.{inputs, moves_fit}
use Rattle.stream_model.specs.Graph.{Graph}
use Rattle.stream_model.specs.Graph as graph
use Rattle.stream_model.specs.Node.{World, node_outlook, head_of}
use Rattle.stream_model.specs.Outlook.{Outlook, End, Agrees}
use Rattle.stream_model.specs.Picks.{acted, balance_fits, balance_outlook, merge_fits, gathered_by, buffer_fits, buffer_outlook, recover_fits, recover_outlook, valve_fits, valve_outlook}
use Rattle.stream_model.specs.View.{outputs_of}
use Rattle.stream_io.specs.State.{SourceState, DrainState}
use Rattle.stage_core.specs.Held.{told}
use Rattle.stage_dropping.specs.Drops.{DropStandsOf}
use Rattle.stage_dropping.specs.Droppings as dropping
use Rattle.stage_dropping.specs.Droppings.{DropsAs}
use Rattle.stage_dropping.proofs.DropNodes as drops
use Rattle.stage_dropping.specs.Recovers.{RecoverStandsOf}
use Rattle.stage_dropping.specs.Recoverings as recover
use Rattle.stage_dropping.specs.Recoverings.{RecoversAs}
use Rattle.stage_dropping.proofs.RecoverNodes as recovers
use Rattle.stage_in.specs.declared.logic.InLogic.{InLogic}
use Rattle.stage_in.specs.declared.logic.InLogic.TheVariants as logic
use Rattle.stage_in.specs.Logics.{InLaw, TakesAs}
use Rattle.stage_in.specs.Moves.{in_plan}
use Rattle.stage_in.proofs.Nodes.{merge_law}
use Rattle.stage_merge.specs.Mergings.{Merging}
use Rattle.stage_out.specs.declared.logic.OutLogic.{OutLogic}
use Rattle.stage_out.specs.declared.logic.OutLogic.TheVariants.{Machines, Balances}
use Rattle.stage_out.specs.Balancings.{Balancing, BalancesAs}
use Rattle.stage_out.specs.Moves.{out_plan}
use Rattle.stage_out.specs.OutLogics.{BeginsBalance, OutLaw}
use Rattle.stage_out.specs.OutLogics as fan_out
use Rattle.stage_switch.specs.Handling.{ValveAs}
use Rattle.stage_switch.specs.States.{Valve, valve_held, moves_by}
use Rattle.stage_state.specs.declared.logic.StateLogic.{StateLogic}
use Rattle.stage_state.specs.declared.logic.StateLogic.TheVariants.{Machine, Dropping, Recovering, Obeying, Tripping}
use Rattle.stage_state.specs.Handling.{StateLaw}
use Rattle.nodes.specs.Nodes.{node_law, node_picks, node_plan}
use Rattle.stage_state.specs.Moves.{state_plan}
use Rattle.nodes.specs.declared.node.IslandNode.{IslandNode}
use Rattle.nodes.specs.declared.node.IslandNode.TheVariants as node
use Rattle.plan_laws.specs.Sure.{AllSure}
use Rattle.run_laws.specs.Items.{AllMayPass, AgreesWith}
use Rattle.run_laws.specs.Made.{FirstOf, LedAs}
use Rattle.run_laws.specs.Serving.{IsSureAt, ServesPlan}
use Rattle.run_laws.specs.Telling.{TellsNode, TellsMoves, ServesMoves}
use Rattle.run_laws.proofs.AnyKind.{node_laws}
use Rattle.run_laws.proofs.InRuns.{at_index, one_given}
use Rattle.run_laws.proofs.LedSubs.{led_serves}
use Rattle.stage_sub.specs.Leds as led_subs
use Rattle.run_laws.proofs.Plans.{merge_follows_its_plan, balance_follows_its_plan, recover_follows_its_plan, buffer_follows_its_plan, valve_follows_its_plan}
use Rattle.run_laws.proofs.StateChoices.{flows_agree, drops_first, recovers_first, some_is}
use Rattle.run_laws.proofs.StateSwitches.{valve_first, one_flow, one_outlook}

-- what is left at the start is all of the plan
left_first : (moves : List ℕ) (left : Option (List ℕ)) (plan : List ℕ) → moves ≡ [] → plan_of moves left ≡ Some plan → left ≡ Some plan
left_first moves None plan e p = cc
left_first moves (Some l) plan e p = sym (ap (λ (ms : List ℕ). plan_of ms (Some l)) e) ∙ p

no_calm : {A : Type 0} {x : A} → None ≡ Some x → ⊥
no_calm e = cc

-- one that has a plan follows moves
planned_some : (moves : List ℕ) (l : Option (List ℕ)) (plan : List ℕ) → plan_of moves l ≡ Some plan → l ≢ None
planned_some moves l plan e = λ none. no_calm (sym (ap (plan_of moves) none) ∙ e)

-- what came to a balance, by the outlook of its one input
balance_came : (os : List Outlook) (taken : List Item) → AllMayPass os (taken ∷ []) → (l : List Tree) (e : End) → taken ≡ told l e → Agrees (head_of os) l e
balance_came [] taken m l e is = absurd m
balance_came (o ∷ []) taken m l e is = m.0 l e is
balance_came (o ∷ p ∷ os) taken m l e is = absurd m.1

-- an order is 1 or 2
no_other_order : (j i : ℕ) (o : Outlook) → valve_fits (suc (suc (suc j)) ∷ i ∷ []) o ≡ true → ⊥
no_other_order j i o h =
    let first : (suc (suc (suc j)) == 1) ≡ false = grind (arith, nat_tests) in
    let second : (suc (suc (suc j)) == 2) ≡ false = grind (arith, nat_tests) in
    let none : ◌≡◌ {A = Bool} false true =
    sym (ap (λ (b : Bool). (b || (suc (suc (suc j)) == 2)) && nat_le i (length o.list)) first ∙ ap (λ (b : Bool). (false || b) && nat_le i (length o.list)) second) ∙ h in
    cc

-- moves that fit a valve are those of what it did
valve_formed : (ms : List ℕ) (o : Outlook) → valve_fits ms o ≡ true → ms ≡ moves_by (acted ms)
valve_formed [] o h = refl
valve_formed (j ∷ []) o h = cc
valve_formed (zero ∷ i ∷ []) o h = cc
valve_formed (suc zero ∷ i ∷ []) o h = refl
valve_formed (suc (suc zero) ∷ i ∷ []) o h = refl
valve_formed (suc (suc (suc j)) ∷ i ∷ []) o h = absurd (no_other_order j i o h)
valve_formed (j ∷ i ∷ m ∷ ms) o h = cc

module _ (g : Graph) (w : World) (k : ℕ) (n : graph.Node) (os : List Outlook) (plan : List ℕ) (has : w.moves k ≡ plan) (fit : moves_fit g w k n.kind os ≡ true) (sure : AllSure os) (calm : (node_outlook g w k n.kind n.decider os 0).fails ≡ []) where
  -- what it gave on its one output
  abbrev Serves : List Tree → End → Type 0
  Serves l e = Agrees (node_outlook g w k n.kind n.decider os 0) l e

  -- ---- a merge, and one that gathers

  module _ (first now : Merging) (v : View) (took gave : List (List Item)) (law : InLaw (logic.Merging first) (logic.Merging now) v took gave) (a : AllAgree os law.by.law.ins) (takes : TakesAs n.kind (logic.Merging first)) (follows : in_plan (logic.Merging first) ≡ Some plan) where
    gathers : (b : Bool) → first.gathers ≡ b → first.log.moves ≡ [] → merge_fits plan os ≡ true → Agrees (gathered_by b plan os) law.by.law.out_list law.by.law.out_end
    gathers b way unmoved fits =
        subst (λ x. Agrees (gathered_by x plan os) law.by.law.out_list law.by.law.out_end) way
        (merge_follows_its_plan first now v took gave (merge_law first now v took gave law) plan (left_first first.log.moves first.log.left plan unmoved follows) os fits sure a)

    by_kind : (kd : Kind) → TakesAs kd (logic.Merging first) → moves_fit g w k kd os ≡ true → Agrees (node_outlook g w k kd n.decider os 0) law.by.law.out_list law.by.law.out_end
    by_kind (kind.Merge m) t fits = subst (λ (ms : List ℕ). Agrees (gathered_by false ms os) law.by.law.out_list law.by.law.out_end) (sym has) (gathers false t.way t.moves (subst (λ (ms : List ℕ). merge_fits ms os ≡ true) has fits))
    by_kind (kind.MergeHub s m) t fits = subst (λ (ms : List ℕ). Agrees (gathered_by true ms os) law.by.law.out_list law.by.law.out_end) (sym has) (gathers true t.way t.moves (subst (λ (ms : List ℕ). merge_fits ms os ≡ true) has fits))
    by_kind kd t fits = absurd t

    merge_serves : Serves law.by.law.out_list law.by.law.out_end
    merge_serves = by_kind n.kind takes fit

  -- ---- a buffer that drops

  module _ (first now : dropping.Dropping) (v : View) (took gave : List (List Item)) (law : DropsAs first now v took gave) (a : AllAgree os law.by.law.ins) (begins : LedAs n.kind k n.decider (Dropping first)) (follows : state_plan (Dropping first) ≡ Some plan) where
    drop_one : (fs : List Inflow) → DropStandsOf first.node first.policy first.size now.log.moves fs law.by.law.out_list law.by.law.out_end → length fs ≡ 1
    drop_one [] s = absurd s
    drop_one (f ∷ []) s = refl
    drop_one (f ∷ h ∷ fs) s = absurd s

    drop_fits : (m : ℕ) (p : Policy) (o : Outlook) → p ≢ Backpressure → moves_fit g w k (kind.Buffer m p) (o ∷ []) ≡ true → buffer_fits p m plan o ≡ true
    drop_fits m Backpressure o drop h = absurd (drop refl)
    drop_fits m DropHead o drop h = ap (λ (ms : List ℕ). buffer_fits DropHead m ms o) (sym has) ∙ h
    drop_fits m DropTail o drop h = ap (λ (ms : List ℕ). buffer_fits DropTail m ms o) (sym has) ∙ h
    drop_fits m DropBuffer o drop h = ap (λ (ms : List ℕ). buffer_fits DropBuffer m ms o) (sym has) ∙ h
    drop_fits m DropNew o drop h = ap (λ (ms : List ℕ). buffer_fits DropNew m ms o) (sym has) ∙ h
    drop_fits m Fail o drop h = ap (λ (ms : List ℕ). buffer_fits Fail m ms o) (sym has) ∙ h

    drop_is : (m : ℕ) (p : Policy) (o : Outlook) → p ≢ Backpressure → node_outlook g w k (kind.Buffer m p) n.decider (o ∷ []) 0 ≡ buffer_outlook k p m plan o
    drop_is m Backpressure o drop = absurd (drop refl)
    drop_is m DropHead o drop = ap (λ (ms : List ℕ). buffer_outlook k DropHead m ms o) has
    drop_is m DropTail o drop = ap (λ (ms : List ℕ). buffer_outlook k DropTail m ms o) has
    drop_is m DropBuffer o drop = ap (λ (ms : List ℕ). buffer_outlook k DropBuffer m ms o) has
    drop_is m DropNew o drop = ap (λ (ms : List ℕ). buffer_outlook k DropNew m ms o) has
    drop_is m Fail o drop = ap (λ (ms : List ℕ). buffer_outlook k Fail m ms o) has

    drop_serves : Serves law.by.law.out_list law.by.law.out_end
    drop_serves =
        let f = drops_first k n.kind n.decider first begins in
        let one = one_outlook os law.by.law.ins (drop_one law.by.law.ins (drops.stands first now v took gave law)) a in
        let o = one.0 in
        let node_is : first.node ≡ k = ap (λ (x : dropping.Dropping). x.node) f.is.is in
        let policy_is : first.policy ≡ f.policy = ap (λ (x : dropping.Dropping). x.policy) f.is.is in
        let size_is : first.size ≡ f.room = ap (λ (x : dropping.Dropping). x.size) f.is.is in
        let left = left_first first.log.moves first.log.left plan f.is.unmoved follows in
        let same : node_outlook g w k n.kind n.decider os 0 ≡ buffer_outlook k f.policy f.room plan o =
        ap (λ (xs : List Outlook). node_outlook g w k n.kind n.decider xs 0) one.1 ∙ ap (λ (kd : Kind). node_outlook g w k kd n.decider (o ∷ []) 0) f.kind_is ∙ drop_is f.room f.policy o f.drops in
        let own : buffer_outlook k f.policy f.room plan o ≡ buffer_outlook first.node first.policy first.size plan o =
        sym (ap (λ (i : ℕ). buffer_outlook i first.policy first.size plan o) node_is ∙ ap (λ (p : Policy). buffer_outlook k p first.size plan o) policy_is ∙ ap (λ (i : ℕ). buffer_outlook k f.policy i plan o) size_is) in
        let fits_kind : moves_fit g w k (kind.Buffer f.room f.policy) (o ∷ []) ≡ true = ap (λ (kd : Kind). moves_fit g w k kd (o ∷ [])) (sym f.kind_is) ∙ ap (λ (xs : List Outlook). moves_fit g w k n.kind xs) (sym one.1) ∙ fit in
        let fits : buffer_fits first.policy first.size plan o ≡ true =
        ap (λ (p : Policy). buffer_fits p first.size plan o) policy_is ∙ ap (λ (i : ℕ). buffer_fits f.policy i plan o) size_is ∙ drop_fits f.room f.policy o f.drops fits_kind in
        let sure_one : o.fails ≡ [] = (subst AllSure one.1 sure).0 in
        let calm_own : (buffer_outlook first.node first.policy first.size plan o).fails ≡ [] = ap (λ (x : Outlook). x.fails) (sym (same ∙ own)) ∙ calm in
        subst (λ (x : Outlook). Agrees x law.by.law.out_list law.by.law.out_end) (sym (same ∙ own))
        (buffer_follows_its_plan first now v took gave law plan left o fits sure_one calm_own (subst (λ (xs : List Outlook). AllAgree xs law.by.law.ins) one.1 a))

  -- ---- a recover

  module _ (first now : recover.Recover) (v : View) (took gave : List (List Item)) (law : RecoversAs first now v took gave) (a : AllAgree os law.by.law.ins) (begins : LedAs n.kind k n.decider (Recovering first)) (follows : state_plan (Recovering first) ≡ Some plan) where
    recover_one : (fs : List Inflow) → RecoverStandsOf law.element now.moves fs law.by.law.out_list law.by.law.out_end → length fs ≡ 1
    recover_one [] s = absurd s
    recover_one (f ∷ []) s = refl
    recover_one (f ∷ h ∷ fs) s = absurd s

    recover_serves : Serves law.by.law.out_list law.by.law.out_end
    recover_serves =
        let r = recovers_first k n.kind n.decider first begins in
        let one = one_outlook os law.by.law.ins (recover_one law.by.law.ins (recovers.stands first now v took gave law)) a in
        let o = one.0 in
        let own : law.element ≡ r.element = some_is law.element r.element (sym law.is_own ∙ ap (λ (x : recover.Recover). x.own) r.is) in
        let left = left_first first.moves first.left plan (ap (λ (x : recover.Recover). x.moves) r.is) follows in
        let same : node_outlook g w k n.kind n.decider os 0 ≡ recover_outlook law.element plan o =
        r.outlook g w k n.decider os 0 ∙ ap (λ (ms : List ℕ). recover_outlook r.element ms (head_of os)) has ∙ ap (λ (xs : List Outlook). recover_outlook r.element plan (head_of xs)) one.1 ∙ ap (λ (t : Tree). recover_outlook t plan o) (sym own) in
        let fits : recover_fits plan o ≡ true = ap (λ (xs : List Outlook). recover_fits plan (head_of xs)) (sym one.1) ∙ ap (λ (ms : List ℕ). recover_fits ms (head_of os)) (sym has) ∙ sym (r.fits_by g w k os) ∙ fit in
        subst (λ (x : Outlook). Agrees x law.by.law.out_list law.by.law.out_end) (sym same)
        (recover_follows_its_plan first now v took gave law plan left o fits (subst AllSure one.1 sure).0 (subst (λ (xs : List Outlook). AllAgree xs law.by.law.ins) one.1 a))

  -- ---- a balance

  module _ (first now : Balancing) (v : View) (took gave : List (List Item)) (law : BalancesAs first now v took gave) (may : AllMayPass os took) (follows : planned first.log ≡ Some plan) where
    balance_passes : Agrees (head_of os) law.law.flow.list law.law.flow.end
    balance_passes = balance_came os law.taken (subst (λ (hs : List (List Item)). AllMayPass os hs) law.took_is may) law.law.flow.list law.law.flow.end law.law.took_is

    balance_sure : (xs : List Outlook) → AllSure xs → AllMayPass xs (law.taken ∷ []) → (head_of xs).fails ≡ []
    balance_sure [] s m = absurd m
    balance_sure (o ∷ []) s m = s.0
    balance_sure (o ∷ p ∷ xs) s m = absurd m.1

    balance_by : (kd : Kind) → BeginsBalance kd first → moves_fit g w k kd os ≡ true → (j : ℕ) → Agrees (node_outlook g w k kd n.decider os j) (law.law.lists j) (law.law.ends j)
    balance_by (kind.Balance m) b fits j =
        subst (λ (ms : List ℕ). Agrees (balance_outlook ms (head_of os) j) (law.law.lists j) (law.law.ends j)) (sym has)
        (balance_follows_its_plan first now v took gave law plan (left_first first.log.moves first.log.left plan law.unmoved follows) m (head_of os) (subst (λ (ms : List ℕ). balance_fits m ms (head_of os) ≡ true) has fits)
        (balance_sure os sure (subst (λ (hs : List (List Item)). AllMayPass os hs) law.took_is may)) balance_passes j)
    balance_by kd b fits j = absurd b

  -- ---- a valve

  module _ (first now : Valve) (v : View) (took gave : List (List Item)) (law : ValveAs first now v took gave) (a : AllAgree os law.by.law.ins) (begins : LedAs n.kind k n.decider (Obeying first)) (follows : state_plan (Obeying first) ≡ Some plan) where
    unmoved : (kd : Kind) → LedAs kd k n.decider (Obeying first) → first.moves ≡ []
    unmoved (kind.Valve name) b = ap (λ (x : Valve). x.moves) b.1
    unmoved kd b = absurd b

    valve_serves : Serves law.by.law.out_list law.by.law.out_end
    valve_serves =
        let f = valve_first k n.kind n.decider first begins in
        let l = law.by.law in
        let one = one_outlook os l.ins (one_flow first.node (valve_held now) l.ins l.out_list l.out_end l.keeps) a in
        let o = one.0 in
        let none = unmoved n.kind begins in
        let left = left_first first.moves first.left plan none follows in
        let fits_kind : valve_fits (w.moves k) (head_of (o ∷ [])) ≡ true = ap (λ (kd : Kind). moves_fit g w k kd (o ∷ [])) (sym f.kind_is) ∙ ap (λ (xs : List Outlook). moves_fit g w k n.kind xs) (sym one.1) ∙ fit in
        let formed = valve_formed plan o (ap (λ (ms : List ℕ). valve_fits ms o) (sym has) ∙ fits_kind) in
        let same : node_outlook g w k n.kind n.decider os 0 ≡ valve_outlook first.node plan o =
        ap (λ (xs : List Outlook). node_outlook g w k n.kind n.decider xs 0) one.1 ∙ ap (λ (kd : Kind). node_outlook g w k kd n.decider (o ∷ []) 0) f.kind_is ∙ ap (λ (ms : List ℕ). valve_outlook k ms o) has ∙ ap (λ (i : ℕ). valve_outlook i plan o) (sym f.node) in
        subst (λ (x : Outlook). Agrees x l.out_list l.out_end) (sym same)
        (valve_follows_its_plan first now v took gave law plan formed none left o (subst (λ (xs : List Outlook). AllAgree xs l.ins) one.1 a))

-- ---- a node of any kind

some_plan : (p q : List ℕ) → Some p ≡ Some q → p ≡ q
some_plan p q e = cc

module _ (g : Graph) (w : World) (k : ℕ) (n : graph.Node) where
  -- what came in on its inputs by the composed outlooks
  abbrev comes : List Outlook
  comes = inputs g w k n

  abbrev GivesSo : List (List Item) → Type 0
  GivesSo gave = (p : ℕ) (h : List Item) → slice_get gave p ≡ Some h → AgreesWith (node_outlook g w k n.kind n.decider comes p) h

  -- it has one output
  one_out : (l : List Tree) (e : End) (x : List Item) (gave : List (List Item)) → gave ≡ x ∷ [] → x ≡ told l e → Agrees (node_outlook g w k n.kind n.decider comes 0) l e → GivesSo gave
  one_out l e x gave gave_is is a p h at =
      let one = one_given x h p (subst (λ (hs : List (List Item)). slice_get hs p ≡ Some h) gave_is at) in
      record { list = l; end = e; is = one.1 ∙ is; agrees = subst (λ q. Agrees (node_outlook g w k n.kind n.decider comes q) l e) (sym one.0) a }

  module _ (plan : List ℕ) (is : w.moves k ≡ plan) (fit : moves_fit g w k n.kind comes ≡ true) (sure : IsSureAt g w k n) where
    in_serves : (first now : InLogic) (v : View) (took gave : List (List Item)) → TakesAs n.kind first → in_plan first ≡ Some plan → 0 < outputs_of n → InLaw first now v took gave → AllMayPass comes took → GivesSo gave
    in_serves (logic.Merging first) (logic.Merging now) v took gave takes follows out law a =
        let x = law.by.law in
        let flows = flows_agree _ v took gave comes law.by a in
        one_out x.out_list x.out_end law.by.given gave law.by.gave_is x.gave_is (merge_serves g w k n comes plan is fit sure.ins (sure.outs 0 out) first now v took gave law flows takes follows)
    in_serves (logic.Merging first) now v took gave takes follows out law a = absurd law.same
    in_serves (logic.Taking first) now v took gave takes follows out law a = absurd (no_calm follows)
    in_serves (logic.Sorting first) now v took gave takes follows out law a = absurd (no_calm follows)
    in_serves (logic.Zipping first) now v took gave takes follows out law a = absurd (no_calm follows)

    out_serves : (first now : OutLogic) (v : View) (took gave : List (List Item)) → fan_out.BeginsAs k n.kind first → out_plan first ≡ Some plan → 0 < outputs_of n → OutLaw first now v took gave → AllMayPass comes took → GivesSo gave
    out_serves (Balances first) (Balances now) v took gave begins follows out law a = λ p h at.
        let within = slice_get_within gave p h at in
        let ports = law.ports in
        record {
          list = law.law.lists p;
          end = law.law.ends p;
          is = sym (at_index gave p h at) ∙ law.law.gave_is p (omega (arith, within, ports));
          agrees = balance_by g w k n comes plan is fit sure.ins (sure.outs 0 out) first now v took gave law a follows n.kind begins fit p;
        }
    out_serves (Machines first) now v took gave begins follows out law a = absurd (no_calm follows)
    out_serves (Balances first) now v took gave begins follows out law a = absurd law

    state_serves : (first now : StateLogic) (v : View) (took gave : List (List Item)) → LedAs n.kind k n.decider first → state_plan first ≡ Some plan → 0 < outputs_of n → StateLaw first now v took gave → AllMayPass comes took → GivesSo gave
    state_serves (Dropping first) (Dropping now) v took gave begins follows out law a =
        let x = law.by.law in
        one_out x.out_list x.out_end law.by.given gave law.by.gave_is x.gave_is (drop_serves g w k n comes plan is fit sure.ins (sure.outs 0 out) first now v took gave law (flows_agree _ v took gave comes law.by a) begins follows)
    state_serves (Recovering first) (Recovering now) v took gave begins follows out law a =
        let x = law.by.law in
        one_out x.out_list x.out_end law.by.given gave law.by.gave_is x.gave_is (recover_serves g w k n comes plan is fit sure.ins (sure.outs 0 out) first now v took gave law (flows_agree _ v took gave comes law.by a) begins follows)
    state_serves (Obeying first) (Obeying now) v took gave begins follows out law a =
        let x = law.by.law in
        one_out x.out_list x.out_end law.by.given gave law.by.gave_is x.gave_is (valve_serves g w k n comes plan is fit sure.ins (sure.outs 0 out) first now v took gave law (flows_agree _ v took gave comes law.by a) begins follows)
    state_serves (Machine first) now v took gave begins follows out law a = absurd (no_calm follows)
    state_serves (Tripping first) now v took gave begins follows out law a = absurd (no_calm follows)
    state_serves first now v took gave begins follows out law a = absurd law

module _ {S D L H B : Type 0} (sources : S → SourceState) (drains : D → DrainState) (g : Graph) (w : World) (k : ℕ) (n : graph.Node) where
  -- the world has the moves that it made
  as_made : (first now : IslandNode S D L H B) (v : View) (took gave : List (List Item)) → FirstOf sources g.chains k n first → TellsNode sources w n first now → length took ≡ inputs_of n → node_law sources drains w.book first now v took gave → AllMayPass (inputs g w k n) took
      → TellsMoves w k now → GivesSo g w k n gave
  as_made first now v took gave made tells many law a told = (node_laws sources drains g w k n first now v took gave made (tells, told) many law).gives (inputs g w k n) a

  by_plan : (first now : IslandNode S D L H B) (v : View) (took gave : List (List Item)) → FirstOf sources g.chains k n first → TellsNode sources w n first now → length took ≡ inputs_of n → node_law sources drains w.book first now v took gave → 0 < outputs_of n → AllMayPass (inputs g w k n) took
      → (plan : List ℕ) → node_plan first ≡ Some plan → w.moves k ≡ plan → moves_fit g w k n.kind (inputs g w k n) ≡ true → IsSureAt g w k n → GivesSo g w k n gave
  by_plan (node.State first) (node.State now) v took gave made tells many law out a plan follows is fit sure = state_serves g w k n plan is fit sure first now v took gave made.begins.as_kind follows out law a
  by_plan (node.FanIn first) (node.FanIn now) v took gave made tells many law out a plan follows is fit sure = in_serves g w k n plan is fit sure first now v took gave made.begins.takes follows out law a
  by_plan (node.Reading first) now v took gave made tells many law out a plan follows is fit sure = absurd (no_calm follows)
  by_plan (node.Making first) now v took gave made tells many law out a plan follows is fit sure = absurd (no_calm follows)
  by_plan (node.Linear first) now v took gave made tells many law out a plan follows is fit sure = absurd (no_calm follows)
  by_plan (node.Sub first) (node.Sub now) v took gave made tells many law out a plan follows is fit sure = let led = planned_some (led_subs.made_moves first) first.left plan follows in led_serves g w k n first made led now v took gave (law.led led) plan (law.plan ∙ follows) is (inputs g w k n) a fit (sure.outs 0 out)
  by_plan (node.FanOut first) (node.FanOut now) v took gave made tells many law out a plan follows is fit sure = out_serves g w k n plan is fit sure first now v took gave made.begins.as_kind follows out law a
  by_plan (node.Custom first) now v took gave made tells many law out a plan follows is fit sure = absurd (no_calm follows)
  by_plan (node.Writing first) now v took gave made tells many law out a plan follows is fit sure = absurd (no_calm follows)
  by_plan (node.Ignoring first) now v took gave made tells many law out a plan follows is fit sure = absurd (no_calm follows)
  by_plan (node.Entering first) now v took gave made tells many law out a plan follows is fit sure = absurd made
  by_plan (node.Leaving first) now v took gave made tells many law out a plan follows is fit sure = absurd made
  by_plan first now v took gave made tells many law out a plan follows is fit sure = absurd law

  -- it serves the moves that the world has of it, where it chooses
  pub node_serves : (first now : IslandNode S D L H B) (v : View) (took gave : List (List Item)) → FirstOf sources g.chains k n first → TellsNode sources w n first now × ServesMoves g w k n first now → length took ≡ inputs_of n → node_law sources drains w.book first now v took gave → 0 < outputs_of n → AllMayPass (inputs g w k n) took → GivesSo g w k n gave
  node_serves first now v took gave made serves many law out a = by (node_picks now) refl
    where
      told : (moves : List ℕ) → node_picks now ≡ Some moves → w.moves k ≡ moves → TellsMoves w k now
      told moves at is others also = is ∙ some_plan moves others (sym at ∙ also)

      by_served : (moves : List ℕ) → node_picks now ≡ Some moves → (o : Option (List ℕ)) → node_plan first ≡ o → ServesPlan g w k n o moves → GivesSo g w k n gave
      by_served moves at None e s = as_made first now v took gave made serves.0 many law a (told moves at s)
      by_served moves at (Some plan) e (inl s) = as_made first now v took gave made serves.0 many law a (told moves at s)
      by_served moves at (Some plan) e (inr s) = by_plan first now v took gave made serves.0 many law out a plan e s.0 s.1.0 s.1.1

      by : (picks : Option (List ℕ)) → node_picks now ≡ picks → GivesSo g w k n gave
      by None e = as_made first now v took gave made serves.0 many law a (λ moves at. absurd (no_calm (sym e ∙ at)))
      by (Some moves) e = by_served moves e (node_plan first) refl (serves.1 moves e)
