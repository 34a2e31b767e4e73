-- The rows of a stage with several outputs in a picture, by its kind.
use Rattle.std.specs.Prelude.{slice_get, slice_index_or, None, Some, Option, replicate, if◌then◌else◌}
use Rattle.std.proofs.Common.{◌≡◌, ℕ, zero, suc, ◌+◌, ◌-◌, ◌≤◌, ◌⊎◌, inl, inr, Bool, true, false, List, [], ◌∷◌, map, length, take, refl, sym, ap, subst, ◌∙◌, arith, length-append}
use Rattle.std.proofs.lemmas.List.{length-map, length-replicate}
use Rattle.elem_core.specs.Prefix.{IsPrefix}
use Rattle.elem_core.proofs.Prefixes.{prefix_is_take, prefix_take_le, prefix_trans, prefix_refl}
use Rattle.elem_core.specs.Tree.{Tree}
use Rattle.elem_core.specs.Items.{elements}
use Rattle.elem_core.specs.declared.function.MapFn.{MapFn}
use Rattle.elem_core.specs.declared.item.Item.{Item}
use Rattle.elem_core.specs.declared.why.Decider.{Decider}
use Rattle.port_core.specs.View as port
use Rattle.port_core.specs.View.{in_at, out_at, unpulled_outs}
use Rattle.port_core.specs.declared.view.InView.{InView}
use Rattle.port_core.specs.declared.view.InView.TheVariants.{Idle, Pulled, Finished, Cancelled}
use Rattle.port_core.specs.declared.view.OutView.{OutView}
use Rattle.port_core.specs.declared.view.OutView.TheVariants.{Closed, Unpulled}
use Rattle.stage_core.specs.Row.{InClosed, OutClosed}
use Rattle.stream_model.specs.declared.kind.Kind.{Kind}
use Rattle.stream_model.specs.declared.kind.Kind.TheVariants.{Broadcast, BroadcastHub, Partition, Unzip}
use Rattle.stream_model.specs.Graph.{Graph}
use Rattle.stream_model.specs.Graph as graph
use Rattle.stream_model.specs.Linear.{Book, Stage}
use Rattle.stream_model.specs.Machine.{Run, run}
use Rattle.stream_model.specs.Node.{World}
use Rattle.stream_model.specs.Outlook.{End}
use Rattle.stream_model.specs.OneWay.{is_sink}
use Rattle.stream_model.specs.View as picture
use Rattle.stream_model.specs.View.{EachWire, SomeWire, demand, wanted, total}
use Rattle.stream_model.specs.Lawful.{RowLawful, most_wanted, BroadcastLawful, PartitionOutputs, PartitionLawful}
use Rattle.stream_model.specs.Rests.{IsShut, IsLane, IsUnasked, IdlesOrShut, SomeOwed, PartitionRests, RowRests}
use Rattle.stage_core.specs.Held.{told}
use Rattle.stage_core.specs.Law.{Law, ends_by}
use Rattle.stage_core.specs.Outs.{OutsLaw, owe}
use Rattle.stage_core.specs.declared.outs.OutputState.{OutputState}
use Rattle.stage_core.specs.declared.outs.OutputState.TheVariants.{Quiet, Asks, Gone}
use Rattle.stage_core.proofs.Flags.{same}
use Rattle.stage_out.specs.declared.machines.OutMachines.{OutMachines}
use Rattle.stage_out.specs.declared.machines.OutMachines.TheVariants.{Copies, Deals}
use Rattle.stage_core.specs.OpenOuts.{want_view, open_count, OneInClosed, OutsClosed, asks_count}
use Rattle.stage_out.specs.Copies.{quiet_count, input_by}
use Rattle.stage_out.specs.Copies as copies
use Rattle.stage_out.specs.CopyStates.{CopyLogic, part_by}
use Rattle.stage_out.specs.CopyStates as copy
use Rattle.stage_out.specs.Machines.{port_state, outlets, owed, rests_as, Begins, IsMachines, IsAlike, no_stage, copiers, number_starts, outputs_of}
use Rattle.stage_out.specs.MachineNodes.{MachinesLaw}
use Rattle.stage_out.specs.OwnRows.{own_ins, own_outs}
use Rattle.stage_out.specs.PartitionStates.{PartitionLogic, Holding, input_of, dues, held_for, held_of, then_of}
use Rattle.stage_out.specs.PartitionStates as part
use Rattle.stage_out.proofs.OutMachines.{copiers_are, length-owed, length-dues}
use Rattle.stage_out.proofs.MachineNodes.{length-outlets, live_ports}
use Rattle.stage_out.proofs.OutRests.{stage_rests, length-copiers}
use Rattle.stage_out.proofs.Rests.{outlists, told_lists}
use Rattle.run_laws.specs.Account.{AllBegin, Earlier}
use Rattle.run_laws.specs.Items.{list_of}
use Rattle.run_laws.specs.KindLaws.{Moments, PictureLaws}
use Rattle.run_laws.specs.Ports.{InPort, OutPort, EachPort, InStands, OutStands, InRests, OutRests, sents_of}
use Rattle.run_laws.proofs.Coming.{elements_told}
use Rattle.run_laws.proofs.Histories.{list_of_told, begun}
use Rattle.run_laws.specs.Unmoved.{NoAsking, no_moves, never_ends}
use Rattle.run_laws.proofs.Numberings.{machine, start, ends_same, count_all, all_counted}
use Rattle.run_laws.proofs.OutLists.{OutsList, outs_list, Came, came_in, AllSent, all_sent, copiers_most, numbers_most, number_count}
use Rattle.run_laws.proofs.OutRows.{OutWires, OutWants, Shuts, WantedOn, ShutOn, EvenList, even_list, copies_asked, copies_most, none_asked, AllDealt, all_dealt, DealtBefore, dealt_before, all_open, dealt_total, some_goes}
use Rattle.run_laws.proofs.Transport.{own_in, own_out, each_out, shuts, out_shuts, broadcast_rests, partition_rests}

abbrev pub OutView_of : InPort → List OutPort → port.View
OutView_of i os = record { ins = i.view ∷ []; outs = map (λ (o : OutPort). o.view) os }

abbrev pub Now : OutMachines → OutMachines → InPort → List OutPort → Type 0
Now first now i os = MachinesLaw first now (OutView_of i os) (i.got ∷ []) (sents_of os)

abbrev pub Then : OutMachines → OutMachines → InPort → List OutPort → Type 0
Then first now i os = Earlier port_state MachinesLaw NoAsking no_moves 0 first now (i.got ∷ []) (sents_of os) (i.want ∷ []) (OutWants os) (Shuts os)

-- an input of one that has closed its ports does not wait
closed_wait : (xs : List InView) → OneInClosed xs → slice_index_or xs 0 Cancelled ≡ Pulled → ⊥
closed_wait [] c e = c
closed_wait (Idle ∷ []) c e = c
closed_wait (Pulled ∷ []) c e = c
closed_wait (Finished ∷ []) c e = cc
closed_wait (Cancelled ∷ []) c e = cc
closed_wait (x ∷ y ∷ xs) c e = c

began_length : (hs xs : List (List Item)) → AllBegin hs xs → length hs ≡ length xs
began_length [] [] b = refl
began_length [] (x ∷ xs) b = absurd b
began_length (h ∷ hs) [] b = absurd b
began_length (h ∷ hs) (x ∷ xs) b = ap suc (began_length hs xs b.1)

-- what came then, of what has come now
record Part (had : List (List Item)) (taken got : List Item) : Type 0 where
  first : IsPrefix taken got
  count : elements (slice_index_or had 0 []) ≡ elements taken

part_of : (had : List (List Item)) (taken got : List Item) → had ≡ taken ∷ [] → AllBegin had (got ∷ []) → Part had taken got
part_of had taken got e b = let r = subst (λ (hs : List (List Item)). AllBegin hs (got ∷ [])) e b in record { first = r.0; count = ap (λ (hs : List (List Item)). elements (slice_index_or hs 0 [])) e }

-- the list that came is a first part of the wire's
list_part : (i : InPort) → InStands i → (l : List Tree) (e : End) → i.got ≡ told l e → (taken : List Item) (k : List Tree) (d : End) → taken ≡ told k d → IsPrefix taken i.got → IsPrefix k i.wire.list
list_part i s l e got taken k d is p =
    let b = (begun k d taken i.got is p).part in
    let same : list_of i.got ≡ l = ap list_of got ∙ list_of_told l e in
    prefix_trans (subst (λ (x : List Tree). IsPrefix k x) same b) (s.part l e got)

-- and of what was sent on it
sent_part : (i : InPort) → InStands i → (l : List Tree) (e : End) → i.got ≡ told l e → IsPrefix l (take i.wire.sent i.wire.list)
sent_part i s l e got =
    let came = s.came in
    let count = ap elements got ∙ elements_told l e in
    let less : IsPrefix (take (length l) i.wire.list) (take i.wire.sent i.wire.list) = prefix_take_le (length l) i.wire.sent i.wire.list (omega (arith, came, count)) in
    subst (λ (x : List Tree). IsPrefix x (take i.wire.sent i.wire.list)) (prefix_is_take (s.part l e got)) less

pub some_or_none : (n : ℕ) → (n ≡ 0) ⊎ (1 ≤ n)
some_or_none zero = inl refl
some_or_none (suc n) = inr (omega arith)

-- ---- a broadcast or an unzip, as it asked

record CopyAsk (first now : OutMachines) (i : InPort) (os : List OutPort) (e : Then first now i os) : Type 0 where
  outs : List OutputState
  count : ℕ
  even : EvenList outs count e.given
  had : elements (slice_index_or e.had 0 []) ≡ count
  quiet : quiet_count outs ≡ 0
  some : 1 ≤ open_count outs
  ports : length e.given ≡ length os
  wants : WantedOn outs e.given os
  shut : ShutOn outs os

open_some : (ws : List OutputState) → 1 ≤ open_count ws → 1 ≤ length ws
open_some [] h = absurd (omega (arith, h))
open_some (w ∷ ws) h = omega arith

waits_quiet : (q : ℕ) → input_by q ≡ Pulled → q ≡ 0
waits_quiet zero e = refl
waits_quiet (suc q) e = cc

module _ (book : Book) (first now : OutMachines) (i : InPort) (os : List OutPort) (e : Then first now i os) where
  given_ports : length e.given ≡ length os
  given_ports = began_length e.given (sents_of os) e.gave_on ∙ length-map os (λ (o : OutPort). o.sent)

  copy_ask : (l : CopyLogic) → copy.port_state l e.knew → MachinesLaw first (Copies l) e.knew e.had e.given → CopyAsk first now i os e
  copy_ask l r law = by l.live refl r
    where
      by : (b : Bool) → l.live ≡ b → copy.port_state_by b l e.knew → CopyAsk first now i os e
      by false is r = absurd (closed_wait e.knew.ins r.0 e.waited)
      by true is r =
          let s = r.1 in
          let open_is = s.open_is in
          let some = s.some in
          let quiet : l.quiet ≡ 0 = waits_quiet l.quiet (ap (λ (v : port.View). in_at v 0) (sym r.0) ∙ e.waited) in
          let outs : e.knew.outs ≡ map want_view l.outs = ap (λ (v : port.View). v.outs) r.0 in
          let laws : OutsLaw 0 (copiers (part_by l.halves) true 0 l.outs) e.knew law.taken (λ j. slice_index_or e.given j []) = subst (λ b. OutsLaw 0 (copiers (part_by l.halves) b 0 l.outs) e.knew law.taken (λ j. slice_index_or e.given j [])) is (law.law book) in
          let own : OutsLaw 0 (copies.outlets (part_by l.halves) 0 no_stage l.outs) e.knew law.taken (λ j. slice_index_or e.given j []) = subst (λ os. OutsLaw 0 os e.knew law.taken (λ j. slice_index_or e.given j [])) (copiers_are (part_by l.halves) 0 l.outs) laws in
          let many = length-copiers (part_by l.halves) true 0 l.outs in
          let there = open_some l.outs (omega (arith, open_is, some)) in
          let c = came_in (copiers (part_by l.halves) true 0 l.outs) 0 e.knew law.taken (λ j. slice_index_or e.given j []) (omega (arith, many, there)) laws in
          let o = outlists (part_by l.halves) no_stage e.knew law.taken c.list c.end c.is l.outs 0 (λ j. slice_index_or e.given j []) own in
          record {
            outs = l.outs;
            count = length c.list;
            even = even_list l.outs c.list o.lists e.given o.even (λ n g at. let z : 0 + n ≡ n = omega arith in let t = o.told_at n g at in (t.0, subst (λ k. slice_index_or e.given k [] ≡ told g t.0) z t.1)) (law.ports ∙ length-owed l.live l.outs);
            had = (part_of e.had law.taken i.got law.took_is e.took_on).count ∙ (ap elements c.is ∙ elements_told c.list c.end);
            quiet = sym s.quiet_is ∙ quiet;
            some = omega (arith, open_is, some);
            ports = given_ports;
            wants = λ j a. e.wants j (ap (λ ys. slice_index_or ys j Closed) outs ∙ a);
            shut = λ j a. e.shut_on j (subst (λ (ys : List OutView). OutClosed (slice_index_or ys j Closed)) (sym outs) a);
          }

  copy_ask_of : (f : CopyLogic) → first ≡ Copies f → (old : OutMachines) → port_state old e.knew → MachinesLaw first old e.knew e.had e.given → CopyAsk first now i os e
  copy_ask_of f is (Copies l) r law = copy_ask l r law
  copy_ask_of f is (Deals l) r law = absurd (subst (λ x. IsAlike x (Deals l)) is law.alike)

-- each output was sent no more than the input
sent_each : (os : List OutPort) (q m k : ℕ) → m ≤ k → AllSent q os (λ j. m) → EachWire (λ o. o.sent ≤ k) (OutWires os)
sent_each [] q m k l a = tt
sent_each (o ∷ os) q m k l a = let h = a.0 in (omega (arith, h, l), sent_each os (q + 1) m k l a.1)

pub one_list : (x y : List Item) → x ∷ [] ≡ y ∷ [] → x ≡ y
one_list x y e = cc

no_ports : (n : ℕ) (os : List OutPort) → length (sents_of os) ≡ n → n ≡ 0 → os ≡ []
no_ports n [] e z = refl
no_ports n (o ∷ os) e z = absurd (omega (arith, e, z))

-- the input of a stage with some output
module _ (book : Book) (first now : OutMachines) (i : InPort) (os : List OutPort) (law : Now first now i os) (some : 1 ≤ length (owed now)) where
  pub came_now : Came (OutView_of i os) law.taken
  came_now = let n = length-outlets book now in came_in (outlets book now) 0 (OutView_of i os) law.taken (λ j. slice_index_or (sents_of os) j []) (omega (arith, n, some)) (law.law book)

  got_told : i.got ≡ told came_now.list came_now.end
  got_told = one_list i.got law.taken law.took_is ∙ came_now.is

  lists_now : OutsList 0 (outlets book now) (OutView_of i os) law.taken (sents_of os)
  lists_now = outs_list (outlets book now) (OutView_of i os) law.taken (sents_of os) (law.ports ∙ sym (length-outlets book now)) (law.law book)

module _ (book : Book) (f l : CopyLogic) (i : InPort) (os : List OutPort) (law : Now (Copies f) (Copies l) i os) (si : InStands i) (so : EachPort OutStands os) where
  copies_sent : EachWire (λ o. o.sent ≤ i.wire.sent) (OutWires os)
  copies_sent = elim (some_or_none (length (owed (Copies l)))) [
    | inl none ↦ subst (λ (ps : List OutPort). EachWire (λ o. o.sent ≤ i.wire.sent) (OutWires ps)) (sym (no_ports (length (owed (Copies l))) os law.ports none)) tt
    | inr some ↦
        let c = came_now book (Copies f) (Copies l) i os law some in
        let came = si.came in
        let count = ap elements (got_told book (Copies f) (Copies l) i os law some) ∙ elements_told c.list c.end in
        sent_each os 0 (length c.list) i.wire.sent (omega (arith, came, count))
        (all_sent (outlets book (Copies l)) os 0 (OutView_of i os) law.taken c.list c.list c.end (λ j. length c.list) (copiers_most (part_by l.halves) l.live 0 l.outs c.list) (lists_now book (Copies f) (Copies l) i os law some) c.is (prefix_refl c.list) so)
  ]

  copies_lawful : ((p : ℕ) → 1 ≤ slice_index_or (i.want ∷ []) p 0 → Moments port_state MachinesLaw NoAsking no_moves (Copies f) (Copies l) (i ∷ []) os p) → BroadcastLawful i.wire (OutWires os)
  copies_lawful moments = (copies_sent, asked (some_or_none (demand i.wire)), λ all. most (some_or_none (demand i.wire)))
    where
      late : 1 ≤ demand i.wire → Then (Copies f) (Copies l) i os
      late some = let reach = si.reach in (moments 0 (omega (arith, some, reach))).0

      ask : (e : Then (Copies f) (Copies l) i os) → CopyAsk (Copies f) (Copies l) i os e
      ask e = copy_ask_of book (Copies f) (Copies l) i os e f refl e.old e.port_state_held e.law_held

      few : (e : Then (Copies f) (Copies l) i os) (a : CopyAsk (Copies f) (Copies l) i os e) → demand i.wire ≤ a.count + 1
      few e a = let reach = si.reach in let one = e.one_more in let had = a.had in omega (arith, reach, one, had)

      asked : (demand i.wire ≡ 0) ⊎ (1 ≤ demand i.wire) → EachWire (λ o. IsShut o ⊎ (demand i.wire ≤ wanted o)) (OutWires os)
      asked (inl none) = none_asked os (demand i.wire) none
      asked (inr some) =
          let e = late some in
          let a = ask e in
          copies_asked a.outs a.count (demand i.wire) e.given os a.even a.wants a.shut a.quiet (few e a) a.ports so

      most : (demand i.wire ≡ 0) ⊎ (1 ≤ demand i.wire) → demand i.wire ≤ most_wanted (OutWires os)
      most (inl none) = omega (arith, none)
      most (inr some) =
          let e = late some in
          let a = ask e in
          copies_most a.outs a.count (demand i.wire) e.given os a.even a.wants a.quiet a.some (few e a) a.ports so

-- ---- a partition, as it asked

module _ (book : Book) (node n : ℕ) (f : MapFn) where
  record DealAsk (first now : OutMachines) (i : InPort) (os : List OutPort) (e : Then first now i os) : Type 0 where
    outs : List OutputState
    list : List Tree
    dealt : AllDealt book node n f list 0 outs e.given
    had : elements (slice_index_or e.had 0 []) ≡ length list
    part : IsPrefix list i.wire.list
    some : 1 ≤ open_count outs
    asks : open_count outs ≡ length outs → 1 ≤ asks_count outs
    ports : length outs ≡ n
    gave : length e.given ≡ length outs
    wants : WantedOn outs e.given os
    shut : ShutOn outs os

  -- the outputs that the stage began with
  abbrev Started : OutMachines → Type 0
  Started first = outlets book first ≡ number_starts book node n f 0 n

  length-starts : (q m : ℕ) → length (number_starts book node n f q m) ≡ m
  length-starts q zero = refl
  length-starts q (suc m) = ap suc (length-starts (q + 1) m)

  owed_all : (first now : OutMachines) → Started first → length (owed now) ≡ length (owed first) → length (owed now) ≡ n
  owed_all first now s e = e ∙ (sym (length-outlets book first) ∙ (ap length s ∙ length-starts 0 n))

  lists_of : (first now : OutMachines) (v : port.View) (took gave : List (List Item)) → Started first → (law : MachinesLaw first now v took gave) → OutsList 0 (owe (number_starts book node n f 0 n) (owed now)) v law.taken gave
  lists_of first now v took gave s law =
      subst (λ os. OutsList 0 os v law.taken gave) (sym (law.same book) ∙ ap (λ os. owe os (owed now)) s) (outs_list (outlets book now) v law.taken gave (law.ports ∙ sym (length-outlets book now)) (law.law book))

  -- an input that waits has not ended
  waits_open : (over waits : Bool) → input_of over waits ≡ Pulled → (over ≡ false) × (waits ≡ true)
  waits_open true w e = cc
  waits_open false true e = (refl, refl)
  waits_open false false e = cc

  holds_none : (l : PartitionLogic) (h : Option Tree) → Holding h l → l.waits ≡ true → h ≡ None
  holds_none l None r w = refl
  holds_none l (Some t) r w = let no : true ≡ false = sym w ∙ r.0 in cc

  module _ (first now : OutMachines) (i : InPort) (os : List OutPort) (si : InStands i) (started : Started first) (lasts : 1 ≤ n) (got_list : List Tree) (got_end : End) (got : i.got ≡ told got_list got_end) (e : Then first now i os) where
    deal_ask : (l : PartitionLogic) → part.port_state l e.knew → MachinesLaw first (Deals l) e.knew e.had e.given → DealAsk first now i os e
    deal_ask l r law = by l.live refl r
      where
        by : (b : Bool) → l.live ≡ b → part.port_state_by b l e.knew → DealAsk first now i os e
        by false is r = absurd (closed_wait e.knew.ins r.0 e.waited)
        by true is r =
            let s = r.1 in
            let open_is = s.open_is in
            let asking_is = s.asking_is in
            let some = s.some in
            let w = waits_open l.over l.waits (ap (λ (v : port.View). in_at v 0) (sym r.0) ∙ e.waited) in
            let none : l.held ≡ None = holds_none l l.held s.holds w.1 in
            let outs : e.knew.outs ≡ map want_view l.outs = ap (λ (v : port.View). v.outs) r.0 in
            let all : length (owed (Deals l)) ≡ n = owed_all first (Deals l) started law.outputs in
            let many : length l.outs ≡ n = sym (length-dues (then_of l.live l) 0 l.outs) ∙ all in
            let outlets_many = length-outlets book (Deals l) in
            let c = came_in (outlets book (Deals l)) 0 e.knew law.taken (λ j. slice_index_or e.given j []) (omega (arith, outlets_many, all, lasts)) (law.law book) in
            let p = part_of e.had law.taken i.got law.took_is e.took_on in
            let lists : OutsList 0 (owe (number_starts book node n f 0 n) (dues (then_of true l) 0 l.outs)) e.knew law.taken e.given =
            subst (λ b. OutsList 0 (owe (number_starts book node n f 0 n) (dues (then_of b l) 0 l.outs)) e.knew law.taken e.given) is (lists_of first (Deals l) e.knew e.had e.given started law) in
            record {
              outs = l.outs;
              list = c.list;
              dealt = all_dealt book node n f l none w.0 e.knew e.waited law.taken c.list c.end c.is 0 n l.outs e.given many lists;
              had = p.count ∙ (ap elements c.is ∙ elements_told c.list c.end);
              part = list_part i si got_list got_end got law.taken c.list c.end c.is p.first;
              some = omega (arith, open_is, some);
              asks = λ all_are. elim (s.wants w.1) [ inl a ↦ omega (arith, a, asking_is) | inr less ↦ absurd (omega (arith, less, open_is, all_are)) ];
              ports = many;
              gave = law.ports ∙ length-dues (then_of l.live l) 0 l.outs;
              wants = λ j a. e.wants j (ap (λ ys. slice_index_or ys j Closed) outs ∙ a);
              shut = λ j a. e.shut_on j (subst (λ (ys : List OutView). OutClosed (slice_index_or ys j Closed)) (sym outs) a);
            }

    deal_ask_of : (g : PartitionLogic) → first ≡ Deals g → (old : OutMachines) → port_state old e.knew → MachinesLaw first old e.knew e.had e.given → DealAsk first now i os e
    deal_ask_of g is (Deals l) r law = deal_ask l r law
    deal_ask_of g is (Copies l) r law = absurd (subst (λ x. IsAlike x (Copies l)) is law.alike)

  -- the parts of the row together
  both_parts : (i : picture.SeenWire) (q : ℕ) (os : List OutPort) → AllSent q os (number_count book node n f (take i.sent i.list)) → (1 ≤ demand i → DealtBefore book node n f q os (take (demand i - 1) i.list))
      → PartitionOutputs (λ j l. number_count book node n f l j) i q (OutWires os)
  both_parts i q [] a d = tt
  both_parts i q (o ∷ os) a d = ((a.0, λ some. (d some).0), both_parts i (q + 1) os a.1 (λ some. (d some).1))

  module _ (g l : PartitionLogic) (i : InPort) (os : List OutPort) (law : Now (Deals g) (Deals l) i os) (si : InStands i) (so : EachPort OutStands os) (started : Started (Deals g)) (lasts : 1 ≤ n) where
    deals_some : 1 ≤ length (owed (Deals l))
    deals_some = let all = owed_all (Deals g) (Deals l) started law.outputs in omega (arith, all, lasts)

    deals_lawful : ((p : ℕ) → 1 ≤ slice_index_or (i.want ∷ []) p 0 → Moments port_state MachinesLaw NoAsking no_moves (Deals g) (Deals l) (i ∷ []) os p) → PartitionLawful (λ j k. number_count book node n f k j) i.wire (OutWires os)
    deals_lawful moments = (both_parts i.wire 0 os sent before, total_by)
      where
        c : Came (OutView_of i os) law.taken
        c = came_now book (Deals g) (Deals l) i os law deals_some

        got : i.got ≡ told c.list c.end
        got = got_told book (Deals g) (Deals l) i os law deals_some

        sent : AllSent 0 os (number_count book node n f (take i.wire.sent i.wire.list))
        sent = all_sent (owe (number_starts book node n f 0 n) (owed (Deals l))) os 0 (OutView_of i os) law.taken c.list (take i.wire.sent i.wire.list) c.end (number_count book node n f (take i.wire.sent i.wire.list))
            (numbers_most book node n f 0 n (owed (Deals l)) (take i.wire.sent i.wire.list)) (lists_of (Deals g) (Deals l) (OutView_of i os) (i.got ∷ []) (sents_of os) started law) c.is (sent_part i si c.list c.end got) so

        late : 1 ≤ demand i.wire → Then (Deals g) (Deals l) i os
        late some = let reach = si.reach in (moments 0 (omega (arith, some, reach))).0

        ask : (e : Then (Deals g) (Deals l) i os) → DealAsk (Deals g) (Deals l) i os e
        ask e = deal_ask_of (Deals g) (Deals l) i os si started lasts c.list c.end got e g refl e.old e.port_state_held e.law_held

        few : (e : Then (Deals g) (Deals l) i os) (a : DealAsk (Deals g) (Deals l) i os e) → demand i.wire ≤ length a.list + 1
        few e a = let reach = si.reach in let one = e.one_more in let had = a.had in omega (arith, reach, one, had)

        before : 1 ≤ demand i.wire → DealtBefore book node n f 0 os (take (demand i.wire - 1) i.wire.list)
        before some =
            let e = late some in
            let a = ask e in
            let most = few e a in
            let less : IsPrefix (take (demand i.wire - 1) i.wire.list) (take (length a.list) i.wire.list) = prefix_take_le (demand i.wire - 1) (length a.list) i.wire.list (omega (arith, most)) in
            dealt_before book node n f a.list (take (demand i.wire - 1) i.wire.list) 0 a.outs e.given os a.dealt e.gave_on a.shut (subst (λ (x : List Tree). IsPrefix (take (demand i.wire - 1) i.wire.list) x) (prefix_is_take a.part) less) so

        total_by : EachWire (λ o. o.shut ≡ false) (OutWires os) → 1 ≤ demand i.wire → demand i.wire ≤ total wanted (OutWires os)
        total_by none some =
            let e = late some in
            let a = ask e in
            let most = few e a in
            let all = all_open book node n f a.outs e.given os e.gave_on a.gave a.shut none in
            let one = a.asks all in
            let goes = some_goes book node n f a.list 0 a.outs e.given a.dealt a.some in
            let whole = all_counted book node n f lasts 0 goes.0 [] a.list goes.1 in
            let sum = dealt_total book node n f a.list 0 a.outs e.given os a.dealt e.gave_on a.wants a.shut none so in
            let ports = ap (λ m. count_all book node n f 0 0 m a.list) a.ports in
            omega (arith, most, one, whole, sum, ports)

-- ---- where no event is left

outs_same : (os : List OutPort) (gs : List (List Tree)) → length gs ≡ length os → ((j : ℕ) (g : List Tree) → slice_get gs j ≡ Some g → (e : End) × (slice_index_or (sents_of os) j [] ≡ told g e)) → own_outs (map (λ (o : OutPort). o.view) os) gs ≡ map own_out os
outs_same [] [] l t = refl
outs_same [] (g ∷ gs) l t = absurd (omega (arith, l))
outs_same (o ∷ os) [] l t = absurd (omega (arith, l))
outs_same (o ∷ os) (g ∷ gs) l t = let r = t 0 g refl in rw (outs_same os gs (omega (arith, l)) (λ j k at. t (suc j) k at), r.1, elements_told g r.0, list_of_told g r.0) refl

in_same : (i : InPort) (l : List Tree) (e : End) → i.got ≡ told l e → own_ins (i.view ∷ []) l ≡ own_in i ∷ []
in_same i l e h = rw (h, elements_told l e, list_of_told l e) refl

pub each_shut : (os : List OutPort) → EachPort OutStands os → EachPort OutRests os → EachWire IsShut (map own_out os) → EachWire IsShut (OutWires os)
each_shut os so ro h = each_out IsShut IsShut (λ o s q x. out_shuts o q x) os so ro h

module _ (i : InPort) (os : List OutPort) (si : InStands i) (so : EachPort OutStands os) (ri : InRests i) (ro : EachPort OutRests os) where
  moved : (x : OutMachines) → rests_as x (own_in i ∷ []) (map own_out os) → rests_as x (i.wire ∷ []) (OutWires os)
  moved (Copies l) h = broadcast_rests i os si ri so ro h
  moved (Deals l) h = partition_rests i os si ri so ro h

  out_stays : (book : Book) (first now : OutMachines) (law : Now first now i os) → 1 ≤ length (owed now) → port_state now (OutView_of i os) → (EachWire IsShut (i.wire ∷ []) × EachWire IsShut (OutWires os)) ⊎ rests_as first (i.wire ∷ []) (OutWires os)
  out_stays book first now law some r =
      let c = came_now book first now i os law some in
      let s = stage_rests book now (OutView_of i os) law.taken (λ j. slice_index_or (sents_of os) j []) c.list c.end r c.is (law.law book) in
      let ins = in_same i c.list c.end (got_told book first now i os law some) in
      let outs = outs_same os s.0.lists (s.0.ports ∙ (length-outlets book now ∙ (sym law.ports ∙ length-map os (λ (o : OutPort). o.sent)))) s.0.told_at in
      elim s.1 [
        | inl h ↦ inl (
          (shuts i ri (subst (λ (vs : List picture.SeenWire). EachWire IsShut vs) ins h.0).0, tt),
          each_shut os so ro (subst (λ (vs : List picture.SeenWire). EachWire IsShut vs) outs h.1),
        )
        | inr h ↦ inr (law.rests (i.wire ∷ []) (OutWires os) (moved now (subst (λ (vs : List picture.SeenWire). rests_as now (own_in i ∷ []) vs) outs (subst (λ (vs : List picture.SeenWire). rests_as now vs (own_outs (map (λ (o : OutPort). o.view) os) s.0.lists)) ins h))))
      ]

-- ---- a partition, where no event is left

first_shown : (y z : OutView) (ys zs : List OutView) → y ∷ ys ≡ z ∷ zs → (y ≡ z) × (ys ≡ zs)
first_shown y z ys zs e = (cc, cc)

-- where none asks, each is shut or not asked, and an open one is there
none_shown : (ws : List OutputState) (os : List OutPort) → EachPort OutRests os → map (λ (o : OutPort). o.view) os ≡ map want_view ws → asks_count ws ≡ 0 → EachWire (λ o. IsShut o ⊎ IsUnasked o) (OutWires os)
none_shown ws [] ro e none = tt
none_shown [] (o ∷ os) ro e none = cc
none_shown (Quiet ∷ ws) (o ∷ os) ro e none =
    let s = first_shown o.view (want_view Quiet) (map (λ (o : OutPort). o.view) os) (map want_view ws) e in
    (inr (ro.0.unasked s.0), none_shown ws os ro.1 s.1 none)
none_shown (Asks ∷ ws) (o ∷ os) ro e none = absurd (omega (arith, none))
none_shown (Gone ∷ ws) (o ∷ os) ro e none =
    let s = first_shown o.view (want_view Gone) (map (λ (o : OutPort). o.view) os) (map want_view ws) e in
    (inl (ro.0.shut (subst OutClosed (sym s.0) tt)), none_shown ws os ro.1 s.1 none)

some_shown : (ws : List OutputState) (os : List OutPort) → EachPort OutRests os → map (λ (o : OutPort). o.view) os ≡ map want_view ws → 1 ≤ open_count ws → asks_count ws ≡ 0 → SomeWire IsUnasked (OutWires os)
some_shown [] os ro e some none = absurd (omega (arith, some))
some_shown (w ∷ ws) [] ro e some none = cc
some_shown (Quiet ∷ ws) (o ∷ os) ro e some none = inl (ro.0.unasked (first_shown o.view (want_view Quiet) (map (λ (o : OutPort). o.view) os) (map want_view ws) e).0)
some_shown (Asks ∷ ws) (o ∷ os) ro e some none = absurd (omega (arith, none))
some_shown (Gone ∷ ws) (o ∷ os) ro e some none =
    inr (some_shown ws os ro.1 (first_shown o.view (want_view Gone) (map (λ (o : OutPort). o.view) os) (map want_view ws) e).1 some none)

outs_closed : (os : List OutPort) → EachPort OutRests os → OutsClosed (map (λ (o : OutPort). o.view) os) → EachWire IsShut (OutWires os)
outs_closed [] ro c = tt
outs_closed (o ∷ os) ro c = (ro.0.shut c.0, outs_closed os ro.1 c.1)

-- what waits for an output is one element
one_held : (q to : ℕ) (h : Option Tree) (t : Tree) → h ≡ Some t → q ≡ to → length (held_for q to h) ≡ 1
one_held q to h t is same_place = ap (λ (x : Option Tree). length (held_for q to x)) is ∙ ap (λ (b : Bool). length (if b then t ∷ [] else [])) (same to q (sym same_place))

module _ (book : Book) (node n : ℕ) (f : MapFn) (l : PartitionLogic) (t : Tree) (holds : l.held ≡ Some t) (i : InPort) (si : InStands i) (v : port.View) (took : List Item) (came : List Tree) (end : End) (is : took ≡ told came end) (got : i.got ≡ told came end)
    (sent : IsLane i.wire ⊎ (i.wire.sent ≡ elements i.got)) where
  -- the output for which it holds an element was sent one less than came for it
  owed_there : (q : ℕ) (o : OutPort) → q ≡ l.to → OutStands o → Law (machine book node n f q) (start book node n f q) (held_of l q Quiet) (in_at v 0) (out_at v q) took o.sent → IsLane i.wire ⊎ (number_count book node n f (take i.wire.sent i.wire.list) q ≡ o.wire.sent + 1)
  owed_there q o to so law = elim sent [
    | inl lane ↦ inl lane
    | inr all ↦
        let same_list : law.in_list ≡ came = told_lists law.in_list came law.in_end end (sym law.took_is ∙ is) in
        let now = law.keeps.1.0 in
        let gave : length (ends_by (machine book node n f q) (run (machine book node n f q) (start book node n f q) law.in_list) law.in_end).gave ≡ length law.out_list + length (held_for q l.to l.held) =
        ap (λ (x : Run Stage Tree). length x.gave) now ∙ length-append law.out_list (held_for q l.to l.held) in
        let one = one_held q l.to l.held t holds to in
        let whole = ends_same book node n f q law.in_list law.in_end in
        let count : number_count book node n f came q ≡ length law.out_list + 1 = ap (λ (k : List Tree). number_count book node n f k q) (sym same_list) ∙ (sym whole ∙ (gave ∙ ap (λ (m : ℕ). length law.out_list + m) one)) in
        let part : IsPrefix came i.wire.list = si.part came end got in
        let long : i.wire.sent ≡ length came = all ∙ (ap elements got ∙ elements_told came end) in
        let taken : take i.wire.sent i.wire.list ≡ came = ap (λ (m : ℕ). take m i.wire.list) long ∙ prefix_is_take part in
        let given : o.wire.sent ≡ length law.out_list = so.count ∙ (ap elements law.gave_is ∙ elements_told law.out_list law.out_end) in
        inr (ap (λ (k : List Tree). number_count book node n f k q) taken ∙ (count ∙ ap (λ (m : ℕ). m + 1) (sym given)))
  ]

  owed_at : (q m : ℕ) (ws : List OutputState) (os : List OutPort) (k : ℕ) → q + k ≡ l.to → slice_get ws k ≡ Some Quiet → length ws ≡ m → OutsList q (owe (number_starts book node n f q m) (dues (held_of l) q ws)) v took (sents_of os) → map (λ (o : OutPort). o.view) os ≡ map want_view ws
      → EachPort OutRests os → EachPort OutStands os → SomeOwed (λ j x. number_count book node n f x j) i.wire q (OutWires os)
  owed_at q m [] os k to at many law shows ro so = cc
  owed_at q zero (w ∷ ws) os k to at many law shows ro so = absurd (omega (arith, many))
  owed_at q (suc m) (w ∷ ws) [] k to at many law shows ro so = cc
  owed_at q (suc m) (w ∷ ws) (o ∷ os) zero to at many law shows ro so =
      let quiet : w ≡ Quiet = cc in
      let s = first_shown o.view (want_view w) (map (λ (o : OutPort). o.view) os) (map want_view ws) shows in
      let here : Law (machine book node n f q) (start book node n f q) (held_of l q Quiet) (in_at v 0) (out_at v q) took o.sent = subst (λ (x : OutputState). Law (machine book node n f q) (start book node n f q) (held_of l q x) (in_at v 0) (out_at v q) took o.sent) quiet law.0 in
      inl (ro.0.unasked (s.0 ∙ ap want_view quiet), owed_there q o (omega (arith, to)) so.0 here)
  owed_at q (suc m) (w ∷ ws) (o ∷ os) (suc k) to at many law shows ro so =
      let s = first_shown o.view (want_view w) (map (λ (o : OutPort). o.view) os) (map want_view ws) shows in
      inr (owed_at (q + 1) m ws os k (omega (arith, to)) at (omega (arith, many)) law.1 s.1 ro.1 so.1)

module _ (book : Book) (node n : ℕ) (f : MapFn) (g l : PartitionLogic) (i : InPort) (os : List OutPort) (law : Now (Deals g) (Deals l) i os) (si : InStands i) (so : EachPort OutStands os) (ri : InRests i) (ro : EachPort OutRests os) (started : Started book node n f (Deals g)) (lasts : 1 ≤ n) where
  abbrev Row : Type 0
  Row = PartitionRests (λ j x. number_count book node n f x j) i.wire (OutWires os)

  idle_or_shut : (b : Bool) → i.view ≡ input_of b false → IdlesOrShut i.wire × (IsLane i.wire ⊎ (i.wire.sent ≡ elements i.got))
  idle_or_shut true e = (inr (ri.shut (subst InClosed (sym e) tt)), ri.over_sent e)
  idle_or_shut false e = elim (ri.idles e) [ inl lane ↦ (inl (inl lane), inl lane) | inr all ↦ (inl (inr all.0), inr all.1) ]

  deals_open : l.live ≡ true → OutView_of i os ≡ part.view_of l → part.Sound l → Row
  deals_open live view s = by l.held l.waits refl refl s.holds
    where
      shows : map (λ (o : OutPort). o.view) os ≡ map want_view l.outs
      shows = ap (λ (v : port.View). v.outs) view

      at_input : i.view ≡ input_of l.over l.waits
      at_input = ap (λ (v : port.View). in_at v 0) view

      stands : (w : Bool) → l.waits ≡ w → w ≡ false → IdlesOrShut i.wire × (IsLane i.wire ⊎ (i.wire.sent ≡ elements i.got))
      stands w is idle = idle_or_shut l.over (at_input ∙ ap (λ (b : Bool). input_of l.over b) (is ∙ idle))

      asked : l.over ≡ false → l.waits ≡ true → Row
      asked over waits = inl ((ri.waits (at_input ∙ (ap (λ (b : Bool). input_of b l.waits) over ∙ ap (λ (b : Bool). input_of false b) waits))).0)

      by : (h : Option Tree) (w : Bool) → l.held ≡ h → l.waits ≡ w → Holding h l → Row
      by None true held waits x = asked x.0 waits
      by None false held waits x =
          let none : asks_count l.outs ≡ 0 = sym s.asking_is ∙ x.1 waits in
          let some : 1 ≤ open_count l.outs = let a = s.open_is in let b = s.some in omega (arith, a, b) in
          inr ((stands false waits refl).0, inr (some_shown l.outs os ro shows some none, none_shown l.outs os ro shows none))
      by (Some t) w held waits x =
          let st = stands l.waits refl x.0 in
          let lists : OutsList 0 (owe (number_starts book node n f 0 n) (dues (held_of l) 0 l.outs)) (OutView_of i os) law.taken (sents_of os) =
          subst (λ b. OutsList 0 (owe (number_starts book node n f 0 n) (dues (then_of b l) 0 l.outs)) (OutView_of i os) law.taken (sents_of os)) live (lists_of book node n f (Deals g) (Deals l) (OutView_of i os) (i.got ∷ []) (sents_of os) started law) in
          let all : length (owed (Deals l)) ≡ n = owed_all book node n f (Deals g) (Deals l) started law.outputs in
          let many : length l.outs ≡ n = sym (length-dues (then_of l.live l) 0 l.outs) ∙ all in
          let some : 1 ≤ length (owed (Deals l)) = omega (arith, all, lasts) in
          let c = came_now book (Deals g) (Deals l) i os law some in
          let z : 0 + l.to ≡ l.to = omega arith in
          inr (st.0, inl (owed_at book node n f l t held i si (OutView_of i os) law.taken c.list c.end c.is (got_told book (Deals g) (Deals l) i os law some) st.1 0 n l.outs os l.to z x.1 many lists shows ro so))

  pub deals_rest : part.port_state l (OutView_of i os) → (EachWire IsShut (i.wire ∷ []) × EachWire IsShut (OutWires os)) ⊎ Row
  deals_rest r = by l.live refl r
    where
      by : (b : Bool) → l.live ≡ b → part.port_state_by b l (OutView_of i os) → (EachWire IsShut (i.wire ∷ []) × EachWire IsShut (OutWires os)) ⊎ Row
      by true live r = inr (deals_open live r.0 r.1)
      by false live r = inl ((ri.shut r.0, tt), outs_closed os ro r.1)

-- ---- by kinds

pub some_outputs : (k : ℕ) (kd : Kind) (first now : OutMachines) → IsMachines kd → Begins k kd first → length (owed now) ≡ length (owed first) → 1 ≤ length (owed now)
some_outputs k kd first now ok b e = by kd ok b.ready
  where
    some_at : (n : ℕ) → 1 ≤ n → port_state first (unpulled_outs n) → 1 ≤ length (owed now)
    some_at n one r =
        let p = live_ports first (unpulled_outs n) b.live r in
        let many : length (replicate n Unpulled) ≡ length (owed first) = p.outs in
        let is = length-replicate n Unpulled in
        omega (arith, many, is, one, e)

    by : (kd : Kind) → IsMachines kd → port_state first (unpulled_outs (outputs_of kd)) → 1 ≤ length (owed now)
    by (Broadcast n) ok r = let two : 2 ≤ n = ok.0 in some_at n (omega (arith, two)) r
    by (BroadcastHub s n) ok r = some_at n ok.0 r
    by (Partition n f) ok r = let two : 2 ≤ n = ok.0 in some_at n (omega (arith, two)) r
    by Unzip ok r = some_at 2 (omega arith) r
    by x ok r = absurd ok

module _ (g : Graph) (w : World) (k : ℕ) (d : Decider) (i : InPort) (os : List OutPort) where
  lawful_by : (kd : Kind) (first now : OutMachines) → IsMachines kd → Begins k kd first → Now first now i os → InStands i → EachPort OutStands os → ((p : ℕ) → 1 ≤ slice_index_or (i.want ∷ []) p 0 → Moments port_state MachinesLaw NoAsking no_moves first now (i ∷ []) os p)
      → RowLawful g w k kd d (i.wire ∷ []) (OutWires os)
  lawful_by (Broadcast n) (Copies f) (Copies l) ok b law si so m = copies_lawful w.book f l i os law si so m
  lawful_by (BroadcastHub s n) (Copies f) (Copies l) ok b law si so m = copies_lawful w.book f l i os law si so m
  lawful_by Unzip (Copies f) (Copies l) ok b law si so m = copies_lawful w.book f l i os law si so m
  lawful_by (Partition n fun) (Deals f) (Deals l) ok b law si so m = let two = ok.0 in deals_lawful w.book k n fun f l i os law si so (b.outputs w.book) (omega (arith, two)) m
  lawful_by (Broadcast n) (Copies f) (Deals l) ok b law si so m = absurd law.alike
  lawful_by (BroadcastHub s n) (Copies f) (Deals l) ok b law si so m = absurd law.alike
  lawful_by Unzip (Copies f) (Deals l) ok b law si so m = absurd law.alike
  lawful_by (Partition n fun) (Deals f) (Copies l) ok b law si so m = absurd law.alike
  lawful_by (Broadcast n) (Deals f) now ok b law si so m = absurd b.of_kind
  lawful_by (BroadcastHub s n) (Deals f) now ok b law si so m = absurd b.of_kind
  lawful_by Unzip (Deals f) now ok b law si so m = absurd b.of_kind
  lawful_by (Partition n fun) (Copies f) now ok b law si so m = absurd b.of_kind
  lawful_by kd first now ok b law si so m = absurd ok

  -- where no event is left
  stays_by : (kd : Kind) (first now : OutMachines) → IsMachines kd → Begins k kd first → Now first now i os → port_state now (OutView_of i os) → InStands i → EachPort OutStands os → InRests i → EachPort OutRests os
      → (EachWire IsShut (i.wire ∷ []) × EachWire IsShut (OutWires os)) ⊎ RowRests g w k kd d (i.wire ∷ []) (OutWires os)
  stays_by (Broadcast n) first now ok b law r si so ri ro = elim (out_stays i os si so ri ro w.book first now law (some_outputs k (Broadcast n) first now ok b law.outputs) r) [ inl h ↦ inl h | inr h ↦ inr (b.rests g w d (i.wire ∷ []) (OutWires os) h) ]
  stays_by (BroadcastHub s n) first now ok b law r si so ri ro = elim (out_stays i os si so ri ro w.book first now law (some_outputs k (BroadcastHub s n) first now ok b law.outputs) r) [ inl h ↦ inl h | inr h ↦ inr (b.rests g w d (i.wire ∷ []) (OutWires os) h) ]
  stays_by Unzip first now ok b law r si so ri ro = elim (out_stays i os si so ri ro w.book first now law (some_outputs k Unzip first now ok b law.outputs) r) [ inl h ↦ inl h | inr h ↦ inr (b.rests g w d (i.wire ∷ []) (OutWires os) h) ]
  stays_by (Partition n fun) (Deals f) (Deals l) ok b law r si so ri ro = let two = ok.0 in deals_rest w.book k n fun f l i os law si so ri ro (b.outputs w.book) (omega (arith, two)) r
  stays_by (Partition n fun) (Deals f) (Copies l) ok b law r si so ri ro = absurd law.alike
  stays_by (Partition n fun) (Copies f) now ok b law r si so ri ro = absurd b.of_kind
  stays_by kd first now ok b law r si so ri ro = absurd ok

no_sink : (kd : Kind) → IsMachines kd → is_sink kd ≡ false
no_sink (Broadcast n) ok = refl
no_sink (BroadcastHub s n) ok = refl
no_sink (Partition n f) ok = refl
no_sink Unzip ok = refl
no_sink kd ok = absurd ok

module _ (g : Graph) (w : World) (k : ℕ) (n : graph.Node) where
  pub machines_picture : (first now : OutMachines) (is : List InPort) (os : List OutPort) → IsMachines n.kind → Begins k n.kind first → port_state now (record { ins = map (λ (i : InPort). i.view) is; outs = map (λ (o : OutPort). o.view) os })
      → MachinesLaw first now (record { ins = map (λ (i : InPort). i.view) is; outs = map (λ (o : OutPort). o.view) os }) (map (λ (i : InPort). i.got) is) (sents_of os) → PictureLaws port_state MachinesLaw NoAsking no_moves never_ends g w k n first now is os
  machines_picture first now [] os ok b r law = let none = law.took_is in absurd cc
  machines_picture first now (i ∷ j ∷ is) os ok b r law = let more = law.took_is in absurd cc
  machines_picture first now (i ∷ []) os ok b r law = record {
    lawful = λ s so m. lawful_by g w k n.decider i os n.kind first now ok b law s.0 so m;
    rests = λ s so ri ro. stays_by g w k n.decider i os n.kind first now ok b law r s.0 so ri.0 ro;
    matches = λ sink ri. let no = no_sink n.kind ok in let z : true ≡ false = sym sink ∙ no in absurd cc;
  }
