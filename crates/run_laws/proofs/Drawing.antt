-- The picture of an account: lawful at every moment, and resting where no event is left, by what each kind tells of its ports.
use Rattle.std.specs.Prelude.{slice_get, slice_index_or}
use Rattle.std.proofs.Common.{◌≡◌, ℕ, zero, suc, ◌+◌, ◌<◌, ◌≤◌, Bool, List, [], ◌∷◌, map, length, Some, None, refl, ap, subst, ◌∙◌, arith}
use Rattle.elem_core.specs.Tree.{Tree}
use Rattle.elem_core.specs.Items.{elements}
use Rattle.elem_core.specs.declared.item.Item.{Item}
use Rattle.port_core.specs.View.{View}
use Rattle.port_core.specs.declared.view.InView.{InView}
use Rattle.port_core.specs.declared.view.OutView.{OutView}
use Rattle.port_core.specs.Cell.{WireState}
use Rattle.port_core.specs.Marks.{wanted}
use Rattle.stream_model.specs.Outlook.{Outlook, End}
use Rattle.stream_model.specs.declared.outcome.WireCount.{WireCount}
use Rattle.stream_model.specs.Graph.{Graph, Edge, find_wire, find_source}
use Rattle.stream_model.specs.Graph as graph
use Rattle.stream_model.specs.Node.{World}
use Rattle.stream_model.specs.Composed.{inputs_of, count_from, ports_of}
use Rattle.stream_model.specs.Fits.{CanTrip, valve_order}
use Rattle.stream_model.proofs.Compositions.{slice_get-below}
use Rattle.stream_model.specs.View.{outputs_of, EachWire, ins, outs}
use Rattle.stream_model.specs.View as picture
use Rattle.stream_model.specs.Lawful.{WireLawful, sent_in}
use Rattle.stream_model.specs.Linear.{role_of}
use Rattle.stream_model.specs.Rests.{SinksMatch}
use Rattle.stage_core.specs.Held.{told}
use Rattle.port_core.specs.Reading.{inp_of, out_of, got_of, sent_of}
use Rattle.run_laws.specs.Account.{Account, read_ins, knows, took, gave, ins_wanted, outs_wanted, outs_shut, shut_of, NodeKeeps, KeepsLaws, AllMade, IsStill}
use Rattle.run_laws.specs.Items.{AllMayPass}
use Rattle.run_laws.specs.KindLaws.{HearsAll, Moments, PictureLawsBy}
use Rattle.run_laws.specs.Pictures.{picture_counts, AllPass, in_port, out_port, in_ports, out_ports}
use Rattle.run_laws.specs.Ports.{InPort, OutPort, EachPort, InStands, OutStands, InRests, OutRests}
use Rattle.run_laws.specs.Replayed.{Plans, RestsBy, RoleLawfulBy, IsLawfulBy}
use Rattle.stream_model.specs.Joined.{IsJoined}
use Rattle.run_laws.proofs.Pictures.{ins_are, outs_are, reads_in, reads_out, each_in, each_out}
use Rattle.run_laws.proofs.Reading.{found_both, length_ins}
use Rattle.run_laws.proofs.Standing.{in_stands, out_stands, in_rests, out_rests}

-- what is read at one of the inputs that are counted
pub in_there : {X : Type 0} (g : Graph) (f : WireState → X) (cells : ℕ → WireState) (k q n p j : ℕ) → p < n → find_wire k (q + p) g.wires ≡ Some j → slice_get (read_ins g f cells k (count_from q n)) p ≡ Some (f (cells j))
in_there g f cells k q zero p j h e = absurd (omega arith)
in_there g f cells k q (suc n) zero j h e = let first : q + 0 ≡ q = omega arith in let is : find_wire k q g.wires ≡ Some j = rw first at e in rw is refl
in_there g f cells k q (suc n) (suc p) j h e =
    let later : q + suc p ≡ (q + 1) + p = omega arith in
    in_there g f cells k (q + 1) n p j (omega (arith, h)) (rw later at e)

-- a number with a default, of one that is not none
some_within : (l : List ℕ) (p : ℕ) → 1 ≤ slice_index_or l p 0 → p < length l
some_within [] p h = absurd (omega arith)
some_within (x ∷ l) zero h = omega arith
some_within (x ∷ l) (suc p) h = omega (arith, some_within l p h)

each_wire : (P : InPort → Type 0) (Q : picture.SeenWire → Type 0) → ((i : InPort) → P i → Q i.wire) → (is : List InPort) → EachPort P is → EachWire Q (map (λ (i : InPort). i.wire) is)
each_wire P Q f [] h = tt
each_wire P Q f (i ∷ is) h = (f i h.0, each_wire P Q f is h.1)

-- of the first of these inputs
first_came : (is : List InPort) → EachPort InStands is → elements (slice_index_or (map (λ (i : InPort). i.got) is) 0 []) ≤ sent_in (map (λ (i : InPort). i.wire) is)
first_came [] h = omega arith
first_came (i ∷ is) h = let came = h.0.came in omega (arith, came)

module _ {N : Type 0} (port_state : N → View → Type 0) (law : N → N → View → List (List Item) → List (List Item) → Type 0) (asking : N → View → Type 0) (moves : N → List ℕ) (has_ended : N → Bool)
    (FirstOf : ℕ → graph.Node → N → Type 0) (Tells : ℕ → N → Type 0) (g : Graph) (w : World) (plans : Plans) (a : Account N) (joined : IsJoined g) (keeps : KeepsLaws port_state law asking moves g a) (made : AllMade FirstOf g a)
    (tells : (k : ℕ) (now : N) → a.nodes k ≡ Some now → Tells k now)
    (hears : (k : ℕ) (n : graph.Node) → slice_get g.nodes k ≡ Some n → HearsAll (knows g a k n) (took g a k n))
    (pictures : (k : ℕ) (n : graph.Node) (first now : N) (is : List InPort) (os : List OutPort) → slice_get g.nodes k ≡ Some n → a.firsts k ≡ Some first → FirstOf k n first → Tells k now
    → port_state now (record { ins = map (λ (i : InPort). i.view) is; outs = map (λ (o : OutPort). o.view) os })
    → law first now (record { ins = map (λ (i : InPort). i.view) is; outs = map (λ (o : OutPort). o.view) os }) (map (λ (i : InPort). i.got) is) (map (λ (o : OutPort). o.sent) os)
    → PictureLawsBy port_state law asking moves has_ended g w plans k n first now is os)
    (outlook : ℕ → Outlook) where
  abbrev pub counts : List WireCount
  counts = picture_counts a g

  abbrev pub In : ℕ → graph.Node → List InPort
  In k n = in_ports a g outlook k (count_from 0 (inputs_of n))

  abbrev pub Out : ℕ → graph.Node → List OutPort
  Out k n = out_ports a g outlook k (count_from 0 (outputs_of n))

  abbrev pub FoundIn : ℕ → ℕ → Type 0
  FoundIn k p = (u : ℕ) × ((v : Edge) × ((find_wire k p g.wires ≡ Some u) × (slice_get g.wires u ≡ Some v)))

  abbrev pub AllFoundIn : ℕ → List ℕ → Type 0
  AllFoundIn k [] = Unit {0}
  AllFoundIn k (p ∷ ps) = FoundIn k p × AllFoundIn k ps

  abbrev pub FoundOut : ℕ → ℕ → Type 0
  FoundOut k p = (u : ℕ) × ((v : Edge) × ((find_source k p g.wires ≡ Some u) × (slice_get g.wires u ≡ Some v)))

  abbrev pub AllFoundOut : ℕ → List ℕ → Type 0
  AllFoundOut k [] = Unit {0}
  AllFoundOut k (p ∷ ps) = FoundOut k p × AllFoundOut k ps

  found_ins : (k : ℕ) (n : graph.Node) → slice_get g.nodes k ≡ Some n → (q c : ℕ) → q + c ≡ inputs_of n → AllFoundIn k (count_from q c)
  found_ins k n e q zero h = tt
  found_ins k n e q (suc c) h =
      let u = joined.each_input k n q e (omega (arith, h)) in
      let f = found_both (λ (x : Edge). x.to) (λ (x : Edge). x.input) k q g.wires u.0 u.1 in
      ((u.0, (f.wire, (u.1, f.at))), found_ins k n e (q + 1) c (omega (arith, h)))

  found_outs : (k : ℕ) (n : graph.Node) → slice_get g.nodes k ≡ Some n → (q c : ℕ) → q + c ≡ outputs_of n → AllFoundOut k (count_from q c)
  found_outs k n e q zero h = tt
  found_outs k n e q (suc c) h =
      let u = joined.each_output k n q e (omega (arith, h)) in
      let f = found_both (λ (x : Edge). x.from) (λ (x : Edge). x.output) k q g.wires u.0 u.1 in
      ((u.0, (f.wire, (u.1, f.at))), found_outs k n e (q + 1) c (omega (arith, h)))

  all_in : (k : ℕ) (n : graph.Node) → slice_get g.nodes k ≡ Some n → AllFoundIn k (count_from 0 (inputs_of n))
  all_in k n e = found_ins k n e 0 (inputs_of n) (omega arith)

  all_out : (k : ℕ) (n : graph.Node) → slice_get g.nodes k ≡ Some n → AllFoundOut k (count_from 0 (outputs_of n))
  all_out k n e = found_outs k n e 0 (outputs_of n) (omega arith)

  -- what the input of a wire got is a list and an end, by the law of its node
  heard : (u : ℕ) (v : Edge) → slice_get g.wires u ≡ Some v → (l : List Tree) × ((e : End) × ((a.far u).wire.got ≡ told l e))
  heard u v e =
      let t = joined.target u v e in
      let none : 0 + v.input ≡ v.input = omega arith in
      let at = in_there g got_of a.far v.to 0 (inputs_of t.0) v.input u t.2 (rw none t.3) in
      let h = hears v.to t.0 t.1 v.input (a.far u).wire.got at in
      (h.list, (h.end, h.is))

  view_same : {v x : View} → v.ins ≡ x.ins → v.outs ≡ x.outs → v ≡ x
  view_same {v = v} {x = x} i o = ap (λ (y : List InView). record { ins = y; outs = v.outs }) i ∙ ap (λ (y : List OutView). record { ins = x.ins; outs = y }) o

  module _ (k : ℕ) (n : graph.Node) (e : slice_get g.nodes k ≡ Some n) where
    views : knows g a k n ≡ record { ins = map (λ (i : InPort). i.view) (In k n); outs = map (λ (o : OutPort). o.view) (Out k n) }
    views = view_same (reads_in a g outlook k inp_of (λ (i : InPort). i.view) (λ u v. refl) (count_from 0 (inputs_of n)) (all_in k n e)) (reads_out a g outlook k out_of (λ (o : OutPort). o.view) (λ u v. refl) (count_from 0 (outputs_of n)) (all_out k n e))

    tooks : took g a k n ≡ map (λ (i : InPort). i.got) (In k n)
    tooks = reads_in a g outlook k got_of (λ (i : InPort). i.got) (λ u v. refl) (count_from 0 (inputs_of n)) (all_in k n e)

    gaves : gave g a k n ≡ map (λ (o : OutPort). o.sent) (Out k n)
    gaves = reads_out a g outlook k sent_of (λ (o : OutPort). o.sent) (λ u v. refl) (count_from 0 (outputs_of n)) (all_out k n e)

    in_wants : ins_wanted g a k n ≡ map (λ (i : InPort). i.want) (In k n)
    in_wants = reads_in a g outlook k wanted (λ (i : InPort). i.want) (λ u v. refl) (count_from 0 (inputs_of n)) (all_in k n e)

    out_wants : outs_wanted g a k n ≡ map (λ (o : OutPort). o.want) (Out k n)
    out_wants = reads_out a g outlook k wanted (λ (o : OutPort). o.want) (λ u v. refl) (count_from 0 (outputs_of n)) (all_out k n e)

    out_shuts : outs_shut g a k n ≡ map (λ (o : OutPort). o.wire.shut) (Out k n)
    out_shuts = reads_out a g outlook k shut_of (λ (o : OutPort). o.wire.shut) (λ u v. refl) (count_from 0 (outputs_of n)) (all_out k n e)

    ins_same : ins g counts outlook k n ≡ map (λ (i : InPort). i.wire) (In k n)
    ins_same = ins_are a g outlook k (count_from 0 (inputs_of n)) (all_in k n e)

    outs_same : outs g counts outlook k n ≡ map (λ (o : OutPort). o.wire) (Out k n)
    outs_same = outs_are a g outlook k (count_from 0 (outputs_of n)) (all_out k n e)

    kept : NodeKeeps port_state law asking moves g a k n
    kept = keeps.each_node k n e

    -- what its kind tells
    kind : PictureLawsBy port_state law asking moves has_ended g w plans k n kept.first kept.now (In k n) (Out k n)
    kind = pictures k n kept.first kept.now (In k n) (Out k n) e kept.first_at (made k n kept.first e kept.first_at) (tells k kept.now kept.now_at) (subst (λ (v : View). port_state kept.now v) views kept.port_state_holds) (rw (views, tooks, gaves) at kept.law_holds)

  module _ (passes : AllPass a g outlook) where
    port_in : (u : ℕ) (v : Edge) → slice_get g.wires u ≡ Some v → InStands (in_port a g outlook u v)
    port_in u v e =
        let h = slice_get-below g.wires u v e in
        let sn = keeps.near_sound u h in
        let sf = keeps.far_sound u h in
        let p = passes u h in
        let t = heard u v e in
        in_stands u (a.near u) (a.far u) (a.asked u) (outlook u).list sn.0 sf.0 sn.1 sf.1 p.list p.end p.is p.part t.0 t.1.0 t.1.1 v.keep v.lane (keeps.wires u v e)

    port_out : (u : ℕ) (v : Edge) → slice_get g.wires u ≡ Some v → OutStands (out_port a g outlook u v)
    port_out u v e =
        let sn = keeps.near_sound u (slice_get-below g.wires u v e) in
        out_stands u (a.near u) (a.far u) (a.asked u) (outlook u).list sn.0 sn.1 v.keep v.lane (keeps.wires u v e)

    ins_stand : (k : ℕ) (n : graph.Node) → slice_get g.nodes k ≡ Some n → EachPort InStands (In k n)
    ins_stand k n e = each_in a g outlook k InStands port_in (count_from 0 (inputs_of n)) (all_in k n e)

    outs_stand : (k : ℕ) (n : graph.Node) → slice_get g.nodes k ≡ Some n → EachPort OutStands (Out k n)
    outs_stand k n e = each_out a g outlook k OutStands port_out (count_from 0 (outputs_of n)) (all_out k n e)

    row_lawful : (k : ℕ) (n : graph.Node) (e : slice_get g.nodes k ≡ Some n) → RoleLawfulBy g w plans k (role_of n.kind) n.decider (ins g counts outlook k n) (outs g counts outlook k n)
    row_lawful k n e = rw (ins_same k n e, outs_same k n e) ((kind k n e).lawful (ins_stand k n e) (outs_stand k n e) moments)
      where
        within : (p : ℕ) → 1 ≤ slice_index_or (ins_wanted g a k n) p 0 → p < inputs_of n
        within p some = let l = some_within (ins_wanted g a k n) p some in let c = length_ins g wanted a.far k 0 (inputs_of n) in omega (arith, l, c)

        moments : (p : ℕ) → 1 ≤ slice_index_or (map (λ (i : InPort). i.want) (In k n)) p 0 → Moments port_state law asking moves (kept k n e).first (kept k n e).now (In k n) (Out k n) p
        moments p some =
            let here : 1 ≤ slice_index_or (ins_wanted g a k n) p 0 = rw (in_wants k n e) some in (
              rw (tooks k n e, gaves k n e, in_wants k n e, out_wants k n e, out_shuts k n e) at ((kept k n e).asks p (within p here) here),
              rw (tooks k n e, gaves k n e, in_wants k n e, out_wants k n e, out_shuts k n e) at ((kept k n e).last p (within p here) here),
            )

    wires_lawful : (k : ℕ) (n : graph.Node) → slice_get g.nodes k ≡ Some n → EachWire WireLawful (ins g counts outlook k n)
    wires_lawful k n e = rw (ins_same k n e) (each_wire InStands WireLawful (λ i s. (s.within, s.least)) (In k n) (ins_stand k n e))

    -- what came at a node's first input was sent to it
    pub first_sent : (k : ℕ) (n : graph.Node) → slice_get g.nodes k ≡ Some n → elements (slice_index_or (took g a k n) 0 []) ≤ sent_in (ins g counts outlook k n)
    first_sent k n e = rw (tooks k n e, ins_same k n e) (first_came (In k n) (ins_stand k n e))

    -- where the order of each valve that acted and follows no moves was given by a trip
    pub all_lawful : ((k : ℕ) (n : graph.Node) (v : List ℕ × ℕ) → slice_get g.nodes k ≡ Some n → plans k ≡ None → valve_order n.kind (w.moves k) ≡ Some v
        → (trip : ℕ) × (t : graph.Node) × (slice_get g.nodes trip ≡ Some t) × CanTrip v.0 v.1 t.kind (sent_in (ins g counts outlook trip t))) → IsLawfulBy g w plans counts outlook
    all_lawful orders = record { wires = wires_lawful; nodes = row_lawful; valves = orders }

  -- ---- where no event is left

  module _ (still : IsStill g a) where
    rest_in : (u : ℕ) (v : Edge) → slice_get g.wires u ≡ Some v → InRests (in_port a g outlook u v)
    rest_in u v e = let h = slice_get-below g.wires u v e in in_rests u (a.near u) (a.far u) (a.asked u) (outlook u).list (still.near u h) (still.far u h) (keeps.near_marked u h) (keeps.far_marked u h) v.keep v.lane (keeps.wires u v e) (still.quiet u v e)

    rest_out : (u : ℕ) (v : Edge) → slice_get g.wires u ≡ Some v → OutRests (out_port a g outlook u v)
    rest_out u v e = let h = slice_get-below g.wires u v e in out_rests u (a.near u) (a.far u) (a.asked u) (outlook u).list (still.near u h) (still.far u h) (keeps.near_marked u h) (keeps.far_marked u h) v.keep v.lane (still.quiet u v e)

    ins_rest : (k : ℕ) (n : graph.Node) → slice_get g.nodes k ≡ Some n → EachPort InRests (In k n)
    ins_rest k n e = each_in a g outlook k InRests rest_in (count_from 0 (inputs_of n)) (all_in k n e)

    -- where what came at each node may pass by these outlooks
    pub all_rest : AllPass a g outlook → ((k : ℕ) (n : graph.Node) → slice_get g.nodes k ≡ Some n → AllMayPass (ports_of g w outlook k (count_from 0 (inputs_of n))) (took g a k n)) → RestsBy g w plans counts outlook
    all_rest passes came k n e =
        rw (ins_same k n e, outs_same k n e) ((kind k n e).rests (ports_of g w outlook k (count_from 0 (inputs_of n))) (subst (AllMayPass (ports_of g w outlook k (count_from 0 (inputs_of n)))) (tooks k n e) (came k n e)) (ins_stand passes k n e) (outs_stand passes k n e) (ins_rest k n e) (each_out a g outlook k OutRests rest_out (count_from 0 (outputs_of n)) (all_out k n e)))

    -- by the nodes as they are now
    pub all_match : (ended : ℕ → Bool) → ((k : ℕ) (x : N) → a.nodes k ≡ Some x → ended k ≡ has_ended x) → SinksMatch g w counts outlook ended
    all_match ended is k n e sink =
        let m = kept k n e in
        rw (ins_same k n e, is k m.now m.now_at) ((kind k n e).matches sink (ins_rest k n e))
