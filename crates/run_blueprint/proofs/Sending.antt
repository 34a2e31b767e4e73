-- How many elements were sent on the wire of a sink, also where it is a lane: by what came to the sink and what a lane holds.
use Rattle.std.specs.Prelude.{slice_get}
use Rattle.std.proofs.Common.{◌≡◌, ℕ, ◌+◌, ◌*◌, ◌≤◌, Bool, true, false, List, [], ◌∷◌, length, Option, None, Some, refl, sym, ap, ◌∙◌, subst, arith}
use Rattle.elem_core.specs.Prefix.{IsPrefix}
use Rattle.elem_core.specs.Tree.{Tree}
use Rattle.elem_core.specs.Items.{elements}
use Rattle.elem_core.specs.declared.item.Item.{Item}
use Rattle.elem_core.specs.declared.why.Cause.{Cause}
use Rattle.elem_core.proofs.Prefixes.{prefix_refl, prefix_length}
use Rattle.port_core.specs.Joint.{IsSound}
use Rattle.port_core.specs.declared.view.InView.{InView}
use Rattle.port_core.specs.declared.view.InView.TheVariants.{Pulled}
use Rattle.port_core.specs.declared.view.OutView.{OutView}
use Rattle.port_core.specs.Cell.{WireState}
use Rattle.port_core.specs.Marks.{wanted}
use Rattle.port_core.specs.Reading.{inp_of, got_of}
use Rattle.stream_model.specs.declared.kind.Kind.TheVariants as kind
use Rattle.stream_model.specs.declared.outcome.EndState.{EndState}
use Rattle.stream_model.specs.declared.outcome.EndState.TheVariants.{Ended, Failed, Unended, WriteFault}
use Rattle.stream_model.specs.Composed.{inputs_by, inputs_of, count_from, received, wire_loss, incoming, ports_of, composed, sink_outlook}
use Rattle.stream_model.specs.Graph.{Graph, Edge, find_wire}
use Rattle.stream_model.specs.Graph as graph
use Rattle.stream_model.specs.Lane.{loss_of, lane_loss, Carries}
use Rattle.stream_model.specs.Linear.{Book, Work, passing, work_of}
use Rattle.stream_model.specs.Node.{World, head_of, of_work}
use Rattle.stream_model.specs.Outlook.{Outlook, End, unended, ended, failed, Agrees}
use Rattle.stream_model.proofs.Compositions.{slice_get-below}
use Rattle.stream_model.proofs.Lanes.{carried}
use Rattle.stream_io.specs.State.{SourceState, DrainState}
use Rattle.stage_core.specs.Held.{told}
use Rattle.nodes.specs.declared.node.IslandNode.{IslandNode}
use Rattle.nodes.specs.declared.node.IslandNode.TheVariants as node
use Rattle.nodes.specs.Ignoring.{Ignorer, IgnoreLaw, EndsWith}
use Rattle.nodes.specs.Nodes.{node_port_state, node_law, node_asking, node_moves}
use Rattle.nodes.specs.Ports.{OneInOf}
use Rattle.nodes.specs.Sink.{Sink, sink_port_state_in, end_seen}
use Rattle.run_laws.specs.Account.{Account, knows, took, gave, WireKeeps, IsStill}
use Rattle.run_laws.specs.Items.{list_of, end_of_items, lane_size, AgreesWith, ArrivedOf}
use Rattle.run_laws.proofs.Carrying.{wire_brings, carries_part}
use Rattle.run_laws.proofs.Coming.{elements_prefix, elements_told, no_fewer, resting_same}
use Rattle.run_laws.proofs.Histories.{list_of_told, standing_told}
use Rattle.run_laws.proofs.Nodes.{kept_as, one_input, read_one}
use Rattle.run_laws.proofs.Standing.{in_rests}
use Rattle.run_laws.specs.Runs.{IsRun}
use Rattle.run_laws.specs.Sinks.{TookList, WithinRounds, SentTo, IsSinkAt, IgnoreTells, IsIgnorerAt}
use Rattle.run_laws.specs.Ends.{half_of, AskedInRounds}
use Rattle.materializer.specs.Seats.{gather_of}
use Rattle.run_laws.proofs.Faults.{sent_wanted}
use Rattle.run_laws.proofs.Passing.{passing_agrees}
use Rattle.run_blueprint.specs.Sending.{SentOn}

-- ---- one wire

-- so many elements were sent at its input, and at its output no more than a lane asked for, which asked in rounds
abbrev Asks : Option ℕ → ℕ → ℕ → Type 0
Asks None near far = near ≤ far
Asks (Some s) near far = (asked : ℕ) × ((near ≤ asked) × AskedInRounds s asked far)

-- as many elements were sent at its output as at its input, and so many more at most as it has places
record Holds (lane : Option ℕ) (near far : ℕ) : Type 0 where
  least : far ≤ near
  most : near ≤ far + lane_size lane
  asks : Asks lane near far

wire_holds : (keep : Bool) (lane : Option ℕ) (near far : WireState) (asked : ℕ) (q : Bool) → IsSound near.wire q → WireKeeps keep lane near far asked → Holds lane (elements near.wire.sent) (elements far.wire.sent)
wire_holds keep None near far asked q sound k = let same : elements far.wire.sent ≡ elements near.wire.sent = ap (λ (c : WireState). elements c.wire.sent) k in record { least = omega (arith, same); most = omega (arith, same); asks = omega (arith, same) }
wire_holds keep (Some s) near far asked q sound k =
    let pushed : elements far.wire.sent ≡ length k.in_keeps.pushed_list = ap elements k.in_keeps.pushed_is ∙ elements_told k.in_keeps.pushed_list k.in_keeps.pushed_end in
    let taken : elements k.inp.taken ≡ length k.in_keeps.taken_list = ap elements k.in_keeps.taken_is ∙ elements_told k.in_keeps.taken_list k.in_keeps.taken_end in
    let carried_on : length k.in_keeps.pushed_list ≤ length k.in_keeps.taken_list = prefix_length (carries_part (loss_of keep s) k.in_keeps.taken_list k.in_keeps.taken_end k.in_keeps.pushed_list k.in_keeps.pushed_end k.in_keeps.carries) in
    let met : elements k.inp.taken ≤ elements k.out.sent = elements_prefix k.inp.taken k.out.sent k.met.taken in
    let given : elements k.out.sent ≤ elements near.wire.got = elements_prefix k.out.sent near.wire.got k.out_keeps.part in
    let came : elements near.wire.got ≤ elements near.wire.sent = no_fewer near.wire q sound in
    let some : elements near.wire.sent ≤ wanted near = sent_wanted (elements near.wire.sent) near.asked in
    let wants : wanted near ≤ k.out.seen = k.out_keeps.wants in
    let seen : k.out.seen ≤ k.inp.asked = k.met.seen in
    let asks : k.inp.asked ≤ elements far.wire.sent + s = k.in_keeps.asks in
    record { least = omega (arith, pushed, taken, carried_on, met, given, came); most = omega (arith, some, wants, seen, asks); asks = (k.inp.asked, (omega (arith, some, wants, seen), k.in_keeps.in_rounds)) }

-- by its rounds no more was asked for than the file lacks and the lane has places, and one
few_by : (s half near asked far rounds over count : ℕ) → near ≤ asked → asked ≡ s + rounds * half → far ≡ rounds * half + over → far ≤ count + (over + 1) → near ≤ count + (s + 1)
few_by s half near asked far rounds over count less asked_is pushed behind = omega (arith, less, asked_is, pushed, behind)

asked_few : (s near far count : ℕ) → Asks (Some s) near far → WithinRounds (half_of s) far count → near ≤ count + (s + 1)
asked_few s near far count a w =
    let r = a.1.1 in
    few_by s (half_of s) near a.0 far r.rounds r.over count a.1.0 r.asked_is r.pushed_is (w r.rounds r.over r.pushed_is r.few)

-- a round of one
one_more : (sent count : ℕ) → WithinRounds 1 sent count → sent ≤ count + 1
one_more sent count w = let b : sent ≤ count + (0 + 1) = w sent 0 (omega arith) (omega arith) in omega (arith, b)

-- by how many came to the sink, and that where a normal end came all did
sent_on : (lane : Option ℕ) (e : EndState) (near far count : ℕ) → Holds lane near far → (e ≡ Ended → near ≤ far) → SentTo (gather_of lane) e far count → SentOn lane e near count
sent_on None e near far count h all s = let least = h.least in let most = h.most in let same : far ≡ near = omega (arith, least, most) in subst (λ (m : ℕ). SentOn None e m count) same (by e s)
  where
    by : (d : EndState) → SentTo 1 d far count → SentOn None d far count
    by Ended t = t
    by (Failed c) t = t
    by Unended t = (t.0, one_more far count t.1)
    by WriteFault t = let a : count + 1 ≤ far = t.0 in let b : far ≤ count + 1 = one_more far count t.1 in omega (arith, a, b)
sent_on (Some z) Ended near far count h all s = let least = h.least in let most = all refl in omega (arith, least, most, s)
sent_on (Some z) (Failed c) near far count h all s = let least = h.least in let most = h.most in (omega (arith, least, s), omega (arith, most, s))
sent_on (Some z) Unended near far count h all s = let least = h.least in let a = s.0 in (omega (arith, least, a), asked_few z near far count h.asks s.1)
sent_on (Some z) WriteFault near far count h all s = let least = h.least in let a = s.0 in (omega (arith, least, a), asked_few z near far count h.asks s.1)

-- a list of which a normal end came is all that was sent
all_came : (s : ℕ) (sent : List Item) (m l : List Tree) (f e : End) → sent ≡ told m f → Carries s (list_of sent) (end_of_items sent) l e → e ≡ ended → elements sent ≡ length l
all_came s sent m l f ended is c same = ap elements is ∙ elements_told m f ∙ ap length (sym (c.1 ∙ ap list_of is ∙ list_of_told m f))
all_came s sent m l f unended is c same = cc
all_came s sent m l f (failed d) is c same = cc

heads_same : (x y : List Item) → x ∷ [] ≡ y ∷ [] → x ≡ y
heads_same x y e = cc

-- a sink that goes on waits
sink_waits : (b : Bool) (i : InView) (outs : List OutView) → OneInOf (sink_port_state_in b Unended) (i ∷ []) outs → i ≡ Pulled
sink_waits true Pulled [] r = refl
sink_waits true Pulled (y ∷ outs) r = refl
sink_waits _ i [] r = absurd r
sink_waits _ i (y ∷ outs) r = absurd r

sink_waits_as : (b : Bool) (e : EndState) (i : InView) (outs : List OutView) → e ≡ Unended → OneInOf (sink_port_state_in b e) (i ∷ []) outs → i ≡ Pulled
sink_waits_as b Unended i outs is r = sink_waits b i outs r
sink_waits_as b Ended i outs is r = cc
sink_waits_as b (Failed c) i outs is r = cc
sink_waits_as b WriteFault i outs is r = cc

-- ---- a sink that keeps nothing

carries_self : (s : ℕ) (m : List Tree) (f : End) → Carries s m f m f
carries_self s m unended = prefix_refl m
carries_self s m ended = (refl, refl)
carries_self s m (failed c) = (refl, prefix_refl m, omega arith)

-- what may be sent may come
received_agrees : (g : Graph) (w : World) (lane : Option ℕ) (o : Outlook) (m : List Tree) (f : End) → Agrees o m f → Agrees (received g w lane o) m f
received_agrees g w None o m f a = a
received_agrees g w (Some s) o m f a = carried s o m f m f a (carries_self s m f)

goes_on : (o : Outlook) (m : List Tree) (f : End) → Agrees o m f → Agrees o m unended
goes_on o m unended a = a
goes_on o m ended a = subst (λ (x : List Tree). IsPrefix m x) a.1 (prefix_refl m)
goes_on o m (failed c) a = a.0

carries_ended : (s : ℕ) (t : List Tree) (f : End) (l : List Tree) (e : End) → Carries s t f l e → e ≡ ended → f ≡ ended
carries_ended s t f l ended c is = c.0
carries_ended s t f l unended c is = cc
carries_ended s t f l (failed d) c is = cc

carries_failed : (s : ℕ) (t : List Tree) (f : End) (l : List Tree) (e : End) (d : Cause) → Carries s t f l e → e ≡ failed d → f ≡ failed d
carries_failed s t f l (failed x) d c is = c.0 ∙ is
carries_failed s t f l unended d c is = cc
carries_failed s t f l ended d c is = cc

ignore_told : (s : EndState) (o : Outlook) (m : List Tree) (f : End) (z : ℕ) (l : List Tree) (e : End) → EndsWith s e → Carries z m f l e → Agrees o m f → IgnoreTells o s (length m)
ignore_told Ended o m f z l e with_end c a = (m, (subst (λ (x : End). Agrees o m x) (carries_ended z m f l e c with_end) a, refl))
ignore_told (Failed d) o m f z l e with_end c a = (m, (subst (λ (x : End). Agrees o m x) (carries_failed z m f l e d c with_end) a, refl))
ignore_told Unended o m f z l e with_end c a = (m, (goes_on o m f a, (omega arith, omega arith)))
ignore_told WriteFault o m f z l e with_end c a = absurd with_end

-- ---- a wire of a run, and the sink at its input

module _ {S D L H B : Type 0} (sources : S → SourceState) (drains : D → DrainState) (book : Book) (g : Graph) (a : Account (IslandNode S D L H B)) (run : IsRun sources drains book g a) (u : ℕ) (v : Edge) (at : slice_get g.wires u ≡ Some v) where
  near_sound : (q : _) × IsSound (a.near u).wire q
  near_sound = run.keeps.near_sound u (slice_get-below g.wires u v at)

  far_sound : (q : _) × IsSound (a.far u).wire q
  far_sound = run.keeps.far_sound u (slice_get-below g.wires u v at)

  keeps : WireKeeps v.keep v.lane (a.near u) (a.far u) (a.asked u)
  keeps = run.keeps.wires u v at

  holds : Holds v.lane (elements (a.near u).wire.sent) (elements (a.far u).wire.sent)
  holds = wire_holds v.keep v.lane (a.near u) (a.far u) (a.asked u) near_sound.0 near_sound.1 keeps

  brings : ArrivedOf (lane_loss v.keep v.lane) (a.near u).wire.sent (a.far u).wire.got
  brings = wire_brings v.keep v.lane (a.near u) (a.far u) (a.asked u) near_sound.0 far_sound.0 near_sound.1 far_sound.1 keeps

  module _ (o : Outlook) (sent : AgreesWith o (a.near u).wire.sent) (k : ℕ) (n : graph.Node) (ni : slice_get g.nodes k ≡ Some n) (one : inputs_of n ≡ 1) (to : v.to ≡ k) where
    found : find_wire k 0 g.wires ≡ Some u
    found = one_input g run.joined k n u v ni one at to

    took_one : took g a k n ≡ (a.far u).wire.got ∷ []
    took_one = read_one g got_of a.far k (inputs_of n) u one found

    -- a sink of lines that ended got all
    module _ (end : EndState) (so : Outlook) (list : TookList so end (took g a k n)) where
      got_is : (a.far u).wire.got ≡ told list.list list.seen
      got_is = heads_same (a.far u).wire.got (told list.list list.seen) (sym took_one ∙ list.is)

      all_there : end ≡ Ended → elements (a.near u).wire.sent ≤ elements (a.far u).wire.sent
      all_there is =
          let all : elements (a.near u).wire.sent ≡ length list.list = all_came (lane_size (lane_loss v.keep v.lane)) (a.near u).wire.sent sent.list list.list sent.end list.seen sent.is (brings list.list list.seen got_is) (list.ends (λ fault. let no : Ended ≡ WriteFault = sym is ∙ fault in cc) ∙ ap end_seen is) in
          let came : elements (a.far u).wire.got ≡ length list.list = ap elements got_is ∙ elements_told list.list list.seen in
          let less : elements (a.far u).wire.got ≤ elements (a.far u).wire.sent = no_fewer (a.far u).wire far_sound.0 far_sound.1 in
          omega (arith, all, came, less)

      pub sink_sent : (room count : ℕ) → room ≡ gather_of v.lane → SentTo room end (elements (a.far u).wire.sent) count → SentOn v.lane end (elements (a.near u).wire.sent) count
      sink_sent room count is s = sent_on v.lane end (elements (a.near u).wire.sent) (elements (a.far u).wire.sent) count holds all_there (subst (λ (m : ℕ). SentTo m end (elements (a.far u).wire.sent) count) is s)

    -- where no event is left nothing is on the way to a sink that waits
    pub sink_rests : (first now : Sink D) → IsSinkAt a k first now → IsStill g a → now.end ≡ Unended → elements (a.near u).wire.sent ≡ elements (a.far u).wire.sent
    sink_rests first now there still goes =
        let within = slice_get-below g.wires u v at in
        let kept = kept_as node_port_state (node_law sources drains book) node_asking node_moves g a run.keeps k n (node.Writing first) (node.Writing now) ni there.at_first there.at_last in
        let ins : (knows g a k n).ins ≡ (a.far u).wire.inp ∷ [] = read_one g inp_of a.far k (inputs_of n) u one found in
        let row : OneInOf (sink_port_state_in now.started now.end) ((a.far u).wire.inp ∷ []) (knows g a k n).outs = subst (λ (l : List InView). OneInOf (sink_port_state_in now.started now.end) l (knows g a k n).outs) ins kept.port_state_holds in
        let waits : (a.far u).wire.inp ≡ Pulled = sink_waits_as now.started now.end (a.far u).wire.inp (knows g a k n).outs goes row in
        let rests = in_rests u (a.near u) (a.far u) (a.asked u) [] (still.near u within) (still.far u within) (run.keeps.near_marked u within) (run.keeps.far_marked u within) v.keep v.lane keeps (still.quiet u v at) in
        (rests.waits waits).1 ∙ sym (resting_same (a.far u).wire false (still.far u within) refl waits)

  -- what was sent to a sink that keeps nothing may pass by its outlook
  module _ (w : World) (sent : AgreesWith (composed g w u) (a.near u).wire.sent) (k : ℕ) (n : graph.Node) (ni : slice_get g.nodes k ≡ Some n) (shape : n.kind ≡ kind.Ignore) (to : v.to ≡ k) where
    ignored : find_wire k 0 g.wires ≡ Some u
    ignored = one_input g run.joined k n u v ni (ap (inputs_by n.head) shape) at to

    comes : Agrees (head_of (ports_of g w (composed g w) k (count_from 0 1))) sent.list sent.end
    comes =
        subst (λ (x : Option ℕ). Agrees (incoming g w (composed g w) x) sent.list sent.end) (sym ignored)
        (subst (λ (x : Option Edge). Agrees (received g w (wire_loss g w x) (composed g w u)) sent.list sent.end) (sym at) (received_agrees g w (lane_loss v.keep v.lane) (composed g w u) sent.list sent.end sent.agrees))

    passes : Agrees (sink_outlook g w k n) sent.list sent.end
    passes =
        let work : work_of n.kind ≡ Some passing = ap work_of shape in
        subst (λ (x : Option Work). Agrees (of_work w.book k n.decider x (ports_of g w (composed g w) k (count_from 0 1))) sent.list sent.end) (sym work)
        (passing_agrees w.book k n.decider (head_of (ports_of g w (composed g w) k (count_from 0 1))) sent.list sent.end comes)

    pub ignorer_told : (first now : Ignorer) → IsIgnorerAt a k first now → IgnoreTells (sink_outlook g w k n) now.end (elements (a.near u).wire.sent)
    ignorer_told first now there =
        let kept = kept_as node_port_state (node_law sources drains book) node_asking node_moves g a run.keeps k n (node.Ignoring first) (node.Ignoring now) ni there.at_first there.at_last in
        let law : IgnoreLaw first now (knows g a k n) (took g a k n) (gave g a k n) = kept.law_holds in
        let came : took g a k n ≡ (a.far u).wire.got ∷ [] = read_one g got_of a.far k (inputs_of n) u (ap (inputs_by n.head) shape) ignored in
        let got : (a.far u).wire.got ≡ told law.elems law.in_end = heads_same (a.far u).wire.got (told law.elems law.in_end) (sym came ∙ law.took_is) in
        let brought : Carries (lane_size (lane_loss v.keep v.lane)) (list_of (a.near u).wire.sent) (end_of_items (a.near u).wire.sent) law.elems law.in_end = brings law.elems law.in_end got in
        let list : list_of (a.near u).wire.sent ≡ sent.list = ap list_of sent.is ∙ list_of_told sent.list sent.end in
        let end : end_of_items (a.near u).wire.sent ≡ sent.end = ap end_of_items sent.is ∙ standing_told sent.list sent.end in
        let carries : Carries (lane_size (lane_loss v.keep v.lane)) sent.list sent.end law.elems law.in_end = rw (list, end) at brought in
        let count : elements (a.near u).wire.sent ≡ length sent.list = ap elements sent.is ∙ elements_told sent.list sent.end in
        rw count (ignore_told now.end (sink_outlook g w k n) sent.list sent.end (lane_size (lane_loss v.keep v.lane)) law.elems law.in_end law.ends carries passes)
