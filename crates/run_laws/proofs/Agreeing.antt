-- What was sent on every wire agrees with the composed outlook of that wire, by what the nodes and the wires keep.
use Rattle.std.specs.Prelude.{slice_get}
use Rattle.std.proofs.Common.{◌≡◌, ℕ, zero, suc, ◌+◌, ◌<◌, List, [], ◌∷◌, length, true, Option, None, Some, refl, sym, subst, ◌∙◌, arith}
use Rattle.elem_core.specs.Tree.{Tree}
use Rattle.elem_core.specs.declared.item.Item.{Item}
use Rattle.elem_core.specs.Prefix.{IsPrefix}
use Rattle.elem_core.proofs.Prefixes.{prefix_nil, prefix_trans, prefix_whole}
use Rattle.port_core.specs.View.{View}
use Rattle.port_core.specs.Cell.{WireState}
use Rattle.stream_model.specs.Outlook.{Outlook, End, unended, ended, failed, Agrees}
use Rattle.stream_model.specs.Lane.{lane_loss, Carries}
use Rattle.stream_model.specs.Graph.{Graph, Edge, find_wire, find_source}
use Rattle.stream_model.specs.Graph as graph
use Rattle.stream_model.specs.Node.{World, nothing}
use Rattle.stream_model.specs.Composed.{inputs_of, count_from, incoming, received, ports_of, next, composed, IsRanked}
use Rattle.stream_model.proofs.AllWires.{all_agree}
use Rattle.stream_model.proofs.Lanes.{carried}
use Rattle.stream_model.proofs.Compositions.{slice_get-below, composed_composes, found_first}
use Rattle.stream_model.specs.View.{outputs_of}
use Rattle.port_core.specs.Reading.{got_of, sent_of}
use Rattle.fused_net.proofs.Reading.{get_there, some_same}
use Rattle.run_laws.specs.Items.{list_of, end_of_items, ArrivedOf, MayPass, AllMayPass, AgreesWith}
use Rattle.run_laws.specs.Account.{Account, cell_by, read_ins, read_outs, knows, took, gave, KeepsLaws, AllMade}
use Rattle.stream_model.specs.Fits.{moves_fit, inputs}
use Rattle.stream_model.specs.Joined.{IsJoined}
use Rattle.run_laws.specs.KindLaws.{RunLaws}
use Rattle.run_laws.proofs.Carrying.{wire_brings}
use Rattle.run_laws.proofs.Histories.{list_of_told, standing_told}
use Rattle.run_laws.proofs.Reading.{length_ins}

-- behind a wire that loses nothing the outlook is as it was
no_loss : (o : Outlook) (l : List Tree) (e : End) (sent : List Tree) (f : End) → Agrees o sent f → Carries 0 sent f l e → Agrees o l e
no_loss o l unended sent f a c = prefix_of_any o sent f l a c
  where
    prefix_of_any : (o : Outlook) (sent : List Tree) (f : End) (l : List Tree) → Agrees o sent f → IsPrefix l sent → IsPrefix l o.list
    prefix_of_any o sent unended l a p = prefix_trans p a
    prefix_of_any o sent ended l a p = rw (← a.1) p
    prefix_of_any o sent (failed c) l a p = prefix_trans p a.0
no_loss o l ended sent f a c = let b : Agrees o sent ended = subst (λ (x : End). Agrees o sent x) c.0 a in (b.0, c.1 ∙ b.1)
no_loss o l (failed d) sent f a c =
    let b : Agrees o sent (failed d) = subst (λ (x : End). Agrees o sent x) c.0 a in
    let same : l ≡ sent = prefix_whole c.1 (let few = c.2 in omega (arith, few)) in
    rw same b

-- what a wire brings may pass behind it, where what was sent may
brought_passes : (g : Graph) (w : World) (o : Outlook) (lane : Option ℕ) (sent got : List Item) → Agrees o (list_of sent) (end_of_items sent) → ArrivedOf lane sent got → MayPass (received g w lane o) got
brought_passes g w o None sent got a b l e is = no_loss o l e (list_of sent) (end_of_items sent) a (b l e is)
brought_passes g w o (Some s) sent got a b l e is = carried s o (list_of sent) (end_of_items sent) l e a (b l e is)

-- where there is no wire nothing came
nothing_passes : MayPass nothing []
nothing_passes [] unended h = prefix_nil []
nothing_passes [] ended h = absurd cc
nothing_passes [] (failed c) h = absurd cc
nothing_passes (t ∷ l) e h = absurd cc

-- what is read at one of the outputs that are counted
pub read_there : {X : Type 0} (g : Graph) (f : WireState → X) (cells : ℕ → WireState) (k q n p j : ℕ) → p < n → find_source k (q + p) g.wires ≡ Some j → slice_get (read_outs g f cells k (count_from q n)) p ≡ Some (f (cells j))
read_there g f cells k q zero p j h e = absurd (omega arith)
read_there g f cells k q (suc n) zero j h e = let first : q + 0 ≡ q = omega arith in let is : find_source k q g.wires ≡ Some j = rw first at e in rw is refl
read_there g f cells k q (suc n) (suc p) j h e =
    let later : q + suc p ≡ (q + 1) + p = omega arith in
    read_there g f cells k (q + 1) n p j (omega (arith, h)) (rw later at e)

pub list_agrees : (o : Outlook) (h : List Item) → AgreesWith o h → Agrees o (list_of h) (end_of_items h)
list_agrees o h a = rw (a.is, list_of_told a.list a.end, standing_told a.list a.end) a.agrees

module _ {N : Type 0} (port_state : N → View → Type 0) (law : N → N → View → List (List Item) → List (List Item) → Type 0) (asking : N → View → Type 0) (moves : N → List ℕ)
    (FirstOf : ℕ → graph.Node → N → Type 0) (Tells : World → ℕ → graph.Node → N → N → Type 0) (g : Graph) (w : World)
    (laws : (k : ℕ) (n : graph.Node) (first now : N) (v : View) (took gave : List (List Item)) → FirstOf k n first → Tells w k n first now → length took ≡ inputs_of n → law first now v took gave → RunLaws g w k n took gave)
    (a : Account N) (joined : IsJoined g) (keeps : KeepsLaws port_state law asking moves g a) (made : AllMade FirstOf g a) where
  -- what is told of node k
  abbrev pub TellsAt : ℕ → graph.Node → Type 0
  TellsAt k n = (first now : N) → a.firsts k ≡ Some first → a.nodes k ≡ Some now → Tells w k n first now

  -- the laws of node k, whatever its kind is
  pub node_laws : (k : ℕ) (n : graph.Node) → slice_get g.nodes k ≡ Some n → TellsAt k n → RunLaws g w k n (took g a k n) (gave g a k n)
  node_laws k n e tells = let m = keeps.each_node k n e in laws k n m.first m.now (knows g a k n) (took g a k n) (gave g a k n) (made k n m.first e m.first_at) (tells m.first m.now m.first_at m.now_at) (length_ins g got_of a.far k 0 (inputs_of n)) m.law_holds

  pub brings : (u : ℕ) (v : Edge) → slice_get g.wires u ≡ Some v → ArrivedOf (lane_loss v.keep v.lane) (a.near u).wire.sent (a.far u).wire.got
  brings u v e =
      let h = slice_get-below g.wires u v e in
      let n = keeps.near_sound u h in
      let f = keeps.far_sound u h in
      wire_brings v.keep v.lane (a.near u) (a.far u) (a.asked u) n.0 f.0 n.1 f.1 (keeps.wires u v e)

  -- by any outlooks of the wires
  module _ (sent : ℕ → Outlook) where
    abbrev pub SentAgrees : ℕ → Type 0
    SentAgrees u = Agrees (sent u) (list_of (a.near u).wire.sent) (end_of_items (a.near u).wire.sent)

    -- what came in at an input
    input_passes : (k : ℕ) (o : Option ℕ) → ((i : ℕ) → o ≡ Some i → (v : Edge) × ((slice_get g.wires i ≡ Some v) × (v.to ≡ k))) → ((u : ℕ) (v : Edge) → slice_get g.wires u ≡ Some v → v.to ≡ k → SentAgrees u)
        → MayPass (incoming g w sent o) (got_of (cell_by a.far o))
    input_passes k None f b = nothing_passes
    input_passes k (Some i) f b =
        let v = f i refl in
        let passes = brought_passes g w (sent i) (lane_loss v.0.keep v.0.lane) (a.near i).wire.sent (a.far i).wire.got (b i v.0 v.1.0 v.1.1) (brings i v.0 v.1.0) in
        rw (v.1.0) passes

    pub inputs_pass : (k : ℕ) (ps : List ℕ) → ((u : ℕ) (v : Edge) → slice_get g.wires u ≡ Some v → v.to ≡ k → SentAgrees u) → AllMayPass (ports_of g w sent k ps) (read_ins g got_of a.far k ps)
    inputs_pass k [] b = tt
    inputs_pass k (p ∷ ps) b =
        (input_passes k (find_wire k p g.wires) (λ i e. let r = found_first (λ (x : Edge). x.to) (λ (x : Edge). x.input) k p g.wires i e in (r.wire, (r.at, r.to))) b, inputs_pass k ps b)

    -- what was sent on a wire, where what came to its node agrees
    pub wire_by : (j : ℕ) (v : Edge) (n : graph.Node) → slice_get g.wires j ≡ Some v → slice_get g.nodes v.from ≡ Some n → TellsAt v.from n
        → ((u : ℕ) (x : Edge) → slice_get g.wires u ≡ Some x → x.to ≡ v.from → SentAgrees u) → AgreesWith (next g w sent j) (a.near j).wire.sent
    wire_by j v n vi ni tells b =
        let source = joined.source j v vi in
        let same : source.0 ≡ n = some_same source.0 n (sym source.1 ∙ ni) in
        let within : v.output < outputs_of n = rw same at source.2 in
        let ins = inputs_pass v.from (count_from 0 (inputs_of n)) b in
        let none : 0 + v.output ≡ v.output = omega arith in
        let at : slice_get (gave g a v.from n) v.output ≡ Some (a.near j).wire.sent = read_there g sent_of a.near v.from 0 (outputs_of n) v.output j within (rw none source.3) in
        rw (vi, ni) ((node_laws v.from n ni tells).gives (ports_of g w sent v.from (count_from 0 (inputs_of n))) ins v.output (a.near j).wire.sent at)

    -- the same by outlooks with which what was sent agrees
    pub gives_by : (j : ℕ) (v : Edge) (n : graph.Node) → slice_get g.wires j ≡ Some v → slice_get g.nodes v.from ≡ Some n → TellsAt v.from n
        → ((u : ℕ) (x : Edge) → slice_get g.wires u ≡ Some x → x.to ≡ v.from → AgreesWith (sent u) (a.near u).wire.sent) → AgreesWith (next g w sent j) (a.near j).wire.sent
    gives_by j v n vi ni tells b = wire_by j v n vi ni tells (λ u x ux to. list_agrees (sent u) (a.near u).wire.sent (b u x ux to))

  module _ (tells : (k : ℕ) (n : graph.Node) (first now : N) → slice_get g.nodes k ≡ Some n → a.firsts k ≡ Some first → a.nodes k ≡ Some now → Tells w k n first now) (rank : ℕ → ℕ) (ranked : IsRanked g rank) where
    told_at : (k : ℕ) (n : graph.Node) → slice_get g.nodes k ≡ Some n → TellsAt k n
    told_at k n e first now f x = tells k n first now e f x

    wire_agrees : (j : ℕ) → j < length g.wires → ((i : ℕ) → i < length g.wires → rank i < rank j → SentAgrees (composed g w) i) → AgreesWith (next g w (composed g w) j) (a.near j).wire.sent
    wire_agrees j hj below =
        let v = get_there g.wires j hj in
        let source = joined.source j v.0 v.1 in
        wire_by (composed g w) j v.0 source.0 v.1 source.1 (told_at v.0.from source.0 source.1) (λ u x ux to. below u (slice_get-below g.wires u x ux) (ranked.rises u j x v.0 ux v.1 to))

    sent_agrees : (i : ℕ) → i < length g.wires → SentAgrees (composed g w) i
    sent_agrees = all_agree g w rank ranked (λ u. list_of (a.near u).wire.sent) (λ u. end_of_items (a.near u).wire.sent)
        (λ j hj below. list_agrees (next g w (composed g w) j) (a.near j).wire.sent (wire_agrees j hj below))

    -- every wire, at its output
    pub every_wire : (i : ℕ) → i < length g.wires → AgreesWith (composed g w i) (a.near i).wire.sent
    every_wire i hi = subst (λ (o : Outlook). AgreesWith o (a.near i).wire.sent) (composed_composes g w rank ranked i hi) (wire_agrees i hi (λ u hu r. sent_agrees u hu))

    -- and what every node took
    pub every_input : (k : ℕ) (n : graph.Node) → slice_get g.nodes k ≡ Some n → AllMayPass (ports_of g w (composed g w) k (count_from 0 (inputs_of n))) (took g a k n)
    every_input k n e = inputs_pass (composed g w) k (count_from 0 (inputs_of n)) (λ u v ui to. sent_agrees u (slice_get-below g.wires u v ui))

    -- the moves of every node fit what may come in there
    pub all_fit : (k : ℕ) (n : graph.Node) → slice_get g.nodes k ≡ Some n → moves_fit g w k n.kind (inputs g w k n) ≡ true
    all_fit k n e = (node_laws k n e (told_at k n e)).fits (ports_of g w (composed g w) k (count_from 0 (inputs_of n))) (every_input k n e)
