-- What passed the wires of a run, by what was sent on each.
use Rattle.std.proofs.Common.{◌≡◌, ◌≢◌, ℕ, ◌<◌, ◌≤◌, ◌⊎◌, inl, inr, true, false, List, [], length, map, Some, refl, sym, ap, subst, ◌∙◌}
use Rattle.std.specs.Prelude.{slice_get}
use Rattle.elem_core.specs.Tree.{Tree, text}
use Rattle.elem_core.specs.Items.{elements}
use Rattle.elem_core.specs.Prefix.{IsPrefix}
use Rattle.elem_core.proofs.Prefixes.{prefix_refl}
use Rattle.elem_core.specs.declared.item.Item.{Item}
use Rattle.stream_model.specs.declared.kind.Kind.{Kind}
use Rattle.stream_model.specs.declared.kind.Kind.TheVariants.{Lines, ToLines, Head, Ignore, Custom}
use Rattle.stream_model.specs.declared.outcome.EndState.TheVariants.{Ended}
use Rattle.stream_model.specs.declared.outcome.WireCount.{WireCount}
use Rattle.stream_model.specs.Composed.{next, IsRanked}
use Rattle.stream_model.specs.Graph.{Graph, Edge}
use Rattle.stream_model.specs.Graph as graph
use Rattle.stream_model.specs.Lane.{lane_loss}
use Rattle.stream_model.specs.Linear.{Book}
use Rattle.stream_model.specs.Listed.{tells_none}
use Rattle.stream_model.specs.Node.{World, nothing}
use Rattle.stream_model.specs.Outlook.{Outlook, End, unended, Agrees}
use Rattle.stream_model.proofs.Compositions.{slice_get-below}
use Rattle.stage_core.specs.Held.{told}
use Rattle.stream_model.specs.Shape.{sent_at}
use Rattle.run_laws.specs.Items.{list_of, end_of_items, AgreesWith, WithinOutlook, IsToldList}
use Rattle.run_laws.specs.Reads.{GivesTexts}
use Rattle.run_laws.proofs.Coming.{elements_told}
use Rattle.run_laws.proofs.Histories.{list_of_told, standing_told}
use Rattle.stream_model.specs.declared.blueprint.Blueprint.{Blueprint}
use Rattle.stream_model.specs.declared.blueprint.Node.{Node}
use Rattle.stream_model.specs.Known.{HeadLists}
use Rattle.blue_check.specs.Fitness.{IsFit}
use Rattle.blue_check.specs.Wires.{blueprint_wires}
use Rattle.materializer.specs.Files.{output_of}
use Rattle.materializer.specs.Graphs.{graph_node, graph_of}
use Rattle.run_blueprint.specs.Plugs.{KeepsPlugTypes, CustomsTyped}
use Rattle.run_blueprint.specs.Sent.{exact, SendsItsType}
use Rattle.run_blueprint.specs.Types.{AllTyped}
use Rattle.run_blueprint.proofs.TypeSending.{exact_agrees}
use Rattle.run_blueprint.proofs.Settling.{all_by_rank}
use Rattle.interpreter.specs.Picks.{Pick}
use Rattle.run_blueprint.specs.Carrying.{WiresCarry, ShutBy, OverBy, AskedBy, SinkTook, IgnorerTook}
use Rattle.run_blueprint.specs.Stands.{SinkStand}
use Rattle.run_blueprint.specs.Choosing.{HasPicks}
use Rattle.run_blueprint.proofs.Places.{mapped_at, place_of}

-- a world with these heads and without files, in which these moves were made
abbrev pub unread : Book → (ℕ → List ℕ) → World
unread book moves = record { book = book; file = λ name. record { bytes = []; read = 0; faulted = false }; moves = moves; given = λ k p. nothing }

-- as all that may pass
pub agrees_exactly : (items : List Item) → IsToldList items → AgreesWith (exact (list_of items) (end_of_items items)) items
agrees_exactly items t = record { list = t.list; end = t.end; is = t.is; agrees = rw (t.is, list_of_told t.list t.end, standing_told t.list t.end) (exact_agrees t.list t.end) }

pub passes_exactly : (items : List Item) → IsToldList items → WithinOutlook (exact (list_of items) (end_of_items items)) items
passes_exactly items t = record { list = t.list; end = t.end; is = t.is; part = subst (IsPrefix t.list) (sym (ap list_of t.is ∙ list_of_told t.list t.end)) (prefix_refl t.list) }

-- a source of lines, or none
is_lines : (k : Kind) → ((name : List ℕ) × (k ≡ Lines name)) ⊎ ((name : List ℕ) → k ≢ Lines name)
is_lines (Lines name) = inl (name, refl)
is_lines _ = inr (λ name e. cc)

-- a custom stage, or none
is_custom : (k : Kind) → ((name : List ℕ) × (k ≡ Custom name)) ⊎ ((name : List ℕ) → k ≢ Custom name)
is_custom (Custom name) = inl (name, refl)
is_custom _ = inr (λ name e. cc)

-- any other kind is none that tells no list
tells_one : (c : Book) (k : Kind) → ((name : List ℕ) → k ≢ Custom name) → tells_none c k ≡ false
tells_one c (Custom name) other = absurd (other name refl)
tells_one c _ other = refl

-- a list that was told agrees as it stands
pub agrees_told : (o : Outlook) (items : List Item) → AgreesWith o items → Agrees o (list_of items) (end_of_items items)
agrees_told o items a = rw (a.is, list_of_told a.list a.end, standing_told a.list a.end) a.agrees

-- ---- what was sent on each wire is a list, and how it stands

module _ (g : Graph) (rank : ℕ → ℕ) (ranked : IsRanked g rank) (w : World) (items : ℕ → List Item) (from : (i : ℕ) (v : Edge) → slice_get g.wires i ≡ Some v → (n : graph.Node) × (slice_get g.nodes v.from ≡ Some n))
    (texts : (u : ℕ) (v : Edge) (n : graph.Node) (name : List ℕ) → slice_get g.wires u ≡ Some v → slice_get g.nodes v.from ≡ Some n → n.kind ≡ Lines name → GivesTexts (items u))
    (customs : (u : ℕ) (v : Edge) (n : graph.Node) (name : List ℕ) → slice_get g.wires u ≡ Some v → slice_get g.nodes v.from ≡ Some n → n.kind ≡ Custom name → IsToldList (items u))
    (gives : (sent : ℕ → Outlook) (j : ℕ) (v : Edge) (n : graph.Node) → slice_get g.wires j ≡ Some v → slice_get g.nodes v.from ≡ Some n → ((name : List ℕ) → n.kind ≢ Lines name) → tells_none w.book n.kind ≡ false
    → ((u : ℕ) (x : Edge) → slice_get g.wires u ≡ Some x → x.to ≡ v.from → AgreesWith (sent u) (items u)) → AgreesWith (next g w sent j) (items j)) where
  told_on : (j : ℕ) (v : Edge) (n : graph.Node) → slice_get g.wires j ≡ Some v → slice_get g.nodes v.from ≡ Some n → ((i : ℕ) → i < length g.wires → rank i < rank j → IsToldList (items i))
      → ((name : List ℕ) × (n.kind ≡ Lines name)) ⊎ ((name : List ℕ) → n.kind ≢ Lines name) → ((name : List ℕ) × (n.kind ≡ Custom name)) ⊎ ((name : List ℕ) → n.kind ≢ Custom name) → IsToldList (items j)
  told_on j v n at is below (inl r) c = let s = texts j v n r.0 at is r.1 in record { list = map text s.texts; end = s.end; is = s.is }
  told_on j v n at is below (inr other) (inl c) = customs j v n c.0 at is c.1
  told_on j v n at is below (inr other) (inr hired) =
      let a = gives (λ u. exact (list_of (items u)) (end_of_items (items u))) j v n at is other (tells_one w.book n.kind hired)
      (λ u x ux to. agrees_exactly (items u) (below u (slice_get-below g.wires u x ux) (ranked.rises u j x v ux at to))) in
      record { list = a.list; end = a.end; is = a.is }

  told_by : (j : ℕ) → j < length g.wires → ((i : ℕ) → i < length g.wires → rank i < rank j → IsToldList (items i)) → IsToldList (items j)
  told_by j l below =
      let v = place_of g.wires j l in
      let n = from j v.0 v.1 in
      told_on j v.0 n.0 v.1 n.1 below (is_lines n.0.kind) (is_custom n.0.kind)

  pub told_sent : (i : ℕ) (v : Edge) → slice_get g.wires i ≡ Some v → IsToldList (items i)
  told_sent i v at = all_by_rank rank (length g.wires) (λ u. IsToldList (items u)) told_by i (slice_get-below g.wires i v at)

-- how a wire stands on which these items were sent
pub record Stood (v : Edge) (c : WireCount) (items : List Item) : Type 0 where
  pub over : (end_of_items items ≡ unended → ⊥) → c.shut ≡ true
  pub asks : (s : ℕ) → v.lane ≡ Some s → c.asked ≡ false → s ≤ c.sent

-- ---- what passed

module _ (book : Book) (b : Blueprint) (stands : List SinkStand) (wires : List WireCount) (picks : List Pick) (moves : ℕ → List ℕ) (items : ℕ → List Item) (counts : (u : ℕ) (v : Edge) → slice_get (blueprint_wires b) u ≡ Some v → sent_at wires u ≡ elements (items u))
    (told_there : (i : ℕ) (v : Edge) → slice_get (blueprint_wires b) i ≡ Some v → IsToldList (items i))
    (told : World) (sends : (heads : HeadLists) (taken : List (List ℕ)) → IsFit b heads taken → KeepsPlugTypes heads book → CustomsTyped heads book b.nodes.items (blueprint_wires b) (λ u. list_of (items u)) → (i : ℕ) (v : Edge) → slice_get (blueprint_wires b) i ≡ Some v → SendsItsType heads b.chains.items b.nodes.items (graph_of b) told i v (items i))
    (gives : (w : World) → w.book ≡ book → HasPicks picks w → (sent : ℕ → Outlook) (j : ℕ) (v : Edge) (n : graph.Node) → slice_get (blueprint_wires b) j ≡ Some v → slice_get (graph_of b).nodes v.from ≡ Some n → ((name : List ℕ) → n.kind ≢ Lines name) → tells_none book n.kind ≡ false
    → ((u : ℕ) (x : Edge) → slice_get (blueprint_wires b) u ≡ Some x → x.to ≡ v.from → AgreesWith (sent u) (items u)) → AgreesWith (next (graph_of b) w sent j) (items j))
    (stood : (i : ℕ) (v : Edge) (c : WireCount) → slice_get (blueprint_wires b) i ≡ Some v → slice_get wires i ≡ Some c → Stood v c (items i))
    (lefts : (i : ℕ) (v : Edge) (c : WireCount) → slice_get (blueprint_wires b) i ≡ Some v → slice_get wires i ≡ Some c → c.shut ≡ true → end_of_items (items i) ≡ unended
    → ((n : Node) → slice_get b.nodes.items v.to ≡ Some n → tells_none book n.kind ≡ false)
    → (j : ℕ) (x : Edge) (d : WireCount) → slice_get (blueprint_wires b) j ≡ Some x → x.from ≡ v.to → slice_get wires j ≡ Some d → d.shut ≡ true)
    (sinks : (k : ℕ) (s : SinkStand) (i : ℕ) (v : Edge) (c : WireCount) → slice_get stands k ≡ Some s → slice_get (blueprint_wires b) i ≡ Some v → v.to ≡ s.0 → slice_get wires i ≡ Some c
    → ShutBy s.2 v.lane c.shut × OverBy s.2 c.shut (end_of_items (items i)))
    (lanes : (k : ℕ) (s : SinkStand) (n : Node) (i : ℕ) (v : Edge) (c : WireCount) → slice_get stands k ≡ Some s → slice_get b.nodes.items s.0 ≡ Some n → ((file : List ℕ) → n.kind ≢ Head file) → slice_get (blueprint_wires b) i ≡ Some v → v.to ≡ s.0 → slice_get wires i ≡ Some c → s.2 ≡ Ended
    → c.shut ≡ true)
    (writers : (k : ℕ) (s : SinkStand) (n : Node) (file : List ℕ) (i : ℕ) (v : Edge) (c : WireCount) → slice_get stands k ≡ Some s → slice_get b.nodes.items s.0 ≡ Some n → n.kind ≡ ToLines file
    → slice_get (blueprint_wires b) i ≡ Some v → v.to ≡ s.0 → slice_get wires i ≡ Some c → AskedBy s.2 v.lane s.1 c)
    (takers : (k : ℕ) (s : SinkStand) (n : Node) (file : List ℕ) (i : ℕ) (v : Edge) → slice_get stands k ≡ Some s → slice_get b.nodes.items s.0 ≡ Some n → output_of n.kind ≡ Some file → slice_get (blueprint_wires b) i ≡ Some v → v.to ≡ s.0
    → SinkTook (lane_loss v.keep v.lane) v.lane (list_of (items i)) (end_of_items (items i)) n.kind s)
    (ignorers : (k : ℕ) (s : SinkStand) (n : Node) (i : ℕ) (v : Edge) → slice_get stands k ≡ Some s → slice_get b.nodes.items s.0 ≡ Some n → n.kind ≡ Ignore → slice_get (blueprint_wires b) i ≡ Some v → v.to ≡ s.0
    → IgnorerTook (lane_loss v.keep v.lane) (list_of (items i)) (end_of_items (items i)) s) where
  abbrev lists : ℕ → List Tree
  lists u = list_of (items u)

  abbrev ends : ℕ → End
  ends u = end_of_items (items u)

  pub counted : (i : ℕ) (v : Edge) → slice_get (blueprint_wires b) i ≡ Some v → sent_at wires i ≡ length (lists i)
  counted i v at =
      let s = told_there i v at in
      let list : lists i ≡ s.list = ap list_of s.is ∙ list_of_told s.list s.end in
      counts i v at ∙ ap elements s.is ∙ elements_told s.list s.end ∙ ap length (sym list)

  abbrev pub carries : WiresCarry book b stands wires picks
  carries = record {
    lists = lists;
    ends = ends;
    counted = counted;
    typed = λ heads taken fit keeps passed i v at.
        let s = sends heads taken fit keeps passed i v at in
        let list : lists i ≡ s.list = ap list_of s.is ∙ list_of_told s.list s.end in
        (s.carries.type, (s.carries.settles, subst (λ l. AllTyped s.carries.type l) (sym list) s.typed));
    given = λ w same has j v n at is other tells.
        let a = gives w same has (λ u. exact (lists u) (ends u)) j v (graph_node b.wires.items n) at (mapped_at (graph_node b.wires.items) b.nodes.items v.from n is) other tells (λ u x ux to. agrees_exactly (items u) (told_there u x ux)) in
        agrees_told (next (graph_of b) w (λ u. exact (lists u) (ends u)) j) (items j) a;
    shut_is = λ i v c at is. (stood i v c at is).over;
    left_shut = lefts;
    lane_asks = λ i v c s at is. (stood i v c at is).asks s;
    sink_shut = sinks;
    lane_shut = lanes;
    sink_asked = writers;
    sink_took = takers;
    ignorer_took = ignorers;
  }
