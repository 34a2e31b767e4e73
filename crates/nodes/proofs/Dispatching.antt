-- A call of a node is the call of its kind, at its one port.
use Rattle.std.specs.Prelude.{Result, OnOk, slice_index_or}
use Rattle.std.proofs.Common.{◌≡◌, ◌⊎◌, inl, inr, ℕ, zero, suc, Bool, true, false, List, [], ◌∷◌, refl, ap}
use Rattle.elem_core.specs.declared.item.Item.{Item}
use Rattle.elem_core.specs.declared.item.Item.TheVariants as item
use Rattle.port_core.specs.declared.act.Act.{Act}
use Rattle.port_core.specs.declared.view.InView.{InView}
use Rattle.port_core.specs.declared.view.InView.TheVariants.{Cancelled}
use Rattle.port_core.specs.declared.view.OutView.{OutView}
use Rattle.port_core.specs.declared.view.OutView.TheVariants.{Unpulled, Closed}
use Rattle.port_core.specs.View.{View, IsOutOpen}
use Rattle.port_core.specs.Call.{Call, Meets, MayCome, pulls, arrives, cancels}
use Rattle.stream_model.specs.Linear.{Book}
use Rattle.stage_core.specs.Handling.{Starts, Handles}
use Rattle.stage_core.specs.Handing.{PutsOff, cancel_first}
use Rattle.stream_io.specs.State.{SourceState, DrainState}
use Rattle.nodes.specs.Entering.{Entering, EnteringFresh, EnteringPortState, EnteringLaw}
use Rattle.nodes.specs.Leaving.{Leaving, LeavingFresh, LeavingPortState, LeavingLaw}
use Rattle.nodes.specs.Ports.{OneIn, OneInOf, OneOut, OneOutOf}
use Rattle.nodes.specs.Source.{Lines, lines_port_state, lines_port_state_in, LinesLaw}
use Rattle.nodes.specs.Sink.{Sink, sink_port_state, sink_port_state_in, SinkLaw, SinkPutsOff}
use Rattle.nodes.specs.declared.node.IslandNode.{IslandNode}
use Rattle.nodes.specs.declared.node.IslandNode.TheVariants.{Reading, Making, Linear, State, Sub, FanIn, FanOut, Custom, Writing, Ignoring}
use Rattle.nodes.specs.declared.node.IslandNode.TheVariants as node
use Rattle.nodes.specs.Nodes.{node_fresh, node_port_state, node_law, node_asking, node_moves, node_gone, node_passive}
use Rattle.nodes.proofs.Acting.{on_ok_two}

-- nothing comes to a port that is not there
none_comes : (x : Item) → MayCome x Cancelled → ⊥
none_comes (item.Elem e) h = cc
none_comes item.Ended h = h
none_comes (item.Failed c) h = h

port_lists : (P : InView → Type 0) (p : ℕ) (x : Item) (xs : List InView) (ys : List OutView) → OneInOf P xs ys → MayCome x (slice_index_or xs p Cancelled) → p ≡ 0
port_lists P zero x xs ys r h = refl
port_lists P (suc p) x (y ∷ []) [] r h = absurd (none_comes x h)
port_lists P (suc p) x [] ys r h = absurd r
port_lists P (suc p) x (y ∷ []) (z ∷ ys) r h = absurd r
port_lists P (suc p) x (y ∷ w ∷ xs) ys r h = absurd r

-- what comes to a node with one input comes there
pub port_is : (P : InView → Type 0) (p : ℕ) (x : Item) → Meets (arrives p x) (λ v. OneIn P v) → p ≡ 0
port_is P p x m = port_lists P p x m.0.ins m.0.outs m.1.1 m.1.0

out_lists : (P : OutView → Type 0) (p : ℕ) (xs : List InView) (ys : List OutView) → OneOutOf P xs ys → IsOutOpen (slice_index_or ys p Closed) → p ≡ 0
out_lists P zero xs ys r h = refl
out_lists P (suc p) [] (y ∷ []) r h = absurd h
out_lists P (suc p) [] [] r h = absurd r
out_lists P (suc p) [] (y ∷ z ∷ ys) r h = absurd r
out_lists P (suc p) (x ∷ xs) ys r h = absurd r

-- where a node with one output is cancelled, that one is
out_is : (P : OutView → Type 0) (p : ℕ) → Meets (cancels p) (λ v. OneOut P v) → p ≡ 0
out_is P p m = out_lists P p m.0.ins m.0.outs m.1.1 m.1.0

asked_lists : (P : OutView → Type 0) (p : ℕ) (xs : List InView) (ys : List OutView) → OneOutOf P xs ys → slice_index_or ys p Closed ≡ Unpulled → p ≡ 0
asked_lists P zero xs ys r h = refl
asked_lists P (suc p) [] (y ∷ []) r h = cc
asked_lists P (suc p) [] [] r h = absurd r
asked_lists P (suc p) [] (y ∷ z ∷ ys) r h = absurd r
asked_lists P (suc p) (x ∷ xs) ys r h = absurd r

-- where a node with one output is asked, that one is
pub asked_is : (P : OutView → Type 0) (p : ℕ) → Meets (pulls p) (λ v. OneOut P v) → p ≡ 0
asked_is P p m = asked_lists P p m.0.ins m.0.outs m.1.1 m.1.0

module _ {S D : Type 0} (L H B : Type 0) (sources : S → SourceState) (drains : D → DrainState) (book : Book) where
  -- what a node owes at a call, and at its start
  abbrev CallOf : Call → IslandNode S D L H B → IslandNode S D L H B → List Act → Type 0
  CallOf call old new acts = Handles node_port_state (node_law sources drains book) call old new acts

  abbrev StartOf : IslandNode S D L H B → IslandNode S D L H B → List Act → Type 0
  StartOf old new acts = Starts node_port_state (node_law sources drains book) node_fresh old new acts

  -- a sink with a file
  writing_law : (first : IslandNode S D L H B) (old new : Sink D) (v w : View) (took gave more given : List (List Item)) → ((f : Sink D) → SinkLaw drains f old v took gave → SinkLaw drains f new w more given)
      → node_law sources drains book first (Writing old) v took gave → node_law sources drains book first (Writing new) w more given
  writing_law (Writing f) old new v w took gave more given keeps law = keeps f law
  writing_law (Reading f) old new v w took gave more given keeps law = absurd law
  writing_law (Making f) old new v w took gave more given keeps law = absurd law
  writing_law (Linear f) old new v w took gave more given keeps law = absurd law
  writing_law (State f) old new v w took gave more given keeps law = absurd law
  writing_law (Sub f) old new v w took gave more given keeps law = absurd law
  writing_law (FanIn f) old new v w took gave more given keeps law = absurd law
  writing_law (FanOut f) old new v w took gave more given keeps law = absurd law
  writing_law (Custom f) old new v w took gave more given keeps law = absurd law
  writing_law (Ignoring f) old new v w took gave more given keeps law = absurd law
  writing_law (node.Entering f) old new v w took gave more given keeps law = absurd law
  writing_law (node.Leaving f) old new v w took gave more given keeps law = absurd law

  writing_at : (x : Item) (old new : Sink D) (acts : List Act) → Handles sink_port_state (SinkLaw drains) (arrives 0 x) old new acts → CallOf (arrives 0 x) (Writing old) (Writing new) acts
  writing_at x old new acts h = record {
    obeys = record { allowed = h.obeys.allowed; ports = h.obeys.ports };
    stands = h.stands;
    keeps = λ first v took gave a r law. writing_law first old new v _ took gave _ _ (λ f l. h.keeps f v took gave a r l) law;
  }

  pub writing_handles : {T E : Type 0} (p : ℕ) (x : Item) (old new : Sink D) (acts : List Act) (r : Result T E) → Meets (arrives p x) (sink_port_state old) → OnOk r (Handles sink_port_state (SinkLaw drains) (arrives 0 x) old new acts)
      → OnOk r (CallOf (arrives p x) (Writing old) (Writing new) acts)
  writing_handles p x old new acts r m h = rw (port_is (sink_port_state_in old.started old.end) p x m) (on_ok_two r h h (λ a b. writing_at x old new acts a))

  -- what it does outside of its handlers
  pub writing_puts : (b : Bool) (old new : Sink D) → ((new ≡ old) × (b ≡ false)) ⊎ SinkPutsOff drains old (cancel_first b) new
      → ((◌≡◌ {A = IslandNode S D L H B} (Writing new) (Writing old)) × (b ≡ false)) ⊎ PutsOff {N = IslandNode S D L H B} node_port_state (node_law sources drains book) node_asking node_moves node_gone node_passive (Writing old) (cancel_first b) (Writing new)
  writing_puts b old new (inl e) = inl (ap {B = IslandNode S D L H B} (λ (x : Sink D). Writing x) e.0, e.1)
  writing_puts b old new (inr p) = inr (record {
    allowed = λ first v took gave r law. (writing_first first old v took gave law (λ f l. p.allowed f v took gave r l));
    port_state_holds = λ first v took gave r law. (writing_first first old v took gave law (λ f l. p.port_state_holds f v took gave r l));
    law_holds = λ first v took gave r law. writing_law first old new v _ took gave _ _ (λ f l. p.law_holds f v took gave r l) law;
    asks = λ first v u took gave r law a. writing_first first old v took gave law (λ f l. p.asks f v u took gave r l a);
    grows = p.grows;
    gone_is = refl;
    passive_is = refl;
    still = λ t. absurd (let n : false ≡ true = t in cc);
  })
    where
      -- it was handed in as a sink
      writing_first : {P : Type 0} (first : IslandNode S D L H B) (x : Sink D) (v : View) (took gave : List (List Item)) → node_law sources drains book first (Writing x) v took gave → ((f : Sink D) → SinkLaw drains f x v took gave → P) → P
      writing_first (Writing f) x v took gave law known = known f law
      writing_first (Reading f) x v took gave law known = absurd law
      writing_first (Making f) x v took gave law known = absurd law
      writing_first (Linear f) x v took gave law known = absurd law
      writing_first (State f) x v took gave law known = absurd law
      writing_first (Sub f) x v took gave law known = absurd law
      writing_first (FanIn f) x v took gave law known = absurd law
      writing_first (FanOut f) x v took gave law known = absurd law
      writing_first (Custom f) x v took gave law known = absurd law
      writing_first (Ignoring f) x v took gave law known = absurd law
      writing_first (node.Entering f) x v took gave law known = absurd law
      writing_first (node.Leaving f) x v took gave law known = absurd law

  -- a source of lines
  reading_law : (first : IslandNode S D L H B) (old new : Lines S) (v w : View) (took gave more given : List (List Item)) → ((f : Lines S) → LinesLaw sources f old v took gave → LinesLaw sources f new w more given)
      → node_law sources drains book first (Reading old) v took gave → node_law sources drains book first (Reading new) w more given
  reading_law (Reading f) old new v w took gave more given keeps law = keeps f law
  reading_law (Writing f) old new v w took gave more given keeps law = absurd law
  reading_law (Making f) old new v w took gave more given keeps law = absurd law
  reading_law (Linear f) old new v w took gave more given keeps law = absurd law
  reading_law (State f) old new v w took gave more given keeps law = absurd law
  reading_law (Sub f) old new v w took gave more given keeps law = absurd law
  reading_law (FanIn f) old new v w took gave more given keeps law = absurd law
  reading_law (FanOut f) old new v w took gave more given keeps law = absurd law
  reading_law (Custom f) old new v w took gave more given keeps law = absurd law
  reading_law (Ignoring f) old new v w took gave more given keeps law = absurd law
  reading_law (node.Entering f) old new v w took gave more given keeps law = absurd law
  reading_law (node.Leaving f) old new v w took gave more given keeps law = absurd law

  reading_at : (call : Call) (old new : Lines S) (acts : List Act) → Handles lines_port_state (LinesLaw sources) call old new acts → CallOf call (Reading old) (Reading new) acts
  reading_at call old new acts h = record {
    obeys = record { allowed = h.obeys.allowed; ports = h.obeys.ports };
    stands = h.stands;
    keeps = λ first v took gave a r law. reading_law first old new v _ took gave _ _ (λ f l. h.keeps f v took gave a r l) law;
  }

  pub reading_cancelled : {T E : Type 0} (p : ℕ) (old new : Lines S) (acts : List Act) (r : Result T E) → Meets (cancels p) (lines_port_state old) → OnOk r (Handles lines_port_state (LinesLaw sources) (cancels 0) old new acts)
      → OnOk r (CallOf (cancels p) (Reading old) (Reading new) acts)
  reading_cancelled p old new acts r m h = rw (out_is (lines_port_state_in old.phase) p m) (on_ok_two r h h (λ a b. reading_at (cancels 0) old new acts a))

  pub reading_asked : {T E : Type 0} (p : ℕ) (old new : Lines S) (acts : List Act) (r : Result T E) → Meets (pulls p) (lines_port_state old) → OnOk r (Handles lines_port_state (LinesLaw sources) (pulls 0) old new acts)
      → OnOk r (CallOf (pulls p) (Reading old) (Reading new) acts)
  reading_asked p old new acts r m h = rw (asked_is (lines_port_state_in old.phase) p m) (on_ok_two r h h (λ a b. reading_at (pulls 0) old new acts a))

  -- the stage where a lane goes out
  leaving_law : (first : IslandNode S D L H B) (old new : Leaving) (v w : View) (took gave more given : List (List Item)) → ((f : Leaving) → LeavingLaw f old v took gave → LeavingLaw f new w more given)
      → node_law sources drains book first (node.Leaving old) v took gave → node_law sources drains book first (node.Leaving new) w more given
  leaving_law (node.Leaving f) old new v w took gave more given keeps law = keeps f law
  leaving_law (node.Reading f) old new v w took gave more given keeps law = absurd law
  leaving_law (node.Making f) old new v w took gave more given keeps law = absurd law
  leaving_law (node.Linear f) old new v w took gave more given keeps law = absurd law
  leaving_law (node.State f) old new v w took gave more given keeps law = absurd law
  leaving_law (node.Sub f) old new v w took gave more given keeps law = absurd law
  leaving_law (node.FanIn f) old new v w took gave more given keeps law = absurd law
  leaving_law (node.FanOut f) old new v w took gave more given keeps law = absurd law
  leaving_law (node.Custom f) old new v w took gave more given keeps law = absurd law
  leaving_law (node.Writing f) old new v w took gave more given keeps law = absurd law
  leaving_law (node.Ignoring f) old new v w took gave more given keeps law = absurd law
  leaving_law (node.Entering f) old new v w took gave more given keeps law = absurd law

  leaving_at : (call : Call) (old new : Leaving) (acts : List Act) → Handles LeavingPortState LeavingLaw call old new acts → CallOf call (node.Leaving old) (node.Leaving new) acts
  leaving_at call old new acts h = record {
    obeys = record { allowed = h.obeys.allowed; ports = h.obeys.ports };
    stands = h.stands;
    keeps = λ first v took gave a r law. leaving_law first old new v _ took gave _ _ (λ f l. h.keeps f v took gave a r l) law;
  }

  pub leaving_handles : {T E : Type 0} (call : Call) (old new : Leaving) (acts : List Act) (r : Result T E) → OnOk r (Handles LeavingPortState LeavingLaw call old new acts)
      → OnOk r (CallOf call (node.Leaving old) (node.Leaving new) acts)
  leaving_handles call old new acts r h = on_ok_two r h h (λ a b. leaving_at call old new acts a)

  leaving_begins : (old new : Leaving) (acts : List Act) → Starts LeavingPortState LeavingLaw LeavingFresh old new acts → StartOf (node.Leaving old) (node.Leaving new) acts
  leaving_begins old new acts h = record { obeys = record { allowed = h.obeys.allowed; ports = h.obeys.ports }; stands = h.stands; begins = h.begins }

  pub leaving_starts : {T E : Type 0} (old new : Leaving) (acts : List Act) (r : Result T E) → OnOk r (Starts LeavingPortState LeavingLaw LeavingFresh old new acts)
      → OnOk r (StartOf (node.Leaving old) (node.Leaving new) acts)
  leaving_starts old new acts r h = on_ok_two r h h (λ a b. leaving_begins old new acts a)

  -- the stage where a lane comes in
  entering_begins : (old new : Entering) (acts : List Act) → Starts EnteringPortState EnteringLaw EnteringFresh old new acts → StartOf (node.Entering old) (node.Entering new) acts
  entering_begins old new acts h = record { obeys = record { allowed = h.obeys.allowed; ports = h.obeys.ports }; stands = h.stands; begins = h.begins }

  pub entering_starts : {T E : Type 0} (old new : Entering) (acts : List Act) (r : Result T E) → OnOk r (Starts EnteringPortState EnteringLaw EnteringFresh old new acts)
      → OnOk r (StartOf (node.Entering old) (node.Entering new) acts)
  entering_starts old new acts r h = on_ok_two r h h (λ a b. entering_begins old new acts a)
