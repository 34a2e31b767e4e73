-- From what is told of a call to what the files of its sinks hold.
use Rattle.std.proofs.Common.{◌≡◌, ◌≢◌, ℕ, zero, suc, ◌+◌, Bool, true, false, List, [], ◌∷◌, ◌⊎◌, inl, inr, refl, sym, ap, ◌∙◌, subst, arith, length, slice_get}
use Rattle.std.specs.Prelude.{IsTrue, Option, None, Some, ◌||◌, ◌&&◌, if◌then◌else◌}
use Rattle.std.proofs.lemmas.List.{length-map}
use Rattle.elem_core.specs.Text.{text_lines}
use Rattle.elem_core.specs.Tree.{Tree}
use Rattle.elem_core.specs.declared.why.Cause.{Cause}
use Rattle.stream_model.specs.declared.blueprint.Blueprint.{Blueprint}
use Rattle.stream_model.specs.declared.blueprint.Node.{Node}
use Rattle.stream_model.specs.declared.kind.Kind.{Kind}
use Rattle.stream_model.specs.declared.kind.Kind.TheVariants.{ToLines, Head, Last}
use Rattle.stream_model.specs.Known.{HeadLists}
use Rattle.stream_model.specs.declared.outcome.EndState.{EndState}
use Rattle.stream_model.specs.declared.outcome.EndState.TheVariants as state
use Rattle.stream_model.specs.Composed.{sink_outlook, IsRanked}
use Rattle.stream_model.specs.Listed.{HasLists}
use Rattle.stream_model.specs.Exact.{LosesNothing, ReachesLast}
use Rattle.stream_model.specs.Graph.{Graph}
use Rattle.stream_model.specs.Graph as graph
use Rattle.stream_model.specs.Linear.{Book, Keeping, every_one, first_one, last_one, sinks, role_of}
use Rattle.stream_model.specs.Node.{World}
use Rattle.stream_model.specs.Outlook.{Outlook, Entry, Agrees, Allows, failed}
use Rattle.stream_model.specs.Blame.{HasCause, GivenLeads, EndsSink}
use Rattle.stream_model.specs.OneWay as oneway
use Rattle.stream_io.specs.State.{FolderState}
use Rattle.blue_check.specs.Fitness.{IsFit}
use Rattle.blue_names.specs.Picks.{picks, needs_picks}
use Rattle.blue_modules.specs.Plain.{PlainBlueprint}
use Rattle.blue_modules.specs.Flatten.{flat}
use Rattle.blue_lang.specs.Texts as language
use Rattle.blue_lang.proofs.Texts.{one_text}
use Rattle.materializer.specs.Files.{output_of, is_sink}
use Rattle.materializer.specs.Graphs.{graph_of, graph_node}
use Rattle.interpreter.specs.Picks.{Pick}
use Rattle.run_laws.specs.Sinks.{SinkTells}
use Rattle.run_blueprint.specs.Choosing.{pick_places, picked}
use Rattle.run_blueprint.specs.Drawing.{IsWorldOf}
use Rattle.run_blueprint.specs.Stands.{SinkStand, sink_places}
use Rattle.run_blueprint.proofs.Places.{mapped_at, unmapped_at}
use Rattle.run_report.specs.Answer.{Answer}
use Rattle.run_report.specs.declared.outcome.SinkEnd.{SinkEnd}
use Rattle.run_report.specs.declared.outcome.Status.{Status}
use Rattle.run_report.specs.declared.outcome.Status.TheVariants as status
use Rattle.stream_command.specs.AfterRun.{told_end, told_ends, is_ended, all_ended}
use Rattle.stream_command.specs.Asked.{Plugged, AskedRun}
use Rattle.stream_command.specs.Headline.{HoldsWhole, HoldsBetween, RanOver, WholeFiles, AnswersSink, EndedFiles, ReplayedFiles, FailedWhole, FailuresLead}
use Rattle.stream_command.specs.Outcome.{SaysFile, SaysFit, taken_files, Blank, RanTo, LacksInput, LacksOutput, EndedBefore, EndedReplay, EndedRun, EndedChecked, FollowsFile, Told}

some_one : {A : Type 0} {a b : A} → Some a ≡ Some b → a ≡ b
some_one e = cc

-- ---- the sinks of a blueprint stand in order of nodes

file_sink : (k : Kind) (file : List ℕ) → output_of k ≡ Some file → oneway.is_sink k ≡ true
file_sink (ToLines f) file e = refl
file_sink (Head f) file e = refl
file_sink (Last f) file e = refl
file_sink _ file e = absurd cc

place_here : (b : Bool) (k : ℕ) (ms : List ℕ) → b ≡ true → (i : ℕ) × (slice_get (if b then k ∷ ms else ms) i ≡ Some k)
place_here true k ms e = (0, refl)
place_here false k ms e = absurd cc

place_later : (b : Bool) (k m : ℕ) (ms : List ℕ) (j : ℕ) → slice_get ms j ≡ Some m → (i : ℕ) × (slice_get (if b then k ∷ ms else ms) i ≡ Some m)
place_later true k m ms j e = (suc j, e)
place_later false k m ms j e = (j, e)

sink_placed : (k j : ℕ) (ns : List Node) (n : Node) → slice_get ns j ≡ Some n → is_sink n ≡ true → (i : ℕ) × (slice_get (sink_places k ns) i ≡ Some (k + j))
sink_placed k j [] n at is = absurd cc
sink_placed k zero (x ∷ xs) n at is =
    let same : x ≡ n = cc in
    let there = place_here (is_sink x) k (sink_places (k + 1) xs) (ap is_sink same ∙ is) in
    let number : k ≡ k + zero = omega arith in
    (there.0, there.1 ∙ ap Some number)
sink_placed k (suc j) (x ∷ xs) n at is =
    let later = sink_placed (k + 1) j xs n at is in
    let there = place_later (is_sink x) k (k + 1 + j) (sink_places (k + 1) xs) later.0 later.1 in
    let number : k + 1 + j ≡ k + suc j = omega arith in
    (there.0, there.1 ∙ ap Some number)

-- ---- a sink that ended, and one that failed

ended_only : (e : EndState) → is_ended e ≡ true → e ≡ state.Ended
ended_only state.Ended h = refl
ended_only (state.Failed c) h = absurd cc
ended_only state.Unended h = absurd cc
ended_only state.WriteFault h = absurd cc

and_left : (a b : Bool) → a && b ≡ true → a ≡ true
and_left true b e = refl
and_left false b e = absurd cc

and_right : (a b : Bool) → a && b ≡ true → b ≡ true
and_right true b e = e
and_right false b e = absurd cc

ended_at : (nodes : List Node) (stands : List SinkStand) (i : ℕ) (s : SinkStand) → all_ended (told_ends nodes stands) ≡ true → slice_get stands i ≡ Some s → s.2 ≡ state.Ended
ended_at nodes [] i s all at = absurd cc
ended_at nodes (x ∷ xs) zero s all at =
    let same : x ≡ s = cc in
    ap (λ (t : SinkStand). t.2) (sym same) ∙ ended_only x.2 (and_left (is_ended x.2) (all_ended (told_ends nodes xs)) all)
ended_at nodes (x ∷ xs) (suc i) s all at = ended_at nodes xs i s (and_right (is_ended x.2) (all_ended (told_ends nodes xs)) all) at

whole_text : (new : FolderState) (file held : List ℕ) (o : Outlook) (e : EndState) → e ≡ state.Ended → new.file file ≡ Some held → SinkTells o e held → HoldsWhole new file o
whole_text new file held o state.Ended e there t = record { ends = t.agrees.0; text = there ∙ ap Some (t.is ∙ ap text_lines t.agrees.1) }
whole_text new file held o (state.Failed c) e there t = absurd cc
whole_text new file held o state.Unended e there t = absurd cc
whole_text new file held o state.WriteFault e there t = absurd cc

between_text : (new : FolderState) (file held : List ℕ) (o : Outlook) (e : EndState) (cause : Cause) → e ≡ state.Failed cause → new.file file ≡ Some held → SinkTells o e held → HoldsBetween new file o cause
between_text new file held o (state.Failed c) cause e there t =
    let same : c ≡ cause = cc in
    record { list = t.list; text = there ∙ ap Some t.is; most = t.agrees.0; least = subst (λ (x : Cause). Allows o.fails x (length t.list)) same t.agrees.1 }
between_text new file held o state.Ended cause e there t = absurd cc
between_text new file held o state.Unended cause e there t = absurd cc
between_text new file held o state.WriteFault cause e there t = absurd cc

-- ---- no kind chooses, and no move is answered

or_left : (a b : Bool) → a || b ≡ false → a ≡ false
or_left true b e = absurd cc
or_left false b e = refl

or_right : (a b : Bool) → a || b ≡ false → b ≡ false
or_right true b e = absurd cc
or_right false b e = e

none_here : (b : Bool) (k : ℕ) (ms : List ℕ) → b ≡ false → ms ≡ [] → (if b then k ∷ ms else ms) ≡ []
none_here true k ms e h = absurd cc
none_here false k ms e h = h

no_places : (k : ℕ) (ns : List Node) → needs_picks ns ≡ false → pick_places k ns ≡ []
no_places k [] e = refl
no_places k (n ∷ ns) e = none_here (picks n.kind) k (pick_places (k + 1) ns) (or_left (picks n.kind) (needs_picks ns) e) (no_places (k + 1) ns (or_right (picks n.kind) (needs_picks ns) e))

nothing_picked : (ps : List Pick) → picked ps ≡ [] → ps ≡ []
nothing_picked [] e = refl
nothing_picked (p ∷ ps) e = absurd cc

-- ---- what a run leaves

module _ (p : Plugged) (a : Answer) (c : AskedRun) (old new : FolderState) (tells : IsTrue new.tells) (b : Blueprint) (said : SaysFit p old c.file c.trace c.replay b) (plans : List (Option (List ℕ))) (follows : FollowsFile old c.replay b.nodes.items plans) (ran : RanTo p old new b plans c.trace c.turns a) where
  over : RanOver p c old new b ran.leaves.drawn
  over = record { said = said; plans = plans; follows = follows; read = ran.leaves.read; fits = ran.leaves.fits; blames = ran.leaves.blames; world = ran.leaves.world; is_one = ran.leaves.has_files }

  -- a node at a place among the sinks stands there
  stand_at : (i k : ℕ) → slice_get (sink_places 0 b.nodes.items) i ≡ Some k → (s : SinkStand) × ((slice_get ran.stands i ≡ Some s) × (k ≡ s.0))
  stand_at i k e = unmapped_at (λ (s : SinkStand). s.0) ran.stands i k (ap (λ (l : List ℕ). slice_get l i) ran.stands_are ∙ e)

  -- and what is told of it is of the outlook of that node
  held_at : (w : World) (i k : ℕ) (n : Node) (file : List ℕ) (s : SinkStand) → IsWorldOf p.book b.nodes.items ran.leaves.drawn w → slice_get ran.stands i ≡ Some s → k ≡ s.0 → slice_get b.nodes.items k ≡ Some n → output_of n.kind ≡ Some file
      → (held : List ℕ) × ((new.file file ≡ Some held) × SinkTells (sink_outlook (graph_of b) w k (graph_node b.wires.items n)) s.2 held)
  held_at w i k n file s is at same here shape =
      let l = ran.leaves.sink i s n file at (subst (λ (m : ℕ). slice_get b.nodes.items m ≡ Some n) same here) shape in
      (l.held, (l.there tells, subst (λ (m : ℕ). SinkTells (sink_outlook (graph_of b) w m (graph_node b.wires.items n)) s.2 l.held) (sym same) (l.tells w is)))

  whole_at : all_ended a.sinks ≡ true → (w : World) (k : ℕ) (n : Node) (file : List ℕ) → IsWorldOf p.book b.nodes.items ran.leaves.drawn w → slice_get b.nodes.items k ≡ Some n → output_of n.kind ≡ Some file
      → HoldsWhole new file (sink_outlook (graph_of b) w k (graph_node b.wires.items n))
  whole_at all w k n file is here shape =
      let place = sink_placed 0 k b.nodes.items n here (file_sink n.kind file shape) in
      let number : 0 + k ≡ k = omega arith in
      let stand = stand_at place.0 k (place.1 ∙ ap Some number) in
      let held = held_at w place.0 k n file stand.0 is stand.1.0 stand.1.1 here shape in
      whole_text new file held.0 (sink_outlook (graph_of b) w k (graph_node b.wires.items n)) stand.0.2 (ended_at b.nodes.items ran.stands place.0 stand.0 (ap all_ended (sym ran.sinks) ∙ all) stand.1.0) held.1.0 held.1.1

  whole_files : (moves : List Pick) → a.picks ≡ moves → all_ended a.sinks ≡ true → WholeFiles p moves c old new
  whole_files moves same all = record { blueprint = b; drawn = ran.leaves.drawn; by_moves = ran.leaves.chose ∙ same; ran = over; whole = whole_at all }

  no_moves : needs_picks b.nodes.items ≡ false → a.picks ≡ []
  no_moves none = nothing_picked a.picks (ran.picks_are ∙ no_places 0 b.nodes.items none)

  -- a sink stands as it is answered
  stands_so : (k : ℕ) (n : Node) (file : List ℕ) (end : EndState) (x : AnswersSink a b k n file end) (s : SinkStand) → slice_get ran.stands x.place ≡ Some s → s.2 ≡ end
  stands_so k n file end x s at =
      let told : Some (told_end b.nodes.items s) ≡ Some x.told = sym (mapped_at (told_end b.nodes.items) ran.stands x.place s at) ∙ ap (λ (l : List SinkEnd). slice_get l x.place) (sym ran.sinks) ∙ x.answered in
      ap (λ (e : SinkEnd). e.end) (some_one told) ∙ x.stands

  ended_files : EndedFiles p a c old new
  ended_files = record {
    blueprint = b;
    drawn = ran.leaves.drawn;
    by_moves = ran.leaves.chose;
    ran = over;
    every = ap length ran.sinks ∙ length-map ran.stands (told_end b.nodes.items) ∙ sym (length-map ran.stands (λ (s : SinkStand). s.0)) ∙ ap length ran.stands_are;
    ended = λ w k n file is x.
        let stand = stand_at x.place k x.sink in
        let held = held_at w x.place k n file stand.0 is stand.1.0 stand.1.1 x.node x.writes in
        whole_text new file held.0 (sink_outlook (graph_of b) w k (graph_node b.wires.items n)) stand.0.2 (stands_so k n file state.Ended x stand.0 stand.1.0) held.1.0 held.1.1;
    failed = λ w k n file cause is x.
        let stand = stand_at x.place k x.sink in
        let held = held_at w x.place k n file stand.0 is stand.1.0 stand.1.1 x.node x.writes in
        between_text new file held.0 (sink_outlook (graph_of b) w k (graph_node b.wires.items n)) stand.0.2 cause (stands_so k n file (state.Failed cause) x stand.0 stand.1.0) held.1.0 held.1.1;
  }

  replayed_files : ReplayedFiles p a c old new
  unfolding over
  replayed_files = record {
    blueprint = b;
    drawn = ran.leaves.drawn;
    by_moves = ran.leaves.chose;
    ran = over;
    made = ran.leaves.made;
    ended = λ w k n file is fit serves x.
        let stand = stand_at x.place k x.sink in
        let held = (ran.leaves.served w is fit serves).sink x.place stand.0 n file stand.1.0 (subst (λ (m : ℕ). slice_get b.nodes.items m ≡ Some n) stand.1.1 x.node) x.writes in
        whole_text new file held.0 (sink_outlook (graph_of b) w k (graph_node b.wires.items n)) stand.0.2 (stands_so k n file state.Ended x stand.0 stand.1.0) (held.1.0 tells)
        (subst (λ (m : ℕ). SinkTells (sink_outlook (graph_of b) w m (graph_node b.wires.items n)) stand.0.2 held.0) (sym stand.1.1) held.1.1);
  }

-- a call that ran a blueprint, by these moves
record WasRun (p : Plugged) (a : Answer) (c : AskedRun) (old new : FolderState) : Type 0 where
  blueprint : Blueprint
  said : SaysFit p old c.file c.trace c.replay blueprint
  plans : List (Option (List ℕ))
  follows : FollowsFile old c.replay blueprint.nodes.items plans
  ran : RanTo p old new blueprint plans c.trace c.turns a

-- ---- what a call is told to have left

-- the same nodes, where both are said by one file
same_nodes : (folder : FolderState) (file : List ℕ) (b d : Blueprint) → SaysFile folder file b → SaysFile folder file d → b.nodes.items ≡ d.nodes.items
same_nodes folder file b d x y =
    let whole : x.says.whole ≡ y.says.whole = some_one (sym x.says.there ∙ y.says.there) in
    let text : x.text ≡ y.text = one_text y.says.whole x.text y.text (subst (λ (t : List ℕ). language.Says t x.text) whole x.says.says) y.says.says in
    ap (λ (q : PlainBlueprint). q.nodes) (x.flat.is ∙ (ap flat text ∙ sym y.flat.is))

abbrev TellsAs : Status → Plugged → Answer → AskedRun → FolderState → FolderState → Type 0
TellsAs s p a c old new = EndedBefore p s a c.file c.trace c.replay old new ⊎ ((b : Blueprint) × (SaysFit p old c.file c.trace c.replay b × EndedChecked p s a b c.trace c.replay c.turns old new))

-- a call that ended as the moves were read ran nothing
replay_blank : (s : Status) (a : Answer) (nodes : List Node) (replay : Option (List ℕ)) (old new : FolderState) → EndedReplay s a nodes replay old new → Blank a
replay_blank (status.Missing n) a nodes (Some f) old new h = h.0.blank
replay_blank (status.Missing n) a nodes None old new h = absurd h
replay_blank status.ReadFault a nodes (Some f) old new h = h.0.blank
replay_blank status.ReadFault a nodes None old new h = absurd h
replay_blank (status.BadTrace line) a nodes (Some f) old new h = h.0.blank
replay_blank (status.BadTrace line) a nodes None old new h = absurd h
replay_blank status.NoMemory a nodes replay old new h = h.blank
replay_blank status.Done a nodes replay old new h = absurd h
replay_blank status.StreamFailed a nodes replay old new h = absurd h
replay_blank status.Stalled a nodes replay old new h = absurd h
replay_blank status.OutOfTurns a nodes replay old new h = absurd h
replay_blank (status.Misfit stage place) a nodes replay old new h = absurd h
replay_blank status.WriteFault a nodes replay old new h = absurd h
replay_blank status.Usage a nodes replay old new h = absurd h
replay_blank (status.Refused f) a nodes replay old new h = absurd h
replay_blank (status.Unfit f) a nodes replay old new h = absurd h

module _ (p : Plugged) (a : Answer) (c : AskedRun) (old new : FolderState) where
  done_told : Told p a c old new → a.status ≡ status.Done → TellsAs status.Done p a c old new
  done_told told e = subst (λ (s : Status). TellsAs s p a c old new) e told

  whole_checked : IsTrue new.tells → (b : Blueprint) → SaysFit p old c.file c.trace c.replay b → EndedChecked p status.Done a b c.trace c.replay c.turns old new → WholeFiles p a.picks c old new
  whole_checked tells b said (inl h) = absurd h
  whole_checked tells b said (inr h) = whole_files p a c old new tells b said h.0 h.1.0 h.1.1.0 a.picks refl h.1.1.2

  whole_by : IsTrue new.tells → TellsAs status.Done p a c old new → WholeFiles p a.picks c old new
  whole_by tells (inl h) = absurd h
  whole_by tells (inr h) = whole_checked tells h.0 h.1.0 h.1.1

  unchosen_checked : IsTrue new.tells → (b : Blueprint) → SaysFit p old c.file c.trace c.replay b → needs_picks b.nodes.items ≡ false → EndedChecked p status.Done a b c.trace c.replay c.turns old new → WholeFiles p [] c old new
  unchosen_checked tells b said none (inl h) = absurd h
  unchosen_checked tells b said none (inr h) = whole_files p a c old new tells b said h.0 h.1.0 h.1.1.0 [] (no_moves p a c old new tells b said h.0 h.1.0 h.1.1.0 none) h.1.1.2

  unchosen_by : (b : Blueprint) → IsTrue new.tells → SaysFile old c.file b → needs_picks b.nodes.items ≡ false → TellsAs status.Done p a c old new → WholeFiles p [] c old new
  unchosen_by b tells says none (inl h) = absurd h
  unchosen_by b tells says none (inr h) =
      let here : needs_picks h.0.nodes.items ≡ false = ap needs_picks (same_nodes old c.file h.0 b h.1.0.says says) ∙ none in
      unchosen_checked tells h.0 h.1.0 here h.1.1

  -- where some sink is answered the blueprint was run
  module _ (some : a.sinks ≢ []) where
    not_opened : (b : Blueprint) (n : List ℕ) → LacksInput old new b n a ⊎ LacksOutput old new b c.trace n a → ⊥
    not_opened b n (inl l) = some l.nothing.blank.no_sinks
    not_opened b n (inr l) = some l.blank.no_sinks

    module _ (b : Blueprint) (said : SaysFit p old c.file c.trace c.replay b) where
      ended_run : (s : Status) (plans : List (Option (List ℕ))) → FollowsFile old c.replay b.nodes.items plans → EndedRun p s a b plans c.trace c.turns old new → WasRun p a c old new
      ended_run status.Done plans follows h = record { blueprint = b; said = said; plans = plans; follows = follows; ran = h.0 }
      ended_run status.StreamFailed plans follows h = record { blueprint = b; said = said; plans = plans; follows = follows; ran = h.0 }
      ended_run status.Stalled plans follows h = record { blueprint = b; said = said; plans = plans; follows = follows; ran = h.0 }
      ended_run status.OutOfTurns plans follows h = record { blueprint = b; said = said; plans = plans; follows = follows; ran = h.0 }
      ended_run (status.Misfit stage place) plans follows h = record { blueprint = b; said = said; plans = plans; follows = follows; ran = h.0 }
      ended_run status.WriteFault plans follows h = record { blueprint = b; said = said; plans = plans; follows = follows; ran = h.0 }
      ended_run (status.Missing n) plans follows h = absurd (not_opened b n h)
      ended_run status.NoMemory plans follows h = absurd (some h.0.no_sinks)
      ended_run (status.BadTrace line) plans follows h = absurd h
      ended_run status.Usage plans follows h = absurd h
      ended_run status.ReadFault plans follows h = absurd h
      ended_run (status.Refused f) plans follows h = absurd h
      ended_run (status.Unfit f) plans follows h = absurd h

      ended_checked : (s : Status) → EndedChecked p s a b c.trace c.replay c.turns old new → WasRun p a c old new
      ended_checked s (inl h) = absurd (some (replay_blank s a b.nodes.items c.replay old new h).no_sinks)
      ended_checked s (inr h) = ended_run s h.0 h.1.0 h.1.1

    ended_by : (s : Status) → TellsAs s p a c old new → WasRun p a c old new
    ended_by s (inr h) = ended_checked h.0 h.1.0 s h.1.1
    ended_by status.ReadFault (inl h) = absurd (some h.0.blank.no_sinks)
    ended_by (status.Refused f) (inl h) = absurd (some h.0.blank.no_sinks)
    ended_by (status.Unfit f) (inl h) = absurd (some h.0.blank.no_sinks)
    ended_by (status.Missing n) (inl h) = absurd (some h.0.blank.no_sinks)
    ended_by status.NoMemory (inl h) = absurd (some h.blank.no_sinks)
    ended_by status.Done (inl h) = absurd h
    ended_by status.StreamFailed (inl h) = absurd h
    ended_by status.Stalled (inl h) = absurd h
    ended_by status.OutOfTurns (inl h) = absurd h
    ended_by status.WriteFault (inl h) = absurd h
    ended_by (status.BadTrace line) (inl h) = absurd h
    ended_by (status.Misfit stage place) (inl h) = absurd h
    ended_by status.Usage (inl h) = absurd h

pub done_whole : (p : Plugged) (a : Answer) (c : AskedRun) (old new : FolderState) → Told p a c old new → a.status ≡ status.Done → IsTrue new.tells → WholeFiles p a.picks c old new
done_whole p a c old new told e tells = whole_by p a c old new tells (done_told p a c old new told e)

pub unchosen_whole : (p : Plugged) (a : Answer) (c : AskedRun) (old new : FolderState) (b : Blueprint) → Told p a c old new → a.status ≡ status.Done → IsTrue new.tells → SaysFile old c.file b → needs_picks b.nodes.items ≡ false → WholeFiles p [] c old new
unchosen_whole p a c old new b told e tells says none = unchosen_by p a c old new b tells says none (done_told p a c old new told e)

pub ends_tell : (p : Plugged) (a : Answer) (c : AskedRun) (old new : FolderState) → Told p a c old new → IsTrue new.tells → a.sinks ≢ [] → EndedFiles p a c old new
ends_tell p a c old new told tells some =
    let r = ended_by p a c old new some a.status told in
    ended_files p a c old new tells r.blueprint r.said r.plans r.follows r.ran

pub replays_tell : (p : Plugged) (a : Answer) (c : AskedRun) (old new : FolderState) → Told p a c old new → IsTrue new.tells → a.sinks ≢ [] → ReplayedFiles p a c old new
replays_tell p a c old new told tells some =
    let r = ended_by p a c old new some a.status told in
    replayed_files p a c old new tells r.blueprint r.said r.plans r.follows r.ran

-- ---- a failure that reaches a sink behind all that passes

file_role : (k : Kind) (file : List ℕ) → output_of k ≡ Some file → (to : Option (List ℕ)) × ((keeps : Keeping) × (role_of k ≡ sinks to keeps))
file_role (ToLines f) file e = (Some f, (every_one, refl))
file_role (Head f) file e = (Some f, (first_one, refl))
file_role (Last f) file e = (Some f, (last_one, refl))
file_role _ file e = absurd cc

module _ (ranked : (b : Blueprint) (heads : HeadLists) (taken : List (List ℕ)) → IsFit b heads taken → (rank : ℕ → ℕ) × IsRanked (graph_of b) rank)
    (found : (c : Cause) (o : Outlook) (l : List Tree) → LosesNothing c o → Agrees o l (failed c) → l ≡ o.list)
    (reaches : (g : Graph) (w : World) (c : Cause) (rank : ℕ → ℕ) → IsRanked g rank → (k : ℕ) (n : graph.Node) (file : Option (List ℕ)) (keeps : Keeping) → role_of n.kind ≡ sinks file keeps
    → HasLists g w.book k → ReachesLast g c k n → LosesNothing c (sink_outlook g w k n)) where
  whole_between : (new : FolderState) (file : List ℕ) (o : Outlook) (cause : Cause) → LosesNothing cause o → HoldsBetween new file o cause → new.file file ≡ Some (text_lines o.list)
  whole_between new file o cause last holds = holds.text ∙ ap (λ (l : List Tree). Some (text_lines l)) (found cause o holds.list last (holds.most, holds.least))

  pub failed_whole : (p : Plugged) (a : Answer) (c : AskedRun) (old new : FolderState) → Told p a c old new → IsTrue new.tells → a.sinks ≢ [] → FailedWhole p a c old new
  failed_whole p a c old new told tells some =
      let e = ends_tell p a c old new told tells some in
      let rank = ranked e.blueprint p.heads (taken_files c.file c.trace c.replay) e.ran.said.fit in
      record {
        blueprint = e.blueprint;
        drawn = e.drawn;
        by_moves = e.by_moves;
        ran = e.ran;
        every = e.every;
        whole = λ w k n file cause is x lists last.
            let role = file_role n.kind file x.writes in
            whole_between new file (sink_outlook (graph_of e.blueprint) w k (graph_node e.blueprint.wires.items n)) cause
            (reaches (graph_of e.blueprint) w cause rank.0 rank.1 k (graph_node e.blueprint.wires.items n) role.0 role.1.0 role.1.1 (subst (λ (b : Book). HasLists (graph_of e.blueprint) b k) (sym is.book_is) lists) last) (e.failed w k n file cause is x);
      }

-- ---- the node that a failure blames

has_cause : (c : Cause) (es : List Entry) (n : ℕ) → Allows es c n → HasCause c es
has_cause c [] n h = absurd h
has_cause c (e ∷ es) n (inl h) = inl h.0
has_cause c (e ∷ es) n (inr h) = inr (has_cause c es n h)

module _ (ranked : (b : Blueprint) (heads : HeadLists) (taken : List (List ℕ)) → IsFit b heads taken → (rank : ℕ → ℕ) × IsRanked (graph_of b) rank)
    (lead : (g : Graph) (w : World) (rank : ℕ → ℕ) → IsRanked g rank → GivenLeads g w → (k : ℕ) (n : graph.Node) (c : Cause) → HasCause c (sink_outlook g w k n).fails → EndsSink g w k n c) where
  pub failures_lead : (p : Plugged) (a : Answer) (c : AskedRun) (old new : FolderState) → Told p a c old new → IsTrue new.tells → a.sinks ≢ [] → FailuresLead p a c old new
  failures_lead p a c old new told tells some =
      let e = ends_tell p a c old new told tells some in
      let rank = ranked e.blueprint p.heads (taken_files c.file c.trace c.replay) e.ran.said.fit in
      record {
        blueprint = e.blueprint;
        drawn = e.drawn;
        by_moves = e.by_moves;
        ran = e.ran;
        every = e.every;
        leads = λ w k n file cause is x.
            let m = graph_node e.blueprint.wires.items n in
            let holds = e.failed w k n file cause is x in
            lead (graph_of e.blueprint) w rank.0 rank.1 (e.ran.blames w is) k m cause (has_cause cause (sink_outlook (graph_of e.blueprint) w k m).fails (length holds.list) holds.least);
      }

-- ---- whatever custom stages gave

module _ (ranked : (b : Blueprint) (heads : HeadLists) (taken : List (List ℕ)) → IsFit b heads taken → (rank : ℕ → ℕ) × IsRanked (graph_of b) rank)
    (apart : (g : Graph) (w : World) (x : ℕ → ℕ → Outlook) (rank : ℕ → ℕ) → IsRanked g rank → (k : ℕ) (n : graph.Node) → HasLists g w.book k → sink_outlook g (record w { given = x }) k n ≡ sink_outlook g w k n)
    (p : Plugged) (a : Answer) (c : AskedRun) (old new : FolderState) (e : EndedFiles p a c old new) (w : World) (x : ℕ → ℕ → Outlook) (k : ℕ) (n : Node) (is : IsWorldOf p.book e.blueprint.nodes.items e.drawn w) (lists : HasLists (graph_of e.blueprint) p.book k) where
  outlook_apart : sink_outlook (graph_of e.blueprint) (record w { given = x }) k (graph_node e.blueprint.wires.items n) ≡ sink_outlook (graph_of e.blueprint) w k (graph_node e.blueprint.wires.items n)
  outlook_apart =
      let rank = ranked e.blueprint p.heads (taken_files c.file c.trace c.replay) e.ran.said.fit in
      apart (graph_of e.blueprint) w x rank.0 rank.1 k (graph_node e.blueprint.wires.items n) (subst (λ (b : Book). HasLists (graph_of e.blueprint) b k) (sym is.book_is) lists)

  pub ended_apart : (file : List ℕ) → HoldsWhole new file (sink_outlook (graph_of e.blueprint) w k (graph_node e.blueprint.wires.items n))
      → HoldsWhole new file (sink_outlook (graph_of e.blueprint) (record w { given = x }) k (graph_node e.blueprint.wires.items n))
  ended_apart file h = subst (λ (o : Outlook). HoldsWhole new file o) (sym outlook_apart) h

  pub failed_apart : (file : List ℕ) (cause : Cause) → HoldsBetween new file (sink_outlook (graph_of e.blueprint) w k (graph_node e.blueprint.wires.items n)) cause
      → HoldsBetween new file (sink_outlook (graph_of e.blueprint) (record w { given = x }) k (graph_node e.blueprint.wires.items n)) cause
  failed_apart file cause h = subst (λ (o : Outlook). HoldsBetween new file o cause) (sym outlook_apart) h
