-- Two calls that ran what one text says over the same bytes, by the same moves or the second by those of the first: each sink that ended in
-- both wrote the same.
use Rattle.std.proofs.Common.{◌≡◌, ℕ, Bool, true, false, List, [], ◌∷◌, map, refl, sym, ap, ◌∙◌, subst, slice_get}
use Rattle.std.specs.Prelude.{IsTrue, Option, None, Some}
use Rattle.elem_core.specs.Text.{text_lines}
use Rattle.stream_io.specs.Counts.{Rose}
use Rattle.stream_io.specs.State.{FolderState}
use Rattle.stream_model.specs.declared.blueprint.Blueprint.{Blueprint}
use Rattle.stream_model.specs.declared.blueprint.ChainDecl.{ChainDecl}
use Rattle.stream_model.specs.declared.blueprint.Node.{Node}
use Rattle.stream_model.specs.declared.blueprint.WireDecl.{WireDecl}
use Rattle.stream_model.specs.declared.kind.Kind.TheVariants.{Lines}
use Rattle.stream_model.specs.declared.outcome.EndState.TheVariants as state
use Rattle.stream_model.specs.Composed.{sink_outlook, IsRanked}
use Rattle.stream_model.specs.Known.{HeadLists}
use Rattle.stream_model.specs.Linear.{Book}
use Rattle.stream_model.specs.Listed.{HasLists}
use Rattle.stream_model.specs.Graph.{Graph}
use Rattle.stream_model.specs.Graph as graph
use Rattle.stream_model.specs.Node.{World}
use Rattle.stream_model.specs.Outlook.{Outlook}
use Rattle.stream_model.specs.Sources.{File}
use Rattle.line_chain.specs.Line.{model_step}
use Rattle.blue_lang.specs.Texts as language
use Rattle.blue_lang.proofs.Texts.{one_text}
use Rattle.blue_modules.specs.Flatten.{flat}
use Rattle.blue_modules.specs.Plain.{PlainBlueprint, PlainChain, plain, plain_chain}
use Rattle.blue_modules.specs.Text.{PlainText}
use Rattle.blue_check.specs.Fitness.{IsFit}
use Rattle.blue_names.specs.RuleLinks.{wires_of}
use Rattle.materializer.specs.Graphs.{graph_node, graph_chain, graph_of}
use Rattle.plan_laws.specs.Unread.{AlikeFiles, AlikeSources, with_files}
use Rattle.plan_laws.proofs.Unread.{sinks_same}
use Rattle.materializer.specs.Choosers.{plan_at}
use Rattle.interpreter.specs.Picks.{Pick}
use Rattle.run_blueprint.specs.Drawing.{IsSource, IsWorldOf, WasRead}
use Rattle.run_blueprint.specs.Replaying.{IsReplayOf}
use Rattle.run_blueprint.proofs.Places.{unmapped_at}
use Rattle.run_report.specs.Answer.{Answer}
use Rattle.stream_command.specs.Asked.{AskedRun, Plugged}
use Rattle.stream_command.specs.Headline.{AnswersSink, EndedFiles, RunsAlike, ReplayedFiles, ReplaysRun}
use Rattle.stream_command.specs.Outcome.{SaysFile, taken_files}

some_same : {A : Type 0} {x y : A} → Some x ≡ Some y → x ≡ y
some_same e = cc

-- ---- the graph is of what the text says

abbrev chain_graph : PlainChain → graph.Chain
chain_graph c = record { name = c.name; steps = map model_step c.steps }

chains_as : (cs : List ChainDecl) → map graph_chain cs ≡ map chain_graph (map plain_chain cs)
chains_as [] = refl
chains_as (c ∷ cs) = ap (λ (l : List graph.Chain). graph_chain c ∷ l) (chains_as cs)

abbrev graph_by : List Node → List WireDecl → List PlainChain → Graph
graph_by ns ws cs = record { nodes = map (graph_node ws) ns; wires = wires_of ns ws; chains = map chain_graph cs }

graph_is : (b : Blueprint) → graph_of b ≡ graph_by b.nodes.items b.wires.items (map plain_chain b.chains.items)
graph_is b = ap (λ (cs : List graph.Chain). record { nodes = map (graph_node b.wires.items) b.nodes.items; wires = wires_of b.nodes.items b.wires.items; chains = cs }) (chains_as b.chains.items)

graph_same : (b d : Blueprint) → plain b ≡ plain d → graph_of b ≡ graph_of d
graph_same b d e = graph_is b ∙ ap (λ (q : PlainBlueprint). graph_by q.nodes q.wires q.chains) e ∙ sym (graph_is d)

-- two files of the same bytes say the same
plain_same : (old before : FolderState) (file other : List ℕ) (b d : Blueprint) → old.file file ≡ before.file other → SaysFile old file b → SaysFile before other d → plain d ≡ plain b
plain_same old before file other b d same x y =
    let whole : x.says.whole ≡ y.says.whole = some_same (sym x.says.there ∙ same ∙ y.says.there) in
    let text : x.text ≡ y.text = one_text y.says.whole x.text y.text (subst (λ (t : List ℕ). language.Says t x.text) whole x.says.says) y.says.says in
    y.flat.is ∙ (sym (ap flat text) ∙ sym x.flat.is)

-- ---- no read failed

unfaulted : (b : Bool) (x y : ℕ) → (IsTrue b → Rose x y) → (Rose x y → ⊥) → b ≡ false
unfaulted true x y rose calm = absurd (calm (rose refl))
unfaulted false x y rose calm = refl

-- two files of the same bytes, as they were read
alike_at : (old new before after : FolderState) (name bytes others : List ℕ) (given more : ℕ) (first second : Bool) → WasRead old new name bytes given first → WasRead before after name others more second → old.file name ≡ before.file name
    → ¬ (Rose (old.rfaults name) (new.rfaults name)) → ¬ (Rose (before.rfaults name) (after.rfaults name)) → AlikeFiles (record { bytes = bytes; read = given; faulted = first }) (record { bytes = others; read = more; faulted = second })
alike_at old new before after name bytes others given more first second one two same calm quiet = record {
  bytes = some_same (sym one.there ∙ same ∙ two.there);
  first = unfaulted first (old.rfaults name) (new.rfaults name) one.rose calm;
  second = unfaulted second (before.rfaults name) (after.rfaults name) two.rose quiet;
}

-- ---- the two calls

module _ (ranked : (b : Blueprint) (heads : HeadLists) (taken : List (List ℕ)) → IsFit b heads taken → (rank : ℕ → ℕ) × IsRanked (graph_of b) rank)
    (apart : (g : Graph) (w : World) (x : ℕ → ℕ → Outlook) (rank : ℕ → ℕ) → IsRanked g rank → (k : ℕ) (n : graph.Node) → HasLists g w.book k → sink_outlook g (record w { given = x }) k n ≡ sink_outlook g w k n)
    (p : Plugged) (a x : Answer) (c e : AskedRun) (old new before after : FolderState) (f : EndedFiles p a c old new) (s : EndedFiles p x e before after) (alike : RunsAlike p a x c e old new before after f) where
  plain_is : plain s.blueprint ≡ plain f.blueprint
  plain_is = plain_same old before c.file e.file f.blueprint s.blueprint alike.text f.ran.said.says s.ran.said.says

  nodes_are : s.blueprint.nodes.items ≡ f.blueprint.nodes.items
  nodes_are = ap (λ (q : PlainBlueprint). q.nodes) plain_is

  abbrev mine : World
  mine = f.ran.world

  abbrev other : World
  other = s.ran.world

  -- the first world with the files as the second call read them
  abbrev read_so : World
  read_so = with_files other.file mine

  -- and with what its custom stages gave
  abbrev both : World
  both = record read_so { given = other.given }

  is_of_both : IsWorldOf p.book s.blueprint.nodes.items s.drawn both
  is_of_both = record {
    book_is = f.ran.is_one.book_is;
    files = s.ran.is_one.files;
    moves = λ i q at. f.ran.is_one.moves i q (ap (λ (ps : List Pick). slice_get ps i) (f.by_moves ∙ alike.moves ∙ sym s.by_moves) ∙ at);
    gave = s.ran.is_one.gave;
  }

  same_source : (k : ℕ) (name : List ℕ) → IsSource f.blueprint.nodes.items k name → AlikeFiles (other.file name) (mine.file name)
  same_source k name src =
      let here : IsSource s.blueprint.nodes.items k name = subst (λ (ns : List Node). IsSource ns k name) (sym nodes_are) src in
      let one = f.ran.read k name src in
      let two = s.ran.read k name here in
      subst (λ (h : File). AlikeFiles h (mine.file name)) (sym (s.ran.is_one.files k name here))
      (subst (AlikeFiles (record { bytes = s.drawn.bytes k; read = s.drawn.given k; faulted = s.drawn.faulted k })) (sym (f.ran.is_one.files k name src))
      (alike_at before after old new name (s.drawn.bytes k) (f.drawn.bytes k) (s.drawn.given k) (f.drawn.given k) (s.drawn.faulted k) (f.drawn.faulted k) two one (sym (alike.inputs k name src)) (alike.quiet name) (alike.calm name)))

  sources : AlikeSources (graph_of f.blueprint) other.file mine.file
  sources k n name at is =
      let u = unmapped_at (graph_node f.blueprint.wires.items) f.blueprint.nodes.items k n at in
      same_source k name (record { node = u.0; at = u.1.0; kind_is = sym (ap (λ (m : graph.Node). m.kind) u.1.1) ∙ is })

  pub same_bytes : (k : ℕ) (n : Node) (file : List ℕ) → AnswersSink a f.blueprint k n file state.Ended → AnswersSink x s.blueprint k n file state.Ended → HasLists (graph_of f.blueprint) p.book k → new.file file ≡ after.file file
  same_bytes k n file here there lists =
      let first = f.ended mine k n file f.ran.is_one here in
      let second = s.ended both k n file is_of_both there in
      let rank = ranked f.blueprint p.heads (taken_files c.file c.trace c.replay) f.ran.said.fit in
      let m = graph_node f.blueprint.wires.items n in
      let wires_are : s.blueprint.wires.items ≡ f.blueprint.wires.items = ap (λ (q : PlainBlueprint). q.wires) plain_is in
      let outlook : sink_outlook (graph_of s.blueprint) both k (graph_node s.blueprint.wires.items n) ≡ sink_outlook (graph_of f.blueprint) mine k m =
      ap (λ (ws : List WireDecl). sink_outlook (graph_of s.blueprint) both k (graph_node ws n)) wires_are ∙ ap (λ (g : Graph). sink_outlook g both k m) (graph_same s.blueprint f.blueprint plain_is)
      ∙ (apart (graph_of f.blueprint) read_so other.given rank.0 rank.1 k m (subst (λ (b : Book). HasLists (graph_of f.blueprint) b k) (sym f.ran.is_one.book_is) lists) ∙ sinks_same (graph_of f.blueprint) mine other.file sources k m) in
      first.text ∙ ap (λ (o : Outlook). Some (text_lines o.list)) (sym outlook) ∙ sym second.text

-- ---- a call whose stages follow the moves of another

-- the moves that are said, or those that were made
abbrev moves_or : Option (List ℕ) → List ℕ → List ℕ
moves_or (Some plan) moves = plan
moves_or None moves = moves

module _ (ranked : (b : Blueprint) (heads : HeadLists) (taken : List (List ℕ)) → IsFit b heads taken → (rank : ℕ → ℕ) × IsRanked (graph_of b) rank)
    (apart : (g : Graph) (w : World) (x : ℕ → ℕ → Outlook) (rank : ℕ → ℕ) → IsRanked g rank → (k : ℕ) (n : graph.Node) → HasLists g w.book k → sink_outlook g (record w { given = x }) k n ≡ sink_outlook g w k n)
    (p : Plugged) (a x : Answer) (c e : AskedRun) (old new before after : FolderState) (f : EndedFiles p a c old new) (s : ReplayedFiles p x e before after) (r : ReplaysRun p a x c e old new before after f s) where
  replay_plain : plain s.blueprint ≡ plain f.blueprint
  replay_plain = plain_same old before c.file e.file f.blueprint s.blueprint r.text f.ran.said.says s.ran.said.says

  replay_nodes : s.blueprint.nodes.items ≡ f.blueprint.nodes.items
  replay_nodes = ap (λ (q : PlainBlueprint). q.nodes) replay_plain

  -- the world with the files as the second call read them, and all moves that its stages follow
  abbrev led : World
  led = record { book = p.book; file = s.ran.world.file; moves = λ k. moves_or (plan_at s.ran.plans k) (s.ran.world.moves k); given = s.ran.world.given }

  is_replay : IsReplayOf p.book s.blueprint.nodes.items s.ran.plans s.drawn led
  is_replay = record {
    book_is = refl;
    files = s.ran.is_one.files;
    followed = λ k plan at. ap (λ (o : Option (List ℕ)). moves_or o (s.ran.world.moves k)) at;
    chosen = λ k moves none made. ap (λ (o : Option (List ℕ)). moves_or o (s.ran.world.moves k)) none ∙ s.ran.is_one.moves made.0 (k, moves) made.1;
    gave = s.ran.is_one.gave;
  }

  -- the same with the files as the first call read them
  abbrev first_read : World
  first_read = with_files f.ran.world.file led

  -- and with what its custom stages gave
  abbrev first_led : World
  first_led = record first_read { given = f.ran.world.given }

  is_of_first : IsWorldOf p.book f.blueprint.nodes.items f.drawn first_led
  is_of_first = record {
    book_is = refl;
    files = f.ran.is_one.files;
    moves = λ i q at. ap (λ (o : Option (List ℕ)). moves_or o (s.ran.world.moves q.0)) (r.moves q.0 q.1 (i, ap (λ (ps : List Pick). slice_get ps i) (sym f.by_moves) ∙ at));
    gave = f.ran.is_one.gave;
  }

  replay_sources : AlikeSources (graph_of f.blueprint) f.ran.world.file s.ran.world.file
  replay_sources k n name at is =
      let u = unmapped_at (graph_node f.blueprint.wires.items) f.blueprint.nodes.items k n at in
      let src : IsSource f.blueprint.nodes.items k name = record { node = u.0; at = u.1.0; kind_is = sym (ap (λ (m : graph.Node). m.kind) u.1.1) ∙ is } in
      let here : IsSource s.blueprint.nodes.items k name = subst (λ (ns : List Node). IsSource ns k name) (sym replay_nodes) src in
      subst (λ (h : File). AlikeFiles h (s.ran.world.file name)) (sym (f.ran.is_one.files k name src))
      (subst (AlikeFiles (record { bytes = f.drawn.bytes k; read = f.drawn.given k; faulted = f.drawn.faulted k })) (sym (s.ran.is_one.files k name here))
      (alike_at old new before after name (f.drawn.bytes k) (s.drawn.bytes k) (f.drawn.given k) (s.drawn.given k) (f.drawn.faulted k) (s.drawn.faulted k) (f.ran.read k name src) (s.ran.read k name here) (r.inputs k name src) (r.calm name) (r.quiet name)))

  pub replay_bytes : (k : ℕ) (n : Node) (file : List ℕ) → AnswersSink a f.blueprint k n file state.Ended → AnswersSink x s.blueprint k n file state.Ended → HasLists (graph_of f.blueprint) p.book k → new.file file ≡ after.file file
  replay_bytes k n file here there lists =
      let first = f.ended first_led k n file is_of_first here in
      let second = s.ended led k n file is_replay (r.fits led is_replay) (r.serves led is_replay) there in
      let rank = ranked f.blueprint p.heads (taken_files c.file c.trace c.replay) f.ran.said.fit in
      let m = graph_node f.blueprint.wires.items n in
      let wires_are : f.blueprint.wires.items ≡ s.blueprint.wires.items = sym (ap (λ (q : PlainBlueprint). q.wires) replay_plain) in
      let outlook : sink_outlook (graph_of f.blueprint) first_led k m ≡ sink_outlook (graph_of s.blueprint) led k (graph_node s.blueprint.wires.items n) =
      apart (graph_of f.blueprint) first_read f.ran.world.given rank.0 rank.1 k m lists ∙ sinks_same (graph_of f.blueprint) led f.ran.world.file replay_sources k m
      ∙ (ap (λ (g : Graph). sink_outlook g led k m) (sym (graph_same s.blueprint f.blueprint replay_plain)) ∙ ap (λ (ws : List WireDecl). sink_outlook (graph_of s.blueprint) led k (graph_node ws n)) wires_are) in
      first.text ∙ ap (λ (o : Outlook). Some (text_lines o.list)) outlook ∙ sym second.text
