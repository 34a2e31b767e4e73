-- Wires of sinks that go on and are told shut.
use Rattle.std.specs.Prelude.{slice_get, Option, None}
use Rattle.std.proofs.Common.{◌≡◌, ℕ, Bool, true, List, [], length, Some, refl, sym, ap, subst, ◌∙◌}
use Rattle.elem_core.specs.Tree.{Tree}
use Rattle.stream_io.specs.State.{FolderState}
use Rattle.stream_model.specs.Composed.{composed}
use Rattle.stream_model.specs.Graph.{Edge}
use Rattle.stream_model.specs.Linear.{Book}
use Rattle.stream_model.specs.Node.{World}
use Rattle.stream_model.specs.Outlook.{Outlook, Entry, End, unended, ended, failed, Allows, Agrees}
use Rattle.stream_model.specs.Shape.{sent_at}
use Rattle.stream_model.specs.declared.blueprint.Blueprint.{Blueprint}
use Rattle.stream_model.specs.declared.outcome.EndState.{EndState}
use Rattle.stream_model.specs.declared.outcome.EndState.TheVariants.{Unended}
use Rattle.stream_model.specs.declared.outcome.WireCount.{WireCount}
use Rattle.blue_check.specs.Wires.{blueprint_wires}
use Rattle.interpreter.specs.Picks.{Pick}
use Rattle.materializer.specs.Graphs.{graph_of}
use Rattle.run_blueprint.specs.Carrying.{OverBy}
use Rattle.stream_model.specs.Known.{HeadLists}
use Rattle.run_blueprint.specs.Drawing.{IsWorldOf}
use Rattle.run_blueprint.specs.Running.{LeavesFiles}
use Rattle.run_blueprint.specs.Stands.{SinkStand}

-- a list that has ended is all that may pass, where nothing may fail
all_passed : (o : Outlook) (list : List Tree) (e : End) → Agrees o list e → (e ≡ unended → ⊥) → o.fails ≡ [] → list ≡ o.list
all_passed o list unended a over none = absurd (over refl)
all_passed o list ended a over none = a.1
all_passed o list (failed c) a over none = let never : Allows [] c (length list) = subst (λ (fs : List Entry). Allows fs c (length list)) none a.1 in absurd never

count_at : (counts : List WireCount) (i : ℕ) (c : WireCount) → slice_get counts i ≡ Some c → sent_at counts i ≡ c.sent
count_at counts i c at = ap (λ (o : Option WireCount). elim o as (λ _. ℕ) [ Some d ↦ d.sent | None ↦ 0 ]) at

pub shut_carried : (book : Book) (heads : HeadLists) (old new : FolderState) (b : Blueprint) (plans : List (Option (List ℕ))) (trace : Option (List ℕ)) (sinks : List SinkStand) (picks : List Pick) (wires : List WireCount) (at_rest : Bool) (l : LeavesFiles book heads old new b plans trace sinks picks wires at_rest) (w : World) → IsWorldOf book b.nodes.items l.drawn w
    → (k : ℕ) (s : SinkStand) (i : ℕ) (v : Edge) (c : WireCount) → slice_get sinks k ≡ Some s → s.2 ≡ Unended → slice_get (blueprint_wires b) i ≡ Some v → v.to ≡ s.0 → slice_get wires i ≡ Some c → c.shut ≡ true
    → (composed (graph_of b) w i).fails ≡ [] → c.sent ≡ length (composed (graph_of b) w i).list
shut_carried book heads old new b plans trace sinks picks wires at_rest l w is k s i v c at goes wire to count shut none =
    let stands : OverBy Unended c.shut (l.carries.ends i) = subst (λ (e : EndState). OverBy e c.shut (l.carries.ends i)) goes (l.carries.sink_shut k s i v c at wire to count).1 in
    let all : l.carries.lists i ≡ (composed (graph_of b) w i).list = all_passed (composed (graph_of b) w i) (l.carries.lists i) (l.carries.ends i) (l.passed w is i v wire) (stands shut) none in
    sym (count_at wires i c count) ∙ l.carries.counted i v wire ∙ ap length all
