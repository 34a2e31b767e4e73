-- What a run that ended tells: of its sinks, of its picture and wires, and of files that were not opened.
use Rattle.std.proofs.Common.{◌≡◌, ◌≢◌, ℕ, zero, suc, ◌+◌, ◌<◌, ◌≤◌, Bool, true, false, List, [], ◌∷◌, ◌++◌, ◌⊎◌, inl, inr, refl, sym, ap, ◌∙◌, subst, arith, length, map, slice_get}
use Rattle.std.specs.Prelude.{slice_index_or, IsTrue, IsSome, Option, Some, None, ◌||◌, if◌then◌else◌, nat_lt}
use Rattle.std.specs.Option.{option_to_list}
use Rattle.std.specs.List.{Contains, list_any}
use Rattle.std.proofs.lemmas.Bool.{ltb-true}
use Rattle.stream_model.specs.declared.outcome.WireCount.{WireCount}
use Rattle.stream_model.specs.declared.outcome.EndState.{EndState}
use Rattle.stream_model.specs.declared.outcome.EndState.TheVariants as state
use Rattle.stream_model.specs.Known.{HeadLists}
use Rattle.stream_model.specs.Linear.{Book}
use Rattle.stream_model.specs.Listed.{AllTell}
use Rattle.stream_model.specs.Node.{World}
use Rattle.stream_model.specs.Outlook.{Outlook, Entry, failed, Allows, Agrees}
use Rattle.elem_core.specs.Tree.{Tree}
use Rattle.elem_core.specs.declared.why.Cause.{Cause}
use Rattle.stream_model.specs.Composed.{composed, sink_outlook}
use Rattle.stream_model.specs.Shape.{IsPolytree, need, count_needed}
use Rattle.run_laws.specs.Sinks.{SinkTells}
use Rattle.stream_io.specs.Counts.{Rose, Grew}
use Rattle.stream_io.specs.State.{FolderState}
use Rattle.stream_model.specs.declared.blueprint.Blueprint.{Blueprint}
use Rattle.stream_model.specs.declared.blueprint.Node.{Node}
use Rattle.blue_check.specs.Wires.{blueprint_wires}
use Rattle.blue_check.specs.Forest.{wiring}
use Rattle.materializer.specs.Choosers.{NoneFollow}
use Rattle.materializer.specs.Graphs.{graph_of, graph_node}
use Rattle.materializer.specs.Files.{output_of, sinks_of_nodes, inputs_of_nodes, outputs_of_nodes}
use Rattle.stream_io.specs.Quiet.{Quiet}
use Rattle.stream_io.specs.Opening.{MissesInput, RefusesOutput}
use Rattle.interpreter.specs.Picks.{Pick, pick_of}
use Rattle.run_blueprint.specs.Carrying.{PictureStands, MisfitByPassed}
use Rattle.run_blueprint.specs.Choosing.{pick_places, picked}
use Rattle.run_blueprint.specs.Drawing.{Drawn, IsWorldOf}
use Rattle.run_blueprint.specs.Replaying.{IsMisfit}
use Rattle.run_blueprint.specs.Stands.{SinkStand, is_write_fault, is_unended, is_failed}
use Rattle.run_blueprint.specs.Units.{Pays}
use Rattle.run_blueprint.specs.Running.{SinkLeaves, LeavesFiles, MisfitByFiles, FailedWritesOf, Runs, Wants}
use Rattle.run_blueprint.specs.Tracing.{written_files, Traces}
use Rattle.run_blueprint.specs.declared.run.RunResult.{RunResult}
use Rattle.run_blueprint.proofs.Places.{contains_at, place_within}
use Rattle.run_blueprint.proofs.Traces.{in_list}
use Rattle.run_report.specs.Answer.{Answer}
use Rattle.run_report.specs.declared.outcome.Status.{Status}
use Rattle.run_report.specs.declared.outcome.Status.TheVariants as status
use Rattle.stream_command.specs.AfterRun.{AfterRun, told_ends, some_failed, some_unended, some_fault, status_found, is_stalled, no_event_left}
use Rattle.stream_command.specs.Asked.{Plugged}
use Rattle.stream_command.specs.Outcome.{Blank, RanTo, FallsShort, SinksWrote, UsedUp, SomeCountRose, SomeWriteFailed, EndedRun, QuietButAll, RunCauses, SinksOf}
use Rattle.stream_command.proofs.SinksTold.{ends_told, any_told, all_done, fault_at, or_left, or_right, no_fault_at}

-- ---- whether an event was left

or_either : (a b : Bool) → a || b ≡ true → (a ≡ true) ⊎ (b ≡ true)
or_either true b e = inl refl
or_either false b e = inr e

-- the status where no write failed, by whether a stage stopped, a sink goes on, one failed, and no event was left
abbrev found_by : Option (ℕ × ℕ) → Bool → Bool → Bool → Status
found_by (Some found) u d rest = status.Misfit found.0 found.1
found_by None u d rest = if u then (if rest then status.Stalled else status.OutOfTurns) else (if d then status.StreamFailed else status.Done)

same_status : (f : Bool) (m : Option (ℕ × ℕ)) (stands : List SinkStand) (rest : Bool) → (if f then status.WriteFault else status_found m stands rest) ≡ (if f then status.WriteFault else found_by m (list_any (λ (s : SinkStand). is_unended s.2) stands) (list_any (λ (s : SinkStand). is_failed s.2) stands) rest)
same_status f None stands rest = refl
same_status f (Some found) stands rest = refl

stalled_rests : (f : Bool) (m : Option (ℕ × ℕ)) (u d rest : Bool) → is_stalled (if f then status.WriteFault else found_by m u d rest) ≡ true → rest ≡ true
stalled_rests true m u d rest e = absurd cc
stalled_rests false (Some found) u d rest e = absurd cc
stalled_rests false None true d true e = refl
stalled_rests false None true d false e = absurd cc
stalled_rests false None false true rest e = absurd cc
stalled_rests false None false false rest e = absurd cc

less_rests : (rest : Bool) (used turns : ℕ) → used < turns → (rest ≡ false → used ≡ turns) → rest ≡ true
less_rests true used turns h spent = refl
less_rests false used turns h spent = let same : used ≡ turns = spent refl in absurd (omega (arith, h, same))

not_both_bools : (x : Bool) → x ≡ true → x ≡ false → ⊥
not_both_bools x p q = cc

-- one that goes on is there
some_there : (stands : List SinkStand) → list_any (λ (s : SinkStand). is_unended s.2) stands ≡ true → 1 ≤ length stands
some_there [] e = absurd cc
some_there (s ∷ ss) e = omega arith

no_unended_at : (stands : List SinkStand) (i : ℕ) (s : SinkStand) → list_any (λ (x : SinkStand). is_unended x.2) stands ≡ false → slice_get stands i ≡ Some s → is_unended s.2 ≡ false
no_unended_at [] i s e at = absurd cc
no_unended_at (x ∷ xs) zero s e at = let same : x ≡ s = cc in ap (λ (t : SinkStand). is_unended t.2) (sym same) ∙ or_left (is_unended x.2) (list_any (λ (t : SinkStand). is_unended t.2) xs) e
no_unended_at (x ∷ xs) (suc i) s e at = no_unended_at xs i s (or_right (is_unended x.2) (list_any (λ (t : SinkStand). is_unended t.2) xs) e) at

no_entry : (o : Outlook) (l : List Tree) (c : Cause) → o.fails ≡ [] → Agrees o l (failed c) → ⊥
no_entry o l c none h = subst (λ (es : List Entry). Allows es c (length l)) none h.1

-- a sink that goes on no more, may not fail and has no failed write has ended
must_end : (e : EndState) (o : Outlook) (held : List ℕ) (old new : ℕ) → is_unended e ≡ false → SinkTells o e held → o.fails ≡ [] → FailedWritesOf e old new → (Rose old new → ⊥) → e ≡ state.Ended
must_end state.Ended o held old new goes tells none writes calm = refl
must_end (state.Failed c) o held old new goes tells none writes calm = absurd (no_entry o tells.list c none tells.agrees)
must_end state.Unended o held old new goes tells none writes calm = absurd cc
must_end state.WriteFault o held old new goes tells none writes calm = absurd (calm writes)

-- what holds of a run where no event was left holds where that is told less often
module _ (plugged : Plugged) (old new : FolderState) (b : Blueprint) (plans : List (Option (List ℕ))) (trace : Option (List ℕ)) (stands : List SinkStand) (picks : List Pick) (wires : List WireCount) (less rest : Bool) (more : IsTrue less → IsTrue rest) where
  sink_less : (d : Drawn) (k : ℕ) (n : Node) (file : List ℕ) (count : ℕ) (end : EndState) → SinkLeaves plugged.book new b d wires rest k n file count end → SinkLeaves plugged.book new b d wires less k n file count end
  sink_less d k n file count end s = record {
    held = s.held;
    there = s.there;
    tells = s.tells;
    lines_are = s.lines_are;
    sent = s.sent;
    rests = λ shape h. s.rests shape (more h);
  }

  abbrev leaves_less : LeavesFiles plugged.book plugged.heads old new b plans trace stands picks wires rest → LeavesFiles plugged.book plugged.heads old new b plans trace stands picks wires less
  leaves_less l = record {
    drawn = l.drawn;
    chose = l.chose;
    read = l.read;
    world = l.world;
    has_files = l.has_files;
    sink = λ i s n file at here shape. sink_less l.drawn s.0 n file s.1 s.2 (l.sink i s n file at here shape);
    ignores = l.ignores;
    others = l.others;
    draws = l.draws;
    fits = l.fits;
    carries = l.carries;
    passed = l.passed;
    customs = l.customs;
    lawful = l.lawful;
    rest = λ h. l.rest (more h);
    matching = λ h. l.matching (more h);
    ending = λ none own tree h. l.ending none own tree (more h);
    made = l.made;
    served = l.served;
    blames = l.blames;
    needed = l.needed;
  }

abbrev picture_less : (book : Book) (heads : HeadLists) (b : Blueprint) (plans : List (Option (List ℕ))) (stands : List SinkStand) (picks : List Pick) (wires : List WireCount) (less rest : Bool) → (IsTrue less → IsTrue rest) → PictureStands book heads b plans stands picks wires rest → PictureStands book heads b plans stands picks wires less
picture_less book heads b plans stands picks wires less rest more p = record { carries = p.carries; customs = p.customs; lawful = p.lawful; rest = λ h. p.rest (more h); matching = λ h. p.matching (more h) }

-- ---- the end of a run

-- the files of the sinks, and that of the trace, are those that are written
contains_front : (xs ys : List (List ℕ)) (n : List ℕ) (k : ℕ) → k < length xs → slice_index_or xs k n ≡ n → Contains (xs ++ ys) n
contains_front [] ys n k h e = absurd (omega (arith, h))
contains_front (x ∷ xs) ys n zero h e = (0, omega arith, e)
contains_front (x ∷ xs) ys n (suc k) h e = let later = contains_front xs ys n k (omega (arith, h)) e in (suc later.0, omega (arith, later.1), later.2)

contains_back : (xs ys : List (List ℕ)) (n : List ℕ) → Contains ys n → Contains (xs ++ ys) n
contains_back [] ys n c = c
contains_back (x ∷ xs) ys n c = let later = contains_back xs ys n c in (suc later.0, omega (arith, later.1), later.2)

sink_written : (b : Blueprint) (trace : Option (List ℕ)) (n : List ℕ) → Contains (outputs_of_nodes b.nodes.items) n → Contains (written_files b trace) n
sink_written b trace n c = contains_front (outputs_of_nodes b.nodes.items) (option_to_list trace) n c.0 c.1 c.2

trace_written : (b : Blueprint) (trace : Option (List ℕ)) (n : List ℕ) → trace ≡ Some n → Contains (written_files b trace) n
trace_written b trace n e = subst (λ (o : Option (List ℕ)). Contains (written_files b o) n) (sym e) (contains_back (outputs_of_nodes b.nodes.items) (n ∷ []) n (in_list n))

-- a count of failed writes of no file that is written stays
pub other_counts : (b : Blueprint) (trace : Option (List ℕ)) (old new : List ℕ → ℕ) → ((n : List ℕ) → (Contains (outputs_of_nodes b.nodes.items) n → ⊥) → trace ≢ Some n → Grew (old n) 0 (new n)) → QuietButAll (written_files b trace) old new
other_counts b trace old new quiet n never = quiet n (λ c. never (sink_written b trace n c)) (λ e. never (trace_written b trace n e))

-- a trace that was not written whole raised the count of its file
trace_rose : (old new : FolderState) (b : Blueprint) (trace : Option (List ℕ)) (picks : List Pick) → Traces old new b trace picks true → SomeCountRose old new b trace
trace_rose old new b None picks h = absurd h
trace_rose old new b (Some t) picks h = record { file = t; written = trace_written b (Some t) t refl; rose = h.rose }

trace_wanted : (old new : FolderState) (b : Blueprint) (trace : Option (List ℕ)) (picks : List Pick) → Traces old new b trace picks true → IsSome trace
trace_wanted old new b None picks h = absurd h
trace_wanted old new b (Some t) picks h = refl

or_false : (a : Bool) → a || false ≡ true → a ≡ true
or_false true e = refl
or_false false e = absurd cc

module _ (plugged : Plugged) (b : Blueprint) (plans : List (Option (List ℕ))) (trace : Option (List ℕ)) (ran : RunResult) (turns : ℕ) (a : Answer) (old new : FolderState) (after : AfterRun (sinks_of_nodes b.nodes.items) ran a) (runs : Runs plugged.book plugged.heads old new b plans trace turns ran) where
  abbrev stands : List SinkStand
  stands = ran.sinks.items

  -- the status, by these
  status_is : a.status ≡ (if list_any (λ (s : SinkStand). is_write_fault s.2) stands || ran.trace_failed then status.WriteFault
      else found_by ran.misfit (list_any (λ (s : SinkStand). is_unended s.2) stands) (list_any (λ (s : SinkStand). is_failed s.2) stands) ran.at_rest)
  status_is = after.status ∙ same_status (list_any (λ (s : SinkStand). is_write_fault s.2) stands || ran.trace_failed) ran.misfit stands ran.at_rest

  told : a.sinks ≡ told_ends b.nodes.items stands
  told = after.sinks ∙ ends_told b.nodes.items stands runs.sinks_are

  fault_told : some_fault a.sinks ≡ list_any (λ (s : SinkStand). is_write_fault s.2) stands
  fault_told = ap some_fault told ∙ any_told is_write_fault b.nodes.items stands

  unended_told : some_unended a.sinks ≡ list_any (λ (s : SinkStand). is_unended s.2) stands
  unended_told = ap some_unended told ∙ any_told is_unended b.nodes.items stands

  failed_told : some_failed a.sinks ≡ list_any (λ (s : SinkStand). is_failed s.2) stands
  failed_told = ap some_failed told ∙ any_told is_failed b.nodes.items stands

  abbrev sink_fault : Bool
  sink_fault = list_any (λ (s : SinkStand). is_write_fault s.2) stands

  abbrev fault : Bool
  fault = sink_fault || ran.trace_failed

  -- what became of the trace, by the moves that are answered
  traced : (how : Bool) → ran.trace_failed ≡ how → Traces old new b trace a.picks how
  traced how e = subst (λ (p : List Pick). Traces old new b trace p how) (sym after.picks) (subst (Traces old new b trace (map pick_of ran.picks.items)) e runs.traces)

  trace_whole : fault ≡ false → Traces old new b trace a.picks false
  trace_whole e = traced false (or_right sink_fault ran.trace_failed e)

  sink_rose : sink_fault ≡ true → SomeCountRose old new b trace
  sink_rose e =
      let at = fault_at stands e in
      let rose = runs.faults at.0 at.1.0 at.1.1.0 at.1.1.1 in
      record { file = rose.file; written = sink_written b trace rose.file rose.output; rose = rose.rose }

  some_rose : (how : Bool) → ran.trace_failed ≡ how → sink_fault || how ≡ true → SomeCountRose old new b trace
  some_rose true is e = trace_rose old new b trace a.picks (traced true is)
  some_rose false is e = sink_rose (or_false sink_fault e)

  some_failure : (how : Bool) → ran.trace_failed ≡ how → sink_fault || how ≡ true → SomeWriteFailed old new b trace a
  some_failure true is e = inr (traced true is)
  some_failure false is e = inl (fault_told ∙ or_false sink_fault e, traced false is)

  fault_sinks : (how : Bool) → ran.trace_failed ≡ how → sink_fault || how ≡ true → (some_fault a.sinks ≡ true) ⊎ IsSome trace
  fault_sinks true is e = inr (trace_wanted old new b trace a.picks (traced true is))
  fault_sinks false is e = inl (fault_told ∙ or_false sink_fault e)

  no_sink_fault : fault ≡ false → sink_fault ≡ false
  no_sink_fault e = or_left sink_fault ran.trace_failed e

  no_rise : fault ≡ false → Quiet old.wfaults new.wfaults
  no_rise e = runs.calm (λ i s at. no_fault_at stands i s (no_sink_fault e) at) (or_right sink_fault ran.trace_failed e)

  spent : ran.at_rest ≡ false → a.used ≡ turns
  spent h = after.used ∙ runs.spent h

  -- no event was left where the answer tells so
  over_rests : IsTrue (no_event_left a turns) → IsTrue ran.at_rest
  over_rests h = elim (or_either (is_stalled a.status) (nat_lt a.used turns) h) [
    | inl e ↦ (stalled_rests fault ran.misfit (list_any (λ (s : SinkStand). is_unended s.2) stands) (list_any (λ (s : SinkStand). is_failed s.2) stands) ran.at_rest (ap is_stalled (sym status_is) ∙ e))
    | inr e ↦ (less_rests ran.at_rest a.used turns (ltb-true a.used turns e) spent)
  ]

  pays : Pays b a.wires a.used
  pays = subst (λ (u : ℕ). Pays b a.wires u) (sym after.used) (subst (λ (w : List WireCount). Pays b w ran.used) (sym after.wires) runs.pays)

  -- the picture stands by what passed, and a stage that stopped has its cause in that
  record Pictured (picks : List Pick) (wires : List WireCount) : Type 0 where
    picture : PictureStands plugged.book plugged.heads b plans stands picks wires ran.at_rest
    misfit : (stage place : ℕ) → ran.misfit ≡ Some (stage, place) → IsMisfit b plans picks (MisfitByPassed picture.carries plans) stage place

  -- as the answer tells it
  pictured : Pictured a.picks a.wires
  pictured = subst (λ (p : List Pick). Pictured p a.wires) (sym after.picks) (subst (λ (w : List WireCount). Pictured (map pick_of ran.picks.items) w) (sym after.wires) (record { picture = runs.picture; misfit = runs.misfit }))

  picks_are : picked a.picks ≡ pick_places 0 b.nodes.items
  picks_are = ap picked after.picks ∙ runs.picks_are

  -- some sink stands, so there is a wire, and the units are below the count
  below_count : 1 ≤ length stands → a.used < count_needed (graph_of b) a.wires
  below_count some =
      let wired : 1 ≤ length (blueprint_wires b) = runs.wired some in
      let most : a.used + length (blueprint_wires b) ≤ count_needed (graph_of b) a.wires = pays.most in
      omega (arith, wired, most)

  -- in a polytree every sink has ended where no event was left
  tree_ends : NoneFollow plans → AllTell (graph_of b) plugged.book → IsPolytree (wiring (blueprint_wires b)) → ran.at_rest ≡ true → some_unended a.sinks ≡ false
  tree_ends none own tree e = unended_told ∙ runs.ending none own tree e

  tree_spent : (rest : Bool) → ran.at_rest ≡ rest → NoneFollow plans → AllTell (graph_of b) plugged.book → IsPolytree (wiring (blueprint_wires b)) → some_unended a.sinks ≡ true → a.used ≡ turns
  tree_spent false e none own tree some = spent e
  tree_spent true e none own tree some = absurd (not_both_bools (some_unended a.sinks) some (tree_ends none own tree e))

  within : a.used ≤ turns
  within = subst (λ n. n ≤ turns) (sym after.used) runs.within

  -- the units were used up where a sink goes on and an event was left
  used_up : list_any (λ (s : SinkStand). is_unended s.2) stands ≡ true → ran.at_rest ≡ false → UsedUp b turns a
  used_up unended rest = record { used = spent rest; count = subst (λ (u : ℕ). u < count_needed (graph_of b) a.wires) (spent rest) (below_count (some_there stands unended)) }

  -- the files are left so, and a stage that stopped has its cause in them
  record Left (picks : List Pick) (wires : List WireCount) : Type 0 where
    leaves : LeavesFiles plugged.book plugged.heads old new b plans trace stands picks wires ran.at_rest
    stuck : (stage place : ℕ) → ran.misfit ≡ Some (stage, place) → IsMisfit b plans picks (MisfitByFiles plugged.book b plans leaves.drawn) stage place

  module _ (tells : IsTrue old.tells) where
    left_at : Left a.picks a.wires
    left_at = subst (λ (p : List Pick). Left p a.wires) (sym after.picks) (subst (λ (w : List WireCount). Left (map pick_of ran.picks.items) w) (sym after.wires) (record { leaves = runs.leaves tells; stuck = runs.stuck tells }))

    abbrev leaves_at : LeavesFiles plugged.book plugged.heads old new b plans trace stands a.picks a.wires ran.at_rest
    leaves_at = left_at.leaves

    below_need : 1 ≤ length stands → (w : World) → IsWorldOf plugged.book b.nodes.items leaves_at.drawn w → a.used < need (graph_of b) (composed (graph_of b) w)
    below_need some w is =
        let count : a.used < count_needed (graph_of b) a.wires = below_count some in
        let most : count_needed (graph_of b) a.wires ≤ need (graph_of b) (composed (graph_of b) w) = leaves_at.needed w is in
        omega (arith, count, most)

    tree_enough : NoneFollow plans → AllTell (graph_of b) plugged.book → IsPolytree (wiring (blueprint_wires b)) → (w : World) → IsWorldOf plugged.book b.nodes.items leaves_at.drawn w → need (graph_of b) (composed (graph_of b) w) ≤ turns
        → (i : ℕ) (s : SinkStand) (n : Node) (file : List ℕ) → slice_get stands i ≡ Some s → slice_get b.nodes.items s.0 ≡ Some n → output_of n.kind ≡ Some file
        → (sink_outlook (graph_of b) w s.0 (graph_node b.wires.items n)).fails ≡ [] → (Rose (old.wfaults file) (new.wfaults file) → ⊥) → s.2 ≡ state.Ended
    tree_enough none own tree w is suffices i s n file at here shape fails calm =
        let within : i < length stands = place_within stands i s at in
        let some : 1 ≤ length stands = omega (arith, within) in
        let used : a.used < need (graph_of b) (composed (graph_of b) w) = below_need some w is in
        let fewer : a.used < turns = omega (arith, used, suffices) in
        let rest : ran.at_rest ≡ true = less_rests ran.at_rest a.used turns fewer spent in
        let l = leaves_at.sink i s n file at here shape in
        must_end s.2 (sink_outlook (graph_of b) w s.0 (graph_node b.wires.items n)) l.held (old.wfaults file) (new.wfaults file) (no_unended_at stands i s (leaves_at.ending none own tree rest) at) (l.tells w is) fails (runs.writes i s n file at here shape) calm

    abbrev ran_to : RanTo plugged old new b plans trace turns a
    ran_to = record {
      stands = stands;
      stands_are = runs.sinks_are;
      sinks = told;
      picks_are = picks_are;
      leaves = leaves_less plugged old new b plans trace stands a.picks a.wires (no_event_left a turns) ran.at_rest over_rests leaves_at;
      writes = runs.writes;
      within = within;
      pays = pays;
      ending = tree_spent ran.at_rest refl;
      enough = tree_enough;
    }

    short : list_any (λ (s : SinkStand). is_unended s.2) stands ≡ true → ran.at_rest ≡ false → FallsShort plugged b turns a leaves_at.drawn
    short unended rest =
        let some : 1 ≤ length stands = some_there stands unended in
        let used : a.used ≡ turns = spent rest in
        let count : a.used < count_needed (graph_of b) a.wires = below_count some in
        record {
          used = used;
          count = subst (λ (u : ℕ). u < count_needed (graph_of b) a.wires) used count;
          need = λ w is. subst (λ (u : ℕ). u < need (graph_of b) (composed (graph_of b) w)) used (below_need some w is);
        }

  told_by : (f : Bool) (m : Option (ℕ × ℕ)) (u d rest : Bool) → fault ≡ f → ran.misfit ≡ m → list_any (λ (s : SinkStand). is_unended s.2) stands ≡ u → list_any (λ (s : SinkStand). is_failed s.2) stands ≡ d → ran.at_rest ≡ rest → IsTrue old.tells
      → EndedRun plugged (if f then status.WriteFault else found_by m u d rest) a b plans trace turns old new
  told_by true m u d rest p o q r s tells = (ran_to tells, some_failure ran.trace_failed refl p, some_rose ran.trace_failed refl p)
  told_by false (Some found) u d rest p o q r s tells = (ran_to tells, trace_whole p, fault_told ∙ no_sink_fault p, (left_at tells).stuck found.0 found.1 o)
  told_by false None true d true p o q r s tells = (ran_to tells, trace_whole p, (λ none own tree. not_both_bools (some_unended a.sinks) (unended_told ∙ q) (tree_ends none own tree s)), fault_told ∙ no_sink_fault p, unended_told ∙ q)
  told_by false None true d false p o q r s tells = (ran_to tells, trace_whole p, short tells q s, fault_told ∙ no_sink_fault p, unended_told ∙ q)
  told_by false None false true rest p o q r s tells = (ran_to tells, trace_whole p, fault_told ∙ no_sink_fault p, unended_told ∙ q, failed_told ∙ r)
  told_by false None false false rest p o q r s tells = (ran_to tells, trace_whole p, all_done a.sinks (fault_told ∙ no_sink_fault p) (unended_told ∙ q) (failed_told ∙ r))

  -- what a run answers, where the folder tells its files
  pub run_told : IsTrue old.tells → EndedRun plugged a.status a b plans trace turns old new
  run_told tells = subst (λ x. EndedRun plugged x a b plans trace turns old new) (sym status_is) (told_by fault ran.misfit (list_any (λ (s : SinkStand). is_unended s.2) stands) (list_any (λ (s : SinkStand). is_failed s.2) stands) ran.at_rest refl refl refl refl refl tells)

  abbrev wrote : SinksWrote plugged old new b plans turns a
  wrote = record {
    stands = stands;
    stands_are = runs.sinks_are;
    sinks = told;
    picks_are = picks_are;
    writes = runs.writes;
    within = within;
    pays = pays;
    picture = picture_less plugged.book plugged.heads b plans stands a.picks a.wires (no_event_left a turns) ran.at_rest over_rests pictured.picture;
    ending = tree_spent ran.at_rest refl;
  }

  causes_by : (f : Bool) (m : Option (ℕ × ℕ)) (u d rest : Bool) → fault ≡ f → ran.misfit ≡ m → list_any (λ (s : SinkStand). is_unended s.2) stands ≡ u → ran.at_rest ≡ rest
      → RunCauses plugged (if f then status.WriteFault else found_by m u d rest) a b plans trace turns old new
  causes_by true m u d rest p o q r = (runs.refusals, runs.reads, some_rose ran.trace_failed refl p, other_counts b trace old.wfaults new.wfaults runs.other_writes, wrote)
  causes_by false (Some found) u d rest p o q r = (runs.refusals, runs.reads, no_rise p, (wrote, pictured.misfit found.0 found.1 o))
  causes_by false None true d true p o q r = (runs.refusals, runs.reads, no_rise p, wrote, λ none own tree. not_both_bools (some_unended a.sinks) (unended_told ∙ q) (tree_ends none own tree r))
  causes_by false None true d false p o q r = (runs.refusals, runs.reads, no_rise p, wrote, used_up q r)
  causes_by false None false true rest p o q r = (runs.refusals, runs.reads, no_rise p, wrote)
  causes_by false None false false rest p o q r = (runs.refusals, runs.reads, no_rise p, wrote)

  -- which counts a run raised, and what is told of it
  pub run_causes : RunCauses plugged a.status a b plans trace turns old new
  run_causes = subst (λ x. RunCauses plugged x a b plans trace turns old new) (sym status_is) (causes_by fault ran.misfit (list_any (λ (s : SinkStand). is_unended s.2) stands) (list_any (λ (s : SinkStand). is_failed s.2) stands) ran.at_rest refl refl refl refl)

  sinks_by : (f : Bool) (m : Option (ℕ × ℕ)) (u d rest : Bool) → fault ≡ f → list_any (λ (s : SinkStand). is_unended s.2) stands ≡ u → list_any (λ (s : SinkStand). is_failed s.2) stands ≡ d
      → SinksOf (if f then status.WriteFault else found_by m u d rest) a trace
  sinks_by true m u d rest p q r = fault_sinks ran.trace_failed refl p
  sinks_by false (Some found) u d rest p q r = fault_told ∙ no_sink_fault p
  sinks_by false None true d true p q r = (fault_told ∙ no_sink_fault p, unended_told ∙ q)
  sinks_by false None true d false p q r = (fault_told ∙ no_sink_fault p, unended_told ∙ q)
  sinks_by false None false true rest p q r = (fault_told ∙ no_sink_fault p, unended_told ∙ q, failed_told ∙ r)
  sinks_by false None false false rest p q r = all_done a.sinks (fault_told ∙ no_sink_fault p) (unended_told ∙ q) (failed_told ∙ r)

  -- how the sinks stand by the status
  pub run_sinks : SinksOf a.status a trace
  run_sinks = subst (λ x. SinksOf x a trace) (sym status_is) (sinks_by fault ran.misfit (list_any (λ (s : SinkStand). is_unended s.2) stands) (list_any (λ (s : SinkStand). is_failed s.2) stands) ran.at_rest refl refl refl)

-- ---- files that were not opened

pub missing_input : (plugged : Plugged) (old new : FolderState) (b : Blueprint) (plans : List (Option (List ℕ))) (trace : Option (List ℕ)) (n : List ℕ) (turns : ℕ) (a : Answer) → MissesInput old new (inputs_of_nodes b.nodes.items) n → a.status ≡ status.Missing n → Blank a → IsTrue old.tells → EndedRun plugged a.status a b plans trace turns old new
missing_input plugged old new b plans trace n turns a h is blank tells = subst (λ x. EndedRun plugged x a b plans trace turns old new) (sym is) (inl (record {
  before = h.before;
  after = h.after;
  place = h.place;
  there = h.there tells;
  absent = h.why;
  nothing = record { files = h.files; blank = blank };
}))

pub missing_output : (plugged : Plugged) (old new : FolderState) (b : Blueprint) (plans : List (Option (List ℕ))) (trace : Option (List ℕ)) (n : List ℕ) (turns : ℕ) (a : Answer) → RefusesOutput old new (inputs_of_nodes b.nodes.items) (written_files b trace) n → a.status ≡ status.Missing n → Blank a → IsTrue old.tells → EndedRun plugged a.status a b plans trace turns old new
missing_output plugged old new b plans trace n turns a h is blank tells = subst (λ x. EndedRun plugged x a b plans trace turns old new) (sym is) (inr (record {
  before = h.before;
  after = h.after;
  place = h.place;
  there = h.there tells;
  refused = h.rose;
  files = h.files;
  blank = blank;
}))

pub wanted : (plugged : Plugged) (old new : FolderState) (b : Blueprint) (plans : List (Option (List ℕ))) (trace : Option (List ℕ)) (turns : ℕ) (a : Answer) → Wants plugged.book old new b trace → a.status ≡ status.NoMemory → Blank a → IsTrue old.tells → EndedRun plugged a.status a b plans trace turns old new
wanted plugged old new b plans trace turns a (inl h) is blank tells = subst (λ x. EndedRun plugged x a b plans trace turns old new) (sym is) (blank, inl (record { before = h.before; after = h.after; place = h.place; files = h.files }))
wanted plugged old new b plans trace turns a (inr h) is blank tells = subst (λ x. EndedRun plugged x a b plans trace turns old new) (sym is) (blank, inr (h.leaves tells))

pub wanted_tells : (plugged : Plugged) (old new : FolderState) (b : Blueprint) (trace : Option (List ℕ)) → Wants plugged.book old new b trace → IsTrue new.tells → IsTrue old.tells
wanted_tells plugged old new b trace (inl h) = h.files.told
wanted_tells plugged old new b trace (inr h) = h.told

pub wanted_draws : (plugged : Plugged) (old new : FolderState) (b : Blueprint) (trace : Option (List ℕ)) → Wants plugged.book old new b trace → QuietButAll (inputs_of_nodes b.nodes.items) old.read new.read
wanted_draws plugged old new b trace (inl h) = λ n never. h.read n
wanted_draws plugged old new b trace (inr h) = h.other_draws

-- a name at its place among others
at_middle : (before after : List (List ℕ)) (n : List ℕ) → (i : ℕ) × (slice_get (before ++ n ∷ after) i ≡ Some n)
at_middle [] after n = (0, refl)
at_middle (x ∷ xs) after n = let h = at_middle xs after n in (suc h.0, h.1)

in_place : (names before after : List (List ℕ)) (n : List ℕ) → names ≡ before ++ n ∷ after → Contains names n
in_place names before after n e = let at = at_middle before after n in contains_at names at.0 n (ap (λ (l : List (List ℕ)). slice_get l at.0) e ∙ at.1)

pub missing_causes : (plugged : Plugged) (old new : FolderState) (b : Blueprint) (plans : List (Option (List ℕ))) (trace : Option (List ℕ)) (turns : ℕ) (n : List ℕ) (s : Status) (a : Answer) → (MissesInput old new (inputs_of_nodes b.nodes.items) n) ⊎ (RefusesOutput old new (inputs_of_nodes b.nodes.items) (written_files b trace) n) → s ≡ status.Missing n → RunCauses plugged s a b plans trace turns old new
missing_causes plugged old new b plans trace turns n s a (inl h) is = subst (λ x. RunCauses plugged x a b plans trace turns old new) (sym is) (inl (in_place (inputs_of_nodes b.nodes.items) h.before h.after n h.place, h.why), h.refusals, h.rfaults, h.wfaults)
missing_causes plugged old new b plans trace turns n s a (inr h) is = subst (λ x. RunCauses plugged x a b plans trace turns old new) (sym is) (inr (in_place (written_files b trace) h.before h.after n h.place, h.rose), h.refusals, h.rfaults, h.wfaults)

pub wanted_causes : (plugged : Plugged) (old new : FolderState) (b : Blueprint) (plans : List (Option (List ℕ))) (trace : Option (List ℕ)) (turns : ℕ) (s : Status) (a : Answer) → Wants plugged.book old new b trace → s ≡ status.NoMemory → RunCauses plugged s a b plans trace turns old new
wanted_causes plugged old new b plans trace turns s a (inl h) is = subst (λ x. RunCauses plugged x a b plans trace turns old new) (sym is) (h.refusals, (λ n never. h.rfaults n), (λ n never. h.wfaults n))
wanted_causes plugged old new b plans trace turns s a (inr h) is = subst (λ x. RunCauses plugged x a b plans trace turns old new) (sym is) (h.refusals, h.reads, h.other_writes)
