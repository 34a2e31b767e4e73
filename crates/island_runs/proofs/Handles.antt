-- The handles at the places of a blueprint's islands.
use Rattle.std.specs.Prelude.{slice_get, is_some, if◌then◌else◌}
use Rattle.std.proofs.Common.{◌≡◌, ℕ, zero, suc, ◌+◌, Bool, true, false, List, [], ◌∷◌, ◌++◌, length, map, Option, Some, None, refl, ap, sym, ◌∙◌}
use Rattle.stream_model.specs.declared.kind.Kind.{Kind}
use Rattle.stream_model.specs.declared.kind.Kind.TheVariants as kind
use Rattle.nodes.specs.Kinds.{IsFileSink, IsMaker}
use Rattle.stage_linear.specs.States.{IsLinear}
use Rattle.stage_state.specs.Logics.{IsStateful}
use Rattle.stage_sub.specs.Handling.{IsSub}
use Rattle.stage_in.specs.Logics.{IsFanIn}
use Rattle.stage_out.specs.OutLogics.{IsOut}
use Rattle.interpreter.specs.declared.parts.Seated.{Seated}
use Rattle.interpreter.specs.declared.parts.Work.{Work}
use Rattle.interpreter.specs.declared.parts.Work.TheVariants as work
use Rattle.interpreter.specs.Handles.{with_source, with_drain, sources_in, drains_in}
use Rattle.stream_model.specs.declared.blueprint.Node.{Node}
use Rattle.blue_check.specs.declared.plan.LanePlan.{LanePlan}
use Rattle.scatter.specs.Shares.{of_home}
use Rattle.island_parts.specs.Whole.{in_seat, out_seat, whole_homes, whole_seats}
use Rattle.materializer.specs.Graphs.{Around}
use Rattle.materializer.specs.Files.{source_file, output_of}
use Rattle.materializer.specs.Seats.{handle_of, IsWork, AreSeats}
use Rattle.materializer.proofs.Placing.{reads_lines, maker_no_file, linear_no_file, state_no_file, sub_no_file, fan_in_no_file, fan_out_no_file}
use Rattle.island_parts.specs.Ends.{with_home, homes_left, leaves_something}
use Rattle.island_parts.proofs.Behind.{homes_behind, no_more}
use Rattle.island_parts.proofs.Leaving.{with_one, those, share_those}
use Rattle.island_plans.specs.Ends.{leaves_in, homes_in}
use Rattle.island_plans.specs.declared.ends.EndList.{EndList}
use Rattle.island_plans.specs.declared.ends.EndList.TheVariants.{Readers, Writers}

-- ---- what leaves nothing behind what does

none_mapped : {L X Y : Type 0} (f : X → Option Y) (m : L → X) → ((l : L) → f (m l) ≡ None) → (ls : List L) (k : ℕ) (x : X) → slice_get (map m ls) k ≡ Some x → f x ≡ None
none_mapped f m h [] k x e = absurd cc
none_mapped f m h (l ∷ ls) zero x e = let same : m l ≡ x = cc in ap f (sym same) ∙ h l
none_mapped f m h (l ∷ ls) (suc k) x e = none_mapped f m h ls k x e

none_both : {X Y : Type 0} (f : X → Option Y) (xs ys : List X) → ((k : ℕ) (x : X) → slice_get xs k ≡ Some x → f x ≡ None) → ((k : ℕ) (x : X) → slice_get ys k ≡ Some x → f x ≡ None) → (k : ℕ) (x : X) → slice_get (xs ++ ys) k ≡ Some x → f x ≡ None
none_both f [] ys a b k x e = b k x e
none_both f (y ∷ xs) ys a b zero x e = a zero x e
none_both f (y ∷ xs) ys a b (suc k) x e = none_both f xs ys (λ j z t. a (suc j) z t) b k x e

-- what those of an island leave is the share of it
share_left : {X Y : Type 0} (f : X → Option Y) (homes others : List ℕ) (xs more : List X) → length xs ≡ length homes → ((k : ℕ) (x : X) → slice_get more k ≡ Some x → f x ≡ None) → (k : ℕ) → those f (of_home (homes ++ others) k (xs ++ more)) ≡ of_home (homes_left f homes xs) k (those f xs)
share_left f homes others xs more each none k =
    share_those f (homes ++ others) k (xs ++ more)
    ∙ ap (λ hs. of_home hs k (those f (xs ++ more))) (homes_behind f homes others xs more each none)
    ∙ ap (of_home (homes_left f homes xs) k) (no_more f xs more none)

none_left : {X Y : Type 0} (f : X → Option Y) (homes : List ℕ) → homes_left f homes [] ≡ []
none_left f [] = refl
none_left f (h ∷ homes) = refl

one_home : {Y : Type 0} (o : Option Y) (b : Bool) (h : ℕ) (hs gs : List ℕ) → b ≡ leaves_something o → hs ≡ gs → with_home o h hs ≡ (if b then h ∷ [] else []) ++ gs
one_home None true h hs gs e same = cc
one_home None false h hs gs e same = same
one_home (Some y) true h hs gs e same = ap (λ t. h ∷ t) same
one_home (Some y) false h hs gs e same = cc

-- ---- nodes with a file

handle_some : {X : Type 0} (o : Option (List ℕ)) (xs : List X) (x : X) → handle_of o xs ≡ Some x → is_some o ≡ true
handle_some None xs x e = cc
handle_some (Some file) xs x e = refl

no_input : (P : Kind → Type 0) → ((name : List ℕ) → P (kind.Lines name) → ⊥) → (k : Kind) → P k → is_some (source_file k) ≡ false
no_input P a (kind.Lines file) h = absurd (a file h)
no_input P a _ h = refl

none_of : (o : Option (List ℕ)) → ((name : List ℕ) → o ≡ Some name → ⊥) → is_some o ≡ false
none_of None h = refl
none_of (Some name) h = absurd (h name refl)

module _ {S D L H B : Type 0} where
  -- the source of a work, and its drain
  abbrev source_of : Work S D L H B → Option S
  source_of (work.Reading r) = Some r.source
  source_of (work.Making shape) = None
  source_of (work.Linear l) = None
  source_of (work.State l) = None
  source_of (work.Sub l) = None
  source_of (work.FanIn l inputs) = None
  source_of (work.FanOut l outputs) = None
  source_of (work.Custom l inputs outputs) = None
  source_of (work.Writing shape d) = None
  source_of (work.LaneIn u) = None
  source_of (work.LaneOut u) = None

  abbrev drain_of : Work S D L H B → Option D
  drain_of (work.Reading r) = None
  drain_of (work.Making shape) = None
  drain_of (work.Linear l) = None
  drain_of (work.State l) = None
  drain_of (work.Sub l) = None
  drain_of (work.FanIn l inputs) = None
  drain_of (work.FanOut l outputs) = None
  drain_of (work.Custom l inputs outputs) = None
  drain_of (work.Writing shape d) = d
  drain_of (work.LaneIn u) = None
  drain_of (work.LaneOut u) = None

  abbrev pub source_at : Seated S D L H B → Option S
  source_at p = source_of p.work

  abbrev pub drain_at : Seated S D L H B → Option D
  drain_at p = drain_of p.work

  source_first : (w : Work S D L H B) (rest : List S) → with_source w rest ≡ with_one (source_of w) rest
  source_first (work.Reading r) rest = refl
  source_first (work.Making shape) rest = refl
  source_first (work.Linear l) rest = refl
  source_first (work.State l) rest = refl
  source_first (work.Sub l) rest = refl
  source_first (work.FanIn l inputs) rest = refl
  source_first (work.FanOut l outputs) rest = refl
  source_first (work.Custom l inputs outputs) rest = refl
  source_first (work.Writing shape d) rest = refl
  source_first (work.LaneIn u) rest = refl
  source_first (work.LaneOut u) rest = refl

  drain_first : (w : Work S D L H B) (rest : List D) → with_drain w rest ≡ with_one (drain_of w) rest
  drain_first (work.Reading r) rest = refl
  drain_first (work.Making shape) rest = refl
  drain_first (work.Linear l) rest = refl
  drain_first (work.State l) rest = refl
  drain_first (work.Sub l) rest = refl
  drain_first (work.FanIn l inputs) rest = refl
  drain_first (work.FanOut l outputs) rest = refl
  drain_first (work.Custom l inputs outputs) rest = refl
  drain_first (work.Writing shape (Some d)) rest = refl
  drain_first (work.Writing shape None) rest = refl
  drain_first (work.LaneIn u) rest = refl
  drain_first (work.LaneOut u) rest = refl

  -- the handles of places are what they leave
  pub sources_are : (ps : List (Seated S D L H B)) → sources_in ps ≡ those source_at ps
  sources_are [] = refl
  sources_are (p ∷ ps) = source_first p.work (sources_in ps) ∙ ap (with_one (source_of p.work)) (sources_are ps)

  pub drains_are : (ps : List (Seated S D L H B)) → drains_in ps ≡ those drain_at ps
  drains_are [] = refl
  drains_are (p ∷ ps) = drain_first p.work (drains_in ps) ∙ ap (with_one (drain_of p.work)) (drains_are ps)

  -- ---- the places of an island

  no_source : (lanes : List LanePlan) (k : ℕ) (p : Seated S D L H B) → slice_get (map in_seat lanes ++ map out_seat lanes) k ≡ Some p → source_at p ≡ None
  no_source lanes = none_both source_at (map in_seat lanes) (map out_seat lanes) (none_mapped source_at in_seat (λ l. refl) lanes) (none_mapped source_at out_seat (λ l. refl) lanes)

  no_drain : (lanes : List LanePlan) (k : ℕ) (p : Seated S D L H B) → slice_get (map in_seat lanes ++ map out_seat lanes) k ≡ Some p → drain_at p ≡ None
  no_drain lanes = none_both drain_at (map in_seat lanes) (map out_seat lanes) (none_mapped drain_at in_seat (λ l. refl) lanes) (none_mapped drain_at out_seat (λ l. refl) lanes)

  -- its handles are the shares of those of the nodes
  pub source_share : (homes : List ℕ) (lanes : List LanePlan) (nodes : List (Seated S D L H B)) → length nodes ≡ length homes → (k : ℕ) → sources_in (of_home (whole_homes homes lanes) k (whole_seats nodes lanes)) ≡ of_home (homes_left source_at homes nodes) k (sources_in nodes)
  source_share homes lanes nodes each k =
      sources_are (of_home (whole_homes homes lanes) k (whole_seats nodes lanes))
      ∙ share_left source_at homes (map (λ (l : LanePlan). l.to) lanes ++ map (λ (l : LanePlan). l.from) lanes) nodes (map in_seat lanes ++ map out_seat lanes) each (no_source lanes) k
      ∙ ap (of_home (homes_left source_at homes nodes) k) (sym (sources_are nodes))

  pub drain_share : (homes : List ℕ) (lanes : List LanePlan) (nodes : List (Seated S D L H B)) → length nodes ≡ length homes → (k : ℕ) → drains_in (of_home (whole_homes homes lanes) k (whole_seats nodes lanes)) ≡ of_home (homes_left drain_at homes nodes) k (drains_in nodes)
  drain_share homes lanes nodes each k =
      drains_are (of_home (whole_homes homes lanes) k (whole_seats nodes lanes))
      ∙ share_left drain_at homes (map (λ (l : LanePlan). l.to) lanes ++ map (λ (l : LanePlan). l.from) lanes) nodes (map in_seat lanes ++ map out_seat lanes) each (no_drain lanes) k
      ∙ ap (of_home (homes_left drain_at homes nodes) k) (sym (drains_are nodes))

  -- ---- the homes of handles

  -- a node has a source where it is a source of lines, and a drain where it is a sink with a file
  reads_if : (around : Around) (k : ℕ) (n : Node) (ss : List S) (ds : List D) (w : Work S D L H B) → IsWork around k n ss ds w → leaves_in Readers n ≡ leaves_something (source_of w)
  reads_if around k n ss ds (work.Reading r) is = handle_some (source_file n.kind) ss r.source is.source
  reads_if around k n ss ds (work.Making shape) is = no_input IsMaker (λ _ i. i) n.kind is.is_maker
  reads_if around k n ss ds (work.Linear l) is = no_input IsLinear (λ _ i. i) n.kind is.is_linear
  reads_if around k n ss ds (work.State l) is = no_input IsStateful (λ _ i. i) n.kind is.is_state
  reads_if around k n ss ds (work.Sub l) is = no_input IsSub (λ _ i. i) n.kind is.is_sub
  reads_if around k n ss ds (work.FanIn l inputs) is = no_input IsFanIn (λ _ i. i) n.kind is.is_in
  reads_if around k n ss ds (work.FanOut l outputs) is = no_input IsOut (λ _ i. i) n.kind is.is_out
  reads_if around k n ss ds (work.Custom x inputs outputs) is = ap (λ q. is_some (source_file q)) is.0.is_custom.1
  reads_if around k n ss ds (work.LaneIn u) is = absurd is
  reads_if around k n ss ds (work.LaneOut u) is = absurd is
  reads_if around k n ss ds (work.Writing shape (Some d)) is = no_input IsFileSink (λ _ i. i) n.kind is.is_sink
  reads_if around k n ss ds (work.Writing shape None) is = ap (λ q. is_some (source_file q)) is.is_ignore

  writes_if : (around : Around) (k : ℕ) (n : Node) (ss : List S) (ds : List D) (w : Work S D L H B) → IsWork around k n ss ds w → leaves_in Writers n ≡ leaves_something (drain_of w)
  writes_if around k n ss ds (work.Reading r) is = let l = reads_lines n.kind ss r.source is.source in ap (λ q. is_some (output_of q)) l.1
  writes_if around k n ss ds (work.Making shape) is = none_of _ (λ name e. maker_no_file n.kind name is.is_maker e)
  writes_if around k n ss ds (work.Linear l) is = none_of _ (λ name e. linear_no_file n.kind name is.is_linear e)
  writes_if around k n ss ds (work.State l) is = none_of _ (λ name e. state_no_file n.kind name is.is_state e)
  writes_if around k n ss ds (work.Sub l) is = none_of _ (λ name e. sub_no_file n.kind name is.is_sub e)
  writes_if around k n ss ds (work.FanIn l inputs) is = none_of _ (λ name e. fan_in_no_file n.kind name is.is_in e)
  writes_if around k n ss ds (work.FanOut l outputs) is = none_of _ (λ name e. fan_out_no_file n.kind name is.is_out e)
  writes_if around k n ss ds (work.Custom x inputs outputs) is = ap (λ q. is_some (output_of q)) is.0.is_custom.1
  writes_if around k n ss ds (work.LaneIn u) is = absurd is
  writes_if around k n ss ds (work.LaneOut u) is = absurd is
  writes_if around k n ss ds (work.Writing shape (Some d)) is = handle_some (output_of n.kind) ds d is.next
  writes_if around k n ss ds (work.Writing shape None) is = ap (λ q. is_some (output_of q)) is.is_ignore

  -- so what is told of the nodes of a blueprint holds of their places
  -- the homes of the nodes that leave an item in a list are those of their places
  homes_of : {Y : Type 0} (list : EndList) (f : Seated S D L H B → Option Y) (around : Around) → ((k : ℕ) (n : Node) (ss : List S) (ds : List D) (p : Seated S D L H B) → IsWork around k n ss ds p.work → leaves_in list n ≡ leaves_something (f p)) → (k : ℕ) (ns : List Node) (ss : List S) (ds : List D) (ps : List (Seated S D L H B)) (homes : List ℕ) → AreSeats around k ns ss ds ps
      → homes_in list ns homes ≡ homes_left f homes ps
  homes_of list f around each k [] ss ds [] homes a = sym (none_left f homes)
  homes_of list f around each k [] ss ds (p ∷ ps) homes a = absurd a
  homes_of list f around each k (n ∷ ns) ss ds [] homes a = absurd a
  homes_of list f around each k (n ∷ ns) ss ds (p ∷ ps) [] a = refl
  homes_of list f around each k (n ∷ ns) ss ds (p ∷ ps) (h ∷ homes) a = sym (one_home (f p) (leaves_in list n) h (homes_left f homes ps) (homes_in list ns homes) (each k n ss ds p a.1.0) (sym (homes_of list f around each (k + 1) ns _ _ ps homes a.1.1)))

  pub source_homes : (around : Around) (k : ℕ) (ns : List Node) (ss : List S) (ds : List D) (ps : List (Seated S D L H B)) (homes : List ℕ) → AreSeats around k ns ss ds ps → homes_in Readers ns homes ≡ homes_left source_at homes ps
  source_homes around = homes_of Readers source_at around (λ k n ss ds p. reads_if around k n ss ds p.work)

  pub drain_homes : (around : Around) (k : ℕ) (ns : List Node) (ss : List S) (ds : List D) (ps : List (Seated S D L H B)) (homes : List ℕ) → AreSeats around k ns ss ds ps → homes_in Writers ns homes ≡ homes_left drain_at homes ps
  drain_homes around = homes_of Writers drain_at around (λ k n ss ds p. writes_if around k n ss ds p.work)
