-- Islands of a blueprint that were taken apart as they started hand its handles back.
use Rattle.std.specs.Prelude.{All, slice_get}
use Rattle.std.proofs.Common.{◌≡◌, ℕ, ◌<◌, List, length, map, Some, ap, sym, subst, ◌∙◌, arith}
use Rattle.std.proofs.lemmas.Option.{slice_get_within}
use Rattle.stream_io.specs.State.{SourceState, DrainState}
use Rattle.stream_model.specs.declared.blueprint.Blueprint.{Blueprint}
use Rattle.stream_model.specs.declared.blueprint.Node.{Node}
use Rattle.interpreter.specs.declared.island.IslandEnd.{IslandEnd}
use Rattle.interpreter.specs.Handles.{sources_in, drains_in}
use Rattle.scatter.specs.Shares.{of_home}
use Rattle.materializer.specs.Graphs.{around_of}
use Rattle.materializer.proofs.Placing.{seats_count}
use Rattle.island_parts.specs.Starts.{AllGiveBack}
use Rattle.island_parts.specs.Ends.{homes_left, AreHandlesOf}
use Rattle.island_parts.proofs.EndsJoining.{at_place}
use Rattle.island_parts.proofs.Leaving.{all_left, those_count}
use Rattle.island_plans.specs.Plans.{IsFilled}
use Rattle.island_plans.specs.declared.plans.Filled.{Filled}
use Rattle.island_runs.proofs.Handles.{source_at, drain_at, sources_are, drains_are, source_share, drain_share, source_homes, drain_homes}
use Rattle.island_runs.proofs.Sharing.{make_all, same_all}

module _ {S D L H B : Type 0} (sources : S → SourceState) (drains : D → DrainState) (b : Blueprint) (ss : List S) (ds : List D) (f : Filled S D L H B) (ends : List (IslandEnd S D)) (fl : IsFilled b ss ds f) (gb : AllGiveBack sources drains f.islands.items ends) where
  abbrev ns : List Node
  ns = b.nodes.items

  abbrev homes : List ℕ
  homes = f.homes.items

  abbrev read : List ℕ
  read = f.ends.readers.items

  abbrev written : List ℕ
  written = f.ends.writers.items

  each : length fl.nodes ≡ length homes
  each = seats_count (around_of b) 0 ns ss ds fl.nodes fl.seats ∙ sym fl.homes_are.are.each

  below : All (λ h. h < length ends) homes
  below = subst (λ n. All (λ h. h < n) homes) (sym (gb.many ∙ fl.many)) fl.homes_are.below

  -- the homes of the handles

  read_are : read ≡ homes_left source_at homes fl.nodes
  read_are = fl.ends_are.readers_are ∙ source_homes (around_of b) 0 ns ss ds fl.nodes homes fl.seats

  written_are : written ≡ homes_left drain_at homes fl.nodes
  written_are = fl.ends_are.writers_are ∙ drain_homes (around_of b) 0 ns ss ds fl.nodes homes fl.seats

  read_below : All (λ h. h < length ends) read
  read_below = subst (λ hs. All (λ h. h < length ends) hs) (sym read_are) (all_left source_at (λ h. h < length ends) homes fl.nodes below)

  written_below : All (λ h. h < length ends) written
  written_below = subst (λ hs. All (λ h. h < length ends) hs) (sym written_are) (all_left drain_at (λ h. h < length ends) homes fl.nodes below)

  read_each : length ss ≡ length read
  read_each = ap length (sym fl.sources_are ∙ sources_are fl.nodes) ∙ those_count source_at homes fl.nodes each ∙ ap length (sym read_are)

  written_each : length ds ≡ length written
  written_each = ap length (sym fl.drains_are ∙ drains_are fl.nodes) ∙ those_count drain_at homes fl.nodes each ∙ ap length (sym written_are)

  -- each island's handles look as its share of those that were handed in

  read_back : (k : ℕ) (e : IslandEnd S D) → slice_get ends k ≡ Some e → map sources e.readers.items ≡ map sources (of_home read k ss)
  read_back k e t =
      let within : k < length ends = slice_get_within ends k e t in
      let x = at_place f.islands.items k (omega (arith, within, gb.many)) in
      (gb.each k x.0 e x.1 t).readers
      ∙ ap (map sources) (ap sources_in (fl.each k x.0 x.1).nodes_are ∙ source_share homes f.lanes.items fl.nodes each k ∙ ap (of_home (homes_left source_at homes fl.nodes) k) fl.sources_are ∙ ap (λ hs. of_home hs k ss) (sym read_are))

  written_back : (k : ℕ) (e : IslandEnd S D) → slice_get ends k ≡ Some e → map drains e.writers.items ≡ map drains (of_home written k ds)
  written_back k e t =
      let within : k < length ends = slice_get_within ends k e t in
      let x = at_place f.islands.items k (omega (arith, within, gb.many)) in
      (gb.each k x.0 e x.1 t).writers
      ∙ ap (map drains) (ap drains_in (fl.each k x.0 x.1).nodes_are ∙ drain_share homes f.lanes.items fl.nodes each k ∙ ap (of_home (homes_left drain_at homes fl.nodes) k) fl.drains_are ∙ ap (λ hs. of_home hs k ds) (sym written_are))

  -- they are the shares of one list
  pub hand_back : (readers : List S) × ((writers : List D) × AreHandlesOf f.ends readers writers ends)
  hand_back =
      let r = make_all sources (λ (e : IslandEnd S D). e.readers) ends read ss read_below read_each read_back in
      let w = make_all drains (λ (e : IslandEnd S D). e.writers) ends written ds written_below written_each written_back in (
        r.0,
        (
          w.0,
          record {
            readers_below = read_below;
            writers_below = written_below;
            readers_each = r.1.each;
            writers_each = w.1.each;
            reader_shares = r.1.shares;
            writer_shares = w.1.shares;
          },
        ),
      )

  -- and whatever list that is, its handles are as they were handed in
  pub as_handed_in : (readers : List S) (writers : List D) → AreHandlesOf f.ends readers writers ends → (map sources readers ≡ map sources ss) × (map drains writers ≡ map drains ds)
  as_handed_in readers writers a = (
    same_all sources (λ (e : IslandEnd S D). e.readers) ends read ss read_below read_each read_back readers (record { each = a.readers_each; shares = a.reader_shares }),
    same_all drains (λ (e : IslandEnd S D). e.writers) ends written ds written_below written_each written_back writers (record { each = a.writers_each; shares = a.writer_shares }),
  )
