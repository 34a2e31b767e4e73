-- The blank tables of islands: how many rows each has, and the loop that makes them.
use Rattle.std.proofs.Common.{◌≡◌, ℕ, ◌<◌, List, length, map, refl, ap, sym, ◌∙◌, subst, arith}
use Rattle.std.specs.Prelude.{slice_index, replicate}
use Rattle.std.specs.List.{All}
use Rattle.std.specs.declared.vec.Vec.{Vec}
use Rattle.std.specs.declared.alloc.Global.{Global}
use Rattle.std.proofs.lemmas.List.Elements.{All-append}
use Rattle.std.proofs.lemmas.Option.{slice_get_within}
use Rattle.scatter.specs.Shares.{share_of, AreRanks}
use Rattle.blue_check.specs.declared.plan.LanePlan.{LanePlan}
use Rattle.island_plans.specs.LaneEnds.{CanAllBeMade}
use Rattle.island_plans.proofs.LaneHomes.{homes_below}
use Rattle.island_body.specs.declared.way.Way.{Way}
use Rattle.island_body.specs.declared.way.Way.TheVariants.{Inner}
use Rattle.island_plans.specs.Making.{way_homes, AreTables, AreBlank}
use Rattle.island_plans.proofs.Making.{EachIs}

-- the table at a place is a blank one with so many rows
abbrev pub TableAt : List ℕ → ℕ → Vec Way Global → Type 0
TableAt counts k t = t.items ≡ replicate (slice_index counts k) Inner

-- the tables of the first n islands
pub record TablesTo (counts : List ℕ) (n : ℕ) (tables : List (Vec Way Global)) : Type 0 where
  pub many : length tables ≡ n
  pub each : EachIs (TableAt counts) tables

-- the islands of all connections are there
pub ways_below : (wires : List ℕ) (lanes : List LanePlan) (count : ℕ) (homes : List ℕ) → homes ≡ way_homes wires lanes → All (λ h. h < count) wires → CanAllBeMade count lanes → All (λ h. h < count) homes
ways_below wires lanes count homes is below made =
    subst (All (λ h. h < count)) (sym is) (All-append (λ h. h < count) wires (map (λ (l : LanePlan). l.to) lanes) below (homes_below lanes (λ (l : LanePlan). l.to) count (map (λ (l : LanePlan). l.to) lanes) refl (λ n l at. (made n l at).to_there)))

-- tables with as many rows as connections have their homes in each island
pub all_blank : (homes seen : List ℕ) (count : ℕ) (ranks counts given : List ℕ) (tables : List (Vec Way Global)) → seen ≡ homes → AreRanks seen count ranks counts → given ≡ counts → AreTables given tables → AreBlank homes count tables
all_blank homes seen count ranks counts given tables same r is t =
    let size : length given ≡ length counts = ap length is in
    record {
      many = omega (arith, size, t.many, r.many);
      each = λ k v at.
          let lt : k < length tables = slice_get_within tables k v at in
          let row : slice_index counts k ≡ share_of k seen = r.counts_are k (omega (arith, lt, size, t.many, r.many)) in
          t.each k v at ∙ (ap (λ (l : List ℕ). replicate (slice_index l k) Inner) is ∙ (ap (λ n. replicate n Inner) row ∙ ap (λ l. replicate (share_of k l) Inner) same));
    }
