-- What the islands leave of each kind, and all of it.
use Rattle.std.specs.Prelude.{All, slice_get, slice_index}
use Rattle.std.proofs.Common.{◌≡◌, ℕ, zero, suc, ◌<◌, List, [], ◌∷◌, ◌++◌, length, map, take, vec_len, Option, Some, refl, ap, sym, subst, ◌∙◌, arith}
use Rattle.std.specs.declared.vec.Vec.{Vec}
use Rattle.std.specs.declared.alloc.Global.{Global}
use Rattle.std.proofs.lemmas.List.{length-map}
use Rattle.stream_model.specs.declared.outcome.EndState.{EndState}
use Rattle.stream_model.specs.declared.outcome.PickList.{PickList}
use Rattle.stream_model.specs.declared.outcome.WireCount.{WireCount}
use Rattle.stage_switch.specs.Public.{SeatState}
use Rattle.nodes.specs.Nodes.{node_picks, node_seat}
use Rattle.interpreter.specs.declared.island.IslandEnd.{IslandEnd}
use Rattle.interpreter.specs.Island.{sinks_of, readers_of, writers_of}
use Rattle.interpreter.specs.Picks.{pick_of, picks_of}
use Rattle.interpreter.specs.Seats.{seats_of}
use Rattle.scatter.specs.Shares.{of_home, share_of, items_at, AreShares, AreWhole}
use Rattle.scatter.proofs.Sharing.{share_count}
use Rattle.island_parts.specs.Ends.{Whole, AreEndsOf, homes_left, sink_of, reader_of, writer_of}
use Rattle.island_parts.proofs.Leaving.{those, share_those, those_count, all_left, items_of, whole, gathered}
use Rattle.island_parts.proofs.OfNodes.{sinks_are, readers_are, writers_are, numbered, pick_at, picks_are, pick_homes, seat_at, seats_are, seat_homes, numbered_count, share_numbered}

map_same : {X : Type 0} (xs : List X) → map (λ x. x) xs ≡ xs
map_same [] = refl
map_same (x ∷ xs) = ap (λ t. x ∷ t) (map_same xs)

take_front : {X : Type 0} (xs ys : List X) → take (length xs) (xs ++ ys) ≡ xs
take_front [] [] = refl
take_front [] (y ∷ ys) = refl
take_front (x ∷ xs) ys = ap (λ t. x ∷ t) (take_front xs ys)

-- an item stands at each place
pub at_place : {X : Type 0} (xs : List X) (k : ℕ) → k < length xs → (x : X) × (slice_get xs k ≡ Some x)
at_place [] k l = absurd (omega (arith, l))
at_place (x ∷ xs) zero l = (x, refl)
at_place (x ∷ xs) (suc k) l = at_place xs k (omega (arith, l))

-- the items of the list of the end at a place
pub items_there : {E Z : Type 0} (g : E → Vec Z Global) (ends : List E) (k : ℕ) (e : E) → slice_get ends k ≡ Some e → items_at (map g ends) k ≡ (g e).items
items_there g [] k e t = cc
items_there g (x ∷ ends) zero e t = let s : x ≡ e = cc in ap (λ y. (g y).items) s
items_there g (x ∷ ends) (suc k) e t = items_there g ends k e t

-- the lists can be gathered, and all of it is in what is gathered
abbrev pub Joins : {Y Z : Type 0} → (Z → Y) → List ℕ → List (Vec Z Global) → List Y → Type 0
Joins v hs lists ys = (AreWhole hs lists) × ((r : List _) → AreShares hs r lists → map v r ≡ ys)

-- the same where each list is known by the share that it is
pub join_shares : {E Z : Type 0} (g : E → Vec Z Global) (ends : List E) (homes : List ℕ) (ys : List Z) → All (λ h. h < length ends) homes → length ys ≡ length homes → ((k : ℕ) (e : E) → slice_get ends k ≡ Some e → (g e).items ≡ of_home homes k ys)
    → (hs : List ℕ) → hs ≡ homes → (lists : List (Vec Z Global)) → lists ≡ map g ends → (AreWhole hs lists) × ((r : List Z) → AreShares hs r lists → r ≡ ys)
join_shares {Z = Z} g ends homes ys below each shares hs eh lists el =
    let many = length-map ends g in
    let under : All (λ h. h < length (map g ends)) homes = subst (λ m. All (λ h. h < m) homes) (sym many) below in
    let is : (k : ℕ) → k < length (map g ends) → map (λ (z : Z). z) (items_at (map g ends) k) ≡ of_home homes k ys =
    λ k l. items_of (λ (z : Z). z) g ends k (of_home homes k ys) (omega (arith, l, many)) (λ e t. map_same (g e).items ∙ shares k e t) in
    let w : AreWhole homes lists = subst (AreWhole homes) (sym el) (whole (λ (z : Z). z) homes ys (map g ends) under each is) in
    (subst (λ hs. AreWhole hs lists) (sym eh) w, λ r s. sym (map_same r) ∙ gathered (λ (z : Z). z) homes ys (map g ends) under each is r (subst (AreShares homes r) el (subst (λ hs. AreShares hs r lists) eh s)))

module _ {S D L H B : Type 0} (w : Whole S D L H B) (ends : List (IslandEnd S D)) (a : AreEndsOf w ends) where
  joins : {X Y Z : Type 0} (v : Z → Y) (g : IslandEnd S D → Vec Z Global) (f : X → Option Y) (xs : List X) → length xs ≡ length w.homes → ((k : ℕ) (e : IslandEnd S D) → slice_get ends k ≡ Some e → map v (g e).items ≡ those f (of_home w.homes k xs))
      → (hs : List ℕ) → hs ≡ homes_left f w.homes xs → (lists : List (Vec Z Global)) → lists ≡ map g ends → Joins v hs lists (those f xs)
  joins v g f xs n h hs eh lists el =
      let many = length-map ends g in
      let below : All (λ i. i < length (map g ends)) (homes_left f w.homes xs) = subst (λ m. All (λ i. i < m) (homes_left f w.homes xs)) (sym many) (all_left f (λ i. i < length ends) w.homes xs a.below) in
      let each = those_count f w.homes xs n in
      let is : (k : ℕ) → k < length (map g ends) → map v (items_at (map g ends) k) ≡ of_home (homes_left f w.homes xs) k (those f xs) = λ k l. items_of v g ends k (those f (of_home w.homes k xs)) (omega (arith, l, many)) (h k) ∙ share_those f w.homes k xs in
      subst (λ x. Joins v x lists (those f xs)) (sym eh) (subst (λ y. Joins v (homes_left f w.homes xs) y (those f xs)) (sym el) (whole v (homes_left f w.homes xs) (those f xs) (map g ends) below each is, gathered v (homes_left f w.homes xs) (those f xs) (map g ends) below each is))

  pub join_sinks : (hs : List ℕ) → hs ≡ homes_left sink_of w.homes w.nodes → (lists : List (Vec (ℕ × ℕ × EndState) Global)) → lists ≡ map (λ (e : IslandEnd S D). e.sinks) ends → (AreWhole hs lists) × ((r : List (ℕ × ℕ × EndState)) → AreShares hs r lists → r ≡ sinks_of w.nodes)
  join_sinks hs eh lists el =
      let j = joins (λ x. x) (λ (e : IslandEnd S D). e.sinks) sink_of w.nodes a.nodes_each (λ k e t. map_same _ ∙ ((a.each k e t).sinks ∙ sinks_are (of_home w.homes k w.nodes))) hs eh lists el in
      (j.0, λ r s. sym (map_same r) ∙ (j.1 r s ∙ sym (sinks_are w.nodes)))

  pub join_readers : (hs : List ℕ) → hs ≡ homes_left reader_of w.homes w.nodes → (lists : List (Vec S Global)) → lists ≡ map (λ (e : IslandEnd S D). e.readers) ends → (AreWhole hs lists) × ((r : List S) → AreShares hs r lists → r ≡ readers_of w.nodes)
  join_readers hs eh lists el =
      let j = joins (λ x. x) (λ (e : IslandEnd S D). e.readers) reader_of w.nodes a.nodes_each (λ k e t. map_same _ ∙ ((a.each k e t).readers ∙ readers_are (of_home w.homes k w.nodes))) hs eh lists el in
      (j.0, λ r s. sym (map_same r) ∙ (j.1 r s ∙ sym (readers_are w.nodes)))

  pub join_writers : (hs : List ℕ) → hs ≡ homes_left writer_of w.homes w.nodes → (lists : List (Vec D Global)) → lists ≡ map (λ (e : IslandEnd S D). e.writers) ends → (AreWhole hs lists) × ((r : List D) → AreShares hs r lists → r ≡ writers_of w.nodes)
  join_writers hs eh lists el =
      let j = joins (λ x. x) (λ (e : IslandEnd S D). e.writers) writer_of w.nodes a.nodes_each (λ k e t. map_same _ ∙ ((a.each k e t).writers ∙ writers_are (of_home w.homes k w.nodes))) hs eh lists el in
      (j.0, λ r s. sym (map_same r) ∙ (j.1 r s ∙ sym (writers_are w.nodes)))

  pub join_picks : (hs : List ℕ) → hs ≡ homes_left node_picks w.homes w.nodes → (lists : List (Vec PickList Global)) → lists ≡ map (λ (e : IslandEnd S D). e.picks) ends → (AreWhole hs lists) × ((r : List PickList) → AreShares hs r lists → map pick_of r ≡ picks_of w.numbers w.nodes)
  join_picks hs eh lists el =
      let xs = numbered w.numbers w.nodes in
      let j = joins pick_of (λ (e : IslandEnd S D). e.picks) pick_at xs (numbered_count w.homes w.numbers w.nodes a.numbers_each a.nodes_each)
      (λ k e t. (a.each k e t).picks ∙ (picks_are (of_home w.homes k w.numbers) (of_home w.homes k w.nodes) ∙ ap (those pick_at) (sym (share_numbered w.homes w.numbers k w.nodes a.numbers_each a.nodes_each))))
      hs (eh ∙ pick_homes w.homes w.numbers w.nodes a.numbers_each a.nodes_each) lists el in
      (j.0, λ r s. j.1 r s ∙ sym (picks_are w.numbers w.nodes))

  pub join_seats : (hs : List ℕ) → hs ≡ homes_left node_seat w.homes w.nodes → (lists : List (Vec (ℕ × SeatState) Global)) → lists ≡ map (λ (e : IslandEnd S D). e.seats) ends → (AreWhole hs lists) × ((r : List (ℕ × SeatState)) → AreShares hs r lists → r ≡ seats_of w.numbers w.nodes)
  join_seats hs eh lists el =
      let xs = numbered w.numbers w.nodes in
      let j = joins (λ x. x) (λ (e : IslandEnd S D). e.seats) seat_at xs (numbered_count w.homes w.numbers w.nodes a.numbers_each a.nodes_each)
      (λ k e t. map_same _ ∙ ((a.each k e t).seats ∙ (seats_are (of_home w.homes k w.numbers) (of_home w.homes k w.nodes) ∙ ap (those seat_at) (sym (share_numbered w.homes w.numbers k w.nodes a.numbers_each a.nodes_each)))))
      hs (eh ∙ seat_homes w.homes w.numbers w.nodes a.numbers_each a.nodes_each) lists el in
      (j.0, λ r s. sym (map_same r) ∙ (j.1 r s ∙ sym (seats_are w.numbers w.nodes)))

  pub join_wires : (hs : List ℕ) → hs ≡ w.wire_homes → (counts : List ℕ) → ((k : ℕ) → k < length ends → slice_index counts k ≡ share_of k hs) → (sorted lists : List (Vec (ℕ × WireCount) Global)) → sorted ≡ map (λ (e : IslandEnd S D). e.wires) ends → length lists ≡ length ends → ((k : ℕ) → k < length ends → items_at lists k ≡ take (slice_index counts k) (items_at sorted k)) → (AreWhole hs lists) × ((r : List (ℕ × WireCount)) → AreShares hs r lists → r ≡ w.counts)
  join_wires hs eh counts ec sorted lists es many cuts =
      let wires = λ (e : IslandEnd S D). e.wires in
      let below : All (λ i. i < length lists) w.wire_homes = subst (λ m. All (λ i. i < m) w.wire_homes) (sym many) a.wires_below in
      let is : (k : ℕ) → k < length lists → map (λ x. x) (items_at lists k) ≡ of_home w.wire_homes k w.counts = λ k l.
      let b : k < length ends = omega (arith, l, many) in
      let p = at_place ends k b in
      let q = a.each k p.0 p.1 in
      let n : slice_index counts k ≡ length (of_home w.wire_homes k w.counts) = ec k b ∙ (ap (share_of k) eh ∙ sym (share_count w.wire_homes w.counts k a.counts_each)) in
      map_same _ ∙ (cuts k b ∙ (ap (λ ls. take (slice_index counts k) (items_at ls k)) es ∙ (ap (take (slice_index counts k)) (items_there wires ends k p.0 p.1 ∙ q.wires) ∙ (ap (λ m. take m (of_home w.wire_homes k w.counts ++ q.fars)) n ∙ take_front (of_home w.wire_homes k w.counts) q.fars)))) in
      let r0 : AreWhole w.wire_homes lists = whole (λ x. x) w.wire_homes w.counts lists below a.counts_each is in
      (subst (λ x. AreWhole x lists) (sym eh) r0, λ r s. sym (map_same r) ∙ gathered (λ x. x) w.wire_homes w.counts lists below a.counts_each is r (subst (λ x. AreShares x r lists) eh s))

  -- the same of what the calls tell
  pub join_cut : (hs homes counts all : List ℕ) → hs ≡ homes → homes ≡ w.wire_homes → counts ≡ all → (n : ℕ) → n ≡ length ends → ((k : ℕ) → k < n → slice_index all k ≡ share_of k homes) → (sorted cut : Vec (Vec (ℕ × WireCount) Global) Global) → sorted.items ≡ map (λ (e : IslandEnd S D). e.wires) ends → vec_len cut ≡ vec_len sorted → ((k : ℕ) → k < vec_len cut → items_at cut.items k ≡ take (slice_index counts k) (items_at sorted.items k))
      → (AreWhole hs cut.items) × ((r : List (ℕ × WireCount)) → AreShares hs r cut.items → r ≡ w.counts)
  join_cut hs homes counts all eh ew ec n en cs sorted cut es el ci =
      let m : length sorted.items ≡ length ends = ap length es ∙ length-map ends (λ (e : IslandEnd S D). e.wires) in
      let p = sorted.ok.0 in
      let q = cut.ok.0 in
      join_wires hs (eh ∙ ew) counts (λ k l. ap (λ ls. slice_index ls k) ec ∙ (cs k (omega (arith, l, en)) ∙ ap (share_of k) (sym eh))) sorted.items cut.items es (omega (arith, m, p, q, el)) (λ k l. ci k (omega (arith, l, m, p, q, el)))
