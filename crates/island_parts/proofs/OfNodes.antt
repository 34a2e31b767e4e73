-- What nodes leave of each kind.
use Rattle.std.specs.Prelude.{if◌then◌else◌}
use Rattle.std.proofs.Common.{◌≡◌, ℕ, Bool, true, false, ◌==◌, List, [], ◌∷◌, length, Option, Some, None, refl, ap, suc, arith}
use Rattle.stage_switch.specs.Public.{SeatState}
use Rattle.nodes.specs.Nodes.{node_picks, node_seat}
use Rattle.nodes.specs.declared.node.IslandNode.{IslandNode}
use Rattle.nodes.specs.declared.node.IslandNode.TheVariants as node
use Rattle.interpreter.specs.Island.{sinks_of, readers_of, writers_of}
use Rattle.interpreter.specs.Picks.{Pick, with_picks, picks_of}
use Rattle.interpreter.specs.Seats.{with_seat, seats_of}
use Rattle.scatter.specs.Shares.{of_home}
use Rattle.island_parts.specs.Ends.{with_home, homes_left, sink_of, reader_of, writer_of}
use Rattle.island_parts.proofs.Leaving.{with_one, those}

module _ {S D L H B : Type 0} where
  pub sinks_are : (xs : List (IslandNode S D L H B)) → sinks_of xs ≡ those sink_of xs
  sinks_are [] = refl
  sinks_are (node.Reading x ∷ xs) = sinks_are xs
  sinks_are (node.Making x ∷ xs) = sinks_are xs
  sinks_are (node.Linear x ∷ xs) = sinks_are xs
  sinks_are (node.State x ∷ xs) = sinks_are xs
  sinks_are (node.Sub x ∷ xs) = sinks_are xs
  sinks_are (node.FanIn x ∷ xs) = sinks_are xs
  sinks_are (node.FanOut x ∷ xs) = sinks_are xs
  sinks_are (node.Custom x ∷ xs) = sinks_are xs
  sinks_are (node.Writing x ∷ xs) = ap (λ t. (x.node, x.count, x.end) ∷ t) (sinks_are xs)
  sinks_are (node.Ignoring x ∷ xs) = ap (λ t. (x.node, 0, x.end) ∷ t) (sinks_are xs)
  sinks_are (node.Entering x ∷ xs) = sinks_are xs
  sinks_are (node.Leaving x ∷ xs) = sinks_are xs

  pub readers_are : (xs : List (IslandNode S D L H B)) → readers_of xs ≡ those reader_of xs
  readers_are [] = refl
  readers_are (node.Reading x ∷ xs) = ap (λ t. x.reader.source ∷ t) (readers_are xs)
  readers_are (node.Making x ∷ xs) = readers_are xs
  readers_are (node.Linear x ∷ xs) = readers_are xs
  readers_are (node.State x ∷ xs) = readers_are xs
  readers_are (node.Sub x ∷ xs) = readers_are xs
  readers_are (node.FanIn x ∷ xs) = readers_are xs
  readers_are (node.FanOut x ∷ xs) = readers_are xs
  readers_are (node.Custom x ∷ xs) = readers_are xs
  readers_are (node.Writing x ∷ xs) = readers_are xs
  readers_are (node.Ignoring x ∷ xs) = readers_are xs
  readers_are (node.Entering x ∷ xs) = readers_are xs
  readers_are (node.Leaving x ∷ xs) = readers_are xs

  pub writers_are : (xs : List (IslandNode S D L H B)) → writers_of xs ≡ those writer_of xs
  writers_are [] = refl
  writers_are (node.Reading x ∷ xs) = writers_are xs
  writers_are (node.Making x ∷ xs) = writers_are xs
  writers_are (node.Linear x ∷ xs) = writers_are xs
  writers_are (node.State x ∷ xs) = writers_are xs
  writers_are (node.Sub x ∷ xs) = writers_are xs
  writers_are (node.FanIn x ∷ xs) = writers_are xs
  writers_are (node.FanOut x ∷ xs) = writers_are xs
  writers_are (node.Custom x ∷ xs) = writers_are xs
  writers_are (node.Writing x ∷ xs) = ap (λ t. x.drain ∷ t) (writers_are xs)
  writers_are (node.Ignoring x ∷ xs) = writers_are xs
  writers_are (node.Entering x ∷ xs) = writers_are xs
  writers_are (node.Leaving x ∷ xs) = writers_are xs

-- each node with its number
abbrev pub numbered : {X : Type 0} → List ℕ → List X → List (ℕ × X)
numbered (n ∷ ns) (x ∷ xs) = (n, x) ∷ numbered ns xs
numbered _ _ = []

abbrev pub pick_in : Option (List ℕ) → ℕ → Option Pick
pick_in None n = None
pick_in (Some moves) n = Some (n, moves)

abbrev pub pick_at : {S D L H B : Type 0} → ℕ × IslandNode S D L H B → Option Pick
pick_at p = pick_in (node_picks p.1) p.0

-- the same of its seat
abbrev pub seat_in : Option SeatState → ℕ → Option (ℕ × SeatState)
seat_in None n = None
seat_in (Some seat) n = Some (n, seat)

abbrev pub seat_at : {S D L H B : Type 0} → ℕ × IslandNode S D L H B → Option (ℕ × SeatState)
seat_at p = seat_in (node_seat p.1) p.0

with_is : (o : Option (List ℕ)) (n : ℕ) (ps qs : List Pick) → ps ≡ qs → with_picks n o ps ≡ with_one (pick_in o n) qs
with_is None n ps qs e = e
with_is (Some moves) n ps qs e = ap (λ t. (n, moves) ∷ t) e

home_is : (o : Option (List ℕ)) (n h : ℕ) (hs gs : List ℕ) → hs ≡ gs → with_home o h hs ≡ with_home (pick_in o n) h gs
home_is None n h hs gs e = e
home_is (Some moves) n h hs gs e = ap (λ t. h ∷ t) e

with_seat_is : (o : Option SeatState) (n : ℕ) (ps qs : List (ℕ × SeatState)) → ps ≡ qs → with_seat n o ps ≡ with_one (seat_in o n) qs
with_seat_is None n ps qs e = e
with_seat_is (Some seat) n ps qs e = ap (λ t. (n, seat) ∷ t) e

seat_home_is : (o : Option SeatState) (n h : ℕ) (hs gs : List ℕ) → hs ≡ gs → with_home o h hs ≡ with_home (seat_in o n) h gs
seat_home_is None n h hs gs e = e
seat_home_is (Some seat) n h hs gs e = ap (λ t. h ∷ t) e

module _ {S D L H B : Type 0} where
  pub picks_are : (ns : List ℕ) (xs : List (IslandNode S D L H B)) → picks_of ns xs ≡ those pick_at (numbered ns xs)
  picks_are [] [] = refl
  picks_are [] (x ∷ xs) = refl
  picks_are (n ∷ ns) [] = refl
  picks_are (n ∷ ns) (x ∷ xs) = with_is (node_picks x) n (picks_of ns xs) (those pick_at (numbered ns xs)) (picks_are ns xs)

  pub pick_homes : (hs ns : List ℕ) (xs : List (IslandNode S D L H B)) → length ns ≡ length hs → length xs ≡ length hs → homes_left node_picks hs xs ≡ homes_left pick_at hs (numbered ns xs)
  pick_homes [] ns xs d e = refl
  pick_homes (h ∷ hs) ns [] d e = absurd (omega (arith, e))
  pick_homes (h ∷ hs) [] (x ∷ xs) d e = absurd (omega (arith, d))
  pick_homes (h ∷ hs) (n ∷ ns) (x ∷ xs) d e = home_is (node_picks x) n h (homes_left node_picks hs xs) (homes_left pick_at hs (numbered ns xs)) (pick_homes hs ns xs (omega (arith, d)) (omega (arith, e)))

  pub seats_are : (ns : List ℕ) (xs : List (IslandNode S D L H B)) → seats_of ns xs ≡ those seat_at (numbered ns xs)
  seats_are [] [] = refl
  seats_are [] (x ∷ xs) = refl
  seats_are (n ∷ ns) [] = refl
  seats_are (n ∷ ns) (x ∷ xs) = with_seat_is (node_seat x) n (seats_of ns xs) (those seat_at (numbered ns xs)) (seats_are ns xs)

  pub seat_homes : (hs ns : List ℕ) (xs : List (IslandNode S D L H B)) → length ns ≡ length hs → length xs ≡ length hs → homes_left node_seat hs xs ≡ homes_left seat_at hs (numbered ns xs)
  seat_homes [] ns xs d e = refl
  seat_homes (h ∷ hs) ns [] d e = absurd (omega (arith, e))
  seat_homes (h ∷ hs) [] (x ∷ xs) d e = absurd (omega (arith, d))
  seat_homes (h ∷ hs) (n ∷ ns) (x ∷ xs) d e = seat_home_is (node_seat x) n h (homes_left node_seat hs xs) (homes_left seat_at hs (numbered ns xs)) (seat_homes hs ns xs (omega (arith, d)) (omega (arith, e)))

pub numbered_count : {X : Type 0} (hs ns : List ℕ) (xs : List X) → length ns ≡ length hs → length xs ≡ length hs → length (numbered ns xs) ≡ length hs
numbered_count [] [] [] d e = refl
numbered_count [] [] (x ∷ xs) d e = refl
numbered_count [] (n ∷ ns) xs d e = absurd (omega (arith, d))
numbered_count (h ∷ hs) ns [] d e = absurd (omega (arith, e))
numbered_count (h ∷ hs) [] (x ∷ xs) d e = absurd (omega (arith, d))
numbered_count (h ∷ hs) (n ∷ ns) (x ∷ xs) d e = ap suc (numbered_count hs ns xs (omega (arith, d)) (omega (arith, e)))

numbered_if : {X : Type 0} (b : Bool) (n : ℕ) (x : X) (ms : List ℕ) (ys : List X) (r : List (ℕ × X)) → r ≡ numbered ms ys → (if b then (n, x) ∷ r else r) ≡ numbered (if b then n ∷ ms else ms) (if b then x ∷ ys else ys)
numbered_if true n x ms ys r e = ap (λ t. (n, x) ∷ t) e
numbered_if false n x ms ys r e = e

pub share_numbered : {X : Type 0} (hs ns : List ℕ) (k : ℕ) (xs : List X) → length ns ≡ length hs → length xs ≡ length hs → of_home hs k (numbered ns xs) ≡ numbered (of_home hs k ns) (of_home hs k xs)
share_numbered [] ns k xs d e = refl
share_numbered (h ∷ hs) ns k [] d e = absurd (omega (arith, e))
share_numbered (h ∷ hs) [] k (x ∷ xs) d e = absurd (omega (arith, d))
share_numbered (h ∷ hs) (n ∷ ns) k (x ∷ xs) d e = numbered_if (h == k) n x (of_home hs k ns) (of_home hs k xs) (of_home hs k (numbered ns xs)) (share_numbered hs ns k xs (omega (arith, d)) (omega (arith, e)))
