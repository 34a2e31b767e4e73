-- Items behind others, which leave nothing; and homes that are known by other items.
use Rattle.std.specs.Prelude.{slice_get}
use Rattle.std.proofs.Common.{◌≡◌, ℕ, suc, true, List, [], ◌∷◌, ◌++◌, length, Option, Some, None, refl, ap, sym, ◌∙◌, arith}
use Rattle.std.proofs.lemmas.List.{append-nil}
use Rattle.nodes.specs.Nodes.{node_picks, node_seat}
use Rattle.nodes.specs.declared.node.IslandNode.{IslandNode}
use Rattle.nodes.specs.declared.node.IslandNode.TheVariants as node
use Rattle.interpreter.specs.Island.{sinks_of, readers_of, writers_of}
use Rattle.interpreter.specs.Picks.{with_picks, picks_of}
use Rattle.interpreter.specs.Seats.{with_seat, seats_of}
use Rattle.island_parts.specs.Ends.{with_home, homes_left, leaves_something, sink_of, reader_of, writer_of, is_lane_end, AreLaneEnds}
use Rattle.island_parts.proofs.Leaving.{with_one, those}
use Rattle.island_parts.proofs.OfNodes.{sinks_are, readers_are, writers_are}

one_behind : {Y : Type 0} (o : Option Y) (ys zs : List Y) → with_one o (ys ++ zs) ≡ with_one o ys ++ zs
one_behind None ys zs = refl
one_behind (Some y) ys zs = refl

those_behind : {X Y : Type 0} (f : X → Option Y) (xs more : List X) → those f (xs ++ more) ≡ those f xs ++ those f more
those_behind f [] more = refl
those_behind f (x ∷ xs) more = ap (with_one (f x)) (those_behind f xs more) ∙ one_behind (f x) (those f xs) (those f more)

those_none : {X Y : Type 0} (f : X → Option Y) (more : List X) → ((k : ℕ) (x : X) → slice_get more k ≡ Some x → f x ≡ None) → those f more ≡ []
those_none f [] h = refl
those_none f (x ∷ more) h = ap (λ o. with_one o (those f more)) (h 0 x refl) ∙ those_none f more (λ k y e. h (suc k) y e)

-- items that leave nothing behind others change nothing
pub no_more : {X Y : Type 0} (f : X → Option Y) (xs more : List X) → ((k : ℕ) (x : X) → slice_get more k ≡ Some x → f x ≡ None) → those f (xs ++ more) ≡ those f xs
no_more f xs more h = those_behind f xs more ∙ (ap (λ t. those f xs ++ t) (those_none f more h) ∙ append-nil (those f xs))

module _ {S D L H B : Type 0} where
  no_sink : (x : IslandNode S D L H B) → is_lane_end x ≡ true → sink_of x ≡ None
  no_sink (node.Reading x) e = refl
  no_sink (node.Making x) e = refl
  no_sink (node.Linear x) e = refl
  no_sink (node.State x) e = refl
  no_sink (node.Sub x) e = refl
  no_sink (node.FanIn x) e = refl
  no_sink (node.FanOut x) e = refl
  no_sink (node.Custom x) e = refl
  no_sink (node.Writing x) e = cc
  no_sink (node.Ignoring x) e = cc
  no_sink (node.Entering x) e = refl
  no_sink (node.Leaving x) e = refl

  no_reader : (x : IslandNode S D L H B) → is_lane_end x ≡ true → reader_of x ≡ None
  no_reader (node.Reading x) e = cc
  no_reader (node.Making x) e = refl
  no_reader (node.Linear x) e = refl
  no_reader (node.State x) e = refl
  no_reader (node.Sub x) e = refl
  no_reader (node.FanIn x) e = refl
  no_reader (node.FanOut x) e = refl
  no_reader (node.Custom x) e = refl
  no_reader (node.Writing x) e = refl
  no_reader (node.Ignoring x) e = refl
  no_reader (node.Entering x) e = refl
  no_reader (node.Leaving x) e = refl

  no_writer : (x : IslandNode S D L H B) → is_lane_end x ≡ true → writer_of x ≡ None
  no_writer (node.Reading x) e = refl
  no_writer (node.Making x) e = refl
  no_writer (node.Linear x) e = refl
  no_writer (node.State x) e = refl
  no_writer (node.Sub x) e = refl
  no_writer (node.FanIn x) e = refl
  no_writer (node.FanOut x) e = refl
  no_writer (node.Custom x) e = refl
  no_writer (node.Writing x) e = cc
  no_writer (node.Ignoring x) e = refl
  no_writer (node.Entering x) e = refl
  no_writer (node.Leaving x) e = refl

  no_picks : (x : IslandNode S D L H B) → is_lane_end x ≡ true → node_picks x ≡ None
  no_picks (node.Reading x) e = refl
  no_picks (node.Making x) e = refl
  no_picks (node.Linear x) e = refl
  no_picks (node.State x) e = cc
  no_picks (node.Sub x) e = cc
  no_picks (node.FanIn x) e = cc
  no_picks (node.FanOut x) e = cc
  no_picks (node.Custom x) e = cc
  no_picks (node.Writing x) e = refl
  no_picks (node.Ignoring x) e = refl
  no_picks (node.Entering x) e = refl
  no_picks (node.Leaving x) e = refl

  no_seat : (x : IslandNode S D L H B) → is_lane_end x ≡ true → node_seat x ≡ None
  no_seat (node.Reading x) e = refl
  no_seat (node.Making x) e = refl
  no_seat (node.Linear x) e = refl
  no_seat (node.State x) e = cc
  no_seat (node.Sub x) e = refl
  no_seat (node.FanIn x) e = refl
  no_seat (node.FanOut x) e = refl
  no_seat (node.Custom x) e = refl
  no_seat (node.Writing x) e = refl
  no_seat (node.Ignoring x) e = refl
  no_seat (node.Entering x) e = refl
  no_seat (node.Leaving x) e = refl

  pub sinks_behind : (nodes more : List (IslandNode S D L H B)) → AreLaneEnds more → sinks_of (nodes ++ more) ≡ sinks_of nodes
  sinks_behind nodes more h = sinks_are (nodes ++ more) ∙ (no_more sink_of nodes more (λ k x e. no_sink x (h k x e)) ∙ sym (sinks_are nodes))

  pub readers_behind : (nodes more : List (IslandNode S D L H B)) → AreLaneEnds more → readers_of (nodes ++ more) ≡ readers_of nodes
  readers_behind nodes more h = readers_are (nodes ++ more) ∙ (no_more reader_of nodes more (λ k x e. no_reader x (h k x e)) ∙ sym (readers_are nodes))

  pub writers_behind : (nodes more : List (IslandNode S D L H B)) → AreLaneEnds more → writers_of (nodes ++ more) ≡ writers_of nodes
  writers_behind nodes more h = writers_are (nodes ++ more) ∙ (no_more writer_of nodes more (λ k x e. no_writer x (h k x e)) ∙ sym (writers_are nodes))

  picks_none : (ms : List ℕ) (more : List (IslandNode S D L H B)) → AreLaneEnds more → picks_of ms more ≡ []
  picks_none [] more h = refl
  picks_none (m ∷ ms) [] h = refl
  picks_none (m ∷ ms) (x ∷ more) h = ap (λ o. with_picks m o (picks_of ms more)) (no_picks x (h 0 x refl)) ∙ picks_none ms more (λ k y e. h (suc k) y e)

  pub picks_behind : (ns ms : List ℕ) (nodes more : List (IslandNode S D L H B)) → length ns ≡ length nodes → AreLaneEnds more → picks_of (ns ++ ms) (nodes ++ more) ≡ picks_of ns nodes
  picks_behind [] ms [] more e h = picks_none ms more h
  picks_behind [] ms (x ∷ nodes) more e h = absurd (omega (arith, e))
  picks_behind (n ∷ ns) ms [] more e h = absurd (omega (arith, e))
  picks_behind (n ∷ ns) ms (x ∷ nodes) more e h = ap (with_picks n (node_picks x)) (picks_behind ns ms nodes more (omega (arith, e)) h)

  seats_none : (ms : List ℕ) (more : List (IslandNode S D L H B)) → AreLaneEnds more → seats_of ms more ≡ []
  seats_none [] more h = refl
  seats_none (m ∷ ms) [] h = refl
  seats_none (m ∷ ms) (x ∷ more) h = ap (λ o. with_seat m o (seats_of ms more)) (no_seat x (h 0 x refl)) ∙ seats_none ms more (λ k y e. h (suc k) y e)

  pub seats_behind : (ns ms : List ℕ) (nodes more : List (IslandNode S D L H B)) → length ns ≡ length nodes → AreLaneEnds more → seats_of (ns ++ ms) (nodes ++ more) ≡ seats_of ns nodes
  seats_behind [] ms [] more e h = seats_none ms more h
  seats_behind [] ms (x ∷ nodes) more e h = absurd (omega (arith, e))
  seats_behind (n ∷ ns) ms [] more e h = absurd (omega (arith, e))
  seats_behind (n ∷ ns) ms (x ∷ nodes) more e h = ap (with_seat n (node_seat x)) (seats_behind ns ms nodes more (omega (arith, e)) h)

home_same : {Y W : Type 0} (o : Option Y) (p : Option W) (h : ℕ) (hs gs : List ℕ) → leaves_something o ≡ leaves_something p → hs ≡ gs → with_home o h hs ≡ with_home p h gs
home_same None None h hs gs l e = e
home_same None (Some w) h hs gs l e = cc
home_same (Some y) None h hs gs l e = cc
home_same (Some y) (Some w) h hs gs l e = ap (λ t. h ∷ t) e

pub homes_same : {X Y Z W : Type 0} (f : X → Option Y) (g : Z → Option W) (homes : List ℕ) (xs : List X) (zs : List Z) → length xs ≡ length zs → ((k : ℕ) (x : X) (z : Z) → slice_get xs k ≡ Some x → slice_get zs k ≡ Some z → leaves_something (f x) ≡ leaves_something (g z)) → homes_left f homes xs ≡ homes_left g homes zs
homes_same f g [] xs zs e h = refl
homes_same f g (i ∷ homes) [] [] e h = refl
homes_same f g (i ∷ homes) [] (z ∷ zs) e h = absurd (omega (arith, e))
homes_same f g (i ∷ homes) (x ∷ xs) [] e h = absurd (omega (arith, e))
homes_same f g (i ∷ homes) (x ∷ xs) (z ∷ zs) e h = home_same (f x) (g z) i (homes_left f homes xs) (homes_left g homes zs) (h 0 x z refl refl) (homes_same f g homes xs zs (omega (arith, e)) (λ k y v p q. h (suc k) y v p q))

homes_none : {X Y : Type 0} (f : X → Option Y) (others : List ℕ) (more : List X) → ((k : ℕ) (x : X) → slice_get more k ≡ Some x → f x ≡ None) → homes_left f others more ≡ []
homes_none f [] more h = refl
homes_none f (i ∷ others) [] h = refl
homes_none f (i ∷ others) (x ∷ more) h = ap (λ o. with_home o i (homes_left f others more)) (h 0 x refl) ∙ homes_none f others more (λ k y e. h (suc k) y e)

pub homes_behind : {X Y : Type 0} (f : X → Option Y) (homes others : List ℕ) (xs more : List X) → length xs ≡ length homes → ((k : ℕ) (x : X) → slice_get more k ≡ Some x → f x ≡ None) → homes_left f (homes ++ others) (xs ++ more) ≡ homes_left f homes xs
homes_behind f [] others [] more e h = homes_none f others more h
homes_behind f [] others (x ∷ xs) more e h = absurd (omega (arith, e))
homes_behind f (i ∷ homes) others [] more e h = absurd (omega (arith, e))
homes_behind f (i ∷ homes) others (x ∷ xs) more e h = ap (with_home (f x) i) (homes_behind f homes others xs more (omega (arith, e)) h)
