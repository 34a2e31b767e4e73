-- An island that did not start hands its handles back.
use Rattle.std.proofs.Common.{◌≡◌, ◌⊎◌, ℕ, inl, inr, None, Some, List, [], ◌∷◌, map, refl, sym, ap, ◌∙◌, subst}
use Rattle.std.specs.Prelude.{Option, ⊤}
use Rattle.std.specs.List.{cons_option}
use Rattle.stream_io.specs.State.{SourceState, DrainState}
use Rattle.fused_net.specs.Laws.{AllKept}
use Rattle.stage_core.specs.declared.phase.Phase.TheVariants.{New}
use Rattle.nodes.specs.declared.node.IslandNode.{IslandNode}
use Rattle.nodes.specs.declared.node.IslandNode.TheVariants as node
use Rattle.nodes.specs.declared.node.NodeEnd.{NodeEnd}
use Rattle.nodes.specs.declared.node.NodeEnd.TheVariants.{Read, Staged, Wrote}
use Rattle.nodes.specs.Keeping.{KeepsDrain, KeepsEnd}
use Rattle.nodes.specs.Nodes.{node_end, KeepsNode}
use Rattle.interpreter.specs.declared.island.IslandEnd.{IslandEnd}
use Rattle.interpreter.specs.declared.parts.Seated.{Seated}
use Rattle.interpreter.specs.declared.parts.Work.{Work}
use Rattle.interpreter.specs.declared.parts.Work.TheVariants as work
use Rattle.interpreter.specs.Parts.{BecomesOf, AllBecome}
use Rattle.interpreter.specs.Island.{readers_of, writers_of}
use Rattle.interpreter.specs.Handles.{HoldsHandles, with_source, with_drain, sources_in, drains_in, HandsBack}

-- what a node leaves, in front of what others do
abbrev with_read : {S D : Type 0} → NodeEnd S D → List S → List S
with_read (Read s) rest = s ∷ rest
with_read Staged rest = rest
with_read (Wrote x) rest = rest

abbrev with_write : {S D : Type 0} → NodeEnd S D → List D → List D
with_write (Read s) rest = rest
with_write Staged rest = rest
with_write (Wrote x) rest = cons_option x.drain rest

readers_end : {S D L H B : Type 0} (x : IslandNode S D L H B) (xs : List (IslandNode S D L H B)) → readers_of (x ∷ xs) ≡ with_read (node_end x) (readers_of xs)
readers_end (node.Reading x) xs = refl
readers_end (node.Making x) xs = refl
readers_end (node.Linear x) xs = refl
readers_end (node.State x) xs = refl
readers_end (node.Sub x) xs = refl
readers_end (node.FanIn x) xs = refl
readers_end (node.FanOut x) xs = refl
readers_end (node.Custom x) xs = refl
readers_end (node.Writing x) xs = refl
readers_end (node.Ignoring x) xs = refl
readers_end (node.Entering x) xs = refl
readers_end (node.Leaving x) xs = refl

writers_end : {S D L H B : Type 0} (x : IslandNode S D L H B) (xs : List (IslandNode S D L H B)) → writers_of (x ∷ xs) ≡ with_write (node_end x) (writers_of xs)
writers_end (node.Reading x) xs = refl
writers_end (node.Making x) xs = refl
writers_end (node.Linear x) xs = refl
writers_end (node.State x) xs = refl
writers_end (node.Sub x) xs = refl
writers_end (node.FanIn x) xs = refl
writers_end (node.FanOut x) xs = refl
writers_end (node.Custom x) xs = refl
writers_end (node.Writing x) xs = refl
writers_end (node.Ignoring x) xs = refl
writers_end (node.Entering x) xs = refl
writers_end (node.Leaving x) xs = refl

-- a source of lines that was not started, or another node
abbrev IsNew : {S D L H B : Type 0} → IslandNode S D L H B → Type 0
IsNew (node.Reading x) = x.phase ≡ New
IsNew (node.Making x) = ⊤
IsNew (node.Linear x) = ⊤
IsNew (node.State x) = ⊤
IsNew (node.Sub x) = ⊤
IsNew (node.FanIn x) = ⊤
IsNew (node.FanOut x) = ⊤
IsNew (node.Custom x) = ⊤
IsNew (node.Writing x) = ⊤
IsNew (node.Ignoring x) = ⊤
IsNew (node.Entering x) = ⊤
IsNew (node.Leaving x) = ⊤

becomes_new : {S D L H B : Type 0} (k room : ℕ) (w : Work S D L H B) (x : IslandNode S D L H B) → BecomesOf k room w x → IsNew x
becomes_new k room (work.Reading r) x b = subst IsNew (sym b) refl
becomes_new k room (work.Making kind) x b = subst IsNew (sym b) tt
becomes_new k room (work.Linear l) x b = subst IsNew (sym b) tt
becomes_new k room (work.State l) x b = subst IsNew (sym b) tt
becomes_new k room (work.Sub l) x b = subst IsNew (sym b) tt
becomes_new k room (work.FanIn l n) x b = subst IsNew (sym b) tt
becomes_new k room (work.FanOut l n) x b = subst IsNew (sym b) tt
becomes_new k room (work.Custom l inputs outputs) x b = subst IsNew (sym b) tt
becomes_new k room (work.Writing kind (Some d)) x b = subst IsNew (sym b) tt
becomes_new k room (work.Writing kind None) x b = subst IsNew (sym b) tt
becomes_new k room (work.LaneIn u) x b = subst IsNew (sym b) tt
becomes_new k room (work.LaneOut u) x b = subst IsNew (sym b) tt

-- the handle of a work is that of its node
source_becomes : {S D L H B : Type 0} (k room : ℕ) (w : Work S D L H B) (x : IslandNode S D L H B) (rest : List S) → BecomesOf k room w x → with_read (node_end x) rest ≡ with_source w rest
source_becomes k room (work.Reading r) x rest b = ap (λ (y : IslandNode _ _ _ _ _). with_read (node_end y) rest) b
source_becomes k room (work.Making kind) x rest b = ap (λ (y : IslandNode _ _ _ _ _). with_read (node_end y) rest) b
source_becomes k room (work.Linear l) x rest b = ap (λ (y : IslandNode _ _ _ _ _). with_read (node_end y) rest) b
source_becomes k room (work.State l) x rest b = ap (λ (y : IslandNode _ _ _ _ _). with_read (node_end y) rest) b
source_becomes k room (work.Sub l) x rest b = ap (λ (y : IslandNode _ _ _ _ _). with_read (node_end y) rest) b
source_becomes k room (work.FanIn l n) x rest b = ap (λ (y : IslandNode _ _ _ _ _). with_read (node_end y) rest) b
source_becomes k room (work.FanOut l n) x rest b = ap (λ (y : IslandNode _ _ _ _ _). with_read (node_end y) rest) b
source_becomes k room (work.Custom l inputs outputs) x rest b = ap (λ (y : IslandNode _ _ _ _ _). with_read (node_end y) rest) b
source_becomes k room (work.Writing kind (Some d)) x rest b = ap (λ (y : IslandNode _ _ _ _ _). with_read (node_end y) rest) b
source_becomes k room (work.Writing kind None) x rest b = ap (λ (y : IslandNode _ _ _ _ _). with_read (node_end y) rest) b
source_becomes k room (work.LaneIn u) x rest b = ap (λ (y : IslandNode _ _ _ _ _). with_read (node_end y) rest) b
source_becomes k room (work.LaneOut u) x rest b = ap (λ (y : IslandNode _ _ _ _ _). with_read (node_end y) rest) b

drain_becomes : {S D L H B : Type 0} (k room : ℕ) (w : Work S D L H B) (x : IslandNode S D L H B) (rest : List D) → BecomesOf k room w x → with_write (node_end x) rest ≡ with_drain w rest
drain_becomes k room (work.Reading r) x rest b = ap (λ (y : IslandNode _ _ _ _ _). with_write (node_end y) rest) b
drain_becomes k room (work.Making kind) x rest b = ap (λ (y : IslandNode _ _ _ _ _). with_write (node_end y) rest) b
drain_becomes k room (work.Linear l) x rest b = ap (λ (y : IslandNode _ _ _ _ _). with_write (node_end y) rest) b
drain_becomes k room (work.State l) x rest b = ap (λ (y : IslandNode _ _ _ _ _). with_write (node_end y) rest) b
drain_becomes k room (work.Sub l) x rest b = ap (λ (y : IslandNode _ _ _ _ _). with_write (node_end y) rest) b
drain_becomes k room (work.FanIn l n) x rest b = ap (λ (y : IslandNode _ _ _ _ _). with_write (node_end y) rest) b
drain_becomes k room (work.FanOut l n) x rest b = ap (λ (y : IslandNode _ _ _ _ _). with_write (node_end y) rest) b
drain_becomes k room (work.Custom l inputs outputs) x rest b = ap (λ (y : IslandNode _ _ _ _ _). with_write (node_end y) rest) b
drain_becomes k room (work.Writing kind (Some d)) x rest b = ap (λ (y : IslandNode _ _ _ _ _). with_write (node_end y) rest) b
drain_becomes k room (work.Writing kind None) x rest b = ap (λ (y : IslandNode _ _ _ _ _). with_write (node_end y) rest) b
drain_becomes k room (work.LaneIn u) x rest b = ap (λ (y : IslandNode _ _ _ _ _). with_write (node_end y) rest) b
drain_becomes k room (work.LaneOut u) x rest b = ap (λ (y : IslandNode _ _ _ _ _). with_write (node_end y) rest) b

module _ {S D : Type 0} (sources : S → SourceState) (drains : D → DrainState) where
  -- a node that leaves no source leaves none later
  abbrev NoRead : NodeEnd S D → Type 0
  NoRead (Read s) = ⊥
  NoRead Staged = ⊤
  NoRead (Wrote x) = ⊤

  none_read : (p q : NodeEnd S D) (rest : List S) → NoRead p → KeepsEnd sources drains p q → with_read q rest ≡ with_read p rest
  none_read (Read s) q rest n k = absurd n
  none_read Staged Staged rest n k = refl
  none_read (Wrote x) (Wrote y) rest n k = refl
  none_read Staged q rest n k = absurd k
  none_read (Wrote x) q rest n k = absurd k

  option_kept : (o p : Option D) (rest : List D) → KeepsDrain sources drains o p → map drains (cons_option p rest) ≡ map drains (cons_option o rest)
  option_kept None None rest k = refl
  option_kept (Some d) (Some e) rest k = ap (λ (s : DrainState). s ∷ map drains rest) k
  option_kept None (Some e) rest k = absurd k
  option_kept (Some d) None rest k = absurd k

  drain_kept : (p q : NodeEnd S D) (rest : List D) → KeepsEnd sources drains p q → map drains (with_write q rest) ≡ map drains (with_write p rest)
  drain_kept (Read s) (Read t) rest k = refl
  drain_kept Staged Staged rest k = refl
  drain_kept (Wrote x) (Wrote y) rest k = option_kept x.drain y.drain rest k
  drain_kept p q rest k = absurd k

  -- what is in front of lists that are told alike
  read_front : (p : NodeEnd S D) (xs ys : List S) → map sources xs ≡ map sources ys → map sources (with_read p xs) ≡ map sources (with_read p ys)
  read_front (Read s) xs ys e = ap (λ (l : List SourceState). sources s ∷ l) e
  read_front Staged xs ys e = e
  read_front (Wrote x) xs ys e = e

  option_front : (o : Option D) (xs ys : List D) → map drains xs ≡ map drains ys → map drains (cons_option o xs) ≡ map drains (cons_option o ys)
  option_front None xs ys e = e
  option_front (Some d) xs ys e = ap (λ (l : List DrainState). drains d ∷ l) e

  write_front : (p : NodeEnd S D) (xs ys : List D) → map drains xs ≡ map drains ys → map drains (with_write p xs) ≡ map drains (with_write p ys)
  write_front (Read s) xs ys e = e
  write_front Staged xs ys e = e
  write_front (Wrote x) xs ys e = option_front x.drain xs ys e

module _ {S D L H B : Type 0} (sources : S → SourceState) (drains : D → DrainState) where
  source_kept : (x y : IslandNode S D L H B) (rest : List S) → IsNew x → KeepsNode sources drains x y → map sources (with_read (node_end y) rest) ≡ map sources (with_read (node_end x) rest)
  source_kept (node.Reading x) (node.Reading y) rest n k = ap (λ (s : SourceState). s ∷ map sources rest) (k.first n)
  source_kept (node.Reading x) y rest n k = absurd k.ends
  source_kept (node.Making x) y rest n k = ap (map sources) (none_read sources drains (node_end {S = S} {D = D} {L = L} {H = H} {B = B} (node.Making x)) (node_end y) rest (tt {0}) k.ends)
  source_kept (node.Linear x) y rest n k = ap (map sources) (none_read sources drains (node_end {S = S} {D = D} {L = L} {H = H} {B = B} (node.Linear x)) (node_end y) rest (tt {0}) k.ends)
  source_kept (node.State x) y rest n k = ap (map sources) (none_read sources drains (node_end {S = S} {D = D} {L = L} {H = H} {B = B} (node.State x)) (node_end y) rest (tt {0}) k.ends)
  source_kept (node.Sub x) y rest n k = ap (map sources) (none_read sources drains (node_end {S = S} {D = D} {L = L} {H = H} {B = B} (node.Sub x)) (node_end y) rest (tt {0}) k.ends)
  source_kept (node.FanIn x) y rest n k = ap (map sources) (none_read sources drains (node_end {S = S} {D = D} {L = L} {H = H} {B = B} (node.FanIn x)) (node_end y) rest (tt {0}) k.ends)
  source_kept (node.FanOut x) y rest n k = ap (map sources) (none_read sources drains (node_end {S = S} {D = D} {L = L} {H = H} {B = B} (node.FanOut x)) (node_end y) rest (tt {0}) k.ends)
  source_kept (node.Custom x) y rest n k = ap (map sources) (none_read sources drains (node_end {S = S} {D = D} {L = L} {H = H} {B = B} (node.Custom x)) (node_end y) rest (tt {0}) k.ends)
  source_kept (node.Writing x) y rest n k = ap (map sources) (none_read sources drains (node_end {S = S} {D = D} {L = L} {H = H} {B = B} (node.Writing x)) (node_end y) rest (tt {0}) k.ends)
  source_kept (node.Ignoring x) y rest n k = ap (map sources) (none_read sources drains (node_end {S = S} {D = D} {L = L} {H = H} {B = B} (node.Ignoring x)) (node_end y) rest (tt {0}) k.ends)
  source_kept (node.Entering x) y rest n k = ap (map sources) (none_read sources drains (node_end {S = S} {D = D} {L = L} {H = H} {B = B} (node.Entering x)) (node_end y) rest (tt {0}) k.ends)
  source_kept (node.Leaving x) y rest n k = ap (map sources) (none_read sources drains (node_end {S = S} {D = D} {L = L} {H = H} {B = B} (node.Leaving x)) (node_end y) rest (tt {0}) k.ends)

  -- one node, which is as it was handed in or has kept its handle
  source_here : (k room : ℕ) (w : Work S D L H B) (x y : IslandNode S D L H B) (rest : List S) → BecomesOf k room w x → ((y ≡ x) ⊎ KeepsNode sources drains x y) → map sources (with_read (node_end y) rest) ≡ map sources (with_source w rest)
  source_here k room w x y rest b (inl e) = ap (λ (z : IslandNode S D L H B). map sources (with_read (node_end z) rest)) e ∙ ap (map sources) (source_becomes k room w x rest b)
  source_here k room w x y rest b (inr h) = source_kept x y rest (becomes_new k room w x b) h ∙ ap (map sources) (source_becomes k room w x rest b)

  drain_here : (k room : ℕ) (w : Work S D L H B) (x y : IslandNode S D L H B) (rest : List D) → BecomesOf k room w x → ((y ≡ x) ⊎ KeepsNode sources drains x y) → map drains (with_write (node_end y) rest) ≡ map drains (with_drain w rest)
  drain_here k room w x y rest b (inl e) = ap (λ (z : IslandNode S D L H B). map drains (with_write (node_end z) rest)) e ∙ ap (map drains) (drain_becomes k room w x rest b)
  drain_here k room w x y rest b (inr h) = drain_kept sources drains (node_end x) (node_end y) rest h.ends ∙ ap (map drains) (drain_becomes k room w x rest b)

  pub readers_back : (places : List (Seated S D L H B)) (firsts nodes : List (IslandNode S D L H B)) → AllBecome places firsts → AllKept (KeepsNode sources drains) firsts nodes → map sources (readers_of nodes) ≡ map sources (sources_in places)
  readers_back [] [] [] b k = refl
  readers_back [] [] (y ∷ ys) b k = absurd k
  readers_back [] (x ∷ xs) ys b k = absurd b
  readers_back (s ∷ ss) [] ys b k = absurd b
  readers_back (s ∷ ss) (x ∷ xs) [] b k = absurd k
  readers_back (s ∷ ss) (x ∷ xs) (y ∷ ys) b k =
      ap (map sources) (readers_end y ys)
      ∙ read_front sources drains (node_end y) (readers_of ys) (sources_in ss) (readers_back ss xs ys b.1 k.1)
      ∙ source_here s.node s.room s.work x y (sources_in ss) b.0 k.0

  pub writers_back : (places : List (Seated S D L H B)) (firsts nodes : List (IslandNode S D L H B)) → AllBecome places firsts → AllKept (KeepsNode sources drains) firsts nodes → map drains (writers_of nodes) ≡ map drains (drains_in places)
  writers_back [] [] [] b k = refl
  writers_back [] [] (y ∷ ys) b k = absurd k
  writers_back [] (x ∷ xs) ys b k = absurd b
  writers_back (s ∷ ss) [] ys b k = absurd b
  writers_back (s ∷ ss) (x ∷ xs) [] b k = absurd k
  writers_back (s ∷ ss) (x ∷ xs) (y ∷ ys) b k =
      ap (map drains) (writers_end y ys)
      ∙ write_front sources drains (node_end y) (writers_of ys) (drains_in ss) (writers_back ss xs ys b.1 k.1)
      ∙ drain_here s.node s.room s.work x y (drains_in ss) b.0 k.0

  -- all of them
  pub hands_back : (places : List (Seated S D L H B)) (firsts nodes : List (IslandNode S D L H B)) (e : IslandEnd S D) → AllBecome places firsts → AllKept (KeepsNode sources drains) firsts nodes → e.readers.items ≡ readers_of nodes → e.writers.items ≡ writers_of nodes → HandsBack sources drains places e
  hands_back places firsts nodes e b k readers writers = record {
    readers = ap (map sources) readers ∙ readers_back places firsts nodes b k;
    writers = ap (map drains) writers ∙ writers_back places firsts nodes b k;
  }

  -- before the island is taken apart
  pub holds_handles : (places : List (Seated S D L H B)) (firsts nodes : List (IslandNode S D L H B)) → AllBecome places firsts → AllKept (KeepsNode sources drains) firsts nodes → HoldsHandles sources drains places nodes
  holds_handles places firsts nodes b k = record { readers = readers_back places firsts nodes b k; writers = writers_back places firsts nodes b k }
