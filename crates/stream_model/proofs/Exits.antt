-- Where a picture rests, each node that is not shut leads on: an input of it waits, or an output of it is unasked.
use Rattle.std.specs.Prelude.{not}
use Rattle.std.proofs.Common.{◌≡◌, ℕ, ◌+◌, Bool, true, false, ◌⊎◌, inl, inr, List, [], ◌∷◌, Option, Some, None, refl}
use Rattle.elem_core.specs.Tree.{Tree}
use Rattle.stream_model.specs.declared.kind.Kind.{Kind}
use Rattle.stream_model.specs.declared.kind.Kind.TheVariants.{Lines, Range, Empty, Failed, Buffer, Merge, MergeHub, Concat, Interleave, MergeSorted, Zip, Broadcast, BroadcastHub, Balance, Partition, Unzip, Custom}
use Rattle.elem_core.specs.declared.why.Decider.{Decider}
use Rattle.stream_model.specs.declared.kind.Policy.{Policy}
use Rattle.stream_model.specs.declared.kind.Policy.TheVariants.{Backpressure}
use Rattle.stream_model.specs.Graph.{Graph}
use Rattle.stream_model.specs.Node.{World}
use Rattle.stream_model.specs.Listed.{tells_none}
use Rattle.stream_model.specs.OneWay.{OneWay, custom_way, one_way}
use Rattle.stream_model.specs.View.{SeenWire, SomeWire}
use Rattle.stream_model.specs.Rests.{Waits, IsAsked, IsUnasked, FirstOpenWaits, WaitsAt, OneToOne, ManyToOne, OneToMany, StageRests, BufferRests, DroppingRests, MergeRests, ConcatRests, InterleaveRests, SortedStands, SortedRests, ZipRests, BroadcastRests, BalanceRests, numbered, SomeOwed, PartitionRests, SinkRests, SourceRests, RowRests, stage_rests, custom_rests, dropping_rests}

-- some input waits, or some output is unasked
abbrev pub Exit : List SeenWire → List SeenWire → Type 0
Exit is os = SomeWire Waits is ⊎ SomeWire IsUnasked os

first_open : (is : List SeenWire) → FirstOpenWaits is → SomeWire Waits is
first_open [] h = absurd h
first_open (i ∷ is) (inl h) = inl h.0
first_open (i ∷ is) (inr h) = inr (first_open is h.1)

waits_at : (p n : ℕ) (is : List SeenWire) → WaitsAt p n is → SomeWire Waits is
waits_at p n [] h = absurd h
waits_at p n (i ∷ is) (inl h) = inl h.1
waits_at p n (i ∷ is) (inr h) = inr (waits_at p (n + 1) is h.1)

weaker : {P Q : SeenWire → Type 0} (vs : List SeenWire) → ((v : SeenWire) → P v → Q v) → SomeWire P vs → SomeWire Q vs
weaker [] f h = absurd h
weaker (v ∷ vs) f (inl h) = inl (f v h)
weaker (v ∷ vs) f (inr h) = inr (weaker vs f h)

one_to_one : (P : SeenWire → SeenWire → Type 0) (is os : List SeenWire) → ((i o : SeenWire) → P i o → Exit (i ∷ []) (o ∷ [])) → OneToOne P is os → Exit is os
one_to_one P [] os f h = absurd h
one_to_one P (i ∷ []) [] f h = absurd h
one_to_one P (i ∷ []) (o ∷ []) f h = f i o h
one_to_one P (i ∷ []) (o ∷ p ∷ os) f h = absurd h
one_to_one P (i ∷ j ∷ is) os f h = absurd h

many_to_one : (P : List SeenWire → SeenWire → Type 0) (is os : List SeenWire) → ((o : SeenWire) → P is o → Exit is (o ∷ [])) → ManyToOne P is os → Exit is os
many_to_one P is [] f h = absurd h
many_to_one P is (o ∷ []) f h = f o h
many_to_one P is (o ∷ p ∷ os) f h = absurd h

one_to_many : (P : SeenWire → List SeenWire → Type 0) (is os : List SeenWire) → ((i : SeenWire) → P i os → Exit (i ∷ []) os) → OneToMany P is os → Exit is os
one_to_many P [] os f h = absurd h
one_to_many P (i ∷ []) os f h = f i h
one_to_many P (i ∷ j ∷ is) os f h = absurd h

stage_exit : (s : OneWay) (i o : SeenWire) → StageRests s i o → Exit (i ∷ []) (o ∷ [])
stage_exit s i o (inl h) = inl (inl h.1)
stage_exit s i o (inr (inl h)) = inr (inl h.0)
stage_exit s i o (inr (inr h)) = inr (inl h.1)

buffer_exit : (n : ℕ) (i o : SeenWire) → BufferRests n i o → Exit (i ∷ []) (o ∷ [])
buffer_exit n i o (inl h) = inl (inl h.1)
buffer_exit n i o (inr (inl h)) = inr (inl h.0)
buffer_exit n i o (inr (inr (inl h))) = inr (inl h.0)
buffer_exit n i o (inr (inr (inr h))) = inr (inl h.0)

dropping_exit : (b : Bool) (i o : SeenWire) → DroppingRests b i o → Exit (i ∷ []) (o ∷ [])
dropping_exit b i o (inl h) = inl (inl h.0)
dropping_exit b i o (inr h) = inr (inl h.1)

merge_exit : (moves : List ℕ) (is : List SeenWire) (o : SeenWire) → MergeRests moves is o → Exit is (o ∷ [])
merge_exit moves is o (inl h) = inl h.1
merge_exit moves is o (inr h) = inr (inl h.0)

concat_exit : (is : List SeenWire) (o : SeenWire) → ConcatRests is o → Exit is (o ∷ [])
concat_exit is o (inl h) = inl (first_open is h.1)
concat_exit is o (inr h) = inr (inl h.0)

interleave_exit : (segment : ℕ) (is : List SeenWire) (o : SeenWire) → InterleaveRests segment is o → Exit is (o ∷ [])
interleave_exit segment is o (inl h) = inl (waits_at h.1.0 0 is h.1.1)
interleave_exit segment is o (inr h) = inr (inl h.0)

sorted_stands : (is : List SeenWire) (o : SeenWire) → SortedStands is o → Exit is (o ∷ [])
sorted_stands is o (inl h) = inl h.1
sorted_stands is o (inr h) = inr (inl h.0)

sorted_exit : (is : List SeenWire) (o : SeenWire) → SortedRests is o → Exit is (o ∷ [])
sorted_exit [] o h = absurd h
sorted_exit (a ∷ []) o h = absurd h
sorted_exit (a ∷ b ∷ []) o h = sorted_stands (a ∷ b ∷ []) o h.0
sorted_exit (a ∷ b ∷ c ∷ is) o h = absurd h

zip_exit : (is : List SeenWire) (o : SeenWire) → ZipRests is o → Exit is (o ∷ [])
zip_exit is o h = at h.1
  where
    at : (IsAsked o × SomeWire (λ i. Waits i × (i.sent ≡ o.sent)) is) ⊎ IsUnasked o → Exit is (o ∷ [])
    at (inl k) = inl (weaker is (λ v p. p.0) k.1)
    at (inr k) = inr (inl k)

broadcast_exit : (i : SeenWire) (os : List SeenWire) → BroadcastRests i os → Exit (i ∷ []) os
broadcast_exit i os (inl h) = inl (inl h.1)
broadcast_exit i os (inr h) = inr h.0

balance_exit : (i : SeenWire) (os : List SeenWire) → BalanceRests i os → Exit (i ∷ []) os
balance_exit i os (inl h) = inl (inl h.1)
balance_exit i os (inr h) = inr h.0

owed_exit : (given : ℕ → List Tree → ℕ) (i : SeenWire) (n : ℕ) (os : List SeenWire) → SomeOwed given i n os → SomeWire IsUnasked os
owed_exit given i n [] h = absurd h
owed_exit given i n (o ∷ os) (inl h) = inl h.0
owed_exit given i n (o ∷ os) (inr h) = inr (owed_exit given i (n + 1) os h)

partition_exit : (given : ℕ → List Tree → ℕ) (i : SeenWire) (os : List SeenWire) → PartitionRests given i os → Exit (i ∷ []) os
partition_exit given i os (inl h) = inl (inl h)
partition_exit given i os (inr h) = elim h.1 [ inl owed ↦ inr (owed_exit given i 0 os owed) | inr none ↦ inr none.0 ]

sink_exit : (is os : List SeenWire) → SinkRests is → Exit is os
sink_exit [] os h = absurd h
sink_exit (i ∷ []) os h = inl (inl h)
sink_exit (i ∷ j ∷ is) os h = absurd h

source_exit : (is os : List SeenWire) → SourceRests os → Exit is os
source_exit is [] h = absurd h
source_exit is (o ∷ []) h = inr (inl h)
source_exit is (o ∷ p ∷ os) h = absurd h

module _ (g : Graph) (w : World) where
  any_stage_exit : (s : Option OneWay) (is os : List SeenWire) → stage_rests g w s is os → Exit is os
  any_stage_exit None is os h = sink_exit is os h
  any_stage_exit (Some s) is os h = one_to_one (StageRests s) is os (stage_exit s) h

  any_buffer_exit : (node n : ℕ) (p : Policy) (is os : List SeenWire) → dropping_rests g w node n p is os → Exit is os
  any_buffer_exit node n Backpressure is os h = one_to_one (BufferRests n) is os (buffer_exit n) h
  any_buffer_exit node n p is os h = one_to_one (λ i o. DroppingRests _ i o) is os (λ i o. dropping_exit _ i o) h

  some_exit : (s : Option OneWay) (is os : List SeenWire) → (s ≡ None → ⊥) → custom_rests g w s is os → Exit is os
  some_exit None is os t h = absurd (t refl)
  some_exit (Some s) is os t h = one_to_one (StageRests s) is os (stage_exit s) h

  has_way : (node : ℕ) (name : List ℕ) (d : Decider) (b : Bool) → not b ≡ false → custom_way w node name d b ≡ None → ⊥
  has_way node name d true t e = cc
  has_way node name d false t e = cc

  custom_exit : (node : ℕ) (name : List ℕ) (d : Decider) (is os : List SeenWire) → not (w.book.tells name) ≡ false
      → custom_rests g w (custom_way w node name d (w.book.tells name)) is os → Exit is os
  custom_exit node name d is os t h = some_exit (custom_way w node name d (w.book.tells name)) is os (has_way node name d (w.book.tells name) t) h

  -- each row leads on
  pub row_exit : (node : ℕ) (k : Kind) (d : Decider) (is os : List SeenWire) → tells_none w.book k ≡ false → RowRests g w node k d is os → Exit is os
  row_exit node (Lines name) d is os t h = source_exit is os h
  row_exit node (Range low high) d is os t h = source_exit is os h
  row_exit node (Empty b) d is os t h = source_exit is os h
  row_exit node (Failed b) d is os t h = source_exit is os h
  row_exit node (Buffer n p) d is os t h = any_buffer_exit node n p is os h
  row_exit node (Merge n) d is os t h = many_to_one (MergeRests (w.moves node)) is os (merge_exit (w.moves node) is) h
  row_exit node (MergeHub s n) d is os t h = many_to_one (MergeRests (w.moves node)) is os (merge_exit (w.moves node) is) h
  row_exit node (Concat n) d is os t h = many_to_one ConcatRests is os (concat_exit is) h
  row_exit node (Interleave n s) d is os t h = many_to_one (InterleaveRests s) is os (interleave_exit s is) h
  row_exit node MergeSorted d is os t h = many_to_one SortedRests is os (sorted_exit is) h
  row_exit node Zip d is os t h = many_to_one ZipRests is os (zip_exit is) h
  row_exit node (Broadcast n) d is os t h = one_to_many BroadcastRests is os (λ i p. broadcast_exit i os p) h
  row_exit node (BroadcastHub s n) d is os t h = one_to_many BroadcastRests is os (λ i p. broadcast_exit i os p) h
  row_exit node Unzip d is os t h = one_to_many BroadcastRests is os (λ i p. broadcast_exit i os p) h
  row_exit node (Balance n) d is os t h = one_to_many BalanceRests is os (λ i p. balance_exit i os p) h
  row_exit node (Partition n f) d is os t h = one_to_many (PartitionRests (numbered w node n f)) is os (λ i p. partition_exit (numbered w node n f) i os p) h
  row_exit node (Custom name) d is os t h = custom_exit node name d is os t h
  row_exit node k d is os t h = any_stage_exit (one_way g w node k d) is os h
