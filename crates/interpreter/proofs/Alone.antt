-- Where no sink of an island has room to put lines together none has put any off.
use Rattle.std.proofs.Common.{◌≡◌, ◌≢◌, inl, inr, ℕ, zero, suc, ◌+◌, ◌<◌, ◌≤◌, None, Some, List, [], ◌∷◌, length, slice_get, refl, sym, ap, ◌∙◌, subst, arith}
use Rattle.std.specs.Prelude.{max}
use Rattle.elem_core.specs.declared.item.Item.{Item}
use Rattle.elem_core.specs.Tree.{Tree}
use Rattle.stream_io.specs.State.{SourceState, DrainState}
use Rattle.stream_model.specs.Linear.{Book}
use Rattle.stream_model.specs.declared.outcome.EndState.{EndState}
use Rattle.stream_model.specs.declared.outcome.EndState.TheVariants.{Unended, Ended, Failed, WriteFault}
use Rattle.port_core.specs.View.{View}
use Rattle.nodes.specs.declared.node.IslandNode.{IslandNode}
use Rattle.nodes.specs.declared.node.IslandNode.TheVariants as node
use Rattle.nodes.specs.declared.sink.Writes.{Writes}
use Rattle.nodes.specs.declared.sink.Writes.TheVariants.{Each, First, Last}
use Rattle.nodes.specs.Kinds.{writes_of}
use Rattle.nodes.specs.Nodes.{node_law, node_late, NoneLate}
use Rattle.nodes.specs.Sink.{Gathered, Sink, sink_room, sink_late, late_in, SinkStandsAs, SinkLaw}
use Rattle.fused_net.specs.Net.{Net}
use Rattle.fused_net.proofs.Reading.{same_or_not, get_there, get_within, some_same}
use Rattle.interpreter.specs.declared.parts.Work.{Work}
use Rattle.interpreter.specs.declared.parts.Work.TheVariants as work
use Rattle.interpreter.specs.declared.parts.Seated.{Seated}
use Rattle.interpreter.specs.Parts.{BecomesOf, AllBecome, NonePutsTogether, PutsOne, AllPutOne}
use Rattle.interpreter.specs.Island.{Kept, IslandKeeps}

room_one : (w : Writes) (room : ℕ) → room ≤ 1 → sink_room w room ≡ 1
room_one Each zero h = refl
room_one Each (suc zero) h = refl
room_one Each (suc (suc n)) h = absurd (omega (arith, h))
room_one First room h = refl
room_one Last room h = refl

one_of : {S D L H B : Type 0} (k room : ℕ) (w : Work S D L H B) (x : IslandNode S D L H B) → BecomesOf k room w x → room ≤ 1 → PutsOne x
one_of k room (work.Reading r) x e h = rw e tt
one_of k room (work.Making kind) x e h = rw e tt
one_of k room (work.Linear l) x e h = rw e tt
one_of k room (work.State l) x e h = rw e tt
one_of k room (work.Sub l) x e h = rw e tt
one_of k room (work.FanIn l n) x e h = rw e tt
one_of k room (work.FanOut l n) x e h = rw e tt
one_of k room (work.Custom c i o) x e h = rw e tt
one_of k room (work.Writing kind (Some d)) x e h = rw e (room_one (writes_of kind) room h)
one_of k room (work.Writing kind None) x e h = rw e tt
one_of k room (work.LaneIn u) x e h = rw e tt
one_of k room (work.LaneOut u) x e h = rw e tt

-- what became of works without room to put lines together
pub all_one : {S D L H B : Type 0} (seats : List (Seated S D L H B)) (nodes : List (IslandNode S D L H B)) → AllBecome seats nodes → NonePutsTogether seats → AllPutOne nodes
all_one [] [] a n k x e = absurd cc
all_one [] (y ∷ ys) a n k x e = absurd a
all_one (s ∷ ss) [] a n k x e = absurd a
all_one (s ∷ ss) (y ∷ ys) a n zero x e = subst (λ (z : IslandNode _ _ _ _ _). PutsOne z) (some_same y x e) (one_of s.node s.room s.work y a.0 (n 0 s refl))
all_one (s ∷ ss) (y ∷ ys) a n (suc k) x e = all_one ss ys a.1 (λ j z at. n (suc j) z at) k x e

late_by : (s : EndState) (y : Gathered) (old new : DrainState) (wrote : List Tree) (n : ℕ) → SinkStandsAs s y old new wrote n → y.room ≡ 1 → y.passed < y.room → late_in s y.late ≡ 0
late_by Unended y old new wrote n stands one few = stands.due (omega (arith, one, few))
late_by Ended y old new wrote n stands one few = refl
late_by (Failed c) y old new wrote n stands one few = refl
late_by WriteFault y old new wrote n stands one few = refl

late_one : {D : Type 0} (state : D → DrainState) (first x : Sink D) (v : View) (took gave : List (List Item)) → SinkLaw state first x v took gave → first.gather.room ≡ 1 → sink_late x ≡ 0
late_one state first x v took gave law one = late_by x.end x.gather _ _ law.wrote x.count law.stands (rw law.room_same one) law.paced.few

node_one : {S D L H B : Type 0} (sources : S → SourceState) (drains : D → DrainState) (book : Book) (first x : IslandNode S D L H B) (v : View) (took gave : List (List Item))
    → node_law sources drains book first x v took gave → PutsOne first → node_late x ≡ 0
node_one sources drains book (node.Writing f) (node.Writing x) v took gave law one = late_one drains f x v took gave law one
node_one sources drains book (node.Reading f) (node.Writing x) v took gave law one = absurd law
node_one sources drains book (node.Making f) (node.Writing x) v took gave law one = absurd law
node_one sources drains book (node.Linear f) (node.Writing x) v took gave law one = absurd law
node_one sources drains book (node.State f) (node.Writing x) v took gave law one = absurd law
node_one sources drains book (node.Sub f) (node.Writing x) v took gave law one = absurd law
node_one sources drains book (node.FanIn f) (node.Writing x) v took gave law one = absurd law
node_one sources drains book (node.FanOut f) (node.Writing x) v took gave law one = absurd law
node_one sources drains book (node.Custom f) (node.Writing x) v took gave law one = absurd law
node_one sources drains book (node.Ignoring f) (node.Writing x) v took gave law one = absurd law
node_one sources drains book (node.Entering f) (node.Writing x) v took gave law one = absurd law
node_one sources drains book (node.Leaving f) (node.Writing x) v took gave law one = absurd law
node_one sources drains book first (node.Reading x) v took gave law one = refl
node_one sources drains book first (node.Making x) v took gave law one = refl
node_one sources drains book first (node.Linear x) v took gave law one = refl
node_one sources drains book first (node.State x) v took gave law one = refl
node_one sources drains book first (node.Sub x) v took gave law one = refl
node_one sources drains book first (node.FanIn x) v took gave law one = refl
node_one sources drains book first (node.FanOut x) v took gave law one = refl
node_one sources drains book first (node.Custom x) v took gave law one = refl
node_one sources drains book first (node.Ignoring x) v took gave law one = refl
node_one sources drains book first (node.Entering x) v took gave law one = refl
node_one sources drains book first (node.Leaving x) v took gave law one = refl

-- nothing is put off in an island of such nodes
pub none_late : {S D L H B : Type 0} (sources : S → SourceState) (drains : D → DrainState) (book : Book) (net : Net (IslandNode S D L H B)) (used : ℕ)
    → IslandKeeps sources drains book net used → AllPutOne net.firsts → NoneLate net.nodes
none_late sources drains book net used keeps one k x at =
    let h = get_within net.nodes k x at in
    let first = get_there net.firsts k (rw keeps.laws.each_first h) in
    node_one sources drains book first.0 x _ _ _ (keeps.laws.minded k h x first.0 at first.1).law_holds (one k first.0 first.1)

pub late_in_island : {S D L H B : Type 0} (i k : Kept S D L H B) → i ≡ k → NoneLate i.net.nodes → NoneLate k.net.nodes
late_in_island {S = S} {D = D} {L = L} {H = H} {B = B} i k e h = subst (λ (z : Kept S D L H B). NoneLate z.net.nodes) e h

-- one more of the works that were looked at
pub one_next : {S D L H B : Type 0} (seats : List (Seated S D L H B)) (n : ℕ) (x : Seated S D L H B) → slice_get seats n ≡ Some x → x.room ≤ 1
    → ((k : ℕ) (s : Seated S D L H B) → k < n → slice_get seats k ≡ Some s → s.room ≤ 1) → (k : ℕ) (s : Seated S D L H B) → k < n + 1 → slice_get seats k ≡ Some s → s.room ≤ 1
one_next seats n x here few below k s h at = elim (same_or_not k n) [
  | inl e ↦ let same : x ≡ s = some_same x s (sym here ∙ ap (slice_get seats) (sym e) ∙ at) in subst (λ (z : Seated _ _ _ _ _). z.room ≤ 1) same few
  | inr other ↦ below k s (omega (arith, h, other)) at
]
