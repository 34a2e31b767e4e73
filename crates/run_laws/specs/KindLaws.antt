-- What each kind of node gives of its law, over lists of ports alone: the laws of runs and of their pictures ask no more of it.
use Rattle.std.specs.Prelude.{◌≡◌, ℕ, ◌≤◌, ◌⊎◌, Bool, true, false, List, map, Some, slice_get, slice_index_or}
use Rattle.elem_core.specs.declared.item.Item.{Item}
use Rattle.elem_core.specs.declared.why.Decider.{Decider}
use Rattle.elem_core.specs.Tree.{Tree}
use Rattle.port_core.specs.View.{View, in_at}
use Rattle.port_core.specs.declared.view.InView.{InView}
use Rattle.stage_core.specs.Held.{told}
use Rattle.stage_core.specs.Law.{TookAs}
use Rattle.stream_model.specs.declared.kind.Kind.{Kind}
use Rattle.stream_model.specs.Fits.{moves_fit}
use Rattle.stream_model.specs.Graph.{Graph}
use Rattle.stream_model.specs.Graph as graph
use Rattle.stream_model.specs.Linear.{Work, linear, begin_work, role_of}
use Rattle.stream_model.specs.Node.{World, node_outlook, of_work}
use Rattle.stream_model.specs.Outlook.{Outlook, End}
use Rattle.stream_model.specs.Lawful.{RowLawful, StageLawful}
use Rattle.stream_model.specs.OneWay.{of_machine, holds_at_end, is_sink}
use Rattle.stream_model.specs.Rests.{RowRests, StageRests, OneToOne}
use Rattle.stream_model.specs.View.{EachWire}
use Rattle.stream_model.specs.View as picture
use Rattle.stream_model.specs.Rests.{IsShut}
use Rattle.run_laws.specs.Replayed.{Plans, RoleLawfulBy, RowRestsBy}
use Rattle.run_laws.specs.Items.{AllMayPass, AgreesWith}
use Rattle.run_laws.specs.Account.{Earlier, LastAsked}
use Rattle.run_laws.specs.Ports.{InPort, OutPort, EachPort, InStands, OutStands, InRests, OutRests}

-- a kind that is one machine between one input and one output: in a run, and in a picture
pub record IsOneMachine (kd : Kind) (wk : Work) : Type 0 where
  pub no_sink : is_sink kd ≡ false
  pub outlook : (g : Graph) (w : World) (k : ℕ) (d : Decider) (os : List Outlook) (p : ℕ) → node_outlook g w k kd d os p ≡ of_work w.book k d (Some wk) os
  pub no_moves : (g : Graph) (w : World) (k : ℕ) (os : List Outlook) → moves_fit g w k kd os ≡ true
  pub lawful : (g : Graph) (w : World) (k : ℕ) (d : Decider) (is os : List picture.SeenWire)
      → OneToOne (StageLawful (of_machine (linear w.book wk) (begin_work k d wk) (holds_at_end wk))) is os → RowLawful g w k kd d is os
  pub rests : (g : Graph) (w : World) (k : ℕ) (d : Decider) (is os : List picture.SeenWire)
      → OneToOne (StageRests (of_machine (linear w.book wk) (begin_work k d wk) (holds_at_end wk))) is os → RowRests g w k kd d is os

-- the history is a list and an end, which is known of the port
pub record IsHistoryOf (x : InView) (h : List Item) : Type 0 where
  pub list : List Tree
  pub end : End
  pub is : h ≡ told list end
  pub as_seen : TookAs x end

-- what came at each input is so
abbrev pub HearsAll : View → List (List Item) → Type 0
HearsAll v took = (p : ℕ) (h : List Item) → slice_get took p ≡ Some h → IsHistoryOf (in_at v p) h

-- In a run: where what a node took may pass by these outlooks, what it gave agrees with its own, and its moves fit them.
pub record RunLaws (g : Graph) (w : World) (k : ℕ) (n : graph.Node) (took gave : List (List Item)) : Type 0 where
  pub gives : (os : List Outlook) → AllMayPass os took → (p : ℕ) (h : List Item) → slice_get gave p ≡ Some h
      → AgreesWith (node_outlook g w k n.kind n.decider os p) h
  pub fits : (os : List Outlook) → AllMayPass os took → moves_fit g w k n.kind os ≡ true

-- the moments of a node's asks, by its ports: the last one at input p, and the last one at any
abbrev pub Moments : {N : Type 0} → (N → View → Type 0) → (N → N → View → List (List Item) → List (List Item) → Type 0) → (N → View → Type 0) → (N → List ℕ) → N
    → N → List InPort → List OutPort → ℕ → Type 0
Moments port_state law asking moves first now is os p =
    Earlier port_state law asking moves p first now (map (λ (i : InPort). i.got) is) (map (λ (o : OutPort). o.sent) os) (map (λ (i : InPort). i.want) is)
    (map (λ (o : OutPort). o.want) os) (map (λ (o : OutPort). o.wire.shut) os)
    × LastAsked port_state law asking moves first now (map (λ (i : InPort). i.got) is) (map (λ (o : OutPort). o.sent) os) (map (λ (i : InPort). i.want) is)
    (map (λ (o : OutPort). o.want) os) (map (λ (o : OutPort). o.wire.shut) os)

-- In a picture, of a node that follows no moves, by the ports and by the moments of the node's asks: its port_state of a lawful one, its port_state of one that rests, and that
-- the input of a sink is shut exactly where it has ended.
pub record PictureLaws {N : Type 0} (port_state : N → View → Type 0) (law : N → N → View → List (List Item) → List (List Item) → Type 0)
    (asking : N → View → Type 0) (moves : N → List ℕ) (ended : N → Bool)
    (g : Graph) (w : World) (k : ℕ) (n : graph.Node) (first now : N) (is : List InPort) (os : List OutPort) : Type 0 where
  pub lawful : EachPort InStands is → EachPort OutStands os
      → ((p : ℕ) → 1 ≤ slice_index_or (map (λ (i : InPort). i.want) is) p 0 → Moments port_state law asking moves first now is os p)
      → RowLawful g w k n.kind n.decider (map (λ (i : InPort). i.wire) is) (map (λ (o : OutPort). o.wire) os)
  pub rests : EachPort InStands is → EachPort OutStands os → EachPort InRests is → EachPort OutRests os
      → (EachWire IsShut (map (λ (i : InPort). i.wire) is) × EachWire IsShut (map (λ (o : OutPort). o.wire) os))
      ⊎ RowRests g w k n.kind n.decider (map (λ (i : InPort). i.wire) is) (map (λ (o : OutPort). o.wire) os)
  pub matches : is_sink n.kind ≡ true → EachPort InRests is → EachWire (λ (i : picture.SeenWire). i.shut ≡ ended now) (map (λ (i : InPort). i.wire) is)

-- In a picture, by the ports and by the moments of the node's asks, where nodes follow these plans: its row of a lawful one; its row of one that
-- rests, where what it took may pass by these outlooks; and that the input of a sink is shut exactly where it has ended.
pub record PictureLawsBy {N : Type 0} (port_state : N → View → Type 0) (law : N → N → View → List (List Item) → List (List Item) → Type 0)
    (asking : N → View → Type 0) (moves : N → List ℕ) (ended : N → Bool)
    (g : Graph) (w : World) (plans : Plans) (k : ℕ) (n : graph.Node) (first now : N) (is : List InPort) (os : List OutPort) : Type 0 where
  pub lawful : EachPort InStands is → EachPort OutStands os
      → ((p : ℕ) → 1 ≤ slice_index_or (map (λ (i : InPort). i.want) is) p 0 → Moments port_state law asking moves first now is os p)
      → RoleLawfulBy g w plans k (role_of n.kind) n.decider (map (λ (i : InPort). i.wire) is) (map (λ (o : OutPort). o.wire) os)
  pub rests : (comes : List Outlook) → AllMayPass comes (map (λ (i : InPort). i.got) is) → EachPort InStands is → EachPort OutStands os → EachPort InRests is
      → EachPort OutRests os
      → (EachWire IsShut (map (λ (i : InPort). i.wire) is) × EachWire IsShut (map (λ (o : OutPort). o.wire) os))
      ⊎ RowRestsBy g w plans k n.kind n.decider comes (map (λ (i : InPort). i.wire) is) (map (λ (o : OutPort). o.wire) os)
  pub matches : is_sink n.kind ≡ true → EachPort InRests is → EachWire (λ (i : picture.SeenWire). i.shut ≡ ended now) (map (λ (i : InPort). i.wire) is)
