-- What stays where a passive node stands, which acts only from outside: while the graph runs by itself nothing is pushed or closed
-- at its outputs, and its inputs are neither asked nor cancelled.
use Rattle.std.specs.Prelude.{◌≡◌, ◌≢◌, ℕ, Bool, true, false, Option, None, Some, List, [], ◌∷◌, ◌++◌, map, slice_get, ⊤}
use Rattle.elem_core.specs.declared.item.Item.{Item}
use Rattle.port_core.specs.View.{View}
use Rattle.port_core.specs.declared.view.InView.TheVariants.{Cancelled}
use Rattle.port_core.specs.Marks.{wanted, Grown}
use Rattle.fused_net.specs.PortLists.{PortLists}
use Rattle.fused_net.specs.Net.{Net, end_at, wire_at, ports_at}
use Rattle.fused_net.specs.Laws.{BreaksOff}
use Rattle.fused_net.specs.Poking.{AtNode}

module _ {N : Type 0} (passive : N → Bool) where
  -- node n is passive
  abbrev pub IsPassiveAt : Net N → ℕ → Type 0
  IsPassiveAt net n = AtNode net n (λ x. passive x ≡ true)

  -- the graph went on, each wire grew, and at the wires of passive nodes only their peers acted
  pub record StandsStill (old new : Net N) : Type 0 where
    pub kinds : map passive new.nodes ≡ map passive old.nodes
    pub grown : (w : ℕ) → Grown (wire_at old w) (wire_at new w)
    pub sent : (w : ℕ) → IsPassiveAt old (end_at old.ends w).from → (wire_at new w).wire.sent ≡ (wire_at old w).wire.sent
    pub asks : (w : ℕ) → IsPassiveAt old (end_at old.ends w).to → wanted (wire_at new w) ≡ wanted (wire_at old w)
    pub left : (w : ℕ) → IsPassiveAt old (end_at old.ends w).to → (wire_at new w).wire.inp ≡ Cancelled → (wire_at old w).wire.inp ≡ Cancelled

-- an event of wire w touched a passive node, or not
abbrev pub touched : Bool → ℕ → Option ℕ
touched true w = Some w
touched false w = None

-- another wire than that one, if there is one
abbrev pub IsElse : Option ℕ → ℕ → Type 0
IsElse None u = ⊤
IsElse (Some w) u = u ≢ w

-- a node has this wire alone
abbrev pub HasOnly : PortLists → ℕ → Type 0
HasOnly p u = p.ins ++ p.outs ≡ u ∷ []

module _ {N : Type 0} (passive : N → Bool) where
  -- the graph went on, and no passive node heard of any wire but that one, if there is one
  pub record Untouched (at : Option ℕ) (old new : Net N) : Type 0 where
    pub outs : (u : ℕ) → IsElse at u → IsPassiveAt passive old (end_at old.ends u).from → (wire_at new u).wire.out ≡ (wire_at old u).wire.out
    pub ins : (u : ℕ) → IsElse at u → IsPassiveAt passive old (end_at old.ends u).to
        → ((wire_at new u).wire.inp ≡ (wire_at old u).wire.inp) × ((wire_at new u).wire.got ≡ (wire_at old u).wire.got)
    pub nodes : (u k : ℕ) → IsElse at u → IsPassiveAt passive old k → HasOnly (ports_at old k) u → slice_get new.nodes k ≡ slice_get old.nodes k

module _ {N : Type 0} (port_state : N → View → Type 0) (law : N → N → View → List (List Item) → List (List Item) → Type 0) (asking : N → View → Type 0)
    (moves : N → List ℕ) (gone : N → List Item) (passive : N → Bool) where
  -- Memory was wanting in a handler: up to the last moment between two events only their peers acted at the wires of passive nodes,
  -- from which nothing left the graph.
  pub record BreaksAside (keeps : N → N → Type 0) (old : Net N) (nodes : List N) : Type 0 where
    pub breaks : BreaksOff port_state law asking moves keeps old nodes
    pub none_gone : map gone breaks.last.nodes ≡ map gone old.nodes
    pub still : StandsStill passive old breaks.last
