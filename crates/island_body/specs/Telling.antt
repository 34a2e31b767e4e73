-- What a body told the other ends of its lanes, and which islands it wakes for it.
use Rattle.std.specs.Prelude.{◌≡◌, ◌⊎◌, ◌<◌, ◌≤◌, ℕ, true, length, slice_get, Some}
use Rattle.port_core.specs.Ring.{is_queued, Distinct}
use Rattle.lane_core.specs.Ends.{sent, ask_calls, has_cancelled}
use Rattle.island_body.specs.declared.output.OutputBoundary.{OutputBoundary}
use Rattle.island_body.specs.declared.input.IslandInput.{IslandInput}
use Rattle.island_body.specs.declared.body.Body.{Body}

-- an input end has asked no less often than before, and taken back no cancel
pub record TellsIn (x y : IslandInput) : Type 0 where
  pub asks_more : ask_calls x.boundary.lane ≤ ask_calls y.boundary.lane
  pub cancels : has_cancelled x.boundary.lane ≤ has_cancelled y.boundary.lane

-- an output end has sent no less than before
abbrev pub TellsOut : OutputBoundary → OutputBoundary → Type 0
TellsOut o p = length (sent o.lane) ≤ length (sent p.lane)

-- an input end asked for more, or cancelled
abbrev pub IsToldBy : IslandInput → IslandInput → Type 0
IsToldBy x y = (ask_calls x.boundary.lane < ask_calls y.boundary.lane) ⊎ (has_cancelled x.boundary.lane < has_cancelled y.boundary.lane)

-- an output end sent something
abbrev pub IsSentBy : OutputBoundary → OutputBoundary → Type 0
IsSentBy o p = length (sent o.lane) < length (sent p.lane)

module _ {S D L H B : Type 0} where
  -- no end has told its other end less than before, and the islands there are the same
  pub record TellsNoLess (old new : Body S D L H B) : Type 0 where
    pub ins_many : length new.ins.items ≡ length old.ins.items
    pub outs_many : length new.outs.items ≡ length old.outs.items
    pub ins : (k : ℕ) (x y : IslandInput) → slice_get old.ins.items k ≡ Some x → slice_get new.ins.items k ≡ Some y → TellsIn x y
    pub outs : (k : ℕ) (o p : OutputBoundary) → slice_get old.outs.items k ≡ Some o → slice_get new.outs.items k ≡ Some p → TellsOut o p
    pub in_peers : new.peers.ins ≡ old.peers.ins
    pub out_peers : new.peers.outs ≡ old.peers.outs

  -- an input end at whose other end this island is asked for more or cancelled
  pub record ToldIn (old new : Body S D L H B) (island : ℕ) : Type 0 where
    pub place : ℕ
    pub before : IslandInput
    pub after : IslandInput
    pub before_at : slice_get old.ins.items place ≡ Some before
    pub after_at : slice_get new.ins.items place ≡ Some after
    pub peer : slice_get new.peers.ins.items place ≡ Some island
    pub told : IsToldBy before after

  -- an output end at whose other end this island is sent something
  pub record ToldOut (old new : Body S D L H B) (island : ℕ) : Type 0 where
    pub place : ℕ
    pub before : OutputBoundary
    pub after : OutputBoundary
    pub before_at : slice_get old.outs.items place ≡ Some before
    pub after_at : slice_get new.outs.items place ≡ Some after
    pub peer : slice_get new.peers.outs.items place ≡ Some island
    pub told : IsSentBy before after

  -- one of its ends told that island something
  abbrev pub HasTold : Body S D L H B → Body S D L H B → ℕ → Type 0
  HasTold old new island = ToldIn old new island ⊎ ToldOut old new island

  -- the islands that are to be woken are those which were told something since, each once
  pub record Wakes (old new : Body S D L H B) : Type 0 where
    pub tells : TellsNoLess old new
    pub once : Distinct new.peers.woken.queue
    pub each : (island : ℕ) → is_queued new.peers.woken.queue island ≡ true → HasTold old new island
    pub all : (island : ℕ) → HasTold old new island → is_queued new.peers.woken.queue island ≡ true

  -- whatever was told since some moment before, the islands that are to be woken for it are those still
  abbrev pub WakesOn : Body S D L H B → Body S D L H B → Type 0
  WakesOn old new = (first : Body S D L H B) → Wakes first old → Wakes first new
