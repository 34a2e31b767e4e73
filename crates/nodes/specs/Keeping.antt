-- What of a node outlives want of memory: the handle that it holds.
use Rattle.std.specs.Prelude.{◌≡◌, ◌+◌, ◌≤◌, Option, None, Some, ⊤}
use Rattle.stream_io.specs.State.{SourceState, DrainState}
use Rattle.nodes.specs.declared.node.NodeEnd.{NodeEnd}
use Rattle.nodes.specs.declared.node.NodeEnd.TheVariants.{Read, Staged, Wrote}

-- a source of bytes is that of the same file, and no read of it failed; so many bytes as a reader keeps at most were read of it
pub record KeepsSource (old new : SourceState) : Type 0 where
  pub name : new.name ≡ old.name
  pub whole : new.whole ≡ old.whole
  pub given : old.given ≤ new.given
  pub ahead : new.given ≤ old.given + 69632
  pub faults : new.faults ≡ old.faults

module _ {S D : Type 0} (sources : S → SourceState) (drains : D → DrainState) where
  -- a drain, if there is one, has what it had
  abbrev pub KeepsDrain : Option D → Option D → Type 0
  KeepsDrain None None = ⊤
  KeepsDrain (Some d) (Some e) = drains e ≡ drains d
  KeepsDrain _ _ = ⊥

  -- the same of what a node leaves: a source is as far as it was read, and a drain has what it had
  abbrev pub KeepsEnd : NodeEnd S D → NodeEnd S D → Type 0
  KeepsEnd (Read s) (Read t) = KeepsSource (sources s) (sources t)
  KeepsEnd Staged Staged = ⊤
  KeepsEnd (Wrote x) (Wrote y) = KeepsDrain x.drain y.drain
  KeepsEnd _ _ = ⊥
