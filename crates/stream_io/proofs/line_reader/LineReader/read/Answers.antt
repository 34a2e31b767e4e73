-- The piece that was read stands behind the kept bytes.
use Rattle.std.proofs.Common.{◌≡◌, ◌+◌, ◌-◌, take, ℕ, arith, ap, ◌∙◌, add-zero}
use Rattle.stream_io.proofs.Buffers.{ReadsOn-behind, front-given_back}
use Rattle.stream_io.proofs.line_reader.LineReader.read.Goals as goal

pub returns-clause-bytes : goal.returns-clause-bytes
returns-clause-bytes g c =
    let s = c.self.inside in
    rw (← c.self.view_is) (ReadsOn-behind _ _ c.in_ok-n.n (s.end - s.start) _ c.make_room-room.new.bytes.items c.read_at.new.bytes _ c.make_room-room.ensures.kept (rw c.deref_mut.ensures.value at (c.in_ok-n.ensures.front)) (omega (arith, c.in_ok-n.ensures.piece, c.in_ok-room.ensures.room)) (front-given_back _ _ _ _ (omega arith)) c.in_ok-n.ensures.bytes)

pub returns-clause-nothing : goal.returns-clause-nothing
returns-clause-nothing g c =
    let s = c.self.inside in
    λ is.
    let zero : c.in_ok-n.n ≡ 0 = cc in
    rw (← c.self.view_is) (front-given_back _ _ _ _ (omega (arith, c.in_ok-n.ensures.piece)) ∙ ap (λ (n : ℕ). take (s.end - s.start + n) c.read_at.new.bytes) zero ∙ rw add-zero (rw c.deref_mut.ensures.value at (c.in_ok-n.ensures.front) ∙ c.make_room-room.ensures.kept))
