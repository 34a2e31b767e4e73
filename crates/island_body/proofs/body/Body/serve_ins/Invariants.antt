-- The loop of `body::Body::serve_ins`.
use Rattle.std.proofs.Common.{◌≡◌, length, None}
use Rattle.island_body.specs.Ends.{all_taken, all_finds, AllServed}
use Rattle.island_body.specs.Keeping.{BodyStands, BodyGoes}
use Rattle.island_body.proofs.body.Body.serve_ins.Given as goal

abbrev pub invariant-loop-k : goal.invariant-loop-k
invariant-loop-k g l = record {
  stands : BodyStands l.self;
  served : AllServed None l.k 0 l.self.island l.self.ins.items l.self.outs.items;
  ends : length l.self.ins.items ≡ length l.fn.self.ins.items;
  goes : BodyGoes l.fn.self l.self;
  peers : (l.self.peers.ins ≡ l.fn.self.peers.ins) × (l.self.peers.outs ≡ l.fn.self.peers.outs);
  costs : (all_taken l.self.ins.items ≡ all_taken l.fn.self.ins.items) × (all_finds l.self.outs.items ≡ all_finds l.fn.self.outs.items);
  rest : (l.self.island.used ≡ l.fn.self.island.used) × (l.self.spent ≡ l.fn.self.spent);
}
