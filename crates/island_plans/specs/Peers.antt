-- The islands at the other ends of the lanes of each island.
use Rattle.std.specs.Prelude.{◌≡◌, ℕ, List, Some, length, map, slice_get}
use Rattle.std.specs.declared.vec.Vec.{Vec}
use Rattle.std.specs.declared.alloc.Global.{Global}
use Rattle.scatter.specs.Shares.{of_home}
use Rattle.blue_check.specs.declared.plan.LanePlan.{LanePlan}
use Rattle.island_body.specs.declared.peers.Peers.{Peers}
use Rattle.island_body.specs.declared.body.Body.{Body}

-- the peers of each island, by these lists
pub record ArePaired (ins outs : List (Vec ℕ Global)) (peers : List Peers) : Type 0 where
  pub many : length peers ≡ length ins
  pub ins_are : (k : ℕ) (x : Vec ℕ Global) (p : Peers) → slice_get ins k ≡ Some x → slice_get peers k ≡ Some p → p.ins.items ≡ x.items
  pub outs_are : (k : ℕ) (o : Vec ℕ Global) (p : Peers) → slice_get outs k ≡ Some o → slice_get peers k ≡ Some p → p.outs.items ≡ o.items

-- Of each of so many islands the senders of the lanes that it takes from, and the takers of those that it sends on, in the order of
-- lanes.
pub record ArePeers (lanes : List LanePlan) (count : ℕ) (peers : List Peers) : Type 0 where
  pub many : length peers ≡ count
  pub ins_are : (k : ℕ) (p : Peers) → slice_get peers k ≡ Some p → p.ins.items ≡ of_home (map (λ (l : LanePlan). l.to) lanes) k
      (map (λ (l : LanePlan). l.from) lanes)
  pub outs_are : (k : ℕ) (p : Peers) → slice_get peers k ≡ Some p → p.outs.items ≡ of_home (map (λ (l : LanePlan). l.from) lanes) k
      (map (λ (l : LanePlan). l.to) lanes)

-- each body has these
pub record HavePeers {S D L H B : Type 0} (peers : List Peers) (bodies : List (Body S D L H B)) : Type 0 where
  pub each : (k : ℕ) (p : Peers) (b : Body S D L H B) → slice_get peers k ≡ Some p → slice_get bodies k ≡ Some b → (b.peers.ins ≡ p.ins) × (b.peers.outs ≡ p.outs)
