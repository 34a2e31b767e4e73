-- What is known of bodies, and of their ends, by their places.
use Rattle.std.proofs.Common.{◌≡◌, ℕ, List, length, Some, sym, ap, subst, ◌∙◌}
use Rattle.std.specs.Prelude.{slice_get}
use Rattle.std.specs.declared.vec.Vec.{Vec}
use Rattle.std.specs.declared.alloc.Global.{Global}
use Rattle.stream_io.specs.State.{SourceState, DrainState}
use Rattle.interpreter.specs.declared.island.IslandEnd.{IslandEnd}
use Rattle.interpreter.specs.Island.{Kept}
use Rattle.island_body.specs.declared.output.OutputBoundary.{OutputBoundary}
use Rattle.island_body.specs.declared.input.IslandInput.{IslandInput}
use Rattle.island_body.specs.declared.body.Body.{Body}
use Rattle.island_body.specs.declared.peers.Peers.{Peers}
use Rattle.island_plans.specs.Peers.{HavePeers}
use Rattle.island_plans.specs.Making.{IsBodyOf, AreAllBodies, IsEndOfBody, AreEndsOfBodies}
use Rattle.island_plans.proofs.Making.{EachIs, same_item}
use Rattle.stream_model.specs.Linear.{Book}

module _ {S D L H B : Type 0} (sources : S → SourceState) (drains : D → DrainState) (book : Book) (islands : List (Kept S D L H B)) (ins : List (Vec IslandInput Global)) (outs : List (Vec OutputBoundary Global)) where
  -- the body at a place is that of the island there
  abbrev pub MadeAt : ℕ → Body S D L H B → Type 0
  MadeAt k b = (i : Kept S D L H B) (x : Vec IslandInput Global) (o : Vec OutputBoundary Global) → slice_get islands k ≡ Some i → slice_get ins k ≡ Some x → slice_get outs k ≡ Some o → IsBodyOf sources drains book i x.items o.items b

  pub made_at : (k : ℕ) (i : Kept S D L H B) (x : Vec IslandInput Global) (o : Vec OutputBoundary Global) (b : Body S D L H B) → slice_get islands k ≡ Some i → slice_get ins k ≡ Some x → slice_get outs k ≡ Some o → IsBodyOf sources drains book i x.items o.items b → MadeAt k b
  made_at k i x o b ai ax ao m j y p aj ay aq =
      subst (λ v. IsBodyOf sources drains book v y.items p.items b) (same_item i j (sym ai ∙ aj))
      (subst (λ v. IsBodyOf sources drains book i v.items p.items b) (same_item x y (sym ax ∙ ay))
      (subst (λ v. IsBodyOf sources drains book i x.items v.items b) (same_item o p (sym ao ∙ aq)) m))

  pub all_made : (bodies : List (Body S D L H B)) → length bodies ≡ length islands → EachIs MadeAt bodies → AreAllBodies sources drains book islands ins outs bodies
  all_made bodies n e = record { many = n; each = λ k i x o b ai ax ao ab. e k b ab i x o ai ax ao }

module _ {S D L H B : Type 0} (bodies : List (Body S D L H B)) where
  -- the end at a place is that of the body there
  abbrev pub EndsAt : ℕ → IslandEnd S D → Type 0
  EndsAt k e = (b : Body S D L H B) → slice_get bodies k ≡ Some b → IsEndOfBody b e

  pub ends_at : (k : ℕ) (b : Body S D L H B) (e : IslandEnd S D) → slice_get bodies k ≡ Some b → IsEndOfBody b e → EndsAt k e
  ends_at k b e ab is c ac = subst (λ v. IsEndOfBody v e) (same_item b c (sym ab ∙ ac)) is

  pub all_ended : (ends : List (IslandEnd S D)) → length ends ≡ length bodies → EachIs EndsAt ends → AreEndsOfBodies bodies ends
  all_ended ends n e = record { many = n; each = λ k b x ab ax. e k x ax b ab }

module _ {S D L H B : Type 0} (peers : List Peers) where
  -- the body at a place has the peers there
  abbrev pub PeersAt : ℕ → Body S D L H B → Type 0
  PeersAt k b = (p : Peers) → slice_get peers k ≡ Some p → (b.peers.ins ≡ p.ins) × (b.peers.outs ≡ p.outs)

  pub peers_at : (k : ℕ) (p : Peers) (b : Body S D L H B) → slice_get peers k ≡ Some p → b.peers.ins ≡ p.ins → b.peers.outs ≡ p.outs → PeersAt k b
  peers_at k p b ap_ ei eo q aq = let same = same_item p q (sym ap_ ∙ aq) in (ei ∙ ap (λ (v : Peers). v.ins) same, eo ∙ ap (λ (v : Peers). v.outs) same)

  pub all_have : (bodies : List (Body S D L H B)) → EachIs PeersAt bodies → HavePeers peers bodies
  all_have bodies e = record { each = λ k p b at ab. e k b ab p at }
