-- Lists that islands hand back, each of which looks as the share of its island does.
use Rattle.std.specs.Prelude.{All, slice_get}
use Rattle.std.proofs.Common.{◌≡◌, ℕ, ◌<◌, ◌≤◌, List, length, map, Some, ap, sym, ◌∙◌, arith}
use Rattle.std.specs.declared.vec.Vec.{Vec}
use Rattle.std.specs.declared.alloc.Global.{Global}
use Rattle.std.proofs.lemmas.List.{length-map}
use Rattle.scatter.specs.Shares.{of_home, share_of, items_at}
use Rattle.scatter.proofs.Sharing.{share_count, share_map, share_one}
use Rattle.island_parts.proofs.EndsJoining.{at_place, items_there}
use Rattle.island_parts.proofs.Leaving.{items_beyond, less_or, none_beyond}
use Rattle.island_parts.proofs.Sharing.{make_one}

-- the lists of these ends are the shares of one list
pub record AreSharesOf {E Z : Type 0} (g : E → Vec Z Global) (ends : List E) (homes : List ℕ) (all : List Z) : Type 0 where
  pub each : length all ≡ length homes
  pub shares : (k : ℕ) (e : E) → slice_get ends k ≡ Some e → (g e).items ≡ of_home homes k all

module _ {E Z Y : Type 0} (state : Z → Y) (g : E → Vec Z Global) (ends : List E) (homes : List ℕ) (zs : List Z) (below : All (λ h. h < length ends) homes) (each : length zs ≡ length homes)
    (back : (k : ℕ) (e : E) → slice_get ends k ≡ Some e → map state (g e).items ≡ map state (of_home homes k zs)) where
  count_there : (k : ℕ) → k < length ends → length (items_at (map g ends) k) ≡ share_of k homes
  count_there k l =
      let p = at_place ends k l in
      ap length (items_there g ends k p.0 p.1) ∙ sym (length-map (g p.0).items state) ∙ ap length (back k p.0 p.1) ∙ length-map (of_home homes k zs) state ∙ share_count homes zs k each

  count_beyond : (k : ℕ) → length ends ≤ k → length (items_at (map g ends) k) ≡ share_of k homes
  count_beyond k l =
      let many = length-map ends g in
      ap length (items_beyond (map g ends) k (omega (arith, l, many))) ∙ ap length (sym (none_beyond homes (length ends) k below l zs)) ∙ share_count homes zs k each

  counts : (k : ℕ) → length (items_at (map g ends) k) ≡ share_of k homes
  counts k = less_or k (length ends) (length (items_at (map g ends) k) ≡ share_of k homes) (count_there k) (count_beyond k)

  -- there is one list, of which they are the shares
  pub make_all : (all : List Z) × AreSharesOf g ends homes all
  make_all =
      let r = make_one homes (items_at (map g ends)) counts in
      (r.0, record { each = r.1; shares = λ k e t. sym (items_there g ends k e t) ∙ sym (r.2 k) })

  -- and it looks as the other does
  same_share : (all : List Z) → AreSharesOf g ends homes all → (k : ℕ) → k < length ends → map state (of_home homes k all) ≡ map state (of_home homes k zs)
  same_share all a k l =
      let p = at_place ends k l in
      ap (map state) (sym (a.shares k p.0 p.1)) ∙ back k p.0 p.1

  no_share : (all : List Z) (k : ℕ) → length ends ≤ k → map state (of_home homes k all) ≡ map state (of_home homes k zs)
  no_share all k l = ap (map state) (none_beyond homes (length ends) k below l all ∙ sym (none_beyond homes (length ends) k below l zs))

  pub same_all : (all : List Z) → AreSharesOf g ends homes all → map state all ≡ map state zs
  same_all all a = share_one homes (map state all) (map state zs) (length-map all state ∙ a.each) (length-map zs state ∙ each) (λ k.
      share_map state homes all k ∙ less_or k (length ends) (map state (of_home homes k all) ≡ map state (of_home homes k zs)) (same_share all a k) (no_share all k) ∙ sym (share_map state homes zs k))
