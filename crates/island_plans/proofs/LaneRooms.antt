-- How many lines each node may put together.
use Rattle.std.specs.Prelude.{slice_get, slice_set}
use Rattle.std.proofs.Common.{◌≡◌, ℕ, zero, suc, ◌<◌, List, [], ◌∷◌, length, replicate, Some, refl, sym, ap, subst, ◌∙◌, arith, length-set}
use Rattle.std.proofs.lemmas.List.{length-replicate}
use Rattle.stream_model.specs.Graph.{Edge}
use Rattle.materializer.specs.Seats.{gather_of}
use Rattle.island_plans.specs.Rooms.{with_rooms, rooms_by}

rooms_kept : (rooms : List ℕ) (ws : List Edge) → length (with_rooms rooms ws) ≡ length rooms
rooms_kept rooms [] = refl
rooms_kept rooms (w ∷ ws) = rooms_kept (slice_set rooms w.to (gather_of w.lane)) ws ∙ length-set rooms w.to (gather_of w.lane)

-- there is a room for each node
pub rooms_many : (nodes : ℕ) (ws : List Edge) → length (rooms_by nodes ws) ≡ nodes
rooms_many nodes ws = rooms_kept (replicate nodes 1) ws ∙ length-replicate nodes 1

set_there : (l : List ℕ) (k x : ℕ) → k < length l → slice_get (slice_set l k x) k ≡ Some x
set_there [] k x h = absurd (omega (arith, h))
set_there (y ∷ l) zero x h = refl
set_there (y ∷ l) (suc k) x h = set_there l k x (omega (arith, h))

set_aside : (l : List ℕ) (j k x : ℕ) → (j ≡ k → ⊥) → slice_get (slice_set l j x) k ≡ slice_get l k
set_aside [] j k x ne = refl
set_aside (y ∷ l) zero zero x ne = absurd (ne refl)
set_aside (y ∷ l) zero (suc k) x ne = refl
set_aside (y ∷ l) (suc j) zero x ne = refl
set_aside (y ∷ l) (suc j) (suc k) x ne = set_aside l j k x (λ e. ne (ap suc e))

-- wires that lead elsewhere change nothing of a node
others : (rooms : List ℕ) (ws : List Edge) (k : ℕ) → ((j : ℕ) (x : Edge) → slice_get ws j ≡ Some x → x.to ≡ k → ⊥) → slice_get (with_rooms rooms ws) k ≡ slice_get rooms k
others rooms [] k none = refl
others rooms (w ∷ ws) k none = others (slice_set rooms w.to (gather_of w.lane)) ws k (λ j x at to. none (suc j) x at to) ∙ set_aside rooms w.to k (gather_of w.lane) (λ to. none 0 w refl to)

room_at : (rooms : List ℕ) (ws : List Edge) (k u : ℕ) (v : Edge) → k < length rooms → slice_get ws u ≡ Some v → v.to ≡ k → ((j : ℕ) (x : Edge) → slice_get ws j ≡ Some x → x.to ≡ k → j ≡ u)
    → slice_get (with_rooms rooms ws) k ≡ Some (gather_of v.lane)
room_at rooms [] k u v lt at to one = cc
room_at rooms (w ∷ ws) k zero v lt at to one =
    let same : w ≡ v = cc in
    let here : w.to ≡ k = ap (λ (x : Edge). x.to) same ∙ to in
    others (slice_set rooms w.to (gather_of w.lane)) ws k (λ j x there leads. let none : suc j ≡ 0 = one (suc j) x there leads in cc)
    ∙ subst (λ (i : ℕ). slice_get (slice_set rooms i (gather_of w.lane)) k ≡ Some (gather_of v.lane)) (sym here)
    (set_there rooms k (gather_of w.lane) lt ∙ ap (λ (x : Edge). Some (gather_of x.lane)) same)
room_at rooms (w ∷ ws) k (suc u) v lt at to one =
    room_at (slice_set rooms w.to (gather_of w.lane)) ws k u v (subst (λ (n : ℕ). k < n) (sym (length-set rooms w.to (gather_of w.lane))) lt) at to (λ j x there leads. let e : suc j ≡ suc u = one (suc j) x there leads in cc)

-- what a node has to which one wire leads
pub room_of_wire : (nodes : ℕ) (ws : List Edge) (k u : ℕ) (v : Edge) → k < nodes → slice_get ws u ≡ Some v → v.to ≡ k → ((j : ℕ) (x : Edge) → slice_get ws j ≡ Some x → x.to ≡ k → j ≡ u)
    → slice_get (rooms_by nodes ws) k ≡ Some (gather_of v.lane)
room_of_wire nodes ws k u v lt at to one = room_at (replicate nodes 1) ws k u v (subst (λ (n : ℕ). k < n) (sym (length-replicate nodes 1)) lt) at to one
