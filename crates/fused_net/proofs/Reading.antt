-- What is read off the wires of a node, once one wire was replaced.
use Rattle.std.proofs.Common.{◌≡◌, ◌≢◌, ◌⊎◌, inl, inr, ℕ, zero, suc, ◌+◌, ◌*◌, ◌<◌, ◌≤◌, ◌==◌, true, false, Some, List, [], ◌∷◌, length, get_or, slice_get, refl, ap, ◌∙◌, arith, get_or-set_same, get_or-set_other}
use Rattle.std.proofs.Math.ListN.{set}
use Rattle.std.proofs.lemmas.Bool.Decides.{nat_tests}
use Rattle.port_core.specs.Cell.{WireState}
use Rattle.port_core.specs.Reading.{no_wire}
use Rattle.port_core.specs.Reading.{inp_of, out_of}
use Rattle.stage_core.specs.Rooms.{acts_for}
use Rattle.fused_net.specs.Net.{Net, port_at, view_of, read_all}
use Rattle.fused_net.specs.Laws.{HaveRoom}

-- a number is equal to another, or not
pub same_or_not : (a b : ℕ) → (a ≡ b) ⊎ (a ≢ b)
same_or_not a b = elim (a == b) as (λ t. (a == b) ≡ t → (a ≡ b) ⊎ (a ≢ b)) [ true ↦ λ e. inl (grind (arith, nat_tests)) | false ↦ λ e. inr (grind (arith, nat_tests)) ] refl

module _ {X : Type 0} (f : WireState → X) (wires : List WireState) (w : ℕ) (new : WireState) where
  -- what one entry's replacement leaves as it was, read through f, is so at every place
  pub read_set : (u : ℕ) → w < length wires → f new ≡ f (get_or wires w no_wire) → f (get_or (set wires w new) u no_wire) ≡ f (get_or wires u no_wire)
  read_set u h e = elim (same_or_not u w) [
    | inl same ↦ rw same (ap f (get_or-set_same wires w new no_wire h) ∙ e)
    | inr other ↦ ap f (get_or-set_other wires w u new no_wire other)
  ]

  -- also of all the wires of a node
  pub read_same : (ws : List ℕ) → w < length wires → f new ≡ f (get_or wires w no_wire) → read_all f (set wires w new) ws ≡ read_all f wires ws
  read_same [] h e = refl
  read_same (u ∷ ws) h e = rw (read_set u h e, read_same ws h e) refl

  -- of wires that are others
  pub read_apart : (ws : List ℕ) → ((i : ℕ) → slice_get ws i ≡ Some w → ⊥) → read_all f (set wires w new) ws ≡ read_all f wires ws
  read_apart [] h = refl
  read_apart (u ∷ ws) h =
      let other : u ≢ w = λ e. h 0 (ap (λ (x : ℕ). Some x) e) in
      rw (get_or-set_other wires w u new no_wire other, read_apart ws (λ i e. h (suc i) e)) refl

  -- of wires among which it stands once
  pub read_here : (ws : List ℕ) (i : ℕ) → w < length wires → slice_get ws i ≡ Some w → ((j : ℕ) → slice_get ws j ≡ Some w → j ≡ i)
      → read_all f (set wires w new) ws ≡ set (read_all f wires ws) i (f new)
  read_here [] i h e once = absurd (cc)
  read_here (u ∷ ws) zero h e once =
      let same : u ≡ w = cc in
      rw (same, get_or-set_same wires w new no_wire h, read_apart ws (λ i t. let z : suc i ≡ 0 = once (suc i) t in omega arith)) refl
  read_here (u ∷ ws) (suc i) h e once =
      let other : u ≢ w = λ t. let z : 0 ≡ suc i = once 0 (ap (λ (x : ℕ). Some x) t) in omega arith in
      rw (get_or-set_other wires w u new no_wire other, read_here ws i h e (λ j t. let z : suc j ≡ suc i = once (suc j) t in omega arith)) refl

-- what is read at a port
pub read_at : {X : Type 0} (f : WireState → X) (wires : List WireState) (ws : List ℕ) (i w : ℕ) (d : X) → slice_get ws i ≡ Some w → get_or (read_all f wires ws) i d ≡ f (get_or wires w no_wire)
read_at f wires [] i w d e = absurd cc
read_at f wires (u ∷ ws) zero w d e = let same : u ≡ w = cc in rw same refl
read_at f wires (u ∷ ws) (suc i) w d e = read_at f wires ws i w d e

-- a port of which this can be told, which cannot be told of no port, is there
pub port_there : {X : Type 0} (P : X → Type 0) (f : WireState → X) (wires : List WireState) (ws : List ℕ) (i : ℕ) (d : X) → (P d → ⊥) → P (get_or (read_all f wires ws) i d)
    → (slice_get ws i ≡ Some (get_or ws i 0)) × (P (f (get_or wires (get_or ws i 0) no_wire)))
port_there P f wires [] i d none p = absurd (none p)
port_there P f wires (u ∷ ws) zero d none p = (refl, p)
port_there P f wires (u ∷ ws) (suc i) d none p = port_there P f wires ws i d none p

pub length-read_all : {X : Type 0} (f : WireState → X) (wires : List WireState) (ws : List ℕ) → length (read_all f wires ws) ≡ length ws
length-read_all f wires [] = refl
length-read_all f wires (u ∷ ws) = ap suc (length-read_all f wires ws)

-- what a node knows of its ports has an entry for each
pub has_room : {N : Type 0} (net : Net N) (n room : ℕ) → HaveRoom net.ports room → acts_for (view_of net n) ≤ room
has_room net n room h =
    let a : 2 * (length (port_at net.ports n).ins + length (port_at net.ports n).outs) ≤ room = h n in
    let i : length (view_of net n).ins ≡ length (port_at net.ports n).ins = length-read_all inp_of net.wires (port_at net.ports n).ins in
    let o : length (view_of net n).outs ≡ length (port_at net.ports n).outs = length-read_all out_of net.wires (port_at net.ports n).outs in
    omega (arith, a, i, o)

-- there is one at each place within
pub get_there : {A : Type 0} (xs : List A) (n : ℕ) → n < length xs → (x : A) × (slice_get xs n ≡ Some x)
get_there [] n h = absurd (omega arith)
get_there (x ∷ xs) zero h = (x, refl)
get_there (x ∷ xs) (suc n) h = get_there xs n (omega arith)

-- a place at which there is one is within
pub get_within : {A : Type 0} (xs : List A) (n : ℕ) (x : A) → slice_get xs n ≡ Some x → n < length xs
get_within [] n x e = absurd cc
get_within (y ∷ xs) zero x e = omega arith
get_within (y ∷ xs) (suc n) x e = omega (arith, get_within xs n x e)

pub some_same : {A : Type 0} (x y : A) → Some x ≡ Some y → x ≡ y
some_same x y e = cc

-- of a list with one entry replaced
pub get_set_same : {A : Type 0} (xs : List A) (n : ℕ) (y : A) → n < length xs → slice_get (set xs n y) n ≡ Some y
get_set_same [] n y h = absurd (omega arith)
get_set_same (x ∷ xs) zero y h = refl
get_set_same (x ∷ xs) (suc n) y h = get_set_same xs n y (omega arith)

pub get_set_other : {A : Type 0} (xs : List A) (n k : ℕ) (y : A) → k ≢ n → slice_get (set xs n y) k ≡ slice_get xs k
get_set_other [] n k y ne = refl
get_set_other (x ∷ xs) zero zero y ne = absurd (ne refl)
get_set_other (x ∷ xs) zero (suc k) y ne = refl
get_set_other (x ∷ xs) (suc n) zero y ne = refl
get_set_other (x ∷ xs) (suc n) (suc k) y ne = get_set_other xs n k y (λ e. ne (ap suc e))
