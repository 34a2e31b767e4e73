-- A stage with several inputs that was started has nothing to do over its own ports.
use Rattle.std.specs.Prelude.{◌==◌, slice_get}
use Rattle.std.specs.Option.{option_to_list}
use Rattle.std.proofs.Common.{◌≡◌, ℕ, zero, suc, ◌+◌, ◌<◌, inl, inr, Bool, true, false, List, [], ◌∷◌, length, refl, sym, ap, ◌∙◌, subst, arith, length-append, Option, Some, None}
use Rattle.elem_core.specs.Tree.{Tree}
use Rattle.port_core.specs.View as port
use Rattle.stream_model.specs.Outlook.{End}
use Rattle.stream_model.specs.FanIn.{Inflow, pairs}
use Rattle.stream_model.specs.View.{EachWire}
use Rattle.stream_model.specs.Rests.{IdlesOrShut, WaitsIdlesOrShut, FirstOpenWaits, WaitsAt, SortedInput, SortedStands, SortedRests, ZipRests}
use Rattle.stage_core.specs.Zips.{ZipKeeps}
use Rattle.stage_core.specs.Fans.{FanKeeps}
use Rattle.stage_core.specs.OwnPorts.{own_input, own_output}
use Rattle.stage_core.specs.declared.phase.Phase.TheVariants.{Open}
use Rattle.stage_core.specs.Seats.{wish}
use Rattle.stage_in.specs.Kinds.{sorting as sorting_order}
use Rattle.stage_in.specs.Seats.{seat, seats}
use Rattle.stage_in.specs.Pairings.{Pairing, inlet_view, pair_view, port_state_by}
use Rattle.stage_in.specs.Sortings as sorting
use Rattle.stage_in.specs.Zippings as zipping
use Rattle.stage_in.specs.Takings as taking
use Rattle.stage_in.specs.Takings.{Taking, view_of, OverBetween, InOrder}
use Rattle.stage_core.specs.OwnRows.{own_inputs, FanRests}
use Rattle.stage_in.specs.OwnRows.{TakingRests}
use Rattle.stage_core.proofs.Flags.{same, other}
use Rattle.stage_core.proofs.Closings.{closed_rests}
use Rattle.stage_in.proofs.Seats.{marked_before}
use Rattle.stage_in.proofs.SortedCounts.{sorted_count}
use Rattle.stage_in.proofs.Zips.{open_at, opened}

-- ---- one input is asked, or none

idle_by : (b x : Bool) (l : List Tree) → IdlesOrShut (own_input (seat b x false) l)
idle_by true x l = inr refl
idle_by false true l = inl (inr (refl, refl))
idle_by false false l = inl (inr (refl, refl))

all_idle : (n c : ℕ) (over : List Bool) (fs : List Inflow) → EachWire IdlesOrShut (own_inputs (seats n over c false) fs)
all_idle n c [] fs = tt
all_idle n c (b ∷ over) [] = tt
all_idle n c (b ∷ over) (f ∷ fs) = (idle_by b (n == c) f.list, all_idle (n + 1) c over fs)

others_idle : (n c : ℕ) (over : List Bool) (fs : List Inflow) → c < n → EachWire IdlesOrShut (own_inputs (seats n over c true) fs)
others_idle n c over fs h = rw (marked_before n c 0 over true h) (all_idle n 0 over fs)

first_waits : (n i : ℕ) (over : List Bool) (fs : List Inflow) → length fs ≡ length over → slice_get over i ≡ Some false → OverBetween over 0 i → FirstOpenWaits (own_inputs (seats n over (n + i) true) fs)
first_waits n i [] fs l h o = cc
first_waits n i (b ∷ over) [] l h o = absurd (omega (arith, l))
first_waits n zero (b ∷ over) (f ∷ fs) l h o =
    let e : b ≡ false = cc in
    let x : (n == n + 0) ≡ true = same n (n + 0) (omega arith) in
    rw (e, x) (inl ((refl, refl), others_idle (n + 1) (n + 0) over fs (omega arith)))
first_waits n (suc i) (b ∷ over) (f ∷ fs) l h o =
    let t : Some b ≡ Some true = o 0 (omega arith) (omega arith) in
    let e : b ≡ true = cc in
    let c : n + suc i ≡ n + 1 + i = omega arith in
    rw e (inr (refl, rw c (first_waits (n + 1) i over fs (omega (arith, l)) h (λ k m w. o (suc k) (omega arith) (omega (arith, w))))))

one_waits : (n i : ℕ) (over : List Bool) (fs : List Inflow) → length fs ≡ length over → slice_get over i ≡ Some false → WaitsAt (n + i) n (own_inputs (seats n over (n + i) true) fs)
one_waits n i [] fs l h = cc
one_waits n i (b ∷ over) [] l h = absurd (omega (arith, l))
one_waits n zero (b ∷ over) (f ∷ fs) l h =
    let e : b ≡ false = cc in
    let x : (n == n + 0) ≡ true = same n (n + 0) (omega arith) in
    rw (e, x) (inl (omega arith, (refl, refl), others_idle (n + 1) (n + 0) over fs (omega arith)))
one_waits n (suc i) (b ∷ over) (f ∷ fs) l h =
    let x : (n == n + suc i) ≡ false = other n (n + suc i) (λ e. absurd (omega (arith, e))) in
    let c : n + suc i ≡ n + 1 + i = omega arith in
    rw x (inr (by_flag b f.list, subst (λ (p : ℕ). WaitsAt p (n + 1) (own_inputs (seats (n + 1) over p true) fs)) (sym c) (one_waits (n + 1) i over fs (omega (arith, l)) h)))
  where
    by_flag : (b : Bool) (l : List Tree) → IdlesOrShut (own_input (seat b false true) l)
    by_flag true l = inr refl
    by_flag false l = inl (inr (refl, refl))

open_rests : (segment : Option ℕ) (over : List Bool) (c : ℕ) (asked : Bool) (ins : List Inflow) (g : List Tree) → length ins ≡ length over → slice_get over c ≡ Some false → InOrder segment over c
    → FanRests (TakingRests segment c) (record { ins = seats 0 over c asked; outs = wish asked ∷ [] }) ins g
open_rests None over c false ins g l h o = inr (inr ((refl, refl), all_idle 0 c over ins))
open_rests (Some s) over c false ins g l h o = inr (inr ((refl, refl), all_idle 0 c over ins))
open_rests None over c true ins g l h o = let z : 0 + c ≡ c = omega arith in inr (inl ((refl, refl), let r = first_waits 0 c over ins l h o in rw z at r))
open_rests (Some s) over c true ins g l h o = let z : 0 + c ≡ c = omega arith in inr (inl ((refl, refl), subst (λ (p : ℕ). WaitsAt p 0 (own_inputs (seats 0 over p true) ins)) z (one_waits 0 c over ins l h)))

pub length-seats : (n c : ℕ) (over : List Bool) (asked : Bool) → length (seats n over c asked) ≡ length over
length-seats n c [] asked = refl
length-seats n c (b ∷ over) asked = ap suc (length-seats (n + 1) c over asked)

pub taking_rests : (l : Taking) (v : port.View) (ins : List Inflow) (g : List Tree) → taking.port_state l v → length ins ≡ length v.ins → FanRests (TakingRests l.segment l.current) v ins g
taking_rests l v ins g r long = by_live l.live r
  where
    by_live : (b : Bool) → taking.port_state_by b l v → FanRests (TakingRests l.segment l.current) v ins g
    by_live true r =
        let many : length ins ≡ length l.over = long ∙ ap (λ (w : port.View). length w.ins) r.0 ∙ length-seats 0 l.current l.over l.asked in
        subst (λ w. FanRests (TakingRests l.segment l.current) w ins g) (sym r.0) (open_rests l.segment l.over l.current l.asked ins g many r.1.here r.1.order)
    by_live false r = closed_rests (TakingRests l.segment l.current) v ins g r

-- ---- merge_sorted

inlet_idles : (h : Option Tree) (o : Bool) (l : List Tree) → WaitsIdlesOrShut (own_input (inlet_view (record { held = h; over = o })) l)
inlet_idles None false l = inl (refl, refl)
inlet_idles None true l = inr (inr refl)
inlet_idles (Some x) false l = inr (inl (inr (refl, refl)))
inlet_idles (Some x) true l = inr (inr refl)

-- what waits of an input
inlet_holds : (h : Option Tree) (o : Bool) (l : List Tree) → SortedInput (own_input (inlet_view (record { held = h; over = o })) l) (length (option_to_list h))
inlet_holds None false l = inl ((refl, refl), refl)
inlet_holds None true l = inr (inr (inl refl, omega arith))
inlet_holds (Some x) false l = inr (inl (refl, refl, refl))
inlet_holds (Some x) true l = inr (inr (inl refl, omega arith))

sorted_parts : (h k : Option Tree) (o p q : Bool) (a b : Inflow) (g : List Tree) → sorting.Sound (open_at h k o p q)
    → SortedStands (own_input (inlet_view (record { held = h; over = o })) a.list ∷ own_input (inlet_view (record { held = k; over = p })) b.list ∷ []) (own_output (wish q) g)
sorted_parts h k o p false a b g s = inr ((refl, refl), (inlet_idles h o a.list, (inlet_idles k p b.list, tt)))
sorted_parts None k false p true a b g s = inl ((refl, refl), inl (refl, refl))
sorted_parts None None true false true a b g s = inl ((refl, refl), inr (inl (refl, refl)))
sorted_parts None None true true true a b g s = let e = s.0 in cc
sorted_parts None (Some y) true p true a b g s = let e = s.1 refl in cc
sorted_parts (Some x) None o false true a b g s = inl ((refl, refl), inr (inl (refl, refl)))
sorted_parts (Some x) None o true true a b g s = let e = s.1 refl in cc
sorted_parts (Some x) (Some y) o p true a b g s = let e = s.1 refl in cc

sorted_open : (h k : Option Tree) (o p q : Bool) (a b : Inflow) (g : List Tree) → length a.list + length b.list ≡ length g + (length (option_to_list h) + length (option_to_list k)) → sorting.Sound (open_at h k o p q)
    → FanRests SortedRests (pair_view (open_at h k o p q)) (a ∷ b ∷ []) g
sorted_open h k o p q a b g count s =
    inr (sorted_parts h k o p q a b g s, (length (option_to_list h), length (option_to_list k), inlet_holds h o a.list, inlet_holds k p b.list, omega (arith, count), inr (inr count)))

pub sorting_rests : (l : Pairing) (v : port.View) (a b : Inflow) (g : List Tree) (f : End) → l.phase ≡ Open → sorting.port_state l v → FanKeeps sorting_order sorting.nowhere (sorting.held l) (a ∷ b ∷ []) g f → FanRests SortedRests v (a ∷ b ∷ []) g
sorting_rests l v a b g f h r keeps =
    let s = subst (λ f. port_state_by sorting.Sound f l v) h r in
    let open_keeps = subst (λ x. FanKeeps sorting_order sorting.nowhere (sorting.held_by x l) (a ∷ b ∷ []) g f) h keeps in
    let count = sorted_count l a b g open_keeps.1 in
    subst (λ w. FanRests SortedRests w (a ∷ b ∷ []) g) (sym s.0)
    (subst (λ x. sorting.Sound x → FanRests SortedRests (pair_view x) (a ∷ b ∷ []) g) (sym (opened l h)) (λ t. sorted_open l.left.held l.right.held l.left.over l.right.over l.asked a b g count t) s.1)

-- ---- zip

-- an input of which an element waits
one_idles : (t : Tree) (o : Bool) (l : List Tree) → IdlesOrShut (own_input (inlet_view (record { held = Some t; over = o })) l)
one_idles t false l = inl (inr (refl, refl))
one_idles t true l = inr refl

module _ (a b : Inflow) (g : List Tree) where
  zip_parts : (h k : Option Tree) (o p q : Bool) → zipping.Sound (open_at h k o p q) → length a.list ≡ length g + length (option_to_list h) → length b.list ≡ length g + length (option_to_list k)
      → FanRests ZipRests (pair_view (open_at h k o p q)) (a ∷ b ∷ []) g
  zip_parts None None true p q s l r = absurd s.0
  zip_parts None None false true q s l r = absurd s.1.0
  zip_parts None (Some y) true p q s l r = absurd s.0
  zip_parts (Some x) None o true q s l r = absurd s.1.0
  zip_parts None None false false false s l r = inr ((inl ((refl, refl), omega (arith, l)), (inl ((refl, refl), omega (arith, r)), tt)), inr (refl, refl))
  zip_parts None None false false true s l r = inr ((inl ((refl, refl), omega (arith, l)), (inl ((refl, refl), omega (arith, r)), tt)), inl ((refl, refl), inl ((refl, refl), omega (arith, l))))
  zip_parts None (Some y) false p false s l r = inr ((inl ((refl, refl), omega (arith, l)), (inr (one_idles y p b.list, (omega (arith, r), inr (omega (arith, r)))), tt)), inr (refl, refl))
  zip_parts None (Some y) false p true s l r =
      inr ((inl ((refl, refl), omega (arith, l)), (inr (one_idles y p b.list, (omega (arith, r), inr (omega (arith, r)))), tt)), inl ((refl, refl), inl ((refl, refl), omega (arith, l))))
  zip_parts (Some x) None o false false s l r = inr ((inr (one_idles x o a.list, (omega (arith, l), inr (omega (arith, l)))), (inl ((refl, refl), omega (arith, r)), tt)), inr (refl, refl))
  zip_parts (Some x) None o false true s l r =
      inr ((inr (one_idles x o a.list, (omega (arith, l), inr (omega (arith, l)))), (inl ((refl, refl), omega (arith, r)), tt)), inl ((refl, refl), inr (inl ((refl, refl), omega (arith, r)))))
  zip_parts (Some x) (Some y) o p false s l r =
      inr ((inr (one_idles x o a.list, (omega (arith, l), inr (omega (arith, l)))), (inr (one_idles y p b.list, (omega (arith, r), inr (omega (arith, r)))), tt)), inr (refl, refl))
  zip_parts (Some x) (Some y) o p true s l r = absurd s.1.1

length-pairs : (xs ys : List Tree) → length xs ≡ length ys → length (pairs xs ys) ≡ length xs
length-pairs [] [] h = refl
length-pairs [] (y ∷ ys) h = absurd (omega (arith, h))
length-pairs (x ∷ xs) [] h = absurd (omega (arith, h))
length-pairs (x ∷ xs) (y ∷ ys) h = ap suc (length-pairs xs ys (omega (arith, h)))

pub zipping_rests : (l : Pairing) (v : port.View) (a b : Inflow) (g : List Tree) (f : End) → l.phase ≡ Open → zipping.port_state l v → ZipKeeps (zipping.held l) (a ∷ b ∷ []) g f → FanRests ZipRests v (a ∷ b ∷ []) g
zipping_rests l v a b g f h r k =
    let s = subst (λ f. port_state_by zipping.Sound f l v) h r in
    let keeps = subst (λ x. ZipKeeps (zipping.held_by x l) (a ∷ b ∷ []) g f) h k in
    let p = keeps.1.0 in
    let gave : length g ≡ length p.lefts = ap length p.gave_is ∙ length-pairs p.lefts p.rights p.even in
    let left : length a.list ≡ length g + length (option_to_list l.left.held) = ap length p.left_is ∙ length-append p.lefts (option_to_list l.left.held) ∙ ap (λ n. n + length (option_to_list l.left.held)) (sym gave) in
    let right : length b.list ≡ length g + length (option_to_list l.right.held) = ap length p.right_is ∙ length-append p.rights (option_to_list l.right.held) ∙ ap (λ n. n + length (option_to_list l.right.held)) (sym p.even ∙ sym gave) in
    subst (λ w. FanRests ZipRests w (a ∷ b ∷ []) g) (sym s.0)
    (subst (λ x. zipping.Sound x → FanRests ZipRests (pair_view x) (a ∷ b ∷ []) g) (sym (opened l h)) (λ t. zip_parts a b g l.left.held l.right.held l.left.over l.right.over l.asked t left right) s.1)
