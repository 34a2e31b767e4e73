-- A merge that was started has nothing to do over its own ports; a new one may be started.
use Rattle.std.specs.Prelude.{◌≢◌, ◌⊎◌, replicate, slice_get, slice_set, slice_index_or, cond, ◌==◌, Option, None, Some}
use Rattle.std.proofs.Common.{◌≡◌, ℕ, zero, suc, ◌+◌, ◌<◌, ◌≤◌, inl, inr, Bool, true, false, List, [], ◌∷◌, length, get_or, refl, sym, ap, ◌∙◌, subst, arith}
use Rattle.std.proofs.lemmas.Bool.{cases_eq}
use Rattle.std.proofs.lemmas.List.{length-replicate, get_or-set_same, get_or-set_other}
use Rattle.std.proofs.lemmas.List.Sums.{sum_by-cons}
use Rattle.elem_core.specs.Tree.{Tree}
use Rattle.port_core.specs.declared.view.OutView.TheVariants.{Unpulled}
use Rattle.port_core.specs.View as port
use Rattle.stream_model.specs.FanIn.{Inflow, Finds}
use Rattle.stream_model.specs.declared.kind.TheConstants.{MAX_FAN}
use Rattle.stream_model.specs.Outlook.{End}
use Rattle.stream_model.specs.Picks.{count_of}
use Rattle.stream_model.proofs.Fitting.{at_get, yes_one, no_one}
use Rattle.stream_model.specs.View.{SeenWire, EachWire, SomeWire}
use Rattle.stream_model.specs.Rests.{IsShut, Waits, MergeInput, MergeWaits, MergeRests}
use Rattle.stage_core.specs.Inflows.{nothing_came, untouched}
use Rattle.stage_core.specs.Merges.{MergeKeeps, Merged, lists_of, left_at, left_by}
use Rattle.stage_core.specs.OwnPorts.{own_input, own_output}
use Rattle.stage_core.specs.declared.phase.Phase.{Phase}
use Rattle.stage_core.specs.declared.phase.Phase.TheVariants.{New, Open, Closed}
use Rattle.stage_merge.specs.declared.merging.Queued.{Queued}
use Rattle.stage_core.specs.Seats.{wish}
use Rattle.stage_core.specs.OwnRows.{own_inputs, FanRests}
use Rattle.stage_merge.specs.Mergings.{Core, Merging, Begins, NamesInputs, front, goes_next, of_port, input_view, places, idles, waiting, open_count, OpenCore, Sound, Fresh, port_state_by, port_state_in, port_state, held_by, held_in, held, Keeps, serves}
use Rattle.stage_merge.specs.Rows.{MergeRestsBy}
use Rattle.stage_merge.proofs.Choosing.{none_of}
use Rattle.stage_merge.proofs.Merges.{places_long}
use Rattle.port_core.specs.Picks.{next_move}
use Rattle.port_core.specs.declared.pick_log.Next.TheVariants.{Free, Move, UsedUp}
use Rattle.stage_core.proofs.Closings.{closed_rests}

-- ---- how many moves an input has

-- as many as went out of what came there
pub count_left : (moves : List ℕ) (ls : List (List Tree)) (n : ℕ) → Finds moves ls → count_of n moves + length (get_or (left_by moves ls) n []) ≡ length (get_or ls n [])
count_left [] ls n f = omega arith
count_left (i ∷ is) ls n f = by_place (cases_eq i n) (count_left is (slice_set ls i f.1) n f.3)
  where
    there : (i < length ls) × (get_or ls i [] ≡ f.0 ∷ f.1)
    there = at_get ls i (f.0 ∷ f.1) [] f.2

    step : count_of n (i ∷ is) ≡ cond (i == n) 1 0 + count_of n is
    step = sum_by-cons (λ j. cond (j == n) 1 0) i is

    by_place : (i ≡ n) ⊎ (i ≡ n → ⊥) → count_of n is + length (get_or (left_by is (slice_set ls i f.1)) n []) ≡ length (get_or (slice_set ls i f.1) n [])
        → count_of n (i ∷ is) + length (get_or (left_by is (left_at i ls (slice_get ls i))) n []) ≡ length (get_or ls n [])
    by_place (inl e) h =
        let new : get_or (slice_set ls i f.1) n [] ≡ f.1 = ap (λ k. get_or (slice_set ls i f.1) k []) (sym e) ∙ get_or-set_same ls i f.1 [] there.0 in
        let old : get_or ls n [] ≡ f.0 ∷ f.1 = ap (λ k. get_or ls k []) (sym e) ∙ there.1 in
        let one = yes_one i n e in
        rw (f.2, old) (let g : count_of n is + length (get_or (left_by is (slice_set ls i f.1)) n []) ≡ length f.1 = rw new at h in omega (arith, step, one, g))
    by_place (inr e) h =
        let new : get_or (slice_set ls i f.1) n [] ≡ get_or ls n [] = get_or-set_other ls i n f.1 [] (λ k. e (sym k)) in
        let none = no_one i n e in
        rw f.2 (let g : count_of n is + length (get_or (left_by is (slice_set ls i f.1)) n []) ≡ length (get_or ls n []) = rw new at h in omega (arith, step, none, g))

-- ---- what waits

-- an input that is open and not asked has an element that its moves did not take
place_waits : (taken : ℕ) (b : Bool) (l u : List Tree) → length l ≤ 1 → taken + length l ≡ length u → MergeInput taken (own_input (input_view b l) u)
place_waits taken true l u one count = inr (inl refl)
place_waits taken false [] u one count = inl (refl, refl)
place_waits taken false (t ∷ l) u one count = inr (inr (inr (inr (refl, refl), omega (arith, one, count))))

-- the inputs from number n on
keep_places : (moves : List ℕ) (n : ℕ) (bs : List Bool) (q : List Queued) (fs : List Inflow) → ((k : ℕ) → length (of_port k q) ≤ 1) → ((k : ℕ) → count_of (n + k) moves + length (get_or (lists_of (waiting n bs q)) k []) ≡ length (get_or (lists_of fs) k []))
    → MergeWaits moves n (own_inputs (places n bs q) fs)
keep_places moves n [] q fs once count = tt
keep_places moves n (b ∷ bs) q [] once count = tt
keep_places moves n (b ∷ bs) q (f ∷ fs) once count =
    let none : n + 0 ≡ n = omega arith in
    let here : count_of n moves + length (of_port n q) ≡ length f.list = subst (λ (m : ℕ). count_of m moves + length (of_port n q) ≡ length f.list) none (count 0) in (
      place_waits (count_of n moves) b (of_port n q) f.list (once n) here,
      keep_places moves (n + 1) bs q fs once (λ k. let on : n + suc k ≡ (n + 1) + k = omega arith in subst (λ (m : ℕ). count_of m moves + length (get_or (lists_of (waiting (n + 1) bs q)) k []) ≡ length (get_or (lists_of fs) k [])) on (count (suc k))),
    )

all_wait : (n : ℕ) (bs : List Bool) (fs : List Inflow) → EachWire (λ i. Waits i ⊎ IsShut i) (own_inputs (places n bs []) fs)
all_wait n [] fs = tt
all_wait n (b ∷ bs) [] = tt
all_wait n (true ∷ bs) (f ∷ fs) = (inr refl, all_wait (n + 1) bs fs)
all_wait n (false ∷ bs) (f ∷ fs) = (inl (refl, refl), all_wait (n + 1) bs fs)

some_wait : (n : ℕ) (bs : List Bool) (fs : List Inflow) → length fs ≡ length bs → 1 ≤ open_count bs → SomeWire Waits (own_inputs (places n bs []) fs)
some_wait n [] fs h k = absurd (omega (arith, k))
some_wait n (b ∷ bs) [] h k = absurd (omega (arith, h))
some_wait n (true ∷ bs) (f ∷ fs) h k = inr (some_wait (n + 1) bs fs (omega (arith, h)) k)
some_wait n (false ∷ bs) (f ∷ fs) h k = inl (refl, refl)

all_places : (moves : List ℕ) (plan : Option (List ℕ)) (l : Core) (ins : List Inflow) (g : List Tree) → OpenCore plan l → Merged moves ins g (waiting 0 l.over l.queue) → MergeWaits moves 0 (own_inputs (places 0 l.over l.queue) ins)
all_places moves plan l ins g s m = keep_places moves 0 l.over l.queue ins s.once count
  where
    count : (k : ℕ) → count_of (0 + k) moves + length (get_or (lists_of (waiting 0 l.over l.queue)) k []) ≡ length (get_or (lists_of ins) k [])
    count k =
        let none : 0 + k ≡ k = omega arith in
        let here : count_of k moves + length (get_or (lists_of (waiting 0 l.over l.queue)) k []) ≡ length (get_or (lists_of ins) k []) =
        subst (λ (ls : List (List Tree)). count_of k moves + length (get_or ls k []) ≡ length (get_or (lists_of ins) k [])) m.left (count_left moves (lists_of ins) k m.finds) in
        subst (λ (j : ℕ). count_of j moves + length (get_or (lists_of (waiting 0 l.over l.queue)) k []) ≡ length (get_or (lists_of ins) k [])) (sym none) here

no_front : (q : List Queued) → front q ≡ None → q ≡ []
no_front [] h = refl
no_front (x ∷ q) h = cc

free_rests : (moves : List ℕ) (l : Core) (a : Bool) (ins : List Inflow) (g : List Tree) → l.asked ≡ a → Sound None l → length ins ≡ length l.over → Merged moves ins g (waiting 0 l.over l.queue)
    → MergeRests moves (own_inputs (places 0 l.over l.queue) ins) (own_output (wish a) g)
free_rests moves l false ins g e s h m = inr ((refl, refl), all_places moves None l ins g s.whole m)
free_rests moves l true ins g e s h m =
    let q : l.queue ≡ [] = no_front l.queue (s.none e) in
    let c = s.whole.count in
    let k = s.whole.some refl q in
    rw q (inl ((refl, refl), some_wait 0 l.over ins h (omega (arith, c, k)), all_wait 0 l.over ins))

-- an input that has not ended, and of which nothing waits
waits_at : (n m : ℕ) (bs : List Bool) (q : List Queued) (ins : List Inflow) → slice_index_or bs m false ≡ false → of_port (n + m) q ≡ [] → (i : SeenWire) → slice_get (own_inputs (places n bs q) ins) m ≡ Some i → Waits i
waits_at n m [] q ins h e i at = cc
waits_at n m (b ∷ bs) q [] h e i at = cc
waits_at n zero (b ∷ bs) q (f ∷ fs) h e i at =
    let z : n + 0 ≡ n = omega arith in
    let l : of_port n q ≡ [] = (let r = e in rw z at r) in
    let k : own_input (input_view b (of_port n q)) f.list ≡ i = cc in
    subst (λ (u : SeenWire). Waits u) k (rw (h, l) (refl, refl))
waits_at n (suc m) (b ∷ bs) q (f ∷ fs) h e i at =
    let z : n + suc m ≡ n + 1 + m = omega arith in
    waits_at (n + 1) m bs q fs h (let r = e in rw z at r) i at

move_rests : (m : ℕ) (left moves : List ℕ) (l : Core) (a : Bool) (ins : List Inflow) (g : List Tree) → l.asked ≡ a → Sound (Some (m ∷ left)) l → Merged moves ins g (waiting 0 l.over l.queue)
    → MergeRestsBy (Move m) moves (own_inputs (places 0 l.over l.queue) ins) (own_output (wish a) g)
move_rests m left moves l false ins g e s k = inr ((refl, refl), all_places moves (Some (m ∷ left)) l ins g s.whole k)
move_rests m left moves l true ins g e s k =
    let z : 0 + m ≡ m = omega arith in
    inl ((refl, refl), waits_at 0 m l.over l.queue ins (s.going e) (rw z (none_of m l.queue (s.none e))))

used_rests : (moves : List ℕ) (l : Core) (a : Bool) (ins : List Inflow) (g : List Tree) → OpenCore (Some []) l → Merged moves ins g (waiting 0 l.over l.queue)
    → MergeRestsBy UsedUp moves (own_inputs (places 0 l.over l.queue) ins) (own_output (wish a) g)
used_rests moves l false ins g s k = inr ((refl, refl), all_places moves (Some []) l ins g s k)
used_rests moves l true ins g s k = inl (refl, refl)

open_rests : (moves : List ℕ) (plan : Option (List ℕ)) (l : Core) (ins : List Inflow) (g : List Tree) → Sound plan l → length ins ≡ length l.over → Merged moves ins g (waiting 0 l.over l.queue)
    → MergeRestsBy (next_move plan) moves (own_inputs (places 0 l.over l.queue) ins) (own_output (wish l.asked) g)
open_rests moves None l ins g s h m = free_rests moves l l.asked ins g refl s h m
open_rests moves (Some []) l ins g s h m = used_rests moves l l.asked ins g s.whole m
open_rests moves (Some (k ∷ left)) l ins g s h m = move_rests k left moves l l.asked ins g refl s m

pub merge_rests : (l : Merging) (v : port.View) (ins : List Inflow) (g : List Tree) (end : End) → l.core.phase ≢ New → l.log.stuck ≡ false → port_state l v → length ins ≡ length v.ins → Keeps (held l) ins g end
    → FanRests (MergeRestsBy (next_move l.log.left) l.log.moves) v ins g
merge_rests l v ins g end n calm r h keeps =
    by_phase l.core.phase refl (subst (λ b. port_state_in b l v) calm r) (subst (λ b. Keeps (held_in b l) ins g end) calm keeps)
  where
    by_phase : (f : Phase) → l.core.phase ≡ f → port_state_by f l.log.left l.core v → MergeKeeps (held_by l.core.phase l.log.moves l.core) ins g end
        → FanRests (MergeRestsBy (next_move l.log.left) l.log.moves) v ins g
    by_phase New e r k = absurd (n e)
    by_phase Open e r k =
        let long : length ins ≡ length l.core.over = h ∙ ap (λ (w : port.View). length w.ins) r.0 ∙ places_long 0 l.core.over l.core.queue in
        let open_keeps = subst (λ (x : Phase). MergeKeeps (held_by x l.log.moves l.core) ins g end) e k in
        subst (λ w. FanRests (MergeRestsBy (next_move l.log.left) l.log.moves) w ins g) (sym r.0) (inr (open_rests l.log.moves l.log.left l.core ins g r.1 long open_keeps.1))
    by_phase Closed e r k = closed_rests (MergeRestsBy (next_move l.log.left) l.log.moves) v ins g r

all_open : (k : ℕ) → open_count (replicate k false) ≡ k
all_open zero = refl
all_open (suc k) = ap suc (all_open k)

pub none_waits : (n k : ℕ) → waiting n (replicate k false) [] ≡ untouched k
none_waits n zero = refl
none_waits n (suc k) = ap (λ (fs : List Inflow). nothing_came ∷ fs) (none_waits (n + 1) k)

abbrev begun : ℕ → Core
begun k = record { phase = New; over = replicate k false; queue = []; room = k; asked = false; left = k }

none_chosen : (plan : Option (List ℕ)) → goes_next (next_move plan) [] ≡ None
none_chosen None = refl
none_chosen (Some []) = refl
none_chosen (Some (m ∷ l)) = refl

pub new_row : (inputs : ℕ) (gathers : Bool) (l : Merging) → 1 ≤ inputs → inputs ≤ MAX_FAN → Begins inputs gathers l → port_state l (record { ins = idles (replicate inputs false); outs = Unpulled ∷ [] })
new_row k gathers l one few b =
    let long = length-replicate k false in
    let s : Sound l.log.left (begun k) = record {
      whole = record { count = sym (all_open k); some = λ u e. omega (arith, one); once = λ m. omega arith; there = tt; few = omega (arith, long, few); roomy = omega (arith, long); named = subst (λ n. NamesInputs n l.log.left) (sym long) b.named };
      none = λ e. none_chosen l.log.left;
      going = λ e. cc;
    } in
    let f : Fresh (begun k) = record { queue = refl; over = ap (λ m. replicate m false) (sym long); unasked = refl } in
    let v : port.View = record { ins = idles (replicate k false); outs = Unpulled ∷ [] } in
    subst (λ c. port_state_in c l v) (sym b.calm) (subst (λ (c : Core). port_state_by c.phase l.log.left c v) (sym b.core) (refl, (s, f)))
