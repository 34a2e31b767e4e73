-- What the handlers of a merge do keeps its row, and is a turn of its law by its moves.
use Rattle.std.specs.Prelude.{◌==◌, if◌then◌else◌, slice_get, slice_set, slice_index_or}
use Rattle.std.proofs.Common.{◌≡◌, ℕ, zero, suc, ◌+◌, ◌≤◌, ◌<◌, Bool, true, false, IsTrue, inl, inr, List, [], ◌∷◌, ◌++◌, length, map, refl, sym, ap, ◌∙◌, subst, arith, append-nil, Some}
use Rattle.std.proofs.lemmas.Bool.Decides.{nat_tests}
use Rattle.elem_core.specs.Tree.{Tree}
use Rattle.elem_core.specs.declared.why.Cause.{Cause}
use Rattle.elem_core.specs.declared.item.Item.TheVariants as item
use Rattle.port_core.specs.declared.view.InView.{InView}
use Rattle.port_core.specs.declared.view.InView.TheVariants.{Idle, Pulled, Finished, Cancelled}
use Rattle.port_core.specs.View.{IsInOpen}
use Rattle.port_core.specs.Call.{arrives}
use Rattle.stream_model.specs.Outlook.{ended}
use Rattle.stream_model.specs.FanIn.{Inflow, flow}
use Rattle.stream_model.specs.Picks.{used_up, FailsWithin}
use Rattle.stage_core.specs.Inflows.{joined_all, coming}
use Rattle.stage_core.specs.Merges.{SameEnds, Merged, lists_of}
use Rattle.stage_core.proofs.Inflows.{joined-nothing_came}
use Rattle.stage_merge.specs.declared.merging.Queued.{Queued}
use Rattle.stage_core.specs.Seats.{end_by, InsClosed, AllOver}
use Rattle.stage_merge.specs.Mergings.{of_port, waiting, input_view, places, open_count, PortsThere}
use Rattle.stage_core.proofs.Flags.{same, other}
use Rattle.stage_core.proofs.Arrivals.{not_here}

abbrev pub queued : ℕ → Tree → Queued
queued i t = record { port = i; item = t }

-- ---- what waits of an input

pub places_long : (n : ℕ) (bs : List Bool) (q : List Queued) → length (places n bs q) ≡ length bs
places_long n [] q = refl
places_long n (b ∷ bs) q = ap suc (places_long (n + 1) bs q)

app_by : (b : Bool) (t : Tree) (u v w : List Tree) → u ≡ v ++ w → (if b then t ∷ u else u) ≡ (if b then t ∷ v else v) ++ w
app_by true t u v w h = ap (λ (l : List Tree). t ∷ l) h
app_by false t u v w h = h

of_append : (n : ℕ) (q r : List Queued) → of_port n (q ++ r) ≡ of_port n q ++ of_port n r
of_append n [] r = refl
of_append n (x ∷ q) r = app_by (x.port == n) x.item (of_port n (q ++ r)) (of_port n q) (of_port n r) (of_append n q r)

pub first_here : (n i : ℕ) (t : Tree) (q : List Queued) → i ≡ n → of_port n (queued i t ∷ q) ≡ t ∷ of_port n q
first_here n i t q h = let x : (i == n) ≡ true = same i n h in rw x refl

pub first_away : (n i : ℕ) (t : Tree) (q : List Queued) → (i ≡ n → ⊥) → of_port n (queued i t ∷ q) ≡ of_port n q
first_away n i t q h = let x : (i == n) ≡ false = other i n h in rw x refl

pub last_here : (n i : ℕ) (t : Tree) (q : List Queued) → i ≡ n → of_port n (q ++ queued i t ∷ []) ≡ of_port n q ++ t ∷ []
last_here n i t q h = of_append n q (queued i t ∷ []) ∙ ap (λ (l : List Tree). of_port n q ++ l) (first_here n i t [] h)

pub last_away : (n i : ℕ) (t : Tree) (q : List Queued) → (i ≡ n → ⊥) → of_port n (q ++ queued i t ∷ []) ≡ of_port n q
last_away n i t q h = of_append n q (queued i t ∷ []) ∙ ap (λ (l : List Tree). of_port n q ++ l) (first_away n i t [] h) ∙ append-nil (of_port n q)

pub waiting_same : (n : ℕ) (over : List Bool) (q r : List Queued) → ((m : ℕ) → n ≤ m → of_port m q ≡ of_port m r) → waiting n over q ≡ waiting n over r
waiting_same n [] q r h = refl
waiting_same n (b ∷ over) q r h =
    ap (λ (l : List Tree). record { list = l; end = end_by b } ∷ waiting (n + 1) over q) (h n (omega arith))
    ∙ ap (λ (fs : List Inflow). record { list = of_port n r; end = end_by b } ∷ fs) (waiting_same (n + 1) over q r (λ m k. h m (omega (arith, k))))

pub places_same : (n : ℕ) (over : List Bool) (q r : List Queued) → ((m : ℕ) → n ≤ m → of_port m q ≡ of_port m r) → places n over q ≡ places n over r
places_same n [] q r h = refl
places_same n (b ∷ over) q r h =
    ap (λ (l : List Tree). input_view b l ∷ places (n + 1) over q) (h n (omega arith))
    ∙ ap (λ (xs : List InView). input_view b (of_port n r) ∷ xs) (places_same (n + 1) over q r (λ m k. h m (omega (arith, k))))

-- ---- what comes

came_stored : (n j : ℕ) (t : Tree) (over : List Bool) (q : List Queued) → slice_get over j ≡ Some false
    → joined_all n (waiting n over q) (coming (arrives (n + j) (item.Elem t))) ≡ waiting n over (q ++ queued (n + j) t ∷ [])
came_stored n j t [] q h = cc
came_stored n zero t (b ∷ over) q h =
    let o : b ≡ false = cc in
    let x : (n + 0 == n) ≡ true = same (n + 0) n (omega arith) in
    let others : joined_all (n + 1) (waiting (n + 1) over q) (coming (arrives (n + 0) (item.Elem t))) ≡ waiting (n + 1) over (q ++ queued (n + 0) t ∷ []) =
    not_here (n + 1) (n + 0) (item.Elem t) (waiting (n + 1) over q) (omega arith)
    ∙ waiting_same (n + 1) over q (q ++ queued (n + 0) t ∷ []) (λ m k. sym (last_away m (n + 0) t q (λ e. absurd (omega (arith, e, k))))) in
    let here : of_port n (q ++ queued (n + 0) t ∷ []) ≡ of_port n q ++ t ∷ [] = last_here n (n + 0) t q (omega arith) in
    rw (o, x, here, others) refl
came_stored n (suc j) t (b ∷ over) q h =
    let x : (n + suc j == n) ≡ false = other (n + suc j) n (λ e. absurd (omega (arith, e))) in
    let e : n + suc j ≡ n + 1 + j = omega arith in
    let f : Inflow = record { list = of_port n q; end = end_by b } in
    let here : of_port n (q ++ queued (n + suc j) t ∷ []) ≡ of_port n q = last_away n (n + suc j) t q (λ e. absurd (omega (arith, e))) in
    let r = came_stored (n + 1) j t over q h in
    rw (x, here) (ap (λ (g : Inflow). g ∷ joined_all (n + 1) (waiting (n + 1) over q) (coming (arrives (n + suc j) (item.Elem t)))) (joined-nothing_came f)
    ∙ rw e (ap (λ (fs : List Inflow). f ∷ fs) r))

came_over : (n j : ℕ) (over : List Bool) (q : List Queued) → slice_get over j ≡ Some false
    → joined_all n (waiting n over q) (coming (arrives (n + j) item.Ended)) ≡ waiting n (slice_set over j true) q
came_over n j [] q h = cc
came_over n zero (b ∷ over) q h =
    let o : b ≡ false = cc in
    let x : (n + 0 == n) ≡ true = same (n + 0) n (omega arith) in
    let others : joined_all (n + 1) (waiting (n + 1) over q) (coming (arrives (n + 0) item.Ended)) ≡ waiting (n + 1) over q =
    not_here (n + 1) (n + 0) item.Ended (waiting (n + 1) over q) (omega arith) in
    rw (o, x, others) (ap (λ (l : List Tree). record { list = l; end = ended } ∷ waiting (n + 1) over q) (append-nil (of_port n q)))
came_over n (suc j) (b ∷ over) q h =
    let x : (n + suc j == n) ≡ false = other (n + suc j) n (λ e. absurd (omega (arith, e))) in
    let e : n + suc j ≡ n + 1 + j = omega arith in
    let f : Inflow = record { list = of_port n q; end = end_by b } in
    let r = came_over (n + 1) j over q h in
    rw x (ap (λ (g : Inflow). g ∷ joined_all (n + 1) (waiting (n + 1) over q) (coming (arrives (n + suc j) item.Ended))) (joined-nothing_came f)
    ∙ rw e (ap (λ (fs : List Inflow). f ∷ fs) r))

came_failed : (n j : ℕ) (c : Cause) (over : List Bool) (q : List Queued) → slice_get over j ≡ Some false → length (of_port (n + j) q) ≤ 1
    → FailsWithin [] n (joined_all n (waiting n over q) (coming (arrives (n + j) (item.Failed c)))) c
came_failed n j c [] q h k = cc
came_failed n zero c (b ∷ over) q h k =
    let o : b ≡ false = cc in
    let x : (n + 0 == n) ≡ true = same (n + 0) n (omega arith) in
    let z : n + 0 ≡ n = omega arith in
    let l : length (of_port n q) ≤ 1 = (let r = k in rw z at r) in
    let m : length (of_port n q ++ []) ≤ 1 = rw (append-nil (of_port n q)) l in
    rw (o, x) (inl (refl, m))
came_failed n (suc j) c (b ∷ over) q h k =
    let e : n + suc j ≡ n + 1 + j = omega arith in
    let l : length (of_port (n + 1 + j) q) ≤ 1 = (let r = k in rw e at r) in
    inr (rw e (came_failed (n + 1) j c over q h l))

-- ---- what goes out

pub record GoesOut (n j : ℕ) (t : Tree) (over : List Bool) (q : List Queued) : Type 0 where
  pub at : slice_get (lists_of (waiting n over (queued (n + j) t ∷ q))) j ≡ Some (t ∷ of_port (n + j) q)
  pub set : slice_set (lists_of (waiting n over (queued (n + j) t ∷ q))) j (of_port (n + j) q) ≡ lists_of (waiting n over q)

goes_out : (n j : ℕ) (t : Tree) (over : List Bool) (q : List Queued) → j < length over → GoesOut n j t over q
goes_out n j t [] q h = absurd (omega (arith, h))
goes_out n zero t (b ∷ over) q h =
    let z : n + 0 ≡ n = omega arith in
    let here : of_port n (queued (n + 0) t ∷ q) ≡ t ∷ of_port n q = first_here n (n + 0) t q z in
    let others : waiting (n + 1) over (queued (n + 0) t ∷ q) ≡ waiting (n + 1) over q = waiting_same (n + 1) over (queued (n + 0) t ∷ q) q (λ m k. first_away m (n + 0) t q (λ e. absurd (omega (arith, e, k)))) in
    record {
      at = ap Some here ∙ ap (λ m. Some (t ∷ of_port m q)) (sym z);
      set = ap (λ m. of_port m q ∷ lists_of (waiting (n + 1) over (queued (n + 0) t ∷ q))) z ∙ ap (λ (fs : List Inflow). of_port n q ∷ lists_of fs) others;
    }
goes_out n (suc j) t (b ∷ over) q h =
    let e : n + suc j ≡ n + 1 + j = omega arith in
    let here : of_port n (queued (n + 1 + j) t ∷ q) ≡ of_port n q = first_away n (n + 1 + j) t q (λ e. absurd (omega (arith, e))) in
    let r = goes_out (n + 1) j t over q (omega (arith, h)) in
    record {
      at = rw e r.at;
      set = rw e (ap (λ (l : List Tree). l ∷ slice_set (lists_of (waiting (n + 1) over (queued (n + 1 + j) t ∷ q))) j (of_port (n + 1 + j) q)) here ∙ ap (λ (ls : List (List Tree)). of_port n q ∷ ls) r.set);
    }

same_ends : (n : ℕ) (over : List Bool) (q r : List Queued) → SameEnds (waiting n over q) (waiting n over r)
same_ends n [] q r = tt
same_ends n (b ∷ over) q r = (refl, same_ends (n + 1) over q r)

pub out_merged : (i : ℕ) (t : Tree) (over : List Bool) (q : List Queued) → i < length over → Merged (i ∷ []) (waiting 0 over (queued i t ∷ q)) (t ∷ []) (waiting 0 over q)
out_merged i t over q h =
    let z : 0 + i ≡ i = omega arith in
    let g : GoesOut 0 i t over q = goes_out 0 i t over q h in
    let at : slice_get (lists_of (waiting 0 over (queued i t ∷ q))) i ≡ Some (t ∷ of_port i q) = (let r = g.at in rw z at r) in
    let set : slice_set (lists_of (waiting 0 over (queued i t ∷ q))) i (of_port i q) ≡ lists_of (waiting 0 over q) = (let r = g.set in rw z at r) in
    record {
      finds = (t, of_port i q, at, tt);
      gave = rw at refl;
      left = rw at set;
      ends = same_ends 0 over q (queued i t ∷ q);
    }

pub none_merged : (over : List Bool) (q : List Queued) → Merged [] (waiting 0 over q) [] (waiting 0 over q)
none_merged over q = record { finds = tt; gave = refl; left = refl; ends = same_ends 0 over q q }

pub used_none : (n : ℕ) (over : List Bool) → AllOver over → IsTrue (used_up [] n (map flow (waiting n over [])))
used_none n [] h = refl
used_none n (true ∷ over) h = used_none (n + 1) over (λ i l. h (suc i) (omega (arith, l)))
used_none n (false ∷ over) h = let x : Some false ≡ Some true = h 0 (omega arith) in cc

pub used_one : (n i : ℕ) (t : Tree) (over : List Bool) → AllOver over → IsTrue (used_up (i ∷ []) n (map flow (waiting n over (queued i t ∷ []))))
used_one n i t [] h = refl
used_one n i t (true ∷ over) h = by_flag (i == n) refl (used_one (n + 1) i t over (λ i l. h (suc i) (omega (arith, l))))
  where
    by_flag : (b : Bool) → (i == n) ≡ b → IsTrue (used_up (i ∷ []) (n + 1) (map flow (waiting (n + 1) over (queued i t ∷ [])))) → IsTrue (used_up (i ∷ []) n (map flow (waiting n (true ∷ over) (queued i t ∷ []))))
    by_flag true e r = rw e r
    by_flag false e r = rw e r
used_one n i t (false ∷ over) h = let x : Some false ≡ Some true = h 0 (omega arith) in cc

-- ---- what is known of the inputs

stored_place : (n j : ℕ) (t : Tree) (over : List Bool) (q : List Queued) → slice_get over j ≡ Some false → slice_set (places n over q) j Idle ≡ places n over (q ++ queued (n + j) t ∷ [])
stored_place n j t [] q h = cc
stored_place n zero t (b ∷ over) q h =
    let o : b ≡ false = cc in
    let here : of_port n (q ++ queued (n + 0) t ∷ []) ≡ of_port n q ++ t ∷ [] = last_here n (n + 0) t q (omega arith) in
    let others : places (n + 1) over q ≡ places (n + 1) over (q ++ queued (n + 0) t ∷ []) = places_same (n + 1) over q (q ++ queued (n + 0) t ∷ []) (λ m k. sym (last_away m (n + 0) t q (λ e. absurd (omega (arith, e, k))))) in
    rw (o, here) (ap (λ (xs : List InView). Idle ∷ xs) others ∙ ap (λ (x : InView). x ∷ places (n + 1) over (q ++ queued (n + 0) t ∷ [])) (sym (by_list (of_port n q))))
  where
    by_list : (l : List Tree) → input_view false (l ++ t ∷ []) ≡ Idle
    by_list [] = refl
    by_list (u ∷ l) = refl
stored_place n (suc j) t (b ∷ over) q h =
    let e : n + suc j ≡ n + 1 + j = omega arith in
    let here : of_port n (q ++ queued (n + 1 + j) t ∷ []) ≡ of_port n q = last_away n (n + 1 + j) t q (λ e. absurd (omega (arith, e))) in
    rw (e, here) (ap (λ (xs : List InView). input_view b (of_port n q) ∷ xs) (stored_place (n + 1) j t over q h))

released : (n j : ℕ) (t : Tree) (over : List Bool) (q : List Queued) → slice_get over j ≡ Some false → of_port (n + j) q ≡ [] → slice_set (places n over (queued (n + j) t ∷ q)) j Pulled ≡ places n over q
released n j t [] q h k = cc
released n zero t (b ∷ over) q h k =
    let o : b ≡ false = cc in
    let z : n + 0 ≡ n = omega arith in
    let l : of_port n q ≡ [] = (let r = k in rw z at r) in
    let others : places (n + 1) over (queued (n + 0) t ∷ q) ≡ places (n + 1) over q = places_same (n + 1) over (queued (n + 0) t ∷ q) q (λ m k. first_away m (n + 0) t q (λ e. absurd (omega (arith, e, k)))) in
    rw (o, l) (ap (λ (xs : List InView). Pulled ∷ xs) others)
released n (suc j) t (b ∷ over) q h k =
    let e : n + suc j ≡ n + 1 + j = omega arith in
    let l : of_port (n + 1 + j) q ≡ [] = (let r = k in rw e at r) in
    let here : of_port n (queued (n + 1 + j) t ∷ q) ≡ of_port n q = first_away n (n + 1 + j) t q (λ e. absurd (omega (arith, e))) in
    rw (e, here) (ap (λ (xs : List InView). input_view b (of_port n q) ∷ xs) (released (n + 1) j t over q h l))

released_idle : (n j : ℕ) (t : Tree) (over : List Bool) (q : List Queued) → slice_get over j ≡ Some false → slice_index_or (places n over (queued (n + j) t ∷ q)) j Cancelled ≡ Idle
released_idle n j t [] q h = cc
released_idle n zero t (b ∷ over) q h =
    let o : b ≡ false = cc in
    let here : of_port n (queued (n + 0) t ∷ q) ≡ t ∷ of_port n q = first_here n (n + 0) t q (omega arith) in
    rw (o, here) refl
released_idle n (suc j) t (b ∷ over) q h = let e : n + suc j ≡ n + 1 + j = omega arith in rw e (released_idle (n + 1) j t over q h)

released_over : (n j : ℕ) (t : Tree) (over : List Bool) (q : List Queued) → slice_get over j ≡ Some true → places n over (queued (n + j) t ∷ q) ≡ places n over q
released_over n j t [] q h = cc
released_over n zero t (b ∷ over) q h =
    let o : b ≡ true = cc in
    let others : places (n + 1) over (queued (n + 0) t ∷ q) ≡ places (n + 1) over q = places_same (n + 1) over (queued (n + 0) t ∷ q) q (λ m k. first_away m (n + 0) t q (λ e. absurd (omega (arith, e, k)))) in
    rw o (ap (λ (xs : List InView). Finished ∷ xs) others)
released_over n (suc j) t (b ∷ over) q h =
    let e : n + suc j ≡ n + 1 + j = omega arith in
    let here : of_port n (queued (n + 1 + j) t ∷ q) ≡ of_port n q = first_away n (n + 1 + j) t q (λ e. absurd (omega (arith, e))) in
    rw (e, here) (ap (λ (xs : List InView). input_view b (of_port n q) ∷ xs) (released_over (n + 1) j t over q h))

pub ended_place : (n i : ℕ) (over : List Bool) (q : List Queued) → slice_set (places n over q) i Finished ≡ places n (slice_set over i true) q
ended_place n i [] q = refl
ended_place n zero (b ∷ over) q = refl
ended_place n (suc i) (b ∷ over) q = ap (λ (xs : List InView). input_view b (of_port n q) ∷ xs) (ended_place (n + 1) i over q)

pub record Waits (n j : ℕ) (over : List Bool) (q : List Queued) : Type 0 where
  pub here : slice_get over j ≡ Some false
  pub none : of_port (n + j) q ≡ []

waits_place : (n j : ℕ) (over : List Bool) (q : List Queued) → slice_index_or (places n over q) j Cancelled ≡ Pulled → Waits n j over q
waits_place n j [] q h = cc
waits_place n zero (b ∷ over) q h = let z : n + 0 ≡ n = omega arith in by_parts b (of_port n q) (ap (λ m. of_port m q) z) h
  where
    by_parts : (b : Bool) (l : List Tree) → of_port (n + 0) q ≡ l → input_view b l ≡ Pulled → Waits n 0 (b ∷ over) q
    by_parts true l e h = cc
    by_parts false [] e h = record { here = refl; none = e }
    by_parts false (t ∷ l) e h = cc
waits_place n (suc j) (b ∷ over) q h =
    let e : n + suc j ≡ n + 1 + j = omega arith in
    let r = waits_place (n + 1) j over q h in
    record { here = r.here; none = rw e r.none }

pub open_place : (n j : ℕ) (over : List Bool) (q : List Queued) → IsInOpen (slice_index_or (places n over q) j Cancelled) → slice_get over j ≡ Some false
open_place n j [] q h = absurd h
open_place n zero (true ∷ over) q h = absurd h
open_place n zero (false ∷ over) q h = refl
open_place n (suc j) (b ∷ over) q h = open_place (n + 1) j over q h

pub over_closed : (n : ℕ) (over : List Bool) (q : List Queued) → AllOver over → InsClosed (places n over q)
over_closed n [] q h = tt
over_closed n (true ∷ over) q h = (tt, over_closed (n + 1) over q (λ i l. h (suc i) (omega (arith, l))))
over_closed n (false ∷ over) q h = let x : Some false ≡ Some true = h 0 (omega arith) in cc

-- ---- from input 0 on

module _ (i : ℕ) (t : Tree) (over : List Bool) (q : List Queued) where
  z : 0 + i ≡ i
  z = omega arith

  pub came_now : slice_get over i ≡ Some false → joined_all 0 (waiting 0 over q) (coming (arrives i (item.Elem t))) ≡ waiting 0 over (q ++ queued i t ∷ [])
  came_now h = let r = came_stored 0 i t over q h in rw z at r

  pub stored_now : slice_get over i ≡ Some false → slice_set (places 0 over q) i Idle ≡ places 0 over (q ++ queued i t ∷ [])
  stored_now h = let r = stored_place 0 i t over q h in rw z at r

  pub released_now : slice_get over i ≡ Some false → of_port i q ≡ [] → slice_set (places 0 over (queued i t ∷ q)) i Pulled ≡ places 0 over q
  released_now h = let r = released 0 i t over q h in rw z at r

  pub idle_now : slice_get over i ≡ Some false → slice_index_or (places 0 over (queued i t ∷ q)) i Cancelled ≡ Idle
  idle_now h = let r = released_idle 0 i t over q h in rw z at r

  pub gone_now : slice_get over i ≡ Some true → places 0 over (queued i t ∷ q) ≡ places 0 over q
  gone_now h = let r = released_over 0 i t over q h in rw z at r

pub ended_now : (i : ℕ) (over : List Bool) (q : List Queued) → slice_get over i ≡ Some false → joined_all 0 (waiting 0 over q) (coming (arrives i item.Ended)) ≡ waiting 0 (slice_set over i true) q
ended_now i over q h = let z : 0 + i ≡ i = omega arith in let r = came_over 0 i over q h in rw z at r

pub failed_now : (i : ℕ) (c : Cause) (over : List Bool) (q : List Queued) → slice_get over i ≡ Some false → length (of_port i q) ≤ 1 → FailsWithin [] 0 (joined_all 0 (waiting 0 over q) (coming (arrives i (item.Failed c)))) c
failed_now i c over q h = let z : 0 + i ≡ i = omega arith in let r = came_failed 0 i c over q h in rw z at r

pub none_now : (i : ℕ) (over : List Bool) (q : List Queued) → slice_index_or (places 0 over q) i Cancelled ≡ Pulled → of_port i q ≡ []
none_now i over q h = let z : 0 + i ≡ i = omega arith in let r = (waits_place 0 i over q h).none in rw z at r

pub here_now : (i : ℕ) (over : List Bool) (q : List Queued) → slice_index_or (places 0 over q) i Cancelled ≡ Pulled → slice_get over i ≡ Some false
here_now i over q h = (waits_place 0 i over q h).here

-- ---- at most one of each input

head_only : (i : ℕ) (t : Tree) (q : List Queued) → length (of_port i (queued i t ∷ q)) ≤ 1 → of_port i q ≡ []
head_only i t q h = by_list (of_port i q) (let e = first_here i i t q refl in let r = h in rw e at r)
  where
    by_list : (l : List Tree) → length (t ∷ l) ≤ 1 → l ≡ []
    by_list [] k = refl
    by_list (u ∷ l) k = absurd (omega (arith, k))

pub only_head : (i : ℕ) (t : Tree) (q : List Queued) → length (of_port i (queued i t ∷ q)) ≤ 1 → of_port i q ≡ []
only_head = head_only

pub tail_once : (m : ℕ) (x : Queued) (q : List Queued) → length (of_port m (x ∷ q)) ≤ 1 → length (of_port m q) ≤ 1
tail_once m x q h = by_flag (x.port == m) h
  where
    by_flag : (b : Bool) → length (if b then x.item ∷ of_port m q else of_port m q) ≤ 1 → length (of_port m q) ≤ 1
    by_flag true k = omega (arith, k)
    by_flag false k = k

pub stored_once : (m i : ℕ) (t : Tree) (q : List Queued) → of_port i q ≡ [] → length (of_port m q) ≤ 1 → length (of_port m (q ++ queued i t ∷ [])) ≤ 1
stored_once m i t q e h = rw (of_append m q (queued i t ∷ [])) (by_flag (i == m) refl)
  where
    none : (i == m) ≡ true → of_port m q ≡ []
    none x = let k : i ≡ m = grind (arith, nat_tests) in subst (λ n. of_port n q ≡ []) k e

    by_flag : (b : Bool) → (i == m) ≡ b → length (of_port m q ++ (if b then t ∷ [] else [])) ≤ 1
    by_flag true x = let n = none x in rw n (omega arith)
    by_flag false x = rw (append-nil (of_port m q)) h

-- ---- ports that are there, and how many are open

pub there_stored : (over : List Bool) (q : List Queued) (i : ℕ) (t : Tree) → i < length over → PortsThere over q → PortsThere over (q ++ queued i t ∷ [])
there_stored over [] i t h p = (h, tt)
there_stored over (x ∷ q) i t h p = (p.0, there_stored over q i t h p.1)

pub there_by : (a b : List Bool) (q : List Queued) → length a ≡ length b → PortsThere a q → PortsThere b q
there_by a b [] h p = tt
there_by a b (x ∷ q) h p = (let k = p.0 in omega (arith, h, k), there_by a b q h p.1)

pub one_less : (over : List Bool) (i : ℕ) → slice_get over i ≡ Some false → open_count over ≡ suc (open_count (slice_set over i true))
one_less [] i h = cc
one_less (true ∷ over) zero h = cc
one_less (false ∷ over) zero h = refl
one_less (true ∷ over) (suc i) h = one_less over i h
one_less (false ∷ over) (suc i) h = ap suc (one_less over i h)

pub none_open : (over : List Bool) → open_count over ≡ 0 → AllOver over
none_open [] h i l = absurd (omega (arith, l))
none_open (true ∷ over) h zero l = refl
none_open (true ∷ over) h (suc i) l = none_open over h i (omega (arith, l))
none_open (false ∷ over) h i l = absurd (omega (arith, h))
