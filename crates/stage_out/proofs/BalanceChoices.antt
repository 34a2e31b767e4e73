-- What a balance chooses for an element: an output that asks, or one that is gone; and what a choice leaves as it was.
use Rattle.std.specs.Prelude.{slice_get, slice_set, slice_index_or, Option, None}
use Rattle.std.proofs.Common.{◌≡◌, ℕ, zero, suc, ◌<◌, Bool, true, false, List, [], ◌∷◌, map, refl, sym, ap, ◌∙◌, subst, arith, rules, Some}
use Rattle.std.proofs.lemmas.Bool.Decides.{nat_tests}
use Rattle.port_core.specs.Picks.{next_move, behind_next, MayNote}
use Rattle.port_core.specs.declared.pick_log.Next.{Next}
use Rattle.port_core.specs.declared.pick_log.Next.TheVariants.{Free, Move}
use Rattle.port_core.specs.declared.view.OutView.{OutView}
use Rattle.port_core.specs.declared.view.OutView.TheVariants as outlet
use Rattle.port_core.specs.View.{output_closed}
use Rattle.stream_model.specs.Outlook.{End, unended}
use Rattle.stream_model.specs.Picks.{all_below}
use Rattle.stage_core.specs.declared.outs.OutputState.{OutputState}
use Rattle.stage_core.specs.declared.outs.OutputState.TheVariants.{Quiet, Asks, Gone}
use Rattle.stage_core.specs.OpenOuts.{want_view}
use Rattle.stage_out.specs.declared.balancing.Choice.{Choice}
use Rattle.stage_out.specs.declared.balancing.Choice.TheVariants.{Sends, Drops, Stays}
use Rattle.stage_out.specs.Balancings.{choice_at, choice_of, behind_first, others, queue_after, is_gone, drops_next, asks_input, NamesOutputs, lacks, Queued}
use Rattle.stage_out.proofs.Queues.{queue_served}

-- ---- by how an output stands

at_sends : (m j : ℕ) (s : OutputState) → choice_at m s ≡ Sends j → (m ≡ j) × (s ≡ Asks)
at_sends m j Quiet h = cc
at_sends m j Asks h = (cc, refl)
at_sends m j Gone h = cc

at_drops : (m j : ℕ) (s : OutputState) → choice_at m s ≡ Drops j → (m ≡ j) × (s ≡ Gone)
at_drops m j Quiet h = cc
at_drops m j Asks h = cc
at_drops m j Gone h = (cc, refl)

pub index_asks : (ws : List OutputState) (m : ℕ) → slice_index_or ws m Gone ≡ Asks → slice_get ws m ≡ Some Asks
index_asks [] m h = cc
index_asks (w ∷ ws) zero h = ap (λ (s : OutputState). Some s) h
index_asks (w ∷ ws) (suc m) h = index_asks ws m h

-- ---- a choice may be noted

pub sends_may : (left : Option (List ℕ)) (outs : List OutputState) (q : List ℕ) (j : ℕ) → choice_of (next_move left) outs q ≡ Sends j → MayNote j left
sends_may None outs q j h = tt
sends_may (Some []) outs q j h = cc
sends_may (Some (m ∷ l)) outs q j h = (at_sends m j (slice_index_or outs m Gone) h).0

pub drops_may : (left : Option (List ℕ)) (outs : List OutputState) (q : List ℕ) (j : ℕ) → choice_of (next_move left) outs q ≡ Drops j → MayNote j left
drops_may None outs q j h = tt
drops_may (Some []) outs q j h = cc
drops_may (Some (m ∷ l)) outs q j h = (at_drops m j (slice_index_or outs m Gone) h).0

-- where it is free, one is chosen only of a queue that has some
pub free_some : (left : Option (List ℕ)) (outs : List OutputState) (j : ℕ) → left ≡ None → choice_of (next_move left) outs [] ≡ Sends j → ⊥
free_some None outs j e h = cc
free_some (Some l) outs j e h = cc

pub free_keeps : (left : Option (List ℕ)) (outs : List OutputState) (q : List ℕ) (j : ℕ) → left ≡ None → choice_of (next_move left) outs q ≡ Drops j → ⊥
free_keeps None outs [] j e h = cc
free_keeps None outs (k ∷ q) j e h = cc
free_keeps (Some l) outs q j e h = cc

-- ---- an output that is chosen asks, and the others stay in the queue

pub sends_asks : (left : Option (List ℕ)) (outs : List OutputState) (q : List ℕ) (j : ℕ) → Queued outs q → choice_of (next_move left) outs q ≡ Sends j → slice_get outs j ≡ Some Asks
sends_asks None outs [] j r h = cc
sends_asks None outs (k ∷ q) j r h = let e : k ≡ j = cc in subst (λ n. slice_get outs n ≡ Some Asks) e r.0
sends_asks (Some []) outs q j r h = cc
sends_asks (Some (m ∷ l)) outs q j r h =
    let s = at_sends m j (slice_index_or outs m Gone) h in
    subst (λ n. slice_get outs n ≡ Some Asks) s.0 (index_asks outs m s.1)

pub sends_queue : (left : Option (List ℕ)) (outs : List OutputState) (q : List ℕ) (j : ℕ) → Queued outs q → choice_of (next_move left) outs q ≡ Sends j → Queued (slice_set outs j Quiet) (queue_after (next_move left) j q)
sends_queue None outs [] j r h = cc
sends_queue None outs (k ∷ q) j r h = let e : k ≡ j = cc in subst (λ n. Queued (slice_set outs n Quiet) q) e r.1
sends_queue (Some []) outs q j r h = cc
sends_queue (Some (m ∷ l)) outs q j r h = queue_served outs q j r

-- ---- outputs that may lack elements

pub drops_lacks : (left : Option (List ℕ)) (outs : List OutputState) (q : List ℕ) (j : ℕ) → choice_of (next_move left) outs q ≡ Drops j → lacks left outs j ≡ true
drops_lacks None outs [] j h = cc
drops_lacks None outs (k ∷ q) j h = cc
drops_lacks (Some []) outs q j h = cc
drops_lacks (Some (m ∷ l)) outs q j h =
    let s = at_drops m j (slice_index_or outs m Gone) h in
    ap is_gone (ap (λ n. slice_index_or outs n Gone) (sym s.0) ∙ s.1)

pub lacks_behind : (left : Option (List ℕ)) (outs : List OutputState) (k : ℕ) → lacks (behind_next left) outs k ≡ lacks left outs k
lacks_behind None outs k = refl
lacks_behind (Some []) outs k = refl
lacks_behind (Some (m ∷ l)) outs k = refl

gone_set : (ws : List OutputState) (j k : ℕ) (a b : OutputState) → slice_get ws j ≡ Some a → is_gone a ≡ is_gone b → is_gone (slice_index_or (slice_set ws j b) k Gone) ≡ is_gone (slice_index_or ws k Gone)
gone_set [] j k a b h e = cc
gone_set (w ∷ ws) zero zero a b h e = let x : w ≡ a = cc in sym (ap is_gone x ∙ e)
gone_set (w ∷ ws) zero (suc k) a b h e = refl
gone_set (w ∷ ws) (suc j) zero a b h e = refl
gone_set (w ∷ ws) (suc j) (suc k) a b h e = gone_set ws j k a b h e

-- an output that asks, or asks no more, lacks what it lacked
pub lacks_set : (left : Option (List ℕ)) (ws : List OutputState) (j k : ℕ) (a b : OutputState) → slice_get ws j ≡ Some a → is_gone a ≡ is_gone b → lacks left (slice_set ws j b) k ≡ lacks left ws k
lacks_set None ws j k a b h e = refl
lacks_set (Some l) ws j k a b h e = gone_set ws j k a b h e

kept_gone : (ws : List OutputState) (j k : ℕ) → is_gone (slice_index_or (slice_set ws j Gone) k Gone) ≡ false → is_gone (slice_index_or ws k Gone) ≡ false
kept_gone [] j k h = h
kept_gone (w ∷ ws) zero zero h = cc
kept_gone (w ∷ ws) zero (suc k) h = h
kept_gone (w ∷ ws) (suc j) zero h = h
kept_gone (w ∷ ws) (suc j) (suc k) h = kept_gone ws j k h

-- one that lacks nothing once an output is gone lacked nothing before
pub lacks_lost : (left : Option (List ℕ)) (ws : List OutputState) (j k : ℕ) → lacks left (slice_set ws j Gone) k ≡ false → lacks left ws k ≡ false
lacks_lost None ws j k h = refl
lacks_lost (Some l) ws j k h = kept_gone ws j k h

-- the output at its place is not gone
pub open_there : (ws : List OutputState) (j : ℕ) (a : OutputState) → slice_get ws j ≡ Some a → slice_index_or ws j Gone ≡ a
open_there [] j a h = cc
open_there (w ∷ ws) zero a h = cc
open_there (w ∷ ws) (suc j) a h = open_there ws j a h

pub asks_lacks : (left : Option (List ℕ)) (ws : List OutputState) (j : ℕ) → slice_get ws j ≡ Some Asks → lacks left ws j ≡ false
asks_lacks None ws j h = refl
asks_lacks (Some l) ws j h = ap is_gone (open_there ws j Asks h)

-- an output that is given an end is not gone, and lacks nothing
pub closes_whole : (left : Option (List ℕ)) (ws : List OutputState) (k : ℕ) (e : End) → (is_gone (slice_index_or ws k Gone) ≡ true → e ≡ unended) → (e ≡ unended → ⊥) → lacks left ws k ≡ false
closes_whole None ws k e h n = refl
closes_whole (Some l) ws k e h n = by_gone (is_gone (slice_index_or ws k Gone)) refl
  where
    by_gone : (b : Bool) → is_gone (slice_index_or ws k Gone) ≡ b → b ≡ false
    by_gone true x = absurd (n (h x))
    by_gone false x = refl

-- ---- the moves that are followed

pub named_behind : (n : ℕ) (left : Option (List ℕ)) → NamesOutputs n left → NamesOutputs n (behind_next left)
named_behind n None h = tt
named_behind n (Some []) h = h
named_behind n (Some (m ∷ l)) h = search rules

first_below : (n m : ℕ) (l : List ℕ) → all_below n (m ∷ l) ≡ true → m < n
first_below n m l h = grind (arith, nat_tests)

pub next_there : (n : ℕ) (left : Option (List ℕ)) (m : ℕ) → NamesOutputs n left → next_move left ≡ Move m → m < n
next_there n None m h e = cc
next_there n (Some []) m h e = cc
next_there n (Some (k ∷ l)) m h e = let x : k ≡ m = cc in subst (λ i. i < n) x (first_below n k l h)

-- an output that gets an element is there
pub sends_there : (n : ℕ) (left : Option (List ℕ)) (outs : List OutputState) (q : List ℕ) (j : ℕ) → ((i : ℕ) (r : List ℕ) → q ≡ i ∷ r → i < n) → NamesOutputs n left → choice_of (next_move left) outs q ≡ Sends j → j < n
sends_there n None outs [] j first h c = cc
sends_there n None outs (k ∷ q) j first h c = let e : k ≡ j = cc in subst (λ i. i < n) e (first k q refl)
sends_there n (Some []) outs q j first h c = cc
sends_there n (Some (m ∷ l)) outs q j first h c = subst (λ i. i < n) (at_sends m j (slice_index_or outs m Gone) c).0 (first_below n m l h)

-- an output for which an element is dropped is one of those of the moves
pub drops_there : (n : ℕ) (left : Option (List ℕ)) (outs : List OutputState) (q : List ℕ) (j : ℕ) → NamesOutputs n left → choice_of (next_move left) outs q ≡ Drops j → j < n
drops_there n None outs [] j h c = cc
drops_there n None outs (k ∷ q) j h c = cc
drops_there n (Some []) outs q j h c = cc
drops_there n (Some (m ∷ l)) outs q j h c = subst (λ i. i < n) (at_drops m j (slice_index_or outs m Gone) c).0 (first_below n m l h)

-- ---- the input is asked

pub some_asks : (left : Option (List ℕ)) (outs : List OutputState) (q : List ℕ) → left ≡ None → Queued outs q → asks_input (next_move left) outs q ≡ true → (k : ℕ) × (slice_get outs k ≡ Some Asks)
some_asks None outs [] e r h = cc
some_asks None outs (k ∷ q) e r h = (k, r.0)
some_asks (Some l) outs q e r h = cc

-- ---- an output is gone

asks_before : (ws : List OutputState) (j m : ℕ) → slice_index_or (slice_set ws j Gone) m Gone ≡ Asks → slice_index_or ws m Gone ≡ Asks
asks_before [] j m h = cc
asks_before (w ∷ ws) zero zero h = cc
asks_before (w ∷ ws) zero (suc m) h = h
asks_before (w ∷ ws) (suc j) zero h = h
asks_before (w ∷ ws) (suc j) (suc m) h = asks_before ws j m h

-- where an element waits, none goes out since an output is gone
pub lost_sends_none : (left : Option (List ℕ)) (outs : List OutputState) (q : List ℕ) (j i : ℕ) → choice_of (next_move left) outs q ≡ Stays → choice_of (next_move left) (slice_set outs j Gone) (others j q) ≡ Sends i → ⊥
lost_sends_none None outs [] j i s h = cc
lost_sends_none None outs (k ∷ q) j i s h = cc
lost_sends_none (Some []) outs q j i s h = cc
lost_sends_none (Some (m ∷ l)) outs q j i s h =
    let a = asks_before outs j m (at_sends m i (slice_index_or (slice_set outs j Gone) m Gone) h).1 in
    let x : choice_at m (slice_index_or outs m Gone) ≡ Sends m = ap (choice_at m) a in
    let y : Sends m ≡ Stays = sym x ∙ s in cc

-- an element that waits has the queue empty where it is free
pub free_empty : (left : Option (List ℕ)) (outs : List OutputState) (q : List ℕ) → left ≡ None → choice_of (next_move left) outs q ≡ Stays → q ≡ []
free_empty None outs [] e h = refl
free_empty None outs (k ∷ q) e h = cc
free_empty (Some l) outs q e h = cc

-- ---- what the code finds is what is chosen

pub first_sends : (outs : List OutputState) (q r : List ℕ) (j : ℕ) → q ≡ j ∷ r → Sends j ≡ choice_of Free outs q
first_sends outs q r j e = rw e refl

pub first_stays : (outs : List OutputState) (q : List ℕ) → q ≡ [] → Stays ≡ choice_of Free outs q
first_stays outs q e = rw e refl

pub first_behind : (q r : List ℕ) (j : ℕ) → q ≡ j ∷ r → r ≡ behind_first q
first_behind q r j e = rw e refl

pub none_behind : (q : List ℕ) → q ≡ [] → [] ≡ behind_first q
none_behind q e = rw e refl

pub finds_quiet : (m : ℕ) (s : OutputState) → s ≡ Quiet → Stays ≡ choice_at m s
finds_quiet m s e = rw e refl

pub finds_asks : (m : ℕ) (s : OutputState) → s ≡ Asks → Sends m ≡ choice_at m s
finds_asks m s e = rw e refl

pub finds_gone : (m : ℕ) (s : OutputState) → s ≡ Gone → Drops m ≡ choice_at m s
finds_gone m s e = rw e refl

pub asks_some : (next : Next) (outs : List OutputState) (q : List ℕ) → (q ≡ [] → ⊥) → true ≡ asks_input next outs q
asks_some next outs [] n = absurd (n refl)
asks_some next outs (j ∷ q) n = refl

pub asks_none : (next : Next) (outs : List OutputState) (q : List ℕ) (b : Bool) → q ≡ [] → b ≡ drops_next next outs → b ≡ asks_input next outs q
asks_none next outs q b e d = rw e d

-- ---- outputs that are closed

-- one that is gone is closed
pub gone_closed : (ws : List OutputState) (j : ℕ) → is_gone (slice_index_or ws j Gone) ≡ true → output_closed (slice_index_or (map want_view ws) j outlet.Closed) ≡ true
gone_closed [] j h = refl
gone_closed (Quiet ∷ ws) zero h = cc
gone_closed (Asks ∷ ws) zero h = cc
gone_closed (Gone ∷ ws) zero h = refl
gone_closed (x ∷ ws) (suc j) h = gone_closed ws j h

-- one that is closed stays so where another is set, or itself to one that is closed
pub still_closed : (ys : List OutView) (j k : ℕ) (y : OutView) → (output_closed (slice_index_or ys j outlet.Closed) ≡ true → output_closed y ≡ true) → output_closed (slice_index_or ys k outlet.Closed) ≡ true
    → output_closed (slice_index_or (slice_set ys j y) k outlet.Closed) ≡ true
still_closed [] j k y f h = h
still_closed (x ∷ ys) zero zero y f h = f h
still_closed (x ∷ ys) zero (suc k) y f h = h
still_closed (x ∷ ys) (suc j) zero y f h = h
still_closed (x ∷ ys) (suc j) (suc k) y f h = still_closed ys j k y f h
