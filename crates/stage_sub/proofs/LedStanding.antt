-- What a stage with substreams that follows moves gave is what the model lets a merge of substreams give by its moves.
use Rattle.std.specs.Prelude.{◌≢◌, ◌⊎◌, ◌==◌, if◌then◌else◌}
use Rattle.std.specs.List.{fold}
use Rattle.std.proofs.Common.{◌≡◌, ℕ, zero, suc, ◌+◌, ◌<◌, ◌≤◌, Bool, true, false, List, [], ◌∷◌, ◌++◌, length, map, max, Option, None, Some, refl, sym, ap, ◌∙◌, subst, arith}
use Rattle.std.proofs.lemmas.Bool.Decides.{nat_tests}
use Rattle.std.proofs.lemmas.List.{length-map}
use Rattle.elem_core.specs.Prefix.{IsPrefix}
use Rattle.elem_core.specs.Tree.{Tree}
use Rattle.elem_core.specs.declared.item.Item.{Item}
use Rattle.elem_core.specs.declared.why.Cause.{Cause}
use Rattle.port_core.specs.Picks.{next_move}
use Rattle.port_core.specs.ListFunction.{ListFunction}
use Rattle.stream_model.specs.FanIn.{Tagged, Inflow, merge_of, Finds}
use Rattle.stream_model.specs.Machine.{Run, Given, run, close, Fails}
use Rattle.stream_model.specs.Outlook.{End, unended, ended, failed}
use Rattle.stream_model.specs.Substreams.{Opening, Subs, substreams, begin_subs, of_sub, by_sub, sub_count, MergedStands}
use Rattle.stream_model.proofs.MergeTraces.{PrefixAll, merge_same}
use Rattle.stage_core.specs.Fans.{untagged}
use Rattle.stage_core.proofs.Flags.{same}
use Rattle.stage_core.specs.declared.phase.Phase.{Phase}
use Rattle.stage_core.specs.declared.phase.Phase.TheVariants.{New, Open, Closed}
use Rattle.stage_sub.specs.Handling.{ports_given}
use Rattle.stage_sub.specs.Picking.{of_number}
use Rattle.stage_sub.specs.Leds.{Led}
use Rattle.stage_sub.specs.LedLaws.{BeginsEach, led_ready, GivenBy, MisfitBy, LedStopped, Ceased, LedServes, keeps_by, LedKeeps}
use Rattle.stage_sub.proofs.Picking.{of_sub_number, shares_begin}
use Rattle.stage_sub.proofs.Fifo.{Below, fifo_gives, fifo_finds, count_bounds, finds_more}

-- ---- of each substream what was given begins what is ready

equal_number : (a b : ℕ) → (a == b) ≡ true → a ≡ b
equal_number a b e = grind (arith, nat_tests)

map_prefix : (a b : List Tagged) → IsPrefix a b → IsPrefix (untagged a) (untagged b)
map_prefix a b p = record { rest = untagged p.rest; is = ap untagged p.is ∙ untag_append a p.rest }
  where
    untag_append : (a b : List Tagged) → untagged (a ++ b) ≡ untagged a ++ untagged b
    untag_append [] b = refl
    untag_append (x ∷ a) b = ap (λ (l : List Tree). x.item ∷ l) (untag_append a b)

module _ (yields : List Tree → End → Given Tree) where
  begins_sub : (ready given : List Tagged) → BeginsEach ready given → (n : ℕ) → IsPrefix (of_sub yields n given) (of_sub yields n ready)
  begins_sub ready given b n =
      subst (λ (l : List Tree). IsPrefix l (of_sub yields n ready)) (sym (of_sub_number yields n given))
      (subst (λ (l : List Tree). IsPrefix (untagged (of_number n given)) l) (sym (of_sub_number yields n ready)) (map_prefix (of_number n given) (of_number n ready) (b n)))

  begins_by : (k n : ℕ) (ready given : List Tagged) → BeginsEach ready given → PrefixAll (by_sub yields k n given) (by_sub yields k n ready)
  begins_by zero n ready given b = tt
  begins_by (suc k) n ready given b = (begins_sub ready given b n, begins_by k (n + 1) ready given b)

  -- a number of which there are outputs is below the count
  below_count : (k n : ℕ) (l : List Tagged) → Below yields k l → of_number n l ≢ [] → n < k
  below_count k n [] b some = absurd (some refl)
  below_count k n (x ∷ l) b some = by_flag (x.port == n) refl (λ s. below_count k n l b.1 s) some
    where
      by_flag : (c : Bool) → (x.port == n) ≡ c → (of_number n l ≢ [] → n < k) → (if c then x ∷ of_number n l else of_number n l) ≢ [] → n < k
      by_flag true e later s = let p : x.port ≡ n = equal_number x.port n e in let h = b.0 in omega (arith, p, h)
      by_flag false e later s = later s

  -- a list whose numbers are all below k
  all_below_count : (k : ℕ) (l : List Tagged) → ((n : ℕ) → of_number n l ≢ [] → n < k) → Below yields k l
  all_below_count k [] h = tt
  all_below_count k (x ∷ l) h = (h x.port (λ e. first_there x l e), all_below_count k l (λ n s. h n (λ e. later_there n x l s e)))
    where
      first_there : (x : Tagged) (l : List Tagged) → of_number x.port (x ∷ l) ≡ [] → ⊥
      first_there x l e = let z : (x.port == x.port) ≡ true = same x.port x.port refl in let y : x ∷ of_number x.port l ≡ [] = (let q = e in rw z at q) in cc

      later_there : (n : ℕ) (x : Tagged) (l : List Tagged) → of_number n l ≢ [] → of_number n (x ∷ l) ≡ [] → ⊥
      later_there n x l s e = by_flag (x.port == n) e
        where
          by_flag : (c : Bool) → (if c then x ∷ of_number n l else of_number n l) ≡ [] → ⊥
          by_flag true q = cc
          by_flag false q = s q

  prefix_some : (a b : List Tagged) → IsPrefix a b → a ≢ [] → b ≢ []
  prefix_some [] b p s = absurd (s refl)
  prefix_some (x ∷ a) b p s = λ e. (let q : x ∷ (a ++ p.rest) ≡ [] = sym p.is ∙ e in cc)

  given_below : (ready given : List Tagged) → BeginsEach ready given → Below yields (sub_count yields ready) given
  given_below ready given b = all_below_count (sub_count yields ready) given (λ n s. below_count (sub_count yields ready) n ready (count_bounds yields ready) (prefix_some (of_number n given) (of_number n ready) (b n) s))

  -- so its moves find these elements among what is ready, and give them
  pub found_each : (ready given : List Tagged) → BeginsEach ready given → Finds (ports_given given) (by_sub yields (sub_count yields ready) 0 ready)
  found_each ready given b =
      finds_more (ports_given given) (by_sub yields (sub_count yields ready) 0 given) (by_sub yields (sub_count yields ready) 0 ready) (begins_by (sub_count yields ready) 0 ready given b)
      (fifo_finds yields (sub_count yields ready) given (given_below ready given b))

  pub gave_each : (ready given : List Tagged) → BeginsEach ready given → merge_of (ports_given given) (by_sub yields (sub_count yields ready) 0 ready) ≡ given
  gave_each ready given b =
      sym (merge_same (ports_given given) (by_sub yields (sub_count yields ready) 0 given) (by_sub yields (sub_count yields ready) 0 ready) (begins_by (sub_count yields ready) 0 ready given b) (fifo_finds yields (sub_count yields ready) given (given_below ready given b)))
      ∙ fifo_gives yields (sub_count yields ready) given (given_below ready given b)

-- ---- what it gave

some_same : (a b : List ℕ) → Some a ≡ Some b → a ≡ b
some_same a b h = cc

module _ (yields : List Tree → End → Given Tree) (node : ℕ) (o : Opening) where
  abbrev begin : Run Subs Tagged
  begin = begin_subs yields node

  -- by the outputs that were given
  stands_by : (ms : List ℕ) (w : Inflow) (g : List Tree) (e : End) (given : List Tagged) → GivenBy yields o begin (Some ms) g given → BeginsEach (led_ready yields o begin w) given
      → (e ≡ ended → ((close (substreams yields o) (run (substreams yields o) begin w.list) w.end).end ≡ ended) × (length given ≡ length (led_ready yields o begin w)))
      → ((c : Cause) → e ≡ failed c → (t : List Tagged) × (Fails (substreams yields o) begin w.list w.end t c × (length t ≤ length given)))
      → MergedStands yields node o ms w.list w.end g e
  stands_by ms w g e given by begins ends fails =
      let moves : ports_given given ≡ ms = some_same (ports_given given) ms (sym by.moves_is) in
      let many : length ms ≡ length given = ap length (sym moves) ∙ length-map given (λ x. x.port) in
      record {
        ready = led_ready yields o begin w;
        are = refl;
        finds = subst (λ (k : List ℕ). Finds k (by_sub yields (sub_count yields (led_ready yields o begin w)) 0 (led_ready yields o begin w))) moves (found_each yields (led_ready yields o begin w) given begins);
        gave = sym by.list_is ∙ ap untagged (sym (gave_each yields (led_ready yields o begin w) given begins)) ∙ ap (λ (k : List ℕ). untagged (merge_of k (by_sub yields (sub_count yields (led_ready yields o begin w)) 0 (led_ready yields o begin w)))) moves;
        ends = λ d. let q = ends d in (q.0, many ∙ q.1);
        fails = λ c d. let q = fails c d in (q.0, q.1.0, (let k = q.1.1 in omega (arith, k, many)));
      }

  module _ {C : Type 0} (rest : C → ListFunction) (is_open : C → Bool) (f : ListFunction) where
    pub led_stands : (l : Led C) (ms : List ℕ) (w : Inflow) (g : List Tree) (e : End) → l.logic.moves ≡ Some ms → LedKeeps yields o begin rest is_open f l (w ∷ []) g e → MergedStands yields node o ms w.list w.end g e
    led_stands l ms w g e is k = by_phase l.stuck l.logic.phase k
      where
        by_phase : (b : Bool) (p : Phase) → keeps_by yields o begin rest is_open f b p l w g e → MergedStands yields node o ms w.list w.end g e
        by_phase true p s = stands_by ms w g e s.given (subst (λ (m : Option (List ℕ)). GivenBy yields o begin m g s.given) is s.by) s.begins (λ d. absurd (let z : unended ≡ ended = sym s.unended_is ∙ d in cc)) (λ c d. absurd (let z : unended ≡ failed c = sym s.unended_is ∙ d in cc))
        by_phase false New s = stands_by ms w g e s.given (subst (λ (m : Option (List ℕ)). GivenBy yields o begin m g s.given) is s.by) (shares_begin (led_ready yields o begin w) s.given l.logic.pending s.shares) (λ d. absurd (let z : unended ≡ ended = sym s.unended_is ∙ d in cc)) (λ c d. absurd (let z : unended ≡ failed c = sym s.unended_is ∙ d in cc))
        by_phase false Open s = stands_by ms w g e s.given (subst (λ (m : Option (List ℕ)). GivenBy yields o begin m g s.given) is s.by) (shares_begin (led_ready yields o begin w) s.given l.logic.pending s.shares) (λ d. absurd (let z : unended ≡ ended = sym s.unended_is ∙ d in cc)) (λ c d. absurd (let z : unended ≡ failed c = sym s.unended_is ∙ d in cc))
        by_phase false Closed s = stands_by ms w g e s.given (subst (λ (m : Option (List ℕ)). GivenBy yields o begin m g s.given) is s.by) s.begins s.ends s.fails

-- ---- why it stopped

module _ (yields : List Tree → End → Given Tree) (o : Opening) (start : Run Subs Tagged) {C : Type 0} (rest : C → ListFunction) (is_open : C → Bool) (f : ListFunction) where
  pub led_cause : (l : Led C) (ms : List ℕ) (w : Inflow) (g : List Tree) (e : End) → l.logic.moves ≡ Some ms → l.stuck ≡ true → LedKeeps yields o start rest is_open f l (w ∷ []) g e → MisfitBy yields o start (next_move l.left) ms w
  led_cause l ms w g e is on k =
      let s : LedStopped yields o start l.logic.moves (next_move l.left) w g e = subst (λ (b : Bool). keeps_by yields o start rest is_open f b l.logic.phase l w g e) on k in
      subst (λ (m : List ℕ). MisfitBy yields o start (next_move l.left) m w) (some_same (ports_given s.given) ms (sym s.by.moves_is ∙ is)) s.cause

  -- one that is open and did not stop: as many outputs were given and are held as are ready
  pub led_count : (l : Led C) (w : Inflow) (g : List Tree) (e : End) → l.stuck ≡ false → l.logic.phase ≡ Open → LedKeeps yields o start rest is_open f l (w ∷ []) g e → length g + length l.logic.pending ≡ length (led_ready yields o start w)
  led_count l w g e calm op k =
      let s : LedServes yields o start rest is_open f l w g e = subst (λ (p : Phase). keeps_by yields o start rest is_open f false p l w g e) op (subst (λ (b : Bool). keeps_by yields o start rest is_open f b l.logic.phase l w g e) calm k) in
      let many : length g ≡ length s.given = ap length (sym s.by.list_is) ∙ length-map s.given (λ x. x.item) in
      let c = s.count in
      omega (arith, many, c)
