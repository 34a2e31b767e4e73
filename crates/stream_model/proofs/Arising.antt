-- An entry of an outlook arises at its own node, though nothing that comes in fails, or came in.
use Rattle.std.specs.Prelude.{slice_get, not, if◌then◌else◌, ◌==◌, ◌-◌, nat_le, ⊤}
use Rattle.std.specs.List.{filter_map, cons_option}
use Rattle.std.specs.Option.{option_map}
use Rattle.std.proofs.Common.{◌≡◌, ◌⊎◌, inl, inr, ℕ, zero, suc, ◌+◌, ◌<◌, Bool, true, false, List, [], ◌∷◌, ◌++◌, length, map, take, Option, None, Some, refl, sym, ap, ◌∙◌, subst, arith}
use Rattle.elem_core.specs.declared.why.Cause.{Cause}
use Rattle.elem_core.specs.declared.why.Decider.{Decider}
use Rattle.elem_core.specs.declared.why.Decider.TheVariants.{Stop}
use Rattle.elem_core.specs.declared.why.Why.TheVariants.{BufferOverflow}
use Rattle.stream_model.specs.declared.kind.Joining.TheVariants as joining
use Rattle.stream_model.specs.declared.kind.Policy.{Policy}
use Rattle.stream_model.specs.declared.kind.Policy.TheVariants.{Backpressure, DropHead, DropTail, DropBuffer, DropNew, Fail}
use Rattle.stream_model.specs.Blame.{HasCause, calm, IsCustomWhy, Arises, ComesIn, GivenLeads, ComesBy, arises, comes_on, EndsSink}
use Rattle.stream_model.specs.Composed.{inputs_of, count_from, incoming, received, wire_loss, ports_of, given_on, sent_on, composed, sink_outlook, IsRanked}
use Rattle.stream_model.specs.FanIn.{Tagged, reach, reached, reached_all, paired, concat_of, interleave_of, inlets, turns_of, sorted_of, pairs}
use Rattle.stream_model.specs.Fits.{inputs}
use Rattle.stream_model.specs.Graph.{Graph, Node, Edge, find_wire, steps_of}
use Rattle.stream_model.specs.Linear.{Book, told_book, Work, Role, a_source, a_flow, a_fan_in, a_fan_out, reads_lines, gives_range, gives_nothing, gives_failure, works, trips, plugs_in, buffers, recovers, obeys, groups_by, splits_when, splits_after, merges, gathers, concats, interleaves, merges_sorted, zips, broadcasts, balances, partitions, unzips, customs, sinks, passing, plugged, numbering, keeping_work, linear, begin_work, role_of, work_of}
use Rattle.stream_model.specs.Listed.{is_untold, tells_none}
use Rattle.stream_model.specs.Machine.{Run, Machine, is_going, run, Given, whole, passed, own, fails_of, output}
use Rattle.stream_model.specs.Node.{World, head_of, second_of, chain_of, custom_by, role_outlook, node_outlook, of_work}
use Rattle.stream_model.specs.Outlook.{Outlook, Entry, End, behind, lane_outlook}
use Rattle.stream_model.specs.Picks.{count_of, at_end_of, merge_fails, sent_to, Buffered, buffered, empty_buffer, buffer_outlook, once_came, Acted, untouched, completed, aborted, acted, acted_outlook, recover_outlook}
use Rattle.stream_model.specs.FanOut.{left_outlook, right_outlook}
use Rattle.elem_core.specs.Tree.{Tree}
use Rattle.stream_model.specs.Substreams.{Opening, by_key, before, through, substreams, begin_subs, concat_subs, merge_subs, once_given}
use Rattle.stream_model.specs.Substreams as sub
use Rattle.stream_model.proofs.Blaming.{AreNotBy, AllNotBy, if_left, linear_by, role_by}
use Rattle.stream_model.proofs.Compositions.{Found, found_first, composed_composes, slice_get-below}

-- ---- entries whose causes all have a property

module _ (P : Cause → Type 0) where
  abbrev AllCauses : List Entry → Type 0
  AllCauses [] = ⊤
  AllCauses (e ∷ es) = P e.cause × AllCauses es

  abbrev AllComing : List Outlook → Type 0
  AllComing [] = ⊤
  AllComing (o ∷ os) = AllCauses o.fails × AllComing os

  of_one : (c : Cause) (es : List Entry) → AllCauses es → HasCause c es → P c
  of_one c [] h has = absurd has
  of_one c (e ∷ es) h (inl is) = subst P is h.0
  of_one c (e ∷ es) h (inr more) = of_one c es h.1 more

  both_have : (xs ys : List Entry) → AllCauses xs → AllCauses ys → AllCauses (xs ++ ys)
  both_have [] ys h k = k
  both_have (x ∷ xs) ys h k = (h.0, both_have xs ys h.1 k)

  first_have : (xs ys : List Entry) → AllCauses (xs ++ ys) → AllCauses xs
  first_have [] ys h = tt
  first_have (x ∷ xs) ys h = (h.0, first_have xs ys h.1)

  -- an entry that is left keeps its cause
  kept_have : (f : Entry → Option Entry) → ((e r : Entry) → f e ≡ Some r → r.cause ≡ e.cause) → (es : List Entry) → AllCauses es → AllCauses (filter_map f es)
  kept_have f keeps [] h = tt
  kept_have f keeps (e ∷ es) h = by (f e) refl (kept_have f keeps es h.1)
    where
      by : (o : Option Entry) → f e ≡ o → AllCauses (filter_map f es) → AllCauses (cons_option o (filter_map f es))
      by None is rest = rest
      by (Some r) is rest = (subst P (sym (keeps e r is)) h.0, rest)

  behind_have : (n : ℕ) (es : List Entry) → AllCauses es → AllCauses (map (behind n) es)
  behind_have n [] h = tt
  behind_have n (e ∷ es) h = (h.0, behind_have n es h.1)

  head_have : (os : List Outlook) → AllComing os → AllCauses (head_of os).fails
  head_have [] h = tt
  head_have (o ∷ os) h = h.0

  second_have : (os : List Outlook) → AllComing os → AllCauses (second_of os).fails
  second_have [] h = tt
  second_have (o ∷ os) h = head_have os h.1

  -- ---- a machine, by what it fails with of its own

  machine_have : {S O : Type 0} (m : Machine S O) (start : Run S O) (o : Outlook) → AllCauses (fails_of m start (calm o)) → AllCauses o.fails → AllCauses (fails_of m start o)
  machine_have m start o own_have come =
      both_have (own m start o.list (whole m start o).end) (filter_map (passed m start o.list) o.fails) (first_have (own m start o.list (whole m start o).end) [] own_have)
      (kept_have (passed m start o.list) (λ e r is. if_left (is_going (run m start (take (e.low - m.hold) o.list)).state) (record { cause = e.cause; low = length (run m start (take (e.low - m.hold) o.list)).gave }) r is) o.fails come)

  linear_have : (b : Book) (node : ℕ) (d : Decider) (v v2 : Work) (os : List Outlook) → AllCauses (output (linear b v) (begin_work node d v2) (head_of (map calm os))).fails → AllComing os → AllCauses (output (linear b v) (begin_work node d v2) (head_of os)).fails
  linear_have b node d v v2 [] h come = h
  linear_have b node d v v2 (o ∷ os) h come = machine_have (linear b v) (begin_work node d v2) o h come.0

  -- ---- several inputs

  merged_have : (moves : List ℕ) (n : ℕ) (os : List Outlook) → AllComing os → AllCauses (merge_fails moves n os)
  merged_have moves n [] h = tt
  merged_have moves n (o ∷ os) h =
      both_have (filter_map (at_end_of (length moves) (count_of n moves)) o.fails) (merge_fails moves (n + 1) os)
      (kept_have (at_end_of (length moves) (count_of n moves)) (λ e r is. if_left (nat_le (e.low - 1) (count_of n moves)) (record { cause = e.cause; low = length moves }) r is) o.fails h.0) (merged_have moves (n + 1) os h.1)

  map_left : (c : Cause) (o : Option ℕ) (r : Entry) → option_map (λ k. record { cause = c; low = k }) o ≡ Some r → r.cause ≡ c
  map_left c None r is = absurd cc
  map_left c (Some k) r is = let same : record { cause = c; low = k } ≡ r = cc in ap (λ (e : Entry). e.cause) (sym same)

  reached_have : (k n : ℕ) (l : List Tagged) (os : List Outlook) → AllComing os → AllCauses (reached_all k n l os)
  reached_have k n l [] h = tt
  reached_have k n l (o ∷ os) h =
      both_have (filter_map (reached k n l) o.fails) (reached_all k (n + 1) l os) (kept_have (reached k n l) (λ e r is. map_left e.cause (reach n (e.low - k) l) r is) o.fails h.0) (reached_have k (n + 1) l os h.1)

  paired_have : (n : ℕ) (a b : Outlook) → AllCauses a.fails → AllCauses b.fails → AllCauses (filter_map (paired n) a.fails ++ filter_map (paired n) b.fails)
  paired_have n a b h k = both_have (filter_map (paired n) a.fails) (filter_map (paired n) b.fails) (one a.fails h) (one b.fails k)
    where
      one : (es : List Entry) → AllCauses es → AllCauses (filter_map (paired n) es)
      one es h = kept_have (paired n) (λ e r is. if_left (nat_le (e.low - 1) n) (record { cause = e.cause; low = e.low - 1 }) r is) es h

  -- ---- nodes

  module _ (node : ℕ) where
    overflow_have : (x : Buffered) (o : Outlook) (b : Bool) → AllCauses (if b then record { cause = record { stage = node; nth = x.came; why = BufferOverflow }; low = length x.gave } ∷ [] else []) → AllCauses o.fails
        → AllCauses (if b then record { cause = record { stage = node; nth = x.came; why = BufferOverflow }; low = length x.gave } ∷ [] else filter_map (once_came (length x.gave) x.came) o.fails)
    overflow_have x o true h come = h
    overflow_have x o false h come = kept_have (once_came (length x.gave) x.came) (λ e r is. if_left (nat_le e.low x.came) (record { cause = e.cause; low = length x.gave }) r is) o.fails come

    buffer_have : (p : Policy) (n : ℕ) (moves : List ℕ) (os : List Outlook) → AllCauses (buffer_outlook node p n moves (head_of (map calm os))).fails → AllComing os → AllCauses (buffer_outlook node p n moves (head_of os)).fails
    buffer_have p n moves [] h come = h
    buffer_have p n moves (o ∷ os) h come = overflow_have (buffered p n moves o.list empty_buffer) o (buffered p n moves o.list empty_buffer).overflowed h come.0

    valve_have : (a : Acted) (os : List Outlook) → AllCauses (acted_outlook node a (head_of (map calm os))).fails → AllComing os → AllCauses (acted_outlook node a (head_of os)).fails
    valve_have untouched os h come = head_have os come
    valve_have (completed k) os h come = tt
    valve_have (aborted k) [] h come = h
    valve_have (aborted k) (o ∷ os) h come = h

    recover_have : (t : Tree) (moves : List ℕ) (o : Outlook) → AllCauses (recover_outlook t moves o).fails
    recover_have t [] o = tt
    recover_have t (k ∷ moves) o = tt

    halves_have : (b : Bool) (o : Outlook) → AllCauses o.fails → AllCauses (if b then left_outlook o else right_outlook o).fails
    halves_have true o h = h
    halves_have false o h = h

    module _ (g : Graph) (w : World) where
      concat_have : (p : Opening) (chain : List ℕ) (os : List Outlook) → AllCauses (concat_subs (through w.book (chain_of node (steps_of chain g.chains))) node p (head_of (map calm os))).fails → AllComing os
          → AllCauses (concat_subs (through w.book (chain_of node (steps_of chain g.chains))) node p (head_of os)).fails
      concat_have p chain [] h come = h
      concat_have p chain (o ∷ os) h come =
          machine_have (substreams (through w.book (chain_of node (steps_of chain g.chains))) p) (begin_subs (through w.book (chain_of node (steps_of chain g.chains))) node) o h come.0

      -- an entry that is left of these was among them
      given_left : (yields : List Tree → End → Given Tree) (n : ℕ) (xs ys : List Entry) → AllCauses (filter_map (once_given yields n) xs) → AllCauses ys → AllCauses (filter_map (once_given yields n) (xs ++ ys))
      given_left yields n [] ys h k = kept_have (once_given yields n) (λ e r is. if_left (nat_le e.low n) (record { cause = e.cause; low = n }) r is) ys k
      given_left yields n (x ∷ xs) ys h k = by (nat_le x.low n) (λ t. given_left yields n xs ys t k) h
        where
          by : (b : Bool) → (AllCauses (filter_map (once_given yields n) xs) → AllCauses (filter_map (once_given yields n) (xs ++ ys))) → AllCauses (cons_option (if b then Some (record { cause = x.cause; low = n }) else None) (filter_map (once_given yields n) xs))
              → AllCauses (cons_option (if b then Some (record { cause = x.cause; low = n }) else None) (filter_map (once_given yields n) (xs ++ ys)))
          by true more t = (t.0, more t.1)
          by false more t = more t

      none_more : (yields : List Tree → End → Given Tree) (n : ℕ) (xs : List Entry) → AllCauses (filter_map (once_given yields n) (xs ++ [])) → AllCauses (filter_map (once_given yields n) xs)
      none_more yields n [] h = tt
      none_more yields n (x ∷ xs) h = by (nat_le x.low n) (λ t. none_more yields n xs t) h
        where
          by : (b : Bool) → (AllCauses (filter_map (once_given yields n) (xs ++ [])) → AllCauses (filter_map (once_given yields n) xs)) → AllCauses (cons_option (if b then Some (record { cause = x.cause; low = n }) else None) (filter_map (once_given yields n) (xs ++ [])))
              → AllCauses (cons_option (if b then Some (record { cause = x.cause; low = n }) else None) (filter_map (once_given yields n) xs))
          by true more t = (t.0, more t.1)
          by false more t = more t

      merge_have : (p : Opening) (chain : List ℕ) (os : List Outlook) → AllCauses (merge_subs (through w.book (chain_of node (steps_of chain g.chains))) node p (w.moves node) (head_of (map calm os))).fails → AllComing os
          → AllCauses (merge_subs (through w.book (chain_of node (steps_of chain g.chains))) node p (w.moves node) (head_of os)).fails
      merge_have p chain [] h come = h
      merge_have p chain (o ∷ os) h come =
          let yields = through w.book (chain_of node (steps_of chain g.chains)) in
          let m = substreams yields p in
          let start = begin_subs yields node in
          given_left yields (length (w.moves node)) (own m start o.list (whole m start o).end) (filter_map (passed m start o.list) o.fails)
          (none_more yields (length (w.moves node)) (own m start o.list (whole m start o).end) h)
          (kept_have (passed m start o.list) (λ e r is. if_left (is_going (run m start (take (e.low - m.hold) o.list)).state) (record { cause = e.cause; low = length (run m start (take (e.low - m.hold) o.list)).gave }) r is) o.fails come.0)

      custom_have : (name : List ℕ) (d : Decider) (os : List Outlook) (port : ℕ) (b : Bool) → AllCauses (custom_by g w node name d (map calm os) port b).fails → AllComing os → AllCauses (custom_by g w node name d os port b).fails
      custom_have name d os port true h come = linear_have (told_book w.book) node d (plugged name []) (plugged name []) os h come
      custom_have name d os port false h come = h

      lane_have : (n : ℕ) (os : List Outlook) → AllComing os → AllCauses (lane_outlook n (head_of os)).fails
      lane_have n os come = behind_have n (head_of os).fails (head_have os come)

      -- what a node may fail with is its own, though nothing that comes in fails, or came in
      role_have : (r : Role) (d : Decider) (os : List Outlook) (port : ℕ) → AllCauses (role_outlook g w node r d (map calm os) port).fails → AllComing os → AllCauses (role_outlook g w node r d os port).fails
      role_have (a_source (reads_lines name)) d os port h come = h
      role_have (a_source (gives_range low high)) d os port h come = h
      role_have (a_source (gives_nothing b)) d os port h come = h
      role_have (a_source (gives_failure b)) d os port h come = h
      role_have (a_flow (works v)) d os port h come = linear_have w.book node d v v os h come
      role_have (a_flow (trips order name n)) d os port h come = linear_have w.book node d passing passing os h come
      role_have (a_flow (plugs_in name)) d os port h come = linear_have w.book node d (plugged name []) (plugged name []) os h come
      role_have (a_flow (buffers n Backpressure)) d os port h come = lane_have n os come
      role_have (a_flow (buffers n DropHead)) d os port h come = buffer_have DropHead n (w.moves node) os h come
      role_have (a_flow (buffers n DropTail)) d os port h come = buffer_have DropTail n (w.moves node) os h come
      role_have (a_flow (buffers n DropBuffer)) d os port h come = buffer_have DropBuffer n (w.moves node) os h come
      role_have (a_flow (buffers n DropNew)) d os port h come = buffer_have DropNew n (w.moves node) os h come
      role_have (a_flow (buffers n Fail)) d os port h come = buffer_have Fail n (w.moves node) os h come
      role_have (a_flow (recovers t)) d os port h come = recover_have t (w.moves node) (head_of os)
      role_have (a_flow (obeys name)) d os port h come = valve_have (acted (w.moves node)) os h come
      role_have (a_flow (groups_by n f chain)) d os port h come = merge_have (by_key n f) chain os h come
      role_have (a_flow (splits_when p chain joining.Merge)) d os port h come = merge_have (before p) chain os h come
      role_have (a_flow (splits_when p chain joining.Concat)) d os port h come = concat_have (before p) chain os h come
      role_have (a_flow (splits_after p chain joining.Merge)) d os port h come = merge_have (sub.behind p) chain os h come
      role_have (a_flow (splits_after p chain joining.Concat)) d os port h come = concat_have (sub.behind p) chain os h come
      role_have (a_fan_in (merges n)) d os port h come = merged_have (w.moves node) 0 os come
      role_have (a_fan_in (gathers n)) d os port h come = tt
      role_have (a_fan_in (concats n)) d os port h come = reached_have 0 0 (concat_of 0 os) os come
      role_have (a_fan_in (interleaves n k)) d os port h come = reached_have 0 0 (interleave_of k (turns_of os) k (inlets 0 os)) os come
      role_have (a_fan_in merges_sorted) d os port h come =
          reached_have 1 0 (sorted_of (head_of os).ends (second_of os).ends (head_of os).list (second_of os).list) (head_of os ∷ second_of os ∷ []) (head_have os come, (second_have os come, tt))
      role_have (a_fan_in zips) d os port h come = paired_have (length (pairs (head_of os).list (second_of os).list)) (head_of os) (second_of os) (head_have os come) (second_have os come)
      role_have (a_fan_out (broadcasts n)) d os port h come = head_have os come
      role_have (a_fan_out (balances n)) d os port h come =
          kept_have (at_end_of (length (sent_to port (w.moves node) (head_of os).list)) (length (w.moves node)))
          (λ e r is. if_left (nat_le (e.low - 1) (length (w.moves node))) (record { cause = e.cause; low = length (sent_to port (w.moves node) (head_of os).list) }) r is) (head_of os).fails (head_have os come)
      role_have (a_fan_out (partitions n f)) d os port h come = linear_have w.book node Stop (numbering n f port) (numbering n f port) os h come
      role_have (a_fan_out unzips) d os port h come = halves_have (port == 0) (head_of os) (head_have os come)
      role_have (customs name) d os port h come = custom_have name d os port (w.book.tells name) h come
      role_have (sinks file keeps) d os port h come = linear_have w.book node d (keeping_work keeps) (keeping_work keeps) os h come

-- ---- each cause by itself

-- some of these outlooks may fail with it
abbrev pub AnyCause : Cause → List Outlook → Type 0
AnyCause c [] = ⊥
AnyCause c (o ∷ os) = HasCause c o.fails ⊎ AnyCause c os

module _ (alone : List Entry) (come : List Outlook) where
  abbrev Parted : Cause → Type 0
  Parted c = HasCause c alone ⊎ AnyCause c come

  all_alone : (es : List Entry) → ((c : Cause) → HasCause c es → HasCause c alone) → AllCauses Parted es
  all_alone [] up = tt
  all_alone (e ∷ es) up = (inl (up e.cause (inl refl)), all_alone es (λ c h. up c (inr h)))

  each_come : (es : List Entry) → ((c : Cause) → HasCause c es → AnyCause c come) → AllCauses Parted es
  each_come [] up = tt
  each_come (e ∷ es) up = (inr (up e.cause (inl refl)), each_come es (λ c h. up c (inr h)))

  all_come : (os : List Outlook) → ((c : Cause) → AnyCause c os → AnyCause c come) → AllComing Parted os
  all_come [] up = tt
  all_come (o ∷ os) up = (each_come o.fails (λ c h. up c (inl h)), all_come os (λ c h. up c (inr h)))

-- a number that cannot be another is that one
stable : (a b : ℕ) → (((a ≡ b) → ⊥) → ⊥) → a ≡ b
stable zero zero f = refl
stable zero (suc b) f = absurd (f (λ e. absurd cc))
stable (suc a) zero f = absurd (f (λ e. absurd cc))
stable (suc a) (suc b) f = ap suc (stable a b (λ other. f (λ e. other (omega (arith, e)))))

-- nothing that cannot fail blames a node
calm_not_by : (s : ℕ) (os : List Outlook) → AllNotBy s (map calm os)
calm_not_by s [] = tt
calm_not_by s (o ∷ os) = (tt, calm_not_by s os)

blames_other : (s : ℕ) (c : Cause) (es : List Entry) → AreNotBy s es → HasCause c es → c.stage ≡ s → ⊥
blames_other s c [] h has is = has
blames_other s c (e ∷ es) h (inl same) is = h.0 (ap (λ (x : Cause). x.stage) same ∙ is)
blames_other s c (e ∷ es) h (inr more) is = blames_other s c es h.1 more is

not_both : (b : Bool) → b ≡ true → b ≡ false → ⊥
not_both true e f = absurd cc
not_both false e f = absurd cc

-- one that cannot fail has no cause
calm_head : (os : List Outlook) → (head_of (map calm os)).fails ≡ []
calm_head [] = refl
calm_head (o ∷ os) = refl

module _ (g : Graph) (w : World) where
  -- what a node fails with of its own blames it
  own_stage : (node : ℕ) (r : Role) (d : Decider) (os : List Outlook) (port : ℕ) (c : Cause) → is_untold w.book r ≡ false → HasCause c (role_outlook g w node r d (map calm os) port).fails → c.stage ≡ node
  own_stage node r d os port c told has =
      stable c.stage node (λ other. blames_other c.stage c (role_outlook g w node r d (map calm os) port).fails
      (role_by node c.stage (λ same. other (sym same)) g w r d (map calm os) port told (calm_not_by c.stage os)) has refl)

  parted : (node : ℕ) (r : Role) (d : Decider) (os : List Outlook) (port : ℕ) (c : Cause) → HasCause c (role_outlook g w node r d os port).fails → HasCause c (role_outlook g w node r d (map calm os) port).fails ⊎ AnyCause c os
  parted node r d os port c has =
      let alone = (role_outlook g w node r d (map calm os) port).fails in
      of_one (Parted alone os) c (role_outlook g w node r d os port).fails
      (role_have (Parted alone os) node g w r d os port (all_alone alone os alone (λ x h. h)) (all_come alone os os (λ x h. h))) has

  -- what a custom stage gives that tells no list is told
  untold_by : (node : ℕ) (name : List ℕ) (d : Decider) (os : List Outlook) (port : ℕ) (b : Bool) → not b ≡ true → custom_by g w node name d os port b ≡ w.given node port
  untold_by node name d os port true h = cc
  untold_by node name d os port false h = refl

  untold_gives : (node : ℕ) (r : Role) (d : Decider) (os : List Outlook) (port : ℕ) → is_untold w.book r ≡ true → role_outlook g w node r d os port ≡ w.given node port
  untold_gives node (a_source source) d os port h = cc
  untold_gives node (a_flow flow) d os port h = cc
  untold_gives node (a_fan_in fan) d os port h = cc
  untold_gives node (a_fan_out fan) d os port h = cc
  untold_gives node (customs name) d os port h = untold_by node name d os port (w.book.tells name) h
  untold_gives node (sinks file keeps) d os port h = cc

  -- ---- what comes in came along a wire

  behind_cause : (n : ℕ) (c : Cause) (es : List Entry) → HasCause c (map (behind n) es) → HasCause c es
  behind_cause n c [] h = h
  behind_cause n c (e ∷ es) (inl is) = inl is
  behind_cause n c (e ∷ es) (inr h) = inr (behind_cause n c es h)

  received_cause : (l : Option ℕ) (o : Outlook) (c : Cause) → HasCause c (received g w l o).fails → HasCause c o.fails
  received_cause None o c h = h
  received_cause (Some n) o c h = behind_cause n c o.fails h

  came_in : (node p : ℕ) (c : Cause) → HasCause c (incoming g w (composed g w) (find_wire node p g.wires)).fails → ComesIn g w node c
  came_in node p c has = by (find_wire node p g.wires) (λ i e. found_first (λ v. v.to) (λ v. v.input) node p g.wires i e) has
    where
      by : (o : Option ℕ) → ((i : ℕ) → o ≡ Some i → Found (λ v. v.to) node g.wires i) → HasCause c (incoming g w (composed g w) o).fails → ComesIn g w node c
      by None f h = absurd h
      by (Some i) f h =
          let r = f i refl in
          record { wire = i; edge = r.wire; at = r.at; to = r.to; may_come = received_cause (wire_loss g w (slice_get g.wires i)) (composed g w i) c h }

  pub any_came : (node : ℕ) (ps : List ℕ) (c : Cause) → AnyCause c (ports_of g w (composed g w) node ps) → ComesIn g w node c
  any_came node [] c h = absurd h
  any_came node (p ∷ ps) c (inl h) = came_in node p c h
  any_came node (p ∷ ps) c (inr h) = any_came node ps c h

  -- ---- wires

  module _ (rank : ℕ → ℕ) (ranked : IsRanked g rank) (given : GivenLeads g w) (c : Cause) where
    -- one wire, where the wires of lower rank are led back
    module _ (k j : ℕ) (low : rank j < suc k) (has : HasCause c (composed g w j).fails) (deeper : (i : ℕ) → rank i < k → i < length g.wires → HasCause c (composed g w i).fails → ComesBy g w c i) where
      -- along a wire into the node where wire j begins
      along : (v : Edge) → slice_get g.wires j ≡ Some v → ComesIn g w v.from c → ComesBy g w c j
      along v at come =
          let lower : rank come.wire < rank j = ranked.rises come.wire j come.edge v come.at at come.to in
          comes_on come.wire j come.edge v come.at at come.to (deeper come.wire (omega (arith, lower, low)) (slice_get-below g.wires come.wire come.edge come.at) come.may_come)

      by_told : (v : Edge) (n : Node) → slice_get g.wires j ≡ Some v → slice_get g.nodes v.from ≡ Some n → (b : Bool) → tells_none w.book n.kind ≡ b
          → HasCause c (node_outlook g w v.from n.kind n.decider (inputs g w v.from n) v.output).fails → ComesBy g w c j
      by_told v n at node true told h =
          elim (given j v n c at node told (subst (λ (o : Outlook). HasCause c o.fails) (untold_gives v.from (role_of n.kind) n.decider (inputs g w v.from n) v.output told) h)) as (λ _. ComesBy g w c j) [
            | inl its ↦
                arises j v n at node has (record {
                  blames = its.0;
                  alone = subst (λ (o : Outlook). HasCause c o.fails) (untold_gives v.from (role_of n.kind) n.decider (inputs g w v.from n) v.output told ∙ sym (untold_gives v.from (role_of n.kind) n.decider (map calm (inputs g w v.from n)) v.output told)) h;
                  custom = λ _. its.1;
                })
            | inr come ↦ along v at come
          ]
      by_told v n at node false told h =
          elim (parted v.from (role_of n.kind) n.decider (inputs g w v.from n) v.output c h) as (λ _. ComesBy g w c j) [
            | inl its ↦
                arises j v n at node has (record {
                  blames = own_stage v.from (role_of n.kind) n.decider (inputs g w v.from n) v.output c told its;
                  alone = its;
                  custom = λ untold. absurd (not_both (tells_none w.book n.kind) untold told);
                })
            | inr some ↦ along v at (any_came v.from (count_from 0 (inputs_of n)) c some)
          ]

      by_node : (v : Edge) → slice_get g.wires j ≡ Some v → (o : Option Node) → slice_get g.nodes v.from ≡ o → HasCause c (given_on g w (composed g w) v.from o v.output).fails → ComesBy g w c j
      by_node v at None none h = absurd h
      by_node v at (Some n) node h = by_told v n at node (tells_none w.book n.kind) refl h

      by_wire : (o : Option Edge) → slice_get g.wires j ≡ o → HasCause c (sent_on g w (composed g w) o).fails → ComesBy g w c j
      by_wire None at h = absurd h
      by_wire (Some v) at h = by_node v at (slice_get g.nodes v.from) refl h

    wire_comes : (k j : ℕ) → rank j < k → j < length g.wires → HasCause c (composed g w j).fails → ComesBy g w c j
    wire_comes zero j low below has = absurd (omega (arith, low))
    wire_comes (suc k) j low below has =
        by_wire k j low has (λ i l h comes. wire_comes k i l h comes) (slice_get g.wires j) refl (subst (λ (o : Outlook). HasCause c o.fails) (sym (composed_composes g w rank ranked j below)) has)

    wire_led : (j : ℕ) → j < length g.wires → HasCause c (composed g w j).fails → ComesBy g w c j
    wire_led j below has = wire_comes (suc (rank j)) j (omega arith) below has

    -- ---- sinks

    sink_by : (node : ℕ) (d : Decider) (o : Option Work) (os : List Outlook) → HasCause c (of_work w.book node d o os).fails → ((c.stage ≡ node) × HasCause c (of_work w.book node d o (map calm os)).fails) ⊎ AnyCause c os
    sink_by node d None os h = absurd h
    sink_by node d (Some v) os h =
        let alone = (output (linear w.book v) (begin_work node d v) (head_of (map calm os))).fails in
        elim (of_one (Parted alone os) c (output (linear w.book v) (begin_work node d v) (head_of os)).fails (linear_have (Parted alone os) w.book node d v v os (all_alone alone os alone (λ x h. h)) (all_come alone os os (λ x h. h))) h) as (λ _. ((c.stage ≡ node) × HasCause c alone) ⊎ AnyCause c os) [
          | inl its ↦
              inl (
                stable c.stage node (λ other. blames_other c.stage c alone
                    (linear_by w.book node c.stage d v v (head_of (map calm os)) (λ same. other (sym same)) (subst (λ (es : List Entry). AreNotBy c.stage es) (sym (calm_head os)) tt)) its refl),
                its,
              )
          | inr some ↦ inr some
        ]

    sink_led : (k : ℕ) (n : Node) → HasCause c (sink_outlook g w k n).fails → EndsSink g w k n c
    sink_led k n has =
        elim (sink_by k n.decider (work_of n.kind) (ports_of g w (composed g w) k (count_from 0 1)) has) as (λ _. EndsSink g w k n c) [
          | inl its ↦ inl its
          | inr some ↦
              let come = any_came k (count_from 0 1) c some in
              inr (come.wire, (come.edge, (come.at, (come.to, wire_led come.wire (slice_get-below g.wires come.wire come.edge come.at) come.may_come))))
        ]

pub wires_led : (g : Graph) (w : World) (rank : ℕ → ℕ) → IsRanked g rank → GivenLeads g w → (i : ℕ) (c : Cause) → i < length g.wires → HasCause c (composed g w i).fails → ComesBy g w c i
wires_led g w rank ranked given i c below has = wire_led g w rank ranked given c i below has

pub sinks_led : (g : Graph) (w : World) (rank : ℕ → ℕ) → IsRanked g rank → GivenLeads g w → (k : ℕ) (n : Node) (c : Cause) → HasCause c (sink_outlook g w k n).fails → EndsSink g w k n c
sinks_led g w rank ranked given k n c has = sink_led g w rank ranked given c k n has
