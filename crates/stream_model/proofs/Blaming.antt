-- An entry of an outlook blames its own node, or one from which the elements came.
use Rattle.std.specs.Prelude.{slice_get, not, if◌then◌else◌, ◌==◌, ◌-◌, nat_le, min, Result, Ok, Err, ⊤}
use Rattle.std.specs.List.{filter_map, cons_option, take_while}
use Rattle.std.specs.Option.{option_map}
use Rattle.std.proofs.Common.{◌≡◌, ◌≢◌, ℕ, zero, suc, ◌+◌, ◌<◌, Bool, true, false, List, [], ◌∷◌, ◌++◌, length, map, take, Option, None, Some, refl, sym, ap, ◌∙◌, subst, arith}
use Rattle.elem_core.specs.Text.{lines}
use Rattle.elem_core.specs.Tree.{Tree}
use Rattle.elem_core.specs.declared.why.Cause.{Cause}
use Rattle.elem_core.specs.declared.why.Decider.{Decider}
use Rattle.elem_core.specs.declared.why.Decider.TheVariants.{Stop, Resume, Restart}
use Rattle.elem_core.specs.declared.why.Why.{Why}
use Rattle.elem_core.specs.declared.why.Why.TheVariants.{Plug, ReadFault, LineTooLong, BufferOverflow}
use Rattle.stream_model.specs.declared.kind.Joining.TheVariants as joining
use Rattle.stream_model.specs.declared.kind.Policy.{Policy}
use Rattle.stream_model.specs.declared.kind.Policy.TheVariants.{Backpressure, DropHead, DropTail, DropBuffer, DropNew, Fail}
use Rattle.stream_model.specs.Composed.{inputs_of, count_from, incoming, received, wire_loss, ports_of, given_on, sent_on, composed, IsRanked}
use Rattle.stream_model.specs.FanIn.{Tagged, reach, reached, reached_all, paired, concat_of, interleave_of, inlets, turns_of, sorted_of, pairs}
use Rattle.stream_model.specs.FanOut.{left_outlook, right_outlook}
use Rattle.stream_model.specs.Graph.{Graph, Node, Edge, find_wire, steps_of}
use Rattle.stream_model.specs.Linear.{Book, told_book, Work, Stage, Role, a_source, a_flow, a_fan_in, a_fan_out, Verdict, go, finish, fail, Reaction, gives, ends, blames, breaks, reads_lines, gives_range, gives_nothing, gives_failure, works, trips, plugs_in, buffers, recovers, obeys, groups_by, splits_when, splits_after, merges, gathers, concats, interleaves, merges_sorted, zips, broadcasts, balances, partitions, unzips, customs, sinks, passing, plugged, numbering, taking, grouping, folding, reducing, heading, lasting, decided, reacts, reaction, finish_of, blame_end, keeping_work, linear, begin_work, role_of}
use Rattle.stream_model.specs.Machine.{State, going, done, broken, Run, Finish, adds, refuses, Machine, is_going, feed, feed_at, run, finish_at, close_at, close, Given, input_end, whole, passed, own, fails_of, output}
use Rattle.stream_model.specs.Listed.{is_untold, tells_none, begins, goes_on, IsListed, HasLists}
use Rattle.stream_model.specs.Node.{World, head_of, second_of, chain_of, custom_by, role_outlook}
use Rattle.stream_model.specs.Outlook.{Outlook, Entry, End, behind}
use Rattle.stream_model.specs.Picks.{count_of, at_end_of, merge_fails, sent_to, Buffered, buffered, empty_buffer, buffer_outlook, once_came, Acted, untouched, completed, aborted, acted, acted_outlook, recover_outlook}
use Rattle.stream_model.specs.Sources.{File, short, whole_lines, file_fails, lines_outlook}
use Rattle.stream_model.specs.Substreams.{Subs, Sub, Fault, by_element, by_end, cause_of, Opening, by_key, before, through, arranged, trouble, end_all, sub_run, sub_step, sub_finish, substreams, begin_subs, concat_subs, merge_subs, once_given}
use Rattle.stream_model.specs.Substreams as sub
use Rattle.stream_model.proofs.Apart.{true_or_false}
use Rattle.stream_model.proofs.Compositions.{Found, found_first, composed_composes, slice_get-below}

-- none of these entries blames node s
abbrev pub AreNotBy : ℕ → List Entry → Type 0
AreNotBy s [] = ⊤
AreNotBy s (e ∷ es) = (e.cause.stage ≢ s) × AreNotBy s es

-- of each of these outlooks
abbrev pub AllNotBy : ℕ → List Outlook → Type 0
AllNotBy s [] = ⊤
AllNotBy s (o ∷ os) = AreNotBy s o.fails × AllNotBy s os

-- ---- entries

not_both : (s : ℕ) (xs ys : List Entry) → AreNotBy s xs → AreNotBy s ys → AreNotBy s (xs ++ ys)
not_both s [] ys h k = k
not_both s (x ∷ xs) ys h k = (h.0, not_both s xs ys h.1 k)

-- an entry that is left keeps its cause
pub not_kept : (s : ℕ) (f : Entry → Option Entry) → ((e r : Entry) → f e ≡ Some r → r.cause ≡ e.cause) → (es : List Entry) → AreNotBy s es → AreNotBy s (filter_map f es)
not_kept s f keeps [] h = tt
not_kept s f keeps (e ∷ es) h = by (f e) refl (not_kept s f keeps es h.1)
  where
    by : (o : Option Entry) → f e ≡ o → AreNotBy s (filter_map f es) → AreNotBy s (cons_option o (filter_map f es))
    by None is rest = rest
    by (Some r) is rest = ((λ same. h.0 (ap (λ (c : Cause). c.stage) (sym (keeps e r is)) ∙ same)), rest)

not_behind : (s n : ℕ) (es : List Entry) → AreNotBy s es → AreNotBy s (map (behind n) es)
not_behind s n [] h = tt
not_behind s n (e ∷ es) h = (h.0, not_behind s n es h.1)

pub if_left : (b : Bool) (x r : Entry) → (if b then Some x else None) ≡ Some r → r.cause ≡ x.cause
if_left true x r is = let same : x ≡ r = cc in ap (λ (e : Entry). e.cause) (sym same)
if_left false x r is = absurd cc

map_left : (c : Cause) (o : Option ℕ) (r : Entry) → option_map (λ k. record { cause = c; low = k }) o ≡ Some r → r.cause ≡ c
map_left c None r is = absurd cc
map_left c (Some k) r is = let same : record { cause = c; low = k } ≡ r = cc in ap (λ (e : Entry). e.cause) (sym same)

-- ---- a machine whose causes name this node

-- what it fails with at the end of its input names the node
abbrev EndsBy : {O : Type 0} → ℕ → Finish O → Type 0
EndsBy node (adds o) = ⊤
EndsBy node (refuses c) = c.stage ≡ node

-- it goes on as one of the node's, or it has failed with a cause that names it
abbrev StandsBy : {S : Type 0} → (S → Type 0) → ℕ → State S → Type 0
StandsBy at node (going x) = at x
StandsBy at node done = ⊤
StandsBy at node (broken c) = c.stage ≡ node

module _ {S O : Type 0} (m : Machine S O) (start : Run S O) (node s : ℕ) (other : node ≢ s) (at : S → Type 0) (steps : (x : S) (t : Tree) → at x → StandsBy at node (m.step x t).state)
    (finishes : (x : S) → at x → EndsBy node (m.finish x)) (begins : StandsBy at node start.state) where
  feed_by : (g : List O) (st : State S) (t : Tree) → StandsBy at node st → StandsBy at node (feed_at m g st t).state
  feed_by g (going x) t h = steps x t h
  feed_by g done t h = tt
  feed_by g (broken c) t h = h

  run_by : (l : List Tree) (x : Run S O) → StandsBy at node x.state → StandsBy at node (run m x l).state
  run_by [] x h = h
  run_by (t ∷ l) x h = run_by l (feed m x t) (feed_by x.gave x.state t h)

  own_by : (l : List Tree) (b : Bool) → AreNotBy s (own m start l (close m (run m start l) (input_end b)).end)
  own_by l b = by (run m start l).state b (run_by l start begins)
    where
      fin : (f : Finish O) → EndsBy node f → AreNotBy s (own m start l (finish_at m (run m start l).gave f).end)
      fin (adds o) h = tt
      fin (refuses c) h = ((λ same. other (sym h ∙ same)), tt)

      by : (st : State S) (b : Bool) → StandsBy at node st → AreNotBy s (own m start l (close_at m (run m start l).gave st (input_end b)).end)
      by done b h = tt
      by (broken c) b h = ((λ same. other (sym h ∙ same)), tt)
      by (going x) true h = fin (m.finish x) (finishes x h)
      by (going x) false h = tt

  fails_by : (o : Outlook) → AreNotBy s o.fails → AreNotBy s (fails_of m start o)
  fails_by o h =
      not_both s (own m start o.list (whole m start o).end) (filter_map (passed m start o.list) o.fails) (own_by o.list o.ends)
      (not_kept s (passed m start o.list) (λ e r is. if_left (is_going (run m start (take (e.low - m.hold) o.list)).state) (record { cause = e.cause; low = length (run m start (take (e.low - m.hold) o.list)).gave }) r is) o.fails h)

-- ---- linear stages

decided_by : (node : ℕ) (d : Decider) (x : Stage) (why : Why) → x.node ≡ node → StandsBy (λ (y : Stage). y.node ≡ node) node (decided d x why).state
decided_by node Stop x why h = h
decided_by node Resume x why h = h
decided_by node Restart x why h = h

reacts_by : (node : ℕ) (x : Stage) (r : Reaction) → x.node ≡ node → StandsBy (λ (y : Stage). y.node ≡ node) node (reacts x r).state
reacts_by node x (gives o w) h = h
reacts_by node x (ends o) h = tt
reacts_by node x (blames why) h = decided_by node x.decider x why h
reacts_by node x (breaks why) h = h

closed_by : (node : ℕ) (x : Stage) (v : Verdict) (gave : List Tree) → x.node ≡ node → EndsBy node (elim v as (λ _. Finish Tree) [ go ↦ adds gave | finish ↦ adds gave | fail n ↦ refuses (blame_end x (Plug n)) ])
closed_by node x go gave h = tt
closed_by node x finish gave h = tt
closed_by node x (fail n) gave h = h

finish_by : (b : Book) (node : ℕ) (x : Stage) (w : Work) → x.node ≡ node → EndsBy node (finish_of b x w)
finish_by b node x (grouping n []) h = tt
finish_by b node x (grouping n (t ∷ held)) h = tt
finish_by b node x (folding o a) h = tt
finish_by b node x (reducing r None) h = h
finish_by b node x (reducing r (Some a)) h = tt
finish_by b node x heading h = h
finish_by b node x (lasting None) h = h
finish_by b node x (lasting (Some t)) h = tt
finish_by b node x (plugged name taken) h = closed_by node x (b.closing name taken).verdict (b.closing name taken).gave h
finish_by b node x _ h = tt

begins_by : (node : ℕ) (d : Decider) (w : Work) → StandsBy (λ (y : Stage). y.node ≡ node) node (begin_work node d w).state
begins_by node d (taking zero) = tt
begins_by node d (taking (suc n)) = refl
begins_by node d _ = refl

pub linear_by : (b : Book) (node s : ℕ) (d : Decider) (v w : Work) (o : Outlook) → node ≢ s → AreNotBy s o.fails → AreNotBy s (output (linear b v) (begin_work node d w) o).fails
linear_by b node s d v w o other h =
    fails_by (linear b v) (begin_work node d w) node s other (λ (y : Stage). y.node ≡ node) (λ x t at. reacts_by node x (reaction b x.work t) at) (λ x at. finish_by b node x x.work at) (begins_by node d w) o h

-- ---- substreams

module _ (yields : List Tree → End → Given Tree) (node : ℕ) where
  caused_by : (x : Subs) (f : Fault) → x.node ≡ node → (cause_of x f).stage ≡ node
  caused_by x (by_element why) h = h
  caused_by x (by_end why) h = h

  sub_runs_by : (x : Subs) (now : List Sub) → x.node ≡ node → StandsBy (λ (y : Subs). y.node ≡ node) node (sub_run yields x now).state
  sub_runs_by x now h = by (trouble yields now)
    where
      by : (o : Option Fault)
          → StandsBy (λ (y : Subs). y.node ≡ node) node
          (elim o as (λ _. Run Subs Tagged) [
            | Some f ↦ record { gave = []; state = broken (cause_of x f) }
            | None ↦ record { gave = sub.news yields 0 x.subs now; state = going (record { node = x.node; taken = x.taken + 1; subs = now }) }
          ]).state
      by None = h
      by (Some f) = caused_by x f h

  sub_steps_by : (p : Opening) (x : Subs) (t : Tree) → x.node ≡ node → StandsBy (λ (y : Subs). y.node ≡ node) node (sub_step yields p x t).state
  sub_steps_by p x t h = by (arranged p x.subs t)
    where
      by : (r : Result (List Sub) Why)
          → StandsBy (λ (y : Subs). y.node ≡ node) node (elim r as (λ _. Run Subs Tagged) [ Ok now ↦ sub_run yields x now | Err why ↦ record { gave = []; state = broken (sub.blame x why) } ]).state
      by (Ok now) = sub_runs_by x now h
      by (Err why) = h

  sub_finish_by : (x : Subs) → x.node ≡ node → EndsBy node (sub_finish yields x)
  sub_finish_by x h = by (trouble yields (end_all x.subs))
    where
      by : (o : Option Fault) → EndsBy node (elim o as (λ _. Finish Tagged) [ Some f ↦ refuses (sub.blame_end x (sub.why_of f)) | None ↦ adds (sub.news yields 0 x.subs (end_all x.subs)) ])
      by None = tt
      by (Some f) = h

  subs_by : (s : ℕ) (p : Opening) (o : Outlook) → node ≢ s → AreNotBy s o.fails → AreNotBy s (fails_of (substreams yields p) (begin_subs yields node) o)
  subs_by s p o other h =
      fails_by (substreams yields p) (begin_subs yields node) node s other (λ (y : Subs). y.node ≡ node) (λ x t at. sub_steps_by p x t at) (λ x at. sub_finish_by x at) refl o h

-- ---- several inputs

merged_by : (s : ℕ) (moves : List ℕ) (n : ℕ) (os : List Outlook) → AllNotBy s os → AreNotBy s (merge_fails moves n os)
merged_by s moves n [] h = tt
merged_by s moves n (o ∷ os) h =
    not_both s (filter_map (at_end_of (length moves) (count_of n moves)) o.fails) (merge_fails moves (n + 1) os)
    (not_kept s (at_end_of (length moves) (count_of n moves)) (λ e r is. if_left (nat_le (e.low - 1) (count_of n moves)) (record { cause = e.cause; low = length moves }) r is) o.fails h.0) (merged_by s moves (n + 1) os h.1)

reached_by : (s k n : ℕ) (l : List Tagged) (os : List Outlook) → AllNotBy s os → AreNotBy s (reached_all k n l os)
reached_by s k n l [] h = tt
reached_by s k n l (o ∷ os) h =
    not_both s (filter_map (reached k n l) o.fails) (reached_all k (n + 1) l os) (not_kept s (reached k n l) (λ e r is. map_left e.cause (reach n (e.low - k) l) r is) o.fails h.0) (reached_by s k (n + 1) l os h.1)

paired_by : (s n : ℕ) (a b : Outlook) → AreNotBy s a.fails → AreNotBy s b.fails → AreNotBy s (filter_map (paired n) a.fails ++ filter_map (paired n) b.fails)
paired_by s n a b h k = not_both s (filter_map (paired n) a.fails) (filter_map (paired n) b.fails) (one a.fails h) (one b.fails k)
  where
    one : (es : List Entry) → AreNotBy s es → AreNotBy s (filter_map (paired n) es)
    one es h = not_kept s (paired n) (λ e r is. if_left (nat_le (e.low - 1) n) (record { cause = e.cause; low = e.low - 1 }) r is) es h

-- ---- nodes

module _ (node s : ℕ) (other : node ≢ s) where
  line_by : (l : List (List ℕ)) (b : Bool) → AreNotBy s (if b then [] else record { cause = record { stage = node; nth = length l + 1; why = LineTooLong }; low = length l } ∷ [])
  line_by l true = tt
  line_by l false = (other, tt)

  read_by : (f : File) (n : ℕ) (b : Bool) → AreNotBy s (if b then record { cause = record { stage = node; nth = 0; why = ReadFault }; low = min n (whole_lines f.read f.bytes) } ∷ [] else [])
  read_by f n true = (other, tt)
  read_by f n false = tt

  lines_by : (f : File) → AreNotBy s (lines_outlook node f).fails
  lines_by f =
      not_both s
      (if length (take_while short (lines f.bytes)) == length (lines f.bytes) then [] else record { cause = record { stage = node; nth = length (take_while short (lines f.bytes)) + 1; why = LineTooLong }; low = length (take_while short (lines f.bytes)) } ∷ [])
      (file_fails node f (length (take_while short (lines f.bytes)))) (line_by (take_while short (lines f.bytes)) (length (take_while short (lines f.bytes)) == length (lines f.bytes)))
      (read_by f (length (take_while short (lines f.bytes))) f.faulted)

  overflow_by : (x : Buffered) (o : Outlook) (b : Bool) → AreNotBy s o.fails
      → AreNotBy s (if b then record { cause = record { stage = node; nth = x.came; why = BufferOverflow }; low = length x.gave } ∷ [] else filter_map (once_came (length x.gave) x.came) o.fails)
  overflow_by x o true h = (other, tt)
  overflow_by x o false h = not_kept s (once_came (length x.gave) x.came) (λ e r is. if_left (nat_le e.low x.came) (record { cause = e.cause; low = length x.gave }) r is) o.fails h

  buffer_by : (p : Policy) (n : ℕ) (moves : List ℕ) (o : Outlook) → AreNotBy s o.fails → AreNotBy s (buffer_outlook node p n moves o).fails
  buffer_by p n moves o h = overflow_by (buffered p n moves o.list empty_buffer) o (buffered p n moves o.list empty_buffer).overflowed h

  valve_by : (a : Acted) (o : Outlook) → AreNotBy s o.fails → AreNotBy s (acted_outlook node a o).fails
  valve_by untouched o h = h
  valve_by (completed k) o h = tt
  valve_by (aborted k) o h = (other, tt)

  recover_by : (t : Tree) (moves : List ℕ) (o : Outlook) → AreNotBy s (recover_outlook t moves o).fails
  recover_by t [] o = tt
  recover_by t (k ∷ moves) o = tt

  head_by : (os : List Outlook) → AllNotBy s os → AreNotBy s (head_of os).fails
  head_by [] h = tt
  head_by (o ∷ os) h = h.0

  second_by : (os : List Outlook) → AllNotBy s os → AreNotBy s (second_of os).fails
  second_by [] h = tt
  second_by (o ∷ os) h = head_by os h.1

  module _ (g : Graph) (w : World) where
    concat_by : (p : Opening) (chain : List ℕ) (o : Outlook) → AreNotBy s o.fails → AreNotBy s (concat_subs (through w.book (chain_of node (steps_of chain g.chains))) node p o).fails
    concat_by p chain o h = subs_by (through w.book (chain_of node (steps_of chain g.chains))) node s p o other h

    merge_by : (p : Opening) (chain : List ℕ) (o : Outlook) → AreNotBy s o.fails → AreNotBy s (merge_subs (through w.book (chain_of node (steps_of chain g.chains))) node p (w.moves node) o).fails
    merge_by p chain o h =
        not_kept s (once_given (through w.book (chain_of node (steps_of chain g.chains))) (length (w.moves node))) (λ e r is. if_left (nat_le e.low (length (w.moves node))) (record { cause = e.cause; low = length (w.moves node) }) r is)
        (fails_of (substreams (through w.book (chain_of node (steps_of chain g.chains))) p) (begin_subs (through w.book (chain_of node (steps_of chain g.chains))) node) o) (subs_by (through w.book (chain_of node (steps_of chain g.chains))) node s p o other h)

    halves_by : (b : Bool) (o : Outlook) → AreNotBy s o.fails → AreNotBy s (if b then left_outlook o else right_outlook o).fails
    halves_by true o h = h
    halves_by false o h = h

    -- a custom stage that tells a list
    custom_told : (name : List ℕ) (d : Decider) (os : List Outlook) (port : ℕ) (b : Bool) → not b ≡ false → AllNotBy s os → AreNotBy s (custom_by g w node name d os port b).fails
    custom_told name d os port true t h = linear_by (told_book w.book) node s d (plugged name []) (plugged name []) (head_of os) other (head_by os h)
    custom_told name d os port false t h = cc

    -- what a node gives blames it, or what came to it, but for a custom stage that tells no list
    pub role_by : (r : Role) (d : Decider) (os : List Outlook) (port : ℕ) → is_untold w.book r ≡ false → AllNotBy s os → AreNotBy s (role_outlook g w node r d os port).fails
    role_by (a_source (reads_lines name)) d os port t h = lines_by (w.file name)
    role_by (a_source (gives_range low high)) d os port t h = tt
    role_by (a_source (gives_nothing b)) d os port t h = tt
    role_by (a_source (gives_failure b)) d os port t h = (other, tt)
    role_by (a_flow (works v)) d os port t h = linear_by w.book node s d v v (head_of os) other (head_by os h)
    role_by (a_flow (trips order name n)) d os port t h = linear_by w.book node s d passing passing (head_of os) other (head_by os h)
    role_by (a_flow (plugs_in name)) d os port t h = linear_by w.book node s d (plugged name []) (plugged name []) (head_of os) other (head_by os h)
    role_by (a_flow (buffers n Backpressure)) d os port t h = not_behind s n (head_of os).fails (head_by os h)
    role_by (a_flow (buffers n DropHead)) d os port t h = buffer_by DropHead n (w.moves node) (head_of os) (head_by os h)
    role_by (a_flow (buffers n DropTail)) d os port t h = buffer_by DropTail n (w.moves node) (head_of os) (head_by os h)
    role_by (a_flow (buffers n DropBuffer)) d os port t h = buffer_by DropBuffer n (w.moves node) (head_of os) (head_by os h)
    role_by (a_flow (buffers n DropNew)) d os port t h = buffer_by DropNew n (w.moves node) (head_of os) (head_by os h)
    role_by (a_flow (buffers n Fail)) d os port t h = buffer_by Fail n (w.moves node) (head_of os) (head_by os h)
    role_by (a_flow (recovers e)) d os port t h = recover_by e (w.moves node) (head_of os)
    role_by (a_flow (obeys name)) d os port t h = valve_by (acted (w.moves node)) (head_of os) (head_by os h)
    role_by (a_flow (groups_by n f chain)) d os port t h = merge_by (by_key n f) chain (head_of os) (head_by os h)
    role_by (a_flow (splits_when p chain joining.Merge)) d os port t h = merge_by (before p) chain (head_of os) (head_by os h)
    role_by (a_flow (splits_when p chain joining.Concat)) d os port t h = concat_by (before p) chain (head_of os) (head_by os h)
    role_by (a_flow (splits_after p chain joining.Merge)) d os port t h = merge_by (sub.behind p) chain (head_of os) (head_by os h)
    role_by (a_flow (splits_after p chain joining.Concat)) d os port t h = concat_by (sub.behind p) chain (head_of os) (head_by os h)
    role_by (a_fan_in (merges n)) d os port t h = merged_by s (w.moves node) 0 os h
    role_by (a_fan_in (gathers n)) d os port t h = tt
    role_by (a_fan_in (concats n)) d os port t h = reached_by s 0 0 (concat_of 0 os) os h
    role_by (a_fan_in (interleaves n k)) d os port t h = reached_by s 0 0 (interleave_of k (turns_of os) k (inlets 0 os)) os h
    role_by (a_fan_in merges_sorted) d os port t h =
        reached_by s 1 0 (sorted_of (head_of os).ends (second_of os).ends (head_of os).list (second_of os).list) (head_of os ∷ second_of os ∷ []) (head_by os h, (second_by os h, tt))
    role_by (a_fan_in zips) d os port t h = paired_by s (length (pairs (head_of os).list (second_of os).list)) (head_of os) (second_of os) (head_by os h) (second_by os h)
    role_by (a_fan_out (broadcasts n)) d os port t h = head_by os h
    role_by (a_fan_out (balances n)) d os port t h =
        not_kept s (at_end_of (length (sent_to port (w.moves node) (head_of os).list)) (length (w.moves node)))
        (λ e r is. if_left (nat_le (e.low - 1) (length (w.moves node))) (record { cause = e.cause; low = length (sent_to port (w.moves node) (head_of os).list) }) r is) (head_of os).fails (head_by os h)
    role_by (a_fan_out (partitions n f)) d os port t h = linear_by w.book node s Stop (numbering n f port) (numbering n f port) (head_of os) other (head_by os h)
    role_by (a_fan_out unzips) d os port t h = halves_by (port == 0) (head_of os) (head_by os h)
    role_by (customs name) d os port t h = custom_told name d os port (w.book.tells name) t h
    role_by (sinks file keeps) d os port t h = linear_by w.book node s d (keeping_work keeps) (keeping_work keeps) (head_of os) other (head_by os h)

-- ---- wires

module _ (g : Graph) (w : World) (rank : ℕ → ℕ) (ranked : IsRanked g rank) (s : ℕ) where
  -- a wire of lower rank than each that goes out of node s
  abbrev Before : ℕ → Type 0
  Before j = (i : ℕ) (x : Edge) → slice_get g.wires i ≡ Some x → x.from ≡ s → rank j < rank i

  received_by : (l : Option ℕ) (o : Outlook) → AreNotBy s o.fails → AreNotBy s (received g w l o).fails
  received_by None o h = h
  received_by (Some n) o h = not_behind s n o.fails h

  -- what comes in at the inputs of a node whose wires are not by s
  comes_by : (node p : ℕ) → ((i : ℕ) (x : Edge) → slice_get g.wires i ≡ Some x → x.to ≡ node → AreNotBy s (composed g w i).fails) → AreNotBy s (incoming g w (composed g w) (find_wire node p g.wires)).fails
  comes_by node p each = by (find_wire node p g.wires) (λ i e. found_first (λ v. v.to) (λ v. v.input) node p g.wires i e)
    where
      by : (o : Option ℕ) → ((i : ℕ) → o ≡ Some i → Found (λ v. v.to) node g.wires i) → AreNotBy s (incoming g w (composed g w) o).fails
      by None f = tt
      by (Some i) f = let r = f i refl in received_by (wire_loss g w (slice_get g.wires i)) (composed g w i) (each i r.wire r.at r.to)

  ports_by_none : (node : ℕ) (ps : List ℕ) → ((i : ℕ) (x : Edge) → slice_get g.wires i ≡ Some x → x.to ≡ node → AreNotBy s (composed g w i).fails) → AllNotBy s (ports_of g w (composed g w) node ps)
  ports_by_none node [] each = tt
  ports_by_none node (p ∷ ps) each = (comes_by node p each, ports_by_none node ps each)

  node_by : (x : Edge) → x.from ≢ s → ((i : ℕ) (y : Edge) → slice_get g.wires i ≡ Some y → y.to ≡ x.from → AreNotBy s (composed g w i).fails) → (n : Option Node) → ((m : Node) → n ≡ Some m → tells_none w.book m.kind ≡ false)
      → AreNotBy s (given_on g w (composed g w) x.from n x.output).fails
  node_by x other each None told = tt
  node_by x other each (Some n) told =
      role_by x.from s other g w (role_of n.kind) n.decider (ports_of g w (composed g w) x.from (count_from 0 (inputs_of n))) x.output (told n refl) (ports_by_none x.from (count_from 0 (inputs_of n)) each)

  sent_by : (o : Option Edge) → ((x : Edge) → o ≡ Some x → AreNotBy s (given_on g w (composed g w) x.from (slice_get g.nodes x.from) x.output).fails) → AreNotBy s (sent_on g w (composed g w) o).fails
  sent_by None each = tt
  sent_by (Some x) each = each x refl

  wire_by : (k j : ℕ) → rank j < k → j < length g.wires → Before j → IsListed g w.book j → AreNotBy s (composed g w j).fails
  wire_by zero j low below first listed = absurd (omega (arith, low))
  wire_by (suc k) j low below first listed =
      subst (λ (o : Outlook). AreNotBy s o.fails) (composed_composes g w rank ranked j below)
      (sent_by (slice_get g.wires j)
      (λ x at.
      node_by x (λ same. let less : rank j < rank j = first j x at same in omega (arith, less))
      (λ i y there to.
      let lower : rank i < rank j = ranked.rises i j y x there at to in
      wire_by k i (omega (arith, lower, low)) (slice_get-below g.wires i y there) (λ l z here is. let more : rank j < rank l = first l z here is in omega (arith, lower, more))
      (λ h. listed (goes_on i j y x there at to h))) (slice_get g.nodes x.from)
      (λ m is. true_or_false (tells_none w.book m.kind) (λ e. listed (begins j x m at is e)))))

  -- so no failure that comes to a node with lists blames it
  pub input_by : HasLists g w.book s → AreNotBy s (incoming g w (composed g w) (find_wire s 0 g.wires)).fails
  input_by lists =
      comes_by s 0
      (λ i x at to. wire_by (suc (rank i)) i (omega arith) (slice_get-below g.wires i x at) (λ l z here is. ranked.rises i l x z at here (to ∙ sym is)) (lists i x at to))
