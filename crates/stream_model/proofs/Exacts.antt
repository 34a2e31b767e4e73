-- Failures that lose nothing, from the stage that failed to the sink.
use Rattle.std.specs.Prelude.{slice_get, if◌then◌else◌, ◌==◌, ◌&&◌, ◌+◌, min, nat_le}
use Rattle.std.specs.List.{filter_map, cons_option, take_while}
use Rattle.std.proofs.lemmas.List.{length-map}
use Rattle.std.proofs.Common.{◌≡◌, ℕ, ◌-◌, ◌≤◌, Bool, true, false, not, inl, inr, List, [], ◌∷◌, ◌++◌, length, map, take, Option, None, Some, refl, sym, ap, ◌∙◌, subst, take_all, arith}
use Rattle.elem_core.specs.Text.{lines}
use Rattle.elem_core.specs.Tree.{Tree, text}
use Rattle.elem_core.specs.Values.{left_half, right_half}
use Rattle.elem_core.specs.declared.why.Cause.{Cause}
use Rattle.elem_core.specs.declared.why.Decider.{Decider}
use Rattle.elem_core.specs.declared.why.Decider.TheVariants.{Stop}
use Rattle.elem_core.specs.declared.why.Why.{Why}
use Rattle.elem_core.specs.declared.why.Why.TheVariants.{ReadFault, LineTooLong, BufferOverflow}
use Rattle.stream_model.specs.declared.kind.Policy.TheVariants.{Fail}
use Rattle.elem_core.proofs.Prefixes.{prefix_whole}
use Rattle.stream_model.specs.Composed.{ports_by, inputs_of, count_from, incoming, received, wire_loss, ports_of, given_on, sent_on, composed, sink_outlook, IsRanked}
use Rattle.stream_model.specs.Exact.{ComeLast, LosesNothing, OvertakesNone, hands_on, fails_last, LeadsInto, HandsOver, LeadsTo, BeginsOn, ReachesLast, its_own, by_way}
use Rattle.stream_model.specs.FanOut.{mapped, left_outlook, right_outlook}
use Rattle.stream_model.specs.Graph.{Graph, Node, Edge, find_wire}
use Rattle.stream_model.specs.Lane.{lane_loss}
use Rattle.stream_model.specs.Linear.{Book, Work, Stage, Role, a_source, a_flow, a_fan_out, reads_lines, gives_failure, works, trips, plugs_in, buffers, obeys, broadcasts, balances, partitions, unzips, sinks, holds, numbering, passing, plugged, keeping_work, Keeping, every_one, first_one, last_one, linear, begin_work, role_of, work_of, work_by}
use Rattle.stream_model.specs.Machine.{State, going, done, broken, Run, Finish, adds, refuses, Machine, is_going, run, finish_at, close_at, close, is_ended, input_end, whole, passed, own, output}
use Rattle.stream_model.specs.Node.{World, role_outlook, of_work}
use Rattle.stream_model.specs.Outlook.{Outlook, Entry, failed, Agrees, Allows, behind, lane_outlook}
use Rattle.stream_model.specs.Picks.{sent_to, at_end_of, balance_outlook, Buffered, buffered, empty_buffer, nothing_held, once_came, Acted, untouched, completed, aborted, acted, acted_outlook}
use Rattle.stream_model.specs.Sources.{File, short, whole_lines, file_fails, lines_outlook}
use Rattle.stream_model.specs.Listed.{goes_on, Unlisted, HasLists}
use Rattle.stream_model.proofs.Blaming.{AreNotBy, not_kept, if_left, input_by}
use Rattle.stream_model.proofs.Compositions.{found_first, composed_composes, slice_get-below}

-- ---- what it says of a list that failed

allowed_last : (c : Cause) (ends : Bool) (n : ℕ) (es : List Entry) (k : ℕ) → ComeLast c ends n es → Allows es c k → n ≤ k
allowed_last c ends n [] k h a = absurd a
allowed_last c ends n (e ∷ es) k h a = elim a [
  | inl here ↦ (let least = (h.0 here.0).1 in let less = here.1 in omega (arith, least, less))
  | inr later ↦ allowed_last c ends n es k h.1 later
]

-- it is the whole list
pub failed_whole : (c : Cause) (o : Outlook) (l : List Tree) → LosesNothing c o → Agrees o l (failed c) → l ≡ o.list
failed_whole c o l h a = prefix_whole a.0 (allowed_last c o.ends (length o.list) o.fails (length l) h a.1)

-- ---- entries

come_both : (c : Cause) (ends : Bool) (n : ℕ) (xs ys : List Entry) → ComeLast c ends n xs → ComeLast c ends n ys → ComeLast c ends n (xs ++ ys)
come_both c ends n [] ys h k = k
come_both c ends n (x ∷ xs) ys h k = (h.0, come_both c ends n xs ys h.1 k)

come_others : (c : Cause) (ends : Bool) (n : ℕ) (es : List Entry) → AreNotBy c.stage es → ComeLast c ends n es
come_others c ends n [] h = tt
come_others c ends n (e ∷ es) h = ((λ same. absurd (h.0 (ap (λ (d : Cause). d.stage) same))), come_others c ends n es h.1)

come_same : (c : Cause) (ends : Bool) (n k : ℕ) (es : List Entry) → k ≡ n → ComeLast c ends n es → ComeLast c ends k es
come_same c ends n k es is h = rw is h

-- ---- wires

behind_none : (c : Cause) (ends : Bool) (n : ℕ) (es : List Entry) → ComeLast c ends n es → ComeLast c ends n (map (behind 0) es)
behind_none c ends n [] h = tt
behind_none c ends n (e ∷ es) h = ((λ same. let k = h.0 same in let least = k.1 in (k.0, omega (arith, least))), behind_none c ends n es h.1)

lane_last : (c : Cause) (s : ℕ) (o : Outlook) → s ≡ 0 → LosesNothing c o → LosesNothing c (lane_outlook s o)
lane_last c s o none h = rw none (behind_none c o.ends (length o.list) o.fails h)

wire_last : (g : Graph) (w : World) (c : Cause) (l : Option ℕ) (o : Outlook) → OvertakesNone l → LosesNothing c o → LosesNothing c (received g w l o)
wire_last g w c None o none h = h
wire_last g w c (Some s) o none h = lane_last c s o none h

-- ---- machines

module _ {S : Type 0} (m : Machine S Tree) (start : Run S Tree) (c : Cause) (early : m.early ≡ 0) where
  module _ (l : List Tree) where
    -- its own failure comes behind all that the run gave
    low_whole : length (run m start l).gave ≤ length (run m start (if is_going (run m start l).state then take (length l - m.early) l else l)).gave
    low_whole = by (is_going (run m start l).state)
      where
        by : (b : Bool) → length (run m start l).gave ≤ length (run m start (if b then take (length l - m.early) l else l)).gave
        by true =
            let all : take (length l - m.early) l ≡ l = take_all (length l - m.early) l (let none = early in omega (arith, none)) in
            let same : length (run m start (take (length l - m.early) l)).gave ≡ length (run m start l).gave = ap (λ (k : List Tree). length (run m start k).gave) all in
            omega (arith, same)
        by false = omega arith

    own_last : (b : Bool) → ComeLast c (is_ended (close m (run m start l) (input_end b)).end) (length (close m (run m start l) (input_end b)).list) (own m start l (close m (run m start l) (input_end b)).end)
    own_last b = by (run m start l).state b
      where
        fin : (f : Finish Tree) → ComeLast c (is_ended (finish_at m (run m start l).gave f).end) (length (finish_at m (run m start l).gave f).list) (own m start l (finish_at m (run m start l).gave f).end)
        fin (adds o) = tt
        fin (refuses d) = ((λ same. (refl, low_whole)), tt)

        by : (st : State S) (b : Bool) → ComeLast c (is_ended (close_at m (run m start l).gave st (input_end b)).end) (length (close_at m (run m start l).gave st (input_end b)).list) (own m start l (close_at m (run m start l).gave st (input_end b)).end)
        by done b = tt
        by (broken d) b = ((λ same. (refl, low_whole)), tt)
        by (going s) true = fin (m.finish s)
        by (going s) false = tt

  -- where the input has no such failure, the stage's own comes last
  own_failure : (o : Outlook) → AreNotBy c.stage o.fails → LosesNothing c (output m start o)
  own_failure o others =
      come_both c (is_ended (whole m start o).end) (length (whole m start o).list) (own m start o.list (whole m start o).end) (filter_map (passed m start o.list) o.fails) (own_last o.list o.ends)
      (come_others c (is_ended (whole m start o).end) (length (whole m start o).list) (filter_map (passed m start o.list) o.fails) (still o.fails others))
    where
      still : (es : List Entry) → AreNotBy c.stage es → AreNotBy c.stage (filter_map (passed m start o.list) es)
      still [] h = tt
      still (e ∷ es) h = by (still es h.1) (is_going (run m start (take (e.low - m.hold) o.list)).state)
        where
          by : AreNotBy c.stage (filter_map (passed m start o.list) es) → (b : Bool) → AreNotBy c.stage (cons_option (if b then Some (record { cause = e.cause; low = length (run m start (take (e.low - m.hold) o.list)).gave }) else None) (filter_map (passed m start o.list) es))
          by rest true = (h.0, rest)
          by rest false = rest

  -- and what came last on its input comes last on its output
  handed_failure : (o : Outlook) → m.hold ≡ 0 → LosesNothing c o → LosesNothing c (output m start o)
  handed_failure o none h =
      come_both c (is_ended (whole m start o).end) (length (whole m start o).list) (own m start o.list (whole m start o).end) (filter_map (passed m start o.list) o.fails) (own_last o.list o.ends) (passed_last o.fails h)
    where
      goes : (st : State S) (b : Bool) → is_going st ≡ true → b ≡ false
          → (is_ended (close_at m (run m start o.list).gave st (input_end b)).end ≡ false) × (length (close_at m (run m start o.list).gave st (input_end b)).list ≤ length (run m start o.list).gave)
      goes (going s) false is still_open = (refl, omega arith)
      goes (going s) true is still_open = absurd cc
      goes done b is still_open = absurd cc
      goes (broken d) b is still_open = absurd cc

      here : (e : Entry) → (o.ends ≡ false) × (length o.list ≤ e.low) → is_going (run m start (take (e.low - m.hold) o.list)).state ≡ true
          → (is_ended (whole m start o).end ≡ false) × (length (whole m start o).list ≤ length (run m start (take (e.low - m.hold) o.list)).gave)
      here e last is =
          let enough = last.1 in
          let all : take (e.low - m.hold) o.list ≡ o.list = take_all (e.low - m.hold) o.list (omega (arith, none, enough)) in
          let on : is_going (run m start o.list).state ≡ true = subst (λ (k : List Tree). is_going (run m start k).state ≡ true) all is in
          let ends = goes (run m start o.list).state o.ends on last.0 in
          let most = ends.1 in
          let same : length (run m start (take (e.low - m.hold) o.list)).gave ≡ length (run m start o.list).gave = ap (λ (k : List Tree). length (run m start k).gave) all in
          (ends.0, omega (arith, most, same))

      passed_last : (es : List Entry) → ComeLast c o.ends (length o.list) es → ComeLast c (is_ended (whole m start o).end) (length (whole m start o).list) (filter_map (passed m start o.list) es)
      passed_last [] h = tt
      passed_last (e ∷ es) h = by (passed_last es h.1) (is_going (run m start (take (e.low - m.hold) o.list)).state) refl
        where
          by : ComeLast c (is_ended (whole m start o).end) (length (whole m start o).list) (filter_map (passed m start o.list) es) → (b : Bool) → is_going (run m start (take (e.low - m.hold) o.list)).state ≡ b
              → ComeLast c (is_ended (whole m start o).end) (length (whole m start o).list) (cons_option (if b then Some (record { cause = e.cause; low = length (run m start (take (e.low - m.hold) o.list)).gave }) else None) (filter_map (passed m start o.list) es))
          by rest true is = ((λ same. here e (h.0 same) is), rest)
          by rest false is = rest

-- ---- nodes

too_long : (name : List ℕ) (y : Why) → fails_last (a_source (reads_lines name)) y ≡ true → y ≡ LineTooLong
too_long name LineTooLong h = refl
too_long name _ h = absurd cc

-- the failure of a source at a line that is too long, and not the one by a read
module _ (c : Cause) (node : ℕ) (f : File) (is : c.why ≡ LineTooLong) where
  abbrev good : List (List ℕ)
  good = take_while short (lines f.bytes)

  abbrev all_short : Bool
  all_short = length good == length (lines f.bytes)

  line_last : (b : Bool) → all_short ≡ b → ComeLast c all_short (length (map text good)) (if b then [] else record { cause = record { stage = node; nth = length good + 1; why = LineTooLong }; low = length good } ∷ [])
  line_last true e = tt
  line_last false e = ((λ same. (e, let many = length-map good text in omega (arith, many))), tt)

  no_read : (n : ℕ) (b : Bool) → ComeLast c all_short n (if b then record { cause = record { stage = node; nth = 0; why = ReadFault }; low = min (length good) (whole_lines f.read f.bytes) } ∷ [] else [])
  no_read n false = tt
  no_read n true = ((λ same. let other : ReadFault ≡ LineTooLong = ap (λ (x : Cause). x.why) same ∙ is in absurd cc), tt)

  lines_last : LosesNothing c (lines_outlook node f)
  lines_last =
      come_both c all_short (length (map text good)) (if all_short then [] else record { cause = record { stage = node; nth = length good + 1; why = LineTooLong }; low = length good } ∷ []) (file_fails node f (length good)) (line_last all_short refl)
      (no_read (length (map text good)) f.faulted)

none_ends : (a b d : Bool) → a && b && d && not true ≡ false
none_ends true true true = refl
none_ends true true false = refl
none_ends true false true = refl
none_ends true false false = refl
none_ends false true true = refl
none_ends false true false = refl
none_ends false false true = refl
none_ends false false false = refl

-- a buffer that overflowed failed behind what it gave
overflow_last : (c : Cause) (b : Buffered) (node : ℕ) (o : Outlook) → AreNotBy c.stage o.fails
    → ComeLast c (o.ends && (b.came == length o.list) && nothing_held b.held && not b.overflowed) (length b.gave)
    (if b.overflowed then record { cause = record { stage = node; nth = b.came; why = BufferOverflow }; low = length b.gave } ∷ [] else filter_map (once_came (length b.gave) b.came) o.fails)
overflow_last c b node o h = by b.overflowed
  where
    by : (x : Bool)
        → ComeLast c (o.ends && (b.came == length o.list) && nothing_held b.held && not x) (length b.gave)
        (if x then record { cause = record { stage = node; nth = b.came; why = BufferOverflow }; low = length b.gave } ∷ [] else filter_map (once_came (length b.gave) b.came) o.fails)
    by true = ((λ same. (none_ends o.ends (b.came == length o.list) (nothing_held b.held), omega arith)), tt)
    by false =
        come_others c (o.ends && (b.came == length o.list) && nothing_held b.held && not false) (length b.gave) (filter_map (once_came (length b.gave) b.came) o.fails)
        (not_kept c.stage (once_came (length b.gave) b.came) (λ e r is. if_left (nat_le e.low b.came) (record { cause = e.cause; low = length b.gave }) r is) o.fails h)

-- a valve that was aborted failed behind what it passed on, and one that did nothing hands a failure on as it came
valve_last : (c : Cause) (node : ℕ) (a : Acted) (o : Outlook) → LosesNothing c o → LosesNothing c (acted_outlook node a o)
valve_last c node untouched o h = h
valve_last c node (completed k) o h = tt
valve_last c node (aborted k) o h = ((λ same. (refl, omega arith)), tt)

-- a failure comes to each output of a balance behind all that went there
balance_last : (c : Cause) (ends b : Bool) (k n g : ℕ) (es : List Entry) → ComeLast c ends k es → ComeLast c (ends && b) n (filter_map (at_end_of n g) es)
balance_last c ends b k n g [] h = tt
balance_last c ends b k n g (e ∷ es) h = by (balance_last c ends b k n g es h.1) (nat_le (e.low - 1) g)
  where
    by : ComeLast c (ends && b) n (filter_map (at_end_of n g) es) → (x : Bool)
        → ComeLast c (ends && b) n (cons_option (if x then Some (record { cause = e.cause; low = n }) else None) (filter_map (at_end_of n g) es))
    by rest true = ((λ same. (ap (λ (y : Bool). y && b) (h.0 same).0, omega arith)), rest)
    by rest false = rest

half_last : (c : Cause) (f : Tree → Tree) (o : Outlook) → LosesNothing c o → LosesNothing c (mapped f o)
half_last c f o h = come_same c o.ends (length o.list) (length (map f o.list)) o.fails (length-map o.list f) h

linear_last : (b : Book) (c : Cause) (v : Work) (start : Run Stage Tree) (o : Outlook) → holds v ≡ false → LosesNothing c o → LosesNothing c (output (linear b v) start o)
linear_last b c v start o none h = handed_failure (linear b v) start c refl o (ap (λ (x : Bool). if x then 1 else 0) none) h

not_held : (b : Bool) → not b ≡ true → b ≡ false
not_held false h = refl
not_held true h = cc

kept_not : (k : Keeping) → holds (keeping_work k) ≡ false
kept_not every_one = refl
kept_not first_one = refl
kept_not last_one = refl

module _ (g : Graph) (w : World) (c : Cause) where
  role_last : (head : ℕ × ℕ) (node : ℕ) (r : Role) (d : Decider) (sent : ℕ → Outlook) (port : ℕ) → hands_on r ≡ true → LosesNothing c (incoming g w sent (find_wire node 0 g.wires))
      → LosesNothing c (role_outlook g w node r d (ports_of g w sent node (count_from 0 (ports_by head r).0)) port)
  role_last head node (a_flow (works v)) d sent port is h = linear_last w.book c v (begin_work node d v) (incoming g w sent (find_wire node 0 g.wires)) (not_held (holds v) is) h
  role_last head node (a_flow (trips order name n)) d sent port is h = linear_last w.book c passing (begin_work node d passing) (incoming g w sent (find_wire node 0 g.wires)) refl h
  role_last head node (a_flow (obeys name)) d sent port is h = valve_last c node (acted (w.moves node)) (incoming g w sent (find_wire node 0 g.wires)) h
  role_last head node (a_fan_out (broadcasts n)) d sent port is h = h
  role_last head node (a_fan_out (balances n)) d sent port is h = sent_last (incoming g w sent (find_wire node 0 g.wires)) h
    where
      sent_last : (o : Outlook) → LosesNothing c o → LosesNothing c (balance_outlook (w.moves node) o port)
      sent_last o h =
          balance_last c o.ends (length (w.moves node) == length o.list) (length o.list) (length (sent_to port (w.moves node) o.list)) (length (w.moves node)) o.fails h
  role_last head node (a_fan_out unzips) d sent port is h = by (port == 0)
    where
      by : (b : Bool) → LosesNothing c (if b then left_outlook (incoming g w sent (find_wire node 0 g.wires)) else right_outlook (incoming g w sent (find_wire node 0 g.wires)))
      by true = half_last c left_half (incoming g w sent (find_wire node 0 g.wires)) h
      by false = half_last c right_half (incoming g w sent (find_wire node 0 g.wires)) h
  role_last head node (sinks file keeps) d sent port is h = linear_last w.book c (keeping_work keeps) (begin_work node d (keeping_work keeps)) (incoming g w sent (find_wire node 0 g.wires)) (kept_not keeps) h
  role_last head node _ d sent port is h = absurd cc

  -- what a stage fails with by its own doing comes last on its output
  role_fails : (head : ℕ × ℕ) (node : ℕ) (r : Role) (d : Decider) (sent : ℕ → Outlook) (port : ℕ) → fails_last r c.why ≡ true → AreNotBy c.stage (incoming g w sent (find_wire node 0 g.wires)).fails
      → LosesNothing c (role_outlook g w node r d (ports_of g w sent node (count_from 0 (ports_by head r).0)) port)
  role_fails head node (a_source (reads_lines name)) d sent port is h = lines_last c node (w.file name) (too_long name c.why is)
  role_fails head node (a_source (gives_failure b)) d sent port is h = ((λ same. (refl, omega arith)), tt)
  role_fails head node (a_flow (works v)) d sent port is h = own_failure (linear w.book v) (begin_work node d v) c refl (incoming g w sent (find_wire node 0 g.wires)) h
  role_fails head node (a_flow (trips order name n)) d sent port is h = own_failure (linear w.book passing) (begin_work node d passing) c refl (incoming g w sent (find_wire node 0 g.wires)) h
  role_fails head node (a_flow (plugs_in name)) d sent port is h = own_failure (linear w.book (plugged name [])) (begin_work node d (plugged name [])) c refl (incoming g w sent (find_wire node 0 g.wires)) h
  role_fails head node (a_flow (buffers n Fail)) d sent port is h = overflow_last c (buffered Fail n (w.moves node) (incoming g w sent (find_wire node 0 g.wires)).list empty_buffer) node (incoming g w sent (find_wire node 0 g.wires)) h
  role_fails head node (a_flow (obeys name)) d sent port is h =
      valve_last c node (acted (w.moves node)) (incoming g w sent (find_wire node 0 g.wires))
      (come_others c (incoming g w sent (find_wire node 0 g.wires)).ends (length (incoming g w sent (find_wire node 0 g.wires)).list) (incoming g w sent (find_wire node 0 g.wires)).fails h)
  role_fails head node (a_fan_out (partitions n f)) d sent port is h = own_failure (linear w.book (numbering n f port)) (begin_work node Stop (numbering n f port)) c refl (incoming g w sent (find_wire node 0 g.wires)) h
  role_fails head node (sinks file keeps) d sent port is h = own_failure (linear w.book (keeping_work keeps)) (begin_work node d (keeping_work keeps)) c refl (incoming g w sent (find_wire node 0 g.wires)) h
  role_fails head node _ d sent port is h = absurd cc

  module _ (rank : ℕ → ℕ) (ranked : IsRanked g rank) where
    on_wire : (j : ℕ) (x : Edge) (n : Node) → slice_get g.wires j ≡ Some x → slice_get g.nodes x.from ≡ Some n
        → LosesNothing c (role_outlook g w x.from (role_of n.kind) n.decider (ports_of g w (composed g w) x.from (count_from 0 (inputs_of n))) x.output) → LosesNothing c (composed g w j)
    on_wire j x n there node h =
        subst (λ (o : Outlook). LosesNothing c o) (composed_composes g w rank ranked j (slice_get-below g.wires j x there))
        (subst (λ (y : Option Edge). LosesNothing c (sent_on g w (composed g w) y)) (sym there)
        (subst (λ (y : Option Node). LosesNothing c (given_on g w (composed g w) x.from y x.output)) (sym node) h))

    -- what comes to the node that the cause names has no failure with that cause
    comes_not : (node : ℕ) → node ≡ c.stage → HasLists g w.book node → AreNotBy c.stage (incoming g w (composed g w) (find_wire node 0 g.wires)).fails
    comes_not node is lists = subst (λ (s : ℕ). AreNotBy s (incoming g w (composed g w) (find_wire node 0 g.wires)).fails) is (input_by g w rank ranked node lists)

    wire_begins : (u : ℕ) (b : BeginsOn g c u) → HasLists g w.book b.wire.from → LosesNothing c (composed g w u)
    wire_begins u b lists = on_wire u b.wire b.node b.at b.from (role_fails b.node.head b.wire.from (role_of b.node.kind) b.node.decider (composed g w) b.wire.output b.last (comes_not b.wire.from b.named lists))

    -- what comes in by a wire on which a failure overtakes nothing
    comes_last : (u node : ℕ) → LeadsInto g u node → LosesNothing c (composed g w u) → LosesNothing c (incoming g w (composed g w) (find_wire node 0 g.wires))
    comes_last u node x h =
        subst (λ (y : Option ℕ). LosesNothing c (incoming g w (composed g w) y)) (sym x.into)
        (subst (λ (y : Option Edge). LosesNothing c (received g w (wire_loss g w y) (composed g w u))) (sym x.at) (wire_last g w c (lane_loss x.wire.keep x.wire.lane) (composed g w u) x.keeps h))

    -- from one wire to the next, and so on along a way
    goes_last : (u j : ℕ) → HandsOver g u j → LosesNothing c (composed g w u) → LosesNothing c (composed g w j)
    goes_last u j x h = on_wire j x.wire x.node x.at x.from (role_last x.node.head x.wire.from (role_of x.node.kind) x.node.decider (composed g w) x.wire.output x.hands (comes_last u x.wire.from x.comes h))

    way_last : (u : ℕ) (js : List ℕ) (node : ℕ) → LeadsTo g u js node → LosesNothing c (composed g w u) → LosesNothing c (incoming g w (composed g w) (find_wire node 0 g.wires))
    way_last u [] node x h = comes_last u node x h
    way_last u (j ∷ js) node x h = way_last j js node x.1 (goes_last u j x.0 h)

    -- no way leads to a node with lists from a wire that has none
    leads_unlisted : (u : ℕ) (js : List ℕ) (k : ℕ) → LeadsTo g u js k → HasLists g w.book k → Unlisted g w.book u → ⊥
    leads_unlisted u [] k x lists h = let r = found_first (λ v. v.to) (λ v. v.input) k 0 g.wires u x.into in lists u r.wire r.at r.to h
    leads_unlisted u (j ∷ js) k x lists h =
        let r = found_first (λ v. v.to) (λ v. v.input) x.0.wire.from 0 g.wires u x.0.comes.into in
        leads_unlisted j js k x.1 lists (goes_on u j r.wire x.0.wire r.at x.0.at r.to h)

    -- a sink is the machine of what it keeps
    at_sink : (k : ℕ) (n : Node) (file : Option (List ℕ)) (keeps : Keeping) → role_of n.kind ≡ sinks file keeps
        → LosesNothing c (of_work w.book k n.decider (Some (keeping_work keeps)) (ports_of g w (composed g w) k (count_from 0 1))) → LosesNothing c (sink_outlook g w k n)
    at_sink k n file keeps role h =
        let work : work_of n.kind ≡ Some (keeping_work keeps) = ap work_by role in
        subst (λ (y : Option Work). LosesNothing c (of_work w.book k n.decider y (ports_of g w (composed g w) k (count_from 0 1)))) (sym work) h

    reaches_here : (k : ℕ) (n : Node) (file : Option (List ℕ)) (keeps : Keeping) → role_of n.kind ≡ sinks file keeps → HasLists g w.book k → ReachesLast g c k n → LosesNothing c (sink_outlook g w k n)
    reaches_here k n file keeps role lists (its_own named last) =
        at_sink k n file keeps role (own_failure (linear w.book (keeping_work keeps)) (begin_work k n.decider (keeping_work keeps)) c refl (incoming g w (composed g w) (find_wire k 0 g.wires)) (comes_not k named lists))
    reaches_here k n file keeps role lists (by_way u js begun leads) =
        at_sink k n file keeps role
        (linear_last w.book c (keeping_work keeps) (begin_work k n.decider (keeping_work keeps)) (incoming g w (composed g w) (find_wire k 0 g.wires)) (kept_not keeps) (way_last u js k leads (wire_begins u begun (λ i v at to h. leads_unlisted u js k leads lists (goes_on i u v begun.wire at begun.at to h)))))

pub reaches_last : (g : Graph) (w : World) (c : Cause) (rank : ℕ → ℕ) → IsRanked g rank → (k : ℕ) (n : Node) (file : Option (List ℕ)) (keeps : Keeping) → role_of n.kind ≡ sinks file keeps
    → HasLists g w.book k → ReachesLast g c k n → LosesNothing c (sink_outlook g w k n)
reaches_last g w c rank ranked k n file keeps role lists reaches = reaches_here g w c rank ranked k n file keeps role lists reaches
