-- How sinks stand, and what the tests of a status say of them.
use Rattle.std.proofs.Common.{◌≡◌, ℕ, zero, suc, ◌+◌, Bool, true, false, List, [], ◌∷◌, ◌++◌, refl, sym, ap, ◌∙◌, arith, length, map, slice_get}
use Rattle.std.specs.Prelude.{Some, ◌||◌, ◌&&◌, if◌then◌else◌}
use Rattle.std.specs.List.{list_any, filter}
use Rattle.std.proofs.lemmas.List.{append_assoc, length-map}
use Rattle.stream_model.specs.declared.outcome.EndState.{EndState}
use Rattle.stream_model.specs.declared.outcome.EndState.TheVariants as state
use Rattle.stream_model.specs.declared.blueprint.Node.{Node}
use Rattle.blue_check.specs.Fitness.{node_name}
use Rattle.materializer.specs.Files.{is_sink, sinks_of_nodes}
use Rattle.run_blueprint.specs.Stands.{SinkStand, sink_places, is_write_fault, is_unended, is_failed}
use Rattle.run_report.specs.declared.outcome.SinkEnd.{SinkEnd}
use Rattle.stream_command.specs.AfterRun.{sink_ends, told_end, told_ends, is_ended, all_ended, some_failed, some_unended, some_fault}

at_name : (front back : List Node) (n : Node) → slice_get (front ++ n ∷ back) (length front) ≡ Some n
at_name [] back n = refl
at_name (x ∷ xs) back n = at_name xs back n

-- the names of the sinks and their stands tell of the same as the stands alone
ends_by : (b : Bool) (all : List Node) (k : ℕ) (n : Node) (ns : List Node) (stands : List SinkStand) → slice_get all k ≡ Some n
    → ((later : List SinkStand) → map (λ (s : SinkStand). s.0) later ≡ sink_places (k + 1) ns → sink_ends (map (λ (m : Node). m.name) (filter is_sink ns)) later ≡ told_ends all later)
    → map (λ (s : SinkStand). s.0) stands ≡ (if b then k ∷ sink_places (k + 1) ns else sink_places (k + 1) ns)
    → sink_ends (map (λ (m : Node). m.name) (if b then n ∷ filter is_sink ns else filter is_sink ns)) stands ≡ told_ends all stands
ends_by false all k n ns stands at later e = later stands e
ends_by true all k n ns [] at later e = absurd cc
ends_by true all k n ns (s ∷ ss) at later e =
    let place : s.0 ≡ k = cc in
    let rest : map (λ (x : SinkStand). x.0) ss ≡ sink_places (k + 1) ns = cc in
    let name : node_name (slice_get all s.0) ≡ n.name = ap (λ (i : ℕ). node_name (slice_get all i)) place ∙ ap node_name at in
    ap (λ (x : List ℕ). record { name = x; count = s.1; end = s.2 } ∷ sink_ends (map (λ (m : Node). m.name) (filter is_sink ns)) ss) (sym name)
    ∙ ap (λ (l : List SinkEnd). told_end all s ∷ l) (later ss rest)

length_push_back : (xs : List Node) (x : Node) → length xs + 1 ≡ length (xs ++ x ∷ [])
length_push_back [] x = refl
length_push_back (y ∷ ys) x = let h : length ys + 1 ≡ length (ys ++ x ∷ []) = length_push_back ys x in omega (arith, h)

ends_along : (all front back : List Node) (stands : List SinkStand) → all ≡ front ++ back → map (λ (s : SinkStand). s.0) stands ≡ sink_places (length front) back → sink_ends (map (λ (m : Node). m.name) (filter is_sink back)) stands ≡ told_ends all stands
ends_along all front [] [] is e = refl
ends_along all front [] (s ∷ ss) is e = absurd cc
ends_along all front (n ∷ ns) stands is e =
    ends_by (is_sink n) all (length front) n ns stands (ap (λ (l : List Node). slice_get l (length front)) is ∙ at_name front ns n)
    (λ later le. ends_along all (front ++ n ∷ []) ns later (is ∙ sym (append_assoc front (n ∷ []) ns)) (le ∙ ap (λ (i : ℕ). sink_places i ns) (length_push_back front n)))
    e

pub ends_told : (nodes : List Node) (stands : List SinkStand) → map (λ (s : SinkStand). s.0) stands ≡ sink_places 0 nodes → sink_ends (sinks_of_nodes nodes) stands ≡ told_ends nodes stands
ends_told nodes stands e = ends_along nodes [] nodes stands refl e

-- there are as many of them
places_by : (b : Bool) (k : ℕ) (n : Node) (ns : List Node) → length (sink_places (k + 1) ns) ≡ length (sinks_of_nodes ns)
    → length (if b then k ∷ sink_places (k + 1) ns else sink_places (k + 1) ns) ≡ length (map (λ (m : Node). m.name) (if b then n ∷ filter is_sink ns else filter is_sink ns))
places_by true k n ns e = omega (arith, e)
places_by false k n ns e = e

places_count : (k : ℕ) (nodes : List Node) → length (sink_places k nodes) ≡ length (sinks_of_nodes nodes)
places_count k [] = refl
places_count k (n ∷ ns) = places_by (is_sink n) k n ns (places_count (k + 1) ns)

pub as_many_stands : (nodes : List Node) (stands : List SinkStand) → map (λ (s : SinkStand). s.0) stands ≡ sink_places 0 nodes → length (sinks_of_nodes nodes) ≡ length stands
as_many_stands nodes stands e = sym (places_count 0 nodes) ∙ ap length (sym e) ∙ length-map stands (λ (s : SinkStand). s.0)

-- a test of the ends is one of the stands
pub any_told : (test : EndState → Bool) (nodes : List Node) (stands : List SinkStand) → list_any (λ (s : SinkEnd). test s.end) (told_ends nodes stands) ≡ list_any (λ (s : SinkStand). test s.2) stands
any_told test nodes [] = refl
any_told test nodes (s ∷ ss) = ap (λ (b : Bool). test s.2 || b) (any_told test nodes ss)

-- where no sink stands otherwise, every sink has ended
ended_one : (e : EndState) (b c d : Bool) → is_write_fault e || b ≡ false → is_unended e || c ≡ false → is_failed e || d ≡ false → (is_ended e ≡ true) × ((b ≡ false) × ((c ≡ false) × (d ≡ false)))
ended_one state.Ended b c d p q r = (refl, (p, (q, r)))
ended_one (state.Failed x) b c d p q r = absurd cc
ended_one state.Unended b c d p q r = absurd cc
ended_one state.WriteFault b c d p q r = absurd cc

and_true : (a b : Bool) → a ≡ true → b ≡ true → a && b ≡ true
and_true true b e f = f
and_true false b e f = absurd cc

pub all_done : (sinks : List SinkEnd) → some_fault sinks ≡ false → some_unended sinks ≡ false → some_failed sinks ≡ false → all_ended sinks ≡ true
all_done [] p q r = refl
all_done (s ∷ ss) p q r =
    let h = ended_one s.end (some_fault ss) (some_unended ss) (some_failed ss) p q r in
    and_true (is_ended s.end) (all_ended ss) h.0 (all_done ss h.1.0 h.1.1.0 h.1.1.1)

-- some sink stands at a failed write
fault_by : (s : SinkStand) (ss : List SinkStand) (how : EndState) → s.2 ≡ how → is_write_fault how || list_any (λ (x : SinkStand). is_write_fault x.2) ss ≡ true → (list_any (λ (x : SinkStand). is_write_fault x.2) ss ≡ true → (i : ℕ) × ((x : SinkStand) × ((slice_get ss i ≡ Some x) × (x.2 ≡ state.WriteFault))))
    → (i : ℕ) × ((x : SinkStand) × ((slice_get (s ∷ ss) i ≡ Some x) × (x.2 ≡ state.WriteFault)))
fault_by s ss state.WriteFault is e later = (0, (s, (refl, is)))
fault_by s ss state.Ended is e later = let h = later e in (suc h.0, h.1)
fault_by s ss (state.Failed c) is e later = let h = later e in (suc h.0, h.1)
fault_by s ss state.Unended is e later = let h = later e in (suc h.0, h.1)

pub fault_at : (stands : List SinkStand) → list_any (λ (s : SinkStand). is_write_fault s.2) stands ≡ true → (i : ℕ) × ((s : SinkStand) × ((slice_get stands i ≡ Some s) × (s.2 ≡ state.WriteFault)))
fault_at [] e = absurd cc
fault_at (s ∷ ss) e = fault_by s ss s.2 refl e (fault_at ss)

-- a stand without a failed write did not raise its count
pub or_left : (a b : Bool) → a || b ≡ false → a ≡ false
or_left true b e = absurd cc
or_left false b e = refl

pub or_right : (a b : Bool) → a || b ≡ false → b ≡ false
or_right true b e = absurd cc
or_right false b e = e

pub no_fault_at : (stands : List SinkStand) (i : ℕ) (s : SinkStand) → list_any (λ (x : SinkStand). is_write_fault x.2) stands ≡ false → slice_get stands i ≡ Some s → is_write_fault s.2 ≡ false
no_fault_at [] i s e at = absurd cc
no_fault_at (x ∷ xs) zero s e at = let same : x ≡ s = cc in ap (λ (t : SinkStand). is_write_fault t.2) (sym same) ∙ or_left (is_write_fault x.2) (list_any (λ (t : SinkStand). is_write_fault t.2) xs) e
no_fault_at (x ∷ xs) (suc i) s e at = no_fault_at xs i s (or_right (is_write_fault x.2) (list_any (λ (t : SinkStand). is_write_fault t.2) xs) e) at
