-- How many elements were sent to a sink, by what it took and the lines that it wrote.
use Rattle.std.proofs.Common.{◌≡◌, ◌≢◌, ℕ, zero, suc, ◌+◌, ◌*◌, ◌%◌, ◌<◌, ◌≤◌, ◌⊎◌, inl, inr, Bool, true, false, List, [], ◌∷◌, ◌++◌, length, refl, sym, ap, subst, ◌∙◌, arith, length-append}
use Rattle.std.proofs.lemmas.Nat.{mod-mul-add}
use Rattle.elem_core.specs.Tree.{Tree}
use Rattle.elem_core.specs.Items.{elements}
use Rattle.elem_core.specs.declared.why.Cause.{Cause}
use Rattle.port_core.specs.Wire.{JointPorts}
use Rattle.port_core.specs.Joint.{IsSound}
use Rattle.port_core.specs.declared.view.InView.{InView}
use Rattle.port_core.specs.declared.view.InView.TheVariants.{Idle, Pulled, Finished, Cancelled}
use Rattle.port_core.specs.declared.view.OutView.{OutView}
use Rattle.stream_model.specs.Outlook.{Outlook, End, ended, failed, Agrees}
use Rattle.stream_model.specs.declared.outcome.EndState.{EndState}
use Rattle.stream_model.specs.declared.outcome.EndState.TheVariants.{Ended, Failed, Unended, WriteFault}
use Rattle.stream_io.specs.State.{DrainState}
use Rattle.stage_core.specs.Held.{told}
use Rattle.stage_core.specs.Law.{TookAs}
use Rattle.nodes.specs.Ports.{OneInOf}
use Rattle.nodes.specs.Sink.{Gathered, Paced, PutOff, sink_port_state_in, SinkStandsAs, end_seen}
use Rattle.nodes.specs.Ignoring.{ignore_port_state_in, EndsWith}
use Rattle.run_laws.specs.Sinks.{WithinRounds, SentTo, IgnoreTells}
use Rattle.run_laws.proofs.Coming.{elements_told, over_same, waiting_few, resting_same, no_fewer}

-- an end that came is known
pub over_of : (i : InView) → TookAs i ended → i ≡ Finished
over_of Finished h = refl
over_of Idle h = cc
over_of Pulled h = cc
over_of Cancelled h = cc

pub over_failed : (i : InView) (c : Cause) → TookAs i (failed c) → i ≡ Finished
over_failed Finished c h = refl
over_failed Idle c h = cc
over_failed Pulled c h = cc
over_failed Cancelled c h = cc

-- nothing is on its way behind it
pub over_few : (c : JointPorts) (q : Bool) → IsSound c q → c.inp ≡ Finished → elements c.sent ≤ elements c.got
over_few c q sound over = let same : elements c.sent ≡ elements c.got = over_same c q sound over in omega (arith, same)

-- what a sink's row says of its input
open_waits : (b : Bool) (i : InView) (outs : List OutView) → OneInOf (sink_port_state_in b Unended) (i ∷ []) outs → i ≡ Pulled
open_waits true Pulled [] r = refl
open_waits true Pulled (y ∷ outs) r = refl
open_waits _ i [] r = absurd r
open_waits _ i (y ∷ outs) r = absurd r

ignore_waits : (b : Bool) (i : InView) (outs : List OutView) → OneInOf (ignore_port_state_in b Unended) (i ∷ []) outs → i ≡ Pulled
ignore_waits true Pulled [] r = refl
ignore_waits true Pulled (y ∷ outs) r = refl
ignore_waits _ i [] r = absurd r
ignore_waits _ i (y ∷ outs) r = absurd r

-- ---- rounds

-- what is behind the full rounds is told by the number
same_over : (room a b x y : ℕ) → a * room + x ≡ b * room + y → x < room → y < room → x ≡ y
same_over room a b x y e few less = sym (mod-mul-add a room x few) ∙ ap (λ (z : ℕ). z % room) e ∙ mod-mul-add b room y less

pub within_same : (room passed n lines : ℕ) → Paced room passed n lines → WithinRounds room lines n
within_same room passed n lines p rounds over is few =
    let lines_are : lines ≡ p.rounds * room + passed = p.lines_are in
    let same : over ≡ passed = same_over room rounds p.rounds over passed (sym is ∙ lines_are) few p.few in
    let behind : lines ≤ n + (passed + 1) = p.behind in
    omega (arith, same, behind)

-- it is so much or less
full_or : (a b : ℕ) → a ≤ b → (a ≡ b) ⊎ (a < b)
full_or zero zero h = inl refl
full_or zero (suc b) h = inr (omega arith)
full_or (suc a) zero h = absurd (omega (arith, h))
full_or (suc a) (suc b) h = elim (full_or a b (omega (arith, h))) [
  | inl e ↦ inl (ap suc e)
  | inr l ↦ inr (omega (arith, l))
]

pub within_next : (room passed n lines : ℕ) → Paced room passed n lines → (passed + 1 ≡ room → lines ≤ n) → WithinRounds room (lines + 1) n
within_next room passed n lines p full rounds over is few =
    let lines_are : lines ≡ p.rounds * room + passed = p.lines_are in
    let behind : lines ≤ n + (passed + 1) = p.behind in
    let less : passed < room = p.few in
    elim (full_or (passed + 1) room (omega (arith, less))) [
      | inl f ↦ let all : lines ≤ n = full f in omega (arith, all)
      | inr m ↦
          let next : lines + 1 ≡ p.rounds * room + (passed + 1) = omega (arith, lines_are) in
          let same : over ≡ passed + 1 = same_over room rounds p.rounds over (passed + 1) (sym is ∙ next) few m in
          omega (arith, same, behind)
    ]

-- a number that is one of two
near_or : (l s : ℕ) → l ≤ s → s ≤ l + 1 → (s ≡ l) ⊎ (s ≡ l + 1)
near_or zero zero a b = inl refl
near_or zero (suc zero) a b = inr refl
near_or zero (suc (suc s)) a b = absurd (omega (arith, b))
near_or (suc l) zero a b = absurd (omega (arith, a))
near_or (suc l) (suc s) a b = elim (near_or l s (omega (arith, a)) (omega (arith, b))) [
  | inl e ↦ inl (ap suc e)
  | inr e ↦ inr (omega (arith, e))
]

module _ (c : JointPorts) (q : Bool) (sound : IsSound c q) (b : Bool) (outs : List OutView) (elems : List Tree) (e : End) (got : c.got ≡ told elems e) (as_seen : TookAs c.inp e) where
  got_count : elements c.got ≡ length elems
  got_count = ap elements got ∙ elements_told elems e

  all_ended : e ≡ ended → elements c.sent ≡ length elems
  all_ended is = over_same c q sound (over_of c.inp (rw is at as_seen)) ∙ got_count

  all_failed : (d : Cause) → e ≡ failed d → elements c.sent ≡ length elems
  all_failed d is = over_same c q sound (over_failed c.inp d (rw is at as_seen)) ∙ got_count

  -- while it waits
  few_more : c.inp ≡ Pulled → (length elems ≤ elements c.sent) × (elements c.sent ≤ length elems + 1)
  few_more w =
      let few : elements c.sent ≤ elements c.got + 1 = waiting_few c q sound w in
      let least : elements c.got ≤ elements c.sent = no_fewer c q sound in
      (omega (arith, least, got_count), omega (arith, few, got_count))

  module _ (old new : DrainState) (y : Gathered) (wrote : List Tree) (n : ℕ) (all : wrote ≡ elems) (paced : Paced y.room y.passed n (length wrote)) where
    wrote_count : length wrote ≡ length elems
    wrote_count = ap length all

    -- all that came and one that is on its way, by what was put off
    within_open : (sent : ℕ) → length wrote ≤ sent → sent ≤ length wrote + 1 → PutOff old new wrote n y → WithinRounds y.room sent n
    within_open sent least most w = elim (near_or (length wrote) sent least most) [
      | inl same ↦ subst (λ (z : ℕ). WithinRounds y.room z n) (sym same) (within_same y.room y.passed n (length wrote) paced)
      | inr more ↦ subst (λ (z : ℕ). WithinRounds y.room z n) (sym more) (within_next y.room y.passed n (length wrote) paced (λ full. put_all full))
    ]
      where
        put_all : y.passed + 1 ≡ y.room → length wrote ≤ n
        put_all full =
            let none : y.late ≡ 0 = w.due full in
            let late : y.late ≡ length w.first.off = w.first.late_is in
            let count : n ≡ length w.first.put = w.first.wrote_all.count in
            let parts : length wrote ≡ length (w.first.put ++ w.first.off) = ap length w.first.wrote_is in
            omega (arith, none, late, count, parts, length-append w.first.put w.first.off)

    pub sent_by : (s : EndState) → (s ≡ WriteFault → (elements c.sent ≤ elements c.got) ⊎ ((y.passed + 1 < y.room) × (elements c.sent ≤ elements c.got + 1))) → (s ≢ WriteFault → e ≡ end_seen s) → OneInOf (sink_port_state_in b s) (c.inp ∷ []) outs → SinkStandsAs s y old new wrote n → SentTo y.room s (elements c.sent) n
    sent_by Ended none is r w = all_ended (is (λ h. cc)) ∙ sym wrote_count ∙ sym w.count
    sent_by (Failed d) none is r w = all_failed d (is (λ h. cc)) ∙ sym wrote_count ∙ sym w.count
    sent_by Unended none is r w =
        let few = few_more (open_waits b c.inp outs r) in
        let same : length wrote ≡ length elems = wrote_count in
        let least = few.0 in
        let most = few.1 in
        let count : n ≡ length w.first.put = w.first.wrote_all.count in
        let parts : length wrote ≡ length (w.first.put ++ w.first.off) = ap length w.first.wrote_is in
        (omega (arith, least, count, parts, same, length-append w.first.put w.first.off), within_open (elements c.sent) (omega (arith, least, same)) (omega (arith, most, same)) w)
    sent_by WriteFault none is r w =
        let least : elements c.got ≤ elements c.sent = no_fewer c q sound in
        let lost : n < length wrote = w.lost in
        let same : length wrote ≡ length elems = wrote_count in
        let fewest : length wrote ≤ elements c.sent = omega (arith, least, got_count, same) in (
          omega (arith, lost, fewest),
          elim (none refl) [
            | inl most ↦
                let sent : elements c.sent ≡ length wrote = omega (arith, least, most, got_count, same) in
                subst (λ (z : ℕ). WithinRounds y.room z n) (sym sent) (within_same y.room y.passed n (length wrote) paced)
            | inr more ↦
                let room = more.0 in
                let most = more.1 in
                elim (near_or (length wrote) (elements c.sent) fewest (omega (arith, most, got_count, same))) [
                  | inl here ↦ subst (λ (z : ℕ). WithinRounds y.room z n) (sym here) (within_same y.room y.passed n (length wrote) paced)
                  | inr next ↦ subst (λ (z : ℕ). WithinRounds y.room z n) (sym next) (within_next y.room y.passed n (length wrote) paced (λ full. absurd (omega (arith, full, room))))
                ]
          ],
        )

    pub rests_by : (s : EndState) → s ≡ Unended → y.late ≡ 0 → q ≡ false → OneInOf (sink_port_state_in b s) (c.inp ∷ []) outs → SinkStandsAs s y old new wrote n → elements c.sent ≡ n
    rests_by Unended is put none r w =
        let late : y.late ≡ length w.first.off = w.first.late_is in
        let count : n ≡ length w.first.put = w.first.wrote_all.count in
        let parts : length wrote ≡ length (w.first.put ++ w.first.off) = ap length w.first.wrote_is in
        let sent : elements c.sent ≡ length wrote = resting_same c q sound none (open_waits b c.inp outs r) ∙ got_count ∙ sym wrote_count in
        omega (arith, put, late, count, parts, sent, length-append w.first.put w.first.off)
    rests_by Ended is put none r w = cc
    rests_by (Failed d) is put none r w = cc
    rests_by WriteFault is put none r w = cc

  -- a sink that keeps nothing
  pub ignored_by : (s : EndState) (o : Outlook) → EndsWith s e → OneInOf (ignore_port_state_in b s) (c.inp ∷ []) outs → Agrees o elems e → IgnoreTells o s (elements c.sent)
  ignored_by Ended o is r a = (elems, (rw is at a, all_ended is))
  ignored_by (Failed d) o is r a = (elems, (rw is at a, all_failed d is))
  ignored_by Unended o is r a = (elems, (rw is at a, few_more (ignore_waits b c.inp outs r)))
  ignored_by WriteFault o is r a = absurd is
