-- What an input boundary keeps as it hands on, while others act, and while its island runs.
use Rattle.std.specs.Prelude.{◌⊎◌, Option}
use Rattle.std.proofs.Common.{◌≡◌, ◌≢◌, inl, inr, ℕ, ◌+◌, ◌*◌, ◌/◌, ◌<◌, ◌≤◌, max, Bool, true, false, cond, List, [], ◌∷◌, ◌++◌, length, refl, sym, ap, ◌∙◌, subst, arith, get_or-set_same}
use Rattle.elem_core.specs.Items.{elements}
use Rattle.elem_core.specs.declared.item.Item.{Item}
use Rattle.elem_core.specs.declared.item.Item.TheVariants as item
use Rattle.elem_core.specs.declared.why.Cause.{Cause}
use Rattle.elem_core.specs.declared.count.TheConstants.{MOST_COUNT}
use Rattle.stream_io.specs.State.{SourceState, DrainState}
use Rattle.stream_model.specs.Outlook.{unended}
use Rattle.stream_model.specs.Linear.{Book}
use Rattle.stage_core.specs.Held.{told}
use Rattle.port_core.specs.Decoding.{can_push}
use Rattle.port_core.specs.declared.view.OutView.{OutView}
use Rattle.port_core.specs.declared.view.OutView.TheVariants as outlet
use Rattle.port_core.specs.Cell.{WireState, moved_by}
use Rattle.port_core.specs.Reading.{no_wire}
use Rattle.nodes.specs.Nodes.{node_port_state, node_law, node_asking, node_moves, node_passive}
use Rattle.fused_net.specs.Net.{wire_at}
use Rattle.fused_net.specs.Laws.{Settled, NetGoesOn}
use Rattle.fused_net.specs.Outside.{StandsStill, Untouched, IsElse}
use Rattle.lane_core.specs.Lane.{ends}
use Rattle.lane_core.specs.Ends.{taken_items, asked_in_all, ask_calls, in_size}
use Rattle.lane_core.specs.declared.boundary.InputBoundary.{InputBoundary}
use Rattle.lane_core.specs.declared.state.State.{State}
use Rattle.lane_core.specs.declared.state.State.TheVariants.{Flowing, Closed, Cancelled}
use Rattle.lane_core.specs.Boundary.{given, waits, state, BoundaryKeeps}
use Rattle.interpreter.specs.declared.wanted.Wanted.TheVariants as wanted
use Rattle.port_core.specs.View.{output_closed}
use Rattle.interpreter.specs.BoundaryPlaces.{wanted_by, wanted_at, moved_at, ended_at, ends_at}
use Rattle.interpreter.specs.Island.{Kept, IslandKeeps}
use Rattle.interpreter.specs.Boundary.{way_in, cell_in, Enters, with_net}
use Rattle.island_body.specs.Beside.{Beside, in_node}
use Rattle.island_body.proofs.Beside.{beside_trans, beside_moved, way_in_beside, in_node_beside}
use Rattle.island_body.specs.Feeding.{act_of, Feeds, HasGiven, IsFed}
use Rattle.island_body.proofs.Wires.{push_asked, cancel_away, was_refused, refused_closed, one_end, unended_open, shut_stays, open_stays}
use Rattle.island_body.proofs.Stage.{Gave, gave_there, passive_there, few_there}

-- ---- what was wanted

pub wanted_push : (y : OutView) (b : Bool) → wanted_by y b ≡ wanted.Asked → (b ≡ true) × (y ≢ outlet.Cancelled)
wanted_push outlet.Unpulled true e = (refl, λ r. cc)
wanted_push outlet.Available true e = (refl, λ r. cc)
wanted_push outlet.Closed true e = (refl, λ r. cc)
wanted_push outlet.Cancelled true e = absurd cc
wanted_push outlet.Unpulled false e = absurd cc
wanted_push outlet.Available false e = absurd cc
wanted_push outlet.Closed false e = absurd cc
wanted_push outlet.Cancelled false e = absurd cc

pub wanted_quiet : (y : OutView) (b : Bool) → wanted_by y b ≡ wanted.Quiet → (b ≡ false) × (y ≢ outlet.Cancelled)
wanted_quiet outlet.Unpulled true e = absurd cc
wanted_quiet outlet.Available true e = absurd cc
wanted_quiet outlet.Closed true e = absurd cc
wanted_quiet outlet.Cancelled true e = absurd cc
wanted_quiet outlet.Unpulled false e = (refl, λ r. cc)
wanted_quiet outlet.Available false e = (refl, λ r. cc)
wanted_quiet outlet.Closed false e = (refl, λ r. cc)
wanted_quiet outlet.Cancelled false e = absurd cc

pub wanted_cancel : (y : OutView) (b : Bool) → wanted_by y b ≡ wanted.Cancelled → y ≡ outlet.Cancelled
wanted_cancel outlet.Unpulled true e = absurd cc
wanted_cancel outlet.Available true e = absurd cc
wanted_cancel outlet.Closed true e = absurd cc
wanted_cancel outlet.Cancelled b e = refl
wanted_cancel outlet.Unpulled false e = absurd cc
wanted_cancel outlet.Available false e = absurd cc
wanted_cancel outlet.Closed false e = absurd cc

pub open_live : (y : OutView) → y ≢ outlet.Closed → y ≢ outlet.Cancelled → output_closed y ≡ false
open_live outlet.Unpulled a b = refl
open_live outlet.Available a b = refl
open_live outlet.Closed a b = absurd (a refl)
open_live outlet.Cancelled a b = absurd (b refl)

-- ---- an item is handed on

act_sent : (x : Item) (c : WireState) → (moved_by (act_of x) c).wire.sent ≡ c.wire.sent ++ x ∷ []
act_sent (item.Elem e) c = refl
act_sent item.Ended c = refl
act_sent (item.Failed d) c = refl

act_out : (x : Item) (c : WireState) → (moved_by (act_of x) c).wire.out ≡ cond (ends x) outlet.Closed outlet.Unpulled
act_out (item.Elem e) c = refl
act_out item.Ended c = refl
act_out (item.Failed d) c = refl

ended_flowing : (b : Bool) → cond b Closed Flowing ≡ Flowing → cond b outlet.Closed outlet.Unpulled ≢ outlet.Closed
ended_flowing true e = cc
ended_flowing false e = λ r. cc

ended_closed : (b : Bool) → cond b Closed Flowing ≡ Closed → cond b outlet.Closed outlet.Unpulled ≡ outlet.Closed
ended_closed true e = refl
ended_closed false e = absurd cc

ended_not : (b : Bool) → cond b Closed Flowing ≡ Cancelled → ⊥
ended_not true e = cc
ended_not false e = cc

shut_live : (b : Bool) → cond b outlet.Closed outlet.Unpulled ≢ outlet.Cancelled
shut_live true e = cc
shut_live false e = cc

shut_unasked : (b : Bool) → cond b outlet.Closed outlet.Unpulled ≢ outlet.Available
shut_unasked true e = cc
shut_unasked false e = cc

-- an end is handed on by a call of its own
pub ended_moved : {S D L H B : Type 0} (i : Kept S D L H B) (q : ℕ) (cause : Option Cause) (new : Kept S D L H B) → output_closed (wire_at i.net q).wire.out ≡ false → new ≡ with_net i (ended_at i.net q cause) → new ≡ with_net i (moved_at i.net q (ends_at 0 cause))
ended_moved i q cause new free is = rw free at is

module _ {S D L H B : Type 0} (b : InputBoundary) (i : Kept S D L H B) (u : ℕ) (x : Item) (new : Kept S D L H B) (is : new ≡ with_net i (moved_at i.net (way_in i u) (act_of x))) (h : way_in i u < length i.net.wires) where
  cell_moved : cell_in new u ≡ moved_by (act_of x) (cell_in i u)
  cell_moved = subst (λ (z : Kept S D L H B). cell_in z u ≡ moved_by (act_of x) (cell_in i u)) (sym is) (get_or-set_same i.net.wires (way_in i u) (moved_by (act_of x) (cell_in i u)) no_wire h)

  out_moved : (cell_in new u).wire.out ≡ cond (ends x) outlet.Closed outlet.Unpulled
  out_moved = ap (λ (c : WireState). c.wire.out) cell_moved ∙ act_out x (cell_in i u)

  pub handed_feeds : Feeds b i u → (c : InputBoundary) → given c ≡ given b ++ x ∷ [] → state c ≡ cond (ends x) Closed Flowing → Feeds c new u
  handed_feeds f c g s = record {
    given_is = ap (λ (z : WireState). z.wire.sent) cell_moved ∙ act_sent x (cell_in i u) ∙ ap (λ (l : List Item). l ++ x ∷ []) f.given_is ∙ sym g;
    flowing = λ e. subst (λ (y : OutView). y ≢ outlet.Closed) (sym out_moved) (ended_flowing (ends x) (sym s ∙ e));
    closed = λ e. out_moved ∙ ended_closed (ends x) (sym s ∙ e);
    cancelled = λ e. absurd (ended_not (ends x) (sym s ∙ e));
  }

  pub handed_live : (cell_in new u).wire.out ≢ outlet.Cancelled
  handed_live e = shut_live (ends x) (sym out_moved ∙ e)

  pub handed_unasked : (cell_in new u).wire.out ≢ outlet.Available
  handed_unasked e = shut_unasked (ends x) (sym out_moved ∙ e)

  pub handed_beside : Beside (way_in i u) (in_node i u) i new
  handed_beside = beside_moved (in_node i u) i (way_in i u) (act_of x) new is

-- ---- one who has nothing to do

module _ {S D L H B : Type 0} (b : InputBoundary) (i : Kept S D L H B) (u : ℕ) where
  -- one that hands on no more
  pub fed_over : Feeds b i u → state b ≢ Flowing → IsFed b i u
  fed_over f n = record {
    given_all = λ e. absurd (never (state b) refl e);
    no_end = λ e. absurd (n e);
    refused = λ e. n;
  }
    where
      never : (s : State) → state b ≡ s → (cell_in i u).wire.out ≡ outlet.Available → ⊥
      never Flowing s e = n s
      never Closed s e = let c = f.closed s in cc
      never Cancelled s e = let c = f.cancelled s in cc

  -- one whose connection was not cancelled
  pub fed_live : (cell_in i u).wire.out ≢ outlet.Cancelled → HasGiven b i u → (state b ≡ Flowing → waits b ≡ [] → taken_items b.lane ≡ given b) → IsFed b i u
  fed_live live all none = record { given_all = all; no_end = none; refused = λ e. absurd (live e) }

  -- one at which no end waits behind no element, and which gave what it was asked for
  pub fed_last : (cell_in i u).wire.out ≢ outlet.Cancelled → ((cell_in i u).wire.out ≡ outlet.Available → (waits b ≡ []) ⊎ ((cell_in i u).wire.conn.in_closed ≡ true)) → state b ≡ Flowing → (state b ≡ Flowing → waits b ≡ [] → taken_items b.lane ≡ given b) → IsFed b i u
  fed_last live asked flows none = fed_live live (λ e. elim (asked e) [
    | inl w ↦ inl (none flows w)
    | inr h ↦ inr h
  ]) none

  -- the lane was cancelled
  pub feeds_cancelled : Feeds b i u → (cell_in i u).wire.out ≡ outlet.Cancelled → (c : InputBoundary) → given c ≡ given b → state c ≡ Cancelled → Feeds c i u
  feeds_cancelled f e c g s = record {
    given_is = f.given_is ∙ sym g;
    flowing = λ z. absurd cc;
    closed = λ z. absurd cc;
    cancelled = λ z. e;
  }

  -- where an output was asked, and may not push, a cancel is on its way
  pub quiet_away : {sources : S → SourceState} {drains : D → DrainState} {book : Book} → IslandKeeps sources drains book i.net i.used → Enters i u → wanted_at (cell_in i u) ≡ wanted.Quiet → (cell_in i u).wire.out ≡ outlet.Available → (cell_in i u).wire.conn.in_closed ≡ true
  quiet_away k en w e = cancel_away (cell_in i u).wire _ (k.laws.sound (way_in i u) en.place) e (wanted_quiet (cell_in i u).wire.out (can_push (cell_in i u).wire.conn) w).0

  -- so few elements were handed on
  pub few_given : {sources : S → SourceState} {drains : D → DrainState} {book : Book} → IslandKeeps sources drains book i.net i.used → Enters i u → Feeds b i u → wanted_at (cell_in i u) ≡ wanted.Asked → elements (given b) < MOST_COUNT
  few_given k en f w =
      let p = wanted_push (cell_in i u).wire.out (can_push (cell_in i u).wire.conn) w in
      let y : (cell_in i u).wire.out ≡ outlet.Available = push_asked (cell_in i u).wire _ (k.laws.sound (way_in i u) en.place) p.0 in
      let few = few_there i.net (way_in i u) i.used en.place k.asks k.within y in
      let count : elements (given b) ≡ elements (cell_in i u).wire.sent = ap elements (sym f.given_is) in
      omega (arith, few, count)

  pub feeds_looked : (c : InputBoundary) → given c ≡ given b → state c ≡ state b → Feeds b i u → Feeds c i u
  feeds_looked c g s f = record {
    given_is = f.given_is ∙ sym g;
    flowing = λ e. f.flowing (sym s ∙ e);
    closed = λ e. f.closed (sym s ∙ e);
    cancelled = λ e. f.cancelled (sym s ∙ e);
  }

  -- nothing came off the lane
  pub fed_same : (c : InputBoundary) → taken_items c.lane ≡ taken_items b.lane → given c ≡ given b → waits c ≡ waits b → state c ≡ state b → IsFed b i u → IsFed c i u
  fed_same c t g w s f = record {
    given_all = λ e. elim (f.given_all e) [
      | inl h ↦ inl (t ∙ h ∙ sym g)
      | inr h ↦ inr h
    ];
    no_end = λ e n. t ∙ f.no_end (sym s ∙ e) (sym w ∙ n) ∙ sym g;
    refused = λ e z. f.refused e (sym s ∙ z);
  }

-- where nothing was pushed yet, the stage has closed nothing
pub feeds_begun : {S D L H B : Type 0} (sources : S → SourceState) (drains : D → DrainState) (book : Book) (b : InputBoundary) (i : Kept S D L H B) (u : ℕ) → Settled node_port_state (node_law sources drains book) node_asking node_moves i.net → Enters i u → (cell_in i u).wire.sent ≡ [] → given b ≡ [] → state b ≡ Flowing → Feeds b i u
feeds_begun sources drains book b i u s l none nothing flows =
    let g = gave_there sources drains book i.net s (way_in i u) l.place l.stage in
    let open_end : g.end ≡ unended = one_end g.list [] g.end unended (sym g.is ∙ none) in
    record {
      given_is = none ∙ sym nothing;
      flowing = λ e. unended_open (cell_in i u).wire.out g.end g.known open_end;
      closed = λ e. absurd cc;
      cancelled = λ e. absurd cc;
    }

-- one call more asked, or none
pub asks_least : (b : Bool) (m n : ℕ) → n ≡ m + cond b 1 0 → m ≤ n
asks_least true m n e = omega (arith, e)
asks_least false m n e = omega (arith, e)

pub asks_more : (b : Bool) (m n : ℕ) → n ≡ m + cond b 1 0 → b ≡ true → m < n
asks_more true m n e t = omega (arith, e)
asks_more false m n e t = absurd cc

pub asks_none : (b : Bool) (m n : ℕ) → n ≡ m + cond b 1 0 → b ≡ false → n ≡ m
asks_none true m n e t = absurd cc
asks_none false m n e t = omega (arith, e)

-- as many asks, as much asked
pub asked_by_calls : (b c : InputBoundary) → BoundaryKeeps b → BoundaryKeeps c → in_size c.lane ≡ in_size b.lane → ask_calls c.lane ≡ ask_calls b.lane → asked_in_all c.lane ≡ asked_in_all b.lane
asked_by_calls b c k l size calls =
    let half : ℕ = max 1 (in_size b.lane / 2) in
    let half_is : max 1 (in_size c.lane / 2) ≡ half = ap (λ (s : ℕ). max 1 (s / 2)) size in
    let one : asked_in_all b.lane + half ≡ in_size b.lane + ask_calls b.lane * half = k.by_halves.asked_is in
    let two : asked_in_all c.lane + half ≡ in_size b.lane + ask_calls b.lane * half = subst (λ (h : ℕ). asked_in_all c.lane + h ≡ in_size b.lane + ask_calls b.lane * h) half_is (subst (λ (z : ℕ). asked_in_all c.lane + max 1 (in_size c.lane / 2) ≡ z + ask_calls b.lane * max 1 (in_size c.lane / 2)) size (subst (λ (z : ℕ). asked_in_all c.lane + max 1 (in_size c.lane / 2) ≡ in_size c.lane + z * max 1 (in_size c.lane / 2)) calls l.by_halves.asked_is)) in
    same (asked_in_all b.lane) (asked_in_all c.lane) half (in_size b.lane + ask_calls b.lane * half) one two
  where
    same : (m n h z : ℕ) → m + h ≡ z → n + h ≡ z → n ≡ m
    same m n h z e f = omega (arith, e, f)

-- ---- one call behind another

pub beside_next : {S D L H B : Type 0} (u : ℕ) (a b c : Kept S D L H B) → Beside (way_in a u) (in_node a u) a b → Beside (way_in b u) (in_node b u) b c → Beside (way_in a u) (in_node a u) a c
beside_next {S = S} {D = D} u a b c f g =
    beside_trans (way_in a u) (in_node a u) a b c f (subst (λ (z : ℕ × ℕ). Beside z.0 z.1 b c) (λ i. (way_in_beside (way_in a u) (in_node a u) a b u f i, in_node_beside (way_in a u) (in_node a u) a b u f i)) g)

-- ---- while another end of a lane acts

module _ {S D L H B : Type 0} (b : InputBoundary) (q n : ℕ) (old new : Kept S D L H B) (u : ℕ) (s : Beside q n old new) (apart : way_in old u ≢ q) where
  cell_same : cell_in new u ≡ cell_in old u
  cell_same = rw (way_in_beside q n old new u s) (s.cells (way_in old u) apart)

  pub feeds_beside : Feeds b old u → Feeds b new u
  feeds_beside f = record {
    given_is = rw cell_same f.given_is;
    flowing = λ e. rw cell_same (f.flowing e);
    closed = λ e. rw cell_same (f.closed e);
    cancelled = λ e. rw cell_same (f.cancelled e);
  }

  pub fed_beside : IsFed b old u → IsFed b new u
  fed_beside f = record {
    given_all = λ e. rw cell_same (f.given_all (rw cell_same at e));
    no_end = f.no_end;
    refused = λ e. f.refused (rw cell_same at e);
  }

-- ---- while the island runs

module _ {S D L H B : Type 0} (sources : S → SourceState) (drains : D → DrainState) (book : Book) (b : InputBoundary) (old new : Kept S D L H B) (u : ℕ) (before : Settled node_port_state (node_law sources drains book) node_asking node_moves old.net) (l : Enters old u) (ins : new.ins ≡ old.ins) (still : StandsStill node_passive old.net new.net) where
  way_same : way_in new u ≡ way_in old u
  way_same = rw ins refl

  sent_same : (cell_in new u).wire.sent ≡ (cell_in old u).wire.sent
  sent_same = rw way_same (still.sent (way_in old u) (passive_there sources drains book old.net before (way_in old u) l.place l.stage))

  -- what is kept stands while the island runs
  module _ (after : Settled node_port_state (node_law sources drains book) node_asking node_moves new.net) (on : NetGoesOn old.net new.net) where
    enters_new : Enters new u
    enters_new = record {
      listed = rw ins l.listed;
      place = rw (way_same, on.wires) l.place;
      stage = rw way_same (λ x at. l.stage x (rw (on.firsts, on.ends) at at));
    }

    gave_old : Gave (cell_in old u).wire.sent (cell_in old u).wire.out
    gave_old = gave_there sources drains book old.net before (way_in old u) l.place l.stage

    gave_new : Gave (cell_in new u).wire.sent (cell_in new u).wire.out
    gave_new = gave_there sources drains book new.net after (way_in new u) enters_new.place enters_new.stage

    told_is : told gave_old.list gave_old.end ≡ told gave_new.list gave_new.end
    told_is = sym gave_old.is ∙ (sym sent_same ∙ gave_new.is)

    pub feeds_ran : Feeds b old u → Feeds b new u
    feeds_ran f = record {
      given_is = sent_same ∙ f.given_is;
      flowing = λ e. open_stays (cell_in old u).wire.out (cell_in new u).wire.out gave_old.list gave_new.list gave_old.end gave_new.end told_is gave_old.known gave_new.known (f.flowing e);
      closed = λ e. shut_stays (cell_in old u).wire.out (cell_in new u).wire.out gave_old.list gave_new.list gave_old.end gave_new.end told_is gave_old.known gave_new.known (f.closed e);
      cancelled = λ e.
          let was : (cell_in old u).wire.conn.out_closed ≡ true = refused_closed (cell_in old u).wire _ (before.sound (way_in old u) l.place) (f.cancelled e) in
          was_refused (cell_in new u).wire _ (after.sound (way_in new u) enters_new.place) (rw way_same ((still.grown (way_in old u)).out_closed was))
          (open_stays (cell_in old u).wire.out (cell_in new u).wire.out gave_old.list gave_new.list gave_old.end gave_new.end told_is gave_old.known gave_new.known (not_shut (cell_in old u).wire.out (f.cancelled e)));
    }
      where
        not_shut : (y : OutView) → y ≡ outlet.Cancelled → y ≡ outlet.Closed → ⊥
        not_shut y e g = cc

  -- and one that heard of nothing has nothing to do
  pub fed_ran : (at : _) → Untouched node_passive at old.net new.net → IsElse at (way_in old u) → IsFed b old u → IsFed b new u
  fed_ran at un other f =
      let out_same : (cell_in new u).wire.out ≡ (cell_in old u).wire.out = rw way_same (un.outs (way_in old u) other (passive_there sources drains book old.net before (way_in old u) l.place l.stage)) in
      record {
        given_all = λ e. elim (f.given_all (sym out_same ∙ e)) [
          | inl g ↦ inl g
          | inr g ↦ inr (rw way_same ((still.grown (way_in old u)).in_closed g))
        ];
        no_end = f.no_end;
        refused = λ e. f.refused (sym out_same ∙ e);
      }
