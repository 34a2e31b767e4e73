-- What a buffer that drops gives of its law for a picture: an element for each one among its moves, and none that did not come;
-- it waits until its input is over, and where it is asked it holds nothing.
use Rattle.std.specs.Prelude.{Option, None, Some}
use Rattle.std.proofs.Common.{◌≡◌, ◌≢◌, ◌⊎◌, inl, inr, ℕ, zero, suc, Bool, true, false, List, [], ◌∷◌, ◌++◌, refl, sym, ap, ◌∙◌, subst, arith, append_assoc}
use Rattle.elem_core.specs.Tree.{Tree}
use Rattle.elem_core.specs.declared.why.Decider.{Decider}
use Rattle.port_core.specs.View.{View}
use Rattle.port_core.specs.declared.view.InView.{InView}
use Rattle.port_core.specs.declared.view.InView.TheVariants.{Pulled, Finished}
use Rattle.port_core.specs.declared.view.OutView.{OutView}
use Rattle.port_core.specs.declared.view.OutView.TheVariants.{Unpulled, Available}
use Rattle.stream_model.specs.declared.kind.Kind.TheVariants.{Buffer}
use Rattle.stream_model.specs.declared.kind.Policy.{Policy}
use Rattle.stream_model.specs.declared.kind.Policy.TheVariants.{Backpressure, DropHead, DropTail, DropBuffer, DropNew, Fail}
use Rattle.stream_model.specs.FanIn.{Inflow}
use Rattle.stream_model.specs.Graph.{Graph}
use Rattle.stream_model.specs.Node.{World}
use Rattle.stream_model.specs.Outlook.{End, unended, ended, failed}
use Rattle.port_core.specs.Picks.{IsFreeLog, next_move, may_end}
use Rattle.port_core.specs.declared.pick_log.Next.TheVariants.{Free}
use Rattle.stream_model.specs.Picks.{Buffered, buffered, empty_buffer, nothing_held}
use Rattle.stream_model.proofs.PickTraces.{buffered_same}
use Rattle.stream_model.specs.View as picture
use Rattle.stream_model.specs.View.{EachWire}
use Rattle.stream_model.specs.Lawful.{RowLawful, DroppingLawful}
use Rattle.stream_model.specs.Rests.{IsShut, IsUnasked, Waits, RowRests, DroppingRests}
use Rattle.stage_core.specs.Row.{InClosed, OutClosed}
use Rattle.stage_core.specs.Seats.{wish}
use Rattle.stage_core.specs.declared.phase.Phase.{Phase}
use Rattle.stage_core.specs.declared.phase.Phase.TheVariants.{New, Open, Closed}
use Rattle.stage_core.specs.OwnPorts.{own_input, own_output}
use Rattle.stage_dropping.specs.Drops.{DroppingRestsBy, DropRests, holds, Obligation, serves, DropGiven, DropKeeps, Keeps, DropCounts, buffer_at}
use Rattle.stage_dropping.specs.Droppings.{Dropping, may_take, may_give, in_of, DropKnows, Rested, drop_at, drop_in, pending, held_by, held_in, held_of, DropPortState, DropsAs}
use Rattle.stage_dropping.proofs.DropNodes.{counted, stays_free}
use Rattle.stage_dropping.proofs.DropRests.{rests}
use Rattle.stage_core.specs.Held.{told}
use Rattle.run_laws.proofs.Coming.{elements_told}
use Rattle.run_laws.proofs.Histories.{list_of_told}
use Rattle.run_laws.proofs.Transport.{own_in, own_out, shuts, out_shuts, waits, unasked}
use Rattle.run_laws.specs.Ports.{InPort, OutPort, InStands, OutStands, InRests, OutRests}
use Rattle.run_laws.proofs.OneFlows.{OneFlow, one_flow, flow_got, flow_sent}
use Rattle.run_laws.proofs.PictureStages.{closed_both}

-- ---- what its row says

asked_not : {b : Bool} → b ≡ true → b ≡ false → ⊥
asked_not e f = cc

-- it is asked, waits and holds nothing; it waits and is not asked; it is not asked behind the end of its input; or all is closed
data DropPorts (l : Dropping) (x : InView) (y : OutView) : Type 0 where
  drained : l.phase ≡ Open → l.held ≡ [] → x ≡ Pulled → y ≡ Available → DropPorts l x y
  waiting : x ≡ Pulled → y ≡ Unpulled → DropPorts l x y
  left : x ≡ Finished → y ≡ Unpulled → DropPorts l x y
  gone : InClosed x → OutClosed y → DropPorts l x y

ports_open : (l : Dropping) (x : InView) (y : OutView) → l.phase ≡ Open → l.log.left ≡ None → DropKnows l x y → Rested l → DropPorts l x y
ports_open l x y on free k r = by_end l.after refl l.asked refl
  where
    next : next_move l.log.left ≡ Free
    next = ap next_move free

    none : l.waiting ≡ None
    none = r.takes (ap may_take next)

    by_end : (e : End) → l.after ≡ e → (a : Bool) → l.asked ≡ a → DropPorts l x y
    by_end unended is true asks = drained on (r.gives asks (ap may_give next)) (k.input ∙ ap (λ e. in_of e l.pulled) is ∙ ap (λ b. in_of unended b) (r.asks is none)) (k.output ∙ ap wish asks)
    by_end unended is false asks = waiting (k.input ∙ ap (λ e. in_of e l.pulled) is ∙ ap (λ b. in_of unended b) (r.asks is none)) (k.output ∙ ap wish asks)
    by_end ended is true asks =
        let last : may_end (next_move l.log.left) ≡ false = (r.ends none (λ z. let q : ended ≡ unended = sym is ∙ z in cc)).1 (r.gives asks (ap may_give next)) in
        let some : may_end (next_move l.log.left) ≡ true = ap may_end next in absurd (asked_not some last)
    by_end ended is false asks = left (k.input ∙ ap (λ e. in_of e l.pulled) is) (k.output ∙ ap wish asks)
    by_end (failed c) is a asks = let z : failed c ≡ ended = sym is ∙ (r.ends none (λ z. let q : failed c ≡ unended = sym is ∙ z in cc)).0 in cc

ports_by : (l : Dropping) (p : Phase) (x : InView) (y : OutView) → l.phase ≡ p → p ≢ New → l.log.left ≡ None → drop_at l p x y → DropPorts l x y
ports_by l New x y e n free r = absurd (n refl)
ports_by l Closed x y e n free r = let c = closed_both x y r in gone c.0 c.1
ports_by l Open x y e n free r = ports_open l x y e free r.0 r.1

-- ---- its rows in a picture, by its policy

module _ (g : Graph) (w : World) (k : ℕ) (d : Decider) (room : ℕ) (moves : List ℕ) (same : w.moves k ≡ moves) where
  pub row_lawful : (p : Policy) (i o : picture.SeenWire) → p ≢ Backpressure → DroppingLawful moves i o → RowLawful g w k (Buffer room p) d (i ∷ []) (o ∷ [])
  row_lawful Backpressure i o drops h = absurd (drops refl)
  row_lawful DropHead i o drops h = subst (λ (ms : List ℕ). DroppingLawful ms i o) (sym same) h
  row_lawful DropTail i o drops h = subst (λ (ms : List ℕ). DroppingLawful ms i o) (sym same) h
  row_lawful DropBuffer i o drops h = subst (λ (ms : List ℕ). DroppingLawful ms i o) (sym same) h
  row_lawful DropNew i o drops h = subst (λ (ms : List ℕ). DroppingLawful ms i o) (sym same) h
  row_lawful Fail i o drops h = subst (λ (ms : List ℕ). DroppingLawful ms i o) (sym same) h

  abbrev pub Rests : Policy → List ℕ → picture.SeenWire → picture.SeenWire → Type 0
  Rests p ms i o = DroppingRests (nothing_held (buffered p room ms i.list empty_buffer).held) i o

  pub row_rests : (p : Policy) (i o : picture.SeenWire) → p ≢ Backpressure → Rests p moves i o → RowRests g w k (Buffer room p) d (i ∷ []) (o ∷ [])
  row_rests Backpressure i o drops h = absurd (drops refl)
  row_rests DropHead i o drops h = subst (λ (ms : List ℕ). Rests DropHead ms i o) (sym same) h
  row_rests DropTail i o drops h = subst (λ (ms : List ℕ). Rests DropTail ms i o) (sym same) h
  row_rests DropBuffer i o drops h = subst (λ (ms : List ℕ). Rests DropBuffer ms i o) (sym same) h
  row_rests DropNew i o drops h = subst (λ (ms : List ℕ). Rests DropNew ms i o) (sym same) h
  row_rests Fail i o drops h = subst (λ (ms : List ℕ). Rests Fail ms i o) (sym same) h

-- ---- what its law says of the picture

shown_in : (i : InPort) (l : List Tree) (e : End) → i.got ≡ told l e → own_input i.view l ≡ own_in i
shown_in i l e h = rw (h, elements_told l e, list_of_told l e) refl

shown_out : (o : OutPort) (l : List Tree) (e : End) → o.sent ≡ told l e → own_output o.view l ≡ own_out o
shown_out o l e h = rw (h, elements_told l e, list_of_told l e) refl

module _ (first now : Dropping) (i : InPort) (o : OutPort) (law : DropsAs first now (record { ins = i.view ∷ []; outs = o.view ∷ [] }) (i.got ∷ []) (o.sent ∷ [])) where
  abbrev Ports : View
  Ports = record { ins = i.view ∷ []; outs = o.view ∷ [] }

  abbrev Kept : List Inflow → List Tree → End → Type 0
  Kept = Keeps first.node first.policy first.size (held_of now)

  one : OneFlow Kept Ports (i.got ∷ []) (o.sent ∷ []) law.by i.got o.sent
  one = one_flow Kept Ports (i.got ∷ []) (o.sent ∷ []) law.by i.got o.sent refl refl

  pub drops_lawful : InStands i → OutStands o → DroppingLawful now.log.moves i.wire o.wire
  drops_lawful si so =
      let counts : DropCounts now.log.moves (one.f ∷ []) law.by.law.out_list = subst (λ (fs : List Inflow). DropCounts now.log.moves fs law.by.law.out_list) one.ins (counted first now Ports (i.got ∷ []) (o.sent ∷ []) law) in
      let got = flow_got Kept Ports (i.got ∷ []) (o.sent ∷ []) law.by i.got o.sent one in
      let sent = flow_sent Kept Ports (i.got ∷ []) (o.sent ∷ []) law.by i.got o.sent one in
      let zeros = counts.1 in
      let came = si.came in
      (so.count ∙ sent ∙ counts.0, omega (arith, zeros, got, came))

  -- where it holds nothing its moves leave nothing, also of all that may come
  drained_empty : InStands i → now.phase ≡ Open → now.log.stuck ≡ false → now.held ≡ [] → nothing_held (buffered first.policy first.size now.log.moves i.wire.list empty_buffer).held ≡ true
  drained_empty si on calm none =
      let owes : held_of now ≡ serves (holds now.came now.log.moves [] (pending now)) =
      ap (λ b. held_in b now) calm ∙ ap (λ (p : Phase). serves (held_by p now)) on ∙ ap (λ (h : List Tree). serves (holds now.came now.log.moves h (pending now))) none in
      let keeps : DropKeeps first.node first.policy first.size (holds now.came now.log.moves [] (pending now)) (one.f ∷ []) law.by.law.out_list law.by.law.out_end =
      subst (λ (x : Obligation). Keeps first.node first.policy first.size x (one.f ∷ []) law.by.law.out_list law.by.law.out_end) owes one.keeps in
      let q : DropGiven first.policy first.size now.came now.log.moves [] (pending now) one.f law.by.law.out_list = keeps.1 in
      let part = si.part one.f.list one.f.end one.got_is in
      let list : i.wire.list ≡ q.taken ++ ((pending now).list ++ part.rest) = part.is ∙ ap (λ (x : Inflow). x.list ++ part.rest) q.flow_is ∙ append_assoc q.taken (pending now).list part.rest in
      let whole : buffered first.policy first.size now.log.moves i.wire.list empty_buffer ≡ buffer_at law.by.law.out_list [] now.came =
      ap (λ (l : List Tree). buffered first.policy first.size now.log.moves l empty_buffer) list
      ∙ buffered_same first.policy first.size now.log.moves q.taken ((pending now).list ++ part.rest) empty_buffer (ap (λ (b : Buffered). b.ok) q.buffer_is) ∙ q.buffer_is in
      ap (λ (b : Buffered). nothing_held b.held) whole

  -- it follows no moves, as it was handed in
  free_log : first.log.left ≡ None → IsFreeLog now.log
  free_log free = stays_free first now Ports (i.got ∷ []) (o.sent ∷ []) free law

  drops_stay : now.log.stuck ≡ false → InStands i → InRests i → OutRests o → DropPorts now i.view o.view
      → (EachWire IsShut (i.wire ∷ []) × EachWire IsShut (o.wire ∷ [])) ⊎ DroppingRests (nothing_held (buffered first.policy first.size now.log.moves i.wire.list empty_buffer).held) i.wire o.wire
  drops_stay calm si ri ro (drained on none xi yo) = inr (inl ((ri.waits xi).0, λ asked. drained_empty si on calm none))
  drops_stay calm si ri ro (waiting xi yo) = inr (inl ((ri.waits xi).0, λ asked. absurd (asked_not asked.0 (ro.unasked yo).0)))
  drops_stay calm si ri ro (left xi yo) = inr (inr (ri.shut (subst InClosed (sym xi) tt), ro.unasked yo))
  drops_stay calm si ri ro (gone xi yo) = inl ((ri.shut xi, tt), (ro.shut yo, tt))

  pub drops_rest : first.log.left ≡ None → InStands i → InRests i → OutRests o → DropPortState now Ports
      → (EachWire IsShut (i.wire ∷ []) × EachWire IsShut (o.wire ∷ [])) ⊎ DroppingRests (nothing_held (buffered first.policy first.size now.log.moves i.wire.list empty_buffer).held) i.wire o.wire
  drops_rest free si ri ro r =
      let f = free_log free in
      drops_stay f.calm si ri ro (ports_by now now.phase i.view o.view refl r.started f.none (subst (λ b. drop_in b now i.view o.view) f.calm r.ports))

  -- ---- one that follows moves, where no event is left

  in_here : own_input i.view one.f.list ≡ own_in i
  in_here = shown_in i one.f.list one.f.end one.got_is

  out_here : own_output o.view law.by.law.out_list ≡ own_out o
  out_here = shown_out o law.by.law.out_list law.by.law.out_end one.sent_is

  led_by : (ms : List ℕ) (b empty : Bool) → InRests i → OutRests o
      → (IsShut (own_input i.view one.f.list) × IsShut (own_output o.view law.by.law.out_list)) ⊎ DroppingRestsBy (next_move (Some ms)) b (own_input i.view one.f.list) (own_output o.view law.by.law.out_list)
      → (EachWire IsShut (i.wire ∷ []) × EachWire IsShut (o.wire ∷ [])) ⊎ DroppingRestsBy (next_move (Some ms)) empty i.wire o.wire
  led_by ms b empty ri ro (inl h) = inl ((shuts i ri (subst IsShut in_here h.0), tt), (out_shuts o ro (subst IsShut out_here h.1), tt))
  led_by [] b empty ri ro (inr h) = inr tt
  led_by (zero ∷ ms) b empty ri ro (inr h) = inr (waits i ri (subst Waits in_here h))
  led_by (suc m ∷ ms) b empty ri ro (inr h) = inr (unasked o ro (subst IsUnasked out_here h))

  -- it waits for what its next move wants, or made them all
  pub led_rests : (ms : List ℕ) (empty : Bool) → now.log.left ≡ Some ms → now.log.stuck ≡ false → InRests i → OutRests o → DropPortState now Ports
      → (EachWire IsShut (i.wire ∷ []) × EachWire IsShut (o.wire ∷ [])) ⊎ DroppingRestsBy (next_move (Some ms)) empty i.wire o.wire
  led_rests ms empty rest_is calm ri ro r =
      led_by ms (nothing_held (buffered first.policy first.size now.log.moves one.f.list empty_buffer).held) empty ri ro
      (subst (λ (fs : List Inflow). DropRests (next_move (Some ms)) first.policy first.size now.log.moves Ports fs law.by.law.out_list) one.ins
      (subst (λ (l : Option (List ℕ)). DropRests (next_move l) first.policy first.size now.log.moves Ports law.by.law.ins law.by.law.out_list) rest_is (rests first now Ports (i.got ∷ []) (o.sent ∷ []) calm r law)))
