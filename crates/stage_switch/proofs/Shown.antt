-- What the seats of a switch tell of the valves' moves.
use Rattle.std.specs.Prelude.{slice_get}
use Rattle.std.proofs.Common.{◌≡◌, ℕ, zero, suc, ◌≤◌, inl, inr, List, [], ◌∷◌, length, map, refl, sym, ap, ◌∙◌, subst, arith, Option, Some, IfSome, true}
use Rattle.std.proofs.lemmas.List.Elements.{All-contains}
use Rattle.std.specs.List.{Contains}
use Rattle.elem_core.specs.Values.{same_text}
use Rattle.stage_switch.specs.declared.order.Order.{Order}
use Rattle.stage_switch.specs.declared.order.Order.TheVariants.{Shutdown, Abort}
use Rattle.stage_switch.specs.Public.{SeatState, GaveIt}
use Rattle.stream_model.specs.declared.kind.Kind.{Kind}
use Rattle.stream_model.specs.declared.kind.Kind.TheVariants.{Valve, TripShutdown, TripAbort}
use Rattle.std.proofs.lemmas.Slice.Eq.{bytes_eq-Decides}
use Rattle.stream_model.specs.Graph.{Graph, Node}
use Rattle.stream_model.specs.Node.{World}
use Rattle.stream_model.specs.Fits.{CanTrip, valve_order, Fits, inputs}
use Rattle.stream_model.specs.Fits as model
use Rattle.stream_model.specs.Node.{head_of}
use Rattle.stage_switch.specs.States.{order_number}
use Rattle.stage_switch.specs.Settling.{IsAt, ValveTold, SeatTold, SeatsAre, IsSettled, AllSettled, OneOrderShown, kinds_of}

-- a seat of the list that gave the order
who : (o : Order) (ss : List SeatState) → GaveIt o ss → (s : SeatState) × (Contains ss s × (s.gave ≡ Some o))
who o [] h = absurd h
who o (s ∷ ss) (inl e) = (s, ((0, omega arith, refl), e))
who o (s ∷ ss) (inr h) = let r = who o ss h in (r.0, ((suc r.1.0.0, (let k = r.1.0.1 in omega arith), r.1.0.2), r.1.1))

-- the order that a valve with such moves shows
record Shows (s : List ℕ) (v : List ℕ × ℕ) (seat : SeatState) : Type 0 where
  order : Order
  name : v.0 ≡ s
  number : v.1 ≡ order_number order
  knows : seat.knows ≡ Some order

shows : (moves s : List ℕ) (v : List ℕ × ℕ) (seat : SeatState) → ValveTold moves seat → valve_order (Valve s) moves ≡ Some v → Shows s v seat
shows [] s v seat t h = cc
shows (a ∷ []) s v seat t h = cc
shows (a ∷ b ∷ d ∷ l) s v seat t h = cc
shows (zero ∷ k ∷ []) s v seat t h = let f = t.formed in cc
shows (suc zero ∷ k ∷ []) s v seat t h = let e : (s, 1) ≡ v = cc in record { order = Shutdown; name = sym (ap (λ x. x.0) e); number = sym (ap (λ x. x.1) e); knows = t.knows }
shows (suc (suc zero) ∷ k ∷ []) s v seat t h = let e : (s, 2) ≡ v = cc in record { order = Abort; name = sym (ap (λ x. x.0) e); number = sym (ap (λ x. x.1) e); knows = t.knows }
shows (suc (suc (suc a)) ∷ k ∷ []) s v seat t h = let f = t.formed in cc

same_name : (s name : List ℕ) → s ≡ name → same_text s name ≡ true
same_name s name e = (bytes_eq-Decides s name).1 e

name_is : (s name : List ℕ) → same_text s name ≡ true → s ≡ name
name_is s name h = (bytes_eq-Decides s name).0 h

at_node : (k : Kind) (moves : List ℕ) (took : ℕ) (seat : SeatState) (v : List ℕ × ℕ) → SeatTold k moves took seat → valve_order k moves ≡ Some v → (s : List ℕ) × ((k ≡ Valve s) × Shows s v seat)
at_node (Valve s) moves took seat v t h = (s, (refl, shows moves s v seat t h))
at_node k moves took seat v t h = cc

-- a node with an order is a valve
valve_of : (k : Kind) (moves : List ℕ) (v : List ℕ × ℕ) → valve_order k moves ≡ Some v → (s : List ℕ) × ((k ≡ Valve s) × (v.0 ≡ s))
valve_of (Valve s) moves v h = (s, (refl, named moves s v h))
  where
    named : (moves s : List ℕ) (v : List ℕ × ℕ) → valve_order (Valve s) moves ≡ Some v → v.0 ≡ s
    named [] s v h = cc
    named (a ∷ []) s v h = cc
    named (a ∷ b ∷ d ∷ l) s v h = cc
    named (a ∷ b ∷ []) s v h = let e : (s, a) ≡ v = cc in sym (ap (λ x. x.0) e)
valve_of k moves v h = cc

-- a seat that gave an order is that of a trip
tripping : (k : Kind) (moves : List ℕ) (took : ℕ) (seat : SeatState) (o : Order) (name : List ℕ) → SeatTold k moves took seat → IsAt name k → seat.gave ≡ Some o → CanTrip name (order_number o) k took
tripping (Valve s) moves took seat o name t at e = let n = t.gave in cc
tripping (TripShutdown s n) moves took seat o name t at e = let r : (o ≡ Shutdown) × (n ≤ took) = subst (λ (m : Option Order). IfSome m (λ p. (p ≡ Shutdown) × (n ≤ took))) e t in (ap order_number r.0, at, r.1)
tripping (TripAbort s n) moves took seat o name t at e = let r : (o ≡ Abort) × (n ≤ took) = subst (λ (m : Option Order). IfSome m (λ p. (p ≡ Abort) × (n ≤ took))) e t in (ap order_number r.0, at, r.1)
tripping k moves took seat o name t at e = absurd at

pub can_still : (name : List ℕ) (order : ℕ) (k : Kind) (few many : ℕ) → few ≤ many → CanTrip name order k few → CanTrip name order k many
can_still name order (TripShutdown s n) few many le h = (h.0, h.1, omega (arith, h.2))
can_still name order (TripAbort s n) few many le h = (h.0, h.1, omega (arith, h.2))
can_still name order k few many le h = absurd h

kind_at : (nodes : List Node) (k : ℕ) (n : Node) → slice_get nodes k ≡ Some n → slice_get (map (λ (x : Node). x.kind) nodes) k ≡ Some n.kind
kind_at [] k n at = cc
kind_at (x ∷ xs) zero n at = let e : x ≡ n = cc in ap (λ (y : Node). Some y.kind) e
kind_at (x ∷ xs) (suc k) n at = kind_at xs k n at

node_at : (nodes : List Node) (k : ℕ) (kind : Kind) → slice_get (map (λ (x : Node). x.kind) nodes) k ≡ Some kind → (n : Node) × ((slice_get nodes k ≡ Some n) × (n.kind ≡ kind))
node_at [] k kind at = cc
node_at (x ∷ xs) zero kind at = (x, (refl, (let e : x.kind ≡ kind = cc in e)))
node_at (x ∷ xs) (suc k) kind at = node_at xs k kind at

module _ (g : Graph) (w : World) (took : ℕ → ℕ) (seat : ℕ → Option SeatState)
    (told : (node : ℕ) (n : Node) → slice_get g.nodes node ≡ Some n → (s : SeatState) → seat node ≡ Some s → SeatTold n.kind (w.moves node) (took node) s) (settled : AllSettled (kinds_of g) seat) where
  valve_at : (n : Node) (s : List ℕ) → n.kind ≡ Valve s → (name : List ℕ) → s ≡ name → IsAt name n.kind
  valve_at n s is name e = subst (IsAt name) (sym is) (same_name s name e)

  -- what a valve with moves shows, where its switch is known by that name: the order that stands there
  record AtValve (v : List ℕ × ℕ) (name : List ℕ) (stands : Option Order) : Type 0 where
    order : Order
    name_is : v.0 ≡ name
    number : v.1 ≡ order_number order
    stands_is : stands ≡ Some order

  at_valve : (node : ℕ) (n : Node) (v : List ℕ × ℕ) (name : List ℕ) (seats : List SeatState) (stands : Option Order) → SeatsAre (kinds_of g) name seat seats → IsSettled seats stands
      → slice_get g.nodes node ≡ Some n → valve_order n.kind (w.moves node) ≡ Some v → v.0 ≡ name → AtValve v name stands
  at_valve node n v name seats stands are is at h same =
      let m = valve_of n.kind (w.moves node) v h in
      let here = valve_at n m.0 m.1.0 name (sym m.1.1 ∙ same) in
      let s = are.all node n.kind (kind_at g.nodes node n at) here in
      let a = at_node n.kind (w.moves node) (took node) s.0 v (told node n at s.0 s.1.0) h in
      let show = a.1.1 in
      record {
        order = show.order;
        name_is = same;
        number = show.number;
        stands_is = subst (λ (m : Option Order). IfSome m (λ p. stands ≡ Some p)) show.knows (All-contains (λ (s : SeatState). IfSome s.knows (λ p. stands ≡ Some p)) seats s.0 is.known s.1.1);
      }

  given_by_trip : (node : ℕ) (n : Node) (v : List ℕ × ℕ) → slice_get g.nodes node ≡ Some n → valve_order n.kind (w.moves node) ≡ Some v → (trip : ℕ) × ((t : Node) × ((slice_get g.nodes trip ≡ Some t) × CanTrip v.0 v.1 t.kind (took trip)))
  given_by_trip node n v at h =
      let m = valve_of n.kind (w.moves node) v h in
      let here = valve_at n m.0 m.1.0 v.0 (sym m.1.1) in
      let z = settled node n.kind v.0 (kind_at g.nodes node n at) here in
      let show = at_valve node n v v.0 z.0 z.1.0 z.1.1.0 z.1.1.1 at h refl in
      let gave : GaveIt show.order z.0 = subst (λ (m : Option Order). IfSome m (λ o. GaveIt o z.0)) show.stands_is z.1.1.1.given in
      let s = who show.order z.0 gave in
      let k = z.1.1.0.only s.0 s.1.0 in
      let t = node_at g.nodes k.0 k.1.0 k.1.1.0 in
      let at_name : IsAt v.0 t.0.kind = subst (IsAt v.0) (sym t.1.1) k.1.1.1.0 in
      let trip = tripping t.0.kind (w.moves k.0) (took k.0) s.0 show.order v.0 (told k.0 t.0 t.1.0 s.0 k.1.1.1.1) at_name s.1.1 in
      (k.0, (t.0, (t.1.0, subst (λ (m : ℕ). CanTrip v.0 m t.0.kind (took k.0)) (sym show.number) trip)))

  one_order : (node other : ℕ) (n m : Node) (v u : List ℕ × ℕ) → slice_get g.nodes node ≡ Some n → slice_get g.nodes other ≡ Some m
      → valve_order n.kind (w.moves node) ≡ Some v → valve_order m.kind (w.moves other) ≡ Some u → same_text v.0 u.0 ≡ true → v.1 ≡ u.1
  one_order node other n m v u at there h k same =
      let e = valve_of n.kind (w.moves node) v h in
      let here = valve_at n e.0 e.1.0 v.0 (sym e.1.1) in
      let z = settled node n.kind v.0 (kind_at g.nodes node n at) here in
      let a = at_valve node n v v.0 z.0 z.1.0 z.1.1.0 z.1.1.1 at h refl in
      let b = at_valve other m u v.0 z.0 z.1.0 z.1.1.0 z.1.1.1 there k (sym (name_is v.0 u.0 same)) in
      let o : a.order ≡ b.order = let f : Some a.order ≡ Some b.order = sym a.stands_is ∙ b.stands_is in cc in
      a.number ∙ ap order_number o ∙ sym b.number

  pub shown : OneOrderShown g w took
  shown = record { given = given_by_trip; one = one_order }

-- so all moves fit
pub all_fit : (g : Graph) (w : World) (took : ℕ → ℕ) → OneOrderShown g w took → ((node : ℕ) (n : Node) → slice_get g.nodes node ≡ Some n → model.moves_fit g w node n.kind (inputs g w node n) ≡ true)
    → ((node : ℕ) (n : Node) → slice_get g.nodes node ≡ Some n → took node ≤ length (head_of (inputs g w node n)).list) → Fits g w
all_fit g w took s each bound = record {
  each = each;
  given = λ node n v at h. let t = s.given node n v at h in (t.0, t.1.0, t.1.1.0, can_still v.0 v.1 t.1.0.kind (took t.0) _ (bound t.0 t.1.0 t.1.1.0) t.1.1.1);
  one = s.one;
}
