-- A buffer that drops that was started and has not stopped has closed both its ports, or has nothing to do: it meets the row of its kind,
-- or where it follows moves the row that its next move says.
use Rattle.std.specs.Prelude.{◌≢◌, Option, None, Some}
use Rattle.std.specs.Option.{option_to_list}
use Rattle.std.proofs.Common.{◌≡◌, inl, inr, ℕ, zero, suc, ◌+◌, Bool, true, false, List, [], ◌∷◌, ◌++◌, refl, sym, ap, ◌∙◌, subst, append-nil}
use Rattle.elem_core.specs.Tree.{Tree}
use Rattle.elem_core.specs.declared.item.Item.{Item}
use Rattle.port_core.specs.Picks.{next_move, may_end}
use Rattle.port_core.specs.declared.pick_log.Next.{Next}
use Rattle.port_core.specs.declared.pick_log.Next.TheVariants.{Free, Move, UsedUp}
use Rattle.port_core.specs.declared.view.InView.{InView}
use Rattle.port_core.specs.declared.view.InView.TheVariants.{Idle, Pulled, Finished, Cancelled}
use Rattle.port_core.specs.declared.view.OutView.{OutView}
use Rattle.port_core.specs.declared.view.OutView.TheVariants as outlet
use Rattle.port_core.specs.View.{View, OneOneOf, input_closed, output_closed}
use Rattle.stream_model.specs.Outlook.{End, unended, ended, failed}
use Rattle.stream_model.specs.FanIn.{Inflow}
use Rattle.stream_model.specs.Picks.{Buffered, buffered, empty_buffer, nothing_held}
use Rattle.stream_model.specs.declared.kind.Policy.{Policy}
use Rattle.stream_model.specs.Rests.{Waits, IsAsked, IsUnasked, IsShut}
use Rattle.stage_core.specs.OwnPorts.{own_input, own_output}
use Rattle.stage_core.specs.Row.{BothClosed}
use Rattle.stage_core.specs.Seats.{wish}
use Rattle.stage_core.specs.declared.phase.Phase.{Phase}
use Rattle.stage_core.specs.declared.phase.Phase.TheVariants.{New, Open, Closed}
use Rattle.stage_dropping.specs.Drops.{holds, shut, DropGiven, DropKeeps, Keeps, DroppingRestsBy, DropRestsAt, DropRests}
use Rattle.stage_dropping.specs.Droppings.{Dropping, may_take, may_give, lost, in_of, DropKnows, Rested, drop_at, drop_in, pending, held_by, held_in, held_of, DropPortState, DropsAs}

not_both : {b : Bool} → b ≡ true → b ≡ false → ⊥
not_both e f = cc

closed_shut : (x : InView) (y : OutView) → BothClosed x y → (input_closed x ≡ true) × (output_closed y ≡ true)
closed_shut Finished outlet.Closed h = (refl, refl)
closed_shut Finished outlet.Cancelled h = (refl, refl)
closed_shut Cancelled outlet.Closed h = (refl, refl)
closed_shut Cancelled outlet.Cancelled h = (refl, refl)
closed_shut Idle y h = absurd h
closed_shut Pulled y h = absurd h
closed_shut Finished outlet.Unpulled h = absurd h
closed_shut Finished outlet.Available h = absurd h
closed_shut Cancelled outlet.Unpulled h = absurd h
closed_shut Cancelled outlet.Available h = absurd h

asked_wish : (a : Bool) (g : List Tree) → IsAsked (own_output (wish a) g) → a ≡ true
asked_wish true g h = refl
asked_wish false g h = let z : false ≡ true = h.0 in cc

unasked_wish : (a : Bool) (g : List Tree) → a ≡ false → IsUnasked (own_output (wish a) g)
unasked_wish a g h = rw h (refl, refl)

module _ (p : Policy) (n : ℕ) (l : Dropping) (x : InView) (y : OutView) (f : Inflow) (g : List Tree) (k : DropKnows l x y) (r : Rested l) (given : DropGiven p n l.came l.log.moves l.held (pending l) f g) where
  abbrev leaves_none : Bool
  leaves_none = nothing_held (buffered p n l.log.moves f.list empty_buffer).held

  -- where nothing waits its moves leave what it holds
  drained : l.waiting ≡ None → l.held ≡ [] → leaves_none ≡ true
  drained none empty =
      let list : f.list ≡ given.taken = ap (λ (i : Inflow). i.list) given.flow_is ∙ ap (λ (w : Option Tree). given.taken ++ option_to_list w) none ∙ append-nil given.taken in
      ap (λ (t : List Tree). nothing_held (buffered p n l.log.moves t empty_buffer).held) list ∙ ap (λ (b : Buffered). nothing_held b.held) given.buffer_is ∙ ap nothing_held empty

  -- it waits for its input
  waits : l.waiting ≡ None → l.after ≡ unended → Waits (own_input x f.list)
  waits none going =
      let pulled = r.asks going none in
      let is : x ≡ Pulled = k.input ∙ ap (λ e. in_of e l.pulled) going ∙ ap (λ b. in_of unended b) pulled in
      subst (λ i. Waits (own_input i f.list)) (sym is) (refl, refl)

  -- its input has ended, where it does not go on
  over : l.waiting ≡ None → (e : End) → l.after ≡ e → (e ≡ unended → ⊥) → (l.after ≡ ended) × (l.held ≡ [] → may_end (next_move l.log.left) ≡ false)
  over none e is n = r.ends none (λ z. n (sym is ∙ z))

  unasked : (l.asked ≡ true → ⊥) → IsUnasked (own_output y g)
  unasked n = subst (λ o. IsUnasked (own_output o g)) (sym k.output) (unasked_wish l.asked g (by_flag l.asked refl))
    where
      by_flag : (a : Bool) → l.asked ≡ a → l.asked ≡ false
      by_flag false e = e
      by_flag true e = absurd (n e)

  input_over : l.after ≡ ended → IsShut (own_input x f.list)
  input_over is = subst (λ i. IsShut (own_input i f.list)) (sym (k.input ∙ ap (λ e. in_of e l.pulled) is)) refl

  free : next_move l.log.left ≡ Free → DroppingRestsBy Free leaves_none (own_input x f.list) (own_output y g)
  free e = by_end l.after refl
    where
      none : l.waiting ≡ None
      none = r.takes (ap may_take e)

      by_end : (a : End) → l.after ≡ a → DroppingRestsBy Free leaves_none (own_input x f.list) (own_output y g)
      by_end unended is = inl (waits none is, λ asked. drained none (r.gives (asked_wish l.asked g (subst (λ o. IsAsked (own_output o g)) k.output asked)) (ap may_give e)))
      by_end ended is =
          let last = (over none ended is (λ z. cc)).1 in
          inr (input_over is, unasked (λ on. not_both (ap may_end e) (last (r.gives on (ap may_give e)))))
      by_end (failed c) is = let z : failed c ≡ ended = sym is ∙ (over none (failed c) is (λ q. cc)).0 in cc

  to_take : next_move l.log.left ≡ Move zero → Waits (own_input x f.list)
  to_take e = by_end l.after refl
    where
      none : l.waiting ≡ None
      none = r.takes (ap may_take e)

      by_end : (a : End) → l.after ≡ a → Waits (own_input x f.list)
      by_end unended is = waits none is
      by_end ended is =
          let z : lost (next_move l.log.left) l.waiting l.after l.asked l.held ≡ true = ap (λ m. lost m l.waiting l.after l.asked l.held) e ∙ ap (λ w. lost (Move zero) w l.after l.asked l.held) none ∙ ap (λ a. lost (Move zero) None a l.asked l.held) is in
          absurd (not_both z r.goes)
      by_end (failed c) is = let z : failed c ≡ ended = sym is ∙ (over none (failed c) is (λ q. cc)).0 in cc

  to_give : (j : ℕ) → next_move l.log.left ≡ Move (suc j) → IsUnasked (own_output y g)
  to_give j e = unasked (λ on.
      let empty = r.gives on (ap may_give e) in
      let z : lost (next_move l.log.left) l.waiting l.after l.asked l.held ≡ true = ap (λ m. lost m l.waiting l.after l.asked l.held) e ∙ ap (λ a. lost (Move (suc j)) l.waiting l.after a l.held) on ∙ ap (λ h. lost (Move (suc j)) l.waiting l.after true h) empty in
      not_both z r.goes)

  by_next : (next : Next) → next_move l.log.left ≡ next → DroppingRestsBy next leaves_none (own_input x f.list) (own_output y g)
  by_next Free e = free e
  by_next (Move zero) e = to_take e
  by_next (Move (suc j)) e = to_give j e
  by_next UsedUp e = tt

module _ (node : ℕ) (p : Policy) (n : ℕ) (l : Dropping) (x : InView) (y : OutView) where
  rests_closed : (fs : List Inflow) (g : List Tree) (e : End) → BothClosed x y → DropKeeps node p n (shut l.log.moves) fs g e → DropRestsAt (next_move l.log.left) p n l.log.moves x y fs g
  rests_closed [] g e c k = k
  rests_closed (f ∷ h ∷ fs) g e c k = k
  rests_closed (f ∷ []) g e c k = inl (closed_shut x y c)

  rests_open : (fs : List Inflow) (g : List Tree) (e : End) → DropKnows l x y → Rested l → DropKeeps node p n (holds l.came l.log.moves l.held (pending l)) fs g e → DropRestsAt (next_move l.log.left) p n l.log.moves x y fs g
  rests_open [] g e k r d = d
  rests_open (f ∷ h ∷ fs) g e k r d = d
  rests_open (f ∷ []) g e k r d = inr (by_next p n l x y f g k r d.1 (next_move l.log.left) refl)

  rests_by : (fs : List Inflow) (g : List Tree) (e : End) (q : Phase) → l.phase ≡ q → (l.phase ≡ New → ⊥) → drop_at l q x y → DropKeeps node p n (held_by q l) fs g e → DropRestsAt (next_move l.log.left) p n l.log.moves x y fs g
  rests_by fs g e New is n r k = absurd (n is)
  rests_by fs g e Open is n r k = rests_open fs g e r.0 r.1 k
  rests_by fs g e Closed is n r k = rests_closed fs g e r k

  pub rests_at : (fs : List Inflow) (g : List Tree) (e : End) → (l.phase ≡ New → ⊥) → l.log.stuck ≡ false → drop_in l.log.stuck l x y → Keeps node p n (held_of l) fs g e → DropRestsAt (next_move l.log.left) p n l.log.moves x y fs g
  rests_at fs g e started calm r k = rests_by fs g e l.phase refl started (subst (λ b. drop_in b l x y) calm r) (subst (λ b. Keeps node p n (held_in b l) fs g e) calm k)

pub rests : (first now : Dropping) (v : View) (took gave : List (List Item)) → now.log.stuck ≡ false → DropPortState now v → (law : DropsAs first now v took gave)
    → DropRests (next_move now.log.left) first.policy first.size now.log.moves v law.by.law.ins law.by.law.out_list
rests first now v took gave calm r law = by_lists v.ins v.outs r.ports
  where
    by_lists : (xs : List InView) (ys : List OutView) → OneOneOf (drop_in now.log.stuck now) xs ys → DropRests (next_move now.log.left) first.policy first.size now.log.moves (record { ins = xs; outs = ys }) law.by.law.ins law.by.law.out_list
    by_lists (x ∷ []) (y ∷ []) h = rests_at first.node first.policy first.size now x y law.by.law.ins law.by.law.out_list law.by.law.out_end r.started calm h law.by.law.keeps
    by_lists [] ys h = absurd h
    by_lists (x ∷ []) [] h = absurd h
    by_lists (x ∷ []) (y ∷ z ∷ ys) h = absurd h
    by_lists (x ∷ t ∷ xs) ys h = absurd h
