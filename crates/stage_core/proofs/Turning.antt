-- One turn keeps what an output keeps: by its five forms, from what was owed before to what was pushed and is owed then.
use Rattle.std.proofs.Common.{◌≡◌, ℕ, ◌-◌, ◌≤◌, false, IsTrue, inl, inr, List, [], ◌∷◌, ◌++◌, length, take, refl, sym, ap, subst, ◌∙◌, arith, append_assoc, append-nil, length-append}
use Rattle.elem_core.specs.Tree.{Tree}
use Rattle.elem_core.specs.declared.why.Cause.{Cause}
use Rattle.elem_core.proofs.Prefixes.{prefix_append, prefix_length, prefix_take, prefix_take_le}
use Rattle.stream_model.specs.Outlook.{End, unended, ended, failed}
use Rattle.stream_model.specs.Machine.{State, going, done, broken, Run, Finish, adds, refuses, Machine, is_going, feed, run, close_at, close, CutBy, at_finish, of_input, Stands}
use Rattle.stream_model.proofs.MachineLaws.{run-append, gave_prefix}
use Rattle.elem_core.specs.declared.item.Item.{Item}
use Rattle.elem_core.specs.declared.item.Item.TheVariants as item
use Rattle.stage_core.specs.Held.{told, Held, owing, shut, sealed_by, sealed_at, failed_at, after}
use Rattle.stage_core.specs.Turn.{Emits, Few, FewIn, MayDrop, DropsAtEnd, DropsAtFailure}
use Rattle.stage_core.specs.Law.{ends_by, Lags, Keeps}
use Rattle.stage_core.proofs.Told.{Parts, parts}
use Rattle.stage_core.proofs.Steps.{before, after_behind}
use Rattle.stage_core.proofs.History.{open_gives, stands_stopped}
use Rattle.stage_core.proofs.Lagging.{lags_grow, few_lags}

module _ {S : Type 0} (m : Machine S Tree) (start : Run S Tree) where
  -- what was pushed, read as elements and an end, and the law with it
  pub record Pushed (new : Held S) (l : List Tree) (e : End) (g : List Tree) (out : List Item) : Type 0 where
    pub list : List Tree
    pub end : End
    pub out_is : out ≡ told list end
    pub keeps : Keeps m start new l e (g ++ list) end

  same_end : (g h : List Tree) (st : State S) → (close_at m g st unended).end ≡ (close_at m h st unended).end
  same_end g h (going s) = refl
  same_end g h done = refl
  same_end g h (broken c) = refl

  pub emit_keeps : (y : Run S Tree) (l : List Tree) (e : End) (g : List Tree) (out : List Item) (new : Held S) → ends_by m (run m start l) e ≡ before g y → Emits m y out new
      → ((z : Run S Tree) (o : List Tree) → new ≡ owing z → y.gave ≡ o ++ z.gave → IsTrue (is_going z.state) → 1 ≤ m.hold → Lags m start l (g ++ o)) → Pushed new l e g out
  emit_keeps y l e g out shut is h lag =
      let stands : Stands m start l e (g ++ y.gave) (close_at m (g ++ y.gave) y.state unended).end = stands_stopped m start l e (g ++ y.gave) y.state is h.0 in
      record {
        list = y.gave;
        end = (close m y unended).end;
        out_is = h.1 ∙ ap (λ (k : List Tree). told k (close m y unended).end) (open_gives m y.gave y.state);
        keeps = subst (λ (f : End). Stands m start l e (g ++ y.gave) f) (same_end (g ++ y.gave) y.gave y.state) stands;
      }
  emit_keeps y l e g out (owing z) is h lag =
      let p : Parts y.gave out z.gave = parts y.gave out z.gave h.0 in
      let at : ends_by m (run m start l) e ≡ record { gave = (g ++ p.first) ++ z.gave; state = z.state } =
      is
      ∙ ap (λ (k : List Tree). record { gave = g ++ k; state = y.state }) p.list_is
      ∙ ap (λ (k : List Tree). record { gave = k; state = y.state }) (sym (append_assoc g p.first z.gave))
      ∙ ap (λ (st : State S). record { gave = (g ++ p.first) ++ z.gave; state = st }) (sym h.1) in
      record {
        list = p.first;
        end = unended;
        out_is = p.out_is;
        keeps = (refl, (at, λ on one. lag z p.first refl p.list_is on one));
      }

  -- a turn without an item
  pub still : (x : Run S Tree) (l : List Tree) (e : End) (g : List Tree) (out : List Item) (new : Held S) → Emits m x out new → Keeps m start (owing x) l e g unended → Pushed new l e g out
  still x l e g out shut h k = emit_keeps x l e g out shut k.1.0 h (λ z o same _ on one. cc)
  still x l e g out (owing z) h k =
      emit_keeps x l e g out (owing z) k.1.0 h (λ y o same _ on one.
      let yz : z ≡ y = cc in
      let at : IsTrue (is_going x.state) = rw (← h.1, yz) on in
      lags_grow m start l g o (k.1.1 at one))

  -- an element came
  few_of : (x : Run S Tree) (t : Tree) (new : Held S) (z : Run S Tree) → FewIn m x t new → new ≡ owing z → Few m x t z
  few_of x t (owing y) z h is = let e : y ≡ z = cc in rw (← e) h
  few_of x t shut z h is = cc

  state_of : (y : Run S Tree) (out : List Item) (new : Held S) (z : Run S Tree) → Emits m y out new → new ≡ owing z → z.state ≡ y.state
  state_of y out (owing w) z h is = let e : w ≡ z = cc in rw (← e) h.1
  state_of y out shut z h is = cc

  was_going : (x : Run S Tree) (t : Tree) → IsTrue (is_going (feed m x t).state) → IsTrue (is_going x.state)
  was_going x t h = at x.gave x.state h
    where
      at : (g : List Tree) (st : State S) → IsTrue (is_going (feed m (record { gave = g; state = st }) t).state) → IsTrue (is_going st)
      at g (going s) h = refl
      at g done h = h
      at g (broken c) h = h

  pub element : (x : Run S Tree) (t : Tree) (l : List Tree) (g : List Tree) (out : List Item) (new : Held S) → Emits m (feed m x t) out new → FewIn m x t new → Keeps m start (owing x) l unended g unended
      → Pushed new (l ++ t ∷ []) unended g out
  element x t l g out new h few k =
      let now : run m start (l ++ t ∷ []) ≡ before g (feed m x t) =
      run-append m start l (t ∷ []) ∙ ap (λ (y : Run S Tree). feed m y t) k.1.0 ∙ after_behind m g x (item.Elem t) in
      emit_keeps (feed m x t) (l ++ t ∷ []) unended g out new now h (λ z o same parts on one.
      let at : IsTrue (is_going (feed m x t).state) = rw (← state_of (feed m x t) out new z h same) on in
      few_lags m start x z t l g o k.1.0 now parts at one (k.1.1 (was_going x t at) one) (few_of x t new z few same))

  -- the end came, and nothing is dropped
  sealed_stops : (g : List Tree) (f : Finish Tree) → is_going (sealed_by m g f).state ≡ false
  sealed_stops g (adds o) = refl
  sealed_stops g (refuses c) = refl

  sealed_stops_at : (g : List Tree) (st : State S) → is_going (sealed_at m g st).state ≡ false
  sealed_stops_at g (going s) = sealed_stops g (m.finish s)
  sealed_stops_at g done = refl
  sealed_stops_at g (broken c) = refl

  failed_stops_at : (g : List Tree) (st : State S) (c : Cause) → is_going (failed_at m g st c).state ≡ false
  failed_stops_at g (going s) c = refl
  failed_stops_at g done c = refl
  failed_stops_at g (broken d) c = refl

  pub finished : (x : Run S Tree) (l : List Tree) (g : List Tree) (out : List Item) (new : Held S) → Emits m (after m x item.Ended) out new → Keeps m start (owing x) l unended g unended → Pushed new l ended g out
  finished x l g out new h k =
      let now : ends_by m (run m start l) ended ≡ before g (after m x item.Ended) = ap (λ (y : Run S Tree). after m y item.Ended) k.1.0 ∙ after_behind m g x item.Ended in
      emit_keeps (after m x item.Ended) l ended g out new now h (λ z o same parts on one.
      let off : is_going z.state ≡ false = ap is_going (state_of (after m x item.Ended) out new z h same) ∙ sealed_stops_at x.gave x.state in
      cc)

  pub failing : (x : Run S Tree) (c : Cause) (l : List Tree) (g : List Tree) (out : List Item) (new : Held S) → Emits m (after m x (item.Failed c)) out new → Keeps m start (owing x) l unended g unended → Pushed new l (failed c) g out
  failing x c l g out new h k =
      let now : ends_by m (run m start l) (failed c) ≡ before g (after m x (item.Failed c)) = ap (λ (y : Run S Tree). after m y (item.Failed c)) k.1.0 ∙ after_behind m g x (item.Failed c) in
      emit_keeps (after m x (item.Failed c)) l (failed c) g out new now h (λ z o same parts on one.
      let off : is_going z.state ≡ false = ap is_going (state_of (after m x (item.Failed c)) out new z h same) ∙ failed_stops_at x.gave x.state c in
      cc)

  -- an end came, and what was held is dropped
  cut_enough : (h : ℕ) (x : Run S Tree) (l g : List Tree) → m.hold ≤ h → IsTrue (is_going x.state) → MayDrop m x → Keeps m start (owing x) l unended g unended → length (run m start (take (length l - h) l)).gave ≤ length g
  cut_enough h x l g le on (inl none) k =
      let all = prefix_length (gave_prefix m start (prefix_take (length l - h) l)) in
      let e = ap (λ (y : Run S Tree). length y.gave) k.1.0 in
      let n = ap length none in
      omega (arith, all, e, n, length-append g x.gave)
  cut_enough h x l g le on (inr one) k =
      let lag = k.1.1 on one in
      let less = prefix_length (gave_prefix m start (prefix_take_le (length l - h) (length l - m.hold) l (omega (arith, le)))) in
      omega (arith, lag, less)

  cut : (h : ℕ) (x : Run S Tree) (l g : List Tree) → m.hold ≤ h → IsTrue (is_going x.state) → MayDrop m x → Keeps m start (owing x) l unended g unended → CutBy m h start l g
  cut h x l g le on may k = record {
    part = rw k.1.0 (prefix_append g x.gave);
    enough = cut_enough h x l g le on may k;
  }

  pub dropped : (x : Run S Tree) (c : Cause) (l g : List Tree) (out : List Item) (new : Held S) → DropsAtFailure m x c out new → Keeps m start (owing x) l unended g unended → Pushed new l (failed c) g out
  dropped x c l g out new ((on, may), (is, over)) k =
      let at : IsTrue (is_going (run m start l).state) = ap (λ (y : Run S Tree). is_going y.state) k.1.0 ∙ on in
      record {
        list = [];
        end = failed c;
        out_is = is;
        keeps = rw (over, append-nil) (of_input at (cut m.hold x l g (omega arith) on may k));
      }

  pub dropped_at_end : (x : Run S Tree) (l g : List Tree) (out : List Item) (new : Held S) → DropsAtEnd m x out new → Keeps m start (owing x) l unended g unended → Pushed new l ended g out
  dropped_at_end x l g out new (s, (c, (at, (refusal, ((may, early), (is, over)))))) k =
      let here : (run m start l).state ≡ going s = ap (λ (y : Run S Tree). y.state) k.1.0 ∙ at in
      record {
        list = [];
        end = failed c;
        out_is = is;
        keeps = rw (over, append-nil) (at_finish here refusal (cut m.early x l g early (ap is_going at) may k));
      }
