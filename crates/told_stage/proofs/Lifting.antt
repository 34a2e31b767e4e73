-- What a lifted plug owes in a call, by what its logic replied.
use Rattle.std.specs.Prelude.{◌&&◌, ◌≢◌, Result, Ok, Err, OnOk, ⊤}
use Rattle.std.proofs.Common.{◌≡◌, ℕ, Bool, true, false, List, [], ◌∷◌, ◌++◌, refl, sym, ap, ◌∙◌}
use Rattle.elem_core.specs.Sort.{Sort}
use Rattle.elem_core.specs.Tree.{Tree}
use Rattle.elem_core.specs.Typed.{is_of}
use Rattle.elem_core.specs.declared.item.Item.TheVariants as item
use Rattle.elem_core.specs.declared.why.Cause.{Cause}
use Rattle.port_core.specs.Call.{Call, starts, pulls, arrives, cancels}
use Rattle.stream_model.specs.Linear.{Reply, Verdict, go, finish, fail}
use Rattle.plug_logic.specs.Gives.{Gives, after}
use Rattle.stage_linear.specs.declared.course.Course.{Course}
use Rattle.stage_linear.specs.declared.course.Course.TheVariants.{Waits, Idles, Leaves, Closes, Ends}
use Rattle.graph_stage.specs.declared.ask.Ask.{Ask}
use Rattle.graph_stage.specs.declared.ask.Ask.TheVariants.{Pull, Push, Finish, Fail, Pass}
use Rattle.graph_stage.specs.Lifted.{Telling, over, may_reply, asked_course, course_behind_end, failed_asks, failed_course, cancelled_asks, spread_asks, spread_to, leaving_asks, leaving_to, ended_to, replied_asks, replied_to, came_asks, came_to, closing_asks, closing_to, closed_asks, closed_to, behind_last_asks, behind_last_to, lifted_asks, lifted_to, gives_then}
use Rattle.graph_stage.specs.Told.{list_of, ListsOn, all_of, reply_if, typed_gives}

-- what holds of an answer by what else does
pub on_ok : {T E : Type 0} {A B : Type 0} (r : Result T E) → OnOk r A → (A → B) → OnOk r B
on_ok (Ok t) a f = f a
on_ok (Err e) a f = tt

pub on_ok_all : {T E : Type 0} {A B C : Type 0} (r : Result T E) → OnOk r A → OnOk r B → (A → B → C) → OnOk r C
on_ok_all (Ok t) a b f = f a b
on_ok_all (Err e) a b f = tt

pub on_ok_none : {T E : Type 0} (r : Result T E) → OnOk r ⊤
on_ok_none (Ok t) = tt
on_ok_none (Err e) = tt

-- what is left of it behind an element of the type of its input
typed_after : (k : Sort) (p : Gives) (t : Tree) → is_of k t ≡ true → typed_gives k (after p t) ≡ after (typed_gives k p) t
typed_after k p t h =
    ap (λ (b : Bool). record { reply = λ l u. reply_if ((b && all_of k l) && is_of k u) (p.reply (t ∷ l) u); closing = λ l. reply_if (b && all_of k l) (p.closing (t ∷ l)) }) (sym h)

-- ---- where it is over

leaving_over : (l : List Tree) → may_reply (leaving_to l).course ≡ false
leaving_over [] = refl
leaving_over (t ∷ l) = refl

ended_over : (c : Course) (l : List Tree) → may_reply (ended_to c l).course ≡ false
ended_over c [] = refl
ended_over Waits (t ∷ l) = refl
ended_over Idles (t ∷ l) = refl
ended_over Leaves (t ∷ l) = refl
ended_over Closes (t ∷ l) = refl
ended_over Ends (t ∷ l) = refl

closing_over : (c : Course) (g : List Tree) (w : Verdict) → may_reply (closing_to c (record { gave = g; verdict = w })).course ≡ false
closing_over c g go = ended_over c g
closing_over c g finish = ended_over c g
closing_over c g (fail n) = refl

module _ (k : Sort) (p q : Gives) (s : Telling) (asks : List Ask) (n : Sort) (to : Telling) (same : n ≡ k) where
  -- it asked as it tells, stands so, and its logic is what is left while it may be called
  lists_on : (call : Call) → asks ≡ lifted_asks (typed_gives k p) s call → to ≡ lifted_to (typed_gives k p) s call
      → (may_reply (lifted_to (typed_gives k p) s call).course ≡ true → typed_gives k q ≡ gives_then (typed_gives k p) call) → ListsOn (typed_gives k p) s call asks (list_of (typed_gives n q) to)
  lists_on call a j h = record { left = typed_gives k q; asked = a; stands = ap (λ (z : Sort). list_of (typed_gives z q) to) same ∙ ap (list_of (typed_gives k q)) j; follows = h }

  -- the same where it is over
  over_on : (call : Call) → asks ≡ lifted_asks (typed_gives k p) s call → to ≡ lifted_to (typed_gives k p) s call → may_reply to.course ≡ false
      → ListsOn (typed_gives k p) s call asks (list_of (typed_gives n q) to)
  over_on call a j e = lists_on call a j (λ h. let is_over : may_reply to.course ≡ true = ap (λ (z : Telling). may_reply z.course) j ∙ h in cc)

  pub started : q ≡ p → asks ≡ [] → to ≡ s → ListsOn (typed_gives k p) s starts asks (list_of (typed_gives n q) to)
  started i a j = lists_on starts a j (λ h. ap (typed_gives k) i)

  -- ---- an element came

  module _ (i : ℕ) (e : Tree) where
    abbrev elem : Call
    elem = arrives i (item.Elem e)

    abbrev reply : Reply
    reply = p.reply [] e

    asks_as : (on typed : Bool) → may_reply s.course ≡ on → is_of k e ≡ typed → lifted_asks (typed_gives k p) s elem ≡ came_asks on s.pending (reply_if typed reply)
    asks_as on typed g t = ap (λ (z : Bool). came_asks z s.pending (reply_if (is_of k e) reply)) g ∙ ap (λ (z : Bool). came_asks on s.pending (reply_if z reply)) t

    stands_as : (on typed : Bool) → may_reply s.course ≡ on → is_of k e ≡ typed → lifted_to (typed_gives k p) s elem ≡ came_to on s.pending (reply_if typed reply)
    stands_as on typed g t = ap (λ (z : Bool). came_to z s.pending (reply_if (is_of k e) reply)) g ∙ ap (λ (z : Bool). came_to on s.pending (reply_if z reply)) t

    asks_by : (v : Verdict) → reply.verdict ≡ v → replied_asks s.pending reply ≡ replied_asks s.pending (record { gave = reply.gave; verdict = v })
    asks_by v e = ap (λ (z : Verdict). replied_asks s.pending (record { gave = reply.gave; verdict = z })) e

    stands_by : (v : Verdict) → reply.verdict ≡ v → replied_to s.pending reply ≡ replied_to s.pending (record { gave = reply.gave; verdict = v })
    stands_by v e = ap (λ (z : Verdict). replied_to s.pending (record { gave = reply.gave; verdict = z })) e

    -- one that is over, or one of another type
    pub refused_over : may_reply s.course ≡ false → asks ≡ Fail 0 ∷ [] → to ≡ over → ListsOn (typed_gives k p) s elem asks (list_of (typed_gives n q) to)
    refused_over g a j = over_on elem (a ∙ sym (asks_as false (is_of k e) g refl)) (j ∙ sym (stands_as false (is_of k e) g refl)) (ap (λ (z : Telling). may_reply z.course) j)

    pub refused_typed : may_reply s.course ≡ true → is_of k e ≡ false → asks ≡ Fail 0 ∷ [] → to ≡ over → ListsOn (typed_gives k p) s elem asks (list_of (typed_gives n q) to)
    refused_typed g t a j = over_on elem (a ∙ sym (asks_as true false g t)) (j ∙ sym (stands_as true false g t)) (ap (λ (z : Telling). may_reply z.course) j)

    module _ (g : may_reply s.course ≡ true) (t : is_of k e ≡ true) where
      pub came_go : (out : List Tree) → reply.verdict ≡ go → out ≡ s.pending ++ reply.gave → q ≡ after p e → asks ≡ spread_asks out → to ≡ spread_to out → ListsOn (typed_gives k p) s elem asks (list_of (typed_gives n q) to)
      came_go out v o l a j =
          lists_on elem (a ∙ ap spread_asks o ∙ sym (asks_as true true g t ∙ asks_by go v)) (j ∙ ap spread_to o ∙ sym (stands_as true true g t ∙ stands_by go v)) (λ h. ap (typed_gives k) l ∙ typed_after k p e t)

      pub came_finish : (out : List Tree) → reply.verdict ≡ finish → out ≡ s.pending ++ reply.gave → asks ≡ leaving_asks out → to ≡ leaving_to out → ListsOn (typed_gives k p) s elem asks (list_of (typed_gives n q) to)
      came_finish out v o a j =
          over_on elem (a ∙ ap leaving_asks o ∙ sym (asks_as true true g t ∙ asks_by finish v)) (j ∙ ap leaving_to o ∙ sym (stands_as true true g t ∙ stands_by finish v))
          (ap (λ (z : Telling). may_reply z.course) j ∙ leaving_over out)

      pub came_fail : (m : ℕ) → reply.verdict ≡ fail m → asks ≡ Fail m ∷ [] → to ≡ over → ListsOn (typed_gives k p) s elem asks (list_of (typed_gives n q) to)
      came_fail m v a j =
          over_on elem (a ∙ sym (asks_as true true g t ∙ asks_by (fail m) v)) (j ∙ sym (stands_as true true g t ∙ stands_by (fail m) v)) (ap (λ (z : Telling). may_reply z.course) j)

  -- ---- its output was asked

  module _ (i : ℕ) where
    pub pulled_none : s.pending ≡ [] → q ≡ p → asks ≡ Pull 0 ∷ [] → to ≡ record s { course = asked_course s.course } → ListsOn (typed_gives k p) s (pulls i) asks (list_of (typed_gives n q) to)
    pulled_none e l a j =
        lists_on (pulls i) (a ∙ ap (λ (z : List Tree). lifted_asks (typed_gives k p) (record { pending = z; course = s.course }) (pulls i)) (sym e))
        (j ∙ ap (λ (z : List Tree). record { pending = z; course = asked_course s.course }) e ∙ ap (λ (z : List Tree). lifted_to (typed_gives k p) (record { pending = z; course = s.course }) (pulls i)) (sym e)) (λ h. ap (typed_gives k) l)

    module _ (t : Tree) (rest : Telling) (is : s ≡ record rest { pending = t ∷ rest.pending }) where
      asks_of : (l : List Tree) → rest.pending ≡ l → lifted_asks (typed_gives k p) s (pulls i) ≡ lifted_asks (typed_gives k p) (record { pending = t ∷ l; course = rest.course }) (pulls i)
      asks_of l e = ap (λ (z : Telling). lifted_asks (typed_gives k p) z (pulls i)) is ∙ ap (λ (z : List Tree). lifted_asks (typed_gives k p) (record { pending = t ∷ z; course = rest.course }) (pulls i)) e

      stands_of : (l : List Tree) → rest.pending ≡ l → lifted_to (typed_gives k p) s (pulls i) ≡ lifted_to (typed_gives k p) (record { pending = t ∷ l; course = rest.course }) (pulls i)
      stands_of l e = ap (λ (z : Telling). lifted_to (typed_gives k p) z (pulls i)) is ∙ ap (λ (z : List Tree). lifted_to (typed_gives k p) (record { pending = t ∷ z; course = rest.course }) (pulls i)) e

      last_asks : (c : Course) → behind_last_asks p c ≡ behind_last_asks (typed_gives k p) c
      last_asks Waits = refl
      last_asks Idles = refl
      last_asks Leaves = refl
      last_asks Closes = refl
      last_asks Ends = refl

      last_to : (c : Course) → behind_last_to p c ≡ behind_last_to (typed_gives k p) c
      last_to Waits = refl
      last_to Idles = refl
      last_to Leaves = refl
      last_to Closes = refl
      last_to Ends = refl

      last_left : (c : Course) → (c ≢ Closes → q ≡ p) → may_reply (behind_last_to (typed_gives k p) c).course ≡ true → typed_gives k q ≡ typed_gives k p
      last_left Waits l h = ap (typed_gives k) (l (λ e. cc))
      last_left Idles l h = ap (typed_gives k) (l (λ e. cc))
      last_left Leaves l h = cc
      last_left Closes l h = let is_over : may_reply (closing_to Closes (p.closing [])).course ≡ false = closing_over Closes (p.closing []).gave (p.closing []).verdict in cc
      last_left Ends l h = cc

      -- the last that it held went out
      pub pulled_last : rest.pending ≡ [] → (rest.course ≢ Closes → q ≡ p) → asks ≡ Push 0 t ∷ behind_last_asks p rest.course → to ≡ behind_last_to p rest.course
          → ListsOn (typed_gives k p) s (pulls i) asks (list_of (typed_gives n q) to)
      pulled_last e l a j =
          lists_on (pulls i) (a ∙ ap (λ (z : List Ask). Push 0 t ∷ z) (last_asks rest.course) ∙ sym (asks_of [] e)) (j ∙ last_to rest.course ∙ sym (stands_of [] e))
          (λ h. last_left rest.course l (ap (λ (z : Telling). may_reply z.course) (sym (stands_of [] e)) ∙ h))

      more_by : (l : List Tree) → rest.pending ≡ l → (rest.pending ≡ [] → ⊥) → q ≡ p → asks ≡ Push 0 t ∷ [] → to ≡ rest → ListsOn (typed_gives k p) s (pulls i) asks (list_of (typed_gives n q) to)
      more_by [] e some l a j = absurd (some e)
      more_by (u ∷ us) e some l a j =
          lists_on (pulls i) (a ∙ sym (asks_of (u ∷ us) e)) (j ∙ ap (λ (z : List Tree). record { pending = z; course = rest.course }) e ∙ sym (stands_of (u ∷ us) e)) (λ h. ap (typed_gives k) l)

      -- it holds more
      pub pulled_more : (rest.pending ≡ [] → ⊥) → q ≡ p → asks ≡ Push 0 t ∷ [] → to ≡ rest → ListsOn (typed_gives k p) s (pulls i) asks (list_of (typed_gives n q) to)
      pulled_more some l a j = more_by rest.pending refl some l a j

  -- ---- its input has ended

  module _ (i : ℕ) where
    abbrev end : Call
    end = arrives i item.Ended

    held_by : (l : List Tree) → s.pending ≡ l → (s.pending ≡ [] → ⊥) → q ≡ p → asks ≡ [] → to ≡ record s { course = course_behind_end s.course } → ListsOn (typed_gives k p) s end asks (list_of (typed_gives n q) to)
    held_by [] e some l a j = absurd (some e)
    held_by (t ∷ us) e some l a j =
        lists_on end (a ∙ ap (λ (z : List Tree). lifted_asks (typed_gives k p) (record { pending = z; course = s.course }) end) (sym e))
        (j ∙ ap (λ (z : List Tree). record { pending = z; course = course_behind_end s.course }) e ∙ ap (λ (z : List Tree). lifted_to (typed_gives k p) (record { pending = z; course = s.course }) end) (sym e)) (λ h. ap (typed_gives k) l)

    -- it holds something
    pub ended_held : (s.pending ≡ [] → ⊥) → q ≡ p → asks ≡ [] → to ≡ record s { course = course_behind_end s.course } → ListsOn (typed_gives k p) s end asks (list_of (typed_gives n q) to)
    ended_held some l a j = held_by s.pending refl some l a j

    end_asks : (on : Bool) → s.pending ≡ [] → may_reply s.course ≡ on → lifted_asks (typed_gives k p) s end ≡ closed_asks on s.course (p.closing [])
    end_asks on e g = ap (λ (z : List Tree). lifted_asks (typed_gives k p) (record { pending = z; course = s.course }) end) e ∙ ap (λ (z : Bool). closed_asks z s.course (p.closing [])) g

    end_to : (on : Bool) → s.pending ≡ [] → may_reply s.course ≡ on → lifted_to (typed_gives k p) s end ≡ closed_to on s.course (p.closing [])
    end_to on e g = ap (λ (z : List Tree). lifted_to (typed_gives k p) (record { pending = z; course = s.course }) end) e ∙ ap (λ (z : Bool). closed_to z s.course (p.closing [])) g

    -- it holds nothing, and goes on
    pub ended_none : s.pending ≡ [] → may_reply s.course ≡ true → asks ≡ closing_asks s.course (p.closing []) → to ≡ closing_to s.course (p.closing []) → ListsOn (typed_gives k p) s end asks (list_of (typed_gives n q) to)
    ended_none e g a j =
        over_on end (a ∙ sym (end_asks true e g)) (j ∙ sym (end_to true e g)) (ap (λ (z : Telling). may_reply z.course) j ∙ closing_over s.course (p.closing []).gave (p.closing []).verdict)

    -- it is over
    pub ended_over_on : s.pending ≡ [] → may_reply s.course ≡ false → asks ≡ Finish ∷ [] → to ≡ over → ListsOn (typed_gives k p) s end asks (list_of (typed_gives n q) to)
    ended_over_on e g a j = over_on end (a ∙ sym (end_asks false e g)) (j ∙ sym (end_to false e g)) (ap (λ (z : Telling). may_reply z.course) j)

  -- ---- its input has failed, or its output was cancelled

  pub failed_leaving : (i : ℕ) (f : Cause) → s.course ≡ Leaves → q ≡ p → asks ≡ [] → to ≡ record s { course = Ends } → ListsOn (typed_gives k p) s (arrives i (item.Failed f)) asks (list_of (typed_gives n q) to)
  failed_leaving i f c l a j =
      lists_on (arrives i (item.Failed f)) (a ∙ ap failed_asks (sym c)) (j ∙ ap (λ (z : Course). record { pending = s.pending; course = failed_course z }) (sym c)) (λ h. ap (typed_gives k) l)

  -- any other course
  passes : (c : Course) → c ≢ Leaves → (failed_asks c ≡ Pass ∷ []) × (failed_course c ≡ c)
  passes Waits h = (refl, refl)
  passes Idles h = (refl, refl)
  passes Leaves h = absurd (h refl)
  passes Closes h = (refl, refl)
  passes Ends h = (refl, refl)

  pub failed_other : (i : ℕ) (f : Cause) → s.course ≢ Leaves → q ≡ p → asks ≡ Pass ∷ [] → to ≡ s → ListsOn (typed_gives k p) s (arrives i (item.Failed f)) asks (list_of (typed_gives n q) to)
  failed_other i f c l a j =
      let o = passes s.course c in
      lists_on (arrives i (item.Failed f)) (a ∙ sym o.0) (j ∙ ap (λ (z : Course). record { pending = s.pending; course = z }) (sym o.1)) (λ h. ap (typed_gives k) l)

  pub cancelled : (i : ℕ) → q ≡ p → asks ≡ cancelled_asks s.course → to ≡ s → ListsOn (typed_gives k p) s (cancels i) asks (list_of (typed_gives n q) to)
  cancelled i l a j = lists_on (cancels i) a j (λ h. ap (typed_gives k) l)
