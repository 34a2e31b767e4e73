-- A turn of a recover keeps its law and what it gives, for every rest; and the law says what a recover may have given.
use Rattle.std.proofs.Common.{◌≡◌, ◌⊎◌, inl, inr, ℕ, ◌+◌, ◌≤◌, ◌<◌, List, [], ◌∷◌, ◌++◌, length, take, refl, sym, ap, ◌∙◌, subst, arith, append-nil, append_assoc}
use Rattle.std.proofs.Math.Seq.{take-append_seam}
use Rattle.std.proofs.lemmas.List.{length-append}
use Rattle.elem_core.specs.Prefix.{IsPrefix}
use Rattle.elem_core.proofs.Prefixes.{prefix_refl}
use Rattle.elem_core.specs.Tree.{Tree}
use Rattle.elem_core.specs.declared.item.Item.{Item}
use Rattle.elem_core.specs.declared.why.Cause.{Cause}
use Rattle.stream_model.specs.Outlook.{End, unended, ended, failed}
use Rattle.stream_model.specs.FanIn.{Inflow}
use Rattle.stream_model.specs.Picks.{Turned, RecoverStands}
use Rattle.port_core.specs.declared.act.Act.{Act}
use Rattle.port_core.specs.View.{View, out_at, ActsAllowed, acted_all}
use Rattle.port_core.specs.Call.{Call, starts, pulls, arrives, cancels, AllIdle, CallAllowed, seen, brought_to, given_on}
use Rattle.stage_core.specs.Held.{told}
use Rattle.stage_core.specs.Law.{GaveAs}
use Rattle.stage_core.specs.Inflows.{nothing_came, joined, joined_at, joined_all, coming}
use Rattle.stage_core.proofs.Inflows.{Stepped, ports_law, new_ports}
use Rattle.stage_core.proofs.Told.{told-append}
use Rattle.port_core.specs.declared.pick_log.Next.{Next}
use Rattle.port_core.specs.declared.pick_log.Next.TheVariants.{Free, Move, UsedUp}
use Rattle.stage_dropping.specs.Recovers.{RecoverHeld, passes, turned, stopped, shut, StopsFor, HasStopped, GivesAfter, own_items, recovered, recovered_by, recover_gives, IsBroken, RecoverCloses, RecoverStep, OwnStep, RecoverRefused, RecoverTurnAt, RecoverKeeps, RecoverLaw, RecoverStandsOf, RecoverResidual, RecoverRest, recover_moves}

joined_is : (f c : Inflow) → f.end ≡ unended → joined f c ≡ record { list = f.list ++ c.list; end = c.end }
joined_is f c u = ap (λ (e : End). joined_at e f.list c) u

joined_broken : (f r : Inflow) (c : Cause) → f.end ≡ failed c → joined f r ≡ f
joined_broken f r c is = ap (λ (e : End). joined_at e f.list r) is ∙ ap (λ (e : End). record { list = f.list; end = e }) (sym is)

cause_of : (e : End) → IsBroken e → (c : Cause) × (e ≡ failed c)
cause_of unended b = absurd b
cause_of ended b = absurd b
cause_of (failed c) b = (c, refl)

pub all_of : (l : List Tree) (n : ℕ) → length l ≡ n → take n l ≡ l
all_of l n e = ap (λ (k : List Tree). take n k) (sym (append-nil l)) ∙ ap (λ (m : ℕ). take m (l ++ [])) (sym e) ∙ take-append_seam l []

-- what was a first part of what came is one still
longer : (f c : Inflow) (g : List Tree) → IsPrefix g f.list → IsPrefix g (joined f c).list
longer f c g p = by_end f.end
  where
    by_end : (e : End) → IsPrefix g (joined_at e f.list c).list
    by_end unended = record { rest = p.rest ++ c.list; is = ap (λ (l : List Tree). l ++ c.list) p.is ∙ append_assoc g p.rest c.list }
    by_end ended = record { rest = p.rest; is = p.is }
    by_end (failed x) = record { rest = p.rest; is = p.is }

-- and what stopped it stands
stays : (next : Next) (f c : Inflow) → HasStopped next f → HasStopped next (joined f c)
stays next f c h = by_end next f.end f.list h
  where
    by_end : (next : Next) (e : End) (l : List Tree) → HasStopped next (record { list = l; end = e }) → HasStopped next (joined_at e l c)
    by_end Free e l h = absurd h
    by_end UsedUp unended l h = absurd h
    by_end UsedUp ended l h = absurd h
    by_end UsedUp (failed x) l h = tt
    by_end (Move k) unended l (inl e) = cc
    by_end (Move k) unended l (inr (inl b)) = absurd b.0
    by_end (Move k) unended l (inr (inr more)) = inr (inr (let a = length-append l c.list in omega (arith, a, more)))
    by_end (Move k) ended l h = inl refl
    by_end (Move k) (failed x) l (inl e) = cc
    by_end (Move k) (failed x) l (inr h) = inr h

module _ (t : Tree) where
  -- ---- one step

  module _ (n : ℕ) (f c : Inflow) (g : List Tree) (out : List Item) (all : g ≡ f.list) (count : length g ≡ n) where
    -- what has come then
    abbrev now : Inflow
    now = record { list = f.list ++ c.list; end = c.end }

    none : c.list ≡ [] → f.list ++ c.list ≡ g
    none e = ap (λ (l : List Tree). f.list ++ l) e ∙ append-nil f.list ∙ sym all

    broke : c.list ≡ [] → IsBroken c.end → Turned n now
    broke e b = (ap length (none e) ∙ count, cause_of c.end b)

    passes_on : (k : ℕ) → RecoverStep t n c out (passes k) → Stepped (RecoverKeeps t (passes k)) (now ∷ []) g out
    passes_on k s = record {
      list = c.list;
      end = unended;
      out_is = s.1.1;
      keeps = (refl, (s.0, (ap (λ (l : List Tree). l ++ c.list) all, length-append g c.list ∙ ap (λ (m : ℕ). m + length c.list) count ∙ sym s.1.0)));
    }

    turns : (k : ℕ) → RecoverStep t n c out (turned k) → Stepped (RecoverKeeps t (turned k)) (now ∷ []) g out
    turns k s = record {
      list = [];
      end = unended;
      out_is = s.1.1.1;
      keeps = (refl, (subst (λ (m : ℕ). Turned m now) (sym s.1.1.0) (broke s.0 s.1.0), append-nil g ∙ sym (none s.0)));
    }

    closes : (moves : List ℕ) → RecoverCloses t n c out moves → Stepped (RecoverKeeps t (shut moves)) (now ∷ []) g out
    closes [] s = record { list = []; end = ended; out_is = s.1.1; keeps = (omega arith, (s.1.0, append-nil g ∙ sym (none s.0))) }
    closes (k ∷ []) s = record {
      list = t ∷ [];
      end = ended;
      out_is = s.1.1.1;
      keeps = (omega arith, (subst (λ (m : ℕ). Turned m now) (sym s.1.1.0) (broke s.0 s.1.0), ap (λ (l : List Tree). l ++ t ∷ []) (sym (ap (λ (m : ℕ). take m (f.list ++ c.list)) s.1.1.0 ∙ ap (take n) (none s.0) ∙ all_of g n count))));
    }
    closes (k ∷ j ∷ moves) s = absurd s

    stops_by : (next : Next) → StopsFor next n c → HasStopped next now
    stops_by Free s = absurd s
    stops_by UsedUp s = s.1
    stops_by (Move k) (inl (none_came, inl e)) = inl e
    stops_by (Move k) (inl (none_came, inr (b, less))) = let long = ap length (none none_came) ∙ count in inr (inl (b, omega (arith, long, less)))
    stops_by (Move k) (inr (one, (open_still, e))) =
        let all_long = length-append f.list c.list in
        let had = ap length all in
        inr (inr (omega (arith, all_long, had, count, one, e)))

    stops : (next : Next) → RecoverStep t n c out (stopped next) → Stepped (RecoverKeeps t (stopped next)) (now ∷ []) g out
    stops next s = record {
      list = [];
      end = unended;
      out_is = s.0;
      keeps = (refl, (record { rest = c.list; is = ap (λ (l : List Tree). l ++ c.list) (sym all ∙ sym (append-nil g)) }, stops_by next s.1));
    }

    steps : (new : RecoverHeld) → RecoverStep t n c out new → Stepped (RecoverKeeps t new) (now ∷ []) g out
    steps (passes k) s = passes_on k s
    steps (turned k) s = turns k s
    steps (stopped next) s = stops next s
    steps (shut moves) s = closes moves s

  -- its own element is owed
  owed : (n : ℕ) (f : Inflow) (g : List Tree) (out : List Item) (new : RecoverHeld) → Turned n f → g ≡ f.list → OwnStep t n out new → Stepped (RecoverKeeps t new) (f ∷ []) g out
  owed n f g out (passes k) b all s = absurd s
  owed n f g out (turned k) b all s = record { list = []; end = unended; out_is = s.1; keeps = (refl, (subst (λ (m : ℕ). Turned m f) (sym s.0) b, append-nil g ∙ all)) }
  owed n f g out (stopped next) b all s = absurd s
  owed n f g out (shut moves) b all s = record {
    list = t ∷ [];
    end = ended;
    out_is = s.1;
    keeps = subst (λ (m : List ℕ). (length m ≤ 1) × RecoverStands t m f (g ++ t ∷ []) ended) (sym s.0) (omega arith, (b, ap (λ (l : List Tree). l ++ t ∷ []) (all ∙ sym (all_of f.list n b.0))));
  }

  -- its output was cancelled
  leaves : (moves : List ℕ) (f : Inflow) (g : List Tree) (out : List Item) (new : RecoverHeld) → length moves ≤ 1 → RecoverStands t moves f g unended → RecoverRefused moves out new → Stepped (RecoverKeeps t new) (f ∷ []) g out
  leaves moves f g out (passes k) few s r = absurd r
  leaves moves f g out (turned k) few s r = absurd r
  leaves moves f g out (stopped next) few s r = absurd r
  leaves moves f g out (shut now) few s r = record {
    list = [];
    end = unended;
    out_is = r.0;
    keeps = (subst (λ (m : List ℕ). length m ≤ 1) (sym r.1) few, subst (λ (l : List Tree). RecoverStands t now f l unended) (sym (append-nil g)) (subst (λ (m : List ℕ). RecoverStands t m f g unended) (sym r.1) s));
  }

  -- what it may have given, before it closes
  stood : (n : ℕ) (f : Inflow) (g : List Tree) → Turned n f → g ≡ f.list → RecoverStands t (n ∷ []) f g unended
  stood n f g b all = (b, record { rest = t ∷ []; is = ap (λ (l : List Tree). l ++ t ∷ []) (sym (all ∙ sym (all_of f.list n b.0))) })

  same : (f : Inflow) (g : List Tree) → g ≡ f.list → IsPrefix g f.list
  same f g all = subst (λ (l : List Tree). IsPrefix g l) all (prefix_refl g)

  still : (f : Inflow) → joined f nothing_came ≡ f
  still f = by_end f.end refl
    where
      by_end : (e : End) → f.end ≡ e → joined f nothing_came ≡ f
      by_end unended is = joined_is f nothing_came is ∙ ap (λ (l : List Tree). record { list = l; end = unended }) (append-nil f.list) ∙ ap (λ (e : End). record { list = f.list; end = e }) (sym is)
      by_end ended is = ap (λ (e : End). joined_at e f.list nothing_came) is ∙ ap (λ (e : End). record { list = f.list; end = e }) (sym is)
      by_end (failed c) is = joined_broken f nothing_came c is

  -- it stopped, and does nothing more
  rests_on : (call : Call) (next : Next) (new : RecoverHeld) (f : Inflow) (g : List Tree) (out : List Item) → IsPrefix g f.list → HasStopped next f → (out ≡ []) × (new ≡ stopped next) → Stepped (RecoverKeeps t new) (joined f (coming call 0) ∷ []) g out
  rests_on call next new f g out p h s =
      subst (λ (x : RecoverHeld). Stepped (RecoverKeeps t x) (joined f (coming call 0) ∷ []) g out) (sym s.1) (record {
        list = [];
        end = unended;
        out_is = s.0;
        keeps = (refl, (subst (λ (l : List Tree). IsPrefix l (joined f (coming call 0)).list) (sym (append-nil g)) (longer f (coming call 0) g p), stays next f (coming call 0) h));
      })

  stepped : (call : Call) (x new : RecoverHeld) (f : Inflow) (g : List Tree) (e : End) (out : List Item) → RecoverKeeps t x (f ∷ []) g e → RecoverTurnAt t call x out new → Stepped (RecoverKeeps t new) (joined f (coming call 0) ∷ []) g out
  stepped call (shut moves) new f g e out k s = absurd s
  stepped call (stopped next) new f g e out k s = rests_on call next new f g out k.1.0 k.1.1 s
  stepped starts (passes n) new f g e out k s = rw (joined_is f nothing_came k.1.0) (steps n f nothing_came g out k.1.1.0 k.1.1.1 new s)
  stepped (pulls j) (passes n) new f g e out k s = rw (joined_is f nothing_came k.1.0) (steps n f nothing_came g out k.1.1.0 k.1.1.1 new s)
  stepped (arrives i b) (passes n) new f g e out k s = rw (joined_is f (coming (arrives i b) 0) k.1.0) (steps n f (coming (arrives i b) 0) g out k.1.1.0 k.1.1.1 new s)
  stepped (cancels j) (passes n) new f g e out k s = rw (still f) (leaves [] f g out new (omega arith) (same f g k.1.1.0) s)
  stepped starts (turned n) new f g e out k s = rw (still f) (owed n f g out new k.1.0 k.1.1 s)
  stepped (pulls j) (turned n) new f g e out k s = rw (still f) (owed n f g out new k.1.0 k.1.1 s)
  stepped (arrives i b) (turned n) new f g e out k s = rw (joined_broken f (coming (arrives i b) 0) k.1.0.1.0 k.1.0.1.1) (owed n f g out new k.1.0 k.1.1 s)
  stepped (cancels j) (turned n) new f g e out k s = rw (still f) (leaves (n ∷ []) f g out new (omega arith) (stood n f g k.1.0 k.1.1) s)

  open_end : (call : Call) (x new : RecoverHeld) (f : Inflow) (g : List Tree) (e : End) (out : List Item) → RecoverKeeps t x (f ∷ []) g e → RecoverTurnAt t call x out new → e ≡ unended
  open_end call (shut moves) new f g e out k s = absurd s
  open_end call (stopped next) new f g e out k s = k.0
  open_end call (passes n) new f g e out k s = k.0
  open_end call (turned n) new f g e out k s = k.0

  pub no_ports : (x : RecoverHeld) (g : List Tree) (e : End) → RecoverKeeps t x [] g e → ⊥
  no_ports (passes n) g e k = k
  no_ports (turned n) g e k = k
  no_ports (stopped next) g e k = k
  no_ports (shut m) g e k = k

  pub two_ports : (x : RecoverHeld) (f h : Inflow) (fs : List Inflow) (g : List Tree) (e : End) → RecoverKeeps t x (f ∷ h ∷ fs) g e → ⊥
  two_ports (passes n) f h fs g e k = k
  two_ports (turned n) f h fs g e k = k
  two_ports (stopped next) f h fs g e k = k
  two_ports (shut m) f h fs g e k = k

  -- a call keeps the law
  pub recover_call : (call : Call) (old new : RecoverHeld) (v : View) (took : ℕ → List Item) (gave : List Item) (acts : List Act) → CallAllowed call v → ActsAllowed (seen call v) acts → RecoverTurnAt t call old (given_on 0 acts) new
      → RecoverLaw t old v took gave → RecoverLaw t new (acted_all (seen call v) acts) (λ i. took i ++ brought_to i call) (gave ++ given_on 0 acts)
  recover_call call old new v took gave acts may allowed turn law = by_ports law.ins refl law.keeps
    where
      by_ports : (ins : List Inflow) → law.ins ≡ ins → RecoverKeeps t old ins law.out_list law.out_end → RecoverLaw t new (acted_all (seen call v) acts) (λ i. took i ++ brought_to i call) (gave ++ given_on 0 acts)
      by_ports [] is k = absurd (no_ports old law.out_list law.out_end k)
      by_ports (f ∷ h ∷ fs) is k = absurd (two_ports old f h fs law.out_list law.out_end k)
      by_ports (f ∷ []) is k =
          ports_law (RecoverKeeps t old) (RecoverKeeps t new) call v took gave acts may allowed law (open_end call old new f law.out_list law.out_end (given_on 0 acts) k turn)
          (subst (λ (fs : List Inflow). Stepped (RecoverKeeps t new) (joined_all 0 fs (coming call)) law.out_list (given_on 0 acts)) (sym is) (stepped call old new f law.out_list law.out_end (given_on 0 acts) k turn))

  -- before anything came
  pub recover_new : (v : View) → length v.ins ≡ 1 → AllIdle v.ins → GaveAs (out_at v 0) unended → RecoverLaw t (passes 0) v (λ _. []) []
  recover_new v one idle open_out = new_ports (RecoverKeeps t (passes 0)) v idle open_out (rw one (refl, (refl, (refl, refl))))

  -- ---- for every rest

  after : (l r : List Tree) (e : End) → recovered_by t (l ++ r) e ≡ told l unended ++ recovered_by t r e
  after l r unended = told-append l r unended
  after l r ended = told-append l r ended
  after l r (failed c) = ap (λ (k : List Tree). told k ended) (append_assoc l r (t ∷ [])) ∙ told-append l (r ++ t ∷ []) ended

  pub recover_rest : (x : RecoverHeld) (v : View) (took : ℕ → List Item) (gave : List Item) → (law : RecoverLaw t x v took gave) → RecoverRest t x law.ins law.out_list
  recover_rest x v took gave law = by_held x law.ins law.out_list law.out_end law.keeps
    where
      by_held : (x : RecoverHeld) (ins : List Inflow) (g : List Tree) (e : End) → RecoverKeeps t x ins g e → RecoverRest t x ins g
      by_held (shut m) ins g e k = tt
      by_held (stopped next) ins g e k = tt
      by_held (passes n) [] g e k = k
      by_held (passes n) (f ∷ h ∷ fs) g e k = k
      by_held (turned n) [] g e k = k
      by_held (turned n) (f ∷ h ∷ fs) g e k = k
      by_held (passes n) (f ∷ []) g e k = λ r. ap (recovered t) (joined_is f r k.1.0) ∙ after f.list r.list r.end ∙ ap (λ (l : List Tree). told l unended ++ recovered t r) (sym k.1.1.0)
      by_held (turned n) (f ∷ []) g e k = λ r.
          ap (recovered t) (joined_broken f r k.1.0.1.0 k.1.0.1.1) ∙ ap (recovered_by t f.list) k.1.0.1.1 ∙ told-append f.list (t ∷ []) ended ∙ ap (λ (l : List Tree). told l unended ++ own_items t) (sym k.1.1)

  -- ---- by a call

  over_joined : (c r : Inflow) → IsBroken c.end → joined c r ≡ c
  over_joined c r b = let x : (d : Cause) × (c.end ≡ failed d) = cause_of c.end b in joined_broken c r x.0 x.1

  own_of : (c : Inflow) → c.list ≡ [] → IsBroken c.end → recovered t c ≡ own_items t
  own_of c none b = let x : (d : Cause) × (c.end ≡ failed d) = cause_of c.end b in ap (recovered_by t c.list) x.1 ∙ ap (λ (l : List Tree). told (l ++ t ∷ []) ended) none

  residual_step : (n : ℕ) (c : Inflow) (out : List Item) (new : RecoverHeld) → RecoverStep t n c out new → GivesAfter (λ r. recovered t (joined c r)) t out new
  residual_step n c out (stopped next) s = tt
  residual_step n c out (passes k) s = λ r. ap (recovered t) (joined_is c r s.0) ∙ after c.list r.list r.end ∙ ap (λ (o : List Item). o ++ recovered t r) (sym s.1.1)
  residual_step n c out (turned k) s = λ r. ap (recovered t) (over_joined c r s.1.0) ∙ own_of c s.0 s.1.0 ∙ ap (λ (o : List Item). o ++ own_items t) (sym s.1.1.1)
  residual_step n c out (shut []) s = λ r.
      ap (recovered t) (ap (λ (e : End). joined_at e c.list r) s.1.0) ∙ ap (λ (l : List Tree). told l ended) s.0 ∙ sym s.1.1 ∙ sym (append-nil out)
  residual_step n c out (shut (k ∷ [])) s = λ r. ap (recovered t) (over_joined c r s.1.0) ∙ own_of c s.0 s.1.0 ∙ sym s.1.1.1 ∙ sym (append-nil out)
  residual_step n c out (shut (k ∷ j ∷ m)) s = absurd s

  own_step : (n : ℕ) (out : List Item) (new : RecoverHeld) → OwnStep t n out new → GivesAfter (λ r. own_items t) t out new
  own_step n out (passes k) s = absurd s
  own_step n out (stopped next) s = absurd s
  own_step n out (turned k) s = λ r. ap (λ (o : List Item). o ++ own_items t) (sym s.1)
  own_step n out (shut m) s = λ r. sym s.1 ∙ sym (append-nil out)

  refused : (was : List ℕ) (out : List Item) (new : RecoverHeld) → RecoverRefused was out new → out ≡ []
  refused was out (passes k) s = absurd s
  refused was out (turned k) s = absurd s
  refused was out (stopped next) s = absurd s
  refused was out (shut m) s = s.0

  still_stopped : (next : Next) (before : Inflow → List Item) (out : List Item) (new : RecoverHeld) → new ≡ stopped next → GivesAfter before t out new
  still_stopped next before out new e = subst (λ (x : RecoverHeld). GivesAfter before t out x) (sym e) tt

  pub recover_residual : (call : Call) (x : RecoverHeld) (out : List Item) (new : RecoverHeld) → RecoverTurnAt t call x out new → RecoverResidual t call x out new
  recover_residual call (shut m) out new s = absurd s
  recover_residual starts (stopped next) out new s = still_stopped next (λ r. recover_gives t (stopped next) (joined (coming starts 0) r)) out new s.1
  recover_residual (pulls j) (stopped next) out new s = still_stopped next (λ r. recover_gives t (stopped next) (joined (coming (pulls j) 0) r)) out new s.1
  recover_residual (arrives i b) (stopped next) out new s = still_stopped next (λ r. recover_gives t (stopped next) (joined (coming (arrives i b) 0) r)) out new s.1
  recover_residual (cancels j) (stopped next) out new s = s.0
  recover_residual starts (passes n) out new s = residual_step n (coming starts 0) out new s
  recover_residual (pulls j) (passes n) out new s = residual_step n (coming (pulls j) 0) out new s
  recover_residual (arrives i b) (passes n) out new s = residual_step n (coming (arrives i b) 0) out new s
  recover_residual (cancels j) (passes n) out new s = refused [] out new s
  recover_residual starts (turned n) out new s = own_step n out new s
  recover_residual (pulls j) (turned n) out new s = own_step n out new s
  recover_residual (arrives i b) (turned n) out new s = own_step n out new s
  recover_residual (cancels j) (turned n) out new s = refused (n ∷ []) out new s

  -- ---- what it may have given

  stands_by : (x : RecoverHeld) (f : Inflow) (g : List Tree) (e : End) → RecoverKeeps t x (f ∷ []) g e → RecoverStandsOf t (recover_moves x) (f ∷ []) g e
  stands_by (passes n) f g e k = (omega arith, subst (λ (x : End). RecoverStands t [] f g x) (sym k.0) (same f g k.1.1.0))
  stands_by (turned n) f g e k = (omega arith, subst (λ (x : End). RecoverStands t (n ∷ []) f g x) (sym k.0) (stood n f g k.1.0 k.1.1))
  stands_by (stopped next) f g e k = (omega arith, subst (λ (x : End). RecoverStands t [] f g x) (sym k.0) k.1.0)
  stands_by (shut moves) f g e k = k

  pub recover_stands : (x : RecoverHeld) (v : View) (took : ℕ → List Item) (gave : List Item) → (law : RecoverLaw t x v took gave) → RecoverStandsOf t (recover_moves x) law.ins law.out_list law.out_end
  recover_stands x v took gave law = by_ports law.ins law.keeps
    where
      by_ports : (ins : List Inflow) → RecoverKeeps t x ins law.out_list law.out_end → RecoverStandsOf t (recover_moves x) ins law.out_list law.out_end
      by_ports [] k = absurd (no_ports x law.out_list law.out_end k)
      by_ports (f ∷ []) k = stands_by x f law.out_list law.out_end k
      by_ports (f ∷ h ∷ fs) k = absurd (two_ports x f h fs law.out_list law.out_end k)
