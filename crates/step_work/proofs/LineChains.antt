-- A chain of linear stages: what it gives in two parts, and once it has stopped.
use Rattle.std.proofs.Common.{◌≡◌, Bool, true, false, List, [], ◌∷◌, ◌++◌, length, drop, Ok, refl, sym, ap, ◌∙◌, append-nil, length-append}
use Rattle.std.proofs.Math.Seq.{drop-append_seam, drop-append-add}
use Rattle.elem_core.specs.Tree.{Tree}
use Rattle.elem_core.specs.declared.why.Why.{Why}
use Rattle.stream_model.specs.Outlook.{End, unended, ended, failed}
use Rattle.stream_model.specs.Machine.{State, going, done, broken, Run, Finish, adds, refuses, Given, run, close, close_at, finish_at, gives, led_by}
use Rattle.stream_model.specs.Linear.{Book, Stage}
use Rattle.stream_model.specs.Substreams.{Chain, through}
use Rattle.stream_model.proofs.MachineLaws.{gives-append}
use Rattle.port_core.specs.declared.chain.ChainStep.{ChainStep}
use Rattle.port_core.specs.declared.chain.ChainStep.TheVariants.{Go, Closed, Failed}
use Rattle.port_core.specs.ListFunction.{ResidualFunction, Stops, GoesBy, Pushed, FunctionFinished, goes_on}
use Rattle.step_work.specs.Means.{ChainStandsAs, ChainEndsAs, Means}
use Rattle.step_work.specs.LineChains.{chain_step, end_step, is_unended, added_by, given_with, each, chain_outs, after, list_function}

module _ (book : Book) where
  -- a list may come in two parts
  pub through_append : (xs : Chain) (l r : List Tree) (e : End) → through book xs (l ++ r) e ≡ led_by (chain_outs book xs l) (through book (after book xs l) r e)
  through_append [] l r e = refl
  through_append (s ∷ ss) l r e =
      let g = gives (each book) (run (each book) s l).state r e in
      ap (λ (x : Given Tree). through book ss x.list x.end) (gives-append (each book) s l r e)
      ∙ through_append ss (run (each book) s l).gave g.list g.end

  -- an end that came through stays
  stays_ended : (g : List Tree) (st : State Stage) (e : End) → is_unended (close_at (each book) g st e).end ≡ true → (is_unended e ≡ true) × (close_at (each book) g st e ≡ record { list = g; end = unended })
  stays_ended g (going s) unended h = (refl, refl)
  stays_ended g (going s) (failed c) h = cc
  stays_ended g (going s) ended h = absurd (no_end ((each book).finish s) h)
    where
      no_end : (f : Finish Tree) → is_unended (finish_at (each book) g f).end ≡ true → ⊥
      no_end (adds o) h = cc
      no_end (refuses c) h = cc
  stays_ended g done e h = cc
  stays_ended g (broken c) e h = cc

  -- where the chain stands open its input has not ended
  through_ended : (xs : Chain) (l : List Tree) (e : End) → is_unended (through book xs l e).end ≡ true → is_unended e ≡ true
  through_ended [] l e h = h
  through_ended (s ∷ ss) l e h = (stays_ended (run (each book) s l).gave (run (each book) s l).state e (through_ended ss (close (each book) (run (each book) s l) e).list (close (each book) (run (each book) s l) e).end h)).0

  -- a chain that stands open and gave all that it had to gives nothing for nothing
  idle : (xs : Chain) (l : List Tree) → is_unended (through book (after book xs l) [] unended).end ≡ true → (through book (after book xs l) [] unended).list ≡ []
  idle [] l h = refl
  idle (s ∷ ss) l h =
      let g = close_at (each book) [] (run (each book) s l).state unended in
      let q = stays_ended [] (run (each book) s l).state unended (through_ended (after book ss (run (each book) s l).gave) g.list g.end h) in
      ap (λ (x : Given Tree). (through book (after book ss (run (each book) s l).gave) x.list x.end).list) q.1
      ∙ idle ss (run (each book) s l).gave (sym (ap (λ (x : Given Tree). is_unended (through book (after book ss (run (each book) s l).gave) x.list x.end).end) q.1) ∙ h)

  -- once it has stopped, nothing that comes behind changes what it gave
  behind_stop : (g : List Tree) (st : State Stage) (l : List Tree) (e : End) → is_unended (close_at (each book) g st unended).end ≡ false → led_by g (gives (each book) st l e) ≡ close_at (each book) g st unended
  behind_stop g (going s) l e h = cc
  behind_stop g done l e h = ap (λ (x : Run Stage Tree). led_by g (close (each book) x e)) (run_stopped l) ∙ ap (λ (k : List Tree). record { list = k; end = ended }) (append-nil g)
    where
      run_stopped : (l : List Tree) → run (each book) (record { gave = []; state = done }) l ≡ record { gave = []; state = done }
      run_stopped [] = refl
      run_stopped (t ∷ l) = run_stopped l
  behind_stop g (broken c) l e h = ap (λ (x : Run Stage Tree). led_by g (close (each book) x e)) (run_stopped l) ∙ ap (λ (k : List Tree). record { list = k; end = failed c }) (append-nil g)
    where
      run_stopped : (l : List Tree) → run (each book) (record { gave = []; state = broken c }) l ≡ record { gave = []; state = broken c }
      run_stopped [] = refl
      run_stopped (t ∷ l) = run_stopped l

  -- a stage that stands open gave this and no more
  open_as : (g : List Tree) (st : State Stage) → is_unended (close_at (each book) g st unended).end ≡ true → close_at (each book) g st unended ≡ record { list = g; end = unended }
  open_as g st h = (stays_ended g st unended h).1

  -- by whether the first stage has stopped
  step_fixed : (s : Run Stage Tree) (ss : Chain) (l r : List Tree) (e : End)
      → ((k : List Tree) (d : End) → is_unended (through book ss (run (each book) s l).gave unended).end ≡ false → through book ss ((run (each book) s l).gave ++ k) d ≡ through book ss (run (each book) s l).gave unended)
      → (b : Bool) → is_unended (close (each book) (run (each book) s l) unended).end ≡ b → is_unended (through book (s ∷ ss) l unended).end ≡ false → through book (s ∷ ss) (l ++ r) e ≡ through book (s ∷ ss) l unended
  step_fixed s ss l r e ih false q h =
      ap (λ (x : Given Tree). through book ss x.list x.end) (gives-append (each book) s l r e ∙ behind_stop (run (each book) s l).gave (run (each book) s l).state r e q)
  step_fixed s ss l r e ih true q h =
      let y = run (each book) s l in
      let k = gives (each book) y.state r e in
      let is = open_as y.gave y.state q in
      let stops : is_unended (through book ss y.gave unended).end ≡ false = sym (ap (λ (x : Given Tree). is_unended (through book ss x.list x.end).end) is) ∙ h in
      ap (λ (x : Given Tree). through book ss x.list x.end) (gives-append (each book) s l r e) ∙ ih k.list k.end stops ∙ sym (ap (λ (x : Given Tree). through book ss x.list x.end) is)

  -- once a chain has stopped within a list, whatever comes behind it, it gives what it gave for the list
  pub fixed : (xs : Chain) (l r : List Tree) (e : End) → is_unended (through book xs l unended).end ≡ false → through book xs (l ++ r) e ≡ through book xs l unended
  fixed [] l r e h = cc
  fixed (s ∷ ss) l r e h =
      step_fixed s ss l r e (λ k d q. fixed ss (run (each book) s l).gave k d q) (is_unended (close (each book) (run (each book) s l) unended).end) refl h

  -- ---- its list function is what the chain means

  -- how it answers by its end
  stands_by : (e : End) → ChainStandsAs (chain_step e) e
  stands_by unended = refl
  stands_by ended = refl
  stands_by (failed c) = (c, (refl, refl))

  -- its answers tell how it stands
  go_open : (e : End) → chain_step e ≡ Go → is_unended e ≡ true
  go_open unended h = refl
  go_open ended h = cc
  go_open (failed c) h = cc

  closed_not : (e : End) → chain_step e ≡ Closed → is_unended e ≡ false
  closed_not unended h = cc
  closed_not ended h = refl
  closed_not (failed c) h = cc

  failed_not : (e : End) (w : Why) → chain_step e ≡ Failed w → is_unended e ≡ false
  failed_not unended w h = cc
  failed_not ended w h = refl
  failed_not (failed c) w h = refl

  -- one that closed has ended
  closed_ended : (x : Given Tree) → chain_step x.end ≡ Closed → x ≡ record { list = x.list; end = ended }
  closed_ended x h = ap (λ (e : End). record { list = x.list; end = e }) (by_end x.end h)
    where
      by_end : (e : End) → chain_step e ≡ Closed → e ≡ ended
      by_end ended h = refl
      by_end unended h = cc
      by_end (failed c) h = cc

  -- while it stands open, all that it gave came of the first part
  open_gives : (xs : Chain) (l : List Tree) → is_unended (through book xs l unended).end ≡ true → (through book xs l unended).list ≡ chain_outs book xs l
  open_gives xs l h =
      let a : through book xs l unended ≡ led_by (chain_outs book xs l) (through book (after book xs l) [] unended) = ap (λ (k : List Tree). through book xs k unended) (sym (append-nil l)) ∙ through_append xs l [] unended in
      let q : is_unended (through book (after book xs l) [] unended).end ≡ true = sym (ap (λ (x : Given Tree). is_unended x.end) a) ∙ h in
      ap (λ (x : Given Tree). x.list) a ∙ ap (λ (k : List Tree). chain_outs book xs l ++ k) (idle xs l q) ∙ append-nil (chain_outs book xs l)

  -- what its end gives begins with that
  end_gives : (xs : Chain) (l : List Tree) → is_unended (through book xs l unended).end ≡ true → (k : List Tree) × ((through book xs l ended).list ≡ (through book xs l unended).list ++ k)
  end_gives xs l h =
      let a : through book xs l ended ≡ led_by (chain_outs book xs l) (through book (after book xs l) [] ended) = ap (λ (k : List Tree). through book xs k ended) (sym (append-nil l)) ∙ through_append xs l [] ended in
      ((through book (after book xs l) [] ended).list, ap (λ (x : Given Tree). x.list) a ∙ ap (λ (k : List Tree). k ++ (through book (after book xs l) [] ended).list) (sym (open_gives xs l h)))

  -- what its end came to, behind what it gave
  ends_by : (g : List Tree) (x : Given Tree) (k : List Tree) → x.list ≡ g ++ k → is_unended x.end ≡ false → ChainEndsAs (given_with g x) g x
  ends_by g x k e h = by_end x.end refl
    where
      by_end : (d : End) → x.end ≡ d → ChainEndsAs (added_by g x.list d) g x
      by_end unended is = let b : false ≡ true = sym h ∙ ap is_unended is in cc
      by_end ended is =
          let back : x.list ≡ g ++ drop (length g) x.list = e ∙ ap (λ (l : List Tree). g ++ l) (sym (ap (drop (length g)) e ∙ drop-append_seam g k)) in
          ap (λ (d : End). record { list = x.list; end = d }) is ∙ ap (λ (l : List Tree). record { list = l; end = ended }) back
      by_end (failed c) is = (c, (is, refl))

  -- once its input has ended it does not stand open
  never_open : (xs : Chain) (l : List Tree) → is_unended (through book xs l ended).end ≡ false
  never_open xs l = by_open (is_unended (through book xs l ended).end) refl
    where
      by_open : (b : Bool) → is_unended (through book xs l ended).end ≡ b → is_unended (through book xs l ended).end ≡ false
      by_open false q = q
      by_open true q = let x : false ≡ true = through_ended xs l ended q in cc

  -- what the stages yield is what their list function means
  pub chain_means : (xs : Chain) → Means (through book xs) (list_function book xs)
  chain_means xs = record {
    list = λ l. refl;
    stands = λ l. stands_by (through book xs l unended).end;
    ends = λ l go. let k = end_gives xs l (go_open (through book xs l unended).end go) in ends_by (through book xs l unended).list (through book xs l ended) k.0 k.1 (never_open xs l);
    closed = λ l c.
        let f = fixed xs l [] ended (closed_not (through book xs l unended).end c) in
        ap (λ (k : List Tree). through book xs k ended) (sym (append-nil l)) ∙ f ∙ closed_ended (through book xs l unended) c;
  }

  -- ---- one call more

  -- what was given before changes nothing of what the end adds
  added_led : (g o : List Tree) (x : Given Tree) → given_with (o ++ g) (led_by o x) ≡ given_with g x
  added_led g o x = by_end x.end
    where
      by_end : (d : End) → added_by (o ++ g) (o ++ x.list) d ≡ added_by g x.list d
      by_end unended = refl
      by_end ended = ap Ok (ap (λ k. drop k (o ++ x.list)) (length-append o g) ∙ drop-append-add o x.list (length g))
      by_end (failed c) = refl

  -- an element more of a chain that goes on
  pub line_pushed : (xs : Chain) (t : Tree) (step : ChainStep) (before now : List Tree) → step ≡ chain_step (through book xs (t ∷ []) unended).end → now ≡ before ++ (through book xs (t ∷ []) unended).list
      → Pushed (list_function book xs) t step before now (list_function book (after book xs (t ∷ [])))
  line_pushed xs t step before now is out = record { gave = (through book xs (t ∷ []) unended).list; out = out; all = refl; answer = is; goes = by_end (through book xs (t ∷ []) unended).end refl step is }
    where
      goes : is_unended (through book xs (t ∷ []) unended).end ≡ true → ResidualFunction (list_function book xs) (t ∷ []) (through book xs (t ∷ []) unended).list (list_function book (after book xs (t ∷ [])))
      goes h = record {
        gives = λ rest. ap (λ (x : Given Tree). x.list) (through_append xs (t ∷ []) rest unended) ∙ ap (λ (k : List Tree). k ++ (through book (after book xs (t ∷ [])) rest unended).list) (sym (open_gives xs (t ∷ []) h));
        stop = λ rest. ap (λ (x : Given Tree). chain_step x.end) (through_append xs (t ∷ []) rest unended);
        adds = λ rest.
            ap (λ (x : Given Tree). given_with x.list (through book xs (t ∷ rest) ended)) (through_append xs (t ∷ []) rest unended)
            ∙ ap (λ (x : Given Tree). given_with (chain_outs book xs (t ∷ []) ++ (through book (after book xs (t ∷ [])) rest unended).list) x) (through_append xs (t ∷ []) rest ended)
            ∙ added_led (through book (after book xs (t ∷ [])) rest unended).list (chain_outs book xs (t ∷ [])) (through book (after book xs (t ∷ [])) rest ended);
      }

      halts : (x : ChainStep) → x ≡ chain_step (through book xs (t ∷ []) unended).end → is_unended (through book xs (t ∷ []) unended).end ≡ false → Stops (list_function book xs) (t ∷ []) (through book xs (t ∷ []) unended).list x
      halts x e h = record {
        gives = λ rest. ap (λ (x : Given Tree). x.list) (fixed xs (t ∷ []) rest unended h);
        stop = λ rest. ap (λ (x : Given Tree). chain_step x.end) (fixed xs (t ∷ []) rest unended h) ∙ sym e;
      }

      by_end : (d : End) → (through book xs (t ∷ []) unended).end ≡ d → (x : ChainStep) → x ≡ chain_step (through book xs (t ∷ []) unended).end
          → GoesBy (list_function book xs) (t ∷ []) (through book xs (t ∷ []) unended).list x (list_function book (after book xs (t ∷ [])))
      by_end d is Go e = goes (go_open (through book xs (t ∷ []) unended).end (sym e))
      by_end d is Closed e = halts Closed e (closed_not (through book xs (t ∷ []) unended).end (sym e))
      by_end d is (Failed w) e = halts (Failed w) e (failed_not (through book xs (t ∷ []) unended).end w (sym e))

  -- it goes on exactly where it answers so
  pub line_open : (xs : Chain) (t : Tree) → is_unended (through book (after book xs (t ∷ [])) [] unended).end ≡ goes_on (chain_step (through book xs (t ∷ []) unended).end)
  line_open xs t = sym (ap (λ (x : Given Tree). is_unended x.end) (through_append xs (t ∷ []) [] unended)) ∙ by_end (through book xs (t ∷ []) unended).end
    where
      by_end : (e : End) → is_unended e ≡ goes_on (chain_step e)
      by_end unended = refl
      by_end ended = refl
      by_end (failed c) = refl

  -- the end of the input of a chain that goes on
  pub line_finished : (xs : Chain) (before now : List Tree) → is_unended (through book xs [] unended).end ≡ true → now ≡ before ++ (through book xs [] ended).list → FunctionFinished (list_function book xs) (end_step (through book xs [] ended).end) before now
  line_finished xs before now on out = by_end (through book xs [] ended).end refl
    where
      by_end : (d : End) → (through book xs [] ended).end ≡ d → FunctionFinished (list_function book xs) (end_step d) before now
      by_end unended is = let x : true ≡ false = sym (ap is_unended is) ∙ never_open xs [] in cc
      by_end ended is =
          let k = end_gives xs [] on in
          let tail : drop (length (through book xs [] unended).list) (through book xs [] ended).list ≡ k.0 = ap (drop (length (through book xs [] unended).list)) k.1 ∙ drop-append_seam (through book xs [] unended).list k.0 in
          (k.0, (ap (λ d. added_by (through book xs [] unended).list (through book xs [] ended).list d) is ∙ ap Ok tail, out ∙ ap (λ (l : List Tree). before ++ l) k.1))
      by_end (failed c) is = (ap (λ d. added_by (through book xs [] unended).list (through book xs [] ended).list d) is, record { rest = (through book xs [] ended).list; is = out })
