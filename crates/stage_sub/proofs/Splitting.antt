-- The calls of the last substream, over the substreams of the model: what each exit of the logic needs.
use Rattle.std.specs.Option.{option_map}
use Rattle.std.proofs.Common.{◌≡◌, Bool, true, false, inr, List, Option, Some, None, Ok, Err, refl, subst}
use Rattle.std.specs.Prelude.{IfOk, Result}
use Rattle.elem_core.specs.Tree.{Tree}
use Rattle.elem_core.specs.Values.{pred_value}
use Rattle.elem_core.specs.declared.function.Pred.{Pred}
use Rattle.elem_core.specs.declared.why.Why.{Why}
use Rattle.stream_model.specs.Outlook.{End}
use Rattle.stream_model.specs.Machine.{Given}
use Rattle.stream_model.specs.FanIn.{Tagged}
use Rattle.stream_model.specs.Substreams.{Sub, Opening, before, behind, arranged, by_element, by_end, end_all, opened, trouble}
use Rattle.port_core.specs.ListFunction.{ListFunction, Same}
use Rattle.step_work.specs.Means.{Means}
use Rattle.stage_sub.specs.Splits.{Last, LastTook, LastEnds, LastGrows}
use Rattle.stage_sub.specs.Subs.{grown, Split, SubsBecome, SubsTake}
use Rattle.stage_sub.specs.declared.blame.Blame.{Blame}
use Rattle.stage_sub.proofs.Steps.{Grows, grow_none, grow_some, grows_becomes, grows_ends, ends_becomes, end_some, end_and_open_none, opened_fails, open_after_fails, grow_then_end_fails}

module _ {C : Type 0} (rest : C → ListFunction) (is_open : C → Bool) where
  -- what the two calls ensure
  abbrev pub EndsFor : Last C → Option Why → List Tagged → List Tagged → Last C → Type 0
  EndsFor l r b a new = (f : ListFunction) (took : Option (List Tree)) → LastTook rest is_open f l took → LastEnds rest is_open f l took r b a new

  abbrev pub GrowsFor : ListFunction → Last C → Tree → Option Why → List Tagged → List Tagged → Last C → Type 0
  GrowsFor whole l t r b a new = (f : ListFunction) → Same whole f → (took : Option (List Tree)) → LastTook rest is_open f l took → LastGrows rest is_open f l took t r b a new

  module _ (f : ListFunction) (yields : List Tree → End → Given Tree) (means : Means yields f) (ss : List Sub) where
    ends_at : {l new : Last C} {r : Option Why} {b a : List Tagged} (q : Option Why) → r ≡ q → EndsFor l r b a new → (sp : Split rest is_open f yields l ss) → LastEnds rest is_open f l (option_map (λ s. s.took) sp.tail) q b a new
    ends_at {l} {new} {r} {b} {a} q is h sp = subst (λ x. LastEnds rest is_open f l (option_map (λ s. s.took) sp.tail) x b a new) is (h f (option_map (λ s. s.took) sp.tail) sp.took)

    grows_at : {whole : ListFunction} {l new : Last C} {t : Tree} {r : Option Why} {b a : List Tagged} (q : Option Why) → r ≡ q → Same whole f → GrowsFor whole l t r b a new → (sp : Split rest is_open f yields l ss)
        → LastGrows rest is_open f l (option_map (λ s. s.took) sp.tail) t q b a new
    grows_at {whole} {l} {new} {t} {r} {b} {a} q is same h sp = subst (λ x. LastGrows rest is_open f l (option_map (λ s. s.took) sp.tail) t x b a new) is (h f same (option_map (λ s. s.took) sp.tail) sp.took)

    pub end_some_exit : {l new : Last C} {r : Option Why} {b a : List Tagged} {w : Why} → r ≡ Some w → EndsFor l r b a new → Split rest is_open f yields l ss → trouble yields (end_all ss) ≡ Some (by_end w)
    end_some_exit {l} {new} {r} {b} {a} {w} is h sp = end_some rest is_open f yields means l new ss w b a sp (ends_at (Some w) is h sp)

    pub end_none_exit : {l new : Last C} {r : Option Why} {b a : List Tagged} → r ≡ None → EndsFor l r b a new → Split rest is_open f yields l ss → SubsBecome rest is_open f yields ss (end_all ss) None b a new
    end_none_exit {l} {new} {r} {b} {a} is h sp = ends_becomes rest is_open f yields means l new ss b a sp (ends_at None is h sp)

    pub grow_some_exit : {whole : ListFunction} {l new : Last C} {t : Tree} {r : Option Why} {b a : List Tagged} {w : Why} → r ≡ Some w → Same whole f → GrowsFor whole l t r b a new → Split rest is_open f yields l ss → trouble yields (grown ss t) ≡ Some (by_element w)
    grow_some_exit {whole} {l} {new} {t} {r} {b} {a} {w} is same h sp = (grow_some rest is_open f yields means l new ss t w b a sp (grows_at (Some w) is same h sp)).here

    pub grow_some_end_exit : {whole : ListFunction} {l new : Last C} {t : Tree} {r : Option Why} {b a : List Tagged} {w : Why} → r ≡ Some w → Same whole f → GrowsFor whole l t r b a new → Split rest is_open f yields l ss → trouble yields (end_all (grown ss t)) ≡ Some (by_element w)
    grow_some_end_exit {whole} {l} {new} {t} {r} {b} {a} {w} is same h sp = (grow_some rest is_open f yields means l new ss t w b a sp (grows_at (Some w) is same h sp)).ended

    grows_exit : {whole : ListFunction} {l new : Last C} {t : Tree} {r : Option Why} {b a : List Tagged} → r ≡ None → Same whole f → GrowsFor whole l t r b a new → Split rest is_open f yields l ss → Grows rest is_open f yields means ss t b a new
    grows_exit {whole} {l} {new} {t} {r} {b} {a} is same h sp = grow_none rest is_open f yields means l new ss t b a sp (grows_at None is same h sp)

    pub grow_none_exit : {whole : ListFunction} {l new : Last C} {t : Tree} {r : Option Why} {b a : List Tagged} → r ≡ None → Same whole f → GrowsFor whole l t r b a new → Split rest is_open f yields l ss → SubsBecome rest is_open f yields ss (grown ss t) None b a new
    grow_none_exit {whole} {l} {new} {t} {r} {b} {a} is same h sp = grows_becomes rest is_open f yields means ss t b a new (grows_exit is same h sp)

    pub grow_then_end_some : {whole : ListFunction} {l mid_l new : Last C} {t : Tree} {r q : Option Why} {b m a : List Tagged} {w : Why} → r ≡ None → q ≡ Some w → Same whole f → GrowsFor whole l t r b m mid_l → EndsFor mid_l q m a new → Split rest is_open f yields l ss
        → trouble yields (end_all (grown ss t)) ≡ Some (by_end w)
    grow_then_end_some {whole} {l} {mid_l} {new} {t} {r} {q} {b} {m} {a} {w} is js same h e sp =
        let gr : Grows rest is_open f yields means ss t b m mid_l = grows_exit is same h sp in
        grow_then_end_fails rest is_open f yields means ss t w b m a mid_l new gr (subst (λ x. LastEnds rest is_open f mid_l (Some gr.now.took) x m a new) js (e f (Some gr.now.took) gr.took))

    pub grow_then_end_none : {whole : ListFunction} {l mid_l new : Last C} {t : Tree} {r q : Option Why} {b m a : List Tagged} → r ≡ None → q ≡ None → Same whole f → GrowsFor whole l t r b m mid_l → EndsFor mid_l q m a new → Split rest is_open f yields l ss
        → SubsBecome rest is_open f yields ss (end_all (grown ss t)) None b a new
    grow_then_end_none {whole} {l} {mid_l} {new} {t} {r} {q} {b} {m} {a} is js same h e sp =
        let gr : Grows rest is_open f yields means ss t b m mid_l = grows_exit is same h sp in
        grows_ends rest is_open f yields means ss t b m a mid_l new gr (subst (λ x. LastEnds rest is_open f mid_l (Some gr.now.took) x m a new) js (e f (Some gr.now.took) gr.took))

    pub open_end_some : (t : Tree) {l new : Last C} {r : Option Why} {b a : List Tagged} {w : Why} → r ≡ Some w → EndsFor l r b a new → Split rest is_open f yields l ss → trouble yields (opened t t ss) ≡ Some (by_end w)
    open_end_some t {l} {new} {r} {b} {a} {w} is h sp = open_after_fails rest is_open f yields means l new ss t w b a sp (ends_at (Some w) is h sp)

  module _ (f : ListFunction) (yields : List Tree → End → Given Tree) (means : Means yields f) (ss : List Sub) where
    pub open_some : {whole : ListFunction} {l mid_l new : Last C} {t : Tree} {r q : Option Why} {b m a : List Tagged} {w : Why} → r ≡ None → q ≡ Some w → Same whole f → EndsFor l r b m mid_l → GrowsFor whole mid_l t q m a new → Split rest is_open f yields l ss
        → trouble yields (opened t t ss) ≡ Some (by_element w)
    open_some {whole} {l} {mid_l} {new} {t} {r} {q} {b} {m} {a} {w} is js same e h sp =
        let mid : SubsBecome rest is_open f yields ss (end_all ss) None b m mid_l = end_none_exit f yields means ss is e sp in
        opened_fails rest is_open f yields means ss t w (grow_some_exit f yields means (end_all ss) js same h mid.1.1)

    pub open_none : {whole : ListFunction} {l mid_l new : Last C} {t : Tree} {r q : Option Why} {b m a : List Tagged} → r ≡ None → q ≡ None → Same whole f → EndsFor l r b m mid_l → GrowsFor whole mid_l t q m a new → Split rest is_open f yields l ss
        → SubsBecome rest is_open f yields ss (opened t t ss) None b a new
    open_none {whole} {l} {mid_l} {new} {t} {r} {q} {b} {m} {a} is js same e h sp =
        let mid : SubsBecome rest is_open f yields ss (end_all ss) None b m mid_l = end_none_exit f yields means ss is e sp in
        end_and_open_none rest is_open f yields means l mid_l new ss t b m a mid (grow_none_exit f yields means (end_all ss) js same h mid.1.1)

-- ---- one more element, by the test

module _ (t : Tree) (ss : List Sub) where
  pub before_hit : (p : Pred) → pred_value p t ≡ Ok true → arranged (before p) ss t ≡ Ok (opened t t ss)
  before_hit p h = rw (h, arranged) refl

  pub before_miss : (p : Pred) → pred_value p t ≡ Ok false → arranged (before p) ss t ≡ Ok (grown ss t)
  before_miss p h = rw (h, arranged) refl

  pub behind_hit : (p : Pred) → pred_value p t ≡ Ok true → arranged (behind p) ss t ≡ Ok (end_all (grown ss t))
  behind_hit p h = rw (h, arranged) refl

  pub behind_miss : (p : Pred) → pred_value p t ≡ Ok false → arranged (behind p) ss t ≡ Ok (grown ss t)
  behind_miss p h = rw (h, arranged) refl

module _ {C E : Type 0} (rest : C → ListFunction) (is_open : C → Bool) (whole : ListFunction) (l new : Last C) (b a : List Tagged) where
  -- what the code says of the substreams that the test makes of those, in the words of the model
  pub taken : (o : Opening) (t : Tree) (now : List Sub → List Sub) (r : Result (Option Blame) E) → ((ss : List Sub) → arranged o ss t ≡ Ok (now ss))
      → IfOk r (λ x. (f : ListFunction) → Same whole f → (yields : List Tree → End → Given Tree) → Means yields f → (ss : List Sub) → Split rest is_open f yields l ss → SubsBecome rest is_open f yields ss (now ss) x b a new)
      → IfOk r (λ x. (f : ListFunction) → Same whole f → (yields : List Tree → End → Given Tree) → Means yields f → (ss : List Sub) → Split rest is_open f yields l ss → SubsTake rest is_open f yields o ss t x b a new)
  taken o t now (Ok x) is h = λ f same yields means ss sp. inr (now ss, (is ss, h f same yields means ss sp))
  taken o t now (Err e) is h = tt
