-- One more element of a stage that splits, and the end of its last substream, as steps of the model.
use Rattle.std.specs.Prelude.{if◌then◌else◌, IfSome, option_to_list}
use Rattle.std.specs.Option.{option_map}
use Rattle.std.proofs.Common.{◌≡◌, ℕ, suc, ◌+◌, Bool, true, false, List, [], ◌∷◌, ◌++◌, map, length, drop, Option, Some, None, refl, sym, ap, ◌∙◌, subst, append_assoc, append-nil, arith, length-append}
use Rattle.std.proofs.lemmas.List.{length-map, map-append}
use Rattle.elem_core.specs.Tree.{Tree}
use Rattle.elem_core.specs.declared.why.Why.{Why}
use Rattle.stream_model.specs.Outlook.{End}
use Rattle.stream_model.specs.Machine.{Given}
use Rattle.stream_model.specs.FanIn.{Tagged, tag}
use Rattle.stream_model.specs.Substreams.{Sub, by_element, by_end, end_sub, end_all, take_in, take_last, last_open, opened, given_by, news, fault_of, trouble}
use Rattle.port_core.specs.declared.chain.ChainStep.TheVariants.{Failed}
use Rattle.port_core.specs.ListFunction.{ListFunction}
use Rattle.step_work.specs.Means.{Means}
use Rattle.stage_sub.specs.Splits.{Last, LastTook, LastEnds, LastOpens, LastFeeds, LastGrows}
use Rattle.stage_sub.specs.Subs.{AllEnded, grown, Split, SubsBecome}
use Rattle.stage_sub.proofs.Models.{trouble_append, trouble_both, trouble_one, trouble_fails, news_append, news_one, news_new, done_append, end_done, end_append, open_append, open_done, take_append, sub_calm, sub_fails, end_calm, end_fails, given_open, given_end}

-- what it gave before, where there was one
abbrev given_before : (List Tree → End → Given Tree) → Option Sub → List Tree
given_before yields None = []
given_before yields (Some r) = (given_by yields r).list

news_from : (yields : List Tree → End → Given Tree) (n : ℕ) (old : Option Sub) (s : Sub) (x : List Tree) → (given_by yields s).list ≡ given_before yields old ++ x → news yields n (option_to_list old) (s ∷ []) ≡ map (tag n) x
news_from yields n None s x e = news_new yields n s ∙ ap (map (tag n)) e
news_from yields n (Some r) s x e = news_one yields n r s x e

-- behind substreams of which each stays, or ended, come new ones
pub news_split : (yields : List Tree → End → Given Tree) (n : ℕ) (a b c : List Sub) → length a ≡ length b → news yields n a (b ++ c) ≡ news yields n a b ++ news yields (n + length b) [] c
news_split yields n [] [] c e = ap (λ k. news yields k [] c) (omega arith)
news_split yields n [] (s ∷ b) c e = absurd (omega (arith, e))
news_split yields n (r ∷ a) [] c e = absurd (omega (arith, e))
news_split yields n (r ∷ a) (s ∷ b) c e =
    let first = map (tag n) (drop (length (given_by yields r).list) (given_by yields s).list) in
    let k : suc (length a) ≡ suc (length b) = e in
    let m : length a ≡ length b = omega (arith, k) in
    ap (λ (l : List Tagged). first ++ l) (news_split yields (n + 1) a b c m ∙ ap (λ j. news yields (n + 1) a b ++ news yields j [] c) (omega arith)) ∙ sym (append_assoc first (news yields (n + 1) a b) (news yields (n + suc (length b)) [] c))

module _ {C : Type 0} (rest : C → ListFunction) (is_open : C → Bool) (f : ListFunction) (yields : List Tree → End → Given Tree) (means : Means yields f) where
  -- the last one took the element, or a new one did
  pub record Grows (ss : List Sub) (t : Tree) (before after : List Tagged) (new : Last C) : Type 0 where
    pub olds : List Sub
    pub old : Option Sub
    pub now : Sub
    pub gave : List Tree
    pub ss_are : ss ≡ olds ++ option_to_list old
    pub now_are : grown ss t ≡ olds ++ now ∷ []
    pub done : AllEnded olds
    pub calm : trouble yields olds ≡ None
    pub lasts : now.ended ≡ false
    pub well : fault_of yields now ≡ None
    pub more : (given_by yields now).list ≡ given_before yields old ++ gave
    pub out : after ≡ before ++ map (tag (length olds)) gave
    pub counts : new.ended ≡ length olds
    pub took : LastTook rest is_open f new (Some now.took)

  abbrev fresh : Tree → Sub
  fresh t = record { key = t; took = t ∷ []; ended = false }

  grown_none : (olds : List Sub) (t : Tree) → AllEnded olds → grown (olds ++ []) t ≡ olds ++ fresh t ∷ []
  grown_none olds t d =
      ap (λ (l : List Sub). grown l t) (append-nil olds) ∙ ap (λ (b : Bool). if b then take_last t olds else opened t t olds) (open_done olds d)
      ∙ ap (λ (l : List Sub). l ++ fresh t ∷ []) (end_done olds d)

  grown_some : (olds : List Sub) (r : Sub) (t : Tree) → r.ended ≡ false → grown (olds ++ r ∷ []) t ≡ olds ++ take_in t r ∷ []
  grown_some olds r t e =
      let o : last_open (olds ++ r ∷ []) ≡ true = open_append olds r ∙ rw e refl in
      ap (λ (b : Bool). if b then take_last t (olds ++ r ∷ []) else opened t t (olds ++ r ∷ [])) o ∙ take_append t olds r

  pub opens_grow : (l new : Last C) (ss olds : List Sub) (t : Tree) (before after : List Tagged) → ss ≡ olds ++ [] → AllEnded olds → trouble yields olds ≡ None → l.ended ≡ length olds → LastOpens rest is_open f l t None before after new
      → Grows ss t before after new
  opens_grow l new ss olds t before after are done calm counts h = record {
    olds = olds;
    old = None;
    now = fresh t;
    gave = f.gives (t ∷ []);
    ss_are = are;
    now_are = ap (λ (l : List Sub). grown l t) are ∙ grown_none olds t done;
    done = done;
    calm = calm;
    lasts = refl;
    well = sub_calm f yields means t (t ∷ []) h.1.0;
    more = given_open f yields means t (t ∷ []);
    out = h.0 ∙ ap (λ k. before ++ map (tag k) (f.gives (t ∷ []))) counts;
    counts = h.1.1.0 ∙ counts;
    took = h.1.1.1;
  }

  pub feeds_grow : (l new : Last C) (ss olds : List Sub) (r : Sub) (t : Tree) (before after : List Tagged) → ss ≡ olds ++ r ∷ [] → AllEnded olds → trouble yields olds ≡ None → l.ended ≡ length olds → r.ended ≡ false
      → LastFeeds rest is_open f l r.took t None before after new → Grows ss t before after new
  feeds_grow l new ss olds r t before after are done calm counts open_r h =
      let is : r ≡ record { key = r.key; took = r.took; ended = false } = ap (λ (b : Bool). record { key = r.key; took = r.took; ended = b }) open_r in
      let before_is : (given_by yields r).list ≡ f.gives r.took = ap (λ (q : Sub). (given_by yields q).list) is ∙ given_open f yields means r.key r.took in
      let next : take_in t r ≡ record { key = r.key; took = r.took ++ t ∷ []; ended = false } = ap (λ (b : Bool). record { key = r.key; took = r.took ++ t ∷ []; ended = b }) open_r in
      record {
        olds = olds;
        old = Some r;
        now = take_in t r;
        gave = h.0;
        ss_are = are;
        now_are = ap (λ (l : List Sub). grown l t) are ∙ grown_some olds r t open_r;
        done = done;
        calm = calm;
        lasts = open_r;
        well = ap (fault_of yields) next ∙ sub_calm f yields means r.key (r.took ++ t ∷ []) h.1.0.1;
        more = ap (λ (q : Sub). (given_by yields q).list) next ∙ given_open f yields means r.key (r.took ++ t ∷ []) ∙ h.1.0.0 ∙ ap (λ (k : List Tree). k ++ h.0) (sym before_is);
        out = h.1.1.0 ∙ ap (λ k. before ++ map (tag k) h.0) counts;
        counts = h.1.1.1.0 ∙ counts;
        took = h.1.1.1.1;
      }

  -- the stage keeps these then
  abbrev pub grows_split : (ss : List Sub) (t : Tree) (before after : List Tagged) (new : Last C) → Grows ss t before after new → Split rest is_open f yields new (grown ss t)
  grows_split ss t before after new g = record { olds = g.olds; tail = Some g.now; are = g.now_are; done = g.done; calm = g.calm; counts = g.counts; lasts = g.lasts; took = g.took }

  pub grows_becomes : (ss : List Sub) (t : Tree) (before after : List Tagged) (new : Last C) → Grows ss t before after new → SubsBecome rest is_open f yields ss (grown ss t) None before after new
  grows_becomes ss t before after new g =
      let calm : trouble yields (grown ss t) ≡ None = ap (trouble yields) g.now_are ∙ trouble_both yields g.olds (g.now ∷ []) g.calm (trouble_one yields g.now g.well) in
      let same : news yields 0 ss (grown ss t) ≡ map (tag (length g.olds)) g.gave =
      ap (λ (l : List Sub). news yields 0 l (grown ss t)) g.ss_are ∙ ap (news yields 0 (g.olds ++ option_to_list g.old)) g.now_are
      ∙ news_append yields 0 g.olds (option_to_list g.old) (g.now ∷ []) ∙ ap (λ k. news yields k (option_to_list g.old) (g.now ∷ [])) (omega arith)
      ∙ news_from yields (length g.olds) g.old g.now g.gave g.more in
      (calm, (g.out ∙ ap (λ (l : List Tagged). before ++ l) (sym same), grows_split ss t before after new g))

  -- and then it ends
  pub grows_ends : (ss : List Sub) (t : Tree) (before mid after : List Tagged) (l new : Last C) (g : Grows ss t before mid l) → LastEnds rest is_open f l (Some g.now.took) None mid after new
      → SubsBecome rest is_open f yields ss (end_all (grown ss t)) None before after new
  grows_ends ss t before mid after l new g h =
      let now_are : end_all (grown ss t) ≡ g.olds ++ end_sub g.now ∷ [] = ap end_all g.now_are ∙ end_append g.olds (g.now ∷ []) ∙ ap (λ (l : List Sub). l ++ end_sub g.now ∷ []) (end_done g.olds g.done) in
      let well : fault_of yields (end_sub g.now) ≡ None = end_calm f yields means g.now h.0 h.1.0 in
      let calm : trouble yields (g.olds ++ end_sub g.now ∷ []) ≡ None = trouble_both yields g.olds (end_sub g.now ∷ []) g.calm (trouble_one yields (end_sub g.now) well) in
      let more : (given_by yields (end_sub g.now)).list ≡ given_before yields g.old ++ (g.gave ++ h.0) =
      given_end f yields means g.now h.0 g.lasts h.1.0 ∙ ap (λ (l : List Tree). l ++ h.0) g.more ∙ append_assoc (given_before yields g.old) g.gave h.0 in
      let same : news yields 0 ss (end_all (grown ss t)) ≡ map (tag (length g.olds)) (g.gave ++ h.0) =
      ap (λ (l : List Sub). news yields 0 l (end_all (grown ss t))) g.ss_are ∙ ap (news yields 0 (g.olds ++ option_to_list g.old)) now_are
      ∙ news_append yields 0 g.olds (option_to_list g.old) (end_sub g.now ∷ []) ∙ ap (λ k. news yields k (option_to_list g.old) (end_sub g.now ∷ [])) (omega arith)
      ∙ news_from yields (length g.olds) g.old (end_sub g.now) (g.gave ++ h.0) more in
      let out : after ≡ before ++ map (tag (length g.olds)) (g.gave ++ h.0) =
      h.1.1.0 ∙ ap (λ k. mid ++ map (tag k) h.0) g.counts ∙ ap (λ (l : List Tagged). l ++ map (tag (length g.olds)) h.0) g.out
      ∙ append_assoc before (map (tag (length g.olds)) g.gave) (map (tag (length g.olds)) h.0)
      ∙ ap (λ (l : List Tagged). before ++ l) (sym (map-append (tag (length g.olds)) g.gave h.0)) in (
        ap (trouble yields) now_are ∙ calm,
        (
          out ∙ ap (λ (l : List Tagged). before ++ l) (sym same),
          record {
            olds = g.olds ++ end_sub g.now ∷ [];
            tail = None;
            are = now_are ∙ sym (append-nil (g.olds ++ end_sub g.now ∷ []));
            done = done_append g.olds (end_sub g.now ∷ []) g.done (refl, tt);
            calm = calm;
            counts = h.1.1.1.0 ∙ ap (λ k. k + 1) g.counts ∙ sym (length-append g.olds (end_sub g.now ∷ []));
            lasts = tt;
            took = h.1.1.1.1;
          },
        ),
      )

  -- ---- the end of the last one

  -- by whether there is one
  ends_by : (l new : Last C) (ss olds : List Sub) (tail : Option Sub) (before after : List Tagged) → ss ≡ olds ++ option_to_list tail → AllEnded olds → trouble yields olds ≡ None → l.ended ≡ length olds → IfSome tail (λ s. s.ended ≡ false)
      → LastEnds rest is_open f l (option_map (λ s. s.took) tail) None before after new → SubsBecome rest is_open f yields ss (end_all ss) None before after new
  ends_by l new ss olds None before after are done calm counts open_s h =
      let ss_are : ss ≡ olds = are ∙ append-nil olds in
      let now_are : end_all ss ≡ olds = ap end_all ss_are ∙ end_done olds done in
      let same : news yields 0 ss (end_all ss) ≡ [] = ap (λ (l : List Sub). news yields 0 l (end_all ss)) are ∙ ap (news yields 0 (olds ++ [])) (now_are ∙ sym (append-nil olds)) ∙ news_append yields 0 olds [] [] in (
        ap (trouble yields) now_are ∙ calm,
        (
          h.1.0 ∙ sym (append-nil before) ∙ ap (λ (l : List Tagged). before ++ l) (sym same),
          record { olds = olds; tail = None; are = now_are ∙ sym (append-nil olds); done = done; calm = calm; counts = h.1.1.0 ∙ counts; lasts = tt; took = h.1.1.1 },
        ),
      )
  ends_by l new ss olds (Some s) before after are done calm counts open_s h =
      let now_are : end_all ss ≡ olds ++ end_sub s ∷ [] = ap end_all are ∙ end_append olds (s ∷ []) ∙ ap (λ (l : List Sub). l ++ end_sub s ∷ []) (end_done olds done) in
      let well : trouble yields (olds ++ end_sub s ∷ []) ≡ None = trouble_both yields olds (end_sub s ∷ []) calm (trouble_one yields (end_sub s) (end_calm f yields means s h.0 h.1.0)) in
      let same : news yields 0 ss (end_all ss) ≡ map (tag (length olds)) h.0 =
      ap (λ (l : List Sub). news yields 0 l (end_all ss)) are ∙ ap (news yields 0 (olds ++ s ∷ [])) now_are
      ∙ news_append yields 0 olds (s ∷ []) (end_sub s ∷ []) ∙ ap (λ k. news yields k (s ∷ []) (end_sub s ∷ [])) (omega arith)
      ∙ news_one yields (length olds) s (end_sub s) h.0 (given_end f yields means s h.0 open_s h.1.0) in (
        ap (trouble yields) now_are ∙ well,
        (
          h.1.1.0 ∙ ap (λ k. before ++ map (tag k) h.0) counts ∙ ap (λ (l : List Tagged). before ++ l) (sym same),
          record {
            olds = olds ++ end_sub s ∷ [];
            tail = None;
            are = now_are ∙ sym (append-nil (olds ++ end_sub s ∷ []));
            done = done_append olds (end_sub s ∷ []) done (refl, tt);
            calm = well;
            counts = h.1.1.1.0 ∙ ap (λ k. k + 1) counts ∙ sym (length-append olds (end_sub s ∷ []));
            lasts = tt;
            took = h.1.1.1.1;
          },
        ),
      )

  pub ends_becomes : (l new : Last C) (ss : List Sub) (before after : List Tagged) (sp : Split rest is_open f yields l ss) → LastEnds rest is_open f l (option_map (λ s. s.took) sp.tail) None before after new → SubsBecome rest is_open f yields ss (end_all ss) None before after new
  ends_becomes l new ss before after sp h = ends_by l new ss sp.olds sp.tail before after sp.are sp.done sp.calm sp.counts sp.lasts h

  fails_by : (ss olds more : List Sub) (l new : Last C) (tail : Option Sub) (w : Why) (before after : List Tagged) → ss ≡ olds ++ option_to_list tail → AllEnded olds → trouble yields olds ≡ None
      → LastEnds rest is_open f l (option_map (λ s. s.took) tail) (Some w) before after new → trouble yields (end_all ss ++ more) ≡ Some (by_end w)
  fails_by ss olds more l new None w before after are done calm h = let x : Some w ≡ None = h.0 in cc
  fails_by ss olds more l new (Some s) w before after are done calm h =
      let now_are : end_all ss ++ more ≡ olds ++ (end_sub s ∷ more) = ap (λ (l : List Sub). l ++ more) (ap end_all are ∙ end_append olds (s ∷ []) ∙ ap (λ (l : List Sub). l ++ end_sub s ∷ []) (end_done olds done)) ∙ append_assoc olds (end_sub s ∷ []) more in
      ap (trouble yields) now_are ∙ trouble_append yields olds (end_sub s ∷ more) calm ∙ trouble_fails yields (end_sub s) more (by_end w) (end_fails f yields means s w h)

  pub ends_fail : (l new : Last C) (ss more : List Sub) (w : Why) (before after : List Tagged) (sp : Split rest is_open f yields l ss) → LastEnds rest is_open f l (option_map (λ s. s.took) sp.tail) (Some w) before after new → trouble yields (end_all ss ++ more) ≡ Some (by_end w)
  ends_fail l new ss more w before after sp h = fails_by ss sp.olds more l new sp.tail w before after sp.are sp.done sp.calm h

  -- ---- a failure at an element

  pub grow_fails : (ss olds : List Sub) (now : Sub) (w : Why) → ss ≡ olds ++ now ∷ [] → trouble yields olds ≡ None → f.stop now.took ≡ Failed w → trouble yields ss ≡ Some (by_element w)
  grow_fails ss olds now w are calm h = ap (trouble yields) are ∙ trouble_append yields olds (now ∷ []) calm ∙ trouble_fails yields now [] (by_element w) (sub_fails f yields means now w h)

  pub grow_end_fails : (ss olds : List Sub) (now : Sub) (w : Why) → ss ≡ olds ++ now ∷ [] → AllEnded olds → trouble yields olds ≡ None → f.stop now.took ≡ Failed w → trouble yields (end_all ss) ≡ Some (by_element w)
  grow_end_fails ss olds now w are done calm h = grow_fails (end_all ss) olds (end_sub now) w (ap end_all are ∙ end_append olds (now ∷ []) ∙ ap (λ (l : List Sub). l ++ end_sub now ∷ []) (end_done olds done)) calm h

  -- ---- by the substreams that the logic keeps

  grow_none_by : (l new : Last C) (ss olds : List Sub) (tail : Option Sub) (t : Tree) (before after : List Tagged) → ss ≡ olds ++ option_to_list tail → AllEnded olds → trouble yields olds ≡ None → l.ended ≡ length olds → IfSome tail (λ s. s.ended ≡ false)
      → LastGrows rest is_open f l (option_map (λ s. s.took) tail) t None before after new → Grows ss t before after new
  grow_none_by l new ss olds None t before after are done calm counts lasts h = opens_grow l new ss olds t before after are done calm counts h
  grow_none_by l new ss olds (Some r) t before after are done calm counts lasts h = feeds_grow l new ss olds r t before after are done calm counts lasts h

  pub grow_none : (l new : Last C) (ss : List Sub) (t : Tree) (before after : List Tagged) (sp : Split rest is_open f yields l ss) → LastGrows rest is_open f l (option_map (λ s. s.took) sp.tail) t None before after new → Grows ss t before after new
  grow_none l new ss t before after sp h = grow_none_by l new ss sp.olds sp.tail t before after sp.are sp.done sp.calm sp.counts sp.lasts h

  pub record GrowFails (ss : List Sub) (t : Tree) (w : Why) : Type 0 where
    pub here : trouble yields (grown ss t) ≡ Some (by_element w)
    pub ended : trouble yields (end_all (grown ss t)) ≡ Some (by_element w)

  grow_some_by : (l new : Last C) (ss olds : List Sub) (tail : Option Sub) (t : Tree) (w : Why) (before after : List Tagged) → ss ≡ olds ++ option_to_list tail → AllEnded olds → trouble yields olds ≡ None → IfSome tail (λ s. s.ended ≡ false)
      → LastGrows rest is_open f l (option_map (λ s. s.took) tail) t (Some w) before after new → GrowFails ss t w
  grow_some_by l new ss olds None t w before after are done calm lasts h =
      let now : grown ss t ≡ olds ++ fresh t ∷ [] = ap (λ (l : List Sub). grown l t) are ∙ grown_none olds t done in
      record { here = grow_fails (grown ss t) olds (fresh t) w now calm h; ended = grow_end_fails (grown ss t) olds (fresh t) w now done calm h }
  grow_some_by l new ss olds (Some r) t w before after are done calm lasts h =
      let now : grown ss t ≡ olds ++ take_in t r ∷ [] = ap (λ (l : List Sub). grown l t) are ∙ grown_some olds r t lasts in
      record { here = grow_fails (grown ss t) olds (take_in t r) w now calm h; ended = grow_end_fails (grown ss t) olds (take_in t r) w now done calm h }

  pub grow_some : (l new : Last C) (ss : List Sub) (t : Tree) (w : Why) (before after : List Tagged) (sp : Split rest is_open f yields l ss) → LastGrows rest is_open f l (option_map (λ s. s.took) sp.tail) t (Some w) before after new → GrowFails ss t w
  grow_some l new ss t w before after sp h = grow_some_by l new ss sp.olds sp.tail t w before after sp.are sp.done sp.calm sp.lasts h

  -- all end, and then a new one opens
  ends_opens : (ss : List Sub) (t : Tree) (before mid after : List Tagged) (l new : Last C) → SubsBecome rest is_open f yields ss (end_all ss) None before mid l → SubsBecome rest is_open f yields (end_all ss) (end_all ss ++ fresh t ∷ []) None mid after new
      → SubsBecome rest is_open f yields ss (end_all ss ++ fresh t ∷ []) None before after new
  ends_opens ss t before mid after l new a b =
      let first : news yields 0 (end_all ss) (end_all ss ++ fresh t ∷ []) ≡ news yields (0 + length (end_all ss)) [] (fresh t ∷ []) =
      ap (λ (l : List Sub). news yields 0 l (end_all ss ++ fresh t ∷ [])) (sym (append-nil (end_all ss))) ∙ news_append yields 0 (end_all ss) [] (fresh t ∷ []) in
      let both : news yields 0 ss (end_all ss ++ fresh t ∷ []) ≡ news yields 0 ss (end_all ss) ++ news yields 0 (end_all ss) (end_all ss ++ fresh t ∷ []) =
      news_split yields 0 ss (end_all ss) (fresh t ∷ []) (sym (length-map ss end_sub)) ∙ ap (λ (l : List Tagged). news yields 0 ss (end_all ss) ++ l) (sym first) in (
        b.0,
        (
          b.1.0 ∙ ap (λ (l : List Tagged). l ++ news yields 0 (end_all ss) (end_all ss ++ fresh t ∷ [])) a.1.0
              ∙ append_assoc before (news yields 0 ss (end_all ss)) (news yields 0 (end_all ss) (end_all ss ++ fresh t ∷ [])) ∙ ap (λ (l : List Tagged). before ++ l) (sym both),
          b.1.1,
        ),
      )

  all_done : (ss : List Sub) → AllEnded (end_all ss)
  all_done [] = tt
  all_done (s ∷ ss) = (refl, all_done ss)

  grown_ended : (ss : List Sub) (t : Tree) → grown (end_all ss) t ≡ end_all ss ++ fresh t ∷ []
  grown_ended ss t = ap (λ (l : List Sub). grown l t) (sym (append-nil (end_all ss))) ∙ grown_none (end_all ss) t (all_done ss)

  pub end_and_open_none : (l mid_l new : Last C) (ss : List Sub) (t : Tree) (before mid after : List Tagged) → SubsBecome rest is_open f yields ss (end_all ss) None before mid mid_l
      → SubsBecome rest is_open f yields (end_all ss) (grown (end_all ss) t) None mid after new → SubsBecome rest is_open f yields ss (opened t t ss) None before after new
  end_and_open_none l mid_l new ss t before mid after a b = ends_opens ss t before mid after mid_l new a (subst (λ x. SubsBecome rest is_open f yields (end_all ss) x None mid after new) (grown_ended ss t) b)

  pub opened_fails : (ss : List Sub) (t : Tree) (w : Why) → trouble yields (grown (end_all ss) t) ≡ Some (by_element w) → trouble yields (opened t t ss) ≡ Some (by_element w)
  opened_fails ss t w e = ap (trouble yields) (sym (grown_ended ss t)) ∙ e

  pub open_after_fails : (l new : Last C) (ss : List Sub) (t : Tree) (w : Why) (before after : List Tagged) (sp : Split rest is_open f yields l ss) → LastEnds rest is_open f l (option_map (λ s. s.took) sp.tail) (Some w) before after new → trouble yields (opened t t ss) ≡ Some (by_end w)
  open_after_fails l new ss t w before after sp h = ends_fail l new ss (fresh t ∷ []) w before after sp h

  pub end_some : (l new : Last C) (ss : List Sub) (w : Why) (before after : List Tagged) (sp : Split rest is_open f yields l ss) → LastEnds rest is_open f l (option_map (λ s. s.took) sp.tail) (Some w) before after new → trouble yields (end_all ss) ≡ Some (by_end w)
  end_some l new ss w before after sp h = ap (trouble yields) (sym (append-nil (end_all ss))) ∙ ends_fail l new ss [] w before after sp h

  pub grow_then_end_fails : (ss : List Sub) (t : Tree) (w : Why) (before mid after : List Tagged) (l new : Last C) (g : Grows ss t before mid l) → LastEnds rest is_open f l (Some g.now.took) (Some w) mid after new → trouble yields (end_all (grown ss t)) ≡ Some (by_end w)
  grow_then_end_fails ss t w before mid after l new g h = end_some l new (grown ss t) w mid after (grows_split ss t before mid l g) h
