-- What a stage with substreams gave agrees with the outlook of its output, where what it took does: each of its substreams goes
-- through the chain that its kind names.
use Rattle.std.specs.Prelude.{slice_get, Option}
use Rattle.std.proofs.Common.{◌≡◌, ℕ, Bool, true, false, List, [], ◌∷◌, None, Some, refl, sym, ap, subst, ◌∙◌}
use Rattle.elem_core.specs.Tree.{Tree}
use Rattle.elem_core.specs.declared.item.Item.{Item}
use Rattle.elem_core.specs.declared.why.Decider.{Decider}
use Rattle.elem_core.specs.declared.function.MapFn.{MapFn}
use Rattle.elem_core.specs.declared.function.Pred.{Pred}
use Rattle.port_core.specs.View.{View}
use Rattle.port_core.specs.ListFunction.{ListFunction, Same}
use Rattle.stream_model.specs.declared.kind.Kind.{Kind}
use Rattle.stream_model.specs.declared.kind.Kind.TheVariants.{GroupBy, SplitWhen, SplitAfter}
use Rattle.stream_model.specs.declared.kind.Joining.{Joining}
use Rattle.stream_model.specs.declared.kind.Joining.TheVariants.{Merge, Concat}
use Rattle.stream_model.specs.Outlook.{Outlook, End, Agrees}
use Rattle.stream_model.specs.Fits.{moves_fit}
use Rattle.stream_model.specs.Machine.{Given}
use Rattle.stream_model.specs.Graph.{Graph, steps_of}
use Rattle.stream_model.specs.Graph as graph
use Rattle.stream_model.specs.Linear.{Book}
use Rattle.stream_model.specs.Node.{World, head_of, chain_of, node_outlook}
use Rattle.stream_model.specs.Substreams.{Chain, Opening, by_key, before, behind, through, substreams, begin_subs, concat_subs, merge_subs, subs_fit}
use Rattle.stream_model.proofs.SubTraces.{concat_trace, merged_trace}
use Rattle.stream_model.proofs.Agreeing.{sub_moves_fit}
use Rattle.stream_model.specs.View as picture
use Rattle.stream_model.specs.Lawful.{RowLawful, StageLawful, SubsLawful}
use Rattle.stream_model.specs.Linear.{role_of}
use Rattle.stream_model.specs.OneWay.{of_machine, is_sink}
use Rattle.port_core.specs.declared.pick_log.Next.{Next}
use Rattle.run_laws.specs.Replayed.{Plans, subs_rest, subs_misfit, RoleLawfulBy, RoleRestsBy, RoleMisfits}
use Rattle.stream_model.specs.Rests.{RowRests, StageRests, OneToOne}
use Rattle.stage_core.specs.Held.{owing}
use Rattle.step_work.specs.Means.{Means}
use Rattle.step_work.specs.LineChains.{list_function}
use Rattle.step_work.proofs.LineChains.{chain_means}
use Rattle.stage_sub.specs.declared.opening.OpenBy.{OpenBy}
use Rattle.stage_sub.specs.declared.opening.OpenBy.TheVariants.{Before, Behind, Key}
use Rattle.stage_sub.specs.KeptSubs.{opening_of}
use Rattle.stage_sub.specs.Joined.{untag}
use Rattle.stage_sub.specs.States.{Logic, Owes, begun}
use Rattle.stage_sub.specs.Handling.{BeginsAs, ChoosesAs, SubLaw, SubPortState, TellsMachine, new_log}
use Rattle.stage_sub.specs.Leds.{Led, port_state_by}
use Rattle.stage_sub.specs.LedLaws.{LedPortState}
use Rattle.stage_sub.proofs.Beginning.{begun_owes}
use Rattle.stage_sub.proofs.Standing.{concat_stands, merge_stands}
use Rattle.line_chain.specs.Line.{Line, line_whole, line_rest, line_is_open, no_plugs, IsLine}
use Rattle.run_laws.specs.Items.{AllMayPass, MayPass, AgreesWith}
use Rattle.run_laws.specs.KindLaws.{RunLaws, HearsAll}
use Rattle.run_laws.proofs.InRuns.{one_given}
use Rattle.run_laws.specs.Made.{chain_name}
use Rattle.run_laws.proofs.Ports.{heard_one}
use Rattle.run_laws.proofs.Stages.{one_input}

-- ---- by its kind

-- the outlook of its output, and whether its moves fit, by the way of joining
abbrev pub outlook_by : Joining → (List Tree → End → Given Tree) → ℕ → Opening → List ℕ → Outlook → Outlook
outlook_by Merge c node o moves i = merge_subs c node o moves i
outlook_by Concat c node o moves i = concat_subs c node o i

abbrev pub fits_by : Joining → (List Tree → End → Given Tree) → ℕ → Opening → List ℕ → Outlook → Bool
fits_by Merge c node o moves i = subs_fit c node o moves i
fits_by Concat c node o moves i = true

-- what the chain of such a stage yields in the model
abbrev pub yields_of : Graph → World → ℕ → Kind → List Tree → End → Given Tree
yields_of g w k kd = through w.book (chain_of k (steps_of (chain_name kd) g.chains))

-- a kind with substreams that open and are joined so: in a run, and in a picture, where it may follow moves
pub record IsSubKind (kd : Kind) (o : Opening) (j : Joining) : Type 0 where
  pub no_sink : is_sink kd ≡ false
  pub outlook : (g : Graph) (w : World) (k : ℕ) (d : Decider) (os : List Outlook) (p : ℕ) → node_outlook g w k kd d os p ≡ outlook_by j (yields_of g w k kd) k o (w.moves k) (head_of os)
  pub fits : (g : Graph) (w : World) (k : ℕ) (os : List Outlook) → moves_fit g w k kd os ≡ fits_by j (yields_of g w k kd) k o (w.moves k) (head_of os)
  pub lawful : (g : Graph) (w : World) (k : ℕ) (d : Decider) (is os : List picture.SeenWire) → OneToOne (StageLawful (of_machine (substreams (yields_of g w k kd) o) (begin_subs (yields_of g w k kd) k) true)) is os → OneToOne (SubsLawful j (w.moves k)) is os → RowLawful g w k kd d is os
  pub rests : (g : Graph) (w : World) (k : ℕ) (d : Decider) (is os : List picture.SeenWire) → OneToOne (StageRests (of_machine (substreams (yields_of g w k kd) o) (begin_subs (yields_of g w k kd) k) true)) is os → RowRests g w k kd d is os
  pub lawful_by : (g : Graph) (w : World) (plans : Plans) (k : ℕ) (d : Decider) (is os : List picture.SeenWire) → RowLawful g w k kd d is os → RoleLawfulBy g w plans k (role_of kd) d is os
  pub rests_by : (g : Graph) (w : World) (comes : List Outlook) (next : Next) (k : ℕ) (d : Decider) (is os : List picture.SeenWire) → subs_rest g w comes next j (RowRests g w k kd d is os) os → RoleRestsBy g w comes next k (role_of kd) d is os
  pub misfits : (g : Graph) (w : World) (left : Option (List ℕ)) (k : ℕ) (comes : List Outlook) → subs_misfit g w left k j o (chain_name kd) comes → RoleMisfits g w left k (role_of kd) comes

group_kind : (n : ℕ) (f : MapFn) (name : List ℕ) → IsSubKind (GroupBy n f name) (by_key n f) Merge
group_kind n f name = record { no_sink = refl; outlook = λ g w k d os p. refl; fits = λ g w k os. refl; lawful = λ g w k d is os r m. (r, m); rests = λ g w k d is os r. r; lawful_by = λ g w plans k d is os h. h; rests_by = λ g w comes next k d is os h. h; misfits = λ g w left k comes h. h }

when_kind : (p : Pred) (name : List ℕ) (j : Joining) → IsSubKind (SplitWhen p name j) (before p) j
when_kind p name Merge = record { no_sink = refl; outlook = λ g w k d os p. refl; fits = λ g w k os. refl; lawful = λ g w k d is os r m. (r, m); rests = λ g w k d is os r. r; lawful_by = λ g w plans k d is os h. h; rests_by = λ g w comes next k d is os h. h; misfits = λ g w left k comes h. h }
when_kind p name Concat = record { no_sink = refl; outlook = λ g w k d os p. refl; fits = λ g w k os. refl; lawful = λ g w k d is os r m. (r, m); rests = λ g w k d is os r. r; lawful_by = λ g w plans k d is os h. h; rests_by = λ g w comes next k d is os h. h; misfits = λ g w left k comes h. h }

after_kind : (p : Pred) (name : List ℕ) (j : Joining) → IsSubKind (SplitAfter p name j) (behind p) j
after_kind p name Merge = record { no_sink = refl; outlook = λ g w k d os p. refl; fits = λ g w k os. refl; lawful = λ g w k d is os r m. (r, m); rests = λ g w k d is os r. r; lawful_by = λ g w plans k d is os h. h; rests_by = λ g w comes next k d is os h. h; misfits = λ g w left k comes h. h }
after_kind p name Concat = record { no_sink = refl; outlook = λ g w k d os p. refl; fits = λ g w k os. refl; lawful = λ g w k d is os r m. (r, m); rests = λ g w k d is os r. r; lawful_by = λ g w plans k d is os h. h; rests_by = λ g w comes next k d is os h. h; misfits = λ g w left k comes h. h }

-- a stage of such a kind at its start
pub record SubFirst (k : ℕ) (kd : Kind) (chain : Line) (x : Logic Line) : Type 0 where
  pub how : OpenBy
  pub join : Joining
  pub kind : IsSubKind kd (opening_of how) join
  pub is : x ≡ begun k how (new_log join) chain

pub sub_first : (k : ℕ) (kd : Kind) (chain : Line) (x : Logic Line) → BeginsAs kd k chain x → SubFirst k kd chain x
sub_first k (GroupBy n f name) chain x b = record { how = Key n f; join = Merge; kind = group_kind n f name; is = b }
sub_first k (SplitWhen p name j) chain x b = record { how = Before p; join = j; kind = when_kind p name j; is = b }
sub_first k (SplitAfter p name j) chain x b = record { how = Behind p; join = j; kind = after_kind p name j; is = b }
sub_first k _ chain x b = absurd b

-- where nothing is followed, what it knows of its ports is what its logic knows
pub unled_ports : (l : Led Line) (v : View) → l.left ≡ None → LedPortState line_rest line_is_open l v → SubPortState line_rest line_is_open l.logic v
unled_ports l v none r = record { started = r.started; ready = r.ready; ports = subst (λ (p : Option (List ℕ)). port_state_by p l v) none r.ports }

-- ---- what its law tells, by its chain

module _ (k : ℕ) (first now : Logic Line) (v : View) (took gave : List (List Item)) (how : OpenBy) (join : Joining) (is : first ≡ begun k how (new_log join) first.chain) (law : SubLaw line_rest line_is_open line_whole first now v took gave) where
  -- by whatever its chain comes to in the model
  tells_by : (f : ListFunction) (yields : List Tree → End → Given Tree) → Same (line_whole first.chain) f → Means yields f → TellsMachine line_rest line_is_open f yields (begin_subs yields k) first now v law.took_list law.gave_list
  tells_by f yields same means =
      law.tells f same yields means (begin_subs yields k)
      (subst (λ (x : Logic Line). Owes line_rest line_is_open f yields x (owing (untag (begin_subs yields k)))) (sym is) (begun_owes line_rest line_is_open k how (new_log join) first.chain f yields))

  -- by the chain of these steps
  pub tells_of : (book : Book) (steps : List graph.Step) → IsLine k steps first.chain → TellsMachine line_rest line_is_open (list_function book (chain_of k steps)) (through book (chain_of k steps)) (begin_subs (through book (chain_of k steps)) k) first now v law.took_list law.gave_list
  tells_of book steps line =
      tells_by (list_function book (chain_of k steps)) (through book (chain_of k steps))
      (subst (λ (xs : Chain). Same (line_whole first.chain) (list_function book xs)) line.starts (line.same book))
      (chain_means book (chain_of k steps))

  -- what came at its input is a list and an end
  hears_of : HearsAll v took
  hears_of p h at =
      let same : Same (line_whole first.chain) (line_whole first.chain) = record { gives = λ l. refl; stop = λ l. refl; adds = λ l. refl } in
      let its = (tells_by (line_whole first.chain) (through no_plugs first.chain.starts) same (chain_means no_plugs first.chain.starts)).law in
      heard_one v took law.took_list law.took_is (record { list = its.in_list; end = its.in_end; is = its.took_is; as_seen = its.took_as }) p h at

pub sub_hears : (k : ℕ) (n : graph.Node) (first now : Logic Line) (v : View) (took gave : List (List Item)) → BeginsAs n.kind k first.chain first → SubLaw line_rest line_is_open line_whole first now v took gave → HearsAll v took
sub_hears k n first now v took gave begins law = let f = sub_first k n.kind first.chain first begins in hears_of k first now v took gave f.how f.join f.is law

-- ---- in a run

-- a log that was begun is kept
pub logs_on : (first now : Option (List ℕ)) → ChoosesAs first now → first ≡ Some [] → (ms : List ℕ) × (now ≡ Some ms)
logs_on (Some l) (Some ms) c e = (ms, refl)
logs_on (Some l) None c e = absurd c
logs_on None now c e = cc

module _ (g : Graph) (w : World) (k : ℕ) (n : graph.Node) (first now : Logic Line) (v : View) (took gave : List (List Item)) (begins : BeginsAs n.kind k first.chain first) (line : IsLine k (steps_of (chain_name n.kind) g.chains) first.chain)
    (told_moves : (ms : List ℕ) → now.moves ≡ Some ms → w.moves k ≡ ms) (law : SubLaw line_rest line_is_open line_whole first now v took gave) where
  f : SubFirst k n.kind first.chain first
  f = sub_first k n.kind first.chain first begins

  abbrev yields : List Tree → End → Given Tree
  yields = yields_of g w k n.kind

  its : TellsMachine line_rest line_is_open (list_function w.book (chain_of k (steps_of (chain_name n.kind) g.chains))) yields (begin_subs yields k) first now v law.took_list law.gave_list
  its = tells_of k first now v took gave f.how f.join f.is law w.book (steps_of (chain_name n.kind) g.chains) line

  how_is : opening_of first.how ≡ opening_of f.how
  how_is = ap (λ (x : Logic Line). opening_of x.how) f.is

  -- by the way of joining: it agrees, and its moves fit
  by_join : (j : Joining) → first.moves ≡ new_log j → (o : Outlook) → Agrees o its.law.in_list its.law.in_end
      → Agrees (outlook_by j yields k (opening_of first.how) (w.moves k) o) its.law.out_list its.law.out_end × (fits_by j yields k (opening_of first.how) (w.moves k) o ≡ true)
  by_join Merge m o a =
      let log = logs_on first.moves now.moves law.chooses m in
      let stands = merge_stands line_rest line_is_open _ yields k first now v law.took_list law.gave_list its log.0 log.1 in
      rw (told_moves log.0 log.1) (merged_trace yields k (opening_of first.how) log.0 o its.law.in_list its.law.in_end its.law.out_list its.law.out_end a stands, sub_moves_fit yields k (opening_of first.how) log.0 o its.law.in_list its.law.in_end its.law.out_list its.law.out_end a stands)
  by_join Concat m o a =
      let s = concat_stands line_rest line_is_open _ yields k first now v law.took_list law.gave_list its in
      (subst (λ (l : List Tree). Agrees (concat_subs yields k (opening_of first.how) o) l its.law.out_end) s.1.0 (concat_trace yields k (opening_of first.how) o its.law.in_list its.law.in_end s.0 its.law.out_end a s.1.1), refl)

  at_one : (o : Outlook) → MayPass o law.took_list
      → Agrees (outlook_by f.join yields k (opening_of f.how) (w.moves k) o) its.law.out_list its.law.out_end × (fits_by f.join yields k (opening_of f.how) (w.moves k) o ≡ true)
  at_one o a =
      subst (λ (q : Opening). Agrees (outlook_by f.join yields k q (w.moves k) o) its.law.out_list its.law.out_end × (fits_by f.join yields k q (w.moves k) o ≡ true)) how_is
      (by_join f.join (ap (λ (x : Logic Line). x.moves) f.is) o (a its.law.in_list its.law.in_end its.law.took_is))

  one : (os : List Outlook) → AllMayPass os took → (o : Outlook) × ((os ≡ o ∷ []) × MayPass o law.took_list)
  one os a = one_input os law.took_list (rw law.took_is at a)

  sub_gives : (os : List Outlook) → AllMayPass os took → (p : ℕ) (h : List Item) → slice_get gave p ≡ Some h → AgreesWith (node_outlook g w k n.kind n.decider os p) h
  sub_gives os a p h at =
      let o = one os a in
      let given = one_given law.gave_list h p (subst (λ (hs : List (List Item)). slice_get hs p ≡ Some h) law.gave_is at) in
      record {
        list = its.law.out_list;
        end = its.law.out_end;
        is = given.1 ∙ its.law.gave_is;
        agrees = rw (f.kind.outlook g w k n.decider os p, o.1.0) ((at_one o.0 o.1.1).0);
      }

  sub_fits : (os : List Outlook) → AllMayPass os took → moves_fit g w k n.kind os ≡ true
  sub_fits os a =
      let o = one os a in
      rw (f.kind.fits g w k os, o.1.0) ((at_one o.0 o.1.1).1)

  pub sub_laws : RunLaws g w k n took gave
  sub_laws = record { gives = sub_gives; fits = sub_fits }
