-- What a stage with substreams that follows moves gives of its law: in a run, in a picture, and why it stopped.
use Rattle.std.specs.Prelude.{slice_get, slice_index_or, ◌==◌, if◌then◌else◌}
use Rattle.std.specs.Option.{unwrap_or}
use Rattle.std.proofs.Common.{◌≡◌, ◌≢◌, ◌⊎◌, inl, inr, ℕ, suc, ◌+◌, ◌-◌, ◌<◌, ◌≤◌, Bool, true, false, List, [], ◌∷◌, ◌++◌, length, take, map, Option, None, Some, refl, sym, ap, ◌∙◌, subst, arith}
use Rattle.std.proofs.lemmas.List.{length-map}
use Rattle.elem_core.specs.Prefix.{IsPrefix}
use Rattle.elem_core.specs.Tree.{Tree}
use Rattle.elem_core.specs.Items.{elements}
use Rattle.elem_core.specs.declared.item.Item.{Item}
use Rattle.elem_core.proofs.Prefixes.{prefix_refl, prefix_length, prefix_is_take}
use Rattle.port_core.specs.ListFunction.{ListFunction, Same}
use Rattle.port_core.specs.Picks.{next_move, may_end, plan_of}
use Rattle.port_core.specs.View.{View, OneOneOf, in_at, out_at}
use Rattle.port_core.specs.declared.pick_log.Next.{Next}
use Rattle.port_core.specs.declared.pick_log.Next.TheVariants.{Free, Move, UsedUp}
use Rattle.port_core.specs.declared.view.InView.{InView}
use Rattle.port_core.specs.declared.view.InView.TheVariants.{Pulled}
use Rattle.port_core.specs.declared.view.OutView.{OutView}
use Rattle.port_core.specs.declared.view.OutView.TheVariants.{Available}
use Rattle.stream_io.specs.State.{SourceState, DrainState}
use Rattle.stream_model.specs.declared.kind.Joining.{Joining}
use Rattle.stream_model.specs.declared.kind.Joining.TheVariants as joining
use Rattle.stream_model.specs.FanIn.{Tagged, Inflow, AllAgree}
use Rattle.stream_model.specs.Fits.{moves_fit}
use Rattle.stream_model.specs.Graph.{Graph, steps_of}
use Rattle.stream_model.specs.Graph as graph
use Rattle.stream_model.specs.Linear.{Book, role_of}
use Rattle.stream_model.specs.Machine.{State, Run, Machine, Given, run, close_at, close, whole, input_end, is_going, Stands}
use Rattle.stream_model.specs.Node.{World, chain_of, head_of, node_outlook}
use Rattle.plan_laws.proofs.Substreams.{subs_serve}
use Rattle.stream_model.specs.Outlook.{Outlook, End, unended, ended, Agrees}
use Rattle.stream_model.specs.Picks.{count_of}
use Rattle.stream_model.specs.Substreams.{Chain, Opening, Subs, through, substreams, begin_subs, of_sub, merge_subs, subs_fit, MergedStands}
use Rattle.stream_model.proofs.Agreeing.{sub_moves_fit}
use Rattle.stream_model.proofs.PickTraces.{agrees_prefix}
use Rattle.stream_model.proofs.SubTraces.{merged_trace}
use Rattle.stream_model.specs.Lawful.{StageLawful, SubsLawful}
use Rattle.stream_model.specs.OneWay.{of_machine}
use Rattle.stream_model.specs.Rests.{IsShut, StageRests, RowRests}
use Rattle.stream_model.specs.View.{EachWire, demand, wanted}
use Rattle.stage_core.proofs.Flags.{same}
use Rattle.stage_core.specs.Fans.{untagged}
use Rattle.stage_core.specs.Held.{told, owing}
use Rattle.stage_core.specs.Law.{TookAs}
use Rattle.stage_core.specs.PortsLaws.{InPortsLaw}
use Rattle.stage_core.specs.Row.{InClosed}
use Rattle.stage_core.specs.Seats.{wish}
use Rattle.stage_core.specs.declared.phase.Phase.{Phase}
use Rattle.stage_core.specs.declared.phase.Phase.TheVariants.{New, Open, Closed}
use Rattle.step_work.specs.LineChains.{list_function}
use Rattle.step_work.specs.Means.{Means}
use Rattle.step_work.proofs.LineChains.{chain_means}
use Rattle.stage_sub.specs.Joined.{untag, joined_machine}
use Rattle.stage_sub.specs.KeptSubs.{opening_of}
use Rattle.stage_sub.specs.States.{Logic, Owes}
use Rattle.stage_sub.specs.Handling.{ports_given, new_log}
use Rattle.stage_sub.specs.Picking.{first_of_sub, of_number}
use Rattle.stage_sub.specs.Leds.{Led, sub_plan, led_input, LedRests, led_at, led_in}
use Rattle.stage_sub.specs.LedLaws.{BeginsEach, led_ready, CannotGive, held_back, no_more, MisfitBy, GivenBy, StandsAt, LedServes, keeps_by, LedKeeps, LedPortState, LedLaw, SubsLaw}
use Rattle.stage_sub.proofs.Beginning.{begun_owes}
use Rattle.stage_sub.proofs.LedCalls.{led_state}
use Rattle.stage_sub.proofs.LedStanding.{led_stands, led_cause}
use Rattle.stage_sub.proofs.Picking.{TakenOut, taken_out, taken_port, none_of, shares_begin, of_sub_number}
use Rattle.stage_sub.proofs.Untagging.{run_untag, closed_untag}
use Rattle.line_chain.specs.Line.{Line, line_whole, line_rest, line_is_open, no_plugs}
use Rattle.nodes.specs.declared.node.IslandNode.{IslandNode}
use Rattle.nodes.specs.declared.node.IslandNode.TheVariants.{Sub}
use Rattle.nodes.specs.Nodes.{node_port_state, node_law, node_asking, node_moves}
use Rattle.run_laws.specs.Items.{AllMayPass, AgreesWith}
use Rattle.run_laws.specs.KindLaws.{RunLaws, Moments, PictureLawsBy}
use Rattle.run_laws.specs.Made.{FirstSub, chain_name}
use Rattle.run_laws.specs.Picture.{sink_ended}
use Rattle.run_laws.specs.Ports.{InPort, OutPort, InStands, OutStands, InRests, OutRests, views_of, gots_of, sents_of}
use Rattle.run_laws.specs.Replayed.{Plans, left, subs_rest, SubsCauseOf, SubsCause, subs_misfit, RowRestsBy, RoleMisfits}
use Rattle.run_laws.proofs.Coming.{elements_told}
use Rattle.run_laws.proofs.Freely.{left_is}
use Rattle.run_laws.proofs.InRuns.{one_given}
use Rattle.run_laws.proofs.MachineRows.{most_given, stage_asked, waited_rests}
use Rattle.run_laws.proofs.OnePorts.{one_views, one_same, began, given_one, reached, not_both}
use Rattle.run_laws.proofs.PictureStages.{closed_both, Waited}
use Rattle.run_laws.proofs.Plans.{made_first}
use Rattle.run_laws.proofs.StateChoices.{flows_agree}
use Rattle.run_laws.proofs.SubRows.{alike_lawful, alike_rests, joined_alike}
use Rattle.run_laws.proofs.Subs.{outlook_by, fits_by, yields_of, SubFirst, sub_first, sub_laws}

-- ---- no more was given than is ready

-- without the first of its substream on both sides, of each substream what was given begins what is ready
begins_behind : (n : ℕ) (x y : Tagged) (g ready others : List Tagged) → y.port ≡ x.port → of_number n ready ≡ of_number n (y ∷ []) ++ of_number n others → IsPrefix (of_number n (x ∷ g)) (of_number n ready) → IsPrefix (of_number n g) (of_number n others)
begins_behind n x y g ready others port out b = by_flag (x.port == n) refl b.rest b.is
  where
    by_flag : (c : Bool) → (x.port == n) ≡ c → (rest : List Tagged) → of_number n ready ≡ of_number n (x ∷ g) ++ rest → IsPrefix (of_number n g) (of_number n others)
    by_flag true e rest is =
        let f : (y.port == n) ≡ true = ap (λ (p : ℕ). p == n) port ∙ e in
        let a : of_number n ready ≡ y ∷ of_number n others = (let q = out in rw f at q) in
        let c : of_number n ready ≡ x ∷ (of_number n g ++ rest) = (let q = is in rw e at q) in
        let both : y ∷ of_number n others ≡ x ∷ (of_number n g ++ rest) = sym a ∙ c in
        let tails : of_number n others ≡ of_number n g ++ rest = cc in
        record { rest = rest; is = tails }
    by_flag false e rest is =
        let f : (y.port == n) ≡ false = ap (λ (p : ℕ). p == n) port ∙ e in
        let a : of_number n ready ≡ of_number n others = (let q = out in rw f at q) in
        let c : of_number n ready ≡ of_number n g ++ rest = (let q = is in rw e at q) in
        record { rest = rest; is = sym a ∙ c }

begins_fewer : (given ready : List Tagged) → BeginsEach ready given → length given ≤ length ready
begins_fewer [] ready b = omega arith
begins_fewer (x ∷ g) ready b = by_first (first_of_sub x.port ready) refl (λ r h. begins_fewer g r h)
  where
    first_there : of_number x.port (x ∷ g) ≡ x ∷ of_number x.port g
    first_there = let e : (x.port == x.port) ≡ true = same x.port x.port refl in rw e refl

    none_there : (l : List Tagged) → of_number x.port ready ≡ [] → of_number x.port ready ≡ of_number x.port (x ∷ g) ++ l → ⊥
    none_there l none is = let z : [] ≡ x ∷ (of_number x.port g ++ l) = sym none ∙ is ∙ ap (λ (h : List Tagged). h ++ l) first_there in cc

    by_first : (o : Option (Tagged × List Tagged)) → first_of_sub x.port ready ≡ o → ((r : List Tagged) → BeginsEach r g → length g ≤ length r) → suc (length g) ≤ length ready
    by_first None e later = absurd (none_there (b x.port).rest (none_of x.port ready e) (b x.port).is)
    by_first (Some p) e later =
        let t : TakenOut ready p.0 p.1 = taken_out x.port ready p.0 p.1 e in
        let few = later p.1 (λ n. begins_behind n x p.0 g ready p.1 (taken_port x.port ready p.0 p.1 e) (t.same n) (b n)) in
        let long = t.long in
        omega (arith, few, long)

-- ---- a cause, in the words of the model

module _ (yields : List Tree → End → Given Tree) (o : Opening) (k : ℕ) where
  counted : (m : ℕ) (l : List Tagged) → length (of_sub yields m l) ≡ length (of_number m l)
  counted m l = ap length (of_sub_number yields m l) ∙ length-map (of_number m l) (λ x. x.item)

  sub_cause_of : (m : ℕ) (moves : List ℕ) (f : Inflow) (i : Outlook) → Agrees i f.list f.end → CannotGive yields o (begin_subs yields k) m moves f → SubsCauseOf yields k o m moves i
  sub_cause_of m moves f i a (held_back all more) =
      let part = agrees_prefix i f.list f.end a in
      let here : take (length f.list) i.list ≡ f.list = prefix_is_take part in
      let count = counted m (run (substreams yields o) (begin_subs yields k) f.list).gave in
      inl (
        length f.list,
        (
          prefix_length part,
          (
            subst (λ (l : List Tree). length (of_sub yields m (run (substreams yields o) (begin_subs yields k) l).gave) ≤ count_of m moves) (sym here) (omega (arith, count, all)),
            subst (λ (l : List Tree). length moves < length (run (substreams yields o) (begin_subs yields k) l).gave) (sym here) more,
          ),
        ),
      )
  sub_cause_of m moves f i a (no_more over all) =
      let came : Agrees i f.list ended = subst (λ (e : End). Agrees i f.list e) over a in
      let ready : led_ready yields o (begin_subs yields k) f ≡ (whole (substreams yields o) (begin_subs yields k) i).list =
      ap (λ (e : End). (close (substreams yields o) (run (substreams yields o) (begin_subs yields k) f.list) e).list) over
      ∙ ap (λ (l : List Tree). (close (substreams yields o) (run (substreams yields o) (begin_subs yields k) l) ended).list) came.1
      ∙ ap (λ (b : Bool). (close (substreams yields o) (run (substreams yields o) (begin_subs yields k) i.list) (input_end b)).list) (sym came.0) in
      let count = counted m (led_ready yields o (begin_subs yields k) f) in
      let few : length (of_sub yields m (led_ready yields o (begin_subs yields k) f)) ≤ count_of m moves = omega (arith, count, all) in
      inr (came.0, subst (λ (l : List Tagged). length (of_sub yields m l) ≤ count_of m moves) ready few)

  sub_cause : (next : Next) (moves : List ℕ) (f : Inflow) (i : Outlook) → Agrees i f.list f.end → MisfitBy yields o (begin_subs yields k) next moves f → SubsCause yields k o next moves (i ∷ [])
  sub_cause (Move m) moves f i a h = sub_cause_of m moves f i a h
  sub_cause Free moves f i a h = absurd h
  sub_cause UsedUp moves f i a h = absurd h

-- ---- its law, by the chain that its kind names

pub some_followed : (o : Option (List ℕ)) (l : List ℕ) → o ≡ Some l → o ≢ None
some_followed o l e = λ n. let z : Some l ≡ None = sym e ∙ n in cc

merge_log : (j : Joining) → Some [] ≡ new_log j → j ≡ joining.Merge
merge_log joining.Merge e = refl
merge_log joining.Concat e = cc

one_come : (os : List Outlook) (f : Inflow) → AllAgree os (f ∷ []) → (o : Outlook) × ((os ≡ o ∷ []) × Agrees o f.list f.end)
one_come [] f a = absurd a
one_come (o ∷ []) f a = (o, (refl, a.0))
one_come (o ∷ p ∷ os) f a = absurd a.1

module _ (chains : List graph.Chain) (k : ℕ) (n : graph.Node) (first : Led Line) (made_so : FirstSub chains k n first) (follows : first.left ≢ None) where
  pub sub_of : SubFirst k n.kind first.logic.chain first.logic
  sub_of = sub_first k n.kind first.logic.chain first.logic made_so.begins.as_kind

  pub merges : sub_of.join ≡ joining.Merge
  merges = merge_log sub_of.join (sym (made_so.begins.fresh.log follows) ∙ ap (λ (x : Logic Line). x.moves) sub_of.is)

  module _ (now : Led Line) (v : View) (took gave : List (List Item)) (law : LedLaw line_rest line_is_open line_whole first now v took gave) where
    law_by : (f : ListFunction) (yields : List Tree → End → Given Tree) → Same (line_whole first.logic.chain) f → Means yields f → InPortsLaw (LedKeeps yields (opening_of first.logic.how) (begin_subs yields k) line_rest line_is_open f now) v took gave
    law_by f yields alike means =
        law.tells f alike yields means (begin_subs yields k)
        (subst (λ (x : Logic Line). Owes line_rest line_is_open f yields x (owing (untag (begin_subs yields k)))) (sym sub_of.is) (begun_owes line_rest line_is_open k sub_of.how (new_log sub_of.join) first.logic.chain f yields))

    -- by whatever its chain comes to
    pub own_law : InPortsLaw (LedKeeps (through no_plugs first.logic.chain.starts) (opening_of first.logic.how) (begin_subs (through no_plugs first.logic.chain.starts) k) line_rest line_is_open (line_whole first.logic.chain) now) v took gave
    own_law = law_by (line_whole first.logic.chain) (through no_plugs first.logic.chain.starts) (record { gives = λ l. refl; stop = λ l. refl; adds = λ l. refl }) (chain_means no_plugs first.logic.chain.starts)

    -- by the chain of these steps
    pub law_in : (book : Book)
        → InPortsLaw (LedKeeps (through book (chain_of k (steps_of (chain_name n.kind) chains))) (opening_of first.logic.how) (begin_subs (through book (chain_of k (steps_of (chain_name n.kind) chains))) k) line_rest line_is_open (list_function book (chain_of k (steps_of (chain_name n.kind) chains))) now) v took gave
    law_in book =
        law_by (list_function book (chain_of k (steps_of (chain_name n.kind) chains))) (through book (chain_of k (steps_of (chain_name n.kind) chains)))
        (subst (λ (xs : Chain). Same (line_whole first.logic.chain) (list_function book xs)) made_so.line.starts (made_so.line.same book))
        (chain_means book (chain_of k (steps_of (chain_name n.kind) chains)))

module _ (g : Graph) (w : World) (k : ℕ) (n : graph.Node) (first : Led Line) (made_so : FirstSub g.chains k n first) (follows : first.left ≢ None) where
  abbrev pub yields : List Tree → End → Given Tree
  yields = yields_of g w k n.kind

  abbrev pub o : Opening
  o = opening_of first.logic.how

  abbrev pub fn : ListFunction
  fn = list_function w.book (chain_of k (steps_of (chain_name n.kind) g.chains))

  f : SubFirst k n.kind first.logic.chain first.logic
  f = sub_of g.chains k n first made_so follows

  join_is : f.join ≡ joining.Merge
  unfolding f
  join_is = merges g.chains k n first made_so follows

  how_is : o ≡ opening_of f.how
  how_is = ap (λ (x : Logic Line). opening_of x.how) f.is

  -- the machine without the numbers of substreams
  abbrev m : Machine Subs Tree
  m = joined_machine yields o

  abbrev start : Run Subs Tree
  start = untag (begin_subs yields k)

  module _ (now : Led Line) (v : View) (took gave : List (List Item)) (law : LedLaw line_rest line_is_open line_whole first now v took gave) where
    pub its : InPortsLaw (LedKeeps yields o (begin_subs yields k) line_rest line_is_open fn now) v took gave
    its = law_in g.chains k n first made_so follows now v took gave law w.book

    abbrev out_list : List Tree
    out_list = its.law.out_list

    abbrev out_end : End
    out_end = its.law.out_end

    -- it took one list
    one_of : (fs : List Inflow) → LedKeeps yields o (begin_subs yields k) line_rest line_is_open fn now fs out_list out_end → (x : Inflow) × ((fs ≡ x ∷ []) × LedKeeps yields o (begin_subs yields k) line_rest line_is_open fn now (x ∷ []) out_list out_end)
    one_of [] h = absurd h
    one_of (x ∷ []) h = (x, (refl, h))
    one_of (x ∷ y ∷ fs) h = absurd h

    -- what came, and what was given: no more than is ready
    pub record Passed : Type 0 where
      pub came : Inflow
      pub are : its.law.ins ≡ came ∷ []
      pub keeps : LedKeeps yields o (begin_subs yields k) line_rest line_is_open fn now (came ∷ []) out_list out_end
      pub given : List Tagged
      pub list_is : untagged given ≡ out_list
      pub moves_is : now.logic.moves ≡ Some (ports_given given)
      pub few : length given ≤ length (led_ready yields o (begin_subs yields k) came)

    pub passed : Passed
    passed =
        let one = one_of its.law.ins its.law.keeps in
        by_stand one.0 one.1.0 one.1.1 now.stuck now.logic.phase one.1.1
      where
        packed : (x : Inflow) → its.law.ins ≡ x ∷ [] → LedKeeps yields o (begin_subs yields k) line_rest line_is_open fn now (x ∷ []) out_list out_end → (given : List Tagged) → GivenBy yields o (begin_subs yields k) now.logic.moves out_list given → BeginsEach (led_ready yields o (begin_subs yields k) x) given → Passed
        packed x are keeps given by begins = record {
          came = x;
          are = are;
          keeps = keeps;
          given = given;
          list_is = by.list_is;
          moves_is = by.moves_is;
          few = begins_fewer given (led_ready yields o (begin_subs yields k) x) begins;
        }

        by_stand : (x : Inflow) → its.law.ins ≡ x ∷ [] → LedKeeps yields o (begin_subs yields k) line_rest line_is_open fn now (x ∷ []) out_list out_end → (b : Bool) (p : Phase)
            → keeps_by yields o (begin_subs yields k) line_rest line_is_open fn b p now x out_list out_end → Passed
        by_stand x are keeps true p s = packed x are keeps s.given s.by s.begins
        by_stand x are keeps false New s = packed x are keeps s.given s.by (shares_begin (led_ready yields o (begin_subs yields k) x) s.given now.logic.pending s.shares)
        by_stand x are keeps false Open s = packed x are keeps s.given s.by (shares_begin (led_ready yields o (begin_subs yields k) x) s.given now.logic.pending s.shares)
        by_stand x are keeps false Closed s = packed x are keeps s.given s.by s.begins

    -- as many elements as outputs
    count : length out_list ≡ length passed.given
    count = ap length (sym passed.list_is) ∙ length-map passed.given (λ x. x.item)

    abbrev pub moves_of : List ℕ
    moves_of = ports_given passed.given

    pub moves_are : now.logic.moves ≡ Some moves_of
    moves_are = passed.moves_is

    moves_count : length moves_of ≡ length out_list
    moves_count = length-map passed.given (λ x. x.port) ∙ sym count

    came_at : slice_get its.law.ins 0 ≡ Some passed.came
    came_at = ap (λ (fs : List Inflow). slice_get fs 0) passed.are

    took_of : (t : List Item) → took ≡ t ∷ [] → t ≡ told passed.came.list passed.came.end
    took_of t e = ap (λ (ts : List (List Item)). slice_index_or ts 0 []) (sym e) ∙ its.law.took_is 0 passed.came came_at

    took_known : TookAs (in_at v 0) passed.came.end
    took_known = its.law.took_as 0 passed.came came_at

    gave_of : (h : List Item) → gave ≡ h ∷ [] → h ≡ told out_list out_end
    gave_of h e = one_same h its.given (sym e ∙ its.gave_is) ∙ its.law.gave_is

    come_of : (os : List Outlook) → AllMayPass os took → (i : Outlook) × ((os ≡ i ∷ []) × Agrees i passed.came.list passed.came.end)
    come_of os a = one_come os passed.came (subst (λ (fs : List Inflow). AllAgree os fs) passed.are (flows_agree _ v took gave os its a))

    -- what the model lets a merge of substreams give by its moves
    stands : MergedStands yields k o moves_of passed.came.list passed.came.end out_list out_end
    stands = led_stands yields k o line_rest line_is_open fn now moves_of passed.came out_list out_end moves_are passed.keeps

    -- ---- in a run

    module _ (told_moves : w.moves k ≡ moves_of) where
      agrees : (i : Outlook) → Agrees i passed.came.list passed.came.end
          → Agrees (outlook_by f.join yields k (opening_of f.how) (w.moves k) i) out_list out_end × (fits_by f.join yields k (opening_of f.how) (w.moves k) i ≡ true)
      agrees i a =
          subst (λ (j : Joining). Agrees (outlook_by j yields k (opening_of f.how) (w.moves k) i) out_list out_end × (fits_by j yields k (opening_of f.how) (w.moves k) i ≡ true)) (sym join_is)
          (subst (λ (q : Opening). Agrees (merge_subs yields k q (w.moves k) i) out_list out_end × (subs_fit yields k q (w.moves k) i ≡ true)) how_is
          (subst (λ (ms : List ℕ). Agrees (merge_subs yields k o ms i) out_list out_end × (subs_fit yields k o ms i ≡ true)) (sym told_moves)
          (merged_trace yields k o moves_of i passed.came.list passed.came.end out_list out_end a stands, sub_moves_fit yields k o moves_of i passed.came.list passed.came.end out_list out_end a stands)))

      led_gives : (os : List Outlook) → AllMayPass os took → (p : ℕ) (h : List Item) → slice_get gave p ≡ Some h → AgreesWith (node_outlook g w k n.kind n.decider os p) h
      led_gives os a p h at =
          let c = come_of os a in
          let given = one_given its.given h p (subst (λ (hs : List (List Item)). slice_get hs p ≡ Some h) its.gave_is at) in
          record { list = out_list; end = out_end; is = given.1 ∙ its.law.gave_is; agrees = rw (f.kind.outlook g w k n.decider os p, c.1.0) ((agrees c.0 c.1.1).0) }

      led_fits : (os : List Outlook) → AllMayPass os took → moves_fit g w k n.kind os ≡ true
      led_fits os a = let c = come_of os a in rw (f.kind.fits g w k os, c.1.0) ((agrees c.0 c.1.1).1)

      pub led_laws : RunLaws g w k n took gave
      led_laws = record { gives = led_gives; fits = led_fits }

    -- ---- why it stopped

    pub led_stops : now.stuck ≡ true → (os : List Outlook) → AllMayPass os took → SubsCause yields k o (next_move now.left) moves_of os
    led_stops stuck os a =
        let c = come_of os a in
        subst (λ (xs : List Outlook). SubsCause yields k o (next_move now.left) moves_of xs) (sym c.1.0)
        (sub_cause yields o k (next_move now.left) moves_of passed.came c.0 c.1.1 (led_cause yields o (begin_subs yields k) line_rest line_is_open fn now moves_of passed.came out_list out_end moves_are stuck passed.keeps))

    -- ---- as it waits

    pulled_by : (over asked : Bool) (p : List Tagged) → led_input over asked p ≡ Pulled → (over ≡ false) × ((asked ≡ true) × (p ≡ []))
    pulled_by true asked p e = cc
    pulled_by false true [] e = (refl, (refl, refl))
    pulled_by false true (x ∷ p) e = cc
    pulled_by false false p e = cc

    waits_in : (x : InView) (y : OutView) → x ≡ Pulled → now.logic.phase ≢ New → led_in now.stuck now x y → (now.stuck ≡ false) × ((now.logic.phase ≡ Open) × LedRests now x y)
    waits_in x y pulled started h = by_stuck now.stuck refl h
      where
        by_phase : (p : Phase) → now.stuck ≡ false → now.logic.phase ≡ p → led_at now p x y → (now.stuck ≡ false) × ((now.logic.phase ≡ Open) × LedRests now x y)
        by_phase New calm e r = absurd (started e)
        by_phase Open calm e r = (calm, (e, r))
        by_phase Closed calm e r = absurd (subst InClosed pulled (closed_both x y r).0)

        by_stuck : (b : Bool) → now.stuck ≡ b → led_in b now x y → (now.stuck ≡ false) × ((now.logic.phase ≡ Open) × LedRests now x y)
        by_stuck true e r = absurd (r.unpulled pulled)
        by_stuck false e r = by_phase now.logic.phase e refl r

    serves_now : now.stuck ≡ false → now.logic.phase ≡ Open → LedServes yields o (begin_subs yields k) line_rest line_is_open fn now passed.came out_list out_end
    serves_now calm is_open =
        subst (λ (p : Phase). keeps_by yields o (begin_subs yields k) line_rest line_is_open fn false p now passed.came out_list out_end) is_open
        (subst (λ (b : Bool). keeps_by yields o (begin_subs yields k) line_rest line_is_open fn b now.logic.phase now passed.came out_list out_end) calm passed.keeps)

    -- one that is open, asked, and holds nothing while its input goes on gave as many elements as its machine gives
    waited_now : now.stuck ≡ false → now.logic.phase ≡ Open → now.logic.over ≡ false → now.logic.pending ≡ [] → (t h : List Item) → took ≡ t ∷ [] → gave ≡ h ∷ [] → Waited m start t h
    waited_now calm is_open going_on none t h ti gi =
        let s = serves_now calm is_open in
        let st = subst (λ (b : Bool). StandsAt yields o (begin_subs yields k) line_rest line_is_open fn b now.logic passed.came) going_on s.stands in
        let ready : led_ready yields o (begin_subs yields k) passed.came ≡ (run (substreams yields o) (begin_subs yields k) passed.came.list).gave =
        ap (λ (e : End). (close (substreams yields o) (run (substreams yields o) (begin_subs yields k) passed.came.list) e).list) st.0
        ∙ ap (λ (x : State Subs). (close_at (substreams yields o) (run (substreams yields o) (begin_subs yields k) passed.came.list).gave x unended).list) st.1.1.0 in
        let many : length (untagged (run (substreams yields o) (begin_subs yields k) passed.came.list).gave) ≡ length (run (substreams yields o) (begin_subs yields k) passed.came.list).gave =
        length-map (run (substreams yields o) (begin_subs yields k) passed.came.list).gave (λ x. x.item) in
        let all : length (led_ready yields o (begin_subs yields k) passed.came) ≡ length (run (substreams yields o) (begin_subs yields k) passed.came.list).gave = ap length ready in
        let out : length out_list ≡ length s.given = ap length (sym s.by.list_is) ∙ length-map s.given (λ x. x.item) in
        let held : length now.logic.pending ≡ 0 = ap length none in
        let shares = s.count in
        record {
          in_list = passed.came.list;
          in_end = passed.came.end;
          out_list = out_list;
          out_end = out_end;
          all = untagged (run (substreams yields o) (begin_subs yields k) passed.came.list).gave;
          state = st.1.0;
          took_is = took_of t ti;
          gave_is = gave_of h gi;
          count = omega (arith, many, all, out, held, shares);
          runs = run_untag yields o (begin_subs yields k) passed.came.list ∙ ap (λ (x : State Subs). record { gave = untagged (run (substreams yields o) (begin_subs yields k) passed.came.list).gave; state = x }) st.1.1.0;
        }

    waits_at : LedPortState line_rest line_is_open now v → in_at v 0 ≡ Pulled → (out_at v 0 ≡ Available) × ((t h : List Item) → took ≡ t ∷ [] → gave ≡ h ∷ [] → Waited m start t h)
    waits_at r waits =
        let p = one_views (led_in now.stuck now) v (led_state now v law.follows r.ports) in
        let q = waits_in p.x p.y (sym p.inp ∙ waits) r.started p.holds in
        let z = pulled_by now.logic.over now.logic.asked now.logic.pending (sym q.1.1.input ∙ sym p.inp ∙ waits) in
        (p.out ∙ q.1.1.output ∙ ap wish z.1.0, λ t h ti gi. waited_now q.0 q.1.0 z.0 z.1.1 t h ti gi)

    -- ---- by all the moves that it follows

    module _ (plan : List ℕ) (all_of : sub_plan now ≡ Some plan) (has : w.moves k ≡ plan) (os : List Outlook) (a : AllMayPass os took) (fit : moves_fit g w k n.kind os ≡ true) (calm : (node_outlook g w k n.kind n.decider os 0).fails ≡ []) where
      come : (i : Outlook) × ((os ≡ i ∷ []) × Agrees i passed.came.list passed.came.end)
      come = come_of os a

      rest : (l : List ℕ) × (moves_of ++ l ≡ plan)
      rest = made_first moves_of now.left plan (ap (λ (ms : Option (List ℕ)). plan_of (unwrap_or ms []) now.left) (sym moves_are) ∙ all_of)

      same_outlook : node_outlook g w k n.kind n.decider os 0 ≡ merge_subs yields k o (moves_of ++ rest.0) come.0
      same_outlook =
          f.kind.outlook g w k n.decider os 0
          ∙ ap (λ (xs : List Outlook). outlook_by f.join yields k (opening_of f.how) (w.moves k) (head_of xs)) come.1.0
          ∙ ap (λ (j : Joining). outlook_by j yields k (opening_of f.how) (w.moves k) come.0) join_is
          ∙ ap (λ (q : Opening). merge_subs yields k q (w.moves k) come.0) (sym how_is)
          ∙ ap (λ (ms : List ℕ). merge_subs yields k o ms come.0) (has ∙ sym rest.1)

      same_fit : moves_fit g w k n.kind os ≡ subs_fit yields k o (moves_of ++ rest.0) come.0
      same_fit =
          f.kind.fits g w k os
          ∙ ap (λ (xs : List Outlook). fits_by f.join yields k (opening_of f.how) (w.moves k) (head_of xs)) come.1.0
          ∙ ap (λ (j : Joining). fits_by j yields k (opening_of f.how) (w.moves k) come.0) join_is
          ∙ ap (λ (q : Opening). subs_fit yields k q (w.moves k) come.0) (sym how_is)
          ∙ ap (λ (ms : List ℕ). subs_fit yields k o ms come.0) (has ∙ sym rest.1)

      pub led_serves : (p : ℕ) (h : List Item) → slice_get gave p ≡ Some h → AgreesWith (node_outlook g w k n.kind n.decider os p) h
      led_serves p h at =
          let given = one_given its.given h p (subst (λ (hs : List (List Item)). slice_get hs p ≡ Some h) its.gave_is at) in
          let serves = subs_serve yields k o moves_of rest.0 come.0 passed.came.list passed.came.end out_list out_end (sym same_fit ∙ fit) (ap (λ (x : Outlook). x.fails) (sym same_outlook) ∙ calm) come.1.1 stands in
          let here : Agrees (node_outlook g w k n.kind n.decider os 0) out_list out_end = subst (λ (x : Outlook). Agrees x out_list out_end) (sym same_outlook) serves in
          record { list = out_list; end = out_end; is = given.1 ∙ its.law.gave_is; agrees = subst (λ (q : ℕ). Agrees (node_outlook g w k n.kind n.decider os q) out_list out_end) (sym given.0) here }

  -- the cause of a misfit, in the words of its kind
  pub cause_role : (rest : Option (List ℕ)) (comes : List Outlook) → SubsCause yields k o (next_move rest) (w.moves k) comes → RoleMisfits g w rest k (role_of n.kind) comes
  cause_role rest comes h =
      f.kind.misfits g w rest k comes
      (subst (λ (j : Joining). subs_misfit g w rest k j (opening_of f.how) (chain_name n.kind) comes) (sym join_is)
      (subst (λ (q : Opening). SubsCause yields k q (next_move rest) (w.moves k) comes) how_is h))

  -- ---- in a picture

  module _ {S D : Type 0} (L H B : Type 0) (sources : S → SourceState) (drains : D → DrainState) (plans : Plans) where
    record LedNow (v : View) (took gave : List (List Item)) : Type 0 where
      now : Led Line
      port_state_holds : LedPortState line_rest line_is_open now v
      law_holds : LedLaw line_rest line_is_open line_whole first now v took gave

    led_now : (x : IslandNode S D L H B) (v : View) (took gave : List (List Item)) → node_port_state x v → node_law sources drains w.book (Sub first) x v took gave → LedNow v took gave
    led_now (Sub x) v took gave r law = record { now = x; port_state_holds = r; law_holds = law.led follows }
    led_now x v took gave r law = absurd law

    module _ (now : Led Line) (i : InPort) (op : OutPort) (r : LedPortState line_rest line_is_open now (views_of (i ∷ []) (op ∷ []))) (law : LedLaw line_rest line_is_open line_whole first now (views_of (i ∷ []) (op ∷ [])) (i.got ∷ []) (op.sent ∷ [])) (told_moves : w.moves k ≡ moves_of now (views_of (i ∷ []) (op ∷ [])) (i.got ∷ []) (op.sent ∷ []) law) (follows_so : plans k ≡ sub_plan now) where
      abbrev gone : Passed now (views_of (i ∷ []) (op ∷ [])) (i.got ∷ []) (op.sent ∷ []) law
      gone = passed now (views_of (i ∷ []) (op ∷ [])) (i.got ∷ []) (op.sent ∷ []) law

      abbrev gave_list : List Tree
      gave_list = (its now (views_of (i ∷ []) (op ∷ [])) (i.got ∷ []) (op.sent ∷ []) law).law.out_list

      got_is : i.got ≡ told gone.came.list gone.came.end
      got_is = took_of now (views_of (i ∷ []) (op ∷ [])) (i.got ∷ []) (op.sent ∷ []) law i.got refl

      sent_is : OutStands op → op.wire.sent ≡ length gave_list
      sent_is so =
          so.count ∙ ap elements (gave_of now (views_of (i ∷ []) (op ∷ [])) (i.got ∷ []) (op.sent ∷ []) law op.sent refl)
          ∙ elements_told gave_list (its now (views_of (i ∷ []) (op ∷ [])) (i.got ∷ []) (op.sent ∷ []) law).law.out_end

      abbrev all_ready : List Tree
      all_ready = untagged (led_ready yields o (begin_subs yields k) gone.came)

      all_stand : Stands m start gone.came.list gone.came.end all_ready unended
      all_stand = subst (λ (y : Given Tree). IsPrefix all_ready y.list) (sym (closed_untag yields o (begin_subs yields k) gone.came.list gone.came.end)) (prefix_refl all_ready)

      at_most : (a b c : ℕ) → a ≤ b → b ≤ c → a ≤ c
      at_most a b c p q = omega (arith, p, q)

      given_row : InStands i → OutStands op → op.wire.sent ≤ (if i.wire.shut then length (close m (run m start (take i.wire.sent i.wire.list)) ended).list else length (run m start (take i.wire.sent i.wire.list)).gave)
      given_row si so =
          let sent = sent_is so in
          let out = count now (views_of (i ∷ []) (op ∷ [])) (i.got ∷ []) (op.sent ∷ []) law in
          let few = gone.few in
          let all = length-map (led_ready yields o (begin_subs yields k) gone.came) (λ x. x.item) in
          at_most op.wire.sent (length all_ready) _ (omega (arith, sent, out, few, all))
          (most_given m start i si gone.came.list gone.came.end all_ready unended got_is (took_known now (views_of (i ∷ []) (op ∷ [])) (i.got ∷ []) (op.sent ∷ []) law) all_stand)

      asked_row : InStands i → OutStands op → Moments {N = IslandNode S D L H B} node_port_state (node_law sources drains w.book) node_asking node_moves (Sub first) (Sub now) (i ∷ []) (op ∷ []) 0 → 1 ≤ demand i.wire
          → (is_going (run m start (take (demand i.wire - 1) i.wire.list)).state ≡ true) × (length (run m start (take (demand i.wire - 1) i.wire.list)).gave < wanted op.wire)
      asked_row si so last some =
          let e = last.0 in
          let l = led_now e.old e.knew e.had e.given e.port_state_held e.law_held in
          let s = waits_at l.now e.knew e.had e.given l.law_holds l.port_state_holds e.waited in
          let b = began e.had i.got i.want e.took_on e.one_more in
          let q = given_one e.given op.sent op.want e.gave_on (e.wants 0 s.0) in
          stage_asked m start i op si so gone.came.list gone.came.end got_is b.part q.0 (s.1 b.part q.0 b.is q.1.0) b.begins b.one_more q.1.1.1 some

      lawful_row : StageLawful (of_machine m start true) i.wire op.wire → StageLawful (of_machine (substreams yields (opening_of f.how)) (begin_subs yields k) true) i.wire op.wire
      lawful_row h =
          subst (λ (q : Opening). StageLawful (of_machine (substreams yields q) (begin_subs yields k) true) i.wire op.wire) how_is
          (alike_lawful _ _ (joined_alike yields o (begin_subs yields k)) i.wire op.wire h)

      rests_row : StageRests (of_machine m start true) i.wire op.wire → StageRests (of_machine (substreams yields (opening_of f.how)) (begin_subs yields k) true) i.wire op.wire
      rests_row h =
          subst (λ (q : Opening). StageRests (of_machine (substreams yields q) (begin_subs yields k) true) i.wire op.wire) how_is
          (alike_rests _ _ (joined_alike yields o (begin_subs yields k)) i.wire op.wire h)

      -- it gave an element for each move
      moves_row : OutStands op → SubsLawful f.join (w.moves k) i.wire op.wire
      moves_row so =
          subst (λ (j : Joining). SubsLawful j (w.moves k) i.wire op.wire) (sym join_is)
          (sent_is so ∙ sym (moves_count now (views_of (i ∷ []) (op ∷ [])) (i.got ∷ []) (op.sent ∷ []) law) ∙ ap length (sym told_moves))

      -- ---- where no event is left

      abbrev Own : Type 0
      Own = RowRests g w k n.kind n.decider (i.wire ∷ []) (op.wire ∷ [])

      abbrev Stays : List Outlook → Type 0
      Stays comes = (EachWire IsShut (i.wire ∷ []) × EachWire IsShut (op.wire ∷ [])) ⊎ RowRestsBy g w plans k n.kind n.decider comes (i.wire ∷ []) (op.wire ∷ [])

      left_now : left g w plans k ≡ now.left
      left_now =
          left_is (plans k) now.left (moves_of now (views_of (i ∷ []) (op ∷ [])) (i.got ∷ []) (op.sent ∷ []) law) (w.moves k)
          (follows_so ∙ ap (λ (ms : Option (List ℕ)). plan_of (unwrap_or ms []) now.left) (moves_are now (views_of (i ∷ []) (op ∷ [])) (i.got ∷ []) (op.sent ∷ []) law)) told_moves

      by_row : (comes : List Outlook) (p : Option (List ℕ)) → now.left ≡ p → subs_rest g w comes (next_move p) joining.Merge Own (op.wire ∷ []) → Stays comes
      by_row comes p e h =
          inr (inl (f.kind.rests_by g w comes (next_move (left g w plans k)) k n.decider (i.wire ∷ []) (op.wire ∷ [])
          (subst (λ (j : Joining). subs_rest g w comes (next_move (left g w plans k)) j Own (op.wire ∷ [])) (sym join_is)
          (subst (λ (x : Option (List ℕ)). subs_rest g w comes (next_move x) joining.Merge Own (op.wire ∷ [])) (sym (left_now ∙ e)) h))))

      by_misfit : (comes : List Outlook) → SubsCause yields k o (next_move now.left) (moves_of now (views_of (i ∷ []) (op ∷ [])) (i.got ∷ []) (op.sent ∷ []) law) comes → Stays comes
      by_misfit comes h =
          inr (inr (cause_role (left g w plans k) comes
          (subst (λ (x : Option (List ℕ)). SubsCause yields k o (next_move x) (w.moves k) comes) (sym left_now)
          (subst (λ (ms : List ℕ). SubsCause yields k o (next_move now.left) ms comes) (sym told_moves) h))))

      module _ (si : InStands i) (so : OutStands op) (ri : InRests i) (ro : OutRests op) where
        -- one that is asked holds nothing where it may not end, and then waits for its input, which goes on
        waits_row : (mv : ℕ) (l : List ℕ) → now.left ≡ Some (mv ∷ l) → now.stuck ≡ false → now.logic.phase ≡ Open → LedRests now i.view op.view → now.logic.asked ≡ true → StageRests (of_machine m start true) i.wire op.wire
        waits_row mv l e calm is_open rests asked = by_pending now.logic.pending refl
          where
            next_is : may_end (next_move now.left) ≡ false
            next_is = ap (λ (x : Option (List ℕ)). may_end (next_move x)) e

            by_over : (b : Bool) → now.logic.over ≡ b → now.logic.pending ≡ [] → StageRests (of_machine m start true) i.wire op.wire
            by_over true over none = let q = rests.over over none in absurd (not_both q.1 asked)
            by_over false over none =
                let xi : i.view ≡ Pulled = rests.input ∙ ap (λ (b : Bool). led_input b now.logic.asked now.logic.pending) over ∙ ap (λ (b : Bool). led_input false b now.logic.pending) asked ∙ ap (λ (q : List Tagged). led_input false true q) none in
                let yo : op.view ≡ Available = rests.output ∙ ap wish asked in
                inl (waited_rests m start i op si so ri ro (waited_now now (views_of (i ∷ []) (op ∷ [])) (i.got ∷ []) (op.sent ∷ []) law calm is_open over none i.got op.sent refl refl) xi yo)

            by_pending : (q : List Tagged) → now.logic.pending ≡ q → StageRests (of_machine m start true) i.wire op.wire
            by_pending [] none = by_over now.logic.over refl none
            by_pending (x ∷ q) some = absurd (not_both next_is (rests.holds asked (λ none. let z : x ∷ q ≡ [] = sym some ∙ none in cc)))

        open_row : (comes : List Outlook) → now.stuck ≡ false → now.logic.phase ≡ Open → LedRests now i.view op.view → Stays comes
        open_row comes calm is_open rests = by_left now.left refl
          where
            by_asked : (mv : ℕ) (l : List ℕ) → now.left ≡ Some (mv ∷ l) → (b : Bool) → now.logic.asked ≡ b → Stays comes
            by_asked mv l e true asked = by_row comes (Some (mv ∷ l)) e (inl (f.kind.rests g w k n.decider (i.wire ∷ []) (op.wire ∷ []) (rests_row (waits_row mv l e calm is_open rests asked))))
            by_asked mv l e false asked = by_row comes (Some (mv ∷ l)) e (inr (ro.unasked (rests.output ∙ ap wish asked), tt))

            by_left : (p : Option (List ℕ)) → now.left ≡ p → Stays comes
            by_left None e = absurd (law.follows e)
            by_left (Some []) e = by_row comes (Some []) e tt
            by_left (Some (mv ∷ l)) e = by_asked mv l e now.logic.asked refl

        stays : (comes : List Outlook) → AllMayPass comes (i.got ∷ []) → Stays comes
        stays comes may = by_stuck now.stuck refl (led_state now (views_of (i ∷ []) (op ∷ [])) law.follows r.ports)
          where
            by_phase : (p : Phase) → now.stuck ≡ false → now.logic.phase ≡ p → led_at now p i.view op.view → Stays comes
            by_phase New calm e h = absurd (r.started e)
            by_phase Open calm e h = open_row comes calm e h
            by_phase Closed calm e h = let c = closed_both i.view op.view h in inl ((ri.shut c.0, tt), (ro.shut c.1, tt))

            by_stuck : (b : Bool) → now.stuck ≡ b → led_in b now i.view op.view → Stays comes
            by_stuck true e h = by_misfit comes (led_stops now (views_of (i ∷ []) (op ∷ [])) (i.got ∷ []) (op.sent ∷ []) law e comes may)
            by_stuck false e h = by_phase now.logic.phase e refl h

      led_picture : PictureLawsBy {N = IslandNode S D L H B} node_port_state (node_law sources drains w.book) node_asking node_moves sink_ended g w plans k n (Sub first) (Sub now) (i ∷ []) (op ∷ [])
      led_picture = record {
        lawful = λ si so last. f.kind.lawful_by g w plans k n.decider (i.wire ∷ []) (op.wire ∷ []) (f.kind.lawful g w k n.decider (i.wire ∷ []) (op.wire ∷ [])
            (lawful_row (given_row si.0 so.0, λ some. asked_row si.0 so.0 (last 0 (reached i si.0 some)) some)) (moves_row so.0));
        rests = λ comes may si so ri ro. stays si.0 so.0 ri.0 ro.0 comes may;
        matches = λ sink ri. absurd (not_both f.kind.no_sink sink);
      }

    abbrev SubTells : Led Line → List InPort → List OutPort → Type 0
    SubTells now is os = PictureLawsBy {N = IslandNode S D L H B} node_port_state (node_law sources drains w.book) node_asking node_moves sink_ended g w plans k n (Sub first) (Sub now) is os

    pub subs_picture : (now : Led Line) (is : List InPort) (os : List OutPort) → plans k ≡ sub_plan now → ((ms : List ℕ) → now.logic.moves ≡ Some ms → w.moves k ≡ ms) → LedPortState line_rest line_is_open now (views_of is os)
        → LedLaw line_rest line_is_open line_whole first now (views_of is os) (gots_of is) (sents_of os) → PictureLawsBy {N = IslandNode S D L H B} node_port_state (node_law sources drains w.book) node_asking node_moves sink_ended g w plans k n (Sub first) (Sub now) is os
    subs_picture now is os follows_so told_moves r law = by_ports is os r law (led_state now (views_of is os) law.follows r.ports)
      where
        by_ports : (is : List InPort) (os : List OutPort) → LedPortState line_rest line_is_open now (views_of is os) → LedLaw line_rest line_is_open line_whole first now (views_of is os) (gots_of is) (sents_of os) → OneOneOf (led_in now.stuck now) (views_of is os).ins (views_of is os).outs → SubTells now is os
        by_ports (i ∷ []) (op ∷ []) r law h = led_picture now i op r law (told_moves _ (moves_are now (views_of (i ∷ []) (op ∷ [])) (i.got ∷ []) (op.sent ∷ []) law)) follows_so
        by_ports [] os r law h = absurd h
        by_ports (i ∷ []) [] r law h = absurd h
        by_ports (i ∷ []) (op ∷ q ∷ os) r law h = absurd h
        by_ports (i ∷ j ∷ is) os r law h = absurd h

-- ---- by what a stage follows

pub subs_laws : (g : Graph) (w : World) (k : ℕ) (n : graph.Node) (first now : Led Line) (v : View) (took gave : List (List Item)) → FirstSub g.chains k n first → ((ms : List ℕ) → now.logic.moves ≡ Some ms → w.moves k ≡ ms) → SubsLaw line_rest line_is_open line_whole first now v took gave
    → RunLaws g w k n took gave
subs_laws g w k n first now v took gave made_so told_moves law = by first.left refl
  where
    by : (l : Option (List ℕ)) → first.left ≡ l → RunLaws g w k n took gave
    by None e = sub_laws g w k n first.logic now.logic v took gave made_so.begins.as_kind made_so.line told_moves (law.unled e).1.1
    by (Some l) e =
        let follows = some_followed first.left l e in
        led_laws g w k n first made_so follows now v took gave (law.led follows) (told_moves _ (moves_are g w k n first made_so follows now v took gave (law.led follows)))
