-- What a buffer that drops and a recover gave agrees with the outlook of their output by their moves, where what they took does.
use Rattle.std.specs.Prelude.{slice_get, slice_index_or}
use Rattle.std.proofs.Common.{◌≡◌, ◌≢◌, ℕ, suc, List, [], ◌∷◌, length, true, false, Some, refl, sym, ap, subst, ◌∙◌, arith}
use Rattle.elem_core.specs.Tree.{Tree, num, text}
use Rattle.elem_core.specs.declared.item.Item.{Item}
use Rattle.elem_core.specs.declared.why.Decider.{Decider}
use Rattle.port_core.specs.View.{View}
use Rattle.stream_model.specs.declared.kind.Kind.{Kind}
use Rattle.stream_model.specs.declared.kind.Kind.TheVariants.{Buffer, RecoverNum, RecoverText}
use Rattle.stream_model.specs.declared.kind.Policy.{Policy}
use Rattle.stream_model.specs.declared.kind.Policy.TheVariants.{Backpressure}
use Rattle.stream_model.specs.Fits.{moves_fit}
use Rattle.stream_model.specs.Graph.{Graph}
use Rattle.stream_model.specs.Graph as graph
use Rattle.stream_model.specs.Node.{World, head_of, node_outlook}
use Rattle.stream_model.specs.Outlook.{Outlook, End, Agrees}
use Rattle.stream_model.specs.FanIn.{Inflow, AllAgree}
use Rattle.stream_model.specs.Picks.{recover_fits, recover_outlook}
use Rattle.stream_model.specs.View as picture
use Rattle.stream_model.specs.OneWay.{as_it_is, is_sink}
use Rattle.stream_model.specs.Lawful.{RowLawful, StageLawful, RecoverLawful}
use Rattle.stream_model.specs.Rests.{RoleRests, RowRests, StageRests, OneToOne}
use Rattle.stream_model.specs.Linear as role
use Rattle.stream_model.specs.Linear.{role_of}
use Rattle.stage_core.specs.Held.{told}
use Rattle.stage_core.specs.PortsLaws.{InPortsLaw}
use Rattle.stage_dropping.specs.Droppings as dropping
use Rattle.stage_dropping.specs.Droppings.{DropsAs}
use Rattle.stage_dropping.proofs.DropNodes as drops
use Rattle.stage_dropping.specs.Recoverings as recover
use Rattle.stage_dropping.specs.Recoverings.{RecoversAs}
use Rattle.stage_dropping.proofs.RecoverNodes as recovers
use Rattle.stage_state.specs.declared.logic.StateLogic.TheVariants.{Dropping, Recovering}
use Rattle.run_laws.specs.Made.{LedAs}
use Rattle.run_laws.specs.Items.{AllMayPass, AgreesWith}
use Rattle.run_laws.specs.KindLaws.{RunLaws}
use Rattle.run_laws.specs.Replayed.{Plans, RoleLawfulBy}
use Rattle.run_laws.proofs.InRuns.{one_given}

-- what may pass is what the outlooks let pass
all_agree : (os : List Outlook) (hs : List (List Item)) (fs : List Inflow) → length fs ≡ length hs → ((i : ℕ) (f : Inflow) → slice_get fs i ≡ Some f → slice_index_or hs i [] ≡ told f.list f.end) → AllMayPass os hs → AllAgree os fs
all_agree [] [] [] n t a = tt
all_agree [] [] (f ∷ fs) n t a = absurd (omega (arith, n))
all_agree [] (h ∷ hs) fs n t a = absurd a
all_agree (o ∷ os) [] fs n t a = absurd a
all_agree (o ∷ os) (h ∷ hs) [] n t a = absurd (omega (arith, n))
all_agree (o ∷ os) (h ∷ hs) (f ∷ fs) n t a = (a.0 f.list f.end (t 0 f refl), all_agree os hs fs (omega (arith, n)) (λ i x e. t (suc i) x e) a.1)

-- the same of a law by ports
pub flows_agree : (K : List Inflow → List Tree → End → Type 0) (v : View) (took gave : List (List Item)) (os : List Outlook) → (law : InPortsLaw K v took gave) → AllMayPass os took → AllAgree os law.law.ins
flows_agree K v took gave os law a = let l = law.law in all_agree os took l.ins (l.ports ∙ sym law.ports) l.took_is a

-- ---- a buffer that drops

-- at its start
pub record DropsFirst (k : ℕ) (kd : Kind) (x : dropping.Dropping) : Type 0 where
  pub room : ℕ
  pub policy : Policy
  pub kind_is : kd ≡ Buffer room policy
  pub drops : policy ≢ Backpressure
  pub is : dropping.Begins k room policy x

pub drops_first : (k : ℕ) (kd : Kind) (d : Decider) (x : dropping.Dropping) → LedAs kd k d (Dropping x) → DropsFirst k kd x
drops_first k (Buffer n p) d x b = record { room = n; policy = p; kind_is = refl; drops = b.0; is = b.1 }
drops_first k _ d x b = absurd b

module _ (g : Graph) (w : World) (k : ℕ) (n : graph.Node) (first now : dropping.Dropping) (v : View) (took gave : List (List Item)) (begins : LedAs n.kind k n.decider (Dropping first)) (same : w.moves k ≡ now.log.moves) (law : DropsAs first now v took gave) where
  f : DropsFirst k n.kind first
  f = drops_first k n.kind n.decider first begins

  at_node : w.moves first.node ≡ now.log.moves
  at_node = ap (λ (x : dropping.Dropping). w.moves x.node) f.is.is ∙ same

  drops_so : first.policy ≢ Backpressure
  drops_so = subst (λ (x : dropping.Dropping). x.policy ≢ Backpressure) (sym f.is.is) f.drops

  drops_give : (os : List Outlook) → AllMayPass os took → (p : ℕ) (h : List Item) → slice_get gave p ≡ Some h → AgreesWith (node_outlook g w k n.kind n.decider os p) h
  drops_give os a p h at =
      let one = one_given law.by.given h p (subst (λ (hs : List (List Item)). slice_get hs p ≡ Some h) law.by.gave_is at) in
      let l = law.by.law in
      let agree = drops.agrees first now v took gave law g w drops_so at_node n.decider os (flows_agree _ v took gave os law.by a) in
      let begun : Agrees (node_outlook g w k (Buffer f.room f.policy) n.decider os 0) l.out_list l.out_end =
      subst (λ (x : dropping.Dropping). Agrees (node_outlook g w x.node (Buffer x.size x.policy) n.decider os 0) l.out_list l.out_end) f.is.is agree in
      record {
        list = l.out_list;
        end = l.out_end;
        is = one.1 ∙ l.gave_is;
        agrees = subst (λ q. Agrees (node_outlook g w k n.kind n.decider os q) l.out_list l.out_end) (sym one.0)
            (subst (λ (kd : Kind). Agrees (node_outlook g w k kd n.decider os 0) l.out_list l.out_end) (sym f.kind_is) begun);
      }

  drops_fit : (os : List Outlook) → AllMayPass os took → moves_fit g w k n.kind os ≡ true
  drops_fit os a =
      subst (λ (kd : Kind). moves_fit g w k kd os ≡ true) (sym f.kind_is)
      (subst (λ (x : dropping.Dropping). moves_fit g w x.node (Buffer x.size x.policy) os ≡ true) f.is.is (drops.fits first now v took gave law g w drops_so at_node os (flows_agree _ v took gave os law.by a)))

  pub dropping_laws : RunLaws g w k n took gave
  dropping_laws = record { gives = drops_give; fits = drops_fit }

-- ---- a recover

-- what a recover of this element gives, that its moves fit, and its rows in a picture
pub record IsRecover (kd : Kind) (x : recover.Recover) : Type 0 where
  pub element : Tree
  pub outlook : (g : Graph) (w : World) (k : ℕ) (d : Decider) (os : List Outlook) (p : ℕ) → node_outlook g w k kd d os p ≡ recover_outlook element (w.moves k) (head_of os)
  pub fits_by : (g : Graph) (w : World) (k : ℕ) (os : List Outlook) → moves_fit g w k kd os ≡ recover_fits (w.moves k) (head_of os)
  pub is : x ≡ record (recover.begun element) { left = x.left }
  pub no_sink : is_sink kd ≡ false
  pub lawful : (g : Graph) (w : World) (k : ℕ) (d : Decider) (is os : List picture.SeenWire) → OneToOne (StageLawful (as_it_is 1 true)) is os × OneToOne (RecoverLawful (w.moves k)) is os → RowLawful g w k kd d is os
  pub rests : (g : Graph) (w : World) (k : ℕ) (d : Decider) (is os : List picture.SeenWire) → OneToOne (StageRests (as_it_is 1 true)) is os → RowRests g w k kd d is os
  pub role_is : role_of kd ≡ role.a_flow (role.recovers element)
  pub own_rests : (g : Graph) (w : World) (k : ℕ) (d : Decider) (is os : List picture.SeenWire) → OneToOne (StageRests (as_it_is 1 true)) is os → RoleRests g w k (role.a_flow (role.recovers element)) d is os
  pub lawful_by : (g : Graph) (w : World) (plans : Plans) (k : ℕ) (d : Decider) (is os : List picture.SeenWire) → RowLawful g w k kd d is os → RoleLawfulBy g w plans k (role_of kd) d is os

pub recovers_first : (k : ℕ) (kd : Kind) (d : Decider) (x : recover.Recover) → LedAs kd k d (Recovering x) → IsRecover kd x
recovers_first k (RecoverNum z) d x b = record { element = num z; outlook = λ g w k d os p. refl; fits_by = λ g w k os. refl; is = b; no_sink = refl; lawful = λ g w k d is os r. r; rests = λ g w k d is os r. r; role_is = refl; own_rests = λ g w k d is os r. r; lawful_by = λ g w plans k d is os r. r }
recovers_first k (RecoverText l) d x b = record { element = text l; outlook = λ g w k d os p. refl; fits_by = λ g w k os. refl; is = b; no_sink = refl; lawful = λ g w k d is os r. r; rests = λ g w k d is os r. r; role_is = refl; own_rests = λ g w k d is os r. r; lawful_by = λ g w plans k d is os r. r }
recovers_first k _ d x b = absurd b

pub some_is : (t u : Tree) → Some t ≡ Some u → t ≡ u
some_is t u e = cc

module _ (g : Graph) (w : World) (k : ℕ) (n : graph.Node) (first now : recover.Recover) (v : View) (took gave : List (List Item)) (begins : LedAs n.kind k n.decider (Recovering first)) (same : w.moves k ≡ now.moves) (law : RecoversAs first now v took gave) where
  r : IsRecover n.kind first
  r = recovers_first k n.kind n.decider first begins

  own : law.element ≡ r.element
  own = some_is law.element r.element (sym law.is_own ∙ ap (λ (x : recover.Recover). x.own) r.is)

  recovers_give : (os : List Outlook) → AllMayPass os took → (p : ℕ) (h : List Item) → slice_get gave p ≡ Some h → AgreesWith (node_outlook g w k n.kind n.decider os p) h
  recovers_give os a p h at =
      let one = one_given law.by.given h p (subst (λ (hs : List (List Item)). slice_get hs p ≡ Some h) law.by.gave_is at) in
      let l = law.by.law in
      let agree : Agrees (recover_outlook law.element now.moves (head_of os)) l.out_list l.out_end = recovers.agrees first now v took gave law os (flows_agree _ v took gave os law.by a) in
      let its : Agrees (recover_outlook r.element (w.moves k) (head_of os)) l.out_list l.out_end =
      subst (λ (t : Tree). Agrees (recover_outlook t (w.moves k) (head_of os)) l.out_list l.out_end) own (subst (λ (ms : List ℕ). Agrees (recover_outlook law.element ms (head_of os)) l.out_list l.out_end) (sym same) agree) in
      record { list = l.out_list; end = l.out_end; is = one.1 ∙ l.gave_is; agrees = subst (λ (o : Outlook). Agrees o l.out_list l.out_end) (sym (r.outlook g w k n.decider os p)) its }

  recovers_fit : (os : List Outlook) → AllMayPass os took → moves_fit g w k n.kind os ≡ true
  recovers_fit os a = r.fits_by g w k os ∙ ap (λ (ms : List ℕ). recover_fits ms (head_of os)) same ∙ recovers.fits first now v took gave law os (flows_agree _ v took gave os law.by a)

  pub recover_laws : RunLaws g w k n took gave
  recover_laws = record { gives = recovers_give; fits = recovers_fit }
