-- What is known while plugs and custom stages are handed out.
use Rattle.std.proofs.Common.{◌≡◌, ℕ, zero, suc, ◌+◌, ◌<◌, Bool, true, false, List, [], ◌∷◌, ◌++◌, length, map, take, drop, get_or, Option, Some, None, refl, ap, sym, ◌∙◌, subst, append_assoc, append-nil}
use Rattle.std.specs.Prelude.{slice_get, ⊤}
use Rattle.std.specs.List.{All, list_any, remove}
use Rattle.std.specs.Option.{option_and_then, option_map}
use Rattle.std.proofs.lemmas.List.{drop_more}
use Rattle.std.proofs.lemmas.List.Elements.{All-append, All-take, All-drop}
use Rattle.std.proofs.lemmas.Option.{slice_get_within, get_or_from_slice_get}
use Rattle.elem_core.specs.Values.{same_text}
use Rattle.elem_core.specs.Sort.{Sort}
use Rattle.stream_model.specs.Known.{CustomShape, HeadLists, head_shape}
use Rattle.stream_model.specs.Linear.{Book}
use Rattle.stream_model.specs.declared.blueprint.Node.{Node}
use Rattle.stream_model.specs.declared.blueprint.WireDecl.{WireDecl}
use Rattle.stream_model.specs.declared.head.PlugHead.{PlugHead}
use Rattle.stream_model.specs.declared.kind.Kind.{Kind}
use Rattle.blue_names.specs.CustomPorts.{custom_of, custom_named, custom_head, head_fits, named}
use Rattle.blue_names.specs.Names.{Claim, hires, same_claim, first_again, plug_of}
use Rattle.graph_stage.specs.declared.custom.Custom.{Custom}
use Rattle.graph_stage.specs.Told.{ToldList}
use Rattle.plug_logic.specs.declared.plug.Plug.{Plug}
use Rattle.plug_logic.specs.Gives.{Gives}
use Rattle.materializer.specs.HandedPlugs.{GivesAsListed}
use Rattle.materializer.specs.HandedCustoms.{custom_names, handed_heads, TellsAsListed, IsHandedCustom, IsHandedGuest, HasGuests, IsGuest, AreGuests, HasPorts, HaveUsedPorts, guest_types, head_types, types_by_heads}
use Rattle.materializer.specs.Ports.{used_ports}
use Rattle.materializer.specs.Handing.{names_of, IsHandedPlug}
use Rattle.materializer.specs.declared.guest.Guest.{Guest}
use Rattle.materializer.specs.declared.guest.Guest.TheVariants as guest
use Rattle.materializer.proofs.Guests.{names_plug}
use Rattle.materializer.proofs.Switches.{map_next, map_end}
use Rattle.materializer.proofs.Naming.{Known, IsOnce, AreOnce, Holds, behind, first_of, once_head, none_some, none_both, known_all, once_all, no_custom_at, still_known}
use Rattle.materializer.proofs.Places.{same_name}

same_some : {A : Type 0} (x y : A) → Some y ≡ Some x → x ≡ y
same_some x y e = cc

-- an element of a list has what all have
pub at_all : {X : Type 0} (P : X → Type 0) (xs : List X) (i : ℕ) (x : X) → slice_get xs i ≡ Some x → All P xs → P x
at_all P xs i x at all = subst P (get_or_from_slice_get xs i x x at) (all i x (slice_get_within xs i x at))

-- what is left behind a removal was there
still_there : {X : Type 0} (old : List X) (at j : ℕ) (x : X) → slice_get (remove old at) j ≡ Some x → (i : ℕ) × (slice_get old i ≡ Some x)
still_there [] zero j x there = absurd cc
still_there [] (suc at) j x there = absurd cc
still_there (y ∷ ys) zero j x there = (suc j, there)
still_there (y ∷ ys) (suc at) zero x there = (0, there)
still_there (y ∷ ys) (suc at) (suc j) x there = let was = still_there ys at j x there in (suc was.0, was.1)

-- the node at this place is the first of those that are left
pub here : (nodes : List Node) (i : ℕ) (n : Node) → i < length nodes → n ≡ get_or nodes i n → drop i nodes ≡ n ∷ drop (i + 1) nodes
here nodes i n less is = drop_more nodes i n less ∙ ap (λ m. m ∷ drop (i + 1) nodes) (sym is)

names_same : {L : Type 0} (plugs : List (Plug L)) → map (λ (h : PlugHead). h.name) (map (λ p. p.head) plugs) ≡ names_of plugs
names_same [] = refl
names_same (p ∷ ps) = ap (λ l. p.head.name ∷ l) (names_same ps)

custom_names_same : {H : Type 0} (customs : List (Custom H)) → map (λ (s : CustomShape). s.name) (map (λ c. head_shape c.head) customs) ≡ custom_names customs
custom_names_same [] = refl
custom_names_same (c ∷ cs) = ap (λ l. c.head.name ∷ l) (custom_names_same cs)

-- ---- heads that fit

-- no two of these custom stages behind so many claims have one name
abbrev HaveOwnNames : {H : Type 0} → List Claim → List (Custom H) → Type 0
HaveOwnNames before customs = first_again before (map (λ (s : CustomShape). hires s.name) (map (λ c. head_shape c.head) customs)) ≡ None

others_differ : {H : Type 0} (name : List ℕ) (before : List Claim) (customs : List (Custom H)) → Holds hires name before → HaveOwnNames before customs → (at : ℕ) (c : Custom H) → slice_get customs at ≡ Some c → same_text c.head.name name ≡ false
others_differ name before [] holds own at c there = absurd cc
others_differ name before (x ∷ xs) holds own zero c there =
    let head = once_head (hires x.head.name) before _ (list_any (same_claim (hires x.head.name)) before) refl own in
    let same : x ≡ c = cc in
    subst (λ (d : Custom _). same_text d.head.name name ≡ false) same (holds x.head.name head.0)
others_differ name before (x ∷ xs) holds own (suc at) c there =
    let head = once_head (hires x.head.name) before _ (list_any (same_claim (hires x.head.name)) before) refl own in
    others_differ name (hires x.head.name ∷ before) xs (λ q. behind (same_text q x.head.name) _ _ (holds q)) head.1 at c there

-- the head of its name is its own
own_head : {H : Type 0} (before : List Claim) (customs : List (Custom H)) → HaveOwnNames before customs → (at : ℕ) (c : Custom H) → slice_get customs at ≡ Some c → named (λ (s : CustomShape). s.name) c.head.name (map (λ d. head_shape d.head) customs) ≡ Some (head_shape c.head)
own_head before [] own at c there = absurd cc
own_head before (x ∷ xs) own zero c there =
    let same : x ≡ c = cc in
    let is : same_text c.head.name x.head.name ≡ true = same_name c.head.name x.head.name (ap (λ (d : Custom _). d.head.name) (sym same)) in
    rw is (ap (λ (d : Custom _). Some (head_shape d.head)) same)
own_head before (x ∷ xs) own (suc at) c there =
    let head = once_head (hires x.head.name) before _ (list_any (same_claim (hires x.head.name)) before) refl own in
    let no : same_text c.head.name x.head.name ≡ false = others_differ x.head.name (hires x.head.name ∷ before) xs (λ q. first_of (same_text q x.head.name) (list_any (same_claim (hires q)) before)) head.1 at c there in
    rw no (own_head (hires x.head.name ∷ before) xs head.1 at c there)

-- this holds of a node and the custom stage of these that it names
abbrev HoldsAt : {H : Type 0} → (Node → Custom H → Type 0) → List (Custom H) → Node → Option (List ℕ) → Type 0
HoldsAt {H} P customs n o = (at : ℕ) (c : Custom H) → slice_get customs at ≡ Some c → o ≡ Some c.head.name → P n c

-- the same of all nodes
abbrev pub AllHold : {H : Type 0} → (Node → Custom H → Type 0) → List (Custom H) → List Node → Type 0
AllHold P customs [] = ⊤
AllHold P customs (n ∷ ns) = HoldsAt P customs n (custom_of n.kind) × AllHold P customs ns

still_hold : {H : Type 0} (P : Node → Custom H → Type 0) (old : List (Custom H)) (at : ℕ) (nodes : List Node) → AllHold P old nodes → AllHold P (remove old at) nodes
still_hold P old at [] all = tt
still_hold P old at (n ∷ ns) all = ((λ j c there is. let was = still_there old at j c there in all.0 was.0 c was.1 is), still_hold P old at ns all.1)

-- its head fits, and it tells what the book has of it
abbrev pub Fits : {H : Type 0} → (H → ToldList) → Book → Node → Custom H → Type 0
Fits tells book n c = (head_fits (Some (head_shape c.head)) ≡ true) × TellsAsListed tells book c

-- its ports are those that the wires use
abbrev pub FitsWires : {H : Type 0} → List WireDecl → Node → Custom H → Type 0
FitsWires wires n c = used_ports wires n.name ≡ (length c.head.inputs.items, length c.head.outputs.items)

-- the head of the name that a node names is its own
abbrev pub HasHead : {H : Type 0} → HeadLists → Node → Custom H → Type 0
HasHead heads n c = custom_head heads n.kind ≡ Some (head_shape c.head)

-- the head of the name that a node names is that of the custom stage of that name
head_of : {L H : Type 0} (plugs : List (Plug L)) (customs : List (Custom H)) (k : Kind) → HaveOwnNames [] customs → (at : ℕ) (c : Custom H) → slice_get customs at ≡ Some c → custom_of k ≡ Some c.head.name → custom_head (handed_heads plugs customs) k ≡ Some (head_shape c.head)
head_of plugs customs k own at c there is = ap (λ o. option_and_then (custom_named (handed_heads plugs customs)) o) is ∙ own_head [] customs own at c there

all_fit : {L H : Type 0} (tells : H → ToldList) (book : Book) (plugs : List (Plug L)) (customs : List (Custom H)) (nodes : List Node) → HaveOwnNames [] customs → All (TellsAsListed tells book) customs
    → ((k : ℕ) (n : Node) → slice_get nodes k ≡ Some n → head_fits (custom_head (handed_heads plugs customs) n.kind) ≡ true) → AllHold (Fits tells book) customs nodes
all_fit tells book plugs customs [] own told fits = tt
all_fit tells book plugs customs (n ∷ ns) own told fits = (
  (λ at c there is. (subst (λ o. head_fits o ≡ true) (head_of plugs customs n.kind own at c there is) (fits 0 n refl), at_all (TellsAsListed tells book) customs at c there told)),
  all_fit tells book plugs customs ns own told (λ k m at. fits (suc k) m at),
)

all_fit_wires : {L H : Type 0} (plugs : List (Plug L)) (customs : List (Custom H)) (wires : List WireDecl) (nodes : List Node) → HaveOwnNames [] customs
    → ((k : ℕ) (n : Node) (h : CustomShape) → slice_get nodes k ≡ Some n → custom_head (handed_heads plugs customs) n.kind ≡ Some h → used_ports wires n.name ≡ (length h.inputs, length h.outputs)) → AllHold (FitsWires wires) customs nodes
all_fit_wires plugs customs wires [] own ports = tt
all_fit_wires plugs customs wires (n ∷ ns) own ports = (
  (λ at c there is. ports 0 n (head_shape c.head) refl (head_of plugs customs n.kind own at c there is)),
  all_fit_wires plugs customs wires ns own (λ k m h at e. ports (suc k) m h at e),
)

all_have_heads : {L H : Type 0} (plugs : List (Plug L)) (customs : List (Custom H)) (nodes : List Node) → HaveOwnNames [] customs → AllHold (HasHead (handed_heads plugs customs)) customs nodes
all_have_heads plugs customs [] own = tt
all_have_heads plugs customs (n ∷ ns) own = ((λ at c there is. head_of plugs customs n.kind own at c there is), all_have_heads plugs customs ns own)

-- ---- the custom stages that are left

module _ {H : Type 0} (tells : H → ToldList) (book : Book) where
  -- What is known before these nodes are handed theirs, of the custom stages that are left.
  pub record IsReadyToHire (left : List (Custom H)) (nodes : List Node) : Type 0 where
    pub known : Known custom_of (custom_names left) nodes
    pub once : AreOnce custom_of nodes
    pub fit : AllHold (Fits tells book) left nodes

  hire_next_of : (o : Option (List ℕ)) (nodes : List Node) (old new : List (Custom H)) (e : Option (Custom H)) → Known custom_of (custom_names old) nodes → IsOnce custom_of o nodes → AreOnce custom_of nodes → AllHold (Fits tells book) old nodes → IsHandedCustom o old e new → IsReadyToHire new nodes
  hire_next_of None nodes old new e known once others fit h = record {
    known = subst (λ left. Known custom_of (custom_names left) nodes) (sym h.1) known;
    once = others;
    fit = subst (λ left. AllHold (Fits tells book) left nodes) (sym h.1) fit;
  }
  hire_next_of (Some name) nodes old new e known once others fit h =
      let t = h.1.1 in record {
        known = subst (λ left. Known custom_of (custom_names left) nodes) (sym t.left) (still_known (λ (c : Custom _). c.head.name) custom_of name nodes old t.at h.0 t.there t.named once known);
        once = others;
        fit = subst (λ left. AllHold (Fits tells book) left nodes) (sym t.left) (still_hold (Fits tells book) old t.at nodes fit);
      }

  pub hire_next : (n : Node) (nodes : List Node) (old new : List (Custom H)) (e : Option (Custom H)) → IsReadyToHire old (n ∷ nodes) → IsHandedCustom (custom_of n.kind) old e new → IsReadyToHire new nodes
  hire_next n nodes old new e r h = hire_next_of (custom_of n.kind) nodes old new e r.known.1 r.once.0 r.once.1 r.fit.1 h

  pub hire_none : (n : Node) (nodes : List Node) (old new : List (Custom H)) → IsReadyToHire old (n ∷ nodes) → new ≡ old → IsReadyToHire new nodes
  hire_none n nodes old new r h = subst (λ left. IsReadyToHire left nodes) (sym h) (record { known = r.known.1; once = r.once.1; fit = r.fit.1 })

  pub hire_here : (nodes : List Node) (i : ℕ) (n : Node) (left : List (Custom H)) → i < length nodes → n ≡ get_or nodes i n → IsReadyToHire left (drop i nodes) → IsReadyToHire left (n ∷ drop (i + 1) nodes)
  hire_here nodes i n left less is r = subst (λ behind. IsReadyToHire left behind) (here nodes i n less is) r

module _ {L H : Type 0} (gives : L → Gives) (tells : H → ToldList) (book : Book) where
  -- ---- the plugs that are left

  -- What is known before these nodes are handed theirs, of the plugs that are left.
  pub record IsReady (left : List (Plug L)) (nodes : List Node) : Type 0 where
    pub known : Known plug_of (names_of left) nodes
    pub once : AreOnce plug_of nodes
    pub keep : All (GivesAsListed gives book) left

  plug_next_of : (o : Option (List ℕ)) (nodes : List Node) (old new : List (Plug L)) (e : Option (Plug L)) → Known plug_of (names_of old) nodes → IsOnce plug_of o nodes → AreOnce plug_of nodes → All (GivesAsListed gives book) old → IsHandedPlug o old e new → IsReady new nodes
  plug_next_of None nodes old new e known once others keep h = record {
    known = subst (λ left. Known plug_of (names_of left) nodes) (sym h.1) known;
    once = others;
    keep = subst (λ left. All (GivesAsListed gives book) left) (sym h.1) keep;
  }
  plug_next_of (Some name) nodes old new e known once others keep h =
      let t = h.1.1 in record {
        known = subst (λ left. Known plug_of (names_of left) nodes) (sym t.left) (still_known (λ (p : Plug _). p.head.name) plug_of name nodes old t.at h.0 t.there t.named once known);
        once = others;
        keep = subst (λ left. All (GivesAsListed gives book) left) (sym t.left) (All-append (GivesAsListed gives book) (take t.at old) (drop (suc t.at) old) (All-take (GivesAsListed gives book) t.at old keep) (All-drop (GivesAsListed gives book) (suc t.at) old keep));
      }

  plug_next : (n : Node) (nodes : List Node) (old new : List (Plug L)) (e : Option (Plug L)) → IsReady old (n ∷ nodes) → IsHandedPlug (plug_of n.kind) old e new → IsReady new nodes
  plug_next n nodes old new e r h = plug_next_of (plug_of n.kind) nodes old new e r.known.1 r.once.0 r.once.1 r.keep h

  -- ---- both

  pub ready_first : (plugs : List (Plug L)) (customs : List (Custom H)) (wires : List WireDecl) (nodes : List Node) → HasGuests (handed_heads plugs customs) wires nodes → All (GivesAsListed gives book) plugs → All (TellsAsListed tells book) customs → IsReady plugs nodes × IsReadyToHire tells book customs nodes
  ready_first plugs customs wires nodes has keep told =
      let names = map (λ (h : PlugHead). h.name) (map (λ (p : Plug _). p.head) plugs) in
      let hired = map (λ (s : CustomShape). s.name) (map (λ (c : Custom _). head_shape c.head) customs) in
      let known = known_all names hired 0 nodes (none_both _ _ has.known).1 in
      let apart = none_both _ _ (none_both _ _ has.once).1 in
      let once = once_all nodes apart.1 in (
        record { known = subst (λ l. Known plug_of l nodes) (names_same plugs) known.0; once = once.0; keep = keep },
        record { known = subst (λ l. Known custom_of l nodes) (custom_names_same customs) known.1; once = once.1; fit = all_fit tells book plugs customs nodes apart.0 told has.fits },
      )

  pub ready_next : (n : Node) (nodes : List Node) (old new : List (Plug L)) (unhired left : List (Custom H)) (e : Option (Guest L H)) → IsReady old (n ∷ nodes) → IsReadyToHire tells book unhired (n ∷ nodes)
      → IsHandedGuest n.kind old unhired e new left → IsReady new nodes × IsReadyToHire tells book left nodes
  ready_next n nodes old new unhired left None r s h = (plug_next n nodes old new None r h.0, hire_next tells book n nodes unhired left None s h.1)
  ready_next n nodes old new unhired left (Some (guest.Plug p)) r s h = (plug_next n nodes old new (Some p) r h.0, hire_none tells book n nodes unhired left s h.1)
  ready_next n nodes old new unhired left (Some (guest.Custom c)) r s h = (plug_next n nodes old new None r h.0, hire_next tells book n nodes unhired left (Some c) s h.1)

  -- ---- what a node is handed is its own

  none_is : (o c : Option (List ℕ)) (old new : List (Plug L)) (unhired left : List (Custom H)) → IsHandedPlug o old None new → IsHandedCustom c unhired None left → IsGuest gives tells book o c None
  none_is None None old new unhired left h k = refl
  none_is None (Some name) old new unhired left h k = absurd (none_some k.1.0)
  none_is (Some name) c old new unhired left h k = absurd (none_some h.1.0)

  plug_is : (o c : Option (List ℕ)) (old new : List (Plug L)) (p : Plug L) → All (GivesAsListed gives book) old → IsHandedPlug o old (Some p) new → IsGuest gives tells book o c (Some (guest.Plug p))
  plug_is None c old new p keep h = absurd (none_some (sym h.0))
  plug_is (Some name) c old new p keep h =
      let t = h.1.1 in
      let same : h.0 ≡ p = same_some h.0 p h.1.0 in
      (ap (λ (q : Plug _). q.head.name) (sym same) ∙ t.named, subst (GivesAsListed gives book) same (at_all (GivesAsListed gives book) old t.at h.0 t.there keep))

  custom_is : (n : Node) (o c : Option (List ℕ)) (old new : List (Plug L)) (unhired left : List (Custom H)) (d : Custom H) → HoldsAt (Fits tells book) unhired n c → IsHandedPlug o old None new → IsHandedCustom c unhired (Some d) left → IsGuest gives tells book o c (Some (guest.Custom d))
  custom_is n None None old new unhired left d fit h k = absurd (none_some (sym k.0))
  custom_is n None (Some name) old new unhired left d fit h k =
      let t = k.1.1 in
      let same : k.0 ≡ d = same_some k.0 d k.1.0 in record {
        named = ap (λ (q : Custom _). q.head.name) (sym same) ∙ t.named;
        fits = subst (λ (q : Custom _). head_fits (Some (head_shape q.head)) ≡ true) same (fit t.at k.0 t.there (ap Some (sym t.named))).0;
        told = subst (λ (q : Custom _). TellsAsListed tells book q) same (fit t.at k.0 t.there (ap Some (sym t.named))).1;
      }
  custom_is n (Some name) c old new unhired left d fit h k = absurd (none_some h.1.0)

  pub guest_is : (n : Node) (nodes : List Node) (old new : List (Plug L)) (unhired left : List (Custom H)) (e : Option (Guest L H)) → IsReady old (n ∷ nodes) → IsReadyToHire tells book unhired (n ∷ nodes)
      → IsHandedGuest n.kind old unhired e new left → IsGuest gives tells book (plug_of n.kind) (custom_of n.kind) e
  guest_is n nodes old new unhired left None r s h = none_is (plug_of n.kind) (custom_of n.kind) old new unhired left h.0 h.1
  guest_is n nodes old new unhired left (Some (guest.Plug p)) r s h = plug_is (plug_of n.kind) (custom_of n.kind) old new p r.keep h.0
  guest_is n nodes old new unhired left (Some (guest.Custom c)) r s h = custom_is n (plug_of n.kind) (custom_of n.kind) old new unhired left c s.fit.0 h.0 h.1

  -- ---- all of them

  -- those that were handed theirs, with the nodes behind them, are all
  abbrev pub Completes : List Node → List Node → List (Option (Guest L H)) → Type 0
  Completes nodes behind handed = (later : List (Option (Guest L H))) → AreGuests gives tells book (map (λ n. n.kind) behind) later → AreGuests gives tells book (map (λ n. n.kind) nodes) (handed ++ later)

  pub completes_next : (nodes : List Node) (n : Node) (behind : List Node) (old new : List (Option (Guest L H))) (e : Option (Guest L H)) → Completes nodes (n ∷ behind) old → IsGuest gives tells book (plug_of n.kind) (custom_of n.kind) e → new ≡ old ++ e ∷ [] → Completes nodes behind new
  completes_next nodes n behind old new e c is more later h = subst (λ (l : List (Option (Guest L _))). AreGuests gives tells book (map (λ (m : Node). m.kind) nodes) l) (sym (append_assoc old (e ∷ []) later) ∙ ap (λ (l : List (Option (Guest L _))). l ++ later) (sym more)) (c (e ∷ later) (is, h))

  pub completes_first : (nodes : List Node) (none : List (Option (Guest L H))) → none ≡ [] → Completes nodes nodes none
  completes_first nodes none is later h = subst (λ (l : List (Option (Guest L _))). AreGuests gives tells book (map (λ (m : Node). m.kind) nodes) (l ++ later)) (sym is) h

  pub completes_last : (nodes behind : List Node) (handed : List (Option (Guest L H))) → Completes nodes behind handed → behind ≡ [] → AreGuests gives tells book (map (λ n. n.kind) nodes) handed
  completes_last nodes behind handed c is = subst (λ (l : List (Option (Guest L _))). AreGuests gives tells book (map (λ (m : Node). m.kind) nodes) l) (append-nil handed) (c [] (subst (λ (l : List Node). AreGuests gives tells book (map (λ (m : Node). m.kind) l) []) (sym is) tt))

  -- at the node of this place
  pub ready_here : (nodes : List Node) (i : ℕ) (n : Node) (left : List (Plug L)) → i < length nodes → n ≡ get_or nodes i n → IsReady left (drop i nodes) → IsReady left (n ∷ drop (i + 1) nodes)
  ready_here nodes i n left less is r = subst (λ behind. IsReady left behind) (here nodes i n less is) r

  pub completes_here : (nodes : List Node) (i : ℕ) (n : Node) (handed : List (Option (Guest L H))) → i < length nodes → n ≡ get_or nodes i n → Completes nodes (drop i nodes) handed → Completes nodes (n ∷ drop (i + 1) nodes) handed
  completes_here nodes i n handed less is c = subst (λ behind. Completes nodes behind handed) (here nodes i n less is) c

-- ---- the ports of those that are handed out

-- behind a node that was handed its custom stage
pub ports_left : {L H : Type 0} (P : Node → Custom H → Type 0) (n : Node) (nodes : List Node) (plugs left : List (Plug L)) (old new : List (Custom H)) (e : Option (Guest L H)) → AllHold P old (n ∷ nodes) → IsHandedGuest n.kind plugs old e left new → AllHold P new nodes
ports_left P n nodes plugs left old new None all h = none_of (custom_of n.kind) h.1
  where
    none_of : (o : Option (List ℕ)) → IsHandedCustom o old None new → AllHold P new nodes
    none_of None k = subst (λ l. AllHold P l nodes) (sym k.1) all.1
    none_of (Some name) k = absurd (none_some k.1.0)
ports_left P n nodes plugs left old new (Some (guest.Plug p)) all h = subst (λ l. AllHold P l nodes) (sym h.1) all.1
ports_left P n nodes plugs left old new (Some (guest.Custom c)) all h = one_of (custom_of n.kind) h.1
  where
    one_of : (o : Option (List ℕ)) → IsHandedCustom o old (Some c) new → AllHold P new nodes
    one_of None k = absurd (none_some (sym k.0))
    one_of (Some name) k = subst (λ l. AllHold P l nodes) (sym k.1.1.left) (still_hold P old k.1.1.at nodes all.1)

-- what it is handed has the ports that the wires use
pub ports_are : {L H : Type 0} (wires : List WireDecl) (n : Node) (nodes : List Node) (plugs left : List (Plug L)) (old new : List (Custom H)) (e : Option (Guest L H)) → AllHold (FitsWires wires) old (n ∷ nodes) → IsHandedGuest n.kind plugs old e left new → HasPorts (used_ports wires n.name) e
ports_are wires n nodes plugs left old new None all h = tt
ports_are wires n nodes plugs left old new (Some (guest.Plug p)) all h = tt
ports_are wires n nodes plugs left old new (Some (guest.Custom c)) all h = one_of (custom_of n.kind) all.0 h.1
  where
    one_of : (o : Option (List ℕ)) → HoldsAt (FitsWires wires) old n o → IsHandedCustom o old (Some c) new → FitsWires wires n c
    one_of None f k = absurd (none_some (sym k.0))
    one_of (Some name) f k =
        let t = k.1.1 in
        let same : k.0 ≡ c = same_some k.0 c k.1.0 in
        subst (λ (d : Custom _). FitsWires wires n d) same (f t.at k.0 t.there (ap Some (sym t.named)))

pub ports_first : {L H : Type 0} (plugs : List (Plug L)) (customs : List (Custom H)) (wires : List WireDecl) (nodes : List Node) → HasGuests (handed_heads plugs customs) wires nodes → AllHold (FitsWires wires) customs nodes
ports_first plugs customs wires nodes has = all_fit_wires plugs customs wires nodes (none_both _ _ (none_both _ _ has.once).1).0 has.ports

pub ports_here : {H : Type 0} (P : Node → Custom H → Type 0) (nodes : List Node) (i : ℕ) (n : Node) (left : List (Custom H)) → i < length nodes → n ≡ get_or nodes i n → AllHold P left (drop i nodes) → AllHold P left (n ∷ drop (i + 1) nodes)
ports_here P nodes i n left less is all = subst (λ behind. AllHold P left behind) (here nodes i n less is) all

-- with those of the nodes behind they are all
abbrev pub CompletesPorts : {L H : Type 0} → List WireDecl → List Node → List Node → List (Option (Guest L H)) → Type 0
CompletesPorts {L} {H} wires nodes behind handed = (later : List (Option (Guest L H))) → HaveUsedPorts wires behind later → HaveUsedPorts wires nodes (handed ++ later)

pub ports_next : {L H : Type 0} (wires : List WireDecl) (nodes : List Node) (i : ℕ) (n : Node) (old new : List (Option (Guest L H))) (e : Option (Guest L H)) → i < length nodes → n ≡ get_or nodes i n → CompletesPorts wires nodes (drop i nodes) old → HasPorts (used_ports wires n.name) e → new ≡ old ++ e ∷ []
    → CompletesPorts wires nodes (drop (i + 1) nodes) new
ports_next wires nodes i n old new e less is c has more later h =
    subst (λ (l : List (Option (Guest _ _))). HaveUsedPorts wires nodes l) (sym (append_assoc old (e ∷ []) later) ∙ ap (λ (l : List (Option (Guest _ _))). l ++ later) (sym more))
    (c (e ∷ later) (subst (λ (behind : List Node). HaveUsedPorts wires behind (e ∷ later)) (sym (here nodes i n less is)) (has, h)))

pub ports_none : {L H : Type 0} (wires : List WireDecl) (nodes : List Node) (none : List (Option (Guest L H))) → none ≡ [] → CompletesPorts wires nodes nodes none
ports_none wires nodes none is later h = subst (λ (l : List (Option (Guest _ _))). HaveUsedPorts wires nodes (l ++ later)) (sym is) h

pub ports_last : {L H : Type 0} (wires : List WireDecl) (nodes behind : List Node) (handed : List (Option (Guest L H))) → CompletesPorts wires nodes behind handed → behind ≡ [] → HaveUsedPorts wires nodes handed
ports_last {L} {H} wires nodes behind handed c is = subst (λ (l : List (Option (Guest L H))). HaveUsedPorts wires nodes l) (append-nil handed) (c [] (subst (λ (l : List Node). HaveUsedPorts {L = L} {H = H} wires l []) (sym is) tt))

-- ---- the types of those that are handed out

pub heads_first : {L H : Type 0} (plugs : List (Plug L)) (customs : List (Custom H)) (wires : List WireDecl) (nodes : List Node) → HasGuests (handed_heads plugs customs) wires nodes → AllHold (HasHead (handed_heads plugs customs)) customs nodes
heads_first plugs customs wires nodes has = all_have_heads plugs customs nodes (none_both _ _ (none_both _ _ has.once).1).0

-- what it is handed has the types of the head that it names
types_are : {L H : Type 0} (heads : HeadLists) (n : Node) (nodes : List Node) (plugs left : List (Plug L)) (old new : List (Custom H)) (e : Option (Guest L H)) → AllHold (HasHead heads) old (n ∷ nodes) → IsHandedGuest n.kind plugs old e left new → guest_types e ≡ head_types heads n.kind
types_are heads n nodes plugs left old new None all h = none_of (custom_of n.kind) refl h.1
  where
    none_of : (o : Option (List ℕ)) → custom_of n.kind ≡ o → IsHandedCustom o old None new → None ≡ head_types heads n.kind
    none_of None is k = sym (ap (λ (o : Option (List ℕ)). option_map (λ (s : CustomShape). s.outputs) (option_and_then (custom_named heads) o)) is)
    none_of (Some name) is k = absurd (none_some k.1.0)
types_are heads n nodes plugs left old new (Some (guest.Plug p)) all h = one_of (plug_of n.kind) refl h.0
  where
    one_of : (o : Option (List ℕ)) → plug_of n.kind ≡ o → IsHandedPlug o plugs (Some p) left → None ≡ head_types heads n.kind
    one_of None is k = absurd (none_some (sym k.0))
    one_of (Some name) is k = sym (ap (λ (q : Kind). head_types heads q) (names_plug n.kind name is))
types_are heads n nodes plugs left old new (Some (guest.Custom c)) all h = one_of (custom_of n.kind) all.0 h.1
  where
    one_of : (o : Option (List ℕ)) → HoldsAt (HasHead heads) old n o → IsHandedCustom o old (Some c) new → Some c.head.outputs.items ≡ head_types heads n.kind
    one_of None f k = absurd (none_some (sym k.0))
    one_of (Some name) f k =
        let t = k.1.1 in
        let same : k.0 ≡ c = same_some k.0 c k.1.0 in
        let has : custom_head heads n.kind ≡ Some (head_shape c.head) = subst (λ (d : Custom _). HasHead heads n d) same (f t.at k.0 t.there (ap Some (sym t.named))) in
        sym (ap (λ (o : Option CustomShape). option_map (λ (s : CustomShape). s.outputs) o) has)

pub types_first : {L H : Type 0} (heads : HeadLists) (nodes : List Node) (none : List (Option (Guest L H))) → none ≡ [] → map guest_types none ++ types_by_heads heads nodes ≡ types_by_heads heads nodes
types_first heads nodes none is = ap (λ (l : List (Option (Guest _ _))). map guest_types l ++ types_by_heads heads nodes) is

pub types_next : {L H : Type 0} (heads : HeadLists) (nodes : List Node) (i : ℕ) (n : Node) (plugs left : List (Plug L)) (unhired new : List (Custom H)) (was now : List (Option (Guest L H))) (e : Option (Guest L H)) → i < length nodes → n ≡ get_or nodes i n
    → AllHold (HasHead heads) unhired (n ∷ drop (i + 1) nodes) → IsHandedGuest n.kind plugs unhired e left new → now ≡ was ++ e ∷ [] → map guest_types was ++ types_by_heads heads (drop i nodes) ≡ types_by_heads heads nodes
    → map guest_types now ++ types_by_heads heads (drop (i + 1) nodes) ≡ types_by_heads heads nodes
types_next heads nodes i n plugs left unhired new was now e less is all h more so =
    map_next guest_types (λ (m : Node). head_types heads m.kind) was now (drop i nodes) (drop (i + 1) nodes) e n (types_by_heads heads nodes) (here nodes i n less is) more (types_are heads n (drop (i + 1) nodes) plugs left unhired new e all h) so

pub types_last : {L H : Type 0} (heads : HeadLists) (nodes behind : List Node) (handed : List (Option (Guest L H))) → behind ≡ [] → map guest_types handed ++ types_by_heads heads behind ≡ types_by_heads heads nodes → map guest_types handed ≡ types_by_heads heads nodes
types_last heads nodes behind handed is so = map_end guest_types (λ (m : Node). head_types heads m.kind) handed behind (types_by_heads heads nodes) is so
