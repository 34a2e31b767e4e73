-- What each input of a stage took, as a list and an end that are known of the port; and what is told of it of the picture.
use Rattle.std.specs.Prelude.{slice_get, slice_index_or, ⊤}
use Rattle.std.proofs.Common.{◌≡◌, ◌≢◌, ℕ, zero, suc, ◌+◌, ◌≤◌, List, [], ◌∷◌, map, length, take, Some, refl, sym, ap, ◌∙◌, arith}
use Rattle.elem_core.specs.Prefix.{IsPrefix}
use Rattle.elem_core.specs.Tree.{Tree}
use Rattle.elem_core.specs.Items.{elements}
use Rattle.elem_core.specs.declared.item.Item.{Item}
use Rattle.port_core.specs.View as port
use Rattle.port_core.specs.declared.view.InView.{InView}
use Rattle.port_core.specs.declared.view.InView.TheVariants.{Idle, Pulled, Finished, Cancelled}
use Rattle.stream_model.specs.Outlook.{Outlook, End, unended, ended, failed}
use Rattle.stream_model.specs.FanIn.{Inflow, flow}
use Rattle.stream_model.specs.Lawful.{sent_in}
use Rattle.stage_core.specs.Held.{told}
use Rattle.stage_core.specs.Law.{TookAs}
use Rattle.stage_core.specs.PortsLaws.{InPortsLaw}
use Rattle.run_laws.specs.Items.{list_of, end_of_items}
use Rattle.run_laws.specs.Ports.{InPort, EachPort, InStands}
use Rattle.run_laws.proofs.Coming.{elements_told}
use Rattle.run_laws.proofs.Histories.{list_of_told, standing_told, begun}

-- by what is known of the inputs, what came there, and its lists and ends
abbrev pub Flows : List InView → List (List Item) → List Inflow → Type 0
Flows [] [] [] = ⊤
Flows (x ∷ xs) (h ∷ hs) (f ∷ fs) = ((h ≡ told f.list f.end) × TookAs x f.end) × Flows xs hs fs
Flows _ _ _ = ⊥

flows : (xs : List InView) (hs : List (List Item)) (fs : List Inflow) → length hs ≡ length xs → length fs ≡ length xs → ((i : ℕ) (f : Inflow) → slice_get fs i ≡ Some f → slice_index_or hs i [] ≡ told f.list f.end)
    → ((i : ℕ) (f : Inflow) → slice_get fs i ≡ Some f → TookAs (slice_index_or xs i Cancelled) f.end) → Flows xs hs fs
flows [] [] [] m n t a = tt
flows [] [] (f ∷ fs) m n t a = absurd (omega (arith, n))
flows [] (h ∷ hs) fs m n t a = absurd (omega (arith, m))
flows (x ∷ xs) [] fs m n t a = absurd (omega (arith, m))
flows (x ∷ xs) (h ∷ hs) [] m n t a = absurd (omega (arith, n))
flows (x ∷ xs) (h ∷ hs) (f ∷ fs) m n t a = ((t 0 f refl, a 0 f refl), flows xs hs fs (omega (arith, m)) (omega (arith, n)) (λ i k e. t (suc i) k e) (λ i k e. a (suc i) k e))

pub law_flows : (K : List Inflow → List Tree → End → Type 0) (v : port.View) (took gave : List (List Item)) → (law : InPortsLaw K v took gave) → Flows v.ins took law.law.ins
law_flows K v took gave law = flows v.ins took law.law.ins law.ports law.law.ports law.law.took_is law.law.took_as

-- ---- counts

-- how many elements came in all
abbrev pub all_elements : List (List Item) → ℕ
all_elements [] = 0
all_elements (h ∷ hs) = elements h + all_elements hs

-- how many the inputs of a list function have
abbrev pub total_length : List Outlook → ℕ
total_length [] = 0
total_length (o ∷ os) = length o.list + total_length os

pub flow_count : {h : List Item} (f : Inflow) → h ≡ told f.list f.end → elements h ≡ length f.list
flow_count f e = ap elements e ∙ elements_told f.list f.end

-- no more came than was sent
pub came_sent : (is : List InPort) (fs : List Inflow) → Flows (map (λ (i : InPort). i.view) is) (map (λ (i : InPort). i.got) is) fs → EachPort InStands is → total_length (map flow fs) ≤ sent_in (map (λ (i : InPort). i.wire) is)
came_sent [] [] f s = omega arith
came_sent [] (x ∷ fs) f s = absurd f
came_sent (i ∷ is) [] f s = absurd f
came_sent (i ∷ is) (x ∷ fs) f s =
    let here = flow_count x f.0.0 in
    let came = s.0.came in
    let rest = came_sent is fs f.1 s.1 in
    omega (arith, here, came, rest)

-- the elements of one input and of those before it are some of all
pub some_elements : (p : ℕ) (hs : List (List Item)) → elements (slice_index_or hs p []) + all_elements (take p hs) ≤ all_elements hs
some_elements zero [] = omega arith
some_elements (suc p) [] = omega arith
some_elements zero (h ∷ hs) = omega arith
some_elements (suc p) (h ∷ hs) = let rest = some_elements p hs in omega (arith, rest)

-- ---- an end that came is the last that comes

pub ended_over : (x : InView) (e : End) → TookAs x e → e ≢ unended → x ≡ Finished
ended_over Finished e h n = refl
ended_over Idle e h n = absurd (n h)
ended_over Pulled e h n = absurd (n h)
ended_over Cancelled e h n = absurd (n h)

pub over_ended : (x : InView) (e : End) → TookAs x e → x ≡ Finished → e ≢ unended
over_ended Finished unended h n = absurd h
over_ended Finished ended h n = λ e. cc
over_ended Finished (failed c) h n = λ e. cc
over_ended Idle e h n = cc
over_ended Pulled e h n = cc
over_ended Cancelled e h n = cc

pub open_unended : (x : InView) (e : End) → TookAs x e → x ≢ Finished → e ≡ unended
open_unended Finished e h n = absurd (n refl)
open_unended Idle e h n = h
open_unended Pulled e h n = h
open_unended Cancelled e h n = h

-- a history that goes on behind an end is that history
pub done_same : (f g : Inflow) (h s : List Item) → h ≡ told f.list f.end → s ≡ told g.list g.end → IsPrefix h s → f.end ≢ unended → (g.list ≡ f.list) × (g.end ≡ f.end)
done_same f g h s a b p n = by f.end refl
  where
    lists : list_of s ≡ g.list
    lists = ap list_of b ∙ list_of_told g.list g.end

    ends : end_of_items s ≡ g.end
    ends = ap end_of_items b ∙ standing_told g.list g.end

    by : (e : End) → f.end ≡ e → (g.list ≡ f.list) × (g.end ≡ f.end)
    by unended e = absurd (n e)
    by ended e = let r = (begun f.list f.end h s a p).ended_all e in (sym lists ∙ r.0, sym ends ∙ (r.1 ∙ sym e))
    by (failed c) e = let r = (begun f.list f.end h s a p).failed_all c e in (sym lists ∙ r.0, sym ends ∙ (r.1 ∙ sym e))
