-- The law of a stage with one input and one output that is told by ports: the one history that it took there, and what of it is
-- told of the picture.
use Rattle.std.specs.Prelude.{slice_get, slice_index_or}
use Rattle.std.proofs.Common.{◌≡◌, List, [], ◌∷◌, length, Some, refl, sym, ap, ◌∙◌, subst, arith}
use Rattle.elem_core.specs.Tree.{Tree}
use Rattle.elem_core.specs.Items.{elements}
use Rattle.elem_core.specs.declared.item.Item.{Item}
use Rattle.port_core.specs.View.{View, in_at}
use Rattle.stream_model.specs.Outlook.{End}
use Rattle.stream_model.specs.FanIn.{Inflow}
use Rattle.stage_core.specs.Held.{told}
use Rattle.stage_core.specs.Law.{TookAs}
use Rattle.stage_core.specs.PortsLaws.{InPortsLaw}
use Rattle.run_laws.proofs.Coming.{elements_told}
use Rattle.run_laws.proofs.OnePorts.{one_same}

one_only : (fs : List Inflow) → length fs ≡ 1 → (f : Inflow) × (fs ≡ f ∷ [])
one_only [] n = absurd (omega (arith, n))
one_only (f ∷ []) n = (f, refl)
one_only (f ∷ h ∷ fs) n = absurd (omega (arith, n))

-- the histories of its two ports
pub record OneFlow (K : List Inflow → List Tree → End → Type 0) (v : View) (took gave : List (List Item)) (law : InPortsLaw K v took gave) (got sent : List Item) : Type 0 where
  pub f : Inflow
  pub ins : law.law.ins ≡ f ∷ []
  pub got_is : got ≡ told f.list f.end
  pub got_as : TookAs (in_at v 0) f.end
  pub sent_is : sent ≡ told law.law.out_list law.law.out_end
  pub keeps : K (f ∷ []) law.law.out_list law.law.out_end

pub one_flow : (K : List Inflow → List Tree → End → Type 0) (v : View) (took gave : List (List Item)) (law : InPortsLaw K v took gave) (got sent : List Item) → took ≡ got ∷ [] → gave ≡ sent ∷ [] → OneFlow K v took gave law got sent
one_flow K v took gave law got sent ti gi =
    let l = law.law in
    let histories = law.ports in
    let ports = l.ports in
    let one : length took ≡ 1 = ap length ti in
    let f = one_only l.ins (omega (arith, histories, ports, one)) in
    let at : slice_get l.ins 0 ≡ Some f.0 = ap (λ (fs : List Inflow). slice_get fs 0) f.1 in
    record {
      f = f.0;
      ins = f.1;
      got_is = sym (ap (λ (hs : List (List Item)). slice_index_or hs 0 []) ti) ∙ l.took_is 0 f.0 at;
      got_as = l.took_as 0 f.0 at;
      sent_is = one_same sent law.given (sym gi ∙ law.gave_is) ∙ l.gave_is;
      keeps = subst (λ (fs : List Inflow). K fs l.out_list l.out_end) f.1 l.keeps;
    }

module _ (K : List Inflow → List Tree → End → Type 0) (v : View) (took gave : List (List Item)) (law : InPortsLaw K v took gave) (got sent : List Item) (one : OneFlow K v took gave law got sent) where
  pub flow_got : elements got ≡ length one.f.list
  flow_got = ap elements one.got_is ∙ elements_told one.f.list one.f.end

  pub flow_sent : elements sent ≡ length law.law.out_list
  flow_sent = ap elements one.sent_is ∙ elements_told law.law.out_list law.law.out_end
