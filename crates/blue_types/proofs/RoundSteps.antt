-- What holds after a round of the nodes that have anything to fix.
use Rattle.std.proofs.Common.{◌≡◌, ℕ, zero, suc, ◌+◌, ◌<◌, Bool, true, false, cond, ◌==◌, ◌&&◌, ◌||◌, List, [], ◌∷◌, ◌++◌, length, take, get_or, Option, Some, None, is_some, refl, ap, sym, ◌∙◌, subst, ⊎_elim, arith}
use Rattle.std.specs.Prelude.{slice_get}
use Rattle.std.specs.Option.{option_or, option_map, option_and_then}
use Rattle.std.proofs.lemmas.Bool.{cases_Bool, or_cases, eqb-true, and_parts, both_ways}
use Rattle.elem_core.specs.Sort.{Sort}
use Rattle.stream_model.specs.Graph.{Edge, find_by, find_wire}
use Rattle.stream_model.specs.Composed.{count_from}
use Rattle.stream_model.specs.declared.blueprint.Node.{Node}
use Rattle.stream_model.specs.declared.blueprint.ChainDecl.{ChainDecl}
use Rattle.stream_model.specs.Known.{HeadLists}
use Rattle.blue_names.specs.CustomPorts.{kind_inputs}
use Rattle.blue_names.specs.Rounds.{attempt, attempt_at, arrivals, fixes, port_type, type_on, wire_into}
use Rattle.blue_types.specs.declared.news.Fixed.{Fixed}
use Rattle.blue_names.specs.Members.{is_in}
use Rattle.blue_types.specs.News.{AreNews, AreReached, RestsOn, news_at}
use Rattle.blue_types.proofs.NewsLists.{option_or-none}

-- a wire at a place that is counted from n, which leads to that node
record Into (ws : List Edge) (node n i : ℕ) : Type 0 where
  pub place : ℕ
  pub is : i ≡ n + place
  pub leads : (w : Edge) → slice_get ws place ≡ Some w → w.to ≡ node

one_on : (v : Edge) (ws : List Edge) (node n i : ℕ) → Into ws node (n + 1) i → Into (v ∷ ws) node n i
one_on v ws node n i h = let e : i ≡ n + 1 + h.place = h.is in record { place = suc h.place; is = omega arith; leads = h.leads }

here : (v : Edge) (ws : List Edge) (node p n i : ℕ) → ((v.to == node) && (v.input == p)) ≡ true → Some n ≡ Some i → Into (v ∷ ws) node n i
here v ws node p n i t e =
    let parts = and_parts (v.to == node) (v.input == p) t in
    let same : n ≡ i = cc in
    record { place = 0; is = omega arith; leads = λ w at. let u : v ≡ w = cc in subst (λ x. x.to ≡ node) u (eqb-true v.to node parts.0) }

find_into : (ws : List Edge) (node p n i : ℕ) → find_by (λ w. w.to) (λ w. w.input) node p n ws ≡ Some i → Into ws node n i
find_into [] node p n i h = cc
find_into (v ∷ ws) node p n i h =
    ⊎_elim
    (λ (t : ((v.to == node) && (v.input == p)) ≡ true). here v ws node p n i t (sym (ap (λ b. cond b (Some n) (find_by (λ w. w.to) (λ w. w.input) node p (n + 1) ws)) t) ∙ h))
    (λ (t : ((v.to == node) && (v.input == p)) ≡ false).
    one_on v ws node n i (find_into ws node p (n + 1) i (sym (ap (λ b. cond b (Some n) (find_by (λ w. w.to) (λ w. w.input) node p (n + 1) ws)) t) ∙ h)))
    (cases_Bool ((v.to == node) && (v.input == p)))

-- a wire into an input of a node is a wire, and leads to that node
record IsInto (ws : List Edge) (node : ℕ) (w : Edge) : Type 0 where
  pub number : ℕ
  pub at : slice_get ws number ≡ Some w
  pub to : w.to ≡ node

into_by : (ws : List Edge) (node p : ℕ) (w : Edge) (o : Option ℕ) → find_wire node p ws ≡ o → option_and_then (slice_get ws) o ≡ Some w → IsInto ws node w
into_by ws node p w None e h = cc
into_by ws node p w (Some i) e h =
    let f = find_into ws node p 0 i e in
    let same : i ≡ f.place = omega (arith, f.is) in
    record { number = i; at = h; to = f.leads w (subst (λ k. slice_get ws k ≡ Some w) same h) }

wire_into-is : (nodes : List Node) (ws : List Edge) (node p : ℕ) (w : Edge) → wire_into nodes ws node p ≡ Some w → IsInto ws node w
wire_into-is nodes ws node p w h = into_by ws node p w (find_wire node p ws) refl h

module _ (heads : HeadLists) (nodes : List Node) (ws : List Edge) (t u : ℕ → Option Sort) (i : ℕ) (same : (j : ℕ) (w : Edge) → slice_get ws j ≡ Some w → w.to ≡ i → t w.from ≡ u w.from) where
  type_on-by : (p : ℕ) (o : Option Edge) → wire_into nodes ws i p ≡ o → type_on heads nodes ws t o ≡ type_on heads nodes ws u o
  type_on-by p None e = refl
  type_on-by p (Some w) e =
      let f = wire_into-is nodes ws i p w e in
      ap (option_map (port_type heads (slice_get nodes w.from) w.output)) (same f.number w f.at f.to)

  -- types that agree on the nodes before a node arrive alike
  arrivals-same : (ps : List ℕ) → arrivals heads nodes ws t i ps ≡ arrivals heads nodes ws u i ps
  arrivals-same [] = refl
  arrivals-same (p ∷ ps) =
      let e : type_on heads nodes ws t (wire_into nodes ws i p) ≡ type_on heads nodes ws u (wire_into nodes ws i p) = type_on-by p (wire_into nodes ws i p) refl in
      let r : arrivals heads nodes ws t i ps ≡ arrivals heads nodes ws u i ps = arrivals-same ps in
      cc

  pub attempt_at-same : (chains : List ChainDecl) (o : Option Node) → attempt_at heads chains nodes ws t i o ≡ attempt_at heads chains nodes ws u i o
  attempt_at-same chains None = refl
  attempt_at-same chains (Some n) = ap (attempt heads chains n.kind) (arrivals-same (count_from 0 (kind_inputs heads n.kind)))

none_before : {X : Type 0} (a b : Option X) → option_or a b ≡ None → (a ≡ None) × (b ≡ None)
none_before None b h = (refl, h)
none_before (Some x) b h = cc

some_or_none : {X : Type 0} (o : Option X) → is_some o ≡ false → o ≡ None
some_or_none None h = refl
some_or_none (Some x) h = cc

module _ (nodes : List Node) (ws : List Edge) (fix : (ℕ → Option Sort) → ℕ → Option Sort) (t u : ℕ → Option Sort) (news : List Fixed) (front next : List ℕ)
    (alike : (i : ℕ) → ((j : ℕ) (w : Edge) → slice_get ws j ≡ Some w → w.to ≡ i → u w.from ≡ t w.from) → fix u i ≡ fix t i)
    (are : AreNews t (fix t) front news) (rests : RestsOn t (fix t) front) (put : (i : ℕ) → u i ≡ option_or (t i) (news_at news i)) (reached : AreReached ws t news next) where
  -- a node that has no news, and no type, has nothing to fix
  nothing : (i : ℕ) → t i ≡ None → news_at news i ≡ None → fix t i ≡ None
  nothing i none no_news =
      ⊎_elim
      (λ (b : is_in i front ≡ true). sym (ap (λ x. cond x (fix t i) None) b) ∙ sym (are.of_node i none) ∙ no_news)
      (λ (b : is_in i front ≡ false). rests.others i none b)
      (cases_Bool (is_in i front))

  -- no wire into a node that is not in the list comes from a node whose type is new
  unchanged_by : (i : ℕ) → is_in i next ≡ false → (j : ℕ) (w : Edge) → slice_get ws j ≡ Some w → w.to ≡ i → (o : Option Sort) → t w.from ≡ o → u w.from ≡ t w.from
  unchanged_by i out j w at to (Some x) e = put w.from ∙ ap (λ y. option_or y (news_at news w.from)) e ∙ sym e
  unchanged_by i out j w at to None e =
      ⊎_elim
      (λ (b : is_some (news_at news w.from) ≡ true). absurd (both_ways (is_in i next) out (subst (λ k. is_in k next ≡ true) to (reached.target j w at e b))))
      (λ (b : is_some (news_at news w.from) ≡ false). put w.from ∙ ap (option_or (t w.from)) (some_or_none (news_at news w.from) b) ∙ option_or-none (t w.from))
      (cases_Bool (is_some (news_at news w.from)))

  unchanged : (i : ℕ) → is_in i next ≡ false → (j : ℕ) (w : Edge) → slice_get ws j ≡ Some w → w.to ≡ i → u w.from ≡ t w.from
  unchanged i out j w at to = unchanged_by i out j w at to (t w.from) refl

  -- after a round only the nodes in the list have anything to fix
  pub RestsOn-next : RestsOn u (fix u) next
  RestsOn-next = record {
    others = λ i none out.
        let parts = none_before (t i) (news_at news i) (sym (put i) ∙ none) in
        alike i (unchanged i out) ∙ nothing i parts.0 parts.1;
  }
