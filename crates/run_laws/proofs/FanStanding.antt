-- A node that is a stage of another type has the moments of its asks as that stage.
use Rattle.std.proofs.Common.{◌≡◌, ℕ, Bool, List, map, subst}
use Rattle.elem_core.specs.Prefix.{IsPrefix}
use Rattle.elem_core.specs.declared.item.Item.{Item}
use Rattle.port_core.specs.View.{View}
use Rattle.run_laws.specs.Account.{Earlier, LastAsked}
use Rattle.run_laws.specs.KindLaws.{Moments}
use Rattle.run_laws.specs.Ports.{InPort, OutPort}

module _ {N L : Type 0} (port_state : N → View → Type 0) (law : N → N → View → List (List Item) → List (List Item) → Type 0) (asking : N → View → Type 0) (moves : N → List ℕ)
    (its_moves : L → List ℕ) (its_row : L → View → Type 0) (its_law : L → L → View → List (List Item) → List (List Item) → Type 0) (its_asking : L → View → Type 0) (as_node : L → N) (tells : (a : L) (v : View) → asking (as_node a) v → its_asking a v) (first : L) where
  -- a node that keeps the law is such a stage
  pub record Stands (old : N) (v : View) (took gave : List (List Item)) : Type 0 where
    pub stage : L
    pub is : old ≡ as_node stage
    pub port_state_holds : its_row stage v
    pub law_holds : its_law first stage v took gave
    pub asking_holds : asking old v → its_asking stage v
    pub moves_on : (now : L) → IsPrefix (moves old) (moves (as_node now)) → IsPrefix (its_moves stage) (its_moves now)

  module _ (stands : (old : N) (v : View) (took gave : List (List Item)) → port_state old v → law (as_node first) old v took gave → Stands old v took gave) where
    earlier_of : (p : ℕ) (now : L) (took gave : List (List Item)) (ins_want outs_want : List ℕ) (outs_closed : List Bool) → Earlier port_state law asking moves p (as_node first) (as_node now) took gave ins_want outs_want outs_closed
        → Earlier its_row its_law its_asking its_moves p first now took gave ins_want outs_want outs_closed
    earlier_of p now took gave ins_want outs_want outs_closed e =
        let s = stands e.old e.knew e.had e.given e.port_state_held e.law_held in
        record {
          old = s.stage;
          knew = e.knew;
          had = e.had;
          given = e.given;
          port_state_held = s.port_state_holds;
          law_held = s.law_holds;
          asking_held = s.asking_holds e.asking_held;
          waited = e.waited;
          one_more = e.one_more;
          took_on = e.took_on;
          gave_on = e.gave_on;
          moves_on = s.moves_on now e.moves_on;
          wants = e.wants;
          shut_on = e.shut_on;
          stays = λ one none had. tells now e.knew (e.stays one none had);
        }

    last_of : (now : L) (took gave : List (List Item)) (ins_want outs_want : List ℕ) (outs_closed : List Bool) → LastAsked port_state law asking moves (as_node first) (as_node now) took gave ins_want outs_want outs_closed
        → LastAsked its_row its_law its_asking its_moves first now took gave ins_want outs_want outs_closed
    last_of now took gave ins_want outs_want outs_closed e =
        let s = stands e.old e.knew e.had e.given e.port_state_held e.law_held in
        record {
          old = s.stage;
          knew = e.knew;
          had = e.had;
          given = e.given;
          port_state_held = s.port_state_holds;
          law_held = s.law_holds;
          asking_held = s.asking_holds e.asking_held;
          port = e.port;
          waited = e.waited;
          stood = e.stood;
          before = λ i h some. earlier_of i s.stage e.had e.given ins_want outs_want outs_closed
              (subst (λ (x : N). Earlier port_state law asking moves i (as_node first) x e.had e.given ins_want outs_want outs_closed) s.is (e.before i h some));
          took_on = e.took_on;
          gave_on = e.gave_on;
          moves_on = s.moves_on now e.moves_on;
          wants = e.wants;
          shut_on = e.shut_on;
        }

    pub moments_of : (now : L) (is : List InPort) (os : List OutPort) (p : ℕ) → Moments port_state law asking moves (as_node first) (as_node now) is os p → Moments its_row its_law its_asking its_moves first now is os p
    moments_of now is os p m = (
      earlier_of p now (map (λ (i : InPort). i.got) is) (map (λ (o : OutPort). o.sent) os) (map (λ (i : InPort). i.want) is) (map (λ (o : OutPort). o.want) os) (map (λ (o : OutPort). o.wire.shut) os) m.0,
      last_of now (map (λ (i : InPort). i.got) is) (map (λ (o : OutPort). o.sent) os) (map (λ (i : InPort). i.want) is) (map (λ (o : OutPort). o.want) os) (map (λ (o : OutPort). o.wire.shut) os) m.1,
    )
