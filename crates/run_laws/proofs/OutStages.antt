-- What a stage with several outputs keeps in a run and gives for a picture, by its kind.
use Rattle.std.proofs.Common.{◌≡◌, ℕ, List, [], None, map, refl}
use Rattle.elem_core.specs.declared.item.Item.{Item}
use Rattle.port_core.specs.View.{View}
use Rattle.stream_model.specs.declared.kind.Kind.{Kind}
use Rattle.stream_model.specs.declared.kind.Kind.TheVariants.{Balance}
use Rattle.stream_model.specs.Graph.{Graph}
use Rattle.stream_model.specs.Graph as graph
use Rattle.stream_model.specs.Linear.{Book}
use Rattle.stream_model.specs.Node.{World}
use Rattle.stage_out.specs.Balancings.{Balancing, BalancesAs}
use Rattle.stage_out.specs.Balancings as balance
use Rattle.stage_out.specs.declared.machines.OutMachines.{OutMachines}
use Rattle.stage_out.specs.declared.logic.OutLogic.{OutLogic}
use Rattle.stage_out.specs.declared.logic.OutLogic.TheVariants.{Machines, Balances}
use Rattle.stage_out.specs.Machines as machines
use Rattle.stage_out.specs.MachineNodes.{MachinesLaw}
use Rattle.stage_out.specs.Machines.{IsMachines}
use Rattle.stage_out.specs.Moves.{out_moves, out_plan, TellsMoves}
use Rattle.stage_out.specs.OutLogics.{port_state, BeginsBalance, OutAsking, OutLaw, Begins}
use Rattle.stage_merge.proofs.MergeNodes.{none_left_over}
use Rattle.run_laws.specs.KindLaws.{HearsAll, Moments, PictureLaws, RunLaws}
use Rattle.run_laws.specs.Ports.{InPort, OutPort, views_of}
use Rattle.run_laws.specs.Unmoved.{NoAsking, no_moves, never_ends}
use Rattle.run_laws.proofs.Balances.{BalanceAsking, made, balance_picture, balance_laws, balance_hears}
use Rattle.run_laws.proofs.OutPictures.{machines_picture}
use Rattle.run_laws.proofs.OutRuns.{machines_laws, machines_hear}
use Rattle.run_laws.proofs.FanStanding.{Stands, moments_of}

-- ---- a stage as that of its kind

machines_tell : (a : OutMachines) (v : View) → OutAsking (Machines a) v → NoAsking a v
machines_tell a v h = tt

balance_tells : (a : Balancing) (v : View) → OutAsking (Balances a) v → BalanceAsking a v
balance_tells a v h = h

machines_stand : (first : OutMachines) (old : OutLogic) (v : View) (took gave : List (List Item)) → port_state old v → OutLaw (Machines first) old v took gave
    → Stands port_state OutLaw OutAsking out_moves no_moves machines.port_state MachinesLaw NoAsking Machines machines_tell first old v took gave
machines_stand first (Machines l) v took gave r law = record { stage = l; is = refl; port_state_holds = r; law_holds = law; asking_holds = λ a. tt; moves_on = λ now on. record { rest = []; is = refl } }
machines_stand first (Balances l) v took gave r law = absurd law

balance_stand : (first : Balancing) (old : OutLogic) (v : View) (took gave : List (List Item)) → port_state old v → OutLaw (Balances first) old v took gave
    → Stands port_state OutLaw OutAsking out_moves made balance.port_state BalancesAs BalanceAsking Balances balance_tells first old v took gave
balance_stand first (Balances l) v took gave r law = record { stage = l; is = refl; port_state_holds = r; law_holds = law; asking_holds = λ a. a; moves_on = λ now on. on }
balance_stand first (Machines l) v took gave r law = absurd law

pub balance_moments : (f l : Balancing) (is : List InPort) (os : List OutPort) (q : ℕ) → Moments port_state OutLaw OutAsking out_moves (Balances f) (Balances l) is os q → Moments balance.port_state BalancesAs BalanceAsking made f l is os q
balance_moments f l is os q m = moments_of port_state OutLaw OutAsking out_moves made balance.port_state BalancesAs BalanceAsking Balances balance_tells f (balance_stand f) l is os q m

-- ---- a picture

module _ (g : Graph) (w : World) (k : ℕ) (n : graph.Node) where
  pub out_picture : (first now : OutLogic) (is : List InPort) (os : List OutPort) → Begins k n.kind first → out_plan first ≡ None → TellsMoves w k now → port_state now (views_of is os)
      → OutLaw first now (views_of is os) (map (λ (i : InPort). i.got) is) (map (λ (o : OutPort). o.sent) os) → PictureLaws port_state OutLaw OutAsking out_moves never_ends g w k n first now is os
  out_picture (Machines f) (Machines l) is os b free told r law =
      let p = machines_picture g w k n f l is os b.as_kind.0 b.as_kind.1 r law in
      record {
        lawful = λ s so m. p.lawful s so (λ q some. moments_of port_state OutLaw OutAsking out_moves no_moves machines.port_state MachinesLaw NoAsking Machines machines_tell f (machines_stand f) l is os q (m q some));
        rests = p.rests;
        matches = p.matches;
      }
  out_picture (Balances f) (Balances l) is os b free told r law =
      let p = balance_picture g w k n f l is os b.as_kind (none_left_over f.log free) (told l.log.moves refl) r law in
      record {
        lawful = λ s so m. p.lawful s so (λ q some. balance_moments f l is os q (m q some));
        rests = p.rests;
        matches = p.matches;
      }
  out_picture (Machines f) (Balances l) is os b free told r law = absurd law
  out_picture (Balances f) (Machines l) is os b free told r law = absurd law

-- ---- a run

pub out_laws : (g : Graph) (w : World) (k : ℕ) (n : graph.Node) (first now : OutLogic) (v : View) (took gave : List (List Item)) → Begins k n.kind first → TellsMoves w k now → OutLaw first now v took gave → RunLaws g w k n took gave
out_laws g w k n (Machines f) (Machines l) v took gave b told law = machines_laws g w k n f l v took gave b.as_kind.0 b.as_kind.1 law
out_laws g w k n (Balances f) (Balances l) v took gave b told law = balance_laws g w k n f l v took gave b.as_kind (told l.log.moves refl) law
out_laws g w k n (Machines f) (Balances l) v took gave b told law = absurd law
out_laws g w k n (Balances f) (Machines l) v took gave b told law = absurd law

pub out_hears : (book : Book) (k : ℕ) (kd : Kind) (first now : OutLogic) (v : View) (took gave : List (List Item)) → Begins k kd first → OutLaw first now v took gave → HearsAll v took
out_hears book k kd (Machines f) (Machines l) v took gave b law = machines_hear book k kd f l v took gave b.as_kind.0 b.as_kind.1 law
out_hears book k kd (Balances f) (Balances l) v took gave b law = balance_hears f l v took gave law
out_hears book k kd (Machines f) (Balances l) v took gave b law = absurd law
out_hears book k kd (Balances f) (Machines l) v took gave b law = absurd law

-- ---- kinds that make no moves

-- nothing need be told of their moves
no_balance : (kd : Kind) (l : Balancing) → IsMachines kd → BeginsBalance kd l → ⊥
no_balance (Balance n) l ok b = ok
no_balance kd l ok b = b

pub unmoved_tells : (w : World) (k : ℕ) (kd : Kind) (first now : OutLogic) (v : View) (took gave : List (List Item)) → IsMachines kd → Begins k kd first → OutLaw first now v took gave → TellsMoves w k now
unmoved_tells w k kd (Machines f) (Machines l) v took gave ok b law = λ moves e. cc
unmoved_tells w k kd (Balances f) (Balances l) v took gave ok b law = absurd (no_balance kd f ok b.as_kind)
unmoved_tells w k kd (Machines f) (Balances l) v took gave ok b law = absurd law
unmoved_tells w k kd (Balances f) (Machines l) v took gave ok b law = absurd law
