-- What a custom stage keeps between two calls, and what holds of it over a run.
use Rattle.std.specs.Prelude.{◌≡◌, List, [], ◌∷◌, length, replicate, Option, None, Some, ⊤}
use Rattle.elem_core.specs.declared.item.Item.{Item}
use Rattle.port_core.specs.View.{View}
use Rattle.port_core.specs.declared.view.InView.TheVariants.{Idle}
use Rattle.port_core.specs.declared.view.OutView.TheVariants.{Unpulled}
use Rattle.stream_model.specs.Linear.{Book}
use Rattle.graph_stage.specs.Lifted.{Telling, not_begun}
use Rattle.graph_stage.specs.State.{CustomState, IsCallable}
use Rattle.graph_stage.specs.Calls.{CallMade, BeginsOnce, ports_behind, CallsAllowed, brought_by_calls, given_by_calls, CalledOn}
use Rattle.graph_stage.specs.Ports.{Sees}

-- it sees its ports as they are, and is ready for a call
pub record CustomPortState (x : CustomState) (v : View) : Type 0 where
  pub sees : Sees v x.sight
  pub ready : IsCallable x

-- one that tells a list has one input and one output, which nobody asked
abbrev pub BeginsToTell : Option Telling → View → Type 0
BeginsToTell None v = ⊤
BeginsToTell (Some s) v = (s ≡ not_begun) × ((v.ins ≡ Idle ∷ []) × (v.outs ≡ Unpulled ∷ []))

-- one that was not started sees its ports as they are, took nothing, and had no call
pub record CustomFresh (x : CustomState) (v : View) : Type 0 where
  pub sees : Sees v x.sight
  pub ready : IsCallable x
  pub begins : BeginsToTell x.telling v
  pub none_taken : x.taken ≡ 0
  pub none_took : x.took ≡ []
  pub no_calls : x.asked ≡ []
  pub none_done : x.done ≡ []

-- Choice: docs/DECISIONS.md#law-has-the-calls
-- What passed at its ports, and how they stand, came of calls of its handlers, one for each call of the stage, and no others: first the
-- start, and then each as the port rules allow it. One that tells a list by this book asks for just what gives that.
pub record CustomLaw (b : Book) (first now : CustomState) (v : View) (took gave : List (List Item)) : Type 0 where
  pub calls : List CallMade
  pub begin : View
  pub fresh : CustomFresh first begin
  pub begins : BeginsOnce calls
  pub called : CalledOn b first calls now
  pub allowed : CallsAllowed begin calls
  pub ports : v ≡ ports_behind begin calls
  pub took_is : took ≡ brought_by_calls calls (replicate (length begin.ins) [])
  pub gave_is : gave ≡ given_by_calls calls (replicate (length begin.outs) [])
