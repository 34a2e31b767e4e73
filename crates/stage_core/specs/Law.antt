-- The law of an output of a stage with one input, over its whole history: what the stage took, what it gave there, what it
-- still owes, and what it knows of its ports.
use Rattle.std.specs.Prelude.{◌≡◌, ◌-◌, ◌≤◌, IsTrue, List, ◌++◌, length, take, ⊤}
use Rattle.elem_core.specs.Tree.{Tree}
use Rattle.stream_model.specs.Outlook.{End, unended, ended, failed}
use Rattle.stream_model.specs.Machine.{Run, Machine, is_going, run, Stands}
use Rattle.elem_core.specs.declared.item.Item.{Item}
use Rattle.port_core.specs.declared.view.InView.{InView}
use Rattle.port_core.specs.declared.view.InView.TheVariants.{Finished}
use Rattle.port_core.specs.declared.view.OutView.{OutView}
use Rattle.port_core.specs.declared.view.OutView.TheVariants.{Closed}
use Rattle.stage_core.specs.Held.{told, Held, owing, shut, sealed_at, failed_at}

-- an input's history has its end exactly where the stage knows it
abbrev pub TookAs : InView → End → Type 0
TookAs Finished unended = ⊥
TookAs Finished _ = ⊤
TookAs _ e = e ≡ unended

-- an output's history has its end exactly where the stage closed it
abbrev pub GaveAs : OutView → End → Type 0
GaveAs Closed unended = ⊥
GaveAs Closed _ = ⊤
GaveAs _ f = f ≡ unended

module _ {S : Type 0} (m : Machine S Tree) where
  -- the machine once its input stands so
  abbrev pub ends_by : Run S Tree → End → Run S Tree
  ends_by x unended = x
  ends_by x ended = sealed_at m x.gave x.state
  ends_by x (failed c) = failed_at m x.gave x.state c

  module _ (start : Run S Tree) where
    -- no more is held back than what the last `hold` elements brought
    abbrev pub Lags : List Tree → List Tree → Type 0
    Lags l g = length (run m start (take (length l - m.hold) l)).gave ≤ length g

    -- one that owes z: what was given and what is held are what the machine gave, and the states are the same. One that owes
    -- nothing may have given what it gave
    abbrev pub Keeps : Held S → List Tree → End → List Tree → End → Type 0
    Keeps (owing z) l e g f =
        (f ≡ unended) × ((ends_by (run m start l) e ≡ record { gave = g ++ z.gave; state = z.state }) × (IsTrue (is_going z.state) → 1 ≤ m.hold → Lags l g))
    Keeps shut l e g f = Stands m start l e g f

    -- An output of a stage, which still owes x, and what the stage knows of its input and of this output: the input's
    -- history and the output's are a list and an end each, which are as the stage knows of its ports.
    pub record Law (x : Held S) (inp : InView) (out : OutView) (took gave : List Item) : Type 0 where
      pub in_list : List Tree
      pub in_end : End
      pub out_list : List Tree
      pub out_end : End
      pub took_is : took ≡ told in_list in_end
      pub gave_is : gave ≡ told out_list out_end
      pub took_as : TookAs inp in_end
      pub gave_as : GaveAs out out_end
      pub keeps : Keeps x in_list in_end out_list out_end
