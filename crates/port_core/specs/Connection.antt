-- A connection of one output to one input, as contracts see it.
use Rattle.std.specs.Prelude.{Bool, false, Option, None}
use Rattle.elem_core.specs.Tree.{Tree}
use Rattle.elem_core.specs.declared.why.Cause.{Cause}

-- where the pull and the element stand: nobody pulls; the input pulled; the pull reached the output; an element is on its way
pub data ConnStep : Type 0 where
  quiet : ConnStep
  pulled : ConnStep
  ready : ConnStep
  pushed : Tree → ConnStep

-- its step, the element that was delivered and waits to be grabbed, which sides are closed, and the cause of a failure
pub record Connection : Type 0 where
  pub step : ConnStep
  pub to_grab : Option Tree
  pub in_closed : Bool
  pub out_closed : Bool
  pub cause : Option Cause

-- a new connection: nobody pulled, nothing came, and no side is closed
abbrev pub unasked : Connection
unasked = record { step = quiet; to_grab = None; in_closed = false; out_closed = false; cause = None }
