-- Which kinds may have a decider.
use Rattle.std.specs.Prelude.{Bool, true, false}
use Rattle.stream_model.specs.declared.kind.Kind.{Kind}
use Rattle.stream_model.specs.declared.kind.Kind.TheVariants as k

-- the kinds that may have a decider: those whose function may have no value for an element. Rule: Akka Streams 2.6 reference
abbrev pub takes_decider : Kind → Bool
takes_decider (k.Map f) = true
takes_decider (k.Filter p) = true
takes_decider (k.FilterNot p) = true
takes_decider (k.TakeWhile p) = true
takes_decider (k.DropWhile p) = true
takes_decider (k.MapConcat e) = true
takes_decider (k.Fold o) = true
takes_decider (k.Scan o) = true
takes_decider (k.Reduce o) = true
takes_decider _ = false
