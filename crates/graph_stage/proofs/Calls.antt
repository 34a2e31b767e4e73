-- One more call behind those that a custom stage had.
use Rattle.std.proofs.Common.{◌≡◌, List, [], ◌∷◌, ◌++◌, refl, subst}
use Rattle.elem_core.specs.declared.item.Item.{Item}
use Rattle.port_core.specs.View.{View, acted_all}
use Rattle.port_core.specs.Call.{Call, CallAllowed, seen}
use Rattle.stream_model.specs.Linear.{Book}
use Rattle.stage_core.specs.Histories.{given_all, brought_by}
use Rattle.graph_stage.specs.State.{CustomState, RuledAs}
use Rattle.graph_stage.specs.Calls.{CallMade, IsLater, AllLater, BeginsOnce, ports_behind, CallsAllowed, brought_by_calls, given_by_calls, CalledOn}

pub ports_append : (v : View) (calls : List CallMade) (c : CallMade) → ports_behind v (calls ++ c ∷ []) ≡ acted_all (seen c.call (ports_behind v calls)) c.acts
ports_append v [] c = refl
ports_append v (b ∷ calls) c = ports_append (acted_all (seen b.call v) b.acts) calls c

pub allowed_append : (v : View) (calls : List CallMade) (c : CallMade) → CallsAllowed v calls → CallAllowed c.call (ports_behind v calls) → CallsAllowed v (calls ++ c ∷ [])
allowed_append v [] c h may = (may, tt)
allowed_append v (b ∷ calls) c h may = (h.0, allowed_append (acted_all (seen b.call v) b.acts) calls c h.1 may)

pub brought_append : (calls : List CallMade) (c : CallMade) (took : List (List Item)) → brought_by_calls (calls ++ c ∷ []) took ≡ brought_by c.call (brought_by_calls calls took)
brought_append [] c took = refl
brought_append (b ∷ calls) c took = brought_append calls c (brought_by b.call took)

pub given_append : (calls : List CallMade) (c : CallMade) (gave : List (List Item)) → given_by_calls (calls ++ c ∷ []) gave ≡ given_all c.acts (given_by_calls calls gave)
given_append [] c gave = refl
given_append (b ∷ calls) c gave = given_append calls c (given_all b.acts gave)

later_append : (calls : List CallMade) (c : CallMade) → AllLater calls → IsLater c.call → AllLater (calls ++ c ∷ [])
later_append [] c h later = (later, tt)
later_append (b ∷ calls) c h later = (h.0, later_append calls c h.1 later)

pub begins_append : (calls : List CallMade) (c : CallMade) → BeginsOnce calls → IsLater c.call → BeginsOnce (calls ++ c ∷ [])
begins_append [] c h later = absurd h
begins_append (b ∷ calls) c h later = (h.0, later_append calls c h.1 later)

pub called_append : {b : Book} (first old : CustomState) (calls : List CallMade) (c : CallMade)
    → CalledOn b first calls old → RuledAs b c.call old c.after c.acts → CalledOn b first (calls ++ c ∷ []) c.after
called_append {b} first old [] c h r = (subst (λ (z : CustomState). RuledAs b c.call z c.after c.acts) h r, refl)
called_append first old (b ∷ calls) c h r = (h.0, called_append b.after old calls c h.1 r)
