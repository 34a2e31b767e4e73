-- What a sink with a file took and wrote, by its outlook.
use Rattle.std.specs.Prelude.{Option}
use Rattle.std.specs.Option.{option_map}
use Rattle.std.proofs.Common.{◌≡◌, ◌≢◌, ℕ, List, [], ◌++◌, Some, refl, sym, ap, subst, ◌∙◌}
use Rattle.elem_core.specs.Prefix.{IsPrefix}
use Rattle.elem_core.specs.Text.{text_lines}
use Rattle.elem_core.specs.Tree.{Tree}
use Rattle.elem_core.specs.declared.item.Item.{Item}
use Rattle.elem_core.proofs.Prefixes.{prefix_refl, prefix_trans}
use Rattle.port_core.specs.View.{View}
use Rattle.stream_model.specs.Outlook.{Outlook, End, unended, ended, failed, Agrees}
use Rattle.stream_model.specs.declared.outcome.EndState.{EndState}
use Rattle.stream_model.specs.declared.outcome.EndState.TheVariants.{Ended, Failed, Unended, WriteFault}
use Rattle.stream_io.specs.State.{DrainState}
use Rattle.nodes.specs.declared.sink.Writes.{Writes}
use Rattle.nodes.specs.declared.sink.Writes.TheVariants.{Each, First, Last}
use Rattle.nodes.specs.Sink.{Gathered, Sink, WroteAll, WroteFirst, SinkStandsAs, end_seen, WritesOf, SinkLaw}
use Rattle.nodes.proofs.Drawings.{text_lines-append}
use Rattle.nodes.proofs.SinkTexts.{has_lines}
use Rattle.run_laws.specs.Sinks.{TookList, HoldsText, SinkTells}
use Rattle.run_laws.proofs.Written.{end_by}

-- the text of a first part
prefix_text : (a b : List Tree) → IsPrefix a b → IsPrefix (text_lines a) (text_lines b)
prefix_text a b p = record { rest = text_lines p.rest; is = ap text_lines p.is ∙ text_lines-append a p.rest }

-- the file held nothing at first
from_empty : (o : Option (List ℕ)) (more written : List ℕ) → o ≡ Some [] → Some written ≡ option_map (λ held. held ++ more) o → written ≡ more
from_empty o more written e h =
    let now : Some written ≡ Some more = subst (λ (p : Option (List ℕ)). Some written ≡ option_map (λ held. held ++ more) p) e h in
    cc

wrote_text : (o : Outlook) (e : End) (old new : DrainState) (wrote : List Tree) (n : ℕ) (written : List ℕ) → old.holds ≡ Some [] → new.holds ≡ Some written → Agrees o wrote e → WroteAll old new wrote n → HoldsText o e written
wrote_text o e old new wrote n written h k a w = record { list = wrote; agrees = a; is = from_empty old.holds (text_lines wrote) written h (sym k ∙ w.holds) }

-- what agrees is a first part of the list
part_of : (o : Outlook) (l : List Tree) (e : End) → Agrees o l e → IsPrefix l o.list
part_of o l unended a = a
part_of o l ended a = rw a.1 (prefix_refl o.list)
part_of o l (failed c) a = a.0

-- of what was to be written some was put off
wrote_first : (o : Outlook) (old new : DrainState) (wrote : List Tree) (n : ℕ) (held : List ℕ) (late : ℕ) (written : List ℕ) → old.holds ≡ Some [] → new.holds ≡ Some written → Agrees o wrote unended → WroteFirst old new wrote n held late → HoldsText o unended written
wrote_first o old new wrote n held late written h k a w = wrote_text o unended old new w.put n written h k (prefix_trans (record { rest = w.off; is = w.wrote_is }) a) w.wrote_all

tells_by : (s : EndState) (y : Gathered) (wr : Writes) (o : Outlook) (old new : DrainState) (wrote : List Tree) (n : ℕ) (written : List ℕ) → old.holds ≡ Some [] → new.holds ≡ Some written
    → Agrees o wrote (end_by s wr) → SinkStandsAs s y old new wrote n → IsPrefix written (text_lines wrote) → SinkTells o s written
tells_by Ended y wr o old new wrote n written h k a w p = wrote_text o ended old new wrote n written h k a w
tells_by (Failed c) y wr o old new wrote n written h k a w p = wrote_text o (failed c) old new wrote n written h k a w
tells_by Unended y wr o old new wrote n written h k a w p = wrote_first o old new wrote n y.held y.late written h k a w.first
tells_by WriteFault y wr o old new wrote n written h k a w p = prefix_trans p (prefix_text wrote o.list (part_of o wrote (end_by WriteFault wr) a))

-- a sink of lines sees its input end as it does, and all that came was to be written
each_took : (wr : Writes) (n : ℕ) (k : Option Tree) (s : EndState) (l : List Tree) (e : End) (w : List Tree) → wr ≡ Each → WritesOf wr n k s l e w → (w ≡ l) × (s ≢ WriteFault → e ≡ end_seen s)
each_took Each n k Unended l e w is h = (h.0, λ _. h.1)
each_took Each n k Ended l e w is h = (h.0, λ _. h.1)
each_took Each n k (Failed c) l e w is h = (h.0, λ _. h.1)
each_took Each n k WriteFault l e w is h = (h, λ no. absurd (no refl))
each_took First n k s l e w is h = cc
each_took Last n k s l e w is h = cc

module _ {D : Type 0} (state : D → DrainState) (first now : Sink D) (v : View) (took gave : List (List Item)) (law : SinkLaw state first now v took gave) (o : Outlook) where
  -- what came to a sink of lines
  pub sink_each : now.writes ≡ Each → (law.wrote ≡ law.elems) × (now.end ≢ WriteFault → law.in_end ≡ end_seen now.end)
  sink_each is = each_took now.writes now.node now.kept now.end law.elems law.in_end law.wrote is law.writes

  pub sink_took : now.writes ≡ Each → Agrees o law.elems law.in_end → TookList o now.end took
  sink_took is a = record { list = law.elems; seen = law.in_end; is = law.took_is; agrees = a; ends = (sink_each is).1 }

  pub sink_tells : Agrees o law.wrote (end_by now.end now.writes) → (written : List ℕ) → (state first.drain).holds ≡ Some [] → (state now.drain).holds ≡ Some written → SinkTells o now.end written
  sink_tells a written h k =
      tells_by now.end now.gather now.writes o (state first.drain) (state now.drain) law.wrote now.count written h k a law.stands (has_lines state first now v took gave written law h k).1
