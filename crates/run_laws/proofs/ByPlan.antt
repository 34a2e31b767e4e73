-- What a stage that may follow moves tells of a picture: one that follows none tells what its kind does, and one that follows some what
-- `Led` has.
use Rattle.std.proofs.Common.{◌≡◌, ◌∙◌, ℕ, List, Option, None, Some, refl}
use Rattle.stream_model.specs.Graph.{Graph}
use Rattle.stream_model.specs.Graph as graph
use Rattle.stream_model.specs.Node.{World}
use Rattle.stage_in.specs.declared.logic.InLogic.{InLogic}
use Rattle.stage_in.specs.Logics as fan_in
use Rattle.stage_in.specs.Logics.{InAsking, InPortState, InLaw}
use Rattle.stage_in.specs.Moves as in_moves_of
use Rattle.stage_in.specs.Moves.{in_moves, in_plan}
use Rattle.stage_out.specs.declared.logic.OutLogic.{OutLogic}
use Rattle.stage_out.specs.OutLogics as fan_out
use Rattle.stage_out.specs.OutLogics.{port_state, OutAsking, OutLaw}
use Rattle.stage_out.specs.Moves as out_moves_of
use Rattle.stage_out.specs.Moves.{out_moves, out_plan}
use Rattle.run_laws.specs.KindLaws.{PictureLawsBy}
use Rattle.run_laws.specs.Ports.{InPort, OutPort, views_of, gots_of, sents_of}
use Rattle.run_laws.specs.Replayed.{Plans}
use Rattle.run_laws.specs.Unmoved.{never_ends}
use Rattle.run_laws.proofs.Freely.{freely}
use Rattle.run_laws.proofs.InPictures.{in_picture}
use Rattle.run_laws.proofs.OutStages.{out_picture}
use Rattle.run_laws.proofs.Led.{led_in, led_out}

module _ (g : Graph) (w : World) (plans : Plans) (k : ℕ) (n : graph.Node) where
  pub in_by_plan : (first now : InLogic) (is : List InPort) (os : List OutPort) → fan_in.Begins k n.kind n.decider first → in_moves_of.TellsMoves w k now → plans k ≡ in_plan first → InPortState now (views_of is os)
      → InLaw first now (views_of is os) (gots_of is) (sents_of os) → PictureLawsBy InPortState InLaw InAsking in_moves never_ends g w plans k n first now is os
  in_by_plan first now is os b tells follows r law = by (in_plan first) refl
    where
      by : (plan : Option (List ℕ)) → in_plan first ≡ plan → PictureLawsBy InPortState InLaw InAsking in_moves never_ends g w plans k n first now is os
      by None e = freely g w plans k (follows ∙ e) InPortState InLaw InAsking in_moves never_ends n first now is os (in_picture g w k n first now is os b e tells r law)
      by (Some plan) e = led_in g w plans k n first now is os plan (follows ∙ e) b e tells r law

  pub out_by_plan : (first now : OutLogic) (is : List InPort) (os : List OutPort) → fan_out.Begins k n.kind first → out_moves_of.TellsMoves w k now → plans k ≡ out_plan first → port_state now (views_of is os)
      → OutLaw first now (views_of is os) (gots_of is) (sents_of os) → PictureLawsBy port_state OutLaw OutAsking out_moves never_ends g w plans k n first now is os
  out_by_plan first now is os b tells follows r law = by (out_plan first) refl
    where
      by : (plan : Option (List ℕ)) → out_plan first ≡ plan → PictureLawsBy port_state OutLaw OutAsking out_moves never_ends g w plans k n first now is os
      by None e = freely g w plans k (follows ∙ e) port_state OutLaw OutAsking out_moves never_ends n first now is os (out_picture g w k n first now is os b e tells r law)
      by (Some plan) e = led_out g w plans k n first now is os plan (follows ∙ e) b e tells r law
