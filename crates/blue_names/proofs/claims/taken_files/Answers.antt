-- The goal of `claims::taken_files` that the search leaves.
use Rattle.std.proofs.Common.{◌≡◌, ◌∙◌, ℕ, ◌+◌, List, [], ◌∷◌, ◌++◌, map, take, ap, sym, subst}
use Rattle.std.proofs.lemmas.List.{map_more}
use Rattle.blue_names.specs.Names.{Claim, opens}
use Rattle.blue_names.specs.Claims.{Knows}
use Rattle.blue_names.proofs.ClaimTables.{Knows-last}
use Rattle.blue_names.proofs.claims.taken_files.Goals as goal

pub loop-file-preserved : goal.loop-file-preserved
loop-file-preserved c =
    let i = c.loop-file.file-index in
    let x = c.file-item.result in
    let files = c.args.files.now in
    let more : map opens (take (i + 1) files) ≡ map opens (take i files) ++ opens x ∷ [] =
    map_more opens files i x c.loop-file-test.true ∙ ap (λ (l : List ℕ). map opens (take i files) ++ opens l ∷ []) (sym c.file-item.is) in
    subst (λ (l : List Claim). Knows c.take.new.self.names c.take.new.self.files c.take.new.self.customs l) (sym more)
    (Knows-last c.take.new.self.names c.take.new.self.files c.take.new.self.customs (map opens (take i files)) (opens x) (c.in_ok-take.ensures.taken (map opens (take i files)) c.loop-file.invariant))
