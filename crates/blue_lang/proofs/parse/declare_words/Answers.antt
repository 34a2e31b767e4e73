-- The goals of `parse::declare_words` that the search leaves.
use Rattle.std.proofs.Common.{◌≡◌, Bool, false, Ok, Err, Some, sym, ap, ◌∙◌}
use Rattle.std.specs.Prelude.{is_some}
use Rattle.blue_words.specs.Reading.{at_map}
use Rattle.blue_lang.specs.Declarations.{is_misplaced}
use Rattle.blue_lang.specs.Plain.{plain_declaration}
use Rattle.blue_lang.specs.Progress.{sofar}
use Rattle.blue_lang.proofs.Wording.{fault_of_words, words_declare, on_ok_both}
use Rattle.blue_lang.proofs.parse.declare_words.Goals as goal

pub returns-in-Ok-Ok-clause-ok : goal.returns-in-Ok-Ok-clause-ok
returns-in-Ok-Ok-clause-ok c =
    let s = sofar c.args.progress.now in
    let w = c.in-Some.word.now in
    let stands : is_misplaced (is_some s.opened) s.defaulted w ≡ false = ap (λ (b : Bool). is_misplaced b s.defaulted w) (sym c.is_inside.ensures) ∙ (sym c.is_misplaced.ensures ∙ c.if-is_misplaced.false) in
    let reads = ap (at_map plain_declaration) (sym c.in-Ok-Ok.field-0-is) ∙ c.in-Ok-Ok.ensures in
    on_ok_both c.declare_one.result c.declare_one.ensures.room c.declare_one.ensures.adds (words_declare c.args.version s _ c.args.words.now w _ c.in-Some.ensures.value stands (plain_declaration c.in-Ok-Ok.declaration) reads)

pub returns-in-Ok-Ok-clause-fault : goal.returns-in-Ok-Ok-clause-fault
returns-in-Ok-Ok-clause-fault c = λ k e.
    let s = sofar c.args.progress.now in
    let w = c.in-Some.word.now in
    let stands : is_misplaced (is_some s.opened) s.defaulted w ≡ false = ap (λ (b : Bool). is_misplaced b s.defaulted w) (sym c.is_inside.ensures) ∙ (sym c.is_misplaced.ensures ∙ c.if-is_misplaced.false) in
    let reads = ap (at_map plain_declaration) (sym c.in-Ok-Ok.field-0-is) ∙ c.in-Ok-Ok.ensures in
    fault_of_words c.args.version s c.args.words.now w _ c.in-Some.ensures.value stands (Ok (plain_declaration c.in-Ok-Ok.declaration)) reads ∙ c.declare_one.ensures.fault k e

pub returns-in-Ok-Err-clause-fault : goal.returns-in-Ok-Err-clause-fault
returns-in-Ok-Err-clause-fault c = λ k e.
    let s = sofar c.args.progress.now in
    let w = c.in-Some.word.now in
    let stands : is_misplaced (is_some s.opened) s.defaulted w ≡ false = ap (λ (b : Bool). is_misplaced b s.defaulted w) (sym c.is_inside.ensures) ∙ (sym c.is_misplaced.ensures ∙ c.if-is_misplaced.false) in
    let reads = ap (at_map plain_declaration) (sym c.in-Ok-Err.field-0-is) ∙ c.in-Ok-Err.ensures in
    let same : c.in-Ok-Err.kind ≡ k = cc in
    fault_of_words c.args.version s c.args.words.now w _ c.in-Some.ensures.value stands (Err c.in-Ok-Err.kind) reads ∙ ap Some same
