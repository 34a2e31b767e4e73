-- What a text says, and that it is one thing.
use Rattle.std.proofs.Common.{◌≡◌, ℕ, Bool, true, false, cond, List, [], ◌∷◌, ◌++◌, Option, Some, None, Ok, MatchOption, refl, sym, ap, ◌∙◌, append-nil, arith}
use Rattle.elem_core.specs.Text.{lines}
use Rattle.elem_core.specs.declared.why.Decider.{Decider}
use Rattle.stream_model.specs.declared.kind.Kind.{Kind}
use Rattle.blue_modules.specs.declared.text.StepText.{StepText}
use Rattle.blue_modules.specs.Text.{PlainText}
use Rattle.blue_words.specs.declared.fault.BlueFault.{BlueFault}
use Rattle.blue_words.specs.declared.fault.Version.{Version}
use Rattle.blue_words.specs.declared.fault.Version.TheVariants.{Second}
use Rattle.blue_words.specs.Reading.{At, then_read}
use Rattle.blue_kinds.specs.Kinds.{stage_kind, stage_in, is_later, may_decide, decider_of}
use Rattle.blue_kinds.specs.Steps.{read_chain}
use Rattle.blue_lang.specs.Kinds.{kind_words, decider_words}
use Rattle.blue_lang.specs.Texts.{Says, text_of, declarations, text_fault}
use Rattle.blue_lang.specs.Canonical.{steps_words}
use Rattle.blue_lang.specs.Declarations.{read_decided}
use Rattle.blue_lang.specs.Spelling.{AllWords}
use Rattle.blue_lang.proofs.Respelling.{Words}
use Rattle.blue_lang.proofs.KindTables.{stage_tabled}
use Rattle.blue_lang.proofs.Deciding.{deciding, deciding_kept, chain_kept}

pub one_text : (text : List ℕ) (s t : PlainText) → Says text s → Says text t → s ≡ t
one_text text s t x y = sym x.declared ∙ y.declared

by_fault : (text : List ℕ) (o : Option BlueFault) → text_fault text ≡ o → MatchOption o (Says text (text_of (declarations (lines text)))) (λ f. (t : PlainText) → Says text t → ⊥)
by_fault text None e = record { faultless = e; declared = refl }
by_fault text (Some f) e = λ t s. let c : ◌≡◌ {A = Option BlueFault} (Some f) None = sym e ∙ s.faultless in absurd (let k : ⊥ = cc in k)

pub says_or_fault : (text : List ℕ) → MatchOption (text_fault text) (Says text (text_of (declarations (lines text)))) (λ f. (t : PlainText) → Says text t → ⊥)
says_or_fault text = by_fault text (text_fault text) refl

-- what is read in a text of some version is of the table of kinds, which version 2 has whole
pub stage_of : (v : Version) (w : List ℕ) (ws : Words) (x : At Kind × Words) → stage_in v w ws ≡ Some x → stage_kind w ws ≡ Some x
stage_of v w ws x h = by (is_later v w) h
  where
    by : (b : Bool) → cond b None (stage_kind w ws) ≡ Some x → stage_kind w ws ≡ Some x
    by true e = absurd (let c : ⊥ = cc in c)
    by false e = e

decided_in : (v : Version) (b : Bool) (w : List ℕ) (ws : Words) (x : At (Kind × Option Decider) × Words) → then_read (cond b None (stage_kind w ws)) (decider_of v (may_decide w)) ≡ Some x → then_read (stage_kind w ws) (decider_of v (may_decide w)) ≡ Some x
decided_in v true w ws x e = absurd (let c : ⊥ = cc in c)
decided_in v false w ws x e = e

pub decided_of : (v : Version) (ws : Words) (x : At (Kind × Option Decider) × Words) → read_decided v ws ≡ Some x → deciding v stage_kind ws ≡ Some x
decided_of v [] x h = absurd (let c : ⊥ = cc in c)
decided_of v (w ∷ ws) x h = decided_in v (is_later v w) w ws x h

pub decided_is : (ws : Words) → read_decided Second ws ≡ deciding Second stage_kind ws
decided_is [] = refl
decided_is (w ∷ ws) = refl

pub kind_again : (v : Version) (ws rest : Words) (kind : Kind) (decider : Option Decider) → AllWords ws → read_decided v ws ≡ Some (Ok (kind, decider), rest) → read_decided Second (kind_words kind ++ decider_words decider) ≡ Some (Ok (kind, decider), [])
kind_again v ws rest kind decider a h =
    let k = deciding_kept v stage_kind stage_tabled ws rest (kind, decider) (decided_of v ws (Ok (kind, decider), rest) h) a in
    decided_is (kind_words kind ++ decider_words decider) ∙ (ap (deciding Second stage_kind) (sym (append-nil (kind_words kind ++ decider_words decider))) ∙ k.again [] refl)

pub chain_again : (v : Version) (ws rest : Words) (ss : List StepText) → AllWords ws → read_chain v ws ≡ Some (Ok ss, rest) → read_chain Second (steps_words ss) ≡ Some (Ok ss, [])
chain_again v ws rest ss a h = (chain_kept v ws rest ss h a).again _ (omega arith)
