-- The list and the end of a history, and what they have to do with a history that begins it.
use Rattle.std.proofs.Common.{◌≡◌, List, [], ◌∷◌, ◌++◌, refl, sym, ap, subst, ◌∙◌, append-nil}
use Rattle.elem_core.specs.Prefix.{IsPrefix}
use Rattle.elem_core.specs.Tree.{Tree}
use Rattle.elem_core.proofs.Prefixes.{prefix_refl, prefix_append}
use Rattle.elem_core.specs.declared.item.Item.{Item}
use Rattle.elem_core.specs.declared.why.Cause.{Cause}
use Rattle.elem_core.specs.declared.item.Item.TheVariants as item
use Rattle.port_core.specs.Wire.{JointPorts, end_item}
use Rattle.port_core.specs.Joint.{Joint, idle, asking, asked, moving, ending, closing, leaving, finished, parted, cancelled, Histories, under_way, IsSound}
use Rattle.stream_model.specs.Outlook.{End, unended, ended, failed}
use Rattle.stage_core.specs.Held.{told}
use Rattle.run_laws.specs.Items.{list_of, end_of_items}

-- of a list that was told, whatever stands behind its end
list_told_ended : (l : List Tree) (r : List Item) → list_of (told l ended ++ r) ≡ l
list_told_ended [] r = refl
list_told_ended (t ∷ l) r = ap (λ (x : List Tree). t ∷ x) (list_told_ended l r)

list_told_failed : (l : List Tree) (c : Cause) (r : List Item) → list_of (told l (failed c) ++ r) ≡ l
list_told_failed [] c r = refl
list_told_failed (t ∷ l) c r = ap (λ (x : List Tree). t ∷ x) (list_told_failed l c r)

list_told_open : (l : List Tree) (r : List Item) → list_of (told l unended ++ r) ≡ l ++ list_of r
list_told_open [] r = refl
list_told_open (t ∷ l) r = ap (λ (x : List Tree). t ∷ x) (list_told_open l r)

standing_ended : (l : List Tree) (r : List Item) → end_of_items (told l ended ++ r) ≡ ended
standing_ended [] r = refl
standing_ended (t ∷ l) r = standing_ended l r

standing_failed : (l : List Tree) (c : Cause) (r : List Item) → end_of_items (told l (failed c) ++ r) ≡ failed c
standing_failed [] c r = refl
standing_failed (t ∷ l) c r = standing_failed l c r

-- of a list that was told
pub list_of_told : (l : List Tree) (e : End) → list_of (told l e) ≡ l
list_of_told [] unended = refl
list_of_told [] ended = refl
list_of_told [] (failed c) = refl
list_of_told (t ∷ l) e = ap (λ (x : List Tree). t ∷ x) (list_of_told l e)

pub standing_told : (l : List Tree) (e : End) → end_of_items (told l e) ≡ e
standing_told [] unended = refl
standing_told [] ended = refl
standing_told [] (failed c) = refl
standing_told (t ∷ l) e = standing_told l e

-- what the input of a wire got is a first part of what was sent
begins_at : (j : Joint) (s g : List Item) → Histories j s g → IsPrefix g s
begins_at idle s g h = record { rest = []; is = h ∙ sym (append-nil g) }
begins_at asking s g h = record { rest = []; is = h ∙ sym (append-nil g) }
begins_at asked s g h = record { rest = []; is = h ∙ sym (append-nil g) }
begins_at (moving e) s g h = record { rest = item.Elem e ∷ []; is = h }
begins_at (ending c) s g h = record { rest = end_item c ∷ []; is = h }
begins_at (closing t c) s g h = record { rest = under_way t ++ end_item c ∷ []; is = h }
begins_at (leaving a t) s g h = record { rest = h.0; is = h.1 }
begins_at (finished t c) s g h = record { rest = []; is = h ∙ sym (append-nil g) }
begins_at (parted t c) s g h = record { rest = h.0; is = h.1 }
begins_at (cancelled t c) s g h = record { rest = h.0; is = h.1 }

pub got_begins : (w : JointPorts) (q : _) → IsSound w q → IsPrefix w.got w.sent
got_begins w q h = begins_at h.joint w.sent w.got h.histories

-- what a history that begins another tells of it
pub record Begun (l : List Tree) (e : End) (s : List Item) : Type 0 where
  pub part : IsPrefix l (list_of s)
  pub ended_all : e ≡ ended → (list_of s ≡ l) × (end_of_items s ≡ ended)
  pub failed_all : (c : Cause) → e ≡ failed c → (list_of s ≡ l) × (end_of_items s ≡ failed c)

begun_by : (l : List Tree) (e : End) (r : List Item) → Begun l e (told l e ++ r)
begun_by l unended r = record { part = rw (list_told_open l r) (prefix_append l (list_of r)); ended_all = λ x. absurd cc; failed_all = λ c x. absurd cc }
begun_by l ended r = record { part = rw (list_told_ended l r) (prefix_refl l); ended_all = λ x. (list_told_ended l r, standing_ended l r); failed_all = λ c x. absurd cc }
begun_by l (failed d) r = record { part = rw (list_told_failed l d r) (prefix_refl l); ended_all = λ x. absurd cc; failed_all = λ c x. (list_told_failed l d r, standing_failed l d r ∙ x) }

pub begun : (l : List Tree) (e : End) (h s : List Item) → h ≡ told l e → IsPrefix h s → Begun l e s
begun l e h s is p = let all : s ≡ told l e ++ p.rest = p.is ∙ ap (λ (x : List Item). x ++ p.rest) is in subst (λ (x : List Item). Begun l e x) (sym all) (begun_by l e p.rest)
