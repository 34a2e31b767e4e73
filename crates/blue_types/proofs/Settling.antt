-- Rounds until one fixes nothing.
use Rattle.std.proofs.Common.{◌≡◌, ℕ, zero, suc, ◌+◌, ◌<◌, ◌≤◌, true, false, List, [], ◌∷◌, ◌++◌, length, map, take, drop, Option, Some, None, refl, ap, sym, ◌∙◌, subst, ⊎_elim, arith}
use Rattle.std.specs.Prelude.{slice_get}
use Rattle.std.specs.Option.{option_or}
use Rattle.std.proofs.lemmas.Bool.{cases_lt, cases_Bool, both_ways}
use Rattle.std.proofs.lemmas.Grind.{common_steps}
use mathlib.Core.Path.{fun_ext}
use Rattle.elem_core.specs.Sort.{Sort}
use Rattle.stream_model.specs.declared.blueprint.Node.{Node}
use Rattle.blue_names.specs.Rounds.{before, next, rounds, settled, source_at, attempt_at, fixes}
use Rattle.blue_names.specs.StageTypes.{source_type}
use Rattle.blue_names.specs.Links.{wires_of_links}
use Rattle.blue_types.specs.declared.library.Library.{Library}
use Rattle.blue_types.specs.declared.net.Net.{Net}
use Rattle.blue_types.specs.Net.{type_at}
use Rattle.blue_names.specs.Members.{is_in}
use Rattle.blue_types.specs.News.{RestsOn}
use Rattle.blue_types.specs.Would.{would}

-- the types of the sources, as a list
pub type_at-sources : (nodes : List Node) (i : ℕ) → type_at (map (λ n. source_type n.kind) nodes) i ≡ source_at (slice_get nodes i)
type_at-sources [] i = refl
type_at-sources (n ∷ ns) zero = refl
type_at-sources (n ∷ ns) (suc i) = type_at-sources ns i

module _ (l : Library) (n : Net) where
  -- so many rounds over a net
  abbrev pub rounds_of : ℕ → ℕ → Option Sort
  rounds_of k = rounds l.heads.now l.chains.now n.nodes.now (wires_of_links n.links.now) k

  -- these types are those after k rounds, and only nodes in the list have anything to fix
  pub record Settles (types : List (Option Sort)) (front : List ℕ) (k : ℕ) : Type 0 where
    pub so_far : (i : ℕ) → type_at types i ≡ rounds_of k i
    pub rests : RestsOn (type_at types) (would l n (type_at types)) front
    pub count : length types ≡ length n.nodes.now

  pub Settles-first : (types : List (Option Sort)) (front : List ℕ) → ((i : ℕ) → type_at types i ≡ source_at (slice_get n.nodes.now i)) → length types ≡ length n.nodes.now
      → ((i : ℕ) → i < length n.nodes.now → is_in i front ≡ true) → Settles types front 0
  Settles-first types front sources count all = record {
    so_far = sources;
    rests = record {
      others = λ i none out.
          ⊎_elim (λ lt. absurd (both_ways (is_in i front) out (all i lt))) (λ le. past i le) (cases_lt i (length n.nodes.now));
    };
    count = count;
  }
    where
      past_end : (xs : List Node) (i : ℕ) → length xs ≤ i → slice_get xs i ≡ None
      past_end [] i h = refl
      past_end (x ∷ xs) zero h = absurd (omega arith)
      past_end (x ∷ xs) (suc i) h = past_end xs i (omega arith)

      past : (i : ℕ) → length n.nodes.now ≤ i → would l n (type_at types) i ≡ None
      past i le = ap (λ o. fixes (attempt_at l.heads.now l.chains.now n.nodes.now (wires_of_links n.links.now) (type_at types) i o)) (past_end n.nodes.now i le)

  pub Settles-next : (types new : List (Option Sort)) (front later : List ℕ) (k : ℕ) → Settles types front k → length new ≡ length types
      → ((i : ℕ) → type_at new i ≡ option_or (type_at types i) (would l n (type_at types) i)) → RestsOn (type_at new) (would l n (type_at new)) later → Settles new later (k + 1)
  Settles-next types new front later k s count step rests =
      let one : k + 1 ≡ suc k = omega arith in
      record {
        so_far = λ i. step i ∙ ap (λ (t : ℕ → Option Sort). option_or (t i) (would l n t i)) (fun_ext s.so_far) ∙ ap (λ m. rounds_of m i) (sym one);
        rests = rests;
        count = count ∙ s.count;
      }

  module _ (types : List (Option Sort)) (k : ℕ) (s : Settles types [] k) where
    same_round : (o : Option Sort) (i : ℕ) → type_at types i ≡ o → option_or o (would l n (type_at types) i) ≡ o
    same_round None i e = s.rests.others i e refl
    same_round (Some t) i e = refl

    again : (i : ℕ) → option_or (type_at types i) (would l n (type_at types) i) ≡ type_at types i
    again i = same_round (type_at types i) i refl

    -- a round that has nothing to fix changes nothing, and nor do those behind it
    stays : (m : ℕ) → k ≤ m → rounds_of m ≡ type_at types
    stays zero le = let e : zero ≡ k = omega arith in ap rounds_of e ∙ fun_ext (λ i. sym (s.so_far i))
    stays (suc m) le =
        ⊎_elim
        (λ (lt : m < k). let e : suc m ≡ k = omega arith in ap rounds_of e ∙ fun_ext (λ i. sym (s.so_far i)))
        (λ (more : k ≤ m). let step : (ℕ → Option Sort) → ℕ → Option Sort = λ t i. option_or (t i) (would l n t i) in ap step (stays m more) ∙ fun_ext again)
        (cases_lt m k)

    pub Settles-early : k ≤ length n.nodes.now → (i : ℕ) → type_at types i ≡ rounds_of (length n.nodes.now) i
    Settles-early le i = let at_i : (ℕ → Option Sort) → Option Sort = λ t. t i in ap at_i (sym (stays (length n.nodes.now) le))

-- a slice of a whole vector, written back
pub written_back : {X : Type 0} (old new : List X) (n : ℕ) → n ≡ length old → length new ≡ length old → take n (new ++ drop (length new) old) ≡ new
written_back old new n e h = grind (arith, common_steps)
