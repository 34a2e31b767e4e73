-- The rows of a lawful picture of a stage with several outputs, by the moment of its last ask.
use Rattle.std.specs.Prelude.{slice_get, slice_index_or, max, if◌then◌else◌, None, ⊤}
use Rattle.std.proofs.Common.{◌≡◌, ℕ, zero, suc, ◌+◌, ◌≤◌, ◌⊎◌, inl, inr, Bool, true, false, List, [], ◌∷◌, ◌++◌, map, length, Some, refl, sym, ap, subst, ◌∙◌, arith, append-nil}
use Rattle.elem_core.specs.Prefix.{IsPrefix}
use Rattle.elem_core.proofs.Prefixes.{prefix_length}
use Rattle.elem_core.specs.Tree.{Tree}
use Rattle.elem_core.specs.Items.{elements}
use Rattle.elem_core.specs.declared.function.MapFn.{MapFn}
use Rattle.elem_core.specs.declared.item.Item.{Item}
use Rattle.port_core.specs.View.{View, in_at, out_at}
use Rattle.port_core.specs.declared.view.InView.TheVariants.{Pulled}
use Rattle.port_core.specs.declared.view.OutView.TheVariants.{Available, Closed}
use Rattle.stream_model.specs.Outlook.{End, unended}
use Rattle.stream_model.specs.Machine.{going, is_going, Run, run}
use Rattle.stream_model.specs.Linear.{Book, Stage}
use Rattle.stream_model.proofs.MachineLaws.{gave_prefix}
use Rattle.stream_model.specs.View as picture
use Rattle.stream_model.specs.View.{EachWire, wanted, total}
use Rattle.stream_model.specs.Lawful.{most_wanted}
use Rattle.stream_model.specs.Rests.{IsShut}
use Rattle.stage_core.specs.Held.{told, owing}
use Rattle.stage_core.specs.Law.{TookAs, ends_by, Law}
use Rattle.stage_core.specs.Outs.{owe}
use Rattle.stage_core.specs.Row.{OutClosed}
use Rattle.stage_core.specs.declared.outs.OutputState.{OutputState}
use Rattle.stage_core.specs.declared.outs.OutputState.TheVariants.{Quiet, Asks, Gone}
use Rattle.stage_core.specs.OpenOuts.{want_view, open_count, asks_count}
use Rattle.stage_out.specs.Copies.{quiet_count}
use Rattle.stage_out.specs.Machines.{number_starts}
use Rattle.stage_out.specs.OwnRows.{Even}
use Rattle.stage_out.specs.PartitionStates.{PartitionLogic, stage_of, state_of, held_of, dues, held_for}
use Rattle.stage_out.proofs.Rests.{told_lists}
use Rattle.run_laws.specs.Account.{AllBegin}
use Rattle.run_laws.specs.Ports.{OutPort, EachPort, OutStands, sents_of}
use Rattle.run_laws.proofs.Coming.{elements_told, elements_prefix}
use Rattle.run_laws.proofs.Numberings.{machine, start, count_all}
use Rattle.run_laws.proofs.OutLists.{OutsList}

abbrev pub OutWires : List OutPort → List picture.SeenWire
OutWires os = map (λ (o : OutPort). o.wire) os

abbrev pub OutWants : List OutPort → List ℕ
OutWants os = map (λ (o : OutPort). o.want) os

abbrev pub Shuts : List OutPort → List Bool
Shuts os = map (λ (o : OutPort). o.wire.shut) os

-- what the moment of an ask tells of outputs of which it knew this: what is wanted of those that had asked, and that those that were closed are shut
abbrev pub WantedOn : List OutputState → List (List Item) → List OutPort → Type 0
WantedOn ws hs os = (j : ℕ) → slice_index_or (map want_view ws) j Closed ≡ Available → elements (slice_index_or hs j []) + 1 ≤ slice_index_or (OutWants os) j 0

abbrev pub ShutOn : List OutputState → List OutPort → Type 0
ShutOn ws os = (j : ℕ) → OutClosed (slice_index_or (map want_view ws) j Closed) → slice_index_or (Shuts os) j true ≡ true

-- ---- a broadcast or an unzip

-- each open output was given n elements
abbrev pub EvenList : List OutputState → ℕ → List (List Item) → Type 0
EvenList [] n [] = ⊤
EvenList (Quiet ∷ ws) n (h ∷ hs) = (elements h ≡ n) × EvenList ws n hs
EvenList (Asks ∷ ws) n (h ∷ hs) = (elements h ≡ n) × EvenList ws n hs
EvenList (Gone ∷ ws) n (h ∷ hs) = EvenList ws n hs
EvenList _ n _ = ⊥

pub even_list : (ws : List OutputState) (l : List Tree) (gs : List (List Tree)) (hs : List (List Item)) → Even ws l gs → ((i : ℕ) (g : List Tree) → slice_get gs i ≡ Some g → (e : End) × (slice_index_or hs i [] ≡ told g e)) → length hs ≡ length ws → EvenList ws (length l) hs
even_list [] l [] [] e t n = tt
even_list [] l [] (h ∷ hs) e t n = absurd (omega (arith, n))
even_list [] l (g ∷ gs) hs e t n = absurd e
even_list (w ∷ ws) l gs [] e t n = absurd (omega (arith, n))
even_list (Quiet ∷ ws) l [] (h ∷ hs) e t n = absurd e
even_list (Asks ∷ ws) l [] (h ∷ hs) e t n = absurd e
even_list (Gone ∷ ws) l [] (h ∷ hs) e t n = absurd e
even_list (Quiet ∷ ws) l (g ∷ gs) (h ∷ hs) e t n = let r = t 0 g refl in (ap elements r.1 ∙ (elements_told g r.0 ∙ e.0), even_list ws l gs hs e.1 (λ i k at. t (suc i) k at) (omega (arith, n)))
even_list (Asks ∷ ws) l (g ∷ gs) (h ∷ hs) e t n = let r = t 0 g refl in (ap elements r.1 ∙ (elements_told g r.0 ∙ e.0), even_list ws l gs hs e.1 (λ i k at. t (suc i) k at) (omega (arith, n)))
even_list (Gone ∷ ws) l (g ∷ gs) (h ∷ hs) e t n = even_list ws l gs hs e (λ i k at. t (suc i) k at) (omega (arith, n))

-- no more is asked for than each open output wants
pub copies_asked : (ws : List OutputState) (n d : ℕ) (hs : List (List Item)) (os : List OutPort) → EvenList ws n hs → WantedOn ws hs os → ShutOn ws os → quiet_count ws ≡ 0 → d ≤ n + 1 → length hs ≡ length os → EachPort OutStands os
    → EachWire (λ o. IsShut o ⊎ (d ≤ wanted o)) (OutWires os)
copies_asked ws n d hs [] e wants shut q few l s = tt
copies_asked [] n d [] (o ∷ os) e wants shut q few l s = absurd (omega (arith, l))
copies_asked [] n d (h ∷ hs) (o ∷ os) e wants shut q few l s = absurd e
copies_asked (w ∷ ws) n d [] (o ∷ os) e wants shut q few l s = absurd (omega (arith, l))
copies_asked (Quiet ∷ ws) n d (h ∷ hs) (o ∷ os) e wants shut q few l s = absurd (omega (arith, q))
copies_asked (Asks ∷ ws) n d (h ∷ hs) (o ∷ os) e wants shut q few l s =
    let want = wants 0 refl in
    let on = s.0.wants in
    let had = e.0 in
    (inr (omega (arith, want, on, had, few)), copies_asked ws n d hs os e.1 (λ j a. wants (suc j) a) (λ j a. shut (suc j) a) q few (omega (arith, l)) s.1)
copies_asked (Gone ∷ ws) n d (h ∷ hs) (o ∷ os) e wants shut q few l s = (inl (shut 0 tt), copies_asked ws n d hs os e (λ j a. wants (suc j) a) (λ j a. shut (suc j) a) q few (omega (arith, l)) s.1)

more_left : (a b d : ℕ) → d ≤ a → d ≤ max a b
more_left a b d h = omega (arith, h)

more_right : (a b d : ℕ) → d ≤ b → d ≤ max a b
more_right a b d h = omega (arith, h)

-- and no more than some output wants
pub copies_most : (ws : List OutputState) (n d : ℕ) (hs : List (List Item)) (os : List OutPort) → EvenList ws n hs → WantedOn ws hs os → quiet_count ws ≡ 0 → 1 ≤ open_count ws → d ≤ n + 1 → length hs ≡ length os → EachPort OutStands os → d ≤ most_wanted (OutWires os)
copies_most [] n d hs os e wants q some few l s = absurd (omega (arith, some))
copies_most (Quiet ∷ ws) n d hs os e wants q some few l s = absurd (omega (arith, q))
copies_most (Asks ∷ ws) n d [] os e wants q some few l s = absurd e
copies_most (Gone ∷ ws) n d [] os e wants q some few l s = absurd e
copies_most (Asks ∷ ws) n d (h ∷ hs) [] e wants q some few l s = absurd (omega (arith, l))
copies_most (Gone ∷ ws) n d (h ∷ hs) [] e wants q some few l s = absurd (omega (arith, l))
copies_most (Asks ∷ ws) n d (h ∷ hs) (o ∷ os) e wants q some few l s =
    let want = wants 0 refl in
    let on = s.0.wants in
    let had = e.0 in
    more_left (wanted o.wire) (most_wanted (OutWires os)) d (omega (arith, want, on, had, few))
copies_most (Gone ∷ ws) n d (h ∷ hs) (o ∷ os) e wants q some few l s = more_right (wanted o.wire) (most_wanted (OutWires os)) d (copies_most ws n d hs os e (λ j a. wants (suc j) a) q some few (omega (arith, l)) s.1)

-- where nothing is asked for
pub none_asked : (os : List OutPort) (d : ℕ) → d ≡ 0 → EachWire (λ o. IsShut o ⊎ (d ≤ wanted o)) (OutWires os)
none_asked [] d z = tt
none_asked (o ∷ os) d z = (inr (omega (arith, z)), none_asked os d z)

-- ---- a partition

open_end : (e : End) → TookAs Pulled e → e ≡ unended
open_end e h = h

module _ (book : Book) (node n : ℕ) (f : MapFn) where
  abbrev ran : ℕ → List Tree → Run Stage Tree
  ran j l = run (machine book node n f j) (start book node n f j) l

  -- each open output from number q on was given all its elements of a list, and has not failed
  abbrev pub AllDealt : List Tree → ℕ → List OutputState → List (List Item) → Type 0
  AllDealt l q [] [] = ⊤
  AllDealt l q (Quiet ∷ ws) (h ∷ hs) = ((elements h ≡ length (ran q l).gave) × (is_going (ran q l).state ≡ true)) × AllDealt l (q + 1) ws hs
  AllDealt l q (Asks ∷ ws) (h ∷ hs) = ((elements h ≡ length (ran q l).gave) × (is_going (ran q l).state ≡ true)) × AllDealt l (q + 1) ws hs
  AllDealt l q (Gone ∷ ws) (h ∷ hs) = AllDealt l (q + 1) ws hs
  AllDealt l q _ _ = ⊥

  module _ (x : PartitionLogic) (none : x.held ≡ None) (lasts : x.over ≡ false) (v : View) (waits : in_at v 0 ≡ Pulled) (took : List Item) (l : List Tree) (e : End) (is : took ≡ told l e) where
    dealt_one : (q : ℕ) (h : List Item) → (law : Law (machine book node n f q) (start book node n f q) (owing (record { gave = held_for q x.to x.held; state = state_of x.over (stage_of x q) })) (in_at v 0) (out_at v q) took h)
        → (elements h ≡ length (ran q l).gave) × (is_going (ran q l).state ≡ true)
    dealt_one q h law =
        let same : law.in_list ≡ l = told_lists law.in_list l law.in_end e (sym law.took_is ∙ is) in
        let end : law.in_end ≡ unended = open_end law.in_end (subst (λ y. TookAs y law.in_end) waits law.took_as) in
        let now : ran q law.in_list ≡ record { gave = law.out_list ++ held_for q x.to x.held; state = state_of x.over (stage_of x q) } = ap (λ (d : End). ends_by (machine book node n f q) (ran q law.in_list) d) (sym end) ∙ law.keeps.1.0 in
        let still : ran q l ≡ record { gave = law.out_list ++ []; state = going (stage_of x q) } =
        ap (λ (k : List Tree). ran q k) (sym same) ∙ (now ∙ (ap (λ y. record { gave = law.out_list ++ held_for q x.to y; state = state_of x.over (stage_of x q) }) none ∙ ap (λ b. record { gave = law.out_list ++ []; state = state_of b (stage_of x q) }) lasts)) in (
          ap elements law.gave_is ∙ (elements_told law.out_list law.out_end ∙ (sym (ap length (append-nil law.out_list)) ∙ ap (λ (y : Run Stage Tree). length y.gave) (sym still))),
          ap (λ (y : Run Stage Tree). is_going y.state) still,
        )

    pub all_dealt : (q m : ℕ) (ws : List OutputState) (hs : List (List Item)) → length ws ≡ m → OutsList q (owe (number_starts book node n f q m) (dues (held_of x) q ws)) v took hs → AllDealt l q ws hs
    all_dealt q zero [] [] k law = tt
    all_dealt q zero [] (h ∷ hs) k law = absurd law
    all_dealt q zero (w ∷ ws) hs k law = absurd (omega (arith, k))
    all_dealt q (suc m) [] hs k law = absurd (omega (arith, k))
    all_dealt q (suc m) (w ∷ ws) [] k law = absurd law
    all_dealt q (suc m) (Quiet ∷ ws) (h ∷ hs) k law = (dealt_one q h law.0, all_dealt (q + 1) m ws hs (omega (arith, k)) law.1)
    all_dealt q (suc m) (Asks ∷ ws) (h ∷ hs) k law = (dealt_one q h law.0, all_dealt (q + 1) m ws hs (omega (arith, k)) law.1)
    all_dealt q (suc m) (Gone ∷ ws) (h ∷ hs) k law = all_dealt (q + 1) m ws hs (omega (arith, k)) law.1

  -- each output that is not shut was sent all its elements of what came before the last that is asked for
  abbrev pub DealtBefore : ℕ → List OutPort → List Tree → Type 0
  DealtBefore q [] k = ⊤
  DealtBefore q (o ∷ os) k = (IsShut o.wire ⊎ (length (ran q k).gave ≤ o.wire.sent)) × DealtBefore (q + 1) os k

  dealt_port : (q : ℕ) (l k : List Tree) (h : List Item) (o : OutPort) → elements h ≡ length (ran q l).gave → IsPrefix k l → IsPrefix h o.sent → OutStands o → length (ran q k).gave ≤ o.wire.sent
  dealt_port q l k h o e part begins s =
      let less = prefix_length (gave_prefix (machine book node n f q) (start book node n f q) part) in
      let more = elements_prefix h o.sent begins in
      let count = s.count in
      omega (arith, e, less, more, count)

  pub dealt_before : (l k : List Tree) (q : ℕ) (ws : List OutputState) (hs : List (List Item)) (os : List OutPort) → AllDealt l q ws hs → AllBegin hs (sents_of os) → ShutOn ws os → IsPrefix k l → EachPort OutStands os → DealtBefore q os k
  dealt_before l k q ws hs [] d b shut part s = tt
  dealt_before l k q ws [] (o ∷ os) d b shut part s = absurd b
  dealt_before l k q [] (h ∷ hs) (o ∷ os) d b shut part s = absurd d
  dealt_before l k q (Quiet ∷ ws) (h ∷ hs) (o ∷ os) d b shut part s = (inr (dealt_port q l k h o d.0.0 part b.0 s.0), dealt_before l k (q + 1) ws hs os d.1 b.1 (λ j a. shut (suc j) a) part s.1)
  dealt_before l k q (Asks ∷ ws) (h ∷ hs) (o ∷ os) d b shut part s = (inr (dealt_port q l k h o d.0.0 part b.0 s.0), dealt_before l k (q + 1) ws hs os d.1 b.1 (λ j a. shut (suc j) a) part s.1)
  dealt_before l k q (Gone ∷ ws) (h ∷ hs) (o ∷ os) d b shut part s = (inl (shut 0 tt), dealt_before l k (q + 1) ws hs os d b.1 (λ j a. shut (suc j) a) part s.1)

  -- where no output is shut
  abbrev NoneShut : List OutPort → Type 0
  NoneShut os = EachWire (λ o. o.shut ≡ false) (OutWires os)

  shut_not : {b : Bool} → b ≡ true → b ≡ false → ⊥
  shut_not a c = cc

  -- all are open
  pub all_open : (ws : List OutputState) (hs : List (List Item)) (os : List OutPort) → AllBegin hs (sents_of os) → length hs ≡ length ws → ShutOn ws os → NoneShut os → open_count ws ≡ length ws
  all_open [] hs os b l shut none = refl
  all_open (w ∷ ws) [] os b l shut none = absurd (omega (arith, l))
  all_open (w ∷ ws) (h ∷ hs) [] b l shut none = absurd b
  all_open (Quiet ∷ ws) (h ∷ hs) (o ∷ os) b l shut none = ap suc (all_open ws hs os b.1 (omega (arith, l)) (λ j a. shut (suc j) a) none.1)
  all_open (Asks ∷ ws) (h ∷ hs) (o ∷ os) b l shut none = ap suc (all_open ws hs os b.1 (omega (arith, l)) (λ j a. shut (suc j) a) none.1)
  all_open (Gone ∷ ws) (h ∷ hs) (o ∷ os) b l shut none = absurd (shut_not (shut 0 tt) none.0)

  wanted_sent : (b : Bool) (k : ℕ) → k ≤ (if b then k + 1 else k)
  wanted_sent true k = omega arith
  wanted_sent false k = omega arith

  -- all that was given, and one element for each output that had asked, is wanted
  pub dealt_total : (l : List Tree) (q : ℕ) (ws : List OutputState) (hs : List (List Item)) (os : List OutPort) → AllDealt l q ws hs → AllBegin hs (sents_of os) → WantedOn ws hs os → ShutOn ws os → NoneShut os → EachPort OutStands os
      → count_all book node n f 0 q (length ws) l + asks_count ws ≤ total wanted (OutWires os)
  dealt_total l q [] hs os d b wants shut none s = omega arith
  dealt_total l q (Quiet ∷ ws) [] os d b wants shut none s = absurd d
  dealt_total l q (Asks ∷ ws) [] os d b wants shut none s = absurd d
  dealt_total l q (Gone ∷ ws) [] os d b wants shut none s = absurd d
  dealt_total l q (w ∷ ws) (h ∷ hs) [] d b wants shut none s = absurd b
  dealt_total l q (Quiet ∷ ws) (h ∷ hs) (o ∷ os) d b wants shut none s =
      let here = d.0.0 in
      let more = elements_prefix h o.sent b.0 in
      let count = s.0.count in
      let least = wanted_sent o.wire.asked o.wire.sent in
      let rest = dealt_total l (q + 1) ws hs os d.1 b.1 (λ j a. wants (suc j) a) (λ j a. shut (suc j) a) none.1 s.1 in
      omega (arith, here, more, count, least, rest)
  dealt_total l q (Asks ∷ ws) (h ∷ hs) (o ∷ os) d b wants shut none s =
      let here = d.0.0 in
      let want = wants 0 refl in
      let on = s.0.wants in
      let rest = dealt_total l (q + 1) ws hs os d.1 b.1 (λ j a. wants (suc j) a) (λ j a. shut (suc j) a) none.1 s.1 in
      omega (arith, here, want, on, rest)
  dealt_total l q (Gone ∷ ws) (h ∷ hs) (o ∷ os) d b wants shut none s = absurd (shut_not (shut 0 tt) none.0)

  -- one that is open goes on
  pub some_goes : (l : List Tree) (q : ℕ) (ws : List OutputState) (hs : List (List Item)) → AllDealt l q ws hs → 1 ≤ open_count ws → (j : ℕ) × (is_going (ran j l).state ≡ true)
  some_goes l q [] hs d some = absurd (omega (arith, some))
  some_goes l q (Quiet ∷ ws) [] d some = absurd d
  some_goes l q (Asks ∷ ws) [] d some = absurd d
  some_goes l q (Gone ∷ ws) [] d some = absurd d
  some_goes l q (Quiet ∷ ws) (h ∷ hs) d some = (q, d.0.1)
  some_goes l q (Asks ∷ ws) (h ∷ hs) d some = (q, d.0.1)
  some_goes l q (Gone ∷ ws) (h ∷ hs) d some = some_goes l (q + 1) ws hs d some
