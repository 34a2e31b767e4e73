-- The tables of the wires at the ports of each place.
use Rattle.std.proofs.Common.{◌≡◌, ◌≢◌, inl, inr, ℕ, zero, suc, ◌+◌, ◌*◌, ◌<◌, ◌≤◌, Some, List, [], ◌∷◌, ◌++◌, length, map, get_or, slice_get, refl, sym, ap, ◌∙◌, arith, get_or-set_same, get_or-set_other, append_assoc, append-nil}
use Rattle.std.proofs.Math.ListN.{set}
use Rattle.std.proofs.lemmas.Bool.{cases_lt}
use Rattle.std.proofs.lemmas.List.{length-set, length-append, length-map}
use Rattle.std.proofs.lemmas.Option.{slice_get_within}
use Rattle.fused_net.specs.PortLists.{PortLists}
use Rattle.fused_net.specs.declared.net.WireEnds.{WireEnds}
use Rattle.fused_net.specs.Net.{end_at, port_at, no_ports}
use Rattle.fused_net.specs.Laws.{Wired}
use Rattle.fused_net.proofs.Reading.{same_or_not, get_set_same, get_set_other}
use Rattle.interpreter.specs.Room.{CallsFit}
use Rattle.interpreter.specs.declared.parts.Place.{Place}
use Rattle.interpreter.specs.declared.parts.Seated.{Seated}
use Rattle.interpreter.specs.Parts.{inputs_at, outputs_at, seat_place, input_count_at, output_count_at, ins_in, outs_in, AllUnused, Becomes, AllBecome, IsWiring, IsSized, IsFilledUpTo, written}
use Rattle.nodes.specs.declared.node.IslandNode.{IslandNode}

some_is : {A : Type 0} (x y : A) → Some x ≡ Some y → x ≡ y
some_is x y e = cc

-- one place more
pub inputs_here : (places : List Place) (n : ℕ) (d : Place) → n < length places → input_count_at places n ≡ (get_or places n d).inputs
inputs_here [] n d h = absurd (omega arith)
inputs_here (y ∷ ys) zero d h = refl
inputs_here (y ∷ ys) (suc n) d h = inputs_here ys n d (omega arith)

pub outputs_here : (places : List Place) (n : ℕ) (d : Place) → n < length places → output_count_at places n ≡ (get_or places n d).outputs
outputs_here [] n d h = absurd (omega arith)
outputs_here (y ∷ ys) zero d h = refl
outputs_here (y ∷ ys) (suc n) d h = outputs_here ys n d (omega arith)

-- the places of works
pub ins_of_places : {S D L H B : Type 0} (seats : List (Seated S D L H B)) (n : ℕ) → input_count_at (map seat_place seats) n ≡ inputs_at seats n
ins_of_places [] n = refl
ins_of_places (y ∷ ys) zero = refl
ins_of_places (y ∷ ys) (suc n) = ins_of_places ys n

pub outs_of_places : {S D L H B : Type 0} (seats : List (Seated S D L H B)) (n : ℕ) → output_count_at (map seat_place seats) n ≡ outputs_at seats n
outs_of_places [] n = refl
outs_of_places (y ∷ ys) zero = refl
outs_of_places (y ∷ ys) (suc n) = outs_of_places ys n

-- a row that is read behind rows
get_or_before : {A : Type 0} (xs : List A) (y d : A) (k : ℕ) → k < length xs → get_or (xs ++ y ∷ []) k d ≡ get_or xs k d
get_or_before [] y d k h = absurd (omega arith)
get_or_before (x ∷ xs) y d zero h = refl
get_or_before (x ∷ xs) y d (suc k) h = get_or_before xs y d k (omega arith)

get_or_last : {A : Type 0} (xs : List A) (y d : A) → get_or (xs ++ y ∷ []) (length xs) d ≡ y
get_or_last [] y d = refl
get_or_last (x ∷ xs) y d = get_or_last xs y d

pub rows_next : (f : PortLists → ℕ) (size : ℕ → ℕ) (ports : List PortLists) (p : PortLists) (n : ℕ) → length ports ≡ n → ((k : ℕ) → k < n → f (port_at ports k) ≡ size k) → f p ≡ size n
    → (k : ℕ) → k < n + 1 → f (port_at (ports ++ p ∷ []) k) ≡ size k
rows_next f size ports p n count rows last k h = elim (same_or_not k n) [
  | inl e ↦ rw (e, sym count) (ap f (get_or_last ports p no_ports) ∙ rw count last)
  | inr ne ↦ let below : k < n = omega arith in ap f (get_or_before ports p no_ports k (rw count below)) ∙ rows k below
]

module _ (ports : List PortLists) (e : WireEnds) (w : ℕ) where
  outs_here : e.from < length ports → e.to < length ports → (port_at (written ports e w) e.from).outs ≡ set (port_at ports e.from).outs e.output w
  outs_here hf ht = elim (same_or_not e.from e.to) [
    | inl same ↦
        let t : e.from < length (set ports e.from (record { ins = (port_at ports e.from).ins; outs = set (port_at ports e.from).outs e.output w })) = rw length-set hf in
        rw (sym same) (rw (get_or-set_same _ e.from _ no_ports t, get_or-set_same ports e.from _ no_ports hf) refl)
    | inr ne ↦ rw (get_or-set_other _ e.to e.from _ no_ports ne, get_or-set_same ports e.from _ no_ports hf) refl
  ]

  outs_other : (n : ℕ) → n ≢ e.from → e.to < length ports → (port_at (written ports e w) n).outs ≡ (port_at ports n).outs
  outs_other n ne ht =
      let t : e.to < length (set ports e.from (record { ins = (port_at ports e.from).ins; outs = set (port_at ports e.from).outs e.output w })) = rw length-set ht in
      elim (same_or_not n e.to) [
        | inl same ↦ let ne' : e.to ≢ e.from = λ q. ne (same ∙ q) in rw same (rw (get_or-set_same _ e.to _ no_ports t, get_or-set_other ports e.from e.to _ no_ports ne') refl)
        | inr other ↦ rw (get_or-set_other _ e.to n _ no_ports other, get_or-set_other ports e.from n _ no_ports ne) refl
      ]

  once_ins : (n : ℕ) → e.from < length ports → (port_at (set ports e.from (record { ins = (port_at ports e.from).ins; outs = set (port_at ports e.from).outs e.output w })) n).ins ≡ (port_at ports n).ins
  once_ins n hf = elim (same_or_not n e.from) [
    | inl same ↦ rw same (rw (get_or-set_same ports e.from _ no_ports hf) refl)
    | inr ne ↦ rw (get_or-set_other ports e.from n _ no_ports ne) refl
  ]

  ins_here : e.from < length ports → e.to < length ports → (port_at (written ports e w) e.to).ins ≡ set (port_at ports e.to).ins e.input w
  ins_here hf ht =
      let t : e.to < length (set ports e.from (record { ins = (port_at ports e.from).ins; outs = set (port_at ports e.from).outs e.output w })) = rw length-set ht in
      rw (get_or-set_same _ e.to _ no_ports t) (ap (λ (l : List ℕ). set l e.input w) (once_ins e.to hf))

  ins_other : (n : ℕ) → n ≢ e.to → e.from < length ports → (port_at (written ports e w) n).ins ≡ (port_at ports n).ins
  ins_other n ne hf = rw (get_or-set_other _ e.to n _ no_ports ne) (once_ins n hf)

  length_written : length (written ports e w) ≡ length ports
  length_written = length-set _ _ _ ∙ length-set _ _ _

module _ (sizes_in sizes_out : ℕ → ℕ) (places : ℕ) (ends : List WireEnds) (wiring : IsWiring sizes_in sizes_out places ends) where
  pub sized_next : (ports : List PortLists) (k : ℕ) → k < length ends → IsSized sizes_in sizes_out places ports → IsSized sizes_in sizes_out places (written ports (end_at ends k) k)
  sized_next ports k h z =
      let hf : (end_at ends k).from < length ports = rw z.count (wiring.from_within k h) in
      let ht : (end_at ends k).to < length ports = rw z.count (wiring.to_within k h) in
      record {
        count = length_written ports (end_at ends k) k ∙ z.count;
        ins_are = λ n hn. elim (same_or_not n (end_at ends k).to) [
          | inl same ↦ rw same (ap (λ (l : List ℕ). length l) (ins_here ports (end_at ends k) k hf ht) ∙ length-set _ _ _ ∙ z.ins_are _ (wiring.to_within k h))
          | inr ne ↦ ap (λ (l : List ℕ). length l) (ins_other ports (end_at ends k) k n ne hf) ∙ z.ins_are n hn
        ];
        outs_are = λ n hn. elim (same_or_not n (end_at ends k).from) [
          | inl same ↦ rw same (ap (λ (l : List ℕ). length l) (outs_here ports (end_at ends k) k hf ht) ∙ length-set _ _ _ ∙ z.outs_are _ (wiring.from_within k h))
          | inr ne ↦ ap (λ (l : List ℕ). length l) (outs_other ports (end_at ends k) k n ne ht) ∙ z.outs_are n hn
        ];
      }

  pub filled_next : (ports : List PortLists) (k : ℕ) → k < length ends → IsSized sizes_in sizes_out places ports → IsFilledUpTo ends ports k → IsFilledUpTo ends (written ports (end_at ends k) k) (k + 1)
  filled_next ports k h z f =
      let hf : (end_at ends k).from < length ports = rw z.count (wiring.from_within k h) in
      let ht : (end_at ends k).to < length ports = rw z.count (wiring.to_within k h) in
      let ho : (end_at ends k).output < length (port_at ports (end_at ends k).from).outs = rw (z.outs_are _ (wiring.from_within k h)) (wiring.output_within k h) in
      let hi : (end_at ends k).input < length (port_at ports (end_at ends k).to).ins = rw (z.ins_are _ (wiring.to_within k h)) (wiring.input_within k h) in
      record {
        outs = λ w hw. elim (same_or_not w k) [
          | inl e ↦ rw e (rw (outs_here ports (end_at ends k) k hf ht) (get_set_same _ _ k ho))
          | inr ne ↦ let lw : w < length ends = omega arith in elim (same_or_not (end_at ends w).from (end_at ends k).from) [
            | inl same ↦
                let apart : (end_at ends w).output ≢ (end_at ends k).output = λ q. ne (wiring.one_output w k lw h same q) in
                rw same (rw (outs_here ports (end_at ends k) k hf ht) (get_set_other (port_at ports (end_at ends k).from).outs (end_at ends k).output (end_at ends w).output k apart ∙ rw same at (f.outs w (omega arith))))
            | inr other ↦ rw (outs_other ports (end_at ends k) k (end_at ends w).from other ht) (f.outs w (omega arith))
          ]
        ];
        ins = λ w hw. elim (same_or_not w k) [
          | inl e ↦ rw e (rw (ins_here ports (end_at ends k) k hf ht) (get_set_same _ _ k hi))
          | inr ne ↦ let lw : w < length ends = omega arith in elim (same_or_not (end_at ends w).to (end_at ends k).to) [
            | inl same ↦
                let apart : (end_at ends w).input ≢ (end_at ends k).input = λ q. ne (wiring.one_input w k lw h same q) in
                rw same (rw (ins_here ports (end_at ends k) k hf ht) (get_set_other (port_at ports (end_at ends k).to).ins (end_at ends k).input (end_at ends w).input k apart ∙ rw same at (f.ins w (omega arith))))
            | inr other ↦ rw (ins_other ports (end_at ends k) k (end_at ends w).to other hf) (f.ins w (omega arith))
          ]
        ];
      }

  pub wired_of : (ports : List PortLists) → IsSized sizes_in sizes_out places ports → IsFilledUpTo ends ports (length ends) → Wired ends ports places (length ends)
  wired_of ports z f = record {
    each_node = z.count;
    each_wire = refl;
    from_within = wiring.from_within;
    to_within = wiring.to_within;
    from_output = f.outs;
    to_input = f.ins;
    input_to = λ n i w hn e.
        let a = wiring.each_input n i hn (rw (sym (z.ins_are n hn)) (slice_get_within (port_at ports n).ins i w e)) in
        let at : slice_get (port_at ports n).ins i ≡ Some a.0 = rw (a.1.1.0, a.1.1.1) at (f.ins a.0 a.1.0) in
        let same : w ≡ a.0 = some_is w a.0 (sym e ∙ at) in
        rw same a.1;
    output_from = λ n j w hn e.
        let a = wiring.each_output n j hn (rw (sym (z.outs_are n hn)) (slice_get_within (port_at ports n).outs j w e)) in
        let at : slice_get (port_at ports n).outs j ≡ Some a.0 = rw (a.1.1.0, a.1.1.1) at (f.outs a.0 a.1.0) in
        let same : w ≡ a.0 = some_is w a.0 (sym e ∙ at) in
        rw same a.1;
  }

-- none is seated at first
pub seat_first : {S D L H B : Type 0} (rest places : List (Seated S D L H B)) (nodes : List (IslandNode S D L H B)) → rest ≡ places → nodes ≡ [] → AllUnused places → AllUnused rest × ((xs : List (IslandNode S D L H B)) → AllBecome rest xs → AllBecome places (nodes ++ xs))
seat_first rest places nodes e none unused = (rw e unused, λ xs h. let a : AllBecome places xs = rw e at h in rw none a)

-- the places that are left to seat
pub seat_next : {S D L H B : Type 0} (places rest later : List (Seated S D L H B)) (s : Seated S D L H B) (nodes more : List (IslandNode S D L H B)) (x : IslandNode S D L H B) → rest ≡ s ∷ later → AllUnused rest → Becomes s x → more ≡ nodes ++ x ∷ []
    → ((xs : List (IslandNode S D L H B)) → AllBecome rest xs → AllBecome places (nodes ++ xs))
    → AllUnused later × ((xs : List (IslandNode S D L H B)) → AllBecome later xs → AllBecome places (more ++ xs))
seat_next places rest later s nodes more x e unused becomes is all =
    let u : AllUnused (s ∷ later) = rw e at unused in
    let a : (xs : List (IslandNode _ _ _ _ _)) → AllBecome (s ∷ later) xs → AllBecome places (nodes ++ xs) = rw e at all in
    (u.1, λ xs h. rw is (rw (append_assoc nodes (x ∷ []) xs) (a (x ∷ xs) (becomes, h))))

pub seat_last : {S D L H B : Type 0} (places rest : List (Seated S D L H B)) (nodes : List (IslandNode S D L H B)) → rest ≡ [] → ((xs : List (IslandNode S D L H B)) → AllBecome rest xs → AllBecome places (nodes ++ xs)) → AllBecome places nodes
seat_last places rest nodes e all = let a : (xs : List (IslandNode _ _ _ _ _)) → AllBecome [] xs → AllBecome places (nodes ++ xs) = rw e at all in rw (append-nil nodes) at (a [] tt)

-- none is left where there are 0
pub none_left : {A : Type 0} (xs : List A) (n : ℕ) → n ≡ 0 → n ≡ length xs → xs ≡ []
none_left [] n e h = refl
none_left (x ∷ xs) n e h = absurd (omega arith)

pub len_next : {A : Type 0} (old new : List A) (x : A) (n m : ℕ) → old ≡ x ∷ new → m + 1 ≡ n → n ≡ length old → m ≡ length new
len_next old new x n m e l h = let c : length old ≡ suc (length new) = ap (λ (l : List _). length l) e in omega arith

pub sized_of : (places : List Place) (ports : List PortLists) (n : ℕ) → n ≡ length places → length ports ≡ n
    → ((k : ℕ) → k < n → length (port_at ports k).ins ≡ input_count_at places k) → ((k : ℕ) → k < n → length (port_at ports k).outs ≡ output_count_at places k) → IsSized (input_count_at places) (output_count_at places) (length places) ports
sized_of places ports n e count ins outs = record { count = count ∙ e; ins_are = λ k h. ins k (rw e h); outs_are = λ k h. outs k (rw e h) }

pub length_next : {A : Type 0} (xs : List A) (x : A) (n : ℕ) → length xs ≡ n → length (xs ++ x ∷ []) ≡ n + 1
length_next xs x n e = length-append xs (x ∷ []) ∙ (let h : length xs ≡ n = e in omega arith)

-- tables have a row for each of their own rows
pub sized_self : (ports : List PortLists) → IsSized (ins_in ports) (outs_in ports) (length ports) ports
sized_self ports = record { count = refl; ins_are = λ n h. refl; outs_are = λ n h. refl }

module _ {S D L H B : Type 0} (seats : List (Seated S D L H B)) (rows : List PortLists) (sized : IsSized (input_count_at (map seat_place seats)) (output_count_at (map seat_place seats)) (length (map seat_place seats)) rows) where
  count_is : length (map seat_place seats) ≡ length seats
  count_is = length-map seats seat_place

  pub rows_count : length rows ≡ length seats
  rows_count = sized.count ∙ count_is

  rows_ins : (n : ℕ) → n < length seats → ins_in rows n ≡ inputs_at seats n
  rows_ins n h = sized.ins_are n (rw count_is h) ∙ ins_of_places seats n

  rows_outs : (n : ℕ) → n < length seats → outs_in rows n ≡ outputs_at seats n
  rows_outs n h = sized.outs_are n (rw count_is h) ∙ outs_of_places seats n

  -- a wiring of the works is one of the rows
  pub rows_wiring : (told ends : List WireEnds) → ends ≡ told → IsWiring (inputs_at seats) (outputs_at seats) (length seats) told → IsWiring (ins_in rows) (outs_in rows) (length rows) ends
  rows_wiring told ends e w = rw (e, rows_count) (record {
    from_within = w.from_within;
    to_within = w.to_within;
    output_within = λ i h. let o : outs_in rows (end_at told i).from ≡ outputs_at seats (end_at told i).from = rows_outs _ (w.from_within i h) in let lt : (end_at told i).output < outputs_at seats (end_at told i).from = w.output_within i h in omega (arith, o, lt);
    input_within = λ i h. let o : ins_in rows (end_at told i).to ≡ inputs_at seats (end_at told i).to = rows_ins _ (w.to_within i h) in let lt : (end_at told i).input < inputs_at seats (end_at told i).to = w.input_within i h in omega (arith, o, lt);
    one_output = w.one_output;
    one_input = w.one_input;
    each_output = λ n j h lt. w.each_output n j h (let o : outs_in rows n ≡ outputs_at seats n = rows_outs n h in omega (arith, o, lt));
    each_input = λ n i h lt. w.each_input n i h (let o : ins_in rows n ≡ inputs_at seats n = rows_ins n h in omega (arith, o, lt));
  })

  -- and what has a row for each of theirs has one for each port of the works
  pub rows_sized : (ports : List PortLists) → IsSized (ins_in rows) (outs_in rows) (length rows) ports → IsSized (inputs_at seats) (outputs_at seats) (length seats) ports
  rows_sized ports z = record {
    count = z.count ∙ rows_count;
    ins_are = λ n h. z.ins_are n (rw rows_count h) ∙ rows_ins n h;
    outs_are = λ n h. z.outs_are n (rw rows_count h) ∙ rows_outs n h;
  }

-- ---- room for what a call appends

-- what is enough for this place is enough for the place of this number
pub place_here : (places : List Place) (n : ℕ) (d : Place) (now : ℕ) → n < length places → 2 * ((get_or places n d).inputs + (get_or places n d).outputs) ≤ now
    → 2 * (input_count_at places n + output_count_at places n) ≤ now
place_here places n d now h c = rw (inputs_here places n d h, outputs_here places n d h) c

-- a place more, for which there is room too
pub calls_next : (places : List Place) (n room now : ℕ) → room ≤ now → 2 * (input_count_at places n + output_count_at places n) ≤ now
    → ((k : ℕ) → k < n → 2 * (input_count_at places k + output_count_at places k) ≤ room) → (k : ℕ) → k < n + 1 → 2 * (input_count_at places k + output_count_at places k) ≤ now
calls_next places n room now up here rows k h = elim (same_or_not k n) [
  | inl e ↦ rw e here
  | inr ne ↦
      let below : k < n = omega arith in
      let a : 2 * (input_count_at places k + output_count_at places k) ≤ room = rows k below in
      omega (arith, a, up)
]

-- behind the last place there are no ports
no_inputs : (places : List Place) (n : ℕ) → length places ≤ n → input_count_at places n ≡ 0
no_inputs [] n h = refl
no_inputs (p ∷ places) zero h = absurd (omega (arith, h))
no_inputs (p ∷ places) (suc n) h = no_inputs places n (omega (arith, h))

no_outputs : (places : List Place) (n : ℕ) → length places ≤ n → output_count_at places n ≡ 0
no_outputs [] n h = refl
no_outputs (p ∷ places) zero h = absurd (omega (arith, h))
no_outputs (p ∷ places) (suc n) h = no_outputs places n (omega (arith, h))

pub calls_all : (places : List Place) (n room : ℕ) → n ≡ length places → ((k : ℕ) → k < n → 2 * (input_count_at places k + output_count_at places k) ≤ room) → CallsFit places room
calls_all places n room e rows k = elim (cases_lt k n) [
  | inl lt ↦ rows k lt
  | inr ge ↦
      let i : input_count_at places k ≡ 0 = no_inputs places k (rw e at ge) in
      let o : output_count_at places k ≡ 0 = no_outputs places k (rw e at ge) in
      omega (arith, i, o)
]
