-- Where wires join every port of some places, their links, each lane of them cut, join every port of those places and of the stages
-- at the ends of lanes.
use Rattle.std.proofs.Common.{◌≡◌, ℕ, zero, suc, ◌+◌, ◌-◌, ◌<◌, ◌≤◌, List, [], ◌∷◌, ◌++◌, length, map, take, Option, Some, None, refl, ap, sym, ◌∙◌, subst, ⊎_elim, ◌⊎◌, inl, inr, length-append, arith}
use Rattle.std.specs.Prelude.{slice_get}
use Rattle.std.specs.Option.{option_map}
use Rattle.std.proofs.lemmas.List.{length-map}
use Rattle.std.proofs.lemmas.Option.{slice_get_within, slice_get-map, get_or_from_slice_get}
use Rattle.stream_model.specs.Graph.{Edge}
use Rattle.fused_net.specs.declared.net.WireEnds.{WireEnds}
use Rattle.fused_net.specs.Net.{end_at, no_ends}
use Rattle.interpreter.specs.declared.parts.Link.{Link}
use Rattle.interpreter.specs.Parts.{ends_of, IsWiring}
use Rattle.island_parts.specs.Whole.{lanes_in, near_at, nears_from, fars_from, whole_links}
use Rattle.island_parts.proofs.Cutting.{IsLane, lane_below, lane_one, nears_count, near_get, far_link, fars_count, far_get, lane_there}

-- ---- lists one behind the other

pub get_left : {X : Type 0} (xs ys : List X) (i : ℕ) (x : X) → slice_get xs i ≡ Some x → slice_get (xs ++ ys) i ≡ Some x
get_left [] ys i x at = absurd cc
get_left (y ∷ xs) ys zero x at = at
get_left (y ∷ xs) ys (suc i) x at = get_left xs ys i x at

pub get_right : {X : Type 0} (xs ys : List X) (i j : ℕ) → i ≡ length xs + j → slice_get (xs ++ ys) i ≡ slice_get ys j
get_right [] ys i j e = let same : i ≡ j = omega (arith, e) in ap (slice_get ys) same
get_right (x ∷ xs) ys zero j e = absurd (omega (arith, e))
get_right (x ∷ xs) ys (suc i) j e = get_right xs ys i j (omega (arith, e))

pub there : {X : Type 0} (xs : List X) (i : ℕ) → i < length xs → (x : X) × (slice_get xs i ≡ Some x)
there [] i lt = absurd (omega (arith, lt))
there (x ∷ xs) zero lt = (x, refl)
there (x ∷ xs) (suc i) lt = there xs i (omega (arith, lt))

pub end_get : (ls : List Link) (p : ℕ) (l : Link) → slice_get ls p ≡ Some l → end_at (map ends_of ls) p ≡ ends_of l
end_get ls p l at = get_or_from_slice_get (map ends_of ls) p (ends_of l) no_ends (slice_get-map ends_of ls p ∙ ap (option_map ends_of) at)

pub same_wire : (ws : List Edge) (i k : ℕ) (v w : Edge) → i ≡ k → slice_get ws i ≡ Some v → slice_get ws k ≡ Some w → v ≡ w
same_wire ws i k v w e a b = let both : Some v ≡ Some w = sym a ∙ ap (slice_get ws) e ∙ b in cc

-- the ends of a wire whose lane, if it has one, is not cut
abbrev pub plain_ends : Edge → WireEnds
plain_ends v = record { from = v.from; output = v.output; to = v.to; input = v.input }

-- the place among all links of the one that leads into the input of wire i
abbrev pub into : ℕ → ℕ → ℕ → Option ℕ → ℕ
into many number i None = i
into many number i (Some s) = many + number

module _ (n : ℕ) (ws : List Edge) where
  abbrev pub all_ends : List WireEnds
  all_ends = map ends_of (whole_links n ws)

  pub whole_count : length (whole_links n ws) ≡ length ws + lanes_in ws
  whole_count =
      let a : length (nears_from (n + lanes_in ws) 0 ws) ≡ length ws = nears_count (n + lanes_in ws) 0 ws in
      let b : length (fars_from n 0 ws) ≡ lanes_in ws = fars_count n 0 ws in
      let c : length (whole_links n ws) ≡ length (nears_from (n + lanes_in ws) 0 ws) + length (fars_from n 0 ws) = length-append (nears_from (n + lanes_in ws) 0 ws) (fars_from n 0 ws) in
      omega (arith, a, b, c)

  pub near_link : (i : ℕ) (w : Edge) → slice_get ws i ≡ Some w → slice_get (whole_links n ws) i ≡ Some (near_at (n + lanes_in ws + lanes_in (take i ws)) i w w.lane)
  near_link i w at =
      let z : 0 + i ≡ i = omega arith in
      get_left (nears_from (n + lanes_in ws) 0 ws) (fars_from n 0 ws) i _ (near_get (n + lanes_in ws) 0 ws i w at) ∙ ap (λ k. Some (near_at (n + lanes_in ws + lanes_in (take i ws)) k w w.lane)) z

  pub far_link_at : (i : ℕ) (w : Edge) (s : ℕ) → slice_get ws i ≡ Some w → w.lane ≡ Some s → slice_get (whole_links n ws) (length ws + lanes_in (take i ws)) ≡ Some (far_link (n + lanes_in (take i ws)) i w)
  far_link_at i w s at lane =
      let z : 0 + i ≡ i = omega arith in
      get_right (nears_from (n + lanes_in ws) 0 ws) (fars_from n 0 ws) _ (lanes_in (take i ws)) (ap (λ m. m + lanes_in (take i ws)) (sym (nears_count (n + lanes_in ws) 0 ws))) ∙ far_get n 0 ws i w s at lane ∙ ap (λ k. Some (far_link (n + lanes_in (take i ws)) k w)) z

  -- ---- the two sides of a link

  -- a link at the output of a node
  pub record AtOutput (p : ℕ) (l : Link) : Type 0 where
    pub wire : Edge
    pub is : slice_get ws p ≡ Some wire
    pub number : l.wire ≡ p
    pub from : l.from ≡ wire.from
    pub output : l.output ≡ wire.output

  -- a link from where a lane comes in
  pub record AtEntry (p : ℕ) (l : Link) : Type 0 where
    pub j : ℕ
    pub lane : IsLane ws j
    pub below : j < lanes_in ws
    pub place : p ≡ length ws + j
    pub is : l ≡ far_link (n + j) lane.at lane.wire

  near_output : (o : Option ℕ) (p : ℕ) (w : Edge) (l : Link) (out : ℕ) → slice_get ws p ≡ Some w → near_at out p w o ≡ l → AtOutput p l
  near_output None p w l out at e = record { wire = w; is = at; number = ap (λ (x : Link). x.wire) (sym e); from = ap (λ (x : Link). x.from) (sym e); output = ap (λ (x : Link). x.output) (sym e) }
  near_output (Some s) p w l out at e = record { wire = w; is = at; number = ap (λ (x : Link). x.wire) (sym e); from = ap (λ (x : Link). x.from) (sym e); output = ap (λ (x : Link). x.output) (sym e) }

  some_one : {X : Type 0} (x y : X) → Some x ≡ Some y → x ≡ y
  some_one x y e = cc

  pub out_side : (p : ℕ) (l : Link) → slice_get (whole_links n ws) p ≡ Some l → AtOutput p l ⊎ AtEntry p l
  out_side p l at = ⊎_elim (λ (lt : p < length ws). inl (near lt)) (λ (le : length ws ≤ p). inr (far le)) (split p (length ws))
    where
      split : (a b : ℕ) → (a < b) ⊎ (b ≤ a)
      split a zero = inr (omega arith)
      split zero (suc b) = inl (omega arith)
      split (suc a) (suc b) = ⊎_elim (λ (h : a < b). inl (omega (arith, h))) (λ (h : b ≤ a). inr (omega (arith, h))) (split a b)

      near : p < length ws → AtOutput p l
      near lt =
          let w = there ws p lt in
          near_output w.0.lane p w.0 l (n + lanes_in ws + lanes_in (take p ws)) w.1 (some_one _ _ (sym (near_link p w.0 w.1) ∙ at))

      far : length ws ≤ p → AtEntry p l
      far le =
          let j = p - length ws in
          let place : p ≡ length ws + j = omega (arith, le) in
          let within : p < length (whole_links n ws) = slice_get_within (whole_links n ws) p l at in
          let below : j < lanes_in ws = omega (arith, place, within, whole_count) in
          let lane = lane_there ws j below in
          let same : length ws + lanes_in (take lane.at ws) ≡ p = ap (λ k. length ws + k) lane.number ∙ sym place in
          let is : Some (far_link (n + lanes_in (take lane.at ws)) lane.at lane.wire) ≡ Some l = sym (far_link_at lane.at lane.wire lane.size lane.is lane.lane) ∙ ap (slice_get (whole_links n ws)) same ∙ at in
          record { j = j; lane = lane; below = below; place = place; is = sym (some_one _ _ is) ∙ ap (λ k. far_link (n + k) lane.at lane.wire) lane.number }

  -- a link into the input of a node
  pub record AtInput (p : ℕ) (l : Link) : Type 0 where
    pub at : ℕ
    pub wire : Edge
    pub is : slice_get ws at ≡ Some wire
    pub number : l.wire ≡ at
    pub place : p ≡ into (length ws) (lanes_in (take at ws)) at wire.lane
    pub to : l.to ≡ wire.to
    pub input : l.input ≡ wire.input

  -- a link to where a lane goes out
  pub record AtExit (p : ℕ) (l : Link) : Type 0 where
    pub wire : Edge
    pub size : ℕ
    pub is : slice_get ws p ≡ Some wire
    pub number : l.wire ≡ p
    pub lane : wire.lane ≡ Some size
    pub to : l.to ≡ n + lanes_in ws + lanes_in (take p ws)
    pub input : l.input ≡ 0

  near_side : (o : Option ℕ) (p : ℕ) (w : Edge) (l : Link) → w.lane ≡ o → slice_get ws p ≡ Some w → near_at (n + lanes_in ws + lanes_in (take p ws)) p w o ≡ l → AtInput p l ⊎ AtExit p l
  near_side None p w l lane at e = inl (record {
    at = p;
    wire = w;
    is = at;
    number = ap (λ (x : Link). x.wire) (sym e);
    place = sym (ap (into (length ws) (lanes_in (take p ws)) p) lane);
    to = ap (λ (x : Link). x.to) (sym e);
    input = ap (λ (x : Link). x.input) (sym e);
  })
  near_side (Some s) p w l lane at e = inr (record { wire = w; size = s; is = at; number = ap (λ (x : Link). x.wire) (sym e); lane = lane; to = ap (λ (x : Link). x.to) (sym e); input = ap (λ (x : Link). x.input) (sym e) })

  far_side : (p : ℕ) (l : Link) → AtEntry p l → AtInput p l
  far_side p l e = record {
    at = e.lane.at;
    wire = e.lane.wire;
    is = e.lane.is;
    number = ap (λ (x : Link). x.wire) e.is;
    place = e.place ∙ ap (λ k. length ws + k) (sym e.lane.number) ∙ sym (ap (into (length ws) (lanes_in (take e.lane.at ws)) e.lane.at) e.lane.lane);
    to = ap (λ (x : Link). x.to) e.is;
    input = ap (λ (x : Link). x.input) e.is;
  }

  pub in_side : (p : ℕ) (l : Link) → slice_get (whole_links n ws) p ≡ Some l → AtInput p l ⊎ AtExit p l
  in_side p l at =
      ⊎_elim
      (λ (o : AtOutput p l). near_side o.wire.lane p o.wire l refl o.is (some_one _ _ (sym (near_link p o.wire o.is) ∙ at)))
      (λ (e : AtEntry p l). inl (far_side p l e))
      (out_side p l at)

  -- the link into the input of wire i
  pub input_link : (i : ℕ) (w : Edge) → slice_get ws i ≡ Some w → (l : Link) × ((slice_get (whole_links n ws) (into (length ws) (lanes_in (take i ws)) i w.lane) ≡ Some l) × ((l.to ≡ w.to) × (l.input ≡ w.input)))
  input_link i w at = by w.lane refl
    where
      by : (o : Option ℕ) → w.lane ≡ o → (l : Link) × ((slice_get (whole_links n ws) (into (length ws) (lanes_in (take i ws)) i o) ≡ Some l) × ((l.to ≡ w.to) × (l.input ≡ w.input)))
      by None e = (near_at (n + lanes_in ws + lanes_in (take i ws)) i w None, (near_link i w at ∙ ap (λ o. Some (near_at (n + lanes_in ws + lanes_in (take i ws)) i w o)) e, (refl, refl)))
      by (Some s) e = (far_link (n + lanes_in (take i ws)) i w, (far_link_at i w s at e, (refl, refl)))

  module _ (ins outs more_ins more_outs : ℕ → ℕ) (ends : List WireEnds) (plain : IsWiring ins outs n ends) (long : length ends ≡ length ws)
      (each : (i : ℕ) (v : Edge) → slice_get ws i ≡ Some v → end_at ends i ≡ plain_ends v)
      (node_ins : (k : ℕ) → k < n → more_ins k ≡ ins k) (node_outs : (k : ℕ) → k < n → more_outs k ≡ outs k)
      (entry_ins : (j : ℕ) → j < lanes_in ws → more_ins (n + j) ≡ 0) (entry_outs : (j : ℕ) → j < lanes_in ws → more_outs (n + j) ≡ 1)
      (exit_ins : (j : ℕ) → j < lanes_in ws → more_ins (n + lanes_in ws + j) ≡ 1) (exit_outs : (j : ℕ) → j < lanes_in ws → more_outs (n + lanes_in ws + j) ≡ 0) where
    in_ends : (i : ℕ) (v : Edge) → slice_get ws i ≡ Some v → i < length ends
    in_ends i v at = let lt : i < length ws = slice_get_within ws i v at in omega (arith, lt, long)

    -- what the wiring tells of a wire
    from_ok : (i : ℕ) (v : Edge) → slice_get ws i ≡ Some v → v.from < n
    from_ok i v at = subst (λ (e : WireEnds). e.from < n) (each i v at) (plain.from_within i (in_ends i v at))

    to_ok : (i : ℕ) (v : Edge) → slice_get ws i ≡ Some v → v.to < n
    to_ok i v at = subst (λ (e : WireEnds). e.to < n) (each i v at) (plain.to_within i (in_ends i v at))

    output_ok : (i : ℕ) (v : Edge) → slice_get ws i ≡ Some v → v.output < outs v.from
    output_ok i v at = subst (λ (e : WireEnds). e.output < outs e.from) (each i v at) (plain.output_within i (in_ends i v at))

    input_ok : (i : ℕ) (v : Edge) → slice_get ws i ≡ Some v → v.input < ins v.to
    input_ok i v at = subst (λ (e : WireEnds). e.input < ins e.to) (each i v at) (plain.input_within i (in_ends i v at))

    one_out : (i k : ℕ) (v w : Edge) → slice_get ws i ≡ Some v → slice_get ws k ≡ Some w → v.from ≡ w.from → v.output ≡ w.output → i ≡ k
    one_out i k v w a b e o =
        plain.one_output i k (in_ends i v a) (in_ends k w b) (ap (λ (x : WireEnds). x.from) (each i v a) ∙ e ∙ sym (ap (λ (x : WireEnds). x.from) (each k w b)))
        (ap (λ (x : WireEnds). x.output) (each i v a) ∙ o ∙ sym (ap (λ (x : WireEnds). x.output) (each k w b)))

    one_in : (i k : ℕ) (v w : Edge) → slice_get ws i ≡ Some v → slice_get ws k ≡ Some w → v.to ≡ w.to → v.input ≡ w.input → i ≡ k
    one_in i k v w a b e o =
        plain.one_input i k (in_ends i v a) (in_ends k w b) (ap (λ (x : WireEnds). x.to) (each i v a) ∙ e ∙ sym (ap (λ (x : WireEnds). x.to) (each k w b)))
        (ap (λ (x : WireEnds). x.input) (each i v a) ∙ o ∙ sym (ap (λ (x : WireEnds). x.input) (each k w b)))

    -- the link at a place
    link_at : (p : ℕ) → p < length all_ends → (l : Link) × ((slice_get (whole_links n ws) p ≡ Some l) × (end_at all_ends p ≡ ends_of l))
    link_at p lt =
        let e : length all_ends ≡ length (whole_links n ws) = length-map (whole_links n ws) ends_of in
        let l = there (whole_links n ws) p (omega (arith, lt, e)) in
        (l.0, (l.1, end_get (whole_links n ws) p l.0 l.1))

    within : (p : ℕ) (l : Link) → slice_get (whole_links n ws) p ≡ Some l → p < length all_ends
    within p l at =
        let e : length all_ends ≡ length (whole_links n ws) = length-map (whole_links n ws) ends_of in
        let lt : p < length (whole_links n ws) = slice_get_within (whole_links n ws) p l at in
        omega (arith, lt, e)

    by_link : (P : WireEnds → Type 0) (p : ℕ) (lt : p < length all_ends) → ((l : Link) → slice_get (whole_links n ws) p ≡ Some l → P (ends_of l)) → P (end_at all_ends p)
    by_link P p lt h = let l = link_at p lt in subst P (sym l.1.1) (h l.0 l.1.0)

    exit_below : (p : ℕ) (l : Link) (x : AtExit p l) → lanes_in (take p ws) < lanes_in ws
    exit_below p l x = lane_below ws p x.wire x.size x.is x.lane

    link_from : (p : ℕ) (l : Link) → slice_get (whole_links n ws) p ≡ Some l → l.from < n + lanes_in ws + lanes_in ws
    link_from p l at =
        ⊎_elim
        (λ (o : AtOutput p l). let h = from_ok p o.wire o.is in omega (arith, h, o.from))
        (λ (e : AtEntry p l). let h : l.from ≡ n + e.j = ap (λ (x : Link). x.from) e.is in omega (arith, h, e.below))
        (out_side p l at)

    link_output : (p : ℕ) (l : Link) → slice_get (whole_links n ws) p ≡ Some l → l.output < more_outs l.from
    link_output p l at =
        ⊎_elim
        (λ (o : AtOutput p l).
        let h = output_ok p o.wire o.is in
        let m = node_outs o.wire.from (from_ok p o.wire o.is) in
        let f : more_outs l.from ≡ more_outs o.wire.from = ap more_outs o.from in
        omega (arith, h, m, f, o.output))
        (λ (e : AtEntry p l).
        let f : more_outs l.from ≡ more_outs (n + e.j) = ap (λ (x : Link). more_outs x.from) e.is in
        let z : l.output ≡ 0 = ap (λ (x : Link). x.output) e.is in
        omega (arith, f, z, entry_outs e.j e.below))
        (out_side p l at)

    link_to : (p : ℕ) (l : Link) → slice_get (whole_links n ws) p ≡ Some l → l.to < n + lanes_in ws + lanes_in ws
    link_to p l at =
        ⊎_elim
        (λ (o : AtInput p l). let h = to_ok o.at o.wire o.is in omega (arith, h, o.to))
        (λ (x : AtExit p l). omega (arith, x.to, exit_below p l x))
        (in_side p l at)

    link_input : (p : ℕ) (l : Link) → slice_get (whole_links n ws) p ≡ Some l → l.input < more_ins l.to
    link_input p l at =
        ⊎_elim
        (λ (o : AtInput p l).
        let h = input_ok o.at o.wire o.is in
        let m = node_ins o.wire.to (to_ok o.at o.wire o.is) in
        let f : more_ins l.to ≡ more_ins o.wire.to = ap more_ins o.to in
        omega (arith, h, m, f, o.input))
        (λ (x : AtExit p l).
        let f : more_ins l.to ≡ more_ins (n + lanes_in ws + lanes_in (take p ws)) = ap more_ins x.to in
        omega (arith, f, x.input, exit_ins (lanes_in (take p ws)) (exit_below p l x)))
        (in_side p l at)

    one_link_out : (p q : ℕ) (l m : Link) → slice_get (whole_links n ws) p ≡ Some l → slice_get (whole_links n ws) q ≡ Some m → l.from ≡ m.from → l.output ≡ m.output → p ≡ q
    one_link_out p q l m a b e o =
        ⊎_elim
        (λ (x : AtOutput p l).
        ⊎_elim
        (λ (y : AtOutput q m). one_out p q x.wire y.wire x.is y.is (sym x.from ∙ e ∙ y.from) (sym x.output ∙ o ∙ y.output))
        (λ (y : AtEntry q m). let f = from_ok p x.wire x.is in let g : m.from ≡ n + y.j = ap (λ (k : Link). k.from) y.is in absurd (omega (arith, f, g, e, x.from)))
        (out_side q m b))
        (λ (x : AtEntry p l).
        let g : l.from ≡ n + x.j = ap (λ (k : Link). k.from) x.is in
        ⊎_elim
        (λ (y : AtOutput q m). let f = from_ok q y.wire y.is in absurd (omega (arith, f, g, e, y.from)))
        (λ (y : AtEntry q m). let h : m.from ≡ n + y.j = ap (λ (k : Link). k.from) y.is in omega (arith, g, h, e, x.place, y.place))
        (out_side q m b))
        (out_side p l a)

    same_into : (i k : ℕ) (v w : Edge) → i ≡ k → slice_get ws i ≡ Some v → slice_get ws k ≡ Some w → into (length ws) (lanes_in (take i ws)) i v.lane ≡ into (length ws) (lanes_in (take k ws)) k w.lane
    same_into i k v w e a b = ap (λ h. into (length ws) (lanes_in (take h ws)) h v.lane) e ∙ ap (λ (x : Edge). into (length ws) (lanes_in (take k ws)) k x.lane) (same_wire ws i k v w e a b)

    one_link_in : (p q : ℕ) (l m : Link) → slice_get (whole_links n ws) p ≡ Some l → slice_get (whole_links n ws) q ≡ Some m → l.to ≡ m.to → l.input ≡ m.input → p ≡ q
    one_link_in p q l m a b e o =
        ⊎_elim
        (λ (x : AtInput p l).
        ⊎_elim
        (λ (y : AtInput q m).
        let same = one_in x.at y.at x.wire y.wire x.is y.is (sym x.to ∙ e ∙ y.to) (sym x.input ∙ o ∙ y.input) in
        x.place ∙ same_into x.at y.at x.wire y.wire same x.is y.is ∙ sym y.place)
        (λ (y : AtExit q m). let f = to_ok x.at x.wire x.is in absurd (omega (arith, f, y.to, e, x.to)))
        (in_side q m b))
        (λ (x : AtExit p l).
        ⊎_elim
        (λ (y : AtInput q m). let f = to_ok y.at y.wire y.is in absurd (omega (arith, f, x.to, e, y.to)))
        (λ (y : AtExit q m). lane_one ws p q x.wire y.wire x.size y.size x.is x.lane y.is y.lane (omega (arith, x.to, y.to, e)))
        (in_side q m b))
        (in_side p l a)

    -- the link found at a port
    abbrev OutputAt : ℕ → ℕ → Type 0
    OutputAt k j = (p : ℕ) × ((p < length all_ends) × (((end_at all_ends p).from ≡ k) × ((end_at all_ends p).output ≡ j)))

    abbrev InputAt : ℕ → ℕ → Type 0
    InputAt k j = (p : ℕ) × ((p < length all_ends) × (((end_at all_ends p).to ≡ k) × ((end_at all_ends p).input ≡ j)))

    output_at : (k j p : ℕ) (l : Link) → slice_get (whole_links n ws) p ≡ Some l → l.from ≡ k → l.output ≡ j → OutputAt k j
    output_at k j p l at f o = let e = end_get (whole_links n ws) p l at in (p, (within p l at, (ap (λ (x : WireEnds). x.from) e ∙ f, ap (λ (x : WireEnds). x.output) e ∙ o)))

    input_at : (k j p : ℕ) (l : Link) → slice_get (whole_links n ws) p ≡ Some l → l.to ≡ k → l.input ≡ j → InputAt k j
    input_at k j p l at f o = let e = end_get (whole_links n ws) p l at in (p, (within p l at, (ap (λ (x : WireEnds). x.to) e ∙ f, ap (λ (x : WireEnds). x.input) e ∙ o)))

    node_output : (k j : ℕ) → k < n → j < more_outs k → OutputAt k j
    node_output k j lt port =
        let w = plain.each_output k j lt (omega (arith, port, node_outs k lt)) in
        let v = there ws w.0 (omega (arith, w.1.0, long)) in
        let e = each w.0 v.0 v.1 in
        let l = near_at (n + lanes_in ws + lanes_in (take w.0 ws)) w.0 v.0 v.0.lane in
        let s = near_output v.0.lane w.0 v.0 l (n + lanes_in ws + lanes_in (take w.0 ws)) v.1 refl in
        let same = same_wire ws w.0 w.0 s.wire v.0 refl s.is v.1 in
        output_at k j w.0 l (near_link w.0 v.0 v.1) (s.from ∙ ap (λ (x : Edge). x.from) same ∙ sym (ap (λ (x : WireEnds). x.from) e) ∙ w.1.1.0) (s.output ∙ ap (λ (x : Edge). x.output) same ∙ sym (ap (λ (x : WireEnds). x.output) e) ∙ w.1.1.1)

    entry_output : (k j i : ℕ) → k ≡ n + i → i < lanes_in ws → j < more_outs k → OutputAt k j
    entry_output k j i e lt port =
        let lane = lane_there ws i lt in
        let ports : more_outs k ≡ 1 = ap more_outs e ∙ entry_outs i lt in
        output_at k j _ _ (far_link_at lane.at lane.wire lane.size lane.is lane.lane) (ap (λ m. n + m) lane.number ∙ sym e) (omega (arith, port, ports))

    no_output : (k j i : ℕ) → k ≡ n + lanes_in ws + i → i < lanes_in ws → j < more_outs k → OutputAt k j
    no_output k j i e lt port = let none : more_outs k ≡ 0 = ap more_outs e ∙ exit_outs i lt in absurd (omega (arith, port, none))

    node_input : (k j : ℕ) → k < n → j < more_ins k → InputAt k j
    node_input k j lt port =
        let w = plain.each_input k j lt (omega (arith, port, node_ins k lt)) in
        let v = there ws w.0 (omega (arith, w.1.0, long)) in
        let e = each w.0 v.0 v.1 in
        let l = input_link w.0 v.0 v.1 in
        input_at k j _ l.0 l.1.0 (l.1.1.0 ∙ sym (ap (λ (x : WireEnds). x.to) e) ∙ w.1.1.0) (l.1.1.1 ∙ sym (ap (λ (x : WireEnds). x.input) e) ∙ w.1.1.1)

    no_input : (k j i : ℕ) → k ≡ n + i → i < lanes_in ws → j < more_ins k → InputAt k j
    no_input k j i e lt port = let none : more_ins k ≡ 0 = ap more_ins e ∙ entry_ins i lt in absurd (omega (arith, port, none))

    exit_input : (k j i : ℕ) → k ≡ n + lanes_in ws + i → i < lanes_in ws → j < more_ins k → InputAt k j
    exit_input k j i e lt port =
        let lane = lane_there ws i lt in
        let ports : more_ins k ≡ 1 = ap more_ins e ∙ exit_ins i lt in
        let is : slice_get (whole_links n ws) lane.at ≡ Some (near_at (n + lanes_in ws + lanes_in (take lane.at ws)) lane.at lane.wire (Some lane.size)) =
        near_link lane.at lane.wire lane.is ∙ ap (λ o. Some (near_at (n + lanes_in ws + lanes_in (take lane.at ws)) lane.at lane.wire o)) lane.lane in
        input_at k j lane.at _ is (ap (λ m. n + lanes_in ws + m) lane.number ∙ sym e) (omega (arith, port, ports))

    -- which kind of place this is
    by_place : (P : ℕ → Type 0) → ((k : ℕ) → k < n → P k) → ((k i : ℕ) → k ≡ n + i → i < lanes_in ws → P k) → ((k i : ℕ) → k ≡ n + lanes_in ws + i → i < lanes_in ws → P k) → (k : ℕ) → k < n + lanes_in ws + lanes_in ws → P k
    by_place P a b c k lt =
        ⊎_elim
        (λ (h : k < n). a k h)
        (λ (h : n ≤ k).
        ⊎_elim
        (λ (g : k < n + lanes_in ws). b k (k - n) (omega (arith, h)) (omega (arith, g, h)))
        (λ (g : n + lanes_in ws ≤ k). c k (k - (n + lanes_in ws)) (omega (arith, g)) (omega (arith, g, lt)))
        (split k (n + lanes_in ws)))
        (split k n)
      where
        split : (x y : ℕ) → (x < y) ⊎ (y ≤ x)
        split x zero = inr (omega arith)
        split zero (suc y) = inl (omega arith)
        split (suc x) (suc y) = ⊎_elim (λ (h : x < y). inl (omega (arith, h))) (λ (h : y ≤ x). inr (omega (arith, h))) (split x y)

    pub cut : IsWiring more_ins more_outs (n + lanes_in ws + lanes_in ws) all_ends
    cut = record {
      from_within = λ p lt. by_link (λ e. e.from < n + lanes_in ws + lanes_in ws) p lt (link_from p);
      to_within = λ p lt. by_link (λ e. e.to < n + lanes_in ws + lanes_in ws) p lt (link_to p);
      output_within = λ p lt. by_link (λ e. e.output < more_outs e.from) p lt (link_output p);
      input_within = λ p lt. by_link (λ e. e.input < more_ins e.to) p lt (link_input p);
      one_output = λ p q lp lq e o.
          let l = link_at p lp in
          let m = link_at q lq in
          one_link_out p q l.0 m.0 l.1.0 m.1.0 (sym (ap (λ (x : WireEnds). x.from) l.1.1) ∙ e ∙ ap (λ (x : WireEnds). x.from) m.1.1) (sym (ap (λ (x : WireEnds). x.output) l.1.1) ∙ o ∙ ap (λ (x : WireEnds). x.output) m.1.1);
      one_input = λ p q lp lq e o.
          let l = link_at p lp in
          let m = link_at q lq in
          one_link_in p q l.0 m.0 l.1.0 m.1.0 (sym (ap (λ (x : WireEnds). x.to) l.1.1) ∙ e ∙ ap (λ (x : WireEnds). x.to) m.1.1) (sym (ap (λ (x : WireEnds). x.input) l.1.1) ∙ o ∙ ap (λ (x : WireEnds). x.input) m.1.1);
      each_output = λ k j lt port. by_place (λ i. j < more_outs i → OutputAt i j) (λ i h. node_output i j h) (λ i m e h. entry_output i j m e h) (λ i m e h. no_output i j m e h) k lt port;
      each_input = λ k j lt port. by_place (λ i. j < more_ins i → InputAt i j) (λ i h. node_input i j h) (λ i m e h. no_input i j m e h) (λ i m e h. exit_input i j m e h) k lt port;
    }
