-- Actions without the pulls that they take back themselves lead to the same, and pull no input that they cancel.
use Rattle.std.specs.Prelude.{slice_set, slice_index_or, if◌then◌else◌}
use Rattle.std.proofs.Common.{◌≡◌, ◌≢◌, ◌⊎◌, inl, inr, ℕ, zero, suc, ◌<◌, Bool, true, false, List, [], ◌∷◌, ◌++◌, ◌+◌, ◌≤◌, drop, take, length, refl, sym, ap, ◌∙◌, subst, arith, append_assoc, append-nil, length-append, get_or-set_same, get_or-set_other}
use Rattle.port_core.specs.declared.act.Act.{Act}
use Rattle.port_core.specs.declared.act.Act.TheVariants as act
use Rattle.port_core.specs.declared.view.InView.{InView}
use Rattle.port_core.specs.declared.view.InView.TheVariants.{Idle, Pulled, Finished, Cancelled}
use Rattle.port_core.specs.declared.view.OutView.{OutView}
use Rattle.port_core.specs.declared.view.OutView.TheVariants as outlet
use Rattle.port_core.specs.View.{View, in_at, with_in, with_out, IsInOpen, ActAllowed, acted, ActsAllowed, acted_all}
use Rattle.port_core.specs.Asking.{NoCancel, PullsStand}
use Rattle.graph_stage.specs.declared.sight.InSight.{InSight}
use Rattle.graph_stage.specs.OwnView.{Seen, no_input, input_at, is_closed_in}
use Rattle.graph_stage.specs.Ports.{SeesIn, SeesIns, Sees}
use Rattle.graph_stage.specs.Standing.{is_taken_back, without_taken_back, first_turned}
use Rattle.graph_stage.proofs.Sees.{at_sees_in}

-- ---- two views that differ at inputs alone that were pulled in one of them, and are closed in the end

abbrev NearIn : InView → InView → InSight → Type 0
NearIn v w x = (v ≡ w) ⊎ ((v ≡ Pulled) × ((w ≡ Idle) × (x.closed ≡ true)))

abbrev NearIns : List InView → List InView → List InSight → Type 0
NearIns [] [] [] = Unit {0}
NearIns (v ∷ vs) (w ∷ ws) (x ∷ xs) = NearIn v w x × NearIns vs ws xs
NearIns _ _ _ = ⊥

record Near (s : Seen) (v w : View) : Type 0 where
  pub ins : NearIns v.ins w.ins s.ins
  pub outs : v.outs ≡ w.outs

at_near : (vs ws : List InView) (xs : List InSight) (i : ℕ) → NearIns vs ws xs → NearIn (slice_index_or vs i Cancelled) (slice_index_or ws i Cancelled) (slice_index_or xs i no_input)
at_near [] [] [] i h = inl refl
at_near (v ∷ vs) (w ∷ ws) (x ∷ xs) zero h = h.0
at_near (v ∷ vs) (w ∷ ws) (x ∷ xs) (suc i) h = at_near vs ws xs i h.1
at_near [] [] (x ∷ xs) i h = absurd h
at_near [] (w ∷ ws) xs i h = absurd h
at_near (v ∷ vs) [] xs i h = absurd h
at_near (v ∷ vs) (w ∷ ws) [] i h = absurd h

set_near : (vs ws : List InView) (xs : List InSight) (i : ℕ) (a b : InView) → NearIns vs ws xs → NearIn a b (slice_index_or xs i no_input) → NearIns (slice_set vs i a) (slice_set ws i b) xs
set_near [] [] [] i a b h k = h
set_near (v ∷ vs) (w ∷ ws) (x ∷ xs) zero a b h k = (k, h.1)
set_near (v ∷ vs) (w ∷ ws) (x ∷ xs) (suc i) a b h k = (h.0, set_near vs ws xs i a b h.1 k)
set_near [] [] (x ∷ xs) i a b h k = absurd h
set_near [] (w ∷ ws) xs i a b h k = absurd h
set_near (v ∷ vs) [] xs i a b h k = absurd h
set_near (v ∷ vs) (w ∷ ws) [] i a b h k = absurd h

one_same : (v w : InView) (x : InSight) → SeesIn v x → NearIn v w x → w ≡ v
one_same v w x h (inl e) = sym e
one_same v w x h (inr k) = let o = subst (λ (z : InView). SeesIn z x) k.0 h in let c = o.1 in let d = k.1.1 in cc

ins_same : (vs ws : List InView) (xs : List InSight) → SeesIns vs xs → NearIns vs ws xs → ws ≡ vs
ins_same [] [] [] h k = refl
ins_same (v ∷ vs) (w ∷ ws) (x ∷ xs) h k = let a = one_same v w x h.0 k.0 in let b = ins_same vs ws xs h.1 k.1 in cc (a, b)
ins_same [] [] (x ∷ xs) h k = absurd k
ins_same [] (w ∷ ws) xs h k = absurd k
ins_same (v ∷ vs) [] xs h k = absurd k
ins_same (v ∷ vs) (w ∷ ws) [] h k = absurd k

idle_too : (v w : InView) (x : InSight) → NearIn v w x → v ≡ Idle → w ≡ Idle
idle_too v w x (inl e) i = sym e ∙ i
idle_too v w x (inr k) i = let p = k.0 in cc

open_too : (v w : InView) (x : InSight) → NearIn v w x → IsInOpen v → IsInOpen w
open_too v w x (inl e) o = subst IsInOpen e o
open_too v w x (inr k) o = subst IsInOpen (sym k.1.0) tt

-- ---- the same comes of both

record Stands (s : Seen) (v w : View) (acts : List Act) : Type 0 where
  pub allowed : ActsAllowed w (without_taken_back s acts)
  pub is : acted_all w (without_taken_back s acts) ≡ acted_all v acts

both_out : (s : Seen) (v w : View) (j : ℕ) (y : OutView) → Near s v w → Near s (with_out v j y) (with_out w j y)
both_out s v w j y n = record { ins = n.ins; outs = ap (λ (os : List OutView). slice_set os j y) n.outs }

both_in : (s : Seen) (v w : View) (i : ℕ) (a b : InView) → Near s v w → NearIn a b (input_at s i) → Near s (with_in v i a) (with_in w i b)
both_in s v w i a b n k = record { ins = set_near v.ins w.ins s.ins i a b n.ins k; outs = n.outs }

next : (s : Seen) (v w : View) (a : Act) (acts : List Act) → ActAllowed w a → Stands s (acted v a) (acted w a) acts → (without_taken_back s (a ∷ acts) ≡ a ∷ without_taken_back s acts) → Stands s v w (a ∷ acts)
next s v w a acts may r e = record {
  allowed = subst (λ (z : List Act). ActsAllowed w z) (sym e) (may, r.allowed);
  is = ap (λ (z : List Act). acted_all w z) e ∙ r.is;
}

pull_by : (s : Seen) (v w : View) (i : ℕ) (acts : List Act) (b : Bool) → is_closed_in s i ≡ b → Near s v w → in_at v i ≡ Idle
    → ((w' : View) → Near s (acted v (act.Pull i)) w' → Stands s (acted v (act.Pull i)) w' acts) → Stands s v w (act.Pull i ∷ acts)
pull_by s v w i acts true e n idle go =
    let idle_w = idle_too (in_at v i) (in_at w i) (input_at s i) (at_near v.ins w.ins s.ins i n.ins) idle in
    let same : slice_set w.ins i Idle ≡ w.ins = set_idle w.ins i idle_w in
    let near : Near s (with_in v i Pulled) w = subst (λ (z : List InView). Near s (with_in v i Pulled) (record w { ins = z })) same (both_in s v w i Pulled Idle n (inr (refl, (refl, e)))) in
    let r = go w near in
    let drop : without_taken_back s (act.Pull i ∷ acts) ≡ without_taken_back s acts = ap (λ (c : Bool). if c then without_taken_back s acts else act.Pull i ∷ without_taken_back s acts) e in
    record {
      allowed = subst (λ (z : List Act). ActsAllowed w z) (sym drop) r.allowed;
      is = ap (λ (z : List Act). acted_all w z) drop ∙ r.is;
    }
  where
    set_idle : (ws : List InView) (k : ℕ) → slice_index_or ws k Cancelled ≡ Idle → slice_set ws k Idle ≡ ws
    set_idle [] k h = cc
    set_idle (z ∷ ws) zero h = let x : z ≡ Idle = h in cc
    set_idle (z ∷ ws) (suc k) h = ap (λ (us : List InView). z ∷ us) (set_idle ws k h)
pull_by s v w i acts false e n idle go =
    let idle_w = idle_too (in_at v i) (in_at w i) (input_at s i) (at_near v.ins w.ins s.ins i n.ins) idle in
    let keep : without_taken_back s (act.Pull i ∷ acts) ≡ act.Pull i ∷ without_taken_back s acts = ap (λ (c : Bool). if c then without_taken_back s acts else act.Pull i ∷ without_taken_back s acts) e in
    next s v w (act.Pull i) acts idle_w (go (with_in w i Pulled) (both_in s v w i Pulled Pulled n (inl refl))) keep

stand : (s : Seen) (v w : View) (acts : List Act) → Near s v w → ActsAllowed v acts → Sees (acted_all v acts) s → Stands s v w acts
stand s v w [] n may sees = record { allowed = tt; is = ap (λ (x : List InView). let z : View = record { ins = x; outs = w.outs } in z) (ins_same v.ins w.ins s.ins sees.ins n.ins) ∙ ap (λ (y : List OutView). let z : View = record { ins = v.ins; outs = y } in z) (sym n.outs) }
stand s v w (act.Pull i ∷ acts) n may sees = pull_by s v w i acts (is_closed_in s i) refl n may.0 (λ w' near. stand s (acted v (act.Pull i)) w' acts near may.1 sees)
stand s v w (act.Push j e ∷ acts) n may sees =
    next s v w (act.Push j e) acts (subst (λ (os : List OutView). slice_index_or os j outlet.Closed ≡ outlet.Available) n.outs may.0) (stand s (acted v (act.Push j e)) (acted w (act.Push j e)) acts (both_out s v w j outlet.Unpulled n) may.1 sees) refl
stand s v w (act.Complete j ∷ acts) n may sees =
    next s v w (act.Complete j) acts (subst (λ (os : List OutView). ActAllowed (record w { outs = os }) (act.Complete j)) n.outs may.0) (stand s (acted v (act.Complete j)) (acted w (act.Complete j)) acts (both_out s v w j outlet.Closed n) may.1 sees) refl
stand s v w (act.FailOut j c ∷ acts) n may sees =
    next s v w (act.FailOut j c) acts (subst (λ (os : List OutView). ActAllowed (record w { outs = os }) (act.FailOut j c)) n.outs may.0) (stand s (acted v (act.FailOut j c)) (acted w (act.FailOut j c)) acts (both_out s v w j outlet.Closed n) may.1 sees) refl
stand s v w (act.Cancel i ∷ acts) n may sees =
    next s v w (act.Cancel i) acts (open_too (in_at v i) (in_at w i) (input_at s i) (at_near v.ins w.ins s.ins i n.ins) may.0)
    (stand s (acted v (act.Cancel i)) (acted w (act.Cancel i)) acts (both_in s v w i Cancelled Cancelled n (inl refl)) may.1 sees) refl

near_self : (vs : List InView) (xs : List InSight) → length vs ≡ length xs → NearIns vs vs xs
near_self [] [] h = tt
near_self (v ∷ vs) (x ∷ xs) h = (inl refl, near_self vs xs (omega (arith, h)))
near_self [] (x ∷ xs) h = absurd (omega (arith, h))
near_self (v ∷ vs) [] h = absurd (omega (arith, h))

-- ---- none cancels an input that it pulled

in_range : (vs : List InView) (i : ℕ) → IsInOpen (slice_index_or vs i Cancelled) → i < length vs
in_range [] i h = absurd h
in_range (v ∷ vs) zero h = omega arith
in_range (v ∷ vs) (suc i) h = let r = in_range vs i h in omega (arith, r)

still_cancelled : (v : View) (i : ℕ) (acts : List Act) → ActsAllowed v acts → in_at v i ≡ Cancelled → in_at (acted_all v acts) i ≡ Cancelled
still_cancelled v i [] may h = h
still_cancelled v i (act.Pull k ∷ acts) may h = still_cancelled (acted v (act.Pull k)) i acts may.1 (get_or-set_other v.ins k i Pulled Cancelled (λ e. idle_is_not (sym (ap (λ (z : ℕ). in_at v z) e) ∙ h) may.0) ∙ h)
  where
    idle_is_not : {a : InView} → a ≡ Cancelled → a ≡ Idle → ⊥
    idle_is_not x y = cc
still_cancelled v i (act.Push j e ∷ acts) may h = still_cancelled (acted v (act.Push j e)) i acts may.1 h
still_cancelled v i (act.Complete j ∷ acts) may h = still_cancelled (acted v (act.Complete j)) i acts may.1 h
still_cancelled v i (act.FailOut j c ∷ acts) may h = still_cancelled (acted v (act.FailOut j c)) i acts may.1 h
still_cancelled v i (act.Cancel k ∷ acts) may h = still_cancelled (acted v (act.Cancel k)) i acts may.1 (get_or-set_other v.ins k i Cancelled Cancelled (λ e. closed_is_not (in_at v k) (sym (ap (λ (z : ℕ). in_at v z) e) ∙ h) may.0) ∙ h)
  where
    closed_is_not : (a : InView) → a ≡ Cancelled → IsInOpen a → ⊥
    closed_is_not a e o = subst IsInOpen e o

no_cancel : (s : Seen) (v : View) (i : ℕ) (acts : List Act) → ActsAllowed v acts → Sees (acted_all v acts) s → is_closed_in s i ≡ false → NoCancel i acts
no_cancel s v i [] may sees c = tt
no_cancel s v i (act.Pull k ∷ acts) may sees c = no_cancel s (acted v (act.Pull k)) i acts may.1 sees c
no_cancel s v i (act.Push j e ∷ acts) may sees c = no_cancel s (acted v (act.Push j e)) i acts may.1 sees c
no_cancel s v i (act.Complete j ∷ acts) may sees c = no_cancel s (acted v (act.Complete j)) i acts may.1 sees c
no_cancel s v i (act.FailOut j e ∷ acts) may sees c = no_cancel s (acted v (act.FailOut j e)) i acts may.1 sees c
no_cancel s v i (act.Cancel k ∷ acts) may sees c = (
  (λ same.
      let here : in_at (acted v (act.Cancel k)) k ≡ Cancelled = get_or-set_same v.ins k Cancelled Cancelled (in_range v.ins k may.0) in
      let end = still_cancelled (acted v (act.Cancel k)) k acts may.1 here in
      let seen = subst (λ (z : InView). SeesIn z (input_at s k)) end (at_sees_in (acted_all (acted v (act.Cancel k)) acts).ins s.ins k sees.ins) in
      let open' : is_closed_in s k ≡ false = subst (λ (z : ℕ). is_closed_in s z ≡ false) (sym same) c in
      let shut : is_closed_in s k ≡ true = seen in
      cc),
  no_cancel s (acted v (act.Cancel k)) i acts may.1 sees c,
)

fewer : (s : Seen) (i : ℕ) (acts : List Act) → NoCancel i acts → NoCancel i (without_taken_back s acts)
fewer s i [] h = tt
fewer s i (act.Pull k ∷ acts) h = by (is_closed_in s k) (fewer s i acts h)
  where
    by : (b : Bool) → NoCancel i (without_taken_back s acts) → NoCancel i (if b then without_taken_back s acts else act.Pull k ∷ without_taken_back s acts)
    by true g = g
    by false g = g
fewer s i (act.Push j e ∷ acts) h = fewer s i acts h
fewer s i (act.Complete j ∷ acts) h = fewer s i acts h
fewer s i (act.FailOut j e ∷ acts) h = fewer s i acts h
fewer s i (act.Cancel k ∷ acts) h = (h.0, fewer s i acts h.1)

pulls_stand : (s : Seen) (v : View) (acts : List Act) → ActsAllowed v acts → Sees (acted_all v acts) s → PullsStand (without_taken_back s acts)
pulls_stand s v [] may sees = tt
pulls_stand s v (act.Pull i ∷ acts) may sees = by (is_closed_in s i) refl (pulls_stand s (acted v (act.Pull i)) acts may.1 sees)
  where
    by : (b : Bool) → is_closed_in s i ≡ b → PullsStand (without_taken_back s acts) → PullsStand (if b then without_taken_back s acts else act.Pull i ∷ without_taken_back s acts)
    by true e g = g
    by false e g = (fewer s i acts (no_cancel s (acted v (act.Pull i)) i acts may.1 sees e), g)
pulls_stand s v (act.Push j e ∷ acts) may sees = pulls_stand s (acted v (act.Push j e)) acts may.1 sees
pulls_stand s v (act.Complete j ∷ acts) may sees = pulls_stand s (acted v (act.Complete j)) acts may.1 sees
pulls_stand s v (act.FailOut j c ∷ acts) may sees = pulls_stand s (acted v (act.FailOut j c)) acts may.1 sees
pulls_stand s v (act.Cancel i ∷ acts) may sees = pulls_stand s (acted v (act.Cancel i)) acts may.1 sees

-- what is left is allowed, leads to the same, and pulls no input that it cancels
pub record TakenBack (s : Seen) (v : View) (acts : List Act) : Type 0 where
  pub allowed : ActsAllowed v (without_taken_back s acts)
  pub is : acted_all v (without_taken_back s acts) ≡ acted_all v acts
  pub stands : PullsStand (without_taken_back s acts)

pub taken_back : (s : Seen) (v : View) (acts : List Act) → length v.ins ≡ length s.ins → ActsAllowed v acts → Sees (acted_all v acts) s → TakenBack s v acts
taken_back s v acts same may sees = let r = stand s v v acts (record { ins = near_self v.ins s.ins same; outs = refl }) may sees in record { allowed = r.allowed; is = r.is; stands = pulls_stand s v acts may sees }

-- ---- a walk over all

record NextOf (acts : List Act) (i : ℕ) : Type 0 where
  pub act : Act
  pub drop_is : drop i acts ≡ act ∷ drop (suc i) acts
  pub take_is : take (suc i) acts ≡ take i acts ++ act ∷ []

next_of : (acts : List Act) (i : ℕ) → i < length acts → NextOf acts i
next_of [] i h = absurd (omega (arith, h))
next_of (a ∷ acts) zero h = record { act = a; drop_is = refl; take_is = refl }
next_of (a ∷ acts) (suc i) h = let r = next_of acts i (omega (arith, h)) in record { act = r.act; drop_is = r.drop_is; take_is = ap (λ (z : List Act). a ∷ z) r.take_is }

one_more : (s : Seen) (acts : List Act) (a : Act) → without_taken_back s (acts ++ a ∷ []) ≡ without_taken_back s acts ++ without_taken_back s (a ∷ [])
one_more s [] a = refl
one_more s (x ∷ acts) a = by (is_taken_back s x) (one_more s acts a)
  where
    by : (b : Bool) → without_taken_back s (acts ++ a ∷ []) ≡ without_taken_back s acts ++ without_taken_back s (a ∷ [])
        → (if b then without_taken_back s (acts ++ a ∷ []) else x ∷ without_taken_back s (acts ++ a ∷ [])) ≡ (if b then without_taken_back s acts else x ∷ without_taken_back s acts) ++ without_taken_back s (a ∷ [])
    by true e = e
    by false e = ap (λ (z : List Act). x ∷ z) e

turned_by : (a : Act) (rest done : List Act) (b : Bool) → (if b then rest ++ done else (rest ++ done) ++ a ∷ []) ≡ rest ++ (done ++ (if b then [] else a ∷ []))
turned_by a rest done true = ap (λ (z : List Act). rest ++ z) (sym (append-nil done))
turned_by a rest done false = append_assoc rest done (a ∷ [])

turned_on : (s : Seen) (acts : List Act) (i : ℕ) → i < length acts
    → first_turned s (drop i acts ++ without_taken_back s (take i acts)) ≡ drop (suc i) acts ++ without_taken_back s (take (suc i) acts)
turned_on s acts i h =
    let n = next_of acts i h in
    ap (λ (z : List Act). first_turned s (z ++ without_taken_back s (take i acts))) n.drop_is
    ∙ turned_by n.act (drop (suc i) acts) (without_taken_back s (take i acts)) (is_taken_back s n.act)
    ∙ ap (λ (z : List Act). drop (suc i) acts ++ z) (sym (one_more s (take i acts) n.act))
    ∙ ap (λ (z : List Act). drop (suc i) acts ++ without_taken_back s z) (sym n.take_is)

pub turned_fits : (s : Seen) (acts : List Act) → length (first_turned s acts) ≤ length acts
turned_fits s [] = omega arith
turned_fits s (a ∷ acts) = by (is_taken_back s a)
  where
    by : (b : Bool) → length (if b then acts else acts ++ a ∷ []) ≤ length (a ∷ acts)
    by true = omega arith
    by false = let l = length-append acts (a ∷ []) in omega (arith, l)

pub turned_next : (s : Seen) (acts : List Act) (i : ℕ) → i < length acts
    → first_turned s (drop i acts ++ without_taken_back s (take i acts)) ≡ drop (i + 1) acts ++ without_taken_back s (take (i + 1) acts)
turned_next s acts i h =
    let e : suc i ≡ i + 1 = omega arith in
    subst (λ (k : ℕ). first_turned s (drop i acts ++ without_taken_back s (take i acts)) ≡ drop k acts ++ without_taken_back s (take k acts)) e (turned_on s acts i h)
