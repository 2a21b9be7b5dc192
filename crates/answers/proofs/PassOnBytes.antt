-- One hop of the search, as the code makes it: held, handed on, and given back where it is rejected.
-- Assumes nothing.
use mathlib.Core.Path.{◌≡◌, refl, ap, sym, ◌∙◌, fun_ext}
use mathlib.Core.Logic.{◌≢◌}
use mathlib.Core.Bool.{Bool, true, false, cond, ◌&&◌, not, and-true, and-false}
use mathlib.Core.List.Memᴰ
use mathlib.Core.List.{List, [], ◌∷◌}
use Prim.Native.Nat.{ℕ, zero, suc, ◌+◌, ◌/◌, ◌%◌, ◌<◌}
use native.Mathlib.Omega.{arith}
use lib.Dec.{eqb}
use lib.ListN.{length, set, get_or, length-set}
use lib.Seq.{set-get_or, set-set, set_comm}
use borrow.Author.Tests.{eq-eqb, ne_eqb, eqb-true, not-false}
use Rattle.common.specs.Lists.{◌∈◌}
use Rattle.cube.specs.Cube.{channels, next}
use Rattle.cube.specs.Helical.{helical}
use Rattle.cube.proofs.Order.{helical_mem}
use Rattle.paths.specs.Network.{Network, Path, offered, Nearing, link_free, link_held, link_blocked, is_free, link_state}
use Rattle.paths.specs.Pass.{PassResult, none, found, scouts}
use Rattle.paths.specs.Send.{Receive, lowest_available, none_available}
use Rattle.paths.specs.Search.{hop_or, trying, arriving, holding}
use Rattle.paths.proofs.Words.{free_link}
use Rattle.paths.proofs.Depth.{trying_cons}
use Rattle.paths.proofs.LinksAhead.{trying_same, holding_after}
use Rattle.layout.specs.Resources.{ports_same, width_in, width_least, IsTable}
use Rattle.layout.specs.Layout.{ports_in, entry_place, link_part, word_at, owner_at, entry_at}
use Rattle.layout.specs.LayoutContracts.{put_word}
use Rattle.entries.specs.EntryContracts.{put_entry, put_owner, Within}
use Rattle.table.specs.View.{View, view, held_in, set_at, set_owner, receive, available}
use Rattle.table.proofs.Receives.{chosen}
use Rattle.layout.proofs.Entries.{within}
use Rattle.table.proofs.Views.{view_put_owner_of}
use Rattle.answers.specs.declared.LinkState as State
use Rattle.answers.specs.declared.LinkState.TheVariants.{Free, Held, Blocked}
use Rattle.answers.specs.SendOnTable.{state_in, free_in, AnswerOnBytes, answer_on_bytes}
use Rattle.answers.specs.PassOnBytes.{hold_path, answer_of_pass, arrival_after, state_of}

-- A hop held and given back leaves each byte as it was.
given_word : (b : List ℕ) (i c : ℕ) → word_at b i ≡ 0 → put_word (put_word b i c) i 0 ≡ b
given_word b i c e =
    let low : get_or b i 0 ≡ 0 = omega arith in
    let high : get_or b (i + 1) 0 ≡ 0 = omega arith in
    let first : set (set (set b i (c % 256)) (i + 1) (c / 256)) i 0 ≡ set (set b i 0) (i + 1) (c / 256) =
    set_comm (set b i (c % 256)) (i + 1) i (c / 256) 0 (λ z. omega arith) ∙ ap (λ x. set x (i + 1) (c / 256)) (set-set b i (c % 256) 0) in
    ap (λ x. set x (i + 1) 0) first ∙ set-set (set b i 0) (i + 1) (c / 256) 0
    ∙ ap (λ x. set x (i + 1) 0) (ap (set b i) (sym low) ∙ set-get_or b i 0)
    ∙ ap (set b (i + 1)) (sym high) ∙ set-get_or b (i + 1) 0

pub given_back_in : (b : List ℕ) (n p c : ℕ) → n < 256 → p < ports_in b → owner_at b n p ≡ 0 → put_owner (put_owner b n p c) n p 0 ≡ b
unfolding put_owner put_entry owner_at entry_at
given_back_in b n p c h l e =
    let place : ℕ = entry_place (ports_in b) (link_part (ports_in b)) n p in
    let long : length (put_word b place c) ≡ length b = length-set (set b place (c % 256)) (place + 1) (c / 256) ∙ length-set b place (c % 256) in
    rw (ports_same b (put_word b place c) long) (given_word b place c (rw (within {w = ports_in b} n p h l) at e))

pub given_back : (b : List ℕ) (n p c : ℕ) → Within b n p → owner_at b n p ≡ 0 → put_owner (put_owner b n p c) n p 0 ≡ b
given_back b n p c w e = given_back_in b n p c w.node (omega (arith, w.port, width_least (width_in b))) e

-- a hop held leaves as many bytes
pub owner_length : (b : List ℕ) (n p c : ℕ) → length (put_owner b n p c) ≡ length b
unfolding put_owner put_entry
owner_length b n p c =
    let place : ℕ = entry_place (ports_in b) (link_part (ports_in b)) n p in
    length-set (set b place (c % 256)) (place + 1) (c / 256) ∙ length-set b place (c % 256)

-- While a link is held, it alone is no longer free.
pub free_held : (v : View) (n p c : ℕ) → c ≢ 0 → free_in (set_owner v n p c) ≡ holding (free_in v) n p
unfolding free_in state_in held_in set_owner set_at holding
free_held v n p c h = fun_ext (λ m. fun_ext (λ q. go (eqb m n && eqb q p) (v.enabled m q) (v.owner m q)))
  where
    held_not_free : (on : Bool) → is_free (link_state on true) ≡ false
    held_not_free true = unfold is_free link_state in refl
    held_not_free false = unfold is_free link_state in refl

    go : (x on : Bool) (o : ℕ) → is_free (link_state on (not (eqb (cond x c o) 0))) ≡ is_free (link_state on (not (eqb o 0))) && not x
    go true on o = rw (ne_eqb c 0 h) (held_not_free on ∙ sym (and-false (is_free (link_state on (not (eqb o 0))))))
    go false on o = sym (and-true (is_free (link_state on (not (eqb o 0)))))

-- the state of a link by its two tests
module _ (v : View) (n p : ℕ) where
  pub state_blocked : v.enabled n p ≡ false → link_blocked ≡ state_in v n p
  unfolding state_in link_state
  state_blocked e = rw e

  module _ {o : ℕ} (on : v.enabled n p ≡ true) (read : o ≡ v.owner n p) where
    pub state_free : o ≡ 0 → link_free ≡ state_in v n p
    unfolding state_in held_in link_state
    state_free z = rw (on, ← read, eq-eqb o 0 z)

    pub state_held : o ≢ 0 → link_held ≡ state_in v n p
    unfolding state_in held_in link_state
    state_held f = rw (on, ← read, ne_eqb o 0 f)

  -- it is free exactly where the code answers that
  answers : {r : State.LinkState} → state_of r ≡ state_in v n p → (x : State.LinkState) → r ≡ x → free_in v n p ≡ is_free (state_of x)
  unfolding free_in
  answers e x q = ap is_free (sym e) ∙ ap (λ y. is_free (state_of y)) q

  pub told_free : {r : State.LinkState} → state_of r ≡ state_in v n p → r ≡ Free → free_in v n p ≡ true
  unfolding is_free
  told_free e q = answers e Free q

  pub told_held : {r : State.LinkState} → state_of r ≡ state_in v n p → r ≡ Held → free_in v n p ≡ false
  unfolding is_free
  told_held e q = answers e Held q

  pub told_blocked : {r : State.LinkState} → state_of r ≡ state_in v n p → r ≡ Blocked → free_in v n p ≡ false
  unfolding is_free
  told_blocked e q = answers e Blocked q

  -- and it is not free where the code answers anything else
  pub told_busy : (r : State.LinkState) → state_of r ≡ state_in v n p → (r ≡ Free → ⊥) → free_in v n p ≡ false
  unfolding is_free
  told_busy Free e f = absurd (f refl)
  told_busy Held e f = answers e Held refl
  told_busy Blocked e f = answers e Blocked refl

pub free_off : (v : View) (n p : ℕ) → v.enabled n p ≡ false → free_in v n p ≡ false
unfolding free_in state_in is_free link_state
free_off v n p e = rw e

-- a link that is free is held by nobody
pub free_owner : (v : View) (n p : ℕ) → free_in v n p ≡ true → v.owner n p ≡ 0
unfolding free_in state_in held_in
free_owner v n p e = eqb-true _ 0 (not-false _ ((free_link _ _).0 e).1)

-- The arrival behind a hop just held finds what it would find on the table before.
module _ (N : Network) (t : ℕ) (near : Nearing N t) (b : List ℕ) (n p c : ℕ) (l : IsTable b) (i : n < 256) (j : p < ports_in b) (small : c < 65536) (h : c ≢ 0) where
  pub arrival_after_lem : (k s : ℕ) → arriving k N (free_in (view (put_owner b n p c))) t (N.next n p) p s ≡ arriving k N (free_in (view b)) t (N.next n p) p s
  arrival_after_lem k s =
      ap (λ f. arriving k N f t (N.next n p) p s) (ap free_in (view_put_owner_of b l n p c i j small) ∙ free_held (view b) n p c h)
      ∙ holding_after near (free_in (view b)) k n p s

-- the parts of an answer
refused_of : AnswerOnBytes → ℕ
refused_of (answer_on_bytes r h k s b) = r

scouts_of : AnswerOnBytes → ℕ
scouts_of (answer_on_bytes r h k s b) = s

bytes_in : AnswerOnBytes → List ℕ
bytes_in (answer_on_bytes r h k s b) = b

with_bytes : List ℕ → AnswerOnBytes → AnswerOnBytes
with_bytes x (answer_on_bytes r h k s b) = answer_on_bytes r h k s x

ten≢zero : (x : ◌≡◌ {A = ℕ} 10 0) → ⊥
ten≢zero x = omega arith

eleven≢zero : (x : ◌≡◌ {A = ℕ} 11 0) → ⊥
eleven≢zero x = omega arith

ten≢eleven : (x : ◌≡◌ {A = ℕ} 10 11) → ⊥
ten≢eleven x = omega arith

one_longer : (h p : ℕ) (w : Path) → h + 1 + length w ≡ h + length (p ∷ w)
one_longer h p w = omega arith

no_longer : (h : ℕ) → h ≡ h + length {A = ℕ} []
no_longer h = omega arith

-- One port of a list tried. `on` is the arrival behind it, and the answer of an arrival is told by its refusal number.
module _ (free : ℕ → Bool) (on : ℕ → ℕ → PassResult) (b : List ℕ) (c n h : ℕ) (r : Receive) (p : ℕ) (ps : List ℕ) (s : ℕ) where
  pub port_busy : free p ≡ false → answer_of_pass b c n h r (trying free on ps s) ≡ answer_of_pass b c n h r (trying free on (p ∷ ps) s)
  port_busy e = ap (answer_of_pass b c n h r) (sym (trying_cons free on p ps s ∙ (rw e)))

  tried : free p ≡ true → trying free on (p ∷ ps) s ≡ hop_or p (on p (suc s)) (trying free on ps)
  tried e = trying_cons free on p ps s ∙ (rw e)

  -- acknowledged: the answer stands, with the hop before its path
  pub port_acknowledged : free p ≡ true → (k hops d : ℕ) (b' : List ℕ) → answer_on_bytes 0 hops k d b' ≡ answer_of_pass (put_owner b n p c) c (next n p) (h + 1) r (on p (suc s))
      → answer_on_bytes 0 hops k d b' ≡ answer_of_pass b c n h r (trying free on (p ∷ ps) s)
  unfolding refused_of
  port_acknowledged e k hops d b' q = q ∙ go r (on p (suc s)) (ap refused_of (sym q)) ∙ ap (answer_of_pass b c n h r) (sym (tried e))
    where
      go : (r : Receive) (a : PassResult) → refused_of (answer_of_pass (put_owner b n p c) c (next n p) (h + 1) r a) ≡ 0
          → answer_of_pass (put_owner b n p c) c (next n p) (h + 1) r a ≡ answer_of_pass b c n h r (hop_or p a (trying free on ps))
      go r (none d) z = absurd (ten≢zero (unfold answer_of_pass refused_of in z))
      go none_available (found w d) z = absurd (eleven≢zero (unfold answer_of_pass refused_of in z))
      go (lowest_available k) (found w d) z =
          unfold answer_of_pass hop_or hold_path in ap (λ x. answer_on_bytes 0 x k d (hold_path (put_owner b n p c) c (next n p) w)) (one_longer h p w)

  -- receive rejected: the hop is given back, and no other port is tried
  pub port_receive_rejected : free p ≡ true → (k hops d : ℕ) (b' : List ℕ) → answer_on_bytes 11 hops k d b' ≡ answer_of_pass (put_owner b n p c) c (next n p) (h + 1) r (on p (suc s))
      → (b' ≡ put_owner b n p c) × (answer_on_bytes 11 hops k d b ≡ answer_of_pass b c n h r (trying free on (p ∷ ps) s))
  port_receive_rejected e k hops d b' q =
      let g = go r (on p (suc s)) q in (g.0, g.1 ∙ ap (answer_of_pass b c n h r) (sym (tried e)))
    where
      go : (r : Receive) (a : PassResult) → answer_on_bytes 11 hops k d b' ≡ answer_of_pass (put_owner b n p c) c (next n p) (h + 1) r a
          → (b' ≡ put_owner b n p c) × (answer_on_bytes 11 hops k d b ≡ answer_of_pass b c n h r (hop_or p a (trying free on ps)))
      go r (none d) z = absurd (ten≢eleven (sym (unfold answer_of_pass refused_of in ap refused_of z)))
      go (lowest_available k) (found w d) z = absurd (eleven≢zero (unfold answer_of_pass refused_of in ap refused_of z))
      go none_available (found w d) z = (unfold answer_of_pass bytes_in in ap bytes_in z, unfold answer_of_pass hop_or with_bytes in ap (with_bytes b) z)

  -- route rejected: the hop is given back, and the next port is tried with the scouts sent by then
  pub port_route_rejected : free p ≡ true → (k hops d : ℕ) (b' : List ℕ) → answer_on_bytes 10 hops k d b' ≡ answer_of_pass (put_owner b n p c) c (next n p) (h + 1) r (on p (suc s))
      → (b' ≡ put_owner b n p c) × (answer_of_pass b c n h r (trying free on ps d) ≡ answer_of_pass b c n h r (trying free on (p ∷ ps) s))
  port_route_rejected e k hops d b' q =
      let g = go r (on p (suc s)) q in (g.0, ap (answer_of_pass b c n h r) (g.1 ∙ sym (tried e)))
    where
      go : (r : Receive) (a : PassResult) → answer_on_bytes 10 hops k d b' ≡ answer_of_pass (put_owner b n p c) c (next n p) (h + 1) r a
          → (b' ≡ put_owner b n p c) × (trying free on ps d ≡ hop_or p a (trying free on ps))
      go r (none d) z = (unfold answer_of_pass bytes_in in ap bytes_in z, unfold answer_of_pass hop_or scouts_of in ap (λ x. trying free on ps (scouts_of x)) z)
      go (lowest_available k) (found w d) z = absurd (ten≢zero (unfold answer_of_pass refused_of in ap refused_of z))
      go none_available (found w d) z = absurd (ten≢eleven (unfold answer_of_pass refused_of in ap refused_of z))

-- the scouts of an answer are those of the pass
pub answer_scouts : (b : List ℕ) (c n h : ℕ) (r : Receive) (a : PassResult) (x k hops s : ℕ) (b' : List ℕ) → answer_on_bytes x hops k s b' ≡ answer_of_pass b c n h r a → s ≡ scouts a
unfolding answer_of_pass scouts_of scouts
answer_scouts b c n h r (none d) x k hops s b' e = ap scouts_of e
answer_scouts b c n h (lowest_available j) (found w d) x k hops s b' e = ap scouts_of e
answer_scouts b c n h none_available (found w d) x k hops s b' e = ap scouts_of e

-- no port left
pub ports_over : (free : ℕ → Bool) (on : ℕ → ℕ → PassResult) (b : List ℕ) (c n h : ℕ) (r : Receive) (s : ℕ) → answer_on_bytes 10 0 0 s b ≡ answer_of_pass b c n h r (trying free on [] s)
unfolding trying answer_of_pass
ports_over free on b c n h r s = refl

-- An arrival: at the target, its lowest receive channel or a rejection; elsewhere, the trying of the ports offered there.
module _ (N : Network) (free : ℕ → ℕ → Bool) (t n a s : ℕ) where
  pub at_target : (k : ℕ) → n ≡ t → arriving k N free t n a s ≡ found [] s
  unfolding arriving
  at_target zero e = rw (eq-eqb n t e)
  at_target (suc k) e = rw (eq-eqb n t e)

  pub arrives : Nearing N t → n ≢ t → trying (free n) (arrival_after N free t n) (helical a (offered N t n)) s ≡ arriving (N.distance t n) N free t n a s
  unfolding arrival_after
  arrives near h = go (N.distance t n) refl
    where
      nothing : (ps : List ℕ) → ((p : ℕ) → p ∈ ps → ⊥) → ps ≡ []
      nothing [] f = refl
      nothing (p ∷ ps) f = absurd (f p (Memᴰ.head refl))

      go : (k : ℕ) → N.distance t n ≡ k → trying (free n) (arrival_after N free t n) (helical a (offered N t n)) s ≡ arriving k N free t n a s
      go zero e =
          let none_offered : offered N t n ≡ [] = nothing (offered N t n) (λ p m. omega (arith, near.nearer n p m)) in
          rw none_offered (unfold arriving trying helical in rw (ne_eqb n t h))
      go (suc k) e =
          unfold arriving in rw (ne_eqb n t h)
          (trying_same (helical a (offered N t n)) (λ p m. refl)
          (λ p m d. let q : N.distance t (N.next n p) ≡ k = omega (arith, near.nearer n p (helical_mem a _ m)) in ap (λ j. arriving j N free t (N.next n p) p d) q) s)

-- the receive channel that a target takes is one of its eight
pub receive_small : (v : View) (t k : ℕ) → receive v t ≡ lowest_available k → k < channels
unfolding receive
receive_small v t k e = (chosen (available v t) k e).0
