-- The cube of every dimension and fold mask is a network of which the theorems hold.
-- Assumes nothing.
use mathlib.Core.Path.{◌≡◌, refl, ap, sym, ◌∙◌}
use mathlib.Core.Logic.{◌≢◌, ◌↔◌}
use mathlib.Core.Bool.{Bool, true, false, not, ◌&&◌, ◌||◌, and-false}
use mathlib.Core.List.Memᴰ
use mathlib.Core.List.{List, [], ◌∷◌, ◌++◌}
use Prim.Native.Nat.{ℕ, suc, ◌+◌, ◌-◌, ◌*◌, ◌≤◌, ◌<◌}
use native.Mathlib.Omega.{arith}
use lib.Dec.{eqb, ltb}
use lib.ListN.{length, length-append}
use lib.Bits.{bit_xor, xor_lt}
use borrow.Author.Tests.{eqb-true, eq-eqb, lt-ltb, le-ltb, not-true, not-false}
use Rattle.common.specs.Lists.{◌∈◌, keep, from, Pairwise}
use Rattle.common.proofs.Tests.{is_false}
use Rattle.common.proofs.Lists.{keep_yes, keep_no, keep_append, keep_same, keep_all, keep_none, keep_keep, keep_mem, mem_keep, keep_pairwise, length_keep, length_parts}
use Rattle.common.proofs.From.{keep_wider, from_mem, from_pairwise, from_split, from_below, below_from, kept_below, below_kept, length_from}
use Rattle.cube.specs.Bits.{bit_at, has, flip}
use Rattle.cube.specs.Cube.{largest_dimension, uphill}
use Rattle.cube.specs.Axes.{axis, present}
use Rattle.cube.specs.Helical.{ports_of}
use Rattle.cube.proofs.Bits.{two_bits, bit_lt, bit_flipped, bit_kept, flip_inside, same_bits, zero_has}
use Rattle.cube.proofs.Ports.{uphill_of}
use Rattle.cube.proofs.Order.{ports_wider}
use Rattle.cube.proofs.Axes.{axis_low, present_low, present_axis}
use Rattle.paths.specs.Network.{Path, offered, Nearing, Leading}
use Rattle.paths.specs.Permitted.{Permitted}
use Rattle.paths.specs.Sentences.{Says}
use Rattle.paths.specs.Pass.{pass, scouts}
use Rattle.paths.specs.CubeNetwork.{Shape, Node, axes, ports, network, send_ports, other_ports}
use Rattle.paths.proofs.Links.{permitted_length}
use Rattle.paths.proofs.Sentences.{pass_says}
use Rattle.paths.proofs.Bound.{Cubical, others, two_passes_bound}

-- the bit that a hop changes is uphill behind it exactly where it was not before, and the others stay as they were
pub uphill_flipped : (t n p : ℕ) → uphill t (flip n p) p ≡ not (uphill t n p)
unfolding uphill
uphill_flipped t n p = rw (bit_flipped n p) (two_bits (λ x y. not (eqb (1 - x) y) ≡ not (not (eqb x y))) refl refl refl refl (bit_at n p) (bit_at t p) (bit_lt n p) (bit_lt t p))

pub uphill_kept : (t n p q : ℕ) → q ≢ p → uphill t n q ≡ uphill t (flip n p) q
unfolding uphill
uphill_kept t n p q h = ap (λ x. not (eqb x (bit_at t q))) (sym (bit_kept n p q h))

pub uphill_there : (t p : ℕ) → uphill t t p ≡ false
unfolding uphill
uphill_there t p = ap not (eq-eqb (bit_at t p) (bit_at t p) refl)

same_bit : (t n p : ℕ) → uphill t n p ≡ false → bit_at n p ≡ bit_at t p
unfolding uphill
same_bit t n p e = eqb-true _ _ (not-false _ e)

-- of two tests that differ at one number below D alone, one keeps one number more
one_more : (f g : ℕ → Bool) (p D : ℕ) → p < D → f p ≡ true → g p ≡ false → ((q : ℕ) → q ≢ p → f q ≡ g q) → length (keep f (from 0 D)) ≡ suc (length (keep g (from 0 D)))
one_more f g p D l on off same =
    let below = ap length (keep_same f g (from 0 p) (λ q m. same q (λ e. omega (arith, from_below p q m)))) in
    let above = ap length (keep_same f g (from (suc p) (D - suc p)) (λ q m. same q (λ e. omega (arith, (from_mem (suc p) (D - suc p) m).0)))) in
    omega (arith, parts f, parts g, below, above, ap length (keep_yes f p (from (suc p) (D - suc p)) on), ap length (keep_no g p (from (suc p) (D - suc p)) off))
  where
    split : from 0 D ≡ from 0 p ++ p ∷ from (suc p) (D - suc p)
    split =
        let whole : D ≡ p + suc (D - suc p) = omega arith in
        let start : 0 + p ≡ p = omega arith in
        ap (from 0) whole ∙ rw start at (from_split 0 p (D - suc p))

    parts : (h : ℕ → Bool) → length (keep h (from 0 D)) ≡ length (keep h (from 0 p)) + length (keep h (p ∷ from (suc p) (D - suc p)))
    parts h = ap (λ xs. length (keep h xs)) split ∙ ap length (keep_append h (from 0 p) _) ∙ length-append (keep h (from 0 p)) _

-- at most m links to an axis: the ports whose axis passes a test are no more than m times the axes that pass it
pub record LinksEach (S : Shape) (m : ℕ) : Type 0 where
  pub most : (g : ℕ → Bool) → length (keep (λ q. g (axis q)) (ports S)) ≤ m * length (keep g (axes S))

module _ (S : Shape) where
  -- the ports listed are those that are there; the axis of each is below D, and every number below D is one
  pub port_there : (q : ℕ) → q ∈ ports S → present S.dimension S.fold q ≡ true
  unfolding ports
  port_there q m = (kept_below (present S.dimension S.fold) 18 q m).1

  pub port_axis : (q : ℕ) → q ∈ ports S → axis q < S.dimension
  port_axis q m = (present_axis S.dimension S.fold q (port_there q m)).1

  low_port : S.dimension ≤ largest_dimension → (p : ℕ) → p < S.dimension → p ∈ ports S
  unfolding ports
  low_port h p l = below_kept (present S.dimension S.fold) 18 p (omega arith) (present_low S.dimension S.fold p (omega arith) ∙ lt-ltb p S.dimension l)

  ports_rise : Pairwise ◌<◌ (ports S)
  unfolding ports
  ports_rise = keep_pairwise _ ◌<◌ _ (from_pairwise 0 18)

  pub ports_few : length (ports S) ≤ 18
  unfolding ports
  ports_few = omega (arith, length_keep (present S.dimension S.fold) (from 0 18), length_from 0 18)

  -- of a port, whether it is offered is whether its axis is uphill
  port_offers : (t n q : ℕ) → q ∈ ports S → (network S).offers t n q ≡ uphill t n (axis q)
  unfolding network
  port_offers t n q m = rw (port_there q m)

  pub offered_is : (t n : ℕ) → offered (network S) t n ≡ keep (λ q. uphill t n (axis q)) (ports S)
  unfolding offered network ports
  offered_is t n = sym (keep_keep (λ q. uphill t n (axis q)) (present S.dimension S.fold) (from 0 18))

  pub offered_port : (t n q : ℕ) → q ∈ offered (network S) t n → (q ∈ ports S) × (uphill t n (axis q) ≡ true)
  offered_port t n q m = keep_mem (λ q. uphill t n (axis q)) (ports S) (rw (offered_is t n) at m)

  pub port_offered : (t n q : ℕ) → q ∈ ports S → uphill t n (axis q) ≡ true → q ∈ offered (network S) t n
  port_offered t n q m u = rw (offered_is t n) (mem_keep (λ q. uphill t n (axis q)) (ports S) m u)

  -- a hop over a port stays in the cube
  pub port_inside : (n q : ℕ) → Node S n → q ∈ ports S → Node S ((network S).next n q)
  unfolding network
  port_inside n q i m = flip_inside S.dimension n (axis q) i (port_axis q m)

  -- A hop over a port of uphill axis comes one nearer, over another it leads one farther.
  nearer : (t n q : ℕ) → q ∈ ports S → uphill t n (axis q) ≡ true → (network S).distance t n ≡ suc ((network S).distance t ((network S).next n q))
  unfolding network
  nearer t n q m u = one_more (uphill t n) (uphill t (flip n (axis q))) (axis q) S.dimension (port_axis q m) u (uphill_flipped t n (axis q) ∙ ap not u) (uphill_kept t n (axis q))

  farther : (t n q : ℕ) → q ∈ ports S → uphill t n (axis q) ≡ false → (network S).distance t ((network S).next n q) ≡ suc ((network S).distance t n)
  unfolding network
  farther t n q m e =
      one_more (uphill t (flip n (axis q))) (uphill t n) (axis q) S.dimension (port_axis q m) (uphill_flipped t n (axis q) ∙ ap not e) e (λ a k. sym (uphill_kept t n (axis q) a k))

  -- Offered hops come one nearer,
  pub cube_nearing : (t : ℕ) → Nearing (network S) t
  cube_nearing t = record { nearer = λ n q m. let k = offered_port t n q m in nearer t n q k.0 k.1 }

  -- and off the target something is offered.
  pub cube_leading : S.dimension ≤ largest_dimension → (t : ℕ) → Node S t → Leading (network S) t (Node S)
  cube_leading h t l =
      record {
        inside = λ n q i m. port_inside n q i (offered_port t n q m).0;
        leads = λ n i ne. some n i ne (offered (network S) t n) refl;
      }
    where
      none_uphill : (n : ℕ) → offered (network S) t n ≡ [] → (p : ℕ) → p < S.dimension → uphill t n p ≡ false
      none_uphill n e p k = is_false (uphill t n p) (λ u. Memᴰ.not-nil (rw e at (port_offered t n p (low_port h p k) (rw (axis_low p (omega arith)) u))))

      some : (n : ℕ) → Node S n → n ≢ t → (ps : List ℕ) → offered (network S) t n ≡ ps → (q : ℕ) × (q ∈ offered (network S) t n)
      some n i ne [] e = absurd (ne (same_bits S.dimension n t i l (λ p k. same_bit t n p (none_uphill n e p k))))
      some n i ne (q ∷ qs) e = (q, rw e (Memᴰ.head refl))

  pub distance_within : (t n : ℕ) → (network S).distance t n ≤ S.dimension
  unfolding network
  distance_within t n = omega (arith, length_keep (uphill t n) (from 0 S.dimension), length_from 0 S.dimension)

  -- With m links to an axis it offers at most m ports for each hop that the target is far.
  pub cube_cubical : {m : ℕ} → LinksEach S m → (t : ℕ) → Cubical (network S) (ports S) S.dimension m t
  cube_cubical {m} each t =
      record {
        there = unfold network in ap length (keep_none (uphill t t) (from 0 S.dimension) (λ p i. uphill_there t p));
        within = distance_within t;
        among = λ n. keep_same _ _ (ports S) (port_offers t n) ∙ sym (offered_is t n);
        degree = λ n. rw (offered_is t n) (unfold network in each.most (uphill t n));
        rest = few;
        away = λ n q i e. farther t n q i (sym (port_offers t n q i) ∙ e);
      }
    where
      few : (n : ℕ) → length (others (network S) (ports S) t n) ≤ m * (S.dimension - (network S).distance t n)
      few n =
          let down : ℕ → Bool = λ a. not (uphill t n a) in
          let all : length (keep down (from 0 S.dimension)) ≡ S.dimension - (network S).distance t n =
          unfold network in omega (arith, length_parts (uphill t n) (from 0 S.dimension), length_from 0 S.dimension) in
          rw (keep_same (λ q. not ((network S).offers t n q)) (λ q. down (axis q)) (ports S) (λ q i. ap not (port_offers t n q i)), ← all) (each.most down)

  -- Paths 7: 1 to D + 1 hops, so 9 at most.
  pub path_hops : (s : ℕ) (vector : List ℕ) (t : ℕ) (w : Path) → Permitted (network S) s vector t w → (1 ≤ length w) × (length w ≤ suc S.dimension)
  unfolding Permitted
  path_hops s vector t [] o = elim o [ ]
  path_hops s vector t (p ∷ w) o = (omega arith, omega (arith, permitted_length (cube_nearing t) s vector p w o, distance_within t ((network S).next s p)))

  -- a send's ports are those whose axis its vector has, the other ports those whose axis it has not
  pub send_port : (v q : ℕ) → (q ∈ send_ports S v) ↔ ((q ∈ ports S) × (has v (axis q) ≡ true))
  unfolding send_ports
  send_port v q = (keep_mem (λ q. has v (axis q)) (ports S), λ h. mem_keep (λ q. has v (axis q)) (ports S) h.0 h.1)

  pub other_port : (v q : ℕ) → (q ∈ other_ports S v) ↔ ((q ∈ ports S) × (has v (axis q) ≡ false))
  unfolding other_ports
  other_port v q = (
    (λ m. let k = keep_mem (λ q. not (has v (axis q))) (ports S) m in (k.0, not-true (has v (axis q)) k.1)),
    (λ h. mem_keep (λ q. not (has v (axis q))) (ports S) h.0 (ap not h.1)),
  )

  -- both rise
  pub send_ports_rise : (v : ℕ) → Pairwise ◌<◌ (send_ports S v) × Pairwise ◌<◌ (other_ports S v)
  unfolding send_ports other_ports
  send_ports_rise v = (keep_pairwise _ ◌<◌ _ ports_rise, keep_pairwise _ ◌<◌ _ ports_rise)

  -- the vector of the ports below D that are not in another sends over the other ports
  pub other_vector : (v c : ℕ) → ((p : ℕ) → p < S.dimension → has c p ≡ not (has v p)) → send_ports S c ≡ other_ports S v
  unfolding send_ports other_ports
  other_vector v c h = keep_same _ _ (ports S) (λ q m. h (axis q) (port_axis q m))

  -- What the rules say of a pass holds in the cube, over any of its ports that rise.
  pub cube_says : S.dimension ≤ largest_dimension → (free : ℕ → ℕ → Bool) (s : ℕ) (vector : List ℕ) (t : ℕ) → Node S s → Node S t → Pairwise ◌<◌ vector → ((q : ℕ) → q ∈ vector → q ∈ ports S)
      → Says (network S) free s vector t (pass (network S) free s vector t)
  cube_says h free s vector t i l rise there =
      pass_says (cube_nearing t) (cube_leading h t l) s vector rise (λ q m. port_inside s q i (there q m)) free _ refl

-- With fold mask 0 this is a cube in which nothing is folded.
module _ (S : Shape) (h : S.dimension ≤ largest_dimension) (z : S.fold ≡ 0) where
  -- Its ports are those below D,
  pub unfolded_ports : ports S ≡ axes S
  unfolding ports present
  unfolded_ports =
      keep_wider (present S.dimension S.fold) 0 S.dimension 18 (omega arith) (λ q l. rw z (absent q (omega arith)))
      ∙ keep_all _ (from 0 S.dimension) (λ p m. let l = from_below S.dimension p m in present_low S.dimension S.fold p (omega arith) ∙ lt-ltb p S.dimension l)
    where
      absent : (q : ℕ) → S.dimension ≤ q → present S.dimension 0 q ≡ false
      absent q l = rw (zero_has (axis q)) (go (eqb q (axis q)) refl)
        where
          go : (b : Bool) → eqb q (axis q) ≡ b → (ltb q 18 && (ltb (axis q) S.dimension && (b || false))) ≡ false
          go true e = rw (← eqb-true q (axis q) e, le-ltb q S.dimension l) (and-false (ltb q 18))
          go false e = rw (and-false (ltb (axis q) S.dimension)) (and-false (ltb q 18))

  pub unfolded_port : (q : ℕ) → (q ∈ ports S) ↔ (q < S.dimension)
  unfolded_port q = rw unfolded_ports (from_below S.dimension q, below_from S.dimension q)

  -- each leads to the node that differs in its bit,
  pub unfolded_next : (n p : ℕ) → p < S.dimension → (network S).next n p ≡ flip n p
  unfolding network
  unfolded_next n p l = ap (flip n) (axis_low p (omega arith))

  by_port : (f : ℕ → Bool) → keep (λ q. f (axis q)) (ports S) ≡ keep f (axes S)
  by_port f = rw unfolded_ports (keep_same _ _ _ (λ p m. let l = from_below S.dimension p m in ap f (axis_low p (omega arith))))

  -- those that are uphill are offered, and a send tries those of its vector and then the others.
  pub unfolded_offered : (t n : ℕ) → offered (network S) t n ≡ keep (uphill t n) (axes S)
  unfolded_offered t n = offered_is S t n ∙ by_port (uphill t n)

  pub unfolded_send_ports : (v : ℕ) → send_ports S v ≡ ports_of S.dimension v
  unfolding send_ports ports_of
  unfolded_send_ports v = by_port (has v)

  pub unfolded_other_ports : (v : ℕ) → other_ports S v ≡ keep (λ p. not (has v p)) (axes S)
  unfolding other_ports
  unfolded_other_ports v = by_port (λ p. not (has v p))

  -- The ports offered are those of the uphill vector, among however many positions.
  pub unfolded_vector : (w n t : ℕ) → S.dimension ≤ w → Node S n → Node S t → offered (network S) t n ≡ ports_of w (bit_xor n t)
  unfolding ports_of
  unfolded_vector w n t k i l =
      unfolded_offered t n ∙ keep_same (uphill t n) (has (bit_xor n t)) (from 0 S.dimension) (λ p m. sym ((uphill_of n t).bits p)) ∙ sym (ports_wider S.dimension w (bit_xor n t) k (xor_lt S.dimension n t i l))

  -- Scouts 8: an axis has one link, so no send has more than 123,300 scouts, whatever the source, target, vector and free links.
  pub one_link : LinksEach S 1
  one_link = record { most = λ g. rw (by_port g) (omega arith) }

  pub scouts_bound : (s t v : ℕ) (f g : ℕ → ℕ → Bool) → scouts (pass (network S) f s (send_ports S v) t) + scouts (pass (network S) g s (other_ports S v) t) ≤ 123300
  unfolding send_ports other_ports
  scouts_bound s t v f g = two_passes_bound (cube_nearing S t) (cube_cubical S one_link t) h s (λ q. has v (axis q)) f g refl
