-- The marks and circuits of both halves in one list: what it says of a node is what the list of the node's half says.
-- Assumes nothing.
use mathlib.Core.Path.{◌≡◌, refl, ap, sym, ◌∙◌}
use mathlib.Core.Bool.{Bool, true, false, ◌&&◌}
use mathlib.Core.List.{List, [], ◌++◌, map}
use Prim.Native.Nat.{ℕ, ◌*◌, ◌+◌, ◌^◌, ◌<◌}
use native.Mathlib.Omega.{arith}
use lib.Dec.{eqb}
use borrow.Author.Tests.{eq-eqb, ne_eqb, eqb-true, eqb-false}
use Rattle.common.specs.Lists.{◌∈◌, any}
use Rattle.cube.specs.Cube.{circuit_of}
use Rattle.paths.specs.Network.{Link, has_link}
use Rattle.ownership.specs.History.{Circuit, holds_receive, belongs, listed}
use Rattle.ownership.specs.HistoryView.{first_circuit}
use Rattle.ownership.proofs.Circuits.{number_for}
use Rattle.joining.specs.Joined.{of_halves, renumbered}
use Rattle.joining.proofs.HalfPaths.{link_behind}
use Rattle.joining.proofs.FirstOf.{sends_from, has_first, any_first, listed_first, number_first, Apart, first_of_halves}

-- a circuit whose nodes all stand `behind` farther
abbrev pub circuit_behind : ℕ → Circuit → Circuit
circuit_behind behind x = record { source = x.source + behind; channel = x.channel; ports = x.ports; target = x.target + behind; receive = x.receive }

-- two numbers are the same where both with a third added are
pub eqb_behind : (b n m : ℕ) → eqb (n + b) (m + b) ≡ eqb n m
eqb_behind b n m = go (eqb n m) refl
  where
    go : (x : Bool) → eqb n m ≡ x → eqb (n + b) (m + b) ≡ x
    go true e = eq-eqb (n + b) (m + b) (ap (◌+ b) (eqb-true n m e))
    go false e = ne_eqb (n + b) (m + b) (λ i. eqb-false n m e (omega arith))

-- Joining 4: the number of a circuit of the second half
pub number_behind : (D : ℕ) (x : Circuit) → number_for (circuit_behind (2 ^ D) x) ≡ renumbered (8 * 2 ^ D) (number_for x)
unfolding renumbered
number_behind D x = rw (ne_eqb (circuit_of x.source x.channel) 0 (λ z. omega arith)) (omega arith)

-- A test that compares a node of a mark or a circuit, which gains 2^D, and then something that stays as it is.
module _ {A : Type 0} (D : ℕ) (node : A → ℕ) (rest : ℕ → A → Bool) (s : A → A) (gains : (y : A) → node (s y) ≡ node y + 2 ^ D) (stays : (k : ℕ) (y : A) → rest k (s y) ≡ rest k y) where
  abbrev its : ℕ → ℕ → A → Bool
  its n k x = eqb n (node x) && rest k x

  node_apart : (xs ys : List A) → ((x : A) → x ∈ xs → node x < 2 ^ D) → Apart D its its s xs ys
  node_apart xs ys inside =
      record {
        first = λ n k h x m. refl;
        not_first = λ n k x m. ap (◌&& rest k x) (ne_eqb (n + 2 ^ D) (node x) (λ e. omega (arith, e, inside x m)));
        second = λ n k y m. rw (gains y, eqb_behind (2 ^ D) n (node y), stays k y);
        not_second = λ n k h y m. ap (◌&& rest k (s y)) (ne_eqb n (node (s y)) (λ e. omega (arith, e, gains y)));
      }

-- marks: blocked links, and armed channels
pub marks_both : (D : ℕ) (xs ys : List Link) → ((l : Link) → l ∈ xs → l.0 < 2 ^ D) → (n k : ℕ) → has_link (xs ++ map (link_behind (2 ^ D)) ys) n k ≡ of_halves D (has_link xs) (has_link ys) n k
marks_both D xs ys inside n k =
    has_first (xs ++ map (link_behind (2 ^ D)) ys) n k
    ∙ first_of_halves (λ l. true) false (λ b. b) (node_apart D (λ (l : Link). l.0) (λ k (l : Link). eqb k l.1) (link_behind (2 ^ D)) (λ l. refl) (λ k l. refl) xs ys inside) refl (λ l. refl) n k
    ∙ (λ i. of_halves D (λ n k. sym (has_first xs n k) i) (λ n k. sym (has_first ys n k) i) n k)

module _ (D : ℕ) (xs ys : List Circuit) where
  abbrev all : List Circuit
  all = xs ++ map (circuit_behind (2 ^ D)) ys

  -- the numbers of circuits that pass a test
  pub number_both : {f g : ℕ → ℕ → Circuit → Bool} → Apart D f g (circuit_behind (2 ^ D)) xs ys → (n k : ℕ)
      → first_circuit (f n k) all ≡ of_halves D (λ n k. first_circuit (g n k) xs) (λ n k. renumbered (8 * 2 ^ D) (first_circuit (g n k) ys)) n k
  number_both {f} {g} apart n k =
      number_first (f n k) all ∙ first_of_halves number_for 0 (renumbered (8 * 2 ^ D)) apart (unfold renumbered in refl) (number_behind D) n k
      ∙ (λ i. of_halves D (λ n k. sym (number_first (g n k) xs) i) (λ n k. renumbered (8 * 2 ^ D) (sym (number_first (g n k) ys) i)) n k)

  -- who holds a receive channel
  pub receive_apart : ((x : Circuit) → x ∈ xs → x.target < 2 ^ D) → Apart D holds_receive holds_receive (circuit_behind (2 ^ D)) xs ys
  unfolding holds_receive
  receive_apart inside = node_apart D (λ (x : Circuit). x.target) (λ k (x : Circuit). eqb k x.receive) (circuit_behind (2 ^ D)) (λ x. refl) (λ k x. refl) xs ys inside

  module _ (inside : (x : Circuit) → x ∈ xs → x.source < 2 ^ D) where
    sends_apart : Apart D sends_from sends_from (circuit_behind (2 ^ D)) xs ys
    sends_apart = node_apart D (λ (x : Circuit). x.source) (λ k (x : Circuit). eqb x.channel k) (circuit_behind (2 ^ D)) (λ x. refl) (λ k x. refl) xs ys inside

    -- which send channels are open, and the ports of their circuits
    pub open_both : (n k : ℕ) → any (belongs n k) all ≡ of_halves D (λ n k. any (belongs n k) xs) (λ n k. any (belongs n k) ys) n k
    open_both n k =
        any_first all n k ∙ first_of_halves (λ x. true) false (λ b. b) sends_apart refl (λ x. refl) n k
        ∙ (λ i. of_halves D (λ n k. sym (any_first xs n k) i) (λ n k. sym (any_first ys n k) i) n k)

    pub listed_both : (n k : ℕ) → listed all n k ≡ of_halves D (listed xs) (listed ys) n k
    listed_both n k =
        listed_first all n k ∙ first_of_halves (λ x. x.ports) [] (λ w. w) sends_apart refl (λ x. refl) n k
        ∙ (λ i. of_halves D (λ n k. sym (listed_first xs n k) i) (λ n k. sym (listed_first ys n k) i) n k)
