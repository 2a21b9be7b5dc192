-- The links out of one node are D where nothing is folded, and where none of them may be taken no send from the node finds a path.
-- Assumes nothing.
use mathlib.Core.Path.{◌≡◌, refl, ap, ◌∙◌}
use mathlib.Core.Logic.{⊎_elim, ◌≢◌}
use mathlib.Core.Bool.{Bool, false, not}
use mathlib.Core.List.Memᴰ
use mathlib.Core.List.{List, [], ◌∷◌}
use Prim.Native.Nat.{ℕ, zero, suc, ◌+◌, ◌≤◌, ◌<◌}
use native.Mathlib.Omega.{arith}
use lib.Dec.{eqb}
use lib.ListN.{length, length-append}
use borrow.Author.Tests.{eq-eqb, ne_eqb}
use Rattle.common.specs.Lists.{◌∈◌, keep, from}
use Rattle.common.proofs.Tests.{same?}
use Rattle.common.proofs.Lists.{keep_append, keep_yes, keep_no}
use Rattle.common.proofs.From.{length_from}
use Rattle.paths.specs.Network.{Path, Link, links}
use Rattle.paths.specs.Permitted.{Permitted}
use Rattle.paths.specs.Waiting.{CrossesBlocked, EveryPathBlocked}
use Rattle.paths.specs.CubeNetwork.{Shape, unfolded, network, ports, attempts}
use Rattle.paths.proofs.CubeNetwork.{unfolded_ports}
use Rattle.paths.proofs.Send.{tries_permitted}
use Rattle.paths.proofs.Waiting.{rejected_exactly, blocked_exactly}
use Rattle.faults.specs.Faults.{links_out, all_links, failing}
use Rattle.faults.specs.Theorems.{EnoughReject}
use Rattle.faults.proofs.Counted.{out_of}

-- the test that fails at the links out of s alone
abbrev others_pass : ℕ → ℕ → ℕ → Bool
others_pass s n p = not (eqb n s)

module _ (S : Shape) (s : ℕ) where
  abbrev fails : Link → Bool
  fails l = not (others_pass s l.0 l.1)

  -- all those out of s over the ports of a list fail, and none out of another node does
  out_of_s : (ps : List ℕ) → length (keep fails (out_of s ps)) ≡ length ps
  unfolding out_of keep
  out_of_s [] = refl
  out_of_s (p ∷ ps) = ap length (keep_yes fails (s, p) (out_of s ps) (ap not (ap not (eq-eqb s s refl)))) ∙ ap suc (out_of_s ps)

  out_of_other : (k : ℕ) → k ≢ s → (ps : List ℕ) → length (keep fails (out_of k ps)) ≡ 0
  unfolding out_of keep
  out_of_other k h [] = refl
  out_of_other k h (p ∷ ps) = ap length (keep_no fails (k, p) (out_of k ps) (ap not (ap not (ne_eqb k s h)))) ∙ out_of_other k h ps

  parts : (k : ℕ) (ns : List ℕ) → length (keep fails (links_out S (k ∷ ns))) ≡ length (keep fails (out_of k (ports S))) + length (keep fails (links_out S ns))
  unfolding links_out out_of
  parts k ns = ap length (keep_append fails (out_of k (ports S)) (links_out S ns)) ∙ length-append (keep fails (out_of k (ports S))) _

  none_above : (a k : ℕ) → s < a → length (keep fails (links_out S (from a k))) ≡ 0
  unfolding from keep links_out
  none_above a zero h = refl
  none_above a (suc k) h = omega (arith, parts a (from (suc a) k), out_of_other a (λ e. omega (arith, e, h)) (ports S), none_above (suc a) k (omega (arith, h)))

  all_of_s : (a k : ℕ) → a ≤ s → s < a + k → length (keep fails (links_out S (from a k))) ≡ length (ports S)
  unfolding from
  all_of_s a zero h l = absurd (omega arith)
  all_of_s a (suc k) h l =
      ⊎_elim (λ e. let x : length (keep fails (out_of a (ports S))) ≡ length (ports S) = rw e (out_of_s (ports S)) in omega (arith, parts a (from (suc a) k), x, none_above (suc a) k (omega (arith, e))))
      (λ e. omega (arith, parts a (from (suc a) k), out_of_other a e (ports S), all_of_s (suc a) k (omega (arith, e)) (omega arith))) (same? a s)

-- Where no link out of s may be taken, every path from s crosses one.
first_fails : (S : Shape) (free : ℕ → ℕ → Bool) (s t : ℕ) → ((p : ℕ) → p ∈ ports S → free s p ≡ false) → (w : Path) → Permitted (network S) s (ports S) t w
    → CrossesBlocked (network S) free s w
unfolding CrossesBlocked Permitted links
first_fails S free s t h [] o = absurd o
first_fails S free s t h (p ∷ w) o = ((s, p), Memᴰ.head refl, h p o.0)

pub none_leave : (S : Shape) (free : ℕ → ℕ → Bool) (s t y v : ℕ) → ((p : ℕ) → p ∈ ports S → free s p ≡ false) → EveryPathBlocked (network S) free s t (attempts S y v)
unfolding EveryPathBlocked
none_leave S free s t y v h a m w i = first_fails S free s t h w (tries_permitted S s t y v a m w i)

pub enough_reject : EnoughReject
unfolding failing all_links
enough_reject D fits s source = (
  all_of_s (unfolded D) s 0 _ (omega arith) (omega (arith, source)) ∙ ap length (unfolded_ports (unfolded D) fits refl) ∙ length_from 0 D,
  λ r y v t target. (rejected_exactly (unfolded D) fits s t y v source target (others_pass s) r).1
      ((blocked_exactly (unfolded D) fits s t y v source target (others_pass s)).1 (none_leave (unfolded D) (others_pass s) s t y v (λ p m. ap not (eq-eqb s s refl)))),
)
