-- Counting the targets of circuits, one after another.
-- Assumes nothing.
use mathlib.Core.Path.{◌≡◌, refl, ap, sym, ◌∙◌}
use mathlib.Core.Logic.{◌⊎◌, inl, inr, ◌≢◌}
use mathlib.Core.Bool.{Bool, true, false, ◌&&◌}
use mathlib.Core.List.{List, [], ◌∷◌, map}
use Prim.Native.Nat.{ℕ, ◌+◌, ◌≤◌, ◌<◌}
use native.Mathlib.Omega.{arith}
use lib.Dec.{eqb, ltb}
use lib.ListN.{length, get_or, set, length-set, replicate}
use lib.Seq.{get_or-set_same, get_or-set_other}
use Rattle.std.proofs.lemmas.List.{length-replicate, get_or-replicate}
use borrow.Author.Tests.{eq-eqb, ne_eqb}
use Rattle.common.specs.Lists.{keep, from}
use Rattle.common.proofs.Lists.{keep_yes, keep_no, length_keep}
use Rattle.common.proofs.From.{length_from}
use Rattle.common.proofs.Tests.{same?}
use Rattle.cube.specs.Cube.{channels, source_of}
use Rattle.paths.specs.Network.{Path}
use Rattle.paths.specs.CubeNetwork.{Shape, network}
use Rattle.book.specs.Lookup.{IndexLine, ports_of_line}
use Rattle.judging.specs.Judged.{targets_fit, target_in, circuit_on}
use Rattle.judging.specs.JudgeContracts.{CountsTargets, leads_to}
use Rattle.judging.proofs.LeadsTo.{end_leads}

-- the counts with one target more
counts_more : (counts before : List ℕ) (t : ℕ) → t < 256 → CountsTargets counts before → CountsTargets (set counts t (get_or counts t 0 + 1)) (t ∷ before)
counts_more counts before t small k =
    record { long = length-set counts t _ ∙ k.long; count = λ u l. go u l (same? u t) }
  where
    inside : t < length counts
    inside = omega (arith, k.long)

    go : (u : ℕ) → u < 256 → (u ≡ t) ⊎ (u ≢ t) → get_or (set counts t (get_or counts t 0 + 1)) u 0 ≡ length (keep (eqb u) (t ∷ before))
    go u l (inl e) = rw (e, get_or-set_same counts t (get_or counts t 0 + 1) 0 inside, keep_yes (eqb t) t before (eq-eqb t t refl)) (omega (arith, k.count t small))
    go u l (inr f) = rw (get_or-set_other counts t u (get_or counts t 0 + 1) 0 f, keep_no (eqb u) t before (ne_eqb u t f)) (k.count u l)

-- The counts are those of some targets, behind which the targets left fit where all fit.
pub record CountingLeft (available : ℕ → ℕ → Bool) (counts left all : List ℕ) : Type 0 where
  pub before : List ℕ
  pub counted : CountsTargets counts before
  pub fits : targets_fit available before left ≡ targets_fit available [] all

module _ {available : ℕ → ℕ → Bool} {counts all : List ℕ} where
  -- before the first target all counts are zero
  pub counting_none : counts ≡ replicate 256 0 → CountingLeft available counts all all
  unfolding keep
  counting_none e =
      record {
        before = [];
        counted = record { long = ap length e ∙ length-replicate {A = ℕ} 256 0; count = λ t l. ap (λ xs. get_or xs t 0) e ∙ get_or-replicate {A = ℕ} 256 t 0 0 l };
        fits = refl;
      }

  module _ {t c : ℕ} {rest : List ℕ} (small : t < 256) (room : c ≡ length (keep (available t) (from 0 channels))) (k : CountingLeft available counts (t ∷ rest) all) where
    -- the next target fits where fewer were counted there than it has room for, and then the others decide
    next_fits : targets_fit available [] all ≡ (ltb (get_or counts t 0) c && targets_fit available (t ∷ k.before) rest)
    unfolding targets_fit
    next_fits = sym k.fits ∙ rw (k.counted.count t small, room)

    -- a target with room for a circuit more is counted
    pub counting_next : {after : List ℕ} → true ≡ ltb (get_or counts t 0) c → after ≡ set counts t (get_or counts t 0 + 1) → CountingLeft available after rest all
    counting_next h e =
        record {
          before = t ∷ k.before;
          counted = rw e (counts_more counts k.before t small k.counted);
          fits = sym (next_fits ∙ rw (← h));
        }

    -- one with none ends it
    pub counting_full : false ≡ ltb (get_or counts t 0) c → false ≡ targets_fit available [] all
    counting_full h = sym (next_fits ∙ rw (← h))

  -- Where none is left, all fit.
  pub counting_all : {left : List ℕ} → left ≡ [] → CountingLeft available counts left all → true ≡ targets_fit available [] all
  unfolding targets_fit
  counting_all e k = (rw e at k.fits)

-- no node has more than eight channels available
pub few_available : (f : ℕ → Bool) → length (keep f (from 0 channels)) ≤ 8
few_available f = omega (arith, length_keep f (from 0 8), length_from 0 8)

-- the targets of the lines of an index, of which one comes first
pub line_targets : (S : Shape) (ports : List ℕ) {xs ys : List IndexLine} {x : IndexLine} {s t : ℕ} {w : Path} → xs ≡ x ∷ ys → s ≡ source_of x.number → w ≡ ports_of_line ports x
    → t ≡ leads_to s w
    → map (target_in (network S)) (map (circuit_on ports) xs) ≡ t ∷ map (target_in (network S)) (map (circuit_on ports) ys)
line_targets S ports {s = s} {w = w} e f g h = rw (e, h, ← end_leads S s w, f, g)
