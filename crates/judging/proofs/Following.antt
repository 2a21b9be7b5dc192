-- Following the ports of a path from node to node, as the code does: where they lead.
-- Assumes nothing.
use mathlib.Core.Path.{◌≡◌, refl, ap, sym, ◌∙◌}
use mathlib.Core.List.{List, ◌∷◌}
use Prim.Native.Nat.{ℕ, ◌+◌, ◌≤◌, ◌<◌}
use native.Mathlib.Numerals.{add-one}
use lib.ListN.{length, get_or, drop, drop_of_length-le}
use lib.Seq.{drop-cons}
use Rattle.cube.specs.Cube.{next}
use Rattle.judging.specs.JudgeContracts.{leads_to}

-- i ports of a path from node s are followed, to node `at`: those that are left lead where all of them do
pub record EndLeft (path : List ℕ) (s at i : ℕ) : Type 0 where
  pub same : leads_to at (drop i path) ≡ leads_to s path

-- the ports that are left begin with the next
pub left_from : (path : List ℕ) (i p : ℕ) → i < length path → p ≡ get_or path i 0 → drop i path ≡ p ∷ drop (i + 1) path
left_from path i p h e = drop-cons path i 0 h ∙ rw (e, add-one i) refl

module _ {path : List ℕ} {s : ℕ} where
  -- one port more, and the node where no port is left
  pub end_on : {at to i p : ℕ} → EndLeft path s at i → i < length path → p ≡ get_or path i 0 → to ≡ next at p → EndLeft path s to (i + 1)
  unfolding leads_to
  end_on {at} {to} {i} {p} f h e t = record { same = rw t (sym (ap (leads_to at) (left_from path i p h e)) ∙ f.same) }

  pub end_reached : {at i : ℕ} → EndLeft path s at i → length path ≤ i → at ≡ leads_to s path
  unfolding leads_to
  end_reached {at} f h = sym (ap (leads_to at) (drop_of_length-le path h)) ∙ f.same
