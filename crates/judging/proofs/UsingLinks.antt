-- Using links one after another: each is free and new where none of those before it is the same, and the marks then stand for one link more.
-- Assumes nothing.
use mathlib.Core.Path.{◌≡◌, refl, ap, sym, ◌∙◌}
use mathlib.Core.Logic.{◌⊎◌, inl, inr, ◌≢◌}
use mathlib.Core.Bool.{Bool, true, false, not, ◌&&◌, ◌||◌}
use mathlib.Core.List.{List, [], ◌∷◌, ◌++◌, map}
use Prim.Native.Nat.{ℕ, ◌+◌, ◌≤◌, ◌<◌}
use native.Mathlib.Numerals.{add-one}
use native.Mathlib.Omega.{arith}
use lib.Dec.{eqb}
use lib.ListN.{length, get_or, drop, length-set, drop_of_length-le, replicate}
use lib.Seq.{drop-cons, get_or-set_same, get_or-set_other}
use Rattle.std.proofs.lemmas.List.{length-replicate, get_or-replicate}
use borrow.Author.Tests.{eq-eqb, ne_eqb}
use Rattle.common.proofs.Tests.{same?, clash}
use Rattle.cube.specs.Bits.{has, with_bit}
use Rattle.cube.specs.Axes.{positions}
use Rattle.cube.specs.Cube.{next, source_of}
use Rattle.cube.proofs.Bits.{with_bit_same, with_bit_other, zero_has}
use Rattle.paths.specs.Network.{Network, Path, Link, links, has_link}
use Rattle.paths.specs.CubeNetwork.{Shape, network}
use Rattle.book.specs.Lookup.{IndexLine, ports_of_line}
use Rattle.judging.specs.Judged.{links_fit, all_links, circuit_on}
use Rattle.judging.specs.JudgeContracts.{Used, marks_with, before_with, UsesLinks}

-- with one link more the marks stand for that link and those before it
used_more : (marks : List ℕ) (ls : List Link) (n p : ℕ) → n < 256 → Used marks ls
    → Used (marks_with marks n p) ((n, p) ∷ ls)
unfolding has_link
used_more marks ls n p small t =
    record { long = length-set marks n _ ∙ t.long; bits = λ m q l k. go m q l k (same? m n) (same? q p) }
  where
    inside : n < length marks
    inside = omega (arith, t.long)

    go : (m q : ℕ) → m < 256 → q < positions → (m ≡ n) ⊎ (m ≢ n) → (q ≡ p) ⊎ (q ≢ p)
        → has (get_or (marks_with marks n p) m 0) q ≡ ((eqb m n && eqb q p) || has_link ls m q)
    go m q l k (inl e) (inl f) =
        rw (eq-eqb m n e, eq-eqb q p f, e, f, get_or-set_same marks n (with_bit (get_or marks n 0) p true) 0 inside) (with_bit_same (get_or marks n 0) p true)
    go m q l k (inl e) (inr f) =
        rw (eq-eqb m n e, ne_eqb q p f, e, get_or-set_same marks n (with_bit (get_or marks n 0) p true) 0 inside)
        (with_bit_other (get_or marks n 0) p true q f ∙ t.bits n q small k)
    go m q l k (inr e) f = rw (ne_eqb m n e, get_or-set_other marks n m (with_bit (get_or marks n 0) p true) 0 e) (t.bits m q l k)

-- Links behind others fit where those do, and they fit behind those used.
fit_append : (free : ℕ → ℕ → Bool) (before ls rest : List Link) → links_fit free before (ls ++ rest) ≡ (links_fit free before ls && links_fit free (before_with before ls) rest)
unfolding links_fit before_with
fit_append free before [] rest = refl
fit_append free before (l ∷ ls) rest = go (free l.0 l.1) (not (has_link before l.0 l.1)) _ _ (fit_append free (l ∷ before) ls rest)
  where
    go : (a b : Bool) {x : Bool} (y z : Bool) → x ≡ (y && z) → (a && (b && x)) ≡ ((a && (b && y)) && z)
    go true true y z e = e
    go true false y z e = refl
    go false b y z e = refl

-- to have two lists of links behind those before is to have the one, and then the other
with_append : (before ls rest : List Link) → before_with before (ls ++ rest) ≡ before_with (before_with before ls) rest
unfolding before_with
with_append before [] rest = refl
with_append before (l ∷ ls) rest = with_append (l ∷ before) ls rest

-- Marks that are all zero stand for no link.
none_used : {marks : List ℕ} → marks ≡ replicate 256 0 → Used marks []
unfolding has_link
none_used e =
    record {
      long = ap length e ∙ length-replicate {A = ℕ} 256 0;
      bits = λ n p l k. ap (λ xs. has (get_or xs n 0) p) e ∙ ap (λ x. has x p) (get_or-replicate {A = ℕ} 256 n 0 0 l) ∙ zero_has p;
    }

module _ {free : ℕ → ℕ → Bool} where
  -- no links are used by leaving the marks as they are
  pub uses_none : {marks : List ℕ} → UsesLinks free marks marks [] true
  unfolding links_fit before_with
  uses_none = record { fits = λ before t. refl; used = λ before t e. t }

  module _ {now : List ℕ} {n p : ℕ} {rest : List Link} (small : n < 256) (port : p < positions) where
    -- a link that is free and new is used, and then the rest
    pub uses_next : {after new : List ℕ} {result : Bool} → free n p ≡ true → has (get_or now n 0) p ≡ false → after ≡ marks_with now n p
        → UsesLinks free after new rest result → UsesLinks free now new ((n, p) ∷ rest) result
    unfolding links_fit before_with
    uses_next {after} {new} {result} is_free is_new e r =
        record {
          fits = λ before t. rw (is_free, sym (t.bits n p small port) ∙ is_new) (r.fits ((n, p) ∷ before) (more before t));
          used = λ before t. r.used ((n, p) ∷ before) (more before t);
        }
      where
        more : (before : List Link) → Used now before → Used after ((n, p) ∷ before)
        more before t = rw e (used_more now before n p small t)

    -- at a link that is not free it ends,
    pub uses_not_free : {new : List ℕ} → free n p ≡ false → UsesLinks free now new ((n, p) ∷ rest) false
    unfolding links_fit
    uses_not_free e = record { fits = λ before t. rw e; used = λ before t f. absurd (clash f refl) }

    -- and at one that was used before
    pub uses_not_new : {new : List ℕ} → free n p ≡ true → has (get_or now n 0) p ≡ true → UsesLinks free now new ((n, p) ∷ rest) false
    unfolding links_fit
    uses_not_new is_free e = record { fits = λ before t. rw (is_free, sym (t.bits n p small port) ∙ e); used = λ before t f. absurd (clash f refl) }

  module _ {old mid : List ℕ} {ls : List Link} (rest : List Link) where
    -- where links are used, those behind them go on from there
    pub uses_both : {new : List ℕ} {result : Bool} → UsesLinks free old mid ls true → UsesLinks free mid new rest result → UsesLinks free old new (ls ++ rest) result
    uses_both {new} {result} a b =
        record {
          fits = λ before t. rw (fit_append free before ls rest, sym (a.fits before t)) (b.fits (before_with before ls) (a.used before t refl));
          used = λ before t e. rw (with_append before ls rest) (b.used (before_with before ls) (a.used before t refl) e);
        }

    -- and where they are not, none behind them matters
    pub uses_refused : UsesLinks free old mid ls false → UsesLinks free old mid (ls ++ rest) false
    uses_refused a = record { fits = λ before t. rw (fit_append free before ls rest, sym (a.fits before t)); used = λ before t f. absurd (clash f refl) }

  -- Where the marks are all zero no link came before.
  pub uses_from_none : {marks new : List ℕ} {ls : List Link} {result : Bool} → marks ≡ replicate 256 0 → UsesLinks free marks new ls result → result ≡ links_fit free [] ls
  uses_from_none e r = r.fits [] (none_used e)

-- The links of a path from one of its ports on:
module _ (S : Shape) (n : ℕ) (path : List ℕ) (i : ℕ) where
  -- that of this port is the first,
  pub links_next : {p to : ℕ} → i < length path → p ≡ get_or path i 0 → to ≡ next n p
      → links (network S) n (drop i path) ≡ (n, p) ∷ links (network S) to (drop (i + 1) path)
  unfolding links network
  links_next {p} {to} h e f = rw (drop-cons path i 0 h, f, add-one i, e)

  -- and behind the last port there is none.
  pub links_end : length path ≤ i → links (network S) n (drop i path) ≡ []
  unfolding links
  links_end h = rw (drop_of_length-le path h)

-- the links of the lines of an index, of which one comes first
pub line_links : (N : Network) (ports : List ℕ) {xs ys : List IndexLine} {x : IndexLine} {s : ℕ} {w : Path} → xs ≡ x ∷ ys → s ≡ source_of x.number → w ≡ ports_of_line ports x
    → all_links N (map (circuit_on ports) xs) ≡ links N s w ++ all_links N (map (circuit_on ports) ys)
unfolding all_links
line_links N ports e f g = rw (e, f, g)
