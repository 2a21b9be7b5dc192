-- Helix paths as the code goes along them, a link at a time: looking for free links, and holding them.
-- Assumes nothing.
use mathlib.Core.Path.{◌≡◌, refl, ap, sym, ◌∙◌}
use mathlib.Core.Bool.{true, false}
use mathlib.Core.List.{List, [], ◌∷◌}
use Prim.Native.Nat.{ℕ, ◌+◌, ◌≤◌}
use native.Mathlib.Omega.{arith}
use lib.ListN.{length}
use Rattle.std.specs.List.{list_all, prefix_len, fold}
use Rattle.cube.specs.Cube.{largest_dimension, next}
use Rattle.cube.proofs.Order.{byte_vector}
use Rattle.paths.specs.Network.{Path, Link, links}
use Rattle.paths.specs.HelixLinks.{LinkInside, helix_links}
use Rattle.paths.specs.CubeNetwork.{Shape, network}
use Rattle.paths.proofs.CubeNetwork.{distance_within}
use Rattle.paths.proofs.Helix.{helix_short}
use Rattle.paths.proofs.HelixLinks.{length_links, free_path_test, front_links, links_of, port_largest}
use Rattle.paths.proofs.FoldedCube.{port_listed}
use Rattle.entries.specs.EntryContracts.{put_owner}
use Rattle.table.specs.View.{view, net, shape_of}
use Rattle.answers.specs.SendOnTable.{free_in}
use Rattle.answers.specs.PassOnBytes.{hold_path}
use Rattle.helix.specs.HelixContracts.{MayFollow, front_in, free_all, helix_in, link_is_free, hold_link, FreeFrontOf}

hold_links : (S : Shape) (c : ℕ) (b : List ℕ) (n : ℕ) (w : Path) → hold_path b c n w ≡ fold (hold_link c) b (links (network S) n w)
unfolding hold_path links network
hold_links S c b n [] = refl
hold_links S c b n (p ∷ w) = hold_links S c (put_owner b n p c) (next n p) w

module _ {long q w f : ℕ} {b : List ℕ} {s t p : ℕ} (may : MayFollow long q w f b s t p) where
  pub starts_inside : LinkInside w f s p
  unfolding view
  starts_inside = (byte_vector may.fits may.node, may.port, rw may.board.folded (port_largest (shape_of (view b)) may.fits t may.target p may.there))

  its_links : links (net (view b)) s (helix_in b s t p) ≡ helix_links f s t p
  unfolding view
  its_links = rw may.board.folded (links_of (shape_of (view b)) may.fits t may.target s p may.node (port_listed (shape_of (view b)) p may.there))

  pub few_path : length (helix_in b s t p) ≤ 9
  few_path =
      let fits : (shape_of (view b)).dimension ≤ largest_dimension = unfold view in may.fits in
      omega (arith, helix_short (net (view b)) s t p, distance_within (shape_of (view b)) t ((net (view b)).next s p), fits)

  pub few_links : length (helix_links f s t p) ≤ 9
  few_links = let long = ap length (sym its_links) ∙ length_links (net (view b)) s (helix_in b s t p) in omega (arith, long, few_path)

  pub front : front_in b s (helix_in b s t p) ≡ prefix_len (link_is_free b) (helix_links f s t p)
  front = front_links (net (view b)) (free_in (view b)) s (helix_in b s t p) ∙ ap (prefix_len (link_is_free b)) its_links

  pub whole : free_all b s (helix_in b s t p) ≡ list_all (link_is_free b) (helix_links f s t p)
  whole = free_path_test (net (view b)) (free_in (view b)) s (helix_in b s t p) ∙ ap (list_all (link_is_free b)) its_links

  pub held : (c : ℕ) → hold_path b c s (helix_in b s t p) ≡ fold (hold_link c) b (helix_links f s t p)
  held c = hold_links (shape_of (view b)) c b s (helix_in b s t p) ∙ ap (fold (hold_link c) b) its_links

-- What holds while the front of a path is looked at, with some free hops behind it: the links still to come give the whole.
pub record Looking (b : List ℕ) (links left : List Link) (hops : ℕ) : Type 0 where
  pub few : hops + length left ≤ 9
  pub count : hops + prefix_len (link_is_free b) left ≡ prefix_len (link_is_free b) links
  pub all : list_all (link_is_free b) left ≡ list_all (link_is_free b) links

pub looking_first : {b : List ℕ} {links left : List Link} → length links ≤ 9 → left ≡ links → Looking b links left 0
looking_first few e = rw e (record { few = omega (arith, few); count = omega arith; all = refl })

module _ {b : List ℕ} {links left : List Link} {hops : ℕ} (inv : Looking b links left hops) where
  -- none is left
  pub looking_over : left ≡ [] → FreeFrontOf b links hops true
  looking_over e =
      let inv : Looking b links [] hops = rw (← e) inv in
      record { count = (let e = inv.count in omega arith); all = inv.all }

  -- the next one is free or not
  module _ {l : Link} {ls : List Link} (e : left ≡ l ∷ ls) where
    pub looking_stopped : link_is_free b l ≡ false → FreeFrontOf b links hops false
    looking_stopped off =
        let inv : Looking b links (l ∷ ls) hops = rw (← e) inv in
        record { count = (let e = rw off at inv.count in omega arith); all = rw off at inv.all }

    pub looking_on : link_is_free b l ≡ true → Looking b links ls (hops + 1)
    looking_on on =
        let inv : Looking b links (l ∷ ls) hops = rw (← e) inv in
        record { few = (let few = inv.few in omega arith); count = (let e = rw on at inv.count in omega arith); all = rw on at inv.all }
