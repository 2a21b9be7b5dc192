-- Depth first: the search that tries ports and arrives, node by node, gives exactly the pass.
-- Assumes nothing.
use mathlib.Core.Path.{◌≡◌, refl, fun_ext}
use mathlib.Core.Bool.{Bool, true, false, cond, ◌&&◌}
use mathlib.Core.List.{List, [], ◌∷◌, ◌++◌, map}
use Prim.Native.Nat.{ℕ, zero, suc}
use lib.Dec.{eqb}
use Rattle.cube.specs.Helical.{helical}
use Rattle.paths.specs.Network.{Network, Path, offered, end, free_path}
use Rattle.paths.specs.Pass.{PassResult, none, found, over, ways, beginnings, scan, whole, pass}
use Rattle.paths.specs.Search.{hop_or, trying, arriving, sending}

-- One step of each recursion, to rewrite by: what opens the definition itself takes the calls in its clauses apart too.
pub trying_cons : (f : ℕ → Bool) (on : ℕ → ℕ → PassResult) (p : ℕ) (ps : List ℕ) (c : ℕ)
    → trying f on (p ∷ ps) c ≡ cond (f p) (hop_or p (on p (suc c)) (trying f on ps)) (trying f on ps c)
unfolding trying
trying_cons f on p ps c = refl

pub over_cons : (on : ℕ → List Path) (p : ℕ) (ps : List ℕ) → over on (p ∷ ps) ≡ ((p ∷ []) ∷ map (λ (w : Path). p ∷ w) (on p)) ++ over on ps
unfolding over
over_cons on p ps = refl

scan_cons : (f g : Path → Bool) (w : Path) (ws : List Path) (c : ℕ)
    → scan f g c (w ∷ ws) ≡ cond (f w) (cond (g w) (found w (suc c)) (scan f g (suc c) ws)) (scan f g c ws)
unfolding scan
scan_cons f g w ws c = refl

hop_cond : (b : Bool) (p : ℕ) (x y : PassResult) (more : ℕ → PassResult) → hop_or p (cond b x y) more ≡ cond b (hop_or p x more) (hop_or p y more)
hop_cond true p x y more = refl
hop_cond false p x y more = refl

-- to scan the ways behind a hop and then more is to scan them without it, and to go on where none is found
scan_hop : (p : ℕ) (f g : Path → Bool) (ws more : List Path) (c : ℕ)
    → scan f g c (map (λ (w : Path). p ∷ w) ws ++ more) ≡ hop_or p (scan (λ w. f (p ∷ w)) (λ w. g (p ∷ w)) c ws) (λ d. scan f g d more)
unfolding scan hop_or
scan_hop p f g [] more c = refl
scan_hop p f g (w ∷ ws) more c = simp (hop_cond, scan_hop p f g ws more)

-- where nothing is free nothing is found
scan_never : (g : Path → Bool) (ws : List Path) (c : ℕ) → scan (λ w. false) g c ws ≡ none c
unfolding scan
scan_never g [] c = refl
scan_never g (w ∷ ws) c = scan_never g ws c

-- one port tried: whether its link is free, and whether the target is behind it
one_port : (free there : Bool) (p : ℕ) (f g : Path → Bool) (ws : List Path) (more : ℕ → PassResult) (c : ℕ)
    → cond free (hop_or p (cond there (found [] (suc c)) (scan f g (suc c) ws)) more) (more c)
    ≡ cond (free && true) (cond there (found (p ∷ []) (suc c)) (hop_or p (scan (λ w. free && f w) g (suc c) ws) more)) (hop_or p (scan (λ w. free && f w) g c ws) more)
unfolding hop_or
one_port false there p f g ws more c = rw scan_never
one_port true false p f g ws more c = refl
one_port true true p f g ws more c = refl

-- what an arrival at m comes to where ws are the ways on from it
abbrev pub arrival : Network → (ℕ → ℕ → Bool) → ℕ → ℕ → List Path → ℕ → PassResult
arrival N free t m ws c = cond (eqb m t) (found [] c) (scan (free_path N free m) (whole N t m) c ws)

-- to try ports in turn is to scan their beginnings, where that holds of the arrival behind each
trying_scan : (N : Network) (free : ℕ → ℕ → Bool) (t n : ℕ) (on : ℕ → List Path) (go : ℕ → ℕ → PassResult)
    → ((p c : ℕ) → go p c ≡ arrival N free t (N.next n p) (on p) c)
    → (ps : List ℕ) (c : ℕ) → trying (free n) go ps c ≡ scan (free_path N free n) (whole N t n) c (over on ps)
unfolding free_path whole end
trying_scan N free t n on go h [] c = unfold trying over scan in refl
trying_scan N free t n on go h (p ∷ ps) c =
    rw (trying_cons, fun_ext (trying_scan N free t n on go h ps))
    (simp (over_cons, scan_cons, scan_hop, h)
    (one_port (free n p) (whole N t (N.next n p) []) p (free_path N free (N.next n p)) (whole N t (N.next n p)) (on p) _ c))

-- at the target no way goes on, and an arrival there asks for none
at_target : (b : Bool) (f g : Path → Bool) (ws : List Path) (c : ℕ) → cond b (found [] c) (scan f g c ws) ≡ cond b (found [] c) (scan f g c (cond b [] ws))
at_target true f g ws c = refl
at_target false f g ws c = refl

pub arriving_scan : (k : ℕ) (N : Network) (free : ℕ → ℕ → Bool) (t n a c : ℕ) → arriving k N free t n a c ≡ arrival N free t n (ways k N t n a) c
unfolding arriving ways
arriving_scan zero N free t n a c = unfold scan in refl
arriving_scan (suc k) N free t n a c =
    rw (trying_scan N free t n (λ p. ways k N t (N.next n p) p) _ (λ p. arriving_scan k N free t (N.next n p) p) (helical a (offered N t n)) c)
    (at_target (eqb n t) _ _ _ c)

-- The search is the scan of the beginnings, from any number of scouts sent before it; from none it is the pass.
pub search_is_scan : (N : Network) (free : ℕ → ℕ → Bool) (s : ℕ) (vector : List ℕ) (t c : ℕ)
    → sending N free s vector t c ≡ scan (free_path N free s) (whole N t s) c (beginnings N s vector t)
unfolding sending beginnings
search_is_scan N free s vector t c =
    trying_scan N free t s _ _ (λ p. arriving_scan (N.distance t (N.next s p)) N free t (N.next s p) p) vector c

pub search_is_pass : (N : Network) (free : ℕ → ℕ → Bool) (s : ℕ) (vector : List ℕ) (t : ℕ) → sending N free s vector t 0 ≡ pass N free s vector t
unfolding pass
search_is_pass N free s vector t = search_is_scan N free s vector t 0
