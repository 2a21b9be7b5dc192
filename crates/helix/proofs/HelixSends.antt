-- Sends of routing types 1 and 3 as the code makes them: helix paths looked at in turn, and what becomes of the first that is free.
-- Assumes nothing.
use mathlib.Core.Path.{◌≡◌, refl, ap, sym, subst, ◌∙◌}
use mathlib.Core.Logic.{◌≢◌, ⊎_elim}
use mathlib.Core.Bool.{Bool, true, false}
use mathlib.Core.List.Memᴰ
use mathlib.Core.List.{List, [], ◌∷◌, map}
use Prim.Native.Nat.{ℕ, ◌+◌, ◌-◌, ◌*◌, ◌^◌, ◌≤◌, ◌<◌}
use native.Mathlib.Omega.{arith}
use lib.ListN.{length, take}
use lib.Pow.{pow-lt}
use borrow.Author.Tests.{eq-eqb, ne_eqb}
use Rattle.common.specs.Lists.{◌∈◌}
use Rattle.common.proofs.Tests.{clash, same?}
use Rattle.cube.specs.Axes.{positions}
use Rattle.cube.specs.Bits.{has}
use Rattle.cube.specs.CubeContracts.{WithPartners, FirstTried, FirstByRule}
use Rattle.cube.specs.Cube.{channels}
use Rattle.cube.specs.Helical.{helical, ports_of}
use Rattle.cube.proofs.Bits.{no_ports, zero_has}
use Rattle.cube.proofs.Order.{length_ports, ports_mem, low_port, helical_last, byte_vector}
use Rattle.paths.specs.BoardPorts.{BoardPorts}
use Rattle.paths.specs.Pass.{PassResult, none, found, scouts}
use Rattle.paths.specs.Helix.{try_paths}
use Rattle.paths.specs.HelixLinks.{helix_links}
use Rattle.paths.specs.Send.{Receive, lowest_available, none_available, one_result, outcome, outcome_of_path, lowest_of}
use Rattle.paths.specs.CubeNetwork.{send_ports}
use Rattle.paths.proofs.FoldedCube.{partners_send, send_there}
use Rattle.paths.proofs.LinksOffered.{one_port, power_off}
use Rattle.paths.proofs.Tried.{try_free, try_on, front_free, front_most}
use Rattle.paths.proofs.Send.{helix_answers_lem, fixed_answers}
use Rattle.entries.specs.EntryContracts.{put_receiver}
use Rattle.table.specs.View.{view, net, shape_of, receive}
use Rattle.table.specs.TableContracts.{lowest_channel}
use Rattle.answers.specs.SendOnTable.{free_in, answer_on_bytes, answer_of_outcome}
use Rattle.answers.specs.PassOnBytes.{hold_path}
use Rattle.answers.specs.SendAnswer.{bytes_after_send, send_answer, searched, MaySendIn, BoardIn}
use Rattle.helix.specs.HelixContracts.{MayFollow, front_in, free_all, helix_in, hold_link, FreeFrontOf, tried_in, MayTryPaths, FreePathFound, sent_over}
use Rattle.answers.proofs.PassOnBytes.{receive_small}
use Rattle.helix.proofs.Following.{few_path, front, whole, held}
use Rattle.std.specs.List.{fold}

-- what trying the helix paths of some ports comes to, after some scouts
abbrev tried_after : List ℕ → ℕ → ℕ → ℕ → List ℕ → PassResult
tried_after b s t sent ps = try_paths (net (view b)) (free_in (view b)) s sent (map (helix_in b s t) ps)

-- What holds at each turn of the trying of helix paths: the ports that are still to come are ports of the cube, no path so far sent more than nine scouts, and what is
-- left to do gives the whole.
pub record PathsTried (b : List ℕ) (s t vector sent : ℕ) (left : List ℕ) : Type 0 where
  pub ports : (p : ℕ) → p ∈ left → has vector p ≡ true
  pub few : sent + 9 * length left ≤ 162
  pub rest : tried_after b s t sent left ≡ tried_in b s t vector

pub before_first_path : {b : List ℕ} {s t vector : ℕ} {left : List ℕ} → left ≡ ports_of positions vector → PathsTried b s t vector 0 left
unfolding tried_in
before_first_path {b} {s} {t} {vector} e =
    rw e (record { ports = λ p m. (ports_mem 18 vector m).1; few = omega (arith, length_ports 18 vector); rest = refl })

module _ {b : List ℕ} {s t vector sent : ℕ} {left : List ℕ} (inv : PathsTried b s t vector sent left) where
  -- no port is left
  pub no_path_left : left ≡ [] → tried_in b s t vector ≡ none sent
  no_path_left e = sym inv.rest ∙ rw e (unfold try_paths in refl)

  -- the next port
  module _ {long q w f : ℕ} (may : MayTryPaths long q w f b s t vector) {p : ℕ} {ps : List ℕ} (e : left ≡ p ∷ ps) where
    here : has vector p ≡ true
    here = inv.ports p (rw e (Memᴰ.head refl))

    pub port_follows : MayFollow long q w f b s t p
    port_follows =
        record {
          board = may.board;
          bytes = may.bytes;
          fits = may.fits;
          node = may.source;
          target = may.target;
          port = low_port w vector p may.vector_ports.below here;
          there = may.vector_ports.there p here;
        }

    -- the front of its helix path
    module _ {hops : ℕ} {free : Bool} (looked : FreeFrontOf b (helix_links f s t p) hops free) where
      hops_are : hops ≡ front_in b s (helix_in b s t p)
      hops_are = looked.count ∙ sym (front port_follows)

      all_are : free_all b s (helix_in b s t p) ≡ free
      all_are = whole port_follows ∙ sym looked.all

      whole_order : tried_after b s t sent (p ∷ ps) ≡ tried_in b s t vector
      whole_order = ap (tried_after b s t sent) (sym e) ∙ inv.rest

      pub path_found_free : free ≡ true → FreePathFound w b s t vector p hops (sent + hops)
      path_found_free on =
          record {
            path = sym whole_order ∙ try_free (net (view b)) (free_in (view b)) s sent _ _ (all_are ∙ on) ∙ ap (λ n. found (helix_in b s t p) (sent + n)) (sym hops_are);
            small = port_follows.port;
            there = port_follows.there;
            long = hops_are ∙ front_free (net (view b)) (free_in (view b)) s (helix_in b s t p) (all_are ∙ on);
          }

      pub path_not_free : free ≡ false → PathsTried b s t vector (sent + hops) ps
      path_not_free off =
          record {
            ports = λ q m. inv.ports q (rw e (Memᴰ.tail m));
            few =
                (let most = front_most (net (view b)) (free_in (view b)) s (helix_in b s t p) in
                let long = few_path port_follows in
                let few = subst (λ x. sent + 9 * length x ≤ 162) e inv.few in
                omega (arith, hops_are));
            rest = ap (λ n. tried_after b s t (sent + n) ps) hops_are ∙ sym (try_on (net (view b)) (free_in (view b)) s sent _ _ (all_are ∙ off)) ∙ whole_order;
          }

-- What becomes of them.
module _ (b : List ℕ) (s t c vector : ℕ) where
  abbrev r : Receive
  r = receive (view b) t

  sent_as : (x : PassResult) → tried_in b s t vector ≡ x → sent_over b s t c vector ≡ send_answer true b c s t (one_result r x)
  unfolding sent_over
  sent_as x e = ap (λ y. send_answer true b c s t (one_result r y)) e

  -- none is free
  pub helix_none : {sent : ℕ} → tried_in b s t vector ≡ none sent → answer_on_bytes 10 0 0 sent b ≡ sent_over b s t c vector
  unfolding send_answer bytes_after_send answer_of_outcome outcome scouts
  helix_none {sent} e = sym (sent_as (none sent) e)

  -- the first that is
  module _ {long q w f port hops sent : ℕ} (may : MayTryPaths long q w f b s t vector) (got : FreePathFound w b s t vector port hops sent) {k : ℕ} (low : k ≡ lowest_channel (view b) t) where
    path_follows : MayFollow long q w f b s t port
    path_follows = record { board = may.board; bytes = may.bytes; fits = may.fits; node = may.source; target = may.target; port = got.small; there = got.there }

    path_sent : sent_over b s t c vector ≡ send_answer true b c s t (one_result r (found (helix_in b s t port) sent))
    path_sent = sent_as _ got.path

    none_there : k ≡ channels → r ≡ none_available
    unfolding receive lowest_of lowest_channel
    none_there z = rw (← low, eq-eqb k 8 z)

    pub helix_full : k ≡ channels → answer_on_bytes 11 0 0 sent b ≡ sent_over b s t c vector
    unfolding send_answer bytes_after_send answer_of_outcome outcome outcome_of_path scouts
    helix_full z = sym (path_sent ∙ rw (none_there z))

    module _ (g : k ≢ channels) where
      channel_is : r ≡ lowest_available k
      unfolding receive lowest_of lowest_channel
      channel_is = rw (← low, ne_eqb k 8 g)

      pub channel_small : k < channels
      channel_small = receive_small (view b) t k channel_is

      pub helix_taken : {b₁ b₂ : List ℕ} → b₁ ≡ fold (hold_link c) b (helix_links f s t port) → b₂ ≡ put_receiver b₁ t k c → answer_on_bytes 0 hops k sent b₂ ≡ sent_over b s t c vector
      unfolding send_answer bytes_after_send answer_of_outcome outcome outcome_of_path scouts
      helix_taken {b₁} now taken =
          let path : b₁ ≡ hold_path b c s (helix_in b s t port) = now ∙ sym (held path_follows c) in
          rw (taken, path, got.long) (sym (path_sent ∙ rw channel_is))

pub found_follows : {long q w f : ℕ} {b : List ℕ} {s t ports port hops sent : ℕ} → MayTryPaths long q w f b s t ports → FreePathFound w b s t ports port hops sent → MayFollow long q w f b s t port
found_follows may got = record { board = may.board; bytes = may.bytes; fits = may.fits; node = may.source; target = may.target; port = got.small; there = got.there }

-- The vector of a send with its partners: its ports are those that types 1 and 3 try, the first of them that of type 3.
module _ (a : ℕ) {long q w f : ℕ} {b : List ℕ} {s t c vector x wide : ℕ} (may : MaySendIn long b s t c vector) (board : BoardIn q w f (view b)) (last : a + 1 ≡ w) (same : x ≡ vector) (partners : WithPartners f x wide × (wide < 2 ^ w)) where
  sends : ports_of positions wide ≡ send_ports (shape_of (view b)) vector
  unfolding view
  sends = partners_send (shape_of (view b)) may.fits vector wide may.ports (rw (← board.folded, ← same) partners.0)

  pub board_vector : BoardPorts w (shape_of (view b)) wide
  unfolding view
  board_vector = record { below = partners.1; there = send_there (shape_of (view b)) may.fits vector wide may.ports (rw (← board.folded, ← same) partners.0) }

  may_ports : {v : ℕ} → BoardPorts w (shape_of (view b)) v → MayTryPaths long q w f b s t v
  may_ports h = record { board = board; bytes = may.bytes; fits = may.fits; source = may.source; target = may.target; vector_ports = h }

  pub may_each : MayTryPaths long q w f b s t wide
  may_each = may_ports board_vector

  pub each_sent : sent_over b s t c wide ≡ searched b s t c 1 vector
  unfolding searched sent_over tried_in
  each_sent =
      ap (send_answer true b c s t)
      (ap (λ ps. one_result (receive (view b) t) (tried_after b s t 0 ps)) sends ∙ sym (helix_answers_lem (shape_of (view b)) (free_in (view b)) (receive (view b) t) s vector t))

  -- a vector that is not empty has a port that is its own axis
  pub some_wide : vector ≢ 0 → wide ≢ 0
  some_wide some z = absurd (some (no_ports 8 vector (byte_vector may.fits may.ports) (λ p l. sym (rw same at (partners.0.given p (omega arith))) ∙ rw z (zero_has p))))

  module _ {p : ℕ} (first : FirstByRule wide a p) where
    lowest : FirstTried positions wide a p
    lowest = first.tried 18 partners.0.small

    pub lowest_small : p < w
    lowest_small = (first.tried w partners.1).small

    alone : ports_of positions (2 ^ p) ≡ p ∷ []
    alone = one_port p a lowest.small

    in_turn : ports_of positions wide ≡ p ∷ helical a (ports_of positions (wide - 2 ^ p))
    in_turn = sym (helical_last a (ports_of positions wide) (λ q m. let l = low_port w wide q partners.1 (ports_mem 18 wide m).1 in omega (arith, l, last))) ∙ lowest.rest

    pub may_lowest : {v : ℕ} → v ≡ 2 ^ p → MayTryPaths long q w f b s t v
    may_lowest e =
        may_ports
        (rw e (record {
          below = pow-lt lowest_small;
          there = λ q on. ⊎_elim (λ i. rw i (board_vector.there p lowest.offered)) (λ off. absurd (clash on (power_off p a lowest.small q off))) (same? q p);
        }))

    pub lowest_sent : {v : ℕ} → v ≡ 2 ^ p → sent_over b s t c v ≡ searched b s t c 3 vector
    unfolding searched sent_over tried_in
    lowest_sent e =
        ap (send_answer true b c s t)
        (ap (λ ps. one_result (receive (view b) t) (tried_after b s t 0 ps)) (rw e alone ∙ ap (take 1) (sym in_turn ∙ sends)) ∙ sym (fixed_answers (shape_of (view b)) (free_in (view b)) (receive (view b) t) s vector t))
