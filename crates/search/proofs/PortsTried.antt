-- The turns of a node that tries its ports: what each asks of the arrival behind its port, and what it makes of the answer.
-- Assumes nothing.
use mathlib.Core.Path.{◌≡◌, refl, ap, sym, ◌∙◌}
use mathlib.Core.Logic.{◌≢◌}
use mathlib.Core.Bool.{true, false}
use mathlib.Core.List.Memᴰ
use mathlib.Core.List.{List, [], ◌∷◌}
use Prim.Native.Nat.{ℕ, suc, ◌+◌, ◌-◌, ◌*◌, ◌^◌, ◌≤◌, ◌<◌}
use native.Mathlib.Omega.{arith}
use native.Mathlib.Numerals.{add-one}
use lib.ListN.{length}
use Rattle.paths.specs.Send.{Receive}
use Rattle.common.specs.Lists.{◌∈◌}
use Rattle.cube.specs.Axes.{positions}
use Rattle.cube.specs.Bits.{has}
use Rattle.cube.specs.CubeContracts.{Without, FirstTried, FirstByRule}
use Rattle.cube.specs.Cube.{NodeOf, next}
use Rattle.cube.specs.Helical.{helical, ports_of}
use Rattle.cube.proofs.Order.{byte_vector, mem_ports, ports_mem, length_helical, helical_mem, mem_helical, helical_zero}
use Rattle.cube.proofs.Ports.{without_power}
use Rattle.paths.specs.CubeNetwork.{unfolded, ports, network}
use Rattle.paths.specs.Search.{trying, arriving}
use Rattle.paths.specs.Pass.{PassResult, scouts}
use Rattle.paths.proofs.CubeNetwork.{cube_nearing, cube_cubical, port_inside}
use Rattle.paths.proofs.FoldedCube.{board_port, two_links}
use Rattle.common.proofs.Tests.{both}
use lib.Pow.{pow_mono}
use native.Mathlib.Nat.{lt_of_lt_of_le}
use Rattle.paths.specs.Bound.{ways_from}
use Rattle.paths.proofs.Bound.{arriving_sends, ways_more}
use Rattle.layout.specs.Layout.{dimension_at, ports_in}
use Rattle.layout.specs.Resources.{LayoutLaws, IsTable, is_table, ports_of_long}
use Rattle.entries.specs.EntryContracts.{put_owner, InTable}
use Rattle.table.specs.View.{view, set_owner, net, shape_of}
use Rattle.table.proofs.Views.{view_put_owner_of}
use Rattle.answers.specs.SendOnTable.{free_in, AnswerOnBytes, answer_on_bytes}
use Rattle.answers.specs.PassOnBytes.{answer_of_pass, arrival_after, hops_left}
use Rattle.answers.specs.SendAnswer.{BoardIn}
use Rattle.paths.specs.BoardPorts.{BoardPorts}
use Rattle.search.specs.SearchContracts.{farthest_after, try_answer, arrive_answer, Enabled, SearchPre, MayTry, MayArrive}
use Rattle.answers.proofs.PassOnBytes.{owner_length, arrival_after_lem, given_back_in, free_owner, port_busy, port_acknowledged, port_receive_rejected, port_route_rejected, answer_scouts, ports_over}
use Rattle.search.proofs.Narrow.{farthest_mem}

-- a hop held: the same cube
module _ (b : List ℕ) (n p c : ℕ) (l : IsTable b) (i : n < 256) (j : p < ports_in b) (small : c < 65536) where
  pub held_dimension : dimension_at (put_owner b n p c) ≡ dimension_at b
  held_dimension = unfold view set_owner in ap (λ v. v.dimension) (view_put_owner_of b l n p c i j small)

  pub held_shape : shape_of (view (put_owner b n p c)) ≡ shape_of (view b)
  held_shape = unfold set_owner in ap (λ v. shape_of v) (view_put_owner_of b l n p c i j small)

  pub held_net : net (view (put_owner b n p c)) ≡ net (view b)
  held_net = ap network held_shape

-- an arrival on the table with the hop held, read on the table before it
pub handed_on : (b : List ℕ) (t c : ℕ) (r : Receive) (n p h s : ℕ) → IsTable b → n < 256 → p < ports_in b → c < 65536 → c ≢ 0 → {b₁ : List ℕ} {n₁ : ℕ} → b₁ ≡ put_owner b n p c → n₁ ≡ next n p
    → arrive_answer b₁ t c r n₁ p (h + 1) (s + 1) ≡ answer_of_pass (put_owner b n p c) c (next n p) (h + 1) r (arrival_after (net (view b)) (free_in (view b)) t n p (suc s))
unfolding arrive_answer hops_left arrival_after network
handed_on b t c r n p h s l i j small z e q =
    let B = put_owner b n p c in
    let m = next n p in
    let near = cube_nearing (shape_of (view b)) t in
    rw (e, q)
    (ap (λ N. answer_of_pass B c m (h + 1) r (arriving (N.distance t m) N (free_in (view B)) t m p (s + 1))) (held_net b n p c l i j small)
    ∙ ap (answer_of_pass B c m (h + 1) r)
    (ap (arriving ((net (view b)).distance t m) (net (view b)) (free_in (view B)) t m p) (add-one s) ∙ arrival_after_lem (net (view b)) t near b n p c l i j small z ((net (view b)).distance t m) (suc s)))

-- what holds at each turn of the trying of ports: the bytes are those at the start, the ports left are ports of the vector, there is room for
-- the scouts still to be sent, and what is left to do gives the whole
pub record PortsTried (w : ℕ) (b : List ℕ) (t c : ℕ) (r : Receive) (n vector a h s : ℕ) (now : List ℕ) (left sent : ℕ) : Type 0 where
  pub same : now ≡ b
  pub vector_ports : BoardPorts w (shape_of (view b)) left
  pub sub : (p : ℕ) → p ∈ ports_of positions left → p ∈ ports_of positions vector
  pub room : sent + length (ports_of positions left) * (1 + ways_from 2 (farthest_after b t n vector)) < 2 ^ 32
  pub rest : try_answer b t c r n left a h sent ≡ try_answer b t c r n vector a h s

pub before_first_port : {long q w f : ℕ} {b : List ℕ} {t c : ℕ} {r : Receive} {n v a h s : ℕ} → MayTry long q w f b t c n v a h s → PortsTried w b t c r n v a h s b v s
before_first_port may = record { same = refl; vector_ports = may.vector_ports; sub = λ p m. m; room = may.room; rest = refl }

-- the answer of a node once it has tried the ports of a list
abbrev tried : List ℕ → ℕ → ℕ → Receive → ℕ → ℕ → List ℕ → ℕ → AnswerOnBytes
tried b t c r n h ps s = answer_of_pass b c n h r (trying (free_in (view b) n) (arrival_after (net (view b)) (free_in (view b)) t n) ps s)

-- what a node trying its ports may do with the first of those left
module _ {long q enable links receives arms : ℕ} (laws : LayoutLaws long q enable links receives arms) {w f : ℕ} {b now : List ℕ} {t c n a h v left p sent s : ℕ} {r : Receive} (may : MayTry long q w f b t c n v a h s) (inv : PortsTried w b t c r n v a h s now left sent) (first : FirstByRule left a p) where
  pub here_tried : FirstTried positions left a p
  here_tried = first.tried 18 (lt_of_lt_of_le inv.vector_ports.below (pow_mono may.here.board.most))

  pub here_small : p < w
  here_small = (first.tried w inv.vector_ports.below).small

  here_port : p ∈ ports (shape_of (view b))
  here_port = board_port (shape_of (view b)) inv.vector_ports p here_tried.offered

  here_node : n < 256
  here_node = byte_vector may.here.fits may.here.node

  here_table : IsTable b
  here_table = is_table laws b may.here.bytes

  here_place : p < ports_in b
  here_place = rw (ports_of_long q b laws.ports_are (may.here.bytes ∙ laws.long_is)) (omega (arith, here_small, may.here.board.row))

  here_within : InTable long q b n p
  here_within = record { bytes = may.here.bytes; node = here_node; port = omega (arith, here_small, may.here.board.row) }

  pub now_within : InTable long q now n p
  now_within = rw inv.same here_within

  here_member : p ∈ ports_of positions left
  here_member = mem_ports 18 left p here_tried.small here_tried.offered

  pub now_enabled : Enabled (view b) n v → (view now).enabled n p ≡ true
  now_enabled on = let m = ports_mem 18 v (inv.sub p here_member) in rw inv.same (on p m.0 m.1)

  here_reach : hops_left b t (next n p) ≤ farthest_after b t n v
  unfolding hops_left farthest_after network
  here_reach = farthest_mem (net (view b)) t n (ports_of positions v) p (inv.sub p here_member)

  -- one port fewer
  here_fewer : length (ports_of positions left) ≡ suc (length (ports_of positions (left - 2 ^ p)))
  here_fewer = sym (length_helical a (ports_of positions left)) ∙ ap length here_tried.rest ∙ ap suc (length_helical a (ports_of positions (left - 2 ^ p)))

  pub here_room : sent + (1 + ways_from 2 (farthest_after b t n v)) + length (ports_of positions (left - 2 ^ p)) * (1 + ways_from 2 (farthest_after b t n v)) < 2 ^ 32
  here_room = let e = rw here_fewer at inv.room in omega (arith, e)

  now_held : {b₁ : List ℕ} → b₁ ≡ put_owner now n p c → b₁ ≡ put_owner b n p c
  now_held held = held ∙ ap (λ x. put_owner x n p c) inv.same

  -- the arrival behind that port, on the table with the hop held
  module _ {b₁ : List ℕ} {n₁ : ℕ} (held : b₁ ≡ put_owner now n p c) (to : n₁ ≡ next n p) where
    held_distance : hops_left b₁ t n₁ ≡ hops_left b t (next n p)
    unfolding hops_left
    held_distance = rw (now_held held, to) (ap (λ N. N.distance t (next n p)) (held_net b n p c here_table here_node here_place may.here.small))

    held_here : SearchPre long q w f b₁ t c n₁ p
    held_here =
        let D : dimension_at b₁ ≡ dimension_at b = rw (now_held held) (held_dimension b n p c here_table here_node here_place may.here.small) in
        let same : shape_of (view b₁) ≡ shape_of (view b) = ap (λ x. shape_of (view x)) (now_held held) ∙ held_shape b n p c here_table here_node here_place may.here.small in
        let on : BoardIn q w f (view b) = may.here.board in
        let inside : NodeOf (dimension_at b) (next n p) = unfold view network in port_inside (shape_of (view b)) n p may.here.node here_port in
        record {
          board = record { row = on.row; most = on.most; folded = on.folded ∙ ap (λ S. S.fold) (sym same) };
          bytes = rw (now_held held) (owner_length b n p c ∙ may.here.bytes);
          fits = rw D may.here.fits;
          node = rw (D, to) inside;
          target = rw D may.here.target;
          port = here_small;
          circuit = may.here.circuit;
          small = may.here.small;
        }

    pub here_arrives : MayArrive long q w f b₁ t c n₁ p (h + 1) (sent + 1)
    here_arrives =
        let distance = held_distance in
        let less = here_reach in
        let more = ways_more 2 (hops_left b t (next n p)) (farthest_after b t n v) here_reach in
        record { here = held_here; hops = rw distance (omega (arith, may.hops)); room = rw distance (omega (arith, here_room)) }

    pub here_falls : hops_left b₁ t n₁ ≤ farthest_after b t n v
    here_falls = omega (arith, held_distance, here_reach)

  -- the vector without that port
  left_over : {x : ℕ} → Without left p x → x ≡ left - 2 ^ p
  left_over less = omega (arith, less.value)

  fewer_ports : BoardPorts w (shape_of (view b)) (left - 2 ^ p)
  fewer_ports =
      record {
        below = (let l = inv.vector_ports.below in omega arith);
        there = λ q e. inv.vector_ports.there q (both (has left q) _ (sym ((without_power left p here_tried.offered).bits q) ∙ e)).0;
      }

  tail_ports : (q : ℕ) → q ∈ ports_of positions (left - 2 ^ p) → q ∈ ports_of positions v
  tail_ports q m = inv.sub q (helical_mem a (ports_of positions left) (rw here_tried.rest (Memᴰ.tail (mem_helical a (ports_of positions (left - 2 ^ p)) m))))

  abbrev others : List ℕ
  others = helical a (ports_of positions (left - 2 ^ p))

  all_tries : tried b t c r n h (p ∷ others) sent ≡ try_answer b t c r n v a h s
  unfolding try_answer
  all_tries = ap (λ ps. tried b t c r n h ps sent) (sym here_tried.rest) ∙ inv.rest

  abbrev on : ℕ → ℕ → PassResult
  on = arrival_after (net (view b)) (free_in (view b)) t n

  -- the link is not free: on with the other ports
  pub tried_not_free : free_in (view now) n p ≡ false → {x : ℕ} → Without left p x → PortsTried w b t c r n v a h s now x sent
  unfolding try_answer
  tried_not_free e less =
      rw (left_over less)
      record {
        same = inv.same;
        vector_ports = fewer_ports;
        sub = tail_ports;
        room = omega (arith, here_room);
        rest = port_busy (free_in (view b) n) on b c n h r p others sent (rw (← inv.same) e) ∙ all_tries;
      }

  -- the link is free: the arrival behind it answers
  module _ (free_now : free_in (view now) n p ≡ true) {b₁ : List ℕ} {n₁ : ℕ} {got : AnswerOnBytes} (held : b₁ ≡ put_owner now n p c) (to : n₁ ≡ next n p)
      (arrival : got ≡ arrive_answer b₁ t c r n₁ p (h + 1) (sent + 1)) where
    free : free_in (view b) n p ≡ true
    free = rw (← inv.same) free_now

    -- its answer, on the table before the hop
    answer : {y : AnswerOnBytes} → got ≡ y → y ≡ answer_of_pass (put_owner b n p c) c (next n p) (h + 1) r (on p (suc sent))
    answer e = sym e ∙ arrival ∙ handed_on b t c r n p h sent here_table here_node here_place may.here.small may.here.circuit (now_held held) to

    -- a free path, and a receive channel to take
    pub tried_acknowledged : {x y d : ℕ} {b₂ : List ℕ} → got ≡ answer_on_bytes 0 x y d b₂ → got ≡ try_answer b t c r n v a h s
    tried_acknowledged {x} {y} {d} {b₂} e =
        e ∙ port_acknowledged (free_in (view b) n) on b c n h r p others sent free y x d b₂ (answer e) ∙ all_tries

    restored : {b₂ b₃ : List ℕ} → b₂ ≡ put_owner b n p c → b₃ ≡ put_owner b₂ n p 0 → b₃ ≡ b
    restored e q = q ∙ ap (λ y. put_owner y n p 0) e ∙ given_back_in b n p c here_node here_place (unfold view in free_owner (view b) n p free)

    -- a free path, and none to take
    pub tried_rejected : {d : ℕ} {b₂ b₃ : List ℕ} → got ≡ answer_on_bytes 11 0 0 d b₂ → b₃ ≡ put_owner b₂ n p 0 → answer_on_bytes 11 0 0 d b₃ ≡ try_answer b t c r n v a h s
    tried_rejected {d} {b₂} e q =
        let w = port_receive_rejected (free_in (view b) n) on b c n h r p others sent free 0 0 d b₂ (answer e) in
        ap (answer_on_bytes 11 0 0 d) (restored w.0 q) ∙ w.1 ∙ all_tries

    few_scouts : {d : ℕ} {b₂ : List ℕ} → got ≡ answer_on_bytes 10 0 0 d b₂ → d ≤ suc sent + ways_from 2 (farthest_after b t n v)
    unfolding arrival_after hops_left network
    few_scouts {d} {b₂} e =
        let m = ways_more 2 (hops_left b t (next n p)) (farthest_after b t n v) here_reach in
        let all = arriving_sends (cube_nearing (shape_of (view b)) t) (cube_cubical (shape_of (view b)) (two_links (shape_of (view b)) (unfold view in may.here.fits)) t) (free_in (view b)) (next n p) p (suc sent) in
        let same : d ≡ scouts (on p (suc sent)) = answer_scouts (put_owner b n p c) c (next n p) (h + 1) r (on p (suc sent)) 10 0 0 d b₂ (answer e) in
        omega (arith, all, m, same)

    -- no free path
    pub tried_next : {d x : ℕ} {b₂ b₃ : List ℕ} → got ≡ answer_on_bytes 10 0 0 d b₂ → Without left p x → b₃ ≡ put_owner b₂ n p 0 → PortsTried w b t c r n v a h s b₃ x d
    unfolding try_answer
    tried_next {d} {x} {b₂} e less u =
        let w = port_route_rejected (free_in (view b) n) on b c n h r p others sent free 0 0 d b₂ (answer e) in
        rw (left_over less)
        record {
          same = restored w.0 u;
          vector_ports = fewer_ports;
          sub = tail_ports;
          room = (let m = few_scouts e in omega (arith, here_room));
          rest = w.1 ∙ all_tries;
        }

-- no port left
pub no_port_left : {w : ℕ} {b : List ℕ} {t c n v a h s : ℕ} {r : Receive} {now : List ℕ} {left sent : ℕ} → PortsTried w b t c r n v a h s now left sent → left ≡ 0
    → answer_on_bytes 10 0 0 sent now ≡ try_answer b t c r n v a h s
unfolding try_answer
no_port_left {b = b} {t = t} {c = c} {n = n} {v = v} {a = a} {h = h} {s = s} {r = r} {now = now} {left = left} {sent = sent} inv z =
    let none : helical a (ports_of positions left) ≡ [] = ap (λ x. helical a (ports_of positions x)) z ∙ helical_zero 18 a in
    let over = ports_over (free_in (view b) n) (arrival_after (net (view b)) (free_in (view b)) t n) b c n h r sent in
    ap (answer_on_bytes 10 0 0 sent) inv.same ∙ over ∙ ap (λ ps. tried b t c r n h ps sent) (sym none) ∙ inv.rest
