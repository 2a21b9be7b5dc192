-- Judging 2: each test of judging passes exactly where its rule holds, and so no test stops a book exactly where it is loadable.
-- Assumes nothing.
use mathlib.Core.Path.{◌≡◌, refl, ap, sym, ◌∙◌}
use mathlib.Core.Logic.{⊎_elim, ◌↔◌, ◌≢◌}
use mathlib.Core.Bool.{Bool, true, not}
use mathlib.Core.List.{List, [], ◌∷◌, map}
use Prim.Native.Nat.{ℕ, ◌^◌, ◌≤◌, ◌<◌}
use native.Mathlib.Omega.{arith}
use lib.Dec.{ltb}
use borrow.Author.Tests.{ltb-true, lt-ltb, not-true, not-false}
use Rattle.std.specs.List.{list_all}
use Rattle.common.specs.Lists.{Pairwise}
use Rattle.common.specs.Tests.{Test, test, refusal}
use Rattle.common.proofs.Tests.{below_or, both, and, is_false, refused, passed, accepted, avoids, avoiding, never_answered}
use Rattle.cube.specs.Axes.{axis, present}
use Rattle.cube.specs.Bits.{has}
use Rattle.cube.specs.Cube.{source_of}
use Rattle.cube.proofs.Axes.{present_low, present_axis}
use Rattle.cube.proofs.PartnerPorts.{axis_high, present_folded}
use Rattle.paths.specs.CubeNetwork.{send_ports}
use Rattle.paths.proofs.Links.{permitted_distinct}
use Rattle.paths.proofs.CubeNetwork.{cube_nearing}
use Rattle.book.specs.Book.{BookCircuit}
use Rattle.book.proofs.WellFormedBook.{well_formed_exactly}
use Rattle.judging.specs.Judged.{JudgeFacts, judge_shape, judge_net, circuits_in, links_in, target_in, is_permitted, in_cube, circuit_fits, links_fit, all_links, targets_fit, judge_tests}
use Rattle.judging.specs.Loadable.{PortOf, own_port, partner_port, CircuitRight, CircuitsRight, LinksFree, ChannelsSuffice, Loadable}
use Rattle.judging.proofs.AllPass.{all_pass, pass_all}
use Rattle.judging.proofs.PermittedTest.{permitted_some, some_permitted}
use Rattle.judging.proofs.LinksTest.{links_pass, pass_links}
use Rattle.judging.proofs.TargetsTest.{targets_pass}

-- a port is there exactly where it is one below the dimension, or a partner of a folded dimension
pub port_exactly : (D fold p : ℕ) → (present D fold p ≡ true) ↔ PortOf D fold p
port_exactly D fold p = (there, back)
  where
    other : 9 ≤ p → p ≢ axis p
    other h e = omega (arith, e, axis_high p h)

    there : present D fold p ≡ true → PortOf D fold p
    there e =
        let r = present_axis D fold p e in
        ⊎_elim (λ l. own_port l (ltb-true p D (sym (present_low D fold p l) ∙ e)))
        (λ h.
        let a = axis_high p h in
        let on : has fold (axis p) ≡ true = present_folded D fold p r.0 r.1 (other h) ∙ e in
        partner_port (omega arith) r.0 (omega (arith, a, r.1)) (rw a at on)) (below_or 9 p)

    back : PortOf D fold p → present D fold p ≡ true
    back (own_port l k) = present_low D fold p l ∙ lt-ltb p D k
    back (partner_port h l k on) =
        let a = axis_high p (omega arith) in
        sym (present_folded D fold p l (omega (arith, a, k)) (other (omega arith))) ∙ rw a on

module _ (a : JudgeFacts) where
  -- the test of a circuit passes where its source, path and send channel are right,
  fits_right : (x : BookCircuit) → circuit_fits a x ≡ true → CircuitRight a x
  unfolding circuit_fits in_cube
  fits_right x e =
      let r = both (in_cube a x) _ e in
      let i = both (ltb (source_of x.number) (2 ^ a.dimension)) _ r.0 in
      let p = both (is_permitted (judge_net a) (source_of x.number) (target_in (judge_net a) x) x.ports) _ r.1 in
      let inside : source_of x.number < 2 ^ a.dimension = ltb-true _ _ i.0 in
      let there = all_pass (present a.dimension a.fold) x.ports i.1 in
      let some = permitted_some (judge_shape a) (source_of x.number) x.ports inside there p.0 in
      record { source = inside; port = λ p m. (port_exactly a.dimension a.fold p).0 (there p m); vector = some.0; vector_small = some.1; target = some.2; permitted = some.3; not_open = not-true _ p.1 }

  -- and only there
  right_fits : (x : BookCircuit) → CircuitRight a x → circuit_fits a x ≡ true
  unfolding circuit_fits in_cube
  right_fits x h =
      and (and (lt-ltb _ _ h.source) (pass_all (present a.dimension a.fold) x.ports (λ p m. (port_exactly a.dimension a.fold p).1 (h.port p m))))
      (and (some_permitted (judge_shape a) (source_of x.number) h.vector (target_in (judge_net a) x) x.ports h.permitted) (ap not h.not_open))

  -- and no circuit whose path is right has a link twice
  once : (x : BookCircuit) → CircuitRight a x → Pairwise ◌≢◌ (links_in (judge_net a) x)
  once x h = permitted_distinct (cube_nearing (judge_shape a) (target_in (judge_net a) x)) (source_of x.number) (send_ports (judge_shape a) h.vector) x.ports h.permitted

  module _ (xs : List BookCircuit) where
    -- The test of the circuits passes exactly where each of them is right,
    pub circuits_exactly : (list_all (circuit_fits a) xs ≡ true) ↔ CircuitsRight a xs
    circuits_exactly = ((λ e x m. fits_right x (all_pass (circuit_fits a) xs e x m)), (λ h. pass_all (circuit_fits a) xs (λ x m. right_fits x (h x m))))

    -- that of the links, of circuits that are right, exactly where all are free and no two circuits share one,
    pub links_exactly : CircuitsRight a xs → (links_fit a.free [] (all_links (judge_net a) xs) ≡ true) ↔ LinksFree a xs
    links_exactly right = (
      (λ e. let r = links_pass (judge_net a) a.free xs e in record { free = r.0; apart = r.1 }),
      (λ h. pass_links (judge_net a) a.free xs (λ x m. once x (right x m)) h.free h.apart),
    )

    -- and that of the targets exactly where their receive channels suffice.
    pub targets_exactly : (targets_fit a.available [] (map (target_in (judge_net a)) xs) ≡ true) ↔ ChannelsSuffice a xs
    targets_exactly = targets_pass a.available (target_in (judge_net a)) xs

-- A test b that is asked before others, and applies where P does not hold:
module _ {P : Type 0} {b : Bool} (says : (b ≡ true) ↔ P) (n : ℕ) (ts : List Test) where
  -- its number, which none of the others has, is answered exactly where P does not hold,
  pub first_fails : avoids n ts ≡ true → 0 < n → (refusal (test (not b) n ∷ ts) ≡ n) ↔ (P → ⊥)
  first_fails others some = (
    (λ e p. never_answered n ts (avoiding n ts others) (λ z. omega arith) (sym (passed n ts (ap not (says.1 p))) ∙ e)),
    (λ h. refused n ts (ap not (is_false b (λ q. h (says.0 q))))),
  )

  -- and every other answer is given exactly where P holds and the others give it.
  pub first_holds : {m : ℕ} {Q : Type 0} → n ≢ m → (P → (refusal ts ≡ m) ↔ Q) → (refusal (test (not b) n ∷ ts) ≡ m) ↔ (P × Q)
  first_holds {m} {Q} other rest = (
    (λ e.
        let q = not-false b (is_false (not b) (λ applies. other (sym (refused n ts applies) ∙ e))) in
        let p = says.0 q in
        (p, (rest p).0 (sym (passed n ts (ap not q)) ∙ e))),
    (λ h. passed n ts (ap not (says.1 h.0)) ∙ (rest h.0).1 h.1),
  )

-- behind the last test
no_more : (refusal [] ≡ 0) ↔ Unit {0}
no_more = ((λ e. tt), (λ u. accepted))

-- No test stops a book exactly where it is loadable.
pub accepted_exactly : (a : JudgeFacts) (ports index : List ℕ) (circuits hops : ℕ)
    → (refusal (judge_tests a ports index circuits hops) ≡ 0) ↔ Loadable a ports index circuits hops
unfolding judge_tests
accepted_exactly a ports index circuits hops =
    let xs = circuits_in ports index circuits in
    let four =
    first_holds (well_formed_exactly ports index circuits hops) 25 _ (λ z. omega arith)
    (λ w. first_holds (circuits_exactly a xs) 26 _ (λ z. omega arith)
    (λ r. first_holds (links_exactly a xs r) 27 _ (λ z. omega arith)
    (λ l. first_holds (targets_exactly a xs) 11 [] (λ z. omega arith) (λ c. no_more)))) in (
      (λ e. let h = four.0 e in record { well_formed = h.0; circuits_right = h.1.0; links_free = h.1.1.0; channels_suffice = h.1.1.1.0 }),
      (λ h. four.1 (h.well_formed, (h.circuits_right, (h.links_free, (h.channels_suffice, tt))))),
    )

-- The answer is 11 only where the three tests before that of the receive channels pass, so it is never that where these leave enough of them.
pub not_full : (a : JudgeFacts) (ports index : List ℕ) (circuits hops : ℕ)
    → (CircuitsRight a (circuits_in ports index circuits) → LinksFree a (circuits_in ports index circuits) → ChannelsSuffice a (circuits_in ports index circuits))
    → refusal (judge_tests a ports index circuits hops) ≢ 11
unfolding judge_tests avoids
not_full a ports index circuits hops enough e =
    let xs = circuits_in ports index circuits in
    let four =
    first_holds (well_formed_exactly ports index circuits hops) 25 _ (λ z. omega arith)
    (λ w. first_holds (circuits_exactly a xs) 26 _ (λ z. omega arith)
    (λ r. first_holds (links_exactly a xs r) 27 _ (λ z. omega arith)
    (λ l. first_fails (targets_exactly a xs) 11 [] refl (omega arith)))) in
    let h = four.0 e in h.1.1.1 (enough h.1.0 h.1.1.0)
