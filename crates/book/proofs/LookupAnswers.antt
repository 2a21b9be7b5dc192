-- What a lookup answers, test by test.
-- Assumes nothing.
use mathlib.Core.Path.{◌≡◌, refl, ap, ◌∙◌}
use mathlib.Core.Logic.{◌≢◌}
use mathlib.Core.Bool.{Bool, true, false}
use mathlib.Core.List.{List, ◌++◌}
use Prim.Native.Nat.{ℕ, ◌+◌, ◌-◌, ◌≤◌, ◌<◌}
use native.Mathlib.Omega.{arith}
use lib.ListN.{length, take, drop, length-take}
use lib.Seq.{sets, sets-eq}
use borrow.Author.Tests.{lt-ltb, le-ltb}
use Rattle.common.specs.Tests.{refusal}
use Rattle.common.proofs.Tests.{is_false}
use Rattle.circuit_path.specs.Traced.{traced_into}
use Rattle.book.specs.Lookup.{IndexLine, index_lines, is_listed, listed_line, ports_of_line, well_formed, lookup_tests, LookupResult, looked_up}
use Rattle.book.proofs.Lines.{formed, LineFound, line_found, line_none}

module _ (ports index : List ℕ) (circuits hops c : ℕ) (buffer : List ℕ) where
  abbrev the_line : IndexLine
  the_line = listed_line c (index_lines circuits index)

  abbrev refused_as : ℕ → LookupResult
  refused_as n = record { number = n; hops = 0; buffer = buffer }

  abbrev answer : LookupResult
  answer = looked_up ports index circuits hops c buffer

  pub looked_ill : well_formed ports index circuits hops ≡ false → refused_as 25 ≡ answer
  unfolding looked_up lookup_tests refusal
  looked_ill e = rw e

  module _ (well : well_formed ports index circuits hops ≡ true) where
    -- by whether the circuit is listed
    pub unlisted_refused : is_listed c (index_lines circuits index) ≡ false → refused_as 12 ≡ answer
    unfolding looked_up lookup_tests refusal
    unlisted_refused e = rw (well, e)

    -- a circuit whose line is x
    module _ (x : IndexLine) (listed : is_listed c (index_lines circuits index) ≡ true) (is : x ≡ the_line) where
      pub its_line : LineFound x hops
      its_line = rw is (line_found c 0 0 (index_lines circuits index) hops (formed ports index circuits hops well).2 listed)

      pub listed_short : length buffer < 9 → refused_as 14 ≡ answer
      unfolding looked_up lookup_tests refusal
      listed_short h = rw (well, listed, lt-ltb (length buffer) 9 h)

      -- its ports; they fit a buffer of nine
      abbrev path : List ℕ
      path = ports_of_line ports x

      module _ (room : 9 ≤ length buffer) where
        pub path_fits : length (path) ≤ length buffer
        path_fits = omega (arith, length-take x.hops (drop x.offset ports), its_line.few)

        pub listed_found : {after : List ℕ} → after ≡ sets buffer 0 (path) → record { number = 0; hops = x.hops; buffer = after } ≡ answer
        unfolding looked_up lookup_tests refusal traced_into
        listed_found e =
            let all : 0 + length (path) ≡ length (path) = omega arith in
            let whole = e ∙ sets-eq (path) buffer 0 (omega (arith, path_fits)) ∙ ap (λ n. path ++ drop n buffer) all in
            rw (whole, well, listed, le-ltb (length buffer) 9 room) (ap (λ (y : IndexLine). record { number = 0; hops = y.hops; buffer = traced_into (ports_of_line ports y) buffer }) is)

    -- the same by the hops of its line: no line of a well-formed book has none
    pub looked_none : the_line.hops ≡ 0 → refused_as 12 ≡ answer
    looked_none z =
        unlisted_refused (is_false _ (λ l. let f = line_found c 0 0 (index_lines circuits index) hops (formed ports index circuits hops well).2 l in omega (arith, f.some, z)))

    module _ (x : IndexLine) (is : x ≡ the_line) (some : x.hops ≢ 0) where
      is_in : is_listed c (index_lines circuits index) ≡ true
      is_in = go (is_listed c (index_lines circuits index)) refl
        where
          go : (b : Bool) → is_listed c (index_lines circuits index) ≡ b → b ≡ true
          go true e = refl
          go false e = absurd (some (ap (λ (y : IndexLine). y.hops) is ∙ line_none c (index_lines circuits index) e))

      pub looked_short : length buffer < 9 → refused_as 14 ≡ answer
      looked_short h = listed_short x is_in is h

      pub looked_found : 9 ≤ length buffer → (after : List ℕ) → after ≡ sets buffer 0 (take (x.offset + x.hops - x.offset) (drop x.offset ports))
          → record { number = 0; hops = x.hops; buffer = after } ≡ answer
      looked_found h after e =
          let part : x.offset + x.hops - x.offset ≡ x.hops = omega arith in
          listed_found x is_in is h (e ∙ ap (λ (n : ℕ). sets buffer 0 (take n (drop x.offset ports))) part)
