-- The two layouts of a table, and links and receive channels, the two resources that circuits hold: what holds for both of each, so that a function over either
-- is proved once (Forms 10).
-- Assumes nothing.
use Rattle.std.specs.Prelude.{Bool, true, false, eqb, ◌≡◌, refl, List, ℕ, ◌+◌, ◌*◌, ◌≤◌, length, cond}
use mathlib.Core.Logic.{◌⊎◌, inl, inr}
use mathlib.Core.Path.{ap, sym, ◌∙◌}
use native.Mathlib.Omega.{arith}
use Rattle.std.proofs.Common.{lit≤}
use Rattle.layout.specs.Layout.{table_length, wide_length, length_of, ports_in, mask_size, enable_part, arm_part, link_part, receive_part, mask_at, enabled_at, armed_at, entry_at, owner_at, receiver_at}
use Rattle.layout.specs.LayoutContracts.{put_mask, put_enabled, put_armed, put_entry, put_owner, put_receiver}

-- the widths of a row
abbrev pub Width : ℕ → Type 0
Width w = (w ≡ 8) ⊎ (w ≡ 18)

-- a layout: the bytes of a table, the ports of a node, and where each part begins
pub record LayoutLaws (long ports enable links receives arms : ℕ) : Type 0 where
  pub ports_are : Width ports
  pub long_is : long ≡ length_of ports
  pub enable_is : enable ≡ enable_part ports
  pub links_is : links ≡ link_part ports
  pub receives_is : receives ≡ receive_part ports
  pub arms_is : arms ≡ arm_part ports

pub narrow_laws : LayoutLaws 8705 8 1 257 4353 8449
narrow_laws = record { ports_are = inl refl; long_is = refl; enable_is = refl; links_is = refl; receives_is = refl; arms_is = refl }

pub wide_laws : LayoutLaws 14338 18 2 770 9986 14082
wide_laws = record { ports_are = inr refl; long_is = refl; enable_is = refl; links_is = refl; receives_is = refl; arms_is = refl }

-- Which layout bytes have shows in their length.
pub ports_of_long : (q : ℕ) (b : List ℕ) → Width q → length b ≡ length_of q → ports_in b ≡ q
unfolding ports_in
ports_of_long q b (inl e) l = rw (l, e) refl
ports_of_long q b (inr e) l = rw (l, e) refl

-- Any bytes are read as one or the other.
pub width_in : (b : List ℕ) → Width (ports_in b)
unfolding ports_in
width_in b = go (eqb (length b) wide_length)
  where
    go : (x : Bool) → Width (cond x 18 8)
    go true = inr refl
    go false = inl refl

-- and bytes that are as many as the same
pub ports_same : (b b' : List ℕ) → length b' ≡ length b → ports_in b' ≡ ports_in b
unfolding ports_in
ports_same b b' l = rw l refl

-- every row has 8 places or more
pub width_least : {w : ℕ} → Width w → 8 ≤ w
width_least (inl e) = omega arith
width_least (inr e) = omega arith

-- the laws of the layout of so many ports
pub layout_laws : (q : ℕ) → Width q → LayoutLaws (length_of q) q (enable_part q) (link_part q) (receive_part q) (arm_part q)
layout_laws q width = record { ports_are = width; long_is = refl; enable_is = refl; links_is = refl; receives_is = refl; arms_is = refl }

-- bytes that are as many as those of the layout that they are read as: a table's
abbrev pub IsTable : List ℕ → Type 0
IsTable b = length b ≡ length_of (ports_in b)

pub is_table : {long q enable links receives arms : ℕ} → LayoutLaws long q enable links receives arms → (b : List ℕ) → length b ≡ long → IsTable b
is_table {long} {q} laws b l = l ∙ laws.long_is ∙ ap length_of (sym (ports_of_long q b laws.ports_are (l ∙ laws.long_is)))

pub is_narrow : (b : List ℕ) → length b ≡ table_length → IsTable b
is_narrow b l = is_table narrow_laws b l

pub table_kept : (b b' : List ℕ) → length b' ≡ length b → IsTable b → IsTable b'
table_kept b b' e l = e ∙ l ∙ ap length_of (sym (ports_same b b' e))

-- a mask for each of 256 nodes from `masks` on, and a row for each from `rows` on
pub record ResourceLaws (long width masks rows : ℕ) (enabled : List ℕ → ℕ → ℕ → Bool) (owner : List ℕ → ℕ → ℕ → ℕ) (put_on : List ℕ → ℕ → ℕ → Bool → List ℕ) (put_own : List ℕ → ℕ → ℕ → ℕ → List ℕ) : Type 0 where
  pub width_is : Width width
  pub width_most : width ≤ 18
  pub masks_inside : masks + 256 * mask_size width ≤ long
  pub rows_inside : rows + 512 * width ≤ long
  pub long_most : long ≤ 14338
  pub enabled_is : (b : List ℕ) → length b ≡ long → enabled b ≡ mask_at width masks b
  pub owner_is : (b : List ℕ) → length b ≡ long → owner b ≡ entry_at width rows b
  pub put_enabled_is : (b : List ℕ) → length b ≡ long → put_on b ≡ put_mask width masks b
  pub put_owner_is : (b : List ℕ) → length b ≡ long → put_own b ≡ put_entry width rows b

-- The two proofs of them stand here, since the `ghost laws` of an impl may cite what is in specs/ alone.
module _ {long q enable links receives arms : ℕ} (laws : LayoutLaws long q enable links receives arms) where
  ports : (b : List ℕ) → length b ≡ long → ports_in b ≡ q
  ports b l = ports_of_long q b laws.ports_are (l ∙ laws.long_is)

  most : Width q → q ≤ 18
  most (inl e) = omega arith
  most (inr e) = omega arith

  long_most : Width q → long ≤ 14338
  long_most (inl e) = rw (laws.long_is, e) (lit≤ tt)
  long_most (inr e) = rw (laws.long_is, e) (lit≤ tt)

  pub links_laws : ResourceLaws long q enable links enabled_at owner_at put_enabled put_owner
  unfolding enabled_at owner_at put_enabled put_owner
  links_laws =
      record {
        width_is = laws.ports_are;
        width_most = most laws.ports_are;
        masks_inside = omega (arith, laws.long_is, laws.enable_is);
        rows_inside = omega (arith, laws.long_is, laws.links_is);
        long_most = long_most laws.ports_are;
        enabled_is = λ b l. ap (λ w. mask_at w (enable_part w) b) (ports b l) ∙ ap (λ at. mask_at q at b) (sym laws.enable_is);
        owner_is = λ b l. ap (λ w. entry_at w (link_part w) b) (ports b l) ∙ ap (λ at. entry_at q at b) (sym laws.links_is);
        put_enabled_is = λ b l. ap (λ w. put_mask w (enable_part w) b) (ports b l) ∙ ap (λ at. put_mask q at b) (sym laws.enable_is);
        put_owner_is = λ b l. ap (λ w. put_entry w (link_part w) b) (ports b l) ∙ ap (λ at. put_entry q at b) (sym laws.links_is);
      }

  pub channels_laws : ResourceLaws long 8 arms receives armed_at receiver_at put_armed put_receiver
  unfolding armed_at receiver_at put_armed put_receiver
  channels_laws =
      record {
        width_is = inl refl;
        width_most = lit≤ tt;
        masks_inside = omega (arith, laws.long_is, laws.arms_is);
        rows_inside = omega (arith, laws.long_is, laws.receives_is);
        long_most = long_most laws.ports_are;
        enabled_is = λ b l. ap (λ w. mask_at 8 (arm_part w) b) (ports b l) ∙ ap (λ at. mask_at 8 at b) (sym laws.arms_is);
        owner_is = λ b l. ap (λ w. entry_at 8 (receive_part w) b) (ports b l) ∙ ap (λ at. entry_at 8 at b) (sym laws.receives_is);
        put_enabled_is = λ b l. ap (λ w. put_mask 8 (arm_part w) b) (ports b l) ∙ ap (λ at. put_mask 8 at b) (sym laws.arms_is);
        put_owner_is = λ b l. ap (λ w. put_entry 8 (receive_part w) b) (ports b l) ∙ ap (λ at. put_entry 8 at b) (sym laws.receives_is);
      }
