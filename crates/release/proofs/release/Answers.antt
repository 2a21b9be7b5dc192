-- `release::release` meets its contract: the path of the circuit, and the receive channel at its end, are all that it holds.
use mathlib.Core.Path.{refl, ◌∙◌}
use native.Mathlib.Omega.{arith}
use Rattle.common.proofs.Lowest.{some_is, none_is}
use Rattle.release.proofs.Releasing.{may_free, target_within, channel_within, freed_within, all_freed}
use Rattle.release.proofs.release.Goals as goal

pub release_links-requires : goal.release_links-requires
release_links-requires g c =
    may_free g.met.L.Layout.laws c.requires.has_source c.requires.c_value c.requires.sound c.path-path.ensures.ports_value c.source_of.ensures

pub held_channel-requires : goal.held_channel-requires
held_channel-requires g c =
    target_within g.met.L.Layout.laws c.requires.has_source c.requires.c_value c.requires.sound c.path-path.ensures.ports_value c.source_of.ensures
    c.path-path.ensures.end_value c.release_links.ensures

pub set_owner-requires : goal.set_owner-requires
set_owner-requires g c =
    channel_within g.met.L.Layout.laws c.requires.has_source c.requires.c_value c.requires.sound c.path-path.ensures.ports_value c.source_of.ensures
    c.path-path.ensures.end_value c.release_links.ensures (some_is c.in-Some.ensures).0

pub set_enabled-requires : goal.set_enabled-requires
set_enabled-requires g c =
    freed_within g.met.L.Layout.laws c.requires.has_source c.requires.c_value c.requires.sound c.path-path.ensures.ports_value c.source_of.ensures
    c.path-path.ensures.end_value c.release_links.ensures (some_is c.in-Some.ensures).0 c.set_owner.ensures

pub returns-in-Some : goal.returns-in-Some
returns-in-Some g c =
    c.set_enabled.ensures
    ∙ all_freed g.met.L.Layout.laws c.requires.has_source c.requires.c_value c.requires.sound c.path-path.ensures.ports_value c.source_of.ensures
    c.path-path.ensures.end_value c.release_links.ensures (some_is c.in-Some.ensures).0 c.set_owner.ensures
    record { long = c.requires.has_source.bytes ∙ g.met.L.Layout.laws.long_is; small = λ i. omega (arith, c.slice_known-1.given i) }

-- the circuit holds a channel there
pub returns-in_default : goal.returns-in_default
returns-in_default g c =
    let w = channel_within g.met.L.Layout.laws c.requires.has_source c.requires.c_value c.requires.sound c.path-path.ensures.ports_value c.source_of.ensures
    c.path-path.ensures.end_value c.release_links.ensures refl in
    absurd (omega (arith, w.port, none_is (c.in_default.ensures)))
