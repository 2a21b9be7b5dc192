-- A circuit's source and send channel give its number, and its number gives them back.
-- Assumes nothing.
use mathlib.Core.Path.{◌≡◌}
use Prim.Native.Nat.{ℕ, ◌<◌}
use native.Mathlib.Omega.{arith}
use Rattle.cube.specs.Cube.{channels, circuit_of, source_of, channel_of}

pub source_of_circuit : (s c : ℕ) → c < channels → source_of (circuit_of s c) ≡ s
source_of_circuit s c h = omega arith

pub channel_of_circuit : (s c : ℕ) → c < channels → channel_of (circuit_of s c) ≡ c
channel_of_circuit s c h = omega arith

pub circuit_of_parts : (k : ℕ) → 0 < k → circuit_of (source_of k) (channel_of k) ≡ k
circuit_of_parts k h = omega arith

pub channel_below : (k : ℕ) → channel_of k < channels
channel_below k = omega arith
