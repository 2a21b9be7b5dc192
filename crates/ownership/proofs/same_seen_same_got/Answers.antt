-- `ownership::same_seen_same_got` meets its contract: it is the theorem.
use Rattle.ownership.proofs.SameOpen.{same_open}
use Rattle.ownership.proofs.same_seen_same_got.Goals as goal

pub returns : goal.returns
returns c = λ q r width₁ width₂ a b all₁ all₂ pass₁ pass₂ s c t vector up same. same_open q r width₁ width₂ a b all₁ all₂ pass₁ pass₂ s c t vector up same
