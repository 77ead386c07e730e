use Rattle.std.proofs.Common.{◌≡◌, ℕ, length}
use Rattle.serde_json.specs.Data.{no_members}
use Rattle.cdk_objects.specs.Maps.{members_in}
use Rattle.cdk_objects.proofs.maps.MapsByConstruct.new.Given as goal

abbrev pub invariant-loop-at : goal.invariant-loop-at
invariant-loop-at l = (length l.each.items ≡ l._at) × ((n : ℕ) → members_in l.each.items n ≡ no_members)
