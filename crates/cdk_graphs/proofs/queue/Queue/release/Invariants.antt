use Rattle.std.proofs.Common.{◌≡◌, ℕ, ◌+◌, ◌≤◌, drop}
use Rattle.std.specs.Prelude.{◌||◌, ◌&&◌, nat_eq, nat_lt}
use Rattle.cdk_graphs.specs.Queued.{occurrences, waits, is_queued}
use Rattle.cdk_graphs.proofs.queue.Queue.release.Given as goal

abbrev pub invariant-loop-number : goal.invariant-loop-number
invariant-loop-number l = record {
  enough : (k : ℕ) → occurrences k (drop l.number-index l.numbers) ≤ waits l.self k;
  counted : (k : ℕ) → waits l.self k + occurrences k l.numbers ≡ waits l.initial.self k + occurrences k (drop l.number-index l.numbers);
  queued : (k : ℕ) → is_queued l.self k || (nat_lt 0 (occurrences k (drop l.number-index l.numbers)) && nat_eq (waits l.self k) (occurrences k (drop l.number-index l.numbers)))
      ≡ is_queued l.initial.self k || (nat_lt 0 (occurrences k l.numbers) && nat_eq (waits l.initial.self k) (occurrences k l.numbers));
}
