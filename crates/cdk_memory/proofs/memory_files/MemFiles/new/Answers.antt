use Rattle.std.proofs.Common.{◌≡◌, ap, ◌∙◌, List, ℕ, length, arith}
use Rattle.std.specs.Ordering.{nat_cmp}
use Rattle.std.specs.Cmp.Lexicographic.{slice_cmp}
use Rattle.std.specs.FinMap.{len, len-empty}
use Rattle.cdk_memory.specs.Stored.{files_of, log_lies_in, names_lie_in}
use Rattle.cdk_memory.proofs.memory_files.MemFiles.new.Goals as goal

pub invariant_of-result : goal.invariant_of-result
invariant_of-result c =
    let store = c.in_ok-with_capacity.field-0.items in
    let log = c.in_ok-with_capacity-2.field-0.items in
    let none : len (files_of store log) ≡ 0 = ap (λ l. len (files_of store l)) c.in_ok-with_capacity-2.ensures.items ∙ len-empty (slice_cmp nat_cmp) (List ℕ) in
    record {
      lies = ap (log_lies_in (length store)) c.in_ok-with_capacity-2.ensures.items;
      directories_lie = ap (names_lie_in (length c.in_ok-with_capacity-3.field-0.items)) c.in_ok-with_capacity-4.ensures.items;
      store_fits = omega (arith, c.in_ok-with_capacity.ensures.len, c.in_ok-with_capacity.ensures.capacity);
      log_fits = omega (arith, none, c.in_ok-with_capacity-2.ensures.len, c.in_ok-with_capacity-2.ensures.capacity);
      directory_store_fits = omega (arith, c.in_ok-with_capacity-3.ensures.len, c.in_ok-with_capacity-3.ensures.capacity);
      directories_fit = omega (arith, c.in_ok-with_capacity-4.ensures.len, c.in_ok-with_capacity-4.ensures.capacity);
    }
