-- An order of a sound application's lazies suits the check of sizes and rendering: what is mentioned anywhere is a lazy, and each lazy stands in it.
use Rattle.cdk_lazies.proofs.LawTargets.{lazy_orders_are_orders, mentioned_is_lazy}
use Rattle.cdk_lazies.proofs.LawTokens.{tokens_are_downward}
use Rattle.cdk_premises.specs.SuitedLaws.{LazyOrdersAreReady, LazyOrdersSuit}

pub lazy_orders_suit : LazyOrdersSuit
lazy_orders_suit cs sound order is = record {
  lazies = is.lazies;
  behind = lazy_orders_are_orders cs sound order is;
  all = λ d m mentioned. is.whole (tokens_are_downward cs sound) m (mentioned_is_lazy cs sound d m mentioned);
}

pub lazy_orders_are_ready : LazyOrdersAreReady
lazy_orders_are_ready cs sound order is =
    let suits = lazy_orders_suit cs sound order is in record { lower = tokens_are_downward cs sound; behind = suits.behind; all = suits.all }
