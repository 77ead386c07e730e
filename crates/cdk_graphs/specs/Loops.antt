-- Whether a number reaches itself, as a truth value (own).
use Rattle.std.specs.Prelude.{ℕ, zero, suc, ◌||◌, length, Bool, false, nat_eq}
use Rattle.std.specs.List.{list_any}
use Rattle.cdk_graphs.specs.Graph.{Graph, IsClosed, ReachesItself, Tells, leads}

-- from n one comes to the goal by one step or more, at most so many
abbrev pub comes_to : Graph → ℕ → ℕ → ℕ → Bool
comes_to g zero goal n = false
comes_to g (suc k) goal n = list_any (λ m. nat_eq m goal || comes_to g k goal m) (leads g n)

-- A way that meets no number twice has at most as many steps as the graph has numbers.
abbrev pub reaches_itself : Graph → ℕ → Bool
reaches_itself g n = comes_to g (length g) n n

-- ---- laws

abbrev pub LoopsAreFound : Type 0
LoopsAreFound = (g : Graph) → IsClosed g → (n : ℕ) → Tells (reaches_itself g n) (ReachesItself g n)
