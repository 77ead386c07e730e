-- The stacks of a checked tree, and what is so of each of a stack's constructs of a kind.
use Rattle.std.proofs.Common.{◌≡◌, ◌<◌, ℕ, List, length, Bool, true}
use Rattle.std.specs.Prelude.{◌&&◌}
use Rattle.cdk_elements.specs.Kinds.{is_in, of_kind, stacks_of}
use Rattle.cdk_language.specs.Construct.{Body}
use Rattle.cdk_meaning.specs.Names.{Each, IsIn}
use Rattle.cdk_premises.specs.OneTree.{IsOneTree}
use Rattle.cdk_premises.proofs.Lists.{each_picked}
use Rattle.cdk_tree.specs.Placed.{Placed, construct_at, is_stack}
use Rattle.cdk_tree.proofs.Tests.{and_right}
use Rattle.cdk_tree_meaning.specs.Checked.{AreChecked}

pub one_tree : (cs : List Placed) (stack : ℕ) → AreChecked cs → IsIn stack (stacks_of cs) → IsOneTree cs stack
one_tree cs stack c there = record { application = c.application; rooted = c.rooted; walked = c.walked; one = c.one; placed = c.places; sound = c.sound; there = there }

pub each_stack : (cs : List Placed) (P : ℕ → Type 0) → ((n : ℕ) → is_stack (construct_at cs n).body ≡ true → P n) → Each P (stacks_of cs)
each_stack cs P f = each_picked P (λ n. is_stack (construct_at cs n).body) (length cs) (λ n within is. f n is)

pub each_of_kind : (cs : List Placed) (stack : ℕ) (kind : Body → Bool) (P : ℕ → Type 0) → ((n : ℕ) → n < length cs → kind (construct_at cs n).body ≡ true → P n) → Each P (of_kind cs stack kind)
each_of_kind cs stack kind P f =
    each_picked P (λ n. is_in stack (construct_at cs n).stack && kind (construct_at cs n).body) (length cs)
    (λ n within its. f n within (and_right (is_in stack (construct_at cs n).stack) (kind (construct_at cs n).body) its))
