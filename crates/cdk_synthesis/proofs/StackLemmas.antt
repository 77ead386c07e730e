-- The first stack of a tree, and that a tree of one stack has no other.
use Rattle.std.proofs.Common.{◌≡◌, ◌<◌, ◌≤◌, ℕ, List, [], ◌∷◌, filter, length, Bool, true, false, cond, refl, sym, ap, arith, inl, inr}
use Rattle.cdk_elements.specs.Kinds.{stacks_of}
use Rattle.cdk_elements.specs.OneStack.{AreOneStack}
use Rattle.cdk_meaning.specs.Names.{IsIn}
use Rattle.cdk_premises.proofs.Lists.{is_picked}
use Rattle.cdk_tree.specs.Placed.{Placed, construct_at, is_stack}
use Rattle.cdk_synthesis.specs.Stacks.{first_in, first_stack}

-- of the numbers that are stacks
abbrev pub first_among : List Placed → List ℕ → ℕ
first_among cs ns = first_in (filter (λ n. is_stack (construct_at cs n).body) ns)

pub first_here : (cs : List Placed) (n : ℕ) (ns : List ℕ) → is_stack (construct_at cs n).body ≡ true → first_among cs (n ∷ ns) ≡ n
first_here cs n ns is = ap (λ b. first_in (cond b (n ∷ filter (λ m. is_stack (construct_at cs m).body) ns) (filter (λ m. is_stack (construct_at cs m).body) ns))) is

pub first_later : (cs : List Placed) (n : ℕ) (ns : List ℕ) → is_stack (construct_at cs n).body ≡ false → first_among cs (n ∷ ns) ≡ first_among cs ns
first_later cs n ns is = ap (λ b. first_in (cond b (n ∷ filter (λ m. is_stack (construct_at cs m).body) ns) (filter (λ m. is_stack (construct_at cs m).body) ns))) is

-- a stack is among the stacks
pub is_among : (cs : List Placed) (n : ℕ) → n < length cs → is_stack (construct_at cs n).body ≡ true → IsIn n (stacks_of cs)
is_among cs n within is = is_picked (λ m. is_stack (construct_at cs m).body) n (length cs) within is

only_first : (n : ℕ) (ns : List ℕ) → length ns ≤ 1 → IsIn n ns → n ≡ first_in ns
only_first n [] few i = absurd i
only_first n (m ∷ []) few (inl same) = sym same
only_first n (m ∷ []) few (inr i) = absurd i
only_first n (m ∷ k ∷ ns) few i = absurd (omega (arith, few))

pub alone : (cs : List Placed) (n : ℕ) → AreOneStack cs → IsIn n (stacks_of cs) → n ≡ first_stack cs
alone cs n one i = only_first n (stacks_of cs) one.few i
