-- The constructs that a list of slots holds: each slot by its parent, which is among those before it (own).
use Rattle.std.specs.Prelude.{◌≡◌, ◌<◌, ℕ, length, nat_le, ◌+◌, ◌==◌, ◌&&◌, List, [], ◌∷◌, ◌++◌, map, nat_lt, Bool, true, if◌then◌else◌, Option, Some, None}
use Rattle.std.specs.Option.{option_map_or}
use Rattle.serde_json.specs.Data.{Members}
use Rattle.serde_json.specs.View as json
use Rattle.cdk_language.specs.Construct.{Head, entry_view, kind_view}
use Rattle.cdk_tree.specs.Placed.{Placed, construct_at, is_stack, is_stage, path_in}
use Rattle.cdk_tree.specs.declared.part.Part.{Part}
use Rattle.cdk_tree.specs.declared.slot.Slot.{Slot}

abbrev pub head_of : Part → Head
head_of p = record { id = p.id; context = json.members_view p.context.entries; aspects = map entry_view p.aspects; depends = p.depends; logical = p.logical }

abbrev pub path_below : List Placed → Option ℕ → List ℕ → List ℕ
path_below before None i = []
path_below before (Some m) i = path_in (construct_at before m).path i

abbrev pub contexts_above : List Placed → Option ℕ → List Members
contexts_above before None = []
contexts_above before (Some m) = (construct_at before m).contexts

abbrev pub placed_of : List Placed → Slot → Placed
placed_of before s = record {
  head = head_of s.part;
  body = kind_view s.part.kind;
  parent = s.parent;
  path = path_below before s.parent s.part.id;
  level = s.level;
  stack = s.stack;
  stage = s.stage;
  contexts = json.members_view s.part.context.entries ∷ contexts_above before s.parent;
}

abbrev pub placed_after : List Placed → List Slot → List Placed
placed_after before [] = before
placed_after before (s ∷ ss) = placed_after (before ++ placed_of before s ∷ []) ss

abbrev pub constructs_in : List Slot → List Placed
constructs_in ss = placed_after [] ss

-- the number n is the root's and has no parent, or its parent has a lower number
abbrev pub fits_parent : ℕ → Option ℕ → Bool
fits_parent n None = n == 0
fits_parent n (Some m) = nat_lt m n

abbrev pub fit_parents : ℕ → List Slot → Bool
fit_parents n [] = true
fit_parents n (s ∷ ss) = fits_parent n s.parent && fit_parents (n + 1) ss

-- each path with its construct's number, from n on
abbrev pub numbered_paths : ℕ → List Placed → List (List ℕ × ℕ)
numbered_paths n [] = []
numbered_paths n (c ∷ cs) = (c.path, n) ∷ numbered_paths (n + 1) cs

-- the slot of the construct of the number n, in the scope of the number m
abbrev pub slot_in : ℕ → ℕ → Slot → Part → Slot
slot_in n m scope p = record {
  part = p;
  parent = Some m;
  level = scope.level + 1;
  stack = if is_stack (kind_view p.kind) then Some n else scope.stack;
  stage = if is_stage (kind_view p.kind) then n else scope.stage;
}

abbrev pub root_slot : Part → Slot
root_slot p = record { part = p; parent = None; level = 0; stack = if is_stack (kind_view p.kind) then Some 0 else None; stage = 0 }

-- its stack is a stack that stands no later, and its stage no later either
abbrev pub is_scoped : List Placed → ℕ → Placed → Bool
is_scoped cs n c = option_map_or (λ k. nat_le k n && is_stack (construct_at cs k).body) c.stack true && nat_le c.stage n

abbrev pub AreScoped : List Placed → Type 0
AreScoped cs = (n : ℕ) → n < length cs → is_scoped cs n (construct_at cs n) ≡ true
