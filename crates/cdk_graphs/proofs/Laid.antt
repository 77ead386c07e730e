-- The groups of a walk as they stand in its lists.
use Rattle.std.proofs.Common.{◌≡◌, ℕ, ◌<◌, ◌≤◌, List, length, take, drop, [], ◌∷◌, ◌++◌, Bool, true, false, cond, refl, sym, subst, ap, ◌∙◌, inl, inr, arith}
use Rattle.std.specs.Prelude.{◌⊎◌, Contains, nat_lt}
use Rattle.std.proofs.lemmas.Bool.{ltb-true, ltb-false}
use Rattle.std.proofs.lemmas.List.{take-append-drop, drop-append-le, length-take-le, take-take, drop_at, take_at}
use Rattle.std.proofs.lemmas.List.Elements.{Contains-append_left, Contains-append_right, Contains-append_cases}
use Rattle.cdk_graphs.specs.Graph.{Graph}
use Rattle.cdk_graphs.specs.Walks.{all_members, AreStacked, IsJoining, group_at, groups_at, AreLaid, joined_at}
use Rattle.cdk_graphs.specs.declared.marks.Mark.{Mark}
use Rattle.cdk_graphs.specs.declared.walk.Group.{Group}
use Rattle.cdk_graphs.proofs.Groups.{grouped}
use Rattle.cdk_graphs.proofs.Joining.{both, joins_one, not_past, joined_all}

-- a number that is entered
pub groups_entered : (groups : List Group) (members waiting : List ℕ) (y : ℕ) (row : List ℕ)
    → groups_at (record { first = length members; waiting = length waiting; is_loop = false } ∷ groups) (members ++ y ∷ []) (waiting ++ row) ≡ grouped (length members) (y ∷ []) row false ∷ groups_at groups members waiting
groups_entered groups members waiting y row =
    let own : drop (length members) (members ++ y ∷ []) ≡ y ∷ [] = drop_at members (y ∷ []) (length members) refl in
    let before : take (length members) (members ++ y ∷ []) ≡ members = take_at members (y ∷ []) (length members) refl in
    let led : drop (length waiting) (waiting ++ row) ≡ row = drop_at waiting row (length waiting) refl in
    let waited : take (length waiting) (waiting ++ row) ≡ waiting = take_at waiting row (length waiting) refl in
    cc

-- ---- groups that are joined

drop_parts : (i j : ℕ) (xs : List ℕ) → i ≤ j → j ≤ length xs → drop i xs ≡ drop i (take j xs) ++ drop j xs
drop_parts i j xs low high = sym (ap (drop i) (take-append-drop j xs)) ∙ drop-append-le i (take j xs) (drop j xs) (omega (arith, low, length-take-le j xs high))

-- the lower one of two is the two
group_both : (lower upper : Group) (members waiting : List ℕ) → lower.first ≤ upper.first → upper.first ≤ length members → lower.waiting ≤ upper.waiting → upper.waiting ≤ length waiting
    → both (group_at lower (take upper.first members) (take upper.waiting waiting)) (group_at upper members waiting) ≡ group_at lower members waiting
group_both lower upper members waiting low high waits_low waits_high =
    let own = drop_parts lower.first upper.first members low high in
    let waited = drop_parts lower.waiting upper.waiting waiting waits_low waits_high in
    cc

groups_both : (lower upper : Group) (groups : List Group) (members waiting : List ℕ) → lower.first ≤ upper.first → lower.waiting ≤ upper.waiting
    → groups_at groups (take lower.first (take upper.first members)) (take lower.waiting (take upper.waiting waiting)) ≡ groups_at groups (take lower.first members) (take lower.waiting waiting)
groups_both lower upper groups members waiting low waits_low =
    let own = take-take lower.first upper.first members low in
    let waited = take-take lower.waiting upper.waiting waiting waits_low in
    cc

-- what is left after groups are joined
pub record AreJoined (g : Graph) (marks : List Mark) (groups : List Group) (members waiting : List ℕ) (joined : List Group) : Type 0 where
  pub laid : AreLaid joined (length members) (length waiting)
  pub stacked : AreStacked g marks (groups_at joined members waiting)
  pub stays : (n : ℕ) → Contains (all_members (groups_at groups members waiting)) n → Contains (all_members (groups_at joined members waiting)) n
  pub fewer : length joined ≤ length groups

module _ (g : Graph) (marks : List Mark) (y position : ℕ) (members waiting : List ℕ) where
  abbrev IsLast : Group → List Group → Type 0
  IsLast last groups = IsJoining g marks y position (group_at last members waiting) (groups_at groups (take last.first members) (take last.waiting waiting))

  found : (last : Group) (groups joined : List Group) → AreLaid (last ∷ groups) (length members) (length waiting) → IsLast last groups → last.first ≤ position → joined ≡ record last { is_loop = true } ∷ groups
      → AreJoined g marks (last ∷ groups) members waiting joined
  found last groups joined laid was there is =
      let stacked = joined_all g marks y position last.first (drop last.first members) (drop last.waiting waiting) last.is_loop (groups_at groups (take last.first members) (take last.waiting waiting)) was there in
      let here : AreJoined g marks (last ∷ groups) members waiting (record last { is_loop = true } ∷ groups) = record { laid = laid; stacked = stacked; stays = λ n i. i; fewer = omega arith } in
      subst (AreJoined g marks (last ∷ groups) members waiting) (sym is) here

  -- the last two are one
  next : (last lower : Group) (groups : List Group) → AreLaid (last ∷ lower ∷ groups) (length members) (length waiting) → IsLast last (lower ∷ groups) → position < last.first → IsLast lower groups
  next last lower groups laid was later =
      let one = joins_one g marks y position (group_at last members waiting) (group_at lower (take last.first members) (take last.waiting waiting))
      (groups_at groups (take lower.first (take last.first members)) (take lower.waiting (take last.waiting waiting))) was later in
      let low = laid.2.0 in
      let waits_low = laid.2.1 in
      subst (λ group. IsJoining g marks y position group (groups_at groups (take lower.first members) (take lower.waiting waiting))) (group_both lower last members waiting low laid.0 waits_low laid.1)
      (subst (IsJoining g marks y position (both (group_at lower (take last.first members) (take last.waiting waiting)) (group_at last members waiting))) (groups_both lower last groups members waiting low waits_low) one)

  moved : (last lower : Group) (groups : List Group) → AreLaid (last ∷ lower ∷ groups) (length members) (length waiting)
      → (n : ℕ) → Contains (all_members (groups_at (last ∷ lower ∷ groups) members waiting)) n → Contains (all_members (groups_at (lower ∷ groups) members waiting)) n
  moved last lower groups laid n i = at (Contains-append_cases upper (part ++ rest) n i)
    where
      upper : List ℕ
      upper = drop last.first members

      part : List ℕ
      part = drop lower.first (take last.first members)

      rest : List ℕ
      rest = all_members (groups_at groups (take lower.first (take last.first members)) (take lower.waiting (take last.waiting waiting)))

      rest_now : List ℕ
      rest_now = all_members (groups_at groups (take lower.first members) (take lower.waiting waiting))

      front : Contains (part ++ upper) n → Contains (drop lower.first members ++ rest_now) n
      front j = Contains-append_left (drop lower.first members) rest_now n (subst (λ (xs : List ℕ). Contains xs n) (sym (drop_parts lower.first last.first members laid.2.0 laid.0)) j)

      within : Contains part n ⊎ Contains rest n → Contains (drop lower.first members ++ rest_now) n
      within (inl j) = front (Contains-append_left part upper n j)
      within (inr j) = Contains-append_right (drop lower.first members) rest_now n (subst (λ groups. Contains (all_members groups) n) (groups_both lower last groups members waiting laid.2.0 laid.2.1) j)

      at : Contains upper n ⊎ Contains (part ++ rest) n → Contains (drop lower.first members ++ rest_now) n
      at (inl j) = front (Contains-append_right part upper n j)
      at (inr j) = within (Contains-append_cases part rest n j)

  pub joins_down : (last : Group) (groups joined : List Group) → AreLaid (last ∷ groups) (length members) (length waiting) → IsLast last groups → joined ≡ joined_at position (last ∷ groups)
      → AreJoined g marks (last ∷ groups) members waiting joined
  joins_down last [] joined laid was is = at (nat_lt position last.first) refl is
    where
      at : (b : Bool) → nat_lt position last.first ≡ b → joined ≡ cond b [] (record last { is_loop = true } ∷ []) → AreJoined g marks (last ∷ []) members waiting joined
      at true e now = absurd (not_past g marks y position (group_at last members waiting) was (ltb-true position last.first e))
      at false e now = found last [] joined laid was (ltb-false position last.first e) now
  joins_down last (lower ∷ groups) joined laid was is = at (nat_lt position last.first) refl is (λ below there now. joins_down lower groups joined below there now)
    where
      at : (b : Bool) → nat_lt position last.first ≡ b → joined ≡ cond b (joined_at position (lower ∷ groups)) (record last { is_loop = true } ∷ lower ∷ groups)
          → (AreLaid (lower ∷ groups) (length members) (length waiting) → IsLast lower groups → joined ≡ joined_at position (lower ∷ groups) → AreJoined g marks (lower ∷ groups) members waiting joined)
          → AreJoined g marks (last ∷ lower ∷ groups) members waiting joined
      at false e now later = found last (lower ∷ groups) joined laid was (ltb-false position last.first e) now
      at true e now later =
          let below : AreLaid (lower ∷ groups) (length members) (length waiting) = (omega (arith, laid.0, laid.2.0), omega (arith, laid.1, laid.2.1), laid.2.2) in
          let rest = later below (next last lower groups laid was (ltb-true position last.first e)) now in
          record { laid = rest.laid; stacked = rest.stacked; stays = λ n i. rest.stays n (moved last lower groups laid n i); fewer = omega (arith, rest.fewer) }
