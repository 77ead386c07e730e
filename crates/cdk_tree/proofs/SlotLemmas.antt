-- The constructs that slots hold, one by one.
use Rattle.std.proofs.Common.{◌≡◌, ℕ, zero, suc, ◌+◌, ◌<◌, List, [], ◌∷◌, ◌++◌, length, get_or, true, Option, Some, None, refl, sym, ap, ◌∙◌, arith}
use Rattle.std.proofs.lemmas.List.{length-append, get_or_append_left}
use Rattle.std.proofs.Math.Seq.{get_or-append_seam}
use Rattle.std.proofs.Common.{add-zero, zero-add}
use Rattle.std.proofs.lemmas.Bool.{ltb-true}
use Rattle.serde_json.specs.View as json
use Rattle.cdk_language.specs.Construct.{kind_view}
use Rattle.cdk_tree.proofs.Tests.{and_left, and_right, and_both}
use Rattle.cdk_tree.specs.Placed.{Placed, construct_at, nowhere, path_in}
use Rattle.cdk_tree.specs.Slots.{head_of, placed_of, placed_after, constructs_in, fits_parent, fit_parents}
use Rattle.cdk_tree.specs.declared.slot.Slot.{Slot}

pub length-placed_after : (before : List Placed) (ss : List Slot) → length (placed_after before ss) ≡ length before + length ss
length-placed_after before [] = omega arith
length-placed_after before (s ∷ ss) = omega (arith, length-placed_after (before ++ placed_of before s ∷ []) ss, length-append before (placed_of before s ∷ []))

pub length-constructs_in : (ss : List Slot) → length (constructs_in ss) ≡ length ss
length-constructs_in ss = omega (arith, length-placed_after [] ss)

-- one more slot
pub placed_after-push : (before : List Placed) (ss : List Slot) (s : Slot) → placed_after before (ss ++ s ∷ []) ≡ placed_after before ss ++ placed_of (placed_after before ss) s ∷ []
placed_after-push before [] s = refl
placed_after-push before (x ∷ ss) s = placed_after-push (before ++ placed_of before x ∷ []) ss s

pub constructs_in-push : (ss : List Slot) (s : Slot) → constructs_in (ss ++ s ∷ []) ≡ constructs_in ss ++ placed_of (constructs_in ss) s ∷ []
constructs_in-push ss s = placed_after-push [] ss s

-- what was placed stays
pub placed_after-before : (before : List Placed) (ss : List Slot) (n : ℕ) → n < length before → construct_at (placed_after before ss) n ≡ construct_at before n
placed_after-before before [] n h = refl
placed_after-before before (s ∷ ss) n h =
    placed_after-before (before ++ placed_of before s ∷ []) ss n (omega (arith, length-append before (placed_of before s ∷ []))) ∙ get_or_append_left before (placed_of before s ∷ []) nowhere n h

-- a construct is what its slot says, over what was placed before
pub record IsSlotAt (before : List Placed) (ss : List Slot) (n : ℕ) (d : Slot) : Type 0 where
  pub earlier : List Placed
  pub count : length earlier ≡ length before + n
  pub is : construct_at (placed_after before ss) (length before + n) ≡ placed_of earlier (get_or ss n d)
  pub stays : (m : ℕ) → m < length earlier → construct_at earlier m ≡ construct_at (placed_after before ss) m

first_slot : (before : List Placed) (s : Slot) (ss : List Slot) (d : Slot) → IsSlotAt before (s ∷ ss) 0 d
first_slot before s ss d =
    let more = before ++ placed_of before s ∷ [] in
    let bound : length before < length more = omega (arith, length-append before (placed_of before s ∷ [])) in
    let zero_added : length before + 0 ≡ length before = omega arith in
    record {
      earlier = before;
      count = omega arith;
      is = ap (construct_at (placed_after more ss)) zero_added ∙ placed_after-before more ss (length before) bound ∙ get_or-append_seam before (placed_of before s) [] nowhere;
      stays = λ m h. sym (placed_after-before before (s ∷ ss) m h);
    }

pub slot_at : (before : List Placed) (ss : List Slot) (n : ℕ) (d : Slot) → n < length ss → IsSlotAt before ss n d
slot_at before [] n d h = absurd (omega arith)
slot_at before (s ∷ ss) zero d h = first_slot before s ss d
slot_at before (s ∷ ss) (suc n) d h =
    let more = before ++ placed_of before s ∷ [] in
    let grown : length more ≡ length before + 1 = length-append before (placed_of before s ∷ []) in
    let there = slot_at more ss n d (omega arith) in
    let same : length before + suc n ≡ length more + n = omega arith in
    record {
      earlier = there.earlier;
      count = omega (arith, there.count);
      is = ap (construct_at (placed_after more ss)) same ∙ there.is;
      stays = there.stays;
    }

-- a parent that was placed stands where it stood
placed_of-same : (earlier cs : List Placed) (s : Slot) (p : Option ℕ) (n : ℕ) → s.parent ≡ p → fits_parent n p ≡ true → ((m : ℕ) → m < n → construct_at earlier m ≡ construct_at cs m) → placed_of earlier s ≡ placed_of cs s
placed_of-same earlier cs s None n is fits stays = rw is refl
placed_of-same earlier cs s (Some m) n is fits stays = rw is (let same = stays m (ltb-true m n fits) in ap (λ c. record {
  head = head_of s.part;
  body = kind_view s.part.kind;
  parent = Some m;
  path = path_in c.path s.part.id;
  level = s.level;
  stack = s.stack;
  stage = s.stage;
  contexts = json.members_view s.part.context.entries ∷ c.contexts;
}) same)

pub fits_at : (n : ℕ) (ss : List Slot) (k : ℕ) (d : Slot) → fit_parents n ss ≡ true → k < length ss → fits_parent (n + k) (get_or ss k d).parent ≡ true
fits_at n [] k d fits h = absurd (omega arith)
fits_at n (s ∷ ss) zero d fits h = ap (λ j. fits_parent j s.parent) (add-zero n) ∙ and_left (fits_parent n s.parent) (fit_parents (n + 1) ss) fits
fits_at n (s ∷ ss) (suc k) d fits h =
    let there = fits_at (n + 1) ss k d (and_right (fits_parent n s.parent) (fit_parents (n + 1) ss) fits) (omega arith) in
    let same : n + suc k ≡ n + 1 + k = omega arith in
    ap (λ j. fits_parent j (get_or ss k d).parent) same ∙ there

-- each slot, over all constructs
pub placed_at : (ss : List Slot) (n : ℕ) (d : Slot) → fit_parents 0 ss ≡ true → n < length ss → placed_of (constructs_in ss) (get_or ss n d) ≡ construct_at (constructs_in ss) n
placed_at ss n d fits h =
    let there = slot_at [] ss n d h in
    let s = get_or ss n d in
    let below : fits_parent n s.parent ≡ true = ap (λ j. fits_parent j s.parent) (sym (zero-add n)) ∙ fits_at 0 ss n d fits h in
    let stays : (m : ℕ) → m < n → construct_at there.earlier m ≡ construct_at (constructs_in ss) m = λ m less. there.stays m (omega (arith, there.count)) in
    let is : construct_at (constructs_in ss) n ≡ placed_of there.earlier s = ap (construct_at (constructs_in ss)) (sym (zero-add n)) ∙ there.is in
    sym (is ∙ placed_of-same there.earlier (constructs_in ss) s s.parent n refl below stays)

pub fit_parents-push : (n : ℕ) (ss : List Slot) (s : Slot) → fit_parents n ss ≡ true → fits_parent (n + length ss) s.parent ≡ true → fit_parents n (ss ++ s ∷ []) ≡ true
fit_parents-push n [] s fits here = and_both (fits_parent n s.parent) true (ap (λ j. fits_parent j s.parent) (sym (add-zero n)) ∙ here) refl
fit_parents-push n (x ∷ ss) s fits here =
    let same : n + 1 + length ss ≡ n + length (x ∷ ss) = omega arith in
    and_both (fits_parent n x.parent) (fit_parents (n + 1) (ss ++ s ∷ [])) (and_left (fits_parent n x.parent) (fit_parents (n + 1) ss) fits)
    (fit_parents-push (n + 1) ss s (and_right (fits_parent n x.parent) (fit_parents (n + 1) ss) fits) (ap (λ j. fits_parent j s.parent) same ∙ here))
