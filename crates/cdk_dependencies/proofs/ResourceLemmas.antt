-- Steps of the pass that counts resources: a walk from a construct upwards, and the constructs one after another.
use Rattle.std.proofs.Common.{◌≡◌, ◌≢◌, ℕ, zero, suc, ◌+◌, ◌<◌, ◌≤◌, min, List, [], ◌∷◌, ◌++◌, length, get_or, set, drop, Bool, true, false, cond, Option, Some, None, refl, sym, ap, ◌∙◌, arith, ⊎_elim, append_assoc, length-set, get_or-set_same, get_or-set_other}
use Rattle.std.specs.Prelude.{◌||◌, nat_eq, IfSome, MatchOption}
use Rattle.std.specs.List.{list_any}
use Rattle.std.specs.Option.{option_map_or}
use Rattle.std.proofs.lemmas.Bool.{cases_eq}
use Rattle.std.proofs.lemmas.Bool.Decides.{nat_tests}
use Rattle.std.proofs.lemmas.List.Folds.{list_any-append}
use Rattle.std.proofs.Math.Seq.{drop-length}
use Rattle.cdk_tree.specs.Placed.{Placed, construct_at}
use Rattle.cdk_dependencies.specs.Counts.{most}
use Rattle.cdk_dependencies.specs.Pairs.{resources_from, resources_in, scopes_of, scopes_up}
use Rattle.cdk_dependencies.specs.Passes.{AreCounts, CountsOneMore}

abbrev pub is_among : List ℕ → ℕ → Bool
is_among ns t = list_any (nat_eq t) ns

-- ---- a walk from a construct upwards

-- The scopes of n that are passed have been counted. Those that are left are the next one and the scopes above it, if there is a next one.
pub record IsCountedTo (cs : List Placed) (n : ℕ) (next : Option ℕ) (old now : List ℕ) : Type 0 where
  pub passed : List ℕ
  pub left : ℕ
  pub scopes : scopes_of cs n ≡ passed ++ option_map_or (scopes_up left cs) next []
  pub within : IfSome next (λ at. at < left)
  pub placed : IfSome next (λ at. at < length cs)
  pub above : IfSome next (λ at. (t : ℕ) → t ≤ at → is_among passed t ≡ false)
  pub counted : CountsOneMore (is_among passed) old now

same : (t : ℕ) → nat_eq t t ≡ true
same t = grind (arith, nat_tests)

other : (t at : ℕ) → t ≢ at → nat_eq t at ≡ false
other t at h = grind (arith, nat_tests)

among_last : (passed : List ℕ) (at t : ℕ) → t ≢ at → is_among (passed ++ at ∷ []) t ≡ is_among passed t
among_last passed at t h =
    list_any-append (nat_eq t) passed (at ∷ []) ∙ ap (λ b. is_among passed t || (b || false)) (other t at h) ∙ or_false (is_among passed t)
  where
    or_false : (a : Bool) → (a || (false || false)) ≡ a
    or_false true = refl
    or_false false = refl

among_itself : (passed : List ℕ) (at : ℕ) → is_among (passed ++ at ∷ []) at ≡ true
among_itself passed at =
    list_any-append (nat_eq at) passed (at ∷ []) ∙ ap (λ b. is_among passed at || (b || false)) (same at) ∙ or_true (is_among passed at)
  where
    or_true : (a : Bool) → (a || (true || false)) ≡ true
    or_true true = refl
    or_true false = refl

-- nothing is counted yet
none_counted : (old : List ℕ) → ((t : ℕ) → get_or old t 0 ≤ most) → CountsOneMore (is_among []) old old
none_counted old fits = record { same_length = refl; is = λ t h. let fit : get_or old t 0 ≤ most = fits t in omega arith }

-- the count of the one that is counted, and of another
count_here : (a old now : ℕ) (before after : Bool) → before ≡ false → after ≡ true → now ≡ min (old + cond before 1 0) most → a ≡ min (now + 1) most
    → a ≡ min (old + cond after 1 0) most
count_here a old now true after b c h e = cc
count_here a old now false false b c h e = cc
count_here a old now false true b c h e = omega arith

count_elsewhere : (a old now : ℕ) (before after : Bool) → after ≡ before → now ≡ min (old + cond before 1 0) most → a ≡ now → a ≡ min (old + cond after 1 0) most
count_elsewhere a old now before after b h e = e ∙ h ∙ ap (λ t. min (old + cond t 1 0) most) (sym b)

-- one more scope, which wasn't passed
counts_last : (passed : List ℕ) (at : ℕ) (old now : List ℕ) → at < length now → is_among passed at ≡ false → CountsOneMore (is_among passed) old now
    → CountsOneMore (is_among (passed ++ at ∷ [])) old (set now at (min (get_or now at 0 + 1) most))
counts_last passed at old now within fresh counted = record {
  same_length = length-set now at one_more ∙ counted.same_length;
  is = λ t h. ⊎_elim (here t h) (elsewhere t h) (cases_eq t at);
}
  where
    one_more : ℕ
    one_more = min (get_or now at 0 + 1) most

    Goal : ℕ → Type 0
    Goal t = get_or (set now at one_more) t 0 ≡ min (get_or old t 0 + cond (is_among (passed ++ at ∷ []) t) 1 0) most

    here : (t : ℕ) → t < length old → t ≡ at → Goal t
    here t h e =
        let itself : is_among (passed ++ at ∷ []) t ≡ true = ap (is_among (passed ++ at ∷ [])) e ∙ among_itself passed at in
        let new : get_or (set now at one_more) t 0 ≡ min (get_or now t 0 + 1) most =
        ap (λ k. get_or (set now at one_more) k 0) e ∙ get_or-set_same now at one_more 0 within ∙ ap (λ k. min (get_or now k 0 + 1) most) (sym e) in
        count_here (get_or (set now at one_more) t 0) (get_or old t 0) (get_or now t 0) (is_among passed t) (is_among (passed ++ at ∷ []) t)
        (ap (is_among passed) e ∙ fresh) itself (counted.is t h) new

    elsewhere : (t : ℕ) → t < length old → t ≢ at → Goal t
    elsewhere t h e =
        count_elsewhere (get_or (set now at one_more) t 0) (get_or old t 0) (get_or now t 0) (is_among passed t) (is_among (passed ++ at ∷ []) t)
        (among_last passed at t e) (counted.is t h) (get_or-set_other now at t one_more 0 e)

pub counted_none : (cs : List Placed) (n : ℕ) (old : List ℕ) → n < length cs → ((t : ℕ) → get_or old t 0 ≤ most) → IsCountedTo cs n (Some n) old old
counted_none cs n old placed fits = record {
  passed = [];
  left = suc n;
  scopes = refl;
  within = omega arith;
  placed = placed;
  above = λ t h. refl;
  counted = none_counted old fits;
}

-- the first of those that are left, and those above it
left_above : (cs : List Placed) (at left : ℕ) (next : Option ℕ) → at < left → next ≡ (construct_at cs at).parent
    → (k : ℕ) × ((left ≡ suc k) × (scopes_up left cs at ≡ at ∷ option_map_or (scopes_up k cs) next []))
left_above cs at zero next h e = absurd (omega arith)
left_above cs at (suc k) next h e = (k, (refl, ap (λ p. at ∷ option_map_or (scopes_up k cs) p []) (sym e)))

below_bound : (at k left : ℕ) (next : Option ℕ) → at < left → left ≡ suc k → MatchOption next (at ≡ 0) (λ m. m < at) → IfSome next (λ m. m < k)
below_bound at k left None h e below = tt
below_bound at k left (Some m) h e below = omega arith

below_end : (at end : ℕ) (next : Option ℕ) → at < end → MatchOption next (at ≡ 0) (λ m. m < at) → IfSome next (λ m. m < end)
below_end at end None h below = tt
below_end at end (Some m) h below = omega arith

fresh_above : (passed : List ℕ) (at : ℕ) (next : Option ℕ) → ((t : ℕ) → t ≤ at → is_among passed t ≡ false) → MatchOption next (at ≡ 0) (λ m. m < at)
    → IfSome next (λ m. (t : ℕ) → t ≤ m → is_among (passed ++ at ∷ []) t ≡ false)
fresh_above passed at None above below = tt
fresh_above passed at (Some m) above below = λ t h. among_last passed at t (λ e. omega arith) ∙ above t (omega arith)

-- one more scope
pub counted_more : (cs : List Placed) (n at : ℕ) (next : Option ℕ) (old now : List ℕ) → at < length now → next ≡ (construct_at cs at).parent
    → MatchOption next (at ≡ 0) (λ m. m < at) → IsCountedTo cs n (Some at) old now → IsCountedTo cs n next old (set now at (min (get_or now at 0 + 1) most))
counted_more cs n at next old now within parent below so_far =
    let rest = left_above cs at so_far.left next so_far.within parent in
    record {
      passed = so_far.passed ++ at ∷ [];
      left = rest.0;
      scopes = so_far.scopes ∙ ap (λ ns. so_far.passed ++ ns) rest.1.1 ∙ sym (append_assoc so_far.passed (at ∷ []) (option_map_or (scopes_up rest.0 cs) next []));
      within = below_bound at rest.0 so_far.left next so_far.within rest.1.0 below;
      placed = below_end at (length cs) next so_far.placed below;
      above = fresh_above so_far.passed at next so_far.above below;
      counted = counts_last so_far.passed at old now within (so_far.above at (omega arith)) so_far.counted;
    }

-- ---- the constructs one after another

-- what is counted, and what those from the number n on still add, is all
pub record AreCountedTo (cs : List Placed) (n : ℕ) (counts : List ℕ) : Type 0 where
  pub one_each : length counts ≡ length cs
  pub fit : (t : ℕ) → t < length cs → get_or counts t 0 ≤ most
  pub rest : (t : ℕ) → t < length cs → min (resources_in cs t) most ≡ min (get_or counts t 0 + resources_from cs t n (drop n cs)) most

pub counted_resources : (cs : List Placed) (counts : List ℕ) → AreCountedTo cs (length cs) counts → AreCounts (resources_in cs) cs counts
counted_resources cs counts so_far = record {
  one_each = so_far.one_each;
  is = λ t h.
      let none : resources_from cs t (length cs) (drop (length cs) cs) ≡ 0 = ap (resources_from cs t (length cs)) (drop-length cs) in
      let fit : get_or counts t 0 ≤ most = so_far.fit t h in
      let all = so_far.rest t h in
      omega arith;
}
