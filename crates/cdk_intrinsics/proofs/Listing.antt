-- What the loops over arrays and objects have found, put before the answer for the rest.
use Rattle.std.proofs.Common.{◌≡◌, ℕ, List, Option, Some, None, [], ◌∷◌, ◌++◌, map, Ordering, Less, Equal, Greater, string_bytes, nat_cmp, refl, sym, ap, ◌∙◌}
use Rattle.std.specs.Prelude.{⊤}
use Rattle.std.specs.Cmp.Lexicographic.{slice_cmp}
use Rattle.std.specs.List.{AllByRecursion}
use Rattle.std.specs.List.Sorted.{IsStrictlySortedBy}
use Rattle.std.specs.Map.{keys_of}
use Rattle.std.specs.Ordering.{ordering_reverse}
use Rattle.std.specs.String.{string_cmp}
use Rattle.std.proofs.lemmas.Cmp.{nat_list_cmp_total}
use Rattle.serde_json.specs.Data.{Data, Items, no_items, item, Members, no_members, member, put}
use Rattle.serde_json.specs.View.{view, members_view}
use Rattle.serde_json.specs.declared.value.Value.{Value}
use Rattle.serde_json.proofs.Views.{Entry}
use Rattle.cdk_eval.specs.Outcomes.{Outcome, Listed, Lists, NotListed, first_item, array_outcome, Fielded, Has, NotFielded, first_member, object_outcome}
use Rattle.cdk_eval.specs.declared.fault.EvalFault.{EvalFault}
use Rattle.cdk_eval.specs.Outcomes as outcomes
use Rattle.cdk_intrinsics.specs.Found.{fault_in, put_outcome}
use Rattle.cdk_texts.specs.Steps.{values_before}
use Rattle.cdk_texts.proofs.Cutting.{values_before-more, values_before-none}

-- ---- arrays

abbrev pub listed_before : List Value → Listed → Listed
listed_before vs (Lists ds) = Lists (values_before vs ds)
listed_before vs (NotListed f) = NotListed f

pub listed_none : (l : Listed) → l ≡ listed_before [] l
listed_none (Lists ds) = refl
listed_none (NotListed f) = refl

pub listed_value : (vs : List Value) (v : Value) (l : Listed) → listed_before vs (first_item (outcomes.Value (view v)) l) ≡ listed_before (vs ++ v ∷ []) l
listed_value vs v (Lists ds) = ap Lists (sym (values_before-more vs v ds))
listed_value vs v (NotListed f) = refl

-- ---- objects

abbrev pub members_before : Members → Members → Members
members_before no_members rest = rest
members_before (member k d ms) rest = member k d (members_before ms rest)

abbrev pub fielded_before : Members → Fielded → Fielded
fielded_before ms (Has rest) = Has (members_before ms rest)
fielded_before ms (NotFielded f) = NotFielded f

pub fielded_none : (l : Fielded) → l ≡ fielded_before no_members l
fielded_none (Has ms) = refl
fielded_none (NotFielded f) = refl

pub before_nothing : (ms : Members) → members_before ms no_members ≡ ms
before_nothing no_members = refl
before_nothing (member k d ms) = ap (member k d) (before_nothing ms)

-- the key is above those of the members
abbrev pub IsAbove : List ℕ → Members → Type 0
IsAbove k no_members = ⊤
IsAbove k (member l d ms) = (slice_cmp nat_cmp k l ≡ Greater) × IsAbove k ms

abbrev pub AreAbove : List Entry → Members → Type 0
AreAbove [] ms = ⊤
AreAbove (e ∷ es) ms = IsAbove (string_bytes e.0) ms × AreAbove es ms

pub above_none : (es : List Entry) → AreAbove es no_members
above_none [] = tt
above_none (e ∷ es) = (tt, above_none es)

put_at_end : (k : List ℕ) (d : Data) (ms rest : Members) → IsAbove k ms → members_before (put k d ms) rest ≡ members_before ms (member k d rest)
put_at_end k d no_members rest h = refl
put_at_end k d (member l e ms) rest h = rw (h.0) (ap (member l e) (put_at_end k d ms rest h.1))

pub fielded_value : (k : List ℕ) (d : Data) (ms : Members) (l : Fielded) → IsAbove k ms → fielded_before ms (first_member k (outcomes.Value d) l) ≡ fielded_before (put k d ms) l
fielded_value k d ms (Has rest) h = ap Has (sym (put_at_end k d ms rest h))
fielded_value k d ms (NotFielded f) h = refl

above_put : (j k : List ℕ) (d : Data) (ms : Members) → slice_cmp nat_cmp j k ≡ Greater → IsAbove k ms → IsAbove j ms → IsAbove j (put k d ms)
above_put j k d no_members g h i = (g, tt)
above_put j k d (member l e ms) g h i = rw (h.0) (i.0, above_put j k d ms g h.1 i.1)

pub all_above_put : (e : Entry) (es : List Entry) (d : Data) (ms : Members) → IsStrictlySortedBy string_cmp (keys_of (e ∷ es)) → IsAbove (string_bytes e.0) ms → AreAbove es ms → AreAbove es (put (string_bytes e.0) d ms)
unfolding IsStrictlySortedBy
all_above_put e es d ms sorted h i = each es sorted.0 i
  where
    each : (xs : List Entry) → AllByRecursion (λ y. string_cmp e.0 y ≡ Less) (keys_of xs) → AreAbove xs ms → AreAbove xs (put (string_bytes e.0) d ms)
    each [] below above = tt
    each (x ∷ xs) below above =
        (above_put (string_bytes x.0) (string_bytes e.0) d ms (nat_list_cmp_total.antisymm (string_bytes x.0) (string_bytes e.0) ∙ ap ordering_reverse below.0) h above.0, each xs below.1 above.1)

pub sorted_rest : (e : Entry) (es : List Entry) → IsStrictlySortedBy string_cmp (keys_of (e ∷ es)) → IsStrictlySortedBy string_cmp (keys_of es)
unfolding IsStrictlySortedBy
sorted_rest e es h = h.1

-- ---- the next member's outcome

pub fielded_next : (k : List ℕ) (o : Outcome) (ms : Members) (l : Fielded) → None ≡ fault_in o → IsAbove k ms → fielded_before ms (first_member k o l) ≡ fielded_before (put_outcome k o ms) l
fielded_next k (outcomes.Value d) ms l e h = fielded_value k d ms l h
fielded_next k outcomes.Gone ms l e h = refl
fielded_next k (outcomes.Fault f) ms l e h = absurd (cc)

pub all_above_next : (e : Entry) (es : List Entry) (o : Outcome) (ms : Members) → IsStrictlySortedBy string_cmp (keys_of (e ∷ es)) → IsAbove (string_bytes e.0) ms → AreAbove es ms → AreAbove es (put_outcome (string_bytes e.0) o ms)
all_above_next e es (outcomes.Value d) ms sorted h i = all_above_put e es d ms sorted h i
all_above_next e es outcomes.Gone ms sorted h i = i
all_above_next e es (outcomes.Fault f) ms sorted h i = i

pub fielded_fault : (k : List ℕ) (o : Outcome) (f : EvalFault) (ms : Members) (l : Fielded) → Some f ≡ fault_in o → object_outcome (fielded_before ms (first_member k o l)) ≡ outcomes.Fault f
fielded_fault k (outcomes.Value d) f ms l e = absurd (cc)
fielded_fault k outcomes.Gone f ms l e = absurd (cc)
fielded_fault k (outcomes.Fault g) f ms l e = let same : g ≡ f = cc in ap outcomes.Fault same
