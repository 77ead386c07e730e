-- The waiting lazies that aren't kept.
use Rattle.std.proofs.Common.{◌≡◌, ◌⊎◌, inl, inr, ℕ, List, [], ◌∷◌, ◌++◌, Bool, true, false, true≢false, Option, Some, None, option_map, refl, sym, ap, ◌∙◌, subst, append-nil, if◌then◌else◌}
use Rattle.std.specs.Prelude.{Contains, is_none, is_some}
use Rattle.std.proofs.lemmas.List.Elements.{filter-append}
use Rattle.serde_json.specs.Data.{Data}
use Rattle.cdk_expansion.proofs.MentionContains.{contains_first, contains_later, contains_no, first_or_rest}
use Rattle.cdk_keeping.specs.Steps.{unkept}
use Rattle.cdk_leaves.specs.Lazies.{IsKept, Results}

pub none_of : (o : Option Data) → is_none o ≡ true → o ≡ None
none_of None e = refl
none_of (Some d) e = absurd (true≢false (sym e))

here : (b : Bool) (n : ℕ) (ns : List ℕ) → b ≡ true → Contains (if b then n ∷ ns else ns) n
here true n ns e = contains_first n ns
here false n ns e = absurd (true≢false (sym e))

there : (b : Bool) (n m : ℕ) (ns : List ℕ) → Contains ns m → Contains (if b then n ∷ ns else ns) m
there true n m ns c = contains_later n ns m c
there false n m ns c = c

here_or_there : (b : Bool) (n m : ℕ) (ns : List ℕ) → Contains (if b then n ∷ ns else ns) m → ((m ≡ n) × (b ≡ true)) ⊎ Contains ns m
here_or_there true n m ns c = elim (first_or_rest n ns m c) [
  | inl e ↦ inl (e, refl)
  | inr r ↦ inr r
]
here_or_there false n m ns c = inr c

pub in_unkept : (kept : Results) (ns : List ℕ) (n : ℕ) → Contains ns n → kept n ≡ None → Contains (unkept kept ns) n
in_unkept kept [] n c none = absurd (contains_no n c)
in_unkept kept (x ∷ ns) n c none = elim (first_or_rest x ns n c) [
  | inl e ↦
      let P : ℕ → Type 0 = λ m. Contains (unkept kept (x ∷ ns)) m in
      subst P (sym e) (here (is_none (kept x)) x (unkept kept ns) (ap is_none (ap kept (sym e) ∙ none)))
  | inr r ↦ there (is_none (kept x)) x n (unkept kept ns) (in_unkept kept ns n r none)
]

pub out_unkept : (kept : Results) (ns : List ℕ) (n : ℕ) → Contains (unkept kept ns) n → Contains ns n × (kept n ≡ None)
out_unkept kept [] n c = absurd (contains_no n c)
out_unkept kept (x ∷ ns) n c = elim (here_or_there (is_none (kept x)) x n (unkept kept ns) c) [
  | inl e ↦
      let P : ℕ → Type 0 = λ m. Contains (x ∷ ns) m in
      (subst P (sym e.0) (contains_first x ns), ap kept e.0 ∙ none_of (kept x) e.1)
  | inr r ↦ let more = out_unkept kept ns n r in (contains_later x ns n more.0, more.1)
]

-- whatever is kept more
pub still_unkept : (kept after : Results) (ns : List ℕ) (n : ℕ) → Contains (unkept kept ns) n → after n ≡ None → Contains (unkept after ns) n
still_unkept kept after ns n c none = in_unkept after ns n (out_unkept kept ns n c).0 none

-- ---- one more at the end

pushed : (b : Bool) (n : ℕ) → b ≡ true → (if b then n ∷ [] else []) ≡ n ∷ []
pushed true n e = refl
pushed false n e = absurd (true≢false (sym e))

passed : (b : Bool) (n : ℕ) → b ≡ false → (if b then n ∷ [] else []) ≡ []
passed true n e = absurd (true≢false e)
passed false n e = refl

pub unkept_pushed : (kept : Results) (ns : List ℕ) (n : ℕ) → is_none (kept n) ≡ true → unkept kept (ns ++ n ∷ []) ≡ unkept kept ns ++ n ∷ []
unkept_pushed kept ns n e = filter-append (λ m. is_none (kept m)) ns (n ∷ []) ∙ ap (λ ms. unkept kept ns ++ ms) (pushed (is_none (kept n)) n e)

pub kept_passed : (kept : Results) (ns : List ℕ) (n : ℕ) → is_none (kept n) ≡ false → unkept kept (ns ++ n ∷ []) ≡ unkept kept ns
kept_passed kept ns n e = filter-append (λ m. is_none (kept m)) ns (n ∷ []) ∙ (ap (λ ms. unkept kept ns ++ ms) (passed (is_none (kept n)) n e) ∙ append-nil (unkept kept ns))

-- ---- what a look-up finds is kept

pub found_kept : {A : Type 0} (f : A → Data) (o : Option A) (kept : Results) (n : ℕ) → option_map f o ≡ kept n → is_some o ≡ true → IsKept kept n
found_kept f None kept n e some = absurd (true≢false (sym some))
found_kept f (Some a) kept n e some = record { result = f a; is = sym e }
