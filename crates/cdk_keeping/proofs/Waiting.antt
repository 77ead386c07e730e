-- What holds while lazies wait, and how each step keeps it.
use Rattle.std.proofs.Common.{◌≡◌, ◌⊎◌, inl, inr, ℕ, List, [], ◌∷◌, ◌++◌, length, Bool, true, false, true≢false, Option, Some, None, refl, sym, ap, ◌∙◌, subst, if◌then◌else◌}
use Rattle.std.specs.Prelude.{Contains, nat_eq}
use Rattle.std.proofs.Math.Path.{fun_ext}
use Rattle.std.proofs.lemmas.Bool.{cases_eq, eq-eqb, ne_eqb}
use Rattle.std.proofs.lemmas.List.Elements.{Contains-append_cases, Contains-append_left, Contains-append_right, Contains-push, Contains-push_cases}
use Rattle.serde_json.specs.Data.{Data}
use Rattle.cdk_expansion.proofs.MentionContains.{contains_first, contains_no, first_or_rest}
use Rattle.cdk_expansion.specs.Mentions.{lazy_value, LazyMentions}
use Rattle.cdk_graphs.specs.Graph.{StandsBefore}
use Rattle.cdk_keeping.proofs.Settled.{lazy_right}
use Rattle.cdk_keeping.proofs.Unkept.{in_unkept, out_unkept, still_unkept}
use Rattle.cdk_keeping.specs.Keeping.{AreRenderings, AreClosed, IsLazyRendering, IsSettled}
use Rattle.cdk_keeping.specs.Steps.{Steps, StepsOver, unkept, with_result}
use Rattle.cdk_leaves.specs.Lazies.{IsKept, Stays, Results}
use Rattle.cdk_leaves.specs.Ready.{IsReady, Scope}
use Rattle.cdk_rendering.proofs.MissingMentions.{missing_is_mentioned, what_is_mentioned_is_kept}
use Rattle.cdk_rendering.specs.Missing.{value_missing}
use Rattle.cdk_rendering.specs.TokenJson.{value_json}
use Rattle.cdk_rendering.specs.Views.{json_in, missing_in}

-- what is kept is right and stays, and all that were to be kept are or wait
pub record Waits (s : Scope) (start : List ℕ) (first kept : Results) (w : List ℕ) : Type 0 where
  pub settled : IsSettled s kept
  pub stays : Stays first kept
  pub ordered : (n : ℕ) → Contains (unkept kept w) n → StandsBefore s.order (length s.order) n
  pub all : (n : ℕ) → Contains start n → kept n ≡ None → Contains (unkept kept w) n

-- ---- one result more

chosen : (b : Bool) (x y : Option Data) → b ≡ true → (if b then x else y) ≡ x
chosen true x y e = refl
chosen false x y e = absurd (true≢false (sym e))

other : (b : Bool) (x y : Option Data) → b ≡ false → (if b then x else y) ≡ y
other true x y e = absurd (true≢false e)
other false x y e = refl

pub at_new : (kept : Results) (n : ℕ) (d : Data) (m : ℕ) → m ≡ n → with_result kept n d m ≡ Some d
at_new kept n d m e = chosen (nat_eq m n) (Some d) (kept m) (eq-eqb m n e)

pub at_old : (kept : Results) (n : ℕ) (d : Data) (m : ℕ) → (m ≡ n → ⊥) → with_result kept n d m ≡ kept m
at_old kept n d m e = other (nat_eq m n) (Some d) (kept m) (ne_eqb m n e)

same_value : (x y : Data) → Some x ≡ Some y → x ≡ y
same_value x y e = cc

none_is_new : (kept : Results) (n m : ℕ) (r : Data) → kept n ≡ None → kept m ≡ Some r → m ≡ n → ⊥
none_is_new kept n m r none is e = let both : Some r ≡ None = sym is ∙ (ap kept e ∙ none) in absurd cc

module _ (s : Scope) (ready : IsReady s.tokens s.bodies s.order) (kept after : Results) (n : ℕ)
    (none : kept n ≡ None) (there : StandsBefore s.order (length s.order) n) (nothing : value_missing (missing_in s kept) (lazy_value s.bodies n) ≡ [])
    (is : (m : ℕ) → after m ≡ with_result kept n (value_json (json_in s kept) (lazy_value s.bodies n)) m) where
  abbrev new : Data
  new = value_json (json_in s kept) (lazy_value s.bodies n)

  after_new : (m : ℕ) → m ≡ n → after m ≡ Some new
  after_new m e = is m ∙ at_new kept n new m e

  after_old : (m : ℕ) → (m ≡ n → ⊥) → after m ≡ kept m
  after_old m e = is m ∙ at_old kept n new m e

  pub one_more_stays : Stays kept after
  one_more_stays m r e = after_old m (none_is_new kept n m r none e) ∙ e

  still_kept : (m : ℕ) → IsKept kept m → IsKept after m
  still_kept m k = record { result = k.result; is = one_more_stays m k.result k.is }

  right_after : AreRenderings s kept → AreRenderings s after
  right_after right m r e = elim (cases_eq m n) [
    | inl eq ↦
        let same : new ≡ r = same_value new r (sym (after_new m eq) ∙ e) in
        let own : IsLazyRendering s n new = lazy_right s kept ready right there.place n there.there there.before nothing in
        let P : ℕ → Type 0 = λ l. IsLazyRendering s l r in
        let Q : Data → Type 0 = λ d. IsLazyRendering s n d in
        subst P (sym eq) (subst Q same own)
    | inr ne ↦ right m r (sym (after_old m ne) ∙ e)
  ]

  was_kept : (m : ℕ) → (m ≡ n → ⊥) → IsKept after m → IsKept kept m
  was_kept m ne k = record { result = k.result; is = sym (after_old m ne) ∙ k.is }

  closed_after : AreClosed s kept → AreClosed s after
  closed_after closed a b k at = elim (cases_eq a n) [
    | inl e ↦
        let P : ℕ → Type 0 = λ l. LazyMentions s.tokens s.bodies l b in
        still_kept b (what_is_mentioned_is_kept kept s.tokens ready.lower (lazy_value s.bodies n) b nothing (subst P e at))
    | inr ne ↦ still_kept b (closed a b (was_kept a ne k) at)
  ]

  pub settled_after : IsSettled s kept → IsSettled s after
  settled_after settled = record { right = right_after settled.right; closed = closed_after settled.closed }

  -- a lazy that isn't kept after wasn't before, and isn't the new one
  pub unkept_after : (m : ℕ) → after m ≡ None → (m ≡ n → ⊥) × (kept m ≡ None)
  unkept_after m e = elim (cases_eq m n) [
    | inl eq ↦ let both : Some new ≡ None = sym (after_new m eq) ∙ e in absurd cc
    | inr ne ↦ (ne, sym (after_old m ne) ∙ e)
  ]

-- ---- one step

module _ (s : Scope) (ready : IsReady s.tokens s.bodies s.order) (start : List ℕ) (first kept : Results) (w : List ℕ) (n : ℕ) (ns : List ℕ) (waits : Waits s start first kept ns)
    (last : unkept kept ns ≡ unkept kept w ++ n ∷ []) where
  last_waits : Contains (unkept kept ns) n
  last_waits = let P : List ℕ → Type 0 = λ xs. Contains xs n in subst P (sym last) (Contains-push (unkept kept w) n)

  pub last_is_new : kept n ≡ None
  last_is_new = (out_unkept kept ns n last_waits).1

  pub last_is_there : StandsBefore s.order (length s.order) n
  last_is_there = waits.ordered n last_waits

  earlier_waits : (m : ℕ) → Contains (unkept kept w) m → Contains (unkept kept ns) m
  earlier_waits m c = let P : List ℕ → Type 0 = λ xs. Contains xs m in subst P (sym last) (Contains-append_left (unkept kept w) (n ∷ []) m c)

  first_or_last : (m : ℕ) → Contains (unkept kept ns) m → Contains (unkept kept w) m ⊎ (m ≡ n)
  first_or_last m c =
      let P : List ℕ → Type 0 = λ xs. Contains xs m in
      elim (Contains-push_cases (unkept kept w) n m (subst P last c)) [
        | inl before ↦ inl before
        | inr e ↦ inr (sym e)
      ]

  -- where the lazy is kept
  waits_kept : (after : Results) → value_missing (missing_in s kept) (lazy_value s.bodies n) ≡ []
      → ((m : ℕ) → after m ≡ with_result kept n (value_json (json_in s kept) (lazy_value s.bodies n)) m) → Waits s start first after w
  waits_kept after nothing is = record {
    settled = settled_after s ready kept after n last_is_new last_is_there nothing is waits.settled;
    stays = λ m r e. one_more_stays s ready kept after n last_is_new last_is_there nothing is m r (waits.stays m r e);
    ordered = λ m c.
        let out = out_unkept after w m c in
        let was = unkept_after s ready kept after n last_is_new last_is_there nothing is m out.1 in
        waits.ordered m (earlier_waits m (in_unkept kept w m out.0 was.1));
    all = λ m c e.
        let was = unkept_after s ready kept after n last_is_new last_is_there nothing is m e in
        elim (first_or_last m (waits.all m c was.1)) [
          | inl before ↦ still_unkept kept after w m before e
          | inr same ↦ absurd (was.0 same)
        ];
  }

  -- where what it mentions waits too
  waits_longer : (x : ℕ) (xs : List ℕ) → value_missing (missing_in s kept) (lazy_value s.bodies n) ≡ x ∷ xs → Waits s start first kept (w ++ n ∷ x ∷ xs)
  waits_longer x xs missing = record {
    settled = waits.settled;
    stays = waits.stays;
    ordered = λ m c.
        let out = out_unkept kept (w ++ n ∷ x ∷ xs) m c in
        elim (Contains-append_cases w (n ∷ x ∷ xs) m out.0) [
          | inl before ↦ waits.ordered m (earlier_waits m (in_unkept kept w m before out.1))
          | inr behind ↦ elim (first_or_rest n (x ∷ xs) m behind) [
            | inl same ↦ let P : ℕ → Type 0 = λ l. StandsBefore s.order (length s.order) l in subst P (sym same) last_is_there
            | inr among ↦
                let P : List ℕ → Type 0 = λ ys. Contains ys m in
                ready.all (lazy_value s.bodies n) m (missing_is_mentioned kept s.tokens (lazy_value s.bodies n) m (subst P (sym missing) among)).0
          ]
        ];
    all = λ m c e. elim (first_or_last m (waits.all m c e)) [
      | inl before ↦ let out = out_unkept kept w m before in in_unkept kept (w ++ n ∷ x ∷ xs) m (Contains-append_left w (n ∷ x ∷ xs) m out.0) e
      | inr same ↦
          let P : ℕ → Type 0 = λ l. Contains (w ++ n ∷ x ∷ xs) l in
          in_unkept kept (w ++ n ∷ x ∷ xs) m (subst P (sym same) (Contains-append_right w (n ∷ x ∷ xs) n (contains_first n (x ∷ xs)))) e
    ];
  }

  waits_over : (missing : List ℕ) → value_missing (missing_in s kept) (lazy_value s.bodies n) ≡ missing → (after : Results) (v : List ℕ)
      → StepsOver missing (value_json (json_in s kept) (lazy_value s.bodies n)) n kept w after v → Waits s start first after v
  waits_over [] e after v step = let P : List ℕ → Type 0 = λ xs. Waits s start first after xs in subst P (sym step.1) (waits_kept after e step.0)
  waits_over (x ∷ xs) e after v step =
      let same : kept ≡ after = sym (fun_ext step.0) in
      let P : List ℕ → Type 0 = λ ys. Waits s start first after ys in
      let Q : Results → Type 0 = λ r. Waits s start first r (w ++ n ∷ x ∷ xs) in
      subst P (sym step.1) (subst Q same (waits_longer x xs e))

  pub waits_next : (after : Results) (v : List ℕ) → Steps s n kept w after v → Waits s start first after v
  waits_next after v step = waits_over (value_missing (missing_in s kept) (lazy_value s.bodies n)) refl after v step

-- ---- the beginning and the end

pub waits_first : (s : Scope) (start : List ℕ) (first : Results) → IsSettled s first → ((n : ℕ) → Contains start n → StandsBefore s.order (length s.order) n) → Waits s start first first start
waits_first s start first settled ordered = record {
  settled = settled;
  stays = λ n r e. e;
  ordered = λ n c. ordered n (out_unkept first start n c).0;
  all = λ n c e. in_unkept first start n c e;
}

kept_or_none : (o : Option Data) → ((r : Data) × (o ≡ Some r)) ⊎ (o ≡ None)
kept_or_none None = inr refl
kept_or_none (Some r) = inl (r, refl)

pub waits_done : (s : Scope) (start : List ℕ) (first kept : Results) (w : List ℕ) → Waits s start first kept w → unkept kept w ≡ [] → (n : ℕ) → Contains start n → IsKept kept n
waits_done s start first kept w waits none n c = elim (kept_or_none (kept n)) [
  | inl is ↦ record { result = is.0; is = is.1 }
  | inr e ↦ let P : List ℕ → Type 0 = λ xs. Contains xs n in absurd (contains_no n (subst P none (waits.all n c e)))
]

-- ---- results that agree everywhere

pub settled_same : (s : Scope) (before after : Results) → ((m : ℕ) → after m ≡ before m) → IsSettled s before → IsSettled s after
settled_same s before after same settled = subst (IsSettled s) (sym (fun_ext same)) settled
