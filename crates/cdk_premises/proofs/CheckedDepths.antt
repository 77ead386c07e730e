-- Where the check of sizes finds nothing, what each construct shows has room.
use Rattle.std.proofs.Common.{◌≡◌, ◌<◌, ◌≤◌, ℕ, zero, suc, ◌+◌, List, [], ◌∷◌, ◌++◌, length, map, Bool, true, false, Some, refl, sym, ap, ◌∙◌, subst, inl, inr, arith}
use Rattle.std.specs.Prelude.{◌&&◌, nat_le, nat_lt}
use Rattle.std.specs.Option.{option_map_or}
use Rattle.std.proofs.lemmas.Bool.{cases_lt}
use Rattle.std.proofs.lemmas.List.{get_or_past}
use Rattle.cdk_base.specs.declared.code.Code.TheVariants.{TooDeep, TooLarge}
use Rattle.cdk_elements.specs.Elements.{own_condition, own_value}
use Rattle.cdk_expansion.specs.Expanded.{plain_of}
use Rattle.cdk_expansion.specs.Laws.{IsSound}
use Rattle.cdk_expansion.specs.Own.{value_in}
use Rattle.cdk_graphs.specs.Loops.{LoopsAreFound}
use Rattle.cdk_language.specs.Construct as construct
use Rattle.cdk_language.specs.Construct.{Body}
use Rattle.cdk_language.specs.Expression.{Expression}
use Rattle.cdk_plain.specs.Rendered.{Homes}
use Rattle.cdk_premises.proofs.MarkedPlaces.{value_there}
use Rattle.cdk_premises.proofs.OwnForms.{condition_is_own, value_is_own}
use Rattle.cdk_premises.proofs.RenderedDepths.{conditions_have_room, rendered_has_room}
use Rattle.cdk_premises.specs.RenderedLaws.{BodyFits, HasNoCycle, ValuesFit}
use Rattle.cdk_value_measures.specs.Size.{condition_depth, depth}
use Rattle.cdk_value_measures.specs.Constructs.{lazy_count}
use Rattle.cdk_sizes.specs.SizeFindings.{depth_at, greatest_depth, largest_sum, size_at, size_findings_from}
use Rattle.cdk_tokens.specs.Token.{Token}
use Rattle.cdk_tokens.specs.Whole.{MarkedBody, marking, tokens_of, value_at}
use Rattle.cdk_tree.specs.Expected.{target_at}
use Rattle.cdk_tree.specs.PlaceFindings.{when}
use Rattle.cdk_tree.specs.Placed.{construct_at, nowhere, Placed}
use Rattle.cdk_tree.specs.declared.role.Found.{Found}

-- ---- findings

low_by : (d : ℕ) (b : Bool) → nat_lt greatest_depth d ≡ b → b ≡ false → d ≤ greatest_depth
low_by d b e none = let low : nat_lt greatest_depth d ≡ false = e ∙ none in grind (arith, low)

no_codes : (b c : Bool) (n : ℕ) (fs : List Found) → map (target_at n) (when b TooLarge ++ when c TooDeep) ++ fs ≡ [] → (c ≡ false) × (fs ≡ [])
no_codes true c n fs e = absurd (cc e)
no_codes false true n fs e = absurd (cc e)
no_codes false false n fs e = (refl, e)

module _ (cs : List Placed) (ts : List Token) (ms : List MarkedBody) where
  none_deeper : (before n : ℕ) (rest : List Placed) (i j : ℕ) → n + i ≡ j → i < length rest → size_findings_from cs ts ms before n rest ≡ [] → depth_at cs ts ms j (construct_at rest i).body ≤ greatest_depth
  none_deeper before n [] i j e within none = absurd (omega (arith, within))
  none_deeper before n (c ∷ rest) zero j e within none =
      let here = no_codes (nat_le before largest_sum && nat_lt largest_sum (before + size_at cs ts ms n c.body)) (nat_lt greatest_depth (depth_at cs ts ms n c.body)) n (size_findings_from cs ts ms (before + size_at cs ts ms n c.body) (n + 1) rest) none in
      let same : n ≡ j = omega (arith, e) in
      subst (λ (k : ℕ). depth_at cs ts ms k c.body ≤ greatest_depth) same (low_by (depth_at cs ts ms n c.body) (nat_lt greatest_depth (depth_at cs ts ms n c.body)) refl (here.0))
  none_deeper before n (c ∷ rest) (suc i) j e within none =
      let here = no_codes (nat_le before largest_sum && nat_lt largest_sum (before + size_at cs ts ms n c.body)) (nat_lt greatest_depth (depth_at cs ts ms n c.body)) n (size_findings_from cs ts ms (before + size_at cs ts ms n c.body) (n + 1) rest) none in
      none_deeper (before + size_at cs ts ms n c.body) (n + 1) rest i j (omega (arith, e)) (omega (arith, within)) (here.1)

-- ---- what each construct shows

module _ (found : LoopsAreFound) (cs : List Placed) (sound : IsSound cs) (none : HasNoCycle cs) (h : Homes) (n : ℕ) where
  -- the depth of its marked value's plain form is that of its own plain form
  value_depth : (e : Expression) → value_in (construct_at cs n).body ≡ Some e → option_map_or (λ d. depth (plain_of (lazy_count cs) (tokens_of cs) (marking cs) d)) (value_at (marking cs) n) 0 ≡ depth (own_value cs n e)
  value_depth e is =
      let v = value_there cs n e is in
      ap (λ o. option_map_or (λ d. depth (plain_of (lazy_count cs) (tokens_of cs) (marking cs) d)) o 0) v.there ∙ ap depth (value_is_own found cs sound none (lazy_count cs) n e v.datum (omega arith) is v.there)

  body_fits : (b : Body) → (construct_at cs n).body ≡ b → depth_at cs (tokens_of cs) (marking cs) n b ≤ greatest_depth → BodyFits h cs n b
  body_fits (construct.resource r) is low = rendered_has_room h (own_value cs n r.properties) (subst (λ (d : ℕ). d ≤ greatest_depth) (value_depth r.properties (ap value_in is)) low)
  body_fits (construct.output o) is low = rendered_has_room h (own_value cs n o.value) (subst (λ (d : ℕ). d ≤ greatest_depth) (value_depth o.value (ap value_in is)) low)
  body_fits (construct.condition_body c) is low =
      conditions_have_room h (own_condition cs n c) (subst (λ (d : ℕ). d ≤ greatest_depth) (ap condition_depth (condition_is_own found cs sound none (lazy_count cs) n c (omega arith) is)) low)
  body_fits b is low = tt

  past_fits : length cs ≤ n → BodyFits h cs n (construct_at cs n).body
  past_fits past = subst (λ (c : Placed). BodyFits h cs n c.body) (sym (get_or_past cs n nowhere past)) tt

pub values_fit : LoopsAreFound → ValuesFit
values_fit found cs sound none clean h n = elim (cases_lt n (length cs)) [
  | inl within ↦ body_fits found cs sound none h n (construct_at cs n).body refl (none_deeper cs (tokens_of cs) (marking cs) 0 0 cs n n (omega arith) within clean)
  | inr past ↦ past_fits found cs sound none h n past
]
