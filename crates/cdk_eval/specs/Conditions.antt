-- What a condition of a template comes to (CloudFormation's condition functions; loops and faults are own).
use Rattle.std.specs.Prelude.{◌≡◌, ◌≤◌, ℕ, zero, suc, ◌&&◌, ◌||◌, List, [], ◌∷◌, ◌++◌, length, Bool, true, false, not, Option, Some, None, nat_le, if◌then◌else◌, bytes_eq, codes}
use Rattle.serde_json.specs.Data.{Data, null, boolean, number, string, array, object, Items, no_items, item, Members, no_members, member}
use Rattle.serde_json.specs.Find.{get_member}
use Rattle.cdk_base.specs.Json.{text_of}
use Rattle.cdk_eval.specs.declared.fault.EvalFault.TheVariants.{NotText, UnknownName, BadIntrinsic, ConditionLoop}
use Rattle.cdk_eval.specs.Reach.{comes_to}
use Rattle.cdk_eval.specs.Outcomes.{Outcome, Value, Gone, Fault, Truth, Holds, Untold}

-- ---- one condition

abbrev pub equal_texts : Option (List ℕ) → Option (List ℕ) → Truth
equal_texts (Some a) (Some b) = Holds (bytes_eq a b)
equal_texts _ _ = Untold NotText

-- both are evaluated before their texts are looked at
abbrev pub equal_outcomes : Outcome → Outcome → Truth
equal_outcomes (Fault f) o = Untold f
equal_outcomes (Value d) (Fault f) = Untold f
equal_outcomes Gone (Fault f) = Untold f
equal_outcomes Gone o = Untold NotText
equal_outcomes (Value d) Gone = Untold NotText
equal_outcomes (Value d) (Value e) = equal_texts (text_of d) (text_of e)

abbrev pub equals_form : (Data → Outcome) → Data → Truth
equals_form operand (array (item x (item y no_items))) = equal_outcomes (operand x) (operand y)
equals_form operand _ = Untold BadIntrinsic

abbrev pub both_hold : (Bool → Bool → Bool) → Truth → Truth → Truth
both_hold f (Untold g) t = Untold g
both_hold f (Holds a) (Untold g) = Untold g
both_hold f (Holds a) (Holds b) = Holds (f a b)

-- all parts are evaluated from the left
abbrev pub all_hold : (Bool → Bool → Bool) → Bool → List Truth → Truth
all_hold f b [] = Holds b
all_hold f b (t ∷ ts) = both_hold f t (all_hold f b ts)

abbrev pub is_few : ℕ → Bool
is_few n = nat_le 2 n && nat_le n 10

-- Fn::And and Fn::Or
abbrev pub few_form : (Bool → Bool → Bool) → Bool → List Truth → Truth
few_form f b ts = if is_few (length ts) then all_hold f b ts else Untold BadIntrinsic

abbrev pub negated : Truth → Truth
negated (Untold g) = Untold g
negated (Holds b) = Holds (not b)

abbrev pub not_form : List Truth → Truth
not_form (t ∷ []) = negated t
not_form _ = Untold BadIntrinsic

abbrev pub name_form : (List ℕ → Truth) → Data → Truth
name_form of_name (string n) = of_name n
name_form of_name _ = Untold BadIntrinsic

-- with the outcome of an operand, and the truth of a name
module _ (operand : Data → Outcome) (of_name : List ℕ → Truth) where
  abbrev mutual
    pub truth_of : Data → Truth
    truth_of null = Untold BadIntrinsic
    truth_of (boolean b) = Untold BadIntrinsic
    truth_of (number n) = Untold BadIntrinsic
    truth_of (string s) = Untold BadIntrinsic
    truth_of (array ds) = Untold BadIntrinsic
    truth_of (object ms) = single_truth ms

    pub single_truth : Members → Truth
    single_truth no_members = Untold BadIntrinsic
    single_truth (member k d no_members) =
        if bytes_eq k (codes "Fn::Equals") then equals_form operand d
        else (if bytes_eq k (codes "Fn::And") then few_form (λ a b. a && b) true (part_truths d)
        else (if bytes_eq k (codes "Fn::Or") then few_form (λ a b. a || b) false (part_truths d)
        else (if bytes_eq k (codes "Fn::Not") then not_form (part_truths d)
        else (if bytes_eq k (codes "Condition") then name_form of_name d
        else Untold BadIntrinsic))))
    single_truth (member k d (member l e ms)) = Untold BadIntrinsic

    -- of the items of an array
    pub part_truths : Data → List Truth
    part_truths null = []
    part_truths (boolean b) = []
    part_truths (number n) = []
    part_truths (string s) = []
    part_truths (array ds) = item_truths ds
    part_truths (object ms) = []

    pub item_truths : Items → List Truth
    item_truths no_items = []
    item_truths (item d ds) = truth_of d ∷ item_truths ds

-- ---- the names in it

abbrev pub one_name : Data → List (List ℕ)
one_name (string n) = n ∷ []
one_name _ = []

abbrev pub item_count : Items → ℕ
item_count no_items = 0
item_count (item d ds) = suc (item_count ds)

abbrev pub has_items : (ℕ → Bool) → Data → Bool
has_items fits (array ds) = fits (item_count ds)
has_items fits _ = false

abbrev pub is_one : ℕ → Bool
is_one n = nat_le 1 n && nat_le n 1

-- the names that a condition names, directly or inside well-formed `Fn::And`, `Fn::Or` and `Fn::Not`
abbrev mutual
  pub names_in : Data → List (List ℕ)
  names_in null = []
  names_in (boolean b) = []
  names_in (number n) = []
  names_in (string s) = []
  names_in (array ds) = []
  names_in (object ms) = single_names ms

  pub single_names : Members → List (List ℕ)
  single_names no_members = []
  single_names (member k d no_members) =
      if bytes_eq k (codes "Fn::And") || bytes_eq k (codes "Fn::Or") then (if has_items is_few d then part_names d else [])
      else (if bytes_eq k (codes "Fn::Not") then (if has_items is_one d then part_names d else [])
      else (if bytes_eq k (codes "Condition") then one_name d
      else []))
  single_names (member k d (member l e ms)) = []

  pub part_names : Data → List (List ℕ)
  part_names null = []
  part_names (boolean b) = []
  part_names (number n) = []
  part_names (string s) = []
  part_names (array ds) = item_names ds
  part_names (object ms) = []

  pub item_names : Items → List (List ℕ)
  item_names no_items = []
  item_names (item d ds) = names_in d ++ item_names ds

-- ---- the conditions of a template, by name

abbrev pub names_of : Option Data → List (List ℕ)
names_of None = []
names_of (Some d) = names_in d

abbrev pub count : Members → ℕ
count no_members = 0
count (member k d ms) = suc (count ms)

-- from the condition `c` one comes to `goal` by at most so many steps, each from a condition to one that it names
abbrev pub reaches : Members → ℕ → List ℕ → List ℕ → Bool
reaches cs = comes_to (λ c. names_of (get_member c cs))

-- it comes back to itself; no such way needs more steps than there are conditions
abbrev pub is_loop : Members → List ℕ → Bool
is_loop cs c = reaches cs (count cs) c c

abbrev pub found_truth : (Data → Truth) → Option Data → Truth
found_truth f None = Untold UnknownName
found_truth f (Some d) = f d

-- the truth of a name, where names are opened at most so many times, one inside another
abbrev pub truth_within : (Data → Outcome) → Members → ℕ → List ℕ → Truth
truth_within operand cs zero c = found_truth (λ d. Untold ConditionLoop) (get_member c cs)
truth_within operand cs (suc n) c = found_truth (λ d. if is_loop cs c then Untold ConditionLoop else truth_of operand (truth_within operand cs n) d) (get_member c cs)

-- No more conditions than there are stand one inside another, unless one reaches itself.
abbrev pub named_truth : (Data → Outcome) → Members → List ℕ → Truth
named_truth operand cs c = truth_within operand cs (count cs) c

-- ---- laws

-- more openings change nothing
abbrev pub BoundSuffices : Type 0
BoundSuffices = (operand : Data → Outcome) (cs : Members) (n : ℕ) (c : List ℕ) → count cs ≤ n → truth_within operand cs n c ≡ named_truth operand cs c

-- what reaches itself by any way is told
abbrev pub LoopsAreFound : Type 0
LoopsAreFound = (cs : Members) (n : ℕ) (c : List ℕ) → reaches cs n c c ≡ true → is_loop cs c ≡ true

-- a condition that doesn't reach itself has the truth of its form, under the truths of the names in it
abbrev pub NamesAreOpened : Type 0
NamesAreOpened =
    (operand : Data → Outcome) (cs : Members) (c : List ℕ) (d : Data)
    → get_member c cs ≡ Some d → is_loop cs c ≡ false → named_truth operand cs c ≡ truth_of operand (named_truth operand cs) d
