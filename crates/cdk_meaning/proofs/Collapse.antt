-- What an intrinsic does, seen with its faults told apart no more.
use Rattle.std.proofs.Common.{ap, ◌≡◌, ℕ, List, [], ◌∷◌, true, false, Option, Some, None, refl, sym}
use Rattle.serde_json.specs.Data.{Data, string, array, Items, Members}
use Rattle.cdk_base.specs.Json.{text_of}
use Rattle.serde_json.specs.Find.{get_item}
use Rattle.cdk_eval.specs.Texts.{item_texts, cut}
use Rattle.cdk_eval.specs.declared.fault.EvalFault.{EvalFault}
use Rattle.cdk_eval.specs.declared.fault.EvalFault.TheVariants.{NotText, NoItem}
use Rattle.cdk_meaning.specs.Source.{Meaning, Means, MeansNothing, Undefined}
use Rattle.cdk_meaning.specs.Agreement.{Agrees, AgreementIsSeen, seen, seen_truth}
use Rattle.cdk_meaning.specs.Meaning.{or_undefined, means_text, with_item, with_member, means_array, means_object, text_in, joined_texts, items_in, joined_items, item_at, cut_at, chosen, leaf_at}
use Rattle.cdk_eval.specs.Outcomes.{Outcome, Value, Gone, Fault, Truth, Holds, Untold, Listed, Lists, NotListed, Fielded, Has, NotFielded, first_item, first_member, array_outcome, object_outcome, value_or, text_or, on_some_text, on_text, picked, before_fault}
use Rattle.cdk_eval.specs.Template.{join_texts, join_args, select_args, split_args}
use Rattle.cdk_plain.specs.Plain.{IsNonEmpty}

-- one is enough for the other
pub agrees_seen : (o : Outcome) (m : Meaning) → seen o ≡ m → Agrees o m
agrees_seen (Value d) (Means e) h = cc
agrees_seen (Value d) MeansNothing h = cc
agrees_seen (Value d) Undefined h = cc
agrees_seen Gone (Means e) h = cc
agrees_seen Gone MeansNothing h = tt
agrees_seen Gone Undefined h = cc
agrees_seen (Fault f) (Means e) h = cc
agrees_seen (Fault f) MeansNothing h = cc
agrees_seen (Fault f) Undefined h = tt

pub seen_agrees : (o : Outcome) (m : Meaning) → Agrees o m → seen o ≡ m
seen_agrees (Value d) (Means e) h = ap Means h
seen_agrees (Value d) MeansNothing h = absurd h
seen_agrees (Value d) Undefined h = absurd h
seen_agrees Gone (Means e) h = absurd h
seen_agrees Gone MeansNothing h = refl
seen_agrees Gone Undefined h = absurd h
seen_agrees (Fault f) (Means e) h = absurd h
seen_agrees (Fault f) MeansNothing h = absurd h
seen_agrees (Fault f) Undefined h = refl

pub agreement_is_seen : AgreementIsSeen
agreement_is_seen o m = (seen_agrees o m, agrees_seen o m)

abbrev pub listed : Listed → Option Items
listed (Lists ds) = Some ds
listed (NotListed f) = None

abbrev pub fielded : Fielded → Option Members
fielded (Has ms) = Some ms
fielded (NotFielded f) = None

pub listed_first : (o : Outcome) (l : Listed) → listed (first_item o l) ≡ with_item (seen o) (listed l)
listed_first (Value d) (Lists ds) = refl
listed_first (Value d) (NotListed f) = refl
listed_first Gone (Lists ds) = refl
listed_first Gone (NotListed f) = refl
listed_first (Fault g) (Lists ds) = refl
listed_first (Fault g) (NotListed f) = refl

pub fielded_first : (k : List ℕ) (o : Outcome) (l : Fielded) → fielded (first_member k o l) ≡ with_member k (seen o) (fielded l)
fielded_first k (Value d) (Has ds) = refl
fielded_first k (Value d) (NotFielded f) = refl
fielded_first k Gone (Has ds) = refl
fielded_first k Gone (NotFielded f) = refl
fielded_first k (Fault g) (Has ds) = refl
fielded_first k (Fault g) (NotFielded f) = refl

pub seen_array : (l : Listed) → seen (array_outcome l) ≡ means_array (listed l)
seen_array (Lists ds) = refl
seen_array (NotListed f) = refl

pub seen_object : (l : Fielded) → seen (object_outcome l) ≡ means_object (fielded l)
seen_object (Has ds) = refl
seen_object (NotFielded f) = refl

seen_texts : (d : List ℕ) (o : Option (List (List ℕ))) → seen (join_texts d o) ≡ joined_texts d o
seen_texts d None = refl
seen_texts d (Some ts) = refl

pub seen_join : (d : List ℕ) (o : Outcome) → seen (join_args (string d) o) ≡ joined_items d (items_in (seen o))
seen_join d (Value (array ds)) = seen_texts d (item_texts ds)
seen_join d _ = refl

seen_value : (f : EvalFault) (o : Option Data) → seen (value_or f o) ≡ or_undefined o
seen_value f None = refl
seen_value f (Some d) = refl

pub seen_text : (f : EvalFault) (o : Option (List ℕ)) → seen (text_or f o) ≡ means_text o
seen_text f None = refl
seen_text f (Some d) = refl

pub seen_select : (n : ℕ) (o : Outcome) → seen (select_args (Some n) o) ≡ item_at n (items_in (seen o))
seen_select n (Value (array ds)) = seen_value NoItem (get_item n ds)
seen_select n _ = refl

seen_cut : (c : ℕ) (d : List ℕ) (o : Option (List ℕ)) → seen (on_some_text (λ t. Value (array (cut (c ∷ d) 0 [] t))) o) ≡ cut_at (c ∷ d) o
seen_cut c d None = refl
seen_cut c d (Some t) = refl

pub seen_split : (d : List ℕ) (o : Outcome) → IsNonEmpty d → seen (split_args (string d) o) ≡ cut_at d (text_in (seen o))
seen_split [] o h = absurd h
seen_split (c ∷ d) (Value x) h = seen_cut c d (text_of x)
seen_split (c ∷ d) Gone h = refl
seen_split (c ∷ d) (Fault f) h = refl

pub seen_choice : (b : Truth) (x y : Outcome) → seen (picked b x y) ≡ chosen (seen_truth b) (seen x) (seen y)
seen_choice (Holds true) x y = refl
seen_choice (Holds false) x y = refl
seen_choice (Untold f) x y = refl

-- a mapping's leaf, where each comes to what it means
module _ (found : List ℕ → List ℕ → Outcome) (leaf : List ℕ → List ℕ → Option Data) (same : (x y : List ℕ) → seen (found x y) ≡ or_undefined (leaf x y)) where
  seen_leaf_texts : (a b : Option (List ℕ)) → seen (on_some_text (λ x. on_some_text (λ y. found x y) b) a) ≡ leaf_at leaf a b
  seen_leaf_texts None None = refl
  seen_leaf_texts None (Some y) = refl
  seen_leaf_texts (Some x) None = refl
  seen_leaf_texts (Some x) (Some y) = same x y

  no_leaf : (a : Option (List ℕ)) → leaf_at leaf a None ≡ Undefined
  no_leaf None = refl
  no_leaf (Some x) = refl

  gone_leaf : (a : Option (List ℕ)) → seen (on_some_text (λ x. Fault NotText) a) ≡ leaf_at leaf a None
  gone_leaf None = refl
  gone_leaf (Some x) = refl

  pub seen_leaf : (x y : Outcome) → seen (before_fault x (before_fault y (on_text (λ a. on_text (λ b. found a b) y) x))) ≡ leaf_at leaf (text_in (seen x)) (text_in (seen y))
  seen_leaf (Value d) (Value e) = seen_leaf_texts (text_of d) (text_of e)
  seen_leaf (Value d) Gone = gone_leaf (text_of d)
  seen_leaf (Value d) (Fault f) = sym (no_leaf (text_of d))
  seen_leaf Gone (Value e) = refl
  seen_leaf Gone Gone = refl
  seen_leaf Gone (Fault f) = refl
  seen_leaf (Fault g) (Value e) = refl
  seen_leaf (Fault g) Gone = refl
  seen_leaf (Fault g) (Fault f) = refl
