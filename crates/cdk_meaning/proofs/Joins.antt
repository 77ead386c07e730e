-- Splicing, merging and dropping keep the text that a list of items has.
use Rattle.std.proofs.Common.{◌≡◌, ℕ, List, [], ◌∷◌, ◌++◌, Bool, true, false, Option, Some, None, refl, sym, ap, ◌∙◌, append_assoc, append-nil, rules}
use Rattle.std.proofs.lemmas.Slice.Eq.{bytes_eq-Decides}
use Rattle.std.specs.Prelude.{codes, bytes_eq, if◌then◌else◌}
use Rattle.serde_json.specs.Data.{Num, Data, null, boolean, number, string, array, object, Items, no_items, item, no_members, member}
use Rattle.cdk_base.specs.Json.{text_of, is_whole}
use Rattle.cdk_eval.specs.Texts.{item_texts, join_with, with_before, text_before}
use Rattle.cdk_eval.specs.declared.fault.EvalFault.TheVariants.{BadIntrinsic}
use Rattle.cdk_eval.specs.Outcomes.{Value, Fault}
use Rattle.cdk_meaning.specs.Source.{Meaning, Means, MeansNothing, Undefined}
use Rattle.cdk_meaning.specs.Agreement.{seen}
use Rattle.cdk_meaning.specs.Meaning.{means_text, with_item, means_array, piece, then_text, joined_texts, items_in, joined_items}
use Rattle.cdk_eval.specs.Template.{Scope, outcome, item_outcomes, number_outcome}
use Rattle.cdk_plain.specs.Rendered.{join_json, and_items, joined_in, spliced_onto, spliced, glued, merged_onto, merged, finished, joined, rendered_join}
use Rattle.cdk_meaning.proofs.Collapse.{listed, listed_first, seen_array, seen_join}

then_assoc : (a b c : Option (List ℕ)) → then_text (then_text a b) c ≡ then_text a (then_text b c)
then_assoc None b c = refl
then_assoc (Some s) None c = refl
then_assoc (Some s) (Some u) None = refl
then_assoc (Some s) (Some u) (Some v) = ap Some (append_assoc s u v)

none_then : (a : Option (List ℕ)) → then_text a None ≡ None
none_then None = refl
none_then (Some s) = refl

empty_then : (a : Option (List ℕ)) → then_text (Some []) a ≡ a
empty_then None = refl
empty_then (Some s) = refl

piece_text : (o : Option (List ℕ)) → piece (means_text o) ≡ o
piece_text None = refl
piece_text (Some s) = refl

-- the text of a list of values joined by nothing
abbrev joined_empty : Option (List (List ℕ)) → Option (List ℕ)
joined_empty None = None
joined_empty (Some ts) = Some (join_with [] ts)

abbrev pub text_together : Option Items → Option (List ℕ)
text_together None = None
text_together (Some ds) = joined_empty (item_texts ds)

with_empty : (ts : List (List ℕ)) → with_before [] ts ≡ join_with [] ts
with_empty [] = refl
with_empty (t ∷ ts) = refl

together_first : (a : Option (List ℕ)) (b : Option (List (List ℕ))) → joined_empty (text_before a b) ≡ then_text a (joined_empty b)
together_first None b = refl
together_first (Some s) None = refl
together_first (Some s) (Some ts) = ap (λ u. Some (s ++ u)) (with_empty ts)

pub together_with : (m : Meaning) (o : Option Items) → text_together (with_item m o) ≡ then_text (piece m) (text_together o)
together_with (Means d) (Some ds) = together_first (text_of d) (item_texts ds)
together_with (Means d) None = sym (none_then (text_of d))
together_with MeansNothing (Some ds) = sym (empty_then _)
together_with MeansNothing None = refl
together_with Undefined (Some ds) = refl
together_with Undefined None = refl

pub joined_together : (o : Option Items) → joined_items [] (items_in (means_array o)) ≡ means_text (text_together o)
joined_together None = refl
joined_together (Some ds) = go (item_texts ds)
  where
    go : (ts : Option (List (List ℕ))) → joined_texts [] ts ≡ means_text (joined_empty ts)
    go None = refl
    go (Some ts) = refl

pub bytes_same : (k l : List ℕ) → bytes_eq k l ≡ true → k ≡ l
bytes_same k l h = search (rules, bytes_eq-Decides)

key_is : (k : List ℕ) (es ds : Items) (b : Bool) → bytes_eq k (codes "Fn::Join") ≡ b → (if b then Some es else None) ≡ Some ds → object (member k (array (item (string []) (item (array es) no_items))) no_members) ≡ join_json [] (array ds)
key_is k es ds true e h = let k_is : k ≡ codes "Fn::Join" = bytes_same k (codes "Fn::Join") e in cc
key_is k es ds false e h = cc

pub is_joined : (d : Data) (ds : Items) → joined_in d ≡ Some ds → d ≡ join_json [] (array ds)
is_joined (object (member k (array (item (string []) (item (array es) no_items))) no_members)) ds h = key_is k es ds (bytes_eq k (codes "Fn::Join")) refl h
is_joined _ ds h = cc

module _ (t : Scope) where
  -- the text of items one after another
  abbrev pub texts : Items → Option (List ℕ)
  texts no_items = Some []
  texts (item d ds) = then_text (piece (seen (outcome t d))) (texts ds)

  together_texts : (ds : Items) → text_together (listed (item_outcomes t ds)) ≡ texts ds
  together_texts no_items = refl
  together_texts (item d ds) =
      ap text_together (listed_first (outcome t d) (item_outcomes t ds)) ∙ together_with (seen (outcome t d)) (listed (item_outcomes t ds)) ∙ ap (then_text (piece (seen (outcome t d)))) (together_texts ds)

  pub seen_join_of : (d : List ℕ) (x : Data) → seen (outcome t (join_json d x)) ≡ joined_items d (items_in (seen (outcome t x)))
  seen_join_of d x = seen_join d (outcome t x)

  seen_items : (ds : Items) → seen (outcome t (join_json [] (array ds))) ≡ means_text (texts ds)
  seen_items ds =
      seen_join_of [] (array ds) ∙ ap (λ m. joined_items [] (items_in m)) (seen_array (item_outcomes t ds)) ∙ joined_together (listed (item_outcomes t ds)) ∙ ap means_text (together_texts ds)

  texts_and : (ds es : Items) → texts (and_items ds es) ≡ then_text (texts ds) (texts es)
  texts_and no_items es = sym (empty_then (texts es))
  texts_and (item d ds) es = ap (then_text (piece (seen (outcome t d)))) (texts_and ds es) ∙ sym (then_assoc _ (texts ds) (texts es))

  splice_one : (o : Option Items) (d : Data) (es : Items) → joined_in d ≡ o → texts (spliced_onto o d es) ≡ then_text (piece (seen (outcome t d))) (texts es)
  splice_one None d es h = refl
  splice_one (Some ds) d es h =
      texts_and ds es ∙ ap (λ a. then_text a (texts es)) (sym (ap (λ x. piece (seen (outcome t x))) (is_joined d ds h) ∙ ap piece (seen_items ds) ∙ piece_text (texts ds)))

  texts_spliced : (ds : Items) → texts (spliced ds) ≡ texts ds
  texts_spliced no_items = refl
  texts_spliced (item d ds) = splice_one (joined_in d) d (spliced ds) refl ∙ ap (then_text (piece (seen (outcome t d)))) (texts_spliced ds)

  number_piece : (n : Num) (b : Bool) → is_whole n ≡ b → piece (seen (number_outcome n)) ≡ text_of (number n)
  number_piece n true h = ap (λ b. piece (seen (if b then Value (number n) else Fault BadIntrinsic))) h
  number_piece n false h = simp h

  literal : (d : Data) (s : List ℕ) → text_of d ≡ Some s → piece (seen (outcome t d)) ≡ Some s
  literal null s h = h
  literal (boolean b) s h = h
  literal (number n) s h = number_piece n (is_whole n) refl ∙ h
  literal (string u) s h = h
  literal (array ds) s h = cc
  literal (object ms) s h = cc

  texts_glued : (s : List ℕ) (ds : Items) → texts (glued s ds) ≡ then_text (Some s) (texts ds)
  texts_glued s (item (string u) ds) = then_assoc (Some s) (Some u) (texts ds)
  texts_glued s _ = refl

  merge_one : (o : Option (List ℕ)) (d : Data) (ds : Items) → text_of d ≡ o → texts (merged_onto o d ds) ≡ then_text (piece (seen (outcome t d))) (texts ds)
  merge_one None d ds h = refl
  merge_one (Some []) d ds h = sym (ap (λ a. then_text a (texts ds)) (literal d [] h) ∙ empty_then (texts ds))
  merge_one (Some (c ∷ s)) d ds h = texts_glued (c ∷ s) ds ∙ sym (ap (λ a. then_text a (texts ds)) (literal d (c ∷ s) h))

  texts_merged : (ds : Items) → texts (merged ds) ≡ texts ds
  texts_merged no_items = refl
  texts_merged (item d ds) = merge_one (text_of d) d (merged ds) refl ∙ ap (then_text (piece (seen (outcome t d)))) (texts_merged ds)

  seen_finished : (ds : Items) → seen (outcome t (finished ds)) ≡ means_text (texts ds)
  seen_finished no_items = refl
  seen_finished (item (string s) no_items) = ap (λ u. Means (string u)) (sym (append-nil s))
  seen_finished ds = seen_items ds

  pub seen_joined : (ds : Items) → seen (outcome t (joined ds)) ≡ means_text (texts ds)
  seen_joined ds = seen_finished (merged (spliced ds)) ∙ ap means_text (texts_merged (spliced ds) ∙ texts_spliced ds)

  -- a join of any delimiter
  pub seen_rendered_join : (d : List ℕ) (x : Data) → seen (outcome t (rendered_join d x)) ≡ joined_items d (items_in (seen (outcome t x)))
  seen_rendered_join [] (array ds) = seen_joined ds ∙ sym (seen_items ds) ∙ seen_join_of [] (array ds)
  seen_rendered_join d x = seen_join_of d x
