-- The template of the one stack exports nothing.
use Rattle.std.proofs.Common.{◌≡◌, ◌<◌, ℕ, List, [], ◌∷◌, ◌++◌, length, true, Option, Some, None, Ordering, Less, Equal, Greater, nat_cmp, codes, refl, sym, ap, ◌∙◌, true≢false}
use Rattle.std.specs.Prelude.{◌&&◌, filter_map, is_none, option_and_then, option_map}
use Rattle.std.specs.Ordering.{match_ordering}
use Rattle.std.specs.Cmp.Lexicographic.{slice_cmp}
use Rattle.serde_json.specs.Data.{Data, Members, no_members, member, put}
use Rattle.serde_json.specs.Find.{as_str, get}
use Rattle.cdk_elements.specs.Elements.{logical_of}
use Rattle.cdk_elements.specs.Kinds.{is_output, of_kind}
use Rattle.cdk_elements.specs.OneStack.{AreOneStack, has_none, is_alone, is_alone_body}
use Rattle.cdk_eval.specs.Assembly.{entries, literal_name, literal_names}
use Rattle.cdk_language.specs.Construct as language
use Rattle.cdk_language.specs.Construct.{Body, OutputBody}
use Rattle.cdk_meaning.specs.AssemblyKept.{name_of}
use Rattle.cdk_meaning.specs.StackTemplate.{EachMember}
use Rattle.cdk_template.specs.Own.{spelling_of}
use Rattle.cdk_template.specs.Template.{Spelling, entry_in, entry_of, output_entry, section_of}
use Rattle.cdk_entries.specs.Entries.{export_name}
use Rattle.cdk_template.proofs.NumberLemmas.{filled_keeps}
use Rattle.cdk_template.proofs.SectionLemmas.{its_export, own_outputs}
use Rattle.cdk_tree.specs.Placed.{Placed, construct_at}
use Rattle.cdk_tree.proofs.Tests.{and_right}
use Rattle.cdk_tree_meaning.specs.Law.{evaluated}
use Rattle.cdk_tree_meaning.proofs.NameTests.{all_at}
use Rattle.cdk_tree_meaning.proofs.Trees.{each_of_kind}

-- ---- members

abbrev NamesNothing : Data → Type 0
NamesNothing d = name_of d ≡ None

put_each : (P : Data → Type 0) (k : List ℕ) (d : Data) (ms : Members) → P d → EachMember P ms → EachMember P (put k d ms)
put_each P k d no_members p h = (p, tt)
put_each P k d (member l e ms) p h = at (slice_cmp nat_cmp k l) (put_each P k d ms p h.1)
  where
    at : (o : Ordering) → EachMember P (put k d ms) → EachMember P (match_ordering o (member k d (member l e ms)) (member l d ms) (member l e (put k d ms)))
    at Less rest = (p, h)
    at Equal rest = (p, h.1)
    at Greater rest = (h.0, rest)

no_names : (ms : Members) → EachMember NamesNothing ms → filter_map literal_name (entries ms) ≡ []
no_names no_members h = refl
no_names (member k d ms) h = let none : literal_name d ≡ None = ap (option_and_then as_str) h.0 in rw none (no_names ms h.1)

-- ---- outputs

no_export : (s : Spelling) (n : ℕ) (o : OutputBody) (e : Option (List ℕ)) → o.export ≡ e → is_none e ≡ true → NamesNothing (output_entry s n o)
no_export s n o None is none = ap (option_and_then (get (codes "Name"))) (its_export s n o ∙ ap (option_map export_name) is)
no_export s n o (Some t) is none = absurd (true≢false (sym none))

pub output_names_nothing : (s : Spelling) (n : ℕ) (o : OutputBody) → is_alone_body (language.output o) ≡ true → NamesNothing (output_entry s n o)
output_names_nothing s n o alone = no_export s n o o.export refl alone

body_names_nothing : (s : Spelling) (n : ℕ) (path : List ℕ) (b : Body) → is_alone_body b ≡ true → is_output b ≡ true → NamesNothing (entry_in s n path b)
body_names_nothing s n path (language.output o) alone is = output_names_nothing s n o alone
body_names_nothing s n path b alone is = absurd (true≢false (sym is))

module _ (cs : List Placed) (one : AreOneStack cs) where
  pub alone_body : (n : ℕ) → n < length cs → is_alone_body (construct_at cs n).body ≡ true
  alone_body n within = and_right (has_none (construct_at cs n).head.depends && has_none (construct_at cs n).head.aspects) (is_alone_body (construct_at cs n).body) (all_at is_alone cs n one.alone within)

  outputs_name_nothing : (stack : ℕ) → EachMember NamesNothing (section_of cs (spelling_of cs) stack is_output)
  outputs_name_nothing stack =
      let entry : ℕ → Data = λ n. entry_of (spelling_of cs) n (construct_at cs n) in
      let Keeps : ℕ → Type 0 = λ n. (ms : Members) → EachMember NamesNothing ms → EachMember NamesNothing (put (logical_of cs n) (entry n) ms) in
      filled_keeps (EachMember NamesNothing) (logical_of cs) entry (of_kind cs stack is_output) no_members
      (each_of_kind cs stack is_output Keeps (λ n within is ms h. put_each NamesNothing (logical_of cs n) (entry n) ms (body_names_nothing (spelling_of cs) n (construct_at cs n).path (construct_at cs n).body (alone_body n within) is) h))
      tt

  pub nothing_exported : (stack : ℕ) → literal_names (evaluated cs stack ∷ []) ≡ []
  nothing_exported stack = ap (λ ms. filter_map literal_name (entries ms) ++ []) (own_outputs cs stack) ∙ ap (λ xs. xs ++ []) (no_names (section_of cs (spelling_of cs) stack is_output) (outputs_name_nothing stack))
