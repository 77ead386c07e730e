-- What stands in a template, put in construct by construct.
use Rattle.std.proofs.Common.{◌≡◌, ℕ, List, ◌∷◌, Bool, true, false, cond, refl, sym, ap, ◌∙◌}
use Rattle.std.specs.Prelude.{◌&&◌}
use Rattle.serde_json.specs.Data.{Members, put}
use Rattle.cdk_elements.specs.Kinds.{among, is_in}
use Rattle.cdk_language.specs.Construct.{Body}
use Rattle.cdk_meaning.specs.Sections.{filled}
use Rattle.cdk_template.specs.Entries.{with_entry}
use Rattle.cdk_template.specs.Template.{Spelling, entry_of}
use Rattle.cdk_tree.specs.Placed.{Placed, construct_at}

module _ (cs : List Placed) (s : Spelling) (stack : ℕ) (kind : Body → Bool) where
  abbrev pub put_in : List ℕ → Members → Members
  put_in ns ms = filled s.logical (λ n. entry_of s n (construct_at cs n)) (among cs stack kind ns) ms

  put_first : (t : Bool) (n : ℕ) (ns : List ℕ) (ms : Members)
      → filled s.logical (λ n. entry_of s n (construct_at cs n)) (cond t (n ∷ ns) ns) ms
      ≡ filled s.logical (λ n. entry_of s n (construct_at cs n)) ns (cond t (put (s.logical n) (entry_of s n (construct_at cs n)) ms) ms)
  put_first true n ns ms = refl
  put_first false n ns ms = refl

  -- the construct of a number before the others
  pub filled_more : (n : ℕ) (ns : List ℕ) (ms : Members) → put_in (n ∷ ns) ms ≡ put_in ns (with_entry cs s stack kind n ms)
  filled_more n ns ms = put_first (is_in stack (construct_at cs n).stack && kind (construct_at cs n).body) n (among cs stack kind ns) ms

  -- that of a construct which the section holds
  pub own_entry : (n : ℕ) (ms : Members) → is_in stack (construct_at cs n).stack ≡ true → kind (construct_at cs n).body ≡ true → put (s.logical n) (entry_of s n (construct_at cs n)) ms ≡ with_entry cs s stack kind n ms
  own_entry n ms inside held = ap (λ t. cond t (put (s.logical n) (entry_of s n (construct_at cs n)) ms) ms) (sym (ap (λ t. t && kind (construct_at cs n).body) inside ∙ held))
