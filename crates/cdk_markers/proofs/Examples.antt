-- Small texts, and their cuts.
use Rattle.std.proofs.Common.{◌≡◌, [], ◌∷◌, map, codes, true, false, Some, None, refl}
use Rattle.serde_json.specs.Data.{string, array, no_items, item}
use Rattle.cdk_markers.specs.Cut.{cut_of}
use Rattle.cdk_markers.specs.Key.{is_key, text_marker, list_marker}
use Rattle.cdk_markers.specs.ListKey.{list_key_of}
use Rattle.cdk_markers.specs.Pieces.{literal, key, joined}

keys : map is_key (codes "Ref.0" ∷ codes ".5" ∷ codes "A:b_c-d.e.17" ∷ []) ≡ true ∷ true ∷ true ∷ []
keys = refl

no_keys : map is_key ([] ∷ codes "X." ∷ codes "X" ∷ codes "5" ∷ codes "X.5a" ∷ codes "X y.5" ∷ codes "$X.5" ∷ []) ≡ false ∷ false ∷ false ∷ false ∷ false ∷ false ∷ false ∷ []
no_keys = refl

spelled : text_marker (codes "Ref.0") ≡ codes "${Token[Ref.0]}"
spelled = refl

spelled_list : list_marker (codes "Split.1") ≡ array (item (string (codes "#{Token[Split.1]}")) no_items)
spelled_list = refl

spelled_pieces : joined (literal (codes "a-") ∷ key (codes "Ref.0") ∷ literal (codes "}") ∷ []) ≡ codes "a-${Token[Ref.0]}}"
spelled_pieces = refl

empty : cut_of [] ≡ []
empty = refl

plain : cut_of (codes "abc") ≡ literal (codes "abc") ∷ []
plain = refl

lone : cut_of (codes "${Token[Ref.0]}") ≡ key (codes "Ref.0") ∷ []
lone = refl

between : cut_of (codes "arn:${Token[AWS::Region.3]}:x") ≡ literal (codes "arn:") ∷ key (codes "AWS::Region.3") ∷ literal (codes ":x") ∷ []
between = refl

side_by_side : cut_of (codes "${Token[Ref.0]}${Token[.12]}") ≡ key (codes "Ref.0") ∷ key (codes ".12") ∷ []
side_by_side = refl

-- no key stands between the brackets
no_number : cut_of (codes "${Token[X.]}") ≡ literal (codes "${Token[X.]}") ∷ []
no_number = refl

unclosed : cut_of (codes "${Token[Ref.0") ≡ literal (codes "${Token[Ref.0") ∷ []
unclosed = refl

half_closed : cut_of (codes "${Token[Ref.0]") ≡ literal (codes "${Token[Ref.0]") ∷ []
half_closed = refl

-- the first opening has no key, the second has one
opened_twice : cut_of (codes "${Token[${Token[Ref.0]}") ≡ literal (codes "${Token[") ∷ key (codes "Ref.0") ∷ []
opened_twice = refl

list_in_a_text : cut_of (codes "a#{Token[Split.1]}") ≡ literal (codes "a#{Token[Split.1]}") ∷ []
list_in_a_text = refl

two_dollars : cut_of (codes "$${Token[Ref.0]}") ≡ literal (codes "$") ∷ key (codes "Ref.0") ∷ []
two_dollars = refl

listed : list_key_of (array (item (string (codes "#{Token[Split.1]}")) no_items)) ≡ Some (codes "Split.1")
listed = refl

-- a longer text, a text marker, a longer array, a text alone
not_listed : map list_key_of (array (item (string (codes "a#{Token[Split.1]}")) no_items)
    ∷ array (item (string (codes "#{Token[Split.1]}a")) no_items)
    ∷ array (item (string (codes "#{Token[Split.]}")) no_items)
    ∷ array (item (string (codes "${Token[Split.1]}")) no_items)
    ∷ array (item (string (codes "#{Token[Split.1]}")) (item (string []) no_items))
    ∷ array no_items
    ∷ string (codes "#{Token[Split.1]}") ∷ [])
    ≡ None ∷ None ∷ None ∷ None ∷ None ∷ None ∷ None ∷ []
not_listed = refl
