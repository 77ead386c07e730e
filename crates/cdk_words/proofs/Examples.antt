-- Small lines of words, and the commands that they are.
use Rattle.std.proofs.Common.{◌≡◌, List, ℕ, [], ◌∷◌, codes, Some, None, refl}
use Rattle.cdk_base.specs.declared.Setting.{Setting}
use Rattle.cdk_words.specs.Settings.{setting_in}
use Rattle.cdk_words.specs.Words.{SynthWords, EvalWords, command_of}

abbrev setting : List ℕ → List ℕ → Setting
setting k v = record { key = k; value = v }

-- ---- words cut at their first `=`

cut_once : setting_in (codes "stage=prod") ≡ setting (codes "stage") (codes "prod")
cut_once = refl

cut_at_the_first : setting_in (codes "a=b=c") ≡ setting (codes "a") (codes "b=c")
cut_at_the_first = refl

cut_before_nothing : setting_in (codes "a=") ≡ setting (codes "a") []
cut_before_nothing = refl

cut_of_no_equals : setting_in (codes "a") ≡ setting (codes "a") []
cut_of_no_equals = refl

cut_of_no_key : setting_in (codes "=a") ≡ setting [] (codes "a")
cut_of_no_key = refl

-- ---- lines of words

no_words : command_of [] ≡ None
no_words = refl

other_name : command_of (codes "list" ∷ codes "app.json" ∷ codes "out" ∷ []) ≡ None
other_name = refl

synth : command_of (codes "synth" ∷ codes "app.json" ∷ codes "out" ∷ []) ≡ Some (SynthWords (codes "app.json") (codes "out") [])
synth = refl

synth_with_settings : command_of (codes "synth" ∷ codes "app.json" ∷ codes "out" ∷ codes "k=v" ∷ codes "k==" ∷ codes "j=" ∷ []) ≡ Some (SynthWords (codes "app.json") (codes "out") (setting (codes "k") (codes "v") ∷ setting (codes "k") (codes "=") ∷ setting (codes "j") [] ∷ []))
synth_with_settings = refl

equals_in_positional_words : command_of (codes "synth" ∷ codes "a=b" ∷ codes "=c" ∷ []) ≡ Some (SynthWords (codes "a=b") (codes "=c") [])
equals_in_positional_words = refl

synth_of_one_word : command_of (codes "synth" ∷ codes "app.json" ∷ []) ≡ None
synth_of_one_word = refl

third_word_of_no_equals : command_of (codes "synth" ∷ codes "app.json" ∷ codes "out" ∷ codes "kv" ∷ []) ≡ None
third_word_of_no_equals = refl

setting_of_no_key : command_of (codes "synth" ∷ codes "app.json" ∷ codes "out" ∷ codes "=v" ∷ []) ≡ None
setting_of_no_key = refl

setting_of_no_key_twice : command_of (codes "synth" ∷ codes "app.json" ∷ codes "out" ∷ codes "==v" ∷ []) ≡ None
setting_of_no_key_twice = refl

setting_that_begins_with_a_dash : command_of (codes "synth" ∷ codes "app.json" ∷ codes "out" ∷ codes "k=v" ∷ codes "-k=v" ∷ []) ≡ None
setting_that_begins_with_a_dash = refl

empty_word : command_of (codes "synth" ∷ codes "app.json" ∷ [] ∷ codes "k=v" ∷ []) ≡ None
empty_word = refl

empty_setting : command_of (codes "synth" ∷ codes "app.json" ∷ codes "out" ∷ [] ∷ []) ≡ None
empty_setting = refl

dash : command_of (codes "synth" ∷ codes "--" ∷ codes "app.json" ∷ codes "out" ∷ []) ≡ None
dash = refl

evaluation : command_of (codes "eval" ∷ codes "out" ∷ codes "v.json" ∷ []) ≡ Some (EvalWords (codes "out") (codes "v.json"))
evaluation = refl

evaluation_with_a_setting : command_of (codes "eval" ∷ codes "out" ∷ codes "v.json" ∷ codes "k=v" ∷ []) ≡ None
evaluation_with_a_setting = refl

evaluation_of_a_dash : command_of (codes "eval" ∷ codes "out" ∷ codes "-" ∷ []) ≡ None
evaluation_of_a_dash = refl
