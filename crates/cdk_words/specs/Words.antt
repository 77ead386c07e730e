-- The plain words of a command: its name, its positional words, and the words of its settings (own).
use Rattle.std.specs.Prelude.{ℕ, ⊤, ◌&&◌, if◌then◌else◌, List, [], ◌∷◌, Option, Some, None, codes}
use Rattle.std.specs.List.{list_all}
use Rattle.std.specs.Str.{bytes_eq}
use Rattle.cdk_base.specs.declared.Setting.{Setting}
use Rattle.cdk_words.specs.Settings.{is_plain_word, is_setting_word, settings_in}
use Rattle.cdk_words.specs.declared.words.Command.{Command}
use Rattle.cdk_words.specs.declared.words.Command.TheVariants.{Synth, Eval}

-- a command with its positional words and its settings
pub data CommandWords : Type 0 where
  -- `synth APP OUTDIR [KEY=VALUE]...`
  SynthWords : List ℕ → List ℕ → List Setting → CommandWords
  -- `eval DIR VALUES`
  EvalWords : List ℕ → List ℕ → CommandWords

-- any number of settings may follow APP and OUTDIR
abbrev pub synth_in : List ℕ → List ℕ → List (List ℕ) → Option CommandWords
synth_in app directory further =
    if is_plain_word app && is_plain_word directory && list_all is_setting_word further then Some (SynthWords app directory (settings_in further))
    else None

-- nothing may follow DIR and VALUES
abbrev pub eval_in : List ℕ → List ℕ → List (List ℕ) → Option CommandWords
eval_in directory values [] = if is_plain_word directory && is_plain_word values then Some (EvalWords directory values) else None
eval_in directory values (w ∷ ws) = None

-- the command of a list of words, where they are plain
abbrev pub command_of : List (List ℕ) → Option CommandWords
command_of (name ∷ first ∷ second ∷ further) =
    if bytes_eq name (codes "synth") then synth_in first second further
    else (if bytes_eq name (codes "eval") then eval_in first second further
    else None)
command_of _ = None

-- what a command of the program stands for
abbrev pub words_of : Command → CommandWords
words_of (Synth app directory settings) = SynthWords app.now directory.now (settings_in settings.now)
words_of (Eval directory values) = EvalWords directory.now values.now

-- said of APP, OUTDIR and the settings where the command is `synth`
abbrev pub OnSynth : Option CommandWords → (List ℕ → List ℕ → List Setting → Type 0) → Type 0
OnSynth (Some (SynthWords app directory settings)) says = says app directory settings
OnSynth _ says = ⊤

-- said of DIR and VALUES where the command is `eval`
abbrev pub OnEval : Option CommandWords → (List ℕ → List ℕ → Type 0) → Type 0
OnEval (Some (EvalWords directory values)) says = says directory values
OnEval _ says = ⊤
