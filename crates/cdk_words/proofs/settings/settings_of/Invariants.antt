use Rattle.std.proofs.Common.{◌≡◌, ◌++◌, drop}
use Rattle.cdk_words.specs.Settings.{settings_in}
use Rattle.cdk_words.proofs.settings.settings_of.Given as goal

abbrev pub invariant-loop-word : goal.invariant-loop-word
invariant-loop-word l = settings_in l.words ≡ l.settings ++ settings_in (drop l.word-index l.words)
