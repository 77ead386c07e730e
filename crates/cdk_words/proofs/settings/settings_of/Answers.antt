use Rattle.std.proofs.Common.{◌≡◌, arith}
use Rattle.std.proofs.lemmas.Grind.{common_steps}
use Rattle.cdk_words.specs.Settings.{settings_in}
use Rattle.cdk_words.proofs.Cuts.{plain_keys, spelled-settings_in}
use Rattle.cdk_words.proofs.settings.settings_of.Goals as goal

pub returns-clause-spelled : goal.returns-clause-spelled
returns-clause-spelled c =
    let all : c.loop-word.settings ≡ settings_in c.args.words.now = grind (arith, common_steps) in
    spelled-settings_in c.args.words.now c.loop-word.settings all

pub returns-clause-keys : goal.returns-clause-keys
returns-clause-keys c =
    let all : c.loop-word.settings ≡ settings_in c.args.words.now = grind (arith, common_steps) in
    plain_keys c.args.words.now c.loop-word.settings all
