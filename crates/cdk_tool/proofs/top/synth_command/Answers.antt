use Rattle.std.proofs.Common.{◌≡◌, ap, ◌∙◌, map, subst}
use Rattle.cdk_write.specs.Steps.{step_view, files_after_all}
use Rattle.cdk_synthesis.specs.Assembly.{assembly_of, AllUtf8}
use Rattle.cdk_words.specs.Settings.{settings_in}
use Rattle.cdk_tool.specs.Assembly.{steps_of}
use Rattle.cdk_tool.proofs.CauseLemmas.{told_refusal, cut_is}
use Rattle.cdk_tool.proofs.HeadlineLemmas.{meaning_is_kept}
use Rattle.cdk_tool.proofs.top.synth_command.Goals as goal

pub returns-in-Ok-steps_of-clause-cut : goal.returns-in-Ok-steps_of-clause-cut
returns-in-Ok-steps_of-clause-cut g c = λ is.
    let ok = c.in-Ok.ensures.ok in
    let steps = ap (map step_view) c.as_slice-in-Ok-steps_of.ensures.value ∙ c.in-Ok-steps_of.ensures ∙ ap (steps_of c.args.directory.now) (c.as_slice.ensures ∙ ok.3) in
    cut_is c.args.app.now c.args.directory.now ok.0 (settings_in c.args.settings.now) _ _ _ _ _ _ _ _ _ _ _ _ ok.1 ok.2 steps c.in-Ok.ensures.files c.in-Ok.ensures.directories (c.perform.ensures.cut is)

pub returns-in-Ok-steps_of-clause-meaning : goal.returns-in-Ok-steps_of-clause-meaning
returns-in-Ok-steps_of-clause-meaning g c = λ is.
    let settings = settings_in c.args.settings.now in
    let ok = c.in-Ok.ensures.ok in
    let steps : map step_view c.as_slice-in-Ok-steps_of.result.now ≡ steps_of c.args.directory.now (assembly_of ok.0 settings) = ap (map step_view) c.as_slice-in-Ok-steps_of.ensures.value ∙ c.in-Ok-steps_of.ensures ∙ ap (steps_of c.args.directory.now) (c.as_slice.ensures ∙ ok.3) in
    meaning_is_kept c.files_keep_meaning.ensures c.args.app.now c.args.directory.now ok.0 settings _ _ ok.1 ok.2 ok.4 (subst AllUtf8 ok.3 ok.5) (c.perform.ensures.done is ∙ (λ i. files_after_all (steps i) (c.in-Ok.ensures.files i)))

pub returns-clause-fault : goal.returns-clause-fault
returns-clause-fault g c = λ is. told_refusal _ _ _ _ _ _ _ _ _ _ _ _ is c.in-Err.ensures.refused c.refuse.ensures
