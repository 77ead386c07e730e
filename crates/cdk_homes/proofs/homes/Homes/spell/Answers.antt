use Rattle.std.proofs.Common.{Some, None, option_map, sym, ap, ◌∙◌}
use Rattle.cdk_homes.specs.Homes.{spelling_of}
use Rattle.cdk_homes.specs.Kept.{entries_in}
use Rattle.cdk_homes.specs.Views.{spelling_view}
use Rattle.cdk_homes.proofs.EntryLemmas.{spelled_at}
use Rattle.cdk_homes.proofs.homes.Homes.spell.Goals as goal

-- no place
pub returns-in_err-place : goal.returns-in_err-place
returns-in_err-place c =
    let x = c.args.consumer in
    let target = c.args.target.now in
    ap (option_map spelling_view) c.from_residual.ensures
    ∙ spelled_at (entries_in c.args.self.now) x target.at target.attribute None
    (sym c.in_err-place.was ∙ c.get.ensures ∙ c.args.self.now.indexed x target.at target.attribute)

-- no entry at the place
pub returns-in_err-entry : goal.returns-in_err-entry
returns-in_err-entry c =
    let x = c.args.consumer in
    let target = c.args.target.now in
    ap (option_map spelling_view) c.from_residual-in_err-entry.ensures
    ∙ ap (option_map spelling_of) c.in_err-entry.ensures
    ∙ spelled_at (entries_in c.args.self.now) x target.at target.attribute (Some c.in_ok-place.place)
    (sym c.in_ok-place.was ∙ c.get.ensures ∙ c.args.self.now.indexed x target.at target.attribute)

-- the entry at the place
pub returns : goal.returns
returns c =
    let x = c.args.consumer in
    let target = c.args.target.now in
    ap Some c.spelling.ensures
    ∙ ap (option_map spelling_of) c.in_ok-entry.ensures
    ∙ spelled_at (entries_in c.args.self.now) x target.at target.attribute (Some c.in_ok-place.place)
    (sym c.in_ok-place.was ∙ c.get.ensures ∙ c.args.self.now.indexed x target.at target.attribute)
