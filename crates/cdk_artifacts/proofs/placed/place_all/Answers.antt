use Rattle.std.proofs.Common.{ℕ, ◌≤◌, List, map, sym, ap, subst, arith}
use Rattle.std.proofs.lemmas.List.{length-map}
use Rattle.cdk_artifacts.specs.Found.{stack_view, has_name}
use Rattle.cdk_artifacts.specs.Files.{file_view}
use Rattle.cdk_artifacts.specs.Queued.{occurrences, waits, Releases}
use Rattle.cdk_artifacts.proofs.Placing.{got_at, begins, ends, stops, steps, enough, number_within}
use Rattle.cdk_artifacts.proofs.placed.place_all.Goals as goal

pub placing-init : goal.placing-init
placing-init c =
    begins (map stack_view c.args.stacks.now) (map file_view c.args.placed.now.files.items) (has_name c.args.placed.now.ids) c.args.queue.now
    (ap (map file_view) c.requires.no_files) c.requires.no_ids c.requires.queue

pub returns-clause-files : goal.returns-clause-files
returns-clause-files c = (ends (map stack_view c.args.stacks.now) c.placing._turn _ _ c.placing.queue c.placing.invariant (omega (arith, length-map c.args.stacks.now stack_view))).0

pub returns-clause-ids : goal.returns-clause-ids
returns-clause-ids c = (ends (map stack_view c.args.stacks.now) c.placing._turn _ _ c.placing.queue c.placing.invariant (omega (arith, length-map c.args.stacks.now stack_view))).1

pub returns-in_default-clause-files : goal.returns-in_default-clause-files
returns-in_default-clause-files c = (stops (map stack_view c.args.stacks.now) c.placing._turn _ _ c.placing.queue c.placing.invariant c.in_default.ensures).0

pub returns-in_default-clause-ids : goal.returns-in_default-clause-ids
returns-in_default-clause-ids c = (stops (map stack_view c.args.stacks.now) c.placing._turn _ _ c.placing.queue c.placing.invariant c.in_default.ensures).1

pub stack_at-stack-requires : goal.stack_at-stack-requires
stack_at-stack-requires c =
    let inside = number_within (map stack_view c.args.stacks.now) c.placing.invariant.before c.placing.queue c.in-Some.number c.placing.invariant.queued c.in-Some.ensures.0 in
    omega (arith, inside, length-map c.args.stacks.now stack_view)

pub release-requires : goal.release-requires
release-requires c k =
    let ss = map stack_view c.args.stacks.now in
    let inside = number_within ss c.placing.invariant.before c.placing.queue c.in-Some.number c.placing.invariant.queued c.in-Some.ensures.0 in
    let here = got_at c.args.stacks.now c.in-Some.number c.stack_at-stack.result.now c.stack_at-stack.ensures in
    let room = enough ss c.requires.apart c.placing._turn _ _ c.placing.queue c.next.new.self c.args.dependents.now (stack_view c.stack_at-stack.result.now) c.in-Some.number c.placing.invariant here c.in-Some.ensures c.requires.dependents k in
    subst (λ (xs : List ℕ). occurrences k xs ≤ waits c.next.new.self k) (sym c.of.ensures) room

pub placing-preserved : goal.placing-preserved
placing-preserved c =
    let ss = map stack_view c.args.stacks.now in
    let s = stack_view c.stack_at-stack.result.now in
    let here = got_at c.args.stacks.now c.in-Some.number c.stack_at-stack.result.now c.stack_at-stack.ensures in
    let released = subst (λ (xs : List ℕ). Releases xs c.next.new.self c.release.new.self) c.of.ensures c.in_ok-release.ensures in
    steps ss c.requires.apart c.placing._turn _ _ c.placing.queue c.next.new.self c.args.dependents.now s c.in-Some.number c.placing.invariant here c.in-Some.ensures c.requires.dependents
    c.release.new.self _ _ (omega (arith, length-map c.args.stacks.now stack_view)) released c.in_ok-place.ensures.files c.in_ok-place.ensures.ids
