use Rattle.std.proofs.Common.{◌≡◌, [], length, get_or, subst, sym, ap, ◌∙◌, ◌<◌, arith}
use Rattle.std.proofs.lemmas.List.{get_or_default}
use Rattle.std.proofs.Math.ListN.{set}
use Rattle.cdk_needs.specs.Needs.{IsMarkingOf}
use Rattle.cdk_needs.proofs.MarkingLemmas.{marking-told, found_within}
use Rattle.cdk_needs.proofs.marking.Marking.spread.Goals as goal

pub index_mut-requires : goal.index_mut-requires
index_mut-requires c =
    let ns = c.args.needs.now in
    let m = c.loop-found.self in
    let before = subst (λ r. IsMarkingOf ns (length ns) [] m.passed.items m.met.items m.waiting.items r) c.in-Some.ensures.items c.loop-found.invariant in
    omega (arith, found_within ns m.passed.items m.met.items m.waiting.items c.pop.new.self.items c.in-Some.found before, before.waiting_count)

pub settle_all-requires-clause-marking : goal.settle_all-requires-clause-marking
settle_all-requires-clause-marking c =
    let ns = c.args.needs.now in
    let m = c.loop-found.self in
    let f = c.in-Some.found in
    let before = subst (λ r. IsMarkingOf ns (length ns) [] m.passed.items m.met.items m.waiting.items r) c.in-Some.ensures.items c.loop-found.invariant in
    let told = marking-told ns m.passed.items m.met.items m.waiting.items c.pop.new.self.items f before in
    let w = m.waiting.items in
    let within : f < length w = omega (arith, found_within ns m.passed.items m.met.items w c.pop.new.self.items f before, before.waiting_count) in
    let users : get_or w f [] ≡ c.as_slice.result.now = get_or_default w f [] c.index_mut.result.now within ∙ sym (c.as_slice.ensures ∙ c.replace-users.ensures.value ∙ c.index_mut.ensures.value) in
    let emptied : set w f [] ≡ set w f c.replace-users.new.dest = ap (set w f) (sym (c.replace-users.ensures.after ∙ c.new.ensures)) in
    subst (λ ws. IsMarkingOf ns (length ns) c.as_slice.result.now m.passed.items m.met.items ws c.pop.new.self.items) emptied
    (subst (λ us. IsMarkingOf ns (length ns) us m.passed.items m.met.items (set w f []) c.pop.new.self.items) users told)
