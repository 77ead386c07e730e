use Rattle.std.proofs.Common.{◌≡◌, ◌<◌, None, Some, length, get_or, false, refl, sym, subst, ◌∙◌, arith}
use Rattle.std.proofs.lemmas.Bool.{ltb-true}
use Rattle.std.proofs.lemmas.List.{get_or_default}
use Rattle.std.proofs.lemmas.Result.{on_ok_weaker}
use Rattle.cdk_needs.proofs.SettleLemmas.{first_of, past, settles_met, settles_waiting, waits_there}
use Rattle.cdk_needs.specs.Needs.{IsFirstUnmet}
use Rattle.cdk_needs.proofs.marking.Marking.settle.Goals as goal

pub returns : goal.returns
returns c =
    let ls = c.in-Some-Some.numbers in
    let ns = c.args.needs.now in
    let m = c.args.self.now in
    let user = c.args.user in
    let at = c.first_unmet-at.result in
    let inside : user < length ns = ltb-true user (length ns) (sym c.in-Some-Some.ensures.lookup.0) in
    let needs : get_or ns user None ≡ Some ls = sym (c.in-Some-Some.ensures.lookup.1 ∙ get_or_default ns user c.in-Some-Some.field-0.now None inside) ∙ c.in-Some-Some.field-0-is in
    let within : user < length m.passed.items = omega (arith, inside, c.requires.counted.passed) in
    let unmet : get_or m.met.items user false ≡ false = subst (λ b. get_or m.met.items user b ≡ b) c.if-index.false (sym c.index.ensures) in
    let first : IsFirstUnmet ls m.met.items (get_or m.passed.items user 0) at
    = first_of ls c.as_slice.result.now m.met.items c.as_slice-2.result.now m.passed.items user c.index-2.result.now at within c.as_slice.ensures c.as_slice-2.ensures.value c.index-2.ensures c.first_unmet-at.ensures in
    let there = c.in-Some.ensures in
    let leaf : get_or ls at 0 < length m.waiting.items = omega (arith, c.requires.within user ls at needs there.within, c.requires.counted.waiting) in
    let there_now = waits_there m.waiting.items ls at user c.in-Some.number.now c.index_mut-2.result.now c.push-2.new.self leaf there.value c.index_mut-2.ensures.value in
    on_ok_weaker c.push-2.result (λ is. settles_waiting (get_or ns user None) ls m _ user at needs unmet first refl there.within (record { met = refl; waiting = there_now is; ready = refl })) c.push-2.ensures.ok

pub returns-in_default-get : goal.returns-in_default-get
returns-in_default-get c =
    let ls = c.in-Some-Some.numbers in
    let ns = c.args.needs.now in
    let m = c.args.self.now in
    let user = c.args.user in
    let at = c.first_unmet-at.result in
    let inside : user < length ns = ltb-true user (length ns) (sym c.in-Some-Some.ensures.lookup.0) in
    let needs : get_or ns user None ≡ Some ls = sym (c.in-Some-Some.ensures.lookup.1 ∙ get_or_default ns user c.in-Some-Some.field-0.now None inside) ∙ c.in-Some-Some.field-0-is in
    let within : user < length m.passed.items = omega (arith, inside, c.requires.counted.passed) in
    let unmet : get_or m.met.items user false ≡ false = subst (λ b. get_or m.met.items user b ≡ b) c.if-index.false (sym c.index.ensures) in
    let first : IsFirstUnmet ls m.met.items (get_or m.passed.items user 0) at
    = first_of ls c.as_slice.result.now m.met.items c.as_slice-2.result.now m.passed.items user c.index-2.result.now at within c.as_slice.ensures c.as_slice-2.ensures.value c.index-2.ensures c.first_unmet-at.ensures in
    let long = past ls at c.in_default-get.ensures.value in
    settles_met (get_or ns user None) ls m _ user at needs unmet first refl long (record { met = refl; waiting = refl; ready = c.in_ok-push.ensures.items })
