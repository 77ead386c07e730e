use Rattle.std.proofs.Common.{ℕ, Option, option_and_then, sym, ap, ◌∙◌}
use Rattle.std.specs.BTreeMap.{get_by_text}
use Rattle.cdk_homes.specs.Places.{place_in, place_of}
use Rattle.cdk_homes.specs.declared.places.Places.{Places}
use Rattle.cdk_homes.proofs.index.Index.get.Goals as goal

-- the places of the attribute
pub returns-in-Some-get : goal.returns-in-Some-get
returns-in-Some-get c =
    let index = c.args.self.now in
    let at = c.args.target.now.at in
    let places = c.in-Some-get.places.now in
    let f : Places → Option ℕ = λ p. place_of p c.args.consumer at in
    c.get-in-Some-get.ensures
    ∙ ap (λ n. place_of places n c.number-at.result) c.number-consumer.ensures
    ∙ ap (λ n. place_of places c.args.consumer n) c.number-at.ensures
    ∙ ap (option_and_then f) c.in-Some-get.ensures.value
    ∙ ap (λ b. option_and_then f (get_by_text index.attributes b)) c.as_str.ensures
    ∙ ap (place_in index c.args.consumer at) (sym c.in-Some.is)
