use Rattle.cdk_markers.proofs.Steps.{key_boundary, key_step, no_key, full_text, literal_boundary, literal_step, fewer}
use Rattle.cdk_markers.proofs.cutting.PiecesIterator.next.Goals as goal

pub range_from-self-requires : goal.range_from-self-requires
range_from-self-requires c =
    λ _. key_boundary c.args.self.now.rest.now c.in-Some.len c.as_bytes.result.now c.first_key_len.result c.as_bytes.ensures.value c.as_bytes.ensures.utf8 c.first_key_len.ensures c.in-Some.is

pub returns-in-Some-clause-steps : goal.returns-in-Some-clause-steps
returns-in-Some-clause-steps c =
    key_step c.args.self.now.rest.now c.in-Some.len c.as_bytes.result.now c.range.result.now c.range_from-self.result.now c.first_key_len.result c.as_bytes.ensures.value c.first_key_len.ensures c.in-Some.is c.range.ensures.value c.range_from-self.ensures.value

pub returns-in-Some-clause-goes : goal.returns-in-Some-clause-goes
returns-in-Some-clause-goes c =
    let step = key_step c.args.self.now.rest.now c.in-Some.len c.as_bytes.result.now c.range.result.now c.range_from-self.result.now c.first_key_len.result c.as_bytes.ensures.value c.first_key_len.ensures c.in-Some.is c.range.ensures.value c.range_from-self.ensures.value in
    record { on = λ _. (tt, tt, fewer _ _ _ step); keeps = tt; rests = λ _. tt }

pub range_from-self-requires-2 : goal.range_from-self-requires-2
range_from-self-requires-2 c =
    λ _. literal_boundary c.args.self.now.rest.now c.literal_len-end.result c.as_bytes-2.result.now c.as_bytes-2.ensures.value c.literal_len-end.ensures

pub range-requires-2-clause-end_boundary : goal.range-requires-2-clause-end_boundary
range-requires-2-clause-end_boundary c =
    literal_boundary c.args.self.now.rest.now c.literal_len-end.result c.as_bytes-2.result.now c.as_bytes-2.ensures.value c.literal_len-end.ensures

pub returns-clause-steps : goal.returns-clause-steps
returns-clause-steps c =
    let full = full_text c.args.self.now.rest.now c.is_empty.result c.is_empty.ensures c.if-is_empty.false in
    let none = no_key c.args.self.now.rest.now c.as_bytes.result.now c.first_key_len.result c.as_bytes.ensures.value c.first_key_len.ensures c.in_default.is in
    literal_step c.args.self.now.rest.now c.literal_len-end.result c.as_bytes-2.result.now c.range-2.result.now c.range_from-self-2.result.now full none c.as_bytes-2.ensures.value c.literal_len-end.ensures c.range-2.ensures.value c.range_from-self-2.ensures.value

pub returns-clause-goes : goal.returns-clause-goes
returns-clause-goes c =
    let full = full_text c.args.self.now.rest.now c.is_empty.result c.is_empty.ensures c.if-is_empty.false in
    let none = no_key c.args.self.now.rest.now c.as_bytes.result.now c.first_key_len.result c.as_bytes.ensures.value c.first_key_len.ensures c.in_default.is in
    let step = literal_step c.args.self.now.rest.now c.literal_len-end.result c.as_bytes-2.result.now c.range-2.result.now c.range_from-self-2.result.now full none c.as_bytes-2.ensures.value c.literal_len-end.ensures c.range-2.ensures.value c.range_from-self-2.ensures.value in
    record { on = λ _. (tt, tt, fewer _ _ _ step); keeps = tt; rests = λ _. tt }
