use Rattle.std.proofs.Common.{ap, ◌∙◌, ◌++◌}
use Rattle.cdk_memory.proofs.StoredLemmas.{directory_is, directory_lies}
use Rattle.cdk_memory.proofs.stored.add_directory.Goals as goal

pub returns-clause-directories : goal.returns-clause-directories
returns-clause-directories c =
    directory_is c.args.store.now.items c.args.name.now _ c.args.names.now.items _ c.append-part.result (c.append-part.ensures.items ∙ ap (λ n. c.args.store.now.items ++ n) c.as_bytes.ensures.value) (c.append-part.ensures.part ∙ c.as_bytes.ensures.value) c.requires.lies c.in-Ok.ensures.items

pub returns-clause-lies : goal.returns-clause-lies
returns-clause-lies c =
    directory_lies c.args.store.now.items c.args.name.now _ c.args.names.now.items _ c.append-part.result (c.append-part.ensures.items ∙ ap (λ n. c.args.store.now.items ++ n) c.as_bytes.ensures.value) c.append-part.ensures.lies c.requires.lies c.in-Ok.ensures.items
