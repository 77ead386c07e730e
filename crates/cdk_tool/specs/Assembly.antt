-- The steps of writing an assembly (own).
use Rattle.std.specs.Prelude.{ℕ, List, ◌∷◌, map, codes}
use Rattle.cdk_synthesis.specs.declared.files.File.{File}
use Rattle.cdk_write.specs.Steps.{WriteStep, make_directory, remove, put, path_in}

abbrev pub put_in : List ℕ → File → WriteStep
put_in directory f = put (path_in directory f.name) f.bytes

-- Its directory is made, the manifest of before is taken out, and the files are put in order.
abbrev pub steps_of : List ℕ → List File → List WriteStep
steps_of directory files = make_directory directory ∷ remove (path_in directory (codes "manifest.json")) ∷ map (put_in directory) files
